-- A mailer: a program that carries the letters of a letter program as items.
use Rattle.std.specs.Prelude.{ℕ, ◌==◌, ◌<◌, ◌≡◌, ◌&&◌, nat_lt, Bool, false, List, [], ◌∷◌, ◌++◌, length, map, replicate}
use Rattle.std.specs.Prelude.{if◌then◌else◌}
use Rattle.std.specs.Prelude.{slice_set, slice_index_or}
use Rattle.std.specs.List.{All, flat_map}
use Rattle.bale_items.specs.declared.Item.{Item}
use Rattle.round_program.specs.Rules.{Rules}
use Rattle.round_program.specs.Laws.{IsItem, is_item}
use Rattle.elastic.specs.LetterRules.{LetterRules}
use Rattle.elastic.specs.Spelling.{spelling, further, length_in, letter_from}

-- One rank's mailer over a letter program whose state is S.
pub record MailState (S : Type 0) : Type 0 where
  -- the letter program
  pub inner : S
  -- what is sent in this round
  pub outgoing : List (ℕ × Item)
  -- the items of the letter that each sender has begun
  pub begun : List (List Item)

-- The spellings of letters, each item with the rank that its letter goes to.
abbrev pub spelling_of : List (ℕ × List ℕ) → List (ℕ × Item)
spelling_of letters = flat_map (λ e. map (λ x. (e.0, x)) (spelling e.1)) letters

-- The mailer of a letter program as a round begins: all its letters are to be sent, and no sender
-- has begun one.
abbrev pub mailing : {S : Type 0} → LetterRules S → S → MailState S
mailing R s = record { inner = s; outgoing = spelling_of (R.letters s); begun = replicate (R.ranks s) [] }

-- Whether items are a whole letter, if they are no more than one.
abbrev pub is_whole : List Item → Bool
is_whole [] = false
is_whole (x ∷ xs) = length xs == further (length_in x)

-- The letter of items that are one letter.
abbrev pub letter_of : List Item → List ℕ
letter_of [] = []
letter_of (x ∷ xs) = letter_from x xs

-- What a sender has begun, with one more item.
abbrev pub with_next_item : List (List Item) → ℕ → Item → List Item
with_next_item begun from x = slice_index_or begun from [] ++ x ∷ []

-- What all senders have begun after one more item: a letter that is whole isn't begun any more.
abbrev pub begun_after : List (List Item) → ℕ → Item → List (List Item)
begun_after begun from x =
    slice_set begun from (if is_whole (with_next_item begun from x) then [] else with_next_item begun from x)

-- One more item was absorbed. If it makes a letter whole, the letter program absorbs the letter.
abbrev pub item_absorbed : {S : Type 0} → LetterRules S → MailState S → ℕ → Item → MailState S
item_absorbed R s from x =
    record s {
      inner = if is_whole (with_next_item s.begun from x)
          then R.absorbed s.inner from (letter_of (with_next_item s.begun from x)) else s.inner;
      begun = begun_after s.begun from x;
    }

-- Any item may be sent, from a rank to a rank.
abbrev pub may_carry : ℕ → ℕ → ℕ → Item → Bool
may_carry ranks to from x = nat_lt to ranks && nat_lt from ranks && is_item x

-- The letter program is in order, what is sent are items to ranks, and each rank is a sender.
pub record IsMail {S : Type 0} (R : LetterRules S) (s : MailState S) : Type 0 where
  pub inner : R.valid s.inner
  pub own : R.rank s.inner < R.ranks s.inner
  pub sent : All (λ e. (e.0 < R.ranks s.inner) × IsItem e.1) s.outgoing
  pub senders : length s.begun ≡ R.ranks s.inner

abbrev pub mail_rules : {S : Type 0} → LetterRules S → Rules (MailState S)
mail_rules R =
    record {
      valid = IsMail R;
      rank = λ s. R.rank s.inner;
      ranks = λ s. R.ranks s.inner;
      round = λ s. R.round s.inner;
      shape = λ s. R.shape s.inner;
      most = λ s. R.most s.inner;
      emissions = λ s. s.outgoing;
      may_be_sent = λ shape ranks round to from x. may_carry ranks to from x;
      absorbed = item_absorbed R;
      vote = λ s. R.vote s.inner;
      goes_on = R.goes_on;
      ended = λ s votes. mailing R (R.ended s.inner votes);
    }
