-- The letters theorem: letters arrive whole, in order and each once, and mailers compute what their
-- letter programs do.
use Rattle.std.specs.Prelude.{ℕ, ◌≡◌, List, map}
use Rattle.std.specs.List.{All, flat_map}
use Rattle.list_laws.specs.Lists.{IsPrefix}
use Rattle.bale_items.specs.declared.Item.{Item}
use Rattle.round_program.specs.Laws.{Fits}
use Rattle.round_program.specs.Canonical.{items_of, emitted_by, states_at, votes_at, HasRounds, InRound, HaveEnded}
use Rattle.round_program.specs.Orders.{absorb_each}
use Rattle.elastic.specs.Spelling.{IsLetter, spelling, letters_of}
use Rattle.elastic.specs.LetterRules.{LetterRules}
use Rattle.elastic.specs.LetterRuns.{letters_by, letters_upto, letter_states, letter_votes_at, HasLetterRounds}
use Rattle.elastic.specs.LetterRuns.{InLetterRound}
use Rattle.elastic.specs.Mails.{MailState, mailing, mail_rules}

-- The letters of a list of spellings are the letters spelled.
abbrev pub SpellingsAreRead : Type 0
SpellingsAreRead = (ls : List (List ℕ)) → All IsLetter ls → letters_of (flat_map spelling ls) ≡ ls

-- And the letters of a prefix of any list are a prefix of its letters.
abbrev pub FrontsAreRead : Type 0
FrontsAreRead = (front whole : List Item) → IsPrefix front whole → IsPrefix (letters_of front) (letters_of whole)

-- After each absorb, in whatever order the items of the senders came, the letter program has
-- absorbed from each sender the letters of the items absorbed from it.
abbrev pub EachLetterOnce : {S : Type 0} → LetterRules S → Type 0
EachLetterOnce {S} R =
    (s : S) (came : List (ℕ × Item)) → R.valid s → All (λ e. Fits (mail_rules R) (mailing R s) e.0 e.1) came
    → (absorb_each (mail_rules R) (mailing R s) came).inner
    ≡ letters_upto R s (λ f. letters_of (items_of f came)) (R.ranks s)

-- The canonical run of mailers is that of their letter programs: states, votes and rounds are the
-- same, and what a rank is sent spells the letters that it is sent.
pub record SameLetterRuns {S : Type 0} (R : LetterRules S) (p : ℕ) (shape : List ℕ) (most : ℕ)
    (starts : List S) : Type 0 where
  pub in_round : InRound (mail_rules R) p 0 shape most (map (mailing R) starts)
  pub states : (n : ℕ)
      → states_at (mail_rules R) (map (mailing R) starts) n ≡ map (mailing R) (letter_states R starts n)
  pub sent : (n to from : ℕ) → emitted_by (mail_rules R) (map (mailing R) (letter_states R starts n)) to from
      ≡ flat_map spelling (letters_by R (letter_states R starts n) to from)
  pub votes : (n : ℕ) → votes_at (mail_rules R) (map (mailing R) starts) n ≡ letter_votes_at R starts n
  pub rounds : (n : ℕ) → HasLetterRounds R starts n → HasRounds (mail_rules R) (map (mailing R) starts) n
  pub rounds_back : (n : ℕ) → HasRounds (mail_rules R) (map (mailing R) starts) n → HasLetterRounds R starts n
  pub ended : (ends : List (MailState S)) → HaveEnded (mail_rules R) (map (mailing R) starts) ends
      → (n : ℕ) × HasLetterRounds R starts n × (ends ≡ map (mailing R) (letter_states R starts n))

abbrev pub MailersRunLetters : {S : Type 0} → LetterRules S → Type 0
MailersRunLetters {S} R =
    (p : ℕ) (shape : List ℕ) (most : ℕ) (starts : List S) → InLetterRound R p 0 shape most starts
    → SameLetterRuns R p shape most starts
