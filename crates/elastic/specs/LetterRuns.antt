-- The canonical run of letter programs: what all ranks compute together, with no word on items.
use Rattle.std.specs.Prelude.{ℕ, zero, suc, ◌+◌, ◌-◌, ◌^◌, ◌<◌, ◌≡◌, ◌==◌, min, true, false, List, [], ◌∷◌, Option}
use Rattle.std.specs.Prelude.{None, Some, map, length, slice_get}
use Rattle.std.specs.List.{filter, fold, sum_by}
use Rattle.elastic.specs.LetterRules.{LetterRules}

-- The letters that a program sends to rank d in its round, in order.
abbrev pub letters_to : {S : Type 0} → LetterRules S → S → ℕ → List (List ℕ)
letters_to R s d = map (λ e. e.1) (filter (λ e. e.0 == d) (R.letters s))

-- What a program sends to rank d, if there is a program.
abbrev pub letters_to_of : {S : Type 0} → LetterRules S → Option S → ℕ → List (List ℕ)
letters_to_of R None d = []
letters_to_of R (Some s) d = letters_to R s d

-- What the rank numbered f of a list of programs sends to rank d; nothing if there is no rank f.
abbrev pub letters_by : {S : Type 0} → LetterRules S → List S → ℕ → ℕ → List (List ℕ)
letters_by R ss d f = letters_to_of R (slice_get ss f) d

-- A state after letters of one sender were absorbed in order.
abbrev pub absorb_letters : {S : Type 0} → LetterRules S → S → ℕ → List (List ℕ) → S
absorb_letters R s from ls = fold (λ t l. R.absorbed t from l) s ls

-- A state after a list of letters of each of the senders 0, 1, .., n - 1 was absorbed, sender by
-- sender.
abbrev pub letters_upto : {S : Type 0} → LetterRules S → S → (ℕ → List (List ℕ)) → ℕ → S
letters_upto R s lists zero = s
letters_upto R s lists (suc n) = absorb_letters R (letters_upto R s lists n) n (lists n)

-- The programs after the absorbs of a round: each has absorbed what ranks 0, 1, .. send it, in this
-- order.
abbrev pub letters_absorbed : {S : Type 0} → LetterRules S → List S → List S
letters_absorbed R ss = map (λ s. letters_upto R s (letters_by R ss (R.rank s)) (length ss)) ss

-- The sum of the programs' votes. It saturates at 2^64 - 1.
abbrev pub letter_votes : {S : Type 0} → LetterRules S → List S → ℕ
letter_votes R ss = min (sum_by R.vote ss) (2 ^ 64 - 1)

-- The programs after a whole round: absorbs, then votes, then every rank ends the round with their
-- sum.
abbrev pub letter_round : {S : Type 0} → LetterRules S → List S → List S
letter_round R ss = map (λ s. R.ended s (letter_votes R (letters_absorbed R ss))) (letters_absorbed R ss)

-- The programs at the beginning of round n of the canonical run.
abbrev pub letter_states : {S : Type 0} → LetterRules S → List S → ℕ → List S
letter_states R starts zero = starts
letter_states R starts (suc n) = letter_round R (letter_states R starts n)

-- The sum of the votes of round n of the canonical run.
abbrev pub letter_votes_at : {S : Type 0} → LetterRules S → List S → ℕ → ℕ
letter_votes_at R starts n = letter_votes R (letters_absorbed R (letter_states R starts n))

-- The shape of a run, which all its ranks share: that of its first program.
abbrev pub letter_shape : {S : Type 0} → LetterRules S → List S → List ℕ
letter_shape R [] = []
letter_shape R (s ∷ ss) = R.shape s

-- The canonical run has n rounds: it goes on after each round but the last, whose number is n - 1.
pub record HasLetterRounds {S : Type 0} (R : LetterRules S) (starts : List S) (n : ℕ) : Type 0 where
  pub some : 0 < n
  pub goes : (m : ℕ) → m + 1 < n → R.goes_on (letter_shape R starts) m (letter_votes_at R starts m) ≡ true
  pub stops : R.goes_on (letter_shape R starts) (n - 1) (letter_votes_at R starts (n - 1)) ≡ false

-- A letter program of rank r in round n of a run of p ranks, with the shape and the bound that all
-- ranks share.
pub record LetterMember {S : Type 0} (R : LetterRules S) (p n : ℕ) (shape : List ℕ) (most r : ℕ) (s : S) : Type 0 where
  pub valid : R.valid s
  pub own_rank : R.rank s ≡ r
  pub all_ranks : R.ranks s ≡ p
  pub same_round : R.round s ≡ n
  pub same_shape : R.shape s ≡ shape
  pub same_most : R.most s ≡ most

-- The letter programs of p ranks that are in round n of one run: the program at place r has rank r.
pub record InLetterRound {S : Type 0} (R : LetterRules S) (p n : ℕ) (shape : List ℕ) (most : ℕ)
    (ss : List S) : Type 0 where
  pub size : length ss ≡ p
  pub each : (r : ℕ) (s : S) → slice_get ss r ≡ Some s → LetterMember R p n shape most r s
