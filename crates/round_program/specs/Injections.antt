-- One program as a case of another: a type that stands for several applications runs each of them
-- as it is.
use Rattle.std.specs.Prelude.{ℕ, ◌<◌, ◌≡◌, List, length, map}
use Rattle.bale_items.specs.declared.Item.{Item}
use Rattle.round_program.specs.Rules.{Rules}
use Rattle.round_program.specs.Canonical.{emitted_by, absorbed_round, states_at, votes_at, items_at, HasRounds}
use Rattle.round_program.specs.Canonical.{EndsWithin, HaveEnded, InRound}

-- Q does with the states `inject s` what R does with the states s. The shapes of Q's runs are those
-- of R, wrapped, so that programs of two cases are in no run together.
-- With Q one of two programs, A or B, `inject` puts a state of A first, and `wrap` writes before
-- its shape that it is A's.
pub record Injects {S T : Type 0} (R : Rules S) (Q : Rules T) (inject : S → T) (wrap : List ℕ → List ℕ) : Type 0 where
  pub once : (s t : S) → inject s ≡ inject t → s ≡ t
  pub valid : (s : S) → R.valid s → Q.valid (inject s)
  pub rank : (s : S) → Q.rank (inject s) ≡ R.rank s
  pub ranks : (s : S) → Q.ranks (inject s) ≡ R.ranks s
  pub round : (s : S) → Q.round (inject s) ≡ R.round s
  pub shape : (s : S) → Q.shape (inject s) ≡ wrap (R.shape s)
  pub most : (s : S) → Q.most (inject s) ≡ R.most s
  pub emissions : (s : S) → Q.emissions (inject s) ≡ R.emissions s
  pub vote : (s : S) → Q.vote (inject s) ≡ R.vote s
  pub goes_on : (shape : List ℕ) (round votes : ℕ) → Q.goes_on (wrap shape) round votes ≡ R.goes_on shape round votes
  pub absorbed : (s : S) (from : ℕ) (x : Item) → Q.absorbed (inject s) from x ≡ inject (R.absorbed s from x)
  pub ended : (s : S) (votes : ℕ) → Q.ended (inject s) votes ≡ inject (R.ended s votes)

-- Then a run of injected programs is the run of the programs, injected: states, emissions, votes
-- and rounds are the same.
pub record SameRuns {S T : Type 0} (R : Rules S) (Q : Rules T) (inject : S → T) (wrap : List ℕ → List ℕ) : Type 0 where
  pub states : (starts : List S) (n : ℕ) → states_at Q (map inject starts) n ≡ map inject (states_at R starts n)
  pub absorbed : (ss : List S) → absorbed_round Q (map inject ss) ≡ map inject (absorbed_round R ss)
  pub emitted : (ss : List S) (to from : ℕ) → emitted_by Q (map inject ss) to from ≡ emitted_by R ss to from
  pub votes : (starts : List S) (n : ℕ) → votes_at Q (map inject starts) n ≡ votes_at R starts n
  pub items : (starts : List S) (n : ℕ) → items_at Q (map inject starts) n ≡ items_at R starts n
  pub in_round : (p n : ℕ) (shape : List ℕ) (most : ℕ) (ss : List S) → InRound R p n shape most ss
      → InRound Q p n (wrap shape) most (map inject ss)
  pub has_rounds : (starts : List S) (n : ℕ) → 0 < length starts → HasRounds R starts n
      → HasRounds Q (map inject starts) n
  pub rounds_back : (starts : List S) (n : ℕ) → 0 < length starts → HasRounds Q (map inject starts) n
      → HasRounds R starts n
  pub ends_within : (starts : List S) (most : ℕ) → 0 < length starts → EndsWithin R starts most
      → EndsWithin Q (map inject starts) most
  pub have_ended : (starts ends : List S) → 0 < length starts → HaveEnded Q (map inject starts) (map inject ends)
      → HaveEnded R starts ends
