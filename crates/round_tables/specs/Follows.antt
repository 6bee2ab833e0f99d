-- That the canonical run of some programs goes as a table says.
use Rattle.std.specs.Prelude.{◌≡◌, ◌<◌, ℕ, List, map}
use Rattle.std.specs.List.{range_with_len}
use Rattle.round_program.specs.Rules.{Rules}
use Rattle.round_program.specs.Canonical.{absorbed_round, states_at, HasRounds}
use Rattle.sparse_rows.specs.Emits.{Emit}
use Rattle.round_tables.specs.Tables.{Table}

-- In round n of a run there are so many ranks, and each votes what is said of its number.
abbrev pub Vote : {S : Type 0} → Rules S → List S → ℕ → ℕ → (ℕ → ℕ) → Type 0
Vote R starts n ranks vote = map R.vote (absorbed_round R (states_at R starts n)) ≡ map vote (range_with_len 0 ranks)

-- The run has the table's rounds; in each every rank sends its line and casts its vote.
pub record FollowsTable {S : Type 0} (R : Rules S) (starts : List S) (ranks : ℕ) (t : Table) : Type 0 where
  pub has_rounds : HasRounds R starts t.rounds
  pub sent : (n : ℕ) → n < t.rounds → Emit R starts n ranks (t.line n)
  pub voted : (n : ℕ) → n < t.rounds → Vote R starts n ranks (t.vote n)

-- There is such a table, of which more is said.
pub record HasTable {S : Type 0} (R : Rules S) (starts : List S) (ranks : ℕ) (Is : Table → Type 0) : Type 0 where
  pub table : Table
  pub is : Is table
  pub follows : FollowsTable R starts ranks table
