-- The ranks of a drive before their first turn.
use Rattle.std.specs.Prelude.{◌≡◌, ℕ, false, List, map, slice_get, Some}
use Rattle.round_program.specs.Rules.{Rules}
use Rattle.rank_node.specs.Movers.{Manner}
use Rattle.rank_node.specs.Nodes.{IsNewNode}
use Rattle.rank_group.specs.Ranks.{RankState}

-- The programs of all ranks.
abbrev pub progs_of : {S : Type 0} → List (RankState S) → List S
progs_of rs = map (λ n. n.node.run.prog) rs

-- Rank r before its first turn.
pub record IsFreshRank {S : Type 0} (R : Rules S) (dims : List ℕ) (cap : ℕ) (manner : Manner) (r : ℕ)
    (n : RankState S) : Type 0 where
  pub on : n.over ≡ false
  pub own_rank : R.rank n.node.run.prog ≡ r
  pub new : IsNewNode R cap dims manner n.node.run.prog n.node

-- Ranks before their first turn, one for each program, in order.
pub record AreFresh {S : Type 0} (R : Rules S) (dims : List ℕ) (cap : ℕ) (manner : Manner) (progs : List S)
    (rs : List (RankState S)) : Type 0 where
  pub programs : progs_of rs ≡ progs
  pub each : (r : ℕ) (n : RankState S) → slice_get rs r ≡ Some n → IsFreshRank R dims cap manner r n
