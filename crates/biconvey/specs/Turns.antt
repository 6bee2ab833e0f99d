-- A run of an exchange of queries and replies on one thread, turn by turn.
use Rattle.std.specs.Prelude.{◌≡◌, ℕ, ◌+◌, Bool, List, slice_get, Some}
use Rattle.port_bank.specs.Plain.{empty_bank}
use Rattle.rank_group.specs.Turns.{OnlyAt, InSweeps}
use Rattle.round_program.specs.Talks.{Talk}
use Rattle.query_node.specs.States.{BiState, Sides}
use Rattle.biconvey.specs.Drives.{AreFreshBiRanks, askers_of}
use Rattle.biconvey.specs.RanksOverBanks.{AfterBiRank, sides_of}

-- All ranks, the logs of all links of both banks, and the number of turns so far, at one moment.
pub record AskingScene (S : Type 0) : Type 0 where
  pub ranks : List (BiState S)
  pub sides : Sides
  pub turns : ℕ

-- From moment a to moment b rank r made one turn, which was counted, and no other rank did.
pub record IsAskingTurn {S : Type 0} (T : Talk S) (dims : List ℕ) (cap slots r : ℕ) (a b : AskingScene S) : Type 0 where
  pub only : OnlyAt r a.ranks b.ranks
  pub turned : (n n' : BiState S) → slice_get a.ranks r ≡ Some n → slice_get b.ranks r ≡ Some n'
      → AfterBiRank T dims cap slots r n n' a.sides b.sides
  pub counted : b.turns ≡ a.turns + 1

-- The askers `starts` were run over two plain banks, with this many slots a link, in sweeps of one
-- order and no other turn. The turns are counted from `before` to `after`; the askers ended as
-- `ends`.
pub record AskedInSweeps {S : Type 0} (T : Talk S) (dims : List ℕ) (cap slots : ℕ) (steady : Bool)
    (starts : List S) (order : List ℕ) (before after : ℕ) (ends : List S) : Type 0 where
  pub sweeps : ℕ
  pub first : List (BiState S)
  pub last : AskingScene S
  pub fresh : AreFreshBiRanks T dims steady starts first
  pub ended : askers_of last.ranks ≡ ends
  pub counted : last.turns ≡ after
  pub swept : InSweeps (IsAskingTurn T dims cap slots) order sweeps
      (record {
        ranks = first;
        sides = sides_of (empty_bank dims slots) (empty_bank dims slots);
        turns = before;
      }) last
