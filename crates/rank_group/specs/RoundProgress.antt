-- How far ranks over exstacks have come, counted in rounds over all epochs and in half rounds.
use Rattle.std.specs.Prelude.{◌≡◌, ◌⊎◌, ℕ, zero, suc, ◌+◌, ◌*◌, ◌<◌, ◌≤◌, ⊤, Bool, true, false, ◌||◌, ◌==◌, List}
use Rattle.std.specs.Prelude.{if◌then◌else◌}
use Rattle.std.specs.Prelude.{length, Option, None, Some, slice_get}
use Rattle.list_laws.specs.Sums.{total}
use Rattle.port_bank.specs.Logs.{Logs}
use Rattle.exstack.specs.State.{Stack, stack_out_at, is_proceeding, is_exchanging}
use Rattle.exstack.specs.State.{is_all_done}
use Rattle.exstack.specs.Lockstep.{finished_in}
use Rattle.exstack.specs.Agreement.{AgreesIn}
use Rattle.round_program.specs.Rules.{Rules}
use Rattle.round_program.specs.Canonical.{states_at}
use Rattle.rank_node.specs.Cycles.{MarksLast, IsInCycle, cycle_of_turn}
use Rattle.rank_node.specs.Movers.{MoverState, epoch_in}
use Rattle.rank_node.specs.Movers.MoverState.{Conveying, Stacking}
use Rattle.rank_group.specs.Ranks.{RankState}

-- How many items a program emits; 0 if there is no program.
abbrev pub emission_count : {S : Type 0} → Rules S → Option S → ℕ
emission_count R None = 0
emission_count R (Some s) = length (R.emissions s)

-- How many items rank r of p sends in epoch e of a canonical run, from its round m on: in an epoch
-- of work what its program emits, and then a vote to each rank.
-- With two ranks, of which rank 0 emits 5 items in round 0, it sends 5 in epoch 0 and 2 in epoch 1.
abbrev pub quota_from : {S : Type 0} → Rules S → ℕ → List S → ℕ → ℕ → ℕ → ℕ
quota_from R p starts r m zero = emission_count R (slice_get (states_at R starts m) r)
quota_from R p starts r m (suc zero) = p
quota_from R p starts r m (suc (suc e)) = quota_from R p starts r (suc m) e

abbrev pub quota_of : {S : Type 0} → Rules S → ℕ → List S → ℕ → ℕ → ℕ
quota_of R p starts r e = quota_from R p starts r 0 e

-- The most rounds that an epoch can have: a rank that isn't done pushes at least one item in each
-- exchange round.
-- If 3 items are sent, there are at most 7.
abbrev pub most_rounds : {S : Type 0} → Rules S → ℕ → List S → ℕ → ℕ
most_rounds R p starts e = 2 * total p (λ r. quota_of R p starts r e) + 1

-- How many rounds a rank in cycle n has made over all epochs, counting for each earlier epoch the
-- most that it can have.
-- With at most 7 and 3 rounds in the epochs 0 and 1, a rank that fills its buffers in cycle 0 of
-- epoch 1 has made 8.
abbrev pub rounds_made : (ℕ → ℕ) → Bool → ℕ → Stack → ℕ
rounds_made most over n x = if over then total (x.epoch + 1) most else total x.epoch most + finished_in n x.stage

-- It is within a round, of which the first half is over: no parcel of the round remains to be
-- posted.
pub record IsHalfway (x : Stack) : Type 0 where
  pub begun : (is_proceeding x.stage || is_exchanging x.stage) ≡ true
  pub none_due : (b : ℕ) → b < x.ranks → (stack_out_at x b).due ≡ false

-- A rank has made at least j half rounds: posting is the first half of a round, and collecting the
-- second.
-- With 3 rounds made it has made 6, and 7 if it is halfway through its next round.
abbrev pub HasMadeHalves : (ℕ → ℕ) → ℕ → Bool → ℕ → Stack → Type 0
HasMadeHalves most j over n x =
    (j ≤ 2 * rounds_made most over n x) ⊎ ((j ≡ 2 * rounds_made most over n x + 1) × (over ≡ false) × IsHalfway x)

-- The same for either transport; over conveyors this states nothing.
abbrev pub MoverMadeHalves : (ℕ → ℕ) → ℕ → Bool → ℕ → MoverState → Type 0
MoverMadeHalves most j over n (Conveying c) = ⊤
MoverMadeHalves most j over n (Stacking cap x) = HasMadeHalves most j over n x

-- What remains true of the cycles once a rank's run is over.
abbrev pub HasCycled : (ℕ → ℕ) → ℕ → MoverState → Logs → Logs → Type 0
HasCycled quota n (Conveying c) sent got = ⊤
HasCycled quota n (Stacking cap x) sent got = AgreesIn n x sent got × MarksLast quota x sent

-- An exstack's epoch isn't over.
abbrev pub IsBetween : MoverState → Type 0
IsBetween (Conveying c) = ⊤
IsBetween (Stacking cap x) = is_all_done x.stage ≡ false

-- A rank that sends at most `quota e` items in epoch e is in cycle n, by its own logs.
pub record KeepsCycle {S : Type 0} (R : Rules S) (quota : ℕ → ℕ) (n : ℕ) (x : RankState S)
    (sent got : Logs) : Type 0 where
  pub running : x.over ≡ false → IsInCycle R quota n x.node.run x.node.mover sent got × IsBetween x.node.mover
  pub over : x.over ≡ true → HasCycled quota n x.node.mover sent got

-- The cycle after a turn, in which the rank may have begun its next epoch.
abbrev pub next_cycle : {S : Type 0} → ℕ → RankState S → RankState S → ℕ
next_cycle k n n' =
    if n.over then k else if epoch_in n'.node.mover == epoch_in n.node.mover then cycle_of_turn k n.node.mover else 0
