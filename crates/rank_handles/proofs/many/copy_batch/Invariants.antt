use Rattle.std.proofs.Common.{◌++◌, ◌∷◌, [], length, drop, ◌+◌, ◌-◌, ◌≡◌, ◌≤◌}
use Rattle.port_bank.specs.Machine.Step.{Pull, Idle}
use Rattle.hop_core.specs.State.{State, pulls}
use Rattle.rank_handles.specs.Many.{steps_of, then_idle}
use Rattle.rank_handles.specs.RankAtBank.{RunOf}
use Rattle.rank_handles.proofs.many.copy_batch.Given as goal

abbrev pub invariant-loop-at : goal.invariant-loop-at
invariant-loop-at g l =
    (l.at ≤ l.count) × (length l.items ≡ length l.initial.items) × (length l.from ≡ length l.items) × (drop (l.start + l.at) l.items ≡ drop (l.start + l.at) l.initial.items)
    × (drop (l.start + l.at) l.from ≡ drop (l.start + l.at) l.initial.from)
    × ((st : State) → RunOf (steps_of Pull l.start l.initial.items l.initial.from ++ Idle ∷ []) st l.conveyor
    → RunOf (steps_of Pull (l.start + l.at) l.items l.from ++ then_idle l.at 1) st (pulls l.at l.conveyor))

abbrev pub decreases-loop-at : goal.decreases-loop-at
decreases-loop-at g l = l.count - l.at
