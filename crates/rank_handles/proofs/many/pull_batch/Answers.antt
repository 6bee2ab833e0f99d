use Rattle.std.proofs.Common.{◌≡◌, ◌+◌, ◌≤◌, ℕ, length, arith, sym, ap, ◌∙◌, subst}
use Rattle.port_bank.specs.Machine.Step.{Pull}
use Rattle.hop_core.specs.State.{State, in_at, pulls}
use Rattle.rank_handles.specs.Many.{steps_of}
use Rattle.rank_handles.specs.RankAtBank.{RunOf}
use Rattle.rank_handles.proofs.Runs.{run_some}
use Rattle.rank_handles.proofs.many.pull_batch.Goals.{then-count-there, else-count-there}
use Rattle.rank_handles.proofs.many.pull_batch.Goals as goal

pub returns-clause-pulled : goal.returns-clause-pulled
returns-clause-pulled g c = λ a run.
    let st : State = c.args.conveyor.now in let count : ℕ = c.min-count.result in
    let some : 1 ≤ count = omega (arith, c.min-count.ensures, c.batch-there.ensures.some, c.requires.room) in
    let steps = steps_of Pull (c.args.start + count) c.copy_batch.new.items c.copy_batch.new.from in
    let there : length c.batch-there.result.now ≡ length (in_at st c.args.number).parcel.untaken = ap length c.batch-there.ensures.value in
    let is : c.if-count-there.conveyor ≡ pulls count st = elim c.if-count-there.branch [
      | then-count-there w ↦ (let all : length (in_at st c.args.number).parcel.untaken ≡ count = omega (arith, there, w.if-count-there.true) in
          w.conveyor-is ∙ (w.pull_all.ensures.state ∙ ap (λ m. pulls m st) all))
      | else-count-there w ↦ w.conveyor-is ∙ w.pull_over.ensures
    ] in
    subst (λ (z : State). RunOf steps a z) (sym is) (run_some steps count a (pulls count st) some (c.copy_batch.ensures.pulled a run))
