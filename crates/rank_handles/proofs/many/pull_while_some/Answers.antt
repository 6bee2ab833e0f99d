use Rattle.std.proofs.Common.{◌<◌, ◌≤◌, ℕ, length, arith, refl, sym, ◌∙◌}
use Rattle.port_bank.specs.Machine.Step.{Pull, Idle}
use Rattle.hop_core.specs.State.{State}
use Rattle.rank_handles.specs.Many.{steps_of}
use Rattle.rank_handles.proofs.Runs.{run_zero, run_more, run_stopped, calm_same, past_more}
use Rattle.rank_handles.proofs.many.pull_while_some.Goals as goal

pub loop-count-init : goal.loop-count-init
loop-count-init g c = (omega arith, refl, c.requires.same, refl, refl, run_zero Pull c.args.items.now c.args.from.now c.args.conveyor.now)

pub loop-count-preserved : goal.loop-count-preserved
loop-count-preserved g c =
    let n : ℕ = c.loop-count.count in let m : ℕ = c.pull_batch-count.result in let inv = c.loop-count.invariant in let b : State = c.loop-count.conveyor in let d : State = c.unread.new.self in
    let fit = c.pull_batch-count.ensures in
    let less : n ≤ m = omega (arith, fit.more) in (
      omega (arith, fit.few, fit.items),
      fit.items ∙ inv.1,
      fit.from ∙ (inv.2 ∙ sym fit.items),
      fit.past.items_are ∙ past_more n m c.loop-count.items c.args.items.now less inv.3,
      fit.past.from_are ∙ past_more n m c.loop-count.from c.args.from.now less inv.4,
      fit.pulled c.args.conveyor.now (run_more (steps_of Pull n c.loop-count.items c.loop-count.from) Idle c.args.conveyor.now b d inv.5 c.unread.ensures.step c.unread.ensures.kept (calm_same b d c.unread.ensures.state)),
    )

pub returns-in_default-clause-pulled : goal.returns-in_default-clause-pulled
returns-in_default-clause-pulled g c =
    let n : ℕ = c.loop-count.count in let inv = c.loop-count.invariant in let b : State = c.loop-count.conveyor in let d : State = c.unread.new.self in
    let inside : n < length c.args.items.now = omega (arith, c.loop-count-test.true, inv.1) in
    run_stopped (steps_of Pull n c.loop-count.items c.loop-count.from) n (length c.args.items.now) c.args.conveyor.now b d inside inv.5 c.unread.ensures.step c.unread.ensures.kept (calm_same b d c.unread.ensures.state)
