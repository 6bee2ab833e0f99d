use Rattle.std.proofs.Common.{◌≡◌, None, sym, ap, ◌∙◌}
use Rattle.exstack.specs.State.{Stack, stack_unread, lowest_unread_sender}
use Rattle.rank_node.proofs.Popped.{pops_rest, pops_both, all_read}
use Rattle.rank_node.proofs.stacking.pop_all.Goals as goal

pub loop-sender-preserved : goal.loop-sender-preserved
loop-sender-preserved g c =
    pops_both g.Q.Program.rules c.args.voting c.args.exstack.now c.next_sender.new.self c.pop_batch-taken.new.exstack c.args.prog.now.value c.loop-sender.prog.value c.pop_batch-taken.new.prog.value
    c.args.taken.sum c.loop-sender.taken.sum c.pop_batch-taken.result.sum c.args.taken.spoiled c.loop-sender.taken.spoiled c.pop_batch-taken.result.spoiled
    (pops_rest g.Q.Program.rules c.args.voting c.args.exstack.now c.loop-sender.exstack c.next_sender.new.self c.args.prog.now.value c.loop-sender.prog.value c.args.taken.sum c.loop-sender.taken.sum c.args.taken.spoiled c.loop-sender.taken.spoiled c.loop-sender.invariant
    c.next_sender.ensures.state c.next_sender.ensures.kept c.next_sender.ensures.step)
    c.pop_batch-taken.ensures.pops

pub returns-clause-pops : goal.returns-clause-pops
returns-clause-pops g c =
    pops_rest g.Q.Program.rules c.args.voting c.args.exstack.now c.loop-sender.exstack c.next_sender.new.self c.args.prog.now.value c.loop-sender.prog.value c.args.taken.sum c.loop-sender.taken.sum c.args.taken.spoiled c.loop-sender.taken.spoiled c.loop-sender.invariant
    c.next_sender.ensures.state c.next_sender.ensures.kept c.next_sender.ensures.step

pub returns-clause-read : goal.returns-clause-read
returns-clause-read g c =
    let none : lowest_unread_sender c.loop-sender.exstack ≡ None = sym c.next_sender.ensures.value ∙ c.in_default.is in
    ap (λ (t : Stack). stack_unread t) c.next_sender.ensures.state ∙ all_read c.loop-sender.exstack none
