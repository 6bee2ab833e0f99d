use Rattle.std.proofs.Common.{slice_get, sym, ap, ◌∙◌}
use Rattle.query_node.proofs.Lining.{more_lines}
use Rattle.query_node.proofs.lines.all_lines.Goals as goal

pub loop-i-preserved : goal.loop-i-preserved
loop-i-preserved g c =
    more_lines c.args.ranks (g.A.Asker.talk.queries c.args.asker.now.value) c.loop-i.lines.items c.add_to.new.lines.items c.loop-i.i c.query-to.result c.loop-i.invariant
    (ap (λ s. slice_get (g.A.Asker.talk.queries s) c.loop-i.i) (sym c.deref-in-loop-i.ensures) ∙ c.query-to.ensures) c.add_to.ensures.all c.in_ok-add_to.ensures.here c.add_to.ensures.others
