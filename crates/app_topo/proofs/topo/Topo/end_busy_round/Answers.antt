use Rattle.std.proofs.Common.{ap, cond, ◌==◌, ◌∙◌}
use Rattle.app_topo.specs.code.TopoView.{topo_state}
use Rattle.app_topo.proofs.TopoKept.{sent_then}
use Rattle.app_topo.proofs.TopoSteps.{ended_valid}
use Rattle.app_topo.proofs.topo.Topo.end_busy_round.Goals as goal

pub invariant_of-self-2 : goal.invariant_of-self-2
invariant_of-self-2 c =
    let s = topo_state c.self.inside in
    ended_valid s _ _ _ _ _ _ _ _ _ c.self.invariant c.saturating_add-self-inside-2.ensures
    (c.put_columns.ensures ∙ ap (λ w. cond (s.round == 0) w s.columns) c.take_entries.ensures.entries) c.take_entries.ensures.none
    c.deref-2.ensures.value c.deref-3.ensures.value c.deref-4.ensures.value (c.deref-6.ensures.value ∙ c.take_entries.ensures.entries)
    (sent_then _ _ s.ranks _ _ _ c.saturating_add-self-inside-2.ensures (ap (λ v. v.items) c.swap.ensures.x_after) c.in_ok-put_next.ensures)
