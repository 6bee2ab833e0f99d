use Rattle.std.proofs.Common.{map, length, ap₂, sym, ◌∙◌}
use Rattle.app_histo_ig.specs.Igs.{ig_replies_from}
use Rattle.app_histo_ig.proofs.ig.IgProgram.emit_each.Goals as goal

pub emit_replies-requires-clause-count : goal.emit_replies-requires-clause-count
emit_replies-requires-clause-count g c =
    c.self.invariant.count c.if-self-eq2.true
    ∙ ap₂ (λ sums qs. length (ig_replies_from c.self.inside.ranks sums 0 (map (λ l. l.items) qs))) (sym c.deref-then-self-eq2.ensures.value) (sym c.deref-then-self-eq2-2.ensures.value)
