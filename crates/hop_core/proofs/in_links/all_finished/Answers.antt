use Rattle.std.proofs.Common.{◌≤◌, length, sym, ap, ◌∙◌, arith}
use Rattle.hop_core.specs.Link.{is_finished}
use Rattle.hop_core.proofs.Scans.{back_step, back_fails}
use Rattle.hop_core.proofs.in_links.all_finished.Goals as goal

pub returns-then-not-is_finished : goal.returns-then-not-is_finished
returns-then-not-is_finished g c =
    let within : c.loop-i.i ≤ length c.args.links.now = omega (arith, c.requires.within) in
    sym (c.loop-i.invariant ∙ back_fails is_finished _ _ _ c.index-links-i.result c.loop-i-test.true within (sym (ap is_finished c.index-links-i.is) ∙ sym c.is_finished.ensures ∙ c.if-not-is_finished.true))

pub loop-i-preserved : goal.loop-i-preserved
loop-i-preserved g c =
    let within : c.loop-i.i ≤ length c.args.links.now = omega (arith, c.requires.within) in
    c.loop-i.invariant ∙ back_step is_finished _ _ _ c.index-links-i.result c.loop-i-test.true within (sym (ap is_finished c.index-links-i.is) ∙ sym c.is_finished.ensures ∙ c.if-not-is_finished.false)
