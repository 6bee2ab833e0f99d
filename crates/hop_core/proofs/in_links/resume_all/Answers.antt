use Rattle.std.proofs.Common.{◌<◌, ◌∙◌, length, sym, ap, arith}
use Rattle.hop_core.specs.State.{in_in_new_epoch}
use Rattle.list_laws.proofs.Mapping.{mapped_step}
use Rattle.hop_core.proofs.in_links.resume_all.Goals as goal

pub loop-i-preserved : goal.loop-i-preserved
loop-i-preserved g c =
    let i : c.loop-i.i < length c.as_mut_slice-all.result.now = omega (arith, c.loop-i-test.true) in
    mapped_step in_in_new_epoch _ _ _ _ _ i c.loop-i.invariant c.index-all-i.is (c.resume.ensures ∙ ap in_in_new_epoch (sym c.index-all-i.is))
