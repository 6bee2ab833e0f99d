use Rattle.std.proofs.Common.{◌<◌, ◌≤◌, length, arith}
use Rattle.exstack.specs.Links.{stack_in_in_new_epoch}
use Rattle.list_laws.proofs.Mapping.{mapped_step, mapped_end}
use Rattle.exstack.proofs.rounds.resume_all.Goals as goal

pub loop-i-preserved : goal.loop-i-preserved
loop-i-preserved g c =
    let i : c.loop-i.i < length c.args.links.now.items = omega (arith, c.loop-i-test.true, c.len-i-end.ensures, c.args.links.now.ok) in
    mapped_step stack_in_in_new_epoch _ _ _ _ _ i c.loop-i.invariant c.index_mut.ensures.value c.resume.ensures

pub returns : goal.returns
returns g c =
    let i : length c.args.links.now.items ≤ c.loop-i.i = omega (arith, c.loop-i-test.false, c.len-i-end.ensures, c.args.links.now.ok) in
    mapped_end stack_in_in_new_epoch _ _ _ i c.loop-i.invariant
