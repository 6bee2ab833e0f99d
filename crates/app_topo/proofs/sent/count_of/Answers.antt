use Rattle.std.proofs.Common.{◌≡◌, length, arith, ◌∙◌}
use Rattle.std.specs.Prelude.{vec_len}
use Rattle.app_topo.proofs.TopoKept.{count_first}
use Rattle.app_topo.proofs.sent.count_of.Goals as goal

pub returns-then-round-eq0 : goal.returns-then-round-eq0
returns-then-round-eq0 c = λ ranks.
    let size : vec_len c.args.kept.now ≡ length c.args.kept.now.items = omega (arith, c.args.kept.now.ok.0) in
    count_first c.args.round ranks _ c.args.kept.now.items c.if-round-eq0.true (c.len.ensures ∙ size)
