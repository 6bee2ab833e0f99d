use Rattle.std.proofs.Common.{◌%◌, ◌++◌, cond, map, sym, ap, ◌∙◌}
use Rattle.std.proofs.lemmas.Bool.{eq-eqb}
use Rattle.app_topo.specs.Topos.{placed_in}
use Rattle.app_topo.specs.code.TopoSent.{topo_sent}
use Rattle.app_topo.proofs.TopoKept.{placed_is}
use Rattle.app_topo.proofs.lists.keep_claims.Goals as goal

pub returns-then-round-eq1 : goal.returns-then-round-eq1
returns-then-round-eq1 c = λ ranks.
    let old = c.args.claimed.now.items in
    c.in_ok-place_all.ensures ∙ ap (λ w. old ++ w) (sym (placed_is c.args.round ranks c.args.outgoing.now c.if-round-eq1.true))
    ∙ sym (ap (λ b. cond b (old ++ map (placed_in c.args.round) (topo_sent c.args.round ranks c.args.outgoing.now)) old) (eq-eqb (c.args.round % 2) 1 c.if-round-eq1.true))
