use Rattle.std.proofs.Common.{◌≤◌, ◌+◌, ◌∙◌, ap, arith, take, drop, ◌-◌}
use Rattle.std.specs.List.{list_all}
use Rattle.route_tensor.specs.Link.{links_before}
use Rattle.hop_core.specs.Link.{is_finished}
use Rattle.hop_core.proofs.Marks.{hop_part, hop_order}
use Rattle.hop_core.proofs.in_links.hop_finished.Goals as goal

pub all_finished-requires : goal.all_finished-requires
all_finished-requires g c =
    let o : links_before c.args.routes.now.dims c.args.h ≤ links_before c.args.routes.now.dims (c.args.h + 1) = hop_order _ _ c.requires.first c.requires.last in
    (omega arith, (omega (arith, o, c.first_of-from.ensures.value, c.first_of.ensures.value), omega (arith, c.first_of.ensures.within, c.requires.all)))

pub returns : goal.returns
returns g c =
    c.all_finished.ensures
    ∙ ap (λ n. list_all is_finished (take (n - c.first_of-from.result) (drop c.first_of-from.result c.args.links.now))) c.first_of.ensures.value
    ∙ ap (λ n. list_all is_finished (take (links_before c.args.routes.now.dims (c.args.h + 1) - n) (drop n c.args.links.now))) c.first_of-from.ensures.value
    ∙ ap (list_all is_finished) (hop_part c.args.routes.now.dims c.args.links.now c.args.h c.requires.first c.requires.last)
