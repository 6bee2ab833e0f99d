use Rattle.std.proofs.Common.{◌≡◌, ap, subst, rules}
use Rattle.bale_items.specs.declared.item.Entry.{Entry}
use Rattle.bale_items.specs.declared.item.Tag.{Tag}
use Rattle.route_tensor.specs.declared.routes.Onward.{Onward}
use Rattle.route_tensor.specs.Grid.{coord, IsGrid}
use Rattle.route_tensor.specs.Tag.{tag_at}
use Rattle.route_tensor.specs.Routes.{Site}
use Rattle.route_tensor.proofs.Tables.{first_step_is}
use Rattle.route_tensor.proofs.routes.Routes.entry.Goals as goal

pub returns-clause-value : goal.returns-clause-value
returns-clause-value c = search rules

pub returns-clause-fair : goal.returns-clause-fair
returns-clause-fair c =
    let dims = c.args.self.now.dims in
    let rank = c.args.self.now.rank in
    let grid : IsGrid dims = subst (λ (s : Site). IsGrid s.dims) c.self.view_is c.self.invariant.0.grid in
    let tag : c.index-entry.result.now.tag ≡ tag_at dims rank c.args.to 1 = ap (λ (e : Entry). e.tag) (returns-clause-value c) in
    let step : Tag → Onward = λ t. record { out = coord dims c.args.to 1; tag = t } in
    (first_step_is dims rank c.args.to _ grid (ap step tag)).fair
