use Rattle.std.proofs.Common.{length, subst}
use Rattle.std.specs.List.{All}
use Rattle.bale_items.specs.declared.item.Entry.{Entry}
use Rattle.route_tensor.specs.Tag.{IsFair}
use Rattle.list_laws.proofs.Lists.{all_tail}
use Rattle.rank_node.proofs.arrivals.FromLinkArrivals.next.Goals as goal

pub invariant_of-self : goal.invariant_of-self
invariant_of-self c = record {
  within = c.args.self.now.within;
  last = c.args.self.now.last;
  fair =
      all_tail (λ (e : Entry). IsFair c.args.self.now.routes.now.dims (length c.args.self.now.routes.now.dims) e.tag) c.in_ok-entry.entry.now c.in_ok-entry.rest.now
      (subst (All (λ (e : Entry). IsFair c.args.self.now.routes.now.dims (length c.args.self.now.routes.now.dims) e.tag)) c.in_ok-entry.ensures.cases.0 c.args.self.now.fair);
}
