use Rattle.std.proofs.Common.{eqb}
use Rattle.std.proofs.lemmas.List.Filters.{dedup_is}
use Rattle.delta_step.proofs.Ascending.{ascending_is}
use Rattle.delta_step.proofs.delta.put_in_order.Goals as goal

pub returns : goal.returns
returns c =
    ascending_is c.args.n c.args.places.now.items c.sort_unstable.new.self.items c.dedup.new.self.items c.requires c.sort_unstable.ensures.permutation c.sort_unstable.ensures.sorted
    (dedup_is eqb c.sort_unstable.new.self.items c.dedup.new.self.items c.dedup.ensures.filtered)
