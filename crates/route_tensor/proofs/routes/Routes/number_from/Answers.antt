use Rattle.std.proofs.Common.{◌∙◌}
use Rattle.route_tensor.proofs.Neighbours.{hop_to-in_index}
use Rattle.route_tensor.proofs.Tables.{table_of, number_from_at}
use Rattle.route_tensor.proofs.routes.Routes.number_from.Goals as goal

pub returns-clause-value : goal.returns-clause-value
returns-clause-value c = rw c.from.ensures (number_from_at _ _ _ _ _ _ _ _ (table_of _ _ _ _ _ _ _ c.self.view_is c.self.invariant.0) c.requires.link c.requires.ends_here c.index.ensures).value

pub returns-clause-below : goal.returns-clause-below
returns-clause-below c = rw c.from.ensures (number_from_at _ _ _ _ _ _ _ _ (table_of _ _ _ _ _ _ _ c.self.view_is c.self.invariant.0) c.requires.link c.requires.ends_here c.index.ensures).below

pub returns-clause-hop : goal.returns-clause-hop
returns-clause-hop c =
    let t = table_of _ _ _ _ _ _ _ c.self.view_is c.self.invariant.0 in
    rw c.from.ensures ((number_from_at _ _ _ _ _ _ _ _ t c.requires.link c.requires.ends_here c.index.ensures).hop ∙ hop_to-in_index _ _ t.grid c.requires.link)
