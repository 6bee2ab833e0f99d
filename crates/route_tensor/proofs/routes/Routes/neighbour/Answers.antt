use Rattle.route_tensor.proofs.Tables.{table_of, next_small, hop_of_table}
use Rattle.route_tensor.proofs.routes.Routes.neighbour.Goals as goal

pub returns-clause-small : goal.returns-clause-small
returns-clause-small c = next_small _ _ _ _ _ _ _ _ (table_of _ _ _ _ _ _ _ c.self.view_is c.self.invariant.0) c.requires c.index.ensures

pub returns-clause-first_hop : goal.returns-clause-first_hop
returns-clause-first_hop c = (hop_of_table _ _ _ _ _ _ _ _ (table_of _ _ _ _ _ _ _ c.self.view_is c.self.invariant.0) c.requires c.index.ensures).first

pub returns-clause-last_hop : goal.returns-clause-last_hop
returns-clause-last_hop c = (hop_of_table _ _ _ _ _ _ _ _ (table_of _ _ _ _ _ _ _ c.self.view_is c.self.invariant.0) c.requires c.index.ensures).last
