use Rattle.route_tensor.proofs.Tables.{table_of, first_of_table}
use Rattle.route_tensor.proofs.routes.Routes.first.Goals as goal

pub returns-clause-fair : goal.returns-clause-fair
returns-clause-fair c = (first_of_table _ _ _ _ _ _ _ _ (table_of _ _ _ _ _ _ _ c.self.view_is c.self.invariant.0) c.requires c.index-first.ensures).fair

pub returns-clause-below : goal.returns-clause-below
returns-clause-below c = (first_of_table _ _ _ _ _ _ _ _ (table_of _ _ _ _ _ _ _ c.self.view_is c.self.invariant.0) c.requires c.index-first.ensures).below
