use Rattle.route_tensor.proofs.Tables.{first_step_is}
use Rattle.hop_core.proofs.Straight.{straight}
use Rattle.std.proofs.Common.{refl}
use Rattle.hop_core.proofs.state.straight_to.Goals as goal

pub returns-clause-value : goal.returns-clause-value
returns-clause-value c = straight c.args.routes.now.dims c.args.routes.now.rank c.args.to _ c.requires.one c.requires.to refl

pub returns-clause-fair : goal.returns-clause-fair
returns-clause-fair c = (first_step_is c.args.routes.now.dims c.args.routes.now.rank c.args.to _ c.known.ensures.grid (returns-clause-value c)).fair

pub returns-clause-below : goal.returns-clause-below
returns-clause-below c = (first_step_is c.args.routes.now.dims c.args.routes.now.rank c.args.to _ c.known.ensures.grid (returns-clause-value c)).below
