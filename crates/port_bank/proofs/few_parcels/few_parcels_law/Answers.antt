use Rattle.port_bank.proofs.Few.{travel_in_few}
use Rattle.port_bank.proofs.few_parcels.few_parcels_law.Goals as goal

pub returns : goal.returns
returns g c = λ log shape. travel_in_few g.row.CAP log c.requires.some shape
