use Rattle.round_tables.proofs.TableLaws.{table_laws}
use Rattle.round_tables.proofs.laws.table_laws.Goals as goal

pub returns : goal.returns
returns c = table_laws
