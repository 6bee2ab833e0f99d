use Rattle.mtx_text.proofs.Lawful.{lawful}
use Rattle.mtx_text.proofs.parse.parse_matrix_by.Goals as goal

pub of_parts-requires : goal.of_parts-requires
of_parts-requires g c = lawful c.args.text.now _ c.in_ok-parts.ensures
