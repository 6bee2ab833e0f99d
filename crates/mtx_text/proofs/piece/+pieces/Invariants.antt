use Rattle.std.proofs.Common.{◌+◌, ◌*◌}
use Rattle.mtx_text.proofs.piece.+pieces.Given as goal

abbrev pub decreases-read_pieces : goal.decreases-read_pieces
decreases-read_pieces g l = 3 * l.halvings

abbrev pub decreases-read_two : goal.decreases-read_two
decreases-read_two g l = 3 * l.halvings + 2

abbrev pub decreases-read_two-first : goal.decreases-read_two-first
decreases-read_two-first g l = 3 * l.halvings + 1

abbrev pub decreases-read_two-second : goal.decreases-read_two-second
decreases-read_two-second g l = 3 * l.halvings + 1
