use Rattle.std.proofs.Common.{◌≡◌, length}
use Rattle.mtx_text.proofs.RowByRow.{Stamped}
use Rattle.mtx_text.proofs.apart.row_by_row.Given as goal

abbrev pub invariant-loop-t : goal.invariant-loop-t
invariant-loop-t l = Stamped l.entries l.marks l.t-index l.row × (length l.marks ≡ l.side)
