use Rattle.std.proofs.Common.{length, ◌-◌}
use Rattle.mtx_text.specs.code.Pieces.{ReadsPiece}
use Rattle.mtx_text.proofs.Pieces.{piece}
use Rattle.mtx_text.proofs.piece.read_piece.Given as goal

abbrev pub invariant-loop-lines : goal.invariant-loop-lines
invariant-loop-lines l = ReadsPiece l.fn.kind l.sizes l.text l.fn.out l.out (piece l.lines l.bytes)

abbrev pub decreases-loop-lines : goal.decreases-loop-lines
decreases-loop-lines l = length l.fn.out - l.lines
