use Rattle.std.proofs.Common.{arith}
use Rattle.mtx_text.proofs.Pieces.{reads_line_more}
use Rattle.mtx_text.proofs.piece.read_piece.Goals as goal

pub loop-lines-preserved : goal.loop-lines-preserved
loop-lines-preserved c =
    reads_line_more c.args.kind c.args.sizes c.args.text.now c.args.out.now c.loop-lines.out c.loop-lines.lines c.loop-lines.bytes c.rest_after.result.now c.in-Some.plain c.in-Ok.t
    c.loop-lines.invariant (omega (arith, c.loop-lines-test.true)) c.rest_after.ensures c.in-Some.ensures c.in-Ok.is
