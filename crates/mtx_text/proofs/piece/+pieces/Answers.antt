use Rattle.std.proofs.Common.{◌≡◌, ◌≤◌, ◌+◌, ◌++◌, List, length, subst, rules, arith}
use Rattle.bale_items.specs.declared.triple.Triple.{Triple}
use Rattle.mtx_text.specs.code.Pieces.{ReadsPiece}
use Rattle.mtx_text.proofs.Pieces.{piece, reads_both}
use Rattle.mtx_text.proofs.piece.+pieces.Goals as goal

pub read_pieces-returns : goal.read_pieces-returns
read_pieces-returns g t c =
    let front = c.split_at_mut-front.result.0.now in
    let back = c.split_at_mut-front.result.1.now in
    let lines = c.min-lines.result in
    let cut = c.cut_after-cut.result in
    let first = c.read_two.result.0 in
    let second = c.read_two.result.1 in
    let whole : front ++ back ≡ c.args.out.now = search rules in
    let at : first.bytes ≡ cut = search rules in
    let full : lines ≤ first.lines = omega (arith, c.if-first-lines.false) in
    let size : length front ≡ lines = search rules in
    subst (λ (l : List Triple). ReadsPiece c.args.kind c.args.sizes c.args.text.now l (c.read_two.new.front ++ c.read_two.new.back) (piece (lines + second.lines) (cut + second.bytes))) whole
    (reads_both c.args.kind c.args.sizes c.args.text.now c.rest_after-rest.result.now front c.read_two.new.front back c.read_two.new.back lines cut first second
    c.read_two.ensures.front c.read_two.ensures.back c.rest_after-rest.ensures at size full)
