use Rattle.std.proofs.Common.{◌≡◌, length, rules, arith}
use Rattle.bale_types.proofs.Laid.{laid_to}
use Rattle.bale_types.proofs.out.Out.lay.Goals as goal

pub returns-clause-len : goal.returns-clause-len
returns-clause-len g c =
    let old = c.args.self.now.buffer in
    let new = c.lay-self.new.buffer in
    let size : length old ≡ 16384 = search rules in
    let same : length new ≡ length old = c.lay-self.ensures.len in
    let end = c.lay-self.ensures.bound in
    laid_to c.lay-self.result c.args.self.now.len new old (g.L.LineText.text c.args.line.now) c.lay-self.ensures.bytes
    (omega (arith, end, same, size, c.requires)) (omega (arith, size, c.requires))
