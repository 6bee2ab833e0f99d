use Rattle.std.proofs.Common.{◌≤◌, ◌*◌, ◌∙◌, ℕ, List, length, sum_by, arith}
use Rattle.bale_answers.specs.Logs.{bytes_of}
use Rattle.bale_answers.specs.Summary.{ends_line}
use Rattle.bale_answers.proofs.Lengths.{exact, lines_few}
use Rattle.bale_answers.proofs.counter.Counter.known.Goals as goal

pub returns-clause-lines : goal.returns-clause-lines
returns-clause-lines c =
    let bytes : List ℕ = bytes_of c.args.self.now.log in
    let few : sum_by ends_line bytes ≤ length bytes = lines_few bytes in
    let low : sum_by ends_line bytes ≤ 255 * length bytes = omega arith in
    c.args.self.now.lines_are ∙ exact (sum_by ends_line bytes) (length bytes) low c.requires.short
