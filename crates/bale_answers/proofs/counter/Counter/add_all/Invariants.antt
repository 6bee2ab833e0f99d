use Rattle.std.proofs.Common.{◌≡◌, ◌++◌, take}
use Rattle.bale_answers.specs.Logs.{bytes_of}
use Rattle.bale_answers.proofs.counter.Counter.add_all.Given as goal

abbrev pub invariant-loop-b : goal.invariant-loop-b
invariant-loop-b l = bytes_of l.self.log ≡ bytes_of l.fn.self.log ++ take l.b-index l.piece
