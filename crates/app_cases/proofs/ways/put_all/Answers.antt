use Rattle.std.proofs.Common.{◌≡◌, None, slice_get, rules}
use Rattle.app_cases.proofs.Driving.{begins}
use Rattle.app_cases.proofs.Moving.{all_put}
use Rattle.app_cases.proofs.ways.put_all.Goals as goal

pub returns-clause-begins : goal.returns-clause-begins
returns-clause-begins g c = λ ranks some b.
    let none : slice_get c.loop-prog.progs 0 ≡ None = search rules in
    begins g.met.A.Case.is_case c.args.progs some c.loop-prog.all
    (all_put g.A.Case.case_of c.args.progs c.loop-prog.all c.loop-prog.progs c.loop-prog.invariant none) ranks b
