use Rattle.std.proofs.Common.{◌≡◌, None, map, slice_get, rules, refl, sym, subst, ◌∙◌}
use Rattle.app_cases.proofs.Driving.{are_cases, ended}
use Rattle.app_cases.proofs.Moving.{Taken, none_taken, next_is, one_taken, all_taken}
use Rattle.app_cases.proofs.ways.take_all.Goals as goal

pub loop-prog-init : goal.loop-prog-init
loop-prog-init g c =
    let starts = c.requires.ended.0 in
    let cs = are_cases g.met.A.Case.is_case starts c.requires.ended.1 (map g.A.Case.case_of starts) refl c.args.any c.requires.ended.2 in
    subst (λ done. Taken g.A.Case.case_of c.args.any done c.args.any) (sym c.new-all.ensures) (none_taken g.A.Case.case_of c.args.any cs.0 cs.1)

pub taken-requires : goal.taken-requires
taken-requires g c =
    next_is g.A.Case.case_of c.args.any c.loop-prog.all c.loop-prog.any c.in-Some.prog c.loop-prog.invariant (sym c.take_first.ensures.first ∙ c.in-Some.is)

pub loop-prog-preserved : goal.loop-prog-preserved
loop-prog-preserved g c =
    one_taken g.A.Case.case_of c.args.any c.loop-prog.all c.add.new.self c.loop-prog.any c.take_first.new.self c.in-Some.prog c.taken.result c.loop-prog.invariant
    (sym c.take_first.ensures.first ∙ c.in-Some.is) c.take_first.ensures.rest c.taken.ensures c.in_ok-add.ensures.added

pub returns : goal.returns
returns g c =
    let none : slice_get c.loop-prog.any 0 ≡ None = search rules in
    let all = all_taken g.A.Case.case_of c.args.any c.loop-prog.all c.loop-prog.any c.loop-prog.invariant none in
    record { ended = λ starts some h. ended g.met.A.Case.is_case starts some (map g.A.Case.case_of starts) refl c.args.any c.loop-prog.all h all }
