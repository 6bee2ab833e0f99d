use Rattle.std.proofs.Common.{◌<◌, ◌≡◌, List, length, sym, subst}
use Rattle.std.proofs.lemmas.List.{length-map}
use Rattle.round_program.specs.Canonical.{HaveEnded}
use Rattle.app_cases.specs.Any.{AnyState, any_rules}
use Rattle.bale_answers.proofs.finish.finish_as.Goals as goal

pub take_all-requires : goal.take_all-requires
take_all-requires g c =
    let p = c.requires.ended.0 in
    let starts = g.A.Application.starts c.args.options.now p c.args.of.now in
    let same = sym (g.met.A.Application.of_task c.args.options.now p c.args.of.now) in
    let some = subst (λ (ss : List AnyState). 0 < length ss) same c.requires.ended.3 in
    let ended = subst (λ (ss : List AnyState). HaveEnded any_rules ss c.args.progs) same c.requires.ended.4 in
    record { ended = (starts, subst (λ n. 0 < n) (length-map starts g.A.Prog.Case.case_of) some, ended) }

pub end-requires-clause-ended : goal.end-requires-clause-ended
end-requires-clause-ended g c =
    let p = c.requires.ended.0 in
    let starts = g.A.Application.starts c.args.options.now p c.args.of.now in
    let same = sym (g.met.A.Application.of_task c.args.options.now p c.args.of.now) in
    let some = subst (λ (ss : List AnyState). 0 < length ss) same c.requires.ended.3 in
    let ended = subst (λ (ss : List AnyState). HaveEnded any_rules ss c.args.progs) same c.requires.ended.4 in
    (p, c.requires.ended.1, c.requires.ended.2, c.in_ok-progs.ensures.ended starts (subst (λ n. 0 < n) (length-map starts g.A.Prog.Case.case_of) some) ended)
