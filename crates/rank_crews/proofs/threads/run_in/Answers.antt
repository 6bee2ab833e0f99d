use Rattle.std.proofs.Common.{reverse, ap, subst, ◌∙◌}
use Rattle.std.proofs.lemmas.List.{reverse-reverse}
use Rattle.rank_crews.specs.Runs.{AllRan}
use Rattle.rank_crews.proofs.threads.run_in.Goals as goal

pub returns : goal.returns
returns g c =
    let all = c.args.all.items in
    let back = c.take_ranks.result.items in
    record {
      ran = subst (λ xs. AllRan (AllRan (g.A.Seated.ran g.J.GateLog.notified)) xs back) (ap reverse (c.run_caller-children.ensures.same ∙ c.start_all-children.ensures.first) ∙ reverse-reverse all) c.take_ranks.ensures.ran;
      over = c.take_ranks.ensures.over;
    }
