use Rattle.std.proofs.Common.{◌≡◌, All, length, rules, refl, sym, ap, subst, ◌∙◌, arith}
use Rattle.std.specs.Option.{option_copied}
use Rattle.std.proofs.lemmas.List.Elements.{All-append}
use Rattle.list_laws.specs.Sums.{total}
use Rattle.app_tally.specs.code.CountView.{IsLineEntry}
use Rattle.app_tally.proofs.Tallied.{found}
use Rattle.app_tally.proofs.TallyRounds.{comes, rank_has, programs_len, all_come, gathered_more}
use Rattle.app_tally.proofs.run.all_came.Goals as goal

pub loop-rank-preserved : goal.loop-rank-preserved
loop-rank-preserved c = record {
  times = λ lines h q.
      gathered_more h.ranks lines q c.loop-rank.rank _ _ _ c.came.result.now (c.loop-rank.invariant.times lines h q) c.in_ok-gather.ensures.gathered
      (ap (found q) (c.came.ensures ∙ ap (λ s. s.came) c.inner.ensures)
      ∙ rank_has lines c.args.p.now h c.loop-rank.rank c.in-Some.program.now q (search rules) (sym c.get.ensures ∙ ap option_copied c.in-Some.is))
      refl;
  counted = subst (All IsLineEntry) (sym c.in_ok-gather.ensures.gathered) (All-append IsLineEntry _ _ c.loop-rank.invariant.counted c.gather.ensures.counted);
  numbers = c.in_ok-gather.ensures.numbers c.loop-rank.invariant.numbers;
}

pub returns-clause-times : goal.returns-clause-times
returns-clause-times c = λ lines h q.
    let some = h.some in
    c.loop-rank.invariant.times lines h q
    ∙ ap (λ n. total n (comes h.ranks lines q)) (let e : c.loop-rank.rank ≡ length c.args.p.now = search rules in e ∙ programs_len lines c.args.p.now h)
    ∙ all_come h.ranks lines q (omega arith)

pub returns-clause-counted : goal.returns-clause-counted
returns-clause-counted c = c.loop-rank.invariant.counted

pub returns-clause-numbers : goal.returns-clause-numbers
returns-clause-numbers c = c.loop-rank.invariant.numbers
