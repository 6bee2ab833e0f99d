use Rattle.std.proofs.Common.{◌≡◌, length, arith}
use Rattle.rank_crews.proofs.Crewed.{dealt_run}
use Rattle.rank_crews.proofs.threads.run_workers.Goals as goal

pub gather-requires-clause-run : goal.gather-requires-clause-run
gather-requires-clause-run g c =
    let all = c.args.all.items in
    let size : length all ≡ c.len-count.result = omega (arith, c.len-count.ensures) in
    (all, size, dealt_run (g.A.Seated.ran g.J.GateLog.notified) g.A.Seated.over c.max.result 0 all c.in-Ok-deal.dealt.items c.in-Ok-run_each.over.items c.in-Ok-deal.ensures c.in-Ok-run_each.ensures.ran c.in-Ok-run_each.ensures.over)

pub returns : goal.returns
returns g c =
    let all = c.args.all.items in
    let size : length all ≡ c.len-count.result = omega (arith, c.len-count.ensures) in
    record {
      ran = c.gather.ensures.ran all size (dealt_run (g.A.Seated.ran g.J.GateLog.notified) g.A.Seated.over c.max.result 0 all c.in-Ok-deal.dealt.items c.in-Ok-run_each.over.items c.in-Ok-deal.ensures c.in-Ok-run_each.ensures.ran c.in-Ok-run_each.ensures.over);
      over = c.gather.ensures.over;
    }
