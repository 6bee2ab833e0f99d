use Rattle.std.proofs.Common.{◌<◌, refl, arith}
use Rattle.std.proofs.lemmas.Bool.{true≢false}
use Rattle.rank_node.proofs.departures.OnExstackDepartures.push.Goals as goal

pub returns : goal.returns
returns g c =
    let e = c.push.ensures in
    let some : 0 < c.push.result = omega (arith, c.if-push-eq0.false) in (
      refl,
      record {
        kept = e.kept;
        pushed = λ b. e.pushed some;
        step = λ b. e.step_pushed some;
        unpushed = λ b. absurd (true≢false b);
        idle = λ b. absurd (true≢false b);
        full = λ b. absurd (true≢false b);
      },
    )
