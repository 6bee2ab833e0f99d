use Rattle.std.proofs.Common.{◌≡◌, ◌<◌, ◌-◌, ◌^◌, take, map}
use Rattle.list_laws.specs.Counts.{saturated_count}
use Rattle.port_bank.specs.Round.{ended_by_all}
use Rattle.port_bank.proofs.plain_round.PlainRound.epochs.Given as goal

abbrev pub invariant-loop-link : goal.invariant-loop-link
invariant-loop-link l = record {
  none : l.link-index ≡ 0 → l.least ≡ 2 ^ 64 - 1;
  some : 0 < l.link-index → l.least ≡ saturated_count (ended_by_all (map (λ c. c.got) (take l.link-index l.link-items)));
}
