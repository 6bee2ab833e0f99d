use Rattle.std.proofs.Common.{[], ◌∷◌, refl, rules, subst, arith}
use Rattle.port_bank.specs.Port.{IsSlots}
use Rattle.round_program.specs.Canonical.{InRound}
use Rattle.route_tensor.proofs.Coordinates.{ranks_some}
use Rattle.round_examples.specs.Traffics.{traffic_rules}
use Rattle.round_examples.proofs.TrafficRuns.{ends}
use Rattle.measure_threads.proofs.exchange.measured.Goals as goal

pub rounds_of-rounds-requires-clause-some : goal.rounds_of-rounds-requires-clause-some
rounds_of-rounds-requires-clause-some g c = omega (arith, c.ranks-ranks.ensures.value, ranks_some c.args.command.now.grid c.ranks-ranks.ensures.grid.positive)

pub drive_threads-requires-clause-slots : goal.drive_threads-requires-clause-slots
unfolding IsSlots
drive_threads-requires-clause-slots g c κs within = refl

pub drive_threads-requires-clause-run : goal.drive_threads-requires-clause-run
drive_threads-requires-clause-run g c κs within =
    let n = c.rounds_of-rounds.result in
    record {
      one_hop = search rules;
      begins = (
        n ∷ [],
        n,
        subst (λ p. InRound traffic_rules p 0 (n ∷ []) n c.in_ok-progs.progs) c.ranks-ranks.ensures.value c.in_ok-progs.ensures,
        ends c.ranks-ranks.result n c.in_ok-progs.progs (omega (arith, c.ranks-ranks.ensures.value, ranks_some c.args.command.now.grid c.ranks-ranks.ensures.grid.positive)) c.rounds_of-rounds.ensures c.in_ok-progs.ensures,
      );
    }
