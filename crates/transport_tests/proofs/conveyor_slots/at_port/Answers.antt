use Rattle.std.proofs.Common.{[], sym, subst, rules}
use Rattle.port_bank.specs.Logs.{Logs}
use Rattle.convey.specs.Conveyors.{AgreesWith}
use Rattle.transport_tests.proofs.conveyor_slots.at_port.Goals as goal

pub invariant_of-result : goal.invariant_of-result
invariant_of-result g c =
    record {
      same_dims = search rules;
      same_rank = search rules;
      agrees = subst (λ (a : Logs). AgreesWith c.in_ok-side.side.conveyor a (g.P.Port.view c.args.port).got) (sym c.requires.begins.none_sent)
          (subst (λ (b : Logs). AgreesWith c.in_ok-side.side.conveyor (λ l. []) b) (sym c.requires.begins.none_got) c.in_ok-side.ensures.starts.agrees);
    }
