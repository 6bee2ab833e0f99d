use Rattle.std.proofs.Common.{◌≡◌, ◌-◌, drop}
use Rattle.round_program.proofs.Emissions.{seen_through, stays_same}
use Rattle.rank_node.specs.declared.departures.OnConveyor.{OnConveyor}
use Rattle.rank_node.specs.Pushes.{AfterConveyorPush}
use Rattle.rank_node.specs.Sending.{to_send}
use Rattle.rank_node.proofs.PushesItems.{may_push, handed}
use Rattle.rank_node.proofs.sending.push_each.Goals as goal

pub send_each-requires : goal.send_each-requires
send_each-requires g c = record {
  from = c.requires.low;
  may = may_push (to_send g.Q.Program.rules c.args.prog.now.value c.args.sends) c.args.out.now.conveyor.now c.args.from c.requires.receivers c.requires.working c.requires.all_pushed;
}

pub returns-clause-handed : goal.returns-clause-handed
returns-clause-handed g c =
    let es = to_send g.Q.Program.rules c.args.prog.now.value c.args.sends in
    handed g.row.CAP es c.args.out.now.conveyor.now c.send_each.new.out.conveyor.now c.args.from c.send_each.result c.send_each.ensures.forward c.requires.low c.requires.receivers c.requires.working c.requires.all_pushed
    (seen_through (λ (s : OnConveyor g.row.CAP g.row.HOPS). s.conveyor.now) _ (AfterConveyorPush g.row.CAP) (drop c.args.from es) (c.send_each.result - c.args.from) c.args.out.now c.send_each.new.out
    (λ a b to x accepted (h : (b.conveyor.ghost_name ≡ a.conveyor.ghost_name) × AfterConveyorPush g.row.CAP a.conveyor.now to x accepted b.conveyor.now). h.1) c.send_each.ensures.hands)

pub returns-clause-same_conveyor : goal.returns-clause-same_conveyor
returns-clause-same_conveyor g c =
    let es = to_send g.Q.Program.rules c.args.prog.now.value c.args.sends in
    stays_same (drop c.args.from es) (c.send_each.result - c.args.from) c.args.out.now.conveyor.ghost_name c.send_each.new.out.conveyor.ghost_name
    (seen_through (λ (s : OnConveyor g.row.CAP g.row.HOPS). s.conveyor.ghost_name) _ (λ a to x accepted b. b ≡ a) (drop c.args.from es) (c.send_each.result - c.args.from) c.args.out.now c.send_each.new.out
    (λ a b to x accepted (h : (b.conveyor.ghost_name ≡ a.conveyor.ghost_name) × AfterConveyorPush g.row.CAP a.conveyor.now to x accepted b.conveyor.now). h.0) c.send_each.ensures.hands)
