use Rattle.std.proofs.Common.{◌≡◌, ◌-◌, drop}
use Rattle.round_program.proofs.Emissions.{seen_through, stays_same}
use Rattle.rank_node.specs.declared.departures.OnExstack.{OnExstack}
use Rattle.rank_node.specs.Pushes.{FillsOne}
use Rattle.rank_node.specs.Sending.{to_send}
use Rattle.rank_node.proofs.FilledOn.{may_fill, fills_each}
use Rattle.rank_node.proofs.stacking.push_each.Goals as goal

pub send_each-requires : goal.send_each-requires
send_each-requires g c = record {
  from = c.requires.low;
  may = may_fill (to_send g.Q.Program.rules c.args.prog.now.value c.args.sends) c.args.out.now.exstack.now c.args.from c.requires.receivers c.requires.filling c.requires.all_pushed;
}

pub returns-clause-fills : goal.returns-clause-fills
returns-clause-fills g c =
    let es = to_send g.Q.Program.rules c.args.prog.now.value c.args.sends in
    fills_each g.row.CAP es c.args.out.now.exstack.now c.send_each.new.out.exstack.now c.args.from c.send_each.result c.send_each.ensures.forward c.requires.low c.requires.receivers c.requires.filling c.requires.all_pushed
    (seen_through (λ (s : OnExstack g.row.CAP). s.exstack.now) _ (FillsOne g.row.CAP) (drop c.args.from es) (c.send_each.result - c.args.from) c.args.out.now c.send_each.new.out
    (λ a b to x accepted (h : (b.exstack.ghost_name ≡ a.exstack.ghost_name) × FillsOne g.row.CAP a.exstack.now to x accepted b.exstack.now). h.1) c.send_each.ensures.hands)

pub returns-clause-same_exstack : goal.returns-clause-same_exstack
returns-clause-same_exstack g c =
    let es = to_send g.Q.Program.rules c.args.prog.now.value c.args.sends in
    stays_same (drop c.args.from es) (c.send_each.result - c.args.from) c.args.out.now.exstack.ghost_name c.send_each.new.out.exstack.ghost_name
    (seen_through (λ (s : OnExstack g.row.CAP). s.exstack.ghost_name) _ (λ a to x accepted b. b ≡ a) (drop c.args.from es) (c.send_each.result - c.args.from) c.args.out.now c.send_each.new.out
    (λ a b to x accepted (h : (b.exstack.ghost_name ≡ a.exstack.ghost_name) × FillsOne g.row.CAP a.exstack.now to x accepted b.exstack.now). h.0) c.send_each.ensures.hands)
