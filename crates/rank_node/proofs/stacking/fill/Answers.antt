use Rattle.std.proofs.Common.{rules, ℕ, ◌<◌, All, refl}
use Rattle.bale_items.specs.declared.item.Item.{Item}
use Rattle.route_tensor.specs.Grid.{ranks}
use Rattle.exstack.specs.State.{stack_dims}
use Rattle.rank_node.specs.Sending.{to_send}
use Rattle.rank_node.specs.Runs.{Running, running}
use Rattle.rank_node.proofs.Ballots.{send_below}
use Rattle.rank_node.proofs.Polled.{filled}
use Rattle.rank_node.proofs.Filled.{pushes_one}
use Rattle.rank_node.proofs.Paced.{filled_keep}
use Rattle.rank_node.proofs.stacking.fill.Goals as goal

pub push_on-run-requires : goal.push_on-run-requires
push_on-run-requires g c =
    let R = g.Q.Program.rules in
    let run : Running g.row.Q.Denot = running c.args.run.now in
    let h = c.requires.node.0 in
    let i = c.requires.node.3 in
    let below : All (λ (e : ℕ × Item). e.0 < ranks (stack_dims c.args.exstack.now)) (to_send R run.prog run.sends) =
    send_below R g.met.Q.Program.laws (ranks (stack_dims c.args.exstack.now)) (h run.round) run.prog run.sends i.passed.valid i.passed.all_ranks i.within.emissions (λ v q s. (i.within.vote v q s).0) in
    (search rules, record { low = i.within.next_low; receivers = below; filling = c.requires.filling; all_pushed = i.within.all_pushed })

pub returns-clause-filled : goal.returns-clause-filled
returns-clause-filled g c =
    let run : Running g.row.Q.Denot = running c.args.run.now in
    record {
      kept = λ h sent got is. filled g.Q.Program.rules h run g.row.CAP c.args.exstack.now c.push_on-run.new.exstack c.push_on-run.result sent got c.known.ensures.standing c.requires.filling c.push_on-run.ensures is;
      round = refl;
      sends = refl;
      pushed = c.push_on-run.ensures;
    }

pub returns-clause-same : goal.returns-clause-same
returns-clause-same g c = c.push_on-run.ensures.same

pub returns-clause-cycle : goal.returns-clause-cycle
returns-clause-cycle g c = λ quota n sent got is.
    let R = g.Q.Program.rules in
    let run : Running g.row.Q.Denot = running c.args.run.now in
    let x = c.args.exstack.now in
    let h = c.requires.node.0 in
    let i = c.requires.node.3 in
    let fills = c.push_on-run.ensures in
    let below : All (λ (e : ℕ × Item). e.0 < ranks (stack_dims x)) (to_send R run.prog run.sends) =
    send_below R g.met.Q.Program.laws (ranks (stack_dims x)) (h run.round) run.prog run.sends i.passed.valid i.passed.all_ranks i.within.emissions (λ v q s. (i.within.vote v q s).0) in
    filled_keep R run x c.push_on-run.new.exstack c.push_on-run.result sent got quota n c.requires.filling fills.same (fills.kept n sent got is.agrees)
    (λ f. pushes_one g.row.CAP (to_send R run.prog run.sends) x c.push_on-run.new.exstack run.next c.push_on-run.result i.moving.stack.is_cap.some fills below (is.emptied c.requires.filling) (is.left c.requires.filling f)) is
