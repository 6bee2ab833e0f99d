use Rattle.std.proofs.Common.{rules, ◌≡◌, Ok, ap, ◌∙◌, sym, subst}
use Rattle.port_bank.specs.Plain.{Bank, sent_of, got_of}
use Rattle.port_bank.specs.Logs.{starting_at, ending_at}
use Rattle.rank_node.specs.Movers.{mover_dims}
use Rattle.rank_node.specs.Nodes.{IsNode}
use Rattle.rank_group.specs.Ranks.{AfterTurn}
use Rattle.rank_group.proofs.Ranked.{PortTurn, after_turn}
use Rattle.rank_group.proofs.sweep.turn_node.Goals as goal

pub turn-requires : goal.turn-requires
turn-requires g c =
    let R = g.Q.Program.rules in
    let eb = c.port-port.ensures.bank in
    let er = c.port-port.ensures.rank in (search rules, record { same_dims = subst (λ (b : Bank). b.dims ≡ mover_dims c.args.node.now.mover) (sym eb) (sym c.requires.same_dims); same_rank = er ∙ sym c.requires.same_rank; first = c.requires.node.0; node = subst (λ (b : Bank). IsNode R c.requires.node.0 c.args.node.now (starting_at b.dims c.port-port.result.rank (sent_of b)) (ending_at b.dims c.port-port.result.rank (got_of b))) (sym eb) (subst (λ r. IsNode R c.requires.node.0 c.args.node.now (starting_at c.args.bank.dims r (sent_of c.args.bank)) (ending_at c.args.bank.dims r (got_of c.args.bank))) (sym er) c.requires.node.1) })

pub returns-clause-turned : goal.returns-clause-turned
returns-clause-turned g c =
    let R = g.Q.Program.rules in
    let n = c.args.node.now in
    let n' = c.turn.new.self in
    let b0 : Bank = c.port-port.result.bank in
    let b1 : Bank = c.turn.new.port.bank in
    let notified : PortTurn R g.row.CAP c.in_ok-turn.turn n n' b0 c.port-port.result.rank b1 c.turn.new.port.rank = record {
      dims = c.turn.ensures.turns.same_port.dims;
      slots = c.turn.ensures.turns.same_port.slots;
      rest = c.turn.ensures.turns.same_port.others;
      same = record {
        dims = c.turn.ensures.turns.moves.dims;
        rank = c.turn.ensures.turns.moves.rank;
        manner = c.turn.ensures.turns.moves.manner;
        epoch = c.turn.ensures.turns.moves.epoch;
      };
      node_cap = c.turn.ensures.cap;
      sent_grows = c.turn.ensures.turns.moves.sent_grows;
      got_grows = c.turn.ensures.turns.moves.got_grows;
      one_sent = c.turn.ensures.turns.moves.one_sent;
      shape = c.turn.ensures.turns.moves.shape;
      leaves = c.turn.ensures.turns.leaves;
      kept = c.turn.ensures.turns.moves.kept;
      ended = λ e. c.in_ok-turn.ensures.ended (ap Ok e);
      going = λ e. c.in_ok-turn.ensures.going (ap Ok e);
      waits = c.in_ok-turn.ensures.in_full.waits;
      cycle = c.turn.ensures.turns.cycle;
      onward = c.turn.ensures.turns.onward;
      awaits = c.in_ok-turn.ensures.in_full.awaits;
    } in
    subst (λ (b : Bank). AfterTurn R c.args.bank.dims g.row.CAP c.args.bank.slots c.args.number c.in_ok-turn.turn n n' (sent_of c.args.bank) (got_of c.args.bank) (sent_of b) (got_of b)) (sym c.into_bank.ensures.bank)
    (after_turn R g.row.CAP c.args.number c.in_ok-turn.turn n n' c.args.bank b1 c.port-port.result.rank c.turn.new.port.rank c.port-port.ensures.rank c.turn.ensures.turns.same_port.rank c.requires.same_dims c.requires.same_rank
    (subst (λ (b : Bank). PortTurn R g.row.CAP c.in_ok-turn.turn n n' b c.port-port.result.rank b1 c.turn.new.port.rank) c.port-port.ensures.bank notified))
