use Rattle.std.proofs.Common.{rules, ◌≡◌, true, refl, sym, ap, subst, ◌∙◌}
use Rattle.std.proofs.lemmas.Bool.{false≢true}
use Rattle.exstack.specs.State.{Stack, stack_dims, may_proceed, may_exchange}
use Rattle.rank_node.specs.Runs.{running}
use Rattle.list_laws.proofs.Results.{on_ok_map}
use Rattle.rank_node.specs.Sending.{to_send}
use Rattle.rank_node.specs.Pulls.{FillsItems}
use Rattle.port_bank.specs.Port.{is_crowded, is_idle}
use Rattle.port_bank.proofs.Frames.{port_at_first}
use Rattle.rank_node.proofs.Ballots.{same_sends}
use Rattle.rank_node.proofs.Polled.{nothing_moved, fill_then, waits_like, not_filling, all_done_apart}
use Rattle.exstack.specs.Agreement.{cycle_after}
use Rattle.rank_node.specs.Cycles.{InCycle, IsOnward}
use Rattle.rank_node.proofs.Paced.{still_exchanging}
use Rattle.rank_node.proofs.stacking.turn_exstack.Goals as goal

pub exchange-requires : goal.exchange-requires
exchange-requires g c =
    let sent = (g.P.Port.view c.args.port.now).sent in
    let got = (g.P.Port.view c.args.port.now).got in
    let same = c.fill.ensures.same in
    let h = c.requires.turns.first in
    let filling = ap (λ (t : Stack). may_exchange t.stage) same ∙ ap may_exchange (sym c.stage.ensures.value ∙ c.in-Filling.is) in
    (search rules, (filling, record { same_dims = c.requires.turns.same_dims ∙ sym (ap (λ (t : Stack). stack_dims t) same); same_rank = c.requires.turns.same_rank ∙ sym (ap (λ (t : Stack). t.rank) same); first = h; node = c.fill.ensures.filled.kept h sent got c.requires.turns.node }))

pub returns-in-Start-clause-turns : goal.returns-in-Start-clause-turns
returns-in-Start-clause-turns g c =
    let polls = c.proceed.ensures.polls in
    let may : may_proceed c.args.exstack.now.stage ≡ true = search rules in
    record {
      moves = polls.moves;
      leaves = record { pushed = λ s. absurd (false≢true (sym (ap may_proceed s) ∙ may)); unpushed = λ apart. polls.next };
      cycle = c.proceed.ensures.cycle;
      onward = polls.onward;
      same_port = polls.same_port;
    }

pub returns-in-Filling-clause-turns : goal.returns-in-Filling-clause-turns
returns-in-Filling-clause-turns g c =
    let R = g.Q.Program.rules in
    let sent = (g.P.Port.view c.args.port.now).sent in
    let got = (g.P.Port.view c.args.port.now).got in
    let sent' = (g.P.Port.view c.exchange.new.port).sent in
    let got' = (g.P.Port.view c.exchange.new.port).got in
    let x0 = c.args.exstack.now in
    let x1 = c.fill.new.exstack in
    let x2 = c.exchange.new.exstack in
    let filled = c.fill.ensures in
    let polls = c.exchange.ensures.polls in
    let at = sym c.stage.ensures.value ∙ c.in-Filling.is in
    let items : to_send R c.exchange.new.run.prog.value c.exchange.new.run.sends ≡ to_send R c.fill.new.run.prog.value c.fill.new.run.sends =
    ap (to_send R c.exchange.new.run.prog.value) polls.sends ∙ same_sends R c.exchange.new.run.prog.value c.fill.new.run.prog.value c.fill.new.run.sends polls.emissions in
    record {
      moves = fill_then R g.row.CAP (running c.args.run.now) (running c.fill.new.run) (running c.exchange.new.run) x0 x1 x2 sent got sent' got' filled.same filled.filled polls.moves;
      leaves = record {
        pushed = λ s. (
          x1,
          subst (λ n. FillsItems g.row.CAP (to_send R c.exchange.new.run.prog.value c.exchange.new.run.sends) x0 x1 c.args.run.now.next n) (sym polls.next)
              (subst (λ es. FillsItems g.row.CAP es x0 x1 c.args.run.now.next c.fill.new.run.next) (sym items) filled.filled.pushed),
        );
        unpushed = λ apart. absurd (apart at);
      };
      cycle = λ quota n i.
          subst (λ k. InCycle R quota k (running c.exchange.new.run) x2 sent' got') (sym (ap (cycle_after n) at))
          (c.exchange.ensures.cycle quota n (filled.cycle quota n sent got i));
      onward = subst (λ s. IsOnward s x2.stage) (sym at) (subst (λ s. IsOnward s x2.stage) (ap (λ (t : Stack). t.stage) filled.same ∙ at) polls.onward);
      same_port = polls.same_port;
    }

pub returns-in-Filling-clause-in_full : goal.returns-in-Filling-clause-in_full
returns-in-Filling-clause-in_full g c =
    let same = c.fill.ensures.same in
    on_ok_map c.exchange.result
    (λ full. record {
      awaits = full.awaits;
      due = tt;
      waits = waits_like c.args.exstack.now c.fill.new.exstack c.exchange.new.exstack (g.P.Port.view c.args.port.now).got (g.P.Port.view c.exchange.new.port).got (is_crowded (g.P.Port.view c.exchange.new.port)) (is_idle (g.P.Port.view c.exchange.new.port))
          (ap (λ (t : Stack). t.ranks) same) (ap (λ (t : Stack). t.rank) same) full.waits;
    })
    c.exchange.ensures.in_full

pub returns-in-Exchanging-clause-turns : goal.returns-in-Exchanging-clause-turns
returns-in-Exchanging-clause-turns g c =
    let R = g.Q.Program.rules in
    let x = c.args.exstack.now in
    let polls = c.exchange-in-Exchanging.ensures.polls in
    let at = sym c.stage.ensures.value ∙ c.in-Exchanging.is in
    record {
      moves = polls.moves;
      leaves = record { pushed = λ s. absurd (not_filling x.stage at s); unpushed = λ apart. polls.next };
      cycle = λ quota n i.
          subst (λ k. InCycle R quota k (running c.exchange-in-Exchanging.new.run) c.exchange-in-Exchanging.new.exstack (g.P.Port.view c.exchange-in-Exchanging.new.port).sent (g.P.Port.view c.exchange-in-Exchanging.new.port).got) (sym (ap (cycle_after n) at))
          (c.exchange-in-Exchanging.ensures.cycle quota n
          (still_exchanging R (running c.args.run.now) x (g.P.Port.view c.args.port.now).sent (g.P.Port.view c.args.port.now).got quota n at i));
      onward = polls.onward;
      same_port = polls.same_port;
    }

pub returns-in-AllDone-clause-turns : goal.returns-in-AllDone-clause-turns
returns-in-AllDone-clause-turns g c =
    let x = c.args.exstack.now in
    let at = sym c.stage.ensures.value ∙ c.in-AllDone.is in
    record {
      moves = nothing_moved g.Q.Program.rules g.row.CAP (running c.args.run.now) x (g.P.Port.view c.args.port.now).sent (g.P.Port.view c.args.port.now).got;
      leaves = record { pushed = λ s. absurd (all_done_apart x.stage at s); unpushed = λ apart. refl };
      cycle = λ quota n i.
          subst (λ k. InCycle g.Q.Program.rules quota k (running c.args.run.now) x (g.P.Port.view c.args.port.now).sent (g.P.Port.view c.args.port.now).got) (sym (ap (cycle_after n) at)) i;
      onward = subst (λ s. IsOnward s s) (sym at) refl;
      same_port = port_at_first;
    }
