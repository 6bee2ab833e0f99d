use Rattle.std.proofs.Common.{true, false, refl, sym, ap, ◌∙◌, arith}
use Rattle.std.proofs.lemmas.Bool.{false≢true}
use Rattle.exstack.specs.State.{Stack, in_exchange}
use Rattle.exstack.specs.Standing.{IsStack}
use Rattle.exstack.proofs.Beginning.{exchange_begun}
use Rattle.rank_node.specs.Runs.{Running, running}
use Rattle.rank_node.proofs.Polled.{Made, AfterExchange, after_poll, exchanged, exchanging_apart, ready_apart, waits_like}
use Rattle.exstack.specs.State.{has_exchanged}
use Rattle.rank_node.proofs.Paced.{Exchanges, exchanges_keep}
use Rattle.rank_node.proofs.Awaited.{exchanges_onward, exchange_awaits, exchanged_stage}
use Rattle.rank_node.proofs.stacking.exchange.Goals as goal
use Rattle.port_bank.specs.Port.{is_crowded, is_idle}

pub returns-in_err-_made-clause-polls : goal.returns-in_err-_made-clause-polls
returns-in_err-_made-clause-polls g c =
    let R = g.Q.Program.rules in
    let sent = (g.P.Port.view c.args.port.now).sent in
    let got = (g.P.Port.view c.args.port.now).got in
    let sent' = (g.P.Port.view c.poll_exchange-polled.new.port).sent in
    let got' = (g.P.Port.view c.poll_exchange-polled.new.port).got in
    let run : Running g.row.Q.Denot = running c.args.run.now in
    let x0 = c.args.exstack.now in
    let x2 = c.poll_exchange-polled.new.self in
    let e = c.poll_exchange-polled.ensures.polls in
    let p : AfterExchange g.row.CAP x0 x2 sent got sent' got' = record {
      standing = c.known.ensures.standing;
      agrees = e.agrees;
      same_ranks = ap (λ (t : Stack). t.ranks) e.same;
      same_rank = ap (λ (t : Stack). t.rank) e.same;
      apart = exchanging_apart (c.in_err-_made.ensures.no_memory refl);
      step = e.step;
    } in
    let s : IsStack g.row.CAP x0 = c.requires.turns.node.moving.stack in
    let begun = exchange_begun x0 in
    let m : Made g.row.CAP x0 (in_exchange x0) x2 false true sent sent' got got' = record {
      some = omega (arith, s.rank);
      few = s.few;
      mid_ranks = begun.ranks;
      mid_rank = begun.rank;
      same_ranks = ap (λ (t : Stack). t.ranks) e.same;
      same_rank = ap (λ (t : Stack). t.rank) e.same;
      same_epoch = ap (λ (t : Stack). t.epoch) e.same;
      made = e.round;
      agrees = e.agrees;
    } in
    record {
      moves = after_poll g.row.CAP x0 (in_exchange x0) x2 false true sent sent' got got' m R run run refl refl (λ h is. exchanged R h run g.row.CAP x0 x2 sent got sent' got' p is);
      onward = exchanges_onward x0.stage x2.stage c.requires.may (ap has_exchanged (c.in_err-_made.ensures.no_memory refl));
      next = refl;
      emissions = refl;
      sends = refl;
      same_port = e.same_port;
    }

pub returns-clause-polls : goal.returns-clause-polls
returns-clause-polls g c =
    let R = g.Q.Program.rules in
    let sent = (g.P.Port.view c.args.port.now).sent in
    let got = (g.P.Port.view c.args.port.now).got in
    let sent' = (g.P.Port.view c.poll_exchange-polled.new.port).sent in
    let got' = (g.P.Port.view c.poll_exchange-polled.new.port).got in
    let run : Running g.row.Q.Denot = running c.args.run.now in
    let x0 = c.args.exstack.now in
    let x2 = c.poll_exchange-polled.new.self in
    let e = c.poll_exchange-polled.ensures.polls in
    let p : AfterExchange g.row.CAP x0 x2 sent got sent' got' = record {
      standing = c.known.ensures.standing;
      agrees = e.agrees;
      same_ranks = ap (λ (t : Stack). t.ranks) e.same;
      same_rank = ap (λ (t : Stack). t.rank) e.same;
      apart = ready_apart _ (c.in_ok-_made.ensures.stage);
      step = e.step;
    } in
    let s : IsStack g.row.CAP x0 = c.requires.turns.node.moving.stack in
    let begun = exchange_begun x0 in
    let m : Made g.row.CAP x0 (in_exchange x0) x2 false true sent sent' got got' = record {
      some = omega (arith, s.rank);
      few = s.few;
      mid_ranks = begun.ranks;
      mid_rank = begun.rank;
      same_ranks = ap (λ (t : Stack). t.ranks) e.same;
      same_rank = ap (λ (t : Stack). t.rank) e.same;
      same_epoch = ap (λ (t : Stack). t.epoch) e.same;
      made = e.round;
      agrees = e.agrees;
    } in
    record {
      moves = after_poll g.row.CAP x0 (in_exchange x0) x2 false true sent sent' got got' m R run run refl refl (λ h is. exchanged R h run g.row.CAP x0 x2 sent got sent' got' p is);
      onward = exchanges_onward x0.stage x2.stage c.requires.may (ap has_exchanged (c.in_ok-_made.ensures.stage) ∙ exchanged_stage _);
      next = refl;
      emissions = refl;
      sends = refl;
      same_port = e.same_port;
    }

pub returns-in_err-_made-clause-cycle : goal.returns-in_err-_made-clause-cycle
returns-in_err-_made-clause-cycle g c = λ quota n i.
    let sent = (g.P.Port.view c.args.port.now).sent in
    let got = (g.P.Port.view c.args.port.now).got in
    let sent' = (g.P.Port.view c.poll_exchange-polled.new.port).sent in
    let got' = (g.P.Port.view c.poll_exchange-polled.new.port).got in
    let e = c.poll_exchange-polled.ensures.polls in
    let p : Exchanges c.args.exstack.now c.poll_exchange-polled.new.self sent got sent' got' = record { same = e.same; made = e.round; agrees = e.cycle; exchanged = ap has_exchanged (c.in_err-_made.ensures.no_memory refl) } in
    exchanges_keep g.Q.Program.rules (running c.args.run.now) c.args.exstack.now c.poll_exchange-polled.new.self sent got sent' got' p quota n i

pub returns-clause-cycle : goal.returns-clause-cycle
returns-clause-cycle g c = λ quota n i.
    let sent = (g.P.Port.view c.args.port.now).sent in
    let got = (g.P.Port.view c.args.port.now).got in
    let sent' = (g.P.Port.view c.poll_exchange-polled.new.port).sent in
    let got' = (g.P.Port.view c.poll_exchange-polled.new.port).got in
    let e = c.poll_exchange-polled.ensures.polls in
    let p : Exchanges c.args.exstack.now c.poll_exchange-polled.new.self sent got sent' got' = record { same = e.same; made = e.round; agrees = e.cycle; exchanged = ap has_exchanged (c.in_ok-_made.ensures.stage) ∙ exchanged_stage _ } in
    exchanges_keep g.Q.Program.rules (running c.args.run.now) c.args.exstack.now c.poll_exchange-polled.new.self sent got sent' got' p quota n i

pub returns-clause-in_full : goal.returns-clause-in_full
returns-clause-in_full g c =
    let x0 = c.args.exstack.now in
    let begun = exchange_begun x0 in
    let asks = c.in_ok-_made.ensures.asks in
    record {
      awaits = exchange_awaits g.row.CAP c.poll_exchange-polled.new.self c.known.ensures.standing _ c.in_ok-_made.ensures.answer c.in_ok-_made.ensures.stage;
      due = tt;
      waits = waits_like x0 (in_exchange x0) c.poll_exchange-polled.new.self (g.P.Port.view c.args.port.now).got (g.P.Port.view c.poll_exchange-polled.new.port).got (is_crowded (g.P.Port.view c.poll_exchange-polled.new.port)) (is_idle (g.P.Port.view c.poll_exchange-polled.new.port))
          begun.ranks begun.rank (record { posts = asks.crowded; collects = λ a w due. (asks.asked a w due).still_stuck });
    }

pub returns-clause-stage : goal.returns-clause-stage
returns-clause-stage g c = λ is.
    false≢true (sym (ap has_exchanged is) ∙ (ap has_exchanged c.in_ok-_made.ensures.stage ∙ exchanged_stage _))
