use Rattle.std.proofs.Common.{rules, ◌≡◌, ◌==◌, false, length, refl, sym, ap, ◌∙◌, arith}
use Rattle.exstack.specs.State.{Stack, stack_dims, may_proceed, in_proceed}
use Rattle.exstack.specs.Standing.{IsStack}
use Rattle.exstack.proofs.Beginning.{proceed_begun}
use Rattle.rank_node.specs.Sending.{to_send}
use Rattle.rank_node.specs.Runs.{Running, running}
use Rattle.rank_node.proofs.Polled.{Made, AfterProceed, after_poll, proceeded, same_done, done_keeps, waits_like}
use Rattle.exstack.specs.State.{has_proceeded}
use Rattle.rank_node.proofs.Paced.{proceeds_of, proceeds_keep}
use Rattle.rank_node.proofs.Awaited.{proceed_ranks, proceed_rank, proceeds_onward, proceed_awaits, proceeded_stage, filling_open, proceeding_apart}
use Rattle.rank_node.proofs.stacking.proceed.Goals as goal
use Rattle.port_bank.specs.Port.{is_crowded, is_idle}

pub poll_proceed-polled-requires : goal.poll_proceed-polled-requires
poll_proceed-polled-requires g c =
    let R = g.Q.Program.rules in
    let sent = (g.P.Port.view c.args.port.now).sent in
    let got = (g.P.Port.view c.args.port.now).got in
    let run : Running g.row.Q.Denot = running c.args.run.now in
    let x0 = c.args.exstack.now in
    let x1 = c.pop_all-run.new.exstack in
    let prog' = c.pop_all-run.new.prog.value in
    let sum' = c.pop_all-run.result.sum in
    let spoiled' = c.pop_all-run.result.spoiled in
    let voting = c.votes_now-voting.result in
    let done = run.next == c.count_of.result in
    let pops = c.pop_all-run.ensures.pops in
    let all : done ≡ (run.next == length (to_send R prog' run.sends)) = ap (λ m. run.next == m) c.count_of.ensures in
    let i = c.requires.turns.node in
    let a = i.moving.agrees in (
      search rules,
      record {
        may = ap (λ (t : Stack). may_proceed t.stage) pops.same ∙ c.requires.may;
        at_port = record {
          same_dims = c.requires.turns.same_dims ∙ sym (ap (λ (t : Stack). stack_dims t) pops.same);
          same_rank = c.requires.turns.same_rank ∙ sym (ap (λ (t : Stack). t.rank) pops.same);
          agrees = record { cycle = a.cycle; agrees = pops.kept a.cycle sent got a.agrees };
        };
        read = c.pop_all-run.ensures.read;
        done_stays = λ d. done_keeps R (c.requires.turns.first) run g.row.CAP x0 x1 prog' sum' spoiled' voting done sent got pops all i d;
        same_done = λ q. same_done R (c.requires.turns.first) run g.row.CAP x0 x1 prog' sum' spoiled' voting done sent got pops all i q;
      },
    )

pub returns-in_err-polled-clause-polls : goal.returns-in_err-polled-clause-polls
returns-in_err-polled-clause-polls g c =
    let R = g.Q.Program.rules in
    let sent = (g.P.Port.view c.args.port.now).sent in
    let got = (g.P.Port.view c.args.port.now).got in
    let sent' = (g.P.Port.view c.poll_proceed-polled.new.port).sent in
    let got' = (g.P.Port.view c.poll_proceed-polled.new.port).got in
    let run : Running g.row.Q.Denot = running c.args.run.now in
    let x0 = c.args.exstack.now in
    let x1 = c.pop_all-run.new.exstack in
    let x2 = c.poll_proceed-polled.new.self in
    let prog' = c.pop_all-run.new.prog.value in
    let sum' = c.pop_all-run.result.sum in
    let spoiled' = c.pop_all-run.result.spoiled in
    let voting = c.votes_now-voting.result in
    let done = run.next == c.count_of.result in
    let pops = c.pop_all-run.ensures.pops in
    let e = c.poll_proceed-polled.ensures.polls in
    let all : done ≡ (run.next == length (to_send R prog' run.sends)) = ap (λ m. run.next == m) c.count_of.ensures in
    let p : AfterProceed g.row.CAP x1 x2 done sent got sent' got' = record {
      standing = c.known.ensures.standing;
      agrees = e.agrees;
      same_ranks = ap (λ (t : Stack). t.ranks) e.same;
      same_rank = ap (λ (t : Stack). t.rank) e.same;
      done_is = ap (λ (t : Stack). t.done) e.same;
      steps = e.steps;
    } in
    let s : IsStack g.row.CAP x0 = c.requires.turns.node.moving.stack in
    let begun = proceed_begun done x1 (λ q. same_done R (c.requires.turns.first) run g.row.CAP x0 x1 prog' sum' spoiled' voting done sent got pops all c.requires.turns.node q) in
    let m : Made g.row.CAP x0 (in_proceed done x1) x2 done false sent sent' got got' = record {
      some = omega (arith, s.rank);
      few = s.few;
      mid_ranks = begun.ranks ∙ ap (λ (t : Stack). t.ranks) pops.same;
      mid_rank = begun.rank ∙ ap (λ (t : Stack). t.rank) pops.same;
      same_ranks = ap (λ (t : Stack). t.ranks) e.same ∙ ap (λ (t : Stack). t.ranks) pops.same;
      same_rank = ap (λ (t : Stack). t.rank) e.same ∙ ap (λ (t : Stack). t.rank) pops.same;
      same_epoch = ap (λ (t : Stack). t.epoch) e.same ∙ ap (λ (t : Stack). t.epoch) pops.same;
      made = e.round;
      agrees = e.agrees;
    } in
    record {
      moves = after_poll g.row.CAP x0 (in_proceed done x1) x2 done false sent sent' got got' m R run _ refl refl
          (λ h is. proceeded R h run g.row.CAP x0 x1 x2 prog' sum' spoiled' voting done sent got sent' got' (sym c.votes_now-voting.ensures) pops all p is);
      onward = proceeds_onward x0.stage x2.stage c.requires.may (ap has_proceeded (c.in_err-polled.ensures.no_memory refl));
      next = refl;
      emissions = pops.emissions;
      sends = refl;
      same_port = e.same_port;
    }

pub returns-in-GoOn-clause-polls : goal.returns-in-GoOn-clause-polls
returns-in-GoOn-clause-polls g c =
    let R = g.Q.Program.rules in
    let sent = (g.P.Port.view c.args.port.now).sent in
    let got = (g.P.Port.view c.args.port.now).got in
    let sent' = (g.P.Port.view c.poll_proceed-polled.new.port).sent in
    let got' = (g.P.Port.view c.poll_proceed-polled.new.port).got in
    let run : Running g.row.Q.Denot = running c.args.run.now in
    let x0 = c.args.exstack.now in
    let x1 = c.pop_all-run.new.exstack in
    let x2 = c.poll_proceed-polled.new.self in
    let prog' = c.pop_all-run.new.prog.value in
    let sum' = c.pop_all-run.result.sum in
    let spoiled' = c.pop_all-run.result.spoiled in
    let voting = c.votes_now-voting.result in
    let done = run.next == c.count_of.result in
    let pops = c.pop_all-run.ensures.pops in
    let e = c.poll_proceed-polled.ensures.polls in
    let all : done ≡ (run.next == length (to_send R prog' run.sends)) = ap (λ m. run.next == m) c.count_of.ensures in
    let p : AfterProceed g.row.CAP x1 x2 done sent got sent' got' = record {
      standing = c.known.ensures.standing;
      agrees = e.agrees;
      same_ranks = ap (λ (t : Stack). t.ranks) e.same;
      same_rank = ap (λ (t : Stack). t.rank) e.same;
      done_is = ap (λ (t : Stack). t.done) e.same;
      steps = e.steps;
    } in
    let s : IsStack g.row.CAP x0 = c.requires.turns.node.moving.stack in
    let begun = proceed_begun done x1 (λ q. same_done R (c.requires.turns.first) run g.row.CAP x0 x1 prog' sum' spoiled' voting done sent got pops all c.requires.turns.node q) in
    let m : Made g.row.CAP x0 (in_proceed done x1) x2 done false sent sent' got got' = record {
      some = omega (arith, s.rank);
      few = s.few;
      mid_ranks = begun.ranks ∙ ap (λ (t : Stack). t.ranks) pops.same;
      mid_rank = begun.rank ∙ ap (λ (t : Stack). t.rank) pops.same;
      same_ranks = ap (λ (t : Stack). t.ranks) e.same ∙ ap (λ (t : Stack). t.ranks) pops.same;
      same_rank = ap (λ (t : Stack). t.rank) e.same ∙ ap (λ (t : Stack). t.rank) pops.same;
      same_epoch = ap (λ (t : Stack). t.epoch) e.same ∙ ap (λ (t : Stack). t.epoch) pops.same;
      made = e.round;
      agrees = e.agrees;
    } in
    record {
      moves = after_poll g.row.CAP x0 (in_proceed done x1) x2 done false sent sent' got got' m R run _ refl refl
          (λ h is. proceeded R h run g.row.CAP x0 x1 x2 prog' sum' spoiled' voting done sent got sent' got' (sym c.votes_now-voting.ensures) pops all p is);
      onward = proceeds_onward x0.stage x2.stage c.requires.may (ap has_proceeded (c.in_ok-polled.ensures.stage) ∙ proceeded_stage _);
      next = refl;
      emissions = pops.emissions;
      sends = refl;
      same_port = e.same_port;
    }

pub returns-in-AllDone-clause-polls : goal.returns-in-AllDone-clause-polls
returns-in-AllDone-clause-polls g c =
    let R = g.Q.Program.rules in
    let sent = (g.P.Port.view c.args.port.now).sent in
    let got = (g.P.Port.view c.args.port.now).got in
    let sent' = (g.P.Port.view c.poll_proceed-polled.new.port).sent in
    let got' = (g.P.Port.view c.poll_proceed-polled.new.port).got in
    let run : Running g.row.Q.Denot = running c.args.run.now in
    let x0 = c.args.exstack.now in
    let x1 = c.pop_all-run.new.exstack in
    let x2 = c.poll_proceed-polled.new.self in
    let prog' = c.pop_all-run.new.prog.value in
    let sum' = c.pop_all-run.result.sum in
    let spoiled' = c.pop_all-run.result.spoiled in
    let voting = c.votes_now-voting.result in
    let done = run.next == c.count_of.result in
    let pops = c.pop_all-run.ensures.pops in
    let e = c.poll_proceed-polled.ensures.polls in
    let all : done ≡ (run.next == length (to_send R prog' run.sends)) = ap (λ m. run.next == m) c.count_of.ensures in
    let p : AfterProceed g.row.CAP x1 x2 done sent got sent' got' = record {
      standing = c.known.ensures.standing;
      agrees = e.agrees;
      same_ranks = ap (λ (t : Stack). t.ranks) e.same;
      same_rank = ap (λ (t : Stack). t.rank) e.same;
      done_is = ap (λ (t : Stack). t.done) e.same;
      steps = e.steps;
    } in
    let s : IsStack g.row.CAP x0 = c.requires.turns.node.moving.stack in
    let begun = proceed_begun done x1 (λ q. same_done R (c.requires.turns.first) run g.row.CAP x0 x1 prog' sum' spoiled' voting done sent got pops all c.requires.turns.node q) in
    let m : Made g.row.CAP x0 (in_proceed done x1) x2 done false sent sent' got got' = record {
      some = omega (arith, s.rank);
      few = s.few;
      mid_ranks = begun.ranks ∙ ap (λ (t : Stack). t.ranks) pops.same;
      mid_rank = begun.rank ∙ ap (λ (t : Stack). t.rank) pops.same;
      same_ranks = ap (λ (t : Stack). t.ranks) e.same ∙ ap (λ (t : Stack). t.ranks) pops.same;
      same_rank = ap (λ (t : Stack). t.rank) e.same ∙ ap (λ (t : Stack). t.rank) pops.same;
      same_epoch = ap (λ (t : Stack). t.epoch) e.same ∙ ap (λ (t : Stack). t.epoch) pops.same;
      made = e.round;
      agrees = e.agrees;
    } in
    record {
      moves = after_poll g.row.CAP x0 (in_proceed done x1) x2 done false sent sent' got got' m R run _ refl refl
          (λ h is. proceeded R h run g.row.CAP x0 x1 x2 prog' sum' spoiled' voting done sent got sent' got' (sym c.votes_now-voting.ensures) pops all p is);
      onward = proceeds_onward x0.stage x2.stage c.requires.may (ap has_proceeded (c.in_ok-polled.ensures.stage) ∙ proceeded_stage _);
      next = refl;
      emissions = pops.emissions;
      sends = refl;
      same_port = e.same_port;
    }

pub returns-in-GoOn-clause-in_full : goal.returns-in-GoOn-clause-in_full
returns-in-GoOn-clause-in_full g c =
    let pops = c.pop_all-run.ensures.pops in
    let x1 = c.pop_all-run.new.exstack in
    let done = c.args.run.now.next == c.count_of.result in
    let asks = c.in_ok-polled.ensures.asks in
    record {
      awaits = proceed_awaits g.row.CAP c.poll_proceed-polled.new.self c.known.ensures.standing _ c.in_ok-polled.ensures.answer c.in_ok-polled.ensures.stage;
      due = tt;
      waits = waits_like c.args.exstack.now (in_proceed done x1) c.poll_proceed-polled.new.self (g.P.Port.view c.args.port.now).got (g.P.Port.view c.poll_proceed-polled.new.port).got (is_crowded (g.P.Port.view c.poll_proceed-polled.new.port)) (is_idle (g.P.Port.view c.poll_proceed-polled.new.port))
          (proceed_ranks done x1 ∙ ap (λ (t : Stack). t.ranks) pops.same) (proceed_rank done x1 ∙ ap (λ (t : Stack). t.rank) pops.same)
          (record { posts = asks.crowded; collects = λ a low due. (asks.asked a low due).still_stuck });
    }

pub returns-in_err-polled-clause-cycle : goal.returns-in_err-polled-clause-cycle
returns-in_err-polled-clause-cycle g c = λ quota n i.
    let R = g.Q.Program.rules in
    let sent = (g.P.Port.view c.args.port.now).sent in
    let got = (g.P.Port.view c.args.port.now).got in
    let sent' = (g.P.Port.view c.poll_proceed-polled.new.port).sent in
    let got' = (g.P.Port.view c.poll_proceed-polled.new.port).got in
    let run : Running g.row.Q.Denot = running c.args.run.now in
    let x0 = c.args.exstack.now in
    let x1 = c.pop_all-run.new.exstack in
    let x2 = c.poll_proceed-polled.new.self in
    let taken = c.pop_all-run.result in
    let done = run.next == c.count_of.result in
    let e = c.poll_proceed-polled.ensures.polls in
    let all : done ≡ (run.next == length (to_send R c.pop_all-run.new.prog.value run.sends)) = ap (λ m. run.next == m) c.count_of.ensures in
    let p = proceeds_of R (c.requires.turns.first) run g.row.CAP x0 x1 x2 c.pop_all-run.new.prog.value taken.sum taken.spoiled c.votes_now-voting.result done sent got sent' got'
    c.pop_all-run.ensures.pops all c.requires.turns.node c.known.ensures.standing c.requires.may e.same e.round e.cycle (ap has_proceeded (c.in_err-polled.ensures.no_memory refl)) (λ f. absurd (proceeding_apart x2.stage (c.in_err-polled.ensures.no_memory refl) f)) in
    proceeds_keep R g.row.CAP run _ x0 x1 x2 done sent got sent' got' p quota n i

pub returns-in-GoOn-clause-cycle : goal.returns-in-GoOn-clause-cycle
returns-in-GoOn-clause-cycle g c = λ quota n i.
    let R = g.Q.Program.rules in
    let sent = (g.P.Port.view c.args.port.now).sent in
    let got = (g.P.Port.view c.args.port.now).got in
    let sent' = (g.P.Port.view c.poll_proceed-polled.new.port).sent in
    let got' = (g.P.Port.view c.poll_proceed-polled.new.port).got in
    let run : Running g.row.Q.Denot = running c.args.run.now in
    let x0 = c.args.exstack.now in
    let x1 = c.pop_all-run.new.exstack in
    let x2 = c.poll_proceed-polled.new.self in
    let taken = c.pop_all-run.result in
    let done = run.next == c.count_of.result in
    let e = c.poll_proceed-polled.ensures.polls in
    let all : done ≡ (run.next == length (to_send R c.pop_all-run.new.prog.value run.sends)) = ap (λ m. run.next == m) c.count_of.ensures in
    let p = proceeds_of R (c.requires.turns.first) run g.row.CAP x0 x1 x2 c.pop_all-run.new.prog.value taken.sum taken.spoiled c.votes_now-voting.result done sent got sent' got'
    c.pop_all-run.ensures.pops all c.requires.turns.node c.known.ensures.standing c.requires.may e.same e.round e.cycle (ap has_proceeded (c.in_ok-polled.ensures.stage) ∙ proceeded_stage _) (λ f. filling_open _ _ _ c.in_ok-polled.ensures.answer (sym (c.in_ok-polled.ensures.stage) ∙ f)) in
    proceeds_keep R g.row.CAP run _ x0 x1 x2 done sent got sent' got' p quota n i

pub returns-in-AllDone-clause-cycle : goal.returns-in-AllDone-clause-cycle
returns-in-AllDone-clause-cycle g c = λ quota n i.
    let R = g.Q.Program.rules in
    let sent = (g.P.Port.view c.args.port.now).sent in
    let got = (g.P.Port.view c.args.port.now).got in
    let sent' = (g.P.Port.view c.poll_proceed-polled.new.port).sent in
    let got' = (g.P.Port.view c.poll_proceed-polled.new.port).got in
    let run : Running g.row.Q.Denot = running c.args.run.now in
    let x0 = c.args.exstack.now in
    let x1 = c.pop_all-run.new.exstack in
    let x2 = c.poll_proceed-polled.new.self in
    let taken = c.pop_all-run.result in
    let done = run.next == c.count_of.result in
    let e = c.poll_proceed-polled.ensures.polls in
    let all : done ≡ (run.next == length (to_send R c.pop_all-run.new.prog.value run.sends)) = ap (λ m. run.next == m) c.count_of.ensures in
    let p = proceeds_of R (c.requires.turns.first) run g.row.CAP x0 x1 x2 c.pop_all-run.new.prog.value taken.sum taken.spoiled c.votes_now-voting.result done sent got sent' got'
    c.pop_all-run.ensures.pops all c.requires.turns.node c.known.ensures.standing c.requires.may e.same e.round e.cycle (ap has_proceeded (c.in_ok-polled.ensures.stage) ∙ proceeded_stage _) (λ f. filling_open _ _ _ c.in_ok-polled.ensures.answer (sym (c.in_ok-polled.ensures.stage) ∙ f)) in
    proceeds_keep R g.row.CAP run _ x0 x1 x2 done sent got sent' got' p quota n i

pub returns-in-AllDone-clause-in_full : goal.returns-in-AllDone-clause-in_full
returns-in-AllDone-clause-in_full g c =
    let pops = c.pop_all-run.ensures.pops in
    let x1 = c.pop_all-run.new.exstack in
    let done = c.args.run.now.next == c.count_of.result in
    let asks = c.in_ok-polled.ensures.asks in
    record {
      awaits = proceed_awaits g.row.CAP c.poll_proceed-polled.new.self c.known.ensures.standing _ c.in_ok-polled.ensures.answer c.in_ok-polled.ensures.stage;
      due = tt;
      waits = waits_like c.args.exstack.now (in_proceed done x1) c.poll_proceed-polled.new.self (g.P.Port.view c.args.port.now).got (g.P.Port.view c.poll_proceed-polled.new.port).got (is_crowded (g.P.Port.view c.poll_proceed-polled.new.port)) (is_idle (g.P.Port.view c.poll_proceed-polled.new.port))
          (proceed_ranks done x1 ∙ ap (λ (t : Stack). t.ranks) pops.same) (proceed_rank done x1 ∙ ap (λ (t : Stack). t.rank) pops.same)
          (record { posts = asks.crowded; collects = λ a low due. (asks.asked a low due).still_stuck });
    }
