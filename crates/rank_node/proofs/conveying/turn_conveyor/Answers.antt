use Rattle.std.proofs.Common.{rules, ◌≡◌, ℕ, ◌<◌, ◌==◌, true, false, List, length, All, refl, sym, ap, subst, ◌∙◌}
use Rattle.bale_items.specs.declared.item.Item.{Item}
use Rattle.route_tensor.specs.Grid.{ranks}
use Rattle.route_tensor.specs.Link.{links}
use Rattle.route_tensor.specs.Ends.{hop_at, sender_at}
use Rattle.hop_core.specs.Link.{is_due}
use Rattle.hop_core.specs.State.{State, at_end}
use Rattle.convey.specs.Progress.{progress_of}
use Rattle.convey.specs.Buffers.{is_complete, out_of}
use Rattle.rank_node.specs.Sending.{to_send}
use Rattle.rank_node.specs.Runs.{Running, running}
use Rattle.rank_node.proofs.Ballots.{send_below}
use Rattle.rank_node.proofs.Moved.{AfterPush, AfterAdvance, AfterTakes, still_working, done_stays}
use Rattle.rank_node.proofs.Halted.{Advanced, Grown, complete_from, ok_once, due_at_end, stuck, advanced_moves, advanced_leaves}
use Rattle.rank_node.proofs.conveying.turn_conveyor.Goals as goal
use Rattle.port_bank.specs.Port.{is_crowded, is_idle}

pub push_all-run-requires : goal.push_all-run-requires
push_all-run-requires g c =
    let R = g.Q.Program.rules in
    let run : Running g.row.Q.Denot = running c.args.run.now in
    let h = c.requires.turns.first in
    let i = c.requires.turns.node in
    let below : All (λ (e : ℕ × Item). e.0 < ranks c.args.conveyor.now.dims) (to_send R run.prog run.sends) =
    send_below R g.met.Q.Program.laws (ranks c.args.conveyor.now.dims) (h run.round) run.prog run.sends i.passed.valid i.passed.all_ranks i.within.emissions (λ v q s. (i.within.vote v q s).0) in
    (search rules, record { low = i.within.next_low; receivers = below; working = i.moving.working; all_pushed = i.within.all_pushed })

pub advance-progress-requires : goal.advance-progress-requires
advance-progress-requires g c =
    let R = g.Q.Program.rules in
    let sent = (g.P.Port.view c.args.port.now).sent in
    let got = (g.P.Port.view c.args.port.now).got in
    let run : Running g.row.Q.Denot = running c.args.run.now in
    let h = c.requires.turns.first in
    let i = c.requires.turns.node in
    let c0 = c.args.conveyor.now in
    let c1 = c.push_all-run.new.conveyor in
    let next = c.push_all-run.result in
    let push : AfterPush R run c0 c1 next sent got = record {
      same = c.push_all-run.ensures.same;
      agrees = c.push_all-run.ensures.kept sent got i.moving.agrees;
      on = c.push_all-run.ensures.pushed sent got i.moving.agrees;
      forward = c.push_all-run.ensures.forward;
      low = c.push_all-run.ensures.low;
    } in (
      search rules,
      record {
        begun = λ d. i.moving.begun (sym (ap (λ (t : State). t.phase) push.same) ∙ d);
        at_port = record { same_dims = c.requires.turns.same_dims ∙ sym (ap (λ (t : State). t.dims) push.same); same_rank = c.requires.turns.same_rank ∙ sym (ap (λ (t : State). t.rank) push.same); agrees = push.agrees };
        done_stays = λ d. ap (λ m. next == m) c.count_of.ensures ∙ done_stays R h run c0 c1 next sent got push i d;
      },
    )

pub returns-in_err-progress-clause-turns : goal.returns-in_err-progress-clause-turns
returns-in_err-progress-clause-turns g c =
    let R = g.Q.Program.rules in
    let sent = (g.P.Port.view c.args.port.now).sent in
    let got = (g.P.Port.view c.args.port.now).got in
    let sent' = (g.P.Port.view c.advance-progress.new.port).sent in
    let got' = (g.P.Port.view c.advance-progress.new.port).got in
    let run : Running g.row.Q.Denot = running c.args.run.now in
    let h = c.requires.turns.first in
    let i = c.requires.turns.node in
    let c0 = c.args.conveyor.now in
    let c1 = c.push_all-run.new.conveyor in
    let next = c.push_all-run.result in
    let push : AfterPush R run c0 c1 next sent got = record {
      same = c.push_all-run.ensures.same;
      agrees = c.push_all-run.ensures.kept sent got i.moving.agrees;
      on = c.push_all-run.ensures.pushed sent got i.moving.agrees;
      forward = c.push_all-run.ensures.forward;
      low = c.push_all-run.ensures.low;
    } in
    let c2 = c.advance-progress.new.self in
    let c3 = c.take_all-run.new.conveyor in
    let prog' = c.take_all-run.new.prog.value in
    let sum' = c.take_all-run.result.sum in
    let spoiled' = c.take_all-run.result.spoiled in
    let voting = c.votes_now-voting.result in
    let done = next == c.count_of.result in
    let all : done ≡ (next == length (to_send R run.prog run.sends)) = ap (λ m. next == m) c.count_of.ensures in
    let adv : AfterAdvance c1 c2 done (is_complete c2.phase) sent got sent' got' = record {
      agrees = c.advance-progress.ensures.advances.stays.agrees;
      dims = c.advance-progress.ensures.advances.stays.dims;
      rank = c.advance-progress.ensures.advances.stays.rank;
      done_is = c.advance-progress.ensures.advances.stays.done;
      begun = c.advance-progress.ensures.advances.stays.begun;
      working = λ d. (c.in_err-progress.ensures.stops refl).phase ∙ still_working R h run c0 c1 next sent got push i (sym all ∙ d);
      step = c.advance-progress.ensures.advances.stays.step;
    } in
    let grown : Grown c1 c2 g.row.CAP sent sent' got got' = record {
      steady = c.advance-progress.ensures.advances.stays.steady;
      epoch = c.advance-progress.ensures.advances.stays.epoch;
      sent_grows = c.advance-progress.ensures.advances.grows.sent_grows;
      got_grows = c.advance-progress.ensures.advances.grows.got_grows;
      one_sent = c.advance-progress.ensures.advances.grows.one_sent;
      one_got = c.advance-progress.ensures.advances.grows.one_got;
      shape = c.advance-progress.ensures.advances.grows.shape;
      lies = c.advance-progress.ensures.advances.asked.lies;
    } in
    let takes : AfterTakes R voting c2 c3 run.prog prog' run.sum sum' run.spoiled spoiled' sent' got' = record {
      same = c.take_all-run.ensures.takes.same;
      kept = c.take_all-run.ensures.takes.kept;
      read = c.take_all-run.ensures.read;
      sound = c.known.ensures.sound;
      taken = λ h rank round next sends v a. c.take_all-run.ensures.takes.taken h rank round next sends sent' got' v a;
    } in
    record {
      moves = advanced_moves R g.row.CAP run c0 c1 c2 c3 next prog' sum' spoiled' done (is_complete c2.phase) voting sent got sent' got' push all adv grown (sym c.votes_now-voting.ensures) takes;
      leaves = advanced_leaves R g.row.CAP run c0 c1 c2 c3 next prog' sum' spoiled' done (is_complete c2.phase) voting sent got sent' got' push all adv grown (sym c.votes_now-voting.ensures) takes c.advance-progress.ensures.advances.fits c.take_all-run.ensures.takes.fewer c.take_all-run.ensures.takes.emissions c.push_all-run.ensures;
      cycle = λ quota n i. tt;
      onward = tt;
      same_port = c.advance-progress.ensures.advances.stays.same_port;
    }

pub returns-clause-turns : goal.returns-clause-turns
returns-clause-turns g c =
    let R = g.Q.Program.rules in
    let sent = (g.P.Port.view c.args.port.now).sent in
    let got = (g.P.Port.view c.args.port.now).got in
    let sent' = (g.P.Port.view c.advance-progress.new.port).sent in
    let got' = (g.P.Port.view c.advance-progress.new.port).got in
    let run : Running g.row.Q.Denot = running c.args.run.now in
    let h = c.requires.turns.first in
    let i = c.requires.turns.node in
    let c0 = c.args.conveyor.now in
    let c1 = c.push_all-run.new.conveyor in
    let next = c.push_all-run.result in
    let push : AfterPush R run c0 c1 next sent got = record {
      same = c.push_all-run.ensures.same;
      agrees = c.push_all-run.ensures.kept sent got i.moving.agrees;
      on = c.push_all-run.ensures.pushed sent got i.moving.agrees;
      forward = c.push_all-run.ensures.forward;
      low = c.push_all-run.ensures.low;
    } in
    let c2 = c.advance-progress.new.self in
    let c3 = c.take_all-run.new.conveyor in
    let prog' = c.take_all-run.new.prog.value in
    let sum' = c.take_all-run.result.sum in
    let spoiled' = c.take_all-run.result.spoiled in
    let voting = c.votes_now-voting.result in
    let done = next == c.count_of.result in
    let all : done ≡ (next == length (to_send R run.prog run.sends)) = ap (λ m. next == m) c.count_of.ensures in
    let adv : AfterAdvance c1 c2 done (is_complete c2.phase) sent got sent' got' = record {
      agrees = c.advance-progress.ensures.advances.stays.agrees;
      dims = c.advance-progress.ensures.advances.stays.dims;
      rank = c.advance-progress.ensures.advances.stays.rank;
      done_is = c.advance-progress.ensures.advances.stays.done;
      begun = c.advance-progress.ensures.advances.stays.begun;
      working = c.in_ok-progress.ensures.settled.working;
      step = c.advance-progress.ensures.advances.stays.step;
    } in
    let grown : Grown c1 c2 g.row.CAP sent sent' got got' = record {
      steady = c.advance-progress.ensures.advances.stays.steady;
      epoch = c.advance-progress.ensures.advances.stays.epoch;
      sent_grows = c.advance-progress.ensures.advances.grows.sent_grows;
      got_grows = c.advance-progress.ensures.advances.grows.got_grows;
      one_sent = c.advance-progress.ensures.advances.grows.one_sent;
      one_got = c.advance-progress.ensures.advances.grows.one_got;
      shape = c.advance-progress.ensures.advances.grows.shape;
      lies = c.advance-progress.ensures.advances.asked.lies;
    } in
    let takes : AfterTakes R voting c2 c3 run.prog prog' run.sum sum' run.spoiled spoiled' sent' got' = record {
      same = c.take_all-run.ensures.takes.same;
      kept = c.take_all-run.ensures.takes.kept;
      read = c.take_all-run.ensures.read;
      sound = c.known.ensures.sound;
      taken = λ h rank round next sends v a. c.take_all-run.ensures.takes.taken h rank round next sends sent' got' v a;
    } in
    record {
      moves = advanced_moves R g.row.CAP run c0 c1 c2 c3 next prog' sum' spoiled' done (is_complete c2.phase) voting sent got sent' got' push all adv grown (sym c.votes_now-voting.ensures) takes;
      leaves = advanced_leaves R g.row.CAP run c0 c1 c2 c3 next prog' sum' spoiled' done (is_complete c2.phase) voting sent got sent' got' push all adv grown (sym c.votes_now-voting.ensures) takes c.advance-progress.ensures.advances.fits c.take_all-run.ensures.takes.fewer c.take_all-run.ensures.takes.emissions c.push_all-run.ensures;
      cycle = λ quota n i. tt;
      onward = tt;
      same_port = c.advance-progress.ensures.advances.stays.same_port;
    }

pub returns-clause-in_full : goal.returns-clause-in_full
returns-clause-in_full g c = record {
  awaits = tt;
  due = λ l below own due.
      let c1 = c.push_all-run.new.conveyor in
      let c2 = c.advance-progress.new.self in
      let c3 = c.take_all-run.new.conveyor in
      let dims : c3.dims ≡ c1.dims = ap (λ (s : State). s.dims) c.take_all-run.ensures.takes.same ∙ c.advance-progress.ensures.advances.stays.dims in
      let rank : c3.rank ≡ c1.rank = ap (λ (s : State). s.rank) c.take_all-run.ensures.takes.same ∙ c.advance-progress.ensures.advances.stays.rank in
      let still : is_due c2.cap c2.steady false (out_of c2 l) ≡ true = subst (λ (s : State). is_due s.cap s.steady false (out_of s l) ≡ true) c.take_all-run.ensures.takes.same due in
      let served = c.in_ok-progress.ensures.in_full.served.each l (subst (λ (d : List ℕ). l < links d) dims below) (subst (λ (d : List ℕ). sender_at d l ≡ c1.rank) dims (own ∙ rank)) in
      served.crowded (due_at_end c2.cap c2.steady (at_end c2.dims c2.ins c2.done (hop_at c2.dims l)) (out_of c2 l) still);
  waits = λ h is sent_same got_same.
      let R = g.Q.Program.rules in
      let sent = (g.P.Port.view c.args.port.now).sent in
      let got = (g.P.Port.view c.args.port.now).got in
      let sent' = (g.P.Port.view c.advance-progress.new.port).sent in
      let got' = (g.P.Port.view c.advance-progress.new.port).got in
      let run : Running g.row.Q.Denot = running c.args.run.now in
      let i = is in
      let c0 = c.args.conveyor.now in
      let c1 = c.push_all-run.new.conveyor in
      let next = c.push_all-run.result in
      let push : AfterPush R run c0 c1 next sent got = record {
        same = c.push_all-run.ensures.same;
        agrees = c.push_all-run.ensures.kept sent got i.moving.agrees;
        on = c.push_all-run.ensures.pushed sent got i.moving.agrees;
        forward = c.push_all-run.ensures.forward;
        low = c.push_all-run.ensures.low;
      } in
      let c2 = c.advance-progress.new.self in
      let c3 = c.take_all-run.new.conveyor in
      let prog' = c.take_all-run.new.prog.value in
      let sum' = c.take_all-run.result.sum in
      let spoiled' = c.take_all-run.result.spoiled in
      let voting = c.votes_now-voting.result in
      let done = next == c.count_of.result in
      let all : done ≡ (next == length (to_send R run.prog run.sends)) = ap (λ m. next == m) c.count_of.ensures in
      let adv : AfterAdvance c1 c2 done (is_complete c2.phase) sent got sent' got' = record {
        agrees = c.advance-progress.ensures.advances.stays.agrees;
        dims = c.advance-progress.ensures.advances.stays.dims;
        rank = c.advance-progress.ensures.advances.stays.rank;
        done_is = c.advance-progress.ensures.advances.stays.done;
        begun = c.advance-progress.ensures.advances.stays.begun;
        working = c.in_ok-progress.ensures.settled.working;
        step = c.advance-progress.ensures.advances.stays.step;
      } in
      let grown : Grown c1 c2 g.row.CAP sent sent' got got' = record {
        steady = c.advance-progress.ensures.advances.stays.steady;
        epoch = c.advance-progress.ensures.advances.stays.epoch;
        sent_grows = c.advance-progress.ensures.advances.grows.sent_grows;
        got_grows = c.advance-progress.ensures.advances.grows.got_grows;
        one_sent = c.advance-progress.ensures.advances.grows.one_sent;
        one_got = c.advance-progress.ensures.advances.grows.one_got;
        shape = c.advance-progress.ensures.advances.grows.shape;
        lies = c.advance-progress.ensures.advances.asked.lies;
      } in
      let takes : AfterTakes R voting c2 c3 run.prog prog' run.sum sum' run.spoiled spoiled' sent' got' = record {
        same = c.take_all-run.ensures.takes.same;
        kept = c.take_all-run.ensures.takes.kept;
        read = c.take_all-run.ensures.read;
        sound = c.known.ensures.sound;
        taken = λ h rank round next sends v a. c.take_all-run.ensures.takes.taken h rank round next sends sent' got' v a;
      } in
      let advanced : Advanced c1 c2 g.row.CAP sent sent' got got' (is_crowded (g.P.Port.view c.advance-progress.new.port)) (is_idle (g.P.Port.view c.advance-progress.new.port)) = record {
        epoch = c.advance-progress.ensures.advances.stays.epoch;
        full = c.in_ok-progress.ensures.in_full.served.full;
        idles = c.advance-progress.ensures.advances.asked.idle;
        lies = c.advance-progress.ensures.advances.asked.lies;
        closing = c.in_ok-progress.ensures.in_full.served.closing;
        stopped = c.in_ok-progress.ensures.in_full.served.stopped;
        completes = λ over. complete_from c2.phase (sym c.in_ok-progress.ensures.settled.is ∙ c.in_ok-progress.ensures.settled.completes over);
      } in
      stuck R h run c0 c1 c2 c3 next g.row.CAP done (is_complete c2.phase) voting prog' sum' spoiled' sent got sent' got' (is_crowded (g.P.Port.view c.advance-progress.new.port)) (is_idle (g.P.Port.view c.advance-progress.new.port))
      c.known.ensures.grid c.known.ensures.rank push c.push_all-run.ensures.refused c.push_all-run.ensures.receiver all adv advanced takes c.take_all-run.ensures.takes.fewer i sent_same got_same;
}

pub returns-clause-ended : goal.returns-clause-ended
returns-clause-ended g c = λ e.
    let p = c.turn_of.ensures.ended (ok_once e) in
    ap (λ (t : State). t.phase) c.take_all-run.ensures.takes.same ∙ complete_from c.advance-progress.new.self.phase (sym c.in_ok-progress.ensures.settled.is ∙ p)

pub returns-clause-going : goal.returns-clause-going
returns-clause-going g c = λ e p.
    c.turn_of.ensures.going (ok_once e) (c.in_ok-progress.ensures.settled.is ∙ ap progress_of (sym (ap (λ (t : State). t.phase) c.take_all-run.ensures.takes.same) ∙ p))
