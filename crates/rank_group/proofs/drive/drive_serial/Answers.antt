use Rattle.std.proofs.Common.{rules, ◌≡◌, ◌+◌, ◌<◌, ◌≤◌, [], ◌∷◌, ◌++◌, length, refl, sym, ap, subst, ◌∙◌, arith}
use Rattle.port_bank.specs.Plain.{Bank, sent_of, got_of}
use Rattle.route_tensor.specs.Grid.{ranks}
use Rattle.route_tensor.specs.Link.{links}
use Rattle.port_bank.specs.Round.{logs_of}
use Rattle.rank_group.specs.Rounds.{round_inside}
use Rattle.rank_node.specs.Movers.{manner_of}
use Rattle.rank_group.specs.Ranks.{IsOrder}
use Rattle.rank_group.specs.Turns.{Scene, SweepsOf}
use Rattle.rank_group.specs.RanksOverBank.{all_progress}
use Rattle.rank_group.specs.declared.closed_round.ClosedRound.TheVariants.{Plain}
use Rattle.rank_group.proofs.Ended.{run_needs, steps_at, world_after, have_ended, notified, fewest_turns, only_one, none_first, all_sent, all_got}
use Rattle.rank_group.proofs.drive.drive_serial.Goals as goal

pub run_all-requires : goal.run_all-requires
run_all-requires g c = (
  search rules,
  (
    search rules,
    run_needs g.Q.Program.rules g.met.Q.Program.laws g.row.CAP c.args.grid.now c.args.slots (manner_of c.args.via c.args.steady) c.args.progs c.requires.run.begins.0 c.requires.run.begins.1 c.requires.run.begins.2 c.requires.run.begins.3 c.in_ok-all.all.items c.in_ok-all.ensures.fresh c.requires.fits.cap_is.some
        c.in_ok-bank.bank c.in_ok-bank.ensures.made c.in_ok-bank.ensures.lawful c.args.order.now (subst (λ (b : Bank). IsOrder (ranks b.dims) c.args.order.now) (sym c.in_ok-bank.ensures.made) c.requires.order),
  ),
)

pub returns-in_err-bank-2-clause-steps : goal.returns-in_err-bank-2-clause-steps
returns-in_err-bank-2-clause-steps g c =
    steps_at g.Q.Program.rules g.met.Q.Program.laws g.row.CAP c.args.grid.now c.args.slots (manner_of c.args.via c.args.steady) c.args.progs c.requires.run.begins.0 c.requires.run.begins.1 c.requires.run.begins.2 c.requires.run.begins.3 c.in_ok-all.all.items c.in_ok-all.ensures.fresh c.requires.fits.cap_is.some
    c.in_ok-bank.bank c.in_ok-bank.ensures.made c.in_ok-bank.ensures.lawful c.args.steps.now c.run_all.new.steps c.run_all.ensures.steps

pub returns-in_err-add-clause-steps : goal.returns-in_err-add-clause-steps
returns-in_err-add-clause-steps g c =
    steps_at g.Q.Program.rules g.met.Q.Program.laws g.row.CAP c.args.grid.now c.args.slots (manner_of c.args.via c.args.steady) c.args.progs c.requires.run.begins.0 c.requires.run.begins.1 c.requires.run.begins.2 c.requires.run.begins.3 c.in_ok-all.all.items c.in_ok-all.ensures.fresh c.requires.fits.cap_is.some
    c.in_ok-bank.bank c.in_ok-bank.ensures.made c.in_ok-bank.ensures.lawful c.args.steps.now c.run_all.new.steps c.run_all.ensures.steps

pub returns-in_err-progs-clause-steps : goal.returns-in_err-progs-clause-steps
returns-in_err-progs-clause-steps g c =
    steps_at g.Q.Program.rules g.met.Q.Program.laws g.row.CAP c.args.grid.now c.args.slots (manner_of c.args.via c.args.steady) c.args.progs c.requires.run.begins.0 c.requires.run.begins.1 c.requires.run.begins.2 c.requires.run.begins.3 c.in_ok-all.all.items c.in_ok-all.ensures.fresh c.requires.fits.cap_is.some
    c.in_ok-bank.bank c.in_ok-bank.ensures.made c.in_ok-bank.ensures.lawful c.args.steps.now c.run_all.new.steps c.run_all.ensures.steps

pub returns-clause-steps : goal.returns-clause-steps
returns-clause-steps g c =
    steps_at g.Q.Program.rules g.met.Q.Program.laws g.row.CAP c.args.grid.now c.args.slots (manner_of c.args.via c.args.steady) c.args.progs c.requires.run.begins.0 c.requires.run.begins.1 c.requires.run.begins.2 c.requires.run.begins.3 c.in_ok-all.all.items c.in_ok-all.ensures.fresh c.requires.fits.cap_is.some
    c.in_ok-bank.bank c.in_ok-bank.ensures.made c.in_ok-bank.ensures.lawful c.args.steps.now c.run_all.new.steps c.run_all.ensures.steps

pub returns-clause-finished : goal.returns-clause-finished
returns-clause-finished g c =
    let w = world_after g.Q.Program.rules g.met.Q.Program.laws g.row.CAP c.args.grid.now c.args.slots (manner_of c.args.via c.args.steady) c.args.progs c.requires.run.begins.0 c.requires.run.begins.1 c.requires.run.begins.2 c.requires.run.begins.3 c.in_ok-all.all.items c.in_ok-all.ensures.fresh c.requires.fits.cap_is.some
    c.in_ok-bank.bank c.in_ok-bank.ensures.made c.in_ok-bank.ensures.lawful c.run_all.new.all.items c.in_ok-bank-2.bank c.in_ok-bank-2.ensures.on_bank in
    let ed = c.in_ok-bank-2.ensures.turns.bank.same_dims ∙ ap (λ (b : Bank). b.dims) c.in_ok-bank.ensures.made in
    let es = c.in_ok-bank-2.ensures.turns.bank.same_slots ∙ ap (λ (b : Bank). b.slots) c.in_ok-bank.ensures.made in
    record {
      ended = have_ended g.Q.Program.rules g.met.Q.Program.laws c.closes_laws.ensures g.row.CAP c.args.grid.now c.args.slots (manner_of c.args.via c.args.steady) c.args.progs w.0 c.run_all.new.all.items (sent_of c.in_ok-bank-2.bank) (got_of c.in_ok-bank-2.bank) w.1.ranked (c.in_ok-bank-2.ensures.over) c.requires.run.begins.0 c.requires.run.begins.1 c.requires.run.begins.3.rounds c.requires.run.begins.2 c.requires.run.begins.3.has_rounds c.in_ok-progs.progs c.in_ok-progs.ensures.progs;
      rounds = (
        Plain c.close.result,
        c.in_ok-add.ensures.added ∙ ap (λ xs. xs ++ Plain c.close.result ∷ []) c.new-rounds.ensures,
        λ n rounds.
            notified g.Q.Program.rules g.met.Q.Program.laws c.closes_laws.ensures g.row.CAP c.args.grid.now c.args.slots (manner_of c.args.via c.args.steady) c.args.progs w.0 c.run_all.new.all.items c.in_ok-bank-2.bank ed es w.1.ranked (c.in_ok-bank-2.ensures.over) c.requires.run.begins.0 c.requires.run.begins.1 n c.requires.run.begins.2 rounds c.close.result c.close.ensures.round c.close.ensures.in_order,
      );
    }

pub returns-clause-swept : goal.returns-clause-swept
returns-clause-swept g c =
    let swept = c.in_ok-bank-2.ensures.order in
    let first = c.in_ok-all.all.items in
    let last : Scene g.row.Q.Denot = record { ranks = c.run_all.new.all.items; sent = sent_of c.in_ok-bank-2.bank; got = got_of c.in_ok-bank-2.bank; turns = c.run_all.new.steps } in
    let made = c.in_ok-bank.ensures.made in
    let w = world_after g.Q.Program.rules g.met.Q.Program.laws g.row.CAP c.args.grid.now c.args.slots (manner_of c.args.via c.args.steady) c.args.progs c.requires.run.begins.0 c.requires.run.begins.1 c.requires.run.begins.2 c.requires.run.begins.3 first c.in_ok-all.ensures.fresh c.requires.fits.cap_is.some
    c.in_ok-bank.bank made c.in_ok-bank.ensures.lawful c.run_all.new.all.items c.in_ok-bank-2.bank c.in_ok-bank-2.ensures.on_bank in
    let ed = c.in_ok-bank-2.ensures.turns.bank.same_dims ∙ ap (λ (b : Bank). b.dims) made in
    let es = c.in_ok-bank-2.ensures.turns.bank.same_slots ∙ ap (λ (b : Bank). b.slots) made in
    let more = subst (λ (b : Bank). all_progress b.dims c.run_all.new.all.items + c.args.steps.now ≤ all_progress b.dims first + c.run_all.new.steps) made c.in_ok-bank-2.ensures.turns.fewest in
    record {
      order = record {
        sweeps = swept.0;
        first = first;
        last = last;
        fresh = c.in_ok-all.ensures.fresh;
        ended = sym c.in_ok-progs.ensures.progs;
        counted = refl;
        swept = subst (λ (b : Bank). SweepsOf g.Q.Program.rules b.dims g.row.CAP b.slots c.args.order.now swept.0 (record { ranks = first; sent = sent_of b; got = got_of b; turns = c.args.steps.now }) last) made swept.1;
      };
      exchanged = λ round is l.
          let rounds = c.in_ok-add.ensures.added ∙ ap (λ xs. xs ++ Plain c.close.result ∷ []) c.new-rounds.ensures in
          let same : Plain c.close.result ≡ round = only_one (Plain c.close.result) round (sym rounds ∙ is) in (
            ap (λ x. logs_of (round_inside x).sent l) (sym same) ∙ all_sent g.row.CAP c.in_ok-bank-2.bank c.close.result l c.close.ensures.round,
            ap (λ x. logs_of (round_inside x).got l) (sym same) ∙ all_got g.row.CAP c.in_ok-bank-2.bank c.close.result l c.close.ensures.round,
          );
      fewest = λ n rounds.
          fewest_turns g.Q.Program.rules g.met.Q.Program.laws c.closes_laws.ensures g.row.CAP c.args.grid.now c.args.slots (manner_of c.args.via c.args.steady) c.args.progs w.0 c.run_all.new.all.items c.in_ok-bank-2.bank ed es w.1.ranked (c.in_ok-bank-2.ensures.over) c.requires.run.begins.0 c.requires.run.begins.1 n c.requires.run.begins.2 rounds
          first c.in_ok-all.ensures.fresh c.args.steps.now c.run_all.new.steps more;
      posted = λ round is l below.
          let rounds = c.in_ok-add.ensures.added ∙ ap (λ xs. xs ++ Plain c.close.result ∷ []) c.new-rounds.ensures in
          let same : Plain c.close.result ≡ round = only_one (Plain c.close.result) round (sym rounds ∙ is) in
          let notified = c.in_ok-bank-2.ensures.turns.posted l (subst (λ d. l < links d) (sym (ap (λ (b : Bank). b.dims) made)) below) in
          let none : length (sent_of c.in_ok-bank.bank l) ≡ 0 = ap (λ (b : Bank). length (sent_of b l)) made ∙ none_first c.args.grid.now c.args.slots l in
          let all : length (logs_of (round_inside round).sent l) ≡ length (sent_of c.in_ok-bank-2.bank l) = ap (λ x. length (logs_of (round_inside x).sent l)) (sym same) ∙ ap length (all_sent g.row.CAP c.in_ok-bank-2.bank c.close.result l c.close.ensures.round) in
          omega (arith, notified, none, all);
    }
