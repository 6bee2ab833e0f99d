use Rattle.std.proofs.Common.{rules, ◌≡◌, ◌<◌, false, [], ◌∷◌, length, slice_get, refl, arith, sym, ap, subst, ◌∙◌}
use Rattle.list_laws.proofs.Lists.{get_once}
use Rattle.list_laws.proofs.Results.{if_ok_from, if_ok_is}
use Rattle.route_tensor.specs.Grid.{ranks}
use Rattle.route_tensor.specs.Link.{links}
use Rattle.port_bank.specs.Plain.{Bank, round_of_bank, empty_bank, sent_of}
use Rattle.port_bank.specs.Round.{IsRound, logs_of}
use Rattle.rank_group.proofs.Ended.{all_got, all_sent, none_first}
use Rattle.rank_group.specs.Ranks.{IsOrder}
use Rattle.rank_group.specs.declared.closed_round.ClosedRound.{ClosedRound}
use Rattle.rank_group.specs.Rounds.{round_inside}
use Rattle.rank_group.specs.Turns.{InSweeps}
use Rattle.biconvey.specs.Turns.{AskingScene, IsAskingTurn}
use Rattle.biconvey.specs.RanksOverBanks.{sides_of}
use Rattle.biconvey.specs.Drives.{askers_of}
use Rattle.biconvey.specs.DrivePromises.{HasExchanged, HasSweptBoth}
use Rattle.biconvey.proofs.Ended.{first, banks_first, on_bank_first, begins, steps_at, fewest_at, on_bank_last, banks_last, have_heard, notified}
use Rattle.biconvey.proofs.drive.drive_both.Goals as goal

pub run_all-requires : goal.run_all-requires
run_all-requires g c = (
  search rules,
  (
    search rules,
    record {
      order = subst (λ (b : Bank). IsOrder (ranks b.dims) c.args.order.now) (sym c.in_ok-banks.ensures.queries) c.requires.order;
      banks = banks_first g.A.Asker.talk g.row.CAP c.args.grid.now c.args.slots c.args.steady c.args.askers c.in_ok-all.all.items c.in_ok-banks.banks.queries c.in_ok-banks.banks.replies c.in_ok-all.ensures c.requires.askers c.requires.fits.cap_is.some c.in_ok-banks.ensures.queries c.in_ok-banks.ensures.replies c.in_ok-banks.ensures.lawful;
      steady = c.args.steady;
      starts = begins g.A.Asker.talk g.row.CAP c.args.grid.now c.args.slots c.args.steady c.args.askers c.in_ok-all.all.items c.in_ok-banks.banks.queries c.in_ok-banks.banks.replies c.in_ok-all.ensures c.requires.askers c.requires.fits.cap_is.some c.in_ok-banks.ensures.queries c.in_ok-banks.ensures.replies c.in_ok-banks.ensures.lawful;
      on_bank = on_bank_first g.A.Asker.talk g.row.CAP c.args.grid.now c.args.slots c.args.steady c.args.askers c.in_ok-all.all.items c.in_ok-banks.banks.queries c.in_ok-banks.banks.replies c.in_ok-all.ensures c.requires.askers c.requires.fits.cap_is.some c.in_ok-banks.ensures.queries c.in_ok-banks.ensures.replies c.in_ok-banks.ensures.lawful;
    },
  ),
)

pub returns-in_err-banks-2-clause-steps : goal.returns-in_err-banks-2-clause-steps
returns-in_err-banks-2-clause-steps g c = steps_at g.A.Asker.talk g.row.CAP c.args.grid.now c.args.slots c.args.steady c.args.askers c.in_ok-all.all.items c.in_ok-banks.banks.queries c.in_ok-banks.banks.replies c.in_ok-all.ensures c.requires.askers c.requires.fits.cap_is.some c.in_ok-banks.ensures.queries c.in_ok-banks.ensures.replies c.in_ok-banks.ensures.lawful c.args.steps.now c.run_all.new.steps c.run_all.ensures.steps

pub returns-clause-steps : goal.returns-clause-steps
returns-clause-steps g c = steps_at g.A.Asker.talk g.row.CAP c.args.grid.now c.args.slots c.args.steady c.args.askers c.in_ok-all.all.items c.in_ok-banks.banks.queries c.in_ok-banks.banks.replies c.in_ok-all.ensures c.requires.askers c.requires.fits.cap_is.some c.in_ok-banks.ensures.queries c.in_ok-banks.ensures.replies c.in_ok-banks.ensures.lawful c.args.steps.now c.run_all.new.steps c.run_all.ensures.steps

pub returns-clause-exchanged : goal.returns-clause-exchanged
returns-clause-exchanged g c =
    let T = g.A.Asker.talk in
    let ns = c.run_all.new.all.items in
    let b = c.in_ok-banks-2.banks in
    let w = on_bank_last g.A.Asker.talk g.row.CAP c.args.grid.now c.args.slots c.args.steady c.args.askers c.in_ok-all.all.items c.in_ok-banks.banks.queries c.in_ok-banks.banks.replies c.in_ok-all.ensures c.requires.askers c.requires.fits.cap_is.some c.in_ok-banks.ensures.queries c.in_ok-banks.ensures.replies c.in_ok-banks.ensures.lawful ns b.queries b.replies c.in_ok-banks-2.ensures.on_bank in
    let banks = banks_last g.A.Asker.talk g.row.CAP c.args.grid.now c.args.slots c.args.steady c.args.askers c.in_ok-all.all.items c.in_ok-banks.banks.queries c.in_ok-banks.banks.replies c.in_ok-all.ensures c.requires.askers c.requires.fits.cap_is.some c.in_ok-banks.ensures.queries c.in_ok-banks.ensures.replies c.in_ok-banks.ensures.lawful b.queries b.replies c.in_ok-banks-2.ensures.banks in
    if_ok_from (HasExchanged T c.args.askers (record { dims = c.args.grid.now; cap = g.row.CAP; slots = c.args.slots; by_slots = false }) c.args.steady) c.finish.result
    (λ f e.
    let x = if_ok_is (λ f. (q : ClosedRound) × (r : ClosedRound) × (f.rounds ≡ q ∷ r ∷ []) × (round_inside q ≡ round_of_bank g.row.CAP b.queries) × IsRound (round_inside q) × (round_inside r ≡ round_of_bank g.row.CAP b.replies) × IsRound (round_inside r)) c.finish.result f e c.finish.ensures.rounds in
    record {
      heard = have_heard T g.met.A.Asker.laws c.closes_law.ensures g.row.CAP c.args.grid.now c.args.slots c.args.steady c.args.askers (first g.A.Asker.talk g.row.CAP c.args.grid.now c.args.slots c.args.steady c.args.askers c.in_ok-all.all.items c.in_ok-banks.banks.queries c.in_ok-banks.banks.replies c.in_ok-all.ensures c.requires.askers c.requires.fits.cap_is.some c.in_ok-banks.ensures.queries c.in_ok-banks.ensures.replies c.in_ok-banks.ensures.lawful).0 ns b.queries b.replies c.requires.askers banks w c.in_ok-banks-2.ensures.over f.progs
          (if_ok_is (λ f. f.progs ≡ askers_of ns) c.finish.result f e c.finish.ensures.progs);
      rounds = (x.0, x.1, x.2, notified T g.met.A.Asker.laws c.closes_law.ensures g.row.CAP c.args.grid.now c.args.slots c.args.steady c.args.askers (first g.A.Asker.talk g.row.CAP c.args.grid.now c.args.slots c.args.steady c.args.askers c.in_ok-all.all.items c.in_ok-banks.banks.queries c.in_ok-banks.banks.replies c.in_ok-all.ensures c.requires.askers c.requires.fits.cap_is.some c.in_ok-banks.ensures.queries c.in_ok-banks.ensures.replies c.in_ok-banks.ensures.lawful).0 ns b.queries b.replies c.requires.askers banks w c.in_ok-banks-2.ensures.over (round_inside x.0) (round_inside x.1) x.3 x.4 x.5 x.6);
    })

pub returns-clause-swept : goal.returns-clause-swept
returns-clause-swept g c =
    let b = c.in_ok-banks-2.banks in
    let step = IsAskingTurn g.A.Asker.talk c.args.grid.now g.row.CAP c.args.slots in
    let swept = c.in_ok-banks-2.ensures.order in
    let last : AskingScene g.row.A.Denot = record { ranks = c.run_all.new.all.items; sides = sides_of b.queries b.replies; turns = c.run_all.new.steps } in
    let begun : Bank → Bank → AskingScene g.row.A.Denot = λ x y. record { ranks = c.in_ok-all.all.items; sides = sides_of x y; turns = c.args.steps.now } in
    if_ok_from (HasSweptBoth g.A.Asker.talk c.args.askers (record { dims = c.args.grid.now; cap = g.row.CAP; slots = c.args.slots; by_slots = false }) c.args.steady c.args.order.now c.args.steps.now c.run_all.new.steps) c.finish.result
    (λ f e.
    let x = if_ok_is (λ f. (q : ClosedRound) × (r : ClosedRound) × (f.rounds ≡ q ∷ r ∷ []) × (round_inside q ≡ round_of_bank g.row.CAP b.queries) × IsRound (round_inside q) × (round_inside r ≡ round_of_bank g.row.CAP b.replies) × IsRound (round_inside r)) c.finish.result f e c.finish.ensures.rounds in
    record {
      order = record {
        sweeps = swept.0;
        first = c.in_ok-all.all.items;
        last = last;
        fresh = c.in_ok-all.ensures;
        ended = sym (if_ok_is (λ f. f.progs ≡ askers_of c.run_all.new.all.items) c.finish.result f e c.finish.ensures.progs);
        counted = refl;
        swept = subst (λ (y : Bank). InSweeps step c.args.order.now swept.0 (begun (empty_bank c.args.grid.now c.args.slots) y) last) c.in_ok-banks.ensures.replies
            (subst (λ (y : Bank). InSweeps (IsAskingTurn g.A.Asker.talk y.dims g.row.CAP y.slots) c.args.order.now swept.0 (begun y c.in_ok-banks.banks.replies) last) c.in_ok-banks.ensures.queries swept.1);
      };
      exchanged = λ q r is l.
          let same : x.0 ∷ x.1 ∷ [] ≡ q ∷ r ∷ [] = sym x.2 ∙ is in
          let same_q : x.0 ≡ q = get_once (x.0 ∷ x.1 ∷ []) 0 x.0 q refl (ap (λ rs. slice_get rs 0) same) in
          let same_r : x.1 ≡ r = get_once (x.0 ∷ x.1 ∷ []) 1 x.1 r refl (ap (λ rs. slice_get rs 1) same) in (
            ap (λ y. logs_of (round_inside y).sent l) (sym same_q) ∙ all_sent g.row.CAP b.queries (round_inside x.0) l x.3,
            ap (λ y. logs_of (round_inside y).got l) (sym same_q) ∙ all_got g.row.CAP b.queries (round_inside x.0) l x.3,
            ap (λ y. logs_of (round_inside y).sent l) (sym same_r) ∙ all_sent g.row.CAP b.replies (round_inside x.1) l x.5,
            ap (λ y. logs_of (round_inside y).got l) (sym same_r) ∙ all_got g.row.CAP b.replies (round_inside x.1) l x.5,
          );
      fewest = fewest_at g.A.Asker.talk g.row.CAP c.args.grid.now c.args.slots c.args.steady c.args.askers c.in_ok-all.all.items c.in_ok-banks.banks.queries c.in_ok-banks.banks.replies c.in_ok-all.ensures c.requires.askers c.requires.fits.cap_is.some c.in_ok-banks.ensures.queries c.in_ok-banks.ensures.replies c.in_ok-banks.ensures.lawful
          c.args.steps.now c.run_all.new.steps c.in_ok-banks-2.ensures.fewest;
      posted = λ q r is l below.
          let same : x.0 ∷ x.1 ∷ [] ≡ q ∷ r ∷ [] = sym x.2 ∙ is in
          let same_q : x.0 ≡ q = get_once (x.0 ∷ x.1 ∷ []) 0 x.0 q refl (ap (λ rs. slice_get rs 0) same) in
          let same_r : x.1 ≡ r = get_once (x.0 ∷ x.1 ∷ []) 1 x.1 r refl (ap (λ rs. slice_get rs 1) same) in
          let notified = c.in_ok-banks-2.ensures.posted l (subst (λ (y : Bank). l < links y.dims) (sym c.in_ok-banks.ensures.queries) below) in
          let none_q : length (sent_of c.in_ok-banks.banks.queries l) ≡ 0 = ap (λ (y : Bank). length (sent_of y l)) c.in_ok-banks.ensures.queries ∙ none_first c.args.grid.now c.args.slots l in
          let none_r : length (sent_of c.in_ok-banks.banks.replies l) ≡ 0 = ap (λ (y : Bank). length (sent_of y l)) c.in_ok-banks.ensures.replies ∙ none_first c.args.grid.now c.args.slots l in
          let all_q : length (logs_of (round_inside q).sent l) ≡ length (sent_of b.queries l) = ap (λ y. length (logs_of (round_inside y).sent l)) (sym same_q) ∙ ap length (all_sent g.row.CAP b.queries (round_inside x.0) l x.3) in
          let all_r : length (logs_of (round_inside r).sent l) ≡ length (sent_of b.replies l) = ap (λ y. length (logs_of (round_inside y).sent l)) (sym same_r) ∙ ap length (all_sent g.row.CAP b.replies (round_inside x.1) l x.5) in
          (omega (arith, notified.0, none_q, all_q), omega (arith, notified.1, none_r, all_r));
    })
