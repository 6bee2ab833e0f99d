use Rattle.std.proofs.Common.{rules, ◌≡◌, ◌<◌, true, None, Some, ◌++◌, ◌∷◌, [], map, slice_index_or, refl, sym, ap, subst, ◌∙◌}
use denote.Signature.{named_lft}
use denote.Param.{param, number}
use denote.Param.Send.{param_send}
use Rattle.rank_group.specs.contracts.at_port.AtPort as AtPort
use Rattle.rank_group.proofs.Crosses.{at_port_send}
use Rattle.route_tensor.specs.Grid.{ranks}
use Rattle.port_bank.specs.Logs.{starting_at, ending_at}
use Rattle.port_bank.specs.Round.{Round, IsRound, logs_of}
use Rattle.link_slots.specs.ClosedBank.{slot_round}
use Rattle.link_slots.specs.SeatView.{SeatView, posted_on, collected_from}
use Rattle.link_slots.specs.Shape.{Shape}
use Rattle.round_program.specs.Canonical.{InRound}
use Rattle.rank_node.specs.Movers.{manner_of}
use Rattle.rank_group.specs.declared.closed_round.ClosedRound.TheVariants.{Slots}
use Rattle.rank_group.specs.Drives.{progs_of, AreFresh}
use Rattle.rank_group.specs.Transcript.{BankShape, RecordsRun}
use Rattle.rank_group.proofs.Ended.{have_ended}
use Rattle.rank_group.proofs.Telling.{tells_run}
use Rattle.rank_group.proofs.Threaded.{sat_at, numbered_at, all_there, history, all_ranked, all_over, all_told}
use Rattle.rank_group.proofs.threads.drive_with.Goals as goal

pub gather_all-requires : goal.gather_all-requires
gather_all-requires g c =
    let R = g.Q.Program.rules in
    let fresh = subst (λ (h : Shape). AreFresh R h.dims g.row.CAP (manner_of c.args.via c.args.steady) c.args.progs c.in_ok-all.all.items) (sym c.in_ok-bank.ensures.bank) c.in_ok-all.ensures.fresh in
    let start = subst (λ (h : Shape). InRound R (ranks h.dims) 0 c.requires.run.begins.0 c.requires.run.begins.1 c.args.progs) (sym c.in_ok-bank.ensures.bank) c.requires.run.begins.2 in
    let seated = c.in_ok-seated.ensures.seated (manner_of c.args.via c.args.steady) c.args.progs fresh in (
      search rules,
      (
        search rules,
        (
          search rules,
          (
            search rules,
            (
              c.seat_all.ensures.bank,
              (
                sat_at R g.row.CAP c.in_ok-bank.bank (manner_of c.args.via c.args.steady) c.args.progs c.requires.run.begins.0 c.requires.run.begins.1 start c.in_ok-all.all.items fresh c.in_ok-seated.seated.items c.in_ok-ended.ended.items c.in_ok-seated.ensures.ranks seated (g.G.Gate.notified c.args.gate.now) c.in_ok-ended.ensures.ran,
                numbered_at R g.row.CAP c.in_ok-bank.bank (manner_of c.args.via c.args.steady) c.args.progs c.requires.run.begins.0 c.requires.run.begins.1 start c.in_ok-all.all.items fresh c.in_ok-seated.seated.items c.in_ok-ended.ended.items c.in_ok-seated.ensures.ranks seated (g.G.Gate.notified c.args.gate.now) c.in_ok-ended.ensures.ran,
              ),
            ),
          ),
        ),
      ),
    )

pub close-requires : goal.close-requires
close-requires g c =
    let R = g.Q.Program.rules in
    let fresh = subst (λ (h : Shape). AreFresh R h.dims g.row.CAP (manner_of c.args.via c.args.steady) c.args.progs c.in_ok-all.all.items) (sym c.in_ok-bank.ensures.bank) c.in_ok-all.ensures.fresh in
    let start = subst (λ (h : Shape). InRound R (ranks h.dims) 0 c.requires.run.begins.0 c.requires.run.begins.1 c.args.progs) (sym c.in_ok-bank.ensures.bank) c.requires.run.begins.2 in
    let seated = c.in_ok-seated.ensures.seated (manner_of c.args.via c.args.steady) c.args.progs fresh in (
      search rules,
      (
        search rules,
        (
          c.gather_all.ensures.bank,
          all_there R g.row.CAP c.in_ok-bank.bank (manner_of c.args.via c.args.steady) c.args.progs c.requires.run.begins.0 c.requires.run.begins.1 start c.in_ok-all.all.items fresh c.in_ok-seated.seated.items c.in_ok-ended.ended.items c.in_ok-seated.ensures.ranks seated (g.G.Gate.notified c.args.gate.now) c.in_ok-ended.ensures.ran c.gather_all.new.gather c.in_ok-over.ensures.there,
        ),
      ),
    )

pub returns-clause-finished : goal.returns-clause-finished
returns-clause-finished g c =
    let R = g.Q.Program.rules in
    let fresh = subst (λ (h : Shape). AreFresh R h.dims g.row.CAP (manner_of c.args.via c.args.steady) c.args.progs c.in_ok-all.all.items) (sym c.in_ok-bank.ensures.bank) c.in_ok-all.ensures.fresh in
    let start = subst (λ (h : Shape). InRound R (ranks h.dims) 0 c.requires.run.begins.0 c.requires.run.begins.1 c.args.progs) (sym c.in_ok-bank.ensures.bank) c.requires.run.begins.2 in
    let seated = c.in_ok-seated.ensures.seated (manner_of c.args.via c.args.steady) c.args.progs fresh in
    let b = c.in_ok-bank.bank in
    let lists = c.gather_all.new.gather.lists in
    let ys = c.in_ok-ended.ended.items in
    let round : Round = slot_round b.shape g.row.CAP lists in
    let order = subst IsRound c.close.ensures.round c.close.ensures.in_order in
    let sent = subst (λ (z : Round). (s : SeatView) → slice_index_or lists s.rank None ≡ Some s.lists → starting_at b.shape.dims s.rank (logs_of z.sent) ≡ posted_on s) c.close.ensures.round c.close.ensures.sent in
    let got = subst (λ (z : Round). (s : SeatView) → slice_index_or lists s.rank None ≡ Some s.lists → ending_at b.shape.dims s.rank (logs_of z.got) ≡ collected_from s) c.close.ensures.round c.close.ensures.got in
    let h = history R g.row.CAP c.in_ok-bank.bank (manner_of c.args.via c.args.steady) c.args.progs c.requires.run.begins.0 c.requires.run.begins.1 start c.in_ok-all.all.items fresh c.in_ok-seated.seated.items c.in_ok-ended.ended.items c.in_ok-seated.ensures.ranks seated (g.G.Gate.notified c.args.gate.now) c.in_ok-ended.ensures.ran c.in_ok-ended.ensures.over c.in_ok-over.ensures.none_lost c.gather_all.new.gather c.in_ok-over.ensures.there order sent got in
    let w = all_ranked R g.row.CAP c.in_ok-bank.bank (manner_of c.args.via c.args.steady) c.args.progs c.requires.run.begins.0 c.requires.run.begins.1 start c.in_ok-all.all.items fresh c.in_ok-seated.seated.items c.in_ok-ended.ended.items c.in_ok-seated.ensures.ranks seated (g.G.Gate.notified c.args.gate.now) c.in_ok-ended.ensures.ran c.in_ok-ended.ensures.over c.in_ok-over.ensures.none_lost c.gather_all.new.gather c.in_ok-over.ensures.there order sent got in
    let over = all_over R g.row.CAP c.in_ok-bank.bank (manner_of c.args.via c.args.steady) c.args.progs c.requires.run.begins.0 c.requires.run.begins.1 start c.in_ok-all.all.items fresh c.in_ok-seated.seated.items c.in_ok-ended.ended.items c.in_ok-seated.ensures.ranks seated (g.G.Gate.notified c.args.gate.now) c.in_ok-ended.ensures.ran c.in_ok-ended.ensures.over c.in_ok-over.ensures.none_lost c.gather_all.new.gather c.in_ok-over.ensures.there order sent got in
    let made : BankShape = record { dims = c.args.grid.now; cap = g.row.CAP; slots = c.args.slots; by_slots = true } in
    let is = ap (λ (s : Shape). record { dims = s.dims; cap = g.row.CAP; slots = s.slots; by_slots = true }) c.in_ok-bank.ensures.bank in
    record {
      ended = have_ended R (g.met.Q.Program g.world.𝓛 g.world.𝓜 g.world.𝓡 ((λ s x. x), (λ x. x), (λ x. x), λ x. x)).laws c.closes_laws.ensures g.row.CAP b.shape.dims b.shape.slots (manner_of c.args.via c.args.steady) c.args.progs h (map (λ y. y.rank) ys) (logs_of round.sent) (logs_of round.got) w over
          c.requires.run.begins.0 c.requires.run.begins.1 c.requires.run.begins.3.rounds start c.requires.run.begins.3.has_rounds c.in_ok-progs.progs (c.in_ok-progs.ensures.progs ∙ ap progs_of c.in_ok-over.ensures.ranks);
      rounds = (
        Slots c.close.result,
        c.in_ok-add.ensures.added ∙ ap (λ xs. xs ++ Slots c.close.result ∷ []) c.new-rounds.ensures,
        λ n rounds. subst (λ z. RecordsRun R c.args.progs n made (manner_of c.args.via c.args.steady) z) (sym c.close.ensures.round)
            (tells_run R (g.met.Q.Program g.world.𝓛 g.world.𝓜 g.world.𝓡 ((λ s x. x), (λ x. x), (λ x. x), λ x. x)).laws c.closes_laws.ensures round g.row.CAP b.shape.slots (manner_of c.args.via c.args.steady) c.args.progs h (map (λ y. y.rank) ys) w order.in_order over
            c.requires.run.begins.0 c.requires.run.begins.1 n start rounds made is refl),
      );
    }

pub returns-clause-notified : goal.returns-clause-notified
returns-clause-notified g c = λ n r m rounds low below.
    let R = g.Q.Program.rules in
    let fresh = subst (λ (h : Shape). AreFresh R h.dims g.row.CAP (manner_of c.args.via c.args.steady) c.args.progs c.in_ok-all.all.items) (sym c.in_ok-bank.ensures.bank) c.in_ok-all.ensures.fresh in
    let start = subst (λ (h : Shape). InRound R (ranks h.dims) 0 c.requires.run.begins.0 c.requires.run.begins.1 c.args.progs) (sym c.in_ok-bank.ensures.bank) c.requires.run.begins.2 in
    let seated = c.in_ok-seated.ensures.seated (manner_of c.args.via c.args.steady) c.args.progs fresh in
    let b = c.in_ok-bank.bank in
    let lists = c.gather_all.new.gather.lists in
    let ys = c.in_ok-ended.ended.items in
    let round : Round = slot_round b.shape g.row.CAP lists in
    let order = subst IsRound c.close.ensures.round c.close.ensures.in_order in
    let sent = subst (λ (z : Round). (s : SeatView) → slice_index_or lists s.rank None ≡ Some s.lists → starting_at b.shape.dims s.rank (logs_of z.sent) ≡ posted_on s) c.close.ensures.round c.close.ensures.sent in
    let got = subst (λ (z : Round). (s : SeatView) → slice_index_or lists s.rank None ≡ Some s.lists → ending_at b.shape.dims s.rank (logs_of z.got) ≡ collected_from s) c.close.ensures.round c.close.ensures.got in
    all_told R g.row.CAP c.in_ok-bank.bank (manner_of c.args.via c.args.steady) c.args.progs c.requires.run.begins.0 c.requires.run.begins.1 start c.in_ok-all.all.items fresh c.in_ok-seated.seated.items c.in_ok-ended.ended.items c.in_ok-seated.ensures.ranks seated (g.G.Gate.notified c.args.gate.now) c.in_ok-ended.ensures.ran c.in_ok-ended.ensures.over c.in_ok-over.ensures.none_lost c.gather_all.new.gather c.in_ok-over.ensures.there order sent got
    (g.met.Q.Program g.world.𝓛 g.world.𝓜 g.world.𝓡 ((λ s x. x), (λ x. x), (λ x. x), λ x. x)).laws c.closes_laws.ensures n rounds r m (subst (λ (h : Shape). r < ranks h.dims) (sym c.in_ok-bank.ensures.bank) low) below

pub run_together-requires-send-A : goal.run_together-requires-send-A
run_together-requires-send-A g c κs within =
    let κ = named_lft 6 5 tt κs in
    let R = AtPort.the_row κ (param 3 g.row.Q) (param 0 (number g.row.CAP)) (param 1 (number g.row.HOPS)) g.Q.Program in
    let s = at_port_send κ (param 3 g.row.Q) (param 0 (number g.row.CAP)) (param 1 (number g.row.HOPS)) g.Q.Program c.type_bounds.send-Q in
    record { owned = s.owned; leaving = (param_send 1 R s).leaving }
