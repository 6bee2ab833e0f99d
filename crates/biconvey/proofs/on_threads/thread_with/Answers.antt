use Rattle.std.proofs.Common.{rules, ◌<◌, true, ◌++◌, ◌∷◌, [], sym, ap, subst, ◌∙◌}
use denote.Signature.{named_lft}
use denote.Param.{param, number}
use denote.Param.Send.{param_send}
use Rattle.route_tensor.specs.Grid.{ranks}
use Rattle.link_slots.specs.ClosedBank.{AllThere}
use Rattle.link_slots.specs.Shape.{Shape}
use Rattle.rank_group.specs.declared.closed_round.ClosedRound.TheVariants.{Slots}
use Rattle.biconvey.specs.Drives.{AreAskers, AreFreshBiRanks, RecordsExchange, askers_of}
use Rattle.biconvey.specs.contracts.at_ports.AtPorts as AtPorts
use Rattle.biconvey.proofs.Crosses.{at_ports_send}
use Rattle.biconvey.proofs.Threaded.{IsGatheredRound, sat_at, numbered_at, all_there, have_heard, notified, all_told}
use Rattle.biconvey.proofs.on_threads.thread_with.Goals as goal

pub gather_all-requires : goal.gather_all-requires
gather_all-requires g c =
    let T = g.A.Asker.talk in
    let b = c.in_ok-queries.queries in
    let p = c.in_ok-replies.replies in
    let shape_q = c.in_ok-queries.ensures.bank in
    let same = c.in_ok-replies.ensures.bank ∙ sym shape_q in
    let fresh = subst (λ (h : Shape). AreFreshBiRanks T h.dims c.args.steady c.args.askers c.in_ok-all.all.items) (sym shape_q) c.in_ok-all.ensures in
    let all = subst (λ (h : Shape). AreAskers T (ranks h.dims) c.args.askers) (sym shape_q) c.requires.askers in
    let seated = c.in_ok-seated.ensures.seated c.args.steady c.args.askers fresh in (
      search rules,
      (
        search rules,
        (
          search rules,
          (
            search rules,
            (
              c.seat_all.ensures.queries,
              (
                c.seat_all.ensures.replies,
                record {
                  same = sat_at T g.row.CAP b p same c.args.steady c.args.askers all c.in_ok-all.all.items fresh c.in_ok-seated.seated.items c.in_ok-ended.ended.items c.in_ok-seated.ensures.nodes seated (g.G.Gate.notified c.args.gate.now) c.in_ok-ended.ensures.ran;
                  numbers = numbered_at T g.row.CAP b p same c.args.steady c.args.askers all c.in_ok-all.all.items fresh c.in_ok-seated.seated.items c.in_ok-ended.ended.items c.in_ok-seated.ensures.nodes seated (g.G.Gate.notified c.args.gate.now) c.in_ok-ended.ensures.ran;
                },
              ),
            ),
          ),
        ),
      ),
    )

pub close-requires : goal.close-requires
close-requires g c =
    let T = g.A.Asker.talk in
    let b = c.in_ok-queries.queries in
    let p = c.in_ok-replies.replies in
    let shape_q = c.in_ok-queries.ensures.bank in
    let same = c.in_ok-replies.ensures.bank ∙ sym shape_q in
    let fresh = subst (λ (h : Shape). AreFreshBiRanks T h.dims c.args.steady c.args.askers c.in_ok-all.all.items) (sym shape_q) c.in_ok-all.ensures in
    let all = subst (λ (h : Shape). AreAskers T (ranks h.dims) c.args.askers) (sym shape_q) c.requires.askers in
    let seated = c.in_ok-seated.ensures.seated c.args.steady c.args.askers fresh in (
      search rules,
      (
        search rules,
        (
          c.gather_all.ensures.queries,
          all_there T g.row.CAP b p same c.args.steady c.args.askers all c.in_ok-all.all.items fresh c.in_ok-seated.seated.items c.in_ok-ended.ended.items c.in_ok-seated.ensures.nodes seated (g.G.Gate.notified c.args.gate.now) c.in_ok-ended.ensures.ran (λ y. y.queries) c.gather_all.new.of_queries.lists c.in_ok-over.ensures.queries_there,
        ),
      ),
    )

pub close-requires-2 : goal.close-requires-2
close-requires-2 g c =
    let T = g.A.Asker.talk in
    let b = c.in_ok-queries.queries in
    let p = c.in_ok-replies.replies in
    let shape_q = c.in_ok-queries.ensures.bank in
    let same = c.in_ok-replies.ensures.bank ∙ sym shape_q in
    let fresh = subst (λ (h : Shape). AreFreshBiRanks T h.dims c.args.steady c.args.askers c.in_ok-all.all.items) (sym shape_q) c.in_ok-all.ensures in
    let all = subst (λ (h : Shape). AreAskers T (ranks h.dims) c.args.askers) (sym shape_q) c.requires.askers in
    let seated = c.in_ok-seated.ensures.seated c.args.steady c.args.askers fresh in (
      search rules,
      (
        search rules,
        (
          c.gather_all.ensures.replies,
          subst (λ (h : Shape). AllThere h c.gather_all.new.of_replies.lists) (sym same)
              (all_there T g.row.CAP b p same c.args.steady c.args.askers all c.in_ok-all.all.items fresh c.in_ok-seated.seated.items c.in_ok-ended.ended.items c.in_ok-seated.ensures.nodes seated (g.G.Gate.notified c.args.gate.now) c.in_ok-ended.ensures.ran (λ y. y.replies) c.gather_all.new.of_replies.lists c.in_ok-over.ensures.replies_there),
        ),
      ),
    )

pub returns-clause-exchanged : goal.returns-clause-exchanged
returns-clause-exchanged g c =
    let T = g.A.Asker.talk in
    let b = c.in_ok-queries.queries in
    let p = c.in_ok-replies.replies in
    let shape_q = c.in_ok-queries.ensures.bank in
    let same = c.in_ok-replies.ensures.bank ∙ sym shape_q in
    let fresh = subst (λ (h : Shape). AreFreshBiRanks T h.dims c.args.steady c.args.askers c.in_ok-all.all.items) (sym shape_q) c.in_ok-all.ensures in
    let all = subst (λ (h : Shape). AreAskers T (ranks h.dims) c.args.askers) (sym shape_q) c.requires.askers in
    let seated = c.in_ok-seated.ensures.seated c.args.steady c.args.askers fresh in
    let left_q : IsGatheredRound g.row.CAP b.shape c.gather_all.new.of_queries.lists c.close.result = record { round = c.close.ensures.round; in_order = c.close.ensures.in_order; sent = c.close.ensures.sent; got = c.close.ensures.got } in
    let left_p : IsGatheredRound g.row.CAP p.shape c.gather_all.new.of_replies.lists c.close-2.result = record { round = c.close-2.ensures.round; in_order = c.close-2.ensures.in_order; sent = c.close-2.ensures.sent; got = c.close-2.ensures.got } in
    record {
      heard = have_heard T g.row.CAP b p same c.args.steady c.args.askers all c.in_ok-all.all.items fresh c.in_ok-seated.seated.items c.in_ok-ended.ended.items c.in_ok-seated.ensures.nodes seated (g.G.Gate.notified c.args.gate.now) c.in_ok-ended.ensures.ran
          (g.met.A.Asker g.world.𝓛 g.world.𝓜 g.world.𝓡 ((λ s x. x), (λ x. x), (λ x. x), λ x. x)).laws c.closes_law.ensures c.in_ok-ended.ensures.over c.gather_all.new.of_queries.lists c.gather_all.new.of_replies.lists c.in_ok-over.ensures.queries_there c.in_ok-over.ensures.replies_there c.close.result c.close-2.result left_q left_p c.in_ok-progs.progs (c.in_ok-progs.ensures ∙ ap askers_of c.in_ok-over.ensures.nodes);
      rounds = (
        Slots c.close.result,
        Slots c.close-2.result,
        c.in_ok-add-2.ensures.added ∙ (ap (λ xs. xs ++ Slots c.close-2.result ∷ []) (c.in_ok-add.ensures.added ∙ ap (λ xs. xs ++ Slots c.close.result ∷ []) c.new-rounds.ensures)),
        subst (λ (h : Shape). RecordsExchange T c.args.askers (record { dims = h.dims; cap = g.row.CAP; slots = h.slots; by_slots = true }) c.args.steady c.close.result c.close-2.result) shape_q
            (notified T g.row.CAP b p same c.args.steady c.args.askers all c.in_ok-all.all.items fresh c.in_ok-seated.seated.items c.in_ok-ended.ended.items c.in_ok-seated.ensures.nodes seated (g.G.Gate.notified c.args.gate.now) c.in_ok-ended.ensures.ran
            (g.met.A.Asker g.world.𝓛 g.world.𝓜 g.world.𝓡 ((λ s x. x), (λ x. x), (λ x. x), λ x. x)).laws c.closes_law.ensures c.in_ok-ended.ensures.over c.gather_all.new.of_queries.lists c.gather_all.new.of_replies.lists c.in_ok-over.ensures.queries_there c.in_ok-over.ensures.replies_there c.close.result c.close-2.result left_q left_p),
      );
    }

pub returns-clause-notified : goal.returns-clause-notified
returns-clause-notified g c = λ r low.
    let T = g.A.Asker.talk in
    let b = c.in_ok-queries.queries in
    let p = c.in_ok-replies.replies in
    let shape_q = c.in_ok-queries.ensures.bank in
    let same = c.in_ok-replies.ensures.bank ∙ sym shape_q in
    let fresh = subst (λ (h : Shape). AreFreshBiRanks T h.dims c.args.steady c.args.askers c.in_ok-all.all.items) (sym shape_q) c.in_ok-all.ensures in
    let all = subst (λ (h : Shape). AreAskers T (ranks h.dims) c.args.askers) (sym shape_q) c.requires.askers in
    let seated = c.in_ok-seated.ensures.seated c.args.steady c.args.askers fresh in
    all_told T g.row.CAP b p same c.args.steady c.args.askers all c.in_ok-all.all.items fresh c.in_ok-seated.seated.items c.in_ok-ended.ended.items c.in_ok-seated.ensures.nodes seated (g.G.Gate.notified c.args.gate.now) c.in_ok-ended.ensures.ran c.in_ok-ended.ensures.over
    r (subst (λ (h : Shape). r < ranks h.dims) (sym shape_q) low)

pub run_together-requires-send-A : goal.run_together-requires-send-A
run_together-requires-send-A g c κs within =
    let κ = named_lft 6 5 tt κs in
    let R = AtPorts.the_row κ (param 3 g.row.A) (param 0 (number g.row.CAP)) (param 1 (number g.row.HOPS)) g.A.Asker in
    let s = at_ports_send κ (param 3 g.row.A) (param 0 (number g.row.CAP)) (param 1 (number g.row.HOPS)) g.A.Asker c.type_bounds.send-A in
    record { owned = s.owned; leaving = (param_send 1 R s).leaving }
