use Rattle.std.proofs.Common.{arith, ◌≡◌, ◌<◌, ℕ, List, [], map, replicate, get_or, set, sym, ap, subst, ◌∙◌, length, true, Option, Some, None}
use Rattle.atomic_table.specs.Table.{Me, Splits, Allows}
use Rattle.item_buffer.specs.Contents.{Contents}
use Rattle.route_tensor.specs.Grid.{ranks}
use Rattle.route_tensor.specs.Link.{links}
use Rattle.list_laws.proofs.Lists.{map_set}
use Rattle.link_slots.specs.declared.seat.ends.InEnd.{InEnd}
use Rattle.link_slots.specs.declared.seat.rank_ends.RankEnds.{RankEnds}
use Rattle.link_slots.specs.View.{no_logs, own_logs, without_pick, pick_alone, speaking_for}
use Rattle.link_slots.specs.Shape.{Shape, wiring, IsBlank, MayFollow, KeepsLaw}
use Rattle.link_slots.specs.WordSteps.{TableView, IsLawful}
use Rattle.link_slots.specs.Gathering.{Gathering, IsGathering, is_gone}
use Rattle.link_slots.proofs.Seats as seats
use Rattle.link_slots.proofs.Giving.{any_default, map-replicate, speaks_for, alone_own, given_seat, left_gathering, rank_word}
use Rattle.link_slots.proofs.slot_bank.gather.GatherSeat.give_out.Goals as goal

-- the counts that were kept for the rank
kept : (ends : List (Option RankEnds)) (r : ℕ) (o t : Option RankEnds) (e : RankEnds) → r < length ends → o ≡ get_or ends r o → t ≡ o → t ≡ Some e → get_or ends r None ≡ Some e
kept ends r o t e h value taken is = any_default ends r None o h ∙ sym value ∙ sym taken ∙ is

pub load-requires : goal.load-requires
load-requires g c =
    let key : Shape = c.args.top.now.key in (
      ap (λ (z : Gathering). z.id) c.self.view_is ∙ c.requires.bank.0,
      (let w = c.requires.board.words in let r = rank_word key c.args.rank c.requires.board.shape.grid c.requires.rank in omega arith),
      subst (λ (z : ℕ). Allows (IsLawful g.row.CAP key) z c.self.inside.place.id c.self.inside.place.me c.args.rank (λ n. n) (λ n m'. m' ≡ (speaking_for c.self.inside.place.me.0 c.args.rank, c.self.inside.place.me.1))) (sym c.requires.board.slots)
          (seats.pick IsBlank (MayFollow key.dims g.row.CAP) (KeepsLaw key.dims) key (wiring key) c.self.inside.place.id c.args.rank c.args.rank c.self.inside.place.me.0 c.self.inside.place.me.1),
    )

pub split_seat-place-requires : goal.split_seat-place-requires
split_seat-place-requires g c =
    let key : Shape = c.args.top.now.key in let v : TableView = c.self.inside.place.me.0 in let s = c.self.invariant in
    let e : v.shape ≡ key = ap (λ (z : Gathering). z.shape) c.self.view_is ∙ c.requires.bank.1 in
    let small : c.args.rank < ranks v.shape.dims = subst (λ (z : Shape). c.args.rank < ranks z.dims) (sym e) c.requires.rank in
    let found = kept c.self.inside.ends.items c.args.rank c.index_mut.result.now c.take.result c.in-Some.ends (let n = s.ends_many in omega arith) c.index_mut.ensures.value c.take.ensures.value c.in-Some.is in
    let new = s.each_new c.args.rank c.in-Some.ends found in
    let e1 : c.load.new.seat.me ≡ (speaking_for v c.args.rank, c.self.inside.place.me.1) = c.load.ensures.2 in (
      c.load.ensures.0 ∙ ap (λ (z : Gathering). z.id) c.self.view_is ∙ c.requires.bank.0,
      (let w = c.requires.board.words in let r = rank_word key c.args.rank c.requires.board.shape.grid c.requires.rank in omega arith),
      subst (λ (z : Me Contents TableView). Splits (IsLawful g.row.CAP key) c.load.new.seat.id z.0 (without_pick z.0) (pick_alone z.0)) (sym e1)
          (seats.split IsBlank (MayFollow key.dims g.row.CAP) (KeepsLaw key.dims) key (wiring key) c.load.new.seat.id (speaking_for v c.args.rank) (speaks_for v c.args.rank (no_logs (links v.shape.dims)) new.1 (let n = s.lists_many in omega arith))),
    )

pub invariant_of-self : goal.invariant_of-self
invariant_of-self g c =
    let v : TableView = c.self.inside.place.me.0 in
    let e1 : c.load.new.seat.me ≡ (speaking_for v c.args.rank, c.self.inside.place.me.1) = c.load.ensures.2 in
    let me : c.split_seat-place.new.seat.me ≡ (without_pick (speaking_for v c.args.rank), c.self.inside.place.me.1) = c.split_seat-place.ensures.2 ∙ ap (λ (z : Me Contents TableView). (without_pick z.0, z.1)) e1 in
    subst (λ (z : Option RankEnds). IsGathering c.split_seat-place.new.seat.me.0.shape c.split_seat-place.new.seat.me (set c.self.inside.ends.items c.args.rank z) (set c.self.inside.ended.items c.args.rank None)) (sym c.take.ensures.after) (left_gathering v.shape c.self.inside.place.me c.split_seat-place.new.seat.me c.self.inside.ends.items c.self.inside.ended.items c.args.rank c.self.invariant me)

pub invariant_of-result : goal.invariant_of-result
invariant_of-result g c =
    let key : Shape = c.args.top.now.key in let v : TableView = c.self.inside.place.me.0 in let s = c.self.invariant in
    let e : v.shape ≡ key = ap (λ (z : Gathering). z.shape) c.self.view_is ∙ c.requires.bank.1 in
    let small : c.args.rank < ranks v.shape.dims = subst (λ (z : Shape). c.args.rank < ranks z.dims) (sym e) c.requires.rank in
    let found = kept c.self.inside.ends.items c.args.rank c.index_mut.result.now c.take.result c.in-Some.ends (let n = s.ends_many in omega arith) c.index_mut.ensures.value c.take.ensures.value c.in-Some.is in
    let new = s.each_new c.args.rank c.in-Some.ends found in
    let e1 : c.load.new.seat.me ≡ (speaking_for v c.args.rank, c.self.inside.place.me.1) = c.load.ensures.2 in
    let me : c.split_seat-place.result.me ≡ (pick_alone (speaking_for v c.args.rank), []) = c.split_seat-place.ensures.4 ∙ ap (λ (z : Me Contents TableView). (pick_alone z.0, [])) e1 in
    given_seat g.row.CAP v.shape v c.args.rank c.in-Some.ends c.split_seat-place.result.me s.shaped s.of small s.lists_many new.1 new.0 me

pub returns-clause-seat : goal.returns-clause-seat
returns-clause-seat g c =
    let key : Shape = c.args.top.now.key in let v : TableView = c.self.inside.place.me.0 in let s = c.self.invariant in
    let e : v.shape ≡ key = ap (λ (z : Gathering). z.shape) c.self.view_is ∙ c.requires.bank.1 in
    let small : c.args.rank < ranks v.shape.dims = subst (λ (z : Shape). c.args.rank < ranks z.dims) (sym e) c.requires.rank in
    let found = kept c.self.inside.ends.items c.args.rank c.index_mut.result.now c.take.result c.in-Some.ends (let n = s.ends_many in omega arith) c.index_mut.ensures.value c.take.ensures.value c.in-Some.is in
    let new = s.each_new c.args.rank c.in-Some.ends found in
    let e1 : c.load.new.seat.me ≡ (speaking_for v c.args.rank, c.self.inside.place.me.1) = c.load.ensures.2 in
    let me : c.split_seat-place.result.me ≡ (pick_alone (speaking_for v c.args.rank), []) = c.split_seat-place.ensures.4 ∙ ap (λ (z : Me Contents TableView). (pick_alone z.0, [])) e1 in
    let id : c.split_seat-place.result.table_id ≡ c.args.top.now.table_id = c.split_seat-place.ensures.3 ∙ c.load.ensures.0 ∙ ap (λ (z : Gathering). z.id) c.self.view_is ∙ c.requires.bank.0 in
    let shaped : c.split_seat-place.result.me.0.shape ≡ key = ap (λ (z : Me Contents TableView). z.0.shape) me ∙ e in
    let lists : own_logs c.split_seat-place.result.me.0 ≡ no_logs (links key.dims) = ap (λ (z : Me Contents TableView). own_logs z.0) me ∙ alone_own v c.args.rank (no_logs (links v.shape.dims)) new.1 (let n = s.lists_many in omega arith) ∙ ap (λ (z : Shape). no_logs (links z.dims)) e in
    let noted : map (λ (z : InEnd). z.noted) c.in-Some.ends.ins.items ≡ replicate (links key.dims) 0 = ap (map (λ (z : InEnd). z.noted)) new.0.ins ∙ map-replicate (λ (z : InEnd). z.noted) (links v.shape.dims) _ ∙ ap (λ (z : Shape). replicate (links z.dims) 0) e in
    let ended : c.in-Some.ends.ended.items ≡ replicate (links key.dims) 0 = new.0.ended ∙ ap (λ (z : Shape). replicate (links z.dims) 0) e in
    λ k. record { id = id k; shape = shaped k; rank = c.args.rank; lists = lists k; noted = noted k; ended = ended k }

pub returns-clause-gather : goal.returns-clause-gather
returns-clause-gather g c =
    let v : TableView = c.self.inside.place.me.0 in
    let e1 : c.load.new.seat.me ≡ (speaking_for v c.args.rank, c.self.inside.place.me.1) = c.load.ensures.2 in
    let me : c.split_seat-place.new.seat.me ≡ (without_pick (speaking_for v c.args.rank), c.self.inside.place.me.1) = c.split_seat-place.ensures.2 ∙ ap (λ (z : Me Contents TableView). (without_pick z.0, z.1)) e1 in
    let id : c.split_seat-place.new.seat.table_id ≡ c.self.inside.place.table_id = c.split_seat-place.ensures.0 ∙ c.load.ensures.0 in
    let given : map is_gone (set c.self.inside.ends.items c.args.rank c.take.new.self) ≡ set (map is_gone c.self.inside.ends.items) c.args.rank true =
    map_set is_gone c.self.inside.ends.items c.args.rank c.take.new.self ∙ ap (λ (z : Option RankEnds). set (map is_gone c.self.inside.ends.items) c.args.rank (is_gone z)) c.take.ensures.after in
    (λ k. record { id = id k; shape = (me k).0.shape; lists = (me k).0.lists; given = given k })
    ∙ ap (λ (z : Gathering). record { id = z.id; shape = z.shape; lists = set z.lists c.args.rank None; given = set z.given c.args.rank true }) c.self.view_is
