use Rattle.std.proofs.Common.{arith, ◌≡◌, ◌<◌, ℕ, [], map, length, get_or, get_or-set_same, get_or-set_other, set, sym, ap, subst, ◌∙◌, true, Some, None}
use Rattle.atomic_table.specs.Table.{Me, Joins}
use Rattle.item_buffer.specs.Contents.{Contents}
use Rattle.route_tensor.specs.Grid.{ranks}
use Rattle.route_tensor.specs.Link.{links}
use Rattle.route_tensor.specs.Ends.{reader_at}
use Rattle.list_laws.proofs.Lists.{map_set}
use Rattle.link_slots.specs.View.{own_logs, gathered, spent}
use Rattle.link_slots.specs.Shape.{Shape, no_shape, wiring, IsBlank, MayFollow, KeepsLaw}
use Rattle.link_slots.specs.WordSteps.{TableView, IsLawful}
use Rattle.link_slots.specs.OwnLinks.{IsOwn}
use Rattle.link_slots.specs.Gathering.{Gathering, IsGathering, is_gone}
use Rattle.link_slots.specs.SeatView.{SeatView}
use Rattle.link_slots.proofs.Seats as seats
use Rattle.link_slots.proofs.Giving.{more_gathered, rank_word}
use Rattle.link_slots.proofs.slot_bank.gather.GatherSeat.take_in.Goals as goal

pub split_seat-whole-requires : goal.split_seat-whole-requires
split_seat-whole-requires g c =
    let key : Shape = c.args.top.now.key in
    let e : c.seat.inside.place.me.0.shape ≡ key = ap (λ (z : SeatView). z.shape) c.seat.view_is ∙ c.requires.seat.1 in
    let small : c.seat.inside.rank < ranks key.dims = subst (λ (z : Shape). c.seat.inside.rank < ranks z.dims) e c.seat.invariant.rank_small in (
      ap (λ (z : SeatView). z.id) c.seat.view_is ∙ c.requires.seat.0,
      (let w = c.requires.board.words in let r = rank_word key c.seat.inside.rank c.requires.board.shape.grid small in omega arith),
      seats.leave IsBlank (MayFollow key.dims g.row.CAP) (KeepsLaw key.dims) key (wiring key) c.seat.inside.place.id c.seat.inside.place.me.0,
    )

pub join_seat-requires : goal.join_seat-requires
join_seat-requires g c =
    let key : Shape = c.args.top.now.key in let u : TableView = c.seat.inside.place.me.0 in
    let e : u.shape ≡ key = ap (λ (z : SeatView). z.shape) c.seat.view_is ∙ c.requires.seat.1 in
    let small : c.seat.inside.rank < ranks key.dims = subst (λ (z : Shape). c.seat.inside.rank < ranks z.dims) e c.seat.invariant.rank_small in
    let v : TableView = c.self.inside.place.me.0 in
    let dims : v.shape ≡ key = ap (λ (z : Gathering). z.shape) c.self.view_is ∙ c.requires.bank.1 in
    let many : length v.lists ≡ ranks key.dims = c.self.invariant.lists_many ∙ ap (λ (z : Shape). ranks z.dims) dims in
    let listed : u.pick < length v.lists = (let p = c.seat.invariant.rank_is in omega arith) in
    let me : c.split_seat-whole.result.me ≡ (u, []) = c.split_seat-whole.ensures.4 in (
      ap (λ (z : Gathering). z.id) c.self.view_is ∙ c.requires.bank.0,
      c.split_seat-whole.ensures.3 ∙ ap (λ (z : SeatView). z.id) c.seat.view_is ∙ c.requires.seat.0,
      ap (λ (z : Me Contents TableView). z.1) me,
      (let w = c.requires.board.words in let r = rank_word key c.seat.inside.rank c.requires.board.shape.grid small in omega arith),
      subst (λ (z : TableView). Joins (IsLawful g.row.CAP key) c.self.inside.place.id c.self.inside.place.me.0 c.split_seat-whole.result.id z (gathered c.self.inside.place.me.0 z) (spent no_shape)) (sym (ap (λ (z : Me Contents TableView). z.0) me))
          (seats.join IsBlank (MayFollow key.dims g.row.CAP) (KeepsLaw key.dims) key (wiring key) no_shape c.self.inside.place.id c.split_seat-whole.result.id c.self.inside.place.me.0 u c.seat.invariant.manned.speaks c.seat.invariant.alone listed),
    )

pub invariant_of-self : goal.invariant_of-self
invariant_of-self g c =
    let s = c.seat.invariant in let u : TableView = c.seat.inside.place.me.0 in let v : TableView = c.self.inside.place.me.0 in
    let same : u.shape ≡ v.shape = ap (λ (z : SeatView). z.shape) c.seat.view_is ∙ c.requires.seat.1 ∙ sym (ap (λ (z : Gathering). z.shape) c.self.view_is ∙ c.requires.bank.1) in
    let me : c.join_seat.new.seat.me ≡ (gathered v u, c.self.inside.place.me.1) = c.join_seat.ensures.2 ∙ ap (λ (z : Me Contents TableView). (gathered v z.0, c.self.inside.place.me.1)) c.split_seat-whole.ensures.4 in
    let small : u.pick < ranks v.shape.dims = subst (λ (z : Shape × ℕ). z.1 < ranks z.0.dims) (λ k. (same k, sym s.rank_is k)) s.rank_small in
    subst (λ (r : ℕ). IsGathering c.join_seat.new.seat.me.0.shape c.join_seat.new.seat.me (set c.self.inside.ends.items r None) (set c.self.inside.ended.items r (Some (record { counts = c.seat.inside.ended })))) s.rank_is
    (more_gathered v.shape c.self.inside.place.me c.join_seat.new.seat.me u c.self.inside.ends.items c.self.inside.ended.items (record { counts = c.seat.inside.ended }) c.self.invariant same small s.manned.speaks
    (subst (λ (z : Shape × ℕ). IsOwn z.0.dims z.1 (own_logs u)) (λ k. (same k, sym s.rank_is k)) s.own)
    (λ l a b. s.each_ended l 0 (subst (λ (z : Shape). l < links z.dims) (sym same) a) (subst (λ (z : Shape). reader_at z.dims l ≡ u.pick) (sym same) b ∙ s.rank_is)) me)

pub returns-clause-gather : goal.returns-clause-gather
returns-clause-gather g c =
    let s = c.seat.invariant in let u : TableView = c.seat.inside.place.me.0 in let v : TableView = c.self.inside.place.me.0 in
    let same : u.shape ≡ v.shape = ap (λ (z : SeatView). z.shape) c.seat.view_is ∙ c.requires.seat.1 ∙ sym (ap (λ (z : Gathering). z.shape) c.self.view_is ∙ c.requires.bank.1) in
    let me : c.join_seat.new.seat.me ≡ (gathered v u, c.self.inside.place.me.1) = c.join_seat.ensures.2 ∙ ap (λ (z : Me Contents TableView). (gathered v z.0, c.self.inside.place.me.1)) c.split_seat-whole.ensures.4 in
    let lists : c.join_seat.new.seat.me.0.lists ≡ set v.lists c.seat.inside.rank (Some (own_logs u)) =
    ap (λ (z : Me Contents TableView). z.0.lists) me ∙ ap (set v.lists u.pick) s.manned.speaks ∙ ap (λ (r : ℕ). set v.lists r (Some (own_logs u))) s.rank_is in
    let given : map is_gone (set c.self.inside.ends.items c.seat.inside.rank None) ≡ set (map is_gone c.self.inside.ends.items) c.seat.inside.rank true = map_set is_gone c.self.inside.ends.items c.seat.inside.rank None in
    (λ k. record { id = c.join_seat.ensures.0 k; shape = (ap (λ (z : Me Contents TableView). z.0.shape) me ∙ same) k; lists = lists k; given = given k })
    ∙ (λ k. record { id = (c.self.view_is k).id; shape = (c.self.view_is k).shape; lists = set (c.self.view_is k).lists (c.seat.view_is k).rank (Some (c.seat.view_is k).lists); given = set (c.self.view_is k).given (c.seat.view_is k).rank true })

pub returns-clause-rank : goal.returns-clause-rank
returns-clause-rank g c =
    let small : c.args.seat.rank < ranks c.args.seat.shape.dims = subst (λ (z : SeatView). z.rank < ranks z.shape.dims) c.seat.view_is c.seat.invariant.rank_small in
    subst (λ (z : Shape). c.args.seat.rank < ranks z.dims) c.requires.seat.1 small

pub returns-clause-there : goal.returns-clause-there
returns-clause-there g c =
    let key : Shape = c.args.top.now.key in let r : ℕ = c.args.seat.rank in
    let small : r < ranks key.dims = returns-clause-rank g c in
    let shaped : c.self.inside.place.me.0.shape ≡ key = ap (λ (z : Gathering). z.shape) c.self.view_is ∙ c.requires.bank.1 in
    let many : length c.args.self.now.lists ≡ ranks key.dims = sym (ap (λ (z : Gathering). length z.lists) c.self.view_is) ∙ c.self.invariant.lists_many ∙ ap (λ (z : Shape). ranks z.dims) shaped in
    ap (λ (z : Gathering). get_or z.lists r None) (returns-clause-gather g c) ∙ get_or-set_same c.args.self.now.lists r (Some c.args.seat.lists) None (omega arith)

pub returns-clause-others : goal.returns-clause-others
returns-clause-others g c = λ r ne.
    ap (λ (z : Gathering). get_or z.lists r None) (returns-clause-gather g c) ∙ get_or-set_other c.args.self.now.lists c.args.seat.rank r (Some c.args.seat.lists) None ne
