use Rattle.std.proofs.Common.{rules, arith, ◌≡◌, ◌≢◌, ◌+◌, ◌<◌, ℕ, List, set, get_or, sym, ap, subst, ◌∙◌, length, map}
use Rattle.item_buffer.specs.Contents.{Contents, as_shipped, blank}
use Rattle.route_tensor.specs.Link.{links}
use Rattle.route_tensor.specs.Ends.{hop_at, sender_at, reader_at}
use Rattle.port_bank.specs.Logs.{lasts, with_parcel}
use Rattle.link_slots.specs.declared.seat.ends.InEnd.{InEnd}
use Rattle.link_slots.specs.declared.seat.ear.Ear.{Ear}
use Rattle.link_slots.specs.declared.table.wire.Wire.{Wire}
use Rattle.std.proofs.lemmas.List.{get_or-map, length-map, length-take-le}
use Rattle.link_slots.specs.Doorbell.{LookedFor, HeardWhere, is_due}
use Rattle.link_slots.specs.Logs.{InLog, Lists, in_of, got_of, listens, with_in, taken_more}
use Rattle.link_slots.specs.View.{own_logs}
use Rattle.link_slots.specs.Shape.{Shape, MayFollow}
use Rattle.link_slots.specs.WordSteps.{HoldsSeat}
use Rattle.list_laws.specs.Counts.{saturated_count}
use Rattle.link_slots.specs.Counts.{IsWire, IsInEnd, IsHeard, AreGood, KeepsOtherLinks, ended_after, noted_by}
use Rattle.bale_items.specs.Counters.{RoseOrFull}
use Rattle.link_slots.specs.Seat.{IsSeat}
use Rattle.link_slots.specs.SeatView.{BankIdentity, SeatView, collected_from, known_on, hears_noted, noted_at}
use Rattle.port_bank.specs.Port.{changed}
use Rattle.link_slots.proofs.Wires.{hop_small}
use Rattle.link_slots.proofs.Seating.{seat_collected, got_one, got_none, collects_added, collects_same, next_good, ended_case, noted_changed, none_waiting, some_waiting}
use Rattle.link_slots.proofs.seat.SlotSeat.collect.Goals as goal

-- the hop that a wire has is one of three
pub bounds-self-inside-wire : goal.bounds-self-inside-wire
bounds-self-inside-wire g c =
    let wire : Wire = c.index-wire.result.now in let way : IsWire c.bank.inside.board.shared.key.dims c.args.link wire.bell wire.mask wire.hop = subst (λ (z : Wire). IsWire c.bank.inside.board.shared.key.dims c.args.link z.bell z.mask z.hop) (sym c.index-wire.ensures) (c.bank.invariant.each c.args.link wire (subst (λ (z : Shape). c.args.link < links z.dims) (c.requires.bank.1 ∙ sym (ap (λ (z : BankIdentity). z.shape) c.bank.view_is)) c.requires.may.link)) in
    let h = hop_small c.bank.inside.board.shared.key c.bank.invariant.board.shape c.args.link (subst (λ (z : Shape). c.args.link < links z.dims) (c.requires.bank.1 ∙ sym (ap (λ (z : BankIdentity). z.shape) c.bank.view_is)) c.requires.may.link) in let w = way.hop_is in omega arith

pub offset_bounds-self-inside-wire : goal.offset_bounds-self-inside-wire
offset_bounds-self-inside-wire g c =
    let wire : Wire = c.index-wire.result.now in let way : IsWire c.bank.inside.board.shared.key.dims c.args.link wire.bell wire.mask wire.hop = subst (λ (z : Wire). IsWire c.bank.inside.board.shared.key.dims c.args.link z.bell z.mask z.hop) (sym c.index-wire.ensures) (c.bank.invariant.each c.args.link wire (subst (λ (z : Shape). c.args.link < links z.dims) (c.requires.bank.1 ∙ sym (ap (λ (z : BankIdentity). z.shape) c.bank.view_is)) c.requires.may.link)) in
    let h = hop_small c.bank.inside.board.shared.key c.bank.invariant.board.shape c.args.link (subst (λ (z : Shape). c.args.link < links z.dims) (c.requires.bank.1 ∙ sym (ap (λ (z : BankIdentity). z.shape) c.bank.view_is)) c.requires.may.link) in let w = way.hop_is in omega arith

pub collect_on-answer-requires : goal.collect_on-answer-requires
collect_on-answer-requires g c =
    let wire : Wire = c.index-wire.result.now in let way : IsWire c.bank.inside.board.shared.key.dims c.args.link wire.bell wire.mask wire.hop = subst (λ (z : Wire). IsWire c.bank.inside.board.shared.key.dims c.args.link z.bell z.mask z.hop) (sym c.index-wire.ensures) (c.bank.invariant.each c.args.link wire (subst (λ (z : Shape). c.args.link < links z.dims) (c.requires.bank.1 ∙ sym (ap (λ (z : BankIdentity). z.shape) c.bank.view_is)) c.requires.may.link)) in
    let s = c.self.invariant in let v = c.self.inside.place.me.0 in let key : Shape = c.bank.inside.board.shared.key in let l : ℕ = c.args.link in
    let e : v.shape ≡ key = ap (λ (z : SeatView). z.shape) c.self.view_is ∙ (c.requires.bank.1 ∙ sym (ap (λ (z : BankIdentity). z.shape) c.bank.view_is)) in
    let inside : l < links v.shape.dims = subst (λ (z : SeatView). l < links z.shape.dims) (sym c.self.view_is) c.requires.may.link in
    let mine : reader_at v.shape.dims l ≡ c.self.inside.rank = subst (λ (z : SeatView). reader_at z.shape.dims l ≡ z.rank) (sym c.self.view_is) c.requires.may.ends_here in
    let end : InEnd = c.index_mut-end.result.now in
    let counts : IsInEnd v.shape.slots (in_of (own_logs v) l) end.taken end.waiting end.noted =
    subst (λ (z : InEnd). IsInEnd v.shape.slots (in_of (own_logs v) l) z.taken z.waiting z.noted) (sym c.index_mut-end.ensures.value) (s.each_in l end inside mine) in
    let d : Ear = record { marks = 0; hears = 0 } in
    let ear : Ear = get_or c.self.inside.ears c.index-wire.result.now.hop d in
    let heard : IsHeard v.shape c.self.inside.rank (c.index-wire.result.now.hop + 1) (own_logs v) ear.marks ear.hears = s.each_ear c.index-wire.result.now.hop d (let low = hop_small key c.bank.invariant.board.shape l (subst (λ (z : Shape). l < links z.dims) e inside) in let hop = way.hop_is in omega arith) in
    let low = hop_small key c.bank.invariant.board.shape l (subst (λ (z : Shape). l < links z.dims) e inside) in let hop = way.hop_is in (
      omega arith,
      (
        omega arith,
        (
          omega arith,
          (
            record {
              at = record {
                here = ap (λ (z : SeatView). z.id) c.self.view_is ∙ (c.requires.bank.0 ∙ sym (ap (λ (z : BankIdentity). z.id) c.bank.view_is));
                board = c.bank.invariant.board;
                manned = subst (λ (z : Shape). HoldsSeat z c.self.inside.place.me) e s.manned;
                below = subst (λ (z : Shape). l < links z.dims) e inside;
                own = subst (λ (z : Shape). reader_at z.dims l ≡ v.pick) e (mine ∙ sym s.rank_is);
              };
              long = subst (λ (z : Shape). length (own_logs v).ins ≡ links z.dims) e s.lists_in;
              end = subst (λ (z : Shape). IsInEnd z.slots (in_of (own_logs v) l) end.taken end.waiting end.noted) e counts;
              wire = way;
              ear = subst (λ (z : Shape × ℕ × ℕ). IsHeard z.0 z.1 z.2 (own_logs v) ear.marks ear.hears) (λ k. (e k, sym s.rank_is k, sym hop k)) heard;
            },
            (c.bank.invariant.slots_is, (subst (λ (z : Shape). AreGood g.row.CAP z l (in_of (own_logs v) l)) e (s.each_good l inside mine), c.requires.may.empty ∙ ap blank (sym (ap (λ (z : Contents). z.epoch) c.requires.may.empty)))),
          ),
        ),
      ),
    )

pub returns-clause-collects : goal.returns-clause-collects
returns-clause-collects g c =
    let l : ℕ = c.args.link in let s = c.self.invariant in let v = c.self.inside.place.me.0 in let end : InEnd = c.index_mut-end.result.now in let f = c.collect_on-answer.ensures in
    let x : Lists Contents = own_logs v in let x' : Lists Contents = own_logs c.collect_on-answer.new.place.me.0 in
    let inside : l < links v.shape.dims = subst (λ (z : SeatView). l < links z.shape.dims) (sym c.self.view_is) c.requires.may.link in
    let mine : reader_at v.shape.dims l ≡ c.self.inside.rank = subst (λ (z : SeatView). reader_at z.shape.dims l ≡ z.rank) (sym c.self.view_is) c.requires.may.ends_here in
    let is : end ≡ get_or c.self.inside.ins.items l end = c.index_mut-end.ensures.value in
    let waits : length (in_of x l).seen ≡ (in_of x l).taken + (get_or c.self.inside.ins.items l end).waiting = (s.each_in l end inside mine).waiting_is in
    let noted : end.noted ≡ hears_noted c.args.self.now l = ap (λ (i : InEnd). i.noted) is ∙ sym (get_or-map (λ (i : InEnd). i.noted) c.self.inside.ins.items l end 0 (let n = s.ins_many in omega arith)) ∙ ap (λ (z : SeatView). hears_noted z l) c.self.view_is in
    let size : length (collected_from c.args.self.now l) ≡ (in_of x l).taken =
    sym (ap (λ (z : SeatView). length (collected_from z l)) c.self.view_is) ∙ length-map (got_of x l) as_shipped ∙ length-take-le (in_of x l).taken (in_of x l).seen (omega arith) in
    record {
      got = λ got.
          let v = c.self.inside.place.me.0 in let l : ℕ = c.args.link in let f = c.collect_on-answer.ensures in
          let e : v.shape ≡ c.bank.inside.board.shared.key = ap (λ (z : SeatView). z.shape) c.self.view_is ∙ (c.requires.bank.1 ∙ sym (ap (λ (z : BankIdentity). z.shape) c.bank.view_is)) in
          let inside : l < links v.shape.dims = subst (λ (z : SeatView). l < links z.shape.dims) (sym c.self.view_is) c.requires.may.link in
          let mine : reader_at v.shape.dims l ≡ c.self.inside.rank = subst (λ (z : SeatView). reader_at z.shape.dims l ≡ z.rank) (sym c.self.view_is) c.requires.may.ends_here in
          let w = (c.self.invariant.each_in l c.index_mut-end.result.now inside mine).waiting_is in
          collects_added c.bank.inside.board.shared.key v.pick l (own_logs v) (own_logs c.collect_on-answer.new.place.me.0) f.left.others (omega arith) f.collects.seen c.collect_on-answer.new.parcel (f.collects.taken got) (f.collects.parcel got)
          ∙ ap (λ (z : SeatView). with_parcel (collected_from z) l (as_shipped c.collect_on-answer.new.parcel)) c.self.view_is;
      arrived = λ got.
          let v = c.self.inside.place.me.0 in let l : ℕ = c.args.link in let f = c.collect_on-answer.ensures in
          let e : v.shape ≡ c.bank.inside.board.shared.key = ap (λ (z : SeatView). z.shape) c.self.view_is ∙ (c.requires.bank.1 ∙ sym (ap (λ (z : BankIdentity). z.shape) c.bank.view_is)) in
          let inside : l < links v.shape.dims = subst (λ (z : SeatView). l < links z.shape.dims) (sym c.self.view_is) c.requires.may.link in
          let mine : reader_at v.shape.dims l ≡ c.self.inside.rank = subst (λ (z : SeatView). reader_at z.shape.dims l ≡ z.rank) (sym c.self.view_is) c.requires.may.ends_here in
          let w = (c.self.invariant.each_in l c.index_mut-end.result.now inside mine).waiting_is in
          subst (λ (z : SeatView). MayFollow z.shape.dims g.row.CAP l (got_of z.lists l) c.collect_on-answer.new.parcel) c.self.view_is
          (subst (λ (z : Shape). MayFollow z.dims g.row.CAP l (got_of (own_logs v) l) c.collect_on-answer.new.parcel) (sym e)
          (next_good c.bank.inside.board.shared.key v.pick l (own_logs v) (own_logs c.collect_on-answer.new.place.me.0) f.left.others (omega arith) f.collects.seen g.row.CAP c.collect_on-answer.new.parcel f.collects.good (f.collects.parcel got)));
      known = λ got. let t = f.collects.taken got in let w = f.left.end.waiting_is in omega (arith, size, t, w);
      own = λ got from.
          let e : c.self.inside.place.me.0.shape ≡ c.bank.inside.board.shared.key = ap (λ (z : SeatView). z.shape) c.self.view_is ∙ (c.requires.bank.1 ∙ sym (ap (λ (z : BankIdentity). z.shape) c.bank.view_is)) in
          let mine : sender_at c.self.inside.place.me.0.shape.dims c.args.link ≡ c.self.inside.rank = subst (λ (z : SeatView). sender_at z.shape.dims c.args.link ≡ z.rank) (sym c.self.view_is) from in
          c.collect_on-answer.ensures.collects.own got (subst (λ (z : Shape). sender_at z.dims c.args.link ≡ c.self.inside.place.me.0.pick) e (mine ∙ sym c.self.invariant.rank_is));
      not_got = λ none.
          let v = c.self.inside.place.me.0 in let l : ℕ = c.args.link in let f = c.collect_on-answer.ensures in
          let inside : l < links v.shape.dims = subst (λ (z : SeatView). l < links z.shape.dims) (sym c.self.view_is) c.requires.may.link in
          let mine : reader_at v.shape.dims l ≡ c.self.inside.rank = subst (λ (z : SeatView). reader_at z.shape.dims l ≡ z.rank) (sym c.self.view_is) c.requires.may.ends_here in
          let w = (c.self.invariant.each_in l c.index_mut-end.result.now inside mine).waiting_is in
          collects_same c.bank.inside.board.shared.key v.pick l (own_logs v) (own_logs c.collect_on-answer.new.place.me.0) f.left.others (omega arith) f.collects.seen (f.collects.not_taken none) ∙ ap collected_from c.self.view_is;
      none_known = λ none. size ∙ sym (f.collects.none_known none);
      heard = λ none. subst (λ (z : ℕ × InLog Contents). RoseOrFull (noted_by z.0 z.1) (saturated_count (listens (in_of x' l)))) (λ k. (noted k, in_of (c.self.view_is k).lists l)) (f.collects.listened none);
      unmarked = search rules;
      kept = search rules;
      long = search rules;
      noted =
          let l : ℕ = c.args.link in let s = c.self.invariant in let v = c.self.inside.place.me.0 in
          let inside : l < links v.shape.dims = subst (λ (z : SeatView). l < links z.shape.dims) (sym c.self.view_is) c.requires.may.link in
          let x' : Lists Contents = own_logs c.collect_on-answer.new.place.me.0 in
          noted_changed c.self.inside.ins.items l c.collect_on-answer.new.end (own_logs v) x' (let n = s.ins_many in omega arith) c.collect_on-answer.ensures.left.others.look_ins c.collect_on-answer.ensures.collects.noted
          ∙ ap (λ (z : SeatView). changed (noted_at z) l (saturated_count (listens (in_of x' l)))) c.self.view_is;
      listens = search rules;
      known_elsewhere = search rules;
    }

pub invariant_of-self : goal.invariant_of-self
invariant_of-self g c =
    let wire : Wire = c.index-wire.result.now in let way : IsWire c.bank.inside.board.shared.key.dims c.args.link wire.bell wire.mask wire.hop = subst (λ (z : Wire). IsWire c.bank.inside.board.shared.key.dims c.args.link z.bell z.mask z.hop) (sym c.index-wire.ensures) (c.bank.invariant.each c.args.link wire (subst (λ (z : Shape). c.args.link < links z.dims) (c.requires.bank.1 ∙ sym (ap (λ (z : BankIdentity). z.shape) c.bank.view_is)) c.requires.may.link)) in
    let s = c.self.invariant in let v = c.self.inside.place.me.0 in let key : Shape = c.bank.inside.board.shared.key in let l : ℕ = c.args.link in let f = c.collect_on-answer.ensures in
    let e : v.shape ≡ key = ap (λ (z : SeatView). z.shape) c.self.view_is ∙ (c.requires.bank.1 ∙ sym (ap (λ (z : BankIdentity). z.shape) c.bank.view_is)) in
    let back : key ≡ v.shape = sym e in
    let inside : l < links v.shape.dims = subst (λ (z : SeatView). l < links z.shape.dims) (sym c.self.view_is) c.requires.may.link in
    let mine : reader_at v.shape.dims l ≡ c.self.inside.rank = subst (λ (z : SeatView). reader_at z.shape.dims l ≡ z.rank) (sym c.self.view_is) c.requires.may.ends_here in
    let w = (s.each_in l c.index_mut-end.result.now inside mine).waiting_is in
    let m' = c.collect_on-answer.new.place.me in let x : Lists Contents = own_logs v in let x' : Lists Contents = own_logs m'.0 in
    let n : ℕ = get_or c.self.inside.ended.items l 0 in
    let was : n ≡ saturated_count (lasts (map as_shipped (got_of x l))) = s.each_ended l 0 inside mine in
    let now : ended_after c.collect_on-answer.result c.last.result n ≡ saturated_count (lasts (map as_shipped (got_of x' l))) = ended_case c.collect_on-answer.result (got_of x l) (got_of x' l) c.collect_on-answer.new.parcel c.last.result n
    (λ got. got_one key v.pick l x x' f.left.others (omega arith) f.collects.seen c.collect_on-answer.new.parcel (f.collects.taken got) (f.collects.parcel got)) (λ none. got_none key v.pick l x x' f.left.others (omega arith) f.collects.seen (f.collects.not_taken none)) (sym c.last.ensures) was in
    subst (λ (z : List ℕ). IsSeat g.row.CAP m'.0.shape m' c.self.inside.rank c.self.inside.outs.items (set c.self.inside.ins.items l c.collect_on-answer.new.end) (set c.self.inside.ears c.index-wire.result.now.hop c.collect_on-answer.new.ear) z) (sym c.note_last.ensures)
    (seat_collected g.row.CAP v.shape c.self.inside.place.me m' c.self.inside.rank l c.self.inside.outs.items c.self.inside.ins.items c.self.inside.ears c.self.inside.ended.items s
    (subst (λ (z : Shape). HoldsSeat z m') back f.left.stays.seat) inside c.collect_on-answer.new.end c.collect_on-answer.new.ear c.index-wire.result.now.hop (ended_after c.collect_on-answer.result c.last.result n) f.left.here
    (subst (λ (z : Shape). KeepsOtherLinks z v.pick l x x') back f.left.others) mine
    (subst (λ (z : Shape). IsInEnd z.slots (in_of x' l) c.collect_on-answer.new.end.taken c.collect_on-answer.new.end.waiting c.collect_on-answer.new.end.noted) back f.left.end)
    (subst (λ (z : Shape). IsHeard z v.pick (hop_at z.dims l) x' c.collect_on-answer.new.ear.marks c.collect_on-answer.new.ear.hears) back f.left.ear)
    (subst (λ (z : Shape). hop_at z.dims l ≡ c.index-wire.result.now.hop + 1) back way.hop_is)
    (subst (λ (z : Shape). AreGood g.row.CAP z l (in_of x' l)) back f.collects.good) now)

pub returns-clause-does : goal.returns-clause-does
returns-clause-does g c =
    let l : ℕ = c.args.link in let s = c.self.invariant in let v = c.self.inside.place.me.0 in let end : InEnd = c.index_mut-end.result.now in let f = c.collect_on-answer.ensures in
    let x : Lists Contents = own_logs v in let x' : Lists Contents = own_logs c.collect_on-answer.new.place.me.0 in
    let inside : l < links v.shape.dims = subst (λ (z : SeatView). l < links z.shape.dims) (sym c.self.view_is) c.requires.may.link in
    let mine : reader_at v.shape.dims l ≡ c.self.inside.rank = subst (λ (z : SeatView). reader_at z.shape.dims l ≡ z.rank) (sym c.self.view_is) c.requires.may.ends_here in
    let is : end ≡ get_or c.self.inside.ins.items l end = c.index_mut-end.ensures.value in
    let waits : length (in_of x l).seen ≡ (in_of x l).taken + (get_or c.self.inside.ins.items l end).waiting = (s.each_in l end inside mine).waiting_is in
    let noted : end.noted ≡ hears_noted c.args.self.now l = ap (λ (i : InEnd). i.noted) is ∙ sym (get_or-map (λ (i : InEnd). i.noted) c.self.inside.ins.items l end 0 (let n = s.ins_many in omega arith)) ∙ ap (λ (z : SeatView). hears_noted z l) c.self.view_is in
    let size : length (collected_from c.args.self.now l) ≡ (in_of x l).taken =
    sym (ap (λ (z : SeatView). length (collected_from z l)) c.self.view_is) ∙ length-map (got_of x l) as_shipped ∙ length-take-le (in_of x l).taken (in_of x l).seen (omega arith) in
    let some : length (collected_from c.args.self.now l) < known_on c.args.self.now l → end.waiting ≢ 0 = λ more none.
    some_waiting (in_of x l) (get_or c.self.inside.ins.items l end).waiting waits (subst (λ (z : SeatView). length (collected_from z l) < known_on z l) (sym c.self.view_is) more) (sym (ap (λ (i : InEnd). i.waiting) is) ∙ none) in
    let none : length (collected_from c.args.self.now l) ≡ known_on c.args.self.now l → end.waiting ≡ 0 = λ all. ap (λ (i : InEnd). i.waiting) is ∙ none_waiting (in_of x l) (get_or c.self.inside.ins.items l end).waiting waits (subst (λ (z : SeatView). length (collected_from z l) ≡ known_on z l) (sym c.self.view_is) all) in
    let key : Shape = c.bank.inside.board.shared.key in
    let shape : c.args.self.now.shape ≡ key = c.requires.bank.1 ∙ sym (ap (λ (z : BankIdentity). z.shape) c.bank.view_is) in
    let speaks : v.pick ≡ c.args.self.now.rank = s.rank_is ∙ ap (λ (z : SeatView). z.rank) c.self.view_is in
    record {
      here = search rules;
      outs = search rules;
      at_hand = λ more. f.collects.at_hand (some more);
      no_looking = λ more. f.collects.no_looking (some more) ∙ ap (λ (z : SeatView). with_in z.lists l (taken_more (in_of z.lists l) (in_of x' l).released_at)) c.self.view_is;
      heard_beside = λ all m below own hop ne.
          subst (λ (z : ℕ × InLog Contents × InLog Contents). HeardWhere (is_due z.0 z.1) z.2 (in_of x' m)) (λ k. (noted k, in_of (c.self.view_is k).lists l, in_of (c.self.view_is k).lists m))
          (f.collects.heard (none all) m (subst (λ (z : Shape). m < links z.dims) shape below) (subst (λ (z : Shape). reader_at z.dims m ≡ v.pick) shape (own ∙ sym speaks))
          (subst (λ (z : Shape). hop_at z.dims m ≡ hop_at z.dims l) shape hop) ne);
      looked_for = λ all. subst (λ (z : ℕ × InLog Contents). LookedFor z.0 z.1 (in_of x' l)) (λ k. (noted k, (in_of (c.self.view_is k).lists l))) (f.collects.looked (none all));
      other_hops = search rules;
    }
