use Rattle.std.proofs.Common.{arith, ◌≡◌, ◌<◌, ◌≤◌, ℕ, sym, ap, subst, ◌∙◌, length, map}
use Rattle.item_buffer.specs.Contents.{as_shipped}
use Rattle.route_tensor.specs.Link.{links}
use Rattle.route_tensor.specs.Ends.{sender_at}
use Rattle.port_bank.specs.Logs.{lasts, with_parcel}
use Rattle.port_bank.specs.Relay.{RelayLaw}
use Rattle.link_slots.specs.declared.seat.ends.OutEnd.{OutEnd}
use Rattle.link_slots.specs.declared.table.wire.Wire.{Wire}
use Rattle.link_slots.specs.Logs.{out_of, with_out, sent_of, got_of, sent_more}
use Rattle.link_slots.specs.View.{own_logs}
use Rattle.link_slots.specs.Shape.{Shape, MayFollow, KeepsLaw, shipped_all}
use Rattle.link_slots.specs.WordSteps.{HoldsSeat}
use Rattle.link_slots.specs.Counts.{IsWire, IsOutEnd, HasPosted}
use Rattle.link_slots.specs.SeatView.{BankIdentity, SeatView, posted_on, collected_from}
use Rattle.link_slots.proofs.Seating.{law_for, may_follow, seat_posted}
use Rattle.link_slots.proofs.seat.SlotSeat.post.Goals as goal

pub post_on-answer-requires : goal.post_on-answer-requires
post_on-answer-requires g c =
    let wire : Wire = c.index-wire.result.now in let way : IsWire c.bank.inside.board.shared.key.dims c.args.link wire.bell wire.mask wire.hop = subst (λ (z : Wire). IsWire c.bank.inside.board.shared.key.dims c.args.link z.bell z.mask z.hop) (sym c.index-wire.ensures) (c.bank.invariant.each c.args.link wire (subst (λ (z : Shape). c.args.link < links z.dims) (c.requires.bank.1 ∙ sym (ap (λ (z : BankIdentity). z.shape) c.bank.view_is)) c.requires.may.link)) in
    let s = c.self.invariant in let v = c.self.inside.place.me.0 in let key : Shape = c.bank.inside.board.shared.key in let l : ℕ = c.args.link in
    let e : v.shape ≡ key = ap (λ (z : SeatView). z.shape) c.self.view_is ∙ (c.requires.bank.1 ∙ sym (ap (λ (z : BankIdentity). z.shape) c.bank.view_is)) in
    let inside : l < links v.shape.dims = subst (λ (z : SeatView). l < links z.shape.dims) (sym c.self.view_is) c.requires.may.link in
    let mine : sender_at v.shape.dims l ≡ c.self.inside.rank = subst (λ (z : SeatView). sender_at z.shape.dims l ≡ z.rank) (sym c.self.view_is) c.requires.may.starts_here in
    let law : RelayLaw v.shape.dims c.self.inside.rank (with_parcel (shipped_all (sent_of (own_logs v))) l (as_shipped c.args.parcel.now)) (shipped_all (got_of (own_logs v))) =
    subst (λ (z : SeatView). RelayLaw z.shape.dims z.rank (with_parcel (posted_on z) l (as_shipped c.args.parcel.now)) (collected_from z)) (sym c.self.view_is) c.requires.may.law in
    let epoch : c.args.parcel.now.epoch ≡ lasts (map as_shipped (sent_of (own_logs v) l)) = subst (λ (z : SeatView). c.args.parcel.now.epoch ≡ lasts (posted_on z l)) (sym c.self.view_is) c.requires.may.epoch in
    let long : l < length (own_logs v).outs = (let n = s.lists_out in omega arith) in
    let end : OutEnd = c.index_mut-end.result.now in
    let counts : IsOutEnd v.shape.slots (out_of (own_logs v) l) end.sent end.spare =
    subst (λ (z : OutEnd). IsOutEnd v.shape.slots (out_of (own_logs v) l) z.sent z.spare) (sym c.index_mut-end.ensures.value) (s.each_out l end inside mine) in (
      omega arith,
      (
        omega arith,
        (
          omega arith,
          (
            record {
              at = record {
                here = ap (λ (z : SeatView). z.id) c.self.view_is ∙ (c.requires.bank.0 ∙ sym (ap (λ (z : BankIdentity). z.id) c.bank.view_is));
                board = c.bank.invariant.board;
                manned = subst (λ (z : Shape). HoldsSeat z c.self.inside.place.me) e s.manned;
                below = subst (λ (z : Shape). l < links z.dims) e inside;
                own = subst (λ (z : Shape). sender_at z.dims l ≡ v.pick) e (mine ∙ sym s.rank_is);
              };
              slots_are = c.bank.invariant.slots_is;
              long = long;
              end = subst (λ (z : Shape). IsOutEnd z.slots (out_of (own_logs v) l) end.sent end.spare) e counts;
            },
            (
              way,
              (
                subst (λ (z : Shape). MayFollow z.dims g.row.CAP l (out_of (own_logs v) l).sent c.args.parcel.now) e
                    (may_follow v.shape.dims g.row.CAP c.self.inside.rank l (own_logs v) c.args.parcel.now inside mine c.requires.may.fresh c.known.ensures.fresh c.known.ensures.within epoch law),
                subst (λ (z : Shape × ℕ). KeepsLaw z.0.dims z.1 (sent_of (with_out (own_logs v) l (sent_more (out_of (own_logs v) l) c.args.parcel.now))) (got_of (own_logs v))) (λ k. (e k, sym s.rank_is k))
                    (law_for v.shape.dims c.self.inside.rank l (own_logs v) c.args.parcel.now long law),
              ),
            ),
          ),
        ),
      ),
    )

pub invariant_of-self : goal.invariant_of-self
invariant_of-self g c =
    let s = c.self.invariant in let v = c.self.inside.place.me.0 in let key : Shape = c.bank.inside.board.shared.key in let l : ℕ = c.args.link in
    let e : v.shape ≡ key = ap (λ (z : SeatView). z.shape) c.self.view_is ∙ (c.requires.bank.1 ∙ sym (ap (λ (z : BankIdentity). z.shape) c.bank.view_is)) in
    let inside : l < links v.shape.dims = subst (λ (z : SeatView). l < links z.shape.dims) (sym c.self.view_is) c.requires.may.link in
    let mine : sender_at v.shape.dims l ≡ c.self.inside.rank = subst (λ (z : SeatView). sender_at z.shape.dims l ≡ z.rank) (sym c.self.view_is) c.requires.may.starts_here in
    seat_posted g.row.CAP v.shape c.self.inside.place.me c.post_on-answer.new.place.me c.self.inside.rank l c.self.inside.outs.items c.self.inside.ins.items c.self.inside.ears c.self.inside.ended.items s
    (subst (λ (z : Shape). HoldsSeat z c.post_on-answer.new.place.me) (sym e) c.post_on-answer.ensures.left.stays.seat) inside c.post_on-answer.new.end c.post_on-answer.ensures.left.here mine
    (subst (λ (z : Shape). IsOutEnd z.slots (out_of (own_logs c.post_on-answer.new.place.me.0) l) c.post_on-answer.new.end.sent c.post_on-answer.new.end.spare) (sym e) c.post_on-answer.ensures.left.end)

-- what the seat counts beside its view: the parcels posted and the spare slots are the room
pub returns-clause-within : goal.returns-clause-within
returns-clause-within g c =
    let s = c.self.invariant in let v = c.self.inside.place.me.0 in let l : ℕ = c.args.link in
    let inside : l < links v.shape.dims = subst (λ (z : SeatView). l < links z.shape.dims) (sym c.self.view_is) c.requires.may.link in
    let mine : sender_at v.shape.dims l ≡ c.self.inside.rank = subst (λ (z : SeatView). sender_at z.shape.dims l ≡ z.rank) (sym c.self.view_is) c.requires.may.starts_here in
    let counts = s.each_out l c.index_mut-end.result.now inside mine in
    let spare = counts.spare_is in
    subst (λ (z : SeatView). length (out_of z.lists l).sent ≤ (out_of z.lists l).room) c.self.view_is (omega (arith, spare))

pub returns-clause-link : goal.returns-clause-link
returns-clause-link g c =
    let l : ℕ = c.args.link in
    let e : c.self.inside.place.me.0.shape ≡ c.bank.inside.board.shared.key = ap (λ (z : SeatView). z.shape) c.self.view_is ∙ (c.requires.bank.1 ∙ sym (ap (λ (z : BankIdentity). z.shape) c.bank.view_is)) in
    subst (λ (z : SeatView). HasPosted z.shape.slots (out_of z.lists l) (out_of (own_logs c.post_on-answer.new.place.me.0) l) c.args.parcel.now c.post_on-answer.result) c.self.view_is
    (subst (λ (z : Shape). HasPosted z.slots (out_of (own_logs c.self.inside.place.me.0) l) (out_of (own_logs c.post_on-answer.new.place.me.0) l) c.args.parcel.now c.post_on-answer.result) (sym e) c.post_on-answer.ensures.link)
