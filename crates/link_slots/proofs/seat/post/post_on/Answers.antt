use Rattle.std.proofs.Common.{arith, ◌≡◌, ◌+◌, ◌-◌, ◌*◌, ◌%◌, ℕ, List, suc, refl, sym, ap, subst, ◌∙◌, length, [], ◌∷◌, ◌++◌}
use Rattle.item_buffer.specs.Contents.{Contents}
use Rattle.link_slots.specs.Logs.{OutLog, out_of, sent_more, all_offered}
use Rattle.link_slots.specs.View.{own_logs}
use Rattle.link_slots.specs.Shape.{Shape, MayFollow}
use Rattle.link_slots.specs.WordSteps.{TableView}
use Rattle.link_slots.specs.Counts.{IsOutEnd}
use Rattle.link_slots.proofs.HeldSeats.{out_after, speaks_after, long_after, then_out, out_itself, law_after}
use Rattle.link_slots.proofs.Counting.{end_posted}
use Rattle.link_slots.proofs.seat.post.post_on.Goals as goal

pub send-requires : goal.send-requires
send-requires g c =
    let key : Shape = c.args.top.now.key in let v : TableView = c.args.place.now.me.0 in let v1 : TableView = c.make_room.new.place.me.0 in let l : ℕ = c.args.link in
    let e = c.make_room.ensures.left.here in (
      omega arith,
      (
        omega arith,
        (
          omega arith,
          (
            record {
              here = c.make_room.ensures.left.stays.table ∙ c.requires.writes.at.here;
              board = c.requires.writes.at.board;
              manned = c.make_room.ensures.left.stays.seat;
              below = c.requires.writes.at.below;
              own = c.requires.writes.at.own ∙ sym (ap (λ (z : TableView). z.pick) e);
            },
            (
              (let s = c.make_room.ensures.left.end.spare_is in let n = c.if-end-eq0.false in omega arith),
              (
                c.slot_of-slot.ensures _ c.make_room.ensures.left.end.sent_is ∙ ap (λ (z : ℕ). z * l + length (out_of (own_logs v1) l).sent % z) c.requires.writes.slots_are,
                (
                  subst (λ (z : List Contents). MayFollow key.dims g.row.CAP l z c.args.parcel.now) (sym c.make_room.ensures.sent) c.requires.parcel,
                  law_after v c.requires.writes.at.manned.speaks l c.requires.writes.long key.dims v1 c.args.parcel.now e c.make_room.ensures.sent c.requires.law,
                ),
              ),
            ),
          ),
        ),
      ),
    )

pub returns-clause-left : goal.returns-clause-left
returns-clause-left g c =
    record {
      stays = record { table = c.ring.ensures.stays.table ∙ (c.send.ensures.stays.table ∙ c.make_room.ensures.left.stays.table); seat = c.ring.ensures.stays.seat };
      end = (let key : Shape = c.args.top.now.key in
          let v : TableView = c.args.place.now.me.0 in let v1 : TableView = c.make_room.new.place.me.0 in let v2 : TableView = c.send.new.place.me.0 in let v3 : TableView = c.ring.new.place.me.0 in let l : ℕ = c.args.link in
          let speaks = c.requires.writes.at.manned.speaks in let long = c.requires.writes.long in
          let e1 = c.make_room.ensures.left.here in
          let e2 = then_out v speaks l long v1 v2 _ _ e1 c.send.ensures.posted in
          let o1 : OutLog Contents = out_of (own_logs v1) l in
          let at2 : out_of (own_logs v2) l ≡ sent_more o1 c.args.parcel.now = out_after v1 v2 (speaks_after v speaks l long v1 _ e1) l (own_logs v1) _ c.send.ensures.posted (long_after v speaks l long v1 _ e1) in
          let at3 : out_of (own_logs v3) l ≡ all_offered (out_of (own_logs v2) l) (out_of (own_logs v3) l).rung_at = out_after v2 v3 (speaks_after v speaks l long v2 _ e2) l (own_logs v2) _ c.ring.ensures.rung (long_after v speaks l long v2 _ e2) in
          let at : out_of (own_logs v3) l ≡ all_offered (sent_more o1 c.args.parcel.now) (out_of (own_logs v3) l).rung_at = at3 ∙ ap (λ (z : OutLog Contents). all_offered z (out_of (own_logs v3) l).rung_at) at2 in
          let k : ℕ = c.make_room.new.end.spare - 1 in
          let more : c.make_room.new.end.spare ≡ suc k = (let n = c.if-end-eq0.false in omega arith) in
          end_posted key.slots o1 (out_of (own_logs v3) l) c.args.parcel.now c.make_room.new.end.sent k _
          (subst (IsOutEnd key.slots o1 c.make_room.new.end.sent) more c.make_room.ensures.left.end)
          (ap (λ (z : OutLog Contents). z.sent) at) (ap (λ (z : OutLog Contents). z.room) at) refl);
      here = (let v : TableView = c.args.place.now.me.0 in let v1 : TableView = c.make_room.new.place.me.0 in let v2 : TableView = c.send.new.place.me.0 in let v3 : TableView = c.ring.new.place.me.0 in let l : ℕ = c.args.link in
          let speaks = c.requires.writes.at.manned.speaks in let long = c.requires.writes.long in
          let e2 = then_out v speaks l long v1 v2 _ _ c.make_room.ensures.left.here c.send.ensures.posted in
          out_itself v speaks l long v3 _ (then_out v speaks l long v2 v3 _ _ e2 c.ring.ensures.rung));
    }

-- what was looked for was looked for before the parcel was sent, and only where no empty slot was
-- at hand
pub returns-clause-link : goal.returns-clause-link
returns-clause-link g c =
    let v : TableView = c.args.place.now.me.0 in let v1 : TableView = c.make_room.new.place.me.0 in let v2 : TableView = c.send.new.place.me.0 in let v3 : TableView = c.ring.new.place.me.0 in let l : ℕ = c.args.link in
    let speaks = c.requires.writes.at.manned.speaks in let long = c.requires.writes.long in
    let e1 = c.make_room.ensures.left.here in
    let e2 = then_out v speaks l long v1 v2 _ _ e1 c.send.ensures.posted in
    let at2 : out_of (own_logs v2) l ≡ sent_more (out_of (own_logs v1) l) c.args.parcel.now = out_after v1 v2 (speaks_after v speaks l long v1 _ e1) l (own_logs v1) _ c.send.ensures.posted (long_after v speaks l long v1 _ e1) in
    let at3 : out_of (own_logs v3) l ≡ all_offered (out_of (own_logs v2) l) (out_of (own_logs v3) l).rung_at = out_after v2 v3 (speaks_after v speaks l long v2 _ e2) l (own_logs v2) _ c.ring.ensures.rung (long_after v speaks l long v2 _ e2) in
    let at : out_of (own_logs v3) l ≡ all_offered (sent_more (out_of (own_logs v1) l) c.args.parcel.now) (out_of (own_logs v3) l).rung_at = at3 ∙ ap (λ (z : OutLog Contents). all_offered z (out_of (own_logs v3) l).rung_at) at2 in
    let looks = ap (λ (z : OutLog Contents). z.looks) at in
    let once = c.make_room.ensures.once in
    let more = c.make_room.ensures.looks in
    record {
      sent = λ is. ap (λ (z : OutLog Contents). z.sent) at ∙ ap (λ z. z ++ c.args.parcel.now ∷ []) c.make_room.ensures.sent;
      offered = λ is. ap (λ (z : OutLog Contents). z.offered) at ∙ ap length (sym (ap (λ (z : OutLog Contents). z.sent) at));
      room = λ is. (let r = ap (λ (z : OutLog Contents). z.room) at in let n = c.if-end-eq0.false in let k = c.make_room.ensures.left.end.spare_is in let q = ap length c.make_room.ensures.sent in omega arith);
      looks = omega arith;
      once = omega arith;
      at_hand = λ room.
          let spare = c.requires.writes.end.spare_is in
          let same = c.make_room.ensures.ready (λ none. absurd (omega arith)) in
          (refl, looks ∙ ap (λ z. (out_of (own_logs z.me.0) l).looks) same);
      found = λ none. absurd (cc);
      looked = λ none. absurd (cc);
      full = λ none. absurd (cc);
      all_room = λ none. absurd (cc);
      not_sent = λ none. absurd (cc);
    }

pub returns-then-end-eq0-clause-link : goal.returns-then-end-eq0-clause-link
returns-then-end-eq0-clause-link g c =
    let zero = c.if-end-eq0.true in
    record {
      sent = λ is. absurd (cc);
      offered = λ is. absurd (cc);
      room = λ is. absurd (cc);
      looks = c.make_room.ensures.looks;
      once = c.make_room.ensures.once;
      at_hand = λ room.
          let spare = c.requires.writes.end.spare_is in
          let same = c.make_room.ensures.ready (λ none. absurd (omega arith)) in
          absurd (let kept = ap (λ (z : OutLog Contents). z.room) (ap (λ z. out_of (own_logs z.me.0) c.args.link) same) in let now = c.make_room.ensures.left.end.spare_is in let sent = ap length c.make_room.ensures.sent in omega arith);
      found = λ none. c.make_room.ensures.found zero;
      looked = λ none. c.make_room.ensures.looked zero;
      full = λ none. (let now = c.make_room.ensures.left.end.spare_is in let sent = ap length c.make_room.ensures.sent in omega arith);
      all_room = λ none. c.make_room.ensures.all_room zero;
      not_sent = λ none. c.make_room.ensures.sent;
    }
