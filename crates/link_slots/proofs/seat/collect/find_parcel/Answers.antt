use Rattle.std.proofs.Common.{arith, ◌≡◌, ℕ, refl, sym, ap, subst, ◌∙◌}
use Rattle.route_tensor.specs.Ends.{hop_at}
use Rattle.item_buffer.specs.Contents.{Contents}
use Rattle.link_slots.specs.Logs.{InLog, Lists, in_of}
use Rattle.link_slots.specs.View.{own_logs, with_logs}
use Rattle.link_slots.specs.Shape.{Shape}
use Rattle.link_slots.specs.WordSteps.{TableView}
use Rattle.link_slots.specs.Counts.{IsHeard, KeepsOtherLinks}
use Rattle.link_slots.specs.Doorbell.{is_due, HeardWhere, looked_where_marked}
use Rattle.link_slots.proofs.Moves.{in_here, in_there}
use Rattle.link_slots.proofs.Due.{looked_for}
use Rattle.link_slots.proofs.HeldSeats.{with_twice}
use Rattle.link_slots.proofs.Hearing.{else_kept, good_same}
use Rattle.link_slots.proofs.seat.collect.find_parcel.Goals as goal

pub look_if_marked-requires : goal.look_if_marked-requires
look_if_marked-requires g c =
    let key : Shape = c.args.top.now.key in let h = c.hear_if_due.ensures in let m : TableView = c.hear_if_due.new.place.me.0 in
    let p : m.pick ≡ c.args.place.now.me.0.pick = ap (λ (z : TableView). z.pick) h.left.here in (
      omega arith,
      (
        omega arith,
        (
          record {
            at = record {
              here = h.left.stays.table ∙ c.requires.reads.at.here;
              board = c.requires.reads.at.board;
              manned = h.left.stays.seat;
              below = c.requires.reads.at.below;
              own = c.requires.reads.at.own ∙ sym p;
            };
            long = h.left.others.long ∙ c.requires.reads.long;
            end = h.left.end;
            wire = c.requires.reads.wire;
            ear = subst (λ (q : ℕ). IsHeard key q (hop_at key.dims c.args.link) (own_logs m) c.hear_if_due.new.ear.marks c.hear_if_due.new.ear.hears) (sym p) h.left.ear;
          },
          (
            c.if-end-eq0.true,
            good_same g.row.CAP key c.args.link (in_of (own_logs c.args.place.now.me.0) c.args.link) (in_of (own_logs m) c.args.link) h.seen c.requires.good,
          ),
        ),
      ),
    )

pub returns-then-end-eq0-clause-left : goal.returns-then-end-eq0-clause-left
returns-then-end-eq0-clause-left g c =
    let key : Shape = c.args.top.now.key in let v : TableView = c.args.place.now.me.0 in let v2 : TableView = c.hear_if_due.new.place.me.0 in let v3 : TableView = c.look_if_marked.new.place.me.0 in
    let p : v2.pick ≡ v.pick = ap (λ (z : TableView). z.pick) c.hear_if_due.ensures.left.here in let two = c.look_if_marked.ensures.left in
    record {
      stays = record { table = two.stays.table ∙ c.hear_if_due.ensures.left.stays.table; seat = two.stays.seat };
      end = two.end;
      ear = subst (λ (q : ℕ). IsHeard key q (hop_at key.dims c.args.link) (own_logs v3) c.look_if_marked.new.ear.marks c.look_if_marked.new.ear.hears) p two.ear;
      here = (let v : TableView = c.args.place.now.me.0 in let v2 : TableView = c.hear_if_due.new.place.me.0 in let v3 : TableView = c.look_if_marked.new.place.me.0 in
          c.look_if_marked.ensures.left.here ∙ ap (λ (z : TableView). with_logs z (own_logs v3)) c.hear_if_due.ensures.left.here ∙ with_twice v (own_logs v2) (own_logs v3));
      others = (let key : Shape = c.args.top.now.key in let v : TableView = c.args.place.now.me.0 in let v2 : TableView = c.hear_if_due.new.place.me.0 in let v3 : TableView = c.look_if_marked.new.place.me.0 in
          let p : v2.pick ≡ v.pick = ap (λ (z : TableView). z.pick) c.hear_if_due.ensures.left.here in
          else_kept key v.pick c.args.link (own_logs v) (own_logs v2) (own_logs v3) c.hear_if_due.ensures.left.others (subst (λ (q : ℕ). KeepsOtherLinks key q c.args.link (own_logs v2) (own_logs v3)) p c.look_if_marked.ensures.left.others));
    }

pub returns-then-end-eq0-clause-heard : goal.returns-then-end-eq0-clause-heard
returns-then-end-eq0-clause-heard g c none m inside mine hop ne =
    let v : TableView = c.args.place.now.me.0 in let v2 : TableView = c.hear_if_due.new.place.me.0 in let v3 : TableView = c.look_if_marked.new.place.me.0 in let l : ℕ = c.args.link in
    let same : in_of (own_logs v3) m ≡ in_of (own_logs v2) m = ap (λ (z : Lists Contents). in_of z m) c.look_if_marked.ensures.looked ∙ in_there (own_logs v2) l (looked_where_marked (in_of (own_logs v3) l).seen (in_of (own_logs v2) l)) m ne in
    subst (HeardWhere (is_due c.args.end.now.noted (in_of (own_logs v) l)) (in_of (own_logs v) m)) (sym same) (c.hear_if_due.ensures.heard m inside mine hop)

pub returns-then-end-eq0-clause-looked : goal.returns-then-end-eq0-clause-looked
returns-then-end-eq0-clause-looked g c none =
    let v : TableView = c.args.place.now.me.0 in let v2 : TableView = c.hear_if_due.new.place.me.0 in let v3 : TableView = c.look_if_marked.new.place.me.0 in let l : ℕ = c.args.link in
    let i : InLog Contents = looked_where_marked (in_of (own_logs v3) l).seen (in_of (own_logs v2) l) in
    looked_for c.args.end.now.noted (in_of (own_logs v) l) (in_of (own_logs v2) l) (in_of (own_logs v3) l) (in_of (own_logs v3) l).seen (c.hear_if_due.ensures.heard l c.requires.reads.at.below c.requires.reads.at.own refl)
    (ap (λ (z : Lists Contents). in_of z l) c.look_if_marked.ensures.looked ∙ in_here (own_logs v2) l i (let w = c.hear_if_due.ensures.left.others.long in let u = c.requires.reads.long in let h = c.requires.reads.at.below in omega arith))
