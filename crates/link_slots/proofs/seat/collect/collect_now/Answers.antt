use Rattle.port_bank.specs.Flow.{IsPrefix}
use mathlib.Core.Option.{some}
use lib.ListN.{get_elem?}
use Rattle.std.proofs.Common.{take, ◌≤◌, rules, arith, ◌≡◌, ◌-◌, ◌<◌, ℕ, suc, refl, sym, ap, subst, ◌∙◌, length}
use Rattle.item_buffer.specs.Contents.{Contents}
use Rattle.route_tensor.specs.Ends.{hop_at}
use Rattle.link_slots.specs.Logs.{InLog, Lists, out_of, in_of, with_in, taken_more, listens}
use Rattle.link_slots.specs.View.{own_logs, with_logs, Speaks}
use Rattle.link_slots.specs.Shape.{Shape}
use Rattle.link_slots.specs.WordSteps.{TableView}
use Rattle.list_laws.specs.Counts.{saturated_count}
use Rattle.link_slots.specs.Counts.{IsInEnd, IsHeard, KeepsOtherLinks}
use Rattle.link_slots.specs.Doorbell.{is_due, HeardWhere}
use Rattle.link_slots.proofs.Moves.{own_with, in_here, in_there, in_same}
use Rattle.link_slots.proofs.HeldSeats.{with_twice}
use Rattle.link_slots.proofs.Counting.{end_taken}
use Rattle.link_slots.proofs.Due.{looked_then_taken}
use Rattle.link_slots.proofs.Hearing.{else_kept, in_elsewhere, good_same, heard_same}
use Rattle.link_slots.proofs.seat.collect.collect_now.Goals as goal

-- the seat's lists after the release, and the link's own part of them
module _ (v2 v3 : TableView) (l : ℕ) (e : v3 ≡ with_logs v2 (with_in (own_logs v2) l (taken_more (in_of (own_logs v2) l) (in_of (own_logs v3) l).released_at))) (speaks : Speaks v2) where
  own : own_logs v3 ≡ with_in (own_logs v2) l (taken_more (in_of (own_logs v2) l) (in_of (own_logs v3) l).released_at)
  own = ap own_logs e ∙ own_with v2 (with_in (own_logs v2) l (taken_more (in_of (own_logs v2) l) (in_of (own_logs v3) l).released_at)) speaks

  at : l < length (own_logs v2).ins → in_of (own_logs v3) l ≡ taken_more (in_of (own_logs v2) l) (in_of (own_logs v3) l).released_at
  at h = ap (λ (z : Lists Contents). in_of z l) own ∙ in_here (own_logs v2) l (taken_more (in_of (own_logs v2) l) (in_of (own_logs v3) l).released_at) h

pub returns-clause-left : goal.returns-clause-left
returns-clause-left g c =
    record {
      stays = record { table = c.receive.ensures.stays.table ∙ c.find_parcel.ensures.left.stays.table; seat = c.receive.ensures.stays.seat };
      end = (let key : Shape = c.args.top.now.key in let f = c.find_parcel.ensures in let v2 : TableView = c.find_parcel.new.place.me.0 in let v3 : TableView = c.receive.new.place.me.0 in let l : ℕ = c.args.link in
          let i2 : InLog Contents = in_of (own_logs v2) l in
          let a = at v2 v3 l c.receive.ensures.released f.left.stays.seat.speaks (let w = f.left.others.long in let u = c.requires.reads.long in let h = c.requires.reads.at.below in omega arith) in
          let k : ℕ = c.find_parcel.new.end.waiting - 1 in
          let more : c.find_parcel.new.end.waiting ≡ suc k = (let n = c.if-find_parcel-eq0.false in let w = c.find_parcel.ensures.waiting in omega arith) in
          let hs : c.find_parcel.new.ear.hears ≡ saturated_count i2.hears = f.left.ear.heard l c.requires.reads.at.below c.requires.reads.at.own refl in
          end_taken key.slots i2 (in_of (own_logs v3) l) c.find_parcel.new.end.taken k c.find_parcel.new.end.noted _ _
          (subst (λ (z : ℕ). IsInEnd key.slots i2 c.find_parcel.new.end.taken z c.find_parcel.new.end.noted) more f.left.end)
          (ap (λ (z : InLog Contents). z.seen) a) (ap (λ (z : InLog Contents). z.taken) a)
          refl
          (hs ∙ sym (ap (λ (z : InLog Contents). saturated_count z.hears) a)));
      ear = (let key : Shape = c.args.top.now.key in let f = c.find_parcel.ensures in let v : TableView = c.args.place.now.me.0 in let v2 : TableView = c.find_parcel.new.place.me.0 in let v3 : TableView = c.receive.new.place.me.0 in let l : ℕ = c.args.link in
          let i : InLog Contents = taken_more (in_of (own_logs v2) l) (in_of (own_logs v3) l).released_at in
          let o = own v2 v3 l c.receive.ensures.released f.left.stays.seat.speaks in
          let long : l < length (own_logs v2).ins = (let w = f.left.others.long in let u = c.requires.reads.long in let h = c.requires.reads.at.below in omega arith) in
          subst (λ (z : Lists Contents). IsHeard key v.pick (hop_at key.dims l) z c.find_parcel.new.ear.marks c.find_parcel.new.ear.hears) (sym o)
          (heard_same key v.pick (hop_at key.dims l) (own_logs v2) (with_in (own_logs v2) l i) c.find_parcel.new.ear.marks c.find_parcel.new.ear.hears
          (in_same (own_logs v2) l (λ (z : InLog Contents). z.marked) i (λ m. (in_of (own_logs v2) m).marked) long refl (λ _ _. refl))
          (in_same (own_logs v2) l (λ (z : InLog Contents). z.hears) i (λ m. (in_of (own_logs v2) m).hears) long refl (λ _ _. refl)) f.left.ear));
      here = (let f = c.find_parcel.ensures in let v : TableView = c.args.place.now.me.0 in let v2 : TableView = c.find_parcel.new.place.me.0 in let v3 : TableView = c.receive.new.place.me.0 in let l : ℕ = c.args.link in
          let y : Lists Contents = with_in (own_logs v2) l (taken_more (in_of (own_logs v2) l) (in_of (own_logs v3) l).released_at) in
          c.receive.ensures.released ∙ ap (λ (z : TableView). with_logs z y) f.left.here ∙ with_twice v (own_logs v2) y ∙ ap (with_logs v) (sym (own v2 v3 l c.receive.ensures.released f.left.stays.seat.speaks)));
      others = (let key : Shape = c.args.top.now.key in let f = c.find_parcel.ensures in let v : TableView = c.args.place.now.me.0 in let v2 : TableView = c.find_parcel.new.place.me.0 in let v3 : TableView = c.receive.new.place.me.0 in let l : ℕ = c.args.link in
          let o = own v2 v3 l c.receive.ensures.released f.left.stays.seat.speaks in
          else_kept key v.pick l (own_logs v) (own_logs v2) (own_logs v3) f.left.others
          (subst (KeepsOtherLinks key v.pick l (own_logs v2)) (sym o) (in_elsewhere key c.requires.reads.at.board.shape v.pick l c.requires.reads.at.below c.requires.reads.at.own (own_logs v2) (f.left.others.long ∙ c.requires.reads.long) (taken_more (in_of (own_logs v2) l) (in_of (own_logs v3) l).released_at))));
    }

pub returns-clause-collects : goal.returns-clause-collects
returns-clause-collects g c =
    let f = c.find_parcel.ensures in let v : TableView = c.args.place.now.me.0 in let v2 : TableView = c.find_parcel.new.place.me.0 in let v3 : TableView = c.receive.new.place.me.0 in let l : ℕ = c.args.link in
    let a = at v2 v3 l c.receive.ensures.released f.left.stays.seat.speaks (let w = f.left.others.long in let u = c.requires.reads.long in let h = c.requires.reads.at.below in omega arith) in
    record {
      good =
          let key : Shape = c.args.top.now.key in let f = c.find_parcel.ensures in let v2 : TableView = c.find_parcel.new.place.me.0 in let v3 : TableView = c.receive.new.place.me.0 in let l : ℕ = c.args.link in
          let a = at v2 v3 l c.receive.ensures.released f.left.stays.seat.speaks (let w = f.left.others.long in let u = c.requires.reads.long in let h = c.requires.reads.at.below in omega arith) in
          good_same g.row.CAP key l (in_of (own_logs v2) l) (in_of (own_logs v3) l) (ap (λ (z : InLog Contents). z.seen) a) f.good;
      seen = ap (λ (z : InLog Contents). take (length (in_of (own_logs v) l).seen) z.seen) a ∙ f.seen;
      more = subst (λ (z : InLog Contents). listens (in_of (own_logs v) l) ≤ listens z) (sym a) f.more;
      noted =
          let f = c.find_parcel.ensures in let v2 : TableView = c.find_parcel.new.place.me.0 in let v3 : TableView = c.receive.new.place.me.0 in let l : ℕ = c.args.link in
          let i2 : InLog Contents = in_of (own_logs v2) l in
          let a = at v2 v3 l c.receive.ensures.released f.left.stays.seat.speaks (let w = f.left.others.long in let u = c.requires.reads.long in let h = c.requires.reads.at.below in omega arith) in
          let hs : c.find_parcel.new.ear.hears ≡ saturated_count i2.hears = f.left.ear.heard l c.requires.reads.at.below c.requires.reads.at.own refl in
          hs ∙ sym (ap (λ (z : InLog Contents). saturated_count z.hears) a);
      taken = λ _. ap (λ (z : InLog Contents). z.taken) a ∙ ap suc f.taken;
      parcel = λ _. subst (λ (z : InLog Contents). get_elem? z.seen (in_of (own_logs v) l).taken ≡ some c.receive.new.parcel) (sym a) (subst (λ (n : ℕ). get_elem? (in_of (own_logs v2) l).seen n ≡ some c.receive.new.parcel) f.taken c.receive.ensures.parcel);
      own = λ _ from.
          let f = c.find_parcel.ensures in let v2 : TableView = c.find_parcel.new.place.me.0 in let v3 : TableView = c.receive.new.place.me.0 in let l : ℕ = c.args.link in
          let o = own v2 v3 l c.receive.ensures.released f.left.stays.seat.speaks in
          let a = at v2 v3 l c.receive.ensures.released f.left.stays.seat.speaks (let w = f.left.others.long in let u = c.requires.reads.long in let h = c.requires.reads.at.below in omega arith) in
          let p : v2.pick ≡ c.args.place.now.me.0.pick = ap (λ (z : TableView). z.pick) f.left.here in
          subst (λ (z : InLog Contents × Lists Contents). IsPrefix z.0.seen (out_of z.1 l).sent) (λ k. (sym a k, sym o k)) (c.receive.ensures.own (from ∙ sym p));
      not_taken = search rules;
      none_known = search rules;
      unmarked = search rules;
      listened = search rules;
      kept = search rules;
      at_hand = search rules;
      no_looking = λ some.
          let v2 : TableView = c.find_parcel.new.place.me.0 in let v3 : TableView = c.receive.new.place.me.0 in let l : ℕ = c.args.link in
          own v2 v3 l c.receive.ensures.released c.find_parcel.ensures.left.stays.seat.speaks ∙ ap (λ (z : TableView). with_in (own_logs z) l (taken_more (in_of (own_logs z) l) (in_of (own_logs v3) l).released_at)) (c.find_parcel.ensures.at_hand some);
      heard = λ none m inside mine hop ne.
          let v : TableView = c.args.place.now.me.0 in let v2 : TableView = c.find_parcel.new.place.me.0 in let v3 : TableView = c.receive.new.place.me.0 in let l : ℕ = c.args.link in
          let same : in_of (own_logs v3) m ≡ in_of (own_logs v2) m = ap (λ (z : Lists Contents). in_of z m) (own v2 v3 l c.receive.ensures.released c.find_parcel.ensures.left.stays.seat.speaks) ∙ in_there (own_logs v2) l (taken_more (in_of (own_logs v2) l) (in_of (own_logs v3) l).released_at) m ne in
          subst (HeardWhere (is_due c.args.end.now.noted (in_of (own_logs v) l)) (in_of (own_logs v) m)) (sym same) (c.find_parcel.ensures.heard none m inside mine hop ne);
      looked = λ none.
          let f = c.find_parcel.ensures in let v : TableView = c.args.place.now.me.0 in let v2 : TableView = c.find_parcel.new.place.me.0 in let v3 : TableView = c.receive.new.place.me.0 in let l : ℕ = c.args.link in
          looked_then_taken c.args.end.now.noted (in_of (own_logs v) l) (in_of (own_logs v2) l) (in_of (own_logs v3) l) (in_of (own_logs v3) l).released_at
          (at v2 v3 l c.receive.ensures.released f.left.stays.seat.speaks (let w = f.left.others.long in let u = c.requires.reads.long in let h = c.requires.reads.at.below in omega arith)) (f.looked none);
    }
