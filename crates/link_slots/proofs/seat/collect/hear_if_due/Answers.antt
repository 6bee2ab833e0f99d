use Rattle.std.proofs.Common.{arith, ◌≡◌, ◌<◌, ℕ, suc, refl, sym, ap, subst, ◌∙◌, length, true, false, eqb, eq-eqb}
use Rattle.std.specs.Int.{bit_at}
use Rattle.std.specs.Int.Bits.{bit_or}
use Rattle.bale_items.specs.Counters.{RoseOrFull}
use Rattle.item_buffer.specs.Contents.{Contents}
use Rattle.route_tensor.specs.Link.{links}
use Rattle.route_tensor.specs.Ends.{hop_at, reader_at}
use Rattle.link_slots.specs.Logs.{InLog, Lists, in_of, listens}
use Rattle.link_slots.specs.View.{own_logs, with_logs, Speaks}
use Rattle.link_slots.specs.StepEffects.{after_hear, heard_by}
use Rattle.link_slots.specs.Shape.{Shape, IsShape, wiring}
use Rattle.link_slots.specs.WordSteps.{TableView}
use Rattle.list_laws.specs.Counts.{saturated_count}
use Rattle.link_slots.specs.Counts.{IsHeard, KeepsOtherLinks, noted_by}
use Rattle.link_slots.specs.Doorbell.{is_due}
use Rattle.link_slots.proofs.Moves.{own_with}
use Rattle.link_slots.proofs.Counting.{end_kept}
use Rattle.link_slots.proofs.Hearing.{bit_unset, bit_set, heard_at, heard_elsewhere, heard_marks, rises, rose}
use Rattle.link_slots.proofs.Due.{due, not_due_marked, not_due_heard, heard_where, heard_nowhere}
use Rattle.std.proofs.lemmas.Nat.Bits.{bit_at-lt}
use Rattle.link_slots.proofs.seat.collect.hear_if_due.Goals.{else-ear-wire-eq0-via-then-ear-wire-eq0+else-ear-end, else-ear-wire-eq0-via-else-ear-wire-eq0}
use Rattle.link_slots.proofs.seat.collect.hear_if_due.Goals as goal

module _ (v v' : TableView) (shape : Shape) (is : IsShape shape) (l n : ℕ) (e : v' ≡ with_logs v (after_hear (wiring shape) ((wiring shape).bell l) n (own_logs v))) (speaks : Speaks v)
    (inside : l < links shape.dims) (mine : reader_at shape.dims l ≡ v.pick) (wide : length (own_logs v).ins ≡ links shape.dims) where
  -- what the seat's lists are after the hear, and the link's own part of them
  own : own_logs v' ≡ after_hear (wiring shape) ((wiring shape).bell l) n (own_logs v)
  own = ap own_logs e ∙ own_with v (after_hear (wiring shape) ((wiring shape).bell l) n (own_logs v)) speaks

  at : in_of (own_logs v') l ≡ heard_by (bit_at n ((wiring shape).bit l)) (in_of (own_logs v) l)
  at = ap (λ (z : Lists Contents). in_of z l) own ∙ heard_at shape is v.pick l inside mine (own_logs v) wide n l inside mine refl

pub returns-then-ear-end-clause-left : goal.returns-then-ear-end-clause-left
returns-then-ear-end-clause-left g c =
    let key : Shape = c.args.top.now.key in let v : TableView = c.args.place.now.me.0 in
    record {
      stays = c.hear.ensures.stays;
      end = (let a = at c.args.place.now.me.0 c.hear.new.place.me.0 c.args.top.now.key c.requires.reads.at.board.shape c.args.link c.hear.result c.hear.ensures.heard c.requires.reads.at.manned.speaks c.requires.reads.at.below c.requires.reads.at.own c.requires.reads.long in
          let h = ap (λ (i : InLog Contents). i.hears) a in
          end_kept c.args.top.now.key.slots _ _ _ _ _ c.requires.reads.end (ap (λ (i : InLog Contents). i.seen) a) (ap (λ (i : InLog Contents). i.taken) a) (omega arith));
      ear = (let key : Shape = c.args.top.now.key in let v : TableView = c.args.place.now.me.0 in
          let o = own v c.hear.new.place.me.0 key c.requires.reads.at.board.shape c.args.link c.hear.result c.hear.ensures.heard c.requires.reads.at.manned.speaks c.requires.reads.at.below c.requires.reads.at.own c.requires.reads.long in
          subst (λ (z : Lists Contents × ℕ). IsHeard key v.pick (hop_at key.dims c.args.link) z.0 (bit_or c.args.ear.now.marks c.hear.result) z.1) (λ k. (sym o k, sym c.saturating_add-ear.ensures k))
          (heard_marks key c.requires.reads.at.board.shape v.pick c.args.link c.requires.reads.at.below c.requires.reads.at.own (own_logs v) c.requires.reads.long c.hear.result c.args.ear.now.marks c.args.ear.now.hears c.requires.reads.ear));
      here = c.hear.ensures.heard ∙ ap (with_logs v) (sym (own v c.hear.new.place.me.0 key c.requires.reads.at.board.shape c.args.link c.hear.result c.hear.ensures.heard c.requires.reads.at.manned.speaks c.requires.reads.at.below c.requires.reads.at.own c.requires.reads.long));
      others = (let key : Shape = c.args.top.now.key in let v : TableView = c.args.place.now.me.0 in
          let o = own v c.hear.new.place.me.0 key c.requires.reads.at.board.shape c.args.link c.hear.result c.hear.ensures.heard c.requires.reads.at.manned.speaks c.requires.reads.at.below c.requires.reads.at.own c.requires.reads.long in
          subst (KeepsOtherLinks key v.pick c.args.link (own_logs v)) (sym o) (heard_elsewhere key c.requires.reads.at.board.shape v.pick c.args.link c.requires.reads.at.below c.requires.reads.at.own (own_logs v) c.requires.reads.long c.hear.result));
    }

pub returns-then-ear-end-clause-seen : goal.returns-then-ear-end-clause-seen
returns-then-ear-end-clause-seen g c = ap (λ (i : InLog Contents). i.seen) (at c.args.place.now.me.0 c.hear.new.place.me.0 c.args.top.now.key c.requires.reads.at.board.shape c.args.link c.hear.result c.hear.ensures.heard c.requires.reads.at.manned.speaks c.requires.reads.at.below c.requires.reads.at.own c.requires.reads.long)

pub returns-then-ear-end-clause-taken : goal.returns-then-ear-end-clause-taken
returns-then-ear-end-clause-taken g c = ap (λ (i : InLog Contents). i.taken) (at c.args.place.now.me.0 c.hear.new.place.me.0 c.args.top.now.key c.requires.reads.at.board.shape c.args.link c.hear.result c.hear.ensures.heard c.requires.reads.at.manned.speaks c.requires.reads.at.below c.requires.reads.at.own c.requires.reads.long)

pub returns-then-ear-end-clause-look_ins : goal.returns-then-ear-end-clause-look_ins
returns-then-ear-end-clause-look_ins g c = ap (λ (i : InLog Contents). i.look_ins) (at c.args.place.now.me.0 c.hear.new.place.me.0 c.args.top.now.key c.requires.reads.at.board.shape c.args.link c.hear.result c.hear.ensures.heard c.requires.reads.at.manned.speaks c.requires.reads.at.below c.requires.reads.at.own c.requires.reads.long)

pub returns-then-ear-end-clause-more : goal.returns-then-ear-end-clause-more
returns-then-ear-end-clause-more g c =
    let h = ap (λ (i : InLog Contents). i.hears) (at c.args.place.now.me.0 c.hear.new.place.me.0 c.args.top.now.key c.requires.reads.at.board.shape c.args.link c.hear.result c.hear.ensures.heard c.requires.reads.at.manned.speaks c.requires.reads.at.below c.requires.reads.at.own c.requires.reads.long) in omega arith

pub returns-then-ear-end-clause-due : goal.returns-then-ear-end-clause-due
returns-then-ear-end-clause-due g c _ =
    let i : InLog Contents = in_of (own_logs c.args.place.now.me.0) c.args.link in
    let a = at c.args.place.now.me.0 c.hear.new.place.me.0 c.args.top.now.key c.requires.reads.at.board.shape c.args.link c.hear.result c.hear.ensures.heard c.requires.reads.at.manned.speaks c.requires.reads.at.below c.requires.reads.at.own c.requires.reads.long in
    let e : suc (listens i) ≡ listens (in_of (own_logs c.hear.new.place.me.0) c.args.link) = (let h = ap (λ (i : InLog Contents). i.hears) a in let k = ap (λ (i : InLog Contents). i.look_ins) a in omega arith) in
    let hs : c.args.ear.now.hears ≡ saturated_count i.hears = c.requires.reads.ear.heard c.args.link c.requires.reads.at.below c.requires.reads.at.own refl in
    let low = c.requires.reads.end.noted_before in
    subst (λ (z : ℕ). RoseOrFull (noted_by c.args.end.now.noted i) (saturated_count z)) e (rises c.args.end.now.noted i low)

pub returns-then-ear-end-clause-heard : goal.returns-then-ear-end-clause-heard
returns-then-ear-end-clause-heard g c m inside mine hop =
    let key : Shape = c.args.top.now.key in let l : ℕ = c.args.link in let x : Lists Contents = own_logs c.args.place.now.me.0 in
    let i : InLog Contents = in_of x l in
    let none = bit_unset c.args.ear.now.marks ((wiring key).bit l) c.args.wire.now.mask c.requires.reads.wire.mask_is c.if-ear-wire-eq0.true in
    let unmarked : i.marked ≡ false = c.requires.reads.ear.marked l c.requires.reads.at.below c.requires.reads.at.own refl ∙ ap (λ (z : ℕ). eqb z 1) none in
    let hs : c.args.ear.now.hears ≡ saturated_count i.hears = c.requires.reads.ear.heard l c.requires.reads.at.below c.requires.reads.at.own refl in
    let o = own c.args.place.now.me.0 c.hear.new.place.me.0 key c.requires.reads.at.board.shape l c.hear.result c.hear.ensures.heard c.requires.reads.at.manned.speaks c.requires.reads.at.below c.requires.reads.at.own c.requires.reads.long in
    heard_where (in_of x m) (in_of (own_logs c.hear.new.place.me.0) m) (bit_at c.hear.result ((wiring key).bit m)) (is_due c.args.end.now.noted i)
    (due c.args.end.now.noted i unmarked (let t = c.if-ear-end.true in omega arith))
    (bit_at-lt c.hear.result ((wiring key).bit m))
    (ap (λ (z : Lists Contents). in_of z m) o ∙ heard_at key c.requires.reads.at.board.shape c.args.place.now.me.0.pick l c.requires.reads.at.below c.requires.reads.at.own x c.requires.reads.long c.hear.result m inside mine hop)

pub returns-else-ear-wire-eq0-clause-due : goal.returns-else-ear-wire-eq0-clause-due
returns-else-ear-wire-eq0-clause-due g c unmarked =
    let i : InLog Contents = in_of (own_logs c.args.place.now.me.0) c.args.link in
    let hs : c.args.ear.now.hears ≡ saturated_count i.hears = c.requires.reads.ear.heard c.args.link c.requires.reads.at.below c.requires.reads.at.own refl in
    elim c.else-ear-wire-eq0.branch [
      | else-ear-wire-eq0-via-then-ear-wire-eq0+else-ear-end w ↦ rose c.args.end.now.noted i (let t = w.if-ear-end.false in omega arith)
      | else-ear-wire-eq0-via-else-ear-wire-eq0 w ↦
          let b = c.requires.reads.ear.marked c.args.link c.requires.reads.at.below c.requires.reads.at.own refl in
          let one = bit_set c.args.ear.now.marks ((wiring c.args.top.now.key).bit c.args.link) c.args.wire.now.mask c.requires.reads.wire.mask_is w.if-ear-wire-eq0.false in
          let m : (in_of (own_logs c.args.place.now.me.0) c.args.link).marked ≡ true = b ∙ eq-eqb _ 1 one in
          let no : true ≡ false = sym m ∙ unmarked in absurd cc
    ]

pub returns-else-ear-wire-eq0-clause-heard : goal.returns-else-ear-wire-eq0-clause-heard
returns-else-ear-wire-eq0-clause-heard g c m inside mine hop =
    let i : InLog Contents = in_of (own_logs c.args.place.now.me.0) c.args.link in
    let hs : c.args.ear.now.hears ≡ saturated_count i.hears = c.requires.reads.ear.heard c.args.link c.requires.reads.at.below c.requires.reads.at.own refl in
    heard_nowhere (in_of (own_logs c.args.place.now.me.0) m) (in_of (own_logs c.args.place.now.me.0) m) (is_due c.args.end.now.noted i)
    (elim c.else-ear-wire-eq0.branch [
      | else-ear-wire-eq0-via-then-ear-wire-eq0+else-ear-end w ↦ not_due_heard c.args.end.now.noted i (let t = w.if-ear-end.false in omega arith)
      | else-ear-wire-eq0-via-else-ear-wire-eq0 w ↦
          let one = bit_set c.args.ear.now.marks ((wiring c.args.top.now.key).bit c.args.link) c.args.wire.now.mask c.requires.reads.wire.mask_is w.if-ear-wire-eq0.false in
          not_due_marked c.args.end.now.noted i (c.requires.reads.ear.marked c.args.link c.requires.reads.at.below c.requires.reads.at.own refl ∙ eq-eqb _ 1 one)
    ]) refl
