use Rattle.std.proofs.Common.{arith, ◌≡◌, ℕ, suc, refl, sym, ap, subst, ◌∙◌, true, false, eqb, eq-eqb}
use Rattle.std.specs.Int.Bits.{bit_xor}
use Rattle.item_buffer.specs.Contents.{Contents}
use Rattle.route_tensor.specs.Ends.{hop_at}
use Rattle.link_slots.specs.Logs.{InLog, Lists, in_of, with_in}
use Rattle.link_slots.specs.View.{own_logs, with_logs}
use Rattle.link_slots.specs.Shape.{Shape, wiring}
use Rattle.link_slots.specs.WordSteps.{TableView}
use Rattle.link_slots.specs.Counts.{IsInEnd, IsHeard, KeepsOtherLinks}
use Rattle.link_slots.proofs.Moves.{own_with}
use Rattle.link_slots.proofs.HeldSeats.{in_after, same_in}
use Rattle.link_slots.proofs.Due.{unmarked_same, marked_once}
use Rattle.link_slots.proofs.Counting.{end_looked_in}
use Rattle.link_slots.proofs.Hearing.{bit_unset, bit_set, in_elsewhere, looked_marks}
use Rattle.link_slots.proofs.seat.collect.look_if_marked.Goals as goal

pub look_in-found-requires : goal.look_in-found-requires
look_in-found-requires g c =
    let one = bit_set c.args.ear.now.marks ((wiring c.args.top.now.key).bit c.args.link) c.args.wire.now.mask c.requires.reads.wire.mask_is c.if-ear-mask-ne0.true in
    (omega arith, (omega arith, (c.requires.reads.at, (c.requires.reads.ear.marked c.args.link c.requires.reads.at.below c.requires.reads.at.own refl ∙ eq-eqb _ 1 one))))

pub returns-then-ear-mask-ne0-clause-left : goal.returns-then-ear-mask-ne0-clause-left
returns-then-ear-mask-ne0-clause-left g c =
    let key : Shape = c.args.top.now.key in let v : TableView = c.args.place.now.me.0 in let v' : TableView = c.look_in-found.new.place.me.0 in let l : ℕ = c.args.link in
    let f = c.look_in-found.ensures.found in
    let i : InLog Contents = in_of (own_logs v) l in
    let i' : InLog Contents = record { seen = (in_of (own_logs v') l).seen; taken = i.taken; marked = false; hears = i.hears; heard = i.heard; look_ins = suc i.look_ins; released_at = i.released_at } in
    let own : own_logs v' ≡ with_in (own_logs v) l i' = ap own_logs f.4 ∙ own_with v (with_in (own_logs v) l i') c.requires.reads.at.manned.speaks in
    record {
      stays = c.look_in-found.ensures.stays;
      end = (let key : Shape = c.args.top.now.key in let v : TableView = c.args.place.now.me.0 in let v' : TableView = c.look_in-found.new.place.me.0 in let l : ℕ = c.args.link in
          let f = c.look_in-found.ensures.found in
          let at = in_after v v' c.requires.reads.at.manned.speaks l (own_logs v) _ f.4 (let w = c.requires.reads.long in let h = c.requires.reads.at.below in omega arith) in
          end_looked_in key.slots (in_of (own_logs v) l) (in_of (own_logs v') l) c.args.end.now.taken c.args.end.now.noted c.look_in-found.result _
          (subst (λ (z : ℕ). IsInEnd key.slots (in_of (own_logs v) l) c.args.end.now.taken z c.args.end.now.noted) c.requires.none c.requires.reads.end)
          (ap (λ (i : InLog Contents). i.taken) at) (ap (λ (i : InLog Contents). i.hears) at) f.0 f.1 (c.look_in-found.type_inv) refl);
      ear = (let key : Shape = c.args.top.now.key in let v : TableView = c.args.place.now.me.0 in let v' : TableView = c.look_in-found.new.place.me.0 in let l : ℕ = c.args.link in
          let f = c.look_in-found.ensures.found in
          let i : InLog Contents = in_of (own_logs v) l in
          let i' : InLog Contents = record { seen = (in_of (own_logs v') l).seen; taken = i.taken; marked = false; hears = i.hears; heard = i.heard; look_ins = suc i.look_ins; released_at = i.released_at } in
          let own : own_logs v' ≡ with_in (own_logs v) l i' = ap own_logs f.4 ∙ own_with v (with_in (own_logs v) l i') c.requires.reads.at.manned.speaks in
          let one = bit_set c.args.ear.now.marks ((wiring key).bit l) c.args.wire.now.mask c.requires.reads.wire.mask_is c.if-ear-mask-ne0.true in
          let marked : i.marked ≡ true = c.requires.reads.ear.marked l c.requires.reads.at.below c.requires.reads.at.own refl ∙ eq-eqb _ 1 one in
          subst (λ (z : Lists Contents × ℕ). IsHeard key v.pick (hop_at key.dims l) z.0 (bit_xor c.args.ear.now.marks z.1) c.args.ear.now.hears) (λ k. (sym own k, sym c.requires.reads.wire.mask_is k))
          (looked_marks key c.requires.reads.at.board.shape v.pick l c.requires.reads.at.below c.requires.reads.at.own (own_logs v) c.requires.reads.long i' refl refl c.args.ear.now.marks c.args.ear.now.hears c.requires.reads.ear marked));
      here = f.4 ∙ ap (with_logs v) (sym own);
      others = (let key : Shape = c.args.top.now.key in let v : TableView = c.args.place.now.me.0 in let v' : TableView = c.look_in-found.new.place.me.0 in let l : ℕ = c.args.link in
          let f = c.look_in-found.ensures.found in
          let i : InLog Contents = in_of (own_logs v) l in
          let i' : InLog Contents = record { seen = (in_of (own_logs v') l).seen; taken = i.taken; marked = false; hears = i.hears; heard = i.heard; look_ins = suc i.look_ins; released_at = i.released_at } in
          let own : own_logs v' ≡ with_in (own_logs v) l i' = ap own_logs f.4 ∙ own_with v (with_in (own_logs v) l i') c.requires.reads.at.manned.speaks in
          subst (KeepsOtherLinks key v.pick l (own_logs v)) (sym own) (in_elsewhere key c.requires.reads.at.board.shape v.pick l c.requires.reads.at.below c.requires.reads.at.own (own_logs v) c.requires.reads.long i'));
    }

pub returns-then-ear-mask-ne0-clause-looked : goal.returns-then-ear-mask-ne0-clause-looked
returns-then-ear-mask-ne0-clause-looked g c =
    let v : TableView = c.args.place.now.me.0 in let v' : TableView = c.look_in-found.new.place.me.0 in let l : ℕ = c.args.link in
    let i : InLog Contents = in_of (own_logs v) l in
    let i' : InLog Contents = record { seen = (in_of (own_logs v') l).seen; taken = i.taken; marked = false; hears = i.hears; heard = i.heard; look_ins = suc i.look_ins; released_at = i.released_at } in
    let one = bit_set c.args.ear.now.marks ((wiring c.args.top.now.key).bit l) c.args.wire.now.mask c.requires.reads.wire.mask_is c.if-ear-mask-ne0.true in
    let marked : i.marked ≡ true = c.requires.reads.ear.marked l c.requires.reads.at.below c.requires.reads.at.own refl ∙ eq-eqb _ 1 one in
    ap own_logs c.look_in-found.ensures.found.4 ∙ own_with v (with_in (own_logs v) l i') c.requires.reads.at.manned.speaks
    ∙ ap (with_in (own_logs v) l) (sym (marked_once (in_of (own_logs v') l).seen i marked))

pub returns-else-ear-mask-ne0-clause-unmarked : goal.returns-else-ear-mask-ne0-clause-unmarked
returns-else-ear-mask-ne0-clause-unmarked g c =
    let none = bit_unset c.args.ear.now.marks ((wiring c.args.top.now.key).bit c.args.link) c.args.wire.now.mask c.requires.reads.wire.mask_is c.if-ear-mask-ne0.false in
    c.requires.reads.ear.marked c.args.link c.requires.reads.at.below c.requires.reads.at.own refl ∙ ap (λ (z : ℕ). eqb z 1) none

pub returns-else-ear-mask-ne0-clause-looked : goal.returns-else-ear-mask-ne0-clause-looked
returns-else-ear-mask-ne0-clause-looked g c =
    let x : Lists Contents = own_logs c.args.place.now.me.0 in let l : ℕ = c.args.link in
    let none = bit_unset c.args.ear.now.marks ((wiring c.args.top.now.key).bit l) c.args.wire.now.mask c.requires.reads.wire.mask_is c.if-ear-mask-ne0.false in
    let unmarked : (in_of x l).marked ≡ false = c.requires.reads.ear.marked l c.requires.reads.at.below c.requires.reads.at.own refl ∙ ap (λ (z : ℕ). eqb z 1) none in
    sym (ap (with_in x l) (unmarked_same (in_of x l) unmarked) ∙ same_in x l)
