use Rattle.std.proofs.Common.{take_all, rules, arith, ◌≡◌, ℕ, refl, sym, ap, ◌∙◌, length, false, eqb}
use Rattle.item_buffer.specs.Contents.{Contents}
use Rattle.link_slots.specs.Logs.{InLog, in_of}
use Rattle.link_slots.specs.View.{own_logs}
use Rattle.link_slots.specs.Shape.{wiring}
use Rattle.list_laws.specs.Counts.{saturated_count}
use Rattle.link_slots.specs.Doorbell.{is_due}
use Rattle.link_slots.proofs.Due.{not_due_heard, heard_nowhere, looked_for, unmarked_same}
use Rattle.link_slots.proofs.Hearing.{bit_unset}
use Rattle.link_slots.proofs.seat.collect.collect_on.Goals as goal

pub returns-then-ear-end-clause-collects : goal.returns-then-ear-end-clause-collects
returns-then-ear-end-clause-collects g c =
    record {
      good = search rules;
      seen = take_all (length (in_of (own_logs c.args.place.now.me.0) c.args.link).seen) (in_of (own_logs c.args.place.now.me.0) c.args.link).seen (omega arith);
      more = search rules;
      noted = search rules;
      taken = search rules;
      parcel = search rules;
      own = search rules;
      not_taken = search rules;
      none_known = search rules;
      unmarked = λ _.
          let none = bit_unset c.args.ear.now.marks ((wiring c.args.top.now.key).bit c.args.link) c.args.wire.now.mask c.requires.reads.wire.mask_is c.if-ear-wire-eq0.true in
          c.requires.reads.ear.marked c.args.link c.requires.reads.at.below c.requires.reads.at.own refl ∙ ap (λ (z : ℕ). eqb z 1) none;
      listened = search rules;
      kept = search rules;
      at_hand = search rules;
      no_looking = search rules;
      heard = search rules;
      looked = λ _.
          let i : InLog Contents = in_of (own_logs c.args.place.now.me.0) c.args.link in
          let hs : c.args.ear.now.hears ≡ saturated_count i.hears = c.requires.reads.ear.heard c.args.link c.requires.reads.at.below c.requires.reads.at.own refl in
          let none = bit_unset c.args.ear.now.marks ((wiring c.args.top.now.key).bit c.args.link) c.args.wire.now.mask c.requires.reads.wire.mask_is c.if-ear-wire-eq0.true in
          let unmarked : i.marked ≡ false = c.requires.reads.ear.marked c.args.link c.requires.reads.at.below c.requires.reads.at.own refl ∙ ap (λ (z : ℕ). eqb z 1) none in
          looked_for c.args.end.now.noted i i i i.seen
          (heard_nowhere i i (is_due c.args.end.now.noted i) (not_due_heard c.args.end.now.noted i (let t = c.if-ear-end.true in omega arith)) refl)
          (sym (unmarked_same i unmarked));
    }
