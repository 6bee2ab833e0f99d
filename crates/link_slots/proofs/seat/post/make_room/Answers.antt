use Rattle.std.proofs.Common.{arith, refl, sym, ap, ◌∙◌}
use Rattle.item_buffer.specs.Contents.{Contents}
use Rattle.link_slots.specs.Logs.{OutLog, with_out}
use Rattle.link_slots.specs.View.{own_logs, with_logs}
use Rattle.link_slots.proofs.HeldSeats.{out_after, same_logs, same_out}
use Rattle.link_slots.proofs.Counting.{end_looked}
use Rattle.link_slots.proofs.seat.post.make_room.Goals as goal

pub returns-then-end-eq0-clause-left : goal.returns-then-end-eq0-clause-left
returns-then-end-eq0-clause-left g c =
    let v = c.args.place.now.me.0 in let l = c.args.link in
    let f = c.look_for_room-found.ensures.found in
    let e = out_after v c.look_for_room-found.new.place.me.0 c.requires.writes.at.manned.speaks l _ _ f.2 c.requires.writes.long in
    record {
      stays = c.look_for_room-found.ensures.stays;
      end = (let f = c.look_for_room-found.ensures.found in
          let e = out_after c.args.place.now.me.0 c.look_for_room-found.new.place.me.0 c.requires.writes.at.manned.speaks c.args.link _ _ f.2 c.requires.writes.long in
          end_looked c.args.top.now.key.slots _ _ _ _ c.look_for_room-found.result _ c.requires.writes.end f.0 f.1 (ap (λ (z : OutLog Contents). z.sent) e) (ap (λ (z : OutLog Contents). z.room) e) (let s = c.requires.writes.slots_are in omega arith));
      here = f.2 ∙ ap (λ (o : OutLog Contents). with_logs v (with_out (own_logs v) l o)) (sym e);
    }

pub returns-then-end-eq0-clause-all_room : goal.returns-then-end-eq0-clause-all_room
returns-then-end-eq0-clause-all_room g c none =
    let f = c.look_for_room-found.ensures.found in
    let e = out_after c.args.place.now.me.0 c.look_for_room-found.new.place.me.0 c.requires.writes.at.manned.speaks c.args.link _ _ f.2 c.requires.writes.long in
    let r = ap (λ (z : OutLog Contents). z.room) e in let h = f.0 in let k = f.1 in omega arith

pub returns-else-end-eq0-clause-left : goal.returns-else-end-eq0-clause-left
returns-else-end-eq0-clause-left g c =
    record {
      stays = record { table = refl; seat = c.requires.writes.at.manned };
      end = c.requires.writes.end;
      here = sym (ap (with_logs c.args.place.now.me.0) (same_out (own_logs c.args.place.now.me.0) c.args.link) ∙ same_logs c.args.place.now.me.0 c.requires.writes.at.manned.speaks);
    }

pub returns-then-end-eq0-clause-once : goal.returns-then-end-eq0-clause-once
returns-then-end-eq0-clause-once g c =
    let f = c.look_for_room-found.ensures.found in
    let e = out_after c.args.place.now.me.0 c.look_for_room-found.new.place.me.0 c.requires.writes.at.manned.speaks c.args.link _ _ f.2 c.requires.writes.long in
    let k = ap (λ (z : OutLog Contents). z.looks) e in omega arith
