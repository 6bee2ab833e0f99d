use Rattle.port_bank.specs.Calls.{calls_of}
use Rattle.link_slots.proofs.Ported.{port_posts}
use Rattle.link_slots.proofs.port.SlotPortPort.post.Goals as goal

pub returns-clause-posts : goal.returns-clause-posts
returns-clause-posts g c =
    let e = c.post.ensures in
    port_posts c.args.self.now.seat c.post.new.self c.args.link c.args.p.now c.post.new.parcel c.post.result (calls_of c.args.self.now.calls.value) (calls_of c.note_post.new.calls.value) e.here e.link
    e.long e.parcel.0 e.room_is e.within e.parcel.1 c.note_post.ensures
