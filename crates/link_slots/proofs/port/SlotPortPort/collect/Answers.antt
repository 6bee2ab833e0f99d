use Rattle.port_bank.specs.Calls.{calls_of}
use Rattle.link_slots.proofs.Ported.{port_collects}
use Rattle.link_slots.proofs.port.SlotPortPort.collect.Goals as goal

pub returns-clause-collects : goal.returns-clause-collects
returns-clause-collects g c =
    let e = c.collect.ensures in
    port_collects g.row.CAP c.args.self.now.seat c.collect.new.self c.args.link c.args.p.now c.collect.new.parcel c.collect.result (calls_of c.args.self.now.calls.value) (calls_of c.note_collect.new.calls.value)
    e.collects e.does c.note_collect.ensures
