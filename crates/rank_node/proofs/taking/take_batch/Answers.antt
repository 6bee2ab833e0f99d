use Rattle.std.proofs.Common.{length, sym}
use Rattle.std.proofs.lemmas.List.{length-map}
use Rattle.hop_core.specs.State.{State, in_at}
use Rattle.rank_node.specs.Batches.{unread_items_on}
use Rattle.rank_node.proofs.Took.{takes_batch}
use Rattle.rank_node.proofs.taking.take_batch.Goals as goal

pub returns-clause-takes : goal.returns-clause-takes
returns-clause-takes g c =
    let st : State = c.args.conveyor.now in
    let all = takes_batch g.Q.Program.rules g.met.Q.Program.laws c.args.voting st c.pull_all.new.self (length (in_at st c.args.number).parcel.untaken) c.args.prog.now.value c.take_unread-taken.new.prog.value
    (unread_items_on st c.args.number) c.args.taken.sum c.take_unread-taken.result.sum c.args.taken.spoiled c.take_unread-taken.result.spoiled c.requires.begun
    (sym (length-map (in_at st c.args.number).parcel.untaken _)) c.pull_all.ensures.state c.take_unread-taken.ensures.some c.take_unread-taken.ensures.gives c.take_unread-taken.ensures.takes in
    all.0

pub returns-clause-less : goal.returns-clause-less
returns-clause-less g c =
    let st : State = c.args.conveyor.now in
    let all = takes_batch g.Q.Program.rules g.met.Q.Program.laws c.args.voting st c.pull_all.new.self (length (in_at st c.args.number).parcel.untaken) c.args.prog.now.value c.take_unread-taken.new.prog.value
    (unread_items_on st c.args.number) c.args.taken.sum c.take_unread-taken.result.sum c.args.taken.spoiled c.take_unread-taken.result.spoiled c.requires.begun
    (sym (length-map (in_at st c.args.number).parcel.untaken _)) c.pull_all.ensures.state c.take_unread-taken.ensures.some c.take_unread-taken.ensures.gives c.take_unread-taken.ensures.takes in
    all.1
