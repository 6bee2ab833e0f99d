use Rattle.link_slots.proofs.Settling.{settled}
use Rattle.link_slots.proofs.slot_bank.round.close_table.Goals as goal

pub returns : goal.returns
returns g c all =
    let f = c.close_with.ensures.values.2 in
    settled g.row.CAP c.args.board.shared.key f.0 c.args.place.id c.args.place.me.0 c.requires.board.shape f.1.0 f.1.1 all
