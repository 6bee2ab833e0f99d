use Rattle.std.proofs.Common.{rules, arith, refl, ap}
use Rattle.atomic_table.specs.Table.{Me}
use Rattle.item_buffer.specs.Contents.{Contents}
use Rattle.link_slots.specs.Shape.{wiring}
use Rattle.link_slots.specs.WordSteps.{TableView, heard}
use Rattle.link_slots.proofs.HeldSeats.{manned_with}
use Rattle.link_slots.proofs.Tells as tells
use Rattle.link_slots.proofs.table.steps.hear.Goals as goal

pub swap-requires : goal.swap-requires
swap-requires g c = let b = c.requires.at.board in (
  c.requires.at.here,
  (let e = b.words in let h = (tells.rings c.args.top.now.key b.shape c.args.link c.requires.at.below) in let q = c.requires.bell in omega arith),
  tells.hear g.row.CAP c.args.top.now.key b.shape c.args.top.now.table_id.slots b.slots c.args.place.now.id c.args.link c.args.place.now.me c.args.word ((wiring c.args.top.now.key).bell c.args.link) c.requires.bell refl c.requires.at.manned c.requires.at.below c.requires.at.own,
)

pub returns-clause-heard : goal.returns-clause-heard
returns-clause-heard g c =
    let bell = (wiring c.args.top.now.key).bell c.args.link in
    let f : heard g.row.CAP c.args.top.now.key bell c.args.place.now.me c.swap.result c.swap.new.seat.me = tells.heard_is g.row.CAP c.args.top.now.key bell c.args.place.now.me c.args.word c.args.top.now.table_id.slots c.swap.result c.swap.new.seat.me c.requires.at.manned c.requires.bell c.swap.ensures.2 in
    ap (λ (z : Me Contents TableView). z.0) f.0

pub returns-clause-stays : goal.returns-clause-stays
returns-clause-stays g c = record {
  table = search rules;
  seat =
      let bell = (wiring c.args.top.now.key).bell c.args.link in
      let f : heard g.row.CAP c.args.top.now.key bell c.args.place.now.me c.swap.result c.swap.new.seat.me = tells.heard_is g.row.CAP c.args.top.now.key bell c.args.place.now.me c.args.word c.args.top.now.table_id.slots c.swap.result c.swap.new.seat.me c.requires.at.manned c.requires.bell c.swap.ensures.2 in
      manned_with c.args.top.now.key c.args.place.now.me c.swap.new.seat.me c.requires.at.manned _ (ap (λ (z : Me Contents TableView). z.0) f.0) f.1;
}
