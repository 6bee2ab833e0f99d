use Rattle.std.proofs.Common.{rules, arith, refl, subst}
use Rattle.link_slots.specs.Shape.{Shape}
use Rattle.link_slots.specs.WordSteps.{spare_brought}
use Rattle.link_slots.proofs.HeldSeats.{manned_brought}
use Rattle.link_slots.proofs.Tells as tells
use Rattle.link_slots.proofs.table.steps.bring_spare.Goals as goal

pub load-requires : goal.load-requires
load-requires g c = let b = c.requires.at.board in (
  c.requires.at.here,
  (let e = b.words in let h = c.requires.at.below in omega arith),
  tells.bring_spare g.row.CAP c.args.top.now.key b.shape c.args.top.now.table_id.slots b.slots c.args.place.now.id c.args.link c.args.place.now.me c.requires.at.manned c.requires.at.below c.requires.at.own c.requires.room,
)

pub returns-clause-front : goal.returns-clause-front
returns-clause-front g c = subst (λ (z : Shape). spare_brought g.row.CAP z c.args.link c.args.place.now.me c.load.new.seat.me) c.requires.at.manned.of (c.load.ensures.2 c.args.link refl)

pub returns-clause-stays : goal.returns-clause-stays
returns-clause-stays g c = record {
  table = search rules;
  seat =
      let f = subst (λ (z : Shape). spare_brought g.row.CAP z c.args.link c.args.place.now.me c.load.new.seat.me) c.requires.at.manned.of (c.load.ensures.2 c.args.link refl) in
      manned_brought c.args.top.now.key c.args.place.now.me c.load.new.seat.me c.requires.at.manned _ f.3 f.4;
}
