use Rattle.std.proofs.Common.{rules, arith, refl, subst}
use Rattle.link_slots.specs.Shape.{Shape}
use Rattle.link_slots.specs.WordSteps.{looked_in}
use Rattle.link_slots.proofs.HeldSeats.{manned_with}
use Rattle.link_slots.proofs.Tells as tells
use Rattle.link_slots.proofs.table.steps.look_in.Goals as goal

pub load-requires : goal.load-requires
load-requires g c = let b = c.requires.at.board in (
  c.requires.at.here,
  (let e = b.words in let h = c.requires.at.below in omega arith),
  tells.look g.row.CAP c.args.top.now.key b.shape c.args.top.now.table_id.slots b.slots c.args.place.now.id c.args.link c.args.place.now.me c.requires.at.manned c.requires.at.below c.requires.at.own c.requires.marked,
)

pub returns-clause-found : goal.returns-clause-found
returns-clause-found g c = subst (λ (z : Shape). looked_in g.row.CAP z c.args.link c.args.place.now.me c.load.result c.load.new.seat.me) c.requires.at.manned.of (c.load.ensures.2 c.args.link refl)

pub returns-clause-stays : goal.returns-clause-stays
returns-clause-stays g c = record {
  table = search rules;
  seat =
      let f = subst (λ (z : Shape). looked_in g.row.CAP z c.args.link c.args.place.now.me c.load.result c.load.new.seat.me) c.requires.at.manned.of (c.load.ensures.2 c.args.link refl) in
      manned_with c.args.top.now.key c.args.place.now.me c.load.new.seat.me c.requires.at.manned _ f.4 f.5;
}
