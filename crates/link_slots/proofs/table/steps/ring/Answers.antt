use Rattle.std.proofs.Common.{rules, ◌≡◌, arith, ap, ◌∙◌, sym, subst}
use Rattle.atomic_table.specs.Table.{Me}
use Rattle.item_buffer.specs.Contents.{Contents}
use Rattle.link_slots.specs.WordSteps.{TableView, HoldsSeat, rung}
use Rattle.link_slots.proofs.HeldSeats.{manned_with}
use Rattle.link_slots.proofs.Tells as tells
use Rattle.link_slots.proofs.table.steps.ring.Goals as goal

pub load-requires : goal.load-requires
load-requires g c = let b = c.requires.at.board in (
  c.requires.at.here,
  (let e = b.words in let h = (tells.rings c.args.top.now.key b.shape c.args.link c.requires.at.below) in let q = c.requires.bell.0 in omega arith),
  tells.look_before_ring g.row.CAP c.args.top.now.key b.shape c.args.top.now.table_id.slots b.slots c.args.place.now.id c.args.link c.args.place.now.me c.args.word c.requires.bell.0 c.requires.at.manned c.requires.at.below c.requires.at.own,
)

pub fetch_or-requires : goal.fetch_or-requires
fetch_or-requires g c =
    let b = c.requires.at.board in
    let same : c.load.new.seat.me ≡ c.args.place.now.me = tells.not_yet_rung g.row.CAP c.args.top.now.key c.args.link c.args.place.now.me c.args.word c.args.mask c.args.top.now.table_id.slots c.load.result c.load.new.seat.me c.requires.at.manned c.requires.at.below c.requires.at.own c.requires.bell.0 c.requires.bell.1 c.load.ensures.2 c.if-load-mask-eq0.true in (
      c.load.ensures.0 ∙ c.requires.at.here,
      (let e = b.words in let h = (tells.rings c.args.top.now.key b.shape c.args.link c.requires.at.below) in let q = c.requires.bell.0 in omega arith),
      tells.ring g.row.CAP c.args.top.now.key b.shape c.args.top.now.table_id.slots b.slots c.load.new.seat.id c.args.link c.load.new.seat.me c.args.word c.args.mask c.requires.bell.0 c.requires.bell.1 (subst (HoldsSeat c.args.top.now.key) (sym same) c.requires.at.manned) c.requires.at.below
          (c.requires.at.own ∙ ap (λ (z : Me Contents TableView). z.0.pick) (sym same)),
    )

pub returns-then-load-mask-eq0-clause-rung : goal.returns-then-load-mask-eq0-clause-rung
returns-then-load-mask-eq0-clause-rung g c =
    let f : rung g.row.CAP c.args.top.now.key c.args.link c.args.place.now.me c.fetch_or.new.seat.me = tells.rung_after_look g.row.CAP c.args.top.now.key c.args.link c.args.place.now.me c.args.word c.args.mask c.args.top.now.table_id.slots c.load.result c.load.new.seat.me c.requires.at.manned c.requires.at.below c.requires.at.own c.requires.bell.0 c.requires.bell.1 c.load.ensures.2 c.if-load-mask-eq0.true c.fetch_or.result c.fetch_or.new.seat.me c.fetch_or.ensures.2 in
    ap (λ (z : Me Contents TableView). z.0) f.0

pub returns-then-load-mask-eq0-clause-stays : goal.returns-then-load-mask-eq0-clause-stays
returns-then-load-mask-eq0-clause-stays g c = record {
  table = search rules;
  seat =
      let f : rung g.row.CAP c.args.top.now.key c.args.link c.args.place.now.me c.fetch_or.new.seat.me = tells.rung_after_look g.row.CAP c.args.top.now.key c.args.link c.args.place.now.me c.args.word c.args.mask c.args.top.now.table_id.slots c.load.result c.load.new.seat.me c.requires.at.manned c.requires.at.below c.requires.at.own c.requires.bell.0 c.requires.bell.1 c.load.ensures.2 c.if-load-mask-eq0.true c.fetch_or.result c.fetch_or.new.seat.me c.fetch_or.ensures.2 in
      manned_with c.args.top.now.key c.args.place.now.me c.fetch_or.new.seat.me c.requires.at.manned _ (ap (λ (z : Me Contents TableView). z.0) f.0) f.1;
}

pub returns-else-load-mask-eq0-clause-rung : goal.returns-else-load-mask-eq0-clause-rung
returns-else-load-mask-eq0-clause-rung g c =
    let f : rung g.row.CAP c.args.top.now.key c.args.link c.args.place.now.me c.load.new.seat.me = tells.rung_by_look g.row.CAP c.args.top.now.key c.args.link c.args.place.now.me c.args.word c.args.mask c.args.top.now.table_id.slots c.load.result c.load.new.seat.me c.requires.at.manned c.requires.at.below c.requires.at.own c.requires.bell.0 c.requires.bell.1 c.load.ensures.2 c.if-load-mask-eq0.false in
    ap (λ (z : Me Contents TableView). z.0) f.0

pub returns-else-load-mask-eq0-clause-stays : goal.returns-else-load-mask-eq0-clause-stays
returns-else-load-mask-eq0-clause-stays g c = record {
  table = search rules;
  seat =
      let f : rung g.row.CAP c.args.top.now.key c.args.link c.args.place.now.me c.load.new.seat.me = tells.rung_by_look g.row.CAP c.args.top.now.key c.args.link c.args.place.now.me c.args.word c.args.mask c.args.top.now.table_id.slots c.load.result c.load.new.seat.me c.requires.at.manned c.requires.at.below c.requires.at.own c.requires.bell.0 c.requires.bell.1 c.load.ensures.2 c.if-load-mask-eq0.false in
      manned_with c.args.top.now.key c.args.place.now.me c.load.new.seat.me c.requires.at.manned _ (ap (λ (z : Me Contents TableView). z.0) f.0) f.1;
}
