use Rattle.std.proofs.Common.{◌∙◌, [], true, ap, sym, subst, rules, arith}
use Rattle.std.proofs.lemmas.List.{get_or-set_other}
use Rattle.std.specs.Prelude.{slice_index_or}
use Rattle.item_buffer.specs.Contents.{Contents}
use Rattle.route_tensor.specs.Link.{links}
use Rattle.port_bank.specs.Logs.{Logs}
use Rattle.link_slots.specs.Gathering.{Gathering}
use Rattle.link_slots.specs.Shape.{shipped_all}
use Rattle.link_slots.specs.SeatView.{posted_on, collected_from}
use Rattle.link_slots.proofs.Opening.{no_sent, no_got}
use Rattle.convey.specs.Conveyors.{AgreesWith}
use Rattle.count_instructions.proofs.slots.sides_of.Goals as goal

pub loop-rank-preserved : goal.loop-rank-preserved
loop-rank-preserved g c =
    let k = c.loop-rank.invariant in
    let same = c.seat.ensures.gather in
    record {
      same_id = ap (λ (x : Gathering). x.id) same ∙ k.same_id;
      same_shape = ap (λ (x : Gathering). x.shape) same ∙ k.same_shape;
      left = λ j low high.
          ap (λ (x : Gathering). slice_index_or x.given j true) same
          ∙ (get_or-set_other _ c.loop-rank.rank j true true (omega (arith, low)) ∙ k.left j (omega (arith, low)) high);
    }

pub invariant_of-at : goal.invariant_of-at
invariant_of-at g c =
    let made = c.port-port.ensures.seat ∙ c.seat.ensures.seat in
    let none = links c.args.bank.now.shape.dims in
    let sent = ap posted_on made ∙ ap shipped_all (no_sent Contents none) in
    let got = ap collected_from made ∙ ap shipped_all (no_got Contents none) in (
      search rules,
      search rules,
      subst (λ (a : Logs). AgreesWith c.in_ok-side.side.conveyor a (collected_from c.port-port.result.seat)) (sym sent)
          (subst (λ (b : Logs). AgreesWith c.in_ok-side.side.conveyor (λ l. []) b) (sym got) c.in_ok-side.ensures.starts.agrees),
    )
