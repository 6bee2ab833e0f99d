use Rattle.std.proofs.Common.{◌≡◌, ◌+◌, ◌<◌, ◌++◌, ℕ, List, length, get_or, arith, sym, ap, ◌∙◌, subst}
use Rattle.std.proofs.lemmas.List.{length-set}
use Rattle.std.proofs.lemmas.Option.{slice_get-get_or}
use Rattle.bale_items.specs.declared.item.Entry.{Entry}
use Rattle.port_bank.specs.Machine.Step.{Pull}
use Rattle.route_tensor.specs.Neighbour.{neighbour}
use Rattle.route_tensor.specs.Tag.{sender_of}
use Rattle.hop_core.specs.State.{State, in_at, pulls}
use Rattle.rank_handles.specs.Many.{steps_of, then_idle}
use Rattle.rank_handles.specs.RankAtBank.{RunOf}
use Rattle.rank_handles.proofs.Runs.{run_next, past_set}
use Rattle.rank_handles.proofs.many.copy_batch.Goals as goal

pub loop-at-preserved : goal.loop-at-preserved
loop-at-preserved g c =
    let n : ℕ = c.args.start in let k : ℕ = c.loop-at.at in let items = c.loop-at.items in let from : List ℕ = c.loop-at.from in let x = c.bale_item_from.result in let r : ℕ = c.sender_in.result in
    let inv = c.loop-at.invariant in let st : State = c.args.conveyor.now in let entries : List Entry = c.batch-entries.result.now in
    let there : length entries ≡ length (in_at st c.args.number).parcel.untaken = ap length c.batch-entries.ensures.value in
    let inside : k < length entries = omega (arith, c.loop-at-test.true, c.requires.there, there) in
    let e : Entry = get_or entries k (record { tag = record { d1 = 0; d2 = 0; d3 = 0 }; item = record { a = 0; b = 0; c = 0 } }) in
    let place : n + k < length items = omega (arith, c.loop-at-test.true, c.requires.room, inv.1) in
    let place' : n + k < length from = omega (arith, place, inv.2) in
    let sets = length-set items (n + k) x in let sets' = length-set from (n + k) r in (
      omega (arith, c.loop-at-test.true),
      sets ∙ inv.1,
      sets' ∙ (inv.2 ∙ sym sets),
      past_set n k items c.args.items.now x inv.3,
      past_set n k from c.args.from.now r inv.4,
      λ a run. run_next n k items from x (sender_of st.dims e.tag (length st.dims) (neighbour st.dims st.rank c.args.number)) r e.item a st place place' (inv.5 a run)
          (c.batch-entries.ensures.gives k e (slice_get-get_or entries k (record { tag = record { d1 = 0; d2 = 0; d3 = 0 }; item = record { a = 0; b = 0; c = 0 } }) inside)) c.bale_item_from.ensures c.sender_in.ensures,
    )

pub returns-clause-pulled : goal.returns-clause-pulled
returns-clause-pulled g c = λ a run.
    let all : c.loop-at.at ≡ c.args.count = omega (arith, c.loop-at.invariant.0, c.loop-at-test.false) in
    subst (λ m. RunOf (steps_of Pull (c.args.start + m) c.loop-at.items c.loop-at.from ++ then_idle m 1) a (pulls m c.args.conveyor.now)) all (c.loop-at.invariant.5 a run)
