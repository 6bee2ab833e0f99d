use Rattle.std.proofs.Common.{◌≡◌, ◌<◌, ◌++◌, ◌∷◌, [], ℕ, List, length, get_or, arith, sym, ap, ◌∙◌, subst, true}
use Rattle.std.proofs.lemmas.Bool.{ltb-true}
use Rattle.bale_items.specs.declared.item.Item.{Item}
use Rattle.route_tensor.specs.Grid.{ranks}
use Rattle.port_bank.specs.Machine.{Step}
use Rattle.port_bank.specs.Machine.Step.{Push}
use Rattle.hop_core.specs.State.{State}
use Rattle.rank_handles.specs.Many.{steps_of, all_ranks}
use Rattle.rank_handles.specs.RankAtBank.{RunOf}
use Rattle.rank_handles.proofs.Runs.{run_zero, run_more, run_stopped, push_same, steps_plus, rank_at}
use Rattle.rank_handles.proofs.many.push_while_room.Goals as goal

pub loop-count-init : goal.loop-count-init
loop-count-init g c = (omega arith, run_zero Push c.args.items.now c.args.to.now c.args.conveyor.now)

pub push-requires : goal.push-requires
push-requires g c =
    let inv = c.loop-count.invariant in let to : List ℕ = c.args.to.now in let n : ℕ = c.loop-count.count in
    let inside : n < length c.args.items.now = c.loop-count-test.true in let same : length to ≡ length c.args.items.now = c.requires.same in let at : n < length to = omega (arith, inside, same) in (
      omega arith,
      (
        ap (λ (z : State). z.phase) inv.1.same ∙ c.requires.working,
        (
          ap (λ (z : State). z.done) inv.1.same ∙ c.requires.not_done,
          ltb-true (get_or to n 0) (ranks c.loop-count.conveyor.dims) (rank_at (ranks c.loop-count.conveyor.dims) to n at
              (subst (λ (ds : List ℕ). all_ranks (ranks ds) to ≡ true) (sym (ap (λ (z : State). z.dims) inv.1.same)) c.requires.ranks)),
        ),
      ),
    )

pub loop-count-preserved : goal.loop-count-preserved
loop-count-preserved g c =
    let n : ℕ = c.loop-count.count in let items = c.args.items.now in let to : List ℕ = c.args.to.now in let a : State = c.args.conveyor.now in let d : State = c.push.new.self in
    let inside : n < length items = c.loop-count-test.true in let same : length to ≡ length items = c.requires.same in let at : n < length to = omega (arith, inside, same) in
    let more = run_more (steps_of Push n items to) (Push (get_or to n 0) c.item_from-item.result) a c.loop-count.conveyor d c.loop-count.invariant.1 (c.push.ensures.accepted c.in-Accepted.is).step c.push.ensures.kept
    (push_same c.loop-count.conveyor d c.push.ensures.same) in (
      omega (arith, inside),
      subst (λ (l : List Step). RunOf l a d) (ap (λ (i : Item). steps_of Push n items to ++ Push (get_or to n 0) i ∷ []) c.item_from-item.ensures ∙ sym (steps_plus Push n items to (record { a = 0; b = 0; c = 0 }) 0 inside at)) more,
    )

pub returns-in-Full-clause-pushed : goal.returns-in-Full-clause-pushed
returns-in-Full-clause-pushed g c =
    let n : ℕ = c.loop-count.count in
    run_stopped (steps_of Push n c.args.items.now c.args.to.now) n (length c.args.items.now) c.args.conveyor.now c.loop-count.conveyor c.push.new.self c.loop-count-test.true c.loop-count.invariant.1
    (c.push.ensures.full c.in-Full.is).step c.push.ensures.kept (push_same c.loop-count.conveyor c.push.new.self c.push.ensures.same)
