-- A push toward one rank leaves it possible to push toward others.
use Rattle.std.proofs.Common.{ℕ, ◌<◌, Bool, true, false, List, sym, ap, subst, ◌∙◌, refl}
use Rattle.bale_items.specs.declared.item.Item.{Item}
use Rattle.route_tensor.specs.Grid.{ranks}
use Rattle.hop_core.specs.State.{State}
use Rattle.exstack.specs.State.{Stack}
use Rattle.rank_node.specs.Pushes.{MayPush, AfterConveyorPush, MayFill, FillsOne}

pub push_stays : (cap : ℕ) (s t : State) (to other : ℕ) (x : Item) (accepted : Bool) → AfterConveyorPush cap s to x accepted t
    → MayPush s other → MayPush t other
push_stays cap s t to other x accepted p m =
    record {
      low = subst (λ (d : List ℕ). other < ranks d) (sym (ap (λ (c : State). c.dims) p.same)) m.low;
      working = ap (λ (c : State). c.phase) p.same ∙ m.working;
      not_done = ap (λ (c : State). c.done) p.same ∙ m.not_done;
    }

pub fill_stays : (cap : ℕ) (s t : Stack) (to other : ℕ) (x : Item) (accepted : Bool) → FillsOne cap s to x accepted t
    → MayFill s other → MayFill t other
fill_stays cap s t to other x true p m =
    let is = p.pushed refl in
    record {
      low = subst (λ n. other < n) (sym (ap (λ (c : Stack). c.ranks) is)) m.low;
      filling = ap (λ (c : Stack). c.stage) is ∙ m.filling;
      not_done = ap (λ (c : Stack). c.done) is ∙ m.not_done;
    }
fill_stays cap s t to other x false p m =
    let is = p.unpushed refl in
    record {
      low = subst (λ n. other < n) (sym (ap (λ (c : Stack). c.ranks) is)) m.low;
      filling = ap (λ (c : Stack). c.stage) is ∙ m.filling;
      not_done = ap (λ (c : Stack). c.done) is ∙ m.not_done;
    }
