-- Items are pushed into an exstack.
use Rattle.std.proofs.Common.{◌≡◌, ℕ, ◌+◌, ◌<◌, ◌≤◌, true, false, List, [], ◌∷◌, length, slice_get, Option, Some, None, All, refl, sym, ap, subst, ◌∙◌, inl, inr, arith, get_or}
use Rattle.std.proofs.lemmas.Bool.{cases_Bool, cases_lt, true≢false}
use Rattle.bale_items.specs.declared.item.Item.{Item}
use Rattle.list_laws.proofs.Lists.{find, all_get}
use Rattle.route_tensor.specs.Grid.{ranks}
use Rattle.port_bank.specs.Logs.{Logs}
use Rattle.port_bank.specs.Machine.Step.{Push, Idle}
use Rattle.exstack.specs.declared.stage.Stage.TheVariants.{Filling}
use Rattle.exstack.specs.Links.{headroom_of, no_stack_out}
use Rattle.exstack.specs.State.{Stack, stack_dims, stack_out_at, pushed_on}
use Rattle.exstack.specs.Agreement.{AgreesIn}
use Rattle.exstack.specs.Parts.{stack_part, IsStackStep, StackKeepsAgreement}
use Rattle.exstack.proofs.OneHop.{ranks_one}
use Rattle.rank_node.specs.Pulls.{PushedOn, FillsItems}
use Rattle.rank_node.proofs.Offered.{push_on, idle_on, pushed_none, pushed_twice, none_left}

-- an exstack in the midst of pushes, from number `from` on, of which `next` are pushed by now
pub record Offers (es : List (ℕ × Item)) (old x : Stack) (from next count : ℕ) : Type 0 where
  pub all : count ≡ length es
  pub forward : from ≤ next
  pub low : next ≤ length es
  pub receivers : All (λ (e : ℕ × Item). e.0 < ranks (stack_dims x)) es
  pub filling : x.stage ≡ Filling
  pub all_pushed : x.done ≡ true → next ≡ length es
  pub same : x ≡ record old { outs = x.outs; popped = x.popped }
  pub kept : StackKeepsAgreement old x
  pub none : next ≡ from → x.outs ≡ old.outs
  pub pushed : (n : ℕ) (sent got : Logs) → AgreesIn n old sent got → PushedOn es (ranks (stack_dims old)) from next (stack_part old sent got) (stack_part x sent got)

pub offers_start : (es : List (ℕ × Item)) (x : Stack) (from count : ℕ) → count ≡ length es → from ≤ length es → All (λ (e : ℕ × Item). e.0 < ranks (stack_dims x)) es → x.stage ≡ Filling → (x.done ≡ true → from ≡ length es) → Offers es x x from from count
offers_start es x from count all low receivers filling all_pushed =
    record {
      all = all;
      forward = omega arith;
      low = low;
      receivers = receivers;
      filling = filling;
      all_pushed = all_pushed;
      same = refl;
      kept = λ n sent got a. a;
      none = λ e. refl;
      pushed = λ n sent got a. pushed_none es (ranks (stack_dims x)) from (stack_part x sent got);
    }

-- where an item is left, the rank isn't done
pub not_done : (es : List (ℕ × Item)) (old x : Stack) (from next count : ℕ) → Offers es old x from next count → next < count → x.done ≡ false
not_done es old x from next count is left =
    elim (cases_Bool x.done) [
      | inl d ↦ absurd (omega (arith, left, is.all, is.all_pushed d))
      | inr d ↦ d
    ]

-- one more push, which was accepted
pub offers_more : (es : List (ℕ × Item)) (old x x' : Stack) (from next count to : ℕ) (y : Item) → Offers es old x from next count → next < count → slice_get es next ≡ Some (to, y)
    → x' ≡ pushed_on x y to → StackKeepsAgreement x x' → IsStackStep (Push to y) x x' → Offers es old x' from (next + 1) count
offers_more es old x x' from next count to y is left at new kept step =
    let waits : x.done ≡ false = not_done es old x from next count is left in
    let ranks' : x'.ranks ≡ x.ranks = ap (λ (t : Stack). t.ranks) new in
    let dims : stack_dims x ≡ stack_dims old = ap (λ (t : Stack). stack_dims t) is.same in
    record {
      all = is.all;
      forward = omega (arith, is.forward);
      low = omega (arith, left, is.all);
      receivers = subst (λ n. All (λ (e : ℕ × Item). e.0 < ranks (n ∷ [])) es) (sym ranks') is.receivers;
      filling = ap (λ (t : Stack). t.stage) new ∙ is.filling;
      all_pushed = λ d. absurd (true≢false (sym d ∙ (ap (λ (t : Stack). t.done) new ∙ waits)));
      same = subst (λ (t : Stack). t ≡ record old { outs = t.outs; popped = t.popped }) (sym new) (ap (λ (t : Stack). pushed_like t x y to) is.same);
      kept = λ n sent got a. kept n sent got (is.kept n sent got a);
      none = λ e. absurd (omega (arith, e, is.forward));
      pushed = λ n sent got a. pushed_twice es (ranks (stack_dims old)) from next (next + 1) (stack_part old sent got) (stack_part x sent got) (stack_part x' sent got)
          (is.pushed n sent got a)
          (push_on es (ranks (stack_dims old)) next to y (stack_part x sent got) (stack_part x' sent got) at (step n sent got (is.kept n sent got a)));
    } where
      pushed_like : Stack → Stack → Item → ℕ → Stack
      pushed_like t x y to = record t { outs = (pushed_on x y to).outs; popped = (pushed_on x y to).popped }

-- the push that was refused
pub fills_refused : (cap : ℕ) (es : List (ℕ × Item)) (old x x' : Stack) (from next count to : ℕ) (y : Item) → Offers es old x from next count → slice_get es next ≡ Some (to, y)
    → x' ≡ record x { popped = None } → StackKeepsAgreement x x' → IsStackStep Idle x x' → headroom_of cap (stack_out_at x to) ≡ 0 → FillsItems cap es old x' from next
fills_refused cap es old x x' from next count to y is at new kept step full =
    record {
      forward = is.forward;
      low = is.low;
      same = subst (λ (t : Stack). t ≡ record old { outs = t.outs; popped = t.popped }) (sym new) (ap (λ (t : Stack). record t { popped = None }) is.same);
      kept = λ n sent got a. kept n sent got (is.kept n sent got a);
      pushed = λ n sent got a. pushed_twice es (ranks (stack_dims old)) from next next (stack_part old sent got) (stack_part x sent got) (stack_part x' sent got)
          (is.pushed n sent got a) (idle_on es (ranks (stack_dims old)) next (stack_part x sent got) (stack_part x' sent got) (step n sent got (is.kept n sent got a)));
      refused = λ k z found.
          let same : k ≡ to = ap (λ (o : Option (ℕ × Item)). receiver o) (sym found ∙ at) in
          subst (λ q. headroom_of cap (stack_out_at x' q) ≡ 0) (sym same) (ap (λ (t : Stack). headroom_of cap (stack_out_at t to)) new ∙ full);
      none = λ e. ap (λ (t : Stack). t.outs) new ∙ is.none e;
    } where
      receiver : Option (ℕ × Item) → ℕ
      receiver None = 0
      receiver (Some e) = e.0

-- and all were pushed
pub fills_all : (cap : ℕ) (es : List (ℕ × Item)) (old x : Stack) (from next count : ℕ) → Offers es old x from next count → (next < count → ⊥) → FillsItems cap es old x from next
fills_all cap es old x from next count is end =
    record {
      forward = is.forward;
      low = is.low;
      same = is.same;
      kept = is.kept;
      pushed = is.pushed;
      refused = λ k z found. none_left es next (k, z) (omega (arith, end, is.all)) found;
      none = is.none;
    }

-- where nothing waits and something is left, at least one item is pushed
pub pushes_one : (cap : ℕ) (es : List (ℕ × Item)) (old x : Stack) (from next : ℕ) → 0 < cap → FillsItems cap es old x from next → All (λ (e : ℕ × Item). e.0 < ranks (stack_dims old)) es
    → ((b : ℕ) → b < old.ranks → (stack_out_at old b).waiting ≡ []) → from < length es → from < next
pushes_one cap es old x from next some is below empty left =
    elim (cases_lt from next) [
      | inl less ↦ less
      | inr more ↦
          let stays : next ≡ from = omega (arith, more, is.forward) in
          let f = find es from left in
          let low : f.0.0 < old.ranks = omega (arith, all_get (λ (e : ℕ × Item). e.0 < ranks (stack_dims old)) es from f.0 below f.1, ranks_one old.ranks) in
          let full : headroom_of cap (stack_out_at x f.0.0) ≡ 0 = is.refused f.0.0 f.0.1 (ap (slice_get es) stays ∙ f.1) in
          let none : (stack_out_at x f.0.0).waiting ≡ [] = ap (λ os. (get_or os f.0.0 no_stack_out).waiting) (is.none stays) ∙ empty f.0.0 low in
          absurd (omega (arith, some, full, ap length none))
    ]
