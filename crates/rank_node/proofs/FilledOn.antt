-- Items that are handed over, one after the other, are pushed into an exstack.
use Rattle.std.proofs.Common.{◌≡◌, ℕ, zero, suc, ◌+◌, ◌-◌, ◌<◌, ◌≤◌, true, List, [], ◌∷◌, length, slice_get, drop, Some, All, refl, sym, ap, subst, ◌∙◌, inl, inr, arith}
use Rattle.std.proofs.lemmas.Bool.{cases_Bool}
use Rattle.std.proofs.lemmas.List.Elements.{All-drop}
use Rattle.bale_items.specs.declared.item.Item.{Item}
use Rattle.list_laws.proofs.Lists.{within, all_from_gets}
use Rattle.route_tensor.specs.Grid.{ranks}
use Rattle.exstack.specs.declared.stage.Stage.TheVariants.{Filling}
use Rattle.exstack.specs.State.{Stack, stack_dims}
use Rattle.exstack.proofs.OneHop.{ranks_one}
use Rattle.round_program.specs.Emissions.{HandsOver}
use Rattle.round_program.proofs.Emissions.{past_end, first_left, rest_left, nothing_left}
use Rattle.rank_node.specs.Pushes.{MayFill, FillsOne}
use Rattle.rank_node.specs.Pulls.{FillsItems}
use Rattle.rank_node.proofs.Chains.{none_more, one_more}
use Rattle.rank_node.proofs.Filled.{Offers, offers_start, offers_more, fills_refused, fills_all}

-- of what is left to push every item may be pushed
pub may_fill : (es : List (ℕ × Item)) (x : Stack) (from : ℕ) → All (λ (e : ℕ × Item). e.0 < ranks (stack_dims x)) es → x.stage ≡ Filling → (x.done ≡ true → from ≡ length es)
    → All (λ (e : ℕ × Item). MayFill x e.0) (drop from es)
may_fill es x from receivers filling all_pushed =
    elim (cases_Bool x.done) [
      | inl yes' ↦ subst (All (λ (e : ℕ × Item). MayFill x e.0)) (sym (past_end es from (omega (arith, all_pushed yes')))) (all_from_gets (λ (e : ℕ × Item). MayFill x e.0) [] (λ i e is. absurd (let b = within [] i e is in omega (arith, b))))
      | inr no' ↦
          let left : All (λ (e : ℕ × Item). e.0 < ranks (stack_dims x)) (drop from es) = All-drop (λ (e : ℕ × Item). e.0 < ranks (stack_dims x)) from es receivers in
          λ k d low. let here = left k d low in record { low = omega (arith, here, ranks_one x.ranks); filling = filling; not_done = no' }
    ]

each : (most : ℕ) (es rest : List (ℕ × Item)) (old x x' : Stack) (from next n : ℕ) → drop next es ≡ rest → Offers es old x from next (length es) → HandsOver (FillsOne most) rest n x x' → FillsItems most es old x' from (next + n)
each most es [] old x x' from next n left is h =
    let count : next ≡ next + n = sym (none_more next) ∙ ap (λ k. next + k) (sym h.0) in
    let past : length es ≤ next = nothing_left es next left in
    subst (λ k. FillsItems most es old x' from k) count (subst (λ t. FillsItems most es old t from next) (sym h.1) (fills_all most es old x from next (length es) is (λ less. omega (arith, less, past))))
each most es (e ∷ rest) old x x' from next zero left is h =
    subst (λ k. FillsItems most es old x' from k) (sym (none_more next))
    (fills_refused most es old x x' from next (length es) e.0 e.1 is (first_left es next e rest left) (h.unpushed refl) h.kept (h.idle refl) (h.full refl))
each most es (e ∷ rest) old x x' from next (suc n) left is h =
    let at : slice_get es next ≡ Some e = first_left es next e rest left in
    let more : Offers es old h.0 from (next + 1) (length es) = offers_more es old x h.0 from next (length es) e.0 e.1 is (within es next e at) at (h.1.pushed refl) h.1.kept (h.1.step refl) in
    subst (λ k. FillsItems most es old x' from k) (sym (one_more next n)) (each most es rest old h.0 x' from (next + 1) n (rest_left es next e rest left) more h.2)

pub fills_each : (most : ℕ) (es : List (ℕ × Item)) (x x' : Stack) (from next : ℕ) → from ≤ next → from ≤ length es → All (λ (e : ℕ × Item). e.0 < ranks (stack_dims x)) es → x.stage ≡ Filling → (x.done ≡ true → from ≡ length es)
    → HandsOver (FillsOne most) (drop from es) (next - from) x x' → FillsItems most es x x' from next
fills_each most es x x' from next forward low receivers filling all_pushed h =
    let count : from + (next - from) ≡ next = omega (arith, forward) in
    subst (λ k. FillsItems most es x x' from k) count (each most es (drop from es) x x x' from from (next - from) refl (offers_start es x from (length es) refl low receivers filling all_pushed) h)
