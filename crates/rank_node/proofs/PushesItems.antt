-- Items that are handed over, one after the other, are pushed.
use Rattle.std.proofs.Common.{◌≡◌, ℕ, zero, suc, ◌+◌, ◌-◌, ◌<◌, ◌≤◌, true, false, List, [], ◌∷◌, length, slice_get, drop, Option, Some, None, All, refl, sym, ap, subst, ◌∙◌, inl, inr, arith}
use Rattle.std.proofs.lemmas.Bool.{cases_Bool}
use Rattle.std.proofs.lemmas.List.Elements.{All-drop}
use Rattle.bale_items.specs.declared.item.Item.{Item}
use Rattle.list_laws.proofs.Lists.{within, all_get, all_from_gets}
use Rattle.route_tensor.specs.Grid.{ranks}
use Rattle.hop_core.specs.declared.phase.Phase.TheVariants.{Working}
use Rattle.hop_core.specs.State.{State}
use Rattle.convey.specs.Buffers.{buffers_of}
use Rattle.convey.specs.Conveyors.{open_count_toward}
use Rattle.convey.specs.Parts.{part_of}
use Rattle.round_program.specs.Emissions.{HandsOver}
use Rattle.round_program.proofs.Emissions.{past_end, first_left, rest_left, nothing_left}
use Rattle.rank_node.specs.Pushes.{MayPush, AfterConveyorPush}
use Rattle.rank_node.proofs.Chains.{none_more, one_more}
use Rattle.rank_node.specs.Pulls.{PushesItems}
use Rattle.rank_node.proofs.Offered.{Offers, push_on, idle_on, pushed_none, push_more, none_left}

-- of what is left to push every item may be pushed
pub may_push : (es : List (ℕ × Item)) (c : State) (from : ℕ) → All (λ (e : ℕ × Item). e.0 < ranks c.dims) es → (c.done ≡ false → c.phase ≡ Working) → (c.done ≡ true → from ≡ length es)
    → All (λ (e : ℕ × Item). MayPush c e.0) (drop from es)
may_push es c from receivers working all_pushed =
    elim (cases_Bool c.done) [
      | inl yes' ↦ subst (All (λ (e : ℕ × Item). MayPush c e.0)) (sym (past_end es from (omega (arith, all_pushed yes')))) (all_from_gets (λ (e : ℕ × Item). MayPush c e.0) [] (λ i e is. absurd (let b = within [] i e is in omega (arith, b))))
      | inr no' ↦
          let left : All (λ (e : ℕ × Item). e.0 < ranks c.dims) (drop from es) = All-drop (λ (e : ℕ × Item). e.0 < ranks c.dims) from es receivers in
          λ k d low. record { low = left k d low; working = working no'; not_done = no' }
    ]

-- where all is handed over or one was refused
pub record Ended (most : ℕ) (es : List (ℕ × Item)) (old c : State) (from next : ℕ) : Type 0 where
  pub offers : Offers es old c from next (length es)
  pub refused : (to : ℕ) (x : Item) → slice_get es next ≡ Some (to, x) → open_count_toward c to ≡ most

receiver : Option (ℕ × Item) → ℕ
receiver None = 0
receiver (Some e) = e.0

ended : (most : ℕ) (es rest : List (ℕ × Item)) (old c c' : State) (from next n : ℕ) → drop next es ≡ rest → Offers es old c from next (length es) → HandsOver (AfterConveyorPush most) rest n c c' → Ended most es old c' from (next + n)
unfolding receiver
ended most es [] old c c' from next n left is h =
    let count : next ≡ next + n = sym (none_more next) ∙ ap (λ k. next + k) (sym h.0) in
    subst (λ k. Ended most es old c' from k) count
    (subst (λ x. Ended most es old x from next) (sym h.1) (record { offers = is; refused = λ to x at. none_left es next (to, x) (nothing_left es next left) at }))
ended most es (e ∷ rest) old c c' from next zero left is h =
    let at : slice_get es next ≡ Some e = first_left es next e rest left in
    subst (λ k. Ended most es old c' from k) (sym (none_more next))
    (record {
      offers = push_more es old c c' from next next (length es) is (within es next e at) (omega arith) is.next_low h.same h.kept
          (λ sent got a. idle_on es (ranks c.dims) next (part_of (buffers_of c) sent got) (part_of (buffers_of c') sent got) (h.idle refl sent got a));
      refused = λ to x there. subst (λ t. open_count_toward c' t ≡ most) (ap receiver (sym at ∙ there)) (h.full refl);
    })
ended most es (e ∷ rest) old c c' from next (suc n) left is h =
    let at : slice_get es next ≡ Some e = first_left es next e rest left in
    let low : next < length es = within es next e at in
    let more : Offers es old h.0 from (next + 1) (length es) =
    push_more es old c h.0 from next (next + 1) (length es) is low (omega arith) (omega (arith, low)) h.1.same h.1.kept
    (λ sent got a. push_on es (ranks c.dims) next e.0 e.1 (part_of (buffers_of c) sent got) (part_of (buffers_of h.0) sent got) at (h.1.step refl sent got a)) in
    subst (λ k. Ended most es old c' from k) (sym (one_more next n)) (ended most es rest old h.0 c' from (next + 1) n (rest_left es next e rest left) more h.2)

pub handed : (most : ℕ) (es : List (ℕ × Item)) (c c' : State) (from next : ℕ) → from ≤ next → from ≤ length es → All (λ (e : ℕ × Item). e.0 < ranks c.dims) es → (c.done ≡ false → c.phase ≡ Working) → (c.done ≡ true → from ≡ length es)
    → HandsOver (AfterConveyorPush most) (drop from es) (next - from) c c' → PushesItems most es c c' from next
handed most es c c' from next forward low receivers working all_pushed h =
    let start : Offers es c c from from (length es) = record {
      all = refl;
      forward = omega arith;
      next_low = low;
      receivers = receivers;
      working = working;
      all_pushed = all_pushed;
      same = refl;
      kept = λ sent got a. a;
      pushed = λ sent got a. pushed_none es (ranks c.dims) from (part_of (buffers_of c) sent got);
    } in
    let count : from + (next - from) ≡ next = omega (arith, forward) in
    let end : Ended most es c c' from next = subst (λ k. Ended most es c c' from k) count (ended most es (drop from es) c c c' from from (next - from) refl start h) in
    record {
      forward = forward;
      low = end.offers.next_low;
      same = end.offers.same;
      kept = end.offers.kept;
      pushed = end.offers.pushed;
      refused = end.refused;
      receiver = λ to x at. all_get (λ (e : ℕ × Item). e.0 < ranks c'.dims) es next (to, x) end.offers.receivers at;
    }
