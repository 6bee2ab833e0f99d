-- Items are popped from an exstack, and summed or absorbed.
use Rattle.std.proofs.Common.{◌≡◌, ℕ, zero, suc, ◌+◌, ◌<◌, ◌≤◌, Bool, List, [], ◌∷◌, length, slice_get, Option, Some, None, refl, sym, ap, subst, ◌∙◌, arith, get_or, set, sum_by, drop, add-one}
use Rattle.std.proofs.lemmas.List.Sums.{sum_by-set, sum_by-cons}
use Rattle.std.proofs.lemmas.List.Quantifiers.{position-Some}
use Rattle.std.specs.Option.{option_map}
use Rattle.bale_items.specs.declared.item.Entry.{Entry}
use Rattle.bale_items.specs.declared.item.Item.{Item}
use Rattle.route_tensor.specs.Grid.{ranks}
use Rattle.port_bank.specs.Machine.Step.{Idle}
use Rattle.exstack.specs.Links.{StackIn, no_stack_in, has_unread, with_first_read}
use Rattle.exstack.specs.State.{Stack, stack_dims, stack_in_at, stack_unread, lowest_unread_sender, pop_from, popped_from, pops}
use Rattle.exstack.specs.Parts.{stack_part, IsStackStep, StackKeepsAgreement, PopGivesNext}
use Rattle.exstack.proofs.Calls.{none_unread, some_unread}
use Rattle.exstack.proofs.Places.{none_passes}
use Rattle.exstack.proofs.OneHop.{ranks_one}
use Rattle.round_program.specs.Rules.{Rules}
use Rattle.round_program.specs.Laws.{Laws}
use Rattle.rank_node.specs.Runs.{HasTaken}
use Rattle.rank_node.specs.Pulls.{PopsItems}
use Rattle.rank_node.specs.Batches.{TakesEach}
use Rattle.rank_node.proofs.Chains.{TakesOne, Chain, each_chain, none_more, one_more, all_more, from_none}
use Rattle.rank_node.proofs.Took.{take_on, taken_same}

-- nothing is unread where no sender has anything
none_of : (ins : List StackIn) → ((k : ℕ) → k < length ins → (get_or ins k no_stack_in).unread ≡ []) → sum_by (λ (i : StackIn). length i.unread) ins ≡ 0
none_of [] each = refl
none_of (i ∷ is) each = sum_by-cons (λ (i : StackIn). length i.unread) i is ∙ omega (arith, ap length (each 0 (omega arith)), none_of is (λ k low. each (suc k) (omega (arith, low))))

pub all_read : (st : Stack) → lowest_unread_sender st ≡ None → stack_unread st ≡ 0
all_read st none = none_of st.ins (λ k low. none_unread (get_or st.ins k no_stack_in) (none_passes has_unread st.ins no_stack_in none k low))

-- a pop that gives an item leaves one fewer
some_first : {X : Type 0} (xs : List Entry) (f : Entry → X) (p : X) → option_map f (slice_get xs 0) ≡ Some p → 0 < length xs
some_first [] f p is = absurd (cc)
some_first (x ∷ xs) f p is = omega arith

drop_first : {X : Type 0} (xs : List X) → 0 < length xs → length (drop 1 xs) + 1 ≡ length xs
drop_first [] h = absurd (omega (arith, h))
drop_first (x ∷ xs) h = omega arith

below : (ins : List StackIn) (i : ℕ) → 0 < length (get_or ins i no_stack_in).unread → i < length ins
below [] i h = absurd (omega (arith, h))
below (x ∷ xs) zero h = omega arith
below (x ∷ xs) (suc i) h = omega (arith, below xs i h)

fewer_from : (st : Stack) (o : Option ℕ) (p : ℕ × Item) → pop_from st o ≡ Some p → stack_unread (popped_from st o) < stack_unread st
fewer_from st None p is = absurd (cc)
fewer_from st (Some a) p is =
    let xs = (stack_in_at st a).unread in
    let f : StackIn → ℕ = λ x. length x.unread in
    let y : StackIn = with_first_read (stack_in_at st a) in
    let some : 0 < length xs = some_first xs (λ e. (a, e.item)) p is in
    let e : sum_by f (set st.ins a y) + f (get_or st.ins a no_stack_in) ≡ sum_by f st.ins + f y = sum_by-set f st.ins a y no_stack_in (below st.ins a some) in
    let less : length (drop 1 xs) + 1 ≡ length xs = drop_first xs some in
    omega (arith, e, less)

pub fewer_next : (st : Stack) (n from : ℕ) (x : Item) (most : ℕ) → n + stack_unread (pops n st) ≤ most → PopGivesNext (pops n st) from x → n + 1 + stack_unread (pops (n + 1) st) ≤ most
fewer_next st n from x most is next =
    let less : stack_unread (pops (suc n) st) < stack_unread (pops n st) = fewer_from (pops n st) (lowest_unread_sender (pops n st)) (from, x) next.value in
    subst (λ m. n + 1 + stack_unread (pops m st) ≤ most) (sym (add-one n)) (omega (arith, less, is))

-- a batch has something
pub batch_some : (st : Stack) (a : ℕ) → lowest_unread_sender st ≡ Some a → 0 < length (stack_in_at st a).unread
batch_some st a found = some (stack_in_at st a).unread (some_unread (stack_in_at st a) (position-Some has_unread st.ins a no_stack_in found).1) where
  some : {X : Type 0} (xs : List X) → (xs ≡ [] → ⊥) → 0 < length xs
  some [] e = absurd (e refl)
  some (x ∷ xs) e = omega arith

-- what a pop leaves of the state
popped_same : (st : Stack) (o : Option ℕ) → popped_from st o ≡ record st { ins = (popped_from st o).ins; popped = (popped_from st o).popped }
popped_same st None = refl
popped_same st (Some a) = refl

pub pops_none : {S : Type 0} (R : Rules S) (voting : Bool) (x : Stack) (prog : S) (sum : ℕ) (spoiled : Bool) → PopsItems R voting x x prog prog sum sum spoiled spoiled
pops_none R voting x prog sum spoiled = record { same = refl; emissions = refl; kept = λ n sent got a. a; taken = λ h rank round next sends n sent got v a t. t }

-- one more pop
pops_more : {S : Type 0} (R : Rules S) → Laws R → (voting : Bool) (old x : Stack) (prog mid prog' : S) (from : ℕ) (y : Item) (sum sum1 sum2 : ℕ) (spoiled now after : Bool) → PopsItems R voting old x prog mid sum sum1 spoiled now
    → PopGivesNext x from y → from < x.ranks → TakesOne R voting mid prog' from y sum1 sum2 now after → PopsItems R voting old (popped_from x (lowest_unread_sender x)) prog prog' sum sum2 spoiled after
pops_more R laws voting old x prog mid prog' from y sum sum1 sum2 spoiled now after is next low takes =
    let like = popped_same x (lowest_unread_sender x) in
    let same : x.ranks ≡ old.ranks = ap (λ (t : Stack). t.ranks) is.same in
    record {
      same = like ∙ ap (λ (t : Stack). record t { ins = (popped_from x (lowest_unread_sender x)).ins; popped = (popped_from x (lowest_unread_sender x)).popped }) is.same;
      emissions = takes.emissions ∙ is.emissions;
      kept = λ n sent got a. next.kept n sent got (is.kept n sent got a);
      taken = λ h rank round after_next sends n sent got v a t.
          take_on R laws (ranks (stack_dims old)) rank h round sends after_next mid prog' from y sum1 sum2 now after voting (stack_part x sent got) (stack_part (popped_from x (lowest_unread_sender x)) sent got)
          (omega (arith, low, same, ranks_one old.ranks)) v takes (next.step n sent got (is.kept n sent got a)) (is.taken h rank round after_next sends n sent got v a t);
    }

-- a call that only forgets the right to put an item back
pub pops_rest : {S : Type 0} (R : Rules S) (voting : Bool) (old x x' : Stack) (prog prog' : S) (sum sum' : ℕ) (spoiled spoiled' : Bool) → PopsItems R voting old x prog prog' sum sum' spoiled spoiled'
    → x' ≡ record x { popped = None } → StackKeepsAgreement x x' → IsStackStep Idle x x' → PopsItems R voting old x' prog prog' sum sum' spoiled spoiled'
pops_rest R voting old x x' prog prog' sum sum' spoiled spoiled' is new kept step =
    record {
      same = subst (λ (t : Stack). t ≡ record old { ins = t.ins; popped = t.popped }) (sym new) (ap (λ (t : Stack). record t { popped = None }) is.same);
      emissions = is.emissions;
      kept = λ n sent got a. kept n sent got (is.kept n sent got a);
      taken = λ h rank round next sends n sent got v a t.
          taken_same R (ranks (stack_dims old)) rank h round sends next prog' sum' spoiled' (stack_part x sent got) (stack_part x' sent got)
          (step n sent got (is.kept n sent got a)).is (is.taken h rank round next sends n sent got v a t);
    }

-- pops after pops
pub pops_both : {S : Type 0} (R : Rules S) (voting : Bool) (old x x' : Stack) (prog mid prog' : S) (sum sum1 sum2 : ℕ) (spoiled now after : Bool) → PopsItems R voting old x prog mid sum sum1 spoiled now
    → PopsItems R voting x x' mid prog' sum1 sum2 now after → PopsItems R voting old x' prog prog' sum sum2 spoiled after
pops_both R voting old x x' prog mid prog' sum sum1 sum2 spoiled now after p q =
    let dims : ranks (stack_dims x) ≡ ranks (stack_dims old) = ap (λ (t : Stack). ranks (stack_dims t)) p.same in
    record {
      same = q.same ∙ ap (λ (t : Stack). record t { ins = x'.ins; popped = x'.popped }) p.same;
      emissions = q.emissions ∙ p.emissions;
      kept = λ n sent got a. q.kept n sent got (p.kept n sent got a);
      taken = λ h rank round next sends n sent got v a t.
          subst (λ k. HasTaken R k rank h round sends next prog' sum2 after (stack_part x' sent got)) dims
          (q.taken h rank round next sends n sent got v (p.kept n sent got a)
          (subst (λ k. HasTaken R k rank h round sends next mid sum1 now (stack_part x sent got)) (sym dims) (p.taken h rank round next sends n sent got v a t)));
    }

-- after so many pops of one batch as after n, and one more
pub pops_next : {S : Type 0} (R : Rules S) → Laws R → (voting : Bool) (st : Stack) (n : ℕ) (prog mid prog' : S) (from : ℕ) (y : Item) (sum sum1 sum2 : ℕ) (spoiled now after : Bool)
    → PopsItems R voting st (pops n st) prog mid sum sum1 spoiled now → PopGivesNext (pops n st) from y → from < st.ranks → TakesOne R voting mid prog' from y sum1 sum2 now after
    → PopsItems R voting st (pops (n + 1) st) prog prog' sum sum2 spoiled after
pops_next R laws voting st n prog mid prog' from y sum sum1 sum2 spoiled now after is next low takes =
    let same : (pops n st).ranks ≡ st.ranks = ap (λ (t : Stack). t.ranks) is.same in
    subst (λ m. PopsItems R voting st (pops m st) prog prog' sum sum2 spoiled after) (sym (add-one n))
    (pops_more R laws voting st (pops n st) prog mid prog' from y sum sum1 sum2 spoiled now after is next (omega (arith, low, same)) takes)

-- and all that is left of it
pub pops_chain : {S : Type 0} (R : Rules S) → Laws R → (voting : Bool) (st : Stack) (n : ℕ) (prog mid prog' : S) (es : List (ℕ × Item)) (sum sum1 sum2 : ℕ) (spoiled now after : Bool)
    → PopsItems R voting st (pops n st) prog mid sum sum1 spoiled now → ((i : ℕ) (e : ℕ × Item) → slice_get es i ≡ Some e → (e.0 < st.ranks) × PopGivesNext (pops (n + i) st) e.0 e.1)
    → Chain R voting mid prog' es sum1 sum2 now after → PopsItems R voting st (pops (n + length es) st) prog prog' sum sum2 spoiled after
pops_chain R laws voting st n prog mid prog' [] sum sum1 sum2 spoiled now later is gives c =
    subst (λ m. PopsItems R voting st (pops m st) prog prog' sum sum2 spoiled later) (sym (none_more n))
    (subst (λ b. PopsItems R voting st (pops n st) prog prog' sum sum2 spoiled b) (sym c.2)
    (subst (λ k. PopsItems R voting st (pops n st) prog prog' sum k spoiled now) (sym c.1)
    (subst (λ s. PopsItems R voting st (pops n st) prog s sum sum1 spoiled now) (sym c.0) is)))
pops_chain R laws voting st n prog mid prog' (e ∷ es) sum sum1 sum2 spoiled now later is gives c =
    let first = subst (λ m. (e.0 < st.ranks) × PopGivesNext (pops m st) e.0 e.1) (none_more n) (gives 0 e refl) in
    let one = pops_next R laws voting st n prog mid c.0 e.0 e.1 sum sum1 c.1 spoiled now c.2 is first.1 first.0 c.3 in
    subst (λ m. PopsItems R voting st (pops m st) prog prog' sum sum2 spoiled later) (all_more n e es)
    (pops_chain R laws voting st (n + 1) prog c.0 prog' es sum c.1 sum2 spoiled c.2 later one
    (λ i y at. subst (λ m. (y.0 < st.ranks) × PopGivesNext (pops m st) y.0 y.1) (one_more n i) (gives (suc i) y at)) c.4)

-- what is popped isn't unread
pub fewer_all : (st : Stack) (n : ℕ) (es : List (ℕ × Item)) → n + stack_unread (pops n st) ≤ stack_unread st → ((i : ℕ) (e : ℕ × Item) → slice_get es i ≡ Some e → (e.0 < st.ranks) × PopGivesNext (pops (n + i) st) e.0 e.1)
    → n + length es + stack_unread (pops (n + length es) st) ≤ stack_unread st
fewer_all st n [] is gives = subst (λ m. m + stack_unread (pops m st) ≤ stack_unread st) (sym (none_more n)) is
fewer_all st n (e ∷ es) is gives =
    let first = subst (λ m. (e.0 < st.ranks) × PopGivesNext (pops m st) e.0 e.1) (none_more n) (gives 0 e refl) in
    subst (λ m. m + stack_unread (pops m st) ≤ stack_unread st) (all_more n e es)
    (fewer_all st (n + 1) es (fewer_next st n e.0 e.1 (stack_unread st) is first.1) (λ i y at. subst (λ m. (y.0 < st.ranks) × PopGivesNext (pops m st) y.0 y.1) (one_more n i) (gives (suc i) y at)))

-- all of one sender, where something is unread of it
pub pops_batch : {S : Type 0} (R : Rules S) → Laws R → (voting : Bool) (st new : Stack) (m : ℕ) (prog prog' : S) (es : List (ℕ × Item)) (sum sum' : ℕ) (spoiled spoiled' : Bool)
    → m ≡ length es → new ≡ pops m st → 0 < length es → ((i : ℕ) (e : ℕ × Item) → slice_get es i ≡ Some e → (e.0 < st.ranks) × PopGivesNext (pops i st) e.0 e.1)
    → TakesEach R voting prog prog' es sum sum' spoiled spoiled' → PopsItems R voting st new prog prog' sum sum' spoiled spoiled' × (stack_unread new < stack_unread st)
pops_batch R laws voting st new m prog prog' es sum sum' spoiled spoiled' count is some gives t =
    let at_end : new ≡ pops (0 + length es) st = is ∙ ap (λ k. pops k st) (count ∙ from_none (length es)) in
    let each : (i : ℕ) (e : ℕ × Item) → slice_get es i ≡ Some e → (e.0 < st.ranks) × PopGivesNext (pops (0 + i) st) e.0 e.1 =
    λ i e at. subst (λ k. (e.0 < st.ranks) × PopGivesNext (pops k st) e.0 e.1) (from_none i) (gives i e at) in
    let fewer : 0 + length es + stack_unread (pops (0 + length es) st) ≤ stack_unread st = fewer_all st 0 es (omega arith) each in
    let left : stack_unread new ≡ stack_unread (pops (0 + length es) st) = ap stack_unread at_end in (
      subst (λ x. PopsItems R voting st x prog prog' sum sum' spoiled spoiled') (sym at_end)
          (pops_chain R laws voting st 0 prog prog prog' es sum sum sum' spoiled spoiled spoiled' (pops_none R voting st prog sum spoiled) each (each_chain R laws voting prog prog' es sum sum' spoiled spoiled' some t)),
      omega (arith, some, fewer, left),
    )
