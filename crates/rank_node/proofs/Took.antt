-- One more item is pulled, and summed or absorbed.
use Rattle.std.proofs.Common.{◌≡◌, ◌≢◌, ℕ, suc, ◌+◌, ◌-◌, ◌*◌, ◌^◌, ◌<◌, ◌≤◌, ◌==◌, ◌&&◌, min, Bool, true, false, cond, List, [], ◌∷◌, ◌++◌, length, Option, Some, None, refl, sym, ap, subst, ◌∙◌, arith, get_or, set, zero, drop, add-one, slice_get}
use Rattle.std.specs.List.{sum_by}
use Rattle.std.proofs.lemmas.Bool.{eq-eqb, ne_eqb, true≢false}
use Rattle.std.proofs.lemmas.List.Sums.{sum_by-append}
use Rattle.bale_items.specs.declared.item.Item.{Item}
use Rattle.route_tensor.specs.Grid.{ranks}
use Rattle.list_laws.specs.Sums.{total}
use Rattle.list_laws.proofs.Sums.{total_one}
use Rattle.hop_core.specs.declared.phase.Phase.TheVariants.{Dormant}
use Rattle.route_tensor.specs.Neighbour.{in_index}
use Rattle.hop_core.specs.Link.{In, no_in, with_first_taken}
use Rattle.hop_core.specs.State.{State, in_at, lowest_unread, pulled_from, pulls}
use Rattle.convey.specs.Buffers.{buffers_of, in_of}
use Rattle.convey.specs.Conveyors.{KeepsAgreement, IsStepOf, GivesNext}
use Rattle.convey.specs.Parts.{part_of}
use Rattle.port_bank.specs.Machine.{Part, IsOwnStep, ItemLists, with_item, after}
use Rattle.port_bank.specs.Machine.Step.{Pull, Idle}
use Rattle.round_program.specs.Rules.{Rules}
use Rattle.round_program.specs.Laws.{Laws, fits}
use Rattle.round_program.specs.Orders.{after_pulls}
use Rattle.round_program.specs.Epochs.{PairLists, heard, after_work}
use Rattle.round_program.proofs.Orders.{one_more_pull, pulls_same, fits_same}
use Rattle.round_program.proofs.Steps.{worked_same}
use Rattle.rank_node.specs.declared.sends.Sends.{Sends}
use Rattle.rank_node.specs.declared.sends.Sends.TheVariants.{Emissions, Nothing, Votes}
use Rattle.rank_node.specs.Sending.{to_send, is_voting, spoiled_vote}
use Rattle.rank_node.specs.Runs.{part_lists, IsPushed, HasPassed, IsWithinEpoch, HasTaken}
use Rattle.rank_node.specs.Pulls.{InboxesShrink, PullsItems}
use Rattle.rank_node.specs.Batches.{TakesEach}
use Rattle.rank_node.proofs.Chains.{TakesOne, Chain, each_chain, none_more, one_more, all_more, from_none}
use Rattle.hop_core.specs.Relay.{waiting}
use Rattle.rank_node.proofs.Absorbed.{ends_pulled, pulled_same, fewer_next}
use Rattle.rank_node.proofs.Ballots.{same_sends}
use Rattle.rank_node.proofs.Kept.{SameElsewhere, passed_same, before_same}

-- where a list got one more item
pub item_here : (lists : ItemLists) (e f : ℕ) (x : Item) → with_item lists e f x e f ≡ lists e f ++ x ∷ []
item_here lists e f x =
    ap (λ b. cond (b && (f == f)) (lists e f ++ x ∷ []) (lists e f)) (eq-eqb e e refl) ∙ ap (λ b. cond b (lists e f ++ x ∷ []) (lists e f)) (eq-eqb f f refl)

pub item_other : (lists : ItemLists) (e f : ℕ) (x : Item) (g : ℕ) → g ≢ f → with_item lists e f x e g ≡ lists e g
item_other lists e f x g apart =
    ap (λ b. cond (b && (g == f)) (lists e g ++ x ∷ []) (lists e g)) (eq-eqb e e refl) ∙ ap (λ b. cond b (lists e g ++ x ∷ []) (lists e g)) (ne_eqb g f apart)

pub item_elsewhere : (lists : ItemLists) (e f : ℕ) (x : Item) (k g : ℕ) → k ≢ e → with_item lists e f x k g ≡ lists k g
item_elsewhere lists e f x k g apart = ap (λ b. cond (b && (g == f)) (lists k g ++ x ∷ []) (lists k g)) (ne_eqb k e apart)

one_sum : (x : Item) → sum_by (λ (y : Item). y.a) (x ∷ []) ≡ x.a
one_sum x = omega arith

-- one more vote is heard
heard_more : (p m f : ℕ) (x : Item) (l k : PairLists) → f < p → k.pulled (2 * m + 1) f ≡ l.pulled (2 * m + 1) f ++ x ∷ [] → ((g : ℕ) → g ≢ f → k.pulled (2 * m + 1) g ≡ l.pulled (2 * m + 1) g)
    → heard p k m ≡ min (heard p l m + x.a) (2 ^ 64 - 1)
heard_more p m f x l k below here other =
    let was : ℕ → ℕ = λ g. sum_by (λ (y : Item). y.a) (l.pulled (2 * m + 1) g) in
    let now : ℕ → ℕ = λ g. sum_by (λ (y : Item). y.a) (k.pulled (2 * m + 1) g) in
    let one : total p was + now f ≡ total p now + was f = total_one p now was f below (λ g apart. ap (sum_by (λ (y : Item). y.a)) (other g apart)) in
    let more : now f ≡ was f + x.a = ap (sum_by (λ (y : Item). y.a)) here ∙ (sum_by-append (λ (y : Item). y.a) (l.pulled (2 * m + 1) f) (x ∷ []) ∙ ap (λ n. was f + n) (one_sum x)) in
    let all : total p now ≡ total p was + x.a = omega (arith, one, more) in
    omega (arith, all)

-- a Pull leaves the lists of other epochs
pull_elsewhere : (from : ℕ) (x : Item) (part : Part) → SameElsewhere part (after (Pull from x) part)
pull_elsewhere from x part = record { epoch = refl; pushed = λ e d apart. refl; pulled = λ e d apart. item_elsewhere part.pulled part.epoch from x e d apart }

module _ {S : Type 0} (R : Rules S) (laws : Laws R) (p rank : ℕ) (h : ℕ → S) (round next : ℕ) (prog prog' : S) (from : ℕ) (x : Item) (sum sum' : ℕ) (spoiled spoiled' : Bool) (part : Part) (below : from < p) where
  abbrev took : Part
  took = after (Pull from x) part

  within_votes : (v q : ℕ) → HasPassed R p rank h round true part → TakesOne R true prog prog' from x sum sum' spoiled spoiled'
      → IsWithinEpoch R p h (record { prog = prog; round = round; sends = Votes v q; next = next; sum = sum; spoiled = spoiled }) part
      → IsWithinEpoch R p h (record { prog = prog'; round = round; sends = Votes v q; next = next; sum = sum'; spoiled = spoiled' }) took
  within_votes v q passed takes is =
      let e : part.epoch ≡ 2 * round + 1 = passed.epoch in
      let still : after_work R p h (part_lists took) round ≡ after_work R p h (part_lists part) round =
      worked_same R p part.epoch part.epoch h h (part_lists part) (part_lists took) round (before_same part took (pull_elsewhere from x part)) (omega arith) refl in
      let same = takes.votes refl in
      record {
        next_low = is.next_low;
        all_pushed = is.all_pushed;
        pushed = is.pushed;
        emissions = λ s. absurd (cc);
        nothing = λ s. absurd (cc);
        works = λ clean. same.1 ∙ (is.works (sym same.0 ∙ clean) ∙ sym still);
        vote = λ w r s.
            let was = is.vote w r s in
            (was.0, was.1 ∙ (ap (λ b. cond b spoiled_vote (R.vote (after_work R p h (part_lists part) round))) (sym same.0) ∙ ap (λ t. cond spoiled' spoiled_vote (R.vote t)) (sym still)));
        emitted_all = λ b clean. is.emitted_all refl (sym same.0 ∙ clean);
        hears = λ b.
            takes.summed ∙ (ap (λ n. min (n + x.a) (2 ^ 64 - 1)) (is.hears refl)
            ∙ sym (heard_more p round from x (part_lists part) (part_lists took) below
            (subst (λ k. with_item part.pulled part.epoch from x k from ≡ part.pulled k from ++ x ∷ []) e (item_here part.pulled part.epoch from x))
            (λ g apart. subst (λ k. with_item part.pulled part.epoch from x k g ≡ part.pulled k g) e (item_other part.pulled part.epoch from x g apart))));
      }

  -- the program after an item of a round's work
  works_on : part.epoch ≡ 2 * round → R.valid (h round) → TakesOne R false prog prog' from x sum sum' spoiled spoiled' → (spoiled ≡ false → prog ≡ after_work R p h (part_lists part) round)
      → spoiled' ≡ false → prog' ≡ after_work R p h (part_lists took) round
  works_on e valid takes works clean =
      let start : S = h round in
      let was : prog ≡ after_pulls R start (part.pulled (2 * round)) p = works (takes.unspoiled clean) in
      let alike : fits R prog from x ≡ fits R start from x =
      ap (λ s. fits R s from x) was ∙ fits_same R start (after_pulls R start (part.pulled (2 * round)) p) from x (pulls_same R laws start (part.pulled (2 * round)) p valid) in
      let new : ℕ → List Item = with_item part.pulled part.epoch from x (2 * round) in
      let here : new from ≡ part.pulled (2 * round) from ++ x ∷ [] =
      subst (λ k. with_item part.pulled part.epoch from x k from ≡ part.pulled k from ++ x ∷ []) e (item_here part.pulled part.epoch from x) in
      let other : (g : ℕ) → g ≢ from → new g ≡ part.pulled (2 * round) g =
      λ g apart. subst (λ k. with_item part.pulled part.epoch from x k g ≡ part.pulled k g) e (item_other part.pulled part.epoch from x g apart) in
      let more = one_more_pull R laws start p from x (part.pulled (2 * round)) new valid below here other in
      takes.absorbed refl clean ∙ (ap (λ b. cond b (R.absorbed prog from x) prog) alike ∙ (ap (λ s. cond (fits R start from x) (R.absorbed s from x) s) was ∙ sym more))

  within_work : (sends : Sends) → is_voting sends ≡ false → HasPassed R p rank h round false part → TakesOne R false prog prog' from x sum sum' spoiled spoiled'
      → IsWithinEpoch R p h (record { prog = prog; round = round; sends = sends; next = next; sum = sum; spoiled = spoiled }) part
      → IsWithinEpoch R p h (record { prog = prog'; round = round; sends = sends; next = next; sum = sum'; spoiled = spoiled' }) took
  within_work sends work passed takes is =
      let same : to_send R prog sends ≡ to_send R prog' sends = same_sends R prog prog' sends (sym takes.emissions) in
      record {
        next_low = subst (λ (es : List (ℕ × Item)). next ≤ length es) same is.next_low;
        all_pushed = λ d. is.all_pushed d ∙ ap length same;
        pushed = subst (λ (es : List (ℕ × Item)). IsPushed es p next part) same is.pushed;
        emissions = λ s. takes.emissions ∙ is.emissions s;
        nothing = λ s. stays spoiled' (λ clean. true≢false (sym (is.nothing s) ∙ takes.unspoiled clean));
        works = works_on passed.epoch passed.valid takes is.works;
        vote = λ v q s. absurd (true≢false (sym (ap is_voting s) ∙ work));
        emitted_all = λ b. absurd (true≢false (sym b ∙ work));
        hears = λ b. absurd (true≢false (sym b ∙ work));
      } where
        stays : (b : Bool) → (b ≡ false → ⊥) → b ≡ true
        stays true f = refl
        stays false f = absurd (f refl)

-- what a Pull leaves, where its item was taken in
pub take_on : {S : Type 0} (R : Rules S) → Laws R → (p rank : ℕ) (h : ℕ → S) (round : ℕ) (sends : Sends) (next : ℕ) (prog prog' : S) (from : ℕ) (x : Item) (sum sum' : ℕ) (spoiled spoiled' voting : Bool) (part part' : Part) → from < p
    → is_voting sends ≡ voting → TakesOne R voting prog prog' from x sum sum' spoiled spoiled' → IsOwnStep (Pull from x) part part'
    → HasTaken R p rank h round sends next prog sum spoiled part → HasTaken R p rank h round sends next prog' sum' spoiled' part'
take_on R laws p rank h round sends next prog prog' from x sum sum' spoiled spoiled' voting part part' below is_v takes step is =
    subst (HasTaken R p rank h round sends next prog' sum' spoiled') (sym step.is)
    (record {
      passed = passed_same R p rank h round (is_voting sends) part (after (Pull from x) part) (pull_elsewhere from x part) is.passed;
      within = by_kind sends is.passed (subst (λ b. TakesOne R b prog prog' from x sum sum' spoiled spoiled') (sym is_v) takes) is.within;
    }) where
      by_kind : (s : Sends) → HasPassed R p rank h round (is_voting s) part → TakesOne R (is_voting s) prog prog' from x sum sum' spoiled spoiled'
          → IsWithinEpoch R p h (record { prog = prog; round = round; sends = s; next = next; sum = sum; spoiled = spoiled }) part
          → IsWithinEpoch R p h (record { prog = prog'; round = round; sends = s; next = next; sum = sum'; spoiled = spoiled' }) (after (Pull from x) part)
      by_kind Emissions a t w = within_work R laws p rank h round next prog prog' from x sum sum' spoiled spoiled' part below Emissions refl a t w
      by_kind Nothing a t w = within_work R laws p rank h round next prog prog' from x sum sum' spoiled spoiled' part below Nothing refl a t w
      by_kind (Votes v q) a t w = within_votes R laws p rank h round next prog prog' from x sum sum' spoiled spoiled' part below v q a t w

-- a part in which only the mark of the latest step changed, or that of completion
pub taken_same : {S : Type 0} (R : Rules S) (p rank : ℕ) (h : ℕ → S) (round : ℕ) (sends : Sends) (next : ℕ) (prog : S) (sum : ℕ) (spoiled : Bool) (part part' : Part) {complete : Bool} {latest : Option ℕ}
    → part' ≡ record part { latest = latest; complete = complete } → HasTaken R p rank h round sends next prog sum spoiled part → HasTaken R p rank h round sends next prog sum spoiled part'
taken_same R p rank h round sends next prog sum spoiled part part' {complete} {latest} new is =
    subst (HasTaken R p rank h round sends next prog sum spoiled) (sym new)
    (record {
      passed = passed_same R p rank h round (is_voting sends) part (record part { latest = latest; complete = complete }) (record { epoch = refl; pushed = λ e d a. refl; pulled = λ e d a. refl }) is.passed;
      within = record {
        next_low = is.within.next_low;
        all_pushed = is.within.all_pushed;
        pushed = is.within.pushed;
        emissions = is.within.emissions;
        nothing = is.within.nothing;
        works = is.within.works;
        vote = is.within.vote;
        emitted_all = is.within.emitted_all;
        hears = is.within.hears;
      };
    })

-- a pull leaves no inbox with more
fewer_set : (ins : List In) (i j : ℕ) (y : In) → length y.parcel.untaken ≤ length (get_or ins i no_in).parcel.untaken → length (get_or (set ins i y) j no_in).parcel.untaken ≤ length (get_or ins j no_in).parcel.untaken
fewer_set [] i j y less = omega arith
fewer_set (x ∷ xs) zero zero y less = less
fewer_set (x ∷ xs) zero (suc j) y less = omega arith
fewer_set (x ∷ xs) (suc i) zero y less = omega arith
fewer_set (x ∷ xs) (suc i) (suc j) y less = fewer_set xs i j y less

drop_less : {X : Type 0} (xs : List X) → length (drop 1 xs) ≤ length xs
drop_less [] = omega arith
drop_less (x ∷ xs) = omega arith

fewer_pulled : (st : State) (o : Option ℕ) → InboxesShrink st (pulled_from st o)
fewer_pulled st None l = omega arith
fewer_pulled st (Some i) l = fewer_set st.ins i (in_index st.dims l) (record (in_at st i) { parcel = with_first_taken (in_at st i).parcel }) (drop_less (in_at st i).parcel.untaken)

-- no pull so far
pub takes_start : {S : Type 0} (R : Rules S) (voting : Bool) (old : State) (prog : S) (sum : ℕ) (spoiled : Bool) → old.phase ≢ Dormant → PullsItems R voting old old prog prog sum sum spoiled spoiled
takes_start R voting old prog sum spoiled begun =
    record { begun = begun; same = refl; ends = λ l. refl; fewer = λ l. omega arith; emissions = refl; kept = λ sent got a. a; taken = λ h rank round next sends sent got v a is. is }

pub takes_more : {S : Type 0} (R : Rules S) → Laws R → (voting : Bool) (old c c' : State) (prog mid prog' : S) (from : ℕ) (x : Item) (sum sum1 sum2 : ℕ) (spoiled now after : Bool) → PullsItems R voting old c prog mid sum sum1 spoiled now
    → c' ≡ pulled_from c (lowest_unread c) → KeepsAgreement c c' → from < ranks c.dims → IsStepOf (Pull from x) c c'
    → TakesOne R voting mid prog' from x sum1 sum2 now after → PullsItems R voting old c' prog prog' sum sum2 spoiled after
takes_more R laws voting old c c' prog mid prog' from x sum sum1 sum2 spoiled now after is new kept below step takes =
    let like : c' ≡ record c { ins = c'.ins; pulled = c'.pulled } =
    subst (λ (t : State). t ≡ record c { ins = t.ins; pulled = t.pulled }) (sym new) (pulled_same c (lowest_unread c)) in
    let dims : c.dims ≡ old.dims = ap (λ (t : State). t.dims) is.same in
    record {
      begun = λ e. is.begun (sym (ap (λ (t : State). t.phase) like) ∙ e);
      same = like ∙ ap (λ (t : State). record t { ins = c'.ins; pulled = c'.pulled }) is.same;
      ends = λ l. subst (λ (t : State). (in_of t l).ended ≡ (in_of c l).ended) (sym new) (ends_pulled c (lowest_unread c) l) ∙ is.ends l;
      fewer = λ l. omega (arith, is.fewer l, subst (λ (t : State). length (in_of t l).parcel.untaken ≤ length (in_of c l).parcel.untaken) (sym new) (fewer_pulled c (lowest_unread c) l));
      emissions = takes.emissions ∙ is.emissions;
      kept = λ sent got a. kept sent got (is.kept sent got a);
      taken = λ h rank round next sends sent got v a t.
          take_on R laws (ranks old.dims) rank h round sends next mid prog' from x sum1 sum2 now after voting (part_of (buffers_of c) sent got) (part_of (buffers_of c') sent got)
          (subst (λ (d : List ℕ). from < ranks d) dims below) v takes (step sent got (is.kept sent got a)) (is.taken h rank round next sends sent got v a t);
    }

-- the last pull, which gives nothing
pub takes_end : {S : Type 0} (R : Rules S) (voting : Bool) (old c c' : State) (prog prog' : S) (sum sum' : ℕ) (spoiled spoiled' : Bool) → PullsItems R voting old c prog prog' sum sum' spoiled spoiled'
    → c' ≡ record c { pulled = None } → KeepsAgreement c c' → IsStepOf Idle c c' → PullsItems R voting old c' prog prog' sum sum' spoiled spoiled'
takes_end R voting old c c' prog prog' sum sum' spoiled spoiled' is new kept step =
    record {
      begun = λ e. is.begun (sym (ap (λ (t : State). t.phase) new) ∙ e);
      same = subst (λ (t : State). t ≡ record old { ins = t.ins; pulled = t.pulled }) (sym new) (ap (λ (t : State). record t { pulled = None }) is.same);
      ends = λ l. ap (λ (t : State). (in_of t l).ended) new ∙ is.ends l;
      fewer = λ l. omega (arith, is.fewer l, ap (λ (t : State). length (in_of t l).parcel.untaken) new);
      emissions = is.emissions;
      kept = λ sent got a. kept sent got (is.kept sent got a);
      taken = λ h rank round next sends sent got v a t.
          taken_same R (ranks old.dims) rank h round sends next prog' sum' spoiled' (part_of (buffers_of c) sent got) (part_of (buffers_of c') sent got)
          (step sent got (is.kept sent got a)).is (is.taken h rank round next sends sent got v a t);
    }

-- pulls after pulls
pub takes_both : {S : Type 0} (R : Rules S) (voting : Bool) (old c c' : State) (prog mid prog' : S) (sum sum1 sum2 : ℕ) (spoiled now after : Bool) → PullsItems R voting old c prog mid sum sum1 spoiled now
    → PullsItems R voting c c' mid prog' sum1 sum2 now after → PullsItems R voting old c' prog prog' sum sum2 spoiled after
takes_both R voting old c c' prog mid prog' sum sum1 sum2 spoiled now after p q =
    let dims : ranks c.dims ≡ ranks old.dims = ap (λ (t : State). ranks t.dims) p.same in
    record {
      begun = q.begun;
      same = q.same ∙ ap (λ (t : State). record t { ins = c'.ins; pulled = c'.pulled }) p.same;
      ends = λ l. q.ends l ∙ p.ends l;
      fewer = λ l. omega (arith, p.fewer l, q.fewer l);
      emissions = q.emissions ∙ p.emissions;
      kept = λ sent got a. q.kept sent got (p.kept sent got a);
      taken = λ h rank round next sends sent got v a t.
          subst (λ n. HasTaken R n rank h round sends next prog' sum2 after (part_of (buffers_of c') sent got)) dims
          (q.taken h rank round next sends sent got v (p.kept sent got a)
          (subst (λ n. HasTaken R n rank h round sends next mid sum1 now (part_of (buffers_of c) sent got)) (sym dims) (p.taken h rank round next sends sent got v a t)));
    }

-- after so many pulls of one inbox as after n, and one more
pub takes_next : {S : Type 0} (R : Rules S) → Laws R → (voting : Bool) (st : State) (n : ℕ) (prog mid prog' : S) (from from' : ℕ) (x : Item) (sum sum1 sum2 : ℕ) (spoiled now after : Bool)
    → PullsItems R voting st (pulls n st) prog mid sum sum1 spoiled now → GivesNext (pulls n st) from x → from' ≡ from → TakesOne R voting mid prog' from' x sum1 sum2 now after
    → PullsItems R voting st (pulls (n + 1) st) prog prog' sum sum2 spoiled after
takes_next R laws voting st n prog mid prog' from from' x sum sum1 sum2 spoiled now after is next same takes =
    subst (λ m. PullsItems R voting st (pulls m st) prog prog' sum sum2 spoiled after) (sym (add-one n))
    (takes_more R laws voting st (pulls n st) (pulls (suc n) st) prog mid prog' from x sum sum1 sum2 spoiled now after is refl next.kept next.sender next.step
    (subst (λ f. TakesOne R voting mid prog' f x sum1 sum2 now after) same takes))

-- and all that is left of it
pub takes_chain : {S : Type 0} (R : Rules S) → Laws R → (voting : Bool) (st : State) (n : ℕ) (prog mid prog' : S) (es : List (ℕ × Item)) (sum sum1 sum2 : ℕ) (spoiled now after : Bool)
    → PullsItems R voting st (pulls n st) prog mid sum sum1 spoiled now → ((i : ℕ) (e : ℕ × Item) → slice_get es i ≡ Some e → GivesNext (pulls (n + i) st) e.0 e.1)
    → Chain R voting mid prog' es sum1 sum2 now after → PullsItems R voting st (pulls (n + length es) st) prog prog' sum sum2 spoiled after
takes_chain R laws voting st n prog mid prog' [] sum sum1 sum2 spoiled now later is gives c =
    subst (λ m. PullsItems R voting st (pulls m st) prog prog' sum sum2 spoiled later) (sym (none_more n))
    (subst (λ b. PullsItems R voting st (pulls n st) prog prog' sum sum2 spoiled b) (sym c.2)
    (subst (λ k. PullsItems R voting st (pulls n st) prog prog' sum k spoiled now) (sym c.1)
    (subst (λ s. PullsItems R voting st (pulls n st) prog s sum sum1 spoiled now) (sym c.0) is)))
takes_chain R laws voting st n prog mid prog' (e ∷ es) sum sum1 sum2 spoiled now later is gives c =
    let one = takes_next R laws voting st n prog mid c.0 e.0 e.0 e.1 sum sum1 c.1 spoiled now c.2 is (subst (λ m. GivesNext (pulls m st) e.0 e.1) (none_more n) (gives 0 e refl)) refl c.3 in
    subst (λ m. PullsItems R voting st (pulls m st) prog prog' sum sum2 spoiled later) (all_more n e es)
    (takes_chain R laws voting st (n + 1) prog c.0 prog' es sum c.1 sum2 spoiled c.2 later one
    (λ i y at. subst (λ m. GivesNext (pulls m st) y.0 y.1) (one_more n i) (gives (suc i) y at)) c.4)

-- entries that are taken are waited for no more
pub fewer_all : (st : State) (n : ℕ) (es : List (ℕ × Item)) → n + waiting (pulls n st).ins ≤ waiting st.ins → ((i : ℕ) (e : ℕ × Item) → slice_get es i ≡ Some e → GivesNext (pulls (n + i) st) e.0 e.1)
    → n + length es + waiting (pulls (n + length es) st).ins ≤ waiting st.ins
fewer_all st n [] is gives = subst (λ m. m + waiting (pulls m st).ins ≤ waiting st.ins) (sym (none_more n)) is
fewer_all st n (e ∷ es) is gives =
    subst (λ m. m + waiting (pulls m st).ins ≤ waiting st.ins) (all_more n e es)
    (fewer_all st (n + 1) es (fewer_next st n e.0 e.1 (waiting st.ins) is (subst (λ m. GivesNext (pulls m st) e.0 e.1) (none_more n) (gives 0 e refl))) (λ i y at. subst (λ m. GivesNext (pulls m st) y.0 y.1) (one_more n i) (gives (suc i) y at)))

-- all of one inbox, where something lies in it
pub takes_batch : {S : Type 0} (R : Rules S) → Laws R → (voting : Bool) (st new : State) (m : ℕ) (prog prog' : S) (es : List (ℕ × Item)) (sum sum' : ℕ) (spoiled spoiled' : Bool) → st.phase ≢ Dormant
    → m ≡ length es → new ≡ pulls m st → 0 < length es → ((i : ℕ) (e : ℕ × Item) → slice_get es i ≡ Some e → GivesNext (pulls i st) e.0 e.1)
    → TakesEach R voting prog prog' es sum sum' spoiled spoiled' → PullsItems R voting st new prog prog' sum sum' spoiled spoiled' × (waiting new.ins < waiting st.ins)
takes_batch R laws voting st new m prog prog' es sum sum' spoiled spoiled' begun count is some gives t =
    let at_end : new ≡ pulls (0 + length es) st = is ∙ ap (λ k. pulls k st) (count ∙ from_none (length es)) in
    let each : (i : ℕ) (e : ℕ × Item) → slice_get es i ≡ Some e → GivesNext (pulls (0 + i) st) e.0 e.1 = λ i e at. subst (λ k. GivesNext (pulls k st) e.0 e.1) (from_none i) (gives i e at) in
    let fewer : 0 + length es + waiting (pulls (0 + length es) st).ins ≤ waiting st.ins = fewer_all st 0 es (omega arith) each in
    let left : waiting new.ins ≡ waiting (pulls (0 + length es) st).ins = ap (λ (x : State). waiting x.ins) at_end in (
      subst (λ x. PullsItems R voting st x prog prog' sum sum' spoiled spoiled') (sym at_end)
          (takes_chain R laws voting st 0 prog prog prog' es sum sum sum' spoiled spoiled spoiled' (takes_start R voting st prog sum spoiled begun) each (each_chain R laws voting prog prog' es sum sum' spoiled spoiled' some t)),
      omega (arith, some, fewer, left),
    )
