-- One call after the other.
use Rattle.std.proofs.Common.{◌≡◌, ℕ, zero, suc, ◌+◌, ◌<◌, ◌≤◌, List, [], ◌∷◌, ◌++◌, length, take, drop, get_or, set, ◌-◌, arith, refl, sym, ap, ◌∙◌, subst, ◌≢◌, Bool, true, false, ◌&&◌, nat_lt, Option, Some, None, Err, append-nil}
use Rattle.std.specs.Prelude.{if◌then◌else◌}
use Rattle.std.specs.List.{list_all}
use Rattle.std.proofs.lemmas.Bool.{lt-ltb, le-ltb}
use Rattle.std.proofs.lemmas.List.{drop-set-lt, drop-append-le, take-append-drop}
use Rattle.route_tensor.specs.Grid.{ranks}
use Rattle.port_bank.specs.Machine.Step.{Pull, Idle}
use Rattle.link_slots.specs.SeatView.{BankIdentity, SeatView, posted_on, collected_from}
use Rattle.hop_core.specs.declared.phase.Phase.TheVariants.{Dormant, Working, Endgame, Cleanup, Complete}
use Rattle.hop_core.specs.State.{State, lowest_unread, pull_from, pulled_from, pulls}
use Rattle.convey.specs.Buffers.{buffers_of}
use Rattle.convey.specs.Parts.{part_of}
use Rattle.convey.specs.Conveyors.{AgreesWith, KeepsAgreement, IsStepOf, GivesNext, open_count_toward}
use Rattle.rank_handles.specs.declared.answer.Answer.TheVariants.{Good, Full, Nothing, NoSuchRank}
use Rattle.rank_handles.specs.Answers.{while_working, push_answer, item_or_nothing, pull_once_begun, pull_result}
use Rattle.bale_items.specs.declared.item.Item.{Item}
use Rattle.port_bank.specs.Machine.{Part, Step, MayBy, after}
use Rattle.hop_core.specs.declared.phase.Phase.{Phase}
use Rattle.rank_handles.specs.declared.item.BaleItem.{BaleItem}
use Rattle.rank_handles.specs.Items.{item_of, bale_item}
use Rattle.rank_handles.specs.Seated.{Seated}
use Rattle.rank_handles.specs.Many.{steps_of, after_all, MayAll, RanSteps, then_idle, all_ranks}
use Rattle.rank_handles.specs.declared.statistics.BaleStatistics.{BaleStatistics}
use Rattle.rank_handles.specs.RankAtBank.{IsSeatedHandle, RunOf}
use Rattle.rank_handles.proofs.Moves.{at, seated_still, pulled_phase}

-- one step more
after_more : (steps : List Step) (s : Step) (p : Part) → after_all (steps ++ s ∷ []) p ≡ after s (after_all steps p)
unfolding after_all
after_more [] s p = refl
after_more (t ∷ steps) s p = after_more steps s (after t p)

may_more : (steps : List Step) (s : Step) (p : Part) → MayAll steps p → MayBy s (after_all steps p) → MayAll (steps ++ s ∷ []) p
unfolding after_all MayAll
may_more [] s p all one = (one, tt)
may_more (t ∷ steps) s p all one = (all.0, may_more steps s (after t p) all.1 one)

may_front : (steps : List Step) (s : Step) (p : Part) → MayAll (steps ++ s ∷ []) p → MayAll steps p
unfolding MayAll
may_front [] s p all = tt
may_front (t ∷ steps) s p all = (all.0, may_front steps s (after t p) all.1)

pub run_none : (a : State) → RunOf [] a a
unfolding after_all MayAll
run_none a = record { may = λ sent got h. tt; is = λ sent got h. refl; kept = λ sent got h. h; same = refl }

pub run_more : (steps : List Step) (s : Step) (a b c : State) → RunOf steps a b → IsStepOf s b c → KeepsAgreement b c → c ≡ record b { outs = c.outs; ins = c.ins; pulled = c.pulled }
    → RunOf (steps ++ s ∷ []) a c
run_more steps s a b c run step kept same = record {
  may = λ sent got h. may_more steps s (part_of (buffers_of a) sent got) (run.may sent got h) (subst (λ (p : Part). MayBy s p) (run.is sent got h) (step sent got (run.kept sent got h)).may);
  is = λ sent got h. (step sent got (run.kept sent got h)).is ∙ (ap (after s) (run.is sent got h) ∙ sym (after_more steps s (part_of (buffers_of a) sent got)));
  kept = λ sent got h. kept sent got (run.kept sent got h);
  same = same ∙ ap (λ (t : State). record t { outs = c.outs; ins = c.ins; pulled = c.pulled }) run.same;
}

-- a pull, also right after a call that moved nothing, of which it leaves no trace
run_over : (steps : List Step) (idle : Bool) (s : ℕ) (x : Item) (a b c : State) → RunOf (steps ++ (if idle then Idle ∷ [] else [])) a b → IsStepOf (Pull s x) b c → KeepsAgreement b c
    → c ≡ record b { outs = c.outs; ins = c.ins; pulled = c.pulled } → RunOf (steps ++ Pull s x ∷ []) a c
run_over steps false s x a b c run step kept same = run_more steps (Pull s x) a b c (subst (λ (l : List Step). RunOf l a b) (append-nil steps) run) step kept same
run_over steps true s x a b c run step kept same = record {
  may = λ sent got h. may_more steps (Pull s x) (part_of (buffers_of a) sent got) (may_front steps Idle (part_of (buffers_of a) sent got) (run.may sent got h)) tt;
  is = λ sent got h.
      (step sent got (run.kept sent got h)).is ∙ (ap (after (Pull s x)) (run.is sent got h ∙ after_more steps Idle (part_of (buffers_of a) sent got)) ∙ sym (after_more steps (Pull s x) (part_of (buffers_of a) sent got)));
  kept = λ sent got h. kept sent got (run.kept sent got h);
  same = same ∙ ap (λ (t : State). record t { outs = c.outs; ins = c.ins; pulled = c.pulled }) run.same;
}

pulled_same : (st : State) (o : Option ℕ) → pulled_from st o ≡ record st { outs = (pulled_from st o).outs; ins = (pulled_from st o).ins; pulled = (pulled_from st o).pulled }
pulled_same st None = refl
pulled_same st (Some i) = refl

-- the same of what a push and a look change
pub push_same : (b d : State) → d ≡ record b { outs = d.outs; pulled = None } → d ≡ record b { outs = d.outs; ins = d.ins; pulled = d.pulled }
push_same b d is = is ∙ ap (λ (t : State). record b { outs = d.outs; ins = t.ins; pulled = t.pulled }) (sym is)

pub calm_same : (b d : State) → d ≡ record b { pulled = None } → d ≡ record b { outs = d.outs; ins = d.ins; pulled = d.pulled }
calm_same b d is = is ∙ ap (λ (t : State). record b { outs = t.outs; ins = t.ins; pulled = t.pulled }) (sym is)

pub pulls_phase : (n : ℕ) (st : State) → (pulls n st).phase ≡ st.phase
pulls_phase zero st = refl
pulls_phase (suc n) st = pulled_phase (pulls n st) (lowest_unread (pulls n st)) ∙ pulls_phase n st

pub run_pull : (steps : List Step) (n most : ℕ) (s : ℕ) (x : Item) (a b : State) → RunOf (steps ++ then_idle n most) a b → GivesNext b s x → RunOf (steps ++ Pull s x ∷ []) a (pulled_from b (lowest_unread b))
run_pull steps n most s x a b run next = run_over steps (nat_lt n most) s x a b (pulled_from b (lowest_unread b)) run next.step next.kept (pulled_same b (lowest_unread b))

-- as a rank's calls
pub ran_of : (seat : SeatView) (steps : List Step) (old new : State) → AgreesWith old (posted_on seat) (collected_from seat) → RunOf steps old new → RanSteps steps (at seat old) (at seat new)
unfolding RanSteps
ran_of seat steps old new agrees run = record {
  may = run.may (posted_on seat) (collected_from seat) agrees;
  is = run.is (posted_on seat) (collected_from seat) agrees;
  phase = ap (λ (z : State). z.phase) run.same;
  bank = refl;
  shape = refl;
  rank = ap (λ (z : State). z.rank) run.same;
  dims = ap (λ (z : State). z.dims) run.same;
}

pub seated_of : (bank : BankIdentity) (seat : Option SeatView) (steps : List Step) (old new : State) (count epoch : ℕ) (done : Bool) (statistics : BaleStatistics) → IsSeatedHandle bank seat old count epoch done statistics → RunOf steps old new
    → IsSeatedHandle bank seat new count epoch done statistics
seated_of bank seat steps old new count epoch done statistics was run =
    seated_still bank seat old new count epoch done statistics was run.kept (ap (λ (z : State). z.rank) run.same) (ap (λ (z : State). z.dims) run.same) (ap (λ (z : State). z.phase) run.same)
    (ap (λ (z : State). z.epoch) run.same) (ap (λ (z : State). z.done) run.same)

-- the steps of one item more
steps_more : (make : ℕ → Item → Step) (n : ℕ) (items : List BaleItem) (to : List ℕ) (x : BaleItem) (r : ℕ) → n < length items → n < length to
    → steps_of make (suc n) items to ≡ steps_of make n items to ++ make (get_or to n r) (item_of (get_or items n x)) ∷ []
unfolding steps_of
steps_more make n [] to x r h k = absurd (omega arith)
steps_more make n (y ∷ items) [] x r h k = absurd (omega arith)
steps_more make zero (y ∷ items) (s ∷ to) x r h k = refl
steps_more make (suc n) (y ∷ items) (s ∷ to) x r h k = ap (λ (l : List Step). make s (item_of y) ∷ l) (steps_more make n items to x r (omega arith) (omega arith))

pub steps_plus : (make : ℕ → Item → Step) (n : ℕ) (items : List BaleItem) (to : List ℕ) (x : BaleItem) (r : ℕ) → n < length items → n < length to
    → steps_of make (n + 1) items to ≡ steps_of make n items to ++ make (get_or to n r) (item_of (get_or items n x)) ∷ []
steps_plus make n items to x r h k = (let one : n + 1 ≡ suc n = omega arith in ap (λ (m : ℕ). steps_of make m items to) one) ∙ steps_more make n items to x r h k

-- with its item and its rank set
steps_next : (make : ℕ → Item → Step) (n : ℕ) (items : List BaleItem) (to : List ℕ) (x : BaleItem) (r : ℕ) → n < length items → n < length to
    → steps_of make (suc n) (set items n x) (set to n r) ≡ steps_of make n items to ++ make r (item_of x) ∷ []
unfolding steps_of
steps_next make n [] to x r h k = absurd (omega arith)
steps_next make n (y ∷ items) [] x r h k = absurd (omega arith)
steps_next make zero (y ∷ items) (s ∷ to) x r h k = refl
steps_next make (suc n) (y ∷ items) (s ∷ to) x r h k = ap (λ (l : List Step). make s (item_of y) ∷ l) (steps_next make n items to x r (omega arith) (omega arith))

pub steps_put : (make : ℕ → Item → Step) (n : ℕ) (items : List BaleItem) (to : List ℕ) (x : BaleItem) (r : ℕ) → n < length items → n < length to
    → steps_of make (n + 1) (set items n x) (set to n r) ≡ steps_of make n items to ++ make r (item_of x) ∷ []
steps_put make n items to x r h k = (let one : n + 1 ≡ suc n = omega arith in ap (λ (m : ℕ). steps_of make m (set items n x) (set to n r)) one) ∙ steps_next make n items to x r h k

pub run_zero : (make : ℕ → Item → Step) (items : List BaleItem) (to : List ℕ) (a : State) → RunOf (steps_of make 0 items to) a a
unfolding steps_of
run_zero make items to a = run_none a

-- the call that moved nothing, where there was one
pub run_stopped : (steps : List Step) (n most : ℕ) (a b c : State) → n < most → RunOf steps a b → IsStepOf Idle b c → KeepsAgreement b c
    → c ≡ record b { outs = c.outs; ins = c.ins; pulled = c.pulled } → RunOf (steps ++ then_idle n most) a c
run_stopped steps n most a b c h run step kept same =
    subst (λ (l : Bool). RunOf (steps ++ (if l then Idle ∷ [] else [])) a c) (sym (lt-ltb n most h)) (run_more steps Idle a b c run step kept same)

pub run_through : (steps : List Step) (n most : ℕ) (a b : State) → most ≤ n → RunOf steps a b → RunOf (steps ++ then_idle n most) a b
run_through steps n most a b h run = subst (λ (l : Bool). RunOf (steps ++ (if l then Idle ∷ [] else [])) a b) (sym (le-ltb n most h)) (subst (λ (l : List Step). RunOf l a b) (sym (append-nil steps)) run)

-- what lies past a place that is set
drop_one : {X : Type 0} (n : ℕ) (xs : List X) → drop 1 (drop n xs) ≡ drop (suc n) xs
drop_one zero xs = refl
drop_one (suc n) [] = refl
drop_one (suc n) (x ∷ xs) = drop_one n xs

pub past_set : {X : Type 0} (n k : ℕ) (xs ys : List X) (x : X) → drop (n + k) xs ≡ drop (n + k) ys → drop (n + (k + 1)) (set xs (n + k) x) ≡ drop (n + (k + 1)) ys
past_set n k xs ys x same =
    let next : n + (k + 1) ≡ suc (n + k) = omega arith in
    let past : n + k < n + (k + 1) = omega arith in
    drop-set-lt (n + (k + 1)) xs (n + k) x past
    ∙ (ap (λ m. drop m xs) next ∙ (sym (drop_one (n + k) xs) ∙ (ap (drop 1) same ∙ (drop_one (n + k) ys ∙ ap (λ m. drop m ys) (sym next)))))

past_gap : {X : Type 0} (k n m : ℕ) (xs ys : List X) → m ≡ n + k → drop n xs ≡ drop n ys → drop m xs ≡ drop m ys
past_gap zero n m xs ys e same = let is : n ≡ m = omega (arith, e) in subst (λ i. drop i xs ≡ drop i ys) is same
past_gap (suc k) n m xs ys e same = past_gap k (suc n) m xs ys (omega (arith, e)) (sym (drop_one n xs) ∙ (ap (drop 1) same ∙ drop_one n ys))

pub past_more : {X : Type 0} (n m : ℕ) (xs ys : List X) → n ≤ m → drop n xs ≡ drop n ys → drop m xs ≡ drop m ys
past_more n m xs ys h same = past_gap (m - n) n m xs ys (omega (arith, h)) same

-- and past the part of a list that a call was given
pub past_slice : {X : Type 0} (n k : ℕ) (xs ys : List X) → n ≤ length ys → n ≤ length (take k xs) → drop n ys ≡ drop n (take k xs) → drop n (ys ++ drop k xs) ≡ drop n xs
past_slice n k xs ys h h' same =
    drop-append-le n ys (drop k xs) h ∙ (ap (λ l. l ++ drop k xs) same ∙ (sym (drop-append-le n (take k xs) (drop k xs) h') ∙ ap (drop n) (take-append-drop k xs)))

-- one of the inbox's items more, at its place
pub run_next : (n : ℕ) (k : ℕ) (items : List BaleItem) (to : List ℕ) (y : BaleItem) (s r : ℕ) (x : Item) (a b : State) → n + k < length items → n + k < length to
    → RunOf (steps_of Pull (n + k) items to ++ then_idle k 1) a (pulls k b) → GivesNext (pulls k b) s x → y ≡ bale_item x → r ≡ s
    → RunOf (steps_of Pull (n + (k + 1)) (set items (n + k) y) (set to (n + k) r) ++ then_idle (k + 1) 1) a (pulls (k + 1) b)
run_next n k items to y s r x a b h h' run next is same =
    let all : RunOf (steps_of Pull (n + k) items to ++ Pull s x ∷ []) a (pulls (suc k) b) = run_pull (steps_of Pull (n + k) items to) k 1 s x a (pulls k b) run next in
    let one : suc k ≡ k + 1 = omega arith in
    let more : (n + k) + 1 ≡ n + (k + 1) = omega arith in
    let step : Pull s x ∷ [] ≡ Pull r (item_of y) ∷ [] = ap (λ (q : ℕ). Pull q x ∷ []) (sym same) ∙ ap (λ (z : BaleItem). Pull r (item_of z) ∷ []) (sym is) in
    let steps : steps_of Pull (n + k) items to ++ Pull s x ∷ [] ≡ steps_of Pull (n + (k + 1)) (set items (n + k) y) (set to (n + k) r) =
    ap (λ (l : List Step). steps_of Pull (n + k) items to ++ l) step ∙ (sym (steps_put Pull (n + k) items to y r h h') ∙ ap (λ (m : ℕ). steps_of Pull m (set items (n + k) y) (set to (n + k) r)) more) in
    run_through (steps_of Pull (n + (k + 1)) (set items (n + k) y) (set to (n + k) r)) (k + 1) 1 a (pulls (k + 1) b) (omega arith)
    (subst (λ (m : ℕ). RunOf (steps_of Pull (n + (k + 1)) (set items (n + k) y) (set to (n + k) r)) a (pulls m b)) one (subst (λ (l : List Step). RunOf l a (pulls (suc k) b)) steps all))

-- where something was moved no idle call is left
pub run_some : (steps : List Step) (n : ℕ) (a b : State) → 1 ≤ n → RunOf (steps ++ then_idle n 1) a b → RunOf steps a b
run_some steps n a b some run =
    subst (λ (l : List Step). RunOf l a b) (append-nil steps) (subst (λ (l : Bool). RunOf (steps ++ (if l then Idle ∷ [] else [])) a b) (le-ltb n 1 some) run)

-- a push that is refused for no misuse is refused for room
left : (a b : Bool) → (a && b) ≡ true → a ≡ true
left true b e = refl
left false b e = absurd cc

right : (a b : Bool) → (a && b) ≡ true → b ≡ true
right true b e = e
right false b e = absurd cc

pub ranks_none : (n : ℕ) → true ≡ all_ranks n []
unfolding all_ranks
ranks_none n = refl

and_true : (a : Bool) → (a && true) ≡ (true && a)
and_true true = refl
and_true false = refl

and_both : (a b c : Bool) → (a && (b && c)) ≡ ((a && b) && c)
and_both true b c = refl
and_both false b c = refl

pub with_true : (a : Bool) → a ≡ (a && true)
with_true true = refl
with_true false = refl

pub with_false : (a : Bool) → false ≡ (a && false)
with_false true = refl
with_false false = refl

ranks_more : (n : ℕ) (to : List ℕ) (k : ℕ) → k < length to → all_ranks n (take (suc k) to) ≡ (all_ranks n (take k to) && nat_lt (get_or to k 0) n)
unfolding all_ranks
ranks_more n [] k h = absurd (omega arith)
ranks_more n (r ∷ to) zero h = and_true (nat_lt r n)
ranks_more n (r ∷ to) (suc k) h =
    ap (λ (b : Bool). nat_lt r n && b) (ranks_more n to k (omega arith)) ∙ and_both (nat_lt r n) (list_all (λ q. nat_lt q n) (take k to)) (nat_lt (get_or to k 0) n)

-- one destination more is looked at
pub ranks_next : (n : ℕ) (to : List ℕ) (k : ℕ) (good more is : Bool) → k < length to → good ≡ all_ranks n (take k to) → nat_lt (get_or to k 0) n ≡ is → more ≡ (good && is) → more ≡ all_ranks n (take (k + 1) to)
ranks_next n to k good more is h before last now =
    let one : suc k ≡ k + 1 = omega arith in
    now ∙ (ap (λ (b : Bool). b && is) before ∙ (ap (λ (b : Bool). all_ranks n (take k to) && b) (sym last) ∙ (sym (ranks_more n to k h) ∙ ap (λ m. all_ranks n (take m to)) one)))

pub rank_at : (n : ℕ) (to : List ℕ) (k : ℕ) → k < length to → all_ranks n to ≡ true → nat_lt (get_or to k 0) n ≡ true
unfolding all_ranks
rank_at n [] k h e = absurd (omega arith)
rank_at n (r ∷ to) zero h e = left (nat_lt r n) (list_all (λ q. nat_lt q n) to) e
rank_at n (r ∷ to) (suc k) h e = rank_at n to k (omega arith) (right (nat_lt r n) (list_all (λ q. nat_lt q n) to) e)

full : (p : Phase) (rank room : Bool) → p ≡ Working → rank ≡ true → room ≡ false → while_working p (if rank then (if room then Good else Full) else NoSuchRank) ≡ Full
full Working true false working is none = refl
full Working true true working is none = absurd cc
full Working false room working is none = absurd cc
full Dormant rank room working is none = absurd cc
full Endgame rank room working is none = absurd cc
full Cleanup rank room working is none = absurd cc
full Complete rank room working is none = absurd cc

pub push_full : (s : Seated) (to : ℕ) → s.state.phase ≡ Working → nat_lt to (ranks s.state.dims) ≡ true → s.state.cap ≤ open_count_toward s.state to → push_answer s to ≡ Full
push_full s to working is most =
    full s.state.phase (nat_lt to (ranks s.state.dims)) (nat_lt (open_count_toward s.state to) s.state.cap) working is (le-ltb (open_count_toward s.state to) s.state.cap most)

-- where nothing is unread a pull finds none
none_came : (p : Phase) → p ≢ Dormant → pull_once_begun p (Err Nothing) ≡ Err Nothing
none_came Dormant begun = absurd (begun refl)
none_came Working begun = refl
none_came Endgame begun = refl
none_came Cleanup begun = refl
none_came Complete begun = refl

pub pull_none : (s : Seated) → s.state.phase ≢ Dormant → lowest_unread s.state ≡ None → pull_result s ≡ Err Nothing
pull_none s begun none = ap (λ (l : Option ℕ). pull_once_begun s.state.phase (item_or_nothing (pull_from s.state l))) none ∙ none_came s.state.phase begun
