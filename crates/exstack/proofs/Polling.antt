-- A poll is steps of the exchange machine.
use Rattle.std.proofs.Common.{◌≡◌, ℕ, ◌-◌, ◌<◌, ◌≤◌, ◌==◌, Bool, true, false, cond, map, List, [], ◌∷◌, ◌++◌, length, take, None, refl, sym, ap, subst, ◌∙◌, arith}
use Rattle.std.proofs.lemmas.Bool.{false≢true}
use Rattle.std.proofs.lemmas.List.{length-map}
use Rattle.std.proofs.lemmas.List.Sums.{get_or-le-sum_by}
use Rattle.bale_items.specs.declared.item.Entry.{Entry}
use Rattle.port_bank.specs.Logs.{Logs}
use Rattle.port_bank.specs.Machine.{IsOwnStep, for_ranks}
use Rattle.port_bank.specs.Machine.Step.{Idle}
use Rattle.port_bank.proofs.Listing.{lists_same}
use Rattle.exstack.specs.declared.stage.Stage.{Stage}
use Rattle.exstack.specs.declared.stage.Stage.TheVariants.{Start, Proceeding, Filling, Exchanging, Full, AllDone}
use Rattle.exstack.specs.declared.stage.Poll.{Poll}
use Rattle.exstack.specs.declared.stage.Poll.TheVariants as poll
use Rattle.exstack.specs.Links.{StackOut, StackIn, no_stack_out, no_stack_in, begun_out, begun_in}
use Rattle.exstack.specs.State.{Stack, stack_out_at, stack_in_at, stack_link_to, stack_link_from, stack_unread, is_proceeding, is_exchanging, may_proceed, may_exchange, may_read, in_proceed, in_exchange, stage_of_exchange}
use Rattle.exstack.specs.Steps.{MadeRound}
use Rattle.exstack.specs.Cycles.{entries_sent, entries_exchanged, items}
use Rattle.exstack.specs.Agreement.{AgreesIn, rounds_in}
use Rattle.exstack.specs.Parts.{stack_pushed_to, popped_of, stack_part, AreOwnSteps, proceed_steps}
use Rattle.exstack.specs.State.{is_all_done}
use Rattle.exstack.specs.Standing.{IsStack}
use Rattle.exstack.proofs.Manners.{Kind}
use Rattle.exstack.proofs.Beginning.{begun_outs, begun_ins, exchange_filling}
use Rattle.exstack.proofs.Pieces.{pushed_after, pulled_after}

-- what a poll leaves of the lists
pub record SameLists (old new : Stack) (sent sent' got got' : Logs) : Type 0 where
  pub pushed : for_ranks old.ranks (stack_pushed_to new sent') ≡ for_ranks old.ranks (stack_pushed_to old sent)
  pub pulled : for_ranks old.ranks (popped_of new got') ≡ for_ranks old.ranks (popped_of old got)

empty_list : (es : List Entry) → length es ≤ 0 → es ≡ []
empty_list [] h = refl
empty_list (e ∷ es) h = absurd (omega arith)

-- nothing is unread, so nothing is of any sender
pub nothing_unread : (st : Stack) → stack_unread st ≡ 0 → (a : ℕ) → a < length st.ins → (stack_in_at st a).unread ≡ []
nothing_unread st none a w = empty_list (stack_in_at st a).unread (omega (arith, get_or-le-sum_by (λ (i : StackIn). length i.unread) st.ins a no_stack_in w, none))

-- as a round begins, where nothing is unread
module _ (cap : ℕ) (st : Stack) (stage : Stage) (done : Bool) (sent got : Logs) (s : IsStack cap st) (read : (a : ℕ) → a < length st.ins → (stack_in_at st a).unread ≡ []) where
  pub begun_lists : SameLists st (record st { stage = stage; done = done; outs = map begun_out st.outs; ins = map begun_in st.ins; popped = None }) sent sent got got
  begun_lists = record {
    pushed = lists_same st.ranks (stack_pushed_to (record st { stage = stage; done = done; outs = map begun_out st.outs; ins = map begun_in st.ins; popped = None }) sent) (stack_pushed_to st sent)
        (λ d q w. ap (λ (o : StackOut). items (entries_sent d (sent (stack_link_to st q))) ++ cond (d == st.epoch) (items o.waiting) []) (begun_outs st.outs q no_stack_out (omega (arith, w, s.all_outs, length-map st.outs begun_out))));
    pulled = lists_same st.ranks (popped_of (record st { stage = stage; done = done; outs = map begun_out st.outs; ins = map begun_in st.ins; popped = None }) got) (popped_of st got)
        (λ d q w. ap (λ es. take (length (items (entries_exchanged d (got (stack_link_from st q)))) - cond (d == st.epoch) (length es) 0) (items (entries_exchanged d (got (stack_link_from st q)))))
        (ap (λ (i : StackIn). i.unread) (begun_ins st.ins q no_stack_in (omega (arith, w, s.all_ins, length-map st.ins begun_in))) ∙ sym (read q (omega (arith, w, s.all_ins)))));
  }

pub proceed_lists : (cap : ℕ) (st : Stack) (done : Bool) (sent got : Logs) → IsStack cap st → stack_unread st ≡ 0 → SameLists st (in_proceed done st) sent sent got got
proceed_lists cap st done sent got s none = by_stage (is_proceeding st.stage)
  where
    by_stage : (b : Bool) → SameLists st (cond b (record st { popped = None }) (record st { stage = Proceeding; done = done; outs = map begun_out st.outs; ins = map begun_in st.ins; popped = None })) sent sent got got
    by_stage true = record { pushed = refl; pulled = refl }
    by_stage false = begun_lists cap st Proceeding done sent got s (nothing_unread st none)

pub exchange_lists : (cap : ℕ) (st : Stack) (sent got : Logs) → IsStack cap st → may_exchange st.stage ≡ true → SameLists st (in_exchange st) sent sent got got
exchange_lists cap st sent got s may = by_stage (is_exchanging st.stage) refl
  where
    by_stage : (b : Bool) → is_exchanging st.stage ≡ b → SameLists st (cond b (record st { popped = None }) (record st { stage = Exchanging; outs = map begun_out st.outs; ins = map begun_in st.ins; popped = None })) sent sent got got
    by_stage true h = record { pushed = refl; pulled = refl }
    by_stage false h =
        let filling : st.stage ≡ Filling = exchange_filling st.stage may h in
        begun_lists cap st Exchanging st.done sent got s (λ a w. (s.each_in a no_stack_in w).read (ap may_read filling))

-- and as it is made
module _ (cap n : ℕ) (st new : Stack) (last exchange : Bool) (sent sent' got got' : Logs) (s : IsStack cap st) (k : Kind st.stage st.done last exchange) (same : new ≡ record st { outs = new.outs; ins = new.ins })
    (m : MadeRound last exchange st new sent sent' got got') (a : AgreesIn n st sent got) where
  pub made_lists : SameLists st new sent sent' got got'
  made_lists = record {
    pushed = ap (λ (t : Stack). for_ranks st.ranks (stack_pushed_to t sent')) same
        ∙ lists_same st.ranks (stack_pushed_to (record st { outs = new.outs; ins = new.ins }) sent') (stack_pushed_to st sent)
        (λ d q w. pushed_after d st.epoch (rounds_in n st.stage) last (stack_out_at st q) (stack_out_at new q) (sent (stack_link_to st q)) (sent' (stack_link_to st q)) (s.each_out q no_stack_out (omega (arith, w, s.all_outs))).due_open (a.outs q w) (m.posted q w));
    pulled = ap (λ (t : Stack). for_ranks st.ranks (popped_of t got')) same
        ∙ lists_same st.ranks (popped_of (record st { outs = new.outs; ins = new.ins }) got') (popped_of st got)
        (λ d q w.
        let was = s.each_in q no_stack_in (omega (arith, w, s.all_ins)) in
        pulled_after d st.epoch n (rounds_in n st.stage) exchange (stack_in_at st q) (stack_in_at new q) (got (stack_link_from st q)) (got' (stack_link_from st q)) was.due_open was.due_empty (a.ins q w) (k.odd n) (k.even n) (m.collected q w));
  }

pub lists_after : (old mid new : Stack) (sent sent' got got' : Logs) → mid.ranks ≡ old.ranks → SameLists old mid sent sent got got → SameLists mid new sent sent' got got' → SameLists old new sent sent' got got'
lists_after old mid new sent sent' got got' ranks p q = record {
  pushed = subst (λ n. for_ranks n (stack_pushed_to new sent') ≡ for_ranks n (stack_pushed_to mid sent)) ranks q.pushed ∙ p.pushed;
  pulled = subst (λ n. for_ranks n (popped_of new got') ≡ for_ranks n (popped_of mid got)) ranks q.pulled ∙ p.pulled;
}

-- the steps by what changed
pub record Polled (old new : Stack) (done : Bool) : Type 0 where
  pub ranks : new.ranks ≡ old.ranks
  pub epoch : new.epoch ≡ old.epoch
  pub done_is : new.done ≡ done
  pub forgotten : new.popped ≡ None

part_is : (old new : Stack) (done : Bool) (sent sent' got got' : Logs) → Polled old new done → SameLists old new sent sent' got got'
    → stack_part new sent' got' ≡ record (stack_part old sent got) { done = done; complete = is_all_done new.stage; latest = None }
part_is old new done sent sent' got got' p l = λ i. record {
  epoch = p.epoch i;
  done = p.done_is i;
  complete = is_all_done new.stage;
  latest = p.forgotten i;
  pushed = pushed i;
  pulled = pulled i;
} where
  pushed : for_ranks new.ranks (stack_pushed_to new sent') ≡ for_ranks old.ranks (stack_pushed_to old sent)
  pushed = ap (λ n. for_ranks n (stack_pushed_to new sent')) p.ranks ∙ l.pushed

  pulled : for_ranks new.ranks (popped_of new got') ≡ for_ranks old.ranks (popped_of old got)
  pulled = ap (λ n. for_ranks n (popped_of new got')) p.ranks ∙ l.pulled

pub idle_poll : (old new : Stack) (sent sent' got got' : Logs) → Polled old new old.done → is_all_done new.stage ≡ is_all_done old.stage → SameLists old new sent sent' got got' → IsOwnStep Idle (stack_part old sent got) (stack_part new sent' got')
idle_poll old new sent sent' got got' p same l = record { may = tt; is = part_is old new old.done sent sent' got got' p l ∙ ap (λ c. record (stack_part old sent got) { complete = c; latest = None }) same }

pub proceed_poll : (old new : Stack) (done : Bool) (sent sent' got got' : Logs) → Polled old new done → (old.done ≡ true → done ≡ true) → is_all_done old.stage ≡ false → SameLists old new sent sent' got got'
    → AreOwnSteps (proceed_steps old.done done (is_all_done new.stage)) (stack_part old sent got) (stack_part new sent' got')
proceed_poll old new done sent sent' got got' p stays not_yet l = by_marks old.done done (is_all_done new.stage) refl refl stays (part_is old new done sent sent' got got' p l)
  where
    by_marks : (was now complete : Bool) → old.done ≡ was → done ≡ now → (was ≡ true → now ≡ true) → stack_part new sent' got' ≡ record (stack_part old sent got) { done = now; complete = complete; latest = None }
        → AreOwnSteps (proceed_steps was now complete) (stack_part old sent got) (stack_part new sent' got')
    by_marks false true true w n keeps is = (record { may = tt; is = refl }, (record { may = tt; is = refl }, is))
    by_marks false true false w n keeps is = (record { may = tt; is = refl }, is ∙ ap (λ c. record (stack_part old sent got) { done = true; complete = c; latest = None }) (sym not_yet))
    by_marks false false true w n keeps is = (record { may = tt; is = refl }, is ∙ ap (λ d. record (stack_part old sent got) { done = d; complete = true; latest = None }) (sym w))
    by_marks false false false w n keeps is =
        (record { may = tt; is = refl }, is ∙ (ap (λ d. record (stack_part old sent got) { done = d; complete = false; latest = None }) (sym w) ∙ ap (λ c. record (stack_part old sent got) { complete = c; latest = None }) (sym not_yet)))
    by_marks true true true w n keeps is = (record { may = tt; is = refl }, is ∙ ap (λ d. record (stack_part old sent got) { done = d; complete = true; latest = None }) (sym w))
    by_marks true true false w n keeps is =
        (record { may = tt; is = refl }, is ∙ (ap (λ d. record (stack_part old sent got) { done = d; complete = false; latest = None }) (sym w) ∙ ap (λ c. record (stack_part old sent got) { complete = c; latest = None }) (sym not_yet)))
    by_marks true false complete w n keeps is = absurd (false≢true (keeps refl))

pub may_not_all : (stage : Stage) → may_proceed stage ≡ true → is_all_done stage ≡ false
may_not_all Start h = refl
may_not_all Proceeding h = refl
may_not_all Filling h = refl
may_not_all Exchanging h = refl
may_not_all Full h = refl
may_not_all AllDone h = absurd (false≢true h)

pub exchange_not_all : (stage : Stage) → may_exchange stage ≡ true → is_all_done stage ≡ false
exchange_not_all Start h = refl
exchange_not_all Proceeding h = refl
exchange_not_all Filling h = refl
exchange_not_all Exchanging h = refl
exchange_not_all Full h = refl
exchange_not_all AllDone h = absurd (false≢true h)

pub exchange_stays : (p : Poll) → false ≡ is_all_done (stage_of_exchange p)
exchange_stays poll.Ready = refl
exchange_stays (poll.NotYet link) = refl

pub exchange_epoch : (st : Stack) → (in_exchange st).epoch ≡ st.epoch
exchange_epoch st = elim (is_exchanging st.stage) as (λ b. (cond b (record st { popped = None }) (record st { stage = Exchanging; outs = map begun_out st.outs; ins = map begun_in st.ins; popped = None })).epoch ≡ st.epoch) [ true ↦ refl | false ↦ refl ]

pub proceed_epoch : (done : Bool) (st : Stack) → (in_proceed done st).epoch ≡ st.epoch
proceed_epoch done st = elim (is_proceeding st.stage) as (λ b. (cond b (record st { popped = None }) (record st { stage = Proceeding; done = done; outs = map begun_out st.outs; ins = map begun_in st.ins; popped = None })).epoch ≡ st.epoch) [ true ↦ refl | false ↦ refl ]
