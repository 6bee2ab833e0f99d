-- From what a conveyor's call tells to what a rank's call tells.
use Rattle.std.proofs.Common.{◌≡◌, ◌≢◌, ◌<◌, ℕ, Bool, true, false, refl, sym, ap, ◌∙◌, subst, nat_lt, Option, Some, None, Result, Err, IfOk, IfSome, not}
use Rattle.std.specs.Prelude.{if◌then◌else◌, is_some}
use Rattle.std.proofs.lemmas.Bool.{lt-ltb}
use Rattle.bale_items.specs.declared.item.Item.{Item}
use Rattle.route_tensor.specs.Grid.{ranks}
use Rattle.port_bank.specs.Machine.{Step, IsOwnStep}
use Rattle.port_bank.specs.Machine.Step.{Push, Pull, Unpull, Reset, Idle}
use Rattle.convey.specs.Buffers.{is_complete}
use Rattle.convey.specs.Progress.{advance_step}
use Rattle.link_slots.specs.SeatView.{BankIdentity, SeatView, posted_on, collected_from}
use Rattle.hop_core.specs.declared.phase.Phase.{Phase}
use Rattle.hop_core.specs.declared.phase.Phase.TheVariants.{Dormant, Working, Endgame, Cleanup, Complete}
use Rattle.hop_core.specs.State.{State, phase_of, pulled_from, after_unpull, all_closed, all_read}
use Rattle.convey.specs.Conveyors.{AgreesWith, IsStepOf, KeepsAgreement, open_count_toward}
use Rattle.rank_handles.specs.declared.answer.Answer.{Answer}
use Rattle.rank_handles.specs.declared.answer.Answer.TheVariants.{Good, Full, Nothing, NotBegun, DoneAlready, NoSuchRank, NoMoreEpochs}
use Rattle.rank_handles.specs.Seated.{Seated, Moved, part}
use Rattle.rank_handles.specs.Answers.{while_working, once_begun, when_complete, progress_answer, push_answer, pull_result, advance_answer, reset_answer, item_or_nothing, pull_once_begun}
use Rattle.rank_handles.specs.Calls.{WorksUntilDone, Pushes, Pulls, Unpulls, Advances, Resets}
use Rattle.rank_handles.specs.declared.statistics.BaleStatistics.{BaleStatistics}
use Rattle.rank_handles.specs.RankAtBank.{seat_in, IsAtBank, IsSeatedHandle}

-- a rank at its seat
abbrev pub at : SeatView → State → Seated
at seat st = record { seat = seat; state = st }

-- a call that its port doesn't see
pub moved : (seat : SeatView) (old new : State) (step : Step) (phase : Phase) → AgreesWith old (posted_on seat) (collected_from seat) → IsStepOf step old new
    → new.phase ≡ phase → new.rank ≡ old.rank → new.dims ≡ old.dims → Moved step phase (at seat old) (at seat new)
unfolding Moved
moved seat old new step phase agrees is phase_is rank dims = record {
  step_of = is (posted_on seat) (collected_from seat) agrees;
  phase_is = phase_is;
  bank = refl;
  shape = refl;
  rank = rank;
  dims = dims;
}

-- a call that its port sees
pub moved_on : (bank bank' : BankIdentity) (seat seat' : SeatView) (old new : State) (step : Step) → bank' ≡ bank → IsAtBank bank seat old → IsAtBank bank' seat' new
    → new.rank ≡ old.rank → new.dims ≡ old.dims → IsOwnStep step (part (at seat old)) (part (at seat' new)) → Moved step new.phase (at seat old) (at seat' new)
unfolding Moved
moved_on bank bank' seat seat' old new step same was now rank dims is = record {
  step_of = is;
  phase_is = refl;
  bank = now.id ∙ (ap (λ (b : BankIdentity). b.id) same ∙ sym was.id);
  shape = now.shape ∙ (ap (λ (b : BankIdentity). b.shape) same ∙ sym was.shape);
  rank = rank;
  dims = dims;
}

-- a call that leaves the rank where it was, as its counts see it
pub seated_still : (bank : BankIdentity) (seat : Option SeatView) (old new : State) (count epoch : ℕ) (done : Bool) (statistics : BaleStatistics) → IsSeatedHandle bank seat old count epoch done statistics → KeepsAgreement old new
    → new.rank ≡ old.rank → new.dims ≡ old.dims → new.phase ≡ old.phase → new.epoch ≡ old.epoch → new.done ≡ old.done → IsSeatedHandle bank seat new count epoch done statistics
seated_still bank seat old new count epoch done statistics was kept rank dims phase same_epoch same_done = record {
  there = was.there;
  at_bank = record {
    id = was.at_bank.id;
    shape = was.at_bank.shape;
    rank = was.at_bank.rank ∙ sym rank;
    dims = was.at_bank.dims ∙ sym dims;
    agrees = kept (posted_on (seat_in seat)) (collected_from (seat_in seat)) was.at_bank.agrees;
    dormant = λ e. same_done ∙ was.at_bank.dormant (sym phase ∙ e);
    working = λ e. same_done ∙ was.at_bank.working (sym phase ∙ e);
  };
  count_is = was.count_is ∙ ap ranks (sym dims);
  epoch_is = was.epoch_is ∙ sym same_epoch;
  done_is = was.done_is ∙ sym same_done;
  counted = was.counted;
}

-- what a pull leaves as it was
pub pulled_phase : (st : State) (l : Option ℕ) → (pulled_from st l).phase ≡ st.phase
pulled_phase st None = refl
pulled_phase st (Some l) = refl

pub pulled_rank : (st : State) (l : Option ℕ) → (pulled_from st l).rank ≡ st.rank
pulled_rank st None = refl
pulled_rank st (Some l) = refl

pub pulled_dims : (st : State) (l : Option ℕ) → (pulled_from st l).dims ≡ st.dims
pulled_dims st None = refl
pulled_dims st (Some l) = refl

pub pulled_epoch : (st : State) (l : Option ℕ) → (pulled_from st l).epoch ≡ st.epoch
pulled_epoch st None = refl
pulled_epoch st (Some l) = refl

pub pulled_done : (st : State) (l : Option ℕ) → (pulled_from st l).done ≡ st.done
pulled_done st None = refl
pulled_done st (Some l) = refl

pub begun_pull : (p : Phase) (r : Result (ℕ × Item) Answer) → p ≢ Dormant → r ≡ pull_once_begun p r
begun_pull Dormant r not = absurd (not refl)
begun_pull Working r not = refl
begun_pull Endgame r not = refl
begun_pull Cleanup r not = refl
begun_pull Complete r not = refl

pub never_not_begun : (o : Option (ℕ × Item)) → item_or_nothing o ≡ Err NotBegun → ⊥
never_not_begun (Some p) e = absurd cc
never_not_begun None e = absurd cc

-- what an item's sender is, and that none was given
pub sender_ok : (n : ℕ) (o : Option (ℕ × Item)) → IfSome o (λ p. p.0 < n) → IfOk (item_or_nothing o) (λ p. p.0 < n)
sender_ok n (Some p) h = h
sender_ok n None h = tt

pub none_given : (o : Option (ℕ × Item)) → item_or_nothing o ≡ Err Nothing → o ≡ None
none_given (Some p) e = absurd cc
none_given None e = refl

-- a pull, by whether it gave an item
pub pull_moved : (seat : SeatView) (old new : State) (o : Option (ℕ × Item)) → AgreesWith old (posted_on seat) (collected_from seat)
    → IfSome o (λ p. IsStepOf (Pull p.0 p.1) old new) → (o ≡ None → IsStepOf Idle old new) → new.phase ≡ old.phase → new.rank ≡ old.rank → new.dims ≡ old.dims
    → IfOk (item_or_nothing o) (λ p. Moved (Pull p.0 p.1) old.phase (at seat old) (at seat new)) × (item_or_nothing o ≡ Err Nothing → Moved Idle old.phase (at seat old) (at seat new))
pull_moved seat old new (Some p) agrees item none phase rank dims = (moved seat old new (Pull p.0 p.1) old.phase agrees item phase rank dims, λ e. absurd cc)
pull_moved seat old new None agrees item none phase rank dims = (tt, λ e. moved seat old new Idle old.phase agrees (none refl) phase rank dims)

-- a rank whose phase is Working by what it has left isn't done
not_done : (done sending unread : Bool) → (if not done then Working else if sending then Endgame else if unread then Cleanup else Complete) ≡ Working → done ≡ false
not_done false sending unread e = refl
not_done true true unread e = absurd cc
not_done true false true e = absurd cc
not_done true false false e = absurd cc

pub working_not_done : (st : State) → st.phase ≡ phase_of st → st.phase ≡ Working → st.done ≡ false
unfolding phase_of
working_not_done st is working = not_done st.done (not (all_closed st.outs)) (not (all_read st)) (sym is ∙ working)

-- what a call leaves, by what it answers
pub pushes_good : (item : Item) (to : ℕ) (s t : Seated) → push_answer s to ≡ Good → t.seat ≡ s.seat → Moved (Push to item) Working s t → Pushes item to s t
unfolding Pushes
pushes_good item to s t good links moved = record { links = links; pushed = λ e. moved; full = λ e. absurd (let k : Good ≡ Full = sym good ∙ e in cc); still_full = λ e. absurd (let k : Good ≡ Full = sym good ∙ e in cc); misuse = λ not _. absurd (not good) }

pub pushes_full : (item : Item) (to : ℕ) (s t : Seated) → push_answer s to ≡ Full → push_answer t to ≡ Full → t.seat ≡ s.seat → Moved Idle Working s t → Pushes item to s t
unfolding Pushes
pushes_full item to s t full still links moved = record { links = links; pushed = λ e. absurd (let k : Full ≡ Good = sym full ∙ e in cc); full = λ e. moved; still_full = λ e. still; misuse = λ _ not. absurd (not full) }

pub resets_good : (s t : Seated) → reset_answer s ≡ Good → t.seat ≡ s.seat → Moved Reset Dormant s t → Resets s t
unfolding Resets
resets_good s t good links moved = record { links = links; ended = λ e. moved; misuse = λ not. absurd (not good) }

pub advances_on : (done : Bool) (s t : Seated) → advance_answer s done t.state.phase ≢ NotBegun → advance_answer s done t.state.phase ≢ DoneAlready
    → Moved (advance_step s.state.done done (is_complete t.state.phase)) t.state.phase s t → t.state.done ≡ done → WorksUntilDone done t → Advances done s t
unfolding Advances
advances_on done s t begun undone moved is works = record { advanced = λ _ _. moved; done_is = λ _ _. is; works = λ _ _. works; not_begun = λ e. absurd (begun e); not_undone = λ e. absurd (undone e) }

pub pulls_begun : (s t : Seated) (r : Result (ℕ × Item) Answer) → r ≡ pull_result s → (r ≡ Err NotBegun → ⊥) → t.seat ≡ s.seat → IfOk r (λ p. Moved (Pull p.0 p.1) s.state.phase s t)
    → (r ≡ Err Nothing → Moved Idle s.state.phase s t) → IfOk r (λ p. p.0 < ranks s.state.dims) → (r ≡ Err Nothing → pull_result t ≡ Err Nothing) → Pulls s t
unfolding Pulls
pulls_begun s t r is begun links pulled nothing sender still = record {
  links = links;
  sender = subst (λ (q : Result (ℕ × Item) Answer). IfOk q (λ p. p.0 < ranks s.state.dims)) is sender;
  still_none = λ e. still (is ∙ e);
  pulled = subst (λ (q : Result (ℕ × Item) Answer). IfOk q (λ p. Moved (Pull p.0 p.1) s.state.phase s t)) is pulled;
  nothing = λ e. nothing (is ∙ e);
  misuse = λ e. absurd (begun (is ∙ e));
}

-- what an unpull leaves, by whether it put an item back
pub unpulled_phase : (st : State) (l : Option ℕ) → (after_unpull st l).phase ≡ st.phase
unpulled_phase st None = refl
unpulled_phase st (Some l) = refl

pub unpulled_rank : (st : State) (l : Option ℕ) → (after_unpull st l).rank ≡ st.rank
unpulled_rank st None = refl
unpulled_rank st (Some l) = refl

pub unpulled_dims : (st : State) (l : Option ℕ) → (after_unpull st l).dims ≡ st.dims
unpulled_dims st None = refl
unpulled_dims st (Some l) = refl

was_pulled : (b : Bool) → (if b then Good else Nothing) ≡ Good → b ≡ true
was_pulled true e = refl
was_pulled false e = absurd cc

none_pulled : (b : Bool) → (if b then Good else Nothing) ≡ Nothing → b ≡ false
none_pulled true e = absurd cc
none_pulled false e = refl

pub unpulls_by : (s t : Seated) (b : Bool) → b ≡ is_some s.state.pulled → t.seat ≡ s.seat → (b ≡ true → Moved Unpull s.state.phase s t) → (b ≡ false → Moved Idle s.state.phase s t) → Unpulls s t
unfolding Unpulls
unpulls_by s t b is links back none = record {
  links = links;
  put_back = λ good. back (is ∙ was_pulled (is_some s.state.pulled) good);
  nothing = λ not. none (is ∙ none_pulled (is_some s.state.pulled) not);
}

-- answers that are no misuse
room : (p : Phase) (rank there : Bool) → p ≡ Working → rank ≡ true → there ≡ true → while_working p (if rank then (if there then Good else Full) else NoSuchRank) ≡ Good
room Working true true working is some = refl
room Working true false working is some = absurd cc
room Working false there working is some = absurd cc
room Dormant rank there working is some = absurd cc
room Endgame rank there working is some = absurd cc
room Cleanup rank there working is some = absurd cc
room Complete rank there working is some = absurd cc

pub push_good : (s : Seated) (to : ℕ) → s.state.phase ≡ Working → nat_lt to (ranks s.state.dims) ≡ true → open_count_toward s.state to < s.state.cap → push_answer s to ≡ Good
push_good s to working is less =
    room s.state.phase (nat_lt to (ranks s.state.dims)) (nat_lt (open_count_toward s.state to) s.state.cap) working is (lt-ltb (open_count_toward s.state to) s.state.cap less)

pub all_good : (p : Phase) (ranks : Bool) → p ≡ Working → ranks ≡ true → while_working p (if ranks then Good else NoSuchRank) ≡ Good
all_good Working true working is = refl
all_good Working false working is = absurd cc
all_good Dormant ranks working is = absurd cc
all_good Endgame ranks working is = absurd cc
all_good Cleanup ranks working is = absurd cc
all_good Complete ranks working is = absurd cc

pub begun_good : (p : Phase) → p ≢ Dormant → once_begun p Good ≡ Good
begun_good Dormant begun = absurd (begun refl)
begun_good Working begun = refl
begun_good Endgame begun = refl
begun_good Cleanup begun = refl
begun_good Complete begun = refl

pub ended_good : (p : Phase) (number : Bool) → p ≡ Complete → number ≡ true → when_complete p (if number then Good else NoMoreEpochs) ≡ Good
ended_good Complete true complete is = refl
ended_good Complete false complete is = absurd cc
ended_good Dormant number complete is = absurd cc
ended_good Working number complete is = absurd cc
ended_good Endgame number complete is = absurd cc
ended_good Cleanup number complete is = absurd cc

pub advanced_answer : (p q : Phase) (undone : Bool) → p ≢ Dormant → undone ≡ false → once_begun p (if undone then DoneAlready else progress_answer q) ≡ progress_answer q
advanced_answer Dormant q undone begun is = absurd (begun refl)
advanced_answer Working q false begun is = refl
advanced_answer Endgame q false begun is = refl
advanced_answer Cleanup q false begun is = refl
advanced_answer Complete q false begun is = refl
advanced_answer Working q true begun is = absurd cc
advanced_answer Endgame q true begun is = absurd cc
advanced_answer Cleanup q true begun is = absurd cc
advanced_answer Complete q true begun is = absurd cc

pub progress_begun : (q : Phase) → progress_answer q ≢ NotBegun
progress_begun Dormant e = absurd cc
progress_begun Working e = absurd cc
progress_begun Endgame e = absurd cc
progress_begun Cleanup e = absurd cc
progress_begun Complete e = absurd cc

pub progress_undone : (q : Phase) → progress_answer q ≢ DoneAlready
progress_undone Dormant e = absurd cc
progress_undone Working e = absurd cc
progress_undone Endgame e = absurd cc
progress_undone Cleanup e = absurd cc
progress_undone Complete e = absurd cc
