-- What the answers of calls on an elastic rank tell of its phase.
use Rattle.std.proofs.Common.{◌≡◌, ◌≢◌, ℕ, ◌-◌, ◌≤◌, Bool, true, false, not, nat_lt, List, [], length, Option, Some, None, Err, refl, sym, ap, ◌∙◌, inl, inr, ◌⊎◌}
use Rattle.std.specs.Prelude.{if◌then◌else◌}
use Rattle.std.proofs.lemmas.Bool.{cases_lt, eqb-true, lt-ltb}
use Rattle.std.proofs.lemmas.List.{nil_from_length}
use Rattle.bale_items.specs.declared.item.Item.{Item}
use Rattle.route_tensor.specs.Grid.{ranks}
use Rattle.hop_core.specs.declared.phase.Phase.{Phase}
use Rattle.hop_core.specs.declared.phase.Phase.TheVariants.{Dormant, Working, Endgame, Cleanup, Complete}
use Rattle.rank_handles.specs.declared.answer.Answer.{Answer}
use Rattle.rank_handles.specs.declared.answer.Answer.TheVariants.{Good, Full, Nothing, More, Near, NoMemory, NotBegun, BegunAlready, DoneAlready, NoSuchRank, NotComplete, Gone, BadNumbers, InUse, RankTaken, NoMoreEpochs, NotLent, TooLong}
use Rattle.rank_handles.specs.declared.answer.Answer.TheVariants as answer
use Rattle.rank_handles.specs.Answers.{while_working, once_begun, when_complete, begin_answer, progress_answer, item_or_nothing, pull_once_begun}
use Rattle.rank_handles.specs.Strings.{ElasticState}
use Rattle.rank_handles.specs.StringCalls.{is_none_pending, string_answer}
use Rattle.rank_handles.proofs.Moves.{progress_begun, progress_undone}

pub good_working : (p : Phase) (a : Answer) → while_working p a ≡ Good → p ≡ Working
good_working Dormant a e = absurd cc
good_working Working a e = refl
good_working Endgame a e = absurd cc
good_working Cleanup a e = absurd cc
good_working Complete a e = absurd cc

pub full_working : (p : Phase) (a : Answer) → while_working p a ≡ Full → p ≡ Working
full_working Dormant a e = absurd cc
full_working Working a e = refl
full_working Endgame a e = absurd cc
full_working Cleanup a e = absurd cc
full_working Complete a e = absurd cc

pub is_full : (a : Answer) → (a ≡ Full) ⊎ (a ≢ Full)
is_full Full = inl refl
is_full Good = inr (λ e. absurd cc)
is_full Nothing = inr (λ e. absurd cc)
is_full More = inr (λ e. absurd cc)
is_full Near = inr (λ e. absurd cc)
is_full answer.Complete = inr (λ e. absurd cc)
is_full NoMemory = inr (λ e. absurd cc)
is_full NotBegun = inr (λ e. absurd cc)
is_full BegunAlready = inr (λ e. absurd cc)
is_full DoneAlready = inr (λ e. absurd cc)
is_full NoSuchRank = inr (λ e. absurd cc)
is_full NotComplete = inr (λ e. absurd cc)
is_full Gone = inr (λ e. absurd cc)
is_full BadNumbers = inr (λ e. absurd cc)
is_full InUse = inr (λ e. absurd cc)
is_full RankTaken = inr (λ e. absurd cc)
is_full NoMoreEpochs = inr (λ e. absurd cc)
is_full NotLent = inr (λ e. absurd cc)
is_full TooLong = inr (λ e. absurd cc)

pub is_good : (a : Answer) → (a ≡ Good) ⊎ (a ≢ Good)
is_good Good = inl refl
is_good Full = inr (λ e. absurd cc)
is_good Nothing = inr (λ e. absurd cc)
is_good More = inr (λ e. absurd cc)
is_good Near = inr (λ e. absurd cc)
is_good answer.Complete = inr (λ e. absurd cc)
is_good NoMemory = inr (λ e. absurd cc)
is_good NotBegun = inr (λ e. absurd cc)
is_good BegunAlready = inr (λ e. absurd cc)
is_good DoneAlready = inr (λ e. absurd cc)
is_good NoSuchRank = inr (λ e. absurd cc)
is_good NotComplete = inr (λ e. absurd cc)
is_good Gone = inr (λ e. absurd cc)
is_good BadNumbers = inr (λ e. absurd cc)
is_good InUse = inr (λ e. absurd cc)
is_good RankTaken = inr (λ e. absurd cc)
is_good NoMoreEpochs = inr (λ e. absurd cc)
is_good NotLent = inr (λ e. absurd cc)
is_good TooLong = inr (λ e. absurd cc)

pub is_working : (p : Phase) → (p ≡ Working) ⊎ (p ≢ Working)
is_working Working = inl refl
is_working Dormant = inr (λ e. absurd cc)
is_working Endgame = inr (λ e. absurd cc)
is_working Cleanup = inr (λ e. absurd cc)
is_working Complete = inr (λ e. absurd cc)

-- a pull that gives nothing from an epoch that has begun finds nothing
item_err : (o : Option (ℕ × Item)) (a : Answer) → item_or_nothing o ≡ Err a → a ≡ Nothing
item_err (Some p) a e = absurd cc
item_err None a e = cc

pub pull_err : (p : Phase) (o : Option (ℕ × Item)) (a : Answer) → p ≢ Dormant → pull_once_begun p (item_or_nothing o) ≡ Err a → a ≡ Nothing
pull_err Dormant o a begun e = absurd (begun refl)
pull_err Working o a begun e = item_err o a e
pull_err Endgame o a begun e = item_err o a e
pull_err Cleanup o a begun e = item_err o a e
pull_err Complete o a begun e = item_err o a e

pub begins_dormant : (p : Phase) → begin_answer p ≡ Good → p ≡ Dormant
begins_dormant Dormant e = refl
begins_dormant Working e = absurd cc
begins_dormant Endgame e = absurd cc
begins_dormant Cleanup e = absurd cc
begins_dormant Complete e = absurd cc

pub ends_complete : (p : Phase) (a : Answer) → when_complete p a ≡ Good → p ≡ Complete
ends_complete Dormant a e = absurd cc
ends_complete Working a e = absurd cc
ends_complete Endgame a e = absurd cc
ends_complete Cleanup a e = absurd cc
ends_complete Complete a e = refl

pub dormant_if : (p q : Phase) (u : Bool) → once_begun p (if u then DoneAlready else progress_answer q) ≡ NotBegun → p ≡ Dormant
dormant_if Dormant q u e = refl
dormant_if Working q true e = absurd cc
dormant_if Endgame q true e = absurd cc
dormant_if Cleanup q true e = absurd cc
dormant_if Complete q true e = absurd cc
dormant_if Working q false e = absurd (progress_begun q e)
dormant_if Endgame q false e = absurd (progress_begun q e)
dormant_if Cleanup q false e = absurd (progress_begun q e)
dormant_if Complete q false e = absurd (progress_begun q e)

pub undone_if : (p q : Phase) (u : Bool) → once_begun p (if u then DoneAlready else progress_answer q) ≡ DoneAlready → u ≡ true
undone_if p q true e = refl
undone_if Dormant q false e = absurd cc
undone_if Working q false e = absurd (progress_undone q e)
undone_if Endgame q false e = absurd (progress_undone q e)
undone_if Cleanup q false e = absurd (progress_undone q e)
undone_if Complete q false e = absurd (progress_undone q e)

pub misuse_or : (p q : Phase) (u : Bool) → (once_begun p (if u then DoneAlready else progress_answer q) ≡ NotBegun)
    ⊎ ((once_begun p (if u then DoneAlready else progress_answer q) ≡ DoneAlready)
    ⊎ ((once_begun p (if u then DoneAlready else progress_answer q) ≢ NotBegun) × (once_begun p (if u then DoneAlready else progress_answer q) ≢ DoneAlready)))
misuse_or Dormant q u = inl refl
misuse_or Working q true = inr (inl refl)
misuse_or Endgame q true = inr (inl refl)
misuse_or Cleanup q true = inr (inl refl)
misuse_or Complete q true = inr (inl refl)
misuse_or Working q false = inr (inr (progress_begun q, progress_undone q))
misuse_or Endgame q false = inr (inr (progress_begun q, progress_undone q))
misuse_or Cleanup q false = inr (inr (progress_begun q, progress_undone q))
misuse_or Complete q false = inr (inr (progress_begun q, progress_undone q))

pub none_nil : (q : List (ℕ × Item)) → is_none_pending q ≡ true → q ≡ []
none_nil q e = nil_from_length q (eqb-true (length q) 0 e)

pub nil_none : (q : List (ℕ × Item)) → q ≡ [] → is_none_pending q ≡ true
nil_none q e = ap is_none_pending e

fits_case : (p : Phase) (rank long none : Bool) → while_working p (if not rank then NoSuchRank else if long then TooLong else if none then Good else Full) ≡ Good
    → (p ≡ Working) × ((rank ≡ true) × ((long ≡ false) × (none ≡ true)))
fits_case Dormant rank long none e = absurd cc
fits_case Endgame rank long none e = absurd cc
fits_case Cleanup rank long none e = absurd cc
fits_case Complete rank long none e = absurd cc
fits_case Working false long none e = absurd cc
fits_case Working true true none e = absurd cc
fits_case Working true false false e = absurd cc
fits_case Working true false true e = (refl, (refl, (refl, refl)))

not_longer : (n : ℕ) → nat_lt 65_535 n ≡ false → n ≤ 65_535
not_longer n e = elim (cases_lt 65_535 n) [
  | inl l ↦ absurd (let k : true ≡ false = sym (lt-ltb 65_535 n l) ∙ e in cc)
  | inr l ↦ l
]

pub string_fits : (s : ElasticState) (bytes : List ℕ) (to : ℕ) → string_answer s bytes to ≡ Good → (s.rank.state.phase ≡ Working) × ((length bytes ≤ 65_535) × (s.pending ≡ []))
string_fits s bytes to good =
    let f = fits_case s.rank.state.phase (nat_lt to (ranks s.rank.state.dims)) (nat_lt 65_535 (length bytes)) (is_none_pending s.pending) good in
    (f.0, (not_longer (length bytes) f.1.1.0, none_nil s.pending f.1.1.1))
