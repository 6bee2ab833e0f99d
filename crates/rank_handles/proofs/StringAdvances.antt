-- An advance of an elastic rank.
use Rattle.std.proofs.Common.{◌≡◌, ◌≢◌, ℕ, ◌&&◌, Bool, true, false, not, List, [], Option, refl, sym, ap, ◌∙◌, subst, inl, inr, ◌⊎◌}
use Rattle.std.specs.Prelude.{if◌then◌else◌}
use Rattle.bale_items.specs.declared.item.Item.{Item}
use Rattle.port_bank.specs.Machine.{Part, after}
use Rattle.hop_core.specs.declared.phase.Phase.TheVariants.{Dormant, Working, Complete}
use Rattle.convey.specs.Buffers.{is_complete}
use Rattle.convey.specs.Progress.{advance_step}
use Rattle.rank_handles.specs.declared.answer.Answer.TheVariants.{NotBegun, DoneAlready}
use Rattle.rank_handles.specs.Seated.{Seated, Moved, part}
use Rattle.rank_handles.specs.Answers.{once_begun, advance_answer, progress_answer}
use Rattle.rank_handles.specs.Calls.{WorksUntilDone, Advances}
use Rattle.rank_handles.specs.Strings.{ElasticState, strings_of}
use Rattle.rank_handles.specs.StringCalls.{Walked, is_none_pending, AdvancesStrings}
use Rattle.rank_handles.specs.ElasticKept.{AreStrings, IsElastic, PendingPushed}
use Rattle.rank_handles.proofs.StringLists.{pushed_same, advance_pushed, advance_pulled, advance_epoch}
use Rattle.rank_handles.proofs.StringWalks.{walked_one, ahead_walked, step_is, read_same}
use Rattle.rank_handles.proofs.StringAnswers.{is_working, dormant_if, undone_if, misuse_or, none_nil, nil_none}
use Rattle.rank_handles.proofs.StringPushes.{elastic_moved}

and_true : (a : Bool) → (a && true) ≡ a
and_true true = refl
and_true false = refl

and_false : (a : Bool) → (a && false) ≡ false
and_false true = refl
and_false false = refl

undone_and : (a b c : Bool) → a ≡ false → (a && b) ≡ (a && c)
undone_and true b c e = absurd cc
undone_and false b c e = refl

first_of : (a b : Bool) → (a && b) ≡ true → a ≡ true
first_of true b e = refl
first_of false b e = absurd cc

bool_cases : (b : Bool) → (b ≡ true) ⊎ (b ≡ false)
bool_cases true = inl refl
bool_cases false = inr refl

module _ (p q : List (ℕ × Item)) (begun : List (List Item)) (done d : Bool) (a b c : Seated) (kept : IsElastic a p begun) (pushed : PendingPushed p a q b) (is : d ≡ (done && is_none_pending q)) (advances : Advances d b c) where
  -- as long as something is pending the rank works
  pending_works : is_none_pending q ≡ false → a.state.phase ≡ Working
  pending_works some = elim (is_working a.state.phase) [
    | inl w ↦ w
    | inr n ↦ absurd (let k : true ≡ false = sym (nil_none q (pushed.none (kept.sent.working n)).0) ∙ some in cc)
  ]

  told : is_none_pending q ≡ true → d ≡ done
  told e = is ∙ ap (λ t. done && t) e ∙ and_true done

  untold : is_none_pending q ≡ false → d ≡ false
  untold e = is ∙ ap (λ t. done && t) e ∙ and_false done

  no_change : (b.state.done && not d) ≡ (a.state.done && not done)
  no_change = ap (λ t. t && not d) pushed.moved.done ∙ (elim (bool_cases (is_none_pending q)) [
    | inl e ↦ ap (λ t. a.state.done && not t) (told e)
    | inr e ↦ undone_and a.state.done (not d) (not done) (kept.undone.working (pending_works e))
  ])

  pub advance_same : advance_answer b d c.state.phase ≡ advance_answer a done c.state.phase
  advance_same = λ i. once_begun (pushed.moved.phase i) (if no_change i then DoneAlready else progress_answer c.state.phase)

  abbrev NoMisuse : Type 0
  NoMisuse = (advance_answer a done c.state.phase ≢ NotBegun) × (advance_answer a done c.state.phase ≢ DoneAlready)

  not_begun_there : NoMisuse → advance_answer b d c.state.phase ≢ NotBegun
  not_begun_there bad e = bad.0 (sym advance_same ∙ e)

  not_done_there : NoMisuse → advance_answer b d c.state.phase ≢ DoneAlready
  not_done_there bad e = bad.1 (sym advance_same ∙ e)

  advance_moved : NoMisuse → Moved (advance_step b.state.done d (is_complete c.state.phase)) c.state.phase b c
  unfolding Advances
  advance_moved bad = advances.advanced (not_begun_there bad) (not_done_there bad)

  advance_is : NoMisuse → part c ≡ after (advance_step b.state.done d (is_complete c.state.phase)) (part b)
  advance_is bad = step_is (advance_step b.state.done d (is_complete c.state.phase)) c.state.phase b c (advance_moved bad)

  advance_works : NoMisuse → WorksUntilDone d c
  unfolding Advances
  advance_works bad = advances.works (not_begun_there bad) (not_done_there bad)

  advance_done : NoMisuse → c.state.done ≡ d
  unfolding Advances
  advance_done bad = advances.done_is (not_begun_there bad) (not_done_there bad)

  epoch_same : NoMisuse → (part c).epoch ≡ (part b).epoch
  epoch_same bad = ap (λ (z : Part). z.epoch) (advance_is bad) ∙ advance_epoch b.state.done d (is_complete c.state.phase) (part b)

  lists_same : NoMisuse → (part c).pushed ≡ (part b).pushed
  lists_same bad = ap (λ (z : Part). z.pushed) (advance_is bad) ∙ advance_pushed b.state.done d (is_complete c.state.phase) (part b)

  taken_same : NoMisuse → (part c).pulled ≡ (part b).pulled
  taken_same bad = ap (λ (z : Part). z.pulled) (advance_is bad) ∙ advance_pulled b.state.done d (is_complete c.state.phase) (part b)

  -- where the rank doesn't work nothing is pending
  idle_none : NoMisuse → c.state.phase ≢ Working → q ≡ []
  idle_none bad idle = elim (bool_cases (is_none_pending q)) [
    | inl e ↦ none_nil q e
    | inr e ↦ absurd (idle ((advance_works bad).working (untold e)))
  ]

  before : IsElastic b q begun
  before = elastic_moved p q begun a b pushed.moved (λ e. (pushed.none e).0) kept

  advanced_kept : NoMisuse → IsElastic c q begun
  advanced_kept bad =
      let walked : Walked b c = walked_one (advance_step b.state.done d (is_complete c.state.phase)) c.state.phase b c (advance_moved bad) in
      record {
        undone = record {
          dormant = λ e. absurd ((advance_works bad).begun e);
          working = λ e. advance_done bad ∙ (advance_works bad).undone e;
        };
        ahead = ahead_walked b c walked before.ahead;
        sent = record {
          working = idle_none bad;
          whole = λ r. subst AreStrings (λ i. sym (pushed_same (part b) (part c) q (epoch_same bad) (lists_same bad)) i (sym (epoch_same bad) i) r) (before.sent.whole r);
        };
        read = read_same b c begun walked.dims (epoch_same bad) (taken_same bad) before.read;
      }

  -- misuse
  misused : (advance_answer a done c.state.phase ≡ NotBegun) ⊎ (advance_answer a done c.state.phase ≡ DoneAlready) → (p ≡ []) × ((q ≡ []) × (c ≡ a))
  unfolding Advances
  misused (inl e) =
      let nothing : p ≡ [] = kept.sent.working (λ w. absurd (let k : Dormant ≡ Working = sym (dormant_if a.state.phase c.state.phase (a.state.done && not done) e) ∙ w in cc)) in
      let none = pushed.none nothing in
      (nothing, (none.0, advances.not_begun (advance_same ∙ e) ∙ none.1))
  misused (inr e) =
      let said : a.state.done ≡ true = first_of a.state.done (not done) (undone_if a.state.phase c.state.phase (a.state.done && not done) e) in
      let nothing : p ≡ [] = kept.sent.working (λ w. absurd (let k : true ≡ false = sym said ∙ kept.undone.working w in cc)) in
      let none = pushed.none nothing in
      (nothing, (none.0, advances.not_undone (advance_same ∙ e) ∙ none.1))

  misused_kept : (p ≡ []) × ((q ≡ []) × (c ≡ a)) → IsElastic c q begun
  misused_kept m = subst (λ (z : Seated × List (ℕ × Item)). IsElastic z.0 z.1 begun) (λ i. (sym m.1.1 i, (m.0 ∙ sym m.1.0) i)) kept

  pub elastic_advanced : IsElastic c q begun
  elastic_advanced = elim (misuse_or a.state.phase c.state.phase (a.state.done && not done)) [
    | inl e ↦ misused_kept (misused (inl e))
    | inr (inl e) ↦ misused_kept (misused (inr e))
    | inr (inr bad) ↦ advanced_kept bad
  ]

  pub strings_advanced : (s : Option (List ℕ)) → AdvancesStrings done (record { rank = a; pending = p; string = s }) (record { rank = c; pending = q; string = s })
  unfolding AdvancesStrings
  strings_advanced s =
      let unchanged : (p ≡ []) × ((q ≡ []) × (c ≡ a)) → ◌≡◌ {A = ElasticState} (record { rank = c; pending = q; string = s }) (record { rank = a; pending = p; string = s }) =
      λ m i. record { rank = m.1.1 i; pending = (m.1.0 ∙ sym m.0) i; string = s } in
      record {
        advanced = λ n u. let bad : NoMisuse = (n, u) in record {
          pushed = b;
          pending = pushed.pushing;
          advanced = subst (λ t. Advances t b c) is advances;
          done_is = advance_done bad ∙ is;
          complete = λ e. idle_none bad (λ w. absurd (let k : Complete ≡ Working = sym e ∙ w in cc));
          same = record {
            toward = ap strings_of (pushed_same (part b) (part c) q (epoch_same bad) (lists_same bad) ∙ pushed.moved.same);
            from = ap strings_of (taken_same bad ∙ pushed.moved.pulled);
          };
          string = refl;
        };
        not_begun = λ e. unchanged (misused (inl e));
        not_undone = λ e. unchanged (misused (inr e));
      }
