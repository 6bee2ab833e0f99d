-- Pushing what is pending, and a string.
use Rattle.std.proofs.Common.{◌≡◌, ◌≢◌, ◌<◌, ℕ, not, List, [], ◌∷◌, map, Option, refl, sym, ap, ◌∙◌, subst, inl, inr}
use Rattle.std.specs.List.{All}
use Rattle.bale_items.specs.declared.item.Item.{Item}
use Rattle.port_bank.specs.Machine.{Part}
use Rattle.port_bank.specs.Machine.Step.{Push, Idle}
use Rattle.hop_core.specs.declared.phase.Phase.TheVariants.{Working}
use Rattle.elastic.specs.Spelling.{IsLetter, spelling}
use Rattle.rank_handles.specs.declared.answer.Answer.TheVariants.{Good, Full}
use Rattle.rank_handles.specs.Seated.{Seated, part}
use Rattle.rank_handles.specs.Answers.{push_answer}
use Rattle.rank_handles.specs.Calls.{Pushes}
use Rattle.rank_handles.specs.Strings.{ElasticState, pushed_with, strings_of}
use Rattle.rank_handles.specs.StringCalls.{PushesString, string_answer}
use Rattle.rank_handles.specs.ElasticKept.{AreStrings, IsSent, IsElastic, PendingMoved, PendingPushed}
use Rattle.rank_handles.proofs.StringLists.{pushed_one, strings_pending, whole_pending}
use Rattle.rank_handles.proofs.StringWalks.{walked_none, walked_one, walked_both, ahead_walked, step_is, phase_after, read_same, undone_same}
use Rattle.rank_handles.proofs.StringAnswers.{good_working, full_working, is_full, string_fits}

pub pending_none : (pending : List (ℕ × Item)) (a : Seated) → PendingMoved pending a pending a
pending_none pending a = record { walked = walked_none a; phase = refl; done = refl; epoch = refl; pulled = refl; same = refl }

pending_both : (p q r : List (ℕ × Item)) (a b c : Seated) → PendingMoved p a q b → PendingMoved q b r c → PendingMoved p a r c
pending_both p q r a b c x y = record {
  walked = walked_both a b c x.walked y.walked;
  phase = y.phase ∙ x.phase;
  done = y.done ∙ x.done;
  epoch = y.epoch ∙ x.epoch;
  pulled = y.pulled ∙ x.pulled;
  same = y.same ∙ x.same;
}

one_pushed : (d : ℕ) (x : Item) (rest : List (ℕ × Item)) (b c : Seated) → push_answer b d ≡ Good → Pushes x d b c → PendingMoved ((d, x) ∷ rest) b rest c
unfolding Pushes
one_pushed d x rest b c good pushes =
    let m = pushes.pushed good in let is = step_is (Push d x) Working b c m in
    record {
      walked = walked_one (Push d x) Working b c m;
      phase = phase_after (Push d x) Working b c m ∙ sym (good_working b.state.phase _ good);
      done = ap (λ (p : Part). p.done) is;
      epoch = ap (λ (p : Part). p.epoch) is;
      pulled = ap (λ (p : Part). p.pulled) is;
      same = ap (λ (p : Part). pushed_with p rest) is ∙ pushed_one (part b) d x rest;
    }

-- one item more was pushed
pub pending_more : (p q r : List (ℕ × Item)) (d : ℕ) (x : Item) (a b c : Seated) → PendingMoved p a q b → q ≡ (d, x) ∷ r → push_answer b d ≡ Good → Pushes x d b c → PendingMoved p a r c
pending_more p q r d x a b c moved is good pushes =
    pending_both p ((d, x) ∷ r) r a b c (subst (λ (l : List (ℕ × Item)). PendingMoved p a l b) is moved) (one_pushed d x r b c good pushes)

none_pushed : (pending : List (ℕ × Item)) (d : ℕ) (x : Item) (b c : Seated) → push_answer b d ≢ Good → Pushes x d b c → PendingMoved pending b pending c × (push_answer c d ≢ Good)
unfolding Pushes
none_pushed pending d x b c bad pushes =
    elim (is_full (push_answer b d)) [
      | inl full ↦
          let m = pushes.full full in let is = step_is Idle Working b c m in (
            record {
              walked = walked_one Idle Working b c m;
              phase = phase_after Idle Working b c m ∙ sym (full_working b.state.phase _ full);
              done = ap (λ (p : Part). p.done) is;
              epoch = ap (λ (p : Part). p.epoch) is;
              pulled = ap (λ (p : Part). p.pulled) is;
              same = ap (λ (p : Part). pushed_with p pending) is;
            },
            λ e. absurd (let k : Full ≡ Good = sym (pushes.still_full full) ∙ e in cc),
          )
      | inr other ↦
          let same : c ≡ b = pushes.misuse bad other in (
            subst (λ (s : Seated). PendingMoved pending b pending s) (sym same) (pending_none pending b),
            λ e. bad (ap (λ (s : Seated). push_answer s d) (sym same) ∙ e),
          )
    ]

abbrev first_rank : List (ℕ × Item) → ℕ
first_rank [] = 0
first_rank (e ∷ es) = e.0

-- the next one found no room
pub pending_stuck : (p q r : List (ℕ × Item)) (d : ℕ) (x : Item) (a b c : Seated) → PendingMoved p a q b → q ≡ (d, x) ∷ r → push_answer b d ≢ Good → Pushes x d b c → (p ≡ [] → ⊥) → PendingPushed p a q c
pending_stuck p q r d x a b c moved is bad pushes some =
    let one = none_pushed q d x b c bad pushes in let all = pending_both p q q a b c moved one.0 in
    record {
      pushing = record {
        walked = all.walked;
        phase = all.phase;
        stuck = λ d' x' rest e.
            let same : (d, x) ∷ r ≡ (d', x') ∷ rest = sym is ∙ e in
            subst (λ (n : ℕ). push_answer c n ≢ Good) (ap first_rank same) one.1;
      };
      moved = all;
      none = λ e. absurd (some e);
    }

-- all were pushed
pub pending_all : (p q : List (ℕ × Item)) (a b : Seated) → PendingMoved p a q b → q ≡ [] → (p ≡ [] → b ≡ a) → PendingPushed p a q b
pending_all p q a b moved is none = record {
  pushing = record {
    walked = moved.walked;
    phase = moved.phase;
    stuck = λ d x rest e. absurd (let k : [] ≡ (d, x) ∷ rest = sym is ∙ e in cc);
  };
  moved = moved;
  none = λ e. (is, none e);
}

-- what it keeps of an elastic rank
sent_moved : (p q : List (ℕ × Item)) (a b : Seated) → PendingMoved p a q b → (p ≡ [] → q ≡ []) → IsSent a p → IsSent b q
sent_moved p q a b moved none sent = record {
  working = λ not. none (sent.working (λ e. not (moved.phase ∙ e)));
  whole = λ r. subst AreStrings (λ i. sym moved.same i (sym moved.epoch i) r) (sent.whole r);
}

pub elastic_moved : (p q : List (ℕ × Item)) (begun : List (List Item)) (a b : Seated) → PendingMoved p a q b → (p ≡ [] → q ≡ []) → IsElastic a p begun → IsElastic b q begun
elastic_moved p q begun a b moved none kept = record {
  undone = undone_same a b moved.phase moved.done kept.undone;
  ahead = ahead_walked a b moved.walked kept.ahead;
  sent = sent_moved p q a b moved none kept.sent;
  read = read_same a b begun moved.walked.dims moved.epoch moved.pulled kept.read;
}

-- ---- A string is pushed

spelled_some : (to : ℕ) (l : List ℕ) → map {B = ℕ × Item} (λ x. (to, x)) (spelling l) ≡ [] → ⊥
spelled_some to l e = absurd cc

pub string_kept : (to : ℕ) (l : List ℕ) (q : List (ℕ × Item)) (begun : List (List Item)) (a b : Seated) → a.state.phase ≡ Working → IsLetter l → IsElastic a [] begun
    → PendingPushed (map (λ x. (to, x)) (spelling l)) a q b → IsElastic b q begun
string_kept to l q begun a b working is kept pushed =
    let with : IsElastic a (map (λ x. (to, x)) (spelling l)) begun = record {
      undone = kept.undone;
      ahead = kept.ahead;
      sent = record { working = λ not. absurd (not working); whole = whole_pending (part a) to l kept.sent.whole is };
      read = kept.read;
    } in
    elastic_moved (map (λ x. (to, x)) (spelling l)) q begun a b pushed.moved (λ e. absurd (spelled_some to l e)) with

pub string_pushed : (to : ℕ) (l : List ℕ) (q : List (ℕ × Item)) (string : Option (List ℕ)) (begun : List (List Item)) (a b : Seated) → a.state.phase ≡ Working → IsLetter l → IsElastic a [] begun
    → PendingPushed (map (λ x. (to, x)) (spelling l)) a q b
    → PushesString l to (record { rank = a; pending = []; string = string }) (record { rank = b; pending = q; string = string })
unfolding PushesString
string_pushed to l q string begun a b working is kept pushed = record {
  walked = pushed.moved.walked;
  toward = ap strings_of pushed.moved.same ∙ strings_pending (part a) to l kept.sent.whole is;
  from = ap strings_of pushed.moved.pulled;
  phase = pushed.moved.phase ∙ working;
  string = refl;
}

-- ---- A push that is answered Good, if there is memory

module _ (to : ℕ) (l : List ℕ) (begun : List (List Item)) (s : ElasticState) (good : string_answer s l to ≡ Good) (kept : IsElastic s.rank s.pending begun) where
  pub nothing_pending : s.pending ≡ []
  nothing_pending = (string_fits s l to good).1.1

  kept_none : IsElastic s.rank [] begun
  kept_none = subst (λ (p : List (ℕ × Item)). IsElastic s.rank p begun) nothing_pending kept

  -- without memory
  pub refused_kept : (q : List (ℕ × Item)) → q ≡ [] → IsElastic s.rank q begun
  refused_kept q none = subst (λ (p : List (ℕ × Item)). IsElastic s.rank p begun) (sym none) kept_none

  pub refused_same : (q : List (ℕ × Item)) → q ≡ [] → ◌≡◌ {A = ElasticState} (record { rank = s.rank; pending = q; string = s.string }) s
  refused_same q none = λ i. record { rank = s.rank; pending = (none ∙ sym nothing_pending) i; string = s.string }

  -- with memory
  module _ (q : List (ℕ × Item)) (b : Seated) (bytes : All (λ x. x < 256) l) (pushed : PendingPushed (map (λ x. (to, x)) (spelling l)) s.rank q b) where
    is_letter : IsLetter l
    is_letter = record { short = (string_fits s l to good).1.0; bytes = bytes }

    pub good_kept : IsElastic b q begun
    good_kept = string_kept to l q begun s.rank b (string_fits s l to good).0 is_letter kept_none pushed

    pub good_pushed : PushesString l to s (record { rank = b; pending = q; string = s.string })
    good_pushed = subst (λ (p : List (ℕ × Item)). PushesString l to (record { rank = s.rank; pending = p; string = s.string }) (record { rank = b; pending = q; string = s.string })) (sym nothing_pending)
        (string_pushed to l q s.string begun s.rank b (string_fits s l to good).0 is_letter kept_none pushed)
