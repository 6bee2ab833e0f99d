-- An epoch of an elastic rank begins, or ends.
use Rattle.std.proofs.Common.{◌≡◌, ◌≢◌, ℕ, ◌+◌, ◌-◌, ◌<◌, false, not, List, [], length, get_or, replicate, Option, arith, refl, sym, ap, ◌∙◌, subst, inl, inr}
use Rattle.std.proofs.lemmas.List.{length-replicate}
use Rattle.bale_items.specs.declared.item.Item.{Item}
use Rattle.route_tensor.specs.Grid.{ranks}
use Rattle.port_bank.specs.Machine.{Part}
use Rattle.port_bank.specs.Machine.Step.{Reset, Idle}
use Rattle.hop_core.specs.declared.phase.Phase.TheVariants.{Dormant, Working, Complete}
use Rattle.elastic.specs.code.Begun.{begun_items}
use Rattle.rank_handles.specs.declared.answer.Answer.TheVariants.{Good}
use Rattle.rank_handles.specs.Seated.{Seated, part}
use Rattle.rank_handles.specs.Answers.{begin_answer, reset_answer}
use Rattle.rank_handles.specs.Calls.{Begins, Resets}
use Rattle.rank_handles.specs.Strings.{pushed_with, strings_of}
use Rattle.rank_handles.specs.StringCalls.{BeginsStrings, ResetsStrings}
use Rattle.rank_handles.specs.ElasticKept.{AreStrings, IsElastic}
use Rattle.rank_handles.proofs.StringLists.{replicate_or, none_at, pushed_same, pushed_none, no_strings}
use Rattle.rank_handles.proofs.StringWalks.{walked_one, ahead_walked, step_is, phase_after, read_same}
use Rattle.rank_handles.proofs.StringAnswers.{is_good, begins_dormant, ends_complete}

-- ---- An epoch begins

pub elastic_begun : (p : List (ℕ × Item)) (begun : List (List Item)) (a b : Seated) → Begins a b → IsElastic a p begun → IsElastic b p begun
unfolding Begins
elastic_begun p begun a b begins kept = elim (is_good (begin_answer a.state.phase)) [
  | inl good ↦
      let m = begins.begun good in let is = step_is Idle Working a b m in
      let phase : b.state.phase ≡ Working = phase_after Idle Working a b m in
      let done : b.state.done ≡ a.state.done = ap (λ (q : Part). q.done) is in
      let epoch : (part b).epoch ≡ (part a).epoch = ap (λ (q : Part). q.epoch) is in
      record {
        undone = record {
          dormant = λ e. done ∙ kept.undone.dormant (begins_dormant a.state.phase good);
          working = λ e. done ∙ kept.undone.dormant (begins_dormant a.state.phase good);
        };
        ahead = ahead_walked a b (walked_one Idle Working a b m) kept.ahead;
        sent = record {
          working = λ not. absurd (not phase);
          whole = λ r. subst AreStrings (λ i. sym (pushed_same (part a) (part b) p epoch (ap (λ (q : Part). q.pushed) is)) i (sym epoch i) r) (kept.sent.whole r);
        };
        read = read_same a b begun (walked_one Idle Working a b m).dims epoch (ap (λ (q : Part). q.pulled) is) kept.read;
      }
  | inr bad ↦ subst (λ (s : Seated). IsElastic s p begun) (sym (begins.misuse bad)) kept
]

pub strings_begun : (p : List (ℕ × Item)) (s : Option (List ℕ)) (a b : Seated) → Begins a b → BeginsStrings (record { rank = a; pending = p; string = s }) (record { rank = b; pending = p; string = s })
unfolding Begins BeginsStrings
strings_begun p s a b begins = record {
  begins = begins;
  same = elim (is_good (begin_answer a.state.phase)) [
    | inl good ↦
        let is = step_is Idle Working a b (begins.begun good) in
        record {
          toward = ap strings_of (pushed_same (part a) (part b) p (ap (λ (q : Part). q.epoch) is) (ap (λ (q : Part). q.pushed) is));
          from = ap (λ (q : Part). strings_of q.pulled) is;
        }
    | inr bad ↦ record {
      toward = ap (λ (z : Seated). strings_of (pushed_with (part z) p)) (begins.misuse bad);
      from = ap (λ (z : Seated). strings_of (part z).pulled) (begins.misuse bad);
    }
  ];
  pending = refl;
  string = refl;
}

-- ---- An epoch ends

pub elastic_reset : (p : List (ℕ × Item)) (begun begun' : List (List Item)) (a b : Seated) → Resets a b → IsElastic a p begun → reset_answer a ≡ Good → begun' ≡ replicate (length begun) [] → IsElastic b p begun'
unfolding Resets
elastic_reset p begun begun' a b resets kept good none =
    let m = resets.ended good in let is = step_is Reset Dormant a b m in
    let nothing : p ≡ [] = kept.sent.working (λ e. absurd (let k : Complete ≡ Working = sym (ends_complete a.state.phase _ good) ∙ e in cc)) in
    let done : b.state.done ≡ false = ap (λ (q : Part). q.done) is in
    let epoch : (part b).epoch ≡ (part a).epoch + 1 = ap (λ (q : Part). q.epoch) is in
    let later : (part a).epoch < (part a).epoch + 1 = omega arith in
    record {
      undone = record { dormant = λ e. done; working = λ e. done };
      ahead = ahead_walked a b (walked_one Reset Dormant a b m) kept.ahead;
      sent = record {
        working = λ not. nothing;
        whole = λ r. subst AreStrings (sym (
            ap (λ (l : List (ℕ × Item)). pushed_with (part b) l (part b).epoch r) nothing
            ∙ none_at (part b) (part b).epoch r
            ∙ (λ i. (is i).pushed (epoch i) r)
            ∙ (kept.ahead ((part a).epoch + 1) r later).0)) no_strings;
      };
      read = record {
        senders = ap length none ∙ length-replicate (length begun) [] ∙ kept.read.senders ∙ ap ranks (sym (walked_one Reset Dormant a b m).dims);
        begun_is = λ r.
            ap (λ (l : List (List Item)). get_or l r []) none ∙ replicate_or (length begun) r []
            ∙ sym (ap (begun_items []) ((λ i. (is i).pulled (epoch i) r) ∙ (kept.ahead ((part a).epoch + 1) r later).1));
      };
    }

pub elastic_unreset : (p : List (ℕ × Item)) (begun : List (List Item)) (a b : Seated) → Resets a b → reset_answer a ≢ Good → IsElastic a p begun → IsElastic b p begun
unfolding Resets
elastic_unreset p begun a b resets bad kept = subst (λ (s : Seated). IsElastic s p begun) (sym (resets.misuse bad)) kept

pub strings_reset : (p : List (ℕ × Item)) (s : Option (List ℕ)) (begun : List (List Item)) (a b : Seated) → IsElastic a p begun → Resets a b → ResetsStrings (record { rank = a; pending = p; string = s }) (record { rank = b; pending = p; string = s })
unfolding Resets ResetsStrings
strings_reset p s begun a b kept resets = record {
  resets = resets;
  same = elim (is_good (reset_answer a)) [
    | inl good ↦
        let is = step_is Reset Dormant a b (resets.ended good) in
        let nothing : p ≡ [] = kept.sent.working (λ e. absurd (let k : Complete ≡ Working = sym (ends_complete a.state.phase _ good) ∙ e in cc)) in
        record {
          toward =
              ap (λ (l : List (ℕ × Item)). strings_of (pushed_with (part b) l)) nothing
              ∙ ap strings_of (pushed_none (part a) (part b) (ap (λ (q : Part). q.pushed) is))
              ∙ sym (ap (λ (l : List (ℕ × Item)). strings_of (pushed_with (part a) l)) nothing);
          from = ap (λ (q : Part). strings_of q.pulled) is;
        }
    | inr bad ↦ record {
      toward = ap (λ (z : Seated). strings_of (pushed_with (part z) p)) (resets.misuse bad);
      from = ap (λ (z : Seated). strings_of (part z).pulled) (resets.misuse bad);
    }
  ];
  pending = refl;
  string = refl;
}
