-- The laws of looking up.
use Rattle.std.proofs.Common.{ℕ, ◌^◌, ◌<◌, length, slice_index, refl, ap, ◌∙◌, inl, inr, lit<, subst, sym}
use Rattle.std.proofs.lemmas.Bool.{cases_lt}
use Rattle.std.proofs.lemmas.List.{length-set, set_comm, get_or_past}
use Rattle.round_program.specs.Talks.{TalkLaws, SameTalk}
use Rattle.round_examples.specs.Lookups.{LookupState, IsLookup, lookup_talk}

answer_fits : (s : LookupState) (question : ℕ) → IsLookup s → slice_index s.table question < 2 ^ 64
answer_fits s question v =
    elim (cases_lt question (length s.table)) [
      | inl l ↦ v.values question 0 l
      | inr m ↦ subst (λ n. n < 2 ^ 64) (sym (get_or_past s.table question 0 m)) (lit< tt)
    ]

keeps : (s : LookupState) (i reply : ℕ) → IsLookup s → SameTalk lookup_talk s (lookup_talk.heard s i reply)
keeps s i reply v =
    record {
      valid = record { values = v.values; asks = v.asks; replies = length-set s.heard i reply ∙ v.replies };
      rank = refl;
      ranks = refl;
      queries = refl;
      answer = λ from question. refl;
    }

pub lookup_laws : TalkLaws lookup_talk
lookup_laws =
    record {
      asks = λ s v. v.asks;
      answers = λ s from question v f q. answer_fits s question v;
      keeps = λ s i reply v l r. keeps s i reply v;
      commutes = λ s i j a b v d li lj la lb. ap (λ h. record s { heard = h }) (set_comm s.heard i j a b d);
    }
