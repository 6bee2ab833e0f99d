-- The laws of the ranks that ask for sums.
use Rattle.std.proofs.Common.{ℕ, ◌/◌, ◌^◌, ◌<◌, List, length, get_or, All, refl, sym, ap, ◌∙◌, subst, inl, inr, lit<}
use Rattle.std.proofs.lemmas.Bool.{cases_lt}
use Rattle.std.proofs.lemmas.List.{get_or_past, length-set, set_comm}
use Rattle.round_program.specs.Talks.{TalkLaws}
use Rattle.app_histo_ig.specs.Asking.{ig_talk}

-- what is at a place is a word, and so is the 0 past the end
pub is_word_at : (sums : List ℕ) (i : ℕ) → All (λ v. v < 2 ^ 64) sums → get_or sums i 0 < 2 ^ 64
is_word_at sums i h = elim (cases_lt i (length sums)) [
  | inl low ↦ h i 0 low
  | inr past ↦ subst (λ n. n < 2 ^ 64) (sym (get_or_past sums i 0 past)) (lit< tt)
]

pub ig_talk_laws : TalkLaws ig_talk
ig_talk_laws =
    record {
      asks = λ s v. v.asks;
      answers = λ s from question v low word. is_word_at s.sums (question / s.ranks) v.words;
      keeps = λ s i reply v low word. record {
        valid = record {
          some = v.some;
          asks = v.asks;
          words = v.words;
          places = length-set s.answers i reply ∙ v.places;
        };
        rank = refl;
        ranks = refl;
        queries = refl;
        answer = λ from question. refl;
      };
      commutes = λ s i j a b v apart low low' word word'. ap (λ xs. record s { answers = xs })
          (set_comm s.answers i j a b apart);
    }
