-- Askers, as far as they are made.
use Rattle.std.proofs.Common.{◌≡◌, ℕ, ◌+◌, List, [], ◌∷◌, ◌++◌, length, length-append, slice_get, Some, refl, sym, ap, subst, ◌∙◌, arith, inl, inr}
use Rattle.std.proofs.lemmas.Bool.{cases_lt}
use Rattle.list_laws.proofs.Lists.{within, get_once, get_last, get_before}
use Rattle.drive_tests.specs.Adders.{AdderState, adder_talk}
use Rattle.biconvey.specs.Drives.{AreAskers}

-- askers, as far as they are made
pub record Added (p i : ℕ) (askers : List AdderState) : Type 0 where
  pub size : length askers ≡ i
  pub each : (r : ℕ) (s : AdderState) → slice_get askers r ≡ Some s → (s.rank ≡ r) × (s.ranks ≡ p)

pub added_none : (p : ℕ) → Added p 0 []
added_none p = record { size = refl; each = λ r s at. absurd (omega (arith, within [] r s at)) }

pub added_more : (p i : ℕ) (askers askers' : List AdderState) (s : AdderState) → Added p i askers → s.rank ≡ i → s.ranks ≡ p → askers' ≡ askers ++ s ∷ [] → Added p (i + 1) askers'
added_more p i askers askers' s v own all more = record {
  size = omega (arith, ap length more, length-append askers (s ∷ []), v.size);
  each = λ r t at. elim (cases_lt r i) [
    | inl before ↦ v.each r t (sym (get_before askers (s ∷ []) r (omega (arith, before, v.size))) ∙ (ap (λ xs. slice_get xs r) (sym more) ∙ at))
    | inr past ↦
        let same : r ≡ length askers = omega (arith, past, within askers' r t at, ap length more, length-append askers (s ∷ []), v.size) in
        let is : s ≡ t = get_once (askers ++ s ∷ []) (length askers) s t (get_last askers s) (ap (λ xs. slice_get xs (length askers)) (sym more) ∙ subst (λ k. slice_get askers' k ≡ Some t) same at) in
        (ap (λ (x : AdderState). x.rank) (sym is) ∙ (own ∙ (sym v.size ∙ sym same)), ap (λ (x : AdderState). x.ranks) (sym is) ∙ all)
  ];
}

pub added_all : (p i : ℕ) (askers : List AdderState) → Added p i askers → i ≡ p → AreAskers adder_talk p askers
added_all p i askers v end = record { size = v.size ∙ end; each = v.each }
