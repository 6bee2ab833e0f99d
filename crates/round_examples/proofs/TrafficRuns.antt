-- A run of traffic: the programs of all ranks as it begins, and how many rounds it has.
use Rattle.std.proofs.Common.{◌≡◌, ℕ, ◌+◌, ◌-◌, ◌^◌, ◌<◌, nat_lt, true, false, List, [], ◌∷◌, ◌++◌, length, length-append, slice_get, Some, All, refl, sym, ap, subst, ◌∙◌, arith, inl, inr}
use Rattle.std.proofs.lemmas.Bool.{cases_lt}
use Rattle.std.proofs.lemmas.Bool.Decides.{nat_tests}
use Rattle.std.proofs.lemmas.List.Elements.{All-nil, All-cons, All-append}
use Rattle.list_laws.proofs.Lists.{within, get_once, get_last, get_before}
use Rattle.round_program.specs.Canonical.{Member, InRound, EndsWithin, shape_of}
use Rattle.round_program.proofs.Members.{shape_is}
use Rattle.round_examples.specs.Traffics.{TrafficState, traffic_rules, goes_on}

-- as far as they are made
pub record Made (p rounds i : ℕ) (progs : List TrafficState) : Type 0 where
  pub size : length progs ≡ i
  pub each : (r : ℕ) (s : TrafficState) → slice_get progs r ≡ Some s → Member traffic_rules p 0 (rounds ∷ []) rounds r s

pub made_none : (p rounds : ℕ) → Made p rounds 0 []
made_none p rounds = record { size = refl; each = λ r s at. absurd (omega (arith, within [] r s at)) }

pub made_more : (p rounds i : ℕ) (progs progs' : List TrafficState) (targets : List (ℕ × ℕ)) (counts : List ℕ) (s : TrafficState) → rounds < 2 ^ 32 → Made p rounds i progs → i < p
    → length targets < 2 ^ 32 → All (λ t. (t.0 < p) × (t.1 < 1024)) targets
    → s ≡ record { rank = i; ranks = p; round = 0; rounds = rounds; targets = targets; counts = counts; check = 0 } → progs' ≡ progs ++ s ∷ [] → Made p rounds (i + 1) progs'
made_more p rounds i progs progs' targets counts s few v low items aims is more =
    let made : TrafficState = record { rank = i; ranks = p; round = 0; rounds = rounds; targets = targets; counts = counts; check = 0 } in
    let member : Member traffic_rules p 0 (rounds ∷ []) rounds i made = record {
      valid = record { own = low; few = few; items = items; aims = aims };
      own_rank = refl;
      all_ranks = refl;
      same_round = refl;
      same_shape = refl;
      same_most = refl;
    } in
    record {
      size = omega (arith, ap length more, length-append progs (s ∷ []), v.size);
      each = λ r x at. elim (cases_lt r i) [
        | inl before ↦ v.each r x (sym (get_before progs (s ∷ []) r (omega (arith, before, v.size))) ∙ (ap (λ o. slice_get o r) (sym more) ∙ at))
        | inr past ↦
            let here : r ≡ length progs = omega (arith, past, within progs' r x at, ap length more, length-append progs (s ∷ []), v.size) in
            let same : s ≡ x = get_once (progs ++ s ∷ []) (length progs) s x (get_last progs s) (ap (λ o. slice_get o (length progs)) (sym more) ∙ subst (λ j. slice_get progs' j ≡ Some x) here at) in
            subst (λ j. Member traffic_rules p 0 (rounds ∷ []) rounds j x) (sym (here ∙ v.size)) (subst (λ y. Member traffic_rules p 0 (rounds ∷ []) rounds i y) (sym is ∙ same) member)
      ];
    }

pub made_all : (p rounds i : ℕ) (progs : List TrafficState) → Made p rounds i progs → i ≡ p → InRound traffic_rules p 0 (rounds ∷ []) rounds progs
made_all p rounds i progs v end = record { size = v.size ∙ end; each = v.each }

-- one more target
pub aims_more : (p : ℕ) (ts ts' : List (ℕ × ℕ)) (t : ℕ × ℕ) → All (λ t. (t.0 < p) × (t.1 < 1024)) ts → (t.0 < p) × (t.1 < 1024) → ts' ≡ ts ++ t ∷ [] → All (λ t. (t.0 < p) × (t.1 < 1024)) ts'
aims_more p ts ts' t before here more =
    let P = λ (t : ℕ × ℕ). (t.0 < p) × (t.1 < 1024) in
    subst (All P) (sym more) (All-append P ts (t ∷ []) before (All-cons P t [] here (All-nil P)))

-- the run has as many rounds as its shape says
pub ends : (p rounds : ℕ) (progs : List TrafficState) → 0 < p → 0 < rounds → InRound traffic_rules p 0 (rounds ∷ []) rounds progs → EndsWithin traffic_rules progs rounds
ends p rounds progs some more start =
    let shape : shape_of traffic_rules progs ≡ rounds ∷ [] = shape_is traffic_rules p 0 (rounds ∷ []) rounds progs some start in
    record {
      rounds = rounds;
      has_rounds = record {
        some = more;
        goes = λ m low. ap (λ s. goes_on s m) shape ∙ on m low;
        stops = ap (λ s. goes_on s (rounds - 1)) shape ∙ over;
      };
      at_most = omega arith;
    } where
      on : (m : ℕ) → m + 1 < rounds → nat_lt (m + 1) rounds ≡ true
      on m low = grind (arith, nat_tests)

      over : nat_lt (rounds - 1 + 1) rounds ≡ false
      over = grind (arith, nat_tests)
