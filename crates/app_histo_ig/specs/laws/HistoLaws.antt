-- The laws of histo.
use Rattle.std.proofs.Common.{ℕ, ◌%◌, ◌^◌, ◌<◌, ◌≡◌, true, List, [], ◌∷◌, map, if◌then◌else◌, get_or, All, arith, refl}
use Rattle.std.proofs.Common.{sym, ap}
use Rattle.std.proofs.Common.{◌∙◌, subst, inl, inr, lit<}
use Rattle.std.proofs.lemmas.Bool.{cases_eq, eq-eqb, ne_eqb}
use Rattle.std.proofs.lemmas.Bool.Decides.{nat_tests}
use Rattle.std.proofs.lemmas.List.Elements.{All-nil, All-map}
use Rattle.bale_items.specs.declared.Item.{Item}
use Rattle.round_program.specs.Laws.{Laws, Fits, SameRound, IsItem}
use Rattle.app_histo_ig.specs.Histos.{HistoState, IsHisto, histo_rules, may_count, to_own_column, counted_item}
use Rattle.app_histo_ig.specs.laws.OwnerLaws.{risen_comm, risen_len}

pub count_within : (shape : List ℕ) (ranks round to from : ℕ) (x : Item) → may_count shape ranks round to from x ≡ true
    → (to < ranks) × (from < ranks) × IsItem x
count_within [] ranks round to from x h = absurd (cc)
count_within (cols ∷ []) ranks round to from x h =
    (grind (arith, nat_tests), grind (arith, nat_tests), grind (arith, nat_tests))
count_within (cols ∷ (c ∷ cs)) ranks round to from x h = absurd (cc)

owner_counts : (s : HistoState) → IsHisto s → (j : ℕ) → j < s.cols → s.round ≡ 0
    → may_count (s.cols ∷ []) s.ranks s.round (j % s.ranks) s.rank (counted_item j) ≡ true
owner_counts s v j l z = grind (arith, nat_tests, v.own, v.wide)

emits : (s : HistoState) → IsHisto s
    → All (λ e. may_count (s.cols ∷ []) s.ranks s.round e.0 s.rank e.1 ≡ true) (histo_rules.emissions s)
emits s v =
    elim (cases_eq s.round 0) [
      | inl z ↦
          subst (λ b. All (λ e. may_count (s.cols ∷ []) s.ranks s.round e.0 s.rank e.1 ≡ true)
          (if b then map (to_own_column s.ranks) s.columns else []))
          (sym (eq-eqb s.round 0 z))
          (All-map (λ e. may_count (s.cols ∷ []) s.ranks s.round e.0 s.rank e.1 ≡ true) (to_own_column s.ranks) s.columns
          (λ k d l. owner_counts s v (get_or s.columns k d) (v.named k d l) z))
      | inr n ↦
          subst (λ b. All (λ e. may_count (s.cols ∷ []) s.ranks s.round e.0 s.rank e.1 ≡ true)
          (if b then map (to_own_column s.ranks) s.columns else []))
          (sym (ne_eqb s.round 0 n))
          (All-nil (λ e. may_count (s.cols ∷ []) s.ranks s.round e.0 s.rank e.1 ≡ true))
    ]

keeps : (s : HistoState) (f : ℕ) (x : Item) → IsHisto s → SameRound histo_rules s (histo_rules.absorbed s f x)
keeps s f x v =
    record {
      valid = record { own = v.own; wide = v.wide; named = v.named; places = risen_len s.ranks s.counts x ∙ v.places };
      rank = refl;
      ranks = refl;
      round = refl;
      shape = refl;
      most = refl;
      emissions = refl;
    }

-- what fits names a column, so its number is below 2^32
pub count_small : (s : HistoState) (f : ℕ) (x : Item) → IsHisto s → Fits histo_rules s f x → x.a < 2 ^ 32
count_small s f x v e = let wide : s.cols < 2 ^ 32 = v.wide in grind (arith, nat_tests)

pub histo_laws : Laws histo_rules
histo_laws =
    record {
      emits = emits;
      commutes = λ s f g x y v d e h. ap (λ c. record s { counts = c }) (risen_comm s.ranks s.counts x y);
      keeps = λ s f x v e. keeps s f x v;
      vote_below = λ s v. lit< tt;
      next = λ s votes v l. record {
        valid = record { own = v.own; wide = v.wide; named = v.named; places = v.places };
        rank = refl;
        ranks = refl;
        round = refl;
        shape = refl;
        most = refl;
      };
      within = count_within;
      most_below = λ s v. lit< tt;
    }
