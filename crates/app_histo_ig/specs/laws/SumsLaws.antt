-- The laws of the sums of columns.
use Rattle.std.proofs.Common.{ℕ, ◌/◌, ◌^◌, ◌<◌, ◌≡◌, true, List, [], ◌∷◌, if◌then◌else◌, length, All, arith, refl, sym}
use Rattle.std.proofs.Common.{ap, ◌∙◌}
use Rattle.std.proofs.Common.{subst, inl, inr, lit<}
use Rattle.std.proofs.lemmas.Bool.{cases_eq, eq-eqb, ne_eqb}
use Rattle.std.proofs.lemmas.Bool.Decides.{nat_tests}
use Rattle.std.proofs.lemmas.List.Elements.{All-nil}
use Rattle.bale_items.specs.declared.Item.{Item}
use Rattle.sparse_rows.proofs.Places.{place_below}
use Rattle.round_program.specs.Laws.{Laws, Fits, SameRound}
use Rattle.app_histo_ig.specs.Owners.{with_sum_risen}
use Rattle.app_histo_ig.specs.laws.OwnerLaws.{risen_comm, risen_len}
use Rattle.app_histo_ig.specs.Histos.{may_count}
use Rattle.app_histo_ig.specs.laws.HistoLaws.{count_within}
use Rattle.app_histo_ig.specs.laws.IgLaws.{sums_words}
use Rattle.app_histo_ig.specs.Sums.{SumsState, IsSums, sums_rules}

emits : (s : SumsState) → IsSums s
    → All (λ e. may_count (s.cols ∷ []) s.ranks s.round e.0 s.rank e.1 ≡ true) (sums_rules.emissions s)
emits s v =
    elim (cases_eq s.round 0) [
      | inl z ↦
          subst (λ b. All (λ e. may_count (s.cols ∷ []) s.ranks s.round e.0 s.rank e.1 ≡ true)
          (if b then s.values else [])) (sym (eq-eqb s.round 0 z))
          (subst (λ n. All (λ e. may_count (s.cols ∷ []) s.ranks n e.0 s.rank e.1 ≡ true) s.values) (sym z) v.fit)
      | inr n ↦
          subst (λ b. All (λ e. may_count (s.cols ∷ []) s.ranks s.round e.0 s.rank e.1 ≡ true)
          (if b then s.values else [])) (sym (ne_eqb s.round 0 n))
          (All-nil (λ e. may_count (s.cols ∷ []) s.ranks s.round e.0 s.rank e.1 ≡ true))
    ]

-- sums that rose are sums
pub risen_valid : (s : SumsState) (x : Item) (sums : List ℕ) → IsSums s → sums ≡ with_sum_risen s.ranks s.sums x
    → IsSums (record s { sums = sums })
risen_valid s x sums v is =
    record {
      own = v.own;
      wide = v.wide;
      fit = v.fit;
      words = subst (All (λ w. w < 2 ^ 64)) (sym is) (sums_words true s.ranks s.sums x v.words);
      places = ap length is ∙ risen_len s.ranks s.sums x ∙ v.places;
    }

keeps : (s : SumsState) (f : ℕ) (x : Item) → IsSums s → SameRound sums_rules s (sums_rules.absorbed s f x)
keeps s f x v =
    record {
      valid = risen_valid s x (with_sum_risen s.ranks s.sums x) v refl;
      rank = refl;
      ranks = refl;
      round = refl;
      shape = refl;
      most = refl;
      emissions = refl;
    }

-- what fits names an own column
pub record IsOwnColumn (s : SumsState) (x : Item) : Type 0 where
  pub some : 0 < s.ranks
  pub small : x.a < 2 ^ 32
  pub place : x.a / s.ranks < length s.sums

pub placed : (s : SumsState) (f : ℕ) (x : Item) → IsSums s → Fits sums_rules s f x → IsOwnColumn s x
placed s f x v e =
    let own : s.rank < s.ranks = v.own in
    let wide : s.cols < 2 ^ 32 = v.wide in
    let low : x.a < s.cols = grind (arith, nat_tests) in
    record {
      some = omega arith;
      small = omega arith;
      place = subst (λ n. x.a / s.ranks < n) (sym v.places) (place_below s.ranks s.cols x.a (omega arith) low);
    }

pub sums_laws : Laws sums_rules
sums_laws =
    record {
      emits = emits;
      commutes = λ s f g x y v d e h. ap (λ c. record s { sums = c }) (risen_comm s.ranks s.sums x y);
      keeps = λ s f x v e. keeps s f x v;
      vote_below = λ s v. lit< tt;
      next = λ s votes v l. record {
        valid = record { own = v.own; wide = v.wide; fit = v.fit; words = v.words; places = v.places };
        rank = refl;
        ranks = refl;
        round = refl;
        shape = refl;
        most = refl;
      };
      within = count_within;
      most_below = λ s v. lit< tt;
    }
