-- The laws of transpose.
use Rattle.std.proofs.Common.{ℕ, ◌^◌, ◌<◌, ◌≡◌, true, List, [], ◌∷◌, arith, refl, ap, lit<}
use Rattle.std.proofs.lemmas.Bool.Decides.{nat_tests}
use Rattle.std.proofs.lemmas.List.Elements.{All-nil}
use Rattle.bale_items.specs.declared.Item.{Item}
use Rattle.mtx_text.proofs.Raised.{raised_comm, raised_ordered}
use Rattle.round_program.specs.Laws.{Laws, Fits, SameRound, IsItem}
use Rattle.app_permute.specs.Carried.{item_cell}
use Rattle.app_permute.specs.Transposes.{TransposeState, IsTransposing, transpose_rules, may_transpose}

transpose_within : (shape : List ℕ) (ranks round to from : ℕ) (x : Item)
    → may_transpose shape ranks round to from x ≡ true → (to < ranks) × (from < ranks) × IsItem x
transpose_within [] ranks round to from x h = absurd (cc)
transpose_within (rows ∷ []) ranks round to from x h = absurd (cc)
transpose_within (rows ∷ (cols ∷ [])) ranks round to from x h =
    (grind (arith, nat_tests), grind (arith, nat_tests), grind (arith, nat_tests))
transpose_within (rows ∷ (cols ∷ (c ∷ cs))) ranks round to from x h = absurd (cc)

keeps : (s : TransposeState) (f : ℕ) (x : Item) → IsTransposing s
    → SameRound transpose_rules s (transpose_rules.absorbed s f x)
keeps s f x v =
    record {
      valid = record {
        own = v.own;
        tall = v.tall;
        wide = v.wide;
        ordered = raised_ordered (item_cell x) s.cells v.ordered;
        fit = v.fit;
      };
      rank = refl;
      ranks = refl;
      round = refl;
      shape = refl;
      most = refl;
      emissions = refl;
    }

-- what fits has a row and a column, whose numbers are below 2^32
pub cell_small : (s : TransposeState) (f : ℕ) (x : Item) → IsTransposing s → Fits transpose_rules s f x
    → (x.a < 2 ^ 32) × (x.b < 2 ^ 32)
cell_small s f x v e =
    let tall : s.rows < 2 ^ 32 = v.tall in
    let wide : s.cols < 2 ^ 32 = v.wide in
    (grind (arith, nat_tests), grind (arith, nat_tests))

pub transpose_laws : Laws transpose_rules
transpose_laws =
    record {
      emits = λ s v. v.fit;
      commutes = λ s f g x y v d e h. ap (λ c. record s { cells = c })
          (raised_comm (item_cell y) (item_cell x) s.cells v.ordered);
      keeps = λ s f x v e. keeps s f x v;
      vote_below = λ s v. lit< tt;
      next = λ s votes v l. record {
        valid = record {
          own = v.own;
          tall = v.tall;
          wide = v.wide;
          ordered = v.ordered;
          fit = All-nil (λ e. may_transpose (s.rows ∷ s.cols ∷ []) s.ranks _ e.0 s.rank e.1 ≡ true);
        };
        rank =
            refl;
        ranks = refl;
        round = refl;
        shape = refl;
        most = refl;
      };
      within = transpose_within;
      most_below = λ s v. lit< tt;
    }
