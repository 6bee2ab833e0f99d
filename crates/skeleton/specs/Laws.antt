-- The seven laws.
use Rattle.std.proofs.Common.{ℕ, ◌<◌, ◌≡◌, true, List, [], ◌∷◌, length, All, arith, refl, ap, subst, sym, lit<}
use Rattle.std.proofs.lemmas.Bool.Decides.{nat_tests}
use Rattle.std.proofs.lemmas.List.Elements.{All-nil}
use Rattle.bale_items.specs.declared.Item.{Item}
use Rattle.reductions.specs.declared.reduced.Reduction.TheVariants.{Least}
use Rattle.reductions.specs.Reductions.{after_item}
use Rattle.reductions.proofs.Cells.{reduced_comm, reduced_len, vote_low}
use Rattle.round_program.specs.Laws.{Laws, SameRound, IsItem}
use Rattle.skeleton.specs.State.{State, IsState, rules, may_be_sent}

within : (shape : List ℕ) (ranks round to from : ℕ) (x : Item) → may_be_sent shape ranks round to from x ≡ true
    → (to < ranks) × (from < ranks) × IsItem x
within [] ranks round to from x h = absurd (cc)
within (n ∷ []) ranks round to from x h = (grind (arith, nat_tests), grind (arith, nat_tests), grind (arith, nat_tests))
within (n ∷ (c ∷ cs)) ranks round to from x h = absurd (cc)

keeps : (s : State) (f : ℕ) (x : Item) → IsState s → SameRound rules s (rules.absorbed s f x)
keeps s f x v =
    let len : length (after_item Least s.cells x.a x.b).cells ≡ length s.cells.cells = reduced_len Least s.cells x.a x.b in
    record {
      valid =
          record {
            own = v.own;
            few = v.few;
            sent = subst (λ n. All (λ e. may_be_sent (n ∷ []) s.ranks s.round e.0 s.rank e.1 ≡ true) s.sends)
                (sym len) v.sent;
          };
      rank = refl;
      ranks = refl;
      round = refl;
      shape = ap (λ n. n ∷ []) len;
      most = refl;
      emissions = refl;
    }

pub laws : Laws rules
laws =
    record {
      emits = λ s v. v.sent;
      commutes = λ s f g x y v d e h. ap (λ cs. record s { cells = cs }) (reduced_comm Least s.cells x.a x.b y.a y.b);
      keeps = λ s f x v e. keeps s f x v;
      vote_below = λ s v. vote_low s.cells;
      next = λ s votes v l. record {
        valid = record {
          own = v.own;
          few = v.few;
          sent = All-nil
              (λ e. may_be_sent (length s.cells.cells ∷ []) s.ranks (rules.ended s votes).round e.0 s.rank e.1 ≡ true);
        };
        rank = refl;
        ranks = refl;
        round = refl;
        shape = refl;
        most = refl;
      };
      within = within;
      most_below = λ s v. lit< tt;
    }
