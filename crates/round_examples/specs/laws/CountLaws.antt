-- The laws of counting.
use Rattle.std.proofs.Common.{ℕ, ◌+◌, ◌%◌, ◌^◌, ◌<◌, ◌≡◌, true, List, [], ◌∷◌, map, if◌then◌else◌, length, get_or, All}
use Rattle.std.proofs.Common.{arith}
use Rattle.std.proofs.Common.{refl, sym, ap, subst, inl, inr, lit<}
use Rattle.std.proofs.lemmas.Bool.{cases_eq, eq-eqb, ne_eqb}
use Rattle.std.proofs.lemmas.Bool.Decides.{nat_tests}
use Rattle.std.proofs.lemmas.List.Elements.{All-nil, All-map}
use Rattle.bale_items.specs.declared.Item.{Item}
use Rattle.list_laws.proofs.Lists.{changed_comm, changed_len}
use Rattle.round_program.specs.Laws.{Laws, SameRound, IsItem}
use Rattle.round_examples.specs.Counts.{CountState, IsCount, count_rules, is_named, count_raised, to_owner, named_item}

-- what a rank may be sent, part by part
record IsNamed (columns ranks round to from : ℕ) (x : Item) : Type 0 where
  first : round ≡ 0
  sender : from < ranks
  column : x.a < columns
  owner : x.a % ranks ≡ to
  item : IsItem x

named_parts : (columns ranks round to from : ℕ) (x : Item) → is_named (columns ∷ []) ranks round to from x ≡ true
    → IsNamed columns ranks round to from x
named_parts columns ranks round to from x h =
    record {
      first = grind (arith, nat_tests);
      sender = grind (arith, nat_tests);
      column = grind (arith, nat_tests);
      owner = grind (arith, nat_tests);
      item = grind (arith, nat_tests);
    }

named_within : (shape : List ℕ) (ranks round to from : ℕ) (x : Item) → is_named shape ranks round to from x ≡ true
    → (to < ranks) × (from < ranks) × IsItem x
named_within [] ranks round to from x h = absurd (cc)
named_within (columns ∷ []) ranks round to from x h =
    let is : IsNamed columns ranks round to from x = named_parts columns ranks round to from x h in
    (grind (arith, is.owner), is.sender, is.item)
named_within (columns ∷ (c ∷ cs)) ranks round to from x h = absurd (cc)

raised_comm : (counts : List ℕ) (x y : Item) → count_raised (count_raised counts x) y ≡ count_raised (count_raised counts y) x
raised_comm counts x y =
    changed_comm counts x.a y.a 0 (λ v. (v + x.b) % 2 ^ 64) (λ v. (v + y.b) % 2 ^ 64) (λ e v. omega arith)

owner_named : (s : CountState) → IsCount s → (j : ℕ) → j < length s.counts → s.round ≡ 0
    → is_named (length s.counts ∷ []) s.ranks s.round (j % s.ranks) s.rank (named_item j) ≡ true
owner_named s v j l z = grind (arith, nat_tests, v.own, v.columns)

emits : (s : CountState) → IsCount s
    → All (λ e. is_named (length s.counts ∷ []) s.ranks s.round e.0 s.rank e.1 ≡ true) (count_rules.emissions s)
emits s v =
    elim (cases_eq s.round 0) [
      | inl z ↦
          subst (λ b. All (λ e. is_named (length s.counts ∷ []) s.ranks s.round e.0 s.rank e.1 ≡ true)
          (if b then map (to_owner s.ranks) s.names else []))
          (sym (eq-eqb s.round 0 z))
          (All-map (λ e. is_named (length s.counts ∷ []) s.ranks s.round e.0 s.rank e.1 ≡ true)
          (to_owner s.ranks) s.names (λ k d l. owner_named s v (get_or s.names k d) (v.named k d l) z))
      | inr n ↦
          subst (λ b. All (λ e. is_named (length s.counts ∷ []) s.ranks s.round e.0 s.rank e.1 ≡ true)
          (if b then map (to_owner s.ranks) s.names else []))
          (sym (ne_eqb s.round 0 n))
          (All-nil (λ e. is_named (length s.counts ∷ []) s.ranks s.round e.0 s.rank e.1 ≡ true))
    ]

keeps : (s : CountState) (f : ℕ) (x : Item) → IsCount s → SameRound count_rules s (count_rules.absorbed s f x)
keeps s f x v =
    let size : length (count_raised s.counts x) ≡ length s.counts = changed_len s.counts x.a 0 (λ n. (n + x.b) % 2 ^ 64) in
    record {
      valid = record {
        own = v.own;
        columns = subst (λ n. n < 2 ^ 32) (sym size) v.columns;
        named = subst (λ n. All (λ j. j < n) s.names) (sym size) v.named;
      };
      rank = refl;
      ranks = refl;
      round = refl;
      shape = ap (λ n. n ∷ []) size;
      most = refl;
      emissions = refl;
    }

pub count_laws : Laws count_rules
count_laws =
    record {
      emits = emits;
      commutes = λ s f g x y v d e h. ap (λ c. record s { counts = c }) (raised_comm s.counts x y);
      keeps = λ s f x v e. keeps s f x v;
      vote_below = λ s v. lit< tt;
      next = λ s votes v l. record {
        valid = record { own = v.own; columns = v.columns; named = v.named };
        rank = refl;
        ranks = refl;
        round = refl;
        shape = refl;
        most = refl;
      };
      within = named_within;
      most_below = λ s v. lit< tt;
    }
