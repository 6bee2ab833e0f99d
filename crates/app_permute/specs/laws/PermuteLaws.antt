-- The laws of permute.
use Rattle.std.proofs.Common.{ℕ, ◌+◌, ◌-◌, ◌/◌, ◌%◌, ◌^◌, ◌<◌, ◌≡◌, ◌==◌, ◌&&◌, min, Bool, true, false, List, [], ◌∷◌}
use Rattle.std.proofs.Common.{map, get_or, arith, refl, sym, ap, ◌∙◌, subst, inl, inr, lit<}
use Rattle.std.specs.Prelude.{nat_lt, int_lt, if◌then◌else◌}
use Rattle.std.specs.List.{All}
use Rattle.std.proofs.lemmas.Bool.{cases_Bool, cases_eq, cases_lt, cond-true, cond-false, eq-eqb, ne_eqb, lt-ltb}
use Rattle.std.proofs.lemmas.Bool.{le-ltb}
use Rattle.std.proofs.lemmas.Bool.Decides.{nat_tests}
use Rattle.std.proofs.lemmas.List.Elements.{All-nil, All-map}
use Rattle.bale_items.specs.declared.Item.{Item}
use Rattle.bale_items.specs.declared.triple.Triple.{Triple}
use Rattle.bale_items.specs.Bits.{twos_complement, from_twos_complement}
use Rattle.mtx_text.specs.Cells.{is_before, InOrder}
use Rattle.mtx_text.proofs.PlaceOrder.{pairs_none}
use Rattle.mtx_text.proofs.Raised.{greater, raised_comm, raised_ordered}
use Rattle.mtx_text.proofs.Gathered.{raised_keeps}
use Rattle.round_program.specs.Laws.{Laws, Fits, SameRound, IsItem, is_item}
use Rattle.app_permute.specs.Carried.{item_cell}
use Rattle.app_permute.specs.Permutes.{PermuteState, IsPermuting, IsKeptCell, HasNumbers, permute_rules, may_permute}
use Rattle.app_permute.specs.Permutes.{kept_as, new_number, to_column, to_row, permute_next_outgoing}

-- what may be sent, once it is known whether the round is that of the columns
abbrev pub may_by : Bool → ℕ → ℕ → ℕ → ℕ → ℕ → Item → Bool
may_by b rows cols ranks to from x =
    nat_lt from ranks && nat_lt x.a rows && nat_lt x.b cols && (if b then x.b else x.a) % ranks == to && is_item x

within_by : (b : Bool) (rows cols ranks to from : ℕ) (x : Item) → may_by b rows cols ranks to from x ≡ true
    → (to < ranks) × (from < ranks) × IsItem x
within_by true rows cols ranks to from x h =
    (grind (arith, nat_tests), grind (arith, nat_tests), grind (arith, nat_tests))
within_by false rows cols ranks to from x h =
    (grind (arith, nat_tests), grind (arith, nat_tests), grind (arith, nat_tests))

permute_within : (shape : List ℕ) (ranks round to from : ℕ) (x : Item) → may_permute shape ranks round to from x ≡ true
    → (to < ranks) × (from < ranks) × IsItem x
permute_within [] ranks round to from x h = absurd (cc)
permute_within (rows ∷ []) ranks round to from x h = absurd (cc)
permute_within (rows ∷ (cols ∷ [])) ranks round to from x h = within_by (round == 1) rows cols ranks to from x h
permute_within (rows ∷ (cols ∷ (c ∷ cs))) ranks round to from x h = absurd (cc)

-- ---- Cells that are kept

word_low : (w : ℕ) → w < 2 ^ 64 → twos_complement (from_twos_complement w) < 2 ^ 64
word_low w h = grind (arith, nat_tests)

pub kept_by : (b : Bool) (rows cols ranks to from : ℕ) (x : Item) → may_by b rows cols ranks to from x ≡ true
    → IsKeptCell (if b then cols else rows) (if b then rows else cols) ranks to
    (if b then record { i = x.b; j = x.a; v = from_twos_complement x.c } else item_cell x)
kept_by true rows cols ranks to from x h =
    record {
      row = grind (arith, nat_tests);
      col = grind (arith, nat_tests);
      own = grind (arith, nat_tests);
      word = word_low x.c (grind (arith, nat_tests));
    }
kept_by false rows cols ranks to from x h =
    record {
      row = grind (arith, nat_tests);
      col = grind (arith, nat_tests);
      own = grind (arith, nat_tests);
      word = word_low x.c (grind (arith, nat_tests));
    }

pub greater_kept : (height width ranks rank : ℕ) (s t : Triple) → s.i ≡ t.i → s.j ≡ t.j
    → IsKeptCell height width ranks rank s → IsKeptCell height width ranks rank t → IsKeptCell height width ranks rank (greater s t)
greater_kept height width ranks rank s t e f a b =
    record {
      row = a.row;
      col = a.col;
      own = a.own;
      word =
          elim (cases_Bool (int_lt t.v s.v)) [
            | inl h ↦ subst (λ v. twos_complement v < 2 ^ 64) (sym (cond-true (int_lt t.v s.v) s.v t.v h)) a.word
            | inr h ↦ subst (λ v. twos_complement v < 2 ^ 64) (sym (cond-false (int_lt t.v s.v) s.v t.v h)) b.word
          ];
    }

keeps : (s : PermuteState) (f : ℕ) (x : Item) → IsPermuting s → Fits permute_rules s f x
    → SameRound permute_rules s (permute_rules.absorbed s f x)
keeps s f x v e =
    let height : ℕ = (if s.round == 1 then s.cols else s.rows) in
    let width : ℕ = (if s.round == 1 then s.rows else s.cols) in
    record {
      valid =
          record {
            own = v.own;
            tall = v.tall;
            wide = v.wide;
            row_numbers = v.row_numbers;
            col_numbers = v.col_numbers;
            kept = raised_keeps (IsKeptCell height width s.ranks s.rank) (greater_kept height width s.ranks s.rank)
                (kept_as s.round x) s.cells (kept_by (s.round == 1) s.rows s.cols s.ranks s.rank f x e) v.kept;
            ordered = raised_ordered (kept_as s.round x) s.cells v.ordered;
            fit = v.fit;
          };
      rank = refl;
      ranks = refl;
      round = refl;
      shape = refl;
      most = refl;
      emissions = refl;
    }

small_by : (b : Bool) (rows cols ranks to from : ℕ) (x : Item) → rows < 2 ^ 32 → cols < 2 ^ 32
    → may_by b rows cols ranks to from x ≡ true → (x.a < 2 ^ 32) × (x.b < 2 ^ 32)
small_by b rows cols ranks to from x tall wide e = (grind (arith, nat_tests), grind (arith, nat_tests))

-- what fits has a row and a column, whose numbers are below 2^32
pub cell_small : (s : PermuteState) (f : ℕ) (x : Item) → IsPermuting s → Fits permute_rules s f x
    → (x.a < 2 ^ 32) × (x.b < 2 ^ 32)
cell_small s f x v e = small_by (s.round == 1) s.rows s.cols s.ranks s.rank f x v.tall v.wide e

-- ---- What is sent next fits

number_below : (ranks rank n x : ℕ) (news : List ℕ) → HasNumbers ranks rank n news → x < n → x % ranks ≡ rank
    → new_number ranks news x < n
number_below ranks rank n x news h low own = h.below (x / ranks) 0 (h.placed x low own)

column_fits : (rows cols ranks rank : ℕ) (news : List ℕ) (t : Triple) → rank < ranks → rows < 2 ^ 32 → cols < 2 ^ 32
    → HasNumbers ranks rank rows news → IsKeptCell rows cols ranks rank t
    → may_permute (rows ∷ cols ∷ []) ranks 1 (to_column ranks news t).0 rank (to_column ranks news t).1 ≡ true
column_fits rows cols ranks rank news t own tall wide h k =
    let new : new_number ranks news t.i < rows = number_below ranks rank rows t.i news h k.row k.own in
    let col : t.j < cols = k.col in
    let word : twos_complement t.v < 2 ^ 64 = k.word in
    grind (arith, nat_tests)

row_fits : (rows cols ranks rank : ℕ) (news : List ℕ) (t : Triple) → rank < ranks → rows < 2 ^ 32 → cols < 2 ^ 32
    → HasNumbers ranks rank cols news → IsKeptCell cols rows ranks rank t
    → may_permute (rows ∷ cols ∷ []) ranks 2 (to_row ranks news t).0 rank (to_row ranks news t).1 ≡ true
row_fits rows cols ranks rank news t own tall wide h k =
    let new : new_number ranks news t.i < cols = number_below ranks rank cols t.i news h k.row k.own in
    let row : t.j < rows = k.col in
    let word : twos_complement t.v < 2 ^ 64 = k.word in
    grind (arith, nat_tests)

abbrev FitsIn : PermuteState → ℕ → ℕ × Item → Type 0
FitsIn s round e = may_permute (s.rows ∷ s.cols ∷ []) s.ranks round e.0 s.rank e.1 ≡ true

pub permute_next_fit : (s : PermuteState) → IsPermuting s → All (FitsIn s (min (s.round + 1) (2 ^ 64 - 1))) (permute_next_outgoing s)
permute_next_fit s v =
    let rows : List (ℕ × Item) = map (to_column s.ranks s.new_rows) s.cells in
    let cols : List (ℕ × Item) = map (to_row s.ranks s.new_cols) s.cells in
    elim (cases_eq s.round 0) [
      | inl z ↦
          let one : min (s.round + 1) (2 ^ 64 - 1) ≡ 1 = omega arith in
          let in_rows : All (IsKeptCell s.rows s.cols s.ranks s.rank) s.cells =
          subst (λ b. All (IsKeptCell (if b then s.cols else s.rows) (if b then s.rows else s.cols) s.ranks s.rank) s.cells)
          (ne_eqb s.round 1 (λ e. absurd (omega arith))) v.kept in
          subst (λ b. All (FitsIn s (min (s.round + 1) (2 ^ 64 - 1)))
          (if b then rows else if s.round == 1 then cols else [])) (sym (eq-eqb s.round 0 z))
          (subst (λ n. All (FitsIn s n) rows) (sym one)
          (All-map (FitsIn s 1) (to_column s.ranks s.new_rows) s.cells
          (λ k d l. column_fits s.rows s.cols s.ranks s.rank s.new_rows
          (get_or s.cells k d) v.own v.tall v.wide v.row_numbers (in_rows k d l))))
      | inr n ↦
          subst (λ b. All (FitsIn s (min (s.round + 1) (2 ^ 64 - 1)))
          (if b then rows else if s.round == 1 then cols else [])) (sym (ne_eqb s.round 0 n))
          (elim (cases_eq s.round 1) [
            | inl z ↦
                let two : min (s.round + 1) (2 ^ 64 - 1) ≡ 2 = omega arith in
                let in_cols : All (IsKeptCell s.cols s.rows s.ranks s.rank) s.cells =
                subst (λ b. All
                (IsKeptCell (if b then s.cols else s.rows) (if b then s.rows else s.cols) s.ranks s.rank) s.cells)
                (eq-eqb s.round 1 z) v.kept in
                subst (λ b. All (FitsIn s (min (s.round + 1) (2 ^ 64 - 1))) (if b then cols else []))
                (sym (eq-eqb s.round 1 z))
                (subst (λ n. All (FitsIn s n) cols) (sym two)
                (All-map (FitsIn s 2) (to_row s.ranks s.new_cols) s.cells
                (λ k d l. row_fits s.rows s.cols s.ranks s.rank s.new_cols
                (get_or s.cells k d) v.own v.tall v.wide v.col_numbers (in_cols k d l))))
            | inr m ↦ subst (λ b. All (FitsIn s (min (s.round + 1) (2 ^ 64 - 1))) (if b then cols else []))
                (sym (ne_eqb s.round 1 m)) (All-nil (FitsIn s (min (s.round + 1) (2 ^ 64 - 1))))
          ])
    ]

-- and what is kept is kept in the next round
pub next_kept : (s : PermuteState) → IsPermuting s
    → All (IsKeptCell (if min (s.round + 1) (2 ^ 64 - 1) == 1 then s.cols else s.rows)
    (if min (s.round + 1) (2 ^ 64 - 1) == 1 then s.rows else s.cols) s.ranks s.rank)
    (if nat_lt s.round 2 then [] else s.cells)
next_kept s v =
    let round : ℕ = min (s.round + 1) (2 ^ 64 - 1) in
    elim (cases_lt s.round 2) [
      | inl low ↦
          subst (λ b. All
          (IsKeptCell (if round == 1 then s.cols else s.rows) (if round == 1 then s.rows else s.cols) s.ranks s.rank)
          (if b then [] else s.cells)) (sym (lt-ltb s.round 2 low))
          (All-nil (IsKeptCell (if round == 1 then s.cols else s.rows)
          (if round == 1 then s.rows else s.cols) s.ranks s.rank))
      | inr high ↦
          let now : (s.round == 1) ≡ false = ne_eqb s.round 1 (λ e. absurd (omega arith)) in
          let later : (round == 1) ≡ false = ne_eqb round 1 (λ e. absurd (omega arith)) in
          subst (λ b. All
          (IsKeptCell (if round == 1 then s.cols else s.rows) (if round == 1 then s.rows else s.cols) s.ranks s.rank)
          (if b then [] else s.cells)) (sym (le-ltb s.round 2 high))
          (subst (λ b. All
          (IsKeptCell (if b then s.cols else s.rows) (if b then s.rows else s.cols) s.ranks s.rank) s.cells)
          (now ∙ sym later) v.kept)
    ]

pub next_ordered : (b : Bool) (cells : List Triple) → InOrder cells → InOrder (if b then [] else cells)
next_ordered true cells h = pairs_none (λ s t. is_before s t ≡ true)
next_ordered false cells h = h

pub permute_laws : Laws permute_rules
permute_laws =
    record {
      emits = λ s v. v.fit;
      commutes = λ s f g x y v d e h. ap (λ c. record s { cells = c })
          (raised_comm (kept_as s.round y) (kept_as s.round x) s.cells v.ordered);
      keeps = λ s f x v e. keeps s f x v e;
      vote_below = λ s v. lit< tt;
      next = λ s votes v l. record {
        valid = record {
          own = v.own;
          tall = v.tall;
          wide = v.wide;
          row_numbers = v.row_numbers;
          col_numbers = v.col_numbers;
          kept = next_kept s v;
          ordered =
              next_ordered (nat_lt s.round 2) s.cells v.ordered;
          fit = permute_next_fit s v;
        };
        rank = refl;
        ranks = refl;
        round = refl;
        shape = refl;
        most = refl;
      };
      within = permute_within;
      most_below = λ s v. lit< tt;
    }
