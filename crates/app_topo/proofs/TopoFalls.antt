-- An even round of topo: what a level frees is taken off the numbers and sums of the rows.
use Rattle.std.proofs.Common.{ℕ, suc, ◌+◌, ◌-◌, ◌*◌, ◌%◌, ◌^◌, ◌<◌, ◌≤◌, ◌≡◌, ◌==◌, ◌&&◌, Bool, true, false, cond, eqb, List, [], ◌∷◌, map, length, get_or, sum_by, count_by, All, arith, inl, inr, refl, sym, ap, ◌∙◌, subst}
use Rattle.std.specs.Prelude.{nat_lt}
use Rattle.std.specs.List.{AllPairs, filter}
use Rattle.std.proofs.lemmas.Bool.{cases_Bool, cases_eq, cases_lt, eq-eqb, ne_eqb, eqb-true, lt-ltb, le-ltb}
use Rattle.std.proofs.lemmas.List.Elements.{All-head, All-tail, All-map, All-filter, All-contains, filter_passes}
use Rattle.std.proofs.lemmas.List.Sums.{sum_by-cons, count_by-le-length}
use Rattle.std.proofs.lemmas.List.Sorted.{sum_by-IsPermutation}
use Rattle.bale_items.specs.declared.Item.{Item}
use Rattle.bale_items.specs.declared.triple.Triple.{Triple}
use Rattle.mtx_text.specs.Sparse.{Sparse, IsSparse, IsEntry}
use Rattle.mtx_text.specs.Cells.{gathered_cells}
use Rattle.mtx_text.proofs.Gathered.{gathered_all}
use Rattle.sparse_rows.specs.Deals.{dealt}
use Rattle.sparse_rows.proofs.Doubles.{one_if}
use Rattle.sparse_rows.proofs.EveryEntry.{came_to}
use Rattle.sparse_rows.proofs.Gathering.{row_of, Differ, pairs_map, gathered_moves}
use Rattle.app_topo.specs.Levels.{Claim, col_claims, is_open}
use Rattle.app_topo.specs.Topos.{spot}
use Rattle.app_topo.proofs.Counting.{count_cons, count_append, found_by}
use Rattle.app_topo.proofs.LevelFacts.{IsNext, level_next, next_free}
use Rattle.app_topo.proofs.TopoTables.{table, added_all, share, IsFor, added_total, came_share}
use Rattle.app_topo.proofs.TopoStates.{claims, next, by_column, freed, is_freed, open_number, open_sum, fall_item}
use Rattle.app_topo.proofs.TopoClaims.{every}

-- ---- Open before: open still, or freed

-- a column that a level claims was free
freed_was_free : (m : Sparse) (t j : ℕ) → 0 < col_claims j (next m t) → col_claims j (claims m t) ≡ 0
freed_was_free m t j some =
    let c = found_by (λ (c : Claim). eqb c.1 j) (next m t) some in
    ap (λ k. col_claims k (claims m t)) (sym (eqb-true c.0.1 j c.2))
    ∙ next_free m.rows m.entries (claims m t) c.0 (All-contains (IsNext m.rows m.entries (claims m t)) (next m t) c.0 (level_next m.rows m.entries (claims m t)) c.1)

is_lost : Sparse → ℕ → ℕ → Triple → Bool
is_lost m t i e = e.i == i && is_freed m t e.j

part_of : (v : ℕ) (row : Bool) (a b : ℕ) → (0 < b → a ≡ 0) → cond (row && a == 0) v 0 ≡ cond (row && (a + b) == 0) v 0 + cond (row && nat_lt 0 b) v 0
part_of v false a b h = omega arith
part_of v true a b h =
    elim (cases_eq a 0) [
      | inl free ↦ elim (cases_lt 0 b) [
        | inl some ↦
            ap (λ q. cond {A = ℕ} q v 0) (eq-eqb a 0 free)
            ∙ sum_zero v
            ∙ sym (ap (λ q. cond {A = ℕ} q v 0 + cond {A = ℕ} (nat_lt 0 b) v 0) (ne_eqb (a + b) 0 (λ e. absurd (omega arith))) ∙ ap (λ q. 0 + cond {A = ℕ} q v 0) (lt-ltb 0 b some))
        | inr none ↦
            ap (λ q. cond {A = ℕ} q v 0) (eq-eqb a 0 free)
            ∙ zero_sum v
            ∙ sym (ap (λ q. cond {A = ℕ} q v 0 + cond {A = ℕ} (nat_lt 0 b) v 0) (eq-eqb (a + b) 0 (omega arith)) ∙ ap (λ q. v + cond {A = ℕ} q v 0) (le-ltb 0 b none))
      ]
      | inr taken ↦
          let none : b ≤ 0 = elim (cases_lt 0 b) [ inl some ↦ absurd (taken (h some)) | inr z ↦ z ] in
          ap (λ q. cond {A = ℕ} q v 0) (ne_eqb a 0 taken)
          ∙ sym (ap (λ q. cond {A = ℕ} q v 0 + cond {A = ℕ} (nat_lt 0 b) v 0) (ne_eqb (a + b) 0 (λ e. taken (omega arith))) ∙ ap (λ q. 0 + cond {A = ℕ} q v 0) (le-ltb 0 b none))
    ]
  where
    sum_zero : (v : ℕ) → v ≡ 0 + v
    sum_zero v = omega arith

    zero_sum : (v : ℕ) → v ≡ v + 0
    zero_sum v = omega arith

split_sum : (m : Sparse) (t i : ℕ) (f : Triple → ℕ) (es : List Triple)
    → sum_by (λ e. cond (is_open (claims m t) i e) (f e) 0) es ≡ sum_by (λ e. cond (is_open (claims m (suc t)) i e) (f e) 0) es + sum_by (λ e. cond (is_lost m t i e) (f e) 0) es
unfolding is_lost
split_sum m t i f [] = refl
split_sum m t i f (e ∷ es) =
    let a : sum_by (λ e. cond (is_open (claims m t) i e) (f e) 0) (e ∷ es) ≡ cond {A = ℕ} (is_open (claims m t) i e) (f e) 0 + sum_by (λ e. cond (is_open (claims m t) i e) (f e) 0) es = sum_by-cons (λ e. cond (is_open (claims m t) i e) (f e) 0) e es in
    let b : sum_by (λ e. cond (is_open (claims m (suc t)) i e) (f e) 0) (e ∷ es) ≡ cond {A = ℕ} (is_open (claims m (suc t)) i e) (f e) 0 + sum_by (λ e. cond (is_open (claims m (suc t)) i e) (f e) 0) es = sum_by-cons (λ e. cond (is_open (claims m (suc t)) i e) (f e) 0) e es in
    let c : sum_by (λ e. cond (is_lost m t i e) (f e) 0) (e ∷ es) ≡ cond {A = ℕ} (is_lost m t i e) (f e) 0 + sum_by (λ e. cond (is_lost m t i e) (f e) 0) es = sum_by-cons (λ e. cond (is_lost m t i e) (f e) 0) e es in
    let more : col_claims e.j (claims m (suc t)) ≡ col_claims e.j (claims m t) + col_claims e.j (next m t) = count_append (λ (c : Claim). eqb c.1 e.j) (claims m t) (next m t) in
    let here : cond {A = ℕ} (is_open (claims m t) i e) (f e) 0 ≡ cond {A = ℕ} (is_open (claims m (suc t)) i e) (f e) 0 + cond {A = ℕ} (is_lost m t i e) (f e) 0 =
    part_of (f e) (eqb e.i i) (col_claims e.j (claims m t)) (col_claims e.j (next m t)) (freed_was_free m t e.j)
    ∙ ap (λ k. cond {A = ℕ} (e.i == i && k == 0) (f e) 0 + cond {A = ℕ} (is_lost m t i e) (f e) 0) (sym more) in
    omega (arith, a, b, c, here, split_sum m t i f es)

-- ---- What is freed, as the falls tell it

pub flip_differ : (m : Sparse) → IsSparse m → AllPairs Differ (map (λ t. spot t.j t.i) m.entries)
flip_differ m is =
    pairs_map (IsEntry m) Differ Differ (λ t. spot t.j t.i) m.entries (λ s t a b differ same. differ (record { row = same.col; col = same.row })) is.inside is.once

filter_sum : {X : Type 0} (q : X → Bool) (f : X → ℕ) (xs : List X) → sum_by f (filter q xs) ≡ sum_by (λ x. cond (q x) (f x) 0) xs
filter_sum q f [] = refl
filter_sum q f (x ∷ xs) =
    let s : sum_by (λ x. cond (q x) (f x) 0) (x ∷ xs) ≡ cond {A = ℕ} (q x) (f x) 0 + sum_by (λ x. cond (q x) (f x) 0) xs = sum_by-cons (λ x. cond (q x) (f x) 0) x xs in
    elim (cases_Bool (q x)) [
      | inl t ↦
          let mine : cond {A = ℕ} (q x) (f x) 0 ≡ f x = ap (λ b. cond {A = ℕ} b (f x) 0) t in
          let c : sum_by f (x ∷ filter q xs) ≡ f x + sum_by f (filter q xs) = sum_by-cons f x (filter q xs) in
          ap (λ b. sum_by f (cond b (x ∷ filter q xs) (filter q xs))) t ∙ omega (arith, s, mine, c, filter_sum q f xs)
      | inr u ↦
          let none : cond {A = ℕ} (q x) (f x) 0 ≡ 0 = ap (λ b. cond {A = ℕ} b (f x) 0) u in
          ap (λ b. sum_by f (cond b (x ∷ filter q xs) (filter q xs))) u ∙ omega (arith, s, none, filter_sum q f xs)
    ]

map_sum : {X Y : Type 0} (f : Y → ℕ) (g : X → Y) (xs : List X) → sum_by f (map g xs) ≡ sum_by (λ x. f (g x)) xs
map_sum f g [] = refl
map_sum f g (x ∷ xs) = sum_by-cons f (g x) (map g xs) ∙ ap (λ k. f (g x) + k) (map_sum f g xs) ∙ sym (sum_by-cons (λ x. f (g x)) x xs)

same_sum : {X : Type 0} (f g : X → ℕ) (xs : List X) → ((x : X) → f x ≡ g x) → sum_by f xs ≡ sum_by g xs
same_sum f g [] h = refl
same_sum f g (x ∷ xs) h = sum_by-cons f x xs ∙ ap (λ k. k + sum_by f xs) (h x) ∙ ap (λ k. g x + k) (same_sum f g xs h) ∙ sym (sum_by-cons g x xs)

-- a sum over what is freed of row i is one over the entries that the row loses
lost_sum : (m : Sparse) (t i : ℕ) (f : Triple → ℕ) → IsSparse m
    → sum_by (λ u. cond (u.j == i) (f u) 0) (freed m t) ≡ sum_by (λ e. cond (is_lost m t i e) (f (spot e.j e.i)) 0) m.entries
unfolding is_lost
lost_sum m t i f is =
    let flips : List Triple = map (λ t. spot t.j t.i) m.entries in
    let h : Triple → ℕ = λ u. cond (is_freed m t u.i) (cond (u.j == i) (f u) 0) 0 in
    filter_sum (λ u. is_freed m t u.i) (λ u. cond (u.j == i) (f u) 0) (by_column m)
    ∙ sum_by-IsPermutation h flips (gathered_cells flips) (gathered_moves flips (flip_differ m is))
    ∙ map_sum h (λ t. spot t.j t.i) m.entries
    ∙ same_sum (λ e. h (spot e.j e.i)) (λ e. cond (e.i == i && is_freed m t e.j) (f (spot e.j e.i)) 0) m.entries (λ e. nested (is_freed m t e.j) (eqb e.i i) (f (spot e.j e.i)))
  where
    nested : (a b : Bool) (v : ℕ) → cond a (cond b v 0) 0 ≡ cond (b && a) v 0
    nested true true v = refl
    nested true false v = refl
    nested false true v = refl
    nested false false v = refl

abbrev pub lost : Sparse → ℕ → ℕ → ℕ
lost m t i = count_by (λ u. u.j == i) (freed m t)

abbrev lost_columns : Sparse → ℕ → ℕ → ℕ
lost_columns m t i = sum_by (λ u. cond (u.j == i) u.i 0) (freed m t)

pub number_falls : (m : Sparse) (t i : ℕ) → IsSparse m → open_number m (claims m t) i ≡ open_number m (claims m (suc t)) i + lost m t i
number_falls m t i is = split_sum m t i (λ e. 1) m.entries ∙ ap (λ k. open_number m (claims m (suc t)) i + k) (sym (lost_sum m t i (λ u. 1) is))

sum_falls : (m : Sparse) (t i : ℕ) → IsSparse m → open_sum m (claims m t) i ≡ open_sum m (claims m (suc t)) i + lost_columns m t i
sum_falls m t i is = split_sum m t i (λ e. e.j) m.entries ∙ ap (λ k. open_sum m (claims m (suc t)) i + k) (sym (lost_sum m t i (λ u. u.i) is))

-- ---- The numbers and sums after the falls

abbrev pub minus_one : Item → ℕ
minus_one x = 2 ^ 64 - 1

abbrev pub minus_column : Item → ℕ
minus_column x = 2 ^ 64 - x.b

abbrev pub come_falls : ℕ → Sparse → ℕ → ℕ → List (ℕ × Item)
come_falls ranks m t r = came_to (row_of ranks) (λ u. u.j % ranks) fall_item r (freed m t)

ones_sum : (i : ℕ) (us : List Triple) → sum_by (λ u. cond (u.j == i) (2 ^ 64 - 1) 0) us ≡ (2 ^ 64 - 1) * count_by (λ u. u.j == i) us
ones_sum i [] = refl
ones_sum i (u ∷ us) =
    let s : sum_by (λ u. cond (u.j == i) (2 ^ 64 - 1) 0) (u ∷ us) ≡ cond {A = ℕ} (u.j == i) (2 ^ 64 - 1) 0 + sum_by (λ u. cond (u.j == i) (2 ^ 64 - 1) 0) us = sum_by-cons (λ u. cond (u.j == i) (2 ^ 64 - 1) 0) u us in
    let c : count_by (λ u. u.j == i) (u ∷ us) ≡ one_if (u.j == i) + count_by (λ u. u.j == i) us = count_cons (λ u. u.j == i) u us in
    elim (cases_Bool (u.j == i)) [
      | inl t ↦
          let a : cond {A = ℕ} (u.j == i) (2 ^ 64 - 1) 0 ≡ 2 ^ 64 - 1 = ap (λ b. cond {A = ℕ} b (2 ^ 64 - 1) 0) t in
          let b : one_if (u.j == i) ≡ 1 = ap one_if t in
          omega (arith, s, c, a, b, ones_sum i us)
      | inr n ↦
          let a : cond {A = ℕ} (u.j == i) (2 ^ 64 - 1) 0 ≡ 0 = ap (λ b. cond {A = ℕ} b (2 ^ 64 - 1) 0) n in
          let b : one_if (u.j == i) ≡ 0 = ap one_if n in
          omega (arith, s, c, a, b, ones_sum i us)
    ]

columns_sum : (i : ℕ) (us : List Triple) → All (λ u. u.i < 2 ^ 64) us
    → sum_by (λ u. cond (u.j == i) (2 ^ 64 - u.i) 0) us + sum_by (λ u. cond (u.j == i) u.i 0) us ≡ 2 ^ 64 * count_by (λ u. u.j == i) us
columns_sum i [] low = refl
columns_sum i (u ∷ us) low =
    let small : u.i < 2 ^ 64 = All-head (λ u. u.i < 2 ^ 64) u us low in
    let rest = columns_sum i us (All-tail (λ u. u.i < 2 ^ 64) u us low) in
    let s : sum_by (λ u. cond (u.j == i) (2 ^ 64 - u.i) 0) (u ∷ us) ≡ cond {A = ℕ} (u.j == i) (2 ^ 64 - u.i) 0 + sum_by (λ u. cond (u.j == i) (2 ^ 64 - u.i) 0) us = sum_by-cons (λ u. cond (u.j == i) (2 ^ 64 - u.i) 0) u us in
    let v : sum_by (λ u. cond (u.j == i) u.i 0) (u ∷ us) ≡ cond {A = ℕ} (u.j == i) u.i 0 + sum_by (λ u. cond (u.j == i) u.i 0) us = sum_by-cons (λ u. cond (u.j == i) u.i 0) u us in
    let c : count_by (λ u. u.j == i) (u ∷ us) ≡ one_if (u.j == i) + count_by (λ u. u.j == i) us = count_cons (λ u. u.j == i) u us in
    elim (cases_Bool (u.j == i)) [
      | inl t ↦
          let a : cond {A = ℕ} (u.j == i) (2 ^ 64 - u.i) 0 ≡ 2 ^ 64 - u.i = ap (λ b. cond {A = ℕ} b (2 ^ 64 - u.i) 0) t in
          let d : cond {A = ℕ} (u.j == i) u.i 0 ≡ u.i = ap (λ b. cond {A = ℕ} b u.i 0) t in
          let b : one_if (u.j == i) ≡ 1 = ap one_if t in
          omega (arith, s, v, c, a, d, b, rest)
      | inr n ↦
          let a : cond {A = ℕ} (u.j == i) (2 ^ 64 - u.i) 0 ≡ 0 = ap (λ b. cond {A = ℕ} b (2 ^ 64 - u.i) 0) n in
          let d : cond {A = ℕ} (u.j == i) u.i 0 ≡ 0 = ap (λ b. cond {A = ℕ} b u.i 0) n in
          let b : one_if (u.j == i) ≡ 0 = ap one_if n in
          omega (arith, s, v, c, a, d, b, rest)
    ]

-- sums stay small
sum_small : (p : Triple → Bool) (n : ℕ) (es : List Triple) → All (λ (e : Triple). e.j < n) es → n ≤ 16384 → sum_by (λ e. cond (p e) e.j 0) es ≤ 16384 * length es
sum_small p n [] low wide = omega arith
sum_small p n (e ∷ es) low wide =
    let here : e.j < n = All-head (λ (e : Triple). e.j < n) e es low in
    let rest : sum_by (λ e. cond (p e) e.j 0) es ≤ 16384 * length es = sum_small p n es (All-tail (λ (e : Triple). e.j < n) e es low) wide in
    let s : sum_by (λ e. cond (p e) e.j 0) (e ∷ es) ≡ cond {A = ℕ} (p e) e.j 0 + sum_by (λ e. cond (p e) e.j 0) es = sum_by-cons (λ e. cond (p e) e.j 0) e es in
    elim (cases_Bool (p e)) [
      | inl t ↦ (let a : cond {A = ℕ} (p e) e.j 0 ≡ e.j = ap (λ b. cond {A = ℕ} b e.j 0) t in omega arith)
      | inr u ↦ (let a : cond {A = ℕ} (p e) e.j 0 ≡ 0 = ap (λ b. cond {A = ℕ} b e.j 0) u in omega arith)
    ]

pub open_small : (m : Sparse) (cs : List Claim) (i : ℕ) → IsSparse m → open_sum m cs i < 2 ^ 63
open_small m cs i is =
    let few : length m.entries ≤ 524288 = is.few in
    let s : open_sum m cs i ≤ 16384 * length m.entries = sum_small (is_open cs i) m.cols m.entries (λ k d l. (is.inside k d l).col) is.wide in
    omega arith

pub number_small : (m : Sparse) (cs : List Claim) (i : ℕ) → IsSparse m → open_number m cs i < 2 ^ 63
number_small m cs i is =
    let few : length m.entries ≤ 524288 = is.few in
    omega (arith, count_by-le-length (is_open cs i) m.entries)

freed_inside : (m : Sparse) (t : ℕ) → m.rows ≡ m.cols → IsSparse m → All (λ u. (u.i < m.rows) × (u.j < m.rows)) (freed m t)
freed_inside m t square is =
    All-filter (λ u. is_freed m t u.i) (λ u. (u.i < m.rows) × (u.j < m.rows)) (by_column m)
    (gathered_all (λ u. (u.i < m.rows) × (u.j < m.rows)) (λ s u e f a b. a) (map (λ t. spot t.j t.i) m.entries)
    (All-map (λ u. (u.i < m.rows) × (u.j < m.rows)) (λ t. spot t.j t.i) m.entries (λ k d l. (subst (λ n. (get_or m.entries k d).j < n) (sym square) (is.inside k d l).col, (is.inside k d l).row))))

pub falls_own : (ranks : ℕ) (m : Sparse) (t r : ℕ) → m.rows ≡ m.cols → IsSparse m → All (IsFor ranks r m.rows) (come_falls ranks m t r)
falls_own ranks m t r square is =
    All-map (IsFor ranks r m.rows) (λ u. (row_of ranks u, fall_item u)) (dealt (λ u. u.j % ranks) r (freed m t)) (λ k d l.
    (eqb-true _ r (filter_passes (λ u. eqb (u.j % ranks) r) (freed m t) k d l), (All-filter (λ u. eqb (u.j % ranks) r) (λ u. (u.i < m.rows) × (u.j < m.rows)) (freed m t) (freed_inside m t square is) k d l).1))

pub numbers_after : (ranks : ℕ) (m : Sparse) (t r : ℕ) → r < ranks → m.rows ≡ m.cols → IsSparse m
    → added_all ranks every minus_one (table ranks r m.rows (open_number m (claims m t))) (come_falls ranks m t r) ≡ table ranks r m.rows (open_number m (claims m (suc t)))
numbers_after ranks m t r low square is =
    added_total ranks r m.rows every minus_one (open_number m (claims m t)) (open_number m (claims m (suc t))) (come_falls ranks m t r) low (falls_own ranks m t r square is)
    (λ i own. omega (arith, number_small m (claims m t) i is))
    (λ i own.
    let sum : sum_by (share every minus_one i) (come_falls ranks m t r) ≡ (2 ^ 64 - 1) * lost m t i = came_share (row_of ranks) fall_item every minus_one ranks i r (freed m t) own ∙ ones_sum i (freed m t) in
    omega (arith, sum, number_falls m t i is, number_small m (claims m t) i is))

pub sums_after : (ranks : ℕ) (m : Sparse) (t r : ℕ) → r < ranks → m.rows ≡ m.cols → IsSparse m
    → added_all ranks every minus_column (table ranks r m.rows (open_sum m (claims m t))) (come_falls ranks m t r) ≡ table ranks r m.rows (open_sum m (claims m (suc t)))
sums_after ranks m t r low square is =
    let tall : m.rows ≤ 16384 = is.tall in
    added_total ranks r m.rows every minus_column (open_sum m (claims m t)) (open_sum m (claims m (suc t))) (come_falls ranks m t r) low (falls_own ranks m t r square is)
    (λ i own. omega (arith, open_small m (claims m t) i is))
    (λ i own.
    let sum : sum_by (share every minus_column i) (come_falls ranks m t r) ≡ sum_by (λ u. cond (u.j == i) (2 ^ 64 - u.i) 0) (freed m t) = came_share (row_of ranks) fall_item every minus_column ranks i r (freed m t) own in
    let both : sum_by (λ u. cond (u.j == i) (2 ^ 64 - u.i) 0) (freed m t) + lost_columns m t i ≡ 2 ^ 64 * lost m t i =
    columns_sum i (freed m t) (λ k d l. (let a : (get_or (freed m t) k d).i < m.rows = (freed_inside m t square is k d l).0 in omega arith)) in
    omega (arith, sum, both, sum_falls m t i is, open_small m (claims m t) i is))
