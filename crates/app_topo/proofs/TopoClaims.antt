-- An odd round of topo: rows claim columns.
use Rattle.std.proofs.Common.{ℕ, suc, ◌+◌, ◌*◌, ◌%◌, ◌<◌, ◌≤◌, ◌≡◌, ◌≢◌, ◌==◌, ◌++◌, Bool, true, false, cond, eqb, List, [], ◌∷◌, map, length, get_or, sum_by, count_by, All, arith, inl, inr, refl, sym, ap, ◌∙◌, subst}
use Rattle.std.specs.Prelude.{nat_lt}
use Rattle.std.specs.List.{AllPairs, fold, filter, flat_map}
use Rattle.std.proofs.lemmas.Bool.{cases_Bool, cases_eq, cases_lt, eq-eqb, ne_eqb, eqb-true, lt-ltb, le-ltb, ltb-true}
use Rattle.std.proofs.lemmas.List.{map-append}
use Rattle.std.proofs.lemmas.List.Elements.{All-head, All-tail, All-map, All-filter, All-contains, filter_passes}
use Rattle.std.proofs.lemmas.List.Sums.{count_by-le-length}
use Rattle.bale_items.specs.declared.Item.{Item}
use Rattle.bale_items.specs.declared.triple.Triple.{Triple}
use Rattle.list_laws.specs.Sums.{total}
use Rattle.list_laws.proofs.Sums.{total_bound}
use Rattle.mtx_text.specs.Sparse.{Sparse, IsSparse}
use Rattle.mtx_text.specs.Cells.{is_before, InOrder, with_value_raised, raised_all, gathered_cells}
use Rattle.mtx_text.proofs.PlaceOrder.{pairs_head, pairs_tail, before_parts, place_cases}
use Rattle.mtx_text.proofs.Raised.{greater, raised_first, raised_later, raised_here}
use Rattle.mtx_text.proofs.Gathered.{gathered_ordered, gathered_all}
use Rattle.round_program.specs.Orders.{absorb_each}
use Rattle.sparse_rows.specs.Deals.{dealt}
use Rattle.sparse_rows.proofs.Deals.{filter_dealt, filter_none}
use Rattle.sparse_rows.proofs.Doubles.{one_if}
use Rattle.sparse_rows.proofs.EveryEntry.{came_to}
use Rattle.sparse_rows.proofs.Gathering.{row_of, pairs_filter, gathered_cons}
use Rattle.app_topo.specs.Levels.{Claim, row_claims, col_claims}
use Rattle.app_topo.specs.Topos.{TopoState, topo_rules, spot, to_fall, falls_of, after_entry, claimed_by, after_fall}
use Rattle.app_topo.specs.laws.TopoLaws.{in_odd}
use Rattle.app_topo.proofs.Counting.{count_cons, count_append, count_total, found_by}
use Rattle.app_topo.proofs.LevelFacts.{rows_once, rows_below, cols_below}
use Rattle.app_topo.proofs.TopoTables.{table, added_all, share, IsFor, added_total, came_share}
use Rattle.app_topo.proofs.TopoStates.{claims, next, by_column, freed, is_freed, claim_row, claim_column, claim_item}

-- ---- What the absorbs of an odd round leave

abbrev pub claims_all : TopoState → List (ℕ × Item) → TopoState
claims_all s came = fold (λ u e. claimed_by u e.1) s came

pub each_claimed : (s : TopoState) (came : List (ℕ × Item)) → s.round ≢ 0 → s.round % 2 ≡ 1 → absorb_each topo_rules s came ≡ claims_all s came
each_claimed s [] n o = refl
each_claimed s (e ∷ es) n o =
    ap (λ u. absorb_each topo_rules u es) (in_odd s (after_entry s e.1) (claimed_by s e.1) (after_fall s e.1) n o) ∙ each_claimed (claimed_by s e.1) es n o

abbrev pub every : Item → Bool
every x = true

abbrev pub one_each : Item → ℕ
one_each x = 1

pub claims_parts : (s : TopoState) (came : List (ℕ × Item))
    → claims_all s came ≡ record s { counts = added_all s.ranks every one_each s.counts came; fresh = (claims_all s came).fresh; came = raised_all s.came (map (λ e. spot e.1.a 0) came) }
claims_parts s [] = refl
claims_parts s (e ∷ es) = claims_parts (claimed_by s e.1) es

-- ---- The counts

pub claims_short : (m : Sparse) (t : ℕ) → length (claims m t) ≤ m.rows
claims_short m t =
    let sum : total m.rows (λ i. row_claims i (claims m t)) ≡ length (claims m t) = count_total m.rows (λ (c : Claim). c.0) (claims m t) (rows_below m.rows m.entries t) in
    let few : total m.rows (λ i. row_claims i (claims m t)) ≤ m.rows * 1 = total_bound m.rows 1 (λ i. row_claims i (claims m t)) (λ i l. rows_once m.rows m.entries t i) in
    omega arith

pub col_few : (m : Sparse) (t j : ℕ) → col_claims j (claims m t) ≤ m.rows
col_few m t j = omega (arith, count_by-le-length (λ (c : Claim). eqb c.1 j) (claims m t), claims_short m t)

abbrev pub come_claims : ℕ → Sparse → ℕ → ℕ → List (ℕ × Item)
come_claims ranks m t r = came_to (claim_row ranks) (claim_column ranks) claim_item r (next m t)

pub next_inside : (m : Sparse) (t : ℕ) → m.rows ≡ m.cols → IsSparse m → All (λ (c : Claim). c.1 < m.rows) (next m t)
next_inside m t square is = λ k d l.
    let all : All (λ (c : Claim). c.1 < m.rows) (claims m (suc t)) = cols_below m.rows m.entries (suc t) (λ k d l. subst (λ n. (get_or m.entries k d).j < n) (sym square) (is.inside k d l).col) in
    later (λ (c : Claim). c.1 < m.rows) (claims m t) (next m t) all k d l
  where
    later : (P : Claim → Type 0) (xs ys : List Claim) → All P (xs ++ ys) → All P ys
    later P [] ys h = h
    later P (x ∷ xs) ys h = later P xs ys (All-tail P x (xs ++ ys) h)

come_own : (ranks : ℕ) (m : Sparse) (t r : ℕ) → All (λ (c : Claim). c.1 < m.rows) (next m t) → All (IsFor ranks r m.rows) (come_claims ranks m t r)
come_own ranks m t r low =
    All-map (IsFor ranks r m.rows) (λ c. (claim_row ranks c, claim_item c)) (dealt (claim_column ranks) r (next m t)) (λ k d l.
    (eqb-true _ r (filter_passes (λ c. eqb (claim_column ranks c) r) (next m t) k d l), All-filter (λ c. eqb (claim_column ranks c) r) (λ (c : Claim). c.1 < m.rows) (next m t) low k d l))

pub counts_after : (ranks : ℕ) (m : Sparse) (t r : ℕ) → r < ranks → m.rows ≡ m.cols → IsSparse m
    → added_all ranks every one_each (table ranks r m.rows (λ j. col_claims j (claims m t))) (come_claims ranks m t r) ≡ table ranks r m.rows (λ j. col_claims j (claims m (suc t)))
counts_after ranks m t r low square is =
    let tall : m.rows ≤ 16384 = is.tall in
    added_total ranks r m.rows every one_each (λ j. col_claims j (claims m t)) (λ j. col_claims j (claims m (suc t))) (come_claims ranks m t r) low (come_own ranks m t r (next_inside m t square is))
    (λ j own. omega (arith, col_few m t j))
    (λ j own.
    let both : col_claims j (claims m (suc t)) ≡ col_claims j (claims m t) + col_claims j (next m t) = count_append (λ (c : Claim). eqb c.1 j) (claims m t) (next m t) in
    let sum : sum_by (share every one_each j) (come_claims ranks m t r) ≡ col_claims j (next m t) = came_share (claim_row ranks) claim_item every one_each ranks j r (next m t) own in
    omega (arith, both, sum, col_few m (suc t) j))

-- ---- The falls that follow

-- a filter by what all elements agree on
pub filter_same : {X : Type 0} (p q : X → Bool) (xs : List X) → All (λ x. p x ≡ q x) xs → filter p xs ≡ filter q xs
filter_same p q [] h = refl
filter_same p q (x ∷ xs) h =
    ap (λ b. cond b (x ∷ filter p xs) (filter p xs)) (All-head (λ x. p x ≡ q x) x xs h) ∙ ap (λ ys. cond (q x) (x ∷ ys) ys) (filter_same p q xs (All-tail (λ x. p x ≡ q x) x xs h))

-- the columns that were claimed, as rising marks
abbrev pub mark_of : Claim → Triple
mark_of c = spot c.1 0

abbrev IsMark : Triple → Type 0
IsMark u = u.j ≡ 0

abbrev marked : ℕ → List Triple → Bool
marked j marks = nat_lt 0 (count_by (λ c. c.i == j) marks)

-- two parts of a filter, of which the first ends before the second begins
split_filter : {X : Type 0} (p q w : X → Bool) (xs : List X) → ((x : X) → p x ≡ true → (w x ≡ true) × (q x ≡ false)) → ((x : X) → p x ≡ false → w x ≡ q x)
    → AllPairs (λ x y. q x ≡ true → p y ≡ false) xs → filter p xs ++ filter q xs ≡ filter w xs
split_filter p q w [] first second apart = refl
split_filter {X} p q w (x ∷ xs) first second apart =
    let rest : filter p xs ++ filter q xs ≡ filter w xs = split_filter p q w xs first second (pairs_tail (λ x y. q x ≡ true → p y ≡ false) x xs apart) in
    elim (cases_Bool (p x)) [
      | inl here ↦
          ap (λ b. cond b (x ∷ filter p xs) (filter p xs) ++ filter q (x ∷ xs)) here
          ∙ ap (λ b. (x ∷ filter p xs) ++ cond b (x ∷ filter q xs) (filter q xs)) (first x here).1
          ∙ ap (λ ys. x ∷ ys) rest
          ∙ ap (λ b. cond b (x ∷ filter w xs) (filter w xs)) (sym (first x here).0)
      | inr away ↦
          ap (λ b. cond b (x ∷ filter p xs) (filter p xs) ++ filter q (x ∷ xs)) away
          ∙ (elim (cases_Bool (q x)) [
            | inl there ↦
                let none : filter p xs ≡ [] = nothing p xs (λ k d l. pairs_head (λ x y. q x ≡ true → p y ≡ false) x xs apart k d l there) in
                ap (λ ys. ys ++ filter q (x ∷ xs)) none
                ∙ ap (λ b. cond b (x ∷ filter q xs) (filter q xs)) there
                ∙ ap (λ ys. x ∷ ys) (ap (λ ys. ys ++ filter q xs) (sym none) ∙ rest)
                ∙ ap (λ b. cond b (x ∷ filter w xs) (filter w xs)) (sym (second x away ∙ there))
            | inr neither ↦
                ap (λ b. filter p xs ++ cond b (x ∷ filter q xs) (filter q xs)) neither
                ∙ rest
                ∙ ap (λ b. cond b (x ∷ filter w xs) (filter w xs)) (sym (second x away ∙ neither))
          ])
    ]
  where
    nothing : {X : Type 0} (p : X → Bool) (xs : List X) → All (λ x. p x ≡ false) xs → filter p xs ≡ []
    nothing p [] h = refl
    nothing p (x ∷ xs) h = ap (λ b. cond b (x ∷ filter p xs) (filter p xs)) (All-head (λ x. p x ≡ false) x xs h) ∙ nothing p xs (All-tail (λ x. p x ≡ false) x xs h)

rises : (u v : Triple) → is_before u v ≡ true → u.i ≤ v.i
rises u v h =
    elim (before_parts u.i u.j v.i v.j h) [
      | inl less ↦ omega arith
      | inr same ↦ (let e : u.i ≡ v.i = same.0 in omega arith)
    ]

pub rises_more : (u v : Triple) → is_before u v ≡ true → u.j ≡ 0 → v.j ≡ 0 → u.i < v.i
rises_more u v h a b =
    elim (before_parts u.i u.j v.i v.j h) [
      | inl less ↦ less
      | inr same ↦ (let l : u.j < v.j = same.1 in absurd (omega arith))
    ]

-- marks that rise past a number don't mark it
past_marks : (c : Triple) (marks : List Triple) → All (λ d. c.i < d.i) marks → count_by (λ d. d.i == c.i) marks ≡ 0
past_marks c [] h = refl
past_marks c (d ∷ ds) h =
    let up : c.i < d.i = All-head (λ d. c.i < d.i) d ds h in
    let s : count_by (λ d. d.i == c.i) (d ∷ ds) ≡ one_if (eqb d.i c.i) + count_by (λ d. d.i == c.i) ds = count_cons (λ d. eqb d.i c.i) d ds in
    let z : one_if (eqb d.i c.i) ≡ 0 = ap one_if (ne_eqb d.i c.i (λ e. absurd (omega arith))) in
    omega (arith, s, z, past_marks c ds (All-tail (λ d. c.i < d.i) d ds h))

-- column by column, the entries of the marked columns are those whose column is marked
falls_filter : (marks cols : List Triple) → InOrder marks → All IsMark marks → InOrder cols → flat_map (λ c. filter (λ u. u.i == c.i) cols) marks ≡ filter (λ u. marked u.i marks) cols
falls_filter [] cols order flat rise = sym (filter_none (λ u. marked u.i []) cols (λ u. refl))
falls_filter (c ∷ cs) cols order flat rise =
    let later : All (λ d. c.i < d.i) cs = λ k d l. rises_more c (get_or cs k d) (pairs_head (λ s t. is_before s t ≡ true) c cs order k d l) (All-head IsMark c cs flat) (All-tail IsMark c cs flat k d l) in
    let count : (j : ℕ) → count_by (λ d. d.i == j) (c ∷ cs) ≡ one_if (eqb c.i j) + count_by (λ d. d.i == j) cs = λ j. count_cons (λ d. eqb d.i j) c cs in
    ap (λ ys. filter (λ u. u.i == c.i) cols ++ ys) (falls_filter cs cols (pairs_tail (λ s t. is_before s t ≡ true) c cs order) (All-tail IsMark c cs flat) rise)
    ∙ split_filter (λ u. u.i == c.i) (λ u. marked u.i cs) (λ u. marked u.i (c ∷ cs)) cols
    (λ u here.
    let same : u.i ≡ c.i = eqb-true u.i c.i here in
    let one : one_if (eqb c.i u.i) ≡ 1 = ap one_if (eq-eqb c.i u.i (sym same)) in
    let none : count_by (λ d. d.i == u.i) cs ≡ 0 = ap (λ j. count_by (λ d. d.i == j) cs) same ∙ past_marks c cs later in
    (lt-ltb 0 _ (omega (arith, count u.i, one)), ap (nat_lt 0) none))
    (λ u away.
    let z : one_if (eqb c.i u.i) ≡ 0 = ap one_if (ne_eqb c.i u.i (λ e. absurd (let q : eqb u.i c.i ≡ true = eq-eqb u.i c.i (sym e) in cc))) in
    ap (nat_lt 0) (count u.i ∙ omega arith))
    (λ i j d l n there.
    let u : Triple = get_or cols i d in
    let v : Triple = get_or cols j d in
    let up : u.i ≤ v.i = rises u v (rise i j d l n) in
    let w = found_by (λ d. eqb d.i u.i) cs (ltb-true 0 (count_by (λ d. d.i == u.i) cs) there) in
    let same : w.0.i ≡ u.i = eqb-true w.0.i u.i w.2 in
    let more : c.i < w.0.i = All-contains (λ d. c.i < d.i) cs w.0 later w.1 in
    ne_eqb v.i c.i (λ e. absurd (omega arith)))

-- ---- What is marked

pub raised_count : (j : ℕ) (t : Triple) (cells : List Triple) → (count_by (λ c. c.i == j) (with_value_raised t cells) ≤ count_by (λ c. c.i == j) (t ∷ cells)) × (count_by (λ c. c.i == j) (t ∷ cells) ≤ 2 * count_by (λ c. c.i == j) (with_value_raised t cells))
raised_count j t [] = (omega arith, omega arith)
raised_count j t (c ∷ cs) =
    let p : Triple → Bool = λ c. eqb c.i j in
    let whole : count_by p (t ∷ c ∷ cs) ≡ one_if (p t) + count_by p (c ∷ cs) = count_cons p t (c ∷ cs) in
    let inner : count_by p (c ∷ cs) ≡ one_if (p c) + count_by p cs = count_cons p c cs in
    elim (place_cases c t) [
      | inl before ↦
          let r = raised_count j t cs in
          let is : count_by p (with_value_raised t (c ∷ cs)) ≡ count_by p (c ∷ with_value_raised t cs) = ap (count_by p) (raised_later t c cs before) in
          let split : count_by p (c ∷ with_value_raised t cs) ≡ one_if (p c) + count_by p (with_value_raised t cs) = count_cons p c (with_value_raised t cs) in
          let given : count_by p (t ∷ cs) ≡ one_if (p t) + count_by p cs = count_cons p t cs in
          (omega (arith, whole, inner, is, split, given, r.0), omega (arith, whole, inner, is, split, given, r.1))
      | inr o ↦ elim o [
        | inl same ↦
            let is : count_by p (with_value_raised t (c ∷ cs)) ≡ count_by p (greater c t ∷ cs) = ap (count_by p) (raised_here t c cs same.0 same.1) in
            let split : count_by p (greater c t ∷ cs) ≡ one_if (p c) + count_by p cs = count_cons p (greater c t) cs in
            let alike : one_if (p t) ≡ one_if (p c) = ap (λ k. one_if (eqb k j)) (sym same.0) in
            (omega (arith, whole, inner, is, split, alike), omega (arith, whole, inner, is, split, alike))
        | inr after ↦
            let is : count_by p (with_value_raised t (c ∷ cs)) ≡ count_by p (t ∷ c ∷ cs) = ap (count_by p) (raised_first t c cs after) in
            (omega (arith, is), omega (arith, is))
      ]
    ]

pub gathered_marks : (j : ℕ) (ts : List Triple) → (0 < count_by (λ c. c.i == j) ts → 0 < count_by (λ c. c.i == j) (gathered_cells ts)) × (0 < count_by (λ c. c.i == j) (gathered_cells ts) → 0 < count_by (λ c. c.i == j) ts)
gathered_marks j [] = (λ h. h, λ h. h)
gathered_marks j (t ∷ ts) =
    let p : Triple → Bool = λ c. eqb c.i j in
    let is : count_by p (gathered_cells (t ∷ ts)) ≡ count_by p (with_value_raised t (gathered_cells ts)) = ap (count_by p) (gathered_cons t ts) in
    let both = raised_count j t (gathered_cells ts) in
    let a : count_by p (t ∷ gathered_cells ts) ≡ one_if (p t) + count_by p (gathered_cells ts) = count_cons p t (gathered_cells ts) in
    let b : count_by p (t ∷ ts) ≡ one_if (p t) + count_by p ts = count_cons p t ts in
    let rest = gathered_marks j ts in
    elim (cases_eq (count_by p ts) 0) [
      | inl none ↦
          let none_either : count_by p (gathered_cells ts) ≡ 0 = elim (cases_eq (count_by p (gathered_cells ts)) 0) [ inl z ↦ z | inr some ↦ (let s : 0 < count_by p ts = rest.1 (omega arith) in absurd (omega arith)) ] in
          (λ h. omega (arith, is, both.1, a, b, h), λ h. omega (arith, is, both.0, a, b, h))
      | inr some ↦
          let also : 0 < count_by p (gathered_cells ts) = rest.0 (omega arith) in
          (λ h. omega (arith, is, both.1, a), λ h. omega (arith, b))
    ]

pub pos_same : (a b : ℕ) → (0 < a → 0 < b) → (0 < b → 0 < a) → nat_lt 0 a ≡ nat_lt 0 b
pos_same a b f g =
    elim (cases_lt 0 a) [
      | inl some ↦ lt-ltb 0 a some ∙ sym (lt-ltb 0 b (f some))
      | inr none ↦ elim (cases_lt 0 b) [
        | inl some ↦ (let s : 0 < a = g some in absurd (omega arith))
        | inr also ↦ le-ltb 0 a none ∙ sym (le-ltb 0 b also)
      ]
    ]

pub dealt_counts : {X : Type 0} (owner : X → ℕ) (r : ℕ) (p : X → Bool) (xs : List X) → ((x : X) → p x ≡ true → owner x ≡ r) → count_by p (dealt owner r xs) ≡ count_by p xs
dealt_counts owner r p [] own = refl
dealt_counts {X} owner r p (x ∷ xs) own =
    let mine : List X = dealt owner r xs in
    let rest : count_by p mine ≡ count_by p xs = dealt_counts owner r p xs own in
    let s : count_by p (x ∷ xs) ≡ one_if (p x) + count_by p xs = count_cons p x xs in
    elim (cases_eq (owner x) r) [
      | inl here ↦ ap (λ b. count_by p (cond b (x ∷ mine) mine)) (eq-eqb (owner x) r here) ∙ count_cons p x mine ∙ ap (λ k. one_if (p x) + k) rest ∙ sym s
      | inr away ↦
          ap (λ b. count_by p (cond b (x ∷ mine) mine)) (ne_eqb (owner x) r away)
          ∙ (elim (cases_Bool (p x)) [
            | inl passes ↦ absurd (away (own x passes))
            | inr not_it ↦ (let z : one_if (p x) ≡ 0 = ap one_if not_it in omega (arith, rest, s, z))
          ])
    ]

pub map_counts : {X Y : Type 0} (p : Y → Bool) (f : X → Y) (xs : List X) → count_by p (map f xs) ≡ count_by (λ x. p (f x)) xs
map_counts p f [] = refl
map_counts p f (x ∷ xs) = count_cons p (f x) (map f xs) ∙ ap (λ k. one_if (p (f x)) + k) (map_counts p f xs) ∙ sym (count_cons (λ x. p (f x)) x xs)

pub flat_mapped : {X Y Z : Type 0} (g : Y → Z) (f : X → List Y) (xs : List X) → flat_map (λ x. map g (f x)) xs ≡ map g (flat_map f xs)
flat_mapped g f [] = refl
flat_mapped g f (x ∷ xs) = ap (λ ys. map g (f x) ++ ys) (flat_mapped g f xs) ∙ sym (map-append g (f x) (flat_map f xs))

-- the marks of a rank
abbrev pub own_marks : ℕ → Sparse → ℕ → ℕ → List Triple
own_marks ranks m t r = gathered_cells (map mark_of (dealt (claim_column ranks) r (next m t)))

own_marked : (ranks : ℕ) (m : Sparse) (t r j : ℕ) → j % ranks ≡ r → marked j (own_marks ranks m t r) ≡ is_freed m t j
own_marked ranks m t r j own =
    let mine : List Claim = dealt (claim_column ranks) r (next m t) in
    let same : count_by (λ c. c.i == j) (map mark_of mine) ≡ col_claims j (next m t) =
    map_counts (λ (c : Triple). eqb c.i j) mark_of mine ∙ dealt_counts (claim_column ranks) r (λ (c : Claim). eqb c.1 j) (next m t) (λ c is. ap (λ k. k % ranks) (eqb-true c.1 j is) ∙ own) in
    let both = gathered_marks j (map mark_of mine) in
    pos_same (count_by (λ c. c.i == j) (own_marks ranks m t r)) (col_claims j (next m t))
    (λ h. subst (λ k. 0 < k) same (both.1 h)) (λ h. both.0 (subst (λ k. 0 < k) (sym same) h))

pub own_falls : (ranks : ℕ) (m : Sparse) (t r : ℕ) → falls_of ranks (dealt (row_of ranks) r (by_column m)) (own_marks ranks m t r) ≡ map (to_fall ranks) (dealt (row_of ranks) r (freed m t))
own_falls ranks m t r =
    let cols : List Triple = dealt (row_of ranks) r (by_column m) in
    let flat : All IsMark (own_marks ranks m t r) =
    gathered_all IsMark (λ s u e f a b. a) (map mark_of (dealt (claim_column ranks) r (next m t))) (All-map IsMark mark_of (dealt (claim_column ranks) r (next m t)) (λ k d l. refl)) in
    flat_mapped (to_fall ranks) (λ c. filter (λ u. u.i == c.i) cols) (own_marks ranks m t r)
    ∙ ap (map (to_fall ranks))
    (falls_filter (own_marks ranks m t r) cols (gathered_ordered (map mark_of (dealt (claim_column ranks) r (next m t)))) flat
    (pairs_filter (λ s u. is_before s u ≡ true) (λ u. eqb (row_of ranks u) r) (by_column m) (gathered_ordered (map (λ t. spot t.j t.i) m.entries)))
    ∙ filter_same (λ u. marked u.i (own_marks ranks m t r)) (λ u. is_freed m t u.i) cols (λ k d l.
    own_marked ranks m t r (get_or cols k d).i (eqb-true _ r (filter_passes (λ u. eqb (row_of ranks u) r) (by_column m) k d l)))
    ∙ filter_dealt (row_of ranks) r (λ u. is_freed m t u.i) (by_column m))
