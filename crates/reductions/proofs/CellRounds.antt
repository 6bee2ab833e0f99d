-- What a round makes of the cells of each rank.
use Rattle.std.proofs.Common.{ℕ, zero, suc, ◌+◌, ◌<◌, ◌≤◌, ◌≡◌, ◌==◌, min, false, cond, List, [], ◌∷◌, ◌++◌, Some, map, length, get_or, slice_get, All, arith, inl, inr, refl, sym, ap, ◌∙◌, subst}
use Rattle.std.specs.List.{filter, flat_map, fold, range_with_len}
use Rattle.std.proofs.lemmas.Bool.{cases_Bool, cases_eq, cases_lt, eq-eqb, eqb-true, ne_eqb}
use Rattle.std.proofs.lemmas.Grind.{get_or-set_at}
use Rattle.std.proofs.lemmas.List.{get_or-set_other, get_or_past, map-append, append-nil}
use Rattle.std.proofs.lemmas.List.Concat.{flat_map-append}
use Rattle.std.proofs.lemmas.List.Elements.{All-nil, All-cons, All-head, All-tail, All-map, filter-append}
use Rattle.bale_items.specs.declared.Item.{Item}
use Rattle.list_laws.proofs.Lists.{all_get}
use Rattle.round_program.specs.Rules.{Rules}
use Rattle.round_program.specs.Canonical.{absorb_all, absorb_upto, emitted_by, emitted_of, items_of}
use Rattle.reductions.specs.declared.reduced.Reduction.{Reduction}
use Rattle.reductions.specs.declared.reduced.Reduction.TheVariants.{Least}
use Rattle.reductions.specs.Reductions.{ReducedState, combination, at_round_begin, after_item}
use Rattle.reductions.proofs.Cells.{reduced_len}
use Rattle.reductions.proofs.Lists.{numbers_more, all_mapped, unfiltered, filtered, all_flat, each_flat, fold_on, flat_at}
use Rattle.reductions.proofs.Rounds.{full, sent}

-- ---- Folds of the least

pub least_below : (c : ℕ) (xs : List ℕ) → fold (combination Least) c xs ≤ c
least_below c [] = omega arith
least_below c (x ∷ xs) = (let h : fold (combination Least) (min c x) xs ≤ min c x = least_below (min c x) xs in omega arith)

pub least_each : (c : ℕ) (xs : List ℕ) → All (λ x. fold (combination Least) c xs ≤ x) xs
least_each c [] = All-nil (λ x. c ≤ x)
least_each c (x ∷ xs) =
    All-cons (λ y. fold (combination Least) (min c x) xs ≤ y) x xs (let h : fold (combination Least) (min c x) xs ≤ min c x = least_below (min c x) xs in omega arith) (least_each (min c x) xs)

pub least_is : (P : ℕ → Type 0) (c : ℕ) (xs : List ℕ) → P c → All P xs → P (fold (combination Least) c xs)
least_is P c [] p h = p
least_is P c (x ∷ xs) p h =
    let one : P (min c x) = elim (cases_lt c x) [
      | inl less ↦ subst P (let e : c ≡ min c x = omega arith in e) p
      | inr more ↦ subst P (let e : x ≡ min c x = omega arith in e) (All-head P x xs h)
    ] in
    least_is P (min c x) xs one (All-tail P x xs h)

-- ---- The items for a cell

module _ (key value : Item → ℕ) where
  -- what items bring for the cell of a key, in order
  abbrev pub brought : ℕ → List Item → List ℕ
  brought v xs = map value (filter (λ x. key x == v) xs)

  brought_cons : (v : ℕ) (x : Item) (xs : List Item) → brought v (x ∷ xs) ≡ cond (key x == v) (value x ∷ brought v xs) (brought v xs)
  brought_cons v x xs = elim (cases_Bool (key x == v)) [
    | inl t ↦ ap (λ b. map value (cond b (x ∷ filter (λ x. key x == v) xs) (filter (λ x. key x == v) xs))) t ∙ ap (λ b. cond b (value x ∷ brought v xs) (brought v xs)) (sym t)
    | inr f ↦ ap (λ b. map value (cond b (x ∷ filter (λ x. key x == v) xs) (filter (λ x. key x == v) xs))) f ∙ ap (λ b. cond b (value x ∷ brought v xs) (brought v xs)) (sym f)
  ]

  brought_on : (v : ℕ) (xs ys : List Item) → brought v (xs ++ ys) ≡ brought v xs ++ brought v ys
  brought_on v xs ys = ap (map value) (filter-append (λ x. key x == v) xs ys) ∙ map-append value (filter (λ x. key x == v) xs) (filter (λ x. key x == v) ys)

  brought_flat : {X : Type 0} (v : ℕ) (f : X → List Item) (xs : List X) → brought v (flat_map f xs) ≡ flat_map (λ x. brought v (f x)) xs
  brought_flat v f [] = refl
  brought_flat v f (x ∷ xs) = brought_on v (f x) (flat_map f xs) ∙ ap (λ ys. brought v (f x) ++ ys) (brought_flat v f xs)

  -- what holds of each item for the cell
  pub all_brought : (P : ℕ → Type 0) (v : ℕ) (xs : List Item) → All (λ x. key x ≡ v → P (value x)) xs → All P (brought v xs)
  all_brought P v xs h =
      All-map P value (filter (λ x. key x == v) xs)
      (filtered (λ x. P (value x)) (λ x. key x == v) xs (λ k d low t. h k d low (eqb-true (key (get_or xs k d)) v t)))

  pub from_brought : (P : ℕ → Type 0) (v : ℕ) (xs : List Item) → All P (brought v xs) → All (λ x. key x ≡ v → P (value x)) xs
  from_brought P v xs h k d low same =
      unfiltered (λ x. P (value x)) (λ x. key x == v) xs (all_mapped P value (filter (λ x. key x == v) xs) h) k d low (eq-eqb (key (get_or xs k d)) v same)

  -- where all items for a cell go to one rank, they are what it is sent for the cell
  goes_there : (v r : ℕ) (es : List (ℕ × Item)) → All (λ e. key e.1 ≡ v → e.0 ≡ r) es → brought v (items_of r es) ≡ brought v (map (λ e. e.1) es)
  goes_there v r [] h = refl
  goes_there v r (e ∷ es) h =
      let rest : brought v (items_of r es) ≡ brought v (map (λ e. e.1) es) = goes_there v r es (All-tail (λ e. key e.1 ≡ v → e.0 ≡ r) e es h) in
      elim (cases_eq e.0 r) [
        | inl same ↦
            ap (λ b. brought v (map (λ x. x.1) (cond b (e ∷ filter (λ x. x.0 == r) es) (filter (λ x. x.0 == r) es)))) (eq-eqb e.0 r same)
            ∙ brought_cons v e.1 (items_of r es)
            ∙ ap (λ ys. cond (key e.1 == v) (value e.1 ∷ ys) ys) rest
            ∙ sym (brought_cons v e.1 (map (λ e. e.1) es))
        | inr apart ↦
            let other : (key e.1 == v) ≡ false = ne_eqb (key e.1) v (λ k. apart (All-head (λ e. key e.1 ≡ v → e.0 ≡ r) e es h k)) in
            ap (λ b. brought v (map (λ x. x.1) (cond b (e ∷ filter (λ x. x.0 == r) es) (filter (λ x. x.0 == r) es)))) (ne_eqb e.0 r apart)
            ∙ rest
            ∙ sym (brought_cons v e.1 (map (λ e. e.1) es) ∙ ap (λ b. cond b (value e.1 ∷ brought v (map (λ e. e.1) es)) (brought v (map (λ e. e.1) es))) other)
      ]

-- ---- A program with cells

-- What its calls do to them: each item is for the cell of its key, and a round begins with the
-- cells as they are.
pub record HasCells {S : Type 0} (R : Rules S) (how : Reduction) (key value : Item → ℕ) (cells : S → ReducedState) : Type 0 where
  pub absorbs : (s : S) (from : ℕ) (x : Item) → cells (R.absorbed s from x) ≡ after_item how (cells s) (key x) (value x)
  pub begins : (s : S) (votes : ℕ) → cells (R.ended s votes) ≡ at_round_begin (cells s).cells

-- the cell of a key
abbrev pub cell : ReducedState → ℕ → ℕ
cell s v = get_or s.cells v 0

module _ {S : Type 0} {R : Rules S} {how : Reduction} {key value : Item → ℕ} {cells : S → ReducedState} (has : HasCells R how key value cells) where
  cell_one : (s : S) (f : ℕ) (x : Item) (v : ℕ) → v < length (cells s).cells → cell (cells (R.absorbed s f x)) v ≡ cond (key x == v) (combination how (cell (cells s) v) (value x)) (cell (cells s) v)
  cell_one s f x v inside =
      let c : ReducedState = cells s in
      ap (λ c. cell c v) (has.absorbs s f x)
      ∙ elim (cases_eq (key x) v) [
        | inl same ↦
            subst (λ k. cell (after_item how c k (value x)) v ≡ cond (k == v) (combination how (cell c v) (value x)) (cell c v)) (sym same)
            (get_or-set_at c.cells v v (combination how (cell c v) (value x)) 0 refl inside ∙ ap (λ b. cond b (combination how (cell c v) (value x)) (cell c v)) (sym (eq-eqb v v refl)))
        | inr other ↦
            get_or-set_other c.cells (key x) v (combination how (cell c (key x)) (value x)) 0 (λ e. other (sym e))
            ∙ ap (λ b. cond b (combination how (cell c v) (value x)) (cell c v)) (sym (ne_eqb (key x) v other))
      ]

  len_one : (s : S) (f : ℕ) (x : Item) → length (cells (R.absorbed s f x)).cells ≡ length (cells s).cells
  len_one s f x = ap (λ c. length c.cells) (has.absorbs s f x) ∙ reduced_len how (cells s) (key x) (value x)

  len_all : (s : S) (f : ℕ) (xs : List Item) → length (cells (absorb_all R s f xs)).cells ≡ length (cells s).cells
  len_all s f [] = refl
  len_all s f (x ∷ xs) = len_all (R.absorbed s f x) f xs ∙ len_one s f x

  pub len_upto : (s : S) (lists : ℕ → List Item) (n : ℕ) → length (cells (absorb_upto R s lists n)).cells ≡ length (cells s).cells
  len_upto s lists zero = refl
  len_upto s lists (suc n) = len_all (absorb_upto R s lists n) n (lists n) ∙ len_upto s lists n

  before_all : (s : S) (f : ℕ) (xs : List Item) → (cells (absorb_all R s f xs)).before ≡ (cells s).before
  before_all s f [] = refl
  before_all s f (x ∷ xs) = before_all (R.absorbed s f x) f xs ∙ ap (λ c. c.before) (has.absorbs s f x)

  pub before_upto : (s : S) (lists : ℕ → List Item) (n : ℕ) → (cells (absorb_upto R s lists n)).before ≡ (cells s).before
  before_upto s lists zero = refl
  before_upto s lists (suc n) = before_all (absorb_upto R s lists n) n (lists n) ∙ before_upto s lists n

  cell_all : (s : S) (f : ℕ) (xs : List Item) (v : ℕ) → v < length (cells s).cells → cell (cells (absorb_all R s f xs)) v ≡ fold (combination how) (cell (cells s) v) (brought key value v xs)
  cell_all s f [] v inside = refl
  cell_all s f (x ∷ xs) v inside =
      let t : S = R.absorbed s f x in
      let rest : cell (cells (absorb_all R t f xs)) v ≡ fold (combination how) (cell (cells t) v) (brought key value v xs) =
      cell_all t f xs v (subst (λ n. v < n) (sym (len_one s f x)) inside) in
      rest
      ∙ ap (λ c. fold (combination how) c (brought key value v xs)) (cell_one s f x v inside)
      ∙ elim (cases_Bool (key x == v)) [
        | inl t ↦
            ap (λ b. fold (combination how) (cond b (combination how (cell (cells s) v) (value x)) (cell (cells s) v)) (brought key value v xs)) t
            ∙ sym (ap (fold (combination how) (cell (cells s) v)) (brought_cons key value v x xs ∙ ap (λ b. cond b (value x ∷ brought key value v xs) (brought key value v xs)) t))
        | inr f ↦
            ap (λ b. fold (combination how) (cond b (combination how (cell (cells s) v) (value x)) (cell (cells s) v)) (brought key value v xs)) f
            ∙ sym (ap (fold (combination how) (cell (cells s) v)) (brought_cons key value v x xs ∙ ap (λ b. cond b (value x ∷ brought key value v xs) (brought key value v xs)) f))
      ]

  -- after what so many ranks sent, a cell is the fold of what they sent for it
  pub cell_upto : (s : S) (lists : ℕ → List Item) (n v : ℕ) → v < length (cells s).cells
      → cell (cells (absorb_upto R s lists n)) v ≡ fold (combination how) (cell (cells s) v) (brought key value v (flat_map lists (range_with_len 0 n)))
  cell_upto s lists zero v inside = refl
  cell_upto s lists (suc n) v inside =
      let so_far : List Item = flat_map lists (range_with_len 0 n) in
      let one : flat_map lists (range_with_len 0 (suc n)) ≡ so_far ++ lists n =
      ap (λ m. flat_map lists (range_with_len 0 m)) (let e : suc n ≡ n + 1 = omega arith in e)
      ∙ ap (flat_map lists) (numbers_more n) ∙ flat_map-append lists (range_with_len 0 n) (n ∷ []) ∙ ap (λ xs. so_far ++ xs) (append-nil (lists n)) in
      cell_all (absorb_upto R s lists n) n (lists n) v (subst (λ k. v < k) (sym (len_upto s lists n)) inside)
      ∙ ap (λ c. fold (combination how) c (brought key value v (lists n))) (cell_upto s lists n v inside)
      ∙ sym (fold_on (combination how) (cell (cells s) v) (brought key value v so_far) (brought key value v (lists n)))
      ∙ ap (fold (combination how) (cell (cells s) v)) (sym (brought_on key value v so_far (lists n)) ∙ ap (brought key value v) (sym one))

  -- ---- After the absorbs of a round

  -- all that all ranks send, rank by rank
  abbrev pub all_sent : List S → List Item
  all_sent ss = flat_map (λ q. map (λ e. e.1) (R.emissions q)) ss

  -- all items for a cell go to one rank
  abbrev pub GoTo : List S → ℕ → ℕ → Type 0
  GoTo ss v r = (f : ℕ) (q : S) → slice_get ss f ≡ Some q → All (λ e. key e.1 ≡ v → e.0 ≡ r) (R.emissions q)

  -- There the cell is the fold of all that all ranks send for it.
  pub cell_after : (ss : List S) (s : S) (v : ℕ) → v < length (cells s).cells → GoTo ss v (R.rank s) → cell (cells (full R ss s)) v ≡ fold (combination how) (cell (cells s) v) (brought key value v (all_sent ss))
  cell_after ss s v inside there =
      cell_upto s (emitted_by R ss (R.rank s)) (length ss) v inside
      ∙ ap (fold (combination how) (cell (cells s) v))
      (brought_flat key value v (emitted_by R ss (R.rank s)) (range_with_len 0 (length ss))
      ∙ flat_at (λ f. brought key value v (emitted_by R ss (R.rank s) f)) (λ q. brought key value v (map (λ e. e.1) (R.emissions q))) 0 ss
      (λ f q at.
      ap (λ o. brought key value v (emitted_of R o (R.rank s))) (ap (slice_get ss) (let e : 0 + f ≡ f = omega arith in e) ∙ at)
      ∙ goes_there key value v (R.rank s) (R.emissions q) (there f q at))
      ∙ sym (brought_flat key value v (λ q. map (λ e. e.1) (R.emissions q)) ss))

-- ---- Where the least is kept

module _ {S : Type 0} {R : Rules S} {key value : Item → ℕ} {cells : S → ReducedState} (has : HasCells R Least key value cells) where
  -- a cell never rises, whoever is sent what
  pub least_fell : (ss : List S) (s : S) (v : ℕ) → cell (cells (full R ss s)) v ≤ cell (cells s) v
  least_fell ss s v = elim (cases_lt v (length (cells s).cells)) [
    | inl inside ↦
        subst (λ c. c ≤ cell (cells s) v) (sym (cell_upto has s (emitted_by R ss (R.rank s)) (length ss) v inside))
        (least_below (cell (cells s) v) (brought key value v (flat_map (emitted_by R ss (R.rank s)) (range_with_len 0 (length ss)))))
    | inr past ↦
        subst (λ c. c ≤ cell (cells s) v) (sym (get_or_past (cells (full R ss s)).cells v 0 (subst (λ n. n ≤ v) (sym (len_upto has s (emitted_by R ss (R.rank s)) (length ss))) past))) (omega arith)
  ]

  -- it is at most each number that was sent for it
  pub least_heard : (ss : List S) (s : S) (v : ℕ) → v < length (cells s).cells → GoTo has ss v (R.rank s)
      → (f : ℕ) (q : S) → slice_get ss f ≡ Some q → All (λ e. key e.1 ≡ v → cell (cells (full R ss s)) v ≤ value e.1) (R.emissions q)
  least_heard ss s v inside there f q at =
      let all : All (λ x. cell (cells (full R ss s)) v ≤ x) (brought key value v (all_sent has ss)) =
      subst (λ c. All (λ x. c ≤ x) (brought key value v (all_sent has ss))) (sym (cell_after has ss s v inside there)) (least_each (cell (cells s) v) (brought key value v (all_sent has ss))) in
      all_mapped (λ x. key x ≡ v → cell (cells (full R ss s)) v ≤ value x) (λ e. e.1) (R.emissions q)
      (all_get (λ q. All (λ x. key x ≡ v → cell (cells (full R ss s)) v ≤ value x) (map (λ e. e.1) (R.emissions q))) ss f q
      (each_flat (λ x. key x ≡ v → cell (cells (full R ss s)) v ≤ value x) (λ q. map (λ e. e.1) (R.emissions q)) ss
      (from_brought key value (λ x. cell (cells (full R ss s)) v ≤ x) v (all_sent has ss) all)) at)

  -- and it has what it had and what was sent for it had, whoever is sent what
  pub least_keeps : (P : ℕ → Type 0) (ss : List S) (s : S) (v : ℕ) → v < length (cells s).cells → P (cell (cells s) v)
      → ((f : ℕ) (q : S) → slice_get ss f ≡ Some q → All (λ e. key e.1 ≡ v → P (value e.1)) (R.emissions q)) → P (cell (cells (full R ss s)) v)
  least_keeps P ss s v inside old came =
      let lists : ℕ → List Item = emitted_by R ss (R.rank s) in
      let sent_all : All (λ x. key x ≡ v → P (value x)) (flat_map lists (range_with_len 0 (length ss))) =
      all_flat (λ x. key x ≡ v → P (value x)) lists (range_with_len 0 (length ss)) (λ k d low. sent R ss (λ x. key x ≡ v → P (value x)) came (R.rank s) (get_or (range_with_len 0 (length ss)) k d)) in
      subst P (sym (cell_upto has s lists (length ss) v inside))
      (least_is P (cell (cells s) v) (brought key value v (flat_map lists (range_with_len 0 (length ss)))) old
      (all_brought key value P v (flat_map lists (range_with_len 0 (length ss))) sent_all))
