-- What three numbers tell that stand for a grid's dimensions.
use Rattle.std.proofs.Common.{ℕ, zero, suc, ◌≡◌, ◌+◌, ◌*◌, ◌<◌, ◌≤◌, List, [], ◌∷◌, length, take, get_or, arith, refl, sym, ap, ◌∙◌, subst, ◌⊎◌, Some, None, inl, inr, Bool, true, false, eqb, ltb, ◌||◌}
use Rattle.std.specs.List.{All, list_any}
use Rattle.std.proofs.lemmas.Bool.{cond-true, cond-false, or_from, ne_eqb, or_left, or_right, eq-eqb, le-ltb, lt-ltb}
use Rattle.std.proofs.Math.Bool.{or-false}
use Rattle.std.proofs.Math.Nat.{mul-one, mul-zero, zero-mul, suc-mul, le-mul_of_pos_right, mul_assoc, mul_comm}
use Rattle.std.proofs.lemmas.List.Elements.{All-cons, All-nil, All-take}
use Rattle.std.proofs.lemmas.List.{take-take, length-take}
use Rattle.route_tensor.specs.Grid.{ranks, IsGrid}
use Rattle.bale_items.specs.declared.item.Tag.{Tag}
use Rattle.route_tensor.specs.declared.grid.GridError.TheVariants.{Order, ZeroDim, TooManyRanks}
use Rattle.route_tensor.specs.GridNumbers.{IsKeptGrid, dims_kept}
use Rattle.route_tensor.specs.Refusal.{refusal}
use Rattle.route_tensor.specs.Tag.{digit, rank_of, tag_rank, IsFair}
use Rattle.route_tensor.proofs.Tags.{tag_rank_below}
use Rattle.route_tensor.proofs.Links.{sum_le_product}

-- what is known of the three numbers of a grid
pub record Bounds (n1 n2 n3 : ℕ) : Type 0 where
  pub some1 : 0 < n1
  pub some2 : 0 < n2
  pub some3 : 0 < n3
  pub most1 : n1 ≤ 64
  pub most2 : n2 ≤ 64
  pub most3 : n3 ≤ 64
  pub some12 : 0 < n1 * n2
  pub most12 : n1 * n2 ≤ 64
  pub some123 : 0 < n1 * n2 * n3
  pub most123 : n1 * n2 * n3 ≤ 64
  pub sum123 : n1 + n2 + n3 ≤ 66

pub bounds_of : (n1 n2 n3 : ℕ) → 0 < n1 → 0 < n2 → 0 < n3 → n1 * n2 * n3 ≤ 64 → Bounds n1 n2 n3
bounds_of n1 n2 n3 p1 p2 p3 most =
    let a : n1 ≤ n1 * n2 = le-mul_of_pos_right n1 p2 in
    let b : n1 * n2 ≤ n1 * n2 * n3 = le-mul_of_pos_right (n1 * n2) p3 in
    let c : n1 + n2 ≤ n1 * n2 + 1 = sum_le_product n1 n2 p1 p2 in
    let some : 0 < n1 * n2 = omega (arith, a) in
    let d : n1 * n2 + n3 ≤ n1 * n2 * n3 + 1 = sum_le_product (n1 * n2) n3 some p3 in
    record {
      some1 = p1;
      some2 = p2;
      some3 = p3;
      most1 = omega arith;
      most2 = omega arith;
      most3 = omega arith;
      some12 = some;
      most12 = omega arith;
      some123 = omega arith;
      most123 = most;
      sum123 = omega arith;
    }

-- three numbers, of which those past the last dimension are 1
pub record IsPadded (hops n1 n2 n3 : ℕ) : Type 0 where
  pub some : 1 ≤ hops
  pub few : hops ≤ 3
  pub second : hops < 2 → n2 ≡ 1
  pub third : hops < 3 → n3 ≡ 1

ranks_padded : (hops n1 n2 n3 : ℕ) → IsPadded hops n1 n2 n3 → ranks (dims_kept hops n1 n2 n3) ≡ n1 * n2 * n3
unfolding ranks
ranks_padded zero n1 n2 n3 k = absurd (omega (arith, k.some))
ranks_padded (suc zero) n1 n2 n3 k = rw (k.second (omega arith), k.third (omega arith)) (sym (mul-one (n1 * 1)))
ranks_padded (suc (suc zero)) n1 n2 n3 k = rw (k.third (omega arith)) (sym (mul_assoc n1 n2 1))
ranks_padded (suc (suc (suc zero))) n1 n2 n3 k = ap (λ m. n1 * (n2 * m)) (mul-one n3) ∙ sym (mul_assoc n1 n2 n3)
ranks_padded (suc (suc (suc (suc h)))) n1 n2 n3 k = absurd (omega (arith, k.few))

pub ranks_kept : (hops n1 n2 n3 : ℕ) → IsKeptGrid hops n1 n2 n3 → ranks (dims_kept hops n1 n2 n3) ≡ n1 * n2 * n3
ranks_kept hops n1 n2 n3 k =
    let some : 1 ≤ hops = omega (arith, k.grid.some, length-take hops (n1 ∷ n2 ∷ n3 ∷ [])) in
    ranks_padded hops n1 n2 n3 (record { some = some; few = k.few; second = k.second; third = k.third })

positive_kept : (hops n1 n2 n3 : ℕ) → IsKeptGrid hops n1 n2 n3 → (0 < n1) × (0 < n2) × (0 < n3)
positive_kept zero n1 n2 n3 k = absurd (omega (arith, k.grid.some))
positive_kept (suc zero) n1 n2 n3 k = (k.grid.positive 0 0 (omega arith), omega (arith, k.second (omega arith)), omega (arith, k.third (omega arith)))
positive_kept (suc (suc zero)) n1 n2 n3 k = (k.grid.positive 0 0 (omega arith), k.grid.positive 1 0 (omega arith), omega (arith, k.third (omega arith)))
positive_kept (suc (suc (suc zero))) n1 n2 n3 k = (k.grid.positive 0 0 (omega arith), k.grid.positive 1 0 (omega arith), k.grid.positive 2 0 (omega arith))
positive_kept (suc (suc (suc (suc h)))) n1 n2 n3 k = absurd (omega (arith, k.few))

pub bounds_kept : (hops n1 n2 n3 : ℕ) → IsKeptGrid hops n1 n2 n3 → Bounds n1 n2 n3
bounds_kept hops n1 n2 n3 k =
    let p = positive_kept hops n1 n2 n3 k in
    bounds_of n1 n2 n3 p.0 p.1 p.2 (subst (λ m. m ≤ 64) (ranks_kept hops n1 n2 n3 k) k.grid.small)

-- the product of the first h of the dimensions, by h
pub record Strides (n1 n2 n3 h : ℕ) (dims : List ℕ) : Type 0 where
  pub none : h ≡ 0 → 1 ≡ ranks (take h dims)
  pub one : h ≡ 1 → n1 ≡ ranks (take h dims)
  pub two : h ≡ 2 → n1 * n2 ≡ ranks (take h dims)
  pub three : h ≡ 3 → n1 * n2 * n3 ≡ ranks (take h dims)

strides_all : (n1 n2 n3 h : ℕ) → Strides n1 n2 n3 h (n1 ∷ n2 ∷ n3 ∷ [])
unfolding ranks
strides_all n1 n2 n3 h = record {
  none = λ e. rw e refl;
  one = λ e. rw e (sym (mul-one n1));
  two = λ e. rw e (ap (λ m. n1 * m) (sym (mul-one n2)));
  three = λ e. rw e (mul_assoc n1 n2 n3 ∙ ap (λ m. n1 * (n2 * m)) (sym (mul-one n3)));
}

pub strides_kept : (hops n1 n2 n3 h : ℕ) (dims : List ℕ) → dims_kept hops n1 n2 n3 ≡ dims → h ≤ length dims → Strides n1 n2 n3 h dims
strides_kept hops n1 n2 n3 h dims e l =
    let all = n1 ∷ n2 ∷ n3 ∷ [] in
    let f : h ≤ hops = omega (arith, ap length e, length-take hops all) in
    let g : take h dims ≡ take h all = ap (take h) (sym e) ∙ take-take h hops all f in
    let s = strides_all n1 n2 n3 h in
    record {
      none = λ q. s.none q ∙ ap ranks (sym g);
      one = λ q. s.one q ∙ ap ranks (sym g);
      two = λ q. s.two q ∙ ap ranks (sym g);
      three = λ q. s.three q ∙ ap ranks (sym g);
    }

-- a tag's digits as the coordinates of a rank
pub rank_of_kept : (hops n1 n2 n3 : ℕ) (tag : Tag) → IsKeptGrid hops n1 n2 n3 → ((i : ℕ) → hops < i → digit tag i ≡ 0) →
    tag_rank (dims_kept hops n1 n2 n3) tag ≡ tag.d1 + n1 * (tag.d2 + n2 * tag.d3)
unfolding rank_of digit
rank_of_kept zero n1 n2 n3 tag k past = absurd (omega (arith, k.grid.some))
rank_of_kept (suc zero) n1 n2 n3 tag k past = let p2 : tag.d2 ≡ 0 = past 2 (omega arith) in let p3 : tag.d3 ≡ 0 = past 3 (omega arith) in rw (p2, p3) (ap (λ m. tag.d1 + n1 * (0 + m)) (sym (mul-zero n2)))
rank_of_kept (suc (suc zero)) n1 n2 n3 tag k past = let p3 : tag.d3 ≡ 0 = past 3 (omega arith) in rw p3 refl
rank_of_kept (suc (suc (suc zero))) n1 n2 n3 tag k past = let e : tag.d3 + n3 * 0 ≡ tag.d3 = omega arith in ap (λ m. tag.d1 + n1 * (tag.d2 + n2 * m)) e
rank_of_kept (suc (suc (suc (suc h)))) n1 n2 n3 tag k past = absurd (omega (arith, k.few))

pub zero_among : ℕ → ℕ → ℕ → Bool
zero_among n1 n2 n3 = eqb n1 0 || (eqb n2 0 || eqb n3 0)

any_kept : (hops n1 n2 n3 : ℕ) → IsPadded hops n1 n2 n3 → list_any (λ n. eqb n 0) (dims_kept hops n1 n2 n3) ≡ zero_among n1 n2 n3
unfolding zero_among
any_kept zero n1 n2 n3 k = absurd (omega (arith, k.some))
any_kept (suc zero) n1 n2 n3 k = rw (k.second (omega arith), k.third (omega arith)) refl
any_kept (suc (suc zero)) n1 n2 n3 k = rw (k.third (omega arith)) refl
any_kept (suc (suc (suc zero))) n1 n2 n3 k = ap (λ b. eqb n1 0 || (eqb n2 0 || b)) (or-false (eqb n3 0))
any_kept (suc (suc (suc (suc h)))) n1 n2 n3 k = absurd (omega (arith, k.few))

length_padded : (hops n1 n2 n3 : ℕ) → IsPadded hops n1 n2 n3 → length (dims_kept hops n1 n2 n3) ≡ hops
length_padded hops n1 n2 n3 k = omega (arith, length-take hops (n1 ∷ n2 ∷ n3 ∷ []), k.few)

order_padded : (hops n1 n2 n3 : ℕ) → IsPadded hops n1 n2 n3 → (eqb (length (dims_kept hops n1 n2 n3)) 0 || ltb 3 (length (dims_kept hops n1 n2 n3))) ≡ false
order_padded hops n1 n2 n3 k =
    let e = length_padded hops n1 n2 n3 k in
    let some : length (dims_kept hops n1 n2 n3) ≡ 0 → ⊥ = λ z. absurd (omega (arith, e, k.some, z)) in
    let few : length (dims_kept hops n1 n2 n3) ≤ 3 = omega (arith, e, k.few) in
    or_from _ _ (ne_eqb _ 0 some) (le-ltb 3 _ few)

-- a product is 0 where a factor is
zero_factor : (a b : ℕ) → a * b ≡ 0 → (a ≡ 0) ⊎ (b ≡ 0)
zero_factor zero b e = inl refl
zero_factor (suc a) zero e = inr refl
zero_factor (suc a) (suc b) e = absurd (omega (arith, e, suc-mul a (suc b)))

some_factors : (a b : ℕ) → 0 < a * b → (0 < a) × (0 < b)
some_factors zero b p = absurd (omega (arith, p, zero-mul b))
some_factors (suc a) zero p = absurd (omega (arith, p, mul-zero (suc a)))
some_factors (suc a) (suc b) p = (omega arith, omega arith)

among_first : (n1 n2 n3 : ℕ) → n1 ≡ 0 → zero_among n1 n2 n3 ≡ true
unfolding zero_among
among_first n1 n2 n3 e = or_left _ _ (eq-eqb n1 0 e)

among_second : (n1 n2 n3 : ℕ) → n2 ≡ 0 → zero_among n1 n2 n3 ≡ true
unfolding zero_among
among_second n1 n2 n3 e = or_right (eqb n1 0) _ (or_left _ _ (eq-eqb n2 0 e))

among_third : (n1 n2 n3 : ℕ) → n3 ≡ 0 → zero_among n1 n2 n3 ≡ true
unfolding zero_among
among_third n1 n2 n3 e = or_right (eqb n1 0) _ (or_right (eqb n2 0) _ (eq-eqb n3 0 e))

among_zero : (n1 n2 n3 : ℕ) → n1 * n2 * n3 ≡ 0 → zero_among n1 n2 n3 ≡ true
among_zero n1 n2 n3 e =
    elim (zero_factor (n1 * n2) n3 e) as (λ _. zero_among n1 n2 n3 ≡ true) [
      | inl q ↦ elim (zero_factor n1 n2 q) as (λ _. zero_among n1 n2 n3 ≡ true) [
        | inl w ↦ among_first n1 n2 n3 w
        | inr w ↦ among_second n1 n2 n3 w
      ]
      | inr q ↦ among_third n1 n2 n3 q
    ]

-- three numbers with a product that isn't 0
pub record Some3 (n1 n2 n3 : ℕ) : Type 0 where
  pub first : 0 < n1
  pub second : 0 < n2
  pub third : 0 < n3

some_three : (n1 n2 n3 : ℕ) → 0 < n1 * n2 * n3 → Some3 n1 n2 n3
some_three n1 n2 n3 p =
    let a = some_factors (n1 * n2) n3 p in
    let b = some_factors n1 n2 a.0 in
    record { first = b.0; second = b.1; third = a.1 }

among_none : (n1 n2 n3 : ℕ) → Some3 n1 n2 n3 → zero_among n1 n2 n3 ≡ false
unfolding zero_among
among_none n1 n2 n3 p =
    let a : n1 ≡ 0 → ⊥ = λ e. absurd (omega (arith, e, p.first)) in
    let b : n2 ≡ 0 → ⊥ = λ e. absurd (omega (arith, e, p.second)) in
    let c : n3 ≡ 0 → ⊥ = λ e. absurd (omega (arith, e, p.third)) in
    or_from _ _ (ne_eqb n1 0 a) (or_from _ _ (ne_eqb n2 0 b) (ne_eqb n3 0 c))

pub refusal_zero : (hops n1 n2 n3 : ℕ) → IsPadded hops n1 n2 n3 → n1 * n2 * n3 ≡ 0 → refusal (dims_kept hops n1 n2 n3) ≡ Some ZeroDim
unfolding refusal
refusal_zero hops n1 n2 n3 k z = cond-false _ _ _ (order_padded hops n1 n2 n3 k) ∙ cond-true _ _ _ (any_kept hops n1 n2 n3 k ∙ among_zero n1 n2 n3 z)

pub refusal_many : (hops n1 n2 n3 : ℕ) → IsPadded hops n1 n2 n3 → 64 < n1 * n2 * n3 → refusal (dims_kept hops n1 n2 n3) ≡ Some TooManyRanks
unfolding refusal
refusal_many hops n1 n2 n3 k e =
    cond-false _ _ _ (order_padded hops n1 n2 n3 k) ∙ cond-false _ _ _ (any_kept hops n1 n2 n3 k ∙ among_none n1 n2 n3 (some_three n1 n2 n3 (omega arith)))
    ∙ cond-true _ _ _ (lt-ltb 64 _ (subst (λ m. 64 < m) (sym (ranks_padded hops n1 n2 n3 k)) e))

pub refusal_none : (hops n1 n2 n3 : ℕ) → IsPadded hops n1 n2 n3 → 0 < n1 * n2 * n3 → n1 * n2 * n3 ≤ 64 → refusal (dims_kept hops n1 n2 n3) ≡ None
unfolding refusal
refusal_none hops n1 n2 n3 k z e =
    cond-false _ _ _ (order_padded hops n1 n2 n3 k) ∙ cond-false _ _ _ (any_kept hops n1 n2 n3 k ∙ among_none n1 n2 n3 (some_three n1 n2 n3 z))
    ∙ cond-false _ _ _ (le-ltb 64 _ (subst (λ m. m ≤ 64) (sym (ranks_padded hops n1 n2 n3 k)) e))

-- lists that have no order
pub refusal_order : (dims : List ℕ) → (length dims ≡ 0) ⊎ (3 < length dims) → refusal dims ≡ Some Order
unfolding refusal
refusal_order dims e = cond-true _ _ _ (elim e as (λ _. (eqb (length dims) 0 || ltb 3 (length dims)) ≡ true) [
  | inl q ↦ or_left _ _ (eq-eqb (length dims) 0 q)
  | inr q ↦ or_right (eqb (length dims) 0) _ (lt-ltb 3 (length dims) q)
])

positive_three : (n1 n2 n3 : ℕ) → 0 < n1 → 0 < n2 → 0 < n3 → All (λ n. 0 < n) (n1 ∷ n2 ∷ n3 ∷ [])
positive_three n1 n2 n3 a b c = All-cons (λ n. 0 < n) n1 (n2 ∷ n3 ∷ []) a (All-cons (λ n. 0 < n) n2 (n3 ∷ []) b (All-cons (λ n. 0 < n) n3 [] c (All-nil (λ n. 0 < n))))

pub kept_made : (hops n1 n2 n3 : ℕ) → IsPadded hops n1 n2 n3 → 0 < n1 * n2 * n3 → n1 * n2 * n3 ≤ 64 → IsKeptGrid hops n1 n2 n3
kept_made hops n1 n2 n3 k z e =
    let some = some_three n1 n2 n3 z in
    let dims = dims_kept hops n1 n2 n3 in
    let l = length_padded hops n1 n2 n3 k in
    let g : IsGrid dims = record {
      some = omega (arith, l, k.some);
      few = omega (arith, l, k.few);
      positive = All-take (λ n. 0 < n) hops _ (positive_three n1 n2 n3 some.first some.second some.third);
      small = omega (arith, e, ranks_padded hops n1 n2 n3 k);
    } in
    record { grid = g; few = k.few; second = k.second; third = k.third }

-- the tag of a link read as a rank, by its parts
pub record TagParts (n1 n2 : ℕ) (dims : List ℕ) (tag : Tag) : Type 0 where
  pub product : n2 * tag.d3 < 64
  pub inner : tag.d2 + n2 * tag.d3 < 64
  pub outer : n1 * (tag.d2 + n2 * tag.d3) < 64
  pub whole : tag.d1 + n1 * (tag.d2 + n2 * tag.d3) < 64
  pub value : tag.d1 + n1 * (tag.d2 + n2 * tag.d3) ≡ tag_rank dims tag
  pub rank : tag.d1 + n1 * (tag.d2 + n2 * tag.d3) < ranks dims

parts_of : (hops n1 n2 n3 h : ℕ) (tag : Tag) → IsKeptGrid hops n1 n2 n3 → IsFair (dims_kept hops n1 n2 n3) h tag → TagParts n1 n2 (dims_kept hops n1 n2 n3) tag
parts_of hops n1 n2 n3 h tag k f =
    let dims = dims_kept hops n1 n2 n3 in
    let x = tag.d2 + n2 * tag.d3 in
    let b = bounds_kept hops n1 n2 n3 k in
    let l : length dims ≤ hops = omega (arith, length-take hops (n1 ∷ n2 ∷ n3 ∷ [])) in
    let v : tag_rank dims tag ≡ tag.d1 + n1 * x = rank_of_kept hops n1 n2 n3 tag k (λ i p. f.past i (omega (arith, l, p))) in
    let r : tag_rank dims tag < ranks dims = tag_rank_below dims h tag k.grid f in
    let w : x ≤ n1 * x = omega (arith, le-mul_of_pos_right x b.some1, mul_comm x n1) in
    let all : tag.d1 + n1 * x < 64 = omega (arith, v, r, k.grid.small) in
    record { product = omega arith; inner = omega arith; outer = omega arith; whole = all; value = sym v; rank = omega arith }

pub tag_parts : (hops n1 n2 n3 h : ℕ) (dims : List ℕ) (tag : Tag) → IsKeptGrid hops n1 n2 n3 → dims_kept hops n1 n2 n3 ≡ dims → IsFair dims h tag → TagParts n1 n2 dims tag
tag_parts hops n1 n2 n3 h dims tag k e f = subst (λ ds. TagParts n1 n2 ds tag) e (parts_of hops n1 n2 n3 h tag k (subst (λ ds. IsFair ds h tag) (sym e) f))

-- a list of one to three numbers is that of its numbers, with 1 for those that are not there
pub dims_kept-all : (dims : List ℕ) → 1 ≤ length dims → length dims ≤ 3 → dims_kept (length dims) (get_or dims 0 1) (get_or dims 1 1) (get_or dims 2 1) ≡ dims
dims_kept-all [] p q = absurd (omega (arith, p))
dims_kept-all (n1 ∷ []) p q = refl
dims_kept-all (n1 ∷ n2 ∷ []) p q = refl
dims_kept-all (n1 ∷ n2 ∷ n3 ∷ []) p q = refl
dims_kept-all (n1 ∷ n2 ∷ n3 ∷ n4 ∷ ns) p q = absurd (omega (arith, q))
