-- Entries dealt out in turn: where a rank's entries stand, and how many there are.
use Rattle.std.proofs.Common.{ℕ, zero, suc, ◌+◌, ◌-◌, ◌*◌, ◌/◌, ◌%◌, ◌<◌, ◌≤◌, ◌≡◌, true, false, cond, eqb, List, [], ◌∷◌, Some, None, length, get_or, slice_get, arith, inl, inr, refl, sym, ap, ◌∙◌}
use Rattle.std.specs.List.{enumerate_from}
use Rattle.std.specs.Option.{option_map}
use Rattle.std.proofs.lemmas.Bool.{cases_lt, eq-eqb, ne_eqb}
use Rattle.std.proofs.lemmas.Nat.{mod-mul-add, div-mul-add, div-add-mod', mul-le, le-div}
use Rattle.std.proofs.Math.Nat.{add-div_right, mod-lt}
use Rattle.std.proofs.lemmas.Option.{slice_get_past, slice_get_read}
use Rattle.std.proofs.lemmas.List.FromFn.{get_or-map-range_with_len, length-map-range_with_len}
use Rattle.list_laws.proofs.Lists.{find}
use Rattle.sparse_rows.specs.Deals.{dealt}
use Rattle.sparse_rows.specs.Parts.{parts_of}
use Rattle.bale_items.specs.declared.triple.Triple.{Triple}

-- a number is rank r's own where it is r more than a multiple of n, and none of the n - 1 numbers
-- before such a one is
own_here : (n r q m : ℕ) → r < n → m ≡ q * n + r → eqb (m % n) r ≡ true
own_here n r q m l e = eq-eqb _ _ (ap (λ k. k % n) e ∙ mod-mul-add q n r l)

not_here : (n r q m o : ℕ) → r < n → suc o < n → m + suc o ≡ q * n + r → eqb (m % n) r ≡ false
not_here n r q m o l s e = ne_eqb _ _ (λ own.
    let d : m / n * n + r ≡ m = ap (λ k. m / n * n + k) (sym own) ∙ div-add-mod' m n in
    elim (cases_lt (m / n) q) [
      | inl below ↦
          let up : suc (m / n) * n ≤ q * n = mul-le (suc (m / n)) n q n below (omega arith) in
          let more : suc (m / n) * n ≡ m / n * n + n = grind arith in
          omega arith
      | inr above ↦
          let up : q * n ≤ m / n * n = mul-le q n (m / n) n above (omega arith) in
          omega arith
    ])

-- an element one place further on
later : {X : Type 0} (t : X) (ts : List X) (m i j : ℕ) → i ≡ suc j
    → option_map {U = ℕ × X} (λ u. (m + 1 + j, u)) (slice_get ts j) ≡ option_map {U = ℕ × X} (λ u. (m + i, u)) (slice_get (t ∷ ts) i)
later {X} t ts m i j e =
    let s : m + 1 + j ≡ m + suc j = omega arith in
    ap (λ k. option_map {U = ℕ × X} (λ u. (k, u)) (slice_get ts j)) s ∙ ap (λ k. option_map {U = ℕ × X} (λ u. (m + k, u)) (slice_get (t ∷ ts) k)) (sym e)

-- entry number x of rank r's part of what comes from number m on, where the rank's next number is o
-- places behind m
pub turn_get : (n r : ℕ) {X : Type 0} (ts : List X) (q m o x : ℕ) → r < n → o < n → m + o ≡ q * n + r
    → slice_get (dealt (λ (e : ℕ × X). e.0 % n) r (enumerate_from m ts)) x ≡ option_map {U = ℕ × X} (λ t. (m + (o + x * n), t)) (slice_get ts (o + x * n))
turn_get n r [] q m o x l k e = refl
turn_get n r {X} (t ∷ ts) q m zero zero l k e =
    let own : eqb (m % n) r ≡ true = own_here n r q m l (omega arith) in
    let rest : List (ℕ × X) = dealt (λ (e : ℕ × X). e.0 % n) r (enumerate_from (m + 1) ts) in
    let z : zero + zero * n ≡ zero = grind arith in
    let y : m ≡ m + zero = omega arith in
    ap (λ b. slice_get (cond b ((m, t) ∷ rest) rest) zero) own
    ∙ ap (λ k. Some (k, t)) y
    ∙ ap (λ k. option_map {U = ℕ × X} (λ u. (m + k, u)) (slice_get (t ∷ ts) k)) (sym z)
turn_get n r {X} (t ∷ ts) q m zero (suc x) l k e =
    let own : eqb (m % n) r ≡ true = own_here n r q m l (omega arith) in
    let rest : List (ℕ × X) = dealt (λ (e : ℕ × X). e.0 % n) r (enumerate_from (m + 1) ts) in
    let row : suc q * n ≡ q * n + n = grind arith in
    let next : m + 1 + (n - 1) ≡ suc q * n + r = omega arith in
    let place : zero + suc x * n ≡ suc (n - 1 + x * n) = let p : suc x * n ≡ n + x * n = grind arith in omega arith in
    ap (λ b. slice_get (cond b ((m, t) ∷ rest) rest) (suc x)) own
    ∙ turn_get n r ts (suc q) (m + 1) (n - 1) x l (omega arith) next
    ∙ later t ts m (zero + suc x * n) (n - 1 + x * n) place
turn_get n r {X} (t ∷ ts) q m (suc o) x l k e =
    let other : eqb (m % n) r ≡ false = not_here n r q m o l k e in
    let rest : List (ℕ × X) = dealt (λ (e : ℕ × X). e.0 % n) r (enumerate_from (m + 1) ts) in
    let next : m + 1 + o ≡ q * n + r = omega arith in
    let place : suc o + x * n ≡ suc (o + x * n) = omega arith in
    ap (λ b. slice_get (cond b ((m, t) ∷ rest) rest) x) other
    ∙ turn_get n r ts q (m + 1) o x l (omega arith) next
    ∙ later t ts m (suc o + x * n) (o + x * n) place

-- and how many there are; o + p is the last place before the rank's next number but one
pub turn_count : (n r : ℕ) {X : Type 0} (ts : List X) (q m o p : ℕ) → r < n → o + p + 1 ≡ n → m + o ≡ q * n + r
    → length (dealt (λ (e : ℕ × X). e.0 % n) r (enumerate_from m ts)) ≡ (length ts + p) / n
turn_count n r [] q m o p l k e =
    let z : zero * n + p ≡ zero + p = grind arith in
    sym (div-mul-add zero n p (omega arith)) ∙ ap (λ k. k / n) z
turn_count n r {X} (t ∷ ts) q m zero p l k e =
    let own : eqb (m % n) r ≡ true = own_here n r q m l (omega arith) in
    let rest : List (ℕ × X) = dealt (λ (e : ℕ × X). e.0 % n) r (enumerate_from (m + 1) ts) in
    let row : suc q * n ≡ q * n + n = grind arith in
    let next : m + 1 + (n - 1) ≡ suc q * n + r = omega arith in
    let h : length rest ≡ (length ts + zero) / n = turn_count n r ts (suc q) (m + 1) (n - 1) zero l (omega arith) next in
    let d : (length ts + zero + n) / n ≡ (length ts + zero) / n + 1 = add-div_right (length ts + zero) (omega arith) in
    let s : length ts + zero + n ≡ suc (length ts) + p = omega arith in
    let f : (length ts + zero + n) / n ≡ (suc (length ts) + p) / n = ap (λ k. k / n) s in
    let g : length (cond (eqb (m % n) r) ((m, t) ∷ rest) rest) ≡ suc (length rest) = ap (λ b. length (cond b ((m, t) ∷ rest) rest)) own in
    omega arith
turn_count n r {X} (t ∷ ts) q m (suc o) p l k e =
    let other : eqb (m % n) r ≡ false = not_here n r q m o l (omega arith) e in
    let rest : List (ℕ × X) = dealt (λ (e : ℕ × X). e.0 % n) r (enumerate_from (m + 1) ts) in
    let next : m + 1 + o ≡ q * n + r = omega arith in
    let s : length ts + suc p ≡ suc (length ts) + p = omega arith in
    ap (λ b. length (cond b ((m, t) ∷ rest) rest)) other
    ∙ turn_count n r ts q (m + 1) o (suc p) l (omega arith) next
    ∙ ap (λ k. k / n) s

-- a number has a place with its owner
pub turn_place : (n x : ℕ) {X : Type 0} (ts : List X) → 0 < n → x < length ts → x / n < length (dealt (λ (e : ℕ × X). e.0 % n) (x % n) (enumerate_from 0 ts))
turn_place n x {X} ts some low =
    let r : ℕ = x % n in
    let part : r < n = mod-lt x some in
    let whole : x / n * n + r ≡ x = div-add-mod' x n in
    let start : 0 + r ≡ 0 * n + r = grind arith in
    let count : length (dealt (λ (e : ℕ × X). e.0 % n) r (enumerate_from 0 ts)) ≡ (length ts + (n - 1 - r)) / n = turn_count n r ts 0 0 r (n - 1 - r) part (omega arith) start in
    let up : (x / n + 1) * n ≡ x / n * n + n = grind arith in
    let least : x / n + 1 ≤ (length ts + (n - 1 - r)) / n = le-div (x / n + 1) (length ts + (n - 1 - r)) n some (omega arith) in
    omega arith

-- what stands at a place of rank r's part is the element of that number
pub turn_read : (n r k : ℕ) {X : Type 0} (ts : List X) → r < n → k < length (dealt (λ (e : ℕ × X). e.0 % n) r (enumerate_from 0 ts))
    → (x : X) × (slice_get (dealt (λ (e : ℕ × X). e.0 % n) r (enumerate_from 0 ts)) k ≡ Some (k * n + r, x)) × (slice_get ts (k * n + r) ≡ Some x)
turn_read n r k {X} ts own low =
    let part : List (ℕ × X) = dealt (λ (e : ℕ × X). e.0 % n) r (enumerate_from 0 ts) in
    let start : 0 + r ≡ 0 * n + r = grind arith in
    let one : 0 + (r + k * n) ≡ k * n + r = omega arith in
    let two : r + k * n ≡ k * n + r = omega arith in
    let is : slice_get part k ≡ option_map {U = ℕ × X} (λ t. (k * n + r, t)) (slice_get ts (k * n + r)) =
    turn_get n r ts 0 0 r k own own start
    ∙ ap (λ m. option_map {U = ℕ × X} (λ t. (m, t)) (slice_get ts (r + k * n))) one
    ∙ ap (λ m. option_map {U = ℕ × X} (λ t. (k * n + r, t)) (slice_get ts m)) two in
    let there = find part k low in
    elim (cases_lt (k * n + r) (length ts)) [
      | inl inside ↦ (let x = find ts (k * n + r) inside in (x.0, is ∙ ap (option_map {U = ℕ × X} (λ t. (k * n + r, t))) x.1, x.1))
      | inr past ↦ (let none : slice_get part k ≡ None = is ∙ ap (option_map {U = ℕ × X} (λ t. (k * n + r, t))) (slice_get_past ts (k * n + r) past) in absurd (cc))
    ]

-- the part of rank r
pub part_is : (n : ℕ) (ts : List Triple) (r : ℕ) → r < n → get_or (parts_of n ts) r [] ≡ dealt (λ (e : ℕ × Triple). e.0 % n) r (enumerate_from 0 ts)
part_is n ts r l = get_or-map-range_with_len (λ r. dealt (λ (e : ℕ × Triple). e.0 % n) r (enumerate_from 0 ts)) 0 n r r [] l (omega arith)

pub part_get : (n : ℕ) (ts : List Triple) (r x : ℕ) → r < n → slice_get (get_or (parts_of n ts) r []) x ≡ option_map {U = ℕ × Triple} (λ t. (x * n + r, t)) (slice_get ts (x * n + r))
part_get n ts r x l =
    let start : 0 + r ≡ 0 * n + r = grind arith in
    let one : 0 + (r + x * n) ≡ x * n + r = omega arith in
    let two : r + x * n ≡ x * n + r = omega arith in
    ap (λ xs. slice_get xs x) (part_is n ts r l)
    ∙ turn_get n r ts 0 0 r x l l start
    ∙ ap (λ k. option_map {U = ℕ × Triple} (λ t. (k, t)) (slice_get ts (r + x * n))) one
    ∙ ap (λ k. option_map {U = ℕ × Triple} (λ t. (x * n + r, t)) (slice_get ts k)) two

pub part_count : (n : ℕ) (ts : List Triple) (r : ℕ) → r < n → length (get_or (parts_of n ts) r []) ≡ (length ts + (n - 1 - r)) / n
part_count n ts r l =
    let start : 0 + r ≡ 0 * n + r = grind arith in
    ap length (part_is n ts r l) ∙ turn_count n r ts 0 0 r (n - 1 - r) l (omega arith) start

pub parts_count : (n : ℕ) (ts : List Triple) → length (parts_of n ts) ≡ n
parts_count n ts = length-map-range_with_len (λ r. dealt (λ (e : ℕ × Triple). e.0 % n) r (enumerate_from 0 ts)) 0 n

-- what stands at a place of a part, from what stands at its number
pub part_some : (n : ℕ) (ts : List Triple) (r x : ℕ) (t : Triple) → r < n → slice_get ts (x * n + r) ≡ Some t
    → Some (x * n + r, t) ≡ slice_get (get_or (parts_of n ts) r []) x
part_some n ts r x t l e = sym (part_get n ts r x l ∙ ap (option_map {U = ℕ × Triple} (λ t. (x * n + r, t))) e)

-- an entry of a part stands in the matrix, at its number
pub part_entry : (n : ℕ) (ts : List Triple) (r x : ℕ) → r < n → x < length (get_or (parts_of n ts) r [])
    → (x * n + r < length ts) × ((t : Triple) → t ≡ get_or ts (x * n + r) t → slice_get (get_or (parts_of n ts) r []) x ≡ Some (x * n + r, t))
part_entry n ts r x l within =
    let there = find (get_or (parts_of n ts) r []) x within in
    elim (cases_lt (x * n + r) (length ts)) [
      | inl inside ↦ (inside, λ t e. sym (part_some n ts r x t l (slice_get_read ts (length ts) (x * n + r) t refl inside e)))
      | inr past ↦ (let none : slice_get (get_or (parts_of n ts) r []) x ≡ None = part_get n ts r x l ∙ ap (option_map {U = ℕ × Triple} (λ t. (x * n + r, t))) (slice_get_past ts (x * n + r) past) in absurd (cc))
    ]
