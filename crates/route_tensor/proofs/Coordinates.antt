-- Coordinates as digits: a rank is made of them, and they are read back.
use Rattle.std.proofs.Common.{ℕ, zero, suc, ◌≡◌, ◌+◌, ◌-◌, ◌*◌, ◌/◌, ◌%◌, ◌<◌, ◌≤◌, List, [], ◌∷◌, length, take, get_or, arith, refl, sym, ap, subst, ◌∙◌, add_comm, mul-add}
use Rattle.std.specs.List.{All}
use Rattle.std.proofs.lemmas.List.Elements.{All-head, All-tail, All-take}
use Rattle.std.proofs.lemmas.Nat.{div_below, mod_below, mul-add-lt, div-mul-add, mod-mul-add, div-add-mod', mul-lt}
use Rattle.std.proofs.Math.Nat.{mul_comm, div-one, mod-one, div-div-eq-div-mul, mod-le, mul-div_left, mod-eq_of_lt, mul_assoc, mul-le-mul_left, mul-lt-mul_of_pos_right, mul-zero}
use Rattle.std.proofs.Math.Arith.{mod-mul}
use Rattle.route_tensor.specs.Grid.{ranks, dim, coord, place}

-- every dimension is positive
abbrev pub Positive : List ℕ → Type 0
Positive dims = All (λ n. 0 < n) dims

pub first-positive : (n : ℕ) (ns : List ℕ) → Positive (n ∷ ns) → 0 < n
first-positive n ns p = All-head (λ m. 0 < m) n ns p

pub rest-positive : (n : ℕ) (ns : List ℕ) → Positive (n ∷ ns) → Positive ns
rest-positive n ns p = All-tail (λ m. 0 < m) n ns p

-- a rank and a digit before it, and back
pub low_digit : (n c x : ℕ) → c < n → (c + n * x) % n ≡ c
low_digit n c x h = ap (λ m. (c + m) % n) (mul_comm n x) ∙ ap (λ m. m % n) (add_comm c (x * n)) ∙ mod-mul-add x n c h

pub high_digits : (n c x : ℕ) → c < n → (c + n * x) / n ≡ x
high_digits n c x h = ap (λ m. (c + m) / n) (mul_comm n x) ∙ ap (λ m. m / n) (add_comm c (x * n)) ∙ div-mul-add x n c h

pub digits_below : (n c x p : ℕ) → c < n → x < p → c + n * x < n * p
digits_below n c x p h k = omega (arith, mul-add-lt x n c p k h, mul_comm n x, mul_comm n p)

pub quotient_below : (n r p : ℕ) → 0 < n → r < n * p → r / n < p
quotient_below n r p h k = div_below r n p h (omega (arith, k, mul_comm n p))

pub coord-zero : (dims : List ℕ) (r : ℕ) → coord dims r 0 ≡ 0
unfolding coord
coord-zero [] r = refl
coord-zero (n ∷ ns) r = refl

pub coord_past : (dims : List ℕ) (r i : ℕ) → length dims < i → coord dims r i ≡ 0
unfolding coord
coord_past [] r i h = refl
coord_past (n ∷ ns) r zero h = refl
coord_past (n ∷ ns) r (suc zero) h = absurd (omega arith)
coord_past (n ∷ ns) r (suc (suc i)) h = coord_past ns (r / n) (suc i) (omega arith)

pub coord_below : (dims : List ℕ) (r i : ℕ) → Positive dims → i < length dims → coord dims r (suc i) < get_or dims i 0
unfolding coord
coord_below [] r i p h = absurd (omega arith)
coord_below (n ∷ ns) r zero p h = mod_below r n (first-positive n ns p)
coord_below (n ∷ ns) r (suc i) p h = coord_below ns (r / n) i (rest-positive n ns p) (omega arith)

pub place_below : (dims : List ℕ) (s d h : ℕ) → Positive dims → s < ranks dims → d < ranks dims → place dims s d h < ranks dims
unfolding place ranks
place_below [] s d h p a b = a
place_below (n ∷ ns) s d zero p a b = a
place_below (n ∷ ns) s d (suc h) p a b =
    let q = first-positive n ns p in
    digits_below n (d % n) _ _ (mod_below d n q)
    (place_below ns (s / n) (d / n) h (rest-positive n ns p) (quotient_below n s _ q a) (quotient_below n d _ q b))

-- up to h a place has the destination's coordinates
pub coord-place_low : (dims : List ℕ) (s d h i : ℕ) → Positive dims → i ≤ h → coord dims (place dims s d h) i ≡ coord dims d i
unfolding place coord
coord-place_low [] s d h i p l = refl
coord-place_low (n ∷ ns) s d h zero p l = refl
coord-place_low (n ∷ ns) s d zero (suc i) p l = absurd (omega arith)
coord-place_low (n ∷ ns) s d (suc h) (suc zero) p l = low_digit n (d % n) _ (mod_below d n (first-positive n ns p))
coord-place_low (n ∷ ns) s d (suc h) (suc (suc i)) p l =
    ap (λ r. coord ns r (suc i)) (high_digits n (d % n) _ (mod_below d n (first-positive n ns p)))
    ∙ coord-place_low ns (s / n) (d / n) h (suc i) (rest-positive n ns p) (omega arith)

-- past h it has the sender's
pub coord-place_high : (dims : List ℕ) (s d h i : ℕ) → Positive dims → h < i → coord dims (place dims s d h) i ≡ coord dims s i
unfolding place coord
coord-place_high [] s d h i p l = refl
coord-place_high (n ∷ ns) s d zero i p l = refl
coord-place_high (n ∷ ns) s d (suc h) zero p l = refl
coord-place_high (n ∷ ns) s d (suc h) (suc zero) p l = absurd (omega arith)
coord-place_high (n ∷ ns) s d (suc h) (suc (suc i)) p l =
    ap (λ r. coord ns r (suc i)) (high_digits n (d % n) _ (mod_below d n (first-positive n ns p)))
    ∙ coord-place_high ns (s / n) (d / n) h (suc i) (rest-positive n ns p) (omega arith)

-- past the first coordinate, ranks that agree have quotients that agree
rest_agrees : (n : ℕ) (ns : List ℕ) (r q : ℕ) → ((i : ℕ) → coord (n ∷ ns) r i ≡ coord (n ∷ ns) q i) → (i : ℕ) → coord ns (r / n) i ≡ coord ns (q / n) i
unfolding coord
rest_agrees n ns r q e zero = coord-zero ns (r / n) ∙ sym (coord-zero ns (q / n))
rest_agrees n ns r q e (suc i) = e (suc (suc i))

-- ranks with the same coordinates are the same
pub same_rank : (dims : List ℕ) (r q : ℕ) → Positive dims → r < ranks dims → q < ranks dims → ((i : ℕ) → coord dims r i ≡ coord dims q i) → r ≡ q
unfolding coord ranks
same_rank [] r q p a b e = omega arith
same_rank (n ∷ ns) r q p a b e =
    let some = first-positive n ns p in
    let rest : r / n ≡ q / n = same_rank ns (r / n) (q / n) (rest-positive n ns p) (quotient_below n r _ some a) (quotient_below n q _ some b) (rest_agrees n ns r q e) in
    sym (div-add-mod' r n) ∙ ap (λ x. x * n + r % n) rest ∙ ap (λ x. q / n * n + x) (e 1) ∙ div-add-mod' q n

pub ranks_some : (dims : List ℕ) → Positive dims → 0 < ranks dims
unfolding ranks
ranks_some [] p = omega arith
ranks_some (n ∷ ns) p = mul-lt 0 0 n (ranks ns) (first-positive n ns p) (ranks_some ns (rest-positive n ns p))

-- by strides: the number of ranks that share the coordinates from h on
pub stride_some : (dims : List ℕ) (h : ℕ) → Positive dims → 0 < ranks (take h dims)
stride_some dims h p = ranks_some (take h dims) (All-take (λ n. 0 < n) h dims p)

-- the stride form of a coordinate
pub coord_by_stride : (dims : List ℕ) (r h : ℕ) → h < length dims → coord dims r (suc h) ≡ r / ranks (take h dims) % get_or dims h 0
unfolding coord ranks
coord_by_stride [] r h l = absurd (omega arith)
coord_by_stride (n ∷ ns) r zero l = ap (λ q. q % n) (sym (div-one r))
coord_by_stride (n ∷ ns) r (suc h) l = coord_by_stride ns (r / n) h (omega arith) ∙ ap (λ q. q % get_or ns h 0) (div-div-eq-div-mul r n (ranks (take h ns)))

pub coord_at : (dims : List ℕ) (r h : ℕ) → 1 ≤ h → h ≤ length dims → coord dims r h ≡ r / ranks (take (h - 1) dims) % dim dims h
coord_at dims r zero p l = absurd (omega (arith, p))
coord_at dims r (suc h) p l = let e : suc h - 1 ≡ h = omega arith in rw e (coord_by_stride dims r h (omega arith))

-- the last h digits before a digit
low_part : (n r w : ℕ) → 0 < n → 0 < w → r % (n * w) ≡ n * (r / n % w) + r % n
low_part n r w p q = ap (λ m. r % m) (mul_comm n w) ∙ mod-mul r q p ∙ ap (λ m. m + r % n) (mul_comm (r / n % w) n)

-- the stride form of a place
pub place_by_stride : (dims : List ℕ) (s d h : ℕ) → Positive dims → h ≤ length dims → place dims s d h + s % ranks (take h dims) ≡ s + d % ranks (take h dims)
unfolding place ranks
place_by_stride [] s d zero p l = ap (λ x. s + x) (mod-one s ∙ sym (mod-one d))
place_by_stride [] s d (suc h) p l = absurd (omega arith)
place_by_stride (n ∷ ns) s d zero p l = ap (λ x. s + x) (mod-one s ∙ sym (mod-one d))
place_by_stride (n ∷ ns) s d (suc h) p l =
    let q = first-positive n ns p in
    let more = rest-positive n ns p in
    let w = ranks (take h ns) in
    let x = place ns (s / n) (d / n) h in
    let e : x + s / n % w ≡ s / n + d / n % w = place_by_stride ns (s / n) (d / n) h more (omega arith) in
    let f : n * x + n * (s / n % w) ≡ n * (s / n) + n * (d / n % w) =
    sym (mul-add n x (s / n % w)) ∙ ap (λ y. n * y) e ∙ mul-add n (s / n) (d / n % w) in
    omega (arith, f, low_part n s w q (stride_some ns h more), low_part n d w q (stride_some ns h more), div-add-mod' s n, mul_comm n (s / n))

pub place_at : (dims : List ℕ) (s d h : ℕ) → Positive dims → h ≤ length dims → place dims s d h ≡ s - s % ranks (take h dims) + d % ranks (take h dims)
place_at dims s d h p l = omega (arith, place_by_stride dims s d h p l, mod-le s (ranks (take h dims)))

-- one dimension more
pub stride_more : (dims : List ℕ) (h : ℕ) → h < length dims → ranks (take (suc h) dims) ≡ ranks (take h dims) * get_or dims h 0
unfolding ranks
stride_more [] h l = absurd (omega (arith, l))
stride_more (n ∷ ns) zero l = omega arith
stride_more (n ∷ ns) (suc h) l = ap (λ m. n * m) (stride_more ns h (omega (arith, l))) ∙ sym (mul_assoc n (ranks (take h ns)) (get_or ns h 0))

pub stride_below : (dims : List ℕ) (h : ℕ) → Positive dims → ranks (take h dims) ≤ ranks dims
unfolding ranks
stride_below [] zero p = omega arith
stride_below [] (suc h) p = omega arith
stride_below (n ∷ ns) zero p = ranks_some (n ∷ ns) p
stride_below (n ∷ ns) (suc h) p = mul-le-mul_left n (stride_below ns h (rest-positive n ns p))

-- the rank with c for coordinate h, and 0 for the others
pub lone_below : (dims : List ℕ) (h c : ℕ) → Positive dims → 1 ≤ h → h ≤ length dims → c < dim dims h → c * ranks (take (h - 1) dims) < ranks dims
lone_below dims zero c p a b q = absurd (omega (arith, a))
lone_below dims (suc h) c p a b q =
    let e : suc h - 1 ≡ h = omega arith in
    let w = ranks (take h dims) in
    let q' : c < get_or dims h 0 = subst (λ i. c < get_or dims i 0) e q in
    let m : c * w < get_or dims h 0 * w = mul-lt-mul_of_pos_right q' (stride_some dims h p) in
    rw e (omega (arith, m, mul_comm (get_or dims h 0) w, stride_more dims h (omega arith), stride_below dims (suc h) p))

pub coord-lone : (dims : List ℕ) (h c : ℕ) → Positive dims → 1 ≤ h → h ≤ length dims → c < dim dims h → coord dims (c * ranks (take (h - 1) dims)) h ≡ c
coord-lone dims zero c p a b q = absurd (omega (arith, a))
coord-lone dims (suc h) c p a b q =
    let e : suc h - 1 ≡ h = omega arith in
    let q' : c < get_or dims h 0 = subst (λ i. c < get_or dims i 0) e q in
    let w = ranks (take h dims) in
    rw e (coord_by_stride dims (c * w) h (omega arith) ∙ ap (λ m. m % get_or dims h 0) (mul-div_left c (stride_some dims h p)) ∙ mod-eq_of_lt q')

-- a rank by its coordinates: each digit is worth the dimensions before it
mixed : (n r q : ℕ) → r / n ≡ q → r ≡ r % n + n * q
mixed n r q e = omega (arith, div-add-mod' r n, mul_comm n (r / n), ap (λ x. n * x) e)

one_digit : (dims : List ℕ) (r : ℕ) → Positive dims → length dims ≤ 1 → r < ranks dims → r ≡ coord dims r 1
unfolding coord ranks
one_digit [] r p few b = omega (arith, b)
one_digit (n ∷ []) r p few b = sym (mod-eq_of_lt (omega (arith, b)))
one_digit (n ∷ m ∷ ns) r p few b = absurd (omega (arith, few))

two_digits : (dims : List ℕ) (r : ℕ) → Positive dims → length dims ≤ 2 → r < ranks dims → r ≡ coord dims r 1 + dim dims 1 * coord dims r 2
unfolding coord ranks
two_digits [] r p few b = omega (arith, b)
two_digits (n ∷ ns) r p few b = mixed n r _ (one_digit ns (r / n) (rest-positive n ns p) (omega (arith, few)) (quotient_below n r (ranks ns) (first-positive n ns p) b))

pub by_coordinates : (dims : List ℕ) (r : ℕ) → Positive dims → length dims ≤ 3 → r < ranks dims → r ≡ coord dims r 1 + dim dims 1 * (coord dims r 2 + dim dims 2 * coord dims r 3)
unfolding coord ranks
by_coordinates [] r p few b = omega (arith, b, mul-zero (dim [] 2), mul-zero (dim [] 1))
by_coordinates (n ∷ ns) r p few b = mixed n r _ (two_digits ns (r / n) (rest-positive n ns p) (omega (arith, few)) (quotient_below n r (ranks ns) (first-positive n ns p) b))
