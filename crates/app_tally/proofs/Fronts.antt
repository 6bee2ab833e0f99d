-- The numbers of lines tell their order where they differ.
use Rattle.std.proofs.Common.{ℕ, zero, suc, ◌+◌, ◌-◌, ◌*◌, ◌^◌, ◌<◌, ◌≡◌, false, List, [], ◌∷◌, ◌++◌, map, take, replicate, get_or, length, All, arith, lit<, refl, sym, ap, ◌∙◌, subst}
use Rattle.std.proofs.Common.{Ordering, Less, Equal, Greater, is_lt}
use Rattle.std.specs.Int.{w128, byte_worth, sum_through, from_be_bytes}
use Rattle.std.specs.Ordering.{nat_cmp, ordering_then}
use Rattle.std.specs.List.Sorted.{IsSortedBy}
use Rattle.std.proofs.lemmas.Nat.{mul-add-lt}
use Rattle.std.proofs.lemmas.Cmp.{ranked}
use Rattle.std.proofs.lemmas.Option.{get_or_from_slice_get}
use Rattle.list_laws.proofs.Lists.{find, get_map, all_get, all_head, all_tail}
use Rattle.app_tally.specs.Counts.{by_bytes, Entry}
use Rattle.app_tally.specs.code.CountView.{IsLineEntry}
use Rattle.app_tally.specs.laws.CountOrder.{order_turned}
use Rattle.app_tally.specs.Numbers.{front_number}

-- ---- The order

pub front_below : (k : ℕ) (l : List ℕ) → All (λ b. b < 256) l → front_number k l < 256 ^ k
front_below zero l a = lit< tt
front_below (suc k) [] a = let p : front_number k [] < 256 ^ k = front_below k [] a in omega arith
front_below (suc k) (b ∷ bs) a =
    let low : b * 256 ^ k + front_number k bs < 256 ^ k * 256 =
    mul-add-lt b (256 ^ k) (front_number k bs) 256 (all_head (λ b. b < 256) b bs a) (front_below k bs (all_tail (λ b. b < 256) b bs a)) in
    omega arith

by_first : (o : Ordering) (k b c : ℕ) (bs cs : List ℕ) → o ≡ nat_cmp b c → front_number k bs < 256 ^ k → front_number k cs < 256 ^ k
    → (front_number k bs < front_number k cs → by_bytes bs cs ≡ Less)
    → b * 256 ^ k + front_number k bs < c * 256 ^ k + front_number k cs → ordering_then o (by_bytes bs cs) ≡ Less
by_first Less k b c bs cs e x y on low = refl
by_first Equal k b c bs cs e x y on low =
    let same : b ≡ c = ranked b c Equal e in
    let here : b * 256 ^ k ≡ c * 256 ^ k = ap (λ n. n * 256 ^ k) same in
    on (omega arith)
by_first Greater k b c bs cs e x y on low =
    let less : c < b = ranked b c Greater e in
    let far : c * 256 ^ k + front_number k cs < 256 ^ k * b = mul-add-lt c (256 ^ k) (front_number k cs) b less y in
    absurd (omega arith)

-- of two lines the one with the lesser number comes first
pub front_less : (k : ℕ) (l m : List ℕ) → All (λ b. b < 256) l → All (λ b. b < 256) m → front_number k l < front_number k m → by_bytes l m ≡ Less
front_less zero l m a b low = absurd (omega arith)
front_less (suc k) [] [] a b low = absurd (omega arith)
front_less (suc k) [] (c ∷ cs) a b low = refl
front_less (suc k) (b ∷ bs) [] a d low = absurd (omega arith)
front_less (suc k) (b ∷ bs) (c ∷ cs) a d low =
    let bs_bytes : All (λ b. b < 256) bs = all_tail (λ b. b < 256) b bs a in
    let cs_bytes : All (λ b. b < 256) cs = all_tail (λ b. b < 256) c cs d in
    by_first (nat_cmp b c) k b c bs cs refl (front_below k bs bs_bytes) (front_below k cs cs_bytes) (front_less k bs cs bs_bytes cs_bytes) low

by_front : (o : Ordering) (l m : List ℕ) → o ≡ nat_cmp (front_number 16 l) (front_number 16 m) → All (λ b. b < 256) l → All (λ b. b < 256) m → ordering_then o (by_bytes l m) ≡ by_bytes l m
by_front Less l m e a b = sym (front_less 16 l m a b (ranked (front_number 16 l) (front_number 16 m) Less e))
by_front Equal l m e a b = refl
by_front Greater l m e a b = sym (order_turned m l Less (front_less 16 m l b a (ranked (front_number 16 l) (front_number 16 m) Greater e)))

-- so lines behind their numbers are in the order of lines
pub front_order : (l m : List ℕ) → All (λ b. b < 256) l → All (λ b. b < 256) m → ordering_then (nat_cmp (front_number 16 l) (front_number 16 m)) (by_bytes l m) ≡ by_bytes l m
front_order l m a b = by_front (nat_cmp (front_number 16 l) (front_number 16 m)) l m refl a b

entry_of : {X : Type 0} (entry : X → Entry) (xs : List X) (i : ℕ) (d : X) → i < length xs → All IsLineEntry (map entry xs) → IsLineEntry (entry (get_or xs i d))
entry_of entry xs i d low all =
    let x = find xs i low in
    subst (λ y. IsLineEntry (entry y)) (sym (get_or_from_slice_get xs i x.0 d x.1)) (all_get IsLineEntry (map entry xs) i (entry x.0) all (get_map entry xs i x.0 x.1))

not_before : (o p : Ordering) → is_lt (ordering_then o p) ≡ false → is_lt o ≡ false
not_before Less p h = h
not_before Equal p h = refl
not_before Greater p h = refl

-- entries that are in the order of numbers, lines and times are in that of lines
pub sorted_by_front : {X : Type 0} (number : X → ℕ) (entry : X → Entry) (xs : List X) → All (λ x. number x ≡ front_number 16 (entry x).0) xs → All IsLineEntry (map entry xs)
    → IsSortedBy (λ x y. is_lt (ordering_then (ordering_then (nat_cmp (number x) (number y)) (by_bytes (entry x).0 (entry y).0)) (nat_cmp (entry x).1 (entry y).1))) xs
    → IsSortedBy (λ x y. is_lt (by_bytes (entry x).0 (entry y).0)) xs
sorted_by_front {X} number entry xs numbers counted sorted k d low high =
    let x : X = get_or xs k d in
    let y : X = get_or xs (k + 1) d in
    let nx : number x ≡ front_number 16 (entry x).0 = numbers k d (omega arith) in
    let ny : number y ≡ front_number 16 (entry y).0 = numbers (k + 1) d high in
    let lx : IsLineEntry (entry x) = entry_of entry xs k d (omega arith) counted in
    let ly : IsLineEntry (entry y) = entry_of entry xs (k + 1) d high counted in
    sym (ap is_lt (front_order (entry y).0 (entry x).0 ly.0.bytes lx.0.bytes))
    ∙ ap (λ n. is_lt (ordering_then (nat_cmp n (front_number 16 (entry x).0)) (by_bytes (entry y).0 (entry x).0))) (sym ny)
    ∙ ap (λ n. is_lt (ordering_then (nat_cmp (number y) n) (by_bytes (entry y).0 (entry x).0))) (sym nx)
    ∙ not_before (ordering_then (nat_cmp (number y) (number x)) (by_bytes (entry y).0 (entry x).0)) (nat_cmp (entry y).1 (entry x).1) (sorted k d low high)

-- ---- The number of sixteen bytes

worth_is : (k b : ℕ) → byte_worth k b ≡ b * 256 ^ k
worth_is zero b = omega arith
worth_is (suc k) b = refl

same_sums : (f g : ℕ → ℕ) (k : ℕ) → ((i : ℕ) → f i ≡ g i) → sum_through f k ≡ sum_through g k
same_sums f g zero h = h 0
same_sums f g (suc k) h = let a : sum_through f k ≡ sum_through g k = same_sums f g k h in let b : f (suc k) ≡ g (suc k) = h (suc k) in omega arith

first_apart : (f : ℕ → ℕ) (k : ℕ) → sum_through f (suc k) ≡ f 0 + sum_through (λ i. f (suc i)) k
first_apart f zero = refl
first_apart f (suc k) = let a : sum_through f (suc k) ≡ f 0 + sum_through (λ i. f (suc i)) k = first_apart f k in omega arith

no_bytes : (f : ℕ → ℕ) (k : ℕ) → ((i : ℕ) → f i ≡ 0) → sum_through f k ≡ 0
no_bytes f zero h = h 0
no_bytes f (suc k) h = let a : sum_through f k ≡ 0 = no_bytes f k h in let b : f (suc k) ≡ 0 = h (suc k) in omega arith

nothing : (k : ℕ) → byte_worth k 0 ≡ 0
nothing zero = refl
nothing (suc k) = omega arith

front_sum : (k : ℕ) (xs : List ℕ) → sum_through (λ i. byte_worth (k - i) (get_or xs i 0)) k ≡ front_number (suc k) xs
front_sum k [] = no_bytes (λ i. byte_worth (k - i) 0) k (λ i. nothing (k - i))
front_sum zero (b ∷ bs) = omega arith
front_sum (suc k) (b ∷ bs) =
    let rest : sum_through (λ i. byte_worth (suc k - suc i) (get_or bs i 0)) k ≡ front_number (suc k) bs =
    same_sums (λ i. byte_worth (suc k - suc i) (get_or bs i 0)) (λ i. byte_worth (k - i) (get_or bs i 0)) k
    (λ i. ap (λ n. byte_worth n (get_or bs i 0)) (let e : suc k - suc i ≡ k - i = omega arith in e)) ∙ front_sum k bs in
    let here : byte_worth (suc k - 0) b ≡ b * 256 ^ suc k = ap (λ n. byte_worth n b) (let e : suc k - 0 ≡ suc k = omega arith in e) ∙ worth_is (suc k) b in
    first_apart (λ i. byte_worth (suc k - i) (get_or (b ∷ bs) i 0)) k
    ∙ ap (λ n. n + sum_through (λ i. byte_worth (suc k - suc i) (get_or bs i 0)) k) here ∙ ap (λ n. b * 256 ^ suc k + n) rest

pub front_bytes : (xs : List ℕ) → from_be_bytes w128 xs ≡ front_number 16 xs
front_bytes xs = front_sum 15 xs

pub front_taken : (k : ℕ) (xs : List ℕ) → front_number k (take k xs) ≡ front_number k xs
front_taken zero xs = refl
front_taken (suc k) [] = refl
front_taken (suc k) (b ∷ bs) = ap (λ n. b * 256 ^ k + n) (front_taken k bs)

front_zeros : (k n : ℕ) → front_number k (replicate n 0) ≡ 0
front_zeros zero n = refl
front_zeros (suc k) zero = refl
front_zeros (suc k) (suc n) = let e : front_number k (replicate n 0) ≡ 0 = front_zeros k n in omega arith

pub front_padded : (k n : ℕ) (xs : List ℕ) → front_number k (xs ++ replicate n 0) ≡ front_number k xs
front_padded zero n xs = refl
front_padded (suc k) n [] = front_zeros (suc k) n
front_padded (suc k) n (b ∷ bs) = ap (λ m. b * 256 ^ k + m) (front_padded k n bs)
