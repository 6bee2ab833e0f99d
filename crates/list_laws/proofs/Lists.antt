-- Reads by `slice_get` after a write, a push or a map, and facts of each element.
use Rattle.std.proofs.Common.{ℕ, zero, suc, ◌<◌, ◌≤◌, ◌≡◌, ◌≢◌, List, [], ◌∷◌, ◌++◌, Some, map, length, slice_get, slice_set, slice_index_or, arith, inl, inr, refl, sym, ap, ◌∙◌, subst}
use Rattle.std.specs.List.{All}
use Rattle.std.specs.Option.{option_map}
use Rattle.std.proofs.lemmas.List.{length-set, length-map, set_past, map-set}
use Rattle.std.proofs.lemmas.List.Elements.{All-head, All-tail, All-set, All-same}
use Rattle.std.proofs.lemmas.Option.{same_Some, slice_get-map, slice_get_within, slice_get-get_or, get_or_from_slice_get}
use Rattle.std.proofs.lemmas.Bool.{cases_eq, cases_lt}
use Rattle.list_laws.specs.Lists.{EachAt, changed_at}

-- a place within the list has an element
pub find : {X : Type 0} (xs : List X) (i : ℕ) → i < length xs → (x : X) × (slice_get xs i ≡ Some x)
find [] i h = absurd (omega arith)
find (x ∷ xs) zero h = (x, refl)
find (x ∷ xs) (suc i) h = find xs i (omega arith)

-- a place that has an element is within the list
pub within : {X : Type 0} (xs : List X) (i : ℕ) (x : X) → slice_get xs i ≡ Some x → i < length xs
within xs i x e = slice_get_within xs i x e

-- a place has one element
pub get_once : {X : Type 0} (xs : List X) (i : ℕ) (x y : X) → slice_get xs i ≡ Some x → slice_get xs i ≡ Some y → x ≡ y
get_once xs i x y e f = same_Some x y (sym e ∙ f)

-- after a write at i
pub get_here : {X : Type 0} (xs : List X) (i : ℕ) (y : X) → i < length xs → slice_get (slice_set xs i y) i ≡ Some y
get_here [] i y h = absurd (omega arith)
get_here (x ∷ xs) zero y h = refl
get_here (x ∷ xs) (suc i) y h = get_here xs i y (omega arith)

pub get_other : {X : Type 0} (xs : List X) (i j : ℕ) (y : X) → j ≢ i → slice_get (slice_set xs i y) j ≡ slice_get xs j
get_other [] i j y d = refl
get_other (x ∷ xs) zero zero y d = absurd (d refl)
get_other (x ∷ xs) zero (suc j) y d = refl
get_other (x ∷ xs) (suc i) zero y d = refl
get_other (x ∷ xs) (suc i) (suc j) y d = get_other xs i j y (λ e. d (ap suc e))

pub set_len : {X : Type 0} (xs : List X) (i : ℕ) (y : X) → length (slice_set xs i y) ≡ length xs
set_len xs i y = length-set xs i y

-- a write of what stands there
pub set_same : {X : Type 0} (xs : List X) (i : ℕ) (x : X) → slice_get xs i ≡ Some x → slice_set xs i x ≡ xs
set_same [] i x e = refl
set_same (y ∷ ys) zero x e = ap (λ z. z ∷ ys) (sym (same_Some y x e))
set_same (y ∷ ys) (suc i) x e = ap (λ z. y ∷ z) (set_same ys i x e)

-- after a push
pub get_last : {X : Type 0} (xs : List X) (y : X) → slice_get (xs ++ y ∷ []) (length xs) ≡ Some y
get_last [] y = refl
get_last (x ∷ xs) y = get_last xs y

pub get_before : {X : Type 0} (xs ys : List X) (i : ℕ) → i < length xs → slice_get (xs ++ ys) i ≡ slice_get xs i
get_before [] ys i h = absurd (omega arith)
get_before (x ∷ xs) ys zero h = refl
get_before (x ∷ xs) ys (suc i) h = get_before xs ys i (omega arith)

-- of a map
pub get_map : {X Y : Type 0} (f : X → Y) (xs : List X) (i : ℕ) (x : X) → slice_get xs i ≡ Some x → slice_get (map f xs) i ≡ Some (f x)
get_map f xs i x e = slice_get-map f xs i ∙ ap (option_map f) e

pub got_map : {X Y : Type 0} (f : X → Y) (xs : List X) (i : ℕ) (y : Y) → slice_get (map f xs) i ≡ Some y → (x : X) × (slice_get xs i ≡ Some x) × (f x ≡ y)
got_map f xs i y e =
    let l : i < length xs = subst (λ n. i < n) (length-map xs f) (slice_get_within (map f xs) i y e) in
    let x : (x : _) × (slice_get xs i ≡ Some x) = find xs i l in
    (x.0, x.1, get_once (map f xs) i (f x.0) y (get_map f xs i x.0 x.1) e)

pub map_set : {X Y : Type 0} (f : X → Y) (xs : List X) (i : ℕ) (y : X) → map f (slice_set xs i y) ≡ slice_set (map f xs) i (f y)
map_set f xs i y = map-set f xs i y

-- a write into a list that is seen through a map: of a changed element, or of one that looks the
-- same
pub map_changed : {X Y : Type 0} (f : X → Y) (xs : List X) (i : ℕ) (x y : X) (d : Y) (g : Y → Y) → slice_get xs i ≡ Some x → f y ≡ g (f x) → map f (slice_set xs i y) ≡ changed_at (map f xs) i d g
map_changed f xs i x y d g e h =
    map-set f xs i y ∙ ap (slice_set (map f xs) i) (h ∙ ap g (sym (get_or_from_slice_get (map f xs) i (f x) d (get_map f xs i x e))))

pub map_unchanged : {X Y : Type 0} (f : X → Y) (xs : List X) (i : ℕ) (x y : X) → slice_get xs i ≡ Some x → f y ≡ f x → map f (slice_set xs i y) ≡ map f xs
map_unchanged f xs i x y e h =
    map-set f xs i y ∙ (ap (slice_set (map f xs) i) h ∙ set_same (map f xs) i (f x) (get_map f xs i x e))

-- two changes of elements are made in any order, if they are of different places or commute
pub changed_comm : {X : Type 0} (xs : List X) (i j : ℕ) (d : X) (f g : X → X) → (i ≡ j → (v : X) → g (f v) ≡ f (g v)) → changed_at (changed_at xs i d f) j d g ≡ changed_at (changed_at xs j d g) i d f
changed_comm [] i j d f g h = refl
changed_comm (x ∷ xs) zero zero d f g h = ap (λ v. v ∷ xs) (h refl x)
changed_comm (x ∷ xs) zero (suc j) d f g h = refl
changed_comm (x ∷ xs) (suc i) zero d f g h = refl
changed_comm (x ∷ xs) (suc i) (suc j) d f g h = ap (λ ys. x ∷ ys) (changed_comm xs i j d f g (λ e. h (ap suc e)))

pub changed_len : {X : Type 0} (xs : List X) (i : ℕ) (d : X) (f : X → X) → length (changed_at xs i d f) ≡ length xs
changed_len xs i d f = length-set xs i (f (slice_index_or xs i d))

-- a change past the end
pub changed_past : {X : Type 0} (xs : List X) (i : ℕ) (d : X) (f : X → X) → length xs ≤ i → changed_at xs i d f ≡ xs
changed_past xs i d f h = set_past xs i (f (slice_index_or xs i d)) h

-- what holds of each element after it was changed, if the change keeps it
pub changed_all : {X : Type 0} (P : X → Type 0) (xs : List X) (i : ℕ) (d : X) (f : X → X) → ((x : X) → P x → P (f x)) → All P xs → All P (changed_at xs i d f)
changed_all P xs i d f h a =
    elim (cases_lt i (length xs)) [
      | inl l ↦ All-set P xs i (f (slice_index_or xs i d)) (h (slice_index_or xs i d) (a i d l)) a
      | inr m ↦ All-same P (changed_at xs i d f) xs (changed_past xs i d f m) a
    ]

-- two lists that read alike are one
pub same_reads : {X : Type 0} (xs ys : List X) → length xs ≡ length ys → ((i : ℕ) (x : X) → slice_get xs i ≡ Some x → slice_get ys i ≡ Some x) → xs ≡ ys
same_reads [] [] l h = refl
same_reads [] (y ∷ ys) l h = absurd (omega arith)
same_reads (x ∷ xs) [] l h = absurd (omega arith)
same_reads (x ∷ xs) (y ∷ ys) l h =
    let a : y ≡ x = same_Some y x (h 0 x refl) in
    let b : xs ≡ ys = same_reads xs ys (omega arith) (λ i z e. h (suc i) z e) in
    ap (λ z. z ∷ xs) (sym a) ∙ ap (λ zs. y ∷ zs) b

-- what holds of each element, from the front
pub all_head : {X : Type 0} (P : X → Type 0) (x : X) (xs : List X) → All P (x ∷ xs) → P x
all_head P x xs h = All-head P x xs h

pub all_tail : {X : Type 0} (P : X → Type 0) (x : X) (xs : List X) → All P (x ∷ xs) → All P xs
all_tail P x xs h = All-tail P x xs h

-- and of the element at a place
pub all_get : {X : Type 0} (P : X → Type 0) (xs : List X) (i : ℕ) (x : X) → All P xs → slice_get xs i ≡ Some x → P x
all_get P xs i x h e = subst P (get_or_from_slice_get xs i x x e) (h i x (slice_get_within xs i x e))

pub all_from_gets : {X : Type 0} (P : X → Type 0) (xs : List X) → ((i : ℕ) (x : X) → slice_get xs i ≡ Some x → P x) → All P xs
all_from_gets P xs h i d l = h i (slice_index_or xs i d) (slice_get-get_or xs i d l)

-- what holds of each place and the element there
pub each_get : {X : Type 0} (P : ℕ → X → Type 0) (xs : List X) (i : ℕ) (x : X) → EachAt P xs → slice_get xs i ≡ Some x → P i x
each_get P xs i x h e = subst (P i) (get_or_from_slice_get xs i x x e) (h i x (slice_get_within xs i x e))

pub each_from_gets : {X : Type 0} (P : ℕ → X → Type 0) (xs : List X) → ((i : ℕ) (x : X) → slice_get xs i ≡ Some x → P i x) → EachAt P xs
each_from_gets P xs h i d l = h i (slice_index_or xs i d) (slice_get-get_or xs i d l)

pub each_none : {X : Type 0} (P : ℕ → X → Type 0) → EachAt P []
each_none P k d l = absurd (omega arith)

pub each_weaker : {X : Type 0} (P Q : ℕ → X → Type 0) (xs : List X) → ((k : ℕ) (x : X) → P k x → Q k x) → EachAt P xs → EachAt Q xs
each_weaker P Q xs f h k d l = f k (slice_index_or xs k d) (h k d l)

set_step : {X : Type 0} (P : ℕ → X → Type 0) (xs : List X) (i : ℕ) (y : X) → EachAt P xs → P i y → (k : ℕ) (x : X) → slice_get (slice_set xs i y) k ≡ Some x → P k x
set_step P xs i y h p k x e =
    elim (cases_eq k i) [
      | inl same ↦
          let l : i < length xs = subst (λ n. i < n) (set_len xs i y) (subst (λ j. j < length (slice_set xs i y)) same (slice_get_within (slice_set xs i y) k x e)) in
          let v : y ≡ x = same_Some y x (sym (get_here xs i y l) ∙ (ap (slice_get (slice_set xs i y)) (sym same) ∙ e)) in
          subst (λ j. P j x) (sym same) (subst (P i) v p)
      | inr other ↦ each_get P xs k x h (sym (get_other xs i k y other) ∙ e)
    ]

pub each_set : {X : Type 0} (P : ℕ → X → Type 0) (xs : List X) (i : ℕ) (y : X) → EachAt P xs → P i y → EachAt P (slice_set xs i y)
each_set P xs i y h p = each_from_gets P (slice_set xs i y) (set_step P xs i y h p)

pub each_push : {X : Type 0} (P : ℕ → X → Type 0) (xs : List X) (y : X) → EachAt P xs → P (length xs) y → EachAt P (xs ++ y ∷ [])
each_push P [] y h p zero d l = p
each_push P [] y h p (suc k) d l = absurd (omega arith)
each_push P (x ∷ xs) y h p zero d l = h 0 d (omega arith)
each_push P (x ∷ xs) y h p (suc k) d l = each_push (λ j. P (suc j)) xs y (λ j e i. h (suc j) e (omega arith)) p k d (omega arith)
