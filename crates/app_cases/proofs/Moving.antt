-- Programs that are moved one by one from the front of one list to the end of another.
use Rattle.std.proofs.Common.{◌≡◌, List, [], ◌∷◌, ◌++◌, Some, None, map, drop, slice_get, refl, sym, ap, ◌∙◌, append_assoc}
use Rattle.std.proofs.lemmas.List.{map-append, append-nil}
use Rattle.std.proofs.lemmas.Option.{none-some, same_Some}

-- a list with a first element
first_is : {X : Type 0} (xs : List X) (x : X) → slice_get xs 0 ≡ Some x → xs ≡ x ∷ drop 1 xs
first_is [] x e = absurd (none-some x e)
first_is (y ∷ xs) x e = ap (λ z. z ∷ xs) (same_Some y x e)

none_left : {X : Type 0} (xs : List X) → slice_get xs 0 ≡ None → xs ≡ []
none_left [] e = refl
none_left (x ∷ xs) e = absurd (none-some x (sym e))

-- Some programs were put, and the others are left.
pub record Put {X Y : Type 0} (f : X → Y) (all : List X) (done : List Y) (left : List X) : Type 0 where
  pub parts : map f all ≡ done ++ map f left

pub none_put : {X Y : Type 0} (f : X → Y) (all : List X) → Put f all [] all
none_put f all = record { parts = refl }

pub one_put : {X Y : Type 0} (f : X → Y) (all : List X) (done done' : List Y) (left left' : List X) (x : X) → Put f all done left
    → slice_get left 0 ≡ Some x → left' ≡ drop 1 left → done' ≡ done ++ f x ∷ [] → Put f all done' left'
one_put f all done done' left left' x p s d e =
    record {
      parts =
          p.parts
          ∙ (ap (λ l. done ++ map f l) (first_is left x s)
          ∙ (sym (append_assoc done (f x ∷ []) (map f (drop 1 left)))
          ∙ (ap (λ z. z ++ map f (drop 1 left)) (sym e) ∙ ap (λ l. done' ++ map f l) (sym d))));
    }

pub all_put : {X Y : Type 0} (f : X → Y) (all : List X) (done : List Y) (left : List X) → Put f all done left → slice_get left 0 ≡ None → done ≡ map f all
all_put f all done left p n = sym (p.parts ∙ (ap (λ l. done ++ map f l) (none_left left n) ∙ append-nil done))

-- Some programs were taken out, and the others can be.
pub record Taken {X Y : Type 0} (f : X → Y) (all : List Y) (done : List X) (left : List Y) : Type 0 where
  pub parts : all ≡ map f done ++ left
  pub rest : (xs : List X) × (left ≡ map f xs)

pub none_taken : {X Y : Type 0} (f : X → Y) (all : List Y) (xs : List X) → all ≡ map f xs → Taken f all [] all
none_taken f all xs e = record { parts = refl; rest = (xs, e) }

-- what is taken next is one of them
pub next_is : {X Y : Type 0} (f : X → Y) (all : List Y) (done : List X) (left : List Y) (y : Y) → Taken f all done left → slice_get left 0 ≡ Some y → (x : X) × (y ≡ f x)
next_is f all done left y t s = found t.rest.0 (sym (ap (λ l. slice_get l 0) t.rest.1) ∙ s)
  where
    found : {X Y : Type 0} {f : X → Y} {y : Y} (xs : List X) → slice_get (map f xs) 0 ≡ Some y → (x : X) × (y ≡ f x)
    found {y = y} [] e = absurd (none-some y e)
    found {f = f} {y = y} (x ∷ xs) e = (x, sym (same_Some (f x) y e))

tail_map : {X Y : Type 0} (f : X → Y) (xs : List X) → drop 1 (map f xs) ≡ map f (drop 1 xs)
tail_map f [] = refl
tail_map f (x ∷ xs) = refl

pub one_taken : {X Y : Type 0} (f : X → Y) (all : List Y) (done done' : List X) (left left' : List Y) (y : Y) (x : X) → Taken f all done left
    → slice_get left 0 ≡ Some y → left' ≡ drop 1 left → y ≡ f x → done' ≡ done ++ x ∷ [] → Taken f all done' left'
one_taken f all done done' left left' y x t s d e n =
    record {
      parts =
          t.parts
          ∙ (ap (λ l. map f done ++ l) (first_is left y s)
          ∙ (ap (λ z. map f done ++ z ∷ drop 1 left) e
          ∙ (sym (append_assoc (map f done) (f x ∷ []) (drop 1 left))
          ∙ (ap (λ z. z ++ drop 1 left) (sym (map-append f done (x ∷ [])))
          ∙ (ap (λ z. map f z ++ drop 1 left) (sym n) ∙ ap (λ l. map f done' ++ l) (sym d))))));
      rest = (drop 1 t.rest.0, d ∙ (ap (drop 1) t.rest.1 ∙ tail_map f t.rest.0));
    }

pub all_taken : {X Y : Type 0} (f : X → Y) (all : List Y) (done : List X) (left : List Y) → Taken f all done left → slice_get left 0 ≡ None → all ≡ map f done
all_taken f all done left t n = t.parts ∙ (ap (λ l. map f done ++ l) (none_left left n) ∙ append-nil (map f done))

-- Some were moved from the front of a list to the end of another, which was empty.
pub record Moved {X : Type 0} (all done left : List X) : Type 0 where
  pub parts : all ≡ done ++ left

pub none_moved : {X : Type 0} (all : List X) → Moved all [] all
none_moved all = record { parts = refl }

pub one_moved : {X : Type 0} (all done done' left left' : List X) (x : X) → Moved all done left → slice_get left 0 ≡ Some x → left' ≡ drop 1 left
    → done' ≡ done ++ x ∷ [] → Moved all done' left'
one_moved all done done' left left' x m s d e =
    record {
      parts =
          m.parts
          ∙ (ap (λ l. done ++ l) (first_is left x s)
          ∙ (sym (append_assoc done (x ∷ []) (drop 1 left)) ∙ (ap (λ z. z ++ drop 1 left) (sym e) ∙ ap (λ l. done' ++ l) (sym d))));
    }

pub all_moved : {X : Type 0} (all done left : List X) → Moved all done left → slice_get left 0 ≡ None → done ≡ all
all_moved all done left m n = sym (m.parts ∙ (ap (λ l. done ++ l) (none_left left n) ∙ append-nil done))
