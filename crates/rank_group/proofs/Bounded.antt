-- A log of a rank in its first epoch is short: on a grid of one number it has at most one parcel
-- for each emission, and one that ends the epoch.
use Rattle.std.proofs.Common.{◌≡◌, ℕ, zero, suc, Bool, true, false, cond, List, [], ◌∷◌, flat_map, All, refl, sym, subst}
use Rattle.std.proofs.lemmas.List.Elements.{All-nil, All-cons, All-append}
use Rattle.item_buffer.specs.Contents.{Shipped}
use Rattle.list_laws.proofs.Lists.{all_head, all_tail}
use Rattle.port_bank.specs.Logs.{segment}

-- what holds in each of the lists holds in their concatenation
pub all_flat : {X Y : Type 0} (P : Y → Type 0) (f : X → List Y) (xs : List X) → All (λ x. All P (f x)) xs → All P (flat_map f xs)
all_flat P f [] a = All-nil P
all_flat P f (x ∷ xs) a = All-append P (f x) (flat_map f xs) (all_head (λ y. All P (f y)) x xs a) (all_flat P f xs (all_tail (λ y. All P (f y)) x xs a))

-- and in a whole log in each segment
pub all_segment : (P : Shipped → Type 0) (e : ℕ) (log : List Shipped) → All P log → All P (segment e log)
all_segment P e [] a = subst (All P) (sym (none e)) a where
  none : (e : ℕ) → segment e [] ≡ []
  none zero = refl
  none (suc e) = refl
all_segment P zero (p ∷ ps) a = by p.last (all_segment P zero ps (all_tail P p ps a)) where
  by : (b : Bool) → All P (segment zero ps) → All P (p ∷ cond b [] (segment zero ps))
  by true rest = All-cons P p [] (all_head P p ps a) (All-nil P)
  by false rest = All-cons P p (segment zero ps) (all_head P p ps a) rest
all_segment P (suc e) (p ∷ ps) a = by p.last (all_segment P e ps (all_tail P p ps a)) (all_segment P (suc e) ps (all_tail P p ps a)) where
  by : (b : Bool) → All P (segment e ps) → All P (segment (suc e) ps) → All P (cond b (segment e ps) (segment (suc e) ps))
  by true x y = x
  by false x y = y
