-- What a batch of items makes of a state.
use Rattle.std.proofs.Common.{◌≡◌, ◌<◌, ℕ, Bool, true, false, cond, List, [], ◌∷◌, length, slice_get, drop, Some, None, refl, ap, ◌∙◌, arith, Result, Ok, Err, OnOk}
use Rattle.either.specs.declared.Either.TheVariants.{Left, Right}
use Rattle.bale_items.specs.declared.item.Item.{Item}
use Rattle.round_program.specs.Rules.{Rules}
use Rattle.round_program.specs.Laws.{fits}
use Rattle.round_program.specs.Batches.{taken_in, all_taken_in}
use Rattle.round_program.specs.Eithers.{either_rules}

-- the first item, and then the rest
pub first_taken : {S : Type 0} (R : Rules S) (s : S) (came : List (ℕ × Item)) (from : ℕ) (x : Item) → slice_get came 0 ≡ Some (from, x)
    → all_taken_in R s came ≡ all_taken_in R (taken_in R s from x) (drop 1 came)
first_taken R s [] from x is = absurd (cc)
first_taken R s (e ∷ es) from x is = cc

pub none_came : {S : Type 0} (R : Rules S) (s : S) (came : List (ℕ × Item)) → slice_get came 0 ≡ None → all_taken_in R s came ≡ s
none_came R s [] is = refl
none_came R s (e ∷ es) is = absurd (cc)

pub fewer : (came : List (ℕ × Item)) (e : ℕ × Item) → slice_get came 0 ≡ Some e → length (drop 1 came) < length came
fewer [] e is = absurd (cc)
fewer (y ∷ ys) e is = omega arith

-- either of two programs takes in what the one that is there does
one_of : {X Y : Type 0} (f : X → Y) (b : Bool) (s t : X) → cond b (f t) (f s) ≡ f (cond b t s)
one_of f true s t = refl
one_of f false s t = refl

pub all_left : {S T : Type 0} (A : Rules S) (B : Rules T) (s : S) (came : List (ℕ × Item)) → all_taken_in (either_rules A B) (Left s) came ≡ Left (all_taken_in A s came)
all_left A B s [] = refl
all_left A B s (e ∷ es) =
    ap (λ t. all_taken_in (either_rules A B) t es) (one_of Left (fits A s e.0 e.1) s (A.absorbed s e.0 e.1)) ∙ all_left A B (taken_in A s e.0 e.1) es

pub all_right : {S T : Type 0} (A : Rules S) (B : Rules T) (s : T) (came : List (ℕ × Item)) → all_taken_in (either_rules A B) (Right s) came ≡ Right (all_taken_in B s came)
all_right A B s [] = refl
all_right A B s (e ∷ es) =
    ap (λ t. all_taken_in (either_rules A B) t es) (one_of Right (fits B s e.0 e.1) s (B.absorbed s e.0 e.1)) ∙ all_right A B (taken_in B s e.0 e.1) es

-- where a result is Ok, so is what follows
pub then : {X E : Type 0} (r : Result X E) (P Q : Type 0) → (P → Q) → OnOk r P → OnOk r Q
then (Ok x) P Q f p = f p
then (Err e) P Q f p = p
