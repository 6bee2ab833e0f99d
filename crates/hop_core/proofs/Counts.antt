-- How many elements of a list fail a test, by what is written to them.
use Rattle.std.proofs.Common.{ℕ, suc, ◌≡◌, ◌+◌, ◌<◌, Bool, true, false, not, ◌&&◌, List, [], ◌∷◌, length, get_or, set, arith, refl, ap}
use Rattle.std.specs.Int.{from_bool}
use Rattle.std.specs.List.{list_all}
use Rattle.std.proofs.lemmas.Bool.{false≢true}
use Rattle.std.proofs.lemmas.List.Sums.{sum_by-set, sum_by-cons, get_or-le-sum_by}
use Rattle.hop_core.specs.Link.{In, no_in, is_empty, is_finished}
use Rattle.hop_core.specs.Standing.{failing}

as_one : (b : Bool) → from_bool (not b) + from_bool b ≡ 1
as_one true = refl
as_one false = refl

pub one_each : (b : Bool) → from_bool b < 2
one_each true = omega arith
one_each false = omega arith

none_both : (b c : Bool) (n : ℕ) → from_bool (not b) + n ≡ 0 → (n ≡ 0 → c ≡ true) → (b && c) ≡ true
none_both true c n none rest = rest (omega (arith, none))
none_both false c n none rest = absurd (omega (arith, none))

some_one : (b c : Bool) (n : ℕ) → 0 < from_bool (not b) + n → (0 < n → c ≡ false) → (b && c) ≡ false
some_one true c n some rest = rest (omega (arith, some))
some_one false c n some rest = refl

module _ {X : Type 0} (test : X → Bool) where
  written : (xs : List X) (i : ℕ) (x d : X) → i < length xs → failing test (set xs i x) + from_bool (not (test (get_or xs i d))) ≡ failing test xs + from_bool (not (test x))
  written xs i x d q = sum_by-set (λ y. from_bool (not (test y))) xs i x d q

  more : (x : X) (xs : List X) → failing test (x ∷ xs) ≡ from_bool (not (test x)) + failing test xs
  more x xs = sum_by-cons (λ y. from_bool (not (test y))) x xs

  -- an element that failed passes, or fails still
  pub passes_if : (xs : List X) (i : ℕ) (x d : X) (b : Bool) → i < length xs → test (get_or xs i d) ≡ false → test x ≡ b → failing test (set xs i x) + from_bool b ≡ failing test xs
  passes_if xs i x d b q was now =
      let w : from_bool (not (test (get_or xs i d))) ≡ 1 = ap (λ b. from_bool (not b)) was in
      let n : from_bool (not (test x)) ≡ from_bool (not b) = ap (λ b. from_bool (not b)) now in
      omega (arith, written xs i x d q, w, n, as_one b)

  -- an element passes or fails as before
  pub as_before : (xs : List X) (i : ℕ) (x d : X) → i < length xs → test x ≡ test (get_or xs i d) → failing test (set xs i x) ≡ failing test xs
  as_before xs i x d q same =
      let n : from_bool (not (test x)) ≡ from_bool (not (test (get_or xs i d))) = ap (λ b. from_bool (not b)) same in
      omega (arith, written xs i x d q, n)

  pub some_fails : (xs : List X) (i : ℕ) (d : X) → i < length xs → test (get_or xs i d) ≡ false → 0 < failing test xs
  some_fails xs i d q was =
      let w : from_bool (not (test (get_or xs i d))) ≡ 1 = ap (λ b. from_bool (not b)) was in
      omega (arith, get_or-le-sum_by (λ y. from_bool (not (test y))) xs i d q, w)

  pub all_fail : (xs : List X) (d : X) → ((i : ℕ) → i < length xs → test (get_or xs i d) ≡ false) → failing test xs ≡ length xs
  all_fail [] d each = refl
  all_fail (x ∷ xs) d each =
      let w : from_bool (not (test x)) ≡ 1 = ap (λ b. from_bool (not b)) (each 0 (omega arith)) in
      omega (arith, more x xs, w, all_fail xs d (λ i q. each (suc i) (omega (arith, q))))

  pub same_fail : (ys xs : List X) (d : X) → length ys ≡ length xs → ((i : ℕ) → test (get_or ys i d) ≡ test (get_or xs i d)) → failing test ys ≡ failing test xs
  same_fail [] [] d n same = refl
  same_fail [] (x ∷ xs) d n same = absurd (omega (arith, n))
  same_fail (y ∷ ys) [] d n same = absurd (omega (arith, n))
  same_fail (y ∷ ys) (x ∷ xs) d n same =
      let e : from_bool (not (test y)) ≡ from_bool (not (test x)) = ap (λ b. from_bool (not b)) (same 0) in
      omega (arith, more y ys, more x xs, e, same_fail ys xs d (omega (arith, n)) (λ i. same (suc i)))

  pub none_fails : (xs : List X) → failing test xs ≡ 0 → list_all test xs ≡ true
  none_fails [] none = refl
  none_fails (x ∷ xs) none = none_both (test x) (list_all test xs) (failing test xs) (omega (arith, none, more x xs)) (none_fails xs)

  pub not_all_pass : (xs : List X) → 0 < failing test xs → list_all test xs ≡ false
  not_all_pass [] some = absurd (omega (arith, some))
  not_all_pass (x ∷ xs) some = some_one (test x) (list_all test xs) (failing test xs) (omega (arith, some, more x xs)) (not_all_pass xs)

-- links that have ended and are empty are finished
both_true : (a b c d : Bool) → (a && c) ≡ true → b ≡ true → (c ≡ true → d ≡ true) → ((a && b) && d) ≡ true
both_true true true c d t e rest = rest t
both_true true false c d t e rest = absurd (false≢true e)
both_true false b c d t e rest = absurd (false≢true t)

pub ended_finished : (ins : List In) → list_all (λ x. x.ended) ins ≡ true → ((i : ℕ) → i < length ins → is_empty (get_or ins i no_in).parcel ≡ true) → list_all is_finished ins ≡ true
ended_finished [] all empty = refl
ended_finished (x ∷ xs) all empty =
    both_true x.ended (is_empty x.parcel) (list_all (λ y. y.ended) xs) (list_all is_finished xs) all (empty 0 (omega arith)) (λ t. ended_finished xs t (λ i q. empty (suc i) (omega (arith, q))))

-- and those that have not all ended aren't
one_false : (a b c d : Bool) → (a && c) ≡ false → (c ≡ false → d ≡ false) → ((a && b) && d) ≡ false
one_false true true c d f rest = rest f
one_false true false c d f rest = refl
one_false false b c d f rest = refl

pub coming_unfinished : (ins : List In) → list_all (λ x. x.ended) ins ≡ false → list_all is_finished ins ≡ false
coming_unfinished [] f = f
coming_unfinished (x ∷ xs) f = one_false x.ended (is_empty x.parcel) (list_all (λ y. y.ended) xs) (list_all is_finished xs) f (coming_unfinished xs)
