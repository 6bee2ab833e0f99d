-- Bytes that go from a list, piece by piece, to where they are counted.
use Rattle.std.proofs.Common.{ℕ, ◌≡◌, ◌+◌, ◌-◌, ◌<◌, ◌≤◌, List, [], ◌++◌, get_or, Option, None, Some, Result, Ok, Err, OnErr, length, take, drop, sym, subst, ap, ◌∙◌, refl, arith, append_assoc, take_all, length-drop}
use Rattle.std.proofs.lemmas.List.{append-nil, drop_more, take_at, take-take, take-append-drop, drop-drop, drop-take}
use Rattle.std.proofs.lemmas.Grind.{flat_map-append}
use Rattle.std.specs.List.{flat_map}
use Rattle.bale_types.specs.Stream.{taken_with, IsTakenPrefix}

-- what was to come is what was copied to the front of the buffer, and then what is left
pub come_then_left : (text copied rest : List ℕ) (at n : ℕ) → copied ≡ take n (drop at text) → length copied ≡ n → take n (copied ++ rest) ++ drop (at + n) text ≡ drop at text
come_then_left text copied rest at n same size =
    rw (take_at copied rest n size, same, ← drop-drop n at text) (take-append-drop n (drop at text))

-- one piece after another is the two joined
pub after-after : (taken : Option (List ℕ)) (first second : List ℕ) → taken_with (taken_with taken first) second ≡ taken_with taken (first ++ second)
after-after None first second = refl
after-after (Some taken) first second = ap Some (append_assoc taken first second)

pub after-nil : (taken : Option (List ℕ)) → taken_with taken [] ≡ taken
after-nil None = refl
after-nil (Some taken) = ap Some (append-nil taken)

-- the first `at`, and n more, of what stands before `end`
pub take_on : (xs : List ℕ) (at end n : ℕ) → n ≤ end - at → take at xs ++ take n (take (end - at) (drop at xs)) ≡ take (at + n) xs
take_on xs at end n h =
    rw (take-take n (end - at) (drop at xs) h, ← drop-take at n xs, ← take-take at (at + n) xs (omega arith))
    (take-append-drop at (take (at + n) xs))

-- a whole that goes on after a front has that front too
pub front_longer : (taken all : Option (List ℕ)) (more : List ℕ) → IsTakenPrefix taken all → IsTakenPrefix taken (taken_with all more)
front_longer taken all more front = record {
  rest = front.rest ++ more;
  whole = sym (after-after taken front.rest more) ∙ ap (λ o. taken_with o more) front.whole;
}

-- the first `at` bytes are a prefix of the first `end`
pub front_at : (taken old : Option (List ℕ)) (xs : List ℕ) (at end : ℕ) → taken ≡ taken_with old (take at xs) → at ≤ end → IsTakenPrefix taken (taken_with old (take end xs))
front_at taken old xs at end same h = record {
  rest = drop at (take end xs);
  whole = rw (same, after-after old (take at xs) (drop at (take end xs)), ← take-take at end xs h)
      (ap (taken_with old) (take-append-drop at (take end xs)));
}

pub on_err_any : {T E P : Type 0} (result : Result T E) → P → OnErr result P
on_err_any (Ok value) fact = tt
on_err_any (Err error) fact = fact

-- a loop's step: what follows the first `at` bytes, n of them, makes the first at + n
pub moved_on : (new mid old : Option (List ℕ)) (xs : List ℕ) (at end n : ℕ) → new ≡ taken_with mid (take n (take (end - at) (drop at xs))) → mid ≡ taken_with old (take at xs) → n ≤ end - at → new ≡ taken_with old (take (at + n) xs)
moved_on new mid old xs at end n step before h =
    rw (step, before, after-after old (take at xs) (take n (take (end - at) (drop at xs))), take_on xs at end n h) refl

-- what a sink has is a prefix of that and more
pub front_held : (taken : Option (List ℕ)) (more : List ℕ) → IsTakenPrefix taken (taken_with taken more)
front_held taken more = record { rest = more; whole = refl }

pub front_same : (taken : Option (List ℕ)) → IsTakenPrefix taken taken
front_same taken = record { rest = []; whole = after-nil taken }

-- what came before a call's bytes is a prefix of what came with them
pub front_moved : (new old : Option (List ℕ)) (bytes : List ℕ) → new ≡ taken_with old bytes → IsTakenPrefix old new
front_moved new old bytes e = record { rest = bytes; whole = sym e }

-- a prefix of a front is a prefix of the whole
pub front_of_front : (first mid last : Option (List ℕ)) → IsTakenPrefix first mid → IsTakenPrefix mid last → IsTakenPrefix first last
front_of_front first mid last f g = record {
  rest = f.rest ++ g.rest;
  whole = sym (after-after first f.rest g.rest) ∙ ap (λ o. taken_with o g.rest) f.whole ∙ g.whole;
}

-- the first bytes went to the sink, and the n others come to the front
pub rest_waits : (new old : Option (List ℕ)) (xs : List ℕ) (count n : ℕ) → new ≡ taken_with old (take count (take (count + n) xs)) → taken_with new (take n (drop count xs)) ≡ taken_with old (take (count + n) xs)
rest_waits new old xs count n step =
    rw (step, after-after old (take count (take (count + n) xs)) (take n (drop count xs)), ← drop-take count n xs)
    (ap (taken_with old) (take-append-drop count (take (count + n) xs)))

-- the first n bytes were appended, so all of them would be more
pub part_of_all : (new old : Option (List ℕ)) (t : List ℕ) (n : ℕ) → new ≡ taken_with old (take n t) → IsTakenPrefix new (taken_with old t)
part_of_all new old t n here = record {
  rest = drop n t;
  whole = rw (here, after-after old (take n t) (drop n t)) (ap (taken_with old) (take-append-drop n t));
}

-- some were appended, and of the others a part
pub part_of_rest : (new mid old : Option (List ℕ)) (t : List ℕ) (at : ℕ) → mid ≡ taken_with old (take at t) → IsTakenPrefix new (taken_with mid (take (length t - at) (drop at t))) → IsTakenPrefix new (taken_with old t)
part_of_rest new mid old t at here front =
    let all : take (length t - at) (drop at t) ≡ drop at t = take_all (length t - at) (drop at t) (omega (arith, length-drop at t)) in
    subst (IsTakenPrefix new) (ap (taken_with mid) all ∙ ap (λ o. taken_with o (drop at t)) here ∙ after-after old (take at t) (drop at t) ∙ ap (taken_with old) (take-append-drop at t)) front

-- a writer of several pieces, one of which failed: what was written before it is `done`
pub front_joined : (taken mid old : Option (List ℕ)) (done piece rest all : List ℕ) → mid ≡ taken_with old done → done ++ piece ++ rest ≡ all → IsTakenPrefix taken (taken_with mid piece) → IsTakenPrefix taken (taken_with old all)
front_joined taken mid old done piece rest all here whole front =
    let joined : taken_with (taken_with mid piece) rest ≡ taken_with old all = rw (here, after-after old done piece, after-after old (done ++ piece) rest, whole) refl in
    subst (IsTakenPrefix taken) joined (front_longer taken (taken_with mid piece) rest front)

-- the same in a loop over a list, which writes a piece for each element
pub front_in_loop : {X : Type 0} (f : X → List ℕ) (taken mid old : Option (List ℕ)) (xs : List X) (i : ℕ) (d : X) → i < length xs → mid ≡ taken_with old (flat_map f (take i xs)) → IsTakenPrefix taken (taken_with mid (f (get_or xs i d))) → IsTakenPrefix taken (taken_with old (flat_map f xs))
front_in_loop f taken mid old xs i d h here =
    let rest = flat_map f (drop (i + 1) xs) in
    let whole : flat_map f (take i xs) ++ f (get_or xs i d) ++ rest ≡ flat_map f xs =
    append_assoc (flat_map f (take i xs)) (f (get_or xs i d)) rest
    ∙ ap (λ ys. flat_map f (take i xs) ++ flat_map f ys) (sym (drop_more xs i d h))
    ∙ sym (flat_map-append f (take i xs) (drop i xs))
    ∙ ap (flat_map f) (take-append-drop i xs) in
    front_joined taken mid old (flat_map f (take i xs)) (f (get_or xs i d)) rest (flat_map f xs) here whole
