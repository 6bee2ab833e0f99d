-- Ranks are dealt to crews one by one, and taken from them one by one.
use Rattle.std.proofs.Common.{◌≡◌, ◌≢◌, ℕ, zero, suc, ◌+◌, ◌<◌, ◌%◌, ◌==◌, ◌&&◌, ◌||◌, Bool, true, false, true≢false, cond, List, [], ◌∷◌, ◌++◌, length, length-append, append-nil, replicate, slice_get, slice_set, Some, refl, sym, ap, subst, ◌∙◌, arith, inl, inr}
use Rattle.std.proofs.lemmas.Bool.{cases_eq}
use Rattle.std.proofs.lemmas.Bool.Decides.{nat_tests}
use Rattle.std.proofs.lemmas.List.{length-replicate, get_or-replicate}
use Rattle.std.proofs.lemmas.List.Folds.{list_all-append}
use Rattle.std.specs.List.{All, list_all, sum_by}
use Rattle.std.proofs.lemmas.List.Sums.{sum_by-cons}
use Rattle.list_laws.proofs.Lists.{find, within, get_once, get_here, get_other, set_len, get_last, get_before, all_get, each_get, each_from_gets}
use Rattle.rank_crews.specs.Runs.{RanLaws, AllRan}
use Rattle.rank_crews.specs.Crews.{crew_of, AreDealt, HaveRun}
use Rattle.rank_crews.proofs.Joining.{one_less, ran_more}

-- neither of two, where their or is false
pub neither : (a b : Bool) → (a || b) ≡ false → (a ≡ false) × (b ≡ false)
neither true b e = absurd (true≢false e)
neither false b e = (refl, e)

-- one rank of some is turned on
pub ran_on : {S : Type 0} (ran : S → S → Type 0) → RanLaws ran → (xs ys : List S) (i : ℕ) (y z : S) → AllRan ran xs ys → slice_get ys i ≡ Some y → ran y z → AllRan ran xs (slice_set ys i z)
ran_on {S} ran laws xs ys i y z all at one = record { all = set_len ys i z ∙ all.all; each = on } where
  on : (r : ℕ) (a b : S) → slice_get xs r ≡ Some a → slice_get (slice_set ys i z) r ≡ Some b → ran a b
  on r a b ea eb = elim (cases_eq r i) [
    | inl here ↦
        let same : z ≡ b = get_once (slice_set ys i z) i z b (get_here ys i z (within ys i y at)) (subst (λ k. slice_get (slice_set ys i z) k ≡ Some b) here eb) in
        let before : ran a y = all.each i a y (subst (λ k. slice_get xs k ≡ Some a) here ea) at in
        subst (λ w. ran a w) same (laws.on a y z before one)
    | inr other ↦ all.each r a b ea (sym (get_other ys i r z other) ∙ eb)
  ]

-- a sum over all ranks, of which one is turned on
pub sum_set : {S : Type 0} (f : S → ℕ) (xs : List S) (i : ℕ) (y z : S) → slice_get xs i ≡ Some y → sum_by f (slice_set xs i z) + f y ≡ sum_by f xs + f z
sum_set f [] i y z at = absurd (omega (arith, within [] i y at))
sum_set f (x ∷ xs) zero y z at = omega (arith, sum_by-cons f z xs, sum_by-cons f x xs, ap f (get_once (x ∷ xs) 0 x y refl at))
sum_set f (x ∷ xs) (suc i) y z at = omega (arith, sum_by-cons f x (slice_set xs i z), sum_by-cons f x xs, sum_set f xs i y z at)

-- what crew k gets of a rank, by whether it is its own
crew_more : {S : Type 0} (count k r : ℕ) (x : S) (xs : List S) → r % count ≡ k → crew_of count k r (x ∷ xs) ≡ crew_of count k (suc r) xs ++ x ∷ []
crew_more count k r x xs e = let t : (r % count == k) ≡ true = grind (arith, nat_tests) in ap (λ b. crew_of count k (suc r) xs ++ cond b (x ∷ []) []) t

crew_same : {S : Type 0} (count k r : ℕ) (x : S) (xs : List S) → k ≢ r % count → crew_of count k r (x ∷ xs) ≡ crew_of count k (suc r) xs
crew_same count k r x xs d = let t : (r % count == k) ≡ false = grind (arith, nat_tests) in ap (λ b. crew_of count k (suc r) xs ++ cond b (x ∷ []) []) t ∙ append-nil (crew_of count k (suc r) xs)

-- the last of some ranks is dealt next
pub one_before : {S : Type 0} (left dealt all now : List S) (x : S) → now ++ dealt ≡ all → now ≡ left ++ x ∷ [] → left ++ x ∷ dealt ≡ all
one_before {S} left dealt all now x whole is = sym (by left) ∙ (ap (λ ys. ys ++ dealt) (sym is) ∙ whole) where
  by : (ys : List S) → (ys ++ x ∷ []) ++ dealt ≡ ys ++ x ∷ dealt
  by [] = refl
  by (y ∷ ys) = ap (λ zs. y ∷ zs) (by ys)

-- crews without a rank
pub dealt_none : {S : Type 0} (count r : ℕ) → AreDealt {S = S} count r [] (replicate count [])
dealt_none {S} count r = record { all = length-replicate count []; each = λ k d low. get_or-replicate count k [] d (omega (arith, low, length-replicate {A = List S} count [])) }

-- one rank joins the crew whose turn it is
pub dealt_more : {S : Type 0} (count r : ℕ) (x : S) (xs : List S) (crews : List (List S)) (c : List S) → AreDealt count (suc r) xs crews → slice_get crews (r % count) ≡ Some c → AreDealt count r (x ∷ xs) (slice_set crews (r % count) (c ++ x ∷ []))
dealt_more {S} count r x xs crews c dealt at = record { all = set_len crews (r % count) (c ++ x ∷ []) ∙ dealt.all; each = each_from_gets (λ k d. d ≡ crew_of count k r (x ∷ xs)) (slice_set crews (r % count) (c ++ x ∷ [])) each } where
  each : (k : ℕ) (d : List S) → slice_get (slice_set crews (r % count) (c ++ x ∷ [])) k ≡ Some d → d ≡ crew_of count k r (x ∷ xs)
  each k d e = elim (cases_eq k (r % count)) [
    | inl same ↦
        let is : c ++ x ∷ [] ≡ d = get_once (slice_set crews (r % count) (c ++ x ∷ [])) (r % count) (c ++ x ∷ []) d (get_here crews (r % count) (c ++ x ∷ []) (within crews (r % count) c at)) (subst (λ j. slice_get (slice_set crews (r % count) (c ++ x ∷ [])) j ≡ Some d) same e) in
        let was : c ≡ crew_of count k (suc r) xs = each_get (λ j z. z ≡ crew_of count j (suc r) xs) crews k c dealt.each (subst (λ j. slice_get crews j ≡ Some c) (sym same) at) in
        sym is ∙ (ap (λ z. z ++ x ∷ []) was ∙ sym (crew_more count k r x xs (sym same)))
    | inr other ↦ each_get (λ j z. z ≡ crew_of count j (suc r) xs) crews k d dealt.each (sym (get_other crews (r % count) k (c ++ x ∷ []) other) ∙ e) ∙ sym (crew_same count k r x xs other)
  ]

-- crews that were dealt were turned
pub dealt_run : {S : Type 0} (ran : S → S → Type 0) (over : S → Bool) (count r : ℕ) (ranks : List S) (before after : List (List S)) → AreDealt count r ranks before → AllRan (AllRan ran) before after → All (λ c. list_all over c ≡ true) after → HaveRun ran over (length after) r ranks after
dealt_run {S} ran over count r ranks before after dealt all each_over =
    subst (λ n. HaveRun ran over n r ranks after) (sym (all.all ∙ dealt.all))
    record {
      all = all.all ∙ dealt.all;
      each = each_from_gets (λ k c. AllRan ran (crew_of count k r ranks) c × (list_all over c ≡ true)) after (λ k c at.
          let low = within after k c at in
          let size = all.all in
          let b : (b : List S) × (slice_get before k ≡ Some b) = find before k (omega arith) in
          let is : b.0 ≡ crew_of count k r ranks = each_get (λ j z. z ≡ crew_of count j r ranks) before k b.0 dealt.each b.1 in
          (subst (λ z. AllRan ran z c) is (all.each k b.0 c b.1 at), all_get (λ z. list_all over z ≡ true) after k c each_over at));
    }

-- the last of some ranks that were turned
pub ran_less : {S : Type 0} (ran : S → S → Type 0) (xs ys : List S) (x y : S) → AllRan ran (xs ++ x ∷ []) (ys ++ y ∷ []) → AllRan ran xs ys × ran x y
ran_less {S} ran xs ys x y all = (record { all = size; each = each }, last) where
  size : length ys ≡ length xs
  size = omega (arith, length-append xs (x ∷ []), length-append ys (y ∷ []), all.all)

  each : (r : ℕ) (a b : S) → slice_get xs r ≡ Some a → slice_get ys r ≡ Some b → ran a b
  each r a b ea eb = all.each r a b (get_before xs (x ∷ []) r (within xs r a ea) ∙ ea) (get_before ys (y ∷ []) r (within ys r b eb) ∙ eb)

  last : ran x y
  last = all.each (length xs) x y (get_last xs x) (subst (λ n. slice_get (ys ++ y ∷ []) n ≡ Some y) size (get_last ys y))

both_true : (a b : Bool) → (a && b) ≡ true → (a ≡ true) × (b ≡ true)
both_true true b e = (refl, e)
both_true false b e = absurd (true≢false (sym e))

module _ {S : Type 0} (ran : S → S → Type 0) (over : S → Bool) (count r : ℕ) (x : S) (xs : List S) (crews : List (List S)) (c : List S) (run : HaveRun ran over count r (x ∷ xs) crews) (at : slice_get crews (r % count) ≡ Some c) where
  abbrev here : ℕ
  here = r % count

  crew : AllRan ran (crew_of count here (suc r) xs ++ x ∷ []) c × (list_all over c ≡ true)
  crew =
      let e = each_get (λ k z. AllRan ran (crew_of count k r (x ∷ xs)) z × (list_all over z ≡ true)) crews here c run.each at in
      (subst (λ z. AllRan ran z c) (crew_more count here r x xs refl) e.0, e.1)

  -- a rank is left in the crew whose turn it is
  pub some_left : c ≢ []
  some_left none = let size = crew.0.all in omega (arith, size, ap length none, length-append (crew_of count here (suc r) xs) (x ∷ []))

  module _ (rest : List S) (y : S) (is : c ≡ rest ++ y ∷ []) where
    last : AllRan ran (crew_of count here (suc r) xs) rest × ran x y
    last = ran_less ran (crew_of count here (suc r) xs) rest x y (subst (λ z. AllRan ran (crew_of count here (suc r) xs ++ x ∷ []) z) is crew.0)

    overs : (list_all over rest ≡ true) × (list_all over (y ∷ []) ≡ true)
    overs = both_true (list_all over rest) (list_all over (y ∷ [])) (sym (list_all-append over rest (y ∷ [])) ∙ (sym (ap (list_all over) is) ∙ crew.1))

    pub one_ran : ran x y
    one_ran = last.1

    pub one_over : over y ≡ true
    one_over = (both_true (over y) true overs.1).0

    pub run_less : HaveRun ran over count (suc r) xs (slice_set crews here rest)
    run_less = record { all = set_len crews here rest ∙ run.all; each = each_from_gets (λ k z. AllRan ran (crew_of count k (suc r) xs) z × (list_all over z ≡ true)) (slice_set crews here rest) each } where
      each : (k : ℕ) (d : List S) → slice_get (slice_set crews here rest) k ≡ Some d → AllRan ran (crew_of count k (suc r) xs) d × (list_all over d ≡ true)
      each k d e = elim (cases_eq k here) [
        | inl same ↦
            let it : rest ≡ d = get_once (slice_set crews here rest) here rest d (get_here crews here rest (within crews here c at)) (subst (λ j. slice_get (slice_set crews here rest) j ≡ Some d) same e) in
            subst (λ z. AllRan ran (crew_of count k (suc r) xs) z × (list_all over z ≡ true)) it
            (subst (λ j. AllRan ran (crew_of count j (suc r) xs) rest) (sym same) last.0, overs.0)
        | inr other ↦
            let was = each_get (λ j z. AllRan ran (crew_of count j r (x ∷ xs)) z × (list_all over z ≡ true)) crews k d run.each (sym (get_other crews here k rest other) ∙ e) in
            (subst (λ z. AllRan ran z d) (crew_same count k r x xs other) was.0, was.1)
      ]

-- The ranks below number r have come back from their crews.
pub record Gathered {S : Type 0} (ran : S → S → Type 0) (over : S → Bool) (count r : ℕ) (all : List S) (crews : List (List S)) (ended : List S) : Type 0 where
  pub back : List S
  pub rest : List S
  pub whole : back ++ rest ≡ all
  pub come : length back ≡ r
  pub ran_so_far : AllRan ran back ended
  pub run : HaveRun ran over count r rest crews

module _ {S : Type 0} (ran : S → S → Type 0) (over : S → Bool) (count r : ℕ) (all : List S) (crews : List (List S)) (ended : List S) (g : Gathered ran over count r all crews ended) (below : r < length all) (c : List S) (at : slice_get crews (r % count) ≡ Some c) where
  up : (x : S) × (xs : List S) × (g.rest ≡ x ∷ xs)
  up = by g.rest refl where
    by : (rest : List S) → g.rest ≡ rest → (x : S) × (xs : List S) × (g.rest ≡ x ∷ xs)
    by [] e = absurd (omega (arith, below, g.come, ap length g.whole, length-append g.back g.rest, ap length e))
    by (x ∷ xs) e = (x, xs, e)

  run : HaveRun ran over count r (up.0 ∷ up.1) crews
  run = subst (λ xs. HaveRun ran over count r xs crews) up.2 g.run

  -- one more is to come
  pub still_some : c ≢ []
  still_some = some_left ran over count r up.0 up.1 crews c run at

  module _ (rest : List S) (y : S) (is : c ≡ rest ++ y ∷ []) where
    pub came_over : over y ≡ true
    came_over = one_over ran over count r up.0 up.1 crews c run at rest y is

    -- and comes
    pub gathered_more : Gathered ran over count (r + 1) all (slice_set crews (r % count) rest) (ended ++ y ∷ [])
    gathered_more =
        record {
          back = g.back ++ up.0 ∷ [];
          rest = up.1;
          whole = one_less g.back up.1 all g.rest up.0 g.whole up.2;
          come = omega (arith, length-append g.back (up.0 ∷ []), g.come);
          ran_so_far = ran_more ran g.back ended up.0 y g.ran_so_far (one_ran ran over count r up.0 up.1 crews c run at rest y is);
          run = subst (λ n. HaveRun ran over count n up.1 (slice_set crews (r % count) rest)) (let e : suc r ≡ r + 1 = omega arith in e) (run_less ran over count r up.0 up.1 crews c run at rest y is);
        }
