-- Rounds of offers over the whole graph: weights stay small, and what a round of offers is told as.
use Rattle.std.proofs.Common.{◌≡◌, ℕ, ◌+◌, ◌*◌, ◌<◌, ◌≤◌, Bool, true, List, Option, Some, None, All, arith, inl, inr, refl, sym, ap, ◌∙◌, subst}
use Rattle.std.proofs.lemmas.Bool.{cases_lt, lt-ltb}
use Rattle.std.proofs.lemmas.List.Elements.{All-contains}
use Rattle.std.proofs.lemmas.Option.{same_Some}
use Rattle.bale_items.specs.declared.triple.Triple.{Triple}
use Rattle.list_laws.specs.Sums.{total}
use Rattle.list_laws.proofs.Sums.{total_le, total_lt, total_bound}
use Rattle.least_walks.specs.Walks.{AtMost}
use Rattle.least_walks.specs.Vertices.{is_better}
use Rattle.least_walks.proofs.Settled.{cost}
use Rattle.app_sssp.proofs.Rounds.{Stage}
use Rattle.delta_step.proofs.Buckets.{Took as TookOffer, Offers}
use Rattle.round_tables.specs.Delta.{Look, Improves}

-- the greatest weight of an edge
abbrev pub LIMIT : ℕ
LIMIT = 1_000_000_000_000

-- ---- Weights stay small: they rise by an edge only where a vertex more is found

abbrev pub one_found : Option ℕ → ℕ
one_found None = 0
one_found (Some w) = 1

abbrev pub reached : ℕ → (ℕ → Option ℕ) → ℕ
reached n found = total n (λ v. one_found (found v))

pub reached_most : (n : ℕ) (found : ℕ → Option ℕ) → reached n found ≤ n * 1
reached_most n found = total_bound n 1 (λ v. one_found (found v)) (λ v l. most (found v))
  where
    most : (o : Option ℕ) → one_found o ≤ 1
    most None = omega arith
    most (Some w) = omega arith

abbrev pub Bounded : ℕ → (ℕ → Option ℕ) → Type 0
Bounded n found = (v k : ℕ) → found v ≡ Some k → k ≤ reached n found * LIMIT

found_more : (es : List Triple) (sent : Triple → Bool) (x y : Stage) → Offers es sent x y → (v : ℕ) → one_found (x.found v) ≤ one_found (y.found v)
found_more es sent x y round v =
    elim (round.each v) [
      | inl same ↦ (let e : one_found (y.found v) ≡ one_found (x.found v) = ap one_found same.0 in omega arith)
      | inr new' ↦ (let e : one_found (y.found v) ≡ 1 = ap one_found new'.1.new in let l : one_found (x.found v) ≤ 1 = most (x.found v) in omega arith)
    ]
  where
    most : (o : Option ℕ) → one_found o ≤ 1
    most None = omega arith
    most (Some w) = omega arith

pub bounded_more : (n : ℕ) (es : List Triple) (sent : Triple → Bool) (x y : Stage) → All (λ (t : Triple). t.j < n) es → All (λ (t : Triple). cost t ≤ LIMIT) es → Offers es sent x y → Bounded n x.found → Bounded n y.found
bounded_more n es sent x y to few round old v k found =
    let up : reached n x.found ≤ reached n y.found = total_le n (λ v. one_found (x.found v)) (λ v. one_found (y.found v)) (λ v l. found_more es sent x y round v) in
    elim (round.each v) [
      | inl same ↦ (let b : k ≤ reached n x.found * LIMIT = old v k (sym same.0 ∙ found) in omega arith)
      | inr new' ↦ took v k found new'.1 (x.found v) refl up
    ]
  where
    took : (v k : ℕ) → y.found v ≡ Some k → TookOffer es sent x y v → (o : Option ℕ) → x.found v ≡ o → reached n x.found ≤ reached n y.found → k ≤ reached n y.found * LIMIT
    took v k found i (Some w) is up =
        let same : k ≡ i.before + cost i.edge = same_Some k (i.before + cost i.edge) (sym found ∙ i.new) in
        let b : w ≤ reached n x.found * LIMIT = old v w is in
        elim (cases_lt k w) [
          | inl less ↦ omega arith
          | inr more ↦ absurd (i.less (w, is, (let l : w ≤ i.before + cost i.edge = omega arith in l)))
        ]
    took v k found i None is up =
        let same : k ≡ i.before + cost i.edge = same_Some k (i.before + cost i.edge) (sym found ∙ i.new) in
        let b : i.before ≤ reached n x.found * LIMIT = old i.edge.i i.before i.from in
        let c : cost i.edge ≤ LIMIT = All-contains (λ (t : Triple). cost t ≤ LIMIT) es i.edge few i.is in
        let inside : v < n = subst (λ u. u < n) i.to (All-contains (λ (t : Triple). t.j < n) es i.edge to i.is) in
        let none : one_found (x.found v) ≡ 0 = ap one_found is in
        let now : one_found (y.found v) ≡ 1 = ap one_found found in
        let more : reached n x.found < reached n y.found =
        total_lt n (λ v. one_found (x.found v)) (λ v. one_found (y.found v)) v inside (omega arith) (λ u l. found_more es sent x y round u) in
        omega arith

better_from : (o : Option ℕ) (w : ℕ) → ¬ AtMost o w → is_better w o ≡ true
better_from None w h = refl
better_from (Some k) w h =
    elim (cases_lt w k) [
      | inl low ↦ lt-ltb w k low
      | inr high ↦ absurd (h (k, refl, high))
    ]

-- a round of offers, as it is told
pub to_improves : (es : List Triple) (sent : Triple → Bool) (x : Stage) (y : Look) → Offers es sent x (record { found = y.found; fresh = y.pending }) → Improves es sent x.found x.fresh y
to_improves es sent x y round =
    record {
      tried = round.tried;
      each = λ v. elim (round.each v) [
        | inl same ↦ inl same
        | inr new' ↦
            (let i = new'.1 in
            inr (new'.0, record { edge = i.edge; is = i.is; was_sent = i.was_sent; to = i.to; before = i.before; from = i.from; took = i.new; better = better_from (x.found v) (i.before + cost i.edge) i.less }))
      ];
    }
