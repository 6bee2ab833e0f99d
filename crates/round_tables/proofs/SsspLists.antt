-- What a rank offers, from its places, is what its vertices offer.
use Rattle.std.proofs.Common.{◌≡◌, ℕ, suc, ◌+◌, ◌-◌, ◌*◌, ◌/◌, ◌%◌, ◌<◌, ◌≤◌, ◌^◌, ◌++◌, ◌&&◌, Bool, true, cond, eqb, List, [], ◌∷◌, Option, Some, None, All, pos, map, length, get_or, arith, inl, inr, refl, sym, ap, ap₂, ◌∙◌, subst}
use Rattle.std.specs.Prelude.{nat_abs, Contains}
use Rattle.std.specs.List.{filter, flat_map, range_with_len}
use Rattle.std.proofs.lemmas.Bool.{cases_eq, eq-eqb, ne_eqb, eqb-true}
use Rattle.std.proofs.lemmas.Bool.Decides.{nat_tests}
use Rattle.std.proofs.lemmas.List.Elements.{All-head, All-tail}
use Rattle.std.proofs.lemmas.List.FromFn.{get_or-range_with_len, length-range_with_len}
use Rattle.std.proofs.lemmas.Nat.{div-add-mod', div-mul-add, mod-mul-add, mul-le}
use Rattle.std.proofs.lemmas.Simd.{map-map}
use Rattle.bale_items.specs.declared.triple.Triple.{Triple}
use Rattle.bale_items.specs.Bits.{twos_complement}
use Rattle.sparse_rows.specs.Deals.{dealt}
use Rattle.sparse_rows.specs.Owners.{places_for}
use Rattle.sparse_rows.proofs.Deals.{filter_filter}
use Rattle.sparse_rows.proofs.EveryEntry.{same_map}
use Rattle.sparse_rows.proofs.Gathering.{row_of, pairs_filter, pairs_map}
use Rattle.sparse_rows.proofs.Places.{place_below}
use Rattle.least_walks.specs.declared.vertices.Vertex.{Vertex}
use Rattle.least_walks.specs.Tables.{edge_of, in_range, is_kept, offer, offers_from}
use Rattle.least_walks.specs.Vertices.{unreached_vertex, marked_from}
use Rattle.least_walks.proofs.Members.{has_filtered, was_filtered, has_mapped, was_mapped}
use Rattle.app_sssp.proofs.Stages.{sum_is, word_is}
use Rattle.app_topo.proofs.Counting.{counted, found_by}
use Rattle.app_topo.proofs.TopoReady.{Less, range_up, rising_same}
use Rattle.round_tables.specs.Sssp.{vertex_offers}

-- ---- Lists

pub filter_on : {X : Type 0} (p q : X → Bool) (xs : List X) → All (λ x. p x ≡ q x) xs → filter p xs ≡ filter q xs
filter_on p q [] h = refl
filter_on p q (x ∷ xs) h =
    ap (λ b. cond b (x ∷ filter p xs) (filter p xs)) (All-head (λ x. p x ≡ q x) x xs h)
    ∙ ap (λ ys. cond (q x) (x ∷ ys) ys) (filter_on p q xs (All-tail (λ x. p x ≡ q x) x xs h))

pub flat_on : {X Y : Type 0} (f g : X → List Y) (xs : List X) → All (λ x. f x ≡ g x) xs → flat_map f xs ≡ flat_map g xs
flat_on f g [] h = refl
flat_on f g (x ∷ xs) h =
    ap (λ ys. ys ++ flat_map f xs) (All-head (λ x. f x ≡ g x) x xs h) ∙ ap (λ ys. g x ++ ys) (flat_on f g xs (All-tail (λ x. f x ≡ g x) x xs h))

pub in_range_list : (n i : ℕ) → i < n → Contains (range_with_len 0 n) i
in_range_list n i low =
    (i, subst (λ k. i < k) (sym (length-range_with_len 0 n)) low, get_or-range_with_len 0 n i i low ∙ (let z : 0 + i ≡ i = omega arith in z))

pub was_in_range : (n i : ℕ) → Contains (range_with_len 0 n) i → i < n
was_in_range n i h =
    let low : h.0 < n = subst (λ k. h.0 < k) (length-range_with_len 0 n) h.1 in
    let is : get_or (range_with_len 0 n) h.0 i ≡ 0 + h.0 = get_or-range_with_len 0 n h.0 i low in
    let here : get_or (range_with_len 0 n) h.0 i ≡ i = h.2 in
    omega arith

-- a list of marks as a filter of places
pub marks_are : (f : ℕ → Bool) (k : ℕ) (vs : List Vertex) → ((i : ℕ) → i < length vs → f (k + i) ≡ (get_or vs i unreached_vertex).improved) → marked_from k vs ≡ filter f (range_with_len k (length vs))
marks_are f k [] h = refl
marks_are f k (v ∷ vs) h =
    let here : f k ≡ v.improved = ap f (let z : k ≡ k + 0 = omega arith in z) ∙ h 0 (omega arith) in
    let rest : marked_from (suc k) vs ≡ filter f (range_with_len (suc k) (length vs)) =
    marks_are f (suc k) vs (λ i low. ap f (let z : suc k + i ≡ k + suc i = omega arith in z) ∙ h (suc i) (omega arith)) in
    let next : suc k ≡ k + 1 = omega arith in
    ap (λ b. cond b (k ∷ marked_from (suc k) vs) (marked_from (suc k) vs)) (sym here)
    ∙ ap (λ xs. cond (f k) (k ∷ xs) xs) (rest ∙ ap (λ j. filter f (range_with_len j (length vs))) next)

-- ---- Own vertices by their places

abbrev pub vertex_in : ℕ → ℕ → ℕ → ℕ
vertex_in ranks r p = p * ranks + r

pub own_vertices : (ranks r n : ℕ) (test : ℕ → Bool) → r < ranks → ((v : ℕ) → test v ≡ true → v < n)
    → map (vertex_in ranks r) (filter (λ p. test (vertex_in ranks r p)) (range_with_len 0 (places_for ranks n))) ≡ dealt (λ i. i % ranks) r (filter test (range_with_len 0 n))
own_vertices ranks r n test low inside =
    let h : ℕ → ℕ = vertex_in ranks r in
    let f : ℕ → Bool = λ p. test (vertex_in ranks r p) in
    let places : List ℕ = filter f (range_with_len 0 (places_for ranks n)) in
    let own : ℕ → Bool = λ i. eqb (i % ranks) r in
    let mine : List ℕ = filter test (range_with_len 0 n) in
    rising_same (map h places) (dealt (λ i. i % ranks) r mine)
    (pairs_map (λ k. k ≡ k) Less Less h places (λ k l a b up.
    let step : suc k * ranks ≤ l * ranks = mul-le (suc k) ranks l ranks up (omega arith) in
    let more : suc k * ranks ≡ k * ranks + ranks = grind arith in
    omega arith) (λ k d l. refl) (pairs_filter Less f (range_with_len 0 (places_for ranks n)) (range_up 0 (places_for ranks n))))
    (pairs_filter Less own mine (pairs_filter Less test (range_with_len 0 n) (range_up 0 n)))
    (λ i there.
    let x = found_by (λ y. eqb y i) (map h places) there in
    let same : x.0 ≡ i = eqb-true x.0 i x.2 in
    let p = was_mapped h places x.0 x.1 in
    let passes = was_filtered f (range_with_len 0 (places_for ranks n)) p.0 p.1 in
    let is : h p.0 ≡ i = p.2 ∙ same in
    let yes' : test i ≡ true = ap test (sym is) ∙ passes.1 in
    let rank : i % ranks ≡ r = ap (λ k. k % ranks) (sym is) ∙ mod-mul-add p.0 ranks r low in
    counted (λ y. eqb y i) (dealt (λ i. i % ranks) r mine) i
    (has_filtered own mine i (has_filtered test (range_with_len 0 n) i (in_range_list n i (inside i yes')) yes') (eq-eqb (i % ranks) r rank))
    (eq-eqb i i refl))
    (λ i there.
    let x = found_by (λ y. eqb y i) (dealt (λ i. i % ranks) r mine) there in
    let same : x.0 ≡ i = eqb-true x.0 i x.2 in
    let a = was_filtered own mine x.0 x.1 in
    let b = was_filtered test (range_with_len 0 n) x.0 a.0 in
    let rank : i % ranks ≡ r = ap (λ k. k % ranks) (sym same) ∙ eqb-true (x.0 % ranks) r a.1 in
    let in_it : i < n = subst (λ k. k < n) same (was_in_range n x.0 b.0) in
    let yes' : test i ≡ true = ap test (sym same) ∙ b.1 in
    let back : h (i / ranks) ≡ i = ap (λ k. i / ranks * ranks + k) (sym rank) ∙ div-add-mod' i ranks in
    let place : i / ranks < places_for ranks n = place_below ranks n i (omega arith) in_it in
    counted (λ y. eqb y i) (map h places) i
    (subst (Contains (map h places)) back
    (has_mapped h places (i / ranks) (has_filtered f (range_with_len 0 (places_for ranks n)) (i / ranks) (in_range_list (places_for ranks n) (i / ranks) place) (ap test back ∙ yes'))))
    (eq-eqb i i refl))

-- ---- The edges of a vertex

-- an entry whose weight a rank can add
pub record IsLight (t : Triple) : Type 0 where
  pub plain : t.v ≡ pos (nat_abs t.v)
  pub light : nat_abs t.v ≤ 1_000_000_000_000

abbrev in_all : Triple → Bool
in_all t = in_range 0 (2 ^ 64 - 1) t

own_edge : (ranks r p : ℕ) (t : Triple) → r < ranks → IsLight t → (eqb (row_of ranks t) r && is_kept ranks 0 (2 ^ 64 - 1) p t) ≡ eqb t.i (vertex_in ranks r p)
own_edge ranks r p t low h =
    let word : twos_complement t.v ≡ nat_abs t.v = word_is t.v h.plain in
    let small : nat_abs t.v ≤ 1_000_000_000_000 = h.light in
    elim (cases_eq t.i (vertex_in ranks r p)) [
      | inl same ↦
          let rank : t.i % ranks ≡ r = ap (λ k. k % ranks) same ∙ mod-mul-add p ranks r low in
          let place : t.i / ranks ≡ p = ap (λ k. k / ranks) same ∙ div-mul-add p ranks r low in
          ap₂ (λ b c. b && (c && in_all t)) (eq-eqb (t.i % ranks) r rank) (eq-eqb (t.i / ranks) p place)
          ∙ all_in t word small ∙ sym (eq-eqb t.i (vertex_in ranks r p) same)
      | inr other ↦
          elim (cases_eq (t.i % ranks) r) [
            | inr away ↦ ap (λ b. b && is_kept ranks 0 (2 ^ 64 - 1) p t) (ne_eqb (t.i % ranks) r away) ∙ sym (ne_eqb t.i (vertex_in ranks r p) other)
            | inl rank ↦
                let apart : (t.i / ranks ≡ p) → ⊥ = λ e. other (sym (div-add-mod' t.i ranks) ∙ ap₂ (λ q k. q * ranks + k) e rank) in
                ap₂ (λ b c. b && (c && in_all t)) (eq-eqb (t.i % ranks) r rank) (ne_eqb (t.i / ranks) p apart) ∙ sym (ne_eqb t.i (vertex_in ranks r p) other)
          ]
    ]
  where
    all_in : (t : Triple) → twos_complement t.v ≡ nat_abs t.v → nat_abs t.v ≤ 1_000_000_000_000 → in_all t ≡ true
    all_in t w l = grind (arith, nat_tests)

pub own_edges_are : (ranks r p : ℕ) (cells : List Triple) → r < ranks → All IsLight cells
    → filter (is_kept ranks 0 (2 ^ 64 - 1) p) (dealt (row_of ranks) r cells) ≡ filter (λ t. eqb t.i (vertex_in ranks r p)) cells
own_edges_are ranks r p cells low h =
    filter_filter (is_kept ranks 0 (2 ^ 64 - 1) p) (λ t. eqb (row_of ranks t) r) cells
    ∙ filter_on (λ t. eqb (row_of ranks t) r && is_kept ranks 0 (2 ^ 64 - 1) p t) (λ t. eqb t.i (vertex_in ranks r p)) cells (λ k d l. own_edge ranks r p (get_or cells k d) low (h k d l))

-- what is offered along them
pub offers_are : (ranks : ℕ) (o : Option ℕ) (cells : List Triple) → ((w : ℕ) → o ≡ Some w → w ≤ 2 ^ 60) → All IsLight cells
    → offers_from o (map (edge_of ranks) cells) ≡ vertex_offers ranks o cells
offers_are ranks None cells low h = refl
offers_are ranks (Some w) cells low h =
    map-map (offer w) (edge_of ranks) cells
    ∙ same_map (λ t. offer w (edge_of ranks t)) (λ (t : Triple). (t.j % ranks, record { a = t.j; b = w + nat_abs t.v; c = 0 })) cells
    (λ k d l. ap (λ b. ((get_or cells k d).j % ranks, record { a = (get_or cells k d).j; b = b; c = 0 })) (sum_is (get_or cells k d) w (h k d l).plain (h k d l).light (low w refl)))
