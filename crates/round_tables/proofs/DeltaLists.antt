-- What a rank of delta-stepping sends, from its places, is what is said of its vertices.
use Rattle.std.proofs.Common.{◌≡◌, ℕ, ◌+◌, ◌-◌, ◌*◌, ◌/◌, ◌%◌, ◌<◌, ◌≤◌, ◌^◌, ◌&&◌, not, Bool, true, false, eqb, List, [], ◌∷◌, Option, Some, All, map, length, get_or, arith, inl, inr, refl, sym, ap, ap₂, ◌∙◌}
use Rattle.std.specs.Prelude.{nat_abs, nat_le, Contains}
use Rattle.std.specs.List.{filter, flat_map, fold, list_any, range_with_len}
use Rattle.std.proofs.lemmas.Bool.{cases_Bool, cases_eq, cases_lt, eq-eqb, ne_eqb, le-leb, leb-true, or_left, or_right, or_cases, false≢true}
use Rattle.std.proofs.lemmas.List.Elements.{All-filter}
use Rattle.std.proofs.lemmas.List.{get_or_default}
use Rattle.std.proofs.lemmas.List.FromFn.{get_or-map-range_with_len}
use Rattle.std.proofs.lemmas.List.Folds.{flat_map-map}
use Rattle.std.proofs.lemmas.Nat.{div-add-mod', div-mul-add, mod-mul-add}
use Rattle.bale_items.specs.declared.triple.Triple.{Triple}
use Rattle.bale_items.specs.Bits.{twos_complement}
use Rattle.sparse_rows.specs.Deals.{dealt}
use Rattle.sparse_rows.specs.Owners.{places_for}
use Rattle.sparse_rows.proofs.Deals.{filter_filter}
use Rattle.sparse_rows.proofs.Gathering.{row_of}
use Rattle.least_walks.specs.declared.vertices.Vertex.{Vertex}
use Rattle.least_walks.specs.Tables.{edge_of, in_range, is_kept, edges_at, table_of, offers_at, offers_from, offers_by_place}
use Rattle.least_walks.specs.Vertices.{unreached_vertex}
use Rattle.least_walks.proofs.Members.{none_in, has_cases}
use Rattle.app_sssp.proofs.Stages.{word_is}
use Rattle.round_tables.specs.Sssp.{vertex_offers}
use Rattle.round_tables.specs.Delta.{is_light}
use Rattle.round_tables.proofs.SsspLists.{filter_on, flat_on, was_in_range, vertex_in, own_vertices, IsLight, offers_are}

-- ---- Tests over lists

pub any_there : (p : ℕ → Bool) (xs : List ℕ) (v : ℕ) → Contains xs v → p v ≡ true → list_any p xs ≡ true
any_there p [] v h is = absurd (none_in v h)
any_there p (x ∷ xs) v h is =
    elim (has_cases x v xs h) [
      | inl same ↦ or_left (p x) (list_any p xs) (ap p same ∙ is)
      | inr later ↦ or_right (p x) (list_any p xs) (any_there p xs v later is)
    ]

pub there_any : (p : ℕ → Bool) (xs : List ℕ) → list_any p xs ≡ true → (v : ℕ) × (p v ≡ true)
there_any p [] h = absurd (false≢true h)
there_any p (x ∷ xs) h =
    elim (or_cases (p x) (list_any p xs) h) [
      | inl here ↦ (x, here)
      | inr later ↦ there_any p xs later
    ]

-- ---- Folds

pub fold_map : {X Y Z : Type 0} (f : Z → Y → Z) (h : X → Y) (z : Z) (xs : List X) → fold f z (map h xs) ≡ fold (λ w x. f w (h x)) z xs
fold_map f h z [] = refl
fold_map f h z (x ∷ xs) = fold_map f h (f z (h x)) xs

pub fold_on : {X Z : Type 0} (f g : Z → X → Z) (z : Z) (xs : List X) → ((w : Z) (x : X) → f w x ≡ g w x) → fold f z xs ≡ fold g z xs
fold_on f g z [] h = refl
fold_on f g z (x ∷ xs) h = ap (λ w. fold f w xs) (h z x) ∙ fold_on f g (g z x) xs h

-- ---- The edges of a vertex that pass a test

pub wanted_edges : (ranks r p low high : ℕ) (wanted : Triple → Bool) (cells : List Triple) → r < ranks → All (λ t. in_range low high t ≡ wanted t) cells
    → filter (is_kept ranks low high p) (dealt (row_of ranks) r cells) ≡ filter (λ t. eqb t.i (vertex_in ranks r p) && wanted t) cells
wanted_edges ranks r p low high wanted cells small same =
    filter_filter (is_kept ranks low high p) (λ t. eqb (row_of ranks t) r) cells
    ∙ filter_on (λ t. eqb (row_of ranks t) r && is_kept ranks low high p t) (λ t. eqb t.i (vertex_in ranks r p) && wanted t) cells (λ k d l. one (get_or cells k d) (same k d l))
  where
    one : (t : Triple) → in_range low high t ≡ wanted t → (eqb (row_of ranks t) r && is_kept ranks low high p t) ≡ (eqb t.i (vertex_in ranks r p) && wanted t)
    one t s =
        elim (cases_eq t.i (vertex_in ranks r p)) [
          | inl same ↦
              let rank : t.i % ranks ≡ r = ap (λ k. k % ranks) same ∙ mod-mul-add p ranks r small in
              let place : t.i / ranks ≡ p = ap (λ k. k / ranks) same ∙ div-mul-add p ranks r small in
              ap₂ (λ b c. b && (c && in_range low high t)) (eq-eqb (t.i % ranks) r rank) (eq-eqb (t.i / ranks) p place)
              ∙ s ∙ sym (ap (λ b. b && wanted t) (eq-eqb t.i (vertex_in ranks r p) same))
          | inr other ↦
              elim (cases_eq (t.i % ranks) r) [
                | inr away ↦ ap (λ b. b && is_kept ranks low high p t) (ne_eqb (t.i % ranks) r away) ∙ sym (ap (λ b. b && wanted t) (ne_eqb t.i (vertex_in ranks r p) other))
                | inl rank ↦
                    let apart : (t.i / ranks ≡ p) → ⊥ = λ e. other (sym (div-add-mod' t.i ranks) ∙ ap₂ (λ q k. q * ranks + k) e rank) in
                    ap₂ (λ b c. b && (c && in_range low high t)) (eq-eqb (t.i % ranks) r rank) (ne_eqb (t.i / ranks) p apart) ∙ sym (ap (λ b. b && wanted t) (ne_eqb t.i (vertex_in ranks r p) other))
              ]
        ]

-- ---- Offers by places and by vertices

pub offers_by_vertex : (ranks r rows low high : ℕ) (cells : List Triple) (vs : List Vertex) (places : List ℕ) (found : ℕ → Option ℕ) (test : ℕ → Bool) (wanted : Triple → Bool) → r < ranks
    → All IsLight cells → All (λ t. in_range low high t ≡ wanted t) cells
    → ((p : ℕ) → (get_or vs p unreached_vertex).weight ≡ found (vertex_in ranks r p)) → ((v w : ℕ) → found v ≡ Some w → w ≤ 2 ^ 60)
    → places ≡ filter (λ p. test (vertex_in ranks r p)) (range_with_len 0 (places_for ranks rows)) → ((v : ℕ) → test v ≡ true → v < rows)
    → offers_by_place (table_of ranks (places_for ranks rows) low high (dealt (row_of ranks) r cells)) vs places
    ≡ flat_map (λ i. vertex_offers ranks (found i) (filter (λ t. eqb t.i i && wanted t) cells)) (dealt (λ i. i % ranks) r (filter test (range_with_len 0 rows)))
offers_by_vertex ranks r rows low high cells vs places found test wanted small light same weights few is inside =
    ap (offers_by_place (table_of ranks (places_for ranks rows) low high (dealt (row_of ranks) r cells)) vs) is
    ∙ flat_on (offers_at (table_of ranks (places_for ranks rows) low high (dealt (row_of ranks) r cells)) vs) (λ p. vertex_offers ranks (found (vertex_in ranks r p)) (filter (λ t. eqb t.i (vertex_in ranks r p) && wanted t) cells)) (filter (λ p. test (vertex_in ranks r p)) (range_with_len 0 (places_for ranks rows))) (All-filter (λ p. test (vertex_in ranks r p)) (λ p. offers_at (table_of ranks (places_for ranks rows) low high (dealt (row_of ranks) r cells)) vs p ≡ vertex_offers ranks (found (vertex_in ranks r p)) (filter (λ t. eqb t.i (vertex_in ranks r p) && wanted t) cells)) (range_with_len 0 (places_for ranks rows)) (λ k d l. one (get_or (range_with_len 0 (places_for ranks rows)) k d) (below k d l)))
    ∙ sym (flat_map-map (λ i. vertex_offers ranks (found i) (filter (λ t. eqb t.i i && wanted t) cells)) (vertex_in ranks r) (filter (λ p. test (vertex_in ranks r p)) (range_with_len 0 (places_for ranks rows))))
    ∙ ap (flat_map (λ i. vertex_offers ranks (found i) (filter (λ t. eqb t.i i && wanted t) cells))) (own_vertices ranks r rows test small inside)
  where
    below : (k d : ℕ) → k < length (range_with_len 0 (places_for ranks rows)) → get_or (range_with_len 0 (places_for ranks rows)) k d < places_for ranks rows
    below k d l = was_in_range (places_for ranks rows) (get_or (range_with_len 0 (places_for ranks rows)) k d) (k, l, get_or_default (range_with_len 0 (places_for ranks rows)) k (get_or (range_with_len 0 (places_for ranks rows)) k d) d l)

    one : (p : ℕ) → p < places_for ranks rows → offers_at (table_of ranks (places_for ranks rows) low high (dealt (row_of ranks) r cells)) vs p ≡ vertex_offers ranks (found (vertex_in ranks r p)) (filter (λ t. eqb t.i (vertex_in ranks r p) && wanted t) cells)
    one p room =
        ap₂ (λ (o : Option ℕ) es. offers_from o es) (weights p)
        (get_or-map-range_with_len (edges_at ranks low high (dealt (row_of ranks) r cells)) 0 (places_for ranks rows) p p [] room (omega arith)
        ∙ ap (map (edge_of ranks)) (wanted_edges ranks r p low high wanted cells small same))
        ∙ offers_are ranks (found (vertex_in ranks r p)) (filter (λ t. eqb t.i (vertex_in ranks r p) && wanted t) cells) (few (vertex_in ranks r p))
        (All-filter (λ t. eqb t.i (vertex_in ranks r p) && wanted t) IsLight cells light)

-- ---- Which edges are light

pub light_range : (width : ℕ) (t : Triple) → IsLight t → in_range 0 width t ≡ is_light width t
light_range width t h = ap (λ b. b && nat_le (twos_complement t.v) width) (le-leb 0 (twos_complement t.v) (omega arith)) ∙ ap (λ k. nat_le k width) (word_is t.v h.plain)

pub heavy_range : (width : ℕ) (t : Triple) → IsLight t → in_range (width + 1) (2 ^ 64 - 1) t ≡ not (is_light width t)
heavy_range width t h =
    let word : twos_complement t.v ≡ nat_abs t.v = word_is t.v h.plain in
    let few : nat_abs t.v ≤ 1_000_000_000_000 = h.light in
    ap (λ b. nat_le (width + 1) (twos_complement t.v) && b) (le-leb (twos_complement t.v) (2 ^ 64 - 1) (omega arith))
    ∙ always (nat_le (width + 1) (twos_complement t.v)) ∙ ap (nat_le (width + 1)) word ∙ other (nat_abs t.v) width
  where
    always : (b : Bool) → (b && true) ≡ b
    always true = refl
    always false = refl

    not_le : (a b : ℕ) → b < a → nat_le a b ≡ false
    not_le a b l = elim (cases_Bool (nat_le a b)) [ inl t ↦ (let k : a ≤ b = leb-true a b t in absurd (omega arith)) | inr f ↦ f ]

    other : (c width : ℕ) → nat_le (width + 1) c ≡ not (nat_le c width)
    other c width =
        elim (cases_lt width c) [
          | inl l ↦ le-leb (width + 1) c (omega arith) ∙ sym (ap not (not_le c width l))
          | inr m ↦ not_le (width + 1) c (omega arith) ∙ sym (ap not (le-leb c width m))
        ]
