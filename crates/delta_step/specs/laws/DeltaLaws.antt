-- The laws of delta-stepping.
use Rattle.std.proofs.Common.{ℕ, ◌+◌, ◌-◌, ◌*◌, ◌/◌, ◌%◌, ◌^◌, ◌<◌, ◌≤◌, ◌≡◌, ◌≢◌, ◌==◌, ◌&&◌, min, Bool, true, false}
use Rattle.std.proofs.Common.{List, [], ◌∷◌, ◌++◌, Option, Some, None, map, length, get_or, All, arith, refl, sym}
use Rattle.std.proofs.Common.{ap, ◌∙◌, subst, inl, inr, lit<}
use Rattle.std.specs.Prelude.{nat_lt, if◌then◌else◌}
use Rattle.std.specs.List.{list_any, range_with_len}
use Rattle.std.proofs.Math.Nat.{div-le_self, mul-le-mul}
use Rattle.std.proofs.lemmas.Bool.{cases_lt}
use Rattle.std.proofs.lemmas.Bool.Decides.{nat_tests}
use Rattle.std.proofs.lemmas.List.{get_or_past, length-map}
use Rattle.std.proofs.lemmas.List.Elements.{All-nil, All-map, All-append, All-filter}
use Rattle.std.proofs.lemmas.List.FromFn.{get_or-range_with_len, length-range_with_len}
use Rattle.bale_items.specs.declared.Item.{Item}
use Rattle.bale_items.specs.declared.triple.Triple.{Triple}
use Rattle.mtx_text.specs.Cells.{InOrder, with_value_raised}
use Rattle.mtx_text.proofs.Raised.{raised_ordered, raised_comm}
use Rattle.mtx_text.proofs.Gathered.{raised_keeps}
use Rattle.round_program.specs.Laws.{Laws, Fits, SameRound, IsItem}
use Rattle.least_walks.specs.declared.table.Edge.{Edge}
use Rattle.least_walks.specs.declared.vertices.Vertex.{Vertex}
use Rattle.least_walks.specs.Tables.{offers_by_place, offers_at, offers_from, offer}
use Rattle.least_walks.specs.Vertices.{unreached_vertex, improved_at, marked_places, in_bucket, places_where, calm_if, least_marked}
use Rattle.least_walks.proofs.Marks.{marked_count, picked_count, picked_below}
use Rattle.least_walks.proofs.Rows.{table_len}
use Rattle.app_sssp.specs.Sssps.{IsEdge, IsInsideSquare, edge_came}
use Rattle.app_sssp.specs.laws.SsspLaws.{improved_comm, improved_len, greater_inside, table_edges}
use Rattle.delta_step.specs.declared.phase.Phase.{Phase}
use Rattle.delta_step.specs.declared.phase.Phase.TheVariants.{First, Find, Light, Heavy}
use Rattle.delta_step.specs.Deltas.{DeltaState, IsDelta, delta_rules, may_delta, bucket_of, announced_items, ascending}
use Rattle.delta_step.specs.Deltas.{offered_along, absorbed_in, vote_in, finding, sorted_out, after_activation, after_last_round, ended_in}

delta_within : (shape : List ℕ) (ranks round to from : ℕ) (x : Item) → may_delta shape ranks round to from x ≡ true
    → (to < ranks) × (from < ranks) × IsItem x
delta_within [] ranks round to from x h = absurd (cc)
delta_within (rows ∷ []) ranks round to from x h =
    (grind (arith, nat_tests), grind (arith, nat_tests), grind (arith, nat_tests))
delta_within (rows ∷ (c ∷ cs)) ranks round to from x h = absurd (cc)

-- what comes in round 0 is an edge inside the matrix
pub delta_came_inside : (rows ranks round to from : ℕ) (x : Item) → may_delta (rows ∷ []) ranks round to from x ≡ true
    → round ≡ 0 → IsInsideSquare rows (edge_came x)
delta_came_inside rows ranks round to from x h z = record { row = grind (arith, nat_tests); col = grind (arith, nat_tests) }

-- ---- Absorbs commute

pub offered_comm : (s : DeltaState) (x y : Item)
    → offered_along (record s { vertices = offered_along s x }) y ≡ offered_along (record s { vertices = offered_along s y }) x
offered_comm s x y = both (nat_lt x.a s.rows && x.a % s.ranks == s.rank) (nat_lt y.a s.rows && y.a % s.ranks == s.rank)
  where
    both : (a b : Bool)
        → if b then improved_at (y.a / s.ranks) y.b
        (if a then improved_at (x.a / s.ranks) x.b s.vertices else s.vertices)
        else if a then improved_at (x.a / s.ranks) x.b s.vertices else s.vertices
        ≡ (if a then improved_at (x.a / s.ranks) x.b
        (if b then improved_at (y.a / s.ranks) y.b s.vertices else s.vertices)
        else if b then improved_at (y.a / s.ranks) y.b s.vertices else s.vertices)
    both true true = improved_comm (y.a / s.ranks) (x.a / s.ranks) y.b x.b s.vertices
    both true false = refl
    both false true = refl
    both false false = refl

commutes_in : (p : Phase) (s : DeltaState) (x y : Item) → IsDelta s
    → absorbed_in p (absorbed_in p s x) y ≡ absorbed_in p (absorbed_in p s y) x
commutes_in First s x y v =
    ap (λ ts. record s { arriving = ts }) (raised_comm (edge_came y) (edge_came x) s.arriving v.ordered)
commutes_in Find s x y v =
    ap (λ b. record s { bucket = b })
    (let e : min (min s.bucket x.a) y.a ≡ min (min s.bucket y.a) x.a = omega arith in e)
commutes_in Light s x y v = ap (λ vs. record s { vertices = vs }) (offered_comm s x y)
commutes_in Heavy s x y v = ap (λ vs. record s { vertices = vs }) (offered_comm s x y)

phase_stays : (p : Phase) (s : DeltaState) (x : Item) → (absorbed_in p s x).phase ≡ s.phase
phase_stays First s x = refl
phase_stays Find s x = refl
phase_stays Light s x = refl
phase_stays Heavy s x = refl

commutes : (s : DeltaState) (f g : ℕ) (x y : Item) → IsDelta s
    → delta_rules.absorbed (delta_rules.absorbed s f x) g y ≡ delta_rules.absorbed (delta_rules.absorbed s g y) f x
commutes s f g x y v =
    ap (λ p. absorbed_in p (absorbed_in s.phase s x) y) (phase_stays s.phase s x)
    ∙ commutes_in s.phase s x y v
    ∙ sym (ap (λ p. absorbed_in p (absorbed_in s.phase s y) x) (phase_stays s.phase s y))

-- ---- Absorbs keep a state one of the program

pub offered_len : (s : DeltaState) (x : Item) → length (offered_along s x) ≡ length s.vertices
offered_len s x = either (nat_lt x.a s.rows && x.a % s.ranks == s.rank)
  where
    either : (b : Bool)
        → length (if b then improved_at (x.a / s.ranks) x.b s.vertices else s.vertices) ≡ length s.vertices
    either true = improved_len (x.a / s.ranks) x.b s.vertices
    either false = refl

-- vertices of the same number
pub vertices_valid : (s : DeltaState) (vs : List Vertex) → IsDelta s → length vs ≡ length s.vertices
    → IsDelta (record s { vertices = vs })
vertices_valid s vs v e =
    record {
      own = v.own;
      wide = v.wide;
      some = v.some;
      narrow = v.narrow;
      early = v.early;
      arrived = v.arrived;
      ordered = v.ordered;
      light_edges = v.light_edges;
      heavy_edges = v.heavy_edges;
      light_kept = λ d. v.light_kept d ∙ sym e;
      heavy_kept = λ d. v.heavy_kept d ∙ sym e;
      places = e ∙ v.places;
      placed = subst (λ n. All (λ p. p < n) s.settled) (sym e) v.placed;
      fit = v.fit;
    }

pub bucket_valid : (s : DeltaState) (b : ℕ) → IsDelta s → IsDelta (record s { bucket = b })
bucket_valid s b v =
    record {
      own = v.own;
      wide = v.wide;
      some = v.some;
      narrow = v.narrow;
      early = v.early;
      arrived = v.arrived;
      ordered = v.ordered;
      light_edges = v.light_edges;
      heavy_edges = v.heavy_edges;
      light_kept = v.light_kept;
      heavy_kept = v.heavy_kept;
      places = v.places;
      placed = v.placed;
      fit = v.fit;
    }

pub arriving_valid : (s : DeltaState) (ts : List Triple) → IsDelta s → All (IsInsideSquare s.rows) ts → InOrder ts
    → IsDelta (record s { arriving = ts })
arriving_valid s ts v a o =
    record {
      own = v.own;
      wide = v.wide;
      some = v.some;
      narrow = v.narrow;
      early = v.early;
      arrived = a;
      ordered = o;
      light_edges = v.light_edges;
      heavy_edges = v.heavy_edges;
      light_kept = v.light_kept;
      heavy_kept = v.heavy_kept;
      places = v.places;
      placed = v.placed;
      fit = v.fit;
    }

absorbed_valid : (p : Phase) (s : DeltaState) (f : ℕ) (x : Item) → s.phase ≡ p → IsDelta s → Fits delta_rules s f x
    → IsDelta (absorbed_in p s x)
absorbed_valid First s f x e v h =
    arriving_valid s (with_value_raised (edge_came x) s.arriving) v
    (raised_keeps (IsInsideSquare s.rows) (greater_inside s.rows) (edge_came x) s.arriving
    (delta_came_inside s.rows s.ranks s.round s.rank f x h (v.early e)) v.arrived)
    (raised_ordered (edge_came x) s.arriving v.ordered)
absorbed_valid Find s f x e v h = bucket_valid s (min s.bucket x.a) v
absorbed_valid Light s f x e v h = vertices_valid s (offered_along s x) v (offered_len s x)
absorbed_valid Heavy s f x e v h = vertices_valid s (offered_along s x) v (offered_len s x)

keeps_in : (p : Phase) (s : DeltaState) (f : ℕ) (x : Item) → s.phase ≡ p → IsDelta s → Fits delta_rules s f x
    → SameRound delta_rules s (absorbed_in p s x)
keeps_in First s f x e v h =
    record {
      valid = absorbed_valid First s f x e v h;
      rank = refl;
      ranks = refl;
      round = refl;
      shape = refl;
      most = refl;
      emissions = refl;
    }
keeps_in Find s f x e v h =
    record {
      valid = absorbed_valid Find s f x e v h;
      rank = refl;
      ranks = refl;
      round = refl;
      shape = refl;
      most = refl;
      emissions = refl;
    }
keeps_in Light s f x e v h =
    record {
      valid = absorbed_valid Light s f x e v h;
      rank = refl;
      ranks = refl;
      round = refl;
      shape = refl;
      most = refl;
      emissions = refl;
    }
keeps_in Heavy s f x e v h =
    record {
      valid = absorbed_valid Heavy s f x e v h;
      rank = refl;
      ranks = refl;
      round = refl;
      shape = refl;
      most = refl;
      emissions = refl;
    }

-- ---- The end of a round

abbrev Sent : ℕ → ℕ → ℕ → ℕ → ℕ × Item → Type 0
Sent rows ranks round rank e = may_delta (rows ∷ []) ranks round e.0 rank e.1 ≡ true

offer_fits : (rows ranks round rank m : ℕ) (e : Edge) → rank < ranks → rows ≤ 16384 → 0 < round → IsEdge ranks rows e
    → Sent rows ranks round rank (offer m e)
offer_fits rows ranks round rank m e own wide late is =
    let inside : e.to < rows = is.inside in
    let owned : e.owner ≡ e.to % ranks = is.owned in
    grind (arith, nat_tests)

offers_from_fit : (rows ranks round rank : ℕ) (o : Option ℕ) (es : List Edge) → rank < ranks → rows ≤ 16384 → 0 < round
    → All (IsEdge ranks rows) es → All (Sent rows ranks round rank) (offers_from o es)
offers_from_fit rows ranks round rank None es own wide late h = All-nil (Sent rows ranks round rank)
offers_from_fit rows ranks round rank (Some m) es own wide late h =
    All-map (Sent rows ranks round rank) (offer m) es
    (λ k d l. offer_fits rows ranks round rank m (get_or es k d) own wide late (h k d l))

row_at : (P : Edge → Type 0) (table : List (List Edge)) (p : ℕ) → All (All P) table → All P (get_or table p [])
row_at P table p h = elim (cases_lt p (length table)) [
  | inl low ↦ h p [] low
  | inr past ↦ subst (All P) (sym (get_or_past table p [] past)) (All-nil P)
]

pub delta_offers_fit : (rows ranks round rank : ℕ) (table : List (List Edge)) (vs : List Vertex) (places : List ℕ)
    → rank < ranks → rows ≤ 16384 → 0 < round → All (All (IsEdge ranks rows)) table
    → All (Sent rows ranks round rank) (offers_by_place table vs places)
delta_offers_fit rows ranks round rank table vs [] own wide late h = All-nil (Sent rows ranks round rank)
delta_offers_fit rows ranks round rank table vs (p ∷ ps) own wide late h =
    All-append (Sent rows ranks round rank) (offers_at table vs p) (offers_by_place table vs ps)
    (offers_from_fit rows ranks round rank (get_or vs p unreached_vertex).weight (get_or table p []) own wide late
    (row_at (IsEdge ranks rows) table p h))
    (delta_offers_fit rows ranks round rank table vs ps own wide late h)

bucket_word : (width : ℕ) (o : Option ℕ) → bucket_of width o < 2 ^ 64
bucket_word width None = lit< tt
bucket_word width (Some w) = omega arith

pub announced_fit : (rows ranks round rank bucket : ℕ) → rank < ranks → 0 < round → bucket < 2 ^ 64
    → All (Sent rows ranks round rank) (announced_items ranks bucket)
announced_fit rows ranks round rank bucket own late low =
    All-map (Sent rows ranks round rank) (λ d. (d, record { a = bucket; b = 0; c = 0 })) (range_with_len 0 ranks)
    (λ k d l. told (get_or (range_with_len 0 ranks) k d) (rank_low k d l))
  where
    rank_low : (k d : ℕ) → k < length (range_with_len 0 ranks) → get_or (range_with_len 0 ranks) k d < ranks
    rank_low k d l =
        let low_k : k < ranks = subst (λ n. k < n) (length-range_with_len 0 ranks) l in
        let e : get_or (range_with_len 0 ranks) k d ≡ 0 + k = get_or-range_with_len 0 ranks k d low_k in
        omega arith

    told : (to : ℕ) → to < ranks
        → may_delta (rows ∷ []) ranks round to rank (record { a = bucket; b = 0; c = 0 }) ≡ true
    told to l = grind (arith, nat_tests)

pub finding_valid : (s : DeltaState) → IsDelta s → s.phase ≢ First → IsDelta (finding s)
finding_valid s v d =
    record {
      own = v.own;
      wide = v.wide;
      some = v.some;
      narrow = v.narrow;
      early = λ e. absurd (find_first e);
      arrived = v.arrived;
      ordered = v.ordered;
      light_edges = v.light_edges;
      heavy_edges = v.heavy_edges;
      light_kept = λ _. v.light_kept d;
      heavy_kept = λ _. v.heavy_kept d;
      places = v.places;
      placed = All-nil (λ p. p < length s.vertices);
      fit = announced_fit s.rows s.ranks (min (s.round + 1) (2 ^ 64 - 1)) s.rank
          (bucket_of s.width (least_marked s.vertices)) v.own (omega arith)
          (bucket_word s.width (least_marked s.vertices));
    }
  where
    find_first : Find ≡ First → ⊥
    find_first e = cc

-- after the first round
pub sorted_valid : (s : DeltaState) → IsDelta s → IsDelta (finding (sorted_out s))
sorted_valid s v =
    record {
      own = v.own;
      wide = v.wide;
      some = v.some;
      narrow = v.narrow;
      early = λ e. absurd (find_first e);
      arrived = All-nil (IsInsideSquare s.rows);
      ordered = λ i j d l m. absurd (omega arith);
      light_edges = table_edges s.ranks (length s.vertices) 0 s.width s.rows s.arriving v.arrived;
      heavy_edges = table_edges s.ranks (length s.vertices) (s.width + 1) (2 ^ 64 - 1) s.rows s.arriving v.arrived;
      light_kept = λ _. table_len s.ranks (length s.vertices) 0 s.width s.arriving;
      heavy_kept = λ _. table_len s.ranks (length s.vertices) (s.width + 1) (2 ^ 64 - 1) s.arriving;
      places = v.places;
      placed = All-nil (λ p. p < length s.vertices);
      fit = announced_fit s.rows s.ranks (min (s.round + 1) (2 ^ 64 - 1)) s.rank
          (bucket_of s.width (least_marked s.vertices)) v.own (omega arith)
          (bucket_word s.width (least_marked s.vertices));
    }
  where
    find_first : Find ≡ First → ⊥
    find_first e = cc

pub activated_valid : (s : DeltaState) → IsDelta s → s.phase ≢ First → IsDelta (after_activation s)
activated_valid s v d =
    let test : Vertex → Bool = in_bucket s.width s.bucket in
    let len : length (map (calm_if test) s.vertices) ≡ length s.vertices = length-map s.vertices (calm_if test) in
    record {
      own = v.own;
      wide = v.wide;
      some = v.some;
      narrow = v.narrow;
      early = λ e. absurd (light_first e);
      arrived = v.arrived;
      ordered = v.ordered;
      light_edges = v.light_edges;
      heavy_edges = v.heavy_edges;
      light_kept = λ _. v.light_kept d ∙ sym len;
      heavy_kept = λ _. v.heavy_kept d ∙ sym len;
      places = len ∙ v.places;
      placed =
          subst (λ n. All (λ p. p < n) (s.settled ++ places_where test s.vertices)) (sym len)
          (All-append (λ p. p < length s.vertices) s.settled (places_where test s.vertices) v.placed
          (picked_below test s.vertices));
      fit = delta_offers_fit s.rows s.ranks (min (s.round + 1) (2 ^ 64 - 1)) s.rank s.light (map (calm_if test) s.vertices)
          (places_where test s.vertices) v.own v.wide (omega arith) v.light_edges;
    }
  where
    light_first : Light ≡ First → ⊥
    light_first e = cc

pub ascending_below : (n : ℕ) (places : List ℕ) → All (λ p. p < n) (ascending n places)
ascending_below n places =
    All-filter (λ p. list_any (λ q. p == q) places) (λ p. p < n) (range_with_len 0 n) (λ k d l.
    let low_k : k < n = subst (λ m. k < m) (length-range_with_len 0 n) l in
    let e : get_or (range_with_len 0 n) k d ≡ 0 + k = get_or-range_with_len 0 n k d low_k in
    omega arith)

pub finished_valid : (s : DeltaState) → IsDelta s → s.phase ≢ First → IsDelta (after_last_round s)
finished_valid s v d =
    record {
      own = v.own;
      wide = v.wide;
      some = v.some;
      narrow = v.narrow;
      early = λ e. absurd (heavy_first e);
      arrived = v.arrived;
      ordered = v.ordered;
      light_edges = v.light_edges;
      heavy_edges = v.heavy_edges;
      light_kept = λ _. v.light_kept d;
      heavy_kept = λ _. v.heavy_kept d;
      places = v.places;
      placed = ascending_below (length s.vertices) s.settled;
      fit = delta_offers_fit s.rows s.ranks (min (s.round + 1) (2 ^ 64 - 1)) s.rank s.heavy s.vertices
          (ascending (length s.vertices) s.settled) v.own v.wide (omega arith) v.heavy_edges;
    }
  where
    heavy_first : Heavy ≡ First → ⊥
    heavy_first e = cc

either_valid : (b : Bool) (s : DeltaState) → IsDelta s → s.phase ≢ First
    → IsDelta (if b then after_activation s else after_last_round s)
either_valid true s v d = activated_valid s v d
either_valid false s v d = finished_valid s v d

pub delta_ended_valid : (p : Phase) (s : DeltaState) (votes : ℕ) → s.phase ≡ p → IsDelta s → IsDelta (ended_in p s votes)
delta_ended_valid First s votes e v = sorted_valid s v
delta_ended_valid Find s votes e v = activated_valid s v (λ f. not_first (sym e ∙ f))
  where
    not_first : Find ≡ First → ⊥
    not_first e = cc
delta_ended_valid Light s votes e v = either_valid (nat_lt s.ranks votes) s v (λ f. not_first (sym e ∙ f))
  where
    not_first : Light ≡ First → ⊥
    not_first e = cc
delta_ended_valid Heavy s votes e v = finding_valid s v (λ f. not_first (sym e ∙ f))
  where
    not_first : Heavy ≡ First → ⊥
    not_first e = cc

-- rank, ranks, round, shape and most after the end of a round
record Next (s t : DeltaState) : Type 0 where
  pub rank : t.rank ≡ s.rank
  pub ranks : t.ranks ≡ s.ranks
  pub round : t.round ≡ min (s.round + 1) (2 ^ 64 - 1)
  pub rows : t.rows ≡ s.rows

ended_next : (p : Phase) (s : DeltaState) (votes : ℕ) → Next s (ended_in p s votes)
ended_next First s votes = record { rank = refl; ranks = refl; round = refl; rows = refl }
ended_next Find s votes = record { rank = refl; ranks = refl; round = refl; rows = refl }
ended_next Light s votes = either (nat_lt s.ranks votes)
  where
    either : (b : Bool) → Next s (if b then after_activation s else after_last_round s)
    either true = record { rank = refl; ranks = refl; round = refl; rows = refl }
    either false = record { rank = refl; ranks = refl; round = refl; rows = refl }
ended_next Heavy s votes = record { rank = refl; ranks = refl; round = refl; rows = refl }

few_votes : (p : Phase) (s : DeltaState) → IsDelta s → vote_in p s < 2 ^ 32
few_votes p s v = in_phase p
  where
    few : length s.vertices ≤ 16385
    few =
        let places : length s.vertices ≡ s.rows / s.ranks + 1 = v.places in
        let wide : s.rows ≤ 16384 = v.wide in
        let part : s.rows / s.ranks ≤ s.rows = div-le_self s.rows s.ranks in
        omega arith

    in_phase : (p : Phase) → vote_in p s < 2 ^ 32
    in_phase First = lit< tt
    in_phase Find =
        (let count : length (marked_places s.vertices) ≤ length s.vertices =
        marked_count 0 s.vertices in let f : length s.vertices ≤ 16385 = few in omega arith)
    in_phase Light =
        (let count : length (places_where (in_bucket s.width s.bucket) s.vertices) ≤ length s.vertices =
        picked_count (in_bucket s.width s.bucket) 0 s.vertices in let f : length s.vertices ≤ 16385 =
        few in omega arith)
    in_phase Heavy = lit< tt

pub delta_laws : Laws delta_rules
delta_laws =
    record {
      emits = λ s v. v.fit;
      commutes = λ s f g x y v d e h. commutes s f g x y v;
      keeps = λ s f x v e. keeps_in s.phase s f x refl v e;
      vote_below = λ s v. few_votes s.phase s v;
      next = λ s votes v l. (let n : Next s (ended_in s.phase s votes) = ended_next s.phase s votes in
          record {
            valid = delta_ended_valid s.phase s votes refl v;
            rank = n.rank;
            ranks = n.ranks;
            round = n.round;
            shape = ap (λ k. k ∷ []) n.rows;
            most = ap (λ k. k * (k + 2) + 2) n.rows;
          });
      within = delta_within;
      most_below = λ s v. most_low s.rows v.wide;
    }
  where
    most_low : (rows : ℕ) → rows ≤ 16384 → rows * (rows + 2) + 2 < 2 ^ 62
    most_low rows l =
        let square : rows * (rows + 2) ≤ 16384 * 16386 = mul-le-mul l (let k : rows + 2 ≤ 16386 = omega arith in k) in
        omega arith
