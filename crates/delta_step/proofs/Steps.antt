-- What a step of the code leaves, where a rank is one of delta-stepping.
use Rattle.std.proofs.Common.{ℕ, ◌+◌, ◌/◌, ◌<◌, ◌≤◌, ◌≡◌, ◌≢◌, ◌++◌, [], Bool, List, map, length, get_or, All, arith, sym, ap, ◌∙◌, subst}
use Rattle.std.proofs.Math.Nat.{div-le_self}
use Rattle.std.proofs.lemmas.List.{length-map}
use Rattle.std.proofs.lemmas.List.Elements.{All-nil, All-append}
use Rattle.bale_items.specs.declared.triple.Triple.{Triple}
use Rattle.mtx_text.specs.Cells.{InOrder, with_value_raised}
use Rattle.mtx_text.proofs.Raised.{raised_ordered}
use Rattle.mtx_text.proofs.Gathered.{raised_keeps}
use Rattle.sparse_rows.proofs.Places.{place_below}
use Rattle.bale_items.specs.declared.Item.{Item}
use Rattle.least_walks.specs.Tables.{offers_by_place}
use Rattle.least_walks.specs.declared.table.Edge.{Edge}
use Rattle.least_walks.specs.declared.vertices.Vertex.{Vertex}
use Rattle.least_walks.specs.Vertices.{in_bucket, places_where, calm_if, least_marked}
use Rattle.least_walks.proofs.Marks.{picked_below, picked_count}
use Rattle.app_sssp.specs.Sssps.{IsInsideSquare}
use Rattle.app_sssp.specs.laws.SsspLaws.{greater_inside}
use Rattle.delta_step.specs.declared.phase.Phase.TheVariants.{First, Find, Light, Heavy}
use Rattle.delta_step.specs.Deltas.{DeltaState, IsDelta, no_bucket, bucket_of, announced_items, next_round, ascending, finding, sorted_out, after_activation, after_last_round}
use Rattle.delta_step.specs.laws.DeltaLaws.{vertices_valid, arriving_valid, ascending_below, finding_valid, sorted_valid, activated_valid, finished_valid}

-- an edge came
pub came_valid : (s : DeltaState) (t : Triple) (new : List Triple) → IsDelta s → t.i < s.rows → t.j < s.rows → new ≡ with_value_raised t s.arriving → IsDelta (record s { arriving = new })
came_valid s t new v row col is =
    arriving_valid s new v
    (subst (All (IsInsideSquare s.rows)) (sym is) (raised_keeps (IsInsideSquare s.rows) (greater_inside s.rows) t s.arriving (record { row = row; col = col }) v.arrived))
    (subst InOrder (sym is) (raised_ordered t s.arriving v.ordered))

-- edges were lost for want of memory
pub lost_valid : (s : DeltaState) (new : List Triple) → IsDelta s → new ≡ [] → IsDelta (record s { arriving = new })
lost_valid s new v is =
    arriving_valid s new v (subst (All (IsInsideSquare s.rows)) (sym is) (All-nil (IsInsideSquare s.rows))) (subst InOrder (sym is) (λ i j d l m. absurd (omega arith)))

-- there are few vertices
pub vertices_few : (s : DeltaState) → IsDelta s → length s.vertices ≤ 16385
vertices_few s v =
    let places : length s.vertices ≡ s.rows / s.ranks + 1 = v.places in
    let wide : s.rows ≤ 16384 = v.wide in
    let part : s.rows / s.ranks ≤ s.rows = div-le_self s.rows s.ranks in
    omega arith

pub votes_few : (s : DeltaState) (n : ℕ) → IsDelta s → n ≡ length (places_where (in_bucket s.width s.bucket) s.vertices) → n ≤ 16385
votes_few s n v e =
    let count : length (places_where (in_bucket s.width s.bucket) s.vertices) ≤ length s.vertices = picked_count (in_bucket s.width s.bucket) 0 s.vertices in
    let few : length s.vertices ≤ 16385 = vertices_few s v in
    omega arith

-- what came has a place
pub arriving_placed : (s : DeltaState) (n : ℕ) (ts : List Triple) → IsDelta s → ts ≡ s.arriving → n ≡ length s.vertices → All (λ (t : Triple). t.i / s.ranks < n) ts
arriving_placed s n ts v e is =
    let own : s.rank < s.ranks = v.own in
    subst (All (λ (t : Triple). t.i / s.ranks < n)) (sym e) (λ k d l.
    subst (λ m. (get_or s.arriving k d).i / s.ranks < m) (sym (is ∙ v.places)) (place_below s.ranks s.rows (get_or s.arriving k d).i (omega arith) (v.arrived k d l).row))

-- active vertices have edges and weights at places of their own
pub active_in : (s : DeltaState) (places : List ℕ) (n : ℕ) → places ≡ places_where (in_bucket s.width s.bucket) s.vertices → n ≡ length s.vertices → All (λ p. p < n) places
active_in s places n e is =
    subst (All (λ p. p < n)) (sym e) (subst (λ k. All (λ p. p < k) (places_where (in_bucket s.width s.bucket) s.vertices)) (sym is) (picked_below (in_bucket s.width s.bucket) s.vertices))

pub settled_in : (s : DeltaState) (places : List ℕ) (n : ℕ) → places ≡ ascending (length s.vertices) s.settled → n ≡ length s.vertices → All (λ p. p < n) places
settled_in s places n e is =
    subst (All (λ p. p < n)) (sym e) (subst (λ k. All (λ p. p < k) (ascending (length s.vertices) s.settled)) (sym is) (ascending_below (length s.vertices) s.settled))

pub map_len : (s : DeltaState) (vs : List Vertex) → vs ≡ map (calm_if (in_bucket s.width s.bucket)) s.vertices → length vs ≡ length s.vertices
map_len s vs e = ap length e ∙ length-map s.vertices (calm_if (in_bucket s.width s.bucket))

-- vertices were taken from the bucket, and then there was no memory
pub taken_valid : (s : DeltaState) (vs : List Vertex) → IsDelta s → vs ≡ map (calm_if (in_bucket s.width s.bucket)) s.vertices → IsDelta (record s { vertices = vs })
taken_valid s vs v e = vertices_valid s vs v (map_len s vs e)

pub settled_valid : (s : DeltaState) (settled : List ℕ) → IsDelta s → All (λ p. p < length s.vertices) settled → IsDelta (record s { settled = settled })
settled_valid s settled v p =
    record {
      own = v.own;
      wide = v.wide;
      some = v.some;
      narrow = v.narrow;
      early = v.early;
      arrived = v.arrived;
      ordered = v.ordered;
      light_edges = v.light_edges;
      heavy_edges = v.heavy_edges;
      light_kept = v.light_kept;
      heavy_kept = v.heavy_kept;
      places = v.places;
      placed = p;
      fit = v.fit;
    }

-- the same with the active ones settled
pub taken_settled : (s : DeltaState) (vs : List Vertex) (settled active : List ℕ) → IsDelta s → vs ≡ map (calm_if (in_bucket s.width s.bucket)) s.vertices
    → active ≡ places_where (in_bucket s.width s.bucket) s.vertices → settled ≡ s.settled ++ active → IsDelta (record s { vertices = vs; settled = settled })
taken_settled s vs settled active v e a b =
    settled_valid (record s { vertices = vs }) settled (taken_valid s vs v e)
    (subst (λ n. All (λ p. p < n) settled) (sym (map_len s vs e))
    (subst (All (λ p. p < length s.vertices)) (sym (b ∙ ap (λ ps. s.settled ++ ps) a))
    (All-append (λ p. p < length s.vertices) s.settled (places_where (in_bucket s.width s.bucket) s.vertices) v.placed (picked_below (in_bucket s.width s.bucket) s.vertices))))

-- ---- States after a round, from their fields

pub activated_from : (s : DeltaState) (round : ℕ) (vs : List Vertex) (settled active : List ℕ) (outgoing : List (ℕ × Item)) → IsDelta s → s.phase ≢ First
    → round ≡ next_round s → vs ≡ map (calm_if (in_bucket s.width s.bucket)) s.vertices → active ≡ places_where (in_bucket s.width s.bucket) s.vertices → settled ≡ s.settled ++ active → outgoing ≡ offers_by_place s.light vs active
    → IsDelta (record s { round = round; phase = Light; vertices = vs; settled = settled; outgoing = outgoing })
activated_from s round vs settled active outgoing v d r w a t o =
    let test : Vertex → Bool = in_bucket s.width s.bucket in
    let is : record s { round = round; phase = Light; vertices = vs; settled = settled; outgoing = outgoing } ≡ after_activation s =
    ap (λ n. record s { round = n; phase = Light; vertices = vs; settled = settled; outgoing = outgoing }) r
    ∙ ap (λ es. record (after_activation s) { vertices = vs; settled = settled; outgoing = es }) (o ∙ ap (λ ws. offers_by_place s.light ws active) w ∙ ap (offers_by_place s.light (map (calm_if test) s.vertices)) a)
    ∙ ap (λ ps. record (after_activation s) { vertices = vs; settled = ps }) (t ∙ ap (λ ps. s.settled ++ ps) a)
    ∙ ap (λ ws. record (after_activation s) { vertices = ws }) w in
    subst IsDelta (sym is) (activated_valid s v d)

pub finished_from : (s : DeltaState) (round : ℕ) (settled : List ℕ) (outgoing : List (ℕ × Item)) → IsDelta s → s.phase ≢ First
    → round ≡ next_round s → settled ≡ ascending (length s.vertices) s.settled → outgoing ≡ offers_by_place s.heavy s.vertices settled
    → IsDelta (record s { round = round; phase = Heavy; settled = settled; outgoing = outgoing })
finished_from s round settled outgoing v d r t o =
    let is : record s { round = round; phase = Heavy; settled = settled; outgoing = outgoing } ≡ after_last_round s =
    ap (λ n. record s { round = n; phase = Heavy; settled = settled; outgoing = outgoing }) r
    ∙ ap (λ es. record (after_last_round s) { settled = settled; outgoing = es }) (o ∙ ap (offers_by_place s.heavy s.vertices) t)
    ∙ ap (λ ps. record (after_last_round s) { settled = ps }) t in
    subst IsDelta (sym is) (finished_valid s v d)

pub finding_from : (s : DeltaState) (round bucket : ℕ) (vs : List Vertex) (settled : List ℕ) (outgoing : List (ℕ × Item)) → IsDelta s → s.phase ≢ First
    → round ≡ next_round s → vs ≡ s.vertices → bucket ≡ no_bucket → settled ≡ [] → outgoing ≡ announced_items s.ranks (bucket_of s.width (least_marked s.vertices))
    → IsDelta (record s { round = round; phase = Find; vertices = vs; bucket = bucket; settled = settled; outgoing = outgoing })
finding_from s round bucket vs settled outgoing v d r w b t o =
    let is : record s { round = round; phase = Find; vertices = vs; bucket = bucket; settled = settled; outgoing = outgoing } ≡ finding s =
    ap (λ n. record s { round = n; phase = Find; vertices = vs; bucket = bucket; settled = settled; outgoing = outgoing }) r
    ∙ ap (λ es. record (finding s) { vertices = vs; bucket = bucket; settled = settled; outgoing = es }) o
    ∙ ap (λ ps. record (finding s) { vertices = vs; bucket = bucket; settled = ps }) t
    ∙ ap (λ k. record (finding s) { vertices = vs; bucket = k }) b
    ∙ ap (λ ws. record (finding s) { vertices = ws }) w in
    subst IsDelta (sym is) (finding_valid s v d)

pub sorted_is : (s : DeltaState) (round bucket : ℕ) (arriving : List Triple) (light heavy : List (List Edge)) (vs : List Vertex) (settled : List ℕ) (outgoing : List (ℕ × Item))
    → round ≡ next_round s → arriving ≡ [] → light ≡ (sorted_out s).light → heavy ≡ (sorted_out s).heavy → vs ≡ s.vertices → bucket ≡ no_bucket → settled ≡ [] → outgoing ≡ announced_items s.ranks (bucket_of s.width (least_marked s.vertices))
    → record s { round = round; phase = Find; arriving = arriving; light = light; heavy = heavy; vertices = vs; bucket = bucket; settled = settled; outgoing = outgoing } ≡ finding (sorted_out s)
sorted_is s round bucket arriving light heavy vs settled outgoing r a l h w b t o =
    let end : DeltaState = finding (sorted_out s) in
    ap (λ n. record s { round = n; phase = Find; arriving = arriving; light = light; heavy = heavy; vertices = vs; bucket = bucket; settled = settled; outgoing = outgoing }) r
    ∙ ap (λ es. record end { arriving = arriving; light = light; heavy = heavy; vertices = vs; bucket = bucket; settled = settled; outgoing = es }) o
    ∙ ap (λ ts. record end { arriving = ts; light = light; heavy = heavy; vertices = vs; bucket = bucket; settled = settled }) a
    ∙ ap (λ rows. record end { light = rows; heavy = heavy; vertices = vs; bucket = bucket; settled = settled }) l
    ∙ ap (λ rows. record end { heavy = rows; vertices = vs; bucket = bucket; settled = settled }) h
    ∙ ap (λ ps. record end { vertices = vs; bucket = bucket; settled = ps }) t
    ∙ ap (λ k. record end { vertices = vs; bucket = k }) b
    ∙ ap (λ ws. record end { vertices = ws }) w

pub sorted_from : (s : DeltaState) (round bucket : ℕ) (arriving : List Triple) (light heavy : List (List Edge)) (vs : List Vertex) (settled : List ℕ) (outgoing : List (ℕ × Item)) → IsDelta s
    → round ≡ next_round s → arriving ≡ [] → light ≡ (sorted_out s).light → heavy ≡ (sorted_out s).heavy → vs ≡ s.vertices → bucket ≡ no_bucket → settled ≡ [] → outgoing ≡ announced_items s.ranks (bucket_of s.width (least_marked s.vertices))
    → IsDelta (record s { round = round; phase = Find; arriving = arriving; light = light; heavy = heavy; vertices = vs; bucket = bucket; settled = settled; outgoing = outgoing })
sorted_from s round bucket arriving light heavy vs settled outgoing v r a l h w b t o =
    subst IsDelta (sym (sorted_is s round bucket arriving light heavy vs settled outgoing r a l h w b t o)) (sorted_valid s v)
