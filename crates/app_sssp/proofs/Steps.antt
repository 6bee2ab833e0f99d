-- What a step of the code leaves, where a rank is one of sssp.
use Rattle.std.proofs.Common.{ℕ, min, ◌/◌, ◌+◌, ◌-◌, ◌^◌, ◌<◌, ◌≤◌, ◌≡◌, ◌==◌, [], cond, All, List, map, length, get_or, arith, sym, ap, ◌∙◌, subst}
use Rattle.std.proofs.lemmas.Bool.Decides.{nat_tests}
use Rattle.std.proofs.lemmas.List.{length-map}
use Rattle.std.proofs.lemmas.List.Elements.{All-nil}
use Rattle.bale_items.specs.declared.Item.{Item}
use Rattle.bale_items.specs.declared.triple.Triple.{Triple}
use Rattle.mtx_text.specs.Cells.{InOrder, with_value_raised}
use Rattle.mtx_text.proofs.Raised.{raised_ordered}
use Rattle.mtx_text.proofs.Gathered.{raised_keeps}
use Rattle.round_program.specs.Laws.{Fits}
use Rattle.sparse_rows.proofs.Places.{place_below}
use Rattle.least_walks.specs.declared.table.Edge.{Edge}
use Rattle.least_walks.specs.declared.vertices.Vertex.{Vertex}
use Rattle.least_walks.specs.Tables.{offers_by_place}
use Rattle.least_walks.specs.Vertices.{marked_places, calm}
use Rattle.least_walks.proofs.Marks.{marked_below}
use Rattle.app_sssp.specs.Sssps.{SsspState, IsSssp, IsInsideSquare, sssp_rules, table_after}
use Rattle.app_sssp.specs.laws.SsspLaws.{greater_inside, table_after_len, sssp_ended_valid}

-- what fits names a vertex that has a place here
pub vertex_place : (s : SsspState) (f : ℕ) (x : Item) → IsSssp s → Fits sssp_rules s f x → (x.a < 2 ^ 32) × (x.a / s.ranks < length s.vertices)
vertex_place s f x v e =
    let low : x.a < s.rows = grind (arith, nat_tests) in
    let own : s.rank < s.ranks = v.own in
    let wide : s.rows ≤ 16384 = v.wide in
    (omega arith, subst (λ n. x.a / s.ranks < n) (sym v.places) (place_below s.ranks s.rows x.a (omega arith) low))

-- an edge came
pub came_valid : (s : SsspState) (f : ℕ) (x : Item) (t : Triple) (new : List Triple) → IsSssp s → Fits sssp_rules s f x → s.round ≡ 0 → t.i ≡ x.a → t.j ≡ x.b → new ≡ with_value_raised t s.arriving → IsSssp (record s { arriving = new })
came_valid s f x t new v e z i j is =
    let row : x.a < s.rows = grind (arith, nat_tests) in
    let col : x.b < s.rows = grind (arith, nat_tests) in
    record {
      own = v.own;
      wide = v.wide;
      arrived = subst (All (IsInsideSquare s.rows)) (sym is) (raised_keeps (IsInsideSquare s.rows) (greater_inside s.rows) t s.arriving (record { row = omega arith; col = omega arith }) v.arrived);
      ordered = subst InOrder (sym is) (raised_ordered t s.arriving v.ordered);
      edges = v.edges;
      rows_kept = v.rows_kept;
      places = v.places;
      fit = v.fit;
    }

pub same_valid : (s : SsspState) (new : List Triple) → IsSssp s → new ≡ s.arriving → IsSssp (record s { arriving = new })
same_valid s new v is = subst (λ ts. IsSssp (record s { arriving = ts })) (sym is) v

-- what came has a place
pub arriving_placed : (s : SsspState) → IsSssp s → All (λ (t : Triple). t.i / s.ranks < length s.vertices) s.arriving
arriving_placed s v k d l =
    let own : s.rank < s.ranks = v.own in
    subst (λ n. (get_or s.arriving k d).i / s.ranks < n) (sym v.places) (place_below s.ranks s.rows (get_or s.arriving k d).i (omega arith) (v.arrived k d l).row)

-- edges were lost for want of memory
pub lost_valid : (s : SsspState) (arriving : List Triple) (table : List (List Edge)) → IsSssp s → arriving ≡ [] → table ≡ s.table → IsSssp (record s { arriving = arriving; table = table })
lost_valid s arriving table v e is =
    subst (λ ts. IsSssp (record s { arriving = ts; table = table })) (sym e)
    (subst (λ rows. IsSssp (record s { arriving = []; table = rows })) (sym is)
    (record {
      own = v.own;
      wide = v.wide;
      arrived = All-nil (IsInsideSquare s.rows);
      ordered = λ i j d l m. absurd (omega arith);
      edges = v.edges;
      rows_kept = v.rows_kept;
      places = v.places;
      fit = v.fit;
    }))

-- offers could not be made for want of memory
pub stopped_valid : (s : SsspState) (arriving : List Triple) (table : List (List Edge)) (vertices : List Vertex) → IsSssp s
    → arriving ≡ cond (s.round == 0) [] s.arriving → table ≡ table_after s → vertices ≡ map calm s.vertices → IsSssp (record s { arriving = arriving; table = table; vertices = vertices })
stopped_valid s arriving table vertices v a t w =
    let next : IsSssp (sssp_rules.ended s 0) = sssp_ended_valid s 0 v in
    subst (λ ts. IsSssp (record s { arriving = ts; table = table; vertices = vertices })) (sym a)
    (subst (λ rows. IsSssp (record s { arriving = cond (s.round == 0) [] s.arriving; table = rows; vertices = vertices })) (sym t)
    (subst (λ vs. IsSssp (record s { arriving = cond (s.round == 0) [] s.arriving; table = table_after s; vertices = vs })) (sym w)
    (record {
      own = v.own;
      wide = v.wide;
      arrived = next.arrived;
      ordered = next.ordered;
      edges = next.edges;
      rows_kept = λ l. table_after_len s v ∙ sym (length-map s.vertices calm);
      places = next.places;
      fit = v.fit;
    })))

-- the state after a round, from its fields
pub ended_from : (s : SsspState) (round : ℕ) (arriving : List Triple) (table : List (List Edge)) (vertices : List Vertex) (outgoing : List (ℕ × Item)) → IsSssp s
    → round ≡ min (s.round + 1) (2 ^ 64 - 1) → arriving ≡ cond (s.round == 0) [] s.arriving → table ≡ table_after s → vertices ≡ map calm s.vertices → outgoing ≡ offers_by_place table vertices (marked_places s.vertices)
    → IsSssp (record s { round = round; arriving = arriving; table = table; vertices = vertices; outgoing = outgoing })
ended_from s round arriving table vertices outgoing v r a t w o =
    let next : IsSssp (sssp_rules.ended s 0) = sssp_ended_valid s 0 v in
    let sent : outgoing ≡ (sssp_rules.ended s 0).outgoing = o ∙ ap (λ rows. offers_by_place rows vertices (marked_places s.vertices)) t ∙ ap (λ vs. offers_by_place (table_after s) vs (marked_places s.vertices)) w in
    subst (λ n. IsSssp (record s { round = n; arriving = arriving; table = table; vertices = vertices; outgoing = outgoing })) (sym r)
    (subst (λ ts. IsSssp (record s { round = min (s.round + 1) (2 ^ 64 - 1); arriving = ts; table = table; vertices = vertices; outgoing = outgoing })) (sym a)
    (subst (λ rows. IsSssp (record s { round = min (s.round + 1) (2 ^ 64 - 1); arriving = cond (s.round == 0) [] s.arriving; table = rows; vertices = vertices; outgoing = outgoing })) (sym t)
    (subst (λ vs. IsSssp (record s { round = min (s.round + 1) (2 ^ 64 - 1); arriving = cond (s.round == 0) [] s.arriving; table = table_after s; vertices = vs; outgoing = outgoing })) (sym w)
    (subst (λ es. IsSssp (record s { round = min (s.round + 1) (2 ^ 64 - 1); arriving = cond (s.round == 0) [] s.arriving; table = table_after s; vertices = map calm s.vertices; outgoing = es })) (sym sent) next))))

-- the improved vertices have edges and weights, at places of their own
pub marked_in : (s : SsspState) (places : List ℕ) (n : ℕ) → places ≡ marked_places s.vertices → n ≡ length s.vertices → All (λ p. p < n) places
marked_in s places n e is =
    subst (All (λ p. p < n)) (sym e) (subst (λ k. All (λ p. p < k) (marked_places s.vertices)) (sym is)
    (λ i d l. (let low : get_or (marked_places s.vertices) i d < 0 + length s.vertices = marked_below 0 s.vertices i d l in omega arith)))
