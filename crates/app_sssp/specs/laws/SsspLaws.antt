-- The laws of sssp.
use Rattle.std.proofs.Common.{ℕ, ◌+◌, ◌-◌, ◌/◌, ◌%◌, ◌^◌, ◌<◌, ◌≤◌, ◌≡◌, ◌==◌, min, Bool, true, false, List, [], ◌∷◌}
use Rattle.std.proofs.Common.{if◌then◌else◌}
use Rattle.std.proofs.Common.{Option, Some, None, map, length, get_or, All, arith, refl, sym, ap, ◌∙◌, subst, inl}
use Rattle.std.proofs.Common.{inr, lit<}
use Rattle.std.specs.List.{filter, range_with_len}
use Rattle.std.proofs.lemmas.Bool.{cases_eq, cases_lt, eq-eqb, ne_eqb}
use Rattle.std.proofs.lemmas.List.{get_or_past, length-map}
use Rattle.std.proofs.Math.Nat.{div-le_self}
use Rattle.std.proofs.lemmas.Bool.Decides.{nat_tests}
use Rattle.std.proofs.lemmas.List.Elements.{All-nil, All-map, All-append, All-filter}
use Rattle.bale_items.specs.declared.Item.{Item}
use Rattle.bale_items.specs.declared.triple.Triple.{Triple}
use Rattle.list_laws.proofs.Lists.{changed_comm, changed_len}
use Rattle.mtx_text.specs.Cells.{InOrder, with_value_raised}
use Rattle.mtx_text.proofs.Raised.{raised_ordered, raised_comm, greater}
use Rattle.mtx_text.proofs.Gathered.{raised_keeps}
use Rattle.round_program.specs.Laws.{Laws, Fits, SameRound, IsItem}
use Rattle.least_walks.specs.declared.table.Edge.{Edge}
use Rattle.least_walks.specs.declared.vertices.Vertex.{Vertex}
use Rattle.least_walks.specs.Tables.{table_of, edges_at, is_kept, edge_of, offers_by_place, offers_at, offers_from, offer}
use Rattle.least_walks.specs.Vertices.{unreached_vertex, improve, improved_at, marked_places, calm}
use Rattle.least_walks.proofs.Marks.{improve_comm, marked_count}
use Rattle.least_walks.proofs.Rows.{table_len}
use Rattle.app_sssp.specs.Sssps.{SsspState, IsSssp, IsEdge, IsInsideSquare, sssp_rules, may_sssp, edge_came, table_after}

sssp_within : (shape : List ℕ) (ranks round to from : ℕ) (x : Item) → may_sssp shape ranks round to from x ≡ true
    → (to < ranks) × (from < ranks) × IsItem x
sssp_within [] ranks round to from x h = absurd (cc)
sssp_within (rows ∷ []) ranks round to from x h =
    (grind (arith, nat_tests), grind (arith, nat_tests), grind (arith, nat_tests))
sssp_within (rows ∷ (c ∷ cs)) ranks round to from x h = absurd (cc)

-- what comes in round 0 is an edge inside the matrix
pub sssp_came_inside : (rows ranks round to from : ℕ) (x : Item) → may_sssp (rows ∷ []) ranks round to from x ≡ true
    → round ≡ 0 → IsInsideSquare rows (edge_came x)
sssp_came_inside rows ranks round to from x h z = record { row = grind (arith, nat_tests); col = grind (arith, nat_tests) }

-- ---- Absorbs commute

both_first : {X : Type 0} (b : Bool) (f g : X → X) (x : X) → f (g x) ≡ g (f x)
    → (if b then f (if b then g x else x) else if b then g x else x)
    ≡ (if b then g (if b then f x else x) else if b then f x else x)
both_first true f g x e = e
both_first false f g x e = refl

both_later : {X : Type 0} (b : Bool) (f g : X → X) (x : X) → f (g x) ≡ g (f x)
    → (if b then if b then x else g x else f (if b then x else g x))
    ≡ (if b then if b then x else f x else g (if b then x else f x))
both_later true f g x e = refl
both_later false f g x e = e

pub improved_comm : (p q a b : ℕ) (vs : List Vertex)
    → improved_at p a (improved_at q b vs) ≡ improved_at q b (improved_at p a vs)
improved_comm p q a b vs = changed_comm vs q p unreached_vertex (improve b) (improve a) (λ e v. improve_comm a b v)

commutes : (s : SsspState) (f g : ℕ) (x y : Item) → IsSssp s
    → sssp_rules.absorbed (sssp_rules.absorbed s f x) g y ≡ sssp_rules.absorbed (sssp_rules.absorbed s g y) f x
commutes s f g x y v =
    let one : SsspState = sssp_rules.absorbed (sssp_rules.absorbed s f x) g y in
    let two : SsspState = sssp_rules.absorbed (sssp_rules.absorbed s g y) f x in
    let a : one.arriving ≡ two.arriving =
    both_first (s.round == 0) (with_value_raised (edge_came y)) (with_value_raised (edge_came x)) s.arriving
    (raised_comm (edge_came y) (edge_came x) s.arriving v.ordered) in
    let b : one.vertices ≡ two.vertices =
    both_later (s.round == 0) (improved_at (y.a / s.ranks) y.b) (improved_at (x.a / s.ranks) x.b) s.vertices
    (improved_comm (y.a / s.ranks) (x.a / s.ranks) y.b x.b s.vertices) in
    ap (λ w. record s { arriving = w; vertices = one.vertices }) a ∙ ap
    (λ w. record s { arriving = two.arriving; vertices = w }) b

-- ---- Absorbs keep a state one of the program

pub improved_len : (p w : ℕ) (vs : List Vertex) → length (improved_at p w vs) ≡ length vs
improved_len p w vs = changed_len vs p unreached_vertex (improve w)

pub len_either : (b : Bool) (p w : ℕ) (vs : List Vertex) → length (if b then vs else improved_at p w vs) ≡ length vs
len_either true p w vs = refl
len_either false p w vs = improved_len p w vs

pub greater_inside : (rows : ℕ) (s t : Triple) → s.i ≡ t.i → s.j ≡ t.j → IsInsideSquare rows s → IsInsideSquare rows t
    → IsInsideSquare rows (greater s t)
greater_inside rows s t e f a b = record { row = a.row; col = a.col }

arrived_still : (s : SsspState) (f : ℕ) (x : Item) → IsSssp s → Fits sssp_rules s f x
    → All (IsInsideSquare s.rows) (if s.round == 0 then with_value_raised (edge_came x) s.arriving else s.arriving)
arrived_still s f x v e =
    elim (cases_eq s.round 0) [
      | inl z ↦
          subst (λ b. All (IsInsideSquare s.rows) (if b then with_value_raised (edge_came x) s.arriving else s.arriving))
          (sym (eq-eqb s.round 0 z))
          (raised_keeps (IsInsideSquare s.rows) (greater_inside s.rows) (edge_came x) s.arriving
          (sssp_came_inside s.rows s.ranks s.round s.rank f x e z) v.arrived)
      | inr n ↦ subst (λ b. All (IsInsideSquare s.rows) (if b then with_value_raised (edge_came x) s.arriving else s.arriving))
          (sym (ne_eqb s.round 0 n)) v.arrived
    ]

ordered_still : (b : Bool) (t : Triple) (ts : List Triple) → InOrder ts → InOrder (if b then with_value_raised t ts else ts)
ordered_still true t ts h = raised_ordered t ts h
ordered_still false t ts h = h

keeps : (s : SsspState) (f : ℕ) (x : Item) → IsSssp s → Fits sssp_rules s f x
    → SameRound sssp_rules s (sssp_rules.absorbed s f x)
keeps s f x v e =
    let len : length (if s.round == 0 then s.vertices else improved_at (x.a / s.ranks) x.b s.vertices)
    ≡ length s.vertices = len_either (s.round == 0) (x.a / s.ranks) x.b s.vertices in
    record {
      valid =
          record {
            own = v.own;
            wide = v.wide;
            arrived = arrived_still s f x v e;
            ordered = ordered_still (s.round == 0) (edge_came x) s.arriving v.ordered;
            edges = v.edges;
            rows_kept = λ l. v.rows_kept l ∙ sym len;
            places = len ∙ v.places;
            fit = v.fit;
          };
      rank = refl;
      ranks = refl;
      round = refl;
      shape = refl;
      most = refl;
      emissions = refl;
    }

-- ---- The end of a round

pub table_edges : (ranks places low high rows : ℕ) (ts : List Triple) → All (IsInsideSquare rows) ts
    → All (All (IsEdge ranks rows)) (table_of ranks places low high ts)
table_edges ranks places low high rows ts h =
    All-map (All (IsEdge ranks rows)) (edges_at ranks low high ts) (range_with_len 0 places) (λ k d l.
    All-map (IsEdge ranks rows) (edge_of ranks)
    (filter (is_kept ranks low high (get_or (range_with_len 0 places) k d)) ts)
    (All-filter (is_kept ranks low high (get_or (range_with_len 0 places) k d))
    (λ t. IsEdge ranks rows (edge_of ranks t)) ts
    (λ i e m. record { inside = (h i e m).col; owned = refl })))

pub table_after_edges : (s : SsspState) → IsSssp s → All (All (IsEdge s.ranks s.rows)) (table_after s)
table_after_edges s v = either (s.round == 0)
  where
    either : (b : Bool)
        → All (All (IsEdge s.ranks s.rows))
        (if b then table_of s.ranks (length s.vertices) 0 (2 ^ 64 - 1) s.arriving else s.table)
    either true = table_edges s.ranks (length s.vertices) 0 (2 ^ 64 - 1) s.rows s.arriving v.arrived
    either false = v.edges

pub table_after_len : (s : SsspState) → IsSssp s → length (table_after s) ≡ length s.vertices
table_after_len s v =
    elim (cases_eq s.round 0) [
      | inl z ↦
          ap (λ b. length (if b then table_of s.ranks (length s.vertices) 0 (2 ^ 64 - 1) s.arriving else s.table))
          (eq-eqb s.round 0 z)
          ∙ table_len s.ranks (length s.vertices) 0 (2 ^ 64 - 1) s.arriving
      | inr n ↦
          ap (λ b. length (if b then table_of s.ranks (length s.vertices) 0 (2 ^ 64 - 1) s.arriving else s.table))
          (ne_eqb s.round 0 n)
          ∙ v.rows_kept (omega (arith, n))
    ]

abbrev Offered : ℕ → ℕ → ℕ → ℕ → ℕ × Item → Type 0
Offered rows ranks round rank e = may_sssp (rows ∷ []) ranks round e.0 rank e.1 ≡ true

offer_fits : (rows ranks round rank m : ℕ) (e : Edge) → rank < ranks → rows ≤ 16384 → 0 < round → IsEdge ranks rows e
    → Offered rows ranks round rank (offer m e)
offer_fits rows ranks round rank m e own wide late is =
    let inside : e.to < rows = is.inside in
    let owned : e.owner ≡ e.to % ranks = is.owned in
    grind (arith, nat_tests)

offers_from_fit : (rows ranks round rank : ℕ) (o : Option ℕ) (es : List Edge) → rank < ranks → rows ≤ 16384 → 0 < round
    → All (IsEdge ranks rows) es → All (Offered rows ranks round rank) (offers_from o es)
offers_from_fit rows ranks round rank None es own wide late h = All-nil (Offered rows ranks round rank)
offers_from_fit rows ranks round rank (Some m) es own wide late h =
    All-map (Offered rows ranks round rank) (offer m) es
    (λ k d l. offer_fits rows ranks round rank m (get_or es k d) own wide late (h k d l))

row_at : (P : Edge → Type 0) (table : List (List Edge)) (p : ℕ) → All (All P) table → All P (get_or table p [])
row_at P table p h = elim (cases_lt p (length table)) [
  | inl low ↦ h p [] low
  | inr past ↦ subst (All P) (sym (get_or_past table p [] past)) (All-nil P)
]

pub offers_fit : (rows ranks round rank : ℕ) (table : List (List Edge)) (vs : List Vertex) (places : List ℕ)
    → rank < ranks → rows ≤ 16384 → 0 < round → All (All (IsEdge ranks rows)) table
    → All (Offered rows ranks round rank) (offers_by_place table vs places)
offers_fit rows ranks round rank table vs [] own wide late h = All-nil (Offered rows ranks round rank)
offers_fit rows ranks round rank table vs (p ∷ ps) own wide late h =
    All-append (Offered rows ranks round rank) (offers_at table vs p) (offers_by_place table vs ps)
    (offers_from_fit rows ranks round rank (get_or vs p unreached_vertex).weight (get_or table p []) own wide late
    (row_at (IsEdge ranks rows) table p h))
    (offers_fit rows ranks round rank table vs ps own wide late h)

pub sssp_ended_valid : (s : SsspState) (votes : ℕ) → IsSssp s → IsSssp (sssp_rules.ended s votes)
sssp_ended_valid s votes v =
    record {
      own = v.own;
      wide = v.wide;
      arrived = arrived_none (s.round == 0);
      ordered = ordered_none (s.round == 0);
      edges = table_after_edges s v;
      rows_kept = λ l. table_after_len s v ∙ sym (length-map s.vertices calm);
      places = length-map s.vertices calm ∙ v.places;
      fit = offers_fit s.rows s.ranks (min (s.round + 1) (2 ^ 64 - 1)) s.rank (table_after s) (map calm s.vertices)
          (marked_places s.vertices) v.own v.wide (omega arith) (table_after_edges s v);
    }
  where
    arrived_none : (b : Bool) → All (IsInsideSquare s.rows) (if b then [] else s.arriving)
    arrived_none true = All-nil (IsInsideSquare s.rows)
    arrived_none false = v.arrived

    ordered_none : (b : Bool) → InOrder (if b then [] else s.arriving)
    ordered_none true = λ i j d l m. absurd (omega arith)
    ordered_none false = v.ordered

few_votes : (s : SsspState) → IsSssp s → (if s.round == 0 then 0 else length (marked_places s.vertices)) < 2 ^ 32
few_votes s v = either (s.round == 0)
  where
    few : length (marked_places s.vertices) < 2 ^ 32
    few =
        let count : length (marked_places s.vertices) ≤ length s.vertices = marked_count 0 s.vertices in
        let places : length s.vertices ≡ s.rows / s.ranks + 1 = v.places in
        let wide : s.rows ≤ 16384 = v.wide in
        let part : s.rows / s.ranks ≤ s.rows = div-le_self s.rows s.ranks in
        omega arith

    either : (b : Bool) → (if b then 0 else length (marked_places s.vertices)) < 2 ^ 32
    either true = lit< tt
    either false = few

pub sssp_laws : Laws sssp_rules
sssp_laws =
    record {
      emits = λ s v. v.fit;
      commutes = λ s f g x y v d e h. commutes s f g x y v;
      keeps = λ s f x v e. keeps s f x v e;
      vote_below = λ s v. few_votes s v;
      next = λ s votes v l. record {
        valid = sssp_ended_valid s votes v;
        rank = refl;
        ranks = refl;
        round = refl;
        shape = refl;
        most = refl;
      };
      within = sssp_within;
      most_below = λ s v. (let wide : s.rows ≤ 16384 = v.wide in omega arith);
    }
