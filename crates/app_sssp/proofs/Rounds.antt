-- Rounds of improvements, over all vertices: what is found after each, and that they end.
use Rattle.std.proofs.Common.{ℕ, ◌+◌, ◌*◌, ◌≤◌, ◌<◌, ◌≡◌, Bool, true, false, List, [], ◌∷◌, ◌++◌, Option, Some, length, All, arith, refl, sym, ap, ◌∙◌, subst, inl, inr, ◌⊎◌}
use Rattle.std.specs.Prelude.{Contains}
use Rattle.std.proofs.lemmas.Bool.{cases_Bool, cases_lt, false≢true}
use Rattle.std.proofs.lemmas.List.{length_push}
use Rattle.std.proofs.lemmas.List.Elements.{All-contains}
use Rattle.std.proofs.lemmas.Option.{same_Some}
use Rattle.bale_items.specs.declared.triple.Triple.{Triple}
use Rattle.least_walks.specs.Walks.{IsWalk, weight_of, AtMost, IsLeast}
use Rattle.least_walks.proofs.Settled.{cost, at_most_le, walk_push, weight_push, Walked, least_at}
use Rattle.least_walks.proofs.Simple.{IsSimple, simple_of, simple_short}

-- what all ranks together have found as a round ends, and which vertices were improved in it
pub record Stage : Type 0 where
  pub found : ℕ → Option ℕ
  pub fresh : ℕ → Bool

-- a vertex was improved by an edge from one that was fresh
pub record Improved (es : List Triple) (x y : Stage) (v : ℕ) : Type 0 where
  pub edge : Triple
  pub is : Contains es edge
  pub to : edge.j ≡ v
  pub before : ℕ
  pub from : x.found edge.i ≡ Some before
  pub new : y.found v ≡ Some (before + cost edge)
  pub less : ¬ AtMost (x.found v) (before + cost edge)

pub record Round (es : List Triple) (x y : Stage) : Type 0 where
  -- each edge out of a fresh vertex was tried
  pub tried : (e : Triple) → Contains es e → x.fresh e.i ≡ true → (m : ℕ) → x.found e.i ≡ Some m → AtMost (y.found e.j) (m + cost e)
  -- a vertex is as before, or was improved
  pub each : (v : ℕ) → ((y.found v ≡ x.found v) × (y.fresh v ≡ false)) ⊎ ((y.fresh v ≡ true) × Improved es x y v)

-- what holds as round r ends
pub record Reached (es : List Triple) (s limit r : ℕ) (x : Stage) : Type 0 where
  pub walked : Walked es s x.found
  pub start : AtMost (x.found s) 0
  -- edges out of other vertices than the fresh ones improve nothing
  pub settled : (e : Triple) → Contains es e → x.fresh e.i ≡ false → (m : ℕ) → x.found e.i ≡ Some m → AtMost (x.found e.j) (m + cost e)
  -- a weight is at most that of each walk of at most r edges
  pub short : (v : ℕ) (w : List Triple) → IsWalk es s v w → length w ≤ r → AtMost (x.found v) (weight_of w)
  -- and a bound on all weights
  pub bounded : (v m : ℕ) → x.found v ≡ Some m → m ≤ r * limit

-- weights only fall
falls : (es : List Triple) (x y : Stage) → Round es x y → (v n : ℕ) → AtMost (x.found v) n → AtMost (y.found v) n
falls es x y round v n h =
    elim (round.each v) [
      | inl same ↦ subst (λ o. AtMost o n) (sym same.0) h
      | inr new' ↦
          let i : Improved es x y v = new'.1 in
          elim (le_or_less (i.before + cost i.edge) n) [
            | inl l ↦ (i.before + cost i.edge, i.new, l)
            | inr g ↦ absurd (i.less (at_most_le (x.found v) n (i.before + cost i.edge) h g))
          ]
    ]
  where
    le_or_less : (a b : ℕ) → (a ≤ b) ⊎ (b ≤ a)
    le_or_less a b = elim (cases_lt a b) [ inl l ↦ inl (omega arith) | inr m ↦ inr m ]

-- a walk of one edge or more ends with an edge
pub record Last (es : List Triple) (s t : ℕ) (w : List Triple) : Type 0 where
  pub front : List Triple
  pub edge : Triple
  pub is : w ≡ front ++ edge ∷ []
  pub walk : IsWalk es s edge.i front
  pub has : Contains es edge
  pub to : edge.j ≡ t

pub last_edge : (es : List Triple) (s t : ℕ) (e : Triple) (w : List Triple) → IsWalk es s t (e ∷ w) → Last es s t (e ∷ w)
last_edge es s t e [] h = record { front = []; edge = e; is = refl; walk = sym h.1; has = h.0; to = h.2 }
last_edge es s t e (d ∷ w) h =
    let rest : Last es e.j t (d ∷ w) = last_edge es e.j t d w h.2 in
    record { front = e ∷ rest.front; edge = rest.edge; is = ap (λ u. e ∷ u) rest.is; walk = (h.0, h.1, rest.walk); has = rest.has; to = rest.to }

-- an edge out of any vertex was tried in the round, or improved nothing before it
edge_done : (es : List Triple) (s limit r : ℕ) (x y : Stage) → Reached es s limit r x → Round es x y → (e : Triple) → Contains es e → (m : ℕ) → x.found e.i ≡ Some m → AtMost (y.found e.j) (m + cost e)
edge_done es s limit r x y at round e has m found =
    elim (cases_Bool (x.fresh e.i)) [
      | inl t ↦ round.tried e has t m found
      | inr f ↦ falls es x y round e.j (m + cost e) (at.settled e has f m found)
    ]

short_more : (es : List Triple) (s limit r : ℕ) (x y : Stage) → Reached es s limit r x → Round es x y → (v : ℕ) (w : List Triple) → IsWalk es s v w → length w ≤ r + 1 → AtMost (y.found v) (weight_of w)
short_more es s limit r x y at round v [] walk l = falls es x y round v (weight_of []) (at.short v [] walk (omega arith))
short_more es s limit r x y at round v (e ∷ w) walk l =
    let last : Last es s v (e ∷ w) = last_edge es s v e w walk in
    let len : length (e ∷ w) ≡ length last.front + 1 = ap length last.is ∙ length_push last.front last.edge in
    let front : AtMost (x.found last.edge.i) (weight_of last.front) = at.short last.edge.i last.front last.walk (omega arith) in
    let m : ℕ = front.0 in
    let low : m ≤ weight_of last.front = front.2 in
    let sum : weight_of (e ∷ w) ≡ weight_of last.front + cost last.edge = ap weight_of last.is ∙ weight_push last.front last.edge in
    let done : AtMost (y.found last.edge.j) (m + cost last.edge) = edge_done es s limit r x y at round last.edge last.has m front.1 in
    subst (λ t. AtMost (y.found t) (weight_of (e ∷ w))) last.to (at_most_le (y.found last.edge.j) (m + cost last.edge) (weight_of (e ∷ w)) done (omega arith))

pub next_reached : (es : List Triple) (s limit r : ℕ) (x y : Stage) → All (λ (e : Triple). cost e ≤ limit) es → Reached es s limit r x → Round es x y → Reached es s limit (r + 1) y
next_reached es s limit r x y few at round =
    record {
      walked = λ v m found. elim (round.each v) [
        | inl same ↦ at.walked v m (sym same.0 ∙ found)
        | inr new' ↦
            let i : Improved es x y v = new'.1 in
            let w = at.walked i.edge.i i.before i.from in
            let is : m ≡ i.before + cost i.edge = same_Some m (i.before + cost i.edge) (sym found ∙ i.new) in (
              w.0 ++ i.edge ∷ [],
              subst (λ t. IsWalk es s t (w.0 ++ i.edge ∷ [])) i.to (walk_push es s i.edge.i w.0 i.edge w.1 i.is refl),
              weight_push w.0 i.edge ∙ ap (λ k. k + cost i.edge) w.2 ∙ sym is,
            )
      ];
      start = falls es x y round s 0 at.start;
      settled = λ e has calm m found. elim (round.each e.i) [
        | inl same ↦ edge_done es s limit r x y at round e has m (sym same.0 ∙ found)
        | inr new' ↦ absurd (false≢true (sym calm ∙ new'.0))
      ];
      short = short_more es s limit r x y at round;
      bounded = λ v m found. elim (round.each v) [
        | inl same ↦ (let low : m ≤ r * limit = at.bounded v m (sym same.0 ∙ found) in let more : (r + 1) * limit ≡ r * limit + limit = grind arith in omega arith)
        | inr new' ↦
            let i : Improved es x y v = new'.1 in
            let is : m ≡ i.before + cost i.edge = same_Some m (i.before + cost i.edge) (sym found ∙ i.new) in
            let low : i.before ≤ r * limit = at.bounded i.edge.i i.before i.from in
            let one : cost i.edge ≤ limit = All-contains (λ (e : Triple). cost e ≤ limit) es i.edge few i.is in
            let more : (r + 1) * limit ≡ r * limit + limit = grind arith in
            omega arith
      ];
    }

-- among n vertices the round after n - 1 rounds improves nothing
pub none_fresh : (es : List Triple) (n s limit r : ℕ) (x y : Stage) → All (λ (e : Triple). e.i < n) es → All (λ (e : Triple). e.j < n) es
    → Reached es s limit r x → Reached es s limit (r + 1) y → Round es x y → n ≤ r + 1 → (v : ℕ) → y.fresh v ≡ false
none_fresh es n s limit r x y rows cols at then' round late v =
    elim (round.each v) [
      | inl same ↦ same.1
      | inr new' ↦
          let i : Improved es x y v = new'.1 in
          let low : v < n = subst (λ t. t < n) i.to (All-contains (λ (e : Triple). e.j < n) es i.edge cols i.is) in
          let w = then'.walked v (i.before + cost i.edge) i.new in
          let simple : IsSimple es s v (weight_of w.0) = simple_of es s v w.0 w.1 in
          let few : length simple.walk < n = simple_short es n s v (weight_of w.0) rows low simple in
          let light : weight_of simple.walk ≤ weight_of w.0 = simple.light in
          let is : weight_of w.0 ≡ i.before + cost i.edge = w.2 in
          absurd (i.less (at_most_le (x.found v) (weight_of simple.walk) (i.before + cost i.edge) (at.short v simple.walk simple.is (omega arith)) (omega arith)))
    ]

-- where none is fresh, every weight is least
pub all_least : (es : List Triple) (s limit r : ℕ) (x : Stage) → Reached es s limit r x → ((v : ℕ) → x.fresh v ≡ false) → (v : ℕ) → IsLeast es s v (x.found v)
all_least es s limit r x at none v = least_at es s x.found (λ e has m found. at.settled e has (none e.i) m found) at.walked at.start v
