-- What vertices offer, which offers a vertex takes, and what it is then.
use Rattle.std.proofs.Common.{ℕ, zero, suc, ◌+◌, ◌/◌, ◌<◌, ◌≤◌, ◌≡◌, Bool, true, false, cond, List, [], ◌∷◌, Option, Some, None, length, map, get_or, arith, inl, inr, refl, sym, ap, ◌∙◌, subst, ◌⊎◌}
use Rattle.std.specs.Prelude.{Contains}
use Rattle.std.specs.List.{fold}
use Rattle.std.proofs.lemmas.Bool.{cases_Bool, cases_eq, cases_lt, lt-ltb, le-ltb}
use Rattle.std.proofs.lemmas.List.{get_or-set_same, get_or-set_other}
use Rattle.std.proofs.lemmas.Option.{same_Some}
use Rattle.bale_items.specs.declared.Item.{Item}
use Rattle.list_laws.proofs.Lists.{changed_len, changed_past}
use Rattle.least_walks.specs.declared.table.Edge.{Edge}
use Rattle.least_walks.specs.declared.vertices.Vertex.{Vertex}
use Rattle.least_walks.specs.Walks.{AtMost}
use Rattle.least_walks.specs.Tables.{offer, offers_from, offers_at, offers_by_place}
use Rattle.least_walks.specs.Vertices.{unreached_vertex, improve, improved_at, marked_from, calm}
use Rattle.least_walks.proofs.Members.{has_head, has_tail, has_cases, none_in, has_mapped, was_mapped, has_joined, was_joined}

-- ---- One weight

abbrev pub weighing : ℕ → Vertex
weighing a = record { weight = Some a; improved = true }

pub none_at_most : (n : ℕ) → AtMost None n → ⊥
none_at_most n h = let e : None ≡ Some h.0 = h.1 in cc

pub not_less : (m n : ℕ) → n < m → AtMost (Some m) n → ⊥
not_less m n l h = (let e : m ≡ h.0 = same_Some m h.0 h.1 in let k : h.0 ≤ n = h.2 in omega arith)

improve_from : (w : ℕ) (o : Option ℕ) (k : Bool)
    → ((improve w (record { weight = o; improved = k }) ≡ record { weight = o; improved = k }) × AtMost o w) ⊎ ((improve w (record { weight = o; improved = k }) ≡ weighing w) × ¬ AtMost o w)
improve_from w None k = inr (refl, none_at_most w)
improve_from w (Some m) k =
    elim (cases_lt w m) [
      | inl l ↦ inr (ap (λ t. cond t (weighing w) (record { weight = Some m; improved = k })) (lt-ltb w m l), not_less m w l)
      | inr n ↦ inl (ap (λ t. cond t (weighing w) (record { weight = Some m; improved = k })) (le-ltb w m n), (m, refl, n))
    ]

-- a vertex stays where its weight is as good, and else takes the new one
pub improve_cases : (w : ℕ) (v : Vertex) → ((improve w v ≡ v) × AtMost v.weight w) ⊎ ((improve w v ≡ weighing w) × ¬ AtMost v.weight w)
improve_cases w v = improve_from w v.weight v.improved

-- one place after one weight came to a place
step_cases : (p q w : ℕ) (vs : List Vertex) → (get_or (improved_at q w vs) p unreached_vertex ≡ get_or vs p unreached_vertex)
    ⊎ ((q ≡ p) × (get_or (improved_at q w vs) p unreached_vertex ≡ weighing w) × ¬ AtMost (get_or vs p unreached_vertex).weight w)
step_cases p q w vs =
    elim (cases_eq q p) [
      | inr other ↦ inl (get_or-set_other vs q p (improve w (get_or vs q unreached_vertex)) unreached_vertex (λ e. other (sym e)))
      | inl same ↦ elim (cases_lt q (length vs)) [
        | inr past ↦ inl (ap (λ ws. get_or ws p unreached_vertex) (changed_past vs q unreached_vertex (improve w) past))
        | inl low ↦
            let here : get_or (improved_at q w vs) q unreached_vertex ≡ improve w (get_or vs q unreached_vertex) = get_or-set_same vs q (improve w (get_or vs q unreached_vertex)) unreached_vertex low in
            let at : get_or (improved_at q w vs) p unreached_vertex ≡ improve w (get_or vs p unreached_vertex) = subst (λ k. get_or (improved_at q w vs) k unreached_vertex ≡ improve w (get_or vs k unreached_vertex)) same here in
            elim (improve_cases w (get_or vs p unreached_vertex)) [
              | inl stays ↦ inl (at ∙ stays.0)
              | inr new' ↦ inr (same, at ∙ new'.0, new'.1)
            ]
      ]
    ]

step_done : (p w : ℕ) (vs : List Vertex) → p < length vs → AtMost (get_or (improved_at p w vs) p unreached_vertex).weight w
step_done p w vs low =
    let here : get_or (improved_at p w vs) p unreached_vertex ≡ improve w (get_or vs p unreached_vertex) = get_or-set_same vs p (improve w (get_or vs p unreached_vertex)) unreached_vertex low in
    elim (improve_cases w (get_or vs p unreached_vertex)) [
      | inl stays ↦ subst (λ (v : Vertex). AtMost v.weight w) (sym (here ∙ stays.0)) stays.1
      | inr new' ↦ subst (λ (v : Vertex). AtMost v.weight w) (sym (here ∙ new'.0)) (w, refl, (let l : w ≤ w = omega arith in l))
    ]

step_falls : (p q w n : ℕ) (vs : List Vertex) → AtMost (get_or vs p unreached_vertex).weight n → AtMost (get_or (improved_at q w vs) p unreached_vertex).weight n
step_falls p q w n vs h =
    elim (step_cases p q w vs) [
      | inl same ↦ subst (λ (v : Vertex). AtMost v.weight n) (sym same) h
      | inr new' ↦ elim (cases_lt w n) [
        | inl l ↦ subst (λ (v : Vertex). AtMost v.weight n) (sym new'.1) (w, refl, (let k : w ≤ n = omega arith in k))
        | inr m ↦ subst (λ (v : Vertex). AtMost v.weight n) (sym new'.1) (w, refl, absurd (new'.2 (h.0, h.1, (let k : h.0 ≤ n = h.2 in omega arith))))
      ]
    ]

-- ---- Many items

-- vertices after items came to their places
abbrev pub taken : ℕ → List Vertex → List Item → List Vertex
taken ranks vs items = fold (λ ws x. improved_at (x.a / ranks) x.b ws) vs items

pub taken_len : (ranks : ℕ) (vs : List Vertex) (items : List Item) → length (taken ranks vs items) ≡ length vs
taken_len ranks vs [] = refl
taken_len ranks vs (x ∷ xs) = taken_len ranks (improved_at (x.a / ranks) x.b vs) xs ∙ changed_len vs (x.a / ranks) unreached_vertex (improve x.b)

taken_falls : (ranks p n : ℕ) (vs : List Vertex) (items : List Item) → AtMost (get_or vs p unreached_vertex).weight n → AtMost (get_or (taken ranks vs items) p unreached_vertex).weight n
taken_falls ranks p n vs [] h = h
taken_falls ranks p n vs (x ∷ xs) h = taken_falls ranks p n (improved_at (x.a / ranks) x.b vs) xs (step_falls p (x.a / ranks) x.b n vs h)

-- each item was tried
pub taken_done : (ranks p : ℕ) (vs : List Vertex) (items : List Item) (x : Item) → p < length vs → Contains items x → x.a / ranks ≡ p → AtMost (get_or (taken ranks vs items) p unreached_vertex).weight x.b
taken_done ranks p vs [] x low h e = absurd (none_in x h)
taken_done ranks p vs (y ∷ ys) x low h e =
    let len : length (improved_at (y.a / ranks) y.b vs) ≡ length vs = changed_len vs (y.a / ranks) unreached_vertex (improve y.b) in
    elim (has_cases y x ys h) [
      | inl same ↦
          let place : y.a / ranks ≡ p = ap (λ (z : Item). z.a / ranks) same ∙ e in
          taken_falls ranks p x.b (improved_at (y.a / ranks) y.b vs) ys
          (subst (λ n. AtMost (get_or (improved_at (y.a / ranks) y.b vs) p unreached_vertex).weight n) (ap (λ (z : Item). z.b) same)
          (subst (λ q. AtMost (get_or (improved_at q y.b vs) p unreached_vertex).weight y.b) (sym place) (step_done p y.b vs low)))
      | inr later ↦ taken_done ranks p (improved_at (y.a / ranks) y.b vs) ys x (subst (λ n. p < n) (sym len) low) later e
    ]

-- a place took an item
pub record Took (ranks p : ℕ) (before after : Vertex) (items : List Item) : Type 0 where
  pub item : Item
  pub is : Contains items item
  pub place : item.a / ranks ≡ p
  pub new : after ≡ weighing item.b
  pub less : ¬ AtMost before.weight item.b

-- a place is as before, or took one of the items
pub taken_cases : (ranks p : ℕ) (vs : List Vertex) (items : List Item)
    → (get_or (taken ranks vs items) p unreached_vertex ≡ get_or vs p unreached_vertex) ⊎ Took ranks p (get_or vs p unreached_vertex) (get_or (taken ranks vs items) p unreached_vertex) items
taken_cases ranks p vs [] = inl refl
taken_cases ranks p vs (x ∷ xs) =
    let ws : List Vertex = improved_at (x.a / ranks) x.b vs in
    elim (step_cases p (x.a / ranks) x.b vs) [
      | inl same ↦ elim (taken_cases ranks p ws xs) [
        | inl rest ↦ inl (rest ∙ same)
        | inr took ↦ inr (record { item = took.item; is = has_tail x took.item xs took.is; place = took.place; new = took.new; less = subst (λ (v : Vertex). ¬ AtMost v.weight took.item.b) same took.less })
      ]
      | inr new' ↦ elim (taken_cases ranks p ws xs) [
        | inl rest ↦ inr (record { item = x; is = has_head x xs; place = new'.0; new = rest ∙ new'.1; less = new'.2 })
        | inr took ↦
            inr (record {
              item = took.item;
              is = has_tail x took.item xs took.is;
              place = took.place;
              new = took.new;
              less = λ h.
                  let up : ¬ AtMost (Some x.b) took.item.b = subst (λ (v : Vertex). ¬ AtMost v.weight took.item.b) new'.1 took.less in
                  elim (cases_lt took.item.b x.b) [
                    | inl l ↦ new'.2 (h.0, h.1, (let k : h.0 ≤ took.item.b = h.2 in omega arith))
                    | inr m ↦ up (x.b, refl, m)
                  ];
            })
      ]
    ]

-- ---- What is offered

-- an offer comes from a vertex with a weight, along one of its edges
pub record Offering (table : List (List Edge)) (vs : List Vertex) (places : List ℕ) (o : ℕ × Item) : Type 0 where
  pub place : ℕ
  pub listed : Contains places place
  pub edge : Edge
  pub kept : Contains (get_or table place []) edge
  pub weight : ℕ
  pub found : (get_or vs place unreached_vertex).weight ≡ Some weight
  pub is : offer weight edge ≡ o

pub has_offer : (table : List (List Edge)) (vs : List Vertex) (places : List ℕ) (o : ℕ × Item) → Offering table vs places o → Contains (offers_by_place table vs places) o
has_offer table vs places o h =
    has_joined (offers_at table vs) places h.place o h.listed
    (subst (λ w. Contains (offers_from w (get_or table h.place [])) o) (sym h.found)
    (subst (Contains (map (offer h.weight) (get_or table h.place []))) h.is (has_mapped (offer h.weight) (get_or table h.place []) h.edge h.kept)))

pub was_offered : (table : List (List Edge)) (vs : List Vertex) (places : List ℕ) (o : ℕ × Item) → Contains (offers_by_place table vs places) o → Offering table vs places o
was_offered table vs places o h =
    let p = was_joined (offers_at table vs) places o h in
    from_weight p.0 p.1 (get_or vs p.0 unreached_vertex).weight refl p.2
  where
    from_weight : (p : ℕ) → Contains places p → (w : Option ℕ) → (get_or vs p unreached_vertex).weight ≡ w → Contains (offers_from w (get_or table p [])) o → Offering table vs places o
    from_weight p listed None e h = absurd (none_in o h)
    from_weight p listed (Some m) e h =
        let x = was_mapped (offer m) (get_or table p []) o h in
        record { place = p; listed = listed; edge = x.0; kept = x.1; weight = m; found = e; is = x.2 }

-- ---- The marked places

pub has_mark : (k : ℕ) (vs : List Vertex) (p : ℕ) → (get_or vs p unreached_vertex).improved ≡ true → Contains (marked_from k vs) (k + p)
has_mark k [] p h = absurd (let e : false ≡ true = h in cc)
has_mark k (v ∷ vs) zero h =
    let z : k + 0 ≡ k = omega arith in
    subst (λ j. Contains (marked_from k (v ∷ vs)) j) (sym z) (subst (λ b. Contains (cond b (k ∷ marked_from (suc k) vs) (marked_from (suc k) vs)) k) (sym h) (has_head k (marked_from (suc k) vs)))
has_mark k (v ∷ vs) (suc p) h =
    let z : suc k + p ≡ k + suc p = omega arith in
    let rest : Contains (marked_from (suc k) vs) (k + suc p) = subst (Contains (marked_from (suc k) vs)) z (has_mark (suc k) vs p h) in
    elim (cases_Bool v.improved) [
      | inl t ↦ subst (λ b. Contains (cond b (k ∷ marked_from (suc k) vs) (marked_from (suc k) vs)) (k + suc p)) (sym t) (has_tail k (k + suc p) (marked_from (suc k) vs) rest)
      | inr f ↦ subst (λ b. Contains (cond b (k ∷ marked_from (suc k) vs) (marked_from (suc k) vs)) (k + suc p)) (sym f) rest
    ]

pub was_marked : (k : ℕ) (vs : List Vertex) (q : ℕ) → Contains (marked_from k vs) q → (p : ℕ) × (q ≡ k + p) × (p < length vs) × ((get_or vs p unreached_vertex).improved ≡ true)
was_marked k [] q h = absurd (none_in q h)
was_marked k (v ∷ vs) q h =
    elim (cases_Bool v.improved) [
      | inl t ↦ elim (has_cases k q (marked_from (suc k) vs) (subst (λ b. Contains (cond b (k ∷ marked_from (suc k) vs) (marked_from (suc k) vs)) q) t h)) [
        | inl same ↦ (0, (let e : q ≡ k + 0 = omega arith in e), (let l : 0 < length (v ∷ vs) = omega arith in l), t)
        | inr later ↦ shifted (was_marked (suc k) vs q later)
      ]
      | inr f ↦ shifted (was_marked (suc k) vs q (subst (λ b. Contains (cond b (k ∷ marked_from (suc k) vs) (marked_from (suc k) vs)) q) f h))
    ]
  where
    shifted : ((p : ℕ) × (q ≡ suc k + p) × (p < length vs) × ((get_or vs p unreached_vertex).improved ≡ true)) → (p : ℕ) × (q ≡ k + p) × (p < length (v ∷ vs)) × ((get_or (v ∷ vs) p unreached_vertex).improved ≡ true)
    shifted w = (suc w.0, (let e : q ≡ suc k + w.0 = w.1 in omega arith), (let l : w.0 < length vs = w.2 in omega arith), w.3)

-- no vertex is marked exactly where none is improved
pub none_improved : (k : ℕ) (vs : List Vertex) → length (marked_from k vs) ≡ 0 → (p : ℕ) → (get_or vs p unreached_vertex).improved ≡ false
none_improved k vs e p =
    elim (cases_Bool (get_or vs p unreached_vertex).improved) [
      | inl t ↦ (let h = has_mark k vs p t in absurd (let l : h.0 < length (marked_from k vs) = h.1 in omega arith))
      | inr f ↦ f
    ]

pub none_counted : (k : ℕ) (vs : List Vertex) → ((p : ℕ) → (get_or vs p unreached_vertex).improved ≡ false) → length (marked_from k vs) ≡ 0
none_counted k [] h = refl
none_counted k (v ∷ vs) h =
    ap (λ b. length (cond b (k ∷ marked_from (suc k) vs) (marked_from (suc k) vs))) (h 0) ∙ none_counted (suc k) vs (λ p. h (suc p))

pub calm_at : (vs : List Vertex) (p : ℕ) → get_or (map calm vs) p unreached_vertex ≡ calm (get_or vs p unreached_vertex)
calm_at [] p = refl
calm_at (v ∷ vs) zero = refl
calm_at (v ∷ vs) (suc p) = calm_at vs p
