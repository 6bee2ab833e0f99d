-- The rounds of a bucket over all vertices: light rounds, which end, and a heavy one.
use Rattle.std.proofs.Common.{ℕ, suc, ◌+◌, ◌*◌, ◌/◌, ◌%◌, ◌≤◌, ◌<◌, ◌≡◌, Bool, true, false, not, ◌&&◌, ◌||◌, List, [], ◌∷◌, ◌++◌, Option, Some, None, length, All, arith, refl, sym, ap, ◌∙◌, subst, inl, inr, ◌⊎◌, ◌-◌}
use Rattle.std.specs.Prelude.{Contains, nat_le}
use Rattle.std.specs.List.{filter}
use Rattle.std.proofs.Math.Nat.{mod-lt}
use Rattle.std.proofs.lemmas.Bool.{cases_Bool, cases_lt, eqb-true, eq-eqb, and_from, and_parts, or_left, or_right, or_cases, false≢true, leb-true, leb-false}
use Rattle.std.proofs.lemmas.Nat.{div-add-mod', div-mul-add}
use Rattle.std.proofs.lemmas.List.Elements.{All-contains}
use Rattle.std.proofs.lemmas.Option.{same_Some}
use Rattle.bale_items.specs.declared.triple.Triple.{Triple}
use Rattle.least_walks.specs.Walks.{IsWalk, weight_of, AtMost}
use Rattle.least_walks.specs.Vertices.{weight_in}
use Rattle.least_walks.proofs.Settled.{cost, at_most_le, walk_push, weight_push, Walked}
use Rattle.app_sssp.proofs.Rounds.{Stage}

-- an edge is light
abbrev pub is_light : ℕ → Triple → Bool
is_light width e = nat_le (cost e) width

-- a vertex took the offer of an edge
pub record Took (es : List Triple) (sent : Triple → Bool) (x y : Stage) (v : ℕ) : Type 0 where
  pub edge : Triple
  pub is : Contains es edge
  pub was_sent : sent edge ≡ true
  pub to : edge.j ≡ v
  pub before : ℕ
  pub from : x.found edge.i ≡ Some before
  pub new : y.found v ≡ Some (before + cost edge)
  pub less : ¬ AtMost (x.found v) (before + cost edge)

-- a round in which some edges offer weights; fresh vertices are the pending ones
pub record Offers (es : List Triple) (sent : Triple → Bool) (x y : Stage) : Type 0 where
  pub tried : (e : Triple) → Contains es e → sent e ≡ true → (m : ℕ) → x.found e.i ≡ Some m → AtMost (y.found e.j) (m + cost e)
  pub each : (v : ℕ) → ((y.found v ≡ x.found v) × (y.fresh v ≡ x.fresh v)) ⊎ ((y.fresh v ≡ true) × Took es sent x y v)

-- weights only fall
pub offers_fall : (es : List Triple) (sent : Triple → Bool) (x y : Stage) → Offers es sent x y → (v n : ℕ) → AtMost (x.found v) n → AtMost (y.found v) n
offers_fall es sent x y round v n h =
    elim (round.each v) [
      | inl same ↦ subst (λ o. AtMost o n) (sym same.0) h
      | inr new' ↦
          let i : Took es sent x y v = new'.1 in
          elim (cases_lt (i.before + cost i.edge) n) [
            | inl l ↦ (i.before + cost i.edge, i.new, (let k : i.before + cost i.edge ≤ n = omega arith in k))
            | inr m ↦ absurd (i.less (at_most_le (x.found v) n (i.before + cost i.edge) h m))
          ]
    ]

-- and a vertex whose weight changed is pending
changed_fresh : (es : List Triple) (sent : Triple → Bool) (x y : Stage) → Offers es sent x y → (v : ℕ) → (y.found v ≡ x.found v) ⊎ (y.fresh v ≡ true)
changed_fresh es sent x y round v = elim (round.each v) [ inl same ↦ inl same.0 | inr new' ↦ inr new'.0 ]

-- ---- What is owed

-- each weight is that of a walk, and an edge that improves a weight has a pending beginning, or is
-- heavy and has an open one
pub record Owes (es : List Triple) (s width : ℕ) (open' : ℕ → Bool) (x : Stage) : Type 0 where
  pub walked : Walked es s x.found
  pub start : AtMost (x.found s) 0
  pub owed : (e : Triple) → Contains es e → (m : ℕ) → x.found e.i ≡ Some m → AtMost (x.found e.j) (m + cost e) ⊎ ((x.fresh e.i ≡ true) ⊎ ((open' e.i ≡ true) × (is_light width e ≡ false)))

offers_walked : (es : List Triple) (sent : Triple → Bool) (s : ℕ) (x y : Stage) → Offers es sent x y → Walked es s x.found → Walked es s y.found
offers_walked es sent s x y round walked v m found =
    elim (round.each v) [
      | inl same ↦ walked v m (sym same.0 ∙ found)
      | inr new' ↦
          let i : Took es sent x y v = new'.1 in
          let w = walked i.edge.i i.before i.from in
          let is : m ≡ i.before + cost i.edge = same_Some m (i.before + cost i.edge) (sym found ∙ i.new) in (
            w.0 ++ i.edge ∷ [],
            subst (λ t. IsWalk es s t (w.0 ++ i.edge ∷ [])) i.to (walk_push es s i.edge.i w.0 i.edge w.1 i.is refl),
            weight_push w.0 i.edge ∙ ap (λ k. k + cost i.edge) w.2 ∙ sym is,
          )
    ]

-- the active vertices of a bucket: pending, and with weights in it
abbrev pub active : ℕ → ℕ → Stage → ℕ → Bool
active width b x v = x.fresh v && weight_in width b (x.found v)

-- a stage whose active vertices are no longer pending
abbrev pub calmed_stage : ℕ → ℕ → Stage → Stage
calmed_stage width b x = record { found = x.found; fresh = λ v. x.fresh v && not (weight_in width b (x.found v)) }

-- in a light round the light edges of active vertices offer
abbrev pub light_sent : ℕ → ℕ → Stage → Triple → Bool
light_sent width b x e = is_light width e && active width b x e.i

abbrev pub heavy_sent : ℕ → (ℕ → Bool) → Triple → Bool
heavy_sent width open' e = not (is_light width e) && open' e.i

abbrev pub opened : (ℕ → Bool) → ℕ → ℕ → Stage → ℕ → Bool
opened open' width b x v = open' v || active width b x v

pub light_owes : (es : List Triple) (s width b : ℕ) (open' : ℕ → Bool) (x y : Stage) → Owes es s width open' x → Offers es (light_sent width b x) (calmed_stage width b x) y → Owes es s width (opened open' width b x) y
light_owes es s width b open' x y owes round =
    record {
      walked = offers_walked es (light_sent width b x) s (calmed_stage width b x) y round owes.walked;
      start = offers_fall es (light_sent width b x) (calmed_stage width b x) y round s 0 owes.start;
      owed = λ e has m found. elim (changed_fresh es (light_sent width b x) (calmed_stage width b x) y round e.i) [
        | inr pending ↦ inr (inl pending)
        | inl same ↦ go e has m (sym same ∙ found) (owes.owed e has m (sym same ∙ found))
      ];
    }
  where
    falls : (v n : ℕ) → AtMost (x.found v) n → AtMost (y.found v) n
    falls v n h = offers_fall es (light_sent width b x) (calmed_stage width b x) y round v n h

    stays : (v : ℕ) → (x.fresh v && not (weight_in width b (x.found v))) ≡ true → y.fresh v ≡ true
    stays v h = elim (round.each v) [ inl same ↦ same.1 ∙ h | inr new' ↦ new'.0 ]

    go : (e : Triple) → Contains es e → (m : ℕ) → x.found e.i ≡ Some m → AtMost (x.found e.j) (m + cost e) ⊎ ((x.fresh e.i ≡ true) ⊎ ((open' e.i ≡ true) × (is_light width e ≡ false)))
        → AtMost (y.found e.j) (m + cost e) ⊎ ((y.fresh e.i ≡ true) ⊎ ((opened open' width b x e.i ≡ true) × (is_light width e ≡ false)))
    go e has m found owing =
        elim owing [
          | inl relaxed ↦ inl (falls e.j (m + cost e) relaxed)
          | inr (inr late) ↦ inr (inr (or_left (open' e.i) (active width b x e.i) late.0, late.1))
          | inr (inl pending) ↦ elim (cases_Bool (weight_in width b (x.found e.i))) [
            | inr out ↦ inr (inl (stays e.i (and_from (x.fresh e.i) (not (weight_in width b (x.found e.i))) pending (ap not out))))
            | inl in_it ↦ elim (cases_Bool (is_light width e)) [
              | inl light ↦ inl (round.tried e has (and_from (is_light width e) (active width b x e.i) light (and_from (x.fresh e.i) (weight_in width b (x.found e.i)) pending in_it)) m found)
              | inr heavy ↦ inr (inr (or_right (open' e.i) (active width b x e.i) (and_from (x.fresh e.i) (weight_in width b (x.found e.i)) pending in_it), heavy))
            ]
          ]
        ]

abbrev pub none_open : ℕ → Bool
none_open v = false

pub heavy_owes : (es : List Triple) (s width : ℕ) (open' : ℕ → Bool) (x y : Stage) → Owes es s width open' x → Offers es (heavy_sent width open') x y → Owes es s width none_open y
heavy_owes es s width open' x y owes round =
    record {
      walked = offers_walked es (heavy_sent width open') s x y round owes.walked;
      start = offers_fall es (heavy_sent width open') x y round s 0 owes.start;
      owed = λ e has m found. elim (changed_fresh es (heavy_sent width open') x y round e.i) [
        | inr pending ↦ inr (inl pending)
        | inl same ↦ go e has m (sym same ∙ found) (owes.owed e has m (sym same ∙ found))
      ];
    }
  where
    stays : (v : ℕ) → x.fresh v ≡ true → y.fresh v ≡ true
    stays v h = elim (round.each v) [ inl same ↦ same.1 ∙ h | inr new' ↦ new'.0 ]

    go : (e : Triple) → Contains es e → (m : ℕ) → x.found e.i ≡ Some m → AtMost (x.found e.j) (m + cost e) ⊎ ((x.fresh e.i ≡ true) ⊎ ((open' e.i ≡ true) × (is_light width e ≡ false)))
        → AtMost (y.found e.j) (m + cost e) ⊎ ((y.fresh e.i ≡ true) ⊎ ((none_open e.i ≡ true) × (is_light width e ≡ false)))
    go e has m found owing =
        elim owing [
          | inl relaxed ↦ inl (offers_fall es (heavy_sent width open') x y round e.j (m + cost e) relaxed)
          | inr (inl pending) ↦ inr (inl (stays e.i pending))
          | inr (inr late) ↦ inl (round.tried e has (and_from (not (is_light width e)) (open' e.i) (ap not late.1) late.0) m found)
        ]

-- ---- Bounds on weights

-- a weight in a bucket
pub bucket_low : (width b m : ℕ) → 0 < width → weight_in width b (Some m) ≡ true → (b * width ≤ m) × (m < b * width + width)
bucket_low width b m some h =
    let e : m / width ≡ b = eqb-true (m / width) b h in
    let whole : m / width * width + m % width ≡ m = div-add-mod' m width in
    let part : m % width < width = mod-lt m some in
    let same : m / width * width ≡ b * width = ap (λ k. k * width) e in
    ((let l : b * width ≤ m = omega arith in l), (let u : m < b * width + width = omega arith in u))

pub in_bucket_from : (width b m : ℕ) → b * width ≤ m → m < b * width + width → weight_in width b (Some m) ≡ true
in_bucket_from width b m low high =
    let rest : b * width + (m - b * width) ≡ m = omega arith in
    let div : (b * width + (m - b * width)) / width ≡ b = div-mul-add b width (m - b * width) (omega arith) in
    eq-eqb (m / width) b (ap (λ k. k / width) (sym rest) ∙ div)

-- what holds of the weights while bucket b is worked on: pending ones are not below it, open ones
-- in it, and all at most top
pub record Within (width b top : ℕ) (open' : ℕ → Bool) (x : Stage) : Type 0 where
  pub floor : (v m : ℕ) → x.fresh v ≡ true → x.found v ≡ Some m → b * width ≤ m
  pub open_in : (v m : ℕ) → open' v ≡ true → x.found v ≡ Some m → (b * width ≤ m) × (m < b * width + width)
  pub below : (v m : ℕ) → x.found v ≡ Some m → m ≤ top
  pub open_found : (v : ℕ) → open' v ≡ true → (m : ℕ) × (x.found v ≡ Some m)

active_in : (width b : ℕ) (x : Stage) (v m : ℕ) → 0 < width → active width b x v ≡ true → x.found v ≡ Some m → (b * width ≤ m) × (m < b * width + width)
active_in width b x v m some h found =
    bucket_low width b m some (ap (weight_in width b) (sym found) ∙ (and_parts (x.fresh v) (weight_in width b (x.found v)) h).1)

active_found : (width b : ℕ) (x : Stage) (v : ℕ) → active width b x v ≡ true → (m : ℕ) × (x.found v ≡ Some m)
active_found width b x v h = from (x.found v) refl
  where
    from : (o : Option ℕ) → x.found v ≡ o → (m : ℕ) × (x.found v ≡ Some m)
    from None e = absurd (false≢true (ap (weight_in width b) (sym e) ∙ (and_parts (x.fresh v) (weight_in width b (x.found v)) h).1))
    from (Some m) e = (m, e)

pub light_within : (es : List Triple) (width b top : ℕ) (open' : ℕ → Bool) (x y : Stage) → 0 < width → b * width + width + width ≤ top → Within width b top open' x → Offers es (light_sent width b x) (calmed_stage width b x) y
    → Within width b top (opened open' width b x) y
light_within es width b top open' x y some room old round =
    record {
      floor = λ v m pending found. elim (round.each v) [
        | inl same ↦ old.floor v m (and_parts (x.fresh v) (not (weight_in width b (x.found v))) (sym same.1 ∙ pending)).0 (sym same.0 ∙ found)
        | inr new' ↦ (new_in v m found new'.1).0
      ];
      open_in = λ v m isopen found. elim (round.each v) [
        | inl same ↦ elim (or_cases (open' v) (active width b x v) isopen) [
          | inl before ↦ old.open_in v m before (sym same.0 ∙ found)
          | inr now ↦ active_in width b x v m some now (sym same.0 ∙ found)
        ]
        | inr new' ↦
            let i : Took es (light_sent width b x) (calmed_stage width b x) y v = new'.1 in
            let o = was_open v isopen in
            let n = new_in v m found i in
            let high : o.0 < b * width + width = o.2 in
            let is : m ≡ i.before + cost i.edge = same_Some m (i.before + cost i.edge) (sym found ∙ i.new) in (
              n.0,
              elim (cases_lt m (b * width + width)) [
                | inl l ↦ l
                | inr g ↦ absurd (i.less (o.0, o.1, (let k : o.0 ≤ i.before + cost i.edge = omega arith in k)))
              ],
            )
      ];
      below = λ v m found. elim (round.each v) [
        | inl same ↦ old.below v m (sym same.0 ∙ found)
        | inr new' ↦ (new_in v m found new'.1).1
      ];
      open_found = λ v isopen. (let o = was_open v isopen in let f = offers_fall es (light_sent width b x) (calmed_stage width b x) y round v o.0 (o.0, o.1, (let k : o.0 ≤ o.0 = omega arith in k)) in (f.0, f.1));
    }
  where
    was_open : (v : ℕ) → opened open' width b x v ≡ true → (m : ℕ) × (x.found v ≡ Some m) × (m < b * width + width)
    was_open v h =
        elim (or_cases (open' v) (active width b x v) h) [
          | inl before ↦ (let f = old.open_found v before in (f.0, f.1, (old.open_in v f.0 before f.1).1))
          | inr now ↦ (let f = active_found width b x v now in (f.0, f.1, (active_in width b x v f.0 some now f.1).1))
        ]

    new_in : (v m : ℕ) → y.found v ≡ Some m → Took es (light_sent width b x) (calmed_stage width b x) y v → (b * width ≤ m) × (m ≤ top)
    new_in v m found i =
        let parts = and_parts (is_light width i.edge) (active width b x i.edge.i) i.was_sent in
        let light : cost i.edge ≤ width = leb-true (cost i.edge) width parts.0 in
        let from = active_in width b x i.edge.i i.before some parts.1 i.from in
        let low : b * width ≤ i.before = from.0 in
        let high : i.before < b * width + width = from.1 in
        let is : m ≡ i.before + cost i.edge = same_Some m (i.before + cost i.edge) (sym found ∙ i.new) in
        ((let l : b * width ≤ m = omega arith in l), (let u : m ≤ top = omega arith in u))

-- after the heavy round all pending weights are beyond the bucket
pub record Beyond (width f top : ℕ) (x : Stage) : Type 0 where
  pub floor : (v m : ℕ) → x.fresh v ≡ true → x.found v ≡ Some m → f * width ≤ m
  pub below : (v m : ℕ) → x.found v ≡ Some m → m ≤ top

pub heavy_beyond : (es : List Triple) (width b top limit : ℕ) (open' : ℕ → Bool) (x y : Stage) → 0 < width → All (λ (e : Triple). cost e ≤ limit) es → b * width + width + limit ≤ top → Within width b top open' x
    → ((v : ℕ) → active width b x v ≡ false) → Offers es (heavy_sent width open') x y → Beyond width (suc b) top y
heavy_beyond es width b top limit open' x y some few room old none round =
    record {
      floor = λ v m pending found. elim (round.each v) [
        | inl same ↦
            let low : b * width ≤ m = old.floor v m (sym same.1 ∙ pending) (sym same.0 ∙ found) in
            let next : suc b * width ≡ b * width + width = grind arith in
            elim (cases_lt m (b * width + width)) [
              | inr g ↦ (let k : suc b * width ≤ m = omega arith in k)
              | inl l ↦ absurd (false≢true (sym (none v) ∙ and_from (x.fresh v) (weight_in width b (x.found v)) (sym same.1 ∙ pending) (ap (weight_in width b) (sym same.0 ∙ found) ∙ in_bucket_from width b m low l)))
            ]
        | inr new' ↦ (new_in v m found new'.1).0
      ];
      below = λ v m found. elim (round.each v) [
        | inl same ↦ old.below v m (sym same.0 ∙ found)
        | inr new' ↦ (new_in v m found new'.1).1
      ];
    }
  where
    new_in : (v m : ℕ) → y.found v ≡ Some m → Took es (heavy_sent width open') x y v → (suc b * width ≤ m) × (m ≤ top)
    new_in v m found i =
        let parts = and_parts (not (is_light width i.edge)) (open' i.edge.i) i.was_sent in
        let heavy : width < cost i.edge = leb-false (cost i.edge) width (from_not (is_light width i.edge) parts.0) in
        let from = old.open_in i.edge.i i.before parts.1 i.from in
        let low : b * width ≤ i.before = from.0 in
        let high : i.before < b * width + width = from.1 in
        let one : cost i.edge ≤ limit = All-contains (λ (e : Triple). cost e ≤ limit) es i.edge few i.is in
        let is : m ≡ i.before + cost i.edge = same_Some m (i.before + cost i.edge) (sym found ∙ i.new) in
        let next : suc b * width ≡ b * width + width = grind arith in
        ((let l : suc b * width ≤ m = omega arith in l), (let u : m ≤ top = omega arith in u))
      where
        from_not : (b : Bool) → not b ≡ true → b ≡ false
        from_not true h = absurd (false≢true h)
        from_not false h = refl

-- ---- Light rounds end

-- the light edges
abbrev pub lights : ℕ → List Triple → List Triple
lights width es = filter (is_light width) es

-- a pending weight of the bucket has its walk of light edges from a vertex that was active as the
-- bucket began
pub record Origin (es : List Triple) (width b : ℕ) (x0 : Stage) (v m : ℕ) : Type 0 where
  pub from : ℕ
  pub begun : active width b x0 from ≡ true
  pub base : ℕ
  pub found : x0.found from ≡ Some base
  pub walk : List Triple
  pub is : IsWalk (lights width es) from v walk
  pub weighs : base + weight_of walk ≡ m

-- what k light rounds have done
pub record Lit (es : List Triple) (width b k : ℕ) (x0 x : Stage) : Type 0 where
  pub short : (s base v : ℕ) (w : List Triple) → active width b x0 s ≡ true → x0.found s ≡ Some base → IsWalk (lights width es) s v w → length w ≤ k → base + weight_of w < b * width + width → AtMost (x.found v) (base + weight_of w)
  pub origin : (v m : ℕ) → x.fresh v ≡ true → x.found v ≡ Some m → m < b * width + width → Origin es width b x0 v m

pub lit_begins : (es : List Triple) (width b top : ℕ) (open' : ℕ → Bool) (x : Stage) → Within width b top open' x → Lit es width b 0 x x
lit_begins es width b top open' x within =
    record {
      short = short;
      origin = λ v m pending found low.
          record {
            from = v;
            begun = and_from (x.fresh v) (weight_in width b (x.found v)) pending (ap (weight_in width b) found ∙ in_bucket_from width b m (within.floor v m pending found) low);
            base = m;
            found = found;
            walk = [];
            is = refl;
            weighs = (let z : weight_of [] ≡ 0 = refl in omega arith);
          };
    }
  where
    short : (s base v : ℕ) (w : List Triple) → active width b x s ≡ true → x.found s ≡ Some base → IsWalk (lights width es) s v w → length w ≤ 0 → base + weight_of w < b * width + width → AtMost (x.found v) (base + weight_of w)
    short s base v [] begun found walk l low = (base, subst (λ t. x.found t ≡ Some base) walk found, (let z : weight_of [] ≡ 0 = refl in omega arith))
    short s base v (e ∷ w) begun found walk l low = absurd (omega arith)
