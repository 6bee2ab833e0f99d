-- A bucket has at most as many light rounds as there are vertices, and there are at most as many
-- buckets.
use Rattle.std.proofs.Common.{ℕ, suc, ◌+◌, ◌*◌, ◌≤◌, ◌<◌, ◌≡◌, Bool, true, false, not, cond, List, [], ◌∷◌, ◌++◌, Option, Some, None, length, All, arith, refl, sym, ap, ◌∙◌, subst, inl, inr}
use Rattle.std.specs.Prelude.{Contains, nat_le}
use Rattle.std.proofs.lemmas.Bool.{cases_Bool, and_from, and_parts, false≢true, le-leb, leb-true}
use Rattle.std.proofs.lemmas.List.{length_push}
use Rattle.std.proofs.lemmas.List.Elements.{All-contains, All-filter}
use Rattle.std.proofs.lemmas.Option.{same_Some}
use Rattle.bale_items.specs.declared.triple.Triple.{Triple}
use Rattle.list_laws.specs.Sums.{total}
use Rattle.list_laws.proofs.Sums.{total_lt, total_bound}
use Rattle.least_walks.specs.Walks.{IsWalk, weight_of, AtMost}
use Rattle.least_walks.specs.Vertices.{weight_in}
use Rattle.least_walks.proofs.Members.{has_filtered, was_filtered}
use Rattle.least_walks.proofs.Settled.{cost, at_most_le, walk_push, weight_push}
use Rattle.least_walks.proofs.Simple.{IsSimple, simple_of, simple_short}
use Rattle.app_sssp.proofs.Rounds.{Stage, Last, last_edge}
use Rattle.delta_step.proofs.Buckets.{is_light, Took, Offers, offers_fall, Owes, active, calmed_stage, light_sent, bucket_low, in_bucket_from, Within, lights, Origin, Lit}

module _ (es : List Triple) (s0 width b top : ℕ) (open' : ℕ → Bool) (x0 x y : Stage) (some : 0 < width) (owes : Owes es s0 width open' x) (within : Within width b top open' x)
    (round : Offers es (light_sent width b x) (calmed_stage width b x) y) where
  falls : (v n : ℕ) → AtMost (x.found v) n → AtMost (y.found v) n
  falls v n h = offers_fall es (light_sent width b x) (calmed_stage width b x) y round v n h

  -- a light edge out of a vertex of the bucket was tried in the round, or improved nothing before
  -- it
  light_done : (e : Triple) → Contains (lights width es) e → (m : ℕ) → x.found e.i ≡ Some m → m < b * width + width → AtMost (y.found e.j) (m + cost e)
  light_done e has m found low =
      let in_es = was_filtered (is_light width) es e has in
      elim (owes.owed e in_es.0 m found) [
        | inl relaxed ↦ falls e.j (m + cost e) relaxed
        | inr (inr late) ↦ absurd (false≢true (sym late.1 ∙ in_es.1))
        | inr (inl pending) ↦
            round.tried e in_es.0 (and_from (is_light width e) (active width b x e.i) in_es.1
            (and_from (x.fresh e.i) (weight_in width b (x.found e.i)) pending (ap (weight_in width b) found ∙ in_bucket_from width b m (within.floor e.i m pending found) low))) m found
      ]

  -- a pending vertex of the bucket is one that was improved in the round
  newly : (v m : ℕ) → y.fresh v ≡ true → y.found v ≡ Some m → m < b * width + width → Took es (light_sent width b x) (calmed_stage width b x) y v
  newly v m pending found low =
      elim (round.each v) [
        | inr new' ↦ new'.1
        | inl same ↦
            let was = and_parts (x.fresh v) (not (weight_in width b (x.found v))) (sym same.1 ∙ pending) in
            let floor : b * width ≤ m = within.floor v m was.0 (sym same.0 ∙ found) in
            let inside : weight_in width b (x.found v) ≡ true = ap (weight_in width b) (sym same.0 ∙ found) ∙ in_bucket_from width b m floor low in
            absurd (false≢true (ap not (sym inside) ∙ was.1))
      ]

  pub lit_more : (k : ℕ) → Lit es width b k x0 x → Lit es width b (suc k) x0 y
  lit_more k lit =
      record {
        short = short;
        origin = λ v m pending found low.
            let i : Took es (light_sent width b x) (calmed_stage width b x) y v = newly v m pending found low in
            let parts = and_parts (is_light width i.edge) (active width b x i.edge.i) i.was_sent in
            let act = and_parts (x.fresh i.edge.i) (weight_in width b (x.found i.edge.i)) parts.1 in
            let from = bucket_low width b i.before some (ap (weight_in width b) (sym i.from) ∙ act.1) in
            let before : Origin es width b x0 i.edge.i i.before = lit.origin i.edge.i i.before act.0 i.from from.1 in
            let is : m ≡ i.before + cost i.edge = same_Some m (i.before + cost i.edge) (sym found ∙ i.new) in
            record {
              from = before.from;
              begun = before.begun;
              base = before.base;
              found = before.found;
              walk = before.walk ++ i.edge ∷ [];
              is = subst (λ t. IsWalk (lights width es) before.from t (before.walk ++ i.edge ∷ [])) i.to (walk_push (lights width es) before.from i.edge.i before.walk i.edge before.is (has_filtered (is_light width) es i.edge i.is parts.0) refl);
              weighs = (let sum : weight_of (before.walk ++ i.edge ∷ []) ≡ weight_of before.walk + cost i.edge = weight_push before.walk i.edge in let w : before.base + weight_of before.walk ≡ i.before = before.weighs in omega arith);
            };
      }
    where
      short : (s base v : ℕ) (w : List Triple) → active width b x0 s ≡ true → x0.found s ≡ Some base → IsWalk (lights width es) s v w → length w ≤ suc k → base + weight_of w < b * width + width → AtMost (y.found v) (base + weight_of w)
      short s base v [] begun found walk l low = falls v (base + weight_of []) (lit.short s base v [] begun found walk (omega arith) low)
      short s base v (e ∷ w) begun found walk l low =
          let last : Last (lights width es) s v (e ∷ w) = last_edge (lights width es) s v e w walk in
          let len : length (e ∷ w) ≡ length last.front + 1 = ap length last.is ∙ length_push last.front last.edge in
          let sum : weight_of (e ∷ w) ≡ weight_of last.front + cost last.edge = ap weight_of last.is ∙ weight_push last.front last.edge in
          let front : AtMost (x.found last.edge.i) (base + weight_of last.front) = lit.short s base last.edge.i last.front begun found last.walk (omega arith) (omega arith) in
          let m : ℕ = front.0 in
          let light : m ≤ base + weight_of last.front = front.2 in
          let done : AtMost (y.found last.edge.j) (m + cost last.edge) = light_done last.edge last.has m front.1 (omega arith) in
          subst (λ t. AtMost (y.found t) (base + weight_of (e ∷ w))) last.to (at_most_le (y.found last.edge.j) (m + cost last.edge) (base + weight_of (e ∷ w)) done (omega arith))

  -- among n vertices the round after n - 1 light rounds leaves none of the bucket pending
  pub lit_ends : (n k : ℕ) → All (λ (e : Triple). e.i < n) es → All (λ (e : Triple). e.j < n) es → Lit es width b k x0 x → Lit es width b (suc k) x0 y → n ≤ suc k → (v : ℕ) → active width b y v ≡ false
  lit_ends n k rows cols lit then' late v =
      elim (cases_Bool (active width b y v)) [
        | inr off ↦ off
        | inl on ↦ absurd (never v on (y.found v) refl)
      ]
    where
      never : (v : ℕ) → active width b y v ≡ true → (o : Option ℕ) → y.found v ≡ o → ⊥
      never v on None e = false≢true (ap (weight_in width b) (sym e) ∙ (and_parts (y.fresh v) (weight_in width b (y.found v)) on).1)
      never v on (Some m) e =
          let act = and_parts (y.fresh v) (weight_in width b (y.found v)) on in
          let inside = bucket_low width b m some (ap (weight_in width b) (sym e) ∙ act.1) in
          let i : Took es (light_sent width b x) (calmed_stage width b x) y v = newly v m act.0 e inside.1 in
          let is : m ≡ i.before + cost i.edge = same_Some m (i.before + cost i.edge) (sym e ∙ i.new) in
          let origin : Origin es width b x0 v m = then'.origin v m act.0 e inside.1 in
          let low : v < n = subst (λ t. t < n) i.to (All-contains (λ (e : Triple). e.j < n) es i.edge cols i.is) in
          let simple : IsSimple (lights width es) origin.from v (weight_of origin.walk) = simple_of (lights width es) origin.from v origin.walk origin.is in
          let few : length simple.walk < n = simple_short (lights width es) n origin.from v (weight_of origin.walk) (All-filter (is_light width) (λ (e : Triple). e.i < n) es rows) low simple in
          let light : weight_of simple.walk ≤ weight_of origin.walk = simple.light in
          let weighs : origin.base + weight_of origin.walk ≡ m = origin.weighs in
          let high : m < b * width + width = inside.1 in
          i.less (at_most_le (x.found v) (origin.base + weight_of simple.walk) (i.before + cost i.edge)
          (lit.short origin.from origin.base v simple.walk origin.begun origin.found simple.is (omega arith) (omega arith)) (omega arith))

-- ---- Buckets rise

-- a vertex may still stand in bucket f or beyond
abbrev pub is_later : ℕ → Option ℕ → Bool
is_later floor None = true
is_later floor (Some m) = nat_le floor m

abbrev pub later_one : ℕ → Option ℕ → ℕ
later_one floor o = cond (is_later floor o) 1 0

abbrev pub left_count : ℕ → ℕ → (ℕ → Option ℕ) → ℕ
left_count n floor found = total n (λ v. later_one floor (found v))

later_falls : (low high : ℕ) (old new : Option ℕ) → low ≤ high → ((n : ℕ) → AtMost old n → AtMost new n) → is_later high new ≡ true → is_later low old ≡ true
later_falls low high None new l h late = refl
later_falls low high (Some m) None l h late = (let f = h m (m, refl, (let k : m ≤ m = omega arith in k)) in absurd (no_one f.0 f.1))
  where
    no_one : (m : ℕ) → None ≡ Some m → ⊥
    no_one m e = cc
later_falls low high (Some m) (Some k) l h late =
    let f = h m (m, refl, (let z : m ≤ m = omega arith in z)) in
    let is : k ≡ f.0 = same_Some k f.0 f.1 in
    let le : f.0 ≤ m = f.2 in
    let up : high ≤ k = leb-true high k late in
    le-leb low m (omega arith)

-- fewer are left once a weight fell below the new floor
pub fewer_left : (n low high v m : ℕ) (old new : ℕ → Option ℕ) → low ≤ high → ((v n : ℕ) → AtMost (old v) n → AtMost (new v) n) → v < n → old v ≡ Some m → low ≤ m → m < high → left_count n high new < left_count n low old
fewer_left n low high v m old new l drops inside found from below =
    total_lt n (λ v. later_one high (new v)) (λ v. later_one low (old v)) v inside
    (let now : later_one high (new v) ≡ 0 = gone (new v) (drops v m (m, found, (let k : m ≤ m = omega arith in k))) in
    let was : later_one low (old v) ≡ 1 = ap (later_one low) found ∙ ap (λ (b : Bool). cond {A = ℕ} b 1 0) (le-leb low m from) in
    omega arith)
    (λ k h. each k)
  where
    gone : (o : Option ℕ) → AtMost o m → later_one high o ≡ 0
    gone None h = (let e : None ≡ Some h.0 = h.1 in absurd (no_one h.0 e))
      where
        no_one : (m : ℕ) → None ≡ Some m → ⊥
        no_one m e = cc
    gone (Some k) h =
        let is : k ≡ h.0 = same_Some k h.0 h.1 in
        let le : h.0 ≤ m = h.2 in
        ap (λ (b : Bool). cond {A = ℕ} b 1 0) (le_false high k (omega arith))
      where
        le_false : (a b : ℕ) → b < a → nat_le a b ≡ false
        le_false a b l = elim (cases_Bool (nat_le a b)) [ inl t ↦ (let k : a ≤ b = leb-true a b t in absurd (omega arith)) | inr f ↦ f ]

    each : (k : ℕ) → later_one high (new k) ≤ later_one low (old k)
    each k =
        elim (cases_Bool (is_later high (new k))) [
          | inl t ↦
              let was : is_later low (old k) ≡ true = later_falls low high (old k) (new k) l (drops k) t in
              subst (λ (b : Bool). cond {A = ℕ} b 1 0 ≤ later_one low (old k)) (sym t) (subst (λ (b : Bool). 1 ≤ cond {A = ℕ} b 1 0) (sym was) (omega arith))
          | inr f ↦ subst (λ (b : Bool). cond {A = ℕ} b 1 0 ≤ later_one low (old k)) (sym f) (omega arith)
        ]

pub later_most : (n floor : ℕ) (found : ℕ → Option ℕ) → left_count n floor found ≤ n * 1
later_most n floor found = total_bound n 1 (λ v. later_one floor (found v)) (λ k l. one (is_later floor (found k)))
  where
    one : (b : Bool) → cond {A = ℕ} b 1 0 ≤ 1
    one true = omega arith
    one false = omega arith
