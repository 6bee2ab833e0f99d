-- A find round of the canonical run: vertices stay, and all ranks hear of the least bucket with a
-- pending vertex.
use Rattle.std.proofs.Common.{ℕ, zero, suc, ◌+◌, ◌*◌, ◌/◌, ◌%◌, ◌^◌, ◌<◌, ◌≤◌, ◌≡◌, min, not, true, false, eqb, List, [], ◌∷◌, ◌++◌, Option, Some, None, map, length, get_or, slice_get, arith, inl, inr, refl, sym, ap, ◌∙◌, subst, ◌⊎◌}
use Rattle.std.specs.Prelude.{Contains}
use Rattle.std.specs.List.{fold, range_with_len, list_any}
use Rattle.std.proofs.Math.Nat.{mod-lt, mul-le-mul_left, mul-le-mul_right, div-mul-le_self}
use Rattle.std.proofs.lemmas.Nat.{div-mul-add, mod-mul-add}
use Rattle.round_program.proofs.Items.{items_here, items_other}
use Rattle.std.proofs.lemmas.Bool.{cases_eq, cases_lt, and_from, eq-eqb}
use Rattle.std.proofs.lemmas.List.{length-map}
use Rattle.std.proofs.lemmas.List.Sums.{fold-append}
use Rattle.std.proofs.lemmas.Option.{same_Some}
use Rattle.bale_items.specs.declared.Item.{Item}
use Rattle.bale_items.specs.declared.triple.Triple.{Triple}
use Rattle.list_laws.proofs.Lists.{find, within, get_map, get_once}
use Rattle.round_program.specs.Canonical.{items_of, emitted_of, emitted_by, absorb_all, absorb_upto, absorbed_round, InRound}
use Rattle.least_walks.specs.declared.vertices.Vertex.{Vertex}
use Rattle.least_walks.specs.Vertices.{unreached_vertex, marked_places, weight_in, lesser, least_marked}
use Rattle.least_walks.proofs.Members.{has_head, has_tail, has_cases, none_in, upto, has_upto, was_upto}
use Rattle.least_walks.proofs.Offered.{has_mark, was_marked}
use Rattle.delta_step.specs.declared.phase.Phase.TheVariants.{Find}
use Rattle.delta_step.specs.Deltas.{DeltaState, delta_rules, no_bucket, bucket_of, announced_items, absorbed_in}
use Rattle.delta_step.proofs.Buckets.{is_light, active}
use Rattle.delta_step.proofs.OfferRounds.{vertex_at, stage_of, at_vertex}
use Rattle.delta_step.proofs.Transits.{Keeps, Static, open_of, at_open}

-- ---- The least bucket of some items

-- the least of a number and those of some items
abbrev pub heard : ℕ → List Item → ℕ
heard b xs = fold (λ k (x : Item). min k x.a) b xs

heard_le : (b : ℕ) (xs : List Item) → heard b xs ≤ b
heard_le b [] = omega arith
heard_le b (x ∷ xs) = (let rest : heard (min b x.a) xs ≤ min b x.a = heard_le (min b x.a) xs in omega arith)

heard_low : (b : ℕ) (xs : List Item) (x : Item) → Contains xs x → heard b xs ≤ x.a
heard_low b [] x h = absurd (none_in x h)
heard_low b (y ∷ ys) x h =
    elim (has_cases y x ys h) [
      | inl same ↦
          (let rest : heard (min b y.a) ys ≤ min b y.a = heard_le (min b y.a) ys in
          let e : y.a ≡ x.a = ap (λ (z : Item). z.a) same in
          omega arith)
      | inr later ↦ heard_low (min b y.a) ys x later
    ]

heard_from : (b : ℕ) (xs : List Item) → (heard b xs ≡ b) ⊎ ((x : Item) × Contains xs x × (heard b xs ≡ x.a))
heard_from b [] = inl refl
heard_from b (x ∷ xs) =
    elim (heard_from (min b x.a) xs) [
      | inr later ↦ inr (later.0, has_tail x later.0 xs later.1, later.2)
      | inl same ↦ elim (cases_lt x.a b) [
        | inl l ↦ inr (x, has_head x xs, same ∙ (let e : min b x.a ≡ x.a = omega arith in e))
        | inr m ↦ inl (same ∙ (let e : min b x.a ≡ b = omega arith in e))
      ]
    ]

-- ---- The least weight of a pending vertex

lesser_none : (o : Option ℕ) → lesser o None ≡ o
lesser_none None = refl
lesser_none (Some a) = refl

-- the least over some places is at most that of each, and one of them
record IsLeastOf (vs : List Vertex) (o : Option ℕ) (places : List ℕ) (least : Option ℕ) : Type 0 where
  pub low : (p m : ℕ) → Contains places p → (get_or vs p unreached_vertex).weight ≡ Some m → (k : ℕ) × (least ≡ Some k) × (k ≤ m)
  pub from_o : (m : ℕ) → o ≡ Some m → (k : ℕ) × (least ≡ Some k) × (k ≤ m)
  pub reached : (k : ℕ) → least ≡ Some k → (o ≡ Some k) ⊎ ((p : ℕ) × Contains places p × ((get_or vs p unreached_vertex).weight ≡ Some k))

lesser_left : (a b : Option ℕ) (m : ℕ) → a ≡ Some m → (k : ℕ) × (lesser a b ≡ Some k) × (k ≤ m)
lesser_left None b m e = absurd (no_one m e)
  where
    no_one : (m : ℕ) → None ≡ Some m → ⊥
    no_one m e = cc
lesser_left (Some a) None m e = (a, refl, (let s : a ≡ m = same_Some a m e in omega arith))
lesser_left (Some a) (Some b) m e = (min a b, refl, (let s : a ≡ m = same_Some a m e in omega arith))

lesser_right : (a b : Option ℕ) (m : ℕ) → b ≡ Some m → (k : ℕ) × (lesser a b ≡ Some k) × (k ≤ m)
lesser_right None b m e = (m, e, (let l : m ≤ m = omega arith in l))
lesser_right (Some a) None m e = absurd (no_one m e)
  where
    no_one : (m : ℕ) → None ≡ Some m → ⊥
    no_one m e = cc
lesser_right (Some a) (Some b) m e = (min a b, refl, (let s : b ≡ m = same_Some b m e in omega arith))

lesser_from : (a b : Option ℕ) (k : ℕ) → lesser a b ≡ Some k → (a ≡ Some k) ⊎ (b ≡ Some k)
lesser_from None b k e = inr e
lesser_from (Some a) None k e = inl e
lesser_from (Some a) (Some b) k e =
    let s : min a b ≡ k = same_Some (min a b) k e in
    elim (cases_lt a b) [ inl l ↦ inl (ap Some (let z : a ≡ k = omega arith in z)) | inr m ↦ inr (ap Some (let z : b ≡ k = omega arith in z)) ]

least_over : (vs : List Vertex) (o : Option ℕ) (places : List ℕ) → IsLeastOf vs o places (fold (λ w p. lesser w (get_or vs p unreached_vertex).weight) o places)
least_over vs o [] =
    record {
      low = λ p m h e. absurd (none_in p h);
      from_o = λ m e. (m, e, (let l : m ≤ m = omega arith in l));
      reached = λ k e. inl e;
    }
least_over vs o (q ∷ qs) =
    let next : Option ℕ = lesser o (get_or vs q unreached_vertex).weight in
    let rest : IsLeastOf vs next qs (fold (λ w p. lesser w (get_or vs p unreached_vertex).weight) next qs) = least_over vs next qs in
    record {
      low = λ p m h e. elim (has_cases q p qs h) [
        | inl same ↦
            (let one = lesser_right o (get_or vs q unreached_vertex).weight m (ap (λ j. (get_or vs j unreached_vertex).weight) same ∙ e) in
            let two = rest.from_o one.0 one.1 in
            (two.0, two.1, (let a : one.0 ≤ m = one.2 in let b : two.0 ≤ one.0 = two.2 in omega arith)))
        | inr later ↦ rest.low p m later e
      ];
      from_o = λ m e.
          (let one = lesser_left o (get_or vs q unreached_vertex).weight m e in
          let two = rest.from_o one.0 one.1 in
          (two.0, two.1, (let a : one.0 ≤ m = one.2 in let b : two.0 ≤ one.0 = two.2 in omega arith)));
      reached = λ k e. elim (rest.reached k e) [
        | inr later ↦ inr (later.0, has_tail q later.0 qs later.1, later.2)
        | inl here ↦ elim (lesser_from o (get_or vs q unreached_vertex).weight k here) [
          | inl from ↦ inl from
          | inr new' ↦ inr (q, has_head q qs, new')
        ]
      ];
    }

-- ---- Announcements

none_told : (r : ℕ) (x : Item) (k n : ℕ) → r < k → items_of r (map (λ d. (d, x)) (range_with_len k n)) ≡ []
none_told r x k zero l = refl
none_told r x k (suc n) l = items_other r (k, x) (map (λ d. (d, x)) (range_with_len (k + 1) n)) (λ e. absurd (let z : k ≡ r = e in omega arith)) ∙ none_told r x (k + 1) n (omega arith)

one_told : (r : ℕ) (x : Item) (k n : ℕ) → k ≤ r → r < k + n → items_of r (map (λ d. (d, x)) (range_with_len k n)) ≡ x ∷ []
one_told r x k zero l m = absurd (omega arith)
one_told r x k (suc n) l m =
    elim (cases_eq k r) [
      | inl same ↦
          subst (λ j. items_of j ((k, x) ∷ map (λ d. (d, x)) (range_with_len (k + 1) n)) ≡ x ∷ []) same
          (items_here (k, x) (map (λ d. (d, x)) (range_with_len (k + 1) n)) ∙ ap (λ ys. x ∷ ys) (none_told k x (k + 1) n (omega arith)))
      | inr other ↦ items_other r (k, x) (map (λ d. (d, x)) (range_with_len (k + 1) n)) other ∙ one_told r x (k + 1) n (omega (arith, other)) (omega arith)
    ]

upto_same : {X : Type 0} (xs ys : ℕ → List X) (n : ℕ) → ((f : ℕ) → f < n → xs f ≡ ys f) → upto xs n ≡ upto ys n
upto_same xs ys zero h = refl
upto_same xs ys (suc n) h = ap (λ l. l ++ xs n) (upto_same xs ys n (λ f l. h f (omega arith))) ∙ ap (λ l. upto ys n ++ l) (h n (omega arith))

-- ---- Absorbs of announcements

all_heard : (s : DeltaState) (f : ℕ) (xs : List Item) → s.phase ≡ Find → absorb_all delta_rules s f xs ≡ record s { bucket = heard s.bucket xs }
all_heard s f [] h = refl
all_heard s f (x ∷ xs) h = ap (λ p. absorb_all delta_rules (absorbed_in p s x) f xs) h ∙ all_heard (record s { bucket = min s.bucket x.a }) f xs h

upto_heard : (s : DeltaState) (lists : ℕ → List Item) (k : ℕ) → s.phase ≡ Find → absorb_upto delta_rules s lists k ≡ record s { bucket = heard s.bucket (upto lists k) }
upto_heard s lists zero h = refl
upto_heard s lists (suc k) h =
    ap (λ t. absorb_all delta_rules t k (lists k)) (upto_heard s lists k h)
    ∙ all_heard (record s { bucket = heard s.bucket (upto lists k) }) k (lists k) h
    ∙ ap (λ b. record s { bucket = b }) (sym (fold-append (λ b (x : Item). min b x.a) s.bucket (upto lists k) (lists k)))

-- a rank as a find round begins
pub record IsFinding (width : ℕ) (t : DeltaState) : Type 0 where
  pub phase : t.phase ≡ Find
  pub none : t.bucket ≡ no_bucket
  pub unsettled : t.settled ≡ []
  pub wide : t.width ≡ width
  pub outgoing : t.outgoing ≡ announced_items t.ranks (bucket_of t.width (least_marked t.vertices))

module _ (es : List Triple) (rows width ranks k : ℕ) (begun : List DeltaState) (shape : List ℕ) (most : ℕ) (some : 0 < ranks) (some_width : 0 < width)
    (all : InRound delta_rules ranks k shape most begun) (static : Static es rows width ranks begun)
    (finding' : (r : ℕ) (t : DeltaState) → slice_get begun r ≡ Some t → IsFinding width t)
    (low : (v k : ℕ) → (stage_of ranks begun).found v ≡ Some k → k ≤ 2 ^ 60)
    (weighed : (v : ℕ) → (stage_of ranks begun).fresh v ≡ true → (m : ℕ) × ((stage_of ranks begun).found v ≡ Some m)) where
  abbrev word_of : ℕ → Item
  word_of b = record { a = b; b = 0; c = 0 }

  -- what a rank tells
  abbrev told_by : Option DeltaState → List Item
  told_by None = []
  told_by (Some t) = word_of (bucket_of width (least_marked t.vertices)) ∷ []

  abbrev told : ℕ → List Item
  told f = told_by (slice_get begun f)

  abbrev pub find_later : List DeltaState
  find_later = absorbed_round delta_rules begun

  -- the bucket that all hear of
  abbrev pub found_bucket : ℕ
  found_bucket = heard no_bucket (upto told ranks)

  rank_at : (r : ℕ) → r < ranks → (t : DeltaState) × (slice_get begun r ≡ Some t)
  rank_at r l = find begun r (subst (λ k. r < k) (sym all.size) l)

  items_are : (r : ℕ) → r < ranks → upto (emitted_by delta_rules begun r) ranks ≡ upto told ranks
  items_are r low_r =
      upto_same (emitted_by delta_rules begun r) told ranks (λ f l.
      let t = rank_at f l in
      let is : IsFinding width t.0 = finding' f t.0 t.1 in
      ap (λ o. emitted_of delta_rules o r) t.1
      ∙ ap (items_of r) (is.outgoing ∙ ap (λ p. announced_items p (bucket_of t.0.width (least_marked t.0.vertices))) (all.each f t.0 t.1).all_ranks ∙ ap (λ w. announced_items ranks (bucket_of w (least_marked t.0.vertices))) is.wide)
      ∙ one_told r (word_of (bucket_of width (least_marked t.0.vertices))) 0 ranks (omega arith) (omega arith)
      ∙ sym (ap told_by t.1))

  later_at : (r : ℕ) (t : DeltaState) → slice_get begun r ≡ Some t → slice_get find_later r ≡ Some (record t { bucket = found_bucket })
  later_at r t at =
      let member = all.each r t at in
      let is : IsFinding width t = finding' r t at in
      let low_r : r < ranks = subst (λ k. r < k) all.size (within begun r t at) in
      get_map (λ t. absorb_upto delta_rules t (emitted_by delta_rules begun t.rank) (length begun)) begun r t at
      ∙ ap Some (upto_heard t (emitted_by delta_rules begun t.rank) (length begun) is.phase
      ∙ ap (λ b. record t { bucket = heard b (upto (emitted_by delta_rules begun t.rank) (length begun)) }) is.none
      ∙ ap (λ j. record t { bucket = heard no_bucket (upto (emitted_by delta_rules begun j) (length begun)) }) member.own_rank
      ∙ ap (λ j. record t { bucket = heard no_bucket (upto (emitted_by delta_rules begun r) j) }) all.size
      ∙ ap (λ xs. record t { bucket = heard no_bucket xs }) (items_are r low_r))

  pub find_was : (r : ℕ) (s : DeltaState) → slice_get find_later r ≡ Some s → (t : DeltaState) × (slice_get begun r ≡ Some t) × (s ≡ record t { bucket = found_bucket })
  find_was r s at =
      let count : length find_later ≡ ranks = length-map begun _ ∙ all.size in
      let t = rank_at r (subst (λ k. r < k) count (within find_later r s at)) in
      (t.0, t.1, get_once find_later r s (record t.0 { bucket = found_bucket }) at (later_at r t.0 t.1))

  find_vertex : (v : ℕ) → vertex_at ranks find_later v ≡ vertex_at ranks begun v
  find_vertex v =
      let t = rank_at (v % ranks) (mod-lt v some) in
      at_vertex ranks find_later (v % ranks) (record t.0 { bucket = found_bucket }) v (later_at (v % ranks) t.0 t.1) refl ∙ sym (at_vertex ranks begun (v % ranks) t.0 v t.1 refl)

  pub find_found : (v : ℕ) → (stage_of ranks find_later).found v ≡ (stage_of ranks begun).found v
  find_found v = ap (λ (w : Vertex). w.weight) (find_vertex v)

  pub find_fresh : (v : ℕ) → (stage_of ranks find_later).fresh v ≡ (stage_of ranks begun).fresh v
  find_fresh v = ap (λ (w : Vertex). w.improved) (find_vertex v)

  pub find_static : Static es rows width ranks find_later
  find_static =
      record {
        size = λ r s at. (let w = find_was r s at in ap (λ (u : DeltaState). u.rows) w.2 ∙ static.size r w.0 w.1);
        wide = λ r s at. (let w = find_was r s at in ap (λ (u : DeltaState). u.width) w.2 ∙ static.wide r w.0 w.1);
        light = λ r s at. (let w = find_was r s at in subst (λ (u : DeltaState). Keeps es ranks r (is_light width) u.light) (sym w.2) (static.light r w.0 w.1));
        heavy = λ r s at. (let w = find_was r s at in subst (λ (u : DeltaState). Keeps es ranks r (λ e. not (is_light width e)) u.heavy) (sym w.2) (static.heavy r w.0 w.1));
      }

  pub find_phase : (r : ℕ) (s : DeltaState) → slice_get find_later r ≡ Some s → s.phase ≡ Find
  find_phase r s at = (let w = find_was r s at in ap (λ (u : DeltaState). u.phase) w.2 ∙ (finding' r w.0 w.1).phase)

  pub find_bucket : (r : ℕ) (s : DeltaState) → slice_get find_later r ≡ Some s → s.bucket ≡ found_bucket
  find_bucket r s at = (let w = find_was r s at in ap (λ (u : DeltaState). u.bucket) w.2)

  pub find_open : (v : ℕ) → open_of ranks find_later v ≡ false
  find_open v =
      let t = rank_at (v % ranks) (mod-lt v some) in
      at_open ranks find_later (v % ranks) (record t.0 { bucket = found_bucket }) v (later_at (v % ranks) t.0 t.1) refl ∙ ap (list_any (eqb (v / ranks))) (finding' (v % ranks) t.0 t.1).unsettled

  -- ---- What the bucket is

  owner_least : (r : ℕ) (t : DeltaState) → IsLeastOf t.vertices None (marked_places t.vertices) (least_marked t.vertices)
  owner_least r t = least_over t.vertices None (marked_places t.vertices)

  bucket_le : (f : ℕ) (t : DeltaState) → f < ranks → slice_get begun f ≡ Some t → found_bucket ≤ bucket_of width (least_marked t.vertices)
  bucket_le f t l at =
      heard_low no_bucket (upto told ranks) (word_of (bucket_of width (least_marked t.vertices)))
      (has_upto told ranks f (word_of (bucket_of width (least_marked t.vertices))) l (subst (λ o. Contains (told_by o) (word_of (bucket_of width (least_marked t.vertices)))) (sym at) (has_head (word_of (bucket_of width (least_marked t.vertices))) [])))

  bucket_some : (o : Option ℕ) (k : ℕ) → o ≡ Some k → bucket_of width o ≡ min (k / width) no_bucket
  bucket_some o k e = ap (bucket_of width) e

  -- no pending vertex stands below it
  pub bucket_floor : (v m : ℕ) → (stage_of ranks begun).fresh v ≡ true → (stage_of ranks begun).found v ≡ Some m → found_bucket * width ≤ m
  bucket_floor v m pending found =
      let r : ℕ = v % ranks in
      let t = rank_at r (mod-lt v some) in
      let here : vertex_at ranks begun v ≡ get_or t.0.vertices (v / ranks) unreached_vertex = at_vertex ranks begun r t.0 v t.1 refl in
      let listed : Contains (marked_places t.0.vertices) (0 + v / ranks) = has_mark 0 t.0.vertices (v / ranks) (ap (λ (w : Vertex). w.improved) (sym here) ∙ pending) in
      let z : 0 + v / ranks ≡ v / ranks = omega arith in
      let least = (owner_least r t.0).low (v / ranks) m (subst (Contains (marked_places t.0.vertices)) z listed) (ap (λ (w : Vertex). w.weight) (sym here) ∙ found) in
      let b : found_bucket ≤ bucket_of width (least_marked t.0.vertices) = bucket_le r t.0 (mod-lt v some) t.1 in
      let is : bucket_of width (least_marked t.0.vertices) ≡ min (least.0 / width) no_bucket = bucket_some (least_marked t.0.vertices) least.0 least.1 in
      let up : found_bucket ≤ least.0 / width = omega arith in
      let mul : found_bucket * width ≤ least.0 / width * width = mul-le-mul_right width up in
      let div : least.0 / width * width ≤ least.0 = div-mul-le_self least.0 width in
      let le : least.0 ≤ m = least.2 in
      omega arith

  -- and where any is pending, one stands in it
  pub bucket_reached : (v m : ℕ) → (stage_of ranks begun).fresh v ≡ true → (stage_of ranks begun).found v ≡ Some m → (u : ℕ) × (active width found_bucket (stage_of ranks begun) u ≡ true)
  bucket_reached v m pending found =
      let floor : found_bucket * width ≤ m = bucket_floor v m pending found in
      let small : m ≤ 2 ^ 60 = low v m found in
      let part : found_bucket * 1 ≤ found_bucket * width = mul-le-mul_left found_bucket some_width in
      let bucket_small : found_bucket ≤ 2 ^ 60 = omega arith in
      elim (heard_from no_bucket (upto told ranks)) [
        | inl none ↦ absurd (omega arith)
        | inr from ↦
            let f = was_upto told ranks from.0 from.1 in
            let t = rank_at f.0 f.1 in
            let word : from.0 ≡ word_of (bucket_of width (least_marked t.0.vertices)) = only (bucket_of width (least_marked t.0.vertices)) from.0 (subst (λ o. Contains (told_by o) from.0) t.1 f.2) in
            let is : found_bucket ≡ bucket_of width (least_marked t.0.vertices) = from.2 ∙ ap (λ (x : Item). x.a) word in
            reach f.0 t.0 f.1 t.1 (least_marked t.0.vertices) refl is bucket_small
      ]
    where
      only : (b : ℕ) (x : Item) → Contains (word_of b ∷ []) x → x ≡ word_of b
      only b x h = elim (has_cases (word_of b) x [] h) [ inl same ↦ sym same | inr later ↦ absurd (none_in x later) ]

      reach : (f : ℕ) (t : DeltaState) → f < ranks → slice_get begun f ≡ Some t → (o : Option ℕ) → least_marked t.vertices ≡ o → found_bucket ≡ bucket_of width (least_marked t.vertices) → found_bucket ≤ 2 ^ 60
          → (u : ℕ) × (active width found_bucket (stage_of ranks begun) u ≡ true)
      reach f t l at None e is small = (let n : found_bucket ≡ no_bucket = is ∙ ap (bucket_of width) e in absurd (omega arith))
      reach f t l at (Some k) e is small =
          let n : found_bucket ≡ min (k / width) no_bucket = is ∙ ap (bucket_of width) e in
          let div : k / width ≡ found_bucket = omega arith in
          elim ((owner_least f t).reached k e) [
            | inl no_one ↦ absurd (nobody k no_one)
            | inr at_p ↦
                let q = was_marked 0 t.vertices at_p.0 at_p.1 in
                let p : at_p.0 ≡ q.0 = (let z : at_p.0 ≡ 0 + q.0 = q.1 in omega arith) in
                let u : ℕ = q.0 * ranks + f in
                let place : u / ranks ≡ q.0 = div-mul-add q.0 ranks f l in
                let here : vertex_at ranks begun u ≡ get_or t.vertices q.0 unreached_vertex = at_vertex ranks begun f t u at (mod-mul-add q.0 ranks f l) ∙ ap (λ j. get_or t.vertices j unreached_vertex) place in
                let weight : (vertex_at ranks begun u).weight ≡ Some k = ap (λ (w : Vertex). w.weight) here ∙ ap (λ j. (get_or t.vertices j unreached_vertex).weight) (sym p) ∙ at_p.2 in (
                  u,
                  and_from (vertex_at ranks begun u).improved (weight_in width found_bucket (vertex_at ranks begun u).weight) (ap (λ (w : Vertex). w.improved) here ∙ q.3)
                      (ap (weight_in width found_bucket) weight ∙ eq-eqb (k / width) found_bucket div),
                )
          ]
        where
          nobody : (k : ℕ) → None ≡ Some k → ⊥
          nobody k e = cc
