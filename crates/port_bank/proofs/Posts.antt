-- What one parcel more on a link adds to the flows, and when the relay law is kept by it.
use Rattle.std.proofs.Common.{◌≡◌, ◌≢◌, ℕ, zero, suc, ◌+◌, ◌<◌, ◌≤◌, ◌⊎◌, Bool, true, false, cond, List, [], ◌∷◌, ◌++◌, map, length, refl, sym, ap, subst, ◌∙◌, inl, inr, arith}
use Rattle.std.specs.List.{All, filter, flat_map}
use Rattle.std.proofs.lemmas.Bool.{cases_eq, cases_lt}
use Rattle.std.proofs.lemmas.List.{map-append}
use Rattle.std.proofs.lemmas.List.Elements.{All-append, All-nil, All-cons, filter-append}
use Rattle.std.proofs.lemmas.List.Concat.{flat_map-append}
use Rattle.bale_items.specs.declared.item.Entry.{Entry}
use Rattle.item_buffer.specs.Contents.{Shipped}
use Rattle.route_tensor.specs.Grid.{IsGrid}
use Rattle.route_tensor.specs.Link.{links}
use Rattle.route_tensor.specs.Ends.{hop_at, sender_at, reader_at}
use Rattle.port_bank.specs.Logs.{Logs, lasts, segment, with_parcel}
use Rattle.port_bank.specs.Flow.{hop_link, passing_items, flow}
use Rattle.route_tensor.specs.Pair.{belongs, PassesThrough}
use Rattle.list_laws.specs.Lists.{IsPrefix}
use Rattle.port_bank.specs.Relay.{HasFairTags, RelayLaw}
use Rattle.port_bank.proofs.Segments.{lasts-append, lasts_first}
use Rattle.port_bank.proofs.Routes.{hop-on_route, numbered}
use Rattle.port_bank.proofs.Kept.{added-here, added-other, flow_at}

now_first : (q p : Shipped) (qs : List Shipped) (b : Bool) → 0 ≡ cond b (suc (lasts qs)) (lasts qs) → (0 ≡ lasts qs → segment 0 (qs ++ p ∷ []) ≡ segment 0 qs ++ p ∷ [])
    → q ∷ cond b [] (segment 0 (qs ++ p ∷ [])) ≡ q ∷ (cond b [] (segment 0 qs) ++ p ∷ [])
now_first q p qs true h f = absurd (omega arith)
now_first q p qs false h f = ap (λ u. q ∷ u) (f h)

now_later : (e : ℕ) (p : Shipped) (qs : List Shipped) (b : Bool) → suc e ≡ cond b (suc (lasts qs)) (lasts qs)
    → (e ≡ lasts qs → segment e (qs ++ p ∷ []) ≡ segment e qs ++ p ∷ []) → (suc e ≡ lasts qs → segment (suc e) (qs ++ p ∷ []) ≡ segment (suc e) qs ++ p ∷ [])
    → cond b (segment e (qs ++ p ∷ [])) (segment (suc e) (qs ++ p ∷ [])) ≡ cond b (segment e qs) (segment (suc e) qs) ++ p ∷ []
now_later e p qs true h f g = f (omega arith)
now_later e p qs false h f g = g h

-- the parcel stands at the end of the segment that is not closed
pub segment_now : (e : ℕ) (log : List Shipped) (p : Shipped) → e ≡ lasts log → segment e (log ++ p ∷ []) ≡ segment e log ++ p ∷ []
segment_now zero [] p h = elim p.last as (λ b. p ∷ cond b [] [] ≡ p ∷ []) [ true ↦ refl | false ↦ refl ]
segment_now (suc e) [] p h = absurd (omega arith)
segment_now zero (q ∷ qs) p h = now_first q p qs q.last (h ∙ lasts_first q qs q.last refl) (segment_now zero qs p)
segment_now (suc e) (q ∷ qs) p h = now_later e p qs q.last (h ∙ lasts_first q qs q.last refl) (segment_now e qs p) (segment_now (suc e) qs p)

then_first : (q p : Shipped) (qs : List Shipped) (b : Bool) → 0 ≢ cond b (suc (lasts qs)) (lasts qs) → (0 ≢ lasts qs → segment 0 (qs ++ p ∷ []) ≡ segment 0 qs)
    → q ∷ cond b [] (segment 0 (qs ++ p ∷ [])) ≡ q ∷ cond b [] (segment 0 qs)
then_first q p qs true h f = refl
then_first q p qs false h f = ap (λ u. q ∷ u) (f h)

then_later : (e : ℕ) (p : Shipped) (qs : List Shipped) (b : Bool) → suc e ≢ cond b (suc (lasts qs)) (lasts qs)
    → (e ≢ lasts qs → segment e (qs ++ p ∷ []) ≡ segment e qs) → (suc e ≢ lasts qs → segment (suc e) (qs ++ p ∷ []) ≡ segment (suc e) qs)
    → cond b (segment e (qs ++ p ∷ [])) (segment (suc e) (qs ++ p ∷ [])) ≡ cond b (segment e qs) (segment (suc e) qs)
then_later e p qs true h f g = f (λ x. h (ap suc x))
then_later e p qs false h f g = g h

-- and in no other
pub segment_then : (e : ℕ) (log : List Shipped) (p : Shipped) → e ≢ lasts log → segment e (log ++ p ∷ []) ≡ segment e log
segment_then zero [] p h = absurd (h refl)
segment_then (suc e) [] p h = elim p.last as (λ b. cond b (segment e []) (segment (suc e) []) ≡ []) [ true ↦ refl | false ↦ refl ]
segment_then zero (q ∷ qs) p h = then_first q p qs q.last (λ x. h (x ∙ sym (lasts_first q qs q.last refl))) (segment_then zero qs p)
segment_then (suc e) (q ∷ qs) p h = then_later e p qs q.last (λ x. h (x ∙ sym (lasts_first q qs q.last refl))) (segment_then e qs p) (segment_then (suc e) qs p)

pub items-append : (keep : Entry → Bool) (log more : List Shipped) → passing_items keep (log ++ more) ≡ passing_items keep log ++ passing_items keep more
items-append keep log more =
    let f : Shipped → List Entry = λ p. p.entries in
    ap (λ es. map (λ (x : Entry). x.item) (filter keep es)) (flat_map-append f log more)
    ∙ (ap (map (λ (x : Entry). x.item)) (filter-append keep (flat_map f log) (flat_map f more)) ∙ map-append (λ (x : Entry). x.item) (filter keep (flat_map f log)) (filter keep (flat_map f more)))

module _ (dims : List ℕ) (logs : Logs) (l : ℕ) (p : Shipped) (s d h e : ℕ) where
  -- a parcel on the pair's link adds its items to the flow of the epoch that the link is in
  pub flow_now : hop_link dims s d h ≡ l → e ≡ lasts (logs l) → flow dims (with_parcel logs l p) s d h e ≡ flow dims logs s d h e ++ passing_items (belongs dims s d h) (p ∷ [])
  flow_now here epoch =
      let keep = belongs dims s d h in
      ap (λ m. passing_items keep (segment e (with_parcel logs l p m))) here
      ∙ (ap (λ log. passing_items keep (segment e log)) (added-here logs l p)
      ∙ (ap (passing_items keep) (segment_now e (logs l) p epoch)
      ∙ (items-append keep (segment e (logs l)) (p ∷ [])
      ∙ ap (λ m. passing_items keep (segment e (logs m)) ++ passing_items keep (p ∷ [])) (sym here))))

  -- and to no flow of another epoch
  pub flow_then : hop_link dims s d h ≡ l → e ≢ lasts (logs l) → flow dims (with_parcel logs l p) s d h e ≡ flow dims logs s d h e
  flow_then here epoch =
      let keep = belongs dims s d h in
      ap (λ m. passing_items keep (segment e (with_parcel logs l p m))) here
      ∙ (ap (λ log. passing_items keep (segment e log)) (added-here logs l p)
      ∙ (ap (passing_items keep) (segment_then e (logs l) p epoch) ∙ ap (λ m. passing_items keep (segment e (logs m))) (sym here)))

  -- or another link
  pub flow_elsewhere : hop_link dims s d h ≢ l → flow dims (with_parcel logs l p) s d h e ≡ flow dims logs s d h e
  flow_elsewhere other = flow_at dims (with_parcel logs l p) logs s d h e (added-other logs l (hop_link dims s d h) p other)

-- What a rank must know of a parcel that it posts on link l, beside the law of what it sent before.
-- fair: its tags are fair on the link's hop.
-- begins: with it, what is sent of each pair of the link in this epoch is a prefix of what was
-- got.
-- closed: where it is marked last, each link in of the hop before has ended this epoch.
-- whole: and then what is sent of each pair is all that was got.
pub record MayPost (dims : List ℕ) (r : ℕ) (sent got : Logs) (l : ℕ) (p : Shipped) : Type 0 where
  pub fair : HasFairTags dims (hop_at dims l) p
  pub begins : (s d h : ℕ) → PassesThrough dims r s d h → hop_link dims s d (h + 1) ≡ l
      → IsPrefix (flow dims sent s d (h + 1) (lasts (sent l)) ++ passing_items (belongs dims s d (h + 1)) (p ∷ [])) (flow dims got s d h (lasts (sent l)))
  pub closed : (m : ℕ) → p.last ≡ true → m < links dims → reader_at dims m ≡ r → hop_at dims l ≡ hop_at dims m + 1 → lasts (sent l) < lasts (got m)
  pub whole : (s d h : ℕ) → p.last ≡ true → PassesThrough dims r s d h → hop_link dims s d (h + 1) ≡ l
      → flow dims sent s d (h + 1) (lasts (sent l)) ++ passing_items (belongs dims s d (h + 1)) (p ∷ []) ≡ flow dims got s d h (lasts (sent l))

-- a mark counts once
marked : (p : Shipped) → 0 < lasts (p ∷ []) → p.last ≡ true
marked p h = elim p.last as (λ b. 0 < cond b 1 0 → b ≡ true) [ true ↦ λ _. refl | false ↦ λ w. absurd (omega arith) ] (subst (λ n. 0 < n) (lasts_first p [] p.last refl) h)

one_mark : (p : Shipped) → lasts (p ∷ []) ≤ 1
one_mark p = subst (λ n. n ≤ 1) (sym (lasts_first p [] p.last refl)) (elim p.last as (λ b. cond b 1 0 ≤ 1) [ true ↦ omega arith | false ↦ omega arith ])

-- an epoch that the log has ended with the parcel is an earlier one, or the parcel is its last
pub ended_with : (log : List Shipped) (p : Shipped) (e : ℕ) → e < lasts (log ++ p ∷ []) → (e < lasts log) ⊎ ((e ≡ lasts log) × (p.last ≡ true))
ended_with log p e h = elim (cases_lt e (lasts log)) [
  | inl before ↦ inl before
  | inr now ↦
      let sum' = lasts-append log (p ∷ []) in
      let some : 0 < lasts (p ∷ []) = omega (arith, h, sum') in
      inr (omega (arith, h, sum', one_mark p), marked p some)
]

module _ (dims : List ℕ) (r : ℕ) (sent got : Logs) (l : ℕ) (p : Shipped) (g : IsGrid dims) (law : RelayLaw dims r sent got) (may : MayPost dims r sent got l p) where
  fair_after : (m : ℕ) → m < links dims → sender_at dims m ≡ r → All (HasFairTags dims (hop_at dims m)) (with_parcel sent l p m)
  fair_after m a from = elim (cases_eq m l) [
    | inl e ↦
        let P : Shipped → Type 0 = HasFairTags dims (hop_at dims m) in
        let here : HasFairTags dims (hop_at dims m) p = subst (λ n. HasFairTags dims (hop_at dims n) p) (sym e) may.fair in
        let is : with_parcel sent l p m ≡ sent m ++ p ∷ [] = subst (λ n. with_parcel sent l p n ≡ sent n ++ p ∷ []) (sym e) (added-here sent l p) in
        subst (All P) (sym is) (All-append P (sent m) (p ∷ []) (law.fair m a from) (All-cons P p [] here (All-nil P)))
    | inr ne ↦ subst (All (HasFairTags dims (hop_at dims m))) (sym (added-other sent l m p ne)) (law.fair m a from)
  ]

  begins_after : (s d h e : ℕ) → PassesThrough dims r s d h → IsPrefix (flow dims (with_parcel sent l p) s d (h + 1) e) (flow dims got s d h e)
  begins_after s d h e q = elim (cases_eq (hop_link dims s d (h + 1)) l) [
    | inl here ↦ elim (cases_eq e (lasts (sent l))) [
      | inl now ↦
          subst (λ u. IsPrefix u (flow dims got s d h e)) (sym (flow_now dims sent l p s d (h + 1) e here now))
          (subst (λ n. IsPrefix (flow dims sent s d (h + 1) n ++ passing_items (belongs dims s d (h + 1)) (p ∷ [])) (flow dims got s d h n)) (sym now) (may.begins s d h q here))
      | inr then' ↦ subst (λ u. IsPrefix u (flow dims got s d h e)) (sym (flow_then dims sent l p s d (h + 1) e here then')) (law.begins s d h e q)
    ]
    | inr other ↦ subst (λ u. IsPrefix u (flow dims got s d h e)) (sym (flow_elsewhere dims sent l p s d (h + 1) e other)) (law.begins s d h e q)
  ]

  closed_after : (k m e : ℕ) → k < links dims → m < links dims → sender_at dims k ≡ r → reader_at dims m ≡ r → hop_at dims k ≡ hop_at dims m + 1 → e < lasts (with_parcel sent l p k) → e < lasts (got m)
  closed_after k m e a b from to next w = elim (cases_eq k l) [
    | inl here ↦
        let is : with_parcel sent l p k ≡ sent l ++ p ∷ [] = ap (with_parcel sent l p) here ∙ added-here sent l p in
        elim (ended_with (sent l) p e (subst (λ log. e < lasts log) is w)) [
          | inl before ↦ law.closed k m e a b from to next (subst (λ n. e < lasts (sent n)) (sym here) before)
          | inr now ↦ subst (λ n. n < lasts (got m)) (sym now.0) (may.closed m now.1 b to (ap (hop_at dims) (sym here) ∙ next))
        ]
    | inr other ↦ law.closed k m e a b from to next (subst (λ log. e < lasts log) (added-other sent l k p other) w)
  ]

  whole_after : (s d h e : ℕ) → PassesThrough dims r s d h → e < lasts (with_parcel sent l p (hop_link dims s d (h + 1))) → flow dims (with_parcel sent l p) s d (h + 1) e ≡ flow dims got s d h e
  whole_after s d h e q w = elim (cases_eq (hop_link dims s d (h + 1)) l) [
    | inl here ↦
        let is : with_parcel sent l p (hop_link dims s d (h + 1)) ≡ sent l ++ p ∷ [] = ap (with_parcel sent l p) here ∙ added-here sent l p in
        elim (ended_with (sent l) p e (subst (λ log. e < lasts log) is w)) [
          | inl before ↦
              let earlier : e ≢ lasts (sent l) = λ same. let k : e < lasts (sent l) = before in omega (arith, k, same) in
              flow_then dims sent l p s d (h + 1) e here earlier ∙ law.whole s d h e q (subst (λ n. e < lasts (sent n)) (sym here) before)
          | inr now ↦
              flow_now dims sent l p s d (h + 1) e here now.0
              ∙ subst (λ n. flow dims sent s d (h + 1) n ++ passing_items (belongs dims s d (h + 1)) (p ∷ []) ≡ flow dims got s d h n) (sym now.0) (may.whole s d h now.1 q here)
        ]
    | inr other ↦ flow_elsewhere dims sent l p s d (h + 1) e other ∙ law.whole s d h e q (subst (λ log. e < lasts log) (added-other sent l (hop_link dims s d (h + 1)) p other) w)
  ]

  -- so the rank keeps the relay law
  pub law_posted : RelayLaw dims r (with_parcel sent l p) got
  law_posted = record { fair = fair_after; begins = begins_after; closed = closed_after; whole = whole_after }

-- on the first hop a rank may post whatever has fair tags
pub may_post_first : (dims : List ℕ) (r : ℕ) (sent got : Logs) (l : ℕ) (p : Shipped) → IsGrid dims → hop_at dims l ≡ 1 → HasFairTags dims 1 p → MayPost dims r sent got l p
may_post_first dims r sent got l p g first fair = record {
  fair = subst (λ h. HasFairTags dims h p) (sym first) fair;
  begins = λ s d h q here. absurd (not_first s d h q here);
  closed = λ m mark b to next. let k : 1 ≤ hop_at dims m = (numbered dims m g b).is_link.first_hop in absurd (omega (arith, k, first, next));
  whole = λ s d h mark q here. absurd (not_first s d h q here);
} where
  not_first : (s d h : ℕ) → PassesThrough dims r s d h → hop_link dims s d (h + 1) ≡ l → ⊥
  not_first s d h q here =
      let a : 1 ≤ h = q.first_hop in
      let b : h < length dims = q.last_hop in
      let k : hop_at dims (hop_link dims s d (h + 1)) ≡ h + 1 = hop-on_route dims s d (h + 1) g q.sender q.destination (omega arith) (omega arith) in
      omega (arith, k, ap (hop_at dims) here, first)
