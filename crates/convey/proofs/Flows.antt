-- Flows of a log that gets one more parcel.
use Rattle.std.proofs.Common.{◌≡◌, ◌≢◌, ℕ, zero, suc, Bool, true, false, cond, List, [], ◌∷◌, ◌++◌, map, refl, sym, ap, subst, ◌∙◌, inl, inr}
use Rattle.std.specs.List.{filter, flat_map}
use Rattle.std.proofs.lemmas.Bool.{cases_eq}
use Rattle.std.proofs.lemmas.List.{append-nil, map-append}
use Rattle.std.proofs.lemmas.List.Elements.{filter-append}
use Rattle.std.proofs.lemmas.List.Concat.{flat_map-append}
use Rattle.bale_items.specs.declared.item.Entry.{Entry}
use Rattle.item_buffer.specs.Contents.{Shipped}
use Rattle.port_bank.specs.Logs.{Logs, lasts, segment, with_parcel}
use Rattle.port_bank.specs.Flow.{hop_link, passing_items, flow}
use Rattle.route_tensor.specs.Pair.{belongs}
use Rattle.port_bank.proofs.Posts.{segment_then}
use Rattle.port_bank.proofs.Segments.{lasts_first}
use Rattle.port_bank.proofs.Kept.{added-here, added-other, flow_at}
use Rattle.convey.specs.Agreement.{items_among}

-- counts and segments by the mark of the first parcel
pub lasts_one : (p : Shipped) (b : Bool) → p.last ≡ b → lasts (p ∷ []) ≡ cond b 1 0
lasts_one p b e = lasts_first p [] b e

segment_zero : (p : Shipped) (ps : List Shipped) (b : Bool) → p.last ≡ b → segment 0 (p ∷ ps) ≡ p ∷ cond b [] (segment 0 ps)
segment_zero p ps b e = ap (λ c. p ∷ cond c [] (segment 0 ps)) e

segment_later : (n : ℕ) (p : Shipped) (ps : List Shipped) (b : Bool) → p.last ≡ b → segment (suc n) (p ∷ ps) ≡ cond b (segment n ps) (segment (suc n) ps)
segment_later n p ps b e = ap (λ c. cond c (segment n ps) (segment (suc n) ps)) e

-- before a parcel that isn't marked last the segments stay
unmarked : (n : ℕ) (q p : Shipped) (xs ys : List Shipped) → q.last ≡ false → segment n xs ≡ segment n ys ++ p ∷ [] → segment n (q ∷ xs) ≡ segment n (q ∷ ys) ++ p ∷ []
unmarked zero q p xs ys e h = segment_zero q xs false e ∙ (ap (λ u. q ∷ u) h ∙ ap (λ u. u ++ p ∷ []) (sym (segment_zero q ys false e)))
unmarked (suc n) q p xs ys e h = segment_later n q xs false e ∙ (h ∙ ap (λ u. u ++ p ∷ []) (sym (segment_later n q ys false e)))

marked : (n m : ℕ) (q p : Shipped) (xs ys : List Shipped) → n ≡ suc m → q.last ≡ true → segment m xs ≡ segment m ys ++ p ∷ [] → segment n (q ∷ xs) ≡ segment n (q ∷ ys) ++ p ∷ []
marked n m q p xs ys same e h =
    subst (λ k. segment k (q ∷ xs) ≡ segment k (q ∷ ys) ++ p ∷ []) (sym same)
    (segment_later m q xs true e ∙ (h ∙ ap (λ u. u ++ p ∷ []) (sym (segment_later m q ys true e))))

-- the open segment gets the parcel
pub segment_grown : (log : List Shipped) (p : Shipped) → segment (lasts log) (log ++ p ∷ []) ≡ segment (lasts log) log ++ p ∷ []
segment_grown [] p = elim p.last as (λ c. p ∷ cond c [] [] ≡ p ∷ []) [ true ↦ refl | false ↦ refl ]
segment_grown (q ∷ log) p =
    let by_mark : (b : Bool) → q.last ≡ b → segment (lasts (q ∷ log)) (q ∷ (log ++ p ∷ [])) ≡ segment (lasts (q ∷ log)) (q ∷ log) ++ p ∷ [] = elim [
      | true ↦ λ e. marked (lasts (q ∷ log)) (lasts log) q p (log ++ p ∷ []) log (lasts_first q log true e) e (segment_grown log p)
      | false ↦ λ e. subst (λ n. segment n (q ∷ (log ++ p ∷ [])) ≡ segment n (q ∷ log) ++ p ∷ []) (sym (lasts_first q log false e)) (unmarked (lasts log) q p (log ++ p ∷ []) log e (segment_grown log p))
    ] in
    by_mark q.last refl

-- items of joined lists
pub items_among-append : (keep : Entry → Bool) (xs ys : List Entry) → items_among keep (xs ++ ys) ≡ items_among keep xs ++ items_among keep ys
items_among-append keep xs ys = ap (map (λ e. e.item)) (filter-append keep xs ys) ∙ map-append (λ e. e.item) (filter keep xs) (filter keep ys)

pub entries_grown : (log : List Shipped) (p : Shipped) → flat_map (λ q. q.entries) (log ++ p ∷ []) ≡ flat_map (λ q. q.entries) log ++ p.entries
entries_grown log p = flat_map-append (λ q. q.entries) log (p ∷ []) ∙ ap (λ u. flat_map (λ q. q.entries) log ++ u) (append-nil p.entries)

pub items_grown : (keep : Entry → Bool) (log : List Shipped) (p : Shipped) → passing_items keep (log ++ p ∷ []) ≡ passing_items keep log ++ items_among keep p.entries
items_grown keep log p = ap (items_among keep) (entries_grown log p) ∙ items_among-append keep (flat_map (λ q. q.entries) log) p.entries

-- a flow after a post or a collect
module _ (dims : List ℕ) (logs : Logs) (l : ℕ) (p : Shipped) (s d h : ℕ) where
  pub flow_here : hop_link dims s d h ≡ l → flow dims (with_parcel logs l p) s d h (lasts (logs l)) ≡ flow dims logs s d h (lasts (logs l)) ++ items_among (belongs dims s d h) p.entries
  flow_here same =
      let keep = belongs dims s d h in
      let e : ℕ = lasts (logs l) in
      ap (λ m. passing_items keep (segment e (with_parcel logs l p m))) same
      ∙ (ap (λ log. passing_items keep (segment e log)) (added-here logs l p)
      ∙ (ap (passing_items keep) (segment_grown (logs l) p)
      ∙ (items_grown keep (segment e (logs l)) p
      ∙ ap (λ m. passing_items keep (segment e (logs m)) ++ items_among keep p.entries) (sym same))))

  pub flow_elsewhere : (e : ℕ) → hop_link dims s d h ≢ l → flow dims (with_parcel logs l p) s d h e ≡ flow dims logs s d h e
  flow_elsewhere e ne = flow_at dims (with_parcel logs l p) logs s d h e (added-other logs l (hop_link dims s d h) p ne)

  pub flow_at_other_epoch : (e : ℕ) → e ≢ lasts (logs l) → flow dims (with_parcel logs l p) s d h e ≡ flow dims logs s d h e
  flow_at_other_epoch e ne =
      elim (cases_eq (hop_link dims s d h) l) [
        | inl same ↦
            let keep = belongs dims s d h in
            ap (λ m. passing_items keep (segment e (with_parcel logs l p m))) same
            ∙ (ap (λ log. passing_items keep (segment e log)) (added-here logs l p)
            ∙ (ap (passing_items keep) (segment_then e (logs l) p ne)
            ∙ ap (λ m. passing_items keep (segment e (logs m))) (sym same)))
        | inr other ↦ flow_elsewhere e other
      ]
