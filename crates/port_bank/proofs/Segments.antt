-- Segments and flows of a log that grows at its end.
use Rattle.std.proofs.Common.{◌≡◌, ℕ, zero, suc, ◌+◌, ◌<◌, ◌≤◌, Bool, true, false, cond, List, [], ◌∷◌, ◌++◌, length, refl, sym, ap, subst, ◌∙◌, arith, length-append}
use Rattle.std.specs.List.{filter}
use Rattle.std.proofs.lemmas.List.Elements.{filter-append}
use Rattle.bale_items.specs.declared.item.Entry.{Entry}
use Rattle.item_buffer.specs.Contents.{Shipped}
use Rattle.port_bank.specs.Logs.{lasts, segment}
use Rattle.port_bank.specs.Flow.{passing_items}
use Rattle.list_laws.specs.Lists.{IsPrefix}
use Rattle.port_bank.proofs.Fronts.{begins_nil, begins_cons, begins_map, begins_filter, begins_flat_map}

pub lasts-append : (log more : List Shipped) → lasts (log ++ more) ≡ lasts log + lasts more
lasts-append log more = ap length (filter-append (λ p. p.last) log more) ∙ length-append (filter (λ p. p.last) log) (filter (λ p. p.last) more)

-- by the mark of the first parcel
pub lasts_first : (p : Shipped) (ps : List Shipped) (b : Bool) → p.last ≡ b → lasts (p ∷ ps) ≡ cond b (suc (lasts ps)) (lasts ps)
lasts_first p ps b e = ap (λ c. length (cond c (p ∷ filter (λ q. q.last) ps) (filter (λ q. q.last) ps))) e ∙ elim b as (λ c. length (cond c (p ∷ filter (λ q. q.last) ps) (filter (λ q. q.last) ps)) ≡ cond c (suc (lasts ps)) (lasts ps)) [ true ↦ refl | false ↦ refl ]

-- a segment only grows
pub segment_more : (e : ℕ) (log more : List Shipped) → IsPrefix (segment e log) (segment e (log ++ more))
segment_more e [] more = begins_nil (segment e more)
segment_more zero (p ∷ ps) more =
    begins_cons p _ _ (elim p.last as (λ c. IsPrefix (cond c [] (segment zero ps)) (cond c [] (segment zero (ps ++ more)))) [ true ↦ begins_nil [] | false ↦ segment_more zero ps more ])
segment_more (suc e) (p ∷ ps) more =
    elim p.last as (λ c. IsPrefix (cond c (segment e ps) (segment (suc e) ps)) (cond c (segment e (ps ++ more)) (segment (suc e) (ps ++ more)))) [ true ↦ segment_more e ps more | false ↦ segment_more (suc e) ps more ]

-- and not once it is closed
closed_first : (p : Shipped) (ps more : List Shipped) (b : Bool) → (0 < cond b (suc (lasts ps)) (lasts ps)) → (0 < lasts ps → segment 0 (ps ++ more) ≡ segment 0 ps)
    → p ∷ cond b [] (segment 0 (ps ++ more)) ≡ p ∷ cond b [] (segment 0 ps)
closed_first p ps more true h f = refl
closed_first p ps more false h f = ap (λ u. p ∷ u) (f h)

closed_later : (e : ℕ) (ps more : List Shipped) (b : Bool) → (suc e < cond b (suc (lasts ps)) (lasts ps))
    → (e < lasts ps → segment e (ps ++ more) ≡ segment e ps) → (suc e < lasts ps → segment (suc e) (ps ++ more) ≡ segment (suc e) ps)
    → cond b (segment e (ps ++ more)) (segment (suc e) (ps ++ more)) ≡ cond b (segment e ps) (segment (suc e) ps)
closed_later e ps more true h f g = f (omega arith)
closed_later e ps more false h f g = g h

pub segment_closed : (e : ℕ) (log more : List Shipped) → e < lasts log → segment e (log ++ more) ≡ segment e log
segment_closed e [] more h = absurd (omega arith)
segment_closed zero (p ∷ ps) more h =
    closed_first p ps more p.last (subst (λ n. 0 < n) (lasts_first p ps p.last refl) h) (segment_closed zero ps more)
segment_closed (suc e) (p ∷ ps) more h =
    closed_later e ps more p.last (subst (λ n. suc e < n) (lasts_first p ps p.last refl) h) (segment_closed e ps more) (segment_closed (suc e) ps more)

-- so for a log that begins another
pub lasts_begins : (log whole : List Shipped) → IsPrefix log whole → lasts log ≤ lasts whole
lasts_begins log whole b = omega (arith, ap lasts b.is, lasts-append log b.rest)

pub segment_begins : (e : ℕ) (log whole : List Shipped) → IsPrefix log whole → IsPrefix (segment e log) (segment e whole)
segment_begins e log whole b = subst (λ w. IsPrefix (segment e log) (segment e w)) (sym b.is) (segment_more e log b.rest)

pub segment_same : (e : ℕ) (log whole : List Shipped) → IsPrefix log whole → e < lasts log → segment e whole ≡ segment e log
segment_same e log whole b h = ap (segment e) b.is ∙ segment_closed e log b.rest h

-- and its items
pub items_begins : (keep : Entry → Bool) (e : ℕ) (log whole : List Shipped) → IsPrefix log whole → IsPrefix (passing_items keep (segment e log)) (passing_items keep (segment e whole))
items_begins keep e log whole b =
    begins_map (λ x. x.item) _ _ (begins_filter keep _ _ (begins_flat_map (λ p. p.entries) (segment e log) (segment e whole) (segment_begins e log whole b)))

pub items_same : (keep : Entry → Bool) (e : ℕ) (log whole : List Shipped) → IsPrefix log whole → e < lasts log → passing_items keep (segment e whole) ≡ passing_items keep (segment e log)
items_same keep e log whole b h = ap (passing_items keep) (segment_same e log whole b h)
