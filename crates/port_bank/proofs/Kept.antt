-- The relay law of a rank is kept by what happens on links.
use Rattle.std.proofs.Common.{◌≡◌, ◌≢◌, ℕ, ◌+◌, ◌-◌, ◌<◌, ◌≤◌, ◌==◌, true, false, cond, List, [], ◌∷◌, ◌++◌, length, refl, sym, ap, subst, ◌∙◌, arith, ne_eqb, eq-eqb}
use Rattle.std.specs.List.{All}
use Rattle.item_buffer.specs.Contents.{Shipped}
use Rattle.route_tensor.specs.Grid.{place, IsGrid}
use Rattle.route_tensor.specs.Link.{links}
use Rattle.route_tensor.specs.Ends.{hop_at, sender_at, reader_at}
use Rattle.port_bank.specs.Logs.{Logs, lasts, segment, with_parcel}
use Rattle.port_bank.specs.Flow.{hop_link, passing_items, flow}
use Rattle.route_tensor.specs.Pair.{belongs, PassesThrough}
use Rattle.list_laws.specs.Lists.{IsPrefix}
use Rattle.port_bank.specs.Relay.{HasFairTags, RelayLaw}
use Rattle.port_bank.proofs.Fronts.{begins_refl, begins_more, begins_trans}
use Rattle.port_bank.proofs.Segments.{lasts_begins, items_begins, items_same}
use Rattle.port_bank.proofs.Routes.{hop-on_route, sender-on_route, reader-on_route, link-on_route}

-- each log begins the log of the same link
abbrev pub Grows : Logs → Logs → Type 0
Grows old new = (l : ℕ) → IsPrefix (old l) (new l)

pub added_grows : (logs : Logs) (l : ℕ) (p : Shipped) → Grows logs (with_parcel logs l p)
added_grows logs l p = λ m. elim (m == l) as (λ b. IsPrefix (logs m) (cond b (logs m ++ p ∷ []) (logs m))) [ true ↦ begins_more (logs m) (p ∷ []) | false ↦ begins_refl (logs m) ]

pub added-other : (logs : Logs) (l m : ℕ) (p : Shipped) → m ≢ l → with_parcel logs l p m ≡ logs m
added-other logs l m p ne = ap (λ b. cond b (logs m ++ p ∷ []) (logs m)) (ne_eqb m l ne)

pub added-here : (logs : Logs) (l : ℕ) (p : Shipped) → with_parcel logs l p l ≡ logs l ++ p ∷ []
added-here logs l p = ap (λ b. cond b (logs l ++ p ∷ []) (logs l)) (eq-eqb l l refl)

pub flow_begins : (dims : List ℕ) (old new : Logs) (s d h e : ℕ) → IsPrefix (old (hop_link dims s d h)) (new (hop_link dims s d h)) → IsPrefix (flow dims old s d h e) (flow dims new s d h e)
flow_begins dims old new s d h e b = items_begins (belongs dims s d h) e (old (hop_link dims s d h)) (new (hop_link dims s d h)) b

pub flow_same : (dims : List ℕ) (old new : Logs) (s d h e : ℕ) → IsPrefix (old (hop_link dims s d h)) (new (hop_link dims s d h)) → e < lasts (old (hop_link dims s d h))
    → flow dims new s d h e ≡ flow dims old s d h e
flow_same dims old new s d h e b c = items_same (belongs dims s d h) e (old (hop_link dims s d h)) (new (hop_link dims s d h)) b c

-- the flow is read from one link's log
pub flow_at : (dims : List ℕ) (logs others : Logs) (s d h e : ℕ) → logs (hop_link dims s d h) ≡ others (hop_link dims s d h) → flow dims logs s d h e ≡ flow dims others s d h e
flow_at dims logs others s d h e same = ap (λ log. passing_items (belongs dims s d h) (segment e log)) same

-- the two links of a route between which a rank stands
pub record Between (dims : List ℕ) (r m l : ℕ) : Type 0 where
  pub comes : m < links dims
  pub leaves : l < links dims
  pub to : reader_at dims m ≡ r
  pub from : sender_at dims l ≡ r
  pub next : hop_at dims l ≡ hop_at dims m + 1

pub between : (dims : List ℕ) (r s d h : ℕ) → IsGrid dims → PassesThrough dims r s d h → Between dims r (hop_link dims s d h) (hop_link dims s d (h + 1))
between dims r s d h g p =
    let first : 1 ≤ h = p.first_hop in
    let last : h < length dims = p.last_hop in
    let back : h + 1 - 1 ≡ h = omega arith in
    record {
      comes = link-on_route dims s d h g p.sender p.destination first (omega arith);
      leaves = link-on_route dims s d (h + 1) g p.sender p.destination (omega arith) (omega arith);
      to = reader-on_route dims s d h g p.sender p.destination first (omega arith) ∙ p.here;
      from = sender-on_route dims s d (h + 1) g p.sender p.destination (omega arith) (omega arith) ∙ (ap (place dims s d) back ∙ p.here);
      next = hop-on_route dims s d (h + 1) g p.sender p.destination (omega arith) (omega arith)
          ∙ ap (λ n. n + 1) (sym (hop-on_route dims s d h g p.sender p.destination first (omega arith)));
    }

-- where a rank gets more, its law is kept
pub law_got_more : (dims : List ℕ) (r : ℕ) (sent got more : Logs) → IsGrid dims → Grows got more → RelayLaw dims r sent got → RelayLaw dims r sent more
law_got_more dims r sent got more g grows law = record {
  fair = law.fair;
  begins = λ s d h e p. begins_trans _ _ _ (law.begins s d h e p) (flow_begins dims got more s d h e (grows (hop_link dims s d h)));
  closed = λ l m e a b x y z w. let c : e < lasts (got m) = law.closed l m e a b x y z w in omega (arith, c, lasts_begins (got m) (more m) (grows m));
  whole = λ s d h e p w.
      let b = between dims r s d h g p in
      let c = law.closed (hop_link dims s d (h + 1)) (hop_link dims s d h) e b.leaves b.comes b.from b.to b.next w in
      law.whole s d h e p w ∙ sym (flow_same dims got more s d h e (grows (hop_link dims s d h)) c);
}

-- the law reads a rank's own links alone
pub law_own : (dims : List ℕ) (r : ℕ) (sent sent' got got' : Logs) → IsGrid dims
    → ((l : ℕ) → sender_at dims l ≡ r → sent l ≡ sent' l) → ((l : ℕ) → reader_at dims l ≡ r → got l ≡ got' l)
    → RelayLaw dims r sent got → RelayLaw dims r sent' got'
law_own dims r sent sent' got got' g out in' law = record {
  fair = λ l a from. subst (All (HasFairTags dims (hop_at dims l))) (out l from) (law.fair l a from);
  begins = λ s d h e p.
      let b = between dims r s d h g p in
      let x = flow_at dims sent sent' s d (h + 1) e (out _ b.from) in
      let y = flow_at dims got got' s d h e (in' _ b.to) in
      subst (λ u. IsPrefix u (flow dims got' s d h e)) x (subst (λ u. IsPrefix (flow dims sent s d (h + 1) e) u) y (law.begins s d h e p));
  closed = λ l m e a b x y z w.
      subst (λ log. e < lasts log) (in' m y) (law.closed l m e a b x y z (subst (λ log. e < lasts log) (sym (out l x)) w));
  whole = λ s d h e p w.
      let b = between dims r s d h g p in
      let x = flow_at dims sent sent' s d (h + 1) e (out _ b.from) in
      let y = flow_at dims got got' s d h e (in' _ b.to) in
      sym x ∙ (law.whole s d h e p (subst (λ log. e < lasts log) (sym (out _ b.from)) w) ∙ y);
}

-- where another rank sends, the law is kept
pub law_sent_elsewhere : (dims : List ℕ) (r : ℕ) (sent got : Logs) (l : ℕ) (p : Shipped) → IsGrid dims → sender_at dims l ≢ r → RelayLaw dims r sent got → RelayLaw dims r (with_parcel sent l p) got
law_sent_elsewhere dims r sent got l p g other law =
    law_own dims r sent (with_parcel sent l p) got got g (λ m from. sym (added-other sent l m p (λ e. other (ap (sender_at dims) (sym e) ∙ from)))) (λ m to. refl) law

-- the law of equal things
pub law_same : (dims dims' : List ℕ) (r r' : ℕ) (sent sent' got got' : Logs) → dims' ≡ dims → r' ≡ r → sent' ≡ sent → got' ≡ got → RelayLaw dims r sent got → RelayLaw dims' r' sent' got'
law_same dims dims' r r' sent sent' got got' a b c d law =
    subst (λ x. RelayLaw x r' sent' got') (sym a) (subst (λ x. RelayLaw dims x sent' got') (sym b) (subst (λ x. RelayLaw dims r x got') (sym c) (subst (λ x. RelayLaw dims r sent x) (sym d) law)))
