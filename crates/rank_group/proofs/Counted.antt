-- How much a bank's links carry, by what is pushed.
use Rattle.std.proofs.Common.{◌≡◌, ℕ, zero, suc, ◌+◌, ◌-◌, ◌*◌, ◌<◌, ◌≤◌, ◌==◌, ◌&&◌, Bool, true, false, cond, List, [], ◌∷◌, length, length-append, filter, All, refl, sym, ap, subst, ◌∙◌, arith, eq-eqb, inl, inr}
use Rattle.std.proofs.lemmas.Bool.{cases_eq, ne_eqb}
use Rattle.std.proofs.lemmas.List.{append-nil, length-map}
use Rattle.bale_items.specs.declared.item.Entry.{Entry}
use Rattle.item_buffer.specs.Contents.{Shipped}
use Rattle.route_tensor.specs.Grid.{ranks, place, IsGrid}
use Rattle.route_tensor.specs.Link.{links, link, IsOnRoute}
use Rattle.route_tensor.specs.Tag.{IsFair, sender_of, destination_of}
use Rattle.route_tensor.specs.Ends.{hop_at, sender_at, reader_at}
use Rattle.route_tensor.proofs.Tags.{pair_route}
use Rattle.route_tensor.proofs.Coordinates.{place_below}
use Rattle.list_laws.specs.Sums.{total}
use Rattle.list_laws.proofs.Sums.{total_le, total_same, total_zero, total_bound, total_swap, total_part, total_lt}
use Rattle.list_laws.proofs.Lists.{all_head, all_tail}
use Rattle.port_bank.specs.Logs.{Logs, lasts, segment}
use Rattle.port_bank.specs.Flow.{hop_link, belongs, flow, passing_items, IsPrefix}
use Rattle.route_tensor.specs.Pair.{PassesThrough}
use Rattle.port_bank.specs.Relay.{HasFairTags}
use Rattle.port_bank.specs.Shapes.{IsFilled, IsConveyorShape}
use Rattle.port_bank.proofs.Fronts.{begins_refl, begins_trans, begins_shorter}
use Rattle.port_bank.proofs.Kept.{flow_begins}
use Rattle.port_bank.proofs.Pipeline.{Keeps}
use Rattle.port_bank.proofs.Routes.{IsNumber, numbered, link-on_route}
use Rattle.port_bank.proofs.Segments.{lasts_first}
use Rattle.rank_group.specs.BankLogs.{parcel_entries}

-- a log's entries are those of its segments
segments_first : (n : ℕ) (f g : ℕ → ℕ) → ((e : ℕ) → g e ≡ f (suc e)) → total (suc n) f ≡ f 0 + total n g
segments_first zero f g e = omega arith
segments_first (suc n) f g e = omega (arith, segments_first n f g e, e n)

pub by_segments : (n : ℕ) (log : List Shipped) → lasts log < n → length (parcel_entries log) ≡ total n (λ e. length (parcel_entries (segment e log)))
by_segments n [] low = sym (total_zero n (λ e. length (parcel_entries (segment e []))) (λ e b. nothing e)) where
  nothing : (e : ℕ) → length (parcel_entries (segment e [])) ≡ 0
  nothing zero = refl
  nothing (suc e) = refl
by_segments zero (p ∷ ps) low = absurd (omega (arith, low))
by_segments (suc n) (p ∷ ps) low = by (λ m b. by_segments m ps b) p.last refl where
  all : length (parcel_entries (p ∷ ps)) ≡ length p.entries + length (parcel_entries ps)
  all = length-append p.entries (parcel_entries ps)

  by : ((m : ℕ) → lasts ps < m → length (parcel_entries ps) ≡ total m (λ e. length (parcel_entries (segment e ps)))) → (b : Bool) → p.last ≡ b → length (parcel_entries (p ∷ ps)) ≡ total (suc n) (λ e. length (parcel_entries (segment e (p ∷ ps))))
  by rec true c =
      let few : lasts ps < n = omega (arith, low, lasts_first p ps true c) in
      let later : (e : ℕ) → length (parcel_entries (segment e ps)) ≡ length (parcel_entries (segment (suc e) (p ∷ ps))) = λ e. ap (λ b. length (parcel_entries (cond b (segment e ps) (segment (suc e) ps)))) (sym c) in
      let here : length (parcel_entries (segment 0 (p ∷ ps))) ≡ length p.entries = ap (λ b. length (parcel_entries (p ∷ cond b [] (segment zero ps)))) c ∙ ap length (append-nil p.entries) in
      let first = segments_first n (λ e. length (parcel_entries (segment e (p ∷ ps)))) (λ e. length (parcel_entries (segment e ps))) later in
      omega (arith, all, here, first, rec n few)
  by rec false c =
      let few : lasts ps < suc n = omega (arith, low, lasts_first p ps false c) in
      let later : (e : ℕ) → length (parcel_entries (segment (suc e) (p ∷ ps))) ≡ length (parcel_entries (segment (suc e) ps)) = λ e. ap (λ b. length (parcel_entries (cond b (segment e ps) (segment (suc e) ps)))) c in
      let here : length (parcel_entries (segment 0 (p ∷ ps))) ≡ length p.entries + length (parcel_entries (segment 0 ps)) =
      ap (λ b. length (parcel_entries (p ∷ cond b [] (segment zero ps)))) c ∙ length-append p.entries (parcel_entries (segment 0 ps)) in
      let first = segments_first n (λ e. length (parcel_entries (segment e (p ∷ ps)))) (λ e. length (parcel_entries (segment (suc e) (p ∷ ps)))) (λ e. refl) in
      let first' = segments_first n (λ e. length (parcel_entries (segment e ps))) (λ e. length (parcel_entries (segment (suc e) ps))) (λ e. refl) in
      let rest = total_same n (λ e. length (parcel_entries (segment (suc e) (p ∷ ps)))) (λ e. length (parcel_entries (segment (suc e) ps))) (λ e b. later e) in
      omega (arith, all, here, first, first', rest, rec (suc n) few)

-- an entry on a link belongs to a pair of ranks whose route has that link
pub record HasPair (dims : List ℕ) (l : ℕ) (x : Entry) : Type 0 where
  pub from : ℕ
  pub to : ℕ
  pub from_low : from < ranks dims
  pub to_low : to < ranks dims
  pub here : hop_link dims from to (hop_at dims l) ≡ l
  pub its : belongs dims from to (hop_at dims l) x ≡ true

pub pair_of : (dims : List ℕ) (l : ℕ) (x : Entry) → IsGrid dims → l < links dims → IsFair dims (hop_at dims l) x.tag → HasPair dims l x
pair_of dims l x g below fair =
    let h : ℕ = hop_at dims l in
    let a : ℕ = sender_at dims l in
    let b : ℕ = reader_at dims l in
    let n : IsNumber dims l h a b = numbered dims l g below in
    let route : IsOnRoute dims (sender_of dims x.tag h a) (destination_of dims x.tag h b) h a b = pair_route dims h a b x.tag g n.is_link fair in
    let s : ℕ = sender_of dims x.tag h a in
    let d : ℕ = destination_of dims x.tag h b in
    let at_a : place dims s d (h - 1) ≡ a = sym route.from in
    let at_b : place dims s d h ≡ b = sym route.to in
    record {
      from = s;
      to = d;
      from_low = route.sender;
      to_low = route.destination;
      here = ap (λ y. link dims h y (place dims s d h)) at_a ∙ (ap (link dims h a) at_b ∙ n.number);
      its =
          ap (λ v. v && (destination_of dims x.tag h (place dims s d h) == d)) (eq-eqb (sender_of dims x.tag h (place dims s d (h - 1))) s (ap (sender_of dims x.tag h) at_a))
          ∙ eq-eqb (destination_of dims x.tag h (place dims s d h)) d (ap (destination_of dims x.tag h) at_b);
    }

-- the entries of a link's log, over all pairs
abbrev on_link : List ℕ → ℕ → ℕ → List Entry → ℕ → ℕ → ℕ
on_link dims l h es s d = cond (hop_link dims s d h == l) (length (filter (belongs dims s d h) es)) 0

more_on_link : (dims : List ℕ) (l h : ℕ) (x : Entry) (es : List Entry) (s d : ℕ) → on_link dims l h es s d ≤ on_link dims l h (x ∷ es) s d
more_on_link dims l h x es s d = by (hop_link dims s d h == l) (belongs dims s d h x) where
  by : (a b : Bool) → cond a (length (filter (belongs dims s d h) es)) 0 ≤ cond a (length (cond b (x ∷ filter (belongs dims s d h) es) (filter (belongs dims s d h) es))) 0
  by true true = omega arith
  by true false = omega arith
  by false b = omega arith

one_on_link : (dims : List ℕ) (l h : ℕ) (x : Entry) (es : List Entry) (s d : ℕ) → (hop_link dims s d h == l) ≡ true → belongs dims s d h x ≡ true → on_link dims l h es s d < on_link dims l h (x ∷ es) s d
one_on_link dims l h x es s d here its =
    let a : cond (hop_link dims s d h == l) (length (filter (belongs dims s d h) es)) 0 ≡ length (filter (belongs dims s d h) es) = ap (λ b. cond b (length (filter (belongs dims s d h) es)) 0) here in
    let b : cond (hop_link dims s d h == l) (length (filter (belongs dims s d h) (x ∷ es))) 0 ≡ suc (length (filter (belongs dims s d h) es)) =
    ap (λ b. cond b (length (filter (belongs dims s d h) (x ∷ es))) 0) here ∙ ap (λ b. length (cond b (x ∷ filter (belongs dims s d h) es) (filter (belongs dims s d h) es))) its in
    omega (arith, a, b)

link_pairs : (dims : List ℕ) (l : ℕ) (es : List Entry) → IsGrid dims → l < links dims → All (λ (x : Entry). IsFair dims (hop_at dims l) x.tag) es
    → length es ≤ total (ranks dims) (λ s. total (ranks dims) (λ d. on_link dims l (hop_at dims l) es s d))
link_pairs dims l [] g below fair = omega arith
link_pairs dims l (x ∷ es) g below fair =
    let h : ℕ = hop_at dims l in
    let p : HasPair dims l x = pair_of dims l x g below (all_head (λ (y : Entry). IsFair dims (hop_at dims l) y.tag) x es fair) in
    let rest = link_pairs dims l es g below (all_tail (λ (y : Entry). IsFair dims (hop_at dims l) y.tag) x es fair) in
    let inner : total (ranks dims) (λ d. on_link dims l h es p.from d) < total (ranks dims) (λ d. on_link dims l h (x ∷ es) p.from d) =
    total_lt (ranks dims) (λ d. on_link dims l h es p.from d) (λ d. on_link dims l h (x ∷ es) p.from d) p.to p.to_low
    (one_on_link dims l h x es p.from p.to (eq-eqb (hop_link dims p.from p.to h) l p.here) p.its) (λ d b. more_on_link dims l h x es p.from d) in
    let outer : total (ranks dims) (λ s. total (ranks dims) (λ d. on_link dims l h es s d)) < total (ranks dims) (λ s. total (ranks dims) (λ d. on_link dims l h (x ∷ es) s d)) =
    total_lt (ranks dims) (λ s. total (ranks dims) (λ d. on_link dims l h es s d)) (λ s. total (ranks dims) (λ d. on_link dims l h (x ∷ es) s d)) p.from p.from_low inner
    (λ s b. total_le (ranks dims) (λ d. on_link dims l h es s d) (λ d. on_link dims l h (x ∷ es) s d) (λ d c. more_on_link dims l h x es s d)) in
    omega (arith, rest, outer)

-- of all links one is picked at most
total_pick : (n x c : ℕ) → total n (λ l. cond (x == l) c 0) ≤ c
total_pick n x c = let b = pick n in omega (arith, b) where
  past : (n : ℕ) → n ≤ x → total n (λ l. cond (x == l) c 0) ≡ 0
  past n high = total_zero n (λ l. cond (x == l) c 0) (λ l b. ap (λ t. cond t c 0) (ne_eqb x l (λ e. omega (arith, e, b, high))))

  pick : (n : ℕ) → total n (λ l. cond (x == l) c 0) ≤ c
  pick zero = omega arith
  pick (suc n) = elim (cases_eq x n) [
    | inl same ↦ let a = past n (omega (arith, same)) in let b : cond (x == n) c 0 ≡ c = ap (λ t. cond t c 0) (eq-eqb x n same) in omega (arith, a, b)
    | inr apart ↦ let b : cond (x == n) c 0 ≡ 0 = ap (λ t. cond t c 0) (ne_eqb x n apart) in let a = pick n in omega (arith, a, b)
  ]

-- what is sent of a pair on each hop is a prefix of what is sent on the first
pub sent_front : (dims : List ℕ) (sent got : Logs) → Keeps dims sent got → (s d e : ℕ) → s < ranks dims → d < ranks dims → (n : ℕ) → suc n ≤ length dims → IsPrefix (flow dims sent s d (suc n) e) (flow dims sent s d 1 e)
sent_front dims sent got k s d e from to zero last = begins_refl (flow dims sent s d 1 e)
sent_front dims sent got k s d e from to (suc n) last =
    let next : suc n + 1 ≡ suc (suc n) = omega arith in
    let rank : place dims s d (suc n) < ranks dims = place_below dims s d (suc n) k.grid.positive from to in
    let relays : PassesThrough dims (place dims s d (suc n)) s d (suc n) = record { sender = from; destination = to; first_hop = omega arith; last_hop = omega (arith, last); here = refl } in
    let hop : IsPrefix (flow dims sent s d (suc n + 1) e) (flow dims got s d (suc n) e) = (k.relays (place dims s d (suc n)) rank).begins s d (suc n) e relays in
    let link : IsPrefix (flow dims got s d (suc n) e) (flow dims sent s d (suc n) e) =
    flow_begins dims got sent s d (suc n) e (k.fronts (hop_link dims s d (suc n)) (link-on_route dims s d (suc n) k.grid from to (omega arith) (omega (arith, last)))) in
    begins_trans _ _ _ (subst (λ m. IsPrefix (flow dims sent s d m e) (flow dims got s d (suc n) e)) next hop) (begins_trans _ _ _ link (sent_front dims sent got k s d e from to n (omega (arith, last))))

-- how many items are pushed between all pairs in an epoch
abbrev pub pushed_in : List ℕ → Logs → ℕ → ℕ
pushed_in dims sent e = total (ranks dims) (λ s. total (ranks dims) (λ d. length (flow dims sent s d 1 e)))

module _ (dims : List ℕ) (sent got : Logs) (k : Keeps dims sent got) (fair : (l : ℕ) → l < links dims → All (HasFairTags dims (hop_at dims l)) (sent l)) (e : ℕ)
    (fair_in : (l : ℕ) → l < links dims → All (λ (x : Entry). IsFair dims (hop_at dims l) x.tag) (parcel_entries (segment e (sent l)))) where
  abbrev pick : ℕ → ℕ → ℕ → ℕ → ℕ
  pick l i s d = cond (hop_link dims s d (suc i) == l) (length (flow dims sent s d (suc i) e)) 0

  -- on link l the entries of its hop
  of_link : (l : ℕ) → l < links dims → length (parcel_entries (segment e (sent l))) ≤ total (length dims) (λ i. total (ranks dims) (λ s. total (ranks dims) (λ d. pick l i s d)))
  of_link l below =
      let n : IsNumber dims l (hop_at dims l) (sender_at dims l) (reader_at dims l) = numbered dims l k.grid below in
      let i : ℕ = hop_at dims l - 1 in
      let first : 1 ≤ hop_at dims l = n.is_link.first_hop in
      let last : hop_at dims l ≤ length dims = n.is_link.last_hop in
      let h : suc i ≡ hop_at dims l = omega (arith, first) in
      let all = link_pairs dims l (parcel_entries (segment e (sent l))) k.grid below (fair_in l below) in
      let same : total (ranks dims) (λ s. total (ranks dims) (λ d. on_link dims l (hop_at dims l) (parcel_entries (segment e (sent l))) s d)) ≡ total (ranks dims) (λ s. total (ranks dims) (λ d. pick l i s d)) =
      total_same (ranks dims) (λ s. total (ranks dims) (λ d. on_link dims l (hop_at dims l) (parcel_entries (segment e (sent l))) s d)) (λ s. total (ranks dims) (λ d. pick l i s d))
      (λ s b. total_same (ranks dims) (λ d. on_link dims l (hop_at dims l) (parcel_entries (segment e (sent l))) s d) (λ d. pick l i s d) (λ d c. subst (λ j. on_link dims l j (parcel_entries (segment e (sent l))) s d ≡ pick l i s d) h (each s d (suc i)))) in
      let part = total_part (length dims) (λ j. total (ranks dims) (λ s. total (ranks dims) (λ d. pick l j s d))) i (omega (arith, h, last)) in
      omega (arith, all, same, part) where
        each : (s d j : ℕ) → cond (hop_link dims s d j == l) (length (filter (belongs dims s d j) (parcel_entries (segment e (sent l))))) 0 ≡ cond (hop_link dims s d j == l) (length (flow dims sent s d j e)) 0
        each s d j = elim (cases_eq (hop_link dims s d j) l) [
          | inl same ↦ ap (λ t. cond (hop_link dims s d j == l) t 0)
              (sym (length-map (filter (belongs dims s d j) (parcel_entries (segment e (sent l)))) (λ (x : Entry). x.item)) ∙ ap (λ m. length (passing_items (belongs dims s d j) (segment e (sent m)))) (sym same))
          | inr apart ↦
              ap (λ b. cond b (length (filter (belongs dims s d j) (parcel_entries (segment e (sent l))))) 0) (ne_eqb (hop_link dims s d j) l apart)
              ∙ sym (ap (λ b. cond b (length (flow dims sent s d j e)) 0) (ne_eqb (hop_link dims s d j) l apart))
        ]

  -- on all links each pair's items count once a hop
  pub all_links : total (links dims) (λ l. length (parcel_entries (segment e (sent l)))) ≤ length dims * pushed_in dims sent e
  all_links =
      let L : ℕ = links dims in
      let a = total_le L (λ l. length (parcel_entries (segment e (sent l)))) (λ l. total (length dims) (λ i. total (ranks dims) (λ s. total (ranks dims) (λ d. pick l i s d)))) of_link in
      let b = total_swap L (length dims) (λ l i. total (ranks dims) (λ s. total (ranks dims) (λ d. pick l i s d))) in
      let c = total_bound (length dims) (pushed_in dims sent e) (λ i. total L (λ l. total (ranks dims) (λ s. total (ranks dims) (λ d. pick l i s d)))) by_hop in
      omega (arith, a, b, c) where
        one : (i s d : ℕ) → i < length dims → s < ranks dims → d < ranks dims → total (links dims) (λ l. pick l i s d) ≤ length (flow dims sent s d 1 e)
        one i s d hop from to =
            let x = total_pick (links dims) (hop_link dims s d (suc i)) (length (flow dims sent s d (suc i) e)) in
            let y = begins_shorter (flow dims sent s d (suc i) e) (flow dims sent s d 1 e) (sent_front dims sent got k s d e from to i (omega (arith, hop))) in
            omega (arith, x, y)

        by_hop : (i : ℕ) → i < length dims → total (links dims) (λ l. total (ranks dims) (λ s. total (ranks dims) (λ d. pick l i s d))) ≤ pushed_in dims sent e
        by_hop i hop =
            let a = total_swap (links dims) (ranks dims) (λ l s. total (ranks dims) (λ d. pick l i s d)) in
            let b = total_le (ranks dims) (λ s. total (links dims) (λ l. total (ranks dims) (λ d. pick l i s d))) (λ s. total (ranks dims) (λ d. length (flow dims sent s d 1 e))) (λ s from.
            let x = total_swap (links dims) (ranks dims) (λ l d. pick l i s d) in
            let y = total_le (ranks dims) (λ d. total (links dims) (λ l. pick l i s d)) (λ d. length (flow dims sent s d 1 e)) (λ d to. one i s d hop from to) in
            omega (arith, x, y)) in
            omega (arith, a, b)

-- a flow reads one log
pub flow_alike : (dims : List ℕ) (a b : Logs) (s d h e : ℕ) → a (hop_link dims s d h) ≡ b (hop_link dims s d h) → flow dims a s d h e ≡ flow dims b s d h e
flow_alike dims a b s d h e same = ap (λ log. passing_items (belongs dims s d h) (segment e log)) same

-- each parcel that isn't marked last has an entry
some_entry : (steady : Bool) (cap : ℕ) (p : Shipped) → 0 < cap → IsFilled steady cap p → 0 < length p.entries
some_entry true cap p some f = f
some_entry false cap p some f = omega (arith, some, f)

pub log_short : (steady : Bool) (cap : ℕ) (log : List Shipped) → 0 < cap → IsConveyorShape steady cap log → length log ≤ length (parcel_entries log) + lasts log
log_short steady cap [] some shape = omega arith
log_short steady cap (p ∷ ps) some shape = by p.last refl (log_short steady cap ps some (all_tail (λ q. q.last ≡ false → IsFilled steady cap q) p ps shape)) where
  by : (b : Bool) → p.last ≡ b → length ps ≤ length (parcel_entries ps) + lasts ps → length (p ∷ ps) ≤ length (parcel_entries (p ∷ ps)) + lasts (p ∷ ps)
  by true c rest = omega (arith, rest, length-append p.entries (parcel_entries ps), lasts_first p ps true c)
  by false c rest = omega (arith, rest, length-append p.entries (parcel_entries ps), lasts_first p ps false c, some_entry steady cap p some (all_head (λ q. q.last ≡ false → IsFilled steady cap q) p ps shape c))
