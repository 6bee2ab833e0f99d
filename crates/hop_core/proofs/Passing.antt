-- Entries that a relay passes on keep the order of their pair.
use Rattle.std.proofs.Common.{ℕ, ◌≡◌, ◌≢◌, ◌+◌, ◌-◌, ◌<◌, Bool, false, ◌&&◌, List, [], ◌∷◌, ◌++◌, length, map, get_or, set, sum, arith, refl, sym, ap, subst, ◌∙◌, inl, inr, cond, eqb, append_assoc}
use Rattle.std.specs.List.{filter}
use Rattle.std.proofs.lemmas.Bool.{cases_eq, cases_Bool, and_parts, eqb-true, false_from_ne_true, cond-true, cond-false}
use Rattle.std.proofs.lemmas.List.{map-append, append-nil, get_or-set_same, get_or-set_other}
use Rattle.std.proofs.lemmas.List.Elements.{filter-append}
use Rattle.bale_items.specs.declared.item.Entry.{Entry}
use Rattle.bale_items.specs.declared.item.Item.{Item}
use Rattle.route_tensor.specs.Grid.{ranks, dim, coord, place, IsGrid}
use Rattle.route_tensor.specs.Link.{IsLink, IsOnRoute, links_before}
use Rattle.route_tensor.specs.Neighbour.{hop_to, neighbour}
use Rattle.route_tensor.specs.Tag.{digit, IsFair, tag_at, next_tag, sender_of, destination_of}
use Rattle.route_tensor.specs.Pair.{belongs, items_of_pair, PassesThrough}
use Rattle.route_tensor.specs.Routes.{about, passed_on}
use Rattle.route_tensor.proofs.Coordinates.{coord-place_low, coord-place_high}
use Rattle.route_tensor.proofs.Links.{coord_in}
use Rattle.route_tensor.proofs.Places.{place_link, route_next}
use Rattle.route_tensor.proofs.Tags.{digit-tag_at, tag_digit_above, tag_at_fair, sender-tag_at, destination-tag_at, pair_route, pair_tag, next_tag-tag_at}
use Rattle.route_tensor.proofs.Neighbours.{hop_to_is, number_made, number_below, from_neighbour, coord-neighbour, neighbour_at, turned}
use Rattle.hop_core.specs.Link.{Out, In, no_out}
use Rattle.hop_core.specs.Relay.{way_in, way_out, PassesOn}

-- the pair of an entry that came from neighbour i to rank r, and where it goes next
pub record Moves (dims : List ℕ) (r i s d : ℕ) (e : Entry) : Type 0 where
  pub through : PassesThrough dims r s d (hop_to dims i)
  pub route : IsOnRoute dims s d (hop_to dims i) (neighbour dims r i) r
  pub sender : sender_of dims e.tag (hop_to dims i) (neighbour dims r i) ≡ s
  pub destination : destination_of dims e.tag (hop_to dims i) r ≡ d
  pub comes : way_in dims s (hop_to dims i) ≡ i
  pub goes : (passed_on (about dims r i) e.tag).out ≡ way_out dims d (hop_to dims i + 1)
  pub tag : (passed_on (about dims r i) e.tag).tag ≡ tag_at dims s d (hop_to dims i + 1)
  pub fair : IsFair dims (hop_to dims i + 1) (passed_on (about dims r i) e.tag).tag
  pub below : (passed_on (about dims r i) e.tag).out < sum dims
  pub next_hop : hop_to dims (passed_on (about dims r i) e.tag).out ≡ hop_to dims i + 1

pub moves : (dims : List ℕ) (r i : ℕ) (e : Entry) → IsGrid dims → r < ranks dims → i < sum dims → hop_to dims i < length dims → IsFair dims (hop_to dims i) e.tag →
    Moves dims r i (sender_of dims e.tag (hop_to dims i) (neighbour dims r i)) (destination_of dims e.tag (hop_to dims i) r) e
moves dims r i e g a q l f =
    let h = hop_to dims i in
    let b = neighbour dims r i in
    let s = sender_of dims e.tag h b in
    let d = destination_of dims e.tag h r in
    let link : IsLink dims h b r = from_neighbour dims r i g a q in
    let route : IsOnRoute dims s d h b r = pair_route dims h b r e.tag g link f in
    let t : e.tag ≡ tag_at dims s d h = pair_tag dims h b r e.tag g link f in
    let cb : coord dims b h ≡ coord dims s h = ap (λ x. coord dims x h) route.from ∙ coord-place_high dims s d (h - 1) h g.positive (omega (arith, route.first_hop)) in
    let comes : links_before dims h + coord dims s h ≡ i = ap (λ c. links_before dims h + c) (sym cb) ∙ coord-neighbour dims r i g q in
    let dig : digit e.tag (h + 1) ≡ coord dims d (h + 1) = ap (λ x. digit x (h + 1)) t ∙ digit-tag_at dims s d h (h + 1) g.few ∙ tag_digit_above dims s d h (h + 1) (omega arith) in
    let nt : (passed_on (about dims r i) e.tag).tag ≡ tag_at dims s d (h + 1) = ap (λ x. next_tag dims x h b) t ∙ next_tag-tag_at dims s d h b r g route l in
    let goes : links_before dims (h + 1) + digit e.tag (h + 1) ≡ links_before dims (h + 1) + coord dims d (h + 1) = ap (λ c. links_before dims (h + 1) + c) dig in
    let cd : coord dims d (h + 1) < dim dims (h + 1) = coord_in dims d (h + 1) g.positive (omega arith) (omega (arith, l)) in
    let num = number_made dims (h + 1) (coord dims d (h + 1)) (omega arith) (omega (arith, l)) cd in
    record {
      through = record { sender = route.sender; destination = route.destination; first_hop = route.first_hop; last_hop = l; here = sym route.to };
      route = route;
      sender = refl;
      destination = refl;
      comes = comes;
      goes = goes;
      tag = nt;
      fair = subst (IsFair dims (h + 1)) (sym nt) (tag_at_fair dims s d (h + 1) g);
      below = subst (λ o. o < sum dims) (sym goes) (number_below dims (h + 1) _ num);
      next_hop = ap (hop_to dims) goes ∙ hop_to_is dims (h + 1) _ num;
    }

-- whether an entry of the pair (s0,d0) is one of (s,d)
abbrev pub is_pair : ℕ → ℕ → ℕ → ℕ → Bool
is_pair s0 d0 s d = eqb s0 s && eqb d0 d

-- where the entries of a pair come from, and where they go
through_in : (dims : List ℕ) (r s d h : ℕ) → IsGrid dims → PassesThrough dims r s d h → neighbour dims r (way_in dims s h) ≡ place dims s d (h - 1)
through_in dims r s d h g p =
    let l : IsLink dims h (place dims s d (h - 1)) r = subst (λ x. IsLink dims h (place dims s d (h - 1)) x) p.here (place_link dims s d h g p.sender p.destination p.first_hop (omega (arith, p.last_hop))) in
    let c : coord dims (place dims s d (h - 1)) h ≡ coord dims s h = coord-place_high dims s d (h - 1) h g.positive (omega (arith, p.first_hop)) in
    ap (λ x. neighbour dims r (links_before dims h + x)) (sym c) ∙ neighbour_at dims h r (place dims s d (h - 1)) g (turned dims h _ r l)

through_out : (dims : List ℕ) (r s d h : ℕ) → IsGrid dims → PassesThrough dims r s d h → neighbour dims r (way_out dims d (h + 1)) ≡ place dims s d (h + 1)
through_out dims r s d h g p =
    let e : h + 1 - 1 ≡ h = omega arith in
    let k : IsLink dims (h + 1) (place dims s d (h + 1 - 1)) (place dims s d (h + 1)) = place_link dims s d (h + 1) g p.sender p.destination (omega arith) (omega (arith, p.last_hop)) in
    let l : IsLink dims (h + 1) r (place dims s d (h + 1)) = subst (λ x. IsLink dims (h + 1) x (place dims s d (h + 1))) (ap (place dims s d) e ∙ p.here) k in
    let c : coord dims (place dims s d (h + 1)) (h + 1) ≡ coord dims d (h + 1) = coord-place_low dims s d (h + 1) (h + 1) g.positive (omega arith) in
    ap (λ x. neighbour dims r (links_before dims (h + 1) + x)) (sym c) ∙ neighbour_at dims (h + 1) r (place dims s d (h + 1)) g l

-- the entry as it came, and as it goes on
belongs_in : (dims : List ℕ) (r i s0 d0 s d : ℕ) (e : Entry) → IsGrid dims → Moves dims r i s0 d0 e → PassesThrough dims r s d (hop_to dims i) → way_in dims s (hop_to dims i) ≡ i →
    belongs dims s d (hop_to dims i) e ≡ is_pair s0 d0 s d
belongs_in dims r i s0 d0 s d e g m p w =
    let h = hop_to dims i in
    let a : place dims s d (h - 1) ≡ neighbour dims r i = sym (ap (neighbour dims r) (sym w) ∙ through_in dims r s d h g p) in
    ap (λ x. eqb (sender_of dims e.tag h x) s && eqb (destination_of dims e.tag h (place dims s d h)) d) a
    ∙ ap (λ x. eqb (sender_of dims e.tag h (neighbour dims r i)) s && eqb (destination_of dims e.tag h x) d) p.here
    ∙ ap (λ x. eqb x s && eqb (destination_of dims e.tag h r) d) m.sender ∙ ap (λ x. eqb s0 s && eqb x d) m.destination

belongs_out : (dims : List ℕ) (r i s0 d0 s d : ℕ) (e e' : Entry) → IsGrid dims → Moves dims r i s0 d0 e → e'.tag ≡ (passed_on (about dims r i) e.tag).tag →
    PassesThrough dims r s d (hop_to dims i) → way_out dims d (hop_to dims i + 1) ≡ (passed_on (about dims r i) e.tag).out →
    belongs dims s d (hop_to dims i + 1) e' ≡ is_pair s0 d0 s d
belongs_out dims r i s0 d0 s d e e' g m t p w =
    let h = hop_to dims i in
    let next = route_next dims s0 d0 h (neighbour dims r i) r m.route p.last_hop in
    let tag : e'.tag ≡ tag_at dims s0 d0 (h + 1) = t ∙ m.tag in
    let k : h + 1 - 1 ≡ h = omega arith in
    let a : place dims s d (h + 1 - 1) ≡ r = ap (place dims s d) k ∙ p.here in
    let b : place dims s d (h + 1) ≡ place dims s0 d0 (h + 1) = sym (through_out dims r s d h g p) ∙ ap (neighbour dims r) (w ∙ m.goes) ∙ through_out dims r s0 d0 h g m.through in
    let c : sender_of dims e'.tag (h + 1) (place dims s d (h + 1 - 1)) ≡ s0 =
    ap (λ x. sender_of dims x (h + 1) (place dims s d (h + 1 - 1))) tag ∙ ap (sender_of dims (tag_at dims s0 d0 (h + 1)) (h + 1)) a ∙ sender-tag_at dims s0 d0 (h + 1) r _ g next in
    let f : destination_of dims e'.tag (h + 1) (place dims s d (h + 1)) ≡ d0 =
    ap (λ x. destination_of dims x (h + 1) (place dims s d (h + 1))) tag ∙ ap (destination_of dims (tag_at dims s0 d0 (h + 1)) (h + 1)) b ∙ destination-tag_at dims s0 d0 (h + 1) r _ g next in
    ap (λ x. eqb x s && eqb (destination_of dims e'.tag (h + 1) (place dims s d (h + 1))) d) c ∙ ap (λ x. eqb s0 s && eqb x d) f

-- an entry of another way is one of another pair
not_in : (dims : List ℕ) (r i s0 d0 s d : ℕ) (e : Entry) → Moves dims r i s0 d0 e → way_in dims s (hop_to dims i) ≢ i → is_pair s0 d0 s d ≡ false
not_in dims r i s0 d0 s d e m ne = false_from_ne_true _ (λ t.
    let b = and_parts _ _ t in
    ne (ap (λ x. way_in dims x (hop_to dims i)) (sym (eqb-true s0 s b.0)) ∙ m.comes))

not_out : (dims : List ℕ) (r i s0 d0 s d : ℕ) (e : Entry) → Moves dims r i s0 d0 e → way_out dims d (hop_to dims i + 1) ≢ (passed_on (about dims r i) e.tag).out → is_pair s0 d0 s d ≡ false
not_out dims r i s0 d0 s d e m ne = false_from_ne_true _ (λ t.
    let b = and_parts _ _ t in
    ne (ap (λ x. way_out dims x (hop_to dims i + 1)) (sym (eqb-true d0 d b.1)) ∙ sym m.goes))

-- the items of one entry
abbrev pub item_if : Bool → Entry → List Item
item_if b e = cond b (e.item ∷ []) []

items_cons : (dims : List ℕ) (s d h : ℕ) (e : Entry) (es : List Entry) → items_of_pair dims s d h (e ∷ es) ≡ item_if (belongs dims s d h e) e ++ items_of_pair dims s d h es
items_cons dims s d h e es = elim (cases_Bool (belongs dims s d h e)) as (λ _. items_of_pair dims s d h (e ∷ es) ≡ item_if (belongs dims s d h e) e ++ items_of_pair dims s d h es) [
  | inl t ↦ ap (map (λ (x : Entry). x.item)) (cond-true _ _ _ t) ∙ sym (ap (λ xs. xs ++ items_of_pair dims s d h es) (cond-true _ _ _ t))
  | inr f ↦ ap (map (λ (x : Entry). x.item)) (cond-false _ _ _ f) ∙ sym (ap (λ xs. xs ++ items_of_pair dims s d h es) (cond-false _ _ _ f))
]

items_push : (dims : List ℕ) (s d h : ℕ) (es : List Entry) (e : Entry) → items_of_pair dims s d h (es ++ e ∷ []) ≡ items_of_pair dims s d h es ++ item_if (belongs dims s d h e) e
items_push dims s d h es e =
    ap (map (λ (x : Entry). x.item)) (filter-append (belongs dims s d h) es (e ∷ []))
    ∙ map-append (λ (x : Entry). x.item) (filter (belongs dims s d h) es) (filter (belongs dims s d h) (e ∷ []))
    ∙ ap (λ ys. items_of_pair dims s d h es ++ ys) (items_cons dims s d h e [] ∙ append-nil (item_if (belongs dims s d h e) e))

-- one entry e moves from the front of x to the end of the open parcel at o
pub one_moves : (dims : List ℕ) (r i : ℕ) (outs : List Out) (out : Out) (x x' : In) (e e' : Entry) (rest : List Entry) → IsGrid dims → r < ranks dims → i < sum dims → hop_to dims i < length dims →
    IsFair dims (hop_to dims i) e.tag → e'.tag ≡ (passed_on (about dims r i) e.tag).tag → e'.item ≡ e.item → length outs ≡ sum dims →
    x.parcel.untaken ≡ e ∷ rest → x'.parcel.untaken ≡ rest → out.parcel.untaken ≡ (get_or outs (passed_on (about dims r i) e.tag).out no_out).parcel.untaken ++ e' ∷ [] →
    PassesOn dims r (hop_to dims i) i outs (set outs (passed_on (about dims r i) e.tag).out out) x x'
one_moves dims r i outs out x x' e e' rest g a q l f t it n ex ex' eo =
    let h = hop_to dims i in
    let m = moves dims r i e g a q l f in
    let o = (passed_on (about dims r i) e.tag).out in
    let s0 = sender_of dims e.tag h (neighbour dims r i) in
    let d0 = destination_of dims e.tag h r in
    let outs' = set outs o out in
    let inside : o < length outs = subst (λ k. o < k) (sym n) m.below in
    let Items : ℕ → ℕ → List Out → List Item = λ s d os. items_of_pair dims s d (h + 1) (get_or os (way_out dims d (h + 1)) no_out).parcel.untaken in
    let there : (s d : ℕ) → PassesThrough dims r s d h → way_out dims d (h + 1) ≡ o → Items s d outs' ≡ Items s d outs ++ item_if (is_pair s0 d0 s d) e =
    λ s d p w.
    ap (λ k. items_of_pair dims s d (h + 1) (get_or outs' k no_out).parcel.untaken) w
    ∙ ap (λ y. items_of_pair dims s d (h + 1) y.parcel.untaken) (get_or-set_same outs o out no_out inside)
    ∙ ap (items_of_pair dims s d (h + 1)) eo
    ∙ items_push dims s d (h + 1) (get_or outs o no_out).parcel.untaken e'
    ∙ ap (λ k. items_of_pair dims s d (h + 1) (get_or outs k no_out).parcel.untaken ++ item_if (belongs dims s d (h + 1) e') e') (sym w)
    ∙ ap (λ b. Items s d outs ++ item_if b e') (belongs_out dims r i s0 d0 s d e e' g m t p w)
    ∙ ap (λ z. Items s d outs ++ cond (is_pair s0 d0 s d) (z ∷ []) []) it in
    let elsewhere : (s d : ℕ) → way_out dims d (h + 1) ≢ o → Items s d outs' ≡ Items s d outs =
    λ s d ne. ap (λ y. items_of_pair dims s d (h + 1) y.parcel.untaken) (get_or-set_other outs o (way_out dims d (h + 1)) out no_out ne) in
    let unlike : (s d : ℕ) → is_pair s0 d0 s d ≡ false → PassesThrough dims r s d h → Items s d outs' ≡ Items s d outs =
    λ s d no p. elim (cases_eq (way_out dims d (h + 1)) o) as (λ _. Items s d outs' ≡ Items s d outs) [
      | inl w ↦ there s d p w ∙ ap (λ b. Items s d outs ++ item_if b e) no ∙ append-nil (Items s d outs)
      | inr ne ↦ elsewhere s d ne
    ] in
    let came : (s d : ℕ) → PassesThrough dims r s d h → way_in dims s h ≡ i → items_of_pair dims s d h x.parcel.untaken ≡ item_if (is_pair s0 d0 s d) e ++ items_of_pair dims s d h x'.parcel.untaken =
    λ s d p w.
    ap (items_of_pair dims s d h) ex ∙ items_cons dims s d h e rest
    ∙ ap (λ b. item_if b e ++ items_of_pair dims s d h rest) (belongs_in dims r i s0 d0 s d e g m p w)
    ∙ ap (λ es. item_if (is_pair s0 d0 s d) e ++ items_of_pair dims s d h es) (sym ex') in
    record {
      mine = λ s d p w.
          elim (cases_eq (way_out dims d (h + 1)) o) as (λ _. Items s d outs' ++ items_of_pair dims s d h x'.parcel.untaken ≡ Items s d outs ++ items_of_pair dims s d h x.parcel.untaken) [
            | inl v ↦
                ap (λ ys. ys ++ items_of_pair dims s d h x'.parcel.untaken) (there s d p v)
                ∙ append_assoc (Items s d outs) (item_if (is_pair s0 d0 s d) e) (items_of_pair dims s d h x'.parcel.untaken)
                ∙ ap (λ ys. Items s d outs ++ ys) (sym (came s d p w))
            | inr ne ↦
                let no : is_pair s0 d0 s d ≡ false = not_out dims r i s0 d0 s d e m ne in
                ap (λ ys. ys ++ items_of_pair dims s d h x'.parcel.untaken) (elsewhere s d ne)
                ∙ ap (λ ys. Items s d outs ++ ys) (sym (came s d p w ∙ ap (λ b. item_if b e ++ items_of_pair dims s d h x'.parcel.untaken) no))
          ];
      others = λ s d p ne. unlike s d (not_in dims r i s0 d0 s d e m ne) p;
    }

-- what passes on in two parts
pub passes_none : (dims : List ℕ) (r h i : ℕ) (outs : List Out) (x : In) → PassesOn dims r h i outs outs x x
passes_none dims r h i outs x = record { mine = λ s d p w. refl; others = λ s d p w. refl }

pub passes_both : (dims : List ℕ) (r h i : ℕ) (a b c : List Out) (x y z : In) → PassesOn dims r h i a b x y → PassesOn dims r h i b c y z → PassesOn dims r h i a c x z
passes_both dims r h i a b c x y z p q = record {
  mine = λ s d t w. q.mine s d t w ∙ p.mine s d t w;
  others = λ s d t w. q.others s d t w ∙ p.others s d t w;
}
