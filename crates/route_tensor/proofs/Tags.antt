-- The digits of a tag on its way: below the hop the sender's, above it the destination's.
use Rattle.std.proofs.Common.{ℕ, zero, suc, ◌≡◌, ◌≢◌, ◌+◌, ◌-◌, ◌<◌, ◌≤◌, List, [], ◌∷◌, length, get_or, arith, refl, sym, ap, subst, ◌∙◌, cond, ltb, inl, inr}
use Rattle.std.proofs.lemmas.Bool.{cases_lt, cases_order, cases_eq, lt-ltb, le-ltb, cond-true, cond-false}
use Rattle.bale_items.specs.declared.item.Tag.{Tag}
use Rattle.route_tensor.specs.Grid.{ranks, dim, coord, place, IsGrid}
use Rattle.route_tensor.specs.Link.{IsLink, IsOnRoute}
use Rattle.route_tensor.specs.Pair.{TagsLaw}
use Rattle.route_tensor.specs.Tag.{digit, with_digit, IsFair, tag_digit, tag_at, next_tag, rank_of, tag_rank, sender_of, destination_of}
use Rattle.route_tensor.proofs.Coordinates.{Positive, rest-positive, low_digit, high_digits, digits_below, coord-zero, coord_past, place_below, coord-place_low, coord-place_high, same_rank}
use Rattle.route_tensor.proofs.Places.{coord-place, route_link}
use Rattle.route_tensor.proofs.Links.{coord_in}

-- the three cases of a digit of a tag
pub tag_digit_below : (dims : List ℕ) (s d h i : ℕ) → i < h → tag_digit dims s d h i ≡ coord dims s i
unfolding tag_digit
tag_digit_below dims s d h i p = cond-true _ _ _ (lt-ltb i h p)

pub tag_digit_above : (dims : List ℕ) (s d h i : ℕ) → h < i → tag_digit dims s d h i ≡ coord dims d i
unfolding tag_digit
tag_digit_above dims s d h i p = cond-false _ _ _ (le-ltb i h (omega arith)) ∙ cond-true _ _ _ (lt-ltb h i p)

pub tag_digit_here : (dims : List ℕ) (s d h : ℕ) → tag_digit dims s d h h ≡ 0
unfolding tag_digit
tag_digit_here dims s d h = cond-false _ _ _ (le-ltb h h (omega arith)) ∙ cond-false _ _ _ (le-ltb h h (omega arith))

-- past the last dimension it is 0
same_both : (a b : ℕ) → cond {A = ℕ} (ltb a b) 0 0 ≡ 0
same_both a b = elim (cases_lt a b) as (λ _. cond {A = ℕ} (ltb a b) 0 0 ≡ 0) [ inl q ↦ cond-true _ _ _ (lt-ltb a b q) | inr q ↦ cond-false _ _ _ (le-ltb a b q) ]

zero_either_way : (a b : ℕ) → cond {A = ℕ} (ltb a b) 0 (cond {A = ℕ} (ltb b a) 0 0) ≡ 0
zero_either_way a b = elim (cases_lt a b) as (λ _. cond {A = ℕ} (ltb a b) 0 (cond {A = ℕ} (ltb b a) 0 0) ≡ 0) [
  | inl q ↦ cond-true _ _ _ (lt-ltb a b q)
  | inr q ↦ cond-false _ _ _ (le-ltb a b q) ∙ same_both b a
]

tag_digit_past : (dims : List ℕ) (s d h i : ℕ) → length dims < i → tag_digit dims s d h i ≡ 0
unfolding tag_digit
tag_digit_past dims s d h i p = rw (coord_past dims s i p, coord_past dims d i p) (zero_either_way i h)

tag_digit_zero : (dims : List ℕ) (s d h : ℕ) → tag_digit dims s d h 0 ≡ 0
unfolding tag_digit
tag_digit_zero dims s d h = rw (coord-zero dims s, coord-zero dims d) (zero_either_way 0 h)

pub digit-tag_at : (dims : List ℕ) (s d h i : ℕ) → length dims ≤ 3 → digit (tag_at dims s d h) i ≡ tag_digit dims s d h i
unfolding digit
digit-tag_at dims s d h zero l = sym (tag_digit_zero dims s d h)
digit-tag_at dims s d h (suc zero) l = refl
digit-tag_at dims s d h (suc (suc zero)) l = refl
digit-tag_at dims s d h (suc (suc (suc zero))) l = refl
digit-tag_at dims s d h (suc (suc (suc (suc i)))) l = sym (tag_digit_past dims s d h (suc (suc (suc (suc i)))) (omega arith))

-- tags with the same digits are the same
abbrev pub tag_of : ℕ → ℕ → ℕ → Tag
tag_of a b c = record { d1 = a; d2 = b; d3 = c }

tag_of_same : (a a' b b' c c' : ℕ) → a ≡ a' → b ≡ b' → c ≡ c' → tag_of a b c ≡ tag_of a' b' c'
tag_of_same a a' b b' c c' p q r = cc

pub same_tag : (t u : Tag) → ((i : ℕ) → digit t i ≡ digit u i) → t ≡ u
unfolding digit
same_tag t u e = tag_of_same _ _ _ _ _ _ (e 1) (e 2) (e 3)

tag_digit_in : (dims : List ℕ) (s d h i : ℕ) → IsGrid dims → 1 ≤ i → i ≤ length dims → tag_digit dims s d h i < dim dims i
tag_digit_in dims s d h i g first last =
    elim (cases_order i h) as (λ _. tag_digit dims s d h i < dim dims i) [
      | inl q ↦ subst (λ x. x < dim dims i) (sym (ap (tag_digit dims s d h) q ∙ tag_digit_here dims s d h)) (g.positive (i - 1) 0 (omega arith))
      | inr (inl q) ↦ subst (λ x. x < dim dims i) (sym (tag_digit_below dims s d h i q)) (coord_in dims s i g.positive first last)
      | inr (inr q) ↦ subst (λ x. x < dim dims i) (sym (tag_digit_above dims s d h i q)) (coord_in dims d i g.positive first last)
    ]

-- the tag of a pair on its route is fair
pub tag_at_fair : (dims : List ℕ) (s d h : ℕ) → IsGrid dims → IsFair dims h (tag_at dims s d h)
tag_at_fair dims s d h g = record {
  below = λ i first last. subst (λ x. x < dim dims i) (sym (digit-tag_at dims s d h i g.few)) (tag_digit_in dims s d h i g first last);
  here = digit-tag_at dims s d h h g.few ∙ tag_digit_here dims s d h;
  past = λ i p. digit-tag_at dims s d h i g.few ∙ tag_digit_past dims s d h i p;
}

-- a tag read as a rank has the tag's digits for coordinates
digits_of : Tag → List ℕ
digits_of tag = tag.d1 ∷ tag.d2 ∷ tag.d3 ∷ []

digit_at : (tag : Tag) (i : ℕ) → digit tag (suc i) ≡ get_or (digits_of tag) i 0
unfolding digit digits_of
digit_at tag zero = refl
digit_at tag (suc zero) = refl
digit_at tag (suc (suc zero)) = refl
digit_at tag (suc (suc (suc i))) = refl

rank_of_below : (dims cs : List ℕ) → Positive dims → length dims ≤ length cs → ((i : ℕ) → i < length dims → get_or cs i 0 < get_or dims i 0) → rank_of dims cs < ranks dims
unfolding rank_of ranks
rank_of_below [] cs p l b = omega arith
rank_of_below (n ∷ ns) [] p l b = absurd (omega (arith, l))
rank_of_below (n ∷ ns) (c ∷ cs) p l b = digits_below n c _ _ (b 0 (omega arith)) (rank_of_below ns cs (rest-positive n ns p) (omega arith) (λ i q. b (suc i) (omega (arith, q))))

coord-rank_of : (dims cs : List ℕ) (i : ℕ) → length dims ≤ length cs → ((j : ℕ) → j < length dims → get_or cs j 0 < get_or dims j 0) → i < length dims → coord dims (rank_of dims cs) (suc i) ≡ get_or cs i 0
unfolding rank_of coord
coord-rank_of [] cs i l b q = absurd (omega (arith, q))
coord-rank_of (n ∷ ns) [] i l b q = absurd (omega (arith, l))
coord-rank_of (n ∷ ns) (c ∷ cs) zero l b q = low_digit n c _ (b 0 (omega arith))
coord-rank_of (n ∷ ns) (c ∷ cs) (suc i) l b q =
    ap (λ r. coord ns r (suc i)) (high_digits n c _ (b 0 (omega arith)))
    ∙ coord-rank_of ns cs i (omega arith) (λ j w. b (suc j) (omega (arith, w))) (omega (arith, q))

digits_in : (dims : List ℕ) (h : ℕ) (tag : Tag) → IsFair dims h tag → (i : ℕ) → i < length dims → get_or (digits_of tag) i 0 < get_or dims i 0
digits_in dims h tag f i l =
    let e : suc i - 1 ≡ i = omega arith in
    let b : digit tag (suc i) < get_or dims (suc i - 1) 0 = f.below (suc i) (omega arith) (omega arith) in
    subst (λ x. x < get_or dims i 0) (digit_at tag i) (subst (λ j. digit tag (suc i) < get_or dims j 0) e b)

pub tag_rank_below : (dims : List ℕ) (h : ℕ) (tag : Tag) → IsGrid dims → IsFair dims h tag → tag_rank dims tag < ranks dims
unfolding digits_of
tag_rank_below dims h tag g f = rank_of_below dims (digits_of tag) g.positive g.few (digits_in dims h tag f)

pub coord-tag_rank : (dims : List ℕ) (h : ℕ) (tag : Tag) (i : ℕ) → IsGrid dims → IsFair dims h tag → coord dims (tag_rank dims tag) i ≡ digit tag i
unfolding digits_of digit
coord-tag_rank dims h tag zero g f = coord-zero dims _
coord-tag_rank dims h tag (suc i) g f =
    elim (cases_lt i (length dims)) as (λ _. coord dims (tag_rank dims tag) (suc i) ≡ digit tag (suc i)) [
      | inl q ↦ coord-rank_of dims (digits_of tag) i g.few (digits_in dims h tag f) q ∙ sym (digit_at tag i)
      | inr q ↦ coord_past dims _ (suc i) (omega arith) ∙ sym (f.past (suc i) (omega arith))
    ]

before_hop : (i h : ℕ) → 1 ≤ h → i ≤ h - 1 → i < h
before_hop i h p q = omega arith

le_hop : (i h : ℕ) → i ≤ h - 1 → i ≤ h
le_hop i h q = omega arith

not_hop_below : (i h : ℕ) → 1 ≤ h → i ≤ h - 1 → i ≢ h
not_hop_below i h p q = omega arith

-- an entry with the tag of (s,d), on the link of its route, is one of s to d
pub sender-tag_at : (dims : List ℕ) (s d h a b : ℕ) → IsGrid dims → IsOnRoute dims s d h a b → sender_of dims (tag_at dims s d h) h a ≡ s
sender-tag_at dims s d h a b g r =
    let f = tag_at_fair dims s d h g in
    let tag = tag_at dims s d h in
    let l = route_link dims s d h a b g r in
    same_rank dims _ _ g.positive (place_below dims a _ (h - 1) g.positive l.sender (tag_rank_below dims h tag g f)) r.sender (λ i.
    coord-place dims a (tag_rank dims tag) (h - 1) i (λ c. c ≡ coord dims s i) g.positive
    (λ low. coord-tag_rank dims h tag i g f ∙ digit-tag_at dims s d h i g.few ∙ tag_digit_below dims s d h i (before_hop i h r.first_hop low))
    (λ high. ap (λ x. coord dims x i) r.from ∙ coord-place_high dims s d (h - 1) i g.positive high))

pub destination-tag_at : (dims : List ℕ) (s d h a b : ℕ) → IsGrid dims → IsOnRoute dims s d h a b → destination_of dims (tag_at dims s d h) h b ≡ d
destination-tag_at dims s d h a b g r =
    let f = tag_at_fair dims s d h g in
    let tag = tag_at dims s d h in
    let l = route_link dims s d h a b g r in
    same_rank dims _ _ g.positive (place_below dims _ b h g.positive (tag_rank_below dims h tag g f) l.reader) r.destination (λ i.
    coord-place dims (tag_rank dims tag) b h i (λ c. c ≡ coord dims d i) g.positive
    (λ low. ap (λ x. coord dims x i) r.to ∙ coord-place_low dims s d h i g.positive low)
    (λ high. coord-tag_rank dims h tag i g f ∙ digit-tag_at dims s d h i g.few ∙ tag_digit_above dims s d h i high))

-- every fair tag on a link is that of one pair whose route has the link
pub pair_route : (dims : List ℕ) (h a b : ℕ) (tag : Tag) → IsGrid dims → IsLink dims h a b → IsFair dims h tag → IsOnRoute dims (sender_of dims tag h a) (destination_of dims tag h b) h a b
pair_route dims h a b tag g l f =
    let t = tag_rank dims tag in
    let q = tag_rank_below dims h tag g f in
    let p = g.positive in
    let s = place dims a t (h - 1) in
    let d = place dims t b h in
    let ps : s < ranks dims = place_below dims a t (h - 1) p l.sender q in
    let pd : d < ranks dims = place_below dims t b h p q l.reader in
    record {
      first_hop = l.first_hop;
      last_hop = l.last_hop;
      sender = ps;
      destination = pd;
      from = sym (same_rank dims _ _ p (place_below dims s d (h - 1) p ps pd) l.sender (λ i.
          coord-place dims s d (h - 1) i (λ c. c ≡ coord dims a i) p
          (λ low. coord-place_low dims t b h i p (le_hop i h low) ∙ sym (l.agree i (not_hop_below i h l.first_hop low)))
          (λ high. coord-place_high dims a t (h - 1) i p high)));
      to = sym (same_rank dims _ _ p (place_below dims s d h p ps pd) l.reader (λ i.
          coord-place dims s d h i (λ c. c ≡ coord dims b i) p
          (λ low. coord-place_low dims t b h i p low)
          (λ high. coord-place_high dims a t (h - 1) i p (omega arith) ∙ l.agree i (omega arith))));
    }

pair_digit : (dims : List ℕ) (h a b : ℕ) (tag : Tag) → IsGrid dims → IsLink dims h a b → IsFair dims h tag → (i : ℕ) → tag_digit dims (sender_of dims tag h a) (destination_of dims tag h b) h i ≡ digit tag i
pair_digit dims h a b tag g l f i =
    let t = tag_rank dims tag in
    let s = sender_of dims tag h a in
    let d = destination_of dims tag h b in
    elim (cases_order i h) as (λ _. tag_digit dims s d h i ≡ digit tag i) [
      | inl q ↦ ap (tag_digit dims s d h) q ∙ tag_digit_here dims s d h ∙ sym (ap (digit tag) q ∙ f.here)
      | inr (inl q) ↦ tag_digit_below dims s d h i q ∙ coord-place_low dims a t (h - 1) i g.positive (omega arith) ∙ coord-tag_rank dims h tag i g f
      | inr (inr q) ↦ tag_digit_above dims s d h i q ∙ coord-place_high dims t b h i g.positive q ∙ coord-tag_rank dims h tag i g f
    ]

pub pair_tag : (dims : List ℕ) (h a b : ℕ) (tag : Tag) → IsGrid dims → IsLink dims h a b → IsFair dims h tag → tag ≡ tag_at dims (sender_of dims tag h a) (destination_of dims tag h b) h
pair_tag dims h a b tag g l f =
    let t = tag_rank dims tag in
    let p = g.positive in
    let s = place dims a t (h - 1) in
    let d = place dims t b h in
    same_tag tag (tag_at dims s d h) (λ i. sym (digit-tag_at dims s d h i g.few ∙ pair_digit dims h a b tag g l f i))

-- a digit that was set, and the others
pub digit-with_digit_same : (tag : Tag) (h c : ℕ) → 1 ≤ h → h ≤ 3 → digit (with_digit tag h c) h ≡ c
unfolding digit with_digit
digit-with_digit_same tag zero c p q = absurd (omega (arith, p))
digit-with_digit_same tag (suc zero) c p q = refl
digit-with_digit_same tag (suc (suc zero)) c p q = refl
digit-with_digit_same tag (suc (suc (suc zero))) c p q = refl
digit-with_digit_same tag (suc (suc (suc (suc h)))) c p q = absurd (omega (arith, q))

pub digit-with_digit_other : (tag : Tag) (h c i : ℕ) → i ≢ h → digit (with_digit tag h c) i ≡ digit tag i
unfolding digit with_digit
digit-with_digit_other tag zero c i p = refl
digit-with_digit_other tag (suc zero) c zero p = refl
digit-with_digit_other tag (suc zero) c (suc zero) p = absurd (p refl)
digit-with_digit_other tag (suc zero) c (suc (suc zero)) p = refl
digit-with_digit_other tag (suc zero) c (suc (suc (suc zero))) p = refl
digit-with_digit_other tag (suc zero) c (suc (suc (suc (suc i)))) p = refl
digit-with_digit_other tag (suc (suc zero)) c zero p = refl
digit-with_digit_other tag (suc (suc zero)) c (suc zero) p = refl
digit-with_digit_other tag (suc (suc zero)) c (suc (suc zero)) p = absurd (p refl)
digit-with_digit_other tag (suc (suc zero)) c (suc (suc (suc zero))) p = refl
digit-with_digit_other tag (suc (suc zero)) c (suc (suc (suc (suc i)))) p = refl
digit-with_digit_other tag (suc (suc (suc zero))) c zero p = refl
digit-with_digit_other tag (suc (suc (suc zero))) c (suc zero) p = refl
digit-with_digit_other tag (suc (suc (suc zero))) c (suc (suc zero)) p = refl
digit-with_digit_other tag (suc (suc (suc zero))) c (suc (suc (suc zero))) p = absurd (p refl)
digit-with_digit_other tag (suc (suc (suc zero))) c (suc (suc (suc (suc i)))) p = refl
digit-with_digit_other tag (suc (suc (suc (suc h)))) c i p = refl

next_digit : (dims : List ℕ) (s d h a b : ℕ) → IsGrid dims → IsOnRoute dims s d h a b → h < length dims → (i : ℕ) →
    digit (next_tag dims (tag_at dims s d h) h a) i ≡ tag_digit dims s d (h + 1) i
next_digit dims s d h a b g r l i =
    let tag = tag_at dims s d h in
    let c = coord dims a h in
    let kept : i ≢ h + 1 → i ≢ h → digit (next_tag dims tag h a) i ≡ tag_digit dims s d h i =
    λ p q. digit-with_digit_other _ (h + 1) 0 i p ∙ digit-with_digit_other tag h c i q ∙ digit-tag_at dims s d h i g.few in
    let here : digit (next_tag dims tag h a) h ≡ coord dims s h =
    digit-with_digit_other _ (h + 1) 0 h (omega arith)
    ∙ digit-with_digit_same tag h c r.first_hop (omega (arith, g.few))
    ∙ ap (λ x. coord dims x h) r.from ∙ coord-place_high dims s d (h - 1) h g.positive (omega (arith, r.first_hop)) in
    elim (cases_order i h) as (λ _. digit (next_tag dims tag h a) i ≡ tag_digit dims s d (h + 1) i) [
      | inl q ↦ ap (digit (next_tag dims tag h a)) q ∙ here ∙ sym (ap (tag_digit dims s d (h + 1)) q ∙ tag_digit_below dims s d (h + 1) h (omega arith))
      | inr (inl q) ↦ kept (omega arith) (omega arith) ∙ tag_digit_below dims s d h i q ∙ sym (tag_digit_below dims s d (h + 1) i (omega arith))
      | inr (inr q) ↦ elim (cases_eq i (h + 1)) as (λ _. digit (next_tag dims tag h a) i ≡ tag_digit dims s d (h + 1) i) [
        | inl e ↦ ap (digit (next_tag dims tag h a)) e ∙ digit-with_digit_same _ (h + 1) 0 (omega arith) (omega (arith, g.few)) ∙ sym (ap (tag_digit dims s d (h + 1)) e ∙ tag_digit_here dims s d (h + 1))
        | inr n ↦ kept n (omega arith) ∙ tag_digit_above dims s d h i q ∙ sym (tag_digit_above dims s d (h + 1) i (omega (arith, n)))
      ]
    ]

-- the tag on the next link of the route
pub next_tag-tag_at : (dims : List ℕ) (s d h a b : ℕ) → IsGrid dims → IsOnRoute dims s d h a b → h < length dims → next_tag dims (tag_at dims s d h) h a ≡ tag_at dims s d (h + 1)
next_tag-tag_at dims s d h a b g r l =
    same_tag _ (tag_at dims s d (h + 1)) (λ i. next_digit dims s d h a b g r l i ∙ sym (digit-tag_at dims s d (h + 1) i g.few))

-- so its tags name a pair on each link of its route
pub named_on_route : TagsLaw
named_on_route dims s d h a b grid route = record {
  fair = tag_at_fair dims s d h grid;
  sender = sender-tag_at dims s d h a b grid route;
  destination = destination-tag_at dims s d h a b grid route;
  next = λ more. next_tag-tag_at dims s d h a b grid route more;
}

-- it is fair there
pub next_tag_fair : (dims : List ℕ) (h a b : ℕ) (tag : Tag) → IsGrid dims → IsLink dims h a b → IsFair dims h tag → h < length dims → IsFair dims (h + 1) (next_tag dims tag h a)
next_tag_fair dims h a b tag g l f m =
    let s = sender_of dims tag h a in
    let d = destination_of dims tag h b in
    let e : next_tag dims tag h a ≡ tag_at dims s d (h + 1) =
    ap (λ t. next_tag dims t h a) (pair_tag dims h a b tag g l f) ∙ next_tag-tag_at dims s d h a b g (pair_route dims h a b tag g l f) m in
    subst (IsFair dims (h + 1)) (sym e) (tag_at_fair dims s d (h + 1) g)

-- the tags that the code makes
pub first_tag_made : (dims : List ℕ) (s d c2 c3 : ℕ) → c2 ≡ coord dims d 2 → c3 ≡ coord dims d 3 → tag_of 0 c2 c3 ≡ tag_at dims s d 1
first_tag_made dims s d c2 c3 p q =
    tag_of_same _ _ _ _ _ _ (sym (tag_digit_here dims s d 1)) (p ∙ sym (tag_digit_above dims s d 1 2 (omega arith))) (q ∙ sym (tag_digit_above dims s d 1 3 (omega arith)))

pub next_tag_made_1 : (dims : List ℕ) (tag : Tag) (h a c : ℕ) → h ≡ 1 → c ≡ coord dims a h → tag_of c 0 tag.d3 ≡ next_tag dims tag h a
unfolding with_digit
next_tag_made_1 dims tag h a c e p = rw (p, e) refl

pub next_tag_made_2 : (dims : List ℕ) (tag : Tag) (h a c : ℕ) → h ≡ 2 → c ≡ coord dims a h → tag_of tag.d1 c 0 ≡ next_tag dims tag h a
unfolding with_digit
next_tag_made_2 dims tag h a c e p = rw (p, e) refl
