-- The laws of topo.
use Rattle.std.proofs.Common.{ℕ, ◌+◌, ◌-◌, ◌/◌, ◌%◌, ◌^◌, ◌<◌, ◌≡◌, ◌≢◌, ◌==◌, ◌&&◌, min, Bool, true, false, List, []}
use Rattle.std.proofs.Common.{◌∷◌, map, length, get_or, set, arith, refl, sym, ap, ap₂, ◌∙◌, subst, inl, inr}
use Rattle.std.proofs.Common.{lit<}
use Rattle.std.specs.Prelude.{nat_lt, if◌then◌else◌}
use Rattle.std.specs.List.{All, filter, flat_map}
use Rattle.std.proofs.lemmas.Bool.{cases_eq, cases_lt, eq-eqb, ne_eqb, and_parts, ltb-true, lt-ltb, le-ltb}
use Rattle.std.proofs.lemmas.Bool.Decides.{nat_tests}
use Rattle.std.proofs.lemmas.List.{get_or-set_same, get_or-set_other}
use Rattle.std.proofs.lemmas.List.Elements.{All-nil, All-map, All-filter, All-append, filter_passes}
use Rattle.bale_items.specs.declared.Item.{Item}
use Rattle.bale_items.specs.declared.triple.Triple.{Triple}
use Rattle.list_laws.proofs.Lists.{changed_comm, changed_len}
use Rattle.mtx_text.specs.Cells.{is_before, InOrder, with_value_raised}
use Rattle.mtx_text.proofs.PlaceOrder.{pairs_none}
use Rattle.mtx_text.proofs.Raised.{raised_comm, raised_ordered}
use Rattle.mtx_text.proofs.Gathered.{raised_keeps}
use Rattle.round_program.specs.Laws.{Laws, Fits, SameRound, IsItem, is_item}
use Rattle.sparse_rows.proofs.Places.{place_own}
use Rattle.app_topo.specs.Topos.{TopoState, IsTopo, AreInside, topo_rules, may_topo, spot, with_rise, number_at, to_claim}
use Rattle.app_topo.specs.Topos.{to_fall, own_rows, claims_now, claims_of, falls_of, topo_next_outgoing, after_entry, claimed_by}
use Rattle.app_topo.specs.Topos.{after_fall}

-- ---- What may be sent

-- what an item that fits says
pub record IsOwnItem (size ranks rank : ℕ) (x : Item) : Type 0 where
  pub a_low : x.a < size
  pub b_low : x.b < size
  pub own : x.a % ranks ≡ rank

topo_within : (shape : List ℕ) (ranks round to from : ℕ) (x : Item) → may_topo shape ranks round to from x ≡ true
    → (to < ranks) × (from < ranks) × IsItem x
topo_within [] ranks round to from x h = absurd (cc)
topo_within (size ∷ []) ranks round to from x h =
    within_by (if round == 0 then nat_lt x.c 2 else x.c == 3 - round % 2) size ranks to from x h
  where
    within_by : (k : Bool) (size ranks to from : ℕ) (x : Item)
        → (nat_lt from ranks && nat_lt x.a size && nat_lt x.b size && x.a % ranks == to && is_item x && k) ≡ true
        → (to < ranks) × (from < ranks) × IsItem x
    within_by k size ranks to from x h = (grind (arith, nat_tests), grind (arith, nat_tests), grind (arith, nat_tests))
topo_within (size ∷ (c ∷ cs)) ranks round to from x h = absurd (cc)

pub own_item : (size ranks round to from : ℕ) (x : Item) → may_topo (size ∷ []) ranks round to from x ≡ true
    → IsOwnItem size ranks to x
own_item size ranks round to from x h =
    own_by (if round == 0 then nat_lt x.c 2 else x.c == 3 - round % 2) size ranks to from x h
  where
    own_by : (k : Bool) (size ranks to from : ℕ) (x : Item)
        → (nat_lt from ranks && nat_lt x.a size && nat_lt x.b size && x.a % ranks == to && is_item x && k) ≡ true
        → IsOwnItem size ranks to x
    own_by k size ranks to from x h =
        record { a_low = grind (arith, nat_tests); b_low = grind (arith, nat_tests); own = grind (arith, nat_tests) }

-- ---- Each absorb keeps the rank in order

pub added_len : (ranks : ℕ) (numbers : List ℕ) (x b : ℕ) → length (with_rise ranks numbers x b) ≡ length numbers
added_len ranks numbers x b = changed_len numbers (x / ranks) 0 (λ v. (v + b) % 2 ^ 64)

pub raised_in : (size : ℕ) (t : Triple) (cells : List Triple) → AreInside size t → All (AreInside size) cells
    → All (AreInside size) (with_value_raised t cells)
raised_in size t cells h all = raised_keeps (AreInside size) (λ s u e f a b. a) t cells h all

spot_inside : (size a b : ℕ) → a < size → b < size → AreInside size (spot a b)
spot_inside size a b h k = (h, k)

maybe_in : (size : ℕ) (b : Bool) (t : Triple) (cells : List Triple) → AreInside size t → All (AreInside size) cells
    → All (AreInside size) (if b then with_value_raised t cells else cells)
maybe_in size true t cells h all = raised_in size t cells h all
maybe_in size false t cells h all = all

maybe_ordered : (b : Bool) (t : Triple) (cells : List Triple) → InOrder cells
    → InOrder (if b then with_value_raised t cells else cells)
maybe_ordered true t cells h = raised_ordered t cells h
maybe_ordered false t cells h = h

maybe_added : (b : Bool) (ranks : ℕ) (numbers : List ℕ) (x n : ℕ)
    → length (if b then with_rise ranks numbers x n else numbers) ≡ length numbers
maybe_added true ranks numbers x n = added_len ranks numbers x n
maybe_added false ranks numbers x n = refl

either : {X : Type 0} (b : Bool) (P : X → Type 0) (x y : X) → P x → P y → P (if b then x else y)
either true P x y h k = h
either false P x y h k = k

pub entered_valid : (s : TopoState) (x : Item) → IsTopo s → IsOwnItem s.size s.ranks s.rank x → IsTopo (after_entry s x)
entered_valid s x v o =
    record {
      own = v.own;
      wide = v.wide;
      number_places = maybe_added (x.c == 0) s.ranks s.numbers x.a 1 ∙ v.number_places;
      sum_places = maybe_added (x.c == 0) s.ranks s.sums x.a x.b ∙ v.sum_places;
      count_places = v.count_places;
      few = v.few;
      inside = v.inside;
      sorted = v.sorted;
      came_inside =
          either (x.c == 0) (All (AreInside s.size)) s.came (with_value_raised (spot x.a x.b) s.came) v.came_inside
          (raised_in s.size (spot x.a x.b) s.came (spot_inside s.size x.a x.b o.a_low o.b_low) v.came_inside);
      ordered = either (x.c == 0) InOrder s.came (with_value_raised (spot x.a x.b) s.came) v.ordered
          (raised_ordered (spot x.a x.b) s.came v.ordered);
      fit = v.fit;
    }

pub claimed_valid : (s : TopoState) (x : Item) → IsTopo s → IsOwnItem s.size s.ranks s.rank x → IsTopo (claimed_by s x)
claimed_valid s x v o =
    let low : x.a < s.size = o.a_low in
    record {
      own = v.own;
      wide = v.wide;
      number_places = v.number_places;
      sum_places = v.sum_places;
      count_places = added_len s.ranks s.counts x.a 1 ∙ v.count_places;
      few = (let few : s.fresh < 2 ^ 32 =
          v.few in either (number_at s.ranks s.counts x.a == 0) (λ n. n < 2 ^ 32)
          (min (s.fresh + 1) (2 ^ 32 - 1)) s.fresh (omega arith) few);
      inside = v.inside;
      sorted = v.sorted;
      came_inside = raised_in s.size (spot x.a 0) s.came (spot_inside s.size x.a 0 o.a_low (omega arith)) v.came_inside;
      ordered = raised_ordered (spot x.a 0) s.came v.ordered;
      fit = v.fit;
    }

pub fallen_valid : (s : TopoState) (x : Item) → IsTopo s → IsOwnItem s.size s.ranks s.rank x → IsTopo (after_fall s x)
fallen_valid s x v o =
    let low : x.a < s.size = o.a_low in
    let b : Bool = (number_at s.ranks s.numbers x.a + (2 ^ 64 - 1)) % 2 ^ 64 == 1 in
    record {
      own = v.own;
      wide = v.wide;
      number_places = added_len s.ranks s.numbers x.a (2 ^ 64 - 1) ∙ v.number_places;
      sum_places = added_len s.ranks s.sums x.a (2 ^ 64 - x.b) ∙ v.sum_places;
      count_places = v.count_places;
      few = v.few;
      inside = v.inside;
      sorted = v.sorted;
      came_inside =
          maybe_in s.size b (spot x.a 0) s.came (spot_inside s.size x.a 0 o.a_low (omega arith)) v.came_inside;
      ordered = maybe_ordered b (spot x.a 0) s.came v.ordered;
      fit = v.fit;
    }

-- ---- The three kinds of rounds

pub data Kind (s : TopoState) : Type 0 where
  first : s.round ≡ 0 → Kind s
  odd : s.round ≢ 0 → s.round % 2 ≡ 1 → Kind s
  even : s.round ≢ 0 → s.round % 2 ≢ 1 → Kind s

pub topo_kind : (s : TopoState) → Kind s
topo_kind s = elim (cases_eq s.round 0) [
  | inl z ↦ first z
  | inr n ↦ elim (cases_eq (s.round % 2) 1) [ inl o ↦ odd n o | inr e ↦ even n e ]
]

pub in_first : {X : Type 0} (s : TopoState) (a b c : X) → s.round ≡ 0
    → (if s.round == 0 then a else if s.round % 2 == 1 then b else c) ≡ a
in_first s a b c z = ap (λ t. if t then a else if s.round % 2 == 1 then b else c) (eq-eqb s.round 0 z)

pub in_odd : {X : Type 0} (s : TopoState) (a b c : X) → s.round ≢ 0 → s.round % 2 ≡ 1
    → (if s.round == 0 then a else if s.round % 2 == 1 then b else c) ≡ b
in_odd s a b c n o =
    ap (λ t. if t then a else if s.round % 2 == 1 then b else c) (ne_eqb s.round 0 n) ∙ ap (λ t. if t then b else c)
    (eq-eqb (s.round % 2) 1 o)

pub in_even : {X : Type 0} (s : TopoState) (a b c : X) → s.round ≢ 0 → s.round % 2 ≢ 1
    → (if s.round == 0 then a else if s.round % 2 == 1 then b else c) ≡ c
in_even s a b c n e =
    ap (λ t. if t then a else if s.round % 2 == 1 then b else c) (ne_eqb s.round 0 n) ∙ ap (λ t. if t then b else c)
    (ne_eqb (s.round % 2) 1 e)

same_after : (s t : TopoState) (x : Item) (f : ℕ) → topo_rules.absorbed s f x ≡ t → SameRound topo_rules s t
    → SameRound topo_rules s (topo_rules.absorbed s f x)
same_after s t x f e h = subst (SameRound topo_rules s) (sym e) h

keeps : (s : TopoState) (f : ℕ) (x : Item) → IsTopo s → Fits topo_rules s f x
    → SameRound topo_rules s (topo_rules.absorbed s f x)
keeps s f x v e =
    let o : IsOwnItem s.size s.ranks s.rank x = own_item s.size s.ranks s.round s.rank f x e in
    elim (topo_kind s) [
      | first z ↦ same_after s (after_entry s x) x f (in_first s (after_entry s x) (claimed_by s x) (after_fall s x) z)
          (record {
            valid = entered_valid s x v o;
            rank = refl;
            ranks = refl;
            round = refl;
            shape = refl;
            most = refl;
            emissions = refl;
          })
      | odd n d ↦ same_after s (claimed_by s x) x f (in_odd s (after_entry s x) (claimed_by s x) (after_fall s x) n d)
          (record {
            valid = claimed_valid s x v o;
            rank = refl;
            ranks = refl;
            round = refl;
            shape = refl;
            most = refl;
            emissions = refl;
          })
      | even n d ↦ same_after s (after_fall s x) x f (in_even s (after_entry s x) (claimed_by s x) (after_fall s x) n d)
          (record {
            valid = fallen_valid s x v o;
            rank = refl;
            ranks = refl;
            round = refl;
            shape = refl;
            most = refl;
            emissions = refl;
          })
    ]

-- ---- Absorbs commute

added_comm : (ranks : ℕ) (numbers : List ℕ) (x y b c : ℕ)
    → with_rise ranks (with_rise ranks numbers x b) y c ≡ with_rise ranks (with_rise ranks numbers y c) x b
added_comm ranks numbers x y b c =
    changed_comm numbers (x / ranks) (y / ranks) 0 (λ v. (v + b) % 2 ^ 64) (λ v. (v + c) % 2 ^ 64) (λ e v. omega arith)

pub added_here : (ranks : ℕ) (numbers : List ℕ) (x y b : ℕ) → x / ranks ≡ y / ranks → x / ranks < length numbers
    → number_at ranks (with_rise ranks numbers x b) y ≡ (number_at ranks numbers x + b) % 2 ^ 64
added_here ranks numbers x y b same low =
    ap (λ k. get_or (with_rise ranks numbers x b) k 0) (sym same) ∙ get_or-set_same numbers (x / ranks)
    ((number_at ranks numbers x + b) % 2 ^ 64) 0 low

pub added_there : (ranks : ℕ) (numbers : List ℕ) (x y b : ℕ) → x / ranks ≢ y / ranks
    → number_at ranks (with_rise ranks numbers x b) y ≡ number_at ranks numbers y
added_there ranks numbers x y b other =
    get_or-set_other numbers (x / ranks) (y / ranks) ((number_at ranks numbers x + b) % 2 ^ 64) 0 (λ e. other (sym e))

-- a conditional step commutes
both_ways : {X : Type 0} (b c : Bool) (f g : X → X) (x : X) → f (g x) ≡ g (f x)
    → (if c then g (if b then f x else x) else if b then f x else x)
    ≡ (if b then f (if c then g x else x) else if c then g x else x)
both_ways true true f g x e = sym e
both_ways true false f g x e = refl
both_ways false true f g x e = refl
both_ways false false f g x e = refl

-- the same, with the tests the other way round
both_turned : {X : Type 0} (b c : Bool) (f g : X → X) (x : X) → f (g x) ≡ g (f x)
    → (if c then if b then x else f x else g (if b then x else f x))
    ≡ (if b then if c then x else g x else f (if c then x else g x))
both_turned true true f g x e = refl
both_turned true false f g x e = refl
both_turned false true f g x e = refl
both_turned false false f g x e = sym e

entered_comm : (s : TopoState) (x y : Item) → IsTopo s → after_entry (after_entry s x) y ≡ after_entry (after_entry s y) x
entered_comm s x y v =
    let one : TopoState = after_entry (after_entry s x) y in
    let two : TopoState = after_entry (after_entry s y) x in
    let n : one.numbers ≡ two.numbers =
    both_ways (x.c == 0) (y.c == 0) (λ ns. with_rise s.ranks ns x.a 1) (λ ns. with_rise s.ranks ns y.a 1) s.numbers
    (added_comm s.ranks s.numbers y.a x.a 1 1) in
    let m : one.sums ≡ two.sums =
    both_ways (x.c == 0) (y.c == 0) (λ ns. with_rise s.ranks ns x.a x.b) (λ ns. with_rise s.ranks ns y.a y.b) s.sums
    (added_comm s.ranks s.sums y.a x.a y.b x.b) in
    let c : one.came ≡ two.came =
    both_turned (x.c == 0) (y.c == 0) (with_value_raised (spot x.a x.b)) (with_value_raised (spot y.a y.b)) s.came
    (raised_comm (spot x.a x.b) (spot y.a y.b) s.came v.ordered) in
    ap (λ w. record s { numbers = w; sums = one.sums; came = one.came }) n
    ∙ ap (λ w. record s { numbers = two.numbers; sums = w; came = one.came }) m
    ∙ ap (λ w. record s { numbers = two.numbers; sums = two.sums; came = w }) c

abbrev more : ℕ → ℕ
more n = min (n + 1) (2 ^ 32 - 1)

claimed_comm : (s : TopoState) (x y : Item) → IsTopo s → claimed_by (claimed_by s x) y ≡ claimed_by (claimed_by s y) x
claimed_comm s x y v =
    let one : TopoState = claimed_by (claimed_by s x) y in
    let two : TopoState = claimed_by (claimed_by s y) x in
    let n : one.counts ≡ two.counts = added_comm s.ranks s.counts x.a y.a 1 1 in
    let c : one.came ≡ two.came = raised_comm (spot y.a 0) (spot x.a 0) s.came v.ordered in
    let fx : ℕ → ℕ = λ m. (if number_at s.ranks s.counts x.a == 0 then more m else m) in
    let f : one.fresh ≡ two.fresh =
    elim (cases_eq (x.a / s.ranks) (y.a / s.ranks)) [
      | inl same ↦
          ap₂ (λ k l. if get_or (with_rise s.ranks s.counts x.a 1) k 0 == 0
          then more (if get_or s.counts l 0 == 0 then more s.fresh else s.fresh)
          else if get_or s.counts l 0 == 0 then more s.fresh else s.fresh) (sym same) same
          ∙ ap (λ k. if get_or (changed k) (x.a / s.ranks) 0 == 0
          then more (if get_or s.counts (y.a / s.ranks) 0 == 0 then more s.fresh else s.fresh)
          else if get_or s.counts (y.a / s.ranks) 0 == 0 then more s.fresh else s.fresh) same
      | inr other ↦
          ap (λ k. if k == 0 then more (fx s.fresh) else fx s.fresh) (added_there s.ranks s.counts x.a y.a 1 other)
          ∙ both_ways (number_at s.ranks s.counts x.a == 0) (number_at s.ranks s.counts y.a == 0) more more s.fresh refl
          ∙ sym (ap (λ k. if k == 0 then more (if number_at s.ranks s.counts y.a == 0 then more s.fresh else s.fresh)
          else if number_at s.ranks s.counts y.a == 0 then more s.fresh else s.fresh)
          (added_there s.ranks s.counts y.a x.a 1 (λ e. other (sym e))))
    ] in
    ap (λ w. record s { counts = w; fresh = one.fresh; came = one.came }) n
    ∙ ap (λ w. record s { counts = two.counts; fresh = w; came = one.came }) f
    ∙ ap (λ w. record s { counts = two.counts; fresh = two.fresh; came = w }) c
  where
    changed : ℕ → List ℕ
    changed k = set s.counts k ((get_or s.counts k 0 + 1) % 2 ^ 64)

abbrev fell : ℕ → ℕ
fell n = (n + (2 ^ 64 - 1)) % 2 ^ 64

fallen_comm : (s : TopoState) (x y : Item) → IsTopo s → IsOwnItem s.size s.ranks s.rank x → IsOwnItem s.size s.ranks s.rank y
    → after_fall (after_fall s x) y ≡ after_fall (after_fall s y) x
fallen_comm s x y v ox oy =
    let one : TopoState = after_fall (after_fall s x) y in
    let two : TopoState = after_fall (after_fall s y) x in
    let n : one.numbers ≡ two.numbers = added_comm s.ranks s.numbers x.a y.a (2 ^ 64 - 1) (2 ^ 64 - 1) in
    let m : one.sums ≡ two.sums = added_comm s.ranks s.sums x.a y.a (2 ^ 64 - x.b) (2 ^ 64 - y.b) in
    let mark : ℕ → ℕ → List Triple
    → List Triple = λ a number cells. (if fell number == 1 then with_value_raised (spot a 0) cells else cells) in
    let c : one.came ≡ two.came =
    elim (cases_eq (x.a / s.ranks) (y.a / s.ranks)) [
      | inl place ↦
          let same : x.a ≡ y.a = place_own s.ranks x.a y.a (ox.own ∙ sym oy.own) place in
          ap (λ a. mark y.a (number_at s.ranks (with_rise s.ranks s.numbers a (2 ^ 64 - 1)) y.a)
          (mark a (number_at s.ranks s.numbers a) s.came)) same
          ∙ ap (λ a. mark a (number_at s.ranks (with_rise s.ranks s.numbers y.a (2 ^ 64 - 1)) a)
          (mark y.a (number_at s.ranks s.numbers y.a) s.came)) (sym same)
      | inr other ↦
          ap (λ k. mark y.a k (mark x.a (number_at s.ranks s.numbers x.a) s.came))
          (added_there s.ranks s.numbers x.a y.a (2 ^ 64 - 1) other)
          ∙ both_ways (fell (number_at s.ranks s.numbers x.a) == 1) (fell (number_at s.ranks s.numbers y.a) == 1)
          (with_value_raised (spot x.a 0)) (with_value_raised (spot y.a 0)) s.came
          (raised_comm (spot x.a 0) (spot y.a 0) s.came v.ordered)
          ∙ sym (ap (λ k. mark x.a k (mark y.a (number_at s.ranks s.numbers y.a) s.came))
          (added_there s.ranks s.numbers y.a x.a (2 ^ 64 - 1) (λ e. other (sym e))))
    ] in
    ap (λ w. record s { numbers = w; sums = one.sums; came = one.came }) n
    ∙ ap (λ w. record s { numbers = two.numbers; sums = w; came = one.came }) m
    ∙ ap (λ w. record s { numbers = two.numbers; sums = two.sums; came = w }) c

commutes : (s : TopoState) (f g : ℕ) (x y : Item) → IsTopo s → Fits topo_rules s f x → Fits topo_rules s g y
    → topo_rules.absorbed (topo_rules.absorbed s f x) g y ≡ topo_rules.absorbed (topo_rules.absorbed s g y) f x
commutes s f g x y v d e =
    let ox : IsOwnItem s.size s.ranks s.rank x = own_item s.size s.ranks s.round s.rank f x d in
    let oy : IsOwnItem s.size s.ranks s.rank y = own_item s.size s.ranks s.round s.rank g y e in
    elim (topo_kind s) [
      | first z ↦
          let step : (t : TopoState) (w : Item) (h : ℕ) → t.round ≡ 0
          → topo_rules.absorbed t h w ≡ after_entry t w =
          λ t w h q. in_first t (after_entry t w) (claimed_by t w) (after_fall t w) q in
          ap (λ t. topo_rules.absorbed t g y) (step s x f z) ∙ step (after_entry s x) y g z ∙ entered_comm s x y v
          ∙ sym (ap (λ t. topo_rules.absorbed t f x) (step s y g z) ∙ step (after_entry s y) x f z)
      | odd n o ↦
          let step : (t : TopoState) (w : Item) (h : ℕ) → t.round ≡ s.round
          → topo_rules.absorbed t h w ≡ claimed_by t w =
          λ t w h q. in_odd t (after_entry t w) (claimed_by t w) (after_fall t w) (λ z. n (sym q ∙ z))
          (ap (λ k. k % 2) q ∙ o) in
          ap (λ t. topo_rules.absorbed t g y) (step s x f refl) ∙ step (claimed_by s x) y g refl ∙ claimed_comm s x y v
          ∙ sym (ap (λ t. topo_rules.absorbed t f x) (step s y g refl) ∙ step (claimed_by s y) x f refl)
      | even n o ↦
          let step : (t : TopoState) (w : Item) (h : ℕ) → t.round ≡ s.round
          → topo_rules.absorbed t h w ≡ after_fall t w =
          λ t w h q. in_even t (after_entry t w) (claimed_by t w) (after_fall t w) (λ z. n (sym q ∙ z))
          (λ k. o (sym (ap (λ k. k % 2) q) ∙ k)) in
          ap (λ t. topo_rules.absorbed t g y) (step s x f refl) ∙ step (after_fall s x) y g refl ∙ fallen_comm s x y v ox oy
          ∙ sym (ap (λ t. topo_rules.absorbed t f x) (step s y g refl) ∙ step (after_fall s y) x f refl)
    ]

-- ---- What is sent next fits

abbrev FitsIn : TopoState → ℕ → ℕ × Item → Type 0
FitsIn s round e = may_topo (s.size ∷ []) s.ranks round e.0 s.rank e.1 ≡ true

claim_fits : (size ranks rank round i j : ℕ) → rank < ranks → size < 2 ^ 32 → i < size → j < size → round ≢ 0
    → round % 2 ≡ 1
    → may_topo (size ∷ []) ranks round (to_claim ranks i j).0 rank (to_claim ranks i j).1 ≡ true
claim_fits size ranks rank round i j own wide row col n o =
    let kind : (if round == 0 then nat_lt 2 2 else 2 == 3 - round % 2) ≡ true =
    ap (λ b. if b then nat_lt 2 2 else 2 == 3 - round % 2) (ne_eqb round 0 n) ∙ ap (λ k. 2 == 3 - k) o in
    let rest : (nat_lt rank ranks && nat_lt j size && nat_lt i size && j % ranks == j % ranks
    && is_item (to_claim ranks i j).1 && true) ≡ true = grind (arith, nat_tests) in
    ap (λ k. nat_lt rank ranks && nat_lt j size && nat_lt i size && j % ranks == j % ranks
    && is_item (to_claim ranks i j).1 && k) kind ∙ rest

fall_fits : (size ranks rank round : ℕ) (u : Triple) → rank < ranks → size < 2 ^ 32 → u.i < size → u.j < size
    → round ≢ 0 → round % 2 ≡ 0
    → may_topo (size ∷ []) ranks round (to_fall ranks u).0 rank (to_fall ranks u).1 ≡ true
fall_fits size ranks rank round u own wide row col n o =
    let kind : (if round == 0 then nat_lt 3 2 else 3 == 3 - round % 2) ≡ true =
    ap (λ b. if b then nat_lt 3 2 else 3 == 3 - round % 2) (ne_eqb round 0 n) ∙ ap (λ k. 3 == 3 - k) o in
    let rest : (nat_lt rank ranks && nat_lt u.j size && nat_lt u.i size && u.j % ranks == u.j % ranks
    && is_item (to_fall ranks u).1 && true) ≡ true = grind (arith, nat_tests) in
    ap (λ k. nat_lt rank ranks && nat_lt u.j size && nat_lt u.i size && u.j % ranks == u.j % ranks
    && is_item (to_fall ranks u).1 && k) kind ∙ rest

claims_fit : (s : TopoState) (round : ℕ) (rows : List ℕ) → IsTopo s → round ≢ 0 → round % 2 ≡ 1
    → All (FitsIn s round) (claims_of s.ranks s.size s.numbers s.sums rows)
claims_fit s round rows v n o =
    All-map (FitsIn s round) (λ i. to_claim s.ranks i (number_at s.ranks s.sums i))
    (filter (claims_now s.ranks s.size s.numbers s.sums) rows) (λ k d l.
    let i : ℕ = get_or (filter (claims_now s.ranks s.size s.numbers s.sums) rows) k d in
    let test : claims_now s.ranks s.size s.numbers s.sums i ≡ true =
    filter_passes (claims_now s.ranks s.size s.numbers s.sums) rows k d l in
    let parts = and_parts (number_at s.ranks s.numbers i == 1 && nat_lt (number_at s.ranks s.sums i) s.size)
    (nat_lt i s.size) test in
    let two = and_parts (number_at s.ranks s.numbers i == 1) (nat_lt (number_at s.ranks s.sums i) s.size) parts.0 in
    claim_fits s.size s.ranks s.rank round i (number_at s.ranks s.sums i) v.own v.wide (ltb-true i s.size parts.1)
    (ltb-true (number_at s.ranks s.sums i) s.size two.1) n o)

falls_fit : (s : TopoState) (round : ℕ) (came : List Triple) → IsTopo s → round ≢ 0 → round % 2 ≡ 0
    → All (FitsIn s round) (flat_map (λ c. map (to_fall s.ranks) (filter (λ u. u.i == c.i) s.columns)) came)
falls_fit s round [] v n o = All-nil (FitsIn s round)
falls_fit s round (c ∷ cs) v n o =
    let mine : List Triple = filter (λ u. u.i == c.i) s.columns in
    All-append (FitsIn s round) (map (to_fall s.ranks) mine)
    (flat_map (λ c. map (to_fall s.ranks) (filter (λ u. u.i == c.i) s.columns)) cs)
    (All-map (FitsIn s round) (to_fall s.ranks) mine
    (λ k d l. let h : AreInside s.size (get_or mine k d) =
    All-filter (λ u. u.i == c.i) (AreInside s.size) s.columns v.inside k d l in fall_fits s.size s.ranks s.rank round
    (get_or mine k d) v.own v.wide h.0 h.1 n o))
    (falls_fit s round cs v n o)

pub topo_next_fit : (s : TopoState) → IsTopo s → All (FitsIn s (min (s.round + 1) (2 ^ 64 - 1))) (topo_next_outgoing s)
topo_next_fit s v =
    let round : ℕ = min (s.round + 1) (2 ^ 64 - 1) in
    let rows : List (ℕ × Item) = claims_of s.ranks s.size s.numbers s.sums (own_rows s.ranks s.rank s.size) in
    let falls : List (ℕ × Item) = (if nat_lt s.round (2 ^ 64 - 1) then falls_of s.ranks s.columns s.came else []) in
    let later : List (ℕ × Item) = claims_of s.ranks s.size s.numbers s.sums (map (λ u. u.i) s.came) in
    let all : List (ℕ × Item) = flat_map (λ c. map (to_fall s.ranks) (filter (λ u. u.i == c.i) s.columns)) s.came in
    elim (topo_kind s) [
      | first z ↦ subst (All (FitsIn s round)) (sym (in_first s rows falls later z))
          (claims_fit s round (own_rows s.ranks s.rank s.size) v (omega arith) (omega arith))
      | odd n o ↦
          subst (All (FitsIn s round)) (sym (in_odd s rows falls later n o))
          (elim (cases_lt s.round (2 ^ 64 - 1)) [
            | inl low ↦ subst (λ b. All (FitsIn s round) (if b then all else []))
                (sym (lt-ltb s.round (2 ^ 64 - 1) low)) (falls_fit s round s.came v (omega arith) (omega arith))
            | inr last ↦ subst (λ b. All (FitsIn s round) (if b then all else []))
                (sym (le-ltb s.round (2 ^ 64 - 1) last)) (All-nil (FitsIn s round))
          ])
      | even n o ↦ subst (All (FitsIn s round)) (sym (in_even s rows falls later n o))
          (claims_fit s round (map (λ u. u.i) s.came) v (omega arith) (omega arith))
    ]

pub topo_laws : Laws topo_rules
topo_laws =
    record {
      emits = λ s v. v.fit;
      commutes = λ s f g x y v d e h. commutes s f g x y v e h;
      keeps = keeps;
      vote_below = λ s v. v.few;
      next = λ s votes v l. record {
        valid = record {
          own = v.own;
          wide = v.wide;
          number_places = v.number_places;
          sum_places = v.sum_places;
          count_places = v.count_places;
          few = lit< tt;
          inside = either (s.round == 0) (All (AreInside s.size)) s.came s.columns v.came_inside v.inside;
          sorted = either (s.round == 0) InOrder s.came s.columns v.ordered v.sorted;
          came_inside = All-nil (AreInside s.size);
          ordered = pairs_none (λ t u. is_before t u ≡ true);
          fit = topo_next_fit s v;
        };
        rank = refl;
        ranks = refl;
        round = refl;
        shape = refl;
        most = refl;
      };
      within = topo_within;
      most_below = λ s v. (let wide : s.size < 2 ^ 32 = v.wide in omega arith);
    }
