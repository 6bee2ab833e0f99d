-- The places of a link after a parcel was put into one of them, or taken out.
use Rattle.std.proofs.Common.{◌≡◌, ℕ, suc, ◌+◌, ◌-◌, ◌<◌, ◌≤◌, ◌⊎◌, List, [], ◌∷◌, ◌++◌, map, length, take, drop, get_or, slice_set, refl, sym, ap, subst, ◌∙◌, inl, inr, arith, length-append, length-take, length-drop, length-set}
use Rattle.std.specs.List.{All}
use Rattle.std.proofs.Math.Seq.{take-add, take-set-lt}
use Rattle.std.proofs.lemmas.List.{length-map, append-nil, append_assoc, map-append, take-append-le, drop-append-le, drop-drop, take_all, drop_all, take-set-le, drop-set-lt, drop-set-add, drop-set, take_more_set, set-append_left, set-append_right, length-take-le}
use Rattle.std.proofs.lemmas.List.Elements.{All-append, All-nil, All-cons, All-head, All-tail}
use Rattle.std.proofs.lemmas.Option.{slice_get_read}
use Rattle.item_buffer.specs.Contents.{Contents, as_shipped, as_arrived, blank}
use Rattle.list_laws.proofs.Lists.{set_same}
use Rattle.port_bank.specs.Ring.{turned_from, in_transit, IsRing}

-- Place i is so many steps after place f, of n that go round.
abbrev pub IsAfter : ℕ → ℕ → ℕ → ℕ → Type 0
IsAfter n f steps i = (i ≡ f + steps) ⊎ (i + n ≡ f + steps)

module _ {X : Type 0} where
  pub turned_len : (f : ℕ) (xs : List X) → length (turned_from f xs) ≡ length xs
  turned_len f xs = omega (arith, length-append (drop f xs) (take f xs), length-drop f xs, length-take f xs)

  -- a write, seen from place f on
  pub turned-set : (xs : List X) (f w i : ℕ) (x : X) → f < length xs → w < length xs → i < length xs → IsAfter (length xs) f w i → turned_from f (slice_set xs i x) ≡ slice_set (turned_from f xs) w x
  turned-set xs f w i x a b c after = elim after [
    | inl e ↦
        let before : f ≤ f + w = omega arith in
        let here : w < length (drop f xs) = omega (arith, length-drop f xs, e) in
        ap (λ k. turned_from f (slice_set xs k x)) e
        ∙ (ap (λ ys. ys ++ take f (slice_set xs (f + w) x)) (drop-set-add f xs w x)
        ∙ (ap (λ ys. slice_set (drop f xs) w x ++ ys) (take-set-le f xs (f + w) x before) ∙ sym (set-append_left (drop f xs) (take f xs) w x here)))
    | inr e ↦
        let below : i < f = omega (arith, e) in
        let past : length (drop f xs) ≡ length xs - f = length-drop f xs in
        let place : w - (length xs - f) ≡ i = omega (arith, e) in
        let some : length xs - f ≤ w = omega (arith, e) in
        ap (λ ys. ys ++ take f (slice_set xs i x)) (drop-set-lt f xs i x below)
        ∙ (ap (λ ys. drop f xs ++ ys) (take-set-lt f xs i x below)
        ∙ (ap (λ k. drop f xs ++ slice_set (take f xs) k x) (sym place) ∙ sym (set-append_right (drop f xs) (take f xs) (length xs - f) w x past some)))
  ]

  -- a read
  pub turned-get : (xs : List X) (f w i : ℕ) (x : X) → f < length xs → w < length xs → i < length xs → IsAfter (length xs) f w i → x ≡ get_or xs i x
      → drop w (turned_from f xs) ≡ x ∷ drop (w + 1) (turned_from f xs)
  turned-get xs f w i x a b c after read =
      let same : slice_set xs i x ≡ xs = set_same xs i x (slice_get_read xs (length xs) i x refl c read) in
      let there : slice_set (turned_from f xs) w x ≡ turned_from f xs = sym (turned-set xs f w i x a b c after) ∙ ap (turned_from f) same in
      let within : w < length (turned_from f xs) = omega (arith, turned_len f xs) in
      ap (drop w) (sym there) ∙ drop-set (turned_from f xs) w x within

  -- the next place is in front
  pub turned-next : (xs : List X) (f j : ℕ) → f < length xs → j < length xs → IsAfter (length xs) f 1 j → turned_from j xs ≡ drop 1 (turned_from f xs) ++ take 1 (turned_from f xs)
  turned-next xs f j a b after =
      let some : 1 ≤ length (drop f xs) = omega (arith, length-drop f xs) in
      let back : drop 1 (turned_from f xs) ≡ drop (f + 1) xs ++ take f xs = drop-append-le 1 (drop f xs) (take f xs) some ∙ ap (λ ys. ys ++ take f xs) (drop-drop 1 f xs) in
      let front : take 1 (turned_from f xs) ≡ take 1 (drop f xs) = take-append-le 1 (drop f xs) (take f xs) some in
      let step : turned_from (f + 1) xs ≡ drop 1 (turned_from f xs) ++ take 1 (turned_from f xs) =
      ap (λ ys. drop (f + 1) xs ++ ys) (take-add f 1 xs)
      ∙ (sym (append_assoc (drop (f + 1) xs) (take f xs) (take 1 (drop f xs))) ∙ (ap (λ ys. ys ++ take 1 (drop f xs)) (sym back) ∙ ap (λ ys. drop 1 (turned_from f xs) ++ ys) (sym front))) in
      elim after [
        | inl e ↦ ap (λ k. turned_from k xs) e ∙ step
        | inr e ↦
            let zero' : j ≡ 0 = omega (arith, e) in
            let all : length xs ≤ f + 1 = omega (arith, e) in
            ap (λ k. turned_from k xs) zero' ∙ (append-nil xs ∙ (sym (ap (λ ys. ys ++ take (f + 1) xs) (drop_all (f + 1) xs all) ∙ take_all (f + 1) xs all) ∙ step))
      ]

pub way_len : (first waiting : ℕ) (xs : List Contents) → waiting ≤ length xs → length (in_transit first waiting xs) ≡ waiting
way_len first waiting xs within = length-map (take waiting (turned_from first xs)) as_shipped ∙ length-take-le waiting (turned_from first xs) (omega (arith, within, turned_len first xs))

abbrev FreshOnes : List Contents → Type 0
FreshOnes cs = All (λ c. c ≡ as_arrived (as_shipped c)) cs

abbrev EmptyOnes : List Contents → Type 0
EmptyOnes cs = All (λ c. c ≡ blank c.epoch) cs

-- a parcel x is put in place of the empty one y, behind those on their way
module _ (cap first waiting i : ℕ) (xs : List Contents) (x y : Contents) (is : IsRing cap first waiting xs) (room : waiting < length xs) (within : i < length xs)
    (after : IsAfter (length xs) first waiting i) (read : y ≡ get_or xs i y) where
  begins : first < length xs
  begins = let b = is.begins in omega arith

  there : drop waiting (turned_from first xs) ≡ y ∷ drop (waiting + 1) (turned_from first xs)
  there = turned-get xs first waiting i y begins room within after read

  put : turned_from first (slice_set xs i x) ≡ slice_set (turned_from first xs) waiting x
  put = turned-set xs first waiting i x begins room within after

  inside : waiting < length (turned_from first xs)
  inside = omega (arith, room, turned_len first xs)

  one_more : take (waiting + 1) (turned_from first (slice_set xs i x)) ≡ take waiting (turned_from first xs) ++ x ∷ []
  one_more = ap (take (waiting + 1)) put ∙ take_more_set (turned_from first xs) waiting x inside

  pub sent_empty : y ≡ blank y.epoch
  sent_empty = All-head (λ (c : Contents). c ≡ blank c.epoch) y (drop (waiting + 1) (turned_from first xs)) (subst EmptyOnes there is.empty)

  pub sent_way : in_transit first (waiting + 1) (slice_set xs i x) ≡ in_transit first waiting xs ++ as_shipped x ∷ []
  sent_way = ap (map as_shipped) one_more ∙ map-append as_shipped (take waiting (turned_from first xs)) (x ∷ [])

  pub sent_ring : x ≡ as_arrived (as_shipped x) → IsRing cap first (waiting + 1) (slice_set xs i x)
  sent_ring fresh =
      let same : length (slice_set xs i x) ≡ length xs = length-set xs i x in
      let less : waiting < waiting + 1 = omega arith in
      let rest : drop (waiting + 1) (turned_from first (slice_set xs i x)) ≡ drop (waiting + 1) (turned_from first xs) = ap (drop (waiting + 1)) put ∙ drop-set-lt (waiting + 1) (turned_from first xs) waiting x less in
      let b = is.begins in
      record {
        is_cap = is.is_cap;
        begins = omega (arith, b, same);
        within = omega (arith, room, same);
        fresh = subst FreshOnes (sym one_more) (All-append (λ (c : Contents). c ≡ as_arrived (as_shipped c)) (take waiting (turned_from first xs)) (x ∷ []) is.fresh
            (All-cons (λ (c : Contents). c ≡ as_arrived (as_shipped c)) x [] fresh (All-nil (λ (c : Contents). c ≡ as_arrived (as_shipped c)))));
        empty = subst EmptyOnes (sym rest) (All-tail (λ (c : Contents). c ≡ blank c.epoch) y (drop (waiting + 1) (turned_from first xs)) (subst EmptyOnes there is.empty));
      }

-- the next parcel y is taken, and the empty one x put in its place
module _ (cap first k j : ℕ) (xs : List Contents) (x y : Contents) (is : IsRing cap first (suc k) xs) (within : j < length xs)
    (after : IsAfter (length xs) first 1 j) (read : y ≡ get_or xs first y) where
  first_place : first < length xs
  first_place = let b = is.begins in omega arith

  abbrev others : List Contents
  others = drop 1 (turned_from first xs)

  front : turned_from first xs ≡ y ∷ others
  front = turned-get xs first 0 first y first_place (omega arith) first_place (inl (omega arith)) read

  moved : turned_from j (slice_set xs first x) ≡ others ++ x ∷ []
  moved =
      let same : length (slice_set xs first x) ≡ length xs = length-set xs first x in
      let here : turned_from first (slice_set xs first x) ≡ x ∷ others =
      turned-set xs first 0 first x first_place (omega arith) first_place (inl (omega arith)) ∙ ap (λ ys. slice_set ys 0 x) front in
      turned-next (slice_set xs first x) first j (omega (arith, same, first_place)) (omega (arith, same, within)) (subst (λ n. IsAfter n first 1 j) (sym same) after)
      ∙ ap (λ ys. drop 1 ys ++ take 1 ys) here

  enough : k ≤ length others
  enough = let w = is.within in omega (arith, w, turned_len first xs, ap length front)

  left : take k (turned_from j (slice_set xs first x)) ≡ take k others
  left = ap (take k) moved ∙ take-append-le k others (x ∷ []) enough

  behind : drop k (turned_from j (slice_set xs first x)) ≡ drop k others ++ x ∷ []
  behind = ap (drop k) moved ∙ drop-append-le k others (x ∷ []) enough

  fresh_ones : FreshOnes (y ∷ take k others)
  fresh_ones = subst (λ ys. FreshOnes (take (suc k) ys)) front is.fresh

  pub received_way : in_transit first (suc k) xs ≡ as_shipped y ∷ in_transit j k (slice_set xs first x)
  received_way = ap (λ ys. map as_shipped (take (suc k) ys)) front ∙ ap (λ cs. as_shipped y ∷ map as_shipped cs) (sym left)

  pub received_fresh : y ≡ as_arrived (as_shipped y)
  received_fresh = All-head (λ (c : Contents). c ≡ as_arrived (as_shipped c)) y (take k others) fresh_ones

  pub received_ring : x ≡ blank x.epoch → IsRing cap j k (slice_set xs first x)
  received_ring empty =
      let same : length (slice_set xs first x) ≡ length xs = length-set xs first x in
      let w = is.within in
      record {
        is_cap = is.is_cap;
        begins = omega (arith, within, same);
        within = omega (arith, w, same);
        fresh = subst FreshOnes (sym left) (All-tail (λ (c : Contents). c ≡ as_arrived (as_shipped c)) y (take k others) fresh_ones);
        empty = subst EmptyOnes (sym behind) (All-append (λ (c : Contents). c ≡ blank c.epoch) (drop k others) (x ∷ []) (subst (λ ys. EmptyOnes (drop (suc k) ys)) front is.empty)
            (All-cons (λ (c : Contents). c ≡ blank c.epoch) x [] empty (All-nil (λ (c : Contents). c ≡ blank c.epoch))));
      }
