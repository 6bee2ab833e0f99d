-- One more item is pulled, and absorbed.
use Rattle.std.proofs.Common.{◌≡◌, ℕ, ◌+◌, ◌<◌, Bool, List, [], ◌∷◌, length, slice_get, Option, Some, None, refl, sym, ap, subst, ◌∙◌, arith, get_or, set, sum_by, zero, suc, drop, ◌≤◌, add-one}
use Rattle.std.proofs.Math.ListN.{get_or-map}
use Rattle.std.proofs.lemmas.List.Sums.{sum_by-set}
use Rattle.std.proofs.Math.Seq.{map-set_same}
use Rattle.std.specs.Option.{option_map}
use Rattle.bale_items.specs.declared.item.Entry.{Entry}
use Rattle.bale_items.specs.declared.item.Item.{Item}
use Rattle.route_tensor.specs.Neighbour.{neighbour, in_index}
use Rattle.route_tensor.specs.Tag.{sender_of}
use Rattle.hop_core.specs.Link.{In, no_in, with_first_taken}
use Rattle.hop_core.specs.Relay.{waiting}
use Rattle.hop_core.specs.State.{State, in_at, lowest_unread, pull_from, pulled_from, pulls}
use Rattle.convey.specs.Conveyors.{GivesNext}
use Rattle.rank_node.specs.Pulls.{SameEnds}

-- a link in whose inbox changes has ended where it had
ends_set : (ins : List In) (i j : ℕ) (y : In) → y.ended ≡ (get_or ins i no_in).ended → (get_or (set ins i y) j no_in).ended ≡ (get_or ins j no_in).ended
ends_set ins i j y same =
    sym (get_or-map (λ (x : In). x.ended) (set ins i y) j no_in)
    ∙ (ap (λ (xs : List Bool). get_or xs j no_in.ended) (map-set_same (λ (x : In). x.ended) ins i y no_in same) ∙ get_or-map (λ (x : In). x.ended) ins j no_in)

pub ends_pulled : (st : State) (o : Option ℕ) → SameEnds st (pulled_from st o)
ends_pulled st None l = refl
ends_pulled st (Some i) l = ends_set st.ins i (in_index st.dims l) (record (in_at st i) { parcel = with_first_taken (in_at st i).parcel }) refl

some_first : {X : Type 0} (xs : List Entry) (f : Entry → X) (p : X) → option_map f (slice_get xs 0) ≡ Some p → 0 < length xs
some_first [] f p is = absurd (cc)
some_first (x ∷ xs) f p is = omega arith

drop_first : {X : Type 0} (xs : List X) → 0 < length xs → length (drop 1 xs) + 1 ≡ length xs
drop_first [] h = absurd (omega (arith, h))
drop_first (x ∷ xs) h = omega arith

below : (ins : List In) (i : ℕ) → 0 < length (get_or ins i no_in).parcel.untaken → i < length ins
below [] i h = absurd (omega (arith, h))
below (x ∷ xs) zero h = omega arith
below (x ∷ xs) (suc i) h = omega (arith, below xs i h)

-- a pull that gives an item leaves one fewer
pub fewer_from : (st : State) (o : Option ℕ) (p : ℕ × Item) → pull_from st o ≡ Some p → waiting (pulled_from st o).ins < waiting st.ins
fewer_from st None p is = absurd (cc)
fewer_from st (Some i) p is =
    let xs = (in_at st i).parcel.untaken in
    let f : In → ℕ = λ x. length x.parcel.untaken in
    let y : In = record (in_at st i) { parcel = with_first_taken (in_at st i).parcel } in
    let some : 0 < length xs = some_first xs (λ e. (sender_of st.dims e.tag (length st.dims) (neighbour st.dims st.rank i), e.item)) p is in
    let e : sum_by f (set st.ins i y) + f (get_or st.ins i no_in) ≡ sum_by f st.ins + f y = sum_by-set f st.ins i y no_in (below st.ins i some) in
    let less : length (drop 1 xs) + 1 ≡ length xs = drop_first xs some in
    omega (arith, e, less)

-- what a pull leaves of the state
pub pulled_same : (st : State) (o : Option ℕ) → pulled_from st o ≡ record st { ins = (pulled_from st o).ins; pulled = (pulled_from st o).pulled }
pulled_same st None = refl
pulled_same st (Some i) = refl

pub fewer_next : (st : State) (n from : ℕ) (x : Item) (most : ℕ) → n + waiting (pulls n st).ins ≤ most → GivesNext (pulls n st) from x → n + 1 + waiting (pulls (n + 1) st).ins ≤ most
fewer_next st n from x most is next =
    let less : waiting (pulls (suc n) st).ins < waiting (pulls n st).ins = fewer_from (pulls n st) (lowest_unread (pulls n st)) (from, x) next.value in
    subst (λ m. n + 1 + waiting (pulls m st).ins ≤ most) (sym (add-one n)) (omega (arith, less, is))
