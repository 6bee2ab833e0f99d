-- What a rank's state says of its buffers, by the numbers of its links.
use Rattle.std.proofs.Common.{◌≡◌, ◌≢◌, ℕ, ◌+◌, ◌-◌, ◌<◌, ◌≤◌, ◌==◌, ◌&&◌, Bool, true, false, cond, List, [], ◌∷◌, length, drop, sum, get_or, slice_index_or, refl, sym, ap, subst, ◌∙◌, arith, eqb-true, ne_eqb}
use Rattle.std.specs.List.{list_all}
use Rattle.std.proofs.lemmas.List.{get_or-drop, get_or-take, length-take, length-drop}
use Rattle.std.proofs.lemmas.List.Sums.{AllPass-from_list_all}
use Rattle.bale_items.specs.declared.item.Entry.{Entry}
use Rattle.route_tensor.specs.Grid.{dim, coord, IsGrid}
use Rattle.route_tensor.specs.Link.{links, links_before}
use Rattle.route_tensor.specs.Ends.{hop_at, sender_at, reader_at}
use Rattle.route_tensor.specs.Neighbour.{hop_to, link_to, link_from, out_index, in_index}
use Rattle.route_tensor.proofs.Links.{coord_in, before_more, sum_take_le}
use Rattle.route_tensor.proofs.Ends.{number_ends}
use Rattle.route_tensor.proofs.Neighbours.{out_stands, in_stands, number_made, hop_to_is}
use Rattle.hop_core.specs.Link.{In, no_out, no_in, is_empty, is_finished}
use Rattle.hop_core.specs.State.{State, ins_of_hop, at_end}
use Rattle.hop_core.specs.Standing.{IsOut, IsIn, IsState}
use Rattle.convey.specs.Buffers.{out_of, in_of, buffers_of}
use Rattle.convey.specs.Conveyors.{HoldsAtMost}
use Rattle.convey.specs.Arrived.{HasArrived}

-- a list without entries
pub none_of : (xs : List Entry) → (length xs == 0) ≡ true → xs ≡ []
none_of [] h = refl
none_of (x ∷ xs) h = absurd (let e : length (x ∷ xs) ≡ 0 = eqb-true (length (x ∷ xs)) 0 h in omega arith)

pub both_true : (a b : Bool) → (a && b) ≡ true → (a ≡ true) × (b ≡ true)
both_true true b h = (refl, h)
both_true false b h = cc

-- a link's number among its rank's own, and its hop
pub record InNumber (dims : List ℕ) (l : ℕ) : Type 0 where
  pub within : in_index dims l < sum dims
  pub hop : hop_to dims (in_index dims l) ≡ hop_at dims l
  pub digit : coord dims (sender_at dims l) (hop_at dims l) < dim dims (hop_at dims l)

pub in_number : (dims : List ℕ) (l : ℕ) → IsGrid dims → l < links dims → InNumber dims l
in_number dims l g h =
    let n = number_ends dims l g h in
    let c = coord_in dims (sender_at dims l) (hop_at dims l) g.positive n.link.first_hop n.link.last_hop in
    let m = number_made dims (hop_at dims l) (coord dims (sender_at dims l) (hop_at dims l)) n.link.first_hop n.link.last_hop c in
    record { within = (in_stands dims (reader_at dims l) l g h refl).below; hop = hop_to_is dims (hop_at dims l) (in_index dims l) m; digit = c }

pub record OutNumber (dims : List ℕ) (l : ℕ) : Type 0 where
  pub within : out_index dims l < sum dims
  pub hop : hop_to dims (out_index dims l) ≡ hop_at dims l

pub out_number : (dims : List ℕ) (l : ℕ) → IsGrid dims → l < links dims → OutNumber dims l
out_number dims l g h =
    let n = number_ends dims l g h in
    let c = coord_in dims (reader_at dims l) (hop_at dims l) g.positive n.link.first_hop n.link.last_hop in
    let m = number_made dims (hop_at dims l) (coord dims (reader_at dims l) (hop_at dims l)) n.link.first_hop n.link.last_hop c in
    record { within = (out_stands dims (sender_at dims l) l g h refl).below; hop = hop_to_is dims (hop_at dims l) (out_index dims l) m }

-- two of a rank's own links have different numbers
pub in_apart : (dims : List ℕ) (r l m : ℕ) → IsGrid dims → l < links dims → m < links dims → reader_at dims l ≡ r → reader_at dims m ≡ r → l ≢ m → in_index dims l ≢ in_index dims m
in_apart dims r l m g h k a b ne e =
    ne (sym (in_stands dims r l g h a).number ∙ (ap (link_from dims r) e ∙ (in_stands dims r m g k b).number))

pub out_apart : (dims : List ℕ) (r l m : ℕ) → IsGrid dims → l < links dims → m < links dims → sender_at dims l ≡ r → sender_at dims m ≡ r → l ≢ m → out_index dims l ≢ out_index dims m
out_apart dims r l m g h k a b ne e =
    ne (sym (out_stands dims r l g h a).number ∙ (ap (link_to dims r) e ∙ (out_stands dims r m g k b).number))

-- a test of all links in of a hop
passes : (p : In → Bool) (xs : List In) (i : ℕ) → list_all p xs ≡ true → i < length xs → p (get_or xs i no_in) ≡ true
passes p xs i h k = AllPass-from_list_all p xs h i no_in k

pub of_hop : (dims : List ℕ) (ins : List In) (p : In → Bool) (l : ℕ) → IsGrid dims → l < links dims → length ins ≡ sum dims → list_all p (ins_of_hop dims ins (hop_at dims l)) ≡ true
    → p (slice_index_or ins (in_index dims l) no_in) ≡ true
of_hop dims ins p l g h all pass =
    let n = number_ends dims l g h in
    let m = in_number dims l g h in
    let k : ℕ = hop_at dims l in
    let c : ℕ = coord dims (sender_at dims l) k in
    let before = before_more dims k n.link.first_hop n.link.last_hop in
    let most = sum_take_le dims k in
    let fits : dim dims k ≤ length (drop (links_before dims k) ins) = omega (arith, length-drop (links_before dims k) ins) in
    let len : c < length (ins_of_hop dims ins k) = omega (arith, length-take (dim dims k) (drop (links_before dims k) ins), m.digit) in
    let here : get_or (ins_of_hop dims ins k) c no_in ≡ get_or ins (links_before dims k + c) no_in =
    get_or-take (dim dims k) (drop (links_before dims k) ins) c no_in m.digit ∙ get_or-drop (links_before dims k) ins c no_in in
    ap p (sym here) ∙ passes p (ins_of_hop dims ins k) c pass len

-- a link out whose hop has reached its end
pub record EndOf (st : State) (l : ℕ) : Type 0 where
  pub done : hop_at st.dims l ≡ 1 → st.done ≡ true
  pub arrived : HasArrived (buffers_of st) l

pub finished_parts : (x : In) → is_finished x ≡ true → (x.ended ≡ true) × (x.parcel.untaken ≡ [])
finished_parts x h = let b = both_true x.ended (is_empty x.parcel) h in (b.0, none_of x.parcel.untaken b.1)

end_first : (st : State) → at_end st.dims st.ins st.done 1 ≡ true → st.done ≡ true
unfolding at_end
end_first st h = h

end_later : (st : State) (h : ℕ) → h ≢ 1 → at_end st.dims st.ins st.done h ≡ true → list_all is_finished (ins_of_hop st.dims st.ins (h - 1)) ≡ true
unfolding at_end
end_later st h ne k = ap (λ b. cond b st.done (list_all is_finished (ins_of_hop st.dims st.ins (h - 1)))) (sym (ne_eqb h 1 ne)) ∙ k

pub end_of : (st : State) (l : ℕ) → IsState st → l < links st.dims → at_end st.dims st.ins st.done (hop_at st.dims l) ≡ true → EndOf st l
end_of st l s below h =
    let finished : (m : ℕ) → m < links st.dims → hop_at st.dims l ≡ hop_at st.dims m + 1 → is_finished (in_of st m) ≡ true = λ m k next.
    let n = number_ends st.dims m s.grid k in
    let later = end_later st (hop_at st.dims l) (let one = n.link.first_hop in λ e. omega arith) h in
    let back : hop_at st.dims l - 1 ≡ hop_at st.dims m = omega arith in
    of_hop st.dims st.ins is_finished m s.grid k s.all_ins (subst (λ j. list_all is_finished (ins_of_hop st.dims st.ins j) ≡ true) back later) in
    record {
      done = λ one. end_first st (subst (λ j. at_end st.dims st.ins st.done j ≡ true) one h);
      arrived = record {
        ended = λ m k to next. (finished_parts (in_of st m) (finished m k next)).0;
        passed_on = λ m k to next. (finished_parts (in_of st m) (finished m k next)).1;
      };
    }

-- own links among those that the state knows
pub is_out : (st : State) (l : ℕ) → IsState st → l < links st.dims → IsOut st.dims st.cap (hop_at st.dims l) (out_of st l)
is_out st l s h =
    let n = out_number st.dims l s.grid h in
    subst (λ k. IsOut st.dims st.cap k (out_of st l)) n.hop (s.each_out (out_index st.dims l) no_out (omega (arith, n.within, s.all_outs)))

pub holds_at_most : (st : State) (cap : ℕ) → IsState st → st.cap ≡ cap → HoldsAtMost cap st
holds_at_most st cap s same = λ l h from. subst (λ n. length (out_of st l).parcel.untaken ≤ n) same (is_out st l s h).fits

pub is_in : (st : State) (l : ℕ) → IsState st → l < links st.dims → IsIn st.dims st.cap (hop_at st.dims l) (in_of st l)
is_in st l s h =
    let n = in_number st.dims l s.grid h in
    subst (λ k. IsIn st.dims st.cap k (in_of st l)) n.hop (s.each_in (in_index st.dims l) no_in (omega (arith, n.within, s.all_ins)))

pub closed_end : (st : State) (l : ℕ) → IsState st → l < links st.dims → (out_of st l).closed ≡ true → EndOf st l
closed_end st l s h c =
    let n = out_number st.dims l s.grid h in
    end_of st l s h (subst (λ k. at_end st.dims st.ins st.done k ≡ true) n.hop (s.closed_at_end (out_index st.dims l) no_out (omega (arith, n.within, s.all_outs)) c))
