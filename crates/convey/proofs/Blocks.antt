-- Where a relay stopped: what it left can't go on, since the open parcel of its next link is full.
use Rattle.std.proofs.Common.{◌≡◌, ◌≢◌, ℕ, ◌+◌, ◌<◌, ◌≤◌, List, [], ◌∷◌, length, sum, slice_get, slice_index_or, Some, None, refl, sym, ap, subst, ◌∙◌, arith}
use Rattle.std.specs.List.{All}
use Rattle.bale_items.specs.declared.item.Entry.{Entry}
use Rattle.bale_items.specs.declared.item.Tag.{Tag}
use Rattle.route_tensor.specs.Link.{links, links_before}
use Rattle.route_tensor.specs.Ends.{hop_at, sender_at}
use Rattle.route_tensor.specs.Tag.{digit, IsFair}
use Rattle.route_tensor.specs.Neighbour.{hop_to, neighbour, link_to, out_index, in_index}
use Rattle.route_tensor.proofs.Ends.{hop_at-link}
use Rattle.route_tensor.proofs.Neighbours.{to_neighbour, out_index-link_to, number_made, number_below, hop_to_is}
use Rattle.hop_core.specs.Link.{Out, In, no_out, no_in}
use Rattle.hop_core.specs.State.{State}
use Rattle.hop_core.specs.Standing.{IsState}
use Rattle.hop_core.specs.Relay.{IsStopped, AddsToHop, TakesFromHop}
use Rattle.convey.specs.Buffers.{out_of, in_of}
use Rattle.convey.specs.Due.{next_link, NextIs, IsBlocked}
use Rattle.convey.proofs.States.{in_number, out_number, is_in}
use Rattle.convey.proofs.Ways.{to_below, to_sender}

-- the first of some entries
pub none_first : (e : Entry) → None ≡ Some e → ⊥
none_first e at = absurd (cc)

first_has : (P : Entry → Type 0) (xs : List Entry) (e : Entry) → All P xs → slice_get xs 0 ≡ Some e → P e
first_has P [] e a at = absurd (none_first e at)
first_has P (x ∷ xs) e a at = subst P (one_entry x e at) (a 0 x (omega arith)) where
  one_entry : (x e : Entry) → Some x ≡ Some e → x ≡ e
  one_entry x e s = cc

-- another property of the next link
pub next_map : (dims : List ℕ) (rank l : ℕ) (tag : Tag) (P Q : ℕ → Type 0) → ((m : ℕ) → m < links dims → sender_at dims m ≡ rank → hop_at dims m ≡ hop_at dims l + 1 → P m → Q m) → NextIs dims rank l tag P → NextIs dims rank l tag Q
next_map dims rank l tag P Q f n = record { below = n.below; sender = n.sender; hop = n.hop; holds = f (next_link dims rank (hop_at dims l) tag) n.below n.sender n.hop n.holds }

-- of a rank's links out on the hop after that of link l there is one that P holds of.
-- On the grid 2x2, of a link of hop 1, it is a link of hop 2.
pub record HasNext (dims : List ℕ) (rank l : ℕ) (P : ℕ → Type 0) : Type 0 where
  pub link : ℕ
  pub below : link < links dims
  pub sender : sender_at dims link ≡ rank
  pub hop : hop_at dims link ≡ hop_at dims l + 1
  pub holds : P link

-- where each first entry has a next link with a property, some link has it
pub has_next : (dims : List ℕ) (rank l : ℕ) (xs : List Entry) (P : ℕ → Type 0) → ((e : Entry) → slice_get xs 0 ≡ Some e → NextIs dims rank l e.tag P) → xs ≢ [] → HasNext dims rank l P
has_next dims rank l [] P f some = absurd (some refl)
has_next dims rank l (x ∷ xs) P f some =
    let n = f x refl in
    record { link = next_link dims rank (hop_at dims l) x.tag; below = n.below; sender = n.sender; hop = n.hop; holds = n.holds }

module _ (st : State) (outs : List Out) (ins : List In) (h : ℕ) (first : 1 ≤ h) (last : h < length st.dims)
    (t : IsState (record st { outs = outs; ins = ins; pulled = None }))
    (stopped : (i : ℕ) → i < sum st.dims → hop_to st.dims i ≡ h → IsStopped st.dims st.cap h outs (slice_index_or ins i no_in)) where
  pub blocked_here : (l : ℕ) → l < links st.dims → hop_at st.dims l ≡ h → IsBlocked (record st { outs = outs; ins = ins; pulled = None }) l
  blocked_here l k at e first_is =
      let n = in_number st.dims l t.grid k in
      let fair = first_has (λ x. IsFair st.dims (hop_at st.dims l) x.tag) (slice_index_or ins (in_index st.dims l) no_in).parcel.untaken e (is_in (record st { outs = outs; ins = ins; pulled = None }) l t k).fair first_is in
      let c : ℕ = digit e.tag (h + 1) in
      let made = number_made st.dims (h + 1) c (omega arith) (omega arith) (fair.below (h + 1) (omega arith) (omega arith)) in
      let i : ℕ = links_before st.dims (h + 1) + c in
      let below : i < sum st.dims = number_below st.dims (h + 1) i made in
      let next = to_neighbour st.dims st.rank i t.grid t.rank below in
      let here : link_to st.dims st.rank i ≡ next_link st.dims st.rank (hop_at st.dims l) e.tag = ap (λ m. next_link st.dims st.rank m e.tag) (sym at) in
      let P : ℕ → Type 0 = λ m. length (slice_index_or outs (out_index st.dims m) no_out).parcel.untaken ≡ st.cap in
      let full : P (link_to st.dims st.rank i) =
      ap (λ j. length (slice_index_or outs j no_out).parcel.untaken) (out_index-link_to st.dims st.rank i t.grid t.rank below) ∙ stopped (in_index st.dims l) n.within (n.hop ∙ at) e first_is in
      let hop : hop_at st.dims (link_to st.dims st.rank i) ≡ hop_at st.dims l + 1 =
      hop_at-link st.dims (hop_to st.dims i) st.rank (neighbour st.dims st.rank i) t.grid next ∙ (hop_to_is st.dims (h + 1) i made ∙ ap (λ m. m + 1) (sym at)) in
      record {
        below = subst (λ m. m < links st.dims) here (to_below st.dims st.rank i t.grid t.rank below);
        sender = subst (λ m. sender_at st.dims m ≡ st.rank) here (to_sender st.dims st.rank i t.grid t.rank below);
        hop = subst (λ m. hop_at st.dims m ≡ hop_at st.dims l + 1) here hop;
        holds = subst P here full;
      }

-- links of other hops stay
pub same_ins : (st : State) (ins : List In) (h : ℕ) → IsState st → TakesFromHop st.dims h st.ins ins → (l : ℕ) → l < links st.dims → hop_at st.dims l ≢ h → slice_index_or ins (in_index st.dims l) no_in ≡ in_of st l
same_ins st ins h s takes l k ne = takes.others (in_index st.dims l) (λ e. ne (sym (in_number st.dims l s.grid k).hop ∙ e))

pub same_outs : (st : State) (outs : List Out) (h : ℕ) → IsState st → AddsToHop st.dims h st.outs outs → (l : ℕ) → l < links st.dims → hop_at st.dims l ≢ h → slice_index_or outs (out_index st.dims l) no_out ≡ out_of st l
same_outs st outs h s adds l k ne = adds.others (out_index st.dims l) (λ e. ne (sym (out_number st.dims l s.grid k).hop ∙ e))

-- and with them what is blocked there
pub still_blocked : (old new : State) (h l : ℕ) → new.dims ≡ old.dims → new.rank ≡ old.rank → new.cap ≡ old.cap → hop_at new.dims l ≢ h → in_of new l ≡ in_of old l
    → ((m : ℕ) → m < links new.dims → hop_at new.dims m ≢ h + 1 → out_of new m ≡ out_of old m) → IsBlocked old l → IsBlocked new l
still_blocked old new h l d r c ne inbox outs b e at =
    let P : ℕ → Type 0 = λ m. length (out_of old m).parcel.untaken ≡ old.cap in
    next_map new.dims new.rank l e.tag P (λ m. length (out_of new m).parcel.untaken ≡ new.cap)
    (λ m below sender hop full. ap (λ o. length o.parcel.untaken) (outs m below (λ k. ne (let same : hop_at new.dims l + 1 ≡ h + 1 = sym hop ∙ k in omega arith))) ∙ (full ∙ sym c))
    (subst (λ q. NextIs new.dims q l e.tag P) (sym r) (subst (λ ds. NextIs ds old.rank l e.tag P) (sym d) (b e (sym (ap (λ x. slice_get x.parcel.untaken 0) inbox) ∙ at))))
