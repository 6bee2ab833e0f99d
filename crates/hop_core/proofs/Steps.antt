-- That a rank's state stands where it is done, and where items are pushed and pulled.
use Rattle.std.proofs.Common.{ℕ, zero, suc, ◌≡◌, ◌+◌, ◌<◌, ◌≤◌, Bool, true, false, List, length, get_or, sum, slice_get, Some, None, arith, refl, sym, ap, subst, ◌∙◌, inl, inr}
use Rattle.std.specs.Option.{IsSome, is_some}
use Rattle.std.proofs.lemmas.List.{get_or-set_same, get_or-set_other}
use Rattle.std.proofs.lemmas.Bool.{cases_lt, false≢true, false_from_ne_true, cases_Bool}
use Rattle.bale_items.specs.declared.item.Entry.{Entry}
use Rattle.route_tensor.specs.Grid.{IsGrid, dim, coord}
use Rattle.route_tensor.proofs.Links.{coord_in}
use Rattle.route_tensor.specs.Neighbour.{hop_to}
use Rattle.hop_core.proofs.Going.{out_pushed, in_taken, head_fair, same_outs}
use Rattle.route_tensor.specs.Tag.{IsFair}
use Rattle.route_tensor.proofs.Neighbours.{hop_to_is}
use Rattle.hop_core.specs.Link.{Out, In, no_out, no_in, is_empty, with_entry, with_first_taken}
use Rattle.hop_core.specs.State.{State, in_at, at_end}
use Rattle.hop_core.specs.Standing.{IsOut, IsIn, CanUnpull, IsKept}
use Rattle.hop_core.proofs.Marks.{at_end_other, at_end-first, at_end-later, end_zero}
use Rattle.hop_core.proofs.Counts.{as_before}
use Rattle.hop_core.proofs.Standing.{coming_kept, none_some, out_written, state_out, kept_out, out_fact, in_written, state_in, in_fact, out_here, in_here, hop_last}

end_later : (dims : List ℕ) (ins : List In) (a b : Bool) (h : ℕ) → 2 ≤ h → at_end dims ins a h ≡ at_end dims ins b h
end_later dims ins a b zero p = absurd (omega (arith, p))
end_later dims ins a b (suc h) p =
    let e : suc h ≡ h + 1 = omega arith in
    let l : 1 ≤ h = omega arith in
    ap (at_end dims ins a) e ∙ at_end-later dims ins a h l ∙ sym (ap (at_end dims ins b) e ∙ at_end-later dims ins b h l)

end_done : (dims : List ℕ) (ins : List In) (a : Bool) (h : ℕ) → at_end dims ins a h ≡ true → at_end dims ins true h ≡ true
end_done dims ins a zero t = end_zero dims ins a t
end_done dims ins a (suc zero) t = at_end-first dims ins true
end_done dims ins a (suc (suc h)) t = end_later dims ins true a (suc (suc h)) (omega arith) ∙ t

-- done is set
pub done_kept : (st : State) (ends : List Bool) (from count coming : ℕ) → IsKept st ends from count coming → IsKept (record st { done = true; pulled = None }) ends from count coming
done_kept st ends from count coming k =
    let s = k.standing in
    let later : (h : ℕ) → 2 ≤ h → at_end st.dims st.ins true h ≡ at_end st.dims st.ins st.done h = λ h p. end_later st.dims st.ins true st.done h p in
    record {
      standing = record {
        grid = s.grid;
        rank = s.rank;
        cap = s.cap;
        all_outs = s.all_outs;
        all_ins = s.all_ins;
        each_out = s.each_out;
        each_in = s.each_in;
        closed_at_end = λ i d l z. end_done st.dims st.ins st.done (hop_to st.dims i) (s.closed_at_end i d l z);
        can_unpull = λ j e. absurd (none_some j None refl e);
      };
      ends_all = k.ends_all;
      ends_each = λ h d a b. k.ends_each h d a b ∙ sym (later h a);
      from_low = k.from_low;
      from_high = k.from_high;
      from_none = k.from_none;
      open_is = k.open_is;
      coming_is = k.coming_is;
    }

same_number : (i j : ℕ) → Some i ≡ Some j → i ≡ j
same_number i j e = cc

-- an entry pushed
pub push_kept : (st : State) (ends : List Bool) (from count coming i : ℕ) (o old : Out) (e : Entry) → IsKept st ends from count coming → i < sum st.dims → hop_to st.dims i ≡ 1 → st.done ≡ false →
    old ≡ get_or st.outs i old → o ≡ record old { parcel = with_entry old.parcel e } → length old.parcel.untaken < st.cap → IsFair st.dims 1 e.tag →
    IsKept (out_written st i o) ends from count coming
push_kept st ends from count coming i o old e k q h d read wrote room f =
    let s = k.standing in
    let here = out_here st i old s q read in
    let was : IsOut st.dims st.cap (hop_to st.dims i) old = subst (IsOut st.dims st.cap (hop_to st.dims i)) (sym here) (out_fact st i s q) in
    let open' : old.closed ≡ false = false_from_ne_true old.closed (λ c.
    false≢true (sym d ∙ sym (at_end-first st.dims st.ins st.done) ∙ ap (at_end st.dims st.ins st.done) (sym h)
    ∙ s.closed_at_end i no_out (omega (arith, s.all_outs, q)) (ap (λ y. y.closed) (sym here) ∙ c))) in
    kept_out st ends from count count coming i o k
    (state_out st i o s q
    (out_pushed st.dims st.cap (hop_to st.dims i) old o e was wrote room (subst (λ j. IsFair st.dims j e.tag) (sym h) f) open')
    (λ c. absurd (false≢true (sym (ap (λ y. y.closed) wrote ∙ open') ∙ c))))
    (k.open_is ∙ sym (as_before (λ (y : Out). y.closed) st.outs i o no_out (omega (arith, s.all_outs, q)) (ap (λ (y : Out). y.closed) wrote ∙ ap (λ (y : Out). y.closed) here)))

-- only the right to unpull is gone
pub rest_kept : (st : State) (ends : List Bool) (from count coming : ℕ) → IsKept st ends from count coming → IsKept (record st { pulled = None }) ends from count coming
rest_kept st ends from count coming k =
    let s = k.standing in
    record {
      standing = record {
        grid = s.grid;
        rank = s.rank;
        cap = s.cap;
        all_outs = s.all_outs;
        all_ins = s.all_ins;
        each_out = s.each_out;
        each_in = s.each_in;
        closed_at_end = s.closed_at_end;
        can_unpull = λ j e. absurd (none_some j None refl e);
      };
      ends_all = k.ends_all;
      ends_each = k.ends_each;
      from_low = k.from_low;
      from_high = k.from_high;
      from_none = k.from_none;
      open_is = k.open_is;
      coming_is = k.coming_is;
    }

-- a push, accepted or not
pub push_either : (st : State) (ends : List Bool) (from count coming i : ℕ) (o old : Out) (e : Entry) (r : Bool) → IsKept st ends from count coming → i < sum st.dims → hop_to st.dims i ≡ 1 → st.done ≡ false →
    old ≡ get_or st.outs i old → (r ≡ true → o ≡ record old { parcel = with_entry old.parcel e }) → (r ≡ true → length old.parcel.untaken < st.cap) → (r ≡ false → o ≡ old) → IsFair st.dims 1 e.tag →
    IsKept (out_written st i o) ends from count coming
push_either st ends from count coming i o old e r k q h d read wrote room same f =
    elim (cases_Bool r) as (λ _. IsKept (out_written st i o) ends from count coming) [
      | inl t ↦ push_kept st ends from count coming i o old e k q h d read (wrote t) (room t) f
      | inr n ↦ subst (λ os. IsKept (record st { outs = os; pulled = None }) ends from count coming) (sym (same_outs st.outs i old o read (same n))) (rest_kept st ends from count coming k)
    ]

-- the first hop's neighbour with a coordinate
pub first_hop_out : (dims : List ℕ) (d : ℕ) → IsGrid dims → hop_to dims (coord dims d 1) ≡ 1
first_hop_out dims d g =
    let c : coord dims d 1 < dim dims 1 = coord_in dims d 1 g.positive (omega arith) g.some in
    hop_to_is dims 1 (coord dims d 1) (record { first = omega arith; last = g.some; from = omega arith; below = omega (arith, c) })

-- the taking of items of the last hop
pub taken_kept : (st : State) (ends : List Bool) (from count coming i : ℕ) (x : In) → IsKept st ends from count coming → from ≤ i → i < sum st.dims →
    ((j : ℕ) → from ≤ j → j < i → is_empty (in_at st j).parcel ≡ true) → IsIn st.dims st.cap (hop_to st.dims i) x → IsSome x.parcel.back → x.ended ≡ (in_at st i).ended →
    IsKept (in_written st i x (Some i)) ends i count coming
taken_kept st ends from count coming i x k low q none f back ended =
    let s = k.standing in
    let last : hop_to st.dims i ≡ length st.dims = hop_last st i s (omega (arith, low, k.from_low)) q in
    let n : i < length st.ins = omega (arith, s.all_ins, q) in
    record {
      standing = state_in st i x (Some i) s q f
          (inl last)
          (λ j z. subst (CanUnpull (in_written st i x (Some i))) (same_number i j z) (record {
            within = q;
            last_hop = last;
            back = ap (λ y. is_some y.parcel.back) (get_or-set_same st.ins i x no_in n) ∙ back;
          }));
      ends_all = k.ends_all;
      ends_each = λ h d a b. k.ends_each h d a b ∙ sym (at_end_other st.dims st.ins st.done i x h q (omega arith) b (omega (arith, b, last)));
      from_low = omega (arith, low, k.from_low);
      from_high = omega (arith, q);
      open_is = k.open_is;
      coming_is = k.coming_is ∙ sym (coming_kept st i x s q (omega (arith, low, k.from_low)) ended);
      from_none = λ j a w. ap (λ y. is_empty y.parcel) (get_or-set_other st.ins i j x no_in (omega (arith, w)))
          ∙ elim (cases_lt j from) as (λ _. is_empty (in_at st j).parcel ≡ true) [ inl v ↦ k.from_none j a v | inr v ↦ none j v w ];
    }

-- of one item
pub pull_kept : (st : State) (ends : List Bool) (from count coming i : ℕ) (x old : In) (e : Entry) → IsKept st ends from count coming → from ≤ i → i < sum st.dims →
    ((j : ℕ) → from ≤ j → j < i → is_empty (in_at st j).parcel ≡ true) → old ≡ get_or st.ins i old → slice_get old.parcel.untaken 0 ≡ Some e → x ≡ record old { parcel = with_first_taken old.parcel } →
    IsKept (in_written st i x (Some i)) ends i count coming
pull_kept st ends from count coming i x old e k low q none read head wrote =
    let s = k.standing in
    let here = in_here st i old s q read in
    let f : IsIn st.dims st.cap (hop_to st.dims i) old = subst (IsIn st.dims st.cap (hop_to st.dims i)) (sym here) (in_fact st i s q) in
    taken_kept st ends from count coming i x k low q none
    (in_taken st.dims st.cap (hop_to st.dims i) old x e f wrote head (head_fair st.dims st.cap (hop_to st.dims i) old e f head))
    (ap (λ y. is_some y.parcel.back) wrote ∙ ap is_some head)
    (ap (λ (y : In). y.ended) wrote ∙ ap (λ (y : In). y.ended) here)

-- nothing to take
pub none_kept : (st : State) (ends : List Bool) (from count coming i : ℕ) → IsKept st ends from count coming → from ≤ i → i ≤ sum st.dims → ((j : ℕ) → from ≤ j → j < i → is_empty (in_at st j).parcel ≡ true) → IsKept (record st { pulled = None }) ends i count coming
none_kept st ends from count coming i k low high none =
    let r = rest_kept st ends from count coming k in
    record {
      standing = r.standing;
      ends_all = k.ends_all;
      ends_each = k.ends_each;
      from_low = omega (arith, low, k.from_low);
      from_high = high;
      open_is = k.open_is;
      coming_is = k.coming_is;
      from_none = λ j a w. elim (cases_lt j from) as (λ _. is_empty (in_at st j).parcel ≡ true) [ inl v ↦ k.from_none j a v | inr v ↦ none j v w ];
    }
