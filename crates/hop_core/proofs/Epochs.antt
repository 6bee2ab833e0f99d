-- The phase by what was found, and what a reset leaves.
use Rattle.std.proofs.Common.{ℕ, zero, suc, ◌≡◌, ◌+◌, ◌-◌, ◌<◌, ◌≤◌, Bool, true, false, ◌&&◌, List, length, drop, get_or, map, replicate, sum, min, Option, Some, None, arith, refl, sym, ap, subst, ◌∙◌, inl}
use Rattle.std.specs.List.{All, list_all}
use Rattle.std.specs.Option.{IsSome}
use Rattle.std.proofs.lemmas.Bool.{cond-true, cond-false, false≢true, not_from_true, not_from_false}
use Rattle.std.proofs.lemmas.List.{length-map, length-replicate, get_or-map, get_or-replicate, get_or-set_other, get_or-drop, length-drop}
use Rattle.std.proofs.lemmas.List.Elements.{All-cons}
use Rattle.bale_items.specs.declared.item.Entry.{Entry}
use Rattle.item_buffer.specs.Capacity.{IsCap}
use Rattle.item_buffer.specs.Contents.{Contents}
use Rattle.route_tensor.specs.Grid.{IsGrid, ranks, dim}
use Rattle.route_tensor.specs.Link.{links_before}
use Rattle.route_tensor.specs.Neighbour.{hop_to}
use Rattle.route_tensor.specs.Tag.{IsFair}
use Rattle.route_tensor.proofs.Neighbours.{hop_to_has, hop_to_is, number_made, number_below}
use Rattle.hop_core.specs.declared.phase.Phase.TheVariants as phase
use Rattle.hop_core.specs.Lent.Lent.{Nothing}
use Rattle.hop_core.specs.Link.{Out, In, no_out, no_in, is_empty, is_finished, with_back}
use Rattle.hop_core.specs.State.{State, at_end, ins_of_hop, all_closed, all_read, phase_of, out_in_new_epoch, in_in_new_epoch}
use Rattle.hop_core.specs.Standing.{IsOut, IsIn, IsKept, CanUnpull}
use Rattle.hop_core.proofs.Marks.{at_end-later, at_end_other, hop_unfinished}
use Rattle.hop_core.proofs.Counts.{all_fail}
use Rattle.hop_core.proofs.Standing.{coming_kept, in_written, state_in, in_here, none_some, blank_out, blank_in, none_entry}

-- the phase, by what was found
pub phase_working : (st : State) → st.done ≡ false → phase_of st ≡ phase.Working
unfolding phase_of
phase_working st d = cond-true _ _ _ (not_from_false st.done d)

pub phase_endgame : (st : State) → st.done ≡ true → all_closed st.outs ≡ false → phase_of st ≡ phase.Endgame
unfolding phase_of
phase_endgame st d c = cond-false _ _ _ (not_from_true st.done d) ∙ cond-true _ _ _ (not_from_false (all_closed st.outs) c)

pub phase_cleanup : (st : State) → st.done ≡ true → all_closed st.outs ≡ true → all_read st ≡ false → phase_of st ≡ phase.Cleanup
unfolding phase_of
phase_cleanup st d c r = cond-false _ _ _ (not_from_true st.done d) ∙ cond-false _ _ _ (not_from_true (all_closed st.outs) c) ∙ cond-true _ _ _ (not_from_false (all_read st) r)

pub phase_complete : (st : State) → st.done ≡ true → all_closed st.outs ≡ true → all_read st ≡ true → phase_of st ≡ phase.Complete
unfolding phase_of
phase_complete st d c r = cond-false _ _ _ (not_from_true st.done d) ∙ cond-false _ _ _ (not_from_true (all_closed st.outs) c) ∙ cond-false _ _ _ (not_from_true (all_read st) r)

-- where no link has ended no hop but the first has reached its end
none_at_end : (dims : List ℕ) (ins : List In) (done : Bool) (h : ℕ) → IsGrid dims → length ins ≡ sum dims → ((i : ℕ) → i < sum dims → (get_or ins i no_in).ended ≡ false) → 2 ≤ h → h ≤ length dims → at_end dims ins done h ≡ false
none_at_end dims ins done zero g l none p m = absurd (omega (arith, p))
none_at_end dims ins done (suc h) g l none p m =
    let e : suc h ≡ h + 1 = omega arith in
    let one : 1 ≤ h = omega arith in
    let some : 0 < dim dims h = g.positive (h - 1) 0 (omega (arith, m, one)) in
    let k = number_made dims h 0 one (omega (arith, m)) some in
    let i = links_before dims h + 0 in
    let q : i < sum dims = number_below dims h i k in
    let hop : hop_to dims i ≡ h = hop_to_is dims h i k in
    let f : is_finished (get_or ins i no_in) ≡ false = ap (λ b. b && is_empty (get_or ins i no_in).parcel) (none i q) in
    ap (at_end dims ins done) e ∙ at_end-later dims ins done h one
    ∙ subst (λ j. list_all is_finished (ins_of_hop dims ins j) ≡ false) hop (hop_unfinished dims ins i q l f)

-- a new epoch
abbrev pub renewed : State → ℕ → State
renewed st n = record st { outs = map out_in_new_epoch st.outs; ins = map in_in_new_epoch st.ins; done = false; phase = phase.Dormant; epoch = n; pulled = None }

pub renewed_kept : (st : State) (ends ends' : List Bool) (from count coming count' coming' n : ℕ) → IsKept st ends from count coming → ends' ≡ replicate 3 false → count' ≡ sum st.dims
    → coming' ≡ sum st.dims - links_before st.dims (length st.dims) → IsKept (renewed st n) ends' from count' coming'
renewed_kept st ends ends' from count coming count' coming' n k e open' awaited =
    let s = k.standing in
    let b = links_before st.dims (length st.dims) in
    let no : length (map out_in_new_epoch st.outs) ≡ sum st.dims = length-map st.outs out_in_new_epoch ∙ s.all_outs in
    let ni : length (map in_in_new_epoch st.ins) ≡ sum st.dims = length-map st.ins in_in_new_epoch ∙ s.all_ins in
    let o : (i : ℕ) (d : Out) → i < sum st.dims → get_or (map out_in_new_epoch st.outs) i d ≡ out_in_new_epoch (get_or st.outs i no_out) = λ i d q. get_or-map out_in_new_epoch st.outs i no_out d (omega (arith, q, s.all_outs)) in
    let x : (i : ℕ) (d : In) → i < sum st.dims → get_or (map in_in_new_epoch st.ins) i d ≡ in_in_new_epoch (get_or st.ins i no_in) = λ i d q. get_or-map in_in_new_epoch st.ins i no_in d (omega (arith, q, s.all_ins)) in
    record {
      standing = record {
        grid = s.grid;
        rank = s.rank;
        cap = s.cap;
        all_outs = no;
        all_ins = ni;
        each_out = λ i d l.
            let q : i < sum st.dims = omega (arith, l, no) in
            let p = s.each_out i no_out (omega (arith, q, s.all_outs)) in
            subst (IsOut st.dims st.cap (hop_to st.dims i)) (sym (o i d q)) (record { fresh = p.fresh; fits = p.fits; fair = p.fair; closed_empty = λ c. absurd (false≢true c) });
        each_in = λ i d l.
            let q : i < sum st.dims = omega (arith, l, ni) in
            let p = s.each_in i no_in (omega (arith, q, s.all_ins)) in
            subst (IsIn st.dims st.cap (hop_to st.dims i)) (sym (x i d q)) (record { fits = p.fits; fair = p.fair; back_fair = p.back_fair });
        closed_at_end = λ i d l c. absurd (false≢true (sym (ap (λ y. y.closed) (o i d (omega (arith, l, no)))) ∙ c));
        can_unpull = λ j z. absurd (none_some j None refl z);
      };
      ends_all = ap length e ∙ length-replicate 3 false;
      ends_each = λ h d a b. ap (λ bs. get_or bs (h - 1) d) e ∙ get_or-replicate 3 (h - 1) false d (omega (arith, a, b, s.grid.few))
          ∙ sym (none_at_end st.dims (map in_in_new_epoch st.ins) false h s.grid ni (λ i q. ap (λ y. y.ended) (x i no_in q)) a b);
      from_low = k.from_low;
      from_high = k.from_high;
      open_is = open' ∙ sym (all_fail (λ (y : Out). y.closed) (map out_in_new_epoch st.outs) no_out (λ i q. ap (λ (y : Out). y.closed) (o i no_out (omega (arith, q, no)))) ∙ no);
      coming_is = awaited ∙ sym (all_fail (λ (y : In). y.ended) (drop b (map in_in_new_epoch st.ins)) no_in (λ i q. ap (λ (y : In). y.ended) (get_or-drop b (map in_in_new_epoch st.ins) i no_in ∙ x (b + i) no_in (omega (arith, q, ni, length-drop b (map in_in_new_epoch st.ins))))) ∙ omega (arith, length-drop b (map in_in_new_epoch st.ins), ni));
      from_none = λ j a w. ap (λ y. is_empty y.parcel) (x j no_in (omega (arith, w, k.from_high))) ∙ k.from_none j a w;
    }

-- a new state
abbrev pub new_state : List ℕ → ℕ → ℕ → Bool → State
new_state dims r cap steady = record {
  dims = dims;
  rank = r;
  cap = cap;
  steady = steady;
  outs = replicate (sum dims) no_out;
  ins = replicate (sum dims) no_in;
  done = false;
  phase = phase.Dormant;
  epoch = 0;
  lent = Nothing;
  pulled = None;
}

pub new_kept : (dims : List ℕ) (r cap : ℕ) (steady : Bool) (ends : List Bool) (from : ℕ) → IsGrid dims → r < ranks dims → IsCap cap → ends ≡ replicate 3 false →
    from ≡ links_before dims (length dims) → from ≤ sum dims → IsKept (new_state dims r cap steady) ends from (sum dims) (sum dims - from)
new_kept dims r cap steady ends from g a is_cap e f low =
    let n = sum dims in
    let b = links_before dims (length dims) in
    let no : length (replicate n no_out) ≡ n = length-replicate n no_out in
    let ni : length (replicate n no_in) ≡ n = length-replicate n no_in in
    let o : (i : ℕ) (d : Out) → i < n → get_or (replicate n no_out) i d ≡ no_out = λ i d q. get_or-replicate n i no_out d q in
    let x : (i : ℕ) (d : In) → i < n → get_or (replicate n no_in) i d ≡ no_in = λ i d q. get_or-replicate n i no_in d q in
    record {
      standing = record {
        grid = g;
        rank = a;
        cap = is_cap;
        all_outs = no;
        all_ins = ni;
        each_out = λ i d l. blank_out dims cap (hop_to dims i) _ (ap (λ y. y.parcel) (o i d (omega (arith, l, no))));
        each_in = λ i d l. blank_in dims cap (hop_to dims i) _ (ap (λ y. y.parcel) (x i d (omega (arith, l, ni))));
        closed_at_end = λ i d l z. absurd (false≢true (sym (ap (λ y. y.closed) (o i d (omega (arith, l, no)))) ∙ z));
        can_unpull = λ j z. absurd (none_some j None refl z);
      };
      ends_all = ap length e ∙ length-replicate 3 false;
      ends_each = λ h d p m. ap (λ bs. get_or bs (h - 1) d) e ∙ get_or-replicate 3 (h - 1) false d (omega (arith, p, m, g.few))
          ∙ sym (none_at_end dims (replicate n no_in) false h g ni (λ i q. ap (λ y. y.ended) (x i no_in q)) p m);
      from_low = omega (arith, f);
      from_high = low;
      open_is = sym (all_fail (λ (y : Out). y.closed) (replicate n no_out) no_out (λ i q. ap (λ (y : Out). y.closed) (o i no_out (omega (arith, q, no)))) ∙ no);
      coming_is = omega (arith, f, all_fail (λ (y : In). y.ended) (drop b (replicate n no_in)) no_in (λ i q. ap (λ (y : In). y.ended) (get_or-drop b (replicate n no_in) i no_in ∙ x (b + i) no_in (omega (arith, q, ni, length-drop b (replicate n no_in))))), length-drop b (replicate n no_in), ni);
      from_none = λ j p w. absurd (omega (arith, p, w, f));
    }

-- the item pulled last is put back
back_fair_all : (dims : List ℕ) (h : ℕ) (o : Option Entry) (c : Contents) → All (λ e. IsFair dims h e.tag) c.untaken → ((e : Entry) → o ≡ Some e → IsFair dims h e.tag) → All (λ e. IsFair dims h e.tag) (with_back o c).untaken
back_fair_all dims h None c f b = f
back_fair_all dims h (Some e) c f b = All-cons (λ y. IsFair dims h y.tag) e c.untaken (b e refl) f

back_none : (o : Option Entry) (c : Contents) → IsSome o → (with_back o c).back ≡ None
back_none None c s = absurd (false≢true s)
back_none (Some e) c s = refl

pub unpull_kept : (st : State) (ends : List Bool) (from count coming i : ℕ) (x old : In) → IsKept st ends from count coming → CanUnpull st i → old ≡ get_or st.ins i old →
    x ≡ record old { parcel = with_back old.parcel.back old.parcel } → length x.parcel.untaken ≤ st.cap → IsKept (in_written st i x None) ends (min from i) count coming
unpull_kept st ends from count coming i x old k can read wrote fits =
    let s = k.standing in
    let here = in_here st i old s can.within read in
    let p : IsIn st.dims st.cap (hop_to st.dims i) old = subst (IsIn st.dims st.cap (hop_to st.dims i)) (sym here) (s.each_in i no_in (omega (arith, s.all_ins, can.within))) in
    let some : IsSome old.parcel.back = subst (λ y. IsSome y.parcel.back) (sym here) can.back in
    let e : x.parcel ≡ with_back old.parcel.back old.parcel = ap (λ y. y.parcel) wrote in
    let low : links_before st.dims (length st.dims) ≤ i = subst (λ h. links_before st.dims h ≤ i) can.last_hop (hop_to_has st.dims i can.within).from in
    record {
      standing = state_in st i x None s can.within
          (record {
            fits = fits;
            fair = subst (λ c. All (λ (y : Entry). IsFair st.dims (hop_to st.dims i) y.tag) c.untaken) (sym e) (back_fair_all st.dims (hop_to st.dims i) old.parcel.back old.parcel p.fair p.back_fair);
            back_fair = λ y b. absurd (none_entry y x.parcel.back (ap (λ c. c.back) e ∙ back_none old.parcel.back old.parcel some) b);
          })
          (inl can.last_hop)
          (λ j z. absurd (none_some j None refl z));
      ends_all = k.ends_all;
      ends_each = λ h d a b. k.ends_each h d a b ∙ sym (at_end_other st.dims st.ins st.done i x h can.within (omega arith) b (omega (arith, b, can.last_hop)));
      from_low = omega (arith, low, k.from_low);
      from_high = omega (arith, k.from_high);
      open_is = k.open_is;
      coming_is = k.coming_is ∙ sym (coming_kept st i x s can.within low (ap (λ (y : In). y.ended) wrote ∙ ap (λ (y : In). y.ended) here));
      from_none = λ j a w. ap (λ y. is_empty y.parcel) (get_or-set_other st.ins i j x no_in (omega (arith, w))) ∙ k.from_none j a (omega (arith, w));
    }
