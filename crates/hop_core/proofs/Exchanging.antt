-- That a rank's state stands where an open parcel is taken out, put back, or an inbox is filled, by
-- an exchange.
use Rattle.std.proofs.Common.{ℕ, ◌≡◌, ◌<◌, ◌≤◌, ◌+◌, ◌-◌, Bool, true, false, List, length, drop, get_or, set, sum, min, None, arith, refl, sym, ap, subst, ◌∙◌, inl, inr}
use Rattle.std.specs.Int.{from_bool}
use Rattle.std.specs.List.{All, list_all}
use Rattle.std.proofs.lemmas.List.{length-set, get_or-set_same, get_or-set_other}
use Rattle.std.proofs.lemmas.Bool.{cases_eq, false≢true}
use Rattle.bale_items.specs.declared.item.Entry.{Entry}
use Rattle.item_buffer.specs.Contents.{Contents, IsFresh, blank}
use Rattle.route_tensor.specs.Link.{links_before}
use Rattle.route_tensor.specs.Neighbour.{hop_to}
use Rattle.route_tensor.specs.Tag.{IsFair}
use Rattle.route_tensor.proofs.Neighbours.{hop_to_has}
use Rattle.hop_core.specs.Lent.{Lent}
use Rattle.hop_core.specs.Link.{Out, In, no_out, no_in, is_empty, is_wanted, is_finished}
use Rattle.hop_core.specs.State.{State, out_at, in_at, at_end, ins_of_hop}
use Rattle.hop_core.specs.Standing.{IsOut, IsState, IsKept, failing}
use Rattle.hop_core.proofs.Marks.{at_end_other}
use Rattle.hop_core.proofs.Counts.{as_before, passes_if}
use Rattle.hop_core.proofs.Standing.{out_here, out_of, out_written, in_written, state_out, state_in, kept_out, none_some, none_entry, wanted_open, open_unfinished, ends_open, ends_marked, not_last, ins_before, coming_less}

-- an empty parcel of any epoch
empty_out : (dims : List ℕ) (cap h e : ℕ) (o : Out) → o.parcel ≡ blank e → IsOut dims cap h o
empty_out dims cap h n o e = record {
  fresh = record { none_taken = ap (λ c. c.taken) e; none_back = ap (λ c. c.back) e };
  fits = omega (arith, ap (λ c. length c.untaken) e);
  fair = λ k d l. absurd (omega (arith, l, ap (λ c. length c.untaken) e));
  closed_empty = λ _. ap (λ c. c.untaken) e;
}

-- the parcel of an open link was exchanged
pub exchanged : (st : State) (i : ℕ) (o o' : Out) (p : Contents) → IsState st → i < sum st.dims → o ≡ get_or st.outs i o → o' ≡ record o { parcel = p } → (out_at st i).closed ≡ false
    → o' ≡ record { parcel = p; closed = false }
exchanged st i o o' p k q here wrote open' = wrote ∙ ap (out_of p) (ap (λ y. y.closed) (out_here st i o k q here) ∙ open')

-- an open parcel was taken out for an empty one
pub out_taken_kept : (st : State) (ends : List Bool) (from count count' coming i e : ℕ) (o : Out) (p : Contents) (last : Bool) → IsKept st ends from count coming → i < sum st.dims →
    p ≡ blank e → last ≡ at_end st.dims st.ins st.done (hop_to st.dims i) → o ≡ record { parcel = p; closed = last } → (out_at st i).closed ≡ false →
    count' ≡ count - from_bool last → IsKept (out_written st i o) ends from count' coming
out_taken_kept st ends from count count' coming i e o p last k q b l wrote open' less =
    kept_out st ends from count count' coming i o k
    (state_out st i o k.standing q
    (empty_out st.dims st.cap (hop_to st.dims i) e o (ap (λ y. y.parcel) wrote ∙ b))
    (λ z. sym l ∙ (sym (ap (λ y. y.closed) wrote) ∙ z)))
    (omega (arith, less, k.open_is, passes_if (λ (y : Out). y.closed) st.outs i o no_out last (omega (arith, q, k.standing.all_outs)) open' (ap (λ y. y.closed) wrote)))

-- the last parcel of a link was sent
pub closed_kept : (st : State) (ends : List Bool) (from count coming i : ℕ) (o : Out) → IsKept st ends from count coming → i < sum st.dims → out_at st i ≡ out_of (blank st.epoch) false →
    at_end st.dims st.ins st.done (hop_to st.dims i) ≡ true → st.pulled ≡ None → o ≡ record (out_at st i) { closed = true } → IsKept (record st { outs = set st.outs i o }) ends from (count - 1) coming
closed_kept st ends from count coming i o k q place ended none wrote =
    subst (λ p. IsKept (record st { outs = set st.outs i o; pulled = p }) ends from (count - 1) coming) (sym none)
    (out_taken_kept st ends from count (count - 1) coming i st.epoch o (out_at st i).parcel true k q (ap (λ y. y.parcel) place) (sym ended) wrote (ap (λ y. y.closed) place) refl)

-- another parcel is lent, or none
pub lent_kept : (st : State) (ends : List Bool) (from count coming : ℕ) (l : Lent) → IsKept st ends from count coming → IsKept (record st { lent = l }) ends from count coming
lent_kept st ends from count coming l k =
    let s = k.standing in
    record {
      standing = record {
        grid = s.grid;
        rank = s.rank;
        cap = s.cap;
        all_outs = s.all_outs;
        all_ins = s.all_ins;
        each_out = s.each_out;
        each_in = s.each_in;
        closed_at_end = s.closed_at_end;
        can_unpull = λ i e. let u = s.can_unpull i e in record { within = u.within; last_hop = u.last_hop; back = u.back };
      };
      ends_all = k.ends_all;
      ends_each = k.ends_each;
      from_low = k.from_low;
      from_high = k.from_high;
      open_is = k.open_is;
      coming_is = k.coming_is;
      from_none = k.from_none;
    }

-- the place of an open parcel that is lent
pub out_lent_kept : (st : State) (ends : List Bool) (from count coming i e : ℕ) (o : Out) (p : Contents) (l : Lent) → IsKept st ends from count coming → i < sum st.dims →
    p ≡ blank e → o ≡ record { parcel = p; closed = false } → (out_at st i).closed ≡ false → IsKept (record (out_written st i o) { lent = l }) ends from count coming
out_lent_kept st ends from count coming i e o p l k q b wrote open' =
    let empty = empty_out st.dims st.cap (hop_to st.dims i) e o (ap (λ y. y.parcel) wrote ∙ b) in
    let still : o.closed ≡ false = ap (λ y. y.closed) wrote in
    lent_kept (out_written st i o) ends from count coming l
    (kept_out st ends from count count coming i o k
    (state_out st i o k.standing q empty (λ c. absurd (false≢true (sym still ∙ c))))
    (k.open_is ∙ sym (as_before (λ (y : Out). y.closed) st.outs i o no_out (omega (arith, q, k.standing.all_outs)) (still ∙ sym open'))))

-- one was put back
pub out_back_kept : (st : State) (ends : List Bool) (from count coming i : ℕ) (o : Out) (p : Contents) → IsKept st ends from count coming → i < sum st.dims →
    IsFresh p → length p.untaken + p.taken ≤ st.cap → All (λ e. IsFair st.dims (hop_to st.dims i) e.tag) p.untaken → o ≡ record { parcel = p; closed = false } →
    (out_at st i).closed ≡ false → IsKept (out_written st i o) ends from count coming
out_back_kept st ends from count coming i o p k q fresh fits fair wrote was =
    let e : o.parcel ≡ p = ap (λ y. y.parcel) wrote in
    let open' : o.closed ≡ false = ap (λ y. y.closed) wrote in
    kept_out st ends from count count coming i o k
    (state_out st i o k.standing q
    (record {
      fresh = subst IsFresh (sym e) fresh;
      fits = subst (λ z. length z.untaken ≤ st.cap) (sym e) (omega (arith, fits));
      fair = subst (λ z. All (λ (y : Entry). IsFair st.dims (hop_to st.dims i) y.tag) z.untaken) (sym e) fair;
      closed_empty = λ c. absurd (false≢true (sym open' ∙ c));
    })
    (λ c. absurd (false≢true (sym open' ∙ c))))
    (k.open_is ∙ sym (as_before (λ (y : Out). y.closed) st.outs i o no_out (omega (arith, q, k.standing.all_outs)) (open' ∙ sym was)))

-- an inbox that was wanted was filled
module _ (st : State) (ends : List Bool) (from count coming i : ℕ) (x : In) (p : Contents) (k : IsKept st ends from count coming) (q : i < sum st.dims)
    (w : is_wanted (in_at st i) ≡ true) (fits : length p.untaken + p.taken ≤ st.cap) (none_back : p.back ≡ None)
    (fair : All (λ (e : Entry). IsFair st.dims (hop_to st.dims i) e.tag) p.untaken) (wrote : x.parcel ≡ p) where
  fin : is_finished (in_at st i) ≡ false
  fin = open_unfinished (in_at st i) (wanted_open (in_at st i) w)

  filled : IsState (in_written st i x None)
  filled =
      state_in st i x None k.standing q
      (record {
        fits = subst (λ z. length z.untaken ≤ st.cap) (sym wrote) (omega (arith, fits));
        fair = subst (λ z. All (λ (y : Entry). IsFair st.dims (hop_to st.dims i) y.tag) z.untaken) (sym wrote) fair;
        back_fair = λ y b. absurd (none_entry y x.parcel.back (ap (λ z. z.back) wrote ∙ none_back) b);
      })
      (inr fin)
      (λ j e. absurd (none_some j None refl e))

  still_none : hop_to st.dims i < length st.dims → (j : ℕ) → links_before st.dims (length st.dims) ≤ j → j < from → is_empty (in_at (in_written st i x None) j).parcel ≡ true
  still_none l j a v = ap (λ y. is_empty y.parcel) (get_or-set_other st.ins i j x no_in (λ e. not_last st i j from k.standing q l a (omega (arith, v, k.from_high)) e)) ∙ k.from_none j a v

  fewer : (coming' : ℕ) → hop_to st.dims i ≡ length st.dims → x.ended ≡ p.last → coming' ≡ coming - from_bool p.last →
      coming' ≡ failing (λ (y : In). y.ended) (drop (links_before st.dims (length st.dims)) (set st.ins i x))
  fewer coming' l ended less =
      let r = hop_to_has st.dims i q in
      let low : links_before st.dims (length st.dims) ≤ i = subst (λ h. links_before st.dims h ≤ i) l r.from in
      omega (arith, less, k.coming_is, coming_less st i x p.last k.standing q low (wanted_open (in_at st i) w) ended)

  -- on the last hop
  pub in_last_kept : (coming' : ℕ) → hop_to st.dims i ≡ length st.dims → x.ended ≡ p.last → coming' ≡ coming - from_bool p.last → IsKept (in_written st i x None) ends (min from i) count coming'
  in_last_kept coming' l ended less =
      let r = hop_to_has st.dims i q in
      let low : links_before st.dims (length st.dims) ≤ i = subst (λ h. links_before st.dims h ≤ i) l r.from in
      record {
        standing = filled;
        ends_all = k.ends_all;
        ends_each = λ h d a b. k.ends_each h d a b ∙ sym (at_end_other st.dims st.ins st.done i x h q (omega arith) b (omega (arith, b, l)));
        from_low = omega (arith, low, k.from_low);
        from_high = omega (arith, k.from_high);
        open_is = k.open_is;
        coming_is = fewer coming' l ended less;
        from_none = λ j a v. ap (λ y. is_empty y.parcel) (get_or-set_other st.ins i j x no_in (omega (arith, v))) ∙ k.from_none j a (omega (arith, v));
      }

  -- by an empty parcel
  pub in_empty_kept : (coming' : ℕ) → hop_to st.dims i ≡ length st.dims → is_empty x.parcel ≡ true → x.ended ≡ p.last → coming' ≡ coming - from_bool p.last → IsKept (in_written st i x None) ends from count coming'
  in_empty_kept coming' l e ended less = record {
    standing = filled;
    ends_all = k.ends_all;
    ends_each = λ h d a b. k.ends_each h d a b ∙ sym (at_end_other st.dims st.ins st.done i x h q (omega arith) b (omega (arith, b, l)));
    from_low = k.from_low;
    from_high = k.from_high;
    open_is = k.open_is;
    coming_is = fewer coming' l ended less;
    from_none = λ j a v. elim (cases_eq j i) as (λ _. is_empty (get_or (set st.ins i x) j no_in).parcel ≡ true) [
      | inl z ↦ subst (λ m. is_empty (get_or (set st.ins i x) m no_in).parcel ≡ true) (sym z) (ap (λ y. is_empty y.parcel) (get_or-set_same st.ins i x no_in (omega (arith, q, k.standing.all_ins))) ∙ e)
      | inr n ↦ ap (λ y. is_empty y.parcel) (get_or-set_other st.ins i j x no_in n) ∙ k.from_none j a v
    ];
  }

  -- on a hop before, with something left to come or to be read
  pub in_going_kept : hop_to st.dims i < length st.dims → is_finished x ≡ false → IsKept (in_written st i x None) ends from count coming
  in_going_kept l f = record {
    standing = filled;
    ends_all = k.ends_all;
    ends_each = λ h d a b. k.ends_each h d a b ∙ sym (ends_open st.dims st.ins st.done i x h q k.standing.all_ins (omega arith) b fin f);
    from_low = k.from_low;
    from_high = k.from_high;
    open_is = k.open_is;
    coming_is = k.coming_is ∙ ap (failing (λ (y : In). y.ended)) (sym (ins_before st i x k.standing q l));
    from_none = still_none l;
  }

  -- on a hop before, and by then the hop may have reached its end
  pub in_ending_kept : (b : Bool) → hop_to st.dims i < length st.dims → b ≡ list_all is_finished (ins_of_hop st.dims (set st.ins i x) (hop_to st.dims i)) →
      IsKept (in_written st i x None) (set ends (hop_to st.dims i) b) from count coming
  in_ending_kept b l eb = record {
    standing = filled;
    ends_all = length-set ends (hop_to st.dims i) b ∙ k.ends_all;
    ends_each = ends_marked st.dims st.ins (set st.ins i x) st.done ends i x b q l (omega (arith, k.ends_all, k.standing.grid.few)) k.ends_each refl eb;
    from_low = k.from_low;
    from_high = k.from_high;
    open_is = k.open_is;
    coming_is = k.coming_is ∙ ap (failing (λ (y : In). y.ended)) (sym (ins_before st i x k.standing q l));
    from_none = still_none l;
  }
