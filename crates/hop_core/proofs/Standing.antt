-- What a write to one link leaves of a rank's state, and what the code reads of a link.
use Rattle.std.proofs.Common.{ℕ, ◌≡◌, ◌+◌, ◌-◌, ◌<◌, ◌≤◌, ◌⊎◌, Bool, true, false, List, [], length, drop, get_or, set, sum, Option, Some, None, arith, refl, sym, ap, subst, ◌∙◌, inl, inr, eqb, not, ◌&&◌}
use Rattle.std.specs.Int.{from_bool}
use Rattle.std.specs.List.{list_all}
use Rattle.std.proofs.lemmas.List.{length-set, get_or-set_same, get_or-set_other, get_or_default, take_all, length-drop, get_or-drop, drop-set-lt, drop-set-add}
use Rattle.std.proofs.lemmas.Bool.{cases_eq, cases_lt, false≢true, false_from_ne_true, ne_eqb, eq-eqb, not_from_true, or_from, and_right, and_parts, not-true}
use Rattle.list_laws.proofs.Lists.{each_set}
use Rattle.bale_items.specs.declared.item.Entry.{Entry}
use Rattle.item_buffer.specs.Contents.{Contents, blank}
use Rattle.route_tensor.specs.Grid.{dim}
use Rattle.route_tensor.proofs.Links.{before_more}
use Rattle.route_tensor.specs.Link.{links_before}
use Rattle.route_tensor.specs.Neighbour.{hop_to}
use Rattle.route_tensor.proofs.Neighbours.{hop_to_has, hop_to_is}
use Rattle.hop_core.specs.Link.{Out, In, no_out, no_in, is_empty, is_due, is_wanted, is_finished}
use Rattle.hop_core.specs.State.{State, out_at, in_at, at_end, ins_of_hop}
use Rattle.hop_core.specs.Standing.{IsOut, IsIn, IsState, CanUnpull, IsKept, failing}
use Rattle.hop_core.proofs.Counts.{as_before, passes_if, some_fails}
use Rattle.hop_core.proofs.Marks.{at_end_kept, at_end_other, at_end-later, hop_unfinished}

pub none_some : (j : ℕ) → (o : Option ℕ) → o ≡ None → o ≡ Some j → ⊥
none_some j o n e = cc

-- a state in which another link out was written
abbrev pub out_written : State → ℕ → Out → State
out_written st i o = record st { outs = set st.outs i o; pulled = None }

pub state_out : (st : State) (i : ℕ) (o : Out) → IsState st → i < sum st.dims → IsOut st.dims st.cap (hop_to st.dims i) o →
    (o.closed ≡ true → at_end st.dims st.ins st.done (hop_to st.dims i) ≡ true) →
    IsState (out_written st i o)
state_out st i o k q p closed = record {
  grid = k.grid;
  rank = k.rank;
  cap = k.cap;
  all_outs = length-set st.outs i o ∙ k.all_outs;
  all_ins = k.all_ins;
  each_out = each_set (λ j out. IsOut st.dims st.cap (hop_to st.dims j) out) st.outs i o k.each_out p;
  each_in = k.each_in;
  closed_at_end = each_set (λ j out. out.closed ≡ true → at_end st.dims st.ins st.done (hop_to st.dims j) ≡ true) st.outs i o k.closed_at_end closed;
  can_unpull = λ j e. absurd (none_some j None refl e);
}

-- what the code keeps besides is untouched by it
pub kept_out : (st : State) (ends : List Bool) (from count count' coming i : ℕ) (o : Out) → IsKept st ends from count coming → IsState (out_written st i o) → count' ≡ failing (λ (y : Out). y.closed) (set st.outs i o) → IsKept (out_written st i o) ends from count' coming
kept_out st ends from count count' coming i o k s counted = record {
  standing = s;
  ends_all = k.ends_all;
  ends_each = k.ends_each;
  from_low = k.from_low;
  from_high = k.from_high;
  from_none = k.from_none;
  open_is = counted;
  coming_is = k.coming_is;
}

pub none_entry : (e : Entry) (o : Option Entry) → o ≡ None → o ≡ Some e → ⊥
none_entry e o n s = cc

pub not_false_is : (b : Bool) → not b ≡ true → b ≡ false
not_false_is b e = not-true b e

pub blank_out : (dims : List ℕ) (cap h : ℕ) (o : Out) → o.parcel ≡ blank 0 → IsOut dims cap h o
blank_out dims cap h o e = record {
  fresh = record { none_taken = ap (λ c. c.taken) e; none_back = ap (λ c. c.back) e };
  fits = omega (arith, ap (λ c. length c.untaken) e);
  fair = λ k d l. absurd (omega (arith, l, ap (λ c. length c.untaken) e));
  closed_empty = λ _. ap (λ c. c.untaken) e;
}

-- a link that is due isn't closed
due_open : (cap : ℕ) (steady at_end' : Bool) (o : Out) → 0 < cap → (o.closed ≡ true → o.parcel.untaken ≡ []) → is_due cap steady at_end' o ≡ true → o.closed ≡ false
due_open cap steady at_end' o some empty due = false_from_ne_true o.closed (λ c.
    let e : length o.parcel.untaken ≡ 0 = ap length (empty c) in
    let a : eqb (length o.parcel.untaken) cap ≡ false = ne_eqb _ cap (λ z. absurd (omega (arith, e, z, some))) in
    let b : not (is_empty o.parcel) ≡ false = not_from_true _ (eq-eqb _ 0 e) in
    let d : not o.closed ≡ false = not_from_true _ c in
    let f : is_due cap steady at_end' o ≡ false = or_from _ _ (or_from _ _ a (and_right steady _ b)) (and_right at_end' _ d) in
    false≢true (sym f ∙ due))

pub out_fact : (st : State) (i : ℕ) → IsState st → i < sum st.dims → IsOut st.dims st.cap (hop_to st.dims i) (out_at st i)
out_fact st i k q = k.each_out i no_out (omega (arith, k.all_outs, q))

pub due_here : (st : State) (i : ℕ) → IsState st → i < sum st.dims → is_due st.cap st.steady (at_end st.dims st.ins st.done (hop_to st.dims i)) (out_at st i) ≡ true → (out_at st i).closed ≡ false
due_here st i k q due = due_open st.cap st.steady _ (out_at st i) k.cap.some (out_fact st i k q).closed_empty due

-- a state in which another link in was written
abbrev pub in_written : State → ℕ → In → Option ℕ → State
in_written st i x p = record st { ins = set st.ins i x; pulled = p }

pub state_in : (st : State) (i : ℕ) (x : In) (p : Option ℕ) → IsState st → i < sum st.dims → IsIn st.dims st.cap (hop_to st.dims i) x →
    (hop_to st.dims i ≡ length st.dims) ⊎ (is_finished (in_at st i) ≡ false) →
    ((j : ℕ) → p ≡ Some j → CanUnpull (in_written st i x p) j) → IsState (in_written st i x p)
state_in st i x p k q f c cu = record {
  grid = k.grid;
  rank = k.rank;
  cap = k.cap;
  all_outs = k.all_outs;
  all_ins = length-set st.ins i x ∙ k.all_ins;
  each_out = k.each_out;
  each_in = each_set (λ j y. IsIn st.dims st.cap (hop_to st.dims j) y) st.ins i x k.each_in f;
  closed_at_end = λ j d w z.
      let r = hop_to_has st.dims j (omega (arith, w, k.all_outs)) in
      at_end_kept st.dims st.ins st.done i x (hop_to st.dims j) q k.all_ins r.first r.last c (k.closed_at_end j d w z);
  can_unpull = cu;
}

pub in_fact : (st : State) (i : ℕ) → IsState st → i < sum st.dims → IsIn st.dims st.cap (hop_to st.dims i) (in_at st i)
in_fact st i k q = k.each_in i no_in (omega (arith, k.all_ins, q))

pub blank_in : (dims : List ℕ) (cap h : ℕ) (x : In) → x.parcel ≡ blank 0 → IsIn dims cap h x
blank_in dims cap h x e = record {
  fits = omega (arith, ap (λ c. length c.untaken) e);
  fair = λ k d l. absurd (omega (arith, l, ap (λ c. length c.untaken) e));
  back_fair = λ y b. absurd (none_entry y x.parcel.back (ap (λ c. c.back) e) b);
}

-- a link that is wanted hasn't ended, and so isn't finished
pub wanted_open : (x : In) → is_wanted x ≡ true → x.ended ≡ false
wanted_open x w = not_false_is x.ended (and_parts _ _ w).1

pub open_unfinished : (x : In) → x.ended ≡ false → is_finished x ≡ false
open_unfinished x e = ap (λ b. b && is_empty x.parcel) e

pub wanted_empty : (x : In) → is_wanted x ≡ true → is_empty x.parcel ≡ true
wanted_empty x w = (and_parts _ _ w).0

-- the ends of the hops after a write to a link that was open and stays so
pub ends_open : (dims : List ℕ) (ins : List In) (done : Bool) (i : ℕ) (x : In) (h : ℕ) → i < sum dims → length ins ≡ sum dims → 1 ≤ h → h ≤ length dims →
    is_finished (get_or ins i no_in) ≡ false → is_finished x ≡ false → at_end dims (set ins i x) done h ≡ at_end dims ins done h
ends_open dims ins done i x h q l p m a b =
    elim (cases_eq h (hop_to dims i + 1)) as (λ _. at_end dims (set ins i x) done h ≡ at_end dims ins done h) [
      | inl e ↦
          let k = hop_to_has dims i q in
          let n : length (set ins i x) ≡ sum dims = length-set ins i x ∙ l in
          let g : is_finished (get_or (set ins i x) i no_in) ≡ false = ap is_finished (get_or-set_same ins i x no_in (omega (arith, l, q))) ∙ b in
          subst (λ j. at_end dims (set ins i x) done j ≡ at_end dims ins done j) (sym e)
          (at_end-later dims (set ins i x) done (hop_to dims i) k.first ∙ hop_unfinished dims (set ins i x) i q n g
          ∙ sym (at_end-later dims ins done (hop_to dims i) k.first ∙ hop_unfinished dims ins i q l a))
      | inr ne ↦ at_end_other dims ins done i x h q p m ne
    ]

-- a link that the code reads
pub out_here : (st : State) (i : ℕ) (o : Out) → IsState st → i < sum st.dims → o ≡ get_or st.outs i o → o ≡ out_at st i
out_here st i o k q e = e ∙ get_or_default st.outs i o no_out (omega (arith, k.all_outs, q))

pub in_here : (st : State) (i : ℕ) (x : In) → IsState st → i < sum st.dims → x ≡ get_or st.ins i x → x ≡ in_at st i
in_here st i x k q e = e ∙ get_or_default st.ins i x no_in (omega (arith, k.all_ins, q))

abbrev pub out_of : Contents → Bool → Out
out_of p c = record { parcel = p; closed = c }

abbrev pub in_of : Contents → Bool → In
in_of p c = record { parcel = p; ended = c }

-- the marks of the ends after a write to a link of hop h
pub ends_marked : (dims : List ℕ) (ins ins' : List In) (done : Bool) (ends : List Bool) (i : ℕ) (x : In) (b : Bool) → i < sum dims → hop_to dims i < length dims → length dims ≤ length ends →
    ((h : ℕ) (d : Bool) → 2 ≤ h → h ≤ length dims → get_or ends (h - 1) d ≡ at_end dims ins done h) → ins' ≡ set ins i x → b ≡ list_all is_finished (ins_of_hop dims ins' (hop_to dims i)) →
    (h : ℕ) (d : Bool) → 2 ≤ h → h ≤ length dims → get_or (set ends (hop_to dims i) b) (h - 1) d ≡ at_end dims ins' done h
ends_marked dims ins ins' done ends i x b q l n each e eb h d p m =
    let k = hop_to_has dims i q in
    elim (cases_eq h (hop_to dims i + 1)) as (λ _. get_or (set ends (hop_to dims i) b) (h - 1) d ≡ at_end dims ins' done h) [
      | inl s ↦
          let j : h - 1 ≡ hop_to dims i = omega (arith, s) in
          ap (λ z. get_or (set ends (hop_to dims i) b) z d) j ∙ get_or-set_same ends (hop_to dims i) b d (omega (arith, n, l)) ∙ eb
          ∙ sym (at_end-later dims ins' done (hop_to dims i) k.first) ∙ ap (at_end dims ins' done) (sym s)
      | inr ne ↦
          get_or-set_other ends (hop_to dims i) (h - 1) b d (omega (arith, ne, p)) ∙ each h d p m
          ∙ sym (at_end_other dims ins done i x h q (omega arith) m ne) ∙ ap (λ ys. at_end dims ys done h) (sym e)
    ]

-- the links from a certain one on are those of the last hop
pub hop_last : (st : State) (j : ℕ) → IsState st → links_before st.dims (length st.dims) ≤ j → j < sum st.dims → hop_to st.dims j ≡ length st.dims
hop_last st j s a w =
    let k = length st.dims in
    let some : 1 ≤ k = s.grid.some in
    let n : sum st.dims ≡ links_before st.dims k + dim st.dims k = sym (ap sum (take_all k st.dims (omega arith))) ∙ before_more st.dims k some (omega arith) in
    hop_to_is st.dims k j (record { first = some; last = omega arith; from = a; below = omega (arith, n, w) })

-- a link of the last hop is none of another hop
pub not_last : (st : State) (i j from : ℕ) → IsState st → i < sum st.dims → hop_to st.dims i < length st.dims → links_before st.dims (length st.dims) ≤ j → j < sum st.dims → j ≡ i → ⊥
not_last st i j from s q l a w e = absurd (omega (arith, l, hop_last st j s a w, ap (hop_to st.dims) e))

-- the links in of the last hop, which are those from its first one on
pub last_ins : (st : State) → IsState st → ins_of_hop st.dims st.ins (length st.dims) ≡ drop (links_before st.dims (length st.dims)) st.ins
last_ins st s =
    let k = length st.dims in
    let n : sum st.dims ≡ links_before st.dims k + dim st.dims k = sym (ap sum (take_all k st.dims (omega arith))) ∙ before_more st.dims k s.grid.some (omega arith) in
    take_all (dim st.dims k) (drop (links_before st.dims k) st.ins) (omega (arith, length-drop (links_before st.dims k) st.ins, n, s.all_ins))

-- a write to one of another hop, and to one of them
pub ins_before : (st : State) (i : ℕ) (x : In) → IsState st → i < sum st.dims → hop_to st.dims i < length st.dims →
    drop (links_before st.dims (length st.dims)) (set st.ins i x) ≡ drop (links_before st.dims (length st.dims)) st.ins
ins_before st i x s q l = elim (cases_lt i (links_before st.dims (length st.dims))) as (λ _. drop (links_before st.dims (length st.dims)) (set st.ins i x) ≡ drop (links_before st.dims (length st.dims)) st.ins) [
  | inl low ↦ drop-set-lt (links_before st.dims (length st.dims)) st.ins i x low
  | inr high ↦ absurd (omega (arith, l, hop_last st i s high q))
]

pub record LastIn (st : State) (i : ℕ) (x : In) : Type 0 where
  pub j : ℕ
  pub within : j < length (drop (links_before st.dims (length st.dims)) st.ins)
  pub here : get_or (drop (links_before st.dims (length st.dims)) st.ins) j no_in ≡ in_at st i
  pub set_is : drop (links_before st.dims (length st.dims)) (set st.ins i x) ≡ set (drop (links_before st.dims (length st.dims)) st.ins) j x

pub last_in : (st : State) (i : ℕ) (x : In) → IsState st → i < sum st.dims → links_before st.dims (length st.dims) ≤ i → LastIn st i x
last_in st i x s q high =
    let b = links_before st.dims (length st.dims) in
    let e : b + (i - b) ≡ i = omega (arith, high) in
    record {
      j = i - b;
      within = omega (arith, length-drop b st.ins, q, s.all_ins, high);
      here = get_or-drop b st.ins (i - b) no_in ∙ ap (λ m. get_or st.ins m no_in) e;
      set_is = subst (λ m. drop b (set st.ins m x) ≡ set (drop b st.ins) (i - b) x) e (drop-set-add b st.ins (i - b) x);
    }

-- one that has ended or not as before
pub coming_kept : (st : State) (i : ℕ) (x : In) → IsState st → i < sum st.dims → links_before st.dims (length st.dims) ≤ i → x.ended ≡ (in_at st i).ended →
    failing (λ (y : In). y.ended) (drop (links_before st.dims (length st.dims)) (set st.ins i x)) ≡ failing (λ (y : In). y.ended) (drop (links_before st.dims (length st.dims)) st.ins)
coming_kept st i x s q high same =
    let l = last_in st i x s q high in
    ap (failing (λ (y : In). y.ended)) l.set_is
    ∙ as_before (λ (y : In). y.ended) (drop (links_before st.dims (length st.dims)) st.ins) l.j x no_in l.within (same ∙ ap (λ (y : In). y.ended) (sym l.here))

-- one that had not ended, by a parcel that is marked last or not
pub coming_less : (st : State) (i : ℕ) (x : In) (last : Bool) → IsState st → i < sum st.dims → links_before st.dims (length st.dims) ≤ i → (in_at st i).ended ≡ false → x.ended ≡ last →
    failing (λ (y : In). y.ended) (drop (links_before st.dims (length st.dims)) (set st.ins i x)) + from_bool last ≡ failing (λ (y : In). y.ended) (drop (links_before st.dims (length st.dims)) st.ins)
coming_less st i x last s q high was now =
    let l = last_in st i x s q high in
    ap (λ ys. failing (λ (y : In). y.ended) ys + from_bool last) l.set_is
    ∙ passes_if (λ (y : In). y.ended) (drop (links_before st.dims (length st.dims)) st.ins) l.j x no_in last l.within (ap (λ (y : In). y.ended) l.here ∙ was) now

pub some_coming : (st : State) (i : ℕ) → IsState st → i < sum st.dims → links_before st.dims (length st.dims) ≤ i → is_wanted (in_at st i) ≡ true →
    0 < failing (λ (y : In). y.ended) (drop (links_before st.dims (length st.dims)) st.ins)
some_coming st i s q high w =
    let l = last_in st i no_in s q high in
    some_fails (λ (y : In). y.ended) (drop (links_before st.dims (length st.dims)) st.ins) l.j no_in l.within (ap (λ (y : In). y.ended) l.here ∙ wanted_open (in_at st i) w)

pub last_from : (dims : List ℕ) (i : ℕ) → i < sum dims → hop_to dims i ≡ length dims → links_before dims (length dims) ≤ i
last_from dims i q l = subst (λ h. links_before dims h ≤ i) l (hop_to_has dims i q).from
