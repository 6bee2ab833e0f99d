-- What a whole hop's relay leaves: how much waits, which links are finished, which pairs went on.
use Rattle.std.proofs.Common.{ℕ, zero, suc, ◌≡◌, ◌≢◌, ◌+◌, ◌-◌, ◌*◌, ◌<◌, ◌≤◌, Bool, true, false, List, [], ◌∷◌, length, take, drop, get_or, set, sum, None, arith, refl, sym, ap, subst, ◌∙◌, inl, inr}
use Rattle.std.specs.List.{list_all}
use Rattle.item_buffer.specs.declared.capacity.TheConstants.{MOST_ENTRIES}
use Rattle.std.proofs.lemmas.Bool.{cases_eq, cases_lt, false≢true, false_from_ne_true, and_parts, and_from, eqb-true, eq-eqb}
use Rattle.std.proofs.lemmas.List.{length-set, length-take, length-drop, drop_all, get_or-set_same, get_or-set_other, get_or_default, get_or_past, get_or-take, get_or-drop, same_lists, nil_from_length}
use Rattle.std.proofs.lemmas.List.Sums.{sum_by-cons}
use Rattle.std.proofs.lemmas.Nat.{mul-le}
use Rattle.std.proofs.Math.Nat.{suc-mul}
use Rattle.list_laws.specs.Lists.{EachAt}
use Rattle.route_tensor.specs.Grid.{dim}
use Rattle.route_tensor.specs.Link.{links_before}
use Rattle.route_tensor.specs.Neighbour.{hop_to}
use Rattle.route_tensor.proofs.Links.{before_more}
use Rattle.route_tensor.proofs.Neighbours.{hop_to_is, hop_to_has}
use Rattle.hop_core.specs.Link.{Out, In, no_out, no_in, is_empty, is_finished}
use Rattle.hop_core.specs.State.{State, out_at, ins_of_hop, at_end}
use Rattle.hop_core.specs.Relay.{AddsToHop, TakesFromHop, IsStopped, waiting}
use Rattle.hop_core.specs.Standing.{IsOut, IsIn, IsState, IsKept}
use Rattle.hop_core.proofs.Marks.{at_end-first, at_end-later, zero_stays}
use Rattle.hop_core.proofs.Counts.{same_fail}
use Rattle.hop_core.proofs.Standing.{none_some, hop_last}
use Rattle.hop_core.proofs.Relaying.{Relaying}

-- how much waits at most
waiting_most : (c : ℕ) (ins : List In) → ((k : ℕ) (d : In) → k < length ins → length (get_or ins k d).parcel.untaken ≤ c) → waiting ins ≤ length ins * c
waiting_most c [] f = omega arith
waiting_most c (x ∷ xs) f =
    let rest = waiting_most c xs (λ k d q. f (suc k) d (omega (arith, q))) in
    omega (arith, sum_by-cons (λ (y : In). length y.parcel.untaken) x xs, f 0 no_in (omega arith), rest, suc-mul (length xs) c)

pub waiting_small : (dims : List ℕ) (cap : ℕ) (ins : List In) → cap ≤ MOST_ENTRIES → length ins ≡ sum dims → sum dims ≤ 66 → EachAt (λ j x. IsIn dims cap (hop_to dims j) x) ins → waiting ins ≤ 66 * MOST_ENTRIES
waiting_small dims cap ins c n s e = omega (arith, waiting_most cap ins (λ k d q. (e k d q).fits), mul-le (length ins) cap 66 MOST_ENTRIES (omega (arith, n, s)) c)

-- the links of a hop, by number
pub in_hop : (dims : List ℕ) (h i : ℕ) → 1 ≤ h → h ≤ length dims → links_before dims h ≤ i → i < links_before dims (h + 1) → hop_to dims i ≡ h
in_hop dims h i p l a b =
    let e : h + 1 - 1 ≡ h = omega arith in
    let n : links_before dims (h + 1) ≡ links_before dims h + dim dims h = ap (λ j. sum (take j dims)) e ∙ before_more dims h p l in
    hop_to_is dims h i (record { first = p; last = l; from = a; below = omega (arith, b, n) })

pub in_hop_below : (dims : List ℕ) (h i : ℕ) → 1 ≤ h → h ≤ length dims → i < sum dims → hop_to dims i ≡ h → (links_before dims h ≤ i) × (i < links_before dims (h + 1))
in_hop_below dims h i p l q hi =
    let e : h + 1 - 1 ≡ h = omega arith in
    let n : links_before dims (h + 1) ≡ links_before dims h + dim dims h = ap (λ j. sum (take j dims)) e ∙ before_more dims h p l in
    let k = hop_to_has dims i q in
    let a : links_before dims h ≤ i = subst (λ j. links_before dims j ≤ i) hi k.from in
    let b : i < links_before dims h + dim dims h = subst (λ j. i < links_before dims j + dim dims j) hi k.below in
    (a, omega (arith, b, n))

-- a finished link stays so
finished_kept : (dims : List ℕ) (h : ℕ) (ins ins' : List In) → TakesFromHop dims h ins ins' → (j : ℕ) → is_finished (get_or ins j no_in) ≡ true → is_finished (get_or ins' j no_in) ≡ true
finished_kept dims h ins ins' t j f =
    let a = (get_or ins j no_in).parcel.untaken in
    let b = (get_or ins' j no_in).parcel.untaken in
    let p = and_parts _ _ f in
    let e : a ≡ [] = nil_from_length a (eqb-true _ 0 p.1) in
    let z : b ≡ [] = sym (t.rest j) ∙ ap (drop (length a - length b)) e ∙ drop_all (length a - length b) [] (omega arith) in
    and_from _ _ (t.ended j ∙ p.0) (eq-eqb _ 0 (ap length z))

all_at : {X : Type 0} (test : X → Bool) (xs : List X) (j : ℕ) (d : X) → j < length xs → list_all test xs ≡ true → test (get_or xs j d) ≡ true
all_at test [] j d l t = absurd (omega (arith, l))
all_at test (x ∷ xs) zero d l t = (and_parts _ _ t).0
all_at test (x ∷ xs) (suc j) d l t = all_at test xs j d (omega (arith, l)) (and_parts _ _ t).1

all_from : {X : Type 0} (test : X → Bool) (xs : List X) (d : X) → ((j : ℕ) → j < length xs → test (get_or xs j d) ≡ true) → list_all test xs ≡ true
all_from test [] d f = refl
all_from test (x ∷ xs) d f = and_from _ _ (f 0 (omega arith)) (all_from test xs d (λ j l. f (suc j) (omega (arith, l))))

hop_at_place : (dims : List ℕ) (ins : List In) (h m : ℕ) → m < length (ins_of_hop dims ins h) → get_or (ins_of_hop dims ins h) m no_in ≡ get_or ins (links_before dims h + m) no_in
hop_at_place dims ins h m q =
    get_or-take (dim dims h) (drop (links_before dims h) ins) m no_in (omega (arith, q, length-take (dim dims h) (drop (links_before dims h) ins))) ∙ get_or-drop (links_before dims h) ins m no_in

hop_count : (dims : List ℕ) (ins ins' : List In) (h : ℕ) → length ins' ≡ length ins → length (ins_of_hop dims ins' h) ≡ length (ins_of_hop dims ins h)
hop_count dims ins ins' h n =
    let d : length (drop (links_before dims h) ins') ≡ length (drop (links_before dims h) ins) = omega (arith, length-drop (links_before dims h) ins', length-drop (links_before dims h) ins, n) in
    omega (arith, length-take (dim dims h) (drop (links_before dims h) ins'), length-take (dim dims h) (drop (links_before dims h) ins), d)

hop_finished_kept : (dims : List ℕ) (h : ℕ) (ins ins' : List In) (j : ℕ) → TakesFromHop dims h ins ins' → list_all is_finished (ins_of_hop dims ins j) ≡ true → list_all is_finished (ins_of_hop dims ins' j) ≡ true
hop_finished_kept dims h ins ins' j t f =
    all_from is_finished (ins_of_hop dims ins' j) no_in (λ m l.
    let l' : m < length (ins_of_hop dims ins j) = omega (arith, l, hop_count dims ins ins' j t.count) in
    let a = all_at is_finished (ins_of_hop dims ins j) m no_in l' f in
    ap is_finished (hop_at_place dims ins' j m l) ∙ finished_kept dims h ins ins' t (links_before dims j + m) (ap is_finished (sym (hop_at_place dims ins j m l')) ∙ a))

at_end_stays : (dims : List ℕ) (h : ℕ) (ins ins' : List In) (done : Bool) (j : ℕ) → TakesFromHop dims h ins ins' → at_end dims ins done j ≡ true → at_end dims ins' done j ≡ true
at_end_stays dims h ins ins' done zero t f = zero_stays dims ins ins' done (λ g. hop_finished_kept dims h ins ins' (zero - 1) t g) f
at_end_stays dims h ins ins' done (suc zero) t f = at_end-first dims ins' done ∙ sym (at_end-first dims ins done) ∙ f
at_end_stays dims h ins ins' done (suc (suc j)) t f =
    let e : suc (suc j) ≡ suc j + 1 = omega arith in
    let l : 1 ≤ suc j = omega arith in
    ap (at_end dims ins' done) e ∙ at_end-later dims ins' done (suc j) l
    ∙ hop_finished_kept dims h ins ins' (suc j) t (sym (ap (at_end dims ins done) e ∙ at_end-later dims ins done (suc j) l) ∙ f)

-- the links of another hop
hop_same : (dims : List ℕ) (h : ℕ) (ins ins' : List In) (j : ℕ) → TakesFromHop dims h ins ins' → length ins ≡ sum dims → 1 ≤ j → j ≤ length dims → j ≢ h → ins_of_hop dims ins' j ≡ ins_of_hop dims ins j
hop_same dims h ins ins' j t n p l ne =
    same_lists (ins_of_hop dims ins' j) (ins_of_hop dims ins j) (hop_count dims ins ins' j t.count) (λ m d q.
    let q' : m < length (ins_of_hop dims ins j) = omega (arith, q, hop_count dims ins ins' j t.count) in
    let low : m < dim dims j = omega (arith, q, length-take (dim dims j) (drop (links_before dims j) ins')) in
    let hop : hop_to dims (links_before dims j + m) ≡ j = hop_to_is dims j (links_before dims j + m) (record { first = p; last = l; from = omega arith; below = omega (arith, low) }) in
    get_or_default (ins_of_hop dims ins' j) m d no_in q ∙ hop_at_place dims ins' j m q
    ∙ t.others (links_before dims j + m) (λ z. ne (sym hop ∙ z))
    ∙ sym (get_or_default (ins_of_hop dims ins j) m d no_in q' ∙ hop_at_place dims ins j m q'))

end_same : (dims : List ℕ) (h : ℕ) (ins ins' : List In) (done : Bool) (j : ℕ) → TakesFromHop dims h ins ins' → length ins ≡ sum dims → 2 ≤ j → j ≤ length dims → j ≢ h + 1 → at_end dims ins done j ≡ at_end dims ins' done j
end_same dims h ins ins' done zero t n c m ne = absurd (omega (arith, c))
end_same dims h ins ins' done (suc j) t n c m ne =
    let e : suc j ≡ j + 1 = omega arith in
    let one : 1 ≤ j = omega arith in
    ap (at_end dims ins done) e ∙ at_end-later dims ins done j one
    ∙ ap (list_all is_finished) (sym (hop_same dims h ins ins' j t n one (omega (arith, m)) (omega (arith, ne))))
    ∙ sym (ap (at_end dims ins' done) e ∙ at_end-later dims ins' done j one)

-- the marks after a relay
pub relay_kept : (st : State) (ends : List Bool) (from count coming h : ℕ) (outs' : List Out) (ins' : List In) (b : Bool) → IsKept st ends from count coming → 1 ≤ h → h < length st.dims →
    EachAt (λ o out. IsOut st.dims st.cap (hop_to st.dims o) out) outs' → EachAt (λ j x. IsIn st.dims st.cap (hop_to st.dims j) x) ins' → AddsToHop st.dims (h + 1) st.outs outs' → TakesFromHop st.dims h st.ins ins' →
    b ≡ list_all is_finished (ins_of_hop st.dims ins' h) → IsKept (record st { outs = outs'; ins = ins'; pulled = None }) (set ends h b) from count coming
relay_kept st ends from count coming h outs' ins' b k p l eo ei a t eb =
    let s = k.standing in
    let b' = links_before st.dims (length st.dims) in
    let no : length outs' ≡ sum st.dims = a.count ∙ s.all_outs in
    let ni : length ins' ≡ sum st.dims = t.count ∙ s.all_ins in
    record {
      standing = record {
        grid = s.grid;
        rank = s.rank;
        cap = s.cap;
        all_outs = no;
        all_ins = ni;
        each_out = eo;
        each_in = ei;
        closed_at_end = λ o d w c.
            let o' : o < length st.outs = omega (arith, w, a.count) in
            let old : (get_or st.outs o no_out).closed ≡ true = sym (a.closed o) ∙ ap (λ y. y.closed) (get_or_default outs' o no_out d w) ∙ c in
            at_end_stays st.dims h st.ins ins' st.done (hop_to st.dims o) t (s.closed_at_end o no_out o' old);
        can_unpull = λ j z. absurd (none_some j None refl z);
      };
      ends_all = length-set ends h b ∙ k.ends_all;
      ends_each = λ j d c m. elim (cases_eq j (h + 1)) as (λ _. get_or (set ends h b) (j - 1) d ≡ at_end st.dims ins' st.done j) [
        | inl e ↦
            let i : j - 1 ≡ h = omega (arith, e) in
            ap (λ z. get_or (set ends h b) z d) i ∙ get_or-set_same ends h b d (omega (arith, l, k.ends_all, s.grid.few)) ∙ eb ∙ sym (at_end-later st.dims ins' st.done h p) ∙ ap (at_end st.dims ins' st.done) (sym e)
        | inr ne ↦
            get_or-set_other ends h (j - 1) b d (omega (arith, ne, c)) ∙ k.ends_each j d c m ∙ end_same st.dims h st.ins ins' st.done j t s.all_ins c m ne
      ];
      from_low = k.from_low;
      from_high = k.from_high;
      open_is = k.open_is ∙ sym (same_fail (λ (y : Out). y.closed) outs' st.outs no_out a.count a.closed);
      coming_is = k.coming_is ∙ sym (same_fail (λ (y : In). y.ended) (drop b' ins') (drop b' st.ins) no_in (omega (arith, length-drop b' ins', length-drop b' st.ins, t.count)) (λ j. ap (λ (y : In). y.ended) (get_or-drop b' ins' j no_in) ∙ t.ended (b' + j) ∙ sym (ap (λ (y : In). y.ended) (get_or-drop b' st.ins j no_in))));
      from_none = λ j c w.
          let last : hop_to st.dims j ≡ length st.dims = hop_last st j s c (omega (arith, w, k.from_high)) in
          ap (λ y. is_empty y.parcel) (t.others j (omega (arith, last, l))) ∙ k.from_none j c w;
    }

-- before it
pub relay_open : (st : State) (h : ℕ) → IsState st → 1 ≤ h → (o : ℕ) → hop_to st.dims o ≡ h + 1 → list_all is_finished (ins_of_hop st.dims st.ins h) ≡ false → (out_at st o).closed ≡ false
relay_open st h s p o ho f =
    elim (cases_lt o (length st.outs)) as (λ _. (out_at st o).closed ≡ false) [
      | inl q ↦ false_from_ne_true _ (λ c. false≢true (sym f ∙ sym (at_end-later st.dims st.ins st.done h p) ∙ ap (at_end st.dims st.ins st.done) (sym ho) ∙ s.closed_at_end o no_out q c))
      | inr q ↦ ap (λ y. y.closed) (get_or_past st.outs o no_out q)
    ]

-- every link has had its turn
pub all_stopped : (dims : List ℕ) (r cap h i n : ℕ) (outs0 : List Out) (ins0 : List In) (outs : List Out) (ins : List In) → 1 ≤ h → h ≤ length dims → links_before dims (h + 1) ≤ i → Relaying dims r cap h i outs0 ins0 outs ins n →
    (j : ℕ) → j < sum dims → hop_to dims j ≡ h → IsStopped dims cap h outs (get_or ins j no_in)
all_stopped dims r cap h i n outs0 ins0 outs ins p l e k j q hj =
    let w = in_hop_below dims h j p l q hj in
    k.stopped j w.0 (omega (arith, w.1, e))
