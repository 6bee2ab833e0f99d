-- What a relay adds to links out and takes from inboxes, step after step.
use Rattle.std.proofs.Common.{ℕ, zero, suc, Bool, cond, ◌==◌, ◌-◌, ne_eqb, ◌≡◌, ◌+◌, ◌<◌, ◌≤◌, false, List, [], ◌∷◌, ◌++◌, length, take, drop, get_or, set, sum, slice_get, Option, Some, arith, refl, sym, ap, subst, ◌∙◌, inl, inr}
use Rattle.std.specs.List.{All}
use Rattle.std.proofs.lemmas.Bool.{cases_eq, cond-false, false≢true}
use Rattle.std.proofs.lemmas.List.{length-set, length-take, length-drop, length_push, take_at, take-take, take_all, drop-drop, get_or-set_same, get_or-set_other, get_or_default, set-get_or}
use Rattle.std.proofs.lemmas.List.Elements.{All-push, All-drop}
use Rattle.std.proofs.lemmas.Option.{slice_get-get_or}
use Rattle.list_laws.specs.Lists.{EachAt}
use Rattle.list_laws.proofs.Lists.{each_set}
use Rattle.bale_items.specs.declared.item.Entry.{Entry}
use Rattle.bale_items.specs.declared.item.Item.{Item}
use Rattle.bale_items.specs.declared.item.Tag.{Tag}
use Rattle.route_tensor.specs.declared.routes.Onward.{Onward}
use Rattle.route_tensor.specs.declared.routes.Neighbour.{Neighbour}
use Rattle.route_tensor.specs.Link.{links_before}
use Rattle.route_tensor.specs.Grid.{ranks, IsGrid}
use Rattle.route_tensor.specs.Neighbour.{hop_to}
use Rattle.route_tensor.specs.Tag.{digit, IsFair}
use Rattle.route_tensor.specs.Routes.{about, passed_on}
use Rattle.hop_core.specs.Link.{Out, In, no_out, with_entry, with_first_taken, read_on}
use Rattle.hop_core.specs.Relay.{PassesOn, AddsToHop, IsStopped}
use Rattle.hop_core.specs.Standing.{IsOut, IsIn}
use Rattle.hop_core.proofs.Passing.{moves, one_moves, passes_none, passes_both}

-- links out to which nothing was added
pub adds_none : (dims : List ℕ) (h : ℕ) (outs : List Out) → AddsToHop dims h outs outs
adds_none dims h outs = record { count = refl; others = λ o ne. refl; closed = λ o. refl; front = λ o. take_all _ _ (omega arith) }

front_both : (a b c : List Entry) → take (length a) b ≡ a → take (length b) c ≡ b → take (length a) c ≡ a
front_both a b c p q =
    let l : length a ≤ length b = omega (arith, ap length p, length-take (length a) b) in
    sym (take-take (length a) (length b) c l) ∙ ap (take (length a)) q ∙ p

pub adds_both : (dims : List ℕ) (h : ℕ) (a b c : List Out) → AddsToHop dims h a b → AddsToHop dims h b c → AddsToHop dims h a c
adds_both dims h a b c p q = record {
  count = q.count ∙ p.count;
  others = λ o ne. q.others o ne ∙ p.others o ne;
  closed = λ o. q.closed o ∙ p.closed o;
  front = λ o. front_both _ _ _ (p.front o) (q.front o);
}

pub adds_one : (dims : List ℕ) (h : ℕ) (outs : List Out) (o : ℕ) (out : Out) (e : Entry) → hop_to dims o ≡ h → o < length outs → out.closed ≡ (get_or outs o no_out).closed →
    out.parcel.untaken ≡ (get_or outs o no_out).parcel.untaken ++ e ∷ [] → AddsToHop dims h outs (set outs o out)
adds_one dims h outs o out e at q c u = record {
  count = length-set outs o out;
  others = λ j ne. get_or-set_other outs o j out no_out (λ z. ne (ap (hop_to dims) z ∙ at));
  closed = λ j. elim (cases_eq j o) as (λ _. (get_or (set outs o out) j no_out).closed ≡ (get_or outs j no_out).closed) [
    | inl z ↦ subst (λ k. (get_or (set outs o out) k no_out).closed ≡ (get_or outs k no_out).closed) (sym z) (ap (λ y. y.closed) (get_or-set_same outs o out no_out q) ∙ c)
    | inr ne ↦ ap (λ y. y.closed) (get_or-set_other outs o j out no_out ne)
  ];
  front = λ j. elim (cases_eq j o) as (λ _. take (length (get_or outs j no_out).parcel.untaken) (get_or (set outs o out) j no_out).parcel.untaken ≡ (get_or outs j no_out).parcel.untaken) [
    | inl z ↦ subst (λ k. take (length (get_or outs k no_out).parcel.untaken) (get_or (set outs o out) k no_out).parcel.untaken ≡ (get_or outs k no_out).parcel.untaken) (sym z)
        (ap (λ y. take (length (get_or outs o no_out).parcel.untaken) y.parcel.untaken) (get_or-set_same outs o out no_out q)
        ∙ ap (take (length (get_or outs o no_out).parcel.untaken)) u ∙ take_at _ _ _ refl)
    | inr ne ↦ ap (λ y. take (length (get_or outs j no_out).parcel.untaken) y.parcel.untaken) (get_or-set_other outs o j out no_out ne) ∙ take_all _ _ (omega arith)
  ];
}

-- a list by its first element
pub by_head : (xs : List Entry) (e : Entry) → slice_get xs 0 ≡ Some e → xs ≡ e ∷ drop 1 xs
by_head [] e h = absurd (cc)
by_head (x ∷ xs) e h = let s : x ≡ e = cc in ap (λ y. y ∷ xs) s

same_some : (e y : Entry) (o : Option Entry) → o ≡ Some e → o ≡ Some y → e ≡ y
same_some e y o p q = cc

first_fair : (dims : List ℕ) (h : ℕ) (xs : List Entry) (e : Entry) → All (λ y. IsFair dims h y.tag) xs → xs ≡ e ∷ drop 1 xs → IsFair dims h e.tag
first_fair dims h [] e k s = absurd (cc)
first_fair dims h (x ∷ xs) e k s = let m : x ≡ e = cc in subst (λ z. IsFair dims h z.tag) m (k 0 x (omega arith))

-- how far the relay of link in number i is, from outs0 and x0
pub record Going (dims : List ℕ) (r cap i : ℕ) (outs0 : List Out) (x0 : In) (outs : List Out) (x : In) (n : ℕ) : Type 0 where
  pub all : length outs ≡ sum dims
  pub each : EachAt (λ o out. IsOut dims cap (hop_to dims o) out) outs
  pub link : IsIn dims cap (hop_to dims i) x
  pub passes : PassesOn dims r (hop_to dims i) i outs0 outs x0 x
  pub adds : AddsToHop dims (hop_to dims i + 1) outs0 outs
  pub rest : x.parcel.untaken ≡ drop n x0.parcel.untaken
  pub count : n + length x.parcel.untaken ≡ length x0.parcel.untaken
  pub ended : x.ended ≡ x0.ended
  pub not_closed : (o : ℕ) → hop_to dims o ≡ hop_to dims i + 1 → 0 < length x0.parcel.untaken → (get_or outs o no_out).closed ≡ false

pub going_start : (dims : List ℕ) (r cap i : ℕ) (outs : List Out) (x : In) → length outs ≡ sum dims → EachAt (λ o out. IsOut dims cap (hop_to dims o) out) outs → IsIn dims cap (hop_to dims i) x →
    ((o : ℕ) → hop_to dims o ≡ hop_to dims i + 1 → 0 < length x.parcel.untaken → (get_or outs o no_out).closed ≡ false) → Going dims r cap i outs x outs x 0
going_start dims r cap i outs x a b c d = record {
  all = a;
  each = b;
  link = c;
  passes = passes_none dims r (hop_to dims i) i outs x;
  adds = adds_none dims (hop_to dims i + 1) outs;
  rest = refl;
  count = omega arith;
  ended = refl;
  not_closed = d;
}

pub out_pushed : (dims : List ℕ) (cap h : ℕ) (out out' : Out) (e : Entry) → IsOut dims cap h out → out' ≡ record out { parcel = with_entry out.parcel e } → length out.parcel.untaken < cap → IsFair dims h e.tag → out.closed ≡ false → IsOut dims cap h out'
out_pushed dims cap h out out' e k s room f c = subst (IsOut dims cap h) (sym s) (record {
  fresh = record { none_taken = k.fresh.none_taken; none_back = k.fresh.none_back };
  fits = omega (arith, length_push out.parcel.untaken e, room);
  fair = All-push (λ x. IsFair dims h x.tag) out.parcel.untaken e k.fair f;
  closed_empty = λ z. absurd (false≢true (sym c ∙ z));
})

pub in_taken : (dims : List ℕ) (cap h : ℕ) (x x' : In) (e : Entry) → IsIn dims cap h x → x' ≡ record x { parcel = with_first_taken x.parcel } → slice_get x.parcel.untaken 0 ≡ Some e → IsFair dims h e.tag → IsIn dims cap h x'
in_taken dims cap h x x' e k s g f = subst (IsIn dims cap h) (sym s) (record {
  fits = omega (arith, length-drop 1 x.parcel.untaken, k.fits);
  fair = All-drop (λ y. IsFair dims h y.tag) 1 x.parcel.untaken k.fair;
  back_fair = λ y b. subst (λ z. IsFair dims h z.tag) (same_some e y (slice_get x.parcel.untaken 0) g b) f;
})

pub head_fair : (dims : List ℕ) (cap h : ℕ) (x : In) (e : Entry) → IsIn dims cap h x → slice_get x.parcel.untaken 0 ≡ Some e → IsFair dims h e.tag
head_fair dims cap h x e k g = first_fair dims h x.parcel.untaken e k.fair (by_head x.parcel.untaken e g)

pub going_more : (dims : List ℕ) (r cap i n : ℕ) (outs0 : List Out) (x0 : In) (outs : List Out) (x : In) (out out' : Out) (x' : In) (e e' : Entry) →
    IsGrid dims → r < ranks dims → i < sum dims → hop_to dims i < length dims → Going dims r cap i outs0 x0 outs x n →
    slice_get x.parcel.untaken 0 ≡ Some e → e'.tag ≡ (passed_on (about dims r i) e.tag).tag → e'.item ≡ e.item →
    out ≡ get_or outs (passed_on (about dims r i) e.tag).out out → out' ≡ record out { parcel = with_entry out.parcel e' } → length out.parcel.untaken < cap →
    x' ≡ record x { parcel = with_first_taken x.parcel } →
    Going dims r cap i outs0 x0 (set outs (passed_on (about dims r i) e.tag).out out') x' (n + 1)
going_more dims r cap i n outs0 x0 outs x out out' x' e e' g a q l k head t it eo eo' room ex' =
    let h = hop_to dims i in
    let o = (passed_on (about dims r i) e.tag).out in
    let f = head_fair dims cap h x e k.link head in
    let m = moves dims r i e g a q l f in
    let inside : o < length outs = subst (λ z. o < z) (sym k.all) m.below in
    let here : out ≡ get_or outs o no_out = eo ∙ get_or_default outs o out no_out inside in
    let xs : x.parcel.untaken ≡ e ∷ drop 1 x.parcel.untaken = by_head x.parcel.untaken e head in
    let left : 0 < length x.parcel.untaken = omega (arith, ap length xs) in
    let some : 0 < length x0.parcel.untaken = omega (arith, k.count, left) in
    let open' : (get_or outs o no_out).closed ≡ false = k.not_closed o m.next_hop some in
    let old : IsOut dims cap (h + 1) out = subst (IsOut dims cap (h + 1)) (sym here) (subst (λ j. IsOut dims cap j (get_or outs o no_out)) m.next_hop (k.each o no_out inside)) in
    let tag : IsFair dims (h + 1) e'.tag = subst (IsFair dims (h + 1)) (sym t) m.fair in
    let new : IsOut dims cap (h + 1) out' = out_pushed dims cap (h + 1) out out' e' old eo' room tag (ap (λ y. y.closed) here ∙ open') in
    let eu : out'.parcel.untaken ≡ (get_or outs o no_out).parcel.untaken ++ e' ∷ [] = ap (λ y. y.parcel.untaken) eo' ∙ ap (λ y. y.parcel.untaken ++ e' ∷ []) here in
    let ec : out'.closed ≡ (get_or outs o no_out).closed = ap (λ y. y.closed) eo' ∙ ap (λ y. y.closed) here in
    let step : AddsToHop dims (h + 1) outs (set outs o out') = adds_one dims (h + 1) outs o out' e' m.next_hop inside ec eu in
    let ux : x'.parcel.untaken ≡ drop 1 x.parcel.untaken = ap (λ y. y.parcel.untaken) ex' in
    record {
      all = length-set outs o out' ∙ k.all;
      each = each_set (λ j y. IsOut dims cap (hop_to dims j) y) outs o out' k.each (subst (λ j. IsOut dims cap j out') (sym m.next_hop) new);
      link = in_taken dims cap h x x' e k.link ex' head f;
      passes = passes_both dims r h i outs0 outs (set outs o out') x0 x x' k.passes
          (one_moves dims r i outs out' x x' e e' (drop 1 x.parcel.untaken) g a q l f t it k.all xs ux eu);
      adds = adds_both dims (h + 1) outs0 outs (set outs o out') k.adds step;
      rest = ux ∙ ap (drop 1) k.rest ∙ drop-drop 1 n x0.parcel.untaken;
      count = omega (arith, ap length ux, length-drop 1 x.parcel.untaken, left, k.count);
      ended = ap (λ y. y.ended) ex' ∙ k.ended;
      not_closed = λ j hj s. step.closed j ∙ k.not_closed j hj s;
    }

-- what else is known of an entry on its way
pub record Goes (dims : List ℕ) (r i : ℕ) (outs : List Out) (e : Entry) : Type 0 where
  pub within : (passed_on (about dims r i) e.tag).out < length outs
  pub fresh : (get_or outs (passed_on (about dims r i) e.tag).out no_out).parcel.taken ≡ 0

pub goes : (dims : List ℕ) (r cap i n : ℕ) (outs0 : List Out) (x0 : In) (outs : List Out) (x : In) (e : Entry) → IsGrid dims → r < ranks dims → i < sum dims → hop_to dims i < length dims →
    Going dims r cap i outs0 x0 outs x n → slice_get x.parcel.untaken 0 ≡ Some e → Goes dims r i outs e
goes dims r cap i n outs0 x0 outs x e g a q l k head =
    let m = moves dims r i e g a q l (head_fair dims cap (hop_to dims i) x e k.link head) in
    let inside : (passed_on (about dims r i) e.tag).out < length outs = subst (λ z. (passed_on (about dims r i) e.tag).out < z) (sym k.all) m.below in
    record { within = inside; fresh = (k.each _ no_out inside).fresh.none_taken }

abbrev pub entry : Tag → Item → Entry
entry t a = record { tag = t; item = a }

-- the same for the step that the code takes
pub step_within : (dims : List ℕ) (r cap i n : ℕ) (outs0 : List Out) (x0 : In) (outs : List Out) (x : In) (e : Entry) (step : Onward) → IsGrid dims → r < ranks dims → i < sum dims → hop_to dims i < length dims →
    Going dims r cap i outs0 x0 outs x n → slice_get x.parcel.untaken 0 ≡ Some e → step ≡ passed_on (about dims r i) e.tag → (step.out < length outs) × ((out : Out) → out ≡ get_or outs step.out out → out.parcel.taken ≡ 0)
step_within dims r cap i n outs0 x0 outs x e step g a q l k head se =
    let f = goes dims r cap i n outs0 x0 outs x e g a q l k head in
    let w : step.out < length outs = subst (λ z. z.out < length outs) (sym se) f.within in
    (w, λ out eo. ap (λ y. y.parcel.taken) (eo ∙ get_or_default outs step.out out no_out w) ∙ ap (λ z. (get_or outs z.out no_out).parcel.taken) se ∙ f.fresh)

pub step_more : (dims : List ℕ) (r cap i n : ℕ) (outs0 : List Out) (x0 : In) (outs : List Out) (x : In) (out out' : Out) (x' : In) (e : Entry) (step : Onward) →
    IsGrid dims → r < ranks dims → i < sum dims → hop_to dims i < length dims → Going dims r cap i outs0 x0 outs x n →
    slice_get x.parcel.untaken 0 ≡ Some e → step ≡ passed_on (about dims r i) e.tag →
    out ≡ get_or outs step.out out → out' ≡ record out { parcel = with_entry out.parcel (entry step.tag e.item) } → length out.parcel.untaken < cap →
    x' ≡ record x { parcel = with_first_taken x.parcel } →
    Going dims r cap i outs0 x0 (set outs step.out out') x' (n + 1)
step_more dims r cap i n outs0 x0 outs x out out' x' e step g a q l k head se eo eo' room ex' =
    subst (λ (z : Onward). Going dims r cap i outs0 x0 (set outs z.out out') x' (n + 1)) (sym se)
    (going_more dims r cap i n outs0 x0 outs x out out' x' e (entry step.tag e.item) g a q l k head (ap (λ (z : Onward). z.tag) se) refl
    (subst (λ (z : Onward). out ≡ get_or outs z.out out) se eo) eo' room ex')

-- a write of what stands there
pub same_outs : (outs : List Out) (o : ℕ) (out out' : Out) → out ≡ get_or outs o out → out' ≡ out → set outs o out' ≡ outs
same_outs outs o out out' e s = ap (set outs o) (s ∙ e) ∙ set-get_or outs o out

-- where the first entry goes, if its open parcel is full
pub step_stopped : (dims : List ℕ) (r cap i : ℕ) (outs : List Out) (x : In) (out : Out) (e : Entry) (step : Onward) → step.out < length outs → slice_get x.parcel.untaken 0 ≡ Some e →
    step ≡ passed_on (about dims r i) e.tag → out ≡ get_or outs step.out out → length out.parcel.untaken ≡ cap → IsStopped dims cap (hop_to dims i) outs x
step_stopped dims r cap i outs x out e step w head se eo full = λ y hy.
    let s : e ≡ y = same_some e y (slice_get x.parcel.untaken 0) head hy in
    let here : length (get_or outs step.out no_out).parcel.untaken ≡ cap = ap (λ z. length z.parcel.untaken) (sym (eo ∙ get_or_default outs step.out out no_out w)) ∙ full in
    subst (λ z. length (get_or outs (links_before dims (hop_to dims i + 1) + digit z.tag (hop_to dims i + 1)) no_out).parcel.untaken ≡ cap) s
    (subst (λ (z : Onward). length (get_or outs z.out no_out).parcel.untaken ≡ cap) se here)

-- what stands for an entry past the end
abbrev pub no_entry : Entry
no_entry = record { tag = record { d1 = 0; d2 = 0; d3 = 0 }; item = record { a = 0; b = 0; c = 0 } }

same_in : (u v : List Entry) (b c : Option Entry) (s t e : ℕ) (l d : Bool) → u ≡ v → b ≡ c → s ≡ t
    → ◌≡◌ {A = In} (record { parcel = record { untaken = u; last = l; epoch = e; back = b; taken = s }; ended = d }) (record { parcel = record { untaken = v; last = l; epoch = e; back = c; taken = t }; ended = d })
same_in u v b c s t e l d p q r = cc

-- the first of what is left after n entries stands at n
next_at : (n : ℕ) (xs : List Entry) → slice_get (drop n xs) 0 ≡ slice_get xs n
next_at zero [] = refl
next_at (suc n) [] = refl
next_at zero (y ∷ xs) = refl
next_at (suc n) (y ∷ xs) = next_at n xs

back_more : (n : ℕ) (b : Option Entry) (xs : List Entry) → cond (n + 1 == 0) b (slice_get xs (n + 1 - 1)) ≡ slice_get (drop n xs) 0
back_more n b xs =
    let e : n + 1 - 1 ≡ n = omega arith in
    cond-false _ _ _ (ne_eqb (n + 1) 0 (λ z. absurd (omega (arith, z)))) ∙ (ap (slice_get xs) e ∙ sym (next_at n xs))

-- one entry more is taken
pub read_more : (n : ℕ) (x : In) → read_on (n + 1) x ≡ record (read_on n x) { parcel = with_first_taken (read_on n x).parcel }
read_more n x = same_in _ _ _ _ _ _ _ _ _ (sym (drop-drop 1 n x.parcel.untaken)) (back_more n x.parcel.back x.parcel.untaken) (let e : x.parcel.taken + (n + 1) ≡ x.parcel.taken + n + 1 = omega arith in e)

-- none is
pub read_none : (x : In) → read_on 0 x ≡ x
read_none x = let e : x.parcel.taken + 0 ≡ x.parcel.taken = omega arith in same_in _ _ _ _ _ _ _ _ _ refl refl e

-- the next one
pub read_head : (n : ℕ) (x : In) (e : Entry) → slice_get x.parcel.untaken n ≡ Some e → slice_get (read_on n x).parcel.untaken 0 ≡ Some e
read_head n x e h = next_at n x.parcel.untaken ∙ h

-- the next entry, as the loop reads it
pub read_next : (xs : List Entry) (n : ℕ) (x : In) → xs ≡ x.parcel.untaken → n < length xs → slice_get (read_on n x).parcel.untaken 0 ≡ Some (get_or xs n no_entry)
read_next xs n x e h = read_head n x (get_or xs n no_entry) (ap (λ ys. slice_get ys n) (sym e) ∙ slice_get-get_or xs n no_entry h)

-- the step of a neighbour that stands in the table
pub by_table : (step : Onward) (n m : Neighbour) (tag : Tag) → step ≡ passed_on n tag → n ≡ m → step ≡ passed_on m tag
by_table step n m tag e f = e ∙ ap (λ k. passed_on k tag) f
