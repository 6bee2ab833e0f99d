-- A relay passes entries on in turn: link in after link in, and of each link entry after entry.
use Rattle.std.proofs.Common.{ℕ, suc, ◌≡◌, ◌+◌, ◌-◌, ◌<◌, ◌≤◌, true, false, List, [], ◌∷◌, length, take, drop, sum, get_or, set, slice_get, Some, arith, refl, sym, ap, subst, ◌∙◌, ne_eqb, eq-eqb}
use Rattle.std.proofs.lemmas.Bool.{cond-true, cond-false}
use Rattle.std.proofs.lemmas.List.{drop_all, drop-drop, get_or_default}
use Rattle.bale_items.specs.declared.item.Entry.{Entry}
use Rattle.route_tensor.specs.declared.routes.Onward.{Onward}
use Rattle.route_tensor.specs.Grid.{dim}
use Rattle.route_tensor.specs.Link.{links_before}
use Rattle.route_tensor.specs.Routes.{about, passed_on}
use Rattle.route_tensor.proofs.Links.{before_more}
use Rattle.hop_core.specs.Link.{Out, In, no_out, no_in, with_entry, read_on}
use Rattle.hop_core.specs.Relay.{next_out, next_entry, finds_full, with_passed, outs_after_relay, passed_count, after_relay, relayed_hop}
use Rattle.hop_core.proofs.Going.{by_head, entry}

-- how far the entries es of link in number i are passed on: n of them
pub record Passing (dims : List ℕ) (r cap i : ℕ) (outs0 : List Out) (es : List Entry) (outs : List Out) (n : ℕ) : Type 0 where
  pub to_come : outs_after_relay dims r cap i outs0 es ≡ outs_after_relay dims r cap i outs (drop n es)
  pub counted : passed_count dims r cap i outs0 es ≡ n + passed_count dims r cap i outs (drop n es)

pub passing_start : (dims : List ℕ) (r cap i : ℕ) (outs : List Out) (es : List Entry) → Passing dims r cap i outs es outs 0
passing_start dims r cap i outs es = record { to_come = refl; counted = omega arith }

cut : (n : ℕ) (es : List Entry) (e : Entry) → slice_get (drop n es) 0 ≡ Some e → drop n es ≡ e ∷ drop (n + 1) es
cut n es e head = by_head (drop n es) e head ∙ ap (λ ys. e ∷ ys) (drop-drop 1 n es)

-- the next entry finds room
one_more : (dims : List ℕ) (r cap i n : ℕ) (outs0 : List Out) (es : List Entry) (outs : List Out) (out' : Out) (e : Entry) →
    Passing dims r cap i outs0 es outs n → slice_get (drop n es) 0 ≡ Some e →
    out' ≡ record (get_or outs (next_out dims r i e) no_out) { parcel = with_entry (get_or outs (next_out dims r i e) no_out).parcel (next_entry dims r i e) } →
    length (get_or outs (next_out dims r i e) no_out).parcel.untaken < cap →
    Passing dims r cap i outs0 es (set outs (next_out dims r i e) out') (n + 1)
unfolding outs_after_relay passed_count
one_more dims r cap i n outs0 es outs out' e k head eo room =
    let open' : finds_full dims r cap i outs e ≡ false = ne_eqb (length (get_or outs (next_out dims r i e) no_out).parcel.untaken) cap (λ z. absurd (omega (arith, z, room))) in
    let rest : List Entry = drop (n + 1) es in
    let there : with_passed dims r i outs e ≡ set outs (next_out dims r i e) out' = ap (set outs (next_out dims r i e)) (sym eo) in
    let counts : passed_count dims r cap i outs (drop n es) ≡ suc (passed_count dims r cap i (set outs (next_out dims r i e) out') rest) =
    ap (passed_count dims r cap i outs) (cut n es e head) ∙ cond-false _ _ _ open' ∙ ap (λ os. suc (passed_count dims r cap i os rest)) there in
    record {
      to_come = k.to_come ∙ ap (outs_after_relay dims r cap i outs) (cut n es e head) ∙ cond-false _ _ _ open' ∙ ap (λ os. outs_after_relay dims r cap i os rest) there;
      counted = let c = k.counted in omega arith;
    }

-- the same for the step that the code takes
pub passing_more : (dims : List ℕ) (r cap i n : ℕ) (outs0 : List Out) (es : List Entry) (outs : List Out) (out out' : Out) (e : Entry) (step : Onward) →
    Passing dims r cap i outs0 es outs n → slice_get (drop n es) 0 ≡ Some e → step ≡ passed_on (about dims r i) e.tag → step.out < length outs →
    out ≡ get_or outs step.out out → out' ≡ record out { parcel = with_entry out.parcel (entry step.tag e.item) } → length out.parcel.untaken < cap →
    Passing dims r cap i outs0 es (set outs step.out out') (n + 1)
passing_more dims r cap i n outs0 es outs out out' e step k head se w eo eo' room =
    let here : out ≡ get_or outs step.out no_out = eo ∙ get_or_default outs step.out out no_out w in
    let made : out' ≡ record (get_or outs step.out no_out) { parcel = with_entry (get_or outs step.out no_out).parcel (entry step.tag e.item) } =
    eo' ∙ ap (λ (o : Out). record o { parcel = with_entry o.parcel (entry step.tag e.item) }) here in
    let some : length (get_or outs step.out no_out).parcel.untaken < cap = subst (λ (o : Out). length o.parcel.untaken < cap) here room in
    subst (λ (z : Onward). Passing dims r cap i outs0 es (set outs z.out out') (n + 1)) (sym se)
    (one_more dims r cap i n outs0 es outs out' e k head
    (subst (λ (z : Onward). out' ≡ record (get_or outs z.out no_out) { parcel = with_entry (get_or outs z.out no_out).parcel (entry z.tag e.item) }) se made)
    (subst (λ (z : Onward). length (get_or outs z.out no_out).parcel.untaken < cap) se some))

-- all are passed on, or the next one finds its open parcel full
pub record AllPassed (dims : List ℕ) (r cap i : ℕ) (outs0 : List Out) (es : List Entry) (outs : List Out) (n : ℕ) : Type 0 where
  pub outs_are : outs ≡ outs_after_relay dims r cap i outs0 es
  pub passes_are : n ≡ passed_count dims r cap i outs0 es

pub passing_end : (dims : List ℕ) (r cap i n : ℕ) (outs0 : List Out) (es : List Entry) (outs : List Out) → Passing dims r cap i outs0 es outs n → length es ≤ n → AllPassed dims r cap i outs0 es outs n
unfolding outs_after_relay passed_count
passing_end dims r cap i n outs0 es outs k all =
    let none : drop n es ≡ [] = drop_all n es all in
    let zero' : passed_count dims r cap i outs (drop n es) ≡ 0 = ap (passed_count dims r cap i outs) none in
    record {
      outs_are = sym (k.to_come ∙ ap (outs_after_relay dims r cap i outs) none);
      passes_are = let c = k.counted in omega arith;
    }

full_here : (dims : List ℕ) (r cap i n : ℕ) (outs0 : List Out) (es : List Entry) (outs : List Out) (e : Entry) → Passing dims r cap i outs0 es outs n → slice_get (drop n es) 0 ≡ Some e →
    length (get_or outs (next_out dims r i e) no_out).parcel.untaken ≡ cap → AllPassed dims r cap i outs0 es outs n
unfolding outs_after_relay passed_count
full_here dims r cap i n outs0 es outs e k head full =
    let is : finds_full dims r cap i outs e ≡ true = eq-eqb _ _ full in
    let zero' : passed_count dims r cap i outs (drop n es) ≡ 0 = ap (passed_count dims r cap i outs) (cut n es e head) ∙ cond-true _ _ _ is in
    record {
      outs_are = sym (k.to_come ∙ ap (outs_after_relay dims r cap i outs) (cut n es e head) ∙ cond-true _ _ _ is);
      passes_are = let c = k.counted in omega arith;
    }

pub passing_full : (dims : List ℕ) (r cap i n : ℕ) (outs0 : List Out) (es : List Entry) (outs : List Out) (out : Out) (e : Entry) (step : Onward) → Passing dims r cap i outs0 es outs n →
    slice_get (drop n es) 0 ≡ Some e → step ≡ passed_on (about dims r i) e.tag → step.out < length outs → out ≡ get_or outs step.out out → length out.parcel.untaken ≡ cap → AllPassed dims r cap i outs0 es outs n
passing_full dims r cap i n outs0 es outs out e step k head se w eo full =
    let here : length (get_or outs step.out no_out).parcel.untaken ≡ cap = ap (λ (o : Out). length o.parcel.untaken) (sym (eo ∙ get_or_default outs step.out out no_out w)) ∙ full in
    full_here dims r cap i n outs0 es outs e k head (subst (λ (z : Onward). length (get_or outs z.out no_out).parcel.untaken ≡ cap) se here)

-- where the links of a hop end
hop_end : (dims : List ℕ) (h : ℕ) → 1 ≤ h → h ≤ length dims → links_before dims (h + 1) ≡ links_before dims h + dim dims h
hop_end dims h p l = let e : h + 1 - 1 ≡ h = omega arith in ap (λ j. sum (take j dims)) e ∙ before_more dims h p l

pub in_hop_end : (dims : List ℕ) (h i : ℕ) → 1 ≤ h → h ≤ length dims → i < links_before dims (h + 1) → i < links_before dims h + dim dims h
in_hop_end dims h i p l b = omega (arith, b, hop_end dims h p l)

pub hop_end_past : (dims : List ℕ) (h i : ℕ) → 1 ≤ h → h ≤ length dims → links_before dims (h + 1) ≤ i → links_before dims h + dim dims h ≤ i
hop_end_past dims h i p l b = omega (arith, b, hop_end dims h p l)

-- how far the links of a hop have had their turns: those below number i
abbrev pub InTurn : List ℕ → ℕ → ℕ → ℕ → ℕ → List Out → List In → List Out → List In → Type 0
InTurn dims r cap h i outs0 ins0 outs ins =
    relayed_hop dims r cap h (record { outs = outs0; ins = ins0 }) ≡ after_relay dims r cap (links_before dims h + dim dims h - i) i (record { outs = outs; ins = ins })

pub in_turn_start : (dims : List ℕ) (r cap h : ℕ) (outs : List Out) (ins : List In) → InTurn dims r cap h (links_before dims h) outs ins outs ins
in_turn_start dims r cap h outs ins = let e : links_before dims h + dim dims h - links_before dims h ≡ dim dims h = omega arith in
    ap (λ n. after_relay dims r cap n (links_before dims h) (record { outs = outs; ins = ins })) (sym e)

pub in_turn_more : (dims : List ℕ) (r cap h i : ℕ) (outs0 : List Out) (ins0 : List In) (outs : List Out) (ins : List In) (outs' : List Out) (x x' : In) → InTurn dims r cap h i outs0 ins0 outs ins →
    i < links_before dims h + dim dims h → i < length ins → x ≡ get_or ins i x → outs' ≡ outs_after_relay dims r cap i outs x.parcel.untaken → x' ≡ read_on (passed_count dims r cap i outs x.parcel.untaken) x →
    InTurn dims r cap h (i + 1) outs0 ins0 outs' (set ins i x')
unfolding outs_after_relay after_relay
in_turn_more dims r cap h i outs0 ins0 outs ins outs' x x' k below inside read po px =
    let most : ℕ = links_before dims h + dim dims h in
    let e : most - i ≡ suc (most - (i + 1)) = omega (arith, below) in
    let one : suc i ≡ i + 1 = omega arith in
    let here : x ≡ get_or ins i no_in = read ∙ get_or_default ins i x no_in inside in
    let o' : outs_after_relay dims r cap i outs (get_or ins i no_in).parcel.untaken ≡ outs' = ap (λ (y : In). outs_after_relay dims r cap i outs y.parcel.untaken) (sym here) ∙ sym po in
    let i' : read_on (passed_count dims r cap i outs (get_or ins i no_in).parcel.untaken) (get_or ins i no_in) ≡ x' =
    ap (λ (y : In). read_on (passed_count dims r cap i outs y.parcel.untaken) y) (sym here) ∙ sym px in
    k ∙ ap (λ n. after_relay dims r cap n i (record { outs = outs; ins = ins })) e
    ∙ ap (λ os. after_relay dims r cap (most - (i + 1)) (suc i) (record { outs = os; ins = set ins i (read_on (passed_count dims r cap i outs (get_or ins i no_in).parcel.untaken) (get_or ins i no_in)) })) o'
    ∙ ap (λ y. after_relay dims r cap (most - (i + 1)) (suc i) (record { outs = outs'; ins = set ins i y })) i'
    ∙ ap (λ j. after_relay dims r cap (most - (i + 1)) j (record { outs = outs'; ins = set ins i x' })) one

pub in_turn_end : (dims : List ℕ) (r cap h i : ℕ) (outs0 : List Out) (ins0 : List In) (outs : List Out) (ins : List In) → InTurn dims r cap h i outs0 ins0 outs ins → links_before dims h + dim dims h ≤ i →
    record { outs = outs; ins = ins } ≡ relayed_hop dims r cap h (record { outs = outs0; ins = ins0 })
unfolding after_relay
in_turn_end dims r cap h i outs0 ins0 outs ins k all =
    let e : links_before dims h + dim dims h - i ≡ 0 = omega (arith, all) in
    sym (k ∙ ap (λ n. after_relay dims r cap n i (record { outs = outs; ins = ins })) e)
