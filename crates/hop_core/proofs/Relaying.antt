-- A relay as far as it is, link in after link in.
use Rattle.std.proofs.Common.{ℕ, ◌≡◌, ◌≢◌, ◌+◌, ◌-◌, ◌<◌, ◌≤◌, false, ◌&&◌, List, ◌++◌, length, drop, get_or, set, sum, arith, refl, sym, ap, subst, ◌∙◌, inl, inr}
use Rattle.std.specs.List.{list_all}
use Rattle.std.proofs.lemmas.Bool.{cases_eq, cases_lt, ne_eqb}
use Rattle.std.proofs.lemmas.List.{length-set, length-take, get_or-set_same, get_or-set_other, get_or_default, get_or_past}
use Rattle.std.proofs.Math.Bool.{and-false}
use Rattle.std.proofs.lemmas.List.Sums.{sum_by-set, get_or-le-sum_by}
use Rattle.list_laws.specs.Lists.{EachAt}
use Rattle.list_laws.proofs.Lists.{each_set}
use Rattle.bale_items.specs.declared.item.Entry.{Entry}
use Rattle.route_tensor.specs.Link.{links_before}
use Rattle.route_tensor.specs.Neighbour.{hop_to}
use Rattle.route_tensor.specs.Pair.{items_of_pair, PassesThrough}
use Rattle.hop_core.specs.Link.{Out, In, no_out, no_in, is_finished}
use Rattle.hop_core.specs.State.{ins_of_hop}
use Rattle.hop_core.specs.Relay.{way_in, way_out, held_by, PassesOn, AddsToHop, TakesFromHop, IsStopped, waiting}
use Rattle.hop_core.specs.Standing.{IsOut, IsIn}
use Rattle.hop_core.proofs.Marks.{hop_unfinished}
use Rattle.hop_core.proofs.Going.{adds_none, adds_both}

-- what one link in keeps for itself
pub record LinkRelayed (dims : List ℕ) (r cap i : ℕ) (outs outs' : List Out) (x x' : In) (n : ℕ) : Type 0 where
  pub each : EachAt (λ o out. IsOut dims cap (hop_to dims o) out) outs'
  pub link : IsIn dims cap (hop_to dims i) x'
  pub passes : PassesOn dims r (hop_to dims i) i outs outs' x x'
  pub adds : AddsToHop dims (hop_to dims i + 1) outs outs'
  pub rest : x'.parcel.untaken ≡ drop n x.parcel.untaken
  pub count : n + length x'.parcel.untaken ≡ length x.parcel.untaken
  pub ended : x'.ended ≡ x.ended
  pub stopped : IsStopped dims cap (hop_to dims i) outs' x'

-- how far the relay of hop h is, before link in number i
pub record Relaying (dims : List ℕ) (r cap h i : ℕ) (outs0 : List Out) (ins0 : List In) (outs : List Out) (ins : List In) (n : ℕ) : Type 0 where
  pub all_outs : length outs ≡ sum dims
  pub all_ins : length ins ≡ sum dims
  pub each_out : EachAt (λ o out. IsOut dims cap (hop_to dims o) out) outs
  pub each_in : EachAt (λ j x. IsIn dims cap (hop_to dims j) x) ins
  pub held : (s d : ℕ) → PassesThrough dims r s d h → held_by dims outs ins s d h ≡ held_by dims outs0 ins0 s d h
  pub adds : AddsToHop dims (h + 1) outs0 outs
  pub takes : TakesFromHop dims h ins0 ins
  pub stopped : (j : ℕ) → links_before dims h ≤ j → j < i → IsStopped dims cap h outs (get_or ins j no_in)
  pub later : (j : ℕ) → i ≤ j → get_or ins j no_in ≡ get_or ins0 j no_in
  pub count : n + waiting ins ≡ waiting ins0
  pub not_closed : (o : ℕ) → hop_to dims o ≡ h + 1 → list_all is_finished (ins_of_hop dims ins0 h) ≡ false → (get_or outs o no_out).closed ≡ false

no_drop : (xs : List Entry) → drop (length xs - length xs) xs ≡ xs
no_drop xs = let e : length xs - length xs ≡ 0 = omega arith in ap (λ n. drop n xs) e

abbrev pub RestOf : In → In → Type 0
RestOf x x' = drop (length x.parcel.untaken - length x'.parcel.untaken) x.parcel.untaken ≡ x'.parcel.untaken

rest_is : (x x' : In) (m : ℕ) → x'.parcel.untaken ≡ drop m x.parcel.untaken → m + length x'.parcel.untaken ≡ length x.parcel.untaken → RestOf x x'
rest_is x x' m e c =
    let n : length x.parcel.untaken - length x'.parcel.untaken ≡ m = omega (arith, c) in
    ap (λ j. drop j x.parcel.untaken) n ∙ sym e

past_both : (outs outs' : List Out) (o : ℕ) → length outs' ≡ length outs → length outs' ≤ o → get_or outs' o no_out ≡ get_or outs o no_out
past_both outs outs' o n q = get_or_past outs' o no_out q ∙ sym (get_or_past outs o no_out (omega (arith, n, q)))

some_unfinished : (x : In) → 0 < length x.parcel.untaken → is_finished x ≡ false
some_unfinished x some =
    let ne : length x.parcel.untaken ≡ 0 → ⊥ = λ z. absurd (omega (arith, z, some)) in
    ap (λ b. x.ended && b) (ne_eqb (length x.parcel.untaken) 0 ne) ∙ and-false x.ended

takes_none : (dims : List ℕ) (h : ℕ) (ins : List In) → TakesFromHop dims h ins ins
takes_none dims h ins = record { count = refl; others = λ i ne. refl; ended = λ i. refl; rest = λ i. no_drop (get_or ins i no_in).parcel.untaken }

pub relaying_start : (dims : List ℕ) (r cap h : ℕ) (outs : List Out) (ins : List In) → length outs ≡ sum dims → length ins ≡ sum dims → EachAt (λ o out. IsOut dims cap (hop_to dims o) out) outs → EachAt (λ j x. IsIn dims cap (hop_to dims j) x) ins →
    ((o : ℕ) → hop_to dims o ≡ h + 1 → list_all is_finished (ins_of_hop dims ins h) ≡ false → (get_or outs o no_out).closed ≡ false) → Relaying dims r cap h (links_before dims h) outs ins outs ins 0
relaying_start dims r cap h outs ins a b c d e = record {
  all_outs = a;
  all_ins = b;
  each_out = c;
  each_in = d;
  held = λ s t p. refl;
  adds = adds_none dims (h + 1) outs;
  takes = takes_none dims h ins;
  stopped = λ j p q. absurd (omega (arith, p, q));
  later = λ j p. refl;
  count = omega arith;
  not_closed = e;
}

-- a full parcel to which something may have been added is still full
still_full : (dims : List ℕ) (cap h o : ℕ) (outs outs' : List Out) → AddsToHop dims h outs outs' → length outs' ≡ sum dims → EachAt (λ j out. IsOut dims cap (hop_to dims j) out) outs' → length (get_or outs o no_out).parcel.untaken ≡ cap → length (get_or outs' o no_out).parcel.untaken ≡ cap
still_full dims cap h o outs outs' a n e f =
    let a' = (get_or outs o no_out).parcel.untaken in
    let b = (get_or outs' o no_out).parcel.untaken in
    let more : cap ≤ length b = omega (arith, f, ap length (a.front o), length-take (length a') b) in
    elim (cases_lt o (length outs')) as (λ _. length b ≡ cap) [
      | inl q ↦ omega (arith, more, (e o no_out q).fits)
      | inr q ↦ omega (arith, f, ap (λ y. length y.parcel.untaken) (past_both outs outs' o a.count q))
    ]

-- a link's turn
pub relaying_more : (dims : List ℕ) (r cap h i n m : ℕ) (outs0 : List Out) (ins0 : List In) (outs : List Out) (ins : List In) (outs' : List Out) (x x' : In) → i < sum dims → hop_to dims i ≡ h →
    Relaying dims r cap h i outs0 ins0 outs ins n → x ≡ get_or ins i x → LinkRelayed dims r cap i outs outs' x x' m → Relaying dims r cap h (i + 1) outs0 ins0 outs' (set ins i x') (n + m)
relaying_more dims r cap h i n m outs0 ins0 outs ins outs' x x' q hi k read w =
    let inside : i < length ins = omega (arith, k.all_ins, q) in
    let here : x ≡ get_or ins i no_in = read ∙ get_or_default ins i x no_in inside in
    let first : x ≡ get_or ins0 i no_in = here ∙ k.later i (omega arith) in
    let adds : AddsToHop dims (h + 1) outs outs' = subst (λ j. AddsToHop dims (j + 1) outs outs') hi w.adds in
    let no : length outs' ≡ sum dims = w.adds.count ∙ k.all_outs in
    let at : get_or (set ins i x') i no_in ≡ x' = get_or-set_same ins i x' no_in inside in
    let other : (j : ℕ) → j ≢ i → get_or (set ins i x') j no_in ≡ get_or ins j no_in = λ j ne. get_or-set_other ins i j x' no_in ne in
    let stop : IsStopped dims cap h outs' x' = subst (λ j. IsStopped dims cap j outs' x') hi w.stopped in
    record {
      all_outs = no;
      all_ins = length-set ins i x' ∙ k.all_ins;
      each_out = w.each;
      each_in = each_set (λ j y. IsIn dims cap (hop_to dims j) y) ins i x' k.each_in w.link;
      held = λ s d p.
          let p' : PassesThrough dims r s d (hop_to dims i) = subst (PassesThrough dims r s d) (sym hi) p in
          elim (cases_eq (way_in dims s h) i) as (λ _. held_by dims outs' (set ins i x') s d h ≡ held_by dims outs0 ins0 s d h) [
            | inl e ↦
                let w' : way_in dims s (hop_to dims i) ≡ i = ap (way_in dims s) hi ∙ e in
                let mine = subst (λ j. items_of_pair dims s d (j + 1) (get_or outs' (way_out dims d (j + 1)) no_out).parcel.untaken ++ items_of_pair dims s d j x'.parcel.untaken
                ≡ items_of_pair dims s d (j + 1) (get_or outs (way_out dims d (j + 1)) no_out).parcel.untaken ++ items_of_pair dims s d j x.parcel.untaken) hi (w.passes.mine s d p' w') in
                ap (λ y. items_of_pair dims s d (h + 1) (get_or outs' (way_out dims d (h + 1)) no_out).parcel.untaken ++ items_of_pair dims s d h y.parcel.untaken) (ap (λ j. get_or (set ins i x') j no_in) e ∙ at)
                ∙ mine
                ∙ ap (λ y. items_of_pair dims s d (h + 1) (get_or outs (way_out dims d (h + 1)) no_out).parcel.untaken ++ items_of_pair dims s d h y.parcel.untaken) (here ∙ ap (λ j. get_or ins j no_in) (sym e))
                ∙ k.held s d p
            | inr ne ↦
                let ne' : way_in dims s (hop_to dims i) ≢ i = λ z. ne (ap (way_in dims s) (sym hi) ∙ z) in
                let others = subst (λ j. items_of_pair dims s d (j + 1) (get_or outs' (way_out dims d (j + 1)) no_out).parcel.untaken ≡ items_of_pair dims s d (j + 1) (get_or outs (way_out dims d (j + 1)) no_out).parcel.untaken) hi (w.passes.others s d p' ne') in
                ap (λ ys. ys ++ items_of_pair dims s d h (get_or (set ins i x') (way_in dims s h) no_in).parcel.untaken) others
                ∙ ap (λ y. items_of_pair dims s d (h + 1) (get_or outs (way_out dims d (h + 1)) no_out).parcel.untaken ++ items_of_pair dims s d h y.parcel.untaken) (other (way_in dims s h) ne)
                ∙ k.held s d p
          ];
      adds = adds_both dims (h + 1) outs0 outs outs' k.adds adds;
      takes = record {
        count = length-set ins i x' ∙ k.takes.count;
        others = λ j ne. other j (λ z. ne (ap (hop_to dims) z ∙ hi)) ∙ k.takes.others j ne;
        ended = λ j. elim (cases_eq j i) as (λ _. (get_or (set ins i x') j no_in).ended ≡ (get_or ins0 j no_in).ended) [
          | inl z ↦ subst (λ l. (get_or (set ins i x') l no_in).ended ≡ (get_or ins0 l no_in).ended) (sym z) (ap (λ y. y.ended) at ∙ w.ended ∙ ap (λ y. y.ended) first)
          | inr ne ↦ ap (λ y. y.ended) (other j ne) ∙ k.takes.ended j
        ];
        rest = λ j. elim (cases_eq j i) as (λ _. RestOf (get_or ins0 j no_in) (get_or (set ins i x') j no_in)) [
          | inl z ↦ subst (λ l. RestOf (get_or ins0 l no_in) (get_or (set ins i x') l no_in)) (sym z) (subst (RestOf (get_or ins0 i no_in)) (sym at) (subst (λ y. RestOf y x') first (rest_is x x' m w.rest w.count)))
          | inr ne ↦ subst (RestOf (get_or ins0 j no_in)) (sym (other j ne)) (k.takes.rest j)
        ];
      };
      stopped = λ j p s. elim (cases_eq j i) as (λ _. IsStopped dims cap h outs' (get_or (set ins i x') j no_in)) [
        | inl z ↦ subst (λ l. IsStopped dims cap h outs' (get_or (set ins i x') l no_in)) (sym z) (subst (IsStopped dims cap h outs') (sym at) stop)
        | inr ne ↦ subst (IsStopped dims cap h outs') (sym (other j ne)) (λ e g. still_full dims cap (h + 1) _ outs outs' adds no w.each (k.stopped j p (omega (arith, s, ne)) e g))
      ];
      later = λ j p. other j (omega (arith, p)) ∙ k.later j (omega (arith, p));
      count = omega (arith, k.count, w.count, sum_by-set (λ (y : In). length y.parcel.untaken) ins i x' no_in inside, ap (λ (y : In). length y.parcel.untaken) here);
      not_closed = λ o ho f. adds.closed o ∙ k.not_closed o ho f;
    }

-- a link with entries isn't finished
pub link_open : (dims : List ℕ) (r cap h i n : ℕ) (outs0 : List Out) (ins0 : List In) (outs : List Out) (ins : List In) (x : In) → i < sum dims → hop_to dims i ≡ h → length ins0 ≡ sum dims → Relaying dims r cap h i outs0 ins0 outs ins n → x ≡ get_or ins i x →
    (o : ℕ) → hop_to dims o ≡ hop_to dims i + 1 → 0 < length x.parcel.untaken → (get_or outs o no_out).closed ≡ false
link_open dims r cap h i n outs0 ins0 outs ins x q hi l0 k read o ho some =
    let inside : i < length ins = omega (arith, k.all_ins, q) in
    let first : x ≡ get_or ins0 i no_in = read ∙ get_or_default ins i x no_in inside ∙ k.later i (omega arith) in
    let f : is_finished (get_or ins0 i no_in) ≡ false = ap is_finished (sym first) ∙ some_unfinished x some in
    k.not_closed o (ho ∙ ap (λ j. j + 1) hi) (subst (λ j. list_all is_finished (ins_of_hop dims ins0 j) ≡ false) hi (hop_unfinished dims ins0 i q l0 f))

-- what one link holds is within what waits
pub within_waiting : (ins : List In) (i : ℕ) (x : In) → i < length ins → x ≡ get_or ins i x → length x.parcel.untaken ≤ waiting ins
within_waiting ins i x q e = omega (arith, get_or-le-sum_by (λ (y : In). length y.parcel.untaken) ins i x q, ap (λ (y : In). length y.parcel.untaken) e)
