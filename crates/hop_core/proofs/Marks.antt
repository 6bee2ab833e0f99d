-- Where a hop has reached its end, by the marks of the links into it.
use Rattle.std.proofs.Common.{ℕ, zero, suc, ◌≡◌, ◌≢◌, ◌+◌, ◌-◌, ◌<◌, ◌≤◌, ◌⊎◌, Bool, true, false, List, length, take, drop, get_or, set, sum, arith, refl, sym, ap, subst, ◌∙◌, inl, inr}
use Rattle.std.specs.List.{list_all}
use Rattle.std.proofs.lemmas.Bool.{cases_lt, cases_eq, cond-false, ne_eqb, false≢true}
use Rattle.std.proofs.lemmas.List.{drop-set-lt, drop-set-add, take-set-le, get_or-take, get_or-drop, length-take, length-drop}
use Rattle.route_tensor.specs.Grid.{dim}
use Rattle.route_tensor.specs.Link.{links_before}
use Rattle.route_tensor.specs.Neighbour.{hop_to}
use Rattle.route_tensor.proofs.Links.{before_more}
use Rattle.route_tensor.proofs.Neighbours.{hop_to_has, hop_to_is}
use Rattle.hop_core.specs.Link.{In, no_in, is_finished}
use Rattle.hop_core.specs.State.{ins_of_hop, at_end}
use Rattle.hop_core.proofs.Scans.{one_fails}

pub at_end-first : (dims : List ℕ) (ins : List In) (done : Bool) → at_end dims ins done 1 ≡ done
unfolding at_end
at_end-first dims ins done = refl

pub at_end-later : (dims : List ℕ) (ins : List In) (done : Bool) (h : ℕ) → 1 ≤ h → at_end dims ins done (h + 1) ≡ list_all is_finished (ins_of_hop dims ins h)
unfolding at_end
at_end-later dims ins done h p =
    let ne : h + 1 ≡ 1 → ⊥ = λ e. absurd (omega (arith, p, e)) in
    let e : h + 1 - 1 ≡ h = omega arith in
    cond-false _ _ _ (ne_eqb (h + 1) 1 ne) ∙ ap (λ j. list_all is_finished (ins_of_hop dims ins j)) e

-- a write to a link of another hop
pub hop_other : (dims : List ℕ) (ins : List In) (i : ℕ) (x : In) (h : ℕ) → 1 ≤ h → h ≤ length dims → i < sum dims → hop_to dims i ≢ h → ins_of_hop dims (set ins i x) h ≡ ins_of_hop dims ins h
hop_other dims ins i x h p l q ne =
    let b = links_before dims h in
    let n = dim dims h in
    elim (cases_lt i b) as (λ _. ins_of_hop dims (set ins i x) h ≡ ins_of_hop dims ins h) [
      | inl low ↦ ap (take n) (drop-set-lt b ins i x low)
      | inr high ↦ elim (cases_lt i (b + n)) as (λ _. ins_of_hop dims (set ins i x) h ≡ ins_of_hop dims ins h) [
        | inl here ↦ absurd (ne (hop_to_is dims h i (record { first = p; last = l; from = high; below = here })))
        | inr past ↦
            let j = i - b in
            let e : b + j ≡ i = omega (arith, high) in
            let s : drop b (set ins i x) ≡ set (drop b ins) j x = subst (λ m. drop b (set ins m x) ≡ set (drop b ins) j x) e (drop-set-add b ins j x) in
            ap (take n) s ∙ take-set-le n (drop b ins) j x (omega (arith, past, high))
      ]
    ]

-- a link that isn't finished
pub hop_unfinished : (dims : List ℕ) (ins : List In) (i : ℕ) → i < sum dims → length ins ≡ sum dims → is_finished (get_or ins i no_in) ≡ false → list_all is_finished (ins_of_hop dims ins (hop_to dims i)) ≡ false
hop_unfinished dims ins i q l f =
    let h = hop_to dims i in
    let k = hop_to_has dims i q in
    let b = links_before dims h in
    let n = dim dims h in
    let j = i - b in
    let e : b + j ≡ i = omega (arith, k.from) in
    let jn : j < n = omega (arith, k.below, k.from) in
    let g : get_or (take n (drop b ins)) j no_in ≡ get_or ins i no_in =
    get_or-take n (drop b ins) j no_in jn ∙ get_or-drop b ins j no_in ∙ ap (λ m. get_or ins m no_in) e in
    let len : j < length (take n (drop b ins)) = omega (arith, length-take n (drop b ins), length-drop b ins, l, q, jn, e) in
    one_fails is_finished (take n (drop b ins)) j no_in len (ap is_finished g ∙ f)

-- a hop's end stays where a link changes that isn't finished or is of the last hop
pub at_end_kept : (dims : List ℕ) (ins : List In) (done : Bool) (i : ℕ) (x : In) (h : ℕ) → i < sum dims → length ins ≡ sum dims → 1 ≤ h → h ≤ length dims →
    (hop_to dims i ≡ length dims) ⊎ (is_finished (get_or ins i no_in) ≡ false) → at_end dims ins done h ≡ true → at_end dims (set ins i x) done h ≡ true
at_end_kept dims ins done i x zero q l p m c t = absurd (omega (arith, p))
at_end_kept dims ins done i x (suc zero) q l p m c t = at_end-first dims (set ins i x) done ∙ sym (at_end-first dims ins done) ∙ t
at_end_kept dims ins done i x (suc (suc h)) q l p m c t =
    let e : suc (suc h) ≡ suc h + 1 = omega arith in
    let f : (ys : List In) → at_end dims ys done (suc (suc h)) ≡ list_all is_finished (ins_of_hop dims ys (suc h)) =
    λ ys. ap (at_end dims ys done) e ∙ at_end-later dims ys done (suc h) (omega arith) in
    elim (cases_eq (hop_to dims i) (suc h)) as (λ _. at_end dims (set ins i x) done (suc (suc h)) ≡ true) [
      | inl here ↦ elim c as (λ _. at_end dims (set ins i x) done (suc (suc h)) ≡ true) [
        | inl last ↦ absurd (omega (arith, here, last, m))
        | inr open' ↦
            let u : list_all is_finished (ins_of_hop dims ins (suc h)) ≡ false = subst (λ j. list_all is_finished (ins_of_hop dims ins j) ≡ false) here (hop_unfinished dims ins i q l open') in
            absurd (false≢true (sym u ∙ sym (f ins) ∙ t))
      ]
      | inr other ↦ f (set ins i x) ∙ ap (list_all is_finished) (hop_other dims ins i x (suc h) (omega arith) (omega (arith, m)) q other) ∙ sym (f ins) ∙ t
    ]

-- the end of a hop that follows another one
pub at_end_other : (dims : List ℕ) (ins : List In) (done : Bool) (i : ℕ) (x : In) (h : ℕ) → i < sum dims → 1 ≤ h → h ≤ length dims → h ≢ hop_to dims i + 1 → at_end dims (set ins i x) done h ≡ at_end dims ins done h
at_end_other dims ins done i x zero q p m ne = absurd (omega (arith, p))
at_end_other dims ins done i x (suc zero) q p m ne = at_end-first dims (set ins i x) done ∙ sym (at_end-first dims ins done)
at_end_other dims ins done i x (suc (suc h)) q p m ne =
    let e : suc (suc h) ≡ suc h + 1 = omega arith in
    let f : (ys : List In) → at_end dims ys done (suc (suc h)) ≡ list_all is_finished (ins_of_hop dims ys (suc h)) =
    λ ys. ap (at_end dims ys done) e ∙ at_end-later dims ys done (suc h) (omega arith) in
    f (set ins i x) ∙ ap (list_all is_finished) (hop_other dims ins i x (suc h) (omega arith) (omega (arith, m)) q (omega (arith, ne))) ∙ sym (f ins)

-- the links in of a hop, by where they stand
pub hop_part : (dims : List ℕ) (ins : List In) (h : ℕ) → 1 ≤ h → h ≤ length dims → take (links_before dims (h + 1) - links_before dims h) (drop (links_before dims h) ins) ≡ ins_of_hop dims ins h
hop_part dims ins h p l =
    let e : h + 1 - 1 ≡ h = omega arith in
    let n : links_before dims (h + 1) ≡ links_before dims h + dim dims h = ap (λ j. sum (take j dims)) e ∙ before_more dims h p l in
    let w : links_before dims (h + 1) - links_before dims h ≡ dim dims h = omega (arith, n) in
    ap (λ m. take m (drop (links_before dims h) ins)) w

pub hop_order : (dims : List ℕ) (h : ℕ) → 1 ≤ h → h ≤ length dims → links_before dims h ≤ links_before dims (h + 1)
hop_order dims h p l =
    let e : h + 1 - 1 ≡ h = omega arith in
    let n : links_before dims (h + 1) ≡ links_before dims h + dim dims h = ap (λ j. sum (take j dims)) e ∙ before_more dims h p l in
    omega (arith, n)

pub end_zero : (dims : List ℕ) (ins : List In) (a : Bool) → at_end dims ins a 0 ≡ true → at_end dims ins true 0 ≡ true
unfolding at_end
end_zero dims ins a t = t

pub zero_stays : (dims : List ℕ) (ins ins' : List In) (done : Bool) → (list_all is_finished (ins_of_hop dims ins (zero - 1)) ≡ true → list_all is_finished (ins_of_hop dims ins' (zero - 1)) ≡ true) → at_end dims ins done 0 ≡ true → at_end dims ins' done 0 ≡ true
unfolding at_end
zero_stays dims ins ins' done f t = f t
