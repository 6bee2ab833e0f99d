-- Tallies: what entries say of lines, and that the numbers of times tell the tally.
use Rattle.std.proofs.Common.{ℕ, suc, ◌+◌, ◌<◌, ◌≡◌, Bool, true, false, cond, List, [], ◌∷◌, ◌++◌, fold, All, arith, inl, inr, refl, sym, ap, ◌∙◌, subst, lit<}
use Rattle.std.proofs.Common.{Ordering, Less, Equal, Greater, is_eq}
use Rattle.std.specs.List.{Contains}
use Rattle.std.proofs.lemmas.List.Elements.{All-nil, All-cons, All-weaker}
use Rattle.std.proofs.lemmas.List.Sums.{sum_by-cons, fold_push}
use Rattle.list_laws.proofs.Lists.{all_head, all_tail}
use Rattle.app_tally.specs.Counts.{by_bytes, Entry, times, with_line, tally_of, Before, Rises, IsTally}
use Rattle.app_tally.specs.laws.CountOrder.{order, one_line, itself, order_turned, which, no_tie, at_less, at_equal, at_greater}

-- ---- What entries say of a line

-- how many times a line was read, by entries
abbrev pub found : List ℕ → List Entry → ℕ
found q [] = 0
found q (e ∷ es) = cond (is_eq (by_bytes q e.0)) e.1 (found q es)

abbrev pub one_if : Bool → ℕ
one_if b = cond b 1 0

-- a line that isn't that of the first entry
found_other : (q : List ℕ) (e : Entry) (es : List Entry) (o : Ordering) → by_bytes q e.0 ≡ o → is_eq o ≡ false → found q (e ∷ es) ≡ found q es
found_other q e es o h n = ap (λ w. cond (is_eq w) e.1 (found q es)) h ∙ ap (λ b. cond b e.1 (found q es)) n

found_here : (q : List ℕ) (e : Entry) (es : List Entry) → by_bytes q e.0 ≡ Equal → found q (e ∷ es) ≡ e.1
found_here q e es h = ap (λ w. cond (is_eq w) e.1 (found q es)) h

-- a line before all entries isn't there
found_before : (q : List ℕ) (es : List Entry) → Before q es → found q es ≡ 0
found_before q [] b = refl
found_before q (e ∷ es) b = found_other q e es Less b.0 refl ∙ found_before q es b.1

before_less : (q l : List ℕ) (es : List Entry) → by_bytes q l ≡ Less → Before l es → Before q es
before_less q l [] h b = tt
before_less q l (e ∷ es) h b = (order.trans q l e.0 h b.0, before_less q l es h b.1)

-- a line before entries and before one more line
before_counted : (q l : List ℕ) (es : List Entry) → by_bytes q l ≡ Less → Before q es → Before q (with_line l es)
before_counted q l [] h b = (h, tt)
before_counted q l (e ∷ es) h b =
    elim (which (by_bytes l e.0)) [
      | inl a ↦ subst (Before q) (sym (at_less l e es a)) (h, (b.0, b.1))
      | inr (inl a) ↦ subst (Before q) (sym (at_equal l e es a)) (b.0, b.1)
      | inr (inr a) ↦ subst (Before q) (sym (at_greater l e es a)) (b.0, before_counted q l es h b.1)
    ]

pub rises_counted : (l : List ℕ) (es : List Entry) → Rises es → Rises (with_line l es)
rises_counted l [] r = (tt, tt)
rises_counted l (e ∷ es) r =
    elim (which (by_bytes l e.0)) [
      | inl a ↦ subst Rises (sym (at_less l e es a)) ((a, before_less l e.0 es a r.0), (r.0, r.1))
      | inr (inl a) ↦ subst Rises (sym (at_equal l e es a)) (r.0, r.1)
      | inr (inr a) ↦ subst Rises (sym (at_greater l e es a)) (before_counted e.0 l es (order_turned l e.0 Greater a) r.0, rises_counted l es r.1)
    ]

plus_none : (q l : List ℕ) (n : ℕ) (o : Ordering) → by_bytes q l ≡ o → is_eq o ≡ false → n ≡ n + one_if (is_eq (by_bytes q l))
plus_none q l n o h e = let z : one_if (is_eq (by_bytes q l)) ≡ 0 = ap (λ w. one_if (is_eq w)) h ∙ ap one_if e in omega arith

more_here : (b : Bool) (n rest : ℕ) (c : Bool) → c ≡ b → cond b (n + 1) rest ≡ cond b n rest + one_if c
more_here true n rest c e = let o : one_if c ≡ 1 = ap one_if e in omega arith
more_here false n rest c e = let o : one_if c ≡ 0 = ap one_if e in omega arith

more_later : (b : Bool) (n rest : ℕ) (c : Bool) → (b ≡ true → one_if c ≡ 0) → cond b n (rest + one_if c) ≡ cond b n rest + one_if c
more_later true n rest c z = let o : one_if c ≡ 0 = z refl in omega arith
more_later false n rest c z = refl

-- a line that ties with e isn't one that comes after e
apart_there : (q l e : List ℕ) → is_eq (by_bytes q e) ≡ true → by_bytes l e ≡ Greater → one_if (is_eq (by_bytes q l)) ≡ 0
apart_there q l e h a =
    elim (which (by_bytes q e)) [
      | inl o ↦ absurd (no_tie (is_eq (by_bytes q e)) (ap is_eq o) h)
      | inr (inl o) ↦
          let less : by_bytes q l ≡ Less = ap (λ w. by_bytes w l) (one_line q e o) ∙ order_turned l e Greater a in
          ap (λ w. one_if (is_eq w)) less
      | inr (inr o) ↦ absurd (no_tie (is_eq (by_bytes q e)) (ap is_eq o) h)
    ]

-- a line is found once more after it was counted, and no other is
pub found_counted : (q l : List ℕ) (es : List Entry) → Rises es → found q (with_line l es) ≡ found q es + one_if (is_eq (by_bytes q l))
found_counted q l [] r = omega arith
found_counted q l (e ∷ es) r =
    elim (which (by_bytes l e.0)) [
      | inl a ↦
          ap (found q) (at_less l e es a)
          ∙ (elim (which (by_bytes q l)) [
            | inl h ↦ found_other q (l, 1) (e ∷ es) Less h refl ∙ plus_none q l (found q (e ∷ es)) Less h refl
            | inr (inl h) ↦
                let below : Before q (e ∷ es) = subst (λ w. Before w (e ∷ es)) (sym (one_line q l h)) (a, before_less l e.0 es a r.0) in
                found_here q (l, 1) (e ∷ es) h ∙ sym (ap (λ n. n + one_if (is_eq (by_bytes q l))) (found_before q (e ∷ es) below) ∙ ap (λ o. 0 + one_if (is_eq o)) h)
            | inr (inr h) ↦ found_other q (l, 1) (e ∷ es) Greater h refl ∙ plus_none q l (found q (e ∷ es)) Greater h refl
          ])
      | inr (inl a) ↦
          ap (found q) (at_equal l e es a)
          ∙ more_here (is_eq (by_bytes q e.0)) e.1 (found q es) (is_eq (by_bytes q l)) (ap (λ w. is_eq (by_bytes q w)) (one_line l e.0 a))
      | inr (inr a) ↦
          ap (found q) (at_greater l e es a) ∙ ap (cond (is_eq (by_bytes q e.0)) e.1) (found_counted q l es r.1)
          ∙ more_later (is_eq (by_bytes q e.0)) e.1 (found q es) (is_eq (by_bytes q l)) (λ h. apart_there q l e.0 h a)
    ]

-- ---- The tally of lines

pub times_cons : (q l : List ℕ) (ls : List (List ℕ)) → times q (l ∷ ls) ≡ one_if (is_eq (by_bytes q l)) + times q ls
times_cons q l ls = sum_by-cons (λ m. cond (is_eq (by_bytes q m)) 1 0) l ls

pub rises_on : (es : List Entry) (ls : List (List ℕ)) → Rises es → Rises (fold (λ es l. with_line l es) es ls)
rises_on es [] r = r
rises_on es (l ∷ ls) r = rises_on (with_line l es) ls (rises_counted l es r)

pub found_on : (q : List ℕ) (es : List Entry) (ls : List (List ℕ)) → Rises es → found q (fold (λ es l. with_line l es) es ls) ≡ found q es + times q ls
found_on q es [] r = omega arith
found_on q es (l ∷ ls) r =
    let one : found q (with_line l es) ≡ found q es + one_if (is_eq (by_bytes q l)) = found_counted q l es r in
    let rest : found q (fold (λ es l. with_line l es) (with_line l es) ls) ≡ found q (with_line l es) + times q ls = found_on q (with_line l es) ls (rises_counted l es r) in
    let all : times q (l ∷ ls) ≡ one_if (is_eq (by_bytes q l)) + times q ls = times_cons q l ls in
    omega arith

pub rises_tally : (ls : List (List ℕ)) → Rises (tally_of ls)
rises_tally ls = rises_on [] ls tt

pub found_tally : (q : List ℕ) (ls : List (List ℕ)) → found q (tally_of ls) ≡ times q ls
found_tally q ls = let f : found q (tally_of ls) ≡ 0 + times q ls = found_on q [] ls tt in omega arith

-- each entry was read at least once, and at most as often as there are lines
pub some_counted : (l : List ℕ) (es : List Entry) → All (λ e. 0 < e.1) es → All (λ e. 0 < e.1) (with_line l es)
some_counted l [] a = All-cons (λ (e : Entry). 0 < e.1) (l, 1) [] (lit< tt) (All-nil (λ (e : Entry). 0 < e.1))
some_counted l (e ∷ es) a =
    let here : 0 < e.1 = all_head (λ (e : Entry). 0 < e.1) e es a in
    let rest : All (λ (e : Entry). 0 < e.1) es = all_tail (λ (e : Entry). 0 < e.1) e es a in
    elim (which (by_bytes l e.0)) [
      | inl b ↦ subst (All (λ (e : Entry). 0 < e.1)) (sym (at_less l e es b)) (All-cons (λ (e : Entry). 0 < e.1) (l, 1) (e ∷ es) (lit< tt) a)
      | inr (inl b) ↦ subst (All (λ (e : Entry). 0 < e.1)) (sym (at_equal l e es b)) (All-cons (λ (e : Entry). 0 < e.1) (e.0, e.1 + 1) es (omega arith) rest)
      | inr (inr b) ↦ subst (All (λ (e : Entry). 0 < e.1)) (sym (at_greater l e es b)) (All-cons (λ (e : Entry). 0 < e.1) e (with_line l es) here (some_counted l es rest))
    ]

pub some_on : (es : List Entry) (ls : List (List ℕ)) → All (λ e. 0 < e.1) es → All (λ e. 0 < e.1) (fold (λ es l. with_line l es) es ls)
some_on es [] a = a
some_on es (l ∷ ls) a = some_on (with_line l es) ls (some_counted l es a)

pub some_tally : (ls : List (List ℕ)) → All (λ e. 0 < e.1) (tally_of ls)
some_tally ls = some_on [] ls (All-nil (λ (e : Entry). 0 < e.1))

-- entries that follow a first one are found behind it
later_found : (e : Entry) (es fs : List Entry) → Before e.0 fs → All (λ f. f.1 ≡ found f.0 es) fs → All (λ f. f.1 ≡ found f.0 (e ∷ es)) fs
later_found e es [] b a = All-nil (λ (f : Entry). f.1 ≡ found f.0 (e ∷ es))
later_found e es (f ∷ fs) b a =
    All-cons (λ (g : Entry). g.1 ≡ found g.0 (e ∷ es)) f fs
    (all_head (λ (g : Entry). g.1 ≡ found g.0 es) f fs a ∙ sym (found_other f.0 e es Greater (order_turned e.0 f.0 Less b.0) refl))
    (later_found e es fs b.1 (all_tail (λ (g : Entry). g.1 ≡ found g.0 es) f fs a))

found_later : (q : List ℕ) (e : Entry) (es : List Entry) → found q (e ∷ es) ≡ found q es → Contains es (q, found q es) → Contains (e ∷ es) (q, found q (e ∷ es))
found_later q e es same c = subst (λ n. Contains (e ∷ es) (q, n)) (sym same) (suc c.0, omega (arith, c.1), c.2)

-- an entry is found
found_at : (es : List Entry) → Rises es → All (λ e. e.1 ≡ found e.0 es) es
found_at [] r = All-nil (λ (e : Entry). e.1 ≡ found e.0 [])
found_at (e ∷ es) r =
    All-cons (λ (f : Entry). f.1 ≡ found f.0 (e ∷ es)) e es (sym (found_here e.0 e es (itself e.0))) (later_found e es es r.0 (found_at es r.1))

-- and what is found is an entry
is_found : (q : List ℕ) (es : List Entry) → 0 < found q es → Contains es (q, found q es)
is_found q [] p = absurd (omega arith)
is_found q (e ∷ es) p =
    elim (which (by_bytes q e.0)) [
      | inl h ↦ found_later q e es (found_other q e es Less h refl) (is_found q es (subst (λ n. 0 < n) (found_other q e es Less h refl) p))
      | inr (inl h) ↦ (0, omega arith, ap (λ w. (w, e.1)) (sym (one_line q e.0 h)) ∙ ap (λ n. (q, n)) (sym (found_here q e es h)))
      | inr (inr h) ↦ found_later q e es (found_other q e es Greater h refl) (is_found q es (subst (λ n. 0 < n) (found_other q e es Greater h refl) p))
    ]

pub tally_is : (ls : List (List ℕ)) → IsTally ls (tally_of ls)
tally_is ls =
    record {
      rises = rises_tally ls;
      some = some_tally ls;
      each = All-weaker (λ (e : Entry). e.1 ≡ found e.0 (tally_of ls)) (λ (e : Entry). e.1 ≡ times e.0 ls) (λ e h. h ∙ found_tally e.0 ls) (tally_of ls) (found_at (tally_of ls) (rises_tally ls));
      all = λ l p. subst (λ n. Contains (tally_of ls) (l, n)) (found_tally l ls) (is_found l (tally_of ls) (subst (λ n. 0 < n) (sym (found_tally l ls)) p));
    }

-- ---- The numbers of times tell the tally

-- what entries behind two that are the same say
same_tails : (q : List ℕ) (e f : Entry) (es fs : List Entry) → Before e.0 es → Before f.0 fs → e.0 ≡ f.0 → found q (e ∷ es) ≡ found q (f ∷ fs) → found q es ≡ found q fs
same_tails q e f es fs b c key h =
    elim (which (by_bytes q e.0)) [
      | inl o ↦ sym (found_other q e es Less o refl) ∙ h ∙ found_other q f fs Less (ap (by_bytes q) (sym key) ∙ o) refl
      | inr (inl o) ↦
          let here : q ≡ e.0 = one_line q e.0 o in
          found_before q es (subst (λ w. Before w es) (sym here) b) ∙ sym (found_before q fs (subst (λ w. Before w fs) (sym (here ∙ key)) c))
      | inr (inr o) ↦ sym (found_other q e es Greater o refl) ∙ h ∙ found_other q f fs Greater (ap (by_bytes q) (sym key) ∙ o) refl
    ]

-- entries that say the same of each line are the same
pub same_entries : (es fs : List Entry) → Rises es → Rises fs → All (λ e. 0 < e.1) es → All (λ e. 0 < e.1) fs → ((q : List ℕ) → found q es ≡ found q fs) → es ≡ fs
same_entries [] [] r s a b h = refl
same_entries [] (f ∷ fs) r s a b h =
    absurd (let p : 0 < f.1 = all_head (λ (e : Entry). 0 < e.1) f fs b in let e : 0 ≡ f.1 = h f.0 ∙ found_here f.0 f fs (itself f.0) in omega arith)
same_entries (e ∷ es) [] r s a b h =
    absurd (let p : 0 < e.1 = all_head (λ (e : Entry). 0 < e.1) e es a in let q : e.1 ≡ 0 = sym (found_here e.0 e es (itself e.0)) ∙ h e.0 in omega arith)
same_entries (e ∷ es) (f ∷ fs) r s a b h =
    let pe : 0 < e.1 = all_head (λ (e : Entry). 0 < e.1) e es a in
    let pf : 0 < f.1 = all_head (λ (e : Entry). 0 < e.1) f fs b in
    elim (which (by_bytes e.0 f.0)) [
      | inl o ↦
          let none : e.1 ≡ 0 = sym (found_here e.0 e es (itself e.0)) ∙ h e.0 ∙ found_before e.0 (f ∷ fs) (o, before_less e.0 f.0 fs o s.0) in
          absurd (omega arith)
      | inr (inl o) ↦
          let key : e.0 ≡ f.0 = one_line e.0 f.0 o in
          let count : e.1 ≡ f.1 = sym (found_here e.0 e es (itself e.0)) ∙ h e.0 ∙ found_here e.0 f fs o in
          let tails : es ≡ fs =
          same_entries es fs r.1 s.1 (all_tail (λ (e : Entry). 0 < e.1) e es a) (all_tail (λ (e : Entry). 0 < e.1) f fs b) (λ q. same_tails q e f es fs r.0 s.0 key (h q)) in
          ap (λ w. (w, e.1) ∷ es) key ∙ ap (λ n. (f.0, n) ∷ es) count ∙ ap (λ w. f ∷ w) tails
      | inr (inr o) ↦
          let back : by_bytes f.0 e.0 ≡ Less = order_turned e.0 f.0 Greater o in
          let none : f.1 ≡ 0 = sym (found_here f.0 f fs (itself f.0)) ∙ sym (h f.0) ∙ found_before f.0 (e ∷ es) (back, before_less f.0 e.0 es back r.0) in
          absurd (omega arith)
    ]

pub same_tally : (ls ms : List (List ℕ)) → ((q : List ℕ) → times q ls ≡ times q ms) → tally_of ls ≡ tally_of ms
same_tally ls ms h =
    same_entries (tally_of ls) (tally_of ms) (rises_tally ls) (rises_tally ms) (some_tally ls) (some_tally ms) (λ q. found_tally q ls ∙ h q ∙ sym (found_tally q ms))

pub tally_push : (ls : List (List ℕ)) (l : List ℕ) → tally_of (ls ++ l ∷ []) ≡ with_line l (tally_of ls)
tally_push ls l = fold_push (λ es l. with_line l es) [] ls l
