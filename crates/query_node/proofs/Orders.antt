-- What is heard doesn't depend on the order in which the replies of different ranks come.
use Rattle.std.proofs.Common.{◌≡◌, ◌≢◌, ℕ, zero, suc, ◌+◌, ◌^◌, ◌<◌, ◌≤◌, ◌==◌, Bool, true, false, cond, List, [], ◌∷◌, ◌++◌, length, drop, slice_get, Option, Some, None, All, refl, sym, ap, subst, ◌∙◌, inl, inr, arith}
use Rattle.std.proofs.lemmas.Bool.{cases_eq, eq-eqb, ne_eqb}
use Rattle.std.proofs.lemmas.List.Elements.{All-nil}
use Rattle.bale_items.specs.declared.item.Item.{Item}
use Rattle.list_laws.proofs.Lists.{all_head, all_tail}
use Rattle.round_program.specs.Talks.{Talk, TalkLaws, SameTalk}
use Rattle.round_program.specs.Canonical.{items_of}
use Rattle.round_program.proofs.Items.{items_here, items_other}
use Rattle.round_program.specs.Replies.{carrying, as_items, answers, heard_first, less_first, hearing, places_to, answered_from}

abbrev pub Small : List Item → Type 0
Small xs = All (λ x. x.a < 2 ^ 64) xs

-- what hearing leaves as it is
pub talk_same : {S : Type 0} (T : Talk S) (s : S) → T.valid s → SameTalk T s s
talk_same T s v = record { valid = v; rank = refl; ranks = refl; queries = refl; answer = λ f q. refl }

pub talk_trans : {S : Type 0} (T : Talk S) (s t u : S) → SameTalk T s t → SameTalk T t u → SameTalk T s u
talk_trans T s t u a b = record { valid = b.valid; rank = b.rank ∙ a.rank; ranks = b.ranks ∙ a.ranks; queries = b.queries ∙ a.queries; answer = λ f q. b.answer f q ∙ a.answer f q }

first_keeps : {S : Type 0} (T : Talk S) → TalkLaws T → (s : S) (i : ℕ) (xs : List Item) → T.valid s → i < length (T.queries s) → Small xs → SameTalk T s (heard_first T s i xs)
first_keeps T laws s i [] v low small = talk_same T s v
first_keeps T laws s i (x ∷ xs) v low small = laws.keeps s i x.a v low (all_head (λ (y : Item). y.a < 2 ^ 64) x xs small)

small_rest : (b : Bool) (xs : List Item) → Small xs → Small (cond b (drop 1 xs) xs)
small_rest true [] h = All-nil (λ (y : Item). y.a < 2 ^ 64)
small_rest true (x ∷ xs) h = all_tail (λ (y : Item). y.a < 2 ^ 64) x xs h
small_rest false xs h = h

pub hearing_keeps : {S : Type 0} (T : Talk S) → TalkLaws T → (s : S) (i : ℕ) (qs : List (ℕ × ℕ)) (came : ℕ → List Item) → T.valid s → i + length qs ≤ length (T.queries s) → ((d : ℕ) → Small (came d)) → SameTalk T s (hearing T s i qs came)
hearing_keeps T laws s i [] came v low small = talk_same T s v
hearing_keeps T laws s i (q ∷ qs) came v low small =
    let s1 = heard_first T s i (came q.0) in
    let k : SameTalk T s s1 = first_keeps T laws s i (came q.0) v (omega (arith, low)) (small q.0) in
    talk_trans T s s1 (hearing T s1 (suc i) qs (less_first came q.0)) k
    (hearing_keeps T laws s1 (suc i) qs (less_first came q.0) k.valid (omega (arith, low, ap length k.queries)) (λ d. small_rest (d == q.0) (came d) (small d)))

-- a reply to an earlier query may be heard later
early_first : {S : Type 0} (T : Talk S) → TalkLaws T → (s : S) (i j v : ℕ) (xs : List Item) → T.valid s → j < i → i < length (T.queries s) → v < 2 ^ 64 → Small xs
    → heard_first T (T.heard s j v) i xs ≡ T.heard (heard_first T s i xs) j v
early_first T laws s i j v [] valid low top word small = refl
early_first T laws s i j v (x ∷ xs) valid low top word small =
    laws.commutes s j i v x.a valid (λ e. absurd (omega (arith, e, low))) (omega (arith, low, top)) top word (all_head (λ (y : Item). y.a < 2 ^ 64) x xs small)

early : {S : Type 0} (T : Talk S) → TalkLaws T → (s : S) (i : ℕ) (qs : List (ℕ × ℕ)) (came : ℕ → List Item) (j v : ℕ) → T.valid s → j < i → i + length qs ≤ length (T.queries s) → v < 2 ^ 64 → ((d : ℕ) → Small (came d))
    → hearing T (T.heard s j v) i qs came ≡ T.heard (hearing T s i qs came) j v
early T laws s i [] came j v valid low top word small = refl
early T laws s i (q ∷ qs) came j v valid low top word small =
    let s1 = heard_first T s i (came q.0) in
    let k : SameTalk T s s1 = first_keeps T laws s i (came q.0) valid (omega (arith, top)) (small q.0) in
    ap (λ t. hearing T t (suc i) qs (less_first came q.0)) (early_first T laws s i j v (came q.0) valid low (omega (arith, top)) word (small q.0))
    ∙ early T laws s1 (suc i) qs (less_first came q.0) j v k.valid (omega (arith, low)) (omega (arith, top, ap length k.queries)) word (λ d. small_rest (d == q.0) (came d) (small d))

-- one more reply of rank d
abbrev pub with_reply : (ℕ → List Item) → ℕ → Item → ℕ → List Item
with_reply came d x = λ e. cond (e == d) (came e ++ x ∷ []) (came e)

-- a reply is heard as that to the query number j, if there is one
abbrev pub hear_at : {S : Type 0} → Talk S → S → Option ℕ → ℕ → S
hear_at T s None v = s
hear_at T s (Some j) v = T.heard s j v

with_here : (came : ℕ → List Item) (d : ℕ) (x : Item) → with_reply came d x d ≡ came d ++ x ∷ []
with_here came d x = ap (λ b. cond b (came d ++ x ∷ []) (came d)) (eq-eqb d d refl)

with_other : (came : ℕ → List Item) (d : ℕ) (x : Item) (e : ℕ) → e ≢ d → with_reply came d x e ≡ came e
with_other came d x e apart = ap (λ b. cond b (came e ++ x ∷ []) (came e)) (ne_eqb e d apart)

-- the first query goes to d, and no reply of d came before: what is left after it
left_none : (came : ℕ → List Item) (d q : ℕ) (x : Item) → q ≡ d → came q ≡ [] → less_first (with_reply came d x) q ≡ less_first came q
left_none came d q x same none = λ i e. at e i where
  at : (e : ℕ) → less_first (with_reply came d x) q e ≡ less_first came q e
  at e = elim (cases_eq e q) [
    | inl here ↦
        let a : with_reply came d x e ≡ came e ++ x ∷ [] = subst (λ k. with_reply came k x e ≡ came e ++ x ∷ []) (here ∙ same) (with_here came e x) in
        let b : came e ≡ [] = ap came here ∙ none in
        ap (λ c. cond c (drop 1 (with_reply came d x e)) (with_reply came d x e)) (eq-eqb e q here)
        ∙ (ap (drop 1) (a ∙ ap (λ xs. xs ++ x ∷ []) b)
        ∙ (sym (ap (drop 1) b) ∙ sym (ap (λ c. cond c (drop 1 (came e)) (came e)) (eq-eqb e q here))))
    | inr apart ↦
        ap (λ c. cond c (drop 1 (with_reply came d x e)) (with_reply came d x e)) (ne_eqb e q apart)
        ∙ (with_other came d x e (λ k. apart (k ∙ sym same)) ∙ sym (ap (λ c. cond c (drop 1 (came e)) (came e)) (ne_eqb e q apart)))
  ]

-- and where one came before
left_some : (came : ℕ → List Item) (d q : ℕ) (x y : Item) (ys : List Item) → q ≡ d → came q ≡ y ∷ ys → less_first (with_reply came d x) q ≡ with_reply (less_first came q) d x
left_some came d q x y ys same some = λ i e. at e i where
  at : (e : ℕ) → less_first (with_reply came d x) q e ≡ with_reply (less_first came q) d x e
  at e = elim (cases_eq e q) [
    | inl here ↦
        let a : with_reply came d x e ≡ came e ++ x ∷ [] = subst (λ k. with_reply came k x e ≡ came e ++ x ∷ []) (here ∙ same) (with_here came e x) in
        let b : came e ≡ y ∷ ys = ap came here ∙ some in
        let c : less_first came q e ≡ ys = ap (λ c. cond c (drop 1 (came e)) (came e)) (eq-eqb e q here) ∙ ap (drop 1) b in
        let w : with_reply (less_first came q) d x e ≡ less_first came q e ++ x ∷ [] = subst (λ k. with_reply (less_first came q) k x e ≡ less_first came q e ++ x ∷ []) (here ∙ same) (with_here (less_first came q) e x) in
        ap (λ c. cond c (drop 1 (with_reply came d x e)) (with_reply came d x e)) (eq-eqb e q here)
        ∙ (ap (drop 1) (a ∙ ap (λ xs. xs ++ x ∷ []) b) ∙ sym (w ∙ ap (λ xs. xs ++ x ∷ []) c))
    | inr apart ↦
        let out : e ≢ d = λ k. apart (k ∙ sym same) in
        ap (λ c. cond c (drop 1 (with_reply came d x e)) (with_reply came d x e)) (ne_eqb e q apart)
        ∙ (with_other came d x e out ∙ sym (with_other (less_first came q) d x e out ∙ ap (λ c. cond c (drop 1 (came e)) (came e)) (ne_eqb e q apart)))
  ]

-- the first query goes elsewhere
left_apart : (came : ℕ → List Item) (d q : ℕ) (x : Item) → q ≢ d → less_first (with_reply came d x) q ≡ with_reply (less_first came q) d x
left_apart came d q x other = λ i e. at e i where
  at : (e : ℕ) → less_first (with_reply came d x) q e ≡ with_reply (less_first came q) d x e
  at e = elim (cases_eq e q) [
    | inl here ↦
        let out : e ≢ d = λ k. other (sym here ∙ k) in
        ap (λ c. cond c (drop 1 (with_reply came d x e)) (with_reply came d x e)) (eq-eqb e q here)
        ∙ (ap (drop 1) (with_other came d x e out) ∙ sym (with_other (less_first came q) d x e out ∙ ap (λ c. cond c (drop 1 (came e)) (came e)) (eq-eqb e q here)))
    | inr apart ↦
        ap (λ c. cond c (drop 1 (with_reply came d x e)) (with_reply came d x e)) (ne_eqb e q apart)
        ∙ sym (ap (λ xs. cond (e == d) (xs ++ x ∷ []) xs) (ap (λ c. cond c (drop 1 (came e)) (came e)) (ne_eqb e q apart)))
  ]

-- one more reply of d is heard as that to the first query to d that has none
pub heard_more : {S : Type 0} (T : Talk S) → TalkLaws T → (s : S) (i : ℕ) (qs : List (ℕ × ℕ)) (came : ℕ → List Item) (d : ℕ) (x : Item) → T.valid s → i + length qs ≤ length (T.queries s) → ((e : ℕ) → Small (came e)) → x.a < 2 ^ 64
    → hearing T s i qs (with_reply came d x) ≡ hear_at T (hearing T s i qs came) (slice_get (places_to d i qs) (length (came d))) x.a
heard_more {S} T laws s i [] came d x v low small word = refl
heard_more {S} T laws s i (q ∷ qs) came d x v low small word =
    elim (cases_eq q.0 d) [
      | inl same ↦ here (λ t c v' l' sm. heard_more T laws t (suc i) qs c d x v' l' sm word) same (came q.0) refl
      | inr apart ↦
          let s1 = heard_first T s i (came q.0) in
          let k : SameTalk T s s1 = first_keeps T laws s i (came q.0) v (omega (arith, low)) (small q.0) in
          let after : hearing T s1 (suc i) qs (with_reply (less_first came q.0) d x) ≡ hear_at T (hearing T s1 (suc i) qs (less_first came q.0)) (slice_get (places_to d (suc i) qs) (length (less_first came q.0 d))) x.a =
          heard_more T laws s1 (suc i) qs (less_first came q.0) d x k.valid (omega (arith, low, ap length k.queries)) (λ e. small_rest (e == q.0) (came e) (small e)) word in
          let lines : places_to d i (q ∷ qs) ≡ places_to d (suc i) qs = ap (λ b. cond b (i ∷ places_to d (suc i) qs) (places_to d (suc i) qs)) (ne_eqb q.0 d apart) in
          let count : less_first came q.0 d ≡ came d = ap (λ c. cond c (drop 1 (came d)) (came d)) (ne_eqb d q.0 (λ e. apart (sym e))) in
          ap (λ xs. hearing T (heard_first T s i xs) (suc i) qs (less_first (with_reply came d x) q.0)) (with_other came d x q.0 apart)
          ∙ (ap (hearing T s1 (suc i) qs) (left_apart came d q.0 x apart)
          ∙ (after
          ∙ (ap (λ (xs : List Item). hear_at T (hearing T s1 (suc i) qs (less_first came q.0)) (slice_get (places_to d (suc i) qs) (length xs)) x.a) count
          ∙ ap (λ ls. hear_at T (hearing T s1 (suc i) qs (less_first came q.0)) (slice_get ls (length (came d))) x.a) (sym lines))))
    ] where
      here : ((t : S) (c : ℕ → List Item) → T.valid t → suc i + length qs ≤ length (T.queries t) → ((e : ℕ) → Small (c e)) → hearing T t (suc i) qs (with_reply c d x) ≡ hear_at T (hearing T t (suc i) qs c) (slice_get (places_to d (suc i) qs) (length (c d))) x.a) → q.0 ≡ d → (xs : List Item) → came q.0 ≡ xs → hearing T s i (q ∷ qs) (with_reply came d x) ≡ hear_at T (hearing T s i (q ∷ qs) came) (slice_get (places_to d i (q ∷ qs)) (length (came d))) x.a
      here next same [] none =
          let lines : places_to d i (q ∷ qs) ≡ i ∷ places_to d (suc i) qs = ap (λ b. cond b (i ∷ places_to d (suc i) qs) (places_to d (suc i) qs)) (eq-eqb q.0 d same) in
          let first : with_reply came d x q.0 ≡ x ∷ [] = subst (λ k. with_reply came k x q.0 ≡ came q.0 ++ x ∷ []) same (with_here came q.0 x) ∙ ap (λ ys. ys ++ x ∷ []) none in
          ap (λ ys. hearing T (heard_first T s i ys) (suc i) qs (less_first (with_reply came d x) q.0)) first
          ∙ (ap (hearing T (T.heard s i x.a) (suc i) qs) (left_none came d q.0 x same none)
          ∙ (early T laws s (suc i) qs (less_first came q.0) i x.a v (omega arith) (omega (arith, low)) word (λ e. small_rest (e == q.0) (came e) (small e))
          ∙ (ap (λ ys. T.heard (hearing T (heard_first T s i ys) (suc i) qs (less_first came q.0)) i x.a) (sym none)
          ∙ (ap (λ (ys : List Item). hear_at T (hearing T s i (q ∷ qs) came) (slice_get (i ∷ places_to d (suc i) qs) (length ys)) x.a) (sym (ap came (sym same) ∙ none))
          ∙ ap (λ ls. hear_at T (hearing T s i (q ∷ qs) came) (slice_get ls (length (came d))) x.a) (sym lines)))))
      here next same (y ∷ ys) some =
          let s1 = T.heard s i y.a in
          let k : SameTalk T s s1 = subst (λ xs. SameTalk T s (heard_first T s i xs)) some (first_keeps T laws s i (came q.0) v (omega (arith, low)) (small q.0)) in
          let lines : places_to d i (q ∷ qs) ≡ i ∷ places_to d (suc i) qs = ap (λ b. cond b (i ∷ places_to d (suc i) qs) (places_to d (suc i) qs)) (eq-eqb q.0 d same) in
          let first : with_reply came d x q.0 ≡ y ∷ (ys ++ x ∷ []) = subst (λ k. with_reply came k x q.0 ≡ came q.0 ++ x ∷ []) same (with_here came q.0 x) ∙ ap (λ zs. zs ++ x ∷ []) some in
          let of_d : came d ≡ y ∷ ys = ap came (sym same) ∙ some in
          let count : less_first came q.0 d ≡ ys = ap (λ c. cond c (drop 1 (came d)) (came d)) (eq-eqb d q.0 (sym same)) ∙ ap (drop 1) of_d in
          let after : hearing T s1 (suc i) qs (with_reply (less_first came q.0) d x) ≡ hear_at T (hearing T s1 (suc i) qs (less_first came q.0)) (slice_get (places_to d (suc i) qs) (length (less_first came q.0 d))) x.a =
          next s1 (less_first came q.0) k.valid (omega (arith, low, ap length k.queries)) (λ e. small_rest (e == q.0) (came e) (small e)) in
          let was : hearing T s1 (suc i) qs (less_first came q.0) ≡ hearing T s i (q ∷ qs) came = ap (λ xs. hearing T (heard_first T s i xs) (suc i) qs (less_first came q.0)) (sym some) in
          ap (λ zs. hearing T (heard_first T s i zs) (suc i) qs (less_first (with_reply came d x) q.0)) first
          ∙ (ap (hearing T s1 (suc i) qs) (left_some came d q.0 x y ys same some)
          ∙ (after
          ∙ (ap (λ (zs : List Item). hear_at T (hearing T s1 (suc i) qs (less_first came q.0)) (slice_get (places_to d (suc i) qs) (length zs)) x.a) count
          ∙ (ap (λ (t : S). hear_at T t (slice_get (places_to d (suc i) qs) (length ys)) x.a) was
          ∙ (ap (λ (zs : List Item). hear_at T (hearing T s i (q ∷ qs) came) (slice_get (i ∷ places_to d (suc i) qs) (length zs)) x.a) (sym of_d)
          ∙ ap (λ ls. hear_at T (hearing T s i (q ∷ qs) came) (slice_get ls (length (came d))) x.a) (sym lines))))))

-- the numbers of the queries to a rank are those of queries
pub place_low : (d i : ℕ) (qs : List (ℕ × ℕ)) (n j : ℕ) → slice_get (places_to d i qs) n ≡ Some j → j < i + length qs
place_low d i [] n j is = absurd (cc)
place_low d i (q ∷ qs) n j is = by (λ m. place_low d (suc i) qs m j) (q.0 == d) refl n is where
  by : ((m : ℕ) → slice_get (places_to d (suc i) qs) m ≡ Some j → j < suc i + length qs) → (b : Bool) → (q.0 == d) ≡ b → (n : ℕ) → slice_get (places_to d i (q ∷ qs)) n ≡ Some j → j < i + length (q ∷ qs)
  by next true e zero is =
      let lines : places_to d i (q ∷ qs) ≡ i ∷ places_to d (suc i) qs = ap (λ b. cond b (i ∷ places_to d (suc i) qs) (places_to d (suc i) qs)) e in
      let same : Some i ≡ Some j = sym (ap (λ ls. slice_get ls 0) lines) ∙ is in
      let j' : i ≡ j = cc in
      omega (arith, j')
  by next true e (suc n) is =
      let lines : places_to d i (q ∷ qs) ≡ i ∷ places_to d (suc i) qs = ap (λ b. cond b (i ∷ places_to d (suc i) qs) (places_to d (suc i) qs)) e in
      let rest = next n (sym (ap (λ ls. slice_get ls (suc n)) lines) ∙ is) in
      omega (arith, rest)
  by next false e n is =
      let lines : places_to d i (q ∷ qs) ≡ places_to d (suc i) qs = ap (λ b. cond b (i ∷ places_to d (suc i) qs) (places_to d (suc i) qs)) e in
      let rest = next n (sym (ap (λ ls. slice_get ls n) lines) ∙ is) in
      omega (arith, rest)

-- where all replies came, each query was heard as its answer
pub all_heard : {S : Type 0} (T : Talk S) (all : ℕ → S) (p r : ℕ) (s : S) (i : ℕ) (qs : List (ℕ × ℕ)) (came : ℕ → List Item) → All (λ (q : ℕ × ℕ). q.0 < p) qs
    → ((d : ℕ) → d < p → came d ≡ answers T (all d) r (items_of d (as_items qs))) → hearing T s i qs came ≡ answered_from T all r s i qs
all_heard T all p r s i [] came to each = refl
all_heard T all p r s i (q ∷ qs) came to each =
    let low : q.0 < p = all_head (λ (q : ℕ × ℕ). q.0 < p) q qs to in
    let first : came q.0 ≡ carrying (T.answer (all q.0) r q.1) ∷ answers T (all q.0) r (items_of q.0 (as_items qs)) =
    each q.0 low ∙ ap (answers T (all q.0) r) (items_here (q.0, carrying q.1) (as_items qs)) in
    ap (λ xs. hearing T (heard_first T s i xs) (suc i) qs (less_first came q.0)) first
    ∙ all_heard T all p r (T.heard s i (T.answer (all q.0) r q.1)) (suc i) qs (less_first came q.0) (all_tail (λ (q : ℕ × ℕ). q.0 < p) q qs to)
    (λ d b. elim (cases_eq d q.0) [
      | inl here ↦
          ap (λ c. cond c (drop 1 (came d)) (came d)) (eq-eqb d q.0 here)
          ∙ (ap (λ k. drop 1 (came k)) here ∙ (ap (drop 1) first ∙ ap (λ k. answers T (all k) r (items_of k (as_items qs))) (sym here)))
      | inr apart ↦
          ap (λ c. cond c (drop 1 (came d)) (came d)) (ne_eqb d q.0 apart)
          ∙ (each d b ∙ ap (answers T (all d) r) (items_other d (q.0, carrying q.1) (as_items qs) (λ e. apart (sym e))))
    ])
