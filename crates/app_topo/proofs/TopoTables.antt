-- The lists of own numbers as tables of functions, and what all that came adds to them.
use Rattle.std.proofs.Common.{ℕ, ◌+◌, ◌*◌, ◌/◌, ◌%◌, ◌^◌, ◌<◌, ◌≡◌, ◌≢◌, Bool, true, false, cond, eqb, List, [], ◌∷◌, map, length, get_or, sum_by, All, arith, inl, inr, refl, sym, ap, ◌∙◌, subst}
use Rattle.std.specs.List.{fold, range_with_len}
use Rattle.std.proofs.lemmas.Bool.{cases_Bool, cases_eq, eq-eqb, ne_eqb}
use Rattle.std.proofs.lemmas.Nat.{div-add-mod', mod-mul-add, div-mul-add}
use Rattle.std.proofs.lemmas.List.{get_or-set_same, get_or-set_other}
use Rattle.std.proofs.lemmas.List.FromFn.{length-map-range_with_len, get_or-map-range_with_len, fill_by_all}
use Rattle.std.proofs.lemmas.List.Sums.{sum_by-cons}
use Rattle.bale_items.specs.declared.Item.{Item}
use Rattle.list_laws.proofs.Lists.{all_head, all_tail, changed_len}
use Rattle.sparse_rows.specs.Owners.{places_for}
use Rattle.sparse_rows.specs.Deals.{dealt}
use Rattle.sparse_rows.proofs.EveryEntry.{came_to, same_map}
use Rattle.sparse_rows.proofs.Places.{place_below}
use Rattle.app_topo.specs.Topos.{with_rise, number_at}

-- own numbers by a function: that of x stands at x div ranks
abbrev pub table : ℕ → ℕ → ℕ → (ℕ → ℕ) → List ℕ
table ranks r n f = map (λ k. f (k * ranks + r)) (range_with_len 0 (places_for ranks n))

table_get : (ranks r n k d : ℕ) (f : ℕ → ℕ) → k < places_for ranks n → get_or (table ranks r n f) k d ≡ f (k * ranks + r)
table_get ranks r n k d f low = get_or-map-range_with_len (λ k. f (k * ranks + r)) 0 (places_for ranks n) k k d low (omega arith)

pub table_at : (ranks r n x : ℕ) (f : ℕ → ℕ) → 0 < ranks → x % ranks ≡ r → x < n → number_at ranks (table ranks r n f) x ≡ f x
table_at ranks r n x f some own low =
    table_get ranks r n (x / ranks) 0 f (place_below ranks n x some low)
    ∙ ap f (ap (λ k. x / ranks * ranks + k) (sym own) ∙ div-add-mod' x ranks)

pub table_same : (ranks r n : ℕ) (f g : ℕ → ℕ) → r < ranks → ((i : ℕ) → i % ranks ≡ r → f i ≡ g i) → table ranks r n f ≡ table ranks r n g
table_same ranks r n f g low h =
    same_map (λ k. f (k * ranks + r)) (λ k. g (k * ranks + r)) (range_with_len 0 (places_for ranks n)) (λ k d l. h _ (mod-mul-add _ ranks r low))

raised_at : ℕ → ℕ → (ℕ → ℕ) → ℕ → ℕ
raised_at a b f i = cond (eqb i a) ((f i + b) % 2 ^ 64) (f i)

added_table : (ranks r n a b : ℕ) (f : ℕ → ℕ) → r < ranks → a % ranks ≡ r → a < n → with_rise ranks (table ranks r n f) a b ≡ table ranks r n (raised_at a b f)
unfolding raised_at
added_table ranks r n a b f low own inside =
    let old : List ℕ = table ranks r n f in
    let size : length old ≡ places_for ranks n = length-map-range_with_len (λ k. f (k * ranks + r)) 0 (places_for ranks n) in
    let place : a / ranks < places_for ranks n = place_below ranks n a (omega arith) inside in
    let whole : a / ranks * ranks + r ≡ a = ap (λ k. a / ranks * ranks + k) (sym own) ∙ div-add-mod' a ranks in
    fill_by_all (λ k. raised_at a b f (k * ranks + r)) (with_rise ranks old a b) (places_for ranks n) 0 (changed_len old (a / ranks) 0 (λ v. (v + b) % 2 ^ 64) ∙ size) (λ k l.
    elim (cases_eq (a / ranks) k) [
      | inl here ↦
          let at_it : k * ranks + r ≡ a = ap (λ q. q * ranks + r) (sym here) ∙ whole in
          ap (λ q. get_or (with_rise ranks old a b) q 0) (sym here)
          ∙ (get_or-set_same old (a / ranks) ((get_or old (a / ranks) 0 + b) % 2 ^ 64) 0 (subst (λ q. a / ranks < q) (sym size) place)
          ∙ ap (λ v. (v + b) % 2 ^ 64) (table_get ranks r n (a / ranks) 0 f place ∙ ap (λ q. f (q * ranks + r)) here)
          ∙ sym (ap (λ t. cond t ((f (k * ranks + r) + b) % 2 ^ 64) (f (k * ranks + r))) (eq-eqb (k * ranks + r) a at_it)))
      | inr other ↦
          let apart : k * ranks + r ≢ a = λ e. other (ap (λ q. q / ranks) (sym e) ∙ div-mul-add k ranks r low) in
          get_or-set_other old (a / ranks) k ((get_or old (a / ranks) 0 + b) % 2 ^ 64) 0 (λ e. other (sym e))
          ∙ table_get ranks r n k 0 f l
          ∙ sym (ap (λ t. cond t ((f (k * ranks + r) + b) % 2 ^ 64) (f (k * ranks + r))) (ne_eqb (k * ranks + r) a apart))
    ])

-- ---- All that came

abbrev pub added_all : ℕ → (Item → Bool) → (Item → ℕ) → List ℕ → List (ℕ × Item) → List ℕ
added_all ranks chosen amount numbers came = fold (λ ns e. cond (chosen e.1) (with_rise ranks ns e.1.a (amount e.1)) ns) numbers came

-- what an item adds at i
abbrev pub share : (Item → Bool) → (Item → ℕ) → ℕ → ℕ × Item → ℕ
share chosen amount i e = cond (chosen e.1) (cond (eqb e.1.a i) (amount e.1) 0) 0

abbrev pub IsFor : ℕ → ℕ → ℕ → ℕ × Item → Type 0
IsFor ranks r n e = (e.1.a % ranks ≡ r) × (e.1.a < n)

raised_word : (a b i : ℕ) (f : ℕ → ℕ) → f i < 2 ^ 64 → raised_at a b f i < 2 ^ 64
unfolding raised_at
raised_word a b i f low =
    elim (cases_Bool (eqb i a)) [
      | inl t ↦ subst (λ c. cond c ((f i + b) % 2 ^ 64) (f i) < 2 ^ 64) (sym t) (omega arith)
      | inr u ↦ subst (λ c. cond c ((f i + b) % 2 ^ 64) (f i) < 2 ^ 64) (sym u) low
    ]

pub added_total : (ranks r n : ℕ) (chosen : Item → Bool) (amount : Item → ℕ) (f g : ℕ → ℕ) (came : List (ℕ × Item)) → r < ranks → All (IsFor ranks r n) came
    → ((i : ℕ) → i % ranks ≡ r → f i < 2 ^ 64) → ((i : ℕ) → i % ranks ≡ r → g i ≡ (f i + sum_by (share chosen amount i) came) % 2 ^ 64)
    → added_all ranks chosen amount (table ranks r n f) came ≡ table ranks r n g
unfolding raised_at
added_total ranks r n chosen amount f g [] low own word is = table_same ranks r n f g low (λ i mine. (let w : f i < 2 ^ 64 = word i mine in let e : g i ≡ (f i + 0) % 2 ^ 64 = is i mine in omega arith))
added_total ranks r n chosen amount f g (e ∷ es) low own word is =
    let here = all_head (IsFor ranks r n) e es own in
    let rest = all_tail (IsFor ranks r n) e es own in
    let cons : (i : ℕ) → sum_by (share chosen amount i) (e ∷ es) ≡ share chosen amount i e + sum_by (share chosen amount i) es = λ i. sum_by-cons (share chosen amount i) e es in
    elim (cases_Bool (chosen e.1)) [
      | inl used ↦
          let f2 : ℕ → ℕ = raised_at e.1.a (amount e.1) f in
          ap (λ c. added_all ranks chosen amount (cond c (with_rise ranks (table ranks r n f) e.1.a (amount e.1)) (table ranks r n f)) es) used
          ∙ ap (λ ns. added_all ranks chosen amount ns es) (added_table ranks r n e.1.a (amount e.1) f low here.0 here.1)
          ∙ added_total ranks r n chosen amount f2 g es low rest (λ i mine. raised_word e.1.a (amount e.1) i f (word i mine)) (λ i mine.
          let given : g i ≡ (f i + sum_by (share chosen amount i) (e ∷ es)) % 2 ^ 64 = is i mine in
          let s : sum_by (share chosen amount i) (e ∷ es) ≡ share chosen amount i e + sum_by (share chosen amount i) es = cons i in
          elim (cases_eq i e.1.a) [
            | inl same ↦
                let mark : f2 i ≡ (f i + amount e.1) % 2 ^ 64 = ap (λ c. cond c ((f i + amount e.1) % 2 ^ 64) (f i)) (eq-eqb i e.1.a same) in
                let part : share chosen amount i e ≡ amount e.1 = ap (λ c. cond {A = ℕ} c (cond (eqb e.1.a i) (amount e.1) 0) 0) used ∙ ap (λ c. cond {A = ℕ} c (amount e.1) 0) (eq-eqb e.1.a i (sym same)) in
                given ∙ omega (arith, s, mark, part)
            | inr other ↦
                let mark : f2 i ≡ f i = ap (λ c. cond c ((f i + amount e.1) % 2 ^ 64) (f i)) (ne_eqb i e.1.a other) in
                let part : share chosen amount i e ≡ 0 = ap (λ c. cond {A = ℕ} c (cond (eqb e.1.a i) (amount e.1) 0) 0) used ∙ ap (λ c. cond {A = ℕ} c (amount e.1) 0) (ne_eqb e.1.a i (λ q. other (sym q))) in
                given ∙ omega (arith, s, mark, part)
          ])
      | inr unused ↦
          ap (λ c. added_all ranks chosen amount (cond c (with_rise ranks (table ranks r n f) e.1.a (amount e.1)) (table ranks r n f)) es) unused
          ∙ added_total ranks r n chosen amount f g es low rest word (λ i mine.
          let given : g i ≡ (f i + sum_by (share chosen amount i) (e ∷ es)) % 2 ^ 64 = is i mine in
          let s : sum_by (share chosen amount i) (e ∷ es) ≡ share chosen amount i e + sum_by (share chosen amount i) es = cons i in
          let part : share chosen amount i e ≡ 0 = ap (λ c. cond {A = ℕ} c (cond (eqb e.1.a i) (amount e.1) 0) 0) unused in
          given ∙ omega (arith, s, part))
    ]

-- of a list whose items go to the owners of their first numbers, what comes to the owner of i adds
-- what the whole list does
pub came_share : {X : Type 0} (from : X → ℕ) (item : X → Item) (chosen : Item → Bool) (amount : Item → ℕ) (ranks i r : ℕ) (xs : List X) → i % ranks ≡ r
    → sum_by (share chosen amount i) (came_to from (λ x. (item x).a % ranks) item r xs) ≡ sum_by (λ x. share chosen amount i (from x, item x)) xs
came_share from item chosen amount ranks i r [] own = refl
came_share {X} from item chosen amount ranks i r (x ∷ xs) own =
    let came : List X → List (ℕ × Item) = λ ys. map (λ y. (from y, item y)) ys in
    let mine : List X = dealt (λ x. (item x).a % ranks) r xs in
    let rest : sum_by (share chosen amount i) (came mine) ≡ sum_by (λ x. share chosen amount i (from x, item x)) xs = came_share from item chosen amount ranks i r xs own in
    let s : sum_by (λ x. share chosen amount i (from x, item x)) (x ∷ xs) ≡ share chosen amount i (from x, item x) + sum_by (λ x. share chosen amount i (from x, item x)) xs = sum_by-cons (λ x. share chosen amount i (from x, item x)) x xs in
    elim (cases_eq ((item x).a % ranks) r) [
      | inl same ↦
          let c : sum_by (share chosen amount i) (came (x ∷ mine)) ≡ share chosen amount i (from x, item x) + sum_by (share chosen amount i) (came mine) = sum_by-cons (share chosen amount i) (from x, item x) (came mine) in
          ap (λ b. sum_by (share chosen amount i) (came (cond b (x ∷ mine) mine))) (eq-eqb ((item x).a % ranks) r same) ∙ omega (arith, c, rest, s)
      | inr other ↦
          let none : share chosen amount i (from x, item x) ≡ 0 =
          ap (λ b. cond (chosen (item x)) (cond {A = ℕ} b (amount (item x)) 0) 0) (ne_eqb (item x).a i (λ q. other (ap (λ k. k % ranks) q ∙ own))) ∙ zeros (chosen (item x)) in
          ap (λ b. sum_by (share chosen amount i) (came (cond b (x ∷ mine) mine))) (ne_eqb ((item x).a % ranks) r other) ∙ omega (arith, rest, s, none)
    ]
  where
    zeros : (b : Bool) → cond {A = ℕ} b 0 0 ≡ 0
    zeros true = refl
    zeros false = refl
