-- What a column's owner has added up, once it has absorbed a number for each entry of its columns.
use Rattle.std.proofs.Common.{ℕ, ◌+◌, ◌/◌, ◌%◌, ◌^◌, ◌<◌, ◌≡◌, ◌==◌, cond, List, [], ◌∷◌, map, length, get_or, All, arith, inl, inr, refl, sym, ap, ◌∙◌, subst}
use Rattle.std.specs.List.{fold, sum_by, enumerate_from}
use Rattle.std.proofs.lemmas.Bool.{cases_eq, eq-eqb, ne_eqb}
use Rattle.std.proofs.lemmas.List.{get_or-set_same, get_or-set_other}
use Rattle.std.proofs.lemmas.List.Sums.{sum_by-cons}
use Rattle.bale_items.specs.declared.Item.{Item}
use Rattle.bale_items.specs.declared.triple.Triple.{Triple}
use Rattle.list_laws.proofs.Lists.{all_head, all_tail}
use Rattle.sparse_rows.specs.Deals.{dealt}
use Rattle.sparse_rows.specs.Owners.{Numbered, column_owner}
use Rattle.app_histo_ig.specs.Owners.{with_sum_risen}
use Rattle.app_histo_ig.specs.laws.OwnerLaws.{risen_len}
use Rattle.sparse_rows.proofs.Places.{place_own}
use Rattle.sparse_rows.proofs.EveryEntry.{came_to, came_keyed}

-- a list of numbers after all that came
abbrev pub risen_all : ℕ → List ℕ → List (ℕ × Item) → List ℕ
risen_all ranks numbers came = fold (λ ns e. with_sum_risen ranks ns e.1) numbers came

pub risen_all_len : (ranks : ℕ) (numbers : List ℕ) (came : List (ℕ × Item)) → length (risen_all ranks numbers came) ≡ length numbers
risen_all_len ranks numbers [] = refl
risen_all_len ranks numbers (e ∷ es) = risen_all_len ranks (with_sum_risen ranks numbers e.1) es ∙ risen_len ranks numbers e.1

-- what is added for column j
abbrev pub for_column : ℕ → ℕ × Item → ℕ
for_column j e = cond (e.1.a == j) e.1.b 0

risen_here : (ranks j : ℕ) (numbers : List ℕ) (e : ℕ × Item) → e.1.a % ranks ≡ j % ranks → j / ranks < length numbers → get_or numbers (j / ranks) 0 < 2 ^ 64
    → get_or (with_sum_risen ranks numbers e.1) (j / ranks) 0 ≡ (get_or numbers (j / ranks) 0 + for_column j e) % 2 ^ 64
risen_here ranks j numbers e own inside word =
    elim (cases_eq e.1.a j) [
      | inl same ↦
          let hit : for_column j e ≡ e.1.b = ap (λ b. cond b e.1.b 0) (eq-eqb e.1.a j same) in
          let new : get_or (with_sum_risen ranks numbers e.1) (j / ranks) 0 ≡ (get_or numbers (j / ranks) 0 + e.1.b) % 2 ^ 64 =
          subst (λ k. get_or (with_sum_risen ranks numbers e.1) k 0 ≡ (get_or numbers k 0 + e.1.b) % 2 ^ 64) (ap (λ k. k / ranks) same)
          (get_or-set_same numbers (e.1.a / ranks) ((get_or numbers (e.1.a / ranks) 0 + e.1.b) % 2 ^ 64) 0 (subst (λ k. k / ranks < length numbers) (sym same) inside)) in
          new ∙ ap (λ k. (get_or numbers (j / ranks) 0 + k) % 2 ^ 64) (sym hit)
      | inr other ↦
          let missed : for_column j e ≡ 0 = ap (λ b. cond b e.1.b 0) (ne_eqb e.1.a j other) in
          let new : get_or (with_sum_risen ranks numbers e.1) (j / ranks) 0 ≡ get_or numbers (j / ranks) 0 =
          get_or-set_other numbers (e.1.a / ranks) (j / ranks) ((get_or numbers (e.1.a / ranks) 0 + e.1.b) % 2 ^ 64) 0 (λ place. other (place_own ranks e.1.a j own (sym place))) in
          omega (arith, missed, new, word)
    ]

-- the number of column j is what it was and all that was added, modulo 2^64
pub risen_sum : (ranks j : ℕ) (numbers : List ℕ) (came : List (ℕ × Item)) → All {X = ℕ × Item} (λ e. e.1.a % ranks ≡ j % ranks) came → j / ranks < length numbers → get_or numbers (j / ranks) 0 < 2 ^ 64
    → get_or (risen_all ranks numbers came) (j / ranks) 0 ≡ (get_or numbers (j / ranks) 0 + sum_by (for_column j) came) % 2 ^ 64
risen_sum ranks j numbers [] own inside word = omega arith
risen_sum ranks j numbers (e ∷ es) own inside word =
    let one : get_or (with_sum_risen ranks numbers e.1) (j / ranks) 0 ≡ (get_or numbers (j / ranks) 0 + for_column j e) % 2 ^ 64 =
    risen_here ranks j numbers e (all_head (λ (w : ℕ × Item). w.1.a % ranks ≡ j % ranks) e es own) inside word in
    let rest : get_or (risen_all ranks (with_sum_risen ranks numbers e.1) es) (j / ranks) 0 ≡ (get_or (with_sum_risen ranks numbers e.1) (j / ranks) 0 + sum_by (for_column j) es) % 2 ^ 64 =
    risen_sum ranks j (with_sum_risen ranks numbers e.1) es (all_tail (λ (w : ℕ × Item). w.1.a % ranks ≡ j % ranks) e es own) (subst (λ n. j / ranks < n) (sym (risen_len ranks numbers e.1)) inside) (omega (arith, one)) in
    let sum : sum_by (for_column j) (e ∷ es) ≡ for_column j e + sum_by (for_column j) es = sum_by-cons (for_column j) e es in
    rest ∙ omega (arith, one, sum)

-- the item of an entry that adds a number to its column
abbrev pub column_item : (Numbered → ℕ) → Numbered → Item
column_item value e = record { a = e.1.j; b = value e; c = 0 }

-- what comes to a column's owner is for its columns
pub came_own : (ranks r : ℕ) (from value : Numbered → ℕ) (es : List Numbered)
    → All {X = ℕ × Item} (λ w. w.1.a % ranks ≡ r) (came_to from (column_owner ranks) (column_item value) r es)
came_own ranks r from value es = came_keyed (λ w. w.1.a % ranks ≡ r) from (column_owner ranks) (column_item value) r es (λ x same. same)

-- and what is added for column j is the sum over the column's entries
pub came_sum : (ranks j : ℕ) (from value : Numbered → ℕ) (es : List Numbered)
    → sum_by (for_column j) (came_to from (column_owner ranks) (column_item value) (j % ranks) es) ≡ sum_by (λ e. cond (e.1.j == j) (value e) 0) es
came_sum ranks j from value [] = refl
came_sum ranks j from value (e ∷ es) =
    let came : List Numbered → List (ℕ × Item) = λ xs. map (λ x. (from x, column_item value x)) xs in
    let own : List Numbered = dealt (column_owner ranks) (j % ranks) es in
    let rest : sum_by (for_column j) (came own) ≡ sum_by (λ x. cond (x.1.j == j) (value x) 0) es = came_sum ranks j from value es in
    let sum : sum_by (λ x. cond (x.1.j == j) (value x) 0) (e ∷ es) ≡ cond (e.1.j == j) (value e) 0 + sum_by (λ x. cond (x.1.j == j) (value x) 0) es =
    sum_by-cons (λ x. cond (x.1.j == j) (value x) 0) e es in
    elim (cases_eq (column_owner ranks e) (j % ranks)) [
      | inl same ↦
          ap (λ b. sum_by (for_column j) (came (cond b (e ∷ own) own))) (eq-eqb (column_owner ranks e) (j % ranks) same)
          ∙ sum_by-cons (for_column j) (from e, column_item value e) (came own)
          ∙ ap (λ k. cond (e.1.j == j) (value e) 0 + k) rest
          ∙ sym sum
      | inr apart ↦
          let missed : cond (e.1.j == j) (value e) 0 ≡ 0 = ap (λ b. cond b (value e) 0) (ne_eqb e.1.j j (λ q. apart (ap (λ k. k % ranks) q))) in
          ap (λ b. sum_by (for_column j) (came (cond b (e ∷ own) own))) (ne_eqb (column_owner ranks e) (j % ranks) apart)
          ∙ omega (arith, rest, sum, missed)
    ]

-- a sum over numbered entries is one over the entries
pub numbered_sum : (f : Triple → ℕ) (n : ℕ) (ts : List Triple) → sum_by (λ (e : Numbered). f e.1) (enumerate_from n ts) ≡ sum_by f ts
numbered_sum f n [] = refl
numbered_sum f n (t ∷ ts) =
    sum_by-cons (λ (e : Numbered). f e.1) (n, t) (enumerate_from (n + 1) ts) ∙ ap (λ k. f t + k) (numbered_sum f (n + 1) ts) ∙ sym (sum_by-cons f t ts)
