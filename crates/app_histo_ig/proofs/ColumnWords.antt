-- Sums of words are words of sums, as long as the sums are far from the ends of 64 bits.
use Rattle.std.proofs.Common.{◌≡◌, ℕ, ◌+◌, ◌*◌, ◌%◌, ◌<◌, ◌≤◌, ◌^◌, ◌==◌, cond, List, [], ◌∷◌, All, map, length, arith, refl, sym, ap, ◌∙◌, subst, inl, inr, ℤ, pos, negsuc, ◌+ℤ◌}
use Rattle.std.specs.Prelude.{nat_abs}
use Rattle.std.specs.List.{sum_by, fold, filter}
use Rattle.std.proofs.lemmas.Int.{ints}
use Rattle.std.proofs.lemmas.Bool.{cases_Bool}
use Rattle.std.proofs.lemmas.Bool.Decides.{nat_tests}
use Rattle.std.proofs.lemmas.List.Sums.{sum_by-cons}
use Rattle.bale_items.specs.declared.triple.Triple.{Triple}
use Rattle.bale_items.specs.Bits.{twos_complement, from_twos_complement}
use Rattle.list_laws.proofs.Lists.{all_head, all_tail}
use Rattle.mtx_text.specs.Sparse.{Sparse, IsSparse}
use Rattle.app_histo_ig.specs.IgLines.{column_sum}
use Rattle.app_histo_ig.proofs.IgRounds.{column_bits}

add_words : (a v z : ℤ) → z ≡ a +ℤ v → nat_abs a < 2 ^ 62 → nat_abs v < 2 ^ 62 → twos_complement z ≡ (twos_complement a + twos_complement v) % 2 ^ 64
add_words (pos a) (pos v) (pos z) e h k = omega (arith, ints)
add_words (pos a) (pos v) (negsuc z) e h k = absurd (omega (arith, ints))
add_words (pos a) (negsuc v) (pos z) e h k = omega (arith, ints)
add_words (pos a) (negsuc v) (negsuc z) e h k = omega (arith, ints)
add_words (negsuc a) (pos v) (pos z) e h k = omega (arith, ints)
add_words (negsuc a) (pos v) (negsuc z) e h k = omega (arith, ints)
add_words (negsuc a) (negsuc v) (pos z) e h k = absurd (omega (arith, ints))
add_words (negsuc a) (negsuc v) (negsuc z) e h k = omega (arith, ints)

add_abs : (a v z : ℤ) → z ≡ a +ℤ v → nat_abs z ≤ nat_abs a + nat_abs v
add_abs (pos a) (pos v) (pos z) e = omega (arith, ints)
add_abs (pos a) (pos v) (negsuc z) e = absurd (omega (arith, ints))
add_abs (pos a) (negsuc v) (pos z) e = omega (arith, ints)
add_abs (pos a) (negsuc v) (negsuc z) e = omega (arith, ints)
add_abs (negsuc a) (pos v) (pos z) e = omega (arith, ints)
add_abs (negsuc a) (pos v) (negsuc z) e = omega (arith, ints)
add_abs (negsuc a) (negsuc v) (pos z) e = absurd (omega (arith, ints))
add_abs (negsuc a) (negsuc v) (negsuc z) e = omega (arith, ints)

word_back : (z : ℤ) → nat_abs z < 2 ^ 63 → from_twos_complement (twos_complement z) ≡ z
word_back (pos n) h = grind (arith, nat_tests)
word_back (negsuc n) h = grind (arith, nat_tests)

-- the values of a column, and their sum onto a number
vals : ℕ → List Triple → List ℤ
vals j ts = map (λ (t : Triple). t.v) (filter (λ (t : Triple). t.j == j) ts)

record IsWordSum (z a : ℤ) (bits count : ℕ) : Type 0 where
  word : twos_complement z ≡ (twos_complement a + bits) % 2 ^ 64
  small : nat_abs z ≤ nat_abs a + 1_000_000_000_000 * count

word_low : (a : ℤ) → nat_abs a < 2 ^ 62 → twos_complement a < 2 ^ 64
word_low (pos n) h = omega arith
word_low (negsuc n) h = omega arith

sum_words : (j : ℕ) (ts : List Triple) (a : ℤ) → All (λ (t : Triple). nat_abs t.v ≤ 1_000_000_000_000) ts → nat_abs a + 1_000_000_000_000 * length ts < 2 ^ 62
    → IsWordSum (fold ◌+ℤ◌ a (vals j ts)) a (sum_by (λ (t : Triple). cond (t.j == j) (twos_complement t.v) 0) ts) (length ts)
unfolding vals
sum_words j [] a h low = record { word = (let w : twos_complement a < 2 ^ 64 = word_low a (omega arith) in omega arith); small = omega arith }
sum_words j (t ∷ ts) a h low =
    let limit : nat_abs t.v ≤ 1_000_000_000_000 = all_head (λ (u : Triple). nat_abs u.v ≤ 1_000_000_000_000) t ts h in
    let sum : sum_by (λ (u : Triple). cond (u.j == j) (twos_complement u.v) 0) (t ∷ ts) ≡ cond (t.j == j) (twos_complement t.v) 0 + sum_by (λ (u : Triple). cond (u.j == j) (twos_complement u.v) 0) ts =
    sum_by-cons (λ (u : Triple). cond (u.j == j) (twos_complement u.v) 0) t ts in
    elim (cases_Bool (t.j == j)) [
      | inl hit ↦
          let abs : nat_abs (a +ℤ t.v) ≤ nat_abs a + nat_abs t.v = add_abs a t.v (a +ℤ t.v) refl in
          let rest : IsWordSum (fold ◌+ℤ◌ (a +ℤ t.v) (vals j ts)) (a +ℤ t.v) (sum_by (λ (u : Triple). cond (u.j == j) (twos_complement u.v) 0) ts) (length ts) =
          sum_words j ts (a +ℤ t.v) (all_tail (λ (u : Triple). nat_abs u.v ≤ 1_000_000_000_000) t ts h) (omega arith) in
          let one : twos_complement (a +ℤ t.v) ≡ (twos_complement a + twos_complement t.v) % 2 ^ 64 = add_words a t.v (a +ℤ t.v) refl (omega arith) (omega arith) in
          let is : cond (t.j == j) (twos_complement t.v) 0 ≡ twos_complement t.v = ap (λ b. cond b (twos_complement t.v) 0) hit in
          let here : fold ◌+ℤ◌ a (vals j (t ∷ ts)) ≡ fold ◌+ℤ◌ (a +ℤ t.v) (vals j ts) = ap (λ b. fold ◌+ℤ◌ a (map (λ (u : Triple). u.v) (cond b (t ∷ filter (λ (u : Triple). u.j == j) ts) (filter (λ (u : Triple). u.j == j) ts)))) hit in
          record {
            word = ap twos_complement here ∙ rest.word ∙ omega (arith, one, is, sum);
            small = subst (λ z. nat_abs z ≤ nat_abs a + 1_000_000_000_000 * length (t ∷ ts)) (sym here) (omega (arith, rest.small, abs, limit));
          }
      | inr missed ↦
          let rest : IsWordSum (fold ◌+ℤ◌ a (vals j ts)) a (sum_by (λ (u : Triple). cond (u.j == j) (twos_complement u.v) 0) ts) (length ts) =
          sum_words j ts a (all_tail (λ (u : Triple). nat_abs u.v ≤ 1_000_000_000_000) t ts h) (omega arith) in
          let is : cond (t.j == j) (twos_complement t.v) 0 ≡ 0 = ap (λ b. cond b (twos_complement t.v) 0) missed in
          let here : fold ◌+ℤ◌ a (vals j (t ∷ ts)) ≡ fold ◌+ℤ◌ a (vals j ts) = ap (λ b. fold ◌+ℤ◌ a (map (λ (u : Triple). u.v) (cond b (t ∷ filter (λ (u : Triple). u.j == j) ts) (filter (λ (u : Triple). u.j == j) ts)))) missed in
          record {
            word = ap twos_complement here ∙ rest.word ∙ omega (arith, is, sum);
            small = subst (λ z. nat_abs z ≤ nat_abs a + 1_000_000_000_000 * length (t ∷ ts)) (sym here) (omega (arith, rest.small));
          }
    ]

-- the word of a column is that of the column's sum, and gives it back
pub record IsColumnSum (m : Sparse) (j : ℕ) : Type 0 where
  pub word : column_bits m.entries j ≡ twos_complement (column_sum j m.entries)
  pub back : from_twos_complement (twos_complement (column_sum j m.entries)) ≡ column_sum j m.entries
  pub small : nat_abs (column_sum j m.entries) < 2 ^ 62

pub column_word : (m : Sparse) (j : ℕ) → IsSparse m → IsColumnSum m j
unfolding vals
column_word m j is =
    let few : length m.entries ≤ 524_288 = is.few in
    let all : IsWordSum (column_sum j m.entries) (pos 0) (sum_by (λ (t : Triple). cond (t.j == j) (twos_complement t.v) 0) m.entries) (length m.entries) =
    sum_words j m.entries (pos 0) (λ k d l. (is.inside k d l).limit) (omega arith) in
    let small : nat_abs (column_sum j m.entries) < 2 ^ 62 = omega (arith, all.small, few) in
    record {
      word = sym (all.word ∙ omega arith);
      back = word_back (column_sum j m.entries) (omega arith);
      small = small;
    }
