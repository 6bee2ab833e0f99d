-- The lines of more columns go on from those of fewer.
use Rattle.std.proofs.Common.{◌≡◌, ℕ, zero, suc, ◌+◌, ◌<◌, ◌≤◌, ◌-◌, ◌∙◌, ◌++◌, List, [], sym, ap, subst, arith, append_assoc, append-nil, add-one, Option}
use Rattle.bale_types.specs.Stream.{taken_with, IsTakenPrefix}
use Rattle.bale_types.proofs.Moves.{after-after}
use Rattle.bale_items.specs.declared.triple.Triple.{Triple}
use Rattle.app_histo_ig.specs.HistoLines.{in_column, histo_line, histo_lines}

-- one line more
pub histo_more : (entries : List Triple) (j n : ℕ) → n ≡ in_column j entries → (old : Option (List ℕ))
    → taken_with (taken_with old (histo_lines entries j)) (histo_line j n) ≡ taken_with old (histo_lines entries (j + 1))
histo_more entries j n same old =
    after-after old (histo_lines entries j) (histo_line j n)
    ∙ ap (λ (m : ℕ). taken_with old (histo_lines entries j ++ histo_line j m)) same
    ∙ ap (λ (k : ℕ). taken_with old (histo_lines entries k)) (sym (add-one j))

-- what is left of the lines of `cols` columns behind those of j
rest_lines : List Triple → (j more : ℕ) → List ℕ
rest_lines entries j zero = []
rest_lines entries j (suc more) = rest_lines entries j more ++ histo_line (j + more) (in_column (j + more) entries)

histo_split : (entries : List Triple) (j more : ℕ) → histo_lines entries (j + more) ≡ histo_lines entries j ++ rest_lines entries j more
unfolding rest_lines
histo_split entries j zero =
    let none : j + zero ≡ j = omega arith in
    ap (histo_lines entries) none ∙ sym (append-nil _)
histo_split entries j (suc more) =
    let step : j + suc more ≡ suc (j + more) = omega arith in
    ap (histo_lines entries) step
    ∙ (ap (λ (front : List ℕ). front ++ histo_line (j + more) (in_column (j + more) entries)) (histo_split entries j more)
    ∙ append_assoc (histo_lines entries j) (rest_lines entries j more) _)

-- a prefix of the first lines is a prefix of all lines
front_of_lines : (entries : List Triple) (j cols : ℕ) → j ≤ cols → (taken old : Option (List ℕ))
    → IsTakenPrefix taken (taken_with old (histo_lines entries j)) → IsTakenPrefix taken (taken_with old (histo_lines entries cols))
front_of_lines entries j cols below taken old front =
    let total : j + (cols - j) ≡ cols = omega arith in
    record {
      rest = front.rest ++ rest_lines entries j (cols - j);
      whole = sym (after-after taken front.rest (rest_lines entries j (cols - j)))
          ∙ ap (λ (t : Option (List ℕ)). taken_with t (rest_lines entries j (cols - j))) front.whole
          ∙ after-after old (histo_lines entries j) (rest_lines entries j (cols - j))
          ∙ ap (taken_with old) (sym (histo_split entries j (cols - j)) ∙ ap (histo_lines entries) total);
    }

-- the line that failed
pub front_at_line : (entries : List Triple) (j n cols : ℕ) → j < cols → n ≡ in_column j entries → (taken sofar old : Option (List ℕ))
    → sofar ≡ taken_with old (histo_lines entries j) → IsTakenPrefix taken (taken_with sofar (histo_line j n)) → IsTakenPrefix taken (taken_with old (histo_lines entries cols))
front_at_line entries j n cols below same taken sofar old here front =
    front_of_lines entries (j + 1) cols (omega arith) taken old
    (subst (λ (t : Option (List ℕ)). IsTakenPrefix taken t) (ap (λ (t : Option (List ℕ)). taken_with t (histo_line j n)) here ∙ histo_more entries j n same old) front)
