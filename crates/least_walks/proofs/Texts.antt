-- The lines of more vertices go on from those of fewer.
use Rattle.std.proofs.Common.{◌≡◌, ℕ, zero, suc, ◌+◌, ◌<◌, ◌≤◌, ◌-◌, ◌∙◌, ◌++◌, List, [], sym, ap, subst, arith, append_assoc, append-nil, add-one, Option}
use Rattle.bale_types.specs.Stream.{taken_with, IsTakenPrefix}
use Rattle.bale_types.proofs.Moves.{after-after}
use Rattle.least_walks.specs.Lines.{vertex_line, sssp_lines}

-- one line more
pub lines_more : (weights : ℕ → Option ℕ) (v : ℕ) (found : Option ℕ) → found ≡ weights v → (old : Option (List ℕ))
    → taken_with (taken_with old (sssp_lines weights v)) (vertex_line v found) ≡ taken_with old (sssp_lines weights (v + 1))
lines_more weights v found same old =
    after-after old (sssp_lines weights v) (vertex_line v found)
    ∙ ap (λ (w : Option ℕ). taken_with old (sssp_lines weights v ++ vertex_line v w)) same
    ∙ ap (λ (k : ℕ). taken_with old (sssp_lines weights k)) (sym (add-one v))

-- what is left of the lines of all vertices behind those of v
rest_lines : (ℕ → Option ℕ) → (v more : ℕ) → List ℕ
rest_lines weights v zero = []
rest_lines weights v (suc more) = rest_lines weights v more ++ vertex_line (v + more) (weights (v + more))

lines_split : (weights : ℕ → Option ℕ) (v more : ℕ) → sssp_lines weights (v + more) ≡ sssp_lines weights v ++ rest_lines weights v more
unfolding rest_lines
lines_split weights v zero =
    let none : v + zero ≡ v = omega arith in
    ap (sssp_lines weights) none ∙ sym (append-nil _)
lines_split weights v (suc more) =
    let step : v + suc more ≡ suc (v + more) = omega arith in
    ap (sssp_lines weights) step
    ∙ (ap (λ (front : List ℕ). front ++ vertex_line (v + more) (weights (v + more))) (lines_split weights v more)
    ∙ append_assoc (sssp_lines weights v) (rest_lines weights v more) _)

-- a prefix of the first lines is a prefix of all lines
front_of_lines : (weights : ℕ → Option ℕ) (v rows : ℕ) → v ≤ rows → (taken old : Option (List ℕ))
    → IsTakenPrefix taken (taken_with old (sssp_lines weights v)) → IsTakenPrefix taken (taken_with old (sssp_lines weights rows))
front_of_lines weights v rows below taken old front =
    let total : v + (rows - v) ≡ rows = omega arith in
    record {
      rest = front.rest ++ rest_lines weights v (rows - v);
      whole = sym (after-after taken front.rest (rest_lines weights v (rows - v)))
          ∙ ap (λ (t : Option (List ℕ)). taken_with t (rest_lines weights v (rows - v))) front.whole
          ∙ after-after old (sssp_lines weights v) (rest_lines weights v (rows - v))
          ∙ ap (taken_with old) (sym (lines_split weights v (rows - v)) ∙ ap (sssp_lines weights) total);
    }

-- the line that failed
pub front_at_line : (weights : ℕ → Option ℕ) (v rows : ℕ) (found : Option ℕ) → v < rows → found ≡ weights v → (taken sofar old : Option (List ℕ))
    → sofar ≡ taken_with old (sssp_lines weights v) → IsTakenPrefix taken (taken_with sofar (vertex_line v found)) → IsTakenPrefix taken (taken_with old (sssp_lines weights rows))
front_at_line weights v rows found below same taken sofar old here front =
    front_of_lines weights (v + 1) rows (omega arith) taken old
    (subst (λ (t : Option (List ℕ)). IsTakenPrefix taken t) (ap (λ (t : Option (List ℕ)). taken_with t (vertex_line v found)) here ∙ lines_more weights v found same old) front)
