-- No byte after the first one past the limit decides anything.
use Rattle.std.proofs.Common.{◌≡◌, ℕ, ◌+◌, ◌≤◌, ◌<◌, ◌==◌, List, length, take, ap, inl, inr, nat_lt, true, arith}
use Rattle.std.proofs.lemmas.Bool.{cases_lt, lt-ltb}
use Rattle.std.proofs.lemmas.List.{length-take, take_all, take-take}
use Rattle.std.specs.Prelude.{count_by}
use Rattle.mtx_text.specs.Grammar.{line_after, matrix_of}

line_same : (a n : ℕ) (text : List ℕ) → a ≤ n → line_after a (take n text) ≡ line_after a text
line_same a n text h = ap (λ l. 1 + count_by (λ b. b == 10) l) (take-take a n text h)

pub front_decides : (n : ℕ) (text : List ℕ) → 16_777_216 < n → matrix_of (take n text) ≡ matrix_of text
unfolding matrix_of
front_decides n text h =
    elim (cases_lt 16_777_216 (length text)) [
      | inl long ↦
          let front : nat_lt 16_777_216 (length (take n text)) ≡ true = lt-ltb 16_777_216 (length (take n text)) (omega (arith, length-take n text)) in
          rw (front, lt-ltb 16_777_216 (length text) long, line_same 16_777_216 n text (omega arith))
      | inr within ↦ rw (take_all n text (omega arith))
    ]
