use Rattle.std.proofs.Common.{rules, ◌≡◌, ◌<◌, ◌+◌, ◌-◌, ℕ, List, [], length, slice_set, arith, ◌∙◌, inl, inr, eq-zero-or-pos}
use Rattle.std.proofs.lemmas.List.{get_or-set_same, get_or-set_other}
use Rattle.bale_types.specs.Digits.{four, AreDigits}
use Rattle.bale_types.proofs.fours.Fours.new.Goals as goal

-- one more
more : (table : List (List ℕ)) (row : List ℕ) (n : ℕ) → n < length table → row ≡ four n → AreDigits n table → AreDigits (n + 1) (slice_set table n row)
more table row n within is before = record {
  at = λ k below. elim (eq-zero-or-pos (n - k)) [
    | inl last ↦
        let same : k ≡ n = omega (arith, last, below) in
        rw same (get_or-set_same table n row [] within ∙ is)
    | inr first ↦ get_or-set_other table n k row [] (λ same. absurd (omega (arith, same, first))) ∙ before.at k (omega (arith, first))
  ];
}

pub loop-n-preserved : goal.loop-n-preserved
loop-n-preserved c = record {
  len = search rules;
  are = more c.loop-n.digits c.four_of.result c.loop-n.n (omega (arith, c.loop-n.invariant.len, c.loop-n-test.true)) c.four_of.ensures c.loop-n.invariant.are;
}
