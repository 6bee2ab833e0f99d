-- From how many a call moved, or what is wrong, to the number that C is told.
use Rattle.std.proofs.Common.{◌≡◌, ℕ, sym, ap, ◌∙◌, Result, ℤ}
use Rattle.rank_handles.specs.declared.answer.Answer.{Answer}
use Rattle.rank_handles.specs.Many.{number_or, moved_by, told_of, count_in}

module _ (r : Result ℕ Answer) (wrong : Answer) (told : ℤ) (is : told ≡ told_of r) (answer : r ≡ number_or wrong (moved_by r)) (count : count_in (told_of r) ≡ moved_by r) where
  pub count_told : moved_by r ≡ count_in told
  count_told = sym (ap count_in is ∙ count)

  pub answer_told : told ≡ told_of (number_or wrong (count_in told))
  answer_told = is ∙ (ap told_of answer ∙ ap (λ (n : ℕ). told_of (number_or wrong n)) count_told)
