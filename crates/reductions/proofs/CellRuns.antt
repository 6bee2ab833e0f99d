-- Runs of programs that keep the least values and go on while one fell.
use Rattle.std.proofs.Common.{ℕ, zero, suc, ◌+◌, ◌*◌, ◌≤◌, ◌≡◌, ◌==◌, not, nat_eq, cond, List, Some, length, slice_get, sum_by, All, arith, inl, inr, refl, sym, ap, ◌∙◌, subst}
use Rattle.std.specs.Cmp.Lexicographic.{pointwise, pointwise_decides}
use Rattle.std.proofs.lemmas.Bool.{cases_Bool, eq-eqb, eqb-true}
use Rattle.std.proofs.lemmas.List.Sums.{sum_by-le}
use Rattle.bale_items.specs.declared.Item.{Item}
use Rattle.list_laws.proofs.Lists.{get_map, all_from_gets}
use Rattle.round_program.specs.Rules.{Rules}
use Rattle.round_program.specs.Canonical.{absorbed_round, emitted_by, states_at, votes_at, vote_sum, EndsWithin}
use Rattle.reductions.specs.declared.reduced.Reduction.TheVariants.{Least}
use Rattle.reductions.specs.Reductions.{ReducedState, vote_of}
use Rattle.reductions.proofs.CellRounds.{HasCells, len_upto, before_upto, least_fell}
use Rattle.reductions.proofs.Ends.{ends_by_votes, no_vote}
use Rattle.reductions.proofs.Lists.{sum_fell, sums_fell}
use Rattle.reductions.proofs.Rounds.{full, was}

module _ {S : Type 0} {R : Rules S} {key value : Item → ℕ} {cells : S → ReducedState} (has : HasCells R Least key value cells)
    (votes : (s : S) → R.vote s ≡ vote_of (cells s)) (starts : List S) (calm : (r : ℕ) (s : S) → slice_get starts r ≡ Some s → (cells s).before ≡ (cells s).cells) where
  abbrev now : ℕ → List S
  now n = states_at R starts n

  -- as a round begins, no cell has changed
  pub calm_at : (n r : ℕ) (s : S) → slice_get (now n) r ≡ Some s → (cells s).before ≡ (cells s).cells
  calm_at zero r s here = calm r s here
  calm_at (suc n) r t here =
      let u = was R (now n) r t here in
      subst (λ c. c.before ≡ c.cells) (sym (has.begins (full R (now n) u.0) (vote_sum R (absorbed_round R (now n)))) ∙ ap cells u.2) refl

  -- ---- The run ends

  abbrev pub total : List S → ℕ
  total ss = sum_by (λ s. sum_by (λ c. c) (cells s).cells) ss

  votes_fall : (n : ℕ) → total (now (suc n)) + votes_at R starts n ≤ total (now n)
  votes_fall n =
      let sum : S → ℕ = λ s. sum_by (λ c. c) (cells s).cells in
      let end : S → S = λ s. R.ended s (votes_at R starts n) in
      let one : All (λ s. sum (end (full R (now n) s)) + R.vote (full R (now n) s) ≤ sum s) (now n) =
      all_from_gets (λ s. sum (end (full R (now n) s)) + R.vote (full R (now n) s) ≤ sum s) (now n) (λ r s here.
      let f : S = full R (now n) s in
      let fell : sum_by (λ c. c) (cells f).cells + cond (pointwise nat_eq (cells f).cells (cells s).cells) 0 1 ≤ sum s =
      sum_fell (cells f).cells (cells s).cells (len_upto has s (emitted_by R (now n) (R.rank s)) (length (now n))) (least_fell has (now n) s) in
      let ended : sum (end f) ≡ sum_by (λ c. c) (cells f).cells = ap (λ c. sum_by (λ c. c) c.cells) (has.begins f (votes_at R starts n)) in
      let vote : R.vote f ≡ cond (pointwise nat_eq (cells f).cells (cells s).cells) 0 1 =
      votes f ∙ ap (λ cs. cond (pointwise nat_eq (cells f).cells cs) 0 1) (before_upto has s (emitted_by R (now n) (R.rank s)) (length (now n)) ∙ calm_at n r s here) in
      omega (arith, fell, ended, vote)) in
      let all : total (now (suc n)) + sum_by R.vote (absorbed_round R (now n)) ≤ total (now n) = sums_fell sum R.vote (full R (now n)) end (now n) one in
      omega arith

  -- after as many rounds as the cells add up to at first, and one
  pub least_ends : ((shape : List ℕ) (round votes : ℕ) → R.goes_on shape round votes ≡ not (votes == 0)) → (most : ℕ) → total starts ≤ most → EndsWithin R starts (most + 1)
  least_ends goes most low = ends_by_votes R starts goes (λ n. total (now n)) most votes_fall low

  -- p ranks of n cells of at most b each
  pub total_low : (p n b : ℕ) → length starts ≤ p → ((r : ℕ) (s : S) → slice_get starts r ≡ Some s → (length (cells s).cells ≤ n) × All (λ c. c ≤ b) (cells s).cells) → total starts ≤ p * (n * b)
  total_low p n b few each =
      let one : All (λ s. sum_by (λ c. c) (cells s).cells ≤ n * b) starts =
      all_from_gets (λ s. sum_by (λ c. c) (cells s).cells ≤ n * b) starts (λ r s here.
      let e = each r s here in
      let short : length (cells s).cells ≤ n = e.0 in
      let sum : sum_by (λ c. c) (cells s).cells ≤ length (cells s).cells * b = sum_by-le (λ c. c) b (cells s).cells e.1 in
      let most : length (cells s).cells * b ≤ n * b = grind (arith, short) in
      omega (arith, sum, most)) in
      let sum : total starts ≤ length starts * (n * b) = sum_by-le (λ s. sum_by (λ c. c) (cells s).cells) (n * b) starts one in
      let most : length starts * (n * b) ≤ p * (n * b) = grind (arith, few) in
      omega (arith, sum, most)

  -- ---- A round without votes

  -- leaves each rank's cells as they were
  pub quiet : (n : ℕ) → votes_at R starts n ≡ 0 → (r : ℕ) (s : S) → slice_get (now n) r ≡ Some s → (cells (full R (now n) s)).cells ≡ (cells s).cells
  quiet n none r s here =
      let f : S = full R (now n) s in
      let there : slice_get (absorbed_round R (now n)) r ≡ Some f = get_map (full R (now n)) (now n) r s here in
      silent (cells f).cells (cells f).before (sym (votes f) ∙ no_vote R (absorbed_round R (now n)) r f none there)
      ∙ before_upto has s (emitted_by R (now n) (R.rank s)) (length (now n)) ∙ calm_at n r s here
    where
      silent : (xs ys : List ℕ) → ◌≡◌ {A = ℕ} (cond (pointwise nat_eq xs ys) 0 1) 0 → xs ≡ ys
      silent xs ys h = elim (cases_Bool (pointwise nat_eq xs ys)) [
        | inl t ↦ (pointwise_decides (λ x y. (eqb-true x y, eq-eqb x y)) xs ys).0 t
        | inr f ↦ absurd (let z : ◌≡◌ {A = ℕ} 1 0 = sym (ap (λ b. cond b 0 1) f) ∙ h in omega arith)
      ]
