-- What a round makes of each rank, whatever the program.
use Rattle.std.proofs.Common.{ℕ, zero, suc, ◌≡◌, List, [], ◌∷◌, Some, Option, None, length, slice_get, All, refl, ap, ◌∙◌, subst}
use Rattle.std.proofs.lemmas.List.Elements.{All-nil, All-head, All-tail}
use Rattle.bale_items.specs.declared.Item.{Item}
use Rattle.list_laws.proofs.Lists.{got_map}
use Rattle.round_program.specs.Rules.{Rules}
use Rattle.round_program.specs.Canonical.{absorb_all, absorb_upto, absorbed_round, after_whole_round, vote_sum, emitted_by, emitted_of}
use Rattle.round_program.proofs.Items.{picked, from_picked}

module _ {S : Type 0} (R : Rules S) where
  -- a rank after the absorbs of a round
  abbrev pub full : List S → S → S
  full ss s = absorb_upto R s (emitted_by R ss (R.rank s)) (length ss)

  -- and after the round
  abbrev pub next : List S → S → S
  next ss s = R.ended (full ss s) (vote_sum R (absorbed_round R ss))

  -- what a rank was before the round
  pub was : (ss : List S) (r : ℕ) (t : S) → slice_get (after_whole_round R ss) r ≡ Some t → (s : S) × (slice_get ss r ≡ Some s) × (next ss s ≡ t)
  was ss r t here =
      let a = got_map (λ s. R.ended s (vote_sum R (absorbed_round R ss))) (absorbed_round R ss) r t here in
      let b = got_map (full ss) ss r a.0 a.1 in
      (b.0, b.1, ap (λ s. R.ended s (vote_sum R (absorbed_round R ss))) b.2 ∙ a.2)

  -- what holds of all emissions holds of all that a rank is sent
  pub sent : (ss : List S) (Q : Item → Type 0) → ((f : ℕ) (q : S) → slice_get ss f ≡ Some q → All (λ e. Q e.1) (R.emissions q)) → (r f : ℕ) → All Q (emitted_by R ss r f)
  sent ss Q each r f = from (slice_get ss f) refl
    where
      from : (o : Option S) → slice_get ss f ≡ o → All Q (emitted_of R o r)
      from None e = All-nil Q
      from (Some q) e = picked (λ x. Q x.1) Q r (R.emissions q) (λ x h same. h) (each f q e)

  -- and what each rank knows of all that rank f sent it holds of the emissions of rank f
  pub arrived : (ss : List S) (P : ℕ → Item → Type 0) (f : ℕ) (q : S) → slice_get ss f ≡ Some q → ((d : ℕ) → All (P d) (emitted_by R ss d f)) → All (λ e. P e.0 e.1) (R.emissions q)
  arrived ss P f q here each = from_picked P (R.emissions q) (λ d. subst (λ o. All (P d) (emitted_of R o d)) here (each d))

  -- what each absorb of such an item keeps
  module _ (P : S → Type 0) (Q : Item → Type 0) (one : (s : S) (f : ℕ) (x : Item) → P s → Q x → P (R.absorbed s f x)) where
    pub all_keep : (s : S) (f : ℕ) (xs : List Item) → P s → All Q xs → P (absorb_all R s f xs)
    all_keep s f [] p q = p
    all_keep s f (x ∷ xs) p q = all_keep (R.absorbed s f x) f xs (one s f x p (All-head Q x xs q)) (All-tail Q x xs q)

    pub upto_keep : (s : S) (lists : ℕ → List Item) (n : ℕ) → P s → ((f : ℕ) → All Q (lists f)) → P (absorb_upto R s lists n)
    upto_keep s lists zero p q = p
    upto_keep s lists (suc n) p q = all_keep (absorb_upto R s lists n) n (lists n) (upto_keep s lists n p q) (q n)
