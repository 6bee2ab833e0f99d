-- The votes that a node sends.
use Rattle.std.proofs.Common.{◌≡◌, ℕ, zero, suc, ◌<◌, ◌≤◌, List, [], ◌∷◌, ◌++◌, length, length-append, slice_get, Option, Some, None, All, refl, sym, ap, subst, ◌∙◌, arith, inl, inr}
use Rattle.std.proofs.lemmas.Bool.{cases_lt}
use Rattle.bale_items.specs.declared.item.Item.{Item}
use Rattle.list_laws.proofs.Lists.{get_before, get_last, within, all_from_gets}
use Rattle.round_program.specs.Rules.{Rules}
use Rattle.round_program.specs.Laws.{Laws}
use Rattle.round_program.specs.Canonical.{items_of}
use Rattle.round_program.specs.Epochs.{vote_item}
use Rattle.round_program.proofs.Items.{items_push, items_here, items_other}
use Rattle.rank_node.specs.declared.sends.Sends.{Sends}
use Rattle.rank_node.specs.declared.sends.Sends.TheVariants.{Emissions, Nothing, Votes}
use Rattle.rank_node.specs.Sending.{votes_to, to_send}
use Rattle.rank_node.proofs.Emitted.{receivers_below}

pub votes_length : (p v : ℕ) → length (votes_to p v) ≡ p
votes_length zero v = refl
votes_length (suc p) v = omega (arith, length-append (votes_to p v) ((p, vote_item v) ∷ []), votes_length p v)

pub votes_get : (p v i : ℕ) → i < p → slice_get (votes_to p v) i ≡ Some (i, vote_item v)
votes_get zero v i b = absurd (omega arith)
votes_get (suc p) v i b =
    elim (cases_lt i p) [
      | inl below ↦ get_before (votes_to p v) ((p, vote_item v) ∷ []) i (omega (arith, votes_length p v, below)) ∙ votes_get p v i below
      | inr past ↦
          let same : i ≡ p = omega arith in
          subst (λ k. slice_get (votes_to p v ++ (p, vote_item v) ∷ []) k ≡ Some (i, vote_item v)) (votes_length p v ∙ sym same)
          (get_last (votes_to p v) (p, vote_item v) ∙ ap (λ k. Some (k, vote_item v)) (sym same))
    ]

-- none of them goes to a rank past the last
votes_past : (p v d : ℕ) → p ≤ d → items_of d (votes_to p v) ≡ []
votes_past zero v d b = refl
votes_past (suc p) v d b =
    items_push d (votes_to p v) ((p, vote_item v) ∷ []) ∙ (ap (λ xs. xs ++ items_of d ((p, vote_item v) ∷ [])) (votes_past p v d (omega arith)) ∙ items_other d (p, vote_item v) [] (λ e. omega arith))

-- and one goes to each
pub votes_each : (p v d : ℕ) → d < p → items_of d (votes_to p v) ≡ vote_item v ∷ []
votes_each zero v d b = absurd (omega arith)
votes_each (suc p) v d b =
    items_push d (votes_to p v) ((p, vote_item v) ∷ [])
    ∙ elim (cases_lt d p) [
      | inl below ↦ ap (λ xs. xs ++ items_of d ((p, vote_item v) ∷ [])) (votes_each p v d below) ∙ ap (λ xs. vote_item v ∷ xs) (items_other d (p, vote_item v) [] (λ e. omega arith))
      | inr past ↦
          let same : d ≡ p = omega arith in
          ap (λ xs. xs ++ items_of d ((p, vote_item v) ∷ [])) (votes_past p v d past) ∙ subst (λ k. items_of k ((p, vote_item v) ∷ []) ≡ vote_item v ∷ []) (sym same) (items_here (p, vote_item v) [])
    ]

place_of : ℕ → Option (ℕ × Item) → ℕ
place_of i None = i
place_of i (Some e) = e.0

-- the ranks that a node sends to are those of the run
pub send_below : {S : Type 0} (R : Rules S) → Laws R → (p : ℕ) (start prog : S) (sends : Sends) → R.valid start → R.ranks start ≡ p
    → (sends ≡ Emissions → R.emissions prog ≡ R.emissions start) → ((v q : ℕ) → sends ≡ Votes v q → q ≡ p) → All (λ (e : ℕ × Item). e.0 < p) (to_send R prog sends)
unfolding place_of
send_below R laws p start prog Emissions valid ranks emissions vote =
    subst (λ (es : List (ℕ × Item)). All (λ (e : ℕ × Item). e.0 < p) es) (sym (emissions refl)) (subst (λ k. All (λ (e : ℕ × Item). e.0 < k) (R.emissions start)) ranks (receivers_below R laws start valid))
send_below R laws p start prog Nothing valid ranks emissions vote = all_from_gets (λ (e : ℕ × Item). e.0 < p) [] (λ i e is. absurd (let b = within [] i e is in omega (arith, b)))
send_below R laws p start prog (Votes v q) valid ranks emissions vote =
    all_from_gets (λ (e : ℕ × Item). e.0 < p) (votes_to q v)
    (λ i e is.
    let low : i < q = omega (arith, within (votes_to q v) i e is, votes_length q v) in
    let here : Some (i, vote_item v) ≡ Some e = sym (votes_get q v i low) ∙ is in
    first p i (vote_item v) e (omega (arith, low, vote v q refl)) here) where
      first : (p i : ℕ) (x : Item) (e : ℕ × Item) → i < p → Some (i, x) ≡ Some e → e.0 < p
      first p i x e b is = subst (λ k. k < p) (ap (place_of i) is) b

-- items that don't depend on what an absorb changes
pub same_sends : {S : Type 0} (R : Rules S) (a b : S) (sends : Sends) → R.emissions a ≡ R.emissions b → to_send R a sends ≡ to_send R b sends
same_sends R a b Emissions e = e
same_sends R a b Nothing e = refl
same_sends R a b (Votes v q) e = refl
