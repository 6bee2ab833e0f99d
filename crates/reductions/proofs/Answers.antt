-- What holds of the cells that are read from the owners.
use Rattle.std.proofs.Common.{ℕ, ◌%◌, ◌<◌, ◌≤◌, ◌≡◌, min, ◌^◌, ◌-◌, List, [], ◌∷◌, Some, length, get_or, slice_get, All, arith, refl, sym, ap, ◌∙◌, subst}
use Rattle.std.proofs.Math.Nat.{mod-lt}
use Rattle.std.proofs.lemmas.List.FromFn.{length-map-range_with_len, get_or-map-range_with_len}
use Rattle.list_laws.specs.Lists.{EachAt}
use Rattle.list_laws.proofs.Lists.{find, all_from_gets}
use Rattle.round_program.specs.Rules.{Rules}
use Rattle.round_program.specs.Laws.{Laws}
use Rattle.round_program.specs.Canonical.{states_at, HaveEnded, InRound}
use Rattle.round_program.proofs.Members.{in_round_at}
use Rattle.reductions.specs.Reductions.{ReducedState}
use Rattle.reductions.specs.Answers.{cell_in, cell_of, owned_values}

-- there is one for each key
pub owned_len : {S : Type 0} (cells : S → ReducedState) (states : List S) (count : ℕ) → length (owned_values cells states count) ≡ count
owned_len cells states count = length-map-range_with_len (cell_of cells states) 0 count

-- what holds of each key and its cell in its owner's state holds of each key and the cell that is
-- read
pub each_owned : {S : Type 0} (cells : S → ReducedState) (states : List S) (count : ℕ) (P : ℕ → ℕ → Type 0) → 0 < length states
    → ((k : ℕ) (s : S) → k < count → slice_get states (k % length states) ≡ Some s → P k (get_or (cells s).cells k 0))
    → EachAt P (owned_values cells states count)
each_owned cells states count P some holds k d low =
    let few : k < count = subst (λ n. k < n) (owned_len cells states count) low in
    let s = find states (k % length states) (mod-lt k some) in
    subst (P k)
    (sym (get_or-map-range_with_len (cell_of cells states) 0 count k k d few (omega arith) ∙ ap (λ o. cell_in cells o k) s.1))
    (holds k s.0 few s.1)

-- Where a state's shape is the number of its cells, all ranks have as many at the end as at first,
-- and are as many.
module _ {S : Type 0} (R : Rules S) (laws : Laws R) (cells : S → ReducedState) (shaped : (s : S) → R.shape s ≡ length (cells s).cells ∷ []) (ranks count most : ℕ) (starts : List S) (begin : InRound R ranks 0 (count ∷ []) most starts) (ends : List S) (ended : HaveEnded R starts ends) where
  in_round : InRound R ranks (min ended.rounds (2 ^ 64 - 1)) (count ∷ []) most (states_at R starts ended.rounds)
  in_round = in_round_at R laws ranks (count ∷ []) most starts ended.rounds begin

  pub ends_len : length ends ≡ ranks
  ends_len = ap length ended.states ∙ in_round.size

  pub ends_keys : All (λ s. count ≤ length (cells s).cells) ends
  ends_keys = all_from_gets (λ s. count ≤ length (cells s).cells) ends (λ r s here.
      let there : slice_get (states_at R starts ended.rounds) r ≡ Some s = subst (λ ss. slice_get ss r ≡ Some s) ended.states here in
      let is : length (cells s).cells ≡ count = ap (λ ns. get_or ns 0 0) (sym (shaped s) ∙ (in_round.each r s there).same_shape) in
      omega arith)
