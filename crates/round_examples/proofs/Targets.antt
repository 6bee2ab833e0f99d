-- The items that go to targets, one after another.
use Rattle.std.proofs.Common.{◌≡◌, ℕ, ◌+◌, ◌<◌, Bool, true, false, cond, List, [], ◌∷◌, length, slice_get, Some, zero, suc, refl, ap, ◌∙◌, arith}
use Rattle.std.proofs.lemmas.Option.{same_Some}
use Rattle.list_laws.proofs.Lists.{within}
use Rattle.round_examples.specs.Traffics.{sent_from}

pub sent_length : (i : ℕ) (ts : List (ℕ × ℕ)) → length (sent_from i ts) ≡ length ts
sent_length i [] = refl
sent_length i (t ∷ ts) = ap suc (sent_length (i + 1) ts)

pub sent_get : (j i : ℕ) (ts : List (ℕ × ℕ)) (to cell : ℕ) → slice_get ts i ≡ Some (to, cell) → slice_get (sent_from j ts) i ≡ Some (to, record { a = cell; b = 1; c = j + i })
sent_get j i [] to cell e = absurd (let l = within [] i (to, cell) e in omega (arith, l))
sent_get j zero (t ∷ ts) to cell e =
    ap (λ (u : ℕ × ℕ). Some (u.0, record { a = u.1; b = 1; c = j })) (same_Some t (to, cell) e) ∙ ap (λ n. Some (to, record { a = cell; b = 1; c = n })) (omega arith)
sent_get j (suc i) (t ∷ ts) to cell e =
    sent_get (j + 1) i ts to cell e ∙ ap (λ n. Some (to, record { a = cell; b = 1; c = n })) (omega arith)

-- what is emitted, where something is
pub in_round : (z : Bool) (ts : List (ℕ × ℕ)) (i : ℕ) → i < length (cond z (sent_from 0 ts) []) → i < length ts
in_round true ts i l = omega (arith, l, sent_length 0 ts)
in_round false ts i l = absurd (omega (arith, l))

pub emitted : (z : Bool) (ts : List (ℕ × ℕ)) (i to cell : ℕ) → i < length (cond z (sent_from 0 ts) []) → slice_get ts i ≡ Some (to, cell)
    → slice_get (cond z (sent_from 0 ts) []) i ≡ Some (to, record { a = cell; b = 1; c = i })
emitted true ts i to cell l e = sent_get 0 i ts to cell e ∙ ap (λ n. Some (to, record { a = cell; b = 1; c = n })) (omega arith)
emitted false ts i to cell l e = absurd (omega (arith, l))
