-- The calls of a sweep, one link after another.
use Rattle.std.proofs.Common.{◌≡◌, ℕ, zero, suc, ◌+◌, ◌<◌, Bool, false, List, [], ◌++◌, append-nil, refl, sym, ap, ◌∙◌, arith}
use Rattle.std.proofs.lemmas.List.{append_assoc}
use Rattle.std.proofs.Math.Numerals.{add-one}
use Rattle.port_bank.specs.Calls.{Call, once_if, sweep_calls}

-- a sweep goes on by one
pub swept_next : (made : ℕ → Bool) (call : ℕ → Call) (n : ℕ) → sweep_calls made call (n + 1) ≡ sweep_calls made call n ++ once_if (made n) (call n)
swept_next made call n = ap (sweep_calls made call) (add-one n)

-- it makes the same calls where it is told the same of each link
pub swept_same : (made made' : ℕ → Bool) (call : ℕ → Call) (n : ℕ) → ((i : ℕ) → i < n → made' i ≡ made i) → sweep_calls made' call n ≡ sweep_calls made call n
swept_same made made' call zero same = refl
swept_same made made' call (suc n) same =
    ap (λ b. sweep_calls made' call n ++ once_if b (call n)) (same n (omega arith))
    ∙ ap (λ cs. cs ++ once_if (made n) (call n)) (swept_same made made' call n (λ i w. same i (omega (arith, w))))

-- and none where none is to be made
pub swept_none : (made : ℕ → Bool) (call : ℕ → Call) (n : ℕ) → ((i : ℕ) → i < n → made i ≡ false) → sweep_calls made call n ≡ []
swept_none made call zero none = refl
swept_none made call (suc n) none =
    ap (λ b. sweep_calls made call n ++ once_if b (call n)) (none n (omega arith)) ∙ append-nil (sweep_calls made call n)
    ∙ swept_none made call n (λ i w. none i (omega (arith, w)))

-- a call that is made or not, after a sweep's calls so far
pub swept_more : (before calls calls' : List Call) (made made' : ℕ → Bool) (call : ℕ → Call) (n : ℕ) (b : Bool) (x : Call) → ((i : ℕ) → i < n → made' i ≡ made i) → calls ≡ before ++ sweep_calls made call n
    → calls' ≡ calls ++ once_if b x → b ≡ made' n → x ≡ call n → calls' ≡ before ++ sweep_calls made' call (n + 1)
swept_more before calls calls' made made' call n b x same is more asked named =
    more ∙ ap (λ cs. cs ++ once_if b x) (is ∙ ap (λ cs. before ++ cs) (sym (swept_same made made' call n same)))
    ∙ append_assoc before (sweep_calls made' call n) (once_if b x)
    ∙ ap (λ c. before ++ (sweep_calls made' call n ++ once_if c x)) asked ∙ ap (λ y. before ++ (sweep_calls made' call n ++ once_if (made' n) y)) named
    ∙ ap (λ cs. before ++ cs) (sym (swept_next made' call n))
