-- The calls on a port, in order.
use Rattle.std.specs.Prelude.{ℕ, zero, suc, Bool, if◌then◌else◌, List, [], ◌∷◌, ◌++◌}
use Rattle.port_bank.specs.declared.calls.Calls.{Calls, None, Post', Collect'}

-- A call on a port, by its link: a post that had memory, or a collect.
pub data Call : Type 0 where
  Post : ℕ → Call
  Collect : ℕ → Call

-- The calls that were made, the latest one last.
abbrev pub calls_of : Calls → List Call
calls_of None = []
calls_of (Post' marker before link) = calls_of before ++ Post link.value ∷ []
calls_of (Collect' marker before link) = calls_of before ++ Collect link.value ∷ []

-- A call, if it was made.
abbrev pub once_if : Bool → Call → List Call
once_if made call = if made then call ∷ [] else []

-- The calls of a sweep over the first n of some links, in order: one on each link on which it makes
-- one.
-- swept made call n is call 0, call 1, .., call (n - 1), without those that are not made.
-- Of three posts of which the second is not made, it is Post 0, Post 2.
abbrev pub sweep_calls : (ℕ → Bool) → (ℕ → Call) → ℕ → List Call
sweep_calls made call zero = []
sweep_calls made call (suc n) = sweep_calls made call n ++ once_if (made n) (call n)
