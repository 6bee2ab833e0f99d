use Rattle.std.proofs.Common.{◌≡◌, ℕ, ◌<◌, false, get_or}
use Rattle.exstack.specs.Links.{no_stack_in, has_unread}
use Rattle.exstack.proofs.rounds.search_unread.Given as goal

abbrev pub invariant-loop-at : goal.invariant-loop-at
invariant-loop-at g l = (a : ℕ) → a < l.at → has_unread (get_or l.ins a no_stack_in) ≡ false
