use Rattle.std.proofs.Common.{◌≡◌, ℕ, ◌+◌, List, length, map}
use Rattle.app_histo_ig.proofs.IgReplies.{from_list}
use Rattle.app_histo_ig.proofs.ig_replies.how_many.Given as goal

abbrev pub invariant-loop-list : goal.invariant-loop-list
invariant-loop-list l =
    (ranks : ℕ) (sums : List ℕ) → l.count + length (from_list ranks sums (map (λ q. q.items) l.queries) l.list-index) ≡ length (from_list ranks sums (map (λ q. q.items) l.queries) 0)
