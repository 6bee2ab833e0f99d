use Rattle.std.proofs.Common.{◌≡◌, ◌%◌, take, map}
use Rattle.sparse_rows.specs.Deals.{dealt}
use Rattle.skeleton.specs.Starts.{send_of}
use Rattle.skeleton.proofs.starting.sends_of.Given as goal

abbrev pub invariant-loop-t : goal.invariant-loop-t
invariant-loop-t l = l.sends.items ≡ map (send_of l.ranks) (dealt (λ t. t.i % l.ranks) l.rank (take l.t-index l.entries))
