use Rattle.std.proofs.Common.{◌≡◌, take}
use Rattle.components.specs.Starts.{own_links}
use Rattle.components.proofs.starting.links_of.Given as goal

abbrev pub invariant-loop-t : goal.invariant-loop-t
invariant-loop-t l = l.own.items ≡ own_links l.ranks l.rank (take l.t-index l.entries)
