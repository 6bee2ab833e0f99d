use Rattle.std.proofs.Common.{◌≡◌, ◌++◌}
use Rattle.biconvey.specs.Drives.{askers_of}
use Rattle.biconvey.proofs.nodes.take_askers.Given as goal

abbrev pub invariant-loop-node : goal.invariant-loop-node
invariant-loop-node g l = l.askers ++ askers_of l.node-iterator ≡ askers_of l.fn.all.items
