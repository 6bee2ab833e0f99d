use Rattle.std.proofs.Common.{◌≡◌, drop}
use Rattle.std.specs.List.{list_all}
use Rattle.biconvey.specs.RanksOverBanks.{is_over}
use Rattle.biconvey.proofs.sweeps.all_over.Given as goal

abbrev pub invariant-loop-node : goal.invariant-loop-node
invariant-loop-node g l = list_all is_over l.all ≡ list_all is_over (drop l.node-index l.all)
