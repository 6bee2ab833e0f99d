use Rattle.std.proofs.Common.{◌≡◌, ◌≤◌, min, drop}
use Rattle.exstack.specs.State.{least_headroom}
use Rattle.exstack.proofs.rounds.least_room.Given as goal

abbrev pub invariant-loop-link : goal.invariant-loop-link
invariant-loop-link g l = record {
  value : least_headroom g.row.CAP l.outs ≡ min l.least (least_headroom g.row.CAP (drop l.link-index l.outs));
  below : l.least ≤ g.row.CAP;
}
