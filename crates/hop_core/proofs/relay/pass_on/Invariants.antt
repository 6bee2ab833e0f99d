use Rattle.std.proofs.Common.{◌≡◌}
use Rattle.hop_core.specs.Link.{read_on}
use Rattle.hop_core.proofs.Going.{Going}
use Rattle.hop_core.proofs.InTurn.{Passing}
use Rattle.hop_core.proofs.relay.pass_on.Given as goal

-- so many entries are appended as if each had been taken
abbrev pub invariant-loop-entry : goal.invariant-loop-entry
invariant-loop-entry g l = record {
  going : Going l.routes.dims l.routes.rank g.row.CAP l.i l.initial.outs.items l.link l.outs.items (read_on l.entry-index l.link) l.entry-index;
  passing : Passing l.routes.dims l.routes.rank g.row.CAP l.i l.initial.outs.items l.link.parcel.untaken l.outs.items l.entry-index;
  count : l.count ≡ l.entry-index;
}
