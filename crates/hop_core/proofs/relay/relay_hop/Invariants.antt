use Rattle.hop_core.proofs.Relaying.{Relaying}
use Rattle.hop_core.proofs.InTurn.{InTurn}
use Rattle.hop_core.proofs.relay.relay_hop.Given as goal

abbrev pub invariant-loop-i : goal.invariant-loop-i
invariant-loop-i g l = record {
  relaying : Relaying l.routes.dims l.routes.rank g.row.CAP l.h l.i l.initial.outs.items l.initial.ins.items l.outs.items l.ins.items l.count;
  in_turn : InTurn l.routes.dims l.routes.rank g.row.CAP l.h l.i l.initial.outs.items l.initial.ins.items l.outs.items l.ins.items;
}
