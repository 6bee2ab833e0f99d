use Rattle.std.proofs.Common.{◌≡◌, ◌++◌, length}
use Rattle.list_laws.specs.Lists.{IsPrefix}
use Rattle.exstack.specs.Links.{no_stack_in}
use Rattle.exstack.specs.State.{number}
use Rattle.exstack.specs.Steps.{collects_from, LeftByStackCollects}
use Rattle.exstack.proofs.Sweeps.{Sweep}
use Rattle.exstack.proofs.Moves.{in_sight, Collected, Asked, in_number}
use Rattle.exstack.proofs.rounds.collect_all.Given as goal

abbrev pub invariant-loop-a : goal.invariant-loop-a
invariant-loop-a g l = record {
  collected : Sweep (Collected l.exchange) no_stack_in (in_number (length l.fn.ins.items) l.rank) l.a l.fn.ins.items l.ins.items
      (in_sight (g.P.Port.view l.fn.port)) (in_sight (g.P.Port.view l.port));
  asked : Sweep Asked no_stack_in (in_number (length l.fn.ins.items) l.rank) l.a l.fn.ins.items l.ins.items
      (in_sight (g.P.Port.view l.fn.port)) (in_sight (g.P.Port.view l.port));
  calls : (g.P.Port.view l.port).calls ≡ (g.P.Port.view l.fn.port).calls ++ collects_from (length l.fn.ins.items) l.rank l.fn.ins.items l.a;
  own : IsPrefix ((g.P.Port.view l.fn.port).got (number (length l.fn.ins.items) l.rank l.rank)) ((g.P.Port.view l.fn.port).sent (number (length l.fn.ins.items) l.rank l.rank))
      → IsPrefix ((g.P.Port.view l.port).got (number (length l.fn.ins.items) l.rank l.rank)) ((g.P.Port.view l.port).sent (number (length l.fn.ins.items) l.rank l.rank));
  left : LeftByStackCollects (g.P.Port.view l.fn.port) (g.P.Port.view l.port);
}
