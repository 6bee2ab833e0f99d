use Rattle.std.proofs.Common.{◌≡◌, ◌++◌, length}
use Rattle.port_bank.specs.Relay.{RelayLaw}
use Rattle.exstack.specs.Links.{no_stack_out}
use Rattle.exstack.specs.State.{number}
use Rattle.exstack.specs.Steps.{posts_to, LeftByStackPosts}
use Rattle.exstack.proofs.Sweeps.{Sweep}
use Rattle.exstack.proofs.Moves.{out_sight, Posted, Served}
use Rattle.exstack.proofs.rounds.post_all.Given as goal

abbrev pub invariant-loop-b : goal.invariant-loop-b
invariant-loop-b g l = record {
  posted : Sweep (Posted l.last l.epoch) no_stack_out (number (length l.fn.outs.items) l.rank) l.b l.fn.outs.items l.outs.items
      (out_sight (g.P.Port.view l.fn.port)) (out_sight (g.P.Port.view l.port));
  served : Sweep Served no_stack_out (number (length l.fn.outs.items) l.rank) l.b l.fn.outs.items l.outs.items
      (out_sight (g.P.Port.view l.fn.port)) (out_sight (g.P.Port.view l.port));
  calls : (g.P.Port.view l.port).calls ≡ (g.P.Port.view l.fn.port).calls ++ posts_to (length l.fn.outs.items) l.rank l.fn.outs.items l.b;
  law : RelayLaw (g.P.Port.view l.fn.port).dims (g.P.Port.view l.fn.port).rank (g.P.Port.view l.port).sent (g.P.Port.view l.fn.port).got;
  left : LeftByStackPosts (g.P.Port.view l.fn.port) (g.P.Port.view l.port);
}
