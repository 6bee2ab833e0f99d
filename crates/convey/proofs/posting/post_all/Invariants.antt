use Rattle.std.proofs.Common.{◌≡◌, ◌++◌}
use Rattle.item_buffer.specs.Contents.{blank}
use Rattle.convey.specs.AdvanceSteps.{LeftByPosts}
use Rattle.route_tensor.specs.Neighbour.{link_to}
use Rattle.convey.specs.Due.{was_served}
use Rattle.convey.proofs.Ways.{Serving}
use Rattle.port_bank.specs.Port.{is_crowded}
use Rattle.port_bank.specs.Calls.{sweep_calls}
use Rattle.port_bank.specs.Calls.Call.{Post}
use Rattle.convey.proofs.posting.post_all.Given as goal

abbrev pub invariant-loop-i : goal.invariant-loop-i
invariant-loop-i g l = record {
  empty : l.spare ≡ blank l.state.epoch;
  serving : Serving (g.P.Port.view l.fn.port).dims (g.P.Port.view l.fn.port).rank l.i l.fn.state l.state (g.P.Port.view l.fn.port).sent (g.P.Port.view l.port).sent
      (g.P.Port.view l.fn.port).looks_out (g.P.Port.view l.port).looks_out (is_crowded (g.P.Port.view l.port));
  calls : (g.P.Port.view l.port).calls ≡ (g.P.Port.view l.fn.port).calls ++ sweep_calls (λ i. was_served l.state (link_to (g.P.Port.view l.fn.port).dims (g.P.Port.view l.fn.port).rank i)
      ((g.P.Port.view l.fn.port).sent (link_to (g.P.Port.view l.fn.port).dims (g.P.Port.view l.fn.port).rank i)) ((g.P.Port.view l.port).sent (link_to (g.P.Port.view l.fn.port).dims (g.P.Port.view l.fn.port).rank i)))
      (λ i. Post (link_to (g.P.Port.view l.fn.port).dims (g.P.Port.view l.fn.port).rank i)) l.i;
  leaves : LeftByPosts l.fn.state l.state (g.P.Port.view l.fn.port) (g.P.Port.view l.port);
}
