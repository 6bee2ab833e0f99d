use Rattle.std.proofs.Common.{◌≡◌, ◌++◌}
use Rattle.item_buffer.specs.Contents.{blank}
use Rattle.convey.specs.AdvanceSteps.{LeftByCollects}
use Rattle.hop_core.specs.Link.{is_wanted}
use Rattle.convey.specs.Buffers.{in_of}
use Rattle.convey.proofs.Ways.{Collecting}
use Rattle.port_bank.specs.Port.{is_idle}
use Rattle.port_bank.specs.Calls.{sweep_calls}
use Rattle.port_bank.specs.Calls.Call.{Collect}
use Rattle.route_tensor.specs.Neighbour.{link_from}
use Rattle.convey.proofs.collecting.collect_all.Given as goal

abbrev pub invariant-loop-i : goal.invariant-loop-i
invariant-loop-i g l = record {
  empty : l.spare ≡ blank l.state.epoch;
  collecting : Collecting (g.P.Port.view l.fn.port).dims (g.P.Port.view l.fn.port).rank l.i l.fn.state l.state (g.P.Port.view l.fn.port).got (g.P.Port.view l.port).got
      (g.P.Port.view l.fn.port).noted (g.P.Port.view l.port).noted (is_idle (g.P.Port.view l.port));
  calls : (g.P.Port.view l.port).calls ≡ (g.P.Port.view l.fn.port).calls ++ sweep_calls (λ i. is_wanted (in_of l.fn.state (link_from (g.P.Port.view l.fn.port).dims (g.P.Port.view l.fn.port).rank i)))
      (λ i. Collect (link_from (g.P.Port.view l.fn.port).dims (g.P.Port.view l.fn.port).rank i)) l.i;
  leaves : LeftByCollects l.fn.state l.state (g.P.Port.view l.fn.port) (g.P.Port.view l.port);
}
