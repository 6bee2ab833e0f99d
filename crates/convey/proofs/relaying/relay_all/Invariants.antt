use Rattle.std.proofs.Common.{◌≡◌, ℕ, ◌<◌, ◌≤◌, List, length}
use Rattle.route_tensor.specs.Link.{links}
use Rattle.route_tensor.specs.Ends.{hop_at}
use Rattle.port_bank.specs.Logs.{Logs}
use Rattle.hop_core.specs.Standing.{IsState}
use Rattle.convey.specs.Due.{IsBlocked}
use Rattle.convey.specs.AdvanceSteps.{IsReady, PassedOn}
use Rattle.convey.proofs.relaying.relay_all.Given as goal

abbrev pub invariant-loop-h : goal.invariant-loop-h
invariant-loop-h g l = record {
  same_dims : l.state.dims ≡ l.fn.state.dims;
  standing : IsState l.state;
  stopped : (m : ℕ) → m < links l.state.dims → l.h ≤ hop_at l.state.dims m → hop_at l.state.dims m < length l.state.dims → IsBlocked l.state m;
  passed : (dims : List ℕ) (rank : ℕ) (sent got : Logs) → IsReady dims rank l.fn.state sent got → PassedOn dims rank l.fn.state l.state sent got;
}
