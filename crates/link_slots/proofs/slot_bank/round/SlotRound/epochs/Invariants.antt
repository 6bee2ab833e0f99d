use Rattle.std.proofs.Common.{◌≡◌, ◌<◌, ◌-◌, ◌^◌, map}
use Rattle.item_buffer.specs.Contents.{as_shipped}
use Rattle.route_tensor.specs.Ends.{reader_at}
use Rattle.port_bank.specs.Round.{ended_by_all}
use Rattle.link_slots.specs.Logs.{got_of}
use Rattle.list_laws.specs.Counts.{saturated_count}
use Rattle.link_slots.specs.ClosedBank.{each_below, logs_at, first_lists}
use Rattle.link_slots.proofs.slot_bank.round.SlotRound.epochs.Given as goal

abbrev pub invariant-loop-link : goal.invariant-loop-link
invariant-loop-link l = record {
  none : l.link ≡ 0 → l.least ≡ 2 ^ 64 - 1;
  some : 0 < l.link → l.least ≡ saturated_count (ended_by_all (each_below (λ k. map as_shipped (got_of (logs_at (first_lists l.self-inside.last.value.views) (reader_at l.self-inside.grid k)) k)) l.link));
}
