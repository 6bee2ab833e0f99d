-- What a rank sent and received.
use Rattle.std.specs.Prelude.{ℕ, ◌+◌, length, List, Option, Some, None}
use Rattle.std.specs.List.{sum_by}
use Rattle.list_laws.specs.Counts.{saturated_count}
use Rattle.list_laws.specs.Sums.{total}
use Rattle.item_buffer.specs.Contents.{Shipped}
use Rattle.route_tensor.specs.Link.{links}
use Rattle.port_bank.specs.Logs.{Logs}
use Rattle.link_slots.specs.SeatView.{SeatView, posted_on, collected_from}
use Rattle.rank_handles.specs.declared.statistics.BaleStatistics.{BaleStatistics}
use Rattle.rank_handles.specs.Seated.{Seated}

-- How many buffers the logs of n links have.
-- If link 0 has the buffers [x, y] and [z], and link 1 has [v], they are 3.
abbrev pub buffers_in : ℕ → Logs → ℕ
buffers_in n logs = total n (λ l. length (logs l))

-- How many items are in the buffers of a log, and in those of the logs of n links.
-- If link 0 has the buffers [x, y] and [z], and link 1 has [v], they are 4.
abbrev pub log_items : List Shipped → ℕ
log_items log = sum_by (λ p. length p.entries) log

abbrev pub items_in : ℕ → Logs → ℕ
items_in n logs = total n (λ l. log_items (logs l))

-- What the rank of a seat sent and received, by its logs: all that it posted on its links, and all
-- that it collected from them. A number that would be 2^64 or more is 2^64 - 1.
unfoldable pub statistics_on : SeatView → BaleStatistics
statistics_on s = record {
  buffers_sent = saturated_count (buffers_in (links s.shape.dims) (posted_on s));
  items_sent = saturated_count (items_in (links s.shape.dims) (posted_on s));
  buffers_received = saturated_count (buffers_in (links s.shape.dims) (collected_from s));
  items_received = saturated_count (items_in (links s.shape.dims) (collected_from s));
}

-- Nothing sent, and nothing received.
abbrev pub no_statistics : BaleStatistics
no_statistics = record { buffers_sent = 0; items_sent = 0; buffers_received = 0; items_received = 0 }

-- One buffer more is sent, or received, with so many items.
abbrev pub sent_one : ℕ → BaleStatistics → BaleStatistics
sent_one items s =
    record s { buffers_sent = saturated_count (s.buffers_sent + 1); items_sent = saturated_count (s.items_sent + items) }

abbrev pub received_one : ℕ → BaleStatistics → BaleStatistics
received_one items s =
    record s {
      buffers_received = saturated_count (s.buffers_received + 1);
      items_received = saturated_count (s.items_received + items);
    }

-- What C is given: nothing, if there is no rank.
abbrev pub statistics_in : Option Seated → BaleStatistics
statistics_in None = no_statistics
statistics_in (Some s) = statistics_on s.seat

abbrev pub statistics_given : Option Seated → BaleStatistics → BaleStatistics
statistics_given None old = old
statistics_given (Some s) old = statistics_on s.seat
