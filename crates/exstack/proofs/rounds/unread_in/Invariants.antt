use Rattle.std.proofs.Common.{◌≡◌, ◌≤◌, ◌*◌, length, take}
use Rattle.item_buffer.specs.declared.capacity.TheConstants.{MOST_ENTRIES}
use Rattle.std.specs.List.{sum_by}
use Rattle.exstack.proofs.rounds.unread_in.Given as goal

abbrev pub invariant-loop-link : goal.invariant-loop-link
invariant-loop-link g l = record {
  value : l.total ≡ sum_by (λ i. length i.unread) (take l.link-index l.ins);
  bound : l.total ≤ l.link-index * MOST_ENTRIES;
}
