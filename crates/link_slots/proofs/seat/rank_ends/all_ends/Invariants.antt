use Rattle.std.proofs.Common.{◌≡◌, length}
use Rattle.std.specs.List.{All}
use Rattle.link_slots.specs.Gathering.{HasNew}
use Rattle.link_slots.proofs.seat.rank_ends.all_ends.Given as goal

abbrev pub invariant-loop : goal.invariant-loop
invariant-loop l = (length l.all.items ≡ l.counter) × All (HasNew l.links) l.all.items
