use Rattle.std.proofs.Common.{◌≡◌, replicate, None}
use Rattle.link_slots.proofs.seat.rank_ends.none_ended.Given as goal

abbrev pub invariant-loop : goal.invariant-loop
invariant-loop l = l.all.items ≡ replicate l.counter None
