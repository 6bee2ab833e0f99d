use Rattle.std.proofs.Common.{◌≡◌, take}
use Rattle.least_walks.specs.Tables.{offers_by_place}
use Rattle.least_walks.proofs.table.put_offers.Given as goal

abbrev pub invariant-loop-place : goal.invariant-loop-place
invariant-loop-place l = l.outgoing.items ≡ offers_by_place l.table l.vertices (take l.place-index l.places)
