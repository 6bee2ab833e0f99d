use Rattle.std.proofs.Common.{sym}
use Rattle.route_tensor.proofs.Ends.{hop_at_is, sender_at_is, reader_at_is}
use Rattle.route_tensor.proofs.grid.Grid.ends.Goals as goal

pub returns-clause-hop : goal.returns-clause-hop
returns-clause-hop c =
    let k = c.hop_among-h.ensures in
    sym (hop_at_is _ _ _ k.first k.last (rw c.ranks.ensures.value at k.from) (rw c.ranks.ensures.value at k.below))

pub returns-clause-sender : goal.returns-clause-sender
returns-clause-sender c =
    rw (c.ranks-2.ensures.value, c.sum.ensures.value, c.dim.ensures.value) (sym (sender_at_is _ _ _ (returns-clause-hop c)))

pub returns-clause-reader : goal.returns-clause-reader
returns-clause-reader c = rw (c.with_coord-b.ensures.value, c.ranks-2.ensures.value, c.sum.ensures.value, c.dim.ensures.value, c.dim-2.ensures.value) (sym (reader_at_is _ _ _ (returns-clause-hop c)))
