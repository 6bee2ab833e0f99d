use Rattle.route_tensor.proofs.Links.{link_below}
use Rattle.route_tensor.proofs.Ends.{hop_at-link, sender_at-link, reader_at-link}
use Rattle.route_tensor.proofs.grid.Grid.link.Goals as goal

pub returns-clause-below : goal.returns-clause-below
returns-clause-below c = rw (c.ranks.ensures.value, c.sum.ensures.value, c.dim.ensures.value, c.coord.ensures.value) (link_below _ _ _ _ c.ranks.ensures.grid c.requires)

pub returns-clause-hop : goal.returns-clause-hop
returns-clause-hop c = rw (c.ranks.ensures.value, c.sum.ensures.value, c.dim.ensures.value, c.coord.ensures.value) (hop_at-link _ _ _ _ c.ranks.ensures.grid c.requires)

pub returns-clause-sender : goal.returns-clause-sender
returns-clause-sender c = rw (c.ranks.ensures.value, c.sum.ensures.value, c.dim.ensures.value, c.coord.ensures.value) (sender_at-link _ _ _ _ c.ranks.ensures.grid c.requires)

pub returns-clause-reader : goal.returns-clause-reader
returns-clause-reader c = rw (c.ranks.ensures.value, c.sum.ensures.value, c.dim.ensures.value, c.coord.ensures.value) (reader_at-link _ _ _ _ c.ranks.ensures.grid c.requires)
