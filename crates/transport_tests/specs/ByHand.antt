-- What a test's calls on a port need, so that it may make the next one.
use Rattle.std.specs.Prelude.{◌≡◌, ◌<◌, ℕ, List, [], length}
use Rattle.item_buffer.specs.Contents.{Contents, blank}
use Rattle.route_tensor.specs.Grid.{IsGrid, ranks}
use Rattle.port_bank.specs.Port.{PortView}
use Rattle.port_bank.specs.Logs.{lasts}
use Rattle.port_bank.specs.Relay.{RelayLaw}

-- A rank's port on which no parcel was the last of its epoch, of a grid, with an empty parcel to
-- post and one to collect.
pub record InFirstEpoch (port : PortView) (dims : List ℕ)
    (out into : Contents) : Type 0 where
  pub same_dims : port.dims ≡ dims
  pub is_grid : IsGrid dims
  pub law : RelayLaw port.dims port.rank port.sent port.got
  pub none_sent : (l : ℕ) → lasts (port.sent l) ≡ 0
  pub none_got : (l : ℕ) → lasts (port.got l) ≡ 0
  pub out_empty : out ≡ blank 0
  pub into_empty : into ≡ blank 0

-- A rank's port on which nothing was done, of a grid of one number.
pub record BeginsAt (port : PortView) (dims : List ℕ) : Type 0 where
  pub same_dims : port.dims ≡ dims
  pub one_hop : length dims ≡ 1
  pub low : port.rank < ranks dims
  pub none_sent : port.sent ≡ (λ l. [])
  pub none_got : port.got ≡ (λ l. [])
