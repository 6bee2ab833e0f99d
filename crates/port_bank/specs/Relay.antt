-- What a rank may send on, given what it got.
use Rattle.std.specs.Prelude.{◌≡◌, ℕ, ◌+◌, ◌<◌, List}
use Rattle.std.specs.List.{All}
use Rattle.item_buffer.specs.Contents.{Shipped}
use Rattle.route_tensor.specs.Link.{links}
use Rattle.route_tensor.specs.Tag.{IsFair}
use Rattle.route_tensor.specs.Pair.{PassesThrough}
use Rattle.route_tensor.specs.Ends.{hop_at, sender_at, reader_at}
use Rattle.port_bank.specs.Logs.{Logs, lasts}
use Rattle.port_bank.specs.Flow.{hop_link, flow}
use Rattle.list_laws.specs.Lists.{IsPrefix}

-- Every entry of a parcel has a tag that is fair on hop h.
abbrev pub HasFairTags : List ℕ → ℕ → Shipped → Type 0
HasFairTags dims h p = All (λ e. IsFair dims h e.tag) p.entries

-- The relay law of rank r, over the logs of what it sent on its links out and got on its links in.
-- fair: what it sent on a link of hop h has tags that are fair on h.
-- begins: what it passed on of a pair's flow is a prefix of what it got of it.
-- closed: if it ended an epoch on a link of hop h + 1, it had got the end of that epoch on every
-- link of hop h.
-- whole: there it passed on the pair's whole flow of that epoch.
-- Example: in the grid 2x2 rank 0 got [x, y] from 1 to 2 in epoch 0: it may have sent [x] toward 2,
-- not marked last.
pub record RelayLaw (dims : List ℕ) (r : ℕ) (sent got : Logs) : Type 0 where
  pub fair : (l : ℕ) → l < links dims → sender_at dims l ≡ r → All (HasFairTags dims (hop_at dims l)) (sent l)
  pub begins : (s d h e : ℕ) → PassesThrough dims r s d h
      → IsPrefix (flow dims sent s d (h + 1) e) (flow dims got s d h e)
  pub closed : (l m e : ℕ) → l < links dims → m < links dims → sender_at dims l ≡ r → reader_at dims m ≡ r
      → hop_at dims l ≡ hop_at dims m + 1
      → e < lasts (sent l) → e < lasts (got m)
  pub whole : (s d h e : ℕ) → PassesThrough dims r s d h → e < lasts (sent (hop_link dims s d (h + 1)))
      → flow dims sent s d (h + 1) e ≡ flow dims got s d h e
