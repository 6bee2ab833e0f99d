-- When a rank's buffers agree with the lists of its port.
use Rattle.std.specs.Prelude.{◌≡◌, ℕ, ◌+◌, ◌<◌, ◌==◌, Bool, true, List, ◌∷◌, ◌++◌, length, map, Option, Some, None}
use Rattle.std.specs.Prelude.{if◌then◌else◌}
use Rattle.std.specs.List.{All, filter, flat_map}
use Rattle.bale_items.specs.declared.item.Entry.{Entry}
use Rattle.bale_items.specs.declared.item.Item.{Item}
use Rattle.item_buffer.specs.Contents.{Shipped}
use Rattle.route_tensor.specs.Link.{links}
use Rattle.route_tensor.specs.Tag.{IsFair}
use Rattle.route_tensor.specs.Ends.{hop_at, sender_at, reader_at}
use Rattle.port_bank.specs.Logs.{Logs, lasts, segment, EndsLast, lasts_in}
use Rattle.port_bank.specs.Flow.{hop_link, flow}
use Rattle.route_tensor.specs.Pair.{belongs, PassesThrough}
use Rattle.list_laws.specs.Lists.{IsPrefix, Ends}
use Rattle.port_bank.specs.Relay.{RelayLaw}
use Rattle.convey.specs.Buffers.{Buffers}

-- A link out, with its open parcel, against what was sent on it.
-- lasts: it has ended as many epochs as there were, and the current one if and only if it is
-- closed.
-- by_last: if it is closed, the latest parcel is marked last.
-- fair: what waits has tags that are fair on its hop.
pub record OutAgrees (dims : List ℕ) (epoch l : ℕ) (waiting : List Entry) (closed : Bool)
    (log : List Shipped) : Type 0 where
  pub lasts : lasts log ≡ lasts_in epoch closed
  pub by_last : closed ≡ true → EndsLast log
  pub fair : All (λ e. IsFair dims (hop_at dims l) e.tag) waiting

-- A link in, with the entries of its inbox, against what was got on it.
pub record InAgrees (dims : List ℕ) (epoch l : ℕ) (entries : List Entry) (ended : Bool)
    (log : List Shipped) : Type 0 where
  pub lasts : lasts log ≡ lasts_in epoch ended
  pub by_last : ended ≡ true → EndsLast log
  pub fair : All (λ e. IsFair dims (hop_at dims l) e.tag) entries

-- The items of those entries that pass a test, in order.
abbrev pub items_among : (Entry → Bool) → List Entry → List Item
items_among keep entries = map (λ e. e.item) (filter keep entries)

-- The entry that an unpull would put back at a link, if any, and then the unread ones.
abbrev pub with_latest : Option (ℕ × Entry) → ℕ → List Entry → List Entry
with_latest None l unread = unread
with_latest (Some p) l unread = if p.0 == l then p.1 ∷ unread else unread

-- The port's lists agree with a rank's buffers.
-- outs, ins: each link out does, and each link in; an entry that an unpull would put back counts as
-- in its inbox.
-- law: the lists meet the relay law.
-- pairs: what came of a pair on hop h is what was sent on, what waits to be sent on, and what is
-- still in the inbox.
-- arrived: on the last hop the entries that are unread, or may be put back, are the latest that
-- came in this epoch.
-- own: on a link from the rank to itself, what was got is a prefix of what was sent.
pub record Agrees (b : Buffers) (sent got : Logs) : Type 0 where
  pub outs : (l : ℕ) → l < links b.dims → sender_at b.dims l ≡ b.rank
      → OutAgrees b.dims b.epoch l (b.waiting l) (b.closed l) (sent l)
  pub ins : (l : ℕ) → l < links b.dims → reader_at b.dims l ≡ b.rank
      → InAgrees b.dims b.epoch l (with_latest b.latest l (b.unread l)) (b.ended l) (got l)
  pub law : RelayLaw b.dims b.rank sent got
  pub pairs : (s d h : ℕ) → PassesThrough b.dims b.rank s d h → flow b.dims got s d h b.epoch
      ≡ flow b.dims sent s d (h + 1) b.epoch
      ++ (items_among (belongs b.dims s d (h + 1)) (b.waiting (hop_link b.dims s d (h + 1)))
      ++ items_among (belongs b.dims s d h) (b.unread (hop_link b.dims s d h)))
  pub arrived : (l : ℕ) → l < links b.dims → reader_at b.dims l ≡ b.rank → hop_at b.dims l ≡ length b.dims
      → Ends (flat_map (λ p. p.entries) (segment b.epoch (got l))) (with_latest b.latest l (b.unread l))
  pub own : (l : ℕ) → l < links b.dims → sender_at b.dims l ≡ b.rank → reader_at b.dims l ≡ b.rank
      → IsPrefix (got l) (sent l)
