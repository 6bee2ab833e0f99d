-- What a post and a collect do on one link of a plain bank.
use Rattle.std.specs.Prelude.{◌≡◌, ℕ, ◌+◌, ◌<◌, ◌≤◌, length, slice_get, Result, Ok, Some, IsErr}
use Rattle.bale_items.specs.Counters.{RoseOrFull}
use Rattle.bale_items.specs.declared.fault.NoMemory.{NoMemory}
use Rattle.item_buffer.specs.Contents.{Contents, Shipped, as_shipped}
use Rattle.route_tensor.specs.Ends.{hop_at}
use Rattle.port_bank.specs.Logs.{lasts}
use Rattle.port_bank.specs.Relay.{HasFairTags}
use Rattle.port_bank.specs.declared.port.Posted.{Posted}
use Rattle.port_bank.specs.declared.port.Posted.TheVariants.{Sent, NoRoom}
use Rattle.port_bank.specs.declared.port.Collected.{Collected}
use Rattle.port_bank.specs.declared.port.Collected.TheVariants.{Got, Nothing}
use Rattle.port_bank.specs.Plain.{Bank, Channel, channel_after_post, channel_after_refusal, channel_after_look, channel_after_collect, sent_of, got_of}

-- A post: p is at the link's end if there was room below the number of slots. Each look for
-- room is counted.
pub record PostedOn (slots : ℕ) (old new : Channel) (p : Shipped) (r : Result Posted NoMemory) : Type 0 where
  pub sent : r ≡ Ok Sent → new ≡ channel_after_post old p
  pub room : r ≡ Ok Sent → length old.sent < length old.got + slots
  pub no_room : r ≡ Ok NoRoom → new ≡ channel_after_refusal old
  pub no_memory : IsErr r → new ≡ old
  pub looks : old.looks_out ≤ new.looks_out

-- A collect: p is the next parcel of the link if it got one. It looks and listens, and counts
-- both.
pub record CollectedOn (old new : Channel) (p : Shipped) (r : Collected) : Type 0 where
  pub got : r ≡ Got → new ≡ channel_after_collect old p
  pub next : r ≡ Got → slice_get old.sent (length old.got) ≡ Some p
  pub nothing : r ≡ Nothing → new ≡ channel_after_look old
  pub heard : RoseOrFull old.noted new.listens
  pub listens : old.listens ≤ new.listens
  pub looks : old.looks_in ≤ new.looks_in

-- What is known of a parcel that was collected from link l of a bank.
pub record IsNextOn (cap : ℕ) (b : Bank) (l : ℕ) (p : Contents) : Type 0 where
  pub epoch : p.epoch ≡ lasts (got_of b l)
  pub fits : length p.untaken ≤ cap
  pub fair : HasFairTags b.dims (hop_at b.dims l) (as_shipped p)
  pub some : length (got_of b l) < length (sent_of b l)
