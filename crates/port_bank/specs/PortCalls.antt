-- The two calls on a port: what each requires of the port and of the parcel at hand, and what it
-- leaves, by what the port had before (old) and has after (new).
use Rattle.std.specs.Prelude.{◌≡◌, ◌≢◌, ℕ, ◌+◌, ◌<◌, ◌≤◌, Bool, true, false, List, [], ◌∷◌, ◌++◌, length}
use Rattle.std.specs.Prelude.{Result, Ok, IsOk}
use Rattle.std.specs.List.{All}
use Rattle.bale_items.specs.declared.fault.NoMemory.{NoMemory}
use Rattle.bale_items.specs.Counters.{RoseOrFull}
use Rattle.item_buffer.specs.Contents.{Contents, as_shipped, as_arrived, blank}
use Rattle.list_laws.specs.Lists.{IsPrefix, changed}
use Rattle.route_tensor.specs.Link.{links}
use Rattle.route_tensor.specs.Tag.{IsFair}
use Rattle.route_tensor.specs.Ends.{hop_at, sender_at, reader_at}
use Rattle.port_bank.specs.declared.port.Posted.{Posted}
use Rattle.port_bank.specs.declared.port.Posted.TheVariants.{Sent, NoRoom}
use Rattle.port_bank.specs.declared.port.Collected.{Collected}
use Rattle.port_bank.specs.declared.port.Collected.TheVariants.{Got, Nothing}
use Rattle.port_bank.specs.Calls.Call.{Post, Collect}
use Rattle.port_bank.specs.Logs.{lasts, with_parcel}
use Rattle.port_bank.specs.Relay.{RelayLaw}
use Rattle.port_bank.specs.Port.{PortView, is_crowded, is_idle}
use Rattle.port_bank.specs.Frames.{SamePort, SameOuts, SameIns}

-- A port may post parcel p on link l.
-- link, starts_here: it is a link of the grid, and starts at the port's rank.
-- fresh: nothing was taken from the parcel.
-- epoch: the parcel is of the epoch that the link is in.
-- law: with the parcels posted before it keeps the relay law.
pub record MayPost (v : PortView) (l : ℕ) (p : Contents) : Type 0 where
  pub link : l < links v.dims
  pub starts_here : sender_at v.dims l ≡ v.rank
  pub fresh : p.taken ≡ 0
  pub epoch : p.epoch ≡ lasts (v.sent l)
  pub law : RelayLaw v.dims v.rank (with_parcel v.sent l (as_shipped p)) v.got

-- A post of parcel p on link l, which leaves p' at hand.
-- If the answer is Sent:
--   sent: the parcel is the last one of the link's log.
--   emptied: the parcel at hand is empty, of the same epoch.
--   room: one slot was free for the parcel.
-- If it is NoRoom:
--   looked: the port looked for room in this call.
--   no_room, crowded: it saw every slot taken.
-- at_hand: if the port knew of a free slot, the answer is not NoRoom.
-- If it is not Sent:
--   not_sent, still_idle, kept: neither the logs, the idle links nor the parcel at hand changed.
-- In each case:
--   crowded_here, idle_here, looks_here: only the link's own facts and count can change.
--   calls: if there was memory, the call is noted.
--   looks_out: no count falls.
--   same_ins, same_port: nothing else changes of the links in, and nothing of the port itself.
pub record Posts (old : PortView) (l : ℕ) (p : Contents) (answer : Result Posted NoMemory) (new : PortView)
    (p' : Contents) : Type 0 where
  pub sent : answer ≡ Ok Sent → new.sent ≡ with_parcel old.sent l (as_shipped p)
  pub emptied : answer ≡ Ok Sent → p' ≡ blank p.epoch
  pub room : answer ≡ Ok Sent → length (old.sent l) < new.freed l + old.slots
  pub looked : answer ≡ Ok NoRoom → RoseOrFull (old.looks_out l) (new.looks_out l)
  pub no_room : answer ≡ Ok NoRoom → length (old.sent l) ≡ new.freed l + old.slots
  pub crowded : answer ≡ Ok NoRoom → is_crowded new l ≡ true
  pub at_hand : is_crowded old l ≡ false → answer ≢ Ok NoRoom
  pub not_sent : answer ≢ Ok Sent → new.sent ≡ old.sent
  pub still_idle : answer ≢ Ok Sent → is_idle new ≡ is_idle old
  pub kept : answer ≢ Ok Sent → p' ≡ p
  pub crowded_here : is_crowded new ≡ changed (is_crowded old) l (is_crowded new l)
  pub idle_here : is_idle new ≡ changed (is_idle old) l (is_idle new l)
  pub calls : IsOk answer → new.calls ≡ old.calls ++ Post l ∷ []
  pub looks_out : (m : ℕ) → old.looks_out m ≤ new.looks_out m
  pub looks_here : new.looks_out ≡ changed old.looks_out l (new.looks_out l)
  pub same_ins : SameIns old new
  pub same_port : SamePort old new

-- A port may collect from link l into parcel p.
-- link, ends_here: it is a link of the grid, and ends at the port's rank.
-- empty: the parcel is empty, of the epoch that the link is in.
pub record MayCollect (v : PortView) (l : ℕ) (p : Contents) : Type 0 where
  pub link : l < links v.dims
  pub ends_here : reader_at v.dims l ≡ v.rank
  pub empty : p ≡ blank (lasts (v.got l))

-- A collect from link l into parcel p, which leaves p' at hand, for parcels of capacity cap.
-- If the answer is Got:
--   got: the parcel at hand is the last one of the link's log.
--   arrived: nothing was taken from it.
--   epoch, fits, fair: it is of the link's epoch, within the capacity, and its tags are fair.
--   known: the port knew of a parcel that was not collected.
--   own: on a link from the rank to itself, what was collected is a prefix of what was posted.
-- If it is Nothing:
--   heard: the port listened since its latest collect on the link.
--   none_known, idle: it has collected all that it knows of.
--   not_got, still_crowded, kept: neither the logs, the crowded links nor the parcel at hand
--   changed.
-- at_hand: if the port knew of a parcel, the answer is Got.
-- In each case:
--   calls, noted: the call is noted, and how often the port had listened by its end.
--   listens, looks_in: no count falls.
--   crowded_here, idle_here: only the link's own facts can change.
--   same_outs, same_port: nothing else changes of the links out, and nothing of the port itself.
pub record Collects (cap : ℕ) (old : PortView) (l : ℕ) (p : Contents) (answer : Collected) (new : PortView)
    (p' : Contents) : Type 0 where
  pub got : answer ≡ Got → new.got ≡ with_parcel old.got l (as_shipped p')
  pub arrived : answer ≡ Got → p' ≡ as_arrived (as_shipped p')
  pub epoch : answer ≡ Got → p'.epoch ≡ lasts (old.got l)
  pub fits : answer ≡ Got → length p'.untaken ≤ cap
  pub fair : answer ≡ Got → All (λ e. IsFair old.dims (hop_at old.dims l) e.tag) p'.untaken
  pub known : answer ≡ Got → length (old.got l) < new.known l
  pub own : answer ≡ Got → sender_at old.dims l ≡ old.rank → IsPrefix (new.got l) (new.sent l)
  pub heard : answer ≡ Nothing → RoseOrFull (old.noted l) (new.listens l)
  pub none_known : answer ≡ Nothing → length (old.got l) ≡ new.known l
  pub idle : answer ≡ Nothing → is_idle new l ≡ true
  pub not_got : answer ≡ Nothing → new.got ≡ old.got
  pub still_crowded : answer ≡ Nothing → is_crowded new ≡ is_crowded old
  pub kept : answer ≡ Nothing → p' ≡ p
  pub at_hand : is_idle old l ≡ false → answer ≡ Got
  pub calls : new.calls ≡ old.calls ++ Collect l ∷ []
  pub noted : new.noted ≡ changed old.noted l (new.listens l)
  pub listens : (m : ℕ) → old.listens m ≤ new.listens m
  pub looks_in : (m : ℕ) → old.looks_in m ≤ new.looks_in m
  pub crowded_here : is_crowded new ≡ changed (is_crowded old) l (is_crowded new l)
  pub idle_here : is_idle new ≡ changed (is_idle old) l (is_idle new l)
  pub same_outs : SameOuts old new
  pub same_port : SamePort old new
