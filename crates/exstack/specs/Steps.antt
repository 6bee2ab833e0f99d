-- What a round does on one link, and over all links of a rank, seen through its port.
use Rattle.std.specs.Prelude.{◌≡◌, ℕ, ◌-◌, ◌<◌, ◌≤◌, Bool, true, false, not, ◌&&◌, List, [], ◌∷◌, ◌++◌, length}
use Rattle.std.specs.Prelude.{if◌then◌else◌}
use Rattle.std.specs.Prelude.{slice_index_or}
use Rattle.bale_items.specs.Counters.{RoseOrFull}
use Rattle.item_buffer.specs.Contents.{Shipped}
use Rattle.port_bank.specs.Port.{PortView, is_crowded, is_idle}
use Rattle.port_bank.specs.Calls.{Call, sweep_calls}
use Rattle.port_bank.specs.Calls.Call.{Post, Collect}
use Rattle.port_bank.specs.Frames.{SamePort, SameIns, SameOuts}
use Rattle.port_bank.specs.Logs.{Logs}
use Rattle.list_laws.specs.Lists.{IsPrefix}
use Rattle.exstack.specs.Links.{StackOut, StackIn, no_stack_out, no_stack_in, parcel_of, gone, came}
use Rattle.exstack.specs.State.{Stack, stack_out_at, stack_in_at, number, stack_link_to, stack_link_from}

-- A parcel was due, and isn't any more.
abbrev pub was_moved : Bool → Bool → Bool
was_moved old new = old && not new

-- The latest parcel of a log.
abbrev pub latest : List Shipped → Shipped
latest log = slice_index_or log (length log - 1) (record { entries = []; last = false; epoch = 0 })

-- A link out in a round: if its parcel was posted it is at the end of the log, and nothing
-- else changes.
pub record WasPostedInRound (last : Bool) (epoch : ℕ) (old new : StackOut) (log log' : List Shipped) : Type 0 where
  pub link : new ≡ (if was_moved old.due new.due then gone last else old)
  pub sent : log' ≡ (if was_moved old.due new.due then log ++ parcel_of last epoch old ∷ [] else log)

-- A link in in a round: if a parcel was collected it is at the end of the log, and nothing
-- else changes.
pub record WasCollected (exchange : Bool) (old new : StackIn) (log log' : List Shipped) : Type 0 where
  pub link : new ≡ (if was_moved old.due new.due then came exchange (latest log') else old)
  pub got : log' ≡ (if was_moved old.due new.due then log ++ latest log' ∷ [] else log)

-- A link whose parcel is still due was asked without success: the port looked for room, or
-- listened, in this call, and the link is crowded, or idle.
pub record AskedWithoutSuccess (count count' : ℕ) (stuck : Bool) : Type 0 where
  pub rose : RoseOrFull count count'
  pub still_stuck : stuck ≡ true

-- The posts of a round to the first n ranks, and its collects from them, in ascending order: one
-- for each parcel that is due as it begins.
-- Of two ranks rank 0, whose parcels are both due, posts on link 0 and then on link 1, and collects
-- from link 0 and then from link 2.
abbrev pub posts_to : ℕ → ℕ → List StackOut → ℕ → List Call
posts_to ranks rank outs n = sweep_calls (λ b. (slice_index_or outs b no_stack_out).due) (λ b. Post (number ranks rank b)) n

abbrev pub collects_from : ℕ → ℕ → List StackIn → ℕ → List Call
collects_from ranks rank ins n = sweep_calls (λ a. (slice_index_or ins a no_stack_in).due) (λ a. Collect (number ranks a rank)) n

-- If a round without memory stopped: at a link out whose parcel is due still, after the posts on
-- the links below it.
pub record StackStopsAt (ranks rank : ℕ) (begun outs : List StackOut) (before calls : List Call) : Type 0 where
  pub to : ℕ
  pub below : to < ranks
  pub due : (slice_index_or outs to no_stack_out).due ≡ true
  pub calls_are : calls ≡ before ++ posts_to ranks rank begun to

-- What posts leave of a port: its links in, and what was sent.
pub record LeftByStackPosts (port port' : PortView) : Type 0 where
  pub grows : (l : ℕ) → IsPrefix (port.sent l) (port'.sent l)
  pub same_ins : SameIns port port'
  pub same_port : SamePort port port'

-- What collects leave of a port: its links out, and what was got. A link is as crowded as before
-- unless something was got on it.
pub record LeftByStackCollects (port port' : PortView) : Type 0 where
  pub grows : (l : ℕ) → IsPrefix (port.got l) (port'.got l)
  pub crowded : (l : ℕ) → port'.got l ≡ port.got l → is_crowded port' l ≡ is_crowded port l
  pub same_outs : SameOuts port port'
  pub same_port : SamePort port port'

-- A port of rank me, on a grid of one hop with so many ranks.
pub record IsStackPort (ranks me : ℕ) (port : PortView) : Type 0 where
  pub dims : port.dims ≡ ranks ∷ []
  pub rank : port.rank ≡ me
  pub within : me < ranks
  pub few : ranks ≤ 64

-- A round, or what a poll does of it: on each link out at most one post, and on each link in at
-- most one collect.
pub record MadeRound (last exchange : Bool) (old new : Stack) (sent sent' got got' : Logs) : Type 0 where
  pub posted : (b : ℕ) → b < old.ranks
      → WasPostedInRound last old.epoch (stack_out_at old b) (stack_out_at new b) (sent (stack_link_to old b)) (sent' (stack_link_to old b))
  pub collected : (a : ℕ) → a < old.ranks
      → WasCollected exchange (stack_in_at old a) (stack_in_at new a) (got (stack_link_from old a)) (got' (stack_link_from old a))
  pub sent_grows : (l : ℕ) → IsPrefix (sent l) (sent' l)
  pub got_grows : (l : ℕ) → IsPrefix (got l) (got' l)

-- What a round asks of its port if it has memory: its posts, and then its collects.
-- looked, crowded: for a link out whose parcel is due still the port looked for room in this call,
-- and the link is crowded, unless something was got on it meanwhile.
-- asked: on a link in whose parcel is due still it listened without success.
pub record AsksOnce (begun new : Stack)
    (port port' : PortView) : Type 0 where
  pub looked : (b : ℕ) → b < begun.ranks → (stack_out_at new b).due ≡ true
      → RoseOrFull (port.looks_out (stack_link_to begun b)) (port'.looks_out (stack_link_to begun b))
  pub crowded : (b : ℕ) → b < begun.ranks → (stack_out_at new b).due ≡ true
      → port'.got (stack_link_to begun b) ≡ port.got (stack_link_to begun b)
      → is_crowded port' (stack_link_to begun b) ≡ true
  pub asked : (a : ℕ) → a < begun.ranks → (stack_in_at new a).due ≡ true
      → AskedWithoutSuccess (port.noted (stack_link_from begun a)) (port'.noted (stack_link_from begun a)) (is_idle port' (stack_link_from begun a))
  pub calls : port'.calls ≡ (port.calls ++ posts_to begun.ranks begun.rank begun.outs begun.ranks)
      ++ collects_from begun.ranks begun.rank begun.ins begun.ranks

-- And without memory: it stops at the link that found none, and collects nothing.
abbrev pub StopsShort : Stack → Stack → PortView → PortView → Type 0
StopsShort begun new port port' = StackStopsAt new.ranks new.rank begun.outs new.outs port.calls port'.calls
