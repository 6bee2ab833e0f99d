-- What a call on a slot port does, beyond what holds of all ports.
use Rattle.std.specs.Prelude.{◌≡◌, ◌≢◌, ℕ, suc, ◌<◌, ◌≤◌, [], ◌∷◌, ◌++◌, length, false, Result, Ok}
use Rattle.bale_items.specs.declared.fault.NoMemory.{NoMemory}
use Rattle.bale_items.specs.Counters.{RoseOrFull}
use Rattle.item_buffer.specs.Contents.{Contents, as_shipped}
use Rattle.list_laws.specs.Lists.{IsPrefix, changed}
use Rattle.route_tensor.specs.Link.{links}
use Rattle.route_tensor.specs.Ends.{hop_at, sender_at, reader_at}
use Rattle.port_bank.specs.declared.port.Posted.{Posted}
use Rattle.port_bank.specs.declared.port.Posted.TheVariants.{Sent, NoRoom}
use Rattle.port_bank.specs.declared.port.Collected.{Collected}
use Rattle.port_bank.specs.declared.port.Collected.TheVariants.{Got, Nothing}
use Rattle.port_bank.specs.Logs.{with_parcel}
use Rattle.link_slots.specs.Logs.{out_of, in_of, got_of, with_out, with_in, found_full, taken_more}
use Rattle.link_slots.specs.Shape.{MayFollow}
use Rattle.link_slots.specs.Doorbell.{is_due, HeardWhere, LookedFor}
use Rattle.link_slots.specs.SeatView.{SeatView, collected_from, known_on, listens_on, hears_noted, noted_at}

-- A post of p on link l, from the seat s to s': it changes that link's lists alone. If an empty
-- slot is at hand the parcel is sent without a look for room, and no post looks more than once. At
-- Sent every parcel of the link is offered; at NoRoom the port looked once and nobody was rung for.
pub record DidPost (s s' : SeatView) (l : ℕ) (p : Contents) (r : Result Posted NoMemory) : Type 0 where
  pub here : s' ≡ record s { lists = with_out s.lists l (out_of s'.lists l) }
  pub sent : r ≡ Ok Sent → (out_of s'.lists l).sent ≡ (out_of s.lists l).sent ++ p ∷ []
  pub offered : r ≡ Ok Sent → (out_of s'.lists l).offered ≡ length (out_of s'.lists l).sent
  pub at_hand : length (out_of s.lists l).sent < (out_of s.lists l).room
      → (r ≡ Ok Sent) × ((out_of s'.lists l).looks ≡ (out_of s.lists l).looks)
  pub looked : r ≡ Ok NoRoom → out_of s'.lists l ≡ found_full (out_of s.lists l)
  pub once : (out_of s'.lists l).looks ≤ suc (out_of s.lists l).looks

-- A collect from link l into parcel p, which leaves p' at hand, from the seat s to s', for parcels
-- of capacity cap.
-- If the answer is Got:
--   got, arrived: the parcel at hand is the last one of the link's log, and may follow those before.
--   known: the rank knew of a parcel that was not collected.
--   own: on a link from the rank to itself, what it saw is a prefix of what it posted.
-- If it is Nothing:
--   not_got, kept: neither the logs nor the parcel at hand changed.
--   none_known: the rank has collected all that it knows of.
--   heard, unmarked: it listened since its latest collect on the link, which isn't marked now.
-- In each case:
--   long: the rank has lists of the link.
--   noted: how often the rank had listened by the end of the call is noted.
--   listens: no count falls.
--   known_elsewhere: the rank learns nothing of other links.
pub record SeatCollects (cap : ℕ) (s s' : SeatView) (l : ℕ) (p : Contents) (r : Collected) (p' : Contents) : Type 0 where
  pub got : r ≡ Got → collected_from s' ≡ with_parcel (collected_from s) l (as_shipped p')
  pub arrived : r ≡ Got → MayFollow s.shape.dims cap l (got_of s.lists l) p'
  pub known : r ≡ Got → length (collected_from s l) < known_on s' l
  pub own : r ≡ Got → sender_at s.shape.dims l ≡ s.rank → IsPrefix (in_of s'.lists l).seen (out_of s'.lists l).sent
  pub not_got : r ≡ Nothing → collected_from s' ≡ collected_from s
  pub none_known : r ≡ Nothing → length (collected_from s l) ≡ known_on s' l
  pub heard : r ≡ Nothing → RoseOrFull (noted_at s l) (listens_on s' l)
  pub unmarked : r ≡ Nothing → (in_of s'.lists l).marked ≡ false
  pub kept : r ≡ Nothing → p' ≡ p
  pub long : l < length s.lists.ins
  pub noted : noted_at s' ≡ changed (noted_at s) l (listens_on s' l)
  pub listens : (m : ℕ) → listens_on s m ≤ listens_on s' m
  pub known_elsewhere : (m : ℕ) → m ≢ l → known_on s' m ≡ known_on s m

-- A collect on link l, from the seat s to s'. If a parcel was at hand it is taken, with no step
-- of looking. Else the doorbell of the link's hop is heard if a hear is due and not else, and
-- the link is looked in if it is then marked and not else.
pub record DidCollect (s s' : SeatView) (l : ℕ) (r : Collected) : Type 0 where
  pub here : s' ≡ record s { lists = s'.lists; noted = s'.noted; ended = s'.ended }
  pub outs : s'.lists.outs ≡ s.lists.outs
  pub at_hand : length (collected_from s l) < known_on s l → r ≡ Got
  pub no_looking : length (collected_from s l) < known_on s l
      → s'.lists ≡ with_in s.lists l (taken_more (in_of s.lists l) (in_of s'.lists l).released_at)
  pub heard_beside : length (collected_from s l) ≡ known_on s l → (m : ℕ) → m < links s.shape.dims
      → reader_at s.shape.dims m ≡ s.rank → hop_at s.shape.dims m ≡ hop_at s.shape.dims l → m ≢ l
      → HeardWhere (is_due (hears_noted s l) (in_of s.lists l)) (in_of s.lists m) (in_of s'.lists m)
  pub looked_for : length (collected_from s l) ≡ known_on s l
      → LookedFor (hears_noted s l) (in_of s.lists l) (in_of s'.lists l)
  pub other_hops : (m : ℕ) → m < links s.shape.dims → reader_at s.shape.dims m ≡ s.rank
      → hop_at s.shape.dims m ≢ hop_at s.shape.dims l → in_of s'.lists m ≡ in_of s.lists m
