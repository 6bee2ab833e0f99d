-- What a rank's seat counts beside the table, and the lists that the counts are of.
use Rattle.std.specs.Prelude.{◌≡◌, ◌≢◌, ◌⊎◌, ℕ, ◌+◌, ◌-◌, ◌*◌, ◌^◌, ◌%◌, ◌<◌, ◌≤◌, ◌==◌, Bool, true, false, List, take}
use Rattle.std.specs.Prelude.{length, suc, [], ◌∷◌, ◌++◌}
use Rattle.std.specs.Int.{bit_at}
use Rattle.list_laws.specs.Counts.{saturated_count}
use mathlib.Core.Option.{some}
use lib.ListN.{get_elem?}
use Rattle.item_buffer.specs.Contents.{Contents}
use Rattle.route_tensor.specs.Grid.{coord}
use Rattle.route_tensor.specs.Link.{links}
use Rattle.route_tensor.specs.Ends.{hop_at, sender_at, reader_at}
use Rattle.port_bank.specs.declared.port.Posted.{Posted}
use Rattle.port_bank.specs.declared.port.Posted.TheVariants.{Sent, NoRoom}
use Rattle.port_bank.specs.declared.port.Collected.{Collected}
use Rattle.port_bank.specs.declared.port.Collected.TheVariants.{Got, Nothing}
use Rattle.link_slots.specs.Logs.{OutLog, InLog, Lists, in_of, found_full}
use Rattle.link_slots.specs.Shape.{Shape, wiring, MayFollow}

-- A link out before and after a post of parcel p, o and o', by its answer.
-- looks, once: it looks at most once, and only if no empty slot is at hand.
-- found: if it finds no room, every slot is taken, and nothing changed but the look.
pub record HasPosted (slots : ℕ) (o o' : OutLog Contents) (p : Contents) (answer : Posted) : Type 0 where
  pub sent : answer ≡ Sent → o'.sent ≡ o.sent ++ p ∷ []
  pub offered : answer ≡ Sent → o'.offered ≡ length o'.sent
  pub room : answer ≡ Sent → length o.sent < o'.room
  pub looks : o.looks ≤ o'.looks
  pub once : o'.looks ≤ suc o.looks
  pub at_hand : length o.sent < o.room → (answer ≡ Sent) × (o'.looks ≡ o.looks)
  pub found : answer ≡ NoRoom → o' ≡ found_full o
  pub looked : answer ≡ NoRoom → o'.looks ≡ suc o.looks
  pub full : answer ≡ NoRoom → o'.room ≡ length o.sent
  pub all_room : answer ≡ NoRoom → slots ≤ o'.room
  pub not_sent : answer ≡ NoRoom → o'.sent ≡ o.sent

-- The sender counts what it posted, modulo 2^64, and its empty slots at hand. Once it has looked
-- for room, its room is at least all slots.
-- Example: with 2 slots, after three posts and one look that found all taken: sent 3, spare 2.
pub record IsOutEnd {T : Type 0} (slots : ℕ) (o : OutLog T) (sent spare : ℕ) : Type 0 where
  pub sent_is : sent ≡ length o.sent % 2 ^ 64
  pub spare_is : o.room ≡ length o.sent + spare
  pub few : spare ≤ slots
  pub looked : (o.room ≡ 0) ⊎ (slots ≤ o.room)

-- How often a link had been listened for when its doorbell had been heard so often: only a collect
-- of the link looks into it.
abbrev pub noted_by : {T : Type 0} → ℕ → InLog T → ℕ
noted_by hears i = saturated_count (hears + i.look_ins)

-- The reader counts what it took in the same two ways, the parcels at hand, and how often it had
-- heard the link's doorbell at the end of its latest collect.
pub record IsInEnd {T : Type 0} (slots : ℕ) (i : InLog T) (taken waiting noted : ℕ) : Type 0 where
  pub taken_is : taken ≡ i.taken % 2 ^ 64
  pub waiting_is : length i.seen ≡ i.taken + waiting
  pub few : waiting ≤ slots
  pub noted_before : noted ≤ saturated_count i.hears

-- The links into a rank on hop h: each is marked if its bit is set, and their doorbell was heard
-- so often.
pub record IsHeard (shape : Shape) (rank h : ℕ) (x : Lists Contents) (marks hears : ℕ) : Type 0 where
  pub marked : (l : ℕ) → l < links shape.dims → reader_at shape.dims l ≡ rank → hop_at shape.dims l ≡ h
      → (in_of x l).marked ≡ (bit_at marks ((wiring shape).bit l) == 1)
  pub heard : (l : ℕ) → l < links shape.dims → reader_at shape.dims l ≡ rank → hop_at shape.dims l ≡ h
      → hears ≡ saturated_count (in_of x l).hears

-- Each parcel seen on a link in may follow those before it.
abbrev pub AreGood : ℕ → Shape → ℕ → InLog Contents → Type 0
AreGood cap shape l i = (n : ℕ) (p : Contents) → get_elem? i.seen n ≡ some p
    → MayFollow shape.dims cap l (take n i.seen) p

-- What is kept of a link by its number: the word and the bit of its doorbell, and its hop less 1.
-- bell = 2*links + r*k + h - 1 and mask = 2^c, for a link of hop h to rank r from a rank whose
-- coordinate h is c
pub record IsWire (dims : List ℕ) (l bell mask hop : ℕ) : Type 0 where
  pub bell_is : bell ≡ 16 * (2 * links dims + (reader_at dims l * length dims + (hop_at dims l - 1)))
  pub mask_is : mask ≡ 2 ^ coord dims (sender_at dims l) (hop_at dims l)
  pub hop_is : hop_at dims l ≡ hop + 1

-- What a rank does on link l, which it reads, leaves its links out as they are, and of its other
-- links in what was seen and taken, and how often they were looked in. A hear counts on the links
-- of the same hop alone.
pub record KeepsOtherLinks (shape : Shape) (rank l : ℕ) (x x' : Lists Contents) : Type 0 where
  pub outs : x'.outs ≡ x.outs
  pub long : length x'.ins ≡ length x.ins
  pub seen : (m : ℕ) → m ≢ l → (in_of x' m).seen ≡ (in_of x m).seen
  pub taken : (m : ℕ) → m ≢ l → (in_of x' m).taken ≡ (in_of x m).taken
  pub look_ins : (m : ℕ) → m ≢ l → (in_of x' m).look_ins ≡ (in_of x m).look_ins
  pub hears : (m : ℕ) → m ≢ l → (in_of x m).hears ≤ (in_of x' m).hears
  pub other_hops : (m : ℕ) → m < links shape.dims → reader_at shape.dims m ≡ rank
      → hop_at shape.dims m ≢ hop_at shape.dims l → in_of x' m ≡ in_of x m

-- How many epochs a link has ended, after a collect: one more if it gave a parcel marked last.
abbrev pub ended_after : Collected → Bool → ℕ → ℕ
ended_after Got true n = saturated_count (n + 1)
ended_after Got false n = n
ended_after Nothing last n = n
