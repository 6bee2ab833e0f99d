-- One link of a lawful bank: its two words, its slots, its doorbell bit, and what its sender and
-- its reader know.
use Rattle.std.specs.Prelude.{◌≡◌, ◌⊎◌, ℕ, ◌+◌, ◌^◌, ◌%◌, ◌<◌, ◌≤◌, Bool, true, false, List, take, length}
use Rattle.std.specs.Prelude.{slice_index_or}
use Rattle.std.specs.Int.{bit_at}
use mathlib.Core.Option.{Option, none, some}
use lib.ListN.{get_elem?}
use Rattle.link_slots.specs.Logs.{OutLog, InLog}
use Rattle.link_slots.specs.Wiring.{Wiring, slot_of, posted_word, released_word, bell_word}

abbrev pub bit_of : Bool → ℕ
bit_of true = 1
bit_of false = 0

module _ {T : Type 0} (Blank : T → Type 0) (Good : ℕ → List T → T → Type 0) (w : Wiring) where
  -- Parts (i) and (iv) for a link l: G parcels were collected, `known` are seen, S are posted, and
  -- the sender may post below `room`:
  -- G <= known <= S <= room <= G + K. Of the K numbers from G on, those that the reader saw and
  -- those that the sender may use are not at the table; those posted and not yet seen are there
  -- with their parcel, and the others there with an empty one.
  -- Good l before p says that p may follow `before` on l: it is fresh, of the bank's capacity, its
  -- entries have fair tags, and its epoch is the number of last parcels before it.
  pub record LinkOk (l : ℕ) (o : OutLog T) (i : InLog T) (words : List ℕ) (homes : List (Option T)) : Type 0 where
    pub posted : slice_index_or words (posted_word l) 0 ≡ length o.sent % 2 ^ 64
    pub released : slice_index_or words (released_word l) 0 ≡ i.taken % 2 ^ 64
    pub taken_seen : i.taken ≤ length i.seen
    pub seen_sent : length i.seen ≤ length o.sent
    pub sent_room : length o.sent ≤ o.room
    pub room_slots : o.room ≤ i.taken + w.slots
    pub seen_is : i.seen ≡ take (length i.seen) o.sent
    pub seen_away : (n : ℕ) → i.taken ≤ n → n < length i.seen → get_elem? homes (slot_of w l n) ≡ some none
    pub full : (n : ℕ) (p : T) → length i.seen ≤ n → get_elem? o.sent n ≡ some p
        → get_elem? homes (slot_of w l n) ≡ some (some p)
    pub room_away : (n : ℕ) → length o.sent ≤ n → n < o.room → get_elem? homes (slot_of w l n) ≡ some none
    pub empty : (n : ℕ) → o.room ≤ n → n < i.taken + w.slots
        → (b : T) × Blank b × (get_elem? homes (slot_of w l n) ≡ some (some b))
    pub good : (n : ℕ) (p : T) → get_elem? o.sent n ≡ some p → Good l (take n o.sent) p

module _ {T : Type 0} (w : Wiring) where
  -- Part (vi) for a link l: no parcel is offered that was not posted; if the doorbell's bit is
  -- not set and the link is not marked, all offered parcels are seen; each look in answers one bit
  -- that was heard; and if the reader has heard the doorbell since the sender last rang, and the
  -- link is not marked, all offered parcels are seen: no hear is counted that passes over a ring.
  -- And if the sender has looked for room since the latest release, it may use every slot that
  -- is free:
  -- no look is counted that passes over a release.
  pub record BellOk (l : ℕ) (o : OutLog T) (i : InLog T) (words : List ℕ) : Type 0 where
    pub offered_sent : o.offered ≤ length o.sent
    pub told : (bit_at (slice_index_or words (bell_word w l) 0) (w.bit l) ≡ 1) ⊎ (i.marked ≡ true)
        ⊎ (o.offered ≤ length i.seen)
    pub looked : i.look_ins + bit_of i.marked ≤ i.heard
    pub rung : o.rung_at ≤ i.hears
    pub released : i.released_at ≤ o.looks
    pub found : (i.released_at ≡ o.looks) ⊎ (i.taken + w.slots ≤ o.room)
    pub answered : (o.rung_at ≡ i.hears) ⊎ (i.marked ≡ true) ⊎ (o.offered ≤ length i.seen)
