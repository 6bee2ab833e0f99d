-- The lawful bank: the rule of the table, between any two steps.
use Rattle.std.specs.Prelude.{◌≡◌, ℕ, ◌+◌, ◌*◌, ◌^◌, ◌<◌, List, length, slice_index_or, Some, None}
use mathlib.Core.Option.{some}
use lib.ListN.{get_elem?}
use Rattle.atomic_table.specs.Table.{State}
use Rattle.link_slots.specs.Logs.{Lists, out_of, in_of, sent_of, got_of}
use Rattle.link_slots.specs.View.{View}
use Rattle.link_slots.specs.Wiring.{Wiring}
use Rattle.link_slots.specs.Link.{LinkOk, BellOk}

module _ {D T : Type 0} (Blank : T → Type 0) (Good : ℕ → List T → T → Type 0)
    (Law : ℕ → (ℕ → List T) → (ℕ → List T) → Type 0) (shape : D) (w : Wiring) where
  -- The six parts, and the field that says each, for the lists of each rank (`logs`):
  -- (i) A link's reader took a prefix of what its sender posted, at most as many parcels are in
  -- transit as it has slots, and two words count what was posted and taken; each parcel in transit,
  -- and each empty one, is in its slot, but for those that the reader saw or the sender may use,
  -- which are with these two (`each_link`; fresh parcels of the capacity: its `good`).
  -- (ii) Tags are fair (`each_link`: `good`), and what a rank passed on is a prefix of what it got
  -- (`each_rank`).
  -- (iii) A rank ended an epoch on a link only if it had got all of it, and had passed all of it on
  -- (`each_rank`).
  -- (iv) A parcel's epoch is the number of last ones before it on its link (`each_link`: `good`).
  -- (v) A rank's lists are in the view of one seat, its owner, and in no other (`each_seat`,
  -- `owned`).
  -- (vi) If a link's bit isn't set and the link isn't marked, all that was offered is seen, and
  -- each look in answers one bit that was heard; a hear, and a look for room, that is counted was
  -- made (`each_bell`); a doorbell has no other bits (`no_other_bits`).
  -- `wide` and `deep` say how many words and slots there are.
  pub record Lawful (s : State T (View D T)) : Type 0 where
    pub logs : ℕ → Lists T
    pub owner : ℕ → ℕ
    pub wide : length s.words ≡ 16 * (2 * w.links + w.bells)
    pub deep : length s.homes ≡ w.slots * w.links
    pub each_link : (l : ℕ) → l < w.links
        → LinkOk Blank Good w l (out_of (logs (w.from l)) l) (in_of (logs (w.to l)) l) s.words s.homes
    pub each_bell : (l : ℕ) → l < w.links → BellOk w l (out_of (logs (w.from l)) l) (in_of (logs (w.to l)) l) s.words
    pub no_other_bits : (b : ℕ) → b < w.bells → slice_index_or s.words (16 * (2 * w.links + b)) 0 < 2 ^ w.width b
    pub each_rank : (r : ℕ)
        → (length (logs r).outs ≡ w.links) × (length (logs r).ins ≡ w.links)
        × Law r (sent_of (logs r)) (got_of (logs r))
    pub each_seat : (j : ℕ) (v : View D T) → get_elem? s.views j ≡ some v → (r : ℕ) (x : Lists T)
        → slice_index_or v.lists r None ≡ Some x → (owner r ≡ j) × (x ≡ logs r) × (v.shape ≡ shape)
    pub owned : (r : ℕ) → r < w.ranks
        → (v : View D T) × (get_elem? s.views (owner r) ≡ some v) × (slice_index_or v.lists r None ≡ Some (logs r))
