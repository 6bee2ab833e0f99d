-- Which slots a rank's seat has in its hands.
use Rattle.std.specs.Prelude.{◌≡◌, ◌⊎◌, ℕ, ◌<◌, ◌≤◌, List, length}
use mathlib.Core.Option.{some}
use lib.ListN.{get_elem?}
use Rattle.link_slots.specs.Logs.{Lists, out_of, in_of}
use Rattle.link_slots.specs.Wiring.{Wiring, slot_of}

module _ {T : Type 0} where
  -- The list has this slot with this value.
  abbrev pub Has : List (ℕ × T) → ℕ → T → Type 0
  Has c k p = (i : ℕ) × (get_elem? c i ≡ some (k, p))

  -- No slot is in the list twice.
  abbrev pub NoTwice : List (ℕ × T) → Type 0
  NoTwice c = (i j : ℕ) (x y : ℕ × T) → get_elem? c i ≡ some x → get_elem? c j ≡ some y → x.0 ≡ y.0 → i ≡ j

module _ {T : Type 0} (Blank : T → Type 0) (w : Wiring) (r : ℕ) (x : Lists T) where
  -- The slot is one of those that the rank may post into, and is empty; or one of those that it saw
  -- and has not taken, with its parcel.
  abbrev pub Own : ℕ → T → Type 0
  Own k p =
      ((l : ℕ) × (n : ℕ) × (l < w.links) × (w.from l ≡ r) × (length (out_of x l).sent ≤ n) × (n < (out_of x l).room)
      × (k ≡ slot_of w l n) × Blank p)
      ⊎ ((l : ℕ) × (n : ℕ) × (l < w.links) × (w.to l ≡ r) × ((in_of x l).taken ≤ n) × (k ≡ slot_of w l n)
      × (get_elem? (in_of x l).seen n ≡ some p))

  -- The seat holds the slots of its own numbers, each once and no other: an empty parcel for each
  -- number from S to `room` - 1 of a link that it sends on, and parcel n for each number n from G
  -- to `known` - 1 of a link that it reads.
  pub record Holds (c : List (ℕ × T)) : Type 0 where
    pub once : NoTwice c
    pub own : (i k : ℕ) (p : T) → get_elem? c i ≡ some (k, p) → Own k p
    pub spare : (l n : ℕ) → l < w.links → w.from l ≡ r → length (out_of x l).sent ≤ n → n < (out_of x l).room
        → (b : T) × Blank b × Has c (slot_of w l n) b
    pub waiting : (l n : ℕ) (p : T) → l < w.links → w.to l ≡ r → (in_of x l).taken ≤ n
        → get_elem? (in_of x l).seen n ≡ some p → Has c (slot_of w l n) p
