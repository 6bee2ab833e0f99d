-- What a seat knows by each step that it makes. After each of them the seat holds the slots of its
-- own numbers.
use Rattle.std.specs.Prelude.{◌≡◌, ℕ, zero, suc, if◌then◌else◌, ◌+◌, ◌-◌, ◌^◌, ◌%◌, ◌≤◌, Bool, true, false, eqb, List}
use Rattle.std.specs.Prelude.{[], ◌∷◌, ◌++◌, length, take}
use Rattle.std.specs.Int.{bit_at}
use mathlib.Core.Option.{some}
use lib.ListN.{get_elem?}
use Rattle.atomic_table.specs.Table.{Me, rest}
use Rattle.port_bank.specs.Flow.{IsPrefix}
use Rattle.link_slots.specs.Logs.{InLog, Lists, out_of, in_of, with_out, with_in, all_offered, taken_more}
use Rattle.link_slots.specs.View.{View, own_logs, with_logs}
use Rattle.link_slots.specs.Wiring.{Wiring, slot_of}
use Rattle.link_slots.specs.HeldSlots.{Holds}

-- How many of `more` parcels are not among those of which a word counts n modulo 2^64.
-- Example: of 5 parcels posted, if the word of the released ones says 3, two are not released.
abbrev pub beyond : ℕ → ℕ → ℕ
beyond more n = (more % 2 ^ 64 + (2 ^ 64 - n)) % 2 ^ 64

-- What a hear does to a link in whose bit was b when the doorbell was emptied.
abbrev pub marked_by : ℕ → Bool → Bool
marked_by zero m = m
marked_by (suc b) m = true

-- a list with each element changed by its place, of which the first is n
abbrev pub map_from : {A : Type 0} → (ℕ → A → A) → ℕ → List A → List A
map_from f n [] = []
map_from f n (a ∷ l) = f n a ∷ map_from f (suc n) l

module _ {T : Type 0} where
  abbrev pub heard_by : ℕ → InLog T → InLog T
  heard_by b i = record i { marked = marked_by b i.marked; hears = suc i.hears; heard = i.heard + b }

  -- the value of the slot in front, as a list
  abbrev pub in_front : List (ℕ × T) → List T
  in_front [] = []
  in_front (x ∷ c) = x.1 ∷ []

  -- the links in after a hear of the doorbell b, in which n was found
  abbrev pub heard_ins : Wiring → ℕ → ℕ → List (InLog T) → List (InLog T)
  heard_ins w b n ins = map_from (λ l i. if eqb (w.bell l) b then heard_by (bit_at n (w.bit l)) i else i) 0 ins

  abbrev pub after_hear : Wiring → ℕ → ℕ → Lists T → Lists T
  after_hear w b n x = record { outs = x.outs; ins = heard_ins w b n x.ins }

-- A look before a step: if the step would leave the word as it is, the look is that step; else
-- nothing is changed by it.
-- Example: a look before a ring, if the link's bit is set already, is the ring.
abbrev pub LookedFirst : {M : Type 0} → Bool → (M → Type 0) → M → M → Type 0
LookedFirst true Done m m' = Done m'
LookedFirst false Done m m' = m' ≡ m

module _ {D T : Type 0} (Blank : T → Type 0) (Good : ℕ → List T → T → Type 0) (w : Wiring) where
  -- Look for room: the sender may post K more than were released, and takes the slots that came
  -- free.
  abbrev pub found_room : ℕ → Me T (View D T) → ℕ → Me T (View D T) → Type 0
  found_room l m n m' =
      let x = own_logs m.0 in let o = out_of x l in
      (beyond (length o.sent) n ≤ w.slots) × (beyond (length o.sent) n ≤ length o.sent)
      × (m'.0 ≡ with_logs m.0
      (with_out x l
      (record o { room = length o.sent + (w.slots - beyond (length o.sent) n); looks = suc o.looks })))
      × Holds Blank w m.0.pick (own_logs m'.0) m'.1

  -- Post: the parcel in front is appended, and its slot is at the table again.
  abbrev pub posted : ℕ → Me T (View D T) → Me T (View D T) → Type 0
  posted l m m' =
      let x = own_logs m.0 in let o = out_of x l in
      (m' ≡ (
        with_logs m.0
            (with_out x l
            (record o { sent = o.sent ++ in_front m.1 })),
        rest m.1,
      ))
      × Holds Blank w m.0.pick (own_logs m'.0) m'.1

  -- Look in: the reader sees the parcels that were posted, takes their slots, and takes the mark
  -- away.
  abbrev pub looked_in : ℕ → Me T (View D T) → ℕ → Me T (View D T) → Type 0
  looked_in l m n m' =
      let x = own_logs m.0 in let i = in_of x l in let i' = in_of (own_logs m'.0) l in
      (beyond n (length i.seen % 2 ^ 64) ≤ w.slots)
      × (length i'.seen ≡ length i.seen + beyond n (length i.seen % 2 ^ 64)) × (take (length i.seen) i'.seen ≡ i.seen)
      × ((k : ℕ) (p : T) → get_elem? i'.seen k ≡ some p → Good l (take k i'.seen) p)
      × (m'.0 ≡ with_logs m.0
      (with_in x l
      (record i { seen = i'.seen; marked = false; look_ins = suc i.look_ins })))
      × Holds Blank w m.0.pick (own_logs m'.0) m'.1

  -- Release: one parcel more is taken, and its slot is at the table; the bank keeps how often the
  -- sender had looked for room then.
  abbrev pub released : ℕ → Me T (View D T) → Me T (View D T) → Type 0
  released l m m' =
      let x = own_logs m.0 in let i = in_of x l in
      (m' ≡ (
        with_logs m.0
            (with_in x l (taken_more i (in_of (own_logs m'.0) l).released_at)),
        rest m.1,
      ))
      × Holds Blank w m.0.pick (own_logs m'.0) m'.1

  -- The seat puts down what it holds and takes it up with the wanted slot last: a sender's next
  -- empty one, a reader's next full one. A reader that sends on the link too sees that what it saw
  -- there is a prefix of what it posted.
  abbrev pub spare_brought : ℕ → Me T (View D T) → Me T (View D T) → Type 0
  spare_brought l m m' =
      let x = own_logs m.0 in
      (b : T) × (c : List (ℕ × T)) × Blank b × (m' ≡ (m.0, (slot_of w l (length (out_of x l).sent), b) ∷ c))
      × Holds Blank w m.0.pick x m'.1

  abbrev pub parcel_brought : ℕ → Me T (View D T) → Me T (View D T) → Type 0
  parcel_brought l m m' =
      let x = own_logs m.0 in let i = in_of x l in
      (p : T) × (c : List (ℕ × T)) × (get_elem? i.seen i.taken ≡ some p) × (m' ≡ (m.0, (slot_of w l i.taken, p) ∷ c))
      × Holds Blank w m.0.pick x m'.1
      × (w.from l ≡ m.0.pick → IsPrefix i.seen (out_of x l).sent)

  -- Ring: all parcels posted so far are offered, and the bank keeps how often their reader had
  -- heard the doorbell then.
  abbrev pub rung : ℕ → Me T (View D T) → Me T (View D T) → Type 0
  rung l m m' =
      let x = own_logs m.0 in let o = out_of x l in
      (m' ≡ (
        with_logs m.0
            (with_out x l (all_offered o (out_of (own_logs m'.0) l).rung_at)),
        m.1,
      ))
      × Holds Blank w m.0.pick (own_logs m'.0) m'.1

  -- Hear: the reader learns which links of the doorbell b were rung, and marks them.
  abbrev pub heard : ℕ → Me T (View D T) → ℕ → Me T (View D T) → Type 0
  heard b m n m' =
      let x = own_logs m.0 in
      (m' ≡ (with_logs m.0 (after_hear w b n x), m.1))
      × Holds Blank w m.0.pick (own_logs m'.0) m'.1
