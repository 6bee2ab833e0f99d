-- What Nothing says of the parcels that a sender rang for.
use Rattle.std.specs.Prelude.{◌≡◌, ◌⊎◌, ℕ, ◌<◌, ◌≤◌, true, false, length, slice_index_or}
use Rattle.std.specs.Int.{bit_at}
use Rattle.item_buffer.specs.Contents.{Contents}
use Rattle.route_tensor.specs.Link.{links}
use Rattle.route_tensor.specs.Ends.{sender_at, reader_at}
use Rattle.atomic_table.specs.Table.{State}
use Rattle.link_slots.specs.Logs.{OutLog, InLog, out_of, in_of}
use Rattle.link_slots.specs.Wiring.{bell_word}
use Rattle.link_slots.specs.Shape.{Shape, wiring}
use Rattle.link_slots.specs.WordSteps.{TableView, IsLawful}

-- What the reader of link l knows when a collect answers Nothing: the link isn't marked, and all
-- that was seen is taken.
pub record IsSettledFor (i : InLog Contents) : Type 0 where
  pub unmarked : i.marked ≡ false
  pub taken : length i.seen ≡ i.taken

-- Whether the doorbell's bit of link l is set.
abbrev pub IsUnset : Shape → ℕ → State Contents TableView → Type 0
IsUnset shape l s = bit_at (slice_index_or s.words (bell_word (wiring shape) l) 0) ((wiring shape).bit l) ≡ 0

-- Whether the reader has heard the doorbell of link l since the sender last rang.
abbrev pub IsHeardOf : OutLog Contents → InLog Contents → Type 0
IsHeardOf o i = o.rung_at < i.hears

-- In a lawful bank whose doorbell has no bit for a link, a reader that knows no more of the link
-- has taken every parcel that its sender offered.
-- Example: rank 0 posted two parcels to rank 1 and rang for both; rank 1 heard, looked in, took
-- both, and answers Nothing: none is left.
abbrev pub BellLaw : ℕ → Type 0
BellLaw cap = (shape : Shape) (s : State Contents TableView) (l : ℕ) → (bank : IsLawful cap shape s)
    → l < links shape.dims
    → IsUnset shape l s → IsSettledFor (in_of (bank.logs (reader_at shape.dims l)) l)
    → (out_of (bank.logs (sender_at shape.dims l)) l).offered ≤ (in_of (bank.logs (reader_at shape.dims l)) l).taken

-- And so has one that has heard the doorbell since the sender last rang, whether it is rung anew or
-- not: a hear that is counted was made.
abbrev pub HeardLaw : ℕ → Type 0
HeardLaw cap = (shape : Shape) (s : State Contents TableView) (l : ℕ) → (bank : IsLawful cap shape s)
    → l < links shape.dims
    → IsHeardOf (out_of (bank.logs (sender_at shape.dims l)) l) (in_of (bank.logs (reader_at shape.dims l)) l)
    → IsSettledFor (in_of (bank.logs (reader_at shape.dims l)) l)
    → (out_of (bank.logs (sender_at shape.dims l)) l).offered ≤ (in_of (bank.logs (reader_at shape.dims l)) l).taken

-- And the step that counts a hear marks the link, unless every offered parcel is seen: from the
-- state s to s' the link's sender did nothing, and its reader heard once more.
abbrev pub HearLaw : ℕ → Type 0
HearLaw cap = (shape : Shape) (s s' : State Contents TableView) (l : ℕ) → (was : IsLawful cap shape s)
    → (now : IsLawful cap shape s') → l < links shape.dims
    → out_of (now.logs (sender_at shape.dims l)) l ≡ out_of (was.logs (sender_at shape.dims l)) l
    → (in_of (was.logs (reader_at shape.dims l)) l).hears < (in_of (now.logs (reader_at shape.dims l)) l).hears
    → ((in_of (now.logs (reader_at shape.dims l)) l).marked ≡ true)
    ⊎ ((out_of (now.logs (sender_at shape.dims l)) l).offered
    ≤ length (in_of (now.logs (reader_at shape.dims l)) l).seen)
