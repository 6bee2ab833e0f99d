-- The values of the options: what a text gives, if it gives anything.
use Rattle.std.specs.Prelude.{ℕ, Bool, true, false, ◌+◌, ◌*◌, ◌-◌, ◌/◌, ◌^◌, ◌==◌, min, List, [], ◌∷◌, Option, Some}
use Rattle.std.specs.Prelude.{if◌then◌else◌}
use Rattle.std.specs.Prelude.{None, is_some, codes}
use Rattle.std.specs.List.{list_any, slice_split}
use Rattle.std.specs.Option.{option_map, option_and_then}
use Rattle.std.specs.Str.{bytes_eq}
use Rattle.item_buffer.specs.declared.capacity.TheConstants.{MOST_ENTRIES}
use Rattle.item_buffer.specs.Capacity.{capacities}
use Rattle.route_tensor.specs.Refusal.{refusal}
use Rattle.port_bank.specs.declared.slots.TheConstants.{MOST_SLOTS}
use Rattle.port_bank.specs.Slots.{slot_counts}
use Rattle.bale_words.specs.declared.task.TaskName.{TaskName}
use Rattle.bale_words.specs.declared.task.TaskName.TheVariants as application
use Rattle.bale_words.specs.declared.command.Transport.{Transport}
use Rattle.bale_words.specs.declared.command.Transport.TheVariants.{Convey, Exstack, Biconvey}
use Rattle.bale_words.specs.declared.command.Driving.{Driving}
use Rattle.bale_words.specs.declared.command.Driving.TheVariants.{Threads, Serial}
use Rattle.bale_words.specs.declared.command.Generated.{Generated}
use Rattle.bale_words.specs.Numbers.{number_in, numbers_in}

-- The second step, if the first gave a value: the `?` of the definitions.
infixl 10 ◌>>=◌
abbrev pub ◌>>=◌ : {A B : Type 0} → Option A → (A → Option B) → Option B
o >>= next = option_and_then next o

-- A text is this word.
unfoldable pub is_text : List ℕ → List ℕ → Bool
is_text word text = bytes_eq text word

-- What an option gives that may be left out: its default, or what its text gives.
abbrev pub or_default : {X : Type 0} → X → (List ℕ → Option X) → Option (List ℕ) → Option X
or_default default reads None = Some default
or_default default reads (Some text) = reads text

-- What an option gives that has no default: nothing, or what its text gives.
abbrev pub if_given : {X : Type 0} → (List ℕ → Option X) → Option (List ℕ) → Option (Option X)
if_given reads None = Some None
if_given reads (Some text) = option_map (λ x. Some x) (reads text)

-- A number that is one of some.
abbrev pub one_of : List ℕ → ℕ → Option ℕ
one_of sizes n = if list_any (λ size. size == n) sizes then Some n else None

-- Dimensions of which a grid can be made.
abbrev pub as_grid : List ℕ → Option (List ℕ)
as_grid dims = if is_some (refusal dims) then None else Some dims

-- A grid: one to three numbers joined by x, each from 1 to 64, with a product of at most 64.
-- "2x2x2" gives 2, 2, 2; "65", "9x8" and "2x2x2x2" give nothing.
unfoldable pub grid_of : List ℕ → Option (List ℕ)
grid_of text = numbers_in 120 1 64 text >>= as_grid

-- Slots of a link, and the entries of a parcel.
unfoldable pub slots_of : List ℕ → Option ℕ
slots_of text = number_in 1 MOST_SLOTS text >>= one_of slot_counts

unfoldable pub buffer_of : List ℕ → Option ℕ
buffer_of text = number_in 1 MOST_ENTRIES text >>= one_of capacities

-- `yes` or `no`.
unfoldable pub steady_of : List ℕ → Option Bool
steady_of text =
    if is_text (codes "yes") text then Some true else (if is_text (codes "no") text then Some false else None)

unfoldable pub driving_of : List ℕ → Option Driving
driving_of text =
    if is_text (codes "threads") text then Some Threads
    else (if is_text (codes "serial") text then Some Serial else None)

-- biconvey is for ig alone.
abbrev pub has_biconvey : TaskName → Bool
has_biconvey application.Ig = true
has_biconvey _ = false

unfoldable pub transport_of : TaskName → List ℕ → Option Transport
transport_of a text =
    if is_text (codes "convey") text then Some Convey else (if is_text (codes "exstack") text then Some Exstack
    else (if is_text (codes "biconvey") text then (if has_biconvey a then Some Biconvey else None) else None))

-- The most entries that a generated matrix of n rows may have: those on or above the diagonal, at
-- most 262,144.
abbrev pub most_entries : ℕ → ℕ
most_entries n = min 262144 (n * (n + 1) / 2)

-- A matrix to be generated: three numbers n, m and a seed, joined by commas.
-- "2,3,42" gives 2 rows, 3 entries and the seed 42; "2,4,42" gives nothing, since there are 3
-- places.
abbrev pub generated_by : List (List ℕ) → Option Generated
generated_by (n ∷ m ∷ seed ∷ []) = do
  rows ← number_in 1 16384 n
  entries ← number_in rows (most_entries rows) m
  seed ← number_in 0 (2 ^ 64 - 1) seed
  Some (record { rows = rows; entries = entries; seed = seed })
generated_by _ = None

unfoldable pub generated_of : List ℕ → Option Generated
generated_of text = generated_by (slice_split (λ b. b == 44) text)
