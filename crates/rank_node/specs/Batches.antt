-- How a node takes in a batch of items that came.
use Rattle.std.specs.Prelude.{◌≡◌, ℕ, ◌+◌, ◌-◌, ◌^◌, length, min, Bool, true, false, List, map, if◌then◌else◌}
use Rattle.std.specs.List.{fold}
use Rattle.bale_items.specs.declared.item.Item.{Item}
use Rattle.bale_items.specs.declared.item.Entry.{Entry}
use Rattle.route_tensor.specs.Neighbour.{neighbour}
use Rattle.route_tensor.specs.Tag.{sender_of}
use Rattle.route_tensor.specs.Routes.{Site}
use Rattle.hop_core.specs.State.{State, in_at}
use Rattle.round_program.specs.Rules.{Rules}
use Rattle.round_program.specs.Batches.{all_taken_in}

-- Entries of a rank's link in, by its number, as items, each with its sender, which its tag gives.
abbrev pub from_link : Site → ℕ → List Entry → List (ℕ × Item)
from_link site number entries =
    map (λ e. (sender_of site.dims e.tag (length site.dims) (neighbour site.dims site.rank number), e.item)) entries

-- All that is unread on a conveyor's link in.
abbrev pub unread_items_on : State → ℕ → List (ℕ × Item)
unread_items_on st number = from_link (record { dims = st.dims; rank = st.rank }) number (in_at st number).parcel.untaken

-- Entries that came from one sender.
abbrev pub from_sender : ℕ → List Entry → List (ℕ × Item)
from_sender sender entries = map (λ e. (sender, e.item)) entries

-- A sum of votes after further votes came. It saturates at 2^64 - 1.
-- After votes of 2 and 1 the sum 4 is 7.
abbrev pub sum_after : ℕ → List (ℕ × Item) → ℕ
sum_after sum came = fold (λ n e. min (n + e.1.a) (2 ^ 64 - 1)) sum came

-- How a node takes in items that it pulled. In an epoch of votes it adds their first fields to its
-- sum. In an epoch of work the program absorbs those that it may be sent, unless memory ran out
-- before: a spoiled node drops what comes.
pub record TakesEach {S : Type 0} (R : Rules S) (voting : Bool) (prog prog' : S) (came : List (ℕ × Item)) (sum sum' : ℕ)
    (spoiled spoiled' : Bool) : Type 0 where
  pub valid : R.valid prog
  pub emissions : R.emissions prog' ≡ R.emissions prog
  pub summed_up : sum' ≡ (if voting then sum_after sum came else sum)
  pub unspoiled : spoiled' ≡ false → spoiled ≡ false
  pub votes : voting ≡ true → (spoiled' ≡ spoiled) × (prog' ≡ prog)
  pub absorbed : voting ≡ false → spoiled' ≡ false → prog' ≡ all_taken_in R prog came
  pub dropped : spoiled ≡ true → prog' ≡ prog
