-- How items travel by default, and what a drive with these settings guarantees.
use Rattle.std.specs.Prelude.{ℕ, ◌≡◌, false, List, length}
use Rattle.std.specs.List.{range_with_len}
use Rattle.item_buffer.specs.Capacity.{IsCap}
use Rattle.route_tensor.specs.Grid.{ranks}
use Rattle.round_program.specs.Rules.{Rules}
use Rattle.rank_node.specs.Movers.{manner_of}
use Rattle.rank_node.specs.declared.via.Via.TheVariants.{Convey}
use Rattle.rank_group.specs.declared.drive.Finished.{Finished}
use Rattle.rank_group.specs.declared.defaults.Settings.{Settings}
use Rattle.rank_group.specs.declared.defaults.Slots.{Slots}
use Rattle.rank_group.specs.declared.defaults.Slots.TheVariants.{One, Two, Four, Eight}
use Rattle.rank_group.specs.DrivePromises.{MayRun, HasFinished}
use Rattle.rank_group.specs.Turns.{SweptBy}

-- The number of slots of a link.
-- count_of Two = 2
abbrev pub count_of : Slots → ℕ
count_of One = 1
count_of Two = 2
count_of Four = 4
count_of Eight = 8

-- Over conveyors that aren't steady, and links of two slots.
abbrev pub default_settings : Settings
default_settings = record { via = Convey; slots = Two; steady = false }

-- What a drive on one thread requires of a run.
pub record MayDrive {S : Type 0} (R : Rules S) (cap hops : ℕ) (dims : List ℕ) (settings : Settings)
    (starts : List S) : Type 0 where
  pub is_cap : IsCap cap
  pub is_hops : length dims ≡ hops
  pub run : MayRun R dims settings.via starts

-- The result of a run with these settings on one thread, in which each sweep turns the ranks in
-- ascending order.
pub record HasDriven {S : Type 0} (R : Rules S) (cap : ℕ) (dims : List ℕ) (settings : Settings) (starts : List S)
    (run : Finished S) : Type 0 where
  pub finished : HasFinished R starts
      (record { dims = dims; cap = cap; slots = count_of settings.slots; by_slots = false })
      (manner_of settings.via settings.steady) run
  pub order : (before after : ℕ) × SweptBy R dims cap (count_of settings.slots)
      (manner_of settings.via settings.steady) starts (range_with_len 0 (ranks dims)) before after run.progs
