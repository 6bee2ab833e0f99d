-- What the numbers of a command may be.
use Rattle.std.specs.Prelude.{◌≡◌, ◌≤◌, true, Option, Some, None}
use Rattle.item_buffer.specs.Capacity.{IsCapacity}
use Rattle.bale_words.specs.declared.command.Command.{Command}
use Rattle.bale_words.specs.declared.command.Generated.{Generated}
use Rattle.bale_words.specs.declared.task.Task.{Task}
use Rattle.bale_words.specs.declared.task.Task.TheVariants as task
use Rattle.bale_words.specs.declared.travel.Travel.{Travel}
use Rattle.port_bank.specs.Slots.{is_slot_count}
use Rattle.bale_words.specs.Values.{most_entries}

-- A matrix that can be generated.
pub record CanGenerate (g : Generated) : Type 0 where
  pub some : 1 ≤ g.rows
  pub tall : g.rows ≤ 16384
  pub full : g.rows ≤ g.entries
  pub few : g.entries ≤ most_entries g.rows

-- What is generated, if anything is, can be.
abbrev pub MayGenerate : Option Generated → Type 0
MayGenerate None = Unit {0}
MayGenerate (Some g) = CanGenerate g

pub record TravelInRanges (t : Travel) : Type 0 where
  pub buffer : IsCapacity t.buffer
  pub slots : is_slot_count t.slots ≡ true
  pub generated : MayGenerate t.generated

-- A bucket has a width.
abbrev pub TaskInRanges : Task → Type 0
TaskInRanges (task.Sssp source (Some delta)) = (1 ≤ delta) × (delta ≤ 1000000000000)
TaskInRanges _ = Unit {0}

-- The numbers of a command are within the ranges of their options, and tally, which reads lines,
-- has no matrix to be generated.
-- The words histo, --buffer, 64 give a command whose buffer is 64, one of the sizes; no words give
-- the buffer 3.
pub record InRanges (c : Command) : Type 0 where
  pub lines : c.task ≡ task.Tally → c.travel.generated ≡ None
  pub travel : TravelInRanges c.travel
  pub task : TaskInRanges c.task
