-- The command line: which lists of words are accepted, and what they ask for.
-- A `do` gives nothing if one of its steps gives nothing.
use Rattle.std.specs.Prelude.{ℕ, false, ◌-◌, ◌^◌, List, [], ◌∷◌, ◌++◌, Option, Some, None, codes, if◌then◌else◌}
use Rattle.bale_words.specs.declared.task.TaskName.{TaskName}
use Rattle.bale_words.specs.declared.task.TaskName.TheVariants as application
use Rattle.bale_words.specs.declared.command.Command.{Command}
use Rattle.bale_words.specs.declared.task.Task.{Task}
use Rattle.bale_words.specs.declared.task.Task.TheVariants as task
use Rattle.bale_words.specs.declared.command.Permutations.{Permutations}
use Rattle.bale_words.specs.declared.command.Permutations.TheVariants.{Lists, Seed}
use Rattle.bale_words.specs.declared.command.Transport.TheVariants.{Convey}
use Rattle.bale_words.specs.declared.command.Driving.TheVariants.{Threads}
use Rattle.bale_words.specs.declared.travel.Travel.{Travel}
use Rattle.bale_words.specs.Numbers.{number_in, numbers_in}
use Rattle.bale_words.specs.Options.{Given, given_of, are_accepted, value_in}
use Rattle.bale_words.specs.Values.{◌>>=◌, is_text, or_default, if_given, grid_of, slots_of, buffer_of, steady_of}
use Rattle.bale_words.specs.Values.{driving_of, transport_of, generated_of}

-- The application that the first word names.
unfoldable pub application_of : List ℕ → Option TaskName
application_of word =
    if is_text (codes "histo") word then Some application.Histo
    else (if is_text (codes "ig") word then Some application.Ig
    else (if is_text (codes "permute") word then Some application.Permute
    else (if is_text (codes "transpose") word then Some application.Transpose
    else (if is_text (codes "topo") word then Some application.Topo
    else (if is_text (codes "sssp") word then Some application.Sssp
    else (if is_text (codes "tally") word then Some application.Tally else None))))))

-- The options of every application.
abbrev pub shared_names : List (List ℕ)
shared_names = codes "grid" ∷ codes "via" ∷ codes "slots" ∷ codes "steady" ∷ codes "buffer" ∷ codes "drive" ∷ []

-- The options of an application.
abbrev pub names_of : TaskName → List (List ℕ)
names_of application.Permute = shared_names ++ codes "gen" ∷ codes "seed" ∷ codes "rperm" ∷ codes "cperm" ∷ []
names_of application.Sssp = shared_names ++ codes "gen" ∷ codes "source" ∷ codes "delta" ∷ []
names_of application.Tally = shared_names
names_of _ = shared_names ++ codes "gen" ∷ []

-- The permutations: of a seed, which goes with no list; or of lists of numbers joined by commas.
abbrev pub permutations_of : Option (List ℕ) → Option (List ℕ) → Option (List ℕ) → Option Permutations
permutations_of (Some seed) None None = do
  seed ← number_in 0 (2 ^ 64 - 1) seed
  Some (Seed seed)
permutations_of (Some seed) rows cols = None
permutations_of None rows cols = do
  rows ← if_given (numbers_in 44 0 (2 ^ 32 - 1)) rows
  cols ← if_given (numbers_in 44 0 (2 ^ 32 - 1)) cols
  Some (Lists rows cols)

-- What an application is told: of sssp the source, 1 if it isn't given, and the width of a
-- bucket.
abbrev pub search_of : Option (List ℕ) → Option (List ℕ) → Option Task
search_of source delta = do
  source ← or_default 1 (number_in 0 (2 ^ 32 - 1)) source
  delta ← if_given (number_in 1 1000000000000) delta
  Some (task.Sssp source delta)

abbrev pub task_in : TaskName → List Given → Option Task
task_in application.Histo gs = Some task.Histo
task_in application.Ig gs = Some task.Ig
task_in application.Permute gs = do
  permutations ← permutations_of (value_in (codes "seed") gs) (value_in (codes "rperm") gs)
      (value_in (codes "cperm") gs)
  Some (task.Permute permutations)
task_in application.Transpose gs = Some task.Transpose
task_in application.Topo gs = Some task.Topo
task_in application.Sssp gs = search_of (value_in (codes "source") gs) (value_in (codes "delta") gs)
task_in application.Tally gs = Some task.Tally

-- How the items travel, and what is in the place of a text: transport, slots, steady, buffer,
-- drive, generated matrix.
unfoldable pub travel_of : TaskName → Option (List ℕ) → Option (List ℕ) → Option (List ℕ) → Option (List ℕ)
    → Option (List ℕ) → Option (List ℕ) → Option Travel
travel_of a via slots steady buffer drive gen = do
  transport ← or_default Convey (transport_of a) via
  slots ← or_default 2 slots_of slots
  steady ← or_default false steady_of steady
  buffer ← or_default 64 buffer_of buffer
  driving ← or_default Threads driving_of drive
  generated ← if_given generated_of gen
  Some (record {
    transport = transport;
    slots = slots;
    steady = steady;
    buffer = buffer;
    driving = driving;
    generated = generated;
  })

abbrev pub travel_in : TaskName → List Given → Option Travel
travel_in a gs =
    travel_of a (value_in (codes "via") gs) (value_in (codes "slots") gs) (value_in (codes "steady") gs)
    (value_in (codes "buffer") gs)
    (value_in (codes "drive") gs) (value_in (codes "gen") gs)

-- The command of an application and its options.
abbrev pub command_in : TaskName → List Given → Option Command
command_in a gs = do
  grid ← or_default (4 ∷ []) grid_of (value_in (codes "grid") gs)
  travel ← travel_in a gs
  task ← task_in a gs
  Some (record { task = task; grid = grid; travel = travel })

-- The options are the application's own, and none is given twice.
abbrev pub command_by : TaskName → Option (List Given) → Option Command
command_by a None = None
command_by a (Some gs) = if are_accepted (names_of a) gs then command_in a gs else None

abbrev pub command_with : Option TaskName → List (List ℕ) → Option Command
command_with None words = None
command_with (Some a) words = command_by a (given_of words)

-- The command that the words after the program's name give: the application, and then its options.
-- The words histo, --grid, 2x2 give histo on the grid 2x2, with two slots and all other defaults;
-- the words histo, --grid, 65 give nothing.
abbrev pub command_of : List (List ℕ) → Option Command
command_of [] = None
command_of (first ∷ words) = command_with (application_of first) words
