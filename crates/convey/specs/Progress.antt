-- What an advance answers, and which step of the machine it is.
use Rattle.std.specs.Prelude.{Bool, ◌&&◌, not, if◌then◌else◌}
use Rattle.hop_core.specs.declared.phase.Phase.{Phase}
use Rattle.hop_core.specs.declared.phase.Phase.TheVariants.{Dormant, Working, Endgame, Cleanup, Complete}
use Rattle.convey.specs.declared.progress.Progress.{Progress}
use Rattle.convey.specs.declared.progress.Progress.TheVariants as progress
use Rattle.port_bank.specs.Machine.{Step}
use Rattle.port_bank.specs.Machine.Step.{Done, Idle}
use Rattle.port_bank.specs.Machine.Step.{Complete as Completed}

-- The answer in a phase: More in Working and Endgame, Near in Cleanup, Complete in Complete.
abbrev pub progress_of : Phase → Progress
progress_of Dormant = progress.More
progress_of Working = progress.More
progress_of Endgame = progress.More
progress_of Cleanup = progress.Near
progress_of Complete = progress.Complete

-- The step that an advance is: Done if it notes done for the first time in the epoch, else
-- Complete if the phase after it is Complete, else Idle.
abbrev pub advance_step : Bool → Bool → Bool → Step
advance_step was now complete = if (now && not was) then Done else if complete then Completed else Idle
