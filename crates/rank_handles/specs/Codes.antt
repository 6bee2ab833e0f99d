-- The numbers by which C knows answers and phases.
use Rattle.std.specs.Prelude.{ℤ, pos, negsuc, Option, Some, None}
use Rattle.rank_handles.specs.declared.answer.Answer.{Answer}
use Rattle.rank_handles.specs.declared.answer.Answer.TheVariants.{Good, Full, Nothing, More, Near, Complete, NoMemory}
use Rattle.rank_handles.specs.declared.answer.Answer.TheVariants.{NotBegun, BegunAlready, DoneAlready, NoSuchRank}
use Rattle.rank_handles.specs.declared.answer.Answer.TheVariants.{NotComplete, Gone, BadNumbers, InUse, RankTaken}
use Rattle.rank_handles.specs.declared.answer.Answer.TheVariants.{NoMoreEpochs, NotLent, TooLong}
use Rattle.hop_core.specs.declared.phase.Phase.{Phase}
use Rattle.hop_core.specs.declared.phase.Phase.TheVariants as phase

-- Of each answer: from 0 up what happened, from -1 down what is wrong. negsuc n is -(n + 1).
abbrev pub code_of : Answer → ℤ
code_of Good = pos 0
code_of Full = pos 1
code_of Nothing = pos 2
code_of More = pos 3
code_of Near = pos 4
code_of Complete = pos 5
code_of NoMemory = negsuc 0
code_of NotBegun = negsuc 1
code_of BegunAlready = negsuc 2
code_of DoneAlready = negsuc 3
code_of NoSuchRank = negsuc 4
code_of NotComplete = negsuc 5
code_of Gone = negsuc 6
code_of BadNumbers = negsuc 7
code_of InUse = negsuc 8
code_of RankTaken = negsuc 9
code_of NoMoreEpochs = negsuc 10
code_of NotLent = negsuc 11
code_of TooLong = negsuc 12

-- Of each phase: from 100 up, so that none is an answer's number.
abbrev pub code_of_phase : Phase → ℤ
code_of_phase phase.Dormant = pos 100
code_of_phase phase.Working = pos 101
code_of_phase phase.Endgame = pos 102
code_of_phase phase.Cleanup = pos 103
code_of_phase phase.Complete = pos 104

-- Of the phase of a handle's rank, if there is one.
abbrev pub phase_code : Option Phase → ℤ
phase_code (Some p) = code_of_phase p
phase_code None = code_of Gone
