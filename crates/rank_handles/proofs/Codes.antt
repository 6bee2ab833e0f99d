-- Answers by their codes.
use Rattle.std.proofs.Common.{◌≡◌, refl}
use Rattle.rank_handles.specs.declared.answer.Answer.{Answer}
use Rattle.rank_handles.specs.declared.answer.Answer.TheVariants.{Good, Full, Nothing, More, Near, Complete, NoMemory, NotBegun, BegunAlready, DoneAlready, NoSuchRank, NotComplete, Gone, BadNumbers, InUse, RankTaken, NoMoreEpochs, NotLent, TooLong}
use Rattle.rank_handles.specs.Codes.{code_of}

-- only Good has its code
pub code_good : (a : Answer) → code_of a ≡ code_of Good → a ≡ Good
code_good Good e = refl
code_good Full e = absurd cc
code_good Nothing e = absurd cc
code_good More e = absurd cc
code_good Near e = absurd cc
code_good Complete e = absurd cc
code_good NoMemory e = absurd cc
code_good NotBegun e = absurd cc
code_good BegunAlready e = absurd cc
code_good DoneAlready e = absurd cc
code_good NoSuchRank e = absurd cc
code_good NotComplete e = absurd cc
code_good Gone e = absurd cc
code_good BadNumbers e = absurd cc
code_good InUse e = absurd cc
code_good RankTaken e = absurd cc
code_good NoMoreEpochs e = absurd cc
code_good NotLent e = absurd cc
code_good TooLong e = absurd cc

-- and only NoMemory its own
pub code_no_memory : (a : Answer) → code_of a ≡ code_of NoMemory → a ≡ NoMemory
code_no_memory Good e = absurd cc
code_no_memory Full e = absurd cc
code_no_memory Nothing e = absurd cc
code_no_memory More e = absurd cc
code_no_memory Near e = absurd cc
code_no_memory Complete e = absurd cc
code_no_memory NoMemory e = refl
code_no_memory NotBegun e = absurd cc
code_no_memory BegunAlready e = absurd cc
code_no_memory DoneAlready e = absurd cc
code_no_memory NoSuchRank e = absurd cc
code_no_memory NotComplete e = absurd cc
code_no_memory Gone e = absurd cc
code_no_memory BadNumbers e = absurd cc
code_no_memory InUse e = absurd cc
code_no_memory RankTaken e = absurd cc
code_no_memory NoMoreEpochs e = absurd cc
code_no_memory NotLent e = absurd cc
code_no_memory TooLong e = absurd cc
