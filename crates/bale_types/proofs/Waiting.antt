-- What waits in the output buffer.
use Rattle.std.proofs.Common.{◌≡◌, ◌+◌, ◌%◌, ◌<◌, ◌≤◌, ℕ, arith}
use Rattle.bale_types.specs.Out.{left_over}

-- while all that comes has room, nothing is over
pub short_of : (waited here came all : ℕ) → here ≡ left_over waited came → came ≤ all → waited + all < 16384 → here ≡ waited + came
short_of waited here came all w within short = grind arith

-- what is over goes on
pub waits_on : (waited here came more new : ℕ) → here ≡ left_over waited came → 0 < more → new ≡ (here + more) % 16384 → new ≡ left_over waited (came + more)
waits_on waited here came more new w some n = grind arith
