use Rattle.mtx_text.proofs.DigitLanes.{eight_are}
use Rattle.mtx_text.proofs.digit_lanes.value_of.Goals as goal

pub returns : goal.returns
returns c digit small is = eight_are c.args.word digit small is
