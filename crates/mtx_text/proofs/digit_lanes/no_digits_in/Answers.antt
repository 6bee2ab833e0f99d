use Rattle.mtx_text.proofs.NoDigits.{mask_is}
use Rattle.mtx_text.proofs.digit_lanes.no_digits_in.Goals as goal

pub returns : goal.returns
returns c = mask_is c.args.lanes c.fits-lanes.0 c.fits-lanes.1
