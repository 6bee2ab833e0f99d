use Rattle.app_histo_ig.proofs.SumsAsked.{are_askers}
use Rattle.app_histo_ig.proofs.ig_by_askers.ig_askers.Goals as goal

pub returns : goal.returns
returns c = are_askers c.args.m.now c.args.p c.in_ok-askers.askers c.requires.ended c.in_ok-askers.ensures
