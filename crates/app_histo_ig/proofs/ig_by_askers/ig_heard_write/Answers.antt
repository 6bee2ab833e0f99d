use Rattle.app_histo_ig.proofs.HeardSums.{heard_sums}
use Rattle.app_histo_ig.proofs.ig_by_askers.ig_heard_write.Goals as goal

pub write_sums-requires : goal.write_sums-requires
write_sums-requires g c = record { sums = heard_sums c.args.m.now c.args.p.now c.requires.heard }
