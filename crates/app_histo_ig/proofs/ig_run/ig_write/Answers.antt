use Rattle.app_histo_ig.proofs.HeardSums.{ended_sums}
use Rattle.app_histo_ig.proofs.ig_run.ig_write.Goals as goal

pub write_sums-requires : goal.write_sums-requires
write_sums-requires g c = record { sums = ended_sums c.args.m.now c.args.p.now c.requires.ended }
