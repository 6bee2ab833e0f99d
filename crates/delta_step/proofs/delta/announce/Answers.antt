use Rattle.std.proofs.Common.{ℕ, refl}
use Rattle.bale_items.specs.declared.Item.{Item}
use Rattle.sparse_rows.proofs.Starts.{made_more}
use Rattle.delta_step.proofs.delta.announce.Goals as goal

pub loop-rank-preserved : goal.loop-rank-preserved
loop-rank-preserved c =
    made_more {S = ℕ × Item} (λ d. (d, record { a = c.bucket_of-bucket.result; b = 0; c = 0 })) c.loop-rank.rank c.loop-rank.outgoing.items c.push.new.self.items
    (c.loop-rank.rank, record { a = c.bucket_of-bucket.result; b = 0; c = 0 }) c.loop-rank.invariant refl c.in_ok-push.ensures.items
