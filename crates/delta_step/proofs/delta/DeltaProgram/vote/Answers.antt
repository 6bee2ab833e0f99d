use Rattle.std.proofs.Common.{◌≤◌, arith}
use Rattle.delta_step.specs.code.DeltaView.{delta_state}
use Rattle.delta_step.proofs.Steps.{votes_few}
use Rattle.delta_step.proofs.delta.DeltaProgram.vote.Goals as goal

pub overflow_add-result : goal.overflow_add-result
overflow_add-result c = (let few : c.count_bucket.result ≤ 16385 = votes_few (delta_state c.self.inside) c.count_bucket.result c.self.invariant c.count_bucket.ensures in omega arith)
