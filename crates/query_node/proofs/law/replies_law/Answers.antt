use Rattle.query_node.proofs.Theorem.{replies_begin, replies_end}
use Rattle.query_node.proofs.law.replies_law.Goals as goal

pub returns-clause-begin : goal.returns-clause-begin
returns-clause-begin g c = replies_begin g.A.Asker.talk

pub returns-clause-end : goal.returns-clause-end
returns-clause-end g c = replies_end g.A.Asker.talk
