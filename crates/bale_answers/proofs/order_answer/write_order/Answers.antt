use Rattle.std.proofs.Common.{List, Option, subst, sym}
use Rattle.bale_types.specs.Out.{Writes}
use Rattle.app_topo.specs.Levels.{Claim}
use Rattle.bale_answers.specs.Orders.{order_text}
use Rattle.bale_answers.proofs.order_answer.write_order.Goals as goal

pub returns-in-None : goal.returns-in-None
returns-in-None g c =
    subst (λ (o : Option (List Claim)). Writes g.K.Sink.taken g.K.Sink.faults (order_text o) c.args.out.now c.text.new.self c.text.result) (sym c.in-None.is) c.text.ensures.written
