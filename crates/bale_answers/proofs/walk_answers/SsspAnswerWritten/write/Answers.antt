use Rattle.std.proofs.Common.{◌-◌, List, ℕ, refl, sym, subst}
use Rattle.bale_types.specs.Out.{Writes}
use Rattle.least_walks.specs.Lines.{sssp_lines}
use Rattle.bale_answers.proofs.walk_answers.SsspAnswerWritten.write.Goals as goal

pub returns-clause-there_is : goal.returns-clause-there_is
returns-clause-there_is g c =
    let l = c.sssp_write.ensures.least c.args.m.now (c.args.source.now - 1) c.requires.answers in
    (sssp_lines l.0 c.args.m.now.rows, record { weights = l.0; least = l.1; lines = refl })

pub returns-clause-written : goal.returns-clause-written
returns-clause-written g c = λ bytes is.
    subst (λ (bs : List ℕ). Writes g.K.Sink.taken g.K.Sink.faults bs c.args.out.now c.sssp_write.new.out c.sssp_write.result) (sym is.lines)
    (c.sssp_write.ensures.written c.args.m.now (c.args.source.now - 1) c.requires.answers is.weights is.least)
