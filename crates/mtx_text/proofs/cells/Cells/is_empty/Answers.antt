use Rattle.std.proofs.Common.{ap, eqb, length, ◌∙◌}
use Rattle.mtx_text.proofs.Gathered.{gathered_none}
use Rattle.mtx_text.proofs.cells.Cells.is_empty.Goals as goal

pub returns : goal.returns
returns c =
    c.is_empty.ensures ∙ ap (λ n. eqb n 0) c.self.inside.triples.ok.0 ∙ gathered_none c.self.inside.triples.items ∙ ap (λ cells. eqb (length cells) 0) c.self.view_is
