use Rattle.std.proofs.Common.{ap, sym, ◌∙◌}
use Rattle.either.specs.declared.Either.TheVariants.{Left, Right}
use Rattle.round_program.specs.Batches.{all_taken_in}
use Rattle.round_program.specs.Eithers.{either_rules}
use Rattle.round_program.proofs.Batches.{all_left, all_right, then}
use Rattle.round_program.proofs.either_program.EitherProgram.absorb_each.Goals as goal

pub returns-in-Left-clause-absorbed : goal.returns-in-Left-clause-absorbed
returns-in-Left-clause-absorbed g c =
    then c.absorb_each.result _ _ (λ is. ap Left is ∙ (sym (all_left g.A.Program.rules g.B.Program.rules c.in-Left.a (g.I.Arrivals.items c.args.came)) ∙ ap (λ s. all_taken_in (either_rules g.A.Program.rules g.B.Program.rules) s (g.I.Arrivals.items c.args.came)) (sym c.in-Left.is))) c.absorb_each.ensures.absorbed

pub returns-in-Right-clause-absorbed : goal.returns-in-Right-clause-absorbed
returns-in-Right-clause-absorbed g c =
    then c.absorb_each-in-Right.result _ _ (λ is. ap Right is ∙ (sym (all_right g.A.Program.rules g.B.Program.rules c.in-Right.b (g.I.Arrivals.items c.args.came)) ∙ ap (λ s. all_taken_in (either_rules g.A.Program.rules g.B.Program.rules) s (g.I.Arrivals.items c.args.came)) (sym c.in-Right.is))) c.absorb_each-in-Right.ensures.absorbed
