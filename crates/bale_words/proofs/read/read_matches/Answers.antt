use Rattle.std.proofs.Common.{◌≡◌, ◌∙◌, sym, subst, [], ◌∷◌, Some, codes}
use Rattle.bale_words.specs.Values.{or_default, grid_of}
use Rattle.bale_words.proofs.Refused.{task_refused}
use Rattle.bale_words.proofs.read.read_matches.Goals as goal

pub returns-in-Err : goal.returns-in-Err
returns-in-Err c = λ gs values.
    task_refused c.args.application gs c.in_ok-grid.grid c.in-Some.travel c.in-Err.fault
    (subst (λ o. or_default (4 ∷ []) grid_of o ≡ Some c.in_ok-grid.grid) (c.get_str.ensures ∙ values (codes "grid")) c.in_ok-grid.ensures)
    (sym (c.in-Some.ensures gs values))
    (c.in-Err.ensures gs values)
