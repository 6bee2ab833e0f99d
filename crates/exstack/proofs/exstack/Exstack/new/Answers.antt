use Rattle.std.proofs.Common.{[], ◌∷◌, ap, ◌∙◌}
use Rattle.exstack.proofs.OneHop.{dims_one}
use Rattle.exstack.proofs.exstack.Exstack.new.Goals as goal

pub returns-clause-grid : goal.returns-clause-grid
returns-clause-grid g c = ap (λ n. n ∷ []) c.ranks-ranks.ensures.value ∙ dims_one c.args.grid.now c.requires.one_hop
