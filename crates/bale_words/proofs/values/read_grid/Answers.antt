use Rattle.std.proofs.Common.{subst, sym, [], ◌∷◌}
use Rattle.std.specs.Option.{option_map}
use Rattle.bale_words.specs.Reading.{Reads}
use Rattle.bale_words.specs.Values.{or_default, grid_of}
use Rattle.bale_words.proofs.Parts.{default_grid}
use Rattle.bale_words.proofs.values.read_grid.Goals as goal

pub returns-in-None : goal.returns-in-None
returns-in-None c =
    subst (λ t. Reads (or_default (4 ∷ []) grid_of (option_map (λ s. s.now) t)) c.make_grid.result) (sym c.in-None.is)
    (subst (λ o. Reads o c.make_grid.result) default_grid c.make_grid.ensures)
