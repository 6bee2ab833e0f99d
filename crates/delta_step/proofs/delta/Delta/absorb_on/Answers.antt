-- What comes in the first round is an edge inside.
use Rattle.std.proofs.Common.{ℕ, ◌<◌, ◌≡◌, true, [], ◌∷◌, arith, sym, ◌∙◌}
use Rattle.std.proofs.lemmas.Bool.Decides.{nat_tests}
use Rattle.bale_items.specs.declared.Item.{Item}
use Rattle.delta_step.specs.Deltas.{may_delta}
use Rattle.delta_step.proofs.delta.Delta.absorb_on.Goals as goal

inside : (rows ranks round to from : ℕ) (x : Item) → may_delta (rows ∷ []) ranks round to from x ≡ true → round ≡ 0 → (x.a < rows) × (x.b < rows)
inside rows ranks round to from x h z = (grind (arith, nat_tests), grind (arith, nat_tests))

pub take_edge-requires-clause-row : goal.take_edge-requires-clause-row
take_edge-requires-clause-row c =
    let s = c.args.self.now in
    (inside s.rows s.ranks s.round s.rank c.args.from c.args.item c.requires.fits (sym c.requires.seat.round ∙ c.requires.seat.early c.in-First.is)).0

pub take_edge-requires-clause-col : goal.take_edge-requires-clause-col
take_edge-requires-clause-col c =
    let s = c.args.self.now in
    (inside s.rows s.ranks s.round s.rank c.args.from c.args.item c.requires.fits (sym c.requires.seat.round ∙ c.requires.seat.early c.in-First.is)).1
