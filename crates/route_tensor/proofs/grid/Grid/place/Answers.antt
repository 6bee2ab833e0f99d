use Rattle.std.proofs.Common.{sym, ap, ◌∙◌, ◌<◌, ◌-◌, subst}
use Rattle.route_tensor.specs.Grid.{ranks, place, coord}
use Rattle.route_tensor.specs.Link.{IsLink}
use Rattle.route_tensor.proofs.Places.{place-zero, place-all, place_link}
use Rattle.route_tensor.proofs.Coordinates.{place_at, place_below, coord-place_low, coord-place_high}
use Rattle.route_tensor.proofs.grid.Grid.place.Goals as goal

pub returns-clause-value : goal.returns-clause-value
returns-clause-value c = rw c.stride-stride.ensures.value (sym (place_at _ _ _ _ c.stride-stride.ensures.grid.positive c.requires.hop))

pub returns-clause-place : goal.returns-clause-place
returns-clause-place c =
    let is = returns-clause-value c in
    let positive = c.stride-stride.ensures.grid.positive in
    record {
      rank = subst (λ r. r < ranks c.args.self.now) (sym is) (place_below _ _ _ _ positive c.requires.sender c.requires.destination);
      taken = λ i first here. ap (λ r. coord c.args.self.now r i) is ∙ coord-place_low _ _ _ _ i positive here;
      left = λ i past last. ap (λ r. coord c.args.self.now r i) is ∙ coord-place_high _ _ _ _ i positive past;
      start = λ e. is ∙ ap (place c.args.self.now c.args.s c.args.d) e ∙ place-zero _ _ _;
      end = λ e. is ∙ ap (place c.args.self.now c.args.s c.args.d) e ∙ place-all _ _ _ positive c.requires.sender c.requires.destination;
      link = λ p. subst (λ r. IsLink c.args.self.now c.args.h (place c.args.self.now c.args.s c.args.d (c.args.h - 1)) r) (sym is) (place_link _ _ _ _ c.stride-stride.ensures.grid c.requires.sender c.requires.destination p c.requires.hop);
    }
