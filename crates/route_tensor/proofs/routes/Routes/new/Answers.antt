use Rattle.route_tensor.proofs.routes.Routes.new.Goals as goal

pub dim-requires-clause-last : goal.dim-requires-clause-last
dim-requires-clause-last c = c.first_steps.ensures.grid.some

pub invariant_of-result : goal.invariant_of-result
invariant_of-result c = (
  record {
    grid = c.first_steps.ensures.grid;
    within = c.requires;
    dimension = c.dim.ensures.value;
    all_firsts = c.in_ok-firsts.ensures.all;
    each_first = c.in_ok-firsts.ensures.each;
    all_neighbours = c.in_ok-neighbours.ensures.all;
    each_neighbour = c.in_ok-neighbours.ensures.each;
    all_numbers = c.in_ok-numbers.ensures.all;
    number_to = c.in_ok-numbers.ensures.to;
    number_from = c.in_ok-numbers.ensures.from;
  },
  record { all_stamps = c.in_ok-stamps.ensures.all; each_stamp = c.in_ok-stamps.ensures.each },
)
