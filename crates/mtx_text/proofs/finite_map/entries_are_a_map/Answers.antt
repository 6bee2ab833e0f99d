use Rattle.mtx_text.proofs.FiniteMaps.{listed, mapped}
use Rattle.mtx_text.proofs.finite_map.entries_are_a_map.Goals as goal

pub returns : goal.returns
returns c = record {
  listed = λ e t h. listed c.args.m.now.entries e t c.known.ensures.once h;
  mapped = λ i j v h. mapped c.args.m.now.entries i j v h;
}
