use Rattle.std.proofs.Common.{◌≡◌, replicate}
use Rattle.hop_core.specs.Link.{no_out}
use Rattle.hop_core.proofs.out_links.links_out.Given as goal

abbrev pub invariant-loop-made : goal.invariant-loop-made
invariant-loop-made g l = l.links.items ≡ replicate l._made no_out
