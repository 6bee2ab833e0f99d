use Rattle.std.proofs.Common.{◌≡◌, replicate}
use Rattle.hop_core.specs.Link.{no_in}
use Rattle.hop_core.proofs.in_links.links_in.Given as goal

abbrev pub invariant-loop-made : goal.invariant-loop-made
invariant-loop-made g l = l.links.items ≡ replicate l._made no_in
