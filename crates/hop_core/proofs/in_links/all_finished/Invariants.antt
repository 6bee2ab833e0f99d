use Rattle.std.proofs.Common.{◌≡◌, ◌-◌, take, drop}
use Rattle.std.specs.List.{list_all}
use Rattle.hop_core.specs.Link.{is_finished}
use Rattle.hop_core.proofs.in_links.all_finished.Given as goal

abbrev pub invariant-loop-i : goal.invariant-loop-i
invariant-loop-i g l = list_all is_finished (take (l.to - l.from) (drop l.from l.links)) ≡ list_all is_finished (take (l.i - l.from) (drop l.from l.links))
