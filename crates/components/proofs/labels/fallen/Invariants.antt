use Rattle.std.proofs.Common.{◌≡◌, take}
use Rattle.std.specs.List.{filter}
use Rattle.reductions.specs.Reductions.{has_changed}
use Rattle.components.proofs.labels.fallen.Given as goal

abbrev pub invariant-loop-link : goal.invariant-loop-link
invariant-loop-link l = l.active.items ≡ filter (λ k. has_changed l.labels k.from) (take l.link-index l.links)
