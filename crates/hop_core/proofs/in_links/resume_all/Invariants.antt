use Rattle.hop_core.specs.State.{in_in_new_epoch}
use Rattle.list_laws.proofs.Mapping.{Mapped}
use Rattle.hop_core.proofs.in_links.resume_all.Given as goal

abbrev pub invariant-loop-i : goal.invariant-loop-i
invariant-loop-i g l = Mapped in_in_new_epoch l.initial.all l.all l.i
