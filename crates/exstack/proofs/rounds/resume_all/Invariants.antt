use Rattle.exstack.specs.Links.{stack_in_in_new_epoch}
use Rattle.list_laws.proofs.Mapping.{Mapped}
use Rattle.exstack.proofs.rounds.resume_all.Given as goal

abbrev pub invariant-loop-i : goal.invariant-loop-i
invariant-loop-i g l = Mapped stack_in_in_new_epoch l.initial.links.items l.links.items l.i
