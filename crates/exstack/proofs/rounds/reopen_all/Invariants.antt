use Rattle.exstack.specs.Links.{stack_out_in_new_epoch}
use Rattle.list_laws.proofs.Mapping.{Mapped}
use Rattle.exstack.proofs.rounds.reopen_all.Given as goal

abbrev pub invariant-loop-i : goal.invariant-loop-i
invariant-loop-i g l = Mapped stack_out_in_new_epoch l.initial.links.items l.links.items l.i
