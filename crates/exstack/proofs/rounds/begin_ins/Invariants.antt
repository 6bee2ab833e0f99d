use Rattle.exstack.specs.Links.{begun_in}
use Rattle.list_laws.proofs.Mapping.{Mapped}
use Rattle.exstack.proofs.rounds.begin_ins.Given as goal

abbrev pub invariant-loop-i : goal.invariant-loop-i
invariant-loop-i g l = Mapped begun_in l.initial.links.items l.links.items l.i
