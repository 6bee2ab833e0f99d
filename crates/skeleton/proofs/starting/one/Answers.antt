use Rattle.std.proofs.Common.{◌≡◌, sym, subst, rules}
use Rattle.skeleton.specs.State.{State, IsState}
use Rattle.skeleton.specs.Starts.{begins}
use Rattle.skeleton.proofs.Starts.{begins_valid}
use Rattle.skeleton.proofs.starting.one.Goals as goal

same : (s t : State) → t ≡ s → IsState s → IsState t
same s t e v = subst IsState (sym e) v

pub new-requires-2 : goal.new-requires-2
new-requires-2 c = same (begins c.args.ranks c.args.m.now c.args.rank) _ (search rules) (begins_valid c.args.ranks c.args.rank c.args.m.now c.requires.below c.requires.few c.known.ensures)
