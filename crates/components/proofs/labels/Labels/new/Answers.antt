use Rattle.std.proofs.Common.{◌≡◌, sym, subst, rules}
use Rattle.components.specs.LabelRules.{LabelState, IsLabels}
use Rattle.components.specs.Starts.{label_begins}
use Rattle.components.proofs.Starts.{begins_valid}
use Rattle.components.proofs.labels.Labels.new.Goals as goal

same : (s t : LabelState) → t ≡ s → IsLabels s → IsLabels t
same s t e v = subst IsLabels (sym e) v

pub invariant_of-result : goal.invariant_of-result
invariant_of-result c =
    same (label_begins c.args.ranks c.args.m.now c.args.rank) _ (search rules) (begins_valid c.args.ranks c.args.rank c.args.m.now c.requires.rank.below c.requires.rank.few c.entries.ensures.kept c.requires.square)
