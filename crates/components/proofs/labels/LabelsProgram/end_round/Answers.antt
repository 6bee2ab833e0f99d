use Rattle.std.proofs.Common.{◌≡◌, sym, subst, rules}
use Rattle.components.specs.LabelRules.{LabelState, IsLabels, label_rules}
use Rattle.components.specs.laws.LabelLaws.{label_ended_valid}
use Rattle.components.specs.code.LabelsView.{label_state}
use Rattle.components.proofs.labels.LabelsProgram.end_round.Goals as goal

same : (s t : LabelState) → t ≡ s → IsLabels s → IsLabels t
same s t e v = subst IsLabels (sym e) v

pub invariant_of-self : goal.invariant_of-self
invariant_of-self c = same (label_rules.ended (label_state c.self.inside) 0) _ (search rules) (label_ended_valid (label_state c.self.inside) 0 c.self.invariant)
