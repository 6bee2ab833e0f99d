use Rattle.std.proofs.Common.{◌++◌, map, sym, ap, ◌∙◌}
use Rattle.app_histo_ig.specs.AskingRuns.{asker_from}
use Rattle.app_histo_ig.proofs.SumsAsked.{taken_one, taken_all}
use Rattle.app_histo_ig.proofs.ig_by_askers.all_askers.Goals as goal

pub loop-q-init : goal.loop-q-init
loop-q-init c = ap (λ ds. ds ++ map asker_from c.args.p) c.new-askers.ensures

pub loop-q-preserved : goal.loop-q-preserved
loop-q-preserved c =
    taken_one asker_from c.loop-q.askers c.add.new.self c.loop-q.p c.take_first.new.self c.args.p c.in-Some.q c.in_ok-asker_of.field-0
    c.loop-q.invariant (sym c.in-Some.ensures.first) c.take_first.ensures.rest c.in_ok-add.ensures.added c.in_ok-asker_of.ensures

pub returns : goal.returns
returns c = taken_all asker_from c.loop-q.askers c.loop-q.p c.args.p c.loop-q.invariant (sym c.take_first.ensures.first ∙ c.in_default.is)
