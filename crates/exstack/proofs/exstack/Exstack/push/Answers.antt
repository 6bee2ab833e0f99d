use Rattle.exstack.proofs.Popping.{pushed_by}
use Rattle.exstack.proofs.exstack.Exstack.push.Goals as goal

pub returns-clause-kept : goal.returns-clause-kept
returns-clause-kept g c =
    (pushed_by g.row.CAP _ c.args.self.now c.args.to c.args.item c.push.result c.index_mut.result.now c.push.new.self c.self.view_is c.self.invariant.standing c.requires.may c.index_mut.ensures.value c.push.ensures.pushed c.push.ensures.full).kept

pub returns-clause-step_pushed : goal.returns-clause-step_pushed
returns-clause-step_pushed g c =
    (pushed_by g.row.CAP _ c.args.self.now c.args.to c.args.item c.push.result c.index_mut.result.now c.push.new.self c.self.view_is c.self.invariant.standing c.requires.may c.index_mut.ensures.value c.push.ensures.pushed c.push.ensures.full).step_pushed

pub returns-clause-step_full : goal.returns-clause-step_full
returns-clause-step_full g c =
    (pushed_by g.row.CAP _ c.args.self.now c.args.to c.args.item c.push.result c.index_mut.result.now c.push.new.self c.self.view_is c.self.invariant.standing c.requires.may c.index_mut.ensures.value c.push.ensures.pushed c.push.ensures.full).step_full
