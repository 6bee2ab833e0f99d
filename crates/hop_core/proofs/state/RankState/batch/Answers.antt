use Rattle.std.proofs.Common.{ap, ◌∙◌, arith}
use Rattle.hop_core.specs.State.{lowest_unread}
use Rattle.hop_core.proofs.Unread.{unread_at}
use Rattle.hop_core.proofs.Batches.{batch_of}
use Rattle.hop_core.proofs.state.RankState.batch.Goals as goal

pub index-requires : goal.index-requires
index-requires g c =
    let u = unread_at _ c.args.number c.self.invariant.1.standing (ap lowest_unread c.self.view_is ∙ c.requires.lowest) in
    omega (arith, u.high, c.self.invariant.1.standing.all_ins)

pub returns-clause-value : goal.returns-clause-value
returns-clause-value g c =
    (batch_of _ c.args.self.now c.args.number c.index.result.now c.self.view_is c.self.invariant.1.standing c.requires.lowest c.index.ensures).value c.unread.result.now c.unread.ensures

pub returns-clause-within : goal.returns-clause-within
returns-clause-within g c =
    (batch_of _ c.args.self.now c.args.number c.index.result.now c.self.view_is c.self.invariant.1.standing c.requires.lowest c.index.ensures).within

pub returns-clause-last : goal.returns-clause-last
returns-clause-last g c =
    (batch_of _ c.args.self.now c.args.number c.index.result.now c.self.view_is c.self.invariant.1.standing c.requires.lowest c.index.ensures).last

pub returns-clause-fair : goal.returns-clause-fair
returns-clause-fair g c =
    (batch_of _ c.args.self.now c.args.number c.index.result.now c.self.view_is c.self.invariant.1.standing c.requires.lowest c.index.ensures).fair c.unread.result.now c.unread.ensures
