use Rattle.std.proofs.Common.{◌∙◌, ◌<◌, length, ap, arith}
use Rattle.hop_core.specs.State.{lowest_unread}
use Rattle.hop_core.proofs.Unread.{unread_at}
use Rattle.hop_core.proofs.Batches.{same_read, skipped_all, batch_kept, batch_state}
use Rattle.route_tensor.proofs.Links.{sum_small}
use Rattle.hop_core.proofs.state.RankState.pull_all.Goals as goal

pub index-requires : goal.index-requires
index-requires g c =
    let u = unread_at _ c.args.number c.self.invariant.1.standing (ap lowest_unread c.self.view_is ∙ c.requires.lowest) in
    omega (arith, u.high, c.self.invariant.1.standing.all_ins)

pub index_mut-requires : goal.index_mut-requires
index_mut-requires g c =
    let u = unread_at _ c.args.number c.self.invariant.1.standing (ap lowest_unread c.self.view_is ∙ c.requires.lowest) in
    omega (arith, u.high, c.self.invariant.1.standing.all_ins)

pub skip-requires : goal.skip-requires
skip-requires g c =
    let u = unread_at _ c.args.number c.self.invariant.1.standing (ap lowest_unread c.self.view_is ∙ c.requires.lowest) in
    let within : c.args.number < length c.self.inside.ins.items = omega (arith, u.high, c.self.invariant.1.standing.all_ins) in
    (omega arith, omega (arith, ap (λ x. length x.parcel.untaken) (same_read c.self.inside.ins.items c.args.number _ _ within c.index.ensures c.index_mut.ensures.value), ap length c.unread-count.ensures))

pub overflow_add-self : goal.overflow_add-self
overflow_add-self g c =
    let u = unread_at _ c.args.number c.self.invariant.1.standing (ap lowest_unread c.self.view_is ∙ c.requires.lowest) in
    omega (arith, u.high, sum_small c.self.inside.routes.dims c.self.invariant.1.standing.grid)

pub invariant_of-self : goal.invariant_of-self
invariant_of-self g c =
    let u = unread_at _ c.args.number c.self.invariant.1.standing (ap lowest_unread c.self.view_is ∙ c.requires.lowest) in
    let within : c.args.number < length c.self.inside.ins.items = omega (arith, u.high, c.self.invariant.1.standing.all_ins) in (
      c.self.invariant.0,
      batch_kept _ c.args.self.now _ _ _ _ c.args.number c.index_mut.result.now c.skip.new.self c.self.view_is c.self.invariant.1 c.requires.lowest c.index_mut.ensures.value
          (skipped_all c.self.inside.ins.items c.args.number _ _ _ _ within c.index.ensures c.unread-count.ensures c.index_mut.ensures.value c.skip.ensures),
    )

pub returns : goal.returns
returns g c =
    let u = unread_at _ c.args.number c.self.invariant.1.standing (ap lowest_unread c.self.view_is ∙ c.requires.lowest) in
    let within : c.args.number < length c.self.inside.ins.items = omega (arith, u.high, c.self.invariant.1.standing.all_ins) in
    batch_state _ c.args.self.now c.args.number c.index_mut.result.now c.skip.new.self c.self.view_is c.self.invariant.1.standing c.requires.lowest c.index_mut.ensures.value
    (skipped_all c.self.inside.ins.items c.args.number _ _ _ _ within c.index.ensures c.unread-count.ensures c.index_mut.ensures.value c.skip.ensures)
