use Rattle.std.proofs.Common.{sym, ap, subst, ◌∙◌, ◌<◌, arith, length}
use Rattle.hop_core.specs.Link.{is_finished}
use Rattle.hop_core.specs.State.{State}
use Rattle.std.specs.List.{list_all}
use Rattle.hop_core.specs.State.{ins_of_hop}
use Rattle.hop_core.proofs.Relayed.{relay_kept, relay_open}
use Rattle.hop_core.proofs.state.RankState.relay.Goals as goal

pub relay_hop-count-requires : goal.relay_hop-count-requires
relay_hop-count-requires g c =
    let s = c.self.invariant.1.standing in
    let last : c.args.h < length c.self.inside.routes.dims = subst (λ (v : State). c.args.h < length v.dims) (sym c.self.view_is) c.requires.last in
    (omega arith, (omega arith, (c.requires.first, (last, (s.cap.small, (s.all_outs, (s.all_ins, (s.each_out, (s.each_in, relay_open _ _ s c.requires.first)))))))))

pub invariant_of-self : goal.invariant_of-self
invariant_of-self g c =
    let r = c.relay_hop-count.ensures in
    let last : c.args.h < length c.self.inside.routes.dims = subst (λ (v : State). c.args.h < length v.dims) (sym c.self.view_is) c.requires.last in (
      c.self.invariant.0,
      relay_kept _ _ _ _ _ _ _ _ _ c.self.invariant.1 c.requires.first last r.each_out r.each_in r.relays.adds r.relays.takes
          (c.hop_finished.ensures ∙ ap (λ xs. list_all is_finished (ins_of_hop c.self.inside.routes.dims xs c.args.h)) c.deref.ensures.value),
    )
