use Rattle.std.proofs.Common.{◌≡◌, ◌∙◌, ◌<◌, ◌-◌, true, sym, ap, subst, arith, length, set, sum}
use Rattle.std.specs.Int.{from_bool}
use Rattle.std.specs.List.{All, list_all}
use Rattle.std.proofs.lemmas.Bool.{and_parts}
use Rattle.bale_items.specs.declared.item.Entry.{Entry}
use Rattle.route_tensor.specs.Neighbour.{hop_to}
use Rattle.route_tensor.specs.Tag.{IsFair}
use Rattle.hop_core.specs.Link.{In, is_wanted, is_finished, is_empty}
use Rattle.hop_core.specs.State.{State, in_at, ins_of_hop}
use Rattle.hop_core.proofs.Counts.{one_each}
use Rattle.hop_core.proofs.Standing.{some_coming, last_from}
use Rattle.hop_core.proofs.Exchanging.{in_last_kept, in_empty_kept, in_going_kept, in_ending_kept}
use Rattle.hop_core.proofs.state.RankState.take_in.Goals as goal

pub overflow_sub-self : goal.overflow_sub-self
overflow_sub-self g c =
    let k = c.self.invariant.1 in
    let w = subst (λ (s : State). is_wanted (in_at s c.args.number) ≡ true) (sym c.self.view_is) c.requires.wanted in
    let h : c.hop_of-hop.result ≡ hop_to c.self.inside.routes.dims c.args.number = c.hop_of-hop.ensures.value in
    let q = subst (λ (s : State). c.args.number < sum s.dims) (sym c.self.view_is) c.requires.number in
    let last : hop_to c.self.inside.routes.dims c.args.number ≡ length c.self.inside.routes.dims = omega (arith, h, c.self.invariant.0, c.if-hop.true, c.hop_of-hop.ensures.last_hop) in
    let some = some_coming _ c.args.number k.standing q (last_from _ _ q last) w in
    omega (arith, some, k.coming_is, one_each c.last-last.result, c.from.ensures)

pub invariant_of-self : goal.invariant_of-self
invariant_of-self g c =
    let k = c.self.invariant.1 in
    let w = subst (λ (s : State). is_wanted (in_at s c.args.number) ≡ true) (sym c.self.view_is) c.requires.wanted in
    let f = subst (λ (s : State). All (λ (e : Entry). IsFair s.dims (hop_to s.dims c.args.number) e.tag) c.args.parcel.now.untaken) (sym c.self.view_is) c.requires.fair in
    let h : c.hop_of-hop.result ≡ hop_to c.self.inside.routes.dims c.args.number = c.hop_of-hop.ensures.value in
    let q = subst (λ (s : State). c.args.number < sum s.dims) (sym c.self.view_is) c.requires.number in
    let last : hop_to c.self.inside.routes.dims c.args.number ≡ length c.self.inside.routes.dims = omega (arith, h, c.self.invariant.0, c.if-hop.true, c.hop_of-hop.ensures.last_hop) in
    let ended = ap (λ (y : In). y.ended) c.exchange-finished.ensures.state in
    let less = ap (λ n. c.self.inside.still_coming - n) (c.from.ensures ∙ ap from_bool c.last-last.ensures) in
    (c.self.invariant.0, rw c.min-self-inside.ensures (in_last_kept _ _ _ _ _ _ _ _ k q w c.known.ensures.within c.requires.fresh.none_back f (ap (λ y. y.parcel) c.exchange-finished.ensures.state) _ last ended less))

pub invariant_of-self-else-not-finished : goal.invariant_of-self-else-not-finished
invariant_of-self-else-not-finished g c =
    let k = c.self.invariant.1 in
    let w = subst (λ (s : State). is_wanted (in_at s c.args.number) ≡ true) (sym c.self.view_is) c.requires.wanted in
    let f = subst (λ (s : State). All (λ (e : Entry). IsFair s.dims (hop_to s.dims c.args.number) e.tag) c.args.parcel.now.untaken) (sym c.self.view_is) c.requires.fair in
    let h : c.hop_of-hop.result ≡ hop_to c.self.inside.routes.dims c.args.number = c.hop_of-hop.ensures.value in
    let q = subst (λ (s : State). c.args.number < sum s.dims) (sym c.self.view_is) c.requires.number in
    let last : hop_to c.self.inside.routes.dims c.args.number ≡ length c.self.inside.routes.dims = omega (arith, h, c.self.invariant.0, c.if-hop.true, c.hop_of-hop.ensures.last_hop) in
    let e : is_empty c.exchange-finished.new.self.parcel ≡ true = (and_parts _ _ (sym c.exchange-finished.ensures.value ∙ c.if-not-finished.false)).1 in
    let ended = ap (λ (y : In). y.ended) c.exchange-finished.ensures.state in
    let less = ap (λ n. c.self.inside.still_coming - n) (c.from.ensures ∙ ap from_bool c.last-last.ensures) in
    (c.self.invariant.0, in_empty_kept _ _ _ _ _ _ _ _ k q w c.known.ensures.within c.requires.fresh.none_back f (ap (λ y. y.parcel) c.exchange-finished.ensures.state) _ last e ended less)

pub invariant_of-self-then-finished : goal.invariant_of-self-then-finished
invariant_of-self-then-finished g c =
    let k = c.self.invariant.1 in
    let w = subst (λ (s : State). is_wanted (in_at s c.args.number) ≡ true) (sym c.self.view_is) c.requires.wanted in
    let f = subst (λ (s : State). All (λ (e : Entry). IsFair s.dims (hop_to s.dims c.args.number) e.tag) c.args.parcel.now.untaken) (sym c.self.view_is) c.requires.fair in
    let h : c.hop_of-hop.result ≡ hop_to c.self.inside.routes.dims c.args.number = c.hop_of-hop.ensures.value in
    let q = subst (λ (s : State). c.args.number < sum s.dims) (sym c.self.view_is) c.requires.number in
    let before : hop_to c.self.inside.routes.dims c.args.number < length c.self.inside.routes.dims = omega (arith, h, c.self.invariant.0, c.if-hop.false) in (
      c.self.invariant.0,
      rw h (in_ending_kept _ _ _ _ _ _ _ _ k q w c.known.ensures.within c.requires.fresh.none_back f (ap (λ y. y.parcel) c.exchange-finished.ensures.state) _ before
          (c.hop_finished.ensures ∙ ap (λ xs. list_all is_finished (ins_of_hop c.self.inside.routes.dims xs c.hop_of-hop.result)) c.deref.ensures.value ∙ ap (λ j. list_all is_finished (ins_of_hop c.self.inside.routes.dims (set c.self.inside.ins.items c.args.number c.exchange-finished.new.self) j)) h)),
    )

pub invariant_of-self-else-finished : goal.invariant_of-self-else-finished
invariant_of-self-else-finished g c =
    let k = c.self.invariant.1 in
    let w = subst (λ (s : State). is_wanted (in_at s c.args.number) ≡ true) (sym c.self.view_is) c.requires.wanted in
    let f = subst (λ (s : State). All (λ (e : Entry). IsFair s.dims (hop_to s.dims c.args.number) e.tag) c.args.parcel.now.untaken) (sym c.self.view_is) c.requires.fair in
    let h : c.hop_of-hop.result ≡ hop_to c.self.inside.routes.dims c.args.number = c.hop_of-hop.ensures.value in
    let q = subst (λ (s : State). c.args.number < sum s.dims) (sym c.self.view_is) c.requires.number in
    let before : hop_to c.self.inside.routes.dims c.args.number < length c.self.inside.routes.dims = omega (arith, h, c.self.invariant.0, c.if-hop.false) in
    (c.self.invariant.0, in_going_kept _ _ _ _ _ _ _ _ k q w c.known.ensures.within c.requires.fresh.none_back f (ap (λ y. y.parcel) c.exchange-finished.ensures.state) before (sym c.exchange-finished.ensures.value ∙ c.if-finished.false))
