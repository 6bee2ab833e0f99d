use Rattle.std.proofs.Common.{sym, ap, ◌≡◌, ◌∙◌, ◌<◌, arith, Some, refl, length, sum, slice_get}
use Rattle.route_tensor.specs.Neighbour.{hop_to}
use Rattle.std.specs.Option.{is_some}
use Rattle.route_tensor.proofs.Links.{sum_small}
use Rattle.hop_core.proofs.Standing.{hop_last}
use Rattle.hop_core.proofs.Steps.{pull_kept}
use Rattle.hop_core.proofs.Unread.{scan_of, scan_all, scan_some, scan_none, pull_value, pull_state, none_value, none_state, last_fair}
use Rattle.hop_core.proofs.state.RankState.pull.Goals as goal

pub first_unread-requires : goal.first_unread-requires
first_unread-requires g c =
    let s = c.self.invariant.1.standing in
    (omega arith, (omega (arith, c.self.invariant.1.from_high, ap length c.deref.ensures.value, s.all_ins), omega (arith, sum_small _ s.grid, ap length c.deref.ensures.value, s.all_ins)))

pub returns-in_default-clause-value : goal.returns-in_default-clause-value
returns-in_default-clause-value g c =
    let sc = scan_all _ _ _ _ _ _ c.self.invariant.1 c.deref.ensures.value (c.first_unread.ensures.none c.in_default.is) in
    sym (none_value _ _ c.self.view_is (scan_none _ _ _ _ _ _ c.self.invariant.1 sc refl))

pub returns-in_default-clause-state : goal.returns-in_default-clause-state
returns-in_default-clause-state g c =
    let sc = scan_all _ _ _ _ _ _ c.self.invariant.1 c.deref.ensures.value (c.first_unread.ensures.none c.in_default.is) in
    none_state _ _ c.self.view_is (scan_none _ _ _ _ _ _ c.self.invariant.1 sc refl)

pub sender-requires-clause-last : goal.sender-requires-clause-last
sender-requires-clause-last g c =
    let sc = scan_of _ _ _ _ c.self.invariant.1.standing c.deref.ensures.value (c.first_unread.ensures.from_here _ c.in-Some.is) (let w = c.first_unread.ensures.within _ c.in-Some.is in omega (arith, w)) (c.first_unread.ensures.below _ c.in-Some.is) (λ _. c.first_unread.ensures.some _ c.in-Some.is) in
    let q : c.in-Some.from < sum c.self.inside.routes.dims = omega (arith, c.first_unread.ensures.within _ c.in-Some.is, ap length c.deref.ensures.value, c.self.invariant.1.standing.all_ins) in
    let head : slice_get c.index_mut.result.now.parcel.untaken 0 ≡ Some c.in_ok-entry.entry = sym c.take.ensures.value ∙ c.in_ok-entry.was in
    let wrote = c.take.ensures.taken (ap is_some c.in_ok-entry.was) in
    let last : hop_to c.self.inside.routes.dims c.in-Some.from ≡ length c.self.inside.routes.dims = hop_last _ _ c.self.invariant.1.standing (omega (arith, sc.low, c.self.invariant.1.from_low)) q in
    last

pub sender-requires-clause-fair : goal.sender-requires-clause-fair
sender-requires-clause-fair g c =
    let sc = scan_of _ _ _ _ c.self.invariant.1.standing c.deref.ensures.value (c.first_unread.ensures.from_here _ c.in-Some.is) (let w = c.first_unread.ensures.within _ c.in-Some.is in omega (arith, w)) (c.first_unread.ensures.below _ c.in-Some.is) (λ _. c.first_unread.ensures.some _ c.in-Some.is) in
    let q : c.in-Some.from < sum c.self.inside.routes.dims = omega (arith, c.first_unread.ensures.within _ c.in-Some.is, ap length c.deref.ensures.value, c.self.invariant.1.standing.all_ins) in
    let head : slice_get c.index_mut.result.now.parcel.untaken 0 ≡ Some c.in_ok-entry.entry = sym c.take.ensures.value ∙ c.in_ok-entry.was in
    let wrote = c.take.ensures.taken (ap is_some c.in_ok-entry.was) in
    let last : hop_to c.self.inside.routes.dims c.in-Some.from ≡ length c.self.inside.routes.dims = hop_last _ _ c.self.invariant.1.standing (omega (arith, sc.low, c.self.invariant.1.from_low)) q in
    last_fair _ _ _ _ c.self.invariant.1.standing q last c.index_mut.ensures.value head

pub invariant_of-self-2 : goal.invariant_of-self-2
invariant_of-self-2 g c =
    let sc = scan_of _ _ _ _ c.self.invariant.1.standing c.deref.ensures.value (c.first_unread.ensures.from_here _ c.in-Some.is) (let w = c.first_unread.ensures.within _ c.in-Some.is in omega (arith, w)) (c.first_unread.ensures.below _ c.in-Some.is) (λ _. c.first_unread.ensures.some _ c.in-Some.is) in
    let q : c.in-Some.from < sum c.self.inside.routes.dims = omega (arith, c.first_unread.ensures.within _ c.in-Some.is, ap length c.deref.ensures.value, c.self.invariant.1.standing.all_ins) in
    let head : slice_get c.index_mut.result.now.parcel.untaken 0 ≡ Some c.in_ok-entry.entry = sym c.take.ensures.value ∙ c.in_ok-entry.was in
    let wrote = c.take.ensures.taken (ap is_some c.in_ok-entry.was) in
    let last : hop_to c.self.inside.routes.dims c.in-Some.from ≡ length c.self.inside.routes.dims = hop_last _ _ c.self.invariant.1.standing (omega (arith, sc.low, c.self.invariant.1.from_low)) q in
    (c.self.invariant.0, pull_kept _ _ _ _ _ _ _ _ _ c.self.invariant.1 sc.low q sc.none c.index_mut.ensures.value head wrote)

pub returns-clause-value : goal.returns-clause-value
returns-clause-value g c =
    let sc = scan_of _ _ _ _ c.self.invariant.1.standing c.deref.ensures.value (c.first_unread.ensures.from_here _ c.in-Some.is) (let w = c.first_unread.ensures.within _ c.in-Some.is in omega (arith, w)) (c.first_unread.ensures.below _ c.in-Some.is) (λ _. c.first_unread.ensures.some _ c.in-Some.is) in
    let q : c.in-Some.from < sum c.self.inside.routes.dims = omega (arith, c.first_unread.ensures.within _ c.in-Some.is, ap length c.deref.ensures.value, c.self.invariant.1.standing.all_ins) in
    let head : slice_get c.index_mut.result.now.parcel.untaken 0 ≡ Some c.in_ok-entry.entry = sym c.take.ensures.value ∙ c.in_ok-entry.was in
    let wrote = c.take.ensures.taken (ap is_some c.in_ok-entry.was) in
    let last : hop_to c.self.inside.routes.dims c.in-Some.from ≡ length c.self.inside.routes.dims = hop_last _ _ c.self.invariant.1.standing (omega (arith, sc.low, c.self.invariant.1.from_low)) q in
    sym (pull_value _ _ _ _ _ _ c.self.view_is c.self.invariant.1.standing q (scan_some _ _ _ _ _ _ c.self.invariant.1 sc q) c.index_mut.ensures.value head c.sender.ensures)

pub returns-clause-state : goal.returns-clause-state
returns-clause-state g c =
    let sc = scan_of _ _ _ _ c.self.invariant.1.standing c.deref.ensures.value (c.first_unread.ensures.from_here _ c.in-Some.is) (let w = c.first_unread.ensures.within _ c.in-Some.is in omega (arith, w)) (c.first_unread.ensures.below _ c.in-Some.is) (λ _. c.first_unread.ensures.some _ c.in-Some.is) in
    let q : c.in-Some.from < sum c.self.inside.routes.dims = omega (arith, c.first_unread.ensures.within _ c.in-Some.is, ap length c.deref.ensures.value, c.self.invariant.1.standing.all_ins) in
    let head : slice_get c.index_mut.result.now.parcel.untaken 0 ≡ Some c.in_ok-entry.entry = sym c.take.ensures.value ∙ c.in_ok-entry.was in
    let wrote = c.take.ensures.taken (ap is_some c.in_ok-entry.was) in
    let last : hop_to c.self.inside.routes.dims c.in-Some.from ≡ length c.self.inside.routes.dims = hop_last _ _ c.self.invariant.1.standing (omega (arith, sc.low, c.self.invariant.1.from_low)) q in
    pull_state _ _ _ _ _ c.self.view_is c.self.invariant.1.standing q (scan_some _ _ _ _ _ _ c.self.invariant.1 sc q) c.index_mut.ensures.value wrote
