use Rattle.std.proofs.Common.{◌∙◌, ◌<◌, length, sum, sym, ap, refl, arith}
use Rattle.route_tensor.proofs.Links.{sum_small}
use Rattle.hop_core.specs.State.{lowest_unread}
use Rattle.hop_core.proofs.Steps.{none_kept}
use Rattle.hop_core.proofs.Unread.{scan_of, scan_all, scan_some, scan_none}
use Rattle.hop_core.proofs.state.RankState.unread.Goals as goal

pub first_unread-requires : goal.first_unread-requires
first_unread-requires g c =
    let s = c.self.invariant.1.standing in
    (omega arith, (omega (arith, c.self.invariant.1.from_high, ap length c.deref.ensures.value, s.all_ins), omega (arith, sum_small _ s.grid, ap length c.deref.ensures.value, s.all_ins)))

pub invariant_of-self : goal.invariant_of-self
invariant_of-self g c =
    let sc = scan_of _ _ _ _ c.self.invariant.1.standing c.deref.ensures.value (c.first_unread.ensures.from_here _ c.in-Some.is) (let w = c.first_unread.ensures.within _ c.in-Some.is in omega (arith, w)) (c.first_unread.ensures.below _ c.in-Some.is) (λ _. c.first_unread.ensures.some _ c.in-Some.is) in
    (c.self.invariant.0, none_kept _ _ _ _ _ _ c.self.invariant.1 sc.low sc.high sc.none)

pub returns-in-Some-clause-value : goal.returns-in-Some-clause-value
returns-in-Some-clause-value g c =
    let sc = scan_of _ _ _ _ c.self.invariant.1.standing c.deref.ensures.value (c.first_unread.ensures.from_here _ c.in-Some.is) (let w = c.first_unread.ensures.within _ c.in-Some.is in omega (arith, w)) (c.first_unread.ensures.below _ c.in-Some.is) (λ _. c.first_unread.ensures.some _ c.in-Some.is) in
    let q : c.in-Some.number < sum c.self.inside.routes.dims = omega (arith, c.first_unread.ensures.within _ c.in-Some.is, ap length c.deref.ensures.value, c.self.invariant.1.standing.all_ins) in
    sym (scan_some _ _ _ _ _ _ c.self.invariant.1 sc q) ∙ ap lowest_unread c.self.view_is

pub returns-in-None-clause-value : goal.returns-in-None-clause-value
returns-in-None-clause-value g c =
    let sc = scan_all _ _ _ _ _ _ c.self.invariant.1 c.deref.ensures.value (c.first_unread.ensures.none c.in-None.is) in
    sym (scan_none _ _ _ _ _ _ c.self.invariant.1 sc refl) ∙ ap lowest_unread c.self.view_is
