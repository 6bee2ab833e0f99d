use Rattle.std.proofs.Common.{◌∙◌, ap, length, arith}
use Rattle.route_tensor.proofs.Links.{sum_small}
use Rattle.hop_core.specs.State.{lowest_unread}
use Rattle.hop_core.proofs.Unread.{found_lowest}
use Rattle.hop_core.proofs.state.RankState.next_unread.Goals as goal

pub first_unread-requires : goal.first_unread-requires
first_unread-requires g c =
    let s = c.self.invariant.1.standing in
    (omega (arith, c.self.invariant.1.from_high, ap length c.deref.ensures.value, s.all_ins), omega (arith, sum_small _ s.grid, ap length c.deref.ensures.value, s.all_ins))

pub returns : goal.returns
returns g c = found_lowest _ _ _ _ _ _ _ c.self.invariant.1 c.deref.ensures.value c.first_unread.ensures ∙ ap lowest_unread c.self.view_is
