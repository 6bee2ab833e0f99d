use Rattle.std.proofs.Common.{◌≡◌, refl, sym, ap, ◌∙◌, subst}
use Rattle.std.specs.Arc.{arc_value}
use Rattle.route_tensor.specs.Grid.{ranks}
use Rattle.link_slots.specs.SeatView.{BankIdentity, SeatView}
use Rattle.hop_core.specs.State.{State}
use Rattle.rank_handles.specs.Grouped.{NewRank}
use Rattle.rank_handles.proofs.Moves.{at}
use Rattle.rank_handles.proofs.Starts.{seated_at, new_at, none_sent, none_got}
use Rattle.rank_handles.proofs.Counting.{statistics_none}
use Rattle.rank_handles.proofs.rank.Rank.new.Goals as goal

pub invariant_of-result : goal.invariant_of-result
invariant_of-result g c =
    let there : c.deref.result.now ≡ arc_value c.in-Ok.bank = c.deref.ensures in let is = c.in_ok-conveyor.ensures.made in let seat = c.seat-seat.ensures.seat in
    let given : arc_value c.args.bank.now ≡ c.deref.result.now = sym (there ∙ c.in-Ok.ensures) in
    record {
      there = refl;
      at_bank = subst (λ (b : BankIdentity). Rattle.rank_handles.specs.RankAtBank.IsAtBank b c.seat-seat.result c.in_ok-conveyor.conveyor) there
          (seated_at c.deref.result.now c.args.grid.now c.args.rank g.row.CAP c.args.steady c.seat-seat.result c.in_ok-conveyor.conveyor
          (c.requires.seat.at_gather.grid_is ∙ ap (λ (b : BankIdentity). b.shape.dims) given) (ap (λ (m : SeatView). m.id) seat) (ap (λ (m : SeatView). m.shape) seat) (ap (λ (m : SeatView). m.rank) seat)
          (ap (λ (m : SeatView). m.lists) seat) is c.in_ok-conveyor.ensures.agrees);
      count_is = c.ranks.ensures.value ∙ ap ranks (sym (ap (λ (z : State). z.dims) is));
      epoch_is = sym (ap (λ (z : State). z.epoch) is);
      done_is = sym (ap (λ (z : State). z.done) is);
      counted = c.none.ensures ∙ statistics_none c.seat-seat.result (none_sent c.deref.result.now c.args.grid.now c.args.rank g.row.CAP c.args.steady c.seat-seat.result c.in_ok-conveyor.conveyor
          (c.requires.seat.at_gather.grid_is ∙ ap (λ (b : BankIdentity). b.shape.dims) given) (ap (λ (m : SeatView). m.id) seat) (ap (λ (m : SeatView). m.shape) seat) (ap (λ (m : SeatView). m.rank) seat)
          (ap (λ (m : SeatView). m.lists) seat) is c.in_ok-conveyor.ensures.agrees) (none_got c.deref.result.now c.args.grid.now c.args.rank g.row.CAP c.args.steady c.seat-seat.result c.in_ok-conveyor.conveyor
          (c.requires.seat.at_gather.grid_is ∙ ap (λ (b : BankIdentity). b.shape.dims) given) (ap (λ (m : SeatView). m.id) seat) (ap (λ (m : SeatView). m.shape) seat) (ap (λ (m : SeatView). m.rank) seat)
          (ap (λ (m : SeatView). m.lists) seat) is c.in_ok-conveyor.ensures.agrees);
    }

pub returns-clause-made : goal.returns-clause-made
returns-clause-made g c =
    let there : c.deref.result.now ≡ arc_value c.in-Ok.bank = c.deref.ensures in let is = c.in_ok-conveyor.ensures.made in let seat = c.seat-seat.ensures.seat in
    let given : arc_value c.args.bank.now ≡ c.deref.result.now = sym (there ∙ c.in-Ok.ensures) in
    subst (λ (b : BankIdentity). NewRank b c.args.rank g.row.CAP c.args.steady (at c.seat-seat.result c.in_ok-conveyor.conveyor)) (sym given)
    (new_at c.deref.result.now c.args.grid.now c.args.rank g.row.CAP c.args.steady c.seat-seat.result c.in_ok-conveyor.conveyor
    (c.requires.seat.at_gather.grid_is ∙ ap (λ (b : BankIdentity). b.shape.dims) given) (ap (λ (m : SeatView). m.id) seat) (ap (λ (m : SeatView). m.shape) seat) (ap (λ (m : SeatView). m.rank) seat)
    (ap (λ (m : SeatView). m.lists) seat) is c.in_ok-conveyor.ensures.agrees)
