use Rattle.std.proofs.Common.{◌≡◌, sym, ap, ◌∙◌, subst}
use Rattle.link_slots.specs.SeatView.{SeatView, posted_on, collected_from, table_name}
use Rattle.port_bank.specs.Machine.{IsOwnStep}
use Rattle.port_bank.specs.Port.{Others}
use Rattle.convey.specs.Buffers.{buffers_of, is_complete}
use Rattle.convey.specs.Parts.{part_of}
use Rattle.convey.specs.Progress.{advance_step}
use Rattle.convey.specs.Conveyors.{AgreesWith}
use Rattle.rank_handles.specs.Statistics.{statistics_on}
use Rattle.rank_handles.proofs.Moves.{working_not_done}
use Rattle.rank_handles.proofs.rank.advance_at.Goals as goal

pub returns-clause-at_bank : goal.returns-clause-at_bank
returns-clause-at_bank g c =
    let told = c.in-Ok.ensures in let new = c.advance.new.self in let seat = c.advance.new.port.port.seat in
    let is : c.into_seat.result ≡ seat = c.into_seat.ensures.seat ∙ (λ k. (c.into_parts-port.ensures.port k).seat) in
    let here : c.new-counting.result.port.seat ≡ c.args.seat = (λ k. (c.new-counting.ensures.port k).seat) ∙ c.port.ensures.seat in let was = c.requires.at_bank in
    let name : table_name seat.id ≡ table_name c.args.bank.now.id = ap (λ (r : Others). r.bank) told.advances.stays.same_port.others ∙ (ap (λ (m : SeatView). table_name m.id) here ∙ ap table_name was.id) in
    let shape : seat.shape ≡ c.new-counting.result.port.seat.shape = λ k. record { dims = told.advances.stays.same_port.dims k; slots = told.advances.stays.same_port.slots k } in
    let one : c.into_seat.result.id ≡ c.args.bank.now.id = ap (λ (m : SeatView). m.id) is ∙ (λ k. (sym (λ m. (c.into_parts-port.ensures.port m).seat.id) k)) ∙ c.into_seat.ensures.one_bank c.args.bank.now.id ((λ k. table_name (c.into_parts-port.ensures.port k).seat.id) ∙ name) in
    record {
      id = one;
      shape = ap (λ (m : SeatView). m.shape) is ∙ (shape ∙ (ap (λ (m : SeatView). m.shape) here ∙ was.shape));
      rank = ap (λ (m : SeatView). m.rank) is ∙ (told.advances.stays.same_port.rank ∙ (ap (λ (m : SeatView). m.rank) here ∙ (was.rank ∙ sym told.advances.stays.rank)));
      dims = ap (λ (m : SeatView). m.shape.dims) is ∙ (told.advances.stays.same_port.dims ∙ (ap (λ (m : SeatView). m.shape.dims) here ∙ (was.dims ∙ sym told.advances.stays.dims)));
      agrees = subst (λ (m : SeatView). AgreesWith new (posted_on m) (collected_from m)) (sym is) told.advances.stays.agrees;
      dormant = λ e. absurd (told.advances.stays.begun e);
      working = working_not_done new told.settled.phase;
    }

pub returns-clause-counted : goal.returns-clause-counted
returns-clause-counted g c =
    let is : c.into_seat.result ≡ c.advance.new.port.port.seat = c.into_seat.ensures.seat ∙ (λ k. (c.into_parts-port.ensures.port k).seat) in
    c.into_parts-port.ensures.counted ∙ sym (ap statistics_on is)

pub returns-clause-step : goal.returns-clause-step
returns-clause-step g c = let new = c.advance.new.self in
    subst (λ (m : SeatView). IsOwnStep (advance_step c.args.conveyor.now.done c.args.done (is_complete new.phase)) (part_of (buffers_of c.args.conveyor.now) (posted_on c.args.seat) (collected_from c.args.seat)) (part_of (buffers_of new) (posted_on m) (collected_from m)))
    (sym (c.into_seat.ensures.seat ∙ (λ k. (c.into_parts-port.ensures.port k).seat)))
    (subst (λ (m : SeatView). IsOwnStep (advance_step c.args.conveyor.now.done c.args.done (is_complete new.phase)) (part_of (buffers_of c.args.conveyor.now) (posted_on m) (collected_from m)) (part_of (buffers_of new) (posted_on c.advance.new.port.port.seat) (collected_from c.advance.new.port.port.seat)))
    ((λ k. (c.new-counting.ensures.port k).seat) ∙ c.port.ensures.seat) c.in-Ok.ensures.advances.stays.step)
