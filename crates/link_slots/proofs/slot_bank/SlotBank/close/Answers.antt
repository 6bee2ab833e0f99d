use Rattle.std.proofs.Common.{arith, ◌≡◌, ℕ, List, get_or, sym, ap, subst, ◌∙◌, Option, None, Some}
use Rattle.item_buffer.specs.Contents.{Contents}
use Rattle.port_bank.specs.Logs.{starting_at, ending_at}
use Rattle.port_bank.specs.Round.{Round, IsRound, logs_of}
use Rattle.link_slots.specs.Logs.{Lists}
use Rattle.link_slots.specs.OwnLinks.{IsOwn}
use Rattle.link_slots.specs.Shape.{Shape}
use Rattle.link_slots.specs.SeatView.{BankIdentity}
use Rattle.link_slots.specs.Gathering.{Gathering}
use Rattle.link_slots.specs.ClosedBank.{slot_round, first_lists, AllThere, IsEnding}
use Rattle.link_slots.proofs.Settling.{sent_there, got_there}
use Rattle.link_slots.proofs.slot_bank.SlotBank.close.Goals as goal

abbrev AllLists : Type 0
AllLists = List (Option (Lists Contents))

pub overflow_cast-result : goal.overflow_cast-result
overflow_cast-result g c = let s = c.self.invariant.is_cap.small in omega arith

pub returns-clause-in_order : goal.returns-clause-in_order
returns-clause-in_order g c =
    let key : Shape = c.self.inside.board.shared.key in
    let shape : record { dims = c.self.inside.grid; slots = c.self.inside.slots } ≡ key = λ k. record { dims = c.self.invariant.grid_is k; slots = c.self.invariant.slots_is k } in
    let kept : first_lists c.of-last.result.value.views ≡ first_lists c.into_badge-badge.result.views = ap (λ z. first_lists z.views) c.of-last.ensures in
    let back : first_lists c.into_badge-badge.result.views ≡ c.into_seat.result.me.0.lists = ap first_lists c.into_seat.ensures.2 in
    let was : first_lists c.into_badge-badge.result.views ≡ c.g.inside.place.me.0.lists = ap first_lists c.into_badge-badge.ensures.2 in
    let there : AllThere key c.into_seat.result.me.0.lists = subst (λ (z : Shape × AllLists). AllThere z.0 z.1)
    (λ k. (sym (ap (λ (z : BankIdentity). z.shape) c.self.view_is) k, (sym (ap (λ (z : Gathering). z.lists) c.g.view_is) ∙ sym was ∙ back) k)) c.requires.all_there in
    subst (λ (z : Shape × AllLists). IsRound (slot_round z.0 g.row.CAP z.1)) (λ k. (sym shape k, sym (kept ∙ back) k)) (c.close_table.ensures there)

pub invariant_of-result : goal.invariant_of-result
invariant_of-result g c =
    let key : Shape = c.self.inside.board.shared.key in
    let shape : record { dims = c.self.inside.grid; slots = c.self.inside.slots } ≡ key = λ k. record { dims = c.self.invariant.grid_is k; slots = c.self.invariant.slots_is k } in
    let kept : first_lists c.of-last.result.value.views ≡ first_lists c.into_badge-badge.result.views = ap (λ z. first_lists z.views) c.of-last.ensures in
    let back : first_lists c.into_badge-badge.result.views ≡ c.into_seat.result.me.0.lists = ap first_lists c.into_seat.ensures.2 in
    let was : first_lists c.into_badge-badge.result.views ≡ c.g.inside.place.me.0.lists = ap first_lists c.into_badge-badge.ensures.2 in
    let same : c.g.inside.place.me.0.shape ≡ key = ap (λ (z : Gathering). z.shape) c.g.view_is ∙ c.requires.bank.1 ∙ sym (ap (λ (z : BankIdentity). z.shape) c.self.view_is) in
    let there : AllThere key c.into_seat.result.me.0.lists = subst (λ (z : Shape × AllLists). AllThere z.0 z.1)
    (λ k. (sym (ap (λ (z : BankIdentity). z.shape) c.self.view_is) k, (sym (ap (λ (z : Gathering). z.lists) c.g.view_is) ∙ sym was ∙ back) k)) c.requires.all_there in
    let round : IsRound (slot_round c.g.inside.place.me.0.shape g.row.CAP c.g.inside.place.me.0.lists) =
    subst (λ (z : Shape × AllLists). IsRound (slot_round z.0 g.row.CAP z.1)) (λ k. (sym same k, (sym back ∙ was) k)) (c.close_table.ensures there) in
    subst (λ (z : Shape × AllLists). IsEnding g.row.CAP z.0 z.1 c.g.inside.ended.items) (λ k. ((same ∙ sym shape) k, (sym was ∙ sym kept) k))
    (record { round = round; many = c.g.invariant.ended_many; each = c.g.invariant.each_ended })

-- the round, as the caller sees its parts
pub returns-clause-round : goal.returns-clause-round
returns-clause-round g c =
    let shape : record { dims = c.self.inside.grid; slots = c.self.inside.slots } ≡ c.self.inside.board.shared.key = λ k. record { dims = c.self.invariant.grid_is k; slots = c.self.invariant.slots_is k } in
    let kept : first_lists c.of-last.result.value.views ≡ first_lists c.into_badge-badge.result.views = ap (λ z. first_lists z.views) c.of-last.ensures in
    let was : first_lists c.into_badge-badge.result.views ≡ c.g.inside.place.me.0.lists = ap first_lists c.into_badge-badge.ensures.2 in
    λ k. slot_round ((shape ∙ ap (λ (z : BankIdentity). z.shape) c.self.view_is) k) g.row.CAP ((kept ∙ was ∙ ap (λ (z : Gathering). z.lists) c.g.view_is) k)

pub returns-clause-sent : goal.returns-clause-sent
returns-clause-sent g c s at =
    let dims : List ℕ = c.args.self.shape.dims in
    let there : get_or c.g.inside.place.me.0.lists s.rank None ≡ Some s.lists = ap (λ (z : Gathering). get_or z.lists s.rank None) c.g.view_is ∙ at in
    let own : IsOwn dims s.rank s.lists = subst (λ (z : Shape). IsOwn z.dims s.rank s.lists) (ap (λ (z : Gathering). z.shape) c.g.view_is ∙ c.requires.bank.1) (c.g.invariant.each_own s.rank s.lists there) in
    ap (λ (z : Round). starting_at dims s.rank (logs_of z.sent)) (returns-clause-round g c) ∙ sent_there c.args.self.shape g.row.CAP c.args.g.lists s.rank s.lists at own

pub returns-clause-got : goal.returns-clause-got
returns-clause-got g c s at =
    let dims : List ℕ = c.args.self.shape.dims in
    let there : get_or c.g.inside.place.me.0.lists s.rank None ≡ Some s.lists = ap (λ (z : Gathering). get_or z.lists s.rank None) c.g.view_is ∙ at in
    let own : IsOwn dims s.rank s.lists = subst (λ (z : Shape). IsOwn z.dims s.rank s.lists) (ap (λ (z : Gathering). z.shape) c.g.view_is ∙ c.requires.bank.1) (c.g.invariant.each_own s.rank s.lists there) in
    ap (λ (z : Round). ending_at dims s.rank (logs_of z.got)) (returns-clause-round g c) ∙ got_there c.args.self.shape g.row.CAP c.args.g.lists s.rank s.lists at own
