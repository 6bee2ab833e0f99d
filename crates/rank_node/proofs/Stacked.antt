-- What holds of an exstack between two turns.
use Rattle.std.proofs.Common.{◌≡◌, ℕ, ◌+◌, ◌<◌, ◌≤◌, Bool, true, false, refl, ap, ◌∙◌, arith}
use Rattle.port_bank.specs.Logs.{Logs, lasts, lasts_in}
use Rattle.port_bank.proofs.Segments.{lasts_begins}
use Rattle.exstack.specs.declared.stage.Stage.{Stage}
use Rattle.exstack.specs.declared.stage.Stage.TheVariants.{Start, Proceeding, Filling, Exchanging, Full, AllDone}
use Rattle.exstack.specs.Links.{no_stack_out, no_stack_in}
use Rattle.exstack.specs.State.{Stack, stack_out_at, stack_in_at, stack_link_to}
use Rattle.exstack.specs.Standing.{IsStack}
use Rattle.exstack.specs.Agreement.{AgreesIn}
use Rattle.exstack.specs.State.{is_all_done}
use Rattle.rank_node.specs.Movers.{IsStacking}

pub not_proceeding : (s : Stage) → s ≡ Start → s ≡ Proceeding → ⊥
not_proceeding s a b = absurd (cc)

pub all_done_is : (s : Stage) → is_all_done s ≡ true → s ≡ AllDone
all_done_is Start e = absurd (cc)
all_done_is Proceeding e = absurd (cc)
all_done_is Filling e = absurd (cc)
all_done_is Exchanging e = absurd (cc)
all_done_is Full e = absurd (cc)
all_done_is AllDone e = refl

closed_of : (e : ℕ) (b : Bool) → e + 1 ≤ lasts_in e b → b ≡ true
closed_of e true h = refl
closed_of e false h = absurd (omega (arith, h))

-- a rank whose exstack is all done is done: its link to itself has ended, so it was closed
pub done_of_all_done : (cap : ℕ) (x : Stack) (sent got : Logs) → IsStacking cap x sent got → is_all_done x.stage ≡ true → x.done ≡ true
done_of_all_done cap x sent got is over =
    let s : IsStack cap x = is.stack in
    let a : AgreesIn is.agrees.cycle x sent got = is.agrees.agrees in
    let low : x.rank < x.ranks = s.rank in
    let out = s.each_out x.rank no_stack_out (omega (arith, low, s.all_outs)) in
    let in' = s.each_in x.rank no_stack_in (omega (arith, low, s.all_ins)) in
    let ended : (stack_in_at x x.rank).ended ≡ true = in'.all_ended over in
    let got_lasts : lasts (got (stack_link_to x x.rank)) ≡ x.epoch + 1 = (a.ins x.rank low).ended ∙ ap (λ b. lasts_in x.epoch b) ended in
    let sent_lasts : lasts (sent (stack_link_to x x.rank)) ≡ lasts_in x.epoch (stack_out_at x x.rank).closed = (a.outs x.rank low).ended in
    let less = lasts_begins (got (stack_link_to x x.rank)) (sent (stack_link_to x x.rank)) a.own in
    out.closed_done (closed_of x.epoch (stack_out_at x x.rank).closed (omega (arith, got_lasts, sent_lasts, less)))
