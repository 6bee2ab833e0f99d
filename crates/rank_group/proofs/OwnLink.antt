-- A rank that has a parcel to post to itself has collected nothing from itself by its turn, unless
-- it finished a round.
use Rattle.std.proofs.Common.{◌≡◌, ℕ, ◌+◌, ◌<◌, ◌≤◌, Bool, true, false, cond, List, length, length-append, refl, sym, ap, subst, ◌∙◌, arith}
use Rattle.item_buffer.specs.Contents.{Shipped}
use Rattle.port_bank.proofs.Fronts.{begins_shorter, begins_whole}
use Rattle.port_bank.specs.Logs.{Logs, lasts, segment, lasts_in}
use Rattle.port_bank.specs.Flow.{IsPrefix}
use Rattle.port_bank.proofs.Segments.{lasts-append, lasts_begins, segment_begins}
use Rattle.exstack.specs.State.{Stack, stack_out_at, stack_in_at, number}
use Rattle.exstack.specs.Agreement.{rounds_in}
use Rattle.exstack.specs.Lockstep.{finished_in, InStep}
use Rattle.exstack.proofs.Lockstep.{more_open, begun_more, finished_low, begins, out_end, out_is, in_end, in_is}
use Rattle.rank_group.proofs.Halves.{out_going}

-- a log whose open segment didn't grow is as it was
pub open_same : (e : ℕ) (log more : List Shipped) → IsPrefix log more → lasts log ≡ e → lasts more ≡ e → length (segment e more) ≤ length (segment e log) → more ≡ log
open_same e log more b is is' short =
    let none : lasts b.rest ≡ 0 = omega (arith, is, is', ap lasts b.is, lasts-append log b.rest) in
    let seg = ap (λ xs. length (segment e xs)) b.is ∙ more_open log b.rest e is none in
    begins_whole log more b (omega (arith, short, seg, ap length b.is, length-append log b.rest))

module _ (p cap slots : ℕ) (n n' : ℕ → ℕ) (all all' : ℕ → Stack) (sent got sent' got' : Logs) (t : InStep p cap slots n all sent got) (t' : InStep p cap slots n' all' sent' got') (r : ℕ) (low : r < p)
    (grows : IsPrefix (got (number p r r)) (got' (number p r r))) (same_epoch : (all' r).epoch ≡ (all r).epoch) (same : finished_in (n' r) (all' r).stage ≡ finished_in (n r) (all r).stage) (due : (stack_out_at (all' r) r).due ≡ true) where
  abbrev l : ℕ
  l = number p r r

  abbrev e : ℕ
  e = (all' r).epoch

  posts : lasts (sent' l) ≡ e
  posts = out_going p cap slots n' all' sent' got' t' r r low low due

  sent_count : length (segment e (sent' l)) ≡ finished_in (n' r) (all' r).stage
  sent_count =
      let o = out_is p cap slots n' all' sent' got' t' r r low low in
      let c = (out_end p cap slots n' all' sent' got' t' r r low low).each_round (o.due_open due) in
      omega (arith, c, ap {B = ℕ} (λ d. cond d 1 0) due, begun_more (n' r) (all' r).stage (o.due_round due))

  got_few : lasts (got' l) ≤ e
  got_few = omega (arith, posts, lasts_begins (got' l) (sent' l) (begins p cap slots n' all' sent' got' t' r r low low))

  got_short : length (segment e (got' l)) ≤ finished_in (n' r) (all' r).stage
  got_short =
      let b = segment_begins e (got' l) (sent' l) (begins p cap slots n' all' sent' got' t' r r low low) in
      omega (arith, sent_count, begins_shorter (segment e (got' l)) (segment e (sent' l)) b)

  got_open : lasts (got' l) ≡ e
  got_open = by (stack_in_at (all' r) r).ended (in_end p cap slots n' all' sent' got' t' r r low low).ended where
    by : (b : Bool) → lasts (got' l) ≡ lasts_in e b → lasts (got' l) ≡ e
    by true is = absurd (omega (arith, is, got_few))
    by false is = is

  was_open : ((stack_in_at (all r) r).ended ≡ false) × (lasts (got l) ≡ e)
  was_open = by (stack_in_at (all r) r).ended refl (in_end p cap slots n all sent got t r r low low).ended where
    by : (b : Bool) → (stack_in_at (all r) r).ended ≡ b → lasts (got l) ≡ lasts_in (all r).epoch b → ((stack_in_at (all r) r).ended ≡ false) × (lasts (got l) ≡ e)
    by true c is = absurd (omega (arith, is, same_epoch, got_open, lasts_begins (got l) (got' l) grows))
    by false c is = (c, is ∙ sym same_epoch)

  got_long : finished_in (n r) (all r).stage ≤ length (segment e (got l))
  got_long = by (stack_in_at (all r) r).due refl where
    count : length (segment e (got l)) + cond (stack_in_at (all r) r).due 1 0 ≡ rounds_in (n r) (all r).stage
    count = subst (λ i. length (segment i (got l)) + cond (stack_in_at (all r) r).due 1 0 ≡ rounds_in (n r) (all r).stage) (sym same_epoch) ((in_end p cap slots n all sent got t r r low low).each_round was_open.0)

    by : (d : Bool) → (stack_in_at (all r) r).due ≡ d → finished_in (n r) (all r).stage ≤ length (segment e (got l))
    by true is = omega (arith, count, ap {B = ℕ} (λ d. cond d 1 0) is, begun_more (n r) (all r).stage ((in_is p cap slots n all sent got t r r low low).due_round is))
    by false is = omega (arith, count, ap {B = ℕ} (λ d. cond d 1 0) is, finished_low (n r) (all r).stage)

  pub own_still : got' l ≡ got l
  own_still = open_same e (got l) (got' l) grows was_open.1 got_open (omega (arith, got_short, got_long, same))
