-- The next epoch of a node, and the first cycle of an exstack's epoch.
use Rattle.std.proofs.Common.{◌≡◌, ◌≢◌, ℕ, ◌+◌, ◌-◌, ◌^◌, ◌<◌, ◌≤◌, Bool, true, false, cond, List, [], ◌∷◌, length, Option, Some, None, refl, sym, ap, subst, ◌∙◌, arith}
use Rattle.std.proofs.lemmas.Bool.{false≢true, true≢false}
use Rattle.std.proofs.lemmas.List.{append-nil}
use Rattle.bale_items.specs.declared.item.Entry.{Entry}
use Rattle.route_tensor.specs.Grid.{ranks}
use Rattle.port_bank.specs.Logs.{Logs}
use Rattle.exstack.specs.declared.stage.Stage.{Stage}
use Rattle.exstack.specs.declared.stage.Stage.TheVariants.{Start, Filling}
use Rattle.exstack.specs.Links.{no_stack_in}
use Rattle.exstack.specs.State.{Stack, stack_out_at, stack_in_at, stack_link_to, stack_link_from, may_read}
use Rattle.exstack.specs.Cycles.{exchange_parcel, entries_if_any}
use Rattle.list_laws.specs.Lists.{Ends}
use Rattle.exstack.specs.Agreement.{LinkAgrees, AgreesIn, back_first, rounds_in}
use Rattle.exstack.specs.Standing.{IsStack}
use Rattle.round_program.specs.Rules.{Rules}
use Rattle.round_program.specs.Laws.{Laws}
use Rattle.rank_node.specs.declared.sends.Sends.{Sends}
use Rattle.rank_node.specs.declared.sends.Sends.TheVariants.{Emissions, Nothing, Votes}
use Rattle.rank_node.specs.Sending.{to_send, is_voting, spoiled_vote}
use Rattle.rank_node.specs.Runs.{Running}
use Rattle.rank_node.specs.Movers.{MoverState, mover_dims, IsStacking, IsMoving, GoesToNextEpoch, HasCap, SameUnread, epoch_in}
use Rattle.rank_node.specs.Movers.MoverState.{Conveying, Stacking}
use Rattle.rank_node.specs.Cycles.{exchanges_in, cycles_gone_on, MarksLast, InCycle, IsInCycle}
use Rattle.rank_node.specs.Nodes.{NodeState}
use Rattle.rank_node.specs.Next.{MayGoOn, KeepsTransport, BeginsEpoch}
use Rattle.rank_node.proofs.Paced.{marks_like}
use Rattle.rank_node.proofs.Onward.{round_few, epoch_is, node_votes, node_work}

-- at the start of an epoch every cycle's number fits
module _ (cap : ℕ) (x : Stack) (s : IsStack cap x) (start : x.stage ≡ Start) where
  none_popped : (o : Option ℕ) → x.popped ≡ o → o ≡ None
  none_popped None e = refl
  none_popped (Some a) e = absurd (false≢true (sym (ap may_read start) ∙ (s.can_unpop a e).reading))

  unread_none : (a : ℕ) → a < x.ranks → back_first x.popped a (stack_in_at x a) ≡ []
  unread_none a low = ap (λ o. back_first o a (stack_in_at x a)) (none_popped x.popped refl) ∙ (s.each_in a no_stack_in (omega (arith, low, s.all_ins))).read (ap may_read start)

  agrees_at_start : (n : ℕ) (sent got : Logs) → AgreesIn n x sent got → AgreesIn 0 x sent got
  agrees_at_start n sent got a =
      let rounds : rounds_in n x.stage ≡ rounds_in 0 x.stage = ap (rounds_in n) start ∙ sym (ap (rounds_in 0) start) in
      record {
        outs = λ b low. subst (λ r. LinkAgrees x.epoch r (stack_out_at x b).closed (stack_out_at x b).due (sent (stack_link_to x b))) rounds (a.outs b low);
        ins = λ b low. subst (λ r. LinkAgrees x.epoch r (stack_in_at x b).ended (stack_in_at x b).due (got (stack_link_from x b))) rounds (a.ins b low);
        shapes = a.shapes;
        law = a.law;
        came = a.came;
        in_cycle = λ b low.
            let whole : List Entry = entries_if_any (exchange_parcel x.epoch 0 (got (stack_link_from x b))) in
            subst (Ends whole) (sym (unread_none b low)) (record { front = whole; is = sym (append-nil whole) });
        own = a.own;
      }

filling_later : (s : Stage) → s ≡ Start → s ≡ Filling → ⊥
filling_later s a b = absurd (cc)

-- so it is in cycle 0
pub cycle_at_start : {S : Type 0} (R : Rules S) (quota : ℕ → ℕ) (run : Running S) (cap : ℕ) (x : Stack) (sent got : Logs) → IsStacking cap x sent got → x.stage ≡ Start
    → length (to_send R run.prog run.sends) ≤ quota x.epoch → MarksLast quota x sent → InCycle R quota 0 run x sent got
cycle_at_start R quota run cap x sent got is start few marks =
    let e : exchanges_in 0 x.stage ≡ 0 = ap (exchanges_in 0) start in
    let g : cycles_gone_on 0 x.stage ≡ 0 = ap (cycles_gone_on 0) start in
    record {
      agrees = agrees_at_start cap x is.stack start is.agrees.cycle sent got is.agrees.agrees;
      few = few;
      paced = λ f. omega (arith, e);
      left = λ s f. absurd (filling_later x.stage start s);
      emptied = λ s b low. absurd (filling_later x.stage start s);
      went_on = λ m low. absurd (omega (arith, low, g));
      marks = marks;
    }

-- and of one that goes on to the next epoch
next_cycle : {S : Type 0} (R : Rules S) (quota : ℕ → ℕ) (n : ℕ) (run run' : Running S) (m m' : MoverState) (sent0 got0 sent got : Logs) → IsMoving m sent0 got0 → GoesToNextEpoch m m'
    → IsInCycle R quota n run m sent got → length (to_send R run'.prog run'.sends) ≤ quota (epoch_in m') → IsInCycle R quota 0 run' m' sent got
next_cycle R quota n run run' (Conveying c) (Conveying c') sent0 got0 sent got is b i few = tt
next_cycle R quota n run run' (Conveying c) (Stacking cap x) sent0 got0 sent got is b i few = absurd (b.unread)
next_cycle R quota n run run' (Stacking cap x) (Conveying c) sent0 got0 sent got is b i few = tt
next_cycle R quota n run run' (Stacking cap x) (Stacking cap' x') sent0 got0 sent got is b i few =
    let ranks : x'.ranks ≡ x.ranks = ap first b.same_dims in
    cycle_at_start R quota run' cap' x' sent got (b.moving sent got (record { stack = is.stack; agrees = record { cycle = n; agrees = i.agrees } })) b.starts few (marks_like quota x x' sent ranks b.same_rank i.marks) where
      first : List ℕ → ℕ
      first [] = 0
      first (d ∷ ds) = d

-- what stays of a transport
pub keeps_going : (cap : ℕ) (m m' : MoverState) → GoesToNextEpoch m m' → HasCap cap m' → KeepsTransport cap m m'
keeps_going cap m m' b has = record { dims = b.same_dims; rank = b.same_rank; manner = b.same_manner; same_cap = has; unread = b.unread }

pub keeps_same : (cap : ℕ) (m : MoverState) → HasCap cap m → KeepsTransport cap m m
keeps_same cap m has = record { dims = refl; rank = refl; manner = refl; same_cap = has; unread = unread m } where
  unread : (m : MoverState) → SameUnread m m
  unread (Conveying c) = λ l. refl
  unread (Stacking k x) = tt

module _ {S : Type 0} (R : Rules S) (n : NodeState S) (may : MayGoOn R n) (m' : MoverState) (b : GoesToNextEpoch n.mover m') where
  -- the votes on a round
  pub begins_votes : Laws R → (vote q : ℕ) → is_voting n.run.sends ≡ false → q ≡ ranks (mover_dims n.mover) → vote ≡ cond n.run.spoiled spoiled_vote (R.vote n.run.prog)
      → BeginsEpoch R n (record { run = record { prog = n.run.prog; round = n.run.round; sends = Votes vote q; next = 0; sum = 0; spoiled = n.run.spoiled }; mover = m' })
  begins_votes laws vote q work same is_vote =
      record {
        epoch = b.next;
        votes = λ w h sent got is. node_votes R laws h n m' sent got b may.over is vote q work same is_vote;
        work = λ votes. absurd (true≢false (sym votes ∙ work));
        starts = b.starts;
        cycle = λ quota k sent got i few. next_cycle R quota k n.run _ n.mover m' may.sent may.got sent got may.node.moving b i few;
      }

  -- the next round
  pub begins_round : Laws R → (prog' : S) (lost : Bool) (sends : Sends) → (n.run.spoiled ≡ false) × (n.run.sum ≢ 2 ^ 64 - 1) → R.goes_on (R.shape n.run.prog) (R.round n.run.prog) n.run.sum ≡ true
      → is_voting n.run.sends ≡ true → is_voting sends ≡ false → (lost ≡ false → prog' ≡ R.ended n.run.prog n.run.sum) → (sends ≡ Emissions → lost ≡ false) → (sends ≡ Nothing → lost ≡ true)
      → BeginsEpoch R n (record { run = record { prog = prog'; round = n.run.round + 1; sends = sends; next = 0; sum = 0; spoiled = lost }; mover = m' })
  begins_round laws prog' lost sends fine goes votes work ended some none =
      let few = round_few n.run.round (is_voting n.run.sends) (epoch_in n.mover) (epoch_is n.mover may.sent may.got may.node) may.epochs in
      record {
        epoch = b.next;
        votes = λ w. absurd (true≢false (sym votes ∙ w));
        work = λ v h sent got is. node_work R laws h n m' sent got b may.over is prog' lost sends fine.1 few goes votes fine.0 work ended some none;
        starts = b.starts;
        cycle = λ quota k sent got i small. next_cycle R quota k n.run _ n.mover m' may.sent may.got sent got may.node.moving b i small;
      }
