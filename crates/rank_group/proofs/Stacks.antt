-- The exstacks of all ranks between two turns.
use Rattle.std.proofs.Common.{◌≡◌, ℕ, zero, suc, ◌*◌, ◌<◌, ◌≤◌, Bool, true, false, List, [], ◌∷◌, Option, Some, None, slice_get, sym, ap, subst, ◌∙◌, arith, inl, inr}
use Rattle.std.proofs.lemmas.Bool.{cases_Bool, false≢true}
use Rattle.list_laws.specs.Sums.{total}
use Rattle.list_laws.proofs.Sums.{total_part}
use Rattle.list_laws.proofs.Lists.{find}
use Rattle.route_tensor.specs.Grid.{ranks}
use Rattle.route_tensor.specs.Link.{links}
use Rattle.route_tensor.proofs.Coordinates.{ranks_some}
use Rattle.port_bank.specs.Logs.{Logs, starting_at, ending_at}
use Rattle.exstack.specs.declared.stage.Stage.{Stage}
use Rattle.exstack.specs.declared.stage.Stage.TheVariants.{Start, Proceeding, Filling, Exchanging, Full, AllDone}
use Rattle.exstack.specs.State.{Stack, number, stack_link_to}
use Rattle.exstack.specs.State.{is_all_done}
use Rattle.exstack.specs.Cycles.{proceed_parcel}
use Rattle.exstack.specs.Agreement.{AgreesIn}
use Rattle.exstack.specs.Standing.{IsStack}
use Rattle.exstack.specs.Lockstep.{finished_in, InStep}
use Rattle.exstack.proofs.OneHop.{ranks_one}
use Rattle.round_program.specs.Rules.{Rules}
use Rattle.round_program.specs.Laws.{Laws}
use Rattle.rank_node.specs.Runs.{Running}
use Rattle.rank_node.specs.Movers.{MoverState, mover_dims, mover_rank, epoch_in, has_completed, part_in, IsMoving}
use Rattle.rank_node.specs.Movers.MoverState.{Conveying, Stacking}
use Rattle.rank_node.specs.Movers.Manner.{ByExstack}
use Rattle.rank_node.specs.Cycles.{InCycle, MarksLast, IsInCycle, WentOn, cycles_gone_on}
use Rattle.rank_node.proofs.Onward.{done_of_completed}
use Rattle.rank_group.specs.Closes.{ClosesLaws}
use Rattle.rank_group.specs.Ranks.{RankState}
use Rattle.rank_group.specs.RoundProgress.{quota_of, most_rounds, HasCycled, IsBetween}
use Rattle.rank_group.specs.RanksOverBank.{RanksOnBank, DrivePlan, mover_in}
use Rattle.rank_group.proofs.Worlds.{core, stack_of, is_stacking, still_within, over_at_last}
use Rattle.exstack.proofs.Lockstep.{begins, to_is, from_is, sent_own, got_own}
use Rattle.rank_group.proofs.Halves.{AllStacks}

-- an exstack whose epoch isn't over has finished two rounds at most for each cycle that went on
finished_low : (n : ℕ) (s : Stage) → is_all_done s ≡ false → finished_in n s ≤ 2 * cycles_gone_on n s
finished_low n Start going = omega arith
finished_low n Proceeding going = omega arith
finished_low n Filling going = omega arith
finished_low n Exchanging going = omega arith
finished_low n Full going = omega arith
finished_low n AllDone going = absurd (false≢true (sym going))

abbrev pub over_in : {S : Type 0} → Option (RankState S) → Bool
over_in None = false
over_in (Some x) = x.over

abbrev pub stack_in : {S : Type 0} → Option (RankState S) → Stack
stack_in o = stack_of (mover_in o)

agreed : {S : Type 0} (R : Rules S) (quota : ℕ → ℕ) (k : ℕ) (run : Running S) (m : MoverState) (cap : ℕ) (sent got : Logs) → m ≡ Stacking cap (stack_of m) → IsInCycle R quota k run m sent got → InCycle R quota k run (stack_of m) sent got
agreed R quota k run (Conveying c) cap sent got e i = absurd (cc)
agreed R quota k run (Stacking j x) cap sent got e i = i

cycled : (quota : ℕ → ℕ) (k : ℕ) (m : MoverState) (cap : ℕ) (sent got : Logs) → m ≡ Stacking cap (stack_of m) → HasCycled quota k m sent got → AgreesIn k (stack_of m) sent got × MarksLast quota (stack_of m) sent
cycled quota k (Conveying c) cap sent got e i = absurd (cc)
cycled quota k (Stacking j x) cap sent got e i = i

between : (m : MoverState) (cap : ℕ) → m ≡ Stacking cap (stack_of m) → IsBetween m → is_all_done (stack_of m).stage ≡ false
between (Conveying c) cap e i = absurd (cc)
between (Stacking j x) cap e i = i

completed : (m : MoverState) (cap : ℕ) → m ≡ Stacking cap (stack_of m) → has_completed m ≡ true → is_all_done (stack_of m).stage ≡ true
completed (Conveying c) cap e i = absurd (cc)
completed (Stacking j x) cap e i = i

part_done : (m : MoverState) (cap : ℕ) (sent got : Logs) → m ≡ Stacking cap (stack_of m) → (part_in m sent got).done ≡ true → (stack_of m).done ≡ true
part_done (Conveying c) cap sent got e i = absurd (cc)
part_done (Stacking j x) cap sent got e i = i

epoch_of_stack : (m : MoverState) (cap : ℕ) → m ≡ Stacking cap (stack_of m) → epoch_in m ≡ (stack_of m).epoch
epoch_of_stack m cap e = ap epoch_in e

module _ {S : Type 0} (R : Rules S) (laws : Laws R) (law : ClosesLaws) (dims : List ℕ) (cap slots : ℕ) (starts : List S) (h : ℕ → ℕ → S) (rs : List (RankState S)) (sent got : Logs) (w : RanksOnBank R dims cap slots ByExstack starts h rs sent got)
    (n : ℕ) (plan : DrivePlan R dims slots starts n) where
  abbrev p : ℕ
  p = ranks dims

  abbrev over_at : ℕ → Bool
  over_at r = over_in (slice_get rs r)

  abbrev stack_at : ℕ → Stack
  stack_at r = stack_in (slice_get rs r)

  abbrev quota : ℕ → ℕ → ℕ
  quota r = quota_of R p starts r

  pub rank_at : (r : ℕ) → r < p → (x : RankState S) × (slice_get rs r ≡ Some x)
  rank_at r low = find rs r (omega (arith, low, w.ranked.all))

  pub stack_is : (r : ℕ) (x : RankState S) → slice_get rs r ≡ Some x → x.node.mover ≡ Stacking cap (stack_of x.node.mover)
  stack_is r x at = let k = w.ranked.each r x at in is_stacking x.node.mover cap k.same_manner k.same_cap

  -- what holds of each rank and its exstack
  pick : (r : ℕ) → r < p → (P : Bool → Stack → Type 0) → ((x : RankState S) → slice_get rs r ≡ Some x → P x.over (stack_of x.node.mover)) → P (over_at r) (stack_at r)
  pick r low P f = let x = rank_at r low in subst (λ o. P (over_in o) (stack_in o)) (sym x.1) (f x.0 x.1)

  pub one : p ∷ [] ≡ dims
  one =
      let low : 0 < p = ranks_some dims w.ranked.grid.positive in
      let x = rank_at 0 low in
      let same : mover_dims (Stacking cap (stack_of x.0.node.mover)) ≡ dims = ap mover_dims (sym (stack_is 0 x.0 x.1)) ∙ (w.ranked.each 0 x.0 x.1).same_dims in
      ap (λ (ds : List ℕ). ranks ds ∷ []) (sym same) ∙ (ap (λ k. k ∷ []) (ranks_one (stack_of x.0.node.mover).ranks) ∙ same)

  moving : (r : ℕ) (x : RankState S) → slice_get rs r ≡ Some x → IsMoving x.node.mover (starting_at dims r sent) (ending_at dims r got)
  moving r x at = (core R dims cap ByExstack r (h r) x sent got (w.ranked.each r x at)).is.moving

  stands : (r : ℕ) (x : RankState S) → slice_get rs r ≡ Some x → IsStack cap (stack_of x.node.mover)
  stands r x at = by x.node.mover (stack_is r x at) (moving r x at) where
    by : (m : MoverState) → m ≡ Stacking cap (stack_of m) → IsMoving m (starting_at dims r sent) (ending_at dims r got) → IsStack cap (stack_of m)
    by (Conveying c) e k = absurd (cc)
    by (Stacking j y) e k = subst (λ i. IsStack i y) (cc) k.stack

  known : (r : ℕ) (x : RankState S) → slice_get rs r ≡ Some x → AgreesIn (w.cycle r) (stack_of x.node.mover) (starting_at dims r sent) (ending_at dims r got) × MarksLast (quota r) (stack_of x.node.mover) (starting_at dims r sent)
  known r x at =
      let k = w.keeps r x at in
      let e = stack_is r x at in
      elim (cases_Bool x.over) [
        | inl over ↦ cycled (quota r) (w.cycle r) x.node.mover cap _ _ e (k.over over)
        | inr on ↦ let i = agreed R (quota r) (w.cycle r) x.node.run x.node.mover cap _ _ e (k.running on).0 in (i.agrees, i.marks)
      ]

  pub step : InStep p cap slots w.cycle stack_at sent got
  step =
      record {
        links_keep = λ l low. w.ranked.links_keep l (subst (λ (ds : List ℕ). l < links ds) one low);
        few = w.ranked.grid.small;
        same_ranks = λ r low. pick r low (λ o x. x.ranks ≡ p) (λ x at.
            sym (ranks_one (stack_of x.node.mover).ranks) ∙ ap ranks (ap mover_dims (sym (stack_is r x at)) ∙ (w.ranked.each r x at).same_dims));
        same_rank = λ r low. pick r low (λ o x. x.rank ≡ r) (λ x at. ap mover_rank (sym (stack_is r x at)) ∙ (w.ranked.each r x at).same_rank);
        standing = λ r low. pick r low (λ o x. IsStack cap x) (λ x at. stands r x at);
        agree = λ r low. pick r low (λ o x. AgreesIn (w.cycle r) x (starting_at (p ∷ []) r sent) (ending_at (p ∷ []) r got)) (λ x at.
            subst (λ (ds : List ℕ). AgreesIn (w.cycle r) (stack_of x.node.mover) (starting_at ds r sent) (ending_at ds r got)) (sym one) (known r x at).0);
      }

  marks : (r : ℕ) → r < p → MarksLast (quota r) (stack_at r) (starting_at (p ∷ []) r sent)
  marks r low = pick r low (λ o x. MarksLast (quota r) x (starting_at (p ∷ []) r sent)) (λ x at.
      subst (λ (ds : List ℕ). MarksLast (quota r) (stack_of x.node.mover) (starting_at ds r sent)) (sym one) (known r x at).1)

  -- each cycle that went on did so since some rank had an item more to send
  gone_low : (r : ℕ) → r < p → (g : ℕ) → ((m : ℕ) → m < g → WentOn (stack_at r).epoch m (stack_at r) (ending_at (p ∷ []) r got)) → g ≤ total p (λ a. quota a (stack_at r).epoch)
  gone_low r low zero went = omega arith
  gone_low r low (suc m) went =
      let e : ℕ = (stack_at r).epoch in
      let s = went m (omega arith) in
      let la : s.sender < p = omega (arith, s.low, step.same_ranks r low) in
      let l : ℕ = number p s.sender r in
      let came : proceed_parcel e m (got l) ≡ Some s.parcel = ap (proceed_parcel e m) (sym (ap (ending_at (p ∷ []) r got) (from_is p cap slots w.cycle stack_at sent got step s.sender r la low) ∙ got_own p cap slots w.cycle stack_at sent got step s.sender r la low)) ∙ s.came in
      let went' : proceed_parcel e m (sent l) ≡ Some s.parcel = (law.cycles e m s.parcel (sent l) (got l) (begins p cap slots w.cycle stack_at sent got step s.sender r la low)).1 came in
      let out : proceed_parcel e m (starting_at (p ∷ []) s.sender sent (stack_link_to (stack_at s.sender) r)) ≡ Some s.parcel =
      ap (proceed_parcel e m) (ap (starting_at (p ∷ []) s.sender sent) (to_is p cap slots w.cycle stack_at sent got step s.sender r la low) ∙ sent_own p cap slots w.cycle stack_at sent got step s.sender r la low) ∙ went' in
      let few = marks s.sender la e r m s.parcel (omega (arith, low, step.same_ranks s.sender la)) out s.going in
      let part = total_part p (λ a. quota a e) s.sender la in
      omega (arith, few, part)

  pub short : (r : ℕ) → r < p → over_at r ≡ false → finished_in (w.cycle r) (stack_at r).stage < most_rounds R p starts (stack_at r).epoch
  short r low on =
      let x = rank_at r low in
      let off : x.0.over ≡ false = ap over_in (sym x.1) ∙ on in
      let k = (w.keeps r x.0 x.1).running off in
      let e = stack_is r x.0 x.1 in
      let i = agreed R (quota r) (w.cycle r) x.0.node.run x.0.node.mover cap _ _ e k.0 in
      let i' : InCycle R (quota r) (w.cycle r) x.0.node.run (stack_at r) (starting_at (p ∷ []) r sent) (ending_at (p ∷ []) r got) =
      subst (λ o. InCycle R (quota r) (w.cycle r) x.0.node.run (stack_in o) (starting_at (p ∷ []) r sent) (ending_at (p ∷ []) r got)) (sym x.1)
      (subst (λ (ds : List ℕ). InCycle R (quota r) (w.cycle r) x.0.node.run (stack_of x.0.node.mover) (starting_at ds r sent) (ending_at ds r got)) (sym one) i) in
      let going : is_all_done (stack_at r).stage ≡ false = ap (λ o. is_all_done (stack_in o).stage) x.1 ∙ between x.0.node.mover cap e k.1 in
      let a = finished_low (w.cycle r) (stack_at r).stage going in
      let b = gone_low r low (cycles_gone_on (w.cycle r) (stack_at r).stage) i'.went_on in
      omega (arith, a, b)

  pub all_stacks : AllStacks p cap slots (most_rounds R p starts) (2 * n) over_at w.cycle stack_at sent got
  all_stacks =
      record {
        step = step;
        short = short;
        within = λ r low on.
            let x = rank_at r low in
            let b = still_within R laws law dims cap slots ByExstack starts h rs sent got w.ranked plan.shape plan.most n plan.start plan.rounds r x.0 x.1 (ap over_in (sym x.1) ∙ on) in
            let e = ap (λ o. (stack_in o).epoch) x.1 in
            omega (arith, b, e, epoch_of_stack x.0.node.mover cap (stack_is r x.0 x.1));
        last = λ r low over.
            let x = rank_at r low in
            let b = (over_at_last R laws law dims cap slots ByExstack starts h rs sent got w.ranked plan.shape plan.most n plan.start plan.rounds r x.0 x.1 (ap over_in (sym x.1) ∙ over)).0 in
            let e = ap (λ o. (stack_in o).epoch) x.1 in
            omega (arith, b, e, epoch_of_stack x.0.node.mover cap (stack_is r x.0 x.1));
        ended = λ r low over.
            let x = rank_at r low in
            let t = (w.ranked.each r x.0 x.1).stopped (ap over_in (sym x.1) ∙ over) in
            ap (λ o. is_all_done (stack_in o).stage) x.1 ∙ completed x.0.node.mover cap (stack_is r x.0 x.1) t.complete;
        done = λ r low over.
            let x = rank_at r low in
            let t = (w.ranked.each r x.0 x.1).stopped (ap over_in (sym x.1) ∙ over) in
            ap (λ o. (stack_in o).done) x.1 ∙ part_done x.0.node.mover cap _ _ (stack_is r x.0 x.1) (done_of_completed x.0.node.mover _ _ t.node.moving t.complete);
      }
