-- The ranks of a drive are within the canonical run, at every moment.
use Rattle.std.proofs.Common.{◌≡◌, ℕ, ◌+◌, ◌-◌, ◌*◌, ◌^◌, ◌<◌, ◌≤◌, Bool, true, false, cond, min, List, [], ◌∷◌, Option, Some, None, slice_get, refl, sym, ap, subst, ◌∙◌, arith, inl, inr}
use Rattle.std.proofs.lemmas.Bool.{cases_Bool, cases_lt, both_ways, true≢false}
use Rattle.list_laws.proofs.Lists.{find, within}
use Rattle.route_tensor.specs.Grid.{ranks}
use Rattle.port_bank.specs.Logs.{Logs, starting_at, ending_at}
use Rattle.route_tensor.specs.Link.{links}
use Rattle.port_bank.specs.Machine.{Part, completed_of, done_of, EpochsClose}
use Rattle.port_bank.specs.Machine.{Ranks}
use Rattle.list_laws.specs.Lists.{IsPrefix}
use Rattle.route_tensor.proofs.Coordinates.{ranks_some}
use Rattle.hop_core.specs.State.{State}
use Rattle.convey.specs.Buffers.{buffers_of}
use Rattle.convey.specs.Law as conveyors
use Rattle.exstack.specs.State.{Stack}
use Rattle.exstack.specs.State.{new_stack}
use Rattle.exstack.specs.Agreement.{StackAgrees}
use Rattle.exstack.specs.Law as exstacks
use Rattle.exstack.specs.Parts as exstack_parts
use Rattle.exstack.proofs.OneHop.{ranks_one}
use Rattle.rank_group.specs.Closes.{ClosesLaws}
use Rattle.round_program.specs.Rules.{Rules}
use Rattle.round_program.specs.Laws.{Laws, SameRound}
use Rattle.round_program.proofs.Orders.{pulls_same}
use Rattle.round_program.specs.Canonical.{HasRounds, InRound, states_at, votes_at, shape_of}
use Rattle.round_program.specs.Epochs.{PairLists, heard, after_work, Own, Closes, IsCanonical}
use Rattle.round_program.proofs.Epochs.{every_run}
use Rattle.round_program.proofs.Members.{in_round_at, shape_is}
use Rattle.round_program.proofs.Steps.{own_work_done, own_vote_done}
use Rattle.rank_node.specs.declared.sends.Sends.{Sends}
use Rattle.rank_node.specs.declared.sends.Sends.TheVariants.{Emissions, Nothing, Votes}
use Rattle.rank_node.specs.Sending.{is_voting, epoch_of}
use Rattle.rank_node.specs.Runs.{part_lists, from_round, HasTaken}
use Rattle.rank_node.specs.Movers.{MoverState, Manner, mover_dims, mover_rank, epoch_in, manner_in, part_in, HasCap, IsConveying, IsStacking, IsMoving}
use Rattle.rank_node.specs.Movers.MoverState.{Conveying, Stacking}
use Rattle.rank_node.specs.Movers.Manner.{ByConveyor, ByExstack}
use Rattle.rank_node.specs.Nodes.{IsNode}
use Rattle.rank_node.specs.Next.{with_next, HasStopped}
use Rattle.rank_group.specs.Ranks.{RankState, HasRank, AllRanks, progress}
use Rattle.rank_node.proofs.Between.{voted, own_ended, extended_before, extended_at}
use Rattle.rank_node.proofs.Onward.{done_of_completed, epoch_is}
use Rattle.rank_group.proofs.FirstRound.{round_first, own_first}
use Rattle.rank_group.proofs.Movers.{part_epoch, part_complete}
use Rattle.rank_group.specs.RanksOverBank.{no_conveyor, mover_in, progress_in, history_in, part_at}

-- a rank is done with no more epochs than its rounds have
done_few : (v : Bool) (round : ℕ) (part : Part) → part.epoch ≡ epoch_of round v → round ≤ 2 ^ 63 → done_of part ≤ 2 ^ 64 + 2
done_few v round part e few = by v part.done e where
  by : (v d : Bool) → part.epoch ≡ epoch_of round v → cond d (part.epoch + 1) part.epoch ≤ 2 ^ 64 + 2
  by true true e = omega (arith, e, few)
  by true false e = omega (arith, e, few)
  by false true e = omega (arith, e, few)
  by false false e = omega (arith, e, few)

-- what a rank knows of itself, within an epoch
pub own_now : {S : Type 0} (R : Rules S) → Laws R → (p rank : ℕ) (h : ℕ → S) (round : ℕ) (sends : Sends) (next : ℕ) (prog : S) (sum : ℕ) (spoiled : Bool) (part : Part)
    → HasTaken R p rank h round sends next prog sum spoiled part → Own (from_round (R.round (h 0)) R) p part.epoch (done_of part) h (part_lists part)
own_now {S} R laws p rank h round sends next prog sum spoiled part is = by part.done refl where
  R' : Rules S
  R' = from_round (R.round (h 0)) R

  at : (s : Sends) → part.done ≡ true → HasTaken R p rank h round s next prog sum spoiled part → Own R' p part.epoch (part.epoch + 1) h (part_lists part)
  at Emissions d t = let e : part.epoch ≡ 2 * round = t.passed.epoch in
      subst (λ k. Own R' p k (k + 1) h (part_lists part)) (sym e) (own_work_done R' p round h (part_lists part) t.passed.goes (subst (λ k. Own R' p k k h (part_lists part)) e t.passed.own))
  at Nothing d t = let e : part.epoch ≡ 2 * round = t.passed.epoch in
      subst (λ k. Own R' p k (k + 1) h (part_lists part)) (sym e) (own_work_done R' p round h (part_lists part) t.passed.goes (subst (λ k. Own R' p k k h (part_lists part)) e t.passed.own))
  at (Votes v q) d t = let e : part.epoch ≡ 2 * round + 1 = t.passed.epoch in
      let two : 2 * round + 2 ≡ part.epoch + 1 = omega (arith, e) in
      subst (λ k. Own R' p part.epoch k h (part_lists part)) two
      (subst (λ k. Own R' p k (2 * round + 2) h (part_lists part)) (sym e)
      (own_vote_done R' p round h (part_lists part) (voted R laws p rank h round next prog sum spoiled part d v q t) (subst (λ k. Own R' p k k h (part_lists part)) e t.passed.own)))

  by : (b : Bool) → part.done ≡ b → Own R' p part.epoch (done_of part) h (part_lists part)
  by true d = subst (λ k. Own R' p part.epoch k h (part_lists part)) (sym (ap (λ b. cond b (part.epoch + 1) part.epoch) d)) (at sends d is)
  by false d = subst (λ k. Own R' p part.epoch k h (part_lists part)) (sym (ap (λ b. cond b (part.epoch + 1) part.epoch) d)) is.passed.own

-- the node of a rank as it was before its run ended
pub record Core {S : Type 0} (R : Rules S) (dims : List ℕ) (r : ℕ) (h : ℕ → S) (n : RankState S) (sent got : Logs) : Type 0 where
  pub prog : S
  pub is : IsNode R h (record { run = record n.node.run { prog = prog }; mover = n.node.mover }) (starting_at dims r sent) (ending_at dims r got)

pub core : {S : Type 0} (R : Rules S) (dims : List ℕ) (cap : ℕ) (manner : Manner) (r : ℕ) (h : ℕ → S) (n : RankState S) (sent got : Logs) → HasRank R dims cap manner r h n sent got → Core R dims r h n sent got
core R dims cap manner r h n sent got is =
    elim (cases_Bool n.over) [
      | inl over ↦ let s = is.stopped over in record { prog = s.worked; is = s.node }
      | inr on ↦ record { prog = n.node.run.prog; is = is.runs on }
    ]

-- what a rank knows of itself
module _ {S : Type 0} (R : Rules S) (laws : Laws R) (dims : List ℕ) (cap : ℕ) (manner : Manner) (r : ℕ) (h : ℕ → S) (n : RankState S) (sent got : Logs) (is : HasRank R dims cap manner r h n sent got) where
  abbrev m : MoverState
  m = n.node.mover

  abbrev part : Part
  part = part_in m (starting_at dims r sent) (ending_at dims r got)

  abbrev at_first : (ℕ → S) → Rules S
  at_first g = from_round (R.round (g 0)) R

  epoch_here : part.epoch ≡ epoch_in m
  epoch_here = part_epoch m (starting_at dims r sent) (ending_at dims r got)

  stopped : HasStopped R h n.node (starting_at dims r sent) (ending_at dims r got) → (s : Sends) → n.node.run.sends ≡ s → is_voting s ≡ true
      → Own (at_first (with_next h (n.node.run.round + 1) n.node.run.prog)) (ranks dims) (epoch_in m + 1) (done_of part) (with_next h (n.node.run.round + 1) n.node.run.prog) (part_lists part)
  stopped t Emissions e v = absurd (true≢false (sym v))
  stopped t Nothing e v = absurd (true≢false (sym v))
  stopped t (Votes v q) e vote =
      let done : part.done ≡ true = done_of_completed m _ _ t.node.moving t.complete in
      let p : ℕ = ranks (mover_dims m) in
      let own : HasTaken R p (mover_rank m) h n.node.run.round n.node.run.sends n.node.run.next t.worked n.node.run.sum n.node.run.spoiled part = record { passed = t.node.passed; within = t.node.within } in
      let own1 : HasTaken R p (mover_rank m) h n.node.run.round (Votes v q) n.node.run.next t.worked n.node.run.sum false part =
      subst (λ b. HasTaken R p (mover_rank m) h n.node.run.round (Votes v q) n.node.run.next t.worked n.node.run.sum b part) t.unspoiled
      (subst (λ x. HasTaken R p (mover_rank m) h n.node.run.round x n.node.run.next t.worked n.node.run.sum n.node.run.spoiled part) e own) in
      let o = own_ended R laws p (mover_rank m) h n.node.run.round n.node.run.next t.worked n.node.run.sum part v q done t.clean own1 in
      let here : part.epoch ≡ 2 * n.node.run.round + 1 = own1.passed.epoch in
      let two : 2 * n.node.run.round + 2 ≡ epoch_in m + 1 = omega (arith, here, epoch_here) in
      let d : done_of part ≡ epoch_in m + 1 = ap (λ b. cond b (part.epoch + 1) part.epoch) done ∙ ap (λ e. e + 1) epoch_here in
      subst (λ k. Own (at_first (with_next h (n.node.run.round + 1) n.node.run.prog)) (ranks dims) (epoch_in m + 1) k (with_next h (n.node.run.round + 1) n.node.run.prog) (part_lists part)) (sym d)
      (subst (λ k. Own (at_first (with_next h (n.node.run.round + 1) n.node.run.prog)) (ranks dims) k k (with_next h (n.node.run.round + 1) n.node.run.prog) (part_lists part)) two
      (subst (λ x. Own (at_first (with_next h (n.node.run.round + 1) x)) (ranks dims) (2 * n.node.run.round + 2) (2 * n.node.run.round + 2) (with_next h (n.node.run.round + 1) x) (part_lists part)) (sym t.ended)
      (subst (λ (ds : List ℕ). Own (at_first (with_next h (n.node.run.round + 1) (R.ended t.worked n.node.run.sum))) (ranks ds) (2 * n.node.run.round + 2) (2 * n.node.run.round + 2) (with_next h (n.node.run.round + 1) (R.ended t.worked n.node.run.sum)) (part_lists part)) is.same_dims o)))

  own_by : (b : Bool) → n.over ≡ b → Own (at_first (history_in h (Some n))) (ranks dims) (progress n) (done_of part) (history_in h (Some n)) (part_lists part)
  own_by true over =
      subst (λ b. Own (at_first (cond b (with_next h (n.node.run.round + 1) n.node.run.prog) h)) (ranks dims) (cond b (epoch_in m + 1) (epoch_in m)) (done_of part) (cond b (with_next h (n.node.run.round + 1) n.node.run.prog) h) (part_lists part)) (sym over)
      (stopped (is.stopped over) n.node.run.sends refl (is.stopped over).voting)
  own_by false on =
      let i = is.runs on in
      subst (λ b. Own (at_first (cond b (with_next h (n.node.run.round + 1) n.node.run.prog) h)) (ranks dims) (cond b (epoch_in m + 1) (epoch_in m)) (done_of part) (cond b (with_next h (n.node.run.round + 1) n.node.run.prog) h) (part_lists part)) (sym on)
      (subst (λ k. Own (at_first h) (ranks dims) k (done_of part) h (part_lists part)) epoch_here
      (subst (λ (ds : List ℕ). Own (at_first h) (ranks ds) part.epoch (done_of part) h (part_lists part)) is.same_dims
      (own_now R laws (ranks (mover_dims m)) (mover_rank m) h n.node.run.round n.node.run.sends n.node.run.next n.node.run.prog n.node.run.sum n.node.run.spoiled part (record { passed = i.passed; within = i.within }))))

  pub own_in : Own (from_round (R.round (history_in h (Some n) 0)) R) (ranks dims) (progress n) (done_of (part_in n.node.mover (starting_at dims r sent) (ending_at dims r got))) (history_in h (Some n)) (part_lists (part_in n.node.mover (starting_at dims r sent) (ending_at dims r got)))
  own_in = own_by n.over refl

  -- and is done with few epochs
  pub done_in : done_of (part_in n.node.mover (starting_at dims r sent) (ending_at dims r got)) ≤ 2 ^ 64 + 2
  done_in =
      let c = core R dims cap manner r h n sent got is in
      done_few (is_voting n.node.run.sends) n.node.run.round (part_in n.node.mover (starting_at dims r sent) (ending_at dims r got)) c.is.passed.epoch c.is.passed.few

-- epochs close together by what holds of the parts of so many ranks
alike_close : (p : ℕ) (f g : Ranks) → ((r : ℕ) → r < p → f r ≡ g r) → EpochsClose p f → EpochsClose p g
alike_close p f g same c =
    record {
      begins = λ r s e lr ls. subst (λ (x : Part). IsPrefix (x.pulled e s) ((g s).pushed e r)) (same r lr) (subst (λ (y : Part). IsPrefix ((f r).pulled e s) (y.pushed e r)) (same s ls) (c.begins r s e lr ls));
      all_done = λ r s lr ls. subst (λ (x : Part). completed_of x ≤ done_of (g s)) (same r lr) (subst (λ (y : Part). completed_of (f r) ≤ done_of y) (same s ls) (c.all_done r s lr ls));
      whole = λ r s e lr ls low. subst (λ (x : Part). x.pulled e s ≡ (g s).pushed e r) (same r lr) (subst (λ (y : Part). (f r).pulled e s ≡ y.pushed e r) (same s ls)
          (c.whole r s e lr ls (subst (λ (x : Part). e < completed_of x) (sym (same r lr)) low)));
    }

-- the conveyor, or the exstack, of a rank that has one
abbrev conveyor_of : MoverState → State
conveyor_of (Conveying c) = c
conveyor_of (Stacking cap x) = no_conveyor

pub no_stack : Stack
no_stack = new_stack 0 0

abbrev pub stack_of : MoverState → Stack
stack_of (Conveying c) = no_stack
stack_of (Stacking cap x) = x

is_conveying : (m : MoverState) (steady : Bool) → manner_in m ≡ ByConveyor steady → m ≡ Conveying (conveyor_of m)
is_conveying (Conveying c) steady e = refl
is_conveying (Stacking cap x) steady e = absurd (cc)

pub is_stacking : (m : MoverState) (cap : ℕ) → manner_in m ≡ ByExstack → HasCap cap m → m ≡ Stacking cap (stack_of m)
is_stacking (Conveying c) cap e k = absurd (cc)
is_stacking (Stacking k x) cap e same = ap (λ j. Stacking j x) same

module _ {S : Type 0} (R : Rules S) (laws : Laws R) (law : ClosesLaws) (dims : List ℕ) (cap slots : ℕ) (manner : Manner) (starts : List S) (h : ℕ → ℕ → S) (rs : List (RankState S)) (sent got : Logs) (w : AllRanks R dims cap slots manner starts h rs sent got) where
  abbrev mover_at : ℕ → MoverState
  mover_at r = mover_in (slice_get rs r)

  rank_at : (r : ℕ) → r < ranks dims → (n : RankState S) × (slice_get rs r ≡ Some n)
  rank_at r low = find rs r (omega (arith, low, w.all))

  by : (r : ℕ) → r < ranks dims → (P : MoverState → Type 0) → ((n : RankState S) → HasRank R dims cap manner r (h r) n sent got → P n.node.mover) → P (mover_at r)
  by r low P f = let n = rank_at r low in subst (λ o. P (mover_in o)) (sym n.1) (f n.0 (w.each r n.0 n.1))

  agree_at : (r : ℕ) → r < ranks dims → IsMoving (mover_at r) (starting_at dims r sent) (ending_at dims r got)
  agree_at r low = by r low (λ m. IsMoving m (starting_at dims r sent) (ending_at dims r got)) (λ n is. (core R dims cap manner r (h r) n sent got is).is.moving)

  -- over conveyors
  conveyor_closes : (steady : Bool) → manner ≡ ByConveyor steady → EpochsClose (ranks dims) (part_at dims rs sent got)
  conveyor_closes steady e =
      alike_close (ranks dims) (conveyors.state_of dims (λ r. buffers_of (conveyor_of (mover_at r))) sent got) (part_at dims rs sent got)
      (λ r low. ap (λ m. part_in m (starting_at dims r sent) (ending_at dims r got)) (sym (is r low)))
      (law.conveyors dims cap slots (λ r. buffers_of (conveyor_of (mover_at r))) sent got
      (record {
        grid = w.grid;
        links_keep = w.links_keep;
        same_dims = λ r low. ap mover_dims (sym (is r low)) ∙ by r low (λ m. mover_dims m ≡ dims) (λ n k. k.same_dims);
        same_rank = λ r low. ap mover_rank (sym (is r low)) ∙ by r low (λ m. mover_rank m ≡ r) (λ n k. k.same_rank);
        sound = λ r low. (moving r low).sound;
        agree = λ r low. (moving r low).agrees;
      })) where
        is : (r : ℕ) → r < ranks dims → mover_at r ≡ Conveying (conveyor_of (mover_at r))
        is r low = is_conveying (mover_at r) steady (by r low (λ m. manner_in m ≡ manner) (λ n k. k.same_manner) ∙ e)

        moving : (r : ℕ) → r < ranks dims → IsConveying (conveyor_of (mover_at r)) (starting_at dims r sent) (ending_at dims r got)
        moving r low = subst (λ m. IsMoving m (starting_at dims r sent) (ending_at dims r got)) (is r low) (agree_at r low)

  -- over exstacks
  stack_closes : manner ≡ ByExstack → EpochsClose (ranks dims) (part_at dims rs sent got)
  stack_closes e =
      alike_close (ranks dims) (exstacks.stacks_state (ranks dims) (λ r. stack_of (mover_at r)) sent got) (part_at dims rs sent got)
      (λ r low. ap (λ (ds : List ℕ). exstack_parts.stack_part (stack_of (mover_at r)) (starting_at ds r sent) (ending_at ds r got)) one ∙ ap (λ m. part_in m (starting_at dims r sent) (ending_at dims r got)) (sym (is r low)))
      (law.exstacks (ranks dims) cap slots (λ r. stack_of (mover_at r)) sent got
      (record {
        few = w.grid.small;
        links_keep = λ l low. w.links_keep l (subst (λ (ds : List ℕ). l < links ds) one low);
        same_ranks = λ r low. sym (ranks_one (stack_of (mover_at r)).ranks) ∙ ap ranks (ap mover_dims (sym (is r low)) ∙ by r low (λ m. mover_dims m ≡ dims) (λ n k. k.same_dims));
        same_rank = λ r low. ap mover_rank (sym (is r low)) ∙ by r low (λ m. mover_rank m ≡ r) (λ n k. k.same_rank);
        standing = λ r low. (moving r low).stack;
        agree = λ r low. subst (λ (ds : List ℕ). StackAgrees (stack_of (mover_at r)) (starting_at ds r sent) (ending_at ds r got)) (sym one) (moving r low).agrees;
      })) where
        is : (r : ℕ) → r < ranks dims → mover_at r ≡ Stacking cap (stack_of (mover_at r))
        is r low = is_stacking (mover_at r) cap (by r low (λ m. manner_in m ≡ manner) (λ n k. k.same_manner) ∙ e) (by r low (HasCap cap) (λ n k. k.same_cap))

        moving : (r : ℕ) → r < ranks dims → IsStacking cap (stack_of (mover_at r)) (starting_at dims r sent) (ending_at dims r got)
        moving r low = subst (λ m. IsMoving m (starting_at dims r sent) (ending_at dims r got)) (is r low) (agree_at r low)

        one : ranks dims ∷ [] ≡ dims
        one =
            let low : 0 < ranks dims = ranks_some dims w.grid.positive in
            let same : mover_dims (Stacking cap (stack_of (mover_at 0))) ≡ dims = ap mover_dims (sym (is 0 low)) ∙ by 0 low (λ m. mover_dims m ≡ dims) (λ n k. k.same_dims) in
            ap (λ (ds : List ℕ). ranks ds ∷ []) (sym same) ∙ (ap (λ n. n ∷ []) (ranks_one (stack_of (mover_at 0)).ranks) ∙ same)

  pub closes : EpochsClose (ranks dims) (part_at dims rs sent got)
  closes = pick manner refl where
    pick : (k : Manner) → manner ≡ k → EpochsClose (ranks dims) (part_at dims rs sent got)
    pick (ByConveyor steady) e = conveyor_closes steady e
    pick ByExstack e = stack_closes e

  abbrev completed : ℕ → ℕ
  completed r = progress_in (slice_get rs r)

  abbrev lists : ℕ → PairLists
  lists r = part_lists (part_at dims rs sent got r)

  abbrev history : ℕ → ℕ → S
  history r = history_in (h r) (slice_get rs r)

  own_at : (r : ℕ) → r < ranks dims → Own (from_round (R.round (history r 0)) R) (ranks dims) (completed r) (done_of (part_at dims rs sent got r)) (history r) (lists r)
  own_at r low =
      let n = rank_at r low in
      subst (λ o. Own (from_round (R.round (history_in (h r) o 0)) R) (ranks dims) (progress_in o) (done_of (part_in (mover_in o) (starting_at dims r sent) (ending_at dims r got))) (history_in (h r) o) (part_lists (part_in (mover_in o) (starting_at dims r sent) (ending_at dims r got)))) (sym n.1)
      (own_in R laws dims cap manner r (h r) n.0 sent got (w.each r n.0 n.1))

  done_at : (r : ℕ) → r < ranks dims → done_of (part_at dims rs sent got r) ≤ 2 ^ 64 + 2
  done_at r low =
      let n = rank_at r low in
      subst (λ o. done_of (part_in (mover_in o) (starting_at dims r sent) (ending_at dims r got)) ≤ 2 ^ 64 + 2) (sym n.1)
      (done_in R laws dims cap manner r (h r) n.0 sent got (w.each r n.0 n.1))

  -- no more epochs are completed than the conveyors tell
  completed_low : (r : ℕ) → r < ranks dims → completed r ≤ completed_of (part_at dims rs sent got r)
  completed_low r low =
      let n = rank_at r low in
      subst (λ o. progress_in o ≤ completed_of (part_in (mover_in o) (starting_at dims r sent) (ending_at dims r got))) (sym n.1) (by n.0 (w.each r n.0 n.1) n.0.over refl) where
        by : (n : RankState S) → HasRank R dims cap manner r (h r) n sent got → (b : Bool) → n.over ≡ b → progress n ≤ completed_of (part_in n.node.mover (starting_at dims r sent) (ending_at dims r got))
        by n is true over =
            let m : MoverState = n.node.mover in
            let part : Part = part_in m (starting_at dims r sent) (ending_at dims r got) in
            let e : part.epoch ≡ epoch_in m = part_epoch m _ _ in
            let c : part.complete ≡ true = part_complete m _ _ ∙ (is.stopped over).complete in
            let a : progress n ≡ epoch_in m + 1 = ap (λ b. cond b (epoch_in m + 1) (epoch_in m)) over in
            let b : completed_of part ≡ part.epoch + 1 = ap (λ b. cond b (part.epoch + 1) part.epoch) c in
            omega (arith, a, b, e)
        by n is false on =
            let m : MoverState = n.node.mover in
            let part : Part = part_in m (starting_at dims r sent) (ending_at dims r got) in
            let e : part.epoch ≡ epoch_in m = part_epoch m _ _ in
            let a : progress n ≡ epoch_in m = ap (λ b. cond b (epoch_in m + 1) (epoch_in m)) on in
            elim (cases_Bool part.complete) [
              | inl c ↦ let b : completed_of part ≡ part.epoch + 1 = ap (λ b. cond b (part.epoch + 1) part.epoch) c in omega (arith, a, b, e)
              | inr c ↦ let b : completed_of part ≡ part.epoch = ap (λ b. cond b (part.epoch + 1) part.epoch) c in omega (arith, a, b, e)
            ]

  closed : Closes (ranks dims) completed (λ r. done_of (part_at dims rs sent got r)) lists
  closed =
      record {
        all_done = λ r f lr lf. let a = closes.all_done r f lr lf in let b = completed_low r lr in omega (arith, a, b);
        whole = λ r f e lr lf c. let b = completed_low r lr in closes.whole r f e lr lf (omega (arith, b, c));
      }

  begins_at : (r : ℕ) (s : S) → slice_get starts r ≡ Some s → history r 0 ≡ s
  begins_at r s at = by (slice_get rs r) ∙ w.begins r s at where
    by : (o : Option (RankState S)) → history_in (h r) o 0 ≡ h r 0
    by None = refl
    by (Some n) = elim (cases_Bool n.over) [
      | inl over ↦ ap (λ b. cond b (with_next (h r) (n.node.run.round + 1) n.node.run.prog) (h r) 0) over ∙ extended_before (h r) (n.node.run.round + 1) n.node.run.prog 0 (λ q. omega (arith, q))
      | inr on ↦ ap (λ b. cond b (with_next (h r) (n.node.run.round + 1) n.node.run.prog) (h r) 0) on
    ]

  -- the programs begin in round 0
  first_at : (shape : List ℕ) (most : ℕ) → InRound R (ranks dims) 0 shape most starts → (r : ℕ) → r < ranks dims → R.round (history r 0) ≡ 0
  first_at shape most start r low =
      let s : (s : S) × (slice_get starts r ≡ Some s) = find starts r (subst (λ k. r < k) (sym start.size) low) in
      ap R.round (begins_at r s.0 s.1) ∙ (start.each r s.0 s.1).same_round

  -- so the ranks are within the canonical run
  pub canonical : (shape : List ℕ) (most : ℕ) → InRound R (ranks dims) 0 shape most starts → IsCanonical R (ranks dims) starts completed history lists
  canonical shape most start = every_run R laws (ranks dims) shape most starts completed (λ r. done_of (part_at dims rs sent got r)) history lists start begins_at own closed where
    own : (r : ℕ) → r < ranks dims → Own R (ranks dims) (completed r) (done_of (part_at dims rs sent got r)) (history r) (lists r)
    own r low = own_first R (ranks dims) (completed r) (done_of (part_at dims rs sent got r)) (history r) (lists r) (first_at shape most start r low) (done_at r low) (own_at r low)

  -- no rank goes past the last round, and one whose run is over has ended it
  module _ (shape : List ℕ) (most n : ℕ) (start : InRound R (ranks dims) 0 shape most starts) (rounds : HasRounds R starts n) where
    run : IsCanonical R (ranks dims) starts completed history lists
    run = canonical shape most start

    -- the shape of a rank's state as a round began
    shape_at : (m r : ℕ) → r < ranks dims → 2 * m ≤ completed r → R.shape (history r m) ≡ shape_of R starts
    shape_at m r low c =
        let all : InRound R (ranks dims) (min m (2 ^ 64 - 1)) shape most (states_at R starts m) = in_round_at R laws (ranks dims) shape most starts m start in
        (all.each r (history r m) (run.states r m low c)).same_shape ∙ sym (shape_is R (ranks dims) 0 shape most starts (omega (arith, low)) start)

    -- as its program began
    first_of : (r : ℕ) → r < ranks dims → R.round (h r 0) ≡ 0
    first_of r low =
        let s : (s : S) × (slice_get starts r ≡ Some s) = find starts r (subst (λ k. r < k) (sym start.size) low) in
        ap R.round (w.begins r s.0 s.1) ∙ (start.each r s.0 s.1).same_round

    -- a rank whose run goes on hasn't completed the last round
    pub still_within : (r : ℕ) (x : RankState S) → slice_get rs r ≡ Some x → x.over ≡ false → epoch_in x.node.mover < 2 * n
    still_within r x at on =
        let low : r < ranks dims = omega (arith, within rs r x at, w.all) in
        let here : completed r ≡ epoch_in x.node.mover = ap progress_in at ∙ ap (λ b. cond b (epoch_in x.node.mover + 1) (epoch_in x.node.mover)) on in
        let high : completed r ≤ 2 * n = run.bounded n r rounds low in
        let some : 0 < n = rounds.some in
        elim (cases_lt (epoch_in x.node.mover) (2 * n)) [
          | inl b ↦ b
          | inr past ↦
              let e : epoch_in x.node.mover ≡ 2 * n = omega (arith, past, here, high) in
              let i = (w.each r x at).runs on in
              let full : completed r ≡ 2 * n = here ∙ e in
              let d : mover_dims x.node.mover ≡ dims = (w.each r x at).same_dims in
              let last : n - 1 + 1 ≡ x.node.run.round = round_is (is_voting x.node.run.sends) x.node.run.round (epoch_is x.node.mover _ _ i) e some in
              let hist : history r (n - 1) ≡ h r (n - 1) = ap (λ o. history_in (h r) o (n - 1)) at ∙ ap (λ b. cond b (with_next (h r) (x.node.run.round + 1) x.node.run.prog) (h r) (n - 1)) on in
              let own : PairLists = part_lists (part_in x.node.mover (starting_at dims r sent) (ending_at dims r got)) in
              let same : lists r ≡ own = ap (λ o. part_lists (part_in (mover_in o) (starting_at dims r sent) (ending_at dims r got))) at in
              let few : x.node.run.round ≤ 2 ^ 63 = i.passed.few in
              let goes : R.goes_on (R.shape (h r (n - 1))) (n - 1) (heard (ranks (mover_dims x.node.mover)) own (n - 1)) ≡ true =
              ap (λ k. R.goes_on (R.shape (h r (n - 1))) k (heard (ranks (mover_dims x.node.mover)) own (n - 1))) (sym (round_first (R.round (h r 0)) (n - 1) (first_of r low) (omega (arith, last, few)))) ∙ i.passed.goes (n - 1) last in
              let sums : heard (ranks dims) (lists r) (n - 1) ≡ votes_at R starts (n - 1) = run.sums r (n - 1) low (omega (arith, full, some)) in
              let sums' : heard (ranks (mover_dims x.node.mover)) own (n - 1) ≡ votes_at R starts (n - 1) =
              ap (λ ds. heard (ranks ds) own (n - 1)) d ∙ (ap (λ l. heard (ranks dims) l (n - 1)) (sym same) ∙ sums) in
              let shapes : R.shape (h r (n - 1)) ≡ shape_of R starts = ap R.shape (sym hist) ∙ shape_at (n - 1) r low (omega (arith, full, some)) in
              absurd (both_ways (R.goes_on (shape_of R starts) (n - 1) (votes_at R starts (n - 1))) rounds.stops
              (ap (λ k. R.goes_on (shape_of R starts) (n - 1) k) (sym sums') ∙ (ap (λ a. R.goes_on a (n - 1) (heard (ranks (mover_dims x.node.mover)) own (n - 1))) (sym shapes) ∙ goes)))
        ] where
          round_is : (v : Bool) (m : ℕ) {e : ℕ} → e ≡ epoch_of m v → e ≡ 2 * n → 0 < n → n - 1 + 1 ≡ m
          round_is true m is e some = absurd (omega (arith, is, e))
          round_is false m is e some = omega (arith, is, e, some)

    -- a rank whose run is over is in the last epoch, with the state in which the run ends
    pub over_at_last : (r : ℕ) (x : RankState S) → slice_get rs r ≡ Some x → x.over ≡ true → (epoch_in x.node.mover + 1 ≡ 2 * n) × (slice_get (states_at R starts n) r ≡ Some x.node.run.prog)
    over_at_last r x at over =
        let low : r < ranks dims = omega (arith, within rs r x at, w.all) in
        let t = (w.each r x at).stopped over in
        let i = t.node in
        let few : x.node.run.round ≤ 2 ^ 63 = i.passed.few in
        let d : mover_dims x.node.mover ≡ dims = (w.each r x at).same_dims in
        let m : ℕ = x.node.run.round in
        let e : epoch_in x.node.mover ≡ 2 * m + 1 = epoch_is x.node.mover _ _ i ∙ ap (epoch_of m) t.voting in
        let here : completed r ≡ epoch_in x.node.mover + 1 = ap progress_in at ∙ ap (λ b. cond b (epoch_in x.node.mover + 1) (epoch_in x.node.mover)) over in
        let full : completed r ≡ 2 * m + 2 = omega (arith, here, e) in
        let own : PairLists = part_lists (part_in x.node.mover (starting_at dims r sent) (ending_at dims r got)) in
        let same : lists r ≡ own = ap (λ o. part_lists (part_in (mover_in o) (starting_at dims r sent) (ending_at dims r got))) at in
        let hist : (k : ℕ) → history r k ≡ with_next (h r) (m + 1) x.node.run.prog k = λ k. ap (λ o. history_in (h r) o k) at ∙ ap (λ b. cond b (with_next (h r) (m + 1) x.node.run.prog) (h r) k) over in
        let worked' : t.worked ≡ after_work R (ranks (mover_dims x.node.mover)) (h r) own m = i.within.works t.unspoiled in
        let alike : SameRound R (h r m) t.worked = subst (SameRound R (h r m)) (sym worked') (pulls_same R laws (h r m) (own.pulled (2 * m)) (ranks (mover_dims x.node.mover)) i.passed.valid) in
        let at_m : history r m ≡ h r m = hist m ∙ extended_before (h r) (m + 1) x.node.run.prog m (λ q. omega (arith, q)) in
        let sums : x.node.run.sum ≡ heard (ranks dims) (lists r) m = i.within.hears t.voting ∙ (ap (λ ds. heard (ranks ds) own m) d ∙ ap (λ l. heard (ranks dims) l m) (sym same)) in
        let stops : R.goes_on (R.shape (history r m)) m (heard (ranks dims) (lists r) m) ≡ false =
        ap (λ s. R.goes_on (R.shape s) m (heard (ranks dims) (lists r) m)) at_m ∙ (ap (λ a. R.goes_on a m (heard (ranks dims) (lists r) m)) (sym alike.shape)
        ∙ (ap (λ k. R.goes_on (R.shape t.worked) k (heard (ranks dims) (lists r) m)) (sym (alike.round ∙ (i.passed.own_round ∙ round_first (R.round (h r 0)) m (first_of r low) (omega (arith, few))))) ∙ (ap (R.goes_on (R.shape t.worked) (R.round t.worked)) (sym sums) ∙ t.stops))) in
        let last : m + 1 ≡ n = run.stopped n r m rounds low (omega (arith, full)) stops in
        let state : slice_get (states_at R starts n) r ≡ Some (history r n) = run.states r n low (omega (arith, full, last)) in
        (omega (arith, e, last), state ∙ ap Some (hist n ∙ (ap (with_next (h r) (m + 1) x.node.run.prog) (sym last) ∙ extended_at (h r) (m + 1) x.node.run.prog)))
