-- A node goes on to the next epoch.
use Rattle.std.proofs.Common.{◌≡◌, ◌≢◌, ℕ, ◌+◌, ◌-◌, ◌^◌, ◌<◌, ◌==◌, ◌||◌, Bool, true, false, cond, List, refl, sym, subst, ◌∙◌, arith, inl, inr}
use Rattle.std.proofs.lemmas.Bool.{cases_Bool, true≢false, eq-eqb}
use Rattle.std.proofs.lemmas.Bool.Decides.{nat_tests}
use Rattle.route_tensor.specs.Grid.{ranks}
use Rattle.port_bank.specs.Logs.{Logs}
use Rattle.port_bank.specs.Machine.{after}
use Rattle.port_bank.specs.Machine.Step.{Reset}
use Rattle.hop_core.specs.declared.phase.Phase.{Phase}
use Rattle.hop_core.specs.declared.phase.Phase.TheVariants.{Dormant, Working, Endgame, Cleanup, Complete}
use Rattle.hop_core.specs.State.{State}
use Rattle.convey.specs.Buffers.{is_complete}
use Rattle.round_program.specs.Rules.{Rules}
use Rattle.round_program.specs.Laws.{Laws}
use Rattle.rank_node.specs.declared.mover.Mover.{Mover}
use Rattle.rank_node.specs.declared.mover.Mover.TheVariants as mover
use Rattle.rank_node.specs.declared.sends.Sends.{Sends}
use Rattle.rank_node.specs.declared.sends.Sends.TheVariants.{Emissions, Nothing, Votes}
use Rattle.rank_node.specs.Sending.{is_voting, epoch_of, spoiled_vote}
use Rattle.rank_node.specs.Runs.{Running, HasTaken}
use Rattle.rank_node.specs.Movers.{MoverState, mover_state, HasCap, mover_dims, mover_rank, epoch_in, part_in, has_completed, IsConveying, IsMoving, IsStarting, GoesToNextEpoch}
use Rattle.rank_node.specs.Movers.MoverState.{Conveying, Stacking}
use Rattle.rank_node.specs.Nodes.{NodeState, IsPaced, IsNode}
use Rattle.rank_node.specs.Next.{with_next}
use Rattle.rank_node.proofs.Between.{to_votes, to_work}
use Rattle.rank_node.proofs.Stacked.{done_of_all_done, not_proceeding}

-- a round's number is small where its epoch's is
pub round_few : (round : ℕ) (voting : Bool) (e : ℕ) → e ≡ epoch_of round voting → e < 2 ^ 63 → round < 2 ^ 63
round_few round true e is few = omega (arith, is, few)
round_few round false e is few = omega (arith, is, few)

-- where memory wasn't wanting anywhere, neither here nor by the sum
pub not_lost : (spoiled : Bool) (sum : ℕ) (lost : Bool) → lost ≡ (spoiled || sum == 2 ^ 64 - 1) → lost ≡ false → (spoiled ≡ false) × (sum ≢ 2 ^ 64 - 1)
not_lost true sum lost is f = absurd (true≢false (sym is ∙ f))
not_lost false sum lost is f = (refl, λ e. true≢false (sym (eq-eqb sum (2 ^ 64 - 1) e) ∙ (sym is ∙ f)))

-- where memory was wanting, the sum says so: a spoiled rank hears its own vote
pub lost_sum : (spoiled : Bool) (sum : ℕ) (lost : Bool) → lost ≡ (spoiled || sum == 2 ^ 64 - 1) → lost ≡ true → (spoiled ≡ true → sum ≡ 2 ^ 64 - 1) → sum ≡ 2 ^ 64 - 1
lost_sum true sum lost is t own = own refl
lost_sum false sum lost is t own = let s : (sum == 2 ^ 64 - 1) ≡ true = sym is ∙ t in grind (arith, nat_tests)

pub complete_is : (p : Phase) → is_complete p ≡ true → p ≡ Complete
complete_is Dormant e = absurd (cc)
complete_is Working e = absurd (cc)
complete_is Endgame e = absurd (cc)
complete_is Cleanup e = absurd (cc)
complete_is Complete e = refl

-- a rank that is complete is done
done_of_complete : (c : State) (sent got : Logs) → IsConveying c sent got → c.phase ≡ Complete → c.done ≡ true
done_of_complete c sent got is over =
    elim (cases_Bool c.done) [ inl d ↦ d | inr d ↦ absurd (apart (sym over ∙ is.working d)) ] where
      apart : Complete ≡ Working → ⊥
      apart e = absurd (cc)

pub done_of_completed : (m : MoverState) (sent got : Logs) → IsMoving m sent got → has_completed m ≡ true → (part_in m sent got).done ≡ true
done_of_completed (Conveying c) sent got is over = done_of_complete c sent got is (complete_is c.phase over)
done_of_completed (Stacking cap x) sent got is over = done_of_all_done cap x sent got is over

pub paced_start : {S : Type 0} (R : Rules S) (run : Running S) (m : MoverState) → IsStarting m → IsPaced R run m
paced_start R run (Conveying c) starts = tt
paced_start R run (Stacking cap x) starts = λ e d. absurd (not_proceeding x.stage starts e)

-- the epoch that its mover is in
pub epoch_is : {S : Type 0} {R : Rules S} {h : ℕ → S} {run : Running S} (m : MoverState) (sent got : Logs) → IsNode R h (record { run = run; mover = m }) sent got → epoch_in m ≡ epoch_of run.round (is_voting run.sends)
epoch_is (Conveying c) sent got is = is.passed.epoch
epoch_is (Stacking cap x) sent got is = is.passed.epoch

module _ {S : Type 0} (R : Rules S) (laws : Laws R) (h : ℕ → S) (n : NodeState S) (m' : MoverState) (sent got : Logs) (b : GoesToNextEpoch n.mover m') (over : has_completed n.mover ≡ true) (is : IsNode R h n sent got) where
  abbrev own : HasTaken R (ranks (mover_dims n.mover)) (mover_rank n.mover) h n.run.round n.run.sends n.run.next n.run.prog n.run.sum n.run.spoiled (part_in n.mover sent got)
  own = record { passed = is.passed; within = is.within }

  done : (part_in n.mover sent got).done ≡ true
  done = done_of_completed n.mover sent got is.moving over

  -- over the mover in its next epoch
  node_of : (h' : ℕ → S) (round : ℕ) (sends : Sends) (next : ℕ) (prog : S) (sum : ℕ) (spoiled : Bool)
      → HasTaken R (ranks (mover_dims n.mover)) (mover_rank n.mover) h' round sends next prog sum spoiled (after Reset (part_in n.mover sent got))
      → IsNode R h' (record { run = record { prog = prog; round = round; sends = sends; next = next; sum = sum; spoiled = spoiled }; mover = m' }) sent got
  node_of h' round sends next prog sum spoiled t =
      let t1 = subst (HasTaken R (ranks (mover_dims n.mover)) (mover_rank n.mover) h' round sends next prog sum spoiled) (sym (b.step sent got is.moving).is) t in
      let t2 : HasTaken R (ranks (mover_dims m')) (mover_rank m') h' round sends next prog sum spoiled (part_in m' sent got) =
      subst (λ (d : List ℕ). HasTaken R (ranks d) (mover_rank m') h' round sends next prog sum spoiled (part_in m' sent got)) (sym b.same_dims)
      (subst (λ r. HasTaken R (ranks (mover_dims n.mover)) r h' round sends next prog sum spoiled (part_in m' sent got)) (sym b.same_rank) t1) in
      record { moving = b.moving sent got is.moving; paced = paced_start R (record { prog = prog; round = round; sends = sends; next = next; sum = sum; spoiled = spoiled }) m' b.starts; passed = t2.passed; within = t2.within }

  pub node_votes : (vote q : ℕ) → is_voting n.run.sends ≡ false → q ≡ ranks (mover_dims n.mover) → vote ≡ cond n.run.spoiled spoiled_vote (R.vote n.run.prog)
      → IsNode R h (record { run = record { prog = n.run.prog; round = n.run.round; sends = Votes vote q; next = 0; sum = 0; spoiled = n.run.spoiled }; mover = m' }) sent got
  node_votes vote q work same is_vote =
      node_of h n.run.round (Votes vote q) 0 n.run.prog 0 n.run.spoiled
      (to_votes R laws (ranks (mover_dims n.mover)) (mover_rank n.mover) h n.run.round n.run.next n.run.prog n.run.sum n.run.spoiled (part_in n.mover sent got) done n.run.sends vote q work same is_vote own)

  pub node_work : (prog' : S) (lost : Bool) (sends : Sends) → n.run.sum ≢ 2 ^ 64 - 1 → n.run.round < 2 ^ 63 → R.goes_on (R.shape n.run.prog) (R.round n.run.prog) n.run.sum ≡ true
      → is_voting n.run.sends ≡ true → n.run.spoiled ≡ false → is_voting sends ≡ false → (lost ≡ false → prog' ≡ R.ended n.run.prog n.run.sum) → (sends ≡ Emissions → lost ≡ false) → (sends ≡ Nothing → lost ≡ true)
      → IsNode R (with_next h (n.run.round + 1) (R.ended n.run.prog n.run.sum)) (record { run = record { prog = prog'; round = n.run.round + 1; sends = sends; next = 0; sum = 0; spoiled = lost }; mover = m' }) sent got
  node_work prog' lost sends clean few goes votes fine work ended some none =
      node_of (with_next h (n.run.round + 1) (R.ended n.run.prog n.run.sum)) (n.run.round + 1) sends 0 prog' 0 lost
      (by n.run.sends votes (subst (λ b. HasTaken R (ranks (mover_dims n.mover)) (mover_rank n.mover) h n.run.round n.run.sends n.run.next n.run.prog n.run.sum b (part_in n.mover sent got)) fine own)) where
        by : (s : Sends) → is_voting s ≡ true → HasTaken R (ranks (mover_dims n.mover)) (mover_rank n.mover) h n.run.round s n.run.next n.run.prog n.run.sum false (part_in n.mover sent got)
            → HasTaken R (ranks (mover_dims n.mover)) (mover_rank n.mover) (with_next h (n.run.round + 1) (R.ended n.run.prog n.run.sum)) (n.run.round + 1) sends 0 prog' 0 lost (after Reset (part_in n.mover sent got))
        by Emissions v t = absurd (true≢false (sym v))
        by Nothing v t = absurd (true≢false (sym v))
        by (Votes v q) e t = to_work R laws (ranks (mover_dims n.mover)) (mover_rank n.mover) h n.run.round n.run.next n.run.prog prog' n.run.sum lost sends (part_in n.mover sent got) v q done clean few goes work ended some none t

-- a mover has the capacity of its type
pub seen_cap : {cap hops : ℕ} (m : Mover cap hops) → HasCap cap (mover_state m)
seen_cap (mover.Convey c) = tt
seen_cap (mover.Exstack x) = refl
