-- A rank over an exstack goes on in its cycles by a turn.
use Rattle.std.proofs.Common.{◌≡◌, ℕ, ◌+◌, ◌<◌, ◌≤◌, ◌==◌, true, false, cond, List, [], ◌∷◌, length, sym, ap, subst, ◌∙◌, arith, inl, inr}
use Rattle.std.proofs.lemmas.Bool.{cases_Bool, true≢false, eq-eqb, ne_eqb}
use Rattle.port_bank.specs.Logs.{Logs, lasts, starting_at, ending_at, lasts_in}
use Rattle.exstack.specs.Links.{no_stack_in}
use Rattle.exstack.specs.State.{Stack, number, stack_in_at}
use Rattle.exstack.specs.State.{is_all_done}
use Rattle.exstack.specs.Agreement.{AgreesIn}
use Rattle.exstack.specs.Standing.{IsStack}
use Rattle.round_program.specs.Rules.{Rules}
use Rattle.rank_node.specs.Runs.{Running}
use Rattle.rank_node.specs.Sending.{to_send}
use Rattle.rank_node.specs.Movers.{MoverState, Manner, mover_dims, mover_rank, epoch_in, manner_in, has_completed, IsMoving}
use Rattle.rank_node.specs.Movers.MoverState.{Conveying, Stacking}
use Rattle.rank_node.specs.Cycles.{IsInCycle, cycle_of_turn}
use Rattle.port_bank.proofs.Marks.{at_most}
use Rattle.rank_group.specs.Ranks.{RankState, HasRank, AfterRank, StaysIn, EndsEpoch}
use Rattle.rank_group.specs.RoundProgress.{HasCycled, IsBetween, KeepsCycle, next_cycle}

-- an exstack that agrees with lists in which its epoch isn't over is between two ends
pub not_over : (cap n : ℕ) (x : Stack) (sent got : Logs) → IsStack cap x → AgreesIn n x sent got → lasts (got (number x.ranks x.rank x.rank)) ≤ x.epoch → is_all_done x.stage ≡ false
not_over cap n x sent got s a low = elim (cases_Bool (is_all_done x.stage)) [
  | inr f ↦ f
  | inl t ↦
      let i = s.each_in x.rank no_stack_in (omega (arith, s.rank, s.all_ins)) in
      let e : lasts (got (number x.ranks x.rank x.rank)) ≡ x.epoch + 1 = (a.ins x.rank s.rank).ended ∙ ap (lasts_in x.epoch) (i.all_ended t) in
      absurd (omega (arith, e, low))
]

-- so is one that has begun its next epoch
anew : (k k' : ℕ) (cap : ℕ) (x x' : Stack) (sent got : Logs) → IsStack cap x' → AgreesIn k x sent got → AgreesIn k' x' sent got → x.ranks ≡ x'.ranks → x.rank ≡ x'.rank → x'.epoch ≡ x.epoch + 1 → is_all_done x'.stage ≡ false
anew k k' cap x x' sent got s a a' same_ranks same_rank next =
    let low : x.rank < x.ranks = omega (arith, s.rank, same_ranks, same_rank) in
    let at : number x.ranks x.rank x.rank ≡ number x'.ranks x'.rank x'.rank = ap (λ p. number p x.rank x.rank) same_ranks ∙ ap (λ q. number x'.ranks q q) same_rank in
    let e : lasts (got (number x.ranks x.rank x.rank)) ≡ lasts_in x.epoch (stack_in_at x x.rank).ended = (a.ins x.rank low).ended in
    let few = at_most x.epoch (stack_in_at x x.rank).ended in
    let same = ap (λ l. lasts (got l)) at in
    not_over cap k' x' sent got s a' (omega (arith, e, few, same, next))

abbrev first : List ℕ → ℕ
first [] = 0
first (d ∷ ds) = d

begun_anew : {S : Type 0} (R : Rules S) (quota : ℕ → ℕ) (k k' : ℕ) (run run' : Running S) (m m' : MoverState) (sent got : Logs) → manner_in m' ≡ manner_in m → mover_dims m' ≡ mover_dims m → mover_rank m' ≡ mover_rank m → epoch_in m' ≡ epoch_in m + 1
    → IsMoving m' sent got → IsInCycle R quota k run m sent got → IsInCycle R quota k' run' m' sent got → IsBetween m'
begun_anew R quota k k' run run' m (Conveying c') sent got same_manner same_dims same_rank next moves i i' = tt
begun_anew R quota k k' run run' (Conveying c) (Stacking cap' x') sent got same_manner same_dims same_rank next moves i i' = absurd (cc)
begun_anew R quota k k' run run' (Stacking cap x) (Stacking cap' x') sent got same_manner same_dims same_rank next moves i i' =
    anew k k' cap' x x' sent got moves.stack i.agrees i'.agrees (sym (ap first same_dims)) (sym same_rank) next

between_by : (m : MoverState) → has_completed m ≡ false → IsBetween m
between_by (Conveying c) e = tt
between_by (Stacking cap x) e = e

cycled_by : {S : Type 0} (R : Rules S) (quota : ℕ → ℕ) (k : ℕ) (run : Running S) (m : MoverState) (sent got : Logs) → IsInCycle R quota k run m sent got → HasCycled quota k m sent got
cycled_by R quota k run (Conveying c) sent got i = tt
cycled_by R quota k run (Stacking cap x) sent got i = (i.agrees, i.marks)

-- the cycle after a turn
pub cycle_over : {S : Type 0} (k : ℕ) (n n' : RankState S) → n.over ≡ true → next_cycle k n n' ≡ k
cycle_over k n n' over = ap (λ b. cond b k (cond (epoch_in n'.node.mover == epoch_in n.node.mover) (cycle_of_turn k n.node.mover) 0)) over

pub cycle_stays : {S : Type 0} (k : ℕ) (n n' : RankState S) → n.over ≡ false → epoch_in n'.node.mover ≡ epoch_in n.node.mover → next_cycle k n n' ≡ cycle_of_turn k n.node.mover
cycle_stays k n n' on same =
    ap (λ b. cond b k (cond (epoch_in n'.node.mover == epoch_in n.node.mover) (cycle_of_turn k n.node.mover) 0)) on
    ∙ ap (λ b. cond b (cycle_of_turn k n.node.mover) 0) (eq-eqb (epoch_in n'.node.mover) (epoch_in n.node.mover) same)

pub cycle_anew : {S : Type 0} (k : ℕ) (n n' : RankState S) → n.over ≡ false → epoch_in n'.node.mover ≡ epoch_in n.node.mover + 1 → next_cycle k n n' ≡ 0
cycle_anew k n n' on next =
    ap (λ b. cond b k (cond (epoch_in n'.node.mover == epoch_in n.node.mover) (cycle_of_turn k n.node.mover) 0)) on
    ∙ ap (λ b. cond b (cycle_of_turn k n.node.mover) 0) (ne_eqb (epoch_in n'.node.mover) (epoch_in n.node.mover) (λ e. omega (arith, e, next)))

module _ {S : Type 0} (R : Rules S) (dims : List ℕ) (cap slots r : ℕ) (manner : Manner) (h g : ℕ → S) (n n' : RankState S) (sent got sent' got' : Logs) (t : AfterRank R dims cap slots r n n' sent got sent' got')
    (has : HasRank R dims cap manner r h n sent got) (has' : HasRank R dims cap manner r g n' sent' got') (quota : ℕ → ℕ) (k : ℕ) (keeps : KeepsCycle R quota k n (starting_at dims r sent) (ending_at dims r got))
    (few : n'.over ≡ false → length (to_send R n'.node.run.prog n'.node.run.sends) ≤ quota (epoch_in n'.node.mover)) where
  unturned : n.over ≡ true → KeepsCycle R quota (next_cycle k n n') n' (starting_at dims r sent') (ending_at dims r got')
  unturned over =
      let u = t.unturned over in
      subst (λ c. KeepsCycle R quota c n' (starting_at dims r sent') (ending_at dims r got')) (sym (cycle_over k n n' over))
      (subst (λ (y : RankState S). KeepsCycle R quota k y (starting_at dims r sent') (ending_at dims r got')) (sym u.same)
      (subst (λ (f : Logs). KeepsCycle R quota k n f (ending_at dims r got')) (sym u.same_sent) (subst (KeepsCycle R quota k n (starting_at dims r sent)) (sym u.same_got) keeps)))

  stays : n.over ≡ false → StaysIn R dims slots r n n' sent got sent' got' → KeepsCycle R quota (next_cycle k n n') n' (starting_at dims r sent') (ending_at dims r got')
  stays on s =
      subst (λ c. KeepsCycle R quota c n' (starting_at dims r sent') (ending_at dims r got')) (sym (cycle_stays k n n' on s.epoch))
      (record { running = λ on'. (s.within.cycle quota k (keeps.running on).0, between_by n'.node.mover s.going); over = λ over. absurd (true≢false (sym over ∙ s.still)) })

  ends : n.over ≡ false → EndsEpoch R dims slots r n n' sent got sent' got' → KeepsCycle R quota (next_cycle k n n') n' (starting_at dims r sent') (ending_at dims r got')
  ends on z = record {
    running = λ on'.
        let anew' = z.anew on' quota (cycle_of_turn k n.node.mover) at_end (few on') in (
          subst (λ c. IsInCycle R quota c n'.node.run n'.node.mover (starting_at dims r sent') (ending_at dims r got')) (sym (cycle_anew k n n' on (z.next on'))) anew',
          begun_anew R quota (cycle_of_turn k n.node.mover) 0 z.at_end.run n'.node.run z.at_end.mover n'.node.mover (starting_at dims r sent') (ending_at dims r got') (has'.same_manner ∙ (sym has.same_manner ∙ sym z.same.manner)) (has'.same_dims ∙ (sym has.same_dims ∙ sym z.same.dims)) (has'.same_rank ∙ (sym has.same_rank ∙ sym z.same.rank))
              (z.next on' ∙ ap (λ e. e + 1) (sym z.same.epoch)) (has'.runs on').moving at_end anew',
        );
    over = λ over'.
        let same : epoch_in n'.node.mover ≡ epoch_in n.node.mover = ap epoch_in (z.over over') ∙ z.same.epoch in
        subst (λ c. HasCycled quota c n'.node.mover (starting_at dims r sent') (ending_at dims r got')) (sym (cycle_stays k n n' on same))
        (subst (λ (m : MoverState). HasCycled quota (cycle_of_turn k n.node.mover) m (starting_at dims r sent') (ending_at dims r got')) (sym (z.over over')) (cycled_by R quota (cycle_of_turn k n.node.mover) z.at_end.run z.at_end.mover _ _ at_end));
  } where
    at_end : IsInCycle R quota (cycle_of_turn k n.node.mover) z.at_end.run z.at_end.mover (starting_at dims r sent') (ending_at dims r got')
    at_end = z.within.cycle quota k (keeps.running on).0

  -- whatever its turn did
  pub keeps_on : KeepsCycle R quota (next_cycle k n n') n' (starting_at dims r sent') (ending_at dims r got')
  keeps_on = elim (cases_Bool n.over) [
    | inl over ↦ unturned over
    | inr on ↦ elim (t.turned on) [
      | inl s ↦ stays on s
      | inr z ↦ ends on z
    ]
  ]
