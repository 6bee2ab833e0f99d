-- What a turn of a rank over an exstack makes of a round.
use Rattle.std.proofs.Common.{◌≡◌, ◌≢◌, ◌⊎◌, ℕ, suc, ◌+◌, ◌*◌, ◌<◌, ◌==◌, Bool, true, false, cond, List, [], ◌∷◌, Some, slice_get, sym, ap, subst, ◌∙◌, arith, inl, inr}
use Rattle.std.proofs.lemmas.Bool.{cases_Bool, cases_eq, ne_eqb}
use Rattle.list_laws.specs.Sums.{total}
use Rattle.list_laws.proofs.Lists.{within, get_once}
use Rattle.route_tensor.specs.Grid.{ranks}
use Rattle.route_tensor.specs.Ends.{reader_at}
use Rattle.port_bank.specs.Logs.{Logs, ending_at}
use Rattle.port_bank.specs.Flow.{IsPrefix}
use Rattle.exstack.specs.State.{Stack, stack_out_at, number, stack_link_to}
use Rattle.exstack.specs.Agreement.{cycle_after}
use Rattle.exstack.specs.Lockstep.{finished_in, InStep}
use Rattle.exstack.specs.State.{is_all_done}
use Rattle.exstack.proofs.OneHop.{number_reader}
use Rattle.round_program.specs.Rules.{Rules}
use Rattle.round_program.specs.Laws.{Laws}
use Rattle.rank_node.specs.Runs.{Running}
use Rattle.rank_node.specs.Movers.{MoverState, epoch_in, has_completed}
use Rattle.rank_node.specs.Movers.MoverState.{Conveying, Stacking}
use Rattle.rank_node.specs.Movers.Manner.{ByExstack}
use Rattle.rank_node.specs.Moves.{WaitsFor, Waits}
use Rattle.rank_node.specs.Cycles.{IsOnward, Awaits, TurnsOnward, AwaitsSome, cycle_of_turn}
use Rattle.rank_group.specs.Closes.{ClosesLaws}
use Rattle.rank_group.specs.Ranks.{RankState, AfterRank, StaysIn, EndsEpoch, crowded_in, idle_in}
use Rattle.rank_group.specs.RoundProgress.{most_rounds, rounds_made, HasMadeHalves, MoverMadeHalves, next_cycle}
use Rattle.rank_group.specs.RanksOverBank.{RanksOnBank, DrivePlan, AllMadeHalves}
use Rattle.rank_group.proofs.Worlds.{stack_of}
use Rattle.exstack.proofs.Lockstep.{got_own}
use Rattle.rank_group.proofs.Halves.{halves_low, halves_less, half_more}
use Rattle.rank_group.proofs.Cycled.{cycle_over, cycle_stays}
use Rattle.rank_group.proofs.Stacks.{over_in, stack_in, rank_at, stack_is, one, step, short, all_stacks}
use Rattle.rank_group.proofs.OwnLink.{own_still}

-- of a mover that is an exstack
pub to_stack : (most : ℕ → ℕ) (j : ℕ) (o : Bool) (c : ℕ) (m : MoverState) (cap : ℕ) → m ≡ Stacking cap (stack_of m) → MoverMadeHalves most j o c m → HasMadeHalves most j o c (stack_of m)
to_stack most j o c (Conveying y) cap e is = absurd (cc)
to_stack most j o c (Stacking k x) cap e is = is

pub of_stack : (most : ℕ → ℕ) (j : ℕ) (o : Bool) (c : ℕ) (m : MoverState) (cap : ℕ) → m ≡ Stacking cap (stack_of m) → HasMadeHalves most j o c (stack_of m) → MoverMadeHalves most j o c m
of_stack most j o c (Conveying y) cap e is = absurd (cc)
of_stack most j o c (Stacking k x) cap e is = is

onward_of : (m m' : MoverState) (cap : ℕ) → m ≡ Stacking cap (stack_of m) → m' ≡ Stacking cap (stack_of m') → TurnsOnward m m' → IsOnward (stack_of m).stage (stack_of m').stage
onward_of (Conveying c) m' cap e e' is = absurd (cc)
onward_of (Stacking k x) (Conveying c) cap e e' is = absurd (cc)
onward_of (Stacking k x) (Stacking k' x') cap e e' is = is

awaits_of : (m : MoverState) (cap : ℕ) → m ≡ Stacking cap (stack_of m) → AwaitsSome m → Awaits (stack_of m)
awaits_of (Conveying c) cap e is = absurd (cc)
awaits_of (Stacking k x) cap e is = is

waits_of : {S : Type 0} (R : Rules S) (run : Running S) (m m' : MoverState) (cap : ℕ) (sent got sent' got' : Logs) (is_crowded is_idle : ℕ → Bool) → m ≡ Stacking cap (stack_of m) → m' ≡ Stacking cap (stack_of m')
    → Waits R run m m' sent got sent' got' is_crowded is_idle → WaitsFor (stack_of m) (stack_of m') got got' is_crowded is_idle
waits_of R run (Conveying c) m' cap sent got sent' got' is_crowded is_idle e e' is = absurd (cc)
waits_of R run (Stacking k x) (Conveying c) cap sent got sent' got' is_crowded is_idle e e' is = absurd (cc)
waits_of R run (Stacking k x) (Stacking k' x') cap sent got sent' got' is_crowded is_idle e e' is = is

cycle_is : (k : ℕ) (m : MoverState) (cap : ℕ) → m ≡ Stacking cap (stack_of m) → cycle_of_turn k m ≡ cycle_after k (stack_of m).stage
cycle_is k m cap e = ap (cycle_of_turn k) e

going_of : (m : MoverState) (cap : ℕ) → m ≡ Stacking cap (stack_of m) → has_completed m ≡ false → is_all_done (stack_of m).stage ≡ false
going_of (Conveying c) cap e is = absurd (cc)
going_of (Stacking k x) cap e is = is

epoch_is : (m : MoverState) (cap : ℕ) → m ≡ Stacking cap (stack_of m) → epoch_in m ≡ (stack_of m).epoch
epoch_is m cap e = ap epoch_in e

module _ {S : Type 0} (R : Rules S) (laws : Laws R) (law : ClosesLaws) (dims : List ℕ) (cap slots : ℕ) (starts : List S) (h g : ℕ → ℕ → S) (r : ℕ) (n n' : RankState S) (rs rs' : List (RankState S)) (sent got sent' got' : Logs)
    (w : RanksOnBank R dims cap slots ByExstack starts h rs sent got) (v : RanksOnBank R dims cap slots ByExstack starts g rs' sent' got') (rounds : ℕ) (plan : DrivePlan R dims slots starts rounds)
    (at : slice_get rs r ≡ Some n) (at' : slice_get rs' r ≡ Some n') (others : (k : ℕ) → k ≢ r → slice_get rs' k ≡ slice_get rs k) (t : AfterRank R dims cap slots r n n' sent got sent' got')
    (grows : (l : ℕ) → IsPrefix (got l) (got' l)) (here : v.cycle r ≡ next_cycle (w.cycle r) n n') (elsewhere : (k : ℕ) → k ≢ r → v.cycle k ≡ w.cycle k)
    (j : ℕ) (all : AllMadeHalves (most_rounds R (ranks dims) starts) j w.cycle rs) where
  abbrev p : ℕ
  p = ranks dims

  abbrev most : ℕ → ℕ
  most = most_rounds R (ranks dims) starts

  abbrev x : Stack
  x = stack_of n.node.mover

  abbrev x' : Stack
  x' = stack_of n'.node.mover

  low : r < p
  low = omega (arith, within rs r n at, w.ranked.all)

  is : n.node.mover ≡ Stacking cap x
  is = stack_is R laws law dims cap slots starts h rs sent got w rounds plan r n at

  is' : n'.node.mover ≡ Stacking cap x'
  is' = stack_is R laws law dims cap slots starts g rs' sent' got' v rounds plan r n' at'

  -- the others made what they had made
  other_made : (k : ℕ) → k ≢ r → (y : RankState S) → slice_get rs' k ≡ Some y → MoverMadeHalves most j y.over (v.cycle k) y.node.mover
  other_made k apart y now = subst (λ c. MoverMadeHalves most j y.over c y.node.mover) (sym (elsewhere k apart)) (all k y (sym (others k apart) ∙ now))

  other_stacks : (k : ℕ) → k < p → k ≢ r → HasMadeHalves most j (over_in (slice_get rs' k)) (v.cycle k) (stack_in (slice_get rs' k))
  other_stacks k lk apart =
      let y = rank_at R laws law dims cap slots starts g rs' sent' got' v rounds plan k lk in
      subst (λ o. HasMadeHalves most j (over_in o) (v.cycle k) (stack_in o)) (sym y.1)
      (to_stack most j y.0.over (v.cycle k) y.0.node.mover cap (stack_is R laws law dims cap slots starts g rs' sent' got' v rounds plan k y.0 y.1) (other_made k apart y.0 y.1))

  mine : n.over ≡ false → HasMadeHalves most j false (w.cycle r) x
  mine on = subst (λ o. HasMadeHalves most j o (w.cycle r) x) on (to_stack most j n.over (w.cycle r) n.node.mover cap is (all r n at))

  -- a rank whose epoch ended
  ended : n.over ≡ false → EndsEpoch R dims slots r n n' sent got sent' got' → HasMadeHalves most (j + 1) n'.over (v.cycle r) x'
  ended on z =
      let s : finished_in (w.cycle r) (stack_in (slice_get rs r)).stage < most (stack_in (slice_get rs r)).epoch = short R laws law dims cap slots starts h rs sent got w rounds plan r low (ap over_in at ∙ on) in
      let s' : finished_in (w.cycle r) x.stage < most x.epoch = subst (λ o. finished_in (w.cycle r) (stack_in o).stage < most (stack_in o).epoch) at s in
      let a = halves_low most j false (w.cycle r) x (mine on) in
      let e = epoch_is n.node.mover cap is in
      let e' = epoch_is n'.node.mover cap is' in
      elim (cases_Bool n'.over) [
        | inl over ↦
            let q : x'.epoch ≡ x.epoch = omega (arith, e, e', ap epoch_in (z.over over), z.same.epoch) in
            let sum = ap (λ i. total (i + 1) most) q in
            let next : total (x.epoch + 1) most ≡ total x.epoch most + most x.epoch = let i : x.epoch + 1 ≡ suc x.epoch = omega arith in ap (λ i. total i most) i in
            let top : rounds_made most n'.over (v.cycle r) x' ≡ total (x'.epoch + 1) most = ap (λ o. rounds_made most o (v.cycle r) x') over in
            inl (omega (arith, a, s', sum, next, top))
        | inr off ↦
            let q : x'.epoch ≡ suc x.epoch = omega (arith, e, e', z.next off) in
            let sum : total x'.epoch most ≡ total x.epoch most + most x.epoch = ap (λ i. total i most) q in
            let top : rounds_made most n'.over (v.cycle r) x' ≡ total x'.epoch most + finished_in (v.cycle r) x'.stage = ap (λ o. rounds_made most o (v.cycle r) x') off in
            inl (omega (arith, a, s', sum, top))
      ]

  -- a rank that stays in its epoch
  module _ (on : n.over ≡ false) (s : StaysIn R dims slots r n n' sent got sent' got') where
    abbrev now : Stack
    now = stack_in (slice_get rs' r)

    t0 : InStep p cap slots w.cycle (λ k. stack_in (slice_get rs k)) sent got
    t0 = step R laws law dims cap slots starts h rs sent got w rounds plan

    t1 : InStep p cap slots v.cycle (λ k. stack_in (slice_get rs' k)) sent' got'
    t1 = step R laws law dims cap slots starts g rs' sent' got' v rounds plan

    same_ranks : x.ranks ≡ p
    same_ranks = ap (λ o. (stack_in o).ranks) (sym at) ∙ t0.same_ranks r low

    same_rank : x.rank ≡ r
    same_rank = ap (λ o. (stack_in o).rank) (sym at) ∙ t0.same_rank r low

    going : is_all_done now.stage ≡ false
    going = ap (λ o. is_all_done (stack_in o).stage) at' ∙ going_of n'.node.mover cap is' s.going

    same_epoch : now.epoch ≡ x.epoch
    same_epoch = ap (λ o. (stack_in o).epoch) at' ∙ (sym (epoch_is n'.node.mover cap is') ∙ (s.epoch ∙ epoch_is n.node.mover cap is))

    cycle : v.cycle r ≡ cycle_after (w.cycle r) x.stage
    cycle = here ∙ (cycle_stays (w.cycle r) n n' on s.epoch ∙ cycle_is (w.cycle r) n.node.mover cap is)

    onward : IsOnward x.stage now.stage
    onward = subst (λ o. IsOnward x.stage (stack_in o).stage) (sym at') (onward_of n.node.mover n'.node.mover cap is is' s.within.onward)

    awaits : Awaits now
    awaits = subst (λ o. Awaits (stack_in o)) (sym at') (awaits_of n'.node.mover cap is' s.within.awaits)

    waits : WaitsFor x now (ending_at (p ∷ []) r got) (ending_at (p ∷ []) r got') (crowded_in (p ∷ []) slots r sent' got') (idle_in (p ∷ []) r sent' got')
    waits =
        subst (λ o. WaitsFor x (stack_in o) (ending_at (p ∷ []) r got) (ending_at (p ∷ []) r got') (crowded_in (p ∷ []) slots r sent' got') (idle_in (p ∷ []) r sent' got')) (sym at')
        (subst (λ (ds : List ℕ). WaitsFor x x' (ending_at ds r got) (ending_at ds r got') (crowded_in ds slots r sent' got') (idle_in ds r sent' got')) (sym (one R laws law dims cap slots starts h rs sent got w rounds plan))
        (waits_of R n.node.run n.node.mover n'.node.mover cap _ _ _ _ _ _ is is' s.within.waits))

    still : finished_in (v.cycle r) now.stage ≡ finished_in (w.cycle r) x.stage → (b : ℕ) → b < p → (stack_out_at now b).due ≡ true → ending_at (p ∷ []) r got' (stack_link_to x b) ≡ ending_at (p ∷ []) r got (stack_link_to x b)
    still same b lb due =
        let to : stack_link_to x b ≡ number p r b = ap (λ i. number i x.rank b) same_ranks ∙ ap (λ q. number p q b) same_rank in
        subst (λ l. ending_at (p ∷ []) r got' l ≡ ending_at (p ∷ []) r got l) (sym to) (elim (cases_eq b r) [
          | inl own ↦
              let e : now.epoch ≡ (stack_in (slice_get rs r)).epoch = same_epoch ∙ ap (λ o. (stack_in o).epoch) (sym at) in
              let f : finished_in (v.cycle r) now.stage ≡ finished_in (w.cycle r) (stack_in (slice_get rs r)).stage = same ∙ ap (λ o. finished_in (w.cycle r) (stack_in o).stage) (sym at) in
              let quiet : got' (number p r r) ≡ got (number p r r) =
              own_still p cap slots w.cycle v.cycle (λ k. stack_in (slice_get rs k)) (λ k. stack_in (slice_get rs' k)) sent got sent' got' t0 t1 r low (grows (number p r r)) e f (subst (λ q. (stack_out_at now q).due ≡ true) own due) in
              subst (λ q. ending_at (p ∷ []) r got' (number p r q) ≡ ending_at (p ∷ []) r got (number p r q)) (sym own)
              (got_own p cap slots v.cycle (λ k. stack_in (slice_get rs' k)) sent' got' t1 r r low low ∙ (quiet ∙ sym (got_own p cap slots w.cycle (λ k. stack_in (slice_get rs k)) sent got t0 r r low low)))
          | inr apart ↦
              let off : (reader_at (p ∷ []) (number p r b) == r) ≡ false = ne_eqb (reader_at (p ∷ []) (number p r b)) r (λ e. apart (sym (number_reader p r b low lb t0.few) ∙ e)) in
              ap (λ c. cond c (got' (number p r b)) []) off ∙ sym (ap (λ c. cond c (got (number p r b)) []) off)
        ])

    stays : HasMadeHalves most (j + 1) n'.over (v.cycle r) x'
    stays =
        let half : HasMadeHalves most (j + 1) false (v.cycle r) now =
        half_more law.room law.arrival p cap slots most (2 * rounds) (λ k. over_in (slice_get rs' k)) v.cycle (λ k. stack_in (slice_get rs' k)) sent' got' plan.some
        (all_stacks R laws law dims cap slots starts g rs' sent' got' v rounds plan) r low (ap over_in at' ∙ s.still) going x (w.cycle r) (ending_at (p ∷ []) r got) same_ranks same_rank
        same_epoch cycle onward awaits waits still j other_stacks (mine on) in
        subst (λ o. HasMadeHalves most (j + 1) o (v.cycle r) x') (sym s.still) (subst (λ o. HasMadeHalves most (j + 1) false (v.cycle r) (stack_in o)) at' half)

  -- the rank that was turned has made half a round more, unless its run is over
  turned : (MoverMadeHalves most j n'.over (v.cycle r) n'.node.mover) × ((n'.over ≡ true) ⊎ MoverMadeHalves most (j + 1) n'.over (v.cycle r) n'.node.mover)
  turned = elim (cases_Bool n.over) [
    | inl over ↦
        let u = t.unturned over in
        let c : v.cycle r ≡ w.cycle r = here ∙ cycle_over (w.cycle r) n n' over in (
          subst (λ k. MoverMadeHalves most j n'.over k n'.node.mover) (sym c) (subst (λ (y : RankState S). MoverMadeHalves most j y.over (w.cycle r) y.node.mover) (sym u.same) (all r n at)),
          inl (ap (λ (y : RankState S). y.over) u.same ∙ over),
        )
    | inr on ↦
        let made : HasMadeHalves most (j + 1) n'.over (v.cycle r) x' = elim (t.turned on) [
          | inl s ↦ stays on s
          | inr z ↦ ended on z
        ] in
        (of_stack most j n'.over (v.cycle r) n'.node.mover cap is' (halves_less most j n'.over (v.cycle r) x' made), inr (of_stack most (j + 1) n'.over (v.cycle r) n'.node.mover cap is' made))
  ]

  pub made_here : (n'.over ≡ true) ⊎ MoverMadeHalves most (j + 1) n'.over (v.cycle r) n'.node.mover
  made_here = turned.1

  pub all_made : AllMadeHalves most j v.cycle rs'
  all_made k y now = elim (cases_eq k r) [
    | inr apart ↦ other_made k apart y now
    | inl own ↦
        let e : n' ≡ y = get_once rs' r n' y at' (subst (λ q. slice_get rs' q ≡ Some y) own now) in
        subst (λ q. MoverMadeHalves most j y.over (v.cycle q) y.node.mover) (sym own) (subst (λ (z : RankState S). MoverMadeHalves most j z.over (v.cycle r) z.node.mover) e turned.0)
  ]
