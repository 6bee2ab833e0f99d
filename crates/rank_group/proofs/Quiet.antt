-- A sweep of turns in which nothing moved ends the least epoch.
use Rattle.std.proofs.Common.{◌≡◌, ℕ, ◌<◌, ◌≤◌, Bool, true, List, length, refl, sym, ap, subst, ◌∙◌, arith, inl, inr}
use Rattle.std.proofs.lemmas.Bool.{cases_eq, cases_lt}
use Rattle.route_tensor.specs.Grid.{ranks}
use Rattle.route_tensor.specs.Link.{links}
use Rattle.route_tensor.specs.Ends.{hop_at, reader_at}
use Rattle.port_bank.specs.Logs.{Logs, starting_at, ending_at}
use Rattle.hop_core.specs.State.{State}
use Rattle.convey.specs.Buffers.{is_complete, in_of}
use Rattle.convey.specs.Conveyors.{AgreesWith}
use Rattle.convey.specs.Due.{IsOver}
use Rattle.convey.specs.Rest.{IsAtRest, IsRestingSweep, RestLaw}
use Rattle.round_program.specs.Rules.{Rules}
use Rattle.rank_node.specs.Movers.{MoverState, mover_dims, mover_rank, epoch_in, manner_in, has_completed, lying}
use Rattle.rank_node.specs.Movers.MoverState.{Conveying, Stacking}
use Rattle.rank_node.specs.Movers.Manner.{ByConveyor}
use Rattle.rank_node.specs.Runs.{Running}
use Rattle.rank_node.specs.Nodes.{NodeState, IsNode}
use Rattle.rank_node.specs.Moves.{Waits}
use Rattle.rank_node.specs.Stuck.{IsStuck}
use Rattle.rank_node.proofs.Onward.{complete_is}
use Rattle.rank_group.specs.Ranks.{crowded_in, idle_in}
use Rattle.rank_group.specs.RanksOverBank.{no_conveyor}
use Rattle.rank_group.specs.Rest.{IsQuietSweep, NodesRestLaw}
use Rattle.rank_group.proofs.Still as still
use Rattle.rank_group.proofs.Resting.{ByItsConveyor, by_conveyor, complete_rests}

-- a turn over a conveyor that moved nothing
record WasStuck (dims : List ℕ) (slots r : ℕ) (m m' : MoverState) (sent got : Logs) : Type 0 where
  c : State
  is : m ≡ Conveying c
  c' : State
  is' : m' ≡ Conveying c'
  same_dims : c.dims ≡ dims
  same_rank : c.rank ≡ r
  stuck : IsStuck c c' (starting_at dims r sent) (ending_at dims r got) (starting_at dims r sent) (ending_at dims r got) (crowded_in dims slots r sent got) (idle_in dims r sent got)

was_stuck : {S : Type 0} (R : Rules S) (dims : List ℕ) (slots r : ℕ) (steady : Bool) (h : ℕ → S) (run : Running S) (m m' : MoverState) (sent got : Logs)
    → mover_dims m ≡ dims → mover_rank m ≡ r → manner_in m ≡ ByConveyor steady → IsNode R h (record { run = run; mover = m }) (starting_at dims r sent) (ending_at dims r got)
    → Waits R run m m' (starting_at dims r sent) (ending_at dims r got) (starting_at dims r sent) (ending_at dims r got) (crowded_in dims slots r sent got) (idle_in dims r sent got)
    → WasStuck dims slots r m m' sent got
was_stuck R dims slots r steady h run (Conveying c) (Conveying c') sent got d q k is w = record { c = c; is = refl; c' = c'; is' = refl; same_dims = d; same_rank = q; stuck = w h is (λ l. refl) (λ l. refl) }
was_stuck R dims slots r steady h run (Conveying c) (Stacking cap x) sent got d q k is w = absurd w
was_stuck R dims slots r steady h run (Stacking cap x) m' sent got d q k is w = absurd (cc)

module _ {S : Type 0} (R : Rules S) (rest : RestLaw) (dims : List ℕ) (cap slots e : ℕ) (steady : Bool) (h : ℕ → ℕ → S) (old new : ℕ → NodeState S) (sent got : Logs) (w : IsQuietSweep R dims cap slots e steady h old new sent got) where
  -- what is known of the conveyor of rank r, just before its latest advance and just after it
  record Two (r : ℕ) (a b : State) : Type 0 where
    same_dims : b.dims ≡ dims
    same_rank : b.rank ≡ r
    agrees : AgreesWith b (starting_at dims r sent) (ending_at dims r got)
    late : e ≤ b.epoch
    turn : b.epoch ≡ e → IsAtRest dims r a b sent got
    same_epoch : b.epoch ≡ epoch_in (new r).mover
    over : epoch_in (new r).mover ≡ e → IsOver b → has_completed (new r).mover ≡ true

  conveyor : (r : ℕ) → r < ranks dims → ByItsConveyor dims r (new r).mover sent got
  conveyor r low =
      let k = w.conveys r low in
      by_conveyor dims r steady (new r).mover sent got k.manner k.same_dims k.same_rank k.node.moving

  -- a rank that has completed its epoch, or is in a later one
  settled : (r : ℕ) (low : r < ranks dims) → ((epoch_in (new r).mover ≡ e) → has_completed (new r).mover ≡ true) → (a : State) × (b : State) × Two r a b
  settled r low done =
      let v = conveyor r low in
      let same : v.c.epoch ≡ epoch_in (new r).mover = sym (ap epoch_in v.is) in
      let late = w.least r low in (
        v.c,
        v.c,
        record {
          same_dims = v.same_dims;
          same_rank = v.same_rank;
          agrees = v.moving.agrees;
          late = omega (arith, late, same);
          turn = λ at. complete_rests dims r v.c sent got v.same_dims v.same_rank (complete_is v.c.phase (sym (ap has_completed v.is) ∙ done (sym same ∙ at))) v.moving;
          same_epoch = same;
          over = λ at o. done at;
        },
      )

  two : (r : ℕ) → r < ranks dims → (a : State) × (b : State) × Two r a b
  two r low = elim (cases_eq (epoch_in (new r).mover) e) [
    | inr apart ↦ settled r low (λ at. absurd (apart at))
    | inl here ↦ elim (w.turned r low here) [
      | inl done ↦ settled r low (λ at. done)
      | inr m ↦
          let k = m.conveyed in
          let q = was_stuck R dims slots r steady (h r) (old r).run (old r).mover (new r).mover sent got k.same_dims k.same_rank k.manner k.node m.waits in
          let s = q.stuck.still in
          let kept : (l : ℕ) → l < links dims → reader_at dims l ≡ r → length (in_of q.c l).parcel.untaken ≤ length (in_of q.c' l).parcel.untaken =
          λ l b f. subst (λ x. length (in_of q.c l).parcel.untaken ≤ lying x l) q.is' (subst (λ x. lying x l ≤ lying (new r).mover l) q.is (m.kept l)) in
          let at : IsAtRest dims r s.before s.after sent got = still.without_latest dims slots r q.c q.c' sent got w.some q.same_dims q.same_rank s kept
          (elim q.stuck.pushed [
            | inl done ↦ inl done
            | inr c ↦ inr (still.busy_of dims slots r q.c q.c' sent got w.some q.same_dims q.same_rank s kept c)
          ])
          (λ l b f o. q.stuck.read l (still.below dims slots r q.c q.c' sent got w.some q.same_dims q.same_rank s kept l b) (still.reader dims slots r q.c q.c' sent got w.some q.same_dims q.same_rank s kept l f) (subst (λ ds. hop_at ds l ≡ length ds) (sym q.same_dims) o)) in
          let same : s.after.epoch ≡ epoch_in (new r).mover = s.epoch_after ∙ (s.epoch_before ∙ (sym (ap epoch_in q.is) ∙ sym m.epoch)) in (
            s.before,
            s.after,
            record {
              same_dims = s.dims_after ∙ (s.dims_before ∙ q.same_dims);
              same_rank = s.rank_after ∙ (s.rank_before ∙ q.same_rank);
              agrees = s.agrees_after;
              late = omega (arith, same, here);
              turn = λ _. at;
              same_epoch = same;
              over = λ _ o. ap has_completed q.is' ∙ ap is_complete (s.over o);
            },
          )
    ]
  ]

  -- with a state for every number
  all_two : (r : ℕ) → (a : State) × (b : State) × (r < ranks dims → Two r a b)
  all_two r = elim (cases_lt r (ranks dims)) [
    | inl low ↦ let t = two r low in (t.0, t.1, λ _. t.2)
    | inr past ↦ (no_conveyor, no_conveyor, λ low. absurd (omega (arith, low, past)))
  ]

  sweep : IsRestingSweep dims cap slots e (λ r. (all_two r).0) (λ r. (all_two r).1) sent got
  sweep =
      record {
        grid = w.grid;
        links_keep = w.links_keep;
        same_dims = λ r low. ((all_two r).2 low).same_dims;
        same_rank = λ r low. ((all_two r).2 low).same_rank;
        agrees = λ r low. ((all_two r).2 low).agrees;
        least = λ r low. ((all_two r).2 low).late;
        turns = λ r low same. ((all_two r).2 low).turn same;
      }

  pub completes : (r : ℕ) → r < ranks dims → epoch_in (new r).mover ≡ e → has_completed (new r).mover ≡ true
  completes r low here =
      let t = (all_two r).2 low in
      t.over here (rest dims cap slots e (λ k. (all_two k).0) (λ k. (all_two k).1) sent got sweep r low (t.same_epoch ∙ here))

pub nodes_rest : {S : Type 0} (R : Rules S) → RestLaw → NodesRestLaw R
nodes_rest R rest dims cap slots e steady h old new sent got w r low here = completes R rest dims cap slots e steady h old new sent got w r low here
