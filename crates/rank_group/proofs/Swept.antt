-- One more rank is turned in a sweep.
use Rattle.std.proofs.Common.{◌≡◌, ◌≢◌, ℕ, ◌<◌, ◌≤◌, ◌==◌, false, cond, List, length, Some, slice_get, refl, sym, ap, subst, ◌∙◌, arith, inl, inr}
use Rattle.std.proofs.lemmas.Bool.{cases_eq, eq-eqb, ne_eqb}
use Rattle.list_laws.proofs.Lists.{get_once}
use Rattle.route_tensor.specs.Grid.{ranks}
use Rattle.route_tensor.specs.Link.{links}
use Rattle.route_tensor.specs.Ends.{reader_at}
use Rattle.port_bank.specs.Logs.{Logs, starting_at, ending_at}
use Rattle.port_bank.proofs.Owners.{sent_elsewhere, got_elsewhere}
use Rattle.round_program.specs.Rules.{Rules}
use Rattle.round_program.specs.Laws.{Laws}
use Rattle.rank_node.specs.Movers.{MoverState, Manner, IsLogShape, mover_dims, mover_rank, lying}
use Rattle.rank_node.specs.Movers.MoverState.{Conveying, Stacking}
use Rattle.rank_node.specs.Nodes.{IsNode}
use Rattle.rank_node.specs.Next.{HasStopped}
use Rattle.rank_group.specs.BankLogs.{AreBankLogs}
use Rattle.rank_group.specs.Closes.{ClosesLaws}
use Rattle.rank_group.specs.Ranks.{RankState, HasRank, AllRanks, AfterRank, IsBlockedMover, progress, crowded_in, idle_in}
use Rattle.rank_group.specs.RoundProgress.{quota_of, KeepsCycle, next_cycle}
use Rattle.rank_group.specs.RanksOverBank.{mover_in, inbox, RanksOnBank, moves, BlocksMover, DrivePlan}
use Rattle.rank_group.proofs.Cycled.{keeps_on}
use Rattle.rank_group.proofs.Growing.{Grows, sent_same, got_same, inbox_same, inboxes_on}
use Rattle.rank_group.proofs.Quotas.{sends_few}

-- a rank of which nothing changed
other_rank : {S : Type 0} (R : Rules S) (dims : List ℕ) (cap : ℕ) (manner : Manner) (r : ℕ) (h : ℕ → S) (n : RankState S) (sent got sent' got' : Logs) → starting_at dims r sent' ≡ starting_at dims r sent → ending_at dims r got' ≡ ending_at dims r got
    → HasRank R dims cap manner r h n sent got → HasRank R dims cap manner r h n sent' got'
other_rank R dims cap manner r h n sent got sent' got' es eg is =
    record {
      same_dims = is.same_dims;
      same_rank = is.same_rank;
      same_manner = is.same_manner;
      same_cap = is.same_cap;
      runs = λ o. subst (λ f. IsNode R h n.node f (ending_at dims r got')) (sym es) (subst (IsNode R h n.node (starting_at dims r sent)) (sym eg) (is.runs o));
      stopped = λ o. subst (λ f. HasStopped R h n.node f (ending_at dims r got')) (sym es) (subst (HasStopped R h n.node (starting_at dims r sent)) (sym eg) (is.stopped o));
      shape = λ l below own. subst (λ (f : Logs). IsLogShape manner cap (f l)) (sym es) (is.shape l below own);
    }

module _ {S : Type 0} (R : Rules S) (dims : List ℕ) (cap slots : ℕ) (manner : Manner) (starts : List S) (h : ℕ → ℕ → S) (r : ℕ) (n n' : RankState S) (rs rs' : List (RankState S)) (sent got sent' got' : Logs)
    (w : RanksOnBank R dims cap slots manner starts h rs sent got) (at : slice_get rs r ≡ Some n) (at' : slice_get rs' r ≡ Some n') (others : (k : ℕ) → k ≢ r → slice_get rs' k ≡ slice_get rs k) (size : length rs' ≡ length rs)
    (t : AfterRank R dims cap slots r n n' sent got sent' got') (law : AreBankLogs dims cap slots sent' got') where
  was_in : (l : ℕ) → reader_at dims l ≡ r → inbox dims rs l ≡ lying n.node.mover l
  was_in l here = ap (λ k. lying (mover_in (slice_get rs k)) l) here ∙ ap (λ o. lying (mover_in o) l) at

  now_in : (l : ℕ) → reader_at dims l ≡ r → inbox dims rs' l ≡ lying n'.node.mover l
  now_in l here = ap (λ k. lying (mover_in (slice_get rs' k)) l) here ∙ ap (λ o. lying (mover_in o) l) at'

  pub grows : Grows dims r sent got sent' got' (inbox dims rs) (inbox dims rs')
  grows = record {
    own = t.own;
    apart = λ l apart. ap (λ o. lying (mover_in o) l) (others (reader_at dims l) apart);
    lies = λ l more below here own. omega (arith, was_in l here, now_in l here, t.lies l more below here own);
    inboxes = w.inboxes;
    past = λ l past. ((law.none_past l past).0 ∙ sym (w.none_past l past).0, (law.none_past l past).1 ∙ sym (w.none_past l past).1);
  }

  abbrev kept_on : (g : ℕ → S) × (g 0 ≡ h r 0) × HasRank R dims cap manner r g n' sent' got'
  kept_on = t.kept manner (h r) (w.ranked.each r n at)

  abbrev history : ℕ → ℕ → S
  history k = cond (k == r) kept_on.0 (h k)

  -- all ranks after the turn
  ranked_on : AllRanks R dims cap slots manner starts history rs' sent' got'
  ranked_on =
      record {
        grid = w.ranked.grid;
        links_keep = law.links_keep;
        all = size ∙ w.ranked.all;
        each = λ k x now. elim (cases_eq k r) [
          | inl here ↦
              let e : n' ≡ x = get_once rs' r n' x at' (subst (λ q. slice_get rs' q ≡ Some x) here now) in
              subst (λ f. HasRank R dims cap manner k f x sent' got') (sym (ap (λ b. cond b kept_on.0 (h k)) (eq-eqb k r here)))
              (subst (λ q. HasRank R dims cap manner q kept_on.0 x sent' got') (sym here) (subst (λ y. HasRank R dims cap manner r kept_on.0 y sent' got') e kept_on.2))
          | inr apart ↦
              subst (λ f. HasRank R dims cap manner k f x sent' got') (sym (ap (λ b. cond b kept_on.0 (h k)) (ne_eqb k r apart)))
              (other_rank R dims cap manner k (h k) x sent got sent' got' (sent_elsewhere dims r k sent sent' apart t.own.sent_elsewhere) (got_elsewhere dims r k got got' apart t.own.got_elsewhere) (w.ranked.each k x (sym (others k apart) ∙ now)))
        ];
        begins = λ k s from. elim (cases_eq k r) [
          | inl here ↦ ap (λ b. cond b kept_on.0 (h k) 0) (eq-eqb k r here) ∙ (kept_on.1 ∙ (ap (λ q. h q 0) (sym here) ∙ w.ranked.begins k s from))
          | inr apart ↦ ap (λ b. cond b kept_on.0 (h k) 0) (ne_eqb k r apart) ∙ w.ranked.begins k s from
        ];
      }

  abbrev cycle_on : ℕ → ℕ
  cycle_on k = cond (k == r) (next_cycle (w.cycle r) n n') (w.cycle k)

  pub cycle_here : cycle_on r ≡ next_cycle (w.cycle r) n n'
  cycle_here = ap (λ b. cond b (next_cycle (w.cycle r) n n') (w.cycle r)) (eq-eqb r r refl)

  pub cycle_other : (k : ℕ) → k ≢ r → cycle_on k ≡ w.cycle k
  cycle_other k apart = ap (λ b. cond b (next_cycle (w.cycle r) n n') (w.cycle k)) (ne_eqb k r apart)

  keeps_cycle : Laws R → ClosesLaws → (rounds : ℕ) → DrivePlan R dims slots starts rounds → (k : ℕ) (x : RankState S) → slice_get rs' k ≡ Some x
      → KeepsCycle R (quota_of R (ranks dims) starts k) (cycle_on k) x (starting_at dims k sent') (ending_at dims k got')
  keeps_cycle laws closes rounds plan k x now = elim (cases_eq k r) [
    | inl here ↦
        let e : n' ≡ x = get_once rs' r n' x at' (subst (λ q. slice_get rs' q ≡ Some x) here now) in
        let is : KeepsCycle R (quota_of R (ranks dims) starts r) (next_cycle (w.cycle r) n n') n' (starting_at dims r sent') (ending_at dims r got') =
        keeps_on R dims cap slots r manner (h r) kept_on.0 n n' sent got sent' got' t (w.ranked.each r n at) kept_on.2 (quota_of R (ranks dims) starts r) (w.cycle r) (w.keeps r n at)
        (sends_few R laws closes dims cap slots manner starts history rs' sent' got' ranked_on plan.shape plan.most plan.start r n' at') in
        subst (λ q. KeepsCycle R (quota_of R (ranks dims) starts q) (cycle_on q) x (starting_at dims q sent') (ending_at dims q got')) (sym here)
        (subst (λ y. KeepsCycle R (quota_of R (ranks dims) starts r) (cycle_on r) y (starting_at dims r sent') (ending_at dims r got')) e
        (subst (λ c. KeepsCycle R (quota_of R (ranks dims) starts r) c n' (starting_at dims r sent') (ending_at dims r got')) (sym cycle_here) is))
    | inr apart ↦
        subst (λ c. KeepsCycle R (quota_of R (ranks dims) starts k) c x (starting_at dims k sent') (ending_at dims k got')) (sym (cycle_other k apart))
        (subst (λ f. KeepsCycle R (quota_of R (ranks dims) starts k) (w.cycle k) x f (ending_at dims k got')) (sym (sent_elsewhere dims r k sent sent' apart t.own.sent_elsewhere))
        (subst (λ f. KeepsCycle R (quota_of R (ranks dims) starts k) (w.cycle k) x (starting_at dims k sent) f) (sym (got_elsewhere dims r k got got' apart t.own.got_elsewhere)) (w.keeps k x (sym (others k apart) ∙ now))))
  ]

  pub on_bank_after : Laws R → ClosesLaws → (rounds : ℕ) → DrivePlan R dims slots starts rounds → (g : ℕ → ℕ → S) × (v : RanksOnBank R dims cap slots manner starts g rs' sent' got') × (v.cycle ≡ cycle_on)
  on_bank_after laws closes rounds plan = (
    history,
    record {
      ranked = ranked_on;
      none_past = law.none_past;
      relays = law.relays;
      some = w.some;
      inboxes = inboxes_on dims r sent got sent' got' (inbox dims rs) (inbox dims rs') grows;
      cycle = cycle_on;
      keeps = keeps_cycle laws closes rounds plan;
    },
    refl,
  )

  -- the rank that was turned, where it stayed in its epoch and nothing moved
  rests_by : (m m' : MoverState) → mover_dims m ≡ dims → mover_rank m ≡ r → ((l : ℕ) → l < links dims → reader_at dims l ≡ r → lying m l ≤ lying m' l)
      → IsBlockedMover m m' (starting_at dims r sent') (ending_at dims r got') (starting_at dims r sent') (ending_at dims r got') (crowded_in dims slots r sent' got') (idle_in dims r sent' got') → BlocksMover dims slots r m' sent' got'
  rests_by (Conveying c) (Conveying c') same_dims same_rank kept left = record { c = c; same_dims = same_dims; same_rank = same_rank; same_epoch = sym left.stays; kept = kept; left = left }
  rests_by (Conveying c) (Stacking k x) same_dims same_rank kept left = absurd left
  rests_by (Stacking k x) (Conveying c) same_dims same_rank kept left = absurd left
  rests_by (Stacking k x) (Stacking k' x') same_dims same_rank kept left = tt

  pub rests_here : moves dims rs' sent' got' ≤ moves dims rs sent got → n'.over ≡ false → progress n' ≡ progress n → BlocksMover dims slots r n'.node.mover sent' got'
  rests_here light on same =
      let has = w.ranked.each r n at in
      let es = sent_same dims r sent got sent' got' (inbox dims rs) (inbox dims rs') grows light in
      let eg = got_same dims r sent got sent' got' (inbox dims rs) (inbox dims rs') grows light in
      let left = t.left manner (h r) has on same (λ l. ap (λ (f : Logs). starting_at dims r f l) es) (λ l. ap (λ (f : Logs). ending_at dims r f l) eg) in
      rests_by n.node.mover n'.node.mover has.same_dims has.same_rank
      (λ l below to.
      omega (arith, was_in l to, now_in l to, inbox_same dims r sent got sent' got' (inbox dims rs) (inbox dims rs') grows light l below))
      (subst (λ f. IsBlockedMover n.node.mover n'.node.mover (starting_at dims r f) (ending_at dims r got') (starting_at dims r sent') (ending_at dims r got') (crowded_in dims slots r sent' got') (idle_in dims r sent' got')) (sym es)
      (subst (λ f. IsBlockedMover n.node.mover n'.node.mover (starting_at dims r sent) (ending_at dims r f) (starting_at dims r sent') (ending_at dims r got') (crowded_in dims slots r sent' got') (idle_in dims r sent' got')) (sym eg) left))

  -- the ranks that rested go on resting
  pub rests_on : moves dims rs' sent' got' ≤ moves dims rs sent got → (k : ℕ) (m : MoverState) → BlocksMover dims slots k m sent got → BlocksMover dims slots k m sent' got'
  rests_on light k m rest = subst (λ f. BlocksMover dims slots k m f got') (sym (sent_same dims r sent got sent' got' (inbox dims rs) (inbox dims rs') grows light)) (subst (BlocksMover dims slots k m sent) (sym (got_same dims r sent got sent' got' (inbox dims rs) (inbox dims rs') grows light)) rest)
