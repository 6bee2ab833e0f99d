-- A sweep over all ranks.
use Rattle.std.proofs.Common.{◌≡◌, ◌≢◌, ◌⊎◌, true, false, ℕ, ◌+◌, ◌<◌, ◌≤◌, ◌==◌, Bool, cond, List, [], length, Some, slice_get, get_or, sym, ap, subst, ◌∙◌, arith, inl, inr}
use Rattle.std.proofs.lemmas.Bool.{cases_Bool, cases_eq, true≢false}
use Rattle.std.proofs.lemmas.Option.{get_or_from_slice_get}
use Rattle.list_laws.proofs.Lists.{find, within, get_once}
use Rattle.list_laws.proofs.Sums.{total_one}
use Rattle.route_tensor.specs.Grid.{ranks}
use Rattle.route_tensor.specs.Link.{links}
use Rattle.route_tensor.specs.Ends.{sender_at}
use Rattle.port_bank.specs.Logs.{Logs}
use Rattle.port_bank.specs.Plain.{Bank, IsBank, sent_of, got_of}
use Rattle.round_program.specs.Rules.{Rules}
use Rattle.round_program.specs.Laws.{Laws}
use Rattle.rank_node.specs.Movers.{MoverState, Manner, epoch_in, manner_in}
use Rattle.rank_node.specs.Movers.MoverState.{Conveying, Stacking}
use Rattle.rank_node.specs.Movers.Manner.{ByConveyor, ByExstack}
use Rattle.port_bank.specs.Flow.{IsPrefix}
use Rattle.rank_group.specs.BankLogs.{AreBankLogs}
use Rattle.rank_group.specs.Closes.{ClosesLaws}
use Rattle.rank_group.specs.RoundProgress.{most_rounds, MoverMadeHalves, next_cycle}
use Rattle.rank_group.specs.Ranks.{RankState, AfterRank, IsOrder, progress}
use Rattle.rank_group.specs.RanksOverBank.{MayTurnRanks, RanksOnBank, inbox, moves, BlocksMover, DrivePlan, AfterSomeTurns, AllMadeHalves, progress_in, all_progress}
use Rattle.rank_group.proofs.Growing.{lawful, posted_once, moves_on, got_more}
use Rattle.rank_group.proofs.Swept.{grows, on_bank_after, cycle_here, cycle_other, rests_here, rests_on}
use Rattle.rank_group.proofs.MadeHalves.{all_made, made_here}

pub swept_none : {S : Type 0} (R : Rules S) (dims : List ℕ) (cap slots : ℕ) (manner : Manner) (starts : List S) (order : List ℕ) (h : ℕ → ℕ → S) (rs : List (RankState S)) (sent got : Logs) → (w : RanksOnBank R dims cap slots manner starts h rs sent got)
    → AfterSomeTurns R dims cap slots manner starts order 0 w.cycle rs sent got rs sent got
swept_none R dims cap slots manner starts order h rs sent got w =
    record {
      h = h;
      on_bank = w;
      grown = omega arith;
      forward = λ r x0 x a b. omega (arith, ap (λ y. progress y) (get_once rs r x0 x a b));
      rests = λ light j r low at. absurd (omega (arith, low));
      made = λ j all. (all, λ q r low. absurd (omega (arith, low)));
    }

-- what a turn makes of a round, whatever carries the items
made_more : {S : Type 0} (R : Rules S) → Laws R → ClosesLaws → (rounds : ℕ) (dims : List ℕ) (cap slots : ℕ) (manner : Manner) (starts : List S) (h g : ℕ → ℕ → S) (r : ℕ) (n n' : RankState S) (rs rs' : List (RankState S)) (sent got sent' got' : Logs)
    → (w : RanksOnBank R dims cap slots manner starts h rs sent got) (v : RanksOnBank R dims cap slots manner starts g rs' sent' got') → DrivePlan R dims slots starts rounds
    → slice_get rs r ≡ Some n → slice_get rs' r ≡ Some n' → ((k : ℕ) → k ≢ r → slice_get rs' k ≡ slice_get rs k) → AfterRank R dims cap slots r n n' sent got sent' got'
    → ((l : ℕ) → IsPrefix (got l) (got' l)) → v.cycle r ≡ next_cycle (w.cycle r) n n' → ((k : ℕ) → k ≢ r → v.cycle k ≡ w.cycle k)
    → (j : ℕ) → AllMadeHalves (most_rounds R (ranks dims) starts) j w.cycle rs
    → AllMadeHalves (most_rounds R (ranks dims) starts) j v.cycle rs' × ((n'.over ≡ true) ⊎ MoverMadeHalves (most_rounds R (ranks dims) starts) (j + 1) n'.over (v.cycle r) n'.node.mover)
made_more R laws closes rounds dims cap slots ByExstack starts h g r n n' rs rs' sent got sent' got' w v plan at at' others t grows here elsewhere j all = (
  all_made R laws closes dims cap slots starts h g r n n' rs rs' sent got sent' got' w v rounds plan at at' others t grows here elsewhere j all,
  made_here R laws closes dims cap slots starts h g r n n' rs rs' sent got sent' got' w v rounds plan at at' others t grows here elsewhere j all,
)
made_more {S} R laws closes rounds dims cap slots (ByConveyor steady) starts h g r n n' rs rs' sent got sent' got' w v plan at at' others t grows here elsewhere j all =
    (λ k y now. none j y.over (v.cycle k) y.node.mover ((v.ranked.each k y now).same_manner), inr (none (j + 1) n'.over (v.cycle r) n'.node.mover ((v.ranked.each r n' at').same_manner))) where
      none : (j : ℕ) (o : Bool) (c : ℕ) (m : MoverState) → manner_in m ≡ ByConveyor steady → MoverMadeHalves (most_rounds R (ranks dims) starts) j o c m
      none j o c (Conveying y) e = tt
      none j o c (Stacking k y) e = absurd (cc)

pub swept_more : {S : Type 0} (R : Rules S) → Laws R → ClosesLaws → (rounds : ℕ) (dims : List ℕ) (cap slots : ℕ) (manner : Manner) (starts : List S) (order : List ℕ) (i r : ℕ) (cycle0 : ℕ → ℕ) (rs0 rs rs' : List (RankState S)) (sent0 got0 sent got sent' got' : Logs)
    → DrivePlan R dims slots starts rounds → slice_get order i ≡ Some r → r < ranks dims → length rs' ≡ length rs → ((k : ℕ) → k ≢ r → slice_get rs' k ≡ slice_get rs k) → AreBankLogs dims cap slots sent' got'
    → ((n n' : RankState S) → slice_get rs r ≡ Some n → slice_get rs' r ≡ Some n' → AfterRank R dims cap slots r n n' sent got sent' got')
    → AfterSomeTurns R dims cap slots manner starts order i cycle0 rs0 sent0 got0 rs sent got → AfterSomeTurns R dims cap slots manner starts order (i + 1) cycle0 rs0 sent0 got0 rs' sent' got'
swept_more {S} R laws closes rounds dims cap slots manner starts order i r cycle0 rs0 rs rs' sent0 got0 sent got sent' got' plan here low size others law turned v =
    let w = v.on_bank in
    let n : (n : RankState S) × (slice_get rs r ≡ Some n) = find rs r (omega (arith, low, w.ranked.all)) in
    let n' : (n' : RankState S) × (slice_get rs' r ≡ Some n') = find rs' r (omega (arith, low, w.ranked.all, size)) in
    let t : AfterRank R dims cap slots r n.0 n'.0 sent got sent' got' = turned n.0 n'.0 n.1 n'.1 in
    let on = on_bank_after R dims cap slots manner starts v.h r n.0 n'.0 rs rs' sent got sent' got' w n.1 n'.1 others size t law laws closes rounds plan in
    let more = moves_on dims r sent got sent' got' (inbox dims rs) (inbox dims rs') (grows R dims cap slots manner starts v.h r n.0 n'.0 rs rs' sent got sent' got' w n.1 n'.1 others size t law) in
    record {
      h = on.0;
      on_bank = on.1;
      grown = omega (arith, v.grown, more);
      forward = λ k x0 x a b. elim (cases_eq k r) [
        | inl same ↦
            let e : n'.0 ≡ x = get_once rs' r n'.0 x n'.1 (subst (λ q. slice_get rs' q ≡ Some x) same b) in
            let f = v.forward r x0 n.0 (subst (λ q. slice_get rs0 q ≡ Some x0) same a) n.1 in
            omega (arith, f, t.forward, ap (λ y. progress y) e)
        | inr apart ↦ v.forward k x0 x a (sym (others k apart) ∙ b)
      ];
      rests = λ light j k below at x0 x a b still same.
          let level : moves dims rs' sent' got' ≤ moves dims rs sent got = omega (arith, light, v.grown) in
          let level0 : moves dims rs sent got ≤ moves dims rs0 sent0 got0 = omega (arith, light, more) in
          elim (cases_eq k r) [
            | inl now ↦
                let e : n'.0 ≡ x = get_once rs' r n'.0 x n'.1 (subst (λ q. slice_get rs' q ≡ Some x) now b) in
                let f = v.forward r x0 n.0 (subst (λ q. slice_get rs0 q ≡ Some x0) now a) n.1 in
                let p : progress n'.0 ≡ progress n.0 = omega (arith, f, t.forward, same, ap (λ y. progress y) e) in
                subst (λ q. BlocksMover dims slots q x.node.mover sent' got') (sym now)
                (subst (λ (y : RankState S). BlocksMover dims slots r y.node.mover sent' got') e
                (rests_here R dims cap slots manner starts v.h r n.0 n'.0 rs rs' sent got sent' got' w n.1 n'.1 others size t law level (ap (λ (y : RankState S). y.over) e ∙ still) p))
            | inr apart ↦
                let before : j < i = omega (arith, below, not_last j apart at) in
                rests_on R dims cap slots manner starts v.h r n.0 n'.0 rs rs' sent got sent' got' w n.1 n'.1 others size t law level k x.node.mover
                (v.rests level0 j k before at x0 x a (sym (others k apart) ∙ b) still same)
          ];
      made = λ j all.
          let m = made_more R laws closes rounds dims cap slots manner starts v.h on.0 r n.0 n'.0 rs rs' sent got sent' got' w on.1 plan n.1 n'.1 others t
          (got_more dims r sent got sent' got' (inbox dims rs) (inbox dims rs') (grows R dims cap slots manner starts v.h r n.0 n'.0 rs rs' sent got sent' got' w n.1 n'.1 others size t law))
          (ap (λ (c : ℕ → ℕ). c r) on.2 ∙ cycle_here R dims cap slots manner starts v.h r n.0 n'.0 rs rs' sent got sent' got' w n.1 n'.1 others size t law)
          (λ k apart. ap (λ (c : ℕ → ℕ). c k) on.2 ∙ cycle_other R dims cap slots manner starts v.h r n.0 n'.0 rs rs' sent got sent' got' w n.1 n'.1 others size t law k apart) j (v.made j all).0 in (
            m.0,
            λ q k below at x b. elim (cases_eq k r) [
              | inl now ↦
                  let e : n'.0 ≡ x = get_once rs' r n'.0 x n'.1 (subst (λ q. slice_get rs' q ≡ Some x) now b) in
                  subst (λ q. (x.over ≡ true) ⊎ MoverMadeHalves (most_rounds R (ranks dims) starts) (j + 1) x.over (on.1.cycle q) x.node.mover) (sym now)
                  (subst (λ (y : RankState S). (y.over ≡ true) ⊎ MoverMadeHalves (most_rounds R (ranks dims) starts) (j + 1) y.over (on.1.cycle r) y.node.mover) e m.1)
              | inr apart ↦
                  let before : q < i = omega (arith, below, not_last q apart at) in
                  let c : on.1.cycle k ≡ w.cycle k = ap (λ (c : ℕ → ℕ). c k) on.2 ∙ cycle_other R dims cap slots manner starts v.h r n.0 n'.0 rs rs' sent got sent' got' w n.1 n'.1 others size t law k apart in
                  subst (λ c. (x.over ≡ true) ⊎ MoverMadeHalves (most_rounds R (ranks dims) starts) (j + 1) x.over c x.node.mover) (sym c) ((v.made j all).1 q k before at x (sym (others k apart) ∙ b))
            ],
          );
    } where
      not_last : (j : ℕ) {k : ℕ} → k ≢ r → slice_get order j ≡ Some k → j ≢ i
      not_last j {k} apart at e = apart (get_once order i k r (subst (λ q. slice_get order q ≡ Some k) e at) here)

-- only ranks whose runs were over stood among the first i of an order
pub record NoneTurned {S : Type 0} (order : List ℕ) (i : ℕ) (rs0 rs : List (RankState S)) : Type 0 where
  pub same : (r : ℕ) (x0 x : RankState S) → slice_get rs0 r ≡ Some x0 → slice_get rs r ≡ Some x → x.over ≡ x0.over
  pub over : (q r : ℕ) (x : RankState S) → q < i → slice_get order q ≡ Some r → slice_get rs r ≡ Some x → x.over ≡ true

-- a sweep's loop
pub record Sweeping {S : Type 0} (R : Rules S) (cap : ℕ) (order : List ℕ) (rs0 : List (RankState S)) (b0 : Bank) (steps0 i : ℕ) (rs : List (RankState S)) (b : Bank) (steps : ℕ) : Type 0 where
  pub is_bank : IsBank cap b
  pub same_dims : b.dims ≡ b0.dims
  pub same_slots : b.slots ≡ b0.slots
  pub most_steps : steps ≤ steps0 + i
  pub size : length rs ≡ length rs0
  pub turns : (steps0 < steps) ⊎ NoneTurned order i rs0 rs
  pub fewest : steps0 ≤ steps
  pub posted : (l : ℕ) → l < links b0.dims → length (sent_of b l) + steps0 ≤ length (sent_of b0 l) + steps
  pub completed : all_progress b0.dims rs + steps0 ≤ all_progress b0.dims rs0 + steps
  pub swept : (manner : Manner) (starts : List S) (n : ℕ) (h : ℕ → ℕ → S) → DrivePlan R b0.dims b0.slots starts n → (w : RanksOnBank R b0.dims cap b0.slots manner starts h rs0 (sent_of b0) (got_of b0))
      → AfterSomeTurns R b0.dims cap b0.slots manner starts order i w.cycle rs0 (sent_of b0) (got_of b0) rs (sent_of b) (got_of b)

turns_more : {S : Type 0} (order : List ℕ) (rs0 rs rs' : List (RankState S)) (i r steps0 steps steps' : ℕ) (n n' : RankState S) → slice_get order i ≡ Some r → slice_get rs r ≡ Some n → slice_get rs' r ≡ Some n' → ((k : ℕ) → k ≢ r → slice_get rs' k ≡ slice_get rs k)
    → (n.over ≡ true → n' ≡ n) → (n.over ≡ false → steps' ≡ steps + 1) → steps ≤ steps' → steps0 ≤ steps → (steps0 < steps) ⊎ NoneTurned order i rs0 rs → (steps0 < steps') ⊎ NoneTurned order (i + 1) rs0 rs'
turns_more order rs0 rs rs' i r steps0 steps steps' n n' here at at' others rested turned fewest low (inl more) = inl (omega (arith, more, fewest))
turns_more {S} order rs0 rs rs' i r steps0 steps steps' n n' here at at' others rested turned fewest low (inr none) = elim (cases_Bool n.over) [
  | inr on ↦ let e = turned on in inl (omega (arith, e, low))
  | inl over ↦
      inr (record {
        same = λ k x0 x a b. elim (cases_eq k r) [
          | inl now ↦
              let e : n' ≡ x = get_once rs' r n' x at' (subst (λ q. slice_get rs' q ≡ Some x) now b) in
              ap (λ (y : RankState S). y.over) (sym e) ∙ (ap (λ (y : RankState S). y.over) (rested over) ∙ none.same r x0 n (subst (λ q. slice_get rs0 q ≡ Some x0) now a) at)
          | inr apart ↦ none.same k x0 x a (sym (others k apart) ∙ b)
        ];
        over = λ q k x below placed b. elim (cases_eq k r) [
          | inl now ↦
              let e : n' ≡ x = get_once rs' r n' x at' (subst (λ q. slice_get rs' q ≡ Some x) now b) in
              ap (λ (y : RankState S). y.over) (sym e) ∙ (ap (λ (y : RankState S). y.over) (rested over) ∙ over)
          | inr apart ↦ elim (cases_eq q i) [
            | inl last ↦ absurd (apart (get_once order i k r (subst (λ p. slice_get order p ≡ Some k) last placed) here))
            | inr before ↦ none.over q k x (omega (arith, below, before)) placed (sym (others k apart) ∙ b)
          ]
        ];
      })
]

-- where some rank goes on a whole sweep makes a turn
pub some_turn : {S : Type 0} (p : ℕ) (order : List ℕ) (rs0 rs : List (RankState S)) (steps0 steps : ℕ) → IsOrder p order → length rs0 ≡ p → length rs ≡ length rs0 → (steps0 < steps) ⊎ NoneTurned order (length order) rs0 rs
    → (r : ℕ) (x : RankState S) → slice_get rs0 r ≡ Some x → x.over ≡ false → steps0 < steps
some_turn p order rs0 rs steps0 steps is all size (inl more) r x at on = more
some_turn p order rs0 rs steps0 steps is all size (inr none) r x at on =
    let place = is.each r (omega (arith, within rs0 r x at, all)) in
    let y = find rs r (omega (arith, within rs0 r x at, size)) in
    absurd (true≢false (sym (none.over place.0 r y.0 (within order place.0 r place.1) place.1 y.1) ∙ (none.same r x y.0 at y.1 ∙ on)))

-- a rank that goes on completes at most one epoch by a turn
at_most_one : {S : Type 0} (R : Rules S) (dims : List ℕ) (cap slots r : ℕ) (n n' : RankState S) (sent got sent' got' : Logs) → AfterRank R dims cap slots r n n' sent got sent' got' → n.over ≡ false → progress n' ≤ progress n + 1
at_most_one {S} R dims cap slots r n n' sent got sent' got' t on = elim (t.turned on) [
  | inl stays ↦ let e = stays.epoch in omega (arith, here n' stays.still, here n on, e)
  | inr ends ↦ elim (cases_Bool n'.over) [
    | inl over ↦ let m = ap epoch_in (ends.over over) in let e = ends.same.epoch in omega (arith, last n' over, here n on, m, e)
    | inr off ↦ let e = ends.next off in omega (arith, here n' off, here n on, e)
  ]
] where
  here : (n : RankState S) → n.over ≡ false → progress n ≡ epoch_in n.node.mover
  here n e = ap (λ b. cond b (epoch_in n.node.mover + 1) (epoch_in n.node.mover)) e

  last : (n : RankState S) → n.over ≡ true → progress n ≡ epoch_in n.node.mover + 1
  last n e = ap (λ b. cond b (epoch_in n.node.mover + 1) (epoch_in n.node.mover)) e

-- a turn posts nothing where the rank's run is over
none_posted : {S : Type 0} (R : Rules S) (dims : List ℕ) (cap slots r : ℕ) (n n' : RankState S) (sent got sent' got' : Logs) → AfterRank R dims cap slots r n n' sent got sent' got' → n.over ≡ true → (l : ℕ) → length (sent' l) ≡ length (sent l)
none_posted R dims cap slots r n n' sent got sent' got' t over l = by (sender_at dims l == r) (ap (λ (f : Logs). f l) (t.unturned over).same_sent) (ap (λ (f : Logs). f l) t.own.sent_elsewhere) where
  by : (b : Bool) → cond b (sent' l) [] ≡ cond b (sent l) [] → cond b [] (sent' l) ≡ cond b [] (sent l) → length (sent' l) ≡ length (sent l)
  by true own other = ap length own
  by false own other = ap length other

-- and all ranks complete no more than the turn that was counted
completed_more : {S : Type 0} (R : Rules S) (dims : List ℕ) (cap slots r steps steps' : ℕ) (n n' : RankState S) (rs rs' : List (RankState S)) (sent got sent' got' : Logs) → r < ranks dims → slice_get rs r ≡ Some n → slice_get rs' r ≡ Some n'
    → ((k : ℕ) → k ≢ r → slice_get rs' k ≡ slice_get rs k) → AfterRank R dims cap slots r n n' sent got sent' got' → steps ≤ steps' → (n.over ≡ false → steps' ≡ steps + 1) → all_progress dims rs' + steps ≤ all_progress dims rs + steps'
completed_more {S} R dims cap slots r steps steps' n n' rs rs' sent got sent' got' low at at' others t fewest turn =
    let one = total_one (ranks dims) (λ k. progress_in (slice_get rs k)) (λ k. progress_in (slice_get rs' k)) r low (λ k apart. ap progress_in (sym (others k apart))) in
    let was : progress_in (slice_get rs r) ≡ progress n = ap progress_in at in
    let now : progress_in (slice_get rs' r) ≡ progress n' = ap progress_in at' in
    elim (cases_Bool n.over) [
      | inl over ↦ let e : progress n' ≡ progress n = ap (λ (y : RankState S). progress y) (t.unturned over).same in omega (arith, one, was, now, e, fewest)
      | inr on ↦ let e = at_most_one R dims cap slots r n n' sent got sent' got' t on in let s = turn on in omega (arith, one, was, now, e, s)
    ]

pub sweeping_more : {S : Type 0} (R : Rules S) → Laws R → ClosesLaws → (cap : ℕ) (order : List ℕ) (rs0 : List (RankState S)) (b0 : Bank) (steps0 i r : ℕ) (rs rs' : List (RankState S)) (b b' : Bank) (steps steps' : ℕ) → Sweeping R cap order rs0 b0 steps0 i rs b steps
    → slice_get order i ≡ Some r → r < ranks b.dims → IsBank cap b' → b'.dims ≡ b.dims → b'.slots ≡ b.slots → steps' ≤ steps + 1 → steps ≤ steps' → ((n : RankState S) → slice_get rs r ≡ Some n → n.over ≡ false → steps' ≡ steps + 1) → length rs ≡ ranks b.dims → length rs' ≡ length rs → ((k : ℕ) → k ≢ r → slice_get rs' k ≡ slice_get rs k)
    → ((n n' : RankState S) → slice_get rs r ≡ Some n → slice_get rs' r ≡ Some n' → AfterRank R b.dims cap b.slots r n n' (sent_of b) (got_of b) (sent_of b') (got_of b'))
    → Sweeping R cap order rs0 b0 steps0 (i + 1) rs' b' steps'
sweeping_more R laws closes cap order rs0 b0 steps0 i r rs rs' b b' steps steps' v here low law ed es count fewest turn all size others turned =
    record {
      is_bank = law;
      same_dims = ed ∙ v.same_dims;
      same_slots = es ∙ v.same_slots;
      most_steps = omega (arith, count, v.most_steps);
      size = size ∙ v.size;
      fewest = omega (arith, fewest, v.fewest);
      posted = λ l below.
          let n = find rs r (omega (arith, low, all)) in
          let n' = find rs' r (omega (arith, low, all, size)) in
          let t = turned n.0 n'.0 n.1 n'.1 in
          let before = v.posted l below in
          elim (cases_Bool n.0.over) [
            | inl over ↦ let same = none_posted R b.dims cap b.slots r n.0 n'.0 (sent_of b) (got_of b) (sent_of b') (got_of b') t over l in omega (arith, before, same, fewest)
            | inr on ↦ let more = posted_once b.dims r (sent_of b) (got_of b) (sent_of b') (got_of b') t.own l (subst (λ d. l < links d) (sym v.same_dims) below) in let s = turn n.0 n.1 on in omega (arith, before, more, s)
          ];
      completed = (let n = find rs r (omega (arith, low, all)) in
          let n' = find rs' r (omega (arith, low, all, size)) in
          let more = completed_more R b.dims cap b.slots r steps steps' n.0 n'.0 rs rs' (sent_of b) (got_of b) (sent_of b') (got_of b') low n.1 n'.1 others (turned n.0 n'.0 n.1 n'.1) fewest (turn n.0 n.1) in
          let here = subst (λ d. all_progress d rs' + steps ≤ all_progress d rs + steps') v.same_dims more in
          let before = v.completed in
          omega (arith, here, before));
      turns = (let n = find rs r (omega (arith, low, all)) in
          let n' = find rs' r (omega (arith, low, all, size)) in
          turns_more order rs0 rs rs' i r steps0 steps steps' n.0 n'.0 here n.1 n'.1 others (λ over. ((turned n.0 n'.0 n.1 n'.1).unturned over).same) (turn n.0 n.1) fewest v.fewest v.turns);
      swept = λ manner starts n h p w.
          swept_more R laws closes n b0.dims cap b0.slots manner starts order i r w.cycle rs0 rs rs' (sent_of b0) (got_of b0) (sent_of b) (got_of b) (sent_of b') (got_of b') p here (subst (λ d. r < ranks d) v.same_dims low) size others
          (lawful cap b' b0.dims b0.slots law (ed ∙ v.same_dims) (es ∙ v.same_slots))
          (λ x x' was now. subst (λ d. AfterRank R d cap b0.slots r x x' (sent_of b) (got_of b) (sent_of b') (got_of b')) v.same_dims (subst (λ k. AfterRank R b.dims cap k r x x' (sent_of b) (got_of b) (sent_of b') (got_of b')) v.same_slots (turned x x' was now)))
          (v.swept manner starts n h p w);
    }

-- all ranks in the midst of a sweep
pub on_bank_at : {S : Type 0} (R : Rules S) (cap : ℕ) (order : List ℕ) (rs0 : List (RankState S)) (b0 : Bank) (steps0 i : ℕ) (rs : List (RankState S)) (b : Bank) (steps : ℕ) → Sweeping R cap order rs0 b0 steps0 i rs b steps
    → MayTurnRanks R cap b0 rs0 → MayTurnRanks R cap b rs
on_bank_at R cap order rs0 b0 steps0 i rs b steps v may =
    let s = v.swept may.manner may.starts may.rounds may.h may.plan may.on_bank in
    record {
      manner = may.manner;
      starts = may.starts;
      rounds = may.rounds;
      h = s.h;
      plan = subst (λ d. DrivePlan R d b.slots may.starts may.rounds) (sym v.same_dims) (subst (λ k. DrivePlan R b0.dims k may.starts may.rounds) (sym v.same_slots) may.plan);
      on_bank = subst (λ d. RanksOnBank R d cap b.slots may.manner may.starts s.h rs (sent_of b) (got_of b)) (sym v.same_dims) (subst (λ k. RanksOnBank R b0.dims cap k may.manner may.starts s.h rs (sent_of b) (got_of b)) (sym v.same_slots) s.on_bank);
    }

-- the rank at a place of an order
pub order_at : (order : List ℕ) (i : ℕ) → i < length order → slice_get order i ≡ Some (get_or order i 0)
order_at order i low = let f : (x : ℕ) × (slice_get order i ≡ Some x) = find order i low in f.1 ∙ ap Some (sym (get_or_from_slice_get order i f.0 0 f.1))
