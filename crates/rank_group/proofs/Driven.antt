-- All sweeps of a run.
use Rattle.std.proofs.Common.{◌≡◌, ◌⊎◌, ℕ, zero, suc, ◌+◌, ◌-◌, ◌*◌, ◌<◌, ◌≤◌, ◌&&◌, Bool, true, false, cond, List, [], ◌∷◌, length, Some, slice_get, refl, sym, ap, subst, ◌∙◌, arith, inl, inr}
use Rattle.std.proofs.lemmas.Bool.{cases_Bool, cases_lt, true≢false, and_parts}
use Rattle.std.proofs.Math.Nat.{mul-le-mul_left}
use Rattle.std.specs.List.{list_all}
use Rattle.list_laws.proofs.Lists.{find, within, get_once}
use Rattle.route_tensor.specs.Grid.{ranks}
use Rattle.port_bank.specs.Logs.{Logs}
use Rattle.port_bank.specs.Plain.{Bank, IsBank, sent_of, got_of}
use Rattle.rank_group.specs.Closes.{ClosesLaws}
use Rattle.convey.specs.Rest.{RestLaw}
use Rattle.round_program.specs.Rules.{Rules}
use Rattle.round_program.specs.Laws.{Laws}
use Rattle.list_laws.specs.Sums.{total}
use Rattle.route_tensor.proofs.Coordinates.{ranks_some}
use Rattle.exstack.specs.Lockstep.{finished_in}
use Rattle.rank_node.specs.Movers.{MoverState, Manner, epoch_in, manner_in}
use Rattle.rank_node.specs.Movers.MoverState.{Conveying, Stacking}
use Rattle.rank_node.specs.Movers.Manner.{ByConveyor, ByExstack}
use Rattle.rank_group.specs.RoundProgress.{most_rounds, rounds_made, HasMadeHalves, MoverMadeHalves}
use Rattle.rank_group.specs.Transcript.{turns_within}
use Rattle.rank_group.specs.Ranks.{RankState, IsOrder, progress}
use Rattle.rank_group.proofs.Worlds.{still_within, over_at_last}
use Rattle.rank_group.proofs.Moves.{moves_few}
use Rattle.rank_group.proofs.Resting.{all_past}
use Rattle.rank_group.proofs.Potential.{sweeps_within, turns_low, turns_more, least, least_low, least_high}
use Rattle.rank_group.proofs.Quotas.{round_turns}
use Rattle.rank_group.proofs.Halves.{total_more, halves_low}
use Rattle.rank_group.proofs.Worlds.{stack_of}
use Rattle.rank_group.proofs.Stacks.{over_in, stack_in, stack_is, all_stacks}
use Rattle.rank_group.proofs.MadeHalves.{to_stack, of_stack}
use Rattle.rank_group.specs.RanksOverBank.{MayTurnRanks, RanksOnBank, moves, BlocksMover, DrivePlan, AfterSomeTurns, AllMadeHalves}
use Rattle.rank_group.specs.Drives.{progs_of}

-- a rank whose run isn't over
pub record GoesOn {S : Type 0} (rs : List (RankState S)) : Type 0 where
  pub rank : ℕ
  pub state : RankState S
  pub at : slice_get rs rank ≡ Some state
  pub still : state.over ≡ false

-- where not all are over, some goes on
pub some_goes : {S : Type 0} (rs : List (RankState S)) → list_all (λ (n : RankState S). n.over) rs ≡ false → GoesOn rs
some_goes [] e = absurd (true≢false e)
some_goes (x ∷ xs) e = elim (cases_Bool x.over) [
  | inl t ↦
      let r = some_goes xs (sym (ap (λ b. b && list_all (λ n. n.over) xs) t) ∙ e) in
      record { rank = suc r.rank; state = r.state; at = r.at; still = r.still }
  | inr f ↦ record { rank = 0; state = x; at = refl; still = f }
]

-- and where all are, each is
pub each_over : {S : Type 0} (rs : List (RankState S)) → list_all (λ (n : RankState S). n.over) rs ≡ true → (r : ℕ) (x : RankState S) → slice_get rs r ≡ Some x → x.over ≡ true
each_over [] e r x at = absurd (omega (arith, within [] r x at))
each_over (y ∷ ys) e zero x at = ap (λ z. z.over) (sym (get_once (y ∷ ys) 0 y x refl at)) ∙ (and_parts y.over (list_all (λ n. n.over) ys) e).0
each_over (y ∷ ys) e (suc r) x at = each_over ys (and_parts y.over (list_all (λ n. n.over) ys) e).1 r x at

-- at most so many sweeps move something, end an epoch or make half a round
abbrev pub most_sweeps : {S : Type 0} → Rules S → Manner → List ℕ → List S → ℕ → ℕ
most_sweeps R (ByConveyor steady) dims starts n = sweeps_within R dims starts n
most_sweeps R ByExstack dims starts n = 2 * total (2 * n) (most_rounds R (ranks dims) starts)

-- so many sweeps were made, by what they left
abbrev pub HasSwept : {S : Type 0} → Rules S → Manner → List ℕ → List S → ℕ → (ℕ → ℕ) → List (RankState S) → Logs → Logs → Type 0
HasSwept R (ByConveyor steady) dims starts sweeps cycle rs sent got = sweeps ≤ moves dims rs sent got + least rs
HasSwept R ByExstack dims starts sweeps cycle rs sent got = AllMadeHalves (most_rounds R (ranks dims) starts) sweeps cycle rs

-- after some sweeps: all ranks, and how many turns were made
pub record Reached {S : Type 0} (R : Rules S) (dims : List ℕ) (cap slots : ℕ) (manner : Manner) (starts : List S) (steps0 : ℕ) (rs : List (RankState S)) (sent got : Logs) (steps : ℕ) : Type 0 where
  pub h : ℕ → ℕ → S
  pub on_bank : RanksOnBank R dims cap slots manner starts h rs sent got
  pub sweeps : ℕ
  pub swept : HasSwept R manner dims starts sweeps on_bank.cycle rs sent got
  pub count : steps ≤ steps0 + ranks dims * sweeps

-- over conveyors
module _ {S : Type 0} (R : Rules S) (laws : Laws R) (law : ClosesLaws) (rest : RestLaw) (dims : List ℕ) (cap slots : ℕ) (steady : Bool) (starts : List S) (n : ℕ) (plan : DrivePlan R dims slots starts n) where
  -- no more sweeps than a run has
  pub low : (h : ℕ → ℕ → S) (rs : List (RankState S)) (sent got : Logs) → RanksOnBank R dims cap slots (ByConveyor steady) starts h rs sent got → moves dims rs sent got + least rs ≤ sweeps_within R dims starts n
  low h rs sent got w =
      let m = moves_few R laws law dims cap slots steady starts h rs sent got w plan.shape plan.most n plan.start plan.rounds in
      let l : least rs ≤ 2 * n = by rs refl in
      omega (arith, m, l) where
        by : (xs : List (RankState S)) → rs ≡ xs → least xs ≤ 2 * n
        by [] e = omega arith
        by (x ∷ xs) e =
            let a = least_low (x ∷ xs) 0 x refl in
            let at : slice_get rs 0 ≡ Some x = ap (λ ys. slice_get ys 0) e in
            elim (cases_Bool x.over) [
              | inl t ↦
                  let p : progress x ≡ epoch_in x.node.mover + 1 = ap (λ b. cond b (epoch_in x.node.mover + 1) (epoch_in x.node.mover)) t in
                  let b = (over_at_last R laws law dims cap slots (ByConveyor steady) starts h rs sent got w.ranked plan.shape plan.most n plan.start plan.rounds 0 x at t).0 in
                  omega (arith, a, p, b)
              | inr f ↦
                  let p : progress x ≡ epoch_in x.node.mover = ap (λ b. cond b (epoch_in x.node.mover + 1) (epoch_in x.node.mover)) f in
                  let b = still_within R laws law dims cap slots (ByConveyor steady) starts h rs sent got w.ranked plan.shape plan.most n plan.start plan.rounds 0 x at f in
                  omega (arith, a, p, b)
            ]

  -- and fewer where some rank goes on
  pub lower : (h : ℕ → ℕ → S) (rs : List (RankState S)) (sent got : Logs) → RanksOnBank R dims cap slots (ByConveyor steady) starts h rs sent got → GoesOn rs → moves dims rs sent got + least rs + 1 ≤ sweeps_within R dims starts n
  lower h rs sent got w on =
      let m = moves_few R laws law dims cap slots steady starts h rs sent got w plan.shape plan.most n plan.start plan.rounds in
      let a = least_low rs on.rank on.state on.at in
      let x = on.state in
      let p : progress x ≡ epoch_in x.node.mover = ap (λ b. cond b (epoch_in x.node.mover + 1) (epoch_in x.node.mover)) on.still in
      let b = still_within R laws law dims cap slots (ByConveyor steady) starts h rs sent got w.ranked plan.shape plan.most n plan.start plan.rounds on.rank x on.at on.still in
      omega (arith, m, a, p, b)

  module _ (order : List ℕ) (is : IsOrder (ranks dims) order) (h : ℕ → ℕ → S) (rs rs' : List (RankState S)) (sent got sent' got' : Logs)
      (w : RanksOnBank R dims cap slots (ByConveyor steady) starts h rs sent got) (on : GoesOn rs) (cycle0 : ℕ → ℕ) (s : AfterSomeTurns R dims cap slots (ByConveyor steady) starts order (length order) cycle0 rs sent got rs' sent' got') where
    before : (r : ℕ) (x : RankState S) → slice_get rs' r ≡ Some x → (y : RankState S) × (slice_get rs r ≡ Some y)
    before r x at = find rs r (omega (arith, within rs' r x at, s.on_bank.ranked.all, w.ranked.all))

    some : 0 < length rs'
    some = omega (arith, within rs on.rank on.state on.at, s.on_bank.ranked.all, w.ranked.all)

    -- the least epoch doesn't fall
    kept : (r : ℕ) (x : RankState S) → slice_get rs' r ≡ Some x → least rs ≤ progress x
    kept r x at =
        let y = before r x at in
        let a = least_low rs r y.0 y.1 in
        let b = s.forward r y.0 x y.1 at in
        omega (arith, a, b)

    -- a sweep moves something, or ends the least epoch
    pub more : moves dims rs sent got + least rs + 1 ≤ moves dims rs' sent' got' + least rs'
    more =
        let keeps = least_high rs' (least rs) some kept in
        elim (cases_lt (moves dims rs sent got) (moves dims rs' sent' got')) [
          | inl moved ↦ omega (arith, moved, keeps)
          | inr still ↦
              let light : moves dims rs' sent' got' ≤ moves dims rs sent got = omega (arith, still) in
              let x = on.state in
              let a = least_low rs on.rank x on.at in
              let p : progress x ≡ epoch_in x.node.mover = ap (λ b. cond b (epoch_in x.node.mover + 1) (epoch_in x.node.mover)) on.still in
              let b = still_within R laws law dims cap slots (ByConveyor steady) starts h rs sent got w.ranked plan.shape plan.most n plan.start plan.rounds on.rank x on.at on.still in
              let past = all_past R laws law rest dims cap slots steady starts s.h rs' sent' got' s.on_bank plan.shape plan.most n plan.start plan.rounds plan.some (least rs) (omega (arith, a, p, b)) kept (rested light) in
              let up = least_high rs' (least rs + 1) some past in
              let g = s.grown in
              omega (arith, up, g)
        ] where
          rested : moves dims rs' sent' got' ≤ moves dims rs sent got → (r : ℕ) (x : RankState S) → slice_get rs' r ≡ Some x → x.over ≡ false → progress x ≡ least rs → BlocksMover dims slots r x.node.mover sent' got'
          rested light r x at over here =
              let y = before r x at in
              let a = least_low rs r y.0 y.1 in
              let b = s.forward r y.0 x y.1 at in
              let place = is.each r (omega (arith, within rs' r x at, s.on_bank.ranked.all)) in
              s.rests light place.0 r (within order place.0 r place.1) place.1 y.0 x y.1 at over (omega (arith, a, b, here))

-- over exstacks
module _ {S : Type 0} (R : Rules S) (laws : Laws R) (law : ClosesLaws) (dims : List ℕ) (cap slots : ℕ) (starts : List S) (n : ℕ) (plan : DrivePlan R dims slots starts n) (h : ℕ → ℕ → S) (rs : List (RankState S)) (sent got : Logs)
    (w : RanksOnBank R dims cap slots ByExstack starts h rs sent got) where
  abbrev top : ℕ
  top = total (2 * n) (most_rounds R (ranks dims) starts)

  -- a rank that goes on hasn't made all rounds, and one whose run is over has
  made_lower : (j r : ℕ) (x : RankState S) → slice_get rs r ≡ Some x → x.over ≡ false → MoverMadeHalves (most_rounds R (ranks dims) starts) j x.over (w.cycle r) x.node.mover → j + 1 ≤ 2 * top
  made_lower j r x at on made =
      let most : ℕ → ℕ = most_rounds R (ranks dims) starts in
      let low : r < ranks dims = omega (arith, within rs r x at, w.ranked.all) in
      let all = all_stacks R laws law dims cap slots starts h rs sent got w n plan in
      let off : over_in (slice_get rs r) ≡ false = ap over_in at ∙ on in
      let s : finished_in (w.cycle r) (stack_of x.node.mover).stage < most (stack_of x.node.mover).epoch = subst (λ o. finished_in (w.cycle r) (stack_in o).stage < most (stack_in o).epoch) at (all.short r low off) in
      let b : (stack_of x.node.mover).epoch < 2 * n = subst (λ o. (stack_in o).epoch < 2 * n) at (all.within r low off) in
      let m : HasMadeHalves most j false (w.cycle r) (stack_of x.node.mover) = subst (λ o. HasMadeHalves most j o (w.cycle r) (stack_of x.node.mover)) on (to_stack most j x.over (w.cycle r) x.node.mover cap (stack_is R laws law dims cap slots starts h rs sent got w n plan r x at) made) in
      let a = halves_low most j false (w.cycle r) (stack_of x.node.mover) m in
      let t = total_more most (suc (stack_of x.node.mover).epoch) (2 * n) (omega (arith, b)) in
      omega (arith, s, a, t)

  made_over : (r : ℕ) (x : RankState S) → slice_get rs r ≡ Some x → x.over ≡ true → rounds_made (most_rounds R (ranks dims) starts) x.over (w.cycle r) (stack_of x.node.mover) ≡ top
  made_over r x at over =
      let most : ℕ → ℕ = most_rounds R (ranks dims) starts in
      let low : r < ranks dims = omega (arith, within rs r x at, w.ranked.all) in
      let all = all_stacks R laws law dims cap slots starts h rs sent got w n plan in
      let e : (stack_of x.node.mover).epoch + 1 ≡ 2 * n = subst (λ o. (stack_in o).epoch + 1 ≡ 2 * n) at (all.last r low (ap over_in at ∙ over)) in
      ap (λ o. rounds_made most o (w.cycle r) (stack_of x.node.mover)) over ∙ ap (λ k. total k most) e

  made_low : (j r : ℕ) (x : RankState S) → slice_get rs r ≡ Some x → MoverMadeHalves (most_rounds R (ranks dims) starts) j x.over (w.cycle r) x.node.mover → j ≤ 2 * top
  made_low j r x at made = elim (cases_Bool x.over) [
    | inr on ↦ let a = made_lower j r x at on made in omega (arith, a)
    | inl over ↦
        let m = to_stack (most_rounds R (ranks dims) starts) j x.over (w.cycle r) x.node.mover cap (stack_is R laws law dims cap slots starts h rs sent got w n plan r x at) made in
        let t = made_over r x at over in
        elim m [
          | inl few ↦ omega (arith, few, t)
          | inr here ↦ absurd (true≢false (sym over ∙ here.1))
        ]
  ]

  pub halves_within : (j : ℕ) → AllMadeHalves (most_rounds R (ranks dims) starts) j w.cycle rs → j ≤ 2 * top
  halves_within j all =
      let some = ranks_some dims w.ranked.grid.positive in
      let x : (x : RankState S) × (slice_get rs 0 ≡ Some x) = find rs 0 (omega (arith, some, w.ranked.all)) in
      made_low j 0 x.0 x.1 (all 0 x.0 x.1)

  pub halves_lower : GoesOn rs → (j : ℕ) → AllMadeHalves (most_rounds R (ranks dims) starts) j w.cycle rs → j + 1 ≤ 2 * top
  halves_lower on j all = made_lower j on.rank on.state on.at on.still (all on.rank on.state on.at)

  -- one whose run is over has made as many as any
  over_made : (j r : ℕ) (x : RankState S) → j ≤ 2 * top → slice_get rs r ≡ Some x → x.over ≡ true → MoverMadeHalves (most_rounds R (ranks dims) starts) j x.over (w.cycle r) x.node.mover
  over_made j r x few at over =
      let t = made_over r x at over in
      of_stack (most_rounds R (ranks dims) starts) j x.over (w.cycle r) x.node.mover cap (stack_is R laws law dims cap slots starts h rs sent got w n plan r x at) (inl (omega (arith, few, t)))

  -- so a whole sweep makes half a round more of every rank
  pub halves_more : (order : List ℕ) → IsOrder (ranks dims) order → (j : ℕ) → j + 1 ≤ 2 * top
      → ((q r : ℕ) → q < length order → slice_get order q ≡ Some r → (x : RankState S) → slice_get rs r ≡ Some x → (x.over ≡ true) ⊎ MoverMadeHalves (most_rounds R (ranks dims) starts) (j + 1) x.over (w.cycle r) x.node.mover)
      → AllMadeHalves (most_rounds R (ranks dims) starts) (j + 1) w.cycle rs
  halves_more order is j few made r x at =
      let place = is.each r (omega (arith, within rs r x at, w.ranked.all)) in
      elim (made place.0 r (within order place.0 r place.1) place.1 x at) [
        | inl over ↦ over_made (j + 1) r x few at over
        | inr more ↦ more
      ]

-- over either
module _ {S : Type 0} (R : Rules S) (laws : Laws R) (law : ClosesLaws) (rest : RestLaw) (dims : List ℕ) (cap slots : ℕ) (starts : List S) (n : ℕ) (plan : DrivePlan R dims slots starts n) where
  turns_enough : (manner : Manner) → ranks dims * most_sweeps R manner dims starts n ≤ turns_within R manner dims starts n
  turns_enough (ByConveyor steady) = turns_low R steady dims starts n
  turns_enough ByExstack = round_turns R laws dims plan.shape plan.most starts plan.start n

  sweeps_low : (manner : Manner) (h : ℕ → ℕ → S) (rs : List (RankState S)) (sent got : Logs) (w : RanksOnBank R dims cap slots manner starts h rs sent got) (sweeps : ℕ) → HasSwept R manner dims starts sweeps w.cycle rs sent got → sweeps ≤ most_sweeps R manner dims starts n
  sweeps_low (ByConveyor steady) h rs sent got w sweeps made = let a = low R laws law rest dims cap slots steady starts n plan h rs sent got w in omega (arith, a, made)
  sweeps_low ByExstack h rs sent got w sweeps made = halves_within R laws law dims cap slots starts n plan h rs sent got w sweeps made

  sweeps_lower : (manner : Manner) (h : ℕ → ℕ → S) (rs : List (RankState S)) (sent got : Logs) (w : RanksOnBank R dims cap slots manner starts h rs sent got) → GoesOn rs → (sweeps : ℕ) → HasSwept R manner dims starts sweeps w.cycle rs sent got
      → sweeps + 1 ≤ most_sweeps R manner dims starts n
  sweeps_lower (ByConveyor steady) h rs sent got w on sweeps made = let a = lower R laws law rest dims cap slots steady starts n plan h rs sent got w on in omega (arith, a, made)
  sweeps_lower ByExstack h rs sent got w on sweeps made = halves_lower R laws law dims cap slots starts n plan h rs sent got w on sweeps made

  -- a sweep is one more
  sweep_more : (manner : Manner) (order : List ℕ) → IsOrder (ranks dims) order → (h : ℕ → ℕ → S) (rs rs' : List (RankState S)) (sent got sent' got' : Logs) (w : RanksOnBank R dims cap slots manner starts h rs sent got) → GoesOn rs
      → (s : AfterSomeTurns R dims cap slots manner starts order (length order) w.cycle rs sent got rs' sent' got') → (sweeps : ℕ) → HasSwept R manner dims starts sweeps w.cycle rs sent got → HasSwept R manner dims starts (sweeps + 1) s.on_bank.cycle rs' sent' got'
  sweep_more (ByConveyor steady) order is h rs rs' sent got sent' got' w on s sweeps made =
      let a = more R laws law rest dims cap slots steady starts n plan order is h rs rs' sent got sent' got' w on w.cycle s in
      omega (arith, a, made)
  sweep_more ByExstack order is h rs rs' sent got sent' got' w on s sweeps made =
      halves_more R laws law dims cap slots starts n plan s.h rs' sent' got' s.on_bank order is sweeps (halves_lower R laws law dims cap slots starts n plan h rs sent got w on sweeps made) (s.made sweeps made).1

  module _ (manner : Manner) where
    -- so the turns are bounded
    pub steps_low : (steps0 steps : ℕ) (rs : List (RankState S)) (sent got : Logs) → Reached R dims cap slots manner starts steps0 rs sent got steps → steps ≤ steps0 + turns_within R manner dims starts n
    steps_low steps0 steps rs sent got r =
        let a = mul-le-mul_left (ranks dims) (sweeps_low manner r.h rs sent got r.on_bank r.sweeps r.swept) in
        let b = turns_enough manner in
        let c = r.count in
        omega (arith, a, b, c)

    -- also where a sweep is broken off
    pub steps_lower : (steps0 steps steps' : ℕ) (rs : List (RankState S)) (sent got : Logs) → GoesOn rs → Reached R dims cap slots manner starts steps0 rs sent got steps → steps' ≤ steps + ranks dims → steps' ≤ steps0 + turns_within R manner dims starts n
    steps_lower steps0 steps steps' rs sent got on r more' =
        let a = mul-le-mul_left (ranks dims) (sweeps_lower manner r.h rs sent got r.on_bank on r.sweeps r.swept) in
        let b = turns_enough manner in
        let c = r.count in
        omega (arith, a, b, c, more')

    pub reached_more : (order : List ℕ) → IsOrder (ranks dims) order → (rs rs' : List (RankState S)) (sent got sent' got' : Logs) (steps0 steps steps' : ℕ) → GoesOn rs → (r : Reached R dims cap slots manner starts steps0 rs sent got steps)
        → AfterSomeTurns R dims cap slots manner starts order (length order) r.on_bank.cycle rs sent got rs' sent' got' → steps' ≤ steps + length order → Reached R dims cap slots manner starts steps0 rs' sent' got' steps'
    reached_more order is rs rs' sent got sent' got' steps0 steps steps' on r s turned =
        record {
          h = s.h;
          on_bank = s.on_bank;
          sweeps = r.sweeps + 1;
          swept = sweep_more manner order is r.h rs rs' sent got sent' got' r.on_bank on s r.sweeps r.swept;
          count = (let a = r.count in let b = is.size in let c = next (ranks dims) r.sweeps in omega (arith, a, b, c, turned));
        } where
          next : (p k : ℕ) → p * (k + 1) ≡ p * k + p
          next p k = omega arith

-- with which transport a drive's first rank was made
abbrev pub manner_in_all : {S : Type 0} → List (RankState S) → Manner
manner_in_all [] = ByExstack
manner_in_all (x ∷ xs) = manner_in x.node.mover

-- nothing was swept yet
none_swept : {S : Type 0} (R : Rules S) (manner : Manner) (dims : List ℕ) (cap slots : ℕ) (starts : List S) (h : ℕ → ℕ → S) (rs : List (RankState S)) (sent got : Logs) (w : RanksOnBank R dims cap slots manner starts h rs sent got) → HasSwept R manner dims starts 0 w.cycle rs sent got
none_swept R (ByConveyor steady) dims cap slots starts h rs sent got w = omega arith
none_swept {S} R ByExstack dims cap slots starts h rs sent got w = λ r x at. by x.over (w.cycle r) x.node.mover where
  by : (o : Bool) (c : ℕ) (m : MoverState) → MoverMadeHalves (most_rounds R (ranks dims) starts) 0 o c m
  by o c (Conveying y) = tt
  by o c (Stacking k y) = inl (omega arith)

-- the loop over all sweeps
pub record Driving {S : Type 0} (R : Rules S) (cap : ℕ) (rs0 : List (RankState S)) (b0 : Bank) (steps0 : ℕ) (rs : List (RankState S)) (b : Bank) (steps : ℕ) : Type 0 where
  pub is_bank : IsBank cap b
  pub same_dims : b.dims ≡ b0.dims
  pub same_slots : b.slots ≡ b0.slots
  pub reached : (manner : Manner) (starts : List S) (n : ℕ) (h : ℕ → ℕ → S) → DrivePlan R b0.dims b0.slots starts n → RanksOnBank R b0.dims cap b0.slots manner starts h rs0 (sent_of b0) (got_of b0)
      → Reached R b0.dims cap b0.slots manner starts steps0 rs (sent_of b) (got_of b) steps

pub driving_none : {S : Type 0} (R : Rules S) (cap : ℕ) (rs0 : List (RankState S)) (b0 : Bank) (steps0 : ℕ) → IsBank cap b0 → Driving R cap rs0 b0 steps0 rs0 b0 steps0
driving_none R cap rs0 b0 steps0 is =
    record { is_bank = is; same_dims = refl; same_slots = refl; reached = λ manner starts n h p w. record { h = h; on_bank = w; sweeps = 0; swept = none_swept R manner b0.dims cap b0.slots starts h rs0 (sent_of b0) (got_of b0) w; count = omega arith } }

abbrev pub most_of : {S : Type 0} → Rules S → List S → ℕ
most_of R [] = 0
most_of R (s ∷ ss) = R.most s

-- how many turns are left at most
abbrev pub left : {S : Type 0} → Rules S → List (RankState S) → Bank → ℕ → ℕ → ℕ
left R rs0 b0 steps0 steps = steps0 + turns_within R (manner_in_all rs0) b0.dims (progs_of rs0) (most_of R (progs_of rs0)) - steps

module _ {S : Type 0} (R : Rules S) (cap : ℕ) (rs0 : List (RankState S)) (b0 : Bank) (steps0 : ℕ) (rs : List (RankState S)) (b : Bank) (steps : ℕ) (v : Driving R cap rs0 b0 steps0 rs b steps) where
  -- all ranks between two sweeps
  pub world_now : (manner : Manner) (starts : List S) (n : ℕ) (h : ℕ → ℕ → S) → DrivePlan R b0.dims b0.slots starts n → RanksOnBank R b0.dims cap b0.slots manner starts h rs0 (sent_of b0) (got_of b0) → MayTurnRanks R cap b rs
  world_now manner starts n h p w =
      let s = v.reached manner starts n h p w in
      record {
        manner = manner;
        starts = starts;
        rounds = n;
        h = s.h;
        plan = subst (λ d. DrivePlan R d b.slots starts n) (sym v.same_dims) (subst (λ k. DrivePlan R b0.dims k starts n) (sym v.same_slots) p);
        on_bank = subst (λ d. RanksOnBank R d cap b.slots manner starts s.h rs (sent_of b) (got_of b)) (sym v.same_dims) (subst (λ k. RanksOnBank R b0.dims cap k manner starts s.h rs (sent_of b) (got_of b)) (sym v.same_slots) s.on_bank);
      }

  module _ (laws : Laws R) (law : ClosesLaws) (rest : RestLaw) (order : List ℕ) (is : IsOrder (ranks b0.dims) order) (on : GoesOn rs) (rs' : List (RankState S)) (b' : Bank) (steps' : ℕ)
      (lawful : IsBank cap b') (ed : b'.dims ≡ b.dims) (es : b'.slots ≡ b.slots) (turned : steps' ≤ steps + length order)
      (swept : (manner : Manner) (starts : List S) (n : ℕ) (h : ℕ → ℕ → S) → DrivePlan R b.dims b.slots starts n → (w : RanksOnBank R b.dims cap b.slots manner starts h rs (sent_of b) (got_of b))
      → AfterSomeTurns R b.dims cap b.slots manner starts order (length order) w.cycle rs (sent_of b) (got_of b) rs' (sent_of b') (got_of b')) where
    swept_at : (manner : Manner) (starts : List S) (n : ℕ) (h : ℕ → ℕ → S) → DrivePlan R b0.dims b0.slots starts n → (w : RanksOnBank R b0.dims cap b0.slots manner starts h rs (sent_of b) (got_of b))
        → AfterSomeTurns R b0.dims cap b0.slots manner starts order (length order) w.cycle rs (sent_of b) (got_of b) rs' (sent_of b') (got_of b')
    swept_at =
        subst (λ d. (manner : Manner) (starts : List S) (n : ℕ) (h : ℕ → ℕ → S) → DrivePlan R d b0.slots starts n → (w : RanksOnBank R d cap b0.slots manner starts h rs (sent_of b) (got_of b))
        → AfterSomeTurns R d cap b0.slots manner starts order (length order) w.cycle rs (sent_of b) (got_of b) rs' (sent_of b') (got_of b')) v.same_dims
        (subst (λ k. (manner : Manner) (starts : List S) (n : ℕ) (h : ℕ → ℕ → S) → DrivePlan R b.dims k starts n → (w : RanksOnBank R b.dims cap k manner starts h rs (sent_of b) (got_of b))
        → AfterSomeTurns R b.dims cap k manner starts order (length order) w.cycle rs (sent_of b) (got_of b) rs' (sent_of b') (got_of b')) v.same_slots swept)

    reached' : (manner : Manner) (starts : List S) (n : ℕ) (h : ℕ → ℕ → S) → DrivePlan R b0.dims b0.slots starts n → RanksOnBank R b0.dims cap b0.slots manner starts h rs0 (sent_of b0) (got_of b0)
        → Reached R b0.dims cap b0.slots manner starts steps0 rs' (sent_of b') (got_of b') steps'
    reached' manner starts n h p w0 =
        let r = v.reached manner starts n h p w0 in
        reached_more R laws law rest b0.dims cap b0.slots starts n p manner order is rs rs' (sent_of b) (got_of b) (sent_of b') (got_of b') steps0 steps steps' on r (swept_at manner starts n r.h p r.on_bank) turned

    pub driving_more : Driving R cap rs0 b0 steps0 rs' b' steps'
    driving_more = record { is_bank = lawful; same_dims = ed ∙ v.same_dims; same_slots = es ∙ v.same_slots; reached = reached' }

    pub fewer_left : steps < steps' → (manner : Manner) (n : ℕ) (h : ℕ → ℕ → S) (p : DrivePlan R b0.dims b0.slots (progs_of rs0) n) → n ≤ p.most → RanksOnBank R b0.dims cap b0.slots manner (progs_of rs0) h rs0 (sent_of b0) (got_of b0)
        → left R rs0 b0 steps0 steps' < left R rs0 b0 steps0 steps
    fewer_left rose manner n h p few w0 =
        let r = reached' manner (progs_of rs0) n h p w0 in
        let l = steps_low R laws law rest b0.dims cap b0.slots (progs_of rs0) n p manner steps0 steps' rs' (sent_of b') (got_of b') r in
        let some : 0 < length rs0 = let q = ranks_some b0.dims w0.ranked.grid.positive in omega (arith, q, w0.ranked.all) in
        let f = first rs0 refl some in
        let top = turns_more R manner b0.dims (progs_of rs0) n (most_of R (progs_of rs0)) (omega (arith, few, f.0)) in
        let same = ap (λ k. turns_within R k b0.dims (progs_of rs0) (most_of R (progs_of rs0))) f.1 in
        omega (arith, l, top, same, rose) where
          first : (xs : List (RankState S)) → rs0 ≡ xs → 0 < length xs → (most_of R (progs_of xs) ≡ p.most) × (manner_in_all xs ≡ manner)
          first [] e some = absurd (omega (arith, some))
          first (x ∷ xs) e some =
              let at : slice_get rs0 0 ≡ Some x = ap (λ ys. slice_get ys 0) e in
              ((p.start.each 0 x.node.run.prog (ap (λ ys. slice_get (progs_of ys) 0) e)).same_most, (w0.ranked.each 0 x at).same_manner)
