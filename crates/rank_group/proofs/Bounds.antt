-- What a run moves at most.
use Rattle.std.proofs.Common.{◌≡◌, ℕ, zero, suc, ◌+◌, ◌-◌, ◌*◌, ◌^◌, ◌<◌, ◌≤◌, Bool, true, false, cond, min, List, length, Some, slice_get, All, refl, sym, ap, subst, ◌∙◌, arith, inl, inr}
use Rattle.std.proofs.lemmas.Bool.{cases_Bool, cases_lt}
use Rattle.bale_items.specs.declared.item.Item.{Item}
use Rattle.list_laws.specs.Sums.{total}
use Rattle.list_laws.proofs.Sums.{total_le, total_zero, total_bound, total_list}
use Rattle.list_laws.proofs.Lists.{find}
use Rattle.route_tensor.specs.Grid.{ranks}
use Rattle.port_bank.specs.Logs.{Logs, starting_at, ending_at}
use Rattle.port_bank.specs.Flow.{flow}
use Rattle.port_bank.specs.Machine.{Part}
use Rattle.rank_group.specs.Closes.{ClosesLaws}
use Rattle.round_program.specs.Rules.{Rules}
use Rattle.round_program.specs.Laws.{Laws}
use Rattle.round_program.specs.Canonical.{items_of, items_at, states_at, HasRounds, InRound}
use Rattle.round_program.specs.Epochs.{IsCanonical}
use Rattle.round_program.proofs.Items.{items_total}
use Rattle.round_program.proofs.Members.{in_round_at}
use Rattle.rank_node.specs.Sending.{is_voting, epoch_of}
use Rattle.rank_node.specs.Movers.{mover_dims, mover_rank, epoch_in, part_in}
use Rattle.rank_node.specs.Movers.Manner.{ByConveyor}
use Rattle.rank_node.specs.Next.{with_next}
use Rattle.rank_group.specs.Ranks.{RankState, HasRank, progress}
use Rattle.rank_node.proofs.Onward.{epoch_is}
use Rattle.rank_group.proofs.Movers.{part_epoch}
use Rattle.rank_node.proofs.Emitted.{receivers_below}
use Rattle.rank_node.proofs.Between.{extended_before}
use Rattle.rank_group.proofs.Counted.{pushed_in}
use Rattle.rank_group.proofs.Pushed.{work_few, votes_few, mover_pushed, items_before, count_in}
use Rattle.rank_group.proofs.Worlds.{Core, core, canonical, still_within, over_at_last}
use Rattle.rank_group.specs.RanksOverBank.{progress_in, history_in, RanksOnBank}

-- two epochs a round
by_rounds : (f : ℕ → ℕ) (g : ℕ → ℕ) (q n : ℕ) → ((m : ℕ) → m < n → f (2 * m) ≤ g m) → ((m : ℕ) → m < n → f (2 * m + 1) ≤ q) → (sum : ℕ → ℕ) → sum 0 ≡ 0 → ((m : ℕ) → sum (suc m) ≡ sum m + (g m + q)) → total (2 * n) f ≤ sum n
by_rounds f g q zero a b sum z s = omega arith
by_rounds f g q (suc n) a b sum z s =
    let rest : total (2 * n) f ≤ sum n = by_rounds f g q n (λ m l. a m (omega (arith, l))) (λ m l. b m (omega (arith, l))) sum z s in
    let two : suc (suc (2 * n)) ≡ 2 * suc n = omega arith in
    let one : suc (2 * n) ≡ 2 * n + 1 = omega arith in
    let odd : f (suc (2 * n)) ≤ q = subst (λ k. f k ≤ q) (sym one) (b n (omega arith)) in
    subst (λ k. total k f ≤ sum (suc n)) two (let x = a n (omega arith) in let y = s n in omega (arith, rest, x, odd, y))

module _ {S : Type 0} (R : Rules S) (laws : Laws R) (law : ClosesLaws) (dims : List ℕ) (cap slots : ℕ) (steady : Bool) (starts : List S) (h : ℕ → ℕ → S) (rs : List (RankState S)) (sent got : Logs) (w : RanksOnBank R dims cap slots (ByConveyor steady) starts h rs sent got)
    (shape : List ℕ) (most n : ℕ) (start : InRound R (ranks dims) 0 shape most starts) (rounds : HasRounds R starts n) where
  -- one rank's items of a round's work
  work_of : (m s : ℕ) → m < n → s < ranks dims → total (ranks dims) (λ d. length (flow dims sent s d 1 (2 * m))) ≤ count_in R (slice_get (states_at R starts m) s)
  work_of m s low from =
      let x : (x : RankState S) × (slice_get rs s ≡ Some x) = find rs s (omega (arith, from, w.ranked.all)) in
      let has : HasRank R dims cap (ByConveyor steady) s (h s) x.0 sent got = w.ranked.each s x.0 x.1 in
      let i : Core R dims s (h s) x.0 sent got = core R dims cap (ByConveyor steady) s (h s) x.0 sent got has in
      let part : Part = part_in x.0.node.mover (starting_at dims s sent) (ending_at dims s got) in
      let here : part.epoch ≡ epoch_in x.0.node.mover = part_epoch x.0.node.mover _ _ in
      let few : (d : ℕ) → d < ranks dims → length (flow dims sent s d 1 (2 * m)) ≤ length (part.pushed (2 * m) d) =
      λ d to. mover_pushed dims x.0.node.mover steady sent got s d (2 * m) w.ranked.grid has.same_manner has.same_dims has.same_rank from to in
      elim (cases_lt (epoch_in x.0.node.mover) (2 * m)) [
        | inl ahead ↦
            let none = total_zero (ranks dims) (λ d. length (flow dims sent s d 1 (2 * m))) (λ d to. let a = few d to in let b = (i.is.passed.ahead (2 * m) d (omega (arith, ahead, here))).0 in omega (arith, a, ap length b)) in
            omega (arith, none)
        | inr begun ↦
            let run : IsCanonical R (ranks dims) starts (λ r. progress_in (slice_get rs r)) (λ r. history_in (h r) (slice_get rs r)) _ = canonical R laws law dims cap slots (ByConveyor steady) starts h rs sent got w.ranked shape most start in
            let far : 2 * m ≤ progress_in (slice_get rs s) = subst (λ o. 2 * m ≤ progress_in o) (sym x.1) (reach x.0 begun) in
            let early : m ≤ x.0.node.run.round = round_low (is_voting x.0.node.run.sends) x.0.node.run.round (epoch_is x.0.node.mover _ _ i.is) begun in
            let hist : history_in (h s) (slice_get rs s) m ≡ h s m = ap (λ o. history_in (h s) o m) x.1 ∙ before x.0 early in
            let state : slice_get (states_at R starts m) s ≡ Some (h s m) = run.states s m from far ∙ ap Some hist in
            let all : InRound R (ranks dims) (min m (2 ^ 64 - 1)) shape most (states_at R starts m) = in_round_at R laws (ranks dims) shape most starts m start in
            let member = all.each s (h s m) state in
            let each = total_le (ranks dims) (λ d. length (flow dims sent s d 1 (2 * m))) (λ d. length (items_of d (R.emissions (h s m))))
            (λ d to. let a = few d to in
            let b = work_few R (ranks (mover_dims x.0.node.mover)) (mover_rank x.0.node.mover) (h s) x.0.node.run.round x.0.node.run.sends x.0.node.run.next i.prog x.0.node.run.sum x.0.node.run.spoiled part (record { passed = i.is.passed; within = i.is.within }) m d (subst (λ ds. d < ranks ds) (sym has.same_dims) to) (omega (arith, begun, here)) in
            omega (arith, a, b)) in
            let sums = items_total (ranks dims) (R.emissions (h s m)) (subst (λ p. All (λ (e : ℕ × Item). e.0 < p) (R.emissions (h s m))) member.all_ranks (receivers_below R laws (h s m) member.valid)) in
            let is = ap (count_in R) state in
            omega (arith, each, sums, is)
      ] where
        reach : (x : RankState S) → 2 * m ≤ epoch_in x.node.mover → 2 * m ≤ progress x
        reach x b = elim (cases_Bool x.over) [
          | inl t ↦ let a = ap (λ b. cond b (epoch_in x.node.mover + 1) (epoch_in x.node.mover)) t in omega (arith, a, b)
          | inr f ↦ let a = ap (λ b. cond b (epoch_in x.node.mover + 1) (epoch_in x.node.mover)) f in omega (arith, a, b)
        ]

        round_low : (v : Bool) (k : ℕ) {e : ℕ} → e ≡ epoch_of k v → 2 * m ≤ e → m ≤ k
        round_low true k is b = omega (arith, is, b)
        round_low false k is b = omega (arith, is, b)

        before : (x : RankState S) → m ≤ x.node.run.round → history_in (h s) (Some x) m ≡ h s m
        before x b = elim (cases_Bool x.over) [
          | inl t ↦ ap (λ b. cond b (with_next (h s) (x.node.run.round + 1) x.node.run.prog) (h s) m) t ∙ extended_before (h s) (x.node.run.round + 1) x.node.run.prog m (λ q. omega (arith, q, b))
          | inr f ↦ ap (λ b. cond b (with_next (h s) (x.node.run.round + 1) x.node.run.prog) (h s) m) f
        ]

  -- one rank's votes on a round
  votes_of : (m s : ℕ) → s < ranks dims → total (ranks dims) (λ d. length (flow dims sent s d 1 (2 * m + 1))) ≤ ranks dims
  votes_of m s from =
      let x : (x : RankState S) × (slice_get rs s ≡ Some x) = find rs s (omega (arith, from, w.ranked.all)) in
      let has : HasRank R dims cap (ByConveyor steady) s (h s) x.0 sent got = w.ranked.each s x.0 x.1 in
      let i : Core R dims s (h s) x.0 sent got = core R dims cap (ByConveyor steady) s (h s) x.0 sent got has in
      let part : Part = part_in x.0.node.mover (starting_at dims s sent) (ending_at dims s got) in
      let b = total_bound (ranks dims) 1 (λ d. length (flow dims sent s d 1 (2 * m + 1)))
      (λ d to. let a = mover_pushed dims x.0.node.mover steady sent got s d (2 * m + 1) w.ranked.grid has.same_manner has.same_dims has.same_rank from to in
      let v = votes_few R (ranks (mover_dims x.0.node.mover)) (mover_rank x.0.node.mover) (h s) x.0.node.run.round x.0.node.run.sends x.0.node.run.next i.prog x.0.node.run.sum x.0.node.run.spoiled part (record { passed = i.is.passed; within = i.is.within }) m d (subst (λ ds. d < ranks ds) (sym has.same_dims) to) in
      omega (arith, a, v)) in
      omega (arith, b)

  work_all : (m : ℕ) → m < n → pushed_in dims sent (2 * m) ≤ items_at R starts m
  work_all m low =
      let all : InRound R (ranks dims) (min m (2 ^ 64 - 1)) shape most (states_at R starts m) = in_round_at R laws (ranks dims) shape most starts m start in
      let a = total_le (ranks dims) (λ s. total (ranks dims) (λ d. length (flow dims sent s d 1 (2 * m)))) (λ s. count_in R (slice_get (states_at R starts m) s)) (λ s from. work_of m s low from) in
      let b = total_list (λ s. length (R.emissions s)) (λ s. count_in R (slice_get (states_at R starts m) s)) (states_at R starts m) (λ k s at. sym (ap (count_in R) at)) in
      let c = ap (λ k. total k (λ s. count_in R (slice_get (states_at R starts m) s))) all.size in
      omega (arith, a, b, c)

  votes_all : (m : ℕ) → m < n → pushed_in dims sent (2 * m + 1) ≤ ranks dims * ranks dims
  votes_all m low = total_bound (ranks dims) (ranks dims) (λ s. total (ranks dims) (λ d. length (flow dims sent s d 1 (2 * m + 1)))) (λ s from. votes_of m s from)

  -- in all epochs together
  pub pushed_all : total (2 * n) (pushed_in dims sent) ≤ items_before R (ranks dims) starts n
  pushed_all = by_rounds (pushed_in dims sent) (items_at R starts) (ranks dims * ranks dims) n work_all votes_all (items_before R (ranks dims) starts) refl (λ m. refl)

  -- and nothing past the last
  pub none_past : pushed_in dims sent (2 * n) ≡ 0
  none_past =
      total_zero (ranks dims) (λ s. total (ranks dims) (λ d. length (flow dims sent s d 1 (2 * n))))
      (λ s from. total_zero (ranks dims) (λ d. length (flow dims sent s d 1 (2 * n)))
      (λ d to.
      let x : (x : RankState S) × (slice_get rs s ≡ Some x) = find rs s (omega (arith, from, w.ranked.all)) in
      let has : HasRank R dims cap (ByConveyor steady) s (h s) x.0 sent got = w.ranked.each s x.0 x.1 in
      let i : Core R dims s (h s) x.0 sent got = core R dims cap (ByConveyor steady) s (h s) x.0 sent got has in
      let a = mover_pushed dims x.0.node.mover steady sent got s d (2 * n) w.ranked.grid has.same_manner has.same_dims has.same_rank from to in
      let e = (i.is.passed.ahead (2 * n) d (let a = epoch_low s x.0 x.1 in let b = part_epoch x.0.node.mover (starting_at dims s sent) (ending_at dims s got) in omega (arith, a, b))).0 in
      omega (arith, a, ap length e))) where
        epoch_low : (s : ℕ) (x : RankState S) → slice_get rs s ≡ Some x → epoch_in x.node.mover < 2 * n
        epoch_low s x at = elim (cases_Bool x.over) [
          | inl t ↦ let e = (over_at_last R laws law dims cap slots (ByConveyor steady) starts h rs sent got w.ranked shape most n start rounds s x at t).0 in omega (arith, e)
          | inr f ↦ still_within R laws law dims cap slots (ByConveyor steady) starts h rs sent got w.ranked shape most n start rounds s x at f
        ]
