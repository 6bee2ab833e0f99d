-- How many items a rank sends in each epoch of a run, and how many turns the rounds of all epochs
-- take.
use Rattle.std.proofs.Common.{◌≡◌, ℕ, zero, suc, ◌+◌, ◌*◌, ◌<◌, ◌≤◌, false, cond, List, [], ◌∷◌, length, length-append, Some, slice_get, refl, sym, ap, subst, ◌∙◌, arith}
use Rattle.list_laws.specs.Sums.{total}
use Rattle.list_laws.proofs.Sums.{total_same, total_const, total_list}
use Rattle.list_laws.proofs.Lists.{within}
use Rattle.route_tensor.specs.Grid.{ranks}
use Rattle.port_bank.specs.Logs.{Logs, starting_at, ending_at}
use Rattle.round_program.specs.Rules.{Rules}
use Rattle.round_program.specs.Laws.{Laws}
use Rattle.round_program.specs.Canonical.{InRound, states_at, items_at}
use Rattle.round_program.specs.Epochs.{vote_item}
use Rattle.round_program.proofs.Members.{in_round_at}
use Rattle.rank_node.specs.declared.sends.Sends.{Sends}
use Rattle.rank_node.specs.declared.sends.Sends.TheVariants.{Emissions, Nothing, Votes}
use Rattle.rank_node.specs.Sending.{to_send, is_voting, epoch_of, votes_to}
use Rattle.rank_node.specs.Movers.{Manner, epoch_in}
use Rattle.rank_node.specs.Movers.Manner.{ByExstack}
use Rattle.rank_node.specs.Nodes.{IsNode}
use Rattle.rank_node.specs.Next.{with_next}
use Rattle.rank_node.proofs.Onward.{epoch_is}
use Rattle.rank_group.specs.Closes.{ClosesLaws}
use Rattle.rank_group.specs.Transcript.{turns_within}
use Rattle.rank_group.specs.Ranks.{RankState, AllRanks}
use Rattle.rank_group.specs.RanksOverBank.{progress_in, history_in}
use Rattle.rank_group.specs.RoundProgress.{emission_count, quota_from, quota_of, most_rounds}
use Rattle.rank_group.proofs.Worlds.{canonical}

-- in an epoch of work
quota_even : {S : Type 0} (R : Rules S) (p : ℕ) (starts : List S) (r m k : ℕ) → quota_from R p starts r m (2 * k) ≡ emission_count R (slice_get (states_at R starts (m + k)) r)
quota_even R p starts r m zero = let e : m ≡ m + 0 = omega arith in ap (λ i. emission_count R (slice_get (states_at R starts i) r)) e
quota_even R p starts r m (suc k) =
    let e : 2 * suc k ≡ suc (suc (2 * k)) = omega arith in
    let i : suc m + k ≡ m + suc k = omega arith in
    ap (quota_from R p starts r m) e ∙ (quota_even R p starts r (suc m) k ∙ ap (λ i. emission_count R (slice_get (states_at R starts i) r)) i)

pub quota_work : {S : Type 0} (R : Rules S) (p : ℕ) (starts : List S) (r m : ℕ) → quota_of R p starts r (2 * m) ≡ emission_count R (slice_get (states_at R starts m) r)
quota_work R p starts r m = let e : 0 + m ≡ m = omega arith in quota_even R p starts r 0 m ∙ ap (λ i. emission_count R (slice_get (states_at R starts i) r)) e

-- and in one of votes
quota_odd : {S : Type 0} (R : Rules S) (p : ℕ) (starts : List S) (r m k : ℕ) → quota_from R p starts r m (suc (2 * k)) ≡ p
quota_odd R p starts r m zero = refl
quota_odd R p starts r m (suc k) =
    let e : suc (2 * suc k) ≡ suc (suc (suc (2 * k))) = omega arith in
    ap (quota_from R p starts r m) e ∙ quota_odd R p starts r (suc m) k

pub quota_votes : {S : Type 0} (R : Rules S) (p : ℕ) (starts : List S) (r m : ℕ) → quota_of R p starts r (2 * m + 1) ≡ p
quota_votes R p starts r m = let e : 2 * m + 1 ≡ suc (2 * m) = omega arith in ap (quota_of R p starts r) e ∙ quota_odd R p starts r 0 m

-- all ranks together send what the canonical run does
work_items : {S : Type 0} (R : Rules S) (p : ℕ) (starts : List S) (m : ℕ) → length (states_at R starts m) ≡ p → total p (λ r. quota_of R p starts r (2 * m)) ≡ items_at R starts m
work_items {S} R p starts m size =
    sym (total_list (λ (s : S). length (R.emissions s)) (λ r. quota_of R p starts r (2 * m)) (states_at R starts m) (λ k s at. sym (quota_work R p starts k m ∙ ap (emission_count R) at))
    ∙ ap (λ k. total k (λ r. quota_of R p starts r (2 * m))) size)

vote_items : {S : Type 0} (R : Rules S) (p : ℕ) (starts : List S) (m : ℕ) → total p (λ r. quota_of R p starts r (2 * m + 1)) ≡ p * p
vote_items R p starts m = total_same p (λ r. quota_of R p starts r (2 * m + 1)) (λ r. p) (λ r low. quota_votes R p starts r m) ∙ total_const p p

-- two turns of every rank for each round
pub round_turns : {S : Type 0} (R : Rules S) → Laws R → (dims : List ℕ) (shape : List ℕ) (most : ℕ) (starts : List S) → InRound R (ranks dims) 0 shape most starts → (n : ℕ)
    → ranks dims * (2 * total (2 * n) (most_rounds R (ranks dims) starts)) ≤ turns_within R ByExstack dims starts n
round_turns R laws dims shape most starts start zero = omega arith
round_turns R laws dims shape most starts start (suc n) =
    let p : ℕ = ranks dims in
    let e : 2 * suc n ≡ suc (suc (2 * n)) = omega arith in
    let o : suc (2 * n) ≡ 2 * n + 1 = omega arith in
    let a = ap (λ k. total k (most_rounds R p starts)) e in
    let b = ap (most_rounds R p starts) o in
    let i = work_items R p starts n (in_round_at R laws p shape most starts n start).size in
    let v = vote_items R p starts n in
    let sum : total (2 * suc n) (most_rounds R p starts) ≡ total (2 * n) (most_rounds R p starts) + (2 * items_at R starts n + 1) + (2 * (p * p) + 1) = omega (arith, a, b, i, v) in
    subst (λ t. p * (2 * t) ≤ turns_within R ByExstack dims starts (suc n)) (sym sum)
    (by p (total (2 * n) (most_rounds R p starts)) (items_at R starts n) (turns_within R ByExstack dims starts n) (round_turns R laws dims shape most starts start n)) where
      by : (p b i t : ℕ) → p * (2 * b) ≤ t → p * (2 * (b + (2 * i + 1) + (2 * (p * p) + 1))) ≤ t + (4 * p * (i + 2) + 4 * p * (p * p + 2))
      by p b i t rest = omega (arith, rest)

votes_long : (q v : ℕ) → length (votes_to q v) ≡ q
votes_long zero v = refl
votes_long (suc q) v = omega (arith, length-append (votes_to q v) ((q, vote_item v) ∷ []), votes_long q v)

module _ {S : Type 0} (R : Rules S) (laws : Laws R) (law : ClosesLaws) (dims : List ℕ) (cap slots : ℕ) (manner : Manner) (starts : List S) (h : ℕ → ℕ → S) (rs : List (RankState S)) (sent got : Logs) (w : AllRanks R dims cap slots manner starts h rs sent got)
    (shape : List ℕ) (most : ℕ) (start : InRound R (ranks dims) 0 shape most starts) where
  -- a rank has no more to send than that
  pub sends_few : (r : ℕ) (x : RankState S) → slice_get rs r ≡ Some x → x.over ≡ false → length (to_send R x.node.run.prog x.node.run.sends) ≤ quota_of R (ranks dims) starts r (epoch_in x.node.mover)
  sends_few r x at on = by x.node.run.sends refl where
    i : IsNode R (h r) x.node (starting_at dims r sent) (ending_at dims r got)
    i = (w.each r x at).runs on

    here : progress_in (slice_get rs r) ≡ epoch_in x.node.mover
    here = ap progress_in at ∙ ap (λ b. cond b (epoch_in x.node.mover + 1) (epoch_in x.node.mover)) on

    by : (s : Sends) → x.node.run.sends ≡ s → length (to_send R x.node.run.prog s) ≤ quota_of R (ranks dims) starts r (epoch_in x.node.mover)
    by Nothing is = omega arith
    by Emissions is =
        let m : ℕ = x.node.run.round in
        let e : epoch_in x.node.mover ≡ 2 * m = epoch_is x.node.mover _ _ i ∙ ap (λ s. epoch_of m (is_voting s)) is in
        let low : r < ranks dims = omega (arith, within rs r x at, w.all) in
        let st : slice_get (states_at R starts m) r ≡ Some (history_in (h r) (slice_get rs r) m) = (canonical R laws law dims cap slots manner starts h rs sent got w shape most start).states r m low (omega (arith, here, e)) in
        let hist : history_in (h r) (slice_get rs r) m ≡ h r m = ap (λ o. history_in (h r) o m) at ∙ history_on in
        let q : quota_of R (ranks dims) starts r (epoch_in x.node.mover) ≡ length (R.emissions (h r m)) = ap (quota_of R (ranks dims) starts r) e ∙ (quota_work R (ranks dims) starts r m ∙ (ap (emission_count R) st ∙ ap (λ s. length (R.emissions s)) hist)) in
        let same : length (R.emissions x.node.run.prog) ≡ length (R.emissions (h r m)) = ap length (i.within.emissions is) in
        omega (arith, q, same) where
          history_on : history_in (h r) (Some x) x.node.run.round ≡ h r x.node.run.round
          history_on = ap (λ b. cond b (with_next (h r) (x.node.run.round + 1) x.node.run.prog) (h r) x.node.run.round) on
    by (Votes v q) is =
        let m : ℕ = x.node.run.round in
        let e : epoch_in x.node.mover ≡ 2 * m + 1 = epoch_is x.node.mover _ _ i ∙ ap (λ s. epoch_of m (is_voting s)) is in
        let d : q ≡ ranks dims = (i.within.vote v q is).0 ∙ ap ranks (w.each r x at).same_dims in
        let a : quota_of R (ranks dims) starts r (epoch_in x.node.mover) ≡ ranks dims = ap (quota_of R (ranks dims) starts r) e ∙ quota_votes R (ranks dims) starts r m in
        omega (arith, a, d, votes_long q v)
