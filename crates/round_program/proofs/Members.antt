-- The programs of a run stay those of one run, round after round.
use Rattle.std.proofs.Common.{ℕ, inl, inr, zero, suc, ◌+◌, ◌-◌, ◌^◌, ◌<◌, ◌≤◌, ◌*◌, ◌≡◌, min, sum_by, List, Some, length, slice_get, All, arith, refl, sym, ap, ◌∙◌, subst, [], ◌∷◌}
use Rattle.std.proofs.lemmas.Bool.{both_ways, cases_order}
use Rattle.std.proofs.lemmas.List.{length-map}
use Rattle.std.proofs.lemmas.List.Sums.{sum_by-le}
use Rattle.list_laws.proofs.Lists.{got_map, all_from_gets}
use Rattle.round_program.specs.Rules.{Rules}
use Rattle.round_program.specs.Laws.{Laws, SameRound, NextRound, Fits}
use Rattle.round_program.specs.Canonical.{absorb_upto, absorbed_round, end_all, states_at, vote_sum, votes_at, emitted_by, shape_of, HasRounds, InRound, Member}
use Rattle.round_program.proofs.Orders.{upto_same, emitted_by_fits}

-- a state of the same round is the same rank's
pub member_same : {S : Type 0} (R : Rules S) (p n : ℕ) (shape : List ℕ) (most r : ℕ) (s t : S) → Member R p n shape most r s → SameRound R s t → Member R p n shape most r t
member_same R p n shape most r s t a b =
    record {
      valid = b.valid;
      own_rank = b.rank ∙ a.own_rank;
      all_ranks = b.ranks ∙ a.all_ranks;
      same_round = b.round ∙ a.same_round;
      same_shape = b.shape ∙ a.same_shape;
      same_most = b.most ∙ a.same_most;
    }

-- and one of the next round is, in the next round
pub member_next : {S : Type 0} (R : Rules S) (p n : ℕ) (shape : List ℕ) (most r : ℕ) (s t : S) → Member R p n shape most r s → NextRound R s t → Member R p (min (n + 1) (2 ^ 64 - 1)) shape most r t
member_next R p n shape most r s t a b =
    record {
      valid = b.valid;
      own_rank = b.rank ∙ a.own_rank;
      all_ranks = b.ranks ∙ a.all_ranks;
      same_round = b.round ∙ ap (λ k. min (k + 1) (2 ^ 64 - 1)) a.same_round;
      same_shape = b.shape ∙ a.same_shape;
      same_most = b.most ∙ a.same_most;
    }

-- what a rank absorbs in a round of the canonical run leaves it in the round
pub canonical_same : {S : Type 0} (R : Rules S) → Laws R → (p n : ℕ) (shape : List ℕ) (most : ℕ) (ss : List S) (r : ℕ) (s : S) → InRound R p n shape most ss → slice_get ss r ≡ Some s → SameRound R s (absorb_upto R s (emitted_by R ss (R.rank s)) (length ss))
canonical_same R laws p n shape most ss r s all e =
    let here : Member R p n shape most r s = all.each r s e in
    let fit : (f : ℕ) → All (Fits R s f) (emitted_by R ss (R.rank s) f) =
    λ f. subst (λ k. All (Fits R s f) (emitted_by R ss k f)) (sym here.own_rank) (λ i d l. (emitted_by_fits R laws p n shape most ss r f s all e i d l).1) in
    upto_same R laws s (emitted_by R ss (R.rank s)) (length ss) here.valid (λ f l. fit f)

pub absorbed_in : {S : Type 0} (R : Rules S) → Laws R → (p n : ℕ) (shape : List ℕ) (most : ℕ) (ss : List S) → InRound R p n shape most ss → InRound R p n shape most (absorbed_round R ss)
absorbed_in {S} R laws p n shape most ss all =
    record {
      size = length-map ss (λ s. absorb_upto R s (emitted_by R ss (R.rank s)) (length ss)) ∙ all.size;
      each =
          λ r t e.
          let s : (s : S) × (slice_get ss r ≡ Some s) × (absorb_upto R s (emitted_by R ss (R.rank s)) (length ss) ≡ t) = got_map (λ s. absorb_upto R s (emitted_by R ss (R.rank s)) (length ss)) ss r t e in
          subst (Member R p n shape most r) s.2 (member_same R p n shape most r s.0 _ (all.each r s.0 s.1) (canonical_same R laws p n shape most ss r s.0 all s.1));
    }

pub vote_sum_below : {S : Type 0} (R : Rules S) (ss : List S) → vote_sum R ss < 2 ^ 64
vote_sum_below R ss = omega arith

pub ended_in : {S : Type 0} (R : Rules S) → Laws R → (p n : ℕ) (shape : List ℕ) (most : ℕ) (ss : List S) → InRound R p n shape most ss → InRound R p (min (n + 1) (2 ^ 64 - 1)) shape most (end_all R ss)
ended_in {S} R laws p n shape most ss all =
    record {
      size = length-map ss (λ s. R.ended s (vote_sum R ss)) ∙ all.size;
      each =
          λ r t e.
          let s : (s : S) × (slice_get ss r ≡ Some s) × (R.ended s (vote_sum R ss) ≡ t) = got_map (λ s. R.ended s (vote_sum R ss)) ss r t e in
          let here : Member R p n shape most r s.0 = all.each r s.0 s.1 in
          subst (Member R p (min (n + 1) (2 ^ 64 - 1)) shape most r) s.2 (member_next R p n shape most r s.0 _ here (laws.next s.0 (vote_sum R ss) here.valid (vote_sum_below R ss)));
    }

-- round m of a canonical run; the number stands still at 2^64 - 1
pub in_round_at : {S : Type 0} (R : Rules S) → Laws R → (p : ℕ) (shape : List ℕ) (most : ℕ) (starts : List S) (m : ℕ) → InRound R p 0 shape most starts → InRound R p (min m (2 ^ 64 - 1)) shape most (states_at R starts m)
in_round_at R laws p shape most starts zero all = all
in_round_at R laws p shape most starts (suc m) all =
    let before : InRound R p (min m (2 ^ 64 - 1)) shape most (states_at R starts m) = in_round_at R laws p shape most starts m all in
    let after : InRound R p (min (min m (2 ^ 64 - 1) + 1) (2 ^ 64 - 1)) shape most (states_at R starts (suc m)) = ended_in R laws p (min m (2 ^ 64 - 1)) shape most (absorbed_round R (states_at R starts m)) (absorbed_in R laws p (min m (2 ^ 64 - 1)) shape most (states_at R starts m) before) in
    let n : min (min m (2 ^ 64 - 1) + 1) (2 ^ 64 - 1) ≡ min (suc m) (2 ^ 64 - 1) = omega arith in
    subst (λ k. InRound R p k shape most (states_at R starts (suc m))) n after

pub in_round : {S : Type 0} (R : Rules S) → Laws R → (p : ℕ) (shape : List ℕ) (most : ℕ) (starts : List S) (m : ℕ) → InRound R p 0 shape most starts → m < 2 ^ 64 → InRound R p m shape most (states_at R starts m)
in_round R laws p shape most starts m all low =
    let n : min m (2 ^ 64 - 1) ≡ m = omega arith in
    subst (λ k. InRound R p k shape most (states_at R starts m)) n (in_round_at R laws p shape most starts m all)

-- the sum of lawful votes doesn't reach its end
pub votes_add_up : {S : Type 0} (R : Rules S) → Laws R → (p n : ℕ) (shape : List ℕ) (most : ℕ) (ss : List S) → InRound R p n shape most ss → p ≤ 64 → vote_sum R ss ≡ sum_by R.vote ss
votes_add_up {S} R laws p n shape most ss all few =
    let each : All (λ s. R.vote s ≤ 2 ^ 32) ss = all_from_gets (λ s. R.vote s ≤ 2 ^ 32) ss (λ r s e. let b : R.vote s < 2 ^ 32 = laws.vote_below s (all.each r s e).valid in omega arith) in
    let sum : sum_by R.vote ss ≤ length ss * 2 ^ 32 = sum_by-le R.vote (2 ^ 32) ss each in
    let size : length ss ≡ p = all.size in
    omega arith

-- the shape of a run is the one that its programs share
pub shape_is : {S : Type 0} (R : Rules S) (p n : ℕ) (shape : List ℕ) (most : ℕ) (ss : List S) → 0 < p → InRound R p n shape most ss → shape_of R ss ≡ shape
shape_is R p n shape most [] some all = absurd (let size : 0 ≡ p = all.size in omega arith)
shape_is R p n shape most (s ∷ ss) some all = (all.each 0 s refl).same_shape

-- a run has one number of rounds
pub rounds_once : {S : Type 0} (R : Rules S) (starts : List S) (m n : ℕ) → HasRounds R starts m → HasRounds R starts n → m ≡ n
rounds_once R starts m n a b =
    elim (cases_order m n) [
      | inl e ↦ e
      | inr (inl less) ↦ absurd (both_ways (R.goes_on (shape_of R starts) (m - 1) (votes_at R starts (m - 1))) a.stops (b.goes (m - 1) (let some : 0 < m = a.some in omega arith)))
      | inr (inr more) ↦ absurd (both_ways (R.goes_on (shape_of R starts) (n - 1) (votes_at R starts (n - 1))) b.stops (a.goes (n - 1) (let some : 0 < n = b.some in omega arith)))
    ]
