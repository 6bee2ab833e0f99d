use Rattle.std.proofs.Common.{ℕ, ◌+◌, ◌<◌, ◌≤◌, ◌≡◌, ◌++◌, List, [], ◌∷◌, Some, map, arith, sym, ap, ◌∙◌, subst}
use Rattle.std.specs.List.{range_with_len}
use Rattle.std.proofs.lemmas.List.{map-id}
use Rattle.std.proofs.lemmas.List.FromFn.{length-range_with_len, get_or-range_with_len, map-range_with_len_more}
use Rattle.std.proofs.lemmas.Option.{slice_get-get_or}
use Rattle.rank_group.specs.Ranks.{IsOrder}
use Rattle.rank_group.proofs.defaults.in_order.Goals as goal

numbers_order : (p : ℕ) → IsOrder p (range_with_len 0 p)
numbers_order p =
    record {
      size = length-range_with_len 0 p;
      below = λ k d l.
          let low : k < p = subst (λ n. k < n) (length-range_with_len 0 p) l in
          subst (λ x. x < p) (sym (get_or-range_with_len 0 p k d low)) (omega arith);
      each = λ r low. (
        r,
        slice_get-get_or (range_with_len 0 p) r 0 (subst (λ n. r < n) (sym (length-range_with_len 0 p)) low)
            ∙ ap Some (get_or-range_with_len 0 p r 0 low ∙ (let e : 0 + r ≡ r = omega arith in e)),
      );
    }

all : (order : List ℕ) (rank ranks : ℕ) → order ≡ map (λ x. x) (range_with_len 0 rank) → ranks ≤ rank → rank ≤ ranks → order ≡ range_with_len 0 ranks
all order rank ranks is high low = is ∙ map-id (range_with_len 0 rank) ∙ ap (range_with_len 0) (let e : rank ≡ ranks = omega arith in e)

pub loop-rank-preserved : goal.loop-rank-preserved
loop-rank-preserved c =
    c.in_ok-push.ensures.items ∙ ap (λ xs. xs ++ c.loop-rank.rank ∷ []) c.loop-rank.invariant ∙ sym (map-range_with_len_more (λ (x : ℕ). x) 0 c.loop-rank.rank c.loop-rank.rank (omega arith))

pub returns-clause-numbers : goal.returns-clause-numbers
returns-clause-numbers c = all c.loop-rank.order.items c.loop-rank.rank c.args.ranks c.loop-rank.invariant c.loop-rank-test.false c.loop-rank.auto.rank-end

pub returns-clause-order : goal.returns-clause-order
returns-clause-order c =
    subst (IsOrder c.args.ranks) (sym (all c.loop-rank.order.items c.loop-rank.rank c.args.ranks c.loop-rank.invariant c.loop-rank-test.false c.loop-rank.auto.rank-end)) (numbers_order c.args.ranks)
