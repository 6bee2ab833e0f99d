use Rattle.std.proofs.Common.{◌≡◌, ◌≤◌, ◌+◌, ◌*◌, ◌++◌, [], ◌∷◌, length, sum_by, arith, ap, sym, subst, length-append}
use Rattle.std.proofs.lemmas.List.Sums.{sum_by_push}
use Rattle.bale_answers.specs.declared.counter.Log.{Log}
use Rattle.bale_answers.specs.Logs.{bytes_of}
use Rattle.bale_answers.proofs.Lengths.{low_more}
use Rattle.bale_answers.proofs.counter.Counter.add.Goals as goal

pub invariant_of-next-clause-bytes_are : goal.invariant_of-next-clause-bytes_are
invariant_of-next-clause-bytes_are c =
    let same : length (bytes_of c.of-before.result.value) ≡ length (bytes_of c.args.self.now.log) = ap (λ (l : Log). length (bytes_of l)) c.of-before.ensures in
    let more : length (bytes_of c.of-before.result.value ++ c.args.b ∷ []) ≡ length (bytes_of c.of-before.result.value) + 1 = length-append (bytes_of c.of-before.result.value) (c.args.b ∷ []) in
    omega (arith, c.args.self.now.bytes_are, c.saturating_add-2.ensures)

pub invariant_of-next-clause-sum_is : goal.invariant_of-next-clause-sum_is
invariant_of-next-clause-sum_is c =
    let same : sum_by (λ b. b) (bytes_of c.of-before.result.value) ≡ sum_by (λ b. b) (bytes_of c.args.self.now.log) = ap (λ (l : Log). sum_by (λ b. b) (bytes_of l)) c.of-before.ensures in
    let more : sum_by (λ b. b) (bytes_of c.of-before.result.value ++ c.args.b ∷ []) ≡ sum_by (λ b. b) (bytes_of c.of-before.result.value) + c.args.b = sum_by_push (λ b. b) (bytes_of c.of-before.result.value) c.args.b in
    omega (arith, c.args.self.now.sum_is, c.saturating_add-3.ensures)

pub invariant_of-next-clause-low : goal.invariant_of-next-clause-low
invariant_of-next-clause-low c =
    subst (λ (l : Log). sum_by (λ b. b) (bytes_of l ++ c.args.b ∷ []) ≤ 255 * length (bytes_of l ++ c.args.b ∷ [])) (sym c.of-before.ensures)
    (low_more (bytes_of c.args.self.now.log) c.args.b c.ranges.b.fits c.args.self.now.low)
