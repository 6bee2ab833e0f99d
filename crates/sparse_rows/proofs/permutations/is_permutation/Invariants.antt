use Rattle.std.proofs.Common.{ℕ, ◌≡◌, ◌<◌, false, length, get_or, take, vec_len}
use Rattle.std.specs.List.{All}
use Rattle.sparse_rows.proofs.Doubles.{times, one_if}
use Rattle.sparse_rows.proofs.permutations.is_permutation.Given as goal

abbrev pub invariant-loop-x : goal.invariant-loop-x
invariant-loop-x l = record {
  len : vec_len l.seen ≡ length l.p;
  below : All (λ x. x < length l.p) (take l.x-index l.p);
  marks : (v : ℕ) → v < length l.p → times v (take l.x-index l.p) ≡ one_if (get_or l.seen.items v false);
}
