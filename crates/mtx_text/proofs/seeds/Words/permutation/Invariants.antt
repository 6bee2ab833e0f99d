use Rattle.std.proofs.Common.{◌≡◌, ◌≤◌, ◌-◌, vec_len}
use Rattle.mtx_text.specs.Permutations.{Permutes}
use Rattle.mtx_text.specs.Seeds.{shuffle_of, permutation_of}
use Rattle.mtx_text.proofs.seeds.Words.permutation.Given as goal

abbrev pub invariant-loop-i : goal.invariant-loop-i
invariant-loop-i l = record {
  size : vec_len l.list ≡ l.n;
  high : l.i ≤ l.n;
  left : shuffle_of (l.i - 1) l.list.items l.self ≡ permutation_of l.n l.initial.self;
  permutes : Permutes l.n l.list.items;
}

abbrev pub decreases-loop-i : goal.decreases-loop-i
decreases-loop-i l = l.i
