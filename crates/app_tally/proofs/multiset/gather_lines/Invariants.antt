use Rattle.std.proofs.Common.{◌≡◌, ◌++◌, All, map, take}
use Rattle.app_tally.specs.code.CountView.{numbered_lines}
use Rattle.app_tally.specs.Numbers.{front_number}
use Rattle.app_tally.proofs.multiset.gather_lines.Given as goal

abbrev pub invariant-loop-i : goal.invariant-loop-i
invariant-loop-i l = record {
  gathered : map (λ r. (r.1.now, r.2)) l.all.items ≡ map (λ r. (r.1.now, r.2)) l.fn.all.items ++ take l.i (numbered_lines l.lines l.times);
  numbers : All (λ r. r.0 ≡ front_number 16 r.1.now) l.fn.all.items → All (λ r. r.0 ≡ front_number 16 r.1.now) l.all.items;
}
