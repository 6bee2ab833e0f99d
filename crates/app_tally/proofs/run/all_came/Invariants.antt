use Rattle.std.proofs.Common.{ℕ, ◌≡◌, List, All, map}
use Rattle.list_laws.specs.Sums.{total}
use Rattle.app_tally.specs.Counts.{times}
use Rattle.app_tally.specs.Numbers.{front_number}
use Rattle.app_tally.specs.TallyRuns.{TallyEnded}
use Rattle.app_tally.specs.code.CountView.{counted_lines, IsLineEntry}
use Rattle.app_tally.proofs.TallyRounds.{comes}
use Rattle.app_tally.proofs.run.all_came.Given as goal

abbrev pub invariant-loop-rank : goal.invariant-loop-rank
invariant-loop-rank l = record {
  times : (lines : List (List ℕ)) (h : TallyEnded lines l.p) (q : List ℕ) → times q (counted_lines (map (λ r. (r.1.now, r.2)) l.all.items)) ≡ total l.rank (comes h.ranks lines q);
  counted : All IsLineEntry (map (λ r. (r.1.now, r.2)) l.all.items);
  numbers : All (λ r. r.0 ≡ front_number 16 r.1.now) l.all.items;
}
