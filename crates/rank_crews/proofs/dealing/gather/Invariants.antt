use Rattle.std.proofs.Common.{◌≡◌, ◌≤◌, true, List, length, vec_capacity}
use Rattle.std.specs.List.{All}
use Rattle.rank_crews.specs.Crews.{HaveRun}
use Rattle.rank_crews.proofs.Crewed.{Gathered}
use Rattle.rank_crews.proofs.dealing.gather.Given as goal

-- the ranks below a number have come back
abbrev pub invariant-loop-number : goal.invariant-loop-number
invariant-loop-number g l = record {
  so_far : (all : List g.row.A.Denot) → length all ≡ l.fn.count → HaveRun (g.A.Seated.ran g.J.GateLog.notified) g.A.Seated.over (length l.fn.crews.items) 0 all l.fn.crews.items
      → Gathered (g.A.Seated.ran g.J.GateLog.notified) g.A.Seated.over (length l.fn.crews.items) l.number all l.crews.items l.ended.items;
  over : All (λ y. g.A.Seated.over y ≡ true) l.ended.items;
  size : length l.crews.items ≡ length l.fn.crews.items;
  back : length l.ended.items ≡ l.number;
  room : l.fn.count ≤ vec_capacity l.ended;
}
