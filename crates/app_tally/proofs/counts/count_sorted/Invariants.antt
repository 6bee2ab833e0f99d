use Rattle.std.proofs.Common.{◌≡◌, map, take}
use Rattle.app_tally.specs.Counts.{tally_of}
use Rattle.app_tally.specs.code.CountView.{numbered_lines, counted_lines, IsCounts}
use Rattle.app_tally.proofs.counts.count_sorted.Given as goal

abbrev pub invariant-loop-line : goal.invariant-loop-line
invariant-loop-line l =
    IsCounts l.lines l.times.items
    × (numbered_lines l.lines l.times.items ≡ tally_of (counted_lines (take l.line-index (map (λ r. (r.1.now, r.2)) l.sorted))))
