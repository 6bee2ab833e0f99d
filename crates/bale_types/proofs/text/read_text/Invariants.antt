use Rattle.std.proofs.Common.{◌≡◌, ◌-◌, ◌≤◌, vec_len}
use Rattle.bale_types.specs.Stream.{before}
use Rattle.bale_types.proofs.text.read_text.Given as goal

abbrev pub invariant-loop-text : goal.invariant-loop-text
invariant-loop-text g l =
    (g.S.Source.left l.initial.source ≡ before l.text.items (g.S.Source.left l.source))
    × (vec_len l.text ≤ l.limit)
    × (vec_len l.buffer ≡ 65_536)
    × (g.S.Source.faults l.source ≡ g.S.Source.faults l.initial.source)

abbrev pub decreases-loop-text : goal.decreases-loop-text
decreases-loop-text g l = l.limit - vec_len l.text
