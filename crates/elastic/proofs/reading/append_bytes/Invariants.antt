use Rattle.std.proofs.Common.{◌≡◌, ◌++◌, drop}
use Rattle.std.specs.List.{flat_map}
use Rattle.elastic.specs.Spelling.{bytes_in}
use Rattle.elastic.proofs.reading.append_bytes.Given as goal

abbrev pub invariant-loop-item : goal.invariant-loop-item
invariant-loop-item l = l.letter.items ++ flat_map bytes_in (drop l.item-index l.items) ≡ l.fn.letter.items ++ flat_map bytes_in l.items
