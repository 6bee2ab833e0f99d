use Rattle.std.proofs.Common.{◌≡◌, ◌+◌, ◌<◌, ◌≤◌, ◌++◌, [], length, take}
use Rattle.std.specs.List.{All}
use Rattle.mtx_text.specs.declared.kind.Kind.TheVariants.{Integer}
use Rattle.mtx_text.specs.Sparse.{IsEntry}
use Rattle.mtx_text.specs.Cells.{sparse}
use Rattle.mtx_text.specs.Generated.{hidden_triangle, positions}
use Rattle.mtx_text.proofs.Bands.{rest_from}
use Rattle.mtx_text.proofs.generate.hide.Given as goal

abbrev pub invariant-loop-left : goal.invariant-loop-left
invariant-loop-left l = record {
  told : l.entries.items ++ hidden_triangle l.rows.items l.cols.items l.words (take l.left (rest_from l.n l.distance l.row)) ≡ hidden_triangle l.rows.items l.cols.items l.initial.words (positions l.n l.m);
  room : l.left ≤ length (rest_from l.n l.distance l.row);
  place : l.distance < l.n → l.row + l.distance < l.n;
  inside : All (λ t. IsEntry (sparse l.n l.n Integer []) t) l.entries.items;
  count : length l.entries.items + l.left ≡ l.m;
}

abbrev pub decreases-loop-left : goal.decreases-loop-left
decreases-loop-left l = l.left
