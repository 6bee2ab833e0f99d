-- How the ranks begin.
use Rattle.std.specs.Prelude.{ℕ, ◌%◌, List, map, replicate}
use Rattle.std.specs.List.{range_with_len}
use Rattle.bale_items.specs.declared.Item.{Item}
use Rattle.bale_items.specs.declared.triple.Triple.{Triple}
use Rattle.mtx_text.specs.Sparse.{Sparse}
use Rattle.reductions.specs.Reductions.{at_round_begin}
use Rattle.sparse_rows.specs.Deals.{dealt}
use Rattle.skeleton.specs.State.{State}

-- What is sent of an entry: its row, for its column, to the column's owner.
abbrev pub send_of : ℕ → Triple → ℕ × Item
send_of ranks t = (t.j % ranks, record { a = t.j; b = t.i; c = 0 })

-- A rank as it begins: it sends the entries of its rows, and each cell is the number of rows, which
-- is no row.
abbrev pub begins : ℕ → Sparse → ℕ → State
begins ranks m rank =
    record {
      rank = rank;
      ranks = ranks;
      round = 0;
      sends = map (send_of ranks) (dealt (λ t. t.i % ranks) rank m.entries);
      cells = at_round_begin (replicate m.cols m.rows);
    }

-- All ranks as they begin.
abbrev pub starts : ℕ → Sparse → List State
starts ranks m = map (begins ranks m) (range_with_len 0 ranks)
