-- How the ranks begin.
use Rattle.std.specs.Prelude.{ℕ, ◌%◌, List, map}
use Rattle.std.specs.List.{range_with_len}
use Rattle.bale_items.specs.declared.triple.Triple.{Triple}
use Rattle.mtx_text.specs.Sparse.{Sparse}
use Rattle.sparse_rows.specs.Deals.{dealt}
use Rattle.reductions.specs.Reductions.{at_round_begin}
use Rattle.components.specs.declared.labels.Link.{Link}
use Rattle.components.specs.Connected.{links_of_entries}
use Rattle.components.specs.LabelRules.{LabelState}

-- The links from the vertices of a rank.
abbrev pub own_links : ℕ → ℕ → List Triple → List Link
own_links ranks rank entries = dealt (λ l. l.from % ranks) rank (links_of_entries entries)

-- A rank as it begins: each vertex is labelled by its own number, and sends it along all its links.
abbrev pub label_begins : ℕ → Sparse → ℕ → LabelState
label_begins ranks m rank =
    record {
      rank = rank;
      ranks = ranks;
      round = 0;
      links = own_links ranks rank m.entries;
      active = own_links ranks rank m.entries;
      labels = at_round_begin (range_with_len 0 m.rows);
    }

-- All ranks as they begin.
abbrev pub label_starts : ℕ → Sparse → List LabelState
label_starts ranks m = map (label_begins ranks m) (range_with_len 0 ranks)
