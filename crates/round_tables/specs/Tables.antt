-- What ranks send in the rounds of a run, as a table, and the table of each application.
use Rattle.std.specs.Prelude.{◌≡◌, ◌≢◌, ◌+◌, ◌-◌, ◌*◌, ◌/◌, ◌%◌, ◌<◌, ◌≤◌, ◌==◌, ℕ, zero, suc, Bool, true, false, List, [], Option}
use Rattle.std.specs.Prelude.{Some, None, length, nat_lt, if◌then◌else◌}
use Rattle.std.specs.List.{filter, range_with_len}
use Rattle.bale_items.specs.declared.Item.{Item}
use Rattle.mtx_text.specs.Sparse.{Sparse}
use Rattle.sparse_rows.specs.Deals.{dealt}
use Rattle.app_histo_ig.specs.HistoTable.{ones}
use Rattle.app_histo_ig.specs.IgTable.{values, queries, replies}
use Rattle.app_permute.specs.PermuteTable.{permute_to_rows, to_columns, to_new_rows}
use Rattle.app_permute.specs.TransposeTable.{turned_entries}
use Rattle.app_topo.specs.Levels.{col_claims}
use Rattle.app_topo.specs.TopoTable.{entries_told, level_at, rows_claim, columns_fall}
use Rattle.app_tally.specs.TallyTable.{letters}
use Rattle.delta_step.specs.declared.phase.Phase.{Phase}
use Rattle.delta_step.specs.declared.phase.Phase.TheVariants.{First, Find, Light, Heavy}
use Rattle.round_tables.specs.Sssp.{IsLeastWithin, improved_with, offers}
use Rattle.round_tables.specs.Delta.{Look, is_active, some_active, next_of, Changes, own_vertices, line_in}

-- A table of rounds.
pub record Table : Type 0 where
  -- how many rounds there are
  pub rounds : ℕ
  -- line n r: what rank r sends in round n, in order: the rank that each item goes to, and the item
  pub line : ℕ → ℕ → List (ℕ × Item)
  -- vote n r: the vote of rank r on round n
  pub vote : ℕ → ℕ → ℕ

-- One round, after which nobody votes for another.
abbrev pub one_round : (ℕ → List (ℕ × Item)) → Table
one_round line = record { rounds = 1; line = λ n. line; vote = λ n r. 0 }

-- Three rounds, whose votes don't count: their number alone says that they go on.
abbrev pub one_of_three : {X : Type 0} → X → X → X → ℕ → X
one_of_three a b c zero = a
one_of_three a b c (suc zero) = b
one_of_three a b c (suc (suc n)) = c

abbrev pub three_rounds : (ℕ → List (ℕ × Item)) → (ℕ → List (ℕ × Item)) → (ℕ → List (ℕ × Item)) → Table
three_rounds a b c = record { rounds = 3; line = one_of_three a b c; vote = λ n r. 0 }

-- ---- The applications without votes

abbrev pub histo_table : ℕ → Sparse → Table
histo_table ranks m = one_round (ones ranks m)

abbrev pub ig_table : ℕ → Sparse → Table
ig_table ranks m = three_rounds (values ranks m) (queries ranks m) (replies ranks m)

-- The first round of ig alone, as it comes before queries and replies over biconvey.
abbrev pub sums_table : ℕ → Sparse → Table
sums_table ranks m = one_round (values ranks m)

abbrev pub permute_table : ℕ → Sparse → List ℕ → List ℕ → Table
permute_table ranks m p q = three_rounds (permute_to_rows ranks m) (to_columns ranks m p) (to_new_rows ranks m p q)

abbrev pub transpose_table : ℕ → Sparse → Table
transpose_table ranks m = one_round (turned_entries ranks m)

abbrev pub tally_table : ℕ → List (List ℕ) → Table
tally_table ranks lines = one_round (letters ranks lines)

-- ---- topo

-- The own columns that rows of level t claim, ascending.
-- of (0,0), (0,1), (1,1) on 2 ranks: of level 0 rank 1 has column 1, of level 1 rank 0 has column 0
abbrev pub columns_claimed : ℕ → Sparse → ℕ → ℕ → List ℕ
columns_claimed ranks m t r =
    dealt (λ j. j % ranks) r (filter (λ j. nat_lt 0 (col_claims j (level_at m t))) (range_with_len 0 m.rows))

-- Round 0: entries go to the owners of their rows and columns; round 2t + 1: each row of level t
-- claims its column; round 2t + 2: the owners of rows learn that a column with an entry there is
-- claimed. The third number of an item is its kind: 0 for (row, column) to the row's owner, 1 and 2
-- for (column, row) to the column's owner, 3 for (row, column) to the row's owner.
abbrev pub topo_sends : ℕ → Sparse → ℕ → ℕ → List (ℕ × Item)
topo_sends ranks m n =
    if n == 0 then entries_told ranks m
    else if n % 2 == 1 then rows_claim ranks m (n / 2) else columns_fall ranks m (n / 2 - 1)

-- In round 2t + 1 a rank votes how many of its columns were claimed. Votes of even rounds are 0 and
-- end nothing: the run ends after the first odd round whose votes sum to 0, which is that of the
-- first empty level.
abbrev pub topo_vote : ℕ → Sparse → ℕ → ℕ → ℕ
topo_vote ranks m n r = if n % 2 == 1 then length (columns_claimed ranks m (n / 2) r) else 0

-- topo has 2l + 2 rounds, if l is the number of levels that aren't empty.
-- of (0,0), (0,1), (1,1), with levels 0 and 1: six rounds, with votes above 0 in rounds 1 and 3;
-- round 5, whose votes are all 0, is the last
pub record IsTopoTable (ranks : ℕ) (m : Sparse) (t : Table) : Type 0 where
  pub levels : ℕ
  pub some : (k : ℕ) → k < levels → level_at m k ≢ []
  pub none : level_at m levels ≡ []
  pub is : t ≡ record { rounds = 2 * levels + 2; line = topo_sends ranks m; vote = topo_vote ranks m }

-- ---- sssp by rounds

-- Round 0: the entries are told; round k + 1: the vertices that improved with k edges offer.
abbrev pub sssp_line : ℕ → Sparse → (ℕ → ℕ → Option ℕ) → ℕ → ℕ → List (ℕ × Item)
sssp_line ranks m found zero = permute_to_rows ranks m
sssp_line ranks m found (suc k) = offers ranks m found k

-- In round k from 1 on a rank votes how many of its vertices improved with k edges.
abbrev pub sssp_vote : ℕ → Sparse → (ℕ → ℕ → Option ℕ) → ℕ → ℕ → ℕ
sssp_vote ranks m found zero r = 0
sssp_vote ranks m found (suc k) r = length (dealt (λ i. i % ranks) r (improved_with m found (suc k)))

-- sssp has a round for the entries and one for each number of edges with which a vertex improves.
-- found k v is the least weight of a walk from the source to v of at most k edges.
pub record IsSsspTable (ranks : ℕ) (m : Sparse) (source : ℕ) (t : Table) : Type 0 where
  pub found : ℕ → ℕ → Option ℕ
  pub least : (k v : ℕ) → k ≤ m.rows → IsLeastWithin m.entries source k v (found k v)
  pub last : ℕ
  pub few : last ≤ m.rows
  pub some : (k : ℕ) → k < last → improved_with m found k ≢ []
  pub none : improved_with m found last ≡ []
  pub is : t ≡ record { rounds = last + 1; line = sssp_line ranks m found; vote = sssp_vote ranks m found }

-- ---- sssp by buckets

-- Round 0: the entries are told; then each round sends what the look after the round before gives.
abbrev pub delta_line : ℕ → Sparse → ℕ → (ℕ → Look) → ℕ → ℕ → List (ℕ × Item)
delta_line ranks m width look zero = permute_to_rows ranks m
delta_line ranks m width look (suc n) = line_in (next_of m width (look n)) ranks m width (look n)

-- A rank's vote on a round of each kind: on a find round how many of its vertices are pending, on a
-- light one 1 more than how many are active, and else 1.
abbrev pub delta_vote : Phase → ℕ → Sparse → ℕ → Look → ℕ → ℕ
delta_vote First ranks m width x r = 1
delta_vote Find ranks m width x r = length (own_vertices ranks m x.pending r)
delta_vote Light ranks m width x r = 1 + length (own_vertices ranks m (is_active width x) r)
delta_vote Heavy ranks m width x r = 1

-- Delta-stepping: look n is what all ranks together know as round n is over. In round 0 the source
-- alone is found and pending. From then on each round is the next step, until nothing is pending in
-- a find round; in every find round before, a vertex became active.
pub record IsDeltaTable (ranks : ℕ) (m : Sparse) (source width : ℕ) (t : Table) : Type 0 where
  pub look : ℕ → Look
  pub begins : (look 0).phase ≡ First
  pub source_found : (v : ℕ) → (look 0).found v ≡ (if v == source then Some 0 else None)
  pub source_pending : (v : ℕ) → (look 0).pending v ≡ (v == source)
  pub last : ℕ
  pub phases : (n : ℕ) → n < last → (look (n + 1)).phase ≡ next_of m width (look n)
  pub changes : (n : ℕ) → n < last → Changes (next_of m width (look n)) m width (look n) (look (n + 1))
  pub some : (n : ℕ) → n < last → (look n).phase ≡ Find → some_active m width (look n) ≡ true
  pub over : (look last).phase ≡ Find
  pub none : (v : ℕ) → (look last).pending v ≡ false
  pub is : t ≡ record {
    rounds = last + 1;
    line = delta_line ranks m width look;
    vote = λ n. delta_vote (look n).phase ranks m width (look n);
  }
