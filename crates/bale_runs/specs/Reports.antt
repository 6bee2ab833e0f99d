-- What a command exchanged, as its closed rounds report it: by tables of rounds, with no word on
-- the programs.
use Rattle.std.specs.Prelude.{◌≡◌, ◌-◌, ◌*◌, ◌/◌, ◌%◌, ◌<◌, ◌==◌, ℕ, Bool, true, false, List, [], ◌∷◌, None, Some}
use Rattle.std.specs.Prelude.{if◌then◌else◌}
use Rattle.bale_items.specs.declared.item.Item.{Item}
use Rattle.route_tensor.specs.Grid.{ranks}
use Rattle.route_tensor.specs.Link.{links}
use Rattle.port_bank.specs.Logs.{lasts, EndsLast}
use Rattle.port_bank.specs.Round.{Round, logs_of, pushed_items, pulled_items}
use Rattle.mtx_text.specs.Sparse.{Sparse}
use Rattle.round_program.specs.Canonical.{items_of}
use Rattle.round_program.specs.Replies.{carrying}
use Rattle.rank_node.specs.Movers.{Manner, IsLogShape}
use Rattle.rank_node.specs.Movers.Manner.{ByConveyor}
use Rattle.rank_group.specs.declared.closed_round.ClosedRound.{ClosedRound}
use Rattle.rank_group.specs.Rounds.{round_inside}
use Rattle.rank_group.specs.Transcript.{BankShape}
use Rattle.round_tables.specs.Tables.{Table, histo_table, ig_table, sums_table, permute_table, transpose_table, tally_table}
use Rattle.round_tables.specs.Tables.{IsTopoTable, IsSsspTable, IsDeltaTable}
use Rattle.bale_words.specs.declared.command.Command.{Command}
use Rattle.bale_words.specs.declared.task.Task.{Task}
use Rattle.bale_words.specs.declared.task.Task.TheVariants as task
use Rattle.bale_subjects.specs.declared.subject.Subject.{Subject}
use Rattle.bale_subjects.specs.declared.subject.Subject.TheVariants as subject
use Rattle.bale_subjects.specs.Numberings.{perms_for}
use Rattle.bale_runs.specs.Jobs.{by_asking, manner_for}
use Rattle.bale_runs.specs.Runs.{made_for}
use Rattle.bale_runs.specs.Asking.{queries_for, replies_for}

-- The table of a task on a matrix, on so many ranks.
abbrev pub IsMatrixTable : Task → ℕ → Sparse → Table → Type 0
IsMatrixTable task.Histo p m t = t ≡ histo_table p m
IsMatrixTable task.Ig p m t = t ≡ ig_table p m
IsMatrixTable (task.Permute by) p m t = t ≡ permute_table p m (perms_for by m).rows (perms_for by m).cols
IsMatrixTable task.Transpose p m t = t ≡ transpose_table p m
IsMatrixTable task.Topo p m t = IsTopoTable p m t
IsMatrixTable (task.Sssp source None) p m t = IsSsspTable p m (source - 1) t
IsMatrixTable (task.Sssp source (Some delta)) p m t = IsDeltaTable p m (source - 1) delta t
IsMatrixTable task.Tally p m t = ⊥

-- The same of a matrix or of lines, which tally alone is asked of.
unfoldable pub IsTable : Task → ℕ → Subject → Table → Type 0
IsTable t p (subject.Matrix m) table = IsMatrixTable t p m table
IsTable t p (subject.Lines lines) table = table ≡ tally_table p lines

-- What rank s sends to rank d in an epoch of a table: the items of round n in epoch 2n, and in
-- epoch 2n + 1 its vote on that round, also if it is 0.
-- of histo's table on 2 ranks: in epoch 0 the ones for d's columns, in epoch 1 the item (0,0,0)
abbrev pub in_epoch : Table → ℕ → ℕ → ℕ → List Item
in_epoch t e s d = if e % 2 == 0 then items_of d (t.line (e / 2) s) else carrying (t.vote (e / 2) s) ∷ []

-- A transcript (`ClosedRound`) reports `epochs` epochs: what each rank sent to each in each.
-- What holds of every transcript is not said again: ClosedRound's ranks and epochs tell it
-- (IsRound of port_bank), for instance that no parcel has more than `cap` entries.
-- bank: it was made as asked.
-- ended, by_last: each link ended so many epochs, and nothing came after them. collected: all
-- parcels were.
-- all_pushed: in epoch e rank s pushed exactly `sent e s d` toward rank d. all_came: each pulled
-- what was pushed toward it.
-- shape: each parcel is filled as the transport fills it, conveyors steady or not. If they
-- aren't steady, an epoch's entries travel in few parcels (port_bank's few_parcels_law).
-- With two ranks and six rounds there are 12 epochs; in each odd one each of the four pairs has one
-- item.
pub record Reports (made : BankShape) (manner : Manner) (epochs : ℕ) (sent : ℕ → ℕ → ℕ → List Item)
    (round : Round) : Type 0 where
  pub bank : record { dims = round.dims; cap = round.cap; slots = round.slots; by_slots = round.by_slots } ≡ made
  pub ended : (l : ℕ) → l < links round.dims → lasts (logs_of round.sent l) ≡ epochs
  pub by_last : (l : ℕ) → l < links round.dims → EndsLast (logs_of round.sent l)
  pub collected : (l : ℕ) → l < links round.dims → logs_of round.got l ≡ logs_of round.sent l
  pub all_pushed : (e s d : ℕ) → e < epochs → s < ranks round.dims → d < ranks round.dims
      → pushed_items round e s d ≡ sent e s d
  pub all_came : (e s d : ℕ) → s < ranks round.dims → d < ranks round.dims → pulled_items round e d s ≡ pushed_items round e s d
  pub shape : (l : ℕ) → l < links round.dims → IsLogShape manner round.cap (logs_of round.sent l)

-- A run leaves one transcript, which reports a table: two epochs for each of its rounds.
pub record ReportsTable (Is : Table → Type 0) (made : BankShape) (manner : Manner)
    (transcripts : List ClosedRound) : Type 0 where
  pub closed : ClosedRound
  pub only : transcripts ≡ closed ∷ []
  pub table : Table
  pub is : Is table
  pub reports : Reports made manner (2 * table.rounds) (in_epoch table) (round_inside closed)

-- The rounds of ig by queries and replies are three, over banks of one make: the round in which the
-- columns are summed, the queries of each entry's rank for its column, and the replies.
pub record ReportsAsking (m : Sparse) (made : BankShape) (steady : Bool) (transcripts : List ClosedRound) : Type 0 where
  pub sums : ClosedRound
  pub queries : ClosedRound
  pub replies : ClosedRound
  pub three : transcripts ≡ sums ∷ queries ∷ replies ∷ []
  pub summed : Reports made (ByConveyor steady) 2 (in_epoch (sums_table (ranks made.dims) m)) (round_inside sums)
  pub asked : Reports made (ByConveyor steady) 1 (λ e. queries_for m (ranks made.dims)) (round_inside queries)
  pub replied : Reports made (ByConveyor steady) 1 (λ e. replies_for m (ranks made.dims)) (round_inside replies)

-- By queries and replies or not. Lines have no columns to ask for.
unfoldable pub ReportsBy : Bool → Command → Subject → BankShape → List ClosedRound → Type 0
ReportsBy true c (subject.Matrix m) made transcripts = ReportsAsking m made c.travel.steady transcripts
ReportsBy true c (subject.Lines lines) made transcripts = ⊥
ReportsBy false c s made transcripts = ReportsTable (IsTable c.task (ranks made.dims) s) made (manner_for c) transcripts

-- The transcripts report what a command exchanged for its subject, on one thread or by threads.
-- For histo on 4 ranks: the one round of histo_table 4 m, and the votes on it, which are 0.
unfoldable pub ReportsCommand : Bool → Command → Subject → List ClosedRound → Type 0
ReportsCommand serial c s transcripts = ReportsBy (by_asking c) c s (made_for serial c) transcripts

-- The gate was notified of as many turns of each rank as a link of the first transcript ended
-- epochs: `notified r m` for turn m of rank r, counted from 0.
-- For histo on 4 ranks, which has one round and so two epochs: of two turns of each rank.
unfoldable pub NotifiedOfEpochs : List ℕ → (ℕ → ℕ → Bool) → List ClosedRound → Type 0
NotifiedOfEpochs dims notified [] = Unit {0}
NotifiedOfEpochs dims notified (closed ∷ rest) = (l r m : ℕ) → l < links dims → r < ranks dims
    → m < lasts (logs_of (round_inside closed).sent l) → notified r m ≡ true
