-- What a command exchanges, and how many turns that takes on one thread: by queries and replies for
-- ig over biconvey, else in the rounds of its programs.
use Rattle.std.specs.Prelude.{◌≡◌, ◌<◌, ◌≤◌, ◌+◌, ◌*◌, ◌++◌, ℕ, Bool, true, false, List, [], ◌∷◌, map, length}
use Rattle.std.specs.List.{range_with_len}
use Rattle.route_tensor.specs.Grid.{ranks}
use Rattle.bale_items.specs.declared.item.Item.{Item}
use Rattle.bale_items.specs.Bits.{twos_complement}
use Rattle.mtx_text.specs.Sparse.{Sparse}
use Rattle.sparse_rows.specs.Deals.{dealt}
use Rattle.sparse_rows.specs.Owners.{column_owner, own_entries}
use Rattle.rank_node.specs.Movers.{manner_of}
use Rattle.rank_node.specs.declared.via.Via.TheVariants as via
use Rattle.rank_group.specs.declared.closed_round.ClosedRound.{ClosedRound}
use Rattle.rank_group.specs.declared.drive.Finished.{Finished}
use Rattle.rank_group.specs.Rounds.{round_inside}
use Rattle.rank_group.specs.Transcript.{BankShape, turns_within}
use Rattle.rank_group.specs.DrivePromises.{NotifiedOfTurns}
use Rattle.round_program.specs.Canonical.{HaveEnded}
use Rattle.round_program.specs.Replies.{carrying}
use Rattle.app_cases.specs.Any.{AnyState, any_rules, sums_way}
use Rattle.app_histo_ig.specs.IgLines.{column_sum}
use Rattle.app_histo_ig.specs.Sums.{sums_rules}
use Rattle.app_histo_ig.specs.SumsRuns.{sums_starts}
use Rattle.app_histo_ig.specs.Asking.{AskingState, ig_talk}
use Rattle.app_histo_ig.specs.AskingRuns.{AreAskersOf}
use Rattle.app_histo_ig.specs.ColumnAnswers.{IgHeard}
use Rattle.biconvey.specs.Drives.{RecordsOneWay}
use Rattle.biconvey.specs.DrivePromises.{HasSweptBoth}
use Rattle.biconvey.specs.RanksOverBanks.{bi_turns_of}
use Rattle.bale_words.specs.declared.command.Command.{Command}
use Rattle.bale_subjects.specs.declared.subject.Subject.{Subject}
use Rattle.bale_subjects.specs.declared.subject.Subject.TheVariants as subject
use Rattle.bale_runs.specs.Jobs.{by_asking, manner_for}
use Rattle.bale_answers.specs.Tasks.{plan_of, starts_of}
use Rattle.bale_runs.specs.Runs.{made_for, SweptInOrder, Records, RecordsTask, TurnsOfTask, FewestOfTask}

-- The columns that rank s asks rank d about, in order: those of its entries that d owns.
-- columns_asked m ranks s d = the columns of the entries e of s with column_owner ranks e = d
-- Of entries in the columns 0, 1, 3, 1 and 5, on 2 ranks, rank 0 has those in 0, 3 and 5; it asks
-- rank 1 about 3 and 5.
abbrev pub columns_asked : Sparse → ℕ → ℕ → ℕ → List ℕ
columns_asked m ranks s d = map (λ e. e.1.j) (dealt (column_owner ranks) d (own_entries ranks s m.entries))

-- The queries of s to d: an item for each, which carries it.
abbrev pub queries_for : Sparse → ℕ → ℕ → ℕ → List Item
queries_for m ranks s d = map carrying (columns_asked m ranks s d)

-- The replies of d to s: for each the sum of this column, as its two's complement.
-- If columns 3 and 5 have the sums 7 and -1, rank 1 replies 7 and 2^64 - 1.
abbrev pub replies_for : Sparse → ℕ → ℕ → ℕ → List Item
replies_for m ranks d s = map (λ j. carrying (twos_complement (column_sum j m.entries))) (columns_asked m ranks s d)

-- Two closed rounds tell the queries, of each entry's rank for its column, and the replies, over
-- two banks of one make.
pub record RecordsReplies (m : Sparse) (made : BankShape) (steady : Bool) (rounds : List ClosedRound) : Type 0 where
  pub queries : ClosedRound
  pub replies : ClosedRound
  pub two : rounds ≡ queries ∷ replies ∷ []
  pub asking : RecordsOneWay made steady (queries_for m (ranks made.dims)) (round_inside queries)
  pub replying : RecordsOneWay made steady (replies_for m (ranks made.dims)) (round_inside replies)

-- The rounds of ig by queries and replies are three. The first tells the one round on conveyors in
-- which the columns are summed, over a bank of the same make, and the rest the queries and the
-- replies.
pub record RecordsAsking (m : Sparse) (made : BankShape) (steady : Bool) (rounds : List ClosedRound) : Type 0 where
  pub sums : ClosedRound
  pub rest : List ClosedRound
  pub first : rounds ≡ sums ∷ rest
  pub summed : Records sums_rules (sums_starts (ranks made.dims) m) made (manner_of via.Convey steady) (sums ∷ [])
  pub replied : RecordsReplies m made steady rest

-- What the round leaves in which the columns of a matrix are summed.
pub record HasSummed (m : Sparse) (made : BankShape) (steady : Bool) (run : Finished AnyState) : Type 0 where
  -- The programs are as the canonical run leaves them.
  pub ended : HaveEnded any_rules (map sums_way.case (sums_starts (ranks made.dims) m)) run.progs
  -- One closed round tells it.
  pub rounds : Records sums_rules (sums_starts (ranks made.dims) m) made (manner_of via.Convey steady) run.rounds

-- What the queries and the replies leave.
pub record LeftByQueries (m : Sparse) (made : BankShape) (steady : Bool) (run : Finished AskingState) : Type 0 where
  -- Each asker has heard the sums of its entries' columns.
  pub heard : IgHeard m run.progs
  -- Two closed rounds tell both ways.
  pub rounds : RecordsReplies m made steady run.rounds

-- From `before` turns to `after` there are no more than the round of sums takes at most, and an
-- exchange of one query an entry.
abbrev pub TurnsOfAsking : Sparse → Bool → List ℕ → ℕ → ℕ → Type 0
TurnsOfAsking m steady dims before after =
    after ≤ before
    + (turns_within sums_rules (manner_of via.Convey steady) dims (sums_starts (ranks dims) m) 1
    + bi_turns_of dims (length m.entries))

-- What the rounds of a command tell, by queries and replies or not. Lines have no columns to ask
-- for.
abbrev pub RecordsBy : Bool → Command → Subject → BankShape → List ClosedRound → Type 0
RecordsBy true c (subject.Matrix m) made rounds = RecordsAsking m made c.travel.steady rounds
RecordsBy true c (subject.Lines lines) made rounds = ⊥
RecordsBy false c s made rounds = RecordsTask c.task s made (manner_for c) rounds

abbrev pub TurnsBy : Bool → Command → Subject → ℕ → ℕ → Type 0
TurnsBy true c (subject.Matrix m) before after = TurnsOfAsking m c.travel.steady c.grid before after
TurnsBy true c (subject.Lines lines) before after = after ≡ before
TurnsBy false c s before after = TurnsOfTask c.task s (manner_for c) c.grid before after

-- The turns of a command on its subject, all ranks on one thread, are bounded before it.
abbrev pub TurnsOfCommand : Command → Subject → ℕ → ℕ → Type 0
TurnsOfCommand c s before after = TurnsBy (by_asking c) c s before after

-- Each rank made one in each epoch at least: by queries and replies two in the round of sums and
-- one in the exchange.
abbrev pub FewestBy : Bool → Command → Subject → ℕ → ℕ → Type 0
FewestBy true c (subject.Matrix m) before after = before + 3 * ranks c.grid ≤ after
FewestBy true c (subject.Lines lines) before after = ⊥
FewestBy false c s before after = FewestOfTask c.task s c.grid before after

-- The fewest turns of a command on its subject, all ranks on one thread.
abbrev pub FewestOfCommand : Command → Subject → ℕ → ℕ → Type 0
FewestOfCommand c s before after = FewestBy (by_asking c) c s before after

-- On one thread the ranks made the turns of the queries and the replies in sweeps, each in the
-- order 0, 1, .., P-1, and no other turn; the rounds tell what these turns left.
pub record AskedInOrder (m : Sparse) (made : BankShape) (steady : Bool) (before after : ℕ)
    (rounds : List ClosedRound) : Type 0 where
  pub askers : List AskingState
  pub are : AreAskersOf m (ranks made.dims) askers
  pub run : Finished AskingState
  pub left : run.rounds ≡ rounds
  pub swept : HasSweptBoth ig_talk askers made steady (range_with_len 0 (ranks made.dims)) before after run

-- By queries and replies the first turns are those of the round of sums, and the rest those of the
-- exchange.
pub record SweptByAsking (m : Sparse) (made : BankShape) (steady : Bool) (before after : ℕ)
    (rounds : List ClosedRound) : Type 0 where
  pub between : ℕ
  pub sums : List ClosedRound
  pub rest : List ClosedRound
  pub parts : rounds ≡ sums ++ rest
  pub summed : SweptInOrder (map sums_way.case (sums_starts (ranks made.dims) m)) made
      (manner_of via.Convey steady) before between sums
  pub asked : AskedInOrder m made steady between after rest

abbrev pub RunSweptBy : Bool → Command → Subject → ℕ → ℕ → List ClosedRound → Type 0
RunSweptBy true c (subject.Matrix m) before after rounds =
    SweptByAsking m (made_for true c) c.travel.steady before after rounds
RunSweptBy true c (subject.Lines lines) before after rounds = ⊥
RunSweptBy false c s before after rounds =
    SweptInOrder (starts_of c.task (ranks c.grid) s) (made_for true c) (manner_for c) before after rounds

-- The sweeps of a command on its subject, all ranks on one thread.
abbrev pub SweptOfCommand : Command → Subject → ℕ → ℕ → List ClosedRound → Type 0
SweptOfCommand c s before after rounds = RunSweptBy (by_asking c) c s before after rounds

-- `notified` holds of the turns of each rank, by the rank's number and its own, counted from 0: by
-- queries and replies of the two that the round of sums takes at least, else of two in each round.
abbrev pub NotifiedBy : Bool → Command → Subject → (ℕ → ℕ → Bool) → Type 0
NotifiedBy true c s notified = (r m : ℕ) → r < ranks c.grid → m < 2 → notified r m ≡ true
NotifiedBy false c s notified =
    NotifiedOfTurns (plan_of c.task s).rules ((plan_of c.task s).starts (ranks c.grid)) c.grid notified
