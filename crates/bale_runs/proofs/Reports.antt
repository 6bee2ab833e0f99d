-- What the rounds tell of the programs' canonical run, as what they report of the tables.
use Rattle.std.proofs.Common.{◌≡◌, ℕ, ◌+◌, ◌-◌, ◌*◌, ◌/◌, ◌%◌, ◌<◌, ◌≤◌, Bool, true, false, not, cond, eqb, ltb, ◌||◌, List, [], ◌∷◌, Option, Some, None, slice_get, arith, inl, inr, refl, sym, ap, ◌∙◌, subst}
use Rattle.std.specs.Prelude.{if◌then◌else◌, Result, Ok, Err, IfOk, OnOk}
use Rattle.std.proofs.lemmas.Bool.{cases_eq, cases_lt, eq-eqb, ne_eqb, eqb-true, lt-ltb, or_parts, false≢true}
use Rattle.std.proofs.lemmas.Option.{none-some}
use Rattle.bale_items.specs.declared.item.Item.{Item}
use Rattle.list_laws.proofs.Lists.{got_map}
use Rattle.route_tensor.specs.Grid.{ranks, IsGrid}
use Rattle.route_tensor.specs.Link.{links}
use Rattle.route_tensor.proofs.Coordinates.{ranks_some}
use Rattle.port_bank.specs.Logs.{lasts}
use Rattle.port_bank.specs.Round.{Round, logs_of, pushed_items}
use Rattle.mtx_text.specs.Sparse.{Sparse, IsSparse}
use Rattle.round_program.specs.Rules.{Rules}
use Rattle.round_program.specs.Canonical.{items_of, emitted_of, emitted_by, absorbed_round, states_at, HasRounds}
use Rattle.round_program.specs.Replies.{carrying}
use Rattle.round_program.proofs.Members.{rounds_once}
use Rattle.sparse_rows.specs.Emits.{Emit}
use Rattle.sparse_rows.proofs.Starts.{made_at}
use Rattle.least_walks.specs.Walks.{no_negative}
use Rattle.rank_node.specs.Movers.{Manner}
use Rattle.rank_node.specs.Movers.Manner.{ByConveyor}
use Rattle.rank_group.specs.declared.closed_round.ClosedRound.{ClosedRound}
use Rattle.rank_group.specs.Rounds.{round_inside}
use Rattle.rank_group.specs.Transcript.{BankShape, RecordsRun, vote_sent}
use Rattle.rank_group.specs.DrivePromises.{NotifiedOfTurns}
use Rattle.biconvey.specs.Drives.{RecordsOneWay}
use Rattle.app_sssp.specs.SsspRuns.{IsGraph}
use Rattle.app_histo_ig.specs.Sums.{sums_rules}
use Rattle.app_histo_ig.specs.SumsRuns.{sums_starts}
use Rattle.round_tables.specs.Tables.{Table, histo_table, ig_table, sums_table, permute_table, transpose_table, tally_table}
use Rattle.round_tables.specs.Follows.{FollowsTable, HasTable, Vote}
use Rattle.round_tables.proofs.TableLaws.{table_laws}
use Rattle.bale_words.specs.declared.command.Command.{Command}
use Rattle.bale_words.specs.declared.task.Task.{Task}
use Rattle.bale_words.specs.declared.task.Task.TheVariants as task
use Rattle.bale_words.specs.Ranges.{TaskInRanges}
use Rattle.bale_subjects.specs.declared.refusal.Refusal.{Refusal}
use Rattle.bale_subjects.specs.declared.subject.Subject.{Subject}
use Rattle.bale_subjects.specs.declared.subject.Subject.TheVariants as subject
use Rattle.bale_subjects.specs.Fitness.{task_unfitness}
use Rattle.bale_subjects.specs.Numberings.{perms_for}
use Rattle.bale_subjects.specs.Subjects.{is_tally}
use Rattle.bale_answers.specs.Needs.{CanMove}
use Rattle.bale_answers.specs.Tasks.{matrix_plan, plan_of}
use Rattle.bale_answers.proofs.Moving.{moves}
use Rattle.bale_runs.specs.declared.exchange.RunEnd.{RunEnd}
use Rattle.bale_runs.specs.Jobs.{by_asking, manner_for}
use Rattle.bale_runs.specs.Runs.{Records, made_for}
use Rattle.bale_runs.specs.Asking.{RecordsAsking, RecordsBy, NotifiedBy}
use Rattle.bale_runs.specs.Reports.{IsMatrixTable, IsTable, Reports, ReportsTable, ReportsAsking, ReportsBy, ReportsCommand, NotifiedOfEpochs, in_epoch}
use Rattle.bale_runs.specs.RunEnds.{CommandFits, IsRunEnd, IsKnown}
use Rattle.bale_runs.proofs.Exchanges.{task_fit}

abbrev head_or : ClosedRound → List ClosedRound → ClosedRound
head_or d [] = d
head_or d (k ∷ ks) = k

first_same : (a b : ClosedRound) → a ∷ [] ≡ b ∷ [] → a ≡ b
first_same a b e = ap (head_or a) e

-- ---- What is sent in an epoch

line_sent : {S : Type 0} (R : Rules S) (starts : List S) (n p : ℕ) (line : ℕ → List (ℕ × Item)) (s d : ℕ) → s < p → Emit R starts n p line
    → emitted_by R (states_at R starts n) d s ≡ items_of d (line s)
line_sent {S} R starts n p line s d low emit =
    let ss : List S = states_at R starts n in
    let u = got_map R.emissions ss s (line s) (ap (λ xs. slice_get xs s) emit ∙ made_at line p s low) in
    ap (λ (o : Option S). emitted_of R o d) u.1 ∙ ap (items_of d) u.2

vote_cast : {S : Type 0} (R : Rules S) (starts : List S) (n p : ℕ) (vote : ℕ → ℕ) (s : ℕ) → s < p → Vote R starts n p vote
    → vote_sent R (slice_get (absorbed_round R (states_at R starts n)) s) ≡ carrying (vote s) ∷ []
vote_cast {S} R starts n p vote s low cast =
    let ss : List S = absorbed_round R (states_at R starts n) in
    let u = got_map R.vote ss s (vote s) (ap (λ xs. slice_get xs s) cast ∙ made_at vote p s low) in
    ap (λ (o : Option S). vote_sent R o) u.1 ∙ ap (λ v. carrying v ∷ []) u.2

pub reports : {S : Type 0} (R : Rules S) (starts : List S) (t : Table) (count : ℕ) (made : BankShape) (manner : Manner) (round : Round)
    → FollowsTable R starts (ranks made.dims) t → HasRounds R starts count → RecordsRun R starts count made manner round → Reports made manner (2 * t.rounds) (in_epoch t) round
reports R starts t count made manner round f has tells =
    let same : count ≡ t.rounds = rounds_once R starts count t.rounds has f.has_rounds in
    let size : ranks round.dims ≡ ranks made.dims = ap (λ (b : BankShape). ranks b.dims) tells.bank in
    record {
      bank = tells.bank;
      ended = λ l low. tells.ended l low ∙ ap (λ n. 2 * n) same;
      by_last = tells.by_last;
      collected = tells.collected;
      all_pushed = λ e s d low from to. elim (cases_eq (e % 2) 0) [
        | inl even ↦
            let is : e ≡ 2 * (e / 2) = omega arith in
            ap (λ k. pushed_items round k s d) is ∙ tells.work (e / 2) s d (omega arith) from to
            ∙ line_sent R starts (e / 2) (ranks made.dims) (t.line (e / 2)) s d (subst (λ n. s < n) size from) (f.sent (e / 2) (omega arith))
            ∙ sym (ap (λ b. cond b (items_of d (t.line (e / 2) s)) (carrying (t.vote (e / 2) s) ∷ [])) (eq-eqb (e % 2) 0 even))
        | inr odd ↦
            let is : e ≡ 2 * (e / 2) + 1 = omega arith in
            ap (λ k. pushed_items round k s d) is ∙ tells.votes (e / 2) s d (omega arith) from to
            ∙ vote_cast R starts (e / 2) (ranks made.dims) (t.vote (e / 2)) s (subst (λ n. s < n) size from) (f.voted (e / 2) (omega arith))
            ∙ sym (ap (λ b. cond b (items_of d (t.line (e / 2) s)) (carrying (t.vote (e / 2) s) ∷ [])) (ne_eqb (e % 2) 0 odd))
      ];
      all_came = tells.all_came;
      shape = tells.shape;
    }

reports_way : (made : BankShape) (steady : Bool) (items : ℕ → ℕ → List Item) (round : Round) → RecordsOneWay made steady items round → Reports made (ByConveyor steady) 1 (λ e. items) round
reports_way made steady items round t =
    record {
      bank = t.bank;
      ended = t.ended;
      by_last = t.by_last;
      collected = t.collected;
      all_pushed = λ e s d low from to. (let z : e ≡ 0 = omega arith in ap (λ k. pushed_items round k s d) z ∙ t.pushed_all s d from to);
      all_came = t.all_came;
      shape = t.shape;
    }

-- ---- The table of each task

given : {S : Type 0} (R : Rules S) (starts : List S) (p : ℕ) (t : Table) → FollowsTable R starts p t → HasTable R starts p (λ u. u ≡ t)
given R starts p t f = record { table = t; is = refl; follows = f }

passes : {X : Type 0} (b : Bool) (x : X) (rest : Option X) → (if b then Some x else rest) ≡ None → (b ≡ false) × (rest ≡ None)
passes true x rest h = absurd (none-some x (sym h))
passes false x rest h = (refl, h)

not_not : (b : Bool) → not b ≡ false → b ≡ true
not_not true h = refl
not_not false h = sym h

square : (m : Sparse) (serial : Bool) → task_unfitness task.Topo m serial ≡ None → m.rows ≡ m.cols
square m serial fits = sym (eqb-true m.cols m.rows (not_not (eqb m.cols m.rows) (passes (not (eqb m.cols m.rows)) _ _ fits).0))

-- a graph, and a source that is one of its vertices
graph : (source : ℕ) (width : Option ℕ) (m : Sparse) (serial : Bool) → IsSparse m → task_unfitness (task.Sssp source width) m serial ≡ None → IsGraph m × (source - 1 < m.rows)
graph source width m serial is fits =
    let a = passes (not (eqb m.cols m.rows)) _ _ fits in
    let b = passes (not (no_negative m.entries)) _ _ a.1 in
    let c = passes (eqb source 0 || ltb m.rows source) _ _ b.1 in
    let range = or_parts (eqb source 0) (ltb m.rows source) c.0 in
    let some : 1 ≤ source = elim (cases_eq source 0) [ inl e ↦ absurd (false≢true (sym range.0 ∙ eq-eqb source 0 e)) | inr n ↦ omega arith ] in
    let vertex : source ≤ m.rows = elim (cases_lt m.rows source) [ inl l ↦ absurd (false≢true (sym range.1 ∙ lt-ltb m.rows source l)) | inr n ↦ omega arith ] in
    (record { matrix = is; square = eqb-true m.cols m.rows (not_not (eqb m.cols m.rows) a.0); weights = not_not (no_negative m.entries) b.0 }, omega arith)

matrix_table : (t : Task) (p : ℕ) (m : Sparse) (serial : Bool) → 1 ≤ p → p ≤ 64 → IsSparse m → TaskInRanges t → task_unfitness t m serial ≡ None → (not (is_tally t) ≡ true)
    → HasTable (matrix_plan t m).rules ((matrix_plan t m).starts p) p (IsMatrixTable t p m)
matrix_table task.Histo p m serial some few is ranges fits kind = given _ _ p (histo_table p m) (table_laws.histo p m)
matrix_table task.Ig p m serial some few is ranges fits kind = given _ _ p (ig_table p m) (table_laws.ig p m some is)
matrix_table (task.Permute by) p m serial some few is ranges fits kind =
    let new : CanMove by m = moves by m serial fits in
    given _ _ p (permute_table p m (perms_for by m).rows (perms_for by m).cols) (table_laws.permute p m (perms_for by m).rows (perms_for by m).cols some is new.0 new.1)
matrix_table task.Transpose p m serial some few is ranges fits kind = given _ _ p (transpose_table p m) (table_laws.transpose p m)
matrix_table task.Topo p m serial some few is ranges fits kind = table_laws.topo p m some (square m serial fits) is
matrix_table (task.Sssp source None) p m serial some few is ranges fits kind =
    let g = graph source None m serial is fits in
    table_laws.sssp p m (source - 1) some g.0 g.1
matrix_table (task.Sssp source (Some delta)) p m serial some few is ranges fits kind =
    let g = graph source (Some delta) m serial is fits in
    table_laws.delta p m (source - 1) delta some few ranges.0 ranges.1 g.0 g.1
matrix_table task.Tally p m serial some few is ranges fits kind = absurd (false≢true kind)

table_for : (t : Task) (p : ℕ) (c : Command) (s : Subject) (serial : Bool) → t ≡ c.task → 1 ≤ p → p ≤ 64 → IsKnown s → CommandFits c s serial
    → HasTable (plan_of t s).rules ((plan_of t s).starts p) p (IsTable t p s)
unfolding IsTable
table_for t p c (subject.Matrix m) serial same some few known f =
    matrix_table t p m serial some few known (subst TaskInRanges (sym same) f.ranges.task)
    (subst (λ u. task_unfitness u m serial ≡ None) (sym same) (task_fit c (subject.Matrix m) serial f.fits)) (subst (λ u. not (is_tally u) ≡ true) (sym same) f.suits)
table_for t p c (subject.Lines lines) serial same some few known f = given _ _ p (tally_table p lines) (table_laws.tally p lines)

-- ---- The rounds of a command

reports_table : {S : Type 0} (R : Rules S) (starts : List S) (Is : Table → Type 0) (made : BankShape) (manner : Manner) (rounds : List ClosedRound)
    → HasTable R starts (ranks made.dims) Is → Records R starts made manner rounds → ReportsTable Is made manner rounds
reports_table R starts Is made manner rounds h t =
    record { closed = t.closed; only = t.only; table = h.table; is = h.is; reports = reports R starts h.table t.count made manner (round_inside t.closed) h.follows t.has_rounds t.tells }

reports_asking : (m : Sparse) (made : BankShape) (steady : Bool) (rounds : List ClosedRound) → RecordsAsking m made steady rounds → ReportsAsking m made steady rounds
reports_asking m made steady rounds t =
    let s = t.summed in
    record {
      sums = t.sums;
      queries = t.replied.queries;
      replies = t.replied.replies;
      three = t.first ∙ ap (λ rs. t.sums ∷ rs) t.replied.two;
      summed =
          subst (λ k. Reports made (ByConveyor steady) 2 (in_epoch (sums_table (ranks made.dims) m)) (round_inside k)) (sym (first_same t.sums s.closed s.only))
          (reports sums_rules (sums_starts (ranks made.dims) m) (sums_table (ranks made.dims) m) s.count made (ByConveyor steady) (round_inside s.closed) (table_laws.sums (ranks made.dims) m) s.has_rounds s.tells);
      asked = reports_way made steady _ (round_inside t.replied.queries) t.replied.asking;
      replied = reports_way made steady _ (round_inside t.replied.replies) t.replied.replying;
    }

pub reports_by : (b : Bool) (c : Command) (s : Subject) (serial : Bool) (rounds : List ClosedRound) → IsGrid c.grid → IsKnown s → CommandFits c s serial
    → RecordsBy b c s (made_for serial c) rounds → ReportsBy b c s (made_for serial c) rounds
unfolding ReportsBy
reports_by true c (subject.Matrix m) serial rounds grid known f t = reports_asking m (made_for serial c) c.travel.steady rounds t
reports_by true c (subject.Lines lines) serial rounds grid known f t = t
reports_by false c s serial rounds grid known f t =
    reports_table (plan_of c.task s).rules ((plan_of c.task s).starts (ranks c.grid)) (IsTable c.task (ranks c.grid) s) (made_for serial c) (manner_for c) rounds
    (table_for c.task (ranks c.grid) c s serial refl (ranks_some c.grid grid.positive) grid.small known f) t

-- ---- What the gate is notified of

told_table : {S : Type 0} (R : Rules S) (starts : List S) (dims : List ℕ) (notified : ℕ → ℕ → Bool) (made : BankShape) (manner : Manner) (rounds : List ClosedRound)
    → made.dims ≡ dims → Records R starts made manner rounds → NotifiedOfTurns R starts dims notified → NotifiedOfEpochs dims notified rounds
unfolding NotifiedOfEpochs
told_table R starts dims notified made manner rounds same t f =
    subst (NotifiedOfEpochs dims notified) (sym t.only) (λ l r m lo low early.
    let grid : (round_inside t.closed).dims ≡ dims = ap (λ (b : BankShape). b.dims) t.tells.bank ∙ same in
    f t.count r m t.has_rounds low (subst (λ n. m < n) (t.tells.ended l (subst (λ (ds : List ℕ). l < links ds) (sym grid) lo)) early))

told_asking : (m : Sparse) (dims : List ℕ) (notified : ℕ → ℕ → Bool) (made : BankShape) (steady : Bool) (rounds : List ClosedRound)
    → made.dims ≡ dims → RecordsAsking m made steady rounds → ((r i : ℕ) → r < ranks dims → i < 2 → notified r i ≡ true) → NotifiedOfEpochs dims notified rounds
unfolding NotifiedOfEpochs
told_asking m dims notified made steady rounds same t f =
    subst (NotifiedOfEpochs dims notified) (sym t.first) (λ l r i lo low early.
    let s = t.summed in
    let grid : (round_inside s.closed).dims ≡ dims = ap (λ (b : BankShape). b.dims) s.tells.bank ∙ same in
    let one : s.count ≡ 1 = rounds_once sums_rules (sums_starts (ranks made.dims) m) s.count 1 s.has_rounds (table_laws.sums (ranks made.dims) m).has_rounds in
    let ended : lasts (logs_of (round_inside s.closed).sent l) ≡ 2 = s.tells.ended l (subst (λ (ds : List ℕ). l < links ds) (sym grid) lo) ∙ ap (λ n. 2 * n) one in
    f r i low (subst (λ n. i < n) (ap (λ k. lasts (logs_of (round_inside k).sent l)) (first_same t.sums s.closed s.only) ∙ ended) early))

told_by : (b : Bool) (c : Command) (s : Subject) (serial : Bool) (notified : ℕ → ℕ → Bool) (rounds : List ClosedRound)
    → RecordsBy b c s (made_for serial c) rounds → NotifiedBy b c s notified → NotifiedOfEpochs c.grid notified rounds
told_by true c (subject.Matrix m) serial notified rounds t f = told_asking m c.grid notified (made_for serial c) c.travel.steady rounds refl t f
told_by true c (subject.Lines lines) serial notified rounds t f = absurd t
told_by false c s serial notified rounds t f = told_table (plan_of c.task s).rules ((plan_of c.task s).starts (ranks c.grid)) c.grid notified (made_for serial c) (manner_for c) rounds refl t f

-- ---- The end of a run

pub reported : {K : Type 0} (b : Bool) (c : Command) (s : Subject) (serial : Bool) (taken : K → Option (List ℕ)) (faults : K → ℕ) (out out' : K) (ran : Result RunEnd Refusal)
    → by_asking c ≡ b → IsGrid c.grid → IsKnown s → CommandFits c s serial
    → IsRunEnd c s (RecordsBy b c s (made_for serial c)) taken faults out out' ran → IsRunEnd c s (ReportsCommand serial c s) taken faults out out' ran
unfolding ReportsCommand ReportsBy
reported b c s serial taken faults out out' ran is grid known f e =
    record {
      ending = e.ending;
      rounds = subst (λ a. IfOk ran (λ g. ReportsBy a c s (made_for serial c) g.rounds)) (sym is) (each ran e.rounds);
      memory = e.memory;
      no_answer = e.no_answer;
    }
  where
    each : (r : Result RunEnd Refusal) → IfOk r (λ g. RecordsBy b c s (made_for serial c) g.rounds) → IfOk r (λ g. ReportsBy b c s (made_for serial c) g.rounds)
    each (Ok g) t = reports_by b c s serial g.rounds grid known f t
    each (Err r) t = tt

pub told_epochs : (b : Bool) (c : Command) (s : Subject) (serial : Bool) (notified : ℕ → ℕ → Bool) (ran : Result RunEnd Refusal)
    → IfOk ran (λ g. RecordsBy b c s (made_for serial c) g.rounds) → OnOk ran (NotifiedBy b c s notified) → IfOk ran (λ g. NotifiedOfEpochs c.grid notified g.rounds)
told_epochs b c s serial notified (Ok g) t f = told_by b c s serial notified g.rounds t f
told_epochs b c s serial notified (Err r) t f = tt
