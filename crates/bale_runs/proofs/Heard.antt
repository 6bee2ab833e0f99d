-- What a run by queries and replies tells, and how many turns it takes.
use Rattle.std.proofs.Common.{ℕ, ◌≡◌, ◌≤◌, ◌<◌, ◌+◌, ◌&&◌, Bool, true, false, List, [], ◌∷◌, ◌++◌, All, map, length, get_or, sum_by, Result, Ok, Err, IfOk, refl, sym, ap, ◌∙◌, subst, arith, ◌*◌}
use Rattle.std.proofs.Math.Nat.{mod-lt}
use Rattle.std.proofs.lemmas.List.{length-map}
use Rattle.std.proofs.lemmas.List.FromFn.{length-enumerate_from, length-map-range_with_len}
use Rattle.std.proofs.lemmas.List.Sums.{sum_by-cons}
use Rattle.list_laws.specs.Sums.{total}
use Rattle.list_laws.proofs.Sums.{total_same, total_list}
use Rattle.route_tensor.specs.Grid.{ranks}
use Rattle.mtx_text.specs.Sparse.{Sparse, IsSparse}
use Rattle.sparse_rows.specs.Owners.{Numbered, with_numbers, entry_owner, column_owner, own_entries}
use Rattle.sparse_rows.proofs.Deals.{dealt_sum}
use Rattle.round_program.specs.Canonical.{HasRounds, HaveEnded}
use Rattle.round_program.specs.Replies.{HaveHeard}
use Rattle.rank_node.specs.Movers.{manner_of}
use Rattle.rank_node.specs.declared.via.Via.TheVariants as via
use Rattle.rank_group.specs.declared.closed_round.ClosedRound.{ClosedRound}
use Rattle.rank_group.specs.Transcript.{BankShape, turns_within}
use Rattle.app_histo_ig.specs.Sums.{SumsState, sums_rules}
use Rattle.app_histo_ig.specs.SumsRuns.{sums_begins, sums_starts, SumsEnded}
use Rattle.app_histo_ig.specs.Asking.{AskingState, ig_talk}
use Rattle.app_histo_ig.specs.AskingRuns.{AreAskersOf}
use Rattle.app_histo_ig.specs.ColumnAnswers.{IgHeard}
use Rattle.app_histo_ig.proofs.SumsStarts.{one_round}
use Rattle.app_cases.specs.Any.{AnyState, any_rules, sums_way}
use Rattle.biconvey.specs.RanksOverBanks.{bi_turns_of}
use Rattle.bale_words.specs.declared.command.Command.{Command}
use Rattle.bale_words.specs.declared.task.Task.{Task}
use Rattle.bale_words.specs.declared.task.Task.TheVariants as task
use Rattle.bale_words.specs.declared.command.Transport.{Transport}
use Rattle.bale_words.specs.declared.command.Transport.TheVariants.{Convey, Biconvey}
use Rattle.bale_subjects.specs.declared.subject.Subject.{Subject}
use Rattle.bale_subjects.specs.declared.subject.Subject.TheVariants as subject
use Rattle.bale_runs.specs.Asking.{RecordsAsking, RecordsReplies, TurnsBy, TurnsOfAsking, TurnsOfCommand}
use Rattle.bale_runs.specs.Jobs.{by_asking, is_biconvey, is_ig}
use Rattle.bale_runs.specs.Runs.{Records}
use Rattle.bale_runs.proofs.Cases.{turns, none_made}

-- ---- Facts of a result

pub if_ok : {T E : Type 0} (r : Result T E) (P Q : T → Type 0) → ((x : T) → P x → Q x) → IfOk r P → IfOk r Q
if_ok (Ok x) P Q f p = f x p
if_ok (Err e) P Q f p = tt

-- ---- Which commands

asks_ig : (t : Transport) (k : Task) → (is_biconvey t && is_ig k) ≡ true → k ≡ task.Ig
asks_ig Biconvey task.Ig e = refl
asks_ig _ _ e = absurd cc

pub is_asked : (c : Command) → by_asking c ≡ true → c.task ≡ task.Ig
is_asked c e = asks_ig c.travel.transport c.task e

-- ---- The programs and the askers

pub some_starts : (m : Sparse) (p : ℕ) → 1 ≤ p → 0 < length (sums_starts p m)
some_starts m p some = subst (λ n. 1 ≤ n) (sym (length-map-range_with_len (sums_begins p m) 0 p)) some

abbrev pub sums_ended : (m : Sparse) (p : ℕ) (ends : List SumsState) → 1 ≤ p → IsSparse m → HaveEnded sums_rules (sums_starts p m) ends → SumsEnded m ends
sums_ended m p ends some sparse h = record { ranks = p; some = some; matrix = sparse; ended = h }

-- ---- What is recorded

pub tells_asking : (m : Sparse) (made : BankShape) (steady : Bool) (rounds first others : List ClosedRound)
    → Records sums_rules (sums_starts (ranks made.dims) m) made (manner_of via.Convey steady) first → RecordsReplies m made steady others
    → rounds ≡ first ++ others → RecordsAsking m made steady rounds
tells_asking m made steady rounds first others t x e =
    record {
      sums = t.closed;
      rest = others;
      first = e ∙ ap (λ (rs : List ClosedRound). rs ++ others) t.only;
      summed = subst (λ (rs : List ClosedRound). Records sums_rules (sums_starts (ranks made.dims) m) made (manner_of via.Convey steady) rs) t.only t;
      replied = x;
    }

-- ---- The turns

ones : {X : Type 0} (xs : List X) → sum_by (λ x. 1) xs ≡ length xs
ones [] = refl
ones (x ∷ xs) = sum_by-cons (λ x. 1) x xs ∙ (let h : sum_by (λ x. 1) xs ≡ length xs = ones xs in omega arith)

-- each entry is asked for once
pub one_each : (m : Sparse) (p : ℕ) (askers : List AskingState) → 0 < p → AreAskersOf m p askers → sum_by (λ (s : AskingState). length s.queries) askers ≡ length m.entries
one_each m p askers some are =
    total_list (λ (s : AskingState). length s.queries) (λ r. length (own_entries p r m.entries)) askers
    (λ r s at. ap length (are.each r s at).asks ∙ length-map (own_entries p r m.entries) (λ (e : Numbered). (column_owner p e, e.1.j)))
    ∙ (ap (λ n. total n (λ r. length (own_entries p r m.entries))) are.size
    ∙ (total_same p (λ r. length (own_entries p r m.entries)) (λ r. sum_by (λ (e : Numbered). 1) (own_entries p r m.entries)) (λ r l. sym (ones (own_entries p r m.entries)))
    ∙ (dealt_sum p (entry_owner p) (λ (e : Numbered). 1) (with_numbers m.entries) owned ∙ (ones (with_numbers m.entries) ∙ length-enumerate_from 0 m.entries))))
  where
    owned : All (λ (e : Numbered). entry_owner p e < p) (with_numbers m.entries)
    owned k d l = mod-lt (get_or (with_numbers m.entries) k d).0 some

-- the round of sums
pub sums_turns : (m : Sparse) (steady : Bool) (dims : List ℕ) (before after : ℕ) (ps : List AnyState) → ps ≡ map sums_way.case (sums_starts (ranks dims) m) → 0 < length ps
    → ((n : ℕ) → HasRounds any_rules ps n → after ≤ before + turns_within any_rules (manner_of via.Convey steady) dims ps n)
    → after ≤ before + turns_within sums_rules (manner_of via.Convey steady) dims (sums_starts (ranks dims) m) 1
sums_turns m steady dims before after ps put some f =
    turns sums_way.is_case (sums_starts (ranks dims) m) ps (manner_of via.Convey steady) dims before after put some f 1 (one_round (sums_starts (ranks dims) m))

more_turns : (before after sums queries : ℕ) → after ≤ before + sums → after ≤ before + (sums + queries)
more_turns before after sums queries h = omega (arith, h)

pub turns_of_sums : (m : Sparse) (steady : Bool) (dims : List ℕ) (before after : ℕ)
    → after ≤ before + turns_within sums_rules (manner_of via.Convey steady) dims (sums_starts (ranks dims) m) 1 → TurnsOfAsking m steady dims before after
turns_of_sums m steady dims before after h =
    more_turns before after (turns_within sums_rules (manner_of via.Convey steady) dims (sums_starts (ranks dims) m) 1) (bi_turns_of dims (length m.entries)) h

both_turns : (before between after sums queries : ℕ) → between ≤ before + sums → after ≤ between + queries → after ≤ before + (sums + queries)
both_turns before between after sums queries h k = omega (arith, h, k)

pub turns_of_both : (m : Sparse) (steady : Bool) (dims : List ℕ) (before between after : ℕ)
    → between ≤ before + turns_within sums_rules (manner_of via.Convey steady) dims (sums_starts (ranks dims) m) 1
    → after ≤ between + bi_turns_of dims (length m.entries) → TurnsOfAsking m steady dims before after
turns_of_both m steady dims before between after h k =
    both_turns before between after (turns_within sums_rules (manner_of via.Convey steady) dims (sums_starts (ranks dims) m) 1) (bi_turns_of dims (length m.entries)) h k

-- each rank's turn in an epoch of sums, of votes and of the exchange
pub three_each : (before between after ranks : ℕ) → before + 2 * ranks ≤ between → between + ranks ≤ after → before + 3 * ranks ≤ after
three_each before between after ranks h k = omega (arith, h, k)

-- where no turn was made, there are few
pub no_turns_by : (b : Bool) (c : Command) (s : Subject) (before after : ℕ) → after ≡ before → TurnsBy b c s before after
no_turns_by true c (subject.Matrix m) before after e = few _ e
  where
    few : {before after : ℕ} (more : ℕ) → after ≡ before → after ≤ before + more
    few more e = omega (arith, e)
no_turns_by true c (subject.Lines lines) before after e = e
no_turns_by false c s before after e = none_made c.task s _ c.grid before after e

pub no_turns : (c : Command) (s : Subject) (before after : ℕ) → after ≡ before → TurnsOfCommand c s before after
no_turns c s before after e = no_turns_by (by_asking c) c s before after e

pub few_turns : (m : Sparse) (steady : Bool) (dims : List ℕ) (before after : ℕ) → after ≡ before → TurnsOfAsking m steady dims before after
few_turns m steady dims before after e = none_more before after _ e
  where
    none_more : (before after more : ℕ) → after ≡ before → after ≤ before + more
    none_more before after more e = omega (arith, e)

-- ---- What is heard

pub sums_at : (m : Sparse) (p : ℕ) (ps ends : List AnyState) → ps ≡ map sums_way.case (sums_starts p m) → HaveEnded any_rules ps ends → HaveEnded any_rules (map sums_way.case (sums_starts p m)) ends
sums_at m p ps ends put h = subst (λ (xs : List AnyState). HaveEnded any_rules xs ends) put h

pub all_heard : (m : Sparse) (p : ℕ) (began ends : List AskingState) → 1 ≤ p → IsSparse m → AreAskersOf m p began → HaveHeard ig_talk began ends → IgHeard m ends
all_heard m p began ends some sparse are h = record { ranks = p; some = some; matrix = sparse; began = began; are = are; heard = h }
