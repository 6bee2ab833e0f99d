-- What the askers of a matrix ask and reply, by its columns.
use Rattle.std.proofs.Common.{ℕ, ◌≡◌, ◌<◌, ◌/◌, ◌%◌, Bool, List, [], ◌∷◌, All, cond, eqb, get_or, map, Option, slice_index_or, inl, inr, refl, sym, ap, ◌∙◌, subst}
use Rattle.std.proofs.lemmas.Bool.{cases_Bool, eqb-true}
use Rattle.std.proofs.lemmas.List.Elements.{All-head, All-tail, All-map, All-filter, filter_passes}
use Rattle.std.specs.List.{filter}
use Rattle.bale_items.specs.declared.item.Item.{Item}
use Rattle.bale_items.specs.declared.triple.Triple.{Triple}
use Rattle.bale_items.specs.Bits.{twos_complement}
use Rattle.list_laws.proofs.Lists.{find}
use Rattle.route_tensor.specs.Grid.{ranks}
use Rattle.mtx_text.specs.Sparse.{Sparse, IsSparse}
use Rattle.sparse_rows.specs.Deals.{dealt}
use Rattle.sparse_rows.specs.Owners.{Numbered, with_numbers, entry_owner, column_owner, own_entries}
use Rattle.sparse_rows.proofs.Starts.{all_numbered}
use Rattle.port_bank.specs.Round.{Round}
use Rattle.round_program.specs.Canonical.{items_of}
use Rattle.round_program.specs.Replies.{carrying, as_items, answers}
use Rattle.rank_group.specs.declared.closed_round.ClosedRound.{ClosedRound}
use Rattle.rank_group.specs.Rounds.{round_inside}
use Rattle.rank_group.specs.Transcript.{BankShape}
use Rattle.app_histo_ig.specs.IgLines.{column_sum}
use Rattle.app_histo_ig.specs.Asking.{AskingState, ig_talk}
use Rattle.app_histo_ig.specs.AskingRuns.{IsAskerOf, AreAskersOf}
use Rattle.biconvey.specs.Drives.{queries_of, answers_of, queries_by, replies_by, RecordsOneWay, RecordsExchange}
use Rattle.bale_runs.specs.Asking.{columns_asked, queries_for, replies_for, RecordsReplies}

-- what entries ask a rank for are the columns of those that it owns
asked_for : (p d : ℕ) (es : List Numbered) → items_of d (as_items (map (λ (e : Numbered). (column_owner p e, e.1.j)) es)) ≡ map carrying (map (λ (e : Numbered). e.1.j) (dealt (column_owner p) d es))
asked_for p d [] = refl
asked_for p d (e ∷ es) =
    let rest : List (ℕ × Item) = filter (λ (x : ℕ × Item). eqb x.0 d) (as_items (map (λ (x : Numbered). (column_owner p x, x.1.j)) es)) in
    let left : List Numbered = dealt (column_owner p) d es in
    elim (cases_Bool (eqb (column_owner p e) d)) [
      | inl here ↦
          ap (λ b. map (λ (x : ℕ × Item). x.1) (cond b ((column_owner p e, carrying e.1.j) ∷ rest) rest)) here
          ∙ ap (λ (xs : List Item). carrying e.1.j ∷ xs) (asked_for p d es)
          ∙ ap (λ b. map carrying (map (λ (x : Numbered). x.1.j) (cond b (e ∷ left) left))) (sym here)
      | inr away ↦
          ap (λ b. map (λ (x : ℕ × Item). x.1) (cond b ((column_owner p e, carrying e.1.j) ∷ rest) rest)) away
          ∙ asked_for p d es
          ∙ ap (λ b. map carrying (map (λ (x : Numbered). x.1.j) (cond b (e ∷ left) left))) (sym away)
    ]

-- each is a column of the matrix, and its owner is asked
columns_in : (m : Sparse) (p s d : ℕ) → IsSparse m → All (λ j. (j < m.cols) × (j % p ≡ d)) (columns_asked m p s d)
columns_in m p s d is =
    let own : List Numbered = own_entries p s m.entries in
    All-map (λ j. (j < m.cols) × (j % p ≡ d)) (λ (e : Numbered). e.1.j) (dealt (column_owner p) d own) (λ k e l. (
      All-filter (λ (x : Numbered). eqb (column_owner p x) d) (λ (x : Numbered). x.1.j < m.cols) own
          (All-filter (λ (x : Numbered). eqb (entry_owner p x) s) (λ (x : Numbered). x.1.j < m.cols) (with_numbers m.entries) (all_numbered (λ (t : Triple). t.j < m.cols) 0 m.entries (λ i b h. (is.inside i b h).col))) k e l,
      eqb-true (column_owner p (get_or (dealt (column_owner p) d own) k e)) d (filter_passes (λ (x : Numbered). eqb (column_owner p x) d) own k e l),
    ))

-- an asker that knows the sums of its columns replies them
replied : (m : Sparse) (p d : ℕ) (q : AskingState) → IsAskerOf m p d q → (from : ℕ) (js : List ℕ) → All (λ j. (j < m.cols) × (j % p ≡ d)) js
    → answers ig_talk q from (map carrying js) ≡ map (λ j. carrying (twos_complement (column_sum j m.entries))) js
replied m p d q is from [] all = refl
replied m p d q is from (j ∷ js) all =
    let own : (j < m.cols) × (j % p ≡ d) = All-head (λ j. (j < m.cols) × (j % p ≡ d)) j js all in
    ap (λ v. carrying v ∷ answers ig_talk q from (map carrying js)) (ap (λ n. slice_index_or q.sums (j / n) 0) is.all_ranks ∙ is.knows j own.0 own.1)
    ∙ ap (λ (xs : List Item). carrying (twos_complement (column_sum j m.entries)) ∷ xs) (replied m p d q is from js (All-tail (λ j. (j < m.cols) × (j % p ≡ d)) j js all))

queries_are : (m : Sparse) (p : ℕ) (askers : List AskingState) → AreAskersOf m p askers → (s d : ℕ) → s < p → queries_by ig_talk askers s d ≡ queries_for m p s d
queries_are m p askers are s d low =
    let q = find askers s (subst (λ n. s < n) (sym are.size) low) in
    ap (λ (o : Option AskingState). queries_of ig_talk o d) q.1
    ∙ ap (λ (qs : List (ℕ × ℕ)). items_of d (as_items qs)) (are.each s q.0 q.1).asks
    ∙ asked_for p d (own_entries p s m.entries)

replies_are : (m : Sparse) (p : ℕ) (askers : List AskingState) → IsSparse m → AreAskersOf m p askers → (d s : ℕ) → d < p → s < p → replies_by ig_talk askers d s ≡ replies_for m p d s
replies_are m p askers is are d s there low =
    let q = find askers d (subst (λ n. d < n) (sym are.size) there) in
    ap (λ (o : Option AskingState). answers_of ig_talk o s (queries_by ig_talk askers s d)) q.1
    ∙ ap (λ (xs : List Item). answers ig_talk q.0 s xs) (queries_are m p askers are s d low)
    ∙ replied m p d q.0 (are.each d q.0 q.1) s (columns_asked m p s d) (columns_in m p s d is)

-- a round that tells some lists tells equal ones
same_way : (made : BankShape) (steady : Bool) (f g : ℕ → ℕ → List Item) (round : Round) → ((s d : ℕ) → s < ranks made.dims → d < ranks made.dims → f s d ≡ g s d) → RecordsOneWay made steady f round → RecordsOneWay made steady g round
same_way made steady f g round same t =
    let size : ranks round.dims ≡ ranks made.dims = ap (λ (b : BankShape). ranks b.dims) t.bank in
    record {
      bank = t.bank;
      ended = t.ended;
      by_last = t.by_last;
      collected = t.collected;
      pushed_all = λ s d from to. t.pushed_all s d from to ∙ same s d (subst (λ n. s < n) size from) (subst (λ n. d < n) size to);
      all_came = t.all_came;
      shape = t.shape;
    }

pub told_replies : (m : Sparse) (made : BankShape) (steady : Bool) (rounds : List ClosedRound) (askers : List AskingState) → IsSparse m → AreAskersOf m (ranks made.dims) askers
    → ((q : ClosedRound) × (r : ClosedRound) × (rounds ≡ q ∷ r ∷ []) × RecordsExchange ig_talk askers made steady (round_inside q) (round_inside r))
    → RecordsReplies m made steady rounds
told_replies m made steady rounds askers is are x =
    record {
      queries = x.0;
      replies = x.1;
      two = x.2;
      asking = same_way made steady (queries_by ig_talk askers) (queries_for m (ranks made.dims)) (round_inside x.0) (λ s d from to. queries_are m (ranks made.dims) askers are s d from) x.3.asking;
      replying = same_way made steady (replies_by ig_talk askers) (replies_for m (ranks made.dims)) (round_inside x.1) (λ d s from to. replies_are m (ranks made.dims) askers is are d s from to) x.3.replying;
    }
