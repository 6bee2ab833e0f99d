-- What the ranks ask once they have added up their columns, and what they know.
use Rattle.std.proofs.Common.{◌≡◌, ℕ, ◌/◌, ◌<◌, ◌^◌, true, List, [], ◌∷◌, ◌++◌, All, map, length, drop, get_or, slice_get, Some, None, arith, refl, sym, ap, ◌∙◌, subst}
use Rattle.std.proofs.lemmas.Bool.Decides.{nat_tests}
use Rattle.std.proofs.lemmas.List.{length-map, length-replicate, append-nil}
use Rattle.std.proofs.lemmas.List.Elements.{All-map}
use Rattle.std.proofs.lemmas.List.FromFn.{length-map-range_with_len}
use Rattle.std.proofs.lemmas.Simd.{map-map}
use Rattle.bale_items.specs.declared.Item.{Item}
use Rattle.list_laws.proofs.Lists.{got_map, get_once}
use Rattle.mtx_text.specs.Sparse.{Sparse}
use Rattle.sparse_rows.specs.Owners.{Numbered, column_owner, own_entries}
use Rattle.sparse_rows.proofs.Starts.{made_from}
use Rattle.app_histo_ig.specs.Histos.{may_count}
use Rattle.app_histo_ig.specs.laws.HistoLaws.{count_within}
use Rattle.app_histo_ig.specs.Igs.{value_item}
use Rattle.app_histo_ig.specs.Sums.{SumsState, IsSums}
use Rattle.app_histo_ig.specs.SumsRuns.{SumsEnded}
use Rattle.app_histo_ig.specs.Asking.{AskingState}
use Rattle.app_histo_ig.specs.AskingRuns.{asker_from, IsAskerOf, AreAskersOf}
use Rattle.app_histo_ig.proofs.ColumnWords.{column_word}
use Rattle.app_histo_ig.proofs.IgOwners.{owner_sum}
use Rattle.app_histo_ig.proofs.IgRounds.{sums_of}
use Rattle.app_histo_ig.proofs.SumsStarts.{added, ended_are}

-- the query for a value goes to a rank
pub asks_ranks : (s : SumsState) → IsSums s → All (λ (q : ℕ × ℕ). (q.0 < s.ranks) × (q.1 < 2 ^ 64)) (map (λ (e : ℕ × Item). (e.0, e.1.a)) s.values)
asks_ranks s v =
    All-map (λ (q : ℕ × ℕ). (q.0 < s.ranks) × (q.1 < 2 ^ 64)) (λ (e : ℕ × Item). (e.0, e.1.a)) s.values
    (λ k d l. goes s.cols s.ranks s.rank (get_or s.values k d).0 (get_or s.values k d).1 v.own v.wide (v.fit k d l))
  where
    goes : (cols ranks rank to : ℕ) (x : Item) → rank < ranks → cols < 2 ^ 32 → may_count (cols ∷ []) ranks 0 to rank x ≡ true → (to < ranks) × (x.a < 2 ^ 64)
    goes cols ranks rank to x own wide e = ((count_within (cols ∷ []) ranks 0 to rank x e).0, grind (arith, nat_tests))

-- the asker of a rank, from its fields
pub asker_is : (s : SumsState) (rank ranks : ℕ) (queries : List (ℕ × ℕ)) (sums answers : List ℕ) → rank ≡ s.rank → ranks ≡ s.ranks → queries ≡ (asker_from s).queries → sums ≡ s.sums → answers ≡ (asker_from s).answers
    → record { rank = rank; ranks = ranks; queries = queries; sums = sums; answers = answers } ≡ asker_from s
asker_is s rank ranks queries sums answers a b c d e =
    let t : AskingState = asker_from s in
    ap (λ w. record { rank = w; ranks = ranks; queries = queries; sums = sums; answers = answers }) a
    ∙ ap (λ w. record t { ranks = w; queries = queries; sums = sums; answers = answers }) b
    ∙ ap (λ w. record t { queries = w; sums = sums; answers = answers }) c
    ∙ ap (λ w. record t { sums = w; answers = answers }) d
    ∙ ap (λ w. record t { answers = w }) e

-- there is a place for each reply
asked_places : (s : SumsState) → length (asker_from s).answers ≡ length (asker_from s).queries
asked_places s =
    let f : ℕ × Item → ℕ × ℕ = λ e. (e.0, e.1.a) in
    length-replicate (length s.values) 0 ∙ sym (length-map s.values f)

-- what a rank asks and knows
known : (m : Sparse) (ps : List SumsState) (h : SumsEnded m ps) (r : ℕ) → IsAskerOf m h.ranks r (asker_from (added h.ranks m r))
known m ps h r =
    record {
      own_rank = refl;
      all_ranks = refl;
      places = asked_places (added h.ranks m r);
      asks = map-map (λ (e : ℕ × Item). (e.0, e.1.a)) (λ (e : Numbered). (column_owner h.ranks e, value_item e)) (own_entries h.ranks r m.entries);
      knows = λ j low own.
          ap (λ n. get_or (sums_of h.ranks m n) (j / h.ranks) 0) (sym own) ∙ owner_sum h.ranks m j h.some low ∙ (column_word m j h.matrix).word;
    }

-- there are as many as at the beginning
pub as_many : (m : Sparse) (ps : List SumsState) (h : SumsEnded m ps) → length ps ≡ h.ranks
as_many m ps h = ap length (ended_are m ps h) ∙ length-map-range_with_len (added h.ranks m) 0 h.ranks

pub are_askers : (m : Sparse) (ps : List SumsState) (qs : List AskingState) → SumsEnded m ps → qs ≡ map asker_from ps → AreAskersOf m (length ps) qs
are_askers m ps qs h is =
    let size : length ps ≡ h.ranks = as_many m ps h in
    record {
      size = ap length is ∙ length-map ps asker_from;
      each = λ r s at.
          let from : (q : SumsState) × (slice_get ps r ≡ Some q) × (asker_from q ≡ s) = got_map asker_from ps r s (ap (λ xs. slice_get xs r) (sym is) ∙ at) in
          let made : (r < h.ranks) × (added h.ranks m r ≡ from.0) = made_from (added h.ranks m) h.ranks r from.0 (ap (λ xs. slice_get xs r) (sym (ended_are m ps h)) ∙ from.1) in
          let here : asker_from (added h.ranks m r) ≡ s = ap asker_from made.1 ∙ from.2 in
          subst (λ n. IsAskerOf m n r s) (sym size) (subst (IsAskerOf m h.ranks r) here (known m ps h r));
    }

-- ---- One asker after the other

shift : {T : Type 0} (xs ys : List T) (x : T) → (xs ++ x ∷ []) ++ ys ≡ xs ++ x ∷ ys
shift [] ys x = refl
shift (y ∷ xs) ys x = ap (λ zs. y ∷ zs) (shift xs ys x)

first_of : {S : Type 0} (left : List S) (q : S) → slice_get left 0 ≡ Some q → left ≡ q ∷ drop 1 left
first_of [] q at = absurd (cc)
first_of (x ∷ xs) q at = ap (λ s. s ∷ xs) (get_once (x ∷ xs) 0 x q refl at)

pub taken_one : {S T : Type 0} (f : S → T) (done done' : List T) (left left' all : List S) (q : S) (a : T)
    → done ++ map f left ≡ map f all → slice_get left 0 ≡ Some q → left' ≡ drop 1 left → done' ≡ done ++ a ∷ [] → a ≡ f q → done' ++ map f left' ≡ map f all
taken_one f done done' left left' all q a so_far first rest more is =
    ap (λ ds. ds ++ map f left') more
    ∙ ap (λ ls. (done ++ a ∷ []) ++ map f ls) rest
    ∙ ap (λ b. (done ++ b ∷ []) ++ map f (drop 1 left)) is
    ∙ shift done (map f (drop 1 left)) (f q)
    ∙ ap (λ ls. done ++ map f ls) (sym (first_of left q first))
    ∙ so_far

pub taken_all : {S T : Type 0} (f : S → T) (done : List T) (left all : List S) → done ++ map f left ≡ map f all → slice_get left 0 ≡ None → done ≡ map f all
taken_all f done [] all so_far none = sym (append-nil done) ∙ so_far
taken_all f done (x ∷ xs) all so_far none = absurd (cc)
