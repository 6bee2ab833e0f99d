-- The ranks as they begin.
use Rattle.std.proofs.Common.{ℕ, ◌%◌, ◌<◌, ◌≤◌, ◌≡◌, nat_eq, [], ◌∷◌, List, length, get_or, All, arith, refl, sym, ap, subst}
use Rattle.std.specs.List.{range_with_len}
use Rattle.std.proofs.lemmas.List.Elements.{All-nil, All-cons, All-head, All-tail, All-filter}
use Rattle.std.proofs.lemmas.List.FromFn.{length-range_with_len, get_or-range_with_len}
use Rattle.bale_items.specs.declared.triple.Triple.{Triple}
use Rattle.mtx_text.specs.Sparse.{Sparse, IsSparse}
use Rattle.round_program.specs.Canonical.{InRound}
use Rattle.reductions.proofs.Starts.{made_in_round}
use Rattle.components.specs.Connected.{links_of_entries}
use Rattle.components.specs.LabelRules.{IsLabels, IsVertexLink, label_rules, most_label_rounds}
use Rattle.components.specs.Starts.{own_links, label_begins, label_starts}

links_inside : (n : ℕ) (ts : List Triple) → All (λ t. t.i < n) ts → All (λ t. t.j < n) ts → All (IsVertexLink n) (links_of_entries ts)
links_inside n [] a b = All-nil (IsVertexLink n)
links_inside n (t ∷ ts) a b =
    let i : t.i < n = All-head (λ t. t.i < n) t ts a in
    let j : t.j < n = All-head (λ t. t.j < n) t ts b in
    All-cons (IsVertexLink n) (record { from = t.i; to = t.j }) (record { from = t.j; to = t.i } ∷ links_of_entries ts) (record { from = i; to = j })
    (All-cons (IsVertexLink n) (record { from = t.j; to = t.i }) (links_of_entries ts) (record { from = j; to = i }) (links_inside n ts (All-tail (λ t. t.i < n) t ts a) (All-tail (λ t. t.j < n) t ts b)))

own_inside : (ranks r : ℕ) (m : Sparse) → IsSparse m → m.cols ≡ m.rows → All (IsVertexLink m.rows) (own_links ranks r m.entries)
own_inside ranks r m is square =
    All-filter (λ l. nat_eq (l.from % ranks) r) (IsVertexLink m.rows) (links_of_entries m.entries)
    (links_inside m.rows m.entries (λ k d l. (is.inside k d l).row) (λ k d l. subst (λ n. (get_or m.entries k d).j < n) square (is.inside k d l).col))

numbers_low : (n : ℕ) → All (λ l. l < n) (range_with_len 0 n)
numbers_low n k d l =
    let low : k < n = subst (λ j. k < j) (length-range_with_len 0 n) l in
    subst (λ x. x < n) (sym (get_or-range_with_len 0 n k d low)) (omega arith)

pub begins_valid : (ranks r : ℕ) (m : Sparse) → r < ranks → ranks ≤ 64 → IsSparse m → m.cols ≡ m.rows → IsLabels (label_begins ranks m r)
begins_valid ranks r m own few is square =
    let len : length (range_with_len 0 m.rows) ≡ m.rows = length-range_with_len 0 m.rows in
    record {
      own = own;
      few = few;
      vertices = subst (λ n. n ≤ 16_384) (sym len) is.tall;
      same = refl;
      low = subst (λ n. All (λ l. l < n) (range_with_len 0 m.rows)) (sym len) (numbers_low m.rows);
      low_before = subst (λ n. All (λ l. l < n) (range_with_len 0 m.rows)) (sym len) (numbers_low m.rows);
      linked = subst (λ n. All (IsVertexLink n) (own_links ranks r m.entries)) (sym len) (own_inside ranks r m is square);
      sent = subst (λ n. All (IsVertexLink n) (own_links ranks r m.entries)) (sym len) (own_inside ranks r m is square);
    }

-- all are in round 0 of one run
pub starts_in_round : (ranks : ℕ) (m : Sparse) → ranks ≤ 64 → IsSparse m → m.cols ≡ m.rows → InRound label_rules ranks 0 (m.rows ∷ []) most_label_rounds (label_starts ranks m)
starts_in_round ranks m few is square =
    made_in_round label_rules (label_begins ranks m) ranks 0 (m.rows ∷ []) most_label_rounds
    (λ r low. record {
      valid = begins_valid ranks r m low few is square;
      own_rank = refl;
      all_ranks = refl;
      same_round = refl;
      same_shape = ap (λ n. n ∷ []) (length-range_with_len 0 m.rows);
      same_most = refl;
    })
