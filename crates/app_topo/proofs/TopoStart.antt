-- topo's programs begin as those of one run.
use Rattle.std.proofs.Common.{◌≡◌, ℕ, ◌+◌, ◌*◌, ◌%◌, ◌<◌, ◌≤◌, ◌==◌, true, List, [], ◌∷◌, All, get_or, arith, refl, sym, ap, ◌∙◌, subst, lit<}
use Rattle.std.specs.List.{flat_map}
use Rattle.std.proofs.lemmas.Bool.Decides.{nat_tests}
use Rattle.std.proofs.lemmas.List.{length-replicate}
use Rattle.std.proofs.lemmas.List.Elements.{All-nil, All-cons, All-append, All-filter}
use Rattle.bale_items.specs.declared.Item.{Item}
use Rattle.bale_items.specs.declared.triple.Triple.{Triple}
use Rattle.list_laws.proofs.Lists.{all_head, all_tail}
use Rattle.mtx_text.specs.Sparse.{Sparse, IsSparse}
use Rattle.mtx_text.specs.Cells.{is_before}
use Rattle.mtx_text.proofs.PlaceOrder.{pairs_none}
use Rattle.round_program.specs.Canonical.{InRound}
use Rattle.sparse_rows.specs.Owners.{Numbered, with_numbers, own_entries, row_owner, column_owner, places_for}
use Rattle.sparse_rows.proofs.Starts.{made_in_round, all_numbered}
use Rattle.app_topo.specs.Topos.{TopoState, IsTopo, AreInside, topo_rules, may_topo}
use Rattle.app_topo.specs.TopoRuns.{first_sent, for_row, for_column, topo_begins, topo_starts}

-- what an entry sends fits
abbrev FitsFirst : ℕ → ℕ → ℕ → ℕ × Item → Type 0
FitsFirst size ranks r e = may_topo (size ∷ []) ranks 0 e.0 r e.1 ≡ true

sent_fits : (size ranks r : ℕ) (es : List Numbered) → r < ranks → size ≤ 16384 → All (λ (e : Numbered). (e.1.i < size) × (e.1.j < size)) es → All (FitsFirst size ranks r) (flat_map (first_sent ranks) es)
sent_fits size ranks r [] low wide h = All-nil (FitsFirst size ranks r)
sent_fits size ranks r (e ∷ es) low wide h =
    let p = all_head (λ (e : Numbered). (e.1.i < size) × (e.1.j < size)) e es h in
    All-append (FitsFirst size ranks r) (first_sent ranks e) (flat_map (first_sent ranks) es)
    (All-cons (FitsFirst size ranks r) (row_owner ranks e, for_row e) ((column_owner ranks e, for_column e) ∷ []) (row_fits size ranks r e.1 low wide p.0 p.1) (All-cons (FitsFirst size ranks r) (column_owner ranks e, for_column e) [] (column_fits size ranks r e.1 low wide p.0 p.1) (All-nil (FitsFirst size ranks r))))
    (sent_fits size ranks r es low wide (all_tail (λ (e : Numbered). (e.1.i < size) × (e.1.j < size)) e es h))
  where
    row_fits : (size ranks r : ℕ) (t : Triple) → r < ranks → size ≤ 16384 → t.i < size → t.j < size → may_topo (size ∷ []) ranks 0 (t.i % ranks) r (record { a = t.i; b = t.j; c = 0 }) ≡ true
    row_fits size ranks r t low wide row col = grind (arith, nat_tests)

    column_fits : (size ranks r : ℕ) (t : Triple) → r < ranks → size ≤ 16384 → t.i < size → t.j < size → may_topo (size ∷ []) ranks 0 (t.j % ranks) r (record { a = t.j; b = t.i; c = 1 }) ≡ true
    column_fits size ranks r t low wide row col = grind (arith, nat_tests)

pub begins_valid : (ranks : ℕ) (m : Sparse) (r : ℕ) → r < ranks → m.rows ≡ m.cols → IsSparse m → IsTopo (topo_begins ranks m r)
begins_valid ranks m r low square is =
    let tall : m.rows ≤ 16384 = is.tall in
    record {
      own = low;
      wide = omega arith;
      number_places = length-replicate (places_for ranks m.rows) 0;
      sum_places = length-replicate (places_for ranks m.rows) 0;
      count_places = length-replicate (places_for ranks m.rows) 0;
      few = lit< tt;
      inside = All-nil (AreInside m.rows);
      sorted = pairs_none (λ t u. is_before t u ≡ true);
      came_inside = All-nil (AreInside m.rows);
      ordered = pairs_none (λ t u. is_before t u ≡ true);
      fit = sent_fits m.rows ranks r (own_entries ranks r m.entries) low is.tall
          (All-filter (λ (e : Numbered). e.0 % ranks == r) (λ (e : Numbered). (e.1.i < m.rows) × (e.1.j < m.rows)) (with_numbers m.entries)
          (all_numbered (λ (t : Triple). (t.i < m.rows) × (t.j < m.rows)) 0 m.entries (λ k d l. ((is.inside k d l).row, subst (λ n. (get_or m.entries k d).j < n) (sym square) (is.inside k d l).col))));
    }

pub starts_in_round : (ranks : ℕ) (m : Sparse) → m.rows ≡ m.cols → IsSparse m → InRound topo_rules ranks 0 (m.rows ∷ []) (2 * m.rows + 2) (topo_starts ranks m)
starts_in_round ranks m square is =
    made_in_round topo_rules (topo_begins ranks m) ranks 0 (m.rows ∷ []) (2 * m.rows + 2)
    (λ r low. record { valid = begins_valid ranks m r low square is; own_rank = refl; all_ranks = refl; same_round = refl; same_shape = refl; same_most = refl })

-- a rank as topo begins, from its fields
pub begins_is : (ranks : ℕ) (m : Sparse) (r size : ℕ) (numbers sums counts : List ℕ) (outgoing : List (ℕ × Item))
    → size ≡ m.rows → numbers ≡ (topo_begins ranks m r).numbers → sums ≡ (topo_begins ranks m r).sums → counts ≡ (topo_begins ranks m r).counts → outgoing ≡ (topo_begins ranks m r).outgoing
    → record { rank = r; ranks = ranks; round = 0; size = size; numbers = numbers; sums = sums; columns = []; counts = counts; claimed = []; fresh = 0; came = []; outgoing = outgoing } ≡ topo_begins ranks m r
begins_is ranks m r size numbers sums counts outgoing a b c d e =
    let s : TopoState = topo_begins ranks m r in
    ap (λ w. record s { size = w; numbers = numbers; sums = sums; counts = counts; outgoing = outgoing }) a
    ∙ ap (λ w. record s { numbers = w; sums = sums; counts = counts; outgoing = outgoing }) b
    ∙ ap (λ w. record s { sums = w; counts = counts; outgoing = outgoing }) c
    ∙ ap (λ w. record s { counts = w; outgoing = outgoing }) d
    ∙ ap (λ w. record s { outgoing = w }) e
