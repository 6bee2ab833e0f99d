-- The ranks begin in round 0 of one run, which ends.
use Rattle.std.proofs.Common.{ℕ, ◌%◌, ◌<◌, ◌≤◌, ◌≡◌, nat_eq, true, List, [], ◌∷◌, length, get_or, All, arith, refl, sym, ap, subst}
use Rattle.std.proofs.Math.Nat.{mod-lt}
use Rattle.std.proofs.lemmas.Bool.Decides.{nat_tests}
use Rattle.std.proofs.lemmas.List.{length-replicate}
use Rattle.std.proofs.lemmas.List.Elements.{All-map, All-filter}
use Rattle.bale_items.specs.declared.triple.Triple.{Triple}
use Rattle.mtx_text.specs.Sparse.{Sparse, IsSparse}
use Rattle.reductions.proofs.Answers.{ends_len, ends_keys}
use Rattle.reductions.proofs.Ends.{ends_by}
use Rattle.reductions.proofs.Starts.{made_in_round}
use Rattle.route_tensor.specs.Grid.{ranks, IsGrid}
use Rattle.route_tensor.proofs.Coordinates.{ranks_some}
use Rattle.round_program.specs.Canonical.{InRound, EndsWithin, HaveEnded}
use Rattle.skeleton.specs.State.{State, IsState, rules, may_be_sent}
use Rattle.skeleton.specs.Laws.{laws}
use Rattle.skeleton.specs.Starts.{send_of, begins, starts}

-- a grid has a rank
pub some_ranks : (dims : List ℕ) → IsGrid dims → 1 ≤ ranks dims
some_ranks dims grid = (let some : 0 < ranks dims = ranks_some dims grid.positive in omega arith)

send_fits : (p r cols rows : ℕ) (t : Triple) → r < p → t.j < cols → t.i < rows → cols ≤ 16384 → rows ≤ 16384 → may_be_sent (cols ∷ []) p 0 (send_of p t).0 r (send_of p t).1 ≡ true
send_fits p r cols rows t own col row wide tall = (let to : t.j % p < p = mod-lt t.j (omega arith) in grind (arith, nat_tests))

pub begins_valid : (p r : ℕ) (m : Sparse) → r < p → p ≤ 64 → IsSparse m → IsState (begins p m r)
begins_valid p r m own few is =
    record {
      own = own;
      few = few;
      sent =
          subst (λ n. All (λ e. may_be_sent (n ∷ []) p 0 e.0 r e.1 ≡ true) (begins p m r).sends) (sym (length-replicate m.cols m.rows))
          (All-map (λ e. may_be_sent (m.cols ∷ []) p 0 e.0 r e.1 ≡ true) (send_of p) _
          (All-filter (λ t. nat_eq (t.i % p) r) (λ t. may_be_sent (m.cols ∷ []) p 0 (send_of p t).0 r (send_of p t).1 ≡ true) m.entries
          (λ k d l. send_fits p r m.cols m.rows (get_or m.entries k d) own (is.inside k d l).col (is.inside k d l).row is.wide is.tall)));
    }

pub starts_in_round : (p : ℕ) (m : Sparse) → p ≤ 64 → IsSparse m → InRound rules p 0 (m.cols ∷ []) 1 (starts p m)
starts_in_round p m few is =
    made_in_round rules (begins p m) p 0 (m.cols ∷ []) 1
    (λ r low. record {
      valid = begins_valid p r m low few is;
      own_rank = refl;
      all_ranks = refl;
      same_round = refl;
      same_shape = ap (λ n. n ∷ []) (length-replicate m.cols m.rows);
      same_most = refl;
    })

-- no round follows the first
pub run_ends : (p : ℕ) (m : Sparse) → EndsWithin rules (starts p m) 1
run_ends p m = ends_by rules (starts p m) 0 refl

-- at the end there are ranks, and each has a cell for each column
pub all_there : (p : ℕ) (m : Sparse) → 1 ≤ p → p ≤ 64 → IsSparse m → (ends : List State) → HaveEnded rules (starts p m) ends → (0 < length ends) × All (λ s. m.cols ≤ length s.cells.cells) ends
all_there p m some few is ends h =
    let begin : InRound rules p 0 (m.cols ∷ []) 1 (starts p m) = starts_in_round p m few is in
    let many : length ends ≡ p = ends_len rules laws (λ s. s.cells) (λ s. refl) p m.cols 1 (starts p m) begin ends h in
    (omega arith, ends_keys rules laws (λ s. s.cells) (λ s. refl) p m.cols 1 (starts p m) begin ends h)
