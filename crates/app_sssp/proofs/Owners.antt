-- What the programs have that have run sssp to its end.
use Rattle.std.proofs.Common.{ℕ, ◌/◌, ◌%◌, ◌<◌, ◌≤◌, ◌≡◌, List, Option, Some, None, length, get_or, slice_get, arith, refl, sym, ap, ◌∙◌, subst}
use Rattle.std.proofs.Math.Nat.{mod-lt}
use Rattle.list_laws.proofs.Lists.{find}
use Rattle.mtx_text.specs.Sparse.{Sparse}
use Rattle.sparse_rows.specs.Owners.{places_for}
use Rattle.sparse_rows.proofs.Places.{place_below}
use Rattle.least_walks.specs.Walks.{IsLeast, AreLeast}
use Rattle.least_walks.specs.Vertices.{unreached_vertex}
use Rattle.app_sssp.specs.Sssps.{SsspState}
use Rattle.app_sssp.specs.SsspRuns.{SsspEnded}
use Rattle.app_sssp.proofs.Ends.{ends_len, owner_has}
use Rattle.app_sssp.proofs.Stages.{vertex_at, at_vertex}

pub programs_len : (m : Sparse) (source : ℕ) (ps : List SsspState) (h : SsspEnded m source ps) → length ps ≡ h.ranks
programs_len m source ps h = ap length h.ended.states ∙ ends_len h.ranks m source h.some h.graph h.source_in h.ended.rounds h.ended.has_rounds

pub rank_found : (m : Sparse) (source : ℕ) (ps : List SsspState) (h : SsspEnded m source ps) (r : ℕ) → r < h.ranks → slice_get ps r ≡ None → ⊥
rank_found m source ps h r low none =
    let s = find ps r (subst (λ n. r < n) (sym (programs_len m source ps h)) low) in
    let at : slice_get ps r ≡ Some s.0 = s.1 in
    cc

pub record Owns (m : Sparse) (source ranks v : ℕ) (s : SsspState) : Type 0 where
  pub rows : s.rows ≡ m.rows
  pub size : length s.vertices ≡ places_for ranks m.rows
  pub least : IsLeast m.entries source v (get_or s.vertices (v / ranks) unreached_vertex).weight

pub owns : (m : Sparse) (source : ℕ) (ps : List SsspState) (h : SsspEnded m source ps) (v : ℕ) (s : SsspState) → slice_get ps (v % h.ranks) ≡ Some s → Owns m source h.ranks v s
owns m source ps h v s at =
    let is = owner_has h.ranks m source h.some h.graph h.source_in h.ended.rounds h.ended.has_rounds v s (subst (λ ss. slice_get ss (v % h.ranks) ≡ Some s) h.ended.states at) in
    record { rows = is.rows; size = is.size; least = is.least }

pub rank_rows : (m : Sparse) (source : ℕ) (ps : List SsspState) (h : SsspEnded m source ps) (s : SsspState) → slice_get ps 0 ≡ Some s → s.rows ≡ m.rows
rank_rows m source ps h s at =
    let some : 1 ≤ h.ranks = h.some in
    (owns m source ps h 0 s (subst (λ r. slice_get ps r ≡ Some s) (let z : 0 ≡ 0 % h.ranks = omega arith in z) at)).rows

pub place_in : (m : Sparse) (source : ℕ) (ps : List SsspState) (h : SsspEnded m source ps) (v : ℕ) (s : SsspState) → v < m.rows → slice_get ps (v % h.ranks) ≡ Some s → v / h.ranks < length s.vertices
place_in m source ps h v s low at = subst (λ n. v / h.ranks < n) (sym (owns m source ps h v s at).size) (place_below h.ranks m.rows v h.some low)

-- the least weights, read from the owners
pub weights_found : (m : Sparse) (source : ℕ) (ps : List SsspState) → SsspEnded m source ps → (weights : ℕ → Option ℕ) × AreLeast m source weights
weights_found m source ps h = (
  (λ v. (vertex_at h.ranks ps v).weight),
  (λ v low.
      let s = find ps (v % h.ranks) (subst (λ n. v % h.ranks < n) (sym (programs_len m source ps h)) (mod-lt v h.some)) in
      subst (λ w. IsLeast m.entries source v w.weight) (sym (at_vertex h.ranks ps (v % h.ranks) s.0 v s.1 refl)) (owns m source ps h v s.0 s.1).least),
)
