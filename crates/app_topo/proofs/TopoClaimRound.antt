-- An odd round of topo takes the ranks from the claims of a level to what they free, and its votes
-- tell whether the level has a row.
use Rattle.std.proofs.Common.{ℕ, zero, suc, ◌+◌, ◌-◌, ◌*◌, ◌/◌, ◌%◌, ◌^◌, ◌<◌, ◌≤◌, ◌≡◌, ◌≢◌, ◌==◌, ◌++◌, min, Bool, true, false, cond, List, [], ◌∷◌, Some, map, slice_get, sum_by, All, arith, refl, sym, ap, ◌∙◌, subst}
use Rattle.std.specs.Prelude.{nat_lt}
use Rattle.std.specs.List.{range_with_len}
use Rattle.std.proofs.Math.Nat.{mod-lt}
use Rattle.std.proofs.lemmas.Bool.{eq-eqb, ne_eqb, lt-ltb}
use Rattle.std.proofs.lemmas.Simd.{map-map}
use Rattle.std.proofs.lemmas.List.Elements.{All-head}
use Rattle.std.proofs.lemmas.List.Sums.{sum_by-cons}
use Rattle.bale_items.specs.declared.Item.{Item}
use Rattle.list_laws.proofs.Lists.{get_once, within}
use Rattle.mtx_text.specs.Sparse.{Sparse, IsSparse}
use Rattle.mtx_text.specs.Cells.{raised_all, gathered_cells}
use Rattle.round_program.specs.Canonical.{absorbed_round, after_whole_round, vote_sum, InRound}
use Rattle.round_program.proofs.Members.{absorbed_in}
use Rattle.sparse_rows.specs.Deals.{dealt}
use Rattle.sparse_rows.proofs.EveryEntry.{every_owned}
use Rattle.sparse_rows.proofs.Starts.{made_at, made_from, round_made}
use Rattle.app_topo.specs.declared.placed.Placed.{Placed}
use Rattle.app_topo.specs.Levels.{Claim, col_claims}
use Rattle.app_topo.specs.Topos.{TopoState, topo_rules, spot, number_at, falls_of, placed_in, topo_next_outgoing, claims_of, own_rows, claimed_by}
use Rattle.app_topo.specs.laws.TopoLaws.{topo_laws, in_odd}
use Rattle.app_topo.proofs.LevelFacts.{IsNext, level_next, next_free}
use Rattle.app_topo.proofs.TopoTables.{table, table_at}
use Rattle.app_topo.proofs.TopoStates.{claims, next, claim_row, claim_column, claim_item, claiming, freeing}
use Rattle.app_topo.proofs.TopoClaims.{claims_all, each_claimed, claims_parts, come_claims, counts_after, next_inside, own_marks, own_falls}

abbrev pub all_claiming : ℕ → Sparse → ℕ → List TopoState
all_claiming ranks m t = map (claiming ranks m t) (range_with_len 0 ranks)

abbrev pub IsClaiming : ℕ → Sparse → ℕ → Type 0
IsClaiming ranks m t = InRound topo_rules ranks (2 * t + 1) (m.rows ∷ []) (2 * m.rows + 2) (all_claiming ranks m t)

-- what a rank has absorbed
pub claims_absorbed : (ranks : ℕ) (m : Sparse) (t r : ℕ) → 0 < ranks → r < ranks → IsClaiming ranks m t
    → slice_get (absorbed_round topo_rules (all_claiming ranks m t)) r ≡ Some (claims_all (claiming ranks m t r) (come_claims ranks m t r))
claims_absorbed ranks m t r some low begun =
    let odd : (2 * t + 1) % 2 ≡ 1 = omega arith in
    every_owned topo_rules topo_laws ranks (2 * t + 1) (m.rows ∷ []) (2 * m.rows + 2) (all_claiming ranks m t) (claim_row ranks) (claim_column ranks) claim_item (next m t)
    begun (λ k d l. mod-lt _ some)
    (λ f u here. ap topo_rules.emissions (sym (made_from (claiming ranks m t) ranks f u here).1))
    r (claiming ranks m t r) (made_at (claiming ranks m t) ranks r low)
    ∙ ap Some (each_claimed (claiming ranks m t r) (come_claims ranks m t r) (λ z. absurd (omega arith)) odd)

-- a rank at the round's end
abbrev after_claims : ℕ → Sparse → ℕ → ℕ → ℕ → TopoState
after_claims ranks m t r fresh = record (claiming ranks m t r) { counts = table ranks r m.rows (λ j. col_claims j (claims m (suc t))); fresh = fresh; came = own_marks ranks m t r }

claims_are : (ranks : ℕ) (m : Sparse) (t r : ℕ) → r < ranks → m.rows ≡ m.cols → IsSparse m
    → claims_all (claiming ranks m t r) (come_claims ranks m t r) ≡ after_claims ranks m t r (claims_all (claiming ranks m t r) (come_claims ranks m t r)).fresh
claims_are ranks m t r low square is =
    let s : TopoState = claiming ranks m t r in
    let came : List (ℕ × Item) = come_claims ranks m t r in
    let fresh : ℕ = (claims_all s came).fresh in
    let marks : raised_all [] (map (λ e. spot e.1.a 0) came) ≡ own_marks ranks m t r =
    ap gathered_cells (map-map (λ (e : ℕ × Item). spot e.1.a 0) (λ c. (claim_row ranks c, claim_item c)) (dealt (claim_column ranks) r (next m t))) in
    claims_parts s came
    ∙ ap (λ w. record s { counts = w; fresh = fresh; came = raised_all [] (map (λ e. spot e.1.a 0) came) }) (counts_after ranks m t r low square is)
    ∙ ap (λ w. record s { counts = table ranks r m.rows (λ j. col_claims j (claims m (suc t))); fresh = fresh; came = w }) marks

ends_freeing : (ranks : ℕ) (m : Sparse) (t r fresh votes : ℕ) → t ≤ 16384 → topo_rules.ended (after_claims ranks m t r fresh) votes ≡ freeing ranks m t r
ends_freeing ranks m t r fresh votes small =
    let u : TopoState = after_claims ranks m t r fresh in
    let end : TopoState = freeing ranks m t r in
    let nonzero : u.round ≢ 0 = λ z. absurd (omega arith) in
    let odd : u.round % 2 ≡ 1 = omega arith in
    let round : min (2 * t + 1 + 1) (2 ^ 64 - 1) ≡ 2 * t + 2 = omega arith in
    let columns : cond (u.round == 0) u.came u.columns ≡ u.columns = ap (λ b. cond b u.came u.columns) (ne_eqb u.round 0 nonzero) in
    let half : (2 * t + 1 - 1) / 2 ≡ t = omega arith in
    let mine : List Claim = dealt (claim_row ranks) r (next m t) in
    let placed : map (placed_in (2 * t + 1)) u.outgoing ≡ map (λ c. record { level = t; row = c.0; column = c.1 }) mine =
    map-map {C = Placed} (placed_in (2 * t + 1)) (λ c. (claim_column ranks c, claim_item c)) mine ∙ ap (λ q. map (λ (c : Claim). record { level = q; row = c.0; column = c.1 }) mine) half in
    let claimed : cond (u.round % 2 == 1) (u.claimed ++ map (placed_in (2 * t + 1)) u.outgoing) u.claimed ≡ end.claimed =
    ap (λ b. cond b (u.claimed ++ map (placed_in (2 * t + 1)) u.outgoing) u.claimed) (eq-eqb (u.round % 2) 1 odd) ∙ ap (λ w. u.claimed ++ w) placed in
    let outgoing : topo_next_outgoing u ≡ end.outgoing =
    in_odd u (claims_of ranks m.rows u.numbers u.sums (own_rows ranks r m.rows)) (cond (nat_lt u.round (2 ^ 64 - 1)) (falls_of ranks u.columns u.came) []) (claims_of ranks m.rows u.numbers u.sums (map (λ v. v.i) u.came)) nonzero odd
    ∙ ap (λ b. cond b (falls_of ranks u.columns u.came) []) (lt-ltb u.round (2 ^ 64 - 1) (omega arith))
    ∙ own_falls ranks m t r in
    ap (λ w. record (topo_rules.ended u votes) { round = w }) round
    ∙ ap (λ w. record (topo_rules.ended u votes) { round = 2 * t + 2; columns = w }) columns
    ∙ ap (λ w. record (topo_rules.ended u votes) { round = 2 * t + 2; columns = u.columns; claimed = w }) claimed
    ∙ ap (λ w. record (topo_rules.ended u votes) { round = 2 * t + 2; columns = u.columns; claimed = end.claimed; outgoing = w }) outgoing

pub claim_round : (ranks : ℕ) (m : Sparse) (t : ℕ) → 0 < ranks → m.rows ≡ m.cols → IsSparse m → t ≤ 16384 → IsClaiming ranks m t
    → after_whole_round topo_rules (all_claiming ranks m t) ≡ map (freeing ranks m t) (range_with_len 0 ranks)
claim_round ranks m t some square is small begun =
    round_made topo_rules ranks (claiming ranks m t) (freeing ranks m t) (λ r votes low u at.
    ap (λ w. topo_rules.ended w votes)
    (get_once (absorbed_round topo_rules (all_claiming ranks m t)) r u _ at (claims_absorbed ranks m t r some low begun) ∙ claims_are ranks m t r low square is)
    ∙ ends_freeing ranks m t r (claims_all (claiming ranks m t r) (come_claims ranks m t r)).fresh votes small)

-- ---- The votes

fresh_grows : (s : TopoState) (came : List (ℕ × Item)) → s.fresh < 2 ^ 32 → s.fresh ≤ (claims_all s came).fresh
fresh_grows s [] low = omega arith
fresh_grows s (e ∷ es) low =
    let rest : (b : Bool) → (cond b (min (s.fresh + 1) (2 ^ 32 - 1)) s.fresh < 2 ^ 32) × (s.fresh ≤ cond b (min (s.fresh + 1) (2 ^ 32 - 1)) s.fresh) = both s.fresh low in
    let here = rest (number_at s.ranks s.counts e.1.a == 0) in
    let more : (claimed_by s e.1).fresh ≤ (claims_all (claimed_by s e.1) es).fresh = fresh_grows (claimed_by s e.1) es here.0 in
    let up : s.fresh ≤ (claimed_by s e.1).fresh = here.1 in
    omega arith
  where
    both : (f : ℕ) → f < 2 ^ 32 → (b : Bool) → (cond b (min (f + 1) (2 ^ 32 - 1)) f < 2 ^ 32) × (f ≤ cond b (min (f + 1) (2 ^ 32 - 1)) f)
    both f low true = (omega arith, omega arith)
    both f low false = (low, omega arith)

fresh_some : (s : TopoState) (e : ℕ × Item) (es : List (ℕ × Item)) → s.fresh ≡ 0 → number_at s.ranks s.counts e.1.a ≡ 0 → 0 < (claims_all s (e ∷ es)).fresh
fresh_some s e es none free =
    let one : (claimed_by s e.1).fresh ≡ min (s.fresh + 1) (2 ^ 32 - 1) = ap (λ b. cond b (min (s.fresh + 1) (2 ^ 32 - 1)) s.fresh) (eq-eqb (number_at s.ranks s.counts e.1.a) 0 free) in
    let more : (claimed_by s e.1).fresh ≤ (claims_all (claimed_by s e.1) es).fresh = fresh_grows (claimed_by s e.1) es (omega (arith, one)) in
    omega arith

sum_at : {X : Type 0} (f : X → ℕ) (xs : List X) (r : ℕ) (x : X) → slice_get xs r ≡ Some x → f x ≤ sum_by f xs
sum_at f [] r x at = absurd (cc)
sum_at f (y ∷ ys) zero x at =
    let same : y ≡ x = get_once (y ∷ ys) 0 y x refl at in
    let s : sum_by f (y ∷ ys) ≡ f y + sum_by f ys = sum_by-cons f y ys in
    subst (λ k. k ≤ sum_by f (y ∷ ys)) (ap f same) (omega arith)
sum_at f (y ∷ ys) (suc r) x at =
    let s : sum_by f (y ∷ ys) ≡ f y + sum_by f ys = sum_by-cons f y ys in
    let rest : f x ≤ sum_by f ys = sum_at f ys r x at in
    omega arith

sum_zero : {X : Type 0} (f : X → ℕ) (xs : List X) → ((r : ℕ) (x : X) → slice_get xs r ≡ Some x → f x ≡ 0) → sum_by f xs ≡ 0
sum_zero f [] h = refl
sum_zero f (x ∷ xs) h =
    let s : sum_by f (x ∷ xs) ≡ f x + sum_by f xs = sum_by-cons f x xs in
    let here : f x ≡ 0 = h 0 x refl in
    let rest : sum_by f xs ≡ 0 = sum_zero f xs (λ r y at. h (suc r) y at) in
    omega arith

pub votes_some : (ranks : ℕ) (m : Sparse) (t : ℕ) (c : Claim) (cs : List Claim) → 0 < ranks → m.rows ≡ m.cols → IsSparse m → IsClaiming ranks m t → next m t ≡ c ∷ cs
    → 0 < vote_sum topo_rules (absorbed_round topo_rules (all_claiming ranks m t))
votes_some ranks m t c cs some square is begun first =
    let r : ℕ = c.1 % ranks in
    let low : r < ranks = mod-lt c.1 some in
    let s : TopoState = claiming ranks m t r in
    let ns : IsNext m.rows m.entries (claims m t) c = All-head (IsNext m.rows m.entries (claims m t)) c cs (subst (All (IsNext m.rows m.entries (claims m t))) first (level_next m.rows m.entries (claims m t))) in
    let inside : c.1 < m.rows = All-head (λ (c : Claim). c.1 < m.rows) c cs (subst (All (λ (c : Claim). c.1 < m.rows)) first (next_inside m t square is)) in
    let mine : dealt (claim_column ranks) r (next m t) ≡ c ∷ dealt (claim_column ranks) r cs =
    ap (dealt (claim_column ranks) r) first ∙ ap (λ b. cond b (c ∷ dealt (claim_column ranks) r cs) (dealt (claim_column ranks) r cs)) (eq-eqb (c.1 % ranks) r refl) in
    let rest : List (ℕ × Item) = map (λ c. (claim_row ranks c, claim_item c)) (dealt (claim_column ranks) r cs) in
    let came : come_claims ranks m t r ≡ (claim_row ranks c, claim_item c) ∷ rest = ap (map (λ c. (claim_row ranks c, claim_item c))) mine in
    let free : number_at ranks (table ranks r m.rows (λ j. col_claims j (claims m t))) c.1 ≡ 0 = table_at ranks r m.rows c.1 (λ j. col_claims j (claims m t)) some refl inside ∙ next_free m.rows m.entries (claims m t) c ns in
    let fresh : 0 < (claims_all s (come_claims ranks m t r)).fresh = subst (λ w. 0 < (claims_all s w).fresh) (sym came) (fresh_some s (claim_row ranks c, claim_item c) rest refl free) in
    let part : (claims_all s (come_claims ranks m t r)).fresh ≤ sum_by topo_rules.vote (absorbed_round topo_rules (all_claiming ranks m t)) =
    sum_at topo_rules.vote (absorbed_round topo_rules (all_claiming ranks m t)) r _ (claims_absorbed ranks m t r some low begun) in
    omega arith

pub votes_none : (ranks : ℕ) (m : Sparse) (t : ℕ) → 0 < ranks → IsClaiming ranks m t → next m t ≡ []
    → vote_sum topo_rules (absorbed_round topo_rules (all_claiming ranks m t)) ≡ 0
votes_none ranks m t some begun none =
    let all : List TopoState = absorbed_round topo_rules (all_claiming ranks m t) in
    let zero_sum : sum_by topo_rules.vote all ≡ 0 = sum_zero topo_rules.vote all (λ r u at.
    let low : r < ranks = subst (λ k. r < k) (absorbed_in topo_rules topo_laws ranks (2 * t + 1) (m.rows ∷ []) (2 * m.rows + 2) (all_claiming ranks m t) begun).size (within all r u at) in
    let same : u ≡ claims_all (claiming ranks m t r) (come_claims ranks m t r) = get_once all r u _ at (claims_absorbed ranks m t r some low begun) in
    ap (λ (w : TopoState). w.fresh) same
    ∙ ap (λ cs. (claims_all (claiming ranks m t r) (map (λ c. (claim_row ranks c, claim_item c)) (dealt (claim_column ranks) r cs))).fresh) none) in
    omega arith
