-- The run of topo: with l levels it has 2l + 2 rounds, and ends with the claims of all levels.
use Rattle.std.proofs.Common.{ℕ, zero, suc, ◌+◌, ◌-◌, ◌*◌, ◌/◌, ◌%◌, ◌<◌, ◌≤◌, ◌≡◌, ◌≢◌, ◌==◌, ◌⊎◌, ◌||◌, ◌++◌, not, List, [], ◌∷◌, map, length, arith, inl, inr, refl, sym, ap, ◌∙◌, subst, append-nil}
use Rattle.std.specs.List.{range_with_len}
use Rattle.std.proofs.lemmas.Bool.{cases_eq, eq-eqb, ne_eqb}
use Rattle.std.proofs.lemmas.List.{length-append}
use Rattle.mtx_text.specs.Sparse.{Sparse, IsSparse}
use Rattle.round_program.specs.Canonical.{absorbed_round, after_whole_round, states_at, votes_at, vote_sum, HasRounds, EndsWithin, InRound}
use Rattle.round_program.proofs.Members.{rounds_once, in_round}
use Rattle.app_topo.specs.Levels.{level}
use Rattle.app_topo.specs.Topos.{TopoState, topo_rules}
use Rattle.app_topo.specs.laws.TopoLaws.{topo_laws}
use Rattle.app_topo.specs.TopoRuns.{topo_starts, TopoEnded}
use Rattle.app_topo.proofs.TopoStart.{starts_in_round}
use Rattle.app_topo.proofs.TopoStates.{claims, next, freeing}
use Rattle.app_topo.proofs.TopoClaims.{claims_short}
use Rattle.app_topo.proofs.TopoClaimRound.{all_claiming, IsClaiming, claim_round, votes_some, votes_none}
use Rattle.app_topo.proofs.TopoFallRound.{IsFreeing, fall_round}
use Rattle.app_topo.proofs.TopoFirstRound.{first_round}

-- the programs at the beginning of each odd round
pub at_claims : (ranks : ℕ) (m : Sparse) (t : ℕ) → 0 < ranks → m.rows ≡ m.cols → IsSparse m → t ≤ 16384 → states_at topo_rules (topo_starts ranks m) (2 * t + 1) ≡ all_claiming ranks m t
at_claims ranks m zero some square is small = first_round ranks m some square is
at_claims ranks m (suc t) some square is small =
    let starts : List TopoState = topo_starts ranks m in
    let before : states_at topo_rules starts (2 * t + 1) ≡ all_claiming ranks m t = at_claims ranks m t some square is (omega arith) in
    let begun : IsClaiming ranks m t = subst (InRound topo_rules ranks (2 * t + 1) (m.rows ∷ []) (2 * m.rows + 2)) before (in_round topo_rules topo_laws ranks (m.rows ∷ []) (2 * m.rows + 2) starts (2 * t + 1) (starts_in_round ranks m square is) (omega arith)) in
    let middle : states_at topo_rules starts (suc (2 * t + 1)) ≡ map (freeing ranks m t) (range_with_len 0 ranks) = ap (after_whole_round topo_rules) before ∙ claim_round ranks m t some square is (omega arith) begun in
    let two : suc (2 * t + 1) ≡ 2 * t + 2 = omega arith in
    let three : 2 * suc t + 1 ≡ suc (suc (2 * t + 1)) = omega arith in
    let then_begun : IsFreeing ranks m t =
    subst (InRound topo_rules ranks (2 * t + 2) (m.rows ∷ []) (2 * m.rows + 2)) (ap (states_at topo_rules starts) (sym two) ∙ middle)
    (in_round topo_rules topo_laws ranks (m.rows ∷ []) (2 * m.rows + 2) starts (2 * t + 2) (starts_in_round ranks m square is) (omega arith)) in
    ap (states_at topo_rules starts) three ∙ ap (after_whole_round topo_rules) middle ∙ fall_round ranks m t some square is (omega arith) then_begun

begun_at : (ranks : ℕ) (m : Sparse) (t : ℕ) → 0 < ranks → m.rows ≡ m.cols → IsSparse m → t ≤ 16384 → IsClaiming ranks m t
begun_at ranks m t some square is small =
    subst (InRound topo_rules ranks (2 * t + 1) (m.rows ∷ []) (2 * m.rows + 2)) (at_claims ranks m t some square is small)
    (in_round topo_rules topo_laws ranks (m.rows ∷ []) (2 * m.rows + 2) (topo_starts ranks m) (2 * t + 1) (starts_in_round ranks m square is) (omega arith))

pub at_freeing : (ranks : ℕ) (m : Sparse) (t : ℕ) → 0 < ranks → m.rows ≡ m.cols → IsSparse m → t ≤ 16384 → states_at topo_rules (topo_starts ranks m) (2 * t + 2) ≡ map (freeing ranks m t) (range_with_len 0 ranks)
at_freeing ranks m t some square is small =
    let two : 2 * t + 2 ≡ suc (2 * t + 1) = omega arith in
    ap (states_at topo_rules (topo_starts ranks m)) two ∙ ap (after_whole_round topo_rules) (at_claims ranks m t some square is small) ∙ claim_round ranks m t some square is small (begun_at ranks m t some square is small)

-- ---- The last level

pub record IsLastLevel (m : Sparse) (l : ℕ) : Type 0 where
  pub low : l ≤ m.rows
  pub over : next m l ≡ []
  pub before : (s : ℕ) → s < l → next m s ≢ []

-- a list has a first element or none
first_of : {X : Type 0} (xs : List X) → (xs ≡ []) ⊎ ((x : X) × (rest : List X) × (xs ≡ x ∷ rest))
first_of [] = inl refl
first_of (x ∷ xs) = inr (x, xs, refl)

look_on : (m : Sparse) (t left : ℕ) → t + left ≡ m.rows + 1 → ((s : ℕ) → s < t → next m s ≢ []) → t ≤ length (claims m t) → (l : ℕ) × IsLastLevel m l
look_on m t zero sum some long = absurd (omega (arith, claims_short m t))
look_on m t (suc left) sum some long =
    elim (first_of (next m t)) [
      | inl none ↦ (t, record { low = omega arith; over = none; before = some })
      | inr one ↦
          let size : length (claims m (suc t)) ≡ length (claims m t) + length (next m t) = length-append (claims m t) (next m t) in
          let here : length (next m t) ≡ suc (length one.1) = ap length one.2 in
          look_on m (suc t) left (omega arith) (λ s low. elim (cases_eq s t) [
            | inl same ↦ λ e. (let bad : next m t ≡ [] = ap (next m) (sym same) ∙ e in let no_one : one.0 ∷ one.1 ≡ [] = sym one.2 ∙ bad in absurd (cc))
            | inr other ↦ some s (omega arith)
          ]) (omega arith)
    ]

pub last_level : (m : Sparse) → (l : ℕ) × IsLastLevel m l
last_level m = look_on m 0 (m.rows + 1) (omega arith) (λ s low. absurd (omega arith)) (omega arith)

-- after it no claims come
pub stays : (m : Sparse) (l k : ℕ) → next m l ≡ [] → claims m (l + k) ≡ claims m l
stays m l zero over = (let same : l + zero ≡ l = omega arith in ap (claims m) same)
stays m l (suc k) over =
    let same : claims m (l + k) ≡ claims m l = stays m l k over in
    let one : l + suc k ≡ suc (l + k) = omega arith in
    ap (claims m) one ∙ ap (λ cs. cs ++ level m.rows m.entries cs) same ∙ ap (λ cs. claims m l ++ cs) over ∙ append-nil (claims m l)

-- ---- The rounds

pub has_rounds : (ranks : ℕ) (m : Sparse) (l : ℕ) → 0 < ranks → m.rows ≡ m.cols → IsSparse m → IsLastLevel m l → HasRounds topo_rules (topo_starts ranks m) (2 * l + 2)
has_rounds ranks m l some square is last =
    let tall : m.rows ≤ 16384 = is.tall in
    let low : l ≤ m.rows = last.low in
    let starts : List TopoState = topo_starts ranks m in
    let votes : (t : ℕ) → t ≤ l → votes_at topo_rules starts (2 * t + 1) ≡ vote_sum topo_rules (absorbed_round topo_rules (all_claiming ranks m t)) =
    λ t up. ap (λ ss. vote_sum topo_rules (absorbed_round topo_rules ss)) (at_claims ranks m t some square is (omega arith)) in
    record {
      some = omega arith;
      goes = λ k below. elim (cases_eq (k % 2) 0) [
        | inl even ↦ ap (λ b. b || not (votes_at topo_rules starts k == 0)) (eq-eqb (k % 2) 0 even)
        | inr odd ↦
            let t : ℕ = k / 2 in
            let is_odd : k ≡ 2 * t + 1 = omega arith in
            let early : t < l = omega arith in
            elim (first_of (next m t)) [
              | inl none ↦ absurd (last.before t early none)
              | inr one ↦
                  let cast : 0 < votes_at topo_rules starts k =
                  subst (λ q. 0 < votes_at topo_rules starts q) (sym is_odd) (subst (λ v. 0 < v) (sym (votes t (omega arith))) (votes_some ranks m t one.0 one.1 some square is (begun_at ranks m t some square is (omega arith)) one.2)) in
                  ap (λ b. b || not (votes_at topo_rules starts k == 0)) (ne_eqb (k % 2) 0 odd) ∙ ap not (ne_eqb (votes_at topo_rules starts k) 0 (λ e. absurd (omega arith)))
            ]
      ];
      stops =
          let at_last : 2 * l + 2 - 1 ≡ 2 * l + 1 = omega arith in
          let none : votes_at topo_rules starts (2 * l + 2 - 1) ≡ 0 =
          ap (votes_at topo_rules starts) at_last ∙ votes l (omega arith) ∙ votes_none ranks m l some (begun_at ranks m l some square is (omega arith)) last.over in
          ap (λ b. b || not (votes_at topo_rules starts (2 * l + 2 - 1) == 0)) (ne_eqb ((2 * l + 2 - 1) % 2) 0 (λ e. absurd (omega arith)))
          ∙ ap not (eq-eqb (votes_at topo_rules starts (2 * l + 2 - 1)) 0 none);
    }

pub within : (ranks : ℕ) (m : Sparse) → 0 < ranks → m.rows ≡ m.cols → IsSparse m → EndsWithin topo_rules (topo_starts ranks m) (2 * m.rows + 2)
within ranks m some square is =
    let last = last_level m in
    let low : last.0 ≤ m.rows = last.1.low in
    record { rounds = 2 * last.0 + 2; has_rounds = has_rounds ranks m last.0 some square is last.1; at_most = omega arith }

-- the programs after their run
pub ended_are : (m : Sparse) (ps : List TopoState) (h : TopoEnded m ps) (l : ℕ) → IsLastLevel m l → ps ≡ map (freeing h.ranks m l) (range_with_len 0 h.ranks)
ended_are m ps h l last =
    let tall : m.rows ≤ 16384 = h.matrix.tall in
    let low : l ≤ m.rows = last.low in
    let starts : List TopoState = topo_starts h.ranks m in
    h.ended.states ∙ ap (states_at topo_rules starts) (rounds_once topo_rules starts h.ended.rounds (2 * l + 2) h.ended.has_rounds (has_rounds h.ranks m l h.some h.square h.matrix last))
    ∙ at_freeing h.ranks m l h.some h.square h.matrix (omega arith)
