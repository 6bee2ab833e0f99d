-- The votes of topo: in an odd round a rank counts its columns that were claimed, in an even one
-- nothing.
use Rattle.std.proofs.Common.{◌≡◌, ◌≢◌, ℕ, zero, suc, ◌+◌, ◌-◌, ◌*◌, ◌/◌, ◌%◌, ◌^◌, ◌<◌, ◌≤◌, ◌==◌, ◌&&◌, min, Bool, true, false, cond, eqb, List, [], ◌∷◌, Some, map, length, slice_get, sum_by, count_by, All, arith, inl, inr, refl, sym, ap, ap₂, ◌∙◌, subst, lit<}
use Rattle.std.specs.Prelude.{nat_lt, if◌then◌else◌}
use Rattle.std.specs.List.{filter, fold, range_with_len}
use Rattle.std.proofs.Math.Nat.{mod-lt}
use Rattle.std.proofs.lemmas.Bool.{cases_Bool, cases_eq, cases_lt, eq-eqb, ne_eqb, eqb-true, lt-ltb, le-ltb}
use Rattle.std.proofs.lemmas.List.{length-map, length-append}
use Rattle.std.proofs.lemmas.List.Elements.{All-head, All-tail, All-map, All-filter, All-contains, filter_passes, filter_agree}
use Rattle.std.proofs.lemmas.List.FromFn.{length-map-range_with_len}
use Rattle.std.proofs.lemmas.List.Sums.{sum_by-cons}
use Rattle.bale_items.specs.declared.Item.{Item}
use Rattle.list_laws.proofs.Lists.{get_once, got_map, within}
use Rattle.mtx_text.specs.Sparse.{Sparse, IsSparse}
use Rattle.round_program.specs.Canonical.{absorb_all, absorb_upto, absorbed_round, emitted_by, states_at, vote_sum, InRound}
use Rattle.round_program.proofs.Members.{in_round}
use Rattle.sparse_rows.specs.Deals.{dealt}
use Rattle.sparse_rows.specs.Emits.{Emit}
use Rattle.sparse_rows.proofs.Deals.{filter_filter}
use Rattle.sparse_rows.proofs.Starts.{made_at, made_from}
use Rattle.app_topo.specs.Levels.{Claim, col_claims}
use Rattle.app_topo.specs.Topos.{TopoState, topo_rules, number_at, after_entry, claimed_by, after_fall}
use Rattle.app_topo.specs.TopoRuns.{topo_begins, topo_starts}
use Rattle.app_topo.specs.TopoTable.{HasTopoRounds, entries_told, level_at, rows_claim, columns_fall}
use Rattle.app_topo.specs.laws.TopoLaws.{topo_laws}
use Rattle.app_topo.proofs.Counting.{count_cons, found_by}
use Rattle.app_topo.proofs.LevelFacts.{IsNext, level_next, next_free}
use Rattle.app_topo.proofs.TopoStart.{starts_in_round}
use Rattle.app_topo.proofs.TopoTable.{topo}
use Rattle.app_topo.proofs.TopoTables.{table, table_at, added_all, share, IsFor, added_total, came_share}
use Rattle.app_topo.proofs.TopoStates.{claims, next, claim_row, claim_column, claim_item, claiming}
use Rattle.app_topo.proofs.TopoClaims.{claims_all, each_claimed, every, one_each, claims_short, col_few, come_claims, next_inside}
use Rattle.app_topo.proofs.TopoClaimRound.{all_claiming, IsClaiming, claims_absorbed}
use Rattle.app_topo.proofs.TopoRun.{at_claims}
use Rattle.round_tables.specs.Tables.{Table, IsTopoTable, columns_claimed, topo_sends, topo_vote}
use Rattle.round_tables.specs.Follows.{FollowsTable, HasTable, Vote}
use Rattle.round_tables.proofs.Votes.{vote_each}

-- ---- Counting

-- a number that is below a range, or one of it
none_below : (a k n : ℕ) → a < k → count_by (λ x. eqb x a) (range_with_len k n) ≡ 0
none_below a k zero low = refl
none_below a k (suc n) low =
    let c : count_by (λ x. eqb x a) (range_with_len k (suc n)) ≡ cond (eqb k a) 1 0 + count_by (λ x. eqb x a) (range_with_len (k + 1) n) = count_cons (λ x. eqb x a) k (range_with_len (k + 1) n) in
    let here : cond {A = ℕ} (eqb k a) 1 0 ≡ 0 = ap (λ b. cond {A = ℕ} b 1 0) (ne_eqb k a (λ e. absurd (omega arith))) in
    let rest : count_by (λ x. eqb x a) (range_with_len (k + 1) n) ≡ 0 = none_below a (k + 1) n (omega arith) in
    omega arith

once_in : (a k n : ℕ) → k ≤ a → a < k + n → count_by (λ x. eqb x a) (range_with_len k n) ≡ 1
once_in a k zero low up = absurd (omega arith)
once_in a k (suc n) low up =
    let c : count_by (λ x. eqb x a) (range_with_len k (suc n)) ≡ cond (eqb k a) 1 0 + count_by (λ x. eqb x a) (range_with_len (k + 1) n) = count_cons (λ x. eqb x a) k (range_with_len (k + 1) n) in
    elim (cases_eq k a) [
      | inl same ↦
          let here : cond {A = ℕ} (eqb k a) 1 0 ≡ 1 = ap (λ b. cond {A = ℕ} b 1 0) (eq-eqb k a same) in
          let rest : count_by (λ x. eqb x a) (range_with_len (k + 1) n) ≡ 0 = none_below a (k + 1) n (omega arith) in
          omega arith
      | inr other ↦
          let here : cond {A = ℕ} (eqb k a) 1 0 ≡ 0 = ap (λ b. cond {A = ℕ} b 1 0) (ne_eqb k a other) in
          let rest : count_by (λ x. eqb x a) (range_with_len (k + 1) n) ≡ 1 = once_in a (k + 1) n (omega arith) (omega arith) in
          omega arith
    ]

-- a test that passes one number more
passes_more : (a : ℕ) (p q : ℕ → Bool) (xs : List ℕ) → p a ≡ true → q a ≡ false → ((j : ℕ) → j ≢ a → p j ≡ q j)
    → length (filter p xs) ≡ count_by (λ x. eqb x a) xs + length (filter q xs)
passes_more a p q [] here not_here else' = refl
passes_more a p q (x ∷ xs) here not_here else' =
    let rest : length (filter p xs) ≡ count_by (λ x. eqb x a) xs + length (filter q xs) = passes_more a p q xs here not_here else' in
    let c : count_by (λ x. eqb x a) (x ∷ xs) ≡ cond (eqb x a) 1 0 + count_by (λ x. eqb x a) xs = count_cons (λ x. eqb x a) x xs in
    elim (cases_eq x a) [
      | inl same ↦
          let one : cond {A = ℕ} (eqb x a) 1 0 ≡ 1 = ap (λ b. cond {A = ℕ} b 1 0) (eq-eqb x a same) in
          let left : length (filter p (x ∷ xs)) ≡ suc (length (filter p xs)) = ap (λ b. length (cond b (x ∷ filter p xs) (filter p xs))) (ap p same ∙ here) in
          let right : length (filter q (x ∷ xs)) ≡ length (filter q xs) = ap (λ b. length (cond b (x ∷ filter q xs) (filter q xs))) (ap q same ∙ not_here) in
          omega arith
      | inr other ↦
          let none : cond {A = ℕ} (eqb x a) 1 0 ≡ 0 = ap (λ b. cond {A = ℕ} b 1 0) (ne_eqb x a other) in
          let alike : length (filter p (x ∷ xs)) ≡ length (cond (q x) (x ∷ filter p xs) (filter p xs)) = ap (λ b. length (cond b (x ∷ filter p xs) (filter p xs))) (else' x other) in
          elim (cases_Bool (q x)) [
            | inl t ↦
                let left : length (cond (q x) (x ∷ filter p xs) (filter p xs)) ≡ suc (length (filter p xs)) = ap (λ b. length (cond b (x ∷ filter p xs) (filter p xs))) t in
                let right : length (filter q (x ∷ xs)) ≡ suc (length (filter q xs)) = ap (λ b. length (cond b (x ∷ filter q xs) (filter q xs))) t in
                omega arith
            | inr u ↦
                let left : length (cond (q x) (x ∷ filter p xs) (filter p xs)) ≡ length (filter p xs) = ap (λ b. length (cond b (x ∷ filter p xs) (filter p xs))) u in
                let right : length (filter q (x ∷ xs)) ≡ length (filter q xs) = ap (λ b. length (cond b (x ∷ filter q xs) (filter q xs))) u in
                omega arith
          ]
    ]

-- ---- An odd round

-- the own columns that some of the items claim, and that had no claim
abbrev first_for : ℕ → ℕ → (ℕ → ℕ) → List (ℕ × Item) → ℕ → Bool
first_for ranks r had came j = eqb (had j) 0 && (nat_lt 0 (sum_by (share every one_each j) came) && eqb (j % ranks) r)

abbrev claimed_once : ℕ → ℕ → ℕ → (ℕ → ℕ) → List (ℕ × Item) → ℕ
claimed_once ranks r n had came = length (filter (first_for ranks r had came) (range_with_len 0 n))

abbrev more_at : ℕ → (ℕ → ℕ) → ℕ → ℕ
more_at a had j = had j + cond (eqb a j) 1 0

and_false : (b : Bool) → (b && false) ≡ false
and_false true = refl
and_false false = refl

module _ (ranks r n : ℕ) (low : r < ranks) where
  one_share : (j : ℕ) (e : ℕ × Item) (es : List (ℕ × Item)) → sum_by (share every one_each j) (e ∷ es) ≡ cond (eqb e.1.a j) 1 0 + sum_by (share every one_each j) es
  one_share j e es = sum_by-cons (share every one_each j) e es

  -- a column that the first item doesn't claim
  others : (had : ℕ → ℕ) (e : ℕ × Item) (es : List (ℕ × Item)) (j : ℕ) → j ≢ e.1.a → first_for ranks r had (e ∷ es) j ≡ first_for ranks r (more_at e.1.a had) es j
  others had e es j other =
      let none : cond {A = ℕ} (eqb e.1.a j) 1 0 ≡ 0 = ap (λ b. cond {A = ℕ} b 1 0) (ne_eqb e.1.a j (λ q. other (sym q))) in
      let sum : sum_by (share every one_each j) (e ∷ es) ≡ cond (eqb e.1.a j) 1 0 + sum_by (share every one_each j) es = one_share j e es in
      let shares : sum_by (share every one_each j) (e ∷ es) ≡ sum_by (share every one_each j) es = omega arith in
      let counts : had j ≡ more_at e.1.a had j = sym (ap (λ k. had j + k) none ∙ (let z : had j + 0 ≡ had j = omega arith in z)) in
      ap₂ (λ c k. eqb c 0 && (nat_lt 0 k && eqb (j % ranks) r)) counts shares

  -- and the one that it does
  not_again : (had : ℕ → ℕ) (a : ℕ) (es : List (ℕ × Item)) → first_for ranks r (more_at a had) es a ≡ false
  not_again had a es =
      let one : cond {A = ℕ} (eqb a a) 1 0 ≡ 1 = ap (λ b. cond {A = ℕ} b 1 0) (eq-eqb a a refl) in
      ap (λ b. b && (nat_lt 0 (sum_by (share every one_each a) es) && eqb (a % ranks) r)) (ne_eqb (more_at a had a) 0 (λ z. absurd (omega arith)))

  at_first : (had : ℕ → ℕ) (e : ℕ × Item) (es : List (ℕ × Item)) → e.1.a % ranks ≡ r → had e.1.a ≡ 0 → first_for ranks r had (e ∷ es) e.1.a ≡ true
  at_first had e es own none =
      let one : cond {A = ℕ} (eqb e.1.a e.1.a) 1 0 ≡ 1 = ap (λ b. cond {A = ℕ} b 1 0) (eq-eqb e.1.a e.1.a refl) in
      let sum : sum_by (share every one_each e.1.a) (e ∷ es) ≡ cond (eqb e.1.a e.1.a) 1 0 + sum_by (share every one_each e.1.a) es = one_share e.1.a e es in
      ap₂ (λ b c. b && (c && eqb (e.1.a % ranks) r)) (eq-eqb (had e.1.a) 0 none) (lt-ltb 0 (sum_by (share every one_each e.1.a) (e ∷ es)) (omega arith))
      ∙ eq-eqb (e.1.a % ranks) r own

  at_later : (had : ℕ → ℕ) (e : ℕ × Item) (es : List (ℕ × Item)) → had e.1.a ≢ 0 → first_for ranks r had (e ∷ es) e.1.a ≡ false
  at_later had e es some = ap (λ b. b && (nat_lt 0 (sum_by (share every one_each e.1.a) (e ∷ es)) && eqb (e.1.a % ranks) r)) (ne_eqb (had e.1.a) 0 some)

  -- the counts after one claim
  count_one : (had : ℕ → ℕ) (s : TopoState) (e : ℕ × Item) → s.ranks ≡ ranks → s.counts ≡ table ranks r n had → IsFor ranks r n e → ((j : ℕ) → had j < 2 ^ 32)
      → (claimed_by s e.1).counts ≡ table ranks r n (more_at e.1.a had)
  count_one had s e size is own few =
      ap₂ (λ k ns. added_all k every one_each ns (e ∷ [])) size is
      ∙ added_total ranks r n every one_each had (more_at e.1.a had) (e ∷ []) low (λ k d l. only k d l) (λ j mine. (let f : had j < 2 ^ 32 = few j in omega arith))
      (λ j mine.
      let f : had j < 2 ^ 32 = few j in
      let s : sum_by (share every one_each j) (e ∷ []) ≡ cond (eqb e.1.a j) 1 0 + 0 = one_share j e [] in
      let small : cond {A = ℕ} (eqb e.1.a j) 1 0 ≤ 1 = at_most_one (eqb e.1.a j) in
      omega arith)
    where
      only : All (IsFor ranks r n) (e ∷ [])
      only zero d l = own
      only (suc k) d l = absurd (omega arith)

      at_most_one : (b : Bool) → cond {A = ℕ} b 1 0 ≤ 1
      at_most_one true = omega arith
      at_most_one false = omega arith

  -- what is counted of claims that came
  fresh_is : (had : ℕ → ℕ) (s : TopoState) (came : List (ℕ × Item)) → s.ranks ≡ ranks → s.counts ≡ table ranks r n had → All (IsFor ranks r n) came
      → ((j : ℕ) → had j + length came < 2 ^ 32) → s.fresh + length came < 2 ^ 31
      → (claims_all s came).fresh ≡ s.fresh + claimed_once ranks r n had came
  fresh_is had s [] size is own few small =
      let none : filter (first_for ranks r had []) (range_with_len 0 n) ≡ filter (λ j. false) (range_with_len 0 n) = filter_agree (first_for ranks r had []) (λ j. false) (λ j. and_false (eqb (had j) 0)) (range_with_len 0 n) in
      let z : length (filter (first_for ranks r had []) (range_with_len 0 n)) ≡ 0 = ap length none ∙ nothing (range_with_len 0 n) in
      omega arith
    where
      nothing : (xs : List ℕ) → length (filter (λ j. false) xs) ≡ 0
      nothing [] = refl
      nothing (x ∷ xs) = nothing xs
  fresh_is had s (e ∷ es) size is own few small =
      let here : IsFor ranks r n e = All-head (IsFor ranks r n) e es own in
      let then_counts : (claimed_by s e.1).counts ≡ table ranks r n (more_at e.1.a had) = count_one had s e size is here (λ j. (let f : had j + suc (length es) < 2 ^ 32 = few j in omega arith)) in
      let seen : number_at s.ranks s.counts e.1.a ≡ had e.1.a =
      ap₂ (λ k ns. number_at k ns e.1.a) size is ∙ table_at ranks r n e.1.a had (omega arith) here.0 here.1 in
      let later : (s.fresh + 1 < 2 ^ 31) → (claimed_by s e.1).fresh ≤ s.fresh + 1 → (claims_all (claimed_by s e.1) es).fresh ≡ (claimed_by s e.1).fresh + claimed_once ranks r n (more_at e.1.a had) es =
      λ a b. fresh_is (more_at e.1.a had) (claimed_by s e.1) es size then_counts (All-tail (IsFor ranks r n) e es own)
      (λ j. (let f : had j + suc (length es) < 2 ^ 32 = few j in let small' : cond {A = ℕ} (eqb e.1.a j) 1 0 ≤ 1 = one_at_most (eqb e.1.a j) in omega arith)) (omega arith) in
      elim (cases_eq (had e.1.a) 0) [
        | inl none ↦
            let up : (claimed_by s e.1).fresh ≡ min (s.fresh + 1) (2 ^ 32 - 1) = ap (λ b. cond b (min (s.fresh + 1) (2 ^ 32 - 1)) s.fresh) (eq-eqb (number_at s.ranks s.counts e.1.a) 0 (seen ∙ none)) in
            let l : (claims_all (claimed_by s e.1) es).fresh ≡ (claimed_by s e.1).fresh + claimed_once ranks r n (more_at e.1.a had) es = later (omega arith) (omega arith) in
            let one : count_by (λ x. eqb x e.1.a) (range_with_len 0 n) ≡ 1 = once_in e.1.a 0 n (omega arith) (let b : e.1.a < n = here.1 in omega arith) in
            let more : claimed_once ranks r n had (e ∷ es) ≡ count_by (λ x. eqb x e.1.a) (range_with_len 0 n) + claimed_once ranks r n (more_at e.1.a had) es =
            passes_more e.1.a (first_for ranks r had (e ∷ es)) (first_for ranks r (more_at e.1.a had) es) (range_with_len 0 n) (at_first had e es here.0 none) (not_again had e.1.a es) (others had e es) in
            omega arith
        | inr some ↦
            let same : (claimed_by s e.1).fresh ≡ s.fresh = ap (λ b. cond b (min (s.fresh + 1) (2 ^ 32 - 1)) s.fresh) (ne_eqb (number_at s.ranks s.counts e.1.a) 0 (λ z. some (sym seen ∙ z))) in
            let l : (claims_all (claimed_by s e.1) es).fresh ≡ (claimed_by s e.1).fresh + claimed_once ranks r n (more_at e.1.a had) es = later (omega arith) (omega arith) in
            let alike : claimed_once ranks r n had (e ∷ es) ≡ claimed_once ranks r n (more_at e.1.a had) es =
            ap length (filter_agree (first_for ranks r had (e ∷ es)) (first_for ranks r (more_at e.1.a had) es) (λ j. elim (cases_eq j e.1.a) [
              | inl q ↦ ap (first_for ranks r had (e ∷ es)) q ∙ at_later had e es some ∙ sym (ap (first_for ranks r (more_at e.1.a had) es) q ∙ not_again had e.1.a es)
              | inr other ↦ others had e es j other
            ]) (range_with_len 0 n)) in
            omega arith
      ]
    where
      one_at_most : (b : Bool) → cond {A = ℕ} b 1 0 ≤ 1
      one_at_most true = omega arith
      one_at_most false = omega arith

-- ---- An even round

keeps_fresh : (s : TopoState) (from : ℕ) (x : Item) → s.round % 2 ≡ 0 → ((topo_rules.absorbed s from x).fresh ≡ s.fresh) × ((topo_rules.absorbed s from x).round ≡ s.round)
keeps_fresh s from x even =
    let is : topo_rules.absorbed s from x ≡ cond (eqb s.round 0) (after_entry s x) (after_fall s x) =
    ap (λ b. cond (eqb s.round 0) (after_entry s x) (cond b (claimed_by s x) (after_fall s x))) (ne_eqb (s.round % 2) 1 (λ o. absurd (omega arith))) in
    (ap (λ (t : TopoState). t.fresh) is ∙ fresh_in (eqb s.round 0), ap (λ (t : TopoState). t.round) is ∙ round_in (eqb s.round 0))
  where
    fresh_in : (b : Bool) → (cond b (after_entry s x) (after_fall s x)).fresh ≡ s.fresh
    fresh_in true = refl
    fresh_in false = refl

    round_in : (b : Bool) → (cond b (after_entry s x) (after_fall s x)).round ≡ s.round
    round_in true = refl
    round_in false = refl

abbrev Keeps : TopoState → TopoState → Type 0
Keeps s t = (t.fresh ≡ s.fresh) × (t.round ≡ s.round)

even_all : (s : TopoState) (from : ℕ) (xs : List Item) → s.round % 2 ≡ 0 → Keeps s (absorb_all topo_rules s from xs)
even_all s from [] even = (refl, refl)
even_all s from (x ∷ xs) even =
    let one = keeps_fresh s from x even in
    let rest : Keeps (topo_rules.absorbed s from x) (absorb_all topo_rules (topo_rules.absorbed s from x) from xs) = even_all (topo_rules.absorbed s from x) from xs (ap (λ k. k % 2) one.1 ∙ even) in
    (rest.0 ∙ one.0, rest.1 ∙ one.1)

even_upto : (s : TopoState) (lists : ℕ → List Item) (n : ℕ) → s.round % 2 ≡ 0 → Keeps s (absorb_upto topo_rules s lists n)
even_upto s lists zero even = (refl, refl)
even_upto s lists (suc n) even =
    let before : Keeps s (absorb_upto topo_rules s lists n) = even_upto s lists n even in
    let more : Keeps (absorb_upto topo_rules s lists n) (absorb_all topo_rules (absorb_upto topo_rules s lists n) n (lists n)) = even_all (absorb_upto topo_rules s lists n) n (lists n) (ap (λ k. k % 2) before.1 ∙ even) in
    (more.0 ∙ before.0, more.1 ∙ before.1)

-- ---- The votes of all rounds

module _ (ranks : ℕ) (m : Sparse) (some : 0 < ranks) (square : m.rows ≡ m.cols) (is : IsSparse m) where
  abbrev starts : List TopoState
  starts = topo_starts ranks m

  size : length starts ≡ ranks
  size = length-map-range_with_len (topo_begins ranks m) 0 ranks

  in_it : (n : ℕ) → n < 2 ^ 64 → InRound topo_rules ranks n (m.rows ∷ []) (2 * m.rows + 2) (states_at topo_rules starts n)
  in_it n l = in_round topo_rules topo_laws ranks (m.rows ∷ []) (2 * m.rows + 2) starts n (starts_in_round ranks m square is) l

  begins_none : (n r : ℕ) (s : TopoState) → slice_get (states_at topo_rules starts n) r ≡ Some s → s.fresh ≡ 0
  begins_none zero r s at = ap (λ (t : TopoState). t.fresh) (sym (made_from (topo_begins ranks m) ranks r s at).1)
  begins_none (suc n) r s at =
      let all : List TopoState = absorbed_round topo_rules (states_at topo_rules starts n) in
      let t = got_map (λ u. topo_rules.ended u (vote_sum topo_rules all)) all r s at in
      ap (λ (u : TopoState). u.fresh) (sym t.2)

  even_vote : (n : ℕ) → n % 2 ≡ 0 → n < 2 ^ 64 → (r : ℕ) (s : TopoState) → slice_get (absorbed_round topo_rules (states_at topo_rules starts n)) r ≡ Some s → s.fresh ≡ 0
  even_vote n even l r s at =
      let ss : List TopoState = states_at topo_rules starts n in
      let t = got_map (λ u. absorb_upto topo_rules u (emitted_by topo_rules ss (topo_rules.rank u)) (length ss)) ss r s at in
      let round : t.0.round ≡ n = ((in_it n l).each r t.0 t.1).same_round in
      ap (λ (u : TopoState). u.fresh) (sym t.2)
      ∙ (even_upto t.0 (emitted_by topo_rules ss (topo_rules.rank t.0)) (length ss) (ap (λ k. k % 2) round ∙ even)).0
      ∙ begins_none n r t.0 t.1

  -- own columns that are claimed had no claim
  own_first : (t r j : ℕ) → first_for ranks r (λ i. col_claims i (claims m t)) (come_claims ranks m t r) j ≡ (nat_lt 0 (col_claims j (next m t)) && eqb (j % ranks) r)
  own_first t r j =
      elim (cases_eq (j % ranks) r) [
        | inr away ↦
            ap (λ b. eqb (col_claims j (claims m t)) 0 && (nat_lt 0 (sum_by (share every one_each j) (come_claims ranks m t r)) && b)) (ne_eqb (j % ranks) r away)
            ∙ ap (λ b. eqb (col_claims j (claims m t)) 0 && b) (and_false (nat_lt 0 (sum_by (share every one_each j) (come_claims ranks m t r))))
            ∙ and_false (eqb (col_claims j (claims m t)) 0)
            ∙ sym (ap (λ b. nat_lt 0 (col_claims j (next m t)) && b) (ne_eqb (j % ranks) r away) ∙ and_false (nat_lt 0 (col_claims j (next m t))))
        | inl own ↦
            let shares : sum_by (share every one_each j) (come_claims ranks m t r) ≡ col_claims j (next m t) = came_share (claim_row ranks) claim_item every one_each ranks j r (next m t) own in
            ap (λ k. eqb (col_claims j (claims m t)) 0 && (nat_lt 0 k && eqb (j % ranks) r)) shares
            ∙ elim (cases_lt 0 (col_claims j (next m t))) [
              | inl up ↦
                  (let c = found_by (λ (x : Claim). eqb x.1 j) (next m t) up in
                  let ns : IsNext m.rows m.entries (claims m t) c.0 = All-contains (IsNext m.rows m.entries (claims m t)) (next m t) c.0 (level_next m.rows m.entries (claims m t)) c.1 in
                  let free : col_claims j (claims m t) ≡ 0 = ap (λ i. col_claims i (claims m t)) (sym (eqb-true c.0.1 j c.2)) ∙ next_free m.rows m.entries (claims m t) c.0 ns in
                  ap (λ b. b && (nat_lt 0 (col_claims j (next m t)) && eqb (j % ranks) r)) (eq-eqb (col_claims j (claims m t)) 0 free))
              | inr none ↦
                  ap (λ b. eqb (col_claims j (claims m t)) 0 && (b && eqb (j % ranks) r)) (le-ltb 0 (col_claims j (next m t)) none)
                  ∙ and_false (eqb (col_claims j (claims m t)) 0)
                  ∙ sym (ap (λ b. b && eqb (j % ranks) r) (le-ltb 0 (col_claims j (next m t)) none))
            ]
      ]

  claimed_are : (t r : ℕ) → claimed_once ranks r m.rows (λ j. col_claims j (claims m t)) (come_claims ranks m t r) ≡ length (columns_claimed ranks m t r)
  claimed_are t r =
      ap length (filter_agree (first_for ranks r (λ j. col_claims j (claims m t)) (come_claims ranks m t r)) (λ j. nat_lt 0 (col_claims j (next m t)) && eqb (j % ranks) r) (own_first t r) (range_with_len 0 m.rows)
      ∙ sym (filter_filter (λ j. eqb (j % ranks) r) (λ j. nat_lt 0 (col_claims j (next m t))) (range_with_len 0 m.rows)))

  few_come : (t r : ℕ) → length (come_claims ranks m t r) ≤ m.rows
  few_come t r =
      let size : length (come_claims ranks m t r) ≡ length (dealt (claim_column ranks) r (next m t)) = length-map (dealt (claim_column ranks) r (next m t)) (λ c. (claim_row ranks c, claim_item c)) in
      let fewer : length (dealt (claim_column ranks) r (next m t)) ≤ length (next m t) = filter_short (λ c. eqb (claim_column ranks c) r) (next m t) in
      let all : length (claims m (suc t)) ≡ length (claims m t) + length (next m t) = length-append (claims m t) (next m t) in
      omega (arith, claims_short m (suc t))
    where
      filter_short : {X : Type 0} (p : X → Bool) (xs : List X) → length (filter p xs) ≤ length xs
      filter_short p [] = omega arith
      filter_short p (x ∷ xs) =
          let rest : length (filter p xs) ≤ length xs = filter_short p xs in
          elim (cases_Bool (p x)) [
            | inl t ↦ (let e : length (filter p (x ∷ xs)) ≡ suc (length (filter p xs)) = ap (λ b. length (cond b (x ∷ filter p xs) (filter p xs))) t in omega arith)
            | inr u ↦ (let e : length (filter p (x ∷ xs)) ≡ length (filter p xs) = ap (λ b. length (cond b (x ∷ filter p xs) (filter p xs))) u in omega arith)
          ]

  come_for : (t r : ℕ) → All (IsFor ranks r m.rows) (come_claims ranks m t r)
  come_for t r =
      All-map (IsFor ranks r m.rows) (λ c. (claim_row ranks c, claim_item c)) (dealt (claim_column ranks) r (next m t)) (λ k d l.
      (eqb-true _ r (filter_passes (λ c. eqb (claim_column ranks c) r) (next m t) k d l), All-filter (λ c. eqb (claim_column ranks c) r) (λ (c : Claim). c.1 < m.rows) (next m t) (next_inside m t square is) k d l))

  odd_vote : (t : ℕ) → t ≤ 16384 → (r : ℕ) (s : TopoState) → r < ranks → slice_get (absorbed_round topo_rules (states_at topo_rules starts (2 * t + 1))) r ≡ Some s → s.fresh ≡ length (columns_claimed ranks m t r)
  odd_vote t small r s low at =
      let tall : m.rows ≤ 16384 = is.tall in
      let few : length (come_claims ranks m t r) ≤ m.rows = few_come t r in
      let before : states_at topo_rules starts (2 * t + 1) ≡ all_claiming ranks m t = at_claims ranks m t some square is small in
      let begun : IsClaiming ranks m t = subst (InRound topo_rules ranks (2 * t + 1) (m.rows ∷ []) (2 * m.rows + 2)) before (in_it (2 * t + 1) (omega arith)) in
      let same : s ≡ claims_all (claiming ranks m t r) (come_claims ranks m t r) =
      get_once (absorbed_round topo_rules (all_claiming ranks m t)) r s _ (ap (λ ss. slice_get (absorbed_round topo_rules ss) r) (sym before) ∙ at) (claims_absorbed ranks m t r some low begun) in
      let all : TopoState = claims_all (claiming ranks m t r) (come_claims ranks m t r) in
      let counted : all.fresh ≡ 0 + claimed_once ranks r m.rows (λ j. col_claims j (claims m t)) (come_claims ranks m t r) =
      fresh_is ranks r m.rows low (λ j. col_claims j (claims m t)) (claiming ranks m t r) (come_claims ranks m t r) refl refl (come_for t r) (λ j. omega (arith, col_few m t j)) (omega arith) in
      let columns : claimed_once ranks r m.rows (λ j. col_claims j (claims m t)) (come_claims ranks m t r) ≡ length (columns_claimed ranks m t r) = claimed_are t r in
      let total : all.fresh ≡ length (columns_claimed ranks m t r) = omega arith in
      ap (λ (u : TopoState). u.fresh) same ∙ total

  -- ---- The table

  abbrev Sends : ℕ → (ℕ → List (ℕ × Item)) → Type 0
  Sends n line = Emit topo_rules starts n ranks line

  sends_as : (n k : ℕ) (line : ℕ → List (ℕ × Item)) → n ≡ k → topo_sends ranks m n ≡ line → Sends k line → Sends n (topo_sends ranks m n)
  sends_as n k line same same_line sends = subst (Sends n) (sym same_line) (subst (λ i. Sends i line) (sym same) sends)

  pub topo_table : HasTable topo_rules starts ranks (IsTopoTable ranks m)
  topo_table =
      record {
        table = record { rounds = 2 * h.levels + 2; line = topo_sends ranks m; vote = topo_vote ranks m };
        is = record { levels = h.levels; some = h.some; none = h.none; is = refl };
        follows = record { has_rounds = h.rounds; sent = sent; voted = λ n low. vote_each topo_rules starts n ranks (topo_vote ranks m n) size (voted n low) };
      }
    where
      h : HasTopoRounds ranks m
      h = topo ranks m some square is

      sent : (n : ℕ) → n < 2 * h.levels + 2 → Sends n (topo_sends ranks m n)
      sent n low =
          elim (cases_eq n 0) [
            | inl z ↦ sends_as n 0 (entries_told ranks m) z (ap (λ b. cond b (entries_told ranks m) (cond (eqb (n % 2) 1) (rows_claim ranks m (n / 2)) (columns_fall ranks m (n / 2 - 1)))) (eq-eqb n 0 z)) h.entries_sent
            | inr late ↦
                let not_first : topo_sends ranks m n ≡ cond (eqb (n % 2) 1) (rows_claim ranks m (n / 2)) (columns_fall ranks m (n / 2 - 1)) =
                ap (λ b. cond b (entries_told ranks m) (cond (eqb (n % 2) 1) (rows_claim ranks m (n / 2)) (columns_fall ranks m (n / 2 - 1)))) (ne_eqb n 0 late) in
                elim (cases_eq (n % 2) 1) [
                  | inl odd ↦
                      sends_as n (2 * (n / 2) + 1) (rows_claim ranks m (n / 2)) (omega arith)
                      (not_first ∙ ap (λ b. cond b (rows_claim ranks m (n / 2)) (columns_fall ranks m (n / 2 - 1))) (eq-eqb (n % 2) 1 odd)) (h.claims_sent (n / 2) (omega arith))
                  | inr even ↦
                      sends_as n (2 * (n / 2 - 1) + 2) (columns_fall ranks m (n / 2 - 1)) (omega arith)
                      (not_first ∙ ap (λ b. cond b (rows_claim ranks m (n / 2)) (columns_fall ranks m (n / 2 - 1))) (ne_eqb (n % 2) 1 even)) (h.falls_sent (n / 2 - 1) (omega arith))
                ]
          ]

      voted : (n : ℕ) → n < 2 * h.levels + 2 → (r : ℕ) (s : TopoState) → r < ranks → slice_get (absorbed_round topo_rules (states_at topo_rules starts n)) r ≡ Some s → s.fresh ≡ topo_vote ranks m n r
      voted n low r s here at =
          let tall : m.rows ≤ 16384 = is.tall in
          let few : h.levels ≤ m.rows = h.few in
          elim (cases_eq (n % 2) 1) [
            | inl odd ↦
                let same : n ≡ 2 * (n / 2) + 1 = omega arith in
                odd_vote (n / 2) (omega arith) r s here (ap (λ k. slice_get (absorbed_round topo_rules (states_at topo_rules starts k)) r) (sym same) ∙ at)
                ∙ sym (ap (λ b. cond b (length (columns_claimed ranks m (n / 2) r)) 0) (eq-eqb (n % 2) 1 odd))
            | inr even ↦
                even_vote n (omega arith) (omega arith) r s at ∙ sym (ap (λ b. cond b (length (columns_claimed ranks m (n / 2) r)) 0) (ne_eqb (n % 2) 1 even))
          ]
