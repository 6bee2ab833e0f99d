-- The answer that an entry's rank has after the run, as a word and as a number.
use Rattle.std.proofs.Common.{◌≡◌, ℕ, zero, suc, ◌+◌, ◌/◌, ◌%◌, ◌<◌, ◌==◌, cond, max, List, [], ◌∷◌, Some, All, map, length, get_or, slice_get, replicate, arith, refl, sym, ap, ◌∙◌, subst, inl, inr}
use Rattle.std.specs.List.{enumerate_from}
use Rattle.std.proofs.Math.Nat.{mod-lt}
use Rattle.std.proofs.lemmas.Bool.{cases_eq, eq-eqb, ne_eqb}
use Rattle.std.proofs.lemmas.List.{get_or-set_same, get_or-set_other, get_or-replicate, length-replicate}
use Rattle.bale_items.specs.declared.Item.{Item}
use Rattle.bale_items.specs.declared.triple.Triple.{Triple}
use Rattle.list_laws.proofs.Lists.{get_once, all_head, all_tail, changed_len}
use Rattle.mtx_text.specs.Sparse.{Sparse}
use Rattle.sparse_rows.specs.Deals.{dealt}
use Rattle.sparse_rows.proofs.Turns.{turn_place}
use Rattle.sparse_rows.specs.Owners.{Numbered, with_numbers, entry_owner, column_owner, own_entries}
use Rattle.app_histo_ig.specs.Igs.{IgState, answered_entry}
use Rattle.app_histo_ig.specs.IgRuns.{IgEnded}
use Rattle.sparse_rows.proofs.EveryEntry.{came_to, came_keyed}
use Rattle.sparse_rows.proofs.Places.{place_own}
use Rattle.app_histo_ig.proofs.IgRounds.{column_bits, answer_item, replies, answered_all, answers_of}
use Rattle.app_histo_ig.proofs.IgOwners.{ended_at}

-- the greatest of a function's values, 0 for none
most_by : {X : Type 0} → (X → ℕ) → List X → ℕ
most_by f [] = 0
most_by f (x ∷ xs) = max (f x) (most_by f xs)

-- what answers entry number e
for_entry : ℕ → ℕ × Item → ℕ
for_entry e w = cond (w.1.a == e) w.1.b 0

answered_here : (ranks e : ℕ) (answers : List ℕ) (w : ℕ × Item) → w.1.a % ranks ≡ e % ranks → e / ranks < length answers
    → get_or (answered_entry ranks answers w.1) (e / ranks) 0 ≡ max (get_or answers (e / ranks) 0) (for_entry e w)
unfolding for_entry
answered_here ranks e answers w own inside =
    elim (cases_eq w.1.a e) [
      | inl same ↦
          let hit : for_entry e w ≡ w.1.b = ap (λ b. cond b w.1.b 0) (eq-eqb w.1.a e same) in
          let new : get_or (answered_entry ranks answers w.1) (e / ranks) 0 ≡ max (get_or answers (e / ranks) 0) w.1.b =
          subst (λ k. get_or (answered_entry ranks answers w.1) k 0 ≡ max (get_or answers k 0) w.1.b) (ap (λ k. k / ranks) same)
          (get_or-set_same answers (w.1.a / ranks) (max (get_or answers (w.1.a / ranks) 0) w.1.b) 0 (subst (λ k. k / ranks < length answers) (sym same) inside)) in
          new ∙ ap (max (get_or answers (e / ranks) 0)) (sym hit)
      | inr other ↦
          let missed : for_entry e w ≡ 0 = ap (λ b. cond b w.1.b 0) (ne_eqb w.1.a e other) in
          let new : get_or (answered_entry ranks answers w.1) (e / ranks) 0 ≡ get_or answers (e / ranks) 0 =
          get_or-set_other answers (w.1.a / ranks) (e / ranks) (max (get_or answers (w.1.a / ranks) 0) w.1.b) 0 (λ place. other (place_own ranks w.1.a e own (sym place))) in
          omega (arith, missed, new)
    ]

answered_most : (ranks e : ℕ) (answers : List ℕ) (came : List (ℕ × Item)) → All {X = ℕ × Item} (λ w. w.1.a % ranks ≡ e % ranks) came → e / ranks < length answers
    → get_or (answered_all ranks answers came) (e / ranks) 0 ≡ max (get_or answers (e / ranks) 0) (most_by (for_entry e) came)
unfolding most_by
answered_most ranks e answers [] own inside = omega arith
answered_most ranks e answers (w ∷ ws) own inside =
    let size : length (answered_entry ranks answers w.1) ≡ length answers = changed_len answers (w.1.a / ranks) 0 (λ v. max v w.1.b) in
    let one : get_or (answered_entry ranks answers w.1) (e / ranks) 0 ≡ max (get_or answers (e / ranks) 0) (for_entry e w) =
    answered_here ranks e answers w (all_head (λ (x : ℕ × Item). x.1.a % ranks ≡ e % ranks) w ws own) inside in
    let rest : get_or (answered_all ranks (answered_entry ranks answers w.1) ws) (e / ranks) 0 ≡ max (get_or (answered_entry ranks answers w.1) (e / ranks) 0) (most_by (for_entry e) ws) =
    answered_most ranks e (answered_entry ranks answers w.1) ws (all_tail (λ (x : ℕ × Item). x.1.a % ranks ≡ e % ranks) w ws own) (subst (λ n. e / ranks < n) (sym size) inside) in
    omega (arith, one, rest)

-- the greatest answer to entry number e, among all entries
came_most : (ranks e : ℕ) (ts : List Triple) (xs : List Numbered)
    → most_by (for_entry e) (came_to (column_owner ranks) (entry_owner ranks) (answer_item ts) (e % ranks) xs) ≡ most_by (λ x. cond (x.0 == e) (column_bits ts x.1.j) 0) xs
unfolding most_by for_entry
came_most ranks e ts [] = refl
came_most ranks e ts (x ∷ xs) =
    let came : List Numbered → List (ℕ × Item) = λ ys. map (λ y. (column_owner ranks y, answer_item ts y)) ys in
    let own : List Numbered = dealt (entry_owner ranks) (e % ranks) xs in
    let rest : most_by (for_entry e) (came own) ≡ most_by (λ y. cond (y.0 == e) (column_bits ts y.1.j) 0) xs = came_most ranks e ts xs in
    elim (cases_eq (entry_owner ranks x) (e % ranks)) [
      | inl same ↦
          ap (λ b. most_by (for_entry e) (came (cond b (x ∷ own) own))) (eq-eqb (entry_owner ranks x) (e % ranks) same)
          ∙ ap (max (cond (x.0 == e) (column_bits ts x.1.j) 0)) rest
      | inr apart ↦
          let missed : cond (x.0 == e) (column_bits ts x.1.j) 0 ≡ 0 = ap (λ b. cond b (column_bits ts x.1.j) 0) (ne_eqb x.0 e (λ q. apart (ap (λ k. k % ranks) q))) in
          ap (λ b. most_by (for_entry e) (came (cond b (x ∷ own) own))) (ne_eqb (entry_owner ranks x) (e % ranks) apart)
          ∙ rest ∙ omega (arith, missed)
    ]

-- which is that of the entry itself
none_later : (f : Triple → ℕ) (e n : ℕ) (ts : List Triple) → e < n → most_by (λ (x : Numbered). cond (x.0 == e) (f x.1) 0) (enumerate_from n ts) ≡ 0
unfolding most_by
none_later f e n [] low = refl
none_later f e n (t ∷ ts) low =
    let missed : cond (n == e) (f t) 0 ≡ 0 = ap (λ b. cond b (f t) 0) (ne_eqb n e (λ q. absurd (omega arith))) in
    let rest : most_by (λ (x : Numbered). cond (x.0 == e) (f x.1) 0) (enumerate_from (n + 1) ts) ≡ 0 = none_later f e (n + 1) ts (omega arith) in
    omega (arith, missed, rest)

most_is : (f : Triple → ℕ) (e n i : ℕ) (ts : List Triple) (t : Triple) → n + i ≡ e → slice_get ts i ≡ Some t → most_by (λ (x : Numbered). cond (x.0 == e) (f x.1) 0) (enumerate_from n ts) ≡ f t
unfolding most_by
most_is f e n i [] t place at = absurd (cc)
most_is f e n zero (u ∷ ts) t place at =
    let hit : cond (n == e) (f u) 0 ≡ f u = ap (λ b. cond b (f u) 0) (eq-eqb n e (omega arith)) in
    let rest : most_by (λ (x : Numbered). cond (x.0 == e) (f x.1) 0) (enumerate_from (n + 1) ts) ≡ 0 = none_later f e (n + 1) ts (omega arith) in
    let same : u ≡ t = get_once (u ∷ ts) 0 u t refl at in
    let whole : max (cond (n == e) (f u) 0) (most_by (λ (x : Numbered). cond (x.0 == e) (f x.1) 0) (enumerate_from (n + 1) ts)) ≡ f u = omega (arith, hit, rest) in
    whole ∙ ap f same
most_is f e n (suc i) (u ∷ ts) t place at =
    let missed : cond (n == e) (f u) 0 ≡ 0 = ap (λ b. cond b (f u) 0) (ne_eqb n e (λ q. absurd (omega arith))) in
    let rest : most_by (λ (x : Numbered). cond (x.0 == e) (f x.1) 0) (enumerate_from (n + 1) ts) ≡ f t = most_is f e (n + 1) i ts t (omega arith) at in
    omega (arith, missed, rest)

pub record HasSum (m : Sparse) (ranks e : ℕ) (t : Triple) (answers : List ℕ) : Type 0 where
  pub place : e / ranks < length answers
  pub word : get_or answers (e / ranks) 0 ≡ column_bits m.entries t.j

answers_len : (ranks : ℕ) (answers : List ℕ) (came : List (ℕ × Item)) → length (answered_all ranks answers came) ≡ length answers
answers_len ranks answers [] = refl
answers_len ranks answers (w ∷ ws) = answers_len ranks (answered_entry ranks answers w.1) ws ∙ changed_len answers (w.1.a / ranks) 0 (λ v. max v w.1.b)

answer_is : (ranks : ℕ) (m : Sparse) (e : ℕ) (t : Triple) → 0 < ranks → e < length m.entries → slice_get m.entries e ≡ Some t → HasSum m ranks e t (answers_of ranks m (e % ranks))
answer_is ranks m e t some low at =
    let count : ℕ = length (own_entries ranks (e % ranks) m.entries) in
    let zeros : List ℕ = replicate count 0 in
    let place : e / ranks < count = turn_place ranks e m.entries some low in
    let size : length zeros ≡ count = length-replicate count 0 in
    let inside : e / ranks < length zeros = omega (arith, size, place) in
    let none : get_or zeros (e / ranks) 0 ≡ 0 = get_or-replicate count (e / ranks) 0 0 place in
    let most : most_by (for_entry e) (replies ranks m (e % ranks)) ≡ column_bits m.entries t.j =
    came_most ranks e m.entries (with_numbers m.entries) ∙ most_is (λ u. column_bits m.entries u.j) e 0 e m.entries t (omega arith) at in
    let all : get_or (answered_all ranks zeros (replies ranks m (e % ranks))) (e / ranks) 0 ≡ max (get_or zeros (e / ranks) 0) (most_by (for_entry e) (replies ranks m (e % ranks))) =
    answered_most ranks e zeros (replies ranks m (e % ranks))
    (came_keyed (λ w. w.1.a % ranks ≡ e % ranks) (column_owner ranks) (entry_owner ranks) (answer_item m.entries) (e % ranks) (with_numbers m.entries) (λ x same. same)) inside in
    record {
      place = subst (λ n. e / ranks < n) (sym (answers_len ranks zeros (replies ranks m (e % ranks)))) inside;
      word = omega (arith, all, none, most);
    }

-- what a rank that is at an entry's place has
pub entry_answered : (m : Sparse) (ps : List IgState) (h : IgEnded m ps) (e : ℕ) (t : Triple) (s : IgState) → e < length m.entries → slice_get m.entries e ≡ Some t → slice_get ps (e % h.ranks) ≡ Some s → HasSum m h.ranks e t s.answers
entry_answered m ps h e t s low at here =
    subst (HasSum m h.ranks e t) (sym (ap (λ (u : IgState). u.answers) (get_once ps (e % h.ranks) s _ here (ended_at m ps h (e % h.ranks) (mod-lt e h.some)))))
    (answer_is h.ranks m e t h.some low at)
