-- One walk over entries whose rows never fall: a column's stamp is one more than the last row that
-- was met there.
use Rattle.std.proofs.Common.{◌≡◌, ◌≢◌, ℕ, ◌+◌, ◌≤◌, ◌<◌, List, length, get_or, set, replicate, get_or-set_same, get_or-set_other, ap, ◌∙◌, inl, inr, arith}
use Rattle.std.proofs.lemmas.Bool.{cases_eq, cases_lt}
use Rattle.std.proofs.lemmas.List.{get_or_default, get_or-replicate, get_or_past, length-replicate}
use Rattle.std.specs.List.{AllPairs}
use Rattle.bale_items.specs.declared.triple.Triple.{Triple}
use Rattle.mtx_text.specs.Sparse.{SamePlace}

-- What a walk over the first k entries has found, when the last of them is of this row.
pub record Stamped (entries : List Triple) (stamps : List ℕ) (k row : ℕ) : Type 0 where
  pub apart : (m n : ℕ) (d : Triple) → m < n → n < k → ¬ SamePlace (get_or entries m d) (get_or entries n d)
  pub seen : (m : ℕ) (d : Triple) → m < k → (get_or entries m d).i < get_or stamps (get_or entries m d).j 0
  pub most : (j : ℕ) → get_or stamps j 0 ≤ row + 1

pub none_yet : (entries : List Triple) (stamps : List ℕ) (side : ℕ) → stamps ≡ replicate side 0 → Stamped entries stamps 0 0
none_yet entries stamps side is = record {
  apart = λ m n d less high. absurd (omega (arith, high));
  seen = λ m d high. absurd (omega (arith, high));
  most = λ j. omega (arith, zero_at j);
}
  where
    zero_at : (j : ℕ) → get_or stamps j 0 ≡ 0
    zero_at j =
        let zeros : List ℕ = replicate side 0 in
        elim (cases_lt j side) [
          | inl low ↦ ap (λ (l : List ℕ). get_or l j 0) is ∙ get_or-replicate side j 0 0 low
          | inr high ↦ ap (λ (l : List ℕ). get_or l j 0) is ∙ get_or_past zeros j 0 (omega (arith, high, length-replicate {A = ℕ} side 0))
        ]

pub one_more : (entries : List Triple) (stamps : List ℕ) (k row : ℕ) (e : Triple) → k < length entries → (get_or entries k e).j < length stamps
    → row ≤ (get_or entries k e).i → get_or stamps (get_or entries k e).j 0 ≢ (get_or entries k e).i + 1 → Stamped entries stamps k row
    → Stamped entries (set stamps (get_or entries k e).j ((get_or entries k e).i + 1)) (k + 1) (get_or entries k e).i
one_more entries stamps k row e within room rises fresh s =
    let t = get_or entries k e in
    let at_k : (d : Triple) → get_or entries k d ≡ t = λ d. get_or_default entries k d e within in
    let own = get_or-set_same stamps t.j (t.i + 1) 0 room in
    let other = λ (j : ℕ) (isnt : j ≢ t.j). get_or-set_other stamps t.j j (t.i + 1) 0 isnt in
    record {
      apart = λ m n d less high same.
          elim (cases_eq n k) [
            | inl is ↦
                let row_is : (get_or entries m d).i ≡ t.i = same.row ∙ ap (λ u. u.i) (ap (λ i. get_or entries i d) is ∙ at_k d) in
                let column_is : (get_or entries m d).j ≡ t.j = same.col ∙ ap (λ u. u.j) (ap (λ i. get_or entries i d) is ∙ at_k d) in
                let seen = s.seen m d (omega (arith, less, is)) in
                let there : get_or stamps (get_or entries m d).j 0 ≡ get_or stamps t.j 0 = ap (λ j. get_or stamps j 0) column_is in
                let most = s.most t.j in
                fresh (omega (arith, row_is, seen, there, most, rises))
            | inr isnt ↦ s.apart m n d less (omega (arith, high, isnt)) same
          ];
      seen = λ m d high.
          elim (cases_eq m k) [
            | inl is ↦
                let item : get_or entries m d ≡ t = ap (λ i. get_or entries i d) is ∙ at_k d in
                rw (item, own) (omega arith)
            | inr isnt ↦ seen_still (get_or entries m d).j (get_or entries m d).i (s.seen m d (omega (arith, high, isnt))) own other (s.most t.j)
          ];
      most = λ j.
          elim (cases_eq j t.j) [
            | inl is ↦ rw (is, own) (omega arith)
            | inr isnt ↦ omega (arith, other j isnt, s.most j, rises)
          ];
    }
  where
    seen_still : (j i : ℕ) → i < get_or stamps j 0
        → get_or (set stamps (get_or entries k e).j ((get_or entries k e).i + 1)) (get_or entries k e).j 0 ≡ (get_or entries k e).i + 1
        → ((c : ℕ) → c ≢ (get_or entries k e).j → get_or (set stamps (get_or entries k e).j ((get_or entries k e).i + 1)) c 0 ≡ get_or stamps c 0)
        → get_or stamps (get_or entries k e).j 0 ≤ row + 1
        → i < get_or (set stamps (get_or entries k e).j ((get_or entries k e).i + 1)) j 0
    seen_still j i below own other most =
        elim (cases_eq j (get_or entries k e).j) [
          | inl is ↦ rw (is, own) (omega (arith, ap (λ c. get_or stamps c 0) is, below, most, rises))
          | inr isnt ↦ omega (arith, other j isnt, below)
        ]

pub all_apart : (entries : List Triple) (stamps : List ℕ) (row : ℕ) → Stamped entries stamps (length entries) row → AllPairs (λ s t. ¬ SamePlace s t) entries
all_apart entries stamps row s = λ m n d less high. s.apart m n d less high
