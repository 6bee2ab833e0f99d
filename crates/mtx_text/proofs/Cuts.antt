-- How a text is cut into lines and a line into words, by the index of the first LF or blank.
use Rattle.std.proofs.Common.{◌≡◌, ◌≢◌, ℕ, zero, suc, ◌+◌, ◌==◌, ◌<◌, ◌≤◌, nat_lt, true, false, List, [], ◌∷◌, length, get_or, take, drop, map, refl, ap, eq-eqb, ne_eqb, drop-cons, add-one, inl, inr, length-take-le, arith}
use Rattle.std.proofs.lemmas.Bool.{lt-ltb, cases_lt}
use Rattle.std.proofs.lemmas.List.{drop_all}
use Rattle.std.specs.List.{slice_split, onto_first, filter}
use Rattle.mtx_text.specs.Lines.{pieces, without_cr, lines_of, words_of, is_blank, is_skipped}
use Rattle.mtx_text.specs.code.Cuts.{CutsAt, WordTo}

-- ---- lines

pieces_cut : (text : List ℕ) (k : ℕ) → 0 < length text → CutsAt text k → pieces text ≡ take k text ∷ pieces (drop 1 (drop k text))
pieces_cut [] k full c = absurd (omega arith)
pieces_cut (b ∷ bs) zero full c = rw (eq-eqb b 10 (c.found (omega arith)))
pieces_cut (b ∷ []) (suc zero) full c = rw (ne_eqb b 10 (c.before 0 (omega arith)))
pieces_cut (b ∷ []) (suc (suc k)) full c = absurd (omega arith)
pieces_cut (b ∷ d ∷ bs) (suc k) full c =
    let here : b ≢ 10 = c.before 0 (omega arith) in
    let rest : CutsAt (d ∷ bs) k = record {
      within = omega arith;
      before = λ j h. c.before (suc j) (omega arith);
      found = λ h. c.found (omega arith);
    } in
    rw (ne_eqb b 10 here, pieces_cut (d ∷ bs) k (omega arith) rest)

pub lines_cut : (text : List ℕ) (k : ℕ) → 0 < length text → CutsAt text k → lines_of text ≡ without_cr (take k text) ∷ lines_of (drop 1 (drop k text))
lines_cut text k full c = ap (map without_cr) (pieces_cut text k full c)

pub ends_in_cr : (xs : List ℕ) (n : ℕ) → length xs ≡ n + 1 → get_or xs n 0 ≡ 13 → without_cr xs ≡ take n xs
ends_in_cr [] n len here = absurd (omega arith)
ends_in_cr (b ∷ []) zero len here = rw (eq-eqb b 13 here)
ends_in_cr (b ∷ []) (suc n) len here = absurd (omega arith)
ends_in_cr (b ∷ d ∷ bs) zero len here = absurd (omega arith)
ends_in_cr (b ∷ d ∷ bs) (suc n) len here = ap (λ l. b ∷ l) (ends_in_cr (d ∷ bs) n (omega arith) here)

pub ends_otherwise : (xs : List ℕ) (n : ℕ) → length xs ≡ n + 1 → get_or xs n 0 ≢ 13 → without_cr xs ≡ xs
ends_otherwise [] n len here = absurd (omega arith)
ends_otherwise (b ∷ []) zero len here = rw (ne_eqb b 13 here)
ends_otherwise (b ∷ []) (suc n) len here = absurd (omega arith)
ends_otherwise (b ∷ d ∷ bs) zero len here = absurd (omega arith)
ends_otherwise (b ∷ d ∷ bs) (suc n) len here = ap (λ l. b ∷ l) (ends_otherwise (d ∷ bs) n (omega arith) here)

-- ---- words

-- what stands before the first blank is the first part
split_cut : (line : List ℕ) (k : ℕ) (later : List (List ℕ)) → k ≤ length line → ((j : ℕ) → j < k → is_blank (get_or line j 0) ≡ false)
    → slice_split is_blank (drop k line) ≡ [] ∷ later → slice_split is_blank line ≡ take k line ∷ later
split_cut line zero later within before e = e
split_cut [] (suc k) later within before e = absurd (omega arith)
split_cut (b ∷ bs) (suc k) later within before e =
    rw (before 0 (omega arith), split_cut bs k later (omega arith) (λ j h. before (suc j) (omega arith)) e)

pub blank_front : (b : ℕ) (line : List ℕ) → is_blank b ≡ true → words_of (b ∷ line) ≡ words_of line
blank_front b line blank = rw blank

-- a blank at i counts for nothing
pub blank_at : (line : List ℕ) (i : ℕ) → i < length line → is_blank (get_or line i 0) ≡ true → words_of (drop i line) ≡ words_of (drop (i + 1) line)
blank_at line i h blank = rw (add-one, drop-cons line i 0, blank_front (get_or line i 0) (drop (suc i) line) blank)

pub word_cut : (line : List ℕ) (k : ℕ) → 0 < k → WordTo line k → words_of line ≡ take k line ∷ words_of (drop k line)
word_cut line k full w =
    elim (cases_lt k (length line)) [
      | inl h ↦
          let at : slice_split is_blank (drop k line) ≡ [] ∷ slice_split is_blank (drop (suc k) line) = rw (drop-cons line k 0, w.found h) in
          let cut : slice_split is_blank line ≡ take k line ∷ slice_split is_blank (drop (suc k) line) = split_cut line k (slice_split is_blank (drop (suc k) line)) w.within w.before at in
          let long : nat_lt 0 (length (take k line)) ≡ true = lt-ltb 0 (length (take k line)) (omega (arith, length-take-le k line w.within)) in
          rw (cut, at, long)
      | inr h ↦
          let at : drop k line ≡ [] = drop_all k line h in
          let cut : slice_split is_blank line ≡ take k line ∷ [] = split_cut line k [] w.within w.before (rw at) in
          let long : nat_lt 0 (length (take k line)) ≡ true = lt-ltb 0 (length (take k line)) (omega (arith, length-take-le k line w.within)) in
          rw (cut, at, long)
    ]

first_part : (b : ℕ) (parts : List (List ℕ)) → is_skipped (filter (λ word. nat_lt 0 (length word)) (onto_first b parts)) ≡ (b == 37)
first_part b [] = refl
first_part b (p ∷ ps) = rw (lt-ltb 0 (suc (length p)) (omega arith))

-- a line that begins with a byte of a word is skipped where that byte is "%"
pub byte_front : (b : ℕ) (line : List ℕ) → is_blank b ≡ false → is_skipped (words_of (b ∷ line)) ≡ (b == 37)
byte_front b line plain = rw plain (first_part b (slice_split is_blank line))
