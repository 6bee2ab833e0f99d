-- A text cut into lines, one line at a time.
use Rattle.std.proofs.Common.{ℕ, zero, suc, ◌+◌, ◌-◌, ◌<◌, ◌≤◌, ◌≡◌, ◌≢◌, ◌==◌, min, nat_lt, true, cond, List, [], ◌∷◌, ◌++◌, Some, length, get_or, take, drop, All, arith, inl, inr, refl, sym, ap, ◌∙◌, subst}
use Rattle.std.specs.Prelude.{Result, Ok, Err, count_by}
use Rattle.std.proofs.lemmas.Bool.{cases_lt, lt-ltb, le-ltb, eq-eqb, ne_eqb}
use Rattle.std.proofs.lemmas.List.{append-nil, append_assoc, drop-drop, drop_all, length-drop, length-take, length-take-le, length_push, map-append, take_all, take-take}
use Rattle.std.proofs.lemmas.List.Elements.{All-nil, All-push, All-take, All-drop}
use Rattle.mtx_text.specs.Grammar.{line_after}
use Rattle.mtx_text.specs.Lines.{pieces}
use Rattle.elastic.specs.Spelling.{IsLetter}
use Rattle.app_tally.specs.declared.strings.Span.{Span}
use Rattle.app_tally.specs.Cuts.{IsWhole}
use Rattle.app_tally.specs.Stores.{bytes_at, strings_at, IsStore}
use Rattle.app_tally.specs.declared.lines.LinesFault.{LinesFault}
use Rattle.app_tally.specs.declared.lines.LinesFault.TheVariants.{Source, TooLong, LineTooLong, NoMemory}
use Rattle.app_tally.specs.Texts.{first_long, lines_of_text, OnRead}

-- no byte before k is LF, and the one at k is, where k isn't the end
pub record CutsAt (text : List ℕ) (k : ℕ) : Type 0 where
  pub within : k ≤ length text
  pub before : (j : ℕ) → j < k → get_or text j 0 ≢ 10
  pub found : k < length text → get_or text k 0 ≡ 10

pieces_cut : (text : List ℕ) (k : ℕ) → 0 < length text → CutsAt text k → pieces text ≡ take k text ∷ pieces (drop 1 (drop k text))
pieces_cut [] k full c = absurd (omega arith)
pieces_cut (b ∷ bs) zero full c = rw (eq-eqb b 10 (c.found (omega arith)))
pieces_cut (b ∷ []) (suc zero) full c = rw (ne_eqb b 10 (c.before 0 (omega arith)))
pieces_cut (b ∷ []) (suc (suc k)) full c = absurd (omega arith)
pieces_cut (b ∷ d ∷ bs) (suc k) full c =
    let here : b ≢ 10 = c.before 0 (omega arith) in
    let rest : CutsAt (d ∷ bs) k = record {
      within = omega arith;
      before = λ j h. c.before (suc j) (omega arith);
      found = λ h. c.found (omega arith);
    } in
    rw (ne_eqb b 10 here, pieces_cut (d ∷ bs) k (omega arith) rest)

-- what was cut off so far, and what is left
pub record Walk (text : List ℕ) (spans : List Span) (start : ℕ) : Type 0 where
  pub low : start ≤ length text
  pub lines : strings_at text spans ++ pieces (drop start text) ≡ pieces text
  pub fit : first_long 1 (pieces text) ≡ first_long (length spans + 1) (pieces (drop start text))
  pub store : IsStore text spans
  pub few : length spans ≤ start

pub walk_start : (text : List ℕ) → Walk text [] 0
walk_start text =
    record {
      low = omega arith;
      lines = refl;
      fit = refl;
      store = record { within = All-nil (λ (s : Span). s.start + s.len ≤ length text); letters = All-nil IsLetter };
      few = omega arith;
    }

same_sum : (start k : ℕ) → start + (k + 1) ≡ start + k + 1
same_sum start k = omega arith

-- a place past the end is the end
drop_min : (text : List ℕ) (n : ℕ) → drop (min (length text) n) text ≡ drop n text
drop_min text n =
    elim (cases_lt n (length text)) [
      | inl low ↦ ap (λ m. drop m text) (let e : min (length text) n ≡ n = omega arith in e)
      | inr past ↦ drop_all (min (length text) n) text (omega arith) ∙ sym (drop_all n text past)
    ]

-- what is left, cut at its first LF
cut_here : (text : List ℕ) (start k : ℕ) → start < length text → CutsAt (drop start text) k → pieces (drop start text) ≡ take k (drop start text) ∷ pieces (drop (start + k + 1) text)
cut_here text start k more c =
    let len : length (drop start text) ≡ length text - start = length-drop start text in
    pieces_cut (drop start text) k (omega arith) c
    ∙ ap (λ l. take k (drop start text) ∷ pieces l) (drop-drop 1 k (drop start text) ∙ drop-drop (k + 1) start text ∙ ap (λ n. drop n text) (same_sum start k))

-- a line that is too long is the first one
pub walk_long : (text : List ℕ) (spans : List Span) (start k n : ℕ) → Walk text spans start → start < length text → CutsAt (drop start text) k → 65_535 < k → n ≡ length spans + 1 → first_long 1 (pieces text) ≡ Some n
walk_long text spans start k n w more c long e =
    let len : length (take k (drop start text)) ≡ k = length-take-le k (drop start text) c.within in
    w.fit ∙ ap (first_long (length spans + 1)) (cut_here text start k more c)
    ∙ ap (λ b. cond b (Some (length spans + 1)) (first_long (length spans + 1 + 1) (pieces (drop (start + k + 1) text)))) (lt-ltb 65_535 (length (take k (drop start text))) (omega arith))
    ∙ ap Some (sym e)

-- one that isn't is cut off
pub walk_more : (text : List ℕ) (spans spans' : List Span) (start start' k : ℕ) (s : Span) → Walk text spans start → All (λ b. b < 256) text → start < length text → CutsAt (drop start text) k → k ≤ 65_535
    → s.start ≡ start → s.len ≡ k → spans' ≡ spans ++ s ∷ [] → start' ≡ min (length text) (start + k + 1) → Walk text spans' start'
walk_more text spans spans' start start' k s w bytes more c short a b e next =
    let rest : length (drop start text) ≡ length text - start = length-drop start text in
    let within : k ≤ length (drop start text) = c.within in
    let line : bytes_at text s ≡ take k (drop start text) = ap (λ n. take s.len (drop n text)) a ∙ ap (λ n. take n (drop start text)) b in
    let len : length (take k (drop start text)) ≡ k = length-take-le k (drop start text) within in
    let letter : IsLetter (bytes_at text s) = subst IsLetter (sym line) (record { short = omega arith; bytes = All-take (λ b. b < 256) k (drop start text) (All-drop (λ b. b < 256) start text bytes) }) in
    let on : drop start' text ≡ drop (start + k + 1) text = ap (λ n. drop n text) next ∙ drop_min text (start + k + 1) in
    let strings : strings_at text spans' ≡ strings_at text spans ++ bytes_at text s ∷ [] = ap (strings_at text) e ∙ map-append (bytes_at text) spans (s ∷ []) in
    let count : length spans' ≡ length spans + 1 = ap length e ∙ length_push spans s in
    let few : length spans ≤ start = w.few in
    record {
      low = omega arith;
      lines =
          ap (λ l. strings_at text spans' ++ pieces l) on ∙ ap (λ l. l ++ pieces (drop (start + k + 1) text)) (strings ∙ ap (λ l. strings_at text spans ++ l ∷ []) line)
          ∙ append_assoc (strings_at text spans) (take k (drop start text) ∷ []) (pieces (drop (start + k + 1) text))
          ∙ ap (λ l. strings_at text spans ++ l) (sym (cut_here text start k more c)) ∙ w.lines;
      fit =
          w.fit ∙ ap (first_long (length spans + 1)) (cut_here text start k more c)
          ∙ ap (λ b. cond b (Some (length spans + 1)) (first_long (length spans + 1 + 1) (pieces (drop (start + k + 1) text)))) (le-ltb 65_535 (length (take k (drop start text))) (omega arith))
          ∙ ap (λ n. first_long (n + 1) (pieces (drop (start + k + 1) text))) (sym count)
          ∙ ap (λ l. first_long (length spans' + 1) (pieces l)) (sym on);
      store =
          record {
            within = subst (All (λ (v : Span). v.start + v.len ≤ length text)) (sym e) (All-push (λ (v : Span). v.start + v.len ≤ length text) spans s w.store.within (omega arith));
            letters = subst (All IsLetter) (sym strings) (All-push IsLetter (strings_at text spans) (bytes_at text s) w.store.letters letter);
          };
      few = omega arith;
    }

-- at the end all lines were cut off
pub walk_end : (text : List ℕ) (spans : List Span) (start : ℕ) → Walk text spans start → length text ≤ start → length text ≤ 16_777_216 → IsWhole text spans
walk_end text spans start w over few =
    let low : start ≤ length text = w.low in
    let count : length spans ≤ start = w.few in
    record {
      store = w.store;
      few = omega arith;
      lines = sym (append-nil (strings_at text spans)) ∙ ap (λ l. strings_at text spans ++ pieces l) (sym (drop_all start text over)) ∙ w.lines;
      fit = w.fit ∙ ap (λ l. first_long (length spans + 1) (pieces l)) (drop_all start text over);
    }

-- ---- No byte after the first one past the limit decides anything

line_same : (a n : ℕ) (text : List ℕ) → a ≤ n → line_after a (take n text) ≡ line_after a text
line_same a n text h = ap (λ l. 1 + count_by (λ b. b == 10) l) (take-take a n text h)

pub front_decides : (n : ℕ) (text : List ℕ) → 16_777_216 < n → lines_of_text (take n text) ≡ lines_of_text text
front_decides n text h =
    elim (cases_lt 16_777_216 (length text)) [
      | inl long ↦
          let front : nat_lt 16_777_216 (length (take n text)) ≡ true = lt-ltb 16_777_216 (length (take n text)) (omega (arith, length-take n text)) in
          rw (front, lt-ltb 16_777_216 (length text) long, line_same 16_777_216 n text (omega arith))
      | inr within ↦ rw (take_all n text (omega arith))
    ]

pub on_read_any : {P : Type 0} (r : Result (List (List ℕ)) LinesFault) → P → OnRead r P
on_read_any (Ok lines) p = p
on_read_any (Err (TooLong n)) p = p
on_read_any (Err (LineTooLong n)) p = p
on_read_any (Err Source) p = tt
on_read_any (Err NoMemory) p = tt
