-- Strings kept one behind the other stay as they are when bytes come behind them.
use Rattle.std.proofs.Common.{ℕ, ◌+◌, ◌-◌, ◌≤◌, ◌≡◌, List, [], ◌∷◌, ◌++◌, length, get_or, take, drop, All, arith, refl, sym, ap, ◌∙◌, subst}
use Rattle.std.proofs.lemmas.List.{drop-append-le, take-append-le, drop_at, take_all, length-drop, length-append, map-append}
use Rattle.std.proofs.lemmas.List.Elements.{All-push, All-weaker}
use Rattle.sparse_rows.proofs.EveryEntry.{same_map}
use Rattle.elastic.specs.Spelling.{IsLetter}
use Rattle.app_tally.specs.declared.strings.Span.{Span}
use Rattle.app_tally.specs.Stores.{bytes_at, strings_at, IsStore}

kept_at : (bytes more : List ℕ) (s : Span) → s.start + s.len ≤ length bytes → bytes_at (bytes ++ more) s ≡ bytes_at bytes s
kept_at bytes more s low =
    let len : length (drop s.start bytes) ≡ length bytes - s.start = length-drop s.start bytes in
    ap (take s.len) (drop-append-le s.start bytes more (omega arith)) ∙ take-append-le s.len (drop s.start bytes) more (omega arith)

kept_all : (bytes more : List ℕ) (spans : List Span) → IsStore bytes spans → strings_at (bytes ++ more) spans ≡ strings_at bytes spans
kept_all bytes more spans is = same_map (bytes_at (bytes ++ more)) (bytes_at bytes) spans (λ k d l. kept_at bytes more (get_or spans k d) (is.within k d l))

room_kept : (bytes more : List ℕ) (spans : List Span) → IsStore bytes spans → All (λ s. s.start + s.len ≤ length (bytes ++ more)) spans
room_kept bytes more spans is =
    let len : length (bytes ++ more) ≡ length bytes + length more = length-append bytes more in
    All-weaker (λ (s : Span). s.start + s.len ≤ length bytes) (λ (s : Span). s.start + s.len ≤ length (bytes ++ more)) (λ s h. omega arith) spans is.within

-- more bytes, and the same strings
pub store_kept : (bytes more bytes' : List ℕ) (spans spans' : List Span) → bytes' ≡ bytes ++ more → spans' ≡ spans → IsStore bytes spans → IsStore bytes' spans'
store_kept bytes more bytes' spans spans' e s is =
    subst (λ b. IsStore b spans') (sym e) (subst (IsStore (bytes ++ more)) (sym s)
    (record { within = room_kept bytes more spans is; letters = subst (All IsLetter) (sym (kept_all bytes more spans is)) is.letters }))

pub strings_kept : (bytes more bytes' : List ℕ) (spans spans' : List Span) → bytes' ≡ bytes ++ more → spans' ≡ spans → IsStore bytes spans → strings_at bytes' spans' ≡ strings_at bytes spans
strings_kept bytes more bytes' spans spans' e s is = ap (λ b. strings_at b spans') e ∙ ap (strings_at (bytes ++ more)) s ∙ kept_all bytes more spans is

-- one more string, behind the bytes
last_one : (bytes string : List ℕ) (s : Span) → s.start ≡ length bytes → s.len ≡ length string → bytes_at (bytes ++ string) s ≡ string
last_one bytes string s a b =
    ap (λ n. take s.len (drop n (bytes ++ string))) a ∙ ap (take s.len) (drop_at bytes string (length bytes) refl) ∙ take_all s.len string (omega arith)

pub strings_more : (bytes string bytes' : List ℕ) (spans spans' : List Span) (s : Span) → bytes' ≡ bytes ++ string → spans' ≡ spans ++ s ∷ [] → s.start ≡ length bytes → s.len ≡ length string → IsStore bytes spans
    → strings_at bytes' spans' ≡ strings_at bytes spans ++ string ∷ []
strings_more bytes string bytes' spans spans' s e f a b is =
    ap (λ w. strings_at w spans') e ∙ ap (strings_at (bytes ++ string)) f ∙ map-append (bytes_at (bytes ++ string)) spans (s ∷ [])
    ∙ ap (λ w. w ++ bytes_at (bytes ++ string) s ∷ []) (kept_all bytes string spans is) ∙ ap (λ w. strings_at bytes spans ++ w ∷ []) (last_one bytes string s a b)

pub store_more : (bytes string bytes' : List ℕ) (spans spans' : List Span) (s : Span) → bytes' ≡ bytes ++ string → spans' ≡ spans ++ s ∷ [] → s.start ≡ length bytes → s.len ≡ length string → IsStore bytes spans → IsLetter string
    → IsStore bytes' spans'
store_more bytes string bytes' spans spans' s e f a b is letter =
    let len : length (bytes ++ string) ≡ length bytes + length string = length-append bytes string in
    let within : All (λ (w : Span). w.start + w.len ≤ length (bytes ++ string)) (spans ++ s ∷ []) = All-push (λ (w : Span). w.start + w.len ≤ length (bytes ++ string)) spans s (room_kept bytes string spans is) (omega arith) in
    record {
      within = subst (λ w. All (λ (v : Span). v.start + v.len ≤ length w) spans') (sym e) (subst (All (λ (v : Span). v.start + v.len ≤ length (bytes ++ string))) (sym f) within);
      letters = subst (All IsLetter) (sym (strings_more bytes string bytes' spans spans' s e f a b is)) (All-push IsLetter (strings_at bytes spans) string is.letters letter);
    }
