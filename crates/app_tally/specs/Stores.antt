-- Strings kept one behind the other.
use Rattle.std.specs.Prelude.{ℕ, ◌+◌, ◌≤◌, List, length, map, take, drop}
use Rattle.std.specs.List.{All}
use Rattle.elastic.specs.Spelling.{IsLetter}
use Rattle.app_tally.specs.declared.strings.Span.{Span}

-- The bytes of a span.
abbrev pub bytes_at : List ℕ → Span → List ℕ
bytes_at bytes s = take s.len (drop s.start bytes)

-- The strings of spans, in order.
abbrev pub strings_at : List ℕ → List Span → List (List ℕ)
strings_at bytes spans = map (bytes_at bytes) spans

-- Each span lies within the bytes, and each string is one that may be sent.
pub record IsStore (bytes : List ℕ) (spans : List Span) : Type 0 where
  pub within : All (λ s. s.start + s.len ≤ length bytes) spans
  pub letters : All IsLetter (strings_at bytes spans)
