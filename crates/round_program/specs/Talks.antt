-- What an asker does, as functions of its state, and the laws that it meets.
use Rattle.std.specs.Prelude.{ℕ, ◌^◌, ◌<◌, ◌≡◌, ◌≢◌, List, length}
use Rattle.std.specs.List.{All}

-- The meanings of an asker whose state is S. A state is plain data.
pub record Talk (S : Type 0) : Type 1 where
  -- the states that the asker can be in
  pub valid : S → Type 0
  pub rank : S → ℕ
  pub ranks : S → ℕ
  -- the queries in order: the rank that each goes to, and the question
  pub queries : S → List (ℕ × ℕ)
  -- the reply to a rank's question
  pub answer : S → ℕ → ℕ → ℕ
  -- the state after the reply to a query, named by its number, was heard
  pub heard : S → ℕ → ℕ → S

-- What hearing a reply leaves as it is.
pub record SameTalk {S : Type 0} (T : Talk S) (s t : S) : Type 0 where
  pub valid : T.valid t
  pub rank : T.rank t ≡ T.rank s
  pub ranks : T.ranks t ≡ T.ranks s
  pub queries : T.queries t ≡ T.queries s
  pub answer : (from question : ℕ) → T.answer t from question ≡ T.answer s from question

-- The laws. They speak of all valid states; replies are below 2^64.
pub record TalkLaws {S : Type 0} (T : Talk S) : Type 0 where
  -- a query goes to a rank
  pub asks : (s : S) → T.valid s → All (λ q. (q.0 < T.ranks s) × (q.1 < 2 ^ 64)) (T.queries s)
  -- an answer is a number of 64 bits
  pub answers : (s : S) (from question : ℕ) → T.valid s → from < 2 ^ 32 → question < 2 ^ 64
      → T.answer s from question < 2 ^ 64
  -- hearing changes no rank, ranks, query or answer
  pub keeps : (s : S) (i reply : ℕ) → T.valid s → i < length (T.queries s) → reply < 2 ^ 64
      → SameTalk T s (T.heard s i reply)
  -- replies to different queries are heard in any order
  pub commutes : (s : S) (i j a b : ℕ) → T.valid s → i ≢ j → i < length (T.queries s) → j < length (T.queries s)
      → a < 2 ^ 64 → b < 2 ^ 64 → T.heard (T.heard s i a) j b ≡ T.heard (T.heard s j b) i a
