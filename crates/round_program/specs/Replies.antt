-- Queries and replies between ranks, with no word on how they travel.
use Rattle.std.specs.Prelude.{◌≡◌, ℕ, suc, ◌==◌, List, [], ◌∷◌, length, map, drop, Some, slice_get, slice_index_or}
use Rattle.std.specs.Prelude.{if◌then◌else◌}
use Rattle.bale_items.specs.declared.item.Item.{Item}
use Rattle.round_program.specs.Talks.{Talk}
use Rattle.round_program.specs.Canonical.{items_of}

-- An item that carries one number.
abbrev pub carrying : ℕ → Item
carrying v = record { a = v; b = 0; c = 0 }

-- Queries as items, each with the rank that it goes to.
abbrev pub as_items : List (ℕ × ℕ) → List (ℕ × Item)
as_items queries = map (λ q. (q.0, carrying q.1)) queries

-- What a rank in the state s asks, in order.
abbrev pub asks_of : {S : Type 0} → Talk S → S → List (ℕ × Item)
asks_of T s = as_items (T.queries s)

-- The queries of the pair (s,d): those that a rank in the state s has for d, in order.
-- If it asks rank 1 for 5, rank 0 for 6 and rank 1 for 7, its queries to 1 are 5 and 7.
abbrev pub queries_to : {S : Type 0} → Talk S → S → ℕ → List Item
queries_to T s d = items_of d (asks_of T s)

-- The answers to queries of the rank `from`, in order, by a rank in the state s.
-- If a rank answers the question plus 1, those to 5 and 7 are 6 and 8.
abbrev pub answers : {S : Type 0} → Talk S → S → ℕ → List Item → List Item
answers T s from queries = map (λ x. carrying (T.answer s from x.a)) queries

-- The replies of (d,s): the answers that d gives to the queries of (s,d), in their order; all r is
-- the state of rank r.
abbrev pub replies_of : {S : Type 0} → Talk S → (ℕ → S) → ℕ → ℕ → List Item
replies_of T all d s = answers T (all d) s (queries_to T (all s) d)

-- Hearing by order alone: of the replies that came from a rank, `came d` those from d, the first is
-- heard as that to the first query to this rank, and so on. A reply beyond the queries is dropped,
-- and a query beyond the replies stays open.
-- The queries are those from number i on.
abbrev pub heard_first : {S : Type 0} → Talk S → S → ℕ → List Item → S
heard_first T s i [] = s
heard_first T s i (x ∷ xs) = T.heard s i x.a

abbrev pub less_first : (ℕ → List Item) → ℕ → ℕ → List Item
less_first came d = λ e. if e == d then drop 1 (came e) else came e

abbrev pub hearing : {S : Type 0} → Talk S → S → ℕ → List (ℕ × ℕ) → (ℕ → List Item) → S
hearing T s i [] came = s
hearing T s i (q ∷ qs) came = hearing T (heard_first T s i (came q.0)) (suc i) qs (less_first came q.0)

-- The state of a rank that began in the state s, after those replies.
-- Of the queries above, with 6 from rank 1 and nothing from rank 0, only query number 0 was heard,
-- as 6.
abbrev pub heard_by : {S : Type 0} → Talk S → S → (ℕ → List Item) → S
heard_by T s came = hearing T s 0 (T.queries s) came

-- The numbers, from i on, of the queries that go to d.
-- Of the queries above those to rank 1 have the numbers 0 and 2.
abbrev pub places_to : ℕ → ℕ → List (ℕ × ℕ) → List ℕ
places_to d i [] = []
places_to d i (q ∷ qs) = if q.0 == d then i ∷ places_to d (suc i) qs else places_to d (suc i) qs

-- A rank r in the state s after it heard, for each of its queries in order, the answer of the rank
-- asked.
abbrev pub answered_from : {S : Type 0} → Talk S → (ℕ → S) → ℕ → S → ℕ → List (ℕ × ℕ) → S
answered_from T all r s i [] = s
answered_from T all r s i (q ∷ qs) = answered_from T all r (T.heard s i (T.answer (all q.0) r q.1)) (suc i) qs

abbrev pub after_answers : {S : Type 0} → Talk S → (ℕ → S) → ℕ → S
after_answers T all r = answered_from T all r (all r) 0 (T.queries (all r))

-- The askers of all ranks after each has heard, for each of its queries in order, the answer of the
-- rank asked.
pub record HaveHeard {S : Type 0} (T : Talk S) (askers ends : List S) : Type 0 where
  pub size : length ends ≡ length askers
  pub each : (r : ℕ) (s : S) → slice_get askers r ≡ Some s
      → slice_get ends r ≡ Some (after_answers T (λ d. slice_index_or askers d s) r)
