-- What a seat knows.
use Rattle.std.specs.Prelude.{◌≡◌, ◌≢◌, ℕ, List, [], map, replicate, slice_index_or, slice_set, Option, Some, None}
use Rattle.link_slots.specs.Logs.{Lists, no_out, no_in}

-- Which bank the seat is of, the lists of the ranks that it has, by rank, and the rank that makes
-- its steps. A rank's own seat has that rank's lists alone, the gathering seat those of the ranks
-- that have no seat, and a spent view has none.
pub record View (D T : Type 0) : Type 0 where
  pub shape : D
  pub lists : List (Option (Lists T))
  pub pick : ℕ

module _ {T : Type 0} where
  -- the lists of a rank that did nothing yet
  abbrev pub no_logs : ℕ → Lists T
  no_logs links = record { outs = replicate links no_out; ins = replicate links no_in }

  abbrev pub logs_or : Option (Lists T) → Lists T
  logs_or (Some x) = x
  logs_or None = no_logs 0

module _ {D T : Type 0} where
  -- the lists of the rank that makes the seat's steps
  abbrev pub own_logs : View D T → Lists T
  own_logs v = logs_or (slice_index_or v.lists v.pick None)

  abbrev pub with_logs : View D T → Lists T → View D T
  with_logs v x = record { shape = v.shape; lists = slice_set v.lists v.pick (Some x); pick = v.pick }

  -- The seat has the lists of the rank that makes its steps.
  abbrev pub Speaks : View D T → Type 0
  Speaks v = slice_index_or v.lists v.pick None ≡ Some (own_logs v)

  -- It has no other rank's lists.
  abbrev pub IsAlone : View D T → Type 0
  IsAlone v = (r : ℕ) → r ≢ v.pick → slice_index_or v.lists r None ≡ None

  -- The gathering seat at first: the empty lists of all ranks.
  abbrev pub first_view : D → ℕ → ℕ → View D T
  first_view shape ranks links = record { shape = shape; lists = replicate ranks (Some (no_logs links)); pick = 0 }

  -- A rank's lists go to a seat of its own, ..
  abbrev pub without_pick : View D T → View D T
  without_pick v = record { shape = v.shape; lists = slice_set v.lists v.pick None; pick = v.pick }

  abbrev pub pick_alone : View D T → View D T
  pick_alone v =
      record {
        shape = v.shape;
        lists = slice_set (map (λ _. None) v.lists) v.pick (slice_index_or v.lists v.pick None);
        pick = v.pick;
      }

  -- .. and come back to the gathering seat; the other view is spent.
  abbrev pub gathered : View D T → View D T → View D T
  gathered v u =
      record { shape = u.shape; lists = slice_set v.lists u.pick (slice_index_or u.lists u.pick None); pick = v.pick }

  abbrev pub spent : D → View D T
  spent shape = record { shape = shape; lists = []; pick = 0 }

  -- A seat that is about to be gathered leaves its hands behind: all its view goes to a new seat.
  abbrev pub emptied : View D T → View D T
  emptied v = record { shape = v.shape; lists = []; pick = v.pick }

  -- The rank whose lists go next.
  abbrev pub speaking_for : View D T → ℕ → View D T
  speaking_for v r = record { shape = v.shape; lists = v.lists; pick = r }
