-- What a slot bank leaves when it is closed.
use Rattle.std.specs.Prelude.{◌≡◌, ℕ, zero, suc, ◌<◌, true, List, [], ◌∷◌, ◌++◌, map, length, slice_index_or, Option}
use Rattle.std.specs.Prelude.{Some, None, IsSome}
use Rattle.item_buffer.specs.Contents.{Contents, as_shipped}
use Rattle.route_tensor.specs.Grid.{ranks}
use Rattle.route_tensor.specs.Link.{links}
use Rattle.route_tensor.specs.Ends.{sender_at, reader_at}
use Rattle.atomic_table.specs.Table.{State}
use Rattle.port_bank.specs.Round.{Round, IsRound}
use Rattle.link_slots.specs.Logs.{Lists, sent_of, got_of}
use Rattle.link_slots.specs.View.{logs_or}
use Rattle.link_slots.specs.declared.seat.rank_ends.EndedCounts.{EndedCounts}
use Rattle.port_bank.specs.Logs.{lasts}
use Rattle.list_laws.specs.Counts.{saturated_count}
use Rattle.link_slots.specs.Shape.{Shape, IsShape}
use Rattle.link_slots.specs.WordSteps.{TableView, IsLawful}

-- f 0, f 1, .., f (n - 1)
abbrev pub each_below : {A : Type 0} → (ℕ → A) → ℕ → List A
each_below f zero = []
each_below f (suc n) = each_below f n ++ f n ∷ []

-- The lists of a rank, by what was gathered.
abbrev pub logs_at : List (Option (Lists Contents)) → ℕ → Lists Contents
logs_at lists r = logs_or (slice_index_or lists r None)

-- What is known of a slot bank that is closed with these lists of its ranks: of each link, what its
-- sender posted and its reader collected.
abbrev pub round_left : Shape → ℕ → (ℕ → Lists Contents) → Round
round_left shape cap logs = record {
  dims = shape.dims;
  cap = cap;
  slots = shape.slots;
  by_slots = true;
  sent = each_below (λ l. map as_shipped (sent_of (logs (sender_at shape.dims l)) l)) (links shape.dims);
  got = each_below (λ l. map as_shipped (got_of (logs (reader_at shape.dims l)) l)) (links shape.dims);
}

-- The same of the lists that were gathered.
abbrev pub slot_round : Shape → ℕ → List (Option (Lists Contents)) → Round
slot_round shape cap lists = round_left shape cap (logs_at lists)

-- At every moment, whatever each rank did so far, the lists of a lawful bank keep the laws of a
-- round: so in each epoch and for each pair
-- of ranks what was got on the last hop is a prefix of what was sent on the first.
abbrev pub LiveLaw : ℕ → Type 0
LiveLaw cap = (shape : Shape) (s : State Contents TableView) → IsShape shape → (bank : IsLawful cap shape s)
    → IsRound (round_left shape cap bank.logs)

-- Each rank's lists are there: its seat was gathered, or never given out.
abbrev pub AllThere : Shape → List (Option (Lists Contents)) → Type 0
AllThere shape lists = (r : ℕ) → r < ranks shape.dims → IsSome (slice_index_or lists r None)

-- If each rank's lists are there, the round keeps the laws of a round.
abbrev pub IsSettled : ℕ → Shape → List (Option (Lists Contents)) → Type 0
IsSettled cap shape lists = AllThere shape lists → IsRound (slot_round shape cap lists)

-- the lists of the first view
abbrev pub first_lists : List TableView → List (Option (Lists Contents))
first_lists [] = []
first_lists (v ∷ vs) = v.lists

-- How many epochs a link has ended, by what a rank counted, or 0 if it counted nothing yet.
abbrev pub ended_of : Option EndedCounts → ℕ → ℕ
ended_of (Some v) l = slice_index_or v.counts.items l 0
ended_of None l = 0

-- What is kept of a closed bank: its round keeps the laws of a round, and for each rank, how many
-- epochs its links in have ended, by the lists that were gathered.
pub record IsEnding (cap : ℕ) (shape : Shape) (lists : List (Option (Lists Contents)))
    (ended : List (Option EndedCounts)) : Type 0 where
  pub round : IsRound (slot_round shape cap lists)
  pub many : length ended ≡ ranks shape.dims
  pub each : (r l : ℕ) → l < links shape.dims → reader_at shape.dims l ≡ r
      → ended_of (slice_index_or ended r None) l ≡ saturated_count (lasts (map as_shipped (got_of (logs_at lists r) l)))
