-- The cyclic parts of a matrix: its entries with their numbers, dealt out by number.
use Rattle.std.specs.Prelude.{ℕ, ◌≡◌, ◌<◌, ◌%◌, List}
use Rattle.std.specs.List.{enumerate_from}
use Rattle.bale_items.specs.declared.triple.Triple.{Triple}
use Rattle.sparse_rows.specs.Deals.{hands}

-- The parts of n ranks: entry number e is in the part of rank e mod n, in order.
-- parts_of n entries = the hands of (0, entry 0), (1, entry 1), .. with the owner e mod n
-- 4 entries on 2 ranks: entries 0 and 2, and entries 1 and 3, each with its number.
abbrev pub parts_of : ℕ → List Triple → List (List (ℕ × Triple))
parts_of n entries = hands (λ e. e.0 % n) n (enumerate_from 0 entries)

-- A rank of so many, to which entries are dealt out in these parts.
pub record HasPart (ranks rank : ℕ) (entries : List Triple) (parts : List (List (ℕ × Triple))) : Type 0 where
  pub below : rank < ranks
  pub dealt : parts ≡ parts_of ranks entries
