-- Where a rank sends entries, and which ranks it has links with.
use Rattle.std.specs.Prelude.{◌≡◌, ℕ, ◌+◌, ◌-◌, ◌<◌, List, length, sum, slice_index_or}
use Rattle.bale_items.specs.declared.item.Entry.{Entry}
use Rattle.bale_items.specs.declared.item.Tag.{Tag}
use Rattle.list_laws.specs.Lists.{EachAt}
use Rattle.route_tensor.specs.declared.routes.Onward.{Onward}
use Rattle.route_tensor.specs.declared.routes.Neighbour.{Neighbour}
use Rattle.route_tensor.specs.Grid.{ranks, dim, coord, place, IsGrid}
use Rattle.route_tensor.specs.Link.{links, links_before}
use Rattle.route_tensor.specs.Neighbour.{hop_to, neighbour, link_to, link_from}
use Rattle.route_tensor.specs.Tag.{digit, with_digit, tag_at}

-- A rank and its grid.
pub record Site : Type 0 where
  pub dims : List ℕ
  pub rank : ℕ

-- The first link of an entry from r to d: to the neighbour of hop 1 that has d's first coordinate,
-- with its first tag.
-- In the grid 2x2x2 an entry from 1 to 6 goes to neighbour number 0, rank 0, with the tag (0,1,1).
abbrev pub first_step : List ℕ → ℕ → ℕ → Onward
first_step dims r d = record { out = coord dims d 1; tag = tag_at dims r d 1 }

-- What rank r knows of its neighbour number i.
abbrev pub about : List ℕ → ℕ → ℕ → Neighbour
about dims r i = record {
  rank = neighbour dims r i;
  hop = hop_to dims i;
  link_to = link_to dims r i;
  link_from = link_from dims r i;
  digit = coord dims (neighbour dims r i) (hop_to dims i);
  next = links_before dims (hop_to dims i + 1);
  high = place dims (neighbour dims r i) 0 (hop_to dims i - 1);
  filler = 0;
}

-- The next link of an entry that came from a neighbour: to the neighbour of the next hop with the
-- coordinate that the tag tells, with the next tag.
-- In the grid 2x2x2 an entry with the tag (0,1,1) that came from rank 1 to rank 0 on hop 1 goes to
-- neighbour number 3, rank 2, with the tag (1,0,1).
abbrev pub passed_on : Neighbour → Tag → Onward
passed_on n tag = record {
  out = n.next + digit tag (n.hop + 1);
  tag = with_digit (with_digit tag n.hop n.digit) (n.hop + 1) 0;
}

-- The tables of a rank say what the grid's calls say.
pub record IsRankTable (dims : List ℕ) (r first_dim : ℕ) (firsts : List Onward) (neighbours : List Neighbour)
    (numbers : List ℕ) : Type 0 where
  pub grid : IsGrid dims
  pub within : r < ranks dims
  pub dimension : first_dim ≡ dim dims 1
  pub all_firsts : length firsts ≡ ranks dims
  pub each_first : EachAt (λ d step. step ≡ first_step dims r d) firsts
  pub all_neighbours : length neighbours ≡ sum dims
  pub each_neighbour : EachAt (λ i n. n ≡ about dims r i) neighbours
  pub all_numbers : length numbers ≡ links dims
  pub number_to : (i : ℕ) (d : ℕ) → i < sum dims → slice_index_or numbers (link_to dims r i) d ≡ i
  pub number_from : (i : ℕ) (d : ℕ) → i < sum dims → slice_index_or numbers (link_from dims r i) d ≡ i

-- By destination, entries that have the first tag already.
pub record IsStamped (dims : List ℕ) (r : ℕ) (stamps : List Entry) : Type 0 where
  pub all_stamps : length stamps ≡ ranks dims
  pub each_stamp : EachAt (λ d e. e.tag ≡ tag_at dims r d 1) stamps
