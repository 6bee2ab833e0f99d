-- A rank's tables of first steps and neighbours, as contracts see them.
use Rattle.std.proofs.Common.{ℕ, ◌≡◌, ◌+◌, ◌-◌, ◌*◌, ◌<◌, ◌≤◌, List, length, get_or, sum, arith, sym, ap, subst, ◌∙◌}
use Rattle.bale_items.specs.declared.item.Tag.{Tag}
use Rattle.route_tensor.specs.declared.routes.Onward.{Onward}
use Rattle.route_tensor.specs.declared.routes.Neighbour.{Neighbour}
use Rattle.route_tensor.specs.Grid.{ranks, dim, coord, place, IsGrid}
use Rattle.route_tensor.specs.Link.{links}
use Rattle.route_tensor.specs.Ends.{sender_at, reader_at}
use Rattle.route_tensor.specs.Neighbour.{hop_to, neighbour, out_index, in_index}
use Rattle.route_tensor.specs.Tag.{IsFair, tag_rank, sender_of}
use Rattle.route_tensor.specs.Routes.{Site, first_step, about, IsRankTable}
use Rattle.route_tensor.proofs.Coordinates.{place_below}
use Rattle.route_tensor.proofs.Neighbours.{out_stands, in_stands, to_neighbour, hop_to_has}
use Rattle.route_tensor.proofs.Links.{sum_take_le, sum_small, before_more, coord_in}
use Rattle.route_tensor.proofs.Tags.{tag_rank_below, tag_at_fair}
use Rattle.route_tensor.proofs.Steps.{last_sender}

abbrev pub site : List ℕ → ℕ → Site
site dims r = record { dims = dims; rank = r }

-- the tables of the rank that contracts see
pub table_of : (s : Site) (dims : List ℕ) (r first_dim : ℕ) (firsts : List Onward) (neighbours : List Neighbour) (numbers : List ℕ) →
    site dims r ≡ s → IsRankTable dims r first_dim firsts neighbours numbers → IsRankTable s.dims s.rank first_dim firsts neighbours numbers
table_of s dims r first_dim firsts neighbours numbers e t = subst (λ x. IsRankTable x.dims x.rank first_dim firsts neighbours numbers) e t

-- the number that stands for a link that starts here
pub record Number (dims : List ℕ) (x i : ℕ) : Type 0 where
  pub value : x ≡ i
  pub below : x < sum dims
  pub hop : hop_to dims x ≡ hop_to dims i

pub number_to_at : (dims : List ℕ) (r first_dim : ℕ) (firsts : List Onward) (neighbours : List Neighbour) (numbers : List ℕ) (l x : ℕ) →
    IsRankTable dims r first_dim firsts neighbours numbers → l < links dims → sender_at dims l ≡ r → x ≡ get_or numbers l x → Number dims x (out_index dims l)
number_to_at dims r first_dim firsts neighbours numbers l x t q e f =
    let s = out_stands dims r l t.grid q e in
    let v : x ≡ out_index dims l = f ∙ ap (λ m. get_or numbers m x) (sym s.number) ∙ t.number_to (out_index dims l) x s.below in
    record { value = v; below = omega (arith, v, s.below); hop = ap (hop_to dims) v }

pub number_from_at : (dims : List ℕ) (r first_dim : ℕ) (firsts : List Onward) (neighbours : List Neighbour) (numbers : List ℕ) (l x : ℕ) →
    IsRankTable dims r first_dim firsts neighbours numbers → l < links dims → reader_at dims l ≡ r → x ≡ get_or numbers l x → Number dims x (in_index dims l)
number_from_at dims r first_dim firsts neighbours numbers l x t q e f =
    let s = in_stands dims r l t.grid q e in
    let v : x ≡ in_index dims l = f ∙ ap (λ m. get_or numbers m x) (sym s.number) ∙ t.number_from (in_index dims l) x s.below in
    record { value = v; below = omega (arith, v, s.below); hop = ap (hop_to dims) v }

-- the sender of an entry on the last hop
pub record Sender (dims : List ℕ) (r first_dim i : ℕ) (n : Neighbour) (tag : Tag) : Type 0 where
  pub value : n.high + tag.d1 + first_dim * tag.d2 ≡ sender_of dims tag (length dims) (neighbour dims r i)
  pub rank : n.high + tag.d1 + first_dim * tag.d2 < ranks dims
  pub small : n.high + tag.d1 + first_dim * tag.d2 < 64

pub sender_by_table : (dims : List ℕ) (r first_dim : ℕ) (firsts : List Onward) (neighbours : List Neighbour) (numbers : List ℕ) (i : ℕ) (n : Neighbour) (tag : Tag) →
    IsRankTable dims r first_dim firsts neighbours numbers → i < sum dims → hop_to dims i ≡ length dims → IsFair dims (length dims) tag → n ≡ get_or neighbours i n → Sender dims r first_dim i n tag
sender_by_table dims r first_dim firsts neighbours numbers i n tag t q e f m =
    let g = t.grid in
    let same : n ≡ about dims r i = m ∙ t.each_neighbour i n (omega (arith, t.all_neighbours, q)) in
    let high : n.high ≡ place dims (neighbour dims r i) 0 (hop_to dims i - 1) = ap (λ x. x.high) same in
    let a : neighbour dims r i < ranks dims = (to_neighbour dims r i g t.within q).reader in
    let v : n.high + tag.d1 + first_dim * tag.d2 ≡ sender_of dims tag (length dims) (neighbour dims r i) =
    rw (high, t.dimension) (last_sender dims tag (neighbour dims r i) (hop_to dims i) g e f) in
    let b : sender_of dims tag (length dims) (neighbour dims r i) < ranks dims =
    place_below dims (neighbour dims r i) (tag_rank dims tag) (length dims - 1) g.positive a (tag_rank_below dims (length dims) tag g f) in
    record { value = v; rank = omega (arith, v, b); small = omega (arith, v, b, g.small) }

-- the hop of a neighbour
pub record HopOf (dims : List ℕ) (n : Neighbour) : Type 0 where
  pub first : 1 ≤ n.hop
  pub last : n.hop ≤ length dims

pub hop_of_table : (dims : List ℕ) (r first_dim : ℕ) (firsts : List Onward) (neighbours : List Neighbour) (numbers : List ℕ) (i : ℕ) (n : Neighbour) →
    IsRankTable dims r first_dim firsts neighbours numbers → i < sum dims → n ≡ get_or neighbours i n → HopOf dims n
hop_of_table dims r first_dim firsts neighbours numbers i n t q m =
    let same : n ≡ about dims r i = m ∙ t.each_neighbour i n (omega (arith, t.all_neighbours, q)) in
    let k = hop_to_has dims i q in
    let e : n.hop ≡ hop_to dims i = ap (λ x. x.hop) same in
    record { first = omega (arith, e, k.first); last = omega (arith, e, k.last) }

-- the number of the first neighbour on the next hop
pub next_small : (dims : List ℕ) (r first_dim : ℕ) (firsts : List Onward) (neighbours : List Neighbour) (numbers : List ℕ) (i : ℕ) (n : Neighbour) →
    IsRankTable dims r first_dim firsts neighbours numbers → i < sum dims → n ≡ get_or neighbours i n → n.next ≤ 66
next_small dims r first_dim firsts neighbours numbers i n t q m =
    let same : n ≡ about dims r i = m ∙ t.each_neighbour i n (omega (arith, t.all_neighbours, q)) in
    omega (arith, ap (λ x. x.next) same, sum_take_le dims (hop_to dims i + 1 - 1), sum_small dims t.grid)

-- a first step
pub record FirstStep (dims : List ℕ) (x : Onward) : Type 0 where
  pub fair : IsFair dims 1 x.tag
  pub below : x.out < sum dims

pub first_step_is : (dims : List ℕ) (r d : ℕ) (x : Onward) → IsGrid dims → x ≡ first_step dims r d → FirstStep dims x
first_step_is dims r d x g e = subst (FirstStep dims) (sym e) (record {
  fair = tag_at_fair dims r d 1 g;
  below =
      let a : coord dims d 1 < dim dims 1 = coord_in dims d 1 g.positive (omega arith) g.some in
      omega (arith, a, before_more dims 1 (omega arith) g.some, sum_take_le dims 1);
})

pub first_of_table : (dims : List ℕ) (r first_dim : ℕ) (firsts : List Onward) (neighbours : List Neighbour) (numbers : List ℕ) (d : ℕ) (x : Onward) →
    IsRankTable dims r first_dim firsts neighbours numbers → d < ranks dims → x ≡ get_or firsts d x → FirstStep dims x
first_of_table dims r first_dim firsts neighbours numbers d x t q m =
    first_step_is dims r d x t.grid (m ∙ t.each_first d x (omega (arith, t.all_firsts, q)))
