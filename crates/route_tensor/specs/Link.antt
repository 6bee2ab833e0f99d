-- Links and their numbers.
use Rattle.std.specs.Prelude.{◌≡◌, ◌≢◌, ℕ, ◌+◌, ◌-◌, ◌*◌, ◌<◌, ◌≤◌, List, length, take, sum}
use Rattle.route_tensor.specs.Grid.{ranks, dim, coord, place}

-- The link (h,a,b) joins two ranks that agree in every coordinate but h; a = b is allowed.
-- In the grid 2x2x2 (2,0,2) is a link and (2,0,4) isn't.
pub record IsLink (dims : List ℕ) (h a b : ℕ) : Type 0 where
  pub first_hop : 1 ≤ h
  pub last_hop : h ≤ length dims
  pub sender : a < ranks dims
  pub reader : b < ranks dims
  pub agree : (i : ℕ) → i ≢ h → coord dims a i ≡ coord dims b i

-- How many links lead from a rank on the hops before h, and as many lead to it.
-- links_before (n1 .. nk) h = n1 + .. + n(h-1)
-- In the grid 2x3x5 there are 5 before hop 3.
abbrev pub links_before : List ℕ → ℕ → ℕ
links_before dims h = sum (take (h - 1) dims)

-- The number of all links.
-- links (n1 .. nk) = P * (n1 + .. + nk)
-- The grid 2x2x2 has 48.
abbrev pub links : List ℕ → ℕ
links dims = ranks dims * sum dims

-- The number of the link (h,a,b): links are counted by hop, then by sender, then by the reader's
-- coordinate h.
-- P * (n1 + .. + n(h-1)) + a * nh + coord b h
-- In the grid 2x2x2 the link (2,0,2) has the number 17.
abbrev pub link : List ℕ → ℕ → ℕ → ℕ → ℕ
link dims h a b = ranks dims * links_before dims h + a * dim dims h + coord dims b h

-- The link (h,a,b) is the one of hop h on the route from s to d.
-- a = place s d (h-1) and b = place s d h, for h from 1 to k
-- In the grid 2x2x2 the route from 1 to 6 is (1,1,0), (2,0,2), (3,2,6).
pub record IsOnRoute (dims : List ℕ) (s d h a b : ℕ) : Type 0 where
  pub first_hop : 1 ≤ h
  pub last_hop : h ≤ length dims
  pub sender : s < ranks dims
  pub destination : d < ranks dims
  pub from : a ≡ place dims s d (h - 1)
  pub to : b ≡ place dims s d h

-- The rank r is where an entry from s to d is after h hops: it has d's coordinates up to h and s's
-- after that.
-- start, end: before the first hop it is s, and after the last one d.
-- link: the hop that led there is a link.
pub record IsPlace (dims : List ℕ) (s d h r : ℕ) : Type 0 where
  pub rank : r < ranks dims
  pub taken : (i : ℕ) → 1 ≤ i → i ≤ h → coord dims r i ≡ coord dims d i
  pub left : (i : ℕ) → h < i → i ≤ length dims → coord dims r i ≡ coord dims s i
  pub start : h ≡ 0 → r ≡ s
  pub end : h ≡ length dims → r ≡ d
  pub link : 1 ≤ h → IsLink dims h (place dims s d (h - 1)) r
