-- What holds of a rank's state at every moment.
use Rattle.std.specs.Prelude.{◌≡◌, ℕ, Bool, true, ◌-◌, ◌<◌, ◌≤◌, not, List, [], length, drop, sum, slice_index_or, Some}
use Rattle.std.specs.Prelude.{IsSome}
use Rattle.std.specs.Int.{from_bool}
use Rattle.std.specs.List.{All, sum_by}
use Rattle.bale_items.specs.declared.item.Entry.{Entry}
use Rattle.item_buffer.specs.Capacity.{IsCap}
use Rattle.item_buffer.specs.Contents.{IsFresh}
use Rattle.list_laws.specs.Lists.{EachAt}
use Rattle.route_tensor.specs.Grid.{ranks, IsGrid}
use Rattle.route_tensor.specs.Link.{links_before}
use Rattle.route_tensor.specs.Neighbour.{hop_to}
use Rattle.route_tensor.specs.Tag.{IsFair}
use Rattle.hop_core.specs.Link.{Out, In, is_empty}
use Rattle.hop_core.specs.State.{State, in_at, at_end}

-- A link out of hop h: its open parcel is fresh, holds at most its capacity, and every entry has a
-- tag that is fair there; a closed one is empty.
pub record IsOut (dims : List ℕ) (cap h : ℕ) (o : Out) : Type 0 where
  pub fresh : IsFresh o.parcel
  pub fits : length o.parcel.untaken ≤ cap
  pub fair : All (λ e. IsFair dims h e.tag) o.parcel.untaken
  pub closed_empty : o.closed ≡ true → o.parcel.untaken ≡ []

-- A link in of hop h: its inbox holds at most its capacity, and every entry has a tag that is fair
-- there, that which could be put back too.
pub record IsIn (dims : List ℕ) (cap h : ℕ) (x : In) : Type 0 where
  pub fits : length x.parcel.untaken ≤ cap
  pub fair : All (λ e. IsFair dims h e.tag) x.parcel.untaken
  pub back_fair : (e : Entry) → x.parcel.back ≡ Some e → IsFair dims h e.tag

-- The link from which an item was pulled last: one of the last hop, with an entry to be put back.
pub record CanUnpull (st : State) (i : ℕ) : Type 0 where
  pub within : i < sum st.dims
  pub last_hop : hop_to st.dims i ≡ length st.dims
  pub back : IsSome (in_at st i).parcel.back

-- The state of a rank of a grid. A link is closed only if its hop has reached its end.
pub record IsState (st : State) : Type 0 where
  pub grid : IsGrid st.dims
  pub rank : st.rank < ranks st.dims
  pub cap : IsCap st.cap
  pub all_outs : length st.outs ≡ sum st.dims
  pub all_ins : length st.ins ≡ sum st.dims
  pub each_out : EachAt (λ i o. IsOut st.dims st.cap (hop_to st.dims i) o) st.outs
  pub each_in : EachAt (λ i x. IsIn st.dims st.cap (hop_to st.dims i) x) st.ins
  pub closed_at_end : EachAt (λ i o. o.closed ≡ true → at_end st.dims st.ins st.done (hop_to st.dims i) ≡ true) st.outs
  pub can_unpull : (i : ℕ) → st.pulled ≡ Some i → CanUnpull st i

-- How many elements of a list fail a test.
abbrev pub failing : {X : Type 0} → (X → Bool) → List X → ℕ
failing test xs = sum_by (λ x. from_bool (not (test x))) xs

-- What the code stores beside the state: which hops have reached their end, a link below which no
-- link in of the last hop has an entry, how many links out are not closed, and how many links in of
-- the last hop have not ended.
pub record IsKept (st : State) (ends : List Bool) (from still_open still_coming : ℕ) : Type 0 where
  pub standing : IsState st
  pub ends_all : length ends ≡ 3
  pub ends_each : (h : ℕ) (d : Bool) → 2 ≤ h → h ≤ length st.dims
      → slice_index_or ends (h - 1) d ≡ at_end st.dims st.ins st.done h
  pub from_low : links_before st.dims (length st.dims) ≤ from
  pub from_high : from ≤ sum st.dims
  pub open_is : still_open ≡ failing (λ o. o.closed) st.outs
  pub coming_is : still_coming ≡ failing (λ x. x.ended) (drop (links_before st.dims (length st.dims)) st.ins)
  pub from_none : (i : ℕ) → links_before st.dims (length st.dims) ≤ i → i < from → is_empty (in_at st i).parcel ≡ true
