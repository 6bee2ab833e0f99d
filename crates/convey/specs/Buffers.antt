-- What contracts see of one rank's buffers, by the numbers of its links.
use Rattle.std.specs.Prelude.{ℕ, Bool, true, false, List, Option, Some, None}
use Rattle.bale_items.specs.declared.item.Entry.{Entry}
use Rattle.route_tensor.specs.Neighbour.{link_from, out_index, in_index}
use Rattle.hop_core.specs.declared.phase.Phase.{Phase}
use Rattle.hop_core.specs.declared.phase.Phase.TheVariants.{Dormant, Working, Endgame, Cleanup, Complete}
use Rattle.hop_core.specs.Link.{Out, In}
use Rattle.hop_core.specs.State.{State, out_at, in_at}

-- The grid, the rank, its epoch, and whether it is done or complete in it.
-- waiting, closed: for each link out, the entries of its open parcel, and whether its last parcel
-- was sent.
-- unread, ended: for each link in, the untaken entries of its inbox, and whether its last parcel
-- was got.
-- latest: the link and the entry of the latest call, if that was a pull that gave one.
pub record Buffers : Type 0 where
  pub dims : List ℕ
  pub rank : ℕ
  pub epoch : ℕ
  pub done : Bool
  pub complete : Bool
  pub waiting : ℕ → List Entry
  pub closed : ℕ → Bool
  pub unread : ℕ → List Entry
  pub ended : ℕ → Bool
  pub latest : Option (ℕ × Entry)

-- A rank's own links by their numbers.
abbrev pub out_of : State → ℕ → Out
out_of st l = out_at st (out_index st.dims l)

abbrev pub in_of : State → ℕ → In
in_of st l = in_at st (in_index st.dims l)

abbrev pub is_complete : Phase → Bool
is_complete Dormant = false
is_complete Working = false
is_complete Endgame = false
is_complete Cleanup = false
is_complete Complete = true

-- The entry that an unpull would put back, with its link.
abbrev pub entry_back : ℕ → Option Entry → Option (ℕ × Entry)
entry_back l None = None
entry_back l (Some e) = Some (l, e)

abbrev pub back_of : State → Option ℕ → Option (ℕ × Entry)
back_of st None = None
back_of st (Some i) = entry_back (link_from st.dims st.rank i) (in_at st i).parcel.back

abbrev pub buffers_of : State → Buffers
buffers_of st = record {
  dims = st.dims;
  rank = st.rank;
  epoch = st.epoch;
  done = st.done;
  complete = is_complete st.phase;
  waiting = λ l. (out_of st l).parcel.untaken;
  closed = λ l. (out_of st l).closed;
  unread = λ l. (in_of st l).parcel.untaken;
  ended = λ l. (in_of st l).ended;
  latest = back_of st st.pulled;
}
