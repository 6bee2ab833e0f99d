-- A rank's state while a parcel is lent.
use Rattle.std.specs.Prelude.{◌≡◌, ℕ, ◌<◌, sum, false, None}
use Rattle.std.specs.List.{All}
use Rattle.item_buffer.specs.Contents.{Contents, IsFresh, blank}
use Rattle.route_tensor.specs.Neighbour.{hop_to}
use Rattle.route_tensor.specs.Tag.{IsFair}
use Rattle.hop_core.specs.Lent.{lent_parcel}
use Rattle.hop_core.specs.Lent.Lent.{ToSend, ToFill}
use Rattle.hop_core.specs.State.{State, out_at, in_at, at_end}

-- The open parcel toward neighbour i is lent, and no other call was made since.
-- place: in its place is an empty parcel, and the link is not closed.
-- last: the lent parcel is marked last if and only if its hop has reached its end.
-- fresh, fair: nothing of it is taken, and each entry has a tag that is fair on its hop.
pub record IsLentToSend (st : State) (i : ℕ) : Type 0 where
  pub lent : st.lent ≡ ToSend i (lent_parcel st.lent)
  pub place : out_at st i ≡ record { parcel = blank st.epoch; closed = false }
  pub last : (lent_parcel st.lent).last ≡ at_end st.dims st.ins st.done (hop_to st.dims i)
  pub fresh : IsFresh (lent_parcel st.lent)
  pub fair : All (λ e. IsFair st.dims (hop_to st.dims i) e.tag) (lent_parcel st.lent).untaken

-- The inbox of neighbour i is lent, and no other call was made since: in its place is an empty
-- parcel, and the link has not ended.
pub record IsLentToFill (st : State) (i : ℕ) : Type 0 where
  pub lent : st.lent ≡ ToFill i
  pub place : in_at st i ≡ record { parcel = blank st.epoch; ended = false }

-- The open parcel toward neighbour i was taken out of the state with these contents.
-- number: there is such a neighbour.
-- place: in its place is an empty parcel, and the link is not closed.
-- last: it is marked last if and only if its hop has reached its end.
-- fresh, fair: nothing of it is taken, and each entry has a tag that is fair on its hop.
-- pulled: the call that took it out was no pull, so there is nothing to unpull.
pub record IsTakenOut (st : State) (i : ℕ) (p : Contents) : Type 0 where
  pub number : i < sum st.dims
  pub place : out_at st i ≡ record { parcel = blank st.epoch; closed = false }
  pub last : p.last ≡ at_end st.dims st.ins st.done (hop_to st.dims i)
  pub fresh : IsFresh p
  pub fair : All (λ e. IsFair st.dims (hop_to st.dims i) e.tag) p.untaken
  pub pulled : st.pulled ≡ None
