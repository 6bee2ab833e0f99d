-- Which links an advance serves, and why it leaves entries in an inbox.
use Rattle.std.specs.Prelude.{◌≡◌, ◌⊎◌, ℕ, ◌+◌, ◌<◌, nat_lt, ◌==◌, Bool, true, ◌||◌, ◌&&◌, List, [], ◌∷◌, ◌++◌, length}
use Rattle.std.specs.Prelude.{slice_get, Some}
use Rattle.bale_items.specs.declared.item.Entry.{Entry}
use Rattle.bale_items.specs.declared.item.Tag.{Tag}
use Rattle.bale_items.specs.Counters.{RoseOrFull}
use Rattle.item_buffer.specs.Contents.{Shipped}
use Rattle.route_tensor.specs.Ends.{hop_at, sender_at, reader_at}
use Rattle.route_tensor.specs.Link.{links, links_before}
use Rattle.route_tensor.specs.Tag.{digit}
use Rattle.route_tensor.specs.Neighbour.{link_to}
use Rattle.port_bank.specs.Calls.{Call, sweep_calls}
use Rattle.port_bank.specs.Calls.Call.{Post, Collect}
use Rattle.port_bank.specs.Logs.{Logs}
use Rattle.hop_core.specs.Link.{is_due, is_wanted}
use Rattle.hop_core.specs.State.{State, at_end}
use Rattle.convey.specs.Buffers.{out_of, in_of}

-- A link out is due if its open parcel is full, or isn't empty on a steady conveyor, or if
-- its hop has reached its end and it isn't closed.
abbrev pub IsDue : State → ℕ → Type 0
IsDue st l = is_due st.cap st.steady (at_end st.dims st.ins st.done (hop_at st.dims l)) (out_of st l) ≡ true

-- What became of a link out that was served if it was due: if it still is, the port looked in
-- vain for room.
pub record WasServed (st : State) (l : ℕ) (looks looks' : ℕ) (is_crowded : Bool) : Type 0 where
  pub looked : IsDue st l → RoseOrFull looks looks'
  pub crowded : IsDue st l → is_crowded ≡ true

-- A link in wants a parcel if its inbox is empty and it hasn't ended.
abbrev pub WantsParcel : State → ℕ → Type 0
WantsParcel st l = is_wanted (in_of st l) ≡ true

-- Whether a link out was served: a parcel went there, or the link is due still.
abbrev pub was_served : State → ℕ → List Shipped → List Shipped → Bool
was_served st l log log' =
    nat_lt (length log) (length log')
    || is_due st.cap st.steady (at_end st.dims st.ins st.done (hop_at st.dims l)) (out_of st l)

-- The collects of an advance, by the state before it: one on each link in that wants a parcel, in
-- ascending order.
-- On the grid 2 rank 0 collects from link 0, and then from link 2.
abbrev pub collects_of : State → List Call
collects_of st = sweep_calls (λ l. (reader_at st.dims l == st.rank) && is_wanted (in_of st l)) Collect (links st.dims)

-- The posts of an advance on the links below m, by the state after it: one on each link out that
-- was served, in ascending order.
abbrev pub posts_below : State → Logs → Logs → ℕ → List Call
posts_below st sent sent' m =
    sweep_calls (λ l. (sender_at st.dims l == st.rank) && was_served st l (sent l) (sent' l)) Post m

-- If an advance without memory stopped: at a link out that is due, after the posts on the links
-- below it.
pub record StopsAt (st : State) (sent sent' : Logs) (before calls : List Call) : Type 0 where
  pub link : ℕ
  pub below : link < links st.dims
  pub starts_here : sender_at st.dims link ≡ st.rank
  pub due : IsDue st link
  pub calls_are : calls ≡ before ++ posts_below st sent sent' link

-- The epoch is over for a rank: it is done, each link is closed or has ended, and nothing is
-- unread.
pub record IsOver (st : State) : Type 0 where
  pub done : st.done ≡ true
  pub closed : (l : ℕ) → l < links st.dims → sender_at st.dims l ≡ st.rank → (out_of st l).closed ≡ true
  pub ended : (l : ℕ) → l < links st.dims → reader_at st.dims l ≡ st.rank → (in_of st l).ended ≡ true
  pub read : (l : ℕ) → l < links st.dims → reader_at st.dims l ≡ st.rank → (in_of st l).parcel.untaken ≡ []

-- The link on which an entry leaves a rank that came to it on hop h: of its links out on hop h + 1
-- the one to the neighbour with the coordinate that is in the tag.
-- In the grid 2x2x2 an entry with the tag (0,1,1) that came on hop 1 leaves rank 0 on link 17, for
-- rank 2.
abbrev pub next_link : List ℕ → ℕ → ℕ → Tag → ℕ
next_link dims rank h tag = link_to dims rank (links_before dims (h + 1) + digit tag (h + 1))

-- P holds of the next link of an entry that came on link l, which is one of the rank's links out on
-- the hop after.
pub record NextIs (dims : List ℕ) (rank l : ℕ) (tag : Tag) (P : ℕ → Type 0) : Type 0 where
  pub below : next_link dims rank (hop_at dims l) tag < links dims
  pub sender : sender_at dims (next_link dims rank (hop_at dims l) tag) ≡ rank
  pub hop : hop_at dims (next_link dims rank (hop_at dims l) tag) ≡ hop_at dims l + 1
  pub holds : P (next_link dims rank (hop_at dims l) tag)

-- What is left in the inbox of a link in can't be passed on: the open parcel of its first entry's
-- next link is full.
abbrev pub IsBlocked : State → ℕ → Type 0
IsBlocked st l = (e : Entry) → slice_get (in_of st l).parcel.untaken 0 ≡ Some e
    → NextIs st.dims st.rank l e.tag (λ m. length (out_of st m).parcel.untaken ≡ st.cap)

-- One parcel of cap entries was sent on a link: its log has that one more.
pub record SentFull (cap : ℕ) (log log' : List Shipped) : Type 0 where
  pub parcel : Shipped
  pub is : log' ≡ log ++ parcel ∷ []
  pub full : length parcel.entries ≡ cap

-- The open parcel of link m was full when the relay came to it: it holds cap entries still, or a
-- parcel of cap entries was sent there.
abbrev pub WasFull : ℕ → State → Logs → Logs → ℕ → Type 0
WasFull cap st sent sent' m = (length (out_of st m).parcel.untaken ≡ cap) ⊎ SentFull cap (sent m) (sent' m)

-- Why an advance that had memory left an entry in an inbox: the open parcel of its next link m was
-- full.
-- crowded: if nothing was sent there, the link is crowded.
-- At capacity 2 and with [x, y] waiting for link m, z is left; with [x] waiting, z is passed on
-- after it.
pub record IsHeldUpAt (cap : ℕ) (st : State) (sent sent' : Logs) (is_crowded : ℕ → Bool) (m : ℕ) : Type 0 where
  pub full : WasFull cap st sent sent' m
  pub crowded : sent' m ≡ sent m → is_crowded m ≡ true
