-- A conveyor and its port in the midst of an advance.
use Rattle.std.specs.Prelude.{◌≡◌, ◌≢◌, ◌⊎◌, ℕ, ◌+◌, ◌<◌, ◌≤◌, Bool, true, false, List, [], ◌∷◌, ◌++◌, length, slice_get}
use Rattle.std.specs.Prelude.{Some, None}
use Rattle.std.specs.List.{flat_map}
use Rattle.bale_items.specs.declared.item.Entry.{Entry}
use Rattle.bale_items.specs.Counters.{RoseOrFull}
use Rattle.route_tensor.specs.Link.{links}
use Rattle.route_tensor.specs.Ends.{hop_at, sender_at, reader_at}
use Rattle.port_bank.specs.Port.{PortView, is_crowded, is_idle}
use Rattle.port_bank.specs.Frames.{SamePort, SameIns, SameOuts}
use Rattle.port_bank.specs.Logs.{Logs}
use Rattle.list_laws.specs.Lists.{IsPrefix, Ends}
use Rattle.port_bank.specs.Shapes.{IsConveyorShape}
use Rattle.item_buffer.specs.Contents.{Shipped}
use Rattle.port_bank.specs.Machine.{Part}
use Rattle.hop_core.specs.declared.phase.Phase.TheVariants.{Dormant, Complete}
use Rattle.hop_core.specs.Standing.{IsState}
use Rattle.hop_core.specs.State.{State}
use Rattle.convey.specs.Buffers.{out_of, in_of, buffers_of, is_complete}
use Rattle.convey.specs.Agreement.{Agrees}
use Rattle.convey.specs.Parts.{part_of}
use Rattle.convey.specs.Conveyors.{IsConveyor}
use Rattle.convey.specs.Due.{WantsParcel, IsOver, WasServed, NextIs, IsHeldUpAt, WasFull, StopsAt, collects_of, posts_below}

-- A state whose buffers agree with the lists of its port.
pub record IsReady (dims : List ℕ) (rank : ℕ) (st : State) (sent got : Logs) : Type 0 where
  pub same_dims : st.dims ≡ dims
  pub same_rank : st.rank ≡ rank
  pub agrees : Agrees (buffers_of st) sent got

-- A part without its latest step.
abbrev pub without_latest : Part → Part
without_latest p = record p { latest = None }

-- What each step of an advance keeps: the rank's part of the machine, and its lists, to which it
-- may append.
-- fills: each parcel that it posts is filled as a conveyor fills it.
pub record GoesOn (old new : State) (sent sent' got got' : Logs) : Type 0 where
  pub cap : new.cap ≡ old.cap
  pub steady : new.steady ≡ old.steady
  pub epoch : new.epoch ≡ old.epoch
  pub done : new.done ≡ old.done
  pub phase : new.phase ≡ old.phase
  pub part : without_latest (part_of (buffers_of new) sent' got') ≡ without_latest (part_of (buffers_of old) sent got)
  pub sent_grows : (l : ℕ) → IsPrefix (sent l) (sent' l)
  pub got_grows : (l : ℕ) → IsPrefix (got l) (got' l)
  pub fills : (l : ℕ) (more : List Shipped) → sent' l ≡ sent l ++ more → IsConveyorShape old.steady old.cap more

-- What posts on links out leave of the rank's state and of its port.
-- idle: what the port knows of a link in changes only if a parcel was posted on it, from the
-- rank to itself.
pub record LeftByPosts (old new : State)
    (port port' : PortView) : Type 0 where
  pub ready : IsReady port.dims port.rank new port'.sent port'.got
  pub goes_on : GoesOn old new port.sent port'.sent port.got port'.got
  pub ins : new.ins ≡ old.ins
  pub idle : (l : ℕ) → port'.sent l ≡ port.sent l → is_idle port' l ≡ is_idle port l
  pub same_ins : SameIns port port'
  pub same_port : SamePort port port'

-- What collects on links in leave of them.
pub record LeftByCollects (old new : State)
    (port port' : PortView) : Type 0 where
  pub ready : IsReady port.dims port.rank new port'.sent port'.got
  pub goes_on : GoesOn old new port.sent port'.sent port.got port'.got
  pub outs : new.outs ≡ old.outs
  pub same_outs : SameOuts port port'
  pub same_port : SamePort port port'

-- What became of a link in that was asked if it wanted a parcel.
-- left: if it didn't want one, nothing was got, and it wasn't asked.
-- rose, idle: if it did, and nothing was got, the port has listened since it was asked before,
-- and knows of nothing more.
-- once: no more than one parcel was got.
pub record WasAsked (st : State) (l : ℕ) (log log' : List Shipped) (noted noted' : ℕ) (is_idle : Bool) : Type 0 where
  pub left : (WantsParcel st l → ⊥) → log' ≡ log
  pub unasked : (WantsParcel st l → ⊥) → noted' ≡ noted
  pub rose : WantsParcel st l → log' ≡ log → RoseOrFull noted noted'
  pub idle : WantsParcel st l → log' ≡ log → is_idle ≡ true
  pub once : length log' ≤ length log + 1

-- One parcel more is in a link's log, of these entries.
pub record HasOneMoreParcel (entries : List Entry) (log log' : List Shipped) : Type 0 where
  pub parcel : Shipped
  pub is : log' ≡ log ++ parcel ∷ []
  pub holds : parcel.entries ≡ entries

-- A link's log after posting, if these entries waited: it is as before, or has one parcel more, of
-- these entries.
abbrev pub WasPosted : List Entry → List Shipped → List Shipped → Type 0
WasPosted entries log log' = (log' ≡ log) ⊎ HasOneMoreParcel entries log log'

-- What a relay does, over the lists of a port: entries only move from an inbox to the end of an
-- open parcel.
pub record PassedOn (dims : List ℕ) (rank : ℕ) (old new : State) (sent got : Logs) : Type 0 where
  pub ready : IsReady dims rank new sent got
  pub goes_on : GoesOn old new sent sent got got
  pub waits : (l : ℕ) → IsPrefix (out_of old l).parcel.untaken (out_of new l).parcel.untaken
  pub closes : (l : ℕ) → (out_of new l).closed ≡ (out_of old l).closed
  pub ends : (l : ℕ) → (in_of new l).ended ≡ (in_of old l).ended
  pub lies : (l : ℕ) → Ends (in_of old l).parcel.untaken (in_of new l).parcel.untaken

-- What noting done, collecting, relaying and posting leave together.
-- left, unasked: a link in that wanted no parcel was not asked.
-- asked, idle: of one that wanted a parcel and got none, the port has listened since it was asked
-- before, and knows of nothing more, but for what was posted there.
-- lies: the inbox holds the end of what it held and of what came.
-- waits: if nothing was sent, the open parcel begins with what it held.
-- one_sent, one_got: each log has at most one parcel more.
-- not_at_once: the call that says that the rank is done doesn't complete it.
pub record MovesOn (old new : State) (done : Bool) (sent sent' got got' : Logs) (noted noted' : ℕ → ℕ)
    (is_idle : ℕ → Bool) : Type 0 where
  pub goes_on : GoesOn (record old { done = done; pulled = None }) new sent sent' got got'
  pub left : (l : ℕ) → l < links old.dims → reader_at old.dims l ≡ old.rank → (WantsParcel old l → ⊥) → got' l ≡ got l
  pub unasked : (l : ℕ) → l < links old.dims → reader_at old.dims l ≡ old.rank → (WantsParcel old l → ⊥) → noted' l ≡ noted l
  pub asked : (l : ℕ) → l < links old.dims → reader_at old.dims l ≡ old.rank → WantsParcel old l → got' l ≡ got l
      → RoseOrFull (noted l) (noted' l)
  pub idle : (l : ℕ) → l < links old.dims → reader_at old.dims l ≡ old.rank → WantsParcel old l → got' l ≡ got l
      → sent' l ≡ sent l → is_idle l ≡ true
  pub lies : (l : ℕ) (more : List Shipped) → l < links old.dims → reader_at old.dims l ≡ old.rank
      → got' l ≡ got l ++ more
      → Ends ((in_of old l).parcel.untaken ++ flat_map (λ p. p.entries) more) (in_of new l).parcel.untaken
  pub waits : (l : ℕ) → l < links old.dims → sender_at old.dims l ≡ old.rank → sent' l ≡ sent l
      → IsPrefix (out_of old l).parcel.untaken (out_of new l).parcel.untaken
  pub one_sent : (l : ℕ) → l < links old.dims → sender_at old.dims l ≡ old.rank → length (sent' l) ≤ length (sent l) + 1
  pub one_got : (l : ℕ) → l < links old.dims → reader_at old.dims l ≡ old.rank → length (got' l) ≤ length (got l) + 1
  pub not_at_once : old.done ≡ false → IsOver new → ⊥

-- What they leave if all posts had memory.
-- served: a link out that is still due was looked at without success.
-- full: so was one on which nothing was sent though its parcel was full.
-- stopped: where entries are left in an inbox of an earlier hop, the first one is held up at its
-- next link.
pub record HasServed (old new : State) (sent sent' : Logs) (looks looks' : ℕ → ℕ) (is_crowded : ℕ → Bool) : Type 0 where
  pub served : (l : ℕ) → l < links old.dims → sender_at old.dims l ≡ old.rank
      → WasServed new l (looks l) (looks' l) (is_crowded l)
  pub full : (l : ℕ) → l < links old.dims → sender_at old.dims l ≡ old.rank → sent' l ≡ sent l
      → length (out_of old l).parcel.untaken ≡ old.cap → is_crowded l ≡ true
  pub stopped : (l : ℕ) (e : Entry) → l < links old.dims → reader_at old.dims l ≡ old.rank
      → hop_at old.dims l < length old.dims → slice_get (in_of new l).parcel.untaken 0 ≡ Some e
      → NextIs old.dims old.rank l e.tag (IsHeldUpAt old.cap new sent sent' is_crowded)

-- A rank of so many hops may move its exchange on at a port; the caller says whether it is done.
pub record MayMoveOn (hops : ℕ) (told : Bool) (st : State) (port : PortView) : Type 0 where
  pub conveyor : IsConveyor hops st
  pub begun : st.phase ≢ Dormant
  pub done_stays : st.done ≡ true → told ≡ true
  pub ready : IsReady port.dims port.rank st port.sent port.got

-- What it does to the rank and to the port, whatever it answers.
-- held: an entry is left in an inbox below the last hop only if the open parcel that it goes to
-- was full.
-- complete: a rank that is complete has nothing left to move.
pub record MovesAtPort (hops cap : ℕ) (told : Bool) (old new : State) (port port' : PortView) : Type 0 where
  pub conveyor : IsConveyor hops new
  pub ready : IsReady port.dims port.rank new port'.sent port'.got
  pub moves_on : MovesOn old new told port.sent port'.sent port.got port'.got port.noted port'.noted (is_idle port')
  pub held : (l : ℕ) (e : Entry) → l < links old.dims → reader_at old.dims l ≡ old.rank
      → hop_at old.dims l < length old.dims → slice_get (in_of new l).parcel.untaken 0 ≡ Some e
      → NextIs old.dims old.rank l e.tag (WasFull old.cap new port.sent port'.sent)
  pub complete : old.phase ≡ Complete → new ≡ old
  pub cap_is : old.cap ≡ cap
  pub standing : IsState old
  pub same_port : SamePort port port'

-- And if it had memory: what the posts answered, and which calls were made on the port.
pub record MovesInFull (old new : State) (port port' : PortView) : Type 0 where
  pub served : HasServed old new port.sent port'.sent port.looks_out port'.looks_out (is_crowded port')
  pub calls : port'.calls ≡ (port.calls ++ collects_of old) ++ posts_below new port.sent port'.sent (links new.dims)

-- And if a post had none: the rank isn't complete, and the calls end at that post.
pub record MoveStops (old new : State) (port port' : PortView) : Type 0 where
  pub incomplete : is_complete old.phase ≡ false
  pub forgotten : new.pulled ≡ None
  pub at : StopsAt new port.sent port'.sent (port.calls ++ collects_of old) port'.calls
