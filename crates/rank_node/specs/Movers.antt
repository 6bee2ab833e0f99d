-- A rank's transport, conveyor or exstack.
use Rattle.std.specs.Prelude.{◌≡◌, ◌≢◌, ℕ, ◌+◌, ◌<◌, ⊤, Bool, false, [], length, List}
use Rattle.item_buffer.specs.Contents.{Shipped}
use Rattle.route_tensor.specs.Link.{links}
use Rattle.route_tensor.specs.Ends.{hop_at, reader_at}
use Rattle.port_bank.specs.Logs.{Logs}
use Rattle.port_bank.specs.Machine.{Part, IsOwnStep}
use Rattle.port_bank.specs.Machine.Step.{Reset}
use Rattle.port_bank.specs.Shapes.{IsConveyorShape, IsExstackShape}
use Rattle.hop_core.specs.declared.phase.Phase.TheVariants.{Dormant, Working}
use Rattle.hop_core.specs.State.{State}
use Rattle.convey.specs.Buffers.{buffers_of, in_of, is_complete}
use Rattle.convey.specs.Conveyors as conveyors
use Rattle.convey.specs.Law.{IsSound}
use Rattle.convey.specs.Parts as conveyor_parts
use Rattle.exstack.specs.State.{stack_dims}
use Rattle.exstack.specs.State.{Stack, is_all_done}
use Rattle.exstack.specs.Standing.{IsStack}
use Rattle.exstack.specs.Agreement as exstacks
use Rattle.exstack.specs.Parts as exstack_parts
use Rattle.exstack.specs.declared.stage.Stage.TheVariants.{Start}
use Rattle.rank_node.specs.declared.mover.Mover.{Mover}
use Rattle.rank_node.specs.declared.mover.Mover.TheVariants as mover
use Rattle.rank_node.specs.declared.via.Via.{Via}
use Rattle.rank_node.specs.declared.via.Via.TheVariants.{Convey, Exstack}

-- A rank's conveyor, or its exstack with its capacity of a parcel.
pub data MoverState : Type 0 where
  Conveying : State → MoverState
  Stacking : ℕ → Stack → MoverState

abbrev pub mover_state : {cap hops : ℕ} → Mover cap hops → MoverState
mover_state {cap} (mover.Convey c) = Conveying c
mover_state {cap} (mover.Exstack x) = Stacking cap x

-- How parcels are filled: by conveyors, steady or not, or by exstacks.
pub data Manner : Type 0 where
  ByConveyor : Bool → Manner
  ByExstack : Manner

-- An exstack ignores `steady`.
abbrev pub manner_of : Via → Bool → Manner
manner_of Convey steady = ByConveyor steady
manner_of Exstack steady = ByExstack

-- The shape of a log that is filled in this manner.
abbrev pub IsLogShape : Manner → ℕ → List Shipped → Type 0
IsLogShape (ByConveyor steady) cap log = IsConveyorShape steady cap log
IsLogShape ByExstack cap log = IsExstackShape log

abbrev pub mover_dims : MoverState → List ℕ
mover_dims (Conveying c) = c.dims
mover_dims (Stacking cap x) = stack_dims x

abbrev pub mover_rank : MoverState → ℕ
mover_rank (Conveying c) = c.rank
mover_rank (Stacking cap x) = x.rank

abbrev pub epoch_in : MoverState → ℕ
epoch_in (Conveying c) = c.epoch
epoch_in (Stacking cap x) = x.epoch

abbrev pub manner_in : MoverState → Manner
manner_in (Conveying c) = ByConveyor c.steady
manner_in (Stacking cap x) = ByExstack

-- Whether the rank has completed its epoch.
abbrev pub has_completed : MoverState → Bool
has_completed (Conveying c) = is_complete c.phase
has_completed (Stacking cap x) = is_all_done x.stage

-- An exstack has this capacity.
abbrev pub HasCap : ℕ → MoverState → Type 0
HasCap cap (Conveying c) = ⊤
HasCap cap (Stacking k x) = k ≡ cap

-- How many entries are in a conveyor's inbox of a link.
abbrev pub lying : MoverState → ℕ → ℕ
lying (Conveying c) l = length (in_of c l).parcel.untaken
lying (Stacking cap x) l = 0

-- The rank's part of the exchange machine, over a port with these logs.
abbrev pub part_in : MoverState → Logs → Logs → Part
part_in (Conveying c) sent got = conveyor_parts.part_of (buffers_of c) sent got
part_in (Stacking cap x) sent got = exstack_parts.stack_part x sent got

-- Every item that came for the rank was pulled.
abbrev pub AllRead : State → Type 0
AllRead c = (l : ℕ) → l < links c.dims → reader_at c.dims l ≡ c.rank → hop_at c.dims l ≡ length c.dims
    → (in_of c l).parcel.untaken ≡ []

-- A conveyor between two turns, over a port with these logs.
pub record IsConveying (c : State) (sent got : Logs) : Type 0 where
  pub begun : c.phase ≢ Dormant
  pub working : c.done ≡ false → c.phase ≡ Working
  pub sound : IsSound (buffers_of c)
  pub agrees : conveyors.AgreesWith c sent got
  pub read : AllRead c

-- An exstack between two turns.
pub record IsStacking (cap : ℕ) (x : Stack) (sent got : Logs) : Type 0 where
  pub stack : IsStack cap x
  pub agrees : exstacks.StackAgrees x sent got

-- The same of either transport.
abbrev pub IsMoving : MoverState → Logs → Logs → Type 0
IsMoving (Conveying c) sent got = IsConveying c sent got
IsMoving (Stacking cap x) sent got = IsStacking cap x sent got

-- Nothing of an exstack's first round is in progress.
abbrev pub IsStarting : MoverState → Type 0
IsStarting (Conveying c) = ⊤
IsStarting (Stacking cap x) = x.stage ≡ Start

-- No inbox of a conveyor holds an entry; each holds the same entries as before.
abbrev pub NoneUnread : MoverState → Type 0
NoneUnread (Conveying c) = (l : ℕ) → (in_of c l).parcel.untaken ≡ []
NoneUnread (Stacking cap x) = ⊤

abbrev pub SameUnread : MoverState → MoverState → Type 0
SameUnread (Conveying c) (Conveying c') = (l : ℕ) → (in_of c' l).parcel.untaken ≡ (in_of c l).parcel.untaken
SameUnread (Conveying c) (Stacking cap x) = ⊥
SameUnread (Stacking cap x) (Conveying c) = ⊥
SameUnread (Stacking cap x) (Stacking cap' x') = ⊤

-- A rank's unused transport, which has begun its first epoch.
pub record IsNew (dims : List ℕ) (rank : ℕ) (manner : Manner) (m : MoverState) : Type 0 where
  pub same_dims : mover_dims m ≡ dims
  pub same_rank : mover_rank m ≡ rank
  pub same_manner : manner_in m ≡ manner
  pub first : epoch_in m ≡ 0
  pub moving : IsMoving m (λ l. []) (λ l. [])
  pub starts : IsStarting m
  pub not_done : (part_in m (λ l. []) (λ l. [])).done ≡ false
  pub none : (e d : ℕ)
      → ((part_in m (λ l. []) (λ l. [])).pushed e d ≡ []) × ((part_in m (λ l. []) (λ l. [])).pulled e d ≡ [])
  pub unread : NoneUnread m

-- The step of a transport to its next epoch.
pub record GoesToNextEpoch (m m' : MoverState) : Type 0 where
  pub same_dims : mover_dims m' ≡ mover_dims m
  pub same_rank : mover_rank m' ≡ mover_rank m
  pub same_manner : manner_in m' ≡ manner_in m
  pub next : epoch_in m' ≡ epoch_in m + 1
  pub moving : (sent got : Logs) → IsMoving m sent got → IsMoving m' sent got
  pub starts : IsStarting m'
  pub step : (sent got : Logs) → IsMoving m sent got → IsOwnStep Reset (part_in m sent got) (part_in m' sent got)
  pub unread : SameUnread m m'
