-- One rank's buffers, marks and phase, and what follows from them.
use Rattle.std.specs.Prelude.{ℕ, zero, suc, Bool, false, ◌-◌, ◌==◌, not, if◌then◌else◌, List, [], ◌∷◌, length, take}
use Rattle.std.specs.Prelude.{drop, slice_get, slice_set, slice_index_or, Option, Some, None}
use Rattle.std.specs.List.{list_all}
use Rattle.std.specs.Option.{option_map}
use Rattle.bale_items.specs.declared.item.Item.{Item}
use Rattle.route_tensor.specs.Grid.{dim, coord}
use Rattle.route_tensor.specs.Link.{links_before}
use Rattle.route_tensor.specs.Neighbour.{neighbour}
use Rattle.route_tensor.specs.Tag.{sender_of, tag_at}
use Rattle.hop_core.specs.declared.phase.Phase.{Phase}
use Rattle.hop_core.specs.declared.phase.Phase.TheVariants.{Working, Endgame, Cleanup, Complete}
use Rattle.hop_core.specs.Lent.{Lent}
use Rattle.hop_core.specs.Link.{Out, In, no_out, no_in, is_empty, is_finished, with_entry, with_first_taken, with_back}

-- The state of one rank. The links out and in stand by the number of the neighbour at the other
-- end.
-- Example: on the grid 2, rank 0 has two links out and two links in, number 0 of itself and number
-- 1 of rank 1.
pub record State : Type 0 where
  pub dims : List ℕ
  pub rank : ℕ
  pub cap : ℕ
  pub steady : Bool
  pub outs : List Out
  pub ins : List In
  pub done : Bool
  pub phase : Phase
  pub epoch : ℕ
  pub lent : Lent
  pub pulled : Option ℕ

abbrev pub out_at : State → ℕ → Out
out_at st i = slice_index_or st.outs i no_out

abbrev pub in_at : State → ℕ → In
in_at st i = slice_index_or st.ins i no_in

abbrev pub with_out : State → ℕ → Out → State
with_out st i o = record st { outs = slice_set st.outs i o }

abbrev pub with_in : State → ℕ → In → State
with_in st i x = record st { ins = slice_set st.ins i x }

-- The links in of hop h.
-- In the grid 2x3x5 those of hop 2 are the links in number 2, 3 and 4.
abbrev pub ins_of_hop : List ℕ → List In → ℕ → List In
ins_of_hop dims ins h = take (dim dims h) (drop (links_before dims h) ins)

-- Whether a hop has reached its end: hop 1 once done was set, hop h+1 once all links in of hop h
-- have ended and all their entries were passed on.
unfoldable pub at_end : List ℕ → List In → Bool → ℕ → Bool
at_end dims ins done h = if h == 1 then done else list_all is_finished (ins_of_hop dims ins (h - 1))

-- Whether all links out are closed; whether the last hop has nothing left to come, nor to be read.
abbrev pub all_closed : List Out → Bool
all_closed outs = list_all (λ o. o.closed) outs

abbrev pub all_read : State → Bool
all_read st = list_all is_finished (ins_of_hop st.dims st.ins (length st.dims))

-- The phase of an epoch that has begun: Working until done is set, Endgame until every link out is
-- closed, Cleanup until every link in of the last hop has ended and every item is read, then
-- Complete.
unfoldable pub phase_of : State → Phase
phase_of st =
    if not st.done then Working
    else if not (all_closed st.outs) then Endgame
    else if not (all_read st) then Cleanup
    else Complete

-- The lowest of some links in, counted from i, whose inbox has an entry.
-- lowest 4 of the inboxes [], [x], [y] is 5.
unfoldable pub lowest : ℕ → List In → Option ℕ
lowest i [] = None
lowest i (x ∷ xs) = if is_empty x.parcel then lowest (suc i) xs else Some i

-- The lowest link in of the last hop that has an unread item.
abbrev pub lowest_unread : State → Option ℕ
lowest_unread st = lowest (links_before st.dims (length st.dims)) (ins_of_hop st.dims st.ins (length st.dims))

-- The first unread item of link in number i of the last hop, with its sender.
abbrev pub first_item : State → ℕ → Option (ℕ × Item)
first_item st i =
    option_map (λ e. (sender_of st.dims e.tag (length st.dims) (neighbour st.dims st.rank i), e.item))
    (slice_get (in_at st i).parcel.untaken 0)

-- What a pull gives, and what it leaves.
abbrev pub pull_from : State → Option ℕ → Option (ℕ × Item)
pull_from st None = None
pull_from st (Some i) = first_item st i

abbrev pub pulled_from : State → Option ℕ → State
pulled_from st None = record st { pulled = None }
pulled_from st (Some i) =
    record st {
      ins = slice_set st.ins i (record (in_at st i) { parcel = with_first_taken (in_at st i).parcel });
      pulled = Some i;
    }

-- What n pulls leave, one after the other.
-- Of the inboxes [], [x, y], [z] two leave [z], and three nothing.
abbrev pub pulls : ℕ → State → State
pulls zero st = st
pulls (suc n) st = pulled_from (pulls n st) (lowest_unread (pulls n st))

-- The state after an unpull: the item pulled last is the first one of its inbox again.
abbrev pub after_unpull : State → Option ℕ → State
after_unpull st None = st
after_unpull st (Some i) =
    record st {
      ins = slice_set st.ins i (record
          (in_at st i) { parcel = with_back (in_at st i).parcel.back (in_at st i).parcel });
      pulled = None;
    }

-- The state after a push: the item, with its first tag, is the last entry of the open parcel toward
-- the rank's first stop.
-- On the grid 2 rank 0's item for rank 1 is at the end of open parcel number 1.
abbrev pub with_pushed : Item → ℕ → State → State
with_pushed item to st =
    let o = coord st.dims to 1 in
    record st {
      outs = slice_set st.outs o
          (record (out_at st o)
          { parcel = with_entry (out_at st o).parcel (record { tag = tag_at st.dims st.rank to 1; item = item }) });
      pulled = None;
    }

-- A new epoch: no link closed or ended.
abbrev pub out_in_new_epoch : Out → Out
out_in_new_epoch o = record o { closed = false }

abbrev pub in_in_new_epoch : In → In
in_in_new_epoch i = record i { ended = false }
