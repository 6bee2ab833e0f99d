-- What a push, a pull, an unpull and a reset leave of a rank's state.
use Rattle.std.proofs.Common.{◌≡◌, ◌≢◌, ℕ, zero, suc, ◌+◌, ◌<◌, false, List, [], ◌∷◌, length, map, slice_index_or, None, refl, sym, ap, subst, ◌∙◌, arith, inl, inr, zero-add}
use Rattle.std.proofs.lemmas.Bool.{cases_eq}
use Rattle.std.proofs.lemmas.List.{get_or-set_other, get_or-set_same}
use Rattle.bale_items.specs.declared.item.Entry.{Entry}
use Rattle.bale_items.specs.declared.item.Item.{Item}
use Rattle.route_tensor.specs.Grid.{ranks, coord}
use Rattle.route_tensor.specs.Link.{links}
use Rattle.route_tensor.specs.Ends.{sender_at}
use Rattle.route_tensor.specs.Neighbour.{out_index, in_index}
use Rattle.route_tensor.specs.Tag.{tag_at}
use Rattle.port_bank.specs.Logs.{Logs}
use Rattle.port_bank.specs.Flow.{hop_link}
use Rattle.hop_core.specs.Link.{Out, no_out, no_in, with_entry}
use Rattle.hop_core.specs.declared.phase.Phase.{Phase}
use Rattle.hop_core.specs.declared.phase.Phase.TheVariants.{Dormant, Complete}
use Rattle.hop_core.specs.State.{State, out_at, out_in_new_epoch, in_in_new_epoch, with_pushed}
use Rattle.hop_core.specs.Standing.{IsState}
use Rattle.port_bank.specs.Machine.{IsOwnStep}
use Rattle.port_bank.specs.Machine.Step.{Push, Reset, Idle}
use Rattle.convey.specs.Buffers.{Buffers, out_of, in_of, is_complete, buffers_of}
use Rattle.convey.specs.Agreement.{Agrees}
use Rattle.convey.specs.Parts.{part_of}
use Rattle.convey.proofs.Moves.{forget_agrees}
use Rattle.convey.proofs.Steps.{PushedOn, push_agrees, push_step, ResetTo, reset_agrees, reset_step}
use Rattle.convey.proofs.States.{in_number, out_number, out_apart, is_out}
use Rattle.convey.proofs.OneRank.{first_link}
use Rattle.convey.proofs.Relays.{out_way}
use Rattle.convey.specs.Due.{IsOver}

-- a push
entry_of : State → ℕ → Item → Entry
entry_of st to item = record { tag = tag_at st.dims st.rank to 1; item = item }

module _ (st : State) (to : ℕ) (item : Item) (s : IsState st) (below : to < ranks st.dims) where
  toward : ℕ
  toward = hop_link st.dims st.rank to 1

  index : out_index st.dims (hop_link st.dims st.rank to 1) ≡ coord st.dims to 1
  index = out_way st.dims st.rank to 1 s.grid s.rank below (omega arith) s.grid.some ∙ zero-add (coord st.dims to 1)

  within : coord st.dims to 1 < length st.outs
  within =
      let f = first_link st.dims st.rank to s.grid s.rank below in
      let n = out_number st.dims (hop_link st.dims st.rank to 1) s.grid f.below in
      subst (λ i. i < length st.outs) index (omega (arith, n.within, s.all_outs))

  push_here : out_of (with_pushed item to st) (hop_link st.dims st.rank to 1) ≡ record (out_of st (hop_link st.dims st.rank to 1)) { parcel = with_entry (out_of st (hop_link st.dims st.rank to 1)).parcel (record { tag = tag_at st.dims st.rank to 1; item = item }) }
  push_here =
      let put : Out → Out = λ o. record o { parcel = with_entry o.parcel (record { tag = tag_at st.dims st.rank to 1; item = item }) } in
      ap (λ i. slice_index_or (with_pushed item to st).outs i no_out) index
      ∙ (get_or-set_same st.outs (coord st.dims to 1) (put (out_at st (coord st.dims to 1))) no_out within
      ∙ ap (λ i. put (slice_index_or st.outs i no_out)) (sym index))

  push_other : (m : ℕ) → m < links st.dims → sender_at st.dims m ≡ st.rank → m ≢ hop_link st.dims st.rank to 1 → out_of (with_pushed item to st) m ≡ out_of st m
  push_other m h from ne =
      let f = first_link st.dims st.rank to s.grid s.rank below in
      let put : Out → Out = λ o. record o { parcel = with_entry o.parcel (record { tag = tag_at st.dims st.rank to 1; item = item }) } in
      get_or-set_other st.outs (coord st.dims to 1) (out_index st.dims m) (put (out_at st (coord st.dims to 1))) no_out
      (λ e. out_apart st.dims st.rank m (hop_link st.dims st.rank to 1) s.grid h f.below from f.sender ne (e ∙ sym index))

  same_closed : (l : ℕ) → (buffers_of (with_pushed item to st)).closed l ≡ (buffers_of st).closed l
  same_closed l =
      let put : Out → Out = λ o. record o { parcel = with_entry o.parcel (record { tag = tag_at st.dims st.rank to 1; item = item }) } in
      elim (cases_eq (out_index st.dims l) (coord st.dims to 1)) [
        | inl e ↦ ap (λ i. (slice_index_or (with_pushed item to st).outs i no_out).closed) e
            ∙ (ap (λ o. o.closed) (get_or-set_same st.outs (coord st.dims to 1) (put (out_at st (coord st.dims to 1))) no_out within) ∙ ap (λ i. (slice_index_or st.outs i no_out).closed) (sym e))
        | inr ne ↦ ap (λ o. o.closed) (get_or-set_other st.outs (coord st.dims to 1) (out_index st.dims l) (put (out_at st (coord st.dims to 1))) no_out ne)
      ]

  push_buffers : buffers_of (with_pushed item to st) ≡ record (buffers_of st) { waiting = (buffers_of (with_pushed item to st)).waiting; latest = None }
  push_buffers = λ i. record (buffers_of (with_pushed item to st)) { closed = λ l. same_closed l i }

  push_on : PushedOn (buffers_of st) (buffers_of (with_pushed item to st)).waiting to (record { tag = tag_at st.dims st.rank to 1; item = item })
  push_on = record { grown = ap (λ o. o.parcel.untaken) push_here; waits = λ m h from ne. ap (λ o. o.parcel.untaken) (push_other m h from ne); tag = refl }

  pub pushed_agrees : (sent got : Logs) → Agrees (buffers_of st) sent got → Agrees (buffers_of (with_pushed item to st)) sent got
  pushed_agrees sent got a = subst (λ b. Agrees b sent got) (sym push_buffers)
      (push_agrees (buffers_of st) (buffers_of (with_pushed item to st)).waiting sent got to (record { tag = tag_at st.dims st.rank to 1; item = item }) s.grid s.rank below a push_on)

  pub pushed_step : st.done ≡ false → (sent got : Logs) → Agrees (buffers_of st) sent got → IsOwnStep (Push to item) (part_of (buffers_of st) sent got) (part_of (buffers_of (with_pushed item to st)) sent got)
  pushed_step open' sent got a = subst (λ b. IsOwnStep (Push to item) (part_of (buffers_of st) sent got) (part_of b sent got)) (sym push_buffers)
      (push_step (buffers_of st) (buffers_of (with_pushed item to st)).waiting sent got to (record { tag = tag_at st.dims st.rank to 1; item = item }) s.grid s.rank below a push_on item refl open')

  pub standing_index : length (out_at st (coord st.dims to 1)).parcel.untaken ≡ length (out_of st (hop_link st.dims st.rank to 1)).parcel.untaken
  standing_index = ap (λ i. length (slice_index_or st.outs i no_out).parcel.untaken) (sym index)

-- nothing happens but that the right to unpull is gone
pub idle_agrees : (st : State) (sent got : Logs) → Agrees (buffers_of st) sent got → Agrees (buffers_of (record st { pulled = None })) sent got
idle_agrees st sent got a = forget_agrees (buffers_of st) sent got a

pub idle_step : (st : State) (sent got : Logs) → IsOwnStep Idle (part_of (buffers_of st) sent got) (part_of (buffers_of (record st { pulled = None })) sent got)
idle_step st sent got = record { may = tt; is = refl }

get_or_map : {X Y : Type 0} (f : X → Y) (xs : List X) (i : ℕ) (x : X) (y : Y) → i < length xs → slice_index_or (map f xs) i y ≡ f (slice_index_or xs i x)
get_or_map f [] i x y h = absurd (omega arith)
get_or_map f (z ∷ xs) zero x y h = refl
get_or_map f (z ∷ xs) (suc i) x y h = get_or_map f xs i x y (omega arith)

-- a reset
abbrev pub reset_state : State → Phase → State
reset_state st phase = record st { outs = map out_in_new_epoch st.outs; ins = map in_in_new_epoch st.ins; done = false; phase = phase; epoch = st.epoch + 1; pulled = None }

module _ (st : State) (s : IsState st) (over : IsOver st) where
  next : State
  next = reset_state st Dormant

  out_again : (l : ℕ) → l < links st.dims → out_of (reset_state st Dormant) l ≡ out_in_new_epoch (out_of st l)
  out_again l h = let n = out_number st.dims l s.grid h in get_or_map out_in_new_epoch st.outs (out_index st.dims l) no_out no_out (omega (arith, n.within, s.all_outs))

  in_again : (l : ℕ) → l < links st.dims → in_of (reset_state st Dormant) l ≡ in_in_new_epoch (in_of st l)
  in_again l h = let n = in_number st.dims l s.grid h in get_or_map in_in_new_epoch st.ins (in_index st.dims l) no_in no_in (omega (arith, n.within, s.all_ins))

  to : ResetTo (buffers_of st) (buffers_of (reset_state st Dormant)).waiting (buffers_of (reset_state st Dormant)).unread (buffers_of (reset_state st Dormant)).closed (buffers_of (reset_state st Dormant)).ended
  to = record {
    closed_all = over.closed;
    ended_all = over.ended;
    none_waits = λ l h from. (is_out st l s h).closed_empty (over.closed l h from);
    none_unread = over.read;
    open_again = λ l h from. ap (λ o. o.closed) (out_again l h);
    goes_on = λ l h to. ap (λ x. x.ended) (in_again l h);
    still_none = λ l h from. ap (λ o. o.parcel.untaken) (out_again l h) ∙ (is_out st l s h).closed_empty (over.closed l h from);
    still_read = λ l h to. ap (λ x. x.parcel.untaken) (in_again l h) ∙ over.read l h to;
  }

  pub resets_agree : (sent got : Logs) → Agrees (buffers_of st) sent got → Agrees (buffers_of (reset_state st Dormant)) sent got
  resets_agree sent got a = let n : Buffers = buffers_of (reset_state st Dormant) in reset_agrees (buffers_of st) n.waiting n.unread n.closed n.ended sent got s.grid s.rank a to

  pub resets_step : st.phase ≡ Complete → (sent got : Logs) → Agrees (buffers_of st) sent got → IsOwnStep Reset (part_of (buffers_of st) sent got) (part_of (buffers_of (reset_state st Dormant)) sent got)
  resets_step phase sent got a = let n : Buffers = buffers_of (reset_state st Dormant) in reset_step (buffers_of st) n.waiting n.unread n.closed n.ended sent got s.grid s.rank a to (ap is_complete phase)
