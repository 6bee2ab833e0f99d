-- Pulls of one inbox, one after the other.
use Rattle.std.proofs.Common.{ℕ, zero, suc, ◌≡◌, ◌<◌, ◌≤◌, length, slice_get, Option, Some, None, arith, refl, ap, ◌∙◌}
use Rattle.std.proofs.lemmas.Option.{slice_get_within}
use Rattle.bale_items.specs.declared.item.Entry.{Entry}
use Rattle.route_tensor.specs.Neighbour.{neighbour}
use Rattle.route_tensor.specs.Tag.{sender_of}
use Rattle.hop_core.specs.State.{State, in_at, lowest_unread, pulled_from, pulls, phase_of}
use Rattle.hop_core.specs.Standing.{IsState}
use Rattle.hop_core.proofs.Batches.{pulls_give, pulls_state}
use Rattle.convey.specs.Conveyors.{IsConveyor, KeepsAgreement, GivesNext}
use Rattle.convey.proofs.Pulls.{pulled_kept, pulled_item, pulled_sender, pulled_conveyor}

-- without the right to unpull
pub calm_conveyor : (hops : ℕ) (st : State) → IsConveyor hops st → IsConveyor hops (record st { pulled = None })
unfolding phase_of
calm_conveyor hops st k = record { hops_all = k.hops_all; sent = k.sent; complete = k.complete; none_back = λ e. refl }

pulled_same : (st : State) (o : Option ℕ) → pulled_from st o ≡ record st { ins = (pulled_from st o).ins; pulled = (pulled_from st o).pulled }
pulled_same st None = refl
pulled_same st (Some i) = refl

module _ (st : State) (i : ℕ) (s : IsState st) (low : lowest_unread st ≡ Some i) where
  pub gives_next : (n : ℕ) (e : Entry) → slice_get (in_at st i).parcel.untaken n ≡ Some e
      → GivesNext (pulls n st) (sender_of st.dims e.tag (length st.dims) (neighbour st.dims st.rank i)) e.item
  gives_next n e h =
      let within : n < length (in_at st i).parcel.untaken = slice_get_within (in_at st i).parcel.untaken n e h in
      let k : IsState (pulls n st) = pulls_state st i s low n (omega (arith, within)) in
      let value = pulls_give st i s low n e h in
      record {
        value = value;
        sender = pulled_sender (pulls n st) (lowest_unread (pulls n st)) k refl _ value;
        step = λ sent got a. pulled_item (pulls n st) (lowest_unread (pulls n st)) k refl _ value sent got a;
        kept = λ sent got a. pulled_kept (pulls n st) (lowest_unread (pulls n st)) k refl sent got a;
      }

  pub pulls_conveyor : (hops : ℕ) → IsConveyor hops st → (n : ℕ) → n ≤ length (in_at st i).parcel.untaken → IsConveyor hops (pulls n st)
  pulls_conveyor hops c zero h = c
  pulls_conveyor hops c (suc n) h =
      pulled_conveyor hops (pulls n st) (lowest_unread (pulls n st)) (pulls_state st i s low n (omega (arith, h))) (pulls_conveyor hops c n (omega (arith, h))) refl

  pub pulls_kept : (n : ℕ) → n ≤ length (in_at st i).parcel.untaken → KeepsAgreement st (pulls n st)
  pulls_kept zero h sent got a = a
  pulls_kept (suc n) h sent got a =
      pulled_kept (pulls n st) (lowest_unread (pulls n st)) (pulls_state st i s low n (omega (arith, h))) refl sent got (pulls_kept n (omega (arith, h)) sent got a)

  -- no more than inboxes changes
  pub pulls_same : (n : ℕ) → pulls n st ≡ record st { ins = (pulls n st).ins; pulled = (pulls n st).pulled }
  pulls_same zero = refl
  pulls_same (suc n) = pulled_same (pulls n st) (lowest_unread (pulls n st)) ∙ ap (λ (t : State). record t { ins = (pulls (suc n) st).ins; pulled = (pulls (suc n) st).pulled }) (pulls_same n)
