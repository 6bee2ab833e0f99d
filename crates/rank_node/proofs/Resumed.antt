-- A rank's mover goes on to the next epoch.
use Rattle.std.proofs.Common.{◌≡◌, ◌≢◌, ℕ, ◌+◌, ◌<◌, false, List, [], ◌∷◌, length, None, map, refl, ap, subst, ◌∙◌}
use Rattle.std.proofs.Math.ListN.{get_or-map}
use Rattle.route_tensor.specs.Link.{links}
use Rattle.route_tensor.specs.Ends.{hop_at, reader_at}
use Rattle.route_tensor.specs.Neighbour.{in_index}
use Rattle.port_bank.specs.Logs.{Logs}
use Rattle.port_bank.specs.Machine.{Part, IsOwnStep, after}
use Rattle.port_bank.specs.Machine.Step.{Reset, Idle}
use Rattle.hop_core.specs.declared.phase.Phase.{Phase}
use Rattle.hop_core.specs.declared.phase.Phase.TheVariants.{Dormant, Working}
use Rattle.hop_core.specs.Link.{no_in}
use Rattle.hop_core.specs.State.{State, out_in_new_epoch, in_in_new_epoch}
use Rattle.convey.specs.Buffers.{buffers_of, in_of}
use Rattle.convey.specs.Conveyors.{KeepsAgreement, IsStepOf}
use Rattle.convey.specs.Law.{IsSound}
use Rattle.exstack.specs.State.{Stack}
use Rattle.exstack.specs.State.{after_reset}
use Rattle.exstack.specs.Agreement.{AgreesIn}
use Rattle.exstack.specs.Parts as exstacks
use Rattle.exstack.specs.Standing.{IsStack}
use Rattle.rank_node.specs.Movers.{GoesToNextEpoch}
use Rattle.rank_node.specs.Movers.MoverState.{Conveying, Stacking}
use Rattle.rank_node.specs.Movers.Manner.{ByConveyor}

not_dormant : (p : Phase) → p ≡ Working → p ≢ Dormant
not_dormant p w d = absurd (cc)

-- a reset, and then a step that changes nothing
reset_idle : (a b c : Part) → IsOwnStep Reset a b → IsOwnStep Idle b c → IsOwnStep Reset a c
reset_idle a b c x y = record { may = x.may; is = y.is ∙ ap (after Idle) x.is }

pub goes_on_conveying : (c d e : State) → d ≡ record c { outs = map out_in_new_epoch c.outs; ins = map in_in_new_epoch c.ins; done = false; phase = Dormant; epoch = c.epoch + 1; pulled = None } → e ≡ record d { phase = Working; pulled = None }
    → KeepsAgreement c d → KeepsAgreement d e → IsStepOf Reset c d → IsStepOf Idle d e → IsSound (buffers_of e) → GoesToNextEpoch (Conveying c) (Conveying e)
goes_on_conveying c d e was now kept1 kept2 step1 step2 sound =
    let new : e ≡ record c { outs = map out_in_new_epoch c.outs; ins = map in_in_new_epoch c.ins; done = false; phase = Working; epoch = c.epoch + 1; pulled = None } = now ∙ ap (λ (t : State). record t { phase = Working; pulled = None }) was in
    let phase : e.phase ≡ Working = ap (λ (t : State). t.phase) new in
    let dims : e.dims ≡ c.dims = ap (λ (t : State). t.dims) new in
    let rank : e.rank ≡ c.rank = ap (λ (t : State). t.rank) new in
    let unread : (l : ℕ) → (in_of e l).parcel.untaken ≡ (in_of c l).parcel.untaken =
    λ l. ap (λ (t : State). (in_of t l).parcel.untaken) new ∙ ap (λ x. x.parcel.untaken) (get_or-map in_in_new_epoch c.ins (in_index c.dims l) no_in) in
    record {
      same_dims = dims;
      same_rank = rank;
      same_manner = ap (λ (t : State). ByConveyor t.steady) new;
      next = ap (λ (t : State). t.epoch) new;
      moving = λ sent got is. record {
        begun = not_dormant e.phase phase;
        working = λ n. phase;
        sound = sound;
        agrees = kept2 sent got (kept1 sent got is.agrees);
        read = λ l low to hop. unread l ∙ is.read l (subst (λ (ds : List ℕ). l < links ds) dims low) (subst (λ (ds : List ℕ). reader_at ds l ≡ c.rank) dims (to ∙ rank)) (subst (λ (ds : List ℕ). hop_at ds l ≡ length ds) dims hop);
      };
      starts = tt;
      step = λ sent got is. reset_idle _ _ _ (step1 sent got is.agrees) (step2 sent got (kept1 sent got is.agrees));
      unread = unread;
    }

pub goes_on_stacking : (cap : ℕ) (x y : Stack) → y ≡ after_reset x → ((n : ℕ) (sent got : Logs) → AgreesIn n x sent got → AgreesIn 0 y sent got) → exstacks.IsStackStep Reset x y → IsStack cap y → GoesToNextEpoch (Stacking cap x) (Stacking cap y)
goes_on_stacking cap x y new kept step standing =
    record {
      same_dims = ap (λ (t : Stack). t.ranks ∷ []) new;
      same_rank = ap (λ (t : Stack). t.rank) new;
      same_manner = refl;
      next = ap (λ (t : Stack). t.epoch) new;
      moving = λ sent got is. record { stack = standing; agrees = record { cycle = 0; agrees = kept is.agrees.cycle sent got is.agrees.agrees } };
      starts = ap (λ (t : Stack). t.stage) new;
      step = λ sent got is. step is.agrees.cycle sent got is.agrees.agrees;
      unread = tt;
    }
