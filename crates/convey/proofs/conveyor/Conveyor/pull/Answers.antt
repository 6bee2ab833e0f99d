use Rattle.std.proofs.Common.{◌≡◌, ◌<◌, ℕ, Option, Some, None, IfSome, refl, sym, ap, subst, ◌∙◌}
use Rattle.bale_items.specs.declared.item.Item.{Item}
use Rattle.route_tensor.specs.Grid.{ranks}
use Rattle.hop_core.specs.State.{State, lowest_unread, pull_from, pulled_from}
use Rattle.hop_core.specs.Standing.{IsState}
use Rattle.port_bank.specs.Machine.{IsOwnStep}
use Rattle.port_bank.specs.Machine.Step.{Pull, Idle}
use Rattle.convey.specs.Buffers.{buffers_of}
use Rattle.convey.specs.Agreement.{Agrees}
use Rattle.convey.specs.Parts.{part_of}
use Rattle.convey.specs.Conveyors.{IsConveyor, IsStepOf}
use Rattle.convey.proofs.Pulls.{pulled_kept, pulled_item, pulled_sender, pulled_none, pulled_conveyor, none_unread}
use Rattle.convey.proofs.Pushes.{idle_step}
use Rattle.convey.proofs.conveyor.Conveyor.pull.Goals as goal

if_some : {T : Type 0} (r : Option T) (P : T → Type 0) → ((p : T) → r ≡ Some p → P p) → IfSome r P
if_some None P f = tt
if_some (Some x) P f = f x refl

pub invariant_of-self : goal.invariant_of-self
invariant_of-self g c =
    let now : State = c.args.self.now in
    let s : IsState now = subst IsState c.self.view_is c.known.ensures.standing in
    let o : Option ℕ = lowest_unread now in
    let state : State → State = λ t. pulled_from t (lowest_unread t) in
    let give : State → Option (ℕ × Item) = λ t. pull_from t (lowest_unread t) in
    let e : c.pull.new.self ≡ pulled_from now o = c.pull.ensures.state ∙ ap state c.self.view_is in
    let v : c.pull.result ≡ pull_from now o = c.pull.ensures.value ∙ ap give c.self.view_is in
    subst (IsConveyor g.row.HOPS) (sym e) (pulled_conveyor g.row.HOPS now o s (subst (IsConveyor g.row.HOPS) c.self.view_is c.self.invariant) refl)

pub returns-clause-sender : goal.returns-clause-sender
returns-clause-sender g c =
    let now : State = c.args.self.now in
    let s : IsState now = subst IsState c.self.view_is c.known.ensures.standing in
    let o : Option ℕ = lowest_unread now in
    let state : State → State = λ t. pulled_from t (lowest_unread t) in
    let give : State → Option (ℕ × Item) = λ t. pull_from t (lowest_unread t) in
    let e : c.pull.new.self ≡ pulled_from now o = c.pull.ensures.state ∙ ap state c.self.view_is in
    let v : c.pull.result ≡ pull_from now o = c.pull.ensures.value ∙ ap give c.self.view_is in
    if_some c.pull.result (λ p. p.0 < ranks now.dims) (λ p r. pulled_sender now o s refl p (sym v ∙ r))

pub returns-clause-kept : goal.returns-clause-kept
returns-clause-kept g c =
    let now : State = c.args.self.now in
    let s : IsState now = subst IsState c.self.view_is c.known.ensures.standing in
    let o : Option ℕ = lowest_unread now in
    let state : State → State = λ t. pulled_from t (lowest_unread t) in
    let give : State → Option (ℕ × Item) = λ t. pull_from t (lowest_unread t) in
    let e : c.pull.new.self ≡ pulled_from now o = c.pull.ensures.state ∙ ap state c.self.view_is in
    let v : c.pull.result ≡ pull_from now o = c.pull.ensures.value ∙ ap give c.self.view_is in
    λ sent got a. subst (λ t. Agrees (buffers_of t) sent got) (sym e) (pulled_kept now o s refl sent got a)

pub returns-clause-item : goal.returns-clause-item
returns-clause-item g c =
    let now : State = c.args.self.now in
    let s : IsState now = subst IsState c.self.view_is c.known.ensures.standing in
    let o : Option ℕ = lowest_unread now in
    let state : State → State = λ t. pulled_from t (lowest_unread t) in
    let give : State → Option (ℕ × Item) = λ t. pull_from t (lowest_unread t) in
    let e : c.pull.new.self ≡ pulled_from now o = c.pull.ensures.state ∙ ap state c.self.view_is in
    let v : c.pull.result ≡ pull_from now o = c.pull.ensures.value ∙ ap give c.self.view_is in
    if_some c.pull.result (λ p. IsStepOf (Pull p.0 p.1) now c.pull.new.self) (λ p r sent got a.
    subst (λ t. IsOwnStep (Pull p.0 p.1) (part_of (buffers_of now) sent got) (part_of (buffers_of t) sent got)) (sym e) (pulled_item now o s refl p (sym v ∙ r) sent got a))

pub returns-clause-none : goal.returns-clause-none
returns-clause-none g c =
    let now : State = c.args.self.now in
    let s : IsState now = subst IsState c.self.view_is c.known.ensures.standing in
    let o : Option ℕ = lowest_unread now in
    let state : State → State = λ t. pulled_from t (lowest_unread t) in
    let give : State → Option (ℕ × Item) = λ t. pull_from t (lowest_unread t) in
    let e : c.pull.new.self ≡ pulled_from now o = c.pull.ensures.state ∙ ap state c.self.view_is in
    let v : c.pull.result ≡ pull_from now o = c.pull.ensures.value ∙ ap give c.self.view_is in
    let gone : c.pull.result ≡ None → o ≡ None = λ r. pulled_none now o s refl (sym v ∙ r) in
    let calm : c.pull.result ≡ None → c.pull.new.self ≡ record now { pulled = None } = λ r. e ∙ ap (pulled_from now) (gone r) in
    λ r. record {
      none_unread = none_unread now s (gone r);
      state = calm r;
      step = λ sent got a. subst (λ t. IsOwnStep Idle (part_of (buffers_of now) sent got) (part_of (buffers_of t) sent got)) (sym (calm r)) (idle_step now sent got);
    }
