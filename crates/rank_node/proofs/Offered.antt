-- One more item to send is pushed.
use Rattle.std.proofs.Common.{◌≡◌, ℕ, ◌+◌, ◌<◌, ◌≤◌, ◌==◌, ◌&&◌, true, false, cond, List, [], ◌∷◌, ◌++◌, length, take, slice_get, Some, All, refl, sym, ap, subst, ◌∙◌, inl, inr, arith}
use Rattle.std.proofs.lemmas.Bool.{cases_eq, cases_Bool, true≢false, eq-eqb, ne_eqb}
use Rattle.bale_items.specs.declared.item.Item.{Item}
use Rattle.route_tensor.specs.Grid.{ranks}
use Rattle.port_bank.specs.Logs.{Logs}
use Rattle.hop_core.specs.declared.phase.Phase.TheVariants.{Working}
use Rattle.hop_core.specs.State.{State}
use Rattle.convey.specs.Buffers.{buffers_of}
use Rattle.convey.specs.Conveyors.{AgreesWith, KeepsAgreement}
use Rattle.convey.specs.Parts.{part_of}
use Rattle.port_bank.specs.Machine.{Part, IsOwnStep}
use Rattle.port_bank.specs.Machine.Step.{Push, Idle}
use Rattle.list_laws.proofs.Lists.{within}
use Rattle.round_program.specs.Canonical.{items_of}
use Rattle.round_program.proofs.Items.{items_more, items_more_other}
use Rattle.rank_node.specs.Pulls.{PushedOn}
use Rattle.rank_node.proofs.Took.{item_elsewhere}

-- what a Push leaves
pub push_on : (es : List (ℕ × Item)) (p next to : ℕ) (x : Item) (part part' : Part) → slice_get es next ≡ Some (to, x) → IsOwnStep (Push to x) part part' → PushedOn es p next (next + 1) part part'
push_on es p next to x part part' is step =
    subst (λ q. PushedOn es p next (next + 1) part q) (sym step.is)
    (record {
      epoch = refl;
      done = refl;
      pulled = refl;
      elsewhere = λ e d apart. item_elsewhere part.pushed part.epoch to x e d apart;
      pushed = λ before d below. elim (cases_eq d to) [
        | inl here ↦
            ap (λ b. cond (b && (d == to)) (part.pushed part.epoch d ++ x ∷ []) (part.pushed part.epoch d)) (eq-eqb part.epoch part.epoch refl)
            ∙ (ap (λ b. cond b (part.pushed part.epoch d ++ x ∷ []) (part.pushed part.epoch d)) (eq-eqb d to here)
            ∙ (ap (λ xs. xs ++ x ∷ []) (before d below)
            ∙ (ap (λ t. items_of t (take next es) ++ x ∷ []) here
            ∙ (sym (items_more es next (to, x) is) ∙ ap (λ t. items_of t (take (next + 1) es)) (sym here)))))
        | inr apart ↦
            ap (λ b. cond (b && (d == to)) (part.pushed part.epoch d ++ x ∷ []) (part.pushed part.epoch d)) (eq-eqb part.epoch part.epoch refl)
            ∙ (ap (λ b. cond b (part.pushed part.epoch d ++ x ∷ []) (part.pushed part.epoch d)) (ne_eqb d to apart)
            ∙ (before d below ∙ sym (items_more_other es next d (to, x) is apart)))
      ];
    })

-- what an Idle step leaves
pub idle_on : (es : List (ℕ × Item)) (p next : ℕ) (part part' : Part) → IsOwnStep Idle part part' → PushedOn es p next next part part'
idle_on es p next part part' step = subst (λ q. PushedOn es p next next part q) (sym step.is) (record { epoch = refl; done = refl; pulled = refl; elsewhere = λ e d apart. refl; pushed = λ before. before })

-- no push, and pushes one after another
pub pushed_none : (es : List (ℕ × Item)) (p next : ℕ) (part : Part) → PushedOn es p next next part part
pushed_none es p next part = record { epoch = refl; done = refl; pulled = refl; elsewhere = λ e d apart. refl; pushed = λ before. before }

pub pushed_twice : (es : List (ℕ × Item)) (p a b c : ℕ) (x y z : Part) → PushedOn es p a b x y → PushedOn es p b c y z → PushedOn es p a c x z
pushed_twice es p a b c x y z f g = record { epoch = g.epoch ∙ f.epoch; done = g.done ∙ f.done; pulled = g.pulled ∙ f.pulled; elsewhere = λ e d apart. g.elsewhere e d (λ q. apart (q ∙ f.epoch)) ∙ f.elsewhere e d apart; pushed = λ before. g.pushed (f.pushed before) }

-- a conveyor in the midst of pushes, from number `from` on, of which `next` are pushed by now
pub record Offers (es : List (ℕ × Item)) (old c : State) (from next count : ℕ) : Type 0 where
  pub all : count ≡ length es
  pub forward : from ≤ next
  pub next_low : next ≤ length es
  pub receivers : All (λ (e : ℕ × Item). e.0 < ranks c.dims) es
  pub working : c.done ≡ false → c.phase ≡ Working
  pub all_pushed : c.done ≡ true → next ≡ length es
  pub same : c ≡ record old { outs = c.outs; pulled = c.pulled }
  pub kept : KeepsAgreement old c
  pub pushed : (sent got : Logs) → AgreesWith old sent got → PushedOn es (ranks old.dims) from next (part_of (buffers_of old) sent got) (part_of (buffers_of c) sent got)

-- where an emission is left, the rank isn't done
pub not_done : (es : List (ℕ × Item)) (old c : State) (from next count : ℕ) → Offers es old c from next count → next < count → c.done ≡ false
not_done es old c from next count is left =
    elim (cases_Bool c.done) [
      | inl yes' ↦ absurd (omega (arith, left, is.all, is.all_pushed yes'))
      | inr no' ↦ no'
    ]

-- what one more push leaves, whether it was accepted or refused
pub push_more : (es : List (ℕ × Item)) (old c c' : State) (from next next' count : ℕ) → Offers es old c from next count → next < count → next ≤ next' → next' ≤ count
    → c' ≡ record c { outs = c'.outs; pulled = c'.pulled } → KeepsAgreement c c'
    → ((sent got : Logs) → AgreesWith c sent got → PushedOn es (ranks c.dims) next next' (part_of (buffers_of c) sent got) (part_of (buffers_of c') sent got))
    → Offers es old c' from next' count
push_more es old c c' from next next' count is left higher low same kept on =
    let dims : c.dims ≡ old.dims = ap (λ (x : State). x.dims) is.same in
    let dims' : c'.dims ≡ c.dims = ap (λ (x : State). x.dims) same in
    let done' : c'.done ≡ c.done = ap (λ (x : State). x.done) same in
    let phase' : c'.phase ≡ c.phase = ap (λ (x : State). x.phase) same in
    let waits : c.done ≡ false = not_done es old c from next count is left in
    record {
      all = is.all;
      forward = omega (arith, is.forward, higher);
      next_low = omega (arith, low, is.all);
      receivers = subst (λ (d : List ℕ). All (λ (e : ℕ × Item). e.0 < ranks d) es) (sym dims') is.receivers;
      working = λ d. phase' ∙ is.working waits;
      all_pushed = λ d. absurd (true≢false (sym d ∙ (done' ∙ waits)));
      same = same ∙ ap (λ (x : State). record x { outs = c'.outs; pulled = c'.pulled }) is.same;
      kept = λ sent got a. kept sent got (is.kept sent got a);
      pushed = λ sent got a. pushed_twice es (ranks old.dims) from next next' (part_of (buffers_of old) sent got) (part_of (buffers_of c) sent got) (part_of (buffers_of c') sent got)
          (is.pushed sent got a)
          (subst (λ (d : List ℕ). PushedOn es (ranks d) next next' (part_of (buffers_of c) sent got) (part_of (buffers_of c') sent got)) dims (on sent got (is.kept sent got a)));
    }

-- past the last emission there is none
pub none_left : {X : Type 0} {C : Type 0} (es : List X) (i : ℕ) (e : X) → length es ≤ i → slice_get es i ≡ Some e → C
none_left es i e past is = absurd (omega (arith, within es i e is, past))
