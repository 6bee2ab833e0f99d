-- A rank's seat stays one under each of its steps.
use Rattle.std.proofs.Common.{◌≡◌, ℕ, zero, suc, ◌<◌, List, [], ◌∷◌, ◌++◌, map, length, set, sym, refl, ap, ◌∙◌, subst, length-set, Option, Some, None}
use Rattle.std.proofs.lemmas.List.{map-append}
use Rattle.atomic_table.specs.Table.{Me}
use Rattle.item_buffer.specs.Contents.{Contents, as_shipped}
use Rattle.route_tensor.specs.Grid.{IsGrid}
use Rattle.port_bank.specs.Flow.{IsPrefix}
use Rattle.port_bank.proofs.Kept.{law_got_more}
use Rattle.port_bank.proofs.Fronts.{begins_refl}
use Rattle.link_slots.specs.Logs.{OutLog, InLog, Lists, out_of, in_of, with_out, with_in, got, sent_of, got_of, sent_more, taken_more, no_out, no_in}
use Rattle.link_slots.specs.View.{own_logs, with_logs, Speaks}
use Rattle.link_slots.specs.HeldSlots.{Holds}
use Rattle.link_slots.specs.Shape.{Shape, wiring, IsBlank, KeepsLaw, shipped_all}
use Rattle.link_slots.specs.WordSteps.{TableView, HoldsSeat}
use mathlib.Core.Logic.{dite}
use native.Mathlib.Decide.{ℕ_discrete}
use Rattle.std.proofs.lemmas.List.{set-get_or}
use Rattle.link_slots.proofs.Moves.{speaks_with, own_with, out_here, out_there, in_here, in_there}
use Rattle.link_slots.proofs.Lookups.{at_there, take_next}

set_twice : {A : Type 0} (l : List A) (i : ℕ) (a b : A) → set (set l i a) i b ≡ set l i b
set_twice [] i a b = refl
set_twice (x ∷ xs) zero a b = refl
set_twice (x ∷ xs) (suc i) a b = λ k. x ∷ set_twice xs i a b k

module _ (shape : Shape) (m m' : Me Contents TableView) (is : HoldsSeat shape m) where
  pub manned_with : (x : Lists Contents) → m'.0 ≡ with_logs m.0 x → Holds IsBlank (wiring shape) m.0.pick (own_logs m'.0) m'.1 → HoldsSeat shape m'
  manned_with x e h = record {
    of = ap (λ (v : TableView). v.shape) e ∙ is.of;
    speaks = subst Speaks (sym e) (speaks_with m.0 x is.speaks);
    holds = subst (λ (q : ℕ). Holds IsBlank (wiring shape) q (own_logs m'.0) m'.1) (sym (ap (λ (v : TableView). v.pick) e)) h;
  }

  pub manned_brought : (c : List (ℕ × Contents)) → m' ≡ (m.0, c) → Holds IsBlank (wiring shape) m.0.pick (own_logs m.0) m'.1 → HoldsSeat shape m'
  manned_brought c e h = subst (HoldsSeat shape) (sym e) (record { of = is.of; speaks = is.speaks; holds = subst (Holds IsBlank (wiring shape) m.0.pick (own_logs m.0)) (ap (λ (z : Me Contents TableView). z.1) e) h })

-- what was collected grows, and the relay law stays
pub law_taken : (dims : List ℕ) (r l : ℕ) (x : Lists Contents) (looks : ℕ) → IsGrid dims → l < length x.ins → (in_of x l).taken < length (in_of x l).seen
    → KeepsLaw dims r (sent_of x) (got_of x) → KeepsLaw dims r (sent_of x) (got_of (with_in x l (taken_more (in_of x l) looks)))
law_taken dims r l x looks grid inside some_left law =
    let i : InLog Contents = in_of x l in
    let p = at_there i.seen i.taken some_left in
    let more : got (taken_more i looks) ≡ got i ++ p.0 ∷ [] = take_next i.seen i.taken p.0 p.1 in
    law_got_more dims r (shipped_all (sent_of x)) (shipped_all (got_of x)) (shipped_all (got_of (with_in x l (taken_more i looks)))) grid (λ m. grown m i p.0 more) law
  where
    one : (m : ℕ) → IsPrefix (map as_shipped (got_of x m)) (map as_shipped (got_of x m))
    one m = begins_refl (map as_shipped (got_of x m))

    grown : (m : ℕ) (i : InLog Contents) (p : Contents) → got (taken_more (in_of x l) looks) ≡ got (in_of x l) ++ p ∷ [] → IsPrefix (map as_shipped (got_of x m)) (map as_shipped (got_of (with_in x l (taken_more (in_of x l) looks)) m))
    grown m i p more = dite (ℕ_discrete m l)
        (λ e. subst (λ (z : ℕ). IsPrefix (map as_shipped (got_of x z)) (map as_shipped (got_of (with_in x l (taken_more (in_of x l) looks)) z))) (sym e)
        (record { rest = as_shipped p ∷ []; is = ap (λ (z : InLog Contents). map as_shipped (got z)) (in_here x l (taken_more (in_of x l) looks) inside) ∙ ap (map as_shipped) more ∙ map-append as_shipped (got (in_of x l)) (p ∷ []) }))
        (λ ne. subst (λ (z : InLog Contents). IsPrefix (map as_shipped (got_of x m)) (map as_shipped (got z))) (sym (in_there x l (taken_more (in_of x l) looks) m ne)) (one m))

-- what the seat's own lists are after a change of one link
module _ (v v' : TableView) (speaks : Speaks v) (l : ℕ) where
  pub out_after : (x : Lists Contents) (o : OutLog Contents) → v' ≡ with_logs v (with_out x l o) → l < length x.outs → out_of (own_logs v') l ≡ o
  out_after x o e h = ap (λ (z : TableView). out_of (own_logs z) l) e ∙ ap (λ (z : Lists Contents). out_of z l) (own_with v (with_out x l o) speaks) ∙ out_here x l o h

  pub in_after : (x : Lists Contents) (i : InLog Contents) → v' ≡ with_logs v (with_in x l i) → l < length x.ins → in_of (own_logs v') l ≡ i
  in_after x i e h = ap (λ (z : TableView). in_of (own_logs z) l) e ∙ ap (λ (z : Lists Contents). in_of z l) (own_with v (with_in x l i) speaks) ∙ in_here x l i h

-- a seat's view with what it has already
pub same_logs : (v : TableView) → Speaks v → with_logs v (own_logs v) ≡ v
same_logs v speaks = ap (λ (z : List (Option (Lists Contents))). record { shape = v.shape; lists = z; pick = v.pick }) (ap (set v.lists v.pick) (sym speaks) ∙ set-get_or v.lists v.pick None)

pub same_out : (x : Lists Contents) (l : ℕ) → with_out x l (out_of x l) ≡ x
same_out x l = ap (λ (z : List (OutLog Contents)). record { outs = z; ins = x.ins }) (set-get_or x.outs l no_out)

pub same_in : (x : Lists Contents) (l : ℕ) → with_in x l (in_of x l) ≡ x
same_in x l = ap (λ (z : List (InLog Contents)). record { outs = x.outs; ins = z }) (set-get_or x.ins l no_in)

-- a change after a change of the same
pub with_twice : (v : TableView) (x y : Lists Contents) → with_logs (with_logs v x) y ≡ with_logs v y
with_twice v x y = ap (λ (z : List (Option (Lists Contents))). record { shape = v.shape; lists = z; pick = v.pick }) (set_twice v.lists v.pick (Some x) (Some y))

pub out_twice : (x : Lists Contents) (l : ℕ) (o p : OutLog Contents) → with_out (with_out x l o) l p ≡ with_out x l p
out_twice x l o p = ap (λ (z : List (OutLog Contents)). record { outs = z; ins = x.ins }) (set_twice x.outs l o p)

pub in_twice : (x : Lists Contents) (l : ℕ) (i j : InLog Contents) → with_in (with_in x l i) l j ≡ with_in x l j
in_twice x l i j = ap (λ (z : List (InLog Contents)). record { outs = x.outs; ins = z }) (set_twice x.ins l i j)

-- one change of a link after another
module _ (v : TableView) (speaks : Speaks v) (l : ℕ) (long : l < length (own_logs v).outs) where
  pub own_after : (v1 : TableView) (o1 : OutLog Contents) → v1 ≡ with_logs v (with_out (own_logs v) l o1) → own_logs v1 ≡ with_out (own_logs v) l o1
  own_after v1 o1 e = ap own_logs e ∙ own_with v (with_out (own_logs v) l o1) speaks

  pub speaks_after : (v1 : TableView) (o1 : OutLog Contents) → v1 ≡ with_logs v (with_out (own_logs v) l o1) → Speaks v1
  speaks_after v1 o1 e = subst Speaks (sym e) (speaks_with v (with_out (own_logs v) l o1) speaks)

  pub long_after : (v1 : TableView) (o1 : OutLog Contents) → v1 ≡ with_logs v (with_out (own_logs v) l o1) → l < length (own_logs v1).outs
  long_after v1 o1 e = subst (λ (z : ℕ). l < z) (sym (ap (λ (z : Lists Contents). length z.outs) (own_after v1 o1 e) ∙ length-set (own_logs v).outs l o1)) long

  pub then_out : (v1 v2 : TableView) (o1 o2 : OutLog Contents) → v1 ≡ with_logs v (with_out (own_logs v) l o1) → v2 ≡ with_logs v1 (with_out (own_logs v1) l o2) → v2 ≡ with_logs v (with_out (own_logs v) l o2)
  then_out v1 v2 o1 o2 e f = f ∙ ap (λ (z : TableView). with_logs z (with_out (own_logs v1) l o2)) e ∙ with_twice v (with_out (own_logs v) l o1) (with_out (own_logs v1) l o2)
      ∙ ap (λ (z : Lists Contents). with_logs v (with_out z l o2)) (own_after v1 o1 e) ∙ ap (with_logs v) (out_twice (own_logs v) l o1 o2)

  pub out_itself : (v1 : TableView) (o1 : OutLog Contents) → v1 ≡ with_logs v (with_out (own_logs v) l o1) → v1 ≡ with_logs v (with_out (own_logs v) l (out_of (own_logs v1) l))
  out_itself v1 o1 e = e ∙ ap (λ (z : OutLog Contents). with_logs v (with_out (own_logs v) l z)) (sym (out_after v v1 speaks l (own_logs v) o1 e long))

  -- the law for a parcel, where a look came between
  pub law_after : (dims : List ℕ) (v1 : TableView) (p : Contents) → v1 ≡ with_logs v (with_out (own_logs v) l (out_of (own_logs v1) l)) → (out_of (own_logs v1) l).sent ≡ (out_of (own_logs v) l).sent
      → KeepsLaw dims v.pick (sent_of (with_out (own_logs v) l (sent_more (out_of (own_logs v) l) p))) (got_of (own_logs v))
      → KeepsLaw dims v1.pick (sent_of (with_out (own_logs v1) l (sent_more (out_of (own_logs v1) l) p))) (got_of (own_logs v1))
  law_after dims v1 p e same law =
      let x : Lists Contents = own_logs v in let o1 : OutLog Contents = out_of (own_logs v1) l in
      let own1 : own_logs v1 ≡ with_out x l o1 = own_after v1 o1 e in
      let sent1 : sent_of (with_out x l (sent_more (out_of x l) p)) ≡ sent_of (with_out (own_logs v1) l (sent_more o1 p)) =
      (λ k m. same_sent m k) ∙ sym (ap sent_of (ap (λ (z : Lists Contents). with_out z l (sent_more o1 p)) own1 ∙ out_twice x l o1 (sent_more o1 p))) in
      let got1 : got_of x ≡ got_of (own_logs v1) = sym (ap got_of own1) in
      subst (λ (z : ℕ × (ℕ → List Contents) × (ℕ → List Contents)). KeepsLaw dims z.0 z.1 z.2) (λ k. (sym (ap (λ (z : TableView). z.pick) e) k, sent1 k, got1 k)) law
    where
      same_sent : (m : ℕ) → (out_of (with_out (own_logs v) l (sent_more (out_of (own_logs v) l) p)) m).sent ≡ (out_of (with_out (own_logs v) l (sent_more (out_of (own_logs v1) l) p)) m).sent
      same_sent m = dite (ℕ_discrete m l)
          (λ s. ap (λ (z : ℕ). (out_of (with_out (own_logs v) l (sent_more (out_of (own_logs v) l) p)) z).sent) s ∙ ap (λ (z : OutLog Contents). z.sent) (out_here (own_logs v) l (sent_more (out_of (own_logs v) l) p) long)
          ∙ ap (λ (z : List Contents). z ++ p ∷ []) (sym same) ∙ sym (ap (λ (z : ℕ). (out_of (with_out (own_logs v) l (sent_more (out_of (own_logs v1) l) p)) z).sent) s ∙ ap (λ (z : OutLog Contents). z.sent) (out_here (own_logs v) l (sent_more (out_of (own_logs v1) l) p) long)))
          (λ ne. ap (λ (z : OutLog Contents). z.sent) (out_there (own_logs v) l (sent_more (out_of (own_logs v) l) p) m ne ∙ sym (out_there (own_logs v) l (sent_more (out_of (own_logs v1) l) p) m ne)))
