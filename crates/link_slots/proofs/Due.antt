-- When a hear is due, and what a collect's hear and look in make of a link.
use Rattle.std.proofs.Common.{◌≡◌, ℕ, zero, suc, ◌+◌, ◌-◌, ◌<◌, ◌≤◌, Bool, true, false, not, ◌&&◌, leb, List, sym, refl, ap, ◌∙◌, subst, arith}
use Rattle.std.proofs.Common.{le-leb, leb-true}
use Rattle.link_slots.specs.Logs.{InLog, taken_more}
use Rattle.link_slots.specs.Link.{bit_of}
use Rattle.link_slots.specs.StepEffects.{heard_by, marked_by}
use Rattle.list_laws.specs.Counts.{saturated_count}
use Rattle.link_slots.specs.Doorbell.{is_due, HeardWhere, looked_where_marked, LookedFor}

leb-above : (a b : ℕ) → b < a → leb a b ≡ false
leb-above a b h = by_case (leb a b) refl
  where
    by_case : (t : Bool) → leb a b ≡ t → leb a b ≡ false
    by_case false e = e
    by_case true e = absurd (let le = leb-true a b e in omega arith)

and-false : (t : Bool) → (t && false) ≡ false
and-false true = refl
and-false false = refl

-- a link that is marked by a hear is one whose bit was found
marks_one : (b : ℕ) (m : Bool) → b ≤ 1 → m ≡ false → bit_of (marked_by b m) ≡ b
marks_one zero m h e = ap bit_of e
marks_one (suc b) m h e = omega arith

module _ {T : Type 0} where
  pub due : (noted : ℕ) (i : InLog T) → i.marked ≡ false → saturated_count i.hears ≤ noted → is_due noted i ≡ true
  due noted i unmarked low = ap (λ (t : Bool). not t && leb (saturated_count i.hears) noted) unmarked ∙ le-leb (saturated_count i.hears) noted low

  pub not_due_marked : (noted : ℕ) (i : InLog T) → i.marked ≡ true → is_due noted i ≡ false
  not_due_marked noted i marked = ap (λ (t : Bool). not t && leb (saturated_count i.hears) noted) marked

  pub not_due_heard : (noted : ℕ) (i : InLog T) → noted < saturated_count i.hears → is_due noted i ≡ false
  not_due_heard noted i high = ap (λ (t : Bool). not i.marked && t) (leb-above (saturated_count i.hears) noted high) ∙ and-false (not i.marked)

  -- a hear, in which the bit b was found
  pub heard_where : (i j : InLog T) (b : ℕ) (d : Bool) → d ≡ true → b < 2 → j ≡ heard_by b i → HeardWhere d i j
  heard_where i j b d is small e =
      let h : j.heard ≡ i.heard + b = ap (λ (z : InLog T). z.heard) e in
      let same : b ≡ j.heard - i.heard = omega arith in
      let one : j.heard ≤ suc i.heard = omega arith in
      subst (λ (t : Bool). HeardWhere t i j) (sym is) (e ∙ ap (λ (z : ℕ). heard_by z i) same, one)

  -- no hear
  pub heard_nowhere : (i j : InLog T) (d : Bool) → d ≡ false → j ≡ i → HeardWhere d i j
  heard_nowhere i j d is e = subst (λ (t : Bool). HeardWhere t i j) (sym is) e

  due_unmarked : (noted : ℕ) (i : InLog T) → is_due noted i ≡ true → i.marked ≡ false
  due_unmarked noted i d = by_case i.marked refl
    where
      by_case : (t : Bool) → i.marked ≡ t → i.marked ≡ false
      by_case false e = e
      by_case true e = absurd (let no : false ≡ true = sym (not_due_marked noted i e) ∙ d in cc)

  -- a hear where it is due, and then a look in where the link is marked
  pub looked_for : (noted : ℕ) (i j k : InLog T) (seen : List T) → HeardWhere (is_due noted i) i j → k ≡ looked_where_marked seen j → LookedFor noted i k
  looked_for noted i j k seen h e = by_case (is_due noted i) refl (subst (λ (t : Bool). HeardWhere t i j) refl h)
    where
      by_case : (d : Bool) → is_due noted i ≡ d → HeardWhere d i j → LookedFor noted i k
      by_case true is h =
          let one : bit_of (is_due noted i) ≡ 1 = ap bit_of is in
          let unmarked : i.marked ≡ false = due_unmarked noted i is in
          let none : bit_of i.marked ≡ 0 = ap bit_of unmarked in
          let hears = ap (λ (z : InLog T). z.hears) h.0 in let heard = ap (λ (z : InLog T). z.heard) h.0 in let look_ins = ap (λ (z : InLog T). z.look_ins) h.0 in
          let marked : bit_of j.marked ≡ j.heard - i.heard = ap (λ (z : InLog T). bit_of z.marked) h.0 ∙ marks_one (j.heard - i.heard) i.marked (let b = h.1 in omega arith) unmarked in
          let k_hears = ap (λ (z : InLog T). z.hears) e in let k_heard = ap (λ (z : InLog T). z.heard) e in let k_look_ins = ap (λ (z : InLog T). z.look_ins) e in
          let b = h.1 in record {
            hears = omega arith;
            heard = omega arith;
            one_bit = omega arith;
            look_ins = omega arith;
            unmarked = ap (λ (z : InLog T). z.marked) e;
          }
      by_case false is h =
          let one : bit_of (is_due noted i) ≡ 0 = ap bit_of is in
          let hears = ap (λ (z : InLog T). z.hears) h in let heard = ap (λ (z : InLog T). z.heard) h in let look_ins = ap (λ (z : InLog T). z.look_ins) h in
          let marked : bit_of j.marked ≡ bit_of i.marked = ap (λ (z : InLog T). bit_of z.marked) h in
          let k_hears = ap (λ (z : InLog T). z.hears) e in let k_heard = ap (λ (z : InLog T). z.heard) e in let k_look_ins = ap (λ (z : InLog T). z.look_ins) e in record {
            hears = omega arith;
            heard = omega arith;
            one_bit = omega arith;
            look_ins = omega arith;
            unmarked = ap (λ (z : InLog T). z.marked) e;
          }

  -- a parcel taken after that
  pub looked_then_taken : (noted : ℕ) (i j k : InLog T) (looks : ℕ) → k ≡ taken_more j looks → LookedFor noted i j → LookedFor noted i k
  looked_then_taken noted i j k looks e l = subst (LookedFor noted i) (sym e) (record { hears = l.hears; heard = l.heard; one_bit = l.one_bit; look_ins = l.look_ins; unmarked = l.unmarked })

  -- a look in at a link that isn't marked is none
  pub unmarked_same : (i : InLog T) → i.marked ≡ false → looked_where_marked i.seen i ≡ i
  unmarked_same i e =
      let none : bit_of i.marked ≡ 0 = ap bit_of e in
      let same : i.look_ins + bit_of i.marked ≡ i.look_ins = omega arith in
      λ k. record { seen = i.seen; taken = i.taken; marked = sym e k; hears = i.hears; heard = i.heard; look_ins = same k; released_at = i.released_at }

  pub marked_once : (seen : List T) (i : InLog T) → i.marked ≡ true → looked_where_marked seen i ≡ record { seen = seen; taken = i.taken; marked = false; hears = i.hears; heard = i.heard; look_ins = suc i.look_ins; released_at = i.released_at }
  marked_once seen i e =
      let one : bit_of i.marked ≡ 1 = ap bit_of e in
      let more : i.look_ins + bit_of i.marked ≡ suc i.look_ins = omega arith in
      λ k. record { seen = seen; taken = i.taken; marked = false; hears = i.hears; heard = i.heard; look_ins = more k; released_at = i.released_at }
