-- What a hear and a look in make of the links of a rank, and of the bits that it keeps.
use Rattle.std.proofs.Common.{◌≡◌, ◌≢◌, ℕ, zero, suc, ◌+◌, ◌-◌, ◌*◌, ◌^◌, ◌<◌, ◌≤◌, true, false, eqb, List, length, take, sym, refl, ap, ◌∙◌, subst, inl, inr, arith, length-set, eq-eqb, eqb-true, ne_eqb, not, min}
use Rattle.std.proofs.lemmas.Nat.{pow_pos}
use Rattle.std.proofs.lemmas.Nat.Bits.{and_pow, bit_at_or, bit_at_xor, bit_at-pow_same, bit_at-pow_other, bit_at-lt}
use Rattle.std.specs.Int.{bit_at}
use Rattle.std.specs.Int.Bits.{bit_or, bit_xor, bit_and}
use mathlib.Core.Logic.{dite}
use native.Mathlib.Decide.{ℕ_discrete, dec_le}
use Rattle.bale_items.specs.Counters.{RoseOrFull}
use Rattle.item_buffer.specs.Contents.{Contents}
use Rattle.route_tensor.specs.Link.{links}
use Rattle.route_tensor.specs.Ends.{hop_at, reader_at}
use Rattle.link_slots.specs.Logs.{InLog, Lists, in_of, with_in, listens}
use Rattle.link_slots.specs.StepEffects.{after_hear, heard_by, marked_by}
use lib.ListN.{get_elem?}
use Rattle.link_slots.specs.Shape.{Shape, IsShape, wiring, MayFollow}
use Rattle.list_laws.specs.Counts.{saturated_count}
use Rattle.link_slots.specs.Counts.{IsHeard, KeepsOtherLinks, AreGood, noted_by}
use Rattle.link_slots.proofs.Listening.{heard_kept, heard_risen, heard_here, heard_else, length-map_from}
use Rattle.link_slots.proofs.Wires.{wired, same_bell}
use Rattle.link_slots.proofs.Moves.{in_here, in_there}

-- a bit by its mask
pub bit_unset : (n c mask : ℕ) → mask ≡ 2 ^ c → bit_and n mask ≡ 0 → bit_at n c ≡ 0
bit_unset n c mask m e = dite (ℕ_discrete (bit_at n c) 0) (λ s. s) (λ ne. absurd (
    let b = bit_at-lt n c in let one : bit_at n c ≡ 1 = omega arith in
    let p = pow_pos c in let q : bit_and n (2 ^ c) ≡ 1 * 2 ^ c = and_pow n c ∙ ap (λ (z : ℕ). z * 2 ^ c) one in
    let z : bit_and n (2 ^ c) ≡ 0 = ap (bit_and n) (sym m) ∙ e in omega arith))

pub bit_set : (n c mask : ℕ) → mask ≡ 2 ^ c → bit_and n mask ≢ 0 → bit_at n c ≡ 1
bit_set n c mask m ne = dite (ℕ_discrete (bit_at n c) 1) (λ s. s) (λ other. absurd (ne (
    let b = bit_at-lt n c in let none : bit_at n c ≡ 0 = omega arith in
    ap (bit_and n) m ∙ and_pow n c ∙ ap (λ (z : ℕ). z * 2 ^ c) none ∙ (let q : 0 * 2 ^ c ≡ 0 = omega arith in q))))

-- a bit that a mask is for, as code reads it
pub bit_read : (n c mask : ℕ) → mask ≡ 2 ^ c → not (eqb (bit_and n mask) 0) ≡ eqb (bit_at n c) 1
bit_read n c mask m = dite (ℕ_discrete (bit_and n mask) 0)
    (λ e. ap not (eq-eqb (bit_and n mask) 0 e) ∙ sym (ap (λ (z : ℕ). eqb z 1) (bit_unset n c mask m e)))
    (λ ne. ap not (ne_eqb (bit_and n mask) 0 ne) ∙ sym (eq-eqb (bit_at n c) 1 (bit_set n c mask m ne)))

-- a link is marked after a hear where its bit was kept or found
marks_or : (n found c : ℕ) → marked_by (bit_at found c) (eqb (bit_at n c) 1) ≡ eqb (bit_at (bit_or n found) c) 1
marks_or n found c = by_bit (bit_at found c) refl
  where
    by_bit : (b : ℕ) → bit_at found c ≡ b → marked_by b (eqb (bit_at n c) 1) ≡ eqb (bit_at (bit_or n found) c) 1
    by_bit zero e = ap (λ (z : ℕ). eqb z 1) (let o = bit_at_or n found c in let q : bit_at n c ≡ bit_at (bit_or n found) c = omega arith in q)
    by_bit (suc b) e = sym (eq-eqb (bit_at (bit_or n found) c) 1 (let o = bit_at_or n found c in let p = bit_at-lt n c in let r = bit_at-lt found c in omega arith))

-- the mark of one link is taken away, and no other
pub marks_less : (n c : ℕ) → bit_at n c ≡ 1 → bit_at (bit_xor n (2 ^ c)) c ≡ 0
marks_less n c e = let x = bit_at_xor n (2 ^ c) c in let p = bit_at-pow_same c in omega arith

pub marks_else : (n c d : ℕ) → d ≢ c → bit_at (bit_xor n (2 ^ c)) d ≡ bit_at n d
marks_else n c d ne = let x = bit_at_xor n (2 ^ c) d in let p = bit_at-pow_other c d ne in let b = bit_at-lt n d in omega arith

pub counted_suc : (n a : ℕ) → a ≡ saturated_count n → min (a + 1) (2 ^ 64 - 1) ≡ saturated_count (suc n)
counted_suc n a e = omega arith

-- a link that is listened for once more
pub rises : {T : Type 0} (noted : ℕ) (i : InLog T) → noted ≤ saturated_count i.hears → RoseOrFull (noted_by noted i) (saturated_count (suc (listens i)))
rises noted i low = dite (dec_le (suc (listens i)) (2 ^ 64 - 1)) (λ h. inl (omega arith)) (λ h. inr (omega arith))

-- a link whose doorbell was heard since it was noted
pub rose : {T : Type 0} (noted : ℕ) (i : InLog T) → noted < saturated_count i.hears → RoseOrFull (noted_by noted i) (saturated_count (listens i))
rose noted i high = dite (dec_le (listens i) (2 ^ 64 - 1)) (λ h. inl (omega arith)) (λ h. inr (omega arith))

module _ (shape : Shape) (is : IsShape shape) (rank l : ℕ) (inside : l < links shape.dims) (mine : reader_at shape.dims l ≡ rank) (x : Lists Contents) (wide : length x.ins ≡ links shape.dims) where
  -- the bells of the rank's links of one hop are one
  one_bell : (m : ℕ) → reader_at shape.dims m ≡ rank → hop_at shape.dims m ≡ hop_at shape.dims l → (wiring shape).bell m ≡ (wiring shape).bell l
  one_bell m r h = λ k. (r ∙ sym mine) k * length shape.dims + (h k - 1)

  module _ (n : ℕ) where
    pub heard_at : (m : ℕ) → m < links shape.dims → reader_at shape.dims m ≡ rank → hop_at shape.dims m ≡ hop_at shape.dims l
        → in_of (after_hear (wiring shape) ((wiring shape).bell l) n x) m ≡ heard_by (bit_at n ((wiring shape).bit m)) (in_of x m)
    heard_at m h r e = heard_here (wiring shape) ((wiring shape).bell l) n x.ins m (omega arith) (one_bell m r e)

    pub heard_elsewhere : KeepsOtherLinks shape rank l x (after_hear (wiring shape) ((wiring shape).bell l) n x)
    heard_elsewhere = record {
      outs = refl;
      long = length-map_from _ 0 x.ins;
      seen = λ m ne. heard_kept (wiring shape) ((wiring shape).bell l) n (λ i. i.seen) (λ _ _. refl) x.ins m;
      taken = λ m ne. heard_kept (wiring shape) ((wiring shape).bell l) n (λ i. i.taken) (λ _ _. refl) x.ins m;
      look_ins = λ m ne. heard_kept (wiring shape) ((wiring shape).bell l) n (λ i. i.look_ins) (λ _ _. refl) x.ins m;
      hears = λ m ne. heard_risen (wiring shape) ((wiring shape).bell l) n x.ins m;
      other_hops = λ m h r ne. heard_else (wiring shape) ((wiring shape).bell l) n x.ins m (omega arith) (λ e. ne (same_bell shape is m l h inside e).1);
    }

    pub heard_marks : (marks hears : ℕ) → IsHeard shape rank (hop_at shape.dims l) x marks hears
        → IsHeard shape rank (hop_at shape.dims l) (after_hear (wiring shape) ((wiring shape).bell l) n x) (bit_or marks n) (min (hears + 1) (2 ^ 64 - 1))
    heard_marks marks hears was = record {
      marked = λ m h r e. ap (λ (i : InLog Contents). i.marked) (heard_at m h r e) ∙ ap (marked_by (bit_at n ((wiring shape).bit m))) (was.marked m h r e) ∙ marks_or marks n ((wiring shape).bit m);
      heard = λ m h r e. counted_suc (in_of x m).hears hears (was.heard m h r e) ∙ ap (λ (i : InLog Contents). saturated_count i.hears) (sym (heard_at m h r e));
    }

  -- a change of l alone
  pub in_elsewhere : (i : InLog Contents) → KeepsOtherLinks shape rank l x (with_in x l i)
  in_elsewhere i = record {
    outs = refl;
    long = length-set x.ins l i;
    seen = λ m ne. ap (λ (z : InLog Contents). z.seen) (in_there x l i m ne);
    taken = λ m ne. ap (λ (z : InLog Contents). z.taken) (in_there x l i m ne);
    look_ins = λ m ne. ap (λ (z : InLog Contents). z.look_ins) (in_there x l i m ne);
    hears = λ m ne. (let e = ap (λ (z : InLog Contents). z.hears) (in_there x l i m ne) in omega arith);
    other_hops = λ m h r ne. in_there x l i m (λ e. ne (ap (hop_at shape.dims) e));
  }

  -- a look takes the mark of l away
  module _ (i : InLog Contents) (unmarked : i.marked ≡ false) (hears : i.hears ≡ (in_of x l).hears) where
    pub looked_marks : (marks heard : ℕ) → IsHeard shape rank (hop_at shape.dims l) x marks heard → (in_of x l).marked ≡ true
        → IsHeard shape rank (hop_at shape.dims l) (with_in x l i) (bit_xor marks (2 ^ (wiring shape).bit l)) heard
    looked_marks marks heard was marked =
        let here = in_here x l i (omega arith) in
        let bit : bit_at marks ((wiring shape).bit l) ≡ 1 = eqb-true (bit_at marks ((wiring shape).bit l)) 1 (sym (was.marked l inside mine refl) ∙ marked) in record {
          marked = λ m h r e. dite (ℕ_discrete m l)
              (λ s. subst (λ (z : ℕ). (in_of (with_in x l i) z).marked ≡ eqb (bit_at (bit_xor marks (2 ^ (wiring shape).bit l)) ((wiring shape).bit z)) 1) (sym s)
              (ap (λ (z : InLog Contents). z.marked) here ∙ unmarked ∙ sym (ap (λ (z : ℕ). eqb z 1) (marks_less marks ((wiring shape).bit l) bit))))
              (λ ne. ap (λ (z : InLog Contents). z.marked) (in_there x l i m ne) ∙ was.marked m h r e
              ∙ ap (λ (z : ℕ). eqb z 1) (sym (marks_else marks ((wiring shape).bit l) ((wiring shape).bit m) (λ b. ne ((wired shape is).one_bit m l h inside (one_bell m r e) b)))));
          heard = λ m h r e. dite (ℕ_discrete m l)
              (λ s. was.heard m h r e ∙ ap (λ (z : ℕ). saturated_count (in_of x z).hears) s ∙ ap saturated_count (sym hears) ∙ ap (λ (z : InLog Contents). saturated_count z.hears) (sym here) ∙ ap (λ (z : ℕ). saturated_count (in_of (with_in x l i) z).hears) (sym s))
              (λ ne. was.heard m h r e ∙ ap (λ (z : InLog Contents). saturated_count z.hears) (sym (in_there x l i m ne)));
        }

-- one step after another
pub else_kept : (shape : Shape) (rank l : ℕ) (x y z : Lists Contents) → KeepsOtherLinks shape rank l x y → KeepsOtherLinks shape rank l y z → KeepsOtherLinks shape rank l x z
else_kept shape rank l x y z a b = record {
  outs = b.outs ∙ a.outs;
  long = b.long ∙ a.long;
  seen = λ m ne. b.seen m ne ∙ a.seen m ne;
  taken = λ m ne. b.taken m ne ∙ a.taken m ne;
  look_ins = λ m ne. b.look_ins m ne ∙ a.look_ins m ne;
  hears = λ m ne. (let p = a.hears m ne in let q = b.hears m ne in omega arith);
  other_hops = λ m h r ne. b.other_hops m h r ne ∙ a.other_hops m h r ne;
}

-- no step
pub else_same : (shape : Shape) (rank l : ℕ) (x : Lists Contents) → KeepsOtherLinks shape rank l x x
else_same shape rank l x = record {
  outs = refl;
  long = refl;
  seen = λ _ _. refl;
  taken = λ _ _. refl;
  look_ins = λ _ _. refl;
  hears = λ _ _. omega arith;
  other_hops = λ _ _ _ _. refl;
}

pub good_same : (cap : ℕ) (shape : Shape) (l : ℕ) (i i' : InLog Contents) → i'.seen ≡ i.seen → AreGood cap shape l i → AreGood cap shape l i'
good_same cap shape l i i' e good n p at = subst (λ (z : List Contents). MayFollow shape.dims cap l (take n z) p) (sym e) (good n p (ap (λ (z : List Contents). get_elem? z n) (sym e) ∙ at))

-- the marks of a hop speak of what is marked and heard on its links alone
pub heard_same : (shape : Shape) (rank h : ℕ) (x x' : Lists Contents) (marks hears : ℕ) → ((m : ℕ) → (in_of x' m).marked ≡ (in_of x m).marked) → ((m : ℕ) → (in_of x' m).hears ≡ (in_of x m).hears)
    → IsHeard shape rank h x marks hears → IsHeard shape rank h x' marks hears
heard_same shape rank h x x' marks hears same_marked same_hears is = record {
  marked = λ m a b e. same_marked m ∙ is.marked m a b e;
  heard = λ m a b e. is.heard m a b e ∙ ap saturated_count (sym (same_hears m));
}
