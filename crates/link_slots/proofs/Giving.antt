-- A rank's seat at first, and what is left with the gathering seat.
use Rattle.std.proofs.Common.{◌≡◌, ℕ, zero, suc, ◌+◌, ◌*◌, ◌<◌, ◌≤◌, eqb, List, [], ◌∷◌, map, length, take, replicate, get_or, set, sym, refl, ap, ◌∙◌, subst, inl, ⊎_elim, arith, Option, Some, None, length-set, get_or-set_same, get_or-set_other}
use Rattle.std.proofs.lemmas.List.{length-map, length-replicate}
use Rattle.std.proofs.lemmas.Nat.Bits.{bit_at-zero}
use Rattle.std.proofs.Math.Nat.{mul-le-mul_left, mul-one}
use mathlib.Core.Option.{some, some-ne-none}
use lib.ListN.{get_elem?}
use Rattle.atomic_table.specs.Table.{Me}
use Rattle.item_buffer.specs.Contents.{Contents, as_shipped}
use Rattle.route_tensor.specs.Grid.{ranks, IsGrid}
use Rattle.route_tensor.specs.Link.{links}
use Rattle.route_tensor.specs.Ends.{reader_at}
use Rattle.port_bank.specs.Logs.{lasts}
use mathlib.Core.Logic.{dite}
use native.Mathlib.Decide.{ℕ_discrete}
use Rattle.link_slots.specs.ClosedBank.{ended_of}
use Rattle.link_slots.specs.declared.seat.ends.OutEnd.{OutEnd}
use Rattle.link_slots.specs.declared.seat.ends.InEnd.{InEnd}
use Rattle.link_slots.specs.declared.seat.ear.Ear.{Ear}
use Rattle.link_slots.specs.declared.seat.rank_ends.RankEnds.{RankEnds}
use Rattle.link_slots.specs.declared.seat.rank_ends.EndedCounts.{EndedCounts}
use Rattle.link_slots.specs.Logs.{OutLog, InLog, Lists, no_out, no_in, out_of, in_of, got_of}
use Rattle.link_slots.specs.View.{no_logs, own_logs, logs_or, Speaks, IsAlone, without_pick, pick_alone, speaking_for, gathered}
use Rattle.link_slots.specs.HeldSlots.{Holds}
use Rattle.link_slots.specs.Shape.{Shape, IsShape, wiring, IsBlank}
use Rattle.link_slots.specs.WordSteps.{TableView}
use Rattle.link_slots.specs.OwnLinks.{IsOwn}
use Rattle.list_laws.specs.Counts.{saturated_count}
use Rattle.link_slots.specs.Counts.{IsOutEnd, IsInEnd, IsHeard}
use Rattle.link_slots.specs.Seat.{IsSeat}
use Rattle.link_slots.specs.Gathering.{IsGathering, AreNew}
use Rattle.link_slots.proofs.Opening.{all_one}
use Rattle.link_slots.proofs.Seats as seats

replicate_at : {A : Type 0} (n i : ℕ) (a d : A) → i < n → get_or (replicate n a) i d ≡ a
replicate_at zero i a d h = absurd (omega arith)
replicate_at (suc n) zero a d h = refl
replicate_at (suc n) (suc i) a d h = replicate_at n i a d (omega arith)

pub any_default : {A : Type 0} (l : List A) (i : ℕ) (d e : A) → i < length l → get_or l i d ≡ get_or l i e
any_default [] i d e h = absurd (omega arith)
any_default (x ∷ xs) zero d e h = refl
any_default (x ∷ xs) (suc i) d e h = any_default xs i d e (omega arith)

pub map-replicate : {A B : Type 0} (f : A → B) (n : ℕ) (a : A) → map f (replicate n a) ≡ replicate n (f a)
map-replicate f zero a = refl
map-replicate f (suc n) a = λ k. f a ∷ map-replicate f n a k

none_of : (n : ℕ) (p : ℕ × Contents) → get_elem? [] n ≡ some p → ⊥
none_of n p e = some-ne-none p (sym e)

none_seen : (n : ℕ) (p : Contents) → get_elem? [] n ≡ some p → ⊥
none_seen n p e = some-ne-none p (sym e)

module _ (shape : Shape) where
  no_out_at : (l : ℕ) → out_of {T = Contents} (no_logs (links shape.dims)) l ≡ no_out
  no_out_at l = all_one (links shape.dims) l no_out

  no_in_at : (l : ℕ) → in_of {T = Contents} (no_logs (links shape.dims)) l ≡ no_in
  no_in_at l = all_one (links shape.dims) l no_in

  -- who did nothing holds nothing
  no_hands : (r : ℕ) → Holds IsBlank (wiring shape) r (no_logs (links shape.dims)) []
  no_hands r = record {
    once = λ i j x y a b e. absurd (none_of i x a);
    own = λ i k p e. absurd (none_of i (k, p) e);
    spare = λ l n a b lo hi. absurd (let q = ap (λ (z : OutLog Contents). z.room) (no_out_at l) in omega arith);
    waiting = λ l n p a b lo e. absurd (none_seen n p (ap (λ (z : InLog Contents). get_elem? z.seen n) (sym (no_in_at l)) ∙ e));
  }

  new_seat : (cap : ℕ) (v : TableView) (r : ℕ) (e : RankEnds) → IsShape shape → v.shape ≡ shape → v.pick ≡ r → r < ranks shape.dims → Speaks v → IsAlone v → own_logs v ≡ no_logs (links shape.dims) → AreNew (links shape.dims) e
      → IsSeat cap shape (v, []) r e.outs.items e.ins.items e.ears e.ended.items
  new_seat cap v r e is of pick small speaks alone own new =
      let n : ℕ = links shape.dims in
      let out_at : (l : ℕ) → out_of (own_logs v) l ≡ no_out = λ l. ap (λ (z : Lists Contents). out_of z l) own ∙ no_out_at l in
      let in_at : (l : ℕ) → in_of (own_logs v) l ≡ no_in = λ l. ap (λ (z : Lists Contents). in_of z l) own ∙ no_in_at l in record {
        shaped = is;
        manned = record { of = of; speaks = speaks; holds = subst (λ (z : Lists Contents). Holds IsBlank (wiring shape) v.pick z []) (sym own) (no_hands v.pick) };
        alone = alone;
        own = record {
          outs = ap (λ (z : Lists Contents). length z.outs) own ∙ length-replicate n no_out;
          ins = ap (λ (z : Lists Contents). length z.ins) own ∙ length-replicate n no_in;
          sent = λ l ne. ap (λ (z : OutLog Contents). z.sent) (out_at l);
          got = λ l ne. ap (λ (z : InLog Contents). take z.taken z.seen) (in_at l);
        };
        rank_is = pick;
        rank_small = small;
        outs_many = ap length new.outs ∙ length-replicate n _;
        ins_many = ap length new.ins ∙ length-replicate n _;
        ears_many = ap length new.ears;
        ended_many = ap length new.ended ∙ length-replicate n 0;
        lists_out = ap (λ (z : Lists Contents). length z.outs) own ∙ length-replicate n no_out;
        lists_in = ap (λ (z : Lists Contents). length z.ins) own ∙ length-replicate n no_in;
        each_out = λ l d a b. subst (λ (z : OutLog Contents × OutEnd). IsOutEnd shape.slots z.0 z.1.sent z.1.spare)
            (λ k. (sym (out_at l) k, sym (ap (λ (z : List OutEnd). get_or z l d) new.outs ∙ replicate_at n l _ d a) k))
            (record { sent_is = refl; spare_is = refl; few = omega arith; looked = inl refl });
        each_in = λ l d a b. subst (λ (z : InLog Contents × InEnd). IsInEnd shape.slots z.0 z.1.taken z.1.waiting z.1.noted)
            (λ k. (sym (in_at l) k, sym (ap (λ (z : List InEnd). get_or z l d) new.ins ∙ replicate_at n l _ d a) k))
            (record { taken_is = refl; waiting_is = refl; few = omega arith; noted_before = omega arith });
        each_ear = λ h d a. subst (λ (z : Ear). IsHeard shape r (h + 1) (own_logs v) z.marks z.hears) (sym (ap (λ (z : List Ear). get_or z h d) new.ears ∙ replicate_at 3 h _ d a))
            (record {
              marked = λ l p q t. ap (λ (z : InLog Contents). z.marked) (in_at l) ∙ ap (λ (z : ℕ). eqb z 1) (sym (bit_at-zero ((wiring shape).bit l)));
              heard = λ l p q t. ap (λ (z : InLog Contents). saturated_count z.hears) (sym (in_at l));
            });
        each_good = λ l a b k p at. absurd (none_seen k p (ap (λ (z : InLog Contents). get_elem? z.seen k) (sym (in_at l)) ∙ at));
        each_ended = λ l d a b. ap (λ (z : List ℕ). get_or z l d) new.ended ∙ replicate_at n l 0 d a ∙ ap (λ (z : InLog Contents). saturated_count (lasts (map as_shipped (take z.taken z.seen)))) (sym (in_at l));
      }

module _ (v : TableView) (r : ℕ) (x : Lists Contents) (at : get_or v.lists r None ≡ Some x) (inside : r < length v.lists) where
  pub speaks_for : Speaks (speaking_for v r)
  speaks_for = at ∙ ap Some (sym (ap logs_or at))

  alone_at : get_or (pick_alone (speaking_for v r)).lists r None ≡ Some x
  alone_at = get_or-set_same (map (λ _. None) v.lists) r (get_or v.lists r None) None (subst (λ (z : ℕ). r < z) (sym (length-map v.lists (λ _. None))) inside) ∙ at

  pub alone_own : own_logs (pick_alone (speaking_for v r)) ≡ x
  alone_own = ap logs_or alone_at

  pub alone_alone : IsAlone (pick_alone (speaking_for v r))
  alone_alone q ne = get_or-set_other (map (λ _. None) v.lists) r q (get_or v.lists r None) None ne ∙ nones v.lists q
    where
      nones : {A : Type 0} (l : List A) (q : ℕ) → ◌≡◌ {A = Option (Lists Contents)} (get_or (map (λ _. None) l) q None) None
      nones [] q = refl
      nones (x ∷ xs) zero = refl
      nones (x ∷ xs) (suc q) = nones xs q

  pub alone_speaks : Speaks (pick_alone (speaking_for v r))
  alone_speaks = alone_at ∙ ap Some (sym alone_own)

-- the rank's seat
pub given_seat : (cap : ℕ) (shape : Shape) (v : TableView) (r : ℕ) (e : RankEnds) (m : Me Contents TableView) → IsShape shape → v.shape ≡ shape → r < ranks shape.dims → length v.lists ≡ ranks shape.dims
    → get_or v.lists r None ≡ Some (no_logs (links shape.dims)) → AreNew (links shape.dims) e → m ≡ (pick_alone (speaking_for v r), []) → IsSeat cap m.0.shape m r e.outs.items e.ins.items e.ears e.ended.items
given_seat cap shape v r e m is of small many at new me =
    let inside : r < length v.lists = omega arith in
    let shaped : m.0.shape ≡ shape = ap (λ (z : Me Contents TableView). z.0.shape) me ∙ of in
    subst (λ (z : Shape × Me Contents TableView). IsSeat cap z.0 z.1 r e.outs.items e.ins.items e.ears e.ended.items) (λ k. (sym shaped k, sym me k))
    (new_seat shape cap (pick_alone (speaking_for v r)) r e is of refl small (alone_speaks v r (no_logs (links shape.dims)) at inside) (alone_alone v r (no_logs (links shape.dims)) at inside) (alone_own v r (no_logs (links shape.dims)) at inside) new)

read_none : {A : Type 0} (l : List (Option A)) (i : ℕ) → get_or (set l i None) i None ≡ None
read_none [] i = refl
read_none (x ∷ xs) zero = refl
read_none (x ∷ xs) (suc i) = read_none xs i

-- what is left with the gathering seat
pub left_gathering : (shape : Shape) (m m' : Me Contents TableView) (ends : List (Option RankEnds)) (ended : List (Option EndedCounts)) (r : ℕ) → IsGathering shape m ends ended → m' ≡ (without_pick (speaking_for m.0 r), m.1) → IsGathering m'.0.shape m' (set ends r None) (set ended r None)
left_gathering shape m m' ends ended r is me =
    let shaped : m'.0.shape ≡ shape = ap (λ (z : Me Contents TableView). z.0.shape) me ∙ is.of in
    let lists : m'.0.lists ≡ set m.0.lists r None = ap (λ (z : Me Contents TableView). z.0.lists) me in
    subst (λ (z : Shape). IsGathering z m' (set ends r None) (set ended r None)) (sym shaped) (record {
      shaped = is.shaped;
      of = shaped;
      no_slots = ap (λ (z : Me Contents TableView). z.1) me ∙ is.no_slots;
      lists_many = ap length lists ∙ length-set m.0.lists r None ∙ is.lists_many;
      ends_many = length-set ends r None ∙ is.ends_many;
      each_new = λ q e h. ⊎_elim (λ t. absurd (no_some e t.1))
          (λ t. let old = is.each_new q e t.1 in (old.0, ap (λ (z : List (Option (Lists Contents))). get_or z q None) lists ∙ get_or-set_other m.0.lists r q None None t.0 ∙ old.1))
          (seats.written ends r q None e h);
      each_own = λ q x h. ⊎_elim (λ t. absurd (no_some x t.1)) (λ t. is.each_own q x t.1) (seats.written m.0.lists r q None x (sym (ap (λ (z : List (Option (Lists Contents))). get_or z q None) lists) ∙ h));
      ended_many = length-set ended r None ∙ is.ended_many;
      each_ended = λ q l a b. dite (ℕ_discrete q r)
          (λ s. ap (λ (z : Option EndedCounts). ended_of z l) (ap (λ (z : ℕ). get_or (set ended r None) z None) s ∙ read_none ended r)
          ∙ ap (λ (z : Option (Lists Contents)). saturated_count (lasts (map as_shipped (got_of (logs_or z) l)))) (sym (ap (λ (z : List (Option (Lists Contents))). get_or z q None) lists ∙ ap (λ (z : ℕ). get_or (set m.0.lists r None) z None) s ∙ read_none m.0.lists r)))
          (λ ne. ap (λ (z : Option EndedCounts). ended_of z l) (get_or-set_other ended r q None None ne) ∙ is.each_ended q l a b
          ∙ ap (λ (z : Option (Lists Contents)). saturated_count (lasts (map as_shipped (got_of (logs_or z) l)))) (sym (ap (λ (z : List (Option (Lists Contents))). get_or z q None) lists ∙ get_or-set_other m.0.lists r q None None ne)));
    })
  where
    no_some : {A : Type 0} (y : A) → None ≡ Some y → ⊥
    no_some y e = cc

-- the bank's table has a word for each rank
pub rank_word : (shape : Shape) (r : ℕ) → IsGrid shape.dims → r < ranks shape.dims → r < ranks shape.dims * length shape.dims
rank_word shape r g h = let f = g.some in let p : ranks shape.dims * 1 ≤ ranks shape.dims * length shape.dims = mul-le-mul_left (ranks shape.dims) f in let q = mul-one (ranks shape.dims) in omega arith

-- what the gathering seat has after it took in a rank's view
pub more_gathered : (shape : Shape) (m m' : Me Contents TableView) (u : TableView) (ends : List (Option RankEnds)) (ended : List (Option EndedCounts)) (e : EndedCounts) → IsGathering shape m ends ended → u.shape ≡ shape → u.pick < ranks shape.dims → Speaks u → IsOwn shape.dims u.pick (own_logs u)
    → ((l : ℕ) → l < links shape.dims → reader_at shape.dims l ≡ u.pick → get_or e.counts.items l 0 ≡ saturated_count (lasts (map as_shipped (got_of (own_logs u) l))))
    → m' ≡ (gathered m.0 u, m.1) → IsGathering m'.0.shape m' (set ends u.pick None) (set ended u.pick (Some e))
more_gathered shape m m' u ends ended e is of small speaks own counts me =
    let r : ℕ = u.pick in
    let shaped : m'.0.shape ≡ shape = ap (λ (z : Me Contents TableView). z.0.shape) me ∙ of in
    let lists : m'.0.lists ≡ set m.0.lists r (Some (own_logs u)) = ap (λ (z : Me Contents TableView). z.0.lists) me ∙ ap (set m.0.lists r) speaks in
    subst (λ (z : Shape). IsGathering z m' (set ends r None) (set ended r (Some e))) (sym shaped) (record {
      shaped = is.shaped;
      of = shaped;
      no_slots = ap (λ (z : Me Contents TableView). z.1) me ∙ is.no_slots;
      lists_many = ap length lists ∙ length-set m.0.lists r (Some (own_logs u)) ∙ is.lists_many;
      ends_many = length-set ends r None ∙ is.ends_many;
      each_new = λ q f h. ⊎_elim (λ t. absurd (no_some f t.1))
          (λ t. let old = is.each_new q f t.1 in (old.0, ap (λ (z : List (Option (Lists Contents))). get_or z q None) lists ∙ get_or-set_other m.0.lists r q (Some (own_logs u)) None t.0 ∙ old.1))
          (seats.written ends r q None f h);
      each_own = λ q x h. ⊎_elim (λ t. let same : own_logs u ≡ x = (let e : Some (own_logs u) ≡ Some x = t.1 in cc) in subst (λ (z : ℕ × Lists Contents). IsOwn shape.dims z.0 z.1) (λ k. (sym t.0 k, same k)) own) (λ t. is.each_own q x t.1)
          (seats.written m.0.lists r q (Some (own_logs u)) x (sym (ap (λ (z : List (Option (Lists Contents))). get_or z q None) lists) ∙ h));
      ended_many = length-set ended r (Some e) ∙ is.ended_many;
      each_ended = λ q l a b. dite (ℕ_discrete q r)
          (λ s. ap (λ (z : Option EndedCounts). ended_of z l) (ap (λ (z : ℕ). get_or (set ended r (Some e)) z None) s ∙ get_or-set_same ended r (Some e) None (let n = is.ended_many in omega arith))
          ∙ counts l a (b ∙ s)
          ∙ ap (λ (z : Option (Lists Contents)). saturated_count (lasts (map as_shipped (got_of (logs_or z) l)))) (sym (ap (λ (z : List (Option (Lists Contents))). get_or z q None) lists ∙ ap (λ (z : ℕ). get_or (set m.0.lists r (Some (own_logs u))) z None) s ∙ get_or-set_same m.0.lists r (Some (own_logs u)) None (let n = is.lists_many in omega arith))))
          (λ ne. ap (λ (z : Option EndedCounts). ended_of z l) (get_or-set_other ended r q (Some e) None ne) ∙ is.each_ended q l a b
          ∙ ap (λ (z : Option (Lists Contents)). saturated_count (lasts (map as_shipped (got_of (logs_or z) l)))) (sym (ap (λ (z : List (Option (Lists Contents))). get_or z q None) lists ∙ get_or-set_other m.0.lists r q (Some (own_logs u)) None ne)));
    })
  where
    no_some : {A : Type 0} (y : A) → None ≡ Some y → ⊥
    no_some y e = cc
