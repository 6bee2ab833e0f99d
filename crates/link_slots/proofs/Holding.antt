-- What a seat holds, under each step.
use Rattle.std.proofs.Common.{◌≡◌, ◌≢◌, ℕ, zero, suc, ◌+◌, ◌<◌, ◌≤◌, ◌⊎◌, List, [], ◌∷◌, ◌++◌, length, sym, refl, ap, ◌∙◌, subst, inl, inr, ⊎_elim, arith, length-append}
use mathlib.Core.Option.{Option, some, some-injective}
use mathlib.Core.Logic.{dite}
use native.Mathlib.Decide.{ℕ_discrete}
use lib.ListN.{get_elem?}
use Rattle.atomic_table.proofs.Lists.{at_longer, at_last}
use Rattle.link_slots.specs.Logs.{OutLog, InLog, Lists, out_of, in_of}
use Rattle.link_slots.specs.Wiring.{Wiring, slot_of}
use Rattle.link_slots.specs.Link.{LinkOk}
use Rattle.link_slots.specs.HeldSlots.{Has, NoTwice, Own, Holds}
use Rattle.link_slots.proofs.Lookups.{at_inside, snoc_case}
use Rattle.link_slots.proofs.Ring.{same_link, same_number}
use Rattle.link_slots.proofs.Carried.{Away, without, stands, stays}

module _ {T : Type 0} where
  pub one_more : (k : ℕ) (p : T) (c : List (ℕ × T)) → NoTwice c → ((i : ℕ) (x : ℕ × T) → get_elem? c i ≡ some x → x.0 ≢ k) → NoTwice ((k, p) ∷ c)
  one_more k p c once new zero zero x y a b e = refl
  one_more k p c once new zero (suc j) x y a b e = absurd (new j y b (sym e ∙ sym (ap (λ (z : ℕ × T). z.0) (some-injective (k, p) x a))))
  one_more k p c once new (suc i) zero x y a b e = absurd (new i x a (e ∙ sym (ap (λ (z : ℕ × T). z.0) (some-injective (k, p) y b))))
  one_more k p c once new (suc i) (suc j) x y a b e = ap suc (once i j x y a b e)

  pub one_less : (y : ℕ × T) (c : List (ℕ × T)) → NoTwice (y ∷ c) → NoTwice c
  one_less y c once i j a b p q e = let h : suc i ≡ suc j = once (suc i) (suc j) a b p q e in omega arith

  -- the front slot is not in the rest
  pub front_alone : (k : ℕ) (p : T) (c : List (ℕ × T)) → NoTwice ((k, p) ∷ c) → (i : ℕ) (x : ℕ × T) → get_elem? c i ≡ some x → x.0 ≢ k
  front_alone k p c once i x e h = let n : suc i ≡ zero = once (suc i) zero x (k, p) e refl h in omega arith

  -- what stands in the list and isn't in front stands in the rest
  pub behind : (k : ℕ) (p : T) (c : List (ℕ × T)) (z : ℕ × T) → z.0 ≢ k → (j : ℕ) × (get_elem? ((k, p) ∷ c) j ≡ some z) → (j : ℕ) × (get_elem? c j ≡ some z)
  behind k p c z ne t = behind_at k p c z ne t.0 t.1
    where
      behind_at : (k : ℕ) (p : T) (c : List (ℕ × T)) (z : ℕ × T) → z.0 ≢ k → (j : ℕ) → get_elem? ((k, p) ∷ c) j ≡ some z → (j : ℕ) × (get_elem? c j ≡ some z)
      behind_at k p c z ne zero e = absurd (ne (sym (ap (λ (y : ℕ × T). y.0) (some-injective (k, p) z e))))
      behind_at k p c z ne (suc j) e = (j, e)

  -- two ranks' lists that differ at one link alone
  pub record Else (l : ℕ) (x x' : Lists T) : Type 0 where
    pub outs : (m : ℕ) → m ≢ l → out_of x' m ≡ out_of x m
    pub ins : (m : ℕ) → m ≢ l → in_of x' m ≡ in_of x m

module _ {T : Type 0} (Blank : T → Type 0) (w : Wiring) (r : ℕ) where
  abbrev H : Lists T → List (ℕ × T) → Type 0
  H x c = Holds Blank w r x c

  -- what is rung, heard and counted is nothing to the hands
  pub holds_same : (x x' : Lists T) (c : List (ℕ × T)) → ((m : ℕ) → (out_of x' m).sent ≡ (out_of x m).sent) → ((m : ℕ) → (out_of x' m).room ≡ (out_of x m).room)
      → ((m : ℕ) → (in_of x' m).taken ≡ (in_of x m).taken) → ((m : ℕ) → (in_of x' m).seen ≡ (in_of x m).seen) → H x c → H x' c
  holds_same x x' c sent room taken seen h = record {
    once = h.once;
    own = λ i k p e. ⊎_elim
        (λ t. inl (t.0, t.1, t.2, t.3, (let q = ap length (sent t.0) in let z = t.4 in omega arith), (let q = room t.0 in let z = t.5 in omega arith), t.6, t.7))
        (λ t. inr (t.0, t.1, t.2, t.3, (let q = taken t.0 in let z = t.4 in omega arith), t.5, ap (λ (z : List T). get_elem? z t.1) (seen t.0) ∙ t.6))
        (h.own i k p e);
    spare = λ l n a b lo hi. let q = ap length (sent l) in let z = room l in h_spare x x' c l n a b (omega arith) (omega arith) (ap length (sent l)) h;
    waiting = λ l n p a b lo e. h.waiting l n p a b (let q = taken l in omega arith) (ap (λ (z : List T). get_elem? z n) (sym (seen l)) ∙ e);
  }
    where
      h_spare : (x x' : Lists T) (c : List (ℕ × T)) (l n : ℕ) → l < w.links → w.from l ≡ r → length (out_of x l).sent ≤ n → n < (out_of x l).room → length (out_of x' l).sent ≡ length (out_of x l).sent → H x c → (b : T) × Blank b × Has c (slot_of w l n) b
      h_spare x x' c l n a b lo hi q h = h.spare l n a b lo hi

  -- the wanted slot in front
  pub holds_in_front : (x : Lists T) (c : List (ℕ × T)) (i : ℕ) (y : ℕ × T) → get_elem? c i ≡ some y → H x c → H x (y ∷ without c i)
  holds_in_front x c i y at h = record {
    once = one_more y.0 y.1 (without c i) (λ a b p q ea eb e. let s = stands c i a p ea in let t = stands c i b q eb in
        let same : s.0 ≡ t.0 = h.once s.0 t.0 p q s.1 t.1 e in
        same_place i a b s.0 t.0 s.3 t.3 same)
        (λ j z e q. let s = stands c i j z e in s.2 (h.once s.0 i z y s.1 at q));
    own = λ j k p e. owns j k p e;
    spare = λ l n a b lo hi. let t = h.spare l n a b lo hi in (t.0, t.1, moved (slot_of w l n, t.0) t.2);
    waiting = λ l n p a b lo e. moved (slot_of w l n, p) (h.waiting l n p a b lo e);
  }
    where
      same_place : (i a b s t : ℕ) → ((a < i) × (s ≡ a) ⊎ (i ≤ a) × (s ≡ suc a)) → ((b < i) × (t ≡ b) ⊎ (i ≤ b) × (t ≡ suc b)) → s ≡ t → a ≡ b
      same_place i a b s t u v e = ⊎_elim (λ p. ⊎_elim (λ q. omega arith) (λ q. omega arith) v) (λ p. ⊎_elim (λ q. omega arith) (λ q. omega arith) v) u

      owns : (j k : ℕ) (p : T) → get_elem? (y ∷ without c i) j ≡ some (k, p) → Own Blank w r x k p
      owns zero k p e = h.own i k p (at ∙ e)
      owns (suc j) k p e = let s = stands c i j (k, p) e in h.own s.0 k p s.1

      moved : (z : ℕ × T) → (j : ℕ) × (get_elem? c j ≡ some z) → (j : ℕ) × (get_elem? (y ∷ without c i) j ≡ some z)
      moved z t = dite (ℕ_discrete t.0 i) (λ e. (zero, sym at ∙ ap (get_elem? c) (sym e) ∙ t.1)) (λ n. let s = stays c i t.0 z t.1 n in (suc s.0, s.1))

  -- one empty slot more
  pub holds_room : (x x' : Lists T) (c : List (ℕ × T)) (l : ℕ) (b : T) → l < w.links → w.from l ≡ r → Else l x x' → (out_of x' l).sent ≡ (out_of x l).sent → (out_of x' l).room ≡ suc (out_of x l).room
      → in_of x' l ≡ in_of x l → length (out_of x l).sent ≤ (out_of x l).room → Blank b → ((i : ℕ) (z : ℕ × T) → get_elem? c i ≡ some z → z.0 ≢ slot_of w l (out_of x l).room)
      → H x c → H x' ((slot_of w l (out_of x l).room, b) ∷ c)
  holds_room x x' c l b inside mine els sent room ins below blank new h =
      let N : ℕ = (out_of x l).room in
      let all_ins : (m : ℕ) → in_of x' m ≡ in_of x m = λ m. dite (ℕ_discrete m l) (λ e. ap (in_of x') e ∙ ins ∙ ap (in_of x) (sym e)) (λ n. els.ins m n) in record {
        once = one_more (slot_of w l N) b c h.once new;
        own = λ i k p e. owns all_ins i k p e;
        spare = λ m n a q lo hi. dite (ℕ_discrete m l)
            (λ e. dite (ℕ_discrete n N) (λ s. (b, blank, (zero, ap (λ (z : ℕ × ℕ). some (slot_of w z.0 z.1, b)) (λ k. (sym e k, sym s k)))))
            (λ s. let lo' : length (out_of x l).sent ≤ n = subst (λ (z : List T). length z ≤ n) (ap (λ (z : ℕ). (out_of x' z).sent) e ∙ sent) lo in
            let hi' : n < suc N = subst (λ (z : ℕ). n < z) (ap (λ (z : ℕ). (out_of x' z).room) e ∙ room) hi in
            let t = h.spare l n inside mine lo' (omega arith) in (t.0, t.1, (suc t.2.0, t.2.1 ∙ ap (λ (z : ℕ). some (slot_of w z n, t.0)) (sym e)))))
            (λ ne. let t = h.spare m n a q (subst (λ (z : OutLog T). length z.sent ≤ n) (els.outs m ne) lo) (subst (λ (z : OutLog T). n < z.room) (els.outs m ne) hi) in (t.0, t.1, (suc t.2.0, t.2.1)));
        waiting = λ m n p a q lo e. let t = h.waiting m n p a q (subst (λ (z : InLog T). z.taken ≤ n) (all_ins m) lo) (ap (λ (z : InLog T). get_elem? z.seen n) (sym (all_ins m)) ∙ e) in (suc t.0, t.1);
      }
    where
      owns : ((m : ℕ) → in_of x' m ≡ in_of x m) → (i k : ℕ) (p : T) → get_elem? ((slot_of w l (out_of x l).room, b) ∷ c) i ≡ some (k, p) → Own Blank w r x' k p
      owns all_ins zero k p e = let q : (slot_of w l (out_of x l).room, b) ≡ (k, p) = some-injective (slot_of w l (out_of x l).room, b) (k, p) e in
          inl (l, (out_of x l).room, inside, mine, (let z = ap length sent in omega arith), (omega arith), sym (ap (λ (z : ℕ × T). z.0) q), subst Blank (ap (λ (z : ℕ × T). z.1) q) blank)
      owns all_ins (suc i) k p e = ⊎_elim
          (λ t. dite (ℕ_discrete t.0 l)
          (λ s. inl (
            l,
            t.1,
            inside,
            mine,
            subst (λ (z : List T). length z ≤ t.1) (ap (λ (z : ℕ). (out_of x z).sent) s ∙ sym sent) t.4,
            (let u : t.1 < (out_of x l).room = subst (λ (z : ℕ). t.1 < (out_of x z).room) s t.5 in omega arith),
            t.6 ∙ ap (λ (z : ℕ). slot_of w z t.1) s,
            t.7,
          ))
          (λ ne. inl (t.0, t.1, t.2, t.3, subst (λ (z : OutLog T). length z.sent ≤ t.1) (sym (els.outs t.0 ne)) t.4, subst (λ (z : OutLog T). t.1 < z.room) (sym (els.outs t.0 ne)) t.5, t.6, t.7)))
          (λ t. inr (t.0, t.1, t.2, t.3, subst (λ (z : InLog T). z.taken ≤ t.1) (sym (all_ins t.0)) t.4, t.5, ap (λ (z : InLog T). get_elem? z.seen t.1) (all_ins t.0) ∙ t.6))
          (h.own i k p e)

  -- one parcel more is seen
  pub holds_seen : (x x' : Lists T) (c : List (ℕ × T)) (l : ℕ) (p : T) → l < w.links → w.to l ≡ r → Else l x x' → (in_of x' l).seen ≡ (in_of x l).seen ++ p ∷ [] → (in_of x' l).taken ≡ (in_of x l).taken
      → out_of x' l ≡ out_of x l → (in_of x l).taken ≤ length (in_of x l).seen → ((i : ℕ) (z : ℕ × T) → get_elem? c i ≡ some z → z.0 ≢ slot_of w l (length (in_of x l).seen))
      → H x c → H x' ((slot_of w l (length (in_of x l).seen), p) ∷ c)
  holds_seen x x' c l p inside mine els seen taken outs below new h =
      let N : ℕ = length (in_of x l).seen in
      let all_outs : (m : ℕ) → out_of x' m ≡ out_of x m = λ m. dite (ℕ_discrete m l) (λ e. ap (out_of x') e ∙ outs ∙ ap (out_of x) (sym e)) (λ n. els.outs m n) in record {
        once = one_more (slot_of w l N) p c h.once new;
        own = λ i k q e. owns all_outs i k q e;
        spare = λ m n a q lo hi. let t = h.spare m n a q (subst (λ (z : OutLog T). length z.sent ≤ n) (all_outs m) lo) (subst (λ (z : OutLog T). n < z.room) (all_outs m) hi) in (t.0, t.1, (suc t.2.0, t.2.1));
        waiting = λ m n q a s lo e. dite (ℕ_discrete m l)
            (λ same. let e' : get_elem? ((in_of x l).seen ++ p ∷ []) n ≡ some q = ap (λ (z : List T). get_elem? z n) (sym (ap (λ (z : ℕ). (in_of x' z).seen) same ∙ seen)) ∙ e in
            let lo' : (in_of x l).taken ≤ n = subst (λ (z : ℕ). z ≤ n) (ap (λ (z : ℕ). (in_of x' z).taken) same ∙ taken) lo in
            ⊎_elim (λ old. let t = h.waiting l n q inside mine lo' old in (suc t.0, t.1 ∙ ap (λ (z : ℕ). some (slot_of w z n, q)) (sym same)))
            (λ u. (zero, ap (λ (z : ℕ × ℕ × T). some (slot_of w z.0 z.1, z.2)) (λ k. (sym same k, sym u.0 k, u.1 k)))) (snoc_case (in_of x l).seen p q n e'))
            (λ ne. let t = h.waiting m n q a s (subst (λ (z : InLog T). z.taken ≤ n) (els.ins m ne) lo) (ap (λ (z : InLog T). get_elem? z.seen n) (sym (els.ins m ne)) ∙ e) in (suc t.0, t.1));
      }
    where
      owns : ((m : ℕ) → out_of x' m ≡ out_of x m) → (i k : ℕ) (q : T) → get_elem? ((slot_of w l (length (in_of x l).seen), p) ∷ c) i ≡ some (k, q) → Own Blank w r x' k q
      owns all_outs zero k q e = let z : (slot_of w l (length (in_of x l).seen), p) ≡ (k, q) = some-injective (slot_of w l (length (in_of x l).seen), p) (k, q) e in
          let there : get_elem? (in_of x' l).seen (length (in_of x l).seen) ≡ some q = ap (λ (y : List T). get_elem? y (length (in_of x l).seen)) seen ∙ at_last (in_of x l).seen p (length (in_of x l).seen) refl ∙ ap (λ (y : ℕ × T). some y.1) z in
          inr (l, length (in_of x l).seen, inside, mine, subst (λ (y : ℕ). y ≤ length (in_of x l).seen) (sym taken) below, sym (ap (λ (y : ℕ × T). y.0) z), there)
      owns all_outs (suc i) k q e = ⊎_elim
          (λ t. inl (t.0, t.1, t.2, t.3, subst (λ (z : OutLog T). length z.sent ≤ t.1) (sym (all_outs t.0)) t.4, subst (λ (z : OutLog T). t.1 < z.room) (sym (all_outs t.0)) t.5, t.6, t.7))
          (λ t. dite (ℕ_discrete t.0 l)
          (λ s. let lo : (in_of x l).taken ≤ t.1 = subst (λ (z : ℕ). (in_of x z).taken ≤ t.1) s t.4 in
          let at : get_elem? (in_of x l).seen t.1 ≡ some q = ap (λ (z : ℕ). get_elem? (in_of x z).seen t.1) (sym s) ∙ t.6 in
          inr (l, t.1, inside, mine, subst (λ (y : ℕ). y ≤ t.1) (sym taken) lo, t.5 ∙ ap (λ (z : ℕ). slot_of w z t.1) s, ap (λ (y : List T). get_elem? y t.1) seen ∙ at_longer (in_of x l).seen (p ∷ []) t.1 q at))
          (λ ne. inr (t.0, t.1, t.2, t.3, subst (λ (z : InLog T). z.taken ≤ t.1) (sym (els.ins t.0 ne)) t.4, t.5, ap (λ (z : InLog T). get_elem? z.seen t.1) (els.ins t.0 ne) ∙ t.6)))
          (h.own i k q e)

  -- a parcel was posted, and its slot is home
  pub holds_posted : (x x' : Lists T) (c : List (ℕ × T)) (l : ℕ) (b p : T) → l < w.links → Else l x x' → (out_of x' l).sent ≡ (out_of x l).sent ++ p ∷ [] → (out_of x' l).room ≡ (out_of x l).room
      → in_of x' l ≡ in_of x l → 0 < w.slots → length (out_of x l).sent < (out_of x l).room → (out_of x l).room ≤ length (out_of x l).sent + w.slots
      → (w.to l ≡ r → (length (in_of x l).seen ≤ length (out_of x l).sent) × ((out_of x l).room ≤ (in_of x l).taken + w.slots))
      → H x ((slot_of w l (length (out_of x l).sent), b) ∷ c) → H x' c
  holds_posted x x' c l b p inside els sent room ins some_slots some_left narrow self h =
      let S : ℕ = length (out_of x l).sent in
      let longer : length (out_of x' l).sent ≡ S + 1 = ap length sent ∙ length-append (out_of x l).sent (p ∷ []) in
      let alone = front_alone (slot_of w l S) b c h.once in
      let all_ins : (m : ℕ) → in_of x' m ≡ in_of x m = λ m. dite (ℕ_discrete m l) (λ e. ap (in_of x') e ∙ ins ∙ ap (in_of x) (sym e)) (λ n. els.ins m n) in record {
        once = one_less (slot_of w l S, b) c h.once;
        own = λ i k q e. ⊎_elim
            (λ t. dite (ℕ_discrete t.0 l)
            (λ s. let lo : S ≤ t.1 = subst (λ (z : ℕ). length (out_of x z).sent ≤ t.1) s t.4 in
            let hi : t.1 < (out_of x' l).room = subst (λ (z : ℕ). t.1 < z) (ap (λ (z : ℕ). (out_of x z).room) s ∙ sym room) t.5 in
            let k_is : k ≡ slot_of w l t.1 = t.6 ∙ ap (λ (z : ℕ). slot_of w z t.1) s in
            let ne : t.1 ≢ S = λ same. alone i (k, q) e (k_is ∙ ap (slot_of w l) same) in
            inl (l, t.1, inside, sym (ap w.from s) ∙ t.3, (omega arith), hi, k_is, t.7))
            (λ ne. inl (t.0, t.1, t.2, t.3, subst (λ (z : OutLog T). length z.sent ≤ t.1) (sym (els.outs t.0 ne)) t.4, subst (λ (z : OutLog T). t.1 < z.room) (sym (els.outs t.0 ne)) t.5, t.6, t.7)))
            (λ t. inr (t.0, t.1, t.2, t.3, subst (λ (z : InLog T). z.taken ≤ t.1) (sym (all_ins t.0)) t.4, t.5, ap (λ (z : InLog T). get_elem? z.seen t.1) (all_ins t.0) ∙ t.6))
            (h.own (suc i) k q e);
        spare = λ m n a q lo hi. dite (ℕ_discrete m l)
            (λ e. let lo' : length (out_of x' l).sent ≤ n = subst (λ (z : ℕ). length (out_of x' z).sent ≤ n) e lo in
            let hi' : n < (out_of x l).room = subst (λ (z : ℕ). n < z) (ap (λ (z : ℕ). (out_of x' z).room) e ∙ room) hi in
            let from_l : w.from l ≡ r = sym (ap w.from e) ∙ q in
            let t = h.spare l n inside from_l (omega arith) hi' in
            let u = behind (slot_of w l S) b c (slot_of w l n, t.0) (λ s. let z : n ≡ S = same_number w some_slots l n S S (omega arith) (omega arith) (omega arith) (omega arith) s in omega arith) t.2 in
            (t.0, t.1, (u.0, u.1 ∙ ap (λ (z : ℕ). some (slot_of w z n, t.0)) (sym e))))
            (λ ne. let t = h.spare m n a q (subst (λ (z : OutLog T). length z.sent ≤ n) (els.outs m ne) lo) (subst (λ (z : OutLog T). n < z.room) (els.outs m ne) hi) in
            (t.0, t.1, behind (slot_of w l S) b c (slot_of w m n, t.0) (λ s. ne (same_link w some_slots m l n S s)) t.2));
        waiting = λ m n q a s lo e.
            let lo' : (in_of x m).taken ≤ n = subst (λ (z : InLog T). z.taken ≤ n) (all_ins m) lo in
            let e' : get_elem? (in_of x m).seen n ≡ some q = ap (λ (z : InLog T). get_elem? z.seen n) (sym (all_ins m)) ∙ e in
            behind (slot_of w l S) b c (slot_of w m n, q)
            (λ same. let link : m ≡ l = same_link w some_slots m l n S same in
            let own = self (sym (ap w.to link) ∙ s) in
            let lo2 : (in_of x l).taken ≤ n = subst (λ (z : ℕ). (in_of x z).taken ≤ n) link lo' in
            let hi2 : n < length (in_of x l).seen = at_inside (in_of x l).seen n q (ap (λ (z : ℕ). get_elem? (in_of x z).seen n) (sym link) ∙ e') in
            let o0 = own.0 in let o1 = own.1 in
            let z : n ≡ S = same_number w some_slots l n S (in_of x l).taken lo2 (omega arith) (omega arith) (omega arith) (sym (ap (λ (z : ℕ). slot_of w z n) link) ∙ same) in omega arith)
            (h.waiting m n q a s lo' e');
      }

  -- a parcel was taken, and its slot is home
  pub holds_released : (x x' : Lists T) (c : List (ℕ × T)) (l : ℕ) (p : T) → l < w.links → Else l x x' → (in_of x' l).seen ≡ (in_of x l).seen → (in_of x' l).taken ≡ suc (in_of x l).taken
      → out_of x' l ≡ out_of x l → 0 < w.slots → (in_of x l).taken < length (in_of x l).seen → length (in_of x l).seen ≤ (in_of x l).taken + w.slots
      → (w.from l ≡ r → (length (in_of x l).seen ≤ length (out_of x l).sent) × ((out_of x l).room ≤ (in_of x l).taken + w.slots))
      → H x ((slot_of w l (in_of x l).taken, p) ∷ c) → H x' c
  holds_released x x' c l p inside els seen taken outs some_slots some_left narrow self h =
      let G : ℕ = (in_of x l).taken in
      let alone = front_alone (slot_of w l G) p c h.once in
      let all_outs : (m : ℕ) → out_of x' m ≡ out_of x m = λ m. dite (ℕ_discrete m l) (λ e. ap (out_of x') e ∙ outs ∙ ap (out_of x) (sym e)) (λ n. els.outs m n) in record {
        once = one_less (slot_of w l G, p) c h.once;
        own = λ i k q e. ⊎_elim
            (λ t. inl (t.0, t.1, t.2, t.3, subst (λ (z : OutLog T). length z.sent ≤ t.1) (sym (all_outs t.0)) t.4, subst (λ (z : OutLog T). t.1 < z.room) (sym (all_outs t.0)) t.5, t.6, t.7))
            (λ t. dite (ℕ_discrete t.0 l)
            (λ s. let lo : G ≤ t.1 = subst (λ (z : ℕ). (in_of x z).taken ≤ t.1) s t.4 in
            let k_is : k ≡ slot_of w l t.1 = t.5 ∙ ap (λ (z : ℕ). slot_of w z t.1) s in
            let ne : t.1 ≢ G = λ same. alone i (k, q) e (k_is ∙ ap (slot_of w l) same) in
            inr (l, t.1, inside, sym (ap w.to s) ∙ t.3, (omega arith), k_is, ap (λ (z : List T). get_elem? z t.1) seen ∙ ap (λ (z : ℕ). get_elem? (in_of x z).seen t.1) (sym s) ∙ t.6))
            (λ ne. inr (t.0, t.1, t.2, t.3, subst (λ (z : InLog T). z.taken ≤ t.1) (sym (els.ins t.0 ne)) t.4, t.5, ap (λ (z : InLog T). get_elem? z.seen t.1) (els.ins t.0 ne) ∙ t.6)))
            (h.own (suc i) k q e);
        spare = λ m n a q lo hi.
            let lo' : length (out_of x m).sent ≤ n = subst (λ (z : OutLog T). length z.sent ≤ n) (all_outs m) lo in
            let hi' : n < (out_of x m).room = subst (λ (z : OutLog T). n < z.room) (all_outs m) hi in
            let t = h.spare m n a q lo' hi' in (
              t.0,
              t.1,
              behind (slot_of w l G) p c (slot_of w m n, t.0)
                  (λ same. let link : m ≡ l = same_link w some_slots m l n G same in
                  let own = self (sym (ap w.from link) ∙ q) in
                  let lo2 : length (out_of x l).sent ≤ n = subst (λ (z : ℕ). length (out_of x z).sent ≤ n) link lo' in
                  let hi2 : n < (out_of x l).room = subst (λ (z : ℕ). n < (out_of x z).room) link hi' in
                  let o0 = own.0 in let o1 = own.1 in
                  let z : n ≡ G = same_number w some_slots l n G G (omega arith) (omega arith) (omega arith) (omega arith) (sym (ap (λ (z : ℕ). slot_of w z n) link) ∙ same) in omega arith)
                  t.2,
            );
        waiting = λ m n q a s lo e. dite (ℕ_discrete m l)
            (λ same. let lo' : suc G ≤ n = subst (λ (z : ℕ). z ≤ n) (ap (λ (z : ℕ). (in_of x' z).taken) same ∙ taken) lo in
            let e' : get_elem? (in_of x l).seen n ≡ some q = ap (λ (z : List T). get_elem? z n) (sym (ap (λ (z : ℕ). (in_of x' z).seen) same ∙ seen)) ∙ e in
            let hi : n < length (in_of x l).seen = at_inside (in_of x l).seen n q e' in
            let to_l : w.to l ≡ r = sym (ap w.to same) ∙ s in
            let u = behind (slot_of w l G) p c (slot_of w l n, q) (λ k. let z : n ≡ G = same_number w some_slots l n G G (omega arith) (omega arith) (omega arith) (omega arith) k in omega arith) (h.waiting l n q inside to_l (omega arith) e') in
            (u.0, u.1 ∙ ap (λ (z : ℕ). some (slot_of w z n, q)) (sym same)))
            (λ ne. behind (slot_of w l G) p c (slot_of w m n, q) (λ k. ne (same_link w some_slots m l n G k))
            (h.waiting m n q a s (subst (λ (z : InLog T). z.taken ≤ n) (els.ins m ne) lo) (ap (λ (z : InLog T). get_elem? z.seen n) (sym (els.ins m ne)) ∙ e)));
      }

-- the slots that a seat holds are away from home
module _ {T : Type 0} (Blank : T → Type 0) (Good : ℕ → List T → T → Type 0) (w : Wiring) where
  pub holds_away : (r : ℕ) (logs : ℕ → Lists T) (ws : List ℕ) (hs : List (Option T)) (c : List (ℕ × T))
      → ((l : ℕ) → l < w.links → LinkOk Blank Good w l (out_of (logs (w.from l)) l) (in_of (logs (w.to l)) l) ws hs) → Holds Blank w r (logs r) c → Away hs c
  holds_away r logs ws hs c ok h = record {
    once = h.once;
    out = λ i x e. ⊎_elim
        (λ t. ap (get_elem? hs) t.6 ∙ (ok t.0 t.2).room_away t.1 (subst (λ (q : ℕ). length (out_of (logs q) t.0).sent ≤ t.1) (sym t.3) t.4) (subst (λ (q : ℕ). t.1 < (out_of (logs q) t.0).room) (sym t.3) t.5))
        (λ t. ap (get_elem? hs) t.5 ∙ (ok t.0 t.2).seen_away t.1 (subst (λ (q : ℕ). (in_of (logs q) t.0).taken ≤ t.1) (sym t.3) t.4)
        (subst (λ (q : ℕ). t.1 < length (in_of (logs q) t.0).seen) (sym t.3) (at_inside (in_of (logs r) t.0).seen t.1 x.1 t.6)))
        (h.own i x.0 x.1 e);
  }
