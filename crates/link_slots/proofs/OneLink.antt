-- One link stays in order under each single move: a slot is taken, or given back with the step on a
-- counting word.
use Rattle.std.proofs.Common.{◌≡◌, ◌≢◌, ℕ, suc, ◌+◌, ◌*◌, ◌^◌, ◌%◌, ◌<◌, ◌≤◌, Bool, List, [], ◌∷◌, ◌++◌, length, get_or, take, set, sym, ap, ◌∙◌, subst, ⊎_elim, arith, length-append, get_or-set_same, get_or-set_other}
use Rattle.std.proofs.lemmas.List.{take-append-le}
use Rattle.std.proofs.Math.Seq.{take-length}
use Rattle.std.proofs.Math.Nat.{add-mul-mod_self_left, mul-one}
use mathlib.Core.Option.{Option, none, some}
use mathlib.Core.Logic.{dite}
use native.Mathlib.Decide.{ℕ_discrete}
use lib.ListN.{get_elem?}
use Rattle.atomic_table.proofs.Lists.{set_here, set_else}
use Rattle.link_slots.specs.Logs.{OutLog, InLog}
use Rattle.link_slots.specs.Wiring.{Wiring, IsWired, slot_of, posted_word, released_word}
use Rattle.link_slots.specs.Link.{LinkOk}
use Rattle.link_slots.proofs.Lookups.{at_inside, take_next, snoc_case}
use Rattle.link_slots.proofs.Ring.{same_number, slot_inside}

module _ {T : Type 0} (Blank : T → Type 0) (Good : ℕ → List T → T → Type 0) (w : Wiring) (wired : IsWired w) where
  abbrev Ok : ℕ → OutLog T → InLog T → List ℕ → List (Option T) → Type 0
  Ok = LinkOk Blank Good w

  abbrev slot : ℕ → ℕ → ℕ
  slot = slot_of w

  -- a link's facts speak of its own words and slots alone, and not of what is rung and heard
  pub link_kept : (l : ℕ) (o : OutLog T) (i : InLog T) (ws ws' : List ℕ) (hs hs' : List (Option T)) (offered looks rung_at hears heard look_ins released_at : ℕ) (marked : Bool)
      → get_or ws' (posted_word l) 0 ≡ get_or ws (posted_word l) 0 → get_or ws' (released_word l) 0 ≡ get_or ws (released_word l) 0
      → ((n : ℕ) → get_elem? hs' (slot l n) ≡ get_elem? hs (slot l n)) → Ok l o i ws hs
      → Ok l (record { sent = o.sent; room = o.room; offered = offered; looks = looks; rung_at = rung_at }) (record { seen = i.seen; taken = i.taken; marked = marked; hears = hears; heard = heard; look_ins = look_ins; released_at = released_at }) ws' hs'
  link_kept l o i ws ws' hs hs' offered looks rung_at hears heard look_ins released_at marked p q same ok = record {
    posted = p ∙ ok.posted;
    released = q ∙ ok.released;
    taken_seen = ok.taken_seen;
    seen_sent = ok.seen_sent;
    sent_room = ok.sent_room;
    room_slots = ok.room_slots;
    seen_is = ok.seen_is;
    seen_away = λ n a b. same n ∙ ok.seen_away n a b;
    full = λ n p a e. same n ∙ ok.full n p a e;
    room_away = λ n a b. same n ∙ ok.room_away n a b;
    empty = λ n a b. let t = ok.empty n a b in (t.0, t.1, same n ∙ t.2);
    good = ok.good;
  }

  -- another number of the link goes through another slot
  other_slot : (l : ℕ) (i : InLog T) (a n : ℕ) (hs : List (Option T)) (v : Option T) → i.taken ≤ a → a < i.taken + w.slots → i.taken ≤ n → n < i.taken + w.slots → n ≢ a
      → get_elem? (set hs (slot l a) v) (slot l n) ≡ get_elem? hs (slot l n)
  other_slot l i a n hs v la ha ln hn ne = set_else hs (slot l a) (slot l n) v (λ e. ne (same_number w wired.some_slots l n a i.taken ln hn la ha e))

  -- the sender takes the next empty slot
  pub room_taken : (l : ℕ) (o : OutLog T) (i : InLog T) (ws : List ℕ) (hs : List (Option T)) → length hs ≡ w.slots * w.links → l < w.links → Ok l o i ws hs → o.room < i.taken + w.slots
      → Ok l (record o { room = suc o.room }) i ws (set hs (slot l o.room) none)
  room_taken l o i ws hs deep inside ok some_left =
      let o1 = ok.sent_room in let o2 = ok.seen_sent in let o3 = ok.taken_seen in
      let else' : (n : ℕ) → i.taken ≤ n → n < i.taken + w.slots → n ≢ o.room → get_elem? (set hs (slot l o.room) none) (slot l n) ≡ get_elem? hs (slot l n) =
      λ n ln hn ne. other_slot l i o.room n hs none (omega arith) some_left ln hn ne in
      let here : get_elem? (set hs (slot l o.room) none) (slot l o.room) ≡ some none = set_here hs (slot l o.room) none (subst (λ (z : ℕ). slot l o.room < z) (sym deep) (slot_inside w wired.some_slots l o.room inside)) in record {
        posted = ok.posted;
        released = ok.released;
        taken_seen = ok.taken_seen;
        seen_sent = ok.seen_sent;
        sent_room = omega arith;
        room_slots = omega arith;
        seen_is = ok.seen_is;
        seen_away = λ n a b. else' n a (omega arith) (λ e. omega arith) ∙ ok.seen_away n a b;
        full = λ n p a e. let h = at_inside o.sent n p e in else' n (omega arith) (omega arith) (λ q. omega arith) ∙ ok.full n p a e;
        room_away = λ n a b. dite (ℕ_discrete n o.room) (λ e. subst (λ (z : ℕ). get_elem? (set hs (slot l o.room) none) (slot l z) ≡ some none) (sym e) here) (λ ne. else' n (omega arith) (omega arith) ne ∙ ok.room_away n a (omega arith));
        empty = λ n a b. let t = ok.empty n (omega arith) b in (t.0, t.1, else' n (omega arith) b (λ e. omega arith) ∙ t.2);
        good = ok.good;
      }

  -- the sender gives a slot back with the next parcel
  pub parcel_posted : (l : ℕ) (o : OutLog T) (i : InLog T) (ws : List ℕ) (hs : List (Option T)) (p : T) → length hs ≡ w.slots * w.links → l < w.links → posted_word l < length ws → Ok l o i ws hs
      → length o.sent < o.room → Good l o.sent p
      → Ok l (record o { sent = o.sent ++ p ∷ [] }) i (set ws (posted_word l) ((get_or ws (posted_word l) 0 + 1) % 2 ^ 64)) (set hs (slot l (length o.sent)) (some p))
  parcel_posted l o i ws hs p deep inside word ok some_left is_good =
      let o2 = ok.seen_sent in let o3 = ok.taken_seen in let o4 = ok.room_slots in
      let len : length (o.sent ++ p ∷ []) ≡ length o.sent + 1 = length-append o.sent (p ∷ []) in
      let S : ℕ = length o.sent in
      let else' : (n : ℕ) → i.taken ≤ n → n < i.taken + w.slots → n ≢ S → get_elem? (set hs (slot l S) (some p)) (slot l n) ≡ get_elem? hs (slot l n) =
      λ n ln hn ne. other_slot l i S n hs (some p) (omega arith) (omega arith) ln hn ne in
      let here : get_elem? (set hs (slot l S) (some p)) (slot l S) ≡ some (some p) = set_here hs (slot l S) (some p) (subst (λ (z : ℕ). slot l S < z) (sym deep) (slot_inside w wired.some_slots l S inside)) in record {
        posted = get_or-set_same ws (posted_word l) _ 0 word ∙ (let e = ok.posted in omega arith);
        released = get_or-set_other ws (posted_word l) (released_word l) _ 0 (λ e. omega arith) ∙ ok.released;
        taken_seen = ok.taken_seen;
        seen_sent = omega arith;
        sent_room = omega arith;
        room_slots = ok.room_slots;
        seen_is = ok.seen_is ∙ sym (take-append-le (length i.seen) o.sent (p ∷ []) ok.seen_sent);
        seen_away = λ n a b. else' n a (omega arith) (λ e. omega arith) ∙ ok.seen_away n a b;
        full = λ n q a e. ⊎_elim (λ t. let h = at_inside o.sent n q t in else' n (omega arith) (omega arith) (λ z. omega arith) ∙ ok.full n q a t)
            (λ t. subst (λ (z : ℕ × T). get_elem? (set hs (slot l S) (some p)) (slot l z.0) ≡ some (some z.1)) (λ k. (sym t.0 k, t.1 k)) here) (snoc_case o.sent p q n e);
        room_away = λ n a b. else' n (omega arith) (omega arith) (λ e. omega arith) ∙ ok.room_away n (omega arith) b;
        empty = λ n a b. let t = ok.empty n a b in (t.0, t.1, else' n (omega arith) b (λ e. omega arith) ∙ t.2);
        good = λ n q e. ⊎_elim (λ t. let h = at_inside o.sent n q t in subst (λ (z : List T). Good l z q) (sym (take-append-le n o.sent (p ∷ []) (omega arith))) (ok.good n q t))
            (λ t. subst (λ (z : List T × T). Good l z.0 z.1) (λ k. (sym (ap (λ (m : ℕ). take m (o.sent ++ p ∷ [])) t.0 ∙ take-append-le S o.sent (p ∷ []) (omega arith) ∙ take-length o.sent) k, t.1 k)) is_good) (snoc_case o.sent p q n e);
      }

  -- the reader takes the slot of the next posted parcel
  pub parcel_seen : (l : ℕ) (o : OutLog T) (i : InLog T) (ws : List ℕ) (hs : List (Option T)) (p : T) → length hs ≡ w.slots * w.links → l < w.links → Ok l o i ws hs
      → get_elem? o.sent (length i.seen) ≡ some p
      → Ok l o (record i { seen = i.seen ++ p ∷ [] }) ws (set hs (slot l (length i.seen)) none)
  parcel_seen l o i ws hs p deep inside ok there =
      let o1 = ok.sent_room in let o2 = ok.seen_sent in let o3 = ok.taken_seen in let o4 = ok.room_slots in
      let len : length (i.seen ++ p ∷ []) ≡ length i.seen + 1 = length-append i.seen (p ∷ []) in
      let N : ℕ = length i.seen in let below_S = at_inside o.sent N p there in
      let else' : (n : ℕ) → i.taken ≤ n → n < i.taken + w.slots → n ≢ N → get_elem? (set hs (slot l N) none) (slot l n) ≡ get_elem? hs (slot l n) =
      λ n ln hn ne. other_slot l i N n hs none (omega arith) (omega arith) ln hn ne in
      let here : get_elem? (set hs (slot l N) none) (slot l N) ≡ some none = set_here hs (slot l N) none (subst (λ (z : ℕ). slot l N < z) (sym deep) (slot_inside w wired.some_slots l N inside)) in record {
        posted = ok.posted;
        released = ok.released;
        taken_seen = omega arith;
        seen_sent = omega arith;
        sent_room = ok.sent_room;
        room_slots = ok.room_slots;
        seen_is = ap (λ (z : List T). z ++ p ∷ []) ok.seen_is ∙ sym (take_next o.sent N p there) ∙ (let q : suc N ≡ length (i.seen ++ p ∷ []) = omega arith in ap (λ (z : ℕ). take z o.sent) q);
        seen_away = λ n a b. dite (ℕ_discrete n N) (λ e. subst (λ (z : ℕ). get_elem? (set hs (slot l N) none) (slot l z) ≡ some none) (sym e) here) (λ ne. else' n a (omega arith) ne ∙ ok.seen_away n a (omega arith));
        full = λ n q a e. let h = at_inside o.sent n q e in else' n (omega arith) (omega arith) (λ z. omega arith) ∙ ok.full n q (omega arith) e;
        room_away = λ n a b. else' n (omega arith) (omega arith) (λ e. omega arith) ∙ ok.room_away n a b;
        empty = λ n a b. let t = ok.empty n a b in (t.0, t.1, else' n (omega arith) b (λ e. omega arith) ∙ t.2);
        good = ok.good;
      }

  -- the reader gives the slot of the parcel that it takes back, with an empty one
  pub parcel_released : (l : ℕ) (o : OutLog T) (i : InLog T) (ws : List ℕ) (hs : List (Option T)) (b : T) (looks : ℕ) → length hs ≡ w.slots * w.links → l < w.links → released_word l < length ws → Ok l o i ws hs
      → i.taken < length i.seen → Blank b
      → Ok l o (record i { taken = suc i.taken; released_at = looks }) (set ws (released_word l) ((get_or ws (released_word l) 0 + 1) % 2 ^ 64)) (set hs (slot l i.taken) (some b))
  parcel_released l o i ws hs b looks deep inside word ok some_left is_blank =
      let o1 = ok.sent_room in let o2 = ok.seen_sent in let o4 = ok.room_slots in
      let G : ℕ = i.taken in
      let else' : (n : ℕ) → G ≤ n → n < G + w.slots → n ≢ G → get_elem? (set hs (slot l G) (some b)) (slot l n) ≡ get_elem? hs (slot l n) =
      λ n ln hn ne. other_slot l i G n hs (some b) (omega arith) (omega arith) ln hn ne in
      let here : get_elem? (set hs (slot l G) (some b)) (slot l G) ≡ some (some b) = set_here hs (slot l G) (some b) (subst (λ (z : ℕ). slot l G < z) (sym deep) (slot_inside w wired.some_slots l G inside)) in
      let turn : slot l (G + w.slots) ≡ slot l G = ap (λ (z : ℕ). w.slots * l + z) (let one : w.slots * 1 ≡ w.slots = mul-one w.slots in ap (λ (z : ℕ). (G + z) % w.slots) (sym one) ∙ add-mul-mod_self_left G w.slots 1) in record {
        posted = get_or-set_other ws (released_word l) (posted_word l) _ 0 (λ e. omega arith) ∙ ok.posted;
        released = get_or-set_same ws (released_word l) _ 0 word ∙ (let e = ok.released in omega arith);
        taken_seen = omega arith;
        seen_sent = ok.seen_sent;
        sent_room = ok.sent_room;
        room_slots = omega arith;
        seen_is = ok.seen_is;
        seen_away = λ n a b. else' n (omega arith) (omega arith) (λ e. omega arith) ∙ ok.seen_away n (omega arith) b;
        full = λ n q a e. let h = at_inside o.sent n q e in else' n (omega arith) (omega arith) (λ z. omega arith) ∙ ok.full n q a e;
        room_away = λ n a b. else' n (omega arith) (omega arith) (λ e. omega arith) ∙ ok.room_away n a b;
        empty = λ n a h. dite (ℕ_discrete n (G + w.slots))
            (λ e. (b, is_blank, ap (λ (z : ℕ). get_elem? (set hs (slot l G) (some b)) z) (ap (slot l) e ∙ turn) ∙ here))
            (λ ne. let t = ok.empty n a (omega arith) in (t.0, t.1, else' n (omega arith) (omega arith) (λ e. omega arith) ∙ t.2));
        good = ok.good;
      }
