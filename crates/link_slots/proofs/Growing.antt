-- A seat takes all the slots that came free, or all that were filled, in one step.
use Rattle.std.proofs.Common.{◌≡◌, ◌≢◌, ℕ, zero, suc, ◌+◌, ◌*◌, ◌<◌, ◌≤◌, List, [], ◌∷◌, ◌++◌, length, take, set, sym, refl, ap, ◌∙◌, subst, arith, length-set, get_or-set_same, get_or-set_other}
use Rattle.std.proofs.lemmas.List.{length-take-le}
use mathlib.Core.Option.{Option, none, some, some-injective, some-ne-none}
use mathlib.Core.Logic.{dite}
use native.Mathlib.Decide.{ℕ_discrete}
use lib.ListN.{get_elem?}
use Rattle.atomic_table.specs.Table.{Act, keeps, takes, chain, carried_after, homes_after, Valid}
use Rattle.atomic_table.proofs.Lists.{set_here, set_else}
use Rattle.link_slots.specs.Logs.{OutLog, InLog, Lists, no_out, no_in, out_of, in_of, with_out, with_in}
use Rattle.link_slots.specs.Wiring.{Wiring, IsWired, slot_of}
use Rattle.link_slots.specs.Link.{LinkOk}
use Rattle.link_slots.specs.HeldSlots.{Holds}
use Rattle.link_slots.proofs.Lookups.{at_inside, at_there, take_next}
use Rattle.link_slots.proofs.Ring.{same_link}
use Rattle.link_slots.proofs.Carried.{Away}
use Rattle.link_slots.proofs.OneLink.{room_taken, parcel_seen}
use Rattle.link_slots.proofs.Holding.{holds_same, holds_room, holds_seen, one_more}

not_both : {A : Type 0} (h : Option (Option A)) (b : A) → h ≡ some none → h ≡ some (some b) → ⊥
not_both h b p q = some-ne-none b (some-injective (some b) none (sym q ∙ p))

module _ {T : Type 0} where
  -- a slot at home is none of those in the hands, ..
  pub new_slot : (hs : List (Option T)) (c : List (ℕ × T)) (k : ℕ) (b : T) → Away hs c → get_elem? hs k ≡ some (some b) → (i : ℕ) (z : ℕ × T) → get_elem? c i ≡ some z → z.0 ≢ k
  new_slot hs c k b away home i z e h = not_both (get_elem? hs k) b (ap (get_elem? hs) (sym h) ∙ away.out i z e) home

  -- .. and may be taken
  pub away_more : (hs : List (Option T)) (c : List (ℕ × T)) (k : ℕ) (b : T) → Away hs c → get_elem? hs k ≡ some (some b) → Away (set hs k none) ((k, b) ∷ c)
  away_more hs c k b away home = record {
    once = one_more k b c away.once (new_slot hs c k b away home);
    out = λ i x e. out_at i x e;
  }
    where
      out_at : (i : ℕ) (x : ℕ × T) → get_elem? ((k, b) ∷ c) i ≡ some x → get_elem? (set hs k none) x.0 ≡ some none
      out_at zero x e = ap (λ (z : ℕ × T). get_elem? (set hs k none) z.0) (sym (some-injective (k, b) x e)) ∙ set_here hs k none (at_inside hs k (some b) home)
      out_at (suc i) x e = set_else hs k x.0 none (new_slot hs c k b away home i x e) ∙ away.out i x e

module _ {T : Type 0} (Blank : T → Type 0) (Good : ℕ → List T → T → Type 0) (w : Wiring) (wired : IsWired w) (r l : ℕ) (x : Lists T) (ws : List ℕ) (hs : List (Option T)) (c : List (ℕ × T)) where
  abbrev out_at : ℕ → OutLog T
  out_at n = let o = out_of x l in record { sent = o.sent; room = n; offered = o.offered; looks = o.looks; rung_at = o.rung_at }

  abbrev in_at : List T → ℕ → InLog T
  in_at sent n = let i = in_of x l in record { seen = take n sent; taken = i.taken; marked = i.marked; hears = i.hears; heard = i.heard; look_ins = i.look_ins; released_at = i.released_at }

  -- the sender holds all empty slots below n
  pub record RoomTo (i : InLog T) (n : ℕ) (a : Act T) : Type 0 where
    pub valid : Valid hs c a
    pub deep : length (homes_after hs c a) ≡ length hs
    pub others : (m k : ℕ) → m ≢ l → get_elem? (homes_after hs c a) (slot_of w m k) ≡ get_elem? hs (slot_of w m k)
    pub link : LinkOk Blank Good w l (out_at n) i ws (homes_after hs c a)
    pub holds : Holds Blank w r (with_out x l (out_at n)) (carried_after c a)
    pub away : Away (homes_after hs c a) (carried_after c a)

  -- the reader holds all posted slots below n
  pub record SeenTo (o : OutLog T) (n : ℕ) (a : Act T) : Type 0 where
    pub valid : Valid hs c a
    pub deep : length (homes_after hs c a) ≡ length hs
    pub others : (m k : ℕ) → m ≢ l → get_elem? (homes_after hs c a) (slot_of w m k) ≡ get_elem? hs (slot_of w m k)
    pub link : LinkOk Blank Good w l o (in_at o.sent n) ws (homes_after hs c a)
    pub holds : Holds Blank w r (with_in x l (in_at o.sent n)) (carried_after c a)
    pub away : Away (homes_after hs c a) (carried_after c a)

  here : (o : OutLog T) → l < length x.outs → out_of (with_out x l o) l ≡ o
  here o h = get_or-set_same x.outs l o no_out h

  there : (o : OutLog T) (m : ℕ) → m ≢ l → out_of (with_out x l o) m ≡ out_of x m
  there o m n = get_or-set_other x.outs l m o no_out n

  in_here : (i : InLog T) → l < length x.ins → in_of (with_in x l i) l ≡ i
  in_here i h = get_or-set_same x.ins l i no_in h

  in_there : (i : InLog T) (m : ℕ) → m ≢ l → in_of (with_in x l i) m ≡ in_of x m
  in_there i m n = get_or-set_other x.ins l m i no_in n

  all_same : {A : Type 0} (f g : ℕ → A) → f l ≡ g l → ((m : ℕ) → m ≢ l → f m ≡ g m) → (m : ℕ) → f m ≡ g m
  all_same f g e n m = dite (ℕ_discrete m l) (λ s. ap f s ∙ e ∙ ap g (sym s)) (λ ne. n m ne)

  pub room_to : (i : InLog T) (m n : ℕ) → length hs ≡ w.slots * w.links → l < w.links → w.from l ≡ r → l < length x.outs → LinkOk Blank Good w l (out_of x l) i ws hs → Holds Blank w r x c → Away hs c
      → n ≡ (out_of x l).room + m → n ≤ i.taken + w.slots → (a : Act T) × RoomTo i n a
  room_to i zero n deep inside mine long ok h away e most = (
    keeps,
    record {
      valid = tt;
      deep = refl;
      others = λ _ _ _. refl;
      link = subst (λ (z : ℕ). LinkOk Blank Good w l (out_at z) i ws hs) (let q : (out_of x l).room ≡ n = omega arith in q) ok;
      holds = holds_same Blank w r x (with_out x l (out_at n)) c
          (all_same (λ m. (out_of (with_out x l (out_at n)) m).sent) (λ m. (out_of x m).sent) (ap (λ (z : OutLog T). z.sent) (here (out_at n) long)) (λ m ne. ap (λ (z : OutLog T). z.sent) (there (out_at n) m ne)))
          (all_same (λ m. (out_of (with_out x l (out_at n)) m).room) (λ m. (out_of x m).room) (ap (λ (z : OutLog T). z.room) (here (out_at n) long) ∙ (let q : n ≡ (out_of x l).room = omega arith in q)) (λ m ne. ap (λ (z : OutLog T). z.room) (there (out_at n) m ne)))
          (λ _. refl) (λ _. refl) h;
      away = away;
    },
  )
  room_to i (suc m) n deep inside mine long ok h away e most =
      let N : ℕ = (out_of x l).room + m in
      let before = room_to i m N deep inside mine long ok h away refl (omega arith) in
      let a : Act T = before.0 in let t : RoomTo i N a = before.1 in
      let hs1 : List (Option T) = homes_after hs c a in let c1 : List (ℕ × T) = carried_after c a in
      let free = t.link.empty N (omega arith) (omega arith) in
      let b : T = free.0 in let k : ℕ = slot_of w l N in
      let next : n ≡ suc N = omega arith in
      let x1 : Lists T = with_out x l (out_at N) in let x2 : Lists T = with_out x l (out_at n) in
      let room1 : (out_of x1 l).room ≡ N = ap (λ (z : OutLog T). z.room) (here (out_at N) long) in
      let low : length (out_of x l).sent ≤ N = let q = ok.sent_room in omega arith in
      let held : Holds Blank w r x2 ((slot_of w l (out_of x1 l).room, b) ∷ c1) = holds_room Blank w r x1 x2 c1 l b inside mine
      (record { outs = λ m ne. there (out_at n) m ne ∙ sym (there (out_at N) m ne); ins = λ _ _. refl })
      (ap (λ (z : OutLog T). z.sent) (here (out_at n) long) ∙ sym (ap (λ (z : OutLog T). z.sent) (here (out_at N) long)))
      (ap (λ (z : OutLog T). z.room) (here (out_at n) long) ∙ next ∙ ap suc (sym room1)) refl
      (subst (λ (z : OutLog T). length z.sent ≤ z.room) (sym (here (out_at N) long)) low) free.1
      (λ j z q. subst (λ (y : ℕ). z.0 ≢ slot_of w l y) (sym room1) (new_slot hs1 c1 k b t.away free.2 j z q)) t.holds in (
        chain a (takes k b),
        record {
          valid = (t.valid, free.2);
          deep = length-set hs1 k none ∙ t.deep;
          others = λ q z ne. set_else hs1 k (slot_of w q z) none (λ s. ne (same_link w wired.some_slots q l z N s)) ∙ t.others q z ne;
          link = subst (λ (z : ℕ). LinkOk Blank Good w l (out_at z) i ws (set hs1 k none)) (sym next) (room_taken Blank Good w wired l (out_at N) i ws hs1 (t.deep ∙ deep) inside t.link (omega arith));
          holds = subst (λ (y : ℕ). Holds Blank w r x2 ((slot_of w l y, b) ∷ c1)) room1 held;
          away = away_more hs1 c1 k b t.away free.2;
        },
      )

  pub seen_to : (o : OutLog T) (m n : ℕ) → length hs ≡ w.slots * w.links → l < w.links → w.to l ≡ r → l < length x.ins → LinkOk Blank Good w l o (in_of x l) ws hs → Holds Blank w r x c → Away hs c
      → n ≡ length (in_of x l).seen + m → n ≤ length o.sent → (a : Act T) × SeenTo o n a
  seen_to o zero n deep inside mine long ok h away e most =
      let q : length (in_of x l).seen ≡ n = omega arith in
      let same : take n o.sent ≡ (in_of x l).seen = ap (λ (z : ℕ). take z o.sent) (sym q) ∙ sym ok.seen_is in (
        keeps,
        record {
          valid = tt;
          deep = refl;
          others = λ _ _ _. refl;
          link = let i = in_of x l in subst (λ (z : List T). LinkOk Blank Good w l o (record { seen = z; taken = i.taken; marked = i.marked; hears = i.hears; heard = i.heard; look_ins = i.look_ins; released_at = i.released_at }) ws hs) (sym same) ok;
          holds = holds_same Blank w r x (with_in x l (in_at o.sent n)) c (λ _. refl) (λ _. refl)
              (all_same (λ m. (in_of (with_in x l (in_at o.sent n)) m).taken) (λ m. (in_of x m).taken) (ap (λ (z : InLog T). z.taken) (in_here (in_at o.sent n) long)) (λ m ne. ap (λ (z : InLog T). z.taken) (in_there (in_at o.sent n) m ne)))
              (all_same (λ m. (in_of (with_in x l (in_at o.sent n)) m).seen) (λ m. (in_of x m).seen) (ap (λ (z : InLog T). z.seen) (in_here (in_at o.sent n) long) ∙ same) (λ m ne. ap (λ (z : InLog T). z.seen) (in_there (in_at o.sent n) m ne))) h;
          away = away;
        },
      )
  seen_to o (suc m) n deep inside mine long ok h away e most =
      let N : ℕ = length (in_of x l).seen + m in
      let before = seen_to o m N deep inside mine long ok h away refl (omega arith) in
      let a : Act T = before.0 in let t : SeenTo o N a = before.1 in
      let hs1 : List (Option T) = homes_after hs c a in let c1 : List (ℕ × T) = carried_after c a in
      let len : length (take N o.sent) ≡ N = length-take-le N o.sent (omega arith) in
      let posted = at_there o.sent N (omega arith) in
      let p : T = posted.0 in let k : ℕ = slot_of w l N in
      let home : get_elem? hs1 k ≡ some (some p) = t.link.full N p (omega arith) posted.1 in
      let next : n ≡ suc N = omega arith in
      let longer : take N o.sent ++ p ∷ [] ≡ take n o.sent = sym (take_next o.sent N p posted.1) ∙ ap (λ (z : ℕ). take z o.sent) (sym next) in
      let x1 : Lists T = with_in x l (in_at o.sent N) in let x2 : Lists T = with_in x l (in_at o.sent n) in
      let seen1 : (in_of x1 l).seen ≡ take N o.sent = ap (λ (z : InLog T). z.seen) (in_here (in_at o.sent N) long) in
      let known1 : length (in_of x1 l).seen ≡ N = ap length seen1 ∙ len in
      let low : (in_of x l).taken ≤ length (take N o.sent) = let q = ok.taken_seen in omega arith in
      let held : Holds Blank w r x2 ((slot_of w l (length (in_of x1 l).seen), p) ∷ c1) = holds_seen Blank w r x1 x2 c1 l p inside mine
      (record { outs = λ _ _. refl; ins = λ m ne. in_there (in_at o.sent n) m ne ∙ sym (in_there (in_at o.sent N) m ne) })
      (ap (λ (z : InLog T). z.seen) (in_here (in_at o.sent n) long) ∙ sym longer ∙ ap (λ (z : List T). z ++ p ∷ []) (sym seen1))
      (ap (λ (z : InLog T). z.taken) (in_here (in_at o.sent n) long) ∙ sym (ap (λ (z : InLog T). z.taken) (in_here (in_at o.sent N) long))) refl
      (subst (λ (z : InLog T). z.taken ≤ length z.seen) (sym (in_here (in_at o.sent N) long)) low)
      (λ j z q. subst (λ (y : ℕ). z.0 ≢ slot_of w l y) (sym known1) (new_slot hs1 c1 k p t.away home j z q)) t.holds in
      let linked : LinkOk Blank Good w l o (let i = in_at o.sent N in record { seen = i.seen ++ p ∷ []; taken = i.taken; marked = i.marked; hears = i.hears; heard = i.heard; look_ins = i.look_ins; released_at = i.released_at }) ws (set hs1 (slot_of w l (length (take N o.sent))) none) =
      parcel_seen Blank Good w wired l o (in_at o.sent N) ws hs1 p (t.deep ∙ deep) inside t.link (ap (get_elem? o.sent) len ∙ posted.1) in (
        chain a (takes k p),
        record {
          valid = (t.valid, home);
          deep = length-set hs1 k none ∙ t.deep;
          others = λ q z ne. set_else hs1 k (slot_of w q z) none (λ s. ne (same_link w wired.some_slots q l z N s)) ∙ t.others q z ne;
          link = subst (λ (z : List T × ℕ). LinkOk Blank Good w l o (let i = in_of x l in record { seen = z.0; taken = i.taken; marked = i.marked; hears = i.hears; heard = i.heard; look_ins = i.look_ins; released_at = i.released_at }) ws (set hs1 (slot_of w l z.1) none)) (λ j. (longer j, len j)) linked;
          holds = subst (λ (y : ℕ). Holds Blank w r x2 ((slot_of w l y, p) ∷ c1)) known1 held;
          away = away_more hs1 c1 k p t.away home;
        },
      )
