-- Each kind of step keeps the rule, whatever the table is when it is made.
use Rattle.std.proofs.Common.{◌≡◌, ◌≢◌, ℕ, zero, suc, ◌+◌, ◌-◌, ◌*◌, ◌^◌, ◌%◌, ◌<◌, ◌≤◌, true, false, List, [], ◌∷◌, ◌++◌, length, get_or, take, drop, set, sym, refl, ap, ◌∙◌, subst, arith, Option, Some, None, length-set, length-append, get_or-set_same, get_or-set_other}
use Rattle.std.proofs.lemmas.List.{set-get_or, take-append-le, take-append-drop}
use Rattle.std.proofs.Math.Seq.{take-length}
use Rattle.std.specs.Int.{bit_at}
use mathlib.Core.Option as maybe
use mathlib.Core.Option.{some}
use mathlib.Core.Logic.{dite}
use native.Mathlib.Decide.{ℕ_discrete}
use lib.ListN.{get_elem?}
use Rattle.port_bank.specs.Flow.{IsPrefix}
use Rattle.atomic_table.specs.Table.{State, Act, gives, carried_after, homes_after, Allows}
use Rattle.atomic_table.proofs.Lists.{set_again, set_else}
use Rattle.link_slots.specs.Logs.{OutLog, InLog, Lists, no_out, no_in, out_of, in_of, with_out, with_in, got, sent_of, got_of, taken_more}
use Rattle.link_slots.specs.View.{View, own_logs, logs_or, with_logs, Speaks}
use Rattle.link_slots.specs.Wiring.{Wiring, IsWired, slot_of, posted_word, released_word, bell_word}
use Rattle.link_slots.specs.Link.{LinkOk}
use Rattle.link_slots.specs.Bank.{Lawful}
use Rattle.link_slots.specs.HeldSlots.{Holds}
use Rattle.link_slots.specs.StepEffects.{beyond, found_room, posted, looked_in, released, spare_brought, parcel_brought}
use Rattle.link_slots.proofs.Lookups.{at_there}
use Rattle.link_slots.proofs.Ring.{same_link}
use Rattle.link_slots.proofs.OneLink.{link_kept, parcel_posted, parcel_released}
use Rattle.link_slots.proofs.Bells.{bell_kept, bell_roomed, bell_released, bell_looked}
use Rattle.link_slots.proofs.Carried.{fetch, fetched, without}
use Rattle.link_slots.proofs.Holding.{holds_same, holds_in_front, holds_posted, holds_released}
use Rattle.link_slots.proofs.Growing.{RoomTo, SeenTo, room_to, seen_to}
use Rattle.link_slots.proofs.OneRank.{sender_step, reader_step, sender_link, reader_link, own_lens, own_away, speaker, bells_kept}

pub beyond_is : (more less : ℕ) → less ≤ more → more ≤ less + 64 → beyond more (less % 2 ^ 64) ≡ more - less
beyond_is more less low high = omega arith

pub beyond_wrapped : (more less : ℕ) → less ≤ more → more ≤ less + 64 → beyond (more % 2 ^ 64) (less % 2 ^ 64) ≡ more - less
beyond_wrapped more less low high = omega arith

listed : {A : Type 0} (l : List (Option A)) (r : ℕ) (x : A) → get_or l r None ≡ Some x → r < length l
listed [] r x e = cc
listed (y ∷ ys) zero x e = omega arith
listed (y ∷ ys) (suc r) x e = let h = listed ys r x e in omega arith

module _ {D T : Type 0} where
  pub own_with : (v : View D T) (x : Lists T) → Speaks v → own_logs (with_logs v x) ≡ x
  own_with v x speaks = ap logs_or (get_or-set_same v.lists v.pick (Some x) None (listed v.lists v.pick (own_logs v) speaks))

  pub speaks_with : (v : View D T) (x : Lists T) → Speaks v → Speaks (with_logs v x)
  speaks_with v x speaks = let e = get_or-set_same v.lists v.pick (Some x) None (listed v.lists v.pick (own_logs v) speaks) in e ∙ ap Some (sym (own_with v x speaks))

module _ {T : Type 0} (x : Lists T) (l : ℕ) where
  pub out_here : (o : OutLog T) → l < length x.outs → out_of (with_out x l o) l ≡ o
  out_here o h = get_or-set_same x.outs l o no_out h

  pub out_there : (o : OutLog T) (m : ℕ) → m ≢ l → out_of (with_out x l o) m ≡ out_of x m
  out_there o m n = get_or-set_other x.outs l m o no_out n

  pub in_here : (i : InLog T) → l < length x.ins → in_of (with_in x l i) l ≡ i
  in_here i h = get_or-set_same x.ins l i no_in h

  pub in_there : (i : InLog T) (m : ℕ) → m ≢ l → in_of (with_in x l i) m ≡ in_of x m
  in_there i m n = get_or-set_other x.ins l m i no_in n

  -- what a property of all links out is after a change of one that does not touch it
  pub out_same : {A : Type 0} (f : OutLog T → A) (o : OutLog T) (g : ℕ → A) → l < length x.outs → f o ≡ g l → ((m : ℕ) → m ≢ l → f (out_of x m) ≡ g m) → (m : ℕ) → f (out_of (with_out x l o) m) ≡ g m
  out_same f o g h e n m = dite (ℕ_discrete m l) (λ s. ap (λ (z : ℕ). f (out_of (with_out x l o) z)) s ∙ ap f (out_here o h) ∙ e ∙ ap g (sym s)) (λ ne. ap f (out_there o m ne) ∙ n m ne)

  pub in_same : {A : Type 0} (f : InLog T → A) (i : InLog T) (g : ℕ → A) → l < length x.ins → f i ≡ g l → ((m : ℕ) → m ≢ l → f (in_of x m) ≡ g m) → (m : ℕ) → f (in_of (with_in x l i) m) ≡ g m
  in_same f i g h e n m = dite (ℕ_discrete m l) (λ s. ap (λ (z : ℕ). f (in_of (with_in x l i) z)) s ∙ ap f (in_here i h) ∙ e ∙ ap g (sym s)) (λ ne. ap f (in_there i m ne) ∙ n m ne)

  pub sent_kept : (o : OutLog T) → l < length x.outs → o.sent ≡ (out_of x l).sent → sent_of (with_out x l o) ≡ sent_of x
  sent_kept o h e = λ k m. out_same (λ (z : OutLog T). z.sent) o (sent_of x) h e (λ _ _. refl) m k

  pub got_kept : (i : InLog T) → l < length x.ins → got i ≡ got (in_of x l) → got_of (with_in x l i) ≡ got_of x
  got_kept i h e = λ k m. in_same got i (got_of x) h e (λ _ _. refl) m k

module _ {D T : Type 0} (Blank : T → Type 0) (Good : ℕ → List T → T → Type 0) (Law : ℕ → (ℕ → List T) → (ℕ → List T) → Type 0) (shape : D) (w : Wiring) (wired : IsWired w) where
  abbrev Rule : State T (View D T) → Type 0
  Rule = Lawful Blank Good Law shape w

  -- another look at the hands, where what they depend on is the same
  holds_out : (r l : ℕ) (x : Lists T) (o o' : OutLog T) (c : List (ℕ × T)) → l < length x.outs → o.sent ≡ o'.sent → o.room ≡ o'.room → Holds Blank w r (with_out x l o) c → Holds Blank w r (with_out x l o') c
  holds_out r l x o o' c h sent room held = holds_same Blank w r (with_out x l o) (with_out x l o') c
      (out_same x l (λ z. z.sent) o' (λ m. (out_of (with_out x l o) m).sent) h (sym sent ∙ ap (λ (z : OutLog T). z.sent) (sym (out_here x l o h))) (λ m ne. ap (λ (z : OutLog T). z.sent) (sym (out_there x l o m ne))))
      (out_same x l (λ z. z.room) o' (λ m. (out_of (with_out x l o) m).room) h (sym room ∙ ap (λ (z : OutLog T). z.room) (sym (out_here x l o h))) (λ m ne. ap (λ (z : OutLog T). z.room) (sym (out_there x l o m ne))))
      (λ _. refl) (λ _. refl) held

  holds_in : (r l : ℕ) (x : Lists T) (i i' : InLog T) (c : List (ℕ × T)) → l < length x.ins → i.seen ≡ i'.seen → i.taken ≡ i'.taken → Holds Blank w r (with_in x l i) c → Holds Blank w r (with_in x l i') c
  holds_in r l x i i' c h seen taken held = holds_same Blank w r (with_in x l i) (with_in x l i') c (λ _. refl) (λ _. refl)
      (in_same x l (λ z. z.taken) i' (λ m. (in_of (with_in x l i) m).taken) h (sym taken ∙ ap (λ (z : InLog T). z.taken) (sym (in_here x l i h))) (λ m ne. ap (λ (z : InLog T). z.taken) (sym (in_there x l i m ne))))
      (in_same x l (λ z. z.seen) i' (λ m. (in_of (with_in x l i) m).seen) h (sym seen ∙ ap (λ (z : InLog T). z.seen) (sym (in_here x l i h))) (λ m ne. ap (λ (z : InLog T). z.seen) (sym (in_there x l i m ne)))) held

  holds_own : (v : View D T) (x : Lists T) (c : List (ℕ × T)) → Speaks v → Holds Blank w v.pick x c → Holds Blank w v.pick (own_logs (with_logs v x)) c
  holds_own v x c speaks h = subst (λ (z : Lists T). Holds Blank w v.pick z c) (sym (own_with v x speaks)) h

  -- a load changes no word
  loaded : (s : State T (View D T)) (k : ℕ) (homes : List (maybe.Option T)) (views : List (View D T)) → Rule (record { words = s.words; homes = homes; views = views }) → Rule (record { words = set s.words k (get_or s.words k 0); homes = homes; views = views })
  loaded s k homes views ok = subst (λ (z : List ℕ). Rule (record { words = z; homes = homes; views = views })) (sym (set-get_or s.words k 0)) ok

  pub look_room : (id l : ℕ) (v : View D T) (c : List (ℕ × T)) → Speaks v → l < w.links → w.from l ≡ v.pick → Holds Blank w v.pick (own_logs v) c
      → Allows Rule (w.slots * w.links) id (v, c) (released_word l) (λ n. n) (λ n m'. found_room Blank Good w l (v, c) n m')
  look_room id l v c speaks inside mine held s ok deep at fits =
      let x : Lists T = own_logs v in let o : OutLog T = out_of x l in let i : InLog T = in_of (ok.logs (w.to l)) l in
      let link : LinkOk Blank Good w l o i s.words s.homes = sender_link Blank Good Law shape w wired s ok id v l at speaks inside mine in
      let long : l < length x.outs = (let e = (own_lens Blank Good Law shape w wired s ok id v at speaks).0 in omega arith) in
      let h1 = link.taken_seen in let h2 = link.seen_sent in let h3 = link.sent_room in let h4 = link.room_slots in let h5 = wired.few_slots in
      let n : ℕ = get_or s.words (released_word l) 0 in
      let b : ℕ = beyond (length o.sent) n in
      let b_is : b ≡ length o.sent - i.taken = ap (beyond (length o.sent)) link.released ∙ beyond_is (length o.sent) i.taken (omega arith) (omega arith) in
      let N : ℕ = i.taken + w.slots in
      let room_is : N ≡ length o.sent + (w.slots - b) = omega arith in
      let taken = room_to Blank Good w wired v.pick l x s.words s.homes c i (N - o.room) N ok.deep inside mine long link held (own_away Blank Good Law shape w wired s ok id v c at speaks held) (omega arith) (omega arith) in
      let a : Act T = taken.0 in let t : RoomTo Blank Good w wired v.pick l x s.words s.homes c i N a = taken.1 in
      let homes : List (maybe.Option T) = homes_after s.homes c a in
      let o' : OutLog T = record { sent = o.sent; room = length o.sent + (w.slots - b); offered = o.offered; looks = suc o.looks; rung_at = o.rung_at } in
      let link' : LinkOk Blank Good w l o' i s.words homes = subst (λ (z : ℕ). LinkOk Blank Good w l (record { sent = o.sent; room = z; offered = o.offered; looks = suc o.looks; rung_at = o.rung_at }) i s.words homes) room_is
      (link_kept Blank Good w wired l (record { sent = o.sent; room = N; offered = o.offered; looks = o.looks; rung_at = o.rung_at }) i s.words s.words homes homes o.offered (suc o.looks) o.rung_at i.hears i.heard i.look_ins i.released_at i.marked refl refl (λ _. refl) t.link) in (
        with_logs v (with_out x l o'),
        a,
        t.valid,
        loaded s (released_word l) homes (set s.views id (with_logs v (with_out x l o')))
            (sender_step Blank Good Law shape w wired s ok id v l o' s.words homes at speaks inside mine refl t.deep
            (λ law. subst (λ (z : ℕ → List T). Law v.pick z (got_of x)) (sym (sent_kept x l o' long refl)) law)
            (bells_kept w l s.words s.words ok.no_other_bits inside (λ _ _ _. refl)) t.others (λ _. link') (λ bell. bell_roomed w l o o' i s.words refl refl (omega arith) (omega arith) (omega arith) bell)),
        ((let g : b ≤ w.slots = omega arith in g), (let g : b ≤ length o.sent = omega arith in g), refl, holds_own v (with_out x l o') (carried_after c a) speaks (holds_out v.pick l x (record { sent = o.sent; room = N; offered = o.offered; looks = o.looks; rung_at = o.rung_at }) o' (carried_after c a) long refl room_is t.holds)),
      )

  -- what was posted, as what the reader saw and the rest
  rest_seen : (i : InLog T) (o : OutLog T) → i.seen ≡ take (length i.seen) o.sent → i.seen ++ drop (length i.seen) o.sent ≡ o.sent
  rest_seen i o e = ap (λ (z : List T). z ++ drop (length i.seen) o.sent) e ∙ take-append-drop (length i.seen) o.sent

  pub look_in : (id l : ℕ) (v : View D T) (c : List (ℕ × T)) → Speaks v → l < w.links → w.to l ≡ v.pick → (in_of (own_logs v) l).marked ≡ true → Holds Blank w v.pick (own_logs v) c
      → Allows Rule (w.slots * w.links) id (v, c) (posted_word l) (λ n. n) (λ n m'. looked_in Blank Good w l (v, c) n m')
  look_in id l v c speaks inside mine marked held s ok deep at fits =
      let x : Lists T = own_logs v in let i : InLog T = in_of x l in let o : OutLog T = out_of (ok.logs (w.from l)) l in
      let link : LinkOk Blank Good w l o i s.words s.homes = reader_link Blank Good Law shape w wired s ok id v l at speaks inside mine in
      let long : l < length x.ins = (let e = (own_lens Blank Good Law shape w wired s ok id v at speaks).1 in omega arith) in
      let h1 = link.taken_seen in let h2 = link.seen_sent in let h3 = link.sent_room in let h4 = link.room_slots in let h5 = wired.few_slots in
      let n : ℕ = get_or s.words (posted_word l) 0 in
      let b : ℕ = beyond n (length i.seen % 2 ^ 64) in
      let b_is : b ≡ length o.sent - length i.seen = ap (λ (z : ℕ). beyond z (length i.seen % 2 ^ 64)) link.posted ∙ beyond_wrapped (length o.sent) (length i.seen) h2 (omega arith) in
      let N : ℕ = length o.sent in
      let all : take N o.sent ≡ o.sent = take-length o.sent in
      let taken = seen_to Blank Good w wired v.pick l x s.words s.homes c o (N - length i.seen) N ok.deep inside mine long link held (own_away Blank Good Law shape w wired s ok id v c at speaks held) (omega arith) (omega arith) in
      let a : Act T = taken.0 in let t : SeenTo Blank Good w wired v.pick l x s.words s.homes c o N a = taken.1 in
      let homes : List (maybe.Option T) = homes_after s.homes c a in
      let i' : InLog T = record { seen = o.sent; taken = i.taken; marked = false; hears = i.hears; heard = i.heard; look_ins = suc i.look_ins; released_at = i.released_at } in
      let iN : InLog T = record { seen = take N o.sent; taken = i.taken; marked = i.marked; hears = i.hears; heard = i.heard; look_ins = i.look_ins; released_at = i.released_at } in
      let link' : LinkOk Blank Good w l o i' s.words homes = subst (λ (z : List T). LinkOk Blank Good w l o (record { seen = z; taken = i.taken; marked = false; hears = i.hears; heard = i.heard; look_ins = suc i.look_ins; released_at = i.released_at }) s.words homes) all
      (link_kept Blank Good w wired l o iN s.words s.words homes homes o.offered o.looks o.rung_at i.hears i.heard (suc i.look_ins) i.released_at false refl refl (λ _. refl) t.link) in
      let w' : View D T = with_logs v (with_in x l i') in
      let there : in_of (own_logs w') l ≡ i' = ap (λ (z : Lists T). in_of z l) (own_with v (with_in x l i') speaks) ∙ in_here x l i' long in
      let got_is : got i' ≡ got i = sym (ap (take i.taken) (rest_seen i o link.seen_is)) ∙ take-append-le i.taken i.seen (drop (length i.seen) o.sent) h1 in
      let P : InLog T → Type 0 = λ z.
      (length z.seen ≡ length i.seen + b) × (take (length i.seen) z.seen ≡ i.seen) × ((k : ℕ) (p : T) → get_elem? z.seen k ≡ some p → Good l (take k z.seen) p)
      × (w' ≡ with_logs v (with_in x l (record { seen = z.seen; taken = i.taken; marked = false; hears = i.hears; heard = i.heard; look_ins = suc i.look_ins; released_at = i.released_at }))) in
      let facts : P (in_of (own_logs w') l) = subst P (sym there) ((let g : length o.sent ≡ length i.seen + b = omega arith in g), sym link.seen_is, link.good, refl) in (
        w',
        a,
        t.valid,
        loaded s (posted_word l) homes (set s.views id w')
            (reader_step Blank Good Law shape w wired s ok id v l i' s.words homes at speaks inside mine refl t.deep
            (λ law. subst (λ (z : ℕ → List T). Law v.pick (sent_of x) z) (sym (got_kept x l i' long got_is)) law)
            (bells_kept w l s.words s.words ok.no_other_bits inside (λ _ _ _. refl)) t.others (λ _. link') (λ bell. bell_looked w l o i i' s.words marked refl refl refl refl refl refl (omega arith) bell)),
        (
          (let g : b ≤ w.slots = omega arith in g),
          facts.0,
          facts.1,
          facts.2,
          facts.3,
          holds_own v (with_in x l i') (carried_after c a) speaks (holds_in v.pick l x iN i' (carried_after c a) long all refl t.holds),
        ),
      )

  -- the reader's own end of a link on which it sends too
  own_end : (s : State T (View D T)) (ok : Rule s) (id l : ℕ) (v : View D T) → get_elem? s.views id ≡ some v → Speaks v → w.to l ≡ v.pick → in_of (own_logs v) l ≡ in_of (ok.logs (w.to l)) l
  own_end s ok id l v at speaks e = ap (λ (z : Lists T). in_of z l) ((speaker Blank Good Law shape w wired s ok id v at speaks).1 ∙ ap ok.logs (sym e))

  own_start : (s : State T (View D T)) (ok : Rule s) (id l : ℕ) (v : View D T) → get_elem? s.views id ≡ some v → Speaks v → w.from l ≡ v.pick → out_of (own_logs v) l ≡ out_of (ok.logs (w.from l)) l
  own_start s ok id l v at speaks e = ap (λ (z : Lists T). out_of z l) ((speaker Blank Good Law shape w wired s ok id v at speaks).1 ∙ ap ok.logs (sym e))

  pub post : (id l : ℕ) (v : View D T) (c : List (ℕ × T)) (b p : T) → Speaks v → l < w.links → w.from l ≡ v.pick → length (out_of (own_logs v) l).sent < (out_of (own_logs v) l).room
      → Good l (out_of (own_logs v) l).sent p
      → (Law v.pick (sent_of (own_logs v)) (got_of (own_logs v)) → Law v.pick (sent_of (with_out (own_logs v) l (let o = out_of (own_logs v) l in record { sent = o.sent ++ p ∷ []; room = o.room; offered = o.offered; looks = o.looks; rung_at = o.rung_at }))) (got_of (own_logs v)))
      → Holds Blank w v.pick (own_logs v) ((slot_of w l (length (out_of (own_logs v) l).sent), b) ∷ c)
      → Allows Rule (w.slots * w.links) id (v, (slot_of w l (length (out_of (own_logs v) l).sent), p) ∷ c) (posted_word l) (λ n. (n + 1) % 2 ^ 64)
      (λ n m'. posted Blank Good w l (v, (slot_of w l (length (out_of (own_logs v) l).sent), p) ∷ c) m')
  post id l v c b p speaks inside mine some_left good law held s ok deep at fits =
      let x : Lists T = own_logs v in let o : OutLog T = out_of x l in let i : InLog T = in_of (ok.logs (w.to l)) l in
      let link : LinkOk Blank Good w l o i s.words s.homes = sender_link Blank Good Law shape w wired s ok id v l at speaks inside mine in
      let long : l < length x.outs = (let e = (own_lens Blank Good Law shape w wired s ok id v at speaks).0 in omega arith) in
      let h1 = link.taken_seen in let h2 = link.seen_sent in let h4 = link.room_slots in
      let word : posted_word l < length s.words = (let e = ok.wide in omega arith) in
      let k : ℕ = slot_of w l (length o.sent) in
      let homes : List (maybe.Option T) = set s.homes k (some p) in
      let words : List ℕ = set s.words (posted_word l) ((get_or s.words (posted_word l) 0 + 1) % 2 ^ 64) in
      let o' : OutLog T = record { sent = o.sent ++ p ∷ []; room = o.room; offered = o.offered; looks = o.looks; rung_at = o.rung_at } in
      let x' : Lists T = with_out x l o' in
      let longer : length o'.sent ≡ length o.sent + 1 = length-append o.sent (p ∷ []) in
      let here = out_here x l o' long in
      let held' : Holds Blank w v.pick x' c = holds_posted Blank w v.pick x x' c l b p inside (record { outs = λ m ne. out_there x l o' m ne; ins = λ _ _. refl })
      (ap (λ (z : OutLog T). z.sent) here) (ap (λ (z : OutLog T). z.room) here) refl wired.some_slots some_left (omega arith)
      (λ e. let q = own_end s ok id l v at speaks e in subst (λ (z : InLog T). (length z.seen ≤ length o.sent) × (o.room ≤ z.taken + w.slots)) (sym q) (h2, h4)) held in (
        with_logs v x',
        gives,
        tt,
        sender_step Blank Good Law shape w wired s ok id v l o' words homes at speaks inside mine (length-set s.words (posted_word l) _) (length-set s.homes k (some p)) law
            (bells_kept w l s.words words ok.no_other_bits inside (λ m a q. get_or-set_other s.words (posted_word l) m _ 0 a)) (λ m n ne. set_else s.homes k (slot_of w m n) (some p) (λ e. ne (same_link w wired.some_slots m l n (length o.sent) e)))
            (λ ok_l. parcel_posted Blank Good w wired l o i s.words s.homes p ok.deep inside word ok_l some_left good)
            (λ bell. bell_kept w l o o' i i s.words words refl refl refl refl (omega arith) refl refl refl refl refl refl (omega arith) (λ t. ap (λ (z : ℕ). bit_at z (w.bit l)) (get_or-set_other s.words (posted_word l) (bell_word w l) _ 0 (λ e. omega arith)) ∙ t) bell),
        (refl, holds_own v x' c speaks held'),
      )

  pub release : (id l : ℕ) (v : View D T) (c : List (ℕ × T)) (b p : T) → Speaks v → l < w.links → w.to l ≡ v.pick → (in_of (own_logs v) l).taken < length (in_of (own_logs v) l).seen → Blank b
      → ((looks : ℕ) → l < length (own_logs v).ins → Law v.pick (sent_of (own_logs v)) (got_of (own_logs v)) → Law v.pick (sent_of (own_logs v)) (got_of (with_in (own_logs v) l (taken_more (in_of (own_logs v) l) looks))))
      → Holds Blank w v.pick (own_logs v) ((slot_of w l (in_of (own_logs v) l).taken, p) ∷ c)
      → Allows Rule (w.slots * w.links) id (v, (slot_of w l (in_of (own_logs v) l).taken, b) ∷ c) (released_word l) (λ n. (n + 1) % 2 ^ 64)
      (λ n m'. released Blank Good w l (v, (slot_of w l (in_of (own_logs v) l).taken, b) ∷ c) m')
  release id l v c b p speaks inside mine some_left blank law held s ok deep at fits =
      let x : Lists T = own_logs v in let i : InLog T = in_of x l in let o : OutLog T = out_of (ok.logs (w.from l)) l in
      let link : LinkOk Blank Good w l o i s.words s.homes = reader_link Blank Good Law shape w wired s ok id v l at speaks inside mine in
      let long : l < length x.ins = (let e = (own_lens Blank Good Law shape w wired s ok id v at speaks).1 in omega arith) in
      let h2 = link.seen_sent in let h3 = link.sent_room in let h4 = link.room_slots in
      let word : released_word l < length s.words = (let e = ok.wide in omega arith) in
      let k : ℕ = slot_of w l i.taken in
      let homes : List (maybe.Option T) = set s.homes k (some b) in
      let words : List ℕ = set s.words (released_word l) ((get_or s.words (released_word l) 0 + 1) % 2 ^ 64) in
      let i' : InLog T = taken_more i o.looks in
      let x' : Lists T = with_in x l i' in
      let here = in_here x l i' long in
      let held' : Holds Blank w v.pick x' c = holds_released Blank w v.pick x x' c l p inside (record { outs = λ _ _. refl; ins = λ m ne. in_there x l i' m ne })
      (ap (λ (z : InLog T). z.seen) here) (ap (λ (z : InLog T). z.taken) here) refl wired.some_slots some_left (omega arith)
      (λ e. let q = own_start s ok id l v at speaks e in subst (λ (z : OutLog T). (length i.seen ≤ length z.sent) × (z.room ≤ i.taken + w.slots)) (sym q) (h2, h4)) held in (
        with_logs v x',
        gives,
        tt,
        reader_step Blank Good Law shape w wired s ok id v l i' words homes at speaks inside mine (length-set s.words (released_word l) _) (length-set s.homes k (some b)) (law o.looks long)
            (bells_kept w l s.words words ok.no_other_bits inside (λ m a q. get_or-set_other s.words (released_word l) m _ 0 q)) (λ m n ne. set_else s.homes k (slot_of w m n) (some b) (λ e. ne (same_link w wired.some_slots m l n i.taken e)))
            (λ ok_l. parcel_released Blank Good w wired l o i s.words s.homes b o.looks ok.deep inside word ok_l some_left blank)
            (λ bell. bell_released w l o i i' s.words words refl refl refl refl refl refl (λ t. ap (λ (z : ℕ). bit_at z (w.bit l)) (get_or-set_other s.words (released_word l) (bell_word w l) _ 0 (λ e. omega arith)) ∙ t) bell),
        (
          let there : in_of (own_logs (with_logs v x')) l ≡ i' = ap (λ (z : Lists T). in_of z l) (own_with v x' speaks) ∙ here in
              (λ j. (with_logs v (with_in x l (taken_more i ((sym there) j).released_at)), c)),
          holds_own v x' c speaks held',
        ),
      )

  -- a seat lays down all that it holds and takes it up again, and nothing is changed but the order
  -- in its hands
  brought : (s : State T (View D T)) (ok : Rule s) (id k : ℕ) (v : View D T) (c : List (ℕ × T)) (j : ℕ) (y : ℕ × T) → get_elem? s.views id ≡ some v → Speaks v → Holds Blank w v.pick (own_logs v) c → get_elem? c j ≡ some y
      → Rule (record { words = set s.words k (get_or s.words k 0); homes = homes_after s.homes c (fetch c j y); views = set s.views id v })
  brought s ok id k v c j y at speaks held there =
      let f = fetched s.homes c j y (own_away Blank Good Law shape w wired s ok id v c at speaks held) there in
      loaded s k (homes_after s.homes c (fetch c j y)) (set s.views id v)
      (subst (λ (z : List (maybe.Option T) × List (View D T)). Rule (record { words = s.words; homes = z.0; views = z.1 })) (λ q. (sym f.homes q, sym (set_again s.views id v at) q)) ok)

  pub bring_spare : (id l k : ℕ) (v : View D T) (c : List (ℕ × T)) → Speaks v → l < w.links → w.from l ≡ v.pick → length (out_of (own_logs v) l).sent < (out_of (own_logs v) l).room → Holds Blank w v.pick (own_logs v) c
      → Allows Rule (w.slots * w.links) id (v, c) k (λ n. n) (λ n m'. spare_brought Blank Good w l (v, c) m')
  bring_spare id l k v c speaks inside mine some_left held s ok deep at fits =
      let x : Lists T = own_logs v in let S : ℕ = length (out_of x l).sent in
      let wanted = held.spare l S inside mine (omega arith) some_left in
      let y : ℕ × T = (slot_of w l S, wanted.0) in let j : ℕ = wanted.2.0 in
      let f = fetched s.homes c j y (own_away Blank Good Law shape w wired s ok id v c at speaks held) wanted.2.1 in (
        v,
        fetch c j y,
        f.valid,
        brought s ok id k v c j y at speaks held wanted.2.1,
        (wanted.0, without c j, wanted.1, ap (λ (z : List (ℕ × T)). (v, z)) f.carried, subst (Holds Blank w v.pick x) (sym f.carried) (holds_in_front Blank w v.pick x c j y wanted.2.1 held)),
      )

  pub bring_parcel : (id l k : ℕ) (v : View D T) (c : List (ℕ × T)) → Speaks v → l < w.links → w.to l ≡ v.pick → (in_of (own_logs v) l).taken < length (in_of (own_logs v) l).seen → Holds Blank w v.pick (own_logs v) c
      → Allows Rule (w.slots * w.links) id (v, c) k (λ n. n) (λ n m'. parcel_brought Blank Good w l (v, c) m')
  bring_parcel id l k v c speaks inside mine some_left held s ok deep at fits =
      let x : Lists T = own_logs v in let i : InLog T = in_of x l in
      let parcel = at_there i.seen i.taken some_left in
      let wanted = held.waiting l i.taken parcel.0 inside mine (omega arith) parcel.1 in
      let y : ℕ × T = (slot_of w l i.taken, parcel.0) in let j : ℕ = wanted.0 in
      let f = fetched s.homes c j y (own_away Blank Good Law shape w wired s ok id v c at speaks held) wanted.1 in (
        v,
        fetch c j y,
        f.valid,
        brought s ok id k v c j y at speaks held wanted.1,
        (
          parcel.0,
          without c j,
          parcel.1,
          ap (λ (z : List (ℕ × T)). (v, z)) f.carried,
          subst (Holds Blank w v.pick x) (sym f.carried) (holds_in_front Blank w v.pick x c j y wanted.1 held),
          λ from. let link = reader_link Blank Good Law shape w wired s ok id v l at speaks inside mine in
              subst (λ (o : OutLog T). IsPrefix i.seen o.sent) (sym (own_start s ok id l v at speaks from)) (record { rest = drop (length i.seen) (out_of (ok.logs (w.from l)) l).sent; is = sym (rest_seen i (out_of (ok.logs (w.from l)) l) link.seen_is) }),
        ),
      )
