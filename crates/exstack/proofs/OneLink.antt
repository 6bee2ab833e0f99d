-- One link on which the parcel of a round is posted or collected.
use Rattle.std.proofs.Common.{◌≡◌, ◌≢◌, ℕ, zero, suc, ◌+◌, ◌-◌, ◌*◌, ◌%◌, ◌<◌, Bool, true, false, cond, List, [], ◌∷◌, ◌++◌, length, get_or, slice_get, Some, refl, sym, ap, subst, ◌∙◌, arith, inl, inr}
use Rattle.std.specs.List.{flat_map}
use Rattle.std.proofs.lemmas.Bool.{cases_eq, cases_lt, false≢true}
use Rattle.std.proofs.lemmas.List.{length-append, append_assoc, append-nil, get_or_append_left, get_or-append_right}
use Rattle.std.proofs.lemmas.List.Concat.{flat_map-append}
use Rattle.list_laws.proofs.Lists.{get_last}
use Rattle.bale_items.specs.declared.item.Entry.{Entry}
use Rattle.item_buffer.specs.Contents.{Shipped}
use Rattle.port_bank.specs.Logs.{lasts, segment, lasts_in}
use Rattle.port_bank.specs.Shapes.{IsExstackShape}
use Rattle.port_bank.proofs.Segments.{lasts-append, lasts_first}
use Rattle.port_bank.proofs.Posts.{segment_now, segment_then}
use Rattle.exstack.specs.Links.{StackOut, StackIn, parcel_of, gone, came}
use Rattle.exstack.specs.Steps.{was_moved, WasPostedInRound, WasCollected, latest}
use Rattle.exstack.specs.Cycles.{odd_ones, entries_exchanged, exchange_parcel, entries_if_any}
use Rattle.list_laws.specs.Lists.{Ends}
use Rattle.exstack.specs.Agreement.{LinkAgrees}

-- ends of lists
pub ends_none : {T : Type 0} (whole : List T) → Ends whole []
ends_none whole = record { front = whole; is = sym (append-nil whole) }

pub ends_all : {T : Type 0} (whole : List T) → Ends whole whole
ends_all whole = record { front = []; is = refl }

pub ends_back : {T : Type 0} (front back : List T) → Ends (front ++ back) back
ends_back front back = record { front = front; is = refl }

pub ends_less : {T : Type 0} (whole : List T) (x : T) (xs : List T) → Ends whole (x ∷ xs) → Ends whole xs
ends_less whole x xs e = record { front = e.front ++ x ∷ []; is = e.is ∙ sym (append_assoc e.front (x ∷ []) xs) }

-- the marks of a log with one more parcel
lasts_more : (log : List Shipped) (p : Shipped) → lasts (log ++ p ∷ []) ≡ lasts log + cond p.last 1 0
lasts_more log p = lasts-append log (p ∷ []) ∙ ap (λ n. lasts log + n) (lasts_first p [] p.last refl)

plus_mark : (e : ℕ) (b : Bool) → e + cond b 1 0 ≡ lasts_in e b
plus_mark e true = refl
plus_mark e false = omega arith

-- a link on which a parcel was due, after it was moved
pub link_moved : (e rounds : ℕ) (log : List Shipped) (p : Shipped) → LinkAgrees e rounds false true log → LinkAgrees e rounds p.last false (log ++ p ∷ [])
link_moved e rounds log p a =
    let now : lasts log ≡ e = a.ended in
    let more : segment e (log ++ p ∷ []) ≡ segment e log ++ p ∷ [] = segment_now e log p (sym now) in
    let one : length (segment e log) + 1 ≡ rounds = a.each_round refl in
    let size : length (segment e (log ++ p ∷ [])) ≡ length (segment e log) + 1 = ap length more ∙ length-append (segment e log) (p ∷ []) in
    record {
      ended = lasts_more log p ∙ (ap (λ n. n + cond p.last 1 0) now ∙ plus_mark e p.last);
      by_last = λ h. record { front = log; final = p; is = refl; last = h };
      each_round = λ h. omega (arith, size, one);
      until = λ h. omega (arith, size, one);
    }

pub moved_due : (a b : Bool) → was_moved a b ≡ true → a ≡ true
moved_due true b h = refl
moved_due false b h = absurd (false≢true h)

pub open_due : (e rounds : ℕ) (through due : Bool) (log : List Shipped) → through ≡ false → due ≡ true → LinkAgrees e rounds through due log → LinkAgrees e rounds false true log
open_due e rounds through due log t d a = subst (λ x. LinkAgrees e rounds x true log) t (subst (λ x. LinkAgrees e rounds through x log) d a)

-- a link out in a round
module _ (e rounds : ℕ) (last : Bool) (o o' : StackOut) (log log' : List Shipped) (due_open : o.due ≡ true → o.closed ≡ false) (a : LinkAgrees e rounds o.closed o.due log) where
  out_by : (b : Bool) → was_moved o.due o'.due ≡ b → o' ≡ cond b (gone last) o → log' ≡ cond b (log ++ parcel_of last e o ∷ []) log → LinkAgrees e rounds o'.closed o'.due log'
  out_by true m link sent =
      let d : o.due ≡ true = moved_due o.due o'.due m in
      let new = link_moved e rounds log (parcel_of last e o) (open_due e rounds o.closed o.due log (due_open d) d a) in
      subst (λ (z : StackOut). LinkAgrees e rounds z.closed z.due log') (sym link) (subst (λ g. LinkAgrees e rounds last false g) (sym sent) new)
  out_by false m link sent = subst (λ (z : StackOut). LinkAgrees e rounds z.closed z.due log') (sym link) (subst (λ g. LinkAgrees e rounds o.closed o.due g) (sym sent) a)

  pub out_agrees : WasPostedInRound last e o o' log log' → LinkAgrees e rounds o'.closed o'.due log'
  out_agrees w = out_by (was_moved o.due o'.due) refl w.link w.sent

-- a link in in a round
module _ (e rounds : ℕ) (exchange : Bool) (i i' : StackIn) (log log' : List Shipped) (due_open : i.due ≡ true → i.ended ≡ false) (a : LinkAgrees e rounds i.ended i.due log) where
  in_by : (p : Shipped) (b : Bool) → was_moved i.due i'.due ≡ b → i' ≡ cond b (came exchange p) i → log' ≡ cond b (log ++ p ∷ []) log → LinkAgrees e rounds i'.ended i'.due log'
  in_by p true m link got =
      let d : i.due ≡ true = moved_due i.due i'.due m in
      let new = link_moved e rounds log p (open_due e rounds i.ended i.due log (due_open d) d a) in
      subst (λ (z : StackIn). LinkAgrees e rounds z.ended z.due log') (sym link) (subst (λ g. LinkAgrees e rounds p.last false g) (sym got) new)
  in_by p false m link got = subst (λ (z : StackIn). LinkAgrees e rounds z.ended z.due log') (sym link) (subst (λ g. LinkAgrees e rounds i.ended i.due g) (sym got) a)

  pub in_agrees : WasCollected exchange i i' log log' → LinkAgrees e rounds i'.ended i'.due log'
  in_agrees w = in_by (latest log') (was_moved i.due i'.due) refl w.link w.got

-- the exstack shape of a log with one more parcel
at_end : (P : Shipped → Type 0) (xs : List Shipped) (p : Shipped) (i : ℕ) (d : Shipped) → i < length (xs ++ p ∷ []) → (i < length xs → P (get_or xs i d)) → (i ≡ length xs → P p) → P (get_or (xs ++ p ∷ []) i d)
at_end P xs p i d w before here = elim (cases_lt i (length xs)) [
  | inl h ↦ subst P (sym (get_or_append_left xs (p ∷ []) d i h)) (before h)
  | inr h ↦
      let is : i ≡ length xs = omega (arith, h, w, length-append xs (p ∷ [])) in
      let z : i - length xs ≡ 0 = omega (arith, is) in
      subst P (sym (get_or-append_right xs (p ∷ []) (length xs) i d refl h ∙ ap (λ k. get_or (p ∷ []) k d) z)) (here is)
]

pub shape_more : (log : List Shipped) (p : Shipped) → (length (segment (lasts log) log) % 2 ≡ 0 → p.entries ≡ []) → (length (segment (lasts log) log) % 2 ≡ 1 → p.last ≡ false)
    → IsExstackShape log → IsExstackShape (log ++ p ∷ [])
shape_more log p even odd s = record {
  empty = λ e i d w h. elim (cases_eq e (lasts log)) [
    | inl now ↦
        let more : segment e (log ++ p ∷ []) ≡ segment e log ++ p ∷ [] = segment_now e log p now in
        subst (λ (xs : List Shipped). (get_or xs i d).entries ≡ []) (sym more)
        (at_end (λ (q : Shipped). q.entries ≡ []) (segment e log) p i d (subst (λ (xs : List Shipped). i < length xs) more w) (λ v. s.empty e i d v h)
        (λ is. even (ap (λ x. length (segment x log) % 2) (sym now) ∙ (ap (λ x. x % 2) (sym is) ∙ h))))
    | inr other ↦
        let same : segment e (log ++ p ∷ []) ≡ segment e log = segment_then e log p other in
        subst (λ (xs : List Shipped). (get_or xs i d).entries ≡ []) (sym same) (s.empty e i d (subst (λ (xs : List Shipped). i < length xs) same w) h)
  ];
  goes_on = λ e i d w h. elim (cases_eq e (lasts log)) [
    | inl now ↦
        let more : segment e (log ++ p ∷ []) ≡ segment e log ++ p ∷ [] = segment_now e log p now in
        subst (λ (xs : List Shipped). (get_or xs i d).last ≡ false) (sym more)
        (at_end (λ (q : Shipped). q.last ≡ false) (segment e log) p i d (subst (λ (xs : List Shipped). i < length xs) more w) (λ v. s.goes_on e i d v h)
        (λ is. odd (ap (λ x. length (segment x log) % 2) (sym now) ∙ (ap (λ x. x % 2) (sym is) ∙ h))))
    | inr other ↦
        let same : segment e (log ++ p ∷ []) ≡ segment e log = segment_then e log p other in
        subst (λ (xs : List Shipped). (get_or xs i d).last ≡ false) (sym same) (s.goes_on e i d (subst (λ (xs : List Shipped). i < length xs) same w) h)
  ];
}

-- the exchange parcels with one more parcel
pub odd-even : (xs : List Shipped) (p : Shipped) (k : ℕ) → length xs ≡ 2 * k → odd_ones (xs ++ p ∷ []) ≡ odd_ones xs
odd-even [] p k h = refl
odd-even (x ∷ []) p k h = absurd (omega (arith, h))
odd-even (x ∷ y ∷ xs) p zero h = absurd (omega (arith, h))
odd-even (x ∷ y ∷ xs) p (suc k) h = ap (λ zs. y ∷ zs) (odd-even xs p k (omega (arith, h)))

pub odd-odd : (xs : List Shipped) (p : Shipped) (k : ℕ) → length xs ≡ 2 * k + 1 → odd_ones (xs ++ p ∷ []) ≡ odd_ones xs ++ p ∷ []
odd-odd [] p k h = absurd (omega (arith, h))
odd-odd (x ∷ []) p k h = refl
odd-odd (x ∷ y ∷ xs) p zero h = absurd (omega (arith, h))
odd-odd (x ∷ y ∷ xs) p (suc k) h = ap (λ zs. y ∷ zs) (odd-odd xs p k (omega (arith, h)))

-- what came in exchange parcels, after one more parcel
module _ (e n : ℕ) (log : List Shipped) (p : Shipped) (now : lasts log ≡ e) where
  pub exchanged_proceed : length (segment e log) ≡ 2 * n → entries_exchanged e (log ++ p ∷ []) ≡ entries_exchanged e log
  exchanged_proceed h = ap (flat_map (λ (q : Shipped). q.entries)) (ap odd_ones (segment_now e log p (sym now)) ∙ odd-even (segment e log) p n h)

  pub exchanged_more : length (segment e log) ≡ 2 * n + 1 → entries_exchanged e (log ++ p ∷ []) ≡ entries_exchanged e log ++ p.entries
  exchanged_more h =
      ap (flat_map (λ (q : Shipped). q.entries)) (ap odd_ones (segment_now e log p (sym now)) ∙ odd-odd (segment e log) p n h)
      ∙ (flat_map-append (λ (q : Shipped). q.entries) (odd_ones (segment e log)) (p ∷ []) ∙ ap (λ es. entries_exchanged e log ++ es) (append-nil p.entries))

  pub exchange_is : length (segment e log) ≡ 2 * n + 1 → exchange_parcel e n (log ++ p ∷ []) ≡ Some p
  exchange_is h = ap (λ (xs : List Shipped). slice_get xs (2 * n + 1)) (segment_now e log p (sym now)) ∙ (ap (slice_get (segment e log ++ p ∷ [])) (sym h) ∙ get_last (segment e log) p)

pub exchanged_then : (e : ℕ) (log : List Shipped) (p : Shipped) → e ≢ lasts log → entries_exchanged e (log ++ p ∷ []) ≡ entries_exchanged e log
exchanged_then e log p other = ap (λ (xs : List Shipped). flat_map (λ (q : Shipped). q.entries) (odd_ones xs)) (segment_then e log p other)

-- what is unread of a link in in a round is the end of what came, and of the exchange parcel of the
-- cycle
pub record Reads (e n : ℕ) (log : List Shipped) (unread : List Entry) : Type 0 where
  pub came : Ends (entries_exchanged e log) unread
  pub in_cycle : Ends (entries_if_any (exchange_parcel e n log)) unread

module _ (e n rounds : ℕ) (exchange : Bool) (i i' : StackIn) (log log' : List Shipped) (due_open : i.due ≡ true → i.ended ≡ false) (a : LinkAgrees e rounds i.ended i.due log)
    (odd : exchange ≡ true → rounds ≡ 2 * n + 2) where
  reads_by : (p : Shipped) (b : Bool) → was_moved i.due i'.due ≡ b → i' ≡ cond b (came exchange p) i → log' ≡ cond b (log ++ p ∷ []) log → Reads e n log i.unread → Reads e n log' i'.unread
  reads_by p true m link got r =
      let d : i.due ≡ true = moved_due i.due i'.due m in
      let t = open_due e rounds i.ended i.due log (due_open d) d a in
      subst (λ (z : StackIn). Reads e n log' z.unread) (sym link) (subst (λ g. Reads e n g (cond exchange p.entries [])) (sym got) (by_kind exchange refl t))
    where
      by_kind : (x : Bool) → exchange ≡ x → LinkAgrees e rounds false true log → Reads e n (log ++ p ∷ []) (cond x p.entries [])
      by_kind true x t =
          let one : length (segment e log) + 1 ≡ rounds = t.each_round refl in
          let size : length (segment e log) ≡ 2 * n + 1 = omega (arith, one, odd x) in
          record {
            came = subst (λ es. Ends es p.entries) (sym (exchanged_more e n log p t.ended size)) (ends_back (entries_exchanged e log) p.entries);
            in_cycle = subst (λ o. Ends (entries_if_any o) p.entries) (sym (exchange_is e n log p t.ended size)) (ends_all p.entries);
          }
      by_kind false x t = record { came = ends_none (entries_exchanged e (log ++ p ∷ [])); in_cycle = ends_none (entries_if_any (exchange_parcel e n (log ++ p ∷ []))) }
  reads_by p false m link got r = subst (λ (z : StackIn). Reads e n log' z.unread) (sym link) (subst (λ g. Reads e n g i.unread) (sym got) r)

  pub reads_after : WasCollected exchange i i' log log' → Reads e n log i.unread → Reads e n log' i'.unread
  reads_after w r = reads_by (latest log') (was_moved i.due i'.due) refl w.link w.got r

  -- and where it came in this round, it is that parcel whole
  pub whole_after : exchange ≡ true → i.due ≡ true → i'.due ≡ false → WasCollected exchange i i' log log' → i'.unread ≡ entries_if_any (exchange_parcel e n log')
  whole_after x d d' w =
      let p : Shipped = latest log' in
      let m : was_moved i.due i'.due ≡ true = λ j. was_moved (d j) (d' j) in
      let link : i' ≡ came exchange p = w.link ∙ ap (λ b. cond b (came exchange p) i) m in
      let got : log' ≡ log ++ p ∷ [] = w.got ∙ ap (λ b. cond b (log ++ p ∷ []) log) m in
      let t = open_due e rounds i.ended i.due log (due_open d) d a in
      let size : length (segment e log) ≡ 2 * n + 1 = omega (arith, t.each_round refl, odd x) in
      ap (λ (z : StackIn). z.unread) link ∙ (ap (λ b. cond b p.entries []) x ∙ sym (ap (λ g. entries_if_any (exchange_parcel e n g)) got ∙ ap entries_if_any (exchange_is e n log p t.ended size)))
