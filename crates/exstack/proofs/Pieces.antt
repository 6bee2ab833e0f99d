-- What was pushed toward one rank, and pulled of one rank, as a call changes the link.
use Rattle.std.proofs.Common.{◌≡◌, ◌≢◌, ℕ, ◌+◌, ◌-◌, ◌*◌, ◌==◌, Bool, true, false, cond, List, [], ◌∷◌, ◌++◌, length, take, refl, sym, ap, ◌∙◌, arith, inl, inr, eq-eqb, ne_eqb}
use Rattle.std.specs.List.{flat_map}
use Rattle.std.proofs.lemmas.Bool.{cases_eq}
use Rattle.std.proofs.lemmas.List.{length-append, append-nil, map-append, take-append-le, take_all, length-map}
use Rattle.std.proofs.lemmas.List.Concat.{flat_map-append}
use Rattle.bale_items.specs.declared.item.Item.{Item}
use Rattle.bale_items.specs.declared.item.Entry.{Entry}
use Rattle.item_buffer.specs.Contents.{Shipped}
use Rattle.port_bank.specs.Logs.{lasts, segment}
use Rattle.port_bank.proofs.Posts.{segment_now, segment_then}
use Rattle.exstack.specs.Links.{StackOut, StackIn, parcel_of, gone, came}
use Rattle.exstack.specs.Steps.{was_moved, WasPostedInRound, WasCollected, latest}
use Rattle.exstack.specs.Cycles.{entries_sent, entries_exchanged, items}
use Rattle.exstack.specs.Agreement.{LinkAgrees}
use Rattle.exstack.proofs.OneLink.{moved_due, open_due, exchanged_proceed, exchanged_more, exchanged_then}

-- what stands before the end of a list
pub take_front : {T : Type 0} (front back : List T) → take (length (front ++ back) - length back) (front ++ back) ≡ front
take_front front back =
    let size : length (front ++ back) ≡ length front + length back = length-append front back in
    let n : length (front ++ back) - length back ≡ length front = omega (arith, size) in
    ap (λ k. take k (front ++ back)) n ∙ (take-append-le (length front) front back (omega arith) ∙ take_all (length front) front (omega arith))

-- what was pushed on a link, in epoch d, where epoch e is going on
abbrev pub pushed_on_link : ℕ → ℕ → List Shipped → List Entry → List Item
pushed_on_link d e log waiting = items (entries_sent d log) ++ cond (d == e) (items waiting) []

-- and what was pulled
abbrev pub pulled_of_all : ℕ → ℕ → List Entry → List Entry → List Item
pulled_of_all d e all unread = take (length (items all) - cond (d == e) (length unread) 0) (items all)

at_epoch : {T : Type 0} (d e : ℕ) (x y : T) → d ≡ e → cond (d == e) x y ≡ x
at_epoch d e x y h = ap (λ b. cond b x y) (eq-eqb d e h)

off_epoch : {T : Type 0} (d e : ℕ) (x y : T) → d ≢ e → cond (d == e) x y ≡ y
off_epoch d e x y h = ap (λ b. cond b x y) (ne_eqb d e h)

-- a post moves what waits into the log
sent_now : (e : ℕ) (log : List Shipped) (p : Shipped) → lasts log ≡ e → entries_sent e (log ++ p ∷ []) ≡ entries_sent e log ++ p.entries
sent_now e log p now =
    ap (flat_map (λ (q : Shipped). q.entries)) (segment_now e log p (sym now))
    ∙ (flat_map-append (λ (q : Shipped). q.entries) (segment e log) (p ∷ []) ∙ ap (λ es. entries_sent e log ++ es) (append-nil p.entries))

sent_then : (d : ℕ) (log : List Shipped) (p : Shipped) → d ≢ lasts log → entries_sent d (log ++ p ∷ []) ≡ entries_sent d log
sent_then d log p other = ap (flat_map (λ (q : Shipped). q.entries)) (segment_then d log p other)

post_moves : (d e : ℕ) (log : List Shipped) (p : Shipped) → lasts log ≡ e → pushed_on_link d e (log ++ p ∷ []) [] ≡ pushed_on_link d e log p.entries
post_moves d e log p now = elim (cases_eq d e) [
  | inl same ↦
      ap (λ t. items (entries_sent d (log ++ p ∷ [])) ++ t) (at_epoch d e (items []) [] same)
      ∙ (append-nil (items (entries_sent d (log ++ p ∷ [])))
      ∙ (ap items (sent_now d log p (now ∙ sym same))
      ∙ (map-append (λ (x : Entry). x.item) (entries_sent d log) p.entries
      ∙ ap (λ t. items (entries_sent d log) ++ t) (sym (at_epoch d e (items p.entries) [] same)))))
  | inr other ↦
      ap (λ t. items (entries_sent d (log ++ p ∷ [])) ++ t) (off_epoch d e (items []) [] other)
      ∙ (ap (λ es. items es ++ []) (sent_then d log p (λ h. other (h ∙ now)))
      ∙ ap (λ t. items (entries_sent d log) ++ t) (sym (off_epoch d e (items p.entries) [] other)))
]

module _ (d e rounds : ℕ) (last : Bool) (o o' : StackOut) (log log' : List Shipped) (due_open : o.due ≡ true → o.closed ≡ false) (a : LinkAgrees e rounds o.closed o.due log) where
  pushed_by : (b : Bool) → was_moved o.due o'.due ≡ b → o' ≡ cond b (gone last) o → log' ≡ cond b (log ++ parcel_of last e o ∷ []) log → pushed_on_link d e log' o'.waiting ≡ pushed_on_link d e log o.waiting
  pushed_by true m link sent =
      let t = moved_due o.due o'.due m in
      let now : lasts log ≡ e = (open_due e rounds o.closed o.due log (due_open t) t a).ended in
      ap (λ (z : StackOut). pushed_on_link d e log' z.waiting) link ∙ (ap (λ g. pushed_on_link d e g []) sent ∙ post_moves d e log (parcel_of last e o) now)
  pushed_by false m link sent = ap (λ (z : StackOut). pushed_on_link d e log' z.waiting) link ∙ ap (λ g. pushed_on_link d e g o.waiting) sent

  pub pushed_after : WasPostedInRound last e o o' log log' → pushed_on_link d e log' o'.waiting ≡ pushed_on_link d e log o.waiting
  pushed_after w = pushed_by (was_moved o.due o'.due) refl w.link w.sent

length-items : (es : List Entry) → length (items es) ≡ length es
length-items es = length-map es (λ (x : Entry). x.item)

pub pulled_none : (d e : ℕ) (all : List Entry) → pulled_of_all d e all [] ≡ items all
pulled_none d e all = elim (cases_eq d e) [
  | inl same ↦ ap (λ k. take (length (items all) - k) (items all)) (at_epoch d e (length {A = Entry} []) 0 same) ∙ whole
  | inr other ↦ ap (λ k. take (length (items all) - k) (items all)) (off_epoch d e (length {A = Entry} []) 0 other) ∙ whole
] where
  whole : take (length (items all) - 0) (items all) ≡ items all
  whole = take_all (length (items all) - 0) (items all) (omega arith)

pub pulled_front : (e : ℕ) (front unread : List Entry) → pulled_of_all e e (front ++ unread) unread ≡ items front
pulled_front e front unread =
    ap (λ k. take (length (items (front ++ unread)) - k) (items (front ++ unread))) (at_epoch e e (length unread) 0 refl ∙ sym (length-items unread))
    ∙ (ap (λ xs. take (length xs - length (items unread)) xs) (map-append (λ (x : Entry). x.item) front unread) ∙ take_front (items front) (items unread))

pub pulled_then : (d e : ℕ) (all unread unread' : List Entry) → d ≢ e → pulled_of_all d e all unread' ≡ pulled_of_all d e all unread
pulled_then d e all unread unread' other = ap (λ k. take (length (items all) - k) (items all)) (off_epoch d e (length unread') 0 other ∙ sym (off_epoch d e (length unread) 0 other))

module _ (d e n rounds : ℕ) (exchange : Bool) (i i' : StackIn) (log log' : List Shipped) (due_open : i.due ≡ true → i.ended ≡ false) (due_empty : i.due ≡ true → i.unread ≡ []) (a : LinkAgrees e rounds i.ended i.due log)
    (odd : exchange ≡ true → rounds ≡ 2 * n + 2) (even : exchange ≡ false → rounds ≡ 2 * n + 1) where
  came_pulls : (p : Shipped) (x : Bool) → exchange ≡ x → LinkAgrees e rounds false true log → i.unread ≡ [] → pulled_of_all d e (entries_exchanged d (log ++ p ∷ [])) (cond x p.entries []) ≡ pulled_of_all d e (entries_exchanged d log) i.unread
  came_pulls p x is t empty = elim (cases_eq d e) [
    | inl same ↦ at_now x is same
    | inr other ↦
        pulled_then d e (entries_exchanged d (log ++ p ∷ [])) i.unread (cond x p.entries []) other
        ∙ ap (λ es. pulled_of_all d e es i.unread) (exchanged_then d log p (λ h. other (h ∙ t.ended)))
  ]
    where
      none : pulled_of_all d e (entries_exchanged d log) i.unread ≡ items (entries_exchanged d log)
      none = ap (pulled_of_all d e (entries_exchanged d log)) empty ∙ pulled_none d e (entries_exchanged d log)

      one : length (segment e log) + 1 ≡ rounds
      one = t.each_round refl

      at_now : (x : Bool) → exchange ≡ x → d ≡ e → pulled_of_all d e (entries_exchanged d (log ++ p ∷ [])) (cond x p.entries []) ≡ pulled_of_all d e (entries_exchanged d log) i.unread
      at_now true is same =
          let now : lasts log ≡ d = t.ended ∙ sym same in
          let size : length (segment d log) ≡ 2 * n + 1 = ap (λ k. length (segment k log)) same ∙ omega (arith, one, odd is) in
          ap (λ es. pulled_of_all d e es p.entries) (exchanged_more d n log p now size)
          ∙ (ap (λ k. pulled_of_all d k (entries_exchanged d log ++ p.entries) p.entries) (sym same) ∙ (pulled_front d (entries_exchanged d log) p.entries ∙ sym none))
      at_now false is same =
          let now : lasts log ≡ d = t.ended ∙ sym same in
          let size : length (segment d log) ≡ 2 * n = ap (λ k. length (segment k log)) same ∙ omega (arith, one, even is) in
          ap (λ es. pulled_of_all d e es []) (exchanged_proceed d n log p now size) ∙ (pulled_none d e (entries_exchanged d log) ∙ sym none)

  pulled_by : (p : Shipped) (b : Bool) → was_moved i.due i'.due ≡ b → i' ≡ cond b (came exchange p) i → log' ≡ cond b (log ++ p ∷ []) log
      → pulled_of_all d e (entries_exchanged d log') i'.unread ≡ pulled_of_all d e (entries_exchanged d log) i.unread
  pulled_by p true m link got =
      let t = moved_due i.due i'.due m in
      ap (λ (z : StackIn). pulled_of_all d e (entries_exchanged d log') z.unread) link
      ∙ (ap (λ g. pulled_of_all d e (entries_exchanged d g) (cond exchange p.entries [])) got ∙ came_pulls p exchange refl (open_due e rounds i.ended i.due log (due_open t) t a) (due_empty t))
  pulled_by p false m link got = ap (λ (z : StackIn). pulled_of_all d e (entries_exchanged d log') z.unread) link ∙ ap (λ g. pulled_of_all d e (entries_exchanged d g) i.unread) got

  pub pulled_after : WasCollected exchange i i' log log' → pulled_of_all d e (entries_exchanged d log') i'.unread ≡ pulled_of_all d e (entries_exchanged d log) i.unread
  pulled_after w = pulled_by (latest log') (was_moved i.due i'.due) refl w.link w.got
