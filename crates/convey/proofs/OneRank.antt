-- What the law of all ranks needs of one of them.
use Rattle.std.proofs.Common.{◌≡◌, ℕ, ◌+◌, ◌-◌, ◌<◌, ◌≤◌, ◌==◌, ◌⊎◌, Bool, true, false, cond, List, [], ◌++◌, length, take, drop, inl, inr, refl, sym, ap, subst, ◌∙◌, arith, eq-eqb, ne_eqb}
use Rattle.std.proofs.lemmas.Bool.{cases_eq}
use Rattle.std.proofs.lemmas.List.{append-nil, take-append-drop, take_all}
use Rattle.bale_items.specs.declared.item.Item.{Item}
use Rattle.route_tensor.specs.Grid.{ranks, IsGrid}
use Rattle.route_tensor.specs.Link.{links}
use Rattle.route_tensor.proofs.Places.{place-zero, place-all}
use Rattle.route_tensor.specs.Ends.{hop_at, sender_at, reader_at}
use Rattle.port_bank.specs.Logs.{Logs, lasts, starting_at, ending_at, lasts_in}
use Rattle.port_bank.specs.Flow.{hop_link, flow}
use Rattle.route_tensor.specs.Pair.{belongs}
use Rattle.list_laws.specs.Lists.{IsPrefix}
use Rattle.port_bank.specs.Relay.{RelayLaw}
use Rattle.port_bank.proofs.Fronts.{begins_more, begins_same}
use Rattle.port_bank.proofs.Kept.{flow_at, law_own}
use Rattle.port_bank.proofs.Routes.{hop-on_route, sender-on_route, reader-on_route, link-on_route}
use Rattle.port_bank.specs.Machine.{IsThrough}
use Rattle.convey.specs.Buffers.{Buffers}
use Rattle.convey.specs.Agreement.{items_among, Agrees}
use Rattle.convey.specs.Parts.{pushed_to, unread_of, pulled_of, part_of}
use Rattle.convey.specs.Law.{IsSound}

-- a rank's own logs are those of the bank
pub starting-own : (dims : List ℕ) (r : ℕ) (logs : Logs) (l : ℕ) → sender_at dims l ≡ r → starting_at dims r logs l ≡ logs l
starting-own dims r logs l e = ap (λ c. cond c (logs l) []) (eq-eqb (sender_at dims l) r e)

pub ending-own : (dims : List ℕ) (r : ℕ) (logs : Logs) (l : ℕ) → reader_at dims l ≡ r → ending_at dims r logs l ≡ logs l
ending-own dims r logs l e = ap (λ c. cond c (logs l) []) (eq-eqb (reader_at dims l) r e)

-- the first link of a route starts at its sender, and the last one ends at its destination
pub record FirstLink (dims : List ℕ) (r d : ℕ) : Type 0 where
  pub below : hop_link dims r d 1 < links dims
  pub sender : sender_at dims (hop_link dims r d 1) ≡ r
  pub hop : hop_at dims (hop_link dims r d 1) ≡ 1

pub first_link : (dims : List ℕ) (r d : ℕ) → IsGrid dims → r < ranks dims → d < ranks dims → FirstLink dims r d
first_link dims r d g from to =
    let some : 1 ≤ length dims = g.some in
    record {
      below = link-on_route dims r d 1 g from to (omega arith) some;
      sender = sender-on_route dims r d 1 g from to (omega arith) some ∙ place-zero dims r d;
      hop = hop-on_route dims r d 1 g from to (omega arith) some;
    }

pub record LastLink (dims : List ℕ) (s r : ℕ) : Type 0 where
  pub below : hop_link dims s r (length dims) < links dims
  pub reader : reader_at dims (hop_link dims s r (length dims)) ≡ r
  pub hop : hop_at dims (hop_link dims s r (length dims)) ≡ length dims

pub last_link : (dims : List ℕ) (s r : ℕ) → IsGrid dims → s < ranks dims → r < ranks dims → LastLink dims s r
last_link dims s r g from to =
    let some : 1 ≤ length dims = g.some in
    record {
      below = link-on_route dims s r (length dims) g from to some (omega arith);
      reader = reader-on_route dims s r (length dims) g from to some (omega arith) ∙ place-all dims s r g.positive from to;
      hop = hop-on_route dims s r (length dims) g from to some (omega arith);
    }

begins_take : {T : Type 0} (n : ℕ) (xs : List T) → IsPrefix (take n xs) xs
begins_take n xs = record { rest = drop n xs; is = sym (take-append-drop n xs) }

take_whole : {T : Type 0} (n : ℕ) (xs : List T) → n ≡ 0 → take (length xs - n) xs ≡ xs
take_whole n xs e = take_all (length xs - n) xs (omega arith)

-- how many epochs a rank has completed, against its links in
completed_marks : (n : ℕ) (c ended : Bool) → (c ≡ true → ended ≡ true) → cond c (n + 1) n ≤ lasts_in n ended
completed_marks n true ended h = subst (λ z. n + 1 ≤ lasts_in n z) (sym (h refl)) (omega arith)
completed_marks n false true h = omega arith
completed_marks n false false h = omega arith

completed_now : (n e : ℕ) (c : Bool) → e < cond c (n + 1) n → e ≡ n → c ≡ true
completed_now n e true h same = refl
completed_now n e false h same = absurd (omega arith)

-- what a rank sent on hop 1, it pushed
pub record OneRank (dims : List ℕ) (r : ℕ) (b : Buffers) (sent got : Logs) : Type 0 where
  pub law : RelayLaw dims r sent got
  pub pushed_front : (e d : ℕ) → d < ranks dims → IsPrefix (flow dims sent r d 1 e) (pushed_to b (starting_at dims r sent) e d)
  pub pushed_ended : (e d : ℕ) → d < ranks dims → e < lasts (sent (hop_link dims r d 1)) → pushed_to b (starting_at dims r sent) e d ≡ flow dims sent r d 1 e
  pub through : (e d : ℕ) → d < ranks dims → e < lasts (sent (hop_link dims r d 1)) → IsThrough e (part_of b (starting_at dims r sent) (ending_at dims r got))
  pub pulled_front : (e s : ℕ) → s < ranks dims → IsPrefix (pulled_of b (ending_at dims r got) e s) (flow dims got s r (length dims) e)
  pub completes : (s : ℕ) → b.complete ≡ true → s < ranks dims → b.epoch < lasts (got (hop_link dims s r (length dims)))
  pub pulled_all : (s : ℕ) → b.complete ≡ true → s < ranks dims → pulled_of b (ending_at dims r got) b.epoch s ≡ flow dims got s r (length dims) b.epoch
  pub completed : (e s : ℕ) → e < cond b.complete (b.epoch + 1) b.epoch → s < ranks dims → e < lasts (got (hop_link dims s r (length dims)))
  pub pulled_past : (e s : ℕ) → e < cond b.complete (b.epoch + 1) b.epoch → s < ranks dims → pulled_of b (ending_at dims r got) e s ≡ flow dims got s r (length dims) e

module _ (b : Buffers) (sent got : Logs) (g : IsGrid b.dims) (own : b.rank < ranks b.dims) (sound : IsSound b)
    (agrees : Agrees b (starting_at b.dims b.rank sent) (ending_at b.dims b.rank got)) where
  own_law : RelayLaw b.dims b.rank sent got
  own_law = law_own b.dims b.rank (starting_at b.dims b.rank sent) sent (ending_at b.dims b.rank got) got g
      (λ l e. starting-own b.dims b.rank sent l e) (λ l e. ending-own b.dims b.rank got l e) agrees.law

  sent_flow : (e d : ℕ) → d < ranks b.dims → flow b.dims (starting_at b.dims b.rank sent) b.rank d 1 e ≡ flow b.dims sent b.rank d 1 e
  sent_flow e d to =
      let l = first_link b.dims b.rank d g own to in
      flow_at b.dims (starting_at b.dims b.rank sent) sent b.rank d 1 e (starting-own b.dims b.rank sent (hop_link b.dims b.rank d 1) l.sender)

  got_flow : (e s : ℕ) → s < ranks b.dims → flow b.dims (ending_at b.dims b.rank got) s b.rank (length b.dims) e ≡ flow b.dims got s b.rank (length b.dims) e
  got_flow e s from =
      let l = last_link b.dims s b.rank g from own in
      flow_at b.dims (ending_at b.dims b.rank got) got s b.rank (length b.dims) e (ending-own b.dims b.rank got (hop_link b.dims s b.rank (length b.dims)) l.reader)

  own_pushed : (e d : ℕ) → d < ranks b.dims → IsPrefix (flow b.dims sent b.rank d 1 e) (pushed_to b (starting_at b.dims b.rank sent) e d)
  own_pushed e d to =
      let more : List Item = cond (e == b.epoch) (items_among (belongs b.dims b.rank d 1) (b.waiting (hop_link b.dims b.rank d 1))) [] in
      begins_same (flow b.dims sent b.rank d 1 e) (flow b.dims sent b.rank d 1 e ++ more) (pushed_to b (starting_at b.dims b.rank sent) e d)
      (ap (λ u. u ++ more) (sym (sent_flow e d to))) (begins_more (flow b.dims sent b.rank d 1 e) more)

  -- a link of hop 1 that has ended an epoch
  ended_before : (e l : ℕ) (c : Bool) → e < lasts_in b.epoch c → (c ≡ true) ⊎ (e < b.epoch)
  ended_before e l true h = inl refl
  ended_before e l false h = inr h

  at_most : (e : ℕ) (c : Bool) → e < lasts_in b.epoch c → e ≤ b.epoch
  at_most e true h = omega arith
  at_most e false h = omega arith

  sent_ended : (e d : ℕ) → d < ranks b.dims → e < lasts (sent (hop_link b.dims b.rank d 1)) → e < lasts_in b.epoch (b.closed (hop_link b.dims b.rank d 1))
  sent_ended e d to h =
      let l = first_link b.dims b.rank d g own to in
      let o = agrees.outs (hop_link b.dims b.rank d 1) l.below l.sender in
      let same : lasts (sent (hop_link b.dims b.rank d 1)) ≡ lasts_in b.epoch (b.closed (hop_link b.dims b.rank d 1)) =
      ap lasts (sym (starting-own b.dims b.rank sent (hop_link b.dims b.rank d 1) l.sender)) ∙ o.lasts in
      subst (λ n. e < n) same h

  own_through : (e d : ℕ) → d < ranks b.dims → e < lasts (sent (hop_link b.dims b.rank d 1)) → IsThrough e (part_of b (starting_at b.dims b.rank sent) (ending_at b.dims b.rank got))
  own_through e d to h =
      let l = first_link b.dims b.rank d g own to in
      let n = sent_ended e d to h in
      elim (cases_eq e b.epoch) [
        | inl same ↦ elim (ended_before e (hop_link b.dims b.rank d 1) (b.closed (hop_link b.dims b.rank d 1)) n) [
          | inl c ↦ inl (sym same, sound.closed_done (hop_link b.dims b.rank d 1) l.below l.sender l.hop c)
          | inr less ↦ inr less
        ]
        | inr other ↦ inr (let m = at_most e (b.closed (hop_link b.dims b.rank d 1)) n in omega arith)
      ]

  nothing_more : (e d : ℕ) → d < ranks b.dims → e < lasts_in b.epoch (b.closed (hop_link b.dims b.rank d 1))
      → cond (e == b.epoch) (items_among (belongs b.dims b.rank d 1) (b.waiting (hop_link b.dims b.rank d 1))) [] ≡ []
  nothing_more e d to n =
      let l = first_link b.dims b.rank d g own to in
      elim (cases_eq e b.epoch) [
        | inl same ↦ elim (ended_before e (hop_link b.dims b.rank d 1) (b.closed (hop_link b.dims b.rank d 1)) n) [
          | inl c ↦
              let none : b.waiting (hop_link b.dims b.rank d 1) ≡ [] = sound.closed_empty (hop_link b.dims b.rank d 1) l.below l.sender c in
              ap (λ w. cond (e == b.epoch) (items_among (belongs b.dims b.rank d 1) w) []) none ∙ elim (e == b.epoch) as (λ t. cond t (items_among (belongs b.dims b.rank d 1) []) [] ≡ []) [ true ↦ refl | false ↦ refl ]
          | inr less ↦ absurd (omega arith)
        ]
        | inr other ↦ ap (λ t. cond t (items_among (belongs b.dims b.rank d 1) (b.waiting (hop_link b.dims b.rank d 1))) []) (ne_eqb e b.epoch other)
      ]

  own_ended : (e d : ℕ) → d < ranks b.dims → e < lasts (sent (hop_link b.dims b.rank d 1)) → pushed_to b (starting_at b.dims b.rank sent) e d ≡ flow b.dims sent b.rank d 1 e
  own_ended e d to h =
      ap (λ u. u ++ cond (e == b.epoch) (items_among (belongs b.dims b.rank d 1) (b.waiting (hop_link b.dims b.rank d 1))) []) (sent_flow e d to)
      ∙ (ap (λ u. flow b.dims sent b.rank d 1 e ++ u) (nothing_more e d to (sent_ended e d to h)) ∙ append-nil (flow b.dims sent b.rank d 1 e))

  own_pulled : (e s : ℕ) → s < ranks b.dims → IsPrefix (pulled_of b (ending_at b.dims b.rank got) e s) (flow b.dims got s b.rank (length b.dims) e)
  own_pulled e s from =
      let came : List Item = flow b.dims (ending_at b.dims b.rank got) s b.rank (length b.dims) e in
      begins_same (take (length came - unread_of b e s) came) came (flow b.dims got s b.rank (length b.dims) e) (got_flow e s from) (begins_take (length came - unread_of b e s) came)

  own_completes : (s : ℕ) → b.complete ≡ true → s < ranks b.dims → b.epoch < lasts (got (hop_link b.dims s b.rank (length b.dims)))
  own_completes s c from =
      let l = last_link b.dims s b.rank g from own in
      let i = agrees.ins (hop_link b.dims s b.rank (length b.dims)) l.below l.reader in
      let same : lasts (got (hop_link b.dims s b.rank (length b.dims))) ≡ b.epoch + 1 =
      ap lasts (sym (ending-own b.dims b.rank got (hop_link b.dims s b.rank (length b.dims)) l.reader))
      ∙ (i.lasts ∙ ap (lasts_in b.epoch) (sound.all_ended c (hop_link b.dims s b.rank (length b.dims)) l.below l.reader)) in
      omega arith

  own_all : (s : ℕ) → b.complete ≡ true → s < ranks b.dims → pulled_of b (ending_at b.dims b.rank got) b.epoch s ≡ flow b.dims got s b.rank (length b.dims) b.epoch
  own_all s c from =
      let l = last_link b.dims s b.rank g from own in
      let none : b.unread (hop_link b.dims s b.rank (length b.dims)) ≡ [] = sound.all_read c (hop_link b.dims s b.rank (length b.dims)) l.below l.reader in
      let keep = belongs b.dims s b.rank (length b.dims) in
      let zero_unread : unread_of b b.epoch s ≡ 0 =
      ap (λ u. cond (b.epoch == b.epoch) (length (items_among keep u)) 0) none
      ∙ elim (b.epoch == b.epoch) as (λ t. cond t (length (items_among keep [])) 0 ≡ 0) [ true ↦ refl | false ↦ refl ] in
      let came : List Item = flow b.dims (ending_at b.dims b.rank got) s b.rank (length b.dims) b.epoch in
      take_whole (unread_of b b.epoch s) came zero_unread ∙ got_flow b.epoch s from

  own_completed : (e s : ℕ) → e < cond b.complete (b.epoch + 1) b.epoch → s < ranks b.dims → e < lasts (got (hop_link b.dims s b.rank (length b.dims)))
  own_completed e s h from =
      let l = last_link b.dims s b.rank g from own in
      let here : ℕ = hop_link b.dims s b.rank (length b.dims) in
      let i = agrees.ins here l.below l.reader in
      let same : lasts (got here) ≡ lasts_in b.epoch (b.ended here) = ap lasts (sym (ending-own b.dims b.rank got here l.reader)) ∙ i.lasts in
      let marks = completed_marks b.epoch b.complete (b.ended here) (λ c. sound.all_ended c here l.below l.reader) in
      omega (arith, h, same, marks)

  own_past : (e s : ℕ) → e < cond b.complete (b.epoch + 1) b.epoch → s < ranks b.dims → pulled_of b (ending_at b.dims b.rank got) e s ≡ flow b.dims got s b.rank (length b.dims) e
  own_past e s h from = elim (cases_eq e b.epoch) [
    | inl same ↦
        subst (λ f. pulled_of b (ending_at b.dims b.rank got) f s ≡ flow b.dims got s b.rank (length b.dims) f) (sym same)
        (own_all s (completed_now b.epoch e b.complete h same) from)
    | inr other ↦
        let keep = belongs b.dims s b.rank (length b.dims) in
        let none : unread_of b e s ≡ 0 = ap (λ t. cond t (length (items_among keep (b.unread (hop_link b.dims s b.rank (length b.dims))))) 0) (ne_eqb e b.epoch other) in
        take_whole (unread_of b e s) (flow b.dims (ending_at b.dims b.rank got) s b.rank (length b.dims) e) none ∙ got_flow e s from
  ]

  pub one_rank : OneRank b.dims b.rank b sent got
  one_rank = record {
    law = own_law;
    pushed_front = own_pushed;
    pushed_ended = own_ended;
    through = own_through;
    pulled_front = own_pulled;
    completes = own_completes;
    pulled_all = own_all;
    completed = own_completed;
    pulled_past = own_past;
  }

pub one_rank_of : (dims : List ℕ) (r : ℕ) (b : Buffers) (sent got : Logs) → b.dims ≡ dims → b.rank ≡ r → IsGrid dims → r < ranks dims → IsSound b
    → Agrees b (starting_at dims r sent) (ending_at dims r got) → OneRank dims r b sent got
one_rank_of dims r b sent got same own g below sound agrees =
    let P : List ℕ → ℕ → Type 0 = λ ds q. IsGrid ds → q < ranks ds → Agrees b (starting_at ds q sent) (ending_at ds q got) → OneRank ds q b sent got in
    (subst (λ q. P dims q) own (subst (λ ds. P ds b.rank) same (λ h k a. one_rank b sent got h k sound a))) g below agrees
