-- A sweep over all ranks in which nothing moves: after it each rank of the least epoch is complete.
use Rattle.std.proofs.Common.{◌≡◌, ◌≢◌, ℕ, zero, suc, ◌+◌, ◌<◌, ◌≤◌, ◌-◌, ◌&&◌, ◌==◌, ◌⊎◌, Bool, true, false, not, List, [], ◌∷◌, ◌++◌, length, refl, sym, ap, subst, ◌∙◌, inl, inr, arith, length-append}
use Rattle.std.proofs.lemmas.Bool.{cases_eq, cases_lt}
use Rattle.bale_items.specs.declared.item.Entry.{Entry}
use Rattle.route_tensor.specs.Grid.{ranks, IsGrid}
use Rattle.route_tensor.specs.Link.{links}
use Rattle.route_tensor.specs.Ends.{hop_at, sender_at, reader_at}
use Rattle.route_tensor.proofs.Ends.{number_ends}
use Rattle.port_bank.specs.Logs.{Logs, lasts, starting_at, ending_at, EndsLast, lasts_in}
use Rattle.list_laws.specs.Lists.{IsPrefix, Ends}
use Rattle.port_bank.proofs.Fronts.{begins_whole}
use Rattle.port_bank.proofs.Segments.{lasts_begins}
use Rattle.port_bank.proofs.Marks.{all_got, mark_of, at_least, at_most}
use Rattle.hop_core.specs.Link.{In, is_wanted}
use Rattle.hop_core.specs.State.{State}
use Rattle.convey.specs.Buffers.{out_of, in_of, buffers_of}
use Rattle.convey.specs.Agreement.{Agrees}
use Rattle.convey.specs.Arrived.{HasArrived}
use Rattle.convey.specs.Due.{WantsParcel, IsOver}
use Rattle.convey.specs.Rest.{IsBusy, HasBusy, IsRestingSweep}
use Rattle.convey.proofs.OneRank.{starting-own, ending-own}
use Rattle.convey.proofs.Blocks.{HasNext, has_next}

-- What the turn of rank r tells, in a sweep in which the bank's lists stay and no entry is relayed:
-- old and new are its states before and after its advance.
-- pushed: it pushed all and said that it is done, or a push was refused, and one of its links is
-- crowded.
pub record IsQuiet (dims : List ℕ) (r e : ℕ) (old new : State) (sent got : Logs) : Type 0 where
  pub dims_old : old.dims ≡ dims
  pub rank_old : old.rank ≡ r
  pub epoch_old : old.epoch ≡ e
  pub dims_new : new.dims ≡ dims
  pub rank_new : new.rank ≡ r
  pub epoch_new : new.epoch ≡ e
  pub agrees_old : Agrees (buffers_of old) (starting_at dims r sent) (ending_at dims r got)
  pub agrees_new : Agrees (buffers_of new) (starting_at dims r sent) (ending_at dims r got)
  pub pushed : (new.done ≡ true) ⊎ HasBusy dims r sent got
  pub last_read : (l : ℕ) → l < links dims → reader_at dims l ≡ r → hop_at dims l ≡ length dims → (in_of old l).parcel.untaken ≡ []
  pub lies : (l : ℕ) → l < links dims → reader_at dims l ≡ r → (in_of new l).parcel.untaken ≡ (in_of old l).parcel.untaken
  pub idle : (l : ℕ) → l < links dims → reader_at dims l ≡ r → WantsParcel old l → length (got l) ≡ length (sent l)
  pub stopped : (l : ℕ) → l < links dims → reader_at dims l ≡ r → hop_at dims l < length dims → (in_of new l).parcel.untaken ≢ [] → HasNext dims r l (IsBusy sent got)
  pub closing : (l : ℕ) → l < links dims → sender_at dims l ≡ r → (hop_at dims l ≡ 1 → new.done ≡ true) → HasArrived (buffers_of new) l → (out_of new l).closed ≡ false → IsBusy sent got l

-- What the lists say of a rank that is in a later epoch.
pub record IsBeyond (dims : List ℕ) (r e : ℕ) (sent got : Logs) : Type 0 where
  pub sent_past : (l : ℕ) → l < links dims → sender_at dims l ≡ r → e < lasts (sent l)
  pub got_past : (l : ℕ) → l < links dims → reader_at dims l ≡ r → e < lasts (got l)

pub beyond : (dims : List ℕ) (r e : ℕ) (st : State) (sent got : Logs) → st.dims ≡ dims → st.rank ≡ r → e < st.epoch → Agrees (buffers_of st) (starting_at dims r sent) (ending_at dims r got) → IsBeyond dims r e sent got
beyond dims r e st sent got d own later a = record {
  sent_past = λ l h from.
      let o = a.outs l (subst (λ ds. l < links ds) (sym d) h) (ap (λ ds. sender_at ds l) d ∙ (from ∙ sym own)) in
      let least = at_least st.epoch (out_of st l).closed in
      let marks : lasts (sent l) ≡ lasts_in st.epoch (out_of st l).closed = ap lasts (sym (starting-own dims r sent l from)) ∙ o.lasts in
      omega arith;
  got_past = λ l h to.
      let i = a.ins l (subst (λ ds. l < links ds) (sym d) h) (ap (λ ds. reader_at ds l) d ∙ (to ∙ sym own)) in
      let least = at_least st.epoch (in_of st l).ended in
      let marks : lasts (got l) ≡ lasts_in st.epoch (in_of st l).ended = ap lasts (sym (ending-own dims r got l to)) ∙ i.lasts in
      omega arith;
}

is_true : (c : Bool) → (c ≡ false → ⊥) → c ≡ true
is_true true h = refl
is_true false h = absurd (h refl)

wants_now : (x : In) → x.parcel.untaken ≡ [] → x.ended ≡ false → is_wanted x ≡ true
wants_now x none open' = λ i. (length (none i) == 0) && not (open' i)

empty_or : (xs : List Entry) → (xs ≡ []) ⊎ (xs ≢ [])
empty_or [] = inl refl
empty_or (x ∷ xs) = inr (λ e. absurd (let n = ap length e in omega arith))

yes_or : (c : Bool) → (c ≡ true) ⊎ (c ≡ false)
yes_or true = inl refl
yes_or false = inr refl

-- What a link in tells at its reader's turn: it has ended, or all that was sent was got, and in
-- both cases nothing lies in its inbox; or an entry lies there, and a link of the next hop is
-- crowded.
module _ (dims : List ℕ) (r e : ℕ) (old new : State) (sent got : Logs) (q : IsQuiet dims r e old new sent got) where
  sent_marks : (l : ℕ) → l < links dims → sender_at dims l ≡ r → lasts (sent l) ≡ lasts_in e (out_of new l).closed
  sent_marks l h from =
      let o = q.agrees_new.outs l (subst (λ ds. l < links ds) (sym q.dims_new) h) (ap (λ ds. sender_at ds l) q.dims_new ∙ (from ∙ sym q.rank_new)) in
      ap lasts (sym (starting-own dims r sent l from)) ∙ (o.lasts ∙ ap (λ n. lasts_in n (out_of new l).closed) q.epoch_new)

  sent_last : (l : ℕ) → l < links dims → sender_at dims l ≡ r → (out_of new l).closed ≡ true → EndsLast (sent l)
  sent_last l h from c =
      let o = q.agrees_new.outs l (subst (λ ds. l < links ds) (sym q.dims_new) h) (ap (λ ds. sender_at ds l) q.dims_new ∙ (from ∙ sym q.rank_new)) in
      subst EndsLast (starting-own dims r sent l from) (o.by_last c)

  got_marks : (l : ℕ) → l < links dims → reader_at dims l ≡ r → lasts (got l) ≡ lasts_in e (in_of new l).ended
  got_marks l h to =
      let i = q.agrees_new.ins l (subst (λ ds. l < links ds) (sym q.dims_new) h) (ap (λ ds. reader_at ds l) q.dims_new ∙ (to ∙ sym q.rank_new)) in
      ap lasts (sym (ending-own dims r got l to)) ∙ (i.lasts ∙ ap (λ n. lasts_in n (in_of new l).ended) q.epoch_new)

  got_marks_before : (l : ℕ) → l < links dims → reader_at dims l ≡ r → lasts (got l) ≡ lasts_in e (in_of old l).ended
  got_marks_before l h to =
      let i = q.agrees_old.ins l (subst (λ ds. l < links ds) (sym q.dims_old) h) (ap (λ ds. reader_at ds l) q.dims_old ∙ (to ∙ sym q.rank_old)) in
      ap lasts (sym (ending-own dims r got l to)) ∙ (i.lasts ∙ ap (λ n. lasts_in n (in_of old l).ended) q.epoch_old)

  abbrev Tells : ℕ → Type 0
  Tells l = (((in_of new l).parcel.untaken ≡ []) × ((lasts (got l) ≡ e + 1) ⊎ (length (got l) ≡ length (sent l)))) ⊎ HasNext dims r l (IsBusy sent got)

  tells : (l : ℕ) → l < links dims → reader_at dims l ≡ r → hop_at dims l ≤ length dims → Tells l
  tells l h to last =
      elim (empty_or (in_of old l).parcel.untaken) [
        | inl none ↦ inl (
          q.lies l h to ∙ none,
          elim (yes_or (in_of old l).ended) [
            | inl ended ↦ inl (got_marks_before l h to ∙ ap (lasts_in e) ended)
            | inr open' ↦ inr (q.idle l h to (wants_now (in_of old l) none open'))
          ],
        )
        | inr some ↦
            let before : hop_at dims l ≢ length dims = λ at. some (q.last_read l h to at) in
            inr (q.stopped l h to (omega arith) (λ none. some (sym (q.lies l h to) ∙ none)))
      ]

module _ (dims : List ℕ) (e : ℕ) (old new : ℕ → State) (sent got : Logs) (g : IsGrid dims)
    (fronts : (l : ℕ) → l < links dims → IsPrefix (got l) (sent l))
    (each : (r : ℕ) → r < ranks dims → IsQuiet dims r e (old r) (new r) sent got ⊎ IsBeyond dims r e sent got) where
  abbrev Quiet : ℕ → Type 0
  Quiet r = IsQuiet dims r e (old r) (new r) sent got

  -- all was got where the reader has the last parcel of the epoch
  arrived_all : (l : ℕ) → l < links dims → Quiet (sender_at dims l) → e < lasts (got l) → length (got l) ≡ length (sent l)
  arrived_all l h k ended =
      let a : ℕ = sender_at dims l in
      let marks = sent_marks dims a e (old a) (new a) sent got k l h refl in
      let most = at_most e (out_of (new a) l).closed in
      let more = lasts_begins (got l) (sent l) (fronts l h) in
      let same : lasts (got l) ≡ lasts (sent l) = omega arith in
      let closed : (out_of (new a) l).closed ≡ true = mark_of e (out_of (new a) l).closed (omega arith) in
      ap length (all_got (got l) (sent l) (fronts l h) (sent_last dims a e (old a) (new a) sent got k l h refl closed) same)

  -- a link with parcels on their way is held up by one of the next hop, from a rank of the same
  -- epoch
  held_up : (l : ℕ) → l < links dims → Quiet (sender_at dims l) → IsBusy sent got l → Quiet (reader_at dims l) × HasNext dims (reader_at dims l) l (IsBusy sent got)
  held_up l h k busy =
      let ends = number_ends dims l g h in
      let b : ℕ = reader_at dims l in
      elim (each b ends.link.reader) [
        | inl q ↦ elim (tells dims b e (old b) (new b) sent got q l h refl ends.link.last_hop) [
          | inl t ↦ elim t.1 [
            | inl ended ↦ (let all = arrived_all l h k (omega arith) in absurd (omega arith))
            | inr all ↦ absurd (omega arith)
          ]
          | inr next ↦ (q, next)
        ]
        | inr far ↦ (let all = arrived_all l h k (far.got_past l h refl) in absurd (omega arith))
      ]

  -- so there is none
  not_busy : (n l : ℕ) → l < links dims → Quiet (sender_at dims l) → length dims ≤ hop_at dims l + n → IsBusy sent got l → ⊥
  not_busy zero l h k near busy =
      let next = (held_up l h k busy).1 in
      let last = (number_ends dims next.link g next.below).link.last_hop in
      let hop = next.hop in
      omega arith
  not_busy (suc n) l h k near busy =
      let held = held_up l h k busy in
      let next = held.1 in
      let hop = next.hop in
      not_busy n next.link next.below (subst Quiet (sym next.sender) held.0) (omega arith) next.holds

  never_busy : (r l : ℕ) → l < links dims → sender_at dims l ≡ r → Quiet r → IsBusy sent got l → ⊥
  never_busy r l h from k busy = not_busy (length dims) l h (subst Quiet (sym from) k) (omega arith) busy

  all_done : (r : ℕ) → Quiet r → (new r).done ≡ true
  all_done r k = elim k.pushed [ inl done ↦ done | inr m ↦ absurd (never_busy r m.link m.below m.sender k m.busy) ]

  abbrev Arrived : ℕ → ℕ → Type 0
  Arrived r l = ((in_of (new r) l).ended ≡ true) × ((in_of (new r) l).parcel.untaken ≡ [])

  arrived : (r l : ℕ) → l < links dims → reader_at dims l ≡ r → Quiet r → e < lasts (sent l) → Arrived r l
  arrived r l h to k closed =
      let ends = number_ends dims l g h in
      let marks = got_marks dims r e (old r) (new r) sent got k l h to in
      elim (tells dims r e (old r) (new r) sent got k l h to ends.link.last_hop) [
        | inl t ↦ (
          elim t.1 [
            | inl ended ↦ mark_of e (in_of (new r) l).ended (omega arith)
            | inr all ↦ mark_of e (in_of (new r) l).ended (let same = ap lasts (begins_whole (got l) (sent l) (fronts l h) (omega (arith, all))) in omega arith)
          ],
          t.0,
        )
        | inr next ↦ absurd (never_busy r next.link next.below next.sender k next.holds)
      ]

  has_arrived : (r l : ℕ) → Quiet r → ((m : ℕ) → m < links dims → reader_at dims m ≡ r → hop_at dims l ≡ hop_at dims m + 1 → Arrived r m) → HasArrived (buffers_of (new r)) l
  has_arrived r l k came =
      let here : (m : ℕ) → m < links (new r).dims → reader_at (new r).dims m ≡ (new r).rank → hop_at (new r).dims l ≡ hop_at (new r).dims m + 1 → Arrived r m = λ m below to next.
      came m (subst (λ ds. m < links ds) k.dims_new below) (ap (λ ds. reader_at ds m) (sym k.dims_new) ∙ (to ∙ k.rank_new)) (subst (λ ds. hop_at ds l ≡ hop_at ds m + 1) k.dims_new next) in
      record { ended = λ m below to next. (here m below to next).0; passed_on = λ m below to next. (here m below to next).1 }

  -- every link is closed, hop by hop
  closing : (l : ℕ) → l < links dims → ((m : ℕ) → m < links dims → hop_at dims l ≡ hop_at dims m + 1 → e < lasts (sent m)) → e < lasts (sent l)
  closing l below before =
      let ends = number_ends dims l g below in
      let a : ℕ = sender_at dims l in
      elim (each a ends.link.sender) [
        | inl k ↦
            let came = has_arrived a l k (λ m h to next. arrived a m h to k (before m h next)) in
            let closed : (out_of (new a) l).closed ≡ true = is_true (out_of (new a) l).closed (λ open'. never_busy a l below refl k (k.closing l below refl (λ one. all_done a k) came open')) in
            let marks : lasts (sent l) ≡ e + 1 = sent_marks dims a e (old a) (new a) sent got k l below refl ∙ ap (lasts_in e) closed in
            omega arith
        | inr far ↦ far.sent_past l below refl
      ]

  closed_on : (h l : ℕ) → l < links dims → hop_at dims l ≡ suc h → e < lasts (sent l)
  closed_on zero l below at = closing l below (λ m h next. absurd (let first = (number_ends dims m g h).link.first_hop in omega arith))
  closed_on (suc n) l below at = closing l below (λ m h next. closed_on n m h (omega arith))

  closed : (l : ℕ) → l < links dims → e < lasts (sent l)
  closed l below =
      let first = (number_ends dims l g below).link.first_hop in
      closed_on (hop_at dims l - 1) l below (omega arith)

  pub quiet_ends : (r : ℕ) → Quiet r → IsOver (new r)
  quiet_ends r k =
      let here : (l : ℕ) → l < links (new r).dims → l < links dims = λ l h. subst (λ ds. l < links ds) k.dims_new h in
      let reads : (l : ℕ) → reader_at (new r).dims l ≡ (new r).rank → reader_at dims l ≡ r = λ l to. ap (λ ds. reader_at ds l) (sym k.dims_new) ∙ (to ∙ k.rank_new) in
      let sends : (l : ℕ) → sender_at (new r).dims l ≡ (new r).rank → sender_at dims l ≡ r = λ l from. ap (λ ds. sender_at ds l) (sym k.dims_new) ∙ (from ∙ k.rank_new) in
      record {
        done = all_done r k;
        closed = λ l h from. mark_of e (out_of (new r) l).closed (let marks = sent_marks dims r e (old r) (new r) sent got k l (here l h) (sends l from) in let past = closed l (here l h) in omega arith);
        ended = λ l h to. (arrived r l (here l h) (reads l to) k (closed l (here l h))).0;
        read = λ l h to. (arrived r l (here l h) (reads l to) k (closed l (here l h))).1;
      }

-- an end of a list that is no shorter is the list
no_front : {T : Type 0} (front xs : List T) → length (front ++ xs) ≤ length xs → front ++ xs ≡ xs
no_front [] xs h = refl
no_front (f ∷ fs) xs h = absurd (omega (arith, h, length-append fs xs))

same_end : {T : Type 0} (whole back : List T) → Ends whole back → length whole ≤ length back → back ≡ whole
same_end whole back e h = sym (e.is ∙ no_front e.front back (subst (λ xs. length xs ≤ length back) e.is h))

module _ (dims : List ℕ) (cap slots e : ℕ) (old new : ℕ → State) (sent got : Logs) (w : IsRestingSweep dims cap slots e old new sent got) where
  without_latest : (r : ℕ) → r < ranks dims → (new r).epoch ≡ e → IsQuiet dims r e (old r) (new r) sent got
  without_latest r h now =
      let t = w.turns r h now in record {
        dims_old = sym t.same_dims ∙ w.same_dims r h;
        rank_old = sym t.same_rank ∙ w.same_rank r h;
        epoch_old = sym t.same_epoch ∙ now;
        dims_new = w.same_dims r h;
        rank_new = w.same_rank r h;
        epoch_new = now;
        agrees_old = t.agrees;
        agrees_new = w.agrees r h;
        pushed = t.pushed;
        last_read = t.read;
        lies = λ l below to.
            let last = (number_ends dims l w.grid below).link.last_hop in
            same_end (in_of (old r) l).parcel.untaken (in_of (new r) l).parcel.untaken (t.lies l below to) (elim (cases_lt (hop_at dims l) (length dims)) [
              | inl before ↦ t.kept l below to before
              | inr past ↦ (let none = ap length (t.read l below to (omega arith)) in omega (arith, none))
            ]);
        idle = t.idle;
        stopped = λ l below to before some. has_next dims r l (in_of (new r) l).parcel.untaken (IsBusy sent got) (λ x at. t.stopped l x below to before at) some;
        closing = t.closing;
      }

  each_at : (r : ℕ) → r < ranks dims → IsQuiet dims r e (old r) (new r) sent got ⊎ IsBeyond dims r e sent got
  each_at r h = elim (cases_eq (new r).epoch e) [
    | inl now ↦ inl (without_latest r h now)
    | inr later ↦ inr (let least = w.least r h in beyond dims r e (new r) sent got (w.same_dims r h) (w.same_rank r h) (omega arith) (w.agrees r h))
  ]

  pub rest_over : (r : ℕ) → r < ranks dims → (new r).epoch ≡ e → IsOver (new r)
  rest_over r h now = quiet_ends dims e old new sent got w.grid (λ l below. (w.links_keep l below).begins) each_at r (without_latest r h now)
