-- Where no rank's turn moved anything, no parcel is on its way.
use Rattle.std.proofs.Common.{◌≡◌, ℕ, zero, suc, ◌+◌, ◌<◌, ◌≤◌, ◌&&◌, ◌==◌, Bool, true, false, not, List, [], ◌∷◌, length, Some, slice_get, refl, sym, ap, subst, ◌∙◌, inl, inr, arith}
use Rattle.std.proofs.lemmas.Bool.{cases_eq}
use Rattle.bale_items.specs.declared.item.Entry.{Entry}
use Rattle.route_tensor.specs.Grid.{ranks, IsGrid}
use Rattle.route_tensor.specs.Link.{links}
use Rattle.route_tensor.specs.Ends.{hop_at, sender_at, reader_at}
use Rattle.route_tensor.proofs.Ends.{number_ends}
use Rattle.port_bank.specs.Logs.{Logs, lasts, starting_at, ending_at, EndsLast, lasts_in}
use Rattle.list_laws.specs.Lists.{IsPrefix}
use Rattle.port_bank.proofs.Segments.{lasts_begins}
use Rattle.port_bank.proofs.Marks.{all_got, mark_of, at_most}
use Rattle.hop_core.specs.Link.{In, is_wanted}
use Rattle.hop_core.specs.State.{State}
use Rattle.convey.specs.Buffers.{out_of, in_of}
use Rattle.convey.specs.Conveyors.{AgreesWith}
use Rattle.convey.specs.Due.{WantsParcel, NextIs, next_link}
use Rattle.convey.specs.Rest.{IsBusy}
use Rattle.convey.proofs.OneRank.{starting-own, ending-own}

-- what the turn of rank r tells that moved nothing: old and new are its conveyor before and after
-- the turn's advance
pub record IsHalted (dims : List ℕ) (r : ℕ) (old new : State) (sent got : Logs) : Type 0 where
  pub same_dims : old.dims ≡ dims
  pub same_rank : old.rank ≡ r
  pub first : old.epoch ≡ 0
  pub agrees : AgreesWith old (starting_at dims r sent) (ending_at dims r got)
  pub lies : (l : ℕ) → l < links dims → reader_at dims l ≡ r → (in_of new l).parcel.untaken ≡ (in_of old l).parcel.untaken
  pub read : (l : ℕ) → l < links dims → reader_at dims l ≡ r → hop_at dims l ≡ length dims → (in_of old l).parcel.untaken ≡ []
  pub idle : (l : ℕ) → l < links dims → reader_at dims l ≡ r → WantsParcel old l → length (got l) ≡ length (sent l)
  pub stopped : (l : ℕ) (e : Entry) → l < links dims → reader_at dims l ≡ r → hop_at dims l < length dims → slice_get (in_of new l).parcel.untaken 0 ≡ Some e → NextIs dims r l e.tag (IsBusy sent got)

wants_now : (x : In) → x.parcel.untaken ≡ [] → x.ended ≡ false → is_wanted x ≡ true
wants_now x none open' = λ i. (length (none i) == 0) && not (open' i)

-- a link of the next hop with parcels on their way
record HasNext (dims : List ℕ) (l : ℕ) (sent got : Logs) : Type 0 where
  link : ℕ
  below : link < links dims
  hop : hop_at dims link ≡ hop_at dims l + 1
  busy : IsBusy sent got link

module _ (dims : List ℕ) (olds news : ℕ → State) (sent got : Logs) (g : IsGrid dims) (fronts : (l : ℕ) → l < links dims → IsPrefix (got l) (sent l))
    (each : (r : ℕ) → r < ranks dims → IsHalted dims r (olds r) (news r) sent got) where
  -- all was got where the reader has the last parcel
  arrived_all : (l : ℕ) → l < links dims → 0 < lasts (got l) → length (got l) ≡ length (sent l)
  arrived_all l below ended =
      let ends = number_ends dims l g below in
      let a : ℕ = sender_at dims l in
      let h = each a ends.link.sender in
      let o = h.agrees.outs l (subst (λ ds. l < links ds) (sym h.same_dims) below) (ap (λ ds. sender_at ds l) h.same_dims ∙ sym h.same_rank) in
      let own = starting-own dims a sent l refl in
      let marks : lasts (sent l) ≡ lasts_in 0 (out_of (olds a) l).closed = ap lasts (sym own) ∙ (o.lasts ∙ ap (λ n. lasts_in n (out_of (olds a) l).closed) h.first) in
      let more = lasts_begins (got l) (sent l) (fronts l below) in
      let most = at_most 0 (out_of (olds a) l).closed in
      let same : lasts (got l) ≡ lasts (sent l) = omega (arith, marks, more, most, ended) in
      ap length (all_got (got l) (sent l) (fronts l below) (subst EndsLast own (o.by_last (mark_of 0 (out_of (olds a) l).closed (omega (arith, marks, more, ended))))) same)

  held_up : (l : ℕ) → l < links dims → IsBusy sent got l → HasNext dims l sent got
  held_up l below busy = by (in_of (olds (reader_at dims l)) l).parcel.untaken refl where
    b : ℕ
    b = reader_at dims l

    h : IsHalted dims (reader_at dims l) (olds (reader_at dims l)) (news (reader_at dims l)) sent got
    h = each (reader_at dims l) (number_ends dims l g below).link.reader

    none : (ended : Bool) → (in_of (olds (reader_at dims l)) l).ended ≡ ended → (in_of (olds (reader_at dims l)) l).parcel.untaken ≡ [] → ⊥
    none true e z =
        let i = h.agrees.ins l (subst (λ ds. l < links ds) (sym h.same_dims) below) (ap (λ ds. reader_at ds l) h.same_dims ∙ sym h.same_rank) in
        let marks : lasts (got l) ≡ 1 = ap lasts (sym (ending-own dims (reader_at dims l) got l refl)) ∙ (i.lasts ∙ (ap (λ n. lasts_in n (in_of (olds (reader_at dims l)) l).ended) h.first ∙ ap (lasts_in 0) e)) in
        let all = arrived_all l below (omega (arith, marks)) in
        omega (arith, all, busy)
    none false e z =
        let all = h.idle l below refl (wants_now (in_of (olds (reader_at dims l)) l) z e) in
        omega (arith, all, busy)

    by : (xs : List Entry) → (in_of (olds (reader_at dims l)) l).parcel.untaken ≡ xs → HasNext dims l sent got
    by [] z = absurd (none (in_of (olds (reader_at dims l)) l).ended refl z)
    by (x ∷ xs) z = elim (cases_eq (hop_at dims l) (length dims)) [
      | inl last ↦ absurd (let e = ap length (sym z ∙ h.read l below refl last) in omega (arith, e))
      | inr apart ↦
          let hop = (number_ends dims l g below).link.last_hop in
          let next = h.stopped l x below refl (omega (arith, hop, apart)) (ap (λ ys. slice_get ys 0) (h.lies l below refl ∙ z)) in
          record { link = next_link dims (reader_at dims l) (hop_at dims l) x.tag; below = next.below; hop = next.hop; busy = next.holds }
    ]

  -- so there is none
  not_busy : (n l : ℕ) → l < links dims → length dims ≤ hop_at dims l + n → IsBusy sent got l → ⊥
  not_busy zero l below near busy =
      let next = held_up l below busy in
      let last = (number_ends dims next.link g next.below).link.last_hop in
      let hop = next.hop in
      omega (arith, last, hop, near)
  not_busy (suc n) l below near busy =
      let next = held_up l below busy in
      let hop = next.hop in
      not_busy n next.link next.below (omega (arith, hop, near)) next.busy

  pub never_busy : (l : ℕ) → l < links dims → IsBusy sent got l → ⊥
  never_busy l below busy = not_busy (length dims) l below (omega arith) busy
