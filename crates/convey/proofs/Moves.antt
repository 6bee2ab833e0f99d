-- What becomes of the agreement, and of the rank's part of the machine, by each thing that happens
-- to its buffers.
use Rattle.std.proofs.Common.{◌≡◌, ◌≢◌, ℕ, ◌+◌, ◌-◌, ◌<◌, ◌==◌, Bool, true, false, cond, List, [], ◌∷◌, ◌++◌, length, take, Option, Some, None, refl, sym, ap, subst, ◌∙◌, arith, inl, inr, eq-eqb, ne_eqb}
use Rattle.std.specs.List.{All, flat_map}
use Rattle.std.proofs.lemmas.Bool.{cases_eq}
use Rattle.std.proofs.lemmas.List.{append-nil, append_assoc}
use Rattle.std.proofs.lemmas.List.Elements.{All-tail}
use Rattle.bale_items.specs.declared.item.Entry.{Entry}
use Rattle.bale_items.specs.declared.item.Item.{Item}
use Rattle.item_buffer.specs.Contents.{Shipped}
use Rattle.route_tensor.specs.Grid.{ranks, IsGrid}
use Rattle.route_tensor.specs.Tag.{IsFair}
use Rattle.route_tensor.specs.Link.{links}
use Rattle.route_tensor.specs.Ends.{hop_at, sender_at, reader_at}
use Rattle.port_bank.specs.Logs.{Logs, lasts, segment, with_parcel, lasts_in}
use Rattle.port_bank.specs.Flow.{hop_link, flow}
use Rattle.route_tensor.specs.Pair.{belongs, PassesThrough}
use Rattle.port_bank.proofs.Fronts.{begins_trans}
use Rattle.port_bank.proofs.Kept.{added-here, added-other, added_grows, between}
use Rattle.convey.specs.Buffers.{Buffers}
use Rattle.list_laws.specs.Lists.{Ends}
use Rattle.convey.specs.Agreement.{OutAgrees, InAgrees, items_among, with_latest, Agrees}
use Rattle.convey.specs.Arrived.{HasArrived}
use Rattle.convey.specs.Parts.{pushed_to, pulled_of, part_of}
use Rattle.convey.proofs.Flows.{flow_here, flow_elsewhere, flow_at_other_epoch}
use Rattle.convey.proofs.PostLaw.{lasts_added, post_law, came, dated}
use Rattle.port_bank.proofs.Listing.{lists_same}
use Rattle.convey.proofs.OneRank.{first_link, last_link}

pub all_none : {X : Type 0} (P : X → Type 0) → All P []
all_none P k d l = absurd (omega arith)

-- without the right to unpull
back_all : (P : Entry → Type 0) (o : Option (ℕ × Entry)) (l : ℕ) (unread : List Entry) → All P (with_latest o l unread) → All P unread
back_all P None l unread h = h
back_all P (Some p) l unread h =
    (elim (p.0 == l) as (λ c. All P (cond c (p.1 ∷ unread) unread) → All P unread) [ true ↦ λ k. All-tail P p.1 unread k | false ↦ λ k. k ]) h

ends_shorter : (whole : List Entry) (x : Entry) (back : List Entry) → Ends whole (x ∷ back) → Ends whole back
ends_shorter whole x back h = record { front = h.front ++ x ∷ []; is = h.is ∙ sym (append_assoc h.front (x ∷ []) back) }

back_ends : (whole : List Entry) (o : Option (ℕ × Entry)) (l : ℕ) (unread : List Entry) → Ends whole (with_latest o l unread) → Ends whole unread
back_ends whole None l unread h = h
back_ends whole (Some p) l unread h =
    (elim (p.0 == l) as (λ c. Ends whole (cond c (p.1 ∷ unread) unread) → Ends whole unread) [ true ↦ λ k. ends_shorter whole p.1 unread k | false ↦ λ k. k ]) h

pub forget_agrees : (b : Buffers) (sent got : Logs) → Agrees b sent got → Agrees (record b { latest = None }) sent got
forget_agrees b sent got a = record {
  outs = a.outs;
  ins = λ l below own.
      let i = a.ins l below own in
      record { lasts = i.lasts; by_last = i.by_last; fair = back_all (λ e. IsFair b.dims (hop_at b.dims l) e.tag) b.latest l (b.unread l) i.fair };
  law = a.law;
  pairs = a.pairs;
  arrived = λ l below own at. back_ends (flat_map (λ p. p.entries) (segment b.epoch (got l))) b.latest l (b.unread l) (a.arrived l below own at);
  own = a.own;
}

-- a mark of the rank
pub marks_agree : (b : Buffers) (done complete : Bool) (sent got : Logs) → Agrees b sent got → Agrees (record b { done = done; complete = complete }) sent got
marks_agree b done complete sent got a = record { outs = a.outs; ins = a.ins; law = a.law; pairs = a.pairs; arrived = a.arrived; own = a.own }

-- a parcel is sent
pub record SentOn (b : Buffers) (waiting : ℕ → List Entry) (closed : ℕ → Bool) (l : ℕ) (p : Shipped) : Type 0 where
  pub emptied : waiting l ≡ []
  pub closes : closed l ≡ p.last
  pub waits : (m : ℕ) → m < links b.dims → sender_at b.dims m ≡ b.rank → m ≢ l → waiting m ≡ b.waiting m
  pub stays : (m : ℕ) → m < links b.dims → sender_at b.dims m ≡ b.rank → m ≢ l → closed m ≡ b.closed m

pub lasts_of : (epoch : ℕ) (c : Bool) → epoch + cond c 1 0 ≡ lasts_in epoch c
lasts_of epoch true = refl
lasts_of epoch false = omega arith

module _ (b : Buffers) (waiting : ℕ → List Entry) (closed : ℕ → Bool) (sent got : Logs) (l : ℕ) (p : Shipped) (g : IsGrid b.dims) (a : Agrees b sent got)
    (below : l < links b.dims) (own : sender_at b.dims l ≡ b.rank) (still_open : b.closed l ≡ false) (entries : p.entries ≡ b.waiting l)
    (last : p.last ≡ true → HasArrived b l) (s : SentOn b waiting closed l p) where
  sent_out : OutAgrees b.dims b.epoch l (waiting l) (closed l) (with_parcel sent l p l)
  sent_out =
      let at : lasts (sent l) ≡ b.epoch = dated b sent got l p g a below own still_open entries last in
      record {
        lasts = lasts_added sent l p p.last refl ∙ (ap (λ n. n + cond p.last 1 0) at ∙ (lasts_of b.epoch p.last ∙ ap (lasts_in b.epoch) (sym s.closes)));
        by_last = λ c. record { front = sent l; final = p; is = added-here sent l p; last = sym s.closes ∙ c };
        fair = subst (All (λ e. IsFair b.dims (hop_at b.dims l) e.tag)) (sym s.emptied) (all_none (λ e. IsFair b.dims (hop_at b.dims l) e.tag));
      }

  sent_outs : (m : ℕ) → m < links b.dims → sender_at b.dims m ≡ b.rank → OutAgrees b.dims b.epoch m (waiting m) (closed m) (with_parcel sent l p m)
  sent_outs m h from =
      elim (cases_eq m l) [
        | inl same ↦ subst (λ k. OutAgrees b.dims b.epoch k (waiting k) (closed k) (with_parcel sent l p k)) (sym same) sent_out
        | inr other ↦
            subst (λ w. OutAgrees b.dims b.epoch m w (closed m) (with_parcel sent l p m)) (sym (s.waits m h from other))
            (subst (λ c. OutAgrees b.dims b.epoch m (b.waiting m) c (with_parcel sent l p m)) (sym (s.stays m h from other))
            (subst (λ log. OutAgrees b.dims b.epoch m (b.waiting m) (b.closed m) log) (sym (added-other sent l m p other)) (a.outs m h from)))
      ]

  sent_pairs : (x y h : ℕ) → PassesThrough b.dims b.rank x y h → flow b.dims got x y h b.epoch
      ≡ flow b.dims (with_parcel sent l p) x y (h + 1) b.epoch ++ (items_among (belongs b.dims x y (h + 1)) (waiting (hop_link b.dims x y (h + 1))) ++ items_among (belongs b.dims x y h) (b.unread (hop_link b.dims x y h)))
  sent_pairs x y h pair =
      let keep = belongs b.dims x y (h + 1) in
      let rest : List Item = items_among (belongs b.dims x y h) (b.unread (hop_link b.dims x y h)) in
      let w = between b.dims b.rank x y h g pair in
      elim (cases_eq (hop_link b.dims x y (h + 1)) l) [
        | inl same ↦
            came b sent got l p g a below own still_open entries last x y h pair same
            ∙ ap (λ u. flow b.dims (with_parcel sent l p) x y (h + 1) b.epoch ++ (items_among keep u ++ rest)) (sym (ap waiting same ∙ s.emptied))
        | inr other ↦
            a.pairs x y h pair
            ∙ (ap (λ u. u ++ (items_among keep (b.waiting (hop_link b.dims x y (h + 1))) ++ rest)) (sym (flow_elsewhere b.dims sent l p x y (h + 1) b.epoch other))
            ∙ ap (λ u. flow b.dims (with_parcel sent l p) x y (h + 1) b.epoch ++ (items_among keep u ++ rest)) (sym (s.waits (hop_link b.dims x y (h + 1)) w.leaves w.from other)))
      ]

  pub sent_agrees : Agrees (record b { waiting = waiting; closed = closed }) (with_parcel sent l p) got
  sent_agrees = record {
    outs = sent_outs;
    ins = a.ins;
    law = post_law b sent got l p g a below own still_open entries last;
    pairs = sent_pairs;
    arrived = a.arrived;
    own = λ m h from to. begins_trans (got m) (sent m) (with_parcel sent l p m) (a.own m h from to) (added_grows sent l p m);
  }

  -- and the rank pushed what it did before
  sent_pushed : (rank : b.rank < ranks b.dims) (e d : ℕ) → d < ranks b.dims → pushed_to (record b { waiting = waiting; closed = closed }) (with_parcel sent l p) e d ≡ pushed_to b sent e d
  sent_pushed rank e d to =
      let keep = belongs b.dims b.rank d 1 in
      let m : ℕ = hop_link b.dims b.rank d 1 in
      let f = first_link b.dims b.rank d g rank to in
      elim (cases_eq m l) [
        | inl same ↦ elim (cases_eq e b.epoch) [
          | inl now ↦
              let here : flow b.dims (with_parcel sent l p) b.rank d 1 b.epoch ≡ flow b.dims sent b.rank d 1 b.epoch ++ items_among keep p.entries =
              subst (λ n. flow b.dims (with_parcel sent l p) b.rank d 1 n ≡ flow b.dims sent b.rank d 1 n ++ items_among keep p.entries)
              (dated b sent got l p g a below own still_open entries last) (flow_here b.dims sent l p b.rank d 1 same) in
              let none : items_among keep (waiting m) ≡ [] = ap (items_among keep) (ap waiting same ∙ s.emptied) in
              let full : items_among keep p.entries ≡ items_among keep (b.waiting m) = ap (items_among keep) (entries ∙ ap b.waiting (sym same)) in
              ap (λ n. flow b.dims (with_parcel sent l p) b.rank d 1 n ++ cond (n == b.epoch) (items_among keep (waiting m)) []) now
              ∙ (ap (λ c. flow b.dims (with_parcel sent l p) b.rank d 1 b.epoch ++ cond c (items_among keep (waiting m)) []) (eq-eqb b.epoch b.epoch refl)
              ∙ (ap (λ u. flow b.dims (with_parcel sent l p) b.rank d 1 b.epoch ++ u) none
              ∙ (append-nil (flow b.dims (with_parcel sent l p) b.rank d 1 b.epoch)
              ∙ (here
              ∙ (ap (λ u. flow b.dims sent b.rank d 1 b.epoch ++ u) full
              ∙ (ap (λ c. flow b.dims sent b.rank d 1 b.epoch ++ cond c (items_among keep (b.waiting m)) []) (sym (eq-eqb b.epoch b.epoch refl))
              ∙ ap (λ n. flow b.dims sent b.rank d 1 n ++ cond (n == b.epoch) (items_among keep (b.waiting m)) []) (sym now)))))))
          | inr past ↦
              ap (λ u. u ++ cond (e == b.epoch) (items_among keep (waiting m)) []) (flow_at_other_epoch b.dims sent l p b.rank d 1 e (λ k. past (k ∙ dated b sent got l p g a below own still_open entries last)))
              ∙ (ap (λ c. flow b.dims sent b.rank d 1 e ++ cond c (items_among keep (waiting m)) []) (ne_eqb e b.epoch past)
              ∙ ap (λ c. flow b.dims sent b.rank d 1 e ++ cond c (items_among keep (b.waiting m)) []) (sym (ne_eqb e b.epoch past)))
        ]
        | inr other ↦
            ap (λ u. u ++ cond (e == b.epoch) (items_among keep (waiting m)) []) (flow_elsewhere b.dims sent l p b.rank d 1 e other)
            ∙ ap (λ u. flow b.dims sent b.rank d 1 e ++ cond (e == b.epoch) (items_among keep u) []) (s.waits m f.below f.sender other)
      ]

  pub sent_part : b.rank < ranks b.dims → part_of (record b { waiting = waiting; closed = closed }) (with_parcel sent l p) got ≡ part_of b sent got
  sent_part rank =
      ap (λ f. record (part_of b sent got) { pushed = f })
      (lists_same (ranks b.dims) (pushed_to (record b { waiting = waiting; closed = closed }) (with_parcel sent l p)) (pushed_to b sent) (sent_pushed rank))

-- buffers that are the same on each own link
pub record SameOn (b : Buffers) (waiting unread : ℕ → List Entry) (closed ended : ℕ → Bool) : Type 0 where
  pub waits : (l : ℕ) → l < links b.dims → sender_at b.dims l ≡ b.rank → waiting l ≡ b.waiting l
  pub lies : (l : ℕ) → l < links b.dims → reader_at b.dims l ≡ b.rank → unread l ≡ b.unread l
  pub closes : (l : ℕ) → l < links b.dims → sender_at b.dims l ≡ b.rank → closed l ≡ b.closed l
  pub ends : (l : ℕ) → l < links b.dims → reader_at b.dims l ≡ b.rank → ended l ≡ b.ended l

module _ (b : Buffers) (waiting unread : ℕ → List Entry) (closed ended : ℕ → Bool) (sent got : Logs) (g : IsGrid b.dims) (s : SameOn b waiting unread closed ended) where
  pub same_agrees : Agrees b sent got → Agrees (record b { waiting = waiting; unread = unread; closed = closed; ended = ended; latest = None }) sent got
  same_agrees a =
      let p = forget_agrees b sent got a in
      record {
        outs = λ l h from.
            subst (λ w. OutAgrees b.dims b.epoch l w (closed l) (sent l)) (sym (s.waits l h from))
            (subst (λ c. OutAgrees b.dims b.epoch l (b.waiting l) c (sent l)) (sym (s.closes l h from)) (a.outs l h from));
        ins = λ l h to.
            subst (λ u. InAgrees b.dims b.epoch l u (ended l) (got l)) (sym (s.lies l h to))
            (subst (λ c. InAgrees b.dims b.epoch l (b.unread l) c (got l)) (sym (s.ends l h to)) (p.ins l h to));
        law = a.law;
        pairs = λ x y h pair.
            let w = between b.dims b.rank x y h g pair in
            a.pairs x y h pair
            ∙ (ap (λ u. flow b.dims sent x y (h + 1) b.epoch ++ (items_among (belongs b.dims x y (h + 1)) u ++ items_among (belongs b.dims x y h) (b.unread (hop_link b.dims x y h)))) (sym (s.waits (hop_link b.dims x y (h + 1)) w.leaves w.from))
            ∙ ap (λ u. flow b.dims sent x y (h + 1) b.epoch ++ (items_among (belongs b.dims x y (h + 1)) (waiting (hop_link b.dims x y (h + 1))) ++ items_among (belongs b.dims x y h) u)) (sym (s.lies (hop_link b.dims x y h) w.comes w.to)));
        arrived = λ l h to at. subst (Ends (flat_map (λ p. p.entries) (segment b.epoch (got l)))) (sym (s.lies l h to)) (p.arrived l h to at);
        own = a.own;
      }

  pub same_buffers_part : b.rank < ranks b.dims → part_of (record b { waiting = waiting; unread = unread; closed = closed; ended = ended; latest = None }) sent got ≡ record (part_of b sent got) { latest = None }
  same_buffers_part rank =
      let pushed : (e d : ℕ) → d < ranks b.dims → pushed_to (record b { waiting = waiting; unread = unread; closed = closed; ended = ended; latest = None }) sent e d ≡ pushed_to b sent e d = λ e d to.
      let t = first_link b.dims b.rank d g rank to in
      ap (λ u. flow b.dims sent b.rank d 1 e ++ cond (e == b.epoch) (items_among (belongs b.dims b.rank d 1) u) []) (s.waits (hop_link b.dims b.rank d 1) t.below t.sender) in
      let pulled : (e x : ℕ) → x < ranks b.dims → pulled_of (record b { waiting = waiting; unread = unread; closed = closed; ended = ended; latest = None }) got e x ≡ pulled_of b got e x = λ e x from.
      let t = last_link b.dims x b.rank g from rank in
      let came : List Item = flow b.dims got x b.rank (length b.dims) e in
      ap (λ u. take (length came - cond (e == b.epoch) (length (items_among (belongs b.dims x b.rank (length b.dims)) u)) 0) came) (s.lies (hop_link b.dims x b.rank (length b.dims)) t.below t.reader) in
      let p = lists_same (ranks b.dims) (pushed_to (record b { waiting = waiting; unread = unread; closed = closed; ended = ended; latest = None }) sent) (pushed_to b sent) pushed in
      let q = lists_same (ranks b.dims) (pulled_of (record b { waiting = waiting; unread = unread; closed = closed; ended = ended; latest = None }) got) (pulled_of b got) pulled in
      λ i. record (part_of b sent got) { latest = None; pushed = p i; pulled = q i }
