-- What becomes of the agreement, and of the rank's part of the machine, where a parcel is collected
-- and where entries are relayed.
use Rattle.std.proofs.Common.{◌≡◌, ◌≢◌, ℕ, ◌+◌, ◌-◌, ◌<◌, ◌==◌, Bool, false, cond, List, [], ◌∷◌, ◌++◌, length, take, None, refl, sym, ap, subst, ◌∙◌, arith, inl, inr, eq-eqb, ne_eqb, length-append}
use Rattle.std.specs.List.{All, flat_map}
use Rattle.std.proofs.lemmas.Bool.{cases_eq}
use Rattle.std.proofs.lemmas.List.{append-nil, append_assoc, take_all, take-append-le}
use Rattle.bale_items.specs.declared.item.Entry.{Entry}
use Rattle.bale_items.specs.declared.item.Item.{Item}
use Rattle.item_buffer.specs.Contents.{Shipped}
use Rattle.route_tensor.specs.Grid.{ranks, IsGrid}
use Rattle.route_tensor.specs.Tag.{IsFair}
use Rattle.route_tensor.specs.Link.{links}
use Rattle.route_tensor.specs.Ends.{hop_at, sender_at, reader_at}
use Rattle.port_bank.specs.Logs.{Logs, lasts, segment, with_parcel, lasts_in}
use Rattle.port_bank.specs.Flow.{hop_link, flow}
use Rattle.route_tensor.specs.Pair.{belongs, PassesThrough}
use Rattle.list_laws.specs.Lists.{IsPrefix, Ends}
use Rattle.port_bank.proofs.Kept.{added-here, added-other, added_grows, between, law_got_more}
use Rattle.convey.specs.Buffers.{Buffers}
use Rattle.convey.specs.Agreement.{InAgrees, items_among, with_latest, Agrees}
use Rattle.convey.specs.Parts.{pushed_to, pulled_of, part_of}
use Rattle.convey.proofs.Flows.{flow_here, flow_elsewhere, flow_at_other_epoch, segment_grown, entries_grown}
use Rattle.convey.proofs.PostLaw.{lasts_added, open_lasts}
use Rattle.port_bank.proofs.Listing.{lists_same}
use Rattle.convey.proofs.OneRank.{first_link, last_link}
use Rattle.convey.proofs.Moves.{forget_agrees, lasts_of}

-- a list without its end
pub take_front : (xs ys : List Item) (n : ℕ) → n ≡ length ys → take (length (xs ++ ys) - n) (xs ++ ys) ≡ xs
take_front xs ys n e =
    let m : length (xs ++ ys) - n ≡ length xs = omega (arith, length-append xs ys) in
    ap (λ k. take k (xs ++ ys)) m ∙ (take-append-le (length xs) xs ys (omega arith) ∙ take_all (length xs) xs (omega arith))

-- a parcel is got
pub record GotOn (b : Buffers) (unread : ℕ → List Entry) (ended : ℕ → Bool) (m : ℕ) (q : Shipped) : Type 0 where
  pub filled : unread m ≡ q.entries
  pub ends : ended m ≡ q.last
  pub lies : (l : ℕ) → l < links b.dims → reader_at b.dims l ≡ b.rank → l ≢ m → unread l ≡ b.unread l
  pub stays : (l : ℕ) → l < links b.dims → reader_at b.dims l ≡ b.rank → l ≢ m → ended l ≡ b.ended l

module _ (b : Buffers) (unread : ℕ → List Entry) (ended : ℕ → Bool) (sent got : Logs) (m : ℕ) (q : Shipped) (g : IsGrid b.dims) (a : Agrees b sent got)
    (below : m < links b.dims) (own : reader_at b.dims m ≡ b.rank) (goes_on : b.ended m ≡ false) (empty : b.unread m ≡ [])
    (fair : All (λ e. IsFair b.dims (hop_at b.dims m) e.tag) q.entries) (front : sender_at b.dims m ≡ b.rank → IsPrefix (with_parcel got m q m) (sent m)) (s : GotOn b unread ended m q) where
  dated : lasts (got m) ≡ b.epoch
  dated = open_lasts b.epoch (lasts (got m)) (b.ended m) goes_on ((a.ins m below own).lasts)

  plain : Agrees (record b { latest = None }) sent got
  plain = forget_agrees b sent got a

  got_in : InAgrees b.dims b.epoch m (unread m) (ended m) (with_parcel got m q m)
  got_in = record {
    lasts = lasts_added got m q q.last refl ∙ (ap (λ n. n + cond q.last 1 0) dated ∙ (lasts_of b.epoch q.last ∙ ap (lasts_in b.epoch) (sym s.ends)));
    by_last = λ c. record { front = got m; final = q; is = added-here got m q; last = sym s.ends ∙ c };
    fair = subst (All (λ e. IsFair b.dims (hop_at b.dims m) e.tag)) (sym s.filled) fair;
  }

  got_ins : (l : ℕ) → l < links b.dims → reader_at b.dims l ≡ b.rank → InAgrees b.dims b.epoch l (unread l) (ended l) (with_parcel got m q l)
  got_ins l h to =
      elim (cases_eq l m) [
        | inl same ↦ subst (λ k. InAgrees b.dims b.epoch k (unread k) (ended k) (with_parcel got m q k)) (sym same) got_in
        | inr other ↦
            subst (λ u. InAgrees b.dims b.epoch l u (ended l) (with_parcel got m q l)) (sym (s.lies l h to other))
            (subst (λ c. InAgrees b.dims b.epoch l (b.unread l) c (with_parcel got m q l)) (sym (s.stays l h to other))
            (subst (λ log. InAgrees b.dims b.epoch l (b.unread l) (b.ended l) log) (sym (added-other got m l q other)) (plain.ins l h to)))
      ]

  -- what the collected parcel brings a pair
  brings : (x y h : ℕ) → hop_link b.dims x y h ≡ m → flow b.dims (with_parcel got m q) x y h b.epoch ≡ flow b.dims got x y h b.epoch ++ items_among (belongs b.dims x y h) (unread (hop_link b.dims x y h))
  brings x y h same =
      let keep = belongs b.dims x y h in
      subst (λ n. flow b.dims (with_parcel got m q) x y h n ≡ flow b.dims got x y h n ++ items_among keep q.entries) dated (flow_here b.dims got m q x y h same)
      ∙ ap (λ u. flow b.dims got x y h b.epoch ++ items_among keep u) (sym (ap unread same ∙ s.filled))

  had_none : (x y h : ℕ) → hop_link b.dims x y h ≡ m → items_among (belongs b.dims x y h) (b.unread (hop_link b.dims x y h)) ≡ []
  had_none x y h same = ap (items_among (belongs b.dims x y h)) (ap b.unread same ∙ empty)

  got_pairs : (x y h : ℕ) → PassesThrough b.dims b.rank x y h → flow b.dims (with_parcel got m q) x y h b.epoch
      ≡ flow b.dims sent x y (h + 1) b.epoch ++ (items_among (belongs b.dims x y (h + 1)) (b.waiting (hop_link b.dims x y (h + 1))) ++ items_among (belongs b.dims x y h) (unread (hop_link b.dims x y h)))
  got_pairs x y h pair =
      let f : List Item = flow b.dims sent x y (h + 1) b.epoch in
      let w : List Item = items_among (belongs b.dims x y (h + 1)) (b.waiting (hop_link b.dims x y (h + 1))) in
      let u : List Item = items_among (belongs b.dims x y h) (unread (hop_link b.dims x y h)) in
      let t = between b.dims b.rank x y h g pair in
      elim (cases_eq (hop_link b.dims x y h) m) [
        | inl same ↦
            brings x y h same
            ∙ (ap (λ z. z ++ u) (a.pairs x y h pair ∙ (ap (λ z. f ++ (w ++ z)) (had_none x y h same) ∙ ap (λ z. f ++ z) (append-nil w)))
            ∙ append_assoc f w u)
        | inr other ↦
            flow_elsewhere b.dims got m q x y h b.epoch other
            ∙ (a.pairs x y h pair ∙ ap (λ z. f ++ (w ++ items_among (belongs b.dims x y h) z)) (sym (s.lies (hop_link b.dims x y h) t.comes t.to other)))
      ]

  got_arrived : (l : ℕ) → l < links b.dims → reader_at b.dims l ≡ b.rank → hop_at b.dims l ≡ length b.dims → Ends (flat_map (λ p. p.entries) (segment b.epoch (with_parcel got m q l))) (unread l)
  got_arrived l h to at =
      elim (cases_eq l m) [
        | inl same ↦ subst (λ k. Ends (flat_map (λ p. p.entries) (segment b.epoch (with_parcel got m q k))) (unread k)) (sym same) (record {
          front = flat_map (λ p. p.entries) (segment b.epoch (got m));
          is = ap (λ log. flat_map (λ p. p.entries) (segment b.epoch log)) (added-here got m q)
              ∙ (subst (λ n. flat_map (λ p. p.entries) (segment n (got m ++ q ∷ [])) ≡ flat_map (λ p. p.entries) (segment n (got m)) ++ q.entries) dated
              (ap (flat_map (λ p. p.entries)) (segment_grown (got m) q) ∙ entries_grown (segment (lasts (got m)) (got m)) q)
              ∙ ap (λ u. flat_map (λ p. p.entries) (segment b.epoch (got m)) ++ u) (sym s.filled));
        })
        | inr other ↦
            subst (λ log. Ends (flat_map (λ p. p.entries) (segment b.epoch log)) (unread l)) (sym (added-other got m l q other))
            (subst (Ends (flat_map (λ p. p.entries) (segment b.epoch (got l)))) (sym (s.lies l h to other)) (plain.arrived l h to at))
      ]

  got_own : (l : ℕ) → l < links b.dims → sender_at b.dims l ≡ b.rank → reader_at b.dims l ≡ b.rank → IsPrefix (with_parcel got m q l) (sent l)
  got_own l h from to =
      elim (cases_eq l m) [
        | inl same ↦ subst (λ k. sender_at b.dims k ≡ b.rank → IsPrefix (with_parcel got m q k) (sent k)) (sym same) front from
        | inr other ↦ subst (λ log. IsPrefix log (sent l)) (sym (added-other got m l q other)) (a.own l h from to)
      ]

  pub got_agrees : Agrees (record b { unread = unread; ended = ended; latest = None }) sent (with_parcel got m q)
  got_agrees = record {
    outs = a.outs;
    ins = got_ins;
    law = law_got_more b.dims b.rank sent got (with_parcel got m q) g (added_grows got m q) a.law;
    pairs = got_pairs;
    arrived = got_arrived;
    own = got_own;
  }

  got_pulled : (rank : b.rank < ranks b.dims) (e x : ℕ) → x < ranks b.dims → pulled_of (record b { unread = unread; ended = ended; latest = None }) (with_parcel got m q) e x ≡ pulled_of b got e x
  got_pulled rank e x from =
      let k : ℕ = length b.dims in
      let keep = belongs b.dims x b.rank k in
      let n : ℕ = hop_link b.dims x b.rank k in
      let t = last_link b.dims x b.rank g from rank in
      let pulled : List Item → ℕ → List Item = λ came left. take (length came - left) came in
      let left : List Entry → Bool → ℕ = λ u c. cond c (length (items_among keep u)) 0 in
      elim (cases_eq n m) [
        | inl same ↦ elim (cases_eq e b.epoch) [
          | inl now ↦
              let came : List Item = flow b.dims got x b.rank k b.epoch in
              let brought : List Item = items_among keep (unread n) in
              ap (λ d. pulled (flow b.dims (with_parcel got m q) x b.rank k d) (left (unread n) (d == b.epoch))) now
              ∙ (ap (λ c. pulled (flow b.dims (with_parcel got m q) x b.rank k b.epoch) (left (unread n) c)) (eq-eqb b.epoch b.epoch refl)
              ∙ (ap (λ z. pulled z (length brought)) (brings x b.rank k same)
              ∙ (take_front came brought (length brought) refl
              ∙ (sym (take_all (length came - 0) came (omega arith))
              ∙ (ap (λ z. pulled came (length z)) (sym (had_none x b.rank k same))
              ∙ (ap (λ c. pulled came (left (b.unread n) c)) (sym (eq-eqb b.epoch b.epoch refl))
              ∙ ap (λ d. pulled (flow b.dims got x b.rank k d) (left (b.unread n) (d == b.epoch))) (sym now)))))))
          | inr past ↦
              ap (λ z. pulled z (left (unread n) (e == b.epoch))) (flow_at_other_epoch b.dims got m q x b.rank k e (λ c. past (c ∙ dated)))
              ∙ (ap (λ c. pulled (flow b.dims got x b.rank k e) (left (unread n) c)) (ne_eqb e b.epoch past)
              ∙ ap (λ c. pulled (flow b.dims got x b.rank k e) (left (b.unread n) c)) (sym (ne_eqb e b.epoch past)))
        ]
        | inr other ↦
            ap (λ z. pulled z (left (unread n) (e == b.epoch))) (flow_elsewhere b.dims got m q x b.rank k e other)
            ∙ ap (λ u. pulled (flow b.dims got x b.rank k e) (left u (e == b.epoch))) (s.lies n t.below t.reader other)
      ]

  pub got_part : b.rank < ranks b.dims → part_of (record b { unread = unread; ended = ended; latest = None }) sent (with_parcel got m q) ≡ record (part_of b sent got) { latest = None }
  got_part rank =
      ap (λ f. record (part_of b sent got) { latest = None; pulled = f })
      (lists_same (ranks b.dims) (pulled_of (record b { unread = unread; ended = ended; latest = None }) (with_parcel got m q)) (pulled_of b got) (got_pulled rank))

-- entries are relayed: what is on its way of a pair stays, in order
pub record Relayed (b : Buffers) (waiting unread : ℕ → List Entry) : Type 0 where
  pub fair_out : (l : ℕ) → l < links b.dims → sender_at b.dims l ≡ b.rank → All (λ e. IsFair b.dims (hop_at b.dims l) e.tag) (waiting l)
  pub fair_in : (l : ℕ) → l < links b.dims → reader_at b.dims l ≡ b.rank → All (λ e. IsFair b.dims (hop_at b.dims l) e.tag) (with_latest b.latest l (unread l))
  pub pairs : (x y h : ℕ) → PassesThrough b.dims b.rank x y h → items_among (belongs b.dims x y (h + 1)) (waiting (hop_link b.dims x y (h + 1))) ++ items_among (belongs b.dims x y h) (unread (hop_link b.dims x y h))
      ≡ items_among (belongs b.dims x y (h + 1)) (b.waiting (hop_link b.dims x y (h + 1))) ++ items_among (belongs b.dims x y h) (b.unread (hop_link b.dims x y h))
  pub first_stay : (l : ℕ) → l < links b.dims → sender_at b.dims l ≡ b.rank → hop_at b.dims l ≡ 1 → waiting l ≡ b.waiting l
  pub last_stay : (l : ℕ) → l < links b.dims → reader_at b.dims l ≡ b.rank → hop_at b.dims l ≡ length b.dims → unread l ≡ b.unread l

module _ (b : Buffers) (waiting unread : ℕ → List Entry) (sent got : Logs) (g : IsGrid b.dims) (a : Agrees b sent got) (r : Relayed b waiting unread) where
  pub relayed_agrees : Agrees (record b { waiting = waiting; unread = unread }) sent got
  relayed_agrees = record {
    outs = λ l below own. let o = a.outs l below own in record { lasts = o.lasts; by_last = o.by_last; fair = r.fair_out l below own };
    ins = λ l below own. let i = a.ins l below own in record { lasts = i.lasts; by_last = i.by_last; fair = r.fair_in l below own };
    law = a.law;
    pairs = λ x y h pair. a.pairs x y h pair ∙ ap (λ u. flow b.dims sent x y (h + 1) b.epoch ++ u) (sym (r.pairs x y h pair));
    arrived = λ l below own at.
        subst (λ u. Ends (flat_map (λ p. p.entries) (segment b.epoch (got l))) (with_latest b.latest l u)) (sym (r.last_stay l below own at)) (a.arrived l below own at);
    own = a.own;
  }

  pub relayed_part : b.rank < ranks b.dims → part_of (record b { waiting = waiting; unread = unread }) sent got ≡ part_of b sent got
  relayed_part rank =
      let pushed : (e d : ℕ) → d < ranks b.dims → pushed_to (record b { waiting = waiting; unread = unread }) sent e d ≡ pushed_to b sent e d = λ e d to.
      let t = first_link b.dims b.rank d g rank to in
      ap (λ u. flow b.dims sent b.rank d 1 e ++ cond (e == b.epoch) (items_among (belongs b.dims b.rank d 1) u) []) (r.first_stay (hop_link b.dims b.rank d 1) t.below t.sender t.hop) in
      let pulled : (e x : ℕ) → x < ranks b.dims → pulled_of (record b { waiting = waiting; unread = unread }) got e x ≡ pulled_of b got e x = λ e x from.
      let t = last_link b.dims x b.rank g from rank in
      let came : List Item = flow b.dims got x b.rank (length b.dims) e in
      ap (λ u. take (length came - cond (e == b.epoch) (length (items_among (belongs b.dims x b.rank (length b.dims)) u)) 0) came) (r.last_stay (hop_link b.dims x b.rank (length b.dims)) t.below t.reader t.hop) in
      let p = lists_same (ranks b.dims) (pushed_to (record b { waiting = waiting; unread = unread }) sent) (pushed_to b sent) pushed in
      let q = lists_same (ranks b.dims) (pulled_of (record b { waiting = waiting; unread = unread }) got) (pulled_of b got) pulled in
      λ i. record (part_of b sent got) { pushed = p i; pulled = q i }
