-- A push, a pull, an unpull and a reset keep the agreement, and are steps of the rank's own part of
-- the machine.
use Rattle.std.proofs.Common.{◌≡◌, ◌≢◌, ℕ, ◌+◌, ◌-◌, ◌<◌, ◌==◌, Bool, true, false, cond, List, [], ◌∷◌, ◌++◌, length, take, map, Some, None, IsSome, refl, sym, ap, subst, ◌∙◌, arith, inl, inr, eq-eqb, ne_eqb, rules}
use Rattle.std.specs.List.{All, filter, flat_map}
use Rattle.std.specs.Option.{option_map}
use Rattle.std.proofs.lemmas.Bool.{cases_eq, false≢true}
use Rattle.std.proofs.lemmas.List.{append-nil, append_assoc}
use Rattle.std.proofs.lemmas.List.Elements.{All-append, All-head}
use Rattle.bale_items.specs.declared.item.Entry.{Entry}
use Rattle.bale_items.specs.declared.item.Item.{Item}
use Rattle.item_buffer.specs.Contents.{Shipped}
use Rattle.route_tensor.specs.Grid.{ranks, IsGrid}
use Rattle.route_tensor.specs.Tag.{IsFair, tag_at, sender_of}
use Rattle.route_tensor.specs.Link.{links}
use Rattle.route_tensor.proofs.Tags.{tag_at_fair}
use Rattle.route_tensor.specs.Ends.{hop_at, sender_at, reader_at}
use Rattle.port_bank.specs.Logs.{Logs, lasts, segment, EndsLast, lasts_in}
use Rattle.port_bank.specs.Flow.{hop_link, passing_items, flow}
use Rattle.route_tensor.specs.Pair.{belongs, PassesThrough}
use Rattle.port_bank.proofs.Kept.{between}
use Rattle.port_bank.proofs.Routes.{hop-on_route}
use Rattle.port_bank.specs.Machine.{IsOwnStep, taken_back}
use Rattle.port_bank.specs.Machine.Step.{Push, Pull, Unpull, Reset}
use Rattle.convey.specs.Buffers.{Buffers}
use Rattle.list_laws.specs.Lists.{Ends}
use Rattle.convey.specs.Agreement.{OutAgrees, items_among, with_latest, Agrees}
use Rattle.convey.specs.Law.{IsLastIn}
use Rattle.convey.specs.Parts.{pushed_to, pulled_of, part_of}
use Rattle.port_bank.proofs.Marks.{none_after}
use Rattle.convey.proofs.Flows.{items_among-append}
use Rattle.convey.proofs.PostLaw.{all_one}
use Rattle.port_bank.proofs.Listing.{lists_same, lists_with, lists_without}
use Rattle.convey.proofs.OneRank.{first_link, last_link}
use Rattle.convey.proofs.Moves.{forget_agrees, all_none}
use Rattle.convey.proofs.Arrivals.{take_front}
use Rattle.convey.proofs.Pairs.{belongs_first, belongs_last}

-- the first entry of a list, among those that pass a test
first_passes : (keep : Entry → Bool) (e : Entry) (es : List Entry) → keep e ≡ true → items_among keep (e ∷ es) ≡ e.item ∷ items_among keep es
first_passes keep e es h = ap (λ c. map (λ x. x.item) (cond c (e ∷ filter keep es) (filter keep es))) h

first_fails : (keep : Entry → Bool) (e : Entry) (es : List Entry) → keep e ≡ false → items_among keep (e ∷ es) ≡ items_among keep es
first_fails keep e es h = ap (λ c. map (λ x. x.item) (cond c (e ∷ filter keep es) (filter keep es))) h

-- a push
pub record PushedOn (b : Buffers) (waiting : ℕ → List Entry) (to : ℕ) (e : Entry) : Type 0 where
  pub grown : waiting (hop_link b.dims b.rank to 1) ≡ b.waiting (hop_link b.dims b.rank to 1) ++ e ∷ []
  pub waits : (m : ℕ) → m < links b.dims → sender_at b.dims m ≡ b.rank → m ≢ hop_link b.dims b.rank to 1 → waiting m ≡ b.waiting m
  pub tag : e.tag ≡ tag_at b.dims b.rank to 1

module _ (b : Buffers) (waiting : ℕ → List Entry) (sent got : Logs) (to : ℕ) (e : Entry) (g : IsGrid b.dims) (rank : b.rank < ranks b.dims) (below : to < ranks b.dims)
    (a : Agrees b sent got) (p : PushedOn b waiting to e) where
  toward : ℕ
  toward = hop_link b.dims b.rank to 1

  plain : Agrees (record b { latest = None }) sent got
  plain = forget_agrees b sent got a

  push_out : OutAgrees b.dims b.epoch toward (waiting toward) (b.closed toward) (sent toward)
  unfolding toward
  push_out =
      let f = first_link b.dims b.rank to g rank below in
      let o = a.outs toward f.below f.sender in
      let fair = λ (x : Entry). IsFair b.dims (hop_at b.dims toward) x.tag in
      let mine : fair e = subst (λ h. IsFair b.dims h e.tag) (sym f.hop) (subst (IsFair b.dims 1) (sym p.tag) (tag_at_fair b.dims b.rank to 1 g)) in
      record { lasts = o.lasts; by_last = o.by_last; fair = subst (All fair) (sym p.grown) (All-append fair (b.waiting toward) (e ∷ []) o.fair (all_one fair e mine)) }

  push_outs : (m : ℕ) → m < links b.dims → sender_at b.dims m ≡ b.rank → OutAgrees b.dims b.epoch m (waiting m) (b.closed m) (sent m)
  unfolding toward
  push_outs m h from =
      elim (cases_eq m toward) [
        | inl same ↦ subst (λ k. OutAgrees b.dims b.epoch k (waiting k) (b.closed k) (sent k)) (sym same) push_out
        | inr other ↦ subst (λ w. OutAgrees b.dims b.epoch m w (b.closed m) (sent m)) (sym (p.waits m h from other)) (a.outs m h from)
      ]

  later_hop : (x y h : ℕ) → PassesThrough b.dims b.rank x y h → hop_link b.dims x y (h + 1) ≢ toward
  unfolding toward
  later_hop x y h pair same =
      let f = first_link b.dims b.rank to g rank below in
      let n : hop_at b.dims (hop_link b.dims x y (h + 1)) ≡ h + 1 = hop-on_route b.dims x y (h + 1) g pair.sender pair.destination (omega arith) (let q = pair.last_hop in omega arith) in
      let m : hop_at b.dims (hop_link b.dims x y (h + 1)) ≡ 1 = ap (hop_at b.dims) same ∙ f.hop in
      let q = pair.first_hop in
      omega arith

  pub push_agrees : Agrees (record b { waiting = waiting; latest = None }) sent got
  unfolding toward
  push_agrees = record {
    outs = push_outs;
    ins = plain.ins;
    law = a.law;
    pairs = λ x y h pair.
        let w = between b.dims b.rank x y h g pair in
        a.pairs x y h pair
        ∙ ap (λ u. flow b.dims sent x y (h + 1) b.epoch ++ (items_among (belongs b.dims x y (h + 1)) u ++ items_among (belongs b.dims x y h) (b.unread (hop_link b.dims x y h))))
        (sym (p.waits (hop_link b.dims x y (h + 1)) w.leaves w.from (later_hop x y h pair)));
    arrived = plain.arrived;
    own = plain.own;
  }

  next : Buffers
  next = record b { waiting = waiting; latest = None }

  -- what stands for d in the open parcels
  stands : (d : ℕ) → d < ranks b.dims → hop_link b.dims b.rank d 1 ≡ toward → belongs b.dims b.rank d 1 e ≡ (to == d)
  unfolding toward
  stands d h same = belongs_first b.dims b.rank to d e g rank below h p.tag same

  push_here : pushed_to next sent b.epoch to ≡ pushed_to b sent b.epoch to ++ e.item ∷ []
  unfolding next toward
  push_here =
      let keep = belongs b.dims b.rank to 1 in
      let f : List Item = flow b.dims sent b.rank to 1 b.epoch in
      let w : List Item = items_among keep (b.waiting toward) in
      let mine : keep e ≡ true = stands to below refl ∙ eq-eqb to to refl in
      ap (λ c. f ++ cond c (items_among keep (waiting toward)) []) (eq-eqb b.epoch b.epoch refl)
      ∙ (ap (λ u. f ++ items_among keep u) p.grown
      ∙ (ap (λ u. f ++ u) (items_among-append keep (b.waiting toward) (e ∷ []) ∙ ap (λ u. w ++ u) (first_passes keep e [] mine))
      ∙ (sym (append_assoc f w (e.item ∷ []))
      ∙ ap (λ c. (f ++ cond c w []) ++ e.item ∷ []) (sym (eq-eqb b.epoch b.epoch refl)))))

  push_other : (d : ℕ) → d < ranks b.dims → d ≢ to → pushed_to next sent b.epoch d ≡ pushed_to b sent b.epoch d
  unfolding next toward
  push_other d h ne =
      let keep = belongs b.dims b.rank d 1 in
      let n : ℕ = hop_link b.dims b.rank d 1 in
      let f : List Item = flow b.dims sent b.rank d 1 b.epoch in
      let l = first_link b.dims b.rank d g rank h in
      let alike : items_among keep (waiting n) ≡ items_among keep (b.waiting n) = elim (cases_eq n toward) [
        | inl same ↦
            let none : keep e ≡ false = stands d h same ∙ ne_eqb to d (λ q. ne (sym q)) in
            ap (λ k. items_among keep (waiting k)) same
            ∙ (ap (items_among keep) p.grown
            ∙ (items_among-append keep (b.waiting toward) (e ∷ [])
            ∙ (ap (λ u. items_among keep (b.waiting toward) ++ u) (first_fails keep e [] none)
            ∙ (append-nil (items_among keep (b.waiting toward)) ∙ ap (λ k. items_among keep (b.waiting k)) (sym same)))))
        | inr other ↦ ap (items_among keep) (p.waits n l.below l.sender other)
      ] in
      ap (λ u. f ++ cond (b.epoch == b.epoch) u []) alike

  push_past : (k d : ℕ) → d < ranks b.dims → k ≢ b.epoch → pushed_to next sent k d ≡ pushed_to b sent k d
  unfolding next
  push_past k d h ne =
      let keep = belongs b.dims b.rank d 1 in
      let n : ℕ = hop_link b.dims b.rank d 1 in
      ap (λ c. flow b.dims sent b.rank d 1 k ++ cond c (items_among keep (waiting n)) []) (ne_eqb k b.epoch ne)
      ∙ ap (λ c. flow b.dims sent b.rank d 1 k ++ cond c (items_among keep (b.waiting n)) []) (sym (ne_eqb k b.epoch ne))

  pub push_step : (x : Item) → e.item ≡ x → b.done ≡ false → IsOwnStep (Push to x) (part_of b sent got) (part_of (record b { waiting = waiting; latest = None }) sent got)
  unfolding next
  push_step x same open' =
      let lists = lists_with (ranks b.dims) b.epoch to x (pushed_to b sent) (pushed_to next sent) below (push_here ∙ ap (λ u. pushed_to b sent b.epoch to ++ u ∷ []) same) push_other push_past in
      record { may = open'; is = ap (λ f. record (part_of b sent got) { latest = None; pushed = f }) lists }

-- a pull takes the first unread entry of a link of the last hop
pub record PulledOn (b : Buffers) (unread : ℕ → List Entry) (m : ℕ) (e : Entry) : Type 0 where
  pub head : b.unread m ≡ e ∷ unread m
  pub lies : (l : ℕ) → l < links b.dims → reader_at b.dims l ≡ b.rank → l ≢ m → unread l ≡ b.unread l

module _ (b : Buffers) (unread : ℕ → List Entry) (sent got : Logs) (m s : ℕ) (e : Entry) (g : IsGrid b.dims) (rank : b.rank < ranks b.dims) (a : Agrees b sent got)
    (at : IsLastIn b m) (p : PulledOn b unread m e) (from : s < ranks b.dims) (sender : sender_of b.dims e.tag (length b.dims) (sender_at b.dims m) ≡ s)
    (route : hop_link b.dims s b.rank (length b.dims) ≡ m) where
  before : Agrees (record b { latest = None }) sent got
  before = forget_agrees b sent got a

  with_it : (l : ℕ) → l < links b.dims → reader_at b.dims l ≡ b.rank → with_latest (Some (m, e)) l (unread l) ≡ b.unread l
  with_it l h to =
      elim (cases_eq l m) [
        | inl same ↦ ap (λ c. cond c (e ∷ unread l) (unread l)) (eq-eqb m l (sym same)) ∙ (ap (λ k. e ∷ unread k) same ∙ (sym p.head ∙ ap b.unread (sym same)))
        | inr other ↦ ap (λ c. cond c (e ∷ unread l) (unread l)) (ne_eqb m l (λ q. other (sym q))) ∙ p.lies l h to other
      ]

  earlier_hop : (x y h : ℕ) → PassesThrough b.dims b.rank x y h → hop_link b.dims x y h ≢ m
  earlier_hop x y h pair same =
      let n : hop_at b.dims (hop_link b.dims x y h) ≡ h = hop-on_route b.dims x y h g pair.sender pair.destination pair.first_hop (let q = pair.last_hop in omega arith) in
      let k : hop_at b.dims (hop_link b.dims x y h) ≡ length b.dims = ap (hop_at b.dims) same ∙ at.hop in
      let q = pair.last_hop in
      omega arith

  pull_pairs : (x y h : ℕ) → PassesThrough b.dims b.rank x y h → flow b.dims got x y h b.epoch
      ≡ flow b.dims sent x y (h + 1) b.epoch ++ (items_among (belongs b.dims x y (h + 1)) (b.waiting (hop_link b.dims x y (h + 1))) ++ items_among (belongs b.dims x y h) (unread (hop_link b.dims x y h)))
  pull_pairs x y h pair =
      let w = between b.dims b.rank x y h g pair in
      a.pairs x y h pair
      ∙ ap (λ u. flow b.dims sent x y (h + 1) b.epoch ++ (items_among (belongs b.dims x y (h + 1)) (b.waiting (hop_link b.dims x y (h + 1))) ++ items_among (belongs b.dims x y h) u))
      (sym (p.lies (hop_link b.dims x y h) w.comes w.to (earlier_hop x y h pair)))

  pub pull_agrees : Agrees (record b { unread = unread; latest = Some (m, e) }) sent got
  pull_agrees = record {
    outs = a.outs;
    ins = λ l h to.
        let i = before.ins l h to in
        record { lasts = i.lasts; by_last = i.by_last; fair = subst (All (λ x. IsFair b.dims (hop_at b.dims l) x.tag)) (sym (with_it l h to)) i.fair };
    law = a.law;
    pairs = pull_pairs;
    arrived = λ l h to last. subst (Ends (flat_map (λ q. q.entries) (segment b.epoch (got l)))) (sym (with_it l h to)) (before.arrived l h to last);
    own = before.own;
  }

  fair_entry : IsFair b.dims (length b.dims) e.tag
  fair_entry =
      let i = before.ins m at.below at.reader in
      subst (λ h. IsFair b.dims h e.tag) at.hop
      (All-head (λ x. IsFair b.dims (hop_at b.dims m) x.tag) e (unread m) (subst (All (λ x. IsFair b.dims (hop_at b.dims m) x.tag)) p.head i.fair))

  -- whose the entry is
  of_sender : (x : ℕ) → x < ranks b.dims → hop_link b.dims x b.rank (length b.dims) ≡ m → belongs b.dims x b.rank (length b.dims) e ≡ (s == x)
  of_sender x h same = belongs_last b.dims b.rank x m e g rank h fair_entry at.reader same ∙ ap (λ u. u == x) sender

  mine : Entry → Bool
  mine = belongs b.dims s b.rank (length b.dims)

  came : List Item
  came = flow b.dims got s b.rank (length b.dims) b.epoch

  -- what came of the sender, up to the entry
  pub front : List Item
  front = items_among mine ((before.arrived m at.below at.reader at.hop).front)

  rest : List Item
  rest = items_among mine (unread m)

  came-is : came ≡ front ++ e.item ∷ rest
  unfolding came front rest mine
  came-is =
      let t = before.arrived m at.below at.reader at.hop in
      let yes : mine e ≡ true = of_sender s from route ∙ eq-eqb s s refl in
      ap (λ n. passing_items mine (segment b.epoch (got n))) route
      ∙ (ap (items_among mine) t.is
      ∙ (items_among-append mine t.front (b.unread m)
      ∙ ap (λ u. items_among mine t.front ++ u) (ap (items_among mine) p.head ∙ first_passes mine e (unread m) yes)))

  pub pulled_before : pulled_of b got b.epoch s ≡ front
  unfolding came front rest mine
  pulled_before =
      let yes : mine e ≡ true = of_sender s from route ∙ eq-eqb s s refl in
      let n : ℕ = hop_link b.dims s b.rank (length b.dims) in
      let left : items_among mine (b.unread n) ≡ e.item ∷ rest = ap (λ k. items_among mine (b.unread k)) route ∙ (ap (items_among mine) p.head ∙ first_passes mine e (unread m) yes) in
      ap (λ c. take (length came - cond c (length (items_among mine (b.unread n))) 0) came) (eq-eqb b.epoch b.epoch refl)
      ∙ (ap (λ u. take (length u - length (items_among mine (b.unread n))) u) came-is
      ∙ take_front front (e.item ∷ rest) (length (items_among mine (b.unread n))) (ap length left))

  pub pulled_after : pulled_of (record b { unread = unread; latest = Some (m, e) }) got b.epoch s ≡ front ++ e.item ∷ []
  unfolding came front rest mine
  pulled_after =
      let n : ℕ = hop_link b.dims s b.rank (length b.dims) in
      let left : items_among mine (unread n) ≡ rest = ap (λ k. items_among mine (unread k)) route in
      ap (λ c. take (length came - cond c (length (items_among mine (unread n))) 0) came) (eq-eqb b.epoch b.epoch refl)
      ∙ (ap (λ u. take (length u - length (items_among mine (unread n))) u) (came-is ∙ sym (append_assoc front (e.item ∷ []) rest))
      ∙ take_front (front ++ e.item ∷ []) rest (length (items_among mine (unread n))) (ap length left))

  pub pulled_here : pulled_of (record b { unread = unread; latest = Some (m, e) }) got b.epoch s ≡ pulled_of b got b.epoch s ++ e.item ∷ []
  pulled_here = pulled_after ∙ ap (λ u. u ++ e.item ∷ []) (sym pulled_before)

  pub pulled_other : (x : ℕ) → x < ranks b.dims → x ≢ s → pulled_of (record b { unread = unread; latest = Some (m, e) }) got b.epoch x ≡ pulled_of b got b.epoch x
  pulled_other x h ne =
      let keep = belongs b.dims x b.rank (length b.dims) in
      let n : ℕ = hop_link b.dims x b.rank (length b.dims) in
      let t = last_link b.dims x b.rank g h rank in
      let all : List Item = flow b.dims got x b.rank (length b.dims) b.epoch in
      let alike : items_among keep (unread n) ≡ items_among keep (b.unread n) = elim (cases_eq n m) [
        | inl same ↦
            let no : keep e ≡ false = of_sender x h same ∙ ne_eqb s x (λ q. ne (sym q)) in
            ap (λ k. items_among keep (unread k)) same
            ∙ (sym (first_fails keep e (unread m) no)
            ∙ (ap (items_among keep) (sym p.head) ∙ ap (λ k. items_among keep (b.unread k)) (sym same)))
        | inr other ↦ ap (items_among keep) (p.lies n t.below t.reader other)
      ] in
      ap (λ u. take (length all - cond (b.epoch == b.epoch) (length u) 0) all) alike

  pub pulled_past : (k x : ℕ) → x < ranks b.dims → k ≢ b.epoch → pulled_of (record b { unread = unread; latest = Some (m, e) }) got k x ≡ pulled_of b got k x
  pulled_past k x h ne =
      let keep = belongs b.dims x b.rank (length b.dims) in
      let n : ℕ = hop_link b.dims x b.rank (length b.dims) in
      let all : List Item = flow b.dims got x b.rank (length b.dims) k in
      ap (λ c. take (length all - cond c (length (items_among keep (unread n))) 0) all) (ne_eqb k b.epoch ne)
      ∙ ap (λ c. take (length all - cond c (length (items_among keep (b.unread n))) 0) all) (sym (ne_eqb k b.epoch ne))

  pub pull_step : IsOwnStep (Pull s e.item) (part_of b sent got) (part_of (record b { unread = unread; latest = Some (m, e) }) sent got)
  pull_step =
      let lists = lists_with (ranks b.dims) b.epoch s e.item (pulled_of b got) (pulled_of (record b { unread = unread; latest = Some (m, e) }) got) from pulled_here pulled_other pulled_past in
      record { may = tt; is = λ i. record (part_of b sent got) { latest = Some (sender i); pulled = lists i } }

some_is : (x : ℕ) → IsSome (Some x)
some_is x = search rules

-- an unpull puts the entry of the latest pull back: a pull from the buffers after it leads to those
-- before it
pub record UnpulledOn (b : Buffers) (unread : ℕ → List Entry) (m : ℕ) (e : Entry) : Type 0 where
  pub latest : b.latest ≡ Some (m, e)
  pub back : unread m ≡ e ∷ b.unread m
  pub lies : (l : ℕ) → l < links b.dims → reader_at b.dims l ≡ b.rank → l ≢ m → unread l ≡ b.unread l

module _ (b : Buffers) (unread : ℕ → List Entry) (sent got : Logs) (m s : ℕ) (e : Entry) (g : IsGrid b.dims) (rank : b.rank < ranks b.dims) (a : Agrees b sent got)
    (at : IsLastIn b m) (p : UnpulledOn b unread m e) where
  as_before : (l : ℕ) → l < links b.dims → reader_at b.dims l ≡ b.rank → with_latest b.latest l (b.unread l) ≡ unread l
  as_before l h to =
      ap (λ o. with_latest o l (b.unread l)) p.latest
      ∙ elim (cases_eq l m) [
        | inl same ↦ ap (λ c. cond c (e ∷ b.unread l) (b.unread l)) (eq-eqb m l (sym same)) ∙ (ap (λ k. e ∷ b.unread k) same ∙ (sym p.back ∙ ap unread (sym same)))
        | inr other ↦ ap (λ c. cond c (e ∷ b.unread l) (b.unread l)) (ne_eqb m l (λ q. other (sym q))) ∙ sym (p.lies l h to other)
      ]

  not_last : (x y h : ℕ) → PassesThrough b.dims b.rank x y h → hop_link b.dims x y h ≢ m
  not_last x y h pair same =
      let n : hop_at b.dims (hop_link b.dims x y h) ≡ h = hop-on_route b.dims x y h g pair.sender pair.destination pair.first_hop (let q = pair.last_hop in omega arith) in
      let k : hop_at b.dims (hop_link b.dims x y h) ≡ length b.dims = ap (hop_at b.dims) same ∙ at.hop in
      let q = pair.last_hop in
      omega arith

  pub unpull_agrees : Agrees (record b { unread = unread; latest = None }) sent got
  unpull_agrees = record {
    outs = a.outs;
    ins = λ l h to.
        let i = a.ins l h to in
        record { lasts = i.lasts; by_last = i.by_last; fair = subst (All (λ x. IsFair b.dims (hop_at b.dims l) x.tag)) (as_before l h to) i.fair };
    law = a.law;
    pairs = λ x y h pair.
        let w = between b.dims b.rank x y h g pair in
        a.pairs x y h pair
        ∙ ap (λ u. flow b.dims sent x y (h + 1) b.epoch ++ (items_among (belongs b.dims x y (h + 1)) (b.waiting (hop_link b.dims x y (h + 1))) ++ items_among (belongs b.dims x y h) u))
        (sym (p.lies (hop_link b.dims x y h) w.comes w.to (not_last x y h pair)));
    arrived = λ l h to last. subst (Ends (flat_map (λ q. q.entries) (segment b.epoch (got l)))) (as_before l h to) (a.arrived l h to last);
    own = a.own;
  }

  pub unpull_step : s < ranks b.dims → sender_of b.dims e.tag (length b.dims) (sender_at b.dims m) ≡ s → hop_link b.dims s b.rank (length b.dims) ≡ m
      → IsOwnStep Unpull (part_of b sent got) (part_of (record b { unread = unread; latest = None }) sent got)
  unpull_step from sender route =
      let next : Buffers = record b { unread = unread; latest = None } in
      let again : PulledOn next b.unread m e = record { head = p.back; lies = λ l h to ne. sym (p.lies l h to ne) } in
      let last : IsLastIn next m = record { below = at.below; reader = at.reader; hop = at.hop } in
      let here = pulled_here next b.unread sent got m s e g rank unpull_agrees last again from sender route in
      let other = pulled_other next b.unread sent got m s e g rank unpull_agrees last again from sender route in
      let past = pulled_past next b.unread sent got m s e g rank unpull_agrees last again from sender route in
      let cut : take (length (pulled_of b got b.epoch s) - 1) (pulled_of b got b.epoch s) ≡ pulled_of next got b.epoch s =
      ap (λ u. take (length u - 1) u) here ∙ take_front (pulled_of next got b.epoch s) (e.item ∷ []) 1 refl in
      let lists = lists_without (ranks b.dims) b.epoch s e.item (pulled_of b got) (pulled_of next got) from (sym here) cut
      (λ x h ne. sym (other x h ne)) (λ k x h ne. sym (past k x h ne)) in
      let pulled : (part_of b sent got).latest ≡ Some s = ap (λ o. option_map (λ q. sender_of b.dims q.1.tag (length b.dims) (sender_at b.dims q.0)) o) p.latest ∙ ap Some sender in
      record {
        may = subst IsSome (sym pulled) (some_is s);
        is = ap (λ f. record (part_of b sent got) { latest = None; pulled = f }) (lists ∙ ap (taken_back (part_of b sent got).pulled b.epoch) (sym pulled));
      }

-- a reset begins the next epoch with nothing on its way
pub record ResetTo (b : Buffers) (waiting unread : ℕ → List Entry) (closed ended : ℕ → Bool) : Type 0 where
  pub closed_all : (l : ℕ) → l < links b.dims → sender_at b.dims l ≡ b.rank → b.closed l ≡ true
  pub ended_all : (l : ℕ) → l < links b.dims → reader_at b.dims l ≡ b.rank → b.ended l ≡ true
  pub none_waits : (l : ℕ) → l < links b.dims → sender_at b.dims l ≡ b.rank → b.waiting l ≡ []
  pub none_unread : (l : ℕ) → l < links b.dims → reader_at b.dims l ≡ b.rank → b.unread l ≡ []
  pub open_again : (l : ℕ) → l < links b.dims → sender_at b.dims l ≡ b.rank → closed l ≡ false
  pub goes_on : (l : ℕ) → l < links b.dims → reader_at b.dims l ≡ b.rank → ended l ≡ false
  pub still_none : (l : ℕ) → l < links b.dims → sender_at b.dims l ≡ b.rank → waiting l ≡ []
  pub still_read : (l : ℕ) → l < links b.dims → reader_at b.dims l ≡ b.rank → unread l ≡ []

module _ (b : Buffers) (waiting unread : ℕ → List Entry) (closed ended : ℕ → Bool) (sent got : Logs) (g : IsGrid b.dims) (rank : b.rank < ranks b.dims) (a : Agrees b sent got)
    (r : ResetTo b waiting unread closed ended) where
  fresh : Buffers
  fresh = record b { epoch = b.epoch + 1; done = false; complete = false; waiting = waiting; unread = unread; closed = closed; ended = ended; latest = None }

  -- a link that has ended its epoch: the next segment is empty
  next_segment : (log : List Shipped) (c : Bool) → c ≡ true → lasts log ≡ lasts_in b.epoch c → (c ≡ true → EndsLast log) → segment (b.epoch + 1) log ≡ []
  next_segment log c e count h = subst (λ n. segment n log ≡ []) (count ∙ ap (lasts_in b.epoch) e) (none_after (lasts log) log (h e) (omega arith))

  next_count : (n : ℕ) (c d : Bool) → c ≡ true → n ≡ lasts_in b.epoch c → d ≡ false → n ≡ lasts_in (b.epoch + 1) d
  next_count n c d e count f = count ∙ (ap (lasts_in b.epoch) e ∙ sym (ap (lasts_in (b.epoch + 1)) f))

  sent_next : (l : ℕ) → l < links b.dims → sender_at b.dims l ≡ b.rank → segment (b.epoch + 1) (sent l) ≡ []
  sent_next l h from = let o = a.outs l h from in next_segment (sent l) (b.closed l) (r.closed_all l h from) o.lasts o.by_last

  got_next : (l : ℕ) → l < links b.dims → reader_at b.dims l ≡ b.rank → segment (b.epoch + 1) (got l) ≡ []
  got_next l h to = let i = a.ins l h to in next_segment (got l) (b.ended l) (r.ended_all l h to) i.lasts i.by_last

  pub reset_agrees : Agrees (record b { epoch = b.epoch + 1; done = false; complete = false; waiting = waiting; unread = unread; closed = closed; ended = ended; latest = None }) sent got
  reset_agrees = record {
    outs = λ l h from.
        let o = a.outs l h from in
        record {
          lasts = next_count (lasts (sent l)) (b.closed l) (closed l) (r.closed_all l h from) o.lasts (r.open_again l h from);
          by_last = λ c. absurd (false≢true (sym (r.open_again l h from) ∙ c));
          fair = subst (All (λ x. IsFair b.dims (hop_at b.dims l) x.tag)) (sym (r.still_none l h from)) (all_none (λ x. IsFair b.dims (hop_at b.dims l) x.tag));
        };
    ins = λ l h to.
        let i = a.ins l h to in
        record {
          lasts = next_count (lasts (got l)) (b.ended l) (ended l) (r.ended_all l h to) i.lasts (r.goes_on l h to);
          by_last = λ c. absurd (false≢true (sym (r.goes_on l h to) ∙ c));
          fair = subst (All (λ x. IsFair b.dims (hop_at b.dims l) x.tag)) (sym (r.still_read l h to)) (all_none (λ x. IsFair b.dims (hop_at b.dims l) x.tag));
        };
    law = a.law;
    pairs = λ x y h pair.
        let w = between b.dims b.rank x y h g pair in
        let none : items_among (belongs b.dims x y (h + 1)) (waiting (hop_link b.dims x y (h + 1))) ++ items_among (belongs b.dims x y h) (unread (hop_link b.dims x y h)) ≡ [] =
        ap (λ u. items_among (belongs b.dims x y (h + 1)) u ++ items_among (belongs b.dims x y h) (unread (hop_link b.dims x y h))) (r.still_none (hop_link b.dims x y (h + 1)) w.leaves w.from)
        ∙ ap (items_among (belongs b.dims x y h)) (r.still_read (hop_link b.dims x y h) w.comes w.to) in
        ap (passing_items (belongs b.dims x y h)) (got_next (hop_link b.dims x y h) w.comes w.to)
        ∙ (sym (ap (passing_items (belongs b.dims x y (h + 1))) (sent_next (hop_link b.dims x y (h + 1)) w.leaves w.from))
        ∙ (sym (append-nil (flow b.dims sent x y (h + 1) (b.epoch + 1)))
        ∙ ap (λ u. flow b.dims sent x y (h + 1) (b.epoch + 1) ++ u) (sym none)));
    arrived = λ l h to last. record { front = []; is = ap (flat_map (λ q. q.entries)) (got_next l h to) ∙ sym (r.still_read l h to) };
    own = a.own;
  }

  nothing : (c : Bool) (keep : Entry → Bool) (u : List Entry) → u ≡ [] → cond c (items_among keep u) [] ≡ []
  nothing c keep u e = ap (λ v. cond c (items_among keep v) []) e ∙ (elim c as (λ d. cond d (items_among keep []) [] ≡ []) [ true ↦ refl | false ↦ refl ])

  no_number : (c : Bool) (keep : Entry → Bool) (u : List Entry) → u ≡ [] → cond c (length (items_among keep u)) 0 ≡ 0
  no_number c keep u e = ap (λ v. cond c (length (items_among keep v)) 0) e ∙ (elim c as (λ d. cond d (length (items_among keep [])) 0 ≡ 0) [ true ↦ refl | false ↦ refl ])

  reset_pushed : (k d : ℕ) → d < ranks b.dims → pushed_to fresh sent k d ≡ pushed_to b sent k d
  unfolding fresh
  reset_pushed k d h =
      let keep = belongs b.dims b.rank d 1 in
      let n : ℕ = hop_link b.dims b.rank d 1 in
      let l = first_link b.dims b.rank d g rank h in
      ap (λ u. flow b.dims sent b.rank d 1 k ++ u)
      (nothing (k == b.epoch + 1) keep (waiting n) (r.still_none n l.below l.sender) ∙ sym (nothing (k == b.epoch) keep (b.waiting n) (r.none_waits n l.below l.sender)))

  reset_pulled : (k x : ℕ) → x < ranks b.dims → pulled_of fresh got k x ≡ pulled_of b got k x
  unfolding fresh
  reset_pulled k x h =
      let keep = belongs b.dims x b.rank (length b.dims) in
      let n : ℕ = hop_link b.dims x b.rank (length b.dims) in
      let l = last_link b.dims x b.rank g h rank in
      let all : List Item = flow b.dims got x b.rank (length b.dims) k in
      ap (λ u. take (length all - u) all)
      (no_number (k == b.epoch + 1) keep (unread n) (r.still_read n l.below l.reader) ∙ sym (no_number (k == b.epoch) keep (b.unread n) (r.none_unread n l.below l.reader)))

  pub reset_step : b.complete ≡ true
      → IsOwnStep Reset (part_of b sent got) (part_of (record b { epoch = b.epoch + 1; done = false; complete = false; waiting = waiting; unread = unread; closed = closed; ended = ended; latest = None }) sent got)
  unfolding fresh
  reset_step complete =
      let p = lists_same (ranks b.dims) (pushed_to fresh sent) (pushed_to b sent) reset_pushed in
      let q = lists_same (ranks b.dims) (pulled_of fresh got) (pulled_of b got) reset_pulled in
      record { may = complete; is = λ i. record (part_of b sent got) { epoch = b.epoch + 1; done = false; complete = false; latest = None; pushed = p i; pulled = q i } }
