-- What a rank sent to itself it has pulled, once it has completed its epoch: so it has heard its
-- own vote.
use Rattle.std.proofs.Common.{◌≡◌, ℕ, zero, suc, ◌+◌, ◌*◌, ◌-◌, ◌^◌, ◌<◌, ◌≤◌, ◌==◌, ◌%◌, get_or, Bool, true, false, cond, List, [], ◌∷◌, ◌++◌, length, take, refl, sym, ap, subst, ◌∙◌, arith, true≢false}
use Rattle.std.specs.List.{sum_by, flat_map}
use Rattle.std.proofs.lemmas.Bool.{eq-eqb}
use Rattle.std.proofs.lemmas.List.{take_all, append-nil, get_or_append_left}
use Rattle.bale_items.specs.declared.item.Entry.{Entry}
use Rattle.item_buffer.specs.Contents.{Shipped}
use Rattle.list_laws.specs.Lists.{IsPrefix}
use Rattle.list_laws.specs.Sums.{total}
use Rattle.list_laws.proofs.Sums.{total_part}
use Rattle.route_tensor.specs.Grid.{ranks, place, IsGrid}
use Rattle.route_tensor.specs.Link.{links}
use Rattle.route_tensor.specs.Ends.{sender_at, reader_at}
use Rattle.route_tensor.specs.Pair.{belongs, PassesThrough}
use Rattle.route_tensor.proofs.Coordinates.{place_by_stride}
use Rattle.port_bank.specs.Logs.{Logs, lasts, lasts_in, segment}
use Rattle.port_bank.specs.Flow.{hop_link, flow}
use Rattle.port_bank.specs.Machine.{Part}
use Rattle.port_bank.proofs.Routes.{link-on_route, sender-on_route, reader-on_route}
use Rattle.port_bank.proofs.Kept.{flow_same}
use Rattle.port_bank.specs.Shapes.{IsExstackShape}
use Rattle.port_bank.proofs.Fronts.{begins_shorter}
use Rattle.port_bank.proofs.Segments.{lasts_begins, segment_begins, segment_same}
use Rattle.port_bank.proofs.Listing.{for_ranks-within}
use Rattle.hop_core.specs.State.{State}
use Rattle.convey.specs.Buffers.{buffers_of, is_complete}
use Rattle.convey.specs.Agreement.{items_among}
use Rattle.convey.specs.Parts as conveyor_parts
use Rattle.exstack.specs.declared.stage.Stage.{Stage}
use Rattle.exstack.specs.declared.stage.Stage.TheVariants.{Start, Proceeding, Filling, Exchanging, Full, AllDone}
use Rattle.exstack.specs.Links.{no_stack_in, no_stack_out}
use Rattle.exstack.specs.State.{Stack, stack_out_at, stack_in_at, stack_link_to, may_read, is_all_done}
use Rattle.exstack.specs.Cycles.{odd_ones, entries_sent, entries_exchanged, items}
use Rattle.exstack.specs.Agreement.{AgreesIn}
use Rattle.exstack.specs.Parts as exstack_parts
use Rattle.round_program.specs.Rules.{Rules}
use Rattle.round_program.specs.Canonical.{items_of}
use Rattle.round_program.specs.Epochs.{PairLists, vote_item, heard, after_work}
use Rattle.rank_node.specs.declared.sends.Sends.{Sends}
use Rattle.rank_node.specs.declared.sends.Sends.TheVariants.{Emissions, Nothing, Votes}
use Rattle.rank_node.specs.Fits.{IsGridRank}
use Rattle.rank_node.specs.Movers.{MoverState, IsConveying, IsStacking, IsMoving, mover_dims, mover_rank, part_in, has_completed}
use Rattle.rank_node.specs.Movers.MoverState.{Conveying, Stacking}
use Rattle.rank_node.specs.Sending.{to_send, is_voting, spoiled_vote}
use Rattle.rank_node.specs.Runs.{part_lists}
use Rattle.rank_node.specs.Nodes.{NodeState, IsNode}
use Rattle.rank_node.proofs.Ballots.{votes_each}
use Rattle.rank_node.proofs.Onward.{done_of_completed}

-- a rank's route to itself stays there
same_place : (a b m : ℕ) → a + m ≡ b + m → a ≡ b
same_place a b m e = omega (arith, e)

place_own : (dims : List ℕ) (r h : ℕ) → IsGrid dims → h ≤ length dims → place dims r r h ≡ r
place_own dims r h g last = same_place (place dims r r h) r _ (place_by_stride dims r r h g.positive last)

take_whole : {T : Type 0} (n : ℕ) (xs : List T) → n ≡ 0 → take (length xs - n) xs ≡ xs
take_whole n xs e = take_all (length xs - n) xs (omega arith)

module _ (c : State) (sent got : Logs) (is : IsConveying c sent got) (at : IsGridRank c.dims c.rank) (over : is_complete c.phase ≡ true) where
  abbrev r : ℕ
  r = c.rank

  abbrev own : ℕ → ℕ
  own h = hop_link c.dims r r h

  below : (h : ℕ) → 1 ≤ h → h ≤ length c.dims → own h < links c.dims
  below h first last = link-on_route c.dims r r h at.grid at.low at.low first last

  sender : (h : ℕ) → 1 ≤ h → h ≤ length c.dims → sender_at c.dims (own h) ≡ r
  sender h first last = sender-on_route c.dims r r h at.grid at.low at.low first last ∙ place_own c.dims r (h - 1) at.grid (omega arith)

  reader : (h : ℕ) → 1 ≤ h → h ≤ length c.dims → reader_at c.dims (own h) ≡ r
  reader h first last = reader-on_route c.dims r r h at.grid at.low at.low first last ∙ place_own c.dims r h at.grid last

  front : (h : ℕ) → 1 ≤ h → h ≤ length c.dims → IsPrefix (got (own h)) (sent (own h))
  front h first last = is.agrees.own (own h) (below h first last) (sender h first last) (reader h first last)

  marks : (b : Bool) (n : ℕ) → b ≡ true → n ≡ lasts_in c.epoch b → c.epoch < n
  marks true n e is' = omega (arith, is')
  marks false n e is' = absurd (cc)

  ended : (h : ℕ) → 1 ≤ h → h ≤ length c.dims → c.epoch < lasts (got (own h))
  ended h first last = marks ((buffers_of c).ended (own h)) (lasts (got (own h))) (is.sound.all_ended over (own h) (below h first last) (reader h first last)) (is.agrees.ins (own h) (below h first last) (reader h first last)).lasts

  closed : (h : ℕ) → 1 ≤ h → h ≤ length c.dims → c.epoch < lasts (sent (own h))
  closed h first last = marks ((buffers_of c).closed (own h)) (lasts (sent (own h))) (is.sound.all_closed over (own h) (below h first last) (sender h first last)) (is.agrees.outs (own h) (below h first last) (sender h first last)).lasts

  arrived : (n : ℕ) → suc n ≤ length c.dims → flow c.dims got r r (suc n) c.epoch ≡ flow c.dims sent r r 1 c.epoch
  arrived zero last = sym (flow_same c.dims got sent r r 1 c.epoch (front 1 (omega arith) last) (ended 1 (omega arith) last))
  arrived (suc n) last =
      let next : suc n + 1 ≡ suc (suc n) = omega arith in
      let on : PassesThrough c.dims r r r (suc n) = record { sender = at.low; destination = at.low; first_hop = omega arith; last_hop = omega arith; here = place_own c.dims r (suc n) at.grid (omega arith) } in
      ap (λ m. flow c.dims got r r m c.epoch) (sym next)
      ∙ (sym (flow_same c.dims got sent r r (suc n + 1) c.epoch (front (suc n + 1) (omega arith) (omega arith)) (ended (suc n + 1) (omega arith) (omega arith)))
      ∙ (is.agrees.law.whole r r (suc n) c.epoch on (closed (suc n + 1) (omega arith) (omega arith)) ∙ arrived n (omega arith)))

  some : 1 ≤ length c.dims
  some = let s = at.grid.some in omega arith

  last_hop : suc (length c.dims - 1) ≡ length c.dims
  last_hop = let s = some in omega arith

  came : flow c.dims got r r (length c.dims) c.epoch ≡ flow c.dims sent r r 1 c.epoch
  came = ap (λ m. flow c.dims got r r m c.epoch) (sym last_hop) ∙ arrived (length c.dims - 1) (let q = last_hop in omega arith)

  none_unread : conveyor_parts.unread_of (buffers_of c) c.epoch r ≡ 0
  none_unread =
      ap (λ b. cond b (length (items_among (belongs c.dims r r (length c.dims)) ((buffers_of c).unread (own (length c.dims))))) 0) (eq-eqb c.epoch c.epoch refl)
      ∙ ap (λ (es : List Entry). length (items_among (belongs c.dims r r (length c.dims)) es)) (is.sound.all_read over (own (length c.dims)) (below (length c.dims) some (omega arith)) (reader (length c.dims) some (omega arith)))

  none_waiting : (buffers_of c).waiting (own 1) ≡ []
  none_waiting = is.sound.closed_empty (own 1) (below 1 (omega arith) some) (sender 1 (omega arith) some) (is.sound.all_closed over (own 1) (below 1 (omega arith) some) (sender 1 (omega arith) some))

  pushed_is : conveyor_parts.pushed_to (buffers_of c) sent c.epoch r ≡ flow c.dims sent r r 1 c.epoch
  pushed_is =
      ap (λ b. flow c.dims sent r r 1 c.epoch ++ cond b (items_among (belongs c.dims r r 1) ((buffers_of c).waiting (own 1))) []) (eq-eqb c.epoch c.epoch refl)
      ∙ (ap (λ (es : List Entry). flow c.dims sent r r 1 c.epoch ++ items_among (belongs c.dims r r 1) es) none_waiting
      ∙ append-nil (flow c.dims sent r r 1 c.epoch))

  pub own_conveyed : (conveyor_parts.part_of (buffers_of c) sent got).pulled c.epoch r ≡ (conveyor_parts.part_of (buffers_of c) sent got).pushed c.epoch r
  own_conveyed =
      for_ranks-within (ranks c.dims) (conveyor_parts.pulled_of (buffers_of c) got) c.epoch r at.low
      ∙ (take_whole (conveyor_parts.unread_of (buffers_of c) c.epoch r) (flow c.dims got r r (length c.dims) c.epoch) none_unread
      ∙ (came ∙ (sym pushed_is ∙ sym (for_ranks-within (ranks c.dims) (conveyor_parts.pushed_to (buffers_of c) sent) c.epoch r at.low))))

-- an exstack's log has all entries in exchange parcels, and so has a prefix of it
abbrev EvensEmpty : List Shipped → Type 0
EvensEmpty xs = (i : ℕ) (d : Shipped) → i < length xs → i % 2 ≡ 0 → (get_or xs i d).entries ≡ []

all_odd : (xs : List Shipped) → EvensEmpty xs → flat_map (λ (p : Shipped). p.entries) (odd_ones xs) ≡ flat_map (λ (p : Shipped). p.entries) xs
all_odd [] h = refl
all_odd (p ∷ []) h = sym (append-nil p.entries ∙ h 0 p (omega arith) refl)
all_odd (p ∷ q ∷ ps) h =
    let rest = all_odd ps (λ i d w even. h (suc (suc i)) d (omega (arith, w)) (let r : suc (suc i) % 2 ≡ i % 2 = omega arith in r ∙ even)) in
    ap (λ es. q.entries ++ es) rest ∙ ap (λ es. es ++ (q.entries ++ flat_map (λ (x : Shipped). x.entries) ps)) (sym (h 0 p (omega arith) refl))

prefix_empty : (xs ys : List Shipped) → IsPrefix xs ys → EvensEmpty ys → EvensEmpty xs
prefix_empty xs ys b h i d w even =
    let same : get_or ys i d ≡ get_or xs i d = ap (λ zs. get_or zs i d) b.is ∙ get_or_append_left xs b.rest d i w in
    ap (λ (p : Shipped). p.entries) (sym same) ∙ h i d (omega (arith, w, begins_shorter xs ys b)) even

exchanged_got : (e : ℕ) (sent got : List Shipped) → IsPrefix got sent → IsExstackShape sent → entries_exchanged e got ≡ entries_sent e got
exchanged_got e sent got b s = all_odd (segment e got) (prefix_empty (segment e got) (segment e sent) (segment_begins e got sent b) (λ i d w even. s.empty e i d w even))

module _ (cap : ℕ) (x : Stack) (sent got : Logs) (is : IsStacking cap x sent got) (over : is_all_done x.stage ≡ true) where
  abbrev l : ℕ
  l = stack_link_to x x.rank

  abbrev a : AgreesIn is.agrees.cycle x sent got
  a = is.agrees.agrees

  abbrev low : x.rank < x.ranks
  low = is.stack.rank

  stack_marks : (b : Bool) (n : ℕ) → b ≡ true → n ≡ lasts_in x.epoch b → x.epoch < n
  stack_marks true n e is' = omega (arith, is')
  stack_marks false n e is' = absurd (cc)

  stack_ended : x.epoch < lasts (got l)
  stack_ended = stack_marks (stack_in_at x x.rank).ended (lasts (got l)) ((is.stack.each_in x.rank no_stack_in (subst (λ n. x.rank < n) (sym is.stack.all_ins) low)).all_ended over) (a.ins x.rank low).ended

  stack_closed : (stack_out_at x x.rank).closed ≡ true
  stack_closed = by (stack_out_at x x.rank).closed refl where
    by : (b : Bool) → (stack_out_at x x.rank).closed ≡ b → (stack_out_at x x.rank).closed ≡ true
    by true e = e
    by false e =
        let n : lasts (sent l) ≡ x.epoch = (a.outs x.rank low).ended ∙ ap (lasts_in x.epoch) e in
        absurd (omega (arith, n, stack_ended, lasts_begins (got l) (sent l) a.own))

  stack_read : (stack_in_at x x.rank).unread ≡ []
  stack_read = (is.stack.each_in x.rank no_stack_in (subst (λ n. x.rank < n) (sym is.stack.all_ins) low)).read (by x.stage over) where
    by : (s : Stage) → is_all_done s ≡ true → may_read s ≡ false
    by Start e = absurd (cc)
    by Proceeding e = absurd (cc)
    by Filling e = absurd (cc)
    by Exchanging e = absurd (cc)
    by Full e = absurd (cc)
    by AllDone e = refl

  stack_emptied : (stack_out_at x x.rank).waiting ≡ []
  stack_emptied = (is.stack.each_out x.rank no_stack_out (subst (λ n. x.rank < n) (sym is.stack.all_outs) low)).closed_empty stack_closed

  stack_pushed : exstack_parts.stack_pushed_to x sent x.epoch x.rank ≡ items (entries_sent x.epoch (sent l))
  stack_pushed =
      ap (λ b. items (entries_sent x.epoch (sent l)) ++ cond b (items (stack_out_at x x.rank).waiting) []) (eq-eqb x.epoch x.epoch refl)
      ∙ (ap (λ (es : List Entry). items (entries_sent x.epoch (sent l)) ++ items es) stack_emptied ∙ append-nil (items (entries_sent x.epoch (sent l))))

  stack_none : cond (x.epoch == x.epoch) (length (stack_in_at x x.rank).unread) 0 ≡ 0
  stack_none = ap (λ b. cond b (length (stack_in_at x x.rank).unread) 0) (eq-eqb x.epoch x.epoch refl) ∙ ap (λ (es : List Entry). length es) stack_read

  stack_came : items (entries_exchanged x.epoch (got l)) ≡ items (entries_sent x.epoch (sent l))
  stack_came =
      ap items (exchanged_got x.epoch (sent l) (got l) a.own (a.shapes x.rank low))
      ∙ ap (λ (ps : List Shipped). items (flat_map (λ (p : Shipped). p.entries) ps)) (sym (segment_same x.epoch (got l) (sent l) a.own stack_ended))

  pub own_stacked : (exstack_parts.stack_part x sent got).pulled x.epoch x.rank ≡ (exstack_parts.stack_part x sent got).pushed x.epoch x.rank
  own_stacked =
      for_ranks-within x.ranks (exstack_parts.popped_of x got) x.epoch x.rank low
      ∙ (take_whole (cond (x.epoch == x.epoch) (length (stack_in_at x x.rank).unread) 0) (items (entries_exchanged x.epoch (got l))) stack_none
      ∙ (stack_came ∙ (sym stack_pushed ∙ sym (for_ranks-within x.ranks (exstack_parts.stack_pushed_to x sent) x.epoch x.rank low))))

-- either of them
pub own_pulled : (m : MoverState) (sent got : Logs) → IsMoving m sent got → IsGridRank (mover_dims m) (mover_rank m) → has_completed m ≡ true
    → (part_in m sent got).pulled (part_in m sent got).epoch (mover_rank m) ≡ (part_in m sent got).pushed (part_in m sent got).epoch (mover_rank m)
own_pulled (Conveying c) sent got is at over = own_conveyed c sent got is at over
own_pulled (Stacking cap x) sent got is at over = own_stacked cap x sent got is over

-- a spoiled vote makes the sum stand at its end
heard_spoiled : (p : ℕ) (l : PairLists) (m f : ℕ) → f < p → l.pulled (2 * m + 1) f ≡ vote_item (2 ^ 64 - 1) ∷ [] → heard p l m ≡ 2 ^ 64 - 1
heard_spoiled p l m f low e =
    let one : sum_by (λ x. x.a) (vote_item (2 ^ 64 - 1) ∷ []) ≡ 2 ^ 64 - 1 = omega arith in
    let same : sum_by (λ x. x.a) (l.pulled (2 * m + 1) f) ≡ 2 ^ 64 - 1 = ap (sum_by (λ x. x.a)) e ∙ one in
    let part : sum_by (λ x. x.a) (l.pulled (2 * m + 1) f) ≤ total p (λ g. sum_by (λ x. x.a) (l.pulled (2 * m + 1) g)) = total_part p (λ g. sum_by (λ x. x.a) (l.pulled (2 * m + 1) g)) f low in
    omega arith

take_same : {T : Type 0} (n : ℕ) (xs : List T) → n ≡ length xs → take n xs ≡ xs
take_same n xs e = take_all n xs (omega (arith, e))

-- a spoiled rank that has completed the epoch of its votes has heard its own
pub spoiled_sum : {S : Type 0} (R : Rules S) (h : ℕ → S) (n : NodeState S) (sent got : Logs) → IsNode R h n sent got → IsGridRank (mover_dims n.mover) (mover_rank n.mover) → has_completed n.mover ≡ true
    → is_voting n.run.sends ≡ true → n.run.spoiled ≡ true → n.run.sum ≡ 2 ^ 64 - 1
spoiled_sum {S} R h n sent got is at over votes lost = is.within.hears votes ∙ heard_spoiled p (part_lists part) n.run.round own at.low (by n.run.sends refl)
  where
    p : ℕ
    p = ranks (mover_dims n.mover)

    own : ℕ
    own = mover_rank n.mover

    part : Part
    part = part_in n.mover sent got

    epoch : part.epoch ≡ 2 * n.run.round + 1
    epoch = is.passed.epoch ∙ ap (λ b. cond b (2 * n.run.round + 1) (2 * n.run.round)) votes

    all : n.run.next ≡ length (to_send R n.run.prog n.run.sends)
    all = is.within.all_pushed (done_of_completed n.mover sent got is.moving over)

    pushed : part.pushed part.epoch own ≡ items_of own (to_send R n.run.prog n.run.sends)
    pushed = is.within.pushed own at.low ∙ ap (items_of own) (take_same n.run.next (to_send R n.run.prog n.run.sends) all)

    by : (s : Sends) → n.run.sends ≡ s → part.pulled (2 * n.run.round + 1) own ≡ vote_item (2 ^ 64 - 1) ∷ []
    by Emissions e = absurd (true≢false (sym votes ∙ ap is_voting e))
    by Nothing e = absurd (true≢false (sym votes ∙ ap is_voting e))
    by (Votes v q) e =
        let w = is.within.vote v q e in
        let v_is : v ≡ 2 ^ 64 - 1 = w.1 ∙ ap (λ b. cond b spoiled_vote (R.vote (after_work R p h (part_lists part) n.run.round))) lost in
        ap (λ (k : ℕ). part.pulled k own) (sym epoch)
        ∙ (own_pulled n.mover sent got is.moving at over
        ∙ (pushed
        ∙ (ap (λ s. items_of own (to_send R n.run.prog s)) e
        ∙ (votes_each q v own (subst (λ (k : ℕ). own < k) (sym w.0) at.low) ∙ ap (λ (k : ℕ). vote_item k ∷ []) v_is))))
