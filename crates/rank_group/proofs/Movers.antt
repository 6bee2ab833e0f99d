-- What holds of a rank's mover, whichever transport it is.
use Rattle.std.proofs.Common.{◌≡◌, ℕ, zero, suc, ◌+◌, ◌<◌, ◌≤◌, ◌==◌, ◌&&◌, ◌||◌, Bool, true, false, cond, List, [], ◌∷◌, ◌++◌, length, filter, All, refl, sym, ap, subst, ◌∙◌, arith, eq-eqb}
use Rattle.std.specs.List.{flat_map}
use Rattle.std.proofs.lemmas.Bool.{lt-ltb}
use Rattle.std.proofs.lemmas.List.{append-nil}
use Rattle.std.proofs.lemmas.List.Elements.{All-nil}
use Rattle.bale_items.specs.declared.item.Entry.{Entry}
use Rattle.bale_items.specs.declared.item.Item.{Item}
use Rattle.item_buffer.specs.Contents.{Shipped}
use Rattle.list_laws.proofs.Lists.{all_head, all_tail}
use Rattle.route_tensor.specs.Grid.{ranks, place, IsGrid}
use Rattle.route_tensor.specs.Link.{links, IsLink}
use Rattle.route_tensor.specs.Pair.{belongs}
use Rattle.route_tensor.specs.Tag.{IsFair, sender_of, destination_of}
use Rattle.route_tensor.specs.Ends.{hop_at, sender_at, reader_at}
use Rattle.route_tensor.proofs.Tags.{pair_route}
use Rattle.port_bank.specs.Logs.{Logs, lasts, segment, starting_at, ending_at, EndsLast, lasts_in}
use Rattle.port_bank.specs.Flow.{hop_link, flow, passing_items}
use Rattle.port_bank.specs.Relay.{HasFairTags}
use Rattle.port_bank.specs.Shapes.{IsFilled}
use Rattle.port_bank.proofs.Marks.{at_most}
use Rattle.port_bank.proofs.Routes.{numbered}
use Rattle.hop_core.specs.State.{State}
use Rattle.convey.specs.Buffers.{buffers_of, out_of, in_of}
use Rattle.convey.specs.Parts as conveyor_parts
use Rattle.convey.proofs.OneRank.{OneRank, one_rank_of, starting-own, ending-own, first_link}
use Rattle.exstack.specs.declared.stage.Stage.{Stage}
use Rattle.exstack.specs.declared.stage.Stage.TheVariants.{AllDone}
use Rattle.exstack.specs.Links.{no_stack_out, no_stack_in}
use Rattle.exstack.specs.State.{Stack, is_all_done}
use Rattle.exstack.specs.State.{stack_dims}
use Rattle.exstack.specs.State.{stack_out_at, stack_in_at, number, stack_link_to, stack_link_from, is_proceeding, is_exchanging}
use Rattle.exstack.specs.Cycles.{items, entries_sent}
use Rattle.exstack.specs.Agreement as exstacks
use Rattle.exstack.specs.Parts as exstack_parts
use Rattle.exstack.proofs.OneHop.{ranks_one, grid_one, number_is, number_within, number_sender, number_reader, place_none, place_one}
use Rattle.rank_node.specs.Movers.{MoverState, Manner, IsLogShape, mover_dims, mover_rank, epoch_in, part_in, has_completed, IsStacking, IsMoving}
use Rattle.rank_node.specs.Movers.MoverState.{Conveying, Stacking}
use Rattle.rank_node.specs.Movers.Manner.{ByConveyor, ByExstack}
use Rattle.rank_node.proofs.Stacked.{all_done_is, done_of_all_done}
use Rattle.rank_node.proofs.Polled.{toward, from}
use Rattle.rank_group.proofs.Bounded.{all_flat, all_segment}

pub part_epoch : (m : MoverState) (sent got : Logs) → (part_in m sent got).epoch ≡ epoch_in m
part_epoch (Conveying c) sent got = refl
part_epoch (Stacking cap x) sent got = refl

pub part_complete : (m : MoverState) (sent got : Logs) → (part_in m sent got).complete ≡ has_completed m
part_complete (Conveying c) sent got = refl
part_complete (Stacking cap x) sent got = refl

-- what a rank that has completed its epoch sent and got
pub record Completed (dims : List ℕ) (r : ℕ) (m : MoverState) (sent got : Logs) : Type 0 where
  pub out_lasts : (l : ℕ) → l < links dims → sender_at dims l ≡ r → lasts (sent l) ≡ epoch_in m + 1
  pub out_by_last : (l : ℕ) → l < links dims → sender_at dims l ≡ r → EndsLast (sent l)
  pub in_lasts : (l : ℕ) → l < links dims → reader_at dims l ≡ r → lasts (got l) ≡ epoch_in m + 1
  pub pushed : (e d : ℕ) → d < ranks dims → e ≤ epoch_in m → (part_in m (starting_at dims r sent) (ending_at dims r got)).pushed e d ≡ flow dims sent r d 1 e

module _ (dims : List ℕ) (r : ℕ) (c : State) (sent got : Logs) (grid : IsGrid dims) (low : r < ranks dims) (same_dims : c.dims ≡ dims) (same_rank : c.rank ≡ r)
    (is : IsMoving (Conveying c) (starting_at dims r sent) (ending_at dims r got)) (over : has_completed (Conveying c) ≡ true) where
  conveyor_out : (l : ℕ) → l < links dims → sender_at dims l ≡ r → (lasts (sent l) ≡ c.epoch + 1) × EndsLast (sent l)
  conveyor_out l below own =
      let b : l < links c.dims = subst (λ ds. l < links ds) (sym same_dims) below in
      let f : sender_at c.dims l ≡ c.rank = ap (λ ds. sender_at ds l) same_dims ∙ (own ∙ sym same_rank) in
      let o = is.agrees.outs l b f in
      let closed : (out_of c l).closed ≡ true = is.sound.all_closed over l b f in
      let e : starting_at dims r sent l ≡ sent l = starting-own dims r sent l own in
      (sym (ap lasts e) ∙ (o.lasts ∙ ap (lasts_in c.epoch) closed), subst EndsLast e (o.by_last closed))

  conveyor_in : (l : ℕ) → l < links dims → reader_at dims l ≡ r → lasts (got l) ≡ c.epoch + 1
  conveyor_in l below own =
      let b : l < links c.dims = subst (λ ds. l < links ds) (sym same_dims) below in
      let f : reader_at c.dims l ≡ c.rank = ap (λ ds. reader_at ds l) same_dims ∙ (own ∙ sym same_rank) in
      let i = is.agrees.ins l b f in
      let ended : (in_of c l).ended ≡ true = is.sound.all_ended over l b f in
      sym (ap lasts (ending-own dims r got l own)) ∙ (i.lasts ∙ ap (lasts_in c.epoch) ended)

  conveyor_pushed : (e d : ℕ) → d < ranks dims → e ≤ c.epoch → (part_in (Conveying c) (starting_at dims r sent) (ending_at dims r got)).pushed e d ≡ flow dims sent r d 1 e
  conveyor_pushed e d to early =
      let one : OneRank dims r (buffers_of c) sent got = one_rank_of dims r (buffers_of c) sent got same_dims same_rank grid low is.sound is.agrees in
      let link = first_link dims r d grid low to in
      let ended = (conveyor_out (hop_link dims r d 1) link.below link.sender).0 in
      let sends : conveyor_parts.pushed_to (buffers_of c) (starting_at dims r sent) e d ≡ flow dims sent r d 1 e = one.pushed_ended e d to (omega (arith, early, ended)) in
      let to' : d < ranks c.dims = subst (λ ds. d < ranks ds) (sym same_dims) to in
      ap (λ b. cond b (conveyor_parts.pushed_to (buffers_of c) (starting_at dims r sent) e d) []) (lt-ltb d (ranks c.dims) to') ∙ sends

  conveyor_completed : Completed dims r (Conveying c) sent got
  conveyor_completed =
      record { out_lasts = λ l b o. (conveyor_out l b o).0; out_by_last = λ l b o. (conveyor_out l b o).1; in_lasts = conveyor_in; pushed = conveyor_pushed }

-- on one hop every entry on a link belongs to its pair
own_entry : (n a b : ℕ) (e : Entry) → 0 < n → n ≤ 64 → IsGrid (n ∷ []) → IsLink (n ∷ []) 1 a b → IsFair (n ∷ []) 1 e.tag → a < n → b < n → belongs (n ∷ []) a b 1 e ≡ true
own_entry n a b e some few grid link fair la lb =
    let p0 : place (n ∷ []) a b 0 ≡ a = place_none n a b in
    let p1 : place (n ∷ []) a b 1 ≡ b = place_one n a b la lb in
    let route = pair_route (n ∷ []) 1 a b e.tag grid link fair in
    let s' : ℕ = sender_of (n ∷ []) e.tag 1 a in
    let d' : ℕ = destination_of (n ∷ []) e.tag 1 b in
    let ls : s' < n = omega (arith, route.sender, ranks_one n) in
    let ld : d' < n = omega (arith, route.destination, ranks_one n) in
    let s : sender_of (n ∷ []) e.tag 1 (place (n ∷ []) a b 0) ≡ a = ap (sender_of (n ∷ []) e.tag 1) p0 ∙ sym (route.from ∙ place_none n s' d') in
    let d : destination_of (n ∷ []) e.tag 1 (place (n ∷ []) a b 1) ≡ b = ap (destination_of (n ∷ []) e.tag 1) p1 ∙ sym (route.to ∙ place_one n s' d' ls ld) in
    ap (λ t. t && (destination_of (n ∷ []) e.tag 1 (place (n ∷ []) a b 1) == b)) (eq-eqb (sender_of (n ∷ []) e.tag 1 (place (n ∷ []) a b 0)) a s)
    ∙ eq-eqb (destination_of (n ∷ []) e.tag 1 (place (n ∷ []) a b 1)) b d

-- a filter that all pass keeps all
filter_whole : (p : Entry → Bool) (xs : List Entry) → All (λ e. p e ≡ true) xs → filter p xs ≡ xs
filter_whole p [] a = refl
filter_whole p (x ∷ xs) a = ap (λ b. cond b (x ∷ filter p xs) (filter p xs)) (all_head (λ e. p e ≡ true) x xs a) ∙ ap (λ ys. x ∷ ys) (filter_whole p xs (all_tail (λ e. p e ≡ true) x xs a))

all_map : (P Q : Entry → Type 0) (xs : List Entry) → ((e : Entry) → P e → Q e) → All P xs → All Q xs
all_map P Q xs f a k d low = f _ (a k d low)

module _ (r cap : ℕ) (x : Stack) (sent got : Logs) (same_rank : x.rank ≡ r)
    (is : IsStacking cap x (starting_at (stack_dims x) r sent) (ending_at (stack_dims x) r got)) (over : is_all_done x.stage ≡ true) where
  abbrev dims : List ℕ
  dims = stack_dims x

  low : x.rank < x.ranks
  low = is.stack.rank

  some : 0 < x.ranks
  some = omega (arith, low)

  agrees : exstacks.AgreesIn is.agrees.cycle x (starting_at dims r sent) (ending_at dims r got)
  agrees = is.agrees.agrees

  none_due : (s : Stage) → s ≡ AllDone → (is_proceeding s || is_exchanging s) ≡ true → ⊥
  none_due s e h = absurd (cc)

  closed : (b : ℕ) → b < x.ranks → (stack_out_at x b).closed ≡ true
  closed b w =
      let o = is.stack.each_out b no_stack_out (omega (arith, w, is.stack.all_outs)) in
      let done : x.done ≡ true = done_of_all_done cap x (starting_at dims r sent) (ending_at dims r got) is over in
      o.done_closed done (not_due (stack_out_at x b).due (λ d. none_due x.stage (all_done_is x.stage over) (o.due_round d))) where
        not_due : (b : Bool) → (b ≡ true → ⊥) → b ≡ false
        not_due true f = absurd (f refl)
        not_due false f = refl

  stack_out : (l : ℕ) → l < links dims → sender_at dims l ≡ r → (lasts (sent l) ≡ x.epoch + 1) × EndsLast (sent l)
  stack_out l below own =
      let t = toward x.ranks x.rank l some is.stack.few below (own ∙ sym same_rank) in
      let o = agrees.outs t.other t.low in
      let c = closed t.other t.low in
      let e : starting_at dims r sent (stack_link_to x t.other) ≡ sent l = ap (starting_at dims r sent) (sym t.out) ∙ starting-own dims r sent l own in
      (sym (ap lasts e) ∙ (o.ended ∙ ap (lasts_in x.epoch) c), subst EndsLast e (o.by_last c))

  stack_in : (l : ℕ) → l < links dims → reader_at dims l ≡ r → lasts (got l) ≡ x.epoch + 1
  stack_in l below own =
      let t = from x.ranks x.rank l some is.stack.few below (own ∙ sym same_rank) in
      let i = agrees.ins t.other t.low in
      let ended : (stack_in_at x t.other).ended ≡ true = (is.stack.each_in t.other no_stack_in (omega (arith, t.low, is.stack.all_ins))).all_ended over in
      let e : ending_at dims r got (stack_link_from x t.other) ≡ got l = ap (ending_at dims r got) (sym t.in') ∙ ending-own dims r got l own in
      sym (ap lasts e) ∙ (i.ended ∙ ap (lasts_in x.epoch) ended)

  stack_pushed : (e d : ℕ) → d < ranks dims → (part_in (Stacking cap x) (starting_at dims r sent) (ending_at dims r got)).pushed e d ≡ flow dims sent r d 1 e
  stack_pushed e d to =
      let n : ℕ = x.ranks in
      let lr : r < n = subst (λ k. k < n) same_rank low in
      let ld : d < n = omega (arith, to, ranks_one n) in
      let l : ℕ = number n r d in
      let is_link : hop_link dims r d 1 ≡ l = number_is n r d lr ld in
      let k : stack_link_to x d ≡ l = ap (λ q. number n q d) same_rank in
      let own : sender_at dims l ≡ r = number_sender n r d lr ld is.stack.few in
      let below : l < links dims = number_within n r d lr ld is.stack.few in
      let log : starting_at dims r sent (stack_link_to x d) ≡ sent l = ap (starting_at dims r sent) k ∙ starting-own dims r sent l own in
      let o = is.stack.each_out d no_stack_out (omega (arith, ld, is.stack.all_outs)) in
      let waits : (stack_out_at x d).waiting ≡ [] = o.closed_empty (closed d ld) in
      let fair : All (HasFairTags dims (hop_at dims l)) (starting_at dims r sent l) = agrees.law.fair l below (own ∙ sym same_rank) in
      let grid : IsGrid dims = grid_one n some is.stack.few in
      let num = numbered dims l grid below in
      let hop : hop_at dims l ≡ 1 = omega (arith, num.is_link.first_hop, num.is_link.last_hop) in
      let reads : reader_at dims l ≡ d = number_reader n r d lr ld is.stack.few in
      let joins : IsLink dims 1 r d = subst (λ h. IsLink dims h r d) hop (subst (λ b. IsLink dims (hop_at dims l) r b) reads (subst (λ a. IsLink dims (hop_at dims l) a (reader_at dims l)) own num.is_link)) in
      let fair1 : All (HasFairTags dims 1) (sent l) = subst (λ (g : List Shipped). All (HasFairTags dims 1) g) (starting-own dims r sent l own) (subst (λ h. All (HasFairTags dims h) (starting_at dims r sent l)) hop fair) in
      let entries : List Entry = flat_map (λ p. p.entries) (segment e (sent l)) in
      let tags : All (λ (y : Entry). IsFair dims 1 y.tag) entries = all_flat (λ (y : Entry). IsFair dims 1 y.tag) (λ (p : Shipped). p.entries) (segment e (sent l)) (all_segment (HasFairTags dims 1) e (sent l) fair1) in
      let whole : filter (belongs dims r d 1) entries ≡ entries = filter_whole (belongs dims r d 1) entries (all_map (λ y. IsFair dims 1 y.tag) (λ y. belongs dims r d 1 y ≡ true) entries (λ y f. own_entry n r d y some is.stack.few grid joins f lr ld) tags) in
      ap (λ b. cond b (exstack_parts.stack_pushed_to x (starting_at dims r sent) e d) []) (lt-ltb d n ld)
      ∙ (ap (λ w. items (entries_sent e (starting_at dims r sent (stack_link_to x d))) ++ cond (e == x.epoch) (items w) []) waits
      ∙ (nothing (e == x.epoch) (items (entries_sent e (starting_at dims r sent (stack_link_to x d))))
      ∙ (ap (λ g. items (entries_sent e g)) log
      ∙ (ap items (sym whole) ∙ ap (λ k. passing_items (belongs dims r d 1) (segment e (sent k))) (sym is_link))))) where
        nothing : (b : Bool) (xs : List Item) → xs ++ cond b [] [] ≡ xs
        nothing true xs = append-nil xs
        nothing false xs = append-nil xs

  stack_completed : Completed dims r (Stacking cap x) sent got
  stack_completed = record { out_lasts = λ l b o. (stack_out l b o).0; out_by_last = λ l b o. (stack_out l b o).1; in_lasts = stack_in; pushed = λ e d to early. stack_pushed e d to }

-- of either
pub completed : (dims : List ℕ) (r : ℕ) (m : MoverState) (sent got : Logs) → IsGrid dims → r < ranks dims → mover_dims m ≡ dims → mover_rank m ≡ r → IsMoving m (starting_at dims r sent) (ending_at dims r got) → has_completed m ≡ true
    → Completed dims r m sent got
completed dims r (Conveying c) sent got grid low same_dims same_rank is over = conveyor_completed dims r c sent got grid low same_dims same_rank is over
completed dims r (Stacking cap x) sent got grid low same_dims same_rank is over =
    let is' : IsStacking cap x (starting_at (stack_dims x) r sent) (ending_at (stack_dims x) r got) = subst (λ ds. IsStacking cap x (starting_at ds r sent) (ending_at ds r got)) (sym same_dims) is in
    subst (λ ds. Completed ds r (Stacking cap x) sent got) same_dims (stack_completed r cap x sent got same_rank is' over)

-- a link on which nothing was sent has the shape
no_segment : (e : ℕ) → length (segment e []) ≡ 0
no_segment zero = refl
no_segment (suc e) = refl

pub shape_none : (manner : Manner) (cap : ℕ) → IsLogShape manner cap []
shape_none (ByConveyor steady) cap = All-nil (λ (p : Shipped). p.last ≡ false → IsFilled steady cap p)
shape_none ByExstack cap = record { empty = λ e i d low. absurd (omega (arith, low, no_segment e)); goes_on = λ e i d low. absurd (omega (arith, low, no_segment e)) }

-- how many parcels of a log are marked last
pub lasts_low : (m : MoverState) (sent got : Logs) → IsMoving m sent got → (l : ℕ) → l < links (mover_dims m) → sender_at (mover_dims m) l ≡ mover_rank m → lasts (sent l) ≤ epoch_in m + 1
lasts_low (Conveying c) sent got is l below own =
    let o = is.agrees.outs l below own in omega (arith, at_most c.epoch (out_of c l).closed, o.lasts)
lasts_low (Stacking cap x) sent got is l below own =
    let t = toward x.ranks x.rank l (let a = is.stack.rank in omega (arith, a)) is.stack.few below own in
    let o = is.agrees.agrees.outs t.other t.low in
    subst (λ k. lasts (sent k) ≤ x.epoch + 1) (sym t.out) (omega (arith, at_most x.epoch (stack_out_at x t.other).closed, o.ended))
