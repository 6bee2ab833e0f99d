-- What an exchange moves at most.
use Rattle.std.proofs.Common.{◌≡◌, ℕ, zero, suc, ◌+◌, ◌*◌, ◌<◌, ◌≤◌, Bool, true, false, cond, List, [], ◌∷◌, ◌++◌, length, map, take, Some, slice_get, get_or, All, refl, sym, ap, subst, ◌∙◌, arith}
use Rattle.std.proofs.lemmas.List.{length-map}
use Rattle.std.proofs.lemmas.Option.{slice_get-get_or}
use Rattle.std.proofs.Math.Nat.{mul-add, mul-le-mul_left}
use Rattle.bale_items.specs.declared.item.Entry.{Entry}
use Rattle.bale_items.specs.declared.item.Item.{Item}
use Rattle.item_buffer.specs.Contents.{Shipped}
use Rattle.list_laws.specs.Lists.{IsPrefix}
use Rattle.list_laws.specs.Sums.{total}
use Rattle.list_laws.proofs.Sums.{total_le, total_same, total_add, total_const, total_swap, total_list}
use Rattle.list_laws.proofs.Lists.{find, within, get_once, get_map}
use Rattle.route_tensor.specs.Grid.{ranks}
use Rattle.route_tensor.specs.Link.{links}
use Rattle.route_tensor.specs.Tag.{IsFair}
use Rattle.route_tensor.specs.Ends.{hop_at, sender_at}
use Rattle.route_tensor.proofs.Coordinates.{ranks_some}
use Rattle.port_bank.specs.Logs.{Logs, lasts, segment, starting_at, ending_at, EndsLast, lasts_in}
use Rattle.port_bank.specs.Flow.{flow}
use Rattle.port_bank.specs.Relay.{HasFairTags}
use Rattle.port_bank.proofs.Fronts.{begins_shorter, begins_flat_map}
use Rattle.port_bank.proofs.Pipeline.{Keeps}
use Rattle.port_bank.proofs.Routes.{numbered}
use Rattle.port_bank.proofs.Segments.{lasts-append, lasts_first}
use Rattle.hop_core.specs.State.{State}
use Rattle.convey.specs.Buffers.{buffers_of, out_of}
use Rattle.convey.specs.Conveyors.{AgreesWith}
use Rattle.convey.specs.Law.{ClosesLaw}
use Rattle.convey.specs.Parts.{part_of}
use Rattle.convey.proofs.OneRank.{starting-own}
use Rattle.round_program.specs.Canonical.{items_of}
use Rattle.round_program.specs.Talks.{Talk, TalkLaws}
use Rattle.round_program.proofs.Items.{items_total}
use Rattle.rank_group.proofs.Bounded.{all_flat}
use Rattle.rank_group.proofs.Counted.{pushed_in, all_links, log_short}
use Rattle.rank_group.proofs.Pushed.{flow_pushed}
use Rattle.round_program.specs.Replies.{carrying, asks_of}
use Rattle.query_node.specs.States.{BiState, Sides}
use Rattle.query_node.specs.Ranks.{AllBiRanks}
use Rattle.rank_group.specs.BankLogs.{parcel_entries, moved_over}
use Rattle.biconvey.specs.ConveyorsOverBank.{bi_inbox, bi_moves, AreConveyorsOver}
use Rattle.biconvey.specs.RanksOverBanks.{BiRanksOnBanks, all_moves, queries_in}
use Rattle.port_bank.proofs.Marks.{at_most}
use Rattle.query_node.proofs.Taken.{items_begin}
use Rattle.query_node.proofs.Offering.{asked_below}
use Rattle.query_node.proofs.Closing.{queries_close, pushed_of, replied_of}

-- a log whose one last parcel is at its end is its first segment
none_last : (p : Shipped) (ps : List Shipped) → lasts (p ∷ ps) ≡ 0 → p.last ≡ false
none_last p ps none = by p.last refl where
  by : (b : Bool) → p.last ≡ b → p.last ≡ false
  by true e = absurd (let n = lasts_first p ps true e in omega (arith, n, none))
  by false e = e

whole_none : (log : List Shipped) → lasts log ≡ 0 → segment 0 log ≡ log
whole_none [] none = refl
whole_none (p ∷ ps) none =
    let open' : p.last ≡ false = none_last p ps none in
    let rest = lasts_first p ps false open' in
    ap (λ b. p ∷ cond b [] (segment zero ps)) open' ∙ ap (λ xs. p ∷ xs) (whole_none ps (omega (arith, rest, none)))

none_more : (front : List Shipped) (final : Shipped) → final.last ≡ true → 1 ≤ lasts (front ++ final ∷ [])
none_more front final e = let a = lasts-append front (final ∷ []) in let b = lasts_first final [] true e in omega (arith, a, b)

whole_end : (front : List Shipped) (final : Shipped) → final.last ≡ true → lasts (front ++ final ∷ []) ≡ 1 → segment 0 (front ++ final ∷ []) ≡ front ++ final ∷ []
whole_end [] final last one = ap (λ b. final ∷ cond b [] []) last
whole_end (p ∷ ps) final last one = by p.last refl (λ l. whole_end ps final last l) where
  by : (b : Bool) → p.last ≡ b → (lasts (ps ++ final ∷ []) ≡ 1 → segment 0 (ps ++ final ∷ []) ≡ ps ++ final ∷ []) → segment 0 (p ∷ (ps ++ final ∷ [])) ≡ p ∷ (ps ++ final ∷ [])
  by true e next = absurd (let a = lasts_first p (ps ++ final ∷ []) true e in let b = none_more ps final last in omega (arith, a, b, one))
  by false e next =
      let a = lasts_first p (ps ++ final ∷ []) false e in
      ap (λ b. p ∷ cond b [] (segment zero (ps ++ final ∷ []))) e ∙ ap (λ xs. p ∷ xs) (next (omega (arith, a, one)))

whole_segment : (log : List Shipped) (closed : Bool) → lasts log ≡ lasts_in 0 closed → (closed ≡ true → EndsLast log) → segment 0 log ≡ log
whole_segment log true marks ends =
    let e = ends refl in
    subst (λ xs. segment 0 xs ≡ xs) (sym e.is) (whole_end e.front e.final e.last (ap lasts (sym e.is) ∙ marks))
whole_segment log false marks ends = whole_none log marks

total_times : (n k : ℕ) (f : ℕ → ℕ) → total n (λ e. k * f e) ≡ k * total n f
total_times zero k f = omega arith
total_times (suc n) k f = ap (λ t. t + k * f n) (total_times n k f) ∙ sym (mul-add k (total n f) (f n))

-- the conveyors of one way, in the first epoch
pub record InFirst (dims : List ℕ) (cs : List State) (sent got : Logs) (r : ℕ) (c : State) : Type 0 where
  pub same_dims : c.dims ≡ dims
  pub same_rank : c.rank ≡ r
  pub first : c.epoch ≡ 0
  pub agrees : AgreesWith c (starting_at dims r sent) (ending_at dims r got)

module _ (dims : List ℕ) (cap slots : ℕ) (steady : Bool) (cs : List State) (sent got : Logs) (w : AreConveyorsOver dims cap slots steady cs sent got) (some : 0 < cap)
    (each : (r : ℕ) (c : State) → slice_get cs r ≡ Some c → InFirst dims cs sent got r c) where
  keeps : Keeps dims sent got
  keeps = record { grid = w.lawful.grid; fronts = λ l below. (w.lawful.links_keep l below).begins; relays = w.lawful.relays }

  fair : (l : ℕ) → l < links dims → All (HasFairTags dims (hop_at dims l)) (sent l)
  fair l below = let k = numbered dims l w.lawful.grid below in (w.lawful.relays (sender_at dims l) k.is_link.sender).fair l below refl

  -- what a link's log says of its epoch
  closed_at : (l : ℕ) → l < links dims → (closed : Bool) × (lasts (sent l) ≡ lasts_in 0 closed) × (closed ≡ true → EndsLast (sent l))
  closed_at l below =
      let k = numbered dims l w.lawful.grid below in
      let a : ℕ = sender_at dims l in
      let x : (c : State) × (slice_get cs a ≡ Some c) = find cs a (let from = k.is_link.sender in omega (arith, from, w.all)) in
      let i = each a x.0 x.1 in
      let o = i.agrees.outs l (subst (λ ds. l < links ds) (sym i.same_dims) below) (ap (λ ds. sender_at ds l) i.same_dims ∙ sym i.same_rank) in
      let own = starting-own dims a sent l refl in
      ((out_of x.0 l).closed, ap lasts (sym own) ∙ (o.lasts ∙ ap (λ n. lasts_in n (out_of x.0 l).closed) i.first), λ e. subst EndsLast own (o.by_last e))

  whole : (l : ℕ) → l < links dims → segment 0 (sent l) ≡ sent l
  whole l below = let c = closed_at l below in whole_segment (sent l) c.0 c.1 c.2

  fair_in : (l : ℕ) → l < links dims → All (λ (x : Entry). IsFair dims (hop_at dims l) x.tag) (parcel_entries (segment 0 (sent l)))
  fair_in l below = all_flat (λ (x : Entry). IsFair dims (hop_at dims l) x.tag) (λ (p : Shipped). p.entries) (segment 0 (sent l)) (subst (All (HasFairTags dims (hop_at dims l))) (sym (whole l below)) (fair l below))

  sent_all : total (links dims) (λ l. length (parcel_entries (sent l))) ≤ length dims * pushed_in dims sent 0
  sent_all =
      let a = total_same (links dims) (λ l. length (parcel_entries (sent l))) (λ l. length (parcel_entries (segment 0 (sent l)))) (λ l below. ap (λ (log : List Shipped). length (parcel_entries log)) (sym (whole l below))) in
      let b = all_links dims sent got keeps fair 0 fair_in in
      omega (arith, a, b)

  pub moves_few : bi_moves dims cs sent got ≤ 3 * (length dims * pushed_in dims sent 0) + links dims * 2
  moves_few =
      let a = total_le (links dims) (moved_over sent got (bi_inbox dims cs)) (λ l. 3 * length (parcel_entries (sent l)) + 2) one in
      let b = total_add (links dims) (λ l. 3 * length (parcel_entries (sent l))) (λ l. 2) in
      let c = total_times (links dims) 3 (λ l. length (parcel_entries (sent l))) in
      let d = total_const (links dims) 2 in
      omega (arith, a, b, c, d, sent_all) where
        one : (l : ℕ) → l < links dims → moved_over sent got (bi_inbox dims cs) l ≤ 3 * length (parcel_entries (sent l)) + 2
        one l below =
            let front : IsPrefix (got l) (sent l) = (w.lawful.links_keep l below).begins in
            let g = begins_shorter (got l) (sent l) front in
            let e = begins_shorter (parcel_entries (got l)) (parcel_entries (sent l)) (begins_flat_map (λ (p : Shipped). p.entries) (got l) (sent l) front) in
            let s = log_short steady cap (sent l) some (w.shape l) in
            let c = closed_at l below in
            let f = at_most 0 c.0 in
            omega (arith, g, e, s, f, c.1)

-- all ranks as a function of their number
module _ {S : Type 0} (T : Talk S) (laws : TalkLaws T) (law : ClosesLaw) (dims : List ℕ) (cap slots : ℕ) (steady : Bool) (starts : ℕ → S) (ns : List (BiState S)) (s : Sides) (w : BiRanksOnBanks T dims cap slots steady starts ns s) where
  pub size : length ns ≡ ranks dims
  size = sym (length-map ns (λ (n : BiState S). n.queries)) ∙ w.queries.all

  pub first : (n : BiState S) × (slice_get ns 0 ≡ Some n)
  first = find ns 0 (let some = ranks_some dims w.queries.lawful.grid.positive in omega (arith, some, size))

  abbrev pub nth : ℕ → BiState S
  nth r = get_or ns r first.0

  pub at : (r : ℕ) → r < ranks dims → slice_get ns r ≡ Some (nth r)
  at r low = slice_get-get_or ns r first.0 (omega (arith, low, size))

  pub all_ranks : AllBiRanks T dims cap slots starts nth s
  all_ranks = record {
    grid = w.queries.lawful.grid;
    queries_keep = w.queries.lawful.links_keep;
    replies_keep = w.replies.lawful.links_keep;
    each = λ r low. w.each r (nth r) (at r low);
  }

  -- how many queries there are
  abbrev pub count : ℕ
  count = total (ranks dims) (λ r. length (T.queries (starts r)))

  queries_first : (r : ℕ) (c : State) → slice_get (map (λ n. n.queries) ns) r ≡ Some c → InFirst dims (map (λ n. n.queries) ns) s.asking s.asked r c
  queries_first r c is =
      let x : (n : BiState S) × (slice_get ns r ≡ Some n) = find ns r (let a = within (map (λ (n : BiState S). n.queries) ns) r c is in let b = length-map ns (λ (n : BiState S). n.queries) in omega (arith, a, b)) in
      let same : x.0.queries ≡ c = get_once (map (λ (n : BiState S). n.queries) ns) r x.0.queries c (get_map (λ (n : BiState S). n.queries) ns r x.0 x.1) is in
      let h = w.each r x.0 x.1 in
      subst (InFirst dims (map (λ n. n.queries) ns) s.asking s.asked r) same (record { same_dims = h.same_dims; same_rank = h.same_rank; first = h.node.asks.first; agrees = h.node.asks.agrees })

  replies_first : (r : ℕ) (c : State) → slice_get (map (λ n. n.replies) ns) r ≡ Some c → InFirst dims (map (λ n. n.replies) ns) s.replying s.replied r c
  replies_first r c is =
      let x : (n : BiState S) × (slice_get ns r ≡ Some n) = find ns r (let a = within (map (λ (n : BiState S). n.replies) ns) r c is in let b = length-map ns (λ (n : BiState S). n.replies) in omega (arith, a, b)) in
      let same : x.0.replies ≡ c = get_once (map (λ (n : BiState S). n.replies) ns) r x.0.replies c (get_map (λ (n : BiState S). n.replies) ns r x.0 x.1) is in
      let h = w.each r x.0 x.1 in
      subst (InFirst dims (map (λ n. n.replies) ns) s.replying s.replied r) same (record { same_dims = h.node.same_dims ∙ h.same_dims; same_rank = h.node.same_rank ∙ h.same_rank; first = h.node.replies.first; agrees = h.node.replies.agrees })

  -- one pair's queries are at most those of its asker
  asked_few : (r d : ℕ) → r < ranks dims → d < ranks dims → length ((part_of (buffers_of (nth r).queries) (starting_at dims r s.asking) (ending_at dims r s.asked)).pushed 0 d) ≤ length (items_of d (asks_of T (starts r)))
  asked_few r d b c =
      let a = pushed_of T laws law dims cap slots starts nth s all_ranks r d b c in
      let e = begins_shorter (items_of d (take (nth r).next (asks_of T (starts r)))) (items_of d (asks_of T (starts r))) (items_begin d (nth r).next (asks_of T (starts r))) in
      omega (arith, ap length a, e)

  of_one : (r : ℕ) → r < ranks dims → total (ranks dims) (λ d. length (items_of d (asks_of T (starts r)))) ≡ length (T.queries (starts r))
  of_one r b =
      let h = w.each r (nth r) (at r b) in
      items_total (ranks dims) (asks_of T (starts r)) (subst (λ p. All (λ (e : ℕ × Item). e.0 < p) (asks_of T (starts r))) (h.node.all_ranks ∙ ap ranks h.same_dims) (asked_below T laws (starts r) h.node.heard.valid))
      ∙ length-map (T.queries (starts r)) (λ (q : ℕ × ℕ). (q.0, carrying q.1))

  queries_few : pushed_in dims s.asking 0 ≤ count
  queries_few = total_le (ranks dims) (λ r. total (ranks dims) (λ d. length (flow dims s.asking r d 1 0))) (λ r. length (T.queries (starts r))) (λ r b.
      let h = w.each r (nth r) (at r b) in
      let x = total_le (ranks dims) (λ d. length (flow dims s.asking r d 1 0)) (λ d. length (items_of d (asks_of T (starts r)))) (λ d c.
      let a = flow_pushed dims (nth r).queries s.asking s.asked r d 0 w.queries.lawful.grid h.same_dims h.same_rank b c in
      let e = asked_few r d b c in
      omega (arith, a, e)) in
      let y = of_one r b in
      omega (arith, x, y))

  replies_few : pushed_in dims s.replying 0 ≤ count
  replies_few =
      let P = ranks dims in
      let x = total_le P (λ d. total P (λ r. length (flow dims s.replying d r 1 0))) (λ d. total P (λ r. length (items_of d (asks_of T (starts r))))) (λ d c. total_le P (λ r. length (flow dims s.replying d r 1 0)) (λ r. length (items_of d (asks_of T (starts r)))) (λ r b. one d r c b)) in
      let y = total_swap P P (λ d r. length (items_of d (asks_of T (starts r)))) in
      let z = total_same P (λ r. total P (λ d. length (items_of d (asks_of T (starts r))))) (λ r. length (T.queries (starts r))) (λ r b. of_one r b) in
      omega (arith, x, y, z) where
        one : (d r : ℕ) → d < ranks dims → r < ranks dims → length (flow dims s.replying d r 1 0) ≤ length (items_of d (asks_of T (starts r)))
        one d r c b =
            let h = w.each d (nth d) (at d c) in
            let a = flow_pushed dims (nth d).replies s.replying s.replied d r 0 w.queries.lawful.grid (h.node.same_dims ∙ h.same_dims) (h.node.same_rank ∙ h.same_rank) c b in
            let e = replied_of T laws law dims cap slots starts nth s all_ranks d r c b in
            let came : List Item = (part_of (buffers_of (nth d).queries) (starting_at dims d s.asking) (ending_at dims d s.asked)).pulled 0 r in
            let l = length-map came (λ (y : Item). carrying (T.answer (starts d) r y.a)) in
            let f = begins_shorter came ((part_of (buffers_of (nth r).queries) (starting_at dims r s.asking) (ending_at dims r s.asked)).pushed 0 d) ((queries_close T laws law dims cap slots starts nth s all_ranks).begins d r 0 c b) in
            let k = asked_few r d b c in
            omega (arith, a, ap length e, l, f, k)

  -- the askers have the queries that they began with
  pub counted : queries_in T ns ≡ count
  counted =
      total_list (λ (n : BiState S). length (T.queries n.asker)) (λ r. length (T.queries (starts r))) ns (λ r n is. ap length (w.each r n is).node.heard.same.queries)
      ∙ ap (λ k. total k (λ r. length (T.queries (starts r)))) size

  -- all moves
  pub all_few : all_moves dims ns s ≤ 6 * (length dims * count) + links dims * 4
  all_few =
      let a = moves_few dims cap slots steady (map (λ n. n.queries) ns) s.asking s.asked w.queries w.some_cap queries_first in
      let b = moves_few dims cap slots steady (map (λ n. n.replies) ns) s.replying s.replied w.replies w.some_cap replies_first in
      let c = mul-le-mul_left (length dims) queries_few in
      let d = mul-le-mul_left (length dims) replies_few in
      omega (arith, a, b, c, d)

-- as many sweeps, and one that moves nothing
pub turns_low : (p k l i : ℕ) → p * (6 * (k * i) + l * 4 + 1) ≤ 2 * (p * (i * (3 * k + 1) + 2 * l + 1))
turns_low p k l i =
    let a : 6 * (k * i) + l * 4 + 1 ≤ 2 * (i * (3 * k + 1) + 2 * l + 1) = omega arith in
    let b = mul-le-mul_left p a in
    omega (arith, b)
