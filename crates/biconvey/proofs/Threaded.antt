-- The ranks of an exchange on threads, once their seats are gathered and both banks are closed.
use Rattle.std.proofs.Common.{◌≡◌, ℕ, ◌<◌, Bool, true, List, length, map, get_or, slice_get, Option, Some, None, IsSome, All, refl, sym, ap, subst, ◌∙◌, arith}
use Rattle.std.proofs.lemmas.List.{length-map}
use Rattle.std.proofs.lemmas.Option.{get_or_from_slice_get, slice_get-get_or}
use Rattle.list_laws.specs.Lists.{EachAt}
use Rattle.list_laws.proofs.Lists.{find, within, get_map, got_map, all_get, all_from_gets, each_get, each_from_gets}
use Rattle.route_tensor.specs.Grid.{ranks}
use Rattle.route_tensor.specs.Link.{links}
use Rattle.route_tensor.specs.Ends.{sender_at}
use Rattle.route_tensor.proofs.Coordinates.{ranks_some}
use Rattle.port_bank.specs.Link.{LinkLaw}
use Rattle.port_bank.specs.Logs.{Logs, starting_at, ending_at}
use Rattle.port_bank.specs.Round.{Round, IsRound, logs_of}
use Rattle.port_bank.specs.Shapes.{IsConveyorShape}
use Rattle.port_bank.proofs.Routes.{numbered}
use Rattle.link_slots.specs.ClosedBank.{slot_round, AllThere}
use Rattle.link_slots.specs.SeatView.{BankIdentity, SeatView, posted_on, collected_from}
use Rattle.link_slots.specs.Shape.{Shape}
use Rattle.convey.specs.Law.{ClosesLaw}
use Rattle.convey.proofs.OneRank.{starting-own}
use Rattle.rank_crews.specs.Runs.{AllRan}
use Rattle.rank_group.specs.Transcript.{BankShape}
use Rattle.round_program.specs.Talks.{Talk, TalkLaws}
use Rattle.round_program.specs.Replies.{HaveHeard}
use Rattle.query_node.specs.States.{BiState, Sides, IsBiNode}
use Rattle.query_node.specs.Ranks.{HasBiRank, AllBiRanks}
use Rattle.biconvey.specs.RanksOverBanks.{is_over}
use Rattle.biconvey.specs.Drives.{AreAskers, RecordsExchange, AreFreshBiRanks, askers_of}
use Rattle.biconvey.specs.Seats.{BiSeatedState, bank_at, IsBiRankAtSeats, TookBiTurns, IsSeatedBiRank, AreSeatedBiRanks}
use Rattle.biconvey.proofs.Finished.{starts_of, IsClosed, heard_all, told_both}

some_is : {X : Type 0} {o : Option X} {x : X} → o ≡ Some x → IsSome o
some_is e = subst IsSome (sym e) refl

-- what a bank leaves that is closed with these lists of its ranks
pub record IsGatheredRound (cap : ℕ) (shape : Shape) (lists : _) (c : Round) : Type 0 where
  pub round : c ≡ slot_round shape cap lists
  pub in_order : IsRound c
  pub sent : (s : SeatView) → get_or lists s.rank None ≡ Some s.lists → starting_at shape.dims s.rank (logs_of c.sent) ≡ posted_on s
  pub got : (s : SeatView) → get_or lists s.rank None ≡ Some s.lists → ending_at shape.dims s.rank (logs_of c.got) ≡ collected_from s

module _ {S : Type 0} (T : Talk S) (cap : ℕ) (b p : BankIdentity) (same : p.shape ≡ b.shape) (steady : Bool) (askers : List S) (all : AreAskers T (ranks b.shape.dims) askers)
    (ns : List (BiState S)) (fresh : AreFreshBiRanks T b.shape.dims steady askers ns) (xs ys : List (BiSeatedState S)) (firsts : map (λ x. x.node) xs ≡ ns) (seated : AreSeatedBiRanks T cap steady b p xs) (heard : ℕ → ℕ → Bool) (ran : AllRan (λ x y. TookBiTurns T cap heard x y) xs ys) where
  abbrev dims : List ℕ
  dims = b.shape.dims

  as_many : length ys ≡ ranks dims
  as_many = ran.all ∙ (sym (length-map xs (λ (x : BiSeatedState S). x.node)) ∙ (ap length firsts ∙ (sym (length-map ns (λ (n : BiState S). n.asker)) ∙ (ap length fresh.same ∙ all.size))))

  -- a rank, and how its exchange went
  record Came (r : ℕ) (y : BiSeatedState S) : Type 0 where
    start : S
    began : slice_get askers r ≡ Some start
    way : IsBiRankAtSeats T cap steady start y
    queries_bank : bank_at y.queries ≡ b
    replies_bank : bank_at y.replies ≡ p
    numbers : (y.queries.rank ≡ r) × (y.replies.rank ≡ r)
    turns : (m : ℕ) → m < y.turns → heard r m ≡ true

  came : (r : ℕ) (y : BiSeatedState S) → slice_get ys r ≡ Some y → Came r y
  came r y at =
      let x : (x : BiSeatedState S) × (slice_get xs r ≡ Some x) = find xs r (let a = ran.all in omega (arith, within ys r y at, a)) in
      let s : IsSeatedBiRank T cap steady b p r x.0 = seated r x.0 x.1 in
      let t : TookBiTurns T cap heard x.0 y = ran.each r x.0 y x.1 at in
      record {
        start = x.0.node.asker;
        began = ap (λ ss. slice_get ss r) (sym fresh.same) ∙ (ap (λ ms. slice_get (askers_of ms) r) (sym firsts) ∙ get_map (λ (n : BiState S). n.asker) (map (λ x. x.node) xs) r x.0.node (get_map (λ (x : BiSeatedState S). x.node) xs r x.0 x.1));
        way = t.kept steady x.0.node.asker s.way;
        queries_bank = t.queries.bank ∙ s.queries_bank;
        replies_bank = t.replies.bank ∙ s.replies_bank;
        numbers = (t.queries.number ∙ s.numbers.0, t.replies.number ∙ s.numbers.1);
        turns = λ m low. subst (λ k. heard k m ≡ true) s.numbers.0 (t.heard m (let z = s.none in omega (arith, z)) low);
      }

  -- the gate was notified of the first turn of each
  pub all_told : All (λ y. is_over y.node ≡ true) ys → (r : ℕ) → r < ranks dims → heard r 0 ≡ true
  all_told over r low =
      let y : (y : BiSeatedState S) × (slice_get ys r ≡ Some y) = find ys r (omega (arith, low, as_many)) in
      let c : Came r y.0 = came r y.0 y.1 in
      c.turns 0 (c.way.some (all_get (λ (z : BiSeatedState S). is_over z.node ≡ true) ys r y.0 over y.1))

  -- where each sat
  pub sat_at : All (λ y. (bank_at y.queries ≡ b) × (bank_at y.replies ≡ p)) ys
  sat_at = all_from_gets (λ (y : BiSeatedState S). (bank_at y.queries ≡ b) × (bank_at y.replies ≡ p)) ys (λ r y at. let c = came r y at in (c.queries_bank, c.replies_bank))

  pub numbered_at : EachAt (λ r y. (y.queries.rank ≡ r) × (y.replies.rank ≡ r)) ys
  numbered_at = each_from_gets (λ r (y : BiSeatedState S). (y.queries.rank ≡ r) × (y.replies.rank ≡ r)) ys (λ r y at. (came r y at).numbers)

  -- the lists of each were gathered
  pub all_there : (seat : BiSeatedState S → SeatView) (lists : _) → EachAt (λ r y. get_or lists r None ≡ Some (seat y).lists) ys → AllThere b.shape lists
  all_there seat lists there r low =
      let y : (y : BiSeatedState S) × (slice_get ys r ≡ Some y) = find ys r (omega (arith, low, as_many)) in
      some_is (each_get (λ k (z : BiSeatedState S). get_or lists k None ≡ Some (seat z).lists) ys r y.0 there y.1)

  module _ (laws : TalkLaws T) (law : ClosesLaw) (over : All (λ y. is_over y.node ≡ true) ys) (lists_q lists_p : _)
      (there_q : EachAt (λ r y. get_or lists_q r None ≡ Some y.queries.lists) ys) (there_p : EachAt (λ r y. get_or lists_p r None ≡ Some y.replies.lists) ys)
      (q r : Round) (left_q : IsGatheredRound cap b.shape lists_q q) (left_p : IsGatheredRound cap p.shape lists_p r) where
    left_r : IsGatheredRound cap b.shape lists_p r
    left_r = subst (λ h. IsGatheredRound cap h lists_p r) same left_p

    abbrev made : BankShape
    made = record { dims = dims; cap = cap; slots = b.shape.slots; by_slots = true }

    closed_by : (lists : _) (c : Round) → IsGatheredRound cap b.shape lists c → IsClosed made (logs_of c.sent) (logs_of c.got) c
    closed_by lists c left = record { bank = ap (λ (x : Round). record { dims = x.dims; cap = x.cap; slots = x.slots; by_slots = x.by_slots }) left.round; sent = refl; got = refl; in_order = left.in_order }

    in_order_q : IsRound (slot_round b.shape cap lists_q)
    in_order_q = subst IsRound left_q.round left_q.in_order

    in_order_r : IsRound (slot_round b.shape cap lists_p)
    in_order_r = subst IsRound left_r.round left_r.in_order

    abbrev sides : Sides
    sides = record { asking = logs_of q.sent; asked = logs_of q.got; replying = logs_of r.sent; replied = logs_of r.got }

    -- one rank, for numbers past the last
    any : (y : BiSeatedState S) × (slice_get ys 0 ≡ Some y)
    any = find ys 0 (let positive = ranks_some dims in_order_q.grid.positive in omega (arith, as_many, positive))

    abbrev nth : ℕ → BiSeatedState S
    nth k = get_or ys k any.0

    nth_at : (k : ℕ) → k < ranks dims → slice_get ys k ≡ Some (nth k)
    nth_at k low = slice_get-get_or ys k any.0 (omega (arith, low, as_many))

    abbrev first : S
    first = (came 0 any.0 any.1).start

    abbrev nodes : List (BiState S)
    nodes = map (λ y. y.node) ys

    -- its lists are its seats'
    sent_q : (k : ℕ) → k < ranks dims → starting_at dims k (logs_of q.sent) ≡ posted_on (nth k).queries
    sent_q k low =
        let c = came k (nth k) (nth_at k low) in
        subst (λ n. starting_at dims n (logs_of q.sent) ≡ posted_on (nth k).queries) c.numbers.0
        (left_q.sent (nth k).queries (subst (λ n. get_or lists_q n None ≡ Some (nth k).queries.lists) (sym c.numbers.0) (each_get (λ n (z : BiSeatedState S). get_or lists_q n None ≡ Some z.queries.lists) ys k (nth k) there_q (nth_at k low))))

    got_q : (k : ℕ) → k < ranks dims → ending_at dims k (logs_of q.got) ≡ collected_from (nth k).queries
    got_q k low =
        let c = came k (nth k) (nth_at k low) in
        subst (λ n. ending_at dims n (logs_of q.got) ≡ collected_from (nth k).queries) c.numbers.0
        (left_q.got (nth k).queries (subst (λ n. get_or lists_q n None ≡ Some (nth k).queries.lists) (sym c.numbers.0) (each_get (λ n (z : BiSeatedState S). get_or lists_q n None ≡ Some z.queries.lists) ys k (nth k) there_q (nth_at k low))))

    sent_r : (k : ℕ) → k < ranks dims → starting_at dims k (logs_of r.sent) ≡ posted_on (nth k).replies
    sent_r k low =
        let c = came k (nth k) (nth_at k low) in
        subst (λ n. starting_at dims n (logs_of r.sent) ≡ posted_on (nth k).replies) c.numbers.1
        (left_r.sent (nth k).replies (subst (λ n. get_or lists_p n None ≡ Some (nth k).replies.lists) (sym c.numbers.1) (each_get (λ n (z : BiSeatedState S). get_or lists_p n None ≡ Some z.replies.lists) ys k (nth k) there_p (nth_at k low))))

    got_r : (k : ℕ) → k < ranks dims → ending_at dims k (logs_of r.got) ≡ collected_from (nth k).replies
    got_r k low =
        let c = came k (nth k) (nth_at k low) in
        subst (λ n. ending_at dims n (logs_of r.got) ≡ collected_from (nth k).replies) c.numbers.1
        (left_r.got (nth k).replies (subst (λ n. get_or lists_p n None ≡ Some (nth k).replies.lists) (sym c.numbers.1) (each_get (λ n (z : BiSeatedState S). get_or lists_p n None ≡ Some z.replies.lists) ys k (nth k) there_p (nth_at k low))))

    has_rank : (k : ℕ) → k < ranks dims → HasBiRank T dims k (starts_of askers first k) (nth k).node sides
    has_rank k low =
        let y : BiSeatedState S = nth k in
        let c = came k y (nth_at k low) in
        let w : IsBiRankAtSeats T cap steady c.start y = c.way in
        let mine : starts_of askers first k ≡ c.start = get_or_from_slice_get askers k c.start first c.began in
        record {
          same_dims = w.queries.same_dims ∙ ap (λ (a : BankIdentity). a.shape.dims) c.queries_bank;
          same_rank = w.queries.same_rank ∙ c.numbers.0;
          node =
              subst (λ s. IsBiNode T s y.node (starting_at dims k (logs_of q.sent)) (ending_at dims k (logs_of q.got)) (starting_at dims k (logs_of r.sent)) (ending_at dims k (logs_of r.got))) (sym mine)
              (subst (λ (a : Logs). IsBiNode T c.start y.node a (ending_at dims k (logs_of q.got)) (starting_at dims k (logs_of r.sent)) (ending_at dims k (logs_of r.got))) (sym (sent_q k low))
              (subst (λ (a : Logs). IsBiNode T c.start y.node (posted_on y.queries) a (starting_at dims k (logs_of r.sent)) (ending_at dims k (logs_of r.got))) (sym (got_q k low))
              (subst (λ (a : Logs). IsBiNode T c.start y.node (posted_on y.queries) (collected_from y.queries) a (ending_at dims k (logs_of r.got))) (sym (sent_r k low))
              (subst (λ (a : Logs). IsBiNode T c.start y.node (posted_on y.queries) (collected_from y.queries) (posted_on y.replies) a) (sym (got_r k low)) w.node))));
        }

    -- they are the ranks of an exchange over the closed rounds' logs
    every : AllBiRanks T dims cap b.shape.slots (starts_of askers first) (λ k. (nth k).node) sides
    every =
        record {
          grid = in_order_q.grid;
          queries_keep = subst (λ (x : Round). (l : ℕ) → l < links dims → LinkLaw cap b.shape.slots (logs_of x.sent l) (logs_of x.got l)) (sym left_q.round) in_order_q.each_link;
          replies_keep = subst (λ (x : Round). (l : ℕ) → l < links dims → LinkLaw cap b.shape.slots (logs_of x.sent l) (logs_of x.got l)) (sym left_r.round) in_order_r.each_link;
          each = has_rank;
        }

    node_at : (k : ℕ) → k < ranks dims → slice_get nodes k ≡ Some (nth k).node
    node_at k low = get_map (λ (y : BiSeatedState S). y.node) ys k (nth k) (nth_at k low)

    over_at : (k : ℕ) (n : BiState S) → slice_get nodes k ≡ Some n → is_over n ≡ true
    over_at k n at =
        let y = got_map (λ (z : BiSeatedState S). z.node) ys k n at in
        subst (λ m. is_over m ≡ true) y.2 (all_get (λ (z : BiSeatedState S). is_over z.node ≡ true) ys k y.0 over y.1)

    count : length nodes ≡ ranks dims
    count = length-map ys (λ (y : BiSeatedState S). y.node) ∙ as_many

    -- each has heard what it asked
    pub have_heard : (ends : List S) → ends ≡ askers_of nodes → HaveHeard T askers ends
    have_heard ends is = heard_all T laws law cap dims b.shape.slots steady askers first nodes (λ k. (nth k).node) sides all count node_at every over_at ends is

    shape_of : (seat : BiSeatedState S → SeatView) (a : Logs) → ((k : ℕ) → k < ranks dims → starting_at dims k a ≡ posted_on (seat (nth k))) → ((k : ℕ) → k < ranks dims → (l : ℕ) → IsConveyorShape steady cap (posted_on (seat (nth k)) l)) → (l : ℕ) → l < links dims → IsConveyorShape steady cap (a l)
    shape_of seat a sent shape l below =
        let k : ℕ = sender_at dims l in
        let low : k < ranks dims = (numbered dims l in_order_q.grid below).is_link.sender in
        subst (IsConveyorShape steady cap) (sym (ap (λ (x : Logs). x l) (sent k low)) ∙ starting-own dims k a l refl) (shape k low l)

    -- both closed banks tell the exchange
    pub notified : RecordsExchange T askers made steady q r
    notified =
        told_both T laws law cap dims b.shape.slots steady askers first nodes (λ k. (nth k).node) sides all count node_at every over_at true q r
        (closed_by lists_q q left_q) (closed_by lists_p r left_r)
        (shape_of (λ y. y.queries) (logs_of q.sent) sent_q (λ k low. (came k (nth k) (nth_at k low)).way.queries_shape))
        (shape_of (λ y. y.replies) (logs_of r.sent) sent_r (λ k low. (came k (nth k) (nth_at k low)).way.replies_shape))
