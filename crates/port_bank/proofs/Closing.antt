-- A bank on which nothing was done, and what a bank leaves when it is closed.
use Rattle.std.proofs.Common.{◌≡◌, ℕ, zero, suc, ◌+◌, ◌-◌, ◌^◌, ◌<◌, ◌≤◌, ◌==◌, true, false, cond, min, List, [], ◌∷◌, ◌++◌, map, replicate, length, get_or, take, refl, sym, ap, subst, ◌∙◌, inl, inr, arith}
use Rattle.std.specs.List.{All}
use Rattle.std.proofs.lemmas.Bool.{cases_lt}
use Rattle.std.proofs.lemmas.List.{length-map, length-replicate, map-append, take_more, take_all, length-take-le}
use Rattle.std.proofs.lemmas.List.Elements.{All-nil}
use Rattle.item_buffer.specs.Capacity.{IsCap}
use Rattle.item_buffer.specs.Contents.{Shipped}
use Rattle.list_laws.specs.Counts.{saturated_count}
use Rattle.route_tensor.specs.Grid.{ranks, IsGrid}
use Rattle.route_tensor.specs.Link.{links, link}
use Rattle.route_tensor.proofs.Coordinates.{ranks_some}
use Rattle.route_tensor.proofs.Links.{link_below}
use Rattle.route_tensor.proofs.Ends.{number_ends}
use Rattle.route_tensor.specs.Ends.{hop_at, sender_at, reader_at}
use Rattle.port_bank.specs.Logs.{Logs, lasts, starting_at, ending_at}
use Rattle.port_bank.specs.Flow.{hop_link, flow}
use Rattle.port_bank.specs.Link.{LinkLaw}
use Rattle.port_bank.specs.Relay.{HasFairTags, RelayLaw}
use Rattle.port_bank.specs.Port.{IsSlots}
use Rattle.port_bank.specs.Round.{Round, logs_of, ended_by_all, CloseLaw, IsRound}
use Rattle.port_bank.specs.Plain.{Bank, Channel, unused_channel, sent_of, got_of, empty_bank, round_of_bank, IsBank}
use Rattle.port_bank.proofs.Fronts.{begins_nil}
use Rattle.port_bank.proofs.Links.{link_unused}
use Rattle.port_bank.proofs.Pipeline.{Keeps, arrives_in_order, arrives_whole}
use Rattle.port_bank.proofs.Routes.{link-on_route}

-- who sent nothing keeps the relay law
pub law_nothing : (dims : List ℕ) (r : ℕ) (got : Logs) → RelayLaw dims r (λ l. []) got
law_nothing dims r got = record {
  fair = λ l a b. All-nil (HasFairTags dims (hop_at dims l));
  begins = λ s d h e p. begins_nil (flow dims got s d h e);
  closed = λ l m e a b x y z w. absurd (omega arith);
  whole = λ s d h e p w. absurd (omega arith);
}

pub channel-empty : (n l : ℕ) → get_or (replicate n unused_channel) l unused_channel ≡ unused_channel
channel-empty zero l = refl
channel-empty (suc n) zero = refl
channel-empty (suc n) (suc l) = channel-empty n l

pub empty_links : (cap slots : ℕ) (dims : List ℕ) (l : ℕ) → LinkLaw cap slots (sent_of (empty_bank dims slots) l) (got_of (empty_bank dims slots) l)
empty_links cap slots dims l =
    let sent : [] ≡ sent_of (empty_bank dims slots) l = ap (λ (c : Channel). c.sent) (sym (channel-empty (links dims) l)) in
    let got : [] ≡ got_of (empty_bank dims slots) l = ap (λ (c : Channel). c.got) (sym (channel-empty (links dims) l)) in
    subst (λ x. LinkLaw cap slots (sent_of (empty_bank dims slots) l) x) got (subst (λ x. LinkLaw cap slots x []) sent (link_unused cap slots))

pub empty_is_bank : (cap slots : ℕ) (dims : List ℕ) → IsCap cap → IsGrid dims → IsSlots slots → IsBank cap (empty_bank dims slots)
empty_is_bank cap slots dims is_cap g counts =
    let sent : ◌≡◌ {A = Logs} (λ l. []) (sent_of (empty_bank dims slots)) = λ i l. (sym (channel-empty (links dims) l) i).sent in
    record {
      is_cap = is_cap;
      grid = g;
      counts = counts;
      number = length-replicate (links dims) unused_channel;
      each_link = λ l h. empty_links cap slots dims l;
      each_rank = λ r h. subst (λ f. RelayLaw dims r f (got_of (empty_bank dims slots))) sent (law_nothing dims r (got_of (empty_bank dims slots)));
    }

-- before anything is done a rank has sent nothing and got nothing, which keeps the relay law
pub none_sent : (dims : List ℕ) (slots r l : ℕ) → starting_at dims r (sent_of (empty_bank dims slots)) l ≡ []
none_sent dims slots r l =
    ap (λ (c : Channel). cond (sender_at dims l == r) c.sent []) (channel-empty (links dims) l) ∙ elim (sender_at dims l == r) as (λ b. cond {A = List Shipped} b [] [] ≡ []) [ true ↦ refl | false ↦ refl ]

pub none_got : (dims : List ℕ) (slots r l : ℕ) → ending_at dims r (got_of (empty_bank dims slots)) l ≡ []
none_got dims slots r l =
    ap (λ (c : Channel). cond (reader_at dims l == r) c.got []) (channel-empty (links dims) l) ∙ elim (reader_at dims l == r) as (λ b. cond {A = List Shipped} b [] [] ≡ []) [ true ↦ refl | false ↦ refl ]

pub start_law : (dims : List ℕ) (slots r : ℕ) (got : Logs) → RelayLaw dims r (starting_at dims r (sent_of (empty_bank dims slots))) got
start_law dims slots r got =
    let none : ◌≡◌ {A = Logs} (starting_at dims r (sent_of (empty_bank dims slots))) (λ l. []) = λ i l. none_sent dims slots r l i in
    subst (λ f. RelayLaw dims r f got) (sym none) (law_nothing dims r got)

-- what every link has ended, each has
pub ended_by_each : (logs : List (List Shipped)) (l e : ℕ) → l < length logs → e < ended_by_all logs → e < lasts (get_or logs l [])
ended_by_each [] l e h k = absurd (omega arith)
ended_by_each (log ∷ []) zero e h k = k
ended_by_each (log ∷ []) (suc l) e h k = absurd (omega arith)
ended_by_each (log ∷ next ∷ logs) zero e h k = omega arith
ended_by_each (log ∷ next ∷ logs) (suc l) e h k = ended_by_each (next ∷ logs) l e (omega arith) (omega arith)

-- one link more
pub ended_more : (logs : List (List Shipped)) (log : List Shipped) → 0 < length logs → ended_by_all (logs ++ log ∷ []) ≡ min (ended_by_all logs) (lasts log)
ended_more [] log h = absurd (omega arith)
ended_more (first ∷ []) log h = refl
ended_more (first ∷ next ∷ logs) log h = let e = ended_more (next ∷ logs) log (omega arith) in omega (arith, e)

-- a round whose links and ranks keep their laws meets the close law
pub close_law : (round : Round) → Keeps round.dims (logs_of round.sent) (logs_of round.got) → length round.got ≡ links round.dims → CloseLaw round
close_law round k number = record {
  begins = λ e s d from to. arrives_in_order round.dims (logs_of round.sent) (logs_of round.got) k s d e from to;
  ended = λ e s d from to h. arrives_whole round.dims (logs_of round.sent) (logs_of round.got) k s d e from to h;
  whole = λ e s d from to h.
      let some = k.grid.some in
      let last : hop_link round.dims s d (length round.dims) < links round.dims = link-on_route round.dims s d (length round.dims) k.grid from to some (omega arith) in
      arrives_whole round.dims (logs_of round.sent) (logs_of round.got) k s d e from to (ended_by_each round.got (hop_link round.dims s d (length round.dims)) e (omega arith) h);
}

-- logs by the map of the channels
logs-map : (f : Channel → List Shipped) (channels : List Channel) → f unused_channel ≡ [] → (l : ℕ) → logs_of (map f channels) l ≡ f (get_or channels l unused_channel)
logs-map f [] e l = sym e
logs-map f (c ∷ channels) e zero = refl
logs-map f (c ∷ channels) e (suc l) = logs-map f channels e l

pub closed_is_round : (cap : ℕ) (b : Bank) → IsBank cap b → IsRound (round_of_bank cap b)
closed_is_round cap b is =
    let sent : sent_of b ≡ logs_of (map (λ c. c.sent) b.channels) = λ i l. sym (logs-map (λ c. c.sent) b.channels refl l) i in
    let got : got_of b ≡ logs_of (map (λ c. c.got) b.channels) = λ i l. sym (logs-map (λ c. c.got) b.channels refl l) i in
    let links' : (l : ℕ) → l < links b.dims → LinkLaw cap b.slots (logs_of (map (λ c. c.sent) b.channels) l) (logs_of (map (λ c. c.got) b.channels) l) =
    λ l h. subst (λ f. LinkLaw cap b.slots (logs_of (map (λ c. c.sent) b.channels) l) (f l)) got (subst (λ f. LinkLaw cap b.slots (f l) (got_of b l)) sent (is.each_link l h)) in
    let number : length (map (λ c. c.got) b.channels) ≡ links b.dims = length-map b.channels (λ c. c.got) ∙ is.number in
    record {
      grid = is.grid;
      counts = is.counts;
      all_sent = length-map b.channels (λ c. c.sent) ∙ is.number;
      all_got = number;
      each_link = links';
      fair = λ l h.
          let from : sender_at b.dims l < ranks b.dims = (number_ends b.dims l is.grid h).link.sender in
          subst (λ f. All (HasFairTags b.dims (hop_at b.dims l)) (f l)) sent ((is.each_rank (sender_at b.dims l) from).fair l h refl);
      in_order = close_law (round_of_bank cap b) (record {
        grid = is.grid;
        fronts = λ l h. (links' l h).begins;
        relays = λ r h. subst (λ f. RelayLaw b.dims r (logs_of (map (λ c. c.sent) b.channels)) f) got (subst (λ f. RelayLaw b.dims r f (got_of b)) sent (is.each_rank r h));
      }) number;
    }

-- a grid has links
pub some_links : (dims : List ℕ) → IsGrid dims → 0 < links dims
some_links dims g =
    let rank : 0 < ranks dims = ranks_some dims g.positive in
    let below : link dims 1 0 0 < links dims = link_below dims 1 0 0 g (record { first_hop = omega arith; last_hop = g.some; sender = rank; reader = rank; agree = λ i ne. refl }) in
    omega arith

counted_min : (m n : ℕ) → min (saturated_count m) (saturated_count n) ≡ saturated_count (min m n)
counted_min m n = omega arith

-- the least of the first links, with one link more
pub least_more : (channels : List Channel) (i least next : ℕ) (c : Channel) → i < length channels → c ≡ get_or channels i c
    → (i ≡ 0 → least ≡ 2 ^ 64 - 1) → (0 < i → least ≡ saturated_count (ended_by_all (map (λ x. x.got) (take i channels)))) → next ≡ saturated_count (lasts c.got)
    → min least next ≡ saturated_count (ended_by_all (map (λ x. x.got) (take (i + 1) channels)))
least_more channels i least next c within read none some is =
    let grown : map (λ x. x.got) (take (i + 1) channels) ≡ map (λ x. x.got) (take i channels) ++ c.got ∷ [] =
    ap (map (λ x. x.got)) (take_more channels i c within) ∙ (map-append (λ x. x.got) (take i channels) (get_or channels i c ∷ [])
    ∙ ap (λ (x : Channel). map (λ y. y.got) (take i channels) ++ x.got ∷ []) (sym read)) in
    let held : length (map (λ x. x.got) (take i channels)) ≡ i = length-map (take i channels) (λ x. x.got) ∙ length-take-le i channels (omega arith) in
    let fold' = ended_more (map (λ x. x.got) (take i channels)) c.got in
    elim (cases_lt 0 i) [
      | inl later ↦
          ap (λ m. min m next) (some later) ∙ (ap (min (saturated_count (ended_by_all (map (λ x. x.got) (take i channels))))) is
          ∙ (counted_min (ended_by_all (map (λ x. x.got) (take i channels))) (lasts c.got) ∙ (ap saturated_count (sym (fold' (omega arith))) ∙ ap (λ logs. saturated_count (ended_by_all logs)) (sym grown))))
      | inr first ↦
          let zero' : i ≡ 0 = omega arith in
          let start : map (λ x. x.got) (take i channels) ≡ [] = ap (λ m. map (λ x. x.got) (take m channels)) zero' in
          let alone : ended_by_all (map (λ x. x.got) (take i channels) ++ c.got ∷ []) ≡ lasts c.got = ap (λ (xs : List (List Shipped)). ended_by_all (xs ++ c.got ∷ [])) start in
          let top : least ≡ 2 ^ 64 - 1 = none zero' in
          let low : min least next ≡ next = omega (arith, top, is) in
          low ∙ (is ∙ (ap saturated_count (sym alone) ∙ ap (λ logs. saturated_count (ended_by_all logs)) (sym grown)))
    ]

-- and of all of them
pub least_all : (channels : List Channel) (i least : ℕ) → 0 < length channels → length channels ≤ i → (0 < i → least ≡ saturated_count (ended_by_all (map (λ x. x.got) (take i channels))))
    → least ≡ saturated_count (ended_by_all (map (λ x. x.got) channels))
least_all channels i least some all is = is (omega arith) ∙ ap (λ xs. saturated_count (ended_by_all (map (λ x. x.got) xs))) (take_all i channels all)
