-- The beginning of an exchange and its end.
use Rattle.std.proofs.Common.{◌≡◌, ℕ, zero, suc, ◌+◌, ◌<◌, ◌≤◌, ◌&&◌, Bool, true, false, List, [], ◌∷◌, length, map, get_or, slice_get, Option, Some, None, refl, sym, ap, subst, ◌∙◌, arith}
use Rattle.std.specs.List.{sum_by, list_all}
use Rattle.std.proofs.lemmas.Bool.{true≢false}
use Rattle.std.proofs.lemmas.List.{length-map}
use Rattle.std.proofs.lemmas.Option.{get_or_from_slice_get}
use Rattle.item_buffer.specs.Contents.{Shipped}
use Rattle.list_laws.proofs.Lists.{find, within, get_once, get_map}
use Rattle.route_tensor.specs.Grid.{ranks}
use Rattle.port_bank.specs.Shapes.{IsConveyorShape}
use Rattle.std.proofs.lemmas.List.Sums.{sum_by-cons}
use Rattle.route_tensor.specs.Ends.{reader_at}
use Rattle.route_tensor.proofs.Coordinates.{ranks_some}
use Rattle.port_bank.specs.Logs.{Logs, starting_at, ending_at}
use Rattle.port_bank.specs.Plain.{Bank, Channel, unused_channel, IsBank, sent_of, got_of, empty_bank, round_of_bank}
use Rattle.port_bank.specs.Port.{IsSlots}
use Rattle.port_bank.specs.Round.{Round, IsRound, logs_of}
use Rattle.port_bank.proofs.Closing.{none_sent, none_got, channel-empty}
use Rattle.hop_core.specs.State.{State}
use Rattle.hop_core.specs.declared.phase.Phase.TheVariants.{Working}
use Rattle.convey.specs.Buffers.{in_of, is_complete}
use Rattle.convey.specs.Law.{ClosesLaw}
use Rattle.rank_group.specs.Transcript.{BankShape}
use Rattle.round_program.specs.Talks.{Talk, TalkLaws}
use Rattle.round_program.specs.Replies.{HaveHeard}
use Rattle.query_node.specs.States.{BiState, IsBiNode}
use Rattle.query_node.specs.Ranks.{AllBiRanks}
use Rattle.biconvey.specs.ConveyorsOverBank.{conveyor_in, bi_inbox, AreConveyorsOver}
use Rattle.biconvey.specs.RanksOverBanks.{AreBanks, BiRanksOnBanks, is_over, queries_in, sides_of, bi_turns_of}
use Rattle.biconvey.specs.Drives.{AreAskers, RecordsExchange, AreFreshBiRanks, askers_of}
use Rattle.biconvey.proofs.Swept.{queries_lawful}
use Rattle.biconvey.proofs.Counting.{size, nth, at, all_ranks}
use Rattle.biconvey.proofs.Finished.{starts_of, IsClosed, heard_all, told_both}

slots_some : (slots : ℕ) → IsSlots slots → 0 < slots
unfolding IsSlots
slots_some zero is = absurd (true≢false (sym is))
slots_some (suc n) is = omega arith

no_unread : (dims : List ℕ) (cs : List State) → ((r : ℕ) (c : State) → slice_get cs r ≡ Some c → (l : ℕ) → (in_of c l).parcel.untaken ≡ []) → (l : ℕ) → bi_inbox dims cs l ≡ 0
no_unread dims cs each l = by (slice_get cs (reader_at dims l)) refl where
  by : (o : Option State) → slice_get cs (reader_at dims l) ≡ o → length (in_of (conveyor_in (slice_get cs (reader_at dims l))) l).parcel.untaken ≡ 0
  by None e = ap (λ o. length (in_of (conveyor_in o) l).parcel.untaken) e
  by (Some x) e = ap (λ o. length (in_of (conveyor_in o) l).parcel.untaken) e ∙ ap length (each (reader_at dims l) x e l)

none_at : (dims : List ℕ) (slots l : ℕ) → sent_of (empty_bank dims slots) l ≡ []
none_at dims slots l = ap (λ c. c.sent) (channel-empty _ l)

-- all ranks as an exchange begins, over its banks
pub begun : {S : Type 0} (T : Talk S) (cap : ℕ) (dims : List ℕ) (slots : ℕ) (steady : Bool) (askers : List S) (s : S) (ns : List (BiState S)) → AreFreshBiRanks T dims steady askers ns → AreAskers T (ranks dims) askers → 0 < cap → IsBank cap (empty_bank dims slots)
    → BiRanksOnBanks T dims cap slots steady (starts_of askers s) ns (sides_of (empty_bank dims slots) (empty_bank dims slots))
begun {S} T cap dims slots steady askers s ns fresh all some is =
    let b : Bank = empty_bank dims slots in
    let two : AreBanks cap dims slots b b = record { queries = is; replies = is; queries_dims = refl; replies_dims = refl; queries_slots = refl; replies_slots = refl } in
    let law = queries_lawful cap dims slots b b two in
    let size : length ns ≡ ranks dims = sym (length-map ns (λ (n : BiState S). n.asker)) ∙ (ap length fresh.same ∙ all.size) in
    let no_sent : (r : ℕ) → ◌≡◌ {A = Logs} (starting_at dims r (sent_of b)) (λ l. []) = λ r i l. none_sent dims slots r l i in
    let no_got : (r : ℕ) → ◌≡◌ {A = Logs} (ending_at dims r (got_of b)) (λ l. []) = λ r i l. none_got dims slots r l i in
    let way : (f : BiState S → State) → ((r : ℕ) (n : BiState S) → slice_get ns r ≡ Some n → ((f n).steady ≡ steady) × ((l : ℕ) → (in_of (f n) l).parcel.untaken ≡ [])) → AreConveyorsOver dims cap slots steady (map f ns) (sent_of b) (got_of b) = λ f each.
    record {
      lawful = law;
      all = length-map ns f ∙ size;
      steadies = λ r c from. let x = mapped f r c from in sym (ap (λ (y : State). y.steady) x.2) ∙ (each r x.0 x.1).0;
      shape = λ l. subst (IsConveyorShape steady cap) (sym (none_at dims slots l)) (λ i d below. absurd (omega (arith, below)));
      inboxes = λ l below. let z = no_unread dims (map f ns) (λ r c from m. let x = mapped f r c from in subst (λ (y : State). (in_of y m).parcel.untaken ≡ []) x.2 ((each r x.0 x.1).1 m)) l in omega (arith, z);
    } in
    record {
      queries = way (λ n. n.queries) (λ r n from. let f = fresh.each r n from in (f.new.queries.same_steady, f.new.queries.unread));
      replies = way (λ n. n.replies) (λ r n from. let f = fresh.each r n from in (f.new.replies.same_steady, f.new.replies.unread));
      some = slots_some slots is.counts;
      some_cap = some;
      each = λ r n from.
          let f = fresh.each r n from in
          let own : slice_get askers r ≡ Some n.asker = ap (λ xs. slice_get xs r) (sym fresh.same) ∙ get_map (λ (m : BiState S). m.asker) ns r n from in
          let same : n.asker ≡ starts_of askers s r = sym (get_or_from_slice_get askers r n.asker s own) in
          record {
            same_dims = f.new.queries.same_dims;
            same_rank = f.new.queries.same_rank ∙ f.own_rank;
            node =
                subst (λ t. IsBiNode T t n (starting_at dims r (sent_of b)) (ending_at dims r (got_of b)) (starting_at dims r (sent_of b)) (ending_at dims r (got_of b))) same
                (subst (λ (a : Logs). IsBiNode T n.asker n a (ending_at dims r (got_of b)) a (ending_at dims r (got_of b))) (sym (no_sent r))
                (subst (λ (a : Logs). IsBiNode T n.asker n (λ l. []) a (λ l. []) a) (sym (no_got r)) f.new.node));
          };
    } where
      mapped : (f : BiState S → State) (r : ℕ) (c : State) → slice_get (map f ns) r ≡ Some c → (n : BiState S) × (slice_get ns r ≡ Some n) × (f n ≡ c)
      mapped f r c from =
          let x : (n : BiState S) × (slice_get ns r ≡ Some n) = find ns r (let a = within (map f ns) r c from in let b = length-map ns f in omega (arith, a, b)) in
          (x.0, x.1, get_once (map f ns) r (f x.0) c (get_map f ns r x.0 x.1) from)

-- how many queries there are
pub same_count : {S : Type 0} (T : Talk S) (dims : List ℕ) (steady : Bool) (askers : List S) (ns : List (BiState S)) → AreFreshBiRanks T dims steady askers ns → queries_in T ns ≡ sum_by (λ s. length (T.queries s)) askers
same_count {S} T dims steady askers ns fresh = by ns ∙ ap (sum_by (λ s. length (T.queries s))) fresh.same where
  by : (xs : List (BiState S)) → queries_in T xs ≡ sum_by (λ s. length (T.queries s)) (askers_of xs)
  by [] = refl
  by (x ∷ xs) = sum_by-cons (λ (n : BiState S). length (T.queries n.asker)) x xs ∙ (ap (λ k. length (T.queries x.asker) + k) (by xs) ∙ sym (sum_by-cons (λ s. length (T.queries s)) x.asker (askers_of xs)))

logs_map : (f : Channel → List Shipped) (channels : List Channel) → f unused_channel ≡ [] → (l : ℕ) → logs_of (map f channels) l ≡ f (get_or channels l unused_channel)
logs_map f [] e l = sym e
logs_map f (c ∷ channels) e zero = refl
logs_map f (c ∷ channels) e (suc l) = logs_map f channels e l

module _ {S : Type 0} (T : Talk S) (laws : TalkLaws T) (law : ClosesLaw) (cap : ℕ) (dims : List ℕ) (slots : ℕ) (steady : Bool) (askers : List S) (s : S) (ns : List (BiState S)) (q r : Bank)
    (all : AreAskers T (ranks dims) askers) (banks : AreBanks cap dims slots q r) (w : BiRanksOnBanks T dims cap slots steady (starts_of askers s) ns (sides_of q r)) (over : (k : ℕ) (n : BiState S) → slice_get ns k ≡ Some n → is_over n ≡ true) where
  abbrev starts : ℕ → S
  starts = starts_of askers s

  abbrev node : ℕ → BiState S
  node = nth T laws law dims cap slots steady (starts_of askers s) ns (sides_of q r) w

  node_at : (k : ℕ) → k < ranks dims → slice_get ns k ≡ Some (node k)
  node_at k low = at T laws law dims cap slots steady (starts_of askers s) ns (sides_of q r) w k low

  every : AllBiRanks T dims cap slots starts node (sides_of q r)
  every = all_ranks T laws law dims cap slots steady (starts_of askers s) ns (sides_of q r) w

  all_of : length ns ≡ ranks dims
  all_of = size T laws law dims cap slots steady (starts_of askers s) ns (sides_of q r) w

  -- each has heard what it asked
  pub have_heard : (ends : List S) → ends ≡ askers_of ns → HaveHeard T askers ends
  have_heard ends is = heard_all T laws law cap dims slots steady askers s ns node (sides_of q r) all all_of node_at every over ends is

  made_of : (b : Bank) → b.dims ≡ dims → b.slots ≡ slots → ◌≡◌ {A = BankShape} (record { dims = b.dims; cap = cap; slots = b.slots; by_slots = false }) (record { dims = dims; cap = cap; slots = slots; by_slots = false })
  made_of b ed es = ap (λ ds. record { dims = ds; cap = cap; slots = b.slots; by_slots = false }) ed ∙ ap (λ k. record { dims = dims; cap = cap; slots = k; by_slots = false }) es

  plain_closed : (b : Bank) (c : Round) → b.dims ≡ dims → b.slots ≡ slots → c ≡ round_of_bank cap b → IsRound c → IsClosed (record { dims = dims; cap = cap; slots = slots; by_slots = false }) (sent_of b) (got_of b) c
  plain_closed b c ed es is in_order = subst (IsClosed (record { dims = dims; cap = cap; slots = slots; by_slots = false }) (sent_of b) (got_of b)) (sym is) (record {
    bank = made_of b ed es;
    sent = λ i l. sym (logs_map (λ c. c.sent) b.channels refl l) i;
    got = λ i l. sym (logs_map (λ c. c.got) b.channels refl l) i;
    in_order = subst IsRound is in_order;
  })

  -- both closed banks tell the exchange
  pub notified : (cq cr : Round) → cq ≡ round_of_bank cap q → IsRound cq → cr ≡ round_of_bank cap r → IsRound cr → RecordsExchange T askers (record { dims = dims; cap = cap; slots = slots; by_slots = false }) steady cq cr
  notified cq cr is_q order_q is_r order_r =
      told_both T laws law cap dims slots steady askers s ns node (sides_of q r) all all_of node_at every over false cq cr
      (plain_closed q cq banks.queries_dims banks.queries_slots is_q order_q) (plain_closed r cr banks.replies_dims banks.replies_slots is_r order_r)
      (λ l below. w.queries.shape l) (λ l below. w.replies.shape l)

-- what a drive needs, and what it leaves
module _ {S : Type 0} (T : Talk S) (cap : ℕ) (dims : List ℕ) (slots : ℕ) (steady : Bool) (askers : List S) (ns : List (BiState S)) (q r : Bank) (fresh : AreFreshBiRanks T dims steady askers ns) (all : AreAskers T (ranks dims) askers) (some : 0 < cap)
    (eq : q ≡ empty_bank dims slots) (er : r ≡ empty_bank dims slots) (is : IsBank cap (empty_bank dims slots)) where
  pub first : (s : S) × (slice_get askers 0 ≡ Some s)
  first = find askers 0 (let positive = ranks_some dims is.grid.positive in omega (arith, positive, all.size))

  abbrev pub begins : ℕ → S
  begins = starts_of askers first.0

  pub banks_first : AreBanks cap q.dims q.slots q r
  banks_first =
      subst (λ (x : Bank). AreBanks cap x.dims x.slots x r) (sym eq) (subst (λ (y : Bank). AreBanks cap dims slots (empty_bank dims slots) y) (sym er)
      (record { queries = is; replies = is; queries_dims = refl; replies_dims = refl; queries_slots = refl; replies_slots = refl }))

  pub on_bank_first : BiRanksOnBanks T q.dims cap q.slots steady begins ns (sides_of q r)
  on_bank_first =
      subst (λ (x : Bank). BiRanksOnBanks T x.dims cap x.slots steady begins ns (sides_of x r)) (sym eq)
      (subst (λ (y : Bank). BiRanksOnBanks T dims cap slots steady begins ns (sides_of (empty_bank dims slots) y)) (sym er) (begun T cap dims slots steady askers first.0 ns fresh all some is))

  pub steps_at : (steps steps' : ℕ) → ((steady : Bool) (starts : ℕ → S) → BiRanksOnBanks T q.dims cap q.slots steady starts ns (sides_of q r) → steps' ≤ steps + bi_turns_of q.dims (queries_in T ns)) → steps' ≤ steps + bi_turns_of dims (sum_by (λ s. length (T.queries s)) askers)
  steps_at steps steps' notified =
      subst (λ ds. steps' ≤ steps + bi_turns_of ds (sum_by (λ s. length (T.queries s)) askers)) (ap (λ (x : Bank). x.dims) eq)
      (subst (λ k. steps' ≤ steps + bi_turns_of q.dims k) (same_count T dims steady askers ns fresh) (notified steady begins on_bank_first))

  -- no rank is over as an exchange begins, so each is turned
  none_over : list_all is_over ns ≡ false
  none_over = by ns (λ n at. (fresh.each 0 n at).new.queries.working) (let positive = ranks_some dims is.grid.positive in let e = ap length fresh.same in omega (arith, positive, all.size, e, length-map ns (λ (n : BiState S). n.asker))) where
    by : (xs : List (BiState S)) → ((n : BiState S) → slice_get xs 0 ≡ Some n → n.queries.phase ≡ Working) → 0 < length xs → list_all is_over xs ≡ false
    by [] working some = absurd (omega (arith, some))
    by (x ∷ xs) working some = ap (λ p. (is_complete p && is_complete x.replies.phase) && list_all is_over xs) (working x refl)

  pub fewest_at : (steps steps' : ℕ) → (list_all is_over ns ≡ false → steps + ranks q.dims ≤ steps') → steps + ranks dims ≤ steps'
  fewest_at steps steps' notified = subst (λ ds. steps + ranks ds ≤ steps') (ap (λ (x : Bank). x.dims) eq) (notified none_over)

  pub on_bank_last : (ns' : List (BiState S)) (q' r' : Bank) → ((steady : Bool) (starts : ℕ → S) → BiRanksOnBanks T q.dims cap q.slots steady starts ns (sides_of q r) → BiRanksOnBanks T q.dims cap q.slots steady starts ns' (sides_of q' r')) → BiRanksOnBanks T dims cap slots steady begins ns' (sides_of q' r')
  on_bank_last ns' q' r' notified = subst (λ (x : Bank). BiRanksOnBanks T x.dims cap x.slots steady begins ns' (sides_of q' r')) eq (notified steady begins on_bank_first)

  pub banks_last : (q' r' : Bank) → AreBanks cap q.dims q.slots q' r' → AreBanks cap dims slots q' r'
  banks_last q' r' b = subst (λ (x : Bank). AreBanks cap x.dims x.slots q' r') eq b
