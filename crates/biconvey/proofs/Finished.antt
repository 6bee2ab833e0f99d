-- An exchange of which all ranks are complete, over the lists of any two banks: what is heard, and
-- what the closed rounds tell.
use Rattle.std.proofs.Common.{◌≡◌, ℕ, suc, ◌<◌, Bool, true, List, [], ◌∷◌, length, get_or, slice_get, slice_index_or, Some, All, refl, sym, ap, subst, ◌∙◌, arith}
use Rattle.std.proofs.lemmas.List.{length-map}
use Rattle.std.proofs.lemmas.Option.{get_or_from_slice_get, slice_get-get_or}
use Rattle.bale_items.specs.declared.item.Item.{Item}
use Rattle.list_laws.proofs.Lists.{within, get_map, all_head, all_tail}
use Rattle.route_tensor.specs.Grid.{ranks, IsGrid}
use Rattle.route_tensor.specs.Link.{links}
use Rattle.port_bank.specs.Link.{LinkLaw}
use Rattle.port_bank.specs.Shapes.{IsConveyorShape}
use Rattle.port_bank.specs.Logs.{Logs, starting_at, ending_at}
use Rattle.port_bank.specs.Round.{Round, IsRound, logs_of}
use Rattle.hop_core.specs.State.{State}
use Rattle.convey.specs.Buffers.{buffers_of, is_complete}
use Rattle.convey.specs.Law.{ClosesLaw}
use Rattle.convey.specs.Parts.{part_of}
use Rattle.rank_group.specs.Transcript.{BankShape}
use Rattle.round_program.specs.Talks.{Talk, TalkLaws}
use Rattle.round_program.specs.Replies.{answers, answered_from, HaveHeard}
use Rattle.query_node.specs.States.{BiState, Sides}
use Rattle.query_node.specs.Ranks.{AllBiRanks, AllComplete}
use Rattle.biconvey.specs.RanksOverBanks.{is_over}
use Rattle.biconvey.specs.Drives.{AreAskers, queries_of, answers_of, queries_by, replies_by, RecordsOneWay, RecordsExchange, askers_of}
use Rattle.query_node.proofs.Closing.{all_asked, replied_of, queries_close, all_answered, ask_over}
use Rattle.biconvey.proofs.Driven.{over_phases}
use Rattle.query_node.proofs.Offering.{queries_below}
use Rattle.biconvey.proofs.Telling.{IsDone, tells_way}

-- the asker of each rank; of no rank some other
abbrev pub starts_of : {S : Type 0} → List S → S → ℕ → S
starts_of askers s r = get_or askers r s

-- the answers of ranks that there are don't depend on others
answered_alike : {S : Type 0} (T : Talk S) (a b : ℕ → S) (p r : ℕ) (s : S) (i : ℕ) (qs : List (ℕ × ℕ)) → All (λ (q : ℕ × ℕ). q.0 < p) qs → ((d : ℕ) → d < p → a d ≡ b d) → answered_from T a r s i qs ≡ answered_from T b r s i qs
answered_alike T a b p r s i [] low same = refl
answered_alike T a b p r s i (q ∷ qs) low same =
    ap (λ t. answered_from T a r (T.heard s i (T.answer t r q.1)) (suc i) qs) (same q.0 (all_head (λ (q : ℕ × ℕ). q.0 < p) q qs low))
    ∙ answered_alike T a b p r (T.heard s i (T.answer (b q.0) r q.1)) (suc i) qs (all_tail (λ (q : ℕ × ℕ). q.0 < p) q qs low) same

-- what is known of one way over its bank
record Facts (cap slots : ℕ) (steady : Bool) (cs : ℕ → State) (items : ℕ → ℕ → List Item) (ds : List ℕ) (a g : Logs) : Type 0 where
  grid : IsGrid ds
  links_keep : (l : ℕ) → l < links ds → LinkLaw cap slots (a l) (g l)
  shape : (l : ℕ) → l < links ds → IsConveyorShape steady cap (a l)
  each : (k : ℕ) → k < ranks ds → IsDone ds k (cs k) a g
  pushes : (k d : ℕ) → k < ranks ds → d < ranks ds → (part_of (buffers_of (cs k)) (starting_at ds k a) (ending_at ds k g)).pushed 0 d ≡ items k d

-- a closed bank, which was made so, with these lists
pub record IsClosed (made : BankShape) (a g : Logs) (c : Round) : Type 0 where
  pub bank : record { dims = c.dims; cap = c.cap; slots = c.slots; by_slots = c.by_slots } ≡ made
  pub sent : ◌≡◌ {A = Logs} a (logs_of c.sent)
  pub got : ◌≡◌ {A = Logs} g (logs_of c.got)
  pub in_order : IsRound c

module _ {S : Type 0} (T : Talk S) (laws : TalkLaws T) (law : ClosesLaw) (cap : ℕ) (dims : List ℕ) (slots : ℕ) (steady : Bool) (askers : List S) (s : S) (ns : List (BiState S)) (node : ℕ → BiState S) (sides : Sides)
    (all : AreAskers T (ranks dims) askers) (count : length ns ≡ ranks dims) (node_at : (k : ℕ) → k < ranks dims → slice_get ns k ≡ Some (node k))
    (every : AllBiRanks T dims cap slots (starts_of askers s) node sides) (over : (k : ℕ) (n : BiState S) → slice_get ns k ≡ Some n → is_over n ≡ true) where
  abbrev starts : ℕ → S
  starts = starts_of askers s

  complete : AllComplete dims node
  complete = record {
    queries = λ k low. (over_phases (node k) (over k (node k) (node_at k low))).0;
    replies = λ k low. (over_phases (node k) (over k (node k) (node_at k low))).1;
  }

  start_at : (k : ℕ) → k < ranks dims → slice_get askers k ≡ Some (starts k)
  start_at k low = slice_get-get_or askers k s (omega (arith, low, all.size))

  -- each has heard what it asked
  pub heard_all : (ends : List S) → ends ≡ askers_of ns → HaveHeard T askers ends
  heard_all ends is = record {
    size = ap length is ∙ (length-map ns (λ (n : BiState S). n.asker) ∙ (count ∙ sym all.size));
    each = λ k t from.
        let low : k < ranks dims = omega (arith, within askers k t from, all.size) in
        let mine : starts k ≡ t = get_or_from_slice_get askers k t s from in
        let alike : (d : ℕ) → d < ranks dims → starts d ≡ slice_index_or askers d t = λ d b. get_or_from_slice_get askers d (slice_index_or askers d t) s (slice_get-get_or askers d t (omega (arith, b, all.size))) in
        let n = every.each k low in
        let heard = all_answered T laws law dims cap slots starts node sides every complete k low in
        let below = queries_below T laws (starts k) (ranks dims) n.node.heard.valid (n.node.all_ranks ∙ ap ranks n.same_dims) in
        ap (λ xs. slice_get xs k) is ∙ (get_map (λ (m : BiState S). m.asker) ns k (node k) (node_at k low)
        ∙ ap Some (heard ∙ (answered_alike T starts (λ d. slice_index_or askers d t) (ranks dims) k (starts k) 0 (T.queries (starts k)) below alike
        ∙ ap (λ u. answered_from T (λ d. slice_index_or askers d t) k u 0 (T.queries u)) (alike k low))));
  }

  done_queries : (k : ℕ) → k < ranks dims → IsDone dims k (node k).queries sides.asking sides.asked
  done_queries k low = let n = every.each k low in record { same_dims = n.same_dims; same_rank = n.same_rank; first = n.node.asks.first; full = ap is_complete (complete.queries k low); sound = n.node.asks.sound; agrees = n.node.asks.agrees }

  done_replies : (k : ℕ) → k < ranks dims → IsDone dims k (node k).replies sides.replying sides.replied
  done_replies k low = let n = every.each k low in record { same_dims = n.node.same_dims ∙ n.same_dims; same_rank = n.node.same_rank ∙ n.same_rank; first = n.node.replies.first; full = ap is_complete (complete.replies k low); sound = n.node.replies.sound; agrees = n.node.replies.agrees }

  asked_all : (k d : ℕ) → k < ranks dims → d < ranks dims → (part_of (buffers_of (node k).queries) (starting_at dims k sides.asking) (ending_at dims k sides.asked)).pushed 0 d ≡ queries_by T askers k d
  asked_all k d low to = all_asked T laws law dims cap slots starts node sides every complete k d low to ∙ ap (λ o. queries_of T o d) (sym (start_at k low))

  replied_all : (d k : ℕ) → d < ranks dims → k < ranks dims → (part_of (buffers_of (node d).replies) (starting_at dims d sides.replying) (ending_at dims d sides.replied)).pushed 0 k ≡ replies_by T askers d k
  replied_all d k to low =
      replied_of T laws law dims cap slots starts node sides every d k to low
      ∙ (ap (answers T (starts d) k) ((queries_close T laws law dims cap slots starts node sides every).whole d k 0 to low (ask_over T laws law dims cap slots starts node sides every complete d to) ∙ asked_all k d low to)
      ∙ ap (λ o. answers_of T o k (queries_by T askers k d)) (sym (start_at d to)))

  -- one closed bank tells its way
  module _ (by_slots : Bool) (a g : Logs) (cs : ℕ → State) (items : ℕ → ℕ → List Item) (c : Round) (closed : IsClosed (record { dims = dims; cap = cap; slots = slots; by_slots = by_slots }) a g c)
      (keep : (l : ℕ) → l < links dims → LinkLaw cap slots (a l) (g l)) (shape : (l : ℕ) → l < links dims → IsConveyorShape steady cap (a l)) (each : (k : ℕ) → k < ranks dims → IsDone dims k (cs k) a g)
      (pushes : (k d : ℕ) → k < ranks dims → d < ranks dims → (part_of (buffers_of (cs k)) (starting_at dims k a) (ending_at dims k g)).pushed 0 d ≡ items k d) where
    facts : Facts cap slots steady cs items c.dims (logs_of c.sent) (logs_of c.got)
    facts = subst (λ ds. Facts cap slots steady cs items ds (logs_of c.sent) (logs_of c.got)) (sym (ap (λ (m : BankShape). m.dims) closed.bank))
        (subst (λ (b : Logs). Facts cap slots steady cs items dims b (logs_of c.got)) closed.sent
        (subst (λ (b : Logs). Facts cap slots steady cs items dims a b) closed.got (record { grid = every.grid; links_keep = keep; shape = shape; each = each; pushes = pushes })))

    way_told : RecordsOneWay (record { dims = dims; cap = cap; slots = slots; by_slots = by_slots }) steady items c
    way_told = tells_way c cap slots steady cs facts.grid facts.links_keep closed.in_order.in_order facts.shape facts.each (record { dims = dims; cap = cap; slots = slots; by_slots = by_slots }) items closed.bank (ap (λ (m : BankShape). m.cap) closed.bank) facts.pushes

  -- both closed banks tell the exchange
  pub told_both : (by_slots : Bool) (q r : Round) → IsClosed (record { dims = dims; cap = cap; slots = slots; by_slots = by_slots }) sides.asking sides.asked q → IsClosed (record { dims = dims; cap = cap; slots = slots; by_slots = by_slots }) sides.replying sides.replied r
      → ((l : ℕ) → l < links dims → IsConveyorShape steady cap (sides.asking l)) → ((l : ℕ) → l < links dims → IsConveyorShape steady cap (sides.replying l))
      → RecordsExchange T askers (record { dims = dims; cap = cap; slots = slots; by_slots = by_slots }) steady q r
  told_both by_slots q r is_q is_r shape_q shape_r = record {
    asking = way_told by_slots sides.asking sides.asked (λ k. (node k).queries) (queries_by T askers) q is_q every.queries_keep shape_q done_queries asked_all;
    replying = way_told by_slots sides.replying sides.replied (λ k. (node k).replies) (replies_by T askers) r is_r every.replies_keep shape_r done_replies replied_all;
  }
