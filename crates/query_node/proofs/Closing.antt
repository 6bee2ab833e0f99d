-- All ranks of an exchange: what each has heard, at every moment and at the end.
use Rattle.std.proofs.Common.{◌≡◌, ℕ, ◌+◌, ◌<◌, true, cond, List, take, sym, ap, subst, ◌∙◌, arith}
use Rattle.route_tensor.specs.Grid.{ranks}
use Rattle.list_laws.specs.Lists.{IsPrefix}
use Rattle.port_bank.specs.Logs.{starting_at, ending_at}
use Rattle.port_bank.specs.Machine.{Part, EpochsClose, completed_of}
use Rattle.port_bank.proofs.Fronts.{begins_trans}
use Rattle.hop_core.specs.declared.phase.Phase.{Phase}
use Rattle.hop_core.specs.declared.phase.Phase.TheVariants.{Complete}
use Rattle.convey.specs.Buffers.{buffers_of, is_complete}
use Rattle.convey.specs.Law.{AgreeTogether, ClosesLaw}
use Rattle.convey.specs.Parts.{part_of}
use Rattle.round_program.specs.Canonical.{items_of}
use Rattle.round_program.specs.Talks.{Talk, TalkLaws}
use Rattle.round_program.specs.Replies.{asks_of, queries_to, answers, replies_of, after_answers}
use Rattle.query_node.specs.States.{BiState, Sides}
use Rattle.query_node.specs.Ranks.{AllBiRanks, HearsInOrder, OrderLaw, AllComplete, EndLaw}
use Rattle.query_node.proofs.Theorem.{answers_begin}
use Rattle.query_node.proofs.Orders.{all_heard}
use Rattle.query_node.proofs.Offering.{queries_below}
use Rattle.query_node.proofs.Turned.{done_of_complete}
use Rattle.query_node.proofs.Taken.{items_begin, take_whole}

module _ {S : Type 0} (T : Talk S) (laws : TalkLaws T) (law : ClosesLaw) (dims : List ℕ) (cap slots : ℕ) (starts : ℕ → S) (ns : ℕ → BiState S) (s : Sides) (w : AllBiRanks T dims cap slots starts ns s) where
  queries_all : AgreeTogether dims cap slots (λ r. buffers_of (ns r).queries) s.asking s.asked
  queries_all = record {
    grid = w.grid;
    links_keep = w.queries_keep;
    same_dims = λ r b. (w.each r b).same_dims;
    same_rank = λ r b. (w.each r b).same_rank;
    sound = λ r b. (w.each r b).node.asks.sound;
    agree = λ r b. (w.each r b).node.asks.agrees;
  }

  dims_replies : (r : ℕ) → r < ranks dims → (ns r).replies.dims ≡ dims
  dims_replies r b = (w.each r b).node.same_dims ∙ (w.each r b).same_dims

  replies_all : AgreeTogether dims cap slots (λ r. buffers_of (ns r).replies) s.replying s.replied
  replies_all = record {
    grid = w.grid;
    links_keep = w.replies_keep;
    same_dims = dims_replies;
    same_rank = λ r b. (w.each r b).node.same_rank ∙ (w.each r b).same_rank;
    sound = λ r b. (w.each r b).node.replies.sound;
    agree = λ r b. (w.each r b).node.replies.agrees;
  }

  abbrev ask : ℕ → Part
  ask r = part_of (buffers_of (ns r).queries) (starting_at dims r s.asking) (ending_at dims r s.asked)

  abbrev reply : ℕ → Part
  reply r = part_of (buffers_of (ns r).replies) (starting_at dims r s.replying) (ending_at dims r s.replied)

  pub queries_close : EpochsClose (ranks dims) ask
  queries_close = law dims cap slots (λ r. buffers_of (ns r).queries) s.asking s.asked queries_all

  pub replies_close : EpochsClose (ranks dims) reply
  replies_close = law dims cap slots (λ r. buffers_of (ns r).replies) s.replying s.replied replies_all

  -- what a rank pushed of its queries
  pub pushed_of : (r d : ℕ) → r < ranks dims → d < ranks dims → (ask r).pushed 0 d ≡ items_of d (take (ns r).next (asks_of T (starts r)))
  pushed_of r d b c =
      let n = (w.each r b).node in
      ap (λ e. (ask r).pushed e d) (sym n.asks.first) ∙ n.pushed d (subst (λ (ds : List ℕ). d < ranks ds) (sym (w.each r b).same_dims) c)

  -- and of its answers
  pub replied_of : (d r : ℕ) → d < ranks dims → r < ranks dims → (reply d).pushed 0 r ≡ answers T (starts d) r ((ask d).pulled 0 r)
  replied_of d r b c =
      let n = (w.each d b).node in
      ap (λ e. (reply d).pushed e r) (sym n.replies.first)
      ∙ (n.answered r (subst (λ (ds : List ℕ). r < ranks ds) (sym (w.each d b).same_dims) c) ∙ ap (λ e. answers T (starts d) r ((ask d).pulled e r)) n.asks.first)

  pub in_order : HearsInOrder T dims starts ns s
  in_order = record {
    begins = λ r d b c.
        let asked : IsPrefix ((ask d).pulled 0 r) (queries_to T (starts r) d) =
        begins_trans ((ask d).pulled 0 r) ((ask r).pushed 0 d) (queries_to T (starts r) d) (queries_close.begins d r 0 c b)
        (subst (λ xs. IsPrefix xs (queries_to T (starts r) d)) (sym (pushed_of r d b c)) (items_begin d (ns r).next (asks_of T (starts r)))) in
        begins_trans ((reply r).pulled 0 d) ((reply d).pushed 0 r) (replies_of T starts d r) (replies_close.begins r d 0 b c)
        (subst (λ xs. IsPrefix xs (replies_of T starts d r)) (sym (replied_of d r c b)) (answers_begin T (starts d) r ((ask d).pulled 0 r) (queries_to T (starts r) d) asked));
    state = λ r b. (w.each r b).node.heard.state;
  }

  -- at the end
  module _ (over : AllComplete dims ns) where
    done : (r : ℕ) → r < ranks dims → (ns r).queries.done ≡ true
    done r b = done_of_complete (ns r).queries.phase (ns r).queries.done (w.each r b).node.asks.working (over.queries r b)

    completed : (e : ℕ) (p : Phase) → p ≡ Complete → e < cond (is_complete p) (e + 1) e
    completed e p is = subst (λ b. e < cond b (e + 1) e) (sym (ap is_complete is)) (omega arith)

    pub ask_over : (r : ℕ) → r < ranks dims → 0 < completed_of (ask r)
    ask_over r b = subst (λ e. e < completed_of (ask r)) (w.each r b).node.asks.first (completed (ns r).queries.epoch (ns r).queries.phase (over.queries r b))

    reply_over : (r : ℕ) → r < ranks dims → 0 < completed_of (reply r)
    reply_over r b = subst (λ e. e < completed_of (reply r)) (w.each r b).node.replies.first (completed (ns r).replies.epoch (ns r).replies.phase (over.replies r b))

    pub all_asked : (r d : ℕ) → r < ranks dims → d < ranks dims → (ask r).pushed 0 d ≡ queries_to T (starts r) d
    all_asked r d b c = pushed_of r d b c ∙ ap (items_of d) (take_whole (ns r).next (asks_of T (starts r)) ((w.each r b).node.all_pushed (done r b)))

    pub all_replied : (r d : ℕ) → r < ranks dims → d < ranks dims → (reply r).pulled 0 d ≡ replies_of T starts d r
    all_replied r d b c =
        replies_close.whole r d 0 b c (reply_over r b)
        ∙ (replied_of d r c b ∙ ap (answers T (starts d) r) (queries_close.whole d r 0 c b (ask_over d c) ∙ all_asked r d b c))

    pub all_answered : (r : ℕ) → r < ranks dims → (ns r).asker ≡ after_answers T starts r
    all_answered r b =
        let n = (w.each r b).node in
        n.heard.state
        ∙ all_heard T starts (ranks dims) r (starts r) 0 (T.queries (starts r)) ((reply r).pulled 0)
        (queries_below T laws (starts r) (ranks dims) n.heard.valid (n.all_ranks ∙ ap ranks (w.each r b).same_dims)) (λ d c. all_replied r d b c)

pub order_law : {S : Type 0} (T : Talk S) → TalkLaws T → ClosesLaw → OrderLaw T
order_law T laws law dims cap slots starts ns s w = in_order T laws law dims cap slots starts ns s w

pub end_law : {S : Type 0} (T : Talk S) → TalkLaws T → ClosesLaw → EndLaw T
end_law T laws law dims cap slots starts ns s w over r b = all_answered T laws law dims cap slots starts ns s w over r b
