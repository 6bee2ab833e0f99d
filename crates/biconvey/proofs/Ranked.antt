-- What the turn of a rank leaves over two plain banks.
use Rattle.std.proofs.Common.{◌≡◌, ℕ, ◌<◌, List, sym, ap, subst, ◌∙◌}
use Rattle.route_tensor.specs.Link.{links}
use Rattle.route_tensor.specs.Ends.{sender_at, reader_at}
use Rattle.port_bank.specs.Logs.{starting_at, ending_at}
use Rattle.port_bank.specs.Port.{Others}
use Rattle.port_bank.specs.Calls.{Call}
use Rattle.port_bank.specs.Plain.{Bank, sent_of, got_of, view_of}
use Rattle.round_program.specs.Talks.{Talk}
use Rattle.query_node.specs.States.{BiState, Sides, IsBiNode}
use Rattle.query_node.specs.Ranks.{HasBiRank}
use Rattle.query_node.specs.Turns.{TurnsBoth, IsStuckIfStill}
use Rattle.biconvey.specs.RanksOverBanks.{AfterBiRank, sides_of}

-- what a turn tells over the port of rank a of the bank q and that of rank b of the bank r; the
-- ports after it are those of a' and b', and the lists are the calls that the ports noted
pub record PortTurns {S : Type 0} (T : Talk S) (cap : ℕ) (n n' : BiState S) (k k' j j' : List Call) (q : Bank) (a : ℕ) (q' : Bank) (a' : ℕ) (r : Bank) (b : ℕ) (r' : Bank) (b' : ℕ) : Type 0 where
  pub turns : TurnsBoth cap T n n' (view_of a q k) (view_of a' q' k') (view_of b r j) (view_of b' r' j')
  pub stuck : IsStuckIfStill T n n' (view_of a q k) (view_of a' q' k') (view_of b r j) (view_of b' r' j')

abbrev at : List ℕ → ℕ → Bank → Bank
at dims slots b = record { dims = dims; slots = slots; channels = b.channels }

is_at : (dims : List ℕ) (slots : ℕ) (b : Bank) → b.dims ≡ dims → b.slots ≡ slots → b ≡ at dims slots b
is_at dims slots b ed es = ap (λ d. record { dims = d; slots = b.slots; channels = b.channels }) ed ∙ ap (λ k. record { dims = dims; slots = k; channels = b.channels }) es

pub after_turn : {S : Type 0} (T : Talk S) (dims : List ℕ) (cap slots number : ℕ) (n n' : BiState S) (k k' j j' : List Call) (q : Bank) (a : ℕ) (q' : Bank) (a' : ℕ) (r : Bank) (b : ℕ) (r' : Bank) (b' : ℕ)
    → q.dims ≡ dims → q.slots ≡ slots → r.dims ≡ dims → r.slots ≡ slots → q'.dims ≡ q.dims → q'.slots ≡ q.slots → r'.dims ≡ r.dims → r'.slots ≡ r.slots → a ≡ number → a' ≡ a → b ≡ number → b' ≡ b
    → n.queries.dims ≡ dims → n.queries.rank ≡ number → n.replies.dims ≡ dims → n.replies.rank ≡ number → PortTurns T cap n n' k k' j j' q a q' a' r b r' b'
    → AfterBiRank T dims cap slots number n n' (sides_of q r) (sides_of q' r')
after_turn T dims cap slots number n n' k k' j j' q a q' a' r b r' b' qd qs rd rs qd' qs' rd' rs' ea ea' eb eb' nd nr md mr notified =
    let t : PortTurns T cap n n' k k' j j' (at dims slots q) number (at dims slots q') number (at dims slots r) number (at dims slots r') number =
    subst (λ (x : Bank). PortTurns T cap n n' k k' j j' (at dims slots q) number (at dims slots q') number (at dims slots r) number x number) (is_at dims slots r' (rd' ∙ rd) (rs' ∙ rs))
    (subst (λ (x : Bank). PortTurns T cap n n' k k' j j' (at dims slots q) number (at dims slots q') number x number r' number) (is_at dims slots r rd rs)
    (subst (λ (x : Bank). PortTurns T cap n n' k k' j j' (at dims slots q) number x number r number r' number) (is_at dims slots q' (qd' ∙ qd) (qs' ∙ qs))
    (subst (λ (x : Bank). PortTurns T cap n n' k k' j j' x number q' number r number r' number) (is_at dims slots q qd qs)
    (subst (λ m. PortTurns T cap n n' k k' j j' q number q' number r number r' m) (eb' ∙ eb)
    (subst (λ m. PortTurns T cap n n' k k' j j' q number q' number r m r' b') eb
    (subst (λ m. PortTurns T cap n n' k k' j j' q number q' m r b r' b') (ea' ∙ ea) (subst (λ m. PortTurns T cap n n' k k' j j' q m q' a' r b r' b') ea notified))))))) in
    record {
      queries = record {
        own = record {
          sent_elsewhere = ap (λ (x : Others). x.sent) t.turns.queries.same_port.others;
          got_elsewhere = ap (λ (x : Others). x.got) t.turns.queries.same_port.others;
          sent_grows = t.turns.queries.grows.sent_grows;
          got_grows = t.turns.queries.grows.got_grows;
          one_sent = λ l below from. t.turns.queries.grows.one_sent l (subst (λ (d : List ℕ). l < links d) (sym nd) below) (subst (λ (d : List ℕ). sender_at d l ≡ n.queries.rank) (sym nd) (from ∙ sym nr));
        };
        steady = t.turns.queries.steady;
        shape = t.turns.queries.grows.shape;
        lies = λ l more below to. t.turns.queries.lie l more (subst (λ (d : List ℕ). l < links d) (sym nd) below) (subst (λ (d : List ℕ). reader_at d l ≡ n.queries.rank) (sym nd) (to ∙ sym nr));
      };
      replies = record {
        own = record {
          sent_elsewhere = ap (λ (x : Others). x.sent) t.turns.replies.same_port.others;
          got_elsewhere = ap (λ (x : Others). x.got) t.turns.replies.same_port.others;
          sent_grows = t.turns.replies.grows.sent_grows;
          got_grows = t.turns.replies.grows.got_grows;
          one_sent = λ l below from. t.turns.replies.grows.one_sent l (subst (λ (d : List ℕ). l < links d) (sym md) below) (subst (λ (d : List ℕ). sender_at d l ≡ n.replies.rank) (sym md) (from ∙ sym mr));
        };
        steady = t.turns.replies.steady;
        shape = t.turns.replies.grows.shape;
        lies = λ l more below to. t.turns.replies.lie l more (subst (λ (d : List ℕ). l < links d) (sym md) below) (subst (λ (d : List ℕ). reader_at d l ≡ n.replies.rank) (sym md) (to ∙ sym mr));
      };
      kept = λ start h. record { same_dims = t.turns.dims ∙ h.same_dims; same_rank = t.turns.rank ∙ h.same_rank; node = t.turns.kept start h.node };
      stuck = λ start h same. t.stuck start h.node
          (λ l. ap (λ (x : Sides). starting_at dims number x.asking l) same) (λ l. ap (λ (x : Sides). ending_at dims number x.asked l) same)
          (λ l. ap (λ (x : Sides). starting_at dims number x.replying l) same) (λ l. ap (λ (x : Sides). ending_at dims number x.replied l) same);
    }

-- what a turn needs of the ports
pub port_needs : {S : Type 0} (T : Talk S) (dims : List ℕ) (number : ℕ) (start : S) (n : BiState S) (q r pq pr : Bank) (a b : ℕ) → q.dims ≡ dims → r.dims ≡ dims → pq ≡ q → pr ≡ r → a ≡ number → b ≡ number → HasBiRank T dims number start n (sides_of q r)
    → IsBiNode T start n (starting_at pq.dims a (sent_of pq)) (ending_at pq.dims a (got_of pq)) (starting_at pr.dims b (sent_of pr)) (ending_at pr.dims b (got_of pr))
port_needs T dims number start n q r pq pr a b qd rd eq er ea eb h =
    subst (λ (x : Bank). IsBiNode T start n (starting_at x.dims a (sent_of x)) (ending_at x.dims a (got_of x)) (starting_at pr.dims b (sent_of pr)) (ending_at pr.dims b (got_of pr))) (sym eq)
    (subst (λ (x : Bank). IsBiNode T start n (starting_at q.dims a (sent_of q)) (ending_at q.dims a (got_of q)) (starting_at x.dims b (sent_of x)) (ending_at x.dims b (got_of x))) (sym er)
    (subst (λ k. IsBiNode T start n (starting_at q.dims k (sent_of q)) (ending_at q.dims k (got_of q)) (starting_at r.dims b (sent_of r)) (ending_at r.dims b (got_of r))) (sym ea)
    (subst (λ k. IsBiNode T start n (starting_at q.dims number (sent_of q)) (ending_at q.dims number (got_of q)) (starting_at r.dims k (sent_of r)) (ending_at r.dims k (got_of r))) (sym eb)
    (subst (λ d. IsBiNode T start n (starting_at d number (sent_of q)) (ending_at d number (got_of q)) (starting_at r.dims number (sent_of r)) (ending_at r.dims number (got_of r))) (sym qd)
    (subst (λ d. IsBiNode T start n (starting_at dims number (sent_of q)) (ending_at dims number (got_of q)) (starting_at d number (sent_of r)) (ending_at d number (got_of r))) (sym rd) h.node)))))
