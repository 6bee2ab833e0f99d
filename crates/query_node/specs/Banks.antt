-- The replies theorem, over any two banks that keep the laws: one of queries and one of replies.
use Rattle.std.specs.Prelude.{◌≡◌, ℕ, ◌<◌, List, length}
use Rattle.bale_items.specs.declared.item.Item.{Item}
use Rattle.route_tensor.specs.Grid.{ranks, IsGrid}
use Rattle.route_tensor.specs.Link.{links}
use Rattle.list_laws.specs.Lists.{IsPrefix}
use Rattle.port_bank.specs.Logs.{Logs, lasts}
use Rattle.port_bank.specs.Flow.{hop_link, flow}
use Rattle.port_bank.specs.Relay.{RelayLaw}
use Rattle.round_program.specs.Talks.{Talk}
use Rattle.round_program.specs.Replies.{queries_to, answers, replies_of}

-- A bank that keeps the laws, plain or of slots: what was collected on a link is a prefix of what
-- was posted, and each rank keeps the relay law.
pub record IsLawfulBank (dims : List ℕ) (sent got : Logs) : Type 0 where
  pub grid : IsGrid dims
  pub fronts : (l : ℕ) → l < links dims → IsPrefix (got l) (sent l)
  pub relays : (r : ℕ) → r < ranks dims → RelayLaw dims r sent got

-- What s sent toward d on hop 1 in the first epoch, and what d collected of s on the last hop.
abbrev pub sent_to : List ℕ → Logs → ℕ → ℕ → List Item
sent_to dims sent s d = flow dims sent s d 1 0

abbrev pub got_from : List ℕ → Logs → ℕ → ℕ → List Item
got_from dims got d s = flow dims got s d (length dims) 0

-- One rank's part, by its logs at both banks; all r is the state in which rank r began.
-- queries: it sent a prefix of its queries. replies: it sent a prefix of its answers to the queries
-- that it got.
pub record IsOwnSide {S : Type 0} (T : Talk S) (dims : List ℕ) (all : ℕ → S) (r : ℕ)
    (asking replying got : Logs) : Type 0 where
  pub queries : (d : ℕ) → d < ranks dims → IsPrefix (sent_to dims asking r d) (queries_to T (all r) d)
  pub replies : (s : ℕ) → s < ranks dims
      → IsPrefix (sent_to dims replying r s) (answers T (all r) s (got_from dims got r s))

-- It sent everything: its queries, and an answer to each query that it got.
pub record HasSentAll {S : Type 0} (T : Talk S) (dims : List ℕ) (all : ℕ → S) (r : ℕ)
    (asking replying got : Logs) : Type 0 where
  pub queries : (d : ℕ) → d < ranks dims → sent_to dims asking r d ≡ queries_to T (all r) d
  pub replies : (s : ℕ) → s < ranks dims → sent_to dims replying r s ≡ answers T (all r) s (got_from dims got r s)

-- The replies theorem: at every moment the replies that s got from d are a prefix of the replies of
-- (d,s).
abbrev pub RepliesBegin : {S : Type 0} → Talk S → Type 0
RepliesBegin {S} T = (dims : List ℕ) (all : ℕ → S) (asking asked replying replied : Logs) → IsLawfulBank dims asking asked
    → IsLawfulBank dims replying replied
    → ((r : ℕ) → r < ranks dims → IsOwnSide T dims all r asking replying asked)
    → (s d : ℕ) → s < ranks dims → d < ranks dims → IsPrefix (got_from dims replied s d) (replies_of T all d s)

-- If each rank sent everything, and the last links of both banks have ended, they are all of them:
-- each query has its one reply.
abbrev pub RepliesEnd : {S : Type 0} → Talk S → Type 0
RepliesEnd {S} T = (dims : List ℕ) (all : ℕ → S) (asking asked replying replied : Logs) → IsLawfulBank dims asking asked
    → IsLawfulBank dims replying replied
    → (s d : ℕ) → s < ranks dims → d < ranks dims → HasSentAll T dims all s asking replying asked
    → HasSentAll T dims all d asking replying asked
    → 0 < lasts (asked (hop_link dims s d (length dims))) → 0 < lasts (replied (hop_link dims d s (length dims)))
    → got_from dims replied s d ≡ replies_of T all d s
