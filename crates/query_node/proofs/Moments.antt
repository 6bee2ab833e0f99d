-- At each moment of a turn a rank keeps both conditions of the replies theorem.
--
-- What it has sent by then is a prefix of what it has sent at the turn's end, and what it has got
-- is no less than at its beginning; and it answers no query of this turn before all of these are
-- collected.
use Rattle.std.proofs.Common.{◌≡◌, ℕ, ◌<◌, ◌==◌, ◌-◌, cond, List, [], length, take, drop, refl, sym, ap, subst, ◌∙◌, inl, inr}
use Rattle.std.proofs.lemmas.List.{append-nil}
use Rattle.item_buffer.specs.Contents.{Shipped}
use Rattle.route_tensor.specs.Grid.{ranks, IsGrid}
use Rattle.route_tensor.specs.Pair.{belongs}
use Rattle.list_laws.specs.Lists.{IsPrefix}
use Rattle.port_bank.specs.Logs.{Logs, starting_at, ending_at}
use Rattle.port_bank.specs.Flow.{hop_link, flow}
use Rattle.port_bank.proofs.Fronts.{begins_trans}
use Rattle.port_bank.proofs.Kept.{flow_begins}
use Rattle.port_bank.proofs.Listing.{for_ranks-within}
use Rattle.convey.specs.Buffers.{Buffers, buffers_of}
use Rattle.convey.specs.Parts.{part_of, pushed_to, pulled_of, unread_of}
use Rattle.convey.specs.Agreement.{items_among}
use Rattle.convey.proofs.OneRank.{first_link, last_link, starting-own, ending-own}
use Rattle.round_program.specs.Canonical.{items_of}
use Rattle.round_program.specs.Talks.{Talk}
use Rattle.round_program.specs.Replies.{asks_of, queries_to, answers}
use Rattle.query_node.specs.States.{BiState, Sides, IsBiNode}
use Rattle.query_node.specs.Banks.{sent_to, got_from, IsOwnSide}
use Rattle.query_node.specs.Ranks.{sides_at}
use Rattle.query_node.specs.Moments.{IsMoment, IsBetweenTurns, IsUnderway, StepLaw}
use Rattle.query_node.proofs.Taken.{take_drop, items_begin}
use Rattle.query_node.proofs.Theorem.{answers_begin, replies_begin}

take_begins : {X : Type 0} (n : ℕ) (xs : List X) → IsPrefix (take n xs) xs
take_begins n xs = record { rest = drop n xs; is = sym (take_drop n xs) }

same_begins : {X : Type 0} (xs ys : List X) → xs ≡ ys → IsPrefix xs ys
same_begins xs ys e = record { rest = []; is = sym e ∙ sym (append-nil xs) }

-- of what was pushed the sent is a prefix, and what was pulled is a prefix of what was got
sent_pushed : (b : Buffers) (sent : Logs) (d : ℕ) → IsPrefix (flow b.dims sent b.rank d 1 0) (pushed_to b sent 0 d)
sent_pushed b sent d = record { rest = cond (0 == b.epoch) (items_among (belongs b.dims b.rank d 1) (b.waiting (hop_link b.dims b.rank d 1))) []; is = refl }

pulled_got : (b : Buffers) (got : Logs) (s : ℕ) → IsPrefix (pulled_of b got 0 s) (flow b.dims got s b.rank (length b.dims) 0)
pulled_got b got s =
    let came = flow b.dims got s b.rank (length b.dims) 0 in
    take_begins (length came - unread_of b 0 s) came

-- a rank between two turns keeps both conditions
module _ {S : Type 0} (T : Talk S) (start : S) (n : BiState S) (asking asked replying replied : Logs) (is : IsBiNode T start n asking asked replying replied) where
  queries_sent : (d : ℕ) → d < ranks n.queries.dims → IsPrefix (sent_to n.queries.dims asking n.queries.rank d) (queries_to T start d)
  queries_sent d low =
      let b = buffers_of n.queries in
      let pushed : pushed_to b asking 0 d ≡ items_of d (take n.next (asks_of T start)) =
      sym (for_ranks-within (ranks n.queries.dims) (pushed_to b asking) 0 d low) ∙ (ap (λ e. (part_of b asking asked).pushed e d) (sym is.asks.first) ∙ is.pushed d low) in
      begins_trans (flow n.queries.dims asking n.queries.rank d 1 0) (pushed_to b asking 0 d) (queries_to T start d) (sent_pushed b asking d)
      (subst (λ xs. IsPrefix xs (queries_to T start d)) (sym pushed) (items_begin d n.next (asks_of T start)))

  replies_sent : (f : ℕ) → f < ranks n.queries.dims → IsPrefix (sent_to n.queries.dims replying n.queries.rank f) (answers T start f (got_from n.queries.dims asked n.queries.rank f))
  replies_sent f low =
      let q = buffers_of n.queries in
      let b = buffers_of n.replies in
      let low' : f < ranks n.replies.dims = subst (λ (ds : List ℕ). f < ranks ds) (sym is.same_dims) low in
      let pushed : pushed_to b replying 0 f ≡ answers T start f ((part_of q asking asked).pulled 0 f) =
      sym (for_ranks-within (ranks n.replies.dims) (pushed_to b replying) 0 f low')
      ∙ (ap (λ e. (part_of b replying replied).pushed e f) (sym is.replies.first) ∙ (is.answered f low ∙ ap (λ e. answers T start f ((part_of q asking asked).pulled e f)) is.asks.first)) in
      let pulled : (part_of q asking asked).pulled 0 f ≡ pulled_of q asked 0 f = for_ranks-within (ranks n.queries.dims) (pulled_of q asked) 0 f low in
      let sent : IsPrefix (flow n.replies.dims replying n.replies.rank f 1 0) (answers T start f (pulled_of q asked 0 f)) =
      subst (λ xs. IsPrefix (flow n.replies.dims replying n.replies.rank f 1 0) xs) (pushed ∙ ap (answers T start f) pulled) (sent_pushed b replying f) in
      let here : IsPrefix (flow n.queries.dims replying n.queries.rank f 1 0) (answers T start f (pulled_of q asked 0 f)) =
      subst (λ (ds : List ℕ). IsPrefix (flow ds replying n.queries.rank f 1 0) (answers T start f (pulled_of q asked 0 f))) is.same_dims
      (subst (λ k. IsPrefix (flow n.replies.dims replying k f 1 0) (answers T start f (pulled_of q asked 0 f))) is.same_rank sent) in
      begins_trans (flow n.queries.dims replying n.queries.rank f 1 0) (answers T start f (pulled_of q asked 0 f)) (answers T start f (got_from n.queries.dims asked n.queries.rank f)) here
      (answers_begin T start f (pulled_of q asked 0 f) (got_from n.queries.dims asked n.queries.rank f) (pulled_got q asked f))

-- and so does one within a turn
pub own_at : {S : Type 0} (T : Talk S) (start : S) (dims : List ℕ) (r : ℕ) (n n' : BiState S) (old new now : Sides) → IsBetweenTurns T dims r start n old → IsBetweenTurns T dims r start n' new → IsMoment old new now
    → IsOwnSide T dims (λ _. start) r now.asking now.replying now.asked
own_at {S} T start dims r n n' old new now at at' m =
    record {
      queries = λ d low.
          begins_trans (sent_to dims now.asking r d) (sent_to dims new.asking r d) (queries_to T start d) (flow_begins dims now.asking new.asking r d 1 0 (m.until.asking (hop_link dims r d 1))) (asks d low);
      replies = λ f low. elim m.order [
        | inl none ↦
            begins_trans (sent_to dims now.replying r f) (sent_to dims old.replying r f) (answers T start f (got_from dims now.asked r f))
            (flow_begins dims now.replying old.replying r f 1 0 (same_begins (now.replying (hop_link dims r f 1)) (old.replying (hop_link dims r f 1)) (none (hop_link dims r f 1))))
            (begins_trans (sent_to dims old.replying r f) (answers T start f (got_from dims old.asked r f)) (answers T start f (got_from dims now.asked r f)) (replies n old at f low)
            (answers_begin T start f (got_from dims old.asked r f) (got_from dims now.asked r f) (flow_begins dims old.asked now.asked f r (length dims) 0 (m.since.asked (hop_link dims f r (length dims))))))
        | inr all ↦
            begins_trans (sent_to dims now.replying r f) (sent_to dims new.replying r f) (answers T start f (got_from dims now.asked r f))
            (flow_begins dims now.replying new.replying r f 1 0 (m.until.replying (hop_link dims r f 1)))
            (begins_trans (sent_to dims new.replying r f) (answers T start f (got_from dims new.asked r f)) (answers T start f (got_from dims now.asked r f)) (replies n' new at' f low)
            (answers_begin T start f (got_from dims new.asked r f) (got_from dims now.asked r f)
            (flow_begins dims new.asked now.asked f r (length dims) 0 (same_begins (new.asked (hop_link dims f r (length dims))) (now.asked (hop_link dims f r (length dims))) (sym (all (hop_link dims f r (length dims))))))))
      ];
    } where
      asks : (d : ℕ) → d < ranks dims → IsPrefix (sent_to dims new.asking r d) (queries_to T start d)
      asks d low =
          subst (λ (ds : List ℕ). IsPrefix (sent_to ds new.asking r d) (queries_to T start d)) at'.same_dims
          (subst (λ k. IsPrefix (sent_to n'.queries.dims new.asking k d) (queries_to T start d)) at'.same_rank
          (queries_sent T start n' new.asking new.asked new.replying new.replied at'.node d (subst (λ (ds : List ℕ). d < ranks ds) (sym at'.same_dims) low)))

      replies : (k : BiState S) (s : Sides) → IsBetweenTurns T dims r start k s → (f : ℕ) → f < ranks dims → IsPrefix (sent_to dims s.replying r f) (answers T start f (got_from dims s.asked r f))
      replies k s a f low =
          subst (λ (ds : List ℕ). IsPrefix (sent_to ds s.replying r f) (answers T start f (got_from ds s.asked r f))) a.same_dims
          (subst (λ j. IsPrefix (sent_to k.queries.dims s.replying j f) (answers T start f (got_from k.queries.dims s.asked j f))) a.same_rank
          (replies_sent T start k s.asking s.asked s.replying s.replied a.node f (subst (λ (ds : List ℕ). f < ranks ds) (sym a.same_dims) low)))

-- over the lists of two banks
sent_own : (dims : List ℕ) (sent : Logs) (r d : ℕ) → IsGrid dims → r < ranks dims → d < ranks dims → sent_to dims (starting_at dims r sent) r d ≡ sent_to dims sent r d
sent_own dims sent r d g from to = ap (λ (log : List Shipped). flow dims (λ _. log) r d 1 0) (starting-own dims r sent (hop_link dims r d 1) (first_link dims r d g from to).sender)

got_own : (dims : List ℕ) (got : Logs) (r s : ℕ) → IsGrid dims → r < ranks dims → s < ranks dims → got_from dims (ending_at dims r got) r s ≡ got_from dims got r s
got_own dims got r s g to from = ap (λ (log : List Shipped). flow dims (λ _. log) s r (length dims) 0) (ending-own dims r got (hop_link dims s r (length dims)) (last_link dims s r g from to).reader)

own_of : {S : Type 0} (T : Talk S) (dims : List ℕ) (starts : ℕ → S) (r : ℕ) (s : Sides) → IsGrid dims → r < ranks dims → IsUnderway T dims r (starts r) (sides_at dims r s) → IsOwnSide T dims starts r s.asking s.replying s.asked
own_of T dims starts r s g low u =
    let o = own_at T (starts r) dims r u.before u.after u.old u.new (sides_at dims r s) u.stood u.stands u.moment in
    record {
      queries = λ d b. subst (λ xs. IsPrefix xs (queries_to T (starts r) d)) (sent_own dims s.asking r d g low b) (o.queries d b);
      replies = λ f b.
          subst (λ xs. IsPrefix (sent_to dims s.replying r f) (answers T (starts r) f xs)) (got_own dims s.asked r f g low b)
          (subst (λ xs. IsPrefix xs (answers T (starts r) f (got_from dims (ending_at dims r s.asked) r f))) (sent_own dims s.replying r f g low b) (o.replies f b));
    }

pub step_law : {S : Type 0} (T : Talk S) → StepLaw T
step_law T dims starts s lawful lawful' each r d from to =
    replies_begin T dims starts s.asking s.asked s.replying s.replied lawful lawful' (λ q low. own_of T dims starts q s lawful.grid low (each q low)) r d from to
