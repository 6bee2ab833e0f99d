-- What the turn of a rank leaves over a plain bank.
use Rattle.std.proofs.Common.{◌≡◌, ℕ, ◌+◌, ◌<◌, ◌≤◌, Bool, true, false, cond, not, List, [], ◌++◌, length, refl, sym, ap, subst, ◌∙◌, arith, inl, inr}
use Rattle.std.specs.List.{flat_map}
use Rattle.std.proofs.lemmas.Bool.{cases_Bool, true≢false}
use Rattle.std.proofs.lemmas.List.{append-nil}
use Rattle.item_buffer.specs.Contents.{Shipped}
use Rattle.route_tensor.specs.Link.{links}
use Rattle.route_tensor.specs.Ends.{sender_at, reader_at}
use Rattle.port_bank.specs.Logs.{Logs, starting_at, ending_at}
use Rattle.port_bank.specs.Flow.{IsPrefix}
use Rattle.port_bank.specs.Port.{Others}
use Rattle.port_bank.specs.Plain.{Bank, sent_of, got_of, others_of}
use Rattle.port_bank.proofs.Ports.{crowded_of, idle_of}
use Rattle.round_program.specs.Rules.{Rules}
use Rattle.rank_node.specs.declared.turn.Turn.{Turn}
use Rattle.rank_node.specs.declared.turn.Turn.TheVariants.{Going, Ended}
use Rattle.rank_node.specs.Movers.{MoverState, Manner, IsLogShape, mover_dims, mover_rank, epoch_in, manner_in, has_completed, HasCap, lying, SameUnread}
use Rattle.rank_node.specs.Movers.MoverState.{Conveying, Stacking}
use Rattle.rank_node.specs.Runs.{Running}
use Rattle.rank_node.specs.Nodes.{NodeState, IsNode}
use Rattle.rank_node.specs.Moves.{Leaves, Waits}
use Rattle.rank_node.specs.Cycles.{IsInCycle, cycle_of_turn, TurnsOnward, AwaitsSome}
use Rattle.rank_group.specs.Ranks.{RankState, HasRank, SameMover, AfterTurn, AfterRank, IsBlockedMover, progress}
use Rattle.rank_group.proofs.OneTurn.{OneTurn, NextTold, stays_in, goes_on}

-- what a turn tells over the port of rank r of a bank, where the port after it is that of rank r'
-- of another
pub record PortTurn {S : Type 0} (R : Rules S) (cap : ℕ) (turn : Turn) (n n' : NodeState S) (b : Bank) (r : ℕ) (b' : Bank) (r' : ℕ) : Type 0 where
  pub dims : b'.dims ≡ b.dims
  pub slots : b'.slots ≡ b.slots
  pub rest : others_of r' b' ≡ others_of r b
  pub same : SameMover n.mover n'.mover
  pub node_cap : HasCap cap n'.mover
  pub sent_grows : (l : ℕ) → IsPrefix (starting_at b.dims r (sent_of b) l) (starting_at b'.dims r' (sent_of b') l)
  pub got_grows : (l : ℕ) → IsPrefix (ending_at b.dims r (got_of b) l) (ending_at b'.dims r' (got_of b') l)
  pub one_sent : (l : ℕ) → l < links (mover_dims n.mover) → sender_at (mover_dims n.mover) l ≡ mover_rank n.mover → length (starting_at b'.dims r' (sent_of b') l) ≤ length (starting_at b.dims r (sent_of b) l) + 1
  pub shape : (l : ℕ) → l < links (mover_dims n.mover) → sender_at (mover_dims n.mover) l ≡ mover_rank n.mover → IsLogShape (manner_in n.mover) cap (starting_at b.dims r (sent_of b) l) → IsLogShape (manner_in n.mover) cap (starting_at b'.dims r' (sent_of b') l)
  pub leaves : Leaves R cap n.run n'.run n.mover n'.mover (ending_at b.dims r (got_of b)) (ending_at b'.dims r' (got_of b'))
  pub kept : (h : ℕ → S) → IsNode R h n (starting_at b.dims r (sent_of b)) (ending_at b.dims r (got_of b)) → IsNode R h n' (starting_at b'.dims r' (sent_of b')) (ending_at b'.dims r' (got_of b'))
  pub ended : turn ≡ Ended → has_completed n'.mover ≡ true
  pub going : turn ≡ Going → has_completed n'.mover ≡ false
  pub waits : Waits R n.run n.mover n'.mover (starting_at b.dims r (sent_of b)) (ending_at b.dims r (got_of b)) (starting_at b'.dims r' (sent_of b')) (ending_at b'.dims r' (got_of b')) (crowded_of r' b') (idle_of r' b')
  pub cycle : (quota : ℕ → ℕ) (k : ℕ) → IsInCycle R quota k n.run n.mover (starting_at b.dims r (sent_of b)) (ending_at b.dims r (got_of b))
      → IsInCycle R quota (cycle_of_turn k n.mover) n'.run n'.mover (starting_at b'.dims r' (sent_of b')) (ending_at b'.dims r' (got_of b'))
  pub onward : TurnsOnward n.mover n'.mover
  pub awaits : AwaitsSome n'.mover

-- an inbox holds at most what it held and what came
lies_by : {S : Type 0} (R : Rules S) (cap : ℕ) (run run' : Running S) (m m' : MoverState) (got got' : Logs) → Leaves R cap run run' m m' got got'
    → (l : ℕ) (more : List Shipped) → l < links (mover_dims m) → reader_at (mover_dims m) l ≡ mover_rank m → got' l ≡ got l ++ more → lying m' l ≤ lying m l + length (flat_map (λ p. p.entries) more)
lies_by R cap run run' (Conveying c) (Conveying c') got got' x = x.lies
lies_by R cap run run' (Conveying c) (Stacking k y) got got' x = absurd x
lies_by R cap run run' (Stacking k y) (Conveying c) got got' x = absurd x
lies_by R cap run run' (Stacking k y) (Stacking k' y') got got' x = λ l more below to is. omega arith

-- a rank that a turn left in its epoch
left_by : {S : Type 0} (R : Rules S) (h : ℕ → S) (run : Running S) (m m' : MoverState) (sent got sent' got' : Logs) (is_crowded is_idle : ℕ → Bool) → Waits R run m m' sent got sent' got' is_crowded is_idle
    → IsNode R h (record { run = run; mover = m }) sent got → ((l : ℕ) → sent' l ≡ sent l) → ((l : ℕ) → got' l ≡ got l) → has_completed m' ≡ false → epoch_in m' ≡ epoch_in m → IsBlockedMover m m' sent got sent' got' is_crowded is_idle
left_by R h run (Conveying c) (Conveying c') sent got sent' got' is_crowded is_idle w is s g going stays = record { stuck = w h is s g; going = going; stays = stays }
left_by R h run (Conveying c) (Stacking k y) sent got sent' got' is_crowded is_idle w is s g going stays = absurd w
left_by R h run (Stacking k y) (Conveying c) sent got sent' got' is_crowded is_idle w is s g going stays = absurd w
left_by R h run (Stacking k y) (Stacking k' y') sent got sent' got' is_crowded is_idle w is s g going stays = record { waits = w; going = going; stays = stays }

-- the same entries lie in an inbox
same_lying : (m m' : MoverState) (l : ℕ) → SameUnread m m' → lying m' l ≡ lying m l
same_lying (Conveying c) (Conveying c') l same = ap length (same l)
same_lying (Conveying c) (Stacking k y) l same = absurd same
same_lying (Stacking k y) (Conveying c) l same = absurd same
same_lying (Stacking k y) (Stacking k' y') l same = refl

pub after_turn : {S : Type 0} (R : Rules S) (cap r : ℕ) (turn : Turn) (n n' : NodeState S) (b b' : Bank) (q q' : ℕ) → q ≡ r → q' ≡ q → mover_dims n.mover ≡ b.dims → mover_rank n.mover ≡ r → PortTurn R cap turn n n' b q b' q'
    → AfterTurn R b.dims cap b.slots r turn n n' (sent_of b) (got_of b) (sent_of b') (got_of b')
after_turn R cap r turn n n' b b' q q' own same nd nr notified =
    let b'' : Bank = record { dims = b.dims; slots = b.slots; channels = b'.channels } in
    let e : b' ≡ b'' = ap (λ d. record { dims = d; slots = b'.slots; channels = b'.channels }) notified.dims ∙ ap (λ k. record { dims = b.dims; slots = k; channels = b'.channels }) notified.slots in
    let t : PortTurn R cap turn n n' b r b'' r =
    subst (λ (x : Bank). PortTurn R cap turn n n' b r x r) e (subst (λ k. PortTurn R cap turn n n' b r b' k) (same ∙ own) (subst (λ k. PortTurn R cap turn n n' b k b' q') own notified)) in
    record {
      own = record {
        sent_elsewhere = ap (λ (x : Others). x.sent) t.rest;
        got_elsewhere = ap (λ (x : Others). x.got) t.rest;
        sent_grows = t.sent_grows;
        got_grows = t.got_grows;
        one_sent = λ l below own. t.one_sent l (subst (λ (d : List ℕ). l < links d) (sym nd) below) (subst (λ (d : List ℕ). sender_at d l ≡ mover_rank n.mover) (sym nd) (own ∙ sym nr));
      };
      same = t.same;
      same_cap = t.node_cap;
      shape = λ l below own. t.shape l (subst (λ (d : List ℕ). l < links d) (sym nd) below) (subst (λ (d : List ℕ). sender_at d l ≡ mover_rank n.mover) (sym nd) (own ∙ sym nr));
      lies = λ l more below to. lies_by R cap n.run n'.run n.mover n'.mover _ _ t.leaves l more (subst (λ (d : List ℕ). l < links d) (sym nd) below) (subst (λ (d : List ℕ). reader_at d l ≡ mover_rank n.mover) (sym nd) (to ∙ sym nr));
      kept = t.kept;
      ended = t.ended;
      going = t.going;
      within = record { waits = t.waits; cycle = t.cycle; onward = t.onward; awaits = t.awaits };
    }

module _ {S : Type 0} (R : Rules S) (dims : List ℕ) (cap slots r : ℕ) where
  -- a rank whose run is over isn't turned
  pub rank_over : (n : RankState S) (sent got : Logs) → n.over ≡ true → AfterRank R dims cap slots r n n sent got sent got
  rank_over n sent got over =
      record {
        own = record {
          sent_elsewhere = refl;
          got_elsewhere = refl;
          sent_grows = λ l. record { rest = []; is = sym (append-nil (starting_at dims r sent l)) };
          got_grows = λ l. record { rest = []; is = sym (append-nil (ending_at dims r got l)) };
          one_sent = λ l below own. omega arith;
        };
        lies = λ l more below to is. omega arith;
        forward = omega arith;
        kept = λ manner h is. (h, refl, is);
        left = λ manner h is still. absurd (true≢false (sym over ∙ still));
        unturned = λ _. record { same = refl; same_sent = refl; same_got = refl };
        turned = λ on. absurd (true≢false (sym over ∙ on));
      }

  -- a turn is one over the rank's own logs
  own_turn : (turn : Turn) (n n' : NodeState S) (sent got sent' got' : Logs) → mover_dims n.mover ≡ dims → mover_rank n.mover ≡ r → AfterTurn R dims cap slots r turn n n' sent got sent' got' → OneTurn R cap n n' (starting_at dims r sent) (ending_at dims r got) (starting_at dims r sent') (ending_at dims r got')
  own_turn turn n n' sent got sent' got' nd nr t =
      record {
        dims = t.same.dims;
        rank = t.same.rank;
        manner = t.same.manner;
        cap_is = t.same_cap;
        shape = λ l below own. t.shape l (subst (λ (d : List ℕ). l < links d) nd below) (subst (λ (d : List ℕ). sender_at d l ≡ r) nd (own ∙ nr));
        kept = t.kept;
      }

  pub rank_going : (n : RankState S) (n' : NodeState S) (over : Bool) (sent got sent' got' : Logs) → n.over ≡ false → over ≡ false → AfterTurn R dims cap slots r Going n.node n' sent got sent' got'
      → AfterRank R dims cap slots r n (record { node = n'; over = over }) sent got sent' got'
  rank_going n n' over sent got sent' got' on still t =
      record {
        own = t.own;
        lies = t.lies;
        forward = let a : progress n ≡ epoch_in n.node.mover = ap (λ b. cond b (epoch_in n.node.mover + 1) (epoch_in n.node.mover)) on in
            let b : cond over (epoch_in n'.mover + 1) (epoch_in n'.mover) ≡ epoch_in n'.mover = ap (λ b. cond b (epoch_in n'.mover + 1) (epoch_in n'.mover)) still in
            omega (arith, a, b, t.same.epoch);
        kept = λ manner h is. (h, refl, stays_in R dims cap r manner h n n' _ _ _ _ is on (own_turn Going n.node n' sent got sent' got' is.same_dims is.same_rank t) over still);
        left = λ manner h is e same s g. left_by R h n.node.run n.node.mover n'.mover _ _ _ _ _ _ t.within.waits (is.runs on) s g (t.going refl) t.same.epoch;
        unturned = λ over'. absurd (true≢false (sym over' ∙ on));
        turned = λ _. inl (record { still = still; epoch = t.same.epoch; going = t.going refl; within = t.within });
      }

module _ {S : Type 0} (R : Rules S) (dims : List ℕ) (cap slots r : ℕ) (n : RankState S) (n1 n2 : NodeState S) (more : Bool) (sent got sent' got' : Logs)
    (on : n.over ≡ false) (t : AfterTurn R dims cap slots r Ended n.node n1 sent got sent' got') (x : NextTold R cap n1 n2 more) where
  ended_epoch : cond (not more) (epoch_in n2.mover + 1) (epoch_in n2.mover) ≡ epoch_in n.node.mover + 1
  ended_epoch = elim (cases_Bool more) [
    | inl yes' ↦ ap (λ b. cond (not b) (epoch_in n2.mover + 1) (epoch_in n2.mover)) yes' ∙ ((x.begins yes').epoch ∙ ap (λ e. e + 1) t.same.epoch)
    | inr no' ↦ ap (λ b. cond (not b) (epoch_in n2.mover + 1) (epoch_in n2.mover)) no' ∙ (ap (λ m. epoch_in m + 1) ((x.ends no').stays) ∙ ap (λ e. e + 1) t.same.epoch)
  ]

  abbrev n' : RankState S
  n' = record { node = n2; over = not more }

  ended_kept : (manner : Manner) (h : ℕ → S) → HasRank R dims cap manner r h n sent got → (g : ℕ → S) × (g 0 ≡ h 0) × HasRank R dims cap manner r g n' sent' got'
  ended_kept manner h is = goes_on R dims cap r manner h n n1 _ _ _ _ is on (own_turn R dims cap slots r Ended n.node n1 sent got sent' got' is.same_dims is.same_rank t) n2 more x

  pub rank_ended : AfterRank R dims cap slots r n (record { node = n2; over = not more }) sent got sent' got'
  rank_ended =
      record {
        own = t.own;
        lies = λ l xs below to is. omega (arith, t.lies l xs below to is, same_lying n1.mover n2.mover l x.keeps.unread);
        forward = let a : progress n ≡ epoch_in n.node.mover = ap (λ b. cond b (epoch_in n.node.mover + 1) (epoch_in n.node.mover)) on in
            let b = ended_epoch in
            omega (arith, a, b);
        kept = ended_kept;
        left = λ manner h is e same. absurd (let a : progress n ≡ epoch_in n.node.mover = ap (λ b. cond b (epoch_in n.node.mover + 1) (epoch_in n.node.mover)) on in
            let b = ended_epoch in
            omega (arith, a, b, same));
        unturned = λ over. absurd (true≢false (sym over ∙ on));
        turned = λ _. inr (record {
          at_end = n1;
          same = t.same;
          within = t.within;
          over = λ over. (x.ends (negated more over)).stays;
          next = λ on'. (x.begins (affirmed more on')).epoch ∙ ap (λ e. e + 1) t.same.epoch;
          anew = λ on' quota k. (x.begins (affirmed more on')).cycle quota k _ _;
        });
      } where
        negated : (b : Bool) → not b ≡ true → b ≡ false
        negated true e = absurd (true≢false (sym e))
        negated false e = refl

        affirmed : (b : Bool) → not b ≡ false → b ≡ true
        affirmed true e = refl
        affirmed false e = absurd (true≢false e)
