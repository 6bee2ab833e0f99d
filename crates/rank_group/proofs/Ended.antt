-- A drive's beginning and its end.
use Rattle.std.proofs.Common.{◌≡◌, ℕ, zero, suc, ◌+◌, ◌*◌, ◌<◌, ◌≤◌, true, false, cond, List, [], ◌∷◌, length, map, get_or, slice_get, Option, Some, None, refl, sym, ap, subst, ◌∙◌, arith}
use Rattle.std.proofs.lemmas.Bool.{true≢false}
use Rattle.std.proofs.lemmas.List.{length-map}
use Rattle.std.proofs.lemmas.Option.{get_or_from_slice_get}
use Rattle.item_buffer.specs.Contents.{Shipped}
use Rattle.list_laws.proofs.Lists.{find, get_once, get_map, got_map, same_reads}
use Rattle.list_laws.proofs.Sums.{total_same, total_const, total_zero}
use Rattle.route_tensor.specs.Grid.{ranks}
use Rattle.route_tensor.specs.Ends.{reader_at}
use Rattle.port_bank.specs.Logs.{Logs, starting_at, ending_at}
use Rattle.port_bank.specs.Plain.{Bank, Channel, unused_channel, IsBank, sent_of, got_of, empty_bank, round_of_bank}
use Rattle.port_bank.specs.Port.{IsSlots}
use Rattle.port_bank.specs.Round.{Round, IsRound, logs_of}
use Rattle.port_bank.proofs.Closing.{none_sent, none_got, channel-empty}
use Rattle.rank_group.specs.Closes.{ClosesLaws}
use Rattle.round_program.specs.Rules.{Rules}
use Rattle.round_program.specs.Laws.{Laws}
use Rattle.round_program.specs.Canonical.{HasRounds, InRound, EndsWithin, HaveEnded, states_at}
use Rattle.round_program.proofs.Members.{in_round_at, rounds_once}
use Rattle.rank_node.specs.Movers.{MoverState, Manner, IsLogShape, IsMoving, NoneUnread, lying, epoch_in}
use Rattle.rank_node.specs.Movers.MoverState.{Conveying, Stacking}
use Rattle.rank_node.specs.Runs.{Running}
use Rattle.rank_node.specs.Cycles.{IsInCycle}
use Rattle.rank_group.specs.RoundProgress.{emission_count, quota_of, IsBetween}
use Rattle.rank_group.proofs.Cycled.{not_over}
use Rattle.rank_node.specs.Nodes.{IsNode}
use Rattle.rank_group.specs.Ranks.{IsOrder, RankState, AllRanks}
use Rattle.rank_group.specs.Transcript.{RecordsRun, turns_within}
use Rattle.route_tensor.proofs.Coordinates.{ranks_some}
use Rattle.rank_group.proofs.Growing.{lawful}
use Rattle.rank_group.proofs.Movers.{shape_none}
use Rattle.rank_group.proofs.Telling.{tells_run}
use Rattle.rank_group.proofs.Worlds.{over_at_last}
use Rattle.rank_group.specs.RanksOverBank.{MayRunAll, RanksOnBank, DrivePlan, inbox, mover_in, progress_in, all_progress}
use Rattle.rank_group.specs.Drives.{progs_of, AreFresh}

-- all ranks as a drive begins, over its bank
pub record Begun {S : Type 0} (R : Rules S) (cap : ℕ) (manner : Manner) (starts : List S) (n : ℕ) (rs : List (RankState S)) (b : Bank) : Type 0 where
  pub h : ℕ → ℕ → S
  pub plan : DrivePlan R b.dims b.slots starts n
  pub few : n ≤ plan.most
  pub on_bank : RanksOnBank R b.dims cap b.slots manner starts h rs (sent_of b) (got_of b)

slots_some : (slots : ℕ) → IsSlots slots → 0 < slots
unfolding IsSlots
slots_some zero is = absurd (true≢false (sym is))
slots_some (suc n) is = omega arith

-- an exstack that has begun its first epoch hasn't ended it
between_first : {S : Type 0} (R : Rules S) (quota : ℕ → ℕ) (run : Running S) (m : MoverState) → IsMoving m (λ l. []) (λ l. []) → IsInCycle R quota 0 run m (λ l. []) (λ l. []) → IsBetween m
between_first R quota run (Conveying c) moving i = tt
between_first R quota run (Stacking cap x) moving i = not_over cap 0 x (λ l. []) (λ l. []) moving.stack i.agrees (omega arith)

pub begun : {S : Type 0} (R : Rules S) → Laws R → (cap : ℕ) (dims : List ℕ) (slots : ℕ) (manner : Manner) (starts : List S) (shape : List ℕ) (most n : ℕ) (rs : List (RankState S)) → AreFresh R dims cap manner starts rs → 0 < cap → IsBank cap (empty_bank dims slots)
    → InRound R (ranks dims) 0 shape most starts → HasRounds R starts n → n ≤ most → Begun R cap manner starts n rs (empty_bank dims slots)
begun {S} R laws cap dims slots manner starts shape most n rs fresh some is start rounds low =
    let b : Bank = empty_bank dims slots in
    let law = lawful cap b dims slots is refl refl in
    let first : (s : S) × (slice_get starts 0 ≡ Some s) = find starts 0 (let positive = ranks_some dims is.grid.positive in omega (arith, start.size, positive)) in
    let member = start.each 0 first.0 first.1 in
    let h : ℕ → ℕ → S = λ r m. get_or starts r first.0 in
    let size : length rs ≡ ranks dims = sym (length-map rs (λ (n : RankState S). n.node.run.prog)) ∙ (ap length fresh.programs ∙ start.size) in
    let no_sent : (r : ℕ) → ◌≡◌ {A = Logs} (starting_at dims r (sent_of b)) (λ l. []) = λ r i l. none_sent dims slots r l i in
    let no_got : (r : ℕ) → ◌≡◌ {A = Logs} (ending_at dims r (got_of b)) (λ l. []) = λ r i l. none_got dims slots r l i in
    record {
      h = h;
      plan = record { shape = shape; most = most; start = start; rounds = rounds; few = (let a = laws.most_below first.0 member.valid in omega (arith, a, member.same_most, low)); some = slots_some slots is.counts };
      few = low;
      on_bank = record {
        ranked = record {
          grid = is.grid;
          links_keep = law.links_keep;
          all = size;
          each = λ r x at.
              let f = fresh.each r x at in
              let prog : slice_get starts r ≡ Some x.node.run.prog = ap (λ ps. slice_get ps r) (sym fresh.programs) ∙ get_map (λ (n : RankState S). n.node.run.prog) rs r x at in
              let same : x.node.run.prog ≡ get_or starts r first.0 = sym (get_or_from_slice_get starts r x.node.run.prog first.0 prog) in
              record {
                same_dims = f.new.mover.same_dims;
                same_rank = f.new.mover.same_rank ∙ f.own_rank;
                same_manner = f.new.mover.same_manner;
                same_cap = f.new.same_cap;
                runs = λ on. subst (λ s. IsNode R (λ m. s) x.node (starting_at dims r (sent_of b)) (ending_at dims r (got_of b))) same
                    (subst (λ (a : Logs). IsNode R (λ m. x.node.run.prog) x.node a (ending_at dims r (got_of b))) (sym (no_sent r)) (subst (λ (a : Logs). IsNode R (λ m. x.node.run.prog) x.node (λ l. []) a) (sym (no_got r)) f.new.node));
                stopped = λ over. absurd (true≢false (sym over ∙ f.on));
                shape = λ l below own. subst (λ (a : Logs). IsLogShape manner cap (a l)) (sym (no_sent r)) (shape_none manner cap);
              };
          begins = λ r s at. get_or_from_slice_get starts r s first.0 at;
        };
        none_past = law.none_past;
        relays = law.relays;
        some = some;
        inboxes = λ l below. omega (arith, unread l);
        cycle = λ r. 0;
        keeps = λ r x at.
            let f = fresh.each r x at in
            let prog : slice_get starts r ≡ Some x.node.run.prog = ap (λ ps. slice_get ps r) (sym fresh.programs) ∙ get_map (λ (n : RankState S). n.node.run.prog) rs r x at in
            let few : length (R.emissions x.node.run.prog) ≤ quota_of R (ranks dims) starts r 0 = let e = ap (emission_count R) prog in omega (arith, e) in
            let first : IsInCycle R (quota_of R (ranks dims) starts r) 0 x.node.run x.node.mover (λ l. []) (λ l. []) = f.new.cycle (quota_of R (ranks dims) starts r) few in
            record {
              running = λ on. (
                subst (λ (a : Logs). IsInCycle R (quota_of R (ranks dims) starts r) 0 x.node.run x.node.mover a (ending_at dims r (got_of b))) (sym (no_sent r))
                    (subst (λ (a : Logs). IsInCycle R (quota_of R (ranks dims) starts r) 0 x.node.run x.node.mover (λ l. []) a) (sym (no_got r)) first),
                between_first R (quota_of R (ranks dims) starts r) x.node.run x.node.mover f.new.node.moving first,
              );
              over = λ over. absurd (true≢false (sym over ∙ f.on));
            };
      };
    } where
      unread : (l : ℕ) → inbox dims rs l ≡ 0
      unread l = by (slice_get rs (reader_at dims l)) refl where
        none : (m : MoverState) → NoneUnread m → lying m l ≡ 0
        none (Conveying c) k = ap length (k l)
        none (Stacking k x) t = refl

        by : (o : Option (RankState S)) → slice_get rs (reader_at dims l) ≡ o → lying (mover_in (slice_get rs (reader_at dims l))) l ≡ 0
        by None e = ap (λ o. lying (mover_in o) l) e
        by (Some x) e = ap (λ o. lying (mover_in o) l) e ∙ none x.node.mover (fresh.each (reader_at dims l) x e).new.mover.unread

module _ {S : Type 0} (R : Rules S) (laws : Laws R) (cap : ℕ) (dims : List ℕ) (slots : ℕ) (manner : Manner) (starts : List S) (shape : List ℕ) (most : ℕ) (start : InRound R (ranks dims) 0 shape most starts) (ends : EndsWithin R starts most)
    (rs : List (RankState S)) (fresh : AreFresh R dims cap manner starts rs) (some : 0 < cap) (b : Bank) (made : b ≡ empty_bank dims slots) (is : IsBank cap b) where
  begun_at : (n : ℕ) → HasRounds R starts n → Begun R cap manner starts n rs b
  begun_at n rounds =
      subst (Begun R cap manner starts n rs) (sym made)
      (begun R laws cap dims slots manner starts shape most n rs fresh some (subst (IsBank cap) made is) start rounds (let e = rounds_once R starts n ends.rounds rounds ends.has_rounds in let l = ends.at_most in omega (arith, e, l)))

  -- what the sweeps need
  pub run_needs : (order : List ℕ) → IsOrder (ranks b.dims) order → MayRunAll R cap b order rs
  run_needs order each_once =
      let x : Begun R cap manner (progs_of rs) ends.rounds rs b = subst (λ ps. Begun R cap manner ps ends.rounds rs b) (sym fresh.programs) (begun_at ends.rounds ends.has_rounds) in
      record { order = each_once; lawful = is; manner = manner; rounds = ends.rounds; h = x.h; plan = x.plan; few = x.few; on_bank = x.on_bank }

  -- and what they leave
  pub steps_at : (steps steps' : ℕ) → ((manner : Manner) (starts : List S) (n : ℕ) (h : ℕ → ℕ → S) → DrivePlan R b.dims b.slots starts n → RanksOnBank R b.dims cap b.slots manner starts h rs (sent_of b) (got_of b) → steps' ≤ steps + turns_within R manner b.dims starts n)
      → (n : ℕ) → HasRounds R starts n → steps' ≤ steps + turns_within R manner dims starts n
  steps_at steps steps' notified n rounds =
      let x = begun_at n rounds in
      subst (λ ds. steps' ≤ steps + turns_within R manner ds starts n) (ap (λ (y : Bank). y.dims) made) (notified manner starts n x.h x.plan x.on_bank)

  pub world_after : (rs' : List (RankState S)) (b' : Bank) → ((manner : Manner) (starts : List S) (n : ℕ) (h : ℕ → ℕ → S) → DrivePlan R b.dims b.slots starts n → RanksOnBank R b.dims cap b.slots manner starts h rs (sent_of b) (got_of b)
      → (g : ℕ → ℕ → S) × RanksOnBank R b.dims cap b.slots manner starts g rs' (sent_of b') (got_of b')) → (g : ℕ → ℕ → S) × RanksOnBank R dims cap slots manner starts g rs' (sent_of b') (got_of b')
  world_after rs' b' notified =
      let x = begun_at ends.rounds ends.has_rounds in
      let w = notified manner starts ends.rounds x.h x.plan x.on_bank in
      (w.0, subst (λ (y : Bank). RanksOnBank R y.dims cap y.slots manner starts w.0 rs' (sent_of b') (got_of b')) made w.1)

logs_map : (f : Channel → List Shipped) (channels : List Channel) → f unused_channel ≡ [] → (l : ℕ) → logs_of (map f channels) l ≡ f (get_or channels l unused_channel)
logs_map f [] e l = sym e
logs_map f (c ∷ channels) e zero = refl
logs_map f (c ∷ channels) e (suc l) = logs_map f channels e l

-- what a closed bank tells of a link is what was sent on it and got from it, and at first that is
-- nothing
pub all_sent : (cap : ℕ) (b : Bank) (round : Round) (l : ℕ) → round ≡ round_of_bank cap b → logs_of round.sent l ≡ sent_of b l
all_sent cap b round l is = ap (λ (c : Round). logs_of c.sent l) is ∙ logs_map (λ c. c.sent) b.channels refl l

pub all_got : (cap : ℕ) (b : Bank) (round : Round) (l : ℕ) → round ≡ round_of_bank cap b → logs_of round.got l ≡ got_of b l
all_got cap b round l is = ap (λ (c : Round). logs_of c.got l) is ∙ logs_map (λ c. c.got) b.channels refl l

pub none_first : (dims : List ℕ) (slots l : ℕ) → length (sent_of (empty_bank dims slots) l) ≡ 0
none_first dims slots l = ap (λ c. length c.sent) (channel-empty _ l)

pub only_one : {X : Type 0} (x y : X) → x ∷ [] ≡ y ∷ [] → x ≡ y
only_one x y e = get_once (x ∷ []) 0 x y refl (ap (λ xs. slice_get xs 0) e)

-- the programs of ranks whose runs are over are those of the canonical run's end
pub have_ended : {S : Type 0} (R : Rules S) → Laws R → ClosesLaws → (cap : ℕ) (dims : List ℕ) (slots : ℕ) (manner : Manner) (starts : List S) (h : ℕ → ℕ → S) (rs : List (RankState S)) (sent got : Logs) → AllRanks R dims cap slots manner starts h rs sent got
    → ((r : ℕ) (x : RankState S) → slice_get rs r ≡ Some x → x.over ≡ true) → (shape : List ℕ) (most n : ℕ) → InRound R (ranks dims) 0 shape most starts → HasRounds R starts n → (ends : List S) → ends ≡ progs_of rs → HaveEnded R starts ends
have_ended {S} R laws law cap dims slots manner starts h rs sent got w over shape most n start rounds ends is =
    record {
      rounds = n;
      has_rounds = rounds;
      states = is ∙ same_reads (progs_of rs) (states_at R starts n)
          (length-map rs (λ (n : RankState S). n.node.run.prog) ∙ (w.all ∙ sym (in_round_at R laws (ranks dims) shape most starts n start).size))
          (λ r s at.
          let x = got_map (λ (n : RankState S). n.node.run.prog) rs r s at in
          (over_at_last R laws law dims cap slots manner starts h rs sent got w shape most n start rounds r x.0 x.1 (over r x.0 x.1)).1 ∙ ap Some x.2);
    }

-- ranks that haven't turned have completed no epoch
none_completed : {S : Type 0} (R : Rules S) (dims : List ℕ) (cap : ℕ) (manner : Manner) (starts : List S) (rs : List (RankState S)) → AreFresh R dims cap manner starts rs → all_progress dims rs ≡ 0
none_completed {S} R dims cap manner starts rs fresh = total_zero (ranks dims) (λ r. progress_in (slice_get rs r)) (λ r low. by r (slice_get rs r) refl) where
  by : (r : ℕ) (o : Option (RankState S)) → slice_get rs r ≡ o → progress_in (slice_get rs r) ≡ 0
  by r None e = ap progress_in e
  by r (Some x) e = let f = fresh.each r x e in ap progress_in e ∙ (ap (λ b. cond b (epoch_in x.node.mover + 1) (epoch_in x.node.mover)) f.on ∙ f.new.mover.first)

module _ {S : Type 0} (R : Rules S) (laws : Laws R) (law : ClosesLaws) (cap : ℕ) (dims : List ℕ) (slots : ℕ) (manner : Manner) (starts : List S) (h : ℕ → ℕ → S) (rs : List (RankState S)) (b : Bank)
    (ed : b.dims ≡ dims) (es : b.slots ≡ slots) (w : AllRanks R dims cap slots manner starts h rs (sent_of b) (got_of b)) (over : (r : ℕ) (x : RankState S) → slice_get rs r ≡ Some x → x.over ≡ true)
    (shape : List ℕ) (most n : ℕ) (start : InRound R (ranks dims) 0 shape most starts) (rounds : HasRounds R starts n) where
  -- and the closed bank tells the run
  pub notified : (round : Round) → round ≡ round_of_bank cap b → IsRound round → RecordsRun R starts n (record { dims = dims; cap = cap; slots = slots; by_slots = false }) manner round
  notified round is in_order =
      subst (λ c. RecordsRun R starts n (record { dims = dims; cap = cap; slots = slots; by_slots = false }) manner c) (sym is)
      (tells_run R laws law (round_of_bank cap b) cap slots manner starts h rs on_bank (subst IsRound is in_order).in_order over shape most n (subst (λ ds. InRound R (ranks ds) 0 shape most starts) (sym ed) start) rounds
      (record { dims = dims; cap = cap; slots = slots; by_slots = false }) (ap (λ ds. record { dims = ds; cap = cap; slots = b.slots; by_slots = false }) ed ∙ ap (λ k. record { dims = dims; cap = cap; slots = k; by_slots = false }) es) refl) where
        sent : ◌≡◌ {A = Logs} (sent_of b) (logs_of (map (λ c. c.sent) b.channels))
        sent = λ i l. sym (logs_map (λ c. c.sent) b.channels refl l) i

        got : ◌≡◌ {A = Logs} (got_of b) (logs_of (map (λ c. c.got) b.channels))
        got = λ i l. sym (logs_map (λ c. c.got) b.channels refl l) i

        on_bank : AllRanks R b.dims cap slots manner starts h rs (logs_of (map (λ c. c.sent) b.channels)) (logs_of (map (λ c. c.got) b.channels))
        on_bank = subst (λ ds. AllRanks R ds cap slots manner starts h rs (logs_of (map (λ c. c.sent) b.channels)) (logs_of (map (λ c. c.got) b.channels))) (sym ed)
            (subst (λ (f : Logs). AllRanks R dims cap slots manner starts h rs f (logs_of (map (λ c. c.got) b.channels))) sent (subst (λ (f : Logs). AllRanks R dims cap slots manner starts h rs (sent_of b) f) got w))

  -- each rank has completed all epochs, which takes a turn each
  pub fewest_turns : (rs0 : List (RankState S)) → AreFresh R dims cap manner starts rs0 → (steps steps' : ℕ) → all_progress dims rs + steps ≤ all_progress dims rs0 + steps' → steps + 2 * n * ranks dims ≤ steps'
  fewest_turns rs0 fresh steps steps' more =
      let none = none_completed R dims cap manner starts rs0 fresh in
      let all : all_progress dims rs ≡ ranks dims * (2 * n) =
      total_same (ranks dims) (λ r. progress_in (slice_get rs r)) (λ r. 2 * n)
      (λ r low.
      let x : (x : RankState S) × (slice_get rs r ≡ Some x) = find rs r (let a = w.all in omega (arith, low, a)) in
      ap progress_in x.1 ∙ (ap (λ b. cond b (epoch_in x.0.node.mover + 1) (epoch_in x.0.node.mover)) (over r x.0 x.1)
      ∙ (over_at_last R laws law dims cap slots manner starts h rs (sent_of b) (got_of b) w shape most n start rounds r x.0 x.1 (over r x.0 x.1)).0))
      ∙ total_const (ranks dims) (2 * n) in
      omega (arith, all, none, more)
