-- A sweep in which nothing moved on either way ends both.
use Rattle.std.proofs.Common.{◌≡◌, ℕ, ◌<◌, ◌≤◌, List, [], ◌∷◌, ◌++◌, length, length-append, None, refl, sym, ap, subst, ◌∙◌, arith, inl, inr}
use Rattle.std.proofs.lemmas.Bool.{cases_lt}
use Rattle.route_tensor.specs.Grid.{ranks, IsGrid}
use Rattle.route_tensor.specs.Link.{links}
use Rattle.route_tensor.specs.Ends.{hop_at, reader_at}
use Rattle.port_bank.specs.Logs.{Logs, starting_at, ending_at}
use Rattle.port_bank.specs.Link.{LinkLaw}
use Rattle.hop_core.specs.declared.phase.Phase.TheVariants.{Complete}
use Rattle.hop_core.specs.State.{State}
use Rattle.convey.specs.Buffers.{in_of}
use Rattle.list_laws.specs.Lists.{Ends}
use Rattle.convey.specs.Conveyors.{AgreesWith}
use Rattle.convey.specs.Due.{IsOver}
use Rattle.convey.specs.Rest.{IsBusy, IsAtRest, IsRestingSweep, RestLaw}
use Rattle.round_program.specs.Talks.{Talk}
use Rattle.rank_node.specs.Movers.{AllRead}
use Rattle.rank_node.specs.Stuck.{IsStill}
use Rattle.rank_group.specs.Ranks.{crowded_in, idle_in}
use Rattle.rank_group.proofs.Still.{below, reader, kept_all, all_got, next_busy, busy_of, without_latest}
use Rattle.query_node.specs.States.{BiState, Sides}
use Rattle.biconvey.specs.ConveyorsOverBank.{conveyor_in}
use Rattle.biconvey.specs.RanksOverBanks.{IsBlockedBiRank}
use Rattle.query_node.specs.Ranks.{AllComplete}
use Rattle.biconvey.proofs.Halting.{IsHalted, never_busy}

-- an end of a list that is no shorter is the list
no_front : {X : Type 0} (front xs : List X) → length (front ++ xs) ≤ length xs → front ++ xs ≡ xs
no_front [] xs h = refl
no_front (f ∷ fs) xs h = absurd (omega (arith, h, length-append fs xs))

same_end : {X : Type 0} (whole back : List X) → Ends whole back → length whole ≤ length back → back ≡ whole
same_end whole back e h = sym (e.is ∙ no_front e.front back (subst (λ xs. length xs ≤ length back) e.is h))

none_of : {X : Type 0} (xs : List X) → length xs ≤ 0 → xs ≡ []
none_of [] h = refl
none_of (x ∷ xs) h = absurd (omega (arith, h))

-- one way of one rank, of which all that came was read
halted : (dims : List ℕ) (slots r : ℕ) (c c' : State) (sent got : Logs) → 0 < slots → (d : c.dims ≡ dims) (q : c.rank ≡ r) → c.epoch ≡ 0
    → (s : IsStill c c' (starting_at dims r sent) (ending_at dims r got) (starting_at dims r sent) (ending_at dims r got) (crowded_in dims slots r sent got) (idle_in dims r sent got))
    → ((l : ℕ) → l < links dims → reader_at dims l ≡ r → length (in_of c l).parcel.untaken ≤ length (in_of c' l).parcel.untaken)
    → ((l : ℕ) → l < links dims → reader_at dims l ≡ r → hop_at dims l ≡ length dims → (in_of c l).parcel.untaken ≡ [])
    → IsHalted dims r s.before s.after sent got
halted dims slots r c c' sent got some d q first s kept read = record {
  same_dims = s.dims_before ∙ d;
  same_rank = s.rank_before ∙ q;
  first = s.epoch_before ∙ first;
  agrees = s.agrees_before;
  lies = λ l b e. same_end (in_of s.before l).parcel.untaken (in_of s.after l).parcel.untaken (s.lies l (below dims slots r c c' sent got some d q s kept l b) (reader dims slots r c c' sent got some d q s kept l e)) (kept_all dims slots r c c' sent got some d q s kept l b e);
  read = λ l b e o. s.ins_before l ∙ read l b e o;
  idle = λ l b e w. all_got dims slots r c c' sent got some d q s kept l e (s.idle l (below dims slots r c c' sent got some d q s kept l b) (reader dims slots r c c' sent got some d q s kept l e) w);
  stopped = next_busy dims slots r c c' sent got some d q s kept;
}

-- what is known of one way of rank r, just before its latest advance and just after it
record Two (dims : List ℕ) (r : ℕ) (phase_is : Type 0) (old new : State) (sent got : Logs) : Type 0 where
  same_dims : new.dims ≡ dims
  same_rank : new.rank ≡ r
  first : new.epoch ≡ 0
  agrees : AgreesWith new (starting_at dims r sent) (ending_at dims r got)
  rest : IsAtRest dims r old new sent got
  over : IsOver new → phase_is

-- the rest law, in the first epoch
module _ (law : RestLaw) (dims : List ℕ) (cap slots : ℕ) (sent got : Logs) (grid : IsGrid dims) (links_keep : (l : ℕ) → l < links dims → LinkLaw cap slots (sent l) (got l)) (over : ℕ → Type 0)
    (each : (r : ℕ) → r < ranks dims → (old : State) × (new : State) × Two dims r (over r) old new sent got) where
  all_two : (r : ℕ) → (old : State) × (new : State) × (r < ranks dims → Two dims r (over r) old new sent got)
  all_two r = elim (cases_lt r (ranks dims)) [
    | inl low ↦ let t = each r low in (t.0, t.1, λ _. t.2)
    | inr past ↦ (conveyor_in None, conveyor_in None, λ low. absurd (omega (arith, low, past)))
  ]

  sweep : IsRestingSweep dims cap slots 0 (λ r. (all_two r).0) (λ r. (all_two r).1) sent got
  sweep = record {
    grid = grid;
    links_keep = links_keep;
    same_dims = λ r low. ((all_two r).2 low).same_dims;
    same_rank = λ r low. ((all_two r).2 low).same_rank;
    agrees = λ r low. ((all_two r).2 low).agrees;
    least = λ r low. omega arith;
    turns = λ r low same. ((all_two r).2 low).rest;
  }

  all_over : (r : ℕ) → r < ranks dims → over r
  all_over r low = ((all_two r).2 low).over (law dims cap slots 0 (λ k. (all_two k).0) (λ k. (all_two k).1) sent got sweep r low ((all_two r).2 low).first)

module _ {S : Type 0} (T : Talk S) (law : RestLaw) (dims : List ℕ) (cap slots : ℕ) (some : 0 < slots) (ns : ℕ → BiState S) (s : Sides) (grid : IsGrid dims)
    (queries_keep : (l : ℕ) → l < links dims → LinkLaw cap slots (s.asking l) (s.asked l)) (replies_keep : (l : ℕ) → l < links dims → LinkLaw cap slots (s.replying l) (s.replied l))
    (same_dims : (r : ℕ) → r < ranks dims → (ns r).queries.dims ≡ dims) (same_rank : (r : ℕ) → r < ranks dims → (ns r).queries.rank ≡ r)
    (each : (r : ℕ) → r < ranks dims → IsBlockedBiRank T dims slots r (ns r) s) where
  dims_r : (r : ℕ) → (b : r < ranks dims) → (each r b).before.replies.dims ≡ dims
  dims_r r b = (each r b).has.node.same_dims ∙ (each r b).has.same_dims

  rank_r : (r : ℕ) → (b : r < ranks dims) → (each r b).before.replies.rank ≡ r
  rank_r r b = (each r b).has.node.same_rank ∙ (each r b).has.same_rank

  read_r : (r : ℕ) → (b : r < ranks dims) → (l : ℕ) → l < links dims → reader_at dims l ≡ r → hop_at dims l ≡ length dims → (in_of (each r b).before.replies l).parcel.untaken ≡ []
  read_r r b l low to last =
      let d = dims_r r b in
      (each r b).has.node.read l (subst (λ ds. l < links ds) (sym d) low) (subst (λ ds. reader_at ds l ≡ (each r b).before.replies.rank) (sym d) (to ∙ sym (rank_r r b))) (subst (λ ds. hop_at ds l ≡ length ds) (sym d) last)

  replies_halted : (r : ℕ) → (b : r < ranks dims) → IsHalted dims r (each r b).stuck.replies.before (each r b).stuck.replies.after s.replying s.replied
  replies_halted r b =
      halted dims slots r (each r b).before.replies (ns r).replies s.replying s.replied some (dims_r r b) (rank_r r b) (each r b).has.node.replies.first (each r b).stuck.replies (each r b).kept_replies (read_r r b)

  -- with a state for every number
  all_halted : (r : ℕ) → (old : State) × (new : State) × (r < ranks dims → IsHalted dims r old new s.replying s.replied)
  all_halted r = elim (cases_lt r (ranks dims)) [
    | inl low ↦ ((each r low).stuck.replies.before, (each r low).stuck.replies.after, λ _. replies_halted r low)
    | inr past ↦ (conveyor_in None, conveyor_in None, λ low. absurd (omega (arith, low, past)))
  ]

  -- no reply is on its way, so no answer was refused
  replies_idle : (l : ℕ) → l < links dims → IsBusy s.replying s.replied l → ⊥
  replies_idle l below busy =
      never_busy dims (λ r. (all_halted r).0) (λ r. (all_halted r).1) s.replying s.replied grid (λ m low. (replies_keep m low).begins) (λ r low. (all_halted r).2 low) l below busy

  answered : (r : ℕ) → (b : r < ranks dims) → AllRead (ns r).queries
  answered r b = elim (each r b).stuck.answered [
    | inl read ↦ read
    | inr x ↦
        let y = busy_of dims slots r (each r b).before.replies (ns r).replies s.replying s.replied some (dims_r r b) (rank_r r b) (each r b).stuck.replies (each r b).kept_replies x in
        absurd (replies_idle y.link y.below y.busy)
  ]

  read_q : (r : ℕ) → (b : r < ranks dims) → (l : ℕ) → l < links dims → reader_at dims l ≡ r → hop_at dims l ≡ length dims → (in_of (each r b).before.queries l).parcel.untaken ≡ []
  read_q r b l low to last =
      let d = same_dims r b in
      let now = answered r b l (subst (λ ds. l < links ds) (sym d) low) (subst (λ ds. reader_at ds l ≡ (ns r).queries.rank) (sym d) (to ∙ sym (same_rank r b))) (subst (λ ds. hop_at ds l ≡ length ds) (sym d) last) in
      none_of (in_of (each r b).before.queries l).parcel.untaken (omega (arith, (each r b).kept_queries l low to, ap length now))

  queries_over : (r : ℕ) → r < ranks dims → (ns r).queries.phase ≡ Complete
  queries_over = all_over law dims cap slots s.asking s.asked grid queries_keep (λ r. (ns r).queries.phase ≡ Complete) (λ r b.
      let e = each r b in
      let t = e.stuck.queries in (
        t.before,
        t.after,
        record {
          same_dims = t.dims_after ∙ (t.dims_before ∙ e.has.same_dims);
          same_rank = t.rank_after ∙ (t.rank_before ∙ e.has.same_rank);
          first = t.epoch_after ∙ (t.epoch_before ∙ e.has.node.asks.first);
          agrees = t.agrees_after;
          rest = without_latest dims slots r e.before.queries (ns r).queries s.asking s.asked some e.has.same_dims e.has.same_rank t e.kept_queries
              (elim e.stuck.asked [
                | inl done ↦ inl (t.done_after ∙ done)
                | inr x ↦ inr (busy_of dims slots r e.before.queries (ns r).queries s.asking s.asked some e.has.same_dims e.has.same_rank t e.kept_queries x)
              ])
              (λ l low to o. t.ins_before l ∙ read_q r b l low to o);
          over = t.over;
        },
      ))

  replies_over : (r : ℕ) → r < ranks dims → (ns r).replies.phase ≡ Complete
  replies_over = all_over law dims cap slots s.replying s.replied grid replies_keep (λ r. (ns r).replies.phase ≡ Complete) (λ r b.
      let e = each r b in
      let t = e.stuck.replies in (
        t.before,
        t.after,
        record {
          same_dims = t.dims_after ∙ (t.dims_before ∙ dims_r r b);
          same_rank = t.rank_after ∙ (t.rank_before ∙ rank_r r b);
          first = t.epoch_after ∙ (t.epoch_before ∙ e.has.node.replies.first);
          agrees = t.agrees_after;
          rest = without_latest dims slots r e.before.replies (ns r).replies s.replying s.replied some (dims_r r b) (rank_r r b) t e.kept_replies (inl (t.done_after ∙ e.stuck.done (queries_over r b))) (λ l low to o. t.ins_before l ∙ read_r r b l low to o);
          over = t.over;
        },
      ))

  pub all_complete : AllComplete dims ns
  all_complete = record { queries = queries_over; replies = replies_over }
