-- What a turn leaves that moved no parcel.
use Rattle.std.proofs.Common.{◌≡◌, ◌⊎◌, ℕ, ◌+◌, ◌<◌, ◌≤◌, ◌==◌, ◌&&◌, ◌||◌, not, Bool, true, false, List, [], ◌++◌, length, length-append, slice_get, Some, Result, Ok, refl, sym, ap, subst, ◌∙◌, arith, inl, inr}
use Rattle.std.proofs.lemmas.Bool.{eq-eqb, cases_lt}
use Rattle.std.proofs.lemmas.List.{append-nil}
use Rattle.std.specs.List.{flat_map}
use Rattle.bale_items.specs.declared.item.Entry.{Entry}
use Rattle.bale_items.specs.declared.item.Item.{Item}
use Rattle.item_buffer.specs.Contents.{Shipped}
use Rattle.list_laws.proofs.Lists.{find}
use Rattle.route_tensor.specs.Grid.{ranks, IsGrid}
use Rattle.route_tensor.specs.Link.{links}
use Rattle.route_tensor.specs.Ends.{hop_at, sender_at, reader_at}
use Rattle.port_bank.specs.Logs.{Logs}
use Rattle.port_bank.specs.Flow.{hop_link}
use Rattle.port_bank.specs.Shapes.{IsConveyorShape}
use Rattle.list_laws.specs.Lists.{IsPrefix, Ends}
use Rattle.hop_core.specs.declared.phase.Phase.{Phase}
use Rattle.hop_core.specs.declared.phase.Phase.TheVariants.{Dormant, Working, Endgame, Cleanup, Complete}
use Rattle.hop_core.specs.Link.{Out, is_due, is_empty}
use Rattle.hop_core.specs.State.{State}
use Rattle.convey.specs.Arrived.{HasArrived}
use Rattle.convey.specs.Buffers.{buffers_of, in_of, out_of}
use Rattle.convey.specs.Conveyors.{AgreesWith, HoldsAtMost, open_count_toward}
use Rattle.convey.specs.Due.{WantsParcel, IsOver, NextIs, IsHeldUpAt, next_link}
use Rattle.convey.specs.Progress.{progress_of}
use Rattle.convey.specs.declared.progress.Progress.TheVariants as progress
use Rattle.convey.proofs.OneRank.{FirstLink, first_link}
use Rattle.round_program.specs.Rules.{Rules}
use Rattle.rank_node.specs.Sending.{to_send, is_voting}
use Rattle.rank_node.specs.Pulls.{InboxesShrink, PushesItems}
use Rattle.rank_node.specs.Runs.{Running}
use Rattle.rank_node.specs.Moves.{AfterMoves, LeavesAfterAdvance}
use Rattle.rank_node.specs.Movers.Manner.{ByConveyor}
use Rattle.rank_node.specs.Movers.MoverState.{Conveying}
use Rattle.rank_node.specs.Nodes.{IsNode}
use Rattle.rank_node.specs.Stuck.{HasCrowded, IsStill, IsStuck}
use Rattle.rank_node.proofs.Ballots.{same_sends}
use Rattle.rank_node.proofs.Moved.{AfterPush, AfterAdvance, AfterTakes, moved}

-- the phase of an advance that answers Complete
pub complete_from : (p : Phase) → progress_of p ≡ progress.Complete → p ≡ Complete
complete_from Dormant e = absurd (cc)
complete_from Working e = absurd (cc)
complete_from Endgame e = absurd (cc)
complete_from Cleanup e = absurd (cc)
complete_from Complete e = refl

pub ok_once : {T E : Type 0} {a b : T} → ◌≡◌ {A = Result T E} (Ok a) (Ok b) → a ≡ b
ok_once e = cc

-- what is due for its parcel is due at the end of its hop too
pub due_at_end : (cap : ℕ) (steady ends : Bool) (o : Out) → is_due cap steady false o ≡ true → is_due cap steady ends o ≡ true
due_at_end cap steady ends o due = at_end_too (length o.parcel.untaken == cap) (steady && not (is_empty o.parcel)) ends (not o.closed) due
  where
    at_end_too : (full some ends open' : Bool) → (full || some || (false && open')) ≡ true → (full || some || (ends && open')) ≡ true
    at_end_too true some ends open' e = refl
    at_end_too false true ends open' e = refl
    at_end_too false false ends open' e = absurd (cc)

-- an inbox has at most what it had and what came
pub lies_less : {X : Type 0} (front more back last : List X) → Ends (front ++ more) back → length last ≤ length back → length last ≤ length front + length more
lies_less front more back last e less = omega (arith, less, length-append front more, ap length e.is, length-append e.front back)

-- what an advance says of the links, where it answered
pub record Advanced (c c' : State) (cap : ℕ) (sent sent' got got' : Logs) (is_crowded is_idle : ℕ → Bool) : Type 0 where
  pub epoch : c'.epoch ≡ c.epoch
  pub full : (l : ℕ) → l < links c.dims → sender_at c.dims l ≡ c.rank → sent' l ≡ sent l → length (out_of c l).parcel.untaken ≡ cap → is_crowded l ≡ true
  pub idles : (l : ℕ) → l < links c.dims → reader_at c.dims l ≡ c.rank → WantsParcel c l → got' l ≡ got l → sent' l ≡ sent l → is_idle l ≡ true
  pub lies : (l : ℕ) (more : List Shipped) → l < links c.dims → reader_at c.dims l ≡ c.rank → got' l ≡ got l ++ more → Ends ((in_of c l).parcel.untaken ++ flat_map (λ p. p.entries) more) (in_of c' l).parcel.untaken
  pub closing : (l : ℕ) → l < links c.dims → sender_at c.dims l ≡ c.rank → (hop_at c.dims l ≡ 1 → c'.done ≡ true) → HasArrived (buffers_of c') l → (out_of c' l).closed ≡ false → is_crowded l ≡ true
  pub stopped : (l : ℕ) (e : Entry) → l < links c.dims → reader_at c.dims l ≡ c.rank → hop_at c.dims l < length c.dims → slice_get (in_of c' l).parcel.untaken 0 ≡ Some e → NextIs c.dims c.rank l e.tag (IsHeldUpAt cap c' sent sent' is_crowded)
  pub completes : IsOver c' → c'.phase ≡ Complete

module _ (c c1 c2 c3 : State) (cap : ℕ) (sent got sent' got' : Logs) (is_crowded is_idle : ℕ → Bool)
    (same1 : c1 ≡ record c { outs = c1.outs; pulled = c1.pulled }) (agrees1 : AgreesWith c1 sent got) (dims2 : c2.dims ≡ c1.dims) (rank2 : c2.rank ≡ c1.rank) (agrees2 : AgreesWith c2 sent' got')
    (advanced : Advanced c1 c2 cap sent sent' got got' is_crowded is_idle)
    (same3 : c3 ≡ record c2 { ins = c3.ins; pulled = c3.pulled }) (fewer : InboxesShrink c2 c3) where
  dims1 : c1.dims ≡ c.dims
  dims1 = ap (λ (c : State). c.dims) same1

  rank1 : c1.rank ≡ c.rank
  rank1 = ap (λ (c : State). c.rank) same1

  below1 : (l : ℕ) → l < links c.dims → l < links c1.dims
  below1 l b = subst (λ (d : List ℕ). l < links d) (sym dims1) b

  sender1 : (l : ℕ) → sender_at c.dims l ≡ c.rank → sender_at c1.dims l ≡ c1.rank
  sender1 l e = subst (λ (d : List ℕ). sender_at d l ≡ c1.rank) (sym dims1) (e ∙ sym rank1)

  reader1 : (l : ℕ) → reader_at c.dims l ≡ c.rank → reader_at c1.dims l ≡ c1.rank
  reader1 l e = subst (λ (d : List ℕ). reader_at d l ≡ c1.rank) (sym dims1) (e ∙ sym rank1)

  module _ (sent_same : (l : ℕ) → sent' l ≡ sent l) where
    -- a push was refused toward a receiver, whose first link is crowded
    pub crowded_toward : (to : ℕ) → IsGrid c.dims → c.rank < ranks c.dims → to < ranks c1.dims → open_count_toward c1 to ≡ cap → HasCrowded c.dims c.rank is_crowded
    crowded_toward to grid own low full =
        let grid1 : IsGrid c1.dims = subst IsGrid (sym dims1) grid in
        let own1 : c1.rank < ranks c1.dims = subst (λ (d : List ℕ). c1.rank < ranks d) (sym dims1) (subst (λ r. r < ranks c.dims) (sym rank1) own) in
        let first : FirstLink c1.dims c1.rank to = first_link c1.dims c1.rank to grid1 own1 low in
        let l : ℕ = hop_link c1.dims c1.rank to 1 in
        record {
          link = l;
          below = subst (λ (d : List ℕ). l < links d) dims1 first.below;
          sender = subst (λ (d : List ℕ). sender_at d l ≡ c.rank) dims1 (first.sender ∙ rank1);
          crowded = advanced.full l first.below first.sender (sent_same l) full;
        }

    pub still : (got_same : (l : ℕ) → got' l ≡ got l) → IsStill c c3 sent got sent' got' is_crowded is_idle
    still got_same =
        record {
          before = c1;
          after = c2;
          dims_before = dims1;
          rank_before = rank1;
          epoch_before = ap (λ (c : State). c.epoch) same1;
          dims_after = dims2;
          rank_after = rank2;
          epoch_after = advanced.epoch;
          done_after = sym (ap (λ (c : State). c.done) same3);
          ins_before = λ l. ap (λ (c : State). (in_of c l).parcel.untaken) same1;
          ins_after = fewer;
          agrees_before = agrees1;
          agrees_after = agrees2;
          lies = λ l b e.
              let rest = advanced.lies l [] (below1 l b) (reader1 l e) (got_same l ∙ sym (append-nil (got l))) in
              record { front = rest.front; is = sym (append-nil (in_of c1 l).parcel.untaken) ∙ rest.is };
          idle = λ l b e w. advanced.idles l (below1 l b) (reader1 l e) w (got_same l) (sent_same l);
          stopped = λ l x b e o some.
              let next = advanced.stopped l x (below1 l b) (reader1 l e) (subst (λ (d : List ℕ). hop_at d l < length d) (sym dims1) o) some in
              subst (λ (d : List ℕ). NextIs d c.rank l x.tag (λ m. is_crowded m ≡ true)) dims1 (subst (λ r. NextIs c1.dims r l x.tag (λ m. is_crowded m ≡ true)) rank1
              (record { below = next.below; sender = next.sender; hop = next.hop; holds = next.holds.crowded (sent_same (next_link c1.dims c1.rank (hop_at c1.dims l) x.tag)) }));
          closing = λ l b e o a open'. advanced.closing l (below1 l b) (sender1 l e) (λ q. o (subst (λ (d : List ℕ). hop_at d l ≡ 1) dims1 q)) a open';
          over = λ o. ap (λ (c : State). c.phase) same3 ∙ advanced.completes o;
        }

module _ {S : Type 0} (R : Rules S) (h : ℕ → S) (run : Running S) (c0 c1 c2 c3 : State) (next cap : ℕ) (done complete voting : Bool) (prog : S) (sum : ℕ) (spoiled : Bool) (sent got sent' got' : Logs) (is_crowded is_idle : ℕ → Bool)
    (grid : IsGrid c3.dims) (own : c3.rank < ranks c3.dims) (push : AfterPush R run c0 c1 next sent got)
    (refused : (to : ℕ) (x : Item) → slice_get (to_send R run.prog run.sends) next ≡ Some (to, x) → open_count_toward c1 to ≡ cap)
    (receiver : (to : ℕ) (x : Item) → slice_get (to_send R run.prog run.sends) next ≡ Some (to, x) → to < ranks c1.dims)
    (all : done ≡ (next == length (to_send R run.prog run.sends))) (adv : AfterAdvance c1 c2 done complete sent got sent' got') (advanced : Advanced c1 c2 cap sent sent' got got' is_crowded is_idle)
    (takes : AfterTakes R voting c2 c3 run.prog prog run.sum sum run.spoiled spoiled sent' got') (fewer : InboxesShrink c2 c3) (is : IsNode R h (record { run = run; mover = Conveying c0 }) sent got)
    (sent_same : (l : ℕ) → sent' l ≡ sent l) (got_same : (l : ℕ) → got' l ≡ got l) where
  dims31 : c3.dims ≡ c1.dims
  dims31 = ap (λ (c : State). c.dims) takes.same ∙ adv.dims

  rank31 : c3.rank ≡ c1.rank
  rank31 = ap (λ (c : State). c.rank) takes.same ∙ adv.rank

  dims30 : c3.dims ≡ c0.dims
  dims30 = dims31 ∙ ap (λ (c : State). c.dims) push.same

  rank30 : c3.rank ≡ c0.rank
  rank30 = rank31 ∙ ap (λ (c : State). c.rank) push.same

  -- done, or refused toward a receiver whose first link is crowded
  pushed_or : (b : Bool) → done ≡ b → (c2.done ≡ true) ⊎ HasCrowded c0.dims c0.rank is_crowded
  pushed_or true e = inl (adv.done_is ∙ e)
  pushed_or false e =
      let es = to_send R run.prog run.sends in
      let left : next < length es = elim (cases_lt next (length es)) [ inl b ↦ b | inr p ↦ absurd (clash (eq-eqb next (length es) (omega (arith, p, push.low))) (sym all ∙ e)) ] in
      let x : (x : ℕ × Item) × (slice_get es next ≡ Some x) = find es next left in
      inr (toward x.0 x.1) where
        clash : {b : Bool} → b ≡ true → b ≡ false → ⊥
        clash t f = absurd (cc)

        toward : (x : ℕ × Item) → slice_get (to_send R run.prog run.sends) next ≡ Some x → HasCrowded c0.dims c0.rank is_crowded
        toward (to, x) at =
            crowded_toward c0 c1 c2 c3 cap sent got sent' got' is_crowded is_idle push.same push.agrees adv.dims adv.rank adv.agrees advanced takes.same fewer sent_same to
            (subst IsGrid dims30 grid) (subst (λ (d : List ℕ). c0.rank < ranks d) dims30 (subst (λ r. r < ranks c3.dims) rank30 own)) (receiver to x at) (refused to x at)

  pub stuck : IsStuck c0 c3 sent got sent' got' is_crowded is_idle
  unfolding still
  stuck =
      record {
        still = still c0 c1 c2 c3 cap sent got sent' got' is_crowded is_idle push.same push.agrees adv.dims adv.rank adv.agrees advanced takes.same fewer sent_same got_same;
        pushed = pushed_or done refl;
        read = λ l b e o. ap (λ (c : State). (in_of c l).parcel.untaken) push.same ∙ is.moving.read l b e o;
      }

-- what an advance says of the lists, whether it answered or found no memory
pub record Grown (c c' : State) (cap : ℕ) (sent sent' got got' : Logs) : Type 0 where
  pub steady : c'.steady ≡ c.steady
  pub epoch : c'.epoch ≡ c.epoch
  pub sent_grows : (l : ℕ) → IsPrefix (sent l) (sent' l)
  pub got_grows : (l : ℕ) → IsPrefix (got l) (got' l)
  pub one_sent : (l : ℕ) → l < links c.dims → sender_at c.dims l ≡ c.rank → length (sent' l) ≤ length (sent l) + 1
  pub one_got : (l : ℕ) → l < links c.dims → reader_at c.dims l ≡ c.rank → length (got' l) ≤ length (got l) + 1
  pub shape : (l : ℕ) → IsConveyorShape c.steady cap (sent l) → IsConveyorShape c.steady cap (sent' l)
  pub lies : (l : ℕ) (more : List Shipped) → l < links c.dims → reader_at c.dims l ≡ c.rank → got' l ≡ got l ++ more → Ends ((in_of c l).parcel.untaken ++ flat_map (λ p. p.entries) more) (in_of c' l).parcel.untaken

module _ {S : Type 0} (R : Rules S) (cap : ℕ) (run : Running S) (c0 c1 c2 c3 : State) (next : ℕ) (prog : S) (sum : ℕ) (spoiled done complete voting : Bool) (sent got sent' got' : Logs)
    (push : AfterPush R run c0 c1 next sent got) (all : done ≡ (next == length (to_send R run.prog run.sends))) (adv : AfterAdvance c1 c2 done complete sent got sent' got') (grown : Grown c1 c2 cap sent sent' got got')
    (is_v : is_voting run.sends ≡ voting) (takes : AfterTakes R voting c2 c3 run.prog prog run.sum sum run.spoiled spoiled sent' got') where
  dims10 : c1.dims ≡ c0.dims
  dims10 = ap (λ (c : State). c.dims) push.same

  rank10 : c1.rank ≡ c0.rank
  rank10 = ap (λ (c : State). c.rank) push.same

  steady10 : c1.steady ≡ c0.steady
  steady10 = ap (λ (c : State). c.steady) push.same

  below10 : (l : ℕ) → l < links c0.dims → l < links c1.dims
  below10 l b = subst (λ (d : List ℕ). l < links d) (sym dims10) b

  sender10 : (l : ℕ) → sender_at c0.dims l ≡ c0.rank → sender_at c1.dims l ≡ c1.rank
  sender10 l e = subst (λ (d : List ℕ). sender_at d l ≡ c1.rank) (sym dims10) (e ∙ sym rank10)

  reader10 : (l : ℕ) → reader_at c0.dims l ≡ c0.rank → reader_at c1.dims l ≡ c1.rank
  reader10 l e = subst (λ (d : List ℕ). reader_at d l ≡ c1.rank) (sym dims10) (e ∙ sym rank10)

  pub advanced_moves : AfterMoves R cap (record { run = run; mover = Conveying c0 }) (record { run = record { prog = prog; round = run.round; sends = run.sends; next = next; sum = sum; spoiled = spoiled }; mover = Conveying c3 }) sent got sent' got'
  advanced_moves =
      record {
        kept = λ h is. moved R h run c0 c1 c2 c3 next prog sum spoiled done complete voting sent got sent' got' push all adv is_v takes is;
        dims = ap (λ (c : State). c.dims) takes.same ∙ (adv.dims ∙ dims10);
        rank = ap (λ (c : State). c.rank) takes.same ∙ (adv.rank ∙ rank10);
        manner = ap ByConveyor (ap (λ (c : State). c.steady) takes.same ∙ (grown.steady ∙ steady10));
        epoch = ap (λ (c : State). c.epoch) takes.same ∙ (grown.epoch ∙ ap (λ (c : State). c.epoch) push.same);
        round = refl;
        sends = refl;
        sent_grows = grown.sent_grows;
        got_grows = grown.got_grows;
        one_sent = λ l b e. grown.one_sent l (below10 l b) (sender10 l e);
        one_got = λ l b e. grown.one_got l (below10 l b) (reader10 l e);
        shape = λ l b e was. subst (λ s. IsConveyorShape s cap (sent' l)) steady10 (grown.shape l (subst (λ s. IsConveyorShape s cap (sent l)) (sym steady10) was));
      }

  pub advanced_leaves : HoldsAtMost cap c1 → (fewer : InboxesShrink c2 c3) → R.emissions prog ≡ R.emissions run.prog → PushesItems cap (to_send R run.prog run.sends) c0 c1 run.next next
      → LeavesAfterAdvance R cap run (record { prog = prog; round = run.round; sends = run.sends; next = next; sum = sum; spoiled = spoiled }) c0 c3 got got'
  advanced_leaves fits fewer emissions handed =
      let same : to_send R run.prog run.sends ≡ to_send R prog run.sends = sym (same_sends R prog run.prog run.sends emissions) in
      record {
        lies = λ l more b e g.
            let ins : (in_of c1 l).parcel.untaken ≡ (in_of c0 l).parcel.untaken = ap (λ (c : State). (in_of c l).parcel.untaken) push.same in
            let rest = grown.lies l more (below10 l b) (reader10 l e) g in
            omega (arith, ap length ins, lies_less (in_of c1 l).parcel.untaken (flat_map (λ (p : Shipped). p.entries) more) (in_of c2 l).parcel.untaken (in_of c3 l).parcel.untaken rest (fewer l));
        at_push = c1;
        fits = fits;
        pushed = subst (λ (es : List (ℕ × Item)). PushesItems cap es c0 c1 run.next next) same handed;
        done = ap (λ (c : State). c.done) takes.same ∙ (adv.done_is ∙ (all ∙ ap (λ (es : List (ℕ × Item)). next == length es) same));
      }
