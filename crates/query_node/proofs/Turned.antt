-- What a turn leaves.
use Rattle.std.proofs.Common.{◌≡◌, ◌≢◌, ℕ, ◌<◌, ◌≤◌, ◌==◌, Bool, true, false, List, length, All, refl, sym, ap, subst, ◌∙◌, arith, eqb-true, inl, inr}
use Rattle.std.specs.Prelude.{Result, Ok, Err, IsOk, IsErr, IfOk, OnOk, take, map}
use Rattle.round_program.specs.Canonical.{items_of}
use Rattle.std.proofs.lemmas.Bool.{cases_Bool, true≢false, eq-eqb}
use Rattle.std.proofs.lemmas.List.{length-map}
use Rattle.bale_items.specs.declared.item.Item.{Item}
use Rattle.bale_items.specs.declared.fault.NoMemory.{NoMemory}
use Rattle.route_tensor.specs.Grid.{ranks}
use Rattle.port_bank.specs.Logs.{Logs}
use Rattle.port_bank.specs.Port.{PortView}
use Rattle.port_bank.specs.Machine.{Part, ItemLists, IsOwnStep}
use Rattle.hop_core.specs.declared.phase.Phase.{Phase}
use Rattle.hop_core.specs.declared.phase.Phase.TheVariants.{Dormant, Working, Endgame, Cleanup, Complete}
use Rattle.hop_core.specs.State.{State}
use Rattle.convey.specs.Buffers.{buffers_of, is_complete}
use Rattle.convey.specs.Conveyors.{AgreesWith}
use Rattle.convey.specs.Law.{IsSound}
use Rattle.convey.specs.Parts.{part_of}
use Rattle.convey.specs.Advance.{HasSettled, AdvancesAtPort, AdvanceStops}
use Rattle.convey.specs.Due.{IsOver}
use Rattle.convey.specs.Progress.{progress_of, advance_step}
use Rattle.convey.specs.declared.progress.Progress.{Progress}
use Rattle.convey.specs.declared.progress.Progress.TheVariants as progress
use Rattle.round_program.specs.Talks.{Talk, TalkLaws, SameTalk}
use Rattle.round_program.specs.Replies.{carrying, as_items, asks_of, answers}
use Rattle.rank_node.specs.Runs.{IsPushed}
use Rattle.rank_node.specs.Movers.{AllRead}
use Rattle.query_node.specs.Taking.{IsAnswered, PushesQueries, AnswersQueries, HasHeard, Hears}
use Rattle.query_node.specs.States.{BiState, IsBiNode}
use Rattle.query_node.proofs.Offering.{asked_below}

-- what an advance leaves of a rank's lists
pub record SameLists (p p' : Part) : Type 0 where
  pub epoch : p'.epoch ≡ p.epoch
  pub pushed : p'.pushed ≡ p.pushed
  pub pulled : p'.pulled ≡ p.pulled

pub advance_lists : (was now complete : Bool) (p p' : Part) → IsOwnStep (advance_step was now complete) p p' → SameLists p p'
advance_lists false true complete p p' step = subst (SameLists p) (sym step.is) (record { epoch = refl; pushed = refl; pulled = refl })
advance_lists true true true p p' step = subst (SameLists p) (sym step.is) (record { epoch = refl; pushed = refl; pulled = refl })
advance_lists true true false p p' step = subst (SameLists p) (sym step.is) (record { epoch = refl; pushed = refl; pulled = refl })
advance_lists true false true p p' step = subst (SameLists p) (sym step.is) (record { epoch = refl; pushed = refl; pulled = refl })
advance_lists true false false p p' step = subst (SameLists p) (sym step.is) (record { epoch = refl; pushed = refl; pulled = refl })
advance_lists false false true p p' step = subst (SameLists p) (sym step.is) (record { epoch = refl; pushed = refl; pulled = refl })
advance_lists false false false p p' step = subst (SameLists p) (sym step.is) (record { epoch = refl; pushed = refl; pulled = refl })

-- what an advance tells, whether it found memory or not
pub record Advances (c c' : State) (done : Bool) (sent got sent' got' : Logs) : Type 0 where
  pub agrees : AgreesWith c' sent' got'
  pub dims : c'.dims ≡ c.dims
  pub rank : c'.rank ≡ c.rank
  pub epoch : c'.epoch ≡ c.epoch
  pub done_is : c'.done ≡ done
  pub begun : c'.phase ≢ Dormant
  pub works : (done ≡ false → c.phase ≡ Working) → done ≡ false → c'.phase ≡ Working
  pub stays : c.phase ≡ Complete → c'.phase ≡ Complete
  pub step : IsOwnStep (advance_step c.done done (is_complete c'.phase)) (part_of (buffers_of c) sent got) (part_of (buffers_of c') sent' got')

-- a rank that isn't done goes on working
works_on : (result : Result Progress NoMemory) (c c' : State) (done : Bool) → IfOk result (HasSettled done c') → (IsErr result → c'.phase ≡ c.phase)
    → (done ≡ false → c.phase ≡ Working) → done ≡ false → c'.phase ≡ Working
works_on (Ok p) c c' done f g w d = f.working d
works_on (Err e) c c' done f g w d = g refl ∙ w d

pub advances_of : (cap : ℕ) (result : Result Progress NoMemory) (c c' : State) (done : Bool) (port port' : PortView) → AdvancesAtPort cap done c c' port port' → IfOk result (HasSettled done c') → (IsErr result → AdvanceStops c c' port port')
    → Advances c c' done port.sent port.got port'.sent port'.got
advances_of cap result c c' done port port' advances settled stops =
    record {
      agrees = advances.stays.agrees;
      dims = advances.stays.dims;
      rank = advances.stays.rank;
      epoch = advances.stays.epoch;
      done_is = advances.stays.done;
      begun = advances.stays.begun;
      works = works_on result c c' done settled (λ err. (stops err).phase);
      stays = λ e. ap (λ (t : State). t.phase) (advances.complete e) ∙ e;
      step = advances.stays.step;
    }

-- what an advance that had memory tells
pub was_served : {X : Type 0} (result : Result Progress NoMemory) → IsOk result → OnOk result X → X
was_served (Ok p) ok x = x
was_served (Err e) ok x = absurd (cc)

pub has_completed : (result : Result Progress NoMemory) (c : State) (done : Bool) → IsOk result → IfOk result (HasSettled done c) → IsOver c → progress_of c.phase ≡ progress.Complete
has_completed (Ok p) c done ok told over = sym told.is ∙ told.completes over
has_completed (Err e) c done ok told over = absurd (cc)

pub done_of_complete : (p : Phase) (done : Bool) → (done ≡ false → p ≡ Working) → p ≡ Complete → done ≡ true
done_of_complete p true w c = refl
done_of_complete p false w c = absurd (differ (sym (w refl) ∙ c)) where
  differ : Working ≡ Complete → ⊥
  differ e = absurd (cc)

pub is_complete_from : (p : Phase) → is_complete p ≡ true → p ≡ Complete
is_complete_from Dormant e = absurd (cc)
is_complete_from Working e = absurd (cc)
is_complete_from Endgame e = absurd (cc)
is_complete_from Cleanup e = absurd (cc)
is_complete_from Complete e = refl

-- how many queries there are, by the asker that has heard more
pub asked_count : {S : Type 0} (T : Talk S) (count : ℕ) (asker asker' : S) → count ≡ length (T.queries asker) → T.queries asker' ≡ T.queries asker → count ≡ length (asks_of T asker')
asked_count T count asker asker' e same = e ∙ (ap length (sym same) ∙ sym (length-map (T.queries asker') (λ (q : ℕ × ℕ). (q.0, carrying q.1))))

module _ {S : Type 0} (T : Talk S) (laws : TalkLaws T) (start : S) (n : BiState S) (asking asked replying replied : Logs) (is : IsBiNode T start n asking asked replying replied) where
  -- what the asker asks, it asked from the start
  pub same_asks : asks_of T n.asker ≡ asks_of T start
  same_asks = ap as_items is.heard.same.queries

  pub count_is : (count : ℕ) → count ≡ length (T.queries n.asker) → count ≡ length (asks_of T start)
  count_is count e = e ∙ (sym (length-map (T.queries n.asker) (λ (q : ℕ × ℕ). (q.0, carrying q.1))) ∙ ap length same_asks)

  pub receivers : All (λ (e : ℕ × Item). e.0 < ranks n.queries.dims) (asks_of T n.asker)
  receivers =
      subst (λ es. All (λ (e : ℕ × Item). e.0 < ranks n.queries.dims) es) (sym same_asks)
      (subst (λ p. All (λ (e : ℕ × Item). e.0 < p) (asks_of T start)) is.all_ranks (asked_below T laws start is.heard.valid))

  pub low : n.next ≤ length (asks_of T n.asker)
  low = subst (λ (es : List (ℕ × Item)). n.next ≤ length es) (sym same_asks) is.next_low

  pub all_pushed : n.queries.done ≡ true → n.next ≡ length (asks_of T n.asker)
  all_pushed d = is.all_pushed d ∙ ap length (sym same_asks)

  -- after the queries' pushes
  module _ (cap next count : ℕ) (q1 : State) (push : PushesQueries (asks_of T n.asker) cap n.next next n.queries q1) (counted : count ≡ length (T.queries n.asker)) where
    pub begun1 : q1.phase ≢ Dormant
    begun1 e = is.asks.begun (sym (ap (λ (c : State). c.phase) push.same) ∙ e)

    pub agrees1 : AgreesWith q1 asking asked
    agrees1 = push.kept asking asked is.asks.agrees

    pub stays_done : q1.done ≡ true → (next == count) ≡ true
    stays_done d =
        let was = all_pushed (sym (ap (λ (c : State). c.done) push.same) ∙ d) in
        let same = count_is count counted in
        eq-eqb next count (omega (arith, push.forward, push.low, was, same, ap length same_asks))

    works1 : (next == count) ≡ false → q1.phase ≡ Working
    works1 left = ap (λ (c : State). c.phase) push.same ∙ is.asks.working (elim (cases_Bool n.queries.done) [
      | inl d ↦ absurd (true≢false (sym (stays_done (ap (λ (c : State). c.done) push.same ∙ d)) ∙ left))
      | inr d ↦ d
    ])

    -- and after their advance
    module _ (q2 : State) (asking' asked' : Logs) (adv : Advances q1 q2 (next == count) asking asked asking' asked') where
      pub stays2 : n.queries.phase ≡ Complete → q2.phase ≡ Complete
      stays2 e = adv.stays (ap (λ (c : State). c.phase) push.same ∙ e)

      pub working2 : q2.done ≡ false → q2.phase ≡ Working
      working2 d = adv.works works1 (sym adv.done_is ∙ d)

      pub dims2 : n.replies.dims ≡ q2.dims
      dims2 = is.same_dims ∙ (sym (ap (λ (c : State). c.dims) push.same) ∙ sym adv.dims)

      pub open2 : q2.phase ≢ Complete → n.replies.done ≡ false
      open2 apart = elim (cases_Bool n.replies.done) [
        | inl d ↦ absurd (apart (stays2 (is.over d)))
        | inr d ↦ d
      ]

      pub answers2 : q2.phase ≢ Complete → n.replies.phase ≡ Working
      answers2 apart = is.replies.working (open2 apart)

      step2 : SameLists (part_of (buffers_of q1) asking asked) (part_of (buffers_of q2) asking' asked')
      step2 = advance_lists q1.done (next == count) (is_complete q2.phase) (part_of (buffers_of q1) asking asked) (part_of (buffers_of q2) asking' asked') adv.step

      pub epoch2 : q2.epoch ≡ n.queries.epoch
      epoch2 = adv.epoch ∙ ap (λ (c : State). c.epoch) push.same

      pub pulled2 : (part_of (buffers_of q2) asking' asked').pulled ≡ (part_of (buffers_of n.queries) asking asked).pulled
      pulled2 = step2.pulled ∙ (push.on asking asked is.asks.agrees).pulled

      -- the rank between its two advances
      pub halfway : IsSound (buffers_of q2) → IsBiNode T start (record { asker = n.asker; next = next; lines = n.lines; queries = q2; replies = n.replies }) asking' asked' replying replied
      halfway sound =
          let push_on = push.on asking asked is.asks.agrees in
          let dims_q2 : q2.dims ≡ n.queries.dims = adv.dims ∙ ap (λ (c : State). c.dims) push.same in
          let rank_q2 : q2.rank ≡ n.queries.rank = adv.rank ∙ ap (λ (c : State). c.rank) push.same in
          let part1 = part_of (buffers_of q1) asking asked in
          let part2 = part_of (buffers_of q2) asking' asked' in
          let part0 = part_of (buffers_of n.queries) asking asked in
          record {
            asks = record { first = epoch2 ∙ is.asks.first; begun = adv.begun; working = working2; sound = sound; agrees = adv.agrees };
            replies = is.replies;
            same_dims = dims2;
            same_rank = is.same_rank ∙ sym rank_q2;
            own_rank = is.own_rank ∙ sym rank_q2;
            all_ranks = is.all_ranks ∙ ap ranks (sym dims_q2);
            next_low = subst (λ (es : List (ℕ × Item)). next ≤ length es) same_asks push.low;
            all_pushed = λ d. eqb-true next count (sym adv.done_is ∙ d) ∙ count_is count counted;
            pushed = λ d b.
                ap (λ (ls : ItemLists). ls part2.epoch d) step2.pushed
                ∙ (ap (λ k. part1.pushed k d) step2.epoch
                ∙ push_on.pushed (subst (λ (es : List (ℕ × Item)). IsPushed es (ranks n.queries.dims) n.next part0) (sym same_asks) is.pushed) d (subst (λ (ds : List ℕ). d < ranks ds) dims_q2 b)
                ∙ ap (λ (es : List (ℕ × Item)). items_of d (take next es)) same_asks);
            answered = λ f b.
                is.answered f (subst (λ (ds : List ℕ). f < ranks ds) dims_q2 b)
                ∙ (ap (λ (ls : ItemLists). answers T start f (ls part0.epoch f)) (sym pulled2)
                ∙ ap (λ k. answers T start f (part2.pulled k f)) (sym (step2.epoch ∙ push_on.epoch)));
            over = λ d. stays2 (is.over d);
            heard = is.heard;
            read = is.read;
          }

      -- after the answers
      module _ (q3 r1 : State) (ans : AnswersQueries T n.asker q2 q3 n.replies r1) where
        phase3 : q3.phase ≡ q2.phase
        phase3 = ap (λ (c : State). c.phase) ans.same

        pub begun3 : r1.phase ≢ Dormant
        begun3 e = is.replies.begun (sym (ap (λ (c : State). c.phase) ans.same_replies) ∙ e)

        pub agrees3 : AgreesWith r1 replying replied
        agrees3 = ans.kept_replies replying replied is.replies.agrees

        pub over3 : (over : Bool) → over ≡ is_complete q3.phase → r1.done ≡ true → over ≡ true
        over3 over e d = e ∙ ap is_complete (phase3 ∙ stays2 (is.over (sym (ap (λ (c : State). c.done) ans.same_replies) ∙ d)))

        works3 : (over : Bool) → over ≡ is_complete q3.phase → over ≡ false → r1.phase ≡ Working
        works3 over e open' =
            ap (λ (c : State). c.phase) ans.same_replies
            ∙ answers2 (λ full. true≢false (sym (e ∙ ap is_complete (phase3 ∙ full)) ∙ open'))

        -- after the replies' advance
        module _ (over : Bool) (is_over : over ≡ is_complete q3.phase) (r2 : State) (replying' replied' : Logs) (adv' : Advances r1 r2 over replying replied replying' replied') where
          dims_r2 : r2.dims ≡ n.replies.dims
          dims_r2 = adv'.dims ∙ ap (λ (c : State). c.dims) ans.same_replies

          pub first4 : r2.epoch ≡ 0
          first4 = adv'.epoch ∙ (ap (λ (c : State). c.epoch) ans.same_replies ∙ is.replies.first)

          step4 : SameLists (part_of (buffers_of r1) replying replied) (part_of (buffers_of r2) replying' replied')
          step4 = advance_lists r1.done over (is_complete r2.phase) (part_of (buffers_of r1) replying replied) (part_of (buffers_of r2) replying' replied') adv'.step

          pub heard4 : HasHeard T start (ranks r2.dims) n.asker n.lines (part_of (buffers_of r2) replying' replied').pulled
          heard4 =
              let on = ans.on asking' asked' replying replied adv.agrees is.replies.agrees in
              subst (λ (ds : List ℕ). HasHeard T start (ranks ds) n.asker n.lines (part_of (buffers_of r2) replying' replied').pulled) (sym dims_r2)
              (subst (λ (ls : ItemLists). HasHeard T start (ranks n.replies.dims) n.asker n.lines ls) (sym (step4.pulled ∙ on.replied_pulled)) is.heard)

          -- after the replies are heard
          pub turned : (r3 : State) (asker' : S) (lines' : List (List ℕ)) → Hears T n.asker asker' n.lines lines' r2 r3 → AllRead r3 → IsSound (buffers_of q3) → IsSound (buffers_of r3)
              → IsBiNode T start (record { asker = asker'; next = next; lines = lines'; queries = q3; replies = r3 }) asking' asked' replying' replied'
          turned r3 asker' lines' hears read sound sound' =
              let on = ans.on asking' asked' replying replied adv.agrees is.replies.agrees in
              let push_on = push.on asking asked is.asks.agrees in
              let heard' = hears.on start replying' replied' adv'.agrees heard4 in
              let dims_q2 : q2.dims ≡ n.queries.dims = adv.dims ∙ ap (λ (c : State). c.dims) push.same in
              let dims_q3 : q3.dims ≡ n.queries.dims = ap (λ (c : State). c.dims) ans.same ∙ dims_q2 in
              let rank_q3 : q3.rank ≡ n.queries.rank = ap (λ (c : State). c.rank) ans.same ∙ (adv.rank ∙ ap (λ (c : State). c.rank) push.same) in
              let dims_r3 : r3.dims ≡ n.replies.dims = ap (λ (c : State). c.dims) hears.same ∙ dims_r2 in
              let rank_r3 : r3.rank ≡ n.replies.rank = ap (λ (c : State). c.rank) hears.same ∙ (adv'.rank ∙ ap (λ (c : State). c.rank) ans.same_replies) in
              let done_q3 : q3.done ≡ (next == count) = ap (λ (c : State). c.done) ans.same ∙ adv.done_is in
              let done_r3 : r3.done ≡ over = ap (λ (c : State). c.done) hears.same ∙ adv'.done_is in
              let part3 = part_of (buffers_of q3) asking' asked' in
              let part_r2 = part_of (buffers_of r2) replying' replied' in
              let part_r3 = part_of (buffers_of r3) replying' replied' in
              let e0 : part3.epoch ≡ (part_of (buffers_of q1) asking asked).epoch = on.asked_epoch ∙ step2.epoch in
              let moved : part3.pushed ≡ (part_of (buffers_of q1) asking asked).pushed = on.asked_pushed ∙ step2.pushed in
              let was : IsAnswered T n.asker (ranks q2.dims) (part_of (buffers_of q2) asking' asked') (part_of (buffers_of n.replies) replying replied) =
              λ f b. is.answered f (subst (λ (ds : List ℕ). f < ranks ds) dims_q2 b)
              ∙ (answer_same (is.heard.same) f ((part_of (buffers_of n.queries) asking asked).pulled (part_of (buffers_of n.queries) asking asked).epoch f)
              ∙ (ap (λ (ls : ItemLists). answers T n.asker f (ls (part_of (buffers_of n.queries) asking asked).epoch f)) (sym (step2.pulled ∙ push_on.pulled))
              ∙ ap (λ k. answers T n.asker f ((part_of (buffers_of q2) asking' asked').pulled k f)) (sym (step2.epoch ∙ push_on.epoch)))) in
              record {
                asks = record {
                  first = ap (λ (c : State). c.epoch) ans.same ∙ (adv.epoch ∙ (ap (λ (c : State). c.epoch) push.same ∙ is.asks.first));
                  begun = λ e. adv.begun (sym phase3 ∙ e);
                  working = λ d. phase3 ∙ working2 (sym (ap (λ (c : State). c.done) ans.same) ∙ d);
                  sound = sound;
                  agrees = ans.kept asking' asked' adv.agrees;
                };
                replies = record {
                  first = ap (λ (c : State). c.epoch) hears.same ∙ first4;
                  begun = λ e. adv'.begun (sym (ap (λ (c : State). c.phase) hears.same) ∙ e);
                  working = λ d. ap (λ (c : State). c.phase) hears.same ∙ adv'.works (works3 over is_over) (sym done_r3 ∙ d);
                  sound = sound';
                  agrees = hears.kept replying' replied' adv'.agrees;
                };
                same_dims = dims_r3 ∙ (is.same_dims ∙ sym dims_q3);
                same_rank = rank_r3 ∙ (is.same_rank ∙ sym rank_q3);
                own_rank = is.own_rank ∙ sym rank_q3;
                all_ranks = is.all_ranks ∙ ap ranks (sym dims_q3);
                next_low = subst (λ (es : List (ℕ × Item)). next ≤ length es) same_asks push.low;
                all_pushed = λ d. eqb-true next count (sym done_q3 ∙ d) ∙ count_is count counted;
                pushed = λ d b.
                    ap (λ (ls : ItemLists). ls part3.epoch d) moved
                    ∙ (ap (λ k. (part_of (buffers_of q1) asking asked).pushed k d) e0
                    ∙ push_on.pushed (subst (λ (es : List (ℕ × Item)). IsPushed es (ranks n.queries.dims) n.next (part_of (buffers_of n.queries) asking asked)) (sym same_asks) is.pushed) d (subst (λ (ds : List ℕ). d < ranks ds) dims_q3 b)
                    ∙ ap (λ (es : List (ℕ × Item)). items_of d (take next es)) same_asks);
                answered = λ f b.
                    ap (λ (ls : ItemLists). ls part_r3.epoch f) (hears_pushed hears adv'.agrees)
                    ∙ (ap (λ k. part_r2.pushed k f) (ap (λ (c : State). c.epoch) hears.same)
                    ∙ (ap (λ (ls : ItemLists). ls part_r2.epoch f) step4.pushed
                    ∙ (ap (λ k. (part_of (buffers_of r1) replying replied).pushed k f) step4.epoch
                    ∙ (on.answered was f (subst (λ (ds : List ℕ). f < ranks ds) (ap (λ (c : State). c.dims) ans.same) b)
                    ∙ sym (answer_same is.heard.same f (part3.pulled part3.epoch f))))));
                over = λ d. is_complete_from q3.phase (sym is_over ∙ (sym done_r3 ∙ d));
                heard = subst (λ (ds : List ℕ). HasHeard T start (ranks ds) asker' lines' part_r3.pulled) (sym (ap (λ (c : State). c.dims) hears.same)) heard';
                read = read;
              } where
                answer_same : SameTalk T start n.asker → (f : ℕ) (xs : List Item) → answers T start f xs ≡ answers T n.asker f xs
                answer_same same f xs = ap (λ (g : Item → ℕ). map (λ (x : Item). carrying (g x)) xs) (λ i x. sym (same.answer f x.a) i)

                hears_pushed : Hears T n.asker asker' n.lines lines' r2 r3 → AgreesWith r2 replying' replied' → (part_of (buffers_of r3) replying' replied').pushed ≡ (part_of (buffers_of r2) replying' replied').pushed
                hears_pushed h a = ap (λ (c : State). (part_of (buffers_of c) replying' replied').pushed) h.same
