-- What a poll leaves of a node over an exstack.
use Rattle.std.proofs.Common.{◌≡◌, ℕ, ◌+◌, ◌<◌, ◌≤◌, ◌==◌, ◌||◌, Bool, true, false, cond, List, [], ◌∷◌, ◌++◌, length, refl, sym, ap, subst, ◌∙◌, arith, inl, inr, eqb-true}
use Rattle.std.proofs.lemmas.Bool.{cases_Bool, cases_lt, true≢false, eq-eqb, ne_eqb}
use Rattle.std.proofs.lemmas.List.{length-append, append-nil}
use Rattle.route_tensor.specs.Grid.{ranks}
use Rattle.route_tensor.specs.Link.{links, link}
use Rattle.route_tensor.specs.Ends.{hop_at, sender_at, reader_at}
use Rattle.port_bank.specs.Logs.{Logs}
use Rattle.port_bank.specs.Shapes.{IsExstackShape}
use Rattle.port_bank.specs.Machine.{Part, IsOwnStep, after}
use Rattle.port_bank.specs.Machine.Step.{Done, Idle}
use Rattle.port_bank.proofs.Routes.{numbered}
use Rattle.exstack.specs.declared.stage.Stage.{Stage}
use Rattle.exstack.specs.declared.stage.Stage.TheVariants.{Proceeding, Filling, Exchanging, AllDone}
use Rattle.exstack.specs.declared.stage.Poll.{Poll}
use Rattle.exstack.specs.declared.stage.Poll.TheVariants.{Ready, NotYet}
use Rattle.exstack.specs.Links.{no_stack_out, no_stack_in}
use Rattle.exstack.specs.State.{Stack, stack_dims, stack_out_at, stack_in_at, number, stack_link_to, stack_link_from, is_proceeding, is_exchanging, stage_of_exchange}
use Rattle.exstack.specs.Steps.{MadeRound, was_moved}
use Rattle.exstack.specs.Agreement.{StackAgrees}
use Rattle.exstack.specs.Parts.{stack_part, AreOwnSteps, proceed_steps}
use Rattle.exstack.specs.State.{is_all_done}
use Rattle.exstack.specs.Standing.{IsStack}
use Rattle.exstack.proofs.OneHop.{ranks_one, grid_one, link_one}
use Rattle.round_program.specs.Rules.{Rules}
use Rattle.rank_node.specs.declared.sends.Sends.{Sends}
use Rattle.rank_node.specs.Sending.{to_send, is_voting}
use Rattle.rank_node.specs.Movers.MoverState.{Stacking}
use Rattle.rank_node.specs.Runs.{Running, HasTaken}
use Rattle.rank_node.specs.Pulls.{PopsItems, FillsItems}
use Rattle.rank_node.specs.Nodes.{IsNode}
use Rattle.rank_node.specs.Moves.{AfterMoves, AfterFill, WaitsFor}
use Rattle.rank_node.proofs.Ballots.{same_sends}
use Rattle.rank_node.proofs.Took.{taken_same}
use Rattle.rank_node.proofs.Moved.{pushed_taken, advanced_taken}

-- a rank's link on one hop, by the rank at its other end
pub record Toward (n r l : ℕ) : Type 0 where
  pub other : ℕ
  pub low : other < n
  pub out : l ≡ number n r other

pub record From (n r l : ℕ) : Type 0 where
  pub other : ℕ
  pub low : other < n
  pub in' : l ≡ number n other r

one_hop : (n l : ℕ) → 0 < n → n ≤ 64 → l < links (n ∷ []) → (sender_at (n ∷ []) l < n) × (reader_at (n ∷ []) l < n) × (l ≡ number n (sender_at (n ∷ []) l) (reader_at (n ∷ []) l))
one_hop n l some few below =
    let k = numbered (n ∷ []) l (grid_one n some few) below in
    let hop : hop_at (n ∷ []) l ≡ 1 = omega (arith, k.is_link.first_hop, k.is_link.last_hop) in
    let from : sender_at (n ∷ []) l < n = omega (arith, k.is_link.sender, ranks_one n) in
    let to : reader_at (n ∷ []) l < n = omega (arith, k.is_link.reader, ranks_one n) in (
      from,
      to,
      sym k.number ∙ (ap (λ h. link (n ∷ []) h (sender_at (n ∷ []) l) (reader_at (n ∷ []) l)) hop ∙ link_one n (sender_at (n ∷ []) l) (reader_at (n ∷ []) l) to),
    )

pub toward : (n r l : ℕ) → 0 < n → n ≤ 64 → l < links (n ∷ []) → sender_at (n ∷ []) l ≡ r → Toward n r l
toward n r l some few below own =
    let k = one_hop n l some few below in record { other = reader_at (n ∷ []) l; low = k.1; out = k.2 ∙ ap (λ a. number n a (reader_at (n ∷ []) l)) own }

pub from : (n r l : ℕ) → 0 < n → n ≤ 64 → l < links (n ∷ []) → reader_at (n ∷ []) l ≡ r → From n r l
from n r l some few below own =
    let k = one_hop n l some few below in record { other = sender_at (n ∷ []) l; low = k.0; in' = k.2 ∙ ap (λ b. number n (sender_at (n ∷ []) l) b) own }

-- a list that got one more at most
one_more : {T : Type 0} (b : Bool) (xs ys : List T) (y : T) → ys ≡ cond b (xs ++ y ∷ []) xs → length ys ≤ length xs + 1
one_more true xs ys y e = omega (arith, ap length e, length-append xs (y ∷ []))
one_more false xs ys y e = omega (arith, ap length e)

-- what a poll says of the lists, by the state in which its round has begun
pub record Made (cap : ℕ) (x mid x' : Stack) (last exchange : Bool) (sent sent' got got' : Logs) : Type 0 where
  pub some : 0 < x.ranks
  pub few : x.ranks ≤ 64
  pub mid_ranks : mid.ranks ≡ x.ranks
  pub mid_rank : mid.rank ≡ x.rank
  pub same_ranks : x'.ranks ≡ x.ranks
  pub same_rank : x'.rank ≡ x.rank
  pub same_epoch : x'.epoch ≡ x.epoch
  pub made : MadeRound last exchange mid x' sent sent' got got'
  pub agrees : StackAgrees x' sent' got'

module _ (cap : ℕ) (x mid x' : Stack) (last exchange : Bool) (sent sent' got got' : Logs) (m : Made cap x mid x' last exchange sent sent' got got') where
  one_sent : (l : ℕ) → l < links (stack_dims x) → sender_at (stack_dims x) l ≡ x.rank → length (sent' l) ≤ length (sent l) + 1
  one_sent l below own =
      let t = toward x.ranks x.rank l m.some m.few below own in
      let e : l ≡ stack_link_to mid t.other = t.out ∙ (ap (λ n. number n x.rank t.other) (sym m.mid_ranks) ∙ ap (λ r. number mid.ranks r t.other) (sym m.mid_rank)) in
      let p = m.made.posted t.other (omega (arith, t.low, m.mid_ranks)) in
      subst (λ k. length (sent' k) ≤ length (sent k) + 1) (sym e) (one_more (was_moved (stack_out_at mid t.other).due (stack_out_at x' t.other).due) (sent (stack_link_to mid t.other)) (sent' (stack_link_to mid t.other)) _ p.sent)

  one_got : (l : ℕ) → l < links (stack_dims x) → reader_at (stack_dims x) l ≡ x.rank → length (got' l) ≤ length (got l) + 1
  one_got l below own =
      let t = from x.ranks x.rank l m.some m.few below own in
      let e : l ≡ stack_link_from mid t.other = t.in' ∙ (ap (λ n. number n t.other x.rank) (sym m.mid_ranks) ∙ ap (λ r. number mid.ranks t.other r) (sym m.mid_rank)) in
      let p = m.made.collected t.other (omega (arith, t.low, m.mid_ranks)) in
      subst (λ k. length (got' k) ≤ length (got k) + 1) (sym e) (one_more (was_moved (stack_in_at mid t.other).due (stack_in_at x' t.other).due) (got (stack_link_from mid t.other)) (got' (stack_link_from mid t.other)) _ p.got)

  shaped : (l : ℕ) → l < links (stack_dims x) → sender_at (stack_dims x) l ≡ x.rank → IsExstackShape (sent' l)
  shaped l below own =
      let t = toward x.ranks x.rank l m.some m.few below own in
      let e : l ≡ stack_link_to x' t.other = t.out ∙ (ap (λ n. number n x.rank t.other) (sym m.same_ranks) ∙ ap (λ r. number x'.ranks r t.other) (sym m.same_rank)) in
      subst (λ k. IsExstackShape (sent' k)) (sym e) (m.agrees.agrees.shapes t.other (omega (arith, t.low, m.same_ranks)))

  pub after_poll : {S : Type 0} (R : Rules S) (run run' : Running S) → run'.round ≡ run.round → run'.sends ≡ run.sends
      → ((h : ℕ → S) → IsNode R h (record { run = run; mover = Stacking cap x }) sent got → IsNode R h (record { run = run'; mover = Stacking cap x' }) sent' got')
      → AfterMoves R cap (record { run = run; mover = Stacking cap x }) (record { run = run'; mover = Stacking cap x' }) sent got sent' got'
  after_poll R run run' round sends kept =
      record {
        kept = kept;
        dims = ap (λ n. n ∷ []) m.same_ranks;
        rank = m.same_rank;
        manner = refl;
        epoch = m.same_epoch;
        round = round;
        sends = sends;
        sent_grows = m.made.sent_grows;
        got_grows = m.made.got_grows;
        one_sent = one_sent;
        one_got = one_got;
        shape = λ l below own was. shaped l below own;
      }

-- one that was made, or not: the lists stay
pub nothing_moved : {S : Type 0} (R : Rules S) (cap : ℕ) (run : Running S) (x : Stack) (sent got : Logs) → AfterMoves R cap (record { run = run; mover = Stacking cap x }) (record { run = run; mover = Stacking cap x }) sent got sent got
nothing_moved R cap run x sent got =
    record {
      kept = λ h is. is;
      dims = refl;
      rank = refl;
      manner = refl;
      epoch = refl;
      round = refl;
      sends = refl;
      sent_grows = λ l. record { rest = []; is = sym (append-nil (sent l)) };
      got_grows = λ l. record { rest = []; is = sym (append-nil (got l)) };
      one_sent = λ l below own. omega arith;
      one_got = λ l below own. omega arith;
      shape = λ l below own was. was;
    }

-- where an exstack is all done, no parcel is due
none_due : (s : Stage) → s ≡ AllDone → (is_proceeding s || is_exchanging s) ≡ true → ⊥
none_due s e h = absurd (cc)

pub waits_for_none : (cap : ℕ) (x : Stack) (got : Logs) (is_crowded is_idle : ℕ → Bool) → IsStack cap x → x.stage ≡ AllDone → WaitsFor x x got got is_crowded is_idle
waits_for_none cap x got is_crowded is_idle s over =
    record {
      posts = λ b low due same. absurd (none_due x.stage over ((s.each_out b no_stack_out (omega (arith, low, s.all_outs))).due_round due));
      collects = λ a low due. absurd (none_due x.stage over ((s.each_in a no_stack_in (omega (arith, low, s.all_ins))).due_round due));
    }

-- the steps of a proceed poll, which says that the rank is done where all is pushed
pub proceeded_taken : {S : Type 0} (R : Rules S) (p rank : ℕ) (h : ℕ → S) (round : ℕ) (sends : Sends) (next : ℕ) (prog : S) (sum : ℕ) (spoiled : Bool) (part part' : Part) (was now complete : Bool)
    → (now ≡ true → next ≡ length (to_send R prog sends)) → AreOwnSteps (proceed_steps was now complete) part part'
    → HasTaken R p rank h round sends next prog sum spoiled part → HasTaken R p rank h round sends next prog sum spoiled part'
proceeded_taken R p rank h round sends next prog sum spoiled part part' false true true all steps is =
    taken_same R p rank h round sends next prog sum spoiled (after Done part) part' steps.1.1 (advanced_taken R p rank h round sends next prog sum spoiled part (after Done part) false true true all steps.0 is)
proceeded_taken R p rank h round sends next prog sum spoiled part part' false true false all steps is =
    subst (HasTaken R p rank h round sends next prog sum spoiled) (sym steps.1) (advanced_taken R p rank h round sends next prog sum spoiled part (after Done part) false true false all steps.0 is)
proceeded_taken R p rank h round sends next prog sum spoiled part part' false false true all steps is = taken_same R p rank h round sends next prog sum spoiled part part' steps.1 is
proceeded_taken R p rank h round sends next prog sum spoiled part part' false false false all steps is = taken_same R p rank h round sends next prog sum spoiled part part' steps.1 is
proceeded_taken R p rank h round sends next prog sum spoiled part part' true true true all steps is = taken_same R p rank h round sends next prog sum spoiled part part' steps.1 is
proceeded_taken R p rank h round sends next prog sum spoiled part part' true true false all steps is = taken_same R p rank h round sends next prog sum spoiled part part' steps.1 is
proceeded_taken R p rank h round sends next prog sum spoiled part part' true false true all steps is = taken_same R p rank h round sends next prog sum spoiled part part' steps.1 is
proceeded_taken R p rank h round sends next prog sum spoiled part part' true false false all steps is = taken_same R p rank h round sends next prog sum spoiled part part' steps.1 is

-- what a proceed poll leaves of the exstack
pub record AfterProceed (cap : ℕ) (x x' : Stack) (done : Bool) (sent got sent' got' : Logs) : Type 0 where
  pub standing : IsStack cap x'
  pub agrees : StackAgrees x' sent' got'
  pub same_ranks : x'.ranks ≡ x.ranks
  pub same_rank : x'.rank ≡ x.rank
  pub done_is : x'.done ≡ done
  pub steps : AreOwnSteps (proceed_steps x.done done (is_all_done x'.stage)) (stack_part x sent got) (stack_part x' sent' got')

-- where not all is pushed something is left
pub left_over : (next count : ℕ) (done : Bool) → done ≡ (next == count) → next ≤ count → done ≡ false → next < count
left_over next count done is low d =
    elim (cases_lt next count) [
      | inl less ↦ less
      | inr more ↦ absurd (true≢false (sym (is ∙ eq-eqb next count (omega (arith, more, low))) ∙ d))
    ]

-- what the poll is told
module _ {S : Type 0} (R : Rules S) (h : ℕ → S) (run : Running S) (cap : ℕ) (x x1 : Stack) (prog : S) (sum : ℕ) (spoiled voting done : Bool) (sent got : Logs)
    (pops : PopsItems R voting x x1 run.prog prog run.sum sum run.spoiled spoiled) (all : done ≡ (run.next == length (to_send R prog run.sends))) (is : IsNode R h (record { run = run; mover = Stacking cap x }) sent got) where
  same_items : to_send R prog run.sends ≡ to_send R run.prog run.sends
  same_items = same_sends R prog run.prog run.sends pops.emissions

  -- a rank that was done is done
  pub done_keeps : x1.done ≡ true → done ≡ true
  done_keeps d =
      let was : x.done ≡ true = sym (ap (λ (t : Stack). t.done) pops.same) ∙ d in
      all ∙ eq-eqb run.next (length (to_send R prog run.sends)) (is.within.all_pushed was ∙ ap length (sym same_items))

  -- and within a round what was said stays
  pub same_done : x1.stage ≡ Proceeding → done ≡ x1.done
  same_done s =
      elim (cases_Bool x1.done) [
        | inl d ↦ done_keeps d ∙ sym d
        | inr d ↦
            let left = is.paced (sym (ap (λ (t : Stack). t.stage) pops.same) ∙ s) (sym (ap (λ (t : Stack). t.done) pops.same) ∙ d) in
            all ∙ (ne_eqb run.next (length (to_send R prog run.sends)) (λ e. omega (arith, e, left, ap length same_items)) ∙ sym d)
      ]

module _ {S : Type 0} (R : Rules S) (h : ℕ → S) (run : Running S) (cap : ℕ) (x x1 x' : Stack) (prog : S) (sum : ℕ) (spoiled voting done : Bool) (sent got sent' got' : Logs)
    (is_v : is_voting run.sends ≡ voting) (pops : PopsItems R voting x x1 run.prog prog run.sum sum run.spoiled spoiled) (all : done ≡ (run.next == length (to_send R prog run.sends)))
    (p : AfterProceed cap x1 x' done sent got sent' got') (is : IsNode R h (record { run = run; mover = Stacking cap x }) sent got) where
  h0 : HasTaken R (ranks (stack_dims x)) x.rank h run.round run.sends run.next run.prog run.sum run.spoiled (stack_part x sent got)
  h0 = record { passed = is.passed; within = is.within }

  h1 : HasTaken R (ranks (stack_dims x)) x.rank h run.round run.sends run.next prog sum spoiled (stack_part x1 sent got)
  h1 = pops.taken h x.rank run.round run.next run.sends is.moving.agrees.cycle sent got is_v is.moving.agrees.agrees h0

  h2 : HasTaken R (ranks (stack_dims x)) x.rank h run.round run.sends run.next prog sum spoiled (stack_part x' sent' got')
  h2 = proceeded_taken R (ranks (stack_dims x)) x.rank h run.round run.sends run.next prog sum spoiled (stack_part x1 sent got) (stack_part x' sent' got') x1.done done (is_all_done x'.stage)
      (λ d. eqb-true run.next (length (to_send R prog run.sends)) (sym all ∙ d)) p.steps h1

  ranks_same : x'.ranks ≡ x.ranks
  ranks_same = p.same_ranks ∙ ap (λ (t : Stack). t.ranks) pops.same

  rank_same : x'.rank ≡ x.rank
  rank_same = p.same_rank ∙ ap (λ (t : Stack). t.rank) pops.same

  pub proceeded : IsNode R h (record { run = record { prog = prog; round = run.round; sends = run.sends; next = run.next; sum = sum; spoiled = spoiled }; mover = Stacking cap x' }) sent' got'
  proceeded =
      let h3 : HasTaken R (ranks (stack_dims x')) x'.rank h run.round run.sends run.next prog sum spoiled (stack_part x' sent' got') =
      subst (λ n. HasTaken R (ranks (n ∷ [])) x'.rank h run.round run.sends run.next prog sum spoiled (stack_part x' sent' got')) (sym ranks_same)
      (subst (λ r. HasTaken R (ranks (stack_dims x)) r h run.round run.sends run.next prog sum spoiled (stack_part x' sent' got')) (sym rank_same) h2) in
      record {
        moving = record { stack = p.standing; agrees = p.agrees };
        paced = λ s d. left_over run.next (length (to_send R prog run.sends)) done all h3.within.next_low (sym p.done_is ∙ d);
        passed = h3.passed;
        within = h3.within;
      }

-- what an exchange poll leaves
pub record AfterExchange (cap : ℕ) (x x' : Stack) (sent got sent' got' : Logs) : Type 0 where
  pub standing : IsStack cap x'
  pub agrees : StackAgrees x' sent' got'
  pub same_ranks : x'.ranks ≡ x.ranks
  pub same_rank : x'.rank ≡ x.rank
  pub apart : x'.stage ≡ Proceeding → ⊥
  pub step : IsOwnStep Idle (stack_part x sent got) (stack_part x' sent' got')

pub exchanging_apart : {s : Stage} → s ≡ Exchanging → s ≡ Proceeding → ⊥
exchanging_apart e p = absurd (cc)

pub ready_apart : {s : Stage} (p : Poll) → s ≡ stage_of_exchange p → s ≡ Proceeding → ⊥
ready_apart Ready e q = absurd (cc)
ready_apart (NotYet l) e q = absurd (cc)

pub exchanged : {S : Type 0} (R : Rules S) (h : ℕ → S) (run : Running S) (cap : ℕ) (x x' : Stack) (sent got sent' got' : Logs) → AfterExchange cap x x' sent got sent' got'
    → IsNode R h (record { run = run; mover = Stacking cap x }) sent got → IsNode R h (record { run = run; mover = Stacking cap x' }) sent' got'
exchanged R h run cap x x' sent got sent' got' p is =
    let h0 : HasTaken R (ranks (stack_dims x)) x.rank h run.round run.sends run.next run.prog run.sum run.spoiled (stack_part x sent got) = record { passed = is.passed; within = is.within } in
    let h1 = taken_same R (ranks (stack_dims x)) x.rank h run.round run.sends run.next run.prog run.sum run.spoiled (stack_part x sent got) (stack_part x' sent' got') p.step.is h0 in
    let h2 : HasTaken R (ranks (stack_dims x')) x'.rank h run.round run.sends run.next run.prog run.sum run.spoiled (stack_part x' sent' got') =
    subst (λ n. HasTaken R (ranks (n ∷ [])) x'.rank h run.round run.sends run.next run.prog run.sum run.spoiled (stack_part x' sent' got')) (sym p.same_ranks)
    (subst (λ r. HasTaken R (ranks (stack_dims x)) r h run.round run.sends run.next run.prog run.sum run.spoiled (stack_part x' sent' got')) (sym p.same_rank) h1) in
    record { moving = record { stack = p.standing; agrees = p.agrees }; paced = λ s d. absurd (p.apart s); passed = h2.passed; within = h2.within }

-- what pushes leave
pub filled : {S : Type 0} (R : Rules S) (h : ℕ → S) (run : Running S) (cap : ℕ) (x x' : Stack) (next : ℕ) (sent got : Logs) → IsStack cap x' → x.stage ≡ Filling → FillsItems cap (to_send R run.prog run.sends) x x' run.next next
    → IsNode R h (record { run = run; mover = Stacking cap x }) sent got → IsNode R h (record { run = record run { next = next }; mover = Stacking cap x' }) sent got
filled R h run cap x x' next sent got standing filling fills is =
    let h0 : HasTaken R (ranks (stack_dims x)) x.rank h run.round run.sends run.next run.prog run.sum run.spoiled (stack_part x sent got) = record { passed = is.passed; within = is.within } in
    let h1 = pushed_taken R (ranks (stack_dims x)) x.rank h run.round run.sends run.next next run.prog run.sum run.spoiled (stack_part x sent got) (stack_part x' sent got)
    (fills.pushed is.moving.agrees.cycle sent got is.moving.agrees.agrees) fills.forward fills.low h0 in
    let same_ranks : x'.ranks ≡ x.ranks = ap (λ (t : Stack). t.ranks) fills.same in
    let same_rank : x'.rank ≡ x.rank = ap (λ (t : Stack). t.rank) fills.same in
    let h2 : HasTaken R (ranks (stack_dims x')) x'.rank h run.round run.sends next run.prog run.sum run.spoiled (stack_part x' sent got) =
    subst (λ n. HasTaken R (ranks (n ∷ [])) x'.rank h run.round run.sends next run.prog run.sum run.spoiled (stack_part x' sent got)) (sym same_ranks)
    (subst (λ r. HasTaken R (ranks (stack_dims x)) r h run.round run.sends next run.prog run.sum run.spoiled (stack_part x' sent got)) (sym same_rank) h1) in
    record {
      moving = record { stack = standing; agrees = record { cycle = is.moving.agrees.cycle; agrees = fills.kept is.moving.agrees.cycle sent got is.moving.agrees.agrees } };
      paced = λ s d. absurd (not_both x'.stage (ap (λ (t : Stack). t.stage) fills.same ∙ filling) s);
      passed = h2.passed;
      within = h2.within;
    } where
      not_both : (s : Stage) → s ≡ Filling → s ≡ Proceeding → ⊥
      not_both s a b = absurd (cc)

-- a turn that pushes and then polls
pub fill_then : {S : Type 0} (R : Rules S) (cap : ℕ) (run run1 run' : Running S) (x x1 x' : Stack) (sent got sent' got' : Logs) → x1 ≡ record x { outs = x1.outs; popped = x1.popped } → AfterFill R cap run run1 x x1
    → AfterMoves R cap (record { run = run1; mover = Stacking cap x1 }) (record { run = run'; mover = Stacking cap x' }) sent got sent' got'
    → AfterMoves R cap (record { run = run; mover = Stacking cap x }) (record { run = run'; mover = Stacking cap x' }) sent got sent' got'
fill_then R cap run run1 run' x x1 x' sent got sent' got' same fill moves =
    let dims : stack_dims x1 ≡ stack_dims x = ap (λ (t : Stack). stack_dims t) same in
    let rank : x1.rank ≡ x.rank = ap (λ (t : Stack). t.rank) same in
    record {
      kept = λ h is. moves.kept h (fill.kept h sent got is);
      dims = moves.dims ∙ dims;
      rank = moves.rank ∙ rank;
      manner = refl;
      epoch = moves.epoch ∙ ap (λ (t : Stack). t.epoch) same;
      round = moves.round ∙ fill.round;
      sends = moves.sends ∙ fill.sends;
      sent_grows = moves.sent_grows;
      got_grows = moves.got_grows;
      one_sent = λ l below own. moves.one_sent l (subst (λ (d : List ℕ). l < links d) (sym dims) below) (subst (λ (d : List ℕ). sender_at d l ≡ x1.rank) (sym dims) (own ∙ sym rank));
      one_got = λ l below own. moves.one_got l (subst (λ (d : List ℕ). l < links d) (sym dims) below) (subst (λ (d : List ℕ). reader_at d l ≡ x1.rank) (sym dims) (own ∙ sym rank));
      shape = λ l below own was. moves.shape l (subst (λ (d : List ℕ). l < links d) (sym dims) below) (subst (λ (d : List ℕ). sender_at d l ≡ x1.rank) (sym dims) (own ∙ sym rank)) was;
    }

-- the same rank's links are meant
pub waits_like : (x x1 x' : Stack) (got got' : Logs) (is_crowded is_idle : ℕ → Bool) → x1.ranks ≡ x.ranks → x1.rank ≡ x.rank → WaitsFor x1 x' got got' is_crowded is_idle → WaitsFor x x' got got' is_crowded is_idle
waits_like x x1 x' got got' is_crowded is_idle same_ranks same_rank w =
    record {
      posts = λ b low due same.
          let e : stack_link_to x b ≡ stack_link_to x1 b = ap (λ n. number n x.rank b) (sym same_ranks) ∙ ap (λ r. number x1.ranks r b) (sym same_rank) in
          subst (λ l. is_crowded l ≡ true) (sym e) (w.posts b (omega (arith, low, same_ranks)) due (subst (λ l. got' l ≡ got l) e same));
      collects = λ a low due.
          let e : stack_link_from x a ≡ stack_link_from x1 a = ap (λ n. number n a x.rank) (sym same_ranks) ∙ ap (λ r. number x1.ranks a r) (sym same_rank) in
          subst (λ l. is_idle l ≡ true) (sym e) (w.collects a (omega (arith, low, same_ranks)) due);
    }

-- stages that aren't Filling
pub not_filling : (s : Stage) → s ≡ Exchanging → s ≡ Filling → ⊥
not_filling s a b = absurd (cc)

pub all_done_apart : (s : Stage) → s ≡ AllDone → s ≡ Filling → ⊥
all_done_apart s a b = absurd (cc)
