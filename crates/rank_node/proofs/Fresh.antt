-- A node that hasn't turned.
use Rattle.std.proofs.Common.{◌≡◌, ◌≢◌, ℕ, ◌==◌, ◌≤◌, nat_lt, Bool, true, false, cond, List, [], length, replicate, None, refl, sym, ap, subst, ◌∙◌, arith, get_or}
use Rattle.std.proofs.lemmas.Bool.{false≢true}
use Rattle.std.proofs.Math.Seq.{take-nil}
use Rattle.route_tensor.specs.Grid.{ranks}
use Rattle.port_bank.specs.Machine.{Part}
use Rattle.port_bank.specs.Machine.Step.{Idle}
use Rattle.hop_core.specs.declared.phase.Phase.{Phase}
use Rattle.hop_core.specs.declared.phase.Phase.TheVariants.{Dormant, Working}
use Rattle.hop_core.specs.Link.{no_out, no_in}
use Rattle.hop_core.specs.State.{State}
use Rattle.convey.specs.Buffers.{buffers_of}
use Rattle.convey.specs.Conveyors.{AgreesWith, KeepsAgreement, IsStepOf}
use Rattle.convey.specs.Law.{IsSound}
use Rattle.exstack.specs.Links.{no_stack_out as stack_out}
use Rattle.exstack.specs.State.{Stack}
use Rattle.exstack.specs.State.{stack_dims}
use Rattle.exstack.specs.State.{new_stack, stack_out_at}
use Rattle.exstack.specs.Cycles.{items}
use Rattle.exstack.specs.Agreement.{AgreesIn}
use Rattle.exstack.specs.Parts.{stack_pushed_to}
use Rattle.exstack.specs.Standing.{IsStack}
use Rattle.round_program.specs.Rules.{Rules}
use Rattle.round_program.specs.Epochs.{Own}
use Rattle.round_program.specs.Orders.{fitting}
use Rattle.round_program.proofs.Orders.{upto_ext, upto_none}
use Rattle.round_program.proofs.Steps.{own_start}
use Rattle.rank_node.specs.declared.sends.Sends.TheVariants.{Emissions}
use Rattle.rank_node.specs.Movers.{MoverState, Manner, mover_dims, mover_rank, epoch_in, part_in, HasCap, IsNew}
use Rattle.rank_node.specs.Movers.MoverState.{Conveying, Stacking}
use Rattle.rank_node.specs.Movers.Manner.{ByConveyor, ByExstack}
use Rattle.rank_node.specs.Sending.{to_send}
use Rattle.rank_node.specs.Runs.{Running, part_lists, from_round, HasTaken}
use Rattle.rank_node.specs.Cycles.{IsInCycle}
use Rattle.rank_node.specs.Nodes.{IsNode, IsNewNode}
use Rattle.rank_node.proofs.Begun.{no_logs, Empty, new_part, new_links, same_or}
use Rattle.rank_node.proofs.Onward.{paced_start}
use Rattle.rank_node.proofs.Next.{cycle_at_start}

-- the first epoch, in which nothing was pushed or pulled
pub fresh_taken : {S : Type 0} (R : Rules S) (p rank : ℕ) (prog : S) (part : Part) → part.epoch ≡ 0 → part.done ≡ false → ((e d : ℕ) → (part.pushed e d ≡ []) × (part.pulled e d ≡ []))
    → R.valid prog → R.rank prog ≡ rank → R.ranks prog ≡ p → HasTaken R p rank (λ m. prog) 0 Emissions 0 prog 0 false part
fresh_taken R p rank prog part first not_done none valid own all =
    record {
      passed = record {
        epoch = first;
        valid = valid;
        own_rank = own;
        all_ranks = all;
        own_round = refl;
        few = omega arith;
        own = subst (λ e. Own (from_round (R.round prog) R) p e e (λ m. prog) (part_lists part)) (sym first) (own_start (from_round (R.round prog) R) p (λ m. prog) (part_lists part));
        goes = λ m next. absurd (omega arith);
        emitted_front = λ m d b c. absurd (omega (arith, c, first));
        one_vote = λ m d b c. absurd (omega (arith, c, first));
        ahead = λ e d b. none e d;
      };
      within = record {
        next_low = omega arith;
        all_pushed = λ d. absurd (false≢true (sym not_done ∙ d));
        pushed = λ d b. (none part.epoch d).0;
        emissions = λ s. refl;
        nothing = λ s. absurd (cc);
        works = λ clean. sym (upto_ext R prog (λ f. fitting R prog f (part.pulled 0 f)) (λ f. []) p (λ f b. ap (fitting R prog f) (none 0 f).1) ∙ upto_none R prog p);
        vote = λ v q s. absurd (cc);
        emitted_all = λ b. absurd (false≢true b);
        hears = λ b. absurd (false≢true b);
      };
    }

not_dormant : (p : Phase) → p ≡ Working → p ≢ Dormant
not_dormant p w d = absurd (cc)

fresh_at : {S : Type 0} (R : Rules S) (prog : S) (dims : List ℕ) (manner : Manner) (m : MoverState) → IsNew dims (R.rank prog) manner m → R.valid prog → R.ranks prog ≡ ranks dims
    → IsNode R (λ k. prog) (record { run = record { prog = prog; round = 0; sends = Emissions; next = 0; sum = 0; spoiled = false }; mover = m }) no_logs no_logs
fresh_at R prog dims manner m new valid all =
    let t : HasTaken R (ranks (mover_dims m)) (mover_rank m) (λ k. prog) 0 Emissions 0 prog 0 false (part_in m no_logs no_logs) =
    fresh_taken R (ranks (mover_dims m)) (mover_rank m) prog (part_in m no_logs no_logs) (part_epoch m ∙ new.first) new.not_done new.none valid (sym new.same_rank) (all ∙ ap ranks (sym new.same_dims)) in
    record { moving = new.moving; paced = paced_start R (record { prog = prog; round = 0; sends = Emissions; next = 0; sum = 0; spoiled = false }) m new.starts; passed = t.passed; within = t.within } where
      part_epoch : (m : MoverState) → (part_in m no_logs no_logs).epoch ≡ epoch_in m
      part_epoch (Conveying c) = refl
      part_epoch (Stacking cap x) = refl

-- an unused exstack is in cycle 0
fresh_cycle : {S : Type 0} (R : Rules S) (quota : ℕ → ℕ) (run : Running S) (dims : List ℕ) (rank : ℕ) (manner : Manner) (m : MoverState) → IsNew dims rank manner m → length (to_send R run.prog run.sends) ≤ quota 0 → IsInCycle R quota 0 run m no_logs no_logs
fresh_cycle R quota run dims rank manner (Conveying c) new few = tt
fresh_cycle R quota run dims rank manner (Stacking k x) new few =
    cycle_at_start R quota run k x no_logs no_logs new.moving new.starts (subst (λ e. length (to_send R run.prog run.sends) ≤ quota e) (sym new.first) few) (λ e b m p low at last. absurd (cc))

pub fresh_node : {S : Type 0} (R : Rules S) (cap : ℕ) (prog : S) (dims : List ℕ) (manner : Manner) (m : MoverState) → IsNew dims (R.rank prog) manner m → HasCap cap m → R.valid prog → R.ranks prog ≡ ranks dims
    → IsNewNode R cap dims manner prog (record { run = record { prog = prog; round = 0; sends = Emissions; next = 0; sum = 0; spoiled = false }; mover = m })
fresh_node R cap prog dims manner m new has valid all =
    record {
      node = fresh_at R prog dims manner m new valid all;
      prog = refl;
      next = refl;
      mover = new;
      same_cap = has;
      cycle = λ quota few. fresh_cycle R quota (record { prog = prog; round = 0; sends = Emissions; next = 0; sum = 0; spoiled = false }) dims (R.rank prog) manner m new few;
    }

-- a conveyor that has begun its first epoch
pub new_conveying : (dims : List ℕ) (n : ℕ) (steady : Bool) (st st' : State) → st.outs ≡ replicate n no_out → st.ins ≡ replicate n no_in → st.done ≡ false → st.epoch ≡ 0 → st.dims ≡ dims → st.steady ≡ steady
    → AgreesWith st no_logs no_logs → st' ≡ record st { phase = Working; pulled = None } → KeepsAgreement st st' → IsStepOf Idle st st' → IsSound (buffers_of st')
    → IsNew dims st.rank (ByConveyor steady) (Conveying st')
new_conveying dims n steady st st' outs ins done first same_dims same_steady agrees new kept step sound =
    let is : Empty st = new_links n st outs ins done in
    let is' : Empty st' = new_links n st' (ap (λ (t : State). t.outs) new ∙ outs) (ap (λ (t : State). t.ins) new ∙ ins) (ap (λ (t : State). t.done) new ∙ done) in
    let phase : st'.phase ≡ Working = ap (λ (t : State). t.phase) new in
    record {
      same_dims = ap (λ (t : State). t.dims) new ∙ same_dims;
      same_rank = ap (λ (t : State). t.rank) new;
      same_manner = ap (λ (t : State). ByConveyor t.steady) new ∙ ap ByConveyor same_steady;
      first = ap (λ (t : State). t.epoch) new ∙ first;
      moving = record {
        begun = λ e. not_dormant st'.phase phase e;
        working = λ d. phase;
        sound = sound;
        agrees = kept no_logs no_logs agrees;
        read = λ l below to hop. is'.ins l;
      };
      starts = tt;
      not_done = is'.not_done;
      none = new_part st' is';
      unread = is'.ins;
    }

-- an exstack of which nothing was used
pub new_stacking : (dims : List ℕ) (rank cap : ℕ) (x : Stack) → x ≡ new_stack (ranks dims) rank → stack_dims x ≡ dims → AgreesIn 0 x no_logs no_logs → IsStack cap x → IsNew dims rank ByExstack (Stacking cap x)
new_stacking dims rank cap x made same agrees standing =
    record {
      same_dims = same;
      same_rank = ap (λ (t : Stack). t.rank) made;
      same_manner = refl;
      first = ap (λ (t : Stack). t.epoch) made;
      moving = record { stack = standing; agrees = record { cycle = 0; agrees = agrees } };
      starts = ap (λ (t : Stack). t.stage) made;
      not_done = ap (λ (t : Stack). t.done) made;
      none = λ e d. (by (nat_lt d x.ranks) (pushed_none e d), by (nat_lt d x.ranks) (take-nil _));
      unread = tt;
    } where
      by : {X : Type 0} {y : List X} (b : Bool) → y ≡ [] → cond b y [] ≡ []
      by true e = e
      by false e = refl

      waiting : (d : ℕ) → (stack_out_at x d).waiting ≡ []
      waiting d = ap (λ os. (get_or os d stack_out).waiting) (ap (λ (t : Stack). t.outs) made) ∙ ap (λ o. o.waiting) (same_or (ranks dims) d stack_out)

      pushed_none : (e d : ℕ) → stack_pushed_to x no_logs e d ≡ []
      pushed_none e d = by (e == x.epoch) (ap items (waiting d))
