-- Within a round an exstack waits for a parcel.
use Rattle.std.proofs.Common.{◌≡◌, ℕ, ◌||◌, Bool, true, false, cond, map, Option, Some, None, refl, sym, ap, ◌∙◌, arith, inl, inr}
use Rattle.std.specs.List.{position}
use Rattle.std.proofs.lemmas.Bool.{false≢true}
use Rattle.std.proofs.lemmas.List.Quantifiers.{position-Some}
use Rattle.exstack.specs.declared.stage.Stage.{Stage}
use Rattle.exstack.specs.declared.stage.Stage.TheVariants.{Start, Proceeding, Filling, Exchanging, Full, AllDone}
use Rattle.exstack.specs.declared.stage.Poll.{Poll}
use Rattle.exstack.specs.declared.stage.Poll.TheVariants as poll
use Rattle.exstack.specs.declared.stage.Proceed.{Proceed}
use Rattle.exstack.specs.declared.stage.Proceed.TheVariants as proceed
use Rattle.exstack.specs.Links.{StackOut, StackIn, no_stack_out, no_stack_in, begun_out, begun_in}
use Rattle.exstack.specs.State.{Stack, missing_link, missing_out, missing_in, all_ended, proceed_answer, exchange_answer, stage_of_proceed, stage_of_exchange, is_proceeding, is_exchanging, may_proceed, may_exchange, in_proceed}
use Rattle.exstack.specs.Standing.{IsStack}
use Rattle.rank_node.specs.Cycles.{Awaits, IsOnward}
use Rattle.exstack.specs.State.{has_proceeded, has_exchanged}

-- a parcel is due where the round waits for a link
module _ (cap : ℕ) (x : Stack) (s : IsStack cap x) where
  by_places : (o i : Option ℕ) → position (λ (k : StackOut). k.due) x.outs ≡ o → position (λ (k : StackIn). k.due) x.ins ≡ i
      → (missing_link x ≡ None → (is_proceeding x.stage || is_exchanging x.stage) ≡ false) → Awaits x
  by_places (Some b) i eo ei none = λ within. let p = position-Some (λ (k : StackOut). k.due) x.outs b no_stack_out eo in inl (record { other = b; low = omega (arith, p.0, s.all_outs); due = p.1 })
  by_places None (Some a) eo ei none = λ within. let p = position-Some (λ (k : StackIn). k.due) x.ins a no_stack_in ei in inr (record { other = a; low = omega (arith, p.0, s.all_ins); due = p.1 })
  by_places None None eo ei none = λ within.
      let missing : missing_link x ≡ None = ap (λ o. missing_out x.ranks x.rank o x.ins) eo ∙ ap (missing_in x.ranks x.rank) ei in
      absurd (false≢true (sym (none missing) ∙ within))

  awaits_where : (missing_link x ≡ None → (is_proceeding x.stage || is_exchanging x.stage) ≡ false) → Awaits x
  awaits_where none = by_places (position (λ (k : StackOut). k.due) x.outs) (position (λ (k : StackIn). k.due) x.ins) refl refl none

  pub proceed_awaits : (p : Proceed) → p ≡ proceed_answer (missing_link x) (all_ended x) → x.stage ≡ stage_of_proceed p → Awaits x
  proceed_awaits p answer stage =
      awaits_where (λ none. ap (λ (t : Stage). is_proceeding t || is_exchanging t) (stage ∙ ap stage_of_proceed (answer ∙ ap (λ o. proceed_answer o (all_ended x)) none)) ∙ settled (all_ended x)) where
        settled : (b : Bool) → (is_proceeding (stage_of_proceed (proceed_answer None b)) || is_exchanging (stage_of_proceed (proceed_answer None b))) ≡ false
        settled true = refl
        settled false = refl

  pub exchange_awaits : (p : Poll) → p ≡ exchange_answer (missing_link x) → x.stage ≡ stage_of_exchange p → Awaits x
  exchange_awaits p answer stage =
      awaits_where (λ none. ap (λ (t : Stage). is_proceeding t || is_exchanging t) (stage ∙ ap stage_of_exchange (answer ∙ ap exchange_answer none)))

-- a poll's stages
pub proceeded_stage : (p : Proceed) → has_proceeded (stage_of_proceed p) ≡ true
proceeded_stage proceed.GoOn = refl
proceeded_stage proceed.AllDone = refl
proceeded_stage (proceed.NotYet link) = refl

pub exchanged_stage : (p : Poll) → has_exchanged (stage_of_exchange p) ≡ true
exchanged_stage poll.Ready = refl
exchanged_stage (poll.NotYet link) = refl

-- a proceed round goes on only where not every link in has ended
pub filling_open : (p : Proceed) (missing : Option ℕ) (ended : Bool) → p ≡ proceed_answer missing ended → stage_of_proceed p ≡ Filling → ended ≡ false
filling_open p (Some link) ended is s = absurd (apart (sym (ap stage_of_proceed is) ∙ s)) where
  apart : Proceeding ≡ Filling → ⊥
  apart e = absurd (cc)
filling_open p None true is s = absurd (apart (sym (ap stage_of_proceed is) ∙ s)) where
  apart : AllDone ≡ Filling → ⊥
  apart e = absurd (cc)
filling_open p None false is s = refl

pub proceeding_apart : (s : Stage) → s ≡ Proceeding → s ≡ Filling → ⊥
proceeding_apart s a b = absurd (cc)

-- a proceed round begins at the same rank
pub proceed_ranks : (done : Bool) (st : Stack) → (in_proceed done st).ranks ≡ st.ranks
proceed_ranks done st = elim (is_proceeding st.stage) as (λ b. (cond b (record st { popped = None }) (record st { stage = Proceeding; done = done; outs = map begun_out st.outs; ins = map begun_in st.ins; popped = None })).ranks ≡ st.ranks) [ true ↦ refl | false ↦ refl ]

pub proceed_rank : (done : Bool) (st : Stack) → (in_proceed done st).rank ≡ st.rank
proceed_rank done st = elim (is_proceeding st.stage) as (λ b. (cond b (record st { popped = None }) (record st { stage = Proceeding; done = done; outs = map begun_out st.outs; ins = map begun_in st.ins; popped = None })).rank ≡ st.rank) [ true ↦ refl | false ↦ refl ]

-- the stage in which a poll leaves an exstack follows that at entry
pub proceeds_onward : (s s' : Stage) → may_proceed s ≡ true → has_proceeded s' ≡ true → IsOnward s s'
proceeds_onward Start s' may h = h
proceeds_onward Proceeding s' may h = h
proceeds_onward Filling s' may h = absurd (false≢true may)
proceeds_onward Exchanging s' may h = absurd (false≢true may)
proceeds_onward Full s' may h = h
proceeds_onward AllDone s' may h = absurd (false≢true may)

pub exchanges_onward : (s s' : Stage) → may_exchange s ≡ true → has_exchanged s' ≡ true → IsOnward s s'
exchanges_onward Start s' may h = absurd (false≢true may)
exchanges_onward Proceeding s' may h = absurd (false≢true may)
exchanges_onward Filling s' may h = h
exchanges_onward Exchanging s' may h = h
exchanges_onward Full s' may h = absurd (false≢true may)
exchanges_onward AllDone s' may h = absurd (false≢true may)
