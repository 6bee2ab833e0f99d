-- What holds of an exstack as a round begins.
use Rattle.std.proofs.Common.{◌≡◌, ℕ, ◌+◌, ◌*◌, ◌<◌, ◌==◌, ◌||◌, Bool, true, false, not, cond, map, List, [], length, get_or, Option, Some, None, refl, sym, ap, subst, ◌∙◌, arith}
use Rattle.std.proofs.lemmas.Bool.{false≢true, false_from_ne_true}
use Rattle.std.proofs.lemmas.List.{length-map, get_or-map}
use Rattle.bale_items.specs.declared.item.Entry.{Entry}
use Rattle.item_buffer.specs.Contents.{Shipped}
use Rattle.port_bank.specs.Logs.{Logs, segment}
use Rattle.exstack.specs.declared.stage.Stage.{Stage}
use Rattle.exstack.specs.declared.stage.Stage.TheVariants.{Start, Proceeding, Filling, Exchanging, Full, AllDone}
use Rattle.exstack.specs.Links.{StackOut, StackIn, no_stack_out, no_stack_in, with_put_back, begun_out, begun_in}
use Rattle.exstack.specs.State.{Stack, stack_out_at, stack_in_at, stack_link_to, stack_link_from, is_proceeding, is_exchanging, may_proceed, may_exchange, in_proceed, in_exchange}
use Rattle.exstack.specs.Standing.{IsStackOut, IsStackIn, IsStack, IsKeptStack, may_wait}
use Rattle.exstack.specs.Cycles.{entries_exchanged, exchange_parcel, entries_if_any}
use Rattle.list_laws.specs.Lists.{Ends}
use Rattle.exstack.specs.Agreement.{LinkAgrees, AgreesIn, rounds_in, cycle_after, back_first}
use Rattle.exstack.proofs.Calls.{not_both}
use Rattle.exstack.proofs.OneLink.{ends_none, ends_less}

not_true : (b : Bool) → not b ≡ false → b ≡ true
not_true true h = refl
not_true false h = absurd (false≢true (sym h))

not_false : (b : Bool) → not b ≡ true → b ≡ false
not_false true h = absurd (false≢true h)
not_false false h = refl

-- a stage outside of rounds, in which no exchange parcel waits for long
pub record Between (stage : Stage) : Type 0 where
  pub no_round : (is_proceeding stage || is_exchanging stage) ≡ false

none_due : (stage : Stage) (due : Bool) → Between stage → (due ≡ true → (is_proceeding stage || is_exchanging stage) ≡ true) → due ≡ false
none_due stage due b round = false_from_ne_true due (λ d. not_both (is_proceeding stage || is_exchanging stage) (round d) b.no_round)

-- a proceed round begins
module _ (cap : ℕ) (stage : Stage) (done0 done : Bool) (stays : done0 ≡ true → done ≡ true) where
  pub out_proceeds : (o : StackOut) → Between stage → ((due : Bool) → may_wait stage due ≡ false) → IsStackOut cap stage done0 o → IsStackOut cap Proceeding done (begun_out o)
  out_proceeds o b wait s = record {
    fits = s.fits;
    closed_empty = s.closed_empty;
    closed_done = λ h. stays (s.closed_done h);
    done_closed = λ h f. not_true o.closed f;
    due_open = λ h. not_false o.closed h;
    due_round = λ h. refl;
    due_exchange = λ h f. absurd (false≢true f);
    sent_on = λ h. s.sent_on (wait o.due);
  }

in_proceeds : (i : StackIn) → IsStackIn Proceeding (begun_in i)
in_proceeds i = record { due_open = λ h. not_false i.ended h; due_empty = λ h. refl; due_round = λ h. refl; read = λ h. refl; all_ended = λ h. absurd (false≢true h) }

-- an exchange round begins
out_exchanges : (cap : ℕ) (done : Bool) (o : StackOut) → IsStackOut cap Filling done o → IsStackOut cap Exchanging done (begun_out o)
out_exchanges cap done o s =
    let b : Between Filling = record { no_round = refl } in
    let d : o.due ≡ false = none_due Filling o.due b s.due_round in
    record {
      fits = s.fits;
      closed_empty = s.closed_empty;
      closed_done = s.closed_done;
      done_closed = λ h f. not_true o.closed f;
      due_open = λ h. not_false o.closed h;
      due_round = λ h. refl;
      due_exchange = λ h f. false_from_ne_true done (λ e. not_both o.closed (s.done_closed e d) (not_false o.closed h));
      sent_on = λ h. s.closed_empty (not_true o.closed h);
    }

in_exchanges : (i : StackIn) → IsStackIn Exchanging (begun_in i)
in_exchanges i = record { due_open = λ h. not_false i.ended h; due_empty = λ h. refl; due_round = λ h. refl; read = λ h. absurd (false≢true (sym h)); all_ended = λ h. absurd (false≢true h) }

-- the links of a state after its round began
pub begun_outs : (outs : List StackOut) (b : ℕ) (d : StackOut) → b < length (map begun_out outs) → get_or (map begun_out outs) b d ≡ begun_out (get_or outs b no_stack_out)
begun_outs outs b d w = get_or-map begun_out outs b no_stack_out d (omega (arith, w, length-map outs begun_out))

pub begun_ins : (ins : List StackIn) (a : ℕ) (d : StackIn) → a < length (map begun_in ins) → get_or (map begun_in ins) a d ≡ begun_in (get_or ins a no_stack_in)
begun_ins ins a d w = get_or-map begun_in ins a no_stack_in d (omega (arith, w, length-map ins begun_in))

none_some : (a : ℕ) → None ≡ Some a → ⊥
none_some a e = cc

module _ (cap : ℕ) (st : Stack) (from : ℕ) (stage : Stage) (done : Bool) (k : IsKeptStack cap st from) (each_out : (o : StackOut) → IsStackOut cap st.stage st.done o → IsStackOut cap stage done (begun_out o))
    (each_in : (i : StackIn) → IsStackIn stage (begun_in i)) where
  pub begun_kept : IsKeptStack cap (record st { stage = stage; done = done; outs = map begun_out st.outs; ins = map begun_in st.ins; popped = None }) from
  begun_kept = record {
    standing = record {
      is_cap = k.standing.is_cap;
      rank = k.standing.rank;
      few = k.standing.few;
      all_outs = length-map st.outs begun_out ∙ k.standing.all_outs;
      all_ins = length-map st.ins begun_in ∙ k.standing.all_ins;
      each_out = λ b d w. subst (IsStackOut cap stage done) (sym (begun_outs st.outs b d w)) (each_out (get_or st.outs b no_stack_out) (k.standing.each_out b no_stack_out (omega (arith, w, length-map st.outs begun_out))));
      each_in = λ a d w. subst (IsStackIn stage) (sym (begun_ins st.ins a d w)) (each_in (get_or st.ins a no_stack_in));
      can_unpop = λ a e. absurd (none_some a e);
    };
    from_high = k.from_high;
    from_none = λ a w. ap (λ (i : StackIn). i.unread) (begun_ins st.ins a no_stack_in (omega (arith, w, k.from_high, k.standing.all_ins, length-map st.ins begun_in)));
  }

-- the stages in which a round may begin
proceed_between : (stage : Stage) → may_proceed stage ≡ true → is_proceeding stage ≡ false → Between stage × ((due : Bool) → may_wait stage due ≡ false)
proceed_between Start m p = (record { no_round = refl }, λ due. refl)
proceed_between Proceeding m p = absurd (false≢true (sym p))
proceed_between Filling m p = absurd (false≢true m)
proceed_between Exchanging m p = absurd (false≢true m)
proceed_between Full m p = (record { no_round = refl }, λ due. refl)
proceed_between AllDone m p = absurd (false≢true m)

pub exchange_filling : (stage : Stage) → may_exchange stage ≡ true → is_exchanging stage ≡ false → stage ≡ Filling
exchange_filling Start m p = absurd (false≢true m)
exchange_filling Proceeding m p = absurd (false≢true m)
exchange_filling Filling m p = refl
exchange_filling Exchanging m p = absurd (false≢true (sym p))
exchange_filling Full m p = absurd (false≢true m)
exchange_filling AllDone m p = absurd (false≢true m)

-- so the exstack is one after the beginning
pub proceed_kept : (cap : ℕ) (st : Stack) (from : ℕ) (done : Bool) → IsKeptStack cap st from → may_proceed st.stage ≡ true → is_proceeding st.stage ≡ false → (st.done ≡ true → done ≡ true)
    → IsKeptStack cap (record st { stage = Proceeding; done = done; outs = map begun_out st.outs; ins = map begun_in st.ins; popped = None }) from
proceed_kept cap st from done k may not_yet stays =
    let b = proceed_between st.stage may not_yet in
    begun_kept cap st from Proceeding done k (λ o s. out_proceeds cap st.stage st.done done stays o b.0 b.1 s) in_proceeds

pub exchange_kept : (cap : ℕ) (st : Stack) (from : ℕ) → IsKeptStack cap st from → st.stage ≡ Filling
    → IsKeptStack cap (record st { stage = Exchanging; outs = map begun_out st.outs; ins = map begun_in st.ins; popped = None }) from
exchange_kept cap st from k filling = begun_kept cap st from Exchanging st.done k (λ o s. out_exchanges cap st.done o (subst (λ g. IsStackOut cap g st.done o) filling s)) in_exchanges

-- a link as its round begins: its parcel of the round is due, unless the link is through with the
-- epoch
link_begun : (e rounds : ℕ) (through due : Bool) (log : List Shipped) → due ≡ false → LinkAgrees e rounds through due log → LinkAgrees e (rounds + 1) through (not through) log
link_begun e rounds through due log none a = record {
  ended = a.ended;
  by_last = a.by_last;
  each_round = λ h.
      let all : length (segment e log) + 0 ≡ rounds = subst (λ d. length (segment e log) + cond d 1 0 ≡ rounds) none (a.each_round h) in
      subst (λ t. length (segment e log) + cond (not t) 1 0 ≡ rounds + 1) (sym h) (omega (arith, all));
  until = λ h. omega (arith, a.until h);
}

-- without the right to unpop
pub forget : {whole : List Entry} (popped : Option ℕ) (a : ℕ) (i : StackIn) → Ends whole (back_first popped a i) → Ends whole i.unread
forget None a i e = e
forget (Some p) a i e = by_test (p == a) i.back e
  where
    by_test : {whole : List Entry} (b : Bool) (back : Option Entry) → Ends whole (cond b (with_put_back back i).unread i.unread) → Ends whole i.unread
    by_test true None e = e
    by_test true (Some x) e = ends_less _ x i.unread e
    by_test false back e = e

pub agrees_rest : (n : ℕ) (st : Stack) (sent got : Logs) → AgreesIn n st sent got → AgreesIn n (record st { popped = None }) sent got
agrees_rest n st sent got a = record {
  outs = a.outs;
  ins = a.ins;
  shapes = a.shapes;
  law = a.law;
  came = λ b w. forget st.popped b (stack_in_at st b) (a.came b w);
  in_cycle = λ b w. forget st.popped b (stack_in_at st b) (a.in_cycle b w);
  own = a.own;
}

-- a new round, of cycle m
module _ (cap n m : ℕ) (st : Stack) (stage : Stage) (done : Bool) (sent got : Logs) (s : IsStack cap st) (between : Between st.stage) (more : rounds_in m stage ≡ rounds_in n st.stage + 1)
    (a : AgreesIn n st sent got) where
  begun : Stack
  begun = record st { stage = stage; done = done; outs = map begun_out st.outs; ins = map begun_in st.ins; popped = None }

  out_begun : (b : ℕ) → b < st.ranks → get_or (map begun_out st.outs) b no_stack_out ≡ begun_out (stack_out_at st b)
  out_begun b w = begun_outs st.outs b no_stack_out (omega (arith, w, s.all_outs, length-map st.outs begun_out))

  in_begun : (b : ℕ) → b < st.ranks → get_or (map begun_in st.ins) b no_stack_in ≡ begun_in (stack_in_at st b)
  in_begun b w = begun_ins st.ins b no_stack_in (omega (arith, w, s.all_ins, length-map st.ins begun_in))

  empty : (b : ℕ) → b < st.ranks → [] ≡ (get_or (map begun_in st.ins) b no_stack_in).unread
  empty b w = sym (ap (λ (i : StackIn). i.unread) (in_begun b w))

  pub agrees_begun : AgreesIn m (record st { stage = stage; done = done; outs = map begun_out st.outs; ins = map begun_in st.ins; popped = None }) sent got
  agrees_begun = record {
    outs = λ b w.
        let o : StackOut = stack_out_at st b in
        let d : o.due ≡ false = none_due st.stage o.due between (s.each_out b no_stack_out (omega (arith, w, s.all_outs))).due_round in
        subst (λ (z : StackOut). LinkAgrees st.epoch (rounds_in m stage) z.closed z.due (sent (stack_link_to st b))) (sym (out_begun b w))
        (subst (λ r. LinkAgrees st.epoch r o.closed (not o.closed) (sent (stack_link_to st b))) (sym more) (link_begun st.epoch (rounds_in n st.stage) o.closed o.due (sent (stack_link_to st b)) d (a.outs b w)));
    ins = λ b w.
        let i : StackIn = stack_in_at st b in
        let d : i.due ≡ false = none_due st.stage i.due between (s.each_in b no_stack_in (omega (arith, w, s.all_ins))).due_round in
        subst (λ (z : StackIn). LinkAgrees st.epoch (rounds_in m stage) z.ended z.due (got (stack_link_from st b))) (sym (in_begun b w))
        (subst (λ r. LinkAgrees st.epoch r i.ended (not i.ended) (got (stack_link_from st b))) (sym more) (link_begun st.epoch (rounds_in n st.stage) i.ended i.due (got (stack_link_from st b)) d (a.ins b w)));
    shapes = a.shapes;
    law = a.law;
    came = λ b w. subst (Ends (entries_exchanged st.epoch (got (stack_link_from st b)))) (empty b w) (ends_none (entries_exchanged st.epoch (got (stack_link_from st b))));
    in_cycle = λ b w. subst (Ends (entries_if_any (exchange_parcel st.epoch m (got (stack_link_from st b))))) (empty b w) (ends_none (entries_if_any (exchange_parcel st.epoch m (got (stack_link_from st b)))));
    own = a.own;
  }

more_proceed : (n : ℕ) (stage : Stage) → may_proceed stage ≡ true → is_proceeding stage ≡ false → rounds_in (cycle_after n stage) Proceeding ≡ rounds_in n stage + 1
more_proceed n Start m p = refl
more_proceed n Proceeding m p = absurd (false≢true (sym p))
more_proceed n Filling m p = absurd (false≢true m)
more_proceed n Exchanging m p = absurd (false≢true m)
more_proceed n Full m p = omega arith
more_proceed n AllDone m p = absurd (false≢true m)

-- the agreement as a proceed round, or an exchange round, goes on
pub proceed_agrees : (cap n : ℕ) (st : Stack) (done : Bool) (sent got : Logs) → IsStack cap st → may_proceed st.stage ≡ true → AgreesIn n st sent got → AgreesIn (cycle_after n st.stage) (in_proceed done st) sent got
proceed_agrees cap n st done sent got s may a = by_stage (is_proceeding st.stage) refl
  where
    same_cycle : (stage : Stage) → is_proceeding stage ≡ true → n ≡ cycle_after n stage
    same_cycle Start h = absurd (false≢true h)
    same_cycle Proceeding h = refl
    same_cycle Filling h = refl
    same_cycle Exchanging h = refl
    same_cycle Full h = absurd (false≢true h)
    same_cycle AllDone h = refl

    by_stage : (b : Bool) → is_proceeding st.stage ≡ b
        → AgreesIn (cycle_after n st.stage) (cond b (record st { popped = None }) (record st { stage = Proceeding; done = done; outs = map begun_out st.outs; ins = map begun_in st.ins; popped = None })) sent got
    by_stage true h = subst (λ m. AgreesIn m (record st { popped = None }) sent got) (same_cycle st.stage h) (agrees_rest n st sent got a)
    by_stage false h = agrees_begun cap n (cycle_after n st.stage) st Proceeding done sent got s (proceed_between st.stage may h).0 (more_proceed n st.stage may h) a

pub exchange_agrees : (cap n : ℕ) (st : Stack) (sent got : Logs) → IsStack cap st → may_exchange st.stage ≡ true → AgreesIn n st sent got → AgreesIn n (in_exchange st) sent got
exchange_agrees cap n st sent got s may a = by_stage (is_exchanging st.stage) refl
  where
    by_stage : (b : Bool) → is_exchanging st.stage ≡ b
        → AgreesIn n (cond b (record st { popped = None }) (record st { stage = Exchanging; outs = map begun_out st.outs; ins = map begun_in st.ins; popped = None })) sent got
    by_stage true h = agrees_rest n st sent got a
    by_stage false h =
        let f : st.stage ≡ Filling = exchange_filling st.stage may h in
        agrees_begun cap n n st Exchanging st.done sent got s (subst Between (sym f) (record { no_round = refl })) (subst (λ g. 2 * n + 2 ≡ rounds_in n g + 1) (sym f) (omega arith)) a

-- what a beginning leaves as it was
pub record Begun (begun : Stack) (stage : Stage) (done : Bool) (st : Stack) : Type 0 where
  pub stage_is : begun.stage ≡ stage
  pub done_is : begun.done ≡ done
  pub forgotten : begun.popped ≡ None
  pub ranks : begun.ranks ≡ st.ranks
  pub rank : begun.rank ≡ st.rank

proceeding_is : (stage : Stage) → is_proceeding stage ≡ true → stage ≡ Proceeding
proceeding_is Start h = absurd (false≢true h)
proceeding_is Proceeding h = refl
proceeding_is Filling h = absurd (false≢true h)
proceeding_is Exchanging h = absurd (false≢true h)
proceeding_is Full h = absurd (false≢true h)
proceeding_is AllDone h = absurd (false≢true h)

exchanging_is : (stage : Stage) → is_exchanging stage ≡ true → stage ≡ Exchanging
exchanging_is Start h = absurd (false≢true h)
exchanging_is Proceeding h = absurd (false≢true h)
exchanging_is Filling h = absurd (false≢true h)
exchanging_is Exchanging h = refl
exchanging_is Full h = absurd (false≢true h)
exchanging_is AllDone h = absurd (false≢true h)

pub proceed_begun : (done : Bool) (st : Stack) → (st.stage ≡ Proceeding → done ≡ st.done) → Begun (in_proceed done st) Proceeding done st
proceed_begun done st same = by_stage (is_proceeding st.stage) refl
  where
    by_stage : (b : Bool) → is_proceeding st.stage ≡ b
        → Begun (cond b (record st { popped = None }) (record st { stage = Proceeding; done = done; outs = map begun_out st.outs; ins = map begun_in st.ins; popped = None })) Proceeding done st
    by_stage true h = let p = proceeding_is st.stage h in record { stage_is = p; done_is = sym (same p); forgotten = refl; ranks = refl; rank = refl }
    by_stage false h = record { stage_is = refl; done_is = refl; forgotten = refl; ranks = refl; rank = refl }

pub exchange_begun : (st : Stack) → Begun (in_exchange st) Exchanging st.done st
exchange_begun st = by_stage (is_exchanging st.stage) refl
  where
    by_stage : (b : Bool) → is_exchanging st.stage ≡ b
        → Begun (cond b (record st { popped = None }) (record st { stage = Exchanging; outs = map begun_out st.outs; ins = map begun_in st.ins; popped = None })) Exchanging st.done st
    by_stage true h = record { stage_is = exchanging_is st.stage h; done_is = refl; forgotten = refl; ranks = refl; rank = refl }
    by_stage false h = record { stage_is = refl; done_is = refl; forgotten = refl; ranks = refl; rank = refl }
