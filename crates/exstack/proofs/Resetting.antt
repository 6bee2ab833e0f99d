-- A reset is a step of the exchange machine, and keeps the agreement.
use Rattle.std.proofs.Common.{◌≡◌, ℕ, ◌+◌, ◌-◌, ◌<◌, ◌≤◌, ◌==◌, Bool, true, false, cond, List, [], ◌++◌, length, take, None, refl, sym, ap, subst, ◌∙◌, arith}
use Rattle.std.proofs.lemmas.Bool.{false≢true, true_from_ne_false}
use Rattle.std.proofs.Math.ListN.{get_or-map as map_read}
use Rattle.bale_items.specs.declared.item.Entry.{Entry}
use Rattle.item_buffer.specs.Contents.{Shipped}
use Rattle.port_bank.specs.Logs.{Logs, lasts, segment, lasts_in}
use Rattle.port_bank.specs.Machine.{IsOwnStep}
use Rattle.port_bank.specs.Machine.Step.{Reset}
use Rattle.port_bank.proofs.Listing.{lists_same, same_part}
use Rattle.port_bank.proofs.Segments.{lasts_begins}
use Rattle.port_bank.proofs.Marks.{none_after}
use Rattle.exstack.specs.declared.stage.Stage.TheVariants.{AllDone}
use Rattle.exstack.specs.Links.{StackOut, StackIn, no_stack_out, no_stack_in, stack_out_in_new_epoch, stack_in_in_new_epoch}
use Rattle.exstack.specs.State.{Stack, stack_out_at, stack_in_at, stack_link_to, stack_link_from, after_reset}
use Rattle.exstack.specs.Cycles.{entries_sent, entries_exchanged, exchange_parcel, entries_if_any, items}
use Rattle.list_laws.specs.Lists.{Ends}
use Rattle.exstack.specs.Agreement.{LinkAgrees, AgreesIn, rounds_in}
use Rattle.exstack.specs.Parts.{stack_pushed_to, popped_of, stack_part}
use Rattle.exstack.specs.State.{is_all_done}
use Rattle.exstack.specs.Standing.{IsStack, IsStackOut, IsStackIn}
use Rattle.exstack.proofs.OneLink.{ends_none}
use Rattle.exstack.proofs.Pieces.{pulled_none}

-- a link through with its epoch, in the next one
link_reset : (e rounds : ℕ) (through due : Bool) (log : List Shipped) → through ≡ true → LinkAgrees e rounds through due log → due ≡ false → LinkAgrees (e + 1) 0 false due log
link_reset e rounds through due log t a none =
    let now : lasts log ≡ e + 1 = a.ended ∙ ap (lasts_in e) t in
    record {
      ended = now;
      by_last = λ h. absurd (false≢true h);
      each_round = λ h.
          let fresh : segment (e + 1) log ≡ [] = none_after (e + 1) log (a.by_last t) (omega (arith, now)) in
          ap (λ d. length (segment (e + 1) log) + cond d 1 0) none ∙ ap (λ (xs : List Shipped). length xs + 0) fresh;
      until = λ h. absurd (false≢true h);
    }

module _ (cap n : ℕ) (st : Stack) (sent got : Logs) (s : IsStack cap st) (all : st.stage ≡ AllDone) (a : AgreesIn n st sent got) where
  out_was : (b : ℕ) → b < st.ranks → IsStackOut cap AllDone st.done (stack_out_at st b)
  out_was b w = subst (λ g. IsStackOut cap g st.done (stack_out_at st b)) all (s.each_out b no_stack_out (omega (arith, w, s.all_outs)))

  in_was : (b : ℕ) → b < st.ranks → IsStackIn AllDone (stack_in_at st b)
  in_was b w = subst (λ g. IsStackIn g (stack_in_at st b)) all (s.each_in b no_stack_in (omega (arith, w, s.all_ins)))

  out_none : (b : ℕ) → b < st.ranks → (stack_out_at st b).due ≡ false
  out_none b w = not_due (stack_out_at st b).due (out_was b w).due_round
    where
      not_due : (d : Bool) → (d ≡ true → false ≡ true) → d ≡ false
      not_due true h = absurd (false≢true (h refl))
      not_due false h = refl

  in_none : (b : ℕ) → b < st.ranks → (stack_in_at st b).due ≡ false
  in_none b w = not_due (stack_in_at st b).due (in_was b w).due_round
    where
      not_due : (d : Bool) → (d ≡ true → false ≡ true) → d ≡ false
      not_due true h = absurd (false≢true (h refl))
      not_due false h = refl

  in_ended : (b : ℕ) → b < st.ranks → (stack_in_at st b).ended ≡ true
  in_ended b w = (in_was b w).all_ended refl

  -- the rank's link to itself has ended, so it is closed, and the rank is done
  done : st.done ≡ true
  done =
      let r : ℕ = st.rank in
      let x : lasts (got (stack_link_to st r)) ≡ st.epoch + 1 = (a.ins r s.rank).ended ∙ ap (lasts_in st.epoch) (in_ended r s.rank) in
      let y : lasts (got (stack_link_to st r)) ≤ lasts (sent (stack_link_to st r)) = lasts_begins (got (stack_link_to st r)) (sent (stack_link_to st r)) a.own in
      let z = (a.outs r s.rank).ended in
      (out_was r s.rank).closed_done (true_from_ne_false (stack_out_at st r).closed (λ h. let k : lasts (sent (stack_link_to st r)) ≡ st.epoch = z ∙ ap (lasts_in st.epoch) h in omega arith))

  out_closed : (b : ℕ) → b < st.ranks → (stack_out_at st b).closed ≡ true
  out_closed b w = (out_was b w).done_closed done (out_none b w)

  out_reset : (b : ℕ) → stack_out_at (after_reset st) b ≡ stack_out_in_new_epoch (stack_out_at st b)
  out_reset b = map_read stack_out_in_new_epoch st.outs b no_stack_out

  in_reset : (b : ℕ) → stack_in_at (after_reset st) b ≡ stack_in_in_new_epoch (stack_in_at st b)
  in_reset b = map_read stack_in_in_new_epoch st.ins b no_stack_in

  no_unread : (b : ℕ) → b < st.ranks → [] ≡ (stack_in_at (after_reset st) b).unread
  no_unread b w = sym (ap (λ (i : StackIn). i.unread) (in_reset b) ∙ (in_was b w).read refl)

  pub reset_agrees : AgreesIn 0 (after_reset st) sent got
  reset_agrees = record {
    outs = λ b w. subst (λ (o : StackOut). LinkAgrees (st.epoch + 1) 0 o.closed o.due (sent (stack_link_to st b))) (sym (out_reset b))
        (link_reset st.epoch (rounds_in n st.stage) (stack_out_at st b).closed (stack_out_at st b).due (sent (stack_link_to st b)) (out_closed b w) (a.outs b w) (out_none b w));
    ins = λ b w. subst (λ (i : StackIn). LinkAgrees (st.epoch + 1) 0 i.ended i.due (got (stack_link_from st b))) (sym (in_reset b))
        (link_reset st.epoch (rounds_in n st.stage) (stack_in_at st b).ended (stack_in_at st b).due (got (stack_link_from st b)) (in_ended b w) (a.ins b w) (in_none b w));
    shapes = a.shapes;
    law = a.law;
    came = λ b w. subst (Ends (entries_exchanged (st.epoch + 1) (got (stack_link_from st b)))) (no_unread b w) (ends_none (entries_exchanged (st.epoch + 1) (got (stack_link_from st b))));
    in_cycle = λ b w. subst (Ends (entries_if_any (exchange_parcel (st.epoch + 1) 0 (got (stack_link_from st b))))) (no_unread b w) (ends_none (entries_if_any (exchange_parcel (st.epoch + 1) 0 (got (stack_link_from st b)))));
    own = a.own;
  }

  same_pushed : (d q : ℕ) → q < st.ranks → stack_pushed_to (after_reset st) sent d q ≡ stack_pushed_to st sent d q
  same_pushed d q w =
      let now : (stack_out_at (after_reset st) q).waiting ≡ [] = ap (λ (o : StackOut). o.waiting) (out_reset q) ∙ (out_was q w).sent_on refl in
      ap (λ es. items (entries_sent d (sent (stack_link_to st q))) ++ cond (d == st.epoch + 1) (items es) []) now
      ∙ (ap (λ xs. items (entries_sent d (sent (stack_link_to st q))) ++ xs) (nothing (d == st.epoch + 1) ∙ sym (nothing (d == st.epoch)))
      ∙ ap (λ es. items (entries_sent d (sent (stack_link_to st q))) ++ cond (d == st.epoch) (items es) []) (sym ((out_was q w).sent_on refl)))
    where
      nothing : (b : Bool) → cond b (items []) [] ≡ []
      nothing true = refl
      nothing false = refl

  same_pulled : (d q : ℕ) → q < st.ranks → popped_of (after_reset st) got d q ≡ popped_of st got d q
  same_pulled d q w =
      let all' : List Entry = entries_exchanged d (got (stack_link_from st q)) in
      ap (λ es. take (length (items all') - cond (d == st.epoch + 1) (length es) 0) (items all')) (sym (no_unread q w))
      ∙ (pulled_none d (st.epoch + 1) all'
      ∙ (sym (pulled_none d st.epoch all') ∙ ap (λ es. take (length (items all') - cond (d == st.epoch) (length es) 0) (items all')) (sym ((in_was q w).read refl))))

  pub reset_step : IsOwnStep Reset (stack_part st sent got) (stack_part (after_reset st) sent got)
  reset_step = record {
    may = ap is_all_done all;
    is = same_part (st.epoch + 1) false false None _ _ _ _
        (lists_same st.ranks (stack_pushed_to (after_reset st) sent) (stack_pushed_to st sent) same_pushed)
        (lists_same st.ranks (popped_of (after_reset st) got) (popped_of st got) same_pulled);
  }
