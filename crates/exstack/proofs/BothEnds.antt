-- One link, seen from both of its ends.
use Rattle.std.proofs.Common.{◌≡◌, ℕ, suc, ◌+◌, ◌-◌, ◌*◌, ◌%◌, ◌<◌, ◌==◌, ◌⊎◌, Bool, true, false, cond, List, [], ◌∷◌, ◌++◌, length, take, drop, get_or, slice_get, Some, inl, inr, refl, sym, ap, subst, ◌∙◌, arith, ne_eqb}
use Rattle.std.specs.List.{flat_map}
use Rattle.std.proofs.lemmas.Bool.{cases_eq, cases_lt, false≢true}
use Rattle.std.proofs.lemmas.List.{append-nil, take-append-drop, take_all, get_or_append_left}
use Rattle.std.proofs.lemmas.Option.{slice_get_within}
use Rattle.bale_items.specs.declared.item.Entry.{Entry}
use Rattle.item_buffer.specs.Contents.{Shipped}
use Rattle.list_laws.specs.Lists.{IsPrefix}
use Rattle.list_laws.proofs.Lists.{get_before}
use Rattle.port_bank.specs.Logs.{Logs, lasts, segment, starting_at, ending_at, lasts_in}
use Rattle.port_bank.specs.Shapes.{IsExstackShape}
use Rattle.port_bank.specs.Machine.{IsThrough}
use Rattle.port_bank.proofs.Fronts.{begins_more, begins_trans, begins_map, begins_flat_map, begins_shorter}
use Rattle.port_bank.proofs.Segments.{lasts_begins, segment_begins, segment_same}
use Rattle.port_bank.proofs.Owners.{starting_own, ending_own}
use Rattle.exstack.specs.declared.stage.Stage.{Stage}
use Rattle.exstack.specs.declared.stage.Stage.TheVariants.{Start, Proceeding, Filling, Exchanging, Full, AllDone}
use Rattle.exstack.specs.Links.{no_stack_out, no_stack_in}
use Rattle.exstack.specs.State.{Stack, stack_out_at, stack_in_at, number, stack_link_to, stack_link_from, may_read}
use Rattle.exstack.specs.Cycles.{proceed_parcel, exchange_parcel, odd_ones, entries_sent, entries_exchanged, items}
use Rattle.exstack.specs.Parts.{stack_pushed_to, popped_of, stack_part}
use Rattle.exstack.specs.State.{is_all_done}
use Rattle.exstack.specs.Standing.{IsStackOut, IsStackIn}
use Rattle.exstack.specs.Law.{StacksAgree}
use Rattle.exstack.proofs.OneHop.{number_within, number_sender, number_reader}
use Rattle.exstack.proofs.Pieces.{pulled_none}

-- a parcel of a front is one of the whole
front_get : (xs ys : List Shipped) (i : ℕ) (p : Shipped) → IsPrefix xs ys → slice_get xs i ≡ Some p → slice_get ys i ≡ Some p
front_get xs ys i p b h = ap (λ zs. slice_get zs i) b.is ∙ (get_before xs b.rest i (slice_get_within xs i p h) ∙ h)

pub exchanges_meet : (e n : ℕ) (p : Shipped) (sent got : List Shipped) → IsPrefix got sent
    → (exchange_parcel e n got ≡ Some p → exchange_parcel e n sent ≡ Some p) × (proceed_parcel e n got ≡ Some p → proceed_parcel e n sent ≡ Some p)
exchanges_meet e n p sent got b =
    let s = segment_begins e got sent b in
    (λ h. front_get (segment e got) (segment e sent) (2 * n + 1) p s h, λ h. front_get (segment e got) (segment e sent) (2 * n) p s h)

-- where the parcels of even number are empty, all entries are those of the others
abbrev EvensEmpty : List Shipped → Type 0
EvensEmpty xs = (i : ℕ) (d : Shipped) → i < length xs → i % 2 ≡ 0 → (get_or xs i d).entries ≡ []

all_odd : (xs : List Shipped) → EvensEmpty xs → flat_map (λ (p : Shipped). p.entries) (odd_ones xs) ≡ flat_map (λ (p : Shipped). p.entries) xs
all_odd [] h = refl
all_odd (p ∷ []) h = sym (append-nil p.entries ∙ h 0 p (omega arith) refl)
all_odd (p ∷ q ∷ ps) h =
    let rest = all_odd ps (λ i d w even. h (suc (suc i)) d (omega (arith, w)) (let r : suc (suc i) % 2 ≡ i % 2 = omega arith in r ∙ even)) in
    ap (λ es. q.entries ++ es) rest ∙ ap (λ es. es ++ (q.entries ++ flat_map (λ (x : Shipped). x.entries) ps)) (sym (h 0 p (omega arith) refl))

front_empty : (xs ys : List Shipped) → IsPrefix xs ys → EvensEmpty ys → EvensEmpty xs
front_empty xs ys b h i d w even =
    let same : get_or ys i d ≡ get_or xs i d = ap (λ zs. get_or zs i d) b.is ∙ get_or_append_left xs b.rest d i w in
    ap (λ (p : Shipped). p.entries) (sym same) ∙ h i d (omega (arith, w, begins_shorter xs ys b)) even

shape_empty : (e : ℕ) (log : List Shipped) → IsExstackShape log → EvensEmpty (segment e log)
shape_empty e log s i d w even = s.empty e i d w even

-- an exstack's log has all entries in exchange parcels, and so has a prefix of it
pub exchanged_sent : (e : ℕ) (log : List Shipped) → IsExstackShape log → entries_exchanged e log ≡ entries_sent e log
exchanged_sent e log s = all_odd (segment e log) (shape_empty e log s)

pub exchanged_got : (e : ℕ) (sent got : List Shipped) → IsPrefix got sent → IsExstackShape sent → entries_exchanged e got ≡ entries_sent e got
exchanged_got e sent got b s = all_odd (segment e got) (front_empty (segment e got) (segment e sent) (segment_begins e got sent b) (shape_empty e sent s))

not_reading : (stage : Stage) → is_all_done stage ≡ true → may_read stage ≡ false
not_reading Start h = refl
not_reading Proceeding h = refl
not_reading Filling h = refl
not_reading Exchanging h = absurd (false≢true h)
not_reading Full h = absurd (false≢true h)
not_reading AllDone h = refl

pulled_none_at : (es : List Entry) → take (length (items es) - 0) (items es) ≡ items es
pulled_none_at es = take_all (length (items es) - 0) (items es) (omega arith)

begins_take : {T : Type 0} (n : ℕ) (xs : List T) → IsPrefix (take n xs) xs
begins_take n xs = record { rest = drop n xs; is = sym (take-append-drop n xs) }

through_marks : (e epoch : ℕ) (closed : Bool) → e < lasts_in epoch closed → ((epoch ≡ e) × (closed ≡ true)) ⊎ (e < epoch)
through_marks e epoch true h = elim (cases_lt e epoch) [ inl less ↦ inr less | inr more ↦ inl (omega arith, refl) ]
through_marks e epoch false h = inr h

-- the link from s to d, of exstacks that agree together
module _ (ranks cap slots : ℕ) (all : ℕ → Stack) (sent got : Logs) (t : StacksAgree ranks cap slots all sent got) (s d : ℕ) (from : s < ranks) (to : d < ranks) where
  pub fronts : IsPrefix (got (number ranks s d)) (sent (number ranks s d))
  fronts = (t.links_keep (number ranks s d) (number_within ranks s d from to t.few)).begins

  its_sent : starting_at (ranks ∷ []) s sent (stack_link_to (all s) d) ≡ sent (number ranks s d)
  its_sent =
      ap (λ n. starting_at (ranks ∷ []) s sent (number n (all s).rank d)) (t.same_ranks s from)
      ∙ (ap (λ r. starting_at (ranks ∷ []) s sent (number ranks r d)) (t.same_rank s from) ∙ starting_own (ranks ∷ []) s sent (number ranks s d) (number_sender ranks s d from to t.few))

  its_got : ending_at (ranks ∷ []) d got (stack_link_from (all d) s) ≡ got (number ranks s d)
  its_got =
      ap (λ n. ending_at (ranks ∷ []) d got (number n s (all d).rank)) (t.same_ranks d to)
      ∙ (ap (λ r. ending_at (ranks ∷ []) d got (number ranks s r)) (t.same_rank d to) ∙ ending_own (ranks ∷ []) d got (number ranks s d) (number_reader ranks s d from to t.few))

  at_s : d < (all s).ranks
  at_s = subst (λ n. d < n) (sym (t.same_ranks s from)) to

  at_d : s < (all d).ranks
  at_d = subst (λ n. s < n) (sym (t.same_ranks d to)) from

  out_is : IsStackOut cap (all s).stage (all s).done (stack_out_at (all s) d)
  out_is = (t.standing s from).each_out d no_stack_out (omega (arith, at_s, (t.standing s from).all_outs))

  in_is : IsStackIn (all d).stage (stack_in_at (all d) s)
  in_is = (t.standing d to).each_in s no_stack_in (omega (arith, at_d, (t.standing d to).all_ins))

  sent_marks : lasts (sent (number ranks s d)) ≡ lasts_in (all s).epoch (stack_out_at (all s) d).closed
  sent_marks = ap lasts (sym its_sent) ∙ ((t.agree s from).agrees.outs d at_s).ended

  got_marks : lasts (got (number ranks s d)) ≡ lasts_in (all d).epoch (stack_in_at (all d) s).ended
  got_marks = ap lasts (sym its_got) ∙ ((t.agree d to).agrees.ins s at_d).ended

  shape : IsExstackShape (sent (number ranks s d))
  shape = subst IsExstackShape its_sent ((t.agree s from).agrees.shapes d at_s)

  -- what s pushed toward d
  pushed_is : (e : ℕ) → stack_pushed_to (all s) (starting_at (ranks ∷ []) s sent) e d ≡ items (entries_sent e (sent (number ranks s d))) ++ cond (e == (all s).epoch) (items (stack_out_at (all s) d).waiting) []
  pushed_is e = ap (λ log. items (entries_sent e log) ++ cond (e == (all s).epoch) (items (stack_out_at (all s) d).waiting) []) its_sent

  pub pushed_front : (e : ℕ) → IsPrefix (items (entries_sent e (sent (number ranks s d)))) (stack_pushed_to (all s) (starting_at (ranks ∷ []) s sent) e d)
  pushed_front e = subst (IsPrefix (items (entries_sent e (sent (number ranks s d))))) (sym (pushed_is e)) (begins_more (items (entries_sent e (sent (number ranks s d)))) (cond (e == (all s).epoch) (items (stack_out_at (all s) d).waiting) []))

  pub through : (e : ℕ) → e < lasts (sent (number ranks s d)) → IsThrough e (stack_part (all s) (starting_at (ranks ∷ []) s sent) (ending_at (ranks ∷ []) s got))
  through e h = elim (through_marks e (all s).epoch (stack_out_at (all s) d).closed (omega (arith, h, sent_marks))) [
    | inl k ↦ inl (k.0, out_is.closed_done k.1)
    | inr less ↦ inr less
  ]

  pub pushed_all : (e : ℕ) → e < lasts (sent (number ranks s d)) → stack_pushed_to (all s) (starting_at (ranks ∷ []) s sent) e d ≡ items (entries_sent e (sent (number ranks s d)))
  pushed_all e h = pushed_is e ∙ (ap (λ xs. items (entries_sent e (sent (number ranks s d))) ++ xs) nothing ∙ append-nil (items (entries_sent e (sent (number ranks s d)))))
    where
      none_of : (b : Bool) (es : List Entry) → es ≡ [] → cond b (items es) [] ≡ []
      none_of true es z = ap items z
      none_of false es z = refl

      nothing : cond (e == (all s).epoch) (items (stack_out_at (all s) d).waiting) [] ≡ []
      nothing = elim (through_marks e (all s).epoch (stack_out_at (all s) d).closed (omega (arith, h, sent_marks))) [
        | inl k ↦ none_of (e == (all s).epoch) (stack_out_at (all s) d).waiting (out_is.closed_empty k.1)
        | inr less ↦ ap (λ b. cond b (items (stack_out_at (all s) d).waiting) []) (ne_eqb e (all s).epoch (λ q. let z : e ≡ (all s).epoch = q in omega arith))
      ]

  -- what d pulled of s
  pulled_is : (e : ℕ) → popped_of (all d) (ending_at (ranks ∷ []) d got) e s
      ≡ take (length (items (entries_sent e (got (number ranks s d)))) - cond (e == (all d).epoch) (length (stack_in_at (all d) s).unread) 0) (items (entries_sent e (got (number ranks s d))))
  pulled_is e =
      ap (λ log. take (length (items (entries_exchanged e log)) - cond (e == (all d).epoch) (length (stack_in_at (all d) s).unread) 0) (items (entries_exchanged e log))) its_got
      ∙ ap (λ es. take (length (items es) - cond (e == (all d).epoch) (length (stack_in_at (all d) s).unread) 0) (items es)) (exchanged_got e (sent (number ranks s d)) (got (number ranks s d)) fronts shape)

  pub pulled_front : (e : ℕ) → IsPrefix (popped_of (all d) (ending_at (ranks ∷ []) d got) e s) (items (entries_sent e (got (number ranks s d))))
  pulled_front e = subst (λ xs. IsPrefix xs (items (entries_sent e (got (number ranks s d))))) (sym (pulled_is e)) (begins_take _ (items (entries_sent e (got (number ranks s d)))))

  pub in_order : (e : ℕ) → IsPrefix (popped_of (all d) (ending_at (ranks ∷ []) d got) e s) (stack_pushed_to (all s) (starting_at (ranks ∷ []) s sent) e d)
  in_order e =
      begins_trans _ _ _ (pulled_front e)
      (begins_trans _ _ _ (begins_map (λ (x : Entry). x.item) _ _ (begins_flat_map (λ (p : Shipped). p.entries) _ _ (segment_begins e (got (number ranks s d)) (sent (number ranks s d)) fronts))) (pushed_front e))

  -- an epoch that d has completed
  pub ended : (e : ℕ) → e < cond (is_all_done (all d).stage) ((all d).epoch + 1) (all d).epoch → e < lasts (got (number ranks s d))
  ended e h = subst (λ n. e < n) (sym got_marks) (by_marks (is_all_done (all d).stage) (stack_in_at (all d) s).ended in_is.all_ended h)
    where
      by_marks : (c x : Bool) → (c ≡ true → x ≡ true) → e < cond c ((all d).epoch + 1) (all d).epoch → e < lasts_in (all d).epoch x
      by_marks true true f h = h
      by_marks true false f h = absurd (false≢true (f refl))
      by_marks false true f h = omega arith
      by_marks false false f h = h

  pub ended_sent : (e : ℕ) → e < lasts (got (number ranks s d)) → e < lasts (sent (number ranks s d))
  ended_sent e h = omega (arith, h, lasts_begins (got (number ranks s d)) (sent (number ranks s d)) fronts)

  pub whole : (e : ℕ) → e < cond (is_all_done (all d).stage) ((all d).epoch + 1) (all d).epoch
      → popped_of (all d) (ending_at (ranks ∷ []) d got) e s ≡ stack_pushed_to (all s) (starting_at (ranks ∷ []) s sent) e d
  whole e h =
      let g = ended e h in
      pulled_is e
      ∙ (read
      ∙ (ap (λ (xs : List Shipped). items (flat_map (λ (p : Shipped). p.entries) xs)) (sym (segment_same e (got (number ranks s d)) (sent (number ranks s d)) fronts g))
      ∙ sym (pushed_all e (ended_sent e g))))
    where
      all_done_read : (c : Bool) → is_all_done (all d).stage ≡ c → e < cond c ((all d).epoch + 1) (all d).epoch → (e ≡ (all d).epoch) → (stack_in_at (all d) s).unread ≡ []
      all_done_read true is h same = in_is.read (not_reading (all d).stage is)
      all_done_read false is h same = absurd (omega arith)

      read : take (length (items (entries_sent e (got (number ranks s d)))) - cond (e == (all d).epoch) (length (stack_in_at (all d) s).unread) 0) (items (entries_sent e (got (number ranks s d))))
          ≡ items (entries_sent e (got (number ranks s d)))
      read = elim (cases_eq e (all d).epoch) [
        | inl same ↦
            ap (λ es. take (length (items (entries_sent e (got (number ranks s d)))) - cond (e == (all d).epoch) (length {A = Entry} es) 0) (items (entries_sent e (got (number ranks s d)))))
            (all_done_read (is_all_done (all d).stage) refl h same) ∙ pulled_none e (all d).epoch (entries_sent e (got (number ranks s d)))
        | inr other ↦
            ap (λ k. take (length (items (entries_sent e (got (number ranks s d)))) - k) (items (entries_sent e (got (number ranks s d)))))
            (ap (λ b. cond b (length (stack_in_at (all d) s).unread) 0) (ne_eqb e (all d).epoch other))
            ∙ pulled_none_at (entries_sent e (got (number ranks s d)))
      ]
