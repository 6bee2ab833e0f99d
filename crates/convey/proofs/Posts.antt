-- What one post leaves of a rank's state.
use Rattle.std.proofs.Common.{◌≡◌, ◌≢◌, ℕ, ◌<◌, ◌≤◌, ◌==◌, ◌&&◌, ◌||◌, ◌⊎◌, Bool, true, false, not, List, [], ◌∷◌, ◌++◌, length, sum, slice_set, None, refl, sym, ap, subst, ◌∙◌, arith, inl, inr, length-append, set-set, eqb-true, ne_eqb, eq-eqb}
use Rattle.std.specs.List.{All}
use Rattle.std.proofs.lemmas.Bool.{cases_eq, false≢true}
use Rattle.std.proofs.lemmas.List.{append_cancel_left, get_or-set_other, get_or-set_same}
use Rattle.bale_items.specs.declared.item.Entry.{Entry}
use Rattle.item_buffer.specs.Contents.{Contents, Shipped, blank}
use Rattle.route_tensor.specs.Link.{links}
use Rattle.route_tensor.specs.Ends.{hop_at, sender_at}
use Rattle.route_tensor.specs.Neighbour.{hop_to, out_index}
use Rattle.port_bank.specs.Logs.{Logs, lasts, with_parcel}
use Rattle.list_laws.specs.Lists.{IsPrefix}
use Rattle.port_bank.specs.Relay.{RelayLaw}
use Rattle.port_bank.specs.Shapes.{IsFilled, IsConveyorShape}
use Rattle.port_bank.proofs.Fronts.{begins_refl}
use Rattle.port_bank.proofs.Kept.{added_grows, added-here, added-other}
use Rattle.hop_core.specs.Link.{Out, no_out, is_empty, is_due}
use Rattle.hop_core.specs.State.{State, out_at, at_end}
use Rattle.hop_core.specs.Standing.{IsState}
use Rattle.convey.specs.Buffers.{out_of, buffers_of}
use Rattle.convey.specs.Agreement.{Agrees}
use Rattle.convey.specs.Parts.{part_of}
use Rattle.convey.specs.Arrived.{HasArrived}
use Rattle.convey.specs.Due.{IsDue}
use Rattle.convey.specs.AdvanceSteps.{IsReady, GoesOn, without_latest}
use Rattle.convey.proofs.Ways.{none_filled}
use Rattle.convey.proofs.PostLaw.{post_law, open_lasts, all_one}
use Rattle.convey.proofs.Moves.{SameOn, same_agrees, same_buffers_part, SentOn, sent_agrees, sent_part, forget_agrees}
use Rattle.convey.proofs.States.{out_number, out_apart, is_out, end_of}

-- the state after an open parcel came back
abbrev pub with_open : State → ℕ → Out → State
with_open st i o = record st { outs = slice_set st.outs i o; pulled = None }

open_here : (st : State) (l : ℕ) (o : Out) → IsState st → l < links st.dims → out_of (with_open st (out_index st.dims l) o) l ≡ o
open_here st l o s h =
    let n = out_number st.dims l s.grid h in
    let within : out_index st.dims l < length st.outs = omega (arith, n.within, s.all_outs) in
    get_or-set_same st.outs (out_index st.dims l) o no_out within

open_other : (st : State) (r l m : ℕ) (o : Out) → IsState st → l < links st.dims → m < links st.dims → sender_at st.dims l ≡ r → sender_at st.dims m ≡ r → m ≢ l
    → out_of (with_open st (out_index st.dims l) o) m ≡ out_of st m
open_other st r l m o s h k a b ne = get_or-set_other st.outs (out_index st.dims l) (out_index st.dims m) o no_out (out_apart st.dims r m l s.grid k h b a ne)

-- when a link is due, by parts
empty_not_full : (cap : ℕ) (xs : List Entry) → 0 < cap → xs ≡ [] → (length xs == cap) ≡ false
empty_not_full cap xs some none = ne_eqb (length xs) cap (λ e. let z : length xs ≡ 0 = ap length none in omega arith)

due_bits : (full steady empty ends closed : Bool) → (full || (steady && not empty) || (ends && not closed)) ≡ true → (full ≡ true) ⊎ (((steady ≡ true) × (empty ≡ false)) ⊎ ((ends ≡ true) × (closed ≡ false)))
due_bits true steady empty ends closed h = inl refl
due_bits false true false ends closed h = inr (inl (refl, refl))
due_bits false true true true false h = inr (inr (refl, refl))
due_bits false true true true true h = absurd (false≢true h)
due_bits false true true false closed h = absurd (false≢true h)
due_bits false false empty true false h = inr (inr (refl, refl))
due_bits false false empty true true h = absurd (false≢true h)
due_bits false false empty false closed h = absurd (false≢true h)

abbrev DueBits : State → ℕ → Type 0
DueBits st l = ((length (out_of st l).parcel.untaken == st.cap) ≡ true) ⊎ (((st.steady ≡ true) × (is_empty (out_of st l).parcel ≡ false))
    ⊎ ((at_end st.dims st.ins st.done (hop_at st.dims l) ≡ true) × ((out_of st l).closed ≡ false)))

due_cases : (st : State) (l : ℕ) → IsDue st l → DueBits st l
due_cases st l d = due_bits (length (out_of st l).parcel.untaken == st.cap) st.steady (is_empty (out_of st l).parcel) (at_end st.dims st.ins st.done (hop_at st.dims l)) (out_of st l).closed d

true_or_false : (c : Bool) → (c ≡ true) ⊎ (c ≡ false)
true_or_false true = inl refl
true_or_false false = inr refl

-- and when it surely is
due_on : (full steady empty ends closed : Bool) → ((full ≡ true) ⊎ ((ends ≡ true) × (closed ≡ false))) → (full || (steady && not empty) || (ends && not closed)) ≡ true
due_on true steady empty ends closed h = refl
due_on false steady empty ends closed (inl h) = absurd (false≢true h)
due_on false true true true false (inr h) = refl
due_on false true false ends closed (inr h) = refl
due_on false false empty true false (inr h) = refl
due_on false true true true true (inr h) = absurd (false≢true (sym h.1))
due_on false true true false closed (inr h) = absurd (false≢true h.0)
due_on false false empty true true (inr h) = absurd (false≢true (sym h.1))
due_on false false empty false closed (inr h) = absurd (false≢true h.0)

pub due_full : (st : State) (l : ℕ) → length (out_of st l).parcel.untaken ≡ st.cap → IsDue st l
due_full st l e = due_on (length (out_of st l).parcel.untaken == st.cap) st.steady (is_empty (out_of st l).parcel) (at_end st.dims st.ins st.done (hop_at st.dims l)) (out_of st l).closed (inl (eq-eqb (length (out_of st l).parcel.untaken) st.cap e))

pub due_ending : (st : State) (l : ℕ) → at_end st.dims st.ins st.done (hop_at st.dims l) ≡ true → (out_of st l).closed ≡ false → IsDue st l
due_ending st l a b = due_on (length (out_of st l).parcel.untaken == st.cap) st.steady (is_empty (out_of st l).parcel) (at_end st.dims st.ins st.done (hop_at st.dims l)) (out_of st l).closed (inr (a, b))

-- a full parcel only grows, so it stays full
pub still_full : (xs ys : List Entry) (cap : ℕ) → IsPrefix xs ys → length ys ≤ cap → length xs ≡ cap → length ys ≡ cap
still_full xs ys cap b fits full = omega (arith, ap length b.is, length-append xs b.rest)

-- a closed link isn't due
pub due_open : (st : State) (l : ℕ) → IsState st → l < links st.dims → IsDue st l → (out_of st l).closed ≡ false
due_open st l s h d =
    elim (true_or_false (out_of st l).closed) [
      | inr open' ↦ open'
      | inl closed ↦
          let none : (out_of st l).parcel.untaken ≡ [] = (is_out st l s h).closed_empty closed in
          absurd (elim (due_cases st l d) [
            | inl full ↦ false≢true (sym (empty_not_full st.cap (out_of st l).parcel.untaken s.cap.some none) ∙ full)
            | inr (inl some) ↦ false≢true (sym some.1 ∙ ap (λ xs. length xs == 0) none)
            | inr (inr ends) ↦ false≢true (sym ends.1 ∙ closed)
          ])
    ]

-- nor is one whose parcel was just sent
pub sent_not_due : (st : State) (l : ℕ) → 0 < st.cap → (out_of st l).parcel.untaken ≡ [] → (out_of st l).closed ≡ at_end st.dims st.ins st.done (hop_at st.dims l) → IsDue st l → ⊥
sent_not_due st l some none closed d =
    elim (due_cases st l d) [
      | inl full ↦ false≢true (sym (empty_not_full st.cap (out_of st l).parcel.untaken some none) ∙ full)
      | inr (inl more) ↦ false≢true (sym more.1 ∙ ap (λ xs. length xs == 0) none)
      | inr (inr ends) ↦ false≢true (sym ends.1 ∙ (closed ∙ ends.0))
    ]

-- what is sent before the end of a hop fills its parcel
some_entries : (xs : List Entry) → (length xs == 0) ≡ false → 0 < length xs
some_entries [] h = absurd (false≢true (sym h))
some_entries (x ∷ xs) h = omega arith

filled_by : (steady : Bool) (cap : ℕ) (q : Shipped) → 0 < cap → ((length q.entries == cap) ≡ true) ⊎ ((steady ≡ true) × ((length q.entries == 0) ≡ false)) → IsFilled steady cap q
filled_by true cap q some (inl full) = let e : length q.entries ≡ cap = eqb-true (length q.entries) cap full in omega arith
filled_by true cap q some (inr more) = some_entries q.entries more.1
filled_by false cap q some (inl full) = eqb-true (length q.entries) cap full
filled_by false cap q some (inr more) = absurd (false≢true more.0)

pub post_filled : (st : State) (l : ℕ) (q : Shipped) → IsState st → IsDue st l → q.entries ≡ (out_of st l).parcel.untaken → q.last ≡ at_end st.dims st.ins st.done (hop_at st.dims l) → q.last ≡ false → IsFilled st.steady st.cap q
post_filled st l q s d entries last open' =
    filled_by st.steady st.cap q s.cap.some (elim (due_cases st l d) [
      | inl full ↦ inl (ap (λ xs. length xs == st.cap) entries ∙ full)
      | inr (inl more) ↦ inr (more.0, ap (λ xs. length xs == 0) entries ∙ more.1)
      | inr (inr ends) ↦ absurd (false≢true (sym open' ∙ (last ∙ ends.0)))
    ])

fills_more : (steady : Bool) (cap : ℕ) (sent : Logs) (l : ℕ) (q : Shipped) → (q.last ≡ false → IsFilled steady cap q) → (m : ℕ) (more : List Shipped) → with_parcel sent l q m ≡ sent m ++ more → IsConveyorShape steady cap more
fills_more steady cap sent l q filled m more e =
    let P = λ (p : Shipped). p.last ≡ false → IsFilled steady cap p in
    elim (cases_eq m l) [
      | inl same ↦
          let here : with_parcel sent l q l ≡ sent l ++ more = subst (λ k. with_parcel sent l q k ≡ sent k ++ more) same e in
          subst (All P) (append_cancel_left (sent l) (q ∷ []) more (sym (added-here sent l q) ∙ here)) (all_one P q filled)
      | inr other ↦ none_filled steady cap (sent m) more (sym (added-other sent l m q other) ∙ e)
    ]

-- an open parcel that was taken out, by the number of the link's neighbour
pub record TakenOut (st : State) (l : ℕ) (q : Contents) : Type 0 where
  pub due : IsDue st l
  pub entries : q.untaken ≡ (out_of st l).parcel.untaken
  pub last : q.last ≡ at_end st.dims st.ins st.done (hop_at st.dims l)

pub taken_out : (st : State) (number l : ℕ) (q : Contents) → IsState st → l < links st.dims → number ≡ out_index st.dims l
    → is_due st.cap st.steady (at_end st.dims st.ins st.done (hop_to st.dims number)) (out_at st number) ≡ true
    → q ≡ record (out_at st number).parcel { last = at_end st.dims st.ins st.done (hop_to st.dims number); epoch = st.epoch } → TakenOut st l q
taken_out st number l q s h n due is =
    let hop : hop_to st.dims number ≡ hop_at st.dims l = ap (hop_to st.dims) n ∙ (out_number st.dims l s.grid h).hop in
    record {
      due = subst (λ k. is_due st.cap st.steady (at_end st.dims st.ins st.done k) (out_of st l) ≡ true) hop
          (subst (λ i. is_due st.cap st.steady (at_end st.dims st.ins st.done (hop_to st.dims number)) (out_at st i) ≡ true) n due);
      entries = ap (λ p. p.untaken) is ∙ ap (λ i. (out_at st i).parcel.untaken) n;
      last = ap (λ p. p.last) is ∙ ap (at_end st.dims st.ins st.done) hop;
    }

pub not_due : (st : State) (number l : ℕ) (b : Bool) → IsState st → l < links st.dims → number ≡ out_index st.dims l
    → b ≡ is_due st.cap st.steady (at_end st.dims st.ins st.done (hop_to st.dims number)) (out_at st number) → b ≡ false → IsDue st l → ⊥
not_due st number l b s h n is fails d =
    let hop : hop_to st.dims number ≡ hop_at st.dims l = ap (hop_to st.dims) n ∙ (out_number st.dims l s.grid h).hop in
    let due : is_due st.cap st.steady (at_end st.dims st.ins st.done (hop_to st.dims number)) (out_at st number) ≡ true =
    subst (λ k. is_due st.cap st.steady (at_end st.dims st.ins st.done k) (out_at st number) ≡ true) (sym hop)
    (subst (λ i. is_due st.cap st.steady (at_end st.dims st.ins st.done (hop_at st.dims l)) (out_at st i) ≡ true) (sym n) d) in
    false≢true (sym fails ∙ (is ∙ due))

-- the state where it was sent, and where it was put back
pub opened : (st new : State) (number l : ℕ) (o : Out) → number ≡ out_index st.dims l → new ≡ record st { outs = slice_set st.outs number o; pulled = None } → new ≡ with_open st (out_index st.dims l) o
opened st new number l o n e = e ∙ ap (λ i. with_open st i o) n

pub sent_from : (st mid new : State) (number j l : ℕ) (y o : Out) → number ≡ out_index st.dims l → j ≡ number → mid ≡ record st { outs = slice_set st.outs number y; pulled = None }
    → new ≡ record mid { outs = slice_set mid.outs j o } → new ≡ with_open st (out_index st.dims l) o
sent_from st mid new number j l y o n same p q =
    let back : State → State = λ u. record u { outs = slice_set u.outs number o } in
    let put : List Out → State = λ outs. record st { outs = outs; pulled = None } in
    opened st new number l o n (q ∙ (ap (λ i. record mid { outs = slice_set mid.outs i o }) same ∙ (ap back p ∙ ap put (set-set st.outs number y o))))

pub reopened : (st mid new : State) (number j l : ℕ) (y o : Out) → number ≡ out_index st.dims l → j ≡ number → mid ≡ record st { outs = slice_set st.outs number y; pulled = None }
    → new ≡ record mid { outs = slice_set mid.outs j o; pulled = None } → new ≡ with_open st (out_index st.dims l) o
reopened st mid new number j l y o n same p q =
    let back : State → State = λ u. record u { outs = slice_set u.outs number o; pulled = None } in
    let put : List Out → State = λ outs. record st { outs = outs; pulled = None } in
    opened st new number l o n (q ∙ (ap (λ i. record mid { outs = slice_set mid.outs i o; pulled = None }) same ∙ (ap back p ∙ ap put (set-set st.outs number y o))))

-- all that a post leaves
pub record Served (dims : List ℕ) (rank : ℕ) (st new : State) (link : ℕ) (sent sent' got got' : Logs) : Type 0 where
  pub ready : IsReady dims rank new sent' got'
  pub goes_on : GoesOn st new sent sent' got got'
  pub out : (m : ℕ) → m < links dims → sender_at dims m ≡ rank → m ≢ link → out_of new m ≡ out_of st m

module _ (dims : List ℕ) (rank : ℕ) (st new : State) (link : ℕ) (o : Out) (q : Shipped) (sent sent' got got' : Logs) (s : IsState st) (r : IsReady dims rank st sent got)
    (below : link < links dims) (own : sender_at dims link ≡ rank) (due : IsDue st link) (entries : q.entries ≡ (out_of st link).parcel.untaken)
    (last : q.last ≡ at_end st.dims st.ins st.done (hop_at st.dims link)) (same : got' ≡ got) where
  here_below : link < links st.dims
  here_below = subst (λ ds. link < links ds) (sym r.same_dims) below

  here_own : sender_at st.dims link ≡ st.rank
  here_own = ap (λ ds. sender_at ds link) r.same_dims ∙ (own ∙ sym r.same_rank)

  open_now : (out_of st link).closed ≡ false
  open_now = due_open st link s here_below due

  arrived : q.last ≡ true → HasArrived (buffers_of st) link
  arrived e = (end_of st link s here_below (sym last ∙ e)).arrived

  pub may_post : RelayLaw dims rank (with_parcel sent link q) got
  may_post =
      subst (λ k. RelayLaw dims k (with_parcel sent link q) got) r.same_rank
      (subst (λ ds. RelayLaw ds st.rank (with_parcel sent link q) got) r.same_dims
      (post_law (buffers_of st) sent got link q s.grid r.agrees here_below here_own open_now entries arrived))

  pub dated : st.epoch ≡ lasts (sent link)
  dated = sym (open_lasts st.epoch (lasts (sent link)) (out_of st link).closed open_now ((r.agrees.outs link here_below here_own).lasts))

  served : (logs : Logs) → new ≡ with_open st (out_index st.dims link) o → Agrees (buffers_of (with_open st (out_index st.dims link) o)) logs got
      → without_latest (part_of (buffers_of (with_open st (out_index st.dims link) o)) logs got) ≡ without_latest (part_of (buffers_of st) sent got)
      → ((l : ℕ) → IsPrefix (sent l) (logs l)) → ((l : ℕ) (more : List Shipped) → logs l ≡ sent l ++ more → IsConveyorShape st.steady st.cap more)
      → Served dims rank st new link sent logs got got'
  served logs e agrees part grows fills =
      subst (λ g. Served dims rank st new link sent logs got g) (sym same)
      (subst (λ n. Served dims rank st n link sent logs got got) (sym e) (record {
        ready = record { same_dims = r.same_dims; same_rank = r.same_rank; agrees = agrees };
        goes_on = record { cap = refl; steady = refl; epoch = refl; done = refl; phase = refl; part = part; sent_grows = grows; got_grows = λ l. begins_refl (got l); fills = fills };
        out = λ m h from ne.
            open_other st st.rank link m o s here_below (subst (λ ds. m < links ds) (sym r.same_dims) h) here_own (ap (λ ds. sender_at ds m) r.same_dims ∙ (from ∙ sym r.same_rank)) ne;
      }))

  stays : o.parcel.untaken ≡ (out_of st link).parcel.untaken → o.closed ≡ false → SameOn (buffers_of st) (buffers_of (with_open st (out_index st.dims link) o)).waiting (buffers_of (with_open st (out_index st.dims link) o)).unread
      (buffers_of (with_open st (out_index st.dims link) o)).closed (buffers_of (with_open st (out_index st.dims link) o)).ended
  stays keeps open' = record {
    waits = λ l h from. elim (cases_eq l link) [
      | inl e ↦ subst (λ m. (out_of (with_open st (out_index st.dims link) o) m).parcel.untaken ≡ (out_of st m).parcel.untaken) (sym e) (ap (λ y. y.parcel.untaken) (open_here st link o s here_below) ∙ keeps)
      | inr other ↦ ap (λ y. y.parcel.untaken) (open_other st st.rank link l o s here_below h here_own from other)
    ];
    closes = λ l h from. elim (cases_eq l link) [
      | inl e ↦ subst (λ m. (out_of (with_open st (out_index st.dims link) o) m).closed ≡ (out_of st m).closed) (sym e) (ap (λ y. y.closed) (open_here st link o s here_below) ∙ (open' ∙ sym open_now))
      | inr other ↦ ap (λ y. y.closed) (open_other st st.rank link l o s here_below h here_own from other)
    ];
    lies = λ l h to. refl;
    ends = λ l h to. refl;
  }

  -- not sent
  pub served_none : new ≡ with_open st (out_index st.dims link) o → o.parcel.untaken ≡ (out_of st link).parcel.untaken → o.closed ≡ false → sent' ≡ sent → Served dims rank st new link sent sent' got got'
  served_none e keeps open' same_sent =
      let n : State = with_open st (out_index st.dims link) o in
      let k = stays keeps open' in
      subst (λ logs. Served dims rank st new link sent logs got got') (sym same_sent)
      (served sent e
      (same_agrees (buffers_of st) (buffers_of n).waiting (buffers_of n).unread (buffers_of n).closed (buffers_of n).ended sent got s.grid k r.agrees)
      (ap without_latest (same_buffers_part (buffers_of st) (buffers_of n).waiting (buffers_of n).unread (buffers_of n).closed (buffers_of n).ended sent got s.grid k s.rank))
      (λ l. begins_refl (sent l)) (λ l more k. none_filled st.steady st.cap (sent l) more k))

  pub still_waits : new ≡ with_open st (out_index st.dims link) o → o.parcel.untaken ≡ (out_of st link).parcel.untaken → (out_of new link).parcel.untaken ≡ (out_of st link).parcel.untaken
  still_waits e keeps = ap (λ n. (out_of n link).parcel.untaken) e ∙ (ap (λ y. y.parcel.untaken) (open_here st link o s here_below) ∙ keeps)

  pub still_due : new ≡ with_open st (out_index st.dims link) o → o.parcel.untaken ≡ (out_of st link).parcel.untaken → o.closed ≡ false → IsDue new link
  still_due e keeps open' =
      let ends : Bool = at_end st.dims st.ins st.done (hop_at st.dims link) in
      let same : is_due st.cap st.steady ends o ≡ is_due st.cap st.steady ends (out_of st link) =
      λ i. (length (keeps i) == st.cap) || (st.steady && not (length (keeps i) == 0)) || (ends && not ((open' ∙ sym open_now) i)) in
      subst (λ u. IsDue u link) (sym e) (ap (is_due st.cap st.steady ends) (open_here st link o s here_below) ∙ (same ∙ due))

  -- sent
  sent_on : o.parcel.untaken ≡ [] → o.closed ≡ q.last → SentOn (buffers_of st) (buffers_of (with_open st (out_index st.dims link) o)).waiting (buffers_of (with_open st (out_index st.dims link) o)).closed link q
  sent_on none closes = record {
    emptied = ap (λ y. y.parcel.untaken) (open_here st link o s here_below) ∙ none;
    closes = ap (λ y. y.closed) (open_here st link o s here_below) ∙ closes;
    waits = λ l h from other. ap (λ y. y.parcel.untaken) (open_other st st.rank link l o s here_below h here_own from other);
    stays = λ l h from other. ap (λ y. y.closed) (open_other st st.rank link l o s here_below h here_own from other);
  }

  pub served_one : new ≡ with_open st (out_index st.dims link) o → o.parcel.untaken ≡ [] → o.closed ≡ q.last → sent' ≡ with_parcel sent link q → Served dims rank st new link sent sent' got got'
  served_one e none closes same_sent =
      let n : State = with_open st (out_index st.dims link) o in
      let k = sent_on none closes in
      subst (λ logs. Served dims rank st new link sent logs got got') (sym same_sent)
      (served (with_parcel sent link q) e
      (forget_agrees (record (buffers_of st) { waiting = (buffers_of n).waiting; closed = (buffers_of n).closed }) (with_parcel sent link q) got
      (sent_agrees (buffers_of st) (buffers_of n).waiting (buffers_of n).closed sent got link q s.grid r.agrees here_below here_own open_now entries arrived k))
      (ap without_latest (sent_part (buffers_of st) (buffers_of n).waiting (buffers_of n).closed sent got link q s.grid r.agrees here_below here_own open_now entries arrived k s.rank))
      (added_grows sent link q)
      (fills_more st.steady st.cap sent link q (λ open'. post_filled st link q s due entries last open')))

  pub no_longer_due : new ≡ with_open st (out_index st.dims link) o → o.parcel.untaken ≡ [] → o.closed ≡ q.last → IsDue new link → ⊥
  no_longer_due e none closes d =
      sent_not_due (with_open st (out_index st.dims link) o) link s.cap.some (ap (λ y. y.parcel.untaken) (open_here st link o s here_below) ∙ none)
      (ap (λ y. y.closed) (open_here st link o s here_below) ∙ (closes ∙ last)) (subst (λ u. IsDue u link) e d)
