-- The exchange law. A call changes one rank's part; what it pulls stands next in what its sender
-- pushed, since items arrive in order; and where it completes, its last links have ended, so that
-- all senders are through.
use Rattle.std.proofs.Common.{◌≡◌, ◌≢◌, ℕ, zero, suc, ◌+◌, ◌-◌, ◌<◌, ◌≤◌, ◌==◌, Bool, true, false, cond, List, [], ◌∷◌, ◌++◌, length, slice_get, Some, inl, inr, refl, sym, ap, subst, ◌∙◌, arith, ne_eqb, eqb-true}
use Rattle.std.proofs.lemmas.Bool.{cases_eq}
use Rattle.bale_items.specs.declared.item.Item.{Item}
use Rattle.item_buffer.specs.Contents.{Shipped}
use Rattle.route_tensor.specs.Grid.{ranks, place}
use Rattle.route_tensor.proofs.Coordinates.{place_below}
use Rattle.route_tensor.specs.Ends.{sender_at, reader_at}
use Rattle.port_bank.specs.Logs.{Logs, lasts, starting_at, ending_at, starting_elsewhere, ending_elsewhere}
use Rattle.port_bank.specs.Flow.{hop_link, flow}
use Rattle.list_laws.specs.Lists.{IsPrefix}
use Rattle.route_tensor.specs.Pair.{PassesThrough}
use Rattle.port_bank.proofs.Fronts.{begins_trans}
use Rattle.port_bank.proofs.Segments.{lasts_begins}
use Rattle.port_bank.proofs.Kept.{between}
use Rattle.port_bank.proofs.Routes.{link-on_route}
use Rattle.port_bank.proofs.Pipeline.{Keeps, arrives_in_order, arrives_whole}
use Rattle.port_bank.specs.Machine.{Part, ItemLists, for_ranks, Step, MayComplete, NamesRank, Allows, IsOwnStep, IsStep, completed_of, done_of, EpochsClose}
use Rattle.port_bank.specs.Machine.Step.{Push, Pull, Unpull, Done, Complete, Reset, Idle}
use Rattle.convey.specs.Buffers.{Buffers}
use Rattle.convey.specs.Agreement.{Agrees}
use Rattle.convey.specs.Parts.{part_of, pushed_to, pulled_of}
use Rattle.convey.specs.Law.{IsSound, AgreeTogether, IsCall, state_of}
use Rattle.port_bank.proofs.Listing.{for_ranks-within, with-item_here, next_of, through_same, through_done, all_below}
use Rattle.convey.proofs.OneRank.{OneRank, one_rank_of}

-- what a call on another rank leaves of a rank's own logs
same_at : (b c : Bool) (x y : List Shipped) → (b ≡ true → c ≡ false) → cond c [] x ≡ cond c [] y → cond b x [] ≡ cond b y []
same_at true c x y h e = subst (λ t. cond t [] x ≡ cond t [] y) (h refl) e
same_at false c x y h e = refl

starting_same : (dims : List ℕ) (r q : ℕ) (sent sent' : Logs) → q ≢ r → starting_elsewhere dims r sent' ≡ starting_elsewhere dims r sent → starting_at dims q sent' ≡ starting_at dims q sent
starting_same dims r q sent sent' ne same =
    let each : (l : ℕ) → starting_at dims q sent' l ≡ starting_at dims q sent l = λ l.
    same_at (sender_at dims l == q) (sender_at dims l == r) (sent' l) (sent l)
    (λ e. ne_eqb (sender_at dims l) r (λ f. ne (sym (eqb-true (sender_at dims l) q e) ∙ f))) (ap (λ logs. logs l) same) in
    λ i l. each l i

ending_same : (dims : List ℕ) (r q : ℕ) (got got' : Logs) → q ≢ r → ending_elsewhere dims r got' ≡ ending_elsewhere dims r got → ending_at dims q got' ≡ ending_at dims q got
ending_same dims r q got got' ne same =
    let each : (l : ℕ) → ending_at dims q got' l ≡ ending_at dims q got l = λ l.
    same_at (reader_at dims l == q) (reader_at dims l == r) (got' l) (got l)
    (λ e. ne_eqb (reader_at dims l) r (λ f. ne (sym (eqb-true (reader_at dims l) q e) ∙ f))) (ap (λ logs. logs l) same) in
    λ i l. each l i

for-dims : (dims ds : List ℕ) (lists : ItemLists) (e r : ℕ) → ds ≡ dims → r < ranks dims → for_ranks (ranks ds) lists e r ≡ lists e r
for-dims dims ds lists e r same h = ap (λ n. for_ranks n lists e r) (ap ranks same) ∙ for_ranks-within (ranks dims) lists e r h

module _ (dims : List ℕ) (cap slots : ℕ) (all : ℕ → Buffers) (sent got : Logs) (t : AgreeTogether dims cap slots all sent got) where
  one : (r : ℕ) → r < ranks dims → OneRank dims r (all r) sent got
  one r h = one_rank_of dims r (all r) sent got (t.same_dims r h) (t.same_rank r h) t.grid h (t.sound r h) (t.agree r h)

  keeps : Keeps dims sent got
  keeps = record { grid = t.grid; fronts = λ l h. (t.links_keep l h).begins; relays = λ r h. (one r h).law }

  -- where the last link of a route has ended an epoch, its first link had
  ended_first : (s d e n : ℕ) → s < ranks dims → d < ranks dims → suc n ≤ length dims → e < lasts (got (hop_link dims s d (suc n))) → e < lasts (sent (hop_link dims s d 1))
  ended_first s d e zero from to last h =
      let b = lasts_begins (got (hop_link dims s d 1)) (sent (hop_link dims s d 1)) ((t.links_keep (hop_link dims s d 1) (link-on_route dims s d 1 t.grid from to (omega arith) last)).begins) in
      omega arith
  ended_first s d e (suc n) from to last h =
      let b = lasts_begins (got (hop_link dims s d (suc (suc n)))) (sent (hop_link dims s d (suc (suc n))))
      ((t.links_keep (hop_link dims s d (suc (suc n))) (link-on_route dims s d (suc (suc n)) t.grid from to (omega arith) last)).begins) in
      let here : ℕ = place dims s d (suc n) in
      let below : here < ranks dims = place_below dims s d (suc n) t.grid.positive from to in
      let pair : PassesThrough dims here s d (suc n) = record { sender = from; destination = to; first_hop = omega arith; last_hop = omega arith; here = refl } in
      let w = between dims here s d (suc n) t.grid pair in
      let next : suc n + 1 ≡ suc (suc n) = omega arith in
      let posted : e < lasts (sent (hop_link dims s d (suc n + 1))) = subst (λ m. e < lasts (sent (hop_link dims s d m))) (sym next) (omega (arith, h, b)) in
      ended_first s d e n from to (omega arith) ((one here below).law.closed (hop_link dims s d (suc n + 1)) (hop_link dims s d (suc n)) e w.leaves w.comes w.from w.to w.next posted)

  -- what a rank pulled is a prefix of what its sender pushed
  pub in_order : (e s d : ℕ) → s < ranks dims → d < ranks dims → IsPrefix ((state_of dims all sent got d).pulled e s) ((state_of dims all sent got s).pushed e d)
  in_order e s d from to =
      subst (λ xs. IsPrefix xs ((state_of dims all sent got s).pushed e d)) (sym (for-dims dims (all d).dims (pulled_of (all d) (ending_at dims d got)) e s (t.same_dims d to) from))
      (subst (IsPrefix (pulled_of (all d) (ending_at dims d got) e s)) (sym (for-dims dims (all s).dims (pushed_to (all s) (starting_at dims s sent)) e d (t.same_dims s from) to))
      (begins_trans (pulled_of (all d) (ending_at dims d got) e s) (flow dims got s d (length dims) e) (pushed_to (all s) (starting_at dims s sent) e d)
      ((one d to).pulled_front e s from)
      (begins_trans (flow dims got s d (length dims) e) (flow dims sent s d 1 e) (pushed_to (all s) (starting_at dims s sent) e d)
      (arrives_in_order dims sent got keeps s d e from to) ((one s from).pushed_front e d to))))

  -- a complete rank
  last_hop : suc (length dims - 1) ≡ length dims
  last_hop = let some = t.grid.some in omega arith

  first_ended : (s d : ℕ) → s < ranks dims → d < ranks dims → (all d).complete ≡ true → (all d).epoch < lasts (sent (hop_link dims s d 1))
  first_ended s d from to c =
      ended_first s d (all d).epoch (length dims - 1) from to (omega (arith, last_hop))
      (subst (λ m. (all d).epoch < lasts (got (hop_link dims s d m))) (sym last_hop) ((one d to).completes s c from))

  pub may_complete : (d : ℕ) → d < ranks dims → (all d).complete ≡ true → MayComplete (ranks dims) d (state_of dims all sent got)
  may_complete d to c = record {
    through = λ s from. (one s from).through (all d).epoch d to (first_ended s d from to c);
    all = λ s from.
        for-dims dims (all d).dims (pulled_of (all d) (ending_at dims d got)) (all d).epoch s (t.same_dims d to) from
        ∙ ((one d to).pulled_all s c from
        ∙ (arrives_whole dims sent got keeps s d (all d).epoch from to ((one d to).completes s c from)
        ∙ (sym ((one s from).pushed_ended (all d).epoch d to (first_ended s d from to c))
        ∙ sym (for-dims dims (all s).dims (pushed_to (all s) (starting_at dims s sent)) (all d).epoch d (t.same_dims s from) to))));
  }

  -- all ranks end an epoch together
  ended_by : (r s e : ℕ) → r < ranks dims → s < ranks dims → e < completed_of (state_of dims all sent got r) → e < lasts (sent (hop_link dims s r 1))
  ended_by r s e to from h =
      ended_first s r e (length dims - 1) from to (omega (arith, last_hop))
      (subst (λ m. e < lasts (got (hop_link dims s r m))) (sym last_hop) ((one r to).completed e s h from))

  pub close : EpochsClose (ranks dims) (state_of dims all sent got)
  close = record {
    begins = λ r s e to from. in_order e s r from to;
    all_done = λ r s to from.
        all_below (completed_of (state_of dims all sent got r)) (done_of (state_of dims all sent got s))
        (λ e h. through_done e (state_of dims all sent got s) ((one s from).through e r to (ended_by r s e to from h)));
    whole = λ r s e to from h.
        for-dims dims (all r).dims (pulled_of (all r) (ending_at dims r got)) e s (t.same_dims r to) from
        ∙ ((one r to).pulled_past e s h from
        ∙ (arrives_whole dims sent got keeps s r e from to ((one r to).completed e s h from)
        ∙ (sym ((one s from).pushed_ended e r to (ended_by r s e to from h))
        ∙ sym (for-dims dims (all s).dims (pushed_to (all s) (starting_at dims s sent)) e r (t.same_dims s from) to))));
  }

module _ (dims : List ℕ) (cap slots r : ℕ) (old new : ℕ → Buffers) (sent sent' got got' : Logs)
    (t : AgreeTogether dims cap slots old sent got) (c : IsCall dims cap slots r old new sent sent' got got') where
  -- what holds of the rank that is called and of all others, holds of each
  each_rank : (P : ℕ → Type 0) → P r → ((q : ℕ) → q < ranks dims → q ≢ r → P q) → (q : ℕ) → q < ranks dims → P q
  each_rank P here other q h = elim (cases_eq q r) [ inl same ↦ subst P (sym same) here | inr ne ↦ other q h ne ]

  agrees_other : (q : ℕ) → q < ranks dims → q ≢ r → Agrees (new q) (starting_at dims q sent') (ending_at dims q got')
  agrees_other q h ne =
      subst (λ b. Agrees b (starting_at dims q sent') (ending_at dims q got')) (sym (c.others q h ne))
      (subst (λ s. Agrees (old q) s (ending_at dims q got')) (sym (starting_same dims r q sent sent' ne c.sent_elsewhere))
      (subst (λ g. Agrees (old q) (starting_at dims q sent) g) (sym (ending_same dims r q got got' ne c.got_elsewhere)) (t.agree q h)))

  pub stays_together : AgreeTogether dims cap slots new sent' got'
  stays_together = record {
    grid = t.grid;
    links_keep = c.links_keep;
    same_dims = each_rank (λ q. (new q).dims ≡ dims) c.same_dims (λ q h ne. ap (λ b. b.dims) (c.others q h ne) ∙ t.same_dims q h);
    same_rank = each_rank (λ q. (new q).rank ≡ q) c.same_rank (λ q h ne. ap (λ b. b.rank) (c.others q h ne) ∙ t.same_rank q h);
    sound = each_rank (λ q. IsSound (new q)) c.sound (λ q h ne. subst IsSound (sym (c.others q h ne)) (t.sound q h));
    agree = each_rank (λ q. Agrees (new q) (starting_at dims q sent') (ending_at dims q got')) c.agrees agrees_other;
  }

  before : ℕ → Part
  before = state_of dims old sent got

  later : ℕ → Part
  later = state_of dims new sent' got'

  other_parts : (q : ℕ) → q < ranks dims → q ≢ r → later q ≡ before q
  unfolding before later
  other_parts q h ne =
      let b = c.others q h ne in
      let s = starting_same dims r q sent sent' ne c.sent_elsewhere in
      let g = ending_same dims r q got got' ne c.got_elsewhere in
      λ i. part_of (b i) (s i) (g i)

  -- where the called rank's lists of pushed items stay, all do; and so for its epoch and its mark
  -- done
  pushed_stay : (later r).pushed ≡ (before r).pushed → (q : ℕ) → q < ranks dims → (later q).pushed ≡ (before q).pushed
  pushed_stay own = each_rank (λ q. (later q).pushed ≡ (before q).pushed) own (λ q h ne. ap (λ p. p.pushed) (other_parts q h ne))

  epochs_stay : (later r).epoch ≡ (before r).epoch → (q : ℕ) → q < ranks dims → (later q).epoch ≡ (before q).epoch
  epochs_stay own = each_rank (λ q. (later q).epoch ≡ (before q).epoch) own (λ q h ne. ap (λ p. p.epoch) (other_parts q h ne))

  dones_stay : (later r).done ≡ (before r).done → (q : ℕ) → q < ranks dims → (later q).done ≡ (before q).done
  dones_stay own = each_rank (λ q. (later q).done ≡ (before q).done) own (λ q h ne. ap (λ p. p.done) (other_parts q h ne))

  pull_allowed : (s : ℕ) (x : Item) → s < ranks dims → IsOwnStep (Pull s x) (before r) (later r)
      → slice_get ((before s).pushed (before r).epoch r) (length ((before r).pulled (before r).epoch s)) ≡ Some x
  unfolding later
  pull_allowed s x h own =
      let e : ℕ = (before r).epoch in
      let grown : (later r).pulled e s ≡ (before r).pulled e s ++ x ∷ [] = ap (λ p. p.pulled e s) own.is ∙ with-item_here (before r).pulled e s x in
      let stay : (later s).pushed e r ≡ (before s).pushed e r = ap (λ f. f e r) (pushed_stay (ap (λ p. p.pushed) own.is) s h) in
      next_of ((before r).pulled e s) ((before s).pushed e r) x
      (subst (λ ys. IsPrefix ((before r).pulled e s ++ x ∷ []) ys) stay
      (subst (λ xs. IsPrefix xs ((later s).pushed e r)) grown (in_order dims cap slots new sent' got' stays_together e s r h c.rank)))

  complete_allowed : IsOwnStep Complete (before r) (later r) → MayComplete (ranks dims) r before
  unfolding later
  complete_allowed own =
      let m = may_complete dims cap slots new sent' got' stays_together r c.rank (ap (λ p. p.complete) own.is) in
      let e : (later r).epoch ≡ (before r).epoch = ap (λ p. p.epoch) own.is in
      let pulled : (later r).pulled ≡ (before r).pulled = ap (λ p. p.pulled) own.is in
      record {
        through = λ q h. through_same (later r).epoch (before r).epoch (later q) (before q) e (epochs_stay e q h) (dones_stay (ap (λ p. p.done) own.is) q h) (m.through q h);
        all = λ q h.
            let pushed : (later q).pushed ≡ (before q).pushed = pushed_stay (ap (λ p. p.pushed) own.is) q h in
            let left : (before r).pulled (before r).epoch q ≡ (later r).pulled (later r).epoch q = sym (λ i. (pulled i) (e i) q) in
            let right : (later q).pushed (later r).epoch r ≡ (before q).pushed (before r).epoch r = λ i. (pushed i) (e i) r in
            left ∙ (m.all q h ∙ right);
      }

  allowed : (step : Step) → NamesRank (ranks dims) step → IsOwnStep step (before r) (later r) → Allows (ranks dims) r step before
  allowed (Push d x) named own = tt
  allowed (Pull s x) named own = pull_allowed s x named own
  allowed Unpull named own = tt
  allowed Done named own = tt
  allowed Complete named own = complete_allowed own
  allowed Reset named own = tt
  allowed Idle named own = tt

  pub is_step : (step : Step) → NamesRank (ranks dims) step → IsOwnStep step (state_of dims old sent got r) (state_of dims new sent' got' r)
      → IsStep (ranks dims) r step (state_of dims old sent got) (state_of dims new sent' got')
  unfolding before later
  is_step step named own = record { allowed = allowed step named own; own = own; others = other_parts }
