-- A round keeps what holds of an exstack, and the agreement.
use Rattle.std.proofs.Common.{◌≡◌, ℕ, ◌+◌, ◌*◌, ◌%◌, ◌<◌, ◌||◌, ◌&&◌, Bool, true, false, not, cond, List, [], ◌∷◌, ◌++◌, length, get_or, Some, None, refl, sym, ap, subst, ◌∙◌, arith}
use Rattle.std.proofs.lemmas.Bool.{false≢true}
use Rattle.std.proofs.lemmas.List.{get_or_default}
use Rattle.list_laws.specs.Lists.{IsPrefix, EachAt, Ends}
use Rattle.item_buffer.specs.Contents.{Shipped}
use Rattle.port_bank.specs.Logs.{Logs, lasts, segment}
use Rattle.port_bank.specs.Shapes.{IsExstackShape}
use Rattle.port_bank.specs.Relay.{RelayLaw}
use Rattle.exstack.specs.declared.stage.Stage.{Stage}
use Rattle.exstack.specs.Links.{StackOut, StackIn, no_stack_out, no_stack_in, parcel_of, gone, came}
use Rattle.exstack.specs.State.{Stack, stack_out_at, stack_in_at, stack_dims, number, stack_link_to, stack_link_from, is_proceeding, is_exchanging}
use Rattle.exstack.specs.Steps.{was_moved, WasPostedInRound, WasCollected, latest, MadeRound}
use Rattle.exstack.specs.Standing.{IsStackOut, IsStackIn, IsStack}
use Rattle.exstack.specs.Cycles.{entries_exchanged, exchange_parcel, entries_if_any}
use Rattle.exstack.specs.Agreement.{AgreesIn, rounds_in, back_first}
use Rattle.exstack.proofs.Calls.{not_both}
use Rattle.exstack.proofs.OneLink.{moved_due, out_agrees, in_agrees, shape_more, Reads, reads_after}
use Rattle.port_bank.proofs.Fronts.{begins_refl, begins_trans}
use Rattle.port_bank.proofs.Kept.{law_got_more}
use Rattle.exstack.proofs.OneHop.{grid_one}
use Rattle.exstack.proofs.Moves.{none_collected}
use Rattle.exstack.proofs.Manners.{Kind, kind_of}

-- what holds of a link out, after a round
module _ (cap : ℕ) (stage : Stage) (done last exchange : Bool) (k : Kind stage done last exchange) (o o' : StackOut) (s : IsStackOut cap stage done o) where
  gone_is : o.due ≡ true → IsStackOut cap stage done (gone last)
  gone_is d = record {
    fits = omega arith;
    closed_empty = λ h. refl;
    closed_done = k.last_done;
    done_closed = λ h f. by_kind exchange refl h;
    due_open = λ h. absurd (false≢true h);
    due_round = λ h. absurd (false≢true h);
    due_exchange = λ h. absurd (false≢true h);
    sent_on = λ h. refl;
  } where
    by_kind : (x : Bool) → exchange ≡ x → done ≡ true → last ≡ true
    by_kind true x h = absurd (not_both done h (s.due_exchange d (k.exchanging x)))
    by_kind false x h = k.done_last x ∙ h

  out_is_by : (b : Bool) → was_moved o.due o'.due ≡ b → o' ≡ cond b (gone last) o → IsStackOut cap stage done o'
  out_is_by true m link = subst (IsStackOut cap stage done) (sym link) (gone_is (moved_due o.due o'.due m))
  out_is_by false m link = subst (IsStackOut cap stage done) (sym link) s

  pub out_is : o' ≡ cond (was_moved o.due o'.due) (gone last) o → IsStackOut cap stage done o'
  out_is link = out_is_by (was_moved o.due o'.due) refl link

-- and of a link in
module _ (stage : Stage) (done last exchange : Bool) (k : Kind stage done last exchange) (i i' : StackIn) (s : IsStackIn stage i) where
  came_is : (p : Shipped) → IsStackIn stage (came exchange p)
  came_is p = record {
    due_open = λ h. absurd (false≢true h);
    due_empty = λ h. absurd (false≢true h);
    due_round = λ h. absurd (false≢true h);
    read = λ h. ap (λ x. cond x p.entries []) (k.reading h);
    all_ended = λ h. absurd (false≢true (sym k.not_all ∙ h));
  }

  in_is_by : (p : Shipped) (b : Bool) → i' ≡ cond b (came exchange p) i → IsStackIn stage i'
  in_is_by p true link = subst (IsStackIn stage) (sym link) (came_is p)
  in_is_by p false link = subst (IsStackIn stage) (sym link) s

  pub in_is : (p : Shipped) → i' ≡ cond (was_moved i.due i'.due) (came exchange p) i → IsStackIn stage i'
  in_is p link = in_is_by p (was_moved i.due i'.due) link

-- the exstack after a round
abbrev pub after_round : Stack → List StackOut → List StackIn → Stack
after_round st outs ins = record st { outs = outs; ins = ins }

module _ (cap : ℕ) (st : Stack) (outs : List StackOut) (ins : List StackIn) (last exchange : Bool) (sent sent' got got' : Logs) (s : IsStack cap st) (k : Kind st.stage st.done last exchange)
    (forgotten : st.popped ≡ None) (all_outs : length outs ≡ length st.outs) (all_ins : length ins ≡ length st.ins) where
  module _ (m : MadeRound last exchange st (after_round st outs ins) sent sent' got got') where
    each_out : EachAt (λ b o. IsStackOut cap st.stage st.done o) outs
    each_out b d w =
        let v : b < length st.outs = omega (arith, w, all_outs) in
        let u : b < st.ranks = omega (arith, v, s.all_outs) in
        subst (IsStackOut cap st.stage st.done) (get_or_default outs b no_stack_out d w) (out_is cap st.stage st.done last exchange k (stack_out_at st b) (get_or outs b no_stack_out) (s.each_out b no_stack_out v) (m.posted b u).link)

    each_in : EachAt (λ a i. IsStackIn st.stage i) ins
    each_in a d w =
        let v : a < length st.ins = omega (arith, w, all_ins) in
        let u : a < st.ranks = omega (arith, v, s.all_ins) in
        subst (IsStackIn st.stage) (get_or_default ins a no_stack_in d w) (in_is st.stage st.done last exchange k (stack_in_at st a) (get_or ins a no_stack_in) (s.each_in a no_stack_in v) (latest (got' (stack_link_from st a))) (m.collected a u).link)

    pub stack_made : IsStack cap (after_round st outs ins)
    stack_made = record {
      is_cap = s.is_cap;
      rank = s.rank;
      few = s.few;
      all_outs = all_outs ∙ s.all_outs;
      all_ins = all_ins ∙ s.all_ins;
      each_out = each_out;
      each_in = each_in;
      can_unpop = λ a e. absurd (none_some a (sym forgotten ∙ e));
    } where
      none_some : (a : ℕ) → None ≡ Some a → ⊥
      none_some a e = cc

    module _ (n : ℕ) (a : AgreesIn n st sent got) (law : RelayLaw (stack_dims st) st.rank sent' got') (own : IsPrefix (got' (stack_link_to st st.rank)) (sent' (stack_link_to st st.rank))) where
      out_was : (b : ℕ) → b < st.ranks → IsStackOut cap st.stage st.done (stack_out_at st b)
      out_was b w = s.each_out b no_stack_out (omega (arith, w, s.all_outs))

      in_was : (b : ℕ) → b < st.ranks → IsStackIn st.stage (stack_in_at st b)
      in_was b w = s.each_in b no_stack_in (omega (arith, w, s.all_ins))

      shape_by : (b : ℕ) → b < st.ranks → (x : Bool) → was_moved (stack_out_at st b).due (get_or outs b no_stack_out).due ≡ x
          → sent' (stack_link_to st b) ≡ cond x (sent (stack_link_to st b) ++ parcel_of last st.epoch (stack_out_at st b) ∷ []) (sent (stack_link_to st b)) → IsExstackShape (sent' (stack_link_to st b))
      shape_by b w true moved is =
          let o : StackOut = stack_out_at st b in
          let t = out_was b w in
          let d : o.due ≡ true = moved_due o.due (get_or outs b no_stack_out).due moved in
          let g = a.outs b w in
          let opened : o.closed ≡ false = t.due_open d in
          let now : lasts (sent (stack_link_to st b)) ≡ st.epoch = g.ended ∙ ap (λ c. cond c (st.epoch + 1) st.epoch) opened in
          let one : length (segment st.epoch (sent (stack_link_to st b))) + 1 ≡ rounds_in n st.stage = subst (λ c. length (segment st.epoch (sent (stack_link_to st b))) + cond c 1 0 ≡ rounds_in n st.stage) d (g.each_round opened) in
          let at_now : length (segment (lasts (sent (stack_link_to st b))) (sent (stack_link_to st b))) ≡ length (segment st.epoch (sent (stack_link_to st b))) = ap (λ e. length (segment e (sent (stack_link_to st b)))) now in
          subst IsExstackShape (sym is) (shape_more (sent (stack_link_to st b)) (parcel_of last st.epoch o)
          (λ h. t.sent_on (k.none_wait (not_odd exchange refl (omega (arith, at_now)) one h) o.due))
          (λ h. k.not_last (not_even exchange refl (omega (arith, at_now)) one h)) (a.shapes b w))
        where
          not_odd : (x : Bool) → exchange ≡ x → {size now : ℕ} → now ≡ size → size + 1 ≡ rounds_in n st.stage → now % 2 ≡ 0 → exchange ≡ false
          not_odd true x {size} {now} is one h = let r : rounds_in n st.stage ≡ 2 * n + 2 = k.odd n x in absurd (omega arith)
          not_odd false x is one h = x

          not_even : (x : Bool) → exchange ≡ x → {size now : ℕ} → now ≡ size → size + 1 ≡ rounds_in n st.stage → now % 2 ≡ 1 → exchange ≡ true
          not_even true x is one h = x
          not_even false x {size} {now} is one h = let r : rounds_in n st.stage ≡ 2 * n + 1 = k.even n x in absurd (omega arith)
      shape_by b w false moved is = subst IsExstackShape (sym is) (a.shapes b w)

      reads : (b : ℕ) → b < st.ranks → Reads st.epoch n (got' (stack_link_from st b)) (get_or ins b no_stack_in).unread
      reads b w = reads_after st.epoch n (rounds_in n st.stage) exchange (stack_in_at st b) (get_or ins b no_stack_in) (got (stack_link_from st b)) (got' (stack_link_from st b)) (in_was b w).due_open (a.ins b w) (k.odd n) (m.collected b w)
          (record {
            came = subst (λ p. Ends (entries_exchanged st.epoch (got (stack_link_from st b))) (back_first p b (stack_in_at st b))) forgotten (a.came b w);
            in_cycle = subst (λ p. Ends (entries_if_any (exchange_parcel st.epoch n (got (stack_link_from st b)))) (back_first p b (stack_in_at st b))) forgotten (a.in_cycle b w);
          })

      pub agrees_made : AgreesIn n (after_round st outs ins) sent' got'
      agrees_made = record {
        outs = λ b w. out_agrees st.epoch (rounds_in n st.stage) last (stack_out_at st b) (get_or outs b no_stack_out) (sent (stack_link_to st b)) (sent' (stack_link_to st b)) (out_was b w).due_open (a.outs b w) (m.posted b w);
        ins = λ b w. in_agrees st.epoch (rounds_in n st.stage) exchange (stack_in_at st b) (get_or ins b no_stack_in) (got (stack_link_from st b)) (got' (stack_link_from st b)) (in_was b w).due_open (a.ins b w) (m.collected b w);
        shapes = λ b w. shape_by b w (was_moved (stack_out_at st b).due (get_or outs b no_stack_out).due) refl (m.posted b w).sent;
        law = law;
        came = λ b w. subst (λ p. Ends (entries_exchanged st.epoch (got' (stack_link_from st b))) (back_first p b (get_or ins b no_stack_in))) (sym forgotten) (reads b w).came;
        in_cycle = λ b w. subst (λ p. Ends (entries_if_any (exchange_parcel st.epoch n (got' (stack_link_from st b)))) (back_first p b (get_or ins b no_stack_in))) (sym forgotten) (reads b w).in_cycle;
        own = own;
      }

-- What the posts of a round, and its collects, leave.
pub record PostsDone (st : Stack) (outs : List StackOut) (last : Bool) (sent sent' got : Logs) : Type 0 where
  pub count : length outs ≡ length st.outs
  pub moved : (b : ℕ) → b < length st.outs → WasPostedInRound last st.epoch (get_or st.outs b no_stack_out) (get_or outs b no_stack_out) (sent (number (length st.outs) st.rank b)) (sent' (number (length st.outs) st.rank b))
  pub law : RelayLaw (stack_dims st) st.rank sent' got
  pub grows : (m : ℕ) → IsPrefix (sent m) (sent' m)

pub record CollectsDone (st : Stack) (ins : List StackIn) (exchange : Bool) (sent' got got' : Logs) : Type 0 where
  pub count : length ins ≡ length st.ins
  pub moved : (a : ℕ) → a < length st.ins → WasCollected exchange (get_or st.ins a no_stack_in) (get_or ins a no_stack_in) (got (number (length st.ins) a st.rank)) (got' (number (length st.ins) a st.rank))
  pub own : IsPrefix (got (number (length st.ins) st.rank st.rank)) (sent' (number (length st.ins) st.rank st.rank)) → IsPrefix (got' (number (length st.ins) st.rank st.rank)) (sent' (number (length st.ins) st.rank st.rank))
  pub grows : (m : ℕ) → IsPrefix (got m) (got' m)

renumber : (P : ℕ → ℕ → Type 0) (n m : ℕ) → n ≡ m → ((b : ℕ) → b < n → P n b) → (b : ℕ) → b < m → P m b
renumber P n m e f = subst (λ x. (b : ℕ) → b < x → P x b) e f

-- nothing was collected
pub none_done : (st : Stack) (exchange : Bool) (sent' got : Logs) → CollectsDone st st.ins exchange sent' got got
none_done st exchange sent' got = record {
  count = refl;
  moved = λ a w. none_collected exchange (get_or st.ins a no_stack_in) (record { log = got (number (length st.ins) a st.rank); count = 0; stuck = false });
  own = λ b. b;
  grows = λ m. begins_refl (got m);
}

-- the facts of the requires, of an equal state
pub record Before (st : Stack) (last exchange : Bool) : Type 0 where
  pub kind : Kind st.stage st.done last exchange
  pub forgotten : st.popped ≡ None

pub before : (st now : Stack) (last exchange : Bool) → st ≡ now → (is_proceeding now.stage || is_exchanging now.stage) ≡ true → exchange ≡ is_exchanging now.stage → last ≡ (now.done && not exchange) → now.popped ≡ None
    → Before st last exchange
before st now last exchange view r x l f = record {
  kind = kind_of st.stage st.done last exchange (ap (λ (t : Stack). is_proceeding t.stage || is_exchanging t.stage) view ∙ r) (x ∙ ap (λ (t : Stack). is_exchanging t.stage) (sym view)) (l ∙ ap (λ (t : Stack). t.done && not exchange) (sym view));
  forgotten = ap (λ (t : Stack). t.popped) view ∙ f;
}

module _ (cap : ℕ) (st : Stack) (outs : List StackOut) (ins : List StackIn) (last exchange : Bool) (sent sent' got got' : Logs) (s : IsStack cap st) (b : Before st last exchange)
    (p : PostsDone st outs last sent sent' got) (q : CollectsDone st ins exchange sent' got got') where
  pub round_done : MadeRound last exchange st (after_round st outs ins) sent sent' got got'
  round_done = record {
    posted = renumber (λ n b. WasPostedInRound last st.epoch (get_or st.outs b no_stack_out) (get_or outs b no_stack_out) (sent (number n st.rank b)) (sent' (number n st.rank b))) (length st.outs) st.ranks s.all_outs p.moved;
    collected = renumber (λ n a. WasCollected exchange (get_or st.ins a no_stack_in) (get_or ins a no_stack_in) (got (number n a st.rank)) (got' (number n a st.rank))) (length st.ins) st.ranks s.all_ins q.moved;
    sent_grows = p.grows;
    got_grows = q.grows;
  }

  pub stack_done : IsStack cap (after_round st outs ins)
  stack_done = stack_made cap st outs ins last exchange sent sent' got got' s b.kind b.forgotten p.count q.count round_done

  pub agrees_done : (n : ℕ) → AgreesIn n st sent got → AgreesIn n (after_round st outs ins) sent' got'
  agrees_done n a = agrees_made cap st outs ins last exchange sent sent' got got' s b.kind b.forgotten p.count q.count round_done n a
      (law_got_more (stack_dims st) st.rank sent' got got' (grid_one st.ranks (omega (arith, s.rank)) s.few) q.grows p.law)
      (subst (λ x. IsPrefix (got (number x st.rank st.rank)) (sent' (number x st.rank st.rank)) → IsPrefix (got' (number x st.rank st.rank)) (sent' (number x st.rank st.rank))) s.all_ins q.own
      (begins_trans _ _ _ a.own (p.grows (stack_link_to st st.rank))))
