-- What an advance leaves before it settles the phase.
use Rattle.std.proofs.Common.{Some, ◌≡◌, ℕ, ◌<◌, ◌⊎◌, Bool, true, false, List, [], ◌∷◌, ◌++◌, length, arith, slice_get, slice_index_or, Option, None, refl, sym, ap, subst, ◌∙◌, inl, inr}
use Rattle.std.specs.List.{flat_map}
use Rattle.std.proofs.lemmas.Bool.{false≢true}
use Rattle.std.proofs.lemmas.List.{append-nil}
use Rattle.bale_items.specs.declared.item.Entry.{Entry}
use Rattle.item_buffer.specs.Contents.{Shipped}
use Rattle.route_tensor.specs.Grid.{ranks, IsGrid}
use Rattle.route_tensor.specs.Link.{links}
use Rattle.route_tensor.specs.Ends.{hop_at, sender_at, reader_at}
use Rattle.route_tensor.specs.Neighbour.{out_index, in_index}
use Rattle.port_bank.specs.Logs.{Logs}
use Rattle.port_bank.specs.Flow.{hop_link}
use Rattle.list_laws.specs.Lists.{IsPrefix, Ends}
use Rattle.port_bank.proofs.Fronts.{begins_refl}
use Rattle.bale_items.specs.Counters.{RoseOrFull}
use Rattle.hop_core.specs.declared.phase.Phase.TheVariants.{Complete}
use Rattle.hop_core.specs.Link.{Out, no_out, no_in}
use Rattle.hop_core.specs.State.{State, phase_of}
use Rattle.hop_core.specs.Standing.{IsState}
use Rattle.convey.specs.Buffers.{out_of, in_of, is_complete, buffers_of}
use Rattle.convey.specs.Agreement.{Agrees}
use Rattle.convey.specs.Due.{WantsParcel, IsOver, WasServed, NextIs, WasFull, IsHeldUpAt, IsBlocked}
use Rattle.convey.specs.Parts.{part_of}
use Rattle.convey.specs.AdvanceSteps.{IsReady, GoesOn, PassedOn, WasAsked, WasPosted, MovesOn, HasServed, without_latest}
use Rattle.convey.proofs.Moves.{forget_agrees, marks_agree}
use Rattle.convey.proofs.Routes.{own_loop, not_all_ended}
use Rattle.convey.proofs.States.{closed_end, is_out}
use Rattle.convey.proofs.Posts.{due_open, due_full, still_full}
use Rattle.convey.proofs.Relays.{ends_refl}
use Rattle.convey.proofs.Blocks.{next_map, none_first}
use Rattle.convey.proofs.Completes.{is_over, over_not_due, over_not_wanted}
use Rattle.convey.proofs.Ways.{goes_on_trans, at_most_one, wants_same, no_more, none_filled}

-- done is noted
pub noted_agrees : (st : State) (done : Bool) (pulled : Option ℕ) (sent got : Logs) → (pulled ≡ st.pulled) ⊎ (pulled ≡ None) → Agrees (buffers_of st) sent got → Agrees (buffers_of (record st { done = done; pulled = pulled })) sent got
noted_agrees st done pulled sent got h a =
    elim h [
      | inl same ↦ subst (λ p. Agrees (buffers_of (record st { done = done; pulled = p })) sent got) (sym same) (marks_agree (buffers_of st) done (is_complete st.phase) sent got a)
      | inr none ↦ subst (λ p. Agrees (buffers_of (record st { done = done; pulled = p })) sent got) (sym none)
          (forget_agrees (record (buffers_of st) { done = done }) sent got (marks_agree (buffers_of st) done (is_complete st.phase) sent got a))
    ]

pub noted_ready : (dims : List ℕ) (rank : ℕ) (st new : State) (done : Bool) (sent got : Logs) → new ≡ record st { done = done; pulled = new.pulled } → (new.pulled ≡ st.pulled) ⊎ (new.pulled ≡ None)
    → IsReady dims rank st sent got → IsReady dims rank new sent got
noted_ready dims rank st new done sent got e p k =
    subst (λ n. IsReady dims rank n sent got) (sym e)
    (record { same_dims = k.same_dims; same_rank = k.same_rank; agrees = noted_agrees st done new.pulled sent got p k.agrees })

-- the right to unpull is no part of what goes on
quiet : (st new : State) (done : Bool) (pulled : Option ℕ) (sent sent' got got' : Logs) → GoesOn (record st { done = done; pulled = pulled }) new sent sent' got got' → GoesOn (record st { done = done; pulled = None }) new sent sent' got got'
quiet st new done pulled sent sent' got got' k = record {
  cap = k.cap;
  steady = k.steady;
  epoch = k.epoch;
  done = k.done;
  phase = k.phase;
  part = k.part;
  sent_grows = k.sent_grows;
  got_grows = k.got_grows;
  fills = k.fills;
}

-- no link of hop 1 is closed before the rank is done
OpenFirst : List ℕ → List Out → Type 0
OpenFirst dims outs = (l : ℕ) → l < links dims → hop_at dims l ≡ 1 → (slice_index_or outs (out_index dims l) no_out).closed ≡ false

pub not_true : (c : Bool) → (c ≡ true → ⊥) → c ≡ false
not_true true h = absurd (h refl)
not_true false h = refl

open_first : (st : State) → IsState st → st.done ≡ false → OpenFirst st.dims st.outs
unfolding OpenFirst
open_first st s not_done l below one = not_true (out_of st l).closed (λ c. false≢true (sym not_done ∙ (closed_end st l s below c).done one))

-- the call that says that the rank is done doesn't complete it: its last link to itself hasn't
-- ended
not_at_once : (old mid new : State) (sent got : Logs) → IsState old → old.done ≡ false → Agrees (buffers_of mid) sent got → mid.dims ≡ old.dims → mid.rank ≡ old.rank → mid.outs ≡ old.outs
    → new.dims ≡ mid.dims → new.rank ≡ mid.rank → ((l : ℕ) → (in_of new l).ended ≡ (in_of mid l).ended) → IsOver new → ⊥
unfolding OpenFirst
not_at_once old mid new sent got s not_done a d r o e f ended over =
    let grid : IsGrid mid.dims = subst IsGrid (sym d) s.grid in
    let own : mid.rank < ranks mid.dims = subst (λ ds. mid.rank < ranks ds) (sym d) (subst (λ q. q < ranks old.dims) (sym r) s.rank) in
    let some = grid.some in
    let n = own_loop mid.dims mid.rank (length mid.dims) grid own some (omega arith) in
    let l : ℕ = hop_link mid.dims mid.rank mid.rank (length mid.dims) in
    let first : OpenFirst mid.dims mid.outs = subst (λ ds. OpenFirst ds mid.outs) (sym d) (subst (OpenFirst old.dims) (sym o) (open_first old s not_done)) in
    not_all_ended (buffers_of mid) sent got grid own a (λ m below from one. first m below one)
    (sym (ended l) ∙ over.ended l (subst (λ ds. l < links ds) (sym e) n.below) (ap (λ ds. reader_at ds l) e ∙ (n.reader ∙ sym f)))

module _ (dims : List ℕ) (rank : ℕ) (st0 st1 st2 st3 st4 : State) (done : Bool) (sent sent' sent'' got got' got'' : Logs)
    (s : IsState st0) (d : dims ≡ st0.dims) (r : rank ≡ st0.rank) (says : st1 ≡ record st0 { done = done; pulled = st1.pulled })
    (collected : GoesOn st1 st2 sent sent' got got') (outs : st2.outs ≡ st1.outs) (ready : IsReady dims rank st2 sent' got')
    (passed : PassedOn dims rank st2 st3 sent' got')
    (posted : GoesOn st3 st4 sent' sent'' got' got'') (ins : st4.ins ≡ st3.ins) (ready_again : IsReady dims rank st4 sent'' got'')
    (waits : (l : ℕ) → l < links dims → sender_at dims l ≡ rank → sent'' l ≡ sent' l → (out_of st4 l).parcel.untaken ≡ (out_of st3 l).parcel.untaken)
    (same_sent : sent' ≡ sent) (was_posted : (l : ℕ) → l < links dims → sender_at dims l ≡ rank → WasPosted (out_of st3 l).parcel.untaken (sent' l) (sent'' l)) where
  -- the rank's own links
  here : (l : ℕ) → l < links st0.dims → l < links dims
  here l h = subst (λ ds. l < links ds) (sym d) h

  sends : (l : ℕ) → sender_at st0.dims l ≡ st0.rank → sender_at dims l ≡ rank
  sends l from = ap (λ ds. sender_at ds l) d ∙ (from ∙ sym r)

  reads : (l : ℕ) → reader_at st0.dims l ≡ st0.rank → reader_at dims l ≡ rank
  reads l to = ap (λ ds. reader_at ds l) d ∙ (to ∙ sym r)

  posts_none : (l : ℕ) → sent'' l ≡ sent l → sent'' l ≡ sent' l
  posts_none l same = same ∙ sym (ap (λ s. s l) same_sent)

  same_out : (l : ℕ) → out_of st2 l ≡ out_of st0 l
  same_out l = (λ i. slice_index_or (outs i) (out_index ((ready.same_dims ∙ (d ∙ sym (ap (λ u. u.dims) says))) i) l) no_out) ∙ ap (λ u. out_of u l) says

  same_in : (l : ℕ) → in_of st4 l ≡ in_of st3 l
  same_in l = λ i. slice_index_or (ins i) (in_index ((ready_again.same_dims ∙ sym passed.ready.same_dims) i) l) no_in

  begins : (l : ℕ) → IsPrefix (out_of st0 l).parcel.untaken (out_of st3 l).parcel.untaken
  begins l = subst (λ xs. IsPrefix xs (out_of st3 l).parcel.untaken) (ap (λ o. o.parcel.untaken) (same_out l)) (passed.waits l)

  whole_way : GoesOn (record st0 { done = done; pulled = None }) st4 sent sent'' got got''
  whole_way =
      quiet st0 st4 done st1.pulled sent sent'' got got''
      (subst (λ u. GoesOn u st4 sent sent'' got got'') says
      (goes_on_trans st1 st2 st4 sent sent' sent'' got got' got'' collected (goes_on_trans st2 st3 st4 sent' sent' sent'' got' got' got'' passed.goes_on posted)))

  module _ (noted noted' noted'' : ℕ → ℕ) (idle' idle'' : ℕ → Bool)
      (asked : (l : ℕ) → l < links dims → reader_at dims l ≡ rank → WasAsked st1 l (got l) (got' l) (noted l) (noted' l) (idle' l))
      (lies : (l : ℕ) (more : List Shipped) → l < links dims → reader_at dims l ≡ rank → got' l ≡ got l ++ more → (in_of st2 l).parcel.untaken ≡ (in_of st1 l).parcel.untaken ++ flat_map (λ p. p.entries) more)
      (same_got : got'' ≡ got') (same_noted : noted'' ≡ noted') (same_idle : (l : ℕ) → sent'' l ≡ sent' l → idle'' l ≡ idle' l) where
    wants : (l : ℕ) → WantsParcel st0 l → WantsParcel st1 l
    wants l = wants_same st0 st1 l (ap (λ u. in_of u l) says)

    wanted : (l : ℕ) → WantsParcel st1 l → WantsParcel st0 l
    wanted l = wants_same st1 st0 l (sym (ap (λ u. in_of u l) says))

    pub moves_on : MovesOn st0 st4 done sent sent'' got got'' noted noted'' idle''
    moves_on = record {
      goes_on = whole_way;
      left = λ l h to no. ap (λ g. g l) same_got ∙ (asked l (here l h) (reads l to)).left (λ w. no (wanted l w));
      unasked = λ l h to no. ap (λ n. n l) same_noted ∙ (asked l (here l h) (reads l to)).unasked (λ w. no (wanted l w));
      asked = λ l h to w same. subst (λ n. RoseOrFull (noted l) (n l)) (sym same_noted) ((asked l (here l h) (reads l to)).rose (wants l w) (sym (ap (λ g. g l) same_got) ∙ same));
      idle = λ l h to w same stays. same_idle l (posts_none l stays) ∙ (asked l (here l h) (reads l to)).idle (wants l w) (sym (ap (λ g. g l) same_got) ∙ same);
      lies = λ l more h to e.
          let before : (in_of st2 l).parcel.untaken ≡ (in_of st0 l).parcel.untaken ++ flat_map (λ p. p.entries) more =
          lies l more (here l h) (reads l to) (sym (ap (λ g. g l) same_got) ∙ e) ∙ ap (λ u. (in_of u l).parcel.untaken ++ flat_map (λ p. p.entries) more) says in
          subst (Ends ((in_of st0 l).parcel.untaken ++ flat_map (λ p. p.entries) more)) (sym (ap (λ x. x.parcel.untaken) (same_in l))) (subst (λ xs. Ends xs (in_of st3 l).parcel.untaken) before (passed.lies l));
      waits = λ l h from same. subst (IsPrefix (out_of st0 l).parcel.untaken) (sym (waits l (here l h) (sends l from) (posts_none l same))) (begins l);
      one_sent = λ l h from. omega (arith, at_most_one _ _ _ (was_posted l (here l h) (sends l from)), ap (λ s. length (s l)) same_sent);
      one_got = λ l h to. omega (arith, (asked l (here l h) (reads l to)).once, ap (λ g. length (g l)) same_got);
      not_at_once = λ not_done over.
          not_at_once st0 st2 st4 sent' got' s not_done ready.agrees (ready.same_dims ∙ d) (ready.same_rank ∙ r) (outs ∙ ap (λ u. u.outs) says)
          (ready_again.same_dims ∙ sym ready.same_dims) (ready_again.same_rank ∙ sym ready.same_rank) (λ l. ap (λ x. x.ended) (same_in l) ∙ passed.ends l) over;
    }

  module _ (t : IsState st3) (stopped : (l : ℕ) → l < links st3.dims → hop_at st3.dims l < length st3.dims → IsBlocked st3 l) where
    at_here : st3.dims ≡ st0.dims
    at_here = passed.ready.same_dims ∙ d

    one_cap : st3.cap ≡ st0.cap
    one_cap = passed.goes_on.cap ∙ (collected.cap ∙ ap (λ u. u.cap) says)

    -- the open parcel was full after the relay: it is still, or it was posted
    was_full : (m : ℕ) → m < links st0.dims → sender_at st0.dims m ≡ st0.rank → length (out_of st3 m).parcel.untaken ≡ st3.cap → WasFull st0.cap st4 sent sent'' m
    was_full m h from full = elim (was_posted m (here m h) (sends m from)) as (λ _. WasFull st0.cap st4 sent sent'' m) [
      | inl same ↦ inl (ap length (waits m (here m h) (sends m from) same) ∙ (full ∙ one_cap))
      | inr more ↦ inr (record { parcel = more.parcel; is = more.is ∙ ap (λ s. s m ++ more.parcel ∷ []) same_sent; full = ap length more.holds ∙ (full ∙ one_cap) })
    ]

    pub held : (l : ℕ) (e : Entry) → l < links st0.dims → reader_at st0.dims l ≡ st0.rank → hop_at st0.dims l < length st0.dims → slice_get (in_of st4 l).parcel.untaken 0 ≡ Some e
        → NextIs st0.dims st0.rank l e.tag (WasFull st0.cap st4 sent sent'')
    held l e h to less at =
        let P : ℕ → Type 0 = λ m. length (out_of st3 m).parcel.untaken ≡ st3.cap in
        let b = stopped l (subst (λ ds. l < links ds) (sym at_here) h) (subst (λ ds. hop_at ds l < length ds) (sym at_here) less) e (sym (ap (λ x. slice_get x.parcel.untaken 0) (same_in l)) ∙ at) in
        next_map st0.dims st0.rank l e.tag P (WasFull st0.cap st4 sent sent'') (λ m below from hop full. was_full m below from full)
        (subst (λ q. NextIs st0.dims q l e.tag P) (passed.ready.same_rank ∙ r) (subst (λ ds. NextIs ds st3.rank l e.tag P) at_here b))

  module _ (looks looks'' : ℕ → ℕ) (crowded'' : ℕ → Bool) (t : IsState st3)
      (stopped : (l : ℕ) → l < links st3.dims → hop_at st3.dims l < length st3.dims → IsBlocked st3 l)
      (served : (l : ℕ) → l < links dims → sender_at dims l ≡ rank → WasServed st4 l (looks l) (looks'' l) (crowded'' l)) where
    to_here : st3.dims ≡ st0.dims
    to_here = passed.ready.same_dims ∙ d

    -- a link whose parcel was full after the relay, and on which nothing was sent
    crowds : (l : ℕ) → l < links st0.dims → sender_at st0.dims l ≡ st0.rank → length (out_of st3 l).parcel.untaken ≡ st3.cap → sent'' l ≡ sent l → crowded'' l ≡ true
    crowds l h from full same =
        let last = waits l (here l h) (sends l from) (posts_none l same) in
        (served l (here l h) (sends l from)).crowded (due_full st4 l (ap length last ∙ (full ∙ sym posted.cap)))

    same_cap : st3.cap ≡ st0.cap
    same_cap = passed.goes_on.cap ∙ (collected.cap ∙ ap (λ u. u.cap) says)

    held_up : (m : ℕ) → m < links st0.dims → sender_at st0.dims m ≡ st0.rank → length (out_of st3 m).parcel.untaken ≡ st3.cap → IsHeldUpAt st0.cap st4 sent sent'' crowded'' m
    held_up m h from full = record {
      full = was_full t stopped m h from full;
      crowded = crowds m h from full;
    }

    pub has_served : HasServed st0 st4 sent sent'' looks looks'' crowded''
    has_served = record {
      served = λ l h from. served l (here l h) (sends l from);
      full = λ l h from same filled.
          let fits = (is_out st3 l t (subst (λ ds. l < links ds) (sym to_here) h)).fits in
          crowds l h from (still_full (out_of st0 l).parcel.untaken (out_of st3 l).parcel.untaken st3.cap (begins l) fits (filled ∙ sym same_cap)) same;
      stopped = λ l e h to less at.
          let P : ℕ → Type 0 = λ m. length (out_of st3 m).parcel.untaken ≡ st3.cap in
          let b = stopped l (subst (λ ds. l < links ds) (sym to_here) h) (subst (λ ds. hop_at ds l < length ds) (sym to_here) less) e (sym (ap (λ x. slice_get x.parcel.untaken 0) (same_in l)) ∙ at) in
          next_map st0.dims st0.rank l e.tag P (IsHeldUpAt st0.cap st4 sent sent'' crowded'') (λ m below from hop full. held_up m below from full)
          (subst (λ q. NextIs st0.dims q l e.tag P) (passed.ready.same_rank ∙ r) (subst (λ ds. NextIs ds st3.rank l e.tag P) to_here b));
    }

-- a rank that is complete has nothing to move
module _ (st : State) (s : IsState st) (h : phase_of st ≡ Complete) where
  pub over_moves : (done : Bool) (sent got : Logs) (noted : ℕ → ℕ) (idle : ℕ → Bool) → (st.done ≡ true → done ≡ true) → MovesOn st st done sent sent got got noted noted idle
  over_moves done sent got noted idle stays =
      let v = is_over st s h in
      let says : st.done ≡ done = v.done ∙ sym (stays v.done) in
      record {
        goes_on = record {
          cap = refl;
          steady = refl;
          epoch = refl;
          done = says;
          phase = refl;
          part = ap (λ b. without_latest (part_of (buffers_of (record st { done = b; pulled = None })) sent got)) says;
          sent_grows = λ l. begins_refl (sent l);
          got_grows = λ l. begins_refl (got l);
          fills = λ l more e. none_filled st.steady st.cap (sent l) more e;
        };
        left = λ l k to no. refl;
        unasked = λ l k to no. refl;
        asked = λ l k to w same. absurd (over_not_wanted st s h l k to w);
        idle = λ l k to w same stays'. absurd (over_not_wanted st s h l k to w);
        lies = λ l more k to e.
            let untaken : List Entry = (in_of st l).parcel.untaken in
            subst (λ xs. Ends xs untaken) (sym (ap (λ m. untaken ++ flat_map (λ p. p.entries) m) (no_more (got l) more e) ∙ append-nil untaken)) (ends_refl untaken);
        waits = λ l k from same. begins_refl (out_of st l).parcel.untaken;
        one_sent = λ l k from. omega arith;
        one_got = λ l k to. omega arith;
        not_at_once = λ not_done over. false≢true (sym not_done ∙ v.done);
      }

  pub over_served : (sent : Logs) (looks : ℕ → ℕ) (crowded : ℕ → Bool) → HasServed st st sent sent looks looks crowded
  over_served sent looks crowded =
      let v = is_over st s h in
      record {
        served = λ l k from. record { looked = λ due. absurd (over_not_due st s h l k due); crowded = λ due. absurd (over_not_due st s h l k due) };
        full = λ l k from same filled. absurd (false≢true (sym (due_open st l s k (due_full st l filled)) ∙ v.closed l k from));
        stopped = λ l e k to less at. absurd (none_first e (sym (ap (λ xs. slice_get xs 0) (v.read l k to)) ∙ at));
      }

  pub over_held : (sent : Logs) (l : ℕ) (e : Entry) → l < links st.dims → reader_at st.dims l ≡ st.rank → slice_get (in_of st l).parcel.untaken 0 ≡ Some e → ⊥
  over_held sent l e k to at = none_first e (sym (ap (λ xs. slice_get xs 0) ((is_over st s h).read l k to)) ∙ at)
