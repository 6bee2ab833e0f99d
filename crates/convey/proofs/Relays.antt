-- What one relay leaves of a rank's state.
use Rattle.std.proofs.Common.{◌≡◌, ◌≢◌, ℕ, ◌+◌, ◌-◌, ◌<◌, ◌≤◌, List, [], ◌++◌, length, take, drop, slice_index_or, None, refl, sym, ap, subst, ◌∙◌, arith, inl, inr}
use Rattle.std.proofs.lemmas.Bool.{cases_eq}
use Rattle.std.proofs.lemmas.List.{take-append-drop, append_assoc}
use Rattle.bale_items.specs.declared.item.Entry.{Entry}
use Rattle.bale_items.specs.declared.item.Item.{Item}
use Rattle.route_tensor.specs.Grid.{ranks, coord, IsGrid}
use Rattle.route_tensor.specs.Link.{links, links_before}
use Rattle.route_tensor.specs.Ends.{hop_at, sender_at, reader_at}
use Rattle.route_tensor.specs.Neighbour.{out_index, in_index}
use Rattle.route_tensor.proofs.Coordinates.{coord-place_low, coord-place_high}
use Rattle.port_bank.specs.Logs.{Logs}
use Rattle.port_bank.specs.Flow.{hop_link}
use Rattle.route_tensor.specs.Pair.{belongs, PassesThrough}
use Rattle.list_laws.specs.Lists.{IsPrefix, Ends}
use Rattle.port_bank.proofs.Fronts.{begins_refl, begins_trans}
use Rattle.port_bank.proofs.Kept.{between}
use Rattle.port_bank.proofs.Routes.{hop-on_route, sender-on_route, reader-on_route}
use Rattle.hop_core.specs.Link.{Out, In, no_out, no_in}
use Rattle.hop_core.specs.State.{State}
use Rattle.hop_core.specs.Standing.{IsState}
use Rattle.hop_core.specs.Relay.{way_in, way_out, held, AddsToHop, TakesFromHop}
use Rattle.convey.specs.Buffers.{Buffers, out_of, in_of, buffers_of}
use Rattle.convey.specs.Agreement.{items_among, Agrees}
use Rattle.convey.specs.Parts.{part_of}
use Rattle.convey.specs.AdvanceSteps.{IsReady, PassedOn, without_latest}
use Rattle.convey.proofs.Moves.{forget_agrees}
use Rattle.convey.proofs.Arrivals.{Relayed, relayed_agrees, relayed_part}
use Rattle.convey.proofs.States.{in_number, out_number, is_out, is_in}
use Rattle.convey.proofs.Ways.{none_filled, goes_on_refl, goes_on_trans}

-- the links of a pair among a rank's own
pub out_way : (dims : List ℕ) (s d h : ℕ) → IsGrid dims → s < ranks dims → d < ranks dims → 1 ≤ h → h ≤ length dims → out_index dims (hop_link dims s d h) ≡ way_out dims d h
out_way dims s d h g from to first last =
    let l : ℕ = hop_link dims s d h in
    let hop : hop_at dims l ≡ h = hop-on_route dims s d h g from to first last in
    ap (λ k. links_before dims k + coord dims (reader_at dims l) k) hop
    ∙ (ap (λ r. links_before dims h + coord dims r h) (reader-on_route dims s d h g from to first last)
    ∙ ap (λ c. links_before dims h + c) (coord-place_low dims s d h h g.positive (omega arith)))

in_way : (dims : List ℕ) (s d h : ℕ) → IsGrid dims → s < ranks dims → d < ranks dims → 1 ≤ h → h ≤ length dims → in_index dims (hop_link dims s d h) ≡ way_in dims s h
in_way dims s d h g from to first last =
    let l : ℕ = hop_link dims s d h in
    let hop : hop_at dims l ≡ h = hop-on_route dims s d h g from to first last in
    ap (λ k. links_before dims k + coord dims (sender_at dims l) k) hop
    ∙ (ap (λ r. links_before dims h + coord dims r h) (sender-on_route dims s d h g from to first last)
    ∙ ap (λ c. links_before dims h + c) (coord-place_high dims s d (h - 1) h g.positive (omega arith)))

ends_with_rest : (xs ys : List Entry) (n : ℕ) → drop n xs ≡ ys → Ends xs ys
ends_with_rest xs ys n e = record { front = take n xs; is = sym (take-append-drop n xs) ∙ ap (λ u. take n xs ++ u) e }

pub ends_refl : (xs : List Entry) → Ends xs xs
ends_refl xs = record { front = []; is = refl }

ends_trans : (xs ys zs : List Entry) → Ends xs ys → Ends ys zs → Ends xs zs
ends_trans xs ys zs p q = record { front = p.front ++ q.front; is = p.is ∙ (ap (λ u. p.front ++ u) q.is ∙ sym (append_assoc p.front q.front zs)) }

begins_from_front : (xs ys : List Entry) → take (length xs) ys ≡ xs → IsPrefix xs ys
begins_from_front xs ys e = record { rest = drop (length xs) ys; is = sym (take-append-drop (length xs) ys) ∙ ap (λ u. u ++ drop (length xs) ys) e }

module _ (st : State) (outs : List Out) (ins : List In) (h : ℕ) (s : IsState st) (first : 1 ≤ h) (last : h < length st.dims)
    (adds : AddsToHop st.dims (h + 1) st.outs outs) (takes : TakesFromHop st.dims h st.ins ins)
    (t : IsState (record st { outs = outs; ins = ins; pulled = None }))
    (keeps : (x y : ℕ) → PassesThrough st.dims st.rank x y h → held (record st { outs = outs; ins = ins; pulled = None }) x y h ≡ held st x y h) where
  new : State
  new = record st { outs = outs; ins = ins; pulled = None }

  waiting : ℕ → List Entry
  waiting l = (slice_index_or outs (out_index st.dims l) no_out).parcel.untaken

  unread : ℕ → List Entry
  unread l = (slice_index_or ins (in_index st.dims l) no_in).parcel.untaken

  out_stays : (l : ℕ) → l < links st.dims → hop_at st.dims l ≢ h + 1 → waiting l ≡ (out_of st l).parcel.untaken
  unfolding waiting
  out_stays l k ne = ap (λ o. o.parcel.untaken) (adds.others (out_index st.dims l) (λ e. ne (sym (out_number st.dims l s.grid k).hop ∙ e)))

  in_stays : (l : ℕ) → l < links st.dims → hop_at st.dims l ≢ h → unread l ≡ (in_of st l).parcel.untaken
  unfolding unread
  in_stays l k ne = ap (λ x. x.parcel.untaken) (takes.others (in_index st.dims l) (λ e. ne (sym (in_number st.dims l s.grid k).hop ∙ e)))

  here_pairs : (x y : ℕ) → PassesThrough st.dims st.rank x y h
      → items_among (belongs st.dims x y (h + 1)) (waiting (hop_link st.dims x y (h + 1))) ++ items_among (belongs st.dims x y h) (unread (hop_link st.dims x y h))
      ≡ items_among (belongs st.dims x y (h + 1)) (out_of st (hop_link st.dims x y (h + 1))).parcel.untaken ++ items_among (belongs st.dims x y h) (in_of st (hop_link st.dims x y h)).parcel.untaken
  unfolding waiting unread
  here_pairs x y pair =
      let o = out_way st.dims x y (h + 1) s.grid pair.sender pair.destination (omega arith) (omega arith) in
      let i = in_way st.dims x y h s.grid pair.sender pair.destination first (omega arith) in
      let both : List Out → List In → ℕ → ℕ → List Item = λ os is a b.
      items_among (belongs st.dims x y (h + 1)) (slice_index_or os a no_out).parcel.untaken ++ items_among (belongs st.dims x y h) (slice_index_or is b no_in).parcel.untaken in
      (λ j. both outs ins (o j) (i j))
      ∙ (keeps x y pair
      ∙ sym (λ j. both st.outs st.ins (o j) (i j)))

  all_pairs : (x y k : ℕ) → PassesThrough st.dims st.rank x y k
      → items_among (belongs st.dims x y (k + 1)) (waiting (hop_link st.dims x y (k + 1))) ++ items_among (belongs st.dims x y k) (unread (hop_link st.dims x y k))
      ≡ items_among (belongs st.dims x y (k + 1)) (out_of st (hop_link st.dims x y (k + 1))).parcel.untaken ++ items_among (belongs st.dims x y k) (in_of st (hop_link st.dims x y k)).parcel.untaken
  all_pairs x y k pair =
      elim (cases_eq h k) [
        | inl same ↦
            subst (λ n. PassesThrough st.dims st.rank x y n
            → items_among (belongs st.dims x y (n + 1)) (waiting (hop_link st.dims x y (n + 1))) ++ items_among (belongs st.dims x y n) (unread (hop_link st.dims x y n))
            ≡ items_among (belongs st.dims x y (n + 1)) (out_of st (hop_link st.dims x y (n + 1))).parcel.untaken ++ items_among (belongs st.dims x y n) (in_of st (hop_link st.dims x y n)).parcel.untaken) same (here_pairs x y) pair
        | inr other ↦
            let w = between st.dims st.rank x y k s.grid pair in
            let a = hop-on_route st.dims x y (k + 1) s.grid pair.sender pair.destination (omega arith) (let q = pair.last_hop in omega arith) in
            let b = hop-on_route st.dims x y k s.grid pair.sender pair.destination pair.first_hop (let q = pair.last_hop in omega arith) in
            let p = out_stays (hop_link st.dims x y (k + 1)) w.leaves (λ e. other (let z : h + 1 ≡ k + 1 = sym e ∙ a in omega arith)) in
            let q = in_stays (hop_link st.dims x y k) w.comes (λ e. other (sym e ∙ b)) in
            λ j. items_among (belongs st.dims x y (k + 1)) (p j) ++ items_among (belongs st.dims x y k) (q j)
      ]

  calm : Buffers
  calm = record (buffers_of st) { latest = None }

  relayed : Relayed calm waiting unread
  unfolding calm waiting unread
  relayed = record {
    fair_out = λ l k from. (is_out (record st { outs = outs; ins = ins; pulled = None }) l t k).fair;
    fair_in = λ l k to. (is_in (record st { outs = outs; ins = ins; pulled = None }) l t k).fair;
    pairs = all_pairs;
    first_stay = λ l k from one. out_stays l k (λ e. omega arith);
    last_stay = λ l k to all. in_stays l k (λ e. omega arith);
  }

  same_buffers : buffers_of new ≡ record calm { waiting = waiting; unread = unread }
  unfolding new calm waiting unread
  same_buffers = λ j. record (buffers_of (record st { outs = outs; ins = ins; pulled = None })) { closed = λ l. adds.closed (out_index st.dims l) j; ended = λ l. takes.ended (in_index st.dims l) j }

  pub relayed_one : (dims : List ℕ) (rank : ℕ) (sent got : Logs) → IsReady dims rank st sent got → PassedOn dims rank st (record st { outs = outs; ins = ins; pulled = None }) sent got
  unfolding new calm waiting unread
  relayed_one dims rank sent got r =
      let a = forget_agrees (buffers_of st) sent got r.agrees in
      record {
        ready = record { same_dims = r.same_dims; same_rank = r.same_rank; agrees = subst (λ b. Agrees b sent got) (sym same_buffers) (relayed_agrees calm waiting unread sent got s.grid a relayed) };
        goes_on = record {
          cap = refl;
          steady = refl;
          epoch = refl;
          done = refl;
          phase = refl;
          part = ap (λ b. without_latest (part_of b sent got)) same_buffers ∙ ap without_latest (relayed_part calm waiting unread sent got s.grid a relayed s.rank);
          sent_grows = λ l. begins_refl (sent l);
          got_grows = λ l. begins_refl (got l);
          fills = λ l more e. none_filled st.steady st.cap (sent l) more e;
        };
        waits = λ l. begins_from_front (out_of st l).parcel.untaken (slice_index_or outs (out_index st.dims l) no_out).parcel.untaken (adds.front (out_index st.dims l));
        closes = λ l. adds.closed (out_index st.dims l);
        ends = λ l. takes.ended (in_index st.dims l);
        lies = λ l. ends_with_rest (in_of st l).parcel.untaken (slice_index_or ins (in_index st.dims l) no_in).parcel.untaken _ (takes.rest (in_index st.dims l));
      }

pub passed_none : (dims : List ℕ) (rank : ℕ) (st : State) (sent got : Logs) → IsReady dims rank st sent got → PassedOn dims rank st st sent got
passed_none dims rank st sent got r = record { ready = r; goes_on = goes_on_refl st sent got; waits = λ l. begins_refl (out_of st l).parcel.untaken; closes = λ l. refl; ends = λ l. refl; lies = λ l. ends_refl (in_of st l).parcel.untaken }

pub passed_more : (dims : List ℕ) (rank : ℕ) (a b c : State) (sent got : Logs) → PassedOn dims rank a b sent got → PassedOn dims rank b c sent got → PassedOn dims rank a c sent got
passed_more dims rank a b c sent got p q = record {
  ready = q.ready;
  goes_on = goes_on_trans a b c sent sent sent got got got p.goes_on q.goes_on;
  waits = λ l. begins_trans (out_of a l).parcel.untaken (out_of b l).parcel.untaken (out_of c l).parcel.untaken (p.waits l) (q.waits l);
  closes = λ l. q.closes l ∙ p.closes l;
  ends = λ l. q.ends l ∙ p.ends l;
  lies = λ l. ends_trans (in_of a l).parcel.untaken (in_of b l).parcel.untaken (in_of c l).parcel.untaken (p.lies l) (q.lies l);
}
