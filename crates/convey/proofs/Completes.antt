-- What the phase Complete says of each link.
use Rattle.std.proofs.Common.{◌≡◌, ◌≢◌, ℕ, ◌+◌, ◌-◌, ◌<◌, ◌≤◌, ◌==◌, ◌&&◌, drop, Bool, true, false, not, if◌then◌else◌, [], length, sum, slice_index_or, Option, Some, None, is_some, refl, sym, ap, subst, ◌∙◌, arith, inl, inr, ne_eqb}
use Rattle.std.specs.List.{list_all}
use Rattle.std.proofs.lemmas.Bool.{cases_eq, false≢true}
use Rattle.std.proofs.lemmas.Option.{same_Some}
use Rattle.std.proofs.lemmas.List.Sums.{AllPass-from_list_all, list_all-from_AllPass}
use Rattle.bale_items.specs.declared.item.Entry.{Entry}
use Rattle.route_tensor.specs.Link.{links}
use Rattle.route_tensor.specs.Ends.{hop_at, reader_at}
use Rattle.route_tensor.specs.Neighbour.{hop_to, neighbour, link_to, link_from, out_index}
use Rattle.route_tensor.proofs.Ends.{number_ends, sender_at-link, reader_at-link, hop_at-link}
use Rattle.route_tensor.proofs.Links.{link_below}
use Rattle.route_tensor.specs.Link.{links_before}
use Rattle.route_tensor.specs.Grid.{dim}
use Rattle.route_tensor.proofs.Neighbours.{to_neighbour, from_neighbour, out_index-link_to, in_index-link_from, number_made, hop_to_is}
use Rattle.std.proofs.lemmas.List.{get_or_default, get_or-take, get_or-drop, length-take, length-drop}
use Rattle.port_bank.specs.Flow.{hop_link}
use Rattle.hop_core.specs.declared.phase.Phase.{Phase}
use Rattle.hop_core.specs.declared.phase.Phase.TheVariants.{Dormant, Working, Endgame, Cleanup, Complete}
use Rattle.hop_core.specs.Link.{Out, In, no_out, no_in, is_finished}
use Rattle.hop_core.specs.State.{State, in_at, all_closed, all_read, ins_of_hop, at_end, phase_of}
use Rattle.hop_core.specs.Standing.{IsState, CanUnpull}
use Rattle.convey.specs.Buffers.{out_of, in_of, is_complete, back_of, entry_back, buffers_of}
use Rattle.convey.specs.Arrived.{HasArrived}
use Rattle.convey.specs.Due.{IsDue, WantsParcel, IsOver}
use Rattle.convey.specs.Law.{IsLastIn, IsSound}
use Rattle.convey.proofs.States.{of_hop, finished_parts, out_number, is_out, EndOf, closed_end}
use Rattle.convey.proofs.Routes.{own_loop}
use Rattle.convey.proofs.Posts.{due_open}
use Rattle.convey.proofs.Collects.{wanted_parts}

record Bits (done closed read : Bool) : Type 0 where
  done_true : done ≡ true
  closed_true : closed ≡ true
  read_true : read ≡ true

chain : (done closed read : Bool) → (if not done then Working else if not closed then Endgame else if not read then Cleanup else Complete) ≡ Complete → Bits done closed read
chain true true true h = record { done_true = refl; closed_true = refl; read_true = refl }
chain true true false h = cc
chain true false read h = cc
chain false closed read h = cc

complete_bits : (st : State) → phase_of st ≡ Complete → Bits st.done (all_closed st.outs) (all_read st)
unfolding phase_of
complete_bits st h = chain st.done (all_closed st.outs) (all_read st) h

module _ (st : State) (s : IsState st) (h : phase_of st ≡ Complete) where
  closed_all : (l : ℕ) → l < links st.dims → (out_of st l).closed ≡ true
  closed_all l k =
      let n = out_number st.dims l s.grid k in
      AllPass-from_list_all (λ o. o.closed) st.outs (complete_bits st h).closed_true (out_index st.dims l) no_out (omega (arith, n.within, s.all_outs))

  finished_last : (l : ℕ) → l < links st.dims → hop_at st.dims l ≡ length st.dims → is_finished (in_of st l) ≡ true
  finished_last l k last =
      of_hop st.dims st.ins is_finished l s.grid k s.all_ins (subst (λ j. list_all is_finished (ins_of_hop st.dims st.ins j) ≡ true) (sym last) (complete_bits st h).read_true)

  -- on an earlier hop: the rank's link to itself on the next hop is closed, so all of this hop has
  -- come
  next_end : (l : ℕ) → l < links st.dims → hop_at st.dims l ≢ length st.dims → EndOf st (hop_link st.dims st.rank st.rank (hop_at st.dims l + 1))
  next_end l k ne =
      let n = number_ends st.dims l s.grid k in
      let o = own_loop st.dims st.rank (hop_at st.dims l + 1) s.grid s.rank (omega arith) (let last = n.link.last_hop in omega arith) in
      closed_end st (hop_link st.dims st.rank st.rank (hop_at st.dims l + 1)) s o.below (closed_all (hop_link st.dims st.rank st.rank (hop_at st.dims l + 1)) o.below)

  next_hop : (l : ℕ) → l < links st.dims → hop_at st.dims l ≢ length st.dims → hop_at st.dims (hop_link st.dims st.rank st.rank (hop_at st.dims l + 1)) ≡ hop_at st.dims l + 1
  next_hop l k ne =
      let n = number_ends st.dims l s.grid k in
      (own_loop st.dims st.rank (hop_at st.dims l + 1) s.grid s.rank (omega arith) (let last = n.link.last_hop in omega arith)).hop

  pub is_over : IsOver st
  is_over = record {
    done = (complete_bits st h).done_true;
    closed = λ l k from. closed_all l k;
    ended = λ l k to. elim (cases_eq (hop_at st.dims l) (length st.dims)) [
      | inl last ↦ (finished_parts (in_of st l) (finished_last l k last)).0
      | inr ne ↦ (next_end l k ne).arrived.ended l k to (next_hop l k ne)
    ];
    read = λ l k to. elim (cases_eq (hop_at st.dims l) (length st.dims)) [
      | inl last ↦ (finished_parts (in_of st l) (finished_last l k last)).1
      | inr ne ↦ (next_end l k ne).arrived.passed_on l k to (next_hop l k ne)
    ];
  }

  pub over_not_due : (l : ℕ) → l < links st.dims → IsDue st l → ⊥
  over_not_due l k d = false≢true (sym (due_open st l s k d) ∙ closed_all l k)

  pub over_not_wanted : (l : ℕ) → l < links st.dims → reader_at st.dims l ≡ st.rank → WantsParcel st l → ⊥
  over_not_wanted l k to w = false≢true (sym (wanted_parts (in_of st l) w).1 ∙ is_over.ended l k to)

-- a phase that is complete
pub complete_phase : (p : Phase) → is_complete p ≡ true → p ≡ Complete
complete_phase Dormant h = absurd (false≢true h)
complete_phase Working h = absurd (false≢true h)
complete_phase Endgame h = absurd (false≢true h)
complete_phase Cleanup h = absurd (false≢true h)
complete_phase Complete h = refl

same_back : (l m : ℕ) (b : Option Entry) (e : Entry) → entry_back l b ≡ Some (m, e) → l ≡ m
same_back l m None e h = absurd (false≢true (ap is_some h))
same_back l m (Some x) e h = ap (λ p. p.0) (same_Some (l, x) (m, e) h)

last_pulled : (st : State) (i l : ℕ) (e : Entry) → IsState st → CanUnpull st i → entry_back (link_from st.dims st.rank i) (in_at st i).parcel.back ≡ Some (l, e) → IsLastIn (buffers_of st) l
last_pulled st i l e s c h =
    let same : link_from st.dims st.rank i ≡ l = same_back (link_from st.dims st.rank i) l (in_at st i).parcel.back e h in
    let f = from_neighbour st.dims st.rank i s.grid s.rank c.within in
    subst (IsLastIn (buffers_of st)) same (record {
      below = link_below st.dims (hop_to st.dims i) (neighbour st.dims st.rank i) st.rank s.grid f;
      reader = reader_at-link st.dims (hop_to st.dims i) (neighbour st.dims st.rank i) st.rank s.grid f;
      hop = hop_at-link st.dims (hop_to st.dims i) (neighbour st.dims st.rank i) st.rank s.grid f ∙ c.last_hop;
    })

latest_in : (st : State) (p : Option ℕ) → st.pulled ≡ p → IsState st → (l : ℕ) (e : Entry) → back_of st p ≡ Some (l, e) → IsLastIn (buffers_of st) l
latest_in st None q s l e h = absurd (false≢true (ap is_some h))
latest_in st (Some i) q s l e h = last_pulled st i l e s (s.can_unpull i q) h

-- what a rank's buffers keep by themselves
pub is_sound : (st : State) → IsState st → (st.phase ≡ Complete → phase_of st ≡ Complete) → IsSound (buffers_of st)
is_sound st s settled =
    let over = λ (c : is_complete st.phase ≡ true). is_over st s (settled (complete_phase st.phase c)) in
    record {
      closed_empty = λ l k from c. (is_out st l s k).closed_empty c;
      closed_done = λ l k from one c. (closed_end st l s k c).done one;
      all_closed = λ c l k from. (over c).closed l k from;
      all_ended = λ c l k to. (over c).ended l k to;
      all_read = λ c l k to. (over c).read l k to;
      latest = λ l e h. latest_in st st.pulled refl s l e h;
    }

-- and the other way round
pub link_of_number : (st : State) (i : ℕ) → IsState st → i < sum st.dims → (out_of st (link_to st.dims st.rank i)).closed ≡ (slice_index_or st.outs i no_out).closed
link_of_number st i s h = ap (λ k. (slice_index_or st.outs k no_out).closed) (out_index-link_to st.dims st.rank i s.grid s.rank h)

closed_each : (st : State) → IsState st → IsOver st → (i : ℕ) (d : Out) → i < length st.outs → (slice_index_or st.outs i d).closed ≡ true
closed_each st s v i d h =
    let below : i < sum st.dims = omega (arith, s.all_outs) in
    let f = to_neighbour st.dims st.rank i s.grid s.rank below in
    let l : ℕ = link_to st.dims st.rank i in
    let closed = v.closed l (link_below st.dims (hop_to st.dims i) st.rank (neighbour st.dims st.rank i) s.grid f) (sender_at-link st.dims (hop_to st.dims i) st.rank (neighbour st.dims st.rank i) s.grid f) in
    ap (λ o. o.closed) (get_or_default st.outs i d no_out h) ∙ (sym (link_of_number st i s below) ∙ closed)

finished_from : (x : In) → x.ended ≡ true → x.parcel.untaken ≡ [] → is_finished x ≡ true
finished_from x e u = ap (λ b. b && (length x.parcel.untaken == 0)) e ∙ ap (λ xs. length xs == 0) u

pub finished_each : (st : State) (k : ℕ) → IsState st → 1 ≤ k → k ≤ length st.dims
    → ((l : ℕ) → l < links st.dims → reader_at st.dims l ≡ st.rank → hop_at st.dims l ≡ k → ((in_of st l).ended ≡ true) × ((in_of st l).parcel.untaken ≡ []))
    → (j : ℕ) (d : In) → j < length (ins_of_hop st.dims st.ins k) → is_finished (slice_index_or (ins_of_hop st.dims st.ins k) j d) ≡ true
finished_each st k s first last each j d h =
    let few = length-take (dim st.dims k) (drop (links_before st.dims k) st.ins) in
    let rest = length-drop (links_before st.dims k) st.ins in
    let i : ℕ = links_before st.dims k + j in
    let at : slice_index_or (ins_of_hop st.dims st.ins k) j d ≡ slice_index_or st.ins i d =
    get_or-take (dim st.dims k) (drop (links_before st.dims k) st.ins) j d (omega arith) ∙ get_or-drop (links_before st.dims k) st.ins j d in
    let below : i < sum st.dims = omega (arith, s.all_ins) in
    let f = from_neighbour st.dims st.rank i s.grid s.rank below in
    let l : ℕ = link_from st.dims st.rank i in
    let low = link_below st.dims (hop_to st.dims i) (neighbour st.dims st.rank i) st.rank s.grid f in
    let own = reader_at-link st.dims (hop_to st.dims i) (neighbour st.dims st.rank i) st.rank s.grid f in
    let hop = hop_at-link st.dims (hop_to st.dims i) (neighbour st.dims st.rank i) st.rank s.grid f ∙ hop_to_is st.dims k i (number_made st.dims k j first last (omega arith)) in
    let index = in_index-link_from st.dims st.rank i s.grid s.rank below in
    let here : in_of st l ≡ slice_index_or st.ins i d = ap (λ n. slice_index_or st.ins n no_in) index ∙ get_or_default st.ins i no_in d (omega (arith, s.all_ins)) in
    let ends = each l low own hop in
    ap is_finished (at ∙ sym here) ∙ finished_from (in_of st l) ends.0 ends.1

-- a hop reaches its end where all that it is to pass on has come
reaches_first : (st : State) → st.done ≡ true → at_end st.dims st.ins st.done 1 ≡ true
unfolding at_end
reaches_first st e = e

reaches_later : (st : State) (h : ℕ) → h ≢ 1 → list_all is_finished (ins_of_hop st.dims st.ins (h - 1)) ≡ true → at_end st.dims st.ins st.done h ≡ true
unfolding at_end
reaches_later st h ne e = ap (λ b. if b then st.done else list_all is_finished (ins_of_hop st.dims st.ins (h - 1))) (ne_eqb h 1 ne) ∙ e

pub reaches_end : (st : State) (l : ℕ) → IsState st → l < links st.dims → (hop_at st.dims l ≡ 1 → st.done ≡ true) → HasArrived (buffers_of st) l → at_end st.dims st.ins st.done (hop_at st.dims l) ≡ true
reaches_end st l s below done arrived =
    let n = number_ends st.dims l s.grid below in
    let h : ℕ = hop_at st.dims l in
    elim (cases_eq h 1) [
      | inl one ↦ subst (λ j. at_end st.dims st.ins st.done j ≡ true) (sym one) (reaches_first st (done one))
      | inr ne ↦
          let first = n.link.first_hop in
          let last = n.link.last_hop in
          reaches_later st h ne (list_all-from_AllPass is_finished (ins_of_hop st.dims st.ins (h - 1)) (finished_each st (h - 1) s (omega arith) (omega arith)
          (λ m k to at. let next : h ≡ hop_at st.dims m + 1 = omega arith in (arrived.ended m k to next, arrived.passed_on m k to next))))
    ]

chained : (done closed read : Bool) → done ≡ true → closed ≡ true → read ≡ true → (if not done then Working else if not closed then Endgame else if not read then Cleanup else Complete) ≡ Complete
chained true true true a b c = refl
chained true true false a b c = absurd (false≢true c)
chained true false read a b c = absurd (false≢true b)
chained false closed read a b c = absurd (false≢true a)

pub over_complete : (st : State) → IsState st → IsOver st → phase_of st ≡ Complete
unfolding phase_of
over_complete st s v =
    chained st.done (all_closed st.outs) (all_read st) v.done
    (list_all-from_AllPass (λ o. o.closed) st.outs (closed_each st s v))
    (list_all-from_AllPass is_finished (ins_of_hop st.dims st.ins (length st.dims))
    (let some = s.grid.some in finished_each st (length st.dims) s some (omega arith) (λ l k to at. (v.ended l k to, v.read l k to))))

pub working : (st : State) → st.done ≡ false → phase_of st ≡ Working
unfolding phase_of
working st e = ap (λ d. if not d then Working else if not (all_closed st.outs) then Endgame else if not (all_read st) then Cleanup else Complete) e

begun_bits : (done closed read : Bool) → (if not done then Working else if not closed then Endgame else if not read then Cleanup else Complete) ≢ Dormant
begun_bits true true true h = cc
begun_bits true true false h = cc
begun_bits true false read h = cc
begun_bits false closed read h = cc

pub begun : (st : State) → phase_of st ≢ Dormant
unfolding phase_of
begun st = begun_bits st.done (all_closed st.outs) (all_read st)
