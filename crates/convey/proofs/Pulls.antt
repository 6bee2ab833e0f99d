-- What a pull and an unpull leave of a rank's state.
use Rattle.std.proofs.Common.{◌≡◌, ◌≢◌, ℕ, suc, ◌+◌, ◌-◌, ◌<◌, ◌≤◌, ◌==◌, ◌&&◌, Bool, true, false, if◌then◌else◌, List, [], ◌∷◌, length, drop, sum, slice_get, slice_set, slice_index_or, Option, Some, None, IsSome, is_some, refl, sym, ap, subst, ◌∙◌, arith, inl, inr}
use Rattle.std.specs.List.{All, list_all}
use Rattle.std.specs.Option.{option_map}
use Rattle.std.proofs.lemmas.List.Elements.{All-head}
use Rattle.std.proofs.lemmas.Bool.{cases_eq, false≢true}
use Rattle.std.proofs.lemmas.Option.{same_Some}
use Rattle.std.proofs.lemmas.List.{get_or-set_other, get_or-set_same, get_or-take, get_or-drop, length-take}
use Rattle.bale_items.specs.declared.item.Entry.{Entry}
use Rattle.bale_items.specs.declared.item.Item.{Item}
use Rattle.route_tensor.specs.Grid.{ranks, dim}
use Rattle.route_tensor.specs.Link.{links, links_before}
use Rattle.route_tensor.specs.Ends.{hop_at, sender_at, reader_at}
use Rattle.route_tensor.specs.Neighbour.{hop_to, neighbour, link_from, in_index}
use Rattle.route_tensor.specs.Tag.{sender_of, IsFair}
use Rattle.route_tensor.proofs.Links.{link_below, before_more, sum_take_le}
use Rattle.route_tensor.proofs.Ends.{hop_at-link, sender_at-link, reader_at-link}
use Rattle.route_tensor.proofs.Neighbours.{hop_to_is, from_neighbour, in_index-link_from}
use Rattle.port_bank.specs.Logs.{Logs}
use Rattle.hop_core.specs.Link.{In, no_in, with_first_taken, with_back, is_empty}
use Rattle.hop_core.specs.State.{State, in_at, lowest, lowest_unread, ins_of_hop, pull_from, pulled_from, after_unpull}
use Rattle.hop_core.specs.Standing.{IsState}
use Rattle.port_bank.specs.Machine.{IsOwnStep}
use Rattle.port_bank.specs.Machine.Step.{Pull, Unpull, Idle}
use Rattle.convey.specs.Buffers.{in_of, back_of, entry_back, buffers_of}
use Rattle.convey.specs.Agreement.{Agrees}
use Rattle.convey.specs.Parts.{part_of}
use Rattle.convey.specs.Law.{IsLastIn}
use Rattle.convey.specs.Conveyors.{IsConveyor}
use Rattle.convey.specs.Due.{IsOver}
use Rattle.convey.proofs.Completes.{is_over}
use Rattle.convey.proofs.Advances.{phase_of-settled}
use Rattle.convey.proofs.Moves.{forget_agrees}
use Rattle.convey.proofs.Steps.{PulledOn, pull_agrees, pull_step, UnpulledOn, unpull_agrees, unpull_step}
use Rattle.convey.proofs.States.{none_of, of_hop, in_apart, is_in}
use Rattle.convey.proofs.Routes.{last_route, last_sender}

first_of : (xs : List Entry) (e : Entry) → slice_get xs 0 ≡ Some e → xs ≡ e ∷ drop 1 xs
first_of [] e h = absurd (false≢true (ap is_some h))
first_of (x ∷ xs) e h = ap (λ y. y ∷ xs) (same_Some x e h)

-- a link in number i of the last hop
pub record LastNumber (st : State) (i : ℕ) : Type 0 where
  pub within : i < sum st.dims
  pub hop : hop_to st.dims i ≡ length st.dims

module _ (st : State) (i : ℕ) (s : IsState st) (n : LastNumber st i) where
  from : ℕ
  from = link_from st.dims st.rank i

  pub last_in : IsLastIn (buffers_of st) (link_from st.dims st.rank i)
  last_in =
      let f = from_neighbour st.dims st.rank i s.grid s.rank n.within in
      record {
        below = link_below st.dims (hop_to st.dims i) (neighbour st.dims st.rank i) st.rank s.grid f;
        reader = reader_at-link st.dims (hop_to st.dims i) (neighbour st.dims st.rank i) st.rank s.grid f;
        hop = hop_at-link st.dims (hop_to st.dims i) (neighbour st.dims st.rank i) st.rank s.grid f ∙ n.hop;
      }

  pub index_is : in_index st.dims (link_from st.dims st.rank i) ≡ i
  index_is = in_index-link_from st.dims st.rank i s.grid s.rank n.within

  pub sender_is : sender_at st.dims (link_from st.dims st.rank i) ≡ neighbour st.dims st.rank i
  sender_is = sender_at-link st.dims (hop_to st.dims i) (neighbour st.dims st.rank i) st.rank s.grid (from_neighbour st.dims st.rank i s.grid s.rank n.within)

  here_within : i < length st.ins
  here_within = let w = n.within in omega (arith, s.all_ins)

  put_here : (x : In) → slice_index_or (slice_set st.ins i x) (in_index st.dims (link_from st.dims st.rank i)) no_in ≡ x
  put_here x = ap (λ k. slice_index_or (slice_set st.ins i x) k no_in) index_is ∙ get_or-set_same st.ins i x no_in here_within

  put_other : (x : In) (l : ℕ) → l < links st.dims → reader_at st.dims l ≡ st.rank → l ≢ link_from st.dims st.rank i → slice_index_or (slice_set st.ins i x) (in_index st.dims l) no_in ≡ in_of st l
  put_other x l h to ne =
      get_or-set_other st.ins i (in_index st.dims l) x no_in
      (λ e. in_apart st.dims st.rank l (link_from st.dims st.rank i) s.grid h last_in.below to last_in.reader ne (e ∙ sym index_is))

  same_ended : (x : In) → x.ended ≡ (in_at st i).ended → (l : ℕ) → (slice_index_or (slice_set st.ins i x) (in_index st.dims l) no_in).ended ≡ (in_of st l).ended
  same_ended x e l =
      elim (cases_eq (in_index st.dims l) i) [
        | inl same ↦ ap (λ k. (slice_index_or (slice_set st.ins i x) k no_in).ended) same ∙ (ap (λ y. y.ended) (get_or-set_same st.ins i x no_in here_within) ∙ (e ∙ ap (λ k. (slice_index_or st.ins k no_in).ended) (sym same)))
        | inr ne ↦ ap (λ y. y.ended) (get_or-set_other st.ins i (in_index st.dims l) x no_in ne)
      ]

  unread_with : In → ℕ → List Entry
  unread_with x l = (slice_index_or (slice_set st.ins i x) (in_index st.dims l) no_in).parcel.untaken

  here : in_of st (link_from st.dims st.rank i) ≡ in_at st i
  here = ap (λ k. slice_index_or st.ins k no_in) index_is

  -- the pull
  taken_state : State
  taken_state = record st { ins = slice_set st.ins i (record (in_at st i) { parcel = with_first_taken (in_at st i).parcel }); pulled = Some i }

  taken : In
  taken = record (in_at st i) { parcel = with_first_taken (in_at st i).parcel }

  module _ (e : Entry) (first : slice_get (in_at st i).parcel.untaken 0 ≡ Some e) where
    back_here : back_of taken_state (Some i) ≡ Some (link_from st.dims st.rank i, e)
    unfolding taken_state
    back_here = ap (entry_back (link_from st.dims st.rank i)) (ap (λ x. x.parcel.back) (get_or-set_same st.ins i (record (in_at st i) { parcel = with_first_taken (in_at st i).parcel }) no_in here_within) ∙ first)

    pull_buffers : buffers_of taken_state ≡ record (buffers_of st) { unread = unread_with taken; latest = Some (link_from st.dims st.rank i, e) }
    unfolding taken_state taken unread_with
    pull_buffers = λ j. record (buffers_of (record st { ins = slice_set st.ins i (record (in_at st i) { parcel = with_first_taken (in_at st i).parcel }); pulled = Some i })) {
      ended = λ l. same_ended (record (in_at st i) { parcel = with_first_taken (in_at st i).parcel }) refl l j;
      latest = back_here j;
    }

    pull_on : PulledOn (buffers_of st) (unread_with taken) (link_from st.dims st.rank i) e
    unfolding taken unread_with
    pull_on = record {
      head = ap (λ x. x.parcel.untaken) here ∙ (first_of (in_at st i).parcel.untaken e first ∙ ap (λ xs. e ∷ xs) (sym (ap (λ x. x.parcel.untaken) (put_here (record (in_at st i) { parcel = with_first_taken (in_at st i).parcel })))));
      lies = λ l h to ne. ap (λ x. x.parcel.untaken) (put_other (record (in_at st i) { parcel = with_first_taken (in_at st i).parcel }) l h to ne);
    }

    fair_entry : IsFair st.dims (length st.dims) e.tag
    fair_entry =
        let f = (is_in st (link_from st.dims st.rank i) s last_in.below).fair in
        let head : (in_of st (link_from st.dims st.rank i)).parcel.untaken ≡ e ∷ drop 1 (in_at st i).parcel.untaken = ap (λ x. x.parcel.untaken) here ∙ first_of (in_at st i).parcel.untaken e first in
        subst (λ h. IsFair st.dims h e.tag) last_in.hop
        (All-head (λ x. IsFair st.dims (hop_at st.dims (link_from st.dims st.rank i)) x.tag) e (drop 1 (in_at st i).parcel.untaken)
        (subst (All (λ x. IsFair st.dims (hop_at st.dims (link_from st.dims st.rank i)) x.tag)) head f))

    pub pulled_agrees : (sent got : Logs) → Agrees (buffers_of st) sent got → Agrees (buffers_of (record st { ins = slice_set st.ins i (record (in_at st i) { parcel = with_first_taken (in_at st i).parcel }); pulled = Some i })) sent got
    unfolding taken_state taken unread_with
    pulled_agrees sent got a =
        let k = last_sender (buffers_of st) (link_from st.dims st.rank i) e s.grid last_in fair_entry in
        let r = last_route (buffers_of st) (link_from st.dims st.rank i) e s.grid s.rank last_in fair_entry in
        subst (λ b. Agrees b sent got) (sym pull_buffers)
        (pull_agrees (buffers_of st) (unread_with taken) sent got (link_from st.dims st.rank i) (sender_of st.dims e.tag (length st.dims) (sender_at st.dims (link_from st.dims st.rank i))) e s.grid s.rank a last_in pull_on k refl r)

    pub pulled_step : (sent got : Logs) → Agrees (buffers_of st) sent got
        → IsOwnStep (Pull (sender_of st.dims e.tag (length st.dims) (neighbour st.dims st.rank i)) e.item) (part_of (buffers_of st) sent got)
        (part_of (buffers_of (record st { ins = slice_set st.ins i (record (in_at st i) { parcel = with_first_taken (in_at st i).parcel }); pulled = Some i })) sent got)
    unfolding taken_state taken unread_with
    pulled_step sent got a =
        let k = last_sender (buffers_of st) (link_from st.dims st.rank i) e s.grid last_in fair_entry in
        let r = last_route (buffers_of st) (link_from st.dims st.rank i) e s.grid s.rank last_in fair_entry in
        subst (λ x. IsOwnStep (Pull (sender_of st.dims e.tag (length st.dims) x) e.item) (part_of (buffers_of st) sent got) (part_of (buffers_of taken_state) sent got)) sender_is
        (subst (λ b. IsOwnStep (Pull (sender_of st.dims e.tag (length st.dims) (sender_at st.dims (link_from st.dims st.rank i))) e.item) (part_of (buffers_of st) sent got) (part_of b sent got)) (sym pull_buffers)
        (pull_step (buffers_of st) (unread_with taken) sent got (link_from st.dims st.rank i) (sender_of st.dims e.tag (length st.dims) (sender_at st.dims (link_from st.dims st.rank i))) e s.grid s.rank a last_in pull_on k refl r))

  -- the unpull
  unpulled_state : Entry → State
  unpulled_state e = record st { ins = slice_set st.ins i (record (in_at st i) { parcel = with_back (Some e) (in_at st i).parcel }); pulled = None }

  returned : Entry → In
  returned e = record (in_at st i) { parcel = with_back (Some e) (in_at st i).parcel }

  module _ (e : Entry) (had : st.pulled ≡ Some i) (back : (in_at st i).parcel.back ≡ Some e) where
    latest_is : back_of st st.pulled ≡ Some (link_from st.dims st.rank i, e)
    latest_is = ap (back_of st) had ∙ ap (entry_back (link_from st.dims st.rank i)) back

    unpull_buffers : buffers_of (unpulled_state e) ≡ record (buffers_of st) { unread = unread_with (returned e); latest = None }
    unfolding unpulled_state returned unread_with
    unpull_buffers = λ j. record (buffers_of (record st { ins = slice_set st.ins i (record (in_at st i) { parcel = with_back (Some e) (in_at st i).parcel }); pulled = None })) {
      ended = λ l. same_ended (record (in_at st i) { parcel = with_back (Some e) (in_at st i).parcel }) refl l j;
    }

    unpull_on : UnpulledOn (buffers_of st) (unread_with (returned e)) (link_from st.dims st.rank i) e
    unfolding returned unread_with
    unpull_on = record {
      latest = latest_is;
      back = ap (λ x. x.parcel.untaken) (put_here (record (in_at st i) { parcel = with_back (Some e) (in_at st i).parcel })) ∙ ap (λ x. e ∷ x.parcel.untaken) (sym here);
      lies = λ l h to ne. ap (λ x. x.parcel.untaken) (put_other (record (in_at st i) { parcel = with_back (Some e) (in_at st i).parcel }) l h to ne);
    }

    fair_back : IsFair st.dims (length st.dims) e.tag
    fair_back =
        subst (λ h. IsFair st.dims h e.tag) last_in.hop
        ((is_in st (link_from st.dims st.rank i) s last_in.below).back_fair e (ap (λ x. x.parcel.back) here ∙ back))

    pub unpulled_agrees : (sent got : Logs) → Agrees (buffers_of st) sent got → Agrees (buffers_of (record st { ins = slice_set st.ins i (record (in_at st i) { parcel = with_back (Some e) (in_at st i).parcel }); pulled = None })) sent got
    unfolding unpulled_state returned unread_with
    unpulled_agrees sent got a = subst (λ b. Agrees b sent got) (sym unpull_buffers)
        (unpull_agrees (buffers_of st) (unread_with (returned e)) sent got (link_from st.dims st.rank i) 0 e s.grid s.rank a last_in unpull_on)

    pub unpulled_step : (sent got : Logs) → Agrees (buffers_of st) sent got
        → IsOwnStep Unpull (part_of (buffers_of st) sent got) (part_of (buffers_of (record st { ins = slice_set st.ins i (record (in_at st i) { parcel = with_back (Some e) (in_at st i).parcel }); pulled = None })) sent got)
    unfolding unpulled_state returned unread_with
    unpulled_step sent got a =
        let k = last_sender (buffers_of st) (link_from st.dims st.rank i) e s.grid last_in fair_back in
        let r = last_route (buffers_of st) (link_from st.dims st.rank i) e s.grid s.rank last_in fair_back in
        subst (λ b. IsOwnStep Unpull (part_of (buffers_of st) sent got) (part_of b sent got)) (sym unpull_buffers)
        (unpull_step (buffers_of st) (unread_with (returned e)) sent got (link_from st.dims st.rank i) (sender_of st.dims e.tag (length st.dims) (sender_at st.dims (link_from st.dims st.rank i))) e s.grid s.rank a last_in unpull_on k refl r)

-- the lowest link that has an entry
record Lowest (k : ℕ) (xs : List In) (i : ℕ) : Type 0 where
  from_k : k ≤ i
  below : i < k + length xs
  some : is_empty (slice_index_or xs (i - k) no_in).parcel ≡ false

lowest_step : (k : ℕ) (x : In) (xs : List In) (i : ℕ) (b : Bool) → is_empty x.parcel ≡ b → (if b then lowest (suc k) xs else Some k) ≡ Some i → (lowest (suc k) xs ≡ Some i → Lowest (suc k) xs i) → Lowest k (x ∷ xs) i
lowest_step k x xs i true e h f =
    let r = f h in
    let up : i - k ≡ suc (i - suc k) = let q = r.from_k in omega arith in
    record { from_k = let q = r.from_k in omega arith; below = let q = r.below in omega arith; some = ap (λ n. is_empty (slice_index_or (x ∷ xs) n no_in).parcel) up ∙ r.some }
lowest_step k x xs i false e h f =
    let same : k ≡ i = same_Some k i h in
    let zero_off : i - k ≡ 0 = omega arith in
    record { from_k = omega arith; below = omega arith; some = ap (λ n. is_empty (slice_index_or (x ∷ xs) n no_in).parcel) zero_off ∙ e }

lowest_is : (k : ℕ) (xs : List In) (i : ℕ) → lowest k xs ≡ Some i → Lowest k xs i
unfolding lowest
lowest_is k [] i h = absurd (false≢true (ap is_some h))
lowest_is k (x ∷ xs) i h = lowest_step k x xs i (is_empty x.parcel) refl h (lowest_is (suc k) xs i)

lowest_none_step : (k : ℕ) (x : In) (xs : List In) (b : Bool) → is_empty x.parcel ≡ b → (if b then lowest (suc k) xs else Some k) ≡ None → (b ≡ true) × (lowest (suc k) xs ≡ None)
lowest_none_step k x xs true e h = (refl, h)
lowest_none_step k x xs false e h = absurd (false≢true (sym (ap is_some h)))

lowest_none : (k : ℕ) (xs : List In) → lowest k xs ≡ None → list_all (λ x. is_empty x.parcel) xs ≡ true
unfolding lowest
lowest_none k [] h = refl
lowest_none k (x ∷ xs) h =
    let r = lowest_none_step k x xs (is_empty x.parcel) refl h in
    ap (λ b. b && list_all (λ y. is_empty y.parcel) xs) r.0 ∙ lowest_none (suc k) xs r.1

-- it is one of the last hop, and has one
pub lowest_number : (st : State) (i : ℕ) → IsState st → lowest_unread st ≡ Some i → LastNumber st i
lowest_number st i s h =
    let k : ℕ = length st.dims in
    let some = s.grid.some in
    let l = lowest_is (links_before st.dims k) (ins_of_hop st.dims st.ins k) i h in
    let few = length-take (dim st.dims k) (drop (links_before st.dims k) st.ins) in
    let before = before_more st.dims k some (omega arith) in
    let most = sum_take_le st.dims k in
    let a = l.from_k in
    let b = l.below in
    record {
      within = omega arith;
      hop = hop_to_is st.dims k i (record { first = some; last = omega arith; from = a; below = omega arith });
    }

not_empty : (xs : List Entry) → (length xs == 0) ≡ false → (e : Entry) × (slice_get xs 0 ≡ Some e)
not_empty [] h = absurd (false≢true (sym h))
not_empty (x ∷ xs) h = (x, refl)

pub lowest_first : (st : State) (i : ℕ) → IsState st → lowest_unread st ≡ Some i → (e : Entry) × (slice_get (in_at st i).parcel.untaken 0 ≡ Some e)
lowest_first st i s h =
    let k : ℕ = length st.dims in
    let l = lowest_is (links_before st.dims k) (ins_of_hop st.dims st.ins k) i h in
    let few = length-take (dim st.dims k) (drop (links_before st.dims k) st.ins) in
    let a = l.from_k in
    let b = l.below in
    let c : ℕ = i - links_before st.dims k in
    let at : slice_index_or (ins_of_hop st.dims st.ins k) c no_in ≡ slice_index_or st.ins (links_before st.dims k + c) no_in =
    get_or-take (dim st.dims k) (drop (links_before st.dims k) st.ins) c no_in (omega arith) ∙ get_or-drop (links_before st.dims k) st.ins c no_in in
    let sum' : links_before st.dims k + c ≡ i = omega arith in
    not_empty (in_at st i).parcel.untaken (ap (λ n. is_empty (slice_index_or st.ins n no_in).parcel) (sym sum') ∙ (ap (λ x. is_empty x.parcel) (sym at) ∙ l.some))

pub none_unread : (st : State) → IsState st → lowest_unread st ≡ None → (l : ℕ) → l < links st.dims → hop_at st.dims l ≡ length st.dims → (in_of st l).parcel.untaken ≡ []
none_unread st s h l below last =
    none_of (in_of st l).parcel.untaken
    (of_hop st.dims st.ins (λ x. is_empty x.parcel) l s.grid below s.all_ins
    (subst (λ j. list_all (λ x. is_empty x.parcel) (ins_of_hop st.dims st.ins j) ≡ true) (sym last) (lowest_none (links_before st.dims (length st.dims)) (ins_of_hop st.dims st.ins (length st.dims)) h)))

-- a pull, whatever it finds
pub pulled_kept : (st : State) (o : Option ℕ) → IsState st → lowest_unread st ≡ o → (sent got : Logs) → Agrees (buffers_of st) sent got → Agrees (buffers_of (pulled_from st o)) sent got
pulled_kept st None s h sent got a = forget_agrees (buffers_of st) sent got a
pulled_kept st (Some i) s h sent got a = let f = lowest_first st i s h in pulled_agrees st i s (lowest_number st i s h) f.0 f.1 sent got a

pub pulled_item : (st : State) (o : Option ℕ) → IsState st → lowest_unread st ≡ o → (p : ℕ × Item) → pull_from st o ≡ Some p → (sent got : Logs) → Agrees (buffers_of st) sent got
    → IsOwnStep (Pull p.0 p.1) (part_of (buffers_of st) sent got) (part_of (buffers_of (pulled_from st o)) sent got)
pulled_item st None s h p e sent got a = absurd (false≢true (ap is_some e))
pulled_item st (Some i) s h p e sent got a =
    let f = lowest_first st i s h in
    let give : Option Entry → Option (ℕ × Item) = λ o. option_map (λ x. (sender_of st.dims x.tag (length st.dims) (neighbour st.dims st.rank i), x.item)) o in
    let same = same_Some (sender_of st.dims f.0.tag (length st.dims) (neighbour st.dims st.rank i), f.0.item) p (sym (ap give f.1) ∙ e) in
    subst (λ (q : ℕ × Item). IsOwnStep (Pull q.0 q.1) (part_of (buffers_of st) sent got) (part_of (buffers_of (pulled_from st (Some i))) sent got)) same
    (pulled_step st i s (lowest_number st i s h) f.0 f.1 sent got a)

pub pulled_sender : (st : State) (o : Option ℕ) → IsState st → lowest_unread st ≡ o → (p : ℕ × Item) → pull_from st o ≡ Some p → p.0 < ranks st.dims
pulled_sender st None s h p e = absurd (false≢true (ap is_some e))
pulled_sender st (Some i) s h p e =
    let f = lowest_first st i s h in
    let n = lowest_number st i s h in
    let give : Option Entry → Option (ℕ × Item) = λ o. option_map (λ x. (sender_of st.dims x.tag (length st.dims) (neighbour st.dims st.rank i), x.item)) o in
    let same = same_Some (sender_of st.dims f.0.tag (length st.dims) (neighbour st.dims st.rank i), f.0.item) p (sym (ap give f.1) ∙ e) in
    let k = last_sender (buffers_of st) (link_from st.dims st.rank i) f.0 s.grid (last_in st i s n) (fair_entry st i s n f.0 f.1) in
    subst (λ (q : ℕ × Item). q.0 < ranks st.dims) same (subst (λ x. sender_of st.dims f.0.tag (length st.dims) x < ranks st.dims) (sender_is st i s n) k)

-- where it gives nothing, nothing is unread
pub pulled_none : (st : State) (o : Option ℕ) → IsState st → lowest_unread st ≡ o → pull_from st o ≡ None → o ≡ None
pulled_none st None s h e = refl
pulled_none st (Some i) s h e =
    let f = lowest_first st i s h in
    let give : Option Entry → Option (ℕ × Item) = λ o. option_map (λ x. (sender_of st.dims x.tag (length st.dims) (neighbour st.dims st.rank i), x.item)) o in
    absurd (false≢true (sym (ap is_some (sym (ap give f.1) ∙ e))))

-- and where all is over, it gives nothing
pub over_none : (st : State) (o : Option ℕ) → IsState st → IsOver st → lowest_unread st ≡ o → o ≡ None
over_none st None s v h = refl
over_none st (Some i) s v h =
    let f = lowest_first st i s h in
    let n = lowest_number st i s h in
    let l = last_in st i s n in
    let none : (in_at st i).parcel.untaken ≡ [] = ap (λ k. (slice_index_or st.ins k no_in).parcel.untaken) (sym (index_is st i s n)) ∙ v.read (link_from st.dims st.rank i) l.below l.reader in
    absurd (false≢true (ap is_some (sym (ap (λ xs. slice_get xs 0) none) ∙ f.1)))

pub pulled_conveyor : (hops : ℕ) (st : State) (o : Option ℕ) → IsState st → IsConveyor hops st → lowest_unread st ≡ o → IsConveyor hops (pulled_from st o)
pulled_conveyor hops st None s c h = record { hops_all = c.hops_all; sent = c.sent; complete = λ p. phase_of-settled st st.phase None ∙ c.complete p; none_back = λ p. refl }
pulled_conveyor hops st (Some i) s c h = record {
  hops_all = c.hops_all;
  sent = c.sent;
  complete = λ p. absurd (false≢true (sym (ap is_some (over_none st (Some i) s (is_over st s (c.complete p)) h))));
  none_back = λ p. absurd (false≢true (sym (ap is_some (over_none st (Some i) s (is_over st s (c.complete p)) h))));
}

-- an unpull, where there is something to put back and where not
some_back : (o : Option Entry) → IsSome o → (e : Entry) × (o ≡ Some e)
some_back None h = absurd (false≢true h)
some_back (Some e) h = (e, refl)

pub unpulled_kept : (st : State) (p : Option ℕ) → st.pulled ≡ p → IsState st → (sent got : Logs) → Agrees (buffers_of st) sent got → Agrees (buffers_of (after_unpull st p)) sent got
unpulled_kept st None q s sent got a = a
unpulled_kept st (Some i) q s sent got a =
    let c = s.can_unpull i q in
    let b = some_back (in_at st i).parcel.back c.back in
    subst (λ o. Agrees (buffers_of (record st { ins = slice_set st.ins i (record (in_at st i) { parcel = with_back o (in_at st i).parcel }); pulled = None })) sent got) (sym b.1)
    (unpulled_agrees st i s (record { within = c.within; hop = c.last_hop }) b.0 q b.1 sent got a)

pub unpulled_some : (st : State) (p : Option ℕ) → st.pulled ≡ p → IsState st → is_some p ≡ true → (sent got : Logs) → Agrees (buffers_of st) sent got → IsOwnStep Unpull (part_of (buffers_of st) sent got) (part_of (buffers_of (after_unpull st p)) sent got)
unpulled_some st None q s h sent got a = absurd (false≢true h)
unpulled_some st (Some i) q s h sent got a =
    let c = s.can_unpull i q in
    let b = some_back (in_at st i).parcel.back c.back in
    subst (λ o. IsOwnStep Unpull (part_of (buffers_of st) sent got) (part_of (buffers_of (record st { ins = slice_set st.ins i (record (in_at st i) { parcel = with_back o (in_at st i).parcel }); pulled = None })) sent got)) (sym b.1)
    (unpulled_step st i s (record { within = c.within; hop = c.last_hop }) b.0 q b.1 sent got a)

pub unpulled_none : (st : State) (p : Option ℕ) → st.pulled ≡ p → is_some p ≡ false → (sent got : Logs) → IsOwnStep Idle (part_of (buffers_of st) sent got) (part_of (buffers_of (after_unpull st p)) sent got)
unpulled_none st None q h sent got = record { may = tt; is = λ j. record (part_of (buffers_of st) sent got) { latest = option_map (λ x. sender_of st.dims x.1.tag (length st.dims) (sender_at st.dims x.0)) (back_of st (q j)) } }
unpulled_none st (Some i) q h sent got = absurd (false≢true (sym h))

pub unpulled_conveyor : (hops : ℕ) (st : State) (p : Option ℕ) → st.pulled ≡ p → IsConveyor hops st → IsConveyor hops (after_unpull st p)
unpulled_conveyor hops st None q c = c
unpulled_conveyor hops st (Some i) q c = record {
  hops_all = c.hops_all;
  sent = c.sent;
  complete = λ p. absurd (false≢true (ap is_some (sym (c.none_back p) ∙ q)));
  none_back = λ p. refl;
}
