-- What one collect leaves of a rank's state.
use Rattle.std.proofs.Common.{◌≡◌, ◌≢◌, ℕ, ◌<◌, Bool, true, false, not, List, [], ◌∷◌, ◌++◌, length, slice_set, None, refl, sym, ap, subst, ◌∙◌, arith, inl, inr, length-append}
use Rattle.std.specs.List.{All, flat_map}
use Rattle.std.proofs.lemmas.Bool.{cases_eq, false≢true}
use Rattle.std.proofs.lemmas.List.{append-nil, append_cancel_left, get_or-set_other, get_or-set_same}
use Rattle.bale_items.specs.declared.item.Entry.{Entry}
use Rattle.item_buffer.specs.Contents.{Shipped}
use Rattle.route_tensor.specs.Link.{links}
use Rattle.route_tensor.specs.Tag.{IsFair}
use Rattle.route_tensor.specs.Ends.{hop_at, sender_at, reader_at}
use Rattle.route_tensor.specs.Neighbour.{hop_to, in_index}
use Rattle.port_bank.specs.Logs.{Logs, with_parcel}
use Rattle.list_laws.specs.Lists.{IsPrefix}
use Rattle.port_bank.proofs.Fronts.{begins_refl}
use Rattle.port_bank.proofs.Kept.{added_grows}
use Rattle.hop_core.specs.Link.{In, no_in, is_empty, is_wanted}
use Rattle.hop_core.specs.State.{State}
use Rattle.hop_core.specs.Standing.{IsState}
use Rattle.convey.specs.Buffers.{in_of, buffers_of}
use Rattle.convey.specs.Agreement.{Agrees}
use Rattle.convey.specs.Parts.{part_of}
use Rattle.convey.specs.Due.{WantsParcel}
use Rattle.convey.specs.AdvanceSteps.{IsReady, GoesOn, without_latest}
use Rattle.convey.proofs.Arrivals.{GotOn, got_agrees, got_part}
use Rattle.convey.proofs.Moves.{SameOn, same_agrees, same_buffers_part}
use Rattle.convey.proofs.Ways.{no_more, none_filled}
use Rattle.convey.proofs.States.{none_of, both_true, in_number, in_apart}

-- the state after an inbox came back
abbrev pub with_inbox : State → ℕ → In → State
with_inbox st i x = record st { ins = slice_set st.ins i x; pulled = None }

inbox_here : (st : State) (l : ℕ) (x : In) → IsState st → l < links st.dims → in_of (with_inbox st (in_index st.dims l) x) l ≡ x
inbox_here st l x s h =
    let n = in_number st.dims l s.grid h in
    let within : in_index st.dims l < length st.ins = omega (arith, n.within, s.all_ins) in
    get_or-set_same st.ins (in_index st.dims l) x no_in within

inbox_other : (st : State) (r l m : ℕ) (x : In) → IsState st → l < links st.dims → m < links st.dims → reader_at st.dims l ≡ r → reader_at st.dims m ≡ r → m ≢ l
    → in_of (with_inbox st (in_index st.dims l) x) m ≡ in_of st m
inbox_other st r l m x s h k a b ne = get_or-set_other st.ins (in_index st.dims l) (in_index st.dims m) x no_in (in_apart st.dims r m l s.grid k h b a ne)

not_true : (c : Bool) → not c ≡ true → c ≡ false
not_true true h = absurd (false≢true h)
not_true false h = refl

pub wanted_parts : (x : In) → is_wanted x ≡ true → (x.parcel.untaken ≡ []) × (x.ended ≡ false)
wanted_parts x h = let b = both_true (is_empty x.parcel) (not x.ended) h in (none_of x.parcel.untaken b.0, not_true x.ended b.1)

-- what lies in the inbox after it
pub still_lies : (st new : State) (l : ℕ) (x : In) (log log' more : List Shipped) → IsState st → l < links st.dims → WantsParcel st l → new ≡ with_inbox st (in_index st.dims l) x → x.parcel.untaken ≡ []
    → log' ≡ log → log' ≡ log ++ more → (in_of new l).parcel.untaken ≡ (in_of st l).parcel.untaken ++ flat_map (λ p. p.entries) more
still_lies st new l x log log' more s h w e none a b =
    let empty : (in_of st l).parcel.untaken ≡ [] = (wanted_parts (in_of st l) w).0 in
    ap (λ n. (in_of n l).parcel.untaken) e ∙ (ap (λ y. y.parcel.untaken) (inbox_here st l x s h)
    ∙ (none ∙ sym (λ i. empty i ++ flat_map (λ p. p.entries) (no_more log more (sym a ∙ b) i))))

pub came_lies : (st new : State) (l : ℕ) (x : In) (q : Shipped) (log log' more : List Shipped) → IsState st → l < links st.dims → WantsParcel st l → new ≡ with_inbox st (in_index st.dims l) x → x.parcel.untaken ≡ q.entries
    → log' ≡ log ++ q ∷ [] → log' ≡ log ++ more → (in_of new l).parcel.untaken ≡ (in_of st l).parcel.untaken ++ flat_map (λ p. p.entries) more
came_lies st new l x q log log' more s h w e entries a b =
    let empty : (in_of st l).parcel.untaken ≡ [] = (wanted_parts (in_of st l) w).0 in
    ap (λ n. (in_of n l).parcel.untaken) e ∙ (ap (λ y. y.parcel.untaken) (inbox_here st l x s h)
    ∙ (entries ∙ (sym (append-nil q.entries) ∙ sym (λ i. empty i ++ flat_map (λ p. p.entries) (append_cancel_left log more (q ∷ []) (sym b ∙ a) i)))))

pub grew : (log : List Shipped) (p : Shipped) → log ++ p ∷ [] ≡ log → ⊥
grew log p e = let n = ap length e in omega (arith, n, length-append log (p ∷ []))

module _ (st : State) (link : ℕ) (x : In) (sent got got' : Logs) (s : IsState st) (a : Agrees (buffers_of st) sent got) (below : link < links st.dims) (own : reader_at st.dims link ≡ st.rank)
    (wants : WantsParcel st link) where
  i : ℕ
  i = in_index st.dims link

  empty_now : (in_of st link).parcel.untaken ≡ []
  empty_now = (wanted_parts (in_of st link) wants).0

  goes_on_now : (in_of st link).ended ≡ false
  goes_on_now = (wanted_parts (in_of st link) wants).1

  -- nothing came
  stays : x.parcel.untaken ≡ [] → x.ended ≡ false → SameOn (buffers_of st) (buffers_of (with_inbox st (in_index st.dims link) x)).waiting (buffers_of (with_inbox st (in_index st.dims link) x)).unread
      (buffers_of (with_inbox st (in_index st.dims link) x)).closed (buffers_of (with_inbox st (in_index st.dims link) x)).ended
  stays none open' = record {
    waits = λ l h from. refl;
    closes = λ l h from. refl;
    lies = λ l h to. elim (cases_eq l link) [
      | inl same ↦ subst (λ m. (in_of (with_inbox st (in_index st.dims link) x) m).parcel.untaken ≡ (in_of st m).parcel.untaken) (sym same) (ap (λ y. y.parcel.untaken) (inbox_here st link x s below) ∙ (none ∙ sym empty_now))
      | inr other ↦ ap (λ y. y.parcel.untaken) (inbox_other st st.rank link l x s below h own to other)
    ];
    ends = λ l h to. elim (cases_eq l link) [
      | inl same ↦ subst (λ m. (in_of (with_inbox st (in_index st.dims link) x) m).ended ≡ (in_of st m).ended) (sym same) (ap (λ y. y.ended) (inbox_here st link x s below) ∙ (open' ∙ sym goes_on_now))
      | inr other ↦ ap (λ y. y.ended) (inbox_other st st.rank link l x s below h own to other)
    ];
  }

  pub nothing_agrees : x.parcel.untaken ≡ [] → x.ended ≡ false → Agrees (buffers_of (with_inbox st (in_index st.dims link) x)) sent got
  nothing_agrees none open' =
      let n : State = with_inbox st (in_index st.dims link) x in
      same_agrees (buffers_of st) (buffers_of n).waiting (buffers_of n).unread (buffers_of n).closed (buffers_of n).ended sent got s.grid (stays none open') a

  pub nothing_part : x.parcel.untaken ≡ [] → x.ended ≡ false → without_latest (part_of (buffers_of (with_inbox st (in_index st.dims link) x)) sent got) ≡ without_latest (part_of (buffers_of st) sent got)
  nothing_part none open' =
      let n : State = with_inbox st (in_index st.dims link) x in
      ap without_latest (same_buffers_part (buffers_of st) (buffers_of n).waiting (buffers_of n).unread (buffers_of n).closed (buffers_of n).ended sent got s.grid (stays none open') s.rank)

  -- a parcel came
  came : (q : Shipped) → x.parcel.untaken ≡ q.entries → x.ended ≡ q.last → GotOn (buffers_of st) (buffers_of (with_inbox st (in_index st.dims link) x)).unread (buffers_of (with_inbox st (in_index st.dims link) x)).ended link q
  came q entries last = record {
    filled = ap (λ y. y.parcel.untaken) (inbox_here st link x s below) ∙ entries;
    ends = ap (λ y. y.ended) (inbox_here st link x s below) ∙ last;
    lies = λ l h to other. ap (λ y. y.parcel.untaken) (inbox_other st st.rank link l x s below h own to other);
    stays = λ l h to other. ap (λ y. y.ended) (inbox_other st st.rank link l x s below h own to other);
  }

  pub came_agrees : (q : Shipped) → x.parcel.untaken ≡ q.entries → x.ended ≡ q.last → All (λ e. IsFair st.dims (hop_at st.dims link) e.tag) q.entries → (sender_at st.dims link ≡ st.rank → IsPrefix (with_parcel got link q link) (sent link))
      → Agrees (buffers_of (with_inbox st (in_index st.dims link) x)) sent (with_parcel got link q)
  came_agrees q entries last fair front =
      let n : State = with_inbox st (in_index st.dims link) x in
      got_agrees (buffers_of st) (buffers_of n).unread (buffers_of n).ended sent got link q s.grid a below own goes_on_now empty_now fair front (came q entries last)

  pub came_part : (q : Shipped) → x.parcel.untaken ≡ q.entries → x.ended ≡ q.last → All (λ e. IsFair st.dims (hop_at st.dims link) e.tag) q.entries → (sender_at st.dims link ≡ st.rank → IsPrefix (with_parcel got link q link) (sent link))
      → without_latest (part_of (buffers_of (with_inbox st (in_index st.dims link) x)) sent (with_parcel got link q)) ≡ without_latest (part_of (buffers_of st) sent got)
  came_part q entries last fair front =
      let n : State = with_inbox st (in_index st.dims link) x in
      ap without_latest (got_part (buffers_of st) (buffers_of n).unread (buffers_of n).ended sent got link q s.grid a below own goes_on_now empty_now fair front (came q entries last) s.rank)

-- the state where a parcel was taken in, by the number of the link's neighbour
pub filled : (st new : State) (number l : ℕ) (x : In) → number ≡ in_index st.dims l → new ≡ record st { ins = slice_set st.ins number x; pulled = None } → new ≡ with_inbox st (in_index st.dims l) x
filled st new number l x n e = e ∙ ap (λ i. with_inbox st i x) n

-- tags that are fair on the link's hop are so by the number of the neighbour
pub fair_at : (st : State) (dims : List ℕ) (number l : ℕ) (xs : List Entry) → IsState st → l < links st.dims → st.dims ≡ dims → number ≡ in_index st.dims l
    → All (λ t. IsFair dims (hop_at dims l) t.tag) xs → All (λ t. IsFair st.dims (hop_to st.dims number) t.tag) xs
fair_at st dims number l xs s h e n fair =
    let hop : hop_to st.dims number ≡ hop_at st.dims l = ap (hop_to st.dims) n ∙ (in_number st.dims l s.grid h).hop in
    subst (λ k. All (λ t. IsFair st.dims k t.tag) xs) (sym hop) (subst (λ ds. All (λ t. IsFair ds (hop_at ds l) t.tag) xs) (sym e) fair)

-- nothing came, and the lists are the same
pub still_ready : (dims : List ℕ) (rank : ℕ) (st : State) (sent sent' got got' : Logs) → sent' ≡ sent → got' ≡ got → IsReady dims rank st sent got → IsReady dims rank st sent' got'
still_ready dims rank st sent sent' got got' a b r = subst (λ logs. IsReady dims rank st logs got') (sym a) (subst (λ logs. IsReady dims rank st sent logs) (sym b) r)

-- all that a collect leaves
pub record Collected (dims : List ℕ) (rank : ℕ) (st new : State) (link : ℕ) (sent sent' got got' : Logs) : Type 0 where
  pub ready : IsReady dims rank new sent' got'
  pub goes_on : GoesOn st new sent sent' got got'
  pub inbox : (m : ℕ) → m < links dims → reader_at dims m ≡ rank → m ≢ link → in_of new m ≡ in_of st m

module _ (dims : List ℕ) (rank : ℕ) (st new : State) (link : ℕ) (x : In) (sent sent' got got' : Logs) (s : IsState st) (r : IsReady dims rank st sent got)
    (below : link < links dims) (own : reader_at dims link ≡ rank) (wants : WantsParcel st link) (e : new ≡ with_inbox st (in_index st.dims link) x) (same : sent' ≡ sent) where
  here_below : link < links st.dims
  here_below = subst (λ ds. link < links ds) (sym r.same_dims) below

  here_own : reader_at st.dims link ≡ st.rank
  here_own = ap (λ ds. reader_at ds link) r.same_dims ∙ (own ∙ sym r.same_rank)

  collected : Agrees (buffers_of (with_inbox st (in_index st.dims link) x)) sent got'
      → without_latest (part_of (buffers_of (with_inbox st (in_index st.dims link) x)) sent got') ≡ without_latest (part_of (buffers_of st) sent got)
      → ((l : ℕ) → IsPrefix (got l) (got' l)) → Collected dims rank st new link sent sent' got got'
  collected agrees part grows =
      subst (λ logs. Collected dims rank st new link sent logs got got') (sym same)
      (subst (λ n. Collected dims rank st n link sent sent got got') (sym e) (record {
        ready = record { same_dims = r.same_dims; same_rank = r.same_rank; agrees = agrees };
        goes_on = record { cap = refl; steady = refl; epoch = refl; done = refl; phase = refl; part = part; sent_grows = λ l. begins_refl (sent l); got_grows = grows; fills = λ l more k. none_filled st.steady st.cap (sent l) more k };
        inbox = λ m h to ne.
            inbox_other st st.rank link m x s here_below (subst (λ ds. m < links ds) (sym r.same_dims) h) here_own (ap (λ ds. reader_at ds m) r.same_dims ∙ (to ∙ sym r.same_rank)) ne;
      }))

  pub collected_none : x.parcel.untaken ≡ [] → x.ended ≡ false → got' ≡ got → Collected dims rank st new link sent sent' got got'
  collected_none none open' same_got =
      collected (subst (Agrees (buffers_of (with_inbox st (in_index st.dims link) x)) sent) (sym same_got) (nothing_agrees st link x sent got got s r.agrees here_below here_own wants none open'))
      (ap (λ logs. without_latest (part_of (buffers_of (with_inbox st (in_index st.dims link) x)) sent logs)) same_got ∙ nothing_part st link x sent got got s r.agrees here_below here_own wants none open')
      (λ l. subst (λ logs. IsPrefix (got l) (logs l)) (sym same_got) (begins_refl (got l)))

  pub collected_one : (q : Shipped) → x.parcel.untaken ≡ q.entries → x.ended ≡ q.last → All (λ t. IsFair dims (hop_at dims link) t.tag) q.entries → (sender_at dims link ≡ rank → IsPrefix (got' link) (sent' link)) → got' ≡ with_parcel got link q → Collected dims rank st new link sent sent' got got'
  collected_one q entries last fair front same_got =
      let front_here : sender_at st.dims link ≡ st.rank → IsPrefix (with_parcel got link q link) (sent link) = λ from.
      subst (λ logs. IsPrefix (logs link) (sent link)) same_got (subst (λ logs. IsPrefix (got' link) (logs link)) same (front (ap (λ ds. sender_at ds link) (sym r.same_dims) ∙ (from ∙ r.same_rank)))) in
      let fair_here : All (λ t. IsFair st.dims (hop_at st.dims link) t.tag) q.entries = subst (λ ds. All (λ t. IsFair ds (hop_at ds link) t.tag) q.entries) (sym r.same_dims) fair in
      collected (subst (Agrees (buffers_of (with_inbox st (in_index st.dims link) x)) sent) (sym same_got) (came_agrees st link x sent got got s r.agrees here_below here_own wants q entries last fair_here front_here))
      (ap (λ logs. without_latest (part_of (buffers_of (with_inbox st (in_index st.dims link) x)) sent logs)) same_got ∙ came_part st link x sent got got s r.agrees here_below here_own wants q entries last fair_here front_here)
      (λ l. subst (λ logs. IsPrefix (got l) (logs l)) (sym same_got) (added_grows got link q l))
