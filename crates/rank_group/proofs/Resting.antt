-- A sweep in which nothing moved ends the least epoch.
use Rattle.std.proofs.Common.{◌^◌, ◌≡◌, ℕ, ◌+◌, ◌*◌, ◌<◌, ◌≤◌, ◌==◌, ◌&&◌, not, Bool, true, false, cond, List, [], length, Some, slice_get, refl, sym, ap, subst, ◌∙◌, arith, inl, inr}
use Rattle.std.proofs.lemmas.Bool.{cases_Bool, cases_eq, cases_lt, true≢false}
use Rattle.bale_items.specs.declared.item.Entry.{Entry}
use Rattle.list_laws.proofs.Lists.{find, within, get_once}
use Rattle.route_tensor.specs.Grid.{ranks}
use Rattle.route_tensor.specs.Link.{links}
use Rattle.route_tensor.specs.Ends.{hop_at, sender_at, reader_at}
use Rattle.port_bank.specs.Logs.{Logs, starting_at, ending_at}
use Rattle.hop_core.specs.declared.phase.Phase.TheVariants.{Complete}
use Rattle.hop_core.specs.Link.{In, is_wanted}
use Rattle.hop_core.specs.State.{State}
use Rattle.convey.specs.Buffers.{in_of, is_complete}
use Rattle.convey.specs.Conveyors.{AgreesWith}
use Rattle.convey.specs.Due.{IsOver}
use Rattle.rank_group.specs.Closes.{ClosesLaws}
use Rattle.convey.specs.Rest.{IsAtRest, IsRestingSweep, RestLaw}
use Rattle.round_program.specs.Rules.{Rules}
use Rattle.round_program.specs.Laws.{Laws}
use Rattle.round_program.specs.Canonical.{HasRounds, InRound}
use Rattle.rank_node.specs.Movers.{MoverState, Manner, mover_dims, mover_rank, epoch_in, manner_in, has_completed, IsConveying, IsMoving}
use Rattle.rank_node.specs.Movers.MoverState.{Conveying, Stacking}
use Rattle.rank_node.specs.Movers.Manner.{ByConveyor}
use Rattle.rank_group.specs.Ranks.{RankState, progress}
use Rattle.rank_node.proofs.Onward.{done_of_completed, complete_is}
use Rattle.rank_group.proofs.Still as still
use Rattle.rank_group.proofs.Worlds.{Core, core, still_within, over_at_last}
use Rattle.rank_group.specs.RanksOverBank.{no_conveyor, RanksOnBank, IsBlockedRank, BlocksMover, DrivePlan}

-- a rank that its turn left in its epoch is at rest
pub without_latest : (dims : List ℕ) (slots r : ℕ) (c' : State) (sent got : Logs) → 0 < slots → (x : IsBlockedRank dims slots r c' sent got) → IsAtRest dims r x.left.stuck.still.before x.left.stuck.still.after sent got
without_latest dims slots r c' sent got some x =
    let s = x.left.stuck in
    still.without_latest dims slots r x.c c' sent got some x.same_dims x.same_rank s.still x.kept
    (elim s.pushed [
      | inl done ↦ inl done
      | inr c ↦ inr (still.busy_of dims slots r x.c c' sent got some x.same_dims x.same_rank s.still x.kept c)
    ])
    (λ l b e o. s.read l (still.below dims slots r x.c c' sent got some x.same_dims x.same_rank s.still x.kept l b) (still.reader dims slots r x.c c' sent got some x.same_dims x.same_rank s.still x.kept l e) (subst (λ ds. hop_at ds l ≡ length ds) (sym x.same_dims) o))

-- so is one whose epoch is over
pub complete_rests : (dims : List ℕ) (r : ℕ) (c : State) (sent got : Logs) → c.dims ≡ dims → c.rank ≡ r → c.phase ≡ Complete → IsConveying c (starting_at dims r sent) (ending_at dims r got) → IsAtRest dims r c c sent got
complete_rests dims r c sent got d q over is =
    let full : is_complete c.phase ≡ true = ap is_complete over in
    let below : (l : ℕ) → l < links dims → l < links c.dims = λ l b. subst (λ ds. l < links ds) (sym d) b in
    let reader : (l : ℕ) → reader_at dims l ≡ r → reader_at c.dims l ≡ c.rank = λ l e. subst (λ ds. reader_at ds l ≡ c.rank) (sym d) (e ∙ sym q) in
    let sender : (l : ℕ) → sender_at dims l ≡ r → sender_at c.dims l ≡ c.rank = λ l e. subst (λ ds. sender_at ds l ≡ c.rank) (sym d) (e ∙ sym q) in
    record {
      same_dims = refl;
      same_rank = refl;
      same_epoch = refl;
      agrees = is.agrees;
      pushed = inl (done_of_completed (Conveying c) _ _ is full);
      read = λ l b e o. is.sound.all_read full l (below l b) (reader l e);
      lies = λ l b e. record { front = []; is = refl };
      kept = λ l b e o. omega arith;
      idle = λ l b e wants. absurd (ended_wants (in_of c l) (is.sound.all_ended full l (below l b) (reader l e)) wants);
      stopped = λ l y b e o first. absurd (no_first y (in_of c l).parcel.untaken (is.sound.all_read full l (below l b) (reader l e)) first);
      closing = λ l b e hop arrived still. absurd (true≢false (sym (is.sound.all_closed full l (below l b) (sender l e)) ∙ still));
    } where
      and_false : (b : Bool) → (b && false) ≡ false
      and_false true = refl
      and_false false = refl

      ended_wants : (x : In) → x.ended ≡ true → is_wanted x ≡ true → ⊥
      ended_wants x e w = true≢false (sym w ∙ (ap (λ b. (length x.parcel.untaken == 0) && not b) e ∙ and_false (length x.parcel.untaken == 0)))

      no_first : (y : Entry) (xs : List Entry) → xs ≡ [] → slice_get xs 0 ≡ Some y → ⊥
      no_first y xs none first = let b = within xs 0 y first in omega (arith, b, ap length none)

-- a rank over a conveyor
pub record ByItsConveyor (dims : List ℕ) (r : ℕ) (m : MoverState) (sent got : Logs) : Type 0 where
  pub c : State
  pub is : m ≡ Conveying c
  pub same_dims : c.dims ≡ dims
  pub same_rank : c.rank ≡ r
  pub moving : IsConveying c (starting_at dims r sent) (ending_at dims r got)

pub by_conveyor : (dims : List ℕ) (r : ℕ) (steady : Bool) (m : MoverState) (sent got : Logs) → manner_in m ≡ ByConveyor steady → mover_dims m ≡ dims → mover_rank m ≡ r → IsMoving m (starting_at dims r sent) (ending_at dims r got)
    → ByItsConveyor dims r m sent got
by_conveyor dims r steady (Conveying c) sent got k same_dims same_rank is = record { c = c; is = refl; same_dims = same_dims; same_rank = same_rank; moving = is }
by_conveyor dims r steady (Stacking cap x) sent got k same_dims same_rank is = absurd (cc)

module _ {S : Type 0} (R : Rules S) (laws : Laws R) (law : ClosesLaws) (rest : RestLaw) (dims : List ℕ) (cap slots : ℕ) (steady : Bool) (starts : List S) (h : ℕ → ℕ → S) (rs : List (RankState S)) (sent got : Logs) (w : RanksOnBank R dims cap slots (ByConveyor steady) starts h rs sent got)
    (shape : List ℕ) (most n : ℕ) (start : InRound R (ranks dims) 0 shape most starts) (rounds : HasRounds R starts n) (some : 0 < slots) (e : ℕ) (before : e < 2 * n)
    (least : (r : ℕ) (x : RankState S) → slice_get rs r ≡ Some x → e ≤ progress x)
    (rested : (r : ℕ) (x : RankState S) → slice_get rs r ≡ Some x → x.over ≡ false → progress x ≡ e → BlocksMover dims slots r x.node.mover sent got) where
  -- what is known of the conveyor of rank r, just before its latest advance and just after it
  record Two (r : ℕ) (old new : State) : Type 0 where
    same_dims : new.dims ≡ dims
    same_rank : new.rank ≡ r
    agrees : AgreesWith new (starting_at dims r sent) (ending_at dims r got)
    late : e ≤ new.epoch
    turn : new.epoch ≡ e → IsAtRest dims r old new sent got
    left : (x : RankState S) → slice_get rs r ≡ Some x → x.over ≡ false → progress x ≡ e → (new.epoch ≡ e) × (IsOver new → ⊥)

  two : (r : ℕ) → r < ranks dims → (old : State) × (new : State) × Two r old new
  two r low = by x.0 x.1 x.0.over refl where
    x : (x : RankState S) × (slice_get rs r ≡ Some x)
    x = find rs r (omega (arith, low, w.ranked.all))

    by : (x : RankState S) → slice_get rs r ≡ Some x → (b : Bool) → x.over ≡ b → (old : State) × (new : State) × Two r old new
    by x at true over =
        let has = w.ranked.each r x at in
        let i : Core R dims r (h r) x sent got = core R dims cap (ByConveyor steady) r (h r) x sent got has in
        let v = by_conveyor dims r steady x.node.mover sent got has.same_manner has.same_dims has.same_rank i.is.moving in
        let last = (over_at_last R laws law dims cap slots (ByConveyor steady) starts h rs sent got w.ranked shape most n start rounds r x at over).0 in
        let full : v.c.phase ≡ Complete = complete_is v.c.phase (sym (ap has_completed v.is) ∙ (has.stopped over).complete) in (
          v.c,
          v.c,
          record {
            same_dims = v.same_dims;
            same_rank = v.same_rank;
            agrees = v.moving.agrees;
            late = omega (arith, last, before, ap epoch_in v.is);
            turn = λ _. complete_rests dims r v.c sent got v.same_dims v.same_rank full v.moving;
            left = λ y from on. absurd (true≢false (sym over ∙ (ap (λ (z : RankState S). z.over) (get_once rs r x y at from) ∙ on)));
          },
        )
    by x at false on =
        let has = w.ranked.each r x at in
        let i = has.runs on in
        let v = by_conveyor dims r steady x.node.mover sent got has.same_manner has.same_dims has.same_rank i.moving in
        let c = v.c in
        let p : progress x ≡ c.epoch = ap (λ b. cond b (epoch_in x.node.mover + 1) (epoch_in x.node.mover)) on ∙ ap epoch_in v.is in
        let low' = least r x at in
        elim (cases_eq (progress x) e) [
          | inl here ↦
              let q : IsBlockedRank dims slots r c sent got = subst (λ m. BlocksMover dims slots r m sent got) v.is (rested r x at on here) in
              let s = q.left.stuck.still in
              let at_e : s.after.epoch ≡ e = s.epoch_after ∙ (s.epoch_before ∙ (q.same_epoch ∙ (sym p ∙ here))) in (
                s.before,
                s.after,
                record {
                  same_dims = s.dims_after ∙ (s.dims_before ∙ q.same_dims);
                  same_rank = s.rank_after ∙ (s.rank_before ∙ q.same_rank);
                  agrees = s.agrees_after;
                  late = omega (arith, at_e);
                  turn = λ _. without_latest dims slots r c sent got some q;
                  left = λ y from o k. (at_e, λ over. true≢false (sym (ap is_complete (s.over over)) ∙ q.left.going));
                },
              )
          | inr apart ↦ (
            c,
            c,
            record {
              same_dims = v.same_dims;
              same_rank = v.same_rank;
              agrees = v.moving.agrees;
              late = omega (arith, p, low');
              turn = λ same. absurd (apart (p ∙ same));
              left = λ y from o k. absurd (apart (ap (λ (z : RankState S). progress z) (get_once rs r x y at from) ∙ k));
            },
          )
        ]

  -- with a state for every number
  all_two : (r : ℕ) → (old : State) × (new : State) × (r < ranks dims → Two r old new)
  all_two r = elim (cases_lt r (ranks dims)) [
    | inl low ↦ let t = two r low in (t.0, t.1, λ _. t.2)
    | inr past ↦ (no_conveyor, no_conveyor, λ low. absurd (omega (arith, low, past)))
  ]

  sweep : IsRestingSweep dims cap slots e (λ r. (all_two r).0) (λ r. (all_two r).1) sent got
  sweep =
      record {
        grid = w.ranked.grid;
        links_keep = w.ranked.links_keep;
        same_dims = λ r low. ((all_two r).2 low).same_dims;
        same_rank = λ r low. ((all_two r).2 low).same_rank;
        agrees = λ r low. ((all_two r).2 low).agrees;
        least = λ r low. ((all_two r).2 low).late;
        turns = λ r low same. ((all_two r).2 low).turn same;
      }

  -- every rank is past the least epoch
  pub all_past : (r : ℕ) (x : RankState S) → slice_get rs r ≡ Some x → e + 1 ≤ progress x
  all_past r x at =
      let low : r < ranks dims = omega (arith, within rs r x at, w.ranked.all) in
      let least' = least r x at in
      elim (cases_eq (progress x) e) [
        | inl here ↦ by x.over refl here
        | inr apart ↦ omega (arith, least', apart)
      ] where
        by : (b : Bool) → x.over ≡ b → progress x ≡ e → e + 1 ≤ progress x
        by true over here =
            let last = (over_at_last R laws law dims cap slots (ByConveyor steady) starts h rs sent got w.ranked shape most n start rounds r x at over).0 in
            let p : progress x ≡ epoch_in x.node.mover + 1 = ap (λ b. cond b (epoch_in x.node.mover + 1) (epoch_in x.node.mover)) over in
            omega (arith, last, p, before)
        by false on here =
            let low : r < ranks dims = omega (arith, within rs r x at, w.ranked.all) in
            let t = ((all_two r).2 low).left x at on here in
            absurd (t.1 (rest dims cap slots e (λ k. (all_two k).0) (λ k. (all_two k).1) sent got sweep r low t.0))

-- the epochs of a run are few
pub epoch_few : {S : Type 0} (R : Rules S) → Laws R → ClosesLaws → (dims : List ℕ) (cap slots : ℕ) (manner : Manner) (starts : List S) (h : ℕ → ℕ → S) (rs : List (RankState S)) (sent got : Logs) → RanksOnBank R dims cap slots manner starts h rs sent got
    → (n : ℕ) → DrivePlan R dims slots starts n → (r : ℕ) (x : RankState S) → slice_get rs r ≡ Some x → epoch_in x.node.mover < 2 ^ 63
epoch_few R laws law dims cap slots manner starts h rs sent got w n p r x at =
    elim (cases_Bool x.over) [
      | inl t ↦ let e = (over_at_last R laws law dims cap slots manner starts h rs sent got w.ranked p.shape p.most n p.start p.rounds r x at t).0 in omega (arith, e, p.few)
      | inr f ↦ let e = still_within R laws law dims cap slots manner starts h rs sent got w.ranked p.shape p.most n p.start p.rounds r x at f in omega (arith, e, p.few)
    ]
