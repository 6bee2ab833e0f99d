-- What the closed round of one way tells, once all ranks are complete.
use Rattle.std.proofs.Common.{◌≡◌, ℕ, ◌<◌, Bool, true, cond, List, [], length, refl, sym, ap, subst, ◌∙◌, arith, inl, inr}
use Rattle.std.proofs.lemmas.Bool.{cases_lt, lt-ltb}
use Rattle.bale_items.specs.declared.item.Item.{Item}
use Rattle.route_tensor.specs.Grid.{ranks, IsGrid}
use Rattle.route_tensor.specs.Link.{links}
use Rattle.route_tensor.specs.Ends.{sender_at, reader_at}
use Rattle.port_bank.specs.Logs.{Logs, lasts, segment, starting_at, ending_at, EndsLast, lasts_in}
use Rattle.port_bank.specs.Flow.{hop_link, flow, passing_items}
use Rattle.port_bank.specs.Link.{LinkLaw}
use Rattle.port_bank.specs.Round.{Round, CloseLaw, logs_of, pushed_items, pulled_items}
use Rattle.port_bank.specs.Shapes.{IsConveyorShape}
use Rattle.port_bank.proofs.Routes.{numbered}
use Rattle.route_tensor.specs.Pair.{belongs}
use Rattle.hop_core.specs.State.{State}
use Rattle.convey.specs.Buffers.{buffers_of, out_of, in_of, is_complete}
use Rattle.convey.specs.Conveyors.{AgreesWith}
use Rattle.convey.specs.Law.{IsSound}
use Rattle.convey.specs.Parts.{part_of, pushed_to}
use Rattle.convey.proofs.OneRank.{OneRank, one_rank_of, first_link, last_link, starting-own, ending-own}
use Rattle.rank_group.specs.Transcript.{BankShape}
use Rattle.biconvey.specs.Drives.{RecordsOneWay}
use Rattle.port_bank.proofs.Marks.{none_after, all_got}

-- a conveyor that is complete in its first epoch
pub record IsDone (dims : List ℕ) (r : ℕ) (c : State) (sent got : Logs) : Type 0 where
  pub same_dims : c.dims ≡ dims
  pub same_rank : c.rank ≡ r
  pub first : c.epoch ≡ 0
  pub full : is_complete c.phase ≡ true
  pub sound : IsSound (buffers_of c)
  pub agrees : AgreesWith c (starting_at dims r sent) (ending_at dims r got)

module _ (round : Round) (cap slots : ℕ) (steady : Bool) (cs : ℕ → State) (grid : IsGrid round.dims) (keep : (l : ℕ) → l < links round.dims → LinkLaw cap slots (logs_of round.sent l) (logs_of round.got l)) (close : CloseLaw round)
    (shape : (l : ℕ) → l < links round.dims → IsConveyorShape steady cap (logs_of round.sent l)) (each : (r : ℕ) → r < ranks round.dims → IsDone round.dims r (cs r) (logs_of round.sent) (logs_of round.got)) where
  abbrev dims : List ℕ
  dims = round.dims

  abbrev sent : Logs
  sent = logs_of round.sent

  abbrev got : Logs
  got = logs_of round.got

  -- each link has ended its epoch, at its sender
  record Out (l : ℕ) : Type 0 where
    ended : lasts (sent l) ≡ 1
    by_last : EndsLast (sent l)

  out : (l : ℕ) → l < links dims → Out l
  out l below =
      let s : ℕ = sender_at dims l in
      let k = numbered dims l grid below in
      let t = each s k.is_link.sender in
      let low : l < links (cs s).dims = subst (λ ds. l < links ds) (sym t.same_dims) below in
      let from : sender_at (cs s).dims l ≡ (cs s).rank = ap (λ ds. sender_at ds l) t.same_dims ∙ sym t.same_rank in
      let o = t.agrees.outs l low from in
      let closed : (out_of (cs s) l).closed ≡ true = t.sound.all_closed t.full l low from in
      let own : starting_at dims s sent l ≡ sent l = starting-own dims s sent l refl in
      record {
        ended = sym (ap lasts own) ∙ (o.lasts ∙ (ap (λ e. lasts_in e (out_of (cs s) l).closed) t.first ∙ ap (lasts_in 0) closed));
        by_last = subst EndsLast own (o.by_last closed);
      }

  -- and at its reader
  got_all : (l : ℕ) → l < links dims → lasts (got l) ≡ 1
  got_all l below =
      let r : ℕ = reader_at dims l in
      let k = numbered dims l grid below in
      let t = each r k.is_link.reader in
      let low : l < links (cs r).dims = subst (λ ds. l < links ds) (sym t.same_dims) below in
      let to : reader_at (cs r).dims l ≡ (cs r).rank = ap (λ ds. reader_at ds l) t.same_dims ∙ sym t.same_rank in
      let i = t.agrees.ins l low to in
      let ended : (in_of (cs r) l).ended ≡ true = t.sound.all_ended t.full l low to in
      let own : ending_at dims r got l ≡ got l = ending-own dims r got l refl in
      sym (ap lasts own) ∙ (i.lasts ∙ (ap (λ e. lasts_in e (in_of (cs r) l).ended) t.first ∙ ap (lasts_in 0) ended))

  collected : (l : ℕ) → l < links dims → got l ≡ sent l
  collected l below = let o = out l below in all_got (got l) (sent l) (keep l below).begins o.by_last (got_all l below ∙ sym o.ended)

  -- what a rank pushed is what it sent on hop 1
  pushed_part : (s d : ℕ) → s < ranks dims → d < ranks dims → pushed_items round 0 s d ≡ (part_of (buffers_of (cs s)) (starting_at dims s sent) (ending_at dims s got)).pushed 0 d
  pushed_part s d from to =
      let t = each s from in
      let c : State = cs s in
      let one : OneRank dims s (buffers_of c) sent got = one_rank_of dims s (buffers_of c) sent got t.same_dims t.same_rank grid from t.sound t.agrees in
      let link = first_link dims s d grid from to in
      let o = out (hop_link dims s d 1) link.below in
      let sends : pushed_to (buffers_of c) (starting_at dims s sent) 0 d ≡ flow dims sent s d 1 0 = one.pushed_ended 0 d to (omega (arith, o.ended)) in
      let to' : d < ranks c.dims = subst (λ ds. d < ranks ds) (sym t.same_dims) to in
      let part : (part_of (buffers_of c) (starting_at dims s sent) (ending_at dims s got)).pushed 0 d ≡ pushed_to (buffers_of c) (starting_at dims s sent) 0 d =
      ap (λ b. cond b (pushed_to (buffers_of c) (starting_at dims s sent) 0 d) []) (lt-ltb d (ranks c.dims) to') in
      sym (part ∙ sends)

  all_came : (e s d : ℕ) → s < ranks dims → d < ranks dims → pulled_items round e d s ≡ pushed_items round e s d
  all_came e s d from to =
      let first : ℕ = hop_link dims s d 1 in
      let last : ℕ = hop_link dims s d (length dims) in
      let in_first = (first_link dims s d grid from to).below in
      let in_last = (last_link dims s d grid from to).below in
      elim (cases_lt e 1) [
        | inl low ↦ close.ended e s d from to (let a = got_all last in_last in omega (arith, low, a))
        | inr past ↦
            let a = out first in_first in
            let b = out last in_last in
            let sent_none : segment e (sent first) ≡ [] = none_after e (sent first) a.by_last (omega (arith, past, a.ended)) in
            let got_none : segment e (got last) ≡ [] = ap (segment e) (collected last in_last) ∙ none_after e (sent last) b.by_last (omega (arith, past, b.ended)) in
            ap (passing_items (belongs dims s d (length dims))) got_none ∙ sym (ap (passing_items (belongs dims s d 1)) sent_none)
      ]

  pub tells_way : (made : BankShape) (items : ℕ → ℕ → List Item) → record { dims = round.dims; cap = round.cap; slots = round.slots; by_slots = round.by_slots } ≡ made → round.cap ≡ cap
      → ((s d : ℕ) → s < ranks round.dims → d < ranks round.dims → (part_of (buffers_of (cs s)) (starting_at round.dims s (logs_of round.sent)) (ending_at round.dims s (logs_of round.got))).pushed 0 d ≡ items s d) → RecordsOneWay made steady items round
  tells_way made items is same pushes =
      record {
        bank = is;
        ended = λ l below. (out l below).ended;
        by_last = λ l below. (out l below).by_last;
        collected = collected;
        pushed_all = λ s d from to. pushed_part s d from to ∙ pushes s d from to;
        all_came = all_came;
        shape = λ l below. subst (λ k. IsConveyorShape steady k (sent l)) (sym same) (shape l below);
      }
