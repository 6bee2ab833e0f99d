-- What is left of the bank tells the run, where no epoch follows for any rank.
use Rattle.std.proofs.Common.{◌≡◌, ℕ, ◌+◌, ◌*◌, ◌<◌, true, cond, List, [], length, slice_get, Some, refl, sym, ap, subst, ◌∙◌, arith, inl, inr}
use Rattle.std.proofs.lemmas.Bool.{cases_lt}
use Rattle.list_laws.proofs.Lists.{find}
use Rattle.route_tensor.specs.Grid.{ranks}
use Rattle.route_tensor.specs.Link.{links}
use Rattle.route_tensor.specs.Ends.{sender_at, reader_at}
use Rattle.port_bank.specs.Logs.{Logs, lasts, segment, starting_at, ending_at, EndsLast}
use Rattle.port_bank.specs.Flow.{hop_link, belongs, passing_items}
use Rattle.port_bank.specs.Round.{Round, logs_of, pushed_items, pulled_items, CloseLaw}
use Rattle.port_bank.proofs.Routes.{numbered}
use Rattle.port_bank.proofs.Marks.{none_after, all_got}
use Rattle.rank_group.specs.Closes.{ClosesLaws}
use Rattle.convey.proofs.OneRank.{starting-own, first_link, last_link}
use Rattle.round_program.specs.Rules.{Rules}
use Rattle.round_program.specs.Laws.{Laws}
use Rattle.round_program.specs.Canonical.{emitted_of, emitted_by, absorbed_round, states_at, HasRounds, InRound}
use Rattle.round_program.specs.Epochs.{IsCanonical}
use Rattle.rank_node.specs.Movers.{Manner, IsLogShape, epoch_in, part_in}
use Rattle.rank_node.specs.Next.{HasStopped}
use Rattle.rank_group.specs.Ranks.{RankState, HasRank, AllRanks}
use Rattle.rank_node.specs.Runs.{part_lists}
use Rattle.rank_group.specs.Transcript.{BankShape, RecordsRun, vote_sent}
use Rattle.rank_group.proofs.Worlds.{canonical, over_at_last}
use Rattle.rank_group.specs.RanksOverBank.{progress_in, history_in, mover_in, part_at}
use Rattle.rank_group.proofs.Movers.{Completed, completed}

module _ {S : Type 0} (R : Rules S) (laws : Laws R) (law : ClosesLaws) (round : Round) (cap slots : ℕ) (manner : Manner) (starts : List S) (h : ℕ → ℕ → S) (rs : List (RankState S))
    (w : AllRanks R round.dims cap slots manner starts h rs (logs_of round.sent) (logs_of round.got)) (close : CloseLaw round) (over : (r : ℕ) (x : RankState S) → slice_get rs r ≡ Some x → x.over ≡ true)
    (shape : List ℕ) (most n : ℕ) (start : InRound R (ranks round.dims) 0 shape most starts) (rounds : HasRounds R starts n) where
  abbrev dims : List ℕ
  dims = round.dims

  abbrev sent : Logs
  sent = logs_of round.sent

  abbrev got : Logs
  got = logs_of round.got

  -- a rank whose run is over
  record Stopped (r : ℕ) : Type 0 where
    x : RankState S
    at : slice_get rs r ≡ Some x
    last : epoch_in x.node.mover + 1 ≡ 2 * n
    whole : Completed dims r x.node.mover sent got
    shaped : (l : ℕ) → l < links dims → sender_at dims l ≡ r → IsLogShape manner cap (starting_at dims r sent l)

  stopped : (r : ℕ) → r < ranks dims → Stopped r
  stopped r low =
      let x : (x : RankState S) × (slice_get rs r ≡ Some x) = find rs r (omega (arith, low, w.all)) in
      let o = over r x.0 x.1 in
      let has : HasRank R dims cap manner r (h r) x.0 sent got = w.each r x.0 x.1 in
      let is : HasStopped R (h r) x.0.node (starting_at dims r sent) (ending_at dims r got) = has.stopped o in
      record {
        x = x.0;
        at = x.1;
        last = (over_at_last R laws law dims cap slots manner starts h rs sent got w shape most n start rounds r x.0 x.1 o).0;
        whole = completed dims r x.0.node.mover sent got w.grid low has.same_dims has.same_rank is.node.moving is.complete;
        shaped = has.shape;
      }

  -- each link has ended all epochs, at its sender
  record Out (l : ℕ) : Type 0 where
    ended : lasts (sent l) ≡ 2 * n
    by_last : EndsLast (sent l)
    shaped : IsLogShape manner cap (sent l)

  out : (l : ℕ) → l < links dims → Out l
  out l below =
      let s : ℕ = sender_at dims l in
      let k = numbered dims l w.grid below in
      let t = stopped s k.is_link.sender in
      record {
        ended = t.whole.out_lasts l below refl ∙ t.last;
        by_last = t.whole.out_by_last l below refl;
        shaped = subst (IsLogShape manner cap) (starting-own dims s sent l refl) (t.shaped l below refl);
      }

  -- and at its reader
  got_all : (l : ℕ) → l < links dims → lasts (got l) ≡ 2 * n
  got_all l below =
      let r : ℕ = reader_at dims l in
      let k = numbered dims l w.grid below in
      let t = stopped r k.is_link.reader in
      t.whole.in_lasts l below refl ∙ t.last

  collected : (l : ℕ) → l < links dims → got l ≡ sent l
  collected l below = let o = out l below in all_got (got l) (sent l) (w.links_keep l below).begins o.by_last (got_all l below ∙ sym o.ended)

  -- what a rank pushed in an epoch is what it sent on hop 1
  pushed_part : (e s d : ℕ) → e < 2 * n → s < ranks dims → d < ranks dims → pushed_items round e s d ≡ (part_at dims rs sent got s).pushed e d
  pushed_part e s d low from to =
      let t = stopped s from in
      sym (ap (λ o. (part_in (mover_in o) (starting_at dims s sent) (ending_at dims s got)).pushed e d) t.at ∙ t.whole.pushed e d to (omega (arith, low, t.last)))

  run : IsCanonical R (ranks dims) starts (λ r. progress_in (slice_get rs r)) (λ r. history_in (h r) (slice_get rs r)) (λ r. part_lists (part_at dims rs sent got r))
  run = canonical R laws law dims cap slots manner starts h rs sent got w shape most start

  all_rounds : (r : ℕ) → r < ranks dims → progress_in (slice_get rs r) ≡ 2 * n
  all_rounds r low =
      let t = stopped r low in
      ap progress_in t.at ∙ (ap (λ b. cond b (epoch_in t.x.node.mover + 1) (epoch_in t.x.node.mover)) (over r t.x t.at) ∙ t.last)

  work : (m s d : ℕ) → m < n → s < ranks dims → d < ranks dims → pushed_items round (2 * m) s d ≡ emitted_by R (states_at R starts m) d s
  work m s d low from to =
      let full = all_rounds s from in
      let state = run.states s m from (omega (arith, full, low)) in
      pushed_part (2 * m) s d (omega (arith, low)) from to ∙ (run.pushed s s d m from from to (omega (arith, full, low)) ∙ ap (λ o. emitted_of R o d) (sym state))

  votes : (m s d : ℕ) → m < n → s < ranks dims → d < ranks dims → pushed_items round (2 * m + 1) s d ≡ vote_sent R (slice_get (absorbed_round R (states_at R starts m)) s)
  votes m s d low from to =
      let full = all_rounds s from in
      let state = run.absorbed s s m from from (omega (arith, full, low)) in
      pushed_part (2 * m + 1) s d (omega (arith, low)) from to ∙ (run.votes s s d m from from to (omega (arith, full, low)) ∙ ap (vote_sent R) (sym state))

  all_came : (e s d : ℕ) → s < ranks dims → d < ranks dims → pulled_items round e d s ≡ pushed_items round e s d
  all_came e s d from to =
      let first : ℕ = hop_link dims s d 1 in
      let last : ℕ = hop_link dims s d (length dims) in
      let in_first = (first_link dims s d w.grid from to).below in
      let in_last = (last_link dims s d w.grid from to).below in
      elim (cases_lt e (2 * n)) [
        | inl low ↦ close.ended e s d from to (let a = got_all last in_last in omega (arith, low, a))
        | inr past ↦
            let a = out first in_first in
            let b = out last in_last in
            let sent_none : segment e (sent first) ≡ [] = none_after e (sent first) a.by_last (omega (arith, past, a.ended)) in
            let got_none : segment e (got last) ≡ [] = ap (segment e) (collected last in_last) ∙ none_after e (sent last) b.by_last (omega (arith, past, b.ended)) in
            ap (passing_items (belongs dims s d (length dims))) got_none ∙ sym (ap (passing_items (belongs dims s d 1)) sent_none)
      ]

  pub tells_run : (made : BankShape) → record { dims = round.dims; cap = round.cap; slots = round.slots; by_slots = round.by_slots } ≡ made → round.cap ≡ cap → RecordsRun R starts n made manner round
  tells_run made is same =
      record {
        bank = is;
        ended = λ l below. (out l below).ended;
        by_last = λ l below. (out l below).by_last;
        collected = collected;
        work = work;
        votes = votes;
        all_came = all_came;
        shape = λ l below. subst (λ k. IsLogShape manner k (sent l)) (sym same) (out l below).shaped;
      }
