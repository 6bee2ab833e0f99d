-- What moves in a run: parcels are posted and collected, and entries taken from inboxes.
use Rattle.std.proofs.Common.{◌≡◌, ℕ, zero, suc, ◌+◌, ◌*◌, ◌<◌, ◌≤◌, Bool, List, length, Some, slice_get, All, refl, sym, ap, subst, ◌∙◌, arith, inl, inr}
use Rattle.std.proofs.lemmas.Bool.{cases_Bool}
use Rattle.std.proofs.Math.Nat.{mul-add, mul-le-mul_left}
use Rattle.bale_items.specs.declared.item.Entry.{Entry}
use Rattle.item_buffer.specs.Contents.{Shipped}
use Rattle.list_laws.specs.Sums.{total}
use Rattle.list_laws.proofs.Sums.{total_le, total_same, total_add, total_const, total_swap}
use Rattle.list_laws.proofs.Lists.{find}
use Rattle.route_tensor.specs.Grid.{ranks}
use Rattle.route_tensor.specs.Link.{links}
use Rattle.route_tensor.specs.Tag.{IsFair}
use Rattle.route_tensor.specs.Ends.{hop_at, sender_at}
use Rattle.port_bank.specs.Logs.{Logs, lasts, segment, starting_at}
use Rattle.port_bank.specs.Flow.{IsPrefix}
use Rattle.port_bank.specs.Relay.{HasFairTags}
use Rattle.port_bank.specs.Shapes.{IsConveyorShape}
use Rattle.port_bank.proofs.Fronts.{begins_shorter, begins_flat_map}
use Rattle.port_bank.proofs.Pipeline.{Keeps}
use Rattle.port_bank.proofs.Routes.{numbered}
use Rattle.rank_group.specs.Closes.{ClosesLaws}
use Rattle.convey.proofs.OneRank.{starting-own}
use Rattle.round_program.specs.Rules.{Rules}
use Rattle.round_program.specs.Laws.{Laws}
use Rattle.round_program.specs.Canonical.{HasRounds, InRound}
use Rattle.rank_node.specs.Movers.{epoch_in}
use Rattle.rank_node.specs.Movers.Manner.{ByConveyor}
use Rattle.rank_group.specs.Ranks.{RankState, HasRank}
use Rattle.rank_group.proofs.Movers.{lasts_low}
use Rattle.rank_group.proofs.Bounded.{all_flat, all_segment}
use Rattle.rank_group.proofs.Bounds.{pushed_all, none_past}
use Rattle.rank_group.proofs.Counted.{by_segments, pushed_in, all_links, log_short}
use Rattle.rank_group.proofs.Pushed.{items_before}
use Rattle.rank_group.proofs.Worlds.{Core, core, still_within, over_at_last}
use Rattle.rank_group.specs.BankLogs.{parcel_entries, moved_over}
use Rattle.rank_group.specs.RanksOverBank.{inbox, RanksOnBank, moves}

total_times : (n k : ℕ) (f : ℕ → ℕ) → total n (λ e. k * f e) ≡ k * total n f
total_times zero k f = omega arith
total_times (suc n) k f = ap (λ t. t + k * f n) (total_times n k f) ∙ sym (mul-add k (total n f) (f n))

module _ {S : Type 0} (R : Rules S) (laws : Laws R) (law : ClosesLaws) (dims : List ℕ) (cap slots : ℕ) (steady : Bool) (starts : List S) (h : ℕ → ℕ → S) (rs : List (RankState S)) (sent got : Logs) (w : RanksOnBank R dims cap slots (ByConveyor steady) starts h rs sent got)
    (shape : List ℕ) (most n : ℕ) (start : InRound R (ranks dims) 0 shape most starts) (rounds : HasRounds R starts n) where
  epoch_low : (s : ℕ) (x : RankState S) → slice_get rs s ≡ Some x → epoch_in x.node.mover < 2 * n
  epoch_low s x at = elim (cases_Bool x.over) [
    | inl t ↦ let e = (over_at_last R laws law dims cap slots (ByConveyor steady) starts h rs sent got w.ranked shape most n start rounds s x at t).0 in omega (arith, e)
    | inr f ↦ still_within R laws law dims cap slots (ByConveyor steady) starts h rs sent got w.ranked shape most n start rounds s x at f
  ]

  keeps : Keeps dims sent got
  keeps = record { grid = w.ranked.grid; fronts = λ l below. (w.ranked.links_keep l below).begins; relays = w.relays }

  fair : (l : ℕ) → l < links dims → All (HasFairTags dims (hop_at dims l)) (sent l)
  fair l below = let k = numbered dims l w.ranked.grid below in (w.relays (sender_at dims l) k.is_link.sender).fair l below refl

  fair_in : (e l : ℕ) → l < links dims → All (λ (x : Entry). IsFair dims (hop_at dims l) x.tag) (parcel_entries (segment e (sent l)))
  fair_in e l below = all_flat (λ (x : Entry). IsFair dims (hop_at dims l) x.tag) (λ (p : Shipped). p.entries) (segment e (sent l)) (all_segment (HasFairTags dims (hop_at dims l)) e (sent l) (fair l below))

  -- a link ends at most two epochs a round
  lasts_few : (l : ℕ) → l < links dims → lasts (sent l) ≤ 2 * n
  lasts_few l below =
      let k = numbered dims l w.ranked.grid below in
      let s : ℕ = sender_at dims l in
      let from : s < ranks dims = k.is_link.sender in
      let x : (x : RankState S) × (slice_get rs s ≡ Some x) = find rs s (omega (arith, from, w.ranked.all)) in
      let has : HasRank R dims cap (ByConveyor steady) s (h s) x.0 sent got = w.ranked.each s x.0 x.1 in
      let i : Core R dims s (h s) x.0 sent got = core R dims cap (ByConveyor steady) s (h s) x.0 sent got has in
      let few = lasts_low x.0.node.mover _ _ i.is.moving l (subst (λ ds. l < links ds) (sym has.same_dims) below) (ap (λ ds. sender_at ds l) has.same_dims ∙ sym has.same_rank) in
      let own : starting_at dims s sent l ≡ sent l = starting-own dims s sent l refl in
      let low = epoch_low s x.0 x.1 in
      omega (arith, ap lasts own, few, low)

  -- the entries that were sent
  sent_all : total (links dims) (λ l. length (parcel_entries (sent l))) ≤ length dims * items_before R (ranks dims) starts n
  sent_all =
      let E : ℕ = suc (2 * n) in
      let a = total_same (links dims) (λ l. length (parcel_entries (sent l))) (λ l. total E (λ e. length (parcel_entries (segment e (sent l))))) (λ l below. by_segments E (sent l) (let few = lasts_few l below in omega (arith, few))) in
      let b = total_swap (links dims) E (λ l e. length (parcel_entries (segment e (sent l)))) in
      let c = total_le E (λ e. total (links dims) (λ l. length (parcel_entries (segment e (sent l))))) (λ e. length dims * pushed_in dims sent e) (λ e low. all_links dims sent got keeps fair e (fair_in e)) in
      let d = total_times E (length dims) (pushed_in dims sent) in
      let p = pushed_all R laws law dims cap slots steady starts h rs sent got w shape most n start rounds in
      let q = none_past R laws law dims cap slots steady starts h rs sent got w shape most n start rounds in
      let r : total E (pushed_in dims sent) ≤ items_before R (ranks dims) starts n = omega (arith, p, q) in
      let t = mul-le-mul_left (length dims) r in
      omega (arith, a, b, c, d, t)

  -- all moves
  pub moves_few : moves dims rs sent got ≤ 3 * (length dims * items_before R (ranks dims) starts n) + links dims * (4 * n)
  moves_few =
      let a = total_le (links dims) (moved_over sent got (inbox dims rs)) (λ l. 3 * length (parcel_entries (sent l)) + 4 * n) one in
      let b = total_add (links dims) (λ l. 3 * length (parcel_entries (sent l))) (λ l. 4 * n) in
      let c = total_times (links dims) 3 (λ l. length (parcel_entries (sent l))) in
      let d = total_const (links dims) (4 * n) in
      omega (arith, a, b, c, d, sent_all) where
        one : (l : ℕ) → l < links dims → moved_over sent got (inbox dims rs) l ≤ 3 * length (parcel_entries (sent l)) + 4 * n
        one l below =
            let front : IsPrefix (got l) (sent l) = (w.ranked.links_keep l below).begins in
            let g = begins_shorter (got l) (sent l) front in
            let e = begins_shorter (parcel_entries (got l)) (parcel_entries (sent l)) (begins_flat_map (λ (p : Shipped). p.entries) (got l) (sent l) front) in
            let k = numbered dims l w.ranked.grid below in
            let x : (x : RankState S) × (slice_get rs (sender_at dims l) ≡ Some x) = find rs (sender_at dims l) (let from = k.is_link.sender in omega (arith, from, w.ranked.all)) in
            let s = log_short steady cap (sent l) w.some (subst (IsConveyorShape steady cap) (starting-own dims (sender_at dims l) sent l refl) ((w.ranked.each (sender_at dims l) x.0 x.1).shape l below refl)) in
            let f = lasts_few l below in
            omega (arith, g, e, s, f)
