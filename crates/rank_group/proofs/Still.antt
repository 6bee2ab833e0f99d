-- A rank that its turn left where it is, over a bank: what its links say of those that it waits
-- for.
use Rattle.std.proofs.Common.{◌≡◌, ◌⊎◌, ℕ, ◌+◌, ◌<◌, ◌≤◌, true, List, [], length, Some, slice_get, sym, ap, subst, ◌∙◌, arith, eqb-true}
use Rattle.bale_items.specs.declared.item.Entry.{Entry}
use Rattle.route_tensor.specs.Link.{links}
use Rattle.route_tensor.specs.Ends.{hop_at, sender_at, reader_at}
use Rattle.port_bank.specs.Logs.{Logs, starting_at, ending_at}
use Rattle.hop_core.specs.State.{State}
use Rattle.convey.specs.Buffers.{in_of}
use Rattle.convey.specs.Due.{NextIs, next_link}
use Rattle.convey.specs.Rest.{IsBusy, HasBusy, IsAtRest}
use Rattle.convey.proofs.OneRank.{starting-own, ending-own}
use Rattle.rank_node.specs.Stuck.{HasCrowded, IsStill}
use Rattle.rank_group.specs.Ranks.{crowded_in, idle_in}

module _ (dims : List ℕ) (slots r : ℕ) (c c' : State) (sent got : Logs) (some : 0 < slots) (same_dims : c.dims ≡ dims) (same_rank : c.rank ≡ r)
    (s : IsStill c c' (starting_at dims r sent) (ending_at dims r got) (starting_at dims r sent) (ending_at dims r got) (crowded_in dims slots r sent got) (idle_in dims r sent got))
    (kept : (l : ℕ) → l < links dims → reader_at dims l ≡ r → length (in_of c l).parcel.untaken ≤ length (in_of c' l).parcel.untaken) where
  pub below : (l : ℕ) → l < links dims → l < links c.dims
  below l b = subst (λ ds. l < links ds) (sym same_dims) b

  pub reader : (l : ℕ) → reader_at dims l ≡ r → reader_at c.dims l ≡ c.rank
  reader l e = subst (λ ds. reader_at ds l ≡ c.rank) (sym same_dims) (e ∙ sym same_rank)

  pub sender : (l : ℕ) → sender_at dims l ≡ r → sender_at c.dims l ≡ c.rank
  sender l e = subst (λ ds. sender_at ds l ≡ c.rank) (sym same_dims) (e ∙ sym same_rank)

  -- a crowded link has parcels on their way
  pub busy_from : (l : ℕ) → sender_at dims l ≡ r → crowded_in dims slots r sent got l ≡ true → IsBusy sent got l
  busy_from l from full =
      let e : length (starting_at dims r sent l) ≡ length (got l) + slots = eqb-true (length (starting_at dims r sent l)) (length (got l) + slots) full in
      omega (arith, e, ap length (starting-own dims r sent l from), some)

  pub busy_of : HasCrowded c.dims c.rank (crowded_in dims slots r sent got) → HasBusy dims r sent got
  busy_of x =
      let from : sender_at dims x.link ≡ r = subst (λ ds. sender_at ds x.link ≡ r) same_dims (x.sender ∙ same_rank) in
      record { link = x.link; below = subst (λ ds. x.link < links ds) same_dims x.below; sender = from; busy = busy_from x.link from x.crowded }

  -- of an inbox nothing was taken
  pub kept_all : (l : ℕ) → l < links dims → reader_at dims l ≡ r → length (in_of s.before l).parcel.untaken ≤ length (in_of s.after l).parcel.untaken
  kept_all l b e = omega (arith, ap length (s.ins_before l), kept l b e, s.ins_after l)

  pub all_got : (l : ℕ) → reader_at dims l ≡ r → idle_in dims r sent got l ≡ true → length (got l) ≡ length (sent l)
  all_got l e i =
      let same : length (ending_at dims r got l) ≡ length (sent l) = eqb-true (length (ending_at dims r got l)) (length (sent l)) i in
      omega (arith, same, ap length (ending-own dims r got l e))

  pub next_busy : (l : ℕ) (e : Entry) → l < links dims → reader_at dims l ≡ r → hop_at dims l < length dims → slice_get (in_of s.after l).parcel.untaken 0 ≡ Some e → NextIs dims r l e.tag (IsBusy sent got)
  next_busy l y b e o first' =
      let next = s.stopped l y (below l b) (reader l e) (subst (λ ds. hop_at ds l < length ds) (sym same_dims) o) first' in
      let here : NextIs dims r l y.tag (λ m. crowded_in dims slots r sent got m ≡ true) =
      subst (λ ds. NextIs ds r l y.tag (λ m. crowded_in dims slots r sent got m ≡ true)) same_dims (subst (λ k. NextIs c.dims k l y.tag (λ m. crowded_in dims slots r sent got m ≡ true)) same_rank next) in
      record { below = here.below; sender = here.sender; hop = here.hop; holds = busy_from (next_link dims r (hop_at dims l) y.tag) here.sender here.holds }

  pub without_latest : (s.after.done ≡ true) ⊎ HasBusy dims r sent got → ((l : ℕ) → l < links dims → reader_at dims l ≡ r → hop_at dims l ≡ length dims → (in_of s.before l).parcel.untaken ≡ [])
      → IsAtRest dims r s.before s.after sent got
  without_latest pushed read = record {
    same_dims = s.dims_after;
    same_rank = s.rank_after;
    same_epoch = s.epoch_after;
    agrees = s.agrees_before;
    pushed = pushed;
    read = read;
    lies = λ l b e. s.lies l (below l b) (reader l e);
    kept = λ l b e o. kept_all l b e;
    idle = λ l b e w. all_got l e (s.idle l (below l b) (reader l e) w);
    stopped = next_busy;
    closing = λ l b e hop arrived open'. busy_from l e (s.closing l (below l b) (sender l e) (λ o. hop (subst (λ ds. hop_at ds l ≡ 1) same_dims o)) arrived open');
  }
