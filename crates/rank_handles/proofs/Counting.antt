-- What is counted of a buffer that is sent or received.
use Rattle.std.proofs.Common.{◌≡◌, ◌≢◌, ℕ, ◌+◌, ◌-◌, ◌^◌, ◌<◌, ◌==◌, min, Bool, true, false, cond, List, [], ◌∷◌, ◌++◌, length, length-append, refl, sym, ap, ◌∙◌, arith}
use Rattle.std.proofs.lemmas.Bool.{eq-eqb, ne_eqb}
use Rattle.std.proofs.lemmas.List.Sums.{sum_by_push}
use Rattle.list_laws.specs.Counts.{saturated_count}
use Rattle.list_laws.specs.Sums.{total}
use Rattle.list_laws.proofs.Sums.{total_one, total_zero}
use Rattle.item_buffer.specs.Contents.{Shipped}
use Rattle.route_tensor.specs.Link.{links}
use Rattle.port_bank.specs.Logs.{Logs, with_parcel}
use Rattle.link_slots.specs.SeatView.{SeatView, posted_on, collected_from}
use Rattle.rank_handles.specs.Statistics.{buffers_in, log_items, items_in, statistics_on, no_statistics, sent_one, received_one}

-- the logs with one buffer more, at its link and at another
here : (logs : Logs) (l : ℕ) (p : Shipped) → with_parcel logs l p l ≡ logs l ++ p ∷ []
here logs l p = ap (λ (b : Bool). cond b (logs l ++ p ∷ []) (logs l)) (eq-eqb l l refl)

elsewhere : (logs : Logs) (l k : ℕ) (p : Shipped) → k ≢ l → logs k ≡ with_parcel logs l p k
elsewhere logs l k p other = ap (λ (b : Bool). cond b (logs k ++ p ∷ []) (logs k)) (sym (ne_eqb k l other))

-- a sum over the links, with one buffer more
more : (n l : ℕ) (logs : Logs) (p : Shipped) (f : List Shipped → ℕ) → l < n
    → total n (λ k. f (with_parcel logs l p k)) + f (logs l) ≡ total n (λ k. f (logs k)) + f (logs l ++ p ∷ [])
more n l logs p f less =
    total_one n (λ k. f (logs k)) (λ k. f (with_parcel logs l p k)) l less (λ k other. ap f (elsewhere logs l k p other))
    ∙ ap (λ (log : List Shipped). total n (λ k. f (logs k)) + f log) (here logs l p)

buffers_more : (n l : ℕ) (logs : Logs) (p : Shipped) → l < n → buffers_in n (with_parcel logs l p) ≡ buffers_in n logs + 1
buffers_more n l logs p less = omega (arith, more n l logs p length less, length-append (logs l) (p ∷ []))

items_more : (n l : ℕ) (logs : Logs) (p : Shipped) → l < n → items_in n (with_parcel logs l p) ≡ items_in n logs + length p.entries
items_more n l logs p less =
    let one : log_items (logs l ++ p ∷ []) ≡ log_items (logs l) + length p.entries = sum_by_push (λ (q : Shipped). length q.entries) (logs l) p in
    omega (arith, more n l logs p log_items less, one)

-- a counter that stays at its last number
saturated : (c n k : ℕ) → min (min n c + k) c ≡ min (n + k) c
saturated c n k = omega arith

counts : (n k m : ℕ) → m ≡ n + k → saturated_count (saturated_count n + k) ≡ saturated_count m
counts n k m is = saturated (2 ^ 64 - 1) n k ∙ ap saturated_count (sym is)

-- nothing moved
pub statistics_same : (s t : SeatView) → t.shape.dims ≡ s.shape.dims → posted_on t ≡ posted_on s → collected_from t ≡ collected_from s → statistics_on s ≡ statistics_on t
unfolding statistics_on
statistics_same s t dims sent got = λ k. record {
  buffers_sent = saturated_count (buffers_in (links (sym dims k)) (sym sent k));
  items_sent = saturated_count (items_in (links (sym dims k)) (sym sent k));
  buffers_received = saturated_count (buffers_in (links (sym dims k)) (sym got k));
  items_received = saturated_count (items_in (links (sym dims k)) (sym got k));
}

-- a buffer was sent
pub statistics_sent : (s t : SeatView) (l : ℕ) (p : Shipped) → l < links s.shape.dims → t.shape.dims ≡ s.shape.dims → posted_on t ≡ with_parcel (posted_on s) l p
    → collected_from t ≡ collected_from s → sent_one (length p.entries) (statistics_on s) ≡ statistics_on t
unfolding statistics_on
statistics_sent s t l p less dims sent got =
    let n = links s.shape.dims in
    let b = counts (buffers_in n (posted_on s)) 1 (buffers_in n (with_parcel (posted_on s) l p)) (buffers_more n l (posted_on s) p less) ∙ (λ k. saturated_count (buffers_in (links (sym dims k)) (sym sent k))) in
    let i = counts (items_in n (posted_on s)) (length p.entries) (items_in n (with_parcel (posted_on s) l p)) (items_more n l (posted_on s) p less) ∙ (λ k. saturated_count (items_in (links (sym dims k)) (sym sent k))) in
    λ k. record {
      buffers_sent = b k;
      items_sent = i k;
      buffers_received = saturated_count (buffers_in (links (sym dims k)) (sym got k));
      items_received = saturated_count (items_in (links (sym dims k)) (sym got k));
    }

-- a buffer was received
pub statistics_received : (s t : SeatView) (l : ℕ) (p : Shipped) → l < links s.shape.dims → t.shape.dims ≡ s.shape.dims → posted_on t ≡ posted_on s
    → collected_from t ≡ with_parcel (collected_from s) l p → received_one (length p.entries) (statistics_on s) ≡ statistics_on t
unfolding statistics_on
statistics_received s t l p less dims sent got =
    let n = links s.shape.dims in
    let b = counts (buffers_in n (collected_from s)) 1 (buffers_in n (with_parcel (collected_from s) l p)) (buffers_more n l (collected_from s) p less) ∙ (λ k. saturated_count (buffers_in (links (sym dims k)) (sym got k))) in
    let i = counts (items_in n (collected_from s)) (length p.entries) (items_in n (with_parcel (collected_from s) l p)) (items_more n l (collected_from s) p less) ∙ (λ k. saturated_count (items_in (links (sym dims k)) (sym got k))) in
    λ k. record {
      buffers_sent = saturated_count (buffers_in (links (sym dims k)) (sym sent k));
      items_sent = saturated_count (items_in (links (sym dims k)) (sym sent k));
      buffers_received = b k;
      items_received = i k;
    }

-- a rank that sent and received nothing
pub statistics_none : (s : SeatView) → posted_on s ≡ (λ l. []) → collected_from s ≡ (λ l. []) → no_statistics ≡ statistics_on s
unfolding statistics_on
statistics_none s sent got =
    let n = links s.shape.dims in
    let none : 0 ≡ saturated_count (total n (λ l. 0)) = ap saturated_count (sym (total_zero n (λ l. 0) (λ k less. refl))) in
    λ k. record {
      buffers_sent = (none ∙ (λ m. saturated_count (buffers_in n (sym sent m)))) k;
      items_sent = (none ∙ (λ m. saturated_count (items_in n (sym sent m)))) k;
      buffers_received = (none ∙ (λ m. saturated_count (buffers_in n (sym got m)))) k;
      items_received = (none ∙ (λ m. saturated_count (items_in n (sym got m)))) k;
    }
