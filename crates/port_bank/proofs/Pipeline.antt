-- Over all hops of a route a pair's items arrive in order, and all of them where the epoch was
-- ended.
--
-- On each hop the reader's flow is a prefix of the sender's, since what was collected is the front
-- of what was posted; and at each rank between two hops the flow sent on is a prefix of the flow
-- got, by the relay law. Where the last link has ended an epoch, its sender had got the end of that
-- epoch on the hop before, and so on back to the first hop: there every front is the whole.
use Rattle.std.proofs.Common.{◌≡◌, ℕ, zero, suc, ◌+◌, ◌-◌, ◌<◌, ◌≤◌, List, length, refl, sym, ap, subst, ◌∙◌, arith}
use Rattle.route_tensor.specs.Grid.{ranks, place, IsGrid}
use Rattle.route_tensor.specs.Link.{links}
use Rattle.route_tensor.proofs.Coordinates.{place_below}
use Rattle.port_bank.specs.Logs.{Logs, lasts}
use Rattle.port_bank.specs.Flow.{hop_link, flow}
use Rattle.list_laws.specs.Lists.{IsPrefix}
use Rattle.port_bank.specs.Relay.{RelayLaw}
use Rattle.route_tensor.specs.Pair.{PassesThrough}
use Rattle.port_bank.proofs.Fronts.{begins_trans}
use Rattle.port_bank.proofs.Segments.{lasts_begins}
use Rattle.port_bank.proofs.Kept.{flow_begins, flow_same, between}
use Rattle.port_bank.proofs.Routes.{link-on_route}

-- A bank whose links and ranks keep their laws: what is collected of a link is a prefix of what is
-- posted on it, and each rank's own logs meet the relay law.
pub record Keeps (dims : List ℕ) (sent got : Logs) : Type 0 where
  pub grid : IsGrid dims
  pub fronts : (l : ℕ) → l < links dims → IsPrefix (got l) (sent l)
  pub relays : (r : ℕ) → r < ranks dims → RelayLaw dims r sent got

module _ (dims : List ℕ) (sent got : Logs) (k : Keeps dims sent got) (s d e : ℕ) (from : s < ranks dims) (to : d < ranks dims) where
  -- the rank after hop h relays the pair
  relays_at : (h : ℕ) → 1 ≤ h → h < length dims → PassesThrough dims (place dims s d h) s d h
  relays_at h first last = record { sender = from; destination = to; first_hop = first; last_hop = last; here = refl }

  rank_at : (h : ℕ) → place dims s d h < ranks dims
  rank_at h = place_below dims s d h k.grid.positive from to

  front_at : (h : ℕ) → 1 ≤ h → h ≤ length dims → IsPrefix (got (hop_link dims s d h)) (sent (hop_link dims s d h))
  front_at h first last = k.fronts (hop_link dims s d h) (link-on_route dims s d h k.grid from to first last)

  -- over one hop and the rank before it
  one_more : (h : ℕ) → 1 ≤ h → h < length dims → IsPrefix (flow dims got s d (h + 1) e) (flow dims got s d h e)
  one_more h first last =
      begins_trans _ _ _ (flow_begins dims got sent s d (h + 1) e (front_at (h + 1) (omega arith) (omega arith)))
      ((k.relays (place dims s d h) (rank_at h)).begins s d h e (relays_at h first last))

  -- where the next hop has ended the epoch, this hop had, and passed on all
  one_whole : (h : ℕ) → 1 ≤ h → h < length dims → e < lasts (got (hop_link dims s d (h + 1)))
      → (e < lasts (got (hop_link dims s d h))) × (flow dims got s d (h + 1) e ≡ flow dims got s d h e)
  one_whole h first last ended =
      let law = k.relays (place dims s d h) (rank_at h) in
      let b = between dims (place dims s d h) s d h k.grid (relays_at h first last) in
      let front = front_at (h + 1) (omega arith) (omega arith) in
      let sent_all : e < lasts (sent (hop_link dims s d (h + 1))) = omega (arith, ended, lasts_begins _ _ front) in (
        law.closed _ _ e b.leaves b.comes b.from b.to b.next sent_all,
        sym (flow_same dims got sent s d (h + 1) e front ended) ∙ law.whole s d h e (relays_at h first last) sent_all,
      )

  arrived : (n : ℕ) → suc n ≤ length dims → IsPrefix (flow dims got s d (suc n) e) (flow dims sent s d 1 e)
  arrived zero last = flow_begins dims got sent s d 1 e (front_at 1 (omega arith) last)
  arrived (suc n) last =
      let next : suc n + 1 ≡ suc (suc n) = omega arith in
      begins_trans _ _ _ (subst (λ m. IsPrefix (flow dims got s d m e) (flow dims got s d (suc n) e)) next (one_more (suc n) (omega arith) (omega arith))) (arrived n (omega arith))

  arrived_all : (n : ℕ) → suc n ≤ length dims → e < lasts (got (hop_link dims s d (suc n))) → flow dims got s d (suc n) e ≡ flow dims sent s d 1 e
  arrived_all zero last ended = sym (flow_same dims got sent s d 1 e (front_at 1 (omega arith) last) ended)
  arrived_all (suc n) last ended =
      let next : suc n + 1 ≡ suc (suc n) = omega arith in
      let w = one_whole (suc n) (omega arith) (omega arith) (subst (λ m. e < lasts (got (hop_link dims s d m))) (sym next) ended) in
      ap (λ m. flow dims got s d m e) (sym next) ∙ (w.1 ∙ arrived_all n (omega arith) w.0)

  -- over the whole route
  last_hop : suc (length dims - 1) ≡ length dims
  last_hop = let some = k.grid.some in omega arith

  pub arrives_in_order : IsPrefix (flow dims got s d (length dims) e) (flow dims sent s d 1 e)
  arrives_in_order = subst (λ m. IsPrefix (flow dims got s d m e) (flow dims sent s d 1 e)) last_hop (arrived (length dims - 1) (let q = last_hop in omega arith))

  pub arrives_whole : e < lasts (got (hop_link dims s d (length dims))) → flow dims got s d (length dims) e ≡ flow dims sent s d 1 e
  arrives_whole ended =
      ap (λ m. flow dims got s d m e) (sym last_hop)
      ∙ arrived_all (length dims - 1) (let q = last_hop in omega arith) (subst (λ m. e < lasts (got (hop_link dims s d m))) (sym last_hop) ended)
