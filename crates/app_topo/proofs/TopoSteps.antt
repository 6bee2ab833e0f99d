-- What a step of the code leaves, where a rank is one of topo.
use Rattle.std.proofs.Common.{ℕ, ◌+◌, ◌-◌, ◌/◌, ◌^◌, ◌<◌, ◌≡◌, ◌==◌, min, Bool, true, false, cond, List, [], length, get_or, All, arith, sym, ap, ◌∙◌, subst, lit<}
use Rattle.bale_items.specs.declared.Item.{Item}
use Rattle.bale_items.specs.declared.triple.Triple.{Triple}
use Rattle.mtx_text.specs.Cells.{InOrder, with_value_raised}
use Rattle.mtx_text.proofs.Raised.{raised_ordered}
use Rattle.sparse_rows.specs.Owners.{places_for}
use Rattle.sparse_rows.proofs.Places.{place_below}
use Rattle.app_topo.specs.declared.placed.Placed.{Placed}
use Rattle.app_topo.specs.Topos.{TopoState, IsTopo, AreInside, topo_rules, spot, sent_after, topo_next_outgoing}
use Rattle.app_topo.specs.laws.TopoLaws.{IsOwnItem, topo_laws, raised_in}

-- a number has a place
pub own_place : (s : TopoState) (x : Item) → IsTopo s → IsOwnItem s.size s.ranks s.rank x → x.a / s.ranks < places_for s.ranks s.size
own_place s x v o = (let own : s.rank < s.ranks = v.own in place_below s.ranks s.size x.a (omega arith) o.a_low)

-- a rank whose lists keep their lengths, and to which something may have come
pub kept_valid : (s : TopoState) (numbers sums counts : List ℕ) (fresh : ℕ) (b : Bool) (t : Triple) (came : List Triple) → IsTopo s
    → length numbers ≡ length s.numbers → length sums ≡ length s.sums → length counts ≡ length s.counts → fresh < 2 ^ 32 → AreInside s.size t → came ≡ cond b (with_value_raised t s.came) s.came
    → IsTopo (record s { numbers = numbers; sums = sums; counts = counts; fresh = fresh; came = came })
kept_valid s numbers sums counts fresh b t came v n m c few inside is =
    record {
      own = v.own;
      wide = v.wide;
      number_places = n ∙ v.number_places;
      sum_places = m ∙ v.sum_places;
      count_places = c ∙ v.count_places;
      few = few;
      inside = v.inside;
      sorted = v.sorted;
      came_inside = subst (All (AreInside s.size)) (sym is) (in_either b);
      ordered = subst InOrder (sym is) (order_either b);
      fit = v.fit;
    }
  where
    in_either : (b : Bool) → All (AreInside s.size) (cond b (with_value_raised t s.came) s.came)
    in_either true = raised_in s.size t s.came inside v.came_inside
    in_either false = v.came_inside

    order_either : (b : Bool) → InOrder (cond b (with_value_raised t s.came) s.came)
    order_either true = raised_ordered t s.came v.ordered
    order_either false = v.ordered

pub at_one : (s : TopoState) (x : Item) → IsOwnItem s.size s.ranks s.rank x → AreInside s.size (spot x.a 0)
at_one s x o = (let low : x.a < s.size = o.a_low in (o.a_low, omega arith))

pub fresh_low : (b : Bool) (fresh new : ℕ) → fresh < 2 ^ 32 → new ≡ cond b (min (fresh + 1) (2 ^ 32 - 1)) fresh → new < 2 ^ 32
fresh_low true fresh new low is = omega arith
fresh_low false fresh new low is = omega arith

-- what came stands at its places
pub came_placed : (s : TopoState) (came : List Triple) (numbers sums : List ℕ) → IsTopo s → came ≡ s.came → numbers ≡ s.numbers → sums ≡ s.sums
    → All (λ u. (u.i / s.ranks < length numbers) × (u.i / s.ranks < length sums)) came
came_placed s came numbers sums v c n m =
    let own : s.rank < s.ranks = v.own in
    subst (All (λ u. (u.i / s.ranks < length numbers) × (u.i / s.ranks < length sums))) (sym c) (λ k d l.
    let low : (get_or s.came k d).i / s.ranks < places_for s.ranks s.size = place_below s.ranks s.size (get_or s.came k d).i (omega arith) (v.came_inside k d l).0 in
    (subst (λ q. (get_or s.came k d).i / s.ranks < q) (sym (ap length n ∙ v.number_places)) low, subst (λ q. (get_or s.came k d).i / s.ranks < q) (sym (ap length m ∙ v.sum_places)) low))

-- the state after a round, from the fields that change
pub ended_valid : (s : TopoState) (round : ℕ) (columns came : List Triple) (claimed : List Placed) (outgoing : List (ℕ × Item)) (numbers sums : List ℕ) (old_columns old_came : List Triple) → IsTopo s
    → round ≡ min (s.round + 1) (2 ^ 64 - 1) → columns ≡ cond (s.round == 0) s.came s.columns → came ≡ [] → numbers ≡ s.numbers → sums ≡ s.sums → old_columns ≡ s.columns → old_came ≡ s.came
    → outgoing ≡ sent_after s.round s.rank s.ranks s.size numbers sums old_columns old_came
    → IsTopo (record s { round = round; columns = columns; claimed = claimed; fresh = 0; came = came; outgoing = outgoing })
ended_valid s round columns came claimed outgoing numbers sums old_columns old_came v r c k n m oc ok o =
    let next : IsTopo (topo_rules.ended s 0) = (topo_laws.next s 0 v (lit< tt)).valid in
    let is : outgoing ≡ topo_next_outgoing s =
    o ∙ ap (λ w. sent_after s.round s.rank s.ranks s.size w sums old_columns old_came) n
    ∙ ap (λ w. sent_after s.round s.rank s.ranks s.size s.numbers w old_columns old_came) m
    ∙ ap (λ w. sent_after s.round s.rank s.ranks s.size s.numbers s.sums w old_came) oc
    ∙ ap (λ w. sent_after s.round s.rank s.ranks s.size s.numbers s.sums s.columns w) ok in
    let any : IsTopo (record s { round = min (s.round + 1) (2 ^ 64 - 1); columns = cond (s.round == 0) s.came s.columns; claimed = claimed; fresh = 0; came = []; outgoing = topo_next_outgoing s }) =
    record {
      own = next.own;
      wide = next.wide;
      number_places = next.number_places;
      sum_places = next.sum_places;
      count_places = next.count_places;
      few = next.few;
      inside = next.inside;
      sorted = next.sorted;
      came_inside = next.came_inside;
      ordered = next.ordered;
      fit = next.fit;
    } in
    subst (λ w. IsTopo (record s { round = w; columns = columns; claimed = claimed; fresh = 0; came = came; outgoing = outgoing })) (sym r)
    (subst (λ w. IsTopo (record s { round = min (s.round + 1) (2 ^ 64 - 1); columns = w; claimed = claimed; fresh = 0; came = came; outgoing = outgoing })) (sym c)
    (subst (λ w. IsTopo (record s { round = min (s.round + 1) (2 ^ 64 - 1); columns = cond (s.round == 0) s.came s.columns; claimed = claimed; fresh = 0; came = w; outgoing = outgoing })) (sym k)
    (subst (λ w. IsTopo (record s { round = min (s.round + 1) (2 ^ 64 - 1); columns = cond (s.round == 0) s.came s.columns; claimed = claimed; fresh = 0; came = []; outgoing = w })) (sym is) any)))
