-- A sweep over a rank's neighbours goes over its links in ascending order.
use Rattle.std.proofs.Common.{◌≡◌, ℕ, zero, suc, ◌+◌, ◌-◌, ◌/◌, ◌<◌, ◌≤◌, Bool, true, false, ◌&&◌, eqb, List, [], ◌∷◌, ◌++◌, length, sum, take, inl, inr, refl, sym, ap, subst, ◌∙◌, arith}
use Rattle.std.proofs.lemmas.Bool.{cases_Bool, cases_lt, cases_eq, false≢true, eq-eqb, eqb-true}
use Rattle.std.proofs.lemmas.List.{append-nil}
use Rattle.std.proofs.Math.Nat.{mul-le-mul_left, mul-lt-mul_of_pos_left, mul-lt-mul_of_pos_right}
use Rattle.route_tensor.specs.Grid.{ranks, dim, coord, IsGrid}
use Rattle.route_tensor.specs.Link.{links_before, link, links, IsLink}
use Rattle.route_tensor.specs.Ends.{sender_at, reader_at, with_coord}
use Rattle.route_tensor.specs.Neighbour.{hop_to, neighbour, link_to, link_from, out_index, in_index}
use Rattle.route_tensor.proofs.Coordinates.{Positive, first-positive, rest-positive}
use Rattle.route_tensor.proofs.Links.{before_more, sum-cons, link_within}
use Rattle.route_tensor.proofs.Neighbours.{HasNumber, hop_to_has, to_neighbour, from_neighbour, coord-neighbour, out_index-link_to, out_stands, in_stands}
use Rattle.port_bank.specs.Calls.{Call, once_if, sweep_calls}
use Rattle.port_bank.specs.Calls.Call.{Post, Collect}
use Rattle.convey.proofs.Ways.{to_below, to_sender, from_below, from_reader}

-- a sweep over links by an ascending list of some of them
module _ (own : ℕ → Bool) (at : ℕ → ℕ) (index : ℕ → ℕ) (n top : ℕ) (owned : (i : ℕ) → i < n → own (at i) ≡ true) (rises : (i j : ℕ) → i < j → j < n → at i < at j)
    (listed : (l : ℕ) → l < top → own l ≡ true → index l < n) (found : (l : ℕ) → l < top → own l ≡ true → at (index l) ≡ l) (made : ℕ → Bool) (call : ℕ → Call) where
  own_call : (m : ℕ) → own m ≡ true → sweep_calls (λ l. own l && made l) call (suc m) ≡ sweep_calls (λ l. own l && made l) call m ++ once_if (made m) (call m)
  own_call m t = ap (λ b. sweep_calls (λ l. own l && made l) call m ++ once_if (b && made m) (call m)) t

  no_call : (m : ℕ) → own m ≡ false → sweep_calls (λ l. own l && made l) call (suc m) ≡ sweep_calls (λ l. own l && made l) call m
  no_call m f = ap (λ b. sweep_calls (λ l. own l && made l) call m ++ once_if (b && made m) (call m)) f ∙ append-nil (sweep_calls (λ l. own l && made l) call m)

  not_here : (m i : ℕ) → own m ≡ false → i < n → at i < suc m → at i < m
  not_here m i f w low = elim (cases_eq (at i) m) [
    | inl e ↦ absurd (false≢true (sym f ∙ (ap own (sym e) ∙ owned i w)))
    | inr ne ↦ omega (arith, low, ne)
  ]

  -- the list's part below m is its first k elements
  last_here : (m k : ℕ) → m < top → k ≤ n → own m ≡ true → ((i : ℕ) → i < k → at i < suc m) → index m < k → k ≡ suc (index m)
  last_here m k mt kn t low high = elim (cases_lt (suc (index m)) k) [
    | inl less ↦ absurd (omega (arith, low (suc (index m)) less, rises (index m) (suc (index m)) (omega arith) (omega (arith, less, kn)), found m mt t))
    | inr ge ↦ omega (arith, ge, high)
  ]

  pub index_below : (m l : ℕ) → m < top → own m ≡ true → l < m → own l ≡ true → index l < index m
  index_below m l mt t w o =
      let lt : l < top = omega (arith, w, mt) in
      elim (cases_lt (index l) (index m)) [
        | inl less ↦ less
        | inr ge ↦ elim (cases_eq (index l) (index m)) [
          | inl e ↦ absurd (omega (arith, w, found l lt o, found m mt t, ap at e))
          | inr ne ↦
              let over : index m < index l = omega (arith, ge, ne) in
              absurd (omega (arith, w, rises (index m) (index l) over (listed l lt o), found l lt o, found m mt t))
        ]
      ]

  pub by_links : (m k : ℕ) → m ≤ top → k ≤ n → ((i : ℕ) → i < k → at i < m) → ((l : ℕ) → l < m → own l ≡ true → index l < k)
      → sweep_calls (λ i. made (at i)) (λ i. call (at i)) k ≡ sweep_calls (λ l. own l && made l) call m
  by_links zero zero mt kn low high = refl
  by_links zero (suc k) mt kn low high = absurd (omega (arith, low k (omega arith)))
  by_links (suc m) k mt kn low high = elim (cases_Bool (own m)) [
    | inl t ↦
        let j = index m in
        let w : m < top = omega (arith, mt) in
        let jn : j < n = listed m w t in
        let e : k ≡ suc j = last_here m k w kn t low (high m (omega arith) t) in
        let here : at j ≡ m = found m w t in
        ap (sweep_calls (λ i. made (at i)) (λ i. call (at i))) e
        ∙ ap (λ cs. cs ++ once_if (made (at j)) (call (at j))) (by_links m j (omega (arith, mt)) (omega (arith, jn))
        (λ i less. omega (arith, rises i j less jn, here))
        (λ l less o. index_below m l w t less o))
        ∙ ap (λ l. sweep_calls (λ q. own q && made q) call m ++ once_if (made l) (call l)) here
        ∙ sym (own_call m t)
    | inr f ↦
        by_links m k (omega (arith, mt)) kn (λ i w. not_here m i f (omega (arith, w, kn)) (low i w)) (λ l w o. high l (omega (arith, w)) o)
        ∙ sym (no_call m f)
  ]

-- hops ascend with the numbers of neighbours
take_le : (dims : List ℕ) (h k : ℕ) → h ≤ k → sum (take h dims) ≤ sum (take k dims)
take_le [] zero zero w = omega arith
take_le [] zero (suc k) w = omega arith
take_le [] (suc h) zero w = omega arith
take_le [] (suc h) (suc k) w = omega arith
take_le (n ∷ ns) zero k w = omega arith
take_le (n ∷ ns) (suc h) zero w = absurd (omega (arith, w))
take_le (n ∷ ns) (suc h) (suc k) w = omega (arith, take_le ns h k (omega (arith, w)), sum-cons n (take h ns), sum-cons n (take k ns))

hops_ascend : (dims : List ℕ) (i j h k : ℕ) → i < j → HasNumber dims h i → HasNumber dims k j → h ≤ k
hops_ascend dims i j h k w a b = elim (cases_lt k h) [
  | inl less ↦ absurd (omega (arith, w, a.from, b.below, before_more dims k b.first b.last, take_le dims k (h - 1) (omega (arith, less))))
  | inr ge ↦ ge
]

-- links of an earlier hop come first
earlier_hop : (dims : List ℕ) (h k a b c d : ℕ) → IsGrid dims → IsLink dims h a b → h < k → link dims h a b < link dims k c d
earlier_hop dims h k a b c d g l less =
    omega (arith, link_within dims h a b g l, mul-le-mul_left (ranks dims) (take_le dims h (k - 1) (omega (arith, less))))

-- with a greater coordinate a rank is greater
with_coord_rises : (dims : List ℕ) (r h c d : ℕ) → Positive dims → h < length dims → c < d → with_coord dims r (suc h) c < with_coord dims r (suc h) d
unfolding with_coord
with_coord_rises [] r h c d p l w = absurd (omega (arith, l))
with_coord_rises (n ∷ ns) r zero c d p l w = omega (arith, w)
with_coord_rises (n ∷ ns) r (suc h) c d p l w =
    let more = with_coord_rises ns (r / n) h c d (rest-positive n ns p) (omega (arith, l)) w in
    omega (arith, mul-lt-mul_of_pos_left more (first-positive n ns p))

-- a rank's links ascend with the numbers of its neighbours
out_rises : (dims : List ℕ) (r i j : ℕ) → IsGrid dims → r < ranks dims → i < j → j < sum dims → link_to dims r i < link_to dims r j
out_rises dims r i j g own w q =
    let p : i < sum dims = omega (arith, w, q) in
    let h : ℕ = hop_to dims i in
    elim (cases_eq h (hop_to dims j)) [
      | inl e ↦
          let last : links_before dims h + coord dims (neighbour dims r j) h ≡ j = subst (λ k. links_before dims k + coord dims (neighbour dims r j) k ≡ j) (sym e) (coord-neighbour dims r j g q) in
          let less : link dims h r (neighbour dims r i) < link dims h r (neighbour dims r j) = omega (arith, coord-neighbour dims r i g p, last, w) in
          subst (λ k. link dims h r (neighbour dims r i) < link dims k r (neighbour dims r j)) e less
      | inr ne ↦ earlier_hop dims _ _ _ _ _ _ g (to_neighbour dims r i g own p) (omega (arith, ne, hops_ascend dims i j _ _ w (hop_to_has dims i p) (hop_to_has dims j q)))
    ]

in_rises : (dims : List ℕ) (r i j : ℕ) → IsGrid dims → r < ranks dims → i < j → j < sum dims → link_from dims r i < link_from dims r j
in_rises dims r i j g own w q =
    let p : i < sum dims = omega (arith, w, q) in
    let h : ℕ = hop_to dims i in
    let a = hop_to_has dims i p in
    elim (cases_eq h (hop_to dims j)) [
      | inl e ↦
          let b : HasNumber dims h j = subst (λ k. HasNumber dims k j) (sym e) (hop_to_has dims j q) in
          let lb : ℕ = links_before dims h in
          let is : suc (h - 1) ≡ h = omega (arith, a.first) in
          let up : with_coord dims r h (i - lb) < with_coord dims r h (j - lb) =
          subst (λ k. with_coord dims r k (i - lb) < with_coord dims r k (j - lb)) is (with_coord_rises dims r (h - 1) (i - lb) (j - lb) g.positive (omega (arith, a.first, a.last)) (omega (arith, w, a.from))) in
          let some : 0 < dim dims h = omega (arith, a.from, a.below) in
          let less : link dims h (with_coord dims r h (i - lb)) r < link dims h (with_coord dims r h (j - lb)) r = omega (arith, mul-lt-mul_of_pos_right up some) in
          subst (λ k. link dims h (with_coord dims r h (i - lb)) r < link dims k (with_coord dims r k (j - links_before dims k)) r) e less
      | inr ne ↦ earlier_hop dims _ _ _ _ _ _ g (from_neighbour dims r i g own p) (omega (arith, ne, hops_ascend dims i j _ _ w a (hop_to_has dims j q)))
    ]

-- the posts of a sweep over all neighbours, and over those before number k; the collects of a sweep
-- over all
module _ (dims : List ℕ) (r : ℕ) (g : IsGrid dims) (own : r < ranks dims) (made : ℕ → Bool) where
  pub all_posts : (n : ℕ) → n ≡ sum dims → sweep_calls (λ i. made (link_to dims r i)) (λ i. Post (link_to dims r i)) n ≡ sweep_calls (λ l. eqb (sender_at dims l) r && made l) Post (links dims)
  all_posts n all =
      by_links (λ l. eqb (sender_at dims l) r) (link_to dims r) (out_index dims) (sum dims) (links dims) (λ i w. eq-eqb _ _ (to_sender dims r i g own w)) (λ i j w q. out_rises dims r i j g own w q)
      (λ l w o. (out_stands dims r l g w (eqb-true _ _ o)).below) (λ l w o. (out_stands dims r l g w (eqb-true _ _ o)).number) made Post (links dims) n (omega arith) (omega (arith, all))
      (λ i w. to_below dims r i g own (omega (arith, w, all))) (λ l w o. omega (arith, all, (out_stands dims r l g w (eqb-true _ _ o)).below))

  pub posts_before : (k : ℕ) → k < sum dims → sweep_calls (λ i. made (link_to dims r i)) (λ i. Post (link_to dims r i)) k ≡ sweep_calls (λ l. eqb (sender_at dims l) r && made l) Post (link_to dims r k)
  posts_before k less =
      let at : out_index dims (link_to dims r k) ≡ k = out_index-link_to dims r k g own less in
      let low : link_to dims r k < links dims = to_below dims r k g own less in
      by_links (λ l. eqb (sender_at dims l) r) (link_to dims r) (out_index dims) (sum dims) (links dims) (λ i w. eq-eqb _ _ (to_sender dims r i g own w)) (λ i j w q. out_rises dims r i j g own w q)
      (λ l w o. (out_stands dims r l g w (eqb-true _ _ o)).below) (λ l w o. (out_stands dims r l g w (eqb-true _ _ o)).number) made Post (link_to dims r k) k (omega (arith, low)) (omega (arith, less))
      (λ i w. out_rises dims r i k g own w less)
      (λ l w o. subst (λ n. out_index dims l < n) at (index_below (λ l. eqb (sender_at dims l) r) (link_to dims r) (out_index dims) (sum dims) (links dims) (λ i w. eq-eqb _ _ (to_sender dims r i g own w)) (λ i j w q. out_rises dims r i j g own w q)
      (λ l w o. (out_stands dims r l g w (eqb-true _ _ o)).below) (λ l w o. (out_stands dims r l g w (eqb-true _ _ o)).number) made Post (link_to dims r k) l low (eq-eqb _ _ (to_sender dims r k g own less)) w o))

  pub all_collects : (n : ℕ) → n ≡ sum dims → sweep_calls (λ i. made (link_from dims r i)) (λ i. Collect (link_from dims r i)) n ≡ sweep_calls (λ l. eqb (reader_at dims l) r && made l) Collect (links dims)
  all_collects n all =
      by_links (λ l. eqb (reader_at dims l) r) (link_from dims r) (in_index dims) (sum dims) (links dims) (λ i w. eq-eqb _ _ (from_reader dims r i g own w)) (λ i j w q. in_rises dims r i j g own w q)
      (λ l w o. (in_stands dims r l g w (eqb-true _ _ o)).below) (λ l w o. (in_stands dims r l g w (eqb-true _ _ o)).number) made Collect (links dims) n (omega arith) (omega (arith, all))
      (λ i w. from_below dims r i g own (omega (arith, w, all))) (λ l w o. omega (arith, all, (in_stands dims r l g w (eqb-true _ _ o)).below))
