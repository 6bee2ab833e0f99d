-- The pair of an entry, by the number of the link on which it came.
use Rattle.std.proofs.Common.{◌≡◌, ℕ, zero, suc, ◌+◌, ◌-◌, ◌<◌, ◌≤◌, Bool, true, false, List, length, refl, sym, ap, subst, ◌∙◌, arith}
use Rattle.std.proofs.lemmas.Bool.{false≢true}
use Rattle.bale_items.specs.declared.item.Entry.{Entry}
use Rattle.route_tensor.specs.Grid.{ranks, coord, place, IsGrid}
use Rattle.route_tensor.specs.Link.{link, links}
use Rattle.route_tensor.specs.Tag.{IsFair, tag_rank, sender_of, destination_of}
use Rattle.route_tensor.proofs.Coordinates.{place_below, same_rank}
use Rattle.route_tensor.proofs.Places.{coord-place, place-all}
use Rattle.route_tensor.proofs.Tags.{pair_route, tag_rank_below}
use Rattle.route_tensor.specs.Ends.{hop_at, sender_at, reader_at}
use Rattle.route_tensor.proofs.Ends.{number_ends}
use Rattle.port_bank.specs.Logs.{Logs, lasts, lasts_in}
use Rattle.port_bank.specs.Flow.{hop_link}
use Rattle.port_bank.proofs.Segments.{lasts_begins}
use Rattle.port_bank.proofs.Routes.{hop-on_route, sender-on_route, reader-on_route, link-on_route}
use Rattle.convey.specs.Buffers.{Buffers}
use Rattle.convey.specs.Agreement.{Agrees}
use Rattle.convey.specs.Law.{IsLastIn}

-- the link of an entry's pair is the one on which it came
pub record RouteOf (dims : List ℕ) (m : ℕ) (e : Entry) : Type 0 where
  pub sender : sender_of dims e.tag (hop_at dims m) (sender_at dims m) < ranks dims
  pub destination : destination_of dims e.tag (hop_at dims m) (reader_at dims m) < ranks dims
  pub link : hop_link dims (sender_of dims e.tag (hop_at dims m) (sender_at dims m)) (destination_of dims e.tag (hop_at dims m) (reader_at dims m)) (hop_at dims m) ≡ m

pub route_of : (dims : List ℕ) (m : ℕ) (e : Entry) → IsGrid dims → m < links dims → IsFair dims (hop_at dims m) e.tag → RouteOf dims m e
route_of dims m e g below fair =
    let t = number_ends dims m g below in
    let h : ℕ = hop_at dims m in
    let r = pair_route dims h (sender_at dims m) (reader_at dims m) e.tag g t.link fair in
    record {
      sender = r.sender;
      destination = r.destination;
      link = ap (λ a. link dims h a (place dims (sender_of dims e.tag h (sender_at dims m)) (destination_of dims e.tag h (reader_at dims m)) h)) (sym r.from)
          ∙ (ap (link dims h (sender_at dims m)) (sym r.to) ∙ t.number);
    }

-- on the last hop the destination is the rank itself
pub last_route : (b : Buffers) (m : ℕ) (e : Entry) → IsGrid b.dims → b.rank < ranks b.dims → IsLastIn b m → IsFair b.dims (length b.dims) e.tag
    → hop_link b.dims (sender_of b.dims e.tag (length b.dims) (sender_at b.dims m)) b.rank (length b.dims) ≡ m
last_route b m e g own at fair =
    let r = route_of b.dims m e g at.below (subst (λ h. IsFair b.dims h e.tag) (sym at.hop) fair) in
    let d : destination_of b.dims e.tag (length b.dims) (reader_at b.dims m) ≡ b.rank =
    ap (destination_of b.dims e.tag (length b.dims)) at.reader ∙ place-all b.dims (tag_rank b.dims e.tag) b.rank g.positive (tag_rank_below b.dims (length b.dims) e.tag g fair) own in
    let whole : hop_link b.dims (sender_of b.dims e.tag (length b.dims) (sender_at b.dims m)) (destination_of b.dims e.tag (length b.dims) (reader_at b.dims m)) (length b.dims) ≡ m =
    subst (λ h. hop_link b.dims (sender_of b.dims e.tag h (sender_at b.dims m)) (destination_of b.dims e.tag h (reader_at b.dims m)) h ≡ m) at.hop r.link in
    ap (λ x. hop_link b.dims (sender_of b.dims e.tag (length b.dims) (sender_at b.dims m)) x (length b.dims)) (sym d) ∙ whole

pub last_sender : (b : Buffers) (m : ℕ) (e : Entry) → IsGrid b.dims → IsLastIn b m → IsFair b.dims (length b.dims) e.tag
    → sender_of b.dims e.tag (length b.dims) (sender_at b.dims m) < ranks b.dims
last_sender b m e g at fair =
    let r = route_of b.dims m e g at.below (subst (λ h. IsFair b.dims h e.tag) (sym at.hop) fair) in
    subst (λ h. sender_of b.dims e.tag h (sender_at b.dims m) < ranks b.dims) at.hop r.sender

-- a rank has on each hop a link to itself
place_self : (dims : List ℕ) (r h : ℕ) → IsGrid dims → r < ranks dims → place dims r r h ≡ r
place_self dims r h g own =
    same_rank dims (place dims r r h) r g.positive (place_below dims r r h g.positive own own) own
    (λ i. coord-place dims r r h i (λ c. c ≡ coord dims r i) g.positive (λ low. refl) (λ high. refl))

pub record OwnLoop (dims : List ℕ) (r h : ℕ) : Type 0 where
  pub below : hop_link dims r r h < links dims
  pub sender : sender_at dims (hop_link dims r r h) ≡ r
  pub reader : reader_at dims (hop_link dims r r h) ≡ r
  pub hop : hop_at dims (hop_link dims r r h) ≡ h

pub own_loop : (dims : List ℕ) (r h : ℕ) → IsGrid dims → r < ranks dims → 1 ≤ h → h ≤ length dims → OwnLoop dims r h
own_loop dims r h g own first last = record {
  below = link-on_route dims r r h g own own first last;
  sender = sender-on_route dims r r h g own own first last ∙ place_self dims r (h - 1) g own;
  reader = reader-on_route dims r r h g own own first last ∙ place_self dims r h g own;
  hop = hop-on_route dims r r h g own own first last;
}

-- Where no link of hop 1 is closed, the last of a rank's links to itself hasn't ended: such a link
-- has ended only where it is closed, and to close it the one before must have ended, and so on back
-- to the first.
module _ (b : Buffers) (sent got : Logs) (g : IsGrid b.dims) (own : b.rank < ranks b.dims) (a : Agrees b sent got)
    (first_open : (l : ℕ) → l < links b.dims → sender_at b.dims l ≡ b.rank → hop_at b.dims l ≡ 1 → b.closed l ≡ false) where
  ended_mark : (n : ℕ) (c : Bool) → n ≡ lasts_in b.epoch c → b.epoch < n → c ≡ true
  ended_mark n true e h = refl
  ended_mark n false e h = absurd (omega arith)

  loops : (l : ℕ) → l < links b.dims → sender_at b.dims l ≡ b.rank → reader_at b.dims l ≡ b.rank → b.ended l ≡ true → b.closed l ≡ true
  loops l below from to ended =
      let all : lasts (got l) ≡ b.epoch + 1 = (a.ins l below to).lasts ∙ ap (lasts_in b.epoch) ended in
      let front = lasts_begins (got l) (sent l) (a.own l below from to) in
      ended_mark (lasts (sent l)) (b.closed l) (a.outs l below from).lasts (omega arith)

  still_open : (h : ℕ) → suc h ≤ length b.dims → b.ended (hop_link b.dims b.rank b.rank (suc h)) ≡ true → ⊥
  still_open zero last ended =
      let o = own_loop b.dims b.rank 1 g own (omega arith) last in
      false≢true (sym (first_open (hop_link b.dims b.rank b.rank 1) o.below o.sender o.hop) ∙ loops (hop_link b.dims b.rank b.rank 1) o.below o.sender o.reader ended)
  still_open (suc h) last ended =
      let o = own_loop b.dims b.rank (suc (suc h)) g own (omega arith) last in
      let q = own_loop b.dims b.rank (suc h) g own (omega arith) (omega arith) in
      let l : ℕ = hop_link b.dims b.rank b.rank (suc (suc h)) in
      let m : ℕ = hop_link b.dims b.rank b.rank (suc h) in
      let closed : b.closed l ≡ true = loops l o.below o.sender o.reader ended in
      let count : lasts (sent l) ≡ b.epoch + 1 = (a.outs l o.below o.sender).lasts ∙ ap (lasts_in b.epoch) closed in
      let next : hop_at b.dims l ≡ hop_at b.dims m + 1 = o.hop ∙ (omega arith ∙ ap (λ n. n + 1) (sym q.hop)) in
      let had : b.epoch < lasts (got m) = a.law.closed l m b.epoch o.below q.below o.sender q.reader next (omega arith) in
      still_open h (omega arith) (ended_mark (lasts (got m)) (b.ended m) (a.ins m q.below q.reader).lasts had)

  pub not_all_ended : b.ended (hop_link b.dims b.rank b.rank (length b.dims)) ≡ true → ⊥
  not_all_ended h =
      let some = g.some in
      let up : suc (length b.dims - 1) ≡ length b.dims = omega arith in
      still_open (length b.dims - 1) (omega arith) (subst (λ n. b.ended (hop_link b.dims b.rank b.rank n) ≡ true) (sym up) h)
