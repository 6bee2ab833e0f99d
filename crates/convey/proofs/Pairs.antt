-- To which pair an entry on a rank's first or last link belongs.
use Rattle.std.proofs.Common.{◌≡◌, ℕ, ◌-◌, ◌<◌, ◌≤◌, ◌==◌, ◌&&◌, List, length, true, false, refl, sym, ap, ◌∙◌, arith, eq-eqb}
use Rattle.bale_items.specs.declared.item.Entry.{Entry}
use Rattle.route_tensor.specs.Grid.{ranks, place, IsGrid}
use Rattle.route_tensor.specs.Link.{IsOnRoute}
use Rattle.route_tensor.specs.Tag.{IsFair, tag_at, tag_rank, sender_of, destination_of}
use Rattle.route_tensor.proofs.Places.{place-zero, place-all}
use Rattle.route_tensor.proofs.Tags.{tag_rank_below, destination-tag_at}
use Rattle.route_tensor.specs.Ends.{sender_at, reader_at}
use Rattle.port_bank.specs.Flow.{hop_link}
use Rattle.route_tensor.specs.Pair.{belongs}
use Rattle.port_bank.proofs.Routes.{sender-on_route, reader-on_route}

-- an entry is tested by the ends of its link
pub belongs_at : (dims : List ℕ) (s d h l : ℕ) (e : Entry) → IsGrid dims → s < ranks dims → d < ranks dims → 1 ≤ h → h ≤ length dims → hop_link dims s d h ≡ l
    → belongs dims s d h e ≡ ((sender_of dims e.tag h (sender_at dims l) == s) && (destination_of dims e.tag h (reader_at dims l) == d))
belongs_at dims s d h l e g from to first last same =
    let a : place dims s d (h - 1) ≡ sender_at dims l = sym (sender-on_route dims s d h g from to first last) ∙ ap (sender_at dims) same in
    let b : place dims s d h ≡ reader_at dims l = sym (reader-on_route dims s d h g from to first last) ∙ ap (reader_at dims) same in
    ap (λ x. (sender_of dims e.tag h x == s) && (destination_of dims e.tag h (place dims s d h) == d)) a
    ∙ ap (λ x. (sender_of dims e.tag h (sender_at dims l) == s) && (destination_of dims e.tag h x == d)) b

both : (a b c d : ℕ) → a ≡ b → ((a == b) && (c == d)) ≡ (c == d)
both a b c d e = ap (λ x. x && (c == d)) (eq-eqb a b e)

first : (a b c d : ℕ) → c ≡ d → ((a == b) && (c == d)) ≡ (a == b)
first a b c d e = ap (λ x. (a == b) && x) (eq-eqb c d e) ∙ (elim (a == b) as (λ x. (x && true) ≡ x) [ true ↦ refl | false ↦ refl ])

-- on the first hop the sender is the rank itself, and the tag tells the destination
pub belongs_first : (dims : List ℕ) (r to d : ℕ) (e : Entry) → IsGrid dims → r < ranks dims → to < ranks dims → d < ranks dims → e.tag ≡ tag_at dims r to 1 → hop_link dims r d 1 ≡ hop_link dims r to 1
    → belongs dims r d 1 e ≡ (to == d)
belongs_first dims r to d e g from x y tag same =
    let some : 1 ≤ length dims = g.some in
    let l : ℕ = hop_link dims r to 1 in
    let a : sender_at dims l ≡ place dims r to 0 = sender-on_route dims r to 1 g from x (omega arith) some in
    let b : reader_at dims l ≡ place dims r to 1 = reader-on_route dims r to 1 g from x (omega arith) some in
    let s : sender_of dims e.tag 1 (sender_at dims l) ≡ r = place-zero dims (sender_at dims l) (tag_rank dims e.tag) ∙ (a ∙ place-zero dims r to) in
    let on : IsOnRoute dims r to 1 (sender_at dims l) (reader_at dims l) = record { first_hop = omega arith; last_hop = some; sender = from; destination = x; from = a; to = b } in
    let t : destination_of dims e.tag 1 (reader_at dims l) ≡ to = ap (λ u. destination_of dims u 1 (reader_at dims l)) tag ∙ destination-tag_at dims r to 1 (sender_at dims l) (reader_at dims l) g on in
    belongs_at dims r d 1 l e g from y (omega arith) some same
    ∙ (both (sender_of dims e.tag 1 (sender_at dims l)) r (destination_of dims e.tag 1 (reader_at dims l)) d s
    ∙ ap (λ u. u == d) t)

-- on the last hop the destination is the rank itself, and the tag tells the sender
pub belongs_last : (dims : List ℕ) (r s l : ℕ) (e : Entry) → IsGrid dims → r < ranks dims → s < ranks dims → IsFair dims (length dims) e.tag → reader_at dims l ≡ r → hop_link dims s r (length dims) ≡ l
    → belongs dims s r (length dims) e ≡ (sender_of dims e.tag (length dims) (sender_at dims l) == s)
belongs_last dims r s l e g own from fair reader same =
    let some : 1 ≤ length dims = g.some in
    let d : destination_of dims e.tag (length dims) (reader_at dims l) ≡ r =
    ap (destination_of dims e.tag (length dims)) reader ∙ place-all dims (tag_rank dims e.tag) r g.positive (tag_rank_below dims (length dims) e.tag g fair) own in
    belongs_at dims s r (length dims) l e g from own some (omega arith) same
    ∙ first (sender_of dims e.tag (length dims) (sender_at dims l)) s (destination_of dims e.tag (length dims) (reader_at dims l)) r d
