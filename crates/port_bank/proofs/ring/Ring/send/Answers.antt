use Rattle.std.proofs.Common.{◌≡◌, ◌<◌, List, [], ◌∷◌, ◌++◌, length, get_or, ◌∙◌, ap, sym, subst, arith}
use Rattle.item_buffer.specs.Contents.{Contents, Shipped, as_shipped, as_arrived, blank}
use Rattle.port_bank.specs.Ring.{IsRing}
use Rattle.port_bank.proofs.Turning.{IsAfter, sent_empty, sent_way, sent_ring}
use Rattle.port_bank.proofs.ring.Ring.send.Goals as goal

pub invariant_of-self-2 : goal.invariant_of-self-2
invariant_of-self-2 g c =
    let xs = c.make_room.new.places.items in
    let is : IsRing g.row.CAP c.in_ok-self-inside.field-0 c.self.inside.waiting xs = c.in_ok-self-inside.ensures.ring in
    let room : c.self.inside.waiting < length xs = c.in_ok-self-inside.ensures.room in
    let count : c.len.result ≡ length xs = omega (arith, c.len.ensures, c.make_room.new.places.ok.0) in
    let read : c.swap.new.y ≡ get_or xs c.place_after-place.result c.swap.new.y = subst (λ z. z ≡ get_or xs c.place_after-place.result z) (sym c.swap.ensures.y_after) c.index_mut.ensures.value in
    sent_ring g.row.CAP c.in_ok-self-inside.field-0 c.self.inside.waiting c.place_after-place.result xs c.swap.new.x c.swap.new.y is room
    (omega (arith, c.place_after-place.ensures.within, count)) (subst (λ n. IsAfter n c.in_ok-self-inside.field-0 c.self.inside.waiting c.place_after-place.result) count c.place_after-place.ensures.round) read
    (subst (λ (z : Contents). z ≡ as_arrived (as_shipped z)) (sym c.swap.ensures.x_after) c.requires.fresh)

pub returns-clause-sent : goal.returns-clause-sent
returns-clause-sent g c =
    let xs = c.make_room.new.places.items in
    let is : IsRing g.row.CAP c.in_ok-self-inside.field-0 c.self.inside.waiting xs = c.in_ok-self-inside.ensures.ring in
    let room : c.self.inside.waiting < length xs = c.in_ok-self-inside.ensures.room in
    let count : c.len.result ≡ length xs = omega (arith, c.len.ensures, c.make_room.new.places.ok.0) in
    let read : c.swap.new.y ≡ get_or xs c.place_after-place.result c.swap.new.y = subst (λ z. z ≡ get_or xs c.place_after-place.result z) (sym c.swap.ensures.y_after) c.index_mut.ensures.value in
    sent_way g.row.CAP c.in_ok-self-inside.field-0 c.self.inside.waiting c.place_after-place.result xs c.swap.new.x c.swap.new.y is room
    (omega (arith, c.place_after-place.ensures.within, count)) (subst (λ n. IsAfter n c.in_ok-self-inside.field-0 c.self.inside.waiting c.place_after-place.result) count c.place_after-place.ensures.round) read
    ∙ (ap (λ (s : List Shipped). s ++ as_shipped c.swap.new.x ∷ []) (c.in_ok-self-inside.ensures.same ∙ c.self.view_is) ∙ ap (λ (z : Contents). c.args.self.now ++ as_shipped z ∷ []) c.swap.ensures.x_after)

pub returns-clause-emptied : goal.returns-clause-emptied
returns-clause-emptied g c =
    let xs = c.make_room.new.places.items in
    let is : IsRing g.row.CAP c.in_ok-self-inside.field-0 c.self.inside.waiting xs = c.in_ok-self-inside.ensures.ring in
    let room : c.self.inside.waiting < length xs = c.in_ok-self-inside.ensures.room in
    let count : c.len.result ≡ length xs = omega (arith, c.len.ensures, c.make_room.new.places.ok.0) in
    let read : c.swap.new.y ≡ get_or xs c.place_after-place.result c.swap.new.y = subst (λ z. z ≡ get_or xs c.place_after-place.result z) (sym c.swap.ensures.y_after) c.index_mut.ensures.value in
    let empty : c.swap.new.y ≡ blank c.swap.new.y.epoch =
    sent_empty g.row.CAP c.in_ok-self-inside.field-0 c.self.inside.waiting c.place_after-place.result xs c.swap.new.x c.swap.new.y is room
    (omega (arith, c.place_after-place.ensures.within, count)) (subst (λ n. IsAfter n c.in_ok-self-inside.field-0 c.self.inside.waiting c.place_after-place.result) count c.place_after-place.ensures.round) read in
    c.set_epoch.ensures ∙ (ap (λ (z : Contents). record z { epoch = c.epoch-epoch.result }) empty ∙ ap blank c.epoch-epoch.ensures)
