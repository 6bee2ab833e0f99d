use Rattle.std.proofs.Common.{◌≡◌, suc, ◌-◌, length, get_or, ◌∙◌, ap, sym, subst, arith}
use Rattle.item_buffer.specs.Contents.{Contents, blank}
use Rattle.port_bank.specs.Ring.{in_transit, IsRing}
use Rattle.port_bank.proofs.Turning.{IsAfter, way_len, received_way, received_fresh, received_ring}
use Rattle.port_bank.proofs.ring.Ring.receive.Goals as goal

pub invariant_of-self : goal.invariant_of-self
invariant_of-self g c =
    let r = c.self.inside in
    let xs = r.places.items in
    let back : suc (r.waiting - 1) ≡ r.waiting = omega (arith, c.requires.some, ap length c.self.view_is, way_len r.first r.waiting xs c.self.invariant.within) in
    let count : c.len.result ≡ length xs = omega (arith, c.len.ensures, r.places.ok.0) in
    let read : c.swap.new.y ≡ get_or xs r.first c.swap.new.y = subst (λ z. z ≡ get_or xs r.first z) (sym c.swap.ensures.y_after) c.index_mut.ensures.value in
    received_ring g.row.CAP r.first (r.waiting - 1) c.place_after-self-inside.result xs c.swap.new.x c.swap.new.y (subst (λ n. IsRing g.row.CAP r.first n xs) (sym back) c.self.invariant)
    (omega (arith, c.place_after-self-inside.ensures.within, count)) (subst (λ n. IsAfter n r.first 1 c.place_after-self-inside.result) count c.place_after-self-inside.ensures.round) read
    (subst (λ (z : Contents). z ≡ blank z.epoch) (sym c.swap.ensures.x_after) c.requires.empty)

pub returns-clause-next : goal.returns-clause-next
returns-clause-next g c =
    let r = c.self.inside in
    let xs = r.places.items in
    let back : suc (r.waiting - 1) ≡ r.waiting = omega (arith, c.requires.some, ap length c.self.view_is, way_len r.first r.waiting xs c.self.invariant.within) in
    let count : c.len.result ≡ length xs = omega (arith, c.len.ensures, r.places.ok.0) in
    let read : c.swap.new.y ≡ get_or xs r.first c.swap.new.y = subst (λ z. z ≡ get_or xs r.first z) (sym c.swap.ensures.y_after) c.index_mut.ensures.value in
    sym c.self.view_is ∙ (ap (λ n. in_transit r.first n xs) (sym back)
    ∙ received_way g.row.CAP r.first (r.waiting - 1) c.place_after-self-inside.result xs c.swap.new.x c.swap.new.y (subst (λ n. IsRing g.row.CAP r.first n xs) (sym back) c.self.invariant)
    (omega (arith, c.place_after-self-inside.ensures.within, count)) (subst (λ n. IsAfter n r.first 1 c.place_after-self-inside.result) count c.place_after-self-inside.ensures.round) read)

pub returns-clause-arrived : goal.returns-clause-arrived
returns-clause-arrived g c =
    let r = c.self.inside in
    let xs = r.places.items in
    let back : suc (r.waiting - 1) ≡ r.waiting = omega (arith, c.requires.some, ap length c.self.view_is, way_len r.first r.waiting xs c.self.invariant.within) in
    let count : c.len.result ≡ length xs = omega (arith, c.len.ensures, r.places.ok.0) in
    let read : c.swap.new.y ≡ get_or xs r.first c.swap.new.y = subst (λ z. z ≡ get_or xs r.first z) (sym c.swap.ensures.y_after) c.index_mut.ensures.value in
    received_fresh g.row.CAP r.first (r.waiting - 1) c.place_after-self-inside.result xs c.swap.new.x c.swap.new.y (subst (λ n. IsRing g.row.CAP r.first n xs) (sym back) c.self.invariant)
    (omega (arith, c.place_after-self-inside.ensures.within, count)) (subst (λ n. IsAfter n r.first 1 c.place_after-self-inside.result) count c.place_after-self-inside.ensures.round) read
