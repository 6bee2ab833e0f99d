use Rattle.std.proofs.Common.{◌<◌, sym, subst, arith}
use Rattle.route_tensor.specs.Link.{links}
use Rattle.port_bank.specs.Plain.{Bank}
use Rattle.port_bank.proofs.Rings.{rings_set}
use Rattle.port_bank.specs.code.PlainLink.{IsNextOn}
use Rattle.port_bank.proofs.Turns.{channel_read, kept_by_collect, next_parcel}
use Rattle.port_bank.proofs.plain_bank.PlainBank.collect.Goals as goal

pub invariant_of-self : goal.invariant_of-self
invariant_of-self g c =
    let b : Bank = record { dims = c.self.inside.grid; slots = c.self.inside.slots; channels = c.self.inside.links.items } in
    let l = c.args.link in
    let within = subst (λ (x : Bank). l < links x.dims) (sym c.self.view_is) c.requires.link in
    let here = channel_read g.row.CAP b l c.index_mut.result.now c.self.invariant.0 within c.index_mut.ensures.value in (
      kept_by_collect g.row.CAP b l c.index_mut.result.now c.collect.new.self c.collect.result c.collect.new.p c.self.invariant.0 within here
          c.collect.ensures.does,
      rings_set c.self.inside.links.items c.self.inside.rings.items l c.collect.new.self c.collect.new.ring c.self.invariant.1 (omega (arith, within, c.self.invariant.0.number)) c.collect.ensures.ring,
    )

pub returns-clause-next : goal.returns-clause-next
returns-clause-next g c = λ is.
    let b : Bank = record { dims = c.self.inside.grid; slots = c.self.inside.slots; channels = c.self.inside.links.items } in
    let l = c.args.link in
    let within = subst (λ (x : Bank). l < links x.dims) (sym c.self.view_is) c.requires.link in
    let here = channel_read g.row.CAP b l c.index_mut.result.now c.self.invariant.0 within c.index_mut.ensures.value in
    subst (λ (x : Bank). IsNextOn g.row.CAP x l c.collect.new.p) c.self.view_is
    (next_parcel g.row.CAP b l c.index_mut.result.now c.collect.new.p c.self.invariant.0 within here (c.collect.ensures.does.next is))
