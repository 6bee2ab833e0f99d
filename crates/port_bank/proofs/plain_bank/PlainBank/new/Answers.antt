use Rattle.std.proofs.Common.{◌≡◌, sym, ap, subst, ◌∙◌, arith, replicate, List, []}
use Rattle.route_tensor.specs.Link.{links}
use Rattle.port_bank.specs.Plain.{Channel, unused_channel, IsBank, HaveRings}
use Rattle.port_bank.proofs.Closing.{empty_is_bank}
use Rattle.port_bank.proofs.Rings.{rings_empty}
use Rattle.port_bank.proofs.plain_bank.PlainBank.new.Goals as goal

pub invariant_of-result : goal.invariant_of-result
invariant_of-result g c =
    let all : c.loop.counter ≡ links c.args.grid.now = omega arith in
    let items : c.loop.links.items ≡ replicate (links c.args.grid.now) unused_channel = c.loop.invariant.links ∙ ap (λ n. replicate n unused_channel) all in
    let rings : c.loop.rings.items ≡ replicate (links c.args.grid.now) [] = c.loop.invariant.rings ∙ ap (λ n. replicate n []) all in
    let P : List Channel → Type 0 = λ channels. IsBank g.row.CAP (record { dims = c.args.grid.now; slots = c.args.slots; channels = channels }) in (
      subst P (sym items) (empty_is_bank g.row.CAP c.args.slots c.args.grid.now c.requires.cap c.links-count.ensures.grid c.requires.slots),
      subst (λ (xs : List Channel). HaveRings xs c.loop.rings.items) (sym items) (subst (HaveRings (replicate (links c.args.grid.now) unused_channel)) (sym rings) (rings_empty (links c.args.grid.now))),
    )
