use Rattle.std.proofs.Common.{sym, subst, arith, ◌<◌, ◌≡◌}
use Rattle.item_buffer.specs.Contents.{as_shipped}
use Rattle.route_tensor.specs.Link.{links}
use Rattle.route_tensor.specs.Ends.{sender_at}
use Rattle.port_bank.specs.Logs.{lasts, with_parcel, starting_at, ending_at}
use Rattle.port_bank.specs.Relay.{RelayLaw}
use Rattle.port_bank.specs.Plain.{Bank, sent_of, got_of}
use Rattle.port_bank.proofs.Turns.{channel_read, kept_by_post}
use Rattle.port_bank.proofs.Ports.{law_of_all}
use Rattle.port_bank.proofs.Rings.{rings_set}
use Rattle.port_bank.proofs.plain_bank.PlainBank.post.Goals as goal

pub invariant_of-self : goal.invariant_of-self
invariant_of-self g c =
    let b : Bank = record { dims = c.self.inside.grid; slots = c.self.inside.slots; channels = c.self.inside.links.items } in
    let l = c.args.link in
    let within = subst (λ (x : Bank). l < links x.dims) (sym c.self.view_is) c.requires.link in
    let here = channel_read g.row.CAP b l c.index_mut.result.now c.self.invariant.0 within c.index_mut.ensures.value in (
      kept_by_post g.row.CAP b l c.index_mut.result.now c.post.new.self c.post.result c.args.p.now c.self.invariant.0 within here
          (omega (arith, c.known.ensures.within))
          (subst (λ (x : Bank). c.args.p.now.epoch ≡ lasts (sent_of x l)) (sym c.self.view_is) c.requires.epoch)
          (law_of_all b.dims (sender_at b.dims l) (sent_of b) (got_of b) l (as_shipped c.args.p.now) c.self.invariant.0.grid
          (subst (λ (x : Bank). RelayLaw x.dims (sender_at x.dims l) (with_parcel (starting_at x.dims (sender_at x.dims l) (sent_of x)) l (as_shipped c.args.p.now)) (ending_at x.dims (sender_at x.dims l) (got_of x)))
          (sym c.self.view_is) c.requires.law))
          c.post.ensures.does,
      rings_set c.self.inside.links.items c.self.inside.rings.items l c.post.new.self c.post.new.ring c.self.invariant.1 (omega (arith, within, c.self.invariant.0.number)) c.post.ensures.ring,
    )
