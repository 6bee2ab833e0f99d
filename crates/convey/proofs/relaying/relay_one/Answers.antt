use Rattle.std.proofs.Common.{◌≡◌, ◌≢◌, ℕ, ◌+◌, ◌<◌, sym, subst}
use Rattle.route_tensor.specs.Link.{links}
use Rattle.route_tensor.specs.Ends.{hop_at}
use Rattle.hop_core.specs.State.{State}
use Rattle.hop_core.specs.Standing.{IsState}
use Rattle.convey.specs.Buffers.{out_of, in_of}
use Rattle.convey.specs.Due.{IsBlocked}
use Rattle.convey.specs.AdvanceSteps.{PassedOn}
use Rattle.convey.proofs.Relays.{relayed_one}
use Rattle.convey.proofs.Blocks.{blocked_here, same_ins, same_outs}
use Rattle.convey.proofs.relaying.relay_one.Goals as goal

pub returns-clause-passed : goal.returns-clause-passed
returns-clause-passed g c =
    let st : State = c.args.state.now in
    let e = c.relay.ensures in
    let new : State = c.relay.new.self in
    let t = subst IsState e.rest c.known-2.ensures.standing in
    λ dims rank sent got r. subst (λ n. PassedOn dims rank st n sent got) (sym e.rest)
    (relayed_one st new.outs new.ins c.args.h c.known.ensures.standing c.requires.first c.requires.last e.relays.adds e.relays.takes t e.relays.held dims rank sent got r)

pub returns-clause-stopped : goal.returns-clause-stopped
returns-clause-stopped g c =
    let st : State = c.args.state.now in
    let e = c.relay.ensures in
    let new : State = c.relay.new.self in
    let t = subst IsState e.rest c.known-2.ensures.standing in
    subst (λ (n : State). (l : ℕ) → l < links n.dims → hop_at n.dims l ≡ c.args.h → IsBlocked n l) (sym e.rest)
    (blocked_here st new.outs new.ins c.args.h c.requires.first c.requires.last t e.relays.stopped)

pub returns-clause-ins : goal.returns-clause-ins
returns-clause-ins g c =
    let st : State = c.args.state.now in
    let e = c.relay.ensures in
    let new : State = c.relay.new.self in
    subst (λ (n : State). (l : ℕ) → l < links n.dims → hop_at n.dims l ≢ c.args.h → in_of n l ≡ in_of st l) (sym e.rest)
    (same_ins st new.ins c.args.h c.known.ensures.standing e.relays.takes)

pub returns-clause-outs : goal.returns-clause-outs
returns-clause-outs g c =
    let st : State = c.args.state.now in
    let e = c.relay.ensures in
    let new : State = c.relay.new.self in
    subst (λ (n : State). (l : ℕ) → l < links n.dims → hop_at n.dims l ≢ c.args.h + 1 → out_of n l ≡ out_of st l) (sym e.rest)
    (same_outs st new.outs (c.args.h + 1) c.known.ensures.standing e.relays.adds)
