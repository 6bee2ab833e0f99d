use Rattle.std.proofs.Common.{◌≡◌, ℕ, ◌-◌, ◌<◌, length, ap, subst, inl, inr, rules, arith, ◌∙◌}
use Rattle.std.proofs.lemmas.Bool.{cases_eq}
use Rattle.route_tensor.specs.Link.{links}
use Rattle.route_tensor.specs.Ends.{hop_at}
use Rattle.route_tensor.proofs.Ends.{number_ends}
use Rattle.hop_core.specs.State.{State}
use Rattle.convey.proofs.Blocks.{still_blocked}
use Rattle.convey.proofs.Relays.{passed_none, passed_more}
use Rattle.convey.proofs.relaying.relay_all.Goals as goal

pub loop-h-init : goal.loop-h-init
loop-h-init g c = record {
  same_dims = search rules;
  standing = c.known.ensures.standing;
  stopped = λ m below from last. absurd (let all = c.requires.hops in omega arith);
  passed = λ dims rank sent got r. passed_none dims rank c.args.state.now sent got r;
}

pub loop-h-preserved : goal.loop-h-preserved
loop-h-preserved g c =
    let k = c.loop-h.invariant in
    let e = c.relay_one.ensures in
    let old : State = c.loop-h.state in
    let new : State = c.relay_one.new.state in
    let h : ℕ = c.loop-h.h - 1 in
    record {
      same_dims = e.same_dims ∙ k.same_dims;
      standing = e.standing;
      stopped = λ m below from last. elim (cases_eq (hop_at new.dims m) h) [
        | inl same ↦ e.stopped m below same
        | inr ne ↦
            let there : m < links old.dims = subst (λ ds. m < links ds) e.same_dims below in
            let same : hop_at new.dims m ≡ hop_at old.dims m = ap (λ ds. hop_at ds m) e.same_dims in
            still_blocked old new h m e.same_dims e.same_rank e.cap ne (e.ins m below ne) e.outs
            (k.stopped m there (omega arith) (omega (arith, ap length e.same_dims)))
      ];
      passed = λ dims rank sent got r.
          let p = k.passed dims rank sent got r in
          passed_more dims rank c.args.state.now old new sent got p (e.passed dims rank sent got p.ready);
    }

pub returns-clause-stopped : goal.returns-clause-stopped
returns-clause-stopped g c =
    λ m below last.
    let first = (number_ends c.loop-h.state.dims m c.loop-h.invariant.standing.grid below).link.first_hop in
    c.loop-h.invariant.stopped m below (omega arith) last
