use Rattle.std.proofs.Common.{◌∙◌, ◌+◌, ◌≤◌, sym, ap, length, drop, sum, arith}
use Rattle.std.specs.List.{list_all}
use Rattle.std.proofs.lemmas.List.{length-drop, get_or-drop}
use Rattle.route_tensor.specs.Link.{links_before}
use Rattle.hop_core.specs.Link.{Out, In, no_in, is_empty, is_finished}
use Rattle.hop_core.specs.State.{phase_of, ins_of_hop}
use Rattle.hop_core.proofs.Counts.{none_fails, not_all_pass, ended_finished, coming_unfinished}
use Rattle.hop_core.proofs.Standing.{last_ins}
use Rattle.hop_core.proofs.Epochs.{phase_working, phase_endgame, phase_cleanup, phase_complete}
use Rattle.hop_core.proofs.state.RankState.current_phase.Goals as goal

pub returns-then-not-self : goal.returns-then-not-self
returns-then-not-self g c = sym (ap phase_of (sym c.self.view_is) ∙ phase_working _ c.if-not-self.true)

pub returns-then-self-gt0 : goal.returns-then-self-gt0
returns-then-self-gt0 g c = sym (ap phase_of (sym c.self.view_is) ∙ phase_endgame _ c.if-not-self.false (not_all_pass (λ (o : Out). o.closed) c.self.inside.outs.items (omega (arith, c.self.invariant.1.open_is, c.if-self-gt0.true))))

pub returns-then-self-gt0-2 : goal.returns-then-self-gt0-2
returns-then-self-gt0-2 g c =
    let k = c.self.invariant.1 in
    let b = links_before c.self.inside.routes.dims (length c.self.inside.routes.dims) in
    let closed = none_fails (λ (o : Out). o.closed) c.self.inside.outs.items (omega (arith, k.open_is, c.if-self-gt0.false)) in
    let some = not_all_pass (λ (x : In). x.ended) (drop b c.self.inside.ins.items) (omega (arith, k.coming_is, c.if-self-gt0-2.true)) in
    sym (ap phase_of (sym c.self.view_is) ∙ phase_cleanup _ c.if-not-self.false closed (ap (list_all is_finished) (last_ins _ k.standing) ∙ coming_unfinished (drop b c.self.inside.ins.items) some))

pub returns-then-self-neighbours : goal.returns-then-self-neighbours
returns-then-self-neighbours g c =
    let k = c.self.invariant.1 in
    let b = links_before c.self.inside.routes.dims (length c.self.inside.routes.dims) in
    let ins = c.self.inside.ins.items in
    let closed = none_fails (λ (o : Out). o.closed) c.self.inside.outs.items (omega (arith, k.open_is, c.if-self-gt0.false)) in
    let ended = none_fails (λ (x : In). x.ended) (drop b ins) (omega (arith, k.coming_is, c.if-self-gt0-2.false)) in
    let high : sum c.self.inside.routes.dims ≤ c.self.inside.from = omega (arith, c.neighbours.ensures.value, c.if-self-neighbours.true) in
    sym (ap phase_of (sym c.self.view_is) ∙ phase_complete _ c.if-not-self.false closed (ap (list_all is_finished) (last_ins _ k.standing) ∙ ended_finished (drop b ins) ended (λ i q. ap (λ (x : In). is_empty x.parcel) (get_or-drop b ins i no_in) ∙ k.from_none (b + i) (omega arith) (omega (arith, q, length-drop b ins, k.standing.all_ins, high)))))

pub returns-then-not-hop_finished : goal.returns-then-not-hop_finished
returns-then-not-hop_finished g c =
    let closed = none_fails (λ (o : Out). o.closed) c.self.inside.outs.items (omega (arith, c.self.invariant.1.open_is, c.if-self-gt0.false)) in
    sym (ap phase_of (sym c.self.view_is) ∙ phase_cleanup _ c.if-not-self.false closed (ap (λ n. list_all is_finished (ins_of_hop c.self.inside.routes.dims c.self.inside.ins.items n)) c.self.invariant.0 ∙ ap (λ xs. list_all is_finished (ins_of_hop c.self.inside.routes.dims xs g.row.HOPS)) (sym c.deref.ensures.value) ∙ sym c.hop_finished.ensures ∙ c.if-not-hop_finished.true))

pub returns : goal.returns
returns g c =
    let closed = none_fails (λ (o : Out). o.closed) c.self.inside.outs.items (omega (arith, c.self.invariant.1.open_is, c.if-self-gt0.false)) in
    sym (ap phase_of (sym c.self.view_is) ∙ phase_complete _ c.if-not-self.false closed (ap (λ n. list_all is_finished (ins_of_hop c.self.inside.routes.dims c.self.inside.ins.items n)) c.self.invariant.0 ∙ ap (λ xs. list_all is_finished (ins_of_hop c.self.inside.routes.dims xs g.row.HOPS)) (sym c.deref.ensures.value) ∙ sym c.hop_finished.ensures ∙ c.if-not-hop_finished.false))
