-- What traffic makes of a batch is what it makes of its items one by one.
use Rattle.std.proofs.Common.{◌≡◌, ℕ, List, length, ap, sym, subst, ◌∙◌}
use Rattle.std.specs.Vec.{with_items}
use Rattle.std.proofs.lemmas.List.{with_items_is}
use Rattle.round_program.specs.Batches.{all_taken_in}
use Rattle.round_examples.specs.Traffics.{traffic_rules}
use Rattle.round_examples.specs.code.TrafficView.{traffic_state}
use Rattle.round_examples.specs.code.TrafficBatches.{all_counted}
use Rattle.round_examples.proofs.TrafficBatches.{all_raised_len, counts_taken, none_taken}
use Rattle.round_examples.proofs.traffic.TrafficProgram.absorb_each.Goals as goal

pub returns-then-self-eq0-clause-absorbed : goal.returns-then-self-eq0-clause-absorbed
returns-then-self-eq0-clause-absorbed g c =
    let s = traffic_state c.self.inside in
    let came = g.I.Arrivals.items c.args.came in
    let is : c.count_each-self-inside.new.counts ≡ all_counted s.ranks s.counts came = c.count_each-self-inside.ensures.counts ∙ ap (λ l. all_counted s.ranks l came) c.deref_mut.ensures.value in
    let len = ap length is ∙ all_raised_len s.ranks s.counts came ∙ sym (ap length c.deref_mut.ensures.value) ∙ c.deref_mut.ensures.len in
    let new : (with_items c.self.inside.counts c.count_each-self-inside.new.counts).items ≡ all_counted s.ranks s.counts came = with_items_is c.self.inside.counts c.count_each-self-inside.new.counts len ∙ is in
    ap (λ (l : List ℕ). record s { counts = l; check = c.count_each-self-inside.result }) new
    ∙ ap (λ n. record s { counts = all_counted s.ranks s.counts came; check = n }) c.count_each-self-inside.ensures.check
    ∙ sym (counts_taken s s.counts s.check came c.if-self-eq0.true c.self.invariant.own)
    ∙ ap (λ t. all_taken_in traffic_rules t came) c.self.view_is

pub returns-else-self-eq0-clause-absorbed : goal.returns-else-self-eq0-clause-absorbed
returns-else-self-eq0-clause-absorbed g c =
    let came = g.I.Arrivals.items c.args.came in
    sym (subst (λ t. all_taken_in traffic_rules t came ≡ t) c.self.view_is (none_taken (traffic_state c.self.inside) came c.if-self-eq0.false))
