-- What the sums of columns make of a batch is what they make of its items one by one.
use Rattle.std.proofs.Common.{◌≡◌, ℕ, List, length, refl, ap, sym, subst, ◌∙◌}
use Rattle.std.specs.Vec.{with_items}
use Rattle.std.proofs.lemmas.List.{with_items_is}
use Rattle.round_program.specs.Batches.{all_taken_in}
use Rattle.app_histo_ig.specs.declared.seat.Seat.{Seat}
use Rattle.app_histo_ig.specs.Sums.{sums_rules}
use Rattle.app_histo_ig.specs.code.SumsView.{sums_state}
use Rattle.app_histo_ig.specs.code.Batches.{all_risen}
use Rattle.app_histo_ig.proofs.Taken.{all_risen_len, sums_taken, no_sums, sums_valid}
use Rattle.app_histo_ig.proofs.ig_sums.IgSumsProgram.absorb_each.Goals as goal

pub invariant_of-self : goal.invariant_of-self
invariant_of-self g c =
    let s = sums_state c.self.inside in
    let seat : Seat = record { rank = s.rank; ranks = s.ranks; cols = s.cols } in
    let came = g.I.Arrivals.items c.args.came in
    let is : c.rise_each.new.sums ≡ all_risen seat s.sums came = c.rise_each.ensures ∙ ap (λ l. all_risen seat l came) c.deref_mut.ensures.value in
    let len = ap length is ∙ all_risen_len seat s.sums came ∙ sym (ap length c.deref_mut.ensures.value) ∙ c.deref_mut.ensures.len in
    let new : (with_items c.self.inside.sums c.rise_each.new.sums).items ≡ all_risen seat s.sums came = with_items_is c.self.inside.sums c.rise_each.new.sums len ∙ is in
    sums_valid s seat came _ c.self.invariant new

pub returns-then-self-eq0-clause-absorbed : goal.returns-then-self-eq0-clause-absorbed
returns-then-self-eq0-clause-absorbed g c =
    let s = sums_state c.self.inside in
    let seat : Seat = record { rank = s.rank; ranks = s.ranks; cols = s.cols } in
    let came = g.I.Arrivals.items c.args.came in
    let is : c.rise_each.new.sums ≡ all_risen seat s.sums came = c.rise_each.ensures ∙ ap (λ l. all_risen seat l came) c.deref_mut.ensures.value in
    let len = ap length is ∙ all_risen_len seat s.sums came ∙ sym (ap length c.deref_mut.ensures.value) ∙ c.deref_mut.ensures.len in
    let new : (with_items c.self.inside.sums c.rise_each.new.sums).items ≡ all_risen seat s.sums came = with_items_is c.self.inside.sums c.rise_each.new.sums len ∙ is in
    ap (λ (l : List ℕ). record s { sums = l }) new
    ∙ sym (sums_taken s seat came c.if-self-eq0.true (record { own = refl; all = refl; wide = refl }))
    ∙ ap (λ t. all_taken_in sums_rules t came) c.self.view_is

pub returns-else-self-eq0-clause-absorbed : goal.returns-else-self-eq0-clause-absorbed
returns-else-self-eq0-clause-absorbed g c =
    let came = g.I.Arrivals.items c.args.came in
    sym (subst (λ t. all_taken_in sums_rules t came ≡ t) c.self.view_is (no_sums (sums_state c.self.inside) came c.if-self-eq0.false))
