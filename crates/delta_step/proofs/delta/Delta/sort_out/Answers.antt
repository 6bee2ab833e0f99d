use Rattle.std.proofs.Common.{◌^◌, ◌-◌, ◌+◌, ap, ◌∙◌, length, rules}
use Rattle.least_walks.specs.Tables.{table_of}
use Rattle.delta_step.specs.Deltas.{finding, sorted_out}
use Rattle.delta_step.specs.code.DeltaView.{delta_state}
use Rattle.delta_step.proofs.Steps.{sorted_from, sorted_is}
use Rattle.delta_step.proofs.delta.Delta.sort_out.Goals as goal

pub invariant_of-self-2 : goal.invariant_of-self-2
invariant_of-self-2 c =
    sorted_from (delta_state c.self.inside) c.saturating_add-self-inside.result c.begin_finding.new.bucket c.replace.new.dest c.in_ok-light.light c.in_ok-heavy.heavy c.announce.new.vertices c.begin_finding.new.settled.items c.swap.new.x.items
    c.self.invariant c.saturating_add-self-inside.ensures (c.replace.ensures.after ∙ c.new.ensures)
    (c.in_ok-light.ensures
    ∙ ap (λ n. table_of c.self.inside.ranks n 0 c.self.inside.width c.deref.result.now) c.len-places.ensures
    ∙ ap (table_of c.self.inside.ranks (length c.self.inside.vertices) 0 c.self.inside.width) (c.deref.ensures.value ∙ c.into_entries-entries.ensures.entries ∙ c.replace.ensures.value))
    (c.in_ok-heavy.ensures
    ∙ ap (λ n. table_of c.self.inside.ranks n (c.self.inside.width + 1) (2 ^ 64 - 1) c.deref-2.result.now) c.len-places.ensures
    ∙ ap (table_of c.self.inside.ranks (length c.self.inside.vertices) (c.self.inside.width + 1) (2 ^ 64 - 1)) (c.deref-2.ensures.value ∙ c.into_entries-entries.ensures.entries ∙ c.replace.ensures.value))
    c.announce.ensures.same c.begin_finding.ensures.bucket c.begin_finding.ensures.settled (ap (λ v. v.items) c.swap.ensures.x_after ∙ c.in_ok-announce.ensures.told)

pub returns : goal.returns
returns c = record {
  ok =
      sorted_is (delta_state c.self.inside) c.saturating_add-self-inside.result c.begin_finding.new.bucket c.replace.new.dest c.in_ok-light.light c.in_ok-heavy.heavy c.announce.new.vertices c.begin_finding.new.settled.items c.swap.new.x.items
      c.saturating_add-self-inside.ensures (c.replace.ensures.after ∙ c.new.ensures)
      (c.in_ok-light.ensures
      ∙ ap (λ n. table_of c.self.inside.ranks n 0 c.self.inside.width c.deref.result.now) c.len-places.ensures
      ∙ ap (table_of c.self.inside.ranks (length c.self.inside.vertices) 0 c.self.inside.width) (c.deref.ensures.value ∙ c.into_entries-entries.ensures.entries ∙ c.replace.ensures.value))
      (c.in_ok-heavy.ensures
      ∙ ap (λ n. table_of c.self.inside.ranks n (c.self.inside.width + 1) (2 ^ 64 - 1) c.deref-2.result.now) c.len-places.ensures
      ∙ ap (table_of c.self.inside.ranks (length c.self.inside.vertices) (c.self.inside.width + 1) (2 ^ 64 - 1)) (c.deref-2.ensures.value ∙ c.into_entries-entries.ensures.entries ∙ c.replace.ensures.value))
      c.announce.ensures.same c.begin_finding.ensures.bucket c.begin_finding.ensures.settled (ap (λ v. v.items) c.swap.ensures.x_after ∙ c.in_ok-announce.ensures.told)
      ∙ ap (λ s. finding (sorted_out s)) c.self.view_is;
  err = search rules;
}
