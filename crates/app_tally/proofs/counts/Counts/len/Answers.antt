use Rattle.std.proofs.Common.{◌≡◌, length, rules, sym, ap, ◌∙◌}
use Rattle.app_tally.proofs.Counted.{entries_count}
use Rattle.app_tally.proofs.counts.Counts.len.Goals as goal

pub returns : goal.returns
returns c =
    let n : c.len.result ≡ length c.self.inside.times.items = search rules in
    n ∙ sym (entries_count c.self.inside.lines c.self.inside.times.items c.self.invariant) ∙ ap length c.self.view_is
