use Rattle.std.proofs.Common.{◌+◌, ◌-◌, ◌/◌, length, ap, ◌∙◌}
use Rattle.std.specs.Arc.{arc_value}
use Rattle.app_tally.proofs.Shared.{all_shared, all_are}
use Rattle.app_tally.proofs.share.Share.new.Goals as goal

pub invariant_of-result : goal.invariant_of-result
invariant_of-result c =
    all_shared c.args.ranks c.args.rank c.how_many-len.result (arc_value c.args.lines) c.requires.rank.below
    (c.how_many-len.ensures ∙ ap (λ n. (n + (c.args.ranks - 1 - c.args.rank)) / c.args.ranks) (c.len.ensures.value ∙ ap length c.deref.ensures)) c.requires.few

pub returns : goal.returns
returns c =
    all_are c.args.ranks c.args.rank c.how_many-len.result (arc_value c.args.lines) c.requires.rank.below
    (c.how_many-len.ensures ∙ ap (λ n. (n + (c.args.ranks - 1 - c.args.rank)) / c.args.ranks) (c.len.ensures.value ∙ ap length c.deref.ensures))
