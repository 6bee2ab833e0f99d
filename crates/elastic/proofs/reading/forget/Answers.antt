use Rattle.std.proofs.Common.{map, slice_set, ap, ◌∙◌}
use Rattle.list_laws.proofs.Lists.{map_set}
use Rattle.elastic.proofs.reading.forget.Goals as goal

pub returns : goal.returns
returns c =
    map_set (λ l. l.items) c.args.begun.now.items c.args.from c.clear.new.self
    ∙ ap (slice_set (map (λ l. l.items) c.args.begun.now.items) c.args.from) c.clear.ensures.items
