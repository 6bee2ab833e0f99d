-- The state of a rank, read from the fields.
use Rattle.components.specs.declared.labels.Labels.TheInside.{Inside}
use Rattle.components.specs.LabelRules.{LabelState}

abbrev pub label_state : Inside → LabelState
label_state s =
    record {
      rank = s.rank;
      ranks = s.ranks;
      round = s.round;
      links = s.links.items;
      active = s.active.items;
      labels = s.labels;
    }
