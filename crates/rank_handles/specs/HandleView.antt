-- What a handle shows.
use Rattle.std.specs.Prelude.{Option}
use Rattle.rank_handles.specs.declared.handle.BaleGroup.{BaleGroup}
use Rattle.rank_handles.specs.declared.handle.BaleRank.{BaleRank}
use Rattle.rank_handles.specs.declared.elastic_handle.BaleElastic.{BaleElastic}
use Rattle.rank_handles.specs.Grouped.{Grouped}
use Rattle.rank_handles.specs.Seated.{Seated}
use Rattle.rank_handles.specs.Strings.{ElasticState}
use Rattle.rank_handles.specs.Handles.{rank_in, group_in, elastic_in}

abbrev pub seated_rank : BaleRank → Option Seated
seated_rank h = rank_in h.held.value

abbrev pub elastic_of : BaleElastic → Option ElasticState
elastic_of h = elastic_in h.held.value

abbrev pub group_of : BaleGroup → Option Grouped
group_of h = group_in h.held.value
