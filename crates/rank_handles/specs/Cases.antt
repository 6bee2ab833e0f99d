-- A rank and a group, whatever their case.
use Rattle.rank_handles.specs.declared.cases.HopsCase.{HopsCase}
use Rattle.rank_handles.specs.declared.cases.HopsCase.TheVariants.{One, Two, Three}
use Rattle.rank_handles.specs.declared.cases.CapacityCase.{CapacityCase}
use Rattle.rank_handles.specs.declared.cases.CapacityCase.TheVariants as rank
use Rattle.rank_handles.specs.declared.cases.GroupCase.{GroupCase}
use Rattle.rank_handles.specs.declared.cases.GroupCase.TheVariants as group
use Rattle.rank_handles.specs.Seated.{Seated}
use Rattle.rank_handles.specs.Grouped.{Grouped}

abbrev pub seen_by_hops : {cap : _} → HopsCase cap → Seated
seen_by_hops (One r) = r
seen_by_hops (Two r) = r
seen_by_hops (Three r) = r

abbrev pub seen_by_capacity : CapacityCase → Seated
seen_by_capacity (rank.Of1 r) = seen_by_hops r
seen_by_capacity (rank.Of2 r) = seen_by_hops r
seen_by_capacity (rank.Of4 r) = seen_by_hops r
seen_by_capacity (rank.Of8 r) = seen_by_hops r
seen_by_capacity (rank.Of16 r) = seen_by_hops r
seen_by_capacity (rank.Of32 r) = seen_by_hops r
seen_by_capacity (rank.Of64 r) = seen_by_hops r
seen_by_capacity (rank.Of128 r) = seen_by_hops r
seen_by_capacity (rank.Of256 r) = seen_by_hops r
seen_by_capacity (rank.Of512 r) = seen_by_hops r
seen_by_capacity (rank.Of1024 r) = seen_by_hops r

abbrev pub seen_group : GroupCase → Grouped
seen_group (group.Of1 g) = g
seen_group (group.Of2 g) = g
seen_group (group.Of4 g) = g
seen_group (group.Of8 g) = g
seen_group (group.Of16 g) = g
seen_group (group.Of32 g) = g
seen_group (group.Of64 g) = g
seen_group (group.Of128 g) = g
seen_group (group.Of256 g) = g
seen_group (group.Of512 g) = g
seen_group (group.Of1024 g) = g
