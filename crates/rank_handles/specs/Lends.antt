-- What a handle has, once a loan of its part is over.
use Rattle.std.specs.Prelude.{Some}
use Rattle.std.specs.Borrow.{Lends, MutBor, Fml}
use Rattle.rank_handles.specs.declared.part.Part.{Part}
use Rattle.rank_handles.specs.declared.held.Held.{Held}
use Rattle.rank_handles.specs.contracts.held.Held.{the_row as held_row}
use Rattle.rank_handles.specs.contracts.part.Part.{the_row as part_row}
use Rattle.rank_handles.specs.contracts.cases.AnyRank.{the_row as rank_row}
use Rattle.rank_handles.specs.contracts.elastic_rank.ElasticRank.{the_row as elastic_row}
use Rattle.rank_handles.specs.declared.part.Part.TheVariants.{Rank, Elastic}
use Rattle.rank_handles.specs.Seated.{Seated}
use Rattle.rank_handles.specs.Strings.{ElasticState}

-- h with another part
abbrev pub with_part : Held → Part → Held
with_part h part = record h { value = Some part }

-- once the borrow r ends, the handle has the part that was left behind r
abbrev pub lends_part : MutBor Held → MutBor Part → Fml
lends_part h r = Lends held_row part_row h r (with_part h.now)

-- h with another rank
abbrev pub with_rank : Held → Seated → Held
with_rank h rank = with_part h (Rank rank)

-- once the borrow r ends, the handle has the rank that was left behind r
abbrev pub lends_rank : MutBor Held → MutBor Seated → Fml
lends_rank h r = Lends held_row rank_row h r (with_rank h.now)

-- h with another elastic rank
abbrev pub with_elastic : Held → ElasticState → Held
with_elastic h rank = with_part h (Elastic rank)

-- once the borrow r ends, the handle has the elastic rank that was left behind r
abbrev pub lends_elastic : MutBor Held → MutBor ElasticState → Fml
lends_elastic h r = Lends held_row elastic_row h r (with_elastic h.now)
