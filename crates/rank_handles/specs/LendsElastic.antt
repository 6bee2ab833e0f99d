-- What an elastic rank's handle has, once a loan of its rank is over.
use Rattle.std.specs.Prelude.{Option, true, refl}
use Rattle.std.specs.Borrow.{LendsIf, MutBor, Fml}
use Rattle.rank_handles.specs.declared.elastic_handle.BaleElastic.{BaleElastic}
use Rattle.rank_handles.specs.contracts.elastic_handle.BaleElastic.{the_row as handle_row}
use Rattle.rank_handles.specs.contracts.elastic_rank.ElasticRank.{the_row as elastic_row}
use Rattle.rank_handles.specs.Strings.{ElasticState}
use Rattle.rank_handles.specs.Lends.{with_elastic}

-- h with another elastic rank
abbrev pub having_elastic : BaleElastic → ElasticState → BaleElastic
having_elastic h rank = record { held = with_elastic h.held rank; live = true; told = refl }

-- once the borrow r ends, the handle has the rank that was left behind r; if nothing was lent,
-- it is as it was
abbrev pub lends_elastic_of : MutBor BaleElastic → Option (MutBor ElasticState) → Fml
lends_elastic_of h r = LendsIf handle_row elastic_row h r (having_elastic h.now) h.now
