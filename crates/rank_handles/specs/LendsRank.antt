-- What a rank's handle has, once a loan of its rank is over.
use Rattle.std.specs.Prelude.{Option, true, refl}
use Rattle.std.specs.Borrow.{LendsIf, MutBor, Fml}
use Rattle.rank_handles.specs.declared.handle.BaleRank.{BaleRank}
use Rattle.rank_handles.specs.contracts.handle.BaleRank.{the_row as handle_row}
use Rattle.rank_handles.specs.contracts.cases.AnyRank.{the_row as rank_row}
use Rattle.rank_handles.specs.Seated.{Seated}
use Rattle.rank_handles.specs.Lends.{with_rank}

-- h with another rank
abbrev pub having : BaleRank → Seated → BaleRank
having h rank = record { held = with_rank h.held rank; live = true; told = refl }

-- once the borrow r ends, the handle has the rank that was left behind r; if nothing was lent,
-- it is as it was
abbrev pub lends_rank_of : MutBor BaleRank → Option (MutBor Seated) → Fml
lends_rank_of h r = LendsIf handle_row rank_row h r (having h.now) h.now
