use Rattle.std.proofs.Common.{All, subst}
use Rattle.std.specs.Arc.{arc_value}
use Rattle.elastic.specs.Spelling.{IsLetter}
use Rattle.app_tally.proofs.Shared.{shared_letters}
use Rattle.app_tally.proofs.share.Share.len.Goals as goal

pub returns-clause-letters : goal.returns-clause-letters
returns-clause-letters c =
    subst (All IsLetter) c.self.view_is
    (shared_letters c.self.inside.ranks c.self.inside.rank c.self.inside.len (arc_value c.self.inside.lines) (subst (All IsLetter) c.deref.ensures c.len-lines.ensures.letters))
