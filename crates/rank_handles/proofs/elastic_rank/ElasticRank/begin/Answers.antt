use Rattle.std.proofs.Common.{ℕ, List, Option, Some, None, drop, map, subst}
use Rattle.std.specs.Prelude.{if◌then◌else◌}
use Rattle.rank_handles.specs.Seated.{Seated}
use Rattle.rank_handles.specs.Strings.{ElasticState}
use Rattle.rank_handles.specs.StringCalls.{BeginsStrings}
use Rattle.rank_handles.proofs.StringEpochs.{elastic_begun, strings_begun}
use Rattle.rank_handles.proofs.elastic_rank.ElasticRank.begin.Goals as goal

pub invariant_of-self : goal.invariant_of-self
invariant_of-self c =
    let x = c.self.inside in
    elastic_begun (drop x.pushed x.spelled.items) (map (λ l. l.items) x.begun.items) x.rank c.begin.new.self c.begin.ensures.begins c.self.invariant

pub returns-clause-begins : goal.returns-clause-begins
returns-clause-begins c =
    let x = c.self.inside in let b : Seated = c.begin.new.self in let string : Option (List ℕ) = if x.gave then Some x.letter.items else None in
    subst (λ (z : ElasticState). BeginsStrings z (record { rank = b; pending = drop x.pushed x.spelled.items; string = string })) c.self.view_is
    (strings_begun (drop x.pushed x.spelled.items) string x.rank b c.begin.ensures.begins)
