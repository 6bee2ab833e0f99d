use Rattle.std.proofs.Common.{Option, sym, subst}
use Rattle.rank_handles.specs.Strings.{ElasticState}
use Rattle.rank_handles.specs.StringCalls.{StringLentBy}
use Rattle.bale_c.proofs.elastic_calls.bale_elastic_string.Goals as goal

pub returns-in-Some-string-clause-lent : goal.returns-in-Some-string-clause-lent
unfolding StringLentBy
returns-in-Some-string-clause-lent c =
    λ _. subst (λ (o : Option ElasticState). StringLentBy c.in-Some-string.bytes.now o) c.in-Some.ensures.value (sym c.in-Some-string.ensures)
