use Rattle.std.proofs.Common.{◌≢◌, ℕ, Bool, List, Option, Some, None, drop, map, sym, ap, ◌∙◌, subst}
use Rattle.std.specs.Prelude.{is_ok, if◌then◌else◌}
use Rattle.hop_core.specs.declared.phase.Phase.TheVariants.{Dormant}
use Rattle.rank_handles.specs.Seated.{Seated}
use Rattle.rank_handles.specs.Strings.{ElasticState}
use Rattle.rank_handles.specs.StringCalls.{PullsString}
use Rattle.rank_handles.proofs.StringPulls.{only_of, elastic_read, strings_pulled, none_begun_yet}
use Rattle.rank_handles.proofs.elastic_rank.ElasticRank.pull.Goals as goal

pub returns-then-not-has_begun : goal.returns-then-not-has_begun
returns-then-not-has_begun c = none_begun_yet c.args.self.now (c.has_begun.ensures.dormant c.if-not-has_begun.true)

pub invariant_of-self : goal.invariant_of-self
invariant_of-self c =
    let x = c.self.inside in let pulled = c.pull_string-pulled in
    elastic_read (drop x.pushed x.spelled.items) (map (λ l. l.items) x.begun.items) (map (λ l. l.items) pulled.new.begun.items) x.rank pulled.new.rank
    (only_of pulled.result pulled.new.letter.items x.rank pulled.new.rank pulled.ensures.pulled) c.self.invariant pulled.ensures.read

pub returns : goal.returns
returns c =
    let x = c.self.inside in let pulled = c.pull_string-pulled in
    let p = drop x.pushed x.spelled.items in let l : List ℕ = pulled.new.letter.items in let b : Seated = pulled.new.rank in
    let begun : x.rank.state.phase ≢ Dormant = λ e. c.has_begun.ensures.begun c.if-not-has_begun.false (ap (λ (z : ElasticState). z.rank.state.phase) (sym c.self.view_is) ∙ e) in
    let string : Option (List ℕ) = if x.gave then Some x.letter.items else None in
    subst (λ (g : Bool). PullsString pulled.result c.args.self.now (record { rank = b; pending = p; string = if g then Some l else None })) (sym c.is_ok-self-inside.ensures.value)
    (subst (λ (z : ElasticState). PullsString pulled.result z (record { rank = b; pending = p; string = if is_ok pulled.result then Some l else None })) c.self.view_is
    (strings_pulled pulled.result p string l x.rank b begun pulled.ensures.pulled))
