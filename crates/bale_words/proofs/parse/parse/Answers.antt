use Rattle.std.proofs.Common.{◌≡◌, ◌∙◌, ap, ap₂, subst, map, List, ℕ}
use Rattle.std.proofs.lemmas.Result.{IfOk-weaker}
use Rattle.clap.specs.Words.{app_of, found_of}
use Rattle.clap.specs.Walk.{first_of}
use Rattle.clap.specs.Simple.{is_simple, matches_of}
use Rattle.clap.specs.Faults.{fault_of, is_simple_and_free}
use Rattle.clap.specs.Kinds.{FailsBy}
use Rattle.clap.proofs.WalkLemmas.{first_value-rows}
use Rattle.bale_words.specs.Clap.{app_named}
use Rattle.bale_words.proofs.Walks.{simple, simple_and_free, no_fault, rows_are, value_is, fails_none}
use Rattle.bale_words.proofs.parse.parse.Goals as goal

pub returns-clause-ok : goal.returns-clause-ok
returns-clause-ok c = λ gs words ok.
    let names : List (List ℕ) = map (λ s. s.now) c.args.names.now in
    let command : app_of c.in_ok-command.command ≡ app_named names = c.in_ok-command.ensures in
    IfOk-weaker c.try_get_matches_from.result _ _
    (λ m h n.
    first_value-rows (found_of m) n
    ∙ (ap (first_of n) ((h (ap is_simple command ∙ simple names)).0 ∙ (ap₂ matches_of command words ∙ rows_are names gs c.requires ok)) ∙ value_is n gs))
    c.try_get_matches_from.ensures.matches

pub returns-clause-err : goal.returns-clause-err
returns-clause-err c = λ gs words ok.
    let names : List (List ℕ) = map (λ s. s.now) c.args.names.now in
    let command : app_of c.in_ok-command.command ≡ app_named names = c.in_ok-command.ensures in
    fails_none c.try_get_matches_from.result
    (subst (λ k. FailsBy k c.try_get_matches_from.result) (ap₂ fault_of command words ∙ no_fault names gs c.requires ok)
    (c.try_get_matches_from.ensures.kinds (ap is_simple_and_free command ∙ simple_and_free names)))
