use Rattle.std.proofs.Common.{rules, ◌≡◌, ◌∙◌, ap₂}
use Rattle.std.proofs.lemmas.Result.{IfOk-weaker}
use Rattle.clap.specs.Simple.{with_rule}
use Rattle.clap.specs.Words.{rule_of}
use Rattle.bale_words.specs.Clap.{option_rule}
use Rattle.bale_words.proofs.Commands.{app_more}
use Rattle.bale_words.proofs.parse.with_option.Goals as goal

pub returns : goal.returns
returns c = λ names e.
    let rule : rule_of c.long.result ≡ option_rule c.args.name.now = search rules in
    IfOk-weaker c.arg.result _ _ (λ r h. h.shape (search rules) ∙ (ap₂ with_rule e rule ∙ app_more names c.args.name.now)) c.arg.ensures
