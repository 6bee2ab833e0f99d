use Rattle.std.proofs.Common.{◌∙◌, sym, ap, map, take}
use Rattle.bale_words.specs.Clap.{app_named}
use Rattle.bale_words.proofs.Commands.{map_next}
use Rattle.bale_words.proofs.parse.command_of.Goals as goal

pub loop-name-preserved : goal.loop-name-preserved
loop-name-preserved c =
    c.in_ok-command.ensures (map (λ s. s.now) (take c.loop-name.name-index c.args.names.now)) c.loop-name.invariant
    ∙ ap app_named (sym (map_next (λ s. s.now) c.args.names.now c.loop-name.name-index _ c.loop-name-test.true))
