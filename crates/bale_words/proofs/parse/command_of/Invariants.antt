use Rattle.std.proofs.Common.{◌≡◌, map, take}
use Rattle.clap.specs.Words.{app_of}
use Rattle.bale_words.specs.Clap.{app_named}
use Rattle.bale_words.proofs.parse.command_of.Given as goal

abbrev pub invariant-loop-name : goal.invariant-loop-name
invariant-loop-name l = app_of l.command ≡ app_named (map (λ s. s.now) (take l.name-index l.names))
