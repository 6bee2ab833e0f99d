use Rattle.std.proofs.Common.{map, string_bytes}
use Rattle.bale_words.specs.Options.{given_of}
use Rattle.bale_words.proofs.Within.{read_is}
use Rattle.bale_words.proofs.read.read_command.Goals as goal

pub returns-in-Some-read_application-clause-ranges : goal.returns-in-Some-read_application-clause-ranges
returns-in-Some-read_application-clause-ranges c =
    read_is c.in-Some-read_application.application (given_of (map string_bytes c.in-Some.rest.now)) c.read_options.result c.read_options.ensures
