use Rattle.bale_runs.proofs.exchange.run_command.Given as goal

abbrev pub ghosts-run_uncounted : goal.ghosts-run_uncounted
ghosts-run_uncounted g a = record { name = a.blank.name; parts = a.blank.parts }
