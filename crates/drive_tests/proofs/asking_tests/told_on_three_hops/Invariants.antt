use Rattle.drive_tests.proofs.asking_tests.told_on_three_hops.Given as goal

abbrev pub ghosts-on_three_hops : goal.ghosts-on_three_hops
ghosts-on_three_hops a = record { name = a.blank.name; parts = a.blank.parts }
