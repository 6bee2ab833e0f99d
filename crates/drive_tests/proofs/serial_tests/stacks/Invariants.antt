use Rattle.drive_tests.proofs.serial_tests.stacks.Given as goal

abbrev pub ghosts-count_stacks : goal.ghosts-count_stacks
ghosts-count_stacks a = record { name = a.blank.name; parts = a.blank.parts }
