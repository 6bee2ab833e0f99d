use Rattle.drive_tests.proofs.serial_tests.counts.Given as goal

abbrev pub ghosts-count_all : goal.ghosts-count_all
ghosts-count_all a = record { name = a.blank.name; parts = a.blank.parts }
