use Rattle.drive_tests.proofs.refused_tests.refused_serially.Given as goal

abbrev pub ghosts-is_refused_serially : goal.ghosts-is_refused_serially
ghosts-is_refused_serially a = record { name = a.blank.name; parts = a.blank.parts }
