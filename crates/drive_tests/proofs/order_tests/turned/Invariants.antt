use Rattle.drive_tests.proofs.order_tests.turned.Given as goal

abbrev pub ghosts-turned_by : goal.ghosts-turned_by
ghosts-turned_by a = record { name = a.blank.name; parts = a.blank.parts }
