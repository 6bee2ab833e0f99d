use Rattle.rank_group.proofs.defaults.in_turn.Given as goal

abbrev pub ghosts-in_turn_counted : goal.ghosts-in_turn_counted
ghosts-in_turn_counted g a = record { name = a.blank.name; parts = a.blank.parts }
