use Rattle.rank_crews.proofs.job.do_job.Given as goal

abbrev pub ghosts-do_counted : goal.ghosts-do_counted
ghosts-do_counted g a = record { name = a.blank.name; parts = a.blank.parts }
