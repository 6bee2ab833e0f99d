use Rattle.rank_crews.proofs.threads.run_together.Given as goal

-- the run of this gate
abbrev pub ghosts-run_workers : goal.ghosts-run_workers
ghosts-run_workers g a = record { notified = g.G.Gate.notified a.gate.now }
