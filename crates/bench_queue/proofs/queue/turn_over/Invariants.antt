use Rattle.bench_queue.proofs.queue.turn_over.Given as goal

-- the queue that was just made
abbrev pub ghosts-turn : goal.ghosts-turn
ghosts-turn g a = record { table = a.blank.table; limits = a.blank.limits }
