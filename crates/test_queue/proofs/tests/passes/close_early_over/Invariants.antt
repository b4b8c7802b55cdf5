use Rattle.test_queue.proofs.tests.passes.close_early_over.Given as goal

-- the queue that was just made
abbrev pub ghosts-close_early : goal.ghosts-close_early
ghosts-close_early g a = record { table = a.blank.table; limits = a.blank.limits }
