use Rattle.test_queue_threads.proofs.tests.held_lock.cancel_over.Given as goal

-- the queue that was just made
abbrev pub ghosts-cancel_at_the_lock : goal.ghosts-cancel_at_the_lock
ghosts-cancel_at_the_lock g a = record { table = a.blank.table; limits = a.blank.limits }
