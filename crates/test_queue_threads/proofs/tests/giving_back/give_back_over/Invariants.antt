use Rattle.test_queue_threads.proofs.tests.giving_back.give_back_over.Given as goal

-- the queue that was just made
abbrev pub ghosts-give_back_at_the_lock : goal.ghosts-give_back_at_the_lock
ghosts-give_back_at_the_lock g a = record { table = a.blank.table; limits = a.blank.limits }
