use Rattle.test_queue_threads.proofs.tests.cleanups.clean_up.Given as goal

-- the queue that was just made
abbrev pub ghosts-clean_up_beside_an_insert : goal.ghosts-clean_up_beside_an_insert
ghosts-clean_up_beside_an_insert g a = record { table = a.blank.table; limits = a.blank.limits }
