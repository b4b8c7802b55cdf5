use Rattle.test_queue_threads.proofs.tests.reuses.each_life_is_completed_once.Given as goal

-- the queue that was just made
abbrev pub ghosts-submit_and_cancel : goal.ghosts-submit_and_cancel
ghosts-submit_and_cancel g a = record { table = a.blank.table; limits = a.blank.limits }
