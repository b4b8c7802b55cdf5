use Rattle.test_queue.proofs.tests.put_backs.run.Given as goal

-- the queue that was just made
abbrev pub ghosts-begin_and_end : goal.ghosts-begin_and_end
ghosts-begin_and_end g a = record { table = a.blank.table; limits = a.blank.limits }
