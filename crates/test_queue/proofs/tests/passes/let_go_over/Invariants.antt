use Rattle.test_queue.proofs.tests.passes.let_go_over.Given as goal

-- the queue that was just made
abbrev pub ghosts-close_without_a_pass : goal.ghosts-close_without_a_pass
ghosts-close_without_a_pass g a = record { table = a.blank.table; limits = a.blank.limits }
