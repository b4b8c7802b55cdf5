use Rattle.test_queue.proofs.tests.conclusions.a_pass_that_learned_of_a_cancel_finds_it.Given as goal

-- the queue that was just made
abbrev pub ghosts-tell_over : goal.ghosts-tell_over
ghosts-tell_over g a = record { table = a.blank.table; limits = a.blank.limits }
