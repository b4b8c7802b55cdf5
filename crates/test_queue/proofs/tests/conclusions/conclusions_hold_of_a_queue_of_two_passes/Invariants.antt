use Rattle.test_queue.proofs.tests.conclusions.conclusions_hold_of_a_queue_of_two_passes.Given as goal

-- the queue that was just made
abbrev pub ghosts-draw_all : goal.ghosts-draw_all
ghosts-draw_all g a = record { table = a.blank.table; limits = a.blank.limits }
