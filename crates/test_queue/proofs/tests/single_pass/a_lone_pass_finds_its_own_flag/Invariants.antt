use Rattle.test_queue.proofs.tests.single_pass.a_lone_pass_finds_its_own_flag.Given as goal

-- the queue that was just made
abbrev pub ghosts-find_flag_alone : goal.ghosts-find_flag_alone
ghosts-find_flag_alone g a = record { table = a.blank.table; limits = a.blank.limits }
