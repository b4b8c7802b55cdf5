use Rattle.example_driver.proofs.main.Given as goal

-- the queue that was just made
abbrev pub ghosts-drive : goal.ghosts-drive
ghosts-drive g a = record { table = a.blank.table; limits = a.blank.limits }
