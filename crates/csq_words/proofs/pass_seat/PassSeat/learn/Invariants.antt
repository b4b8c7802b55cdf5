use Rattle.csq_words.proofs.Imports.{table_size, any_step, SeesAll}
use Rattle.csq_words.proofs.pass_seat.PassSeat.learn.Given as goal

-- what the step reports
abbrev pub ghosts-load : goal.ghosts-load
ghosts-load g a = record { then = SeesAll (table_size a.words.now.key) any_step }
