use Rattle.csq_words.proofs.Imports.{table_size, any_step, MakesStep}
use Rattle.csq_words.proofs.queue_seat.QueueSeat.rearm.Given as goal

-- what the step reports
abbrev pub ghosts-swap : goal.ghosts-swap
ghosts-swap g a = record { then = MakesStep (table_size a.words.now.key) a._of.0 a._of.1 any_step }
