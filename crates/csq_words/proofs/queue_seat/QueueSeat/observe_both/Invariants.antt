use Rattle.csq_words.proofs.Imports.{table_size, any_step, ObservesBoth}
use Rattle.csq_words.proofs.queue_seat.QueueSeat.observe_both.Given as goal

-- what the step reports
abbrev pub ghosts-load : goal.ghosts-load
ghosts-load g a = record { then = ObservesBoth (table_size a.words.now.key) any_step }
