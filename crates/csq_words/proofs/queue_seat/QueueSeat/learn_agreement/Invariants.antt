use Rattle.csq_words.proofs.Imports.{table_size, any_step, FindsAgreement}
use Rattle.csq_words.proofs.queue_seat.QueueSeat.learn_agreement.Given as goal

-- what the step reports
abbrev pub ghosts-load : goal.ghosts-load
ghosts-load g a = record { then = FindsAgreement (table_size a.words.now.key) any_step }
