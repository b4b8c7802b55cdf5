use Rattle.csq_words.specs.Records.{new_queue}
use Rattle.csq_words.specs.Traces.{steps_in}
use Rattle.csq_words.specs.Rule.{in_flight}
use Rattle.csq_words.proofs.Stories.{stay_story}
use Rattle.csq_queue.specs.Effects.{queue_with}
use Rattle.csq_queue.specs.Named.{queue_size}
use Rattle.csq_theorem.proofs.laws.stays_are_of_their_execution.Goals as goal
use Rattle.std.proofs.Common.{Some}

pub returns : goal.returns
returns c = λ limits call. stay_story (queue_size limits) (steps_in call.new.trace) (queue_with limits.first call.new.seen) (in_flight (Some call.new)) call.adds.sees.agrees.history_is
