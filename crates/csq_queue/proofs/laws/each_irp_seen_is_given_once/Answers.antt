use Rattle.std.proofs.Common.{ap}
use Rattle.csq_queue.proofs.Imports.{again, queue_size, queue_with}
use Rattle.csq_words.proofs.Stories.{is_given_once}
use Rattle.csq_queue.proofs.laws.each_irp_seen_is_given_once.Goals as goal

pub returns : goal.returns
returns c = λ limits r sees i. is_given_once (queue_size limits) (queue_with limits.first r.seen) r r.trace sees.agrees i (ap (λ s. again s i) sees.outside)
