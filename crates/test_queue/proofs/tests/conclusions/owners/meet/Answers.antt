use Rattle.std.proofs.Common.{sym, ap, ◌∙◌}
use Rattle.csq_words.specs.declared.views.PassRecord.{PassRecord}
use Rattle.csq_words.specs.Traces.{steps_in}
use Rattle.csq_queue.specs.Named.{queue_size}
use Rattle.test_queue.proofs.Owning.{one_has}
use Rattle.test_queue.proofs.tests.conclusions.owners.meet.Goals as goal

pub returns : goal.returns
returns g c =
    let met = c.meet.ensures in
    let pass = λ (r : PassRecord). r.pass in
    record { owner = one_has (queue_size g.N.QueueName.limits) c.meet.new.one c.meet.new.other met.one_sees met.other_sees (ap steps_in met.run) (λ e. c.requires.apart (sym (ap pass met.one_kept) ∙ (e ∙ ap pass met.other_kept))) }
