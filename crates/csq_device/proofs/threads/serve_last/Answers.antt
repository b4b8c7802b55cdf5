use Rattle.irp_core.specs.declared.status.TheConstants.NtStatus.{CANCELLED}
use Rattle.csq_device.proofs.Firsts.{served_last}
use Rattle.csq_device.proofs.threads.serve_last.Goals as goal

pub returns : goal.returns
returns g c =
    let cleans = c.clean_up-completed in
    served_last g.N.QueueName.limits c.args.plan CANCELLED cleans.result c.args.pass cleans.new.pass c.requires.idle c.requires.new.0 c.requires.new.1 cleans.ensures.completed cleans.ensures.cleaned
