use Rattle.irp_core.specs.declared.status.NtStatus.{NtStatus}
use Rattle.csq_replay.specs.CallLine.{IsHexStatus}
use Rattle.csq_diagnose.proofs.OneOf.{is_read}
use Rattle.csq_diagnose.proofs.expected.Expected.admits.Goals as goal

pub returns-in-Step : goal.returns-in-Step
returns-in-Step c = rw c.in-Step.is c.is_one_of.ensures

pub returns-in-ScriptCall : goal.returns-in-ScriptCall
returns-in-ScriptCall c = rw c.in-ScriptCall.is c.is_one_of-in-ScriptCall.ensures

pub returns-in-Place : goal.returns-in-Place
returns-in-Place c = rw c.in-Place.is c.is_one_of-in-Place.ensures

pub returns-in-Status : goal.returns-in-Status
returns-in-Status c =
    let iff = is_read c.parse_status.result (λ (status : NtStatus). IsHexStatus c.args.word.now status.0) c.parse_status.ensures in
    rw (c.in-Status.is, c.is_some-in-Status.ensures) iff
