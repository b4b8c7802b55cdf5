use Rattle.csq_diagnose.proofs.Reporting.{on_ok}
use Rattle.csq_diagnose.proofs.Malforming.{step_malformed}
use Rattle.csq_diagnose.proofs.diagnosed.ReasonDiagnose.diagnose.Goals as goal

pub returns-in-Malformed : goal.returns-in-Malformed
returns-in-Malformed g c = on_ok c.add_malformed.result (λ (fault, is, said, grew, at). (said, grew, step_malformed c.args.self c.in-Malformed.is c.args.line.number c.args.line.bytes.now said fault is at)) c.add_malformed.ensures
