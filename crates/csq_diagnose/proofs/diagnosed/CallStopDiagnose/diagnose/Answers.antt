use Rattle.csq_diagnose.proofs.Reporting.{on_ok}
use Rattle.csq_diagnose.proofs.Malforming.{call_malformed}
use Rattle.csq_diagnose.proofs.diagnosed.CallStopDiagnose.diagnose.Goals as goal

pub returns-in-Malformed : goal.returns-in-Malformed
returns-in-Malformed g c = rw c.in-Malformed.is (on_ok c.add_malformed.result (λ (fault, is, said, grew, at). (said, grew, call_malformed c.args.line.number c.args.line.bytes.now said fault is at)) c.add_malformed.ensures)
