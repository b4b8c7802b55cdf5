use Rattle.std.proofs.Common.{string_bytes}
use Rattle.csq_program.proofs.answer.answer_schedule.Goals as goal

pub returns-clause-answered : goal.returns-clause-answered
returns-clause-answered g c =
    let (input, read, is, grew) = c.in_ok-report.ensures.answered in
    (input, string_bytes c.in_ok-report.report.text, read, is.0, grew)
