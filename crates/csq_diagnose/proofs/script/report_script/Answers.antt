use Rattle.csq_words.specs.Queue.{Limits, limits_of}
use Rattle.csq_replay.specs.Calls.{new_script}
use Rattle.csq_diagnose.proofs.Reporting.{if_ok}
use Rattle.csq_diagnose.proofs.Reported.{script_reported}
use Rattle.csq_diagnose.proofs.script.report_script.Goals as goal

pub returns : goal.returns
returns g c =
    let l : Limits = limits_of 1 0 (g.L.PendingList.listing c.args.list) in
    if_ok c.report_input.result (script_reported c.args.explains l c.args.input.now) (c.report_input.ensures (l, c.args.explains) (new_script l) c.in_ok-explanation.ensures)
