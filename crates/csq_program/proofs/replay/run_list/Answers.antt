use Rattle.csq_words.specs.Queue.{limits_of}
use Rattle.csq_program.specs.Replays.{IsScriptReport}
use Rattle.csq_program.proofs.Endings.{ended_reported}
use Rattle.csq_program.proofs.replay.run_list.Goals as goal

pub returns-clause-answered : goal.returns-clause-answered
returns-clause-answered g c =
    ended_reported (IsScriptReport (limits_of 1 0 (g.L.PendingList.listing c.args.list)) c.args.explain) _ _ _ _ c.write_script-answered.result c.finish.result c.write_script-answered.ensures.answered c.finish.ensures
