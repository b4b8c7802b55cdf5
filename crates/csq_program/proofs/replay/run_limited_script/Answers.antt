use Rattle.std.proofs.Common.{◌≡◌, ◌∙◌, replicate}
use Rattle.csq_program.proofs.Endings.{script_ended}
use Rattle.csq_program.proofs.replay.run_limited_script.Goals as goal

pub returns-clause-answered : goal.returns-clause-answered
returns-clause-answered g c =
    let sizes = c.args.limits in
    let list = c.with_file_limits-list in
    let ran = c.run_script.ensures in
    let same : c.deref.result.now ≡ replicate sizes.files sizes.file_limit = c.deref.ensures.value ∙ c.in_ok-file_limits.ensures in
    script_ended _ sizes c.args.explain _ _ c.deref.result.now list.result c.run_script.result same list.ensures.made list.ensures.bad_size.0 ran.memory ran.bad_size ran.answered ran.kept
