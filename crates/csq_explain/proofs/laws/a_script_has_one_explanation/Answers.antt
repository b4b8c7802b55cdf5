use Rattle.csq_replay.proofs.OneScript.{one_report}
use Rattle.csq_explain.specs.ExplainingCalls.{explained_call}
use Rattle.csq_explain.specs.ScriptEndings.{explained_closing}
use Rattle.csq_explain.proofs.laws.a_script_has_one_explanation.Goals as goal

pub returns : goal.returns
returns c = λ l input. one_report l (explained_call l) (explained_closing l) input
