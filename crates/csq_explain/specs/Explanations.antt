-- What an explanation keeps: the private side of its contract.
use Rattle.std.specs.Prelude.{◌≡◌, ℕ, Bool, true, false, List, ◌++◌, string_bytes, codes, [], if◌then◌else◌}
use Rattle.irp_core.specs.Runs.{Size}
use Rattle.csq_replay.specs.declared.schedule.closing.IrpLine.{IrpLine}
use Rattle.csq_replay.specs.declared.schedule.outcome.Outcome.{Outcome}
use Rattle.csq_replay.specs.Schedule.{Numbered, answer_text, irp_lines_text, rest_text, claim_line, claim_lines, IsClosing}
use Rattle.csq_explain.specs.declared.explanation.Explanation.{Explanation}
use Rattle.csq_explain.specs.Executions.{Follows}
use Rattle.csq_explain.specs.Explaining.{explained_text, explained_irps, explained_rest, claim_remark, explained_claims, IsExplainedClosing}

-- what the nth line is answered, with a sentence where it is asked for
abbrev pub line_text : Bool → Size → List Numbered → ℕ → List ℕ → Outcome → List ℕ
line_text true size = explained_text size
line_text false size = answer_text

-- so are the IRPs in the end
abbrev pub irps_text : Bool → List IrpLine → List ℕ
irps_text true = explained_irps
irps_text false = irp_lines_text

-- and whether all is at rest
abbrev pub rest_line : Bool → Bool → List ℕ
rest_line true rest = explained_rest rest
rest_line false rest = rest_text rest ++ codes "\n"

-- the claims, each with a sentence if these are asked for
abbrev pub noted_claims : Bool → List Numbered → List ℕ
noted_claims true = explained_claims
noted_claims false = claim_lines

-- the claim of a step
abbrev pub noted_claim : Bool → Numbered → List ℕ
noted_claim explains w = claim_line w ++ (if explains then claim_remark w.step else [])

-- the closing lines after the steps W
abbrev pub IsTextClosing : Bool → Size → Bool → List Numbered → List ℕ → Type 0
IsTextClosing true = IsExplainedClosing
IsTextClosing false = IsClosing

-- it stands after the steps W of an execution of this size, whose claims were noted, and is asked for the claims and for sentences or not
pub record ExplainsAfter {A : Type 0} (explanation : Explanation A) (c : Size × Bool × Bool) (W : List Numbered) : Type 0 where
  pub follows : Follows c.0 explanation.execution W
  pub asks : explanation.asks ≡ c.1
  pub explains : explanation.explains ≡ c.2
  pub claims : string_bytes explanation.claims ≡ noted_claims c.2 W
