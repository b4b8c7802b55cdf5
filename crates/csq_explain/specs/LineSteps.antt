-- The steps of an order that may break the protocol, the newest first, and what each finds by the two words of each IRP alone.
use Rattle.std.specs.Prelude.{ℕ, List, [], ◌∷◌, ◌++◌, codes, decimal}
use Rattle.irp_core.specs.declared.ids.PassId.{PassId}
use Rattle.irp_core.specs.declared.step.{Kind.{Kind}, Made.{Made}}
use Rattle.irp_core.specs.Texts.{kind_text, pass_text}
use Rattle.csq_explain.specs.declared.line_steps.LineStep.{LineStep}
use Rattle.csq_explain.specs.WordValues.{found_after}

-- the steps without their lines
abbrev pub made_in : List LineStep → List Made
made_in [] = []
made_in (x ∷ V) = x.made ∷ made_in V

-- a step, with the value that it found
abbrev pub line_step_text : LineStep → List ℕ
line_step_text x = pass_text x.made.pass ++ (codes " " ++ (kind_text x.made.kind ++ (codes " found " ++ decimal x.made.found)))

-- a step, and in which line it is
abbrev pub step_in_line : LineStep → List ℕ
step_in_line x = pass_text x.made.pass ++ (codes " " ++ (kind_text x.made.kind ++ (codes " in line " ++ decimal x.line)))

-- whose completion a step is, and in which line
abbrev pub completed_in_line : LineStep → List ℕ
completed_in_line x = pass_text x.made.pass ++ (codes " completed in line " ++ decimal x.line)

-- a step of p that the nth line names, after these, with the value that it finds
abbrev pub by_words : List LineStep → ℕ → PassId → Kind → LineStep
by_words V n p k = record { line = n; made = record { pass = p; kind = k; found = found_after (made_in V) k } }
