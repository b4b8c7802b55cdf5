-- Lines that name no step, or no call, are reported by what is wrong with them.
use Rattle.std.proofs.Common.{◌≡◌, ℕ, List, Option, Some, None, sym, subst}
use Rattle.csq_replay.specs.declared.schedule.outcome.Stop.{Stop}
use Rattle.csq_replay.specs.declared.schedule.outcome.Stop.TheVariants.{Malformed as NoStep}
use Rattle.csq_replay.specs.declared.script.outcome.CallStop.TheVariants.{Malformed as NoCall}
use Rattle.csq_explain.specs.declared.reasons.Reason.{Reason}
use Rattle.csq_diagnose.specs.declared.grammar.Grammar.TheVariants.{Schedule, Script}
use Rattle.csq_diagnose.specs.declared.malformed.Malformed.{Malformed}
use Rattle.csq_diagnose.specs.Malforms.{IsMalformed}
use Rattle.csq_diagnose.specs.Columns.{IsOfFault}
use Rattle.csq_diagnose.specs.Schedules.{IsReportedStop, ReportsReason}
use Rattle.csq_diagnose.specs.Diagnoses.{ReportsCallStop}
use Rattle.csq_diagnose.proofs.Imports.{MatchOption, words_of, AreLineWords}

pub step_malformed : (reason : Reason) → reason.stop ≡ NoStep → (n : ℕ) (line said : List ℕ) (fault : Option Malformed) → MatchOption fault (AreLineWords Schedule (words_of line)) (IsMalformed Schedule line)
    → IsOfFault n fault said → ReportsReason reason n line said
step_malformed reason bad n line said None words at = λ none. absurd (none bad words.0 (words.1, words.2, words.3, words.4, words.5))
step_malformed reason bad n line said (Some fault) is at = λ none.
    let Says : Stop → Type 0 = λ stop. IsReportedStop n line stop said in
    subst Says (sym bad) (fault, is, at)

pub call_malformed : (n : ℕ) (line said : List ℕ) (fault : Option Malformed) → MatchOption fault (AreLineWords Script (words_of line)) (IsMalformed Script line) → IsOfFault n fault said → ReportsCallStop NoCall n line said
call_malformed n line said None words at = λ none. absurd (none words.0 (words.1, words.2, words.3, words.4))
call_malformed n line said (Some fault) is at = λ none. (fault, is, at)
