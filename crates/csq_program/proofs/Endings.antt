-- What an answer leads to.
use Rattle.std.proofs.Common.{◌≡◌, inl, inr, ℕ, Bool, List, replicate, Option, Result, Ok, Err, IfOk, IfErr, IsTrue, refl, ap, sym, ◌∙◌, subst}
use Rattle.std.specs.Io.KnownBytes.{Keeps}
use Rattle.std.specs.Global.{Global}
use Rattle.irp_core.specs.declared.refusals.SizeRefused.{SizeRefused}
use Rattle.irp_core.specs.declared.refusals.SizeRefused.TheVariants as refused
use Rattle.csq_list.specs.Listing.{Listing, fresh, IsLargeListSize, are_file_limits}
use Rattle.csq_words.specs.Queue.{limits_of}
use Rattle.csq_replay.specs.declared.lines.answer.SimFault.{SimFault, TheVariants.{Memory, Read, Write}}
use Rattle.csq_diagnose.specs.declared.diagnosed.Report.{Report}
use Rattle.csq_diagnose.proofs.Reporting.{if_ok}
use Rattle.csq_program.specs.declared.program.ProgramFault.{ProgramFault, TheVariants.{Replay}}
use Rattle.csq_program.specs.declared.replay.ScriptLimits.{ScriptLimits}
use Rattle.csq_program.specs.Replays.{AnswersInput, WritesReport, WritesScript, IsBadSize, IsScriptReport, LeadsTo}

-- if it leads to a status, its report was written
pub ended_reported : (is_report : List ℕ → Report Global → Type 0) (unread left held holds : Option (List ℕ)) (answered : Result (Report Global) SimFault) (result : Result ℕ ProgramFault)
    → IfOk answered (AnswersInput is_report unread left held holds) → LeadsTo answered result → IfOk result (WritesReport is_report held holds)
ended_reported is_report unread left held holds (Ok report) (Ok status) (input, read, is, grew) ends = (input, report, is, grew, ends)
ended_reported is_report unread left held holds (Ok report) (Err cause) answers leads = absurd leads
ended_reported is_report unread left held holds (Err Memory) (Ok status) answers leads = absurd leads
ended_reported is_report unread left held holds (Err Read) (Ok status) answers leads = absurd leads
ended_reported is_report unread left held holds (Err Write) (Ok status) answers leads = absurd leads
ended_reported is_report unread left held holds (Err fault) (Err cause) answers leads = answers

-- so it is of an answer of one of two kinds
pub ended_by : (is_report : Bool → List ℕ → Report Global → Type 0) (asked which : Bool) (unread left held holds now : Option (List ℕ)) (led answered : Result (Report Global) SimFault) (result : Result ℕ ProgramFault)
    → asked ≡ which → now ≡ holds → led ≡ answered → IfOk answered (AnswersInput (is_report which) unread left held holds) → LeadsTo led result → IfOk result (WritesReport (is_report asked) held now)
ended_by is_report asked which unread left held holds now led answered result asks written leads answers ends =
    let Ends : Bool → Option (List ℕ) → Type 0 = λ b known. IfOk result (WritesReport (is_report b) held known) in
    let Leads : Result (Report Global) SimFault → Type 0 = λ r. LeadsTo r result in
    subst (λ b. Ends b now) (sym asks) (subst (Ends which) (sym written) (ended_reported (is_report which) unread left held holds answered result answers (subst Leads leads ends)))

-- a script was answered over the list that its sizes make, or they make none
pub script_ended : {L : Type 0} (listing : L → Listing) (l : ScriptLimits) (explains : Bool) (held holds : Option (List ℕ)) (limits : List ℕ) (list : Result L SizeRefused) (result : Result ℕ ProgramFault)
    → limits ≡ replicate l.files l.file_limit → IfOk list (λ made. listing made ≡ fresh l.irps l.files l.limit limits)
    → (list ≡ Err refused.BadSize → ¬ (IsLargeListSize l.irps l.files l.limit × IsTrue (are_file_limits l.irps l.files limits)))
    → IfErr list (λ why. why ≡ refused.Memory → result ≡ Err (Replay Memory)) → IfErr list (λ why. why ≡ refused.BadSize → result ≡ Ok 2)
    → IfOk list (λ made. IfOk result (WritesReport (IsScriptReport (limits_of 1 0 (listing made)) explains) held holds)) → IfErr list (λ why. Keeps held holds)
    → IfOk result (WritesScript l explains held holds)
script_ended listing l explains held holds limits (Ok made) result same is bad memory size answered kept =
    if_ok result (λ status ends. inl (subst (λ s. WritesReport (IsScriptReport (limits_of 1 0 s) explains) held holds status) (is ∙ ap (fresh l.irps l.files l.limit) same) ends)) answered
script_ended listing l explains held holds limits (Err refused.Memory) result same is bad memory size answered kept = subst (λ r. IfOk r (WritesScript l explains held holds)) (sym (memory refl)) tt
script_ended listing l explains held holds limits (Err refused.BadSize) result same is bad memory size answered kept =
    let none : IsBadSize l = subst (λ each. ¬ (IsLargeListSize l.irps l.files l.limit × IsTrue (are_file_limits l.irps l.files each))) same (bad refl) in
    subst (λ r. IfOk r (WritesScript l explains held holds)) (sym (size refl)) (inr (none, kept, refl))
