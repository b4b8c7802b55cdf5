-- What a step did, in the words of the WDK.
use Rattle.std.specs.Prelude.{ℕ, ◌==◌, not, Bool, true, false, List, [], ◌++◌, codes, Option, Some, None, if◌then◌else◌}
use Rattle.irp_core.specs.declared.inside.Inside.{Inside, TheVariants.{Rearmed, FlagSeenAgain}}
use Rattle.irp_core.specs.declared.status.NtStatus.{NtStatus}
use Rattle.irp_core.specs.declared.step.{Kind.{Kind, TheVariants.{Arm, Test, Disarm, End, Flag, Take, Out, Done, Renew, Rearm}}, Made.{Made}}
use Rattle.irp_core.specs.Completion.{removed, status_due}
use Rattle.irp_core.specs.Inside.{inside, in_insert}
use Rattle.irp_core.specs.Texts.{name_text, pass_text, status_text}
use Rattle.csq_explain.specs.declared.sentences.StepInCall.{StepInCall}

-- the status with which a step of this kind completes its IRP, if it does
abbrev pub status_at : List Made → Kind → Option NtStatus
status_at E (Done i) = Some (status_due (removed E i))
status_at E _ = None

-- a step after the steps E, in the call that its pass is inside of
abbrev pub in_call : List Made → Made → StepInCall
in_call E m = record { made = m; inside = inside E m.pass; status = status_at E m.kind }

-- a status by its name in the WDK, or as eight digits
unfoldable pub status_name : NtStatus → List ℕ
status_name s = if s.0 == 0 then codes "STATUS_SUCCESS" else if s.0 == 3221225760 then codes "STATUS_CANCELLED" else status_text s

-- the status of a completion, as a schedule knows it: of an IRP that a removal got it has STATUS_SUCCESS, though there the caller of the removal chooses the status
abbrev pub due_status_words : NtStatus → List ℕ
due_status_words s = if s.0 == 0 then codes "a status that a schedule doesn't name" else status_name s

-- with which status, if it is known
abbrev pub with_status : Option NtStatus → List ℕ
with_status (Some s) = codes " with " ++ due_status_words s
with_status None = []

-- the call of an insert's steps, which a put-back makes too
abbrev pub insert_word : Inside → List ℕ
insert_word (Rearmed i) = codes "put-back"
insert_word (FlagSeenAgain i) = codes "put-back"
insert_word _ = codes "insert"

-- what a read of the Cancel flag or an exchange of the routine with none found, inside of x: something, or nothing
abbrev pub finding : Inside → Kind → Bool → List ℕ
finding x (Test i) false = codes " found the Cancel flag of IRP " ++ (name_text i ++ (codes " clear (if (Irp->Cancel), as in IoCsqInsertIrpEx): the " ++ (insert_word x ++ codes " ends, and the IRP is pending")))
finding x (Test i) true = codes " found the Cancel flag of IRP " ++ (name_text i ++ codes " set (if (Irp->Cancel), as in IoCsqInsertIrpEx)")
finding x (Disarm i) false = if in_insert x then codes " found no cancel routine of IRP " ++ (name_text i ++ (codes " (IoSetCancelRoutine(Irp, NULL), as in IoCsqInsertIrpEx): a cancel has it, and the " ++ (insert_word x ++ codes " ends")))
    else codes " found no cancel routine of IRP " ++ (name_text i ++ codes " (IoSetCancelRoutine(Irp, NULL), as in IoCsqRemoveNextIrp or IoCsqRemoveIrp): a cancel has it, and the removal goes on without it")
finding x (Disarm i) true = if in_insert x then codes " took the cancel routine of IRP " ++ (name_text i ++ codes " back (IoSetCancelRoutine(Irp, NULL), as in IoCsqInsertIrpEx), and holds it now")
    else codes " took the cancel routine of IRP " ++ (name_text i ++ codes " (IoSetCancelRoutine(Irp, NULL), as in IoCsqRemoveNextIrp or IoCsqRemoveIrp), and holds it now: the removal ends")
finding x (Take i) false = codes " found no cancel routine of IRP " ++ (name_text i ++ codes " (IoSetCancelRoutine(Irp, NULL) in IoCancelIrp): the cancel ends, and returns FALSE")
finding x (Take i) true = codes " took the cancel routine of IRP " ++ (name_text i ++ codes " (IoSetCancelRoutine(Irp, NULL) in IoCancelIrp), and owes it now")
finding x _ found = []

-- what a pass did by a step of this kind, inside of x, which found something or nothing
abbrev pub deed : Inside → Option NtStatus → Kind → Bool → List ℕ
deed x status (Arm i) found = codes " set the cancel routine of IRP " ++ (name_text i ++ codes " (IoSetCancelRoutine(Irp, routine), as in IoCsqInsertIrpEx)")
deed x status End found = codes " ended its removal without an IRP (as where IoCsqRemoveNextIrp or IoCsqRemoveIrp returns NULL)"
deed x status (Flag i) false = codes " set the Cancel flag of IRP " ++ (name_text i ++ codes " (Irp->Cancel = TRUE in IoCancelIrp)")
deed x status (Flag i) true = codes " found the Cancel flag of IRP " ++ (name_text i ++ codes " set already (Irp->Cancel = TRUE in IoCancelIrp)")
deed x status (Out i) found = codes " took IRP " ++ (name_text i ++ codes " out of the list (in the cancel routine, as CsqRemoveIrp does), and holds it now")
deed x status (Done i) found = codes " completed IRP " ++ (name_text i ++ (with_status status ++ codes " (IoCompleteRequest)"))
deed x status (Renew i) found = codes " began the life that comes after IRP " ++ (name_text i ++ codes " (IoReuseIrp)")
deed x status (Rearm i) found = codes " put IRP " ++ (name_text i ++ codes " back and set its cancel routine again (IoSetCancelRoutine(Irp, routine), as in IoCsqInsertIrpEx), and holds it no longer")
deed x status k found = finding x k found

-- a step, described in a sentence
abbrev pub sentence : StepInCall → List ℕ
sentence s = pass_text s.made.pass ++ deed s.inside s.status s.made.kind (not (s.made.found == 0))
