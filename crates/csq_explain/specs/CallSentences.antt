-- What a call of a script did, or why it was refused, in the words of the WDK.
use Rattle.std.specs.Prelude.{ℕ, nat_le, true, false, List, [], ◌++◌, codes, decimal, Option, Some, None, if◌then◌else◌}
use Rattle.irp_core.specs.declared.ids.FileId.{FileId}
use Rattle.irp_core.specs.declared.status.NtStatus.{NtStatus}
use Rattle.irp_core.specs.Texts.{irp_text, name_text, life_text}
use Rattle.csq_list.specs.declared.entry.{Place.TheVariants.{Back, Front}, Peek.TheVariants.{File}}
use Rattle.csq_list.specs.declared.refusals.InsertStatus.TheVariants as insert
use Rattle.csq_replay.specs.declared.script.call.{ScriptCall.{ScriptCall, TheVariants.{Insert, Next, Remove, Mark, Routine, Cancel, Complete, Close, Cleanup, Flag, Status, Reuse, PutBack}}, CallRefused.TheVariants.{UnknownIrp, UnknownFile, NoClaim, NotHeld, StatusPending, Stale, NotCompleted, LivesSpent}, Reply.{Reply, TheVariants.{Pending, Cancelled, InsertRefused, Removed, NoIrp, Claimed, Unclaimed, Completed, CancelAnswered, Closed, Cleaned, Unset, Begun, Refused}}}
use Rattle.csq_replay.specs.declared.script.call.Reply.TheVariants as reply
use Rattle.csq_replay.specs.declared.lines.TheConstants.{MAX_LINE}
use Rattle.csq_replay.specs.declared.script.outcome.CallStop.{CallStop, TheVariants.{TooLong, Malformed}}
use Rattle.csq_explain.specs.declared.call_sentences.AnsweredCall.{AnsweredCall}
use Rattle.csq_explain.specs.Sentences.{status_name}
use Rattle.csq_explain.specs.Words.{call_words, listed}

-- the routine that a call stands for, or the field that it reads
abbrev pub routine_name : ScriptCall → List ℕ
routine_name (Insert n f place) = codes "IoCsqInsertIrpEx"
routine_name (Next k) = codes "IoCsqRemoveNextIrp"
routine_name (Remove i) = codes "IoCsqRemoveIrp"
routine_name (Mark i) = codes "IoCancelIrp"
routine_name (Routine n) = codes "the cancel routine"
routine_name (Cancel i) = codes "IoCancelIrp"
routine_name (Complete n status) = codes "IoCompleteRequest"
routine_name (Close f) = codes "the driver"
routine_name (Cleanup f) = codes "IRP_MJ_CLEANUP"
routine_name (Flag n) = codes "Irp->Cancel"
routine_name (Status n) = codes "Irp->IoStatus.Status"
routine_name (Reuse n) = codes "IoReuseIrp"
routine_name (PutBack n place) = codes "IoCsqInsertIrpEx"

-- the file object that a call names
abbrev pub named_file : ScriptCall → Option FileId
named_file (Insert n f place) = Some f
named_file (Next (File f)) = Some f
named_file (Close f) = Some f
named_file (Cleanup f) = Some f
named_file _ = None

abbrev pub file_words : Option FileId → List ℕ
file_words (Some f) = codes "file object " ++ decimal f.0
file_words None = codes "any file object"

-- what a call is of: an IRP, in a life if it names one, or a file object
unfoldable pub object_name : ScriptCall → List ℕ
object_name (Insert n f place) = codes "IRP " ++ irp_text n
object_name (Next k) = file_words (named_file (Next k))
object_name (Remove i) = codes "IRP " ++ name_text i
object_name (Mark i) = codes "IRP " ++ name_text i
object_name (Routine n) = codes "IRP " ++ irp_text n
object_name (Cancel i) = codes "IRP " ++ name_text i
object_name (Complete n status) = codes "IRP " ++ irp_text n
object_name (Close f) = file_words (Some f)
object_name (Cleanup f) = file_words (Some f)
object_name (Flag n) = codes "IRP " ++ irp_text n
object_name (Status n) = codes "IRP " ++ irp_text n
object_name (Reuse n) = codes "IRP " ++ irp_text n
object_name (PutBack n place) = codes "IRP " ++ irp_text n

-- where an insert puts its IRP
abbrev pub place_words : ScriptCall → List ℕ
place_words (Insert n f Back) = codes " for file object " ++ (decimal f.0 ++ codes " at the back")
place_words (Insert n f Front) = codes " for file object " ++ (decimal f.0 ++ codes " at the front")
place_words (PutBack n Back) = codes " again at the back"
place_words (PutBack n Front) = codes " again at the front"
place_words c = []

-- no removal takes an IRP of these
abbrev pub none_listed : Option FileId → List ℕ
none_listed file = codes "no IRP is listed for " ++ (file_words file ++ codes ", or a cancel has each of them")

-- no removal takes an IRP of this file object, if its number is below the number of file objects
abbrev pub none_of : ℕ → Option FileId → List ℕ
none_of files (Some f) = if nat_le files f.0 then codes "a file object's number is below " ++ decimal files else none_listed (Some f)
none_of files None = none_listed None

-- why a removal took no IRP: the one that it names, or any of its file object
abbrev pub none_words : ℕ → ScriptCall → List ℕ
none_words files (Remove i) = codes "IRP " ++ (name_text i ++ codes " isn't listed in that life, or a cancel has it")
none_words files c = none_of files (named_file c)

-- what a call did that completed its IRP with this status
abbrev pub done_words : ScriptCall → NtStatus → List ℕ
done_words (Routine n) status = codes " took IRP " ++ (irp_text n ++ (codes " out of the list (CsqRemoveIrp), and completed it with " ++ status_name status))
done_words c status = codes " completed " ++ (object_name c ++ (codes " with " ++ status_name status))

-- what a mark, a cancel or a completion did that was answered so
abbrev pub cancel_words : ScriptCall → Reply → List ℕ
cancel_words c Claimed = codes " set the Cancel flag of " ++ (object_name c ++ codes " and took its cancel routine: the pass owes the IRP now")
cancel_words c Unclaimed = codes " set the Cancel flag of " ++ (object_name c ++ codes ", and found no cancel routine")
cancel_words c (CancelAnswered true) = codes " returned TRUE: it set the Cancel flag of " ++ (object_name c ++ codes " and ran the cancel routine, which completed the IRP with STATUS_CANCELLED")
cancel_words c (CancelAnswered false) = codes " returned FALSE: it set the Cancel flag of " ++ (object_name c ++ codes ", and found no cancel routine")
cancel_words c (Completed status) = done_words c status
cancel_words c _ = []

-- the file object of an insert or a put-back, which names none
abbrev pub refused_file : ScriptCall → List ℕ
refused_file (PutBack n place) = codes "the file object of IRP " ++ irp_text n
refused_file c = file_words (named_file c)

-- why a call that is answered so is refused, over this number of IRPs and this number of file objects
abbrev pub call_refusal : ℕ → ℕ → ScriptCall → Reply → List ℕ
call_refusal irps files c (InsertRefused insert.UnknownIrp) = codes "an IRP's number is below " ++ decimal irps
call_refusal irps files c (InsertRefused insert.UnknownFile) = codes "a file object's number is below " ++ decimal files
call_refusal irps files c (InsertRefused insert.NotHome) = object_name c ++ codes " was inserted before in its present life"
call_refusal irps files c (InsertRefused insert.FileClosed) = refused_file c ++ codes " was closed by a cleanup or a close: STATUS_FILE_CLOSED"
call_refusal irps files c (InsertRefused insert.FileFull) = refused_file c ++ codes " has as many IRPs listed as its limit: STATUS_INSUFFICIENT_RESOURCES"
call_refusal irps files c (InsertRefused insert.Full) = codes "the list has as many IRPs as its limit: STATUS_INSUFFICIENT_RESOURCES"
call_refusal irps files c (Refused UnknownIrp) = codes "an IRP's number is below " ++ decimal irps
call_refusal irps files c (Refused UnknownFile) = codes "a file object's number is below " ++ decimal files
call_refusal irps files c (Refused NoClaim) = codes "the pass doesn't owe " ++ (object_name c ++ codes ": no mark claimed it, or its cancel routine has run")
call_refusal irps files c (Refused NotHeld) = codes "the pass doesn't hold " ++ (object_name c ++ codes ": no removal took it, or it was completed or put back since")
call_refusal irps files c (Refused StatusPending) = codes "no IRP is completed with STATUS_PENDING"
call_refusal irps files c (Refused (Stale g)) = codes "the IRP is in its life " ++ life_text g
call_refusal irps files c (Refused NotCompleted) = object_name c ++ codes " isn't completed in its present life"
call_refusal irps files c (Refused LivesSpent) = object_name c ++ codes " is in its last life"
call_refusal irps files c _ = []

-- a call that is answered so
abbrev pub reply_sentence : ℕ → ℕ → ScriptCall → Reply → List ℕ
reply_sentence irps files c Pending = routine_name c ++ (codes " listed " ++ (object_name c ++ (place_words c ++ codes ", and returned STATUS_PENDING")))
reply_sentence irps files c Cancelled = routine_name c ++ (codes " found the Cancel flag of " ++ (object_name c ++ codes " set, completed it with STATUS_CANCELLED (CsqCompleteCanceledIrp), and returned STATUS_PENDING"))
reply_sentence irps files c (Removed n) = routine_name c ++ (codes " took IRP " ++ (irp_text n ++ codes " out of the list, and the pass holds it now"))
reply_sentence irps files c NoIrp = routine_name c ++ (codes " returned NULL: " ++ none_words files c)
reply_sentence irps files c Closed = routine_name c ++ (codes " closed " ++ (object_name c ++ codes ": inserts for it are refused from now on"))
reply_sentence irps files c (Cleaned count) = routine_name c ++ (codes " closed " ++ (object_name c ++ (codes ", and completed " ++ (decimal count ++ codes " of its IRPs with STATUS_CANCELLED"))))
reply_sentence irps files c (reply.Flag true) = routine_name c ++ (codes " of " ++ (object_name c ++ codes " is TRUE"))
reply_sentence irps files c (reply.Flag false) = routine_name c ++ (codes " of " ++ (object_name c ++ codes " is FALSE"))
reply_sentence irps files c Unset = routine_name c ++ (codes " of " ++ (object_name c ++ codes " isn't set: the IRP isn't completed"))
reply_sentence irps files c (reply.Status status) = routine_name c ++ (codes " of " ++ (object_name c ++ (codes " is " ++ status_name status)))
reply_sentence irps files c (Begun g) = routine_name c ++ (codes " began life " ++ (life_text g ++ (codes " of " ++ object_name c)))
reply_sentence irps files c (InsertRefused cause) = call_refusal irps files c (InsertRefused cause)
reply_sentence irps files c (Refused cause) = call_refusal irps files c (Refused cause)
reply_sentence irps files c r = routine_name c ++ cancel_words c r

-- a call and its answer, in a sentence
abbrev pub call_sentence : AnsweredCall → List ℕ
call_sentence a = reply_sentence a.irps a.files a.call a.reply

-- why a line ends a script, in a sentence
abbrev pub call_stop_sentence : CallStop → List ℕ
call_stop_sentence TooLong = codes "a line has at most " ++ (decimal MAX_LINE ++ codes " bytes")
call_stop_sentence Malformed = codes "this is no call, as insert 0 1 back: " ++ listed 0 call_words
