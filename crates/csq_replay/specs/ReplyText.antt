-- How the answers to a script's calls are printed.
use Rattle.std.specs.Prelude.{List, ℕ, ◌++◌, true, false, Option, Some, None, codes, decimal}
use Rattle.irp_core.specs.declared.status.NtStatus.{NtStatus}
use Rattle.irp_core.specs.Texts.{irp_text, life_text, status_text}
use Rattle.csq_list.specs.Causes.{cause_name, nt_of}
use Rattle.csq_replay.specs.declared.script.call.{CallRefused.{CallRefused, TheVariants.{UnknownIrp, UnknownFile, NoClaim, NotHeld, StatusPending, Stale, NotCompleted, LivesSpent}}, Reply.{Reply, TheVariants.{Pending, Cancelled, InsertRefused, Removed, NoIrp, Claimed, Unclaimed, Completed, CancelAnswered, Closed, Cleaned, Flag, Unset, Status, Begun, Refused}}}

-- the name of a refusal, with the present life if another one was named
abbrev pub refusal_name : CallRefused → List ℕ
refusal_name UnknownIrp = codes "UnknownIrp"
refusal_name UnknownFile = codes "UnknownFile"
refusal_name NoClaim = codes "NoClaim"
refusal_name NotHeld = codes "NotHeld"
refusal_name StatusPending = codes "StatusPending"
refusal_name (Stale g) = codes "Stale " ++ life_text g
refusal_name NotCompleted = codes "NotCompleted"
refusal_name LivesSpent = codes "LivesSpent"

-- a space and the status, if a driver answers one
abbrev pub nt_text : Option NtStatus → List ℕ
nt_text None = codes ""
nt_text (Some status) = codes " " ++ status_text status

abbrev pub reply_text : Reply → List ℕ
reply_text Pending = codes "pending"
reply_text Cancelled = codes "cancelled"
reply_text (InsertRefused cause) = codes "refused " ++ (cause_name cause ++ nt_text (nt_of cause))
reply_text (Removed i) = codes "irp " ++ irp_text i
reply_text NoIrp = codes "none"
reply_text Claimed = codes "claimed"
reply_text Unclaimed = codes "unclaimed"
reply_text (Completed status) = codes "completed " ++ status_text status
reply_text (CancelAnswered true) = codes "true"
reply_text (CancelAnswered false) = codes "false"
reply_text Closed = codes "closed"
reply_text (Cleaned count) = codes "cleaned " ++ decimal count
reply_text (Flag true) = codes "1"
reply_text (Flag false) = codes "0"
reply_text Unset = codes "unset"
reply_text (Status status) = status_text status
reply_text (Begun g) = codes "life " ++ life_text g
reply_text (Refused refusal) = codes "refused " ++ refusal_name refusal
