use Rattle.csq_replay.specs.declared.script.call.ScriptCall.TheVariants.{Insert, Next, Remove, Mark, Routine, Complete, Close, Flag, Status, Reuse}
use Rattle.csq_replay.specs.Calls.Does.{calls}
use Rattle.csq_replay.proofs.Handing.{handed_on}
use Rattle.csq_replay.proofs.script.driver.Driver.report.Goals as goal

pub returns-in-Insert : goal.returns-in-Insert
returns-in-Insert g c = λ l s h. let (t, call, kept) = c.insert.ensures l s h.0 in rw (c.insert_reply.ensures, c.in-Insert.is) (t, calls (Insert c.in-Insert.irp c.in-Insert.file c.in-Insert.place) _ t call, kept)

pub returns-in-Next : goal.returns-in-Next
returns-in-Next g c = λ l s h. let (t, call, kept) = c.next.ensures l s h.0 in rw (c.taken_reply.ensures, c.in-Next.is) (t, calls (Next c.in-Next.peek) _ t call, kept)

pub returns-in_err-close-in-Close : goal.returns-in_err-close-in-Close
returns-in_err-close-in-Close g c = λ l s h. let (t, call, kept) = c.in_err-close-in-Close.ensures l s h.0 in rw (handed_on _ _ c.from_residual-in_err-close-in-Close.ensures.1, c.in-Close.is) (t, calls (Close c.in-Close.file) _ t call, kept)

pub returns-in_ok-close-in-Close : goal.returns-in_ok-close-in-Close
returns-in_ok-close-in-Close g c = λ l s h. let (t, call, kept) = c.in_ok-close-in-Close.ensures l s h.0 in rw c.in-Close.is (t, calls (Close c.in-Close.file) _ t call, kept)

pub returns-in_err-cleanup-in-Cleanup : goal.returns-in_err-cleanup-in-Cleanup
returns-in_err-cleanup-in-Cleanup g c = λ l s h. rw (handed_on _ _ c.from_residual-in_err-cleanup-in-Cleanup.ensures.1, c.in-Cleanup.is) (c.in_err-cleanup-in-Cleanup.ensures l s h.0)

pub returns-in_ok-cleanup-in-Cleanup : goal.returns-in_ok-cleanup-in-Cleanup
returns-in_ok-cleanup-in-Cleanup g c = λ l s h. rw c.in-Cleanup.is (c.in_ok-cleanup-in-Cleanup.ensures l s h.0)

pub returns-in_err-remove-in-Remove : goal.returns-in_err-remove-in-Remove
returns-in_err-remove-in-Remove g c = λ l s h. let (t, call, kept) = c.in_err-remove-in-Remove.ensures l s h.0 in rw (handed_on _ _ c.from_residual.ensures.1, c.in-Remove.is) (t, calls (Remove c.in-Remove.name) _ t call, kept)

pub returns-in_ok-remove-in-Remove : goal.returns-in_ok-remove-in-Remove
returns-in_ok-remove-in-Remove g c = λ l s h. let (t, call, kept) = c.in_ok-remove-in-Remove.ensures l s h.0 in rw (c.taken_reply-in-Remove.ensures, c.in-Remove.is) (t, calls (Remove c.in-Remove.name) _ t call, kept)

pub returns-in_err-mark-in-Mark : goal.returns-in_err-mark-in-Mark
returns-in_err-mark-in-Mark g c = λ l s h. let (t, call, kept) = c.in_err-mark-in-Mark.ensures l s h.0 in rw (handed_on _ _ c.from_residual-in_err-mark-in-Mark.ensures.1, c.in-Mark.is) (t, calls (Mark c.in-Mark.name) _ t call, kept)

pub returns-in_ok-mark-in-Mark : goal.returns-in_ok-mark-in-Mark
returns-in_ok-mark-in-Mark g c = λ l s h. let (t, call, kept) = c.in_ok-mark-in-Mark.ensures l s h.0 in rw (c.mark_reply.ensures, c.in-Mark.is) (t, calls (Mark c.in-Mark.name) _ t call, kept)

pub returns-in_err-routine-in-Routine : goal.returns-in_err-routine-in-Routine
returns-in_err-routine-in-Routine g c = λ l s h. let (t, call, kept) = c.in_err-routine-in-Routine.ensures l s h.0 in rw (handed_on _ _ c.from_residual-in_err-routine-in-Routine.ensures.1, c.in-Routine.is) (t, calls (Routine c.in-Routine.irp) _ t call, kept)

pub returns-in_ok-routine-in-Routine : goal.returns-in_ok-routine-in-Routine
returns-in_ok-routine-in-Routine g c = λ l s h. let (t, call, kept) = c.in_ok-routine-in-Routine.ensures l s h.0 in rw c.in-Routine.is (t, calls (Routine c.in-Routine.irp) _ t call, kept)

pub returns-in_err-cancel-in-Cancel : goal.returns-in_err-cancel-in-Cancel
returns-in_err-cancel-in-Cancel g c = λ l s h. rw (handed_on _ _ c.from_residual-in_err-cancel-in-Cancel.ensures.1, c.in-Cancel.is) (c.in_err-cancel-in-Cancel.ensures l s h.0)

pub returns-in_ok-cancel-in-Cancel : goal.returns-in_ok-cancel-in-Cancel
returns-in_ok-cancel-in-Cancel g c = λ l s h. rw c.in-Cancel.is (c.in_ok-cancel-in-Cancel.ensures l s h.0)

pub returns-in_err-complete-in-Complete : goal.returns-in_err-complete-in-Complete
returns-in_err-complete-in-Complete g c = λ l s h. let (t, call, kept) = c.in_err-complete-in-Complete.ensures l s h.0 in rw (handed_on _ _ c.from_residual-in_err-complete-in-Complete.ensures.1, c.in-Complete.is) (t, calls (Complete c.in-Complete.irp c.in-Complete.status) _ t call, kept)

pub returns-in_ok-complete-in-Complete : goal.returns-in_ok-complete-in-Complete
returns-in_ok-complete-in-Complete g c = λ l s h. let (t, call, kept) = c.in_ok-complete-in-Complete.ensures l s h.0 in rw c.in-Complete.is (t, calls (Complete c.in-Complete.irp c.in-Complete.status) _ t call, kept)

pub returns-in_err-flag-in-Flag : goal.returns-in_err-flag-in-Flag
returns-in_err-flag-in-Flag g c = λ l s h. let (t, call, kept) = c.in_err-flag-in-Flag.ensures l s h.0 in rw (handed_on _ _ c.from_residual-in_err-flag-in-Flag.ensures.1, c.in-Flag.is) (t, calls (Flag c.in-Flag.irp) _ t call, kept)

pub returns-in_ok-flag-in-Flag : goal.returns-in_ok-flag-in-Flag
returns-in_ok-flag-in-Flag g c = λ l s h. let (t, call, kept) = c.in_ok-flag-in-Flag.ensures l s h.0 in rw c.in-Flag.is (t, calls (Flag c.in-Flag.irp) _ t call, kept)

pub returns-in_err-status-in-Status : goal.returns-in_err-status-in-Status
returns-in_err-status-in-Status g c = λ l s h. let (t, call, kept) = c.in_err-status-in-Status.ensures l s h.0 in rw (handed_on _ _ c.from_residual-in_err-status-in-Status.ensures.1, c.in-Status.is) (t, calls (Status c.in-Status.irp) _ t call, kept)

pub returns-in_ok-status-in-Status : goal.returns-in_ok-status-in-Status
returns-in_ok-status-in-Status g c = λ l s h. let (t, call, kept) = c.in_ok-status-in-Status.ensures l s h.0 in rw (c.status_reply.ensures, c.in-Status.is) (t, calls (Status c.in-Status.irp) _ t call, kept)

pub returns-in_err-reuse-in-Reuse : goal.returns-in_err-reuse-in-Reuse
returns-in_err-reuse-in-Reuse g c = λ l s h. let (t, call, kept) = c.in_err-reuse-in-Reuse.ensures l s h.0 in rw (handed_on _ _ c.from_residual-in_err-reuse-in-Reuse.ensures.1, c.in-Reuse.is) (t, calls (Reuse c.in-Reuse.irp) _ t call, kept)

pub returns-in_ok-reuse-in-Reuse : goal.returns-in_ok-reuse-in-Reuse
returns-in_ok-reuse-in-Reuse g c = λ l s h. let (t, call, kept) = c.in_ok-reuse-in-Reuse.ensures l s h.0 in rw c.in-Reuse.is (t, calls (Reuse c.in-Reuse.irp) _ t call, kept)

pub returns-in_err-put_back-in-PutBack : goal.returns-in_err-put_back-in-PutBack
returns-in_err-put_back-in-PutBack g c = λ l s h. rw (handed_on _ _ c.from_residual-in_err-put_back-in-PutBack.ensures.1, c.in-PutBack.is) (c.in_err-put_back-in-PutBack.ensures l s h)

pub returns-in_ok-put_back-in-PutBack : goal.returns-in_ok-put_back-in-PutBack
returns-in_ok-put_back-in-PutBack g c = λ l s h. rw (c.insert_reply-in-PutBack.ensures, c.in-PutBack.is) (c.in_ok-put_back-in-PutBack.ensures l s h)
