-- What a judgement of a driver's peek, or of what its cleanup left, answers to C.
use Rattle.std.specs.Prelude.{◌≡◌, ℕ, List, Option, Some, None, MatchOption, if◌then◌else◌}
use Rattle.irp_core.specs.declared.ids.{FileId.{FileId}, IrpId.{IrpId}}
use Rattle.csq_list.specs.declared.entry.{Entry.{Entry}, Peek.{Peek}}
use Rattle.csq_checked.specs.Cleanups.{cleanup_verdict, first_left}
use Rattle.csq_checked.specs.Passes.{listed}
use Rattle.csq_checked.specs.Peeks.{peek_verdict}
use Rattle.csq_checked.specs.declared.judge.{cleanup.CleanupVerdict.{CleanupVerdict}, peek.PeekVerdict.{PeekVerdict}}
use Rattle.csq_checked.specs.declared.judge.cleanup.CleanupVerdict.TheVariants as cleanup
use Rattle.csq_checked.specs.declared.judge.peek.PeekVerdict.TheVariants as verdict
use Rattle.csq_queue.specs.Looks.{listed_for}
use Rattle.csq_c.specs.Bodies.{QueueBodyState}
use Rattle.csq_c.specs.Lefts.{is_start}
use Rattle.csq_c.specs.Looks.{OnOpen}
use Rattle.csq_c.specs.declared.codes.Code.{Code, TheVariants.{Done, UnknownFile, NotListed}}

-- the verdict of a peek's answer, if the peek may go on after that IRP
abbrev pub judged : List Entry → Option IrpId → Peek → Option IrpId → Option PeekVerdict
judged es after k answer = if is_start es after then Some (peek_verdict es after k answer) else None

-- whether there is a verdict
abbrev pub judge_code : Option PeekVerdict → Code
judge_code (Some v) = Done
judge_code None = NotListed

-- an open queue's verdict of a peek's answer
abbrev pub JudgesPeekOf : Option IrpId → Peek → Option IrpId → QueueBodyState → Code → Option PeekVerdict → Type 0
JudgesPeekOf after k answer body code stored = OnOpen body code (stored ≡ None) (λ q. (stored ≡ judged (listed q) after k answer) × (code ≡ judge_code stored))

-- the number of a verdict
abbrev pub verdict_number : PeekVerdict → ℕ
verdict_number verdict.Agrees = 0
verdict_number (verdict.Skips i) = 1
verdict_number verdict.Backwards = 2
verdict_number verdict.NoMatch = 3
verdict_number verdict.NotListed = 4

-- which IRP is skipped
abbrev pub skipped_by : PeekVerdict → Option ℕ
skipped_by (verdict.Skips i) = Some i.0
skipped_by _ = None

-- both, if there is a verdict
abbrev pub verdict_stored : Option PeekVerdict → Option ℕ
verdict_stored None = None
verdict_stored (Some v) = Some (verdict_number v)

abbrev pub skipped_stored : Option PeekVerdict → Option ℕ
skipped_stored None = None
skipped_stored (Some v) = skipped_by v

-- an open queue's verdict of what a cleanup of f left, except the excused, if it has such a file object
abbrev pub JudgesCleanupOf : FileId → List ℕ → QueueBodyState → Code → Option CleanupVerdict → Type 0
JudgesCleanupOf f excused body code stored = OnOpen body code (stored ≡ None) (λ q. MatchOption (listed_for q.queue f)
    ((code ≡ UnknownFile) × (stored ≡ None)) (λ _. (code ≡ Done) × (stored ≡ Some (cleanup_verdict (first_left excused f (listed q))))))

-- the number of the IRP that is left, or the largest one
abbrev pub left_number : CleanupVerdict → ℕ
left_number cleanup.Clean = 4294967295
left_number (cleanup.Leaves i) = i.0

-- if there is a verdict
abbrev pub left_stored : Option CleanupVerdict → Option ℕ
left_stored None = None
left_stored (Some v) = Some (left_number v)
