-- What is said of the answer of a peek.
use Rattle.std.specs.Prelude.{List, Option, Some, None, filter, if◌then◌else◌}
use Rattle.irp_core.specs.declared.ids.IrpId.{IrpId}
use Rattle.irp_core.specs.Steps.{same_id}
use Rattle.csq_list.specs.declared.entry.{Entry.{Entry}, Peek.{Peek}}
use Rattle.csq_list.specs.Searches.{first_match, is_listed, matches, rest_after}
use Rattle.csq_checked.specs.declared.judge.peek.PeekVerdict.{PeekVerdict, TheVariants.{Agrees, Skips, Backwards, NoMatch, NotListed}}

-- the entries that a peek takes
abbrev pub matching : Peek → List Entry → List Entry
matching k es = filter (λ e. matches k e.file) es

-- of an answer that is no match after the start: a match before it, no match, or not in the queue
abbrev pub stray_verdict : List Entry → Peek → IrpId → PeekVerdict
stray_verdict es k i = if is_listed (matching k es) i then Backwards else (if is_listed es i then NoMatch else NotListed)

-- of an answer that is an IRP, if this is the first match after the start: that one, a later match, or none of these
abbrev pub irp_verdict : List Entry → Peek → IrpId → IrpId → PeekVerdict
irp_verdict es k first i = if same_id first i then Agrees else (if is_listed (matching k (rest_after (Some first) es)) i then Skips first else stray_verdict es k i)

-- of an answer, if this is the first match after the start, if there is one
abbrev pub verdict_beside : List Entry → Peek → Option IrpId → Option IrpId → PeekVerdict
verdict_beside es k None None = Agrees
verdict_beside es k (Some first) None = Skips first
verdict_beside es k None (Some i) = stray_verdict es k i
verdict_beside es k (Some first) (Some i) = irp_verdict es k first i

-- of an answer to a peek that goes on after an IRP, or looks at the whole queue
abbrev pub peek_verdict : List Entry → Option IrpId → Peek → Option IrpId → PeekVerdict
peek_verdict es after k answer = verdict_beside es k (first_match k (rest_after after es)) answer
