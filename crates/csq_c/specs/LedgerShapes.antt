-- What C reads and writes beside the handle of a ledger.
use Rattle.std.specs.Prelude.{ℕ, ◌==◌, Option, Some, None, if◌then◌else◌}
use Rattle.request_table.specs.declared.stage.{Ended.{Ended}, Why.{Why}, Stage.{Stage, TheVariants.{Free, Listed, Taken, Ending, Spent}}}
use Rattle.request_table.specs.declared.stage.Why.TheVariants.{Cancel, Drain, Cleanup, QueueFreed, Due}
use Rattle.csq_c.specs.Shapes.{flag_number}
use Rattle.csq_c.specs.declared.ledger.shapes.{CsqEnded.{CsqEnded}, CsqLook.{CsqLook}}

-- why a request ends, by its number
abbrev pub why_numbered : ℕ → Option Why
why_numbered n = if n == 1 then Some Cancel else if n == 2 then Some Drain else if n == 3 then Some Cleanup else if n == 4 then Some QueueFreed else if n == 5 then Some Due else None

-- the number of a reason
abbrev pub why_number : Why → ℕ
why_number Cancel = 1
why_number Drain = 2
why_number Cleanup = 3
why_number QueueFreed = 4
why_number Due = 5

-- the number of what named a taken request first, if anything did
abbrev pub named_number : Option Why → ℕ
named_number None = 0
named_number (Some why) = why_number why

-- the number of a stage
abbrev pub stage_number : Stage → ℕ
stage_number Free = 0
stage_number (Listed f) = 1
stage_number (Taken f named) = 2
stage_number (Ending f why) = 3
stage_number Spent = 0

-- what is known of a request in this stage: its stage, its file object, and why it ends or what named it first
abbrev pub look_of : Stage → CsqLook
look_of Free = record { stage = 0; file = 0; why = 0 }
look_of (Listed f) = record { stage = 1; file = f.0; why = 0 }
look_of (Taken f named) = record { stage = 2; file = f.0; why = named_number named }
look_of (Ending f why) = record { stage = 3; file = f.0; why = why_number why }
look_of Spent = record { stage = 0; file = 0; why = 0 }

-- what stands there once this end is written, if there is one
abbrev pub ended_written : Option Ended → CsqEnded → CsqEnded
ended_written None old = old
ended_written (Some ended) old = record { file = ended.file.0; file_is_quiet = flag_number ended.file_is_quiet; all_are_quiet = flag_number ended.all_are_quiet }
