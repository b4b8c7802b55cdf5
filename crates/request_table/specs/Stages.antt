-- The stages of a number.
use Rattle.std.specs.Prelude.{Bool, true, false, ◌==◌, Option, Some, None, is_some}
use Rattle.std.specs.Option.{option_map_or}
use Rattle.irp_core.specs.declared.ids.FileId.{FileId}
use Rattle.request_table.specs.declared.stage.{Why.{Why}, Stage.{Stage, TheVariants.{Free, Listed, Taken, Ending, Spent}}}

-- whether two numbers are of one file
abbrev pub same_file : FileId → FileId → Bool
same_file f g = f.0 == g.0

-- the file of a request under way
abbrev pub file_of : Stage → Option FileId
file_of Free = None
file_of (Listed f) = Some f
file_of (Taken f named) = Some f
file_of (Ending f why) = Some f
file_of Spent = None

abbrev pub is_free : Stage → Bool
is_free Free = true
is_free _ = false

abbrev pub is_listed : Stage → Bool
is_listed (Listed f) = true
is_listed _ = false

abbrev pub is_taken : Stage → Bool
is_taken (Taken f named) = true
is_taken _ = false

abbrev pub is_spent : Stage → Bool
is_spent Spent = true
is_spent _ = false

-- a request that may be due: it is listed or taken
abbrev pub may_be_due : Stage → Bool
may_be_due (Listed f) = true
may_be_due (Taken f named) = true
may_be_due _ = false

-- a request that may be ended: it is taken or ending
abbrev pub may_finish : Stage → Bool
may_finish (Taken f named) = true
may_finish (Ending f why) = true
may_finish _ = false

-- a request under way
abbrev pub is_under_way : Stage → Bool
is_under_way s = is_some (file_of s)

-- a request under way for this file
abbrev pub is_for : FileId → Stage → Bool
is_for f s = option_map_or (same_file f) (file_of s) false

-- what was listed, in the hands of a worker
abbrev pub as_taken : Stage → Stage
as_taken (Listed f) = Taken f None
as_taken s = s

-- what was taken, in the queue again
abbrev pub as_listed : Stage → Stage
as_listed (Taken f named) = Listed f
as_listed s = s

-- what was taken, named: what named it first stays
abbrev pub as_named : Why → Stage → Stage
as_named why (Taken f None) = Taken f (Some why)
as_named why s = s

-- what was listed, on its way to its end
abbrev pub as_ending : Why → Stage → Stage
as_ending why (Listed f) = Ending f why
as_ending why s = s
