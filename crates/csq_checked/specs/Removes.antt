-- What is said of a removal.
use Rattle.std.specs.Prelude.{if◌then◌else◌, List, Option, Some, None}
use Rattle.irp_core.specs.declared.ids.{IrpId.{IrpId}, IrpLife.{IrpLife}}
use Rattle.csq_list.specs.declared.entry.Entry.{Entry}
use Rattle.csq_list.specs.Searches.{is_listed}
use Rattle.csq_checked.specs.declared.judge.remove.RemoveVerdict.{RemoveVerdict, TheVariants.{Agrees, Claimed, NotListed}}

-- what the queue's own removal of i got, by the verdict
abbrev pub removed_by : RemoveVerdict → IrpLife → Option IrpLife
removed_by Agrees i = Some i
removed_by Claimed i = None
removed_by NotListed i = None

-- of an IRP that no removal gets: whether it is in the queue
abbrev pub unremoved_verdict : List Entry → IrpId → RemoveVerdict
unremoved_verdict es i = if is_listed es i then Claimed else NotListed
