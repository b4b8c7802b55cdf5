-- What is said of what a cleanup leaves.
use Rattle.std.specs.Prelude.{ℕ, ◌==◌, ◌&&◌, not, Bool, List, Option, Some, None}
use Rattle.std.specs.List.{list_any, find}
use Rattle.std.specs.Option.{option_map}
use Rattle.irp_core.specs.declared.ids.{FileId.{FileId}, IrpId.{IrpId}}
use Rattle.csq_list.specs.declared.entry.{Entry.{Entry}, Peek.TheVariants.{File}}
use Rattle.csq_list.specs.Searches.{matches}
use Rattle.csq_checked.specs.declared.judge.cleanup.CleanupVerdict.{CleanupVerdict, TheVariants.{Clean, Leaves}}

-- a cleanup may leave an IRP whose number is among these
abbrev pub is_excused : List ℕ → IrpId → Bool
is_excused excused i = list_any (λ n. n == i.0) excused

-- the first IRP of a file object that a cleanup may not leave
abbrev pub first_left : List ℕ → FileId → List Entry → Option IrpId
first_left excused f es = option_map (λ (e : Entry). e.irp) (find (λ (e : Entry). matches (File f) e.file && not (is_excused excused e.irp)) es)

-- clean if there is none
abbrev pub cleanup_verdict : Option IrpId → CleanupVerdict
cleanup_verdict None = Clean
cleanup_verdict (Some i) = Leaves i
