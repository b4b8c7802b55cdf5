-- What C reads and writes beside the handles.
use Rattle.std.specs.Prelude.{ℕ, ◌==◌, Bool, true, false, if◌then◌else◌, Option, Some, None}
use Rattle.irp_core.specs.declared.ids.{IrpLife.{IrpLife}, IrpId.{IrpId}, FileId.{FileId}, Life.{Life}}
use Rattle.irp_core.specs.declared.status.NtStatus.{NtStatus}
use Rattle.csq_list.specs.declared.entry.{Peek.{Peek}, Place.{Place, TheVariants.{Back, Front}}}
use Rattle.csq_list.specs.declared.entry.Peek.TheVariants as peek
use Rattle.csq_c.specs.declared.shapes.CsqIrp.{CsqIrp}

-- the IRP, the file object, the life, the status with these numbers
abbrev pub irp_numbered : ℕ → IrpId
irp_numbered n = record { 0 = n }

abbrev pub file_numbered : ℕ → FileId
file_numbered n = record { 0 = n }

abbrev pub life_numbered : ℕ → Life
life_numbered n = record { 0 = n }

abbrev pub status_numbered : ℕ → NtStatus
status_numbered n = record { 0 = n }

-- the IRP that C names, in its life
abbrev pub irp_named : CsqIrp → IrpLife
irp_named c = record { irp = irp_numbered c.irp; life = life_numbered c.life }

-- at the front if the number isn't 0
abbrev pub place_numbered : ℕ → Place
place_numbered n = if n == 0 then Back else Front

-- any IRP by the largest number, else those of a file object
abbrev pub peek_of : ℕ → Peek
peek_of n = if n == 4294967295 then peek.Any else peek.File (file_numbered n)

-- what stands there once this IRP is written, if there is one
abbrev pub written : Option IrpLife → CsqIrp → CsqIrp
written None old = old
written (Some i) old = record { irp = i.irp.0; life = i.life.0 }

-- what stands there once this number is written, if there is one
abbrev pub set_to : Option ℕ → ℕ → ℕ
set_to None old = old
set_to (Some n) old = n

-- 1 for true, 0 for false
abbrev pub flag_number : Bool → ℕ
flag_number true = 1
flag_number false = 0
