-- What a closed queue reports.
use Rattle.std.specs.Prelude.{◌≡◌, ℕ, ◌==◌, Bool, true, List, Option, Some, None, if◌then◌else◌}
use Rattle.std.specs.Option.{is_some}
use Rattle.irp_core.specs.declared.ids.{IrpId.{IrpId}, Life.{Life}}
use Rattle.irp_core.specs.declared.status.NtStatus.{NtStatus}
use Rattle.csq_list.specs.declared.entry.{Entry.{Entry}, Peek.TheVariants.{Any}}
use Rattle.csq_list.specs.Searches.{is_listed, first_match, rest_after}
use Rattle.csq_words.specs.Finals.{FinalWords, final_life, final_status, is_cancelled}
use Rattle.csq_c.specs.Bodies.{QueueBodyState, RestState}
use Rattle.csq_c.specs.Shapes.{irp_numbered, flag_number}
use Rattle.csq_c.specs.declared.codes.Code.{Code, TheVariants.{Done, UnknownIrp, Nothing, NotListed, NotClosed}}
use Rattle.csq_c.specs.declared.shapes.CsqLeft.{CsqLeft}

-- a look at what is left of a closed queue is as defined for it. Of one that isn't closed the code says so, and nothing is stored
pub record OnRest (body : QueueBodyState) (code : Code) (nothing : Type 0) (stored : RestState → Type 0) : Type 0 where
  pub unclosed : body.rest ≡ None → (code ≡ NotClosed) × nothing
  pub looked : (rest : RestState) → body.rest ≡ Some rest → stored rest

-- the IRP after which the next one is asked for: none by the largest number
abbrev pub start_of : ℕ → Option IrpId
start_of n = if n == 4294967295 then None else Some (irp_numbered n)

-- whether the entries can be looked at from there
abbrev pub is_start : List Entry → Option IrpId → Bool
is_start es None = true
is_start es (Some i) = is_listed es i

-- the next entry
abbrev pub next_after : List Entry → Option IrpId → Option IrpId
next_after es after = if is_start es after then first_match Any (rest_after after es) else None

-- a look at the next entry answers this code
abbrev pub next_code : List Entry → Option IrpId → Code
next_code es after = if is_start es after then (if is_some (first_match Any (rest_after after es)) then Done else Nothing) else NotListed

-- its number, if there is one
abbrev pub number_stored : Option IrpId → Option ℕ
number_stored None = None
number_stored (Some i) = Some i.0

-- 1 and the status if an IRP was completed, else 0 and 0
abbrev pub completed_of : Option NtStatus → ℕ
completed_of None = 0
completed_of (Some status) = 1

abbrev pub status_of : Option NtStatus → ℕ
status_of None = 0
status_of (Some status) = status.0

-- what is left of an IRP whose present life is this
abbrev pub left_in : FinalWords → IrpId → Option Life → Option CsqLeft
left_in finals n None = None
left_in finals n (Some life) = Some (record { life = life.0; cancelled = flag_number (is_cancelled finals n); completed = completed_of (final_status finals n); status = status_of (final_status finals n) })

-- what is left of IRP n, if there is one
abbrev pub left_of : FinalWords → IrpId → Option CsqLeft
left_of finals n = left_in finals n (final_life finals n)

-- what stands there once this is written, if it is there
abbrev pub left_written : Option CsqLeft → CsqLeft → CsqLeft
left_written None old = old
left_written (Some left) old = left

-- a look at what is left answers this code
abbrev pub left_code : Option CsqLeft → Code
left_code None = UnknownIrp
left_code (Some left) = Done
