-- A queue with its one pass beside a table of its requests: the table says of each number what the queue has of it.
use Rattle.std.specs.Prelude.{Option, ◌≡◌, nat_lt, Bool, ◌<◌, ◌==◌, true, false, if◌then◌else◌, length, slice_index_or, None, Some}
use Rattle.std.specs.Option.{is_some}
use Rattle.irp_core.specs.Steps.{life_of}
use Rattle.irp_core.specs.declared.ids.{FileId.{FileId}, IrpId.{IrpId}, IrpLife.{IrpLife}}
use Rattle.request_table.specs.declared.stage.Stage.{Stage, TheVariants.{Listed, Taken, Ending, Spent}}
use Rattle.request_table.specs.Requests.{Requests, stage_of}
use Rattle.request_table.specs.Stages.{file_of, is_free, is_listed, may_finish}
use Rattle.csq_ledger.specs.Singles.{Single, Spot, file_listed, is_closed, list_of, limits_of, spot}

-- the queue with its pass, and the table
pub record LedgerState : Type 0 where
  pub single : Single
  pub table : Requests

-- what is taken is flagged if it is named; and unless it is, a removal gave it to the pass
abbrev pub IsNamedSo : Stage → Spot → Type 0
IsNamedSo (Taken f named) x = (x.is_flagged ≡ is_some named) × (named ≡ None → x.is_removed ≡ true)
IsNamedSo s x = Unit {0}

-- what the stage of a number says is so of its present life: it is listed if the stage is Listed, for that file object; the pass holds it if the stage is Taken or Ending; and it is home if the stage is Free
pub record IsSpotOf (s : Stage) (x : Spot) : Type 0 where
  pub listed : x.is_listed ≡ is_listed s
  pub held : x.is_held ≡ may_finish s
  pub home : is_free s ≡ true → (x.is_used ≡ false) × (x.is_flagged ≡ false)
  pub file : (f : FileId) → file_of s ≡ Some f → x.file ≡ f
  pub named : IsNamedSo s x

-- the link: what the table says of each number is so in the queue, and of each file object
pub record IsLinked (s : Single) (t : Requests) : Type 0 where
  pub spots : (n : IrpId) → n.0 < length t.stages → IsSpotOf (stage_of t n) (spot s n)
  pub irps : length t.stages ≡ (limits_of s).irps
  pub files : length t.closed_files ≡ (limits_of s).files
  pub closed : (f : FileId) → slice_index_or t.closed_files f.0 false ≡ is_closed s f

-- the stage of a request by its name: a name of another life than the present one is of no request any more
abbrev pub named_stage : LedgerState → IrpLife → Stage
named_stage s i = if life_of i == (spot s.single i.irp).life then stage_of s.table i.irp else Spent

abbrev pub is_ending : Stage → Bool
is_ending (Ending f why) = true
is_ending _ = false

-- there is such an IRP
abbrev pub knows : LedgerState → IrpId → Bool
knows s n = nat_lt n.0 (length s.table.stages)

-- the file object for which a number of this stage is listed
abbrev pub file_in_list : Stage → Option FileId
file_in_list (Listed f) = Some f
file_in_list _ = None

-- a number stands in the list exactly if its stage is Listed, for that file object
abbrev pub ListAgrees : LedgerState → Type 0
ListAgrees s = (n : IrpId) → n.0 < length s.table.stages → file_listed (list_of s.single) n ≡ file_in_list (stage_of s.table n)
