-- What the calls of an open queue by a pass answer to C.
use Rattle.std.specs.Prelude.{◌≡◌, ℕ, Option, None, Result}
use Rattle.irp_core.specs.declared.ids.{IrpLife.{IrpLife}, IrpId.{IrpId}, FileId.{FileId}, Life.{Life}}
use Rattle.csq_list.specs.declared.entry.{Peek.{Peek}, Place.{Place}}
use Rattle.csq_list.specs.declared.refusals.{InsertStatus.{InsertStatus}, UnknownFile.{UnknownFile}}
use Rattle.csq_queue.specs.declared.tokens.InsertAnswer.{InsertAnswer}
use Rattle.csq_queue.specs.Calls.{Inserts, RemovesNext, RemovesOne}
use Rattle.csq_checked.specs.Calls.{MakesCall, PutsBackRemoved, RunsOwedRoutine, CancelsOwed, ClosesKnownFile, ReusesPresentLife}
use Rattle.csq_checked.specs.Passes.{CheckedPassState}
use Rattle.csq_checked.specs.declared.calls.{PutBackRefused.{PutBackRefused}, CheckedReuseRefused.{CheckedReuseRefused}}
use Rattle.csq_checked.specs.declared.unlocked.RoutineRefused.{RoutineRefused}
use Rattle.csq_c.specs.Bodies.{QueueBodyState}
use Rattle.csq_c.specs.Codes.{insert_code, inserted_irp, put_back_code, put_back_irp, removal_code, routine_code, close_file_code, reuse_code, life_stored}
use Rattle.csq_c.specs.Exports.{OnQueue}
use Rattle.csq_c.specs.declared.codes.Code.{Code}

-- an insert returns this code, and stores this IRP
abbrev pub InsertsInto : IrpId → FileId → Place → QueueBodyState → QueueBodyState → CheckedPassState → CheckedPassState → Code → Option IrpLife → Type 0
InsertsInto irp file place body body' p p' code stored = OnQueue body body' p p' code (stored ≡ None)
    (λ q q'. (answer : Result (InsertAnswer IrpLife IrpLife) InsertStatus) × MakesCall (Inserts irp file place answer) q p q' p' × (code ≡ insert_code answer) × (stored ≡ inserted_irp answer))

-- a put-back returns this code, and stores this IRP
abbrev pub PutsBackInto : IrpLife → Place → QueueBodyState → QueueBodyState → CheckedPassState → CheckedPassState → Code → Option IrpLife → Type 0
PutsBackInto i place body body' p p' code stored = OnQueue body body' p p' code (stored ≡ None)
    (λ q q'. (answer : Result (InsertAnswer IrpLife IrpLife) PutBackRefused) × PutsBackRemoved i place answer q p q' p' × (code ≡ put_back_code answer) × (stored ≡ put_back_irp answer))

-- so does a removal of the next match
abbrev pub RemovesNextFrom : Peek → QueueBodyState → QueueBodyState → CheckedPassState → CheckedPassState → Code → Option IrpLife → Type 0
RemovesNextFrom peek body body' p p' code stored = OnQueue body body' p p' code (stored ≡ None)
    (λ q q'. MakesCall (RemovesNext peek stored) q p q' p' × (code ≡ removal_code stored))

-- and a removal of the IRP named
abbrev pub RemovesFrom : IrpLife → QueueBodyState → QueueBodyState → CheckedPassState → CheckedPassState → Code → Type 0
RemovesFrom i body body' p p' code = OnQueue body body' p p' code (Unit {0})
    (λ q q'. (taken : Option IrpLife) × MakesCall (RemovesOne i taken) q p q' p' × (code ≡ removal_code taken))

-- a cancel routine answers this code
abbrev pub RunsRoutineOn : IrpLife → QueueBodyState → QueueBodyState → CheckedPassState → CheckedPassState → Code → Type 0
RunsRoutineOn i body body' p p' code = OnQueue body body' p p' code (Unit {0})
    (λ q q'. (answer : Result (Unit {0}) RoutineRefused) × RunsOwedRoutine i answer q p q' p' × (code ≡ routine_code answer))

-- and one with the completion as cancelled
abbrev pub CancelsOwedOn : IrpLife → QueueBodyState → QueueBodyState → CheckedPassState → CheckedPassState → Code → Type 0
CancelsOwedOn i body body' p p' code = OnQueue body body' p p' code (Unit {0})
    (λ q q'. (answer : Result (Unit {0}) RoutineRefused) × CancelsOwed i answer q p q' p' × (code ≡ routine_code answer))

-- so does the closing of a file object
abbrev pub ClosesFileOf : FileId → QueueBodyState → QueueBodyState → CheckedPassState → CheckedPassState → Code → Type 0
ClosesFileOf file body body' p p' code = OnQueue body body' p p' code (Unit {0})
    (λ q q'. (answer : Result (Unit {0}) UnknownFile) × ClosesKnownFile file answer q p q' p' × (code ≡ close_file_code answer))

-- a reuse returns this code, and stores this life
abbrev pub ReusesOf : IrpLife → QueueBodyState → QueueBodyState → CheckedPassState → CheckedPassState → Code → Option ℕ → Type 0
ReusesOf i body body' p p' code stored = OnQueue body body' p p' code (stored ≡ None)
    (λ q q'. (answer : Result Life CheckedReuseRefused) × ReusesPresentLife i answer q p q' p' × (code ≡ reuse_code answer) × (stored ≡ life_stored answer))
