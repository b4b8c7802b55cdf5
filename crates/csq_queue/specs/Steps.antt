-- The steps that each call makes, the newest first.
use Rattle.std.specs.Prelude.{◌≡◌, ◌-◌, Bool, false, List, [], ◌∷◌, ◌++◌, map, Option, Some, None, Result, Ok, Err, if◌then◌else◌}
use Rattle.irp_core.specs.Steps.{same_irp}
use Rattle.irp_core.specs.declared.ids.{IrpLife.{IrpLife}, IrpId.{IrpId}, Life.{Life}, PassId.{PassId}}
use Rattle.irp_core.specs.Programs.{Act}
use Rattle.irp_core.specs.declared.inside.Inside.TheVariants.{Nothing}
use Rattle.irp_core.specs.declared.step.{Kind.{TheVariants.{Arm, Test, Disarm, End, Renew, Rearm}, Kind}, Made.{Made}}
use Rattle.csq_list.specs.declared.entry.Peek.{Peek}
use Rattle.csq_list.specs.declared.refusals.InsertStatus.{InsertStatus}
use Rattle.csq_list.specs.Searches.{matches}
use Rattle.csq_words.specs.declared.views.PassRecord.{PassRecord}
use Rattle.irp_core.specs.Own.{inside_of}
use Rattle.csq_words.specs.Queue.{Queued, QueueState, has_entry, has_marked}
use Rattle.csq_queue.specs.declared.refusals.ReuseRefused.{ReuseRefused}
use Rattle.csq_queue.specs.declared.tokens.InsertAnswer.{InsertAnswer, TheVariants.{Pending, Cancelled}}

-- these steps, made by p
abbrev pub made_by : PassId → List Act → List Made
made_by p acts = map (λ (a : Act). record { pass = p; kind = a.0; found = a.1 }) acts

-- a pass that was inside of no program made these steps, and recorded no completion and no other life
pub record MakesSteps (acts : List Act) (old new : PassRecord) : Type 0 where
  pub outside : inside_of old.steps ≡ Nothing
  pub pass : new.pass ≡ old.pass
  pub steps : new.steps ≡ made_by old.pass acts ++ old.steps
  pub completed : new.completed ≡ old.completed
  pub found : new.lives ≡ old.lives

-- an insert or a put-back that returned so and left this queue, of which the first step is of this kind: it sets the routine and tests the flag. If that is set it disarms the IRP, and takes it back or leaves it, marked, to a canceller
abbrev pub listing_steps : (IrpLife → Kind) → Result (InsertAnswer IrpLife IrpLife) InsertStatus → QueueState → List Act
listing_steps set (Err cause) u = []
listing_steps set (Ok (Cancelled i)) u = (Disarm i, 1) ∷ (Test i, 1) ∷ (set i, 0) ∷ []
listing_steps set (Ok (Pending i)) u = if has_marked u.entries i then (Disarm i, 0) ∷ (Test i, 1) ∷ (set i, 0) ∷ [] else (Test i, 0) ∷ (set i, 0) ∷ []

-- an insert arms the IRP
abbrev pub insert_steps : Result (InsertAnswer IrpLife IrpLife) InsertStatus → QueueState → List Act
insert_steps answer u = listing_steps Arm answer u

-- a put-back rearms it
abbrev pub put_back_steps : Result (InsertAnswer IrpLife IrpLife) InsertStatus → QueueState → List Act
put_back_steps answer u = listing_steps Rearm answer u

-- whether the call gave out this IRP
abbrev pub gave : Option IrpLife → IrpLife → Bool
gave None j = false
gave (Some i) j = same_irp i j

-- the matches in front of the one that was given out, the last first; all matches, if none was
abbrev pub passed_over : Peek → Option IrpLife → List Queued → List IrpLife
passed_over k given [] = []
passed_over k given (e ∷ es) = if matches k e.file then (if gave given e.irp then [] else passed_over k given es ++ e.irp ∷ []) else passed_over k given es

-- a Disarm of each, which found no routine
abbrev pub misses : List IrpLife → List Act
misses is = map (λ (i : IrpLife). (Disarm i, 0)) is

-- the last step of a removal: it takes the routine of what it gives out, or ends
abbrev pub last_step : Option IrpLife → Act
last_step (Some i) = (Disarm i, 1)
last_step None = (End, 0)

-- a removal of the next match that found this queue and gave this out: it tries each match in the list's order
abbrev pub remove_next_steps : Peek → Option IrpLife → QueueState → List Act
remove_next_steps k given u = last_step given ∷ misses (passed_over k given u.entries)

-- a removal of i that found this queue and gave this out: it tries i if that is listed
abbrev pub remove_steps : IrpLife → Option IrpLife → QueueState → List Act
remove_steps i (Some j) u = last_step (Some j) ∷ []
remove_steps i None u = last_step None ∷ misses (if has_entry u.entries i then i ∷ [] else [])

-- the life of IRP n that ended as this one began
abbrev pub life_before : IrpId → Life → IrpLife
life_before n life = record { irp = n; life = record { 0 = life.0 - 1 } }

-- a reuse of IRP n that answered so: it renews the life that ends
abbrev pub reuse_steps : IrpId → Result Life ReuseRefused → List Act
reuse_steps n (Ok life) = (Renew (life_before n life), 0) ∷ []
reuse_steps n (Err cause) = []
