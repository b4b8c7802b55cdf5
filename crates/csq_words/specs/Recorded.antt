-- What each call records at its steps.
use Rattle.std.specs.Prelude.{◌≡◌, ℕ, zero, suc, ◌+◌, Bool, true, false, List, [], ◌∷◌, Some, None, if◌then◌else◌}
use Rattle.irp_core.specs.Steps.{life_of}
use Rattle.irp_core.specs.declared.ids.{IrpLife.{IrpLife}}
use Rattle.irp_core.specs.declared.step.{Kind.{Kind, TheVariants.{Arm, Test, Disarm, End, Renew, Rearm}}}
use Rattle.irp_core.specs.declared.step.Kind.TheVariants as step
use Rattle.csq_words.specs.declared.calls.{Call.{Call, TheVariants.{Insert, RemoveNext, Remove, CancelRoutine, CloseFile, Reuse, PutBack}}, Note.{Note, TheVariants.{Refused}}}
use Rattle.csq_words.specs.declared.calls.Note.TheVariants as note
use Rattle.csq_words.specs.declared.views.{InsertReply.TheVariants.{Pending, Cancelled}, Event.{Event, TheVariants.{FlagSeen, Mark, Out}}}
use Rattle.csq_words.specs.declared.views.InsertReply.TheVariants as reply
use Rattle.csq_words.specs.declared.views.Event.TheVariants as event
use Rattle.csq_words.specs.Queue.{QueueState, present_in, has_unmarked}

-- IRP i in its next life
abbrev pub next_life : IrpLife → IrpLife
next_life i = record { irp = i.irp; life = record { 0 = life_of i + 1 } }

-- the mark of i, where i isn't marked yet
abbrev pub due_mark : IrpLife → QueueState → List Event
due_mark i u = if has_unmarked u.entries i then Mark i ∷ [] else []

-- what a step of the call that found this records beside this queue, the newest first
abbrev pub recorded : Call → Kind → ℕ → QueueState → List Event
recorded (Insert n f place) (Test j) zero u = event.Insert n f place Pending ∷ []
recorded (Insert n f place) (Disarm j) zero u = Mark j ∷ event.Insert n f place Pending ∷ []
recorded (Insert n f place) (Disarm j) (suc k) u = event.Insert n f place Cancelled ∷ FlagSeen j ∷ []
recorded (RemoveNext k) (Disarm j) zero u = due_mark j u
recorded (RemoveNext k) (Disarm j) (suc n) u = event.RemoveNext k (Some j) ∷ []
recorded (RemoveNext k) End found u = event.RemoveNext k None ∷ []
recorded (Remove i) (Disarm j) zero u = due_mark i u
recorded (Remove i) (Disarm j) (suc n) u = event.Remove i true ∷ []
recorded (Remove i) End found u = event.Remove i false ∷ []
recorded (CancelRoutine n) (step.Out j) found u = Out j ∷ due_mark j u
recorded (PutBack i f place) (Test j) zero u = event.PutBack i f place Pending ∷ []
recorded (PutBack i f place) (Disarm j) zero u = Mark j ∷ event.PutBack i f place Pending ∷ []
recorded (PutBack i f place) (Disarm j) (suc k) u = event.PutBack i f place Cancelled ∷ FlagSeen j ∷ []
recorded (Reuse n) (Renew j) found u = event.Reuse n (next_life j).life ∷ []
recorded _ _ _ u = []

-- what is noted of a call without any step
abbrev pub noted : Call → Note → List Event
noted (Insert n f place) (Refused cause) = event.Insert n f place (reply.Refused cause) ∷ []
noted (PutBack i f place) (Refused cause) = event.PutBack i f place (reply.Refused cause) ∷ []
noted (CloseFile f) note.Event = event.CloseFile f ∷ []
noted _ _ = []

-- the step is one of this call, and of the IRP that the call is of, beside this queue
abbrev pub IsOfCall : Call → Kind → QueueState → Type 0
IsOfCall (Insert n f place) (Arm j) u = j ≡ present_in u n
IsOfCall (Insert n f place) (Test j) u = j ≡ present_in u n
IsOfCall (Insert n f place) (Disarm j) u = j ≡ present_in u n
IsOfCall (RemoveNext k) (Disarm j) u = Unit {0}
IsOfCall (RemoveNext k) End u = Unit {0}
IsOfCall (Remove i) (Disarm j) u = j ≡ i
IsOfCall (Remove i) End u = Unit {0}
IsOfCall (CancelRoutine n) (step.Out j) u = j ≡ present_in u n
IsOfCall (PutBack i f place) (Rearm j) u = j ≡ i
IsOfCall (PutBack i f place) (Test j) u = j ≡ i
IsOfCall (PutBack i f place) (Disarm j) u = j ≡ i
IsOfCall (Reuse n) (Renew j) u = j.irp ≡ n
IsOfCall _ _ u = ⊥

-- the event is of a call that makes no step: a refused insert or put-back, or a closed file object
abbrev pub is_noted : Event → Bool
is_noted (event.Insert n f place (reply.Refused cause)) = true
is_noted (event.PutBack i f place (reply.Refused cause)) = true
is_noted (event.CloseFile f) = true
is_noted _ = false
