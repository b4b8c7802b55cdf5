-- An execution of the headline is a trace of the invariant.
use Rattle.std.proofs.Common.{◌≡◌, ◌⊎◌, inl, inr, ℕ, true, false, List, [], ◌∷◌, ◌++◌, Some, refl, sym, ap, ◌∙◌, subst}
use Rattle.irp_core.specs.Inside.{inside, has_lock, follows}
use Rattle.irp_core.specs.Lock.{needs_lock}
use Rattle.irp_core.specs.Runs.{Size}
use Rattle.irp_core.specs.declared.ids.{FileId.{FileId}, IrpLife.{IrpLife}, PassId.{PassId}}
use Rattle.irp_core.specs.declared.inside.Inside.{Inside, TheVariants.{Nothing, Removing, Cancelling}}
use Rattle.irp_core.specs.declared.step.{Kind.{Kind, TheVariants.{End, Flag, Take, Done}}}
use Rattle.csq_list.specs.declared.entry.Place.TheVariants.{Back}
use Rattle.csq_words.specs.declared.calls.{Call.{Call, TheVariants.{Insert, RemoveNext, Remove, CancelRoutine, CloseFile, Reuse, PutBack}}, Note.TheVariants.{Refused}}
use Rattle.csq_words.specs.declared.calls.Note.TheVariants as note
use Rattle.csq_words.specs.declared.views.{Event.{Event}, Tick.{Tick, TheVariants.{Makes, Says}}}
use Rattle.csq_words.specs.declared.views.Event.TheVariants as event
use Rattle.csq_words.specs.declared.views.InsertReply.TheVariants as reply
use Rattle.csq_words.specs.Queue.{QueueState}
use Rattle.csq_words.specs.History.{end_of}
use Rattle.csq_words.specs.Records.{entries_of}
use Rattle.csq_words.specs.Recorded.{recorded, IsOfCall}
use Rattle.csq_words.specs.Traces.{steps_in, entries_in, caller_in, says, IsNextStep, IsTrace}
use Rattle.csq_words.specs.Traces.IsTrace.{at_start, entering, leaving, unlocked, recording, noting}
use Rattle.csq_theorem.specs.Headline.{Adds, IsFree, IsNoted, IsExecution}
use Rattle.csq_theorem.specs.Headline.Adds.{insert_arms, insert_ends, insert_sees_flag, insert_leaves_it, insert_takes_back, removal_misses, removal_takes, removal_ends, routine_takes_out, put_back_arms, put_back_ends, put_back_sees_flag, put_back_leaves_it, put_back_takes_back, reuse_renews}
use Rattle.csq_theorem.specs.Headline.IsExecution.{begins, enters, leaves, makes_free, makes_locked, notes}
use Rattle.csq_theorem.proofs.Executions.{adding_is}

-- a call whose step adds these events
record IsOfSome (u : QueueState) (s : Inside) (kind : Kind) (v : ℕ) (es : List Event) : Type 0 where
  call : Call
  of_call : IsOfCall call kind u
  next : IsNextStep call kind s
  events_are : recorded call kind v u ≡ es

-- a removal may end there
ends : (s : Inside) → (s ≡ Nothing) ⊎ (s ≡ Removing) → follows s End ≡ true
ends s (inl is) = ap (λ x. follows x End) is
ends s (inr is) = ap (λ x. follows x End) is

-- any file object, of a step at which it doesn't matter
some_file : FileId
some_file = record { 0 = 0 }

of_some : (u : QueueState) (s : Inside) (kind : Kind) (v : ℕ) (es : List Event) → Adds u s kind v es → IsOfSome u s kind v es
of_some u s kind v es (insert_arms i v' is) = record { call = Insert i.irp some_file Back; of_call = is; next = refl; events_are = refl }
of_some u s kind v es (insert_ends i f place is) = record { call = Insert i.irp f place; of_call = is; next = refl; events_are = refl }
of_some u s kind v es (insert_sees_flag i v' is) = record { call = Insert i.irp some_file Back; of_call = is; next = refl; events_are = refl }
of_some u s kind v es (insert_leaves_it i f place is) = record { call = Insert i.irp f place; of_call = is; next = refl; events_are = refl }
of_some u s kind v es (insert_takes_back i f place v' is) = record { call = Insert i.irp f place; of_call = is; next = refl; events_are = refl }
of_some u s kind v es (removal_misses s' i in') = record { call = Remove i; of_call = refl; next = ends s' in'; events_are = refl }
of_some u s kind v es (removal_takes s' i v' e in' (inl which)) = record { call = RemoveNext which.0; of_call = tt; next = ends s' in'; events_are = ap (λ (x : Event). x ∷ []) (sym which.1) }
of_some u s kind v es (removal_takes s' i v' e in' (inr which)) = record { call = Remove i; of_call = refl; next = ends s' in'; events_are = ap (λ (x : Event). x ∷ []) (sym which) }
of_some u s kind v es (removal_ends s' v' e in' (inl which)) = record { call = RemoveNext which.0; of_call = tt; next = ends s' in'; events_are = ap (λ (x : Event). x ∷ []) (sym which.1) }
of_some u s kind v es (removal_ends s' v' e in' (inr which)) = record { call = Remove which.0; of_call = tt; next = ends s' in'; events_are = ap (λ (x : Event). x ∷ []) (sym which.1) }
of_some u s kind v es (routine_takes_out i v' is) = record { call = CancelRoutine i.irp; of_call = is; next = refl; events_are = refl }
of_some u s kind v es (put_back_arms i v') = record { call = PutBack i some_file Back; of_call = refl; next = refl; events_are = refl }
of_some u s kind v es (put_back_ends i f place) = record { call = PutBack i f place; of_call = refl; next = refl; events_are = refl }
of_some u s kind v es (put_back_sees_flag i v') = record { call = PutBack i some_file Back; of_call = refl; next = refl; events_are = refl }
of_some u s kind v es (put_back_leaves_it i f place) = record { call = PutBack i f place; of_call = refl; next = refl; events_are = refl }
of_some u s kind v es (put_back_takes_back i f place v') = record { call = PutBack i f place; of_call = refl; next = refl; events_are = refl }
of_some u s kind v es (reuse_renews i life v' later) = record { call = Reuse i.irp; of_call = refl; next = refl; events_are = ap (λ (n : ℕ). event.Reuse i.irp (record { 0 = n }) ∷ []) (sym later) }

-- a pass that is inside of nothing, or of a cancel, has no lock
pub lockless : (s : Inside) → (s ≡ Nothing) ⊎ ((i : IrpLife) × (s ≡ Cancelling i)) → has_lock s ≡ false
lockless s (inl is) = ap has_lock is
lockless s (inr is) = ap has_lock is.1

-- a step without the lock needs none
pub needs_none : (s : Inside) (k : Kind) → IsFree s k → needs_lock k ≡ false
needs_none Nothing (Flag i) free = refl
needs_none Nothing (Done i) free = refl
needs_none (Cancelling j) (Take i) free = refl
needs_none s k free = absurd free

module _ (first : ℕ) (p : PassId) (trace : List Tick) (in' : caller_in trace ≡ Some p) (outside : inside (steps_in trace) p ≡ Nothing) where
  note_of : (e : Event) → IsNoted e → IsTrace first trace → IsTrace first (Says record { pass = p; event = e } ∷ trace)
  note_of (event.Insert n f place (reply.Refused cause)) is rest = noting (Insert n f place) (Refused cause) p in' outside rest
  note_of (event.PutBack i f place (reply.Refused cause)) is rest = noting (PutBack i f place) (Refused cause) p in' outside rest
  note_of (event.CloseFile f) is rest = noting (CloseFile f) note.Event p in' outside rest
  note_of e is rest = absurd is

pub is_trace : (size : Size) (trace : List Tick) → IsExecution size trace → IsTrace size.first trace
is_trace size trace begins = at_start
is_trace size trace (enters p t free rest) = entering p free (is_trace size t rest)
is_trace size trace (leaves p t in' done rest) = leaving p in' (lockless (inside (steps_in t) p) done) (is_trace size t rest)
is_trace size trace (makes_free m t alone free known may found rest) = unlocked m (needs_none (inside (steps_in t) m.pass) m.kind free) alone (is_trace size t rest)
is_trace size trace (makes_locked m es t in' adds known may found rest) =
    let of = of_some (end_of size.first (entries_in t)) (inside (steps_in t) m.pass) m.kind m.found es adds in
    subst (IsTrace size.first) (ap (λ (xs : List Event). says (entries_of m.pass xs) ++ (Makes m ∷ t)) of.events_are ∙ sym (adding_is m.pass es (Makes m ∷ t)))
    (recording of.call m (record { caller_is = in'; of_call = of.of_call; next = of.next }) (is_trace size t rest))
is_trace size trace (notes p e t in' outside noted rest) = note_of size.first p t in' outside e noted (is_trace size t rest)
