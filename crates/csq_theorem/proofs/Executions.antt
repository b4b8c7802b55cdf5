-- The trace of the invariant is an execution of the headline.
use Rattle.std.proofs.Common.{◌≡◌, ◌⊎◌, inl, inr, ℕ, zero, suc, true, false, true≢false, List, [], ◌∷◌, ◌++◌, Some, None, refl, sym, ap, subst}
use Rattle.irp_core.proofs.Growing.{run_less, run_last}
use Rattle.irp_core.proofs.Names.{same_irp-eq}
use Rattle.irp_core.specs.Inside.{inside, has_lock, follows}
use Rattle.irp_core.specs.Lock.{needs_lock}
use Rattle.irp_core.specs.Runs.{Size, IsRun}
use Rattle.irp_core.specs.declared.ids.{IrpLife.{IrpLife}, PassId.{PassId}}
use Rattle.irp_core.specs.declared.inside.Inside.{Inside, TheVariants.{Nothing, Armed, Removing, Cancelling, Rearmed, FlagSeenAgain}}
use Rattle.irp_core.specs.declared.inside.Inside.TheVariants as inner
use Rattle.irp_core.specs.declared.step.{Kind.{Kind, TheVariants.{Arm, Test, Disarm, End, Flag, Take, Done, Renew, Rearm}}}
use Rattle.irp_core.specs.declared.step.Kind.TheVariants as step
use Rattle.csq_words.specs.declared.calls.{Call.{Call, TheVariants.{Insert, RemoveNext, Remove, CancelRoutine, CloseFile, Reuse, GiveBack, PutBack}}, Note.{Note, TheVariants.{Refused}}}
use Rattle.csq_words.specs.declared.calls.Note.TheVariants as note
use Rattle.csq_words.specs.declared.views.{Event.{Event}, Tick.{Tick, TheVariants.{Makes, Says}}}
use Rattle.csq_words.specs.declared.views.Event.TheVariants as event
use Rattle.csq_words.specs.declared.views.InsertReply.TheVariants as reply
use Rattle.csq_words.specs.Queue.{QueueState, present_in}
use Rattle.csq_words.specs.History.{end_of}
use Rattle.csq_words.specs.Records.{entries_of}
use Rattle.csq_words.specs.Recorded.{due_mark, next_life, recorded, noted, IsOfCall}
use Rattle.csq_words.specs.Traces.{steps_in, entries_in, says, IsNextStep, IsTrace}
use Rattle.csq_words.specs.Traces.IsTrace.{at_start, entering, leaving, unlocked, recording, noting}
use Rattle.csq_words.proofs.Traced.{steps_says}
use Rattle.csq_theorem.specs.Headline.{adding, Adds, IsFree, IsExecution}
use Rattle.csq_theorem.specs.Headline.Adds.{insert_arms, insert_ends, insert_sees_flag, insert_leaves_it, insert_takes_back, removal_misses, removal_takes, removal_ends, routine_takes_out, put_back_arms, put_back_ends, put_back_sees_flag, put_back_leaves_it, put_back_takes_back, reuse_renews}
use Rattle.csq_theorem.specs.Headline.IsExecution.{begins, enters, leaves, makes_free, makes_locked, notes}

-- without the lock a pass is inside of nothing, or of a cancel
unlocked_inside : (s : Inside) → has_lock s ≡ false → (s ≡ Nothing) ⊎ ((i : IrpLife) × (s ≡ Cancelling i))
unlocked_inside Nothing free = inl refl
unlocked_inside (Cancelling i) free = inr (i, refl)
unlocked_inside (Armed i) free = absurd (true≢false free)
unlocked_inside (inner.FlagSeen i) free = absurd (true≢false free)
unlocked_inside Removing free = absurd (true≢false free)
unlocked_inside (Rearmed i) free = absurd (true≢false free)
unlocked_inside (FlagSeenAgain i) free = absurd (true≢false free)

-- a step without the lock is a cancel's or a completion
is_free : (s : Inside) (k : Kind) → needs_lock k ≡ false → follows s k ≡ true → IsFree s k
is_free Nothing (Flag i) free next = tt
is_free Nothing (Done i) free next = tt
is_free Nothing (Take i) free next = absurd (true≢false (sym next))
is_free (Cancelling j) (Take i) free next = same_irp-eq i j next
is_free (Cancelling j) (Flag i) free next = absurd (true≢false (sym next))
is_free (Cancelling j) (Done i) free next = absurd (true≢false (sym next))
is_free (Armed j) (Flag i) free next = absurd (true≢false (sym next))
is_free (Armed j) (Take i) free next = absurd (true≢false (sym next))
is_free (Armed j) (Done i) free next = absurd (true≢false (sym next))
is_free (inner.FlagSeen j) (Flag i) free next = absurd (true≢false (sym next))
is_free (inner.FlagSeen j) (Take i) free next = absurd (true≢false (sym next))
is_free (inner.FlagSeen j) (Done i) free next = absurd (true≢false (sym next))
is_free Removing (Flag i) free next = absurd (true≢false (sym next))
is_free Removing (Take i) free next = absurd (true≢false (sym next))
is_free Removing (Done i) free next = absurd (true≢false (sym next))
is_free (Rearmed j) (Flag i) free next = absurd (true≢false (sym next))
is_free (Rearmed j) (Take i) free next = absurd (true≢false (sym next))
is_free (Rearmed j) (Done i) free next = absurd (true≢false (sym next))
is_free (FlagSeenAgain j) (Flag i) free next = absurd (true≢false (sym next))
is_free (FlagSeenAgain j) (Take i) free next = absurd (true≢false (sym next))
is_free (FlagSeenAgain j) (Done i) free next = absurd (true≢false (sym next))
is_free s (Arm i) free next = absurd (true≢false free)
is_free s (Test i) free next = absurd (true≢false free)
is_free s (Disarm i) free next = absurd (true≢false free)
is_free s End free next = absurd (true≢false free)
is_free s (step.Out i) free next = absurd (true≢false free)
is_free s (Renew i) free next = absurd (true≢false free)
is_free s (Rearm i) free next = absurd (true≢false free)

-- whoever may end a removal is inside of one, or of nothing
removes : (s : Inside) → follows s End ≡ true → (s ≡ Nothing) ⊎ (s ≡ Removing)
removes Nothing next = inl refl
removes Removing next = inr refl
removes (Armed i) next = absurd (true≢false (sym next))
removes (inner.FlagSeen i) next = absurd (true≢false (sym next))
removes (Cancelling i) next = absurd (true≢false (sym next))
removes (Rearmed i) next = absurd (true≢false (sym next))
removes (FlagSeenAgain i) next = absurd (true≢false (sym next))

module _ (u : QueueState) where
  -- the same for a pass that is inside of what it is said to be
  at : {s t : Inside} {k : Kind} {v : ℕ} {es : List Event} → s ≡ t → Adds u t k v es → Adds u s k v es
  at {s} {t} {k} {v} {es} is h = subst (λ (x : Inside). Adds u x k v es) (sym is) h

  -- and for the IRP that is present
  here : {j i : IrpLife} (P : IrpLife → Type 0) → j ≡ i → P i → P j
  here P is h = subst P (sym is) h

  -- what a step of a call records is what the headline says
  adds : (call : Call) (kind : Kind) (v : ℕ) (s : Inside) → IsOfCall call kind u → IsNextStep call kind s → Adds u s kind v (recorded call kind v u)
  adds (Insert n f place) (Arm j) v s of next = at next (insert_arms j v (here (λ x. x ≡ present_in u x.irp) of refl))
  adds (Insert n f place) (Test j) zero s of next = at next (here (λ x. Adds u (Armed x) (Test x) 0 (event.Insert n f place reply.Pending ∷ [])) of (insert_ends (present_in u n) f place refl))
  adds (Insert n f place) (Test j) (suc v) s of next = at next (insert_sees_flag j v (here (λ x. x ≡ present_in u x.irp) of refl))
  adds (Insert n f place) (Disarm j) zero s of next = at next (here (λ x. Adds u (inner.FlagSeen x) (Disarm x) 0 (event.Mark x ∷ event.Insert n f place reply.Pending ∷ [])) of (insert_leaves_it (present_in u n) f place refl))
  adds (Insert n f place) (Disarm j) (suc v) s of next = at next (here (λ x. Adds u (inner.FlagSeen x) (Disarm x) (suc v) (event.Insert n f place reply.Cancelled ∷ event.FlagSeen x ∷ [])) of (insert_takes_back (present_in u n) f place v refl))
  adds (Insert n f place) End v s of next = absurd of
  adds (Insert n f place) (Flag j) v s of next = absurd of
  adds (Insert n f place) (Take j) v s of next = absurd of
  adds (Insert n f place) (step.Out j) v s of next = absurd of
  adds (Insert n f place) (Done j) v s of next = absurd of
  adds (Insert n f place) (Renew j) v s of next = absurd of
  adds (Insert n f place) (Rearm j) v s of next = absurd of
  adds (RemoveNext k) (Disarm j) zero s of next = removal_misses s j (removes s next)
  adds (RemoveNext k) (Disarm j) (suc v) s of next = removal_takes s j v (event.RemoveNext k (Some j)) (removes s next) (inl (k, refl))
  adds (RemoveNext k) End v s of next = removal_ends s v (event.RemoveNext k None) (removes s next) (inl (k, refl))
  adds (RemoveNext k) kind v s of next = absurd of
  adds (Remove i) (Disarm j) zero s of next = here (λ x. Adds u s (Disarm x) 0 (due_mark i u)) of (removal_misses s i (removes s next))
  adds (Remove i) (Disarm j) (suc v) s of next = here (λ x. Adds u s (Disarm x) (suc v) (event.Remove i true ∷ [])) of (removal_takes s i v (event.Remove i true) (removes s next) (inr refl))
  adds (Remove i) End v s of next = removal_ends s v (event.Remove i false) (removes s next) (inr (i, refl))
  adds (Remove i) kind v s of next = absurd of
  adds (CancelRoutine n) (step.Out j) v s of next = at next (routine_takes_out j v (here (λ x. x ≡ present_in u x.irp) of refl))
  adds (CancelRoutine n) kind v s of next = absurd of
  adds (CloseFile f) kind v s of next = absurd of
  adds (PutBack i f place) (Rearm j) v s of next = at next (put_back_arms j v)
  adds (PutBack i f place) (Test j) zero s of next = at next (here (λ x. Adds u (Rearmed x) (Test x) 0 (event.PutBack i f place reply.Pending ∷ [])) of (put_back_ends i f place))
  adds (PutBack i f place) (Test j) (suc v) s of next = at next (put_back_sees_flag j v)
  adds (PutBack i f place) (Disarm j) zero s of next = at next (here (λ x. Adds u (FlagSeenAgain x) (Disarm x) 0 (event.Mark x ∷ event.PutBack i f place reply.Pending ∷ [])) of (put_back_leaves_it i f place))
  adds (PutBack i f place) (Disarm j) (suc v) s of next = at next (here (λ x. Adds u (FlagSeenAgain x) (Disarm x) (suc v) (event.PutBack i f place reply.Cancelled ∷ event.FlagSeen x ∷ [])) of (put_back_takes_back i f place v))
  adds (PutBack i f place) kind v s of next = absurd of
  adds (Reuse n) (Renew j) v s of next = at next (subst (λ m. Adds u Nothing (Renew j) v (event.Reuse m (next_life j).life ∷ [])) of (reuse_renews j (next_life j).life v refl))
  adds (Reuse n) kind v s of next = absurd of
  adds GiveBack kind v s of next = absurd of

-- events of one pass, added in the headline's way
pub adding_is : (p : PassId) (es : List Event) (trace : List Tick) → adding p es trace ≡ says (entries_of p es) ++ trace
adding_is p [] trace = refl
adding_is p (e ∷ es) trace = ap (λ (t : List Tick). Says record { pass = p; event = e } ∷ t) (adding_is p es trace)

-- the trace is an execution, if its steps are a run
pub is_execution : (size : Size) (trace : List Tick) → IsTrace size.first trace → IsRun size (steps_in trace) → IsExecution size trace
is_execution size trace at_start run = begins
is_execution size trace (entering p {trace = t} free rest) run = enters p t free (is_execution size t rest run)
is_execution size trace (leaving p {trace = t} in' done rest) run = leaves p t in' (unlocked_inside (inside (steps_in t) p) done) (is_execution size t rest run)
is_execution size trace (unlocked m {trace = t} free alone rest) run =
    let last = run_last size m (steps_in t) run in
    makes_free m t alone (is_free (inside (steps_in t) m.pass) m.kind free last.next) last.known last.owned last.found (is_execution size t rest (run_less size m (steps_in t) run))
is_execution size trace (recording call m {trace = t} of rest) run =
    let u = end_of size.first (entries_in t) in
    let es = recorded call m.kind m.found u in
    let run' : IsRun size (m ∷ steps_in t) = subst (IsRun size) (steps_says (entries_of m.pass es) (Makes m ∷ t)) run in
    let last = run_last size m (steps_in t) run' in
    subst (IsExecution size) (adding_is m.pass es (Makes m ∷ t))
    (makes_locked m es t of.caller_is (adds u call m.kind m.found (inside (steps_in t) m.pass) of.of_call of.next) last.known last.owned last.found (is_execution size t rest (run_less size m (steps_in t) run')))
is_execution size trace (noting call n p {trace = t} in' outside rest) run =
    add_note (is_execution size t rest (subst (IsRun size) (steps_says (entries_of p (noted call n)) t) run)) call n
  where
    add_note : IsExecution size t → (call : Call) (n : Note) → IsExecution size (says (entries_of p (noted call n)) ++ t)
    add_note was (Insert k f place) (Refused cause) = notes p (event.Insert k f place (reply.Refused cause)) t in' outside tt was
    add_note was (PutBack i f place) (Refused cause) = notes p (event.PutBack i f place (reply.Refused cause)) t in' outside tt was
    add_note was (CloseFile f) note.Event = notes p (event.CloseFile f) t in' outside tt was
    add_note was (Insert k f place) note.Event = was
    add_note was (PutBack i f place) note.Event = was
    add_note was (CloseFile f) (Refused cause) = was
    add_note was (RemoveNext k) n = was
    add_note was (Remove i) n = was
    add_note was (CancelRoutine k) n = was
    add_note was (Reuse k) n = was
    add_note was GiveBack n = was
