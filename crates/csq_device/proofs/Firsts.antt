-- No thread of a device uses an IRP again, and each counts what its pass completed.
use Rattle.std.proofs.Common.{◌≡◌, ℕ, zero, suc, ◌+◌, ◌*◌, ◌||◌, false, List, [], ◌∷◌, ◌++◌, length, refl, sym, ap, ◌∙◌, ⊎_elim}
use Rattle.std.proofs.lemmas.List.{append-nil, length-map}
use Rattle.csq_device.proofs.Imports.{or_parts, IrpLife, Size, FileId, PassId, NtStatus, Back, Front, HistoryEntry, Event, Insert, RemoveNext, Out, CloseFile, PassRecord, Limits, entries_of, removals, cleanup_calls, CallsByKind, Plan, Role, Submitter, Worker, Canceller, BusyWorker, completed_by, is_reuse, has_reuse, HasServed, last_file, IsInsertOf, AreInserts, IsRemoval, AreRemovals, CancelsOne, CancelsEach, PutsOneBack, PutsEachBack, CleansUp, Plays, in_first_life, OwnsNothing, completions, HasCompleted, status_by}
use Rattle.csq_device.proofs.Working.{nothing_held, nothing_owed}

-- of these events none is a reuse, and so none of the longer calls
more_calls : (p : PassId) (events : List Event) (mine : List HistoryEntry) → has_reuse (entries_of p events) ≡ false → has_reuse mine ≡ false → has_reuse (entries_of p events ++ mine) ≡ false
more_calls p [] mine h g = g
more_calls p (e ∷ events) mine h g =
    let parts = or_parts (is_reuse e) (has_reuse (entries_of p events)) h in
    ap (λ b. b || has_reuse (entries_of p events ++ mine)) parts.0 ∙ more_calls p events mine parts.1 g

none_in_inserts : (p : PassId) (files first step : ℕ) (events : List Event) → AreInserts files first step events → has_reuse (entries_of p events) ≡ false
none_in_inserts p files first step [] h = refl
none_in_inserts p files first step (e ∷ events) h = ap (λ b. b || has_reuse (entries_of p events)) (insert_none e (first + length events * step) h.0) ∙ none_in_inserts p files first step events h.1
  where
    insert_none : (e : Event) (n : ℕ) → IsInsertOf files n e → is_reuse e ≡ false
    insert_none (Insert i f Back reply) n h = refl
    insert_none (Insert i f Front reply) n h = refl
    insert_none (RemoveNext k reply) n h = refl
    insert_none (Out i) n h = refl
    insert_none (CloseFile f) n h = refl
    insert_none e n h = absurd h

none_in_removals : (p : PassId) (events : List Event) → AreRemovals events → has_reuse (entries_of p events) ≡ false
none_in_removals p [] h = refl
none_in_removals p (e ∷ events) h = ap (λ b. b || has_reuse (entries_of p events)) (removal_none e h.0) ∙ none_in_removals p events h.1
  where
    removal_none : (e : Event) → IsRemoval e → is_reuse e ≡ false
    removal_none (RemoveNext k reply) h = refl
    removal_none (Insert i f place reply) h = refl
    removal_none (Out i) h = refl
    removal_none (CloseFile f) h = refl
    removal_none e h = absurd h

none_in_cleanup : (p : PassId) (f : FileId) (taken : List IrpLife) → has_reuse (entries_of p (cleanup_calls f taken)) ≡ false
none_in_cleanup p f taken = each taken
  where
    each : (is : List IrpLife) → has_reuse (entries_of p (removals f is ++ CloseFile f ∷ [])) ≡ false
    each [] = refl
    each (i ∷ is) = each is

-- a cancel is no reuse
cancel_none : (size : Size) (i : IrpLife) (count : ℕ) (old new : PassRecord) → CancelsOne size i count old new → has_reuse old.mine ≡ false → has_reuse new.mine ≡ false
cancel_none size i count old new h g = ⊎_elim
    (λ took. ap (λ (r : PassRecord). has_reuse r.mine) took.1.1 ∙ g)
    (λ rest. ⊎_elim
    (λ missed. ap (λ (r : PassRecord). has_reuse r.mine) missed.1.1 ∙ g)
    (λ other. ap (λ (r : PassRecord). has_reuse r.mine) other.1.1 ∙ g)
    rest)
    h

cancels_none : (size : Size) (first step turns : ℕ) (old new : PassRecord) → CancelsEach size first step turns old new → has_reuse old.mine ≡ false → has_reuse new.mine ≡ false
cancels_none size first step zero old new h g = ap (λ (r : PassRecord). has_reuse r.mine) h ∙ g
cancels_none size first step (suc turn) old new (mid, count, before, one) g = cancel_none size (in_first_life (first + turn * step)) count mid new one (cancels_none size first step turn old mid before g)

-- nor is a busy worker's turn
one_back_none : (count : ℕ) (old new : PassRecord) → PutsOneBack count old new → has_reuse old.mine ≡ false → has_reuse new.mine ≡ false
one_back_none count old new h g = ⊎_elim (λ none_got. ap has_reuse none_got.1.mine ∙ g) (λ got. ap has_reuse got.4.mine ∙ g) h

backs_none : (turns made : ℕ) (old new : PassRecord) → PutsEachBack turns made old new → has_reuse old.mine ≡ false → has_reuse new.mine ≡ false
backs_none zero made old new h g = ap (λ (r : PassRecord). has_reuse r.mine) h.1 ∙ g
backs_none (suc turn) made old new (mid, before, count, sum, earlier, last) g = one_back_none count mid new last (backs_none turn before old mid earlier g)

-- a thread's calls
plays_none : (size : Size) (plan : Plan) (role : Role) (calls : CallsByKind) (old new : PassRecord) → Plays size plan role calls old new → has_reuse old.mine ≡ false → has_reuse new.mine ≡ false
plays_none size plan (Submitter first) calls old new h g = ap has_reuse h.calls.mine ∙ more_calls old.pass h.events old.mine (none_in_inserts old.pass plan.files first plan.submitters h.events h.inserts) g
plays_none size plan Worker calls old new h g = ap has_reuse h.calls.mine ∙ more_calls old.pass h.events old.mine (none_in_removals old.pass h.events h.removals) g
plays_none size plan (Canceller first) calls old new h g = cancels_none size first plan.cancellers calls.cancels.made old new h.cancels g
plays_none size plan BusyWorker calls old new h g = backs_none plan.turns calls.put_backs.made old new h g

-- a thread has one pass
cancel_pass : (size : Size) (i : IrpLife) (count : ℕ) (old new : PassRecord) → CancelsOne size i count old new → new.pass ≡ old.pass
cancel_pass size i count old new h = ⊎_elim
    (λ took. ap (λ (r : PassRecord). r.pass) took.1.1)
    (λ rest. ⊎_elim (λ missed. ap (λ (r : PassRecord). r.pass) missed.1.1) (λ other. ap (λ (r : PassRecord). r.pass) other.1.1) rest)
    h

cancels_pass : (size : Size) (first step turns : ℕ) (old new : PassRecord) → CancelsEach size first step turns old new → new.pass ≡ old.pass
cancels_pass size first step zero old new h = ap (λ (r : PassRecord). r.pass) h
cancels_pass size first step (suc turn) old new (mid, count, before, one) = cancel_pass size (in_first_life (first + turn * step)) count mid new one ∙ cancels_pass size first step turn old mid before

one_back_pass : (count : ℕ) (old new : PassRecord) → PutsOneBack count old new → new.pass ≡ old.pass
one_back_pass count old new h = ⊎_elim (λ none_got. none_got.1.pass) (λ got. got.4.pass) h

backs_pass : (turns made : ℕ) (old new : PassRecord) → PutsEachBack turns made old new → new.pass ≡ old.pass
backs_pass zero made old new h = ap (λ (r : PassRecord). r.pass) h.1
backs_pass (suc turn) made old new (mid, before, count, sum, earlier, last) = one_back_pass count mid new last ∙ backs_pass turn before old mid earlier

plays_pass : (size : Size) (plan : Plan) (role : Role) (calls : CallsByKind) (old new : PassRecord) → Plays size plan role calls old new → new.pass ≡ old.pass
plays_pass size plan (Submitter first) calls old new h = h.calls.pass
plays_pass size plan Worker calls old new h = h.calls.pass
plays_pass size plan (Canceller first) calls old new h = cancels_pass size first plan.cancellers calls.cancels.made old new h.cancels
plays_pass size plan BusyWorker calls old new h = backs_pass plan.turns calls.put_backs.made old new h

-- how many a pass completed that had completed none
completed_count_is : (status : NtStatus) (count : ℕ) (old new : PassRecord) → HasCompleted status count old new → old.completed ≡ [] → count ≡ length new.completed
completed_count_is status count old new h none =
    h.count_is ∙ (sym (length-map h.irps (λ (i : IrpLife). record { irp = i; status = status }))
    ∙ ap length (sym (h.completed ∙ (ap (λ cs. completions status h.irps ++ cs) none ∙ append-nil (completions status h.irps)))))

-- what a thread of a role hands back
pub served : (size : Size) (plan : Plan) (role : Role) (calls : CallsByKind) (old new : PassRecord) → OwnsNothing old → old.completed ≡ [] → old.mine ≡ [] → HasCompleted (status_by role) (completed_by calls) old new → Plays size plan role calls old new → HasServed old.pass.0 (completed_by calls) new
served size plan role calls old new idle none_done none_called completed plays = record {
  pass = plays_pass size plan role calls old new plays;
  count_is = completed_count_is (status_by role) (completed_by calls) old new completed none_done;
  none_reused = plays_none size plan role calls old new plays (ap has_reuse none_called);
  rests = (nothing_held (status_by role) (completed_by calls) old new idle completed, nothing_owed (status_by role) (completed_by calls) old new idle completed);
}

-- and the one that cleans up
pub served_last : (limits : Limits) (plan : Plan) (status : NtStatus) (count : ℕ) (old new : PassRecord) → OwnsNothing old → old.completed ≡ [] → old.mine ≡ [] → HasCompleted status count old new → CleansUp limits plan count old new → HasServed old.pass.0 count new
served_last limits plan status count old new idle none_done none_called completed cleans = record {
  pass = cleans.completes.pass;
  count_is = completed_count_is status count old new completed none_done;
  none_reused = ap has_reuse cleans.calls.calls_are ∙ more_calls old.pass (cleanup_calls (last_file plan) cleans.taken) old.mine (none_in_cleanup old.pass (last_file plan) cleans.taken) (ap has_reuse none_called);
  rests = (nothing_held status count old new idle completed, nothing_owed status count old new idle completed);
}
