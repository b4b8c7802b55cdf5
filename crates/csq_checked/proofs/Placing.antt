-- A put-back of what a pass holds is refused for its file object or for the list alone.
use Rattle.std.proofs.Common.{◌≡◌, ◌<◌, ◌||◌, ◌&&◌, not, cond, Bool, true, false, true≢false, List, [], ◌∷◌, Some, None, Err, refl, sym, ap, ◌∙◌, subst}
use Rattle.csq_checked.proofs.Imports.{false_from_ne_true, leb-false, lt-leb, Size, number, same_id, same_irp, IrpLife, same_irp-eq, same_id-refl, PassRecord, IsLegal, MayCome, end_of, Limits, QueueState, present_in, has_irp, plain_listing, refusal, with_file, after_event, WordsState, OpenState, IsQueueOn}
use Rattle.irp_core.specs.declared.ids.IrpId.{IrpId}
use Rattle.irp_core.specs.declared.ids.FileId.{FileId}
use Rattle.std.specs.List.{find}
use Rattle.csq_list.specs.Causes.{causes, is_cause, first_cause}
use Rattle.csq_list.specs.Listing.{Listing, renewed}
use Rattle.csq_list.specs.declared.entry.Place.{Place}
use Rattle.csq_list.specs.declared.refusals.InsertStatus.{InsertStatus}
use Rattle.csq_list.specs.declared.refusals.InsertStatus.TheVariants.{UnknownIrp, UnknownFile, NotHome}
use Rattle.csq_list.proofs.Causes.{no_cause}
use Rattle.csq_words.specs.declared.views.HistoryEntry.{HistoryEntry}
use Rattle.csq_words.specs.declared.views.Event.{Event}
use Rattle.csq_words.specs.declared.views.Event.TheVariants.{FlagSeen, Mark, Insert, RemoveNext, Remove, Out, CloseFile, Reuse, PutBack}
use Rattle.csq_words.specs.declared.views.InsertReply.TheVariants.{Pending, Cancelled, Refused}
use Rattle.csq_queue.specs.Calls.{PutsBack, file_at}
use Rattle.csq_checked.specs.Causes.{is_of_place}
use Rattle.csq_queue.proofs.Crowding.{pending_none, cancelled_none}

module _ (l : Limits) (u : QueueState) (n : IrpId) (f : FileId) (i : IrpLife) (before : has_irp u.used i ≡ true → (u.file_of i.irp).0 < l.files) where
  -- the file object of what an insert accepts is known
  inserted_known : refusal l u n f ≡ None → has_irp (present_in u n ∷ u.used) i ≡ true → (with_file n f u.file_of i.irp).0 < l.files
  inserted_known accepted used = at (same_id n i.irp) refl
    where
      unlike : same_id n i.irp ≡ false → same_irp (present_in u n) i ≡ false
      unlike e = false_from_ne_true (same_irp (present_in u n) i) (λ s. true≢false (sym (same_id-refl i.irp) ∙ (ap (λ (m : IrpId). same_id m i.irp) (sym (ap (λ (j : IrpLife). j.irp) (same_irp-eq (present_in u n) i s))) ∙ e)))

      at : (b : Bool) → same_id n i.irp ≡ b → (cond b f (u.file_of i.irp)).0 < l.files
      at true e = leb-false l.files f.0 (no_cause (plain_listing l u) n f accepted UnknownFile)
      at false e = before (sym (ap (λ b. b || has_irp u.used i) (unlike e)) ∙ used)

-- so that of an IRP that was accepted is
file_known : (l : Limits) (h : List HistoryEntry) → IsLegal l h → (i : IrpLife) → has_irp (end_of l.first h).used i ≡ true → ((end_of l.first h).file_of i.irp).0 < l.files
file_known l [] legal i used = absurd (true≢false (sym used))
file_known l (e ∷ h) legal i used = at (end_of l.first h) e.event legal.0 (file_known l h legal.1 i) used
  where
    at : (u : QueueState) (event : Event) → MayCome l u event → (has_irp u.used i ≡ true → (u.file_of i.irp).0 < l.files) → has_irp (after_event u event).used i ≡ true → ((after_event u event).file_of i.irp).0 < l.files
    at u (FlagSeen j) may before now = before now
    at u (Mark j) may before now = before now
    at u (Insert n f place Pending) may before now = inserted_known l u n f i before (pending_none (refusal l u n f) (has_irp u.flags (present_in u n)) may) now
    at u (Insert n f place Cancelled) may before now = inserted_known l u n f i before (cancelled_none (refusal l u n f) (has_irp u.flags (present_in u n)) may) now
    at u (Insert n f place (Refused cause)) may before now = before now
    at u (PutBack j f place Pending) may before now = before now
    at u (PutBack j f place Cancelled) may before now = before now
    at u (PutBack j f place (Refused cause)) may before now = before now
    at u (RemoveNext k None) may before now = before now
    at u (RemoveNext k (Some j)) may before now = before now
    at u (Remove j false) may before now = before now
    at u (Remove j true) may before now = before now
    at u (Out j) may before now = before now
    at u (CloseFile f) may before now = before now
    at u (Reuse n life) may before now = before now

-- what is found passes the test
found_passes : {X : Type 0} (test : X → Bool) (xs : List X) (x : X) → find test xs ≡ Some x → test x ≡ true
found_passes test [] x h = absurd cc
found_passes {X} test (y ∷ ys) x h = by_case (test y) refl (found_passes test ys x) h
  where
    by_case : (b : Bool) → test y ≡ b → (find test ys ≡ Some x → test x ≡ true) → cond b (Some y) (find test ys) ≡ Some x → test x ≡ true
    by_case true e rest h = let same : y ≡ x = cc in ap test (sym same) ∙ e
    by_case false e rest h = rest h

-- of an IRP and a file object that there are, where the IRP is home
place_cause : (s : Listing) (i : IrpId) (f : FileId) (cause : InsertStatus) → is_cause s i f UnknownIrp ≡ false → is_cause s i f UnknownFile ≡ false → is_cause s i f NotHome ≡ false → first_cause s i f ≡ Some cause → is_of_place cause ≡ true
place_cause s i f cause known file home first = at cause (found_passes (is_cause s i f) causes cause first)
  where
    at : (cause : InsertStatus) → is_cause s i f cause ≡ true → is_of_place cause ≡ true
    at UnknownIrp holds = absurd (true≢false (sym holds ∙ known))
    at UnknownFile holds = absurd (true≢false (sym holds ∙ file))
    at NotHome holds = absurd (true≢false (sym holds ∙ home))
    at cause holds = refl

-- a put-back of an IRP that there is, is refused for no other cause
refused_place : (i : IrpLife) (place : Place) (cause : InsertStatus) (l : Limits) (h : List HistoryEntry) (p p' : PassRecord) → number i < l.irps → PutsBack i place (Err cause) l h p p' → is_of_place cause ≡ true
refused_place i place cause l h p p' known back =
    let f = file_at l h i in
    let u = end_of l.first h in
    let legal : IsLegal l (record { pass = p.pass; event = PutBack i f place (Refused cause) } ∷ h) = subst (IsLegal l) back.refused.ends back.refused.legal in
    place_cause (renewed i.irp (plain_listing l u)) i.irp f cause
    (lt-leb l.irps i.irp.0 known) (lt-leb l.files f.0 (file_known l h legal.1 i legal.0.0.0))
    (ap (λ b. not b && has_irp u.used (present_in u i.irp)) (same_id-refl i.irp)) back.cause

-- nor by an open queue of these words
pub refused_there : (words : WordsState) (queue : OpenState) → IsQueueOn words queue → (i : IrpLife) (place : Place) (cause : InsertStatus) (p p' : PassRecord) → number i < words.size.irps → PutsBack i place (Err cause) queue.limits queue.queue.history p p' → is_of_place cause ≡ true
refused_there words queue on i place cause p p' known back =
    refused_place i place cause queue.limits queue.queue.history p p' (subst (λ (s : Size). number i < s.irps) (sym on.size) known) back
