-- Once a file is closed, no event lists an IRP for it.
use Rattle.std.proofs.Common.{◌≡◌, ℕ, suc, ◌≤◌, ◌<◌, ◌==◌, not, ◌&&◌, ◌||◌, cond, Bool, true, false, true≢false, List, [], ◌∷◌, ◌++◌, length, filter, Some, None, refl, sym, ap, ◌∙◌, subst, eqb-true, arith}
use Rattle.csq_queue.proofs.Imports.{by_test, by_value, or_right, and_parts, same_irp, IrpLife, FileId, IrpId, same_irp-refl, same_some, Peek, File, Place, put_at, renewed, same_file, FileClosed, no_cause, HistoryEntry, Event, FlagSeen, Mark, Insert, RemoveNext, Remove, Out, CloseFile, Reuse, PutBack, Pending, Cancelled, Refused, IsLegal, MayCome, end_of, Queued, QueueState, Limits, present_in, has_irp, has_file, marking, without, first_unmarked, refusal, back_refusal, after_event, new_entry, plain_listing, none_head, none_both, none_marking}
use Rattle.csq_list.specs.declared.entry.Place.TheVariants.{Back, Front}
use Rattle.csq_queue.proofs.Crowding.{pending_none}

-- the entries of a file
abbrev pub of_file : FileId → List Queued → List Queued
of_file f es = filter (λ (e : Queued). same_file e.file f) es

-- a closed file stays closed
closed_after : (q : QueueState) (e : Event) (f : FileId) → has_file q.closed f ≡ true → has_file (after_event q e).closed f ≡ true
closed_after q (FlagSeen i) f h = h
closed_after q (Mark i) f h = h
closed_after q (Insert n g place Pending) f h = h
closed_after q (Insert n g place Cancelled) f h = h
closed_after q (Insert n g place (Refused cause)) f h = h
closed_after q (PutBack i g place Pending) f h = h
closed_after q (PutBack i g place Cancelled) f h = h
closed_after q (PutBack i g place (Refused cause)) f h = h
closed_after q (RemoveNext k None) f h = h
closed_after q (RemoveNext k (Some i)) f h = h
closed_after q (Remove i false) f h = h
closed_after q (Remove i true) f h = h
closed_after q (Out i) f h = h
closed_after q (CloseFile g) f h = or_right (g.0 == f.0) (has_file q.closed f) h
closed_after q (Reuse n life) f h = h

pub closed_later : (first : ℕ) (newer h : List HistoryEntry) (f : FileId) → has_file (end_of first h).closed f ≡ true → has_file (end_of first (newer ++ h)).closed f ≡ true
closed_later first [] h f c = c
closed_later first (e ∷ newer) h f c = closed_after (end_of first (newer ++ h)) e.event f (closed_later first newer h f c)

same_closed : (fs : List FileId) (f g : FileId) → (g.0 == f.0) ≡ true → has_file fs g ≡ has_file fs f
same_closed fs f g e = let same : g ≡ f = (let n : g.0 ≡ f.0 = eqb-true g.0 f.0 e in λ k. record { 0 = n k }) in ap (has_file fs) same

-- what was just listed is of another file than a closed one
other_file : (l : Limits) (q : QueueState) (n : IrpId) (g f : FileId) → refusal l q n g ≡ None → has_file q.closed f ≡ true → (g.0 == f.0) ≡ false
other_file l q n g f accepted c = by_value (λ b. b ≡ false) (g.0 == f.0)
    (λ e. absurd (true≢false (sym c ∙ (sym (same_closed q.closed f g e) ∙ no_cause (plain_listing l q) n g accepted FileClosed))))
    (λ _. refl)

other_again : (l : Limits) (q : QueueState) (i : IrpLife) (g f : FileId) → back_refusal l q i g ≡ None → has_file q.closed f ≡ true → (g.0 == f.0) ≡ false
other_again l q i g f accepted c = by_value (λ b. b ≡ false) (g.0 == f.0)
    (λ e. absurd (true≢false (sym c ∙ (sym (same_closed q.closed f g e) ∙ no_cause (renewed i.irp (plain_listing l q)) i.irp g accepted FileClosed))))
    (λ _. refl)

none_without : (k : Peek) (i : IrpLife) (es : List Queued) → first_unmarked k es ≡ None → first_unmarked k (without i es) ≡ None
none_without k i [] h = refl
none_without k i (e ∷ es) h = by_test (same_irp e.irp i)
    (λ t. rw t (none_without k i es (none_head k e es h).1))
    (λ t. rw (t, (none_head k e es h).0) (none_without k i es (none_head k e es h).1))

none_put_at : (f g : FileId) (place : Place) (i : IrpLife) (es : List Queued) → (g.0 == f.0) ≡ false → first_unmarked (File f) es ≡ None → first_unmarked (File f) (put_at place (new_entry i g) es) ≡ None
none_put_at f g Front i es d h = rw d h
none_put_at f g Back i es d h = none_both (File f) es (new_entry i g ∷ []) h (rw d refl)

-- of a closed file no unmarked entry comes
none_after : (l : Limits) (q : QueueState) (e : Event) (f : FileId) → MayCome l q e → has_file q.closed f ≡ true → first_unmarked (File f) q.entries ≡ None → first_unmarked (File f) (after_event q e).entries ≡ None
none_after l q (FlagSeen i) f may c h = h
none_after l q (Mark i) f may c h = none_marking (File f) i q.entries h
none_after l q (Insert n g place Pending) f may c h = none_put_at f g place (present_in q n) q.entries (other_file l q n g f (pending_none (refusal l q n g) (has_irp q.flags (present_in q n)) may) c) h
none_after l q (Insert n g place Cancelled) f may c h = h
none_after l q (Insert n g place (Refused cause)) f may c h = h
none_after l q (PutBack i g place Pending) f may c h = none_put_at f g place i q.entries (other_again l q i g f (pending_none (back_refusal l q i g) (has_irp q.flags i) may.2) c) h
none_after l q (PutBack i g place Cancelled) f may c h = h
none_after l q (PutBack i g place (Refused cause)) f may c h = h
none_after l q (RemoveNext k None) f may c h = h
none_after l q (RemoveNext k (Some i)) f may c h = none_without (File f) i q.entries h
none_after l q (Remove i false) f may c h = h
none_after l q (Remove i true) f may c h = none_without (File f) i q.entries h
none_after l q (Out i) f may c h = none_without (File f) i q.entries h
none_after l q (CloseFile g) f may c h = h
none_after l q (Reuse n life) f may c h = h

pub none_later : (l : Limits) (newer h : List HistoryEntry) (f : FileId) → has_file (end_of l.first h).closed f ≡ true → first_unmarked (File f) (end_of l.first h).entries ≡ None → IsLegal l (newer ++ h) → first_unmarked (File f) (end_of l.first (newer ++ h)).entries ≡ None
none_later l [] h f c n legal = n
none_later l (e ∷ newer) h f c n legal = none_after l (end_of l.first (newer ++ h)) e.event f legal.0 (closed_later l.first newer h f c) (none_later l newer h f c n legal.1)

module _ (f : FileId) where
  -- a mark changes no file
  count_marking : (i : IrpLife) (es : List Queued) → length (of_file f (marking i es)) ≡ length (of_file f es)
  count_marking i [] = refl
  count_marking i (e ∷ es) = by_value (λ b. length (cond b (x ∷ of_file f (marking i es)) (of_file f (marking i es))) ≡ length (cond b (e ∷ of_file f es) (of_file f es))) (same_file e.file f)
      (λ _. ap (λ (m : ℕ). suc m) (count_marking i es))
      (λ _. count_marking i es)
    where
      x : Queued
      x = record e { marked = same_irp e.irp i || e.marked }

  -- as an IRP leaves the list, no file gains an entry
  count_without : (i : IrpLife) (es : List Queued) → length (of_file f (without i es)) ≤ length (of_file f es)
  count_without i [] = omega arith
  count_without i (e ∷ es) = at (count_without i es) (same_irp e.irp i) (same_file e.file f) refl
    where
      at : length (of_file f (without i es)) ≤ length (of_file f es) → (a b : Bool) → same_file e.file f ≡ b → length (of_file f (cond (not a) (e ∷ without i es) (without i es))) ≤ length (cond b (e ∷ of_file f es) (of_file f es))
      at r true true g = omega arith
      at r true false g = r
      at r false true g = rw g (omega arith)
      at r false false g = rw g r

  count_placed : (place : Place) (x : Queued) (es : List Queued) → same_file x.file f ≡ false → length (of_file f (put_at place x es)) ≡ length (of_file f es)
  count_placed Front x es h = rw h refl
  count_placed Back x [] h = rw h refl
  count_placed Back x (e ∷ es) h = by_value (λ b. length (cond b (e ∷ of_file f (put_at Back x es)) (of_file f (put_at Back x es))) ≡ length (cond b (e ∷ of_file f es) (of_file f es))) (same_file e.file f)
      (λ _. ap (λ (m : ℕ). suc m) (count_placed Back x es h))
      (λ _. count_placed Back x es h)

  -- and where the first unmarked entry of the file leaves, the file has one fewer
  pub count_first : (i : IrpLife) (es : List Queued) → first_unmarked (File f) es ≡ Some i → length (of_file f (without i es)) < length (of_file f es)
  count_first i [] h = absurd (cc)
  count_first i (e ∷ es) h = by_value (λ b. (first_unmarked (File f) es ≡ Some i → length (of_file f (without i es)) < length (of_file f es)) → length (of_file f (without i (e ∷ es))) < length (of_file f (e ∷ es))) (not e.marked && same_file e.file f)
      (λ t r. let is : e.irp ≡ i = same_some e.irp i (sym (rw t refl) ∙ h) in
      let fewer = count_without i es in
      rw (is, same_irp-refl i, (and_parts (not e.marked) (same_file e.file f) t).1) (omega arith))
      (λ t r. rest r (rw t at h) (same_irp e.irp i) (same_file e.file f) refl) (count_first i es)
    where
      rest : (first_unmarked (File f) es ≡ Some i → length (of_file f (without i es)) < length (of_file f es)) → first_unmarked (File f) es ≡ Some i → (a b : Bool) → same_file e.file f ≡ b → length (of_file f (cond (not a) (e ∷ without i es) (without i es))) < length (cond b (e ∷ of_file f es) (of_file f es))
      rest r h true true g = let s = r h in omega arith
      rest r h true false g = r h
      rest r h false true g = let s = r h in rw g (omega arith)
      rest r h false false g = rw g (r h)

-- a closed file gains no entry by an event
count_after : (l : Limits) (q : QueueState) (e : Event) (f : FileId) → MayCome l q e → has_file q.closed f ≡ true → length (of_file f (after_event q e).entries) ≤ length (of_file f q.entries)
count_after l q (FlagSeen i) f may c = omega arith
count_after l q (Mark i) f may c = let same = count_marking f i q.entries in omega arith
count_after l q (Insert n g place Pending) f may c =
    let same = count_placed f place (new_entry (present_in q n) g) q.entries (other_file l q n g f (pending_none (refusal l q n g) (has_irp q.flags (present_in q n)) may) c) in omega arith
count_after l q (Insert n g place Cancelled) f may c = omega arith
count_after l q (Insert n g place (Refused cause)) f may c = omega arith
count_after l q (PutBack i g place Pending) f may c =
    let same = count_placed f place (new_entry i g) q.entries (other_again l q i g f (pending_none (back_refusal l q i g) (has_irp q.flags i) may.2) c) in omega arith
count_after l q (PutBack i g place Cancelled) f may c = omega arith
count_after l q (PutBack i g place (Refused cause)) f may c = omega arith
count_after l q (RemoveNext k None) f may c = omega arith
count_after l q (RemoveNext k (Some i)) f may c = count_without f i q.entries
count_after l q (Remove i false) f may c = omega arith
count_after l q (Remove i true) f may c = count_without f i q.entries
count_after l q (Out i) f may c = count_without f i q.entries
count_after l q (CloseFile g) f may c = omega arith
count_after l q (Reuse n life) f may c = omega arith

-- nor along a longer legal history
pub count_later : (l : Limits) (newer h : List HistoryEntry) (f : FileId) → has_file (end_of l.first h).closed f ≡ true → IsLegal l (newer ++ h) → length (of_file f (end_of l.first (newer ++ h)).entries) ≤ length (of_file f (end_of l.first h).entries)
count_later l [] h f c legal = omega arith
count_later l (e ∷ newer) h f c legal =
    let step = count_after l (end_of l.first (newer ++ h)) e.event f legal.0 (closed_later l.first newer h f c) in
    let rest = count_later l newer h f c legal.1 in
    omega arith

-- a removal of the closed file that answers takes one away
pub count_taken : (l : Limits) (newer h : List HistoryEntry) (e : HistoryEntry) (f : FileId) (i : IrpLife) → has_file (end_of l.first h).closed f ≡ true → IsLegal l (e ∷ newer ++ h) → e.event ≡ RemoveNext (File f) (Some i)
    → length (of_file f (end_of l.first (e ∷ newer ++ h)).entries) < length (of_file f (end_of l.first h).entries)
count_taken l newer h e f i c legal is =
    let q = end_of l.first (newer ++ h) in
    let came : Some i ≡ first_unmarked (File f) q.entries = subst (λ (x : Event). MayCome l q x) is legal.0 in
    let one = count_first f i q.entries (sym came) in
    let rest = count_later l newer h f c legal.1 in
    let same : length (of_file f (after_event q e.event).entries) ≡ length (of_file f (without i q.entries)) = ap (λ (x : Event). length (of_file f (after_event q x).entries)) is in
    omega arith
