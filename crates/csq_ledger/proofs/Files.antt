-- What is listed is listed for the file object that it was accepted for last.
use Rattle.std.proofs.Common.{◌≡◌, ◌||◌, not, cond, Bool, true, false, true≢false, List, [], ◌∷◌, map, Some, None, refl, sym, ap, ◌∙◌}
use Rattle.std.specs.List.{find}
use Rattle.std.specs.Option.{option_map}
use Rattle.csq_ledger.proofs.Imports.{IsLegal, end_of, Limits, QueueState, has_entry, has_irp, present_in, HistoryEntry, Event, same_irp, same_irp-refl, FileId, IrpId, IrpLife, false_from_ne_true, IsSingle}
use Rattle.irp_core.specs.Steps.{same_id}
use Rattle.irp_core.proofs.Names.{other_irp, same_id-eq, same_id-refl}
use Rattle.csq_checked.specs.Passes.{CheckedPassState, CheckedState}
use Rattle.csq_list.specs.declared.entry.Entry.{Entry}
use Rattle.csq_list.specs.declared.entry.Place.{Place}
use Rattle.csq_list.specs.declared.entry.Place.TheVariants.{Back, Front}
use Rattle.csq_list.specs.Listing.{put_at}
use Rattle.csq_list.specs.Searches.{is_of}
use Rattle.csq_words.specs.History.{MayCome}
use Rattle.csq_words.specs.Queue.{Queued, after_event, marking, new_entry, plain, plain_listing, refusal, with_file, without}
use Rattle.csq_words.specs.declared.views.Event.TheVariants.{FlagSeen, Mark, Insert, RemoveNext, Remove, Out, CloseFile, Reuse, PutBack}
use Rattle.csq_words.specs.declared.views.InsertReply.TheVariants.{Pending, Cancelled, Refused}
use Rattle.csq_words.proofs.Lives.{ArePresent, legal_lives}
use Rattle.csq_words.proofs.Named.{irp_eq}
use Rattle.csq_words.proofs.Listings.{is_listed-plain}
use Rattle.csq_list.proofs.Causes.{no_cause}
use Rattle.csq_list.specs.declared.refusals.InsertStatus.TheVariants.{NotHome}
use Rattle.csq_queue.proofs.Crowding.{pending_none, cancelled_none, sound_later}
use Rattle.csq_ledger.specs.Singles.{IsListedSo, file_listed, queue_in}

-- each entry has this file object of its number
abbrev HaveFiles : (IrpId → FileId) → List Queued → Type 0
HaveFiles file_of [] = Unit {0}
HaveFiles file_of (e ∷ es) = (e.file ≡ file_of e.irp.irp) × HaveFiles file_of es

placed : (file_of : IrpId → FileId) (place : Place) (e : Queued) (es : List Queued) → e.file ≡ file_of e.irp.irp → HaveFiles file_of es → HaveFiles file_of (put_at place e es)
placed file_of Front e es h t = (h, t)
placed file_of Back e [] h t = (h, tt)
placed file_of Back e (x ∷ es) h t = (t.0, placed file_of Back e es h t.1)

marked_files : (file_of : IrpId → FileId) (i : IrpLife) (es : List Queued) → HaveFiles file_of es → HaveFiles file_of (marking i es)
marked_files file_of i [] h = tt
marked_files file_of i (e ∷ es) h = (h.0, marked_files file_of i es h.1)

left_files : (file_of : IrpId → FileId) (i : IrpLife) (es : List Queued) → HaveFiles file_of es → HaveFiles file_of (without i es)
left_files file_of i [] h = tt
left_files file_of i (e ∷ es) h = go (same_irp e.irp i) (left_files file_of i es h.1)
  where
    go : (b : Bool) → HaveFiles file_of (without i es) → HaveFiles file_of (cond (not b) (e ∷ without i es) (without i es))
    go true rest = rest
    go false rest = (h.0, rest)

-- of a number that isn't listed any file object may be kept
module _ (u : QueueState) (n : IrpId) (f : FileId) where
  other_file : (es : List Queued) → ArePresent u.lives es → has_entry es (present_in u n) ≡ false → HaveFiles u.file_of es → HaveFiles (with_file n f u.file_of) es
  other_file [] now none h = tt
  other_file (e ∷ es) now none h =
      let unlike : same_id n e.irp.irp ≡ false = false_from_ne_true (same_id n e.irp.irp) (λ s.
      let is : e.irp ≡ present_in u n = irp_eq e.irp (present_in u n) (sym (same_id-eq n e.irp.irp s)) (now.0 ∙ ap u.lives (sym (same_id-eq n e.irp.irp s))) in
      true≢false (sym (ap (λ b. b || has_entry es (present_in u n)) (ap (λ (x : IrpLife). same_irp e.irp x) (sym is) ∙ same_irp-refl e.irp)) ∙ none)) in
      (h.0 ∙ sym (ap (λ b. cond b f (u.file_of e.irp.irp)) unlike), other_file es now.1 (later (same_irp e.irp (present_in u n)) (has_entry es (present_in u n)) none) h.1)
    where
      later : (a b : Bool) → (a || b) ≡ false → b ≡ false
      later false b h = h
      later true b h = absurd (true≢false h)

-- what isn't used isn't listed
unlisted : (l : Limits) (h : List HistoryEntry) → IsLegal l h → (n : IrpId) → has_irp (end_of l.first h).used (present_in (end_of l.first h) n) ≡ false → has_entry (end_of l.first h).entries (present_in (end_of l.first h) n) ≡ false
unlisted l h legal n unused = false_from_ne_true (has_entry u.entries (present_in u n)) (λ e.
    let sound = sound_later l h legal in
    let used = sound.listed_used n (is_listed-plain u.lives (present_in u n) refl u.entries (legal_lives l h legal).entries ∙ e) in
    true≢false (sym used ∙ unused))
  where
    u : QueueState
    u = end_of l.first h

module _ (l : Limits) (h : List HistoryEntry) (legal : IsLegal l h) where
  abbrev u : QueueState
  u = end_of l.first h

  unused : (n : IrpId) (f : FileId) → refusal l u n f ≡ None → has_entry u.entries (present_in u n) ≡ false
  unused n f none = unlisted l h legal n (no_cause (plain_listing l u) n f none NotHome)

  event_files : (event : Event) → MayCome l u event → HaveFiles u.file_of u.entries → HaveFiles (after_event u event).file_of (after_event u event).entries
  event_files (FlagSeen j) may before = before
  event_files (Mark j) may before = marked_files u.file_of j u.entries before
  event_files (Insert n f place Pending) may before = placed (with_file n f u.file_of) place (new_entry (present_in u n) f) u.entries (sym (ap (λ b. cond b f (u.file_of n)) (same_id-refl n)))
      (other_file u n f u.entries (legal_lives l h legal).entries (unused n f (pending_none (refusal l u n f) (has_irp u.flags (present_in u n)) may)) before)
  event_files (Insert n f place Cancelled) may before = other_file u n f u.entries (legal_lives l h legal).entries (unused n f (cancelled_none (refusal l u n f) (has_irp u.flags (present_in u n)) may)) before
  event_files (Insert n f place (Refused cause)) may before = before
  event_files (PutBack j f place Pending) may before = placed u.file_of place (new_entry j f) u.entries may.1 before
  event_files (PutBack j f place Cancelled) may before = before
  event_files (PutBack j f place (Refused cause)) may before = before
  event_files (RemoveNext k None) may before = before
  event_files (RemoveNext k (Some j)) may before = left_files u.file_of j u.entries before
  event_files (Remove j false) may before = before
  event_files (Remove j true) may before = left_files u.file_of j u.entries before
  event_files (Out j) may before = left_files u.file_of j u.entries before
  event_files (CloseFile f) may before = before
  event_files (Reuse n life) may before = before

have_files : (l : Limits) (h : List HistoryEntry) → IsLegal l h → HaveFiles (end_of l.first h).file_of (end_of l.first h).entries
have_files l [] legal = tt
have_files l (e ∷ h) legal = event_files l h legal.1 e.event legal.0 (have_files l h legal.1)

-- so a number stands in the list for that file object, if it is listed
module _ (u : QueueState) (n : IrpId) where
  found_so : (es : List Queued) → ArePresent u.lives es → HaveFiles u.file_of es → file_listed (map plain es) n ≡ cond (has_entry es (present_in u n)) (Some (u.file_of n)) None
  found_so [] now h = refl
  found_so (e ∷ es) now h = go (same_id e.irp.irp n) refl (found_so es now.1 h.1)
    where
      go : (b : Bool) → same_id e.irp.irp n ≡ b → file_listed (map plain es) n ≡ cond (has_entry es (present_in u n)) (Some (u.file_of n)) None
          → option_map (λ (x : Entry). x.file) (cond b (Some (plain e)) (find (is_of n) (map plain es))) ≡ cond (same_irp e.irp (present_in u n) || has_entry es (present_in u n)) (Some (u.file_of n)) None
      go true s rest =
          let number : e.irp.irp ≡ n = same_id-eq e.irp.irp n s in
          let is : e.irp ≡ present_in u n = irp_eq e.irp (present_in u n) number (now.0 ∙ ap u.lives number) in
          let same : same_irp e.irp (present_in u n) ≡ true = ap (same_irp e.irp) (sym is) ∙ same_irp-refl e.irp in
          ap (λ (f : FileId). Some f) (h.0 ∙ ap u.file_of number) ∙ sym (ap (λ b. cond (b || has_entry es (present_in u n)) (Some (u.file_of n)) None) same)
      go false s rest =
          let other : same_irp e.irp (present_in u n) ≡ false = other_irp e.irp (present_in u n) s in
          rest ∙ sym (ap (λ b. cond (b || has_entry es (present_in u n)) (Some (u.file_of n)) None) other)

pub file_listed_is : (q : CheckedState) (p : CheckedPassState) → IsSingle q p → (n : IrpId) → IsListedSo (record { queue = q; pass = p }) n
file_listed_is q p single n = found_so (queue_in (record { queue = q; pass = p })) n (queue_in (record { queue = q; pass = p })).entries (legal_lives q.queue.limits q.queue.queue.history single.run.legal).entries (have_files q.queue.limits q.queue.queue.history single.run.legal)
