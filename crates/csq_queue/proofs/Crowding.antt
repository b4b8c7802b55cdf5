-- In the queue of one thread that a legal history leaves no more is listed than there are IRPs.
use Rattle.std.proofs.Common.{◌≡◌, ℕ, ◌<◌, ◌≤◌, ◌==◌, ◌||◌, not, Bool, true, false, true≢false, List, [], ◌∷◌, length, map, Option, Some, None, refl, sym, ap, ◌∙◌, subst, ◌⊎◌, inl, inr, eqb-true}
use Rattle.csq_queue.proofs.Imports.{by_test, by_value, and_parts, or_cases, or_right, not-true, length-map, life_of, same_irp, same_id, IrpLife, FileId, IrpId, same_irp-eq, same_id-refl, Place, InsertStatus, NotHome, no_cause, sound-accepted, IsSound, inserted, renewed, is_listed, is_distinct, filter-none, unused-unlisted, sound-fresh, sound-removed, sound-renewed, HistoryEntry, Event, FlagSeen, Mark, Insert, RemoveNext, Remove, Out, CloseFile, Reuse, PutBack, Pending, Cancelled, Refused, irp_eq, IsLegal, IsGone, MayCome, end_of, Queued, QueueState, Limits, present_in, has_irp, has_file, has_entry, without, plain, new_entry, plain_listing, refusal, reply_to_insert, after_event, back_refusal, ArePresent, HasSoundLives, legal_lives, is_listed-plain, listing-inserted, listing-marked, listing-removed, listing-taken_back, listing-renewed, listing-put_back, has_life, AreApart}
use Rattle.csq_queue.proofs.Counting.{apart_most}

-- an insert is pending, or finds its IRP cancelled, only where no cause refuses it
pub pending_none : (o : Option InsertStatus) (b : Bool) → Pending ≡ reply_to_insert o b → o ≡ None
pending_none None b h = refl
pending_none (Some cause) b h = absurd (cc)

pub cancelled_none : (o : Option InsertStatus) (b : Bool) → Cancelled ≡ reply_to_insert o b → o ≡ None
cancelled_none None b h = refl
cancelled_none (Some cause) b h = absurd (cc)

-- what is listed is of a present life
listed_present : (lives : IrpId → ℕ) (i : IrpLife) (es : List Queued) → ArePresent lives es → has_entry es i ≡ true → life_of i ≡ lives i.irp
listed_present lives i [] h e = absurd (true≢false (sym e))
listed_present lives i (x ∷ es) h e = by_value (λ b. (b || has_entry es i) ≡ true → life_of i ≡ lives i.irp) (same_irp x.irp i)
    (λ s e. subst (λ (j : IrpLife). life_of j ≡ lives j.irp) (same_irp-eq x.irp i s) h.0)
    (λ _ e. listed_present lives i es h.1 e) e

module _ (l : Limits) (u : QueueState) (lives : HasSoundLives u) (sound : IsSound (plain_listing l u)) where
  -- the list stays sound as an IRP leaves it
  sound_without : (i : IrpLife) → IsSound (plain_listing l (record u { entries = without i u.entries }))
  sound_without i = by_test (has_entry u.entries i)
      (λ e. subst IsSound (listing-removed l u i (listed_present u.lives i u.entries lives.entries e) lives.entries) (sound-removed (plain_listing l u) sound i.irp))
      (λ e. subst (λ (es : List Queued). IsSound (plain_listing l (record u { entries = es }))) (sym (filter-none (λ (x : Queued). same_irp x.irp i) u.entries e)) sound)

  -- and as an IRP is listed
  module _ (n : IrpId) (f : FileId) (accepted : refusal l u n f ≡ None) (place : Place) where
    sound_listed : IsSound (inserted place (plain (new_entry (present_in u n) f)) (plain_listing l u))
    sound_listed = sound-accepted (plain_listing l u) sound place (plain (new_entry (present_in u n) f)) accepted

    absent : has_entry u.entries (present_in u n) ≡ false
    absent = sym (is_listed-plain u.lives (present_in u n) refl u.entries lives.entries) ∙ unused-unlisted (plain_listing l u) sound n (no_cause (plain_listing l u) n f accepted NotHome)

  sound_event : (e : Event) → MayCome l u e → IsSound (plain_listing l (after_event u e))
  sound_event (FlagSeen i) may = sound
  sound_event (Mark i) may = subst IsSound (listing-marked l u i) sound
  sound_event (Insert n f place Pending) may =
      let accepted = pending_none (refusal l u n f) (has_irp u.flags (present_in u n)) may in
      subst IsSound (listing-inserted l u n f place) (sound_listed n f accepted place)
  sound_event (Insert n f place Cancelled) may =
      let accepted = cancelled_none (refusal l u n f) (has_irp u.flags (present_in u n)) may in
      subst IsSound (listing-taken_back l u n f place lives.entries (absent n f accepted place)) (sound-removed (inserted place (plain (new_entry (present_in u n) f)) (plain_listing l u)) (sound_listed n f accepted place) n)
  sound_event (Insert n f place (Refused cause)) may = sound
  sound_event (PutBack i f place Pending) may =
      let accepted = pending_none (back_refusal l u i f) (has_irp u.flags i) may.2 in
      let gone : IsGone u i = may.0 in
      let same : present_in u i.irp ≡ i = irp_eq (present_in u i.irp) i refl (sym gone.2) in
      let unlisted = is_listed-plain u.lives (present_in u i.irp) refl u.entries lives.entries ∙ (ap (has_entry u.entries) same ∙ gone.1) in
      subst IsSound (listing-put_back l u i f place same gone.0) (sound-accepted (renewed i.irp (plain_listing l u)) (sound-renewed (plain_listing l u) sound i.irp unlisted) place (plain (new_entry i f)) accepted)
  sound_event (PutBack i f place Cancelled) may = sound
  sound_event (PutBack i f place (Refused cause)) may = sound
  sound_event (RemoveNext k None) may = sound
  sound_event (RemoveNext k (Some i)) may = sound_without i
  sound_event (Remove i false) may = sound
  sound_event (Remove i true) may = sound_without i
  sound_event (Out i) may = sound_without i
  sound_event (CloseFile f) may = record {
    distinct = sound.distinct;
    listed_used = sound.listed_used;
    used_known = sound.used_known;
    files_known = sound.files_known;
    closed_known = λ g h. at g (or_cases (f.0 == g.0) (has_file u.closed g) h);
    within_limit = sound.within_limit;
    within_file_limits = sound.within_file_limits;
  }
    where
      at : (g : FileId) → ((f.0 == g.0) ≡ true) ⊎ (has_file u.closed g ≡ true) → g.0 < l.files
      at g (inl h) = subst (λ (m : ℕ). m < l.files) (eqb-true f.0 g.0 h) may
      at g (inr h) = sound.closed_known g h
  sound_event (Reuse n life) may = subst IsSound (listing-renewed l u n lives) (sound-renewed (plain_listing l u) sound n (is_listed-plain u.lives (present_in u n) refl u.entries lives.entries ∙ may.1))

pub sound_later : (l : Limits) (h : List HistoryEntry) → IsLegal l h → IsSound (plain_listing l (end_of l.first h))
sound_later l [] legal = sound-fresh l.irps l.files l.limit l.file_limits
sound_later l (e ∷ h) legal = sound_event l (end_of l.first h) (legal_lives l h legal.1) (sound_later l h legal.1) e.event legal.0

-- the IRPs that are listed, each in its life
abbrev pub irps_of : List Queued → List IrpLife
irps_of es = map (λ (e : Queued). e.irp) es

lives_listed : (es : List Queued) (n : IrpId) → has_life (irps_of es) n ≡ is_listed (map plain es) n
lives_listed [] n = refl
lives_listed (e ∷ es) n = ap (λ b. same_id e.irp.irp n || b) (lives_listed es n)

-- listed IRPs are apart
listed_apart : (irps : ℕ) (es : List Queued) → is_distinct (map plain es) ≡ true → ((n : IrpId) → is_listed (map plain es) n ≡ true → n.0 < irps) → AreApart irps (irps_of es)
listed_apart irps [] d known = tt
listed_apart irps (e ∷ es) d known =
    let parts = and_parts (not (is_listed (map plain es) e.irp.irp)) (is_distinct (map plain es)) d in (
      known e.irp.irp (ap (λ b. b || is_listed (map plain es) e.irp.irp) (same_id-refl e.irp.irp)),
      lives_listed es e.irp.irp ∙ not-true (is_listed (map plain es) e.irp.irp) parts.0,
      listed_apart irps es parts.1 (λ n h. known n (or_right (same_id e.irp.irp n) (is_listed (map plain es) n) h)),
    )

-- no more is listed than there are IRPs
pub crowded : (l : Limits) (h : List HistoryEntry) → IsLegal l h → length (end_of l.first h).entries ≤ l.irps
crowded l h legal =
    let sound = sound_later l h legal in
    let es = (end_of l.first h).entries in
    let most = apart_most l.irps (irps_of es) (listed_apart l.irps es sound.distinct (λ n e. sound.used_known n (sound.listed_used n e))) in
    subst (λ (m : ℕ). m ≤ l.irps) (length-map es (λ (e : Queued). e.irp)) most
