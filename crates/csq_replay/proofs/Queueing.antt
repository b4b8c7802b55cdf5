-- The queue of one thread says of each IRP what the run says, step by step.
use Rattle.std.proofs.Common.{◌≡◌, ℕ, ◌+◌, ◌≤◌, Bool, true, false, cond, not, ◌&&◌, ◌||◌, List, [], ◌∷◌, refl, ap, sym, ◌∙◌, arith}
use Rattle.csq_replay.proofs.Imports.{by_value, or-false, or-true, or_right, PassId, FileId, Kind, Arm, Test, Disarm, End, Flag, Take, Out, Done, Renew, Rearm, Made, Standing, IrpId, life_of, same_id, same_irp, IrpLife, present_life, IsPresent, life_same, life_next, listed_present, used_begun, ArePresent, AreBegun, HasSoundLives, armed, flagged, was_armed, owes, holds, has_gone, listed, Size, IsRun, same_irp-refl, same_irp-eq, Row, stands, Place, put_at, Queued, QueueState, present_in, begin_next, has_irp, has_entry, has_marked, has_unmarked, marking, without, after_event, new_entry, script_pass, next_step, AreMarked, IsOfRun}
use Rattle.irp_core.specs.declared.standing.Standing.TheVariants.{Home, Waiting, Owed, Held}
use Rattle.irp_core.specs.declared.ids.Life.{Life}
use Rattle.csq_list.specs.declared.entry.Place.TheVariants.{Back, Front}
use Rattle.csq_words.specs.declared.views.InsertReply.TheVariants.{Pending}
use Rattle.csq_words.specs.declared.views.Event.TheVariants as event
use Rattle.csq_words.proofs.Entries.{has_entry-marking, has_entry-placed, has_entry-without}

module _ (ever set : Bool) (cl : List Made) (ow ho dn : PassId → Bool) (ends : List Made) (gone byr : Bool) (i : IrpLife) where
  row_home : (s : Standing) → Row ever set cl ow ho dn ends gone byr i s → ever ≡ false → gone ≡ false
  row_home Home h e = h.left_is
  row_home s h e = absurd (cc (e, h.ever_is))

  row_armed : (s : Standing) → Row ever set cl ow ho dn ends gone byr i s → set ≡ true → (ever ≡ true) × (gone ≡ false)
  row_armed Waiting h e = (h.ever_is, h.left_is)
  row_armed s h e = absurd (cc (e, h.set_is))

  row_owed : (s : Standing) → Row ever set cl ow ho dn ends gone byr i s → (p : PassId) → ow p ≡ true → ((ever ≡ true) × (gone ≡ false)) × (set ≡ false)
  row_owed (Owed q) h p e = ((h.ever_is, h.left_is), h.set_is)
  row_owed s h p e = absurd (cc (e, h.owing_is p))

  row_held : (s : Standing) → Row ever set cl ow ho dn ends gone byr i s → (p : PassId) → ho p ≡ true → (ever ≡ true) × (gone ≡ true)
  row_held (Held q status) h p e = (h.ever_is, h.left_is)
  row_held s h p e = absurd (cc (e, h.holding_is p))

module _ (size : Size) (E : List Made) (r : IsRun size E) (i : IrpLife) where
  pub home_left : was_armed E i ≡ false → has_gone E i ≡ false
  home_left h = let s = stands size E r i in row_home _ _ _ _ _ _ _ _ _ i s.0 s.1 h

  -- who has its routine is listed
  pub armed_listed : armed E i ≡ true → listed E i ≡ true
  armed_listed h = let s = stands size E r i in let f = row_armed _ _ _ _ _ _ _ _ _ i s.0 s.1 h in rw (f.0, f.1) refl

  -- what is owed is listed, without its routine
  pub owed_listed : owes E script_pass i ≡ true → (listed E i ≡ true) × (armed E i ≡ false)
  owed_listed h = let s = stands size E r i in let f = row_owed _ _ _ _ _ _ _ _ _ i s.0 s.1 script_pass h in (rw (f.0.0, f.0.1) refl, f.1)

  -- what is held was armed, and isn't listed
  pub held_gone : holds E script_pass i ≡ true → (was_armed E i ≡ true) × (listed E i ≡ false)
  held_gone h = let s = stands size E r i in let f = row_held _ _ _ _ _ _ _ _ _ i s.0 s.1 script_pass h in (f.0, rw (f.0, f.1) refl)

-- entries are marked as before, where their routines stand as before
pub marks_stay : (E F : List Made) (es : List Queued) → ((j : IrpLife) → has_entry es j ≡ true → armed F j ≡ armed E j) → AreMarked E es → AreMarked F es
marks_stay E F [] same h = tt
marks_stay E F (e ∷ es) same h = (
  h.0 ∙ ap not (sym (same e.irp (ap (λ b. b || has_entry es e.irp) (same_irp-refl e.irp)))),
  marks_stay E F es (λ j there. same j (ap (λ b. same_irp e.irp j || b) there ∙ or-true (same_irp e.irp j))) h.1,
)

-- an entry that is put among others, and is marked where its routine is gone
pub marks_placed : (E : List Made) (place : Place) (e : Queued) (es : List Queued) → e.marked ≡ not (armed E e.irp) → AreMarked E es → AreMarked E (put_at place e es)
marks_placed E Front e es here h = (here, h)
marks_placed E Back e [] here h = (here, tt)
marks_placed E Back e (x ∷ es) here h = (h.0, marks_placed E Back e es here h.1)

-- another IRP than one that isn't listed
pub other_entry : (es : List Queued) (i j : IrpLife) → has_entry es i ≡ false → has_entry es j ≡ true → same_irp i j ≡ false
other_entry es i j absent there = by_value (λ b. b ≡ false) (same_irp i j) (λ e. let same : i ≡ j = same_irp-eq i j e in absurd (cc (absent, there, same))) (λ _. refl)

-- the mark of a listed IRP
pub marked_is : (E : List Made) (es : List Queued) → AreMarked E es → (i : IrpLife) → (has_unmarked es i ≡ (has_entry es i && armed E i)) × (has_marked es i ≡ (has_entry es i && not (armed E i)))
marked_is E [] h i = (refl, refl)
marked_is E (e ∷ es) h i = go (same_irp e.irp i) refl (marked_is E es h.1 i)
  where
    unmarked : (a m : Bool) (u n : Bool) → m ≡ not a → u ≡ (n && a) → (not m || u) ≡ a
    unmarked true m u n e f = rw e refl
    unmarked false m u true e f = rw (e, f) refl
    unmarked false m u false e f = rw (e, f) refl

    marked : (a m : Bool) (u n : Bool) → m ≡ not a → u ≡ (n && not a) → (m || u) ≡ not a
    marked false m u n e f = rw e refl
    marked true m u true e f = rw (e, f) refl
    marked true m u false e f = rw (e, f) refl

    go : (b : Bool) → same_irp e.irp i ≡ b → (has_unmarked es i ≡ (has_entry es i && armed E i)) × (has_marked es i ≡ (has_entry es i && not (armed E i)))
        → (((b && not e.marked) || has_unmarked es i) ≡ ((b || has_entry es i) && armed E i)) × (((b && e.marked) || has_marked es i) ≡ ((b || has_entry es i) && not (armed E i)))
    go false is rest = rest
    go true is rest =
        let here : e.marked ≡ not (armed E i) = h.0 ∙ ap (λ j. not (armed E j)) (same_irp-eq e.irp i is) in
        (unmarked (armed E i) e.marked (has_unmarked es i) (has_entry es i) here rest.0, marked (armed E i) e.marked (has_marked es i) (has_entry es i) here rest.1)

module _ {first : ℕ} (E : List Made) (q : QueueState) (h : IsOfRun first E q) where
  -- steps that exchange no routine and set no flag
  pub queue_test : (i : IrpLife) → IsOfRun first (next_step E (Test i)) q
  queue_test i = record { lives = h.lives; used = h.used; entries = h.entries; flags = h.flags; marks = marks_stay E (next_step E (Test i)) q.entries (λ j there. refl) h.marks }

  pub queue_end : IsOfRun first (next_step E End) q
  queue_end = record { lives = h.lives; used = h.used; entries = h.entries; flags = h.flags; marks = marks_stay E (next_step E End) q.entries (λ j there. refl) h.marks }

  pub queue_done : (i : IrpLife) → IsOfRun first (next_step E (Done i)) q
  queue_done i = record { lives = h.lives; used = h.used; entries = h.entries; flags = h.flags; marks = marks_stay E (next_step E (Done i)) q.entries (λ j there. refl) h.marks }

  -- a Flag is seen
  pub queue_flag : (i : IrpLife) → IsOfRun first (next_step E (Flag i)) (after_event q (event.FlagSeen i))
  queue_flag i = record {
    lives = h.lives;
    used = h.used;
    entries = h.entries;
    flags = λ j. ap (λ b. same_irp i j || b) (h.flags j);
    marks = marks_stay E (next_step E (Flag i)) q.entries (λ j there. refl) h.marks;
  }

module _ (size : Size) (E : List Made) (r : IsRun size E) (q : QueueState) (h : IsOfRun size.first E q) where
  -- an IRP that the queue hasn't used
  pub unlisted : (i : IrpLife) → was_armed E i ≡ false → has_entry q.entries i ≡ false
  unlisted i home = h.entries i ∙ rw home refl

  -- each entry is of a present life, and what was used has begun
  now_of : (i : IrpLife) → IsPresent size.first E i → life_of i ≡ q.lives i.irp
  now_of i now = now ∙ sym (h.lives i.irp)

  entries_present : (es : List Queued) → ((i : IrpLife) → has_entry es i ≡ true → life_of i ≡ q.lives i.irp) → ArePresent q.lives es
  entries_present [] each = tt
  entries_present (e ∷ es) each = (
    each e.irp (ap (λ b. b || has_entry es e.irp) (same_irp-refl e.irp)),
    entries_present es (λ i there. each i (ap (λ b. same_irp e.irp i || b) there ∙ or-true (same_irp e.irp i))),
  )

  used_begun_all : (is : List IrpLife) → ((i : IrpLife) → has_irp is i ≡ true → life_of i ≤ q.lives i.irp) → AreBegun q.lives is
  used_begun_all [] each = tt
  used_begun_all (j ∷ is) each = (
    each j (ap (λ b. b || has_irp is j) (same_irp-refl j)),
    used_begun_all is (λ i there. each i (ap (λ b. same_irp j i || b) there ∙ or-true (same_irp j i))),
  )

  pub sound_lives : HasSoundLives q
  sound_lives = record {
    entries = entries_present q.entries (λ i there. now_of i (listed_present size E r i (sym (h.entries i) ∙ there)));
    used = used_begun_all q.used (λ i there. let begun = used_begun size E r i (or_right (flagged E i) (was_armed E i) (sym (h.used i) ∙ there)) in omega (arith, begun.1, h.lives i.irp));
  }

  -- an Arm lists its IRP
  pub queue_arm : (n : IrpId) (f : FileId) (place : Place) → was_armed E (present_in q n) ≡ false → IsOfRun size.first (next_step E (Arm (present_in q n))) (after_event q (event.Insert n f place Pending))
  queue_arm n f place home = record {
    lives = h.lives;
    used = λ j. ap (λ b. same_irp (present_in q n) j || b) (h.used j);
    entries = λ j. has_entry-placed place (new_entry (present_in q n) f) q.entries j ∙ ap (λ b. same_irp (present_in q n) j || b) (h.entries j)
        ∙ sym (joins (same_irp (present_in q n) j) (was_armed E j) (has_gone E j) (λ e. ap (has_gone E) (sym (same_irp-eq (present_in q n) j e)) ∙ home_left size E r (present_in q n) home));
    flags = h.flags;
    marks = marks_placed (next_step E (Arm (present_in q n))) place (new_entry (present_in q n) f) q.entries (rw same_irp-refl refl)
        (marks_stay E (next_step E (Arm (present_in q n))) q.entries (λ j there. ap (λ b. (b || false) || armed E j) (other_entry q.entries (present_in q n) j (unlisted (present_in q n) home) there)) h.marks);
  }
    where
      joins : (b w x : Bool) → (b ≡ true → x ≡ false) → ((b || w) && not x) ≡ (b || (w && not x))
      joins true w x e = ap not (e refl)
      joins false w x e = refl

  -- a Rearm lists its IRP again
  pub queue_rearm : (i : IrpLife) (f : FileId) (place : Place) → holds E script_pass i ≡ true → IsOfRun size.first (next_step E (Rearm i)) (after_event q (event.PutBack i f place Pending))
  queue_rearm i f place held = record {
    lives = h.lives;
    used = h.used;
    entries = λ j. has_entry-placed place (new_entry i f) q.entries j ∙ ap (λ b. same_irp i j || b) (h.entries j)
        ∙ joins (same_irp i j) (was_armed E j) (has_gone E j) (λ e. ap (was_armed E) (sym (same_irp-eq i j e)) ∙ (held_gone size E r i held).0);
    flags = h.flags;
    marks = marks_placed (next_step E (Rearm i)) place (new_entry i f) q.entries (rw same_irp-refl refl)
        (marks_stay E (next_step E (Rearm i)) q.entries (λ j there. ap (λ b. b || armed E j) (other_entry q.entries i j absent there)) h.marks);
  }
    where
      joins : (b w x : Bool) → (b ≡ true → w ≡ true) → (b || (w && not x)) ≡ (w && not (not b && x))
      joins true w x e = rw (e refl) refl
      joins false w x e = refl

      absent : has_entry q.entries i ≡ false
      absent = h.entries i ∙ (held_gone size E r i held).1

  -- a Renew begins the next life
  pub queue_renew : (n : IrpId) (life : Life) → IsOfRun size.first (next_step E (Renew (present_in q n))) (after_event q (event.Reuse n life))
  queue_renew n life = record {
    lives = λ m. go m (same_id n m) refl;
    used = h.used;
    entries = h.entries;
    flags = h.flags;
    marks = marks_stay E (next_step E (Renew (present_in q n))) q.entries (λ j there. refl) h.marks;
  }
    where
      go : (m : IrpId) (b : Bool) → same_id n m ≡ b → begin_next n q.lives m ≡ present_life size.first (next_step E (Renew (present_in q n))) m
      go m true e = ap (λ b. cond b (q.lives m + 1) (q.lives m)) e ∙ ap (λ g. g + 1) (h.lives m) ∙ sym (life_next size.first (record { pass = script_pass; kind = Renew (present_in q n); found = 0 }) E m e)
      go m false e = ap (λ b. cond b (q.lives m + 1) (q.lives m)) e ∙ h.lives m ∙ sym (life_same size.first (record { pass = script_pass; kind = Renew (present_in q n); found = 0 }) E m e)

-- a step that takes the routine of i, which it had or not
pub taken_routine : (E : List Made) (i j : IrpLife) (b : Bool) → b ≡ same_irp i j → armed E i ≡ false → (not b && armed E j) ≡ armed E j
taken_routine E i j true is none = sym (ap (armed E) (sym (same_irp-eq i j (sym is))) ∙ none)
taken_routine E i j false is none = refl

pub same_irp-sym : (i j : IrpLife) → same_irp i j ≡ same_irp j i
same_irp-sym i j = go (same_irp i j) (same_irp j i) refl refl
  where
    go : (b c : Bool) → same_irp i j ≡ b → same_irp j i ≡ c → b ≡ c
    go true true e f = refl
    go false false e f = refl
    go true false e f = let same : i ≡ j = same_irp-eq i j e in let own : same_irp j i ≡ true = ap (λ x. same_irp j x) same ∙ same_irp-refl j in cc
    go false true e f = let same : j ≡ i = same_irp-eq j i f in let own : same_irp i j ≡ true = ap (λ x. same_irp i x) same ∙ same_irp-refl i in cc

-- the entries that stay are marked as before
pub marks_without : (E : List Made) (i : IrpLife) (es : List Queued) → AreMarked E es → AreMarked E (without i es)
marks_without E i [] h = tt
marks_without E i (e ∷ es) h = by_value (λ b. AreMarked E (cond (not b) (e ∷ without i es) (without i es))) (same_irp e.irp i)
    (λ _. marks_without E i es h.1)
    (λ _. (h.0, marks_without E i es h.1))

pub marks_marking : (E F : List Made) (i : IrpLife) (es : List Queued) → ((j : IrpLife) → armed F j ≡ (not (same_irp i j) && armed E j)) → AreMarked E es → AreMarked F (marking i es)
marks_marking E F i [] after h = tt
marks_marking E F i (e ∷ es) after h = (
  go (same_irp i e.irp) (same_irp e.irp i) (same_irp-sym e.irp i) e.marked h.0 ∙ ap not (sym (after e.irp)),
  marks_marking E F i es after h.1,
)
  where
    go : (b c : Bool) → c ≡ b → (m : Bool) → m ≡ not (armed E e.irp) → (c || m) ≡ not (not b && armed E e.irp)
    go true c same m is = rw same refl
    go false c same m is = rw same is

-- the run whose next step found v
abbrev pub found_then : List Made → Kind → ℕ → List Made
found_then E k v = record { pass = script_pass; kind = k; found = v } ∷ E

module _ {first : ℕ} (E : List Made) (q : QueueState) (h : IsOfRun first E q) (i : IrpLife) where
  -- i leaves the list
  abbrev leaving : QueueState
  leaving = record q { entries = without i q.entries }

  leaves : (F : List Made) → ((j : IrpLife) → was_armed F j ≡ was_armed E j) → ((j : IrpLife) → flagged F j ≡ flagged E j) → ((j : IrpLife) → has_gone F j ≡ (same_irp i j || has_gone E j))
      → ((j : IrpLife) → same_irp i j ≡ false → armed F j ≡ armed E j) → ((n : IrpId) → present_life first F n ≡ present_life first E n) → IsOfRun first F leaving
  leaves F arms flags gone routines lives = record {
    lives = λ n. h.lives n ∙ sym (lives n);
    used = λ j. h.used j ∙ sym (arms j);
    entries = λ j. has_entry-without i q.entries j ∙ ap (λ b. not (same_irp i j) && b) (h.entries j) ∙ go (same_irp i j) (was_armed E j) (has_gone E j)
        ∙ ap (λ b. was_armed E j && not b) (sym (gone j)) ∙ ap (λ b. b && not (has_gone F j)) (sym (arms j));
    flags = λ j. h.flags j ∙ sym (flags j);
    marks = marks_stay E F (without i q.entries) (λ j there. routines j (stays j (same_irp i j) (sym (has_entry-without i q.entries j) ∙ there))) (marks_without E i q.entries h.marks);
  }
    where
      go : (b w x : Bool) → (not b && (w && not x)) ≡ (w && not (b || x))
      go true true x = refl
      go true false x = refl
      go false w x = refl

      stays : (j : IrpLife) (b : Bool) → (not b && has_entry q.entries j) ≡ true → b ≡ false
      stays j true e = absurd cc
      stays j false e = refl

  pub queue_hit : IsOfRun first (found_then E (Disarm i) 1) leaving
  queue_hit = leaves (found_then E (Disarm i) 1) (λ j. refl) (λ j. refl) (λ j. gone (same_irp i j) (has_gone E j)) (λ j other. ap (λ b. not (b || false) && armed E j) other) (λ n. refl)
    where
      gone : (b x : Bool) → (((b && true) || false) || x) ≡ (b || x)
      gone true x = refl
      gone false x = refl

  pub queue_out : (v : ℕ) → IsOfRun first (found_then E (Out i) v) leaving
  queue_out v = leaves (found_then E (Out i) v) (λ j. refl) (λ j. refl) (λ j. refl) (λ j other. refl) (λ n. refl)

  pub queue_miss : armed E i ≡ false → IsOfRun first (found_then E (Disarm i) 0) q
  queue_miss none = record {
    lives = h.lives;
    used = h.used;
    entries = λ j. h.entries j ∙ ap (λ b. was_armed E j && not b) (sym (gone (same_irp i j) (has_gone E j)));
    flags = h.flags;
    marks = marks_stay E (found_then E (Disarm i) 0) q.entries (λ j there. taken_routine E i j (same_irp i j || false) (or-false (same_irp i j)) none) h.marks;
  }
    where
      gone : (b x : Bool) → (((b && false) || false) || x) ≡ x
      gone true x = refl
      gone false x = refl

  pub queue_take : (v : ℕ) → IsOfRun first (found_then E (Take i) v) (after_event q (event.Mark i))
  queue_take v = record {
    lives = h.lives;
    used = h.used;
    entries = λ j. has_entry-marking i q.entries j ∙ h.entries j;
    flags = h.flags;
    marks = marks_marking E (found_then E (Take i) v) i q.entries (λ j. refl) h.marks;
  }

  pub queue_take_none : (v : ℕ) → armed E i ≡ false → IsOfRun first (found_then E (Take i) v) q
  queue_take_none v none = record {
    lives = h.lives;
    used = h.used;
    entries = h.entries;
    flags = h.flags;
    marks = marks_stay E (found_then E (Take i) v) q.entries (λ j there. taken_routine E i j (same_irp i j) refl none) h.marks;
  }
