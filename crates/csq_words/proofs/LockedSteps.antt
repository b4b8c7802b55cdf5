-- What a step or a note under the lock may do to the table.
use Rattle.std.proofs.Common.{◌≡◌, ◌≢◌, ℕ, zero, suc, ◌<◌, ◌≤◌, ⊎_elim, true, false, ◌||◌, List, [], ◌∷◌, ◌++◌, set, Option, Some, None, refl, sym, ap, ◌∙◌, subst, arith, Bool, not}
use Rattle.csq_words.proofs.Imports.{set-get_or, cases_lt, false_from_ne_true, slice_index, some, none, some-injective, get_elem?, Allows, step, keeps, set_here, inside_of, owes_in, holds_in, removed_in, PassId, Kind, Arm, Test, Disarm, End, Out, Rearm, Made, number, life_of, IrpLife, armed, flagged, cancel, found_by, owes, holds, listed, IsPresent, inside, has_lock, Size, OfIrp, same_irp-refl, inserted_listed, Call, Event, HistoryEntry, Reusing, Nothing, PassRecord, QueueRecord, View, cancel_at, routine_at, bit_word, life_in, bit_in, present_in, has_entry, has_irp, has_marked, given_to, end_of, MayStand, IsOrderly, OwnersPutBack, view_of, queue_in, pass_in, queue_of, entries_of, with_events, with_calls, with_step, with_trace, with_back, HasQueue, IsOfCall, IsExtendedBy, Tick, steps_in, HasSeen, HasWords, is_done, in_flight, AreTrueOf, IsHistoryOf, IsPassOf, IsRecord, IsResting, IsBack, IsOut, BackOnce, Fits, RuleHoldsBy, RuleHolds, recorded, MayRemove, MayMake, MayComeBack, MayNote, after_note, SeatView, IsFound, FindsUnmarked, MakesStep, ObservesNote, Notes, owes_in-own, holds_in-own, SaysRoutine, IsRoutineWord, was_armed, has_gone, and_parts, IsRun}
use Rattle.irp_core.specs.declared.inside.Inside.TheVariants.{Armed, FlagSeen, Rearmed, FlagSeenAgain}
use Rattle.irp_core.specs.declared.inside.Inside.TheVariants as inner
use Rattle.irp_core.proofs.Resting.{unknown_stands}
use Rattle.csq_words.specs.declared.calls.Call.TheVariants.{Insert, RemoveNext, Remove, CancelRoutine, CloseFile, Reuse, GiveBack, PutBack}
use Rattle.csq_words.specs.declared.calls.Note.{Note}
use Rattle.csq_words.specs.declared.calls.Note.TheVariants.{Refused}
use Rattle.csq_words.specs.declared.calls.Note.TheVariants as note
use Rattle.csq_words.specs.declared.views.InsertReply.TheVariants as reply
use Rattle.csq_words.specs.declared.views.Event.TheVariants as event
use Rattle.csq_words.specs.declared.views.Tick.TheVariants.{Leaves}
use Rattle.csq_words.specs.Traces.{IsTrace, IsNextStep, says}
use Rattle.csq_words.proofs.Facts.{off, extended_on, bit_bound, bit_true, set_listed, listed_now, listed_undone, open_now, open_undone, fresh}
use Rattle.csq_words.proofs.Decoding.{life_in-put, bit_in-put}
use Rattle.csq_words.proofs.Indexes.{at_below}
use Rattle.csq_words.proofs.Changes.{present_is}
use Rattle.csq_words.proofs.Keeping.{none_is, seen_more, seen_alone, same_history, all_set, present_else, apart_from, only_joined, at_queue, inside_is, free_flight, agrees_same}
use Rattle.csq_words.proofs.SeatSteps.{LockedStep, locked_step}
use Rattle.csq_words.proofs.Traced.{steps_says, step_traced, note_traced, traced_noted, traced_leaves}
use Rattle.csq_words.proofs.Entries.{begins_more, calls_of-other, calls_of-mine}
use Rattle.csq_words.proofs.Marks.{marked_taken}
use Rattle.csq_words.proofs.Marking.{next_first, unmarked_else}
use Rattle.csq_words.proofs.CallSteps.{Sees, sees, IsMade, ObservedAfter, agreed_kept, made_trace, made_record, made_kept}
use Rattle.csq_words.proofs.PutBackSteps.{rearm_made, back_now, rearm_finds, test_again_made, disarm_again_made, gone}
use Rattle.csq_words.proofs.InsertSteps.{undone, arm_made, test_made, disarm_made, never_armed}
use Rattle.csq_words.proofs.RemovalSteps.{TakesOut, next_listed, entries_are, miss_made, hit_made, end_made, out_made}

-- the words after a step of this kind
abbrev pub words_after : Kind → List ℕ → List ℕ
words_after (Arm i) words = set words (routine_at i.irp) (bit_word (life_of i) 1)
words_after (Rearm i) words = set words (routine_at i.irp) (bit_word (life_of i) 1)
words_after (Disarm i) words = set words (routine_at i.irp) (bit_word (life_of i) 0)
words_after _ words = words

-- whether the word that a step finds is of its IRP's life before it: that of a routine once the IRP was armed
abbrev had_routine : List Made → Kind → Bool
had_routine run (Arm j) = was_armed run j
had_routine run (Disarm j) = was_armed run j
had_routine run (Rearm j) = was_armed run j
had_routine run kind = true

module _ (size : Size) (words : List ℕ) (run : List Made) (q : QueueRecord) (r : PassRecord) (x : Sees size words run q r) where
  -- what is found armed isn't marked
  unmarked : (kind : Kind) (n : ℕ) → n ≡ found_by run kind → FindsUnmarked kind n (queue_of q)
  unmarked (Disarm i) (suc n) is = false_from_ne_true (has_marked (queue_of q).entries i)
      (λ h. off (sym (set_listed size run x.history_is.is_run i (bit_true (armed run i) (suc n) is (omega arith))).3 ∙ marked_taken q.first run q.history i x.history_is.true_of h))
  unmarked (Disarm i) zero is = tt
  unmarked k n is = tt

  -- a removal's disarm, whatever it finds
  removal_disarm : (i : IrpLife) → number i < size.irps → (removes : MayRemove r) → has_entry (queue_of q).entries i ≡ true → (call : Call) (e : Event) → TakesOut i e → (has_marked (queue_of q).entries i ≡ false → MayStand (queue_of q) e)
      → (recorded call (Disarm i) 0 (queue_of q) ≡ recorded (Remove i) (Disarm i) 0 (queue_of q)) → (recorded call (Disarm i) 1 (queue_of q) ≡ e ∷ [])
      → (n : ℕ) → n ≡ found_by run (Disarm i) → IsMade size words (words_after (Disarm i) words) run q r (Disarm i) n (recorded call (Disarm i) n (queue_of q)) q.reusing
  removal_disarm i inside' removes there call e takes stands miss hit zero is = subst (λ es. IsMade size words (words_after (Disarm i) words) run q r (Disarm i) 0 es q.reusing) (sym miss) (miss_made size words run q r x removes i inside' there is)
  removal_disarm i inside' removes there call e takes stands miss hit (suc zero) is = subst (λ es. IsMade size words (words_after (Disarm i) words) run q r (Disarm i) 1 es q.reusing) (sym hit) (hit_made size words run q r x removes i inside' there is e takes (stands (unmarked (Disarm i) 1 is)))
  removal_disarm i inside' removes there call e takes stands miss hit (suc (suc n)) is = let b = bit_bound (armed run i) in absurd (omega arith)

  -- what such a step owes
  abbrev Made' : Call → Kind → ℕ → Type 0
  Made' call kind n = IsMade size words (words_after kind words) run q r kind n (recorded call kind n (queue_of q)) q.reusing

  -- the next step of a call
  making : (call : Call) (kind : Kind) → MayMake call kind q r → OfIrp (λ i. number i < size.irps) kind → (n : ℕ) → n ≡ found_by run kind → Made' call kind n
  making (Insert m f place) (Arm j) (e, outside, unused) known n is =
      subst (λ (l : IrpLife). has_irp (queue_of q).used l ≡ false → number l < size.irps → n ≡ found_by run (Arm l) → Made' (Insert m f place) (Arm l) n) (sym e)
      (λ unused inside' at. arm_made size words run q r x m f place inside' outside unused n at) unused known is
  making (Insert m f place) (Test j) (e, after_arm) known n is =
      subst (λ (l : IrpLife). inside_of r.steps ≡ Armed l → number l < size.irps → n ≡ found_by run (Test l) → Made' (Insert m f place) (Test l) n) (sym e)
      (λ after_arm inside' at. test_made size words run q r x m f place inside' after_arm n at) after_arm known is
  making (Insert m f place) (Disarm j) (e, seen) known n is =
      subst (λ (l : IrpLife). inside_of r.steps ≡ FlagSeen l → number l < size.irps → n ≡ found_by run (Disarm l) → Made' (Insert m f place) (Disarm l) n) (sym e)
      (λ seen inside' at. disarm_made size words run q r x m f place inside' seen n at) seen known is
  making (RemoveNext k) (Disarm j) (removes, next) known n is =
      removal_disarm j known removes (next_listed k (queue_of q).entries j next) (RemoveNext k) (event.RemoveNext k (Some j)) record { taken = λ u. refl; says = λ E u p h. h; gives_out = λ f p h j. refl; no_put_back = λ j. refl } (next_first k (queue_of q).entries j next) refl refl n is
  making (Remove i) (Disarm j) (e, removes, there) known n is =
      subst (λ (l : IrpLife). number l < size.irps → n ≡ found_by run (Disarm l) → Made' (Remove i) (Disarm l) n) (sym e)
      (λ inside' at. removal_disarm i inside' removes there (Remove i) (event.Remove i true) record { taken = λ u. refl; says = λ E u p h. h; gives_out = λ f p h j. refl; no_put_back = λ j. refl } (λ clear. sym (unmarked_else i (queue_of q).entries there clear)) refl refl n at) known is
  making (RemoveNext k) End (removes, none') known n is =
      subst (λ v. IsMade size words words run q r End v (event.RemoveNext k None ∷ []) q.reusing) (sym is) (end_made size words run q r x removes (event.RemoveNext k None) record { left = λ u. refl; plain = λ E u p. tt; gives_none = λ f p h j. refl; no_put_back = λ j. refl } (sym none'))
  making (Remove i) End (removes, none') known n is =
      subst (λ v. IsMade size words words run q r End v (event.Remove i false ∷ []) q.reusing) (sym is) (end_made size words run q r x removes (event.Remove i false) record { left = λ u. refl; plain = λ E u p. tt; gives_none = λ f p h j. refl; no_put_back = λ j. refl } (sym none'))
  making (CancelRoutine m) (Out j) (e, outside, owed) known n is =
      subst (λ v. Made' (CancelRoutine m) (Out j) v) (sym is) (out_made size words run q r x j known outside owed)
  making (PutBack i f place) (Rearm j) (e, outside, held, got) known n is =
      subst (λ (l : IrpLife). holds_in r.steps l ≡ true → removed_in r.steps l ≡ true → number l < size.irps → n ≡ found_by run (Rearm l) → Made' (PutBack i f place) (Rearm l) n) (sym e)
      (λ held got inside' at. rearm_made size words run q r x i f place inside' outside held got n at) held got known is
  making (PutBack i f place) (Test j) (e, after) known n is =
      subst (λ (l : IrpLife). inside_of r.steps ≡ Rearmed l → number l < size.irps → n ≡ found_by run (Test l) → Made' (PutBack i f place) (Test l) n) (sym e)
      (λ after inside' at. test_again_made size words run q r x i f place inside' after n at) after known is
  making (PutBack i f place) (Disarm j) (e, seen) known n is =
      subst (λ (l : IrpLife). inside_of r.steps ≡ FlagSeenAgain l → number l < size.irps → n ≡ found_by run (Disarm l) → Made' (PutBack i f place) (Disarm l) n) (sym e)
      (λ seen inside' at. disarm_again_made size words run q r x i f place inside' seen n at) seen known is
  making call kind may known n is = absurd may

  at_listed : (i : IrpLife) → listed run i ≡ true → IsPresent size.first run i × (is_done run i ≡ false)
  at_listed i l = (listed_now size run x.history_is.is_run i l, listed_undone size run x.history_is.is_run i l)

  -- what a Disarm exchanges is listed
  disarms_listed : (call : Call) (j : IrpLife) → MayMake call (Disarm j) q r → listed run j ≡ true
  disarms_listed (Insert m f place) j (e, seen) = inserted_listed size run x.history_is.is_run r.pass j (rw (← x.same, seen) (same_irp-refl j))
  disarms_listed (RemoveNext k) j (removes, next) = sym (entries_are size words run q r x removes j) ∙ next_listed k (queue_of q).entries j next
  disarms_listed (Remove i) j (e, removes, there) = sym (entries_are size words run q r x removes j) ∙ (ap (has_entry (queue_of q).entries) e ∙ there)
  disarms_listed (PutBack i f place) j (e, seen) = inserted_listed size run x.history_is.is_run r.pass j (rw (← x.same, seen) (same_irp-refl j))
  disarms_listed call j may = absurd may

  -- the IRP of such a step is in its present life, and isn't completed there
  at_hand : (call : Call) (kind : Kind) → MayMake call kind q r → OfIrp (λ i. number i < size.irps) kind → OfIrp (λ i. IsPresent size.first run i × (is_done run i ≡ false)) kind
  at_hand (Insert m f place) (Arm j) (e, outside, unused) known =
      subst (λ (l : IrpLife). has_irp (queue_of q).used l ≡ false → IsPresent size.first run l × (is_done run l ≡ false)) (sym e)
      (λ unused. (x.history_is.lives_are m, undone size words run q r x m f place (subst (λ (l : IrpLife). number l < size.irps) e known) outside unused)) unused
  at_hand (Insert m f place) (Test j) (e, after_arm) known = at_listed j (inserted_listed size run x.history_is.is_run r.pass j (rw (← x.same, after_arm) (same_irp-refl j)))
  at_hand (Insert m f place) (Disarm j) may known = at_listed j (disarms_listed (Insert m f place) j may)
  at_hand (RemoveNext k) (Disarm j) may known = at_listed j (disarms_listed (RemoveNext k) j may)
  at_hand (Remove i) (Disarm j) may known = at_listed j (disarms_listed (Remove i) j may)
  at_hand (RemoveNext k) End may known = tt
  at_hand (Remove i) End may known = tt
  at_hand (CancelRoutine m) (Out j) (e, outside, owed) known =
      let open' : (owes run r.pass j || holds run r.pass j) ≡ true = rw (sym (ap (λ t. owes_in t j) x.steps_is ∙ owes_in-own r.pass j run) ∙ owed) refl in
      (open_now size run x.history_is.is_run j r.pass open', open_undone size run x.history_is.is_run j r.pass open')
  at_hand (PutBack i f place) (Rearm j) (e, outside, held, got) known = back_now size words run q r x j f place known outside held got
  at_hand (PutBack i f place) (Test j) (e, after) known = at_listed j (inserted_listed size run x.history_is.is_run r.pass j (rw (← x.same, after) (same_irp-refl j)))
  at_hand (PutBack i f place) (Disarm j) may known = at_listed j (disarms_listed (PutBack i f place) j may)
  at_hand call kind may known = absurd may

  -- what such a step finds
  finds : (call : Call) (kind : Kind) → MayMake call kind q r → OfIrp (λ i. number i < size.irps) kind → (w : ℕ) → OfIrp (λ i. SaysRoutine w (life_of i) (had_routine run kind) (found_by run kind)) kind → IsFound kind w
  finds (Insert m f place) (Arm j) (e, outside, unused) known w is =
      subst (λ a. SaysRoutine w (life_of j) a (found_by run (Arm j)))
      (subst (λ (l : IrpLife). has_irp (queue_of q).used l ≡ false → was_armed run l ≡ false) (sym e) (λ unused. never_armed size words run q r x m f place (subst (λ (l : IrpLife). number l < size.irps) e known) outside unused) unused)
      is
  finds call (Test j) may known w is = ap life_in is ∙ life_in-put (life_of j) _ (bit_bound (flagged run j))
  finds call (Disarm j) may known w is =
      let armed_is = (and_parts (was_armed run j) (not (has_gone run j)) (disarms_listed call j may)).0 in
      ap life_in (subst (λ a. SaysRoutine w (life_of j) a (found_by run (Disarm j))) armed_is is) ∙ life_in-put (life_of j) _ (bit_bound (armed run j))
  finds (PutBack i f place) (Rearm j) (e, outside, held, got) known w is =
      subst (λ a. SaysRoutine w (life_of j) a (found_by run (Rearm j))) (gone size words run q r x j f place known outside held got).2 is
      ∙ ap (bit_word (life_of j)) (rearm_finds size words run q r x j f place known outside held got)
  finds call End may known w is = tt
  finds call (Out j) may known w is = tt
  finds call kind may known w is = absurd may

-- the bit of a word that says it
says_bit : (w life : ℕ) (a : Bool) (b : ℕ) → b < 2 → (a ≡ false → b ≡ 0) → SaysRoutine w life a b → bit_in w ≡ b
says_bit w life true b few none' h = ap bit_in h ∙ bit_in-put life b few
says_bit w life false b few none' h = h.0 ∙ sym (none' refl)

-- an exchange or a load at this place is a step of this kind, of i
record IsStepAt (size : Size) (i : IrpLife) (kind : Kind) (at : ℕ) (f : ℕ → ℕ) : Type 0 where
  changes : (words : List ℕ) → set words at (f (slice_index words at)) ≡ words_after kind words
  known : OfIrp (λ j. number j < size.irps) kind
  names : (run : List Made) → OfIrp (λ j. IsPresent size.first run j × (is_done run j ≡ false)) kind → IsPresent size.first run i × (is_done run i ≡ false)
  says : (run : List Made) (w : ℕ) → SaysRoutine w (life_of i) (had_routine run kind) (found_by run kind) → OfIrp (λ j. SaysRoutine w (life_of j) (had_routine run kind) (found_by run kind)) kind
  bound : (run : List Made) → found_by run kind < 2
  unset : (run : List Made) → IsRun size run → had_routine run kind ≡ false → found_by run kind ≡ 0
  found_is : (words : List ℕ) (run : List Made) (reuse : Reusing) → HasWords size.first words run reuse i.irp → IsPresent size.first run i → SaysRoutine (slice_index words at) (life_of i) (had_routine run kind) (found_by run kind)

of_call : (call : Call) (kind : Kind) (q : QueueRecord) (r : PassRecord) → MayMake call kind q r → IsOfCall call kind (queue_of q)
of_call (Insert n f place) (Arm j) q r may = may.0
of_call (Insert n f place) (Test j) q r may = may.0
of_call (Insert n f place) (Disarm j) q r may = may.0
of_call (Insert n f place) kind q r may = absurd may
of_call (RemoveNext k) (Disarm j) q r may = tt
of_call (RemoveNext k) End q r may = tt
of_call (RemoveNext k) kind q r may = absurd may
of_call (Remove i) (Disarm j) q r may = may.0
of_call (Remove i) End q r may = tt
of_call (Remove i) kind q r may = absurd may
of_call (CancelRoutine n) (Out j) q r may = may.0
of_call (CancelRoutine n) kind q r may = absurd may
of_call (CloseFile f) kind q r may = absurd may
of_call (PutBack i f place) (Rearm j) q r may = may.0
of_call (PutBack i f place) (Test j) q r may = may.0
of_call (PutBack i f place) (Disarm j) q r may = may.0
of_call (PutBack i f place) kind q r may = absurd may
of_call (Reuse n) kind q r may = absurd may
of_call GiveBack kind q r may = absurd may

-- the step is the next one by what the pass is inside of
next_step : (call : Call) (kind : Kind) (q : QueueRecord) (r : PassRecord) → MayMake call kind q r → IsNextStep call kind (inside_of r.steps)
next_step (Insert n f place) (Arm j) q r may = may.1
next_step (Insert n f place) (Test j) q r may = may.1
next_step (Insert n f place) (Disarm j) q r may = may.1
next_step (Insert n f place) kind q r may = absurd may
next_step (RemoveNext k) (Disarm j) q r may = may.0
next_step (RemoveNext k) End q r may = may.0
next_step (RemoveNext k) kind q r may = absurd may
next_step (Remove i) (Disarm j) q r may = may.1
next_step (Remove i) End q r may = may.0
next_step (Remove i) kind q r may = absurd may
next_step (CancelRoutine n) (Out j) q r may = may.1
next_step (CancelRoutine n) kind q r may = absurd may
next_step (CloseFile f) kind q r may = absurd may
next_step (PutBack i f place) (Rearm j) q r may = may.1
next_step (PutBack i f place) (Test j) q r may = may.1
next_step (PutBack i f place) (Disarm j) q r may = may.1
next_step (PutBack i f place) kind q r may = absurd may
next_step (Reuse n) kind q r may = absurd may
next_step GiveBack kind q r may = absurd may

-- so it and what it records come next in the trace
made_traced : (size : Size) (words : List ℕ) (views : List View) (trace : List Tick) (id : ℕ) (q : QueueRecord) (r : PassRecord) (seat : PassId → ℕ) → RuleHoldsBy size words views trace id q (Some r) seat
    → (call : Call) (kind : Kind) (n : ℕ) → MayMake call kind q r → IsTrace q.first (made_trace r kind n (recorded call kind n (queue_of q)) trace)
made_traced size words views trace id q r seat k call kind n may =
    step_traced k.traced call kind n (of_call call kind q r may) (subst (IsNextStep call kind) (sees size words views trace id q r seat k).same (next_step call kind q r may))

makes : (size : Size) (slots id : ℕ) (q : QueueRecord) (r : PassRecord) (held : List (ℕ × Unit {0})) (call : Call) (i : IrpLife) (kind : Kind) (at : ℕ) (f : ℕ → ℕ) (a : ℕ) → number i < size.irps → IsStepAt size i kind at f → MayMake call kind q r
    → Allows (RuleHolds size) slots id (view_of q (Some r), held) at f (MakesStep size call kind (step slots at a 0 none) (view_of q (Some r), held))
makes size slots id q r held call i kind at f a inside' p may s h _ here _ =
    let (trace, seat, k) = at_queue size s id q (Some r) h here in
    let run = steps_in trace in
    let x = sees size s.words s.views trace id q r seat k in
    let w = slice_index s.words at in
    let hand : IsPresent size.first run i × (is_done run i ≡ false) = p.names run (at_hand size s.words run q r x call kind may p.known) in
    let word : SaysRoutine w (life_of i) (had_routine run kind) (found_by run kind) = p.found_is s.words run q.reusing (x.words_are i.irp inside') hand.0 in
    let found = bit_in w in
    let is : found ≡ found_by run kind = says_bit w (life_of i) (had_routine run kind) (found_by run kind) (p.bound run) (p.unset run x.history_is.is_run) word in
    let es = recorded call kind found (queue_of q) in
    let r' = with_calls es (with_step kind found r) in
    let m : Made = record { pass = r.pass; kind = kind; found = found } in
    let now = made_trace r kind found es trace in
    let q' = made_record r es q.reusing now q in
    let kept = made_kept size s.words (words_after kind s.words) s.views trace id q r seat kind found es q.reusing k (making size s.words run q r x call kind may p.known found is)
    (made_traced size s.words s.views trace id q r seat k call kind found may) in (
      view_of q' (Some r'),
      keeps,
      tt,
      (now, id, q', Some r', seat, subst (λ ws. RuleHoldsBy size ws (set s.views id (view_of q' (Some r'))) now id q' (Some r') seat) (sym (p.changes s.words)) kept.0),
      (refl, finds size s.words run q r x call kind may p.known w (p.says run w word), kept.1, unmarked size s.words run q r x kind found is),
    )

arm_at : (size : Size) (i : IrpLife) → number i < size.irps → IsStepAt size i (Arm i) (routine_at i.irp) (λ _. bit_word (life_of i) 1)
arm_at size i inside' = record {
  changes = λ words. refl;
  known = inside';
  names = λ run h. h;
  says = λ run w h. h;
  bound = λ run. bit_bound (armed run i);
  unset = λ run is_run e. (fresh size run is_run i e).0;
  found_is = λ words run reuse w now. subst (λ (j : IrpLife). IsRoutineWord (slice_index words (routine_at i.irp)) run j) (present_is size.first run i now) w.routine_is;
}

rearm_at : (size : Size) (i : IrpLife) → number i < size.irps → IsStepAt size i (Rearm i) (routine_at i.irp) (λ _. bit_word (life_of i) 1)
rearm_at size i inside' = record {
  changes = λ words. refl;
  known = inside';
  names = λ run h. h;
  says = λ run w h. h;
  bound = λ run. bit_bound (armed run i);
  unset = λ run is_run e. (fresh size run is_run i e).0;
  found_is = λ words run reuse w now. subst (λ (j : IrpLife). IsRoutineWord (slice_index words (routine_at i.irp)) run j) (present_is size.first run i now) w.routine_is;
}

disarm_at : (size : Size) (i : IrpLife) → number i < size.irps → IsStepAt size i (Disarm i) (routine_at i.irp) (λ _. bit_word (life_of i) 0)
disarm_at size i inside' = record {
  changes = λ words. refl;
  known = inside';
  names = λ run h. h;
  says = λ run w h. h;
  bound = λ run. bit_bound (armed run i);
  unset = λ run is_run e. (fresh size run is_run i e).0;
  found_is = λ words run reuse w now. subst (λ (j : IrpLife). IsRoutineWord (slice_index words (routine_at i.irp)) run j) (present_is size.first run i now) w.routine_is;
}

test_at : (size : Size) (i : IrpLife) → number i < size.irps → IsStepAt size i (Test i) (cancel_at i.irp) (λ n. n)
test_at size i inside' = record {
  changes = λ words. set-get_or words (cancel_at i.irp) 0;
  known = inside';
  names = λ run h. h;
  says = λ run w h. h;
  bound = λ run. bit_bound (flagged run i);
  unset = λ run is_run e. off (sym e);
  found_is = λ words run reuse w now. w.cancel_is ∙ ap (λ (j : IrpLife). bit_word (life_of j) (cancel run j)) (present_is size.first run i now);
}

module _ (size : Size) (slots id : ℕ) (m : SeatView) (q : QueueRecord) (r : PassRecord) (is : m.0 ≡ view_of q (Some r)) (call : Call) (kind : Kind) (i : IrpLife) (inside' : number i < size.irps) (other : Size) (sized : other ≡ size) where
  pub arms_as : (place v : ℕ) → place ≡ routine_at i.irp → v ≡ bit_word (life_of i) 1 → kind ≡ Arm i → MayMake call (Arm i) q r → Allows (RuleHolds size) slots id m place (λ _. v) (MakesStep other call kind (step slots place v 0 none) m)
  arms_as place v lies put same may = subst (λ (z : View × Kind × Size × ℕ × ℕ). Allows (RuleHolds size) slots id (z.0, m.1) z.4 (λ _. z.3) (MakesStep z.2 call z.1 (step slots z.4 z.3 0 none) (z.0, m.1))) (λ k. (sym is k, sym same k, sym sized k, sym put k, sym lies k))
      (makes size slots id q r m.1 call i (Arm i) (routine_at i.irp) (λ _. bit_word (life_of i) 1) (bit_word (life_of i) 1) inside' (arm_at size i inside') may)

  pub rearms_as : (place v : ℕ) → place ≡ routine_at i.irp → v ≡ bit_word (life_of i) 1 → kind ≡ Rearm i → MayMake call (Rearm i) q r → Allows (RuleHolds size) slots id m place (λ _. v) (MakesStep other call kind (step slots place v 0 none) m)
  rearms_as place v lies put same may = subst (λ (z : View × Kind × Size × ℕ × ℕ). Allows (RuleHolds size) slots id (z.0, m.1) z.4 (λ _. z.3) (MakesStep z.2 call z.1 (step slots z.4 z.3 0 none) (z.0, m.1))) (λ k. (sym is k, sym same k, sym sized k, sym put k, sym lies k))
      (makes size slots id q r m.1 call i (Rearm i) (routine_at i.irp) (λ _. bit_word (life_of i) 1) (bit_word (life_of i) 1) inside' (rearm_at size i inside') may)

  pub disarms_as : (place v : ℕ) → place ≡ routine_at i.irp → v ≡ bit_word (life_of i) 0 → kind ≡ Disarm i → MayMake call (Disarm i) q r → Allows (RuleHolds size) slots id m place (λ _. v) (MakesStep other call kind (step slots place v 0 none) m)
  disarms_as place v lies put same may = subst (λ (z : View × Kind × Size × ℕ × ℕ). Allows (RuleHolds size) slots id (z.0, m.1) z.4 (λ _. z.3) (MakesStep z.2 call z.1 (step slots z.4 z.3 0 none) (z.0, m.1))) (λ k. (sym is k, sym same k, sym sized k, sym put k, sym lies k))
      (makes size slots id q r m.1 call i (Disarm i) (routine_at i.irp) (λ _. bit_word (life_of i) 0) (bit_word (life_of i) 0) inside' (disarm_at size i inside') may)

  pub tests_as : (place : ℕ) → place ≡ cancel_at i.irp → kind ≡ Test i → MayMake call (Test i) q r → Allows (RuleHolds size) slots id m place (λ n. n) (MakesStep other call kind (step slots place 0 0 none) m)
  tests_as place lies same may = subst (λ (z : View × Kind × Size × ℕ). Allows (RuleHolds size) slots id (z.0, m.1) z.3 (λ n. n) (MakesStep z.2 call z.1 (step slots z.3 0 0 none) (z.0, m.1))) (λ k. (sym is k, sym same k, sym sized k, sym lies k))
      (makes size slots id q r m.1 call i (Test i) (cancel_at i.irp) (λ n. n) 0 inside' (test_at size i inside') may)

-- the events leave the list and the used IRPs, and say nothing of the run
record AreSilent (p : PassId) (es : List Event) : Type 0 where
  listed_same : (history : List HistoryEntry) → (first : ℕ) → (end_of first (entries_of p es ++ history)).entries ≡ (end_of first history).entries
  used_same : (history : List HistoryEntry) → (first : ℕ) → (end_of first (entries_of p es ++ history)).used ≡ (end_of first history).used
  lives_same : (history : List HistoryEntry) → (first : ℕ) → (end_of first (entries_of p es ++ history)).lives ≡ (end_of first history).lives
  plain : (first : ℕ) (run : List Made) (history : List HistoryEntry) → AreTrueOf first run history → AreTrueOf first run (entries_of p es ++ history)
  orderly : (first : ℕ) (history : List HistoryEntry) → IsOrderly first history → IsOrderly first (entries_of p es ++ history)
  given_same : (first : ℕ) (history : List HistoryEntry) (i : IrpLife) → given_to first i (entries_of p es ++ history) ≡ given_to first i history
  owners : (first : ℕ) (history : List HistoryEntry) → OwnersPutBack first history → OwnersPutBack first (entries_of p es ++ history)

module _ (size : Size) (words : List ℕ) (views : List View) (trace : List Tick) (id : ℕ) (q : QueueRecord) (r : PassRecord) (seat : PassId → ℕ) (k : RuleHoldsBy size words views trace id q (Some r) seat) where
  abbrev run : List Made
  run = steps_in trace

  owner : (seat r.pass ≡ id) × IsOut q r.pass × IsRecord q.first words run q.history r
  owner = (k.each_view id (view_of q (Some r)) k.queue_is).pass_here r refl

  -- while the joined pass is inside of nothing, no pass has the lock by the run
  nobody_locks : inside_of r.steps ≡ inner.Nothing → (p : PassId) → has_lock (inside run p) ≡ false
  nobody_locks outside p = false_from_ne_true (has_lock (inside run p)) (λ l.
      let same = only_joined run r k.lock p l in
      off (sym (ap has_lock outside) ∙ (ap has_lock (inside_is run r words q owner.2) ∙ (ap (λ (x : PassId). has_lock (inside run x)) (sym same) ∙ l))))

  -- events without a step
  abbrev noted_trace : List Event → List Tick
  noted_trace es = says (entries_of r.pass es) ++ trace

  noted_kept : (es : List Event) → AreSilent r.pass es → IsTrace q.first (noted_trace es) → ObservedAfter size words views id seat q (with_events r.pass es (with_trace (noted_trace es) q)) (with_calls es r)
  noted_kept es quiet traced =
      let now = noted_trace es in
      let steps_are : steps_in now ≡ run = steps_says (entries_of r.pass es) trace in
      let longer : IsExtendedBy trace now = (says (entries_of r.pass es), refl) in
      let seen = k.each_seen id (view_of q (Some r)) k.queue_is in
      let history' = entries_of r.pass es ++ q.history in
      let r' = with_calls es r in
      let was = owner.2.of_pass in
      let h = k.agrees.history_is in
      let q' = with_events r.pass es (with_trace now q) in
      let history_is : IsHistoryOf size run q' (in_flight (Some r')) = record {
        is_run = h.is_run;
        first_is = h.first_is;
        lives_are = λ n. ap (λ f. f n) (quiet.lives_same q.history q.first) ∙ h.lives_are n;
        listed_is = λ i. ap (λ l. has_entry l i) (quiet.listed_same q.history q.first) ∙ h.listed_is i;
        used_is = λ i. ap (λ l. has_irp l i) (quiet.used_same q.history q.first) ∙ h.used_is i;
        true_of = quiet.plain q.first run q.history h.true_of;
        orderly = quiet.orderly q.first q.history h.orderly;
        given_is = λ i n. quiet.given_same q.first q.history i ∙ h.given_is i n;
        putting_back = λ p i n. quiet.given_same q.first q.history i ∙ h.putting_back p i n;
        owners = quiet.owners q.first q.history h.owners;
      } in
      let pass_is : IsPassOf run history' r' = record {
        seen_is = begins_more r.seen q.history (entries_of r.pass es) was.seen_is;
        mine_is = calls_of-mine r.pass es q.history r.mine was.mine_is;
        steps_is = was.steps_is;
        completed_is = was.completed_is;
      } in
      let kept = agreed_kept size words (set views id (view_of q' (Some r'))) now id q' r' seat
      (locked_step size words words views trace now id q q' seat r r' k (subst (λ (e : List Made). LockedStep size words words run e trace now q q' r r') (sym steps_are) record {
        same_pass = refl;
        same_made = refl;
        same_back = refl;
        same_shown = refl;
        reuse_is = k.agrees.reuse_is;
        wide = refl;
        words_are = k.agrees.words_are;
        history_is = history_is;
        others = λ o ne rec. record {
          of_pass = record {
            seen_is = begins_more o.seen q.history (entries_of r.pass es) rec.of_pass.seen_is;
            mine_is = rec.of_pass.mine_is ∙ sym (calls_of-other o.pass r.pass es q.history ne);
            steps_is = rec.of_pass.steps_is;
            completed_is = rec.of_pass.completed_is;
          };
          stored = rec.stored;
          due = rec.due;
          begun = rec.begun;
        };
        elsewhere = λ p ne. (refl, calls_of-other p r.pass es q.history ne, refl);
        traced = traced_noted k.traced (entries_of r.pass es) r' refl refl traced;
        longer = longer;
        seen = ([], refl);
        mine_seen = extended_on r.trace trace now (seen.pass r refl) longer;
        grows = λ shorter g. begins_more shorter q.history (entries_of r.pass es) g;
        mine = record { of_pass = pass_is; stored = owner.2.stored; due = owner.2.due; begun = owner.2.begun };
      })) in (kept.0, record { call = record { agreed = kept.1; in_call = kept.0.traced.in_call r' refl }; follows = extended_on q.trace trace now (seen.queue q refl) longer })

  -- a pass that may come back rests
  rests : MayComeBack size.irps r → IsResting r
  rests may = record {
    outside = may.outside;
    owes_none = λ i. either i (may.owes_none i) (λ out. ap (λ t. owes_in t i) owner.2.of_pass.steps_is ∙ (owes_in-own r.pass i run ∙ (unknown_stands size i out run k.agrees.history_is.is_run).owing_is r.pass));
    holds_none = λ i. either i (may.holds_none i) (λ out. ap (λ t. holds_in t i) owner.2.of_pass.steps_is ∙ (holds_in-own r.pass i run ∙ (unknown_stands size i out run k.agrees.history_is.is_run).holding_is r.pass));
  }
    where
      either : {P : Type 0} (i : IrpLife) → (number i < size.irps → P) → (size.irps ≤ number i → P) → P
      either i known unknown = ⊎_elim known unknown (cases_lt (number i) size.irps)

  -- the joined pass is recorded as back
  back_kept : MayComeBack size.irps r → q.reusing ≡ Nothing → RuleHoldsBy size words (set views id (view_of (with_back r q) None)) (Leaves r.pass ∷ trace) id (with_back r q) None seat
  back_kept may idle =
      let q' = with_back r q in
      let free : has_lock (inside_of r.steps) ≡ false = ap has_lock may.outside in
      let seen = k.each_seen id (view_of q (Some r)) k.queue_is in
      let now : List Tick = Leaves r.pass ∷ trace in
      let more : IsExtendedBy trace now = (Leaves r.pass ∷ [], refl) in
      let in' : (n : PassId) → IsOut q' n → IsOut q n = λ n o. record { from = o.from; to = o.to; not_back = λ i u e. o.not_back (suc i) u e } in
      let flight = agrees_same size words run q (in_flight (Some r)) (in_flight None) (λ i. free_flight (inside_of r.steps) i free) k.agrees in record {
        agrees = record {
          wide = flight.wide;
          words_are = flight.words_are;
          history_is = same_history flight.history_is;
          reuse_is = flight.reuse_is;
          shown = λ i o e. let g = flight.shown i o e in (suc g.0, g.1);
          backs = each_back (IsBack words run q') r q.back record { is_record = owner.2; rests = rests may; made = owner.1.to } (λ i o e. let b = flight.backs i o e in record { is_record = b.is_record; rests = b.rests; made = b.made });
          back_once = once_more r q.back owner.1.not_back flight.back_once;
          few = flight.few;
          nobody = flight.nobody;
        };
        traced = traced_leaves r (nobody_locks may.outside r.pass) k.traced;
        each_seen = all_set (λ i v. HasSeen now v) views id (view_of q' None) (λ i v _ e. seen_more more (k.each_seen i v e))
            (seen_more more (seen_alone q' (seen.queue q refl) (each_back (λ u. IsExtendedBy u.trace trace) r q.back (seen.pass r refl) (seen.backs q refl))));
        queue_is = set_here views id (view_of q' None) (at_below views id (view_of q (Some r)) k.queue_is);
        idle = λ _. idle;
        lock = λ p l. off (sym (nobody_locks may.outside p) ∙ l);
        each_view = all_set (Fits words run q' id seat) views id (view_of q' None)
            (λ i v ne e. let f = k.each_view i v e in record {
              queue_here = f.queue_here;
              pass_here = λ o is. let g = f.pass_here o is in
                  (g.0, record { from = g.1.from; to = g.1.to; not_back = each_back (λ u. u.pass ≢ o.pass) r q.back (λ same. ne (sym g.0 ∙ (ap seat (sym same) ∙ owner.0))) g.1.not_back }, g.2);
              back_here = λ o is. let g = f.back_here o is in (suc g.0, g.1);
              prefix_here = f.prefix_here;
            })
            record { queue_here = λ _. refl; pass_here = λ o is. none_is o is; back_here = λ o is. none_is o is; prefix_here = λ u is. none_is u is };
        present = λ p o. let ne : p ≢ r.pass = λ e. o.not_back 0 r refl (sym e) in
            let was = k.present p (in' p o) in present_else views id (view_of q' None) (seat p) p (apart_from views id (view_of q (Some r)) r (seat p) p k.queue_is refl ne was) was;
      }
    where
      -- what holds of the newest record and of the others holds of each
      each_back : (P : PassRecord → Type 0) (r : PassRecord) (back : List PassRecord) → P r → ((k : ℕ) (o : PassRecord) → get_elem? back k ≡ some o → P o)
          → (k : ℕ) (o : PassRecord) → get_elem? (r ∷ back) k ≡ some o → P o
      each_back P r back here others zero o e = subst P (some-injective r o e) here
      each_back P r back here others (suc k) o e = others k o e

      -- a pass that wasn't back is back once
      once_more : (r : PassRecord) (back : List PassRecord) → ((k : ℕ) (o : PassRecord) → get_elem? back k ≡ some o → o.pass ≢ r.pass) → BackOnce back → BackOnce (r ∷ back)
      once_more r back out once zero zero o s e e' same = refl
      once_more r back out once zero (suc k) o s e e' same = absurd (out k s e' (sym same ∙ ap (λ (u : PassRecord). u.pass) (sym (some-injective r o e))))
      once_more r back out once (suc j) zero o s e e' same = absurd (out j o e (same ∙ ap (λ (u : PassRecord). u.pass) (sym (some-injective r s e'))))
      once_more r back out once (suc j) (suc k) o s e e' same = ap suc (once j k o s e e' same)

  -- what the rule says of the two records after a note
  record Noted (call : Call) (n : Note) : Type 0 where
    left : List Tick
    queue : QueueRecord
    joined : Option PassRecord
    records : view_of queue joined ≡ after_note call n (with_trace queue.trace q) r
    kept : RuleHoldsBy size words (set views id (view_of queue joined)) left id queue joined seat
    agreed : ObservesNote size call q queue (pass_in (view_of queue joined))

  note_kept : (call : Call) (n : Note) → MayNote size.irps call n q r → Noted call n
  note_kept (Insert i f place) (Refused cause) may =
      let es = event.Insert i f place (reply.Refused cause) ∷ [] in
      let kept = noted_kept es record { listed_same = λ h f. refl; used_same = λ h f. refl; lives_same = λ h f. refl; plain = λ f E h t. (tt, t); orderly = λ f h o. (tt, o); given_same = λ f h i. refl; owners = λ f h o. ((λ i n. off n), o) } (note_traced k.traced (Insert i f place) (Refused cause) (sym (sees size words views trace id q r seat k).same ∙ may)) in
      record { left = noted_trace es; queue = with_events r.pass es (with_trace (noted_trace es) q); joined = Some (with_calls es r); records = refl; kept = kept.0; agreed = kept.1 }
  note_kept (PutBack i f place) (Refused cause) may =
      let es = event.PutBack i f place (reply.Refused cause) ∷ [] in
      let kept = noted_kept es record { listed_same = λ h f. refl; used_same = λ h f. refl; lives_same = λ h f. refl; plain = λ f E h t. (tt, t); orderly = λ f h o. (tt, o); given_same = λ f h i. refl; owners = λ f h o. ((λ i n. off n), o) } (note_traced k.traced (PutBack i f place) (Refused cause) (sym (sees size words views trace id q r seat k).same ∙ may)) in
      record { left = noted_trace es; queue = with_events r.pass es (with_trace (noted_trace es) q); joined = Some (with_calls es r); records = refl; kept = kept.0; agreed = kept.1 }
  note_kept (CloseFile f) note.Event may =
      let es = event.CloseFile f ∷ [] in
      let kept = noted_kept es record { listed_same = λ h f. refl; used_same = λ h f. refl; lives_same = λ h f. refl; plain = λ f E h t. (tt, t); orderly = λ f h o. (tt, o); given_same = λ f h i. refl; owners = λ f h o. ((λ i n. off n), o) } (note_traced k.traced (CloseFile f) note.Event (sym (sees size words views trace id q r seat k).same ∙ may)) in
      record { left = noted_trace es; queue = with_events r.pass es (with_trace (noted_trace es) q); joined = Some (with_calls es r); records = refl; kept = kept.0; agreed = kept.1 }
  note_kept (RemoveNext k') n may =
      let es = event.RemoveNext k' None ∷ [] in
      let may' : MayMake (RemoveNext k') End q r = removal_may n may in
      let kept = made_kept size words words views trace id q r seat End 0 es q.reusing k (making size words run q r (sees size words views trace id q r seat k) (RemoveNext k') End may' tt 0 refl) (made_traced size words views trace id q r seat k (RemoveNext k') End 0 may') in
      let now = made_trace r End 0 es trace in
      record { left = now; queue = made_record r es q.reusing now q; joined = Some (with_calls es (with_step End 0 r)); records = refl; kept = kept.0; agreed = kept.1 }
    where
      removal_may : (n : Note) → MayNote size.irps (RemoveNext k') n q r → MayMake (RemoveNext k') End q r
      removal_may note.Event h = h
      removal_may (Refused cause) h = absurd h
  note_kept (Remove i) n may =
      let es = event.Remove i false ∷ [] in
      let may' : MayMake (Remove i) End q r = removal_may n may in
      let kept = made_kept size words words views trace id q r seat End 0 es q.reusing k (making size words run q r (sees size words views trace id q r seat k) (Remove i) End may' tt 0 refl) (made_traced size words views trace id q r seat k (Remove i) End 0 may') in
      let now = made_trace r End 0 es trace in
      record { left = now; queue = made_record r es q.reusing now q; joined = Some (with_calls es (with_step End 0 r)); records = refl; kept = kept.0; agreed = kept.1 }
    where
      removal_may : (n : Note) → MayNote size.irps (Remove i) n q r → MayMake (Remove i) End q r
      removal_may note.Event h = h
      removal_may (Refused cause) h = absurd h
  note_kept (CancelRoutine m) n may =
      let i = present_in (queue_of q) m in
      let es = recorded (CancelRoutine m) (Out i) 0 (queue_of q) in
      let may' : (m.0 < size.irps) × MayMake (CancelRoutine m) (Out i) q r = out_may n may in
      let kept = made_kept size words words views trace id q r seat (Out i) 0 es q.reusing k (making size words run q r (sees size words views trace id q r seat k) (CancelRoutine m) (Out i) may'.1 may'.0 0 refl) (made_traced size words views trace id q r seat k (CancelRoutine m) (Out i) 0 may'.1) in
      let now = made_trace r (Out i) 0 es trace in
      record { left = now; queue = made_record r es q.reusing now q; joined = Some (with_calls es (with_step (Out i) 0 r)); records = refl; kept = kept.0; agreed = kept.1 }
    where
      out_may : (n : Note) → MayNote size.irps (CancelRoutine m) n q r → (m.0 < size.irps) × MayMake (CancelRoutine m) (Out (present_in (queue_of q) m)) q r
      out_may note.Event h = h
      out_may (Refused cause) h = absurd h
  note_kept GiveBack n may = let m = back_may n may in record { left = Leaves r.pass ∷ trace; queue = with_back r q; joined = None; records = refl; kept = back_kept m.0 m.1; agreed = refl }
    where
      back_may : (n : Note) → MayNote size.irps GiveBack n q r → MayComeBack size.irps r × (q.reusing ≡ Nothing)
      back_may note.Event h = h
      back_may (Refused cause) h = absurd h
  note_kept (Reuse m) note.Event may = absurd may
  note_kept (Reuse m) (Refused cause) may = absurd may
  note_kept (Insert i f place) note.Event may = absurd may
  note_kept (PutBack i f place) note.Event may = absurd may
  note_kept (CloseFile f) (Refused cause) may = absurd may

notes : (size : Size) (slots id : ℕ) (q : QueueRecord) (r : PassRecord) (held : List (ℕ × Unit {0})) (call : Call) (n : Note) → MayNote size.irps call n q r
    → Allows (RuleHolds size) slots id (view_of q (Some r), held) 0 (λ n. n) (Notes size call n (step slots 0 0 0 none) (view_of q (Some r), held))
notes size slots id q r held call n may s h _ here _ =
    let (trace, seat, k) = at_queue size s id q (Some r) h here in
    let run = steps_in trace in
    let x = note_kept size s.words s.views trace id q r seat k call n may in
    let v = view_of x.queue x.joined in
    let unread : s.words ≡ set s.words 0 (slice_index s.words 0) = sym (set-get_or s.words 0 0) in (
      v,
      keeps,
      tt,
      (x.left, id, x.queue, x.joined, seat, subst (λ (ws : List ℕ). RuleHoldsBy size ws (set s.views id v) x.left id x.queue x.joined seat) unread x.kept),
      ((λ i. (x.records i, held)), subst (λ (z : View). ObservesNote size call q (queue_in z) (pass_in z)) x.records x.agreed),
    )

pub notes_as : (size : Size) (slots id : ℕ) (m : SeatView) (q : QueueRecord) (r : PassRecord) (call : Call) (n : Note) → m.0 ≡ view_of q (Some r) → (other : Size) → other ≡ size → MayNote size.irps call n q r
    → Allows (RuleHolds size) slots id m 0 (λ n. n) (Notes other call n (step slots 0 0 0 none) m)
notes_as size slots id m q r call n is other sized may = subst (λ (z : View × Size). Allows (RuleHolds size) slots id (z.0, m.1) 0 (λ n. n) (Notes z.1 call n (step slots 0 0 0 none) (z.0, m.1))) (λ k. (sym is k, sym sized k)) (notes size slots id q r m.1 call n may)

-- a note leaves the queue's seat the queue's record
pub note_has : (call : Call) (n : Note) (q : QueueRecord) (r : PassRecord) → HasQueue (after_note call n q r)
note_has (Insert i f place) n q r = (refl, refl, refl)
note_has x n q r = (refl, refl, refl)
