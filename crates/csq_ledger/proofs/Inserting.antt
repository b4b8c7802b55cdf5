-- An insert of an IRP that isn't flagged, and the closing of a file object.
use Rattle.std.proofs.Common.{◌≡◌, ◌||◌, cond, true, false, true≢false, List, [], ◌∷◌, ◌++◌, map, None, Result, Ok, Err, ◌⊎◌, inl, inr, refl, sym, ap, ◌∙◌, subst}
use Rattle.csq_ledger.proofs.Imports.{AddsEvents, IsLegal, end_of, Limits, QueueState, queue_size, has_entry, has_irp, entries_of, AreTrueOf, Event, HistoryEntry, taken, taken_flagged, flagged, present_in, owes_in, same_irp-refl, same_id-refl, FileId, IrpId, IrpLife, Made, IsSingle, IsWholeRun}
use Rattle.csq_list.specs.declared.entry.Place.{Place}
use Rattle.csq_list.specs.declared.refusals.InsertStatus.{InsertStatus}
use Rattle.csq_list.specs.declared.refusals.InsertStatus.TheVariants.{NotHome}
use Rattle.csq_list.specs.declared.refusals.UnknownFile.{UnknownFile}
use Rattle.csq_list.proofs.Causes.{no_cause}
use Rattle.csq_words.specs.Queue.{after_event, has_file, new_entry, plain, plain_listing, refusal}
use Rattle.csq_words.specs.declared.views.Event.TheVariants.{CloseFile, Insert, Mark}
use Rattle.csq_words.specs.declared.views.InsertReply.TheVariants as reply
use Rattle.csq_words.proofs.Entries.{has_entry-placed}
use Rattle.csq_words.proofs.Listings.{plain-put_at}
use Rattle.csq_words.proofs.Named.{same_id-not}
use Rattle.csq_queue.specs.Calls.{Inserts as OpenInserts}
use Rattle.csq_queue.specs.Inserts.{given_in}
use Rattle.csq_queue.specs.declared.tokens.InsertAnswer.{InsertAnswer, TheVariants.{Pending, Cancelled}}
use Rattle.csq_queue.proofs.Crowding.{pending_none}
use Rattle.csq_queue.proofs.Giving.{GivesOut, insert_gives}
use Rattle.csq_checked.specs.Calls.{ClosesKnownFile, MakesCall}
use Rattle.csq_checked.specs.Passes.{CheckedPassState, CheckedState}
use Rattle.csq_ledger.specs.Moves.{Closes, Lists}
use Rattle.csq_ledger.specs.Singles.{IsSameIn, limits_of, list_of, queue_in, spot, spot_of}
use Rattle.csq_ledger.proofs.Whole.{still_whole}
use Rattle.csq_ledger.proofs.Spots.{Old, New, queue_now, limits_now, single_now, leaves, all_same, spot_eq, unlike}

module _ (q : CheckedState) (p : CheckedPassState) (q' : CheckedState) (p' : CheckedPassState) (single : IsSingle q p) where
  abbrev l : Limits
  l = q.queue.limits

  abbrev h : List HistoryEntry
  h = q.queue.queue.history

  abbrev u : QueueState
  u = end_of l.first h

  -- an event that is all that the history gained
  abbrev OneMore : Event → Type 0
  OneMore e = p'.pass.seen ≡ record { pass = p.pass.pass; event = e } ∷ h

  module _ (n : IrpId) (f : FileId) (place : Place) where
    module _ (answer : Result (InsertAnswer IrpLife IrpLife) InsertStatus) (call : MakesCall (OpenInserts n f place answer) q p q' p') where
      gives : GivesOut l (given_in answer) false p.pass p'.pass
      gives = insert_gives l answer (end_of l.first p'.pass.seen) p.pass p'.pass call.call.steps call.call.new

      insert_whole : (events : List Event) → AddsEvents l h p.pass p'.pass events → IsWholeRun l p'.pass.seen p'.pass.steps
      insert_whole events adds = still_whole l single.one h p.pass p'.pass single.number events adds (λ i. gives.owed i ∙ single.run.owes_none i)

      -- what isn't flagged stays so
      module _ (unflagged : flagged p.pass.steps (present_in u n) ≡ false) (events : List Event) (adds : AddsEvents l h p.pass p'.pass events) where
        still_unflagged : flagged p'.pass.steps (present_in u n) ≡ false
        still_unflagged = gives.flags (present_in u n) ∙ unflagged

        untaken : taken p'.pass.steps (present_in u n) ≡ true → ⊥
        untaken t = true≢false (sym (taken_flagged (queue_size l) p'.pass.steps (insert_whole events adds).is_run (present_in u n) t) ∙ still_unflagged)

        truth : AreTrueOf l.first p'.pass.steps (entries_of p.pass.pass events ++ h)
        truth = subst (AreTrueOf l.first p'.pass.steps) adds.ends (insert_whole events adds).true_of

    pub insert_single : (answer : Result (InsertAnswer IrpLife IrpLife) InsertStatus) → MakesCall (OpenInserts n f place answer) q p q' p' → IsSingle q' p'
    insert_single (Ok answer) call = let it = call.call.accepted in single_now q p q' p' single call.after it.0 it.2 (λ i. (gives (Ok answer) call).owed i ∙ single.run.owes_none i)
    insert_single (Err cause) call = single_now q p q' p' single call.after (Insert n f place (reply.Refused cause) ∷ []) call.call.refused (λ i. (gives (Err cause) call).owed i ∙ single.run.owes_none i)

    -- it isn't found cancelled
    pub not_cancelled : flagged p.pass.steps (present_in u n) ≡ false → (token : IrpLife) → MakesCall (OpenInserts n f place (Ok (Cancelled token))) q p q' p' → ⊥
    not_cancelled unflagged token call =
        let it = call.call.accepted in
        let true_of = subst (λ (es : List Event). AreTrueOf l.first p'.pass.steps (entries_of p.pass.pass es ++ h)) it.1.1 (truth (Ok (Cancelled token)) call unflagged it.0 it.2) in
        true≢false (sym true_of.1.0.0 ∙ still_unflagged (Ok (Cancelled token)) call unflagged it.0 it.2)

    pub insert_refused : (cause : InsertStatus) → MakesCall (OpenInserts n f place (Err cause)) q p q' p' → IsSameIn (Old q p q' p' single) (New q p q' p' single)
    insert_refused cause call =
        let g = gives (Err cause) call in
        let event = Insert n f place (reply.Refused cause) in
        all_same q p q' p' single (limits_now q p q' p' single call.after) u (queue_now q p q' p' single call.after u (ap (end_of l.first) call.call.refused.ends)) (λ _. refl) (record {
          entries = λ j _. refl;
          held = λ j _. g.held j;
          removed = λ j _. g.removed j;
          used = λ j _. refl;
          flags = λ j _. g.flags j;
          lives = λ m _. refl;
          files = λ m _. refl;
        }) refl

    module _ (unflagged : flagged p.pass.steps (present_in u n) ≡ false) (name : IrpLife) (call : MakesCall (OpenInserts n f place (Ok (Pending name))) q p q' p') where
      g : GivesOut l None false p.pass p'.pass
      g = gives (Ok (Pending name)) call

      ends : OneMore (Insert n f place reply.Pending)
      ends = let it = call.call.accepted in it.2.ends ∙ ap (λ es. entries_of p.pass.pass es ++ h) (go it.1.1)
        where
          go : (call.call.accepted.0 ≡ Insert n f place reply.Pending ∷ []) ⊎ (call.call.accepted.0 ≡ Mark (present_in u n) ∷ Insert n f place reply.Pending ∷ []) → call.call.accepted.0 ≡ Insert n f place reply.Pending ∷ []
          go (inl e) = e
          go (inr e) =
              let true_of = subst (λ (es : List Event). AreTrueOf l.first p'.pass.steps (entries_of p.pass.pass es ++ h)) e (truth (Ok (Pending name)) call unflagged call.call.accepted.0 call.call.accepted.2) in
              absurd (untaken (Ok (Pending name)) call unflagged call.call.accepted.0 call.call.accepted.2 true_of.0)

      abbrev u' : QueueState
      u' = after_event u (Insert n f place reply.Pending)

      now : queue_in (New q p q' p' single) ≡ u'
      now = queue_now q p q' p' single call.after u' (ap (end_of l.first) ends)

      accepted : refusal l u n f ≡ None
      accepted =
          let legal : IsLegal l (record { pass = p.pass.pass; event = Insert n f place reply.Pending } ∷ h) = subst (IsLegal l) ends (insert_whole (Ok (Pending name)) call call.call.accepted.0 call.call.accepted.2).legal in
          pending_none (refusal l u n f) (has_irp u.flags (present_in u n)) legal.0

      pub insert_lists : Lists n f place (Old q p q' p' single) (New q p q' p' single)
      insert_lists =
          let here = present_in u n in record {
            accepted = accepted;
            was_home = no_cause (plain_listing l u) n f accepted NotHome;
            spot_is = ap (λ (x : QueueState). spot_of x p'.pass.steps n) now ∙ spot_eq _ _
                (has_entry-placed place (new_entry here f) u.entries here ∙ ap (λ b. b || has_entry u.entries here) (same_irp-refl here))
                (g.held here) (g.removed here) (ap (λ b. b || has_irp u.used here) (same_irp-refl here)) (g.flags here) refl (ap (λ b. cond b f (u.file_of n)) (same_id-refl n));
            list = ap (λ (x : QueueState). map plain x.entries) now ∙ plain-put_at place (new_entry here f) u.entries;
            rest = leaves q p q' p' single (limits_now q p q' p' single call.after) u' now (λ _. refl) n (record {
              entries = λ j ne. has_entry-placed place (new_entry here f) u.entries j ∙ ap (λ b. b || has_entry u.entries j) (unlike here j ne);
              held = λ j _. g.held j;
              removed = λ j _. g.removed j;
              used = λ j ne. ap (λ b. b || has_irp u.used j) (unlike here j ne);
              flags = λ j _. g.flags j;
              lives = λ m _. refl;
              files = λ m ne. ap (λ b. cond b f (u.file_of m)) (same_id-not n m (λ e. ne (ap (λ (x : IrpId). x.0) (sym e))));
            });
          }

  -- a file object is closed
  module _ (f : FileId) where
    pub close_single : (answer : Result (Unit {0}) UnknownFile) → ClosesKnownFile f answer q p q' p' → IsSingle q' p'
    close_single (Ok done) call = single_now q p q' p' single call.after (CloseFile f ∷ []) call.call.call (λ i. ap (λ (s : List Made). owes_in s i) call.call.steps.steps ∙ single.run.owes_none i)
    close_single (Err cause) call = subst (λ (x : CheckedState). IsSingle x p') (sym call.kept.0) (subst (λ (x : CheckedPassState). IsSingle q x) (sym call.kept.1) single)

    pub close_moves : (answer : Result (Unit {0}) UnknownFile) → ClosesKnownFile f answer q p q' p' → Closes f answer (Old q p q' p' single) (New q p q' p' single)
    close_moves (Err cause) call =
        let same : New q p q' p' single ≡ Old q p q' p' single = λ k. record { queue = call.kept.0 k; pass = call.kept.1 k } in record {
          known = call.call.known;
          closed = tt;
          spots = λ m. ap (λ s. spot s m) same;
          list = ap list_of same;
          limits = ap limits_of same;
          kept = same;
        }
    close_moves (Ok done) call =
        let now = queue_now q p q' p' single call.after (after_event u (CloseFile f)) (ap (end_of l.first) call.call.call.ends) in
        let steps = call.call.steps.steps in record {
          known = call.call.known;
          closed = λ g. ap (λ (x : QueueState). has_file x.closed g) now;
          spots = λ m. ap (λ (x : QueueState). spot_of x p'.pass.steps m) now ∙ ap (λ (s : List Made). spot_of u s m) steps;
          list = ap (λ (x : QueueState). map plain x.entries) now;
          limits = limits_now q p q' p' single call.after;
          kept = tt;
        }
