-- A put-back of what a removal gave to the pass.
use Rattle.std.proofs.Common.{◌<◌, Option, ◌≡◌, ◌&&◌, ◌||◌, not, cond, Bool, true, false, true≢false, List, [], ◌∷◌, ◌++◌, map, Some, None, Result, Ok, Err, ◌⊎◌, inl, inr, refl, sym, ap, ◌∙◌, subst, arith}
use Rattle.csq_ledger.proofs.Imports.{has_irp, IsLegal, AddsEvents, end_of, Limits, QueueState, queue_size, has_entry, has_marked, entries_of, HistoryEntry, flagged, present_in, owes_in, holds_in, removed_in, number, same_irp, same_irp-refl, same_id-refl, run_last, run_less, IsRun, FileId, IrpLife, Made, IsSingle, IsWholeRun}
use Rattle.irp_core.specs.Programs.{Act}
use Rattle.irp_core.specs.declared.step.Kind.TheVariants.{Disarm, Rearm, Test}
use Rattle.csq_list.specs.declared.entry.Place.{Place}
use Rattle.csq_list.specs.declared.refusals.InsertStatus.{InsertStatus}
use Rattle.csq_list.specs.declared.refusals.InsertStatus.TheVariants as list
use Rattle.csq_queue.proofs.Crowding.{pending_none, cancelled_none}
use Rattle.std.specs.Prelude.{nat_le}
use Rattle.csq_words.specs.Queue.{after_event, back_refusal, plain_listing, new_entry, plain}
use Rattle.csq_words.specs.declared.views.Event.TheVariants.{FlagSeen, Mark, PutBack}
use Rattle.csq_words.specs.declared.views.InsertReply.TheVariants as reply
use Rattle.csq_words.proofs.Entries.{has_entry-placed}
use Rattle.csq_words.proofs.Listings.{plain-put_at}
use Rattle.csq_words.proofs.Marking.{one_marked}
use Rattle.csq_words.proofs.Named.{irp_eq}
use Rattle.csq_words.proofs.Facts.{bit_false, bit_true}
use Rattle.std.proofs.lemmas.Bool.{lt-leb, lt-ltb}
use Rattle.csq_queue.specs.Calls.{PutsBack as OpenPutsBack}
use Rattle.csq_queue.specs.Owned.{HoldsRemoved}
use Rattle.csq_queue.specs.Steps.{made_by}
use Rattle.csq_queue.specs.declared.tokens.InsertAnswer.{InsertAnswer, TheVariants.{Pending, Cancelled}}
use Rattle.csq_checked.specs.Calls.{AreKept, MakesCall, PutsBackRemoved}
use Rattle.csq_checked.specs.Causes.{is_of_place}
use Rattle.csq_checked.specs.Passes.{CheckedPassState, CheckedState}
use Rattle.csq_checked.specs.declared.calls.PutBackRefused.{PutBackRefused}
use Rattle.csq_checked.specs.declared.calls.PutBackRefused.TheVariants as back
use Rattle.csq_ledger.specs.Moves.{closed_or_crowded, back_cause, FindsCancelled, PutsBack, Relists}
use Rattle.csq_ledger.specs.Singles.{IsSameIn, is_closed, limits_of, list_of, queue_in, spot, spot_of}
use Rattle.csq_ledger.proofs.Whole.{held_present, still_whole, unmarked}
use Rattle.csq_ledger.proofs.Spots.{Old, New, queue_now, limits_now, single_now, leaves, all_same, spot_eq, unlike}

module _ (q : CheckedState) (p : CheckedPassState) (q' : CheckedState) (p' : CheckedPassState) (single : IsSingle q p) (i : IrpLife) (place : Place) where
  abbrev l : Limits
  l = q.queue.limits

  abbrev h : List HistoryEntry
  h = q.queue.queue.history

  abbrev u : QueueState
  u = end_of l.first h

  abbrev E : List Made
  E = p.pass.steps

  abbrev f : FileId
  f = u.file_of i.irp

  abbrev pass_steps : List Act → List Made
  pass_steps acts = made_by p.pass.pass acts ++ E

  -- no routine was taken: the steps owe what they owed
  owes_pending : (b : Bool) → p'.pass.steps ≡ pass_steps (cond b ((Disarm i, 0) ∷ (Test i, 1) ∷ (Rearm i, 0) ∷ []) ((Test i, 0) ∷ (Rearm i, 0) ∷ [])) → (j : IrpLife) → owes_in p'.pass.steps j ≡ false
  owes_pending true e j = ap (λ s. owes_in s j) e ∙ single.run.owes_none j
  owes_pending false e j = ap (λ s. owes_in s j) e ∙ single.run.owes_none j

  owes_cancelled : p'.pass.steps ≡ pass_steps ((Disarm i, 1) ∷ (Test i, 1) ∷ (Rearm i, 0) ∷ []) → (j : IrpLife) → owes_in p'.pass.steps j ≡ false
  owes_cancelled e j = ap (λ s. owes_in s j) e ∙ single.run.owes_none j

  module _ (removed : HoldsRemoved l.irps p.pass i) where
    is_present : i ≡ present_in u i.irp
    is_present = irp_eq i (present_in u i.irp) refl (held_present l single.one h E single.run i removed.held)

    module _ (call : MakesCall (OpenPutsBack i place (Ok (Pending i))) q p q' p') where
      adds : AddsEvents l h p.pass p'.pass call.call.accepted.0
      adds = call.call.accepted.2

      owes_none : (j : IrpLife) → owes_in p'.pass.steps j ≡ false
      owes_none = owes_pending (has_marked (end_of l.first p'.pass.seen).entries i) call.call.steps.steps

      whole : IsWholeRun l p'.pass.seen p'.pass.steps
      whole = still_whole l single.one h p.pass p'.pass single.number call.call.accepted.0 adds owes_none

      pub pending_single : IsSingle q' p'
      pending_single = single_now q p q' p' single call.after call.call.accepted.0 adds owes_none

      none_marked : has_marked (end_of l.first p'.pass.seen).entries i ≡ false
      none_marked = unmarked l single.one p'.pass.seen p'.pass.steps whole i

      ends : p'.pass.seen ≡ record { pass = p.pass.pass; event = PutBack i f place reply.Pending } ∷ h
      ends = adds.ends ∙ ap (λ es. entries_of p.pass.pass es ++ h) (go call.call.accepted.1.1)
        where
          go : (call.call.accepted.0 ≡ PutBack i f place reply.Pending ∷ []) ⊎ (call.call.accepted.0 ≡ Mark i ∷ PutBack i f place reply.Pending ∷ []) → call.call.accepted.0 ≡ PutBack i f place reply.Pending ∷ []
          go (inl e) = e
          go (inr e) =
              let seen : p'.pass.seen ≡ entries_of p.pass.pass (Mark i ∷ PutBack i f place reply.Pending ∷ []) ++ h = adds.ends ∙ ap (λ es. entries_of p.pass.pass es ++ h) e in
              let here = has_entry-placed place (new_entry i f) u.entries i ∙ ap (λ b. b || has_entry u.entries i) (same_irp-refl i) in
              absurd (true≢false (sym (one_marked i _ here) ∙ (ap (λ (x : List HistoryEntry). has_marked (end_of l.first x).entries i) (sym seen) ∙ none_marked)))

      pub pending_accepted : back_refusal l u i f ≡ None
      pending_accepted =
          let legal : IsLegal l (record { pass = p.pass.pass; event = PutBack i f place reply.Pending } ∷ h) = subst (IsLegal l) ends whole.legal in
          pending_none (back_refusal l u i f) (has_irp u.flags i) legal.0.2

      steps_are : p'.pass.steps ≡ pass_steps ((Test i, 0) ∷ (Rearm i, 0) ∷ [])
      steps_are = call.call.steps.steps ∙ ap (λ b. pass_steps (cond b ((Disarm i, 0) ∷ (Test i, 1) ∷ (Rearm i, 0) ∷ []) ((Test i, 0) ∷ (Rearm i, 0) ∷ []))) none_marked

      abbrev u' : QueueState
      u' = after_event u (PutBack i f place reply.Pending)

      now : queue_in (New q p q' p' single) ≡ u'
      now = queue_now q p q' p' single call.after u' (ap (end_of l.first) ends)

      -- the Test found the flag clear
      clear : flagged E i ≡ false
      clear =
          let run : IsRun (queue_size l) (pass_steps ((Test i, 0) ∷ (Rearm i, 0) ∷ [])) = subst (IsRun (queue_size l)) steps_are whole.is_run in
          let found = (run_last (queue_size l) (record { pass = p.pass.pass; kind = Test i; found = 0 }) (pass_steps ((Rearm i, 0) ∷ [])) run).found in
          bit_false (flagged E i) (sym found)

      pub relists : Relists i place (Old q p q' p' single) (New q p q' p' single)
      relists =
          let here = present_in u i.irp in
          let same = ap (same_irp i) (sym is_present) ∙ same_irp-refl i in record {
            was_unflagged = ap (flagged E) (sym is_present) ∙ clear;
            spot_is = ap (λ (x : QueueState). spot_of x p'.pass.steps i.irp) now ∙ (ap (λ (s : List Made). spot_of u' s i.irp) steps_are ∙ spot_eq _ _
                (has_entry-placed place (new_entry i f) u.entries here ∙ ap (λ b. b || has_entry u.entries here) same)
                (ap (λ b. not b && holds_in E here) same)
                (ap (λ b. not b && removed_in E here) same)
                refl refl refl refl);
            list = ap (λ (x : QueueState). map plain x.entries) now ∙ plain-put_at place (new_entry i f) u.entries;
            rest = leaves q p q' p' single (limits_now q p q' p' single call.after) u' now (λ _. refl) i.irp (record {
              entries = λ j ne. has_entry-placed place (new_entry i f) u.entries j ∙ ap (λ b. b || has_entry u.entries j) (unlike i j ne);
              held = λ j ne. ap (λ s. holds_in s j) steps_are ∙ ap (λ b. not b && holds_in E j) (unlike i j ne);
              removed = λ j ne. ap (λ s. removed_in s j) steps_are ∙ ap (λ b. not b && removed_in E j) (unlike i j ne);
              used = λ j _. refl;
              flags = λ j _. ap (λ s. flagged s j) steps_are;
              lives = λ m _. refl;
              files = λ m _. refl;
            });
          }

    module _ (call : MakesCall (OpenPutsBack i place (Ok (Cancelled i))) q p q' p') where
      abbrev acts : List Act
      acts = (Disarm i, 1) ∷ (Test i, 1) ∷ (Rearm i, 0) ∷ []

      seen_steps : p'.pass.steps ≡ pass_steps acts
      seen_steps = call.call.steps.steps

      pub cancelled_single : IsSingle q' p'
      cancelled_single = single_now q p q' p' single call.after call.call.accepted.0 call.call.accepted.2 (owes_cancelled seen_steps)

      abbrev v : QueueState
      v = record u { flags = i ∷ u.flags }

      seen_now : queue_in (New q p q' p' single) ≡ v
      seen_now = queue_now q p q' p' single call.after v (ap (end_of l.first) (call.call.accepted.2.ends ∙ ap (λ es. entries_of p.pass.pass es ++ h) call.call.accepted.1.1))

      pub cancelled_accepted : back_refusal l u i f ≡ None
      cancelled_accepted =
          let seen : p'.pass.seen ≡ entries_of p.pass.pass (PutBack i f place reply.Cancelled ∷ FlagSeen i ∷ []) ++ h = call.call.accepted.2.ends ∙ ap (λ es. entries_of p.pass.pass es ++ h) call.call.accepted.1.1 in
          let legal : IsLegal l (entries_of p.pass.pass (PutBack i f place reply.Cancelled ∷ FlagSeen i ∷ []) ++ h) = subst (IsLegal l) seen call.call.accepted.2.legal in
          cancelled_none (back_refusal l u i f) (has_irp (i ∷ u.flags) i) legal.0.2

      -- the Test found the flag set
      set : flagged E i ≡ true
      set =
          let whole = still_whole l single.one h p.pass p'.pass single.number call.call.accepted.0 call.call.accepted.2 (owes_cancelled seen_steps) in
          let run : IsRun (queue_size l) (pass_steps acts) = subst (IsRun (queue_size l)) seen_steps whole.is_run in
          let before = run_less (queue_size l) (record { pass = p.pass.pass; kind = Disarm i; found = 1 }) (pass_steps ((Test i, 1) ∷ (Rearm i, 0) ∷ [])) run in
          let found = (run_last (queue_size l) (record { pass = p.pass.pass; kind = Test i; found = 1 }) (pass_steps ((Rearm i, 0) ∷ [])) before).found in
          bit_true (flagged E i) 1 found (omega arith)

      pub finds_cancelled : FindsCancelled i (Old q p q' p' single) (New q p q' p' single)
      finds_cancelled =
          let here = present_in u i.irp in
          let same = ap (same_irp i) (sym is_present) ∙ same_irp-refl i in
          let held = ap (holds_in E) (sym is_present) ∙ removed.held in record {
            was_flagged = ap (flagged E) (sym is_present) ∙ set;
            spot_is = ap (λ (x : QueueState). spot_of x p'.pass.steps i.irp) seen_now ∙ (ap (λ (s : List Made). spot_of v s i.irp) seen_steps ∙ spot_eq _ _
                refl
                (ap (λ b. ((b && true) || false) || (not b && holds_in E here)) same ∙ sym held)
                (ap (λ b. ((b && true) && false) || (not b && removed_in E here)) same)
                refl refl refl refl);
            list = ap (λ (x : QueueState). map plain x.entries) seen_now;
            rest = leaves q p q' p' single (limits_now q p q' p' single call.after) v seen_now (λ _. refl) i.irp (record {
              entries = λ j _. refl;
              held = λ j ne. ap (λ s. holds_in s j) seen_steps ∙ ap (λ b. ((b && true) || false) || (not b && holds_in E j)) (unlike i j ne);
              removed = λ j ne. ap (λ s. removed_in s j) seen_steps ∙ ap (λ b. ((b && true) && false) || (not b && removed_in E j)) (unlike i j ne);
              used = λ j _. refl;
              flags = λ j _. ap (λ s. flagged s j) seen_steps;
              lives = λ m _. refl;
              files = λ m _. refl;
            });
          }

  -- the queue refused it
  module _ (cause : InsertStatus) (call : MakesCall (OpenPutsBack i place (Err cause)) q p q' p') where
    pub refused_single : IsSingle q' p'
    refused_single = single_now q p q' p' single call.after (PutBack i f place (reply.Refused cause) ∷ []) call.call.refused (λ j. ap (λ s. owes_in s j) call.call.steps.steps ∙ single.run.owes_none j)

    pub refused_same : IsSameIn (Old q p q' p' single) (New q p q' p' single)
    refused_same =
        let steps : p'.pass.steps ≡ E = call.call.steps.steps in
        all_same q p q' p' single (limits_now q p q' p' single call.after) u (queue_now q p q' p' single call.after u (ap (end_of l.first) call.call.refused.ends)) (λ _. refl) (record {
          entries = λ j _. refl;
          held = λ j _. ap (λ s. holds_in s j) steps;
          removed = λ j _. ap (λ s. removed_in s j) steps;
          used = λ j _. refl;
          flags = λ j _. ap (λ s. flagged s j) steps;
          lives = λ m _. refl;
          files = λ m _. refl;
        }) refl

  abbrev Asked : Result (InsertAnswer IrpLife IrpLife) InsertStatus → Type 0
  Asked a = MakesCall (OpenPutsBack i place a) q p q' p'

  pub back_single : (answer : Result (InsertAnswer IrpLife IrpLife) PutBackRefused) → PutsBackRemoved i place answer q p q' p' → IsSingle q' p'
  back_single (Ok (Pending context)) r = let is = r.call.call.accepted.1.0 in pending_single r.held (subst (λ (t : IrpLife). Asked (Ok (Pending t))) is r.call)
  back_single (Ok (Cancelled token)) r = let is = r.call.call.accepted.1.0 in cancelled_single r.held (subst (λ (t : IrpLife). Asked (Ok (Cancelled t))) is r.call)
  back_single (Err (back.ByQueue cause)) r = refused_single cause r.call
  back_single (Err other) r = subst (λ (x : CheckedState). IsSingle x p') (sym (r.kept refl).0) (subst (λ (x : CheckedPassState). IsSingle q x) (sym (r.kept refl).1) single)

  kept_same : AreKept q p q' p' → IsSameIn (Old q p q' p' single) (New q p q' p' single)
  kept_same kept =
      let same : New q p q' p' single ≡ Old q p q' p' single = λ k. record { queue = kept.0 k; pass = kept.1 k } in
      record { spots = λ m. ap (λ s. spot s m) same; closed = λ g. ap (λ s. is_closed s g) same; limits = ap limits_of same; list = ap list_of same }

  -- of what the pass holds, the queue's cause is that of its list
  module _ (known : number i < l.irps) (held : holds_in E i ≡ true) where
    here : i ≡ present_in u i.irp
    here = irp_eq i (present_in u i.irp) refl (held_present l single.one h E single.run i held)

    by_place : (uf : Bool) (rest o : Option InsertStatus) → cond uf (Some list.UnknownFile) rest ≡ o → (o ≡ Some list.UnknownFile → ⊥) → rest ≡ o
    by_place false rest o e not_file = e
    by_place true rest o e not_file = absurd (not_file (sym e))

    by_list : (o : Option InsertStatus) → back_refusal l u i f ≡ o → (o ≡ Some list.UnknownFile → ⊥) → closed_or_crowded (plain_listing l u) f ≡ o
    by_list o e not_file =
        let irp : nat_le l.irps i.irp.0 ≡ false = lt-leb l.irps i.irp.0 known in
        by_place (nat_le l.files f.0) (closed_or_crowded (plain_listing l u) f) o (rw (irp, same_id-refl i.irp) at e) not_file

    removed_is : removed_in E i ≡ removed_in E (present_in u i.irp)
    removed_is = ap (removed_in E) here

    other_cause : (other : PutBackRefused) (b : Bool) (c : Option InsertStatus) → Some other ≡ cond b None (Some back.NotRemoved) → Some other ≡ back_cause b c
    other_cause other true c e = absurd (cc)
    other_cause other false c e = e

    pub back_moves : (answer : Result (InsertAnswer IrpLife IrpLife) PutBackRefused) → PutsBackRemoved i place answer q p q' p' → PutsBack i place answer (Old q p q' p' single) (New q p q' p' single)
    back_moves (Ok (Pending context)) r =
        let call = subst (λ (t : IrpLife). Asked (Ok (Pending t))) r.call.call.accepted.1.0 r.call in record {
          cause = rw (sym removed_is ∙ r.held.removed, by_list None (pending_accepted r.held call) (λ e. absurd cc)) refl;
          returned = relists r.held call;
          kept = tt;
        }
    back_moves (Ok (Cancelled token)) r =
        let call = subst (λ (t : IrpLife). Asked (Ok (Cancelled t))) r.call.call.accepted.1.0 r.call in record {
          cause = rw (sym removed_is ∙ r.held.removed, by_list None (cancelled_accepted r.held call) (λ e. absurd cc)) refl;
          returned = finds_cancelled r.held call;
          kept = tt;
        }
    back_moves (Err (back.ByQueue cause)) r = record {
      cause = rw (sym removed_is ∙ r.held.removed, by_list (Some cause) r.call.call.cause (λ e. not_unknown cause (r.of_place cause refl) e)) refl;
      returned = tt;
      kept = refused_same cause r.call;
    }
      where
        not_unknown : (cause : InsertStatus) → is_of_place cause ≡ true → Some cause ≡ Some list.UnknownFile → ⊥
        not_unknown cause of_place e = let is : cause ≡ list.UnknownFile = cc in true≢false (sym of_place ∙ ap is_of_place is)
    back_moves (Err other) r = record {
      cause = other_cause other (removed_in E (present_in u i.irp)) (closed_or_crowded (plain_listing l u) f) (r.cause refl ∙ rw (lt-ltb (number i) l.irps known, held, removed_is) refl);
      returned = tt;
      kept = kept_same (r.kept refl);
    }
