-- A cancel of what the pass holds, and of what is listed.
use Rattle.std.proofs.Common.{◌≡◌, ℕ, ◌<◌, ◌&&◌, ◌||◌, not, cond, Bool, true, false, true≢false, List, [], ◌∷◌, map, Option, Some, None, Result, Ok, Err, refl, sym, ap, ◌∙◌, subst, arith}
use Rattle.csq_ledger.proofs.Imports.{end_of, Limits, QueueState, queue_size, has_entry, HistoryEntry, PassRecord, flagged, present_in, present_life, owes_in, holds_in, number, life_of, steps_in, same_irp, same_irp-refl, run_last, run_less, IsRun, Size, armed, own, IrpLife, PassId, Made, IsSingle, IsWholeRun}
use Rattle.std.proofs.Math.Bool.{and-false}
use Rattle.std.specs.Result.{is_err}
use Rattle.std.proofs.lemmas.Bool.{lt-ltb}
use Rattle.irp_core.specs.Words.{bit}
use Rattle.irp_core.specs.declared.step.Kind.TheVariants.{Flag, Out as StepOut, Take}
use Rattle.csq_words.specs.Queue.{Queued, after_event, has_file, marking, plain, without}
use Rattle.csq_words.specs.declared.views.Event.TheVariants.{Out}
use Rattle.csq_words.specs.Calls.{due_mark}
use Rattle.csq_words.proofs.Entries.{has_entry-marking, has_entry-without}
use Rattle.csq_words.proofs.Listings.{plain-without}
use Rattle.csq_words.proofs.Lives.{legal_lives}
use Rattle.csq_words.proofs.Marking.{due_marks}
use Rattle.csq_words.proofs.Truths.{truths_stay}
use Rattle.csq_queue.specs.Calls.{MarksCancel}
use Rattle.csq_queue.specs.Effects.{count_given}
use Rattle.csq_queue.specs.Opens.{IsQueueOn}
use Rattle.csq_words.specs.Seats.{WordsState}
use Rattle.csq_queue.specs.declared.refusals.CancelRefused.{CancelRefused, TheVariants.{UnknownIrp, Stale}}
use Rattle.csq_checked.specs.Calls.{MakesOwnCall, RunsOwedRoutine}
use Rattle.csq_checked.specs.Passes.{CheckedPassState, CheckedState}
use Rattle.csq_checked.specs.declared.unlocked.RoutineRefused.{RoutineRefused}
use Rattle.csq_ledger.specs.Moves.{Flags, TakesOut}
use Rattle.csq_ledger.specs.Singles.{IsKnown, queue_in, spot, spot_of}
use Rattle.csq_ledger.proofs.Whole.{Sole, entry_armed, held_away, own_all}
use Rattle.csq_ledger.proofs.Spots.{queue_after, limits_after, single_after, spot_eq, unlike}
use Rattle.csq_ledger.proofs.Finishing.{run_own, single_own}

-- a mark goes as its entry leaves the list
plain_without_marking : (i : IrpLife) (es : List Queued) → map plain (without i (marking i es)) ≡ map plain (without i es)
plain_without_marking i [] = refl
plain_without_marking i (e ∷ es) = go (same_irp e.irp i) e.marked (plain_without_marking i es)
  where
    go : (b c : Bool) → map plain (without i (marking i es)) ≡ map plain (without i es)
        → map plain (cond (not b) (record e { marked = b || c } ∷ without i (marking i es)) (without i (marking i es))) ≡ map plain (cond (not b) (e ∷ without i es) (without i es))
    go true c rest = rest
    go false c rest = ap (λ es. plain e ∷ es) rest

module _ (q : CheckedState) (p : CheckedPassState) (single : IsSingle q p) (i : IrpLife) (known : IsKnown i (record { queue = q; pass = p })) (p' : CheckedPassState) where
  abbrev l : Limits
  l = q.queue.limits

  abbrev h : List HistoryEntry
  h = q.queue.queue.history

  abbrev u : QueueState
  u = end_of l.first h

  abbrev E : List Made
  E = p.pass.steps

  -- a cancel of a present life isn't refused
  pub not_refused : (cause : CancelRefused) → MakesOwnCall (MarksCancel i.irp i.life (Err cause)) p p' → ⊥
  not_refused UnknownIrp call =
      let out = call.call.refused.0 in
      let inside = subst (λ (s : Size). number i < s.irps) single.on.size known.in_range in
      absurd (omega arith)
  not_refused (Stale life) call =
      let found = call.call.refused.2 in
      let step = call.call.refused.1 in
      let mine : p'.pass.pass ≡ Sole = ap (λ (r : PassRecord). r.pass) step ∙ single.number in
      let one = ap (λ (s : Size). s.passes) (sym single.on.size) ∙ single.one in
      let run : steps_in p'.pass.trace ≡ E = sym (own_all p.words.size one (steps_in p'.pass.trace) found.sees.is_run) ∙ (ap (λ (x : PassId). own x (steps_in p'.pass.trace)) (sym mine) ∙ (sym found.sees.steps_are ∙ ap (λ (r : PassRecord). r.steps) step)) in
      let first : p.words.size.first ≡ l.first = ap (λ (s : Size). s.first) (sym single.on.size) in
      let now : life.0 ≡ present_life l.first E i.irp = found.life_is ∙ (ap (λ (n : ℕ). present_life n (steps_in p'.pass.trace) i.irp) first ∙ ap (λ s. present_life l.first s i.irp) run) in
      found.other (ap life_of known.is_present ∙ (single.run.lives_are i.irp ∙ sym now))

  module _ (claim : Option IrpLife) (call : MakesOwnCall (MarksCancel i.irp i.life (Ok claim)) p p') where
    abbrev found : ℕ
    found = call.call.step.0

    abbrev after : ℕ → List Made
    after took = record { pass = p.pass.pass; kind = Take i; found = took } ∷ record { pass = p.pass.pass; kind = Flag i; found = found } ∷ E

    steps_are : p'.pass.steps ≡ after (count_given claim)
    steps_are = ap (λ (r : PassRecord). r.steps) call.call.step.1

    same_pass : p'.pass.pass ≡ p.pass.pass
    same_pass = ap (λ (r : PassRecord). r.pass) call.call.step.1

    same_seen : p'.pass.seen ≡ p.pass.seen
    same_seen = ap (λ (r : PassRecord). r.seen) call.call.step.1

    run : IsRun (queue_size l) (after (count_given claim))
    run = subst (IsRun (queue_size l)) steps_are (run_own q p single p' call.words same_pass same_seen call.call.step.2.is_run call.call.step.2.steps_are)

    -- the Take found the routine if it was set
    took : count_given claim ≡ bit (armed E i)
    took = (run_last (queue_size l) (record { pass = p.pass.pass; kind = Take i; found = count_given claim }) (record { pass = p.pass.pass; kind = Flag i; found = found } ∷ E) run).found

    module _ (held : holds_in E i ≡ true) where
      none : count_given claim ≡ 0
      none = took ∙ ap bit (held_away l single.one h E single.run i held).0

      now_steps : p'.pass.steps ≡ after 0
      now_steps = steps_are ∙ ap after none

      still : IsWholeRun l h (after 0)
      still =
          let r = subst (λ n. IsRun (queue_size l) (after n)) none run in
          let flag : Made = record { pass = p.pass.pass; kind = Flag i; found = found } in
          let before = run_less (queue_size l) (record { pass = p.pass.pass; kind = Take i; found = 0 }) (flag ∷ E) r in record {
            is_run = r;
            outside = refl;
            owes_none = λ j. ap (λ b. b || owes_in E j) (and-false (same_irp i j)) ∙ single.run.owes_none j;
            legal = single.run.legal;
            true_of = truths_stay (queue_size l) (record { pass = p.pass.pass; kind = Take i; found = 0 }) (flag ∷ E) r l.first h (truths_stay (queue_size l) flag E before l.first h single.run.true_of);
            listed_is = single.run.listed_is;
            used_is = single.run.used_is;
            lives_are = single.run.lives_are;
          }

      pub flag_single : IsSingle q p'
      flag_single = single_own q p single p' call.words same_pass same_seen (subst (IsWholeRun l h) (sym now_steps) still)

      pub flag_moves : Flags i (record { queue = q; pass = p }) (record { queue = q; pass = p' })
      flag_moves =
          let here = present_in u i.irp in
          let same = ap (same_irp i) (sym known.is_present) ∙ same_irp-refl i in record {
            spot_is = ap (λ (s : List Made). spot_of u s i.irp) now_steps ∙ spot_eq _ _ refl refl refl refl (ap (λ b. b || flagged E here) same) refl refl;
            list = refl;
            rest = record {
              others = λ m ne. ap (λ (s : List Made). spot_of u s m) now_steps ∙ spot_eq _ _ refl refl refl refl (ap (λ b. b || flagged E (present_in u m)) (unlike i (present_in u m) ne)) refl refl;
              closed = λ f. refl;
              limits = refl;
            };
          }

    module _ (listed : has_entry u.entries i ≡ true) where
      one : count_given claim ≡ 1
      one = took ∙ ap bit (entry_armed l single.one h E single.run i listed)

      claimed_steps : p'.pass.steps ≡ after 1
      claimed_steps = steps_are ∙ ap after one

      owes_it : owes_in p'.pass.steps i ≡ true
      owes_it = ap (λ s. owes_in s i) claimed_steps ∙ ap (λ b. (b && true) || owes_in E i) (same_irp-refl i)

      module _ (q' : CheckedState) (p'' : CheckedPassState) where
        -- so its cancel routine isn't refused
        pub routine_runs : (refused : RoutineRefused) → RunsOwedRoutine i (Err refused) q p' q' p'' → ⊥
        routine_runs refused routine =
            let none : Some refused ≡ None = routine.cause ∙ rw (lt-ltb (number i) l.irps known.in_range, owes_it) refl in
            absurd cc

        module _ (routine : RunsOwedRoutine i (Ok tt) q p' q' p'') where
          abbrev F : List Made
          F = record { pass = p'.pass.pass; kind = StepOut i; found = 0 } ∷ after 1

          out_steps : p''.pass.steps ≡ F
          out_steps = ap (λ (r : PassRecord). r.steps) routine.call.call.step ∙ ap (λ (s : List Made). record { pass = p'.pass.pass; kind = StepOut i; found = 0 } ∷ s) claimed_steps

          owes_nothing : (j : IrpLife) → owes_in p''.pass.steps j ≡ false
          owes_nothing j = ap (λ s. owes_in s j) out_steps ∙ (ap (λ b. not (same_irp i j) && ((same_irp i j && true) || b)) (single.run.owes_none j) ∙ both (same_irp i j))
            where
              both : (b : Bool) → (not b && ((b && true) || false)) ≡ false
              both true = refl
              both false = refl

          pub out_single : IsSingle q' p''
          out_single = single_after q p' q' p'' routine.call.after (subst (λ (w : WordsState). IsQueueOn w q.queue) (sym call.words) single.on) single.one (same_pass ∙ single.number) (Out i ∷ due_mark i u) routine.call.call.call owes_nothing

          abbrev u' : QueueState
          u' = record u { entries = without i (marking i u.entries) }

          now : queue_in (record { queue = q'; pass = p'' }) ≡ u'
          now = queue_after q p' q' p'' routine.call.after u' (ap (end_of l.first) routine.call.call.call.ends ∙ ap (λ (x : QueueState). after_event x (Out i)) (due_marks p'.pass.pass i l.first h))

          entries_now : (j : IrpLife) → has_entry u'.entries j ≡ (not (same_irp i j) && has_entry u.entries j)
          entries_now j = has_entry-without i (marking i u.entries) j ∙ ap (λ b. not (same_irp i j) && b) (has_entry-marking i u.entries j)

          pub out_moves : TakesOut i (record { queue = q; pass = p }) (record { queue = q'; pass = p'' })
          out_moves =
              let here = present_in u i.irp in
              let same = ap (same_irp i) (sym known.is_present) ∙ same_irp-refl i in record {
                spot_is = ap (λ (x : QueueState). spot_of x p''.pass.steps i.irp) now ∙ (ap (λ (s : List Made). spot_of u' s i.irp) out_steps ∙ spot_eq _ _
                    (entries_now here ∙ ap (λ b. not b && has_entry u.entries here) same)
                    (ap (λ b. b || holds_in E here) same) refl refl (ap (λ b. b || flagged E here) same) refl refl);
                list = ap (λ (x : QueueState). map plain x.entries) now ∙ (plain_without_marking i u.entries ∙ plain-without u.lives i (ap life_of known.is_present) u.entries (legal_lives l h single.run.legal).entries);
                rest = record {
                  others = λ m ne. ap (λ (x : QueueState). spot_of x p''.pass.steps m) now ∙ (ap (λ (s : List Made). spot_of u' s m) out_steps ∙ spot_eq _ _
                      (entries_now (present_in u m) ∙ ap (λ b. not b && has_entry u.entries (present_in u m)) (unlike i (present_in u m) ne))
                      (ap (λ b. b || holds_in E (present_in u m)) (unlike i (present_in u m) ne)) refl refl (ap (λ b. b || flagged E (present_in u m)) (unlike i (present_in u m) ne)) refl refl);
                  closed = λ f. ap (λ (x : QueueState). has_file x.closed f) now;
                  limits = limits_after q p' q' p'' routine.call.after;
                };
              }

-- by what the two calls returned
module _ (q : CheckedState) (p : CheckedPassState) (single : IsSingle q p) (i : IrpLife) (known : IsKnown i (record { queue = q; pass = p })) (p' : CheckedPassState) (marked : Result (Option IrpLife) CancelRefused) (mark : MakesOwnCall (MarksCancel i.irp i.life marked) p p') where
  pub mark_ok : is_err marked ≡ true → ⊥
  mark_ok = go marked mark
    where
      go : (answer : Result (Option IrpLife) CancelRefused) → MakesOwnCall (MarksCancel i.irp i.life answer) p p' → is_err answer ≡ true → ⊥
      go (Ok claim) call e = true≢false (sym e)
      go (Err cause) call e = not_refused q p single i known p' cause call

  module _ (held : (spot (record { queue = q; pass = p }) i.irp).is_held ≡ true) where
    here_held : holds_in p.pass.steps i ≡ true
    here_held = ap (holds_in p.pass.steps) known.is_present ∙ held

    pub flags_single : IsSingle q p'
    flags_single = go marked mark
      where
        go : (answer : Result (Option IrpLife) CancelRefused) → MakesOwnCall (MarksCancel i.irp i.life answer) p p' → IsSingle q p'
        go (Ok claim) call = flag_single q p single i known p' claim call here_held
        go (Err cause) call = absurd (not_refused q p single i known p' cause call)

    pub flags_it : Flags i (record { queue = q; pass = p }) (record { queue = q; pass = p' })
    flags_it = go marked mark
      where
        go : (answer : Result (Option IrpLife) CancelRefused) → MakesOwnCall (MarksCancel i.irp i.life answer) p p' → Flags i (record { queue = q; pass = p }) (record { queue = q; pass = p' })
        go (Ok claim) call = flag_moves q p single i known p' claim call here_held
        go (Err cause) call = absurd (not_refused q p single i known p' cause call)

  module _ (listed : (spot (record { queue = q; pass = p }) i.irp).is_listed ≡ true) (q' : CheckedState) (p'' : CheckedPassState) (ran : Result (Unit {0}) RoutineRefused) (routine : RunsOwedRoutine i ran q p' q' p'') where
    here_listed : has_entry (queue_in (record { queue = q; pass = p })).entries i ≡ true
    here_listed = ap (has_entry (queue_in (record { queue = q; pass = p })).entries) known.is_present ∙ listed

    -- neither was refused
    by_answers : (P : Type 0) → ((claim : Option IrpLife) → MakesOwnCall (MarksCancel i.irp i.life (Ok claim)) p p' → RunsOwedRoutine i (Ok tt) q p' q' p'' → P) → P
    by_answers P then = go marked mark ran routine
      where
        go : (answer : Result (Option IrpLife) CancelRefused) → MakesOwnCall (MarksCancel i.irp i.life answer) p p' → (answer' : Result (Unit {0}) RoutineRefused) → RunsOwedRoutine i answer' q p' q' p'' → P
        go (Ok claim) call (Ok done) runs = then claim call runs
        go (Ok claim) call (Err refused) runs = absurd (routine_runs q p single i known p' claim call here_listed q' p'' refused runs)
        go (Err cause) call answer' runs = absurd (not_refused q p single i known p' cause call)

    pub routine_ok : is_err ran ≡ true → ⊥
    routine_ok = go marked mark ran routine
      where
        go : (answer : Result (Option IrpLife) CancelRefused) → MakesOwnCall (MarksCancel i.irp i.life answer) p p' → (answer' : Result (Unit {0}) RoutineRefused) → RunsOwedRoutine i answer' q p' q' p'' → is_err answer' ≡ true → ⊥
        go (Err cause) call answer' runs e = not_refused q p single i known p' cause call
        go (Ok claim) call (Ok done) runs e = true≢false (sym e)
        go (Ok claim) call (Err refused) runs e = routine_runs q p single i known p' claim call here_listed q' p'' refused runs

    pub takes_single : IsSingle q' p''
    takes_single = by_answers (IsSingle q' p'') (λ claim call runs. out_single q p single i known p' claim call here_listed q' p'' runs)

    pub takes_out : TakesOut i (record { queue = q; pass = p }) (record { queue = q'; pass = p'' })
    takes_out = by_answers (TakesOut i (record { queue = q; pass = p }) (record { queue = q'; pass = p'' })) (λ claim call runs. out_moves q p single i known p' claim call here_listed q' p'' runs)
