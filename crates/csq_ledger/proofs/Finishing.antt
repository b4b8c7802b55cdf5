-- A completion of what the pass holds, and a reuse of it.
use Rattle.std.proofs.Common.{◌≡◌, ◌≢◌, ◌+◌, ◌<◌, ◌&&◌, ◌||◌, not, cond, true, false, true≢false, List, [], ◌∷◌, map, Result, Ok, Err, refl, sym, ap, ◌∙◌, subst, arith}
use Rattle.csq_ledger.proofs.Imports.{AddsEvents, end_of, Limits, QueueState, queue_size, has_entry, has_irp, HistoryEntry, PassRecord, held_gone, later_new, flagged, present_in, present_life, owes_in, holds_in, removed_in, number, life_of, steps_in, same_irp-refl, same_id-refl, IsRun, Size, own, IrpId, IrpLife, PassId, Made, false_from_ne_true, IsSingle, IsWholeRun, Leaves}
use Rattle.irp_core.specs.Lives.{last_life}
use Rattle.irp_core.specs.declared.ids.Life.{Life}
use Rattle.irp_core.specs.declared.status.NtStatus.{NtStatus}
use Rattle.irp_core.specs.declared.step.Kind.TheVariants.{Done, Renew}
use Rattle.csq_words.specs.Queue.{begin_next, has_file, plain}
use Rattle.std.specs.Result.{is_err}
use Rattle.csq_words.specs.Rule.{is_done}
use Rattle.csq_words.proofs.Facts.{IsNew}
use Rattle.irp_core.specs.Owners.{has_gone}
use Rattle.csq_words.specs.Seats.{WordsState}
use Rattle.csq_words.specs.declared.views.Event.TheVariants.{Reuse}
use Rattle.csq_words.proofs.Named.{irp_eq, same_id-not}
use Rattle.csq_words.proofs.Truths.{truths_stay}
use Rattle.csq_queue.specs.Calls.{CompletesOne}
use Rattle.csq_queue.specs.Opens.{IsQueueOn}
use Rattle.csq_queue.specs.Steps.{life_before}
use Rattle.csq_checked.specs.Calls.{MakesOwnCall, ReusesPresentLife}
use Rattle.csq_checked.specs.Passes.{CheckedPassState, CheckedState}
use Rattle.csq_checked.specs.declared.calls.CheckedReuseRefused.{CheckedReuseRefused, TheVariants.{UnknownIrp, Stale, NotCompleted, LivesSpent}}
use Rattle.csq_ledger.specs.Moves.{Ends, late_cause}
use Rattle.csq_checked.specs.Uses.{refusal_of}
use Rattle.std.proofs.lemmas.Bool.{lt-ltb}
use Rattle.csq_ledger.specs.Singles.{HoldsKnown, IsKnown, limits_of, queue_in, spot, spot_of}
use Rattle.csq_ledger.proofs.Whole.{Sole, whole_steps, held_present, held_away, held_is, own_all}
use Rattle.csq_ledger.proofs.Spots.{IsSameFor, same_spot, queue_now, limits_now, single_now, unlike}

-- a step of the pass alone
module _ (q : CheckedState) (p : CheckedPassState) (single : IsSingle q p) (p' : CheckedPassState) (words : p'.words ≡ p.words) (same : p'.pass.pass ≡ p.pass.pass) (seen : p'.pass.seen ≡ p.pass.seen) where
  pub single_own : IsWholeRun q.queue.limits q.queue.queue.history p'.pass.steps → IsSingle q p'
  single_own run = record {
    on = subst (λ (w : WordsState). IsQueueOn w q.queue) (sym words) single.on;
    one = single.one;
    number = same ∙ single.number;
    seen = seen ∙ single.seen;
    run = run;
  }

  -- what it has seen of the execution is its own steps
  pub run_own : IsRun p.words.size (steps_in p'.pass.trace) → p'.pass.steps ≡ own p'.pass.pass (steps_in p'.pass.trace) → IsRun (queue_size q.queue.limits) p'.pass.steps
  run_own is_run steps =
      let size : p.words.size ≡ queue_size q.queue.limits = sym single.on.size in
      let r : IsRun (queue_size q.queue.limits) (steps_in p'.pass.trace) = subst (λ (s : Size). IsRun s (steps_in p'.pass.trace)) size is_run in
      subst (IsRun (queue_size q.queue.limits)) (sym (steps ∙ (ap (λ (x : PassId). own x (steps_in p'.pass.trace)) (same ∙ single.number) ∙ own_all (queue_size q.queue.limits) single.one (steps_in p'.pass.trace) r))) r

module _ (q : CheckedState) (p : CheckedPassState) (single : IsSingle q p) (i : IrpLife) (status : NtStatus) (p' : CheckedPassState) (call : MakesOwnCall (CompletesOne i status) p p') (held : HoldsKnown i p) where
  abbrev l : Limits
  l = q.queue.limits

  abbrev h : List HistoryEntry
  h = q.queue.queue.history

  abbrev u : QueueState
  u = end_of l.first h

  abbrev done : Made
  done = record { pass = p.pass.pass; kind = Done i; found = 0 }

  steps_are : p'.pass.steps ≡ done ∷ p.pass.steps
  steps_are = ap (λ (r : PassRecord). r.steps) call.call.step

  run : IsRun (queue_size l) (done ∷ p.pass.steps)
  run = subst (IsRun (queue_size l)) steps_are (run_own q p single p' call.words (ap (λ (r : PassRecord). r.pass) call.call.step) (ap (λ (r : PassRecord). r.seen) call.call.step) call.call.unset.last.is_run call.call.unset.last.steps_are)

  whole : IsWholeRun l h (done ∷ p.pass.steps)
  whole = record {
    is_run = run;
    outside = refl;
    owes_none = single.run.owes_none;
    legal = single.run.legal;
    true_of = truths_stay (queue_size l) done p.pass.steps run l.first h single.run.true_of;
    listed_is = single.run.listed_is;
    used_is = single.run.used_is;
    lives_are = single.run.lives_are;
  }

  pub completed_single : IsSingle q p'
  completed_single = single_own q p single p' call.words (ap (λ (r : PassRecord). r.pass) call.call.step) (ap (λ (r : PassRecord). r.seen) call.call.step) (subst (IsWholeRun l h) (sym steps_are) whole)

  is_present : i ≡ present_in u i.irp
  is_present = irp_eq i (present_in u i.irp) refl (held_present l single.one h p.pass.steps single.run i held.held)

  in_range : number i < l.irps
  in_range = subst (λ (s : Size). number i < s.irps) (sym single.on.size) held.in_range

  -- it is completed, not listed and not held
  here_done : is_done (done ∷ p.pass.steps) i ≡ true
  here_done = ap (λ b. b || is_done p.pass.steps i) (same_irp-refl i)

  here_unheld : holds_in (done ∷ p.pass.steps) i ≡ false
  here_unheld = ap (λ b. not (b || false) && holds_in p.pass.steps i) (same_irp-refl i)

  module _ (q' : CheckedState) (p'' : CheckedPassState) where
    refused_none : (answer : Result Life CheckedReuseRefused) → ReusesPresentLife i answer q p' q' p'' → answer ≡ Err UnknownIrp → ⊥
    refused_none answer reuse e = reuse.unknown.0 e in_range

    refused_stale : (answer : Result Life CheckedReuseRefused) → ReusesPresentLife i answer q p' q' p'' → answer ≡ Err Stale → ⊥
    refused_stale answer reuse e = (reuse.stale.0 e).1 is_present

    refused_undone : (answer : Result Life CheckedReuseRefused) → ReusesPresentLife i answer q p' q' p'' → answer ≡ Err NotCompleted → ⊥
    refused_undone (Err NotCompleted) reuse e =
        let adds = reuse.call.call.call in_range in
        let cause = reuse.call.call.refused in_range in
        let steps : p''.pass.steps ≡ done ∷ p.pass.steps = reuse.call.call.steps.steps ∙ steps_are in
        let seen : p''.pass.steps ≡ steps_in p''.pass.trace = whole_steps l single.one h p'.pass p''.pass completed_single.number [] adds in
        let same : present_in (end_of l.first p''.pass.seen) i.irp ≡ i = ap (λ (x : List HistoryEntry). present_in (end_of l.first x) i.irp) adds.ends ∙ sym is_present in
        true≢false (sym here_done ∙ (ap (λ (s : List Made). is_done s i) (sym steps ∙ seen) ∙ (ap (is_done (steps_in p''.pass.trace)) (sym same) ∙ cause.0)))
    refused_undone answer reuse e = absurd (cc)

    -- the IRP was in its last life
    pub spent_single : ReusesPresentLife i (Err LivesSpent) q p' q' p'' → IsSingle q' p''
    spent_single reuse = single_now q p' q' p'' completed_single reuse.call.after [] (reuse.call.call.call in_range) (λ j. ap (λ (s : List Made). owes_in s j) (reuse.call.call.steps.steps ∙ steps_are) ∙ single.run.owes_none j)

    pub spent_ends : ReusesPresentLife i (Err LivesSpent) q p' q' p'' → Ends i.irp true (record { queue = q; pass = p }) (record { queue = q'; pass = p'' })
    spent_ends reuse =
        let steps : p''.pass.steps ≡ done ∷ p.pass.steps = reuse.call.call.steps.steps ∙ steps_are in
        let ends = (reuse.call.call.call in_range).ends in
        let now = queue_now q p' q' p'' completed_single reuse.call.after u (ap (end_of l.first) ends) in
        let cause = reuse.call.call.refused in_range in
        let limits = limits_now q p' q' p'' completed_single reuse.call.after in
        let here = present_in u i.irp in
        let spot_now : (m : IrpId) → spot (record { queue = q'; pass = p'' }) m ≡ spot_of u (done ∷ p.pass.steps) m = λ m. (ap (λ (x : QueueState). spot_of x p''.pass.steps m) now ∙ ap (λ (s : List Made). spot_of u s m) steps) in
        let life : u.lives i.irp ≡ last_life = sym (ap life_of (is_present)) ∙ last_now cause.0 ends in record {
          unlisted = ap (λ x. x.is_listed) (spot_now i.irp) ∙ ap (has_entry u.entries) (sym is_present) ∙ (held_away l single.one h p.pass.steps single.run i held.held).1;
          unheld = ap (λ x. x.is_held) (spot_now i.irp) ∙ ap (holds_in (done ∷ p.pass.steps)) (sym is_present) ∙ here_unheld;
          home = λ e. absurd cc;
          spent = λ _. (ap (λ x. x.is_used) (spot_now i.irp) ∙ (ap (has_irp u.used) (sym is_present) ∙ (held_away l single.one h p.pass.steps single.run i held.held).2), ap (λ x. x.life) (spot_now i.irp), life);
          list = ap (λ (x : QueueState). map plain x.entries) now;
          rest = others_same spot_now limits now;
        }
      where
        last_now : life_of (present_in (end_of l.first p''.pass.seen) i.irp) ≡ last_life → p''.pass.seen ≡ h → life_of i ≡ last_life
        last_now e ends = ap life_of is_present ∙ (ap (λ (x : List HistoryEntry). (end_of l.first x).lives i.irp) (sym ends) ∙ e)

        others_same : ((m : IrpId) → spot (record { queue = q'; pass = p'' }) m ≡ spot_of u (done ∷ p.pass.steps) m) → limits_of (record { queue = q'; pass = p'' }) ≡ l → queue_in (record { queue = q'; pass = p'' }) ≡ u → Leaves i.irp (record { queue = q; pass = p }) (record { queue = q'; pass = p'' })
        others_same spot_now limits now = record {
          others = λ m ne. spot_now m ∙ (λ k. record { is_listed = has_entry u.entries (present_in u m); is_held = unheld_other m ne k; is_removed = removed_in p.pass.steps (present_in u m); is_used = has_irp u.used (present_in u m); is_flagged = flagged p.pass.steps (present_in u m); life = u.lives m; file = u.file_of m });
          closed = λ f. ap (λ (x : QueueState). has_file x.closed f) now;
          limits = limits;
        }
          where
            unheld_other : (m : IrpId) → m.0 ≢ i.irp.0 → holds_in (done ∷ p.pass.steps) (present_in u m) ≡ holds_in p.pass.steps (present_in u m)
            unheld_other m ne = ap (λ b. not (b || false) && holds_in p.pass.steps (present_in u m)) (unlike i (present_in u m) ne)

    -- its next life began
    module _ (life : Life) (reuse : ReusesPresentLife i (Ok life) q p' q' p'') where
      adds : AddsEvents l h p'.pass p''.pass (Reuse i.irp life ∷ [])
      adds = reuse.call.call.call in_range

      renewal : Made
      renewal = record { pass = p'.pass.pass; kind = Renew (life_before i.irp life); found = 0 }

      now_steps : p''.pass.steps ≡ record { pass = p'.pass.pass; kind = Renew (life_before i.irp life); found = 0 } ∷ (done ∷ p.pass.steps)
      now_steps = reuse.call.call.steps.steps ∙ ap (λ (s : List Made). record { pass = p'.pass.pass; kind = Renew (life_before i.irp life); found = 0 } ∷ s) steps_are

      owes_still : (j : IrpLife) → owes_in p''.pass.steps j ≡ false
      owes_still j = ap (λ (s : List Made). owes_in s j) now_steps ∙ single.run.owes_none j

      pub renewed_single : IsSingle q' p''
      renewed_single = single_now q p' q' p'' completed_single reuse.call.after (Reuse i.irp life ∷ []) adds owes_still

      abbrev u' : QueueState
      u' = record u { lives = begin_next i.irp u.lives }

      now : queue_in (record { queue = q'; pass = p'' }) ≡ u'
      now = queue_now q p' q' p'' completed_single reuse.call.after u' (ap (end_of l.first) adds.ends)

      abbrev next : IrpLife
      next = present_in u' i.irp

      next_life : life_of next ≡ u.lives i.irp + 1
      next_life = ap (λ b. cond b (u.lives i.irp + 1) (u.lives i.irp)) (same_id-refl i.irp)

      -- which no step has named
      later : present_life l.first (done ∷ p.pass.steps) i.irp < life_of next
      later = let lives = whole.lives_are i.irp in omega (arith, lives, next_life)

      abbrev new_one : IsNew (done ∷ p.pass.steps) next
      new_one = later_new (queue_size l) (done ∷ p.pass.steps) run next later

      next_unheld : holds_in (done ∷ p.pass.steps) next ≡ false
      next_unheld = false_from_ne_true (holds_in (done ∷ p.pass.steps) next) (λ e.
          let gone = held_gone (queue_size l) (done ∷ p.pass.steps) run next Sole (sym (held_is l single.one (done ∷ p.pass.steps) run next) ∙ e) in
          true≢false (sym gone.2 ∙ new_one.unarmed))

      next_unlisted : has_entry u.entries next ≡ false
      next_unlisted = whole.listed_is next ∙ ap (λ b. b && not (has_gone (done ∷ p.pass.steps) next)) new_one.unarmed

      spot_is : (m : IrpId) → spot (record { queue = q'; pass = p'' }) m ≡ spot_of u' (done ∷ p.pass.steps) m
      spot_is m = ap (λ (x : QueueState). spot_of x p''.pass.steps m) now ∙ ap (λ (s : List Made). spot_of u' s m) now_steps

      pub renewed_ends : Ends i.irp false (record { queue = q; pass = p }) (record { queue = q'; pass = p'' })
      renewed_ends = record {
        unlisted = ap (λ x. x.is_listed) (spot_is i.irp) ∙ next_unlisted;
        unheld = ap (λ x. x.is_held) (spot_is i.irp) ∙ next_unheld;
        home = λ _. (ap (λ x. x.is_used) (spot_is i.irp) ∙ (whole.used_is next ∙ new_one.unarmed), ap (λ x. x.is_flagged) (spot_is i.irp) ∙ new_one.unflagged, ap (λ x. x.life) (spot_is i.irp) ∙ next_life);
        spent = λ e. absurd cc;
        list = ap (λ (x : QueueState). map plain x.entries) now;
        rest = record {
          others = λ m ne. spot_is m ∙ same_spot (same_others) m ne;
          closed = λ f. ap (λ (x : QueueState). has_file x.closed f) now;
          limits = limits_now q p' q' p'' completed_single reuse.call.after;
        };
      }
        where
          same_others : IsSameFor (λ m. m ≢ i.irp.0) u p.pass.steps u' (done ∷ p.pass.steps)
          same_others = record {
            entries = λ j _. refl;
            held = λ j ne. ap (λ b. not (b || false) && holds_in p.pass.steps j) (unlike i j ne);
            removed = λ j _. refl;
            used = λ j _. refl;
            flags = λ j _. refl;
            lives = λ m ne. ap (λ b. cond b (u.lives m + 1) (u.lives m)) (same_id-not i.irp m (λ e. ne (ap (λ (x : IrpId). x.0) (sym e))));
            files = λ m _. refl;
          }

    -- the reuse is refused of the last life alone
    pub finish_single : (answer : Result Life CheckedReuseRefused) → ReusesPresentLife i answer q p' q' p'' → IsSingle q' p''
    finish_single (Ok life) reuse = renewed_single life reuse
    finish_single (Err LivesSpent) reuse = spent_single reuse
    finish_single (Err UnknownIrp) reuse = absurd (refused_none (Err UnknownIrp) reuse refl)
    finish_single (Err Stale) reuse = absurd (refused_stale (Err Stale) reuse refl)
    finish_single (Err NotCompleted) reuse = absurd (refused_undone (Err NotCompleted) reuse refl)

    pub finish_ends : (answer : Result Life CheckedReuseRefused) → ReusesPresentLife i answer q p' q' p'' → Ends i.irp (is_err answer) (record { queue = q; pass = p }) (record { queue = q'; pass = p'' })
    finish_ends (Ok life) reuse = renewed_ends life reuse
    finish_ends (Err LivesSpent) reuse = spent_ends reuse
    finish_ends (Err UnknownIrp) reuse = absurd (refused_none (Err UnknownIrp) reuse refl)
    finish_ends (Err Stale) reuse = absurd (refused_stale (Err Stale) reuse refl)
    finish_ends (Err NotCompleted) reuse = absurd (refused_undone (Err NotCompleted) reuse refl)

-- why what the pass holds isn't completed
pub late : (q : CheckedState) (p : CheckedPassState) → IsSingle q p → (i : IrpLife) → IsKnown i (record { queue = q; pass = p }) → holds_in p.pass.steps i ≡ true → (status : NtStatus) → refusal_of p i status ≡ late_cause (removed_in p.pass.steps (present_in (queue_in (record { queue = q; pass = p })) i.irp)) status
late q p single i known held status =
    let inside : number i < p.words.size.irps = subst (λ (s : Size). number i < s.irps) single.on.size known.in_range in
    rw (lt-ltb (number i) p.words.size.irps inside, held, ap (removed_in p.pass.steps) known.is_present) refl
