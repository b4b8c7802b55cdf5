-- In a run of one pass the pass's steps are all of it.
use Rattle.std.proofs.Common.{◌≡◌, ◌≢◌, ℕ, ◌&&◌, ◌||◌, not, Bool, true, false, true≢false, List, [], ◌∷◌, ◌⊎◌, inl, inr, refl, sym, ap, ◌∙◌, subst, arith}
use Rattle.csq_ledger.proofs.Imports.{AddsEvents, pass_numbered, queue_size, held_gone, listed_now, taken_flagged, marked_taken, end_of, Limits, has_entry, has_irp, has_marked, steps_in, Event, HistoryEntry, PassRecord, run_less, holds_in-own, inside_of-own, owes_in-own, own-mine, own-other, listed_owed, watched, inside, holds_in, inside_of, owes_in, holds, listed, owes, IsRun, Size, own, armed, flagged, was_armed, IrpLife, PassId, Nothing, Made, false_from_ne_true, or_right, life_of, same_irp, IsWholeRun}
use Rattle.irp_core.specs.Owners.{claims}
use Rattle.irp_core.specs.declared.step.Kind.TheVariants.{Take}
use Rattle.csq_words.specs.Queue.{Queued}
use Rattle.csq_words.specs.Rule.{inserts, lists}
use Rattle.csq_words.proofs.Facts.{open_now}
use Rattle.irp_core.proofs.Owning.{watches}
use Rattle.csq_queue.proofs.Counting.{by_number}

abbrev pub Sole : PassId
Sole = pass_numbered 1

-- each step is of the pass 1
pub own_all : (size : Size) → size.passes ≡ 1 → (E : List Made) → IsRun size E → own Sole E ≡ E
own_all size one [] r = refl
own_all size one (m ∷ E) r =
    let known = r.known.0 in
    let from = known.from in
    let to = known.to in
    let first : m.pass.0 ≡ 1 = omega arith in
    let mine : m.pass ≡ Sole = ap (λ (n : ℕ). pass_numbered n) first in
    own-mine Sole m E mine ∙ ap (λ es. m ∷ es) (own_all size one E (run_less size m E r))

-- and none of another
own_none : (size : Size) → size.passes ≡ 1 → (q : PassId) → q.0 ≢ 1 → (E : List Made) → IsRun size E → own q E ≡ []
own_none size one q ne [] r = refl
own_none size one q ne (m ∷ E) r =
    let known = r.known.0 in
    let from = known.from in
    let to = known.to in
    let other : m.pass ≢ q = λ e. ne (let first : m.pass.0 ≡ 1 = omega arith in ap (λ (p : PassId). p.0) (sym e) ∙ first) in
    own-other q m E other ∙ own_none size one q ne E (run_less size m E r)

module _ (l : Limits) (one : l.passes ≡ 1) (E : List Made) (r : IsRun (queue_size l) E) where
  pub held_is : (i : IrpLife) → holds_in E i ≡ holds E Sole i
  held_is i = ap (λ es. holds_in es i) (sym (own_all (queue_size l) one E r)) ∙ holds_in-own Sole i E

  -- where that one is outside of its programs, and owes nothing, so does each
  module _ (outside : inside_of E ≡ Nothing) (owes_none : (i : IrpLife) → owes_in E i ≡ false) where
    inside_none : (q : PassId) → inside E q ≡ Nothing
    inside_none q = by_number (inside E q ≡ Nothing) q.0 1
        (λ e. sym (inside_of-own q E) ∙ (ap inside_of (ap (λ (n : ℕ). own (pass_numbered n) E) e ∙ own_all (queue_size l) one E r) ∙ outside))
        (λ ne. sym (inside_of-own q E) ∙ ap inside_of (own_none (queue_size l) one q ne E r))

    owes_nothing : (q : PassId) (i : IrpLife) → owes E q i ≡ false
    owes_nothing q i = by_number (owes E q i ≡ false) q.0 1
        (λ e. sym (owes_in-own q i E) ∙ (ap (λ es. owes_in es i) (ap (λ (n : ℕ). own (pass_numbered n) E) e ∙ own_all (queue_size l) one E r) ∙ owes_none i))
        (λ ne. sym (owes_in-own q i E) ∙ ap (λ es. owes_in es i) (own_none (queue_size l) one q ne E r))

    -- what is listed has its routine
    listed_armed : (i : IrpLife) → listed E i ≡ true → armed E i ≡ true
    listed_armed i e = go (listed_owed (queue_size l) E r i e)
      where
        go : (armed E i ≡ true) ⊎ ((p : PassId) × (claims E i ≡ record { pass = p; kind = Take i; found = 1 } ∷ []) × (owes E p i ≡ true)) → armed E i ≡ true
        go (inl a) = a
        go (inr h) = absurd (true≢false (sym h.2 ∙ owes_nothing h.0 i))

    -- and isn't flagged
    armed_unflagged : (i : IrpLife) → armed E i ≡ true → flagged E i ≡ false
    armed_unflagged i a = false_from_ne_true (flagged E i) (λ f.
        let w = watched (queue_size l) E r i a f in
        let none : watches i Nothing ≡ true = ap (watches i) (sym (inside_none w.0)) ∙ w.1 in
        true≢false (sym none))

-- what is marked is listed
marked_entry : (es : List Queued) (i : IrpLife) → has_marked es i ≡ true → has_entry es i ≡ true
marked_entry [] i e = e
marked_entry (x ∷ es) i e = go (same_irp x.irp i) x.marked e (marked_entry es i)
  where
    go : (b c : Bool) → ((b && c) || has_marked es i) ≡ true → (has_marked es i ≡ true → has_entry es i ≡ true) → (b || has_entry es i) ≡ true
    go true c e rest = refl
    go false c e rest = rest e

-- of what is listed the routine is set and the flag is clear; it isn't marked
module _ (l : Limits) (one : l.passes ≡ 1) (h : List HistoryEntry) (E : List Made) (w : IsWholeRun l h E) (i : IrpLife) where
  pub entry_armed : has_entry (end_of l.first h).entries i ≡ true → armed E i ≡ true
  entry_armed e = listed_armed l one E w.is_run w.outside w.owes_none i (sym (w.listed_is i) ∙ e)

  pub entry_unflagged : has_entry (end_of l.first h).entries i ≡ true → flagged E i ≡ false
  entry_unflagged e = armed_unflagged l one E w.is_run w.outside w.owes_none i (entry_armed e)

  pub entry_present : has_entry (end_of l.first h).entries i ≡ true → life_of i ≡ (end_of l.first h).lives i.irp
  entry_present e = listed_now (queue_size l) E w.is_run i (sym (w.listed_is i) ∙ e) ∙ sym (w.lives_are i.irp)

  pub unmarked : has_marked (end_of l.first h).entries i ≡ false
  unmarked = false_from_ne_true (has_marked (end_of l.first h).entries i) (λ m.
      let flag = taken_flagged (queue_size l) E w.is_run i (marked_taken l.first E h i w.true_of m) in
      true≢false (sym flag ∙ entry_unflagged (marked_entry (end_of l.first h).entries i m)))

  -- what is held isn't listed, has no routine and was inserted, and is in its present life
  pub held_away : holds_in E i ≡ true → (armed E i ≡ false) × (has_entry (end_of l.first h).entries i ≡ false) × (has_irp (end_of l.first h).used i ≡ true)
  held_away e =
      let gone = held_gone (queue_size l) E w.is_run i Sole (sym (held_is l one E w.is_run i) ∙ e) in
      (gone.0, w.listed_is i ∙ gone.1, w.used_is i ∙ gone.2)

  pub held_present : holds_in E i ≡ true → life_of i ≡ (end_of l.first h).lives i.irp
  held_present e = open_now (queue_size l) E w.is_run i Sole (or_right (owes E Sole i) (holds E Sole i) (sym (held_is l one E w.is_run i) ∙ e)) ∙ sym (w.lives_are i.irp)

-- a call of the queue leaves a whole run
module _ (l : Limits) (one : l.passes ≡ 1) (h : List HistoryEntry) (p p' : PassRecord) (first : p.pass ≡ Sole) (events : List Event) (adds : AddsEvents l h p p' events) where
  pub whole_steps : p'.steps ≡ steps_in p'.trace
  whole_steps =
      let is_run = adds.sees.agrees.history_is.is_run in
      let mine : p'.pass ≡ Sole = adds.pass ∙ first in
      adds.sees.agrees.pass_is.steps_is ∙ (ap (λ (q : PassId). own q (steps_in p'.trace)) mine ∙ own_all (queue_size l) one (steps_in p'.trace) is_run)

  pub still_whole : ((i : IrpLife) → owes_in p'.steps i ≡ false) → IsWholeRun l p'.seen p'.steps
  still_whole owes_none =
      let his = adds.sees.agrees.history_is in
      subst (λ (E : List Made). ((i : IrpLife) → owes_in E i ≡ false) → inside_of E ≡ Nothing → IsWholeRun l p'.seen E) (sym whole_steps) (λ owes out. record {
        is_run = his.is_run;
        outside = out;
        owes_none = owes;
        legal = adds.legal;
        true_of = his.true_of;
        listed_is = λ i. his.listed_is i ∙ ap (λ s. not (lists s i) && listed (steps_in p'.trace) i) adds.sees.outside;
        used_is = λ i. his.used_is i ∙ ap (λ s. not (inserts s i) && was_armed (steps_in p'.trace) i) adds.sees.outside;
        lives_are = his.lives_are;
      }) owes_none adds.sees.outside
