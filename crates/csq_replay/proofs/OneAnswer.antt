-- A schedule has one answer.
use Rattle.std.proofs.Common.{◌≡◌, ℕ, zero, suc, ◌<◌, Bool, true, false, cond, not, ◌&&◌, List, [], ◌∷◌, ◌++◌, Option, Some, refl, ap, sym, ◌∙◌, arith, subst, codes}
use Rattle.irp_core.specs.declared.ids.Life.{Life}
use Rattle.csq_replay.proofs.Imports.{PassId, Kind, Arm, Flag, Renew, Made, Step, IrpPlace, Standing, made, IrpLife, flagged, was_armed, found_by, Size, IsRun, holds, has_gone, IsPlace, completed_by, removed, status_due, same_pass-eq, done_at, has_left, IsDue, stands, IrpLine, step_of, ComesTo, Numbered, run_of, grown, ReportsLine, answer_text, AnswersLine, unless_silent, IsReportedOf, AreReportedOf, ReportsRest, Closes, IsClosing, irp_lines_text, rest_text, claim_lines, HasOneAnswer}
use Rattle.irp_core.specs.declared.refusals.StepRefused.{StepRefused}
use Rattle.irp_core.specs.declared.refusals.StepRefused.TheVariants.{UnknownIrp, UnknownPass, LockHeld, NotNext, NotHome, NotListed, NotOwed, NotHeld, Stale, NotCompleted, LivesSpent}
use Rattle.irp_core.specs.declared.standing.IrpPlace.TheVariants as place
use Rattle.irp_core.specs.declared.standing.Standing.TheVariants.{Home, Waiting, Owed, Held, Finished}
use Rattle.irp_core.specs.Refusals.{refusal_number, IsCause, IsFirstCause}
use Rattle.irp_core.specs.Standings.{place_of, stands_home, is_held_by}
use Rattle.irp_core.proofs.Growing.{run_none, run_last, HasLock-has_lock}
use Rattle.irp_core.proofs.Stepping.{no_cause}
use Rattle.irp_core.proofs.Next.{lock_one}
use Rattle.csq_replay.specs.declared.schedule.outcome.Outcome.{Outcome}
use Rattle.csq_replay.specs.declared.schedule.outcome.Outcome.TheVariants.{Skipped, Accepted, Stopped}
use Rattle.csq_replay.specs.declared.schedule.outcome.Stop.TheVariants.{TooLong, Malformed, Refused}
use Rattle.csq_replay.proofs.Answering.{one_input_answer}
use Rattle.csq_replay.proofs.OneStep.{same_step, not_skipped, is_within}

module _ (ever left : Bool) (ho dn : PassId → Bool) (byr : Bool) where
  -- as IsPlace, of the values
  abbrev Places : IrpPlace → Type 0
  Places place.Home = ever ≡ false
  Places place.Listed = (ever && not left) ≡ true
  Places (place.HeldBy p) = ho p ≡ true
  Places (place.Completed status p) = (dn p ≡ true) × (status ≡ status_due byr)

  place_row : (s : Standing) → ever ≡ not (stands_home s) → left ≡ has_left s → ((q : PassId) → ho q ≡ is_held_by q s) → ((q : PassId) → dn q ≡ done_at s q) → IsDue s byr
      → (p : IrpPlace) → Places p → p ≡ place_of s
  place_row Home ev lf hold done due place.Home e = refl
  place_row Home ev lf hold done due place.Listed e = absurd (cc (rw ev at e))
  place_row Home ev lf hold done due (place.HeldBy p) e = absurd (cc (e, hold p))
  place_row Home ev lf hold done due (place.Completed status p) e = absurd (cc (e.0, done p))
  place_row Waiting ev lf hold done due place.Home e = absurd (cc (e, ev))
  place_row Waiting ev lf hold done due place.Listed e = refl
  place_row Waiting ev lf hold done due (place.HeldBy p) e = absurd (cc (e, hold p))
  place_row Waiting ev lf hold done due (place.Completed status p) e = absurd (cc (e.0, done p))
  place_row (Owed q) ev lf hold done due place.Home e = absurd (cc (e, ev))
  place_row (Owed q) ev lf hold done due place.Listed e = refl
  place_row (Owed q) ev lf hold done due (place.HeldBy p) e = absurd (cc (e, hold p))
  place_row (Owed q) ev lf hold done due (place.Completed status p) e = absurd (cc (e.0, done p))
  place_row (Held q at) ev lf hold done due place.Home e = absurd (cc (e, ev))
  place_row (Held q at) ev lf hold done due place.Listed e = absurd (cc (rw (ev, lf) at e))
  place_row (Held q at) ev lf hold done due (place.HeldBy p) e = ap place.HeldBy (sym (same_pass-eq q p (sym (hold p) ∙ e)))
  place_row (Held q at) ev lf hold done due (place.Completed status p) e = absurd (cc (e.0, done p))
  place_row (Finished at q) ev lf hold done due place.Home e = absurd (cc (e, ev))
  place_row (Finished at q) ev lf hold done due place.Listed e = absurd (cc (rw (ev, lf) at e))
  place_row (Finished at q) ev lf hold done due (place.HeldBy p) e = absurd (cc (e, hold p))
  place_row (Finished at q) ev lf hold done due (place.Completed status p) e =
      ap (λ s. place.Completed s p) (e.1 ∙ sym due) ∙ ap (place.Completed at) (sym (same_pass-eq q p (sym (done p) ∙ e.0)))

-- as IsPlace is by the values
places : (E : List Made) (i : IrpLife) (p : IrpPlace) → IsPlace E i p
    → Places (was_armed E i) (has_gone E i) (λ q. holds E q i) (λ q. completed_by E q i) (removed E i) p
places E i place.Home e = e
places E i x e = e

-- an IRP is in one place
pub one_place : (size : Size) (E : List Made) → IsRun size E → (i : IrpLife) (p q : IrpPlace) → IsPlace E i p → IsPlace E i q → p ≡ q
one_place size E r i p q a b =
    let (s, h) = stands size E r i in
    let is = λ (x : IrpPlace) (e : IsPlace E i x). place_row _ _ _ _ _ s h.ever_is h.left_is h.holding_is h.done_is h.due x (places E i x e) in
    is p a ∙ sym (is q b)

one_reported : (size : Size) (E : List Made) → IsRun size E → (i : IrpLife) (t u : List IrpLine) → IsReportedOf E i t → IsReportedOf E i u → t ≡ u
one_reported size E r i t u (p, a, e) (q, b, f) =
    let line : IrpPlace → IrpLine = λ x. record { name = i; place = x; cancelled = flagged E i } in
    e ∙ ap (λ x. unless_silent (line x)) (one_place size E r i p q a b) ∙ sym f

all_reported : (size : Size) (E : List Made) → IsRun size E → (n : ℕ) (t u : List IrpLine) → AreReportedOf size.first E n t → AreReportedOf size.first E n u → t ≡ u
all_reported size E r zero t u a b = a ∙ sym b
all_reported size E r (suc n) t u (before, last, lines, line, e) (before', last', lines', line', f) =
    e ∙ ap (λ x. x ++ last) (all_reported size E r n before before' lines lines') ∙ ap (λ x. before' ++ x) (one_reported size E r _ last last' line line') ∙ sym f

one_rest : (E : List Made) (b c : Bool) → ReportsRest E b → ReportsRest E c → b ≡ c
one_rest E true true h g = refl
one_rest E false false h g = refl
one_rest E true false h g = absurd (cc (g.1 (h.0 refl)))
one_rest E false true h g = absurd (cc (h.1 (g.0 refl)))

-- what is reported in the end is one
pub one_close : (size : Size) (E : List Made) → IsRun size E → (reported other : List IrpLine) (rest otherwise : Bool) → Closes size E reported rest → Closes size E other otherwise → (reported ≡ other) × (rest ≡ otherwise)
one_close size E r reported other rest otherwise a b = (all_reported size E r size.irps reported other a.irps b.irps, one_rest E rest otherwise a.rest b.rest)

one_closing : (size : Size) (claims : Bool) (W : List Numbered) → IsRun size (run_of W) → (t u : List ℕ) → IsClosing size claims W t → IsClosing size claims W u → t ≡ u
one_closing size claims W r t u (reported, rest, closes, e) (other, otherwise, closes', f) =
    let same = one_close size (run_of W) r reported other rest otherwise closes closes' in
    let text : List IrpLine → Bool → List ℕ = λ lines b. irp_lines_text lines ++ ((rest_text b ++ codes "\n") ++ cond claims (claim_lines W) []) in
    e ∙ ap (λ x. text x rest) same.0 ∙ ap (λ x. text other x) same.1 ∙ sym f

same_life : (g h : Life) → g.0 ≡ h.0 → g ≡ h
same_life g h e = let life : ℕ → Life = λ n. record { 0 = n } in ap life e

-- the present life is one
same_stale : (size : Size) (E : List Made) (p : PassId) (k : Kind) (g h : Life) → IsCause size E p k (Stale g) → IsCause size E p k (Stale h) → g ≡ h
same_stale size E p (Arm i) g h a b = same_life g h (a.0 ∙ sym b.0)
same_stale size E p (Flag i) g h a b = same_life g h (a.0 ∙ sym b.0)
same_stale size E p (Renew i) g h a b = same_life g h (a.0 ∙ sym b.0)
same_stale size E p k g h a b = absurd a

-- causes of one number are the same, with the pass that has the lock or the present life
same_cause : (size : Size) (E : List Made) → IsRun size E → (p : PassId) (k : Kind) (c d : StepRefused) → refusal_number c ≡ refusal_number d → IsCause size E p k c → IsCause size E p k d → c ≡ d
same_cause size E r p k UnknownIrp UnknownIrp e a b = refl
same_cause size E r p k UnknownPass UnknownPass e a b = refl
same_cause size E r p k (LockHeld q) (LockHeld s) e a b = ap LockHeld (lock_one size E r s (HasLock-has_lock E s b.1) q (HasLock-has_lock E q a.1))
same_cause size E r p k NotNext NotNext e a b = refl
same_cause size E r p k NotHome NotHome e a b = refl
same_cause size E r p k NotListed NotListed e a b = refl
same_cause size E r p k NotOwed NotOwed e a b = refl
same_cause size E r p k NotHeld NotHeld e a b = refl
same_cause size E r p k (Stale g) (Stale h) e a b = ap Stale (same_stale size E p k g h a b)
same_cause size E r p k NotCompleted NotCompleted e a b = refl
same_cause size E r p k LivesSpent LivesSpent e a b = refl
same_cause size E r p k c d e a b = absurd (omega (arith, e))

one_cause : (size : Size) (E : List Made) → IsRun size E → (s : Step) (c d : StepRefused) → IsFirstCause size E s c → IsFirstCause size E s d → c ≡ d
one_cause size E r s c d a b =
    let below : refusal_number c < refusal_number d → ⊥ = λ lt. b.first c lt a.holds in
    let above : refusal_number d < refusal_number c → ⊥ = λ lt. a.first d lt b.holds in
    same_cause size E r s.pass s.kind c d (omega (arith, below, above)) a.holds b.holds

module _ (size : Size) (E : List Made) (line : List ℕ) (r : IsRun size E) where
  both_accepted : (m k : Made) → step_of m ≡ step_of k → IsRun size (m ∷ E) → IsRun size (k ∷ E) → m ≡ k
  both_accepted m k same a b =
      let value : m.found ≡ k.found = a.found.0 ∙ ap (λ (x : Step). found_by E x.kind) same ∙ sym b.found.0 in
      ap (λ x. made x m.found) same ∙ ap (λ v. made (step_of k) v) value

  both_refused : (s t : Step) (c d : StepRefused) → s ≡ t → IsFirstCause size E s c → IsFirstCause size E t d → c ≡ d
  both_refused s t c d same a b =
      let P : Step → Type 0 = λ x. IsFirstCause size E x c in
      one_cause size E r t c d (subst P same a) b

  not_both : (m : Made) (t : Step) (c : StepRefused) → step_of m ≡ t → IsRun size (m ∷ E) → IsFirstCause size E t c → ⊥
  not_both m t c same a b =
      let P : Step → Type 0 = λ x. IsRun size (made x m.found ∷ E) in
      no_cause size E t.pass t.kind m.found c (run_last size (made t m.found) E (subst P same a)) b.holds

  -- what comes of a line is one
  pub one_outcome : (o u : Outcome) → ComesTo size E line o → ComesTo size E line u → o ≡ u
  one_outcome Skipped Skipped a b = refl
  one_outcome Skipped (Accepted k) a b = absurd (not_skipped line (step_of k) b.0 a.1)
  one_outcome Skipped (Stopped TooLong) a b = absurd (omega (arith, a.0, b))
  one_outcome Skipped (Stopped Malformed) a b = absurd (b.1 a.1)
  one_outcome Skipped (Stopped (Refused t d)) a b = absurd (not_skipped line t b.0 a.1)
  one_outcome (Accepted m) Skipped a b = absurd (not_skipped line (step_of m) a.0 b.1)
  one_outcome (Accepted m) (Accepted k) a b = ap Accepted (both_accepted m k (same_step line (step_of m) (step_of k) a.0 b.0) a.1 b.1)
  one_outcome (Accepted m) (Stopped TooLong) a b = absurd (omega (arith, b, is_within line (step_of m) a.0))
  one_outcome (Accepted m) (Stopped Malformed) a b = absurd (b.2 (step_of m) a.0)
  one_outcome (Accepted m) (Stopped (Refused t d)) a b = absurd (not_both m t d (same_step line (step_of m) t a.0 b.0) a.1 b.1)
  one_outcome (Stopped TooLong) Skipped a b = absurd (omega (arith, a, b.0))
  one_outcome (Stopped TooLong) (Accepted k) a b = absurd (omega (arith, a, is_within line (step_of k) b.0))
  one_outcome (Stopped TooLong) (Stopped TooLong) a b = refl
  one_outcome (Stopped TooLong) (Stopped Malformed) a b = absurd (omega (arith, a, b.0))
  one_outcome (Stopped TooLong) (Stopped (Refused t d)) a b = absurd (omega (arith, a, is_within line t b.0))
  one_outcome (Stopped Malformed) Skipped a b = absurd (a.1 b.1)
  one_outcome (Stopped Malformed) (Accepted k) a b = absurd (a.2 (step_of k) b.0)
  one_outcome (Stopped Malformed) (Stopped TooLong) a b = absurd (omega (arith, b, a.0))
  one_outcome (Stopped Malformed) (Stopped Malformed) a b = refl
  one_outcome (Stopped Malformed) (Stopped (Refused t d)) a b = absurd (a.2 t b.0)
  one_outcome (Stopped (Refused s c)) Skipped a b = absurd (not_skipped line s a.0 b.1)
  one_outcome (Stopped (Refused s c)) (Accepted k) a b = absurd (not_both k s c (same_step line (step_of k) s b.0 a.0) b.1 a.1)
  one_outcome (Stopped (Refused s c)) (Stopped TooLong) a b = absurd (omega (arith, b, is_within line s a.0))
  one_outcome (Stopped (Refused s c)) (Stopped Malformed) a b = absurd (b.2 s a.0)
  one_outcome (Stopped (Refused s c)) (Stopped (Refused t d)) a b =
      let same = same_step line s t a.0 b.0 in
      ap (λ x. Stopped (Refused x c)) same ∙ ap (λ x. Stopped (Refused t x)) (both_refused s t c d same a.1 b.1)

-- what is reported for a line is one, however it is reported
module _ (report : List Numbered → ℕ → List ℕ → Outcome → List ℕ) (size : Size) where
  pub one_line : (W : List Numbered) (n : ℕ) (line t u : List ℕ) (m k : Option (List Numbered)) → IsRun size (run_of W) → ReportsLine report size W n line t m → ReportsLine report size W n line u k → (t ≡ u) × (m ≡ k)
  one_line W n line t u m k r (o, comes, e, f) (p, comes', g, h) =
      let same = one_outcome size (run_of W) line r o p comes comes' in
      (e ∙ ap (report W n line) same ∙ sym g, f ∙ ap (grown W n) same ∙ sym h)

  run_grown : (W V : List Numbered) (n : ℕ) (line : List ℕ) (o : Outcome) → IsRun size (run_of W) → ComesTo size (run_of W) line o → Some V ≡ grown W n o → IsRun size (run_of V)
  run_grown W V n line Skipped r is e = let same : W ≡ V = cc e in let P : List Numbered → Type 0 = λ x. IsRun size (run_of x) in subst P same r
  run_grown W V n line (Accepted m) r is e = let same : record { line = n; step = m } ∷ W ≡ V = cc e in let P : List Numbered → Type 0 = λ x. IsRun size (run_of x) in subst P same is.1
  run_grown W V n line (Stopped stop) r is e = absurd (cc e)

  -- the steps with which the handling goes on make a run
  pub run_on : (W V : List Numbered) (n : ℕ) (line text : List ℕ) → IsRun size (run_of W) → ReportsLine report size W n line text (Some V) → IsRun size (run_of V)
  run_on W V n line text r (o, comes, e, f) = run_grown W V n line o r comes f

pub one_schedule_answer : (size : Size) (claims : Bool) (input : List ℕ) → HasOneAnswer size claims input
one_schedule_answer size claims input t u e f is other =
    one_input_answer (AnswersLine size) (IsClosing size claims) (λ W. IsRun size (run_of W)) (one_line answer_text size) (run_on answer_text size)
    (λ W x y r closed closed'. one_closing size claims W r x y closed closed') [] (run_none size) input t u e f is other
