-- The words of IRPs in a run are those that the protocol says they are.
use Rattle.std.proofs.Common.{◌≡◌, ℕ, ◌+◌, ◌≤◌, ◌<◌, Bool, true, false, cond, not, ◌&&◌, ◌||◌, List, [], ◌∷◌, refl, ap, sym, ◌∙◌, subst, arith}
use Rattle.std.proofs.lemmas.Bool.{and_parts, lt-ltb}
use Rattle.irp_core.specs.declared.ids.{IrpId.{IrpId}, IrpLife.{IrpLife}, PassId.{PassId}}
use Rattle.irp_core.specs.declared.step.{Kind.{Kind, TheVariants.{Arm, Test, Disarm, End, Flag, Take, Out, Done, Renew, Rearm}}, Made.{Made}}
use Rattle.irp_core.specs.Lives.{last_life, renews, present_life, present, IsPresent}
use Rattle.irp_core.specs.Runs.{Size, IsRun, EachRunFrom, MayFollow}
use Rattle.irp_core.specs.Steps.{life_of, same_irp, same_id}
use Rattle.irp_core.specs.Words.{bit, flagged, armed, found_by}
use Rattle.irp_core.proofs.Growing.{run_less}
use Rattle.irp_core.proofs.Lives.{life_same, life_next, used_begun, armed_present, listed_present, held_present}
use Rattle.irp_core.proofs.MachineStates.{tested_present}
use Rattle.irp_core.proofs.Names.{named, other_irp, same_id-eq, same_irp-eq, same_irp-refl}
use Rattle.csq_explain.specs.declared.line_steps.LineStep.{LineStep}
use Rattle.csq_explain.specs.LineSteps.{made_in}
use Rattle.csq_explain.specs.Laws.{TheWordsAreTheRuns, EachNextStepFindsTheWords}
use Rattle.csq_explain.specs.WordValues.{words_after, words_with, words_of, clear_words, changed, found_after}

-- a name of the present life of an IRP is the one that the run has
is_present : (first : ℕ) (E : List Made) (i : IrpLife) (n : IrpId) → i.irp ≡ n → IsPresent first E i → i ≡ present first E n
is_present first E i n e now = named i (present first E n) (ap (λ (x : IrpId). x.0) e) (now ∙ ap (λ x. present_life first E x) e)

-- a step that doesn't renew the IRP: the words of i go on as the protocol says
module _ (p : PassId) (v : ℕ) (E : List Made) (i : IrpLife) where
  abbrev then_made : Kind → List Made
  then_made k = record { pass = p; kind = k; found = v } ∷ E

  words_kept : (k : Kind) → renews i.irp k ≡ false → words_with (words_of E i) k ≡ words_of (then_made k) i
  words_kept (Arm j) e = go (same_irp j i)
    where
      go : (b : Bool) → cond b (changed (words_of E i) (Arm j)) (words_of E i) ≡ record { name = i; flag = flagged E i; routine = (b || false) || armed E i }
      go true = refl
      go false = refl
  words_kept (Rearm j) e = go (same_irp j i)
    where
      go : (b : Bool) → cond b (changed (words_of E i) (Rearm j)) (words_of E i) ≡ record { name = i; flag = flagged E i; routine = b || armed E i }
      go true = refl
      go false = refl
  words_kept (Disarm j) e = go (same_irp j i)
    where
      go : (b : Bool) → cond b (changed (words_of E i) (Disarm j)) (words_of E i) ≡ record { name = i; flag = flagged E i; routine = not (b || false) && armed E i }
      go true = refl
      go false = refl
  words_kept (Take j) e = go (same_irp j i)
    where
      go : (b : Bool) → cond b (changed (words_of E i) (Take j)) (words_of E i) ≡ record { name = i; flag = flagged E i; routine = not b && armed E i }
      go true = refl
      go false = refl
  words_kept (Flag j) e = go (same_irp j i)
    where
      go : (b : Bool) → cond b (changed (words_of E i) (Flag j)) (words_of E i) ≡ record { name = i; flag = b || flagged E i; routine = armed E i }
      go true = refl
      go false = refl
  words_kept (Test j) e = go (same_irp j i)
    where
      go : (b : Bool) → cond b (words_of E i) (words_of E i) ≡ words_of E i
      go true = refl
      go false = refl
  words_kept (Out j) e = go (same_irp j i)
    where
      go : (b : Bool) → cond b (words_of E i) (words_of E i) ≡ words_of E i
      go true = refl
      go false = refl
  words_kept (Done j) e = go (same_irp j i)
    where
      go : (b : Bool) → cond b (words_of E i) (words_of E i) ≡ words_of E i
      go true = refl
      go false = refl
  words_kept End e = refl
  words_kept (Renew j) e = rw (other_irp j i e) refl

-- a renew of IRP n: its words are clear, and so are those of a life that the run hasn't come to
module _ (size : Size) (p : PassId) (j : IrpLife) (v : ℕ) (E : List Made) (r : IsRun size (record { pass = p; kind = Renew j; found = v } ∷ E)) (n : IrpId) (e : same_id j.irp n ≡ true) where
  abbrev m : Made
  m = record { pass = p; kind = Renew j; found = v }

  abbrev first : ℕ
  first = size.first

  abbrev next : IrpLife
  next = present first (m ∷ E) n

  before : IsRun size E
  before = run_less size m E r

  is_next : present_life first (m ∷ E) n ≡ present_life first E n + 1
  is_next = life_next first m E n e

  flag_clear : (b : Bool) → flagged E next ≡ b → b ≡ false
  flag_clear false f = refl
  flag_clear true f =
      let begun = used_begun size E before next (rw f refl) in
      let up = is_next in
      let to : present_life first (m ∷ E) n ≤ present_life first E n = begun.1 in
      absurd (omega (arith, up, to))

  routine_clear : (b : Bool) → armed E next ≡ b → b ≡ false
  routine_clear false f = refl
  routine_clear true f =
      let now : present_life first (m ∷ E) n ≡ present_life first E n = armed_present size E before next f in
      let up = is_next in
      absurd (omega (arith, up, now))

  one : j ≡ present first E n
  one = is_present first E j n (same_id-eq j.irp n e) r.owned.0.0

  words_renewed : words_with (words_of E (present first E n)) (Renew j) ≡ words_of (m ∷ E) next
  words_renewed =
      let room : present_life first E n < last_life = subst (λ (i : IrpLife). life_of i < last_life) one r.owned.0.2 in
      let same : same_irp j (present first E n) ≡ true = subst (λ (i : IrpLife). same_irp j i ≡ true) one (same_irp-refl j) in
      let clear : clear_words n (present_life first E n + 1) ≡ words_of E next = rw (flag_clear (flagged E next) refl, routine_clear (armed E next) refl, is_next) refl in
      rw (same, lt-ltb (present_life first E n) last_life room) clear

-- one step more
words_next : (size : Size) (p : PassId) (k : Kind) (v : ℕ) (E : List Made) → IsRun size (record { pass = p; kind = k; found = v } ∷ E) → (n : IrpId) (b : Bool) → renews n k ≡ b
    → words_with (words_of E (present size.first E n)) k ≡ words_of (record { pass = p; kind = k; found = v } ∷ E) (present size.first (record { pass = p; kind = k; found = v } ∷ E) n)
words_next size p (Renew j) v E r n true e = words_renewed size p j v E r n e
words_next size p k v E r n true e = absurd cc
words_next size p k v E r n false e =
    let m : Made = record { pass = p; kind = k; found = v } in
    let now = present size.first E n in
    let kept = words_kept p v E now k e in
    let same : now ≡ present size.first (m ∷ E) n = named now (present size.first (m ∷ E) n) refl (sym (life_same size.first m E n e)) in
    kept ∙ ap (λ (i : IrpLife). words_of (m ∷ E) i) same

pub run_words : EachRunFrom TheWordsAreTheRuns
run_words size [] r z n = ap (λ l. clear_words n l) (sym (z ∙ refl)) ∙ ap (λ (l : ℕ). clear_words n l) (omega arith)
run_words size (m ∷ E) r z n =
    ap (λ w. words_with w m.kind) (run_words size E (run_less size m E r) z n)
    ∙ words_next size m.pass m.kind m.found E r n (renews n m.kind) refl

-- what is found in the words of an IRP by a step of its present life
found_present : (size : Size) (E : List Made) → IsRun size E → size.first ≡ 0 → (i : IrpLife) → IsPresent size.first E i → words_after E i.irp ≡ words_of E i
found_present size E r z i now = run_words size E r z i.irp ∙ ap (λ (x : IrpLife). words_of E x) (sym (is_present size.first E i i.irp refl now))

-- a take of another life finds none
taken_late : (E : List Made) (i now : IrpLife) → armed E i ≡ false → (b : Bool) → same_irp i now ≡ b → 0 ≡ cond b (bit (armed E now)) 0
taken_late E i now a true s = sym (ap (λ (x : IrpLife). bit (armed E x)) (sym (same_irp-eq i now s)) ∙ ap bit a)
taken_late E i now a false s = refl

found_taken : (size : Size) (E : List Made) → IsRun size E → size.first ≡ 0 → (i : IrpLife) (b : Bool) → armed E i ≡ b → bit (armed E i) ≡ found_after E (Take i)
found_taken size E r z i true a = rw (found_present size E r z i (armed_present size E r i a), same_irp-refl i) refl
found_taken size E r z i false a = let now = present size.first E i.irp in rw (a, run_words size E r z i.irp) (taken_late E i now a (same_irp i now) refl)

-- a step that reads no word finds 0
found_nothing : (b : Bool) → bit false ≡ cond b 0 0
found_nothing true = refl
found_nothing false = refl

-- what the protocol says that a step finds is what the words hold
found_is : (size : Size) (E : List Made) → IsRun size E → size.first ≡ 0 → (p : PassId) (k : Kind) (v : ℕ) → MayFollow size E (record { pass = p; kind = k; found = v }) → found_by E k ≡ found_after E k
found_is size E r z p (Arm i) v f = rw (found_present size E r z i f.owned.1, same_irp-refl i) refl
found_is size E r z p (Test i) v f = rw (found_present size E r z i (tested_present size E r p i f.next), same_irp-refl i) refl
found_is size E r z p (Disarm i) v f = rw (found_present size E r z i (listed_present size E r i f.owned), same_irp-refl i) refl
found_is size E r z p (Flag i) v f = rw (found_present size E r z i f.owned, same_irp-refl i) refl
found_is size E r z p (Rearm i) v f = rw (found_present size E r z i (held_present size E r i p (and_parts _ _ f.owned).0), same_irp-refl i) refl
found_is size E r z p (Take i) v f = found_taken size E r z i (armed E i) refl
found_is size E r z p End v f = refl
found_is size E r z p (Out i) v f = found_nothing (same_irp i (words_after E i.irp).name)
found_is size E r z p (Done i) v f = found_nothing (same_irp i (words_after E i.irp).name)
found_is size E r z p (Renew i) v f = found_nothing (same_irp i (words_after E i.irp).name)

pub found_words : (size : Size) (V : List LineStep) → IsRun size (made_in V) → EachNextStepFindsTheWords size V
found_words size V r z n m f =
    let with_value : ℕ → LineStep = λ v. record { line = n; made = record { pass = m.pass; kind = m.kind; found = v } } in
    ap with_value (sym (f.found ∙ found_is size (made_in V) r z m.pass m.kind m.found f))
