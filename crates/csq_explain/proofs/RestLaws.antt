-- In an execution that has come to rest nothing goes wrong.
use Rattle.std.proofs.Common.{◌≡◌, ◌≢◌, ℕ, ◌+◌, zero, suc, Bool, true, false, cond, not, ◌&&◌, List, [], ◌∷◌, ◌++◌, Option, Some, None, refl, ap, sym, ◌∙◌, subst, arith}
use Rattle.std.proofs.lemmas.Bool.{and_parts, lt-ltb, or_right}
use Rattle.std.specs.Option.{is_some}
use Rattle.irp_core.specs.declared.ids.{IrpId.{IrpId}, IrpLife.{IrpLife}, PassId.{PassId}}
use Rattle.irp_core.specs.declared.standing.{Standing.{Standing, TheVariants.{Home, Waiting, Owed, Held, Finished}}}
use Rattle.irp_core.specs.declared.step.{Kind.{Kind, TheVariants.{Arm, Test, Disarm, End, Flag, Take, Out, Done, Renew, Rearm}}, Made.{Made}}
use Rattle.irp_core.specs.Lives.{last_life, renews, present, IsPresent}
use Rattle.irp_core.specs.Owners.{dones, holds, listed, owes, taken}
use Rattle.irp_core.specs.Runs.{Size, IsRun, IsAtRest, MayTouch, OfIrp}
use Rattle.irp_core.specs.Standings.{is_finished, is_waiting, moved as stands_after, names, stands_home, stands_listed}
use Rattle.irp_core.specs.Steps.{life_of, same_irp}
use Rattle.irp_core.specs.Words.{armed, bit, flagged, found_by, was_armed}
use Rattle.irp_core.specs.Inside.{inside}
use Rattle.irp_core.proofs.Growing.{run_less}
use Rattle.irp_core.proofs.Lives.{life_next, life_same, used_begun, held_present, listed_present}
use Rattle.irp_core.proofs.Facts.{owed_listed}
use Rattle.irp_core.proofs.Names.{named, other_irp, same_id-eq, same_id-refl, same_irp-refl, same_pass-refl}
use Rattle.irp_core.proofs.Owning.{at_name, rest_flagged, stands}
use Rattle.irp_core.proofs.Rows.{DonesAre, Stands, stands_moved, stands_same}
use Rattle.csq_words.proofs.Facts.{taken_flagged}
use Rattle.csq_explain.specs.declared.harms.HarmAt.{HarmAt}
use Rattle.csq_explain.specs.declared.irp_record.IrpRecord.{IrpRecord}
use Rattle.csq_explain.specs.declared.line_steps.LineStep.{LineStep}
use Rattle.csq_explain.specs.declared.word_values.WordValues.{WordValues}
use Rattle.csq_explain.specs.Harms.{end_by, end_harm, end_harms, harm_at, harm_list, left_harm, lost_harm, out_harm, reuse_harm, step_harm, step_harms}
use Rattle.csq_explain.specs.IrpRecords.{moved, new_record, record_after, record_with, records}
use Rattle.csq_explain.specs.Laws.{NothingGoesWrongAtRest}
use Rattle.csq_explain.specs.LineSteps.{made_in}
use Rattle.csq_explain.specs.Tables.{table}
use Rattle.csq_explain.specs.WordValues.{words_of}
use Rattle.csq_explain.proofs.HarmLaws.{ended_is, ends_append}
use Rattle.csq_explain.proofs.Records.{words_recorded}
use Rattle.csq_explain.proofs.WordLaws.{run_words}

-- what is known of an IRP that stands so
abbrev Fits : Option LineStep → Option LineStep → Option LineStep → Standing → Type 0
Fits listed done stray s = (is_some listed ≡ stands_listed s) × (is_some done ≡ is_finished s) × (is_some stray ≡ false)

abbrev FitsIn : IrpRecord → Standing → Type 0
FitsIn r s = Fits r.listed r.done r.stray s

none_is : {A : Type 0} (o : Option A) → is_some o ≡ false → o ≡ None
none_is None e = refl
none_is (Some x) e = absurd cc

out_none : (x : LineStep) (l : Option LineStep) → is_some l ≡ true → out_harm x None l ≡ None
out_none x (Some listed) e = refl
out_none x None e = absurd cc

miss : (b : Bool) → (not b && false) ≡ false
miss true = refl
miss false = refl

-- a step of i does no harm, and leaves what fits how it then stands
module _ (size : Size) (p : PassId) (n v : ℕ) (E : List Made) where
  abbrev made : Kind → Made
  made k = record { pass = p; kind = k; found = v }

  abbrev step : Kind → LineStep
  step k = record { line = n; made = made k }

  abbrev IsQuiet : Kind → IrpLife → Option LineStep → Option LineStep → Option LineStep → Standing → Type 0
  IsQuiet k i l d t s =
      (harm_at (record { words = words_of E i; listed = l; done = d; stray = t }) (step k) ≡ None)
      × FitsIn (record_with (record { words = words_of E i; listed = l; done = d; stray = t }) (step k)) (stands_after k s p (inside E p))

  module _ (l d t : Option LineStep) where
    quiet_arm : (i : IrpLife) (s : Standing) → was_armed E i ≡ false → Stands E i s → Fits l d t s → IsQuiet (Arm i) i l d t s
    quiet_arm i Home h r f = rw (same_irp-refl i, none_is d f.1, none_is l f.0) (refl, (refl, refl, f.2))
    quiet_arm i s h r f = absurd (cc (h, r.ever_is))

    quiet_rearm : (i : IrpLife) (s : Standing) → holds E p i ≡ true → Stands E i s → Fits l d t s → IsQuiet (Rearm i) i l d t s
    quiet_rearm i (Held q status) h r f = rw (same_irp-refl i, none_is d f.1, none_is l f.0) (refl, (refl, refl, f.2))
    quiet_rearm i s h r f = absurd (cc (h, r.holding_is p))

    quiet_out : (i : IrpLife) (s : Standing) → owes E p i ≡ true → Stands E i s → Fits l d t s → IsQuiet (Out i) i l d t s
    quiet_out i (Owed q) h r f = rw (same_irp-refl i, none_is d f.1) (out_none (step (Out i)) l f.0, (refl, refl, f.2))
    quiet_out i s h r f = absurd (cc (h, r.owing_is p))

    quiet_done : (i : IrpLife) (s : Standing) → holds E p i ≡ true → Stands E i s → Fits l d t s → IsQuiet (Done i) i l d t s
    quiet_done i (Held q status) h r f = rw (same_irp-refl i, none_is d f.1, r.set_is, none_is t f.2) (refl, (f.0, refl, refl))
    quiet_done i s h r f = absurd (cc (h, r.holding_is p))

    quiet_disarm : (i : IrpLife) (s : Standing) → listed E i ≡ true → v ≡ bit (armed E i) → Stands E i s → Fits l d t s → IsQuiet (Disarm i) i l d t s
    quiet_disarm i Waiting h e r f = rw (same_irp-refl i, e, r.set_is) (refl, (refl, f.1, f.2))
    quiet_disarm i (Owed q) h e r f = rw (same_irp-refl i, e, r.set_is) (refl, f)
    quiet_disarm i Home h e r f = let no : false ≡ true = rw r.ever_is at h in absurd cc
    quiet_disarm i (Held q status) h e r f = let no : (true && false) ≡ true = rw (r.ever_is, r.left_is) at h in absurd cc
    quiet_disarm i (Finished status q) h e r f = let no : (true && false) ≡ true = rw (r.ever_is, r.left_is) at h in absurd cc

    missed : (i : IrpLife) (s : Standing) → v ≡ bit (armed E i) → is_waiting s ≡ false → stands_after (Take i) s p (inside E p) ≡ s → Stands E i s → Fits l d t s → IsQuiet (Take i) i l d t s
    missed i s e w m r f = rw (same_irp-refl i, m, e, r.set_is, w, miss (flagged E i)) (refl, f)

    quiet_take : (i : IrpLife) (s : Standing) → (v ≡ 1 → flagged E i ≡ true) → v ≡ bit (armed E i) → Stands E i s → Fits l d t s → IsQuiet (Take i) i l d t s
    quiet_take i Waiting g e r f = rw (same_irp-refl i, g (e ∙ ap bit r.set_is)) (refl, f)
    quiet_take i Home g e r f = missed i Home e refl refl r f
    quiet_take i (Owed q) g e r f = missed i (Owed q) e refl refl r f
    quiet_take i (Held q status) g e r f = missed i (Held q status) e refl refl r f
    quiet_take i (Finished status q) g e r f = missed i (Finished status q) e refl refl r f

  -- a step that doesn't renew
  quiet_step : (k : Kind) → ((i : IrpLife) → k ≡ Renew i → ⊥) → MayTouch size p k E → v ≡ found_by E k → ((i : IrpLife) → k ≡ Take i → v ≡ 1 → flagged E i ≡ true)
      → OfIrp (λ i. (l d t : Option LineStep) (s : Standing) → Stands E i s → Fits l d t s → IsQuiet k i l d t s) k
  quiet_step (Arm i) z m e g = λ l d t s r f. quiet_arm l d t i s m.0 r f
  quiet_step (Test i) z m e g = λ l d t s r f. rw (same_irp-refl i) (refl, f)
  quiet_step (Disarm i) z m e g = λ l d t s r f. quiet_disarm l d t i s m e r f
  quiet_step End z m e g = tt
  quiet_step (Flag i) z m e g = λ l d t s r f. rw (same_irp-refl i) (refl, (f.0, f.1, refl))
  quiet_step (Take i) z m e g = λ l d t s r f. quiet_take l d t i s (g i refl) e r f
  quiet_step (Out i) z m e g = λ l d t s r f. quiet_out l d t i s m r f
  quiet_step (Done i) z m e g = λ l d t s r f. quiet_done l d t i s m r f
  quiet_step (Renew i) z m e g = absurd (z i refl)
  quiet_step (Rearm i) z m e g = λ l d t s r f. quiet_rearm l d t i s (and_parts (holds E p i) _ m).0 r f

-- IRP n fits how it stands in its present life
abbrev Quiet : Size → List LineStep → IrpId → Type 0
Quiet size V n = (s : Standing) × Stands (made_in V) (present size.first (made_in V) n) s × FitsIn (record_after V n) s

finished_is : (s : Standing) (ms : List Made) → DonesAre s ms → ms ≢ [] → stands_listed s ≡ false
finished_is (Finished status p) ms h n = refl
finished_is s ms h n = absurd (n h)

reuse_none : (x : LineStep) (l : Option LineStep) → is_some l ≡ false → reuse_harm x l ≡ None
reuse_none x None e = refl
reuse_none x (Some listed) e = absurd cc

either_none : (b : Bool) → cond {A = Option HarmAt} b None None ≡ None
either_none true = refl
either_none false = refl

-- whether a step renews an IRP
abbrev is_renew : Kind → Bool
is_renew (Renew i) = true
is_renew k = false

no_renew : (k : Kind) → is_renew k ≡ false → (j : IrpLife) → k ≡ Renew j → ⊥
no_renew k e j is = let yes : is_renew k ≡ true = ap is_renew is in absurd (cc (e, yes))

not_lost_harm : (r : IrpRecord) (l : Option LineStep) → r.words.flag ≡ false → lost_harm r l ≡ None
not_lost_harm r (Some x) e = rw e refl
not_lost_harm r None e = refl

finished_end : (r : IrpRecord) (d : Option LineStep) → r.listed ≡ None → r.done ≡ d → is_some d ≡ true → end_harm r ≡ None
finished_end r (Some first) l e s = ap (end_by r) e ∙ ap (left_harm r first) l
finished_end r None l e s = absurd cc

ends_none : (f : ℕ → IrpRecord) (n : ℕ) → ((k : ℕ) → end_harm (f k) ≡ None) → end_harms (table f n) ≡ []
ends_none f zero h = refl
ends_none f (suc n) h = ends_append (table f n) (f n ∷ []) ∙ ap (λ hs. hs ++ end_harms (f n ∷ [])) (ends_none f n h) ∙ ap (λ o. harm_list o ++ []) (h n)

home_is : (s : Standing) → not (stands_home s) ≡ false → s ≡ Home
home_is Home e = refl
home_is s e = absurd cc

module _ (size : Size) (from : size.first ≡ 0) where
  -- what is known of an IRP is of its present life
  known_life : (V : List LineStep) → IsRun size (made_in V) → (n : IrpId) → (record_after V n).words ≡ words_of (made_in V) (present size.first (made_in V) n)
  known_life V r n = words_recorded V n ∙ run_words size (made_in V) r from n

  module _ (line v : ℕ) (p : PassId) (k : Kind) (V : List LineStep) (r : IsRun size (record { pass = p; kind = k; found = v } ∷ made_in V)) where
    abbrev m : Made
    m = record { pass = p; kind = k; found = v }

    abbrev x : LineStep
    x = record { line = line; made = m }

    abbrev E : List Made
    E = made_in V

    less : IsRun size E
    less = run_less size m E r

    now : IrpId → IrpLife
    now n = present size.first E n

    words_now : (n : IrpId) → (record_after V n).words ≡ words_of E (present size.first E n)
    words_now n = known_life V less n

    same : (n : IrpId) → renews n k ≡ false → present size.first E n ≡ present size.first (m ∷ E) n
    same n z = named (present size.first E n) (present size.first (m ∷ E) n) refl (sym (life_same size.first m E n z))

    -- a step of another IRP or another life
    quiet_other : (n : IrpId) → renews n k ≡ false → names (present size.first E n) k ≡ false → Quiet size V n → Quiet size (x ∷ V) n
    quiet_other n z e (s, st, f) =
        let choice : Bool → Type 0 = λ b. FitsIn (cond b (moved (record_after V n) x k) (record_after V n)) s in (
          s,
          subst (λ i. Stands (m ∷ E) i s) (same n z) (stands_same p k v E (present size.first E n) s e st),
          subst choice (sym (ap (λ (w : WordValues). names w.name k) (words_now n) ∙ e)) f,
        )

    flagged_taken : (i : IrpLife) → k ≡ Take i → v ≡ 1 → flagged E i ≡ true
    flagged_taken i e o =
        let P : Kind → ℕ → Type 0 = λ y u. (taken (record { pass = p; kind = y; found = u } ∷ E) i ≡ true → flagged (record { pass = p; kind = y; found = u } ∷ E) i ≡ true) in
        let all : P k v = taken_flagged size (m ∷ E) r i in
        let one : P (Take i) 1 = subst (λ y. P y 1) e (subst (λ u. P k u) o all) in
        one (rw same_irp-refl refl)

    -- a step of its present life
    own_quiet : (n : IrpId) → ((i : IrpLife) → k ≡ Renew i → ⊥) → renews n k ≡ false → names (present size.first E n) k ≡ true → Quiet size V n → (harm_at (record_after V n) x ≡ None) × Quiet size (x ∷ V) n
    own_quiet n nr z e (s, st, f) =
        let R = record_after V n in
        let P : IrpLife → Type 0 = λ i. (l d t : Option LineStep) (s : Standing) → Stands E i s → Fits l d t s
        → (harm_at (record { words = words_of E i; listed = l; done = d; stray = t }) x ≡ None)
        × FitsIn (record_with (record { words = words_of E i; listed = l; done = d; stray = t }) x) (stands_after k s p (inside E p)) in
        let Q : IrpLife → Type 0 = λ i. (s : Standing) → Stands E i s → Stands (m ∷ E) i (stands_after k s p (inside E p)) in
        let quiet = at_name P k (present size.first E n) e (quiet_step size p line v E k nr r.owned.0 r.found.0 flagged_taken) R.listed R.done R.stray s st f in
        let W : WordValues → Type 0 = λ w. (harm_at (record { words = w; listed = R.listed; done = R.done; stray = R.stray }) x ≡ None)
        × FitsIn (record_with (record { words = w; listed = R.listed; done = R.done; stray = R.stray }) x) (stands_after k s p (inside E p)) in
        let both : W R.words = subst W (sym (words_now n)) quiet in (
          both.0,
          (
            stands_after k s p (inside E p),
            subst (λ i. Stands (m ∷ E) i (stands_after k s p (inside E p))) (same n z) (at_name Q k (present size.first E n) e (stands_moved size p k v E r.owned.0 r.found.0) s st),
            both.1,
          ),
        )

  -- a renew of IRP n
  module _ (line v : ℕ) (p : PassId) (j : IrpLife) (V : List LineStep) (r : IsRun size (record { pass = p; kind = Renew j; found = v } ∷ made_in V)) where
    abbrev renew : Made
    renew = record { pass = p; kind = Renew j; found = v }

    before : IsRun size (made_in V)
    before = run_less size renew (made_in V) r

    one : j ≡ present size.first (made_in V) j.irp
    one = named j (present size.first (made_in V) j.irp) refl r.owned.0.0

    name_now : (record_after V j.irp).words.name ≡ j
    name_now = ap (λ (w : WordValues). w.name) (known_life V before j.irp) ∙ sym one

    renewed_now : record_after (record { line = line; made = renew } ∷ V) j.irp ≡ new_record j.irp (life_of j + 1)
    renewed_now = rw (name_now, same_irp-refl j, lt-ltb (life_of j) last_life r.owned.0.2) refl

    not_used : (b : Bool) → was_armed (renew ∷ made_in V) (present size.first (renew ∷ made_in V) j.irp) ≡ b → b ≡ false
    not_used false e = refl
    not_used true e =
        let begun = used_begun size (made_in V) before (present size.first (renew ∷ made_in V) j.irp) (or_right (flagged (made_in V) _) _ e) in
        let up = life_next size.first renew (made_in V) j.irp (same_id-refl j.irp) in
        let to = begun.1 in
        absurd (omega (arith, up, to))

    quiet_renewed : Quiet size (record { line = line; made = renew } ∷ V) j.irp
    quiet_renewed =
        let (s, st) = stands size (renew ∷ made_in V) r (present size.first (renew ∷ made_in V) j.irp) in
        let home : s ≡ Home = home_is s (sym st.ever_is ∙ not_used _ refl) in (
          s,
          st,
          subst (λ t. FitsIn (record_after (record { line = line; made = renew } ∷ V) j.irp) t) (sym home) (subst (λ q. FitsIn q Home) (sym renewed_now) (refl, refl, refl)),
        )

    renew_harm : Quiet size V j.irp → step_harm V (record { line = line; made = renew }) ≡ None
    renew_harm (s, st, f) =
        let R = record_after V j.irp in
        let x : LineStep = record { line = line; made = renew } in
        let done : dones (made_in V) (present size.first (made_in V) j.irp) ≢ [] = subst (λ (i : IrpLife). dones (made_in V) i ≢ []) one r.owned.0.1 in
        let finished = finished_is s (dones (made_in V) (present size.first (made_in V) j.irp)) st.dones_are done in
        let choice : Bool → Option HarmAt = λ b. cond b (reuse_harm x R.listed) None in
        ap choice (ap (λ i. same_irp j i) name_now ∙ same_irp-refl j) ∙ reuse_none x R.listed (f.0 ∙ finished)

  -- no step does harm
  module _ (line v : ℕ) (p : PassId) (V : List LineStep) (q : (n : IrpId) → Quiet size V n) where
    abbrev of : Kind → LineStep
    of k = record { line = line; made = record { pass = p; kind = k; found = v } }

    is_now : (j : IrpLife) → IsPresent size.first (made_in V) j → same_irp j (present size.first (made_in V) j.irp) ≡ true
    is_now j e = ap (λ i. same_irp j i) (sym (named j (present size.first (made_in V) j.irp) refl e)) ∙ same_irp-refl j

    no_harm : (k : Kind) → IsRun size ((of k).made ∷ made_in V) → step_harm V (of k) ≡ None
    no_harm (Arm j) r = (own_quiet line v p (Arm j) V r j.irp (λ i e. cc) refl (is_now j r.owned.0.1) (q j.irp)).0
    no_harm (Test j) r = either_none (names (record_after V j.irp).words.name (Test j))
    no_harm (Disarm j) r = either_none (names (record_after V j.irp).words.name (Disarm j))
    no_harm End r = refl
    no_harm (Flag j) r = either_none (names (record_after V j.irp).words.name (Flag j))
    no_harm (Take j) r = either_none (names (record_after V j.irp).words.name (Take j))
    no_harm (Out j) r =
        let less = run_less size (of (Out j)).made (made_in V) r in
        (own_quiet line v p (Out j) V r j.irp (λ i e. cc) refl (is_now j (listed_present size (made_in V) less j (owed_listed size (made_in V) less j p r.owned.0))) (q j.irp)).0
    no_harm (Done j) r = (own_quiet line v p (Done j) V r j.irp (λ i e. cc) refl (is_now j (held_present size (made_in V) (run_less size (of (Done j)).made (made_in V) r) j p r.owned.0)) (q j.irp)).0
    no_harm (Renew j) r = renew_harm line v p j V r (q j.irp)
    no_harm (Rearm j) r = (own_quiet line v p (Rearm j) V r j.irp (λ i e. cc) refl (is_now j (held_present size (made_in V) (run_less size (of (Rearm j)).made (made_in V) r) j p (and_parts (holds (made_in V) p j) _ r.owned.0).0)) (q j.irp)).0

    still_quiet : (k : Kind) → IsRun size ((of k).made ∷ made_in V) → (n : IrpId) → (b c : Bool) → renews n k ≡ b → names (present size.first (made_in V) n) k ≡ c → Quiet size (of k ∷ V) n
    still_quiet (Renew j) r n true c z e = subst (λ y. Quiet size (of (Renew j) ∷ V) y) (same_id-eq j.irp n z) (quiet_renewed line v p j V r)
    still_quiet (Renew j) r n false c z e = quiet_other line v p (Renew j) V r n z (other_irp j (present size.first (made_in V) n) z) (q n)
    still_quiet k r n true c z e = absurd cc
    still_quiet k r n false true z e = (own_quiet line v p k V r n (no_renew k refl) z e (q n)).1
    still_quiet k r n false false z e = quiet_other line v p k V r n z e (q n)

  quiet : (V : List LineStep) → IsRun size (made_in V) → (step_harms V ≡ []) × ((n : IrpId) → Quiet size V n)
  quiet [] r = (refl, λ n. (Home, record { ever_is = refl; set_is = refl; claims_are = refl; owing_is = λ p. refl; holding_is = λ p. refl; done_is = λ p. refl; dones_are = refl; left_is = refl; due = refl }, (refl, refl, refl)))
  quiet (y ∷ V) r =
      let rest = quiet V (run_less size y.made (made_in V) r) in (
        ap (λ hs. hs ++ harm_list (step_harm V y)) rest.0 ∙ ap harm_list (no_harm y.line y.made.found y.made.pass V rest.1 y.made.kind r),
        λ n. still_quiet y.line y.made.found y.made.pass V rest.1 y.made.kind r n (renews n y.made.kind) (names (present size.first (made_in V) n) y.made.kind) refl refl,
      )

  -- and in the end nothing is wrong with an IRP
  module _ (V : List LineStep) (r : IsRun size (made_in V)) (rest : IsAtRest (made_in V)) (n : IrpId) where
    abbrev last : IrpLife
    last = present size.first (made_in V) n

    abbrev R : IrpRecord
    R = record_after V n

    flag_is : R.words.flag ≡ flagged (made_in V) last
    flag_is = ap (λ (w : WordValues). w.flag) (known_life V r n)

    not_lost : (b : Bool) → flagged (made_in V) last ≡ b → listed (made_in V) last ≡ true → b ≡ false
    not_lost false e l = refl
    not_lost true e l = absurd (rest_flagged size (made_in V) r rest last (e, l))

    no_end : (s : Standing) → Stands (made_in V) last s → FitsIn R s → end_harm R ≡ None
    no_end Home st f = ended_is R None None None (none_is R.done f.1) (none_is R.stray f.2) (none_is R.listed f.0)
    no_end Waiting st f =
        let flag : R.words.flag ≡ false = flag_is ∙ not_lost (flagged (made_in V) last) refl (rw (st.ever_is, st.left_is) refl) in
        ended_is R None None R.listed (none_is R.done f.1) (none_is R.stray f.2) refl ∙ not_lost_harm R R.listed flag
    no_end (Owed p) st f = absurd (cc (rest.owed p last, st.owing_is p, same_pass-refl p))
    no_end (Held p status) st f = absurd (cc (rest.held p last, st.holding_is p, same_pass-refl p))
    no_end (Finished status p) st f = finished_end R R.done (none_is R.listed f.0) refl f.1

pub rests : (size : Size) (V : List LineStep) → IsRun size (made_in V) → NothingGoesWrongAtRest size V
rests size V r from rest =
    let q = quiet size from V r in
    ap (λ hs. hs ++ end_harms (records size.irps V)) q.0
    ∙ ends_none (λ n. record_after V (record { 0 = n })) size.irps (λ k. let (s, st, f) = q.1 (record { 0 = k }) in no_end size from V r rest (record { 0 = k }) s st f)
