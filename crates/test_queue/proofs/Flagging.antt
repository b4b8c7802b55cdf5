-- An insert or a put-back of an IRP that was flagged before.
use Rattle.std.proofs.Common.{◌≡◌, ℕ, ◌==◌, ◌&&◌, ◌||◌, Bool, true, false, true≢false, List, [], ◌∷◌, ◌++◌, Ok, refl, sym, ap, ◌∙◌, subst}
use Rattle.std.proofs.lemmas.Bool.{or_right}
use Rattle.std.proofs.lemmas.List.{append_cancel_right}
use Rattle.std.specs.List.{list_any}
use Rattle.irp_core.specs.Steps.{is, by, own, same_irp}
use Rattle.irp_core.specs.declared.ids.IrpLife.{IrpLife}
use Rattle.irp_core.specs.Words.{bit, flagged, found_by}
use Rattle.irp_core.specs.Owners.{taken}
use Rattle.irp_core.specs.Runs.{Size, IsRun}
use Rattle.irp_core.specs.declared.step.Kind.{Kind}
use Rattle.irp_core.specs.declared.step.Kind.TheVariants.{Arm, Test, Disarm, End, Flag, Take, Out, Done, Renew, Rearm}
use Rattle.irp_core.specs.declared.step.Made.{Made}
use Rattle.irp_core.proofs.Names.{same_irp-eq, same_irp-refl}
use Rattle.irp_core.proofs.Growing.{run_less, run_last}
use Rattle.csq_words.proofs.Traced.{steps_extended}
use Rattle.csq_words.specs.Traces.{steps_in}
use Rattle.csq_words.specs.declared.views.PassRecord.{PassRecord}
use Rattle.csq_words.specs.Queue.{has_marked}
use Rattle.csq_words.specs.History.{end_of, IsExtendedBy}
use Rattle.csq_words.proofs.Marks.{marked_taken}
use Rattle.irp_core.proofs.Own.{any_filtered}
use Rattle.csq_queue.specs.Steps.{made_by, listing_steps}
use Rattle.csq_queue.specs.Effects.{SeesRun}
use Rattle.csq_queue.specs.declared.tokens.InsertAnswer.TheVariants.{Pending}
use Rattle.csq_queue.proofs.Meeting.{own-append}

-- a flag stays set
pub flag_stays : (i : IrpLife) (shorter longer : List Made) → IsExtendedBy shorter longer → flagged shorter i ≡ true → flagged longer i ≡ true
flag_stays i shorter longer h set = ap (λ (l : List Made). flagged l i) h.1 ∙ go h.0
  where
    go : (newer : List Made) → flagged (newer ++ shorter) i ≡ true
    go [] = set
    go (m ∷ newer) = or_right (is (Flag i) m) (flagged (newer ++ shorter) i) (go newer)

-- the step tests the flag of i and finds it clear
abbrev finds_clear : IrpLife → Made → Bool
finds_clear i m = is (Test i) m && (m.found == 0)

-- once a flag is set, no test finds it clear
none_clear : (size : Size) (i : IrpLife) (older newer : List Made) → flagged older i ≡ true → IsRun size (newer ++ older) → list_any (finds_clear i) newer ≡ false
none_clear size i older [] set r = refl
none_clear size i older (m ∷ newer) set r =
    let rest = none_clear size i older newer set (run_less size m (newer ++ older) r) in
    let found = (run_last size m (newer ++ older) r).found in
    let on = flag_stays i older (newer ++ older) (newer, refl) set in
    λ k. (head m.kind m.found found on k || rest k)
  where
    seen : (j : IrpLife) (n : ℕ) → n ≡ bit (flagged (newer ++ older) j) → flagged (newer ++ older) i ≡ true → (b : Bool) → same_irp j i ≡ b → (b && (n == 0)) ≡ false
    seen j n e on true same = ap (λ (x : ℕ). x == 0) (e ∙ ap bit (ap (flagged (newer ++ older)) (same_irp-eq j i same) ∙ on))
    seen j n e on false same = refl

    head : (kind : Kind) (n : ℕ) → n ≡ found_by (newer ++ older) kind → flagged (newer ++ older) i ≡ true → (is (Test i) (record { pass = m.pass; kind = kind; found = n }) && (n == 0)) ≡ false
    head (Test j) n e on = seen j n e on (same_irp j i) refl
    head (Arm j) n e on = refl
    head (Disarm j) n e on = refl
    head End n e on = refl
    head (Flag j) n e on = refl
    head (Take j) n e on = refl
    head (Out j) n e on = refl
    head (Done j) n e on = refl
    head (Renew j) n e on = refl
    head (Rearm j) n e on = refl

-- an insert or a put-back that leaves a flagged IRP pending was made where a canceller has its routine
pub pending_taken : (sets : IrpLife → Kind) (size : Size) (i : IrpLife) (old new : PassRecord) → new.pass ≡ old.pass → flagged (steps_in old.trace) i ≡ true → IsExtendedBy old.trace new.trace → old.steps ≡ own old.pass (steps_in old.trace) → SeesRun size new
    → new.steps ≡ made_by old.pass (listing_steps sets (Ok (Pending i)) (end_of size.first new.seen)) ++ old.steps → taken (steps_in new.trace) i ≡ true
pending_taken sets size i old new same set follows steps sees made = go (has_marked (end_of size.first new.seen).entries i) refl
  where
    go : (b : Bool) → has_marked (end_of size.first new.seen).entries i ≡ b → taken (steps_in new.trace) i ≡ true
    go true e = marked_taken size.first (steps_in new.trace) new.seen i sees.agrees.history_is.true_of e
    go false e =
        let later = steps_extended follows in
        let newer = later.0 in
        let whole : new.steps ≡ own old.pass newer ++ own old.pass (steps_in old.trace) = sees.agrees.pass_is.steps_is ∙ (ap (λ p. own p (steps_in new.trace)) same ∙ (ap (own old.pass) later.1 ∙ own-append old.pass newer (steps_in old.trace))) in
        let acts : new.steps ≡ made_by old.pass ((Test i, 0) ∷ (sets i, 0) ∷ []) ++ old.steps = made ∙ rw e refl in
        let mine : own old.pass newer ≡ made_by old.pass ((Test i, 0) ∷ (sets i, 0) ∷ []) = append_cancel_right (own old.pass newer) (made_by old.pass ((Test i, 0) ∷ (sets i, 0) ∷ [])) old.steps (ap (λ l. own old.pass newer ++ l) steps ∙ (sym whole ∙ acts)) in
        let clear : list_any (finds_clear i) (own old.pass newer) ≡ true = ap (list_any (finds_clear i)) mine ∙ ap (λ b. (b && true) || (finds_clear i (record { pass = old.pass; kind = sets i; found = 0 }) || false)) (same_irp-refl i) in
        let none' = none_clear size i (steps_in old.trace) newer set (subst (IsRun size) later.1 sees.agrees.history_is.is_run) in
        absurd (true≢false (sym (any_filtered (finds_clear i) (by old.pass) newer clear) ∙ none'))
