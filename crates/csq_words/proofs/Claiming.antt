-- The one claim of an IRP, and the pass that made it.
use Rattle.std.proofs.Common.{◌≡◌, Bool, true, false, cond, ◌||◌, List, [], ◌∷◌, map, Some, refl, sym, ap, ◌∙◌}
use Rattle.csq_words.proofs.Imports.{by_value, PassId, NtStatus, CANCELLED, Kind, Done, Made, same_irp, same_kind, is, by, own, IrpLife, dones, same_irp-eq, same_pass-eq, same_some, removed_in, Completion, has_irp, is_done, with_done, completed_in, AreDue, status_recorded, any_filtered, own_made}
use Rattle.csq_words.proofs.Facts.{off, dones_some, completed_in_done}
use Rattle.csq_words.proofs.Keeping.{none_is}
use Rattle.csq_words.proofs.Truths.{own_any}

-- an IRP that was completed once was completed by a step of its own pass
pub done_own : (E : List Made) (d : Made) (i : IrpLife) → dones E i ≡ d ∷ [] → is_done (own d.pass E) i ≡ true
done_own [] d i h = absurd cc
done_own (m ∷ E) d i h = by_value (λ b. cond b (m ∷ dones E i) (dones E i) ≡ d ∷ [] → is_done (own d.pass (m ∷ E)) i ≡ true) (is (Done i) m)
    (λ e h. let same : m ≡ d = cc in own_made d.pass m E (ap (λ (x : Made). x.pass) same) (is (Done i)) e)
    (λ _ h. own_any d.pass m E (is (Done i)) (done_own E d i h)) h

-- what the steps completed is among what they completed, and a record of that has a status of each
pub completed_has : (steps : List Made) (i : IrpLife) → is_done steps i ≡ true → has_irp (completed_in steps) i ≡ true
completed_has [] i h = h
completed_has (m ∷ steps) i h = go m.kind (completed_has steps i) h
  where
    go : (k : Kind) → (is_done steps i ≡ true → has_irp (completed_in steps) i ≡ true) → (same_kind k (Done i) || is_done steps i) ≡ true → has_irp (with_done k (completed_in steps)) i ≡ true
    go (Done j) rest h = by_value (λ b. (b || is_done steps i) ≡ true → (b || has_irp (completed_in steps) i) ≡ true) (same_irp j i) (λ _ h. refl) (λ _ h. rest h) h
    go k rest h = rest h

pub has_status : (cs : List Completion) (i : IrpLife) → has_irp (map (λ (c : Completion). c.irp) cs) i ≡ true → (status : NtStatus) × (status_recorded i cs ≡ Some status)
has_status [] i h = off h
has_status (c ∷ cs) i h = go (same_irp c.irp i) (has_status cs i) h
  where
    go : (b : Bool) → (has_irp (map (λ (c : Completion). c.irp) cs) i ≡ true → (status : NtStatus) × (status_recorded i cs ≡ Some status)) → (b || has_irp (map (λ (c : Completion). c.irp) cs) i) ≡ true
        → (status : NtStatus) × (cond b (Some c.status) (status_recorded i cs) ≡ Some status)
    go true rest h = (c.status, refl)
    go false rest h = rest h

-- the status that was recorded was due
pub recorded_due : (steps : List Made) (cs : List Completion) (i : IrpLife) (status : NtStatus) → AreDue steps cs → status_recorded i cs ≡ Some status → removed_in steps i ≡ false → status ≡ CANCELLED
recorded_due steps [] i status h e n = none_is status e
recorded_due steps (c ∷ cs) i status h e n = by_value (λ b. cond b (Some c.status) (status_recorded i cs) ≡ Some status → status ≡ CANCELLED) (same_irp c.irp i)
    (λ x e. sym (same_some c.status status e) ∙ h.0 (ap (removed_in steps) (same_irp-eq c.irp i x) ∙ n))
    (λ _ e. recorded_due steps cs i status h.1 e n) e

-- an IRP that was completed once, and by a step of p, was completed by p
pub done_by : (E : List Made) (d : Made) (i : IrpLife) (p : PassId) → dones E i ≡ d ∷ [] → is_done (own p E) i ≡ true → d.pass ≡ p
done_by [] d i p h o = absurd cc
done_by (m ∷ E) d i p h o = go (done_by E d i p) (is (Done i) m) (by p m) refl refl h o
  where
    go : (dones E i ≡ d ∷ [] → is_done (own p E) i ≡ true → d.pass ≡ p) → (b c : Bool) → is (Done i) m ≡ b → by p m ≡ c
        → cond b (m ∷ dones E i) (dones E i) ≡ d ∷ [] → is_done (cond c (m ∷ own p E) (own p E)) i ≡ true → d.pass ≡ p
    go rest false false e f h o = rest h o
    go rest false true e f h o = rest h (ap (λ b. b || is_done (own p E) i) (sym e) ∙ o)
    go rest true true e f h o = let same : m ≡ d = cc in ap (λ (x : Made). x.pass) (sym same) ∙ same_pass-eq m.pass p f
    go rest true false e f h o = let none : dones E i ≡ [] = cc in absurd (dones_some E i (any_filtered (is (Done i)) (by p) E o) none)

-- the IRP of a status that was recorded was completed by a step
pub recorded_done : (steps : List Made) (cs : List Completion) (i : IrpLife) (status : NtStatus) → map (λ (c : Completion). c.irp) cs ≡ completed_in steps → status_recorded i cs ≡ Some status → is_done steps i ≡ true
recorded_done steps cs i status are h = completed_in_done steps i (ap (λ is. has_irp is i) (sym are) ∙ recorded_has cs h)
  where
    recorded_has : (cs : List Completion) → status_recorded i cs ≡ Some status → has_irp (map (λ (c : Completion). c.irp) cs) i ≡ true
    recorded_has [] h = none_is status h
    recorded_has (c ∷ cs) h = by_value (λ b. cond b (Some c.status) (status_recorded i cs) ≡ Some status → (b || has_irp (map (λ (c : Completion). c.irp) cs) i) ≡ true) (same_irp c.irp i)
        (λ _ h. refl)
        (λ _ h. recorded_has cs h) h
