-- The matches that a removal passes over.
use Rattle.std.proofs.Common.{◌≡◌, ℕ, not, ◌&&◌, cond, Bool, true, false, true≢false, List, [], ◌∷◌, ◌++◌, map, Option, Some, None, refl, sym, ap, ◌∙◌, append_assoc, append-nil}
use Rattle.csq_queue.proofs.Imports.{by_test, false_from_ne_true, or_parts, same_irp, IrpLife, PassId, same_irp-eq, Peek, matches, HistoryEntry, QueueRecord, Queued, has_marked, marking, first_unmarked, plain, end_of, queue_of, entries_of, with_events, none_head, same_irp-is, marked, gave, passed_over}
use Rattle.csq_list.specs.Searches as list

-- of a part in which nothing was given out all matches were passed over
pub passed-append : (k : Peek) (xs ys : List Queued) → passed_over k None (xs ++ ys) ≡ passed_over k None ys ++ passed_over k None xs
passed-append k [] ys = sym (append-nil (passed_over k None ys))
passed-append k (e ∷ xs) ys = at (matches k e.file) (passed-append k xs ys)
  where
    at : (b : Bool) → passed_over k None (xs ++ ys) ≡ passed_over k None ys ++ passed_over k None xs
        → cond b (passed_over k None (xs ++ ys) ++ e.irp ∷ []) (passed_over k None (xs ++ ys)) ≡ passed_over k None ys ++ cond b (passed_over k None xs ++ e.irp ∷ []) (passed_over k None xs)
    at true h = ap (λ (is : List IrpLife). is ++ e.irp ∷ []) h ∙ append_assoc (passed_over k None ys) (passed_over k None xs) (e.irp ∷ [])
    at false h = h

-- where each match is marked, and i isn't, i is none of them
pub passed-up_to : (k : Peek) (i : IrpLife) (xs ys : List Queued) → first_unmarked k xs ≡ None → has_marked (xs ++ ys) i ≡ false → passed_over k (Some i) (xs ++ ys) ≡ passed_over k (Some i) ys ++ passed_over k None xs
passed-up_to k i [] ys h clear = sym (append-nil (passed_over k (Some i) ys))
passed-up_to k i (e ∷ xs) ys h clear = at (matches k e.file) refl (passed-up_to k i xs ys head.1 parts.1)
  where
    head : ((not e.marked && matches k e.file) ≡ false) × (first_unmarked k xs ≡ None)
    head = none_head k e xs h

    parts : ((same_irp e.irp i && e.marked) ≡ false) × (has_marked (xs ++ ys) i ≡ false)
    parts = or_parts (same_irp e.irp i && e.marked) (has_marked (xs ++ ys) i) clear

    apart : (a m b : Bool) → b ≡ true → (not m && b) ≡ false → (a && m) ≡ false → a ≡ false
    apart false m b t u c = refl
    apart true true b t u c = absurd (true≢false c)
    apart true false b t u c = absurd (true≢false (sym t ∙ u))

    other : matches k e.file ≡ true → same_irp i e.irp ≡ false
    other t = false_from_ne_true (same_irp i e.irp) (λ s. true≢false (sym (same_irp-is e.irp i (sym (same_irp-eq i e.irp s))) ∙ apart (same_irp e.irp i) e.marked (matches k e.file) t head.0 parts.0))

    at : (b : Bool) → matches k e.file ≡ b → passed_over k (Some i) (xs ++ ys) ≡ passed_over k (Some i) ys ++ passed_over k None xs
        → cond b (cond (same_irp i e.irp) [] (passed_over k (Some i) (xs ++ ys) ++ e.irp ∷ [])) (passed_over k (Some i) (xs ++ ys)) ≡ passed_over k (Some i) ys ++ cond b (passed_over k None xs ++ e.irp ∷ []) (passed_over k None xs)
    at false t rest = rest
    at true t rest =
        ap (λ b. cond b [] (passed_over k (Some i) (xs ++ ys) ++ e.irp ∷ [])) (other t)
        ∙ (ap (λ (is : List IrpLife). is ++ e.irp ∷ []) rest ∙ append_assoc (passed_over k (Some i) ys) (passed_over k None xs) (e.irp ∷ []))

-- a match that is given out ends the search
pub passed-here : (k : Peek) (i : IrpLife) (e : Queued) (es : List Queued) → e.irp ≡ i → matches k e.file ≡ true → passed_over k (Some i) (e ∷ es) ≡ []
passed-here k i e es is m =
    ap (λ b. cond b (cond (same_irp i e.irp) [] (passed_over k (Some i) es ++ e.irp ∷ [])) (passed_over k (Some i) es)) m
    ∙ ap (λ b. cond b [] (passed_over k (Some i) es ++ e.irp ∷ [])) (same_irp-is i e.irp (sym is))

-- one match alone
pub passed-one : (k : Peek) (i : IrpLife) (e : Queued) → e.irp ≡ i → matches k e.file ≡ true → passed_over k None (e ∷ []) ≡ i ∷ []
passed-one k i e is m = ap (λ b. cond b (e.irp ∷ []) []) m ∙ ap (λ (j : IrpLife). j ∷ []) is

-- where nothing matches, nothing is passed over
pub passed-none : (k : Peek) (es : List Queued) → list.first_match k (map plain es) ≡ None → passed_over k None es ≡ []
passed-none k [] h = refl
passed-none k (e ∷ es) h = by_test (matches k e.file) (λ t. let s : Some e.irp.irp ≡ None = sym (rw t refl) ∙ h in absurd (cc)) (λ t. rw t (passed-none k es (rw t at h)))

-- a mark changes no match
pub passed-marking : (k : Peek) (given : Option IrpLife) (i : IrpLife) (es : List Queued) → passed_over k given (marking i es) ≡ passed_over k given es
passed-marking k given i [] = refl
passed-marking k given i (e ∷ es) = ap (λ (is : List IrpLife). cond (matches k e.file) (cond (gave given e.irp) [] (is ++ e.irp ∷ [])) is) (passed-marking k given i es)

-- nor do the marks of a removal
passed-marks : (k : Peek) (given : Option IrpLife) (p : PassId) (marks : List IrpLife) (first : ℕ) (h : List HistoryEntry) → passed_over k given (end_of first (entries_of p (marked marks) ++ h)).entries ≡ passed_over k given (end_of first h).entries
passed-marks k given p [] first h = refl
passed-marks k given p (i ∷ marks) first h = passed-marking k given i (end_of first (entries_of p (marked marks) ++ h)).entries ∙ passed-marks k given p marks first h

pub passed-later : (k : Peek) (given : Option IrpLife) (p : PassId) (marks : List IrpLife) (q q' : QueueRecord) → q' ≡ with_events p (marked marks) q → passed_over k given (queue_of q').entries ≡ passed_over k given (queue_of q).entries
passed-later k given p marks q q' is = ap (λ (z : QueueRecord). passed_over k given (queue_of z).entries) is ∙ passed-marks k given p marks q.first q.history
