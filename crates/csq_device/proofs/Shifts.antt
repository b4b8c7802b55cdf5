-- What the threads of a device hand back, and the queue that is closed with it.
use Rattle.std.proofs.Common.{◌≡◌, ◌≢◌, ℕ, zero, suc, ◌+◌, ◌<◌, ◌≤◌, ◌||◌, true, false, List, [], ◌∷◌, ◌++◌, length, refl, sym, ap, ◌∙◌, subst, ⊎_elim, arith}
use mathlib.Core.Option.{some}
use lib.ListN.{get_elem?}
use Rattle.csq_device.proofs.Imports.{Listing, PassRecord, FinalWords, Limits, cases_lt, or_right, same_pass, PassId, same_pass-is, pass_numbered, queue_size, is_back, FirstAreBack, IsRestOf, by_number, CallsByKind, Plan, completed_by, completed_count, has_reuse, HasServed, AreServed, AreReceipts, completions_of, IsShift}
use Rattle.csq_words.specs.declared.views.QueueRecord.{QueueRecord}
use Rattle.csq_words.specs.Rule.{HasBack}
use Rattle.csq_words.proofs.Indexes.{at_push}
use Rattle.csq_queue.proofs.Backing.{found_back}
use Rattle.csq_device.proofs.Handing.{handed_is_completed}

-- one thread more has ended
pub completions_of-push : (rs : List PassRecord) (r : PassRecord) → completions_of (rs ++ r ∷ []) ≡ completions_of rs + length r.completed
completions_of-push [] r = omega arith
completions_of-push (o ∷ rs) r = let rest = completions_of-push rs r in omega arith

pub one_more_served : (number completed : ℕ) (rs : List PassRecord) (r : PassRecord) → HasServed number completed r → number ≡ suc (length rs) → AreReceipts rs → AreReceipts (rs ++ r ∷ [])
one_more_served number completed rs r served next were = λ k o at. ⊎_elim
    (λ old. were k o old)
    (λ new. (
      ap (λ (x : PassRecord). x.pass) (sym new.1) ∙ (served.pass ∙ ap pass_numbered (next ∙ ap suc (sym new.0))),
      ap (λ (x : PassRecord). has_reuse x.mine) (sym new.1) ∙ served.none_reused,
    ))
    (at_push rs r o k at)

-- records of passes in their order, which came back
each_served : (q : QueueRecord) (from : ℕ) (rs : List PassRecord) → ((k : ℕ) (r : PassRecord) → get_elem? rs k ≡ some r → (r.pass ≡ pass_numbered (from + k)) × HasBack q r × (has_reuse r.mine ≡ false)) → AreServed q from rs
each_served q from [] h = tt
each_served q from (r ∷ rs) h =
    let first = h 0 r refl in
    let here : from + 0 ≡ from = omega arith in (
      first.0 ∙ ap pass_numbered here,
      first.1,
      first.2,
      each_served q (suc from) rs (λ k o at. let next = h (suc k) o at in let there : from + suc k ≡ suc from + k = omega arith in (next.0 ∙ ap pass_numbered there, next.1, next.2)),
    )

-- as many are completed as the threads counted
pub handed_over : (limits : Limits) (plan : Plan) (calls : CallsByKind) (cleaned : ℕ) (receipts : List PassRecord) (pass : PassRecord) (rack taken : ℕ) (listing : Listing) (finals : FinalWords)
    → IsShift limits plan calls cleaned receipts pass rack → IsRestOf limits pass receipts taken listing finals → completed_by calls + cleaned ≡ completed_count finals limits.irps
handed_over limits plan calls cleaned receipts pass rack taken listing finals shift rest =
    shift.handed_is
    ∙ (sym (completions_of-push receipts pass)
    ∙ (sym (handed_is_completed (queue_size limits) finals finals.queue rest.irps rest.back.made rest.last (receipts ++ pass ∷ []) all served)
    ∙ ap (completed_count finals) rest.irps))
  where
    all : length (receipts ++ pass ∷ []) ≡ limits.passes
    all = length-push receipts ∙ shift.all
      where
        length-push : (rs : List PassRecord) → length (rs ++ pass ∷ []) ≡ suc (length rs)
        length-push [] = refl
        length-push (r ∷ rs) = ap suc (length-push rs)

    served : AreServed finals.queue 1 (receipts ++ pass ∷ [])
    served = each_served finals.queue 1 (receipts ++ pass ∷ []) (λ k r at. ⊎_elim
        (λ old. let given = shift.given k r old in let one : suc k ≡ 1 + k = omega arith in (given.0 ∙ ap pass_numbered one, rest.back.given k r old, given.1))
        (λ new.
        let all' = shift.all in
        let at' = new.0 in
        let last : limits.passes ≡ 1 + k = omega arith in (
          ap (λ (x : PassRecord). x.pass) (sym new.1) ∙ (shift.last.0 ∙ ap pass_numbered last),
          subst (HasBack finals.queue) new.1 rest.back.closing,
          ap (λ (x : PassRecord). has_reuse x.mine) (sym new.1) ∙ shift.last.1,
        ))
        (at_push receipts pass r k at))

here_at : (rs : List PassRecord) (k : ℕ) → k < length rs → (r : PassRecord) × (get_elem? rs k ≡ some r)
here_at [] k l = absurd (none k l)
  where
    none : (k : ℕ) → k < 0 → ⊥
    none k l = omega arith
here_at (r ∷ rs) zero l = (r, refl)
here_at (r ∷ rs) (suc k) l = here_at rs k (omega arith)

-- each pass that was taken is the closing one, or has its receipt
pub all_back : (limits : Limits) (plan : Plan) (calls : CallsByKind) (cleaned : ℕ) (receipts : List PassRecord) (pass : PassRecord) (rack taken : ℕ) → IsShift limits plan calls cleaned receipts pass rack → taken ≤ limits.passes → FirstAreBack taken (pass ∷ receipts)
all_back limits plan calls cleaned receipts pass rack taken shift few zero low high = absurd (none low)
  where
    none : 1 ≤ 0 → ⊥
    none l = omega arith
all_back limits plan calls cleaned receipts pass rack taken shift few (suc k) low high = by_number (is_back p (pass ∷ receipts) ≡ true) (suc k) limits.passes
    (λ e. ap (λ b. b || is_back p receipts) (same_pass-is pass.pass p (shift.last.0 ∙ ap pass_numbered (sym e))))
    (λ ne. let at = here_at receipts k (inside ne) in or_right (same_pass pass.pass p) (is_back p receipts) (found_back receipts k at.0 p at.1 (shift.given k at.0 at.1).0))
  where
    p : PassId
    p = pass_numbered (suc k)

    inside : suc k ≢ limits.passes → k < length receipts
    inside ne = let all = shift.all in ⊎_elim (λ (less : suc k < limits.passes). omega arith) (λ (more : limits.passes ≤ suc k). absurd (ne (omega arith))) (cases_lt (suc k) limits.passes)
