-- Each call makes a bounded number of steps.
use Rattle.std.proofs.Common.{◌≡◌, ℕ, suc, ◌≤◌, Bool, true, false, cond, List, [], ◌∷◌, ◌++◌, length, map, Option, Some, None, Result, Ok, Err, refl, sym, ap, ◌∙◌, subst, arith}
use Rattle.std.proofs.lemmas.List.{length-append, length-map}
use Rattle.irp_core.specs.Programs.{Act}
use Rattle.irp_core.specs.Runs.{Size}
use Rattle.irp_core.specs.declared.ids.{IrpId.{IrpId}, Life.{Life}}
use Rattle.irp_core.specs.declared.step.Kind.{Kind}
use Rattle.csq_queue.proofs.Imports.{Test, Disarm, IrpLife, PassId, Made, Peek, InsertStatus, InsertAnswer, QueueState, Queued, Limits, HistoryEntry, PassRecord, IsLegal, end_of, entries_of, matches, marked, RemoveNext, gave, plain, last_step, listing_steps, made_by, misses, passed_over, remove_next_steps, remove_steps, reuse_steps, has_entry, has_marked, MakesSteps}
use Rattle.csq_queue.specs.declared.tokens.InsertAnswer.TheVariants.{Pending, Cancelled}
use Rattle.csq_queue.specs.declared.refusals.{CancelRefused.{CancelRefused, TheVariants.{UnknownIrp, Stale}}, ReuseRefused.{ReuseRefused}}
use Rattle.csq_queue.specs.Calls.{MarksCancel}
use Rattle.csq_queue.specs.Bounds.{MakesAtMost, LockedCallsAreShort, FreeCallsAreShort, CallsAreShort}
use Rattle.csq_queue.proofs.Crowding.{sound_later}

-- a call makes the steps that its record says
makes : (n : ℕ) (acts : List Act) (p p' : PassRecord) → MakesSteps acts p p' → length acts ≤ n → MakesAtMost n p p'
makes n acts p p' steps few = (made_by p.pass acts, steps.steps, subst (λ (m : ℕ). m ≤ n) (sym (length-map acts (λ (a : Act). record { pass = p.pass; kind = a.0; found = a.1 }))) few)

-- whichever of two it makes
either : (n : ℕ) (b : Bool) (xs ys : List Act) → length xs ≤ n → length ys ≤ n → length (cond b xs ys) ≤ n
either n true xs ys few few' = few
either n false xs ys few few' = few'

-- an insert or a put-back makes two or three
few_listing : (set : IrpLife → Kind) (answer : Result (InsertAnswer IrpLife IrpLife) InsertStatus) (u : QueueState) → length (listing_steps set answer u) ≤ 3
few_listing set (Err cause) u = omega arith
few_listing set (Ok (Cancelled i)) u = omega arith
few_listing set (Ok (Pending i)) u = either 3 (has_marked u.entries i) ((Disarm i, 0) ∷ (Test i, 1) ∷ (set i, 0) ∷ []) ((Test i, 0) ∷ (set i, 0) ∷ []) (omega arith) (omega arith)

few_removing : (i : IrpLife) (taken : Option IrpLife) (u : QueueState) → length (remove_steps i taken u) ≤ 2
few_removing i (Some j) u = omega arith
few_removing i None u = one_more (has_entry u.entries i)
  where
    one_more : (b : Bool) → length (last_step None ∷ misses (cond b (i ∷ []) [])) ≤ 2
    one_more true = omega arith
    one_more false = omega arith

few_renewing : (n : IrpId) (answer : Result Life ReuseRefused) → length (reuse_steps n answer) ≤ 1
few_renewing n (Ok life) = omega arith
few_renewing n (Err cause) = omega arith

-- no more is passed over than is listed
few_passed : (k : Peek) (taken : Option IrpLife) (es : List Queued) → length (passed_over k taken es) ≤ length es
few_passed k taken [] = omega arith
few_passed k taken (e ∷ es) = by_match (few_passed k taken es) (matches k e.file) (gave taken e.irp)
  where
    by_match : length (passed_over k taken es) ≤ length es → (b g : Bool) → length (cond b (cond g [] (passed_over k taken es ++ e.irp ∷ [])) (passed_over k taken es)) ≤ suc (length es)
    by_match rest true true = omega arith
    by_match rest true false = let long = length-append (passed_over k taken es) (e.irp ∷ []) in omega (arith, long, rest)
    by_match rest false g = omega (arith, rest)

-- what a legal history goes on from is legal
legal_before : (l : Limits) (newer history : List HistoryEntry) → IsLegal l (newer ++ history) → IsLegal l history
legal_before l [] history legal = legal
legal_before l (e ∷ newer) history legal = legal_before l newer history legal.1

locked : (limits : Limits) (history : List HistoryEntry) (p p' : PassRecord) → LockedCallsAreShort limits history p p'
locked limits history p p' = record {
  insert = λ irp file place answer h. makes 3 _ p p' h.steps (few_listing _ answer _);
  put_back = λ i place answer h. makes 3 _ p p' h.steps (few_listing _ answer _);
  remove_next = λ peek taken h.
      let u = end_of limits.first history in
      let is = passed_over peek taken u.entries in
      let count : length (remove_next_steps peek taken u) ≡ suc (length is) = ap suc (length-map is (λ (i : IrpLife). (Disarm i, 0))) in
      let legal = legal_before limits (entries_of p.pass (RemoveNext peek taken ∷ marked h.call.0)) history (subst (IsLegal limits) h.call.1.ends h.call.1.legal) in
      let room : length (map plain u.entries) ≤ limits.limit = (sound_later limits history legal).within_limit in
      let same : length (map plain u.entries) ≡ length u.entries = length-map u.entries plain in
      let listed = few_passed peek taken u.entries in
      let few : length (remove_next_steps peek taken u) ≤ suc (length is) = omega (arith, count) in
      let most : length is ≤ limits.limit = omega (arith, room, same, listed) in
      (makes (suc (length is)) (remove_next_steps peek taken u) p p' h.steps few, most);
  remove = λ i taken h. makes 2 _ p p' h.steps (few_removing i taken _);
  routine = λ i h. (_ ∷ [], ap (λ (r : PassRecord). r.steps) h.step, omega arith);
  reuse = λ irp answer h. makes 1 _ p p' h.steps (few_renewing irp answer);
}

-- a cancel up to its exchange makes two, or none if it is refused
few_marking : (size : Size) (p p' : PassRecord) (irp : IrpId) (life : Life) (answer : Result (Option IrpLife) CancelRefused) → MarksCancel irp life answer size p p' → MakesAtMost 2 p p'
few_marking size p p' irp life (Ok claim) h = (_ ∷ _ ∷ [], ap (λ (r : PassRecord). r.steps) h.step.1, omega arith)
few_marking size p p' irp life (Err UnknownIrp) h = ([], ap (λ (r : PassRecord). r.steps) h.refused.1, omega arith)
few_marking size p p' irp life (Err (Stale other)) h = ([], ap (λ (r : PassRecord). r.steps) h.refused.1, omega arith)

pub calls_short : CallsAreShort
calls_short = record {
  locked = locked;
  free = λ size p p'. record {
    mark = few_marking size p p';
    complete = λ i status h. (_ ∷ [], ap (λ (r : PassRecord). r.steps) h.step, omega arith);
  };
}
