-- A request that begins, or is refused for its file object, for the numbers or for the list.
use Rattle.std.proofs.Common.{◌≡◌, ℕ, ◌<◌, cond, Bool, true, false, List, [], ◌∷◌, length, Option, Some, None, refl, sym, ap, ◌∙◌, subst, find}
use Rattle.std.proofs.lemmas.Bool.{lt-leb}
use Rattle.std.specs.Prelude.{nat_le}
use Rattle.csq_ledger.proofs.Imports.{FileId, IrpId, Single, spot}
use Rattle.request_table.specs.declared.refusals.BeginRefused.{TheVariants.{UnknownFile, Closed, FileClosed, AllSpent, AllUnderWay}}
use Rattle.request_table.specs.declared.stage.Stage.{Stage, TheVariants.{Free, Listed}}
use Rattle.request_table.specs.Refusals.{is_cause, refusal_to_begin}
use Rattle.request_table.specs.Requests.{Requests, begun, stage_of, with_due}
use Rattle.csq_list.specs.declared.entry.Place.{Place}
use Rattle.csq_list.specs.declared.refusals.InsertStatus.{InsertStatus}
use Rattle.csq_list.specs.declared.refusals.InsertStatus.TheVariants as list
use Rattle.csq_words.specs.Queue.{refusal}
use Rattle.csq_queue.specs.Looks.{present_listing}
use Rattle.csq_ledger.specs.Ledgers.{IsLinked, IsSpotOf}
use Rattle.csq_ledger.specs.Moves.{Lists}
use Rattle.csq_ledger.specs.Refusals.{is_crowded}
use Rattle.csq_ledger.specs.Moves.{crowded}
use Rattle.csq_ledger.specs.Singles.{is_closed, limits_of, queue_in}
use Rattle.csq_ledger.proofs.Linking.{relinked, free_listed}

-- where no element passes the test, the first doesn't, nor do the rest
none_found : {X : Type 0} → (test : X → Bool) (x : X) (xs : List X) → find test (x ∷ xs) ≡ None → (test x ≡ false) × (find test xs ≡ None)
none_found {X} test x xs e = go (test x) refl e
  where
    go : (b : Bool) → test x ≡ b → cond b (Some x) (find test xs) ≡ None → (test x ≡ false) × (find test xs ≡ None)
    go false h f = (h, f)
    go true h f = absurd (cc)

-- a list that is full refuses for that
pub crowded_so : (full limit : Bool) (cause : InsertStatus) → cond full (Some list.FileFull) (cond limit (Some list.Full) None) ≡ Some cause → is_crowded cause ≡ true
crowded_so true limit cause e = let is : list.FileFull ≡ cause = cc in ap is_crowded (sym is)
crowded_so false true cause e = let is : list.Full ≡ cause = cc in ap is_crowded (sym is)
crowded_so false false cause e = absurd (cc)

module _ (s : Single) (t : Requests) (linked : IsLinked s t) (n : IrpId) (known : n.0 < length t.stages) (free : stage_of t n ≡ Free) where
  here : IsSpotOf Free (spot s n)
  here = subst (λ (x : Stage). IsSpotOf x (spot s n)) free (linked.spots n known)

  pub begin_unflagged : (spot s n).is_flagged ≡ false
  begin_unflagged = (here.home refl).1

  module _ (f : FileId) where
    pub begin_linked : (place : Place) (due : Option ℕ) (s' : Single) → Lists n f place s s' → IsLinked s' (with_due n due (begun n f t))
    begin_linked place due s' lists = relinked s t linked s' n lists.rest (with_due n due (begun n f t)) (Listed f) known refl refl (subst (IsSpotOf (Listed f)) (sym lists.spot_is) (free_listed (spot s n) f here))

    -- where the table has no cause, the queue's is that of its list
    module _ (none : refusal_to_begin t f ≡ None) where
      pub by_list : refusal (limits_of s) (queue_in s) n f ≡ crowded (present_listing s.queue.queue) f
      by_list =
          let first = none_found (is_cause t f) UnknownFile (Closed ∷ FileClosed ∷ AllSpent ∷ AllUnderWay ∷ []) none in
          let second = none_found (is_cause t f) Closed (FileClosed ∷ AllSpent ∷ AllUnderWay ∷ []) first.1 in
          let third = none_found (is_cause t f) FileClosed (AllSpent ∷ AllUnderWay ∷ []) second.1 in
          let irp : nat_le (limits_of s).irps n.0 ≡ false = lt-leb (limits_of s).irps n.0 (subst (λ (k : ℕ). n.0 < k) linked.irps known) in
          let file : nat_le (limits_of s).files f.0 ≡ false = ap (λ k. nat_le k f.0) (sym linked.files) ∙ first.0 in
          let closed : is_closed s f ≡ false = sym (linked.closed f) ∙ third.0 in
          rw (irp, file, (here.home refl).0, closed) refl

      pub crowded_only : (cause : InsertStatus) → refusal (limits_of s) (queue_in s) n f ≡ Some cause → (is_crowded cause ≡ true) × (crowded (present_listing s.queue.queue) f ≡ Some cause)
      crowded_only cause e = let full = sym by_list ∙ e in (crowded_so _ _ cause full, full)
