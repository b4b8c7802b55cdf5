-- A request by its name.
use Rattle.std.proofs.Common.{ap, Some, None, Option, cond, ◌≡◌, ℕ, ◌<◌, ◌==◌, Bool, true, false, length, refl, sym, subst, eqb-true, ltb-true}
use Rattle.std.specs.Prelude.{nat_lt}
use Rattle.csq_ledger.proofs.Imports.{FileId, IrpLife, life_of, number, spot}
use Rattle.request_table.specs.declared.stage.{Why.{Why}, Stage.{Stage, TheVariants.{Taken, Ending, Spent}}}
use Rattle.request_table.specs.Requests.{stage_of}
use Rattle.csq_words.proofs.Named.{irp_eq}
use Rattle.csq_list.specs.declared.refusals.InsertStatus.{InsertStatus}
use Rattle.csq_list.specs.declared.refusals.InsertStatus.TheVariants as list
use Rattle.csq_checked.specs.declared.calls.PutBackRefused.{PutBackRefused as NotPutBack}
use Rattle.csq_checked.specs.declared.calls.PutBackRefused.TheVariants as not_back
use Rattle.csq_ledger.specs.declared.refusals.PutBackRefused.TheVariants as back
use Rattle.csq_ledger.specs.Moves.{back_cause}
use Rattle.csq_ledger.specs.Refusals.{by_put_back, may_refuse, refusal_of_list}
use Rattle.csq_ledger.specs.Ledgers.{IsLinked, IsSpotOf, LedgerState, named_stage}
use Rattle.csq_ledger.specs.Singles.{IsKnown, present}

-- a name of a stage that isn't Spent is of the present life
pub named_at : (s : LedgerState) (i : IrpLife) (stage : Stage) → stage ≡ named_stage s i → (stage ≡ Spent → ⊥) → (i ≡ present s.single i.irp) × (stage_of s.table i.irp ≡ stage)
named_at s i stage e there = go (life_of i == (spot s.single i.irp).life) refl e
  where
    go : (b : Bool) → (life_of i == (spot s.single i.irp).life) ≡ b → stage ≡ cond b (stage_of s.table i.irp) Spent → (i ≡ present s.single i.irp) × (stage_of s.table i.irp ≡ stage)
    go true same f = (irp_eq i (present s.single i.irp) refl (eqb-true (life_of i) (spot s.single i.irp).life same), sym f)
    go false other f = absurd (there f)

-- of an IRP that there is
module _ (s : LedgerState) (linked : IsLinked s.single s.table) (i : IrpLife) (inside : nat_lt (number i) (length s.table.stages) ≡ true) (stage : Stage) (e : stage ≡ named_stage s i) (there : stage ≡ Spent → ⊥) where
  pub in_table : number i < length s.table.stages
  in_table = ltb-true (number i) (length s.table.stages) inside

  pub is_known : IsKnown i s.single
  is_known = record { in_range = subst (λ (k : ℕ). number i < k) linked.irps in_table; is_present = (named_at s i stage e there).0 }

  pub spot_at : IsSpotOf stage (spot s.single i.irp)
  spot_at = subst (λ (x : Stage). IsSpotOf x (spot s.single i.irp)) (named_at s i stage e there).1 (linked.spots i.irp in_table)

-- such stages
pub taken_there : {f : FileId} {named : Option Why} → Taken f named ≡ Spent → ⊥
taken_there e = absurd cc

pub ending_there : {f : FileId} {why : Why} → Ending f why ≡ Spent → ⊥
ending_there e = absurd cc

-- a put-back that is accepted
pub accepted_back : (removed : Bool) (c : Option InsertStatus) → None ≡ back_cause removed c → (removed ≡ true) × (c ≡ None)
accepted_back true None e = (refl, refl)
accepted_back true (Some cause) e = absurd (cc)
accepted_back false c e = absurd (cc)

-- and one that isn't
pub refused_back : (removed flagged : Bool) (c : Option InsertStatus) (cause : NotPutBack) → Some cause ≡ back_cause removed c → Some (by_put_back cause) ≡ cond removed (refusal_of_list flagged c) (Some back.NotRemoved)
refused_back true flagged None cause e = absurd (cc)
refused_back true flagged (Some x) cause e = let is : cause ≡ not_back.ByQueue x = cc in ap (λ y. Some (by_put_back y)) is
refused_back false flagged c cause e = let is : cause ≡ not_back.NotRemoved = cc in ap (λ y. Some (by_put_back y)) is

pub may_refuse_it : (removed closed full limit : Bool) (cause : NotPutBack) → Some cause ≡ back_cause removed (cond closed (Some list.FileClosed) (cond full (Some list.FileFull) (cond limit (Some list.Full) None))) → may_refuse cause ≡ true
may_refuse_it false closed full limit cause e = let is : cause ≡ not_back.NotRemoved = cc in ap may_refuse is
may_refuse_it true true full limit cause e = let is : cause ≡ not_back.ByQueue list.FileClosed = cc in ap may_refuse is
may_refuse_it true false true limit cause e = let is : cause ≡ not_back.ByQueue list.FileFull = cc in ap may_refuse is
may_refuse_it true false false true cause e = let is : cause ≡ not_back.ByQueue list.Full = cc in ap may_refuse is
may_refuse_it true false false false cause e = absurd (cc)

pub never_cancelled : (cause : NotPutBack) → Some (by_put_back cause) ≡ Some back.Cancelled → ⊥
never_cancelled (not_back.ByQueue list.FileClosed) e = cc
never_cancelled (not_back.ByQueue list.FileFull) e = cc
never_cancelled (not_back.ByQueue list.Full) e = cc
never_cancelled (not_back.ByQueue other) e = cc
never_cancelled not_back.NotRemoved e = cc
never_cancelled not_back.UnknownIrp e = cc
never_cancelled not_back.NotHeld e = cc
