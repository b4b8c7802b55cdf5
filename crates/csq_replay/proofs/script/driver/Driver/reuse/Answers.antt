use Rattle.std.proofs.Common.{◌≡◌, ◌<◌, ◌+◌, not, Some, None, refl, sym, ap, ◌∙◌, subst, arith}
use Rattle.csq_replay.proofs.Imports.{slice_index_or, NtStatus, Limits, Script, Keeps, keeping, size_of, get_or_default, life_of, IrpLife, Renew, Reuse, Begun, present_of, Calls}
use Rattle.csq_replay.proofs.Going.{present_is, made_as, may_as}
use Rattle.csq_replay.proofs.Calling.{unknown_keeps, irps_are}
use Rattle.csq_replay.proofs.Reusing.{none_of, some_of, uncompleted_keeps, used_there, unlisted_there, spent_keeps, renew_may, renewed_keeps}
use Rattle.csq_replay.proofs.script.driver.Driver.reuse.Given.{Over}
use Rattle.csq_replay.proofs.script.driver.Driver.reuse.Goals as goal
use Rattle.csq_replay.proofs.script.driver.Driver.reuse.Goals.{Else-is_none}

pub returns-then-not-is_known : goal.returns-then-not-is_known
returns-then-not-is_known g c = λ l s k. unknown_keeps l _ s k (Reuse c.args.irp) c.args.irp refl (λ known. let t = c.is_known.ensures.1 known in cc)

pub returns-then-is_none : goal.returns-then-is_none
returns-then-is_none g c = λ l s k.
    let n = c.args.irp in
    let known = c.is_known.ensures.0 c.if-not-is_known.false in
    let kept = c.index.ensures ∙ get_or_default c.args.self.now.statuses.items n.0 c.index.result.now None (omega (arith, known, irps_are l _ s k, k.statuses_size)) in
    uncompleted_keeps l _ s k n known (sym kept ∙ none_of c.index.result.now (c.is_none.ensures ∙ ap not c.if-is_none.true))

-- the IRP is known, and was completed
module _ (g : Over) (c : Else-is_none g) where
  known : c.args.irp.0 < (size_of c.args.self.now.machine).irps
  known = c.is_known.ensures.0 c.if-not-is_known.false

  status : (x : NtStatus) × (c.index.result.now ≡ Some x)
  status = some_of c.index.result.now (c.is_none.ensures ∙ ap not c.if-is_none.false)

  status_is : {l : Limits} {s : Script} → Keeps l (keeping g.L.PendingList.listing c.args.self.now) s → slice_index_or c.args.self.now.statuses.items c.args.irp.0 None ≡ Some status.0
  status_is k = sym (c.index.ensures ∙ get_or_default c.args.self.now.statuses.items c.args.irp.0 c.index.result.now None (omega (arith, known, irps_are _ _ _ k, k.statuses_size))) ∙ status.1

pub returns-then-ended : goal.returns-then-ended
returns-then-ended g c = λ l s k.
    let d = (goal.at.returns-then-ended g c).Else-is_none in
    let e = c.present-ended.ensures s.run k.agrees ∙ present_is l _ s k c.args.irp in
    spent_keeps l _ s k c.args.irp (known g d) (status g d).0 (status_is g d k) (omega (arith, c.if-ended.true, ap life_of e))

pub make-requires : goal.make-requires
make-requires g c =
    let (l, s, k) = c.requires in
    let d = (goal.at.make-requires g c).Else-is_none in
    let e = c.present-ended.ensures s.run k.agrees ∙ present_is l _ s k c.args.irp in
    may_as _ Renew _ _ e (renew_may l _ s k c.args.irp (known g d) (status g d).0 (status_is g d k) (omega (arith, c.if-ended.false, ap life_of e)))

pub renew-requires-clause-used : goal.renew-requires-clause-used
renew-requires-clause-used g c =
    let (l, s, k) = c.requires in
    let d = (goal.at.renew-requires-clause-used g c).Else-is_none in
    used_there l _ s k c.args.irp (known g d) (status g d).0 (status_is g d k)

pub renew-requires-clause-unlisted : goal.renew-requires-clause-unlisted
renew-requires-clause-unlisted g c =
    let (l, s, k) = c.requires in
    let d = (goal.at.renew-requires-clause-unlisted g c).Else-is_none in
    unlisted_there l _ s k c.args.irp (known g d) (status g d).0 (status_is g d k)

pub returns : goal.returns
returns g c = λ l s k.
    let d = (goal.at.returns g c).Else-is_none in
    let e = c.present-ended.ensures s.run k.agrees ∙ present_is l _ s k c.args.irp in
    let made = (made_as _ _ s.run Renew _ (present_of s c.args.irp) e (c.make.ensures.made s.run k.agrees)).0 in
    let done = renewed_keeps l _ s k c.args.irp (known g d) (status g d).0 (status_is g d k) (omega (arith, c.if-ended.false, ap life_of e)) _ made c.make.ensures.size _ c.renew.ensures _ refl in
    (done.0, subst (λ (x : IrpLife). Calls l s (Reuse c.args.irp) (Begun (record { 0 = life_of x + 1 })) done.0) (sym e) done.1, done.2)
