use Rattle.std.proofs.Common.{◌≡◌, ◌<◌, true, None, refl, sym, ap, ◌∙◌, arith, ◌∷◌, []}
use Rattle.csq_replay.proofs.Imports.{get_or_default, Limits, Script, Keeps, keeping, size_of, FileId, Rearm, Test, Disarm, CANCELLED, holds, same_irp-refl, same_pass-refl, first_cause, Listing, inserted, renewed, is_listed, listed-put, PutBack, script_pass, next_step, present_of, completing, doing, cancels_put_back, calls}
use Rattle.csq_words.specs.declared.views.InsertReply.TheVariants as reply
use Rattle.csq_words.specs.declared.views.Event.TheVariants as event
use Rattle.csq_replay.proofs.Going.{present_is, made_as, may_as}
use Rattle.csq_replay.proofs.Calling.{unknown_keeps, not_held_keeps, irps_are}
use Rattle.csq_replay.proofs.PuttingBack.{used_there, unlisted_there, refused_keeps, rearm_may, test_may, pending_keeps, disarm_may, taken_keeps, cancel_may, in_range, file_is}
use Rattle.csq_replay.proofs.script.driver.Driver.put_back.Given.{Over}
use Rattle.csq_replay.proofs.script.driver.Driver.put_back.Goals as goal
use Rattle.csq_replay.proofs.script.driver.Driver.put_back.Goals.{In_default}

pub returns-then-not-is_known : goal.returns-then-not-is_known
returns-then-not-is_known g c = λ l s (k, removals).
    let call = PutBack c.args.irp c.args.place in
    let (t, refused, kept) = unknown_keeps l _ s k call c.args.irp refl (λ known. let t = c.is_known.ensures.1 known in cc) in
    (t, calls call _ t refused, kept)

pub returns-then-not-holds : goal.returns-then-not-holds
returns-then-not-holds g c = λ l s (k, removals).
    let call = PutBack c.args.irp c.args.place in
    let known = c.is_known.ensures.0 c.if-not-is_known.false in
    let held = c.holds.ensures s.run k.agrees ∙ ap (holds s.run script_pass) (present_is l _ s k c.args.irp) in
    let (t, refused, kept) = not_held_keeps l _ s k call c.args.irp refl known (sym held ∙ c.if-not-holds.true) in
    (t, calls call _ t refused, kept)

pub put_back_ex-requires-clause-used : goal.put_back_ex-requires-clause-used
put_back_ex-requires-clause-used g c =
    let (l, s, (k, removals)) = c.requires in
    let known = c.is_known.ensures.0 c.if-not-is_known.false in
    let held = sym (c.holds.ensures s.run k.agrees ∙ ap (holds s.run script_pass) (present_is l _ s k c.args.irp)) ∙ c.if-not-holds.false in
    used_there l _ s k c.args.irp c.args.place known held

pub put_back_ex-requires-clause-unlisted : goal.put_back_ex-requires-clause-unlisted
put_back_ex-requires-clause-unlisted g c =
    let (l, s, (k, removals)) = c.requires in
    let known = c.is_known.ensures.0 c.if-not-is_known.false in
    let held = sym (c.holds.ensures s.run k.agrees ∙ ap (holds s.run script_pass) (present_is l _ s k c.args.irp)) ∙ c.if-not-holds.false in
    unlisted_there l _ s k c.args.irp c.args.place known held

pub returns-in-Err : goal.returns-in-Err
returns-in-Err g c = λ l s (k, removals).
    let n = c.args.irp in
    let known = c.is_known.ensures.0 c.if-not-is_known.false in
    let held = sym (c.holds.ensures s.run k.agrees ∙ ap (holds s.run script_pass) (present_is l _ s k n)) ∙ c.if-not-holds.false in
    let file = c.index-file.ensures ∙ get_or_default c.args.self.now.files.items n.0 _ (record { 0 = 0 }) (omega (arith, known, irps_are l _ s k, k.files_size)) ∙ file_is l _ s k n c.args.place known held in
    let cause = c.in-Err.ensures.cause ∙ ap (first_cause (renewed n (g.L.PendingList.listing c.args.self.now.list)) n) file in
    let (t, refused, kept) = refused_keeps l _ s k n c.args.place known held c.in-Err.cause cause _ c.in-Err.ensures.err in
    (t, calls (PutBack n c.args.place) _ t refused, kept)

-- the IRP is known, held and listed again
module _ (g : Over) (c : In_default g) {l : Limits} {s : Script} (k : Keeps l (keeping g.L.PendingList.listing c.args.self.now) s) where
  known : c.args.irp.0 < (size_of c.args.self.now.machine).irps
  known = c.is_known.ensures.0 c.if-not-is_known.false

  held : holds s.run script_pass (present_of s c.args.irp) ≡ true
  held = sym (c.holds.ensures s.run k.agrees ∙ ap (holds s.run script_pass) (present_is l _ s k c.args.irp)) ∙ c.if-not-holds.false

  file : c.index-file.result.now ≡ s.queue.file_of c.args.irp
  file = c.index-file.ensures ∙ get_or_default c.args.self.now.files.items c.args.irp.0 _ (record { 0 = 0 }) (omega (arith, known, irps_are l _ s k, k.files_size)) ∙ file_is l _ s k c.args.irp c.args.place known held

  accepted : None ≡ first_cause (renewed c.args.irp (g.L.PendingList.listing c.args.self.now.list)) c.args.irp (s.queue.file_of c.args.irp)
  accepted = c.in_default.ensures.cause ∙ ap (first_cause (renewed c.args.irp (g.L.PendingList.listing c.args.self.now.list)) c.args.irp) file

  listed : g.L.PendingList.listing c.put_back_ex.new.self ≡ inserted c.args.place (record { irp = c.args.irp; file = s.queue.file_of c.args.irp }) (g.L.PendingList.listing c.args.self.now.list)
  listed = c.in_default.ensures.ok ∙ ap (λ (f : FileId). inserted c.args.place (record { irp = c.args.irp; file = f }) (g.L.PendingList.listing c.args.self.now.list)) file

pub make-requires : goal.make-requires
make-requires g c =
    let (l, s, (k, removals)) = c.requires in
    let n = c.args.irp in
    let d = (goal.at.make-requires g c).In_default in
    let e = c.present-name.ensures s.run k.agrees ∙ present_is l _ s k n in
    may_as _ Rearm _ _ e (rearm_may l _ s k n c.args.place (known g d k) (held g d k) removals)

pub make-requires-2 : goal.make-requires-2
make-requires-2 g c =
    let (l, s, (k, removals)) = c.requires in
    let n = c.args.irp in
    let d = (goal.at.make-requires-2 g c).In_default in
    let e = c.present-name.ensures s.run k.agrees ∙ present_is l _ s k n in
    let a1 = (made_as _ _ s.run Rearm _ _ e (c.make.ensures.made s.run k.agrees)).0 in
    may_as _ Test _ _ e (test_may l _ s k n c.args.place (known g d k) (held g d k) _ a1 c.make.ensures.size)

pub returns-then-make-eq0 : goal.returns-then-make-eq0
returns-then-make-eq0 g c = λ l s (k, removals).
    let n = c.args.irp in
    let i = present_of s n in
    let d = (goal.at.returns-then-make-eq0 g c).In_default in
    let e = c.present-name.ensures s.run k.agrees ∙ present_is l _ s k n in
    let a1 = (made_as _ _ s.run Rearm _ i e (c.make.ensures.made s.run k.agrees)).0 in
    let a2 = made_as _ _ (next_step s.run (Rearm i)) Test _ i e (c.make-2.ensures.made (next_step s.run (Rearm i)) a1) in
    let (t, call, kept) = pending_keeps l _ s k n c.args.place (known g d k) (held g d k) _ a1 c.make.ensures.size _ a2.0 c.make-2.ensures.size _ a2.1 _ (listed g d k) (accepted g d k) c.if-make-eq0.true in
    (t, calls (PutBack n c.args.place) _ t call, kept)

pub make-requires-3 : goal.make-requires-3
make-requires-3 g c =
    let (l, s, (k, removals)) = c.requires in
    let n = c.args.irp in
    let i = present_of s n in
    let d = (goal.at.make-requires-3 g c).In_default in
    let e = c.present-name.ensures s.run k.agrees ∙ present_is l _ s k n in
    let a1 = (made_as _ _ s.run Rearm _ i e (c.make.ensures.made s.run k.agrees)).0 in
    let a2 = made_as _ _ (next_step s.run (Rearm i)) Test _ i e (c.make-2.ensures.made (next_step s.run (Rearm i)) a1) in
    may_as _ Disarm _ _ e (disarm_may l _ s k n c.args.place (known g d k) (held g d k) _ a1 c.make.ensures.size _ a2.0 c.make-2.ensures.size _ a2.1 c.if-make-eq0.false)

pub remove-requires : goal.remove-requires
remove-requires g c = ap (λ (s : Listing). is_listed s.entries c.args.irp) c.in_default.ensures.ok ∙ listed-put c.args.place (record { irp = c.args.irp; file = c.index-file.result.now }) _

pub finish-requires : goal.finish-requires
finish-requires g c =
    let (l, s, (k, removals)) = c.requires in
    let n = c.args.irp in
    let i = present_of s n in
    let d = (goal.at.finish-requires g c).In_default in
    let e = c.present-name.ensures s.run k.agrees ∙ present_is l _ s k n in
    let a1 = (made_as _ _ s.run Rearm _ i e (c.make.ensures.made s.run k.agrees)).0 in
    let a2 = made_as _ _ (next_step s.run (Rearm i)) Test _ i e (c.make-2.ensures.made (next_step s.run (Rearm i)) a1) in
    let a3 = made_as _ _ (next_step (next_step s.run (Rearm i)) (Test i)) Disarm _ i e (c.make-3.ensures.made (next_step (next_step s.run (Rearm i)) (Test i)) a2.0) in
    let taken = taken_keeps l _ s k n c.args.place (known g d k) (held g d k) _ a1 c.make.ensures.size _ a2.0 c.make-2.ensures.size _ a2.1 c.if-make-eq0.false _ a3.0 c.make-3.ensures.size _ (listed g d k) _ c.remove.ensures in
    let u = doing (Rearm i ∷ Test i ∷ Disarm i ∷ []) (event.PutBack i (s.queue.file_of n) c.args.place reply.Cancelled) s in
    (l, u, taken, in_range l _ s k n c.args.place (known g d k) (held g d k), rw (same_irp-refl, same_pass-refl) refl)

pub returns : goal.returns
returns g c = λ l s (k, removals).
    let n = c.args.irp in
    let i = present_of s n in
    let d = (goal.at.returns g c).In_default in
    let e = c.present-name.ensures s.run k.agrees ∙ present_is l _ s k n in
    let a1 = (made_as _ _ s.run Rearm _ i e (c.make.ensures.made s.run k.agrees)).0 in
    let a2 = made_as _ _ (next_step s.run (Rearm i)) Test _ i e (c.make-2.ensures.made (next_step s.run (Rearm i)) a1) in
    let a3 = made_as _ _ (next_step (next_step s.run (Rearm i)) (Test i)) Disarm _ i e (c.make-3.ensures.made (next_step (next_step s.run (Rearm i)) (Test i)) a2.0) in
    let taken = taken_keeps l _ s k n c.args.place (known g d k) (held g d k) _ a1 c.make.ensures.size _ a2.0 c.make-2.ensures.size _ a2.1 c.if-make-eq0.false _ a3.0 c.make-3.ensures.size _ (listed g d k) _ c.remove.ensures in
    let may = cancel_may l _ s k n c.args.place (known g d k) (held g d k) _ a1 c.make.ensures.size _ a2.0 c.make-2.ensures.size _ a2.1 c.if-make-eq0.false (accepted g d k) in
    let u = doing (Rearm i ∷ Test i ∷ Disarm i ∷ []) (event.PutBack i (s.queue.file_of n) c.args.place reply.Cancelled) s in
    let t = completing i CANCELLED u in (
      t,
      calls (PutBack n c.args.place) _ t (cancels_put_back n c.args.place (in_range l _ s k n c.args.place (known g d k) (held g d k)) (held g d k) may),
      rw c.cancelled.ensures at (c.finish.ensures l u taken),
    )
