use Rattle.std.proofs.Common.{◌≡◌, ℕ, ◌<◌, true, false, List, [], ◌∷◌, Some, None, refl, ap, ◌∙◌, sym, subst, arith}
use Rattle.csq_queue.proofs.Imports.{Disarm, End, IrpLife, Listing, Remove, has_unmarked, queue_of, with_trace, after_step, due_mark, MayRemove, SomeRunAgrees, bit_in, QueueSeatState, joined_record, with_view, limits_on, MakesSteps, remove_steps, IsNew, Adds, marked}
use Rattle.csq_words.specs.declared.calls.Call.TheVariants.{Remove as RemoveCall}
use Rattle.csq_queue.proofs.Searching.{with_made}
use Rattle.csq_queue.proofs.Ones.{removes, one_here, one_away, one_listed, one_absent, one_none, one_hit, one_marked_now, one_goes_on, one_miss}
use Rattle.csq_queue.proofs.protocol.take_one.Given.{Over}
use Rattle.csq_queue.proofs.protocol.take_one.Goals as goal
use Rattle.csq_queue.proofs.protocol.take_one.Goals.{After-disarm, After-note, After-remove, After-note-2}

pub note-requires-clause-may : goal.note-requires-clause-may
note-requires-clause-may g c =
    let i = c.args.irp in
    (removes c.requires.entered i, one_absent c.requires.entered i (one_away c.requires.entered i (g.met.L.PendingList.sound c.args.list.now) (sym c.is_here.ensures ∙ c.if-not-is_here.true)))

-- the IRP isn't listed in the life named
absent : (g : Over) (c : After-note g) → Adds (limits_on c.args.words.now (g.L.PendingList.listing c.args.list.now)) c.args.seat.now (Remove c.args.irp false ∷ []) (g.L.PendingList.listing c.args.list.now) c.args.kept.now c.note.new.self
    × MakesSteps (remove_steps c.args.irp None (queue_of c.args.seat.now.queue)) (joined_record c.args.seat.now) (joined_record c.note.new.self)
absent g c =
    let z = c.args.seat.now in
    let i = c.args.irp in
    let away = one_away c.requires.entered i (g.met.L.PendingList.sound c.args.list.now) (sym c.is_here.ensures ∙ c.if-not-is_here.true) in
    subst (λ (y : QueueSeatState). SomeRunAgrees c.args.words.now.size y.queue (joined_record y) → Adds (limits_on c.args.words.now (g.L.PendingList.listing c.args.list.now)) z (Remove i false ∷ []) (g.L.PendingList.listing c.args.list.now) c.args.kept.now y
    × MakesSteps (remove_steps i None (queue_of z.queue)) (joined_record z) (joined_record y))
    (sym c.note.ensures.noted) (one_none c.requires.entered i c.note.new.self.queue.trace away) (c.note.new.self.queue.trace, c.note.ensures.agreed.call.agreed)

pub returns-then-not-is_here-clause-adds : goal.returns-then-not-is_here-clause-adds
returns-then-not-is_here-clause-adds g c = ([], (absent g c).0)

pub returns-then-not-is_here-clause-steps : goal.returns-then-not-is_here-clause-steps
returns-then-not-is_here-clause-steps g c = (absent g c).1

pub disarm-requires-clause-next : goal.disarm-requires-clause-next
disarm-requires-clause-next g c =
    let i = c.args.irp in
    let here = one_here c.requires.entered i (g.met.L.PendingList.sound c.args.list.now) (sym c.is_here.ensures ∙ c.if-not-is_here.false) in
    (refl, removes c.requires.entered i, one_listed c.requires.entered i here.1 here.0)

-- the removal found its routine
hit : (g : Over) (c : After-remove g) → Adds (limits_on c.args.words.now (g.L.PendingList.listing c.args.list.now)) c.args.seat.now (Remove c.args.irp true ∷ []) (g.L.PendingList.listing c.remove.new.self) c.args.kept.now c.disarm.new.self
    × MakesSteps (remove_steps c.args.irp (Some c.args.irp) (queue_of c.args.seat.now.queue)) (joined_record c.args.seat.now) (joined_record c.disarm.new.self)
    × IsNew (limits_on c.args.words.now (g.L.PendingList.listing c.args.list.now)) (joined_record c.args.seat.now) c.args.irp
hit g c =
    let l = limits_on c.args.words.now (g.L.PendingList.listing c.args.list.now) in
    let v = c.args.kept.now in
    let z = c.args.seat.now in
    let i = c.args.irp in
    let sound = g.met.L.PendingList.sound c.args.list.now in
    let here = one_here c.requires.entered i sound (sym c.is_here.ensures ∙ c.if-not-is_here.false) in
    let one = c.is_set.ensures.set c.if-is_set.true in
    let some : 0 < bit_in c.disarm.result = subst (λ (w : ℕ). 0 < w) (sym one) (omega arith) in
    let is : c.disarm.new.self ≡ with_made (Disarm i) 1 (Remove i true ∷ []) c.disarm.new.self.queue.trace z = c.disarm.ensures.step ∙ ap (λ w. with_view (after_step (RemoveCall i) (Disarm i) w (with_trace c.disarm.new.self.queue.trace z.queue) (joined_record z)) z) one in
    subst (λ (y : Listing × QueueSeatState). Adds l z (Remove i true ∷ []) y.0 v y.1 × MakesSteps (remove_steps i (Some i) (queue_of z.queue)) (joined_record z) (joined_record y.1) × IsNew l (joined_record z) i)
    (λ k. (sym c.remove.ensures k, sym is k))
    (one_hit c.requires.entered i c.disarm.new.self.queue.trace here.1 sound here.0 (c.disarm.ensures.unmarked some) (subst (λ (y : QueueSeatState). SomeRunAgrees c.args.words.now.size y.queue (joined_record y)) is (c.disarm.new.self.queue.trace, c.disarm.ensures.agreed.call.agreed)))

pub returns-then-is_set-clause-adds : goal.returns-then-is_set-clause-adds
returns-then-is_set-clause-adds g c = ([], (hit g c).0)

pub returns-then-is_set-clause-steps : goal.returns-then-is_set-clause-steps
returns-then-is_set-clause-steps g c = (hit g c).1

pub returns-then-is_set-clause-new : goal.returns-then-is_set-clause-new
returns-then-is_set-clause-new g c = (hit g c).2

-- a canceller has the routine
to_missed : (g : Over) (c : After-disarm g) → bit_in c.disarm.result ≡ 0 → c.disarm.new.self ≡ with_made (Disarm c.args.irp) 0 (due_mark c.args.irp (queue_of c.args.seat.now.queue)) c.disarm.new.self.queue.trace c.args.seat.now
to_missed g c clear = c.disarm.ensures.step ∙ ap (λ w. with_view (after_step (RemoveCall c.args.irp) (Disarm c.args.irp) w (with_trace c.disarm.new.self.queue.trace c.args.seat.now.queue) (joined_record c.args.seat.now)) c.args.seat.now) clear

pub note-requires-2-clause-may : goal.note-requires-2-clause-may
note-requires-2-clause-may g c =
    let is = to_missed g (goal.at.note-requires-2-clause-may g c).After-disarm (c.is_set.ensures.clear c.if-is_set.false) in (
      subst (λ (z : QueueSeatState). MayRemove (joined_record z)) (sym is) (one_goes_on c.requires.entered c.args.irp c.disarm.new.self.queue.trace),
      subst (λ (z : QueueSeatState). has_unmarked (queue_of z.queue).entries c.args.irp ≡ false) (sym is) (one_marked_now c.requires.entered c.args.irp),
    )

missed : (g : Over) (c : After-note-2 g) → c.disarm.new.self ≡ with_made (Disarm c.args.irp) 0 (due_mark c.args.irp (queue_of c.args.seat.now.queue)) c.disarm.new.self.queue.trace c.args.seat.now
    → ((marks : List IrpLife) × Adds (limits_on c.args.words.now (g.L.PendingList.listing c.args.list.now)) c.args.seat.now (Remove c.args.irp false ∷ marked marks) (g.L.PendingList.listing c.args.list.now) c.args.kept.now c.note-2.new.self)
    × MakesSteps (remove_steps c.args.irp None (queue_of c.args.seat.now.queue)) (joined_record c.args.seat.now) (joined_record c.note-2.new.self)
missed g c is =
    let z = c.args.seat.now in
    let i = c.args.irp in
    let here = one_here c.requires.entered i (g.met.L.PendingList.sound c.args.list.now) (sym c.is_here.ensures ∙ c.if-not-is_here.false) in
    subst (λ (y : QueueSeatState). SomeRunAgrees c.args.words.now.size y.queue (joined_record y) → ((marks : List IrpLife) × Adds (limits_on c.args.words.now (g.L.PendingList.listing c.args.list.now)) z (Remove i false ∷ marked marks) (g.L.PendingList.listing c.args.list.now) c.args.kept.now y)
    × MakesSteps (remove_steps i None (queue_of z.queue)) (joined_record z) (joined_record y))
    (sym (c.note-2.ensures.noted ∙ ap (with_made End 0 (Remove i false ∷ []) c.note-2.new.self.queue.trace) is))
    (one_miss c.requires.entered i c.disarm.new.self.queue.trace c.note-2.new.self.queue.trace (one_listed c.requires.entered i here.1 here.0) (subst (λ (y : QueueSeatState). SomeRunAgrees c.args.words.now.size y.queue (joined_record y)) is (c.disarm.new.self.queue.trace, c.disarm.ensures.agreed.call.agreed)))
    (c.note-2.new.self.queue.trace, c.note-2.ensures.agreed.call.agreed)

pub returns-clause-adds : goal.returns-clause-adds
returns-clause-adds g c = (missed g c (to_missed g (goal.at.returns-clause-adds g c).After-disarm (c.is_set.ensures.clear c.if-is_set.false))).0

pub returns-clause-steps : goal.returns-clause-steps
returns-clause-steps g c = (missed g c (to_missed g (goal.at.returns-clause-steps g c).After-disarm (c.is_set.ensures.clear c.if-is_set.false))).1
