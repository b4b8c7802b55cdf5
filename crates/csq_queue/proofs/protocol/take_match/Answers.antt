use Rattle.std.proofs.Common.{◌≡◌, ℕ, ◌<◌, [], ◌∷◌, List, Some, None, ap, ◌∙◌, sym, subst, rules, arith}
use Rattle.csq_queue.proofs.Imports.{Disarm, IrpId, IrpLife, Listing, without_irp, RemoveNext, after_step, due_mark, queue_of, with_trace, SomeRunAgrees, bit_in, QueueSeatState, joined_record, with_view, limits_on, MakesSteps, remove_next_steps, IsNew, Adds, marked, IsSearch}
use Rattle.csq_words.specs.declared.calls.Call.TheVariants.{RemoveNext as RemoveNextCall}
use Rattle.csq_queue.proofs.Presence.{listed_life}
use Rattle.csq_queue.proofs.Searching.{with_made}
use Rattle.csq_queue.proofs.Removing.{search_start, next_match, search_hit, search_miss, none_left, search_end}
use Rattle.csq_queue.proofs.protocol.take_match.Given.{Over}
use Rattle.csq_queue.proofs.protocol.take_match.Goals as goal
use Rattle.csq_queue.proofs.protocol.take_match.Goals.{After-remove, After-note}

pub search-init : goal.search-init
search-init g c = search_start c.args.words.now.table (limits_on c.args.words.now (g.L.PendingList.listing c.args.list.now)) (g.L.PendingList.listing c.args.list.now) c.args.kept.now c.args.peek c.args.seat.now c.requires.entered

pub disarm-requires-clause-next : goal.disarm-requires-clause-next
disarm-requires-clause-next g c =
    let now = listed_life _ _ _ _ c.search.invariant.adds.list_is c.in-Some.next (g.met.L.PendingList.sound c.search.list) (search rules) c.present-present.result c.present-present.ensures in
    (c.search.invariant.removes, next_match c.search.invariant (g.met.L.PendingList.sound c.search.list) c.present-present.result now (ap (λ (m : IrpId). Some m) (ap (λ (j : IrpLife). j.irp) c.present-present.ensures) ∙ c.in-Some.ensures.found))

-- the removal found the routine of the next match
hit : (g : Over) (c : After-remove g) → ((marks : List IrpLife) × Adds (limits_on c.args.words.now (g.L.PendingList.listing c.args.list.now)) c.args.seat.now (RemoveNext c.args.peek (Some c.present-present.result) ∷ marked marks) (g.L.PendingList.listing c.remove.new.self) c.args.kept.now c.disarm.new.self)
    × MakesSteps (remove_next_steps c.args.peek (Some c.present-present.result) (queue_of c.args.seat.now.queue)) (joined_record c.args.seat.now) (joined_record c.disarm.new.self)
    × IsNew (limits_on c.args.words.now (g.L.PendingList.listing c.args.list.now)) (joined_record c.args.seat.now) c.present-present.result
hit g c =
    let l = limits_on c.args.words.now (g.L.PendingList.listing c.args.list.now) in
    let s = g.L.PendingList.listing c.search.list in
    let v = c.args.kept.now in
    let z = c.search.seat in
    let i = c.present-present.result in
    let named = ap (λ (j : IrpLife). j.irp) c.present-present.ensures in
    let now = listed_life _ _ _ _ c.search.invariant.adds.list_is c.in-Some.next (g.met.L.PendingList.sound c.search.list) (search rules) c.present-present.result c.present-present.ensures in
    let sound = g.met.L.PendingList.sound c.search.list in
    let peeked = ap (λ (m : IrpId). Some m) named ∙ c.in-Some.ensures.found in
    let one = c.is_set.ensures.set c.if-is_set.true in
    let some : 0 < bit_in c.disarm.result = subst (λ (w : ℕ). 0 < w) (sym one) (omega arith) in
    let is : c.disarm.new.self ≡ with_made (Disarm i) 1 (RemoveNext c.args.peek (Some i) ∷ []) c.disarm.new.self.queue.trace z = c.disarm.ensures.step ∙ ap (λ w. with_view (after_step (RemoveNextCall c.args.peek) (Disarm i) w (with_trace c.disarm.new.self.queue.trace z.queue) (joined_record z)) z) one in
    let out : g.L.PendingList.listing c.remove.new.self ≡ without_irp i.irp s = c.remove.ensures ∙ ap (λ (m : IrpId). without_irp m s) (sym named) in
    subst (λ (y : Listing × QueueSeatState). ((marks : List IrpLife) × Adds l c.args.seat.now (RemoveNext c.args.peek (Some i) ∷ marked marks) y.0 v y.1)
    × MakesSteps (remove_next_steps c.args.peek (Some i) (queue_of c.args.seat.now.queue)) (joined_record c.args.seat.now) (joined_record y.1) × IsNew l (joined_record c.args.seat.now) i)
    (λ k. (sym out k, sym is k))
    (search_hit c.search.invariant sound i now peeked c.disarm.new.self.queue.trace (c.disarm.ensures.unmarked some) (subst (λ (y : QueueSeatState). SomeRunAgrees c.args.words.now.size y.queue (joined_record y)) is (c.disarm.new.self.queue.trace, c.disarm.ensures.agreed.call.agreed)))

pub returns-then-is_set-clause-adds : goal.returns-then-is_set-clause-adds
returns-then-is_set-clause-adds g c = (hit g c).0

pub returns-then-is_set-clause-steps : goal.returns-then-is_set-clause-steps
returns-then-is_set-clause-steps g c = (hit g c).1

pub returns-then-is_set-clause-new : goal.returns-then-is_set-clause-new
returns-then-is_set-clause-new g c = (hit g c).2

pub search-preserved : goal.search-preserved
search-preserved g c =
    let z = c.search.seat in
    let i = c.present-present.result in
    let named = ap (λ (j : IrpLife). j.irp) c.present-present.ensures in
    let now = listed_life _ _ _ _ c.search.invariant.adds.list_is c.in-Some.next (g.met.L.PendingList.sound c.search.list) (search rules) c.present-present.result c.present-present.ensures in
    let is : c.disarm.new.self ≡ with_made (Disarm i) 0 (due_mark i (queue_of z.queue)) c.disarm.new.self.queue.trace z = c.disarm.ensures.step ∙ ap (λ w. with_view (after_step (RemoveNextCall c.args.peek) (Disarm i) w (with_trace c.disarm.new.self.queue.trace z.queue) (joined_record z)) z) (c.is_set.ensures.clear c.if-is_set.false) in
    let missed = search_miss c.search.invariant (g.met.L.PendingList.sound c.search.list) i now (ap (λ (m : IrpId). Some m) named ∙ c.in-Some.ensures.found) c.disarm.new.self.queue.trace (subst (λ (y : QueueSeatState). SomeRunAgrees c.args.words.now.size y.queue (joined_record y)) is (c.disarm.new.self.queue.trace, c.disarm.ensures.agreed.call.agreed)) in
    subst (λ (y : IrpId × QueueSeatState). IsSearch (limits_on c.args.words.now (g.L.PendingList.listing c.args.list.now)) c.args.seat.now c.args.peek (Some y.0) (g.L.PendingList.listing c.search.list) c.args.kept.now y.1) (λ k. (named k, sym is k)) missed

pub note-requires-clause-may : goal.note-requires-clause-may
note-requires-clause-may g c = (
  c.search.invariant.removes,
  none_left c.search.invariant (search rules),
)

-- no match is left that isn't marked
ended : (g : Over) (c : After-note g) → ((marks : List IrpLife) × Adds (limits_on c.args.words.now (g.L.PendingList.listing c.args.list.now)) c.args.seat.now (RemoveNext c.args.peek None ∷ marked marks) (g.L.PendingList.listing c.search.list) c.args.kept.now c.note.new.self)
    × MakesSteps (remove_next_steps c.args.peek None (queue_of c.args.seat.now.queue)) (joined_record c.args.seat.now) (joined_record c.note.new.self)
ended g c =
    subst (λ (z : QueueSeatState). SomeRunAgrees c.args.words.now.size z.queue (joined_record z) → ((marks : List IrpLife) × Adds (limits_on c.args.words.now (g.L.PendingList.listing c.args.list.now)) c.args.seat.now (RemoveNext c.args.peek None ∷ marked marks) (g.L.PendingList.listing c.search.list) c.args.kept.now z)
    × MakesSteps (remove_next_steps c.args.peek None (queue_of c.args.seat.now.queue)) (joined_record c.args.seat.now) (joined_record z))
    (sym c.note.ensures.noted) (search_end c.search.invariant c.note.new.self.queue.trace (search rules)) (c.note.new.self.queue.trace, c.note.ensures.agreed.call.agreed)

pub returns-clause-adds : goal.returns-clause-adds
returns-clause-adds g c = (ended g c).0

pub returns-clause-steps : goal.returns-clause-steps
returns-clause-steps g c = (ended g c).1
