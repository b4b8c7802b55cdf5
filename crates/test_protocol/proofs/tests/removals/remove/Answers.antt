use Rattle.std.proofs.Common.{◌≡◌, true, [], refl, sym, subst}
use Rattle.std.specs.Prelude.{Option}
use Rattle.irp_core.specs.declared.step.Kind.TheVariants.{Disarm}
use Rattle.irp_core.specs.declared.inside.Inside.TheVariants.{Nothing}
use Rattle.irp_core.proofs.Names.{same_irp-refl}
use Rattle.irp_core.specs.Own.{inside_of, holds_in, removed_in}
use Rattle.csq_words.specs.Calls.{MayMake}
use Rattle.csq_words.specs.declared.calls.Call.TheVariants.{Remove}
use Rattle.csq_words.specs.Records.{with_trace}
use Rattle.csq_words.specs.Seats.{QueueSeatState, PassSeatState, pass_record, joined_record}
use Rattle.test_protocol.specs.Listed.{IsInserted, only_entry}
use Rattle.test_protocol.proofs.Turns.{may_disarm, inserted_entered, inserted_in, after_removal}
use Rattle.test_protocol.proofs.tests.removals.remove.Goals as goal

-- the IRP alone is listed
pub disarm-found-requires-clause-next : goal.disarm-found-requires-clause-next
disarm-found-requires-clause-next g c =
    subst (λ (q : QueueSeatState). MayMake (Remove c.args.name) (Disarm c.args.name) q.queue (joined_record q)) (sym c.enter.ensures.joined) (may_disarm c.args.name c.args.queue.now.queue (pass_record c.args.pass.now) c.requires.inserted c.requires.outside)

-- what the removal found is held
pub returns-clause-held : goal.returns-clause-held
returns-clause-held g c =
    subst (λ (p : Option PassSeatState). holds_in (pass_record p).steps c.args.name ≡ true) (sym c.leave.ensures.pass)
    (subst (λ (q : QueueSeatState). holds_in (joined_record q).steps c.args.name ≡ true) (sym c.disarm-found.ensures.step) (rw (c.expect_found.ensures, same_irp-refl) refl))

-- and was got by a removal
pub returns-clause-removed : goal.returns-clause-removed
returns-clause-removed g c =
    let outside = subst (λ (q : QueueSeatState). inside_of (joined_record q).steps ≡ Nothing) (sym c.enter.ensures.joined) c.requires.outside in
    subst (λ (p : Option PassSeatState). removed_in (pass_record p).steps c.args.name ≡ true) (sym c.leave.ensures.pass)
    (subst (λ (q : QueueSeatState). removed_in (joined_record q).steps c.args.name ≡ true) (sym c.disarm-found.ensures.step) (rw (c.expect_found.ensures, same_irp-refl, outside) refl))

-- it is no longer listed
pub returns-clause-inserted : goal.returns-clause-inserted
returns-clause-inserted g c =
    let i = c.args.name in
    let trace = c.disarm-found.new.self.queue.trace in
    let inserted = subst (λ (q : QueueSeatState). IsInserted i (only_entry i) q.queue) (sym c.enter.ensures.joined) (inserted_entered i (only_entry i) c.args.queue.now.queue c.requires.inserted) in
    subst (λ (q : QueueSeatState). IsInserted i [] q.queue) (sym c.leave.ensures.queue)
    (subst (λ (q : QueueSeatState). IsInserted i [] q.queue) (sym c.disarm-found.ensures.step)
    (after_removal i (with_trace trace c.enter.new.self.queue) (joined_record c.enter.new.self) _ c.expect_found.ensures (inserted_in i (only_entry i) c.enter.new.self.queue trace inserted)))
