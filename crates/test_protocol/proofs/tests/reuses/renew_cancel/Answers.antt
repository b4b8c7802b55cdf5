use Rattle.std.proofs.Common.{[], sym, subst, arith}
use Rattle.csq_words.specs.declared.views.Reusing.TheVariants.{Nothing}
use Rattle.csq_words.specs.Records.{with_trace, with_reusing}
use Rattle.csq_words.specs.Rule.{next_life}
use Rattle.csq_words.specs.Seats.{QueueSeatState, joined_record}
use Rattle.test_protocol.specs.Listed.{IsHome}
use Rattle.test_protocol.proofs.Turns.{after_reuse, inserted_in}
use Rattle.test_protocol.proofs.tests.reuses.renew_cancel.Goals as goal

-- the word found is of the life named
pub flag_read-requires : goal.flag_read-requires
flag_read-requires g c = omega (arith, c.renew_cancel-found.ensures.found, c.requires.few)

-- the next life is home
pub returns-clause-home : goal.returns-clause-home
returns-clause-home g c =
    let i = c.args.name in
    let s = c.args.queue.now in
    let trace = c.renew_cancel-found.new.self.queue.trace in
    subst (λ (q : QueueSeatState). IsHome (next_life i) q.queue) (sym c.leave.ensures.queue)
    (subst (λ (q : QueueSeatState). IsHome (next_life i) q.queue) (sym c.renew_cancel-found.ensures.step)
    (after_reuse i (with_trace trace s.queue) (joined_record s).pass (inserted_in i [] (with_reusing Nothing s.queue) trace c.requires.inserted)))
