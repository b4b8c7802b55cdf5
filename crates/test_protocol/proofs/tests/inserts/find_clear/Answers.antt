use Rattle.std.proofs.Common.{◌≡◌, ℕ, rules, sym, subst}
use Rattle.irp_core.specs.declared.step.Kind.TheVariants.{Test}
use Rattle.csq_list.specs.declared.entry.Place.TheVariants.{Back}
use Rattle.csq_words.specs.declared.calls.Call.TheVariants.{Insert}
use Rattle.csq_words.specs.Calls.{after_step}
use Rattle.csq_words.specs.Queue.{present_in}
use Rattle.csq_words.specs.Records.{queue_of, queue_in, with_trace}
use Rattle.csq_words.specs.Seats.{QueueSeatState, joined_record}
use Rattle.csq_words.specs.Words.{bit_in}
use Rattle.test_protocol.specs.Listed.{IsInserted, only_entry}
use Rattle.test_protocol.proofs.Turns.{after_pending, home_in}
use Rattle.test_protocol.proofs.tests.inserts.find_clear.Goals as goal

-- the insert is pending
pub returns-clause-inserted : goal.returns-clause-inserted
returns-clause-inserted g c =
    let i = c.args.name in
    let s = c.args.queue.now in
    let trace = c.test-found.new.self.queue.trace in
    let clear : bit_in c.test-found.result ≡ 0 = search rules in
    subst (λ (q : QueueSeatState). IsInserted i (only_entry i) q.queue) (sym c.leave.ensures.queue)
    (subst (λ (q : QueueSeatState). IsInserted i (only_entry i) q.queue) (sym c.test-found.ensures.step)
    (subst (λ (n : ℕ). IsInserted i (only_entry i) (queue_in (after_step (Insert record { 0 = 0 } record { 0 = 0 } Back) (Test (present_in (queue_of s.queue) record { 0 = 0 })) n (with_trace trace s.queue) (joined_record s)))) (sym clear)
    (after_pending i (with_trace trace s.queue) (joined_record s).pass (home_in i s.queue trace c.requires.home))))
