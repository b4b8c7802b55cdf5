use Rattle.std.proofs.Common.{◌≡◌, IfErr, ap, sym, ◌∙◌, subst, rules}
use Rattle.csq_queue.proofs.Imports.{IrpLife, PassRecord, end_of, present_in, joined_record, pass_record, OpenPassState, AddsEvents}
use Rattle.csq_queue.specs.Refusals.{IsReuseRefusal, reuse_events}
use Rattle.csq_queue.proofs.Opening.{own_adds}
use Rattle.csq_queue.proofs.Reusing.{refused_then}
use Rattle.csq_queue.proofs.open.queue.OpenQueue.reuse.Goals as goal

pub returns-clause-call : goal.returns-clause-call
returns-clause-call g c = record { known = search rules; unknown = search rules; call = λ _. adds; steps = search rules; refused = λ _. refused }
  where
    adds : AddsEvents c.args.self.now.limits c.args.self.now.queue.history c.args.pass.now.pass (pass_record c.leave.new.pass) (reuse_events c.args.irp c.renew_irp-life.result)
    adds =
        own_adds c.args.words.now (g.L.PendingList.listing c.self.inside.list) c.self.inside.seat c.self.inside.back.items c.args.self.now c.self.view_is c.requires.queue
        c.args.pass.now.pass (pass_record c.leave.new.pass) c.enter.new.self c.renew_irp-life.new.seat (search rules) (search rules) (search rules) c.leave.ensures.run (search rules) _ _ _ c.renew_irp-life.ensures.adds

    refused : IfErr c.renew_irp-life.result (IsReuseRefusal (present_in (end_of c.args.self.now.limits.first (pass_record c.leave.new.pass).seen) c.args.irp) c.args.pass.now.pass (pass_record c.leave.new.pass))
    refused =
        let q = c.renew_irp-life.new.seat.queue in
        let new = pass_record c.leave.new.pass in
        let first : q.first ≡ c.args.self.now.limits.first = search rules in
        let seen : new.seen ≡ q.history = ap (λ p. (pass_record p).seen) c.leave.ensures.pass in
        let own : joined_record c.enter.new.self ≡ c.args.pass.now.pass = ap joined_record c.enter.ensures.joined ∙ ap (λ (z : OpenPassState). z.pass) c.pass.view_is in
        subst (λ (z : IrpLife × PassRecord). IfErr c.renew_irp-life.result (IsReuseRefusal z.0 z.1 new))
        (λ k. (present_in (end_of (first k) (sym seen k)) c.args.irp, own k))
        (refused_then (present_in (end_of q.first q.history) c.args.irp) (joined_record c.enter.new.self) new q c.leave.ensures.last c.renew_irp-life.result c.renew_irp-life.ensures.refused)
