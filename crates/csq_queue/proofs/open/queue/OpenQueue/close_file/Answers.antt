use Rattle.std.proofs.Common.{[], ◌∷◌, Some, ap, subst, ◌∙◌, rules}
use Rattle.csq_words.specs.Records.{entered}
use Rattle.csq_queue.proofs.Imports.{SomeRunAgrees, pass_record, OpenPassState, limits_on, AddsEvents, CloseFile}
use Rattle.csq_queue.proofs.Leaving.{close_adds}
use Rattle.csq_queue.proofs.Opening.{own_adds}
use Rattle.csq_queue.proofs.open.queue.OpenQueue.close_file.Goals as goal

pub returns-clause-call : goal.returns-clause-call
returns-clause-call g c = record { known = search rules; call = adds; steps = search rules; unknown = tt }
  where
    adds : AddsEvents c.args.self.now.limits c.args.self.now.queue.history c.args.pass.now.pass (pass_record c.leave.new.pass) (CloseFile c.args.file ∷ [])
    adds =
        let w = c.args.words.now in
        let s = g.L.PendingList.listing c.self.inside.list in
        let adds = close_adds w.table (limits_on w s) s (g.L.PendingList.listing c.close_file.new.self) c.self.inside.kept c.enter.new.self c.note.new.self c.args.file (search rules) (search rules) (search rules) c.note.ensures.noted (c.note.new.self.queue.trace, c.note.ensures.agreed.call.agreed) in
        own_adds c.args.words.now (g.L.PendingList.listing c.self.inside.list) c.self.inside.seat c.self.inside.back.items c.args.self.now c.self.view_is c.requires.queue
        c.args.pass.now.pass (pass_record c.leave.new.pass) c.enter.new.self c.note.new.self
        (c.enter.ensures.joined ∙ (λ k. record c.self.inside.seat { queue = entered c.self.inside.seat.queue; joined = Some (c.pass.view_is k).pass }))
        (subst (λ (z : OpenPassState). SomeRunAgrees c.args.words.now.size c.enter.new.self.queue z.pass) c.pass.view_is c.enter.ensures.agreed) (ap pass_record c.leave.ensures.pass) c.leave.ensures.run (search rules) _ _ _ adds
