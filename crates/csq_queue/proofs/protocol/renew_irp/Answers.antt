use Rattle.std.proofs.Common.{◌≡◌, ℕ, ◌+◌, ◌<◌, ◌∷◌, [], true, ap, ◌∙◌, sym, subst}
use Rattle.csq_queue.proofs.Imports.{is_some, last_life, Life, IrpLife, after_renewal, Reuse, present_in, queue_of, with_trace, with_reusing, joined_record, with_view, status_in, limits_on, Adds}
use Rattle.csq_words.specs.declared.views.Reusing.TheVariants.{Looked, StatusRenewed}
use Rattle.csq_queue.proofs.Reusing.{life_few, looked, was_used, was_unlisted, reuse_makes, reuse_adds}
use Rattle.csq_queue.proofs.protocol.renew_irp.Given.{Over}
use Rattle.csq_queue.proofs.protocol.renew_irp.Goals as goal
use Rattle.csq_queue.proofs.protocol.renew_irp.Goals.{After-renew_cancel}

pub renew_status-requires-clause-next : goal.renew_status-requires-clause-next
renew_status-requires-clause-next g c =
    let old = c.args.seat.now in
    let n = c.args.irp in
    let u = queue_of old.queue in
    let life_is : c.status_read-status.result.0 ≡ (present_in u n).life = ap (λ p. p.0) c.status_read-status.ensures ∙ (λ k. record { 0 = c.look.ensures.found k }) in
    let cur : record { irp = n; life = c.status_read-status.result.0 } ≡ present_in u n = λ k. record { irp = n; life = life_is k } in
    let set' : is_some (status_in c.look.result) ≡ true = ap (λ p. is_some p.1) (sym c.status_read-status.ensures) ∙ c.if-is_none.ensures in
    let few : u.lives n < last_life = life_few c.requires.entered n c.requires.first (λ e. c.if-life.false (ap (λ (x : Life). x.0) life_is ∙ e)) in
    ap (λ z. z.queue.reusing) c.look.ensures.step ∙ (ap (λ q. q.reusing) (looked c.requires.entered n c.look.result set' few c.look.new.self.queue.trace) ∙ (λ k. Looked (sym cur k)))

-- the reuse found the present life completed
module _ (g : Over) (c : After-renew_cancel g) where
  abbrev now : IrpLife
  now = present_in (queue_of c.args.seat.now.queue) c.args.irp

  life_is : c.status_read-status.result.0 ≡ now.life
  life_is = ap (λ p. p.0) c.status_read-status.ensures ∙ (λ k. record { 0 = c.look.ensures.found k })

  is_now : record { irp = c.args.irp; life = c.status_read-status.result.0 } ≡ now
  is_now = λ k. record { irp = c.args.irp; life = life_is k }

  set' : is_some (status_in c.look.result) ≡ true
  set' = ap (λ p. is_some p.1) (sym c.status_read-status.ensures) ∙ c.if-is_none.ensures

  few : (queue_of c.args.seat.now.queue).lives c.args.irp < last_life
  few = life_few c.requires.entered c.args.irp c.requires.first (λ e. c.if-life.false (ap (λ (x : Life). x.0) life_is ∙ e))

  two : c.renew_status.new.self ≡ record c.look.new.self { queue = with_reusing (StatusRenewed now) c.look.new.self.queue }
  two = c.renew_status.ensures.step ∙ (λ k. record c.look.new.self { queue = with_reusing (StatusRenewed (is_now k)) c.look.new.self.queue })

  three : c.renew_cancel.new.self ≡ with_view (after_renewal now (with_trace c.renew_cancel.new.self.queue.trace c.renew_status.new.self.queue) (joined_record c.renew_status.new.self)) c.renew_status.new.self
  three = c.renew_cancel.ensures.step ∙ (λ k. with_view (after_renewal (is_now k) (with_trace c.renew_cancel.new.self.queue.trace c.renew_status.new.self.queue) (joined_record c.renew_status.new.self)) c.renew_status.new.self)

pub renew-requires-clause-used : goal.renew-requires-clause-used
renew-requires-clause-used g c =
    let d = (goal.at.renew-requires-clause-used g c).After-renew_cancel in
    was_used c.requires.entered c.args.irp c.look.result (set' g d) (few g d) c.look.new.self.queue.trace c.look.new.self c.renew_status.new.self c.renew_cancel.new.self c.look.ensures.step (two g d) (three g d) (c.renew_cancel.new.self.queue.trace, c.renew_cancel.ensures.agreed.call.agreed)

pub renew-requires-clause-unlisted : goal.renew-requires-clause-unlisted
renew-requires-clause-unlisted g c =
    let d = (goal.at.renew-requires-clause-unlisted g c).After-renew_cancel in
    was_unlisted c.requires.entered c.args.irp c.look.result (set' g d) (few g d) c.look.new.self.queue.trace c.look.new.self c.renew_status.new.self c.renew_cancel.new.self c.look.ensures.step (two g d) (three g d) (c.renew_cancel.new.self.queue.trace, c.renew_cancel.ensures.agreed.call.agreed)

pub begin_next-requires-clause-few : goal.begin_next-requires-clause-few
begin_next-requires-clause-few g c = subst (λ (x : ℕ). x < last_life) (sym (c.requires.entered.list_is.lives_are.each c.args.irp c.requires.known)) (few g (goal.at.begin_next-requires-clause-few g c).After-renew_cancel)

pub returns-clause-adds : goal.returns-clause-adds
returns-clause-adds g c =
    let d = (goal.at.returns-clause-adds g c).After-renew_cancel in
    subst (λ (x : Life). Adds (limits_on c.args.words.now (g.L.PendingList.listing c.args.list.now)) c.args.seat.now (Reuse c.args.irp (record { 0 = x.0 + 1 }) ∷ []) (g.L.PendingList.listing c.renew.new.self) c.begin_next.new.self c.renew_cancel.new.self) (sym (life_is g d))
    (reuse_adds c.requires.entered c.args.irp c.look.result (set' g d) (few g d) c.look.new.self.queue.trace c.look.new.self c.renew_status.new.self c.renew_cancel.new.self c.look.ensures.step (two g d) (three g d) (c.renew_cancel.new.self.queue.trace, c.renew_cancel.ensures.agreed.call.agreed) c.look.ensures.agreed.call.agreed (g.L.PendingList.listing c.renew.new.self) c.begin_next.new.self c.requires.known c.renew.ensures c.begin_next.ensures)

pub returns-clause-steps : goal.returns-clause-steps
returns-clause-steps g c =
    let d = (goal.at.returns-clause-steps g c).After-renew_cancel in
    reuse_makes c.requires.entered c.args.irp c.look.result (set' g d) (few g d) c.look.new.self.queue.trace c.look.new.self c.renew_status.new.self c.renew_cancel.new.self c.look.ensures.step (two g d) (three g d)
    (record { 0 = c.status_read-status.result.0.0 + 1 }) (λ k. record { 0 = (life_is g d k).0 + 1 })
