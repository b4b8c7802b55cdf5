use Rattle.std.proofs.Common.{◌-◌, sym, subst, rules}
use Rattle.csq_queue.proofs.Imports.{CANCELLED, pass_record, IsPassSeatOf, OpenPassState, Holds}
use Rattle.csq_queue.proofs.Opening.{own_pass, pass_on}
use Rattle.csq_queue.proofs.Passing.{done_some, done_pass, done_none}
use Rattle.csq_queue.proofs.open.pass.OpenPass.complete_cancelled.Given.{Over}
use Rattle.csq_queue.proofs.open.pass.OpenPass.complete_cancelled.Goals as goal
use Rattle.csq_queue.proofs.open.pass.OpenPass.complete_cancelled.Goals.{After-done}

-- what the pass held and owed as the call began
own : (g : Over) (c : After-done g) → IsPassSeatOf c.args.words.now.table c.args.words.now.size.irps c.args.words.now.size.passes c.self.inside.seat c.self.inside.number c.self.inside.tokens c.self.inside.claims
own g c = pass_on c.self.inside.seat c.self.inside.irps c.self.inside.passes c.self.inside.number c.self.inside.tokens c.self.inside.claims c.args.words.now c.args.self.now c.self.view_is c.requires.pass c.self.invariant.0

holds : (g : Over) (c : After-done g) → Holds c.args.words.now.size.irps (pass_record c.self.inside.seat) c.args.irp
holds g c = subst (λ (z : OpenPassState). Holds c.args.words.now.size.irps z.pass c.args.irp) (sym c.self.view_is) (record { known = search rules; held = c.requires.held.held })

pub overflow_sub-self : goal.overflow_sub-self
overflow_sub-self g c = let d = (goal.at.overflow_sub-self g c).After-done in done_some c.args.words.now.size c.done.new.self (own g d) CANCELLED (holds g d)

pub invariant_of-self : goal.invariant_of-self
invariant_of-self g c =
    let d = (goal.at.invariant_of-self g c).After-done in (
      own_pass c.done.new.self c.self.inside.irps c.self.inside.passes c.self.inside.number (c.self.inside.tokens - 1) c.self.inside.claims c.args.words.now c.args.self.now (search rules) c.requires.pass
          (done_pass c.args.words.now.size c.done.new.self (own g d) CANCELLED (holds g d) (search rules)),
      c.self.invariant.1,
    )

pub returns-clause-call : goal.returns-clause-call
returns-clause-call g c =
    let d = (goal.at.returns-clause-call g c).After-done in
    record { step = search rules; unset = search rules; none_held = done_none c.args.words.now.size c.done.new.self (own g d) CANCELLED (holds g d) (search rules) }
