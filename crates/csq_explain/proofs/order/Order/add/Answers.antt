use Rattle.std.proofs.Common.{◌<◌, ◌∙◌, sym, arith}
use Rattle.irp_core.specs.Steps.{number}
use Rattle.csq_explain.specs.Orders.{irps_in}
use Rattle.csq_explain.proofs.Orders.{known_named, stands_named}
use Rattle.csq_explain.proofs.order.Order.add.Goals as goal

pub returns-in_ok-add_named-in-Some : goal.returns-in_ok-add_named-in-Some
returns-in_ok-add_named-in-Some g c = λ irps V stands.
    let name = c.in-Some.name in
    let named = sym c.name.ensures ∙ c.in-Some.is in
    let known : number name < irps_in c.args.self.now = known_named (irps_in c.args.self.now) c.args.step.made.kind name named c.requires in
    let kept = c.in_ok-add_named-in-Some.ensures in
    stands_named c.args.self.now irps V c.args.step stands name _ named (omega (arith, known, stands.count)) c.add_named.new.self kept.records kept.harms
