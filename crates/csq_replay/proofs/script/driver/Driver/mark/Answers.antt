use Rattle.std.proofs.Common.{refl, sym, ap, ◌∙◌, arith}
use Rattle.csq_replay.proofs.Imports.{not-true, not-false, Size, same_irp, Nothing, Cancelling, Flag, Mark, next_step}
use Rattle.csq_replay.proofs.Going.{starts, went, may_flag, may_take, present_is, present_named, name_present}
use Rattle.csq_replay.proofs.Calling.{mark_keeps, unknown_keeps, stale_keeps}
use Rattle.csq_replay.proofs.script.driver.Driver.mark.Goals as goal

pub returns-then-not-is_known : goal.returns-then-not-is_known
returns-then-not-is_known g c = λ l s k. unknown_keeps l _ s k (Mark c.args.name) c.args.name.irp refl (λ known. let t = c.is_known.ensures.1 known in cc)

pub returns-then-ne : goal.returns-then-ne
unfolding same_irp
returns-then-ne g c = λ l s k.
    let other = not-true (same_irp c.present-present.result c.args.name) (sym c.ne.ensures ∙ c.if-ne.true) in
    stale_keeps l _ s k (Mark c.args.name) c.args.name refl (c.is_known.ensures.0 c.if-not-is_known.false) c.present-present.result (c.present-present.ensures s.run k.agrees ∙ present_is l _ s k c.args.name.irp) other

pub make-requires : goal.make-requires
unfolding same_irp
make-requires g c =
    let (l, s, k) = c.requires in
    let same = not-false (same_irp c.present-present.result c.args.name) (sym c.ne.ensures ∙ c.if-ne.false) in
    let now = present_named l _ s k c.present-present.result c.args.name (c.present-present.ensures s.run k.agrees) same in
    may_flag _ s.run Nothing (starts l _ s k) c.args.name refl (c.is_known.ensures.0 c.if-not-is_known.false) (name_present l _ s k c.args.name now)

pub make-requires-2 : goal.make-requires-2
make-requires-2 g c =
    let (l, s, k) = c.requires in
    let flagged = c.make.ensures.made s.run k.agrees in
    may_take _ (next_step s.run (Flag c.args.name)) (Cancelling c.args.name) (went _ s.run Nothing (starts l _ s k) _ (Flag c.args.name) flagged.0 c.make.ensures.size) c.args.name refl (omega (arith, c.is_known.ensures.0 c.if-not-is_known.false, ap (λ (n : Size). n.irps) c.make.ensures.size))

pub returns : goal.returns
unfolding same_irp
returns g c = λ l s k.
    let same = not-false (same_irp c.present-present.result c.args.name) (sym c.ne.ensures ∙ c.if-ne.false) in
    let now = present_named l _ s k c.present-present.result c.args.name (c.present-present.ensures s.run k.agrees) same in
    let flagged = c.make.ensures.made s.run k.agrees in
    let taken = c.make-2.ensures.made (next_step s.run (Flag c.args.name)) flagged.0 in
    mark_keeps l _ s k c.args.name (c.is_known.ensures.0 c.if-not-is_known.false) now _ taken.1 _ taken.0 (c.make-2.ensures.size ∙ c.make.ensures.size)
