use Rattle.std.proofs.Common.{refl, ◌∙◌, arith, ◌∷◌, []}
use Rattle.csq_replay.proofs.Imports.{Nothing, Out, same_irp-refl, same_pass-refl, present_of, doing}
use Rattle.csq_words.specs.declared.views.Event.TheVariants as event
use Rattle.csq_replay.proofs.Going.{starts, may_out, present_is, made_as, may_as}
use Rattle.csq_replay.proofs.Calling.{owed_there, out_keeps, irps_are}
use Rattle.csq_replay.proofs.script.driver.Driver.run_routine.Goals as goal

pub present-name-requires : goal.present-name-requires
present-name-requires g c = let (l, s, k, known, owed) = c.requires in omega (arith, known, irps_are l _ s k)

pub make-requires : goal.make-requires
make-requires g c =
    let (l, s, k, known, owed) = c.requires in
    let e = c.present-name.ensures s.run k.agrees ∙ present_is l _ s k c.args.irp in
    may_as _ Out _ _ e (may_out _ s.run Nothing (starts l _ s k) (present_of s c.args.irp) refl (omega (arith, known, irps_are l _ s k)) owed)

pub remove-requires : goal.remove-requires
remove-requires g c = let (l, s, k, known, owed) = c.requires in owed_there l _ s k c.args.irp owed

pub finish-requires : goal.finish-requires
finish-requires g c =
    let (l, s, k, known, owed) = c.requires in
    let i = present_of s c.args.irp in
    let e = c.present-name.ensures s.run k.agrees ∙ present_is l _ s k c.args.irp in
    let made = (made_as _ _ s.run Out _ i e (c.make.ensures.made s.run k.agrees)).0 in
    (l, doing (Out i ∷ []) (event.Out i) s, out_keeps l _ s k c.args.irp _ made c.make.ensures.size _ c.remove.ensures, known, rw (same_irp-refl, same_pass-refl) refl)

pub returns : goal.returns
returns g c = λ l s k.
    let i = present_of s c.args.irp in
    let e = c.present-name.ensures s.run k.agrees ∙ present_is l _ s k c.args.irp in
    let made = (made_as _ _ s.run Out _ i e (c.make.ensures.made s.run k.agrees)).0 in
    let out = out_keeps l _ s k c.args.irp _ made c.make.ensures.size _ c.remove.ensures in
    rw c.cancelled.ensures at (c.finish.ensures l (doing (Out i ∷ []) (event.Out i) s) out)
