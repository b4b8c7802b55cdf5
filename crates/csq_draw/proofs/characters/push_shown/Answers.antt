use Rattle.std.proofs.Common.{◌++◌, map, sym, ap, ◌∙◌, map-id}
use Rattle.std.proofs.lemmas.Iterator.{YieldsList-from_chars}
use Rattle.std.proofs.lemmas.Iterator.Consumers.{YieldsList-end}
use Rattle.csq_draw.specs.Characters.{shown}
use Rattle.csq_draw.proofs.characters.push_shown.Goals as goal

pub returns : goal.returns
returns g c =
    let end = YieldsList-end (YieldsList-from_chars c.args.text.now c.utf8.text cc) c.loop-character.yielded _ c.loop-character.yielded_by _ _ c.in-None.is c.next.ensures.steps in
    c.loop-character.invariant ∙ ap (λ t. c.args.to.now.items ++ map shown t) (sym (map-id c.loop-character.yielded) ∙ end.0)
