use Rattle.std.proofs.Common.{ap, length, refl}
use Rattle.csq_draw.proofs.Imports.{Size}
use Rattle.csq_draw.proofs.Showing.{shows_none}
use Rattle.csq_draw.proofs.drawing.Drawing.new.Goals as goal

pub returns : goal.returns
returns g c =
    let size : Size = record { irps = c.args.irps; passes = c.args.passes; first = 0 } in
    let empty = c.new-4.ensures.items in (
      record {
        follows = c.in_ok-new.ensures;
        rows = empty;
        owned = (shows_none size _ c.in_ok-new_owners.ensures).shown_owners;
        all = c.in_ok-new-2.ensures;
        numbered = ap length empty;
        since = refl;
        kept = λ none. (refl, refl);
      },
      refl,
    )
