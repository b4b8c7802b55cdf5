use Rattle.std.proofs.Common.{◌∙◌, arith}
use Rattle.csq_draw.proofs.Imports.{fresh_irps}
use Rattle.csq_draw.proofs.Known.{after-step}
use Rattle.csq_draw.proofs.RowElements.{drew_row}
use Rattle.csq_draw.proofs.row_picture.draw_rows.Goals as goal

pub loop-row-preserved : goal.loop-row-preserved
loop-row-preserved g c =
    let k = c.loop-row.row-index in
    let rows = c.args.rows.now in
    let fresh = fresh_irps c.args.irps.now in (
      drew_row c.args.passes.now c.args.irps.now g.C.Canvas.added fresh _ rows k _ _ _ _ (omega arith) (c.deref.ensures.value ∙ c.loop-row.invariant.1) c.loop-row.invariant.0 c.in_ok-draw_next.ensures,
      after-step fresh _ _ rows k _ (omega arith) c.note_next.ensures c.loop-row.invariant.1,
    )
