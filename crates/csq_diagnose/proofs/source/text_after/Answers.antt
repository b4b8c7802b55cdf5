use Rattle.std.proofs.Common.{ap, sym, ◌∙◌, arith}
use Rattle.csq_diagnose.proofs.Imports.{words_left}
use Rattle.csq_diagnose.proofs.Walking.{left_after, none_left_after}
use Rattle.csq_diagnose.proofs.source.text_after.Goals as goal
use Rattle.csq_diagnose.proofs.source.text_after.Goals.{in-Some, in-None}

pub loop-preserved : goal.loop-preserved
loop-preserved c =
    let inv = c.loop.invariant in
    let n = c.loop.counter in
    elim c.match-text.branch [
      | in-Some w ↦
          let before = sym inv.words ∙ ap words_left w.in-Some.is in
          record {
            words = ap words_left w.text-is ∙ sym (left_after c.args.line.now w.in-Some.left.now w.split_piece.result.0.now w.split_piece.result.1 n before w.split_piece.ensures.pieces);
            short = λ x e.
                let shorter = w.split_piece.ensures.shorter x (sym w.text-is ∙ e) in
                let short = inv.short w.in-Some.left w.in-Some.is in
                omega (arith, shorter, short);
          }
      | in-None w ↦
          record {
            words = ap words_left w.text-is ∙ sym (none_left_after n _ (sym inv.words ∙ ap words_left w.in-None.is));
            short = λ x e. absurd (cc (w.text-is, e));
          }
    ]
