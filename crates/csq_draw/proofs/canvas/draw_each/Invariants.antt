use Rattle.std.proofs.Common.{◌<◌, ℕ, List, length, take, OnOk}
use Rattle.csq_draw.proofs.Imports.{Drew, each}
use Rattle.csq_draw.specs.declared.element.Element.{Element}
use Rattle.csq_draw.proofs.canvas.draw_each.Given as goal

-- if a call draws the elements of its item, those so far were drawn
abbrev pub invariant-loop-n : goal.invariant-loop-n
invariant-loop-n g l = (elements : ℕ → _ → List Element)
    → ((n : ℕ) (x : _) (before : _) (r : _) (after : _) → n < length l.items → goal.F-post g l.draw n x before r after → OnOk r (Drew g.C.Canvas.added (g.C.Canvas.image before.now) (g.C.Canvas.image after.now) (elements n x)))
    → Drew g.C.Canvas.added (g.C.Canvas.image l.fn.out) (g.C.Canvas.image l.out) (each elements 0 (take l.n l.items))
