use Rattle.std.proofs.Common.{◌∷◌, ◌∙◌, ap, sym, refl, subst, arith, length, Vec}
use Rattle.csq_explain.proofs.Imports.{MachineState, Agrees, size_of, Size, Skipped, Accepted, Stopped, Numbered, run_of, all_passes, comes_of_size, IsStatusAfter, reason_by, reason_of}
use Rattle.csq_explain.specs.declared.execution.Explained.TheVariants as explained
use Rattle.csq_explain.proofs.Following.{length-passes, passes_noted, noted_inside, reported_in_call}
use Rattle.csq_explain.proofs.MovedIrps.{irps_noted}
use Rattle.csq_explain.proofs.Statuses.{status_is}
use Rattle.csq_explain.proofs.execution.Execution.handle.Goals as goal

pub note_pass-inside-requires : goal.note_pass-inside-requires
note_pass-inside-requires g c =
    let (size, W, a) = c.requires in
    let comes = (c.in-Accepted.ensures.comes (run_of W) a.agrees).0 in
    let to = comes.1.known.0.to in
    omega (arith, to, ap (λ (n : Size). n.passes) a.same, ap length a.passes, length-passes size W)

pub returns-in-Skipped : goal.returns-in-Skipped
returns-in-Skipped g c = λ size W a.
    let comes = c.in-Skipped.ensures.comes (run_of W) a.agrees in
    (Skipped, comes_of_size _ _ (run_of W) c.args.line.bytes.now Skipped a.same comes.0, refl, record { same = c.in-Skipped.ensures.size ∙ a.same; limits = a.limits; agrees = comes.1; passes = a.passes; irps = a.irps })

pub returns-in-Accepted : goal.returns-in-Accepted
returns-in-Accepted g c = λ size W a.
    let made = c.in-Accepted.made in
    let w : Numbered = record { line = c.args.line.number; step = made } in
    let known = c.in-Accepted.ensures.comes (run_of W) a.agrees in
    let comes = comes_of_size _ _ (run_of W) c.args.line.bytes.now (Accepted made) a.same known.0 in
    let to = comes.1.known.0.to in
    let M : MachineState → Type 0 = λ m. Agrees m (made ∷ run_of W) in
    let agrees = subst M (sym c.note_pass-inside.ensures.machine) known.1 in
    let same = ap size_of c.note_pass-inside.ensures.machine ∙ c.in-Accepted.ensures.size ∙ a.same in
    let P : Size → Type 0 = λ n. IsStatusAfter n (made ∷ run_of W) made.kind c.status_after-status.result in
    let status = status_is size made.pass made.found (run_of W) made.kind comes.1 c.status_after-status.result (subst P same (c.status_after-status.ensures (made ∷ run_of W) agrees)) in
    let inside = noted_inside size W w to _ a.passes c.note_pass-inside.result c.note_pass-inside.ensures.inside in (
      Accepted made,
      comes,
      ap explained.Accepted (reported_in_call (run_of W) made c.note_pass-inside.result c.status_after-status.result inside status),
      record {
        same = same;
        limits = a.limits;
        agrees = agrees;
        passes = passes_noted size W w to _ a.passes _ c.note_pass-inside.ensures.passes;
        irps = irps_noted size W w comes.1.known.0.irp _ _ (ap (λ (v : Vec _ _). v.items) c.note_pass-inside.ensures.irps ∙ a.irps) c.note_irp.ensures;
      },
    )

pub returns-in-Stopped : goal.returns-in-Stopped
returns-in-Stopped g c = λ size W a.
    let stop = c.in-Stopped.stop in
    let comes = c.in-Stopped.ensures.comes (run_of W) a.agrees in (
      Stopped stop,
      comes_of_size _ _ (run_of W) c.args.line.bytes.now (Stopped stop) a.same comes.0,
      ap explained.Stopped (c.reason.ensures ∙ ap (λ n. reason_by n c.args.self.now.passes.items c.args.self.now.irps.items stop) (c.in-Stopped.ensures.size ∙ a.same)
          ∙ ap (λ ps. reason_by size ps c.args.self.now.irps.items stop) a.passes ∙ ap (λ is. reason_by size (all_passes size W) is stop) a.irps),
      record { same = c.in-Stopped.ensures.size ∙ a.same; limits = a.limits; agrees = comes.1; passes = a.passes; irps = a.irps },
    )
