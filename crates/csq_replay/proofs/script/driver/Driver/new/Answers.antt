use Rattle.std.proofs.Common.{◌≡◌, Some, None, ℕ, refl, ◌∙◌, ap, arith, List, Option, replicate, length}
use Rattle.csq_replay.proofs.Imports.{slice_index_or, get_or-replicate, length-replicate, Size, FileId, NtStatus}
use Rattle.csq_replay.proofs.script.driver.Driver.new.Goals as goal

pub returns : goal.returns
returns g c =
    let size_of_irps : ℕ → Size = λ n. record { irps = n; passes = 1; first = 0 } in
    let none : Option NtStatus = None in
    let nones : c.in_ok-vec.field-0.items ≡ replicate c.irps-irps.result none = c.in_ok-vec.ensures.items_if_clones_equal (elim [ None ↦ λ e. refl | Some y ↦ λ e. absurd e ]) in
    let file : FileId = record { 0 = 0 } in
    let files : c.in_ok-vec-2.field-0.items ≡ replicate c.irps-irps.result file = c.in_ok-vec-2.ensures.items_if_clones_equal (λ x e. e) in (
      record {
        agrees = c.in-Ok.ensures.agrees;
        size = c.in-Ok.ensures.size ∙ ap size_of_irps c.irps-irps.ensures;
        few = c.requires.irps.1;
        listing = c.requires.fresh;
        queue = record { lives = λ n. refl; used = λ i. refl; entries = λ i. refl; flags = λ i. refl; marks = tt };
        outside = refl;
        reported = λ i none. refl;
        statuses = λ n known. ap (λ (xs : List (Option NtStatus)). slice_index_or xs n.0 none) nones ∙ get_or-replicate c.irps-irps.result n.0 none none (omega (arith, known, c.irps-irps.ensures));
        statuses_size = ap length nones ∙ length-replicate c.irps-irps.result none ∙ c.irps-irps.ensures;
        files = λ n known. ap (λ (xs : List FileId). slice_index_or xs n.0 file) files ∙ get_or-replicate c.irps-irps.result n.0 file file (omega (arith, known, c.irps-irps.ensures));
        files_size = ap length files ∙ length-replicate c.irps-irps.result file ∙ c.irps-irps.ensures;
      },
      λ i held. absurd cc,
    )
